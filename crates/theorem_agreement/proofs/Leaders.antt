-- n rounds in a row have different leaders, whatever the rotation; so where at most f replicas are not correct, one of f + 1 rounds in
-- a row has a correct one. Assumes nothing.
use Prim.Native.Nat.{ℕ, suc, ◌+◌, ◌-◌, ◌/◌, ◌%◌, ◌≤◌, ◌<◌}
use mathlib.Core.Path.{◌≡◌, refl, sym, ap, ◌∙◌}
use mathlib.Core.Logic.{inl, inr, ◌≢◌}
use mathlib.Core.Bool.{Bool, true, false, not}
use native.Mathlib.Nat.{div-add-mod', mod-lt, mul-le-mul_right, suc-mul}
use native.Mathlib.Omega.{arith}
use lib.Dec.{leb, ltb}
use lib.ListN.{get_or}
use borrow.Author.Tests.{leb-true, leb-false, ltb-true, ltb-false, not-false}
use Rattle.apollo.specs.declared.Setup.{Setup}
use Rattle.apollo.specs.Setup.{replicas, leader, valid_rotation}
use Rattle.apollo.specs.Masks.{count}
use Rattle.apollo.proofs.Rotation.{seats_differ, seated, seat, leader_low}
use Rattle.theorem_agreement.specs.Claim.{LeadersDiffer}
use Rattle.theorem_agreement.proofs.Counts.{more, spread, Row, row}

-- two of n rounds in a row have different seats
apart_mod : (n a d : ℕ) → 0 < d → d < n → a % n ≢ (a + d) % n
apart_mod n a d pos low e = go (leb ((a + d) / n) (a / n)) refl
  where
    go : (b : Bool) → leb ((a + d) / n) (a / n) ≡ b → ⊥
    go true t =
        omega (arith, div-add-mod' a n, div-add-mod' (a + d) n, mul-le-mul_right {m = (a + d) / n} {n = a / n} n (leb-true _ _ t), e)
    go false t =
        omega (
          arith,
          div-add-mod' a n,
          div-add-mod' (a + d) n,
          mul-le-mul_right {m = suc (a / n)} {n = (a + d) / n} n (leb-false _ _ t),
          suc-mul (a / n) n,
          e,
        )

-- two seats of a valid rotation have different cards
module _ (s : Setup) (v : valid_rotation s ≡ true) where
  apart : (j k : ℕ) → j ≢ k → j < replicas s → k < replicas s → get_or s.rotation j 0 ≢ get_or s.rotation k 0
  apart j k ne a b e = go (ltb j k) refl
    where
      go : (t : Bool) → ltb j k ≡ t → ⊥
      go true t = seats_differ (replicas s) _ (seated s v) j k (ltb-true j k t) b (seat s v j a ∙ e ∙ sym (seat s v k b))
      go false t =
          let l : k ≤ j = ltb-false j k t in
          seats_differ (replicas s) _ (seated s v) k j (omega arith) a (seat s v k b ∙ sym e ∙ sym (seat s v j a))

-- The only two laws about leaders that the proof of demand 3 uses: n rounds in a row have different ones, and each is a replica's number
-- (`leader_low`).
pub leaders_differ : LeadersDiffer
unfolding leader
leaders_differ s v r q one lt near =
    apart s v ((r - 1) % replicas s) ((q - 1) % replicas s)
    (λ e. apart_mod (replicas s) (r - 1) (q - r) (omega arith) (omega arith) (e ∙ ap (λ k. k % replicas s) (omega arith)))
    (mod-lt (r - 1) (omega arith)) (mod-lt (q - 1) (omega arith))

module _ (s : Setup) (correct : ℕ → Bool) (mostly : count (replicas s) (λ i. not (correct i)) ≤ s.f) where
  -- more than f marks among the n replicas: a correct one has one
  pub correct_mark : (p : ℕ → Bool) → s.f + 1 ≤ count (replicas s) p
      → (i : ℕ) × (i < replicas s) × (p i ≡ true) × (correct i ≡ true)
  correct_mark p h =
      let r : (i : ℕ) × (i < replicas s) × (p i ≡ true) × (not (correct i) ≡ false) =
      more (replicas s) p (λ i. not (correct i)) (omega arith) in
      (r.0, r.1, r.2, not-false _ r.3)

  -- of the f + 1 rounds from r on one has a correct leader
  pub correct_round : valid_rotation s ≡ true → (r : ℕ) → 1 ≤ r → (q : ℕ) × (r ≤ q) × (q ≤ r + s.f) × (correct (leader s q) ≡ true)
  correct_round v r one = go (row (λ q. correct (leader s q)) r (suc s.f))
    where
      others : ((q : ℕ) → r ≤ q → q < r + suc s.f → correct (leader s q) ≡ false) → suc s.f ≤ count (replicas s) (λ i. not (correct i))
      others h =
          spread (suc s.f) (replicas s) (λ i. leader s (r + i)) (λ i. not (correct i)) (λ i l. leader_low s v (r + i))
          (λ i l. ap not (h (r + i) (omega arith) (omega arith)))
          (λ i j a b. leaders_differ s v (r + i) (r + j) (omega arith) (omega arith) (omega arith))

      go : Row (λ q. correct (leader s q)) r (suc s.f) → (q : ℕ) × (r ≤ q) × (q ≤ r + s.f) × (correct (leader s q) ≡ true)
      go (inl h) = (h.0, h.1, omega (arith, h.2), h.3)
      go (inr h) = absurd (omega (arith, others h))
