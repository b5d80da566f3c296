-- What a fork shows, with nobody presumed correct: two linked logs hold the same up to every round that both have passed and that is not
-- suspect. Assumes distinct digests.
use Prim.Native.Nat.{ℕ, suc, ◌+◌, ◌≤◌, ◌<◌}
use mathlib.Core.Path.{◌≡◌}
use mathlib.Core.Logic.{◌⊎◌, inl, inr, ◌≢◌}
use mathlib.Core.List.{List}
use mathlib.Core.Bool.{true, false, ◌&&◌, ◌||◌, not}
use native.Mathlib.Omega.{arith}
use borrow.Author.Tests.{not-true, not-false}
use Rattle.apollo.specs.declared.Setup.{Setup}
use Rattle.apollo.specs.Bytes.{same}
use Rattle.apollo.specs.Log.{slot, filled}
use Rattle.apollo.specs.Masks.{certified}
use Rattle.apollo.specs.Enter.{State}
use Rattle.apollo.specs.Suspect.{differing, suspect}
use Rattle.theorem_agreement.specs.Run.{Event, Seen}
use Rattle.theorem_agreement.specs.Premises.{Distinct}
use Rattle.theorem_agreement.proofs.Tests.{clash, either, and-true, or_true, or_false, same_true, same_of}
use Rattle.theorem_agreement.proofs.Counts.{Row, row}
use Rattle.theorem_agreement.proofs.Chain.{agree}
use Rattle.theorem_agreement.proofs.Stored.{Fact, Linked}
use Rattle.theorem_agreement.proofs.Good.{Good, good_certified}

-- two filled slots that do not differ
alike : (x y : List ℕ) → differing x y ≡ false → filled x ≡ true → filled y ≡ true → x ≡ y
unfolding differing
alike x y e p q = go (either (same x y))
  where
    go : (same x y ≡ true) ⊎ (same x y ≡ false) → x ≡ y
    go (inl s) = same_true x y s
    go (inr s) = absurd (clash (rw (p, q, s)) e)

module _ (s : Setup) where
  -- each empty round below R is certified
  abbrev pub Passed : (masks log : List ℕ) (R : ℕ) → Type 0
  Passed masks log R = (q : ℕ) → 1 ≤ q → q < R → filled (slot log q) ≡ false → certified s masks q ≡ true

  -- two logs, each with its masks
  module _ (a m b n : List ℕ) where
    -- why a round is suspect
    pub data Reason (r : ℕ) : Type 0 where
      blocks_differ : filled (slot a r) ≡ true → filled (slot b r) ≡ true → slot a r ≢ slot b r → Reason r
      certified_first : certified s m r ≡ true → Reason r
      certified_second : certified s n r ≡ true → Reason r

    pub reason : (r : ℕ) → suspect s a m b n r ≡ true → Reason r
    unfolding suspect differing
    reason r e = go (or_true (differing (slot a r) (slot b r)) (certified s m r || certified s n r) e)
      where
        by_masks : (certified s m r ≡ true) ⊎ (certified s n r ≡ true) → Reason r
        by_masks (inl c) = certified_first c
        by_masks (inr c) = certified_second c

        go : (differing (slot a r) (slot b r) ≡ true) ⊎ ((certified s m r || certified s n r) ≡ true) → Reason r
        go (inl d) =
            let p = and-true (filled (slot a r) && filled (slot b r)) (not (same (slot a r) (slot b r))) d in
            let q = and-true (filled (slot a r)) (filled (slot b r)) p.0 in
            blocks_differ q.0 q.1 (λ z. clash (same_of z) (not-true _ p.1))
        go (inr c) = by_masks (or_true (certified s m r) (certified s n r) c)

    module _ (past : List Event) (distinct : Distinct past) (t u R S : ℕ) (c : Linked s past m a t) (d : Linked s past n b u)
        (pa : Passed m a R) (pb : Passed n b S) where
      -- a round that is not suspect is filled in both, with the same block
      pub same_to : (r : ℕ) → 1 ≤ r → r < R → r < S → suspect s a m b n r ≡ false → (q : ℕ) → q ≤ r → slot a q ≡ slot b q
      unfolding suspect
      same_to r o la lb e =
          let p = or_false (differing (slot a r) (slot b r)) (certified s m r || certified s n r) e in
          let k = or_false (certified s m r) (certified s n r) p.1 in
          go p.0 k.0 k.1 (either (filled (slot a r))) (either (filled (slot b r)))
        where
          go : differing (slot a r) (slot b r) ≡ false → certified s m r ≡ false → certified s n r ≡ false
              → (filled (slot a r) ≡ true) ⊎ (filled (slot a r) ≡ false) → (filled (slot b r) ≡ true) ⊎ (filled (slot b r) ≡ false)
              → (q : ℕ) → q ≤ r → slot a q ≡ slot b q
          go e x y (inr z) w = absurd (clash (pa r o la z) x)
          go e x y (inl z) (inr w) = absurd (clash (pb r o lb w) y)
          go e x y (inl z) (inl w) =
              agree s.last_round.0 (Fact s past) (λ x. Seen x past) (λ n x f. f.round_is) (λ n x f. f.seen) distinct _ _ (slot a) (slot b) t u c d
              r (inr z) (inr w) (alike (slot a r) (slot b r) e z w)

      -- they hold the same up to round k, or each of the f + 1 rounds from k on is suspect
      pub fork : (k : ℕ) → 1 ≤ k → k + s.f < R → k + s.f < S
          → ((q : ℕ) → q ≤ k → slot a q ≡ slot b q) ⊎ ((r : ℕ) → k ≤ r → r ≤ k + s.f → suspect s a m b n r ≡ true)
      fork k o la lb = go (row (λ r. not (suspect s a m b n r)) k (suc s.f))
        where
          go : Row (λ r. not (suspect s a m b n r)) k (suc s.f)
              → ((q : ℕ) → q ≤ k → slot a q ≡ slot b q) ⊎ ((r : ℕ) → k ≤ r → r ≤ k + s.f → suspect s a m b n r ≡ true)
          go (inl h) =
              inl (λ q l. same_to h.0 (omega (arith, h.1)) (omega (arith, h.2)) (omega (arith, h.2)) (not-true _ h.3) q (omega (arith, h.1)))
          go (inr h) = inr (λ r x y. not-false _ (h r x (omega arith)))

  -- two good states: of one replica or of two, and of two lives if one past has all that came to pass in either (`good_grows`)
  pub good_fork : (past : List Event) → Distinct past → (i j : ℕ) (c d : State) → Good s past i c → Good s past j d → (k : ℕ) → 1 ≤ k
      → k + s.f < c.replica.round.0 → k + s.f < d.replica.round.0
      → ((q : ℕ) → q ≤ k → slot c.log q ≡ slot d.log q)
      ⊎ ((r : ℕ) → k ≤ r → r ≤ k + s.f → suspect s c.log c.masks d.log d.masks r ≡ true)
  good_fork past distinct i j c d g h =
      fork c.log c.masks d.log d.masks past distinct _ _ _ _ g.stored.chain h.stored.chain (good_certified s past i c g)
      (good_certified s past j d h)
