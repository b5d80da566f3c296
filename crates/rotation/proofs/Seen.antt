-- The mask of the cards seen: n seats whose mask has all n bits are a rotation. Assumes nothing.
use Prim.Native.Nat.{ℕ, zero, suc, ◌+◌, ◌*◌, ◌/◌, ◌%◌, ◌^◌, ◌≤◌, ◌<◌}
use mathlib.Core.Path.{◌≡◌, refl, sym, ap, ◌∙◌}
use mathlib.Core.Logic.{◌⊎◌, inl, inr, ⊎_elim}
use mathlib.Core.List.{List, [], ◌∷◌}
use mathlib.Core.Bool.{Bool, true, false, cond, true≢false}
use native.Mathlib.Nat.{pow-suc}
use native.Mathlib.Omega.{arith}
use lib.Arith.{mod-mul}
use lib.Pow.{pow_pos}
use lib.Count.{count_trailing_zeros}
use lib.Dec.{eqb, leb, ltb}
use lib.ListN.{length}
use borrow.Author.Tests.{eqb-true, eqb-false, eq-eqb, lt-ltb, ltb-true, ltb-false, le-leb, leb-true}
use Rattle.apollo.specs.Masks.{bit, set_bit}
use Rattle.apollo.specs.Rotation.{seats, is_rotation}
use Rattle.std.specs.Int.{bit_at, trailing_ones, w16}
use Rattle.std.proofs.lemmas.Nat.Bits.{bit_at_ones, bit_at-trailing_ones}
use Rattle.apollo.proofs.Masks.{bit_shift, bit_zero, bit_set_same, bit_set_other, bit_kept}
use Rattle.apollo.proofs.Rotation.{none_lacks, lacks_none}
use Rattle.apollo.proofs.Tests.{by_cond}
use Rattle.rotation.specs.Seen.{with_replica, replicas_seen, all_seen}

-- a card's bit, with one card more
replica_kept : (c m x : ℕ) → bit c m ≡ true → bit c (with_replica m x) ≡ true
unfolding with_replica
replica_kept c m x e = by_cond (λ k. bit c k ≡ true) (ltb x 16) (λ _. bit_kept x c m e) (λ _. e)

replica_set : (c m x : ℕ) → c < 16 → x ≡ c → bit c (with_replica m x) ≡ true
unfolding with_replica
replica_set c m x l e = rw (e, lt-ltb c 16 l) (bit_set_same c m)

replica_back : (c m x : ℕ) → bit c (with_replica m x) ≡ true → (bit c m ≡ true) ⊎ (x ≡ c)
unfolding with_replica
replica_back c m x = by_cond (λ k. bit c k ≡ true → (bit c m ≡ true) ⊎ (x ≡ c)) (ltb x 16) (λ _. go (eqb x c) refl) (λ _ e. inl e)
  where
    go : (b : Bool) → eqb x c ≡ b → bit c (set_bit x m) ≡ true → (bit c m ≡ true) ⊎ (x ≡ c)
    go true d e = inr (eqb-true x c d)
    go false d e = inl (sym (bit_set_other c x m (λ z. eqb-false x c d (sym z))) ∙ e)

-- with the cards of some seats
seen_kept : (c m : ℕ) (xs : List ℕ) → bit c m ≡ true → bit c (replicas_seen m xs) ≡ true
seen_kept c m [] e = e
seen_kept c m (x ∷ xs) e = seen_kept c (with_replica m x) xs (replica_kept c m x e)

seen_set : (c m : ℕ) (xs : List ℕ) → c < 16 → 1 ≤ seats c xs → bit c (replicas_seen m xs) ≡ true
unfolding seats
seen_set c m [] l h = absurd (omega arith)
seen_set c m (x ∷ xs) l h = go (seen_set c (with_replica m x) xs l) (eqb x c) refl h
  where
    go : (1 ≤ seats c xs → bit c (replicas_seen (with_replica m x) xs) ≡ true) → (b : Bool) → eqb x c ≡ b → 1 ≤ cond b 1 0 + seats c xs
        → bit c (replicas_seen (with_replica m x) xs) ≡ true
    go later true d h = seen_kept c (with_replica m x) xs (replica_set c m x l (eqb-true x c d))
    go later false d h = later (omega arith)

seen_back : (c m : ℕ) (xs : List ℕ) → bit c (replicas_seen m xs) ≡ true → (bit c m ≡ true) ⊎ (1 ≤ seats c xs)
unfolding seats
seen_back c m [] e = inl e
seen_back c m (x ∷ xs) e = ⊎_elim (λ b. ⊎_elim inl here (replica_back c m x b)) (λ l. inr (omega arith)) (seen_back c (with_replica m x) xs e)
  where
    here : x ≡ c → (bit c m ≡ true) ⊎ (1 ≤ cond (eqb x c) 1 0 + seats c xs)
    here d = inr (rw (eq-eqb x c d) (omega arith))

-- all bits below n, by a remainder
low_bits : (n m : ℕ) → m % 2 ^ suc n ≡ (m / 2 % 2 ^ n) * 2 + m % 2
low_bits n m = ap (λ k. m % k) (pow-suc 2 n) ∙ mod-mul m {m = 2 ^ n} {c = 2} (pow_pos n) (omega arith)

full_of : (n m : ℕ) → ((c : ℕ) → c < n → bit c m ≡ true) → m % 2 ^ n + 1 ≡ 2 ^ n
unfolding bit
full_of zero m h = omega arith
full_of (suc n) m h =
    let o : m % 2 ≡ 1 = eqb-true (m % 2) 1 (h 0 (omega arith)) in
    let q : m / 2 % 2 ^ n + 1 ≡ 2 ^ n = full_of n (m / 2) (λ c l. h (suc c) (omega arith)) in
    omega (arith, low_bits n m, pow-suc 2 n)

full_at : (n m : ℕ) → m % 2 ^ n + 1 ≡ 2 ^ n → (c : ℕ) → c < n → bit c m ≡ true
unfolding bit
full_at zero m e c l = absurd (omega arith)
full_at (suc n) m e zero l = eq-eqb (m % 2) 1 (omega (arith, low_bits n m, pow-suc 2 n))
full_at (suc n) m e (suc c) l = full_at n (m / 2) (omega (arith, low_bits n m, pow-suc 2 n)) c (omega arith)

both_ways : (a b : Bool) → (a ≡ true → b ≡ true) → (b ≡ true → a ≡ true) → a ≡ b
both_ways true b h k = sym (h refl)
both_ways false true h k = k refl
both_ways false false h k = refl

-- all n bits are set where no lower one is missing
none_lower : (n m t : ℕ) → bit_at m t ≡ 0 → ((c : ℕ) → c < n → bit c m ≡ true) → n ≤ t
none_lower n m t z f = past (ltb t n) refl
  where
    past : (b : Bool) → ltb t n ≡ b → n ≤ t
    past false e = ltb-false t n e
    past true e = absurd (true≢false (sym (f t (ltb-true t n e)) ∙ bit_shift t m ∙ ap (λ k. eqb k 1) z))

pub low_ones : (n m : ℕ) → m < 2 ^ 16 → n ≤ 16 → leb n (trailing_ones w16 m) ≡ all_seen n m
unfolding all_seen count_trailing_zeros
low_ones n m l h = by (eqb (m + 1) (2 ^ 16)) refl
  where
    by : (b : Bool) → eqb (m + 1) (2 ^ 16) ≡ b → leb n (trailing_ones w16 m) ≡ eqb (m % 2 ^ n + 1) (2 ^ n)
    by true e =
        let q : m ≡ 65535 = omega (arith, eqb-true (m + 1) (2 ^ 16) e) in
        let t : trailing_ones w16 m ≡ 16 = ap (trailing_ones w16) q in
        le-leb n (trailing_ones w16 m) (omega arith)
        ∙ sym (eq-eqb _ _ (full_of n m (λ c b. bit_shift c m ∙ eq-eqb _ _ (ap (λ k. bit_at k c) q ∙ bit_at_ones 16 c (omega arith)))))
    by false e =
        let d : m + 1 ≡ 2 ^ 16 → ⊥ = eqb-false (m + 1) (2 ^ 16) e in
        let k = bit_at-trailing_ones w16 m (omega arith) in
        both_ways (leb n (trailing_ones w16 m)) (eqb (m % 2 ^ n + 1) (2 ^ n))
        (λ a. eq-eqb _ _ (full_of n m (λ c b. bit_shift c m ∙ eq-eqb _ _ (k.2 c (omega (arith, leb-true n (trailing_ones w16 m) a))))))
        (λ a. le-leb n (trailing_ones w16 m) (none_lower n m (trailing_ones w16 m) k.1 (full_at n m (eqb-true _ _ a))))

-- n seats, no more than there are bits
pub all_rotation : (n : ℕ) (xs : List ℕ) → length xs ≡ n → n ≤ 16 → all_seen n (replicas_seen 0 xs) ≡ is_rotation n xs
unfolding all_seen
all_rotation n xs e l =
    both_ways (eqb (replicas_seen 0 xs % 2 ^ n + 1) (2 ^ n)) (is_rotation n xs)
    (λ a. none_lacks n xs e (λ c m. ⊎_elim (λ z. absurd (true≢false (sym z ∙ bit_zero c))) (λ h. h)
    (seen_back c 0 xs (full_at n (replicas_seen 0 xs) (eqb-true _ _ a) c m))))
    (λ r. eq-eqb _ _ (full_of n (replicas_seen 0 xs) (λ c m. seen_set c 0 xs (omega arith) (lacks_none n xs r c m))))
