-- Checks that are made ahead of their frames' turn. Assumes nothing.
use Rattle.std.proofs.Common.{◌≡◌, refl, sym, ap, ◌∙◌, Bool, false, List, [], ◌∷◌, ℕ, zero, suc, ◌<◌, ◌≤◌, length, get_or, map, take, drop, arith}
use borrow.Author.Tests.{lt-ltb, le-ltb}
use Rattle.std.specs.Simd.{first_chunks}
use Rattle.sha256.specs.Fips.{sha256}
use Rattle.apollo.specs.Size.{frame_size}
use Rattle.apollo.specs.Frame.{frames, checked}
use Rattle.frame_checks.specs.Ahead.{checked_at, checks_of, Known, with_check}

-- whole frames, as the code cuts them
pub frames_cut : (n : ℕ) (b : List ℕ) → first_chunks frame_size n b ≡ frames n b
unfolding frames
frames_cut zero b = refl
frames_cut (suc n) b = ap (λ (xs : List (List ℕ)). take frame_size b ∷ xs) (frames_cut n (drop frame_size b))

-- a frame that is there
pub there : (xs : List (List ℕ)) (k : ℕ) → k < length xs → checked_at xs k ≡ checked sha256 (get_or xs k [])
unfolding checked_at
there xs k h = rw (lt-ltb k (length xs) h)

-- and one that is not
pub missing : (xs : List (List ℕ)) (k : ℕ) → length xs ≤ k → false ≡ checked_at xs k
unfolding checked_at
missing xs k h = rw (le-ltb k (length xs) h)

-- the checks of the first four
pub four : (xs : List (List ℕ)) {p q r s : Bool} → p ≡ checked_at xs 0 → q ≡ checked_at xs 1 → r ≡ checked_at xs 2
    → s ≡ checked_at xs 3 → p ∷ q ∷ r ∷ s ∷ [] ≡ checks_of xs
unfolding checks_of
four xs e0 e1 e2 e3 = rw (e0, e1, e2, e3)

-- are known of as many as are there
pub known_four : (a : List Bool) (xs : List (List ℕ)) → a ≡ checks_of xs → Known a xs
unfolding checks_of
known_four a xs e k h l = rw e (at k (rw e at h) l)
  where
    at : (k : ℕ) → k < 4 → k < length xs → get_or (checks_of xs) k false ≡ checked sha256 (get_or xs k [])
    at zero h l = there xs 0 l
    at (suc zero) h l = there xs 1 l
    at (suc (suc zero)) h l = there xs 2 l
    at (suc (suc (suc zero))) h l = there xs 3 l
    at (suc (suc (suc (suc k)))) h l = absurd (omega arith)

-- the frame x has its turn: b is its check, and the others' are known as before
module _ (a : List Bool) (fs : List (List ℕ)) (b : Bool) (bs : List Bool) (x : List ℕ) (xs : List (List ℕ))
    (right : Known a fs) (d : a ≡ b ∷ bs) (e : fs ≡ x ∷ xs) where
  pub turn : map with_check fs ≡ (x, b) ∷ map with_check xs
  turn =
      let q : b ≡ checked sha256 x = (rw (d, e) at right) 0 (omega arith) (omega arith) in
      rw (e, q)

  pub known_next : Known bs xs
  known_next k l m = (rw (d, e) at right) (suc k) (omega arith) (omega arith)

-- for callers: what a frame that is given says of those that were left, and that none is given
pub given_first : (xs ys : List (List ℕ)) (x : List ℕ) (b : Bool) → map with_check xs ≡ (x, b) ∷ map with_check ys
    → (xs ≡ x ∷ ys) × (b ≡ checked sha256 x)
given_first xs ys x b e =
    (sym (fronts xs) ∙ ap (map (λ (p : List ℕ × Bool). p.0)) e ∙ ap (λ (zs : List (List ℕ)). x ∷ zs) (fronts ys), check xs e)
  where
    fronts : (zs : List (List ℕ)) → map (λ (p : List ℕ × Bool). p.0) (map with_check zs) ≡ zs
    fronts [] = refl
    fronts (z ∷ zs) = ap (λ (rest : List (List ℕ)). z ∷ rest) (fronts zs)

    check : (zs : List (List ℕ)) → map with_check zs ≡ (x, b) ∷ map with_check ys → b ≡ checked sha256 x
    check [] p = cc
    check (z ∷ zs) p =
        let h : with_check z ≡ (x, b) = ap (λ (l : List (List ℕ × Bool)). get_or l 0 (x, b)) p in
        sym (ap (λ (q : List ℕ × Bool). q.1) h) ∙ ap (λ (q : List ℕ × Bool). checked sha256 q.0) h

pub given_none : (xs : List (List ℕ)) → map with_check xs ≡ [] → xs ≡ []
given_none [] e = refl
given_none (x ∷ xs) e = cc
