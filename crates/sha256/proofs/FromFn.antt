-- Arrays made by a function of the index. Assumes nothing.
use Rattle.std.proofs.Common.{◌≡◌, ℕ, zero, suc, ◌+◌, ◌≤◌, ◌<◌, List, get_or, length, sym, ◌∙◌, ⊎_elim, eq-or-lt_of_le, arith}
use denote.Param.Members.{Mut, Called}
use Rattle.std.specs.Array.{IsFromFnResult, IsFromFnResultFrom}
use Rattle.std.proofs.lemmas.List.{same_lists}

module _ {F B : Type 0} (g : Mut F (ℕ × Unit {0}) B) (f : F) (v : ℕ → B) (m : ℕ)
    (h : (i : ℕ) (y : B) (q : F) → i < m → Called g f (i, tt) y q → (q ≡ f) × (y ≡ v i)) where
  -- each call leaves f as it is, and gives v of its index
  from_each : (ys : List B) (i n : ℕ) → IsFromFnResultFrom g f ys i n → i + n ≤ m → (k : ℕ) (d : B) → i ≤ k → k < i + n
      → get_or ys k d ≡ v k
  from_each ys i zero r l k d a b = absurd (omega arith)
  from_each ys i (suc n) r l k d a b =
      let p : (r.0 ≡ f) × (r.1 ≡ v i) = h i r.1 r.0 (omega arith) r.3 in
      ⊎_elim
      (λ (e : i ≡ k). rw (← e) (r.2.1 d ∙ p.1))
      (λ (e : i < k). from_each ys (i + 1) n (rw p.0 at r.4) (omega arith) k d (omega arith) (omega arith)) (eq-or-lt_of_le a)

  pub from_fn_is : (ys xs : List B) → length xs ≡ m → ((i : ℕ) (d : B) → i < m → get_or xs i d ≡ v i) → IsFromFnResult g f ys m → ys ≡ xs
  from_fn_is ys xs l e r =
      same_lists ys xs (r.long ∙ sym l)
      (λ k d b. from_each ys 0 m r.each (omega arith) k d (omega arith) (omega (arith, r.long)) ∙ sym (e k d (omega (arith, r.long))))
