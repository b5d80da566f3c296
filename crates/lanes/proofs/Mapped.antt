-- Arrays made of others by a function that stays as it is. Assumes nothing.
use Rattle.std.proofs.Common.{◌≡◌, ℕ, zero, suc, ◌+◌, ◌≤◌, ◌<◌, List, [], ◌∷◌, get_or, length, Some, ◌∙◌, ⊎_elim, eq-or-lt_of_le, arith}
use denote.Param.Members.{Mut, Called}
use Rattle.std.specs.List.{All, FoldsTo}
use Rattle.std.specs.Iterator.{Yields, CallableAtEachTurn}
use Rattle.std.specs.Array.{list_steps, IsMapOf, MapsFrom}

-- what may be asked of each element may be asked in turn
pub serves_list : {A P : Type 0} (R : P → A → P → Type 0) (Q : P → A → Type 0) (K : A → Type 0) (m : List A) (p : P) → All K m
    → ((x : A) (q : P) → R p x q → q ≡ p) → ((x : A) → K x → Q p x) → CallableAtEachTurn list_steps R Q m p
serves_list {A} {P} R Q K m p a stays can = record { at = λ xs t q x u y c z. at m xs t q x u a y c z }
  where
    at : (m xs t : List A) (q : P) (x : A) (u : List A) → All K m → Yields list_steps m xs t → FoldsTo R p xs q
        → list_steps t (Some x) u → Q q x
    at m [] t q x u a y c z = let e : m ≡ x ∷ u = y ∙ z in rw (← c) (can x ((rw e at a) 0 x (omega arith)))
    at m (w ∷ xs) t q x u a y c z =
        let s : c.0 ≡ p = stays w c.0 c.1 in
        let b : All K (w ∷ y.0) = rw y.1 at a in
        at y.0 xs t q x u (λ k d h. b (suc k) d (omega arith)) y.2 (rw s at c.2) z

-- each element of the one is made of that of the other
pub maps_each : {F A B : Type 0} (g : Mut F (A × Unit {0}) B) (f : F) (K : A → Type 0) (V : A → B → Type 0)
    (m : List A) (ys : List B) (n : ℕ) → length m ≡ n → All K m → IsMapOf g f m ys n
    → ((x : A) (y : B) (q : F) → K x → Called g f (x, tt) y q → (q ≡ f) × V x y)
    → (k : ℕ) (d : A) (e : B) → k < n → V (get_or m k d) (get_or ys k e)
maps_each {F} {A} {B} g f K V m ys n l a r h k d e b = from 0 n r.each (omega arith) k (omega arith) (omega arith)
  where
    from : (i j : ℕ) → MapsFrom g f m ys i j → i + j ≤ n → (k : ℕ) → i ≤ k → k < i + j → V (get_or m k d) (get_or ys k e)
    from i zero r t k u v = absurd (omega arith)
    from i (suc j) r t k u v =
        let x : K r.1 = rw (r.3.0) at (a i r.1 (omega arith)) in
        let p : (r.0 ≡ f) × V r.1 r.2 = h r.1 r.2 r.0 x r.5 in
        ⊎_elim
        (λ (w : i ≡ k). rw (← w, r.3.1 d, r.4.1 e) p.1)
        (λ (w : i < k). from (i + 1) j (rw p.0 at r.6) (omega arith) k (omega arith) (omega arith)) (eq-or-lt_of_le u)
