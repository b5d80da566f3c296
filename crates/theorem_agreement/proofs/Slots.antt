-- Slots of a log after a store and after a clearing, chains of frames, and the highest filled slot. Assumes nothing.
use Prim.Native.Nat.{ℕ, zero, suc, ◌*◌, ◌≤◌, ◌<◌}
use mathlib.Core.Path.{◌≡◌, refl, sym, ap, ◌∙◌}
use mathlib.Core.Logic.{◌⊎◌, inl, inr}
use mathlib.Core.List.{List, [], ◌∷◌, ◌++◌, append_assoc, append-nil}
use mathlib.Core.Bool.{Bool, true, false, cond}
use native.Mathlib.Omega.{arith}
use lib.ListN.{length, take, drop_of_length-le}
use lib.Dec.{leb}
use borrow.Author.Tests.{leb-true, leb-false}
use Rattle.apollo.specs.Size.{frame_size}
use Rattle.apollo.specs.Bytes.{part}
use Rattle.apollo.specs.Log.{slot, filled, highest, chain}
use Rattle.apollo.specs.Committed.{Begins}
use Rattle.theorem_agreement.proofs.Tests.{clash, by_cond}
pub use Rattle.apollo.proofs.Slots.{length_zeros, filled_genesis, part_left, part_right, part_take, part_drop, part_zeros, length_store, store_same, store_other, length_clear, clear_low, clear_high, take_slots}

pub slot_beyond : (log : List ℕ) (T q : ℕ) → length log ≡ frame_size * T → T < q → slot log q ≡ []
unfolding slot
slot_beyond log T zero e l = absurd (omega arith)
slot_beyond log T (suc k) e l = ap (take frame_size) (drop_of_length-le log {i = frame_size * k} (omega arith))

pub filled_nil : filled [] ≡ false
filled_nil = refl

-- equal beginnings have equal slots, and equal slots make equal beginnings
pub slots_take : (a b : List ℕ) (c : ℕ) → frame_size * c ≤ length a → frame_size * c ≤ length b → take (frame_size * c) a ≡ take (frame_size * c) b → (q : ℕ) → 1 ≤ q
    → q ≤ c → slot a q ≡ slot b q
unfolding slot
slots_take a b c la lb e zero o l = absurd (omega arith)
slots_take a b c la lb e (suc k) o l =
    sym (part_take a (frame_size * c) (frame_size * k) frame_size (omega arith) la) ∙ ap (λ ys. part ys (frame_size * k) frame_size) e
    ∙ part_take b (frame_size * c) (frame_size * k) frame_size (omega arith) lb

pub chain_slots : (a b : List ℕ) (c : ℕ) → ((q : ℕ) → 1 ≤ q → q ≤ c → slot a q ≡ slot b q) → chain a c ≡ chain b c
unfolding chain
chain_slots a b zero h = refl
chain_slots a b (suc c) h =
    let ih : chain a c ≡ chain b c = chain_slots a b c (λ q l m. h q l (omega arith)) in
    rw (ih, h (suc c) (omega arith) (omega arith))

chain_next : (b : List ℕ) (c d : ℕ) → (c ≤ d → Begins (chain b c) (chain b d)) → c ≤ suc d → (t : Bool) → leb c d ≡ t
    → Begins (chain b c) (chain b (suc d))
unfolding chain
chain_next b c d ih l true e =
    let r : Begins (chain b c) (chain b d) = ih (leb-true _ _ e) in
    (r.0 ++ cond (filled (slot b (suc d))) (slot b (suc d) ∷ []) [], rw (r.1, append_assoc))
chain_next b c d ih l false e =
    let k : d < c = leb-false _ _ e in
    let q : suc d ≡ c = omega arith in
    ([], ap (chain b) q ∙ sym (append-nil (chain b c)))

pub chain_more : (b : List ℕ) (c d : ℕ) → c ≤ d → Begins (chain b c) (chain b d)
chain_more b c zero l =
    let q : zero ≡ c = omega arith in
    ([], ap (chain b) q ∙ sym (append-nil (chain b c)))
chain_more b c (suc d) l = chain_next b c d (chain_more b c d) l (leb c d) refl

pub highest_le : (b : List ℕ) (r : ℕ) → highest b r ≤ r
unfolding highest
highest_le b zero = omega arith
highest_le b (suc r) =
    by_cond (λ k. k ≤ suc r) (filled (slot b (suc r))) (λ _. omega arith) (λ _. omega (arith, highest_le b r))

pub highest_filled : (b : List ℕ) (r : ℕ) → (highest b r ≡ 0) ⊎ (filled (slot b (highest b r)) ≡ true)
unfolding highest
highest_filled b zero = inl refl
highest_filled b (suc r) =
    by_cond (λ k. (k ≡ 0) ⊎ (filled (slot b k) ≡ true)) (filled (slot b (suc r))) (λ e. inr e) (λ _. highest_filled b r)

pub highest_max : (b : List ℕ) (r q : ℕ) → filled (slot b q) ≡ true → q ≤ r → q ≤ highest b r
unfolding highest
highest_max b zero q e l = omega arith
highest_max b (suc r) q e l =
    by_cond (λ k. q ≤ k) (filled (slot b (suc r))) (λ _. l) (λ n. highest_max b r q e (below n (leb q r) refl))
  where
    below : filled (slot b (suc r)) ≡ false → (z : Bool) → leb q r ≡ z → q ≤ r
    below n true z = leb-true _ _ z
    below n false z =
        let g : r < q = leb-false _ _ z in
        let k : q ≡ suc r = omega arith in
        absurd (clash (ap (λ m. filled (slot b m)) (sym k) ∙ e) n)

-- the highest filled slot does not fall where the slots up to it are kept and the limit does not fall
pub highest_grows : (a b : List ℕ) (r k : ℕ) → r ≤ k → ((q : ℕ) → 1 ≤ q → q ≤ highest a r → slot b q ≡ slot a q) → highest a r ≤ highest b k
highest_grows a b r k l keep = go (leb (highest a r) 0) refl (highest_filled a r)
  where
    go : (z : Bool) → leb (highest a r) 0 ≡ z → (highest a r ≡ 0) ⊎ (filled (slot a (highest a r)) ≡ true) → highest a r ≤ highest b k
    go z e (inl h) = omega arith
    go true e (inr h) = omega (arith, leb-true (highest a r) 0 e)
    go false e (inr h) =
        highest_max b k (highest a r) (ap filled (keep (highest a r) (leb-false _ _ e) (omega arith)) ∙ h) (omega (arith, highest_le a r))
