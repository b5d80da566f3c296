-- The slots of a log after a store and after a clearing, slot by slot. Assumes nothing.
use Prim.Native.Nat.{ℕ, zero, suc, ◌+◌, ◌-◌, ◌*◌, ◌≤◌, ◌<◌}
use mathlib.Core.Path.{◌≡◌, refl, sym, ap, ◌∙◌}
use mathlib.Core.List.{List, ◌++◌}
use mathlib.Core.Bool.{Bool, true, false}
use native.Mathlib.Omega.{arith}
use lib.ListN.{length, take, drop, length-append, length-take, length-drop, length-replicate, replicate-append-replicate, take-append-drop}
use lib.Seq.{drop-append-le, take-append-le, drop-append-add, drop_at, take_at, drop-drop, take-add}
use lib.Dec.{leb}
use borrow.Author.Tests.{leb-true, leb-false}
use Rattle.apollo.specs.Size.{frame_size}
use Rattle.apollo.specs.Bytes.{part, zeros, number4}
use Rattle.apollo.specs.Frame.{height}
use Rattle.apollo.specs.Log.{genesis, slot, filled, store, clear_above}

pub length_zeros : (n : ℕ) → length (zeros n) ≡ n
unfolding zeros
length_zeros n = length-replicate n 0

pub part_left : (P Q : List ℕ) (k n : ℕ) → k + n ≤ length P → part (P ++ Q) k n ≡ part P k n
part_left P Q k n h =
    ap (take n) (drop-append-le k P Q (omega arith)) ∙ take-append-le n (drop k P) Q (simp length-drop (omega arith))

pub part_right : (P Q : List ℕ) (k n m : ℕ) → k ≡ length P + m → part (P ++ Q) k n ≡ part Q m n
part_right P Q k n m e = ap (λ j. take n (drop j (P ++ Q))) e ∙ ap (take n) (drop-append-add P Q m)

pub part_take : (xs : List ℕ) (m k n : ℕ) → k + n ≤ m → m ≤ length xs → part (take m xs) k n ≡ part xs k n
part_take xs m k n h l =
    sym (part_left (take m xs) (drop m xs) k n (simp length-take (omega arith))) ∙ ap (λ ys. part ys k n) (take-append-drop m xs)

pub part_drop : (xs : List ℕ) (m k n : ℕ) → part (drop m xs) k n ≡ part xs (m + k) n
part_drop xs m k n = ap (take n) (drop-drop k m xs)

zeros_add : (n m : ℕ) → zeros n ++ zeros m ≡ zeros (n + m)
unfolding zeros
zeros_add n m = replicate-append-replicate n m 0

pub part_zeros : (m k n : ℕ) → k + n ≤ m → part (zeros m) k n ≡ zeros n
part_zeros m k n h =
    let e : k + (n + (m - k - n)) ≡ m = omega arith in
    let s : zeros k ++ (zeros n ++ zeros (m - k - n)) ≡ zeros m =
    ap (λ ys. zeros k ++ ys) (zeros_add n (m - k - n)) ∙ zeros_add k (n + (m - k - n)) ∙ ap zeros e in
    ap (λ ys. take n (drop k ys)) (sym s) ∙ ap (take n) (drop_at (zeros k) _ k (length_zeros k))
    ∙ take_at (zeros n) _ n (length_zeros n)

pub filled_genesis : filled genesis ≡ false
unfolding genesis zeros
filled_genesis = refl

pub height_genesis : height genesis ≡ 0
unfolding genesis number4 zeros
height_genesis = refl

pub slot_length : (log : List ℕ) (q : ℕ) → frame_size * q ≤ length log → length (slot log q) ≡ frame_size
unfolding slot genesis
slot_length log zero fit = length_zeros frame_size
slot_length log (suc k) fit = simp (length-take, length-drop) (omega arith)

pub length_store : (log : List ℕ) (r : ℕ) (x : List ℕ) → 1 ≤ r → frame_size * r ≤ length log → length x ≡ frame_size
    → length (store log r x) ≡ length log
unfolding store
length_store log r x one fit e = simp (length-append, length-take, length-drop, e) (omega arith)

pub store_same : (log : List ℕ) (r : ℕ) (x : List ℕ) → 1 ≤ r → frame_size * r ≤ length log → length x ≡ frame_size → slot (store log r x) r ≡ x
unfolding store slot
store_same log zero x one fit e = absurd (omega arith)
store_same log (suc k) x one fit e =
    ap (take frame_size) (drop_at (take (frame_size * (suc k - 1)) log) _ (frame_size * k) (simp length-take (omega arith))) ∙ take_at x _ frame_size e

store_low : (log : List ℕ) (r : ℕ) (x : List ℕ) (k : ℕ) → k + frame_size ≤ frame_size * (r - 1) → frame_size * r ≤ length log
    → part (store log r x) k frame_size ≡ part log k frame_size
unfolding store
store_low log r x k lt fit =
    part_left (take (frame_size * (r - 1)) log) _ k frame_size (simp length-take (omega arith))
    ∙ part_take log (frame_size * (r - 1)) k frame_size lt (omega arith)

store_high : (log : List ℕ) (r : ℕ) (x : List ℕ) (k : ℕ) → 1 ≤ r → frame_size * r ≤ k → frame_size * r ≤ length log → length x ≡ frame_size
    → part (store log r x) k frame_size ≡ part log k frame_size
unfolding store
store_high log r x k one lt fit e =
    let end : frame_size * r + (k - frame_size * r) ≡ k = omega arith in
    part_right (take (frame_size * (r - 1)) log) _ k frame_size (k - frame_size * (r - 1)) (simp length-take (omega arith))
    ∙ part_right x (drop (frame_size * r) log) (k - frame_size * (r - 1)) frame_size (k - frame_size * r) (rw e (omega arith))
    ∙ part_drop log (frame_size * r) (k - frame_size * r) frame_size ∙ ap (λ j. part log j frame_size) end

pub store_other : (log : List ℕ) (r : ℕ) (x : List ℕ) (q : ℕ) → 1 ≤ r → frame_size * r ≤ length log → length x ≡ frame_size → ¬ (q ≡ r)
    → slot (store log r x) q ≡ slot log q
unfolding slot
store_other log r x zero one fit e ne = refl
store_other log r x (suc k) one fit e ne = go (leb (suc k) r) refl
  where
    go : (b : Bool) → leb (suc k) r ≡ b → part (store log r x) (frame_size * k) frame_size ≡ part log (frame_size * k) frame_size
    go true t = let l : suc k ≤ r = leb-true (suc k) r t in store_low log r x (frame_size * k) (omega arith) fit
    go false t = let l : r < suc k = leb-false (suc k) r t in store_high log r x (frame_size * k) one (omega arith) fit e

pub length_clear : (log : List ℕ) (r : ℕ) → frame_size * r ≤ length log → length (clear_above log r) ≡ length log
unfolding clear_above
length_clear log r fit = simp (length-append, length-take, length_zeros) (omega arith)

pub clear_low : (log : List ℕ) (r q : ℕ) → frame_size * r ≤ length log → q ≤ r → slot (clear_above log r) q ≡ slot log q
unfolding slot clear_above
clear_low log r zero fit l = refl
clear_low log r (suc k) fit l =
    part_left (take (frame_size * r) log) _ (frame_size * k) frame_size (simp length-take (omega arith))
    ∙ part_take log (frame_size * r) (frame_size * k) frame_size (omega arith) fit

pub clear_high : (log : List ℕ) (r q : ℕ) → r < q → frame_size * q ≤ length log → slot (clear_above log r) q ≡ genesis
unfolding slot clear_above genesis
clear_high log r zero l fit = absurd (omega arith)
clear_high log r (suc k) l fit =
    part_right (take (frame_size * r) log) _ (frame_size * k) frame_size (frame_size * k - frame_size * r) (simp length-take (omega arith))
    ∙ part_zeros (length log - frame_size * r) (frame_size * k - frame_size * r) frame_size (omega arith)

-- equal slots make equal beginnings, and the other way round
pub take_slots : (a b : List ℕ) (c : ℕ) → ((q : ℕ) → 1 ≤ q → q ≤ c → slot a q ≡ slot b q) → take (frame_size * c) a ≡ take (frame_size * c) b
unfolding slot
take_slots a b zero h = refl
take_slots a b (suc c) h =
    let e : frame_size * suc c ≡ frame_size * c + frame_size = omega arith in
    let ih : take (frame_size * c) a ≡ take (frame_size * c) b = take_slots a b c (λ q l m. h q l (omega arith)) in
    let s : take frame_size (drop (frame_size * c) a) ≡ take frame_size (drop (frame_size * c) b) = h (suc c) (omega arith) (omega arith) in
    rw e (take-add (frame_size * c) frame_size a ∙ ap (λ ys. ys ++ take frame_size (drop (frame_size * c) a)) ih ∙ ap (λ ys. take (frame_size * c) b ++ ys) s
    ∙ sym (take-add (frame_size * c) frame_size b))

pub slot_take : (log : List ℕ) (c q : ℕ) → q ≤ c → frame_size * c ≤ length log → slot (take (frame_size * c) log) q ≡ slot log q
unfolding slot
slot_take log c zero l fit = refl
slot_take log c (suc k) l fit = part_take log (frame_size * c) (frame_size * k) frame_size (omega arith) fit
