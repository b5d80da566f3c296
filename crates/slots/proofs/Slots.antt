-- Slots zeroed and stored in place, and frames stored one at a time. Assumes nothing.
use mathlib.Core.Path.{◌≡◌, sym}
use mathlib.Core.List.{List, [], ◌++◌, append-nil}
use Prim.Native.Nat.{ℕ, ◌+◌, ◌-◌, ◌*◌, ◌≤◌, ◌<◌}
use native.Mathlib.Omega.{arith}
use lib.ListN.{length, take, drop, length-take, length-drop, drop_of_length-le}
use lib.Seq.{take_all, drop-drop}
use borrow.Rule.Slice.PartMut.{put_mid}
use Rattle.apollo.specs.Size.{frame_size}
use Rattle.apollo.specs.Bytes.{zeros}
use Rattle.apollo.specs.Log.{store, clear_above}
use Rattle.apollo.specs.Frame.{round, frames_of}
use Rattle.apollo.specs.Branch.{store_all}
use Rattle.slots.specs.Slots.{Slotted}
use Rattle.frame.proofs.Walk.{frames_more, frames_done}

-- a log whose slots above round r are zeroed in place, and one that has none
pub cleared : (log y : List ℕ) (r : ℕ) → frame_size * r ≤ length log → y ≡ zeros (length (take (length log - frame_size * r) (drop (frame_size * r) log)))
    → put_mid (frame_size * r) (length log - frame_size * r) log y ≡ clear_above log r
unfolding clear_above
cleared log y r h e =
    let l : length (take (length log - frame_size * r) (drop (frame_size * r) log)) ≡ length log - frame_size * r =
    simp (length-take, length-drop) (omega arith) in
    let d : drop (length log - frame_size * r) (drop (frame_size * r) log) ≡ [] =
    drop_of_length-le (drop (frame_size * r) log) {i = length log - frame_size * r} (rw length-drop (omega arith)) in
    rw (e, l, d, append-nil)

pub nothing_above : (log : List ℕ) (r : ℕ) → length log ≤ frame_size * r → log ≡ clear_above log r
unfolding clear_above zeros
nothing_above log r h =
    let z : length log - frame_size * r ≡ 0 = omega arith in
    rw (z, take_all (frame_size * r) log h) (sym (append-nil log))

module _ (log x : List ℕ) (r : ℕ) where
  pub stored : (y : List ℕ) → 1 ≤ r → y ≡ x → put_mid (frame_size * r - frame_size) (frame_size * r - (frame_size * r - frame_size)) log y ≡ store log r x
  unfolding store
  stored y g f =
      let a : frame_size * r - (frame_size * r - frame_size) ≡ frame_size = omega arith in
      let b : frame_size * (r - 1) ≡ frame_size * r - frame_size = omega arith in
      let d : frame_size * r - frame_size + frame_size ≡ frame_size * r = omega arith in
      rw (f, a, b, drop-drop frame_size (frame_size * r - frame_size) log, d)

-- the frames stored one at a time: x comes off the front of the bytes s, and leaves t
module _ (s x t : List ℕ) (p : s ≡ x ++ t) (h : length x ≡ frame_size) where
  pub each_more : (log y goal : List ℕ) → y ≡ store log (round x) x → store_all log (frames_of s) ≡ goal → store_all y (frames_of t) ≡ goal
  unfolding store_all
  each_more log y goal d e = rw d (rw (frames_more s x t p h) at e)

  pub next_slotted : (size : ℕ) → Slotted size (frames_of s) → (1 ≤ round x) × (frame_size * round x ≤ size) × Slotted size (frames_of t)
  unfolding Slotted
  next_slotted size d = rw (frames_more s x t p h) at d

pub each_end : (s log goal : List ℕ) → length s < frame_size → store_all log (frames_of s) ≡ goal → log ≡ goal
unfolding store_all
each_end s log goal h e = rw (frames_done s h) at e
