-- The last frame, as the end of the bytes. Assumes nothing.
use mathlib.Core.Path.{◌≡◌, ap, ◌∙◌, sym}
use mathlib.Core.List.{List}
use Prim.Native.Nat.{ℕ, ◌-◌, ◌≤◌}
use native.Mathlib.Omega.{arith}
use lib.ListN.{length, take, drop, length-drop}
use lib.Seq.{take_all}
use Rattle.apollo.specs.Size.{frame_size}
use Rattle.apollo.specs.Frame.{last_frame}

pub last_part : (b : List ℕ) (s : ℕ) → s ≡ length b - frame_size → take (length b - s) (drop s b) ≡ last_frame b
last_part b s e =
    let all : length (drop s b) ≤ length b - s = omega (arith, length-drop s b) in
    let few : length (drop s b) ≤ frame_size = omega (arith, length-drop s b) in
    take_all (length b - s) (drop s b) all ∙ sym (take_all frame_size (drop s b) few) ∙ ap (λ k. take frame_size (drop k b)) e
