-- The last of some whole frames. Assumes nothing.
use mathlib.Core.Path.{◌≡◌, refl, sym, ap, ◌∙◌}
use mathlib.Core.List.{List}
use Prim.Native.Nat.{ℕ, zero, suc, ◌+◌, ◌-◌, ◌*◌, ◌/◌, ◌%◌, ◌≤◌}
use native.Mathlib.Omega.{arith}
use lib.ListN.{length, take, drop}
use lib.Seq.{drop-drop}
use Rattle.apollo.specs.Size.{frame_size}
use Rattle.apollo.specs.Bytes.{part}
use Rattle.apollo.specs.Frame.{frames, last_frame}
use Rattle.apollo.specs.BlockRun.{last_of}
use Rattle.apollo.proofs.Frames.{WholeFrames}

last_of_lem : (n : ℕ) (b : List ℕ) → last_of (take frame_size b) (frames n (drop frame_size b)) ≡ part b (frame_size * n) frame_size
unfolding last_of frames
last_of_lem zero b = refl
last_of_lem (suc n) b =
    let q : frame_size + frame_size * n ≡ frame_size * suc n = omega arith in
    last_of_lem n (drop frame_size b) ∙ ap (take frame_size) (drop-drop (frame_size * n) frame_size b ∙ ap (λ (k : ℕ). drop k b) q)

pub last_is : (t : ℕ) (bytes : List ℕ) → WholeFrames t bytes
    → last_frame bytes ≡ last_of (take frame_size bytes) (frames (length bytes / frame_size - 1) (drop frame_size bytes))
last_is t bytes w =
    let e : length bytes % frame_size ≡ 0 = w.even in
    let g : 1 ≤ length bytes / frame_size = w.some in
    let q : length bytes - frame_size ≡ frame_size * (length bytes / frame_size - 1) = omega arith in
    ap (λ (k : ℕ). part bytes k frame_size) q ∙ sym (last_of_lem (length bytes / frame_size - 1) bytes)
