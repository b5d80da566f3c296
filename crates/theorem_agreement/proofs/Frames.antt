-- Fields of a slot and of the genesis, and the frames at the start of an out buffer. Assumes nothing.
use Prim.Native.Nat.{ℕ}
use mathlib.Core.Path.{◌≡◌, refl}
use mathlib.Core.List.{List, [], ◌∷◌, ◌++◌, append_assoc, flatten}
use lib.ListN.{length, take, drop, length-take, length-drop}
use lib.Seq.{drop_at, take_at}
use Rattle.apollo.specs.Size.{frame_size}
use Rattle.apollo.specs.Bytes.{number4, zeros}
use Rattle.apollo.specs.Frame.{round, digest, frames}
use Rattle.apollo.specs.Log.{genesis}
pub use Rattle.apollo.proofs.Slots.{slot_length, height_genesis}
pub use Rattle.apollo.proofs.Frames.{Whole, frames_whole}

pub digest_width : (x : List ℕ) → length x ≡ frame_size → length (digest x) ≡ 32
digest_width x e = simp (length-take, length-drop, e) refl

pub round_genesis : round genesis ≡ 0
unfolding genesis number4 zeros
round_genesis = refl

pub frames_flatten : (xs : List (List ℕ)) (rest : List ℕ) → Whole xs → frames (length xs) (flatten xs ++ rest) ≡ xs
unfolding frames flatten
frames_flatten [] rest w = refl
frames_flatten (x ∷ xs) rest w =
    let a : x ++ flatten xs ++ rest ≡ x ++ (flatten xs ++ rest) = append_assoc x (flatten xs) rest in
    let t : take frame_size (x ++ flatten xs ++ rest) ≡ x = rw a (take_at x _ frame_size w.0) in
    let d : drop frame_size (x ++ flatten xs ++ rest) ≡ flatten xs ++ rest = rw a (drop_at x _ frame_size w.0) in
    let i : frames (length xs) (flatten xs ++ rest) ≡ xs = frames_flatten xs rest w.1 in
    rw (t, d, i)
