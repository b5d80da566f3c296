-- Frames of 512 bytes each. Assumes nothing.
use Prim.Native.Nat.{ℕ, zero, suc, ◌-◌, ◌*◌, ◌/◌, ◌%◌, ◌≤◌, ◌<◌}
use mathlib.Core.Path.{◌≡◌, ap, ◌∙◌}
use mathlib.Core.List.{List, [], ◌∷◌}
use mathlib.Core.Bool.{true}
use native.Mathlib.Omega.{arith}
use lib.ListN.{length, take, drop, length-drop}
use lib.Seq.{length-take-le, take_all}
use lib.Dec.{eqb}
use borrow.Author.Tests.{eqb-true, eq-eqb}
use Rattle.apollo.specs.Size.{frame_size}
use Rattle.apollo.specs.Bytes.{within}
use Rattle.apollo.specs.Frame.{frames, frames_of, first_frame, whole_frames}
use Rattle.apollo.specs.Equivocation.{second}
use Rattle.apollo.proofs.Tests.{and-true, both, within_true, within_of}

-- every frame has 512 bytes
abbrev pub Whole : List (List ℕ) → Type 0
Whole [] = Unit {0}
Whole (x ∷ xs) = (length x ≡ frame_size) × Whole xs

pub frames_whole : (n : ℕ) (bytes : List ℕ) → frame_size * n ≤ length bytes → Whole (frames n bytes)
unfolding frames
frames_whole zero bytes l = tt
frames_whole (suc n) bytes l = (length-take-le frame_size bytes (omega arith), frames_whole n (drop frame_size bytes) (simp length-drop (omega arith)))

pub whole_take : (n : ℕ) (xs : List (List ℕ)) → Whole xs → Whole (take n xs)
whole_take zero xs w = tt
whole_take (suc n) [] w = tt
whole_take (suc n) (x ∷ xs) w = (w.0, whole_take n xs w.1)

-- 1 to `most` whole frames, of its test, and back
pub record WholeFrames (most : ℕ) (bytes : List ℕ) : Type 0 where
  pub even : length bytes % frame_size ≡ 0
  pub some : 1 ≤ length bytes / frame_size
  pub few : length bytes / frame_size ≤ most

pub whole_true : (most : ℕ) (bytes : List ℕ) → whole_frames most bytes ≡ true → WholeFrames most bytes
unfolding whole_frames
whole_true most bytes e =
    let p = and-true (eqb (length bytes % frame_size) 0) (within 1 (length bytes / frame_size) most) e in
    let q = within_true 1 (length bytes / frame_size) most p.1 in
    record { even = eqb-true (length bytes % frame_size) 0 p.0; some = q.0; few = q.1 }

pub whole_of : (most : ℕ) (bytes : List ℕ) → WholeFrames most bytes → whole_frames most bytes ≡ true
unfolding whole_frames
whole_of most bytes w =
    both (eqb (length bytes % frame_size) 0) (within 1 (length bytes / frame_size) most) (eq-eqb (length bytes % frame_size) 0 w.even)
    (within_of 1 (length bytes / frame_size) most w.some w.few)

pub whole_fits : (most : ℕ) (bytes : List ℕ) → whole_frames most bytes ≡ true → length bytes ≤ frame_size * most
whole_fits most bytes e =
    let w : WholeFrames most bytes = whole_true most bytes e in
    omega (arith, w.even, w.few)

-- the first frame, and the others
pub frames_split : (n : ℕ) (b : List ℕ) → 0 < n → frames n b ≡ take frame_size b ∷ frames (n - 1) (drop frame_size b)
unfolding frames
frames_split n b h =
    let q : n ≡ suc (n - 1) = omega arith in
    ap (λ (m : ℕ). frames m b) q

-- one frame
pub whole_one : (most : ℕ) (x : List ℕ) → 1 ≤ most → length x ≡ frame_size → whole_frames most x ≡ true
whole_one most x one l =
    whole_of most x (record { even = ap (λ n. n % frame_size) l; some = omega arith; few = omega arith })

pub frames_one : (x : List ℕ) → length x ≡ frame_size → frames_of x ≡ x ∷ []
unfolding frames
frames_one x l =
    let one : length x / frame_size ≡ 1 = omega arith in
    ap (λ n. frames n x) one ∙ ap (λ y. y ∷ []) (take_all frame_size x (omega arith))

-- two frames
pub pair_frames : (bytes : List ℕ) → length bytes ≡ 1024 → frames_of bytes ≡ first_frame bytes ∷ second bytes ∷ []
unfolding frames
pair_frames bytes l =
    let two : length bytes / frame_size ≡ 2 = omega arith in
    ap (λ n. frames n bytes) two
