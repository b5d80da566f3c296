-- Whole frames one by one, as `chunks_exact` gives them: x comes off the front of the bytes s, and leaves t. Assumes nothing.
use mathlib.Core.Path.{◌≡◌, sym, ap, ◌∙◌}
use mathlib.Core.List.{List, [], ◌∷◌, ◌++◌}
use Prim.Native.Nat.{ℕ, suc, ◌/◌, ◌<◌}
use native.Mathlib.Omega.{arith}
use lib.ListN.{length, take, drop}
use Rattle.std.specs.Iterator.{AlwaysYields}
use Rattle.std.specs.Slice.Iter.{chunks_exact_rest, chunks_exact_size, chunks_exact_steps}
use Rattle.std.specs.declared.slice.ChunksExact.{ChunksExact}
use Rattle.std.proofs.Common.{length-append}
use Rattle.std.proofs.lemmas.Iterator.{YieldsList}
use Rattle.std.proofs.lemmas.List.{take_at, drop_at}
use Rattle.apollo.specs.Size.{frame_size}
use Rattle.apollo.specs.Frame.{frames, frames_of}

-- a frame more
pub frames_more : (s x t : List ℕ) → s ≡ x ++ t → length x ≡ frame_size → frames_of s ≡ x ∷ frames_of t
unfolding frames
frames_more s x t e h =
    let n : length s / frame_size ≡ suc (length t / frame_size) = omega (arith, ap length e, length-append x t) in
    let p : take frame_size s ≡ x = ap (take frame_size) e ∙ take_at x t _ h in
    let q : drop frame_size s ≡ t = ap (drop frame_size) e ∙ drop_at x t _ h in
    rw (n, p, q)

-- no frame is left
pub frames_done : (s : List ℕ) → length s < frame_size → frames_of s ≡ []
unfolding frames
frames_done s h =
    let n : length s / frame_size ≡ 0 = omega arith in
    rw n

-- all of them, as `chunks_exact` gives them
frames_given : (xs : List (List ℕ)) (s : ChunksExact ℕ) → chunks_exact_size s ≡ frame_size → frames_of (chunks_exact_rest s) ≡ xs
    → AlwaysYields chunks_exact_steps (λ x. x.now) s xs
frames_given [] s h e = λ x j p.
    let m : frames_of (chunks_exact_rest s) ≡ x.now ∷ frames_of (chunks_exact_rest j) = frames_more _ _ _ p.1.0 (p.1.1 ∙ h) in
    omega (arith, ap length (sym e ∙ m))
frames_given (y ∷ ys) s h e = (
  (λ j p. let m : frames_of (chunks_exact_rest s) ≡ [] = frames_done _ (omega (arith, p.1.0, h)) in omega (arith, ap length (sym e ∙ m))),
  λ x j p.
      let m : frames_of (chunks_exact_rest s) ≡ x.now ∷ frames_of (chunks_exact_rest j) = frames_more _ _ _ p.1.0 (p.1.1 ∙ h) in
      (cc, frames_given ys j (p.0 ∙ h) cc),
)

pub YieldsList-from_frames : {s : ChunksExact ℕ} (b : List ℕ) → chunks_exact_rest s ≡ b → chunks_exact_size s ≡ frame_size
    → YieldsList chunks_exact_steps (λ x. x.now) s (frames_of b)
YieldsList-from_frames {s} b e h = record { runs = frames_given (frames_of b) s h (ap frames_of e) }
