-- Laws of a frame that is written piece by piece. Assumes nothing.
use mathlib.Core.Path.{◌≡◌, refl, sym, ◌∙◌}
use mathlib.Core.List.{List, [], ◌++◌, append_assoc}
use Prim.Native.Nat.{ℕ}
use lib.ListN.{length, drop, length-append}
use lib.Seq.{take_at, drop-drop, drop-append-add}
use Rattle.frame_writing.specs.Put.{Written}

-- out begins with xs, and goes on as out₀ does
pub record Begun (out₀ xs out : List ℕ) : Type 0 where
  pub bytes : out ≡ xs ++ drop (length xs) out₀
  pub size : length out ≡ length out₀

pub begun_start : (out : List ℕ) → Begun out [] out
begun_start out = record { bytes = refl; size = refl }

pub begun_more : {out₀ xs ys out out' : List ℕ} (k : ℕ) → length xs ≡ k → Begun out₀ xs out → Written out k ys out'
    → Begun out₀ (xs ++ ys) out'
begun_more {out₀} {xs} {ys} {out} k l b w =
    record {
      bytes =
          w.bytes
          ∙ rw (b.bytes, ← l, take_at xs (drop (length xs) out₀) (length xs) refl, drop-append-add xs (drop (length xs) out₀) (length ys), drop-drop, length-append)
          (sym (append_assoc xs ys _));
      size = w.size ∙ b.size;
    }
