-- The slots that a branch would keep, frame by frame. Assumes nothing.
use mathlib.Core.Path.{◌≡◌}
use mathlib.Core.Bool.{Bool, true, false}
use mathlib.Core.List.{List, ◌++◌}
use Prim.Native.Nat.{ℕ, ◌*◌, ◌<◌}
use lib.ListN.{length}
use Rattle.apollo.specs.Size.{frame_size}
use Rattle.apollo.specs.Bytes.{blank}
use Rattle.apollo.specs.Frame.{round, frames_of}
use Rattle.branch_rounds.specs.Keeps.{keeps_frame, keeps_all}
use Rattle.frame.proofs.Walk.{frames_more, frames_done}

-- the frames from b on, above round lo: the frame x, and then t
module _ (log b : List ℕ) (lo c : ℕ) (goal : Bool) (e : keeps_all log lo (frames_of b) c ≡ goal) where
  module _ (x t : List ℕ) (p : b ≡ x ++ t) (h : length x ≡ frame_size) where
    pub keeps_stop : false ≡ keeps_frame log lo x c → false ≡ goal
    unfolding keeps_all
    keeps_stop f = rw (frames_more b x t p h, ← f) at e

    pub keeps_next : true ≡ keeps_frame log lo x c → keeps_all log (round x) (frames_of t) c ≡ goal
    unfolding keeps_all
    keeps_next f = rw (frames_more b x t p h, ← f) at e

  pub keeps_end : length b < frame_size → blank log (frame_size * lo) (frame_size * c) ≡ goal
  unfolding keeps_all
  keeps_end h = rw (frames_done b h) at e
