-- Refusal 12 without a copy of the log.
use Rattle.std.specs.Prelude.{List, [], ◌∷◌, Bool, ◌&&◌, cond, ℕ, ◌-◌, ◌*◌, ltb}
use Rattle.apollo.specs.Size.{frame_size}
use Rattle.apollo.specs.Bytes.{same, blank}
use Rattle.apollo.specs.Frame.{round}
use Rattle.apollo.specs.Log.{slot}

-- up to the committed round: zeros between round lo and frame x, and x in its slot; a frame of round 0 has none
unfoldable pub keeps_frame : (log : List ℕ) (lo : ℕ) (x : List ℕ) (committed : ℕ) → Bool
keeps_frame log lo x committed =
    cond (ltb committed (round x)) (blank log (frame_size * lo) (frame_size * committed))
    (ltb 0 (round x) && (blank log (frame_size * lo) (frame_size * (round x - 1)) && same (slot log (round x)) x))

-- the same for each frame on the one before, the first on round lo, and zeros after the last
unfoldable pub keeps_all : (log : List ℕ) (lo : ℕ) → List (List ℕ) → (committed : ℕ) → Bool
keeps_all log lo [] committed = blank log (frame_size * lo) (frame_size * committed)
keeps_all log lo (x ∷ xs) committed = keeps_frame log lo x committed && keeps_all log (round x) xs committed
