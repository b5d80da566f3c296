-- Document 02, F-7: the rounds that two replicas' logs and masks make suspect.
use Rattle.std.specs.Prelude.{ℕ, List, Bool, ◌&&◌, ◌||◌, not}
use Rattle.apollo.specs.declared.Setup.{Setup}
use Rattle.apollo.specs.Bytes.{same}
use Rattle.apollo.specs.Log.{slot, filled}
use Rattle.apollo.specs.Masks.{certified}

-- two slots "hold different blocks": both are filled, and their bytes differ
unfoldable pub differing : (x y : List ℕ) → Bool
differing x y = filled x && filled y && not (same x y)

-- round r is suspect: in it "the two books hold different blocks or one of the two mask lists shows the round"
unfoldable pub suspect : Setup → (log masks other_log other_masks : List ℕ) (r : ℕ) → Bool
suspect s log masks other_log other_masks r =
    differing (slot log r) (slot other_log r) || (certified s masks r || certified s other_masks r)
