-- The frames that have a slot in a log.
use Rattle.std.specs.Prelude.{List, [], ◌∷◌, ℕ, ◌*◌, ◌≤◌}
use Rattle.apollo.specs.Size.{frame_size}
use Rattle.apollo.specs.Frame.{round}

-- each frame has the slot of its round in a log of `size` bytes
unfoldable pub Slotted : (size : ℕ) → List (List ℕ) → Type 0
Slotted size [] = Unit {0}
Slotted size (x ∷ xs) = (1 ≤ round x) × (frame_size * round x ≤ size) × Slotted size xs
