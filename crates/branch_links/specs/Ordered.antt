-- What judging and attaching show of a branch.
use Rattle.std.specs.Prelude.{◌≡◌, List, [], ◌∷◌, ℕ, ◌≤◌, ◌<◌, length}
use Rattle.apollo.specs.Size.{frame_size}
use Rattle.apollo.specs.Frame.{round}

-- whole frames with rounds that rise from above lo up to t
unfoldable pub Ordered : (t lo : ℕ) → List (List ℕ) → Type 0
Ordered t lo [] = lo ≤ t
Ordered t lo (x ∷ xs) = (length x ≡ frame_size) × (lo < round x) × Ordered t (round x) xs
