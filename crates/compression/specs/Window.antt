-- The sixteen words that a round needs of the schedule. Only contracts of private functions speak of them.
use Rattle.std.specs.Prelude.{◌≡◌, ℕ, ◌+◌, ◌%◌, ◌<◌, ◌≤◌, List, length, slice_index}
use Rattle.compression.specs.declared.State.{State}
use Rattle.compression.specs.Fips.{rounds}

-- w holds the sixteen words (fewer at the start) of the schedule W before word t, word u at u % 16
pub record Window (W w : List ℕ) (t : ℕ) : Type 0 where
  pub wide : length w ≡ 16
  pub holds : (u : ℕ) → u < t → t ≤ u + 16 → slice_index w (u % 16) ≡ slice_index W u

-- after t rounds from s over the schedule W: the working variables are v, the words at hand w
pub record Turned (s : State) (W : List ℕ) (t : ℕ) (v : State) (w : List ℕ) : Type 0 where
  pub variables : v ≡ rounds s W t
  pub words : Window W w t
