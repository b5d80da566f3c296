-- What is printed of a replica after a step.
use Rattle.std.specs.Prelude.{List, [], ◌∷◌, ℕ}
use Rattle.apollo.specs.declared.Replica.{Replica}
use Rattle.text.specs.Fitted.{put_row}

-- replica, the answer's number, R, tip round and committed round, a space between any two
abbrev pub shown : (id number : ℕ) → Replica → List ℕ
shown id number r = put_row 64 [] (id ∷ number ∷ r.round.0 ∷ r.tip_round.0 ∷ r.committed_round.0 ∷ []) (10 ∷ [])
