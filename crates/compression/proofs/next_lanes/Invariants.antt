-- The loop's invariant of `compression::next_lanes`: the lanes below l are sixteen rounds further.
use Rattle.std.proofs.Common.{ℕ, ◌+◌, ◌*◌, List}
use Rattle.compression.specs.declared.State.{State}
use Rattle.compression.specs.declared.Lanes.{Lanes}
use Rattle.compression.specs.Fips.{schedule}
use Rattle.compression.specs.Window.{Turned}
use Rattle.compression.specs.Lanes.{words_at, state_at, AllTurned}
use Rattle.compression.proofs.Rows.{Upto}
use Rattle.compression.proofs.next_lanes.Given as goal

abbrev pub At : {L : ℕ} → (ℕ → State) → (ℕ → List ℕ) → ℕ → Lanes L → List (List ℕ) → ℕ → Type 0
At h b t v w m = Turned (h m) (schedule (b m) 64) t (state_at v m) (words_at w m)

abbrev pub invariant-loop-l : goal.invariant-loop-l
invariant-loop-l g l =
    (h : ℕ → State) (b : ℕ → List ℕ) → AllTurned h b (16 * l.n) l.initial.v l.initial.w
    → Upto g.row.L l.l (At h b (16 * l.n + 16) l.v l.w) (At h b (16 * l.n) l.v l.w)
