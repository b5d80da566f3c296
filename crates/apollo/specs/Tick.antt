-- Document 01, "Tick".
use Rattle.std.specs.Prelude.{ℕ, ◌-◌, List, [], ◌∷◌, cond, eqb}
use Rattle.apollo.specs.Frame.{make_blame}
use Rattle.apollo.specs.Enter.{State, Effect, waiting, hearing, settle}
use Rattle.apollo.specs.Outcome.{Outcome, taken, guarded}

module _ (hash : List ℕ → List ℕ) where
  -- ticks left reach 0: the blame for R is emitted, and the own bit set
  unfoldable pub blaming : (entry : List ℕ) → State → Effect
  blaming entry s =
      let R : ℕ = s.replica.round.0 in
      let e : Effect = settle hash entry (hearing (waiting s R 0) R s.replica.id) R in
      record { state = e.state; emitted = make_blame hash s.replica.id R ∷ e.emitted }

  -- ticks left lowered by 1, nothing where they were 0
  unfoldable pub ticked : (entry : List ℕ) → State → Effect
  ticked entry s =
      cond (eqb s.replica.timer.0 0) (record { state = s; emitted = [] })
      (cond (eqb s.replica.timer.0 1) (blaming entry s)
      (record { state = waiting s s.replica.round.0 (s.replica.timer.0 - 1); emitted = [] }))

  -- tick
  unfoldable pub tick_with : State → (entry out : List ℕ) → Outcome
  tick_with s entry out = guarded s entry out (taken (ticked entry s) out)
