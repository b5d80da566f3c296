-- A blame that is heard emits at most one frame. Assumes nothing.
use mathlib.Core.Bool.{Bool, true, false, ◌&&◌, cond}
use mathlib.Core.List.{List, [], ◌∷◌}
use Prim.Native.Nat.{ℕ, ◌+◌, ◌≤◌}
use native.Mathlib.Omega.{arith}
use lib.Dec.{eqb}
use lib.ListN.{length}
use Rattle.sha256.specs.Fips.{sha256}
use Rattle.apollo.specs.Setup.{setup_of}
use Rattle.apollo.specs.Masks.{certified}
use Rattle.apollo.specs.Replica.{leads}
use Rattle.apollo.specs.Enter.{State, Effect, waiting, entered, enter_round, settle, proposing, own_block}

either : (b : Bool) (x y : Effect) → length x.emitted ≤ 1 → length y.emitted ≤ 1 → length (cond b x y).emitted ≤ 1
either true x y h k = h
either false x y h k = k

enter_few : (entry : List ℕ) (s : State) → length (enter_round sha256 entry s).emitted ≤ 1
unfolding enter_round
enter_few entry s = either (leads s.replica) (record { state = entered (proposing sha256 entry s); emitted = own_block sha256 entry s ∷ [] }) _ (omega arith) (omega arith)

pub settle_few : (entry : List ℕ) (s : State) (r : ℕ) → length (settle sha256 entry s r).emitted ≤ 1
unfolding settle
settle_few entry s r =
    let t : State = waiting s (r + 1) s.replica.timer.0 in
    either (eqb r s.replica.round.0 && certified (setup_of s.replica) s.masks r) (enter_round sha256 entry t)
    (record { state = s; emitted = [] }) (enter_few entry t) (omega arith)
