-- Document 01, "A card" and "Refusals by number": what open, branch, blame, blames and tick answer and leave behind.
use Rattle.std.specs.Prelude.{ℕ, ◌+◌, ◌*◌, ◌&&◌, not, cond, length, drop, eqb, leb, ltb}
use mathlib.Core.List.{List, ◌++◌, flatten}
use Rattle.apollo.specs.Size.{entry_most, frame_size, out_least}
use Rattle.apollo.specs.declared.Replica.{Replica}
use Rattle.apollo.specs.declared.Answer.{Answer}
use Rattle.apollo.specs.Setup.{setup_of, leader}
use Rattle.apollo.specs.Replica.{valid_replica, valid_masks}
use Rattle.apollo.specs.Enter.{State, Effect}
use Rattle.apollo.specs.Refusal.{bad_replica, rounds_over, out_too_short, entry_too_long}

-- the answer, and the lent buffers after the call
pub record Outcome : Type 0 where
  pub answer : Answer
  pub log : List ℕ
  pub masks : List ℕ
  pub out : List ℕ

-- the same from its parts
abbrev pub outcome : Answer → (log masks out : List ℕ) → Outcome
outcome a log masks out = record { answer = a; log = log; masks = masks; out = out }

-- the state that a call leaves: the record, the log and the masks
abbrev pub state_of : Outcome → State
state_of o = record { replica = o.answer.replica; log = o.log; masks = o.masks }

-- a refusal, with its number and its place
unfoldable pub refused : State → (out : List ℕ) (number place : ℕ) → Outcome
refused s out number place =
    record {
      answer = record { number = number; frames = 0; leader = 255; place = place; replica = s.replica };
      log = s.log;
      masks = s.masks;
      out = out;
    }

-- the leader of R, 255 when R = T + 1
unfoldable pub next_leader : Replica → ℕ
next_leader r = cond (leb r.round.0 r.last_round.0) (leader (setup_of r) r.round.0) 255

-- taken, with the frames emitted at the start of the out buffer
unfoldable pub taken : Effect → (out : List ℕ) → Outcome
taken e out =
    record {
      answer =
          record {
            number = 0;
            frames = length e.emitted;
            leader = next_leader e.state.replica;
            place = 0;
            replica = e.state.replica;
          };
      log = e.state.log;
      masks = e.state.masks;
      out = flatten e.emitted ++ drop (frame_size * length e.emitted) out;
    }

-- refusals 2 to 5 of branch, blame, blames and tick, before what the call answers otherwise
unfoldable pub guarded : State → (entry out : List ℕ) → Outcome → Outcome
guarded s entry out o =
    cond (not (valid_replica s.replica s.log && valid_masks s.replica s.masks)) (refused s out bad_replica 0)
    (cond (eqb s.replica.round.0 (s.replica.last_round.0 + 1)) (refused s out rounds_over 0)
    (cond (ltb (length out) out_least) (refused s out out_too_short 0)
    (cond (ltb entry_most (length entry)) (refused s out entry_too_long 0) o)))
