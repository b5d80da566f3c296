-- Demand 3's list of calls, at all replicas in the order in which they came, and the world that it leaves. Read and fetch change
-- no record, log or masks: they may stand anywhere, and are left out.
use Rattle.std.specs.Prelude.{ℕ, ◌≡◌, ◌⊎◌, List, [], ◌∷◌, Bool, true, false, cond, eqb}
use Rattle.std.proofs.Math.Option.{Option, none, some}
use Rattle.sha256.specs.Fips.{sha256}
use Rattle.apollo.specs.declared.Marked.{Marked}
use Rattle.apollo.specs.Frame.{frames, frames_of, whole_frames, checked}
use Rattle.apollo.specs.Enter.{State}
use Rattle.apollo.specs.Outcome.{Outcome, state_of}
use Rattle.apollo.specs.Equivocation.{is_pair}
use Rattle.apollo.specs.Calls.{open_call, branch_call, blame_call, blames_call, tick_call, equivocation_call}

-- a call other than open, with the bytes handed in and the buffers lent, whatever they hold
pub data Act : Type 0 where
  branch : (bytes entry out : List ℕ) → Act
  blame : (bytes entry out : List ℕ) → Act
  -- document 02, F-1: a set of blames
  blames : (bytes entry out : List ℕ) → Act
  tick : (entry out : List ℕ) → Act
  -- document 02, F-6: two blocks of one round
  equivocation : (bytes : List ℕ) → Act

-- a call
pub data Call : Type 0 where
  opening : (id f timeout last_round : ℕ) (rotation log masks entry out : List ℕ) → Call
  act : Act → Call

-- what comes to pass: a frame with a right check is handed in; a replica emits a frame (puts it out); a call is answered
pub data Event : Type 0 where
  handed : (frame : List ℕ) → Event
  emitted : (id : ℕ) (frame : List ℕ) → Event
  answered : (number : ℕ) → Event

-- x is in a list
abbrev pub In : {A : Type 0} → A → List A → Type 0
In x [] = ⊥
In x (y ∷ ys) = (x ≡ y) ⊎ In x ys

-- frame x was handed in with a right check, or emitted
abbrev pub Seen : List ℕ → List Event → Type 0
Seen x past = In (handed x) past ⊎ ((i : ℕ) × In (emitted i x) past)

-- the state of each replica, by its number, once an open was taken; and what came to pass, the latest first
pub record World : Type 0 where
  pub states : ℕ → Option State
  pub past : List Event

-- the replicas of a world: those that have opened
abbrev pub is_open : Option State → Bool
is_open none = false
is_open (some c) = true

unfoldable pub present : World → ℕ → Bool
present w i = is_open (w.states i)

-- before the first call
unfoldable pub start : World
start = record { states = λ i. none; past = [] }

-- the frames of a buffer that is whole, as its call asks; any other is cut (refusal 6), and no frame is handed in by it
unfoldable pub uncut : (whole : Bool) (bytes : List ℕ) → List (List ℕ)
uncut whole bytes = cond whole (frames_of bytes) []

-- the frames that a call hands in at a replica in state c, whatever it answers
unfoldable pub frames_in : State → Act → List (List ℕ)
frames_in c (branch bytes entry out) = uncut (whole_frames c.replica.last_round.0 bytes) bytes
frames_in c (blame bytes entry out) = uncut (whole_frames 1 bytes) bytes
frames_in c (blames bytes entry out) = uncut (whole_frames 15 bytes) bytes
frames_in c (tick entry out) = []
frames_in c (equivocation bytes) = uncut (is_pair bytes) bytes

-- the past after some frames were handed in: those with a right check count
unfoldable pub hand : List (List ℕ) → List Event → List Event
hand [] past = past
hand (x ∷ xs) past = hand xs (cond (checked sha256 x) (handed x ∷ past) past)

-- and after replica i emitted some frames
unfoldable pub emit : ℕ → List (List ℕ) → List Event → List Event
emit i [] past = past
emit i (x ∷ xs) past = emit i xs (emitted i x ∷ past)

-- the frames that a call emits: the first of its out buffer
unfoldable pub emitted_by : Outcome → List (List ℕ)
emitted_by o = frames o.answer.frames o.out

-- the past after replica i's answer
unfoldable pub note : ℕ → Outcome → List Event → List Event
note i o past = answered o.answer.number ∷ emit i (emitted_by o) past

-- the world after a call at replica i: its state is the one that the call left
unfoldable pub after : World → ℕ → Outcome → World
after w i o = record { states = λ j. cond (eqb i j) (some (state_of o)) (w.states j); past = note i o w.past }

-- an open; a refused one leaves every state as it was
unfoldable pub opened : World → ℕ → Outcome → World
opened w i o = cond (eqb o.answer.number 0) (after w i o) (record { states = w.states; past = note i o w.past })

-- the outcome of a call that is lent the record alone: log and masks stay, nothing is emitted, and no leader is told
unfoldable pub record_only : State → Marked → Outcome
record_only c m =
    record {
      answer = record { number = m.number; frames = 0; leader = 255; place = m.place; replica = m.replica };
      log = c.log;
      masks = c.masks;
      out = [];
    }

-- what a call answers at a replica in state c
unfoldable pub answer : State → Act → Outcome
answer c (branch bytes entry out) = branch_call c bytes entry out
answer c (blame bytes entry out) = blame_call c bytes entry out
answer c (blames bytes entry out) = blames_call c bytes entry out
answer c (tick entry out) = tick_call c entry out
answer c (equivocation bytes) = record_only c (equivocation_call c.replica bytes)

-- A call at replica i with the state that its last call left: its frames are handed in, and it is answered. Without a state
-- nothing happens, and the premises rule it out.
unfoldable pub call_at : World → ℕ → Option State → Call → World
call_at w i c (opening id f timeout last_round rotation log masks entry out) =
    opened w i (open_call id f timeout last_round rotation log masks entry out)
call_at w i none (act a) = w
call_at w i (some c) (act a) =
    after (record { states = w.states; past = hand (frames_in c a) w.past }) i (answer c a)

-- one call at replica i
unfoldable pub step : World → ℕ → Call → World
step w i d = call_at w i (w.states i) d

-- the world after a list of calls, each at a replica
unfoldable pub run : World → List (ℕ × Call) → World
run w [] = w
run w (e ∷ es) = run (step w e.0 e.1) es
