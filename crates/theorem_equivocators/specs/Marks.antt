-- What a mark says and does (document 02, F-6). Of the premises of demand 3 `Lawful` and `Unforged` are there, each where it is named:
-- how many cards fail, what they blame and which names are shared does not matter here.
use Rattle.std.specs.Prelude.{ℕ, ◌≤◌, ◌≡◌, ◌⊎◌, List, ◌++◌, Bool, true, false}
use Rattle.std.proofs.Math.Option.{some}
use Rattle.apollo.specs.declared.Replica.{Replica}
use Rattle.apollo.specs.declared.Setup.{Setup}
use Rattle.apollo.specs.Setup.{setup_of, replicas}
use Rattle.apollo.specs.Masks.{bit}
use Rattle.apollo.specs.Replica.{with_equivocators, valid_marks}
use Rattle.apollo.specs.Enter.{State, state}
use Rattle.apollo.specs.Outcome.{Outcome}
use Rattle.apollo.specs.Calls.{read_call, fetch_call}
use Rattle.theorem_agreement.specs.Run.{Act, equivocation, Call, start, answer, run}
use Rattle.theorem_agreement.specs.Premises.{Each, Lawful, Unforged}
use Rattle.theorem_agreement.specs.Cases.{OfLawful, EachState, PremisesMet, StateLeft}
use Rattle.theorem_agreement.specs.Marks.{Equivocated}

-- card k is marked in a record
abbrev pub IsMarked : Replica → (k : ℕ) → Type 0
IsMarked r k = bit k r.equivocators ≡ true

-- "a one at bit n or above" is 2: `valid_marks` is just that there is none
abbrev pub HighBits : Type 0
HighBits =
    (r : Replica) → (valid_marks r ≡ true → (k : ℕ) → replicas (setup_of r) ≤ k → bit k r.equivocators ≡ false)
    × (((k : ℕ) → replicas (setup_of r) ≤ k → bit k r.equivocators ≡ false) → valid_marks r ≡ true)

-- A mark stands for two blocks: whoever is marked, two good blocks of one round that it led were seen, and their names differ.
abbrev pub Shown : Type 0
Shown =
    OfLawful (λ s calls. EachState calls (λ c. (k : ℕ) → IsMarked c.replica k → Equivocated s (run start calls).past k))

-- "A sound card is never marked", in the record of any card that keeps the rules of `Lawful`, sound or not, "while no frame is forged"
abbrev pub NeverMarked : Type 0
NeverMarked =
    (s : Setup) (correct : ℕ → Bool) (calls : List (ℕ × Call)) → Each (Lawful s) start calls → Each (Unforged s correct) start calls
    → (i : ℕ) (c : State) → (run start calls).states i ≡ some c → (k : ℕ) → correct k ≡ true → IsMarked c.replica k → ⊥

-- "no mark is ever cleared" from a card's record
abbrev pub NeverCleared : Type 0
NeverCleared =
    (s : Setup) (calls more : List (ℕ × Call)) → Each (Lawful s) start (calls ++ more) → (i : ℕ) (c : State)
    → (run start calls).states i ≡ some c
    → (d : State) × ((run start (calls ++ more)).states i ≡ some d) × ((k : ℕ) → IsMarked c.replica k → IsMarked d.replica k)

-- of any state: a call leaves the very marks that stood, or it is an equivocation, which takes none away
abbrev pub Kept : Type 0
Kept =
    (c : State) (a : Act) → ((answer c a).answer.replica.equivocators ≡ c.replica.equivocators)
    ⊎ ((bytes : List ℕ) × (a ≡ equivocation bytes) × ((k : ℕ) → IsMarked c.replica k → IsMarked (answer c a).answer.replica k))

-- a state, and an outcome, with other marks
abbrev pub remarked : State → (m : ℕ) → State
remarked c m = state (with_equivocators c.replica m) c.log c.masks

unfoldable pub remarked_outcome : Outcome → (m : ℕ) → Outcome
remarked_outcome o m =
    record {
      answer =
          record {
            number = o.answer.number;
            frames = o.answer.frames;
            leader = o.answer.leader;
            place = o.answer.place;
            replica = with_equivocators o.answer.replica m;
          };
      log = o.log;
      masks = o.masks;
      out = o.out;
    }

-- two outcomes are the same but for the marks
abbrev pub SameButMarks : Outcome → Outcome → Type 0
SameButMarks o p = remarked_outcome o 0 ≡ remarked_outcome p 0

-- "Marks change no leader, line or commit": with other marks in the record every call does the same but for the marks, whatever the
-- state. Both have to be valid, since a one at bit n or above is refused with 2.
pub record Aside (r : Replica) (log : List ℕ) (m : ℕ) : Type 0 where
  pub calls : (masks : List ℕ) (a : Act) → SameButMarks (answer (remarked (state r log masks) m) a) (answer (state r log masks) a)
  pub reads : (h : ℕ) → read_call (with_equivocators r m) log h ≡ read_call r log h
  pub fetches : (h : ℕ) (out : List ℕ) → fetch_call (with_equivocators r m) log h out ≡ fetch_call r log h out

abbrev pub MarksAside : Type 0
MarksAside =
    (r : Replica) (log : List ℕ) (m : ℕ) → valid_marks r ≡ true → valid_marks (with_equivocators r m) ≡ true → Aside r log m

-- Marks come: a list that meets all premises of demand 3 ends with a card marked in a correct card's record.
pub record MarksCome : Type 0 where
  pub list : PremisesMet
  pub by : StateLeft list
  pub card : ℕ
  pub sound : list.correct by.i ≡ true
  pub marked : IsMarked by.c.replica card
