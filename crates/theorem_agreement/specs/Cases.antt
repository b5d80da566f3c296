-- What statements about a list of calls have in common: what the list meets, and whose states they speak of.
use Rattle.std.specs.Prelude.{ℕ, ◌≡◌, List, ◌++◌, Bool}
use Rattle.std.proofs.Math.Option.{some}
use Rattle.apollo.specs.declared.Setup.{Setup}
use Rattle.apollo.specs.Enter.{State}
use Rattle.theorem_agreement.specs.Run.{Call, start, run}
use Rattle.theorem_agreement.specs.Premises.{Each, Lawful, Premises}

-- what holds of every lawful list, whatever anyone sent; s is the set-up that all replicas share
abbrev pub OfLawful : (Setup → (calls : List (ℕ × Call)) → Type 0) → Type 0
OfLawful P = (s : Setup) (calls : List (ℕ × Call)) → Each (Lawful s) start calls → P s calls

-- and of every list that meets demand 3's premises
abbrev pub OfPremises : (Setup → (calls : List (ℕ × Call)) → Type 0) → Type 0
OfPremises P = (s : Setup) (correct : ℕ → Bool) (calls : List (ℕ × Call)) → Premises s correct calls → P s calls

-- of each replica's state c after a list
abbrev pub EachState : (calls : List (ℕ × Call)) → ((c : State) → Type 0) → Type 0
EachState calls P = (i : ℕ) (c : State) → (run start calls).states i ≡ some c → P c

-- of any two replicas' states c and d after it
abbrev pub TwoStates : (calls : List (ℕ × Call)) → ((c d : State) → Type 0) → Type 0
TwoStates calls P =
    (i j : ℕ) (c d : State) → (run start calls).states i ≡ some c → (run start calls).states j ≡ some d → P c d

-- replica i was in state c: after all of the calls, or after the first ones
pub record Had (calls : List (ℕ × Call)) (i : ℕ) (c : State) : Type 0 where
  pub first : List (ℕ × Call)
  pub rest : List (ℕ × Call)
  pub whole : calls ≡ first ++ rest
  pub left : (run start first).states i ≡ some c

-- a list that meets the premises, to show that something comes about
pub record PremisesMet : Type 0 where
  pub s : Setup
  pub correct : ℕ → Bool
  pub calls : List (ℕ × Call)
  pub premises : Premises s correct calls

-- and a replica's state after it
pub record StateLeft (p : PremisesMet) : Type 0 where
  pub i : ℕ
  pub c : State
  pub left : (run start p.calls).states i ≡ some c
