-- How many slots the search of a commit reads, on logs that calls made (document 02, F-3). T is in neither bound: with as many
-- certified rounds in a row it is the same for a term of 4,096 rounds as for one of 64.
use Rattle.std.specs.Prelude.{ℕ, zero, suc, ◌+◌, ◌≤◌, ◌≡◌, List, cond}
use Rattle.apollo.specs.declared.Setup.{Setup}
use Rattle.apollo.specs.Log.{slots_read}
use Rattle.apollo.specs.Masks.{certified}
use Rattle.apollo.specs.Enter.{State, commit_limit}
use Rattle.theorem_agreement.specs.Cases.{OfLawful, OfPremises, EachState, PremisesMet, StateLeft}

-- the slots that a commit reads in this state; a call commits by the log and the R that it leaves
abbrev pub searched : State → ℕ
searched c = slots_read c.log (commit_limit c.replica)

-- how many rounds in a row, from round r down, are certified (shown)
unfoldable pub certified_run : Setup → (masks : List ℕ) (r : ℕ) → ℕ
certified_run s masks zero = 0
certified_run s masks (suc r) = cond (certified s masks (suc r)) (certified_run s masks r + 1) 0

-- Whatever anyone sent, a commit reads at most one slot more than there are certified rounds in a row from its limit down; a round up to
-- the limit is skipped only if it is certified
abbrev pub ReadsCertified : Type 0
ReadsCertified =
    OfLawful (λ s calls. EachState calls (λ c. searched c ≤ certified_run s c.masks (commit_limit c.replica) + 1))

-- and with the premises of demand 3 at most f + 1 slots
abbrev pub ReadsFew : Type 0
ReadsFew = OfPremises (λ s calls. EachState calls (λ c. searched c ≤ s.f + 1))

-- Neither is true with a slot less: with f = 1, in a list that meets the premises, a replica reads as many as both allow
pub record BoundsReached : Type 0 where
  pub list : PremisesMet
  pub reader : StateLeft list
  pub f_one : list.s.f ≡ 1
  pub by_masks : searched reader.c ≡ certified_run list.s reader.c.masks (commit_limit reader.c.replica) + 1
  pub by_f : searched reader.c ≡ list.s.f + 1
