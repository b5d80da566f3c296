-- 13 and 12 by the code's tests. Assumes nothing.
use mathlib.Core.Path.{◌≡◌}
use mathlib.Core.Bool.{Bool, true, false}
use mathlib.Core.List.{List}
use Prim.Native.Nat.{ℕ}
use borrow.Author.Tests.{eq-eqb, ne_eqb}
use Rattle.std.specs.Prelude.{Some, None}
use Rattle.apollo.specs.declared.Replica.{Replica}
use Rattle.apollo.specs.declared.Setup.{Setup}
use Rattle.apollo.specs.Setup.{setup_of}
use Rattle.apollo.specs.Frame.{frames_of}
use Rattle.apollo.specs.Branch.{first_uncertified}
use Rattle.apollo.specs.Found.{found}
use Rattle.apollo.proofs.Found.{none_found, some_found}
use Rattle.branch_rounds.specs.Keeps.{keeps_all}
use Rattle.branch.specs.Judge.{refusal, accepted, judged_on}

module _ (r : Replica) (log masks b : List ℕ) (a : ℕ) (s : Setup) (e : s ≡ setup_of r) where
  pub on_gap : (p : ℕ) → Some p ≡ found (first_uncertified s masks a (frames_of b)) → refusal 13 p ≡ judged_on r log masks b a
  unfolding judged_on
  on_gap p h =
      let q = some_found _ p h in
      rw (← e, ne_eqb (first_uncertified s masks a (frames_of b)) 0 (λ z. q.1 (rw q.0 at z)), q.0)

  module _ (h : None ≡ found (first_uncertified s masks a (frames_of b))) (k : Bool) (d : k ≡ keeps_all log a (frames_of b) r.committed_round.0) where
    pub on_undone : k ≡ false → refusal 12 0 ≡ judged_on r log masks b a
    unfolding judged_on
    on_undone z = rw (← e, eq-eqb (first_uncertified s masks a (frames_of b)) 0 (none_found _ h), ← d, z)

    pub on_kept : k ≡ true → accepted a ≡ judged_on r log masks b a
    unfolding judged_on
    on_kept z = rw (← e, eq-eqb (first_uncertified s masks a (frames_of b)) 0 (none_found _ h), ← d, z)
