-- A branch judged with the record and the room: refusals 2 to 13, each with its place.
use Rattle.std.specs.Prelude.{List, cond, ℕ, eqb}
use Rattle.apollo.specs.declared.Replica.{Replica}
use Rattle.branch.specs.Judge.{Judged, refusal, judged_branch}
use Rattle.refusals.specs.Number.{guard_of}

unfoldable pub guarded_branch : Replica → (log masks bytes : List ℕ) (entry out : ℕ) → Judged
guarded_branch r log masks bytes entry out =
    cond (eqb (guard_of r log masks entry out) 0) (judged_branch r log masks bytes)
    (refusal (guard_of r log masks entry out) 0)
