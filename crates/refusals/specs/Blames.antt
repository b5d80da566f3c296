-- Blames judged with the record and the room: refusals 2 to 8, 16, 14 and 10, each with its place.
use Rattle.std.specs.Prelude.{List, cond, ℕ, eqb}
use Rattle.apollo.specs.declared.Replica.{Replica}
use Rattle.apollo.specs.Judging.{Verdict, verdict}
use Rattle.blame_set.specs.Set.{judged_set}
use Rattle.refusals.specs.Number.{guard_of}

unfoldable pub guarded_set : (most : ℕ) → Replica → (log masks bytes : List ℕ) (entry out : ℕ) → Verdict
guarded_set most r log masks bytes entry out =
    cond (eqb (guard_of r log masks entry out) 0) (judged_set most r masks bytes) (verdict (guard_of r log masks entry out) 0)
