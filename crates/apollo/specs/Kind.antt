-- Document 01, "Frames": the kinds that byte 0 tells, 1 a block and 2 a blame.
use Rattle.std.specs.Prelude.{ℕ, cond, eqb, Result, Ok, Err}
use Rattle.apollo.specs.declared.kind.Kind.{Kind}
use Rattle.apollo.specs.declared.kind.Kind.TheVariants.{Block, Blame}
use Rattle.apollo.specs.declared.kind.UnknownKind.{UnknownKind}

abbrev pub kind_number : Kind → ℕ
kind_number Block = 1
kind_number Blame = 2

-- the kind with this number, else the number
unfoldable pub kind_of : ℕ → Result Kind UnknownKind
kind_of n = cond (eqb n 1) (Ok Block) (cond (eqb n 2) (Ok Blame) (Err (record { 0 = n })))
