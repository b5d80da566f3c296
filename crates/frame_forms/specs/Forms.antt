-- The form that a frame of a kind is to have.
use Rattle.std.specs.Prelude.{List, Bool, ℕ}
use Rattle.apollo.specs.declared.Setup.{Setup}
use Rattle.apollo.specs.Frame.{block_form, blame_form}
use Rattle.apollo.specs.declared.kind.Kind.{Kind}
use Rattle.apollo.specs.declared.kind.Kind.TheVariants.{Block, Blame}

-- its test
abbrev pub form_of : Kind → Setup → List ℕ → Bool
form_of Block = block_form
form_of Blame = blame_form
