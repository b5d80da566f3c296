-- The bytes that the words of a line take of the input.
use Rattle.std.specs.Prelude.{◌≢◌, All, ℕ, List, [], ◌∷◌, ◌++◌, Option, None, Some}
use Rattle.std.specs.Io.KnownBytes.{Consumes}
use Rattle.text.specs.Reading.{ending}
use Rattle.text.specs.declared.stdin.End.{End}

-- what is taken where a word's next byte is asked for: what ended the line, else that byte, else the space behind the word
abbrev pub taken_by : Option End → Option ℕ → List ℕ
taken_by (Some end) b = ending (Some end)
taken_by None (Some b) = b ∷ []
taken_by None None = 32 ∷ []

-- the bytes between an input before and after are of one line, up to what ended it if anything did
pub record OfLine (before after : Option (List ℕ)) (end : Option End) : Type 0 where
  pub bytes : List ℕ
  pub no_end : All (λ b. b ≢ 10) bytes
  pub consumed : Consumes before after (bytes ++ ending end)
