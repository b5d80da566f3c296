-- The bytes of an input, one by one, from the piece that was read last.
use Rattle.std.specs.Prelude.{◌≡◌, ◌≢◌, All, cond, List, [], ◌∷◌, ◌++◌, Option, None, Some, ℕ, ◌+◌, ◌<◌, ltb, length, slice_get, take, drop}
use Rattle.std.specs.Option.{option_to_list}
use Rattle.std.specs.Io.KnownBytes.{prepend_known, Consumes}
use Rattle.text.specs.declared.stdin.Piece.{Piece}
use Rattle.text.specs.declared.stdin.End.{End}
use Rattle.text.specs.declared.stdin.End.TheVariants.{Newline, Input}

-- the next byte of the piece, if one is left
unfoldable pub taken : Piece → Option ℕ
taken p = cond (ltb p.at p.end) (slice_get p.bytes p.at) None

-- the piece after its next byte
abbrev pub behind : Piece → Piece
behind p = record { bytes = p.bytes; at = p.at + length (option_to_list (taken p)); end = p.end }

-- a piece of n bytes, which were read to its front
abbrev pub fresh : List ℕ → ℕ → Piece
fresh xs n = record { bytes = xs; at = 0; end = n }

-- where the next byte is taken from, in a step from p to q: what is left of p, else the bytes that were read
abbrev pub source : Piece → Piece → Piece
source p q = cond (ltb p.at p.end) p (fresh q.bytes q.end)

-- a step from p to q, by which o comes: what was read is not known, but it is used from its first byte on, and only once all
-- before is used up
pub record Next (p q : Piece) (o : Option ℕ) : Type 0 where
  pub kept : p.at < p.end → q.bytes ≡ p.bytes
  pub byte : o ≡ taken (source p q)
  pub rest : q ≡ behind (source p q)

-- what is left of the piece
unfoldable pub unread : Piece → List ℕ
unread p = drop p.at (take p.end p.bytes)

-- the bytes still to come: what is left of the piece, and then what reads will give, where that is known
abbrev pub to_come : Piece → Option (List ℕ) → Option (List ℕ)
to_come p left = prepend_known (unread p) left

-- the byte that ended a line, if one did
abbrev pub ending : Option End → List ℕ
ending (Some Newline) = 10 ∷ []
ending (Some Input) = []
ending None = []

-- the bytes between an input before and after were a line and what ended it, and of the line its first m bytes were kept. No line came
-- where nothing ended it
pub record Cut (m : ℕ) (before after : Option (List ℕ)) (kept : List ℕ) (end : Option End) : Type 0 where
  pub line : List ℕ
  pub one : All (λ b. b ≢ 10) line
  pub first : kept ≡ take m line
  pub consumed : Consumes before after (line ++ ending end)
  pub none : end ≡ None → line ≡ []
  pub last : end ≡ Some Input → line ≢ []
