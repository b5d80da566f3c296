-- The digests of four frames.
use Rattle.std.specs.Prelude.{List, [], ◌∷◌, cond, ℕ, eqb, length}
use Rattle.lanes.specs.declared.Four.{Four}
use Rattle.sha256.specs.Fips.{sha256}
use Rattle.apollo.specs.Size.{check_at}
use Rattle.apollo.specs.Bytes.{part, zeros}

abbrev pub four : (d0 d1 d2 d3 : List ℕ) → Four
four d0 d1 d2 d3 = record { 0 = d0 ∷ d1 ∷ d2 ∷ d3 ∷ [] }

-- of each frame that of the bytes before its check; zeros where there are not four frames
unfoldable pub digests : List ℕ → Four
digests b =
    cond (eqb (length b) 2048)
    (four (sha256 (part b 0 check_at)) (sha256 (part b 512 check_at)) (sha256 (part b 1024 check_at)) (sha256 (part b 1536 check_at)))
    (four (zeros 32) (zeros 32) (zeros 32) (zeros 32))
