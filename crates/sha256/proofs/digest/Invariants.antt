-- The loop's invariant of `sha256::digest`: the hash value is that after i blocks.
use Rattle.std.proofs.Common.{◌≡◌}
use Rattle.sha256.specs.Fips.{H0, hash, padded}
use Rattle.sha256.proofs.digest.Given as goal

abbrev pub invariant-loop-i : goal.invariant-loop-i
invariant-loop-i l = l.h ≡ hash H0 (padded l.s) l.i
