-- The loop's invariant of `lanes::digest4`: the hash values are those after i blocks.
use Rattle.lanes.proofs.Digest.{Hashed}
use Rattle.lanes.proofs.digest4.Given as goal

abbrev pub invariant-loop-i : goal.invariant-loop-i
invariant-loop-i l = Hashed l.m l.i-counter l.h
