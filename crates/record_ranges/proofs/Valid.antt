-- The definitions that the code's tests make. Assumes nothing.
use mathlib.Core.Path.{◌≡◌}
use mathlib.Core.Bool.{Bool, ◌&&◌, not}
use mathlib.Core.List.{List}
use Prim.Native.Nat.{ℕ}
use lib.ListN.{take}
use Rattle.apollo.specs.declared.Replica.{Replica}
use Rattle.apollo.specs.Bytes.{blank, within}
use Rattle.apollo.specs.Rotation.{is_rotation}
use Rattle.apollo.specs.Setup.{setup_of, replicas, valid_rotation, valid_limits, valid_setup}
use Rattle.apollo.specs.Replica.{leads, valid_own, valid_rounds, valid_marks, valid_record, valid_log, valid_replica}

-- the test of a record, from its parts
pub record_test : (r : Replica) {a t o v m l : Bool} → a ≡ within 1 r.f 7 && within 1 r.last_round.0 4096
    → t ≡ is_rotation (replicas (setup_of r)) (take (replicas (setup_of r)) r.rotation) && blank r.rotation (replicas (setup_of r)) 15
    → o ≡ valid_own r → v ≡ valid_rounds r → m ≡ valid_marks r → l ≡ leads r → a && t && o && v && m && not l ≡ valid_record r
unfolding valid_record valid_setup valid_limits valid_rotation
record_test r a b c d e f = rw (a, b, c, d, e, f)

-- and with its log
pub replica_test : (r : Replica) (log : List ℕ) {v l : Bool} → v ≡ valid_record r → l ≡ valid_log r log → v && l ≡ valid_replica r log
unfolding valid_replica
replica_test r log a b = rw (a, b)
