-- Document 01, "Frames" and "A card": what all replicas (cards) share, their number, the leader of a round, and the ranges; the rotation by
-- document 02, F-4.
use Rattle.std.specs.Prelude.{ℕ, ◌+◌, ◌-◌, ◌*◌, ◌%◌, List, Bool, ◌&&◌, not, cond, take, get_or}
use Rattle.apollo.specs.declared.Replica.{Replica}
use Rattle.apollo.specs.declared.Setup.{Setup}
use Rattle.apollo.specs.Bytes.{blank, within}
use Rattle.apollo.specs.Rotation.{is_rotation, padded}
use Rattle.apollo.specs.Refusal.{bad_setup, bad_rotation}

-- the set-up from its parts: f, the last round (T), and the rotation (seating)
abbrev pub setup : (f last_round : ℕ) (rotation : List ℕ) → Setup
setup f last_round rotation = record { f = f; last_round = record { 0 = last_round }; rotation = padded rotation }

-- the set-up in a record
abbrev pub setup_of : Replica → Setup
setup_of r = record { f = r.f; last_round = r.last_round; rotation = r.rotation }

-- n
abbrev pub replicas : Setup → ℕ
replicas s = 2 * s.f + 1

-- the leader of round r: "the seat (r − 1) mod n"
unfoldable pub leader : Setup → ℕ → ℕ
leader s r = get_or s.rotation ((r - 1) % replicas s) 0

-- the first n seats are a rotation of the n cards, and it is "zero past n"
unfoldable pub valid_rotation : Setup → Bool
valid_rotation s = is_rotation (replicas s) (take (replicas s) s.rotation) && blank s.rotation (replicas s) 15

-- f (1–7) and T (1–4,096)
unfoldable pub valid_limits : Setup → Bool
valid_limits s = within 1 s.f 7 && within 1 s.last_round.0 4096

-- a set-up by itself
unfoldable pub valid_setup : Setup → Bool
valid_setup s = valid_limits s && valid_rotation s

-- 1 and 17 of f, T and the rotation as they are lent, with no record; 0 if there is none
unfoldable pub setup_number : (f last_round : ℕ) (rotation : List ℕ) → ℕ
setup_number f last_round rotation =
    cond (not (valid_limits (setup f last_round rotation))) bad_setup
    (cond (not (is_rotation (replicas (setup f last_round rotation)) rotation)) bad_rotation 0)
