-- Document 01, "A card": the record, its updates, and its ranges; in it the rotation by document 02, F-4, and the marks by F-6.
use Rattle.std.specs.Prelude.{ℕ, ◌+◌, ◌*◌, ◌^◌, List, Bool, ◌&&◌, not, length, eqb, leb, ltb}
use Rattle.apollo.specs.Size.{frame_size}
use Rattle.apollo.specs.declared.Replica.{Replica}
use Rattle.apollo.specs.Bytes.{zeros, within}
use Rattle.apollo.specs.Rotation.{padded}
use Rattle.apollo.specs.Setup.{setup_of, replicas, leader, valid_setup}
use Rattle.apollo.specs.Masks.{set_bit}

-- the record with these in place of R, ticks left, tip, committed and marks
abbrev pub updated : Replica → (round timer tip_round tip_height committed_round committed_height marks : ℕ) → Replica
updated r round timer tip_round tip_height committed_round committed_height marks =
    record {
      id = r.id;
      f = r.f;
      timeout = r.timeout;
      last_round = r.last_round;
      round = record { 0 = round };
      timer = record { 0 = timer };
      tip_round = record { 0 = tip_round };
      tip_height = record { 0 = tip_height };
      committed_round = record { 0 = committed_round };
      committed_height = record { 0 = committed_height };
      rotation = r.rotation;
      equivocators = marks;
    }

-- with another R
abbrev pub with_round : Replica → (round : ℕ) → Replica
with_round r round =
    updated r round r.timer.0 r.tip_round.0 r.tip_height.0 r.committed_round.0 r.committed_height.0
    r.equivocators

-- with other ticks left
abbrev pub with_timer : Replica → (timer : ℕ) → Replica
with_timer r timer =
    updated r r.round.0 timer r.tip_round.0 r.tip_height.0 r.committed_round.0 r.committed_height.0
    r.equivocators

-- with another tip
abbrev pub with_tip : Replica → (round height : ℕ) → Replica
with_tip r round height =
    updated r r.round.0 r.timer.0 round height r.committed_round.0 r.committed_height.0 r.equivocators

-- with another committed round and height
abbrev pub with_committed : Replica → (round height : ℕ) → Replica
with_committed r round height =
    updated r r.round.0 r.timer.0 r.tip_round.0 r.tip_height.0 round height r.equivocators

-- with other marks
abbrev pub with_equivocators : Replica → (marks : ℕ) → Replica
with_equivocators r marks =
    updated r r.round.0 r.timer.0 r.tip_round.0 r.tip_height.0 r.committed_round.0
    r.committed_height.0 marks

-- with card i "marked"
abbrev pub with_mark : Replica → (i : ℕ) → Replica
with_mark r i = with_equivocators r (set_bit i r.equivocators)

-- the record of an open, before entering
unfoldable pub fresh : (id f timeout last_round : ℕ) (rotation : List ℕ) → Replica
fresh id f timeout last_round rotation =
    record {
      id = id;
      f = f;
      timeout = record { 0 = timeout };
      last_round = record { 0 = last_round };
      round = record { 0 = 1 };
      timer = record { 0 = timeout };
      tip_round = record { 0 = 0 };
      tip_height = record { 0 = 0 };
      committed_round = record { 0 = 0 };
      committed_height = record { 0 = 0 };
      rotation = padded rotation;
      equivocators = 0;
    }

-- the record of zeros
unfoldable pub zero_replica : Replica
zero_replica =
    record {
      id = 0;
      f = 0;
      timeout = record { 0 = 0 };
      last_round = record { 0 = 0 };
      round = record { 0 = 0 };
      timer = record { 0 = 0 };
      tip_round = record { 0 = 0 };
      tip_height = record { 0 = 0 };
      committed_round = record { 0 = 0 };
      committed_height = record { 0 = 0 };
      rotation = zeros 15;
      equivocators = 0;
    }

-- R ≤ T, and this replica leads R
unfoldable pub leads : Replica → Bool
leads r = leb r.round.0 r.last_round.0 && eqb (leader (setup_of r) r.round.0) r.id

-- own number and wait
unfoldable pub valid_own : Replica → Bool
valid_own r = ltb r.id (replicas (setup_of r)) && within 1 r.timeout.0 60000

-- R, ticks left, tip and committed
unfoldable pub valid_rounds : Replica → Bool
valid_rounds r =
    within 1 r.round.0 (r.last_round.0 + 1) && leb r.timer.0 r.timeout.0
    && ltb r.tip_round.0 r.round.0 && leb r.tip_height.0 r.tip_round.0
    && leb r.committed_round.0 r.tip_round.0 && leb r.committed_height.0 r.tip_height.0
    && leb r.committed_height.0 r.committed_round.0

-- no mark is "a one at bit n or above"
abbrev pub valid_marks : Replica → Bool
valid_marks r = ltb r.equivocators (2 ^ replicas (setup_of r))

-- the record by itself: all fields in their ranges, and R not led by this replica
unfoldable pub valid_record : Replica → Bool
valid_record r = valid_setup (setup_of r) && valid_own r && valid_rounds r && valid_marks r && not (leads r)

-- one slot a round
abbrev pub valid_log : Replica → (log : List ℕ) → Bool
valid_log r log = eqb (length log) (frame_size * r.last_round.0)

-- one mask a round
abbrev pub valid_masks : Replica → (masks : List ℕ) → Bool
valid_masks r masks = eqb (length masks) r.last_round.0

-- the record with its log
unfoldable pub valid_replica : Replica → (log : List ℕ) → Bool
valid_replica r log = valid_record r && valid_log r log
