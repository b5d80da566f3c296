-- The tests of refusals 1 and 2 read as facts about the numbers, and back. Assumes nothing.
use Prim.Native.Nat.{ℕ, ◌+◌, ◌*◌, ◌^◌, ◌≤◌, ◌<◌}
use mathlib.Core.Path.{◌≡◌, ap}
use mathlib.Core.List.{List}
use mathlib.Core.Bool.{true, false, ◌&&◌, not}
use lib.ListN.{length}
use native.Mathlib.Omega.{arith}
use lib.Dec.{leb, ltb}
use borrow.Author.Tests.{ltb-true, leb-true, eqb-true, lt-ltb, le-leb, eq-eqb, not-true, not-false}
use Rattle.apollo.specs.Size.{frame_size}
use Rattle.apollo.specs.declared.Replica.{Replica}
use Rattle.apollo.specs.declared.Setup.{Setup}
use Rattle.apollo.specs.Bytes.{within}
use Rattle.apollo.specs.Setup.{setup, setup_of, replicas, valid_rotation, valid_limits, valid_setup, setup_number}
use Rattle.apollo.specs.Rotation.{is_rotation}
use Rattle.apollo.specs.Replica.{leads, valid_own, valid_rounds, valid_marks, valid_record, valid_log, valid_replica}
use Rattle.apollo.proofs.Tests.{and-true, both, by_cond, within_true, within_of}

-- f and T are in range
pub record Limits (s : Setup) : Type 0 where
  pub f_least : 1 ≤ s.f
  pub f_most : s.f ≤ 7
  pub last_least : 1 ≤ s.last_round.0
  pub last_most : s.last_round.0 ≤ 4096

-- own number, f, wait, T and the length of the log are in range
pub record ValidOpening (r : Replica) (log : List ℕ) : Type 0 where
  pub id_below : r.id < 2 * r.f + 1
  pub f_least : 1 ≤ r.f
  pub f_most : r.f ≤ 7
  pub timeout_least : 1 ≤ r.timeout.0
  pub timeout_most : r.timeout.0 ≤ 60000
  pub last_least : 1 ≤ r.last_round.0
  pub last_most : r.last_round.0 ≤ 4096
  pub size : length log ≡ frame_size * r.last_round.0

-- the other fields are
pub record Valid (r : Replica) (log : List ℕ) : Type 0 where
  pub setup : ValidOpening r log
  pub rotation : valid_rotation (setup_of r) ≡ true
  pub round_least : 1 ≤ r.round.0
  pub round_most : r.round.0 ≤ r.last_round.0 + 1
  pub timer_most : r.timer.0 ≤ r.timeout.0
  pub tip_below : r.tip_round.0 < r.round.0
  pub tip_height : r.tip_height.0 ≤ r.tip_round.0
  pub committed_most : r.committed_round.0 ≤ r.tip_round.0
  pub committed_height_most : r.committed_height.0 ≤ r.tip_height.0
  pub height_of_committed : r.committed_height.0 ≤ r.committed_round.0
  pub marks : r.equivocators < 2 ^ replicas (setup_of r)
  pub waits : leads r ≡ false

pub limits : (s : Setup) → valid_limits s ≡ true → Limits s
unfolding valid_limits
limits s e =
    let a = and-true (within 1 s.f 7) (within 1 s.last_round.0 4096) e in
    let f = within_true 1 s.f 7 a.0 in
    let l = within_true 1 s.last_round.0 4096 a.1 in
    record { f_least = f.0; f_most = f.1; last_least = l.0; last_most = l.1 }

pub valid_opening : (r : Replica) (log : List ℕ) → valid_limits (setup_of r) ≡ true → valid_own r ≡ true → valid_log r log ≡ true
    → ValidOpening r log
unfolding valid_own
valid_opening r log e o s =
    let c = and-true (ltb r.id (replicas (setup_of r))) (within 1 r.timeout.0 60000) o in
    let l : Limits (setup_of r) = limits (setup_of r) e in
    let t : (1 ≤ r.timeout.0) × (r.timeout.0 ≤ 60000) = within_true 1 r.timeout.0 60000 c.1 in
    record {
      id_below = ltb-true r.id (replicas (setup_of r)) c.0;
      f_least = l.f_least;
      f_most = l.f_most;
      timeout_least = t.0;
      timeout_most = t.1;
      last_least = l.last_least;
      last_most = l.last_most;
      size = eqb-true (length log) (frame_size * r.last_round.0) s;
    }

opening_of : (r : Replica) (log : List ℕ) → ValidOpening r log → (valid_limits (setup_of r) ≡ true) × (valid_own r ≡ true)
unfolding valid_limits valid_own
opening_of r log s = (
  both (within 1 r.f 7) (within 1 r.last_round.0 4096) (within_of 1 r.f 7 s.f_least s.f_most)
      (within_of 1 r.last_round.0 4096 s.last_least s.last_most),
  both (ltb r.id (replicas (setup_of r))) (within 1 r.timeout.0 60000) (lt-ltb r.id (replicas (setup_of r)) s.id_below)
      (within_of 1 r.timeout.0 60000 s.timeout_least s.timeout_most),
)

-- 1 and 17 of a set-up: which numbers come, and what it has where none does
module _ (f last : ℕ) (rotation : List ℕ) where
  abbrev lent : Setup
  lent = setup f last rotation

  pub setup_number_lem : (P : ℕ → Type 0) → P 0 → P 1 → P 17 → P (setup_number f last rotation)
  unfolding setup_number
  setup_number_lem P p0 p1 p17 =
      by_cond P (not (valid_limits lent)) (λ _. p1) (λ _. by_cond P (not (is_rotation (replicas lent) rotation)) (λ _. p17) (λ _. p0))

  pub setup_good : setup_number f last rotation ≡ 0 → (valid_limits lent ≡ true) × (is_rotation (replicas lent) rotation ≡ true)
  unfolding setup_number
  setup_good e =
      by_cond (λ n. n ≡ 0 → Good) (not (valid_limits lent)) (λ l v. absurd (omega (arith, v)))
      (λ l. by_cond (λ n. n ≡ 0 → Good) (not (is_rotation (replicas lent) rotation)) (λ t v. absurd (omega (arith, v)))
      (λ t v. (not-false _ l, not-false _ t))) e
    where
      Good : Type 0
      Good = (valid_limits lent ≡ true) × (is_rotation (replicas lent) rotation ≡ true)

  pub setup_none : valid_limits lent ≡ true → is_rotation (replicas lent) rotation ≡ true → setup_number f last rotation ≡ 0
  unfolding setup_number
  setup_none l t = rw (l, t)

-- the parts of a record's test
record Parts (r : Replica) : Type 0 where
  limited : valid_limits (setup_of r) ≡ true
  rotation : valid_rotation (setup_of r) ≡ true
  own : valid_own r ≡ true
  rounds : valid_rounds r ≡ true
  marks : valid_marks r ≡ true
  waits : leads r ≡ false

parts : (r : Replica) → valid_record r ≡ true → Parts r
unfolding valid_record valid_setup
parts r e =
    let a = and-true _ (not (leads r)) e in
    let m = and-true _ (valid_marks r) a.0 in
    let v = and-true _ (valid_rounds r) m.0 in
    let o = and-true _ (valid_own r) v.0 in
    let n = and-true (valid_limits (setup_of r)) (valid_rotation (setup_of r)) o.0 in
    record { limited = n.0; rotation = n.1; own = o.1; rounds = v.1; marks = m.1; waits = not-true (leads r) a.1 }

-- a record by itself: few cards, whose rotation is valid
pub record_turns : (r : Replica) → valid_record r ≡ true → (r.f ≤ 7) × (valid_rotation (setup_of r) ≡ true)
record_turns r e = let p : Parts r = parts r e in ((limits (setup_of r) p.limited).f_most, p.rotation)

pub valid : (r : Replica) (log : List ℕ) → valid_replica r log ≡ true → Valid r log
unfolding valid_replica valid_rounds
valid r log e =
    let z = and-true (valid_record r) (valid_log r log) e in
    let p : Parts r = parts r z.0 in
    let b = and-true _ (leb r.committed_height.0 r.committed_round.0) p.rounds in
    let c = and-true _ (leb r.committed_height.0 r.tip_height.0) b.0 in
    let d = and-true _ (leb r.committed_round.0 r.tip_round.0) c.0 in
    let g = and-true _ (leb r.tip_height.0 r.tip_round.0) d.0 in
    let h = and-true _ (ltb r.tip_round.0 r.round.0) g.0 in
    let k = and-true (within 1 r.round.0 (r.last_round.0 + 1)) (leb r.timer.0 r.timeout.0) h.0 in
    let w : (1 ≤ r.round.0) × (r.round.0 ≤ r.last_round.0 + 1) =
    within_true 1 r.round.0 (r.last_round.0 + 1) k.0 in
    record {
      setup = valid_opening r log p.limited p.own z.1;
      rotation = p.rotation;
      round_least = w.0;
      round_most = w.1;
      timer_most = leb-true r.timer.0 r.timeout.0 k.1;
      tip_below = ltb-true r.tip_round.0 r.round.0 h.1;
      tip_height = leb-true r.tip_height.0 r.tip_round.0 g.1;
      committed_most = leb-true r.committed_round.0 r.tip_round.0 d.1;
      committed_height_most = leb-true r.committed_height.0 r.tip_height.0 c.1;
      height_of_committed = leb-true r.committed_height.0 r.committed_round.0 b.1;
      marks = ltb-true r.equivocators (2 ^ replicas (setup_of r)) p.marks;
      waits = p.waits;
    }

rounds_of : (r : Replica) (log : List ℕ) → Valid r log → valid_rounds r ≡ true
unfolding valid_rounds
rounds_of r log s =
    both _ (leb r.committed_height.0 r.committed_round.0)
    (both _ (leb r.committed_height.0 r.tip_height.0)
    (both _ (leb r.committed_round.0 r.tip_round.0)
    (both _ (leb r.tip_height.0 r.tip_round.0)
    (both _ (ltb r.tip_round.0 r.round.0)
    (both (within 1 r.round.0 (r.last_round.0 + 1)) (leb r.timer.0 r.timeout.0)
    (within_of 1 r.round.0 (r.last_round.0 + 1) s.round_least s.round_most)
    (le-leb r.timer.0 r.timeout.0 s.timer_most))
    (lt-ltb r.tip_round.0 r.round.0 s.tip_below))
    (le-leb r.tip_height.0 r.tip_round.0 s.tip_height))
    (le-leb r.committed_round.0 r.tip_round.0 s.committed_most))
    (le-leb r.committed_height.0 r.tip_height.0 s.committed_height_most))
    (le-leb r.committed_height.0 r.committed_round.0 s.height_of_committed)

pub valid_of : (r : Replica) (log : List ℕ) → Valid r log → valid_replica r log ≡ true
unfolding valid_replica valid_record valid_setup
valid_of r log s =
    let o = opening_of r log s.setup in
    both (valid_record r) (valid_log r log)
    (both _ (not (leads r))
    (both _ (ltb r.equivocators (2 ^ replicas (setup_of r)))
    (both _ (valid_rounds r)
    (both (valid_limits (setup_of r) && valid_rotation (setup_of r)) (valid_own r)
    (both (valid_limits (setup_of r)) (valid_rotation (setup_of r)) o.0 s.rotation) o.1) (rounds_of r log s))
    (lt-ltb r.equivocators (2 ^ replicas (setup_of r)) s.marks))
    (ap not s.waits))
    (eq-eqb (length log) (frame_size * r.last_round.0) s.setup.size)
