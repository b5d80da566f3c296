-- A tick behind its refusals. Assumes nothing.
use mathlib.Core.Path.{◌≡◌, refl, sym, ap, ap₂, ◌∙◌}
use mathlib.Core.Bool.{Bool, true, false, cond}
use mathlib.Core.List.{List, [], ◌∷◌, ◌++◌, flatten, append_assoc, append-nil}
use Prim.Native.Nat.{ℕ, suc, ◌+◌, ◌-◌, ◌*◌, ◌≤◌, ◌<◌}
use native.Mathlib.Numerals.{add-one}
use native.Mathlib.Omega.{arith}
use lib.Dec.{eqb}
use lib.ListN.{length, take, drop, length-drop, drop_of_length-le}
use lib.Seq.{take_at, drop_at, take_all, drop-drop}
use borrow.Rule.Slice.PartMut.{put_mid}
use borrow.Author.Tests.{eq-eqb, ne_eqb, eqb-true}
use Rattle.std.specs.Prelude.{Result, Ok}
use Rattle.sha256.specs.Fips.{sha256}
use Rattle.apollo.specs.Size.{frame_size}
use Rattle.apollo.specs.declared.Replica.{Replica}
use Rattle.apollo.specs.declared.Answer.{Answer}
use Rattle.apollo.specs.declared.refusal.Refusal.{Refusal}
use Rattle.apollo.specs.Frame.{make_blame}
use Rattle.apollo.specs.Replica.{valid_record, with_timer}
use Rattle.apollo.specs.Enter.{State, Effect, waiting, hearing, settle, state}
use Rattle.apollo.specs.Outcome.{Outcome, next_leader, taken, outcome}
use Rattle.apollo.specs.Refused.{refusal_of}
use Rattle.apollo.specs.Tick.{blaming, ticked, tick_with}
use Rattle.apollo.proofs.Numbers.{taken_none}
use Rattle.apollo.proofs.Made.{blame_length}
use Rattle.refusals.specs.Number.{guard_number, guard_of}
use Rattle.refusals.proofs.Number.{guard_of_lem}
use Rattle.refusals.proofs.Passed.{Passed, passed}
use Rattle.refusals.proofs.Answer.{guarded_by}
use Rattle.tip.specs.Ready.{Ready}
use Rattle.rounds.specs.Rounds.{told}
use Rattle.rounds.proofs.Few.{settle_few}
use Rattle.calls.specs.Refused.{refused_answer}
use Rattle.calls.proofs.Answers.{refused_by, taken_by, passed_ready}

-- an answer with one more frame
abbrev pub more : Answer → Answer
more a =
    record { number = a.number; frames = a.frames + 1; leader = a.leader; place = a.place; replica = a.replica }

-- a frame before those of an effect
before : (B out : List ℕ) (F : List (List ℕ)) → B ++ (flatten F ++ drop (frame_size * length F) (drop frame_size out))
    ≡ flatten (B ∷ F) ++ drop (frame_size * length (B ∷ F)) out
unfolding flatten
before B out F =
    let e : frame_size + frame_size * length F ≡ frame_size * suc (length F) = omega arith in
    sym (append_assoc B (flatten F) (drop (frame_size * length F) (drop frame_size out)))
    ∙ ap (λ (y : List ℕ). (B ++ flatten F) ++ y) (drop-drop (frame_size * length F) frame_size out ∙ ap (λ (k : ℕ). drop k out) e)

taken_more : (B out log masks y : List ℕ) (e : Effect) (a : Answer) → outcome a log masks y ≡ taken e (drop frame_size out)
    → outcome (more a) log masks (B ++ y) ≡ taken (record { state = e.state; emitted = B ∷ e.emitted }) out
unfolding taken
taken_more B out log masks y e a h =
    ap (λ (o : Outcome). outcome (more o.answer) o.log o.masks (B ++ o.out)) h
    ∙ ap₂
    (λ (k : ℕ) (z : List ℕ). outcome (taken_frames k) e.state.log e.state.masks z)
    (add-one (length e.emitted))
    (before B out e.emitted)
  where
    taken_frames : ℕ → Answer
    taken_frames k =
        record { number = 0; frames = k; leader = next_leader e.state.replica; place = 0; replica = e.state.replica }

module _ (r : Replica) (log masks entry out : List ℕ) where
  counted : (r.timer.0 ≡ 1 → ⊥) → (b : Bool) → eqb r.timer.0 0 ≡ b
      → outcome (told (with_timer r (r.timer.0 - 1)) 0) log masks out
      ≡ taken (cond b (record { state = state r log masks; emitted = [] })
      (cond (eqb r.timer.0 1) (blaming sha256 entry (state r log masks))
      (record { state = waiting (state r log masks) r.round.0 (r.timer.0 - 1); emitted = [] }))) out
  unfolding waiting taken flatten
  counted k true e =
      let z : r.timer.0 ≡ 0 = eqb-true r.timer.0 0 e in
      let d : r.timer.0 - 1 ≡ r.timer.0 = omega arith in
      rw d
  counted k false e = rw (ne_eqb r.timer.0 1 k)

  module _ (n : ℕ) (en : n ≡ guard_of r log masks (length entry) (length out)) where
    pub tick_refused : (a : Answer) → (n ≡ 0 → ⊥) → a ≡ refused_answer r n 0
        → outcome a log masks out ≡ tick_with sha256 (state r log masks) entry out
    unfolding tick_with
    tick_refused a h ea = refused_by (state r log masks) out _ _ n en a h ea ∙ sym (guarded_by (state r log masks) entry out _)

  -- taken, by the record's test and the guard's result
  module _ {T : Type 0} {v : Bool} {g : Result T Refusal} {x : T} (ev : v ≡ valid_record r)
      (eg : refusal_of g ≡ guard_number v r log masks (length entry) (length out)) (ok : g ≡ Ok x) where
    unrefused : guard_of r log masks (length entry) (length out) ≡ 0
    unrefused = taken_none g _ (guard_of_lem _ _ _ _ _ ev eg) x ok

    pub tick_passed : Passed r log (length entry) (length out)
    tick_passed = passed r log masks (length entry) (length out) unrefused

    tick_effect : (o : Outcome) → o ≡ taken (ticked sha256 entry (state r log masks)) out
        → o ≡ tick_with sha256 (state r log masks) entry out
    unfolding tick_with
    tick_effect o e = e ∙ taken_by (state r log masks) out _ _ _ refl unrefused ∙ sym (guarded_by (state r log masks) entry out _)

    pub tick_down : (a : Answer) → (r.timer.0 ≡ 1 → ⊥) → a ≡ told (with_timer r (r.timer.0 - 1)) 0
        → outcome a log masks out ≡ tick_with sha256 (state r log masks) entry out
    unfolding ticked
    tick_down a k ea =
        tick_effect (outcome a log masks out)
        (ap (λ (x : Answer). outcome x log masks out) ea ∙ counted k (eqb r.timer.0 0) refl)

    -- ticks left reach 0: what is heard on the out buffer after the blame
    module _ (out' : List ℕ) (eo : out' ≡ make_blame sha256 r.id r.round.0 ++ drop frame_size out) where
      after_blame : take (length out' - frame_size) (drop frame_size out') ≡ drop frame_size out
      after_blame =
          let l : length (drop frame_size out') ≤ length out' - frame_size = rw length-drop (omega arith) in
          take_all (length out' - frame_size) (drop frame_size out') l ∙ ap (drop frame_size) eo ∙ drop_at (make_blame sha256 r.id r.round.0) (drop frame_size out) frame_size (blame_length r.id r.round.0)

      pub tick_asks : (q : Replica) → q ≡ with_timer r 0
          → Ready q log entry (take (length out' - frame_size) (drop frame_size out')) × (q.round.0 ≤ q.last_round.0) × (r.id < 16)
      tick_asks q eq =
          let p = tick_passed in
          rw (after_blame, eq)
          (passed_ready r log entry out p 0 (drop frame_size out) (rw length-drop (omega (arith, p.out_room))), p.round_last, omega (arith, p.valid.setup.id_below, p.valid.setup.f_most))

      pub tick_out : (y log' masks' : List ℕ) (q : Replica) (a : Answer) → r.timer.0 ≡ 1 → q ≡ with_timer r 0
          → outcome a log' masks' y
          ≡ taken (settle sha256 entry (hearing (state q log masks) r.round.0 r.id) r.round.0) (take (length out' - frame_size) (drop frame_size out'))
          → outcome (more a) log' masks' (put_mid frame_size (length out' - frame_size) out' y)
          ≡ tick_with sha256 (state r log masks) entry out
      unfolding ticked blaming waiting
      tick_out y log' masks' q a t eq h =
          let R : ℕ = r.round.0 in
          let B : List ℕ = make_blame sha256 r.id R in
          let s : State = waiting (state r log masks) R 0 in
          let f : take frame_size out' ≡ B = ap (take frame_size) eo ∙ take_at B (drop frame_size out) frame_size (blame_length r.id R) in
          let l : length (drop frame_size out') ≤ length out' - frame_size = rw length-drop (omega arith) in
          let p : put_mid frame_size (length out' - frame_size) out' y ≡ B ++ y = rw (f, drop_of_length-le (drop frame_size out') l, append-nil) in
          let e : outcome a log' masks' y ≡ taken (settle sha256 entry (hearing s R r.id) R) (drop frame_size out) = rw (eq, after_blame) at h in
          tick_effect (outcome (more a) log' masks' (put_mid frame_size (length out' - frame_size) out' y))
          (rw (ne_eqb r.timer.0 0 (omega arith), eq-eqb r.timer.0 1 t)
          (ap (outcome (more a) log' masks') p ∙ taken_more B out log' masks' y (settle sha256 entry (hearing s R r.id) R) a e))

-- a blame that is heard emits at most one frame
pub frames_few : (entry out log masks y : List ℕ) (s : State) (k : ℕ) (a : Answer)
    → outcome a log masks y ≡ taken (settle sha256 entry s k) out → a.frames ≤ 1
unfolding taken
frames_few entry out log masks y s k a e =
    let n : a.frames ≡ length (settle sha256 entry s k).emitted = ap (λ (o : Outcome). o.answer.frames) e in
    omega (arith, settle_few entry s k)
