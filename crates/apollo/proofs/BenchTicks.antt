-- Items 8 and 3 of the bench sheet: the tick that blames, and the one whose blame commits. Assumes nothing.
use Prim.Native.Nat.{ℕ, ◌+◌, ◌-◌, ◌*◌, ◌≤◌}
use mathlib.Core.Path.{◌≡◌, refl, sym, ap, ◌∙◌, subst}
use mathlib.Core.List.{List, [], ◌∷◌, ◌++◌, flatten, append_assoc}
use native.Mathlib.Omega.{arith}
use mathlib.Core.Bool.{true, false}
use lib.Dec.{eqb}
use lib.ListN.{length, take, drop, length-take, length-drop}
use lib.Seq.{take_at}
use borrow.Author.Tests.{eq-eqb, ne_eqb, leb-true}
use Rattle.sha256.specs.Fips.{sha256}
use Rattle.apollo.specs.Size.{frame_size}
use Rattle.apollo.specs.declared.Ticks.{Ticks}
use Rattle.apollo.specs.Setup.{setup_of}
use Rattle.apollo.specs.Frame.{digest, sealed, blame_head, make_blame}
use Rattle.apollo.specs.Replica.{leads, with_round, with_timer}
use Rattle.apollo.specs.Log.{slot, filled, store}
use Rattle.apollo.specs.Masks.{add_blame, certified}
use Rattle.apollo.specs.Enter.{State, Effect, tipped, waiting, hearing, holding, entered, own_block, proposing, enter_round, settle}
use Rattle.apollo.specs.Outcome.{Outcome, taken, state_of}
use Rattle.apollo.specs.Tick.{blaming, ticked, tick_with}
use Rattle.apollo.specs.Calls.{tick_call}
use Rattle.apollo.specs.BenchSheet.{Callable, Blames, Item3, number, new_committed}
use Rattle.apollo.proofs.Tests.{and_first, both, by_cond, cond_true, cond_false}
use Rattle.apollo.proofs.Validity.{ValidOpening, Valid, valid, valid_of}
use Rattle.apollo.proofs.Judging.{passes}
use Rattle.apollo.proofs.Slots.{slot_length, store_other}
use Rattle.apollo.proofs.Made.{block_length, blame_length, blame_round, blame_form_lem, blame_checked}
use Rattle.apollo.proofs.BenchCommit.{third_filled, commits_3, commits_3_led}

module _ {s : State} {out : List ℕ} (c : Callable s out) (entry : List ℕ) (l : length entry ≤ 400) where
  -- what a tick gives, by the ticks left
  tick_1 : s.replica.timer.0 ≡ 1 → tick_call s entry out ≡ taken (blaming sha256 entry s) out
  unfolding tick_with ticked
  tick_1 e =
      passes c entry l _
      ∙ ap (λ (m : Effect). taken m out)
      (cond_false _ _ (ne_eqb s.replica.timer.0 0 (λ z. omega arith))
      ∙ cond_true _ _ (eq-eqb s.replica.timer.0 1 e))

  tick_2 : s.replica.timer.0 ≡ 2
      → tick_call s entry out ≡ taken (record { state = waiting s s.replica.round.0 (s.replica.timer.0 - 1); emitted = [] }) out
  unfolding tick_with ticked
  tick_2 e =
      passes c entry l _
      ∙ ap (λ (m : Effect). taken m out)
      (cond_false _ _ (ne_eqb s.replica.timer.0 0 (λ z. omega arith))
      ∙ cond_false _ _ (ne_eqb s.replica.timer.0 1 (λ z. omega arith)))

  -- with one tick left the blame is emitted
  blames : Blames (setup_of s.replica) (taken (blaming sha256 entry s) out) s.replica.id s.replica.round.0
  unfolding taken blaming flatten
  blames =
      let R : ℕ = s.replica.round.0 in
      let i : ℕ = s.replica.id in
      let f : Valid s.replica s.log = valid s.replica s.log c.valid in
      let e : Effect = settle sha256 entry (hearing (waiting s R 0) R i) R in
      let rest : List ℕ = drop (frame_size * length (make_blame sha256 i R ∷ e.emitted)) out in
      let a : (make_blame sha256 i R ++ flatten e.emitted) ++ rest ≡ make_blame sha256 i R ++ (flatten e.emitted ++ rest) =
      append_assoc (make_blame sha256 i R) (flatten e.emitted) rest in
      let t : take frame_size ((make_blame sha256 i R ++ flatten e.emitted) ++ rest) ≡ make_blame sha256 i R =
      ap (take frame_size) a ∙ take_at (make_blame sha256 i R) _ frame_size (blame_length i R) in
      let high : R ≤ s.replica.last_round.0 = c.running in
      let last : s.replica.last_round.0 ≤ 4096 = f.setup.last_most in
      record {
        taken = refl;
        emitted = omega arith;
        form =
            rw t (blame_form_lem (setup_of s.replica) i R f.setup.id_below f.round_least c.running (omega arith));
        check = rw t (blame_checked i R);
        by = unfold make_blame sealed blame_head in refl;
        for = rw a (blame_round i R (flatten e.emitted ++ rest) (omega arith));
      }

  pub first_blames : s.replica.timer ≡ s.replica.timeout → s.replica.timeout.0 ≡ 1
      → Blames (setup_of s.replica) (tick_call s entry out) s.replica.id s.replica.round.0
  first_blames full e = rw (tick_1 (ap (λ (t : Ticks). t.0) full ∙ e)) blames

-- a state that waits with one tick less is as callable
lower : {s : State} {out : List ℕ} → Callable s out → (out' : List ℕ) → 1024 ≤ length out' → (n : ℕ) → n ≤ s.replica.timeout.0
    → Callable (waiting s s.replica.round.0 n) out'
unfolding waiting leads
lower {s} c out' room n l =
    let f : Valid s.replica s.log = valid s.replica s.log c.valid in
    let g : ValidOpening s.replica s.log = f.setup in
    record {
      valid =
          valid_of (with_timer (with_round s.replica s.replica.round.0) n) s.log (record {
            setup =
                record {
                  id_below = g.id_below;
                  f_least = g.f_least;
                  f_most = g.f_most;
                  timeout_least = g.timeout_least;
                  timeout_most = g.timeout_most;
                  last_least = g.last_least;
                  last_most = g.last_most;
                  size = g.size;
                };
            rotation = f.rotation;
            round_least = f.round_least;
            round_most = f.round_most;
            timer_most = l;
            tip_below = f.tip_below;
            tip_height = f.tip_height;
            committed_most = f.committed_most;
            committed_height_most = f.committed_height_most;
            height_of_committed = f.height_of_committed;
            marks = f.marks;
            waits = f.waits;
          });
      lent = c.lent;
      running = c.running;
      room = room;
    }

pub second_blames : {s : State} {out : List ℕ} → Callable s out → (entry : List ℕ) → length entry ≤ 400 → (entry' out' : List ℕ)
    → length entry' ≤ 400 → 1024 ≤ length out' → s.replica.timer ≡ s.replica.timeout → s.replica.timeout.0 ≡ 2
    → (number (tick_call s entry out) ≡ 0) × ((tick_call s entry out).answer.frames ≡ 0)
    × Blames (setup_of s.replica) (tick_call (state_of (tick_call s entry out)) entry' out') s.replica.id s.replica.round.0
unfolding taken waiting
second_blames {s} {out} c entry l entry' out' l' room full e =
    let t : s.replica.timer.0 ≡ s.replica.timeout.0 = ap (λ (t : Ticks). t.0) full in
    let n : ℕ = s.replica.timer.0 - 1 in
    let w : State = waiting s s.replica.round.0 n in
    let first : tick_call s entry out ≡ taken (record { state = w; emitted = [] }) out = tick_2 c entry l (t ∙ e) in
    let d : Callable w out' = lower c out' room n (omega arith) in
    let second : tick_call w entry' out' ≡ taken (blaming sha256 entry' w) out' = tick_1 d entry' l' (omega arith) in
    let blamed : Blames (setup_of s.replica) (tick_call w entry' out') s.replica.id s.replica.round.0 =
    rw second (blames d entry' l') in (
      ap number first,
      ap (λ (o : Outcome). o.answer.frames) first,
      subst (λ (o : Outcome). Blames (setup_of s.replica) (tick_call (state_of o) entry' out') s.replica.id s.replica.round.0) (sym first) blamed,
    )

-- entering round 5 above chain 1, 3 commits round 3, with an own block in round 5 or without
module _ (entry : List ℕ) (fits : length entry ≤ 400) (s : State) (f : s.replica.f ≡ 1) (five : s.replica.round.0 ≡ 5)
    (size : length s.log ≡ frame_size * s.replica.last_round.0) (low : s.replica.tip_round.0 ≤ s.replica.last_round.0)
    (third : filled (slot s.log 3) ≡ true) (fourth : filled (slot s.log 4) ≡ false) where
  own_length : length (own_block sha256 entry s) ≡ frame_size
  unfolding own_block
  own_length =
      let whole : length (slot s.log s.replica.tip_round.0) ≡ frame_size =
      slot_length s.log s.replica.tip_round.0 (omega arith) in
      block_length _ _ _ (digest (slot s.log s.replica.tip_round.0)) entry (simp (length-take, length-drop, whole) refl) fits

  leads_3 : leads s.replica ≡ true → (entered (proposing sha256 entry s)).replica.committed_round.0 ≡ 3
  unfolding leads entered proposing holding tipped
  leads_3 e =
      let R : ℕ = s.replica.round.0 in
      let last : R ≤ s.replica.last_round.0 = leb-true _ _ (and_first _ _ e) in
      let new : List ℕ = store s.log R (own_block sha256 entry s) in
      let keeps : (q : ℕ) → ¬ (q ≡ R) → slot new q ≡ slot s.log q =
      λ q ne. store_other s.log R (own_block sha256 entry s) q (omega arith) (omega arith) own_length ne in
      commits_3_led _ new f (ap (λ k. k + 1) five) (ap filled (keeps 3 (λ z. omega arith)) ∙ third)
      (ap filled (keeps 4 (λ z. omega arith)) ∙ fourth)

  enters_3 : (enter_round sha256 entry s).state.replica.committed_round.0 ≡ 3
  unfolding enter_round
  enters_3 =
      by_cond (λ (m : Effect). m.state.replica.committed_round.0 ≡ 3) (leads s.replica) leads_3
      (λ _. unfold entered in commits_3 _ s.log f five third)

pub tick_commits : {s : State} {out : List ℕ} → Item3 s out → (entry : List ℕ) → length entry ≤ 400
    → new_committed (tick_call s entry out) ≡ 3
unfolding taken blaming settle hearing waiting
tick_commits {s} {out} h entry l =
    let R : ℕ = s.replica.round.0 in
    let i : ℕ = s.replica.id in
    let v : Valid s.replica s.log = valid s.replica s.log h.callable.valid in
    let certifies : certified (setup_of s.replica) (add_blame s.masks R i) R ≡ true =
    subst (λ k. certified (setup_of s.replica) (add_blame s.masks k i) k ≡ true) (sym h.awaited) h.certifies in
    let third = third_filled s.log h.chain in
    ap new_committed (tick_1 h.callable entry l h.due)
    ∙ ap (λ (m : Effect). m.state.replica.committed_round.0)
    (cond_true _ _ (both (eqb R R) _ (eq-eqb R R refl) certifies))
    ∙ enters_3 entry l (waiting (hearing (waiting s R 0) R i) (R + 1) 0) h.f (ap (λ k. k + 1) h.awaited) v.setup.size
    (omega (arith, v.tip_below, v.round_most)) third.0 third.1
