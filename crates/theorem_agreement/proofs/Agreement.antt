-- Demand 3, and facts beyond it. Assumes what the statements say, and nothing else.
use Prim.Native.Nat.{ℕ, ◌≤◌, ◌<◌}
use mathlib.Core.Path.{◌≡◌, refl, sym, ap, ◌∙◌, subst}
use mathlib.Core.Logic.{◌⊎◌, inl, inr, ⊎_elim}
use mathlib.Core.Option.{Option, none, some}
use mathlib.Core.List.{List, [], ◌∷◌, ◌++◌}
use mathlib.Core.Bool.{Bool, true, false}
use native.Mathlib.Omega.{arith}
use lib.Dec.{leb, eqb}
use borrow.Author.Tests.{leb-true, leb-false}
use Rattle.sha256.specs.Fips.{sha256}
use Rattle.apollo.specs.declared.Setup.{Setup}
use Rattle.apollo.specs.Setup.{setup, replicas}
use Rattle.apollo.specs.Frame.{signer, checked}
use Rattle.apollo.specs.Log.{genesis, slot, chain}
use Rattle.apollo.specs.Enter.{State, commit_limit}
use Rattle.apollo.specs.Committed.{committed_list, committed, Begins}
use Rattle.apollo.specs.Outcome.{Outcome}
use Rattle.theorem_agreement.specs.Run.{Call, opening, act, handed, emitted, In, Seen, World, is_open, present, start, frames_in, hand, after, opened, answer, call_at, step, run}
use Rattle.apollo.specs.Calls.{open_call}
use Rattle.theorem_agreement.specs.Premises.{Each, Lawful, Unforged, Premises}
use Rattle.theorem_agreement.specs.Claim.{Agreed, Agreement, AllCorrect, Beginnings, ByRound, Near, NeverInvalid, OnlyGrows, OpenedLeadersDiffer}
use Rattle.theorem_agreement.proofs.Tests.{and-true, by_cond}
use Rattle.theorem_agreement.proofs.Leaders.{leaders_differ}
use Rattle.theorem_agreement.proofs.Slots.{chain_slots, chain_more, highest_le, highest_grows}
use Rattle.theorem_agreement.proofs.Past.{Grows, seen_grows, hand_grows, Given, hand_back}
use Rattle.theorem_agreement.proofs.Good.{Renewed, committed_low, Extends, extends_refl, extends_trans, limit_grows}
use Rattle.theorem_agreement.proofs.Valid.{valid}
use Rattle.theorem_agreement.proofs.Outcomes.{Fine}
use Rattle.theorem_agreement.proofs.Open.{open_fine}
use Rattle.theorem_agreement.proofs.World.{Inv, Stepped, note_grows, note_handed, step_stepped, start_inv, run_inv}
use Rattle.theorem_agreement.proofs.Honest.{Honest, same_limit, committed_near, no_revert, emitted_stands}

-- a list begins another with which its replica shares the slots up to the committed round
begins : (c d : State) → c.replica.committed_round.0 ≤ d.replica.committed_round.0
    → ((q : ℕ) → 1 ≤ q → q ≤ c.replica.committed_round.0 → slot c.log q ≡ slot d.log q) → Begins (committed c) (committed d)
unfolding committed_list
begins c d l e =
    let n : ℕ = c.replica.committed_round.0 in
    let r : Begins (chain d.log n) (chain d.log d.replica.committed_round.0) = chain_more d.log n _ l in
    (r.0, r.1 ∙ ap (λ xs. xs ++ r.0) (sym (chain_slots c.log d.log n e)))

-- the past grew
step_grows : (w : World) (i : ℕ) (d : Call) → Grows w.past (step w i d).past
unfolding step call_at opened after
step_grows w i (opening id f timeout last rotation log masks entry out) =
    let o : Outcome = open_call id f timeout last rotation log masks entry out in
    by_cond (λ (u : World). Grows w.past u.past) (eqb o.answer.number 0) (λ _. note_grows i o w.past)
    (λ _. note_grows i o w.past)
step_grows w i (act a) = go (w.states i)
  where
    go : (c : Option State) → Grows w.past (call_at w i c (act a)).past
    go none e p = p
    go (some c) e p = note_grows i (answer c a) (hand (frames_in c a) w.past) e (hand_grows (frames_in c a) w.past e p)

-- a frame handed in was handed in before, or by this call
abbrev Handed : World → ℕ → Call → List ℕ → Type 0
Handed w i (opening id f timeout last rotation log masks entry out) x = In (handed x) w.past
Handed w i (act a) x = In (handed x) w.past ⊎ ((c : State) × (w.states i ≡ some c) × Given (handed x) (frames_in c a))

step_handed : (w : World) (i : ℕ) (d : Call) (x : List ℕ) → In (handed x) (step w i d).past → Handed w i d x
unfolding step call_at opened after
step_handed w i (opening id f timeout last rotation log masks entry out) x =
    let o : Outcome = open_call id f timeout last rotation log masks entry out in
    by_cond (λ (u : World). In (handed x) u.past → In (handed x) w.past) (eqb o.answer.number 0)
    (λ _. note_handed i o w.past x) (λ _. note_handed i o w.past x)
step_handed w i (act a) x = go (w.states i) refl
  where
    go : (c : Option State) → w.states i ≡ c → In (handed x) (call_at w i c (act a)).past → Handed w i (act a) x
    go none e p = inl p
    go (some c) e p =
        ⊎_elim inl (λ q. inr (c, e, q))
        (hand_back (frames_in c a) w.past (handed x) (note_handed i (answer c a) (hand (frames_in c a) w.past) x p))

module _ (s : Setup) where
  -- each state stays, and is extended
  run_extends : (es : List (ℕ × Call)) (w : World) → Each (Lawful s) w es → Inv s w → (i : ℕ) (c : State) → w.states i ≡ some c
      → (d : State) × ((run w es).states i ≡ some d) × Extends c d
  unfolding run
  run_extends [] w l v i c e = (c, e, extends_refl c)
  run_extends (a ∷ bs) w l v i c e =
      let t : Stepped s w (step w a.0 a.1) = step_stepped s w a.0 a.1 v l.0 in
      let m : (d : State) × ((step w a.0 a.1).states i ≡ some d) × Extends c d = t.grown i c e in
      let r : (d : State) × ((run (step w a.0 a.1) bs).states i ≡ some d) × Extends m.0 d =
      run_extends bs (step w a.0 a.1) l.1 t.inv i m.0 m.1 in
      (r.0, r.1, extends_trans c m.0 r.0 m.2 r.2)

  -- no frame is forged, so a frame seen that names a correct signer was emitted by it
  module _ (correct : ℕ → Bool) where
    abbrev pub Authentic : World → Type 0
    Authentic w =
        (x : List ℕ) → Seen x w.past → signer x < replicas s → correct (signer x) ≡ true → In (emitted (signer x) x) w.past

    step_authentic : (w : World) (i : ℕ) (d : Call) → Inv s (step w i d) → Unforged s correct w i d → Authentic w → Authentic (step w i d)
    step_authentic w i d v u h x (inr p) l c =
        subst (λ k. In (emitted k x) (step w i d).past) (sym (v.tidy.signed p.0 x p.1)) p.1
    step_authentic w i d v u h x (inl p) l c =
        step_grows w i d (emitted (signer x) x) (unforged d u (step_handed w i d x p))
      where
        unforged : (d : Call) → Unforged s correct w i d → Handed w i d x → In (emitted (signer x) x) w.past
        unforged (opening id f timeout last rotation log masks entry out) u q = h x (inl q) l c
        unforged (act a) u (inl q) = h x (inl q) l c
        unforged (act a) u (inr q) =
            let e : q.2.0 ≡ x = cc q.2.3 in
            u q.0 x q.1 (subst (λ z. In z (frames_in q.0 a)) e q.2.1) (ap (checked sha256) (sym e) ∙ q.2.2) l c

    pub run_authentic : (es : List (ℕ × Call)) (w : World) → Each (Lawful s) w es → Each (Unforged s correct) w es → Inv s w → Authentic w
        → Authentic (run w es)
    unfolding run
    run_authentic [] w l u v h = h
    run_authentic (a ∷ bs) w l u v h =
        let t : Inv s (step w a.0 a.1) = (step_stepped s w a.0 a.1 v l.0).inv in
        run_authentic bs (step w a.0 a.1) l.1 u.1 t (step_authentic w a.0 a.1 t u.0 h)

    pub start_authentic : Authentic start
    unfolding start
    start_authentic x (inl p) = absurd p
    start_authentic x (inr p) = absurd p.1

-- the world of a list that meets the premises
module _ (s : Setup) (correct : ℕ → Bool) (calls : List (ℕ × Call)) (p : Premises s correct calls) where
  abbrev w : World
  w = run start calls

  invariant : Inv s w
  invariant = run_inv s calls start p.lawful (start_inv s)

  pub honest : Honest s correct w.past
  honest =
      record {
        mostly = p.mostly;
        authentic = run_authentic s correct calls start p.lawful p.unforged (start_inv s) (start_authentic s correct);
        patient = p.patient;
        distinct = p.distinct;
        tidy = invariant.tidy;
      }

  -- of two replicas, the second one's R not the lower
  module _ (i j : ℕ) (c d : State) (ec : w.states i ≡ some c) (ed : w.states j ≡ some d) (l : c.replica.round.0 ≤ d.replica.round.0) where
    same_slots : (q : ℕ) → 1 ≤ q → q ≤ commit_limit c.replica → slot c.log q ≡ slot d.log q
    same_slots = same_limit s correct w.past honest i j c d (invariant.good i c ec) (invariant.good j d ed) l

    further : c.replica.committed_round.0 ≤ d.replica.committed_round.0
    further =
        let r : Renewed c.replica c.log = (invariant.rests i c ec).renewed in
        let t : Renewed d.replica d.log = (invariant.rests j d ed).renewed in
        omega (
          arith,
          r.committed_is,
          t.committed_is,
          highest_grows c.log d.log (commit_limit c.replica) (commit_limit d.replica)
              (limit_grows s w.past i c (invariant.good i c ec) j d (invariant.good j d ed) l)
              (λ q o m. sym (same_slots q o (omega (arith, highest_le c.log (commit_limit c.replica))))),
        )

    pub same_committed : (q : ℕ) → 1 ≤ q → q ≤ c.replica.committed_round.0 → slot c.log q ≡ slot d.log q
    same_committed q o m = same_slots q o (omega (arith, committed_low (invariant.rests i c ec).renewed))

    begins_by : Begins (committed c) (committed d)
    begins_by = begins c d further same_committed

  level_by : (i j : ℕ) (c d : State) → w.states i ≡ some c → w.states j ≡ some d → c.replica.round.0 ≡ d.replica.round.0
      → committed c ≡ committed d
  unfolding committed_list
  level_by i j c d ec ed e =
      let k : c.replica.committed_round.0 ≡ d.replica.committed_round.0 =
      omega (arith, further i j c d ec ed (omega arith), further j i d c ed ec (omega arith)) in
      chain_slots c.log d.log _ (same_committed i j c d ec ed (omega arith)) ∙ ap (chain d.log) k

  prefixes : (i j : ℕ) (c d : State) → w.states i ≡ some c → w.states j ≡ some d
      → Begins (committed c) (committed d) ⊎ Begins (committed d) (committed c)
  prefixes i j c d ec ed = go (leb c.replica.round.0 d.replica.round.0) refl
    where
      go : (b : Bool) → leb c.replica.round.0 d.replica.round.0 ≡ b
          → Begins (committed c) (committed d) ⊎ Begins (committed d) (committed c)
      go true e = inl (begins_by i j c d ec ed (leb-true _ _ e))
      go false e =
          let l : d.replica.round.0 < c.replica.round.0 = leb-false _ _ e in
          inr (begins_by j i d c ed ec (omega arith))

pub agreement : Agreement
agreement s correct calls p =
    let inv : Inv s (run start calls) = invariant s correct calls p in
    let h : Honest s correct (run start calls).past = honest s correct calls p in
    record {
      prefixes = prefixes s correct calls p;
      kept = λ a. let r = inv.reverting a in no_revert s correct (run start calls).past h r.0 r.1 r.2 r.3;
      stands = λ i j x c q ci e k m. emitted_stands s correct (run start calls).past h i j x c q (inv.good j c m) ci e k;
    }

pub all_correct : AllCorrect
unfolding present
all_correct s calls p =
    let a : Agreed (present w) w = agreement s (present w) calls p in
    record { prefixes = a.prefixes; kept = a.kept; stands = λ i j x c q _ e. a.stands i j x c q (opened_it i x e (w.states i) refl) e }
  where
    w : World
    w = run start calls

    -- who emitted a frame has opened
    opened_it : (i : ℕ) (x : List ℕ) → In (emitted i x) w.past → (c : Option State) → w.states i ≡ c → is_open (w.states i) ≡ true
    opened_it i x e none z = absurd ((run_inv s calls start p.lawful (start_inv s)).asleep i z x e)
    opened_it i x e (some c) z = ap is_open z

pub by_round : ByRound
by_round s correct calls p i j c d ec ed = (
  λ l. begins_by s correct calls p i j c d ec ed (omega (arith, l)),
  λ e. level_by s correct calls p i j c d ec ed (omega (arith, e)),
)

pub near : Near
near s correct calls p i c e =
    omega (
      arith,
      committed_near s correct (run start calls).past (honest s correct calls p) i c ((invariant s correct calls p).good i c e)
          ((invariant s correct calls p).rests i c e).renewed,
    )

pub never_invalid : NeverInvalid
never_invalid s calls l =
    record {
      states = λ i c e. and-true _ _ (valid s w.past i c (v.good i c e) (v.rests i c e));
      answers = v.valid;
    }
  where
    w : World
    w = run start calls

    v : Inv s w
    v = run_inv s calls start l (start_inv s)

run_append : (es bs : List (ℕ × Call)) (w : World) → run w (es ++ bs) ≡ run (run w es) bs
unfolding run
run_append [] bs w = refl
run_append (e ∷ es) bs w = run_append es bs (step w e.0 e.1)

pub each_append : (P : World → ℕ → Call → Type 0) (es bs : List (ℕ × Call)) (w : World) → Each P w (es ++ bs)
    → Each P w es × Each P (run w es) bs
unfolding run
each_append P [] bs w l = (tt, l)
each_append P (e ∷ es) bs w l =
    let r : Each P (step w e.0 e.1) es × Each P (run (step w e.0 e.1) es) bs = each_append P es bs (step w e.0 e.1) l.1 in
    ((l.0, r.0), r.1)

-- a state after some calls, and after more
pub later : (s : Setup) (calls more : List (ℕ × Call)) → Each (Lawful s) start (calls ++ more) → (i : ℕ) (c : State)
    → (run start calls).states i ≡ some c → (d : State) × ((run start (calls ++ more)).states i ≡ some d) × Extends c d
later s calls more l i c e =
    let p : Each (Lawful s) start calls × Each (Lawful s) (run start calls) more = each_append (Lawful s) calls more start l in
    let r : (d : State) × ((run (run start calls) more).states i ≡ some d) × Extends c d =
    run_extends s more (run start calls) p.1 (run_inv s calls start p.0 (start_inv s)) i c e in
    (r.0, ap (λ (u : World). u.states i) (run_append calls more start) ∙ r.1, r.2)

pub only_grows : OnlyGrows
only_grows s calls more l i c e =
    let r : (d : State) × ((run start (calls ++ more)).states i ≡ some d) × Extends c d = later s calls more l i c e in
    (r.0, r.1, begins c r.0 r.2.further (λ q o n. sym (r.2.same_slots q o n)))

run_grows : (es : List (ℕ × Call)) (w : World) → Grows w.past (run w es).past
unfolding run
run_grows [] w e p = p
run_grows (a ∷ bs) w e p = run_grows bs (step w a.0 a.1) e (step_grows w a.0 a.1 e p)

pub append_grows : (calls more : List (ℕ × Call)) → Grows (run start calls).past (run start (calls ++ more)).past
append_grows calls more e q =
    subst (λ (w : World). In e w.past) (sym (run_append calls more start)) (run_grows more (run start calls) e q)

pub beginnings : Beginnings
beginnings s correct calls more p =
    record {
      lawful = (each_append (Lawful s) calls more start p.lawful).0;
      mostly = p.mostly;
      unforged = (each_append (Unforged s correct) calls more start p.unforged).0;
      distinct = λ x y a b. p.distinct x y (seen x a) (seen y b);
      patient = λ i x c e. p.patient i x c (append_grows calls more (emitted i x) e);
    }
  where
    seen : (x : List ℕ) → (x ≡ genesis) ⊎ Seen x (run start calls).past → (x ≡ genesis) ⊎ Seen x (run start (calls ++ more)).past
    seen x (inl e) = inl e
    seen x (inr q) = inr (seen_grows (run start calls).past (run start (calls ++ more)).past (append_grows calls more) x q)

pub opened_leaders_differ : OpenedLeadersDiffer
unfolding start
opened_leaders_differ id f timeout last rotation log masks entry out e =
    let s : Setup = setup f last rotation in
    let x : (c : State) × Fine s [] id c (open_call id f timeout last rotation log masks entry out) =
    (open_fine s [] id id f timeout last rotation log masks entry out).fine e refl refl refl refl (λ y p. p) (start_inv s).tidy in
    leaders_differ s x.1.standing.good.fixed.turns
