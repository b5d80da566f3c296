-- The invariant of every list of calls that keeps the rules about opens. Assumes nothing.
use Prim.Native.Nat.{ℕ, ◌<◌}
use mathlib.Core.Path.{◌≡◌, refl, sym, ap, ◌∙◌, subst}
use mathlib.Core.Logic.{◌⊎◌, inl, inr, ◌≢◌, ⊎_elim}
use mathlib.Core.Option.{Option, none, some}
use mathlib.Core.List.{List, [], ◌∷◌}
use mathlib.Core.Bool.{Bool, true, false, cond}
use native.Mathlib.Omega.{arith}
use lib.Dec.{eqb}
use borrow.Author.Tests.{eqb-true, eqb-false}
use Rattle.apollo.specs.declared.Setup.{Setup}
use Rattle.apollo.specs.Frame.{kind, round, frames_of, whole_frames}
use Rattle.apollo.specs.Enter.{State}
use Rattle.apollo.specs.Outcome.{Outcome, state_of}
use Rattle.apollo.specs.Equivocation.{is_pair}
use Rattle.apollo.specs.Calls.{open_call}
use Rattle.theorem_agreement.specs.Run.{Act, branch, blame, blames, tick, equivocation, Call, opening, act, Event, handed, emitted, answered, In, World, start, uncut, frames_in, hand, emit, emitted_by, note, after, opened, answer, call_at, step, run}
use Rattle.theorem_agreement.specs.Premises.{Each, Lawful}
use Rattle.theorem_agreement.proofs.Tests.{by_cond, cond_true}
use Rattle.theorem_agreement.proofs.Past.{Grows, emitted_is, emit_grows, emit_back, hand_grows, hand_in, Given, hand_back}
use Rattle.theorem_agreement.proofs.Stored.{stored_map}
use Rattle.theorem_agreement.proofs.Good.{Rested, Extends, extends_refl, Good, good_grows}
use Rattle.theorem_agreement.proofs.Effects.{Tidy, Standing}
use Rattle.theorem_agreement.proofs.Adopt.{Known}
use Rattle.theorem_agreement.proofs.Outcomes.{Reverts, Fine}
use Rattle.theorem_agreement.proofs.Tick.{tick_fine}
use Rattle.theorem_agreement.proofs.Blame.{handing_fine}
use Rattle.theorem_agreement.proofs.Branch.{branch_fine}
use Rattle.theorem_agreement.proofs.Equivocation.{equivocation_fine}
use Rattle.theorem_agreement.proofs.Open.{OpenFine, open_fine}

-- what an answer adds to the past: itself, and frames that its replica emitted
pub note_grows : (i : ℕ) (o : Outcome) (past : List Event) → Grows past (note i o past)
unfolding note
note_grows i o past e p = inr (emit_grows i (emitted_by o) past e p)

note_back : (i : ℕ) (o : Outcome) (past : List Event) (e : Event) → In e (note i o past)
    → In e past ⊎ ((e ≡ answered o.answer.number) ⊎ ((x : List ℕ) × (e ≡ emitted i x)))
unfolding note
note_back i o past e (inl p) = inr (inl p)
note_back i o past e (inr p) = ⊎_elim inl (λ q. inr (inr q)) (emit_back i (emitted_by o) past e p)

note_answered : (i : ℕ) (o : Outcome) (past : List Event) (k : ℕ) → In (answered k) (note i o past)
    → (o.answer.number ≡ k) ⊎ In (answered k) past
note_answered i o past k p = go (note_back i o past (answered k) p)
  where
    go : In (answered k) past ⊎ ((answered k ≡ answered o.answer.number) ⊎ ((x : List ℕ) × (answered k ≡ emitted i x)))
        → (o.answer.number ≡ k) ⊎ In (answered k) past
    go (inl q) = inr q
    go (inr (inl q)) = inl (cc)
    go (inr (inr q)) = let e : answered k ≡ emitted i q.0 = q.1 in let z : ◌≡◌ {A = ℕ} 0 1 = cc in absurd (omega arith)

note_other : (i : ℕ) (o : Outcome) (past : List Event) (j : ℕ) (x : List ℕ) → j ≢ i → In (emitted j x) (note i o past)
    → In (emitted j x) past
note_other i o past j x ne p = go (note_back i o past (emitted j x) p)
  where
    go : In (emitted j x) past ⊎ ((emitted j x ≡ answered o.answer.number) ⊎ ((y : List ℕ) × (emitted j x ≡ emitted i y)))
        → In (emitted j x) past
    go (inl q) = q
    go (inr (inl q)) = let z : ◌≡◌ {A = ℕ} 0 1 = cc in absurd (omega arith)
    go (inr (inr q)) = absurd (ne (emitted_is j i x q.0 q.1).0)

pub note_handed : (i : ℕ) (o : Outcome) (past : List Event) (x : List ℕ) → In (handed x) (note i o past) → In (handed x) past
note_handed i o past x p = go (note_back i o past (handed x) p)
  where
    go : In (handed x) past ⊎ ((handed x ≡ answered o.answer.number) ⊎ ((y : List ℕ) × (handed x ≡ emitted i y))) → In (handed x) past
    go (inl q) = q
    go (inr (inl q)) = let z : ◌≡◌ {A = ℕ} 0 1 = cc in absurd (omega arith)
    go (inr (inr q)) = let e : handed x ≡ emitted i q.0 = q.1 in let z : ◌≡◌ {A = ℕ} 0 1 = cc in absurd (omega arith)

-- what is handed in adds frames handed in
hand_other : (xs : List (List ℕ)) (past : List Event) (e : Event) → ((x : List ℕ) → e ≢ handed x) → In e (hand xs past) → In e past
hand_other xs past e ne p = ⊎_elim (λ q. q) (λ (q : Given e xs). absurd (ne q.0 q.3)) (hand_back xs past e p)

module _ (s : Setup) where
  pub record Inv (w : World) : Type 0 where
    pub good : (i : ℕ) (c : State) → w.states i ≡ some c → Good s w.past i c
    pub mine : (i : ℕ) (c : State) → w.states i ≡ some c → (x : List ℕ) → In (emitted i x) w.past → kind x ≡ 1
        → round x < c.replica.round.0
    pub rests : (i : ℕ) (c : State) → w.states i ≡ some c → Rested c
    pub asleep : (i : ℕ) → w.states i ≡ none → (x : List ℕ) → In (emitted i x) w.past → ⊥
    pub tidy : Tidy s w.past
    pub valid : In (answered 2) w.past → ⊥
    pub reverting : In (answered 12) w.past → (i : ℕ) × (c : State) × Good s w.past i c × Reverts s w.past c

  reverts_grows : (past now : List Event) → Grows past now → (c : State) → Reverts s past c → Reverts s now c
  reverts_grows past now g c r =
      record {
        log = r.log;
        tip = r.tip;
        level = r.level;
        stored = stored_map s past now _ _ _ _ _ g (λ q e. e) r.stored;
        beyond = r.beyond;
        renewed = r.renewed;
        differs = r.differs;
      }

  tidy_back : (past now : List Event) → ((j : ℕ) (x : List ℕ) → In (emitted j x) now → In (emitted j x) past) → Tidy s past → Tidy s now
  tidy_back past now b t =
      record {
        signed = λ j x p. t.signed j x (b j x p);
        once = λ j x y p q. t.once j x y (b j x p) (b j y q);
        led = λ j x p. t.led j x (b j x p);
        high = λ j x p. t.high j x (b j x p);
      }

  -- the past grew by no frame emitted and no answer 2 or 12
  inv_more : (w : World) (now : List Event) → Grows w.past now
      → ((j : ℕ) (x : List ℕ) → In (emitted j x) now → In (emitted j x) w.past)
      → (In (answered 2) now → In (answered 2) w.past) → (In (answered 12) now → In (answered 12) w.past) → Inv w
      → Inv (record { states = w.states; past = now })
  inv_more w now g b two twelve v =
      record {
        good = λ i c e. good_grows s w.past now i c g (v.good i c e);
        mine = λ i c e x p. v.mine i c e x (b i x p);
        rests = v.rests;
        asleep = λ i e x p. v.asleep i e x (b i x p);
        tidy = tidy_back w.past now b v.tidy;
        valid = λ p. v.valid (two p);
        reverting = λ p. let r = v.reverting (twelve p) in
            (r.0, r.1, good_grows s w.past now r.0 r.1 g r.2, reverts_grows w.past now g r.1 r.3);
      }

  hand_inv : (w : World) (xs : List (List ℕ)) → Inv w → Inv (record { states = w.states; past = hand xs w.past })
  hand_inv w xs =
      inv_more w (hand xs w.past) (hand_grows xs w.past)
      (λ j x. hand_other xs w.past (emitted j x) (λ y e. let z : ◌≡◌ {A = ℕ} 0 1 = cc in omega arith))
      (hand_other xs w.past (answered 2) (λ y e. let z : ◌≡◌ {A = ℕ} 0 1 = cc in omega arith))
      (hand_other xs w.past (answered 12) (λ y e. let z : ◌≡◌ {A = ℕ} 0 1 = cc in omega arith))

  -- the world after an answer
  module _ (w : World) (i : ℕ) (o : Outcome) (v : Inv w) (c : State) (fine : Fine s w.past i c o)
      (before : o.answer.number ≡ 12 → Good s w.past i c) where
    abbrev now : List Event
    now = note i o w.past

    grows : Grows w.past now
    grows = note_grows i o w.past

    -- what holds of the new state, and of every other as before
    each : (P : ℕ → State → Type 0) → P i (state_of o) → ((j : ℕ) (d : State) → j ≢ i → w.states j ≡ some d → P j d) → (j : ℕ) (d : State)
        → cond (eqb i j) (some (state_of o)) (w.states j) ≡ some d → P j d
    each P new old j d = go (eqb i j) refl
      where
        go : (b : Bool) → eqb i j ≡ b → cond b (some (state_of o)) (w.states j) ≡ some d → P j d
        go true e h = let q : state_of o ≡ d = cc in subst (λ k. P k d) (eqb-true _ _ e) (subst (P i) q new)
        go false e h = old j d (λ z. eqb-false _ _ e (sym z)) h

    still_asleep : (j : ℕ) → cond (eqb i j) (some (state_of o)) (w.states j) ≡ none → (x : List ℕ) → In (emitted j x) now → ⊥
    still_asleep j = go (eqb i j) refl
      where
        go : (b : Bool) → eqb i j ≡ b → cond b (some (state_of o)) (w.states j) ≡ none → (x : List ℕ) → In (emitted j x) now → ⊥
        go true e h x p = let z : ◌≡◌ {A = ℕ} 0 1 = cc in omega arith
        go false e h x p = v.asleep j h x (note_other i o w.past j x (λ z. eqb-false _ _ e (sym z)) p)

    sealed : (e : Event) → In e (emit i (emitted_by o) w.past) → In e now
    unfolding note
    sealed e p = inr p

    opens : (j : ℕ) (x : List ℕ) → In (emitted j x) now → In (emitted j x) (emit i (emitted_by o) w.past)
    unfolding note
    opens j x (inl e) = let z : ◌≡◌ {A = ℕ} 0 1 = cc in absurd (omega arith)
    opens j x (inr p) = p

    reverted : (o.answer.number ≡ 12) ⊎ In (answered 12) w.past → (j : ℕ) × (d : State) × Good s now j d × Reverts s now d
    reverted (inl e) = (i, c, good_grows s w.past now i c grows (before e), reverts_grows w.past now grows c (fine.reverts e))
    reverted (inr p) =
        let r = v.reverting p in
        (r.0, r.1, good_grows s w.past now r.0 r.1 grows r.2, reverts_grows w.past now grows r.1 r.3)

    pub after_inv : Inv (after w i o)
    unfolding after
    after_inv =
        record {
          good =
              each (λ j d. Good s now j d) (good_grows s _ now i (state_of o) sealed fine.standing.good)
              (λ j d ne e. good_grows s w.past now j d grows (v.good j d e));
          mine =
              each (λ j d. (x : List ℕ) → In (emitted j x) now → kind x ≡ 1 → round x < d.replica.round.0)
              (λ x p. fine.standing.mine x (opens i x p)) (λ j d ne e x p. v.mine j d e x (note_other i o w.past j x ne p));
          rests = each (λ j d. Rested d) fine.rests (λ j d ne e. v.rests j d e);
          asleep = still_asleep;
          tidy = tidy_back _ now opens fine.standing.tidy;
          valid = λ p. ⊎_elim fine.valid_ok v.valid (note_answered i o w.past 2 p);
          reverting = λ p. reverted (note_answered i o w.past 12 p);
        }

  -- the frames of a buffer that is not cut are seen
  known_uncut : (past : List Event) (whole : Bool) (bytes : List ℕ) → Known s past (uncut whole bytes) → whole ≡ true
      → Known s past (frames_of bytes)
  unfolding uncut
  known_uncut past whole bytes k e = subst (Known s past) (cond_true _ _ e) k

  -- each call other than open keeps the state: the one place that names them
  act_fine : (past : List Event) (i : ℕ) (c : State) (a : Act) → Known s past (frames_in c a) → Standing s past i c
      → Rested c → Fine s past i c (answer c a)
  unfolding answer frames_in
  act_fine past i c (branch bytes entry out) k st r =
      branch_fine s past i entry c st r bytes out (known_uncut past (whole_frames c.replica.last_round.0 bytes) bytes k)
  act_fine past i c (blame bytes entry out) k st r =
      handing_fine s past i entry c st r 1 bytes out (known_uncut past (whole_frames 1 bytes) bytes k)
  act_fine past i c (blames bytes entry out) k st r =
      handing_fine s past i entry c st r 15 bytes out (known_uncut past (whole_frames 15 bytes) bytes k)
  act_fine past i c (tick entry out) k st r = tick_fine s past i entry c st r out
  act_fine past i c (equivocation bytes) k st r = equivocation_fine s past i c st r bytes (known_uncut past (is_pair bytes) bytes k)

  -- What a call does to the states: each that was there is still there, and extended.
  abbrev pub Grown : World → World → Type 0
  Grown w u = (i : ℕ) (c : State) → w.states i ≡ some c → (d : State) × (u.states i ≡ some d) × Extends c d

  pub record Stepped (w u : World) : Type 0 where
    pub inv : Inv u
    pub grown : Grown w u

  module _ (w : World) (i : ℕ) (v : Inv w) where
    some_none : (o : Option State) (c : State) → o ≡ none → o ≡ some c → ⊥
    some_none o c p q = let z : ◌≡◌ {A = ℕ} 0 1 = cc in omega arith

    after_grown : (o : Outcome) → ((c : State) → w.states i ≡ some c → Extends c (state_of o)) → Grown w (after w i o)
    unfolding after
    after_grown o x j c h = go (eqb i j) refl
      where
        go : (b : Bool) → eqb i j ≡ b → (d : State) × (cond b (some (state_of o)) (w.states j) ≡ some d) × Extends c d
        go true e = (state_of o, refl, x c (ap w.states (eqb-true _ _ e) ∙ h))
        go false e = (c, h, extends_refl c)

    open_stepped : (id f timeout last : ℕ) (rotation log masks entry out : List ℕ)
        → Lawful s w i (opening id f timeout last rotation log masks entry out)
        → Stepped w (opened w i (open_call id f timeout last rotation log masks entry out))
    unfolding opened
    open_stepped id f timeout last rotation log masks entry out l =
        by_cond (Stepped w) _ (λ e. yes_case (eqb-true _ _ e)) (λ e. no_case (eqb-false _ _ e))
      where
        o : Outcome
        o = open_call id f timeout last rotation log masks entry out

        r : OpenFine s w.past i id f last rotation o
        r = open_fine s w.past i id f timeout last rotation log masks entry out

        yes_case : o.answer.number ≡ 0 → Stepped w (after w i o)
        yes_case e =
            let p = l e in
            let x : (c : State) × Fine s w.past i c o = r.fine e p.1 p.2 p.3 p.4 (v.asleep i p.0) v.tidy in
            record {
              inv = after_inv w i o v x.0 x.1 (λ t. absurd (r.kept_ok t));
              grown = after_grown o (λ c h. absurd (some_none (w.states i) c p.0 h));
            }

        no_case : o.answer.number ≢ 0 → Stepped w (record { states = w.states; past = note i o w.past })
        no_case ne =
            record {
              inv =
                  inv_more w (note i o w.past) (note_grows i o w.past) (silent (r.quiet ne))
                  (λ p. ⊎_elim (λ e. absurd (r.valid_ok e)) (λ q. q) (note_answered i o w.past 2 p))
                  (λ p. ⊎_elim (λ e. absurd (r.kept_ok e)) (λ q. q) (note_answered i o w.past 12 p)) v;
              grown = λ j c e. (c, e, extends_refl c);
            }
          where
            silent : emitted_by o ≡ [] → (j : ℕ) (x : List ℕ) → In (emitted j x) (note i o w.past) → In (emitted j x) w.past
            silent z j x p =
                quiet (subst (λ xs. In (emitted j x) (answered o.answer.number ∷ emit i xs w.past)) z (unfold note in p))
              where
                quiet : In (emitted j x) (answered o.answer.number ∷ emit i [] w.past) → In (emitted j x) w.past
                quiet (inl e) = let z : ◌≡◌ {A = ℕ} 0 1 = cc in absurd (omega arith)
                quiet (inr q) = unfold emit in q

    act_stepped : (c : State) (a : Act) → w.states i ≡ some c
        → Stepped w (after (record { states = w.states; past = hand (frames_in c a) w.past }) i (answer c a))
    unfolding after
    act_stepped c a e =
        let past : List Event = hand (frames_in c a) w.past in
        let u : World = record { states = w.states; past = past } in
        let h : Inv u = hand_inv w (frames_in c a) v in
        let fine : Fine s past i c (answer c a) =
        act_fine past i c a (λ x p r. inl (hand_in (frames_in c a) w.past x p r))
        (record { good = h.good i c e; mine = h.mine i c e; tidy = h.tidy }) (h.rests i c e) in
        record {
          inv = after_inv u i (answer c a) h c fine (λ _. h.good i c e);
          grown = after_grown (answer c a) (λ d g. let q : c ≡ d = cc in subst (λ k. Extends k (state_of (answer c a))) q fine.extends);
        }

    call_stepped : (c : Option State) (d : Call) → w.states i ≡ c → Lawful s w i d → Stepped w (call_at w i c d)
    unfolding call_at
    call_stepped none (opening id f timeout last rotation log masks entry out) e l = open_stepped id f timeout last rotation log masks entry out l
    call_stepped (some c) (opening id f timeout last rotation log masks entry out) e l = open_stepped id f timeout last rotation log masks entry out l
    call_stepped none (act a) e l = absurd (some_none (w.states i) l.0 e l.1)
    call_stepped (some c) (act a) e l = act_stepped c a e

  pub step_stepped : (w : World) (i : ℕ) (d : Call) → Inv w → Lawful s w i d → Stepped w (step w i d)
  unfolding step
  step_stepped w i d v l = call_stepped w i v (w.states i) d refl l

  pub start_inv : Inv start
  unfolding start
  start_inv =
      record {
        good = λ i c e. absurd (let z : ◌≡◌ {A = ℕ} 0 1 = cc in omega arith);
        mine = λ i c e. absurd (let z : ◌≡◌ {A = ℕ} 0 1 = cc in omega arith);
        rests = λ i c e. absurd (let z : ◌≡◌ {A = ℕ} 0 1 = cc in omega arith);
        asleep = λ i e x p. p;
        tidy = record { signed = λ j x p. absurd p; once = λ j x y p. absurd p; led = λ j x p. absurd p; high = λ j x p. absurd p };
        valid = λ p. p;
        reverting = λ p. absurd p;
      }

  pub run_inv : (es : List (ℕ × Call)) (w : World) → Each (Lawful s) w es → Inv w → Inv (run w es)
  unfolding run
  run_inv [] w l v = v
  run_inv (e ∷ es) w l v = run_inv es (step w e.0 e.1) l.1 (step_stepped w e.0 e.1 v l.0).inv
