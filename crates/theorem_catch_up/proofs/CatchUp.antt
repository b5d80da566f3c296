-- What a replica fetches from another one is a branch that it takes. Assumes what the statements say, and nothing else.
use Prim.Native.Nat.{ℕ, ◌+◌, ◌-◌, ◌*◌, ◌≤◌, ◌<◌}
use mathlib.Core.Path.{◌≡◌, refl, sym, ap, ◌∙◌, subst}
use mathlib.Core.Logic.{◌⊎◌, inl, inr, ⊎_elim, ◌≢◌}
use mathlib.Core.Option.{none, some}
use mathlib.Core.List.{List, ◌∷◌, ◌++◌, flatten}
use mathlib.Core.Bool.{Bool, true, false, ◌&&◌, not}
use native.Mathlib.Omega.{arith}
use lib.ListN.{length, take}
use lib.Dec.{eqb, leb, ltb}
use borrow.Author.Tests.{eqb-true, eqb-false, eq-eqb, ltb-true, ltb-false, leb-true, leb-false}
use Rattle.sha256.specs.Fips.{sha256}
use Rattle.apollo.specs.Size.{frame_size}
use Rattle.apollo.specs.declared.Setup.{Setup}
use Rattle.apollo.specs.Setup.{setup_of}
use Rattle.apollo.specs.Bytes.{same}
use Rattle.apollo.specs.Frame.{round, height, linked}
use Rattle.apollo.specs.Log.{slot, filled, clear_above, attach}
use Rattle.apollo.specs.Replica.{valid_replica, valid_masks}
use Rattle.apollo.specs.Enter.{State}
use Rattle.apollo.specs.Judging.{verdict}
use Rattle.apollo.specs.Outcome.{refused, taken, guarded}
use Rattle.apollo.specs.BlockRun.{last_of, blocks}
use Rattle.apollo.specs.Branch.{first_uncertified, grown, adopting, placed, branch_with}
use Rattle.apollo.specs.Fetch.{fetchable}
use Rattle.apollo.specs.Calls.{branch_call}
use Rattle.apollo.specs.BenchSheet.{Callable}
use Rattle.apollo.proofs.Tests.{both}
use Rattle.apollo.proofs.Validity as Validity
use Rattle.apollo.proofs.BlockRun.{child_parts, blocks_parts, blocks_whole}
use Rattle.apollo.proofs.Judging.{stale_branch, fresh_branch, attach_from}
use Rattle.theorem_agreement.specs.Run.{Call, Event, start, run}
use Rattle.theorem_agreement.specs.Premises.{Each, Lawful, Premises}
use Rattle.theorem_agreement.specs.Cases.{Had}
use Rattle.theorem_agreement.proofs.Tests.{clash, either, and-true, same_true, same_of, by_cond, cond_true, cond_false}
use Rattle.theorem_agreement.proofs.Slots.{length_clear, clear_low, take_slots}
use Rattle.theorem_agreement.proofs.Chain.{Held, within, climbs}
use Rattle.theorem_agreement.proofs.Extend.{held_same}
use Rattle.theorem_agreement.proofs.Stored.{Stored}
use Rattle.theorem_agreement.proofs.Good.{Good, Rested, Extends, committed_held, committed_low, setup_is}
use Rattle.theorem_agreement.proofs.Valid.{valid}
use Rattle.theorem_agreement.proofs.Adopt.{linked_joins, Block, Row, blocks_row, grown_stored}
use Rattle.theorem_agreement.proofs.Above.{cut_from}
use Rattle.theorem_agreement.proofs.World.{start_inv, run_inv}
use Rattle.theorem_agreement.proofs.GoodRun.{stored_low, held_round, parts, front_run, front_good, run_short, run_seen, last_below}
use Rattle.theorem_agreement.proofs.Honest.{Honest, same_limit, no_revert}
use Rattle.theorem_agreement.proofs.Agreement.{honest}
use Rattle.theorem_agreement.proofs.Earlier.{has, had_good, had_rested, had_extends}
use Rattle.theorem_catch_up.specs.CatchUp.{verdict_of, lacking, received, Answers, Continues, Common, CatchUp, CatchUpLater}

-- a branch attaches to round k and, where all that it skips is certified, keeps what is committed
pub record Extending (c : State) (k : ℕ) (x : List ℕ) (ys : List (List ℕ)) : Type 0 where
  pub attached : attach c.log x (round x - 1) ≡ some k
  pub keeps :
      lacking c k x ys ≡ 0
      → take (frame_size * c.replica.committed_round.0) (grown c.log k (x ∷ ys)) ≡ take (frame_size * c.replica.committed_round.0) c.log

-- the answer to a branch of good frames, where it attaches so unless it is stale
module _ (c : State) (entry out : List ℕ) (fits : length entry ≤ 400) (room : 1024 ≤ length out)
    (valid : valid_replica c.replica c.log ≡ true) (lent : valid_masks c.replica c.masks ≡ true)
    (x : List ℕ) (ys : List (List ℕ)) (few : length (x ∷ ys) ≤ c.replica.last_round.0)
    (good : blocks (setup_of c.replica) none (x ∷ ys) ≡ true) (k : ℕ) where
  abbrev R : ℕ
  R = c.replica.round.0

  abbrev T : ℕ
  T = c.replica.last_round.0

  over : R ≡ T + 1 → verdict_of (branch_call c (flatten (x ∷ ys)) entry out) ≡ verdict 3 0
  unfolding branch_with guarded refused
  over e =
      let v : not (valid_replica c.replica c.log && valid_masks c.replica c.masks) ≡ false =
      ap not (both (valid_replica c.replica c.log) (valid_masks c.replica c.masks) valid lent) in
      ap verdict_of (cond_false _ _ v ∙ cond_true _ _ (eq-eqb R (T + 1) e))

  module _ (runs : R ≢ T + 1) where
    callable : Callable c out
    callable =
        record { valid = valid; lent = lent; running = omega (arith, runs, (Validity.valid c.replica c.log valid).round_most); room = room }

    ends_low : round (last_of x ys) < R → verdict_of (branch_call c (flatten (x ∷ ys)) entry out) ≡ verdict 10 0
    unfolding refused
    ends_low l = ap verdict_of (stale_branch callable entry fits x ys few good l)

    module _ (high : R ≤ round (last_of x ys)) (e : Extending c k x ys) where
      comes : branch_call c (flatten (x ∷ ys)) entry out ≡ placed sha256 entry out c x ys (some k)
      comes = fresh_branch callable entry fits x ys few good high ∙ ap (placed sha256 entry out c x ys) e.attached

      uncertified : eqb (lacking c k x ys) 0 ≡ false
          → verdict_of (branch_call c (flatten (x ∷ ys)) entry out) ≡ verdict 13 (lacking c k x ys)
      unfolding placed refused
      uncertified z = ap verdict_of (comes ∙ cond_false _ _ z)

      pub all_certified : eqb (lacking c k x ys) 0 ≡ true → branch_call c (flatten (x ∷ ys)) entry out ≡ taken (adopting sha256 entry c k x ys) out
      unfolding placed
      all_certified z = comes ∙ cond_true _ _ z ∙ cond_true _ _ (same_of (e.keeps (eqb-true _ _ z)))

  pub answered_so : (R ≤ round (last_of x ys) → Extending c k x ys) → verdict_of (branch_call c (flatten (x ∷ ys)) entry out) ≡ received c k x ys
  unfolding received taken
  answered_so h =
      by_cond (λ v. verdict_of (branch_call c (flatten (x ∷ ys)) entry out) ≡ v) (eqb R (T + 1)) (λ z. over (eqb-true _ _ z))
      (λ z. by_cond (λ v. verdict_of (branch_call c (flatten (x ∷ ys)) entry out) ≡ v) (ltb (round (last_of x ys)) R)
      (λ l. ends_low (eqb-false _ _ z) (ltb-true _ _ l))
      (λ l. by_cond (λ v. verdict_of (branch_call c (flatten (x ∷ ys)) entry out) ≡ v) (eqb (lacking c k x ys) 0)
      (λ a. ap verdict_of (all_certified (eqb-false _ _ z) (ltb-false _ _ l) (h (ltb-false _ _ l)) a))
      (uncertified (eqb-false _ _ z) (ltb-false _ _ l) (h (ltb-false _ _ l)))))

-- c, which answers, and d, from which it fetched, are good in one world; c's state is one that a call left
module _ (s : Setup) (past : List Event) (i j : ℕ) (c d : State) (gc : Good s past i c) (rc : Rested c) (gd : Good s past j d) where
  -- the setup of c is the common one
  pub own : (k : ℕ) (xs : List (List ℕ)) → first_uncertified (setup_of c.replica) c.masks k xs ≡ first_uncertified s c.masks k xs
  own k xs = ap (λ u. first_uncertified u c.masks k xs) (setup_is s i c.replica gc.fixed)

  -- what d has above a height
  module _ (h : ℕ) (x : List ℕ) (ys zs : List (List ℕ)) (m : fetchable d.replica d.log h ≡ x ∷ (ys ++ zs)) where
    good : blocks (setup_of c.replica) none (x ∷ ys) ≡ true
    good = ap (λ u. blocks u none (x ∷ ys)) (setup_is s i c.replica gc.fixed) ∙ front_good s past j d gd h (x ∷ ys) zs m

    few : length (x ∷ ys) ≤ c.replica.last_round.0
    few = omega (arith, run_short s past j d gd h x ys zs m, gc.fixed.last_is, gd.fixed.last_is)

    valid_c : (valid_replica c.replica c.log ≡ true) × (valid_masks c.replica c.masks ≡ true)
    valid_c = and-true _ _ (valid s past i c gc rc)

    -- it is answered so, where it attaches to round k and keeps what is committed unless it is stale
    pub answered : (k : ℕ) → (c.replica.round.0 ≤ round (last_of x ys) → Extending c k x ys)
        → Answers c (flatten (x ∷ ys)) (received c k x ys)
    answered k e entry out fits room = answered_so c entry out fits room valid_c.0 valid_c.1 x ys few good k e

    pub taken_so : (k : ℕ) (entry out : List ℕ) → length entry ≤ 400 → 1024 ≤ length out → c.replica.round.0 ≢ c.replica.last_round.0 + 1
        → c.replica.round.0 ≤ round (last_of x ys) → Extending c k x ys → lacking c k x ys ≡ 0
        → branch_call c (flatten (x ∷ ys)) entry out ≡ taken (adopting sha256 entry c k x ys) out
    taken_so k entry out fits room runs late e u =
        all_certified c entry out fits room valid_c.0 valid_c.1 x ys few good k runs late e (eq-eqb (lacking c k x ys) 0 u)

  -- above a block that both hold
  module _ (k : ℕ) (held : Held (slot c.log) k) (alike : slot c.log k ≡ slot d.log k) (x : List ℕ) (ys zs : List (List ℕ))
      (m : fetchable d.replica d.log (height (slot c.log k)) ≡ x ∷ (ys ++ zs)) where
    abbrev h : ℕ
    h = height (slot c.log k)

    pub tip_most : k ≤ c.replica.tip_round.0
    tip_most = within s.last_round.0 _ _ (slot c.log) _ gc.stored.chain k held

    low : k ≤ s.last_round.0
    low = omega (arith, tip_most, gc.stored.chain.low)

    held_d : Held (slot d.log) k
    held_d = held_same (slot d.log) (slot c.log) k (sym alike) held

    pub round_d : round (slot d.log k) ≡ k
    round_d = held_round s past d.masks d.log d.replica.tip_round.0 gd.stored.chain k held_d

    starts : (parts s past j d gd h).from ≡ k
    starts =
        cut_from s.last_round.0 _ _ d.log d.replica.tip_round.0 gd.stored.chain h d.replica.last_round.0 k
        (parts s past j d gd h) (omega (arith, low, gd.fixed.last_is)) held_d (ap height (sym alike))

    pub run_on : blocks s (some (slot d.log k)) (x ∷ ys) ≡ true
    run_on = subst (λ q. blocks s (some (slot d.log q)) (x ∷ ys) ≡ true) starts (front_run s past j d gd h (x ∷ ys) zs m)

    on : (linked (slot c.log k) x ≡ true) × (k < round x)
    on =
        let t : (linked (slot d.log k) x ≡ true) × (round (slot d.log k) < round x) =
        child_parts (slot d.log k) x (blocks_parts s (some (slot d.log k)) x ys run_on).1 in
        (ap (λ y. linked y x) alike ∙ t.0, omega (arith, t.1, round_d))

    -- no slot of c above that block fits
    no_other : (q : ℕ) → k < q → (filled (slot c.log q) && linked (slot c.log q) x) ≡ false
    no_other q u = go (either (filled (slot c.log q) && linked (slot c.log q) x))
      where
        go : ((filled (slot c.log q) && linked (slot c.log q) x) ≡ true) ⊎ ((filled (slot c.log q) && linked (slot c.log q) x) ≡ false)
            → (filled (slot c.log q) && linked (slot c.log q) x) ≡ false
        go (inr e) = e
        go (inl e) =
            let t = and-true (filled (slot c.log q)) (linked (slot c.log q) x) e in
            absurd (omega (
              arith,
              climbs s.last_round.0 _ _ (slot c.log) c.replica.tip_round.0 gc.stored.chain k q u held t.0,
              (linked_joins (slot c.log q) x t.1).rise,
              (linked_joins (slot c.log k) x on.0).rise,
            ))

    filled_c : Held (slot c.log) k → 1 ≤ k → filled (slot c.log k) ≡ true
    filled_c (inl z) o = absurd (omega arith)
    filled_c (inr f) o = f

    attached : attach c.log x (round x - 1) ≡ some k
    attached = attach_from c.log x k (round x - 1) (omega (arith, on.1)) (filled_c held) on.0 (λ q u v. no_other q u)

    -- where it is not below the committed round, nothing up to there changes
    kept : c.replica.committed_round.0 ≤ k → (q : ℕ) → 1 ≤ q → q ≤ c.replica.committed_round.0
        → slot (grown c.log k (x ∷ ys)) q ≡ slot c.log q
    unfolding grown
    kept above q o u =
        let fit : frame_size * k ≤ length c.log = omega (arith, low, gc.stored.size) in
        stored_low s (x ∷ ys) (clear_above c.log k) (slot d.log k) run_on q (omega (arith, round_d))
        (length_clear c.log k fit ∙ gc.stored.size)
        ∙ clear_low c.log k q fit (omega arith)

    pub extending : c.replica.committed_round.0 ≤ k → Extending c k x ys
    extending above =
        record {
          attached = attached;
          keeps = λ _. take_slots (grown c.log k (x ∷ ys)) c.log c.replica.committed_round.0 (kept above);
        }

    -- and elsewhere nothing does if the premises hold: a linked log that reaches R has the committed slots of c
    module _ (correct : ℕ → Bool) (sound : Honest s correct past) (late : c.replica.round.0 ≤ round (last_of x ys)) where
      abbrev new : List ℕ
      new = grown c.log k (x ∷ ys)

      linked_new : lacking c k x ys ≡ 0 → Stored s past c.masks new (round (last_of x ys)) (height (last_of x ys))
      linked_new u =
          let r : Block s x × Row s x ys = blocks_row s (some (slot d.log k)) x ys run_on in
          grown_stored s past c.masks c.log _ _ k x ys gc.stored attached r.0 r.1 (λ z p _. run_seen s past j d gd h x ys zs m z p)
          (blocks_whole s (some (slot d.log k)) (x ∷ ys) run_on) (sym (own k (x ∷ ys)) ∙ u)

      keeps_all_lem : lacking c k x ys ≡ 0 → take (frame_size * c.replica.committed_round.0) new ≡ take (frame_size * c.replica.committed_round.0) c.log
      keeps_all_lem u =
          ⊎_elim (same_true _ _)
          (λ e. absurd (no_revert s correct past sound i c gc
          (record {
            log = new;
            tip = round (last_of x ys);
            level = height (last_of x ys);
            stored = linked_new u;
            beyond = late;
            renewed = rc.renewed;
            differs = λ z. clash (same_of z) e;
          })))
          (either (same (take (frame_size * c.replica.committed_round.0) new) (take (frame_size * c.replica.committed_round.0) c.log)))

      pub extending_late : Extending c k x ys
      extending_late = record { attached = attached; keeps = keeps_all_lem }

-- two replicas in the world of a lawful list
module _ (s : Setup) (calls : List (ℕ × Call)) (l : Each (Lawful s) start calls) (i : ℕ) (c : State)
    (ec : (run start calls).states i ≡ some c) where
  pub goods : Good s (run start calls).past i c
  goods = (run_inv s calls start l (start_inv s)).good i c ec

  pub rests : Rested c
  rests = (run_inv s calls start l (start_inv s)).rests i c ec

pub continues : Continues
continues s calls l i j c d ec ed k sh x ys zs m =
    let past : List Event = (run start calls).past in
    let gc : Good s past i c = goods s calls l i c ec in
    let rc : Rested c = rests s calls l i c ec in
    let gd : Good s past j d = goods s calls l j d ed in
    answered s past i j c d gc rc gd (height (slot c.log k)) x ys zs m k
    (λ _. extending s past i j c d gc rc gd k sh.held sh.same x ys zs m sh.from_committed)

-- c now and earlier (c₀), and d at any time, in the world of a list that meets the premises
module _ (s : Setup) (correct : ℕ → Bool) (calls : List (ℕ × Call)) (p : Premises s correct calls) (i j : ℕ) (c c₀ d : State)
    (ec : (run start calls).states i ≡ some c) (hc : Had calls i c₀) (hd : Had calls j d) where
  abbrev past : List Event
  past = (run start calls).past

  abbrev pub gc : Good s past i c
  gc = goods s calls p.lawful i c ec

  abbrev pub rc : Rested c
  rc = rests s calls p.lawful i c ec

  abbrev pub gd : Good s past j d
  gd = had_good s calls p.lawful j d hd

  -- the block that c₀ had committed
  abbrev pub k₀ : ℕ
  k₀ = c₀.replica.committed_round.0

  grew : Extends c₀ c
  grew = had_extends s calls p.lawful i c₀ hc c ec

  -- c holds it still
  kept₀ : slot c.log k₀ ≡ slot c₀.log k₀
  kept₀ = go (leb k₀ 0) refl
    where
      go : (b : Bool) → leb k₀ 0 ≡ b → slot c.log k₀ ≡ slot c₀.log k₀
      go true e =
          let z : k₀ ≡ 0 = omega (arith, leb-true k₀ 0 e) in
          ap (slot c.log) z ∙ gc.stored.chain.origin
          ∙ sym (ap (slot c₀.log) z ∙ (had_good s calls p.lawful i c₀ hc).stored.chain.origin)
      go false e = grew.same_slots k₀ (leb-false _ _ e) (omega arith)

  pub held₀ : Held (slot c.log) k₀
  held₀ = held_same (slot c.log) (slot c₀.log) k₀ kept₀ (committed_held (had_rested s calls p.lawful i c₀ hc).renewed)

  -- at the height above which c fetched
  module _ (x : List ℕ) (ys zs : List (List ℕ))
      (m : fetchable d.replica d.log c₀.replica.committed_height.0 ≡ x ∷ (ys ++ zs)) where
    pub from₀ : fetchable d.replica d.log (height (slot c.log k₀)) ≡ x ∷ (ys ++ zs)
    from₀ =
        subst (λ u. fetchable d.replica d.log u ≡ x ∷ (ys ++ zs))
        ((had_rested s calls p.lawful i c₀ hc).renewed.height_of_committed ∙ ap height (sym kept₀)) m

    -- where d's frames reach c's R, d's R was not the lower, and both hold the same up to c's committed round
    pub same₀ : c.replica.round.0 ≤ round (last_of x ys) → slot c.log k₀ ≡ slot d.log k₀
    same₀ late = go (leb k₀ 0) refl
      where
        go : (b : Bool) → leb k₀ 0 ≡ b → slot c.log k₀ ≡ slot d.log k₀
        go true e =
            let z : k₀ ≡ 0 = omega (arith, leb-true k₀ 0 e) in
            ap (slot c.log) z ∙ gc.stored.chain.origin ∙ sym (ap (slot d.log) z ∙ gd.stored.chain.origin)
        go false e =
            same_limit s correct past (honest s correct calls p) i j c d gc gd
            (omega (arith, late, last_below s past j d gd c₀.replica.committed_height.0 x ys zs m)) k₀ (leb-false _ _ e)
            (omega (arith, grew.further, committed_low rc.renewed))

    pub extending₀ : c.replica.round.0 ≤ round (last_of x ys) → Extending c k₀ x ys
    extending₀ late = extending_late s past i j c d gc rc gd k₀ held₀ (same₀ late) x ys zs from₀ correct (honest s correct calls p) late

pub catch_up_later : CatchUpLater
catch_up_later s correct calls p i j c c₀ d ec hc hd x ys zs m =
    answered s (run start calls).past i j c d (gc s correct calls p i j c c₀ d ec hc hd) (rc s correct calls p i j c c₀ d ec hc hd)
    (gd s correct calls p i j c c₀ d ec hc hd) c₀.replica.committed_height.0 x ys zs m c₀.replica.committed_round.0
    (extending₀ s correct calls p i j c c₀ d ec hc hd x ys zs m)

pub catch_up : CatchUp
catch_up s correct calls p i j c d ec ed = catch_up_later s correct calls p i j c c d ec (has calls i c ec) (has calls j d ed)

pub common : Common
common s correct calls p i j c d ec ed x ys zs m late =
    record {
      from_committed = omega arith;
      held = held₀ s correct calls p i j c c d ec (has calls i c ec) (has calls j d ed);
      same = same₀ s correct calls p i j c c d ec (has calls i c ec) (has calls j d ed) x ys zs m late;
    }
