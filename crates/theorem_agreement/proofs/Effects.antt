-- The effects that emit a block: an own block, entering a round, and what follows a blame. Assumes nothing.
use Prim.Native.Nat.{ℕ, suc, ◌+◌, ◌≤◌, ◌<◌}
use mathlib.Core.Path.{◌≡◌, refl, sym, ap, ◌∙◌, subst}
use mathlib.Core.Logic.{◌⊎◌, inl, inr}
use mathlib.Core.List.{List, [], ◌∷◌}
use mathlib.Core.Bool.{true, false, ◌&&◌}
use native.Mathlib.Omega.{arith}
use lib.ListN.{length}
use lib.Dec.{eqb, leb}
use borrow.Author.Tests.{eqb-true, eq-eqb, leb-true}
use Rattle.sha256.specs.Fips.{sha256}
use Rattle.apollo.specs.Size.{frame_size}
use Rattle.apollo.specs.declared.Setup.{Setup}
use Rattle.apollo.specs.Setup.{setup_of, leader}
use Rattle.apollo.specs.Frame.{kind, signer, round, height, parent, digest}
use Rattle.apollo.specs.Log.{slot, store}
use Rattle.apollo.specs.Masks.{certified}
use Rattle.apollo.specs.Replica.{leads}
use Rattle.apollo.specs.BlockRun.{block}
use Rattle.apollo.specs.Enter.{State, Effect, commit, tipped, waiting, hearing, holding, entered, own_block, proposing, enter_round, settle}
use Rattle.apollo.proofs.Tests.{both}
use Rattle.theorem_agreement.specs.Run.{Event, emitted, In, emit}
use Rattle.theorem_agreement.proofs.Tests.{clash, either, and-true, by_cond}
use Rattle.theorem_agreement.proofs.Leaders.{leaders_differ}
use Rattle.theorem_agreement.proofs.Slots.{store_other}
use Rattle.apollo.proofs.Made.{block_kind, block_signer, block_round, block_height, block_parent, block_length, block_made}
use Rattle.theorem_agreement.proofs.Frames.{slot_length, digest_width, Whole}
use Rattle.theorem_agreement.proofs.Past.{emitted_is}
use Rattle.theorem_agreement.proofs.Stored.{Stored, tip_level, store_stored}
use Rattle.theorem_agreement.proofs.Good.{Blamed, Renewed, Open, Ahead, Rested, Hears, hears_rested, wait_ahead, enter_rested, committed_low, Extends, extends_refl, extends_trans, wait_extends, hold_extends, enter_extends, setup_is, Good, good_grows, wait_good, hear_good, hold_good, enter_good, limit_low}

module _ (s : Setup) where
  -- Of the frames emitted: each names its replica as the signer; a replica emits one block a round at most, for rounds that it leads.
  pub record Tidy (past : List Event) : Type 0 where
    pub signed : (j : ℕ) (x : List ℕ) → In (emitted j x) past → signer x ≡ j
    pub once : (j : ℕ) (x y : List ℕ) → In (emitted j x) past → In (emitted j y) past → kind x ≡ 1 → kind y ≡ 1 → round x ≡ round y → x ≡ y
    pub led : (j : ℕ) (x : List ℕ) → In (emitted j x) past → kind x ≡ 1 → leader s (round x) ≡ j
    pub high : (j : ℕ) (x : List ℕ) → In (emitted j x) past → kind x ≡ 1 → 1 ≤ round x

  -- a good state, whose replica emitted no block for R or above
  pub record Standing (past : List Event) (i : ℕ) (c : State) : Type 0 where
    pub good : Good s past i c
    pub mine : (x : List ℕ) → In (emitted i x) past → kind x ≡ 1 → round x < c.replica.round.0
    pub tidy : Tidy past

  -- R does not fall
  pub standing_later : (past : List Event) (i : ℕ) (c d : State) → Standing past i c → Good s past i d
      → c.replica.round.0 ≤ d.replica.round.0 → Standing past i d
  standing_later past i c d st g l = record { good = g; mine = λ x p k. omega (arith, st.mine x p k); tidy = st.tidy }

  pub wait_standing : (past : List Event) (i : ℕ) (c : State) → Standing past i c → (R timer : ℕ) → c.replica.round.0 ≤ R
      → R ≤ suc s.last_round.0 → timer ≤ c.replica.timeout.0
      → ((q : ℕ) → c.replica.round.0 ≤ q → q < R → certified s c.masks q ≡ true) → Standing past i (waiting c R timer)
  wait_standing past i c st R timer up low short pass =
      standing_later past i c (waiting c R timer) st (wait_good s past i c st.good R timer up low short pass)
      (unfold waiting in omega arith)

  -- only the ticks left change
  pub rest_standing : (past : List Event) (i : ℕ) (c : State) → Standing past i c → (timer : ℕ) → timer ≤ c.replica.timeout.0
      → Standing past i (waiting c c.replica.round.0 timer)
  rest_standing past i c st timer short =
      wait_standing past i c st c.replica.round.0 timer (omega arith) st.good.reach short (λ q a b. absurd (omega arith))

  -- a bit is set for a blame that was seen
  pub hear_standing : (past : List Event) (i : ℕ) (c : State) → Standing past i c → (r k : ℕ) → 1 ≤ r → Blamed past k r
      → Standing past i (hearing c r k)
  hear_standing past i c st r k o b =
      standing_later past i c (hearing c r k) st (hear_good s past i c st.good r k o b) (unfold hearing in omega arith)

  -- What a call's effect does to state c: it stands and rests, keeps what was committed, and emits whole frames.
  pub record Kept (past : List Event) (i : ℕ) (c : State) (e : Effect) : Type 0 where
    pub standing : Standing (emit i e.emitted past) i e.state
    pub rests : Rested e.state
    pub extends : Extends c e.state
    pub whole : Whole e.emitted

  -- an effect that emits nothing
  pub silent : (past : List Event) (i : ℕ) (c d : State) → Standing past i d → Rested d → Extends c d
      → Kept past i c (record { state = d; emitted = [] })
  unfolding emit
  silent past i c d st l x = record { standing = st; rests = l; extends = x; whole = tt }

  -- how entering ends, for a call on c that led to state d
  entered_kept : (past : List Event) (i : ℕ) (c d : State) (xs : List (List ℕ)) → Renewed c.replica c.log → Extends c d
      → Standing (emit i xs past) i d → leads d.replica ≡ false → Ahead d → Whole xs
      → Kept past i c (record { state = entered d; emitted = xs })
  entered_kept past i c d xs r x st e a w =
      record {
        standing = standing_later _ i d (entered d) st (enter_good s _ i d st.good) (unfold entered commit in omega arith);
        rests = enter_rested d e a;
        extends = enter_extends c d r x;
        whole = w;
      }

  pub kept_trans : (past : List Event) (i : ℕ) (c d : State) (e : Effect) → Extends c d → Kept past i d e → Kept past i c e
  kept_trans past i c d e x k =
      record { standing = k.standing; rests = k.rests; extends = extends_trans c d e.state x k.extends; whole = k.whole }

  -- a replica that leads R
  pub leads_parts : (past : List Event) (i : ℕ) (c : State) → Good s past i c → leads c.replica ≡ true
      → (c.replica.round.0 ≤ s.last_round.0) × (leader s c.replica.round.0 ≡ i)
  unfolding leads
  leads_parts past i c g e =
      let p : (leb c.replica.round.0 c.replica.last_round.0 ≡ true)
      × (eqb (leader (setup_of c.replica) c.replica.round.0) c.replica.id ≡ true) = and-true _ _ e in
      let l : c.replica.round.0 ≤ c.replica.last_round.0 = leb-true _ _ p.0 in (
        omega (arith, g.fixed.last_is),
        ap (λ k. leader k c.replica.round.0) (sym (setup_is s i c.replica g.fixed)) ∙ eqb-true _ _ p.1 ∙ g.fixed.id_is,
      )

module _ (s : Setup) (entry : List ℕ) (fits : length entry ≤ 400) where
  -- the block that a replica makes for R, where it leads R
  module _ (past : List Event) (i : ℕ) (c : State) (st : Standing s past i c) (led : leads c.replica ≡ true) where
    abbrev R : ℕ
    R = c.replica.round.0

    abbrev z : List ℕ
    z = own_block sha256 entry c

    abbrev now : List Event
    now = emitted i z ∷ past

    abbrev g : Good s past i c
    g = st.good

    R_low : R ≤ s.last_round.0
    R_low = (leads_parts s past i c g led).0

    R_led : leader s R ≡ i
    R_led = (leads_parts s past i c g led).1

    one : 1 ≤ R
    one = omega (arith, g.tip_below)

    short : s.last_round.0 ≤ 4096
    short = omega (arith, g.fixed.last_is, g.fixed.last_top)

    up_length : length (digest (slot c.log c.replica.tip_round.0)) ≡ 32
    up_length =
        digest_width (slot c.log c.replica.tip_round.0)
        (slot_length c.log c.replica.tip_round.0 (omega (arith, g.stored.size, g.stored.chain.low)))

    z_level : c.replica.tip_height.0 ≤ c.replica.tip_round.0
    z_level = omega (arith, g.stored.level_is, tip_level s past _ _ _ _ g.stored)

    z_kind : kind z ≡ 1
    unfolding own_block
    z_kind = block_kind _ _ _ _ _ up_length fits

    z_signer : signer z ≡ i
    unfolding own_block
    z_signer = block_signer _ _ _ _ _ up_length fits ∙ g.fixed.id_is

    z_round : round z ≡ R
    unfolding own_block
    z_round = block_round _ _ _ _ _ up_length fits (omega (arith, R_low, short))

    z_height : height z ≡ c.replica.tip_height.0 + 1
    unfolding own_block
    z_height =
        block_height _ _ _ _ _ up_length fits (omega (arith, z_level, g.tip_below, R_low, short))

    z_parent : parent z ≡ digest (slot c.log c.replica.tip_round.0)
    unfolding own_block
    z_parent = block_parent _ _ _ _ _ up_length fits

    z_length : length z ≡ frame_size
    unfolding own_block
    z_length = block_length _ _ _ _ _ up_length fits

    z_block : block s z ≡ true
    unfolding own_block
    z_block =
        block_made _ _ _ _ _ up_length fits s (g.fixed.id_is ∙ sym R_led) one R_low (omega (arith, R_low, short)) (omega arith)
        (omega (arith, z_level, g.tip_below))

    grown : Good s now i c
    grown = good_grows s past now i c (λ e p. inr p) g

    z_stored : Stored s now c.masks (store c.log R z) R (c.replica.tip_height.0 + 1)
    z_stored =
        subst (Stored s now c.masks (store c.log R z) R) z_height
        (store_stored s now c.masks c.log _ _ grown.stored R z g.tip_below R_low z_kind z_length
        (record { round_is = z_round; block = z_block; seen = inr (i, inl refl) })
        (record { named = sym z_parent; rise = omega (arith, z_height, g.stored.level_is) }) g.waits)

    z_good : Good s now i (proposing sha256 entry c)
    unfolding proposing
    z_good = hold_good s now i c grown (store c.log R z) R _ z_stored (omega arith)

    -- a frame emitted is the new block, or is older
    new_or_old : (j : ℕ) (x : List ℕ) → In (emitted j x) now → ((j ≡ i) × (x ≡ z)) ⊎ In (emitted j x) past
    new_or_old j x (inl e) = inl (emitted_is j i x z e)
    new_or_old j x (inr p) = inr p

    -- no block of this replica stood for R
    older : (j : ℕ) (x : List ℕ) → j ≡ i → In (emitted j x) past → kind x ≡ 1 → round x ≡ R → ⊥
    older j x e p k r = omega (arith, st.mine x (subst (λ m. In (emitted m x) past) e p) k)

    z_once : (j : ℕ) (x y : List ℕ) → ((j ≡ i) × (x ≡ z)) ⊎ In (emitted j x) past → ((j ≡ i) × (y ≡ z)) ⊎ In (emitted j y) past
        → kind x ≡ 1 → kind y ≡ 1 → round x ≡ round y → x ≡ y
    z_once j x y (inl a) (inl b) p q e = a.1 ∙ sym b.1
    z_once j x y (inl a) (inr b) p q e = absurd (older j y a.0 b q (sym e ∙ ap round a.1 ∙ z_round))
    z_once j x y (inr a) (inl b) p q e = absurd (older j x b.0 a p (e ∙ ap round b.1 ∙ z_round))
    z_once j x y (inr a) (inr b) p q e = st.tidy.once j x y a b p q e

    -- what holds of the new block and of every older one
    by_age : (P : ℕ → List ℕ → Type 0) → P i z → ((j : ℕ) (x : List ℕ) → In (emitted j x) past → kind x ≡ 1 → P j x) → (j : ℕ) (x : List ℕ)
        → In (emitted j x) now → kind x ≡ 1 → P j x
    by_age P new old j x p k = go (new_or_old j x p)
      where
        go : ((j ≡ i) × (x ≡ z)) ⊎ In (emitted j x) past → P j x
        go (inl e) = subst (λ m. P m x) (sym e.0) (subst (P i) (sym e.1) new)
        go (inr q) = old j x q k

    z_signed : (j : ℕ) (x : List ℕ) → In (emitted j x) now → signer x ≡ j
    z_signed j x p = go (new_or_old j x p)
      where
        go : ((j ≡ i) × (x ≡ z)) ⊎ In (emitted j x) past → signer x ≡ j
        go (inl e) = ap signer e.1 ∙ z_signer ∙ sym e.0
        go (inr q) = st.tidy.signed j x q

    z_tidy : Tidy s now
    z_tidy =
        record {
          signed = z_signed;
          once = λ j x y p q. z_once j x y (new_or_old j x p) (new_or_old j y q);
          led = by_age (λ j x. leader s (round x) ≡ j) (ap (leader s) z_round ∙ R_led) st.tidy.led;
          high = by_age (λ j x. 1 ≤ round x) (omega (arith, z_round, one)) st.tidy.high;
        }

    z_mine : (x : List ℕ) → In (emitted i x) now → kind x ≡ 1 → round x < R + 1
    z_mine x p k =
        by_age (λ j y. j ≡ i → round y < R + 1) (λ _. omega (arith, z_round))
        (λ j y q m e. omega (arith, st.mine y (subst (λ k. In (emitted k y) past) e q) m)) i x p k refl

    z_rests : leads (proposing sha256 entry c).replica ≡ false
    unfolding proposing holding tipped
    z_rests = go (either (leads (proposing sha256 entry c).replica))
      where
        go : (leads (proposing sha256 entry c).replica ≡ true) ⊎ (leads (proposing sha256 entry c).replica ≡ false)
            → leads (proposing sha256 entry c).replica ≡ false
        go (inr e) = e
        go (inl e) =
            absurd (leaders_differ s g.fixed.turns R (R + 1) one (omega arith) (omega (arith, g.fixed.f_is, g.fixed.f_one))
            (R_led ∙ sym (leads_parts s now i (proposing sha256 entry c) z_good e).1))

    z_standing : Standing s now i (proposing sha256 entry c)
    unfolding proposing holding tipped
    z_standing = record { good = z_good; mine = z_mine; tidy = z_tidy }

    -- b was the state before the call
    module _ (b : State) (r : Renewed b.replica b.log) (x : Extends b c) (a : Ahead c) where
      z_extends : Extends b (proposing sha256 entry c)
      unfolding proposing
      z_extends =
          hold_extends b c x (store c.log R z) R _ (omega arith)
          (λ q o l. store_other c.log R z q one (omega (arith, R_low, g.stored.size)) z_length
          (λ e. omega (arith, limit_low s past i c g q o (omega (arith, committed_low r, x.limit)))) ∙ x.same_slots q o l)

      z_ahead : Ahead (proposing sha256 entry c)
      unfolding proposing holding tipped
      z_ahead q l = a q (omega arith)

      propose_kept : Kept s past i b (record { state = entered (proposing sha256 entry c); emitted = z ∷ [] })
      unfolding emit
      propose_kept = entered_kept s past i b (proposing sha256 entry c) (z ∷ []) r z_extends z_standing z_rests z_ahead (z_length, tt)

  -- a call on state b led to state c, which enters R
  pub enter_kept : (past : List Event) (i : ℕ) (b c : State) → Renewed b.replica b.log → Extends b c → Standing s past i c → Ahead c
      → Kept s past i b (enter_round sha256 entry c)
  unfolding enter_round emit
  enter_kept past i b c r x st a =
      by_cond (Kept s past i b) (leads c.replica) (λ e. propose_kept past i c st e b r x a)
      (λ e. entered_kept s past i b c [] r x st e a tt)

  -- after a blame for round r
  pub settle_kept : (past : List Event) (i : ℕ) (c : State) (r : ℕ) → r ≤ s.last_round.0 → Hears r c → Standing s past i c
      → Kept s past i c (settle sha256 entry c r)
  unfolding settle
  settle_kept past i c r low hears st =
      by_cond (Kept s past i c) (eqb r c.replica.round.0 && certified (setup_of c.replica) c.masks r)
      (λ e. pass (and-true _ _ e)) (λ e. silent s past i c c st (hears_rested r c hears (stays e)) (extends_refl c))
    where
      stays : (eqb r c.replica.round.0 && certified (setup_of c.replica) c.masks r) ≡ false → r ≡ c.replica.round.0 → Open c r
      stays e here = go (either (certified (setup_of c.replica) c.masks r))
        where
          go : (certified (setup_of c.replica) c.masks r ≡ true) ⊎ (Open c r) → Open c r
          go (inr o) = o
          go (inl t) = absurd (clash (both _ _ (eq-eqb r c.replica.round.0 here) t) e)

      d : State
      d = waiting c (r + 1) c.replica.timer.0

      pass : (eqb r c.replica.round.0 ≡ true) × (certified (setup_of c.replica) c.masks r ≡ true)
          → Kept s past i c (enter_round sha256 entry d)
      pass p =
          let here : r ≡ c.replica.round.0 = eqb-true _ _ p.0 in
          let cert : certified s c.masks r ≡ true =
          ap (λ k. certified k c.masks r) (sym (setup_is s i c.replica st.good.fixed)) ∙ p.1 in
          enter_kept past i c d hears.renewed (wait_extends c (r + 1) c.replica.timer.0 (omega arith))
          (wait_standing s past i c st (r + 1) c.replica.timer.0 (omega arith) (omega arith) st.good.timer_low
          (λ q a b. let e : q ≡ r = omega arith in ap (certified s c.masks) e ∙ cert))
          (wait_ahead c (r + 1) c.replica.timer.0 (λ q l. hears.ahead q (omega arith) (λ e. omega (arith, e))))
