-- The state of a replica that keeps the rules, nobody presumed correct, and the effects that keep it good. Assumes nothing.
use Prim.Native.Nat.{ℕ, suc, ◌+◌, ◌*◌, ◌^◌, ◌≤◌, ◌<◌}
use mathlib.Core.Path.{◌≡◌, refl, sym, ap, ◌∙◌, subst}
use mathlib.Core.Logic.{⊎_elim, ◌≢◌}
use mathlib.Core.List.{List}
use mathlib.Core.Bool.{Bool, true, false}
use native.Mathlib.Omega.{arith}
use lib.ListN.{length}
use lib.Dec.{eqb, leb}
use borrow.Author.Tests.{eqb-true, eqb-false, leb-true, leb-false}
use Rattle.apollo.specs.declared.Replica.{Replica}
use Rattle.apollo.specs.declared.Setup.{Setup}
use Rattle.apollo.specs.Setup.{setup_of, replicas, valid_rotation}
use Rattle.apollo.specs.Frame.{kind, signer, round, height}
use Rattle.apollo.specs.Log.{slot, filled, highest}
use Rattle.apollo.specs.Masks.{bit, set_bit, mask, certified}
use Rattle.apollo.specs.Replica.{leads, with_mark}
use Rattle.apollo.proofs.Masks.{bit_set_other, bit_kept, set_below}
use Rattle.apollo.specs.Enter.{State, commit_limit, commit, tipped, waiting, hearing, holding, entered}
use Rattle.theorem_agreement.specs.Run.{Event, Seen}
use Rattle.theorem_agreement.specs.Marks.{Equivocated}
use Rattle.theorem_agreement.proofs.Masks.{mask_set, length_blame, certified_kept, certified_other}
use Rattle.theorem_agreement.proofs.Slots.{highest_le, highest_filled, highest_grows}
use Rattle.theorem_agreement.proofs.Chain.{Held, within}
use Rattle.theorem_agreement.proofs.Past.{Grows, seen_grows}
use Rattle.theorem_agreement.proofs.Stored.{Stored, stored_map}

-- replica k's blame for round q was seen
abbrev pub Blamed : List Event → ℕ → ℕ → Type 0
Blamed past k q = (x : List ℕ) × Seen x past × (kind x ≡ 2) × (signer x ≡ k) × (round x ≡ q)

-- committed is what the log and R make it
pub record Renewed (r : Replica) (log : List ℕ) : Type 0 where
  pub committed_is : r.committed_round.0 ≡ highest log (commit_limit r)
  pub height_of_committed : r.committed_height.0 ≡ height (slot log r.committed_round.0)

-- round q is not certified, by the state's own set-up
abbrev pub Open : State → ℕ → Type 0
Open c q = certified (setup_of c.replica) c.masks q ≡ false

-- no round from R on is certified: blames for later ones come early, and R is passed as soon as it is
abbrev pub Ahead : State → Type 0
Ahead c = (q : ℕ) → c.replica.round.0 ≤ q → Open c q

-- What holds after every call, and not always within one, where R has grown and is not entered yet: the replica leads no round that it
-- waits for, committed is renewed, and no round from R on is certified.
pub record Rested (c : State) : Type 0 where
  pub idle : leads c.replica ≡ false
  pub renewed : Renewed c.replica c.log
  pub ahead : Ahead c

-- the same while blames of round r are heard, but for that round
pub record Hears (r : ℕ) (c : State) : Type 0 where
  pub least : 1 ≤ r
  pub most : r ≤ c.replica.round.0
  pub idle : leads c.replica ≡ false
  pub renewed : Renewed c.replica c.log
  pub ahead : (q : ℕ) → c.replica.round.0 ≤ q → q ≢ r → Open c q

pub rested_hears : (r : ℕ) (c : State) → 1 ≤ r → r ≤ c.replica.round.0 → Rested c → Hears r c
rested_hears r c o l h =
    record { least = o; most = l; idle = h.idle; renewed = h.renewed; ahead = λ q m _. h.ahead q m }

pub hear_hears : (r k : ℕ) (c : State) → Hears r c → Hears r (hearing c r k)
unfolding hearing
hear_hears r k c h =
    record {
      least = h.least;
      most = h.most;
      idle = h.idle;
      renewed = h.renewed;
      ahead = λ q m ne.
          certified_other (setup_of c.replica) c.masks r k q (λ e. ne (omega (arith, e, h.least, h.most))) ∙ h.ahead q m ne;
    }

-- a state that hears round r, where that round is not R or not certified
pub hears_rested : (r : ℕ) (c : State) → Hears r c → (r ≡ c.replica.round.0 → Open c r) → Rested c
hears_rested r c h o =
    record { idle = h.idle; renewed = h.renewed; ahead = λ q m. go q m (eqb q r) refl }
  where
    go : (q : ℕ) → c.replica.round.0 ≤ q → (b : Bool) → eqb q r ≡ b → Open c q
    go q m true e =
        let z : q ≡ r = eqb-true _ _ e in
        ap (certified (setup_of c.replica) c.masks) z ∙ o (omega (arith, h.most))
    go q m false e = h.ahead q m (eqb-false _ _ e)

-- only the ticks left change
pub rest_rested : (c : State) (timer : ℕ) → Rested c → Rested (waiting c c.replica.round.0 timer)
unfolding waiting leads commit_limit
rest_rested c timer r =
    record {
      idle = r.idle;
      renewed = record { committed_is = r.renewed.committed_is; height_of_committed = r.renewed.height_of_committed };
      ahead = r.ahead;
    }

-- R grows
pub wait_ahead : (c : State) (R timer : ℕ) → ((q : ℕ) → R ≤ q → Open c q) → Ahead (waiting c R timer)
unfolding waiting
wait_ahead c R timer h = h

-- a replica that does not lead the R that it enters
pub enter_rested : (c : State) → leads c.replica ≡ false → Ahead c → Rested (entered c)
unfolding entered commit leads commit_limit
enter_rested c e a = record { idle = e; renewed = record { committed_is = refl; height_of_committed = refl }; ahead = a }

pub committed_low : {r : Replica} {log : List ℕ} → Renewed r log → r.committed_round.0 ≤ commit_limit r
committed_low {r} {log} h = omega (arith, h.committed_is, highest_le log (commit_limit r))

pub committed_held : {r : Replica} {log : List ℕ} → Renewed r log → Held (slot log) r.committed_round.0
committed_held {r} {log} h = subst (Held (slot log)) (sym h.committed_is) (highest_filled log (commit_limit r))

-- A later state, also within a call, keeps the slots up to the committed round and every mark; neither that round nor the limit of
-- commit falls.
pub record Extends (c d : State) : Type 0 where
  pub further : c.replica.committed_round.0 ≤ d.replica.committed_round.0
  pub limit : commit_limit c.replica ≤ commit_limit d.replica
  pub marks : (k : ℕ) → bit k c.replica.equivocators ≡ true → bit k d.replica.equivocators ≡ true
  pub same_slots : (q : ℕ) → 1 ≤ q → q ≤ c.replica.committed_round.0 → slot d.log q ≡ slot c.log q

pub extends_refl : (c : State) → Extends c c
extends_refl c = record { further = omega arith; limit = omega arith; marks = λ k e. e; same_slots = λ q o l. refl }

pub extends_trans : (c d e : State) → Extends c d → Extends d e → Extends c e
extends_trans c d e g h =
    record {
      further = omega (arith, g.further, h.further);
      limit = omega (arith, g.limit, h.limit);
      marks = λ k e. h.marks k (g.marks k e);
      same_slots = λ q o l. h.same_slots q o (omega (arith, g.further)) ∙ g.same_slots q o l;
    }

pub wait_extends : (c : State) (R timer : ℕ) → c.replica.round.0 ≤ R → Extends c (waiting c R timer)
unfolding waiting commit_limit
wait_extends c R timer up = record { further = omega arith; limit = omega arith; marks = λ k e. e; same_slots = λ q o l. refl }

pub hear_extends : (c : State) (r k : ℕ) → Extends c (hearing c r k)
unfolding hearing
hear_extends c r k = record { further = omega arith; limit = omega arith; marks = λ k e. e; same_slots = λ q o l. refl }

-- a log that keeps the committed slots is held
pub hold_extends : (c d : State) → Extends c d → (log : List ℕ) (t n : ℕ) → d.replica.round.0 ≤ t
    → ((q : ℕ) → 1 ≤ q → q ≤ c.replica.committed_round.0 → slot log q ≡ slot c.log q) → Extends c (holding d log t n)
unfolding holding tipped commit_limit
hold_extends c d x log t n up keep =
    record { further = x.further; limit = omega (arith, x.limit); marks = x.marks; same_slots = keep }

-- committed is renewed at the end of a call on c
pub enter_extends : (c d : State) → Renewed c.replica c.log → Extends c d → Extends c (entered d)
unfolding entered commit commit_limit
enter_extends c d r x =
    record {
      further =
          omega (
            arith,
            r.committed_is,
            highest_grows c.log d.log (commit_limit c.replica) (commit_limit d.replica) x.limit
                (λ q o l. x.same_slots q o (omega (arith, r.committed_is))),
          );
      limit = x.limit;
      marks = x.marks;
      same_slots = x.same_slots;
    }

-- the state with card k marked
abbrev pub marking : State → (k : ℕ) → State
marking c k = record { replica = with_mark c.replica k; log = c.log; masks = c.masks }

pub mark_extends : (c : State) (k : ℕ) → Extends c (marking c k)
unfolding commit_limit
mark_extends c k =
    record {
      further = omega arith;
      limit = omega arith;
      marks = λ j e. bit_kept k j c.replica.equivocators e;
      same_slots = λ q o l. refl;
    }

pub mark_rested : (c : State) (k : ℕ) → Rested c → Rested (marking c k)
unfolding leads commit_limit
mark_rested c k r =
    record {
      idle = r.idle;
      renewed = record { committed_is = r.renewed.committed_is; height_of_committed = r.renewed.height_of_committed };
      ahead = r.ahead;
    }

equivocated_grows : (s : Setup) (past now : List Event) → Grows past now → (k : ℕ) → Equivocated s past k → Equivocated s now k
equivocated_grows s past now g k d =
    record {
      one = d.one;
      other = d.other;
      one_seen = seen_grows past now g d.one d.one_seen;
      other_seen = seen_grows past now g d.other d.other_seen;
      one_block = d.one_block;
      other_block = d.other_block;
      one_round = d.one_round;
      names_differ = d.names_differ;
      led = d.led;
    }

module _ (s : Setup) where
  -- what no call changes: own number, f, timeout and T, in their ranges, and the rotation, which is valid
  pub record Fixed (i id f timeout last : ℕ) (rotation : List ℕ) : Type 0 where
    pub id_is : id ≡ i
    pub f_is : f ≡ s.f
    pub last_is : last ≡ s.last_round.0
    pub rotation_is : rotation ≡ s.rotation
    pub id_low : id < 2 * f + 1
    pub f_one : 1 ≤ f
    pub f_top : f ≤ 7
    pub timeout_one : 1 ≤ timeout
    pub timeout_top : timeout ≤ 60000
    pub last_one : 1 ≤ last
    pub last_top : last ≤ 4096
    pub turns : valid_rotation s ≡ true

  -- of a record
  abbrev pub FixedIn : ℕ → Replica → Type 0
  FixedIn i r = Fixed i r.id r.f r.timeout.0 r.last_round.0 r.rotation

  pub setup_is : (i : ℕ) (r : Replica) → FixedIn i r → setup_of r ≡ s
  setup_is i r x = λ k. record { f = x.f_is k; last_round = record { 0 = x.last_is k }; rotation = x.rotation_is k }

  -- A state after a call, or within one. `waits` and `stored` together: every round below R is filled or certified.
  pub record Good (past : List Event) (i : ℕ) (c : State) : Type 0 where
    pub fixed : FixedIn i c.replica
    pub masks_length : length c.masks ≡ s.last_round.0
    pub stored : Stored s past c.masks c.log c.replica.tip_round.0 c.replica.tip_height.0
    pub tip_below : c.replica.tip_round.0 < c.replica.round.0
    pub reach : c.replica.round.0 ≤ suc s.last_round.0
    pub timer_low : c.replica.timer.0 ≤ c.replica.timeout.0
    pub waits : (q : ℕ) → c.replica.tip_round.0 < q → q < c.replica.round.0 → certified s c.masks q ≡ true
    pub bits : (q k : ℕ) → 1 ≤ q → k < replicas s → bit k (mask c.masks q) ≡ true → Blamed past k q
    pub marks_low : c.replica.equivocators < 2 ^ replicas s
    pub marks : (k : ℕ) → bit k c.replica.equivocators ≡ true → Equivocated s past k

  -- the past grew
  pub good_grows : (past now : List Event) (i : ℕ) (c : State) → Grows past now → Good past i c → Good now i c
  good_grows past now i c g h =
      record {
        fixed = h.fixed;
        masks_length = h.masks_length;
        stored = stored_map s past now _ _ _ _ _ g (λ q e. e) h.stored;
        tip_below = h.tip_below;
        reach = h.reach;
        timer_low = h.timer_low;
        waits = h.waits;
        bits = λ q k o l e. let b : Blamed past k q = h.bits q k o l e in
            (b.0, seen_grows past now g b.0 b.1, b.2, b.3, b.4);
        marks_low = h.marks_low;
        marks = λ k e. equivocated_grows s past now g k (h.marks k e);
      }

  module _ (past : List Event) (i : ℕ) (c : State) (h : Good past i c) where
    -- R grows past certified rounds, or stays, and the ticks left change
    pub wait_good : (R timer : ℕ) → c.replica.round.0 ≤ R → R ≤ suc s.last_round.0 → timer ≤ c.replica.timeout.0
        → ((q : ℕ) → c.replica.round.0 ≤ q → q < R → certified s c.masks q ≡ true) → Good past i (waiting c R timer)
    unfolding waiting
    wait_good R timer up low short pass =
        record {
          fixed = h.fixed;
          masks_length = h.masks_length;
          stored = h.stored;
          tip_below = omega (arith, h.tip_below);
          reach = low;
          timer_low = short;
          waits = λ q a b. go q a b (leb c.replica.round.0 q) refl;
          bits = h.bits;
          marks_low = h.marks_low;
          marks = h.marks;
        }
      where
        go : (q : ℕ) → c.replica.tip_round.0 < q → q < R → (z : Bool) → leb c.replica.round.0 q ≡ z
            → certified s c.masks q ≡ true
        go q a b true z = pass q (leb-true _ _ z) b
        go q a b false z = h.waits q a (leb-false _ _ z)

    -- a bit is set for a blame that was seen
    pub hear_good : (r k : ℕ) → 1 ≤ r → Blamed past k r → Good past i (hearing c r k)
    unfolding hearing
    hear_good r k o b =
        record {
          fixed = h.fixed;
          masks_length = length_blame c.masks r k ∙ h.masks_length;
          stored = stored_map s past past _ _ _ _ _ (λ e p. p) (λ q. certified_kept s c.masks r k q) h.stored;
          tip_below = h.tip_below;
          reach = h.reach;
          timer_low = h.timer_low;
          waits = λ q a e. certified_kept s c.masks r k q (h.waits q a e);
          bits = λ q j p l e. ⊎_elim (λ old. h.bits q j p l old) (λ new. at q j new) (mask_set c.masks r k q j o p e);
          marks_low = h.marks_low;
          marks = h.marks;
        }
      where
        at : (q j : ℕ) → (q ≡ r) × (j ≡ k) → Blamed past j q
        at q j e = (b.0, b.1, b.2, b.3 ∙ sym e.1, b.4 ∙ sym e.0)

    -- a card is marked for two blocks that were seen
    pub mark_good : (k : ℕ) → k < replicas s → Equivocated s past k → Good past i (marking c k)
    mark_good k low d =
        record {
          fixed = h.fixed;
          masks_length = h.masks_length;
          stored = h.stored;
          tip_below = h.tip_below;
          reach = h.reach;
          timer_low = h.timer_low;
          waits = h.waits;
          bits = h.bits;
          marks_low = set_below (replicas s) k c.replica.equivocators low h.marks_low;
          marks = λ j e. go j e (eqb j k) refl;
        }
      where
        go : (j : ℕ) → bit j (set_bit k c.replica.equivocators) ≡ true → (b : Bool) → eqb j k ≡ b → Equivocated s past j
        go j e true z = subst (Equivocated s past) (sym (eqb-true _ _ z)) d
        go j e false z = h.marks j (sym (bit_set_other j k c.replica.equivocators (eqb-false _ _ z)) ∙ e)

    -- a log with a tip at R or above is held
    pub hold_good : (log : List ℕ) (t n : ℕ) → Stored s past c.masks log t n → c.replica.round.0 ≤ t → Good past i (holding c log t n)
    unfolding holding tipped
    hold_good log t n st up =
        record {
          fixed = h.fixed;
          masks_length = h.masks_length;
          stored = st;
          tip_below = omega arith;
          reach = omega (arith, st.chain.low);
          timer_low = h.timer_low;
          waits = λ q a b. absurd (omega arith);
          bits = h.bits;
          marks_low = h.marks_low;
          marks = h.marks;
        }

    -- R is entered
    pub enter_good : Good past i (entered c)
    unfolding entered commit
    enter_good =
        record {
          fixed = h.fixed;
          masks_length = h.masks_length;
          stored = h.stored;
          tip_below = h.tip_below;
          reach = h.reach;
          timer_low = omega arith;
          waits = h.waits;
          bits = h.bits;
          marks_low = h.marks_low;
          marks = h.marks;
        }

    -- every round below R is filled or certified
    pub good_certified : (q : ℕ) → 1 ≤ q → q < c.replica.round.0 → filled (slot c.log q) ≡ false → certified s c.masks q ≡ true
    good_certified q o l e = go (leb q c.replica.tip_round.0) refl
      where
        go : (z : Bool) → leb q c.replica.tip_round.0 ≡ z → certified s c.masks q ≡ true
        go true z = h.stored.chain.skip q o (leb-true _ _ z) e
        go false z = h.waits q (leb-false _ _ z) l

    -- a round up to the limit of commit, and the f rounds above it, are below R
    pub limit_low : (q : ℕ) → 1 ≤ q → q ≤ commit_limit c.replica → q + s.f < c.replica.round.0
    unfolding commit_limit
    limit_low q o l = omega (arith, h.fixed.f_is)

    -- the limit grows with R
    pub limit_grows : (j : ℕ) (d : State) → Good past j d → c.replica.round.0 ≤ d.replica.round.0
        → commit_limit c.replica ≤ commit_limit d.replica
    unfolding commit_limit
    limit_grows j d g l = omega (arith, h.fixed.f_is, g.fixed.f_is)

    -- the limit may be above the tip, the committed round is not: its slot is filled
    pub committed_tip : Renewed c.replica c.log → c.replica.committed_round.0 ≤ c.replica.tip_round.0
    committed_tip r = within s.last_round.0 _ _ (slot c.log) _ h.stored.chain _ (committed_held r)
