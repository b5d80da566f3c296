-- States that calls make from open on, with f = 1, T = 6 and a wait of 2: a replica that took the blocks 1, 2, .. in order, with empty
-- entries, and heard blames for their rounds. Assumes nothing.
use Prim.Native.Nat.{ℕ, zero, suc, ◌+◌, ◌-◌, ◌%◌, ◌≤◌, ◌<◌}
use mathlib.Core.Path.{◌≡◌, refl, sym, ap, ap₂, ◌∙◌, subst}
use mathlib.Core.List.{List, [], ◌∷◌, append-nil, flatten}
use mathlib.Core.Option.{some}
use mathlib.Core.Bool.{Bool, true, false, ◌&&◌, not}
use native.Mathlib.Numerals.{add-one}
use native.Mathlib.Omega.{arith}
use lib.ListN.{length, get_or, length-take, length-drop}
use lib.Dec.{eqb}
use borrow.Author.Tests.{le-ltb, eq-eqb, ne_eqb, eqb-true, eqb-false}
use Rattle.sha256.specs.Fips.{sha256}
use Rattle.apollo.specs.Size.{frame_size}
use Rattle.apollo.specs.declared.Replica.{Replica}
use Rattle.apollo.specs.Bytes.{zeros, same}
use Rattle.apollo.specs.Rotation.{in_turn, padded}
use Rattle.apollo.specs.Setup.{replicas, leader, setup, setup_of, valid_limits}
use Rattle.apollo.specs.Frame.{kind, signer, round, height, parent, digest, linked, sealed, blame_head, make_block, make_blame}
use Rattle.apollo.specs.Log.{genesis, slot, filled, store, clear_above, attach, highest}
use Rattle.apollo.specs.Masks.{bit, mask, add_blame}
use Rattle.apollo.specs.Replica.{fresh, leads, valid_own, with_committed}
use Rattle.apollo.specs.Enter.{State, Effect, commit_limit, commit, tipped, hearing, holding, entered, own_block, proposing, enter_round, settle}
use Rattle.apollo.specs.Outcome.{taken, state_of}
use Rattle.apollo.specs.BlockRun.{last_of, block}
use Rattle.apollo.specs.Branch.{first_uncertified, store_all, grown, adopting, placed}
use Rattle.apollo.specs.Single.{one_blame}
use Rattle.apollo.specs.Calls.{open_call, branch_call, blame_call}
use Rattle.apollo.specs.BenchSheet.{turn, Openable, Callable}
use Rattle.apollo.proofs.Single.{blame_one}
use Rattle.apollo.proofs.Tests.{both, cond_true, cond_false, same_of}
use Rattle.apollo.proofs.Rotation.{turn_rotation, padded_valid, turn_seat}
use Rattle.apollo.proofs.Validity.{Valid, setup_none, valid, valid_of}
use Rattle.apollo.proofs.Slots.{length_zeros, height_genesis, length_store, store_same, store_other, length_clear, clear_low, take_slots}
use Rattle.apollo.proofs.Judging.{passes, fresh_branch, attaches}
use Rattle.apollo.proofs.BlockRun.{blocks_one}
use Rattle.apollo.proofs.Made.{block_length, block_made, block_round, block_height, block_kind, block_parent, blame_length, blame_round, blame_form_lem, blame_checked}
use Rattle.apollo.proofs.BenchOpen.{open_fits}
use Rattle.apollo.proofs.BenchBranches.{adopts, skips_none, grown_low}

-- a blame of replica j for a round up to R, its bit not yet set, on any state
pub hears_at : {s : State} {out : List ℕ} → Callable s out → (entry : List ℕ) → length entry ≤ 400 → (j r : ℕ) → j < replicas (setup_of s.replica)
    → 1 ≤ r → r ≤ s.replica.round.0 → bit j (mask s.masks r) ≡ false
    → blame_call s (make_blame sha256 j r) entry out ≡ taken (settle sha256 entry (hearing s r j) r) out
unfolding one_blame
hears_at {s} {out} c entry l j r signs one low fresh_bit =
    let v : Valid s.replica s.log = valid s.replica s.log c.valid in
    let y : List ℕ = make_blame sha256 j r in
    let high : r ≤ s.replica.last_round.0 = omega (arith, c.running) in
    let short : r < 65536 = omega (arith, v.setup.last_most) in
    let at : round y ≡ r = ap (λ (z : List ℕ). round z) (sym (append-nil y)) ∙ blame_round j r [] short in
    let by : signer y ≡ j = unfold make_blame sealed blame_head in refl in
    blame_one s y entry out ∙ passes c entry l _
    ∙ cond_false _ _ (ap not (eq-eqb (length y) frame_size (blame_length j r)))
    ∙ cond_false _ _ (ap not (blame_checked j r))
    ∙ cond_false _ _ (ap not (blame_form_lem (setup_of s.replica) j r signs one high short))
    ∙ cond_false _ _ (le-ltb s.replica.round.0 (round y) (omega arith))
    ∙ cond_false _ _ (ap₂ (λ k q. bit k (mask s.masks q)) by at ∙ fresh_bit)
    ∙ ap (λ m. taken m out) (ap₂ (λ q k. settle sha256 entry (hearing s q k) q) at by)

-- an empty block of replica i for round r at height h on frame p, for f = 1 and T = 6
pub child : (i r h : ℕ) (p : List ℕ) → List ℕ
child i r h p = make_block sha256 i r h (digest p) []

pub record Child (r h : ℕ) (p x : List ℕ) : Type 0 where
  pub whole : length x ≡ frame_size
  pub good : block (setup 1 6 (turn 1)) x ≡ true
  pub at : round x ≡ r
  pub high : height x ≡ h
  pub full : filled x ≡ true
  pub on : linked p x ≡ true

pub children : (i r h : ℕ) (p : List ℕ) → length p ≡ frame_size → i ≡ leader (setup 1 6 (turn 1)) r → 1 ≤ r → r ≤ 6 → 1 ≤ h → h ≤ r → height p + 1 ≡ h
    → Child r h p (child i r h p)
unfolding child linked
children i r h p whole led one last low high next =
    let wide : length (digest p) ≡ 32 = simp (length-take, length-drop, whole) refl in
    let x : List ℕ = make_block sha256 i r h (digest p) [] in
    let e : height x ≡ h = block_height i r h (digest p) [] wide (omega arith) (omega arith) in
    record {
      whole = block_length i r h (digest p) [] wide (omega arith);
      good = block_made i r h (digest p) [] wide (omega arith) (setup 1 6 (turn 1)) led one last (omega arith) low high;
      at = block_round i r h (digest p) [] wide (omega arith) (omega arith);
      high = e;
      full = eq-eqb (kind x) 1 (block_kind i r h (digest p) [] wide (omega arith));
      on =
          both (same (digest p) (parent x)) (eqb (height p + 1) (height x))
          (same_of (sym (block_parent i r h (digest p) [] wide (omega arith)))) (eq-eqb (height p + 1) (height x) (next ∙ sym e));
    }

-- a frame at another height is no parent
pub unrelated : (p x : List ℕ) → ¬ (height p + 1 ≡ height x) → (filled p && linked p x) ≡ false
unfolding linked
unrelated p x ne =
    rw (ne_eqb (height p + 1) (height x) ne) (go (filled p) (same (digest p) (parent x)))
  where
    go : (a b : Bool) → (a && (b && false)) ≡ false
    go true true = refl
    go true false = refl
    go false b = refl

genesis_length : length genesis ≡ frame_size
unfolding genesis
genesis_length = length_zeros frame_size

-- block k of the chain, by the leader of round k at height k on the one before; block 0 is the genesis
unfoldable pub blk : ℕ → List ℕ
blk zero = genesis
blk (suc k) = child (k % 3) (k + 1) (k + 1) (blk k)

-- its length and its height
abbrev pub Sized : ℕ → Type 0
Sized k = (length (blk k) ≡ frame_size) × (height (blk k) ≡ k)

linked_from : (k : ℕ) → k < 6 → Sized k → Child (k + 1) (k + 1) (blk k) (blk (suc k))
unfolding blk leader
linked_from k low s =
    let e : height (blk k) ≡ k = s.1 in
    let e' : k + 1 - 1 ≡ k = omega arith in
    let led : k % 3 ≡ get_or (padded (turn 1)) ((k + 1 - 1) % 3) 0 =
    sym (ap (λ n. get_or (padded (turn 1)) (n % 3) 0) e' ∙ turn_seat 3 (k % 3) (omega arith) (omega arith)) in
    children (k % 3) (k + 1) (k + 1) (blk k) s.0 led (omega arith) (omega arith) (omega arith) (omega arith) (omega arith)

pub sized : (k : ℕ) → k ≤ 6 → Sized k
sized zero l = (unfold blk in genesis_length, unfold blk in height_genesis)
sized (suc k) l =
    let c : Child (k + 1) (k + 1) (blk k) (blk (suc k)) = linked_from k (omega arith) (sized k (omega arith)) in
    let h : height (blk (suc k)) ≡ k + 1 = c.high in
    (c.whole, omega arith)

-- block n + 1
pub next : (n : ℕ) → n < 6 → Child (n + 1) (n + 1) (blk n) (blk (n + 1))
next n l = subst (λ m. Child (n + 1) (n + 1) (blk n) (blk m)) (sym (add-one n)) (linked_from n l (sized n (omega arith)))

-- a log with T = 6 whose slots 1 to n hold these blocks
pub record Holds (log : List ℕ) (n : ℕ) : Type 0 where
  pub size : length log ≡ 3072
  pub slots : (k : ℕ) → k ≤ n → slot log k ≡ blk k

-- a record with f = 1, T = 6 and a wait of 2, all rounds up to the tip n filled and those up to k committed; as commit leaves it
abbrev up_to : (id n k : ℕ) → Replica
up_to id n k =
    record {
      id = id;
      f = 1;
      timeout = record { 0 = 2 };
      last_round = record { 0 = 6 };
      round = record { 0 = n + 1 };
      timer = record { 0 = 2 };
      tip_round = record { 0 = n };
      tip_height = record { 0 = n };
      committed_round = record { 0 = k };
      committed_height = record { 0 = k };
      rotation = padded (turn 1);
      equivocators = 0;
    }

abbrev pub record_of : (id n : ℕ) → Replica
record_of id n = up_to id n (n - 1)

-- the state that enters R, before it commits, and after
abbrev entering : (id n k : ℕ) (log masks : List ℕ) → State
entering id n k log masks = record { replica = up_to id n k; log = log; masks = masks }

abbrev pub state : (id n : ℕ) (log masks : List ℕ) → State
state id n log masks = entering id n (n - 1) log masks

unfoldable pub out : List ℕ
out = zeros 1024

module _ (log : List ℕ) (n : ℕ) (holds : Holds log n) (most : n ≤ 6) where
  pub slot_full : (k : ℕ) → 1 ≤ k → k ≤ n → filled (slot log k) ≡ true
  slot_full zero one l = absurd (omega arith)
  slot_full (suc k) one l =
      ap filled (holds.slots (suc k) l) ∙ (linked_from k (omega arith) (sized k (omega arith))).full

  highest_is : (k : ℕ) → k ≤ n → highest log k ≡ k
  unfolding highest
  highest_is zero l = refl
  highest_is (suc k) l = cond_true _ _ (slot_full (suc k) (omega arith) l)

  -- committed as commit sets it, whatever was committed
  pub renewed : (id k : ℕ) → commit (up_to id n k) log ≡ record_of id n
  unfolding commit commit_limit
  renewed id k =
      let e : n + 1 - 1 - 1 ≡ n - 1 = omega arith in
      let a : highest log (n + 1 - 1 - 1) ≡ n - 1 = ap (highest log) e ∙ highest_is (n - 1) (omega arith) in
      let b : height (slot log (highest log (n + 1 - 1 - 1))) ≡ n - 1 =
      ap (λ q. height (slot log q)) a ∙ ap (λ (x : List ℕ). height x) (holds.slots (n - 1) (omega arith))
      ∙ (sized (n - 1) (omega arith)).1 in
      ap₂ (with_committed (up_to id n k)) a b

  -- so entering commits
  enters : (id k : ℕ) (masks : List ℕ) → entered (entering id n k log masks) ≡ state id n log masks
  unfolding entered
  enters id k masks = ap (λ r. record { replica = r; log = log; masks = masks }) (renewed id k)

  pub callable : (id : ℕ) (masks : List ℕ) → id < 3 → n < 6 → length masks ≡ 6 → leads (record_of id n) ≡ false
      → Callable (state id n log masks) out
  unfolding out
  callable id masks i l m led =
      record {
        valid =
            valid_of (record_of id n) log (record {
              setup =
                  record {
                    id_below = i;
                    f_least = omega arith;
                    f_most = omega arith;
                    timeout_least = omega arith;
                    timeout_most = omega arith;
                    last_least = omega arith;
                    last_most = omega arith;
                    size = holds.size;
                  };
              rotation = padded_valid (setup 1 6 (turn 1)) (turn 1) (turn_rotation 3) (omega arith) refl;
              round_least = omega arith;
              round_most = omega arith;
              timer_most = omega arith;
              tip_below = omega arith;
              tip_height = omega arith;
              committed_most = omega arith;
              committed_height_most = omega arith;
              height_of_committed = omega arith;
              marks = omega arith;
              waits = led;
            });
        lent = eq-eqb (length masks) 6 m;
        running = omega arith;
        room = omega (arith, length_zeros 1024);
      }

-- what entering leaves, by whether the replica leads
entered_waits : (id n k : ℕ) (log masks : List ℕ) → n ≤ 6 → Holds log n → leads (record_of id n) ≡ false
    → (enter_round sha256 [] (entering id n k log masks)).state ≡ state id n log masks
unfolding enter_round leads
entered_waits id n k log masks l h e = ap (λ (m : Effect). m.state) (cond_false _ _ e) ∙ enters log n h l id k masks

-- a state that calls made, with the blocks 1 to n in its log
pub record Made (s : State) (id n : ℕ) (masks : List ℕ) : Type 0 where
  pub log : List ℕ
  pub is : s ≡ state id n log masks
  pub holds : Holds log n

store_holds : (log : List ℕ) (n : ℕ) → n < 6 → Holds log n → Holds (store log (n + 1) (blk (n + 1))) (n + 1)
store_holds log n l h =
    let size : length log ≡ 3072 = h.size in
    record {
      size = length_store log (n + 1) (blk (n + 1)) (omega arith) (omega arith) (next n l).whole ∙ size;
      slots = λ k m. by_test k m (eqb k (n + 1)) refl size;
    }
  where
    by_test : (k : ℕ) → k ≤ n + 1 → (b : Bool) → eqb k (n + 1) ≡ b → length log ≡ 3072 → slot (store log (n + 1) (blk (n + 1))) k ≡ blk k
    by_test k m true t size =
        let e : k ≡ n + 1 = eqb-true k (n + 1) t in
        rw e (store_same log (n + 1) (blk (n + 1)) (omega arith) (omega arith) (next n l).whole)
    by_test k m false t size =
        let ne : ¬ (k ≡ n + 1) = eqb-false k (n + 1) t in
        store_other log (n + 1) (blk (n + 1)) k (omega arith) (omega arith) (next n l).whole ne ∙ h.slots k (omega arith)

entered_leads : (id n k : ℕ) (log masks : List ℕ) → n < 6 → Holds log n → id ≡ n % 3 → leads (record_of id n) ≡ true
    → Made (enter_round sha256 [] (entering id n k log masks)).state id (n + 1) masks
unfolding enter_round proposing own_block holding tipped leads
entered_leads id n k log masks l h i e =
    let own : make_block sha256 id (n + 1) (n + 1) (digest (slot log n)) [] ≡ blk (n + 1) =
    ap₂ (λ j (p : List ℕ). make_block sha256 j (n + 1) (n + 1) (digest p) []) i (h.slots n (omega arith))
    ∙ (unfold blk child in ap blk (sym (add-one n))) in
    record {
      log = store log (n + 1) (blk (n + 1));
      is =
          ap (λ (m : Effect). m.state) (cond_true _ _ e)
          ∙ ap (λ x. entered (entering id (n + 1) k (store log (n + 1) x) masks)) own
          ∙ enters (store log (n + 1) (blk (n + 1))) (n + 1) (store_holds log n l h) (omega arith) id k masks;
      holds = store_holds log n l h;
    }

-- The calls. Open, by a replica that leads round 1 and by one that does not:
no_blocks : Holds (zeros 3072) 0
unfolding slot blk
no_blocks = record { size = length_zeros 3072; slots = λ k l. let z : k ≡ 0 = omega arith in rw z refl }

unfoldable pub opening : (id : ℕ) → State
opening id = state_of (open_call id 1 2 6 (turn 1) (zeros 3072) (zeros 6) [] out)

opened : (id : ℕ) → valid_own (fresh id 1 2 6 (turn 1)) ≡ true
    → opening id ≡ (enter_round sha256 [] (state id 0 (zeros 3072) (zeros 6))).state
unfolding opening out taken fresh
opened id own = ap state_of (open_fits id 1 2 6 (turn 1) (zeros 3072) (zeros 6) [] (zeros 1024) openable (omega arith))
  where
    openable : Openable id 1 2 6 (turn 1) (zeros 3072) (zeros 6) (zeros 1024)
    openable =
        record {
          setup = setup_none 1 6 (turn 1) (unfold valid_limits in refl) (turn_rotation 3);
          own = own;
          slots = unfold zeros in refl;
          lent = unfold zeros in refl;
          room = omega (arith, length_zeros 1024);
        }

pub opening_0 : Made (opening 0) 0 1 (zeros 6)
opening_0 =
    let m : Made (enter_round sha256 [] (state 0 0 (zeros 3072) (zeros 6))).state 0 1 (zeros 6) =
    entered_leads 0 0 0 (zeros 3072) (zeros 6) (omega arith) no_blocks refl (unfold leads leader padded in_turn zeros in refl) in
    record { log = m.log; is = opened 0 (unfold valid_own fresh in refl) ∙ m.is; holds = m.holds }

pub opening_1 : Made (opening 1) 1 0 (zeros 6)
opening_1 =
    record {
      log = zeros 3072;
      is =
          opened 1 (unfold valid_own fresh in refl)
          ∙ entered_waits 1 0 0 (zeros 3072) (zeros 6) (omega arith) no_blocks (unfold leads leader padded in_turn zeros in refl);
      holds = no_blocks;
    }

-- a branch of the next block
module _ (id n : ℕ) (log masks : List ℕ) (l : n < 5) (h : Holds log n) (c : Callable (state id n log masks) out) where
  abbrev x : List ℕ
  x = blk (n + 1)

  abbrev new : List ℕ
  new = grown log n (x ∷ [])

  child_x : Child (n + 1) (n + 1) (blk n) x
  child_x = next n (omega arith)

  at_x : round x ≡ n + 1
  at_x = child_x.at

  attached : attach log x (round x - 1) ≡ some n
  unfolding attach
  attached = by_parent n refl
    where
      by_parent : (k : ℕ) → n ≡ k → attach log x (round x - 1) ≡ some n
      by_parent zero z =
          let e : round x ≡ n + 1 = at_x in
          let first : round x - 1 ≡ 0 = omega arith in
          let on : linked genesis x ≡ true = unfold blk in subst (λ k. linked (blk k) x ≡ true) z child_x.on in
          ap (attach log x) first ∙ cond_true _ _ on ∙ ap some (sym z)
      by_parent (suc k) z =
          let e : round x ≡ n + 1 = at_x in
          attaches log x n (omega arith) (record {
            below = omega arith;
            found =
                both (filled (slot log n)) (linked (slot log n) x) (slot_full log n h (omega arith) n (omega arith) (omega arith))
                (rw (h.slots n (omega arith)) child_x.on);
            highest = λ q a b. absurd (omega arith);
          })

  new_holds : Holds new (n + 1)
  unfolding grown store_all
  new_holds =
      let size : length log ≡ 3072 = h.size in
      let below : Holds (clear_above log n) n =
      record {
        size = length_clear log n (omega arith) ∙ size;
        slots = λ k m. clear_low log n k (omega arith) m ∙ h.slots k m;
      } in
      subst (λ r. Holds (store (clear_above log n) r x) (n + 1)) (sym at_x) (store_holds (clear_above log n) n (omega arith) below)

  taken_x : branch_call (state id n log masks) x [] out ≡ taken (enter_round sha256 [] (entering id (n + 1) (n - 1) new masks)) out
  unfolding adopting last_of flatten holding tipped
  taken_x =
      let e : round x ≡ n + 1 = at_x in
      ap (λ (b : List ℕ). branch_call (state id n log masks) b [] out) (sym (append-nil x))
      ∙ fresh_branch c [] (omega arith) x [] (omega arith) (blocks_one _ x child_x.good) (omega arith)
      ∙ ap (placed sha256 [] out (state id n log masks) x []) attached
      ∙ adopts [] out (state id n log masks) x [] n
      (skips_none (setup 1 6 (turn 1)) masks x n [] e ∙ (unfold first_uncertified in refl))
      (take_slots new log (n - 1) (λ q a b. grown_low log x n (omega arith) (omega (arith, h.size)) child_x.whole q (omega arith)))
      ∙ ap (λ s. taken (enter_round sha256 [] s) out) (ap₂ (holding (state id n log masks) new) e child_x.high)

-- the same of a state that calls made: a call on it leaves such a state
module _ (s : State) (id n : ℕ) (masks : List ℕ) (made : Made s id n masks) (i : id < 3) (l : n < 5) (lent : length masks ≡ 6)
    (waits : leads (record_of id n) ≡ false) where
  abbrev here : State
  here = state id n made.log masks

  here_callable : Callable here out
  here_callable = callable made.log n made.holds (omega arith) id masks i (omega arith) lent waits

  abbrev there : State
  there = entering id (n + 1) (n - 1) (new id n made.log masks l made.holds here_callable) masks

  branch_left : state_of (branch_call s (blk (n + 1)) [] out) ≡ (enter_round sha256 [] there).state
  unfolding taken
  branch_left =
      ap (λ u. state_of (branch_call u (blk (n + 1)) [] out)) made.is
      ∙ ap state_of (taken_x id n made.log masks l made.holds here_callable)

  taken_holds : Holds there.log (n + 1)
  taken_holds = new_holds id n made.log masks l made.holds here_callable

  pub branch_waits : leads (record_of id (n + 1)) ≡ false → Made (state_of (branch_call s (blk (n + 1)) [] out)) id (n + 1) masks
  branch_waits e =
      record {
        log = there.log;
        is = branch_left ∙ entered_waits id (n + 1) (n - 1) there.log masks (omega arith) taken_holds e;
        holds = taken_holds;
      }

  pub branch_leads : id ≡ (n + 1) % 3 → leads (record_of id (n + 1)) ≡ true
      → Made (state_of (branch_call s (blk (n + 1)) [] out)) id (n + 1 + 1) masks
  branch_leads led e =
      let m : Made (enter_round sha256 [] there).state id (n + 1 + 1) masks =
      entered_leads id (n + 1) (n - 1) there.log masks (omega arith) taken_holds led e in
      record { log = m.log; is = branch_left ∙ m.is; holds = m.holds }

  -- a blame of replica j for a round below R, its bit not yet set
  module _ (j r : ℕ) (signs : j < 3) (one : 1 ≤ r) (past : r ≤ n) (fresh_bit : bit j (mask masks r) ≡ false) where
    abbrev y : List ℕ
    y = make_blame sha256 j r

    settled : settle sha256 [] (hearing here r j) r ≡ record { state = hearing here r j; emitted = [] }
    unfolding settle hearing
    settled =
        let e : eqb r (n + 1) ≡ false = ne_eqb r (n + 1) (λ z. omega arith) in
        rw e refl

    heard_y : blame_call here y [] out ≡ taken (record { state = hearing here r j; emitted = [] }) out
    heard_y =
        hears_at here_callable [] (omega arith) j r signs one (omega arith) fresh_bit ∙ ap (λ m. taken m out) settled

    pub hears : Made (state_of (blame_call s y [] out)) id n (add_blame masks r j)
    unfolding taken hearing
    hears =
        record {
          log = made.log;
          is = ap (λ u. state_of (blame_call u y [] out)) made.is ∙ ap state_of heard_y;
          holds = made.holds;
        }
