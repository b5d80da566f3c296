-- Items 9 and 10 of the bench sheet: branches that attach below skipped rounds, and a branch of held frames. Assumes nothing.
use Prim.Native.Nat.{ℕ, zero, suc, ◌+◌, ◌-◌, ◌*◌, ◌%◌, ◌≤◌, ◌<◌}
use mathlib.Core.Path.{◌≡◌, refl, sym, ap, ◌∙◌, subst}
use mathlib.Core.List.{List, [], ◌∷◌, ◌++◌, flatten, append_assoc, append-nil}
use mathlib.Core.Option.{none, some}
use mathlib.Core.Bool.{Bool, true, false, ◌&&◌, cond, true≢false}
use native.Mathlib.Omega.{arith}
use lib.ListN.{length, get_or, take}
use lib.Dec.{eqb, leb, ltb, eqb-suc-zero}
use borrow.Author.Tests.{lt-ltb, eq-eqb, ne_eqb, eqb-true, eqb-false}
use Rattle.sha256.specs.Fips.{sha256}
use Rattle.apollo.specs.Size.{frame_size}
use Rattle.apollo.specs.declared.Replica.{Replica}
use Rattle.apollo.specs.Bytes.{zeros}
use Rattle.apollo.specs.declared.Setup.{Setup}
use Rattle.apollo.specs.Rotation.{in_turn, padded}
use Rattle.apollo.specs.Setup.{setup_of, leader, setup}
use Rattle.apollo.specs.Frame.{round, height, linked}
use Rattle.apollo.specs.Log.{genesis, slot, filled, store, clear_above, attach}
use Rattle.apollo.specs.Masks.{mask, certified, gap}
use Rattle.apollo.specs.Replica.{leads}
use Rattle.apollo.specs.Enter.{State, Effect, commit, tipped, holding, entered, proposing, enter_round}
use Rattle.apollo.specs.Outcome.{refused, taken}
use Rattle.apollo.specs.BlockRun.{last_of, child_of, block, blocks}
use Rattle.apollo.specs.Branch.{first_uncertified, store_all, grown, adopting, placed}
use Rattle.apollo.specs.Calls.{branch_call}
use Rattle.apollo.specs.BenchSheet.{turn, Callable, ParentIn, Item9, Item10, Held, number, place, new_round}
use Rattle.apollo.proofs.Tests.{both, cond_true, cond_false, same_of, different}
use Rattle.apollo.proofs.Validity.{Valid, valid}
use Rattle.apollo.proofs.Slots.{filled_genesis, slot_length, length_store, store_same, store_other, length_clear, clear_low, clear_high, take_slots, slot_take}
use Rattle.apollo.proofs.BlockRun.{block_length, blocks_parts, blocks_of, blocks_none, blocks_one}
use Rattle.apollo.proofs.Judging.{fresh_branch, attaches}
use Rattle.apollo.proofs.BenchCommit.{slots_filled, committed_2, mask_1, mask_3}

-- the answers of a branch that attaches to round a
module _ (entry out : List ℕ) (s : State) (x : List ℕ) (xs : List (List ℕ)) (a : ℕ) where
  uncertified : (r : ℕ) → first_uncertified (setup_of s.replica) s.masks a (x ∷ xs) ≡ suc r
      → placed sha256 entry out s x xs (some a) ≡ refused s out 13 (suc r)
  unfolding placed
  uncertified r e =
      cond_false _ _ (ne_eqb (first_uncertified (setup_of s.replica) s.masks a (x ∷ xs)) 0 (λ z. omega arith))
      ∙ ap (refused s out 13) e

  module _ (none_short : first_uncertified (setup_of s.replica) s.masks a (x ∷ xs) ≡ 0) where
    reverts : ¬ (take (frame_size * s.replica.committed_round.0) (grown s.log a (x ∷ xs)) ≡ take (frame_size * s.replica.committed_round.0) s.log)
        → placed sha256 entry out s x xs (some a) ≡ refused s out 12 0
    unfolding placed
    reverts ne =
        cond_true _ _ (eq-eqb (first_uncertified (setup_of s.replica) s.masks a (x ∷ xs)) 0 none_short)
        ∙ cond_false _ _ (different _ _ ne)

    pub adopts : take (frame_size * s.replica.committed_round.0) (grown s.log a (x ∷ xs)) ≡ take (frame_size * s.replica.committed_round.0) s.log
        → placed sha256 entry out s x xs (some a) ≡ taken (adopting sha256 entry s a x xs) out
    unfolding placed
    adopts e =
        cond_true _ _ (eq-eqb (first_uncertified (setup_of s.replica) s.masks a (x ∷ xs)) 0 none_short)
        ∙ cond_true _ _ (same_of e)

-- a branch of the one block x, for the round waited for
module _ {s : State} {out : List ℕ} (c : Callable s out) (entry : List ℕ) (l : length entry ≤ 400) (x : List ℕ)
    (good : block (setup_of s.replica) x ≡ true) (now : round x ≡ s.replica.round.0) (p : ℕ) (low : 1 ≤ p)
    (parent : ParentIn s.log x p) where
  on_parent : branch_call s x entry out ≡ placed sha256 entry out s x [] (some p)
  unfolding last_of flatten
  on_parent =
      let f : Valid s.replica s.log = valid s.replica s.log c.valid in
      let last : 1 ≤ s.replica.last_round.0 = f.setup.last_least in
      ap (λ (b : List ℕ). branch_call s b entry out) (sym (append-nil x)) ∙ fresh_branch c entry l x [] last (blocks_one _ x good) (omega arith)
      ∙ ap (placed sha256 entry out s x []) (attaches s.log x p low parent)

first_short : (k : ℕ) → cond (eqb k 0) 0 k ≡ k
first_short zero = refl
first_short (suc k) = cond_false _ _ (eqb-suc-zero k)

-- the walk over one and over two skipped rounds above round 1, and over none
module _ (s : Setup) (masks x : List ℕ) where
  skips_1 : round x ≡ 3 → first_uncertified s masks 1 (x ∷ []) ≡ cond (certified s masks 2) 0 2
  unfolding first_uncertified gap
  skips_1 e = first_short (gap s masks 1 (round x - 1 - 1)) ∙ ap (λ k. gap s masks 1 (k - 1 - 1)) e

  skips_2 : round x ≡ 4
      → first_uncertified s masks 1 (x ∷ []) ≡ cond (certified s masks 2) (cond (certified s masks 3) 0 3) 2
  unfolding first_uncertified gap
  skips_2 e = first_short (gap s masks 1 (round x - 1 - 1)) ∙ ap (λ k. gap s masks 1 (k - 1 - 1)) e

  pub skips_none : (lo : ℕ) (xs : List (List ℕ)) → round x ≡ lo + 1
      → first_uncertified s masks lo (x ∷ xs) ≡ first_uncertified s masks (round x) xs
  unfolding first_uncertified gap
  skips_none lo xs e =
      let z : round x - lo - 1 ≡ 0 = omega arith in
      let g : gap s masks lo (round x - lo - 1) ≡ 0 = ap (gap s masks lo) z in
      cond_true _ _ (eq-eqb (gap s masks lo (round x - lo - 1)) 0 g)

-- one block on round a: the slots up to a are kept, those between are zeroed
module _ (log x : List ℕ) (a : ℕ) (above : a < round x) (fit : frame_size * round x ≤ length log) (whole : length x ≡ frame_size) where
  grown_other : (q : ℕ) → q < round x → slot (grown log a (x ∷ [])) q ≡ slot (clear_above log a) q
  unfolding grown store_all
  grown_other q b =
      let k : length (clear_above log a) ≡ length log = length_clear log a (omega arith) in
      store_other (clear_above log a) (round x) x q (omega arith) (omega arith) whole (λ e. omega arith)

  grown_length : length (grown log a (x ∷ [])) ≡ length log
  unfolding grown store_all
  grown_length =
      let k : length (clear_above log a) ≡ length log = length_clear log a (omega arith) in
      length_store (clear_above log a) (round x) x (omega arith) (omega arith) whole ∙ k

  pub grown_low : (q : ℕ) → q ≤ a → slot (grown log a (x ∷ [])) q ≡ slot log q
  grown_low q b = grown_other q (omega arith) ∙ clear_low log a q (omega arith) b

  grown_between : (q : ℕ) → a < q → q < round x → slot (grown log a (x ∷ [])) q ≡ genesis
  grown_between q b d = grown_other q d ∙ clear_high log a q b (omega arith)

-- whether a replica leads R, from its numbers
leads_as : (r : Replica) (R T f id : ℕ) (rotation : List ℕ) → r.round.0 ≡ R → r.last_round.0 ≡ T → r.f ≡ f → r.id ≡ id
    → r.rotation ≡ rotation → leads r ≡ (leb R T && eqb (get_or rotation ((R - 1) % (2 * f + 1)) 0) id)
unfolding leads leader
leads_as r R T f id rotation e g h k q = λ i. leb (e i) (g i) && eqb (get_or (q i) ((e i - 1) % (2 * h i + 1)) 0) (k i)

-- the R that entering leaves
entered_leads : (entry : List ℕ) (s : State) → leads s.replica ≡ true
    → (enter_round sha256 entry s).state.replica.round.0 ≡ s.replica.round.0 + 1
unfolding enter_round entered proposing holding tipped commit
entered_leads entry s e = ap (λ (m : Effect). m.state.replica.round.0) (cond_true _ _ e)

entered_waits : (entry : List ℕ) (s : State) → leads s.replica ≡ false
    → (enter_round sha256 entry s).state.replica.round.0 ≡ s.replica.round.0
unfolding enter_round entered commit
entered_waits entry s e = ap (λ (m : Effect). m.state.replica.round.0) (cond_false _ _ e)

module _ {s : State} {x out : List ℕ} (h : Item9 s x out) (entry : List ℕ) (l : length entry ≤ 400) where
  good_9 : block (setup_of s.replica) x ≡ true
  good_9 =
      let e : setup_of s.replica ≡ setup 1 6 (turn 1) =
      λ i. record { f = h.f i; last_round = record { 0 = h.last i }; rotation = h.rotation i } in
      subst (λ k. block k x ≡ true) (sym e) h.form

  at_9 : branch_call s x entry out ≡ placed sha256 entry out s x [] (some 1)
  at_9 = on_parent h.callable entry l x good_9 (h.round ∙ sym h.awaited) 1 (omega arith) h.parent

  short_9 : mask s.masks 2 ≡ 1 → branch_call s x entry out ≡ refused s out 13 2
  short_9 m =
      at_9
      ∙ uncertified entry out s x [] 1 1
      (skips_1 (setup_of s.replica) s.masks x h.round ∙ cond_false _ _ (mask_1 (setup_of s.replica) s.masks 2 h.f m))

  pub uncertified_9 : mask s.masks 2 ≡ 1
      → (number (branch_call s x entry out) ≡ 13) × (place (branch_call s x entry out) ≡ 2)
  unfolding refused
  uncertified_9 m = (ap number (short_9 m), ap place (short_9 m))

  module _ (m : mask s.masks 2 ≡ 3) (low : s.replica.committed_round.0 ≤ 1) where
    taken_9 : branch_call s x entry out ≡ taken (adopting sha256 entry s 1 x []) out
    taken_9 =
        let f : Valid s.replica s.log = valid s.replica s.log h.callable.valid in
        let size : length s.log ≡ frame_size * s.replica.last_round.0 = f.setup.size in
        let last : s.replica.last_round.0 ≡ 6 = h.last in
        let r : round x ≡ 3 = h.round in
        at_9
        ∙ adopts entry out s x [] 1
        (skips_1 (setup_of s.replica) s.masks x h.round ∙ cond_true _ _ (mask_3 (setup_of s.replica) s.masks 2 h.f m))
        (take_slots (grown s.log 1 (x ∷ [])) s.log s.replica.committed_round.0
        (λ q a b. grown_low s.log x 1 (omega arith) (omega arith) (block_length (setup_of s.replica) x good_9) q (omega arith)))

    pub number_9 : number (branch_call s x entry out) ≡ 0
    unfolding taken
    number_9 = ap number taken_9

    pub replica_1 : s.replica.id ≡ 1 → new_round (branch_call s x entry out) ≡ 4
    unfolding taken adopting last_of
    replica_1 e =
        let w : State = holding s (grown s.log 1 (x ∷ [])) (round x) (height x) in
        let led : leads w.replica ≡ false =
        unfold holding tipped padded in_turn zeros in
        leads_as w.replica 4 6 1 1 (padded (turn 1)) (ap (λ k. k + 1) h.round) h.last h.f e h.rotation in
        ap new_round taken_9 ∙ entered_waits entry w led ∙ (unfold holding tipped in ap (λ k. k + 1) h.round)

    pub replica_0 : s.replica.id ≡ 0 → new_round (branch_call s x entry out) ≡ 5
    unfolding taken adopting last_of
    replica_0 e =
        let w : State = holding s (grown s.log 1 (x ∷ [])) (round x) (height x) in
        let led : leads w.replica ≡ true =
        unfold holding tipped padded in_turn zeros in
        leads_as w.replica 4 6 1 0 (padded (turn 1)) (ap (λ k. k + 1) h.round) h.last h.f e h.rotation in
        ap new_round taken_9 ∙ entered_leads entry w led ∙ (unfold holding tipped in ap (λ k. k + 1 + 1) h.round)

pub committed_10 : {s : State} {out : List ℕ} → Item10 s out → s.replica.committed_round.0 ≡ 2
committed_10 {s} h =
    ap (λ (r : Replica). r.committed_round.0) h.renewed ∙ committed_2 s.replica s.log h.f h.awaited h.chain

module _ {s : State} {out : List ℕ} (h : Item10 s out) (entry : List ℕ) (l : length entry ≤ 400) where
  size_10 : 2048 ≤ length s.log
  size_10 =
      let f : Valid s.replica s.log = valid s.replica s.log h.callable.valid in
      let size : length s.log ≡ frame_size * s.replica.last_round.0 = f.setup.size in
      let R : s.replica.round.0 ≡ 4 = h.awaited in
      let running : s.replica.round.0 ≤ s.replica.last_round.0 = h.callable.running in
      omega arith

  module _ (x : List ℕ) (good : block (setup_of s.replica) x ≡ true) (r : round x ≡ 4) (parent : ParentIn s.log x 1) where
    at_10 : branch_call s x entry out ≡ placed sha256 entry out s x [] (some 1)
    at_10 = on_parent h.callable entry l x good (r ∙ sym h.awaited) 1 (omega arith) parent

    pub undone_10 : certified (setup_of s.replica) s.masks 2 ≡ true → certified (setup_of s.replica) s.masks 3 ≡ true
        → number (branch_call s x entry out) ≡ 12
    unfolding refused
    undone_10 two three =
        let log : List ℕ = s.log in
        let c : s.replica.committed_round.0 ≡ 2 = committed_10 h in
        let size : 2048 ≤ length log = size_10 in
        let b : length x ≡ frame_size = block_length (setup_of s.replica) x good in
        let new : List ℕ = grown log 1 (x ∷ []) in
        let cleared : slot new 2 ≡ genesis = grown_between log x 1 (omega arith) (omega arith) b 2 (omega arith) (omega arith) in
        let none : first_uncertified (setup_of s.replica) s.masks 1 (x ∷ []) ≡ 0 =
        skips_2 (setup_of s.replica) s.masks x r ∙ cond_true _ _ two ∙ cond_true _ _ three in
        let clash : take (frame_size * s.replica.committed_round.0) new ≡ take (frame_size * s.replica.committed_round.0) log → ⊥ =
        λ e.
        let e2 : take (frame_size * 2) new ≡ take (frame_size * 2) log = subst (λ k. take (frame_size * k) new ≡ take (frame_size * k) log) c e in
        let same_slot : slot new 2 ≡ slot log 2 =
        sym (slot_take new 2 2 (omega arith) (omega (arith, grown_length log x 1 (omega arith) (omega arith) b))) ∙ ap (λ y. slot y 2) e2
        ∙ slot_take log 2 2 (omega arith) (omega arith) in
        true≢false (sym (slots_filled log h.chain).1 ∙ ap filled (sym same_slot ∙ cleared) ∙ filled_genesis) in
        ap number (at_10 ∙ reverts entry out s x [] 1 none clash)

    short_10 : certified (setup_of s.replica) s.masks 2 ≡ false → branch_call s x entry out ≡ refused s out 13 2
    short_10 two =
        at_10 ∙ uncertified entry out s x [] 1 1 (skips_2 (setup_of s.replica) s.masks x r ∙ cond_false _ _ two)

    pub uncertified_10 : certified (setup_of s.replica) s.masks 2 ≡ false
        → (number (branch_call s x entry out) ≡ 13) × (place (branch_call s x entry out) ≡ 2)
    unfolding refused
    uncertified_10 two = (ap number (short_10 two), ap place (short_10 two))

-- a slot stored back where the slots below it are back already
restored : (log base : List ℕ) (r q : ℕ) → r ≡ q → 1 ≤ q → frame_size * q ≤ length base → length (slot log q) ≡ frame_size
    → ((k : ℕ) → k < q → slot base k ≡ slot log k)
    → (k : ℕ) → k < q + 1 → slot (store base r (slot log q)) k ≡ slot log k
restored log base r q same-round one fit whole below k l = rw same-round (go (eqb k q) refl)
  where
    go : (b : Bool) → eqb k q ≡ b → slot (store base q (slot log q)) k ≡ slot log k
    go true t =
        let e : k ≡ q = eqb-true k q t in
        rw e (store_same base q (slot log q) one fit whole)
    go false t =
        let ne : ¬ (k ≡ q) = eqb-false k q t in
        store_other base q (slot log q) k one fit whole ne ∙ below k (omega arith)

-- storing the slots 1, 2, 3 back and a frame for round 4 keeps the first three slots
module _ (log y : List ℕ) (size : 2048 ≤ length log) (whole : length y ≡ frame_size) (one : round (slot log 1) ≡ 1)
    (two : round (slot log 2) ≡ 2) (three : round (slot log 3) ≡ 3) (four : round y ≡ 4) where
  kept_3 : (k : ℕ) → k < 4 → slot (grown log 0 (slot log 1 ∷ slot log 2 ∷ slot log 3 ∷ y ∷ [])) k ≡ slot log k
  unfolding grown store_all
  kept_3 k l =
      let w1 : length (slot log 1) ≡ frame_size = slot_length log 1 (omega arith) in
      let w2 : length (slot log 2) ≡ frame_size = slot_length log 2 (omega arith) in
      let w3 : length (slot log 3) ≡ frame_size = slot_length log 3 (omega arith) in
      let l0 : List ℕ = clear_above log 0 in
      let l1 : List ℕ = store l0 (round (slot log 1)) (slot log 1) in
      let l2 : List ℕ = store l1 (round (slot log 2)) (slot log 2) in
      let l3 : List ℕ = store l2 (round (slot log 3)) (slot log 3) in
      let n0 : length l0 ≡ length log = length_clear log 0 (omega arith) in
      let n1 : length l1 ≡ length l0 = length_store l0 (round (slot log 1)) (slot log 1) (omega arith) (omega arith) w1 in
      let n2 : length l2 ≡ length l1 = length_store l1 (round (slot log 2)) (slot log 2) (omega arith) (omega arith) w2 in
      let n3 : length l3 ≡ length l2 = length_store l2 (round (slot log 3)) (slot log 3) (omega arith) (omega arith) w3 in
      let k0 : (k : ℕ) → k < 1 → slot l0 k ≡ slot log k = λ k a. clear_low log 0 k (omega arith) (omega arith) in
      let k1 : (k : ℕ) → k < 2 → slot l1 k ≡ slot log k =
      restored log l0 (round (slot log 1)) 1 one (omega arith) (omega arith) w1 k0 in
      let k2 : (k : ℕ) → k < 3 → slot l2 k ≡ slot log k =
      restored log l1 (round (slot log 2)) 2 two (omega arith) (omega arith) w2 k1 in
      let k3 : (k : ℕ) → k < 4 → slot l3 k ≡ slot log k =
      restored log l2 (round (slot log 3)) 3 three (omega arith) (omega arith) w3 k2 in
      store_other l3 (round y) y k (omega arith) (omega arith) whole (λ e. omega arith) ∙ k3 k l

module _ {s : State} {out : List ℕ} (h : Item10 s out) (entry : List ℕ) (l : length entry ≤ 400)
    (held : Held (setup_of s.replica) s.log) (y : List ℕ) (good : block (setup_of s.replica) y ≡ true)
    (child : linked (slot s.log 3) y ≡ true) (four : round y ≡ 4) where
  branch_10 : blocks (setup_of s.replica) none (slot s.log 1 ∷ slot s.log 2 ∷ slot s.log 3 ∷ y ∷ []) ≡ true
  unfolding child_of
  branch_10 =
      let u : Setup = setup_of s.replica in
      let a : List ℕ = slot s.log 1 in
      let b : List ℕ = slot s.log 2 in
      let c : List ℕ = slot s.log 3 in
      let third : round c ≡ 3 = held.third in
      let p = blocks_parts u none a (b ∷ c ∷ []) held.linked in
      let q = blocks_parts u (some a) b (c ∷ []) p.2 in
      let r = blocks_parts u (some b) c [] q.2 in
      let d : child_of c y ≡ true = both (linked c y) (ltb (round c) (round y)) child (lt-ltb (round c) (round y) (omega arith)) in
      blocks_of u none a (b ∷ c ∷ y ∷ []) p.0 refl
      (blocks_of u (some a) b (c ∷ y ∷ []) q.0 q.1
      (blocks_of u (some b) c (y ∷ []) r.0 r.1 (blocks_of u (some c) y [] good d (blocks_none u (some y)))))

  attached_10 : attach s.log (slot s.log 1) (round (slot s.log 1) - 1) ≡ some 0
  unfolding attach
  attached_10 =
      let first : round (slot s.log 1) ≡ 1 = held.first in
      let z : round (slot s.log 1) - 1 ≡ 0 = omega arith in
      ap (attach s.log (slot s.log 1)) z ∙ cond_true _ _ held.root

  none_10 : first_uncertified (setup_of s.replica) s.masks 0 (slot s.log 1 ∷ slot s.log 2 ∷ slot s.log 3 ∷ y ∷ []) ≡ 0
  none_10 =
      let u : Setup = setup_of s.replica in
      let a : List ℕ = slot s.log 1 in
      let b : List ℕ = slot s.log 2 in
      let c : List ℕ = slot s.log 3 in
      let first : round a ≡ 1 = held.first in
      let second : round b ≡ 2 = held.second in
      let third : round c ≡ 3 = held.third in
      skips_none u s.masks a 0 (b ∷ c ∷ y ∷ []) first ∙ skips_none u s.masks b (round a) (c ∷ y ∷ []) (omega arith)
      ∙ skips_none u s.masks c (round b) (y ∷ []) (omega arith) ∙ skips_none u s.masks y (round c) [] (omega arith)
      ∙ (unfold first_uncertified in refl)

  pub held_10 : number (branch_call s (slot s.log 1 ++ slot s.log 2 ++ slot s.log 3 ++ y) entry out) ≡ 0
  unfolding taken last_of flatten
  held_10 =
      let a : List ℕ = slot s.log 1 in
      let b : List ℕ = slot s.log 2 in
      let c : List ℕ = slot s.log 3 in
      let R : s.replica.round.0 ≡ 4 = h.awaited in
      let running : s.replica.round.0 ≤ s.replica.last_round.0 = h.callable.running in
      let committed : s.replica.committed_round.0 ≡ 2 = committed_10 h in
      let whole : length y ≡ frame_size = block_length (setup_of s.replica) y good in
      let bytes : a ++ b ++ c ++ y ≡ flatten (a ∷ b ∷ c ∷ y ∷ []) = simp (append_assoc, append-nil) refl in
      ap number (ap (λ (x : List ℕ). branch_call s x entry out) bytes
      ∙ fresh_branch h.callable entry l a (b ∷ c ∷ y ∷ []) (omega arith) branch_10 (omega arith)
      ∙ ap (placed sha256 entry out s a (b ∷ c ∷ y ∷ [])) attached_10
      ∙ adopts entry out s a (b ∷ c ∷ y ∷ []) 0 none_10
      (take_slots (grown s.log 0 (a ∷ b ∷ c ∷ y ∷ [])) s.log s.replica.committed_round.0
      (λ q lo hi. kept_3 s.log y (size_10 h entry l) whole held.first held.second held.third four q (omega arith))))
