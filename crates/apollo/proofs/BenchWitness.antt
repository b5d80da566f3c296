-- The premises of items 9 and 10 of the bench sheet can be met, by states that calls make from open on (of item 3: crate witness). Assumes
-- nothing.
use Prim.Native.Nat.{ℕ, ◌+◌, ◌≤◌, ◌<◌}
use mathlib.Core.Path.{◌≡◌, refl, sym, subst}
use mathlib.Core.List.{List, [], ◌∷◌}
use mathlib.Core.Option.{none, some}
use mathlib.Core.Bool.{true, false}
use native.Mathlib.Omega.{arith}
use lib.ListN.{length, length-set}
use lib.Dec.{ltb}
use borrow.Author.Tests.{lt-ltb, ne_eqb}
use Rattle.sha256.specs.Fips.{sha256}
use Rattle.apollo.specs.Bytes.{zeros}
use Rattle.apollo.specs.declared.Setup.{Setup}
use Rattle.apollo.specs.Rotation.{in_turn, padded}
use Rattle.apollo.specs.Setup.{setup_of, leader, setup}
use Rattle.apollo.specs.Frame.{round, height, linked, make_blame}
use Rattle.apollo.specs.Log.{slot, filled}
use Rattle.apollo.specs.Masks.{bit, set_bit, mask, add_blame}
use Rattle.apollo.specs.Replica.{leads}
use Rattle.apollo.specs.Enter.{State}
use Rattle.apollo.specs.Outcome.{state_of}
use Rattle.apollo.specs.BlockRun.{child_of, block}
use Rattle.apollo.specs.Calls.{branch_call, blame_call}
use Rattle.apollo.specs.BenchSheet.{turn, chain_rounds, ParentIn, Item9, Item10, Held}
use Rattle.apollo.proofs.Tests.{both}
use Rattle.apollo.proofs.BlockRun.{blocks_of, blocks_none}
use Rattle.apollo.proofs.Slots.{length_zeros}
use Rattle.apollo.proofs.BenchMade.{child, Child, children, unrelated, blk, Sized, sized, next, Holds, record_of, out, slot_full, renewed, callable, Made, opening, opening_0, opening_1, branch_waits, branch_leads, hears}

-- a block at height 2 on block 1
on_1 : (log : List ℕ) (n : ℕ) → Holds log n → 1 ≤ n → n ≤ 5 → (x : List ℕ) (r : ℕ) → 1 < r → r ≤ n + 1 → Child r 2 (blk 1) x
    → ParentIn log x 1
on_1 log n h some_block most x r low top c =
    let e : round x ≡ r = c.at in
    let two : height x ≡ 2 = c.high in
    record {
      below = omega arith;
      found =
          both (filled (slot log 1)) (linked (slot log 1) x) (slot_full log n h (omega arith) 1 (omega arith) some_block)
          (rw (h.slots 1 some_block) c.on);
      highest = λ q a b. rw (h.slots q (omega arith)) (unrelated (blk q) x (λ z. omega (arith, (sized q (omega arith)).1)));
    }

-- a block for round r on block 1
aside : (i r : ℕ) → i ≡ leader (setup 1 6 (turn 1)) r → 2 ≤ r → r ≤ 6 → Child r 2 (blk 1) (child i r 2 (blk 1))
aside i r led low most =
    let s : Sized 1 = sized 1 (omega arith) in
    let h : height (blk 1) ≡ 1 = s.1 in
    children i r 2 (blk 1) s.0 led (omega arith) most (omega arith) low (omega arith)

-- Item 9, at replicas 0 and 1. Each has opened and holds blocks 1 and 2, its own and the other's; it hears one blame for round 2, and
-- a second; then the block for round 3 on block 1 comes.
unfoldable pub held_0 : State
held_0 = state_of (branch_call (opening 0) (blk 2) [] out)

unfoldable pub held_1 : State
held_1 = state_of (branch_call (opening 1) (blk 1) [] out)

unfoldable pub blamed : State → (i r : ℕ) → State
blamed s i r = state_of (blame_call s (make_blame sha256 i r) [] out)

unfoldable pub twice : State → (r : ℕ) → State
twice s r = blamed (blamed s 0 r) 1 r

-- what item 9 presumes, with mask m for round 2
pub record Met9 (s : State) (id m : ℕ) : Type 0 where
  pub block : List ℕ
  pub item : Item9 s block out
  pub id_is : s.replica.id ≡ id
  pub mask_is : mask s.masks 2 ≡ m
  pub low : s.replica.committed_round.0 ≤ 1

made_0 : Made held_0 0 2 (zeros 6)
unfolding held_0 leads leader padded in_turn zeros
made_0 = branch_waits (opening 0) 0 1 (zeros 6) opening_0 (omega arith) (omega arith) (length_zeros 6) refl refl

made_1 : Made held_1 1 2 (zeros 6)
unfolding held_1 leads leader padded in_turn zeros
made_1 = branch_leads (opening 1) 1 0 (zeros 6) opening_1 (omega arith) (omega arith) (length_zeros 6) refl refl refl

met_9 : (s : State) (id m : ℕ) (masks : List ℕ) → Made s id 2 masks → id < 2 → length masks ≡ 6 → mask masks 2 ≡ m → Met9 s id m
unfolding leads leader padded in_turn zeros
met_9 s id m masks made i lent e =
    let c : Child 3 2 (blk 1) (child 2 3 2 (blk 1)) = aside 2 3 refl (omega arith) (omega arith) in
    subst (λ u. Met9 u id m) (sym made.is) (record {
      block = child 2 3 2 (blk 1);
      item =
          record {
            callable =
                callable made.log 2 made.holds (omega arith) id masks (omega arith) (omega arith) lent
                (ne_eqb 2 id (λ z. omega arith));
            f = refl;
            last = refl;
            rotation = refl;
            awaited = refl;
            form = c.good;
            round = c.at;
            parent = on_1 made.log 2 made.holds (omega arith) (omega arith) (child 2 3 2 (blk 1)) 3 (omega arith) (omega arith) c;
          };
      id_is = refl;
      mask_is = e;
      low = omega arith;
    })

-- a replica with blocks 1 to n hears the blames of replicas 0 and 1 for round r
module _ (s : State) (id n : ℕ) (masks : List ℕ) (made : Made s id n masks) (i : id < 3) (l : n < 5) (lent : length masks ≡ 6)
    (waits : leads (record_of id n) ≡ false) (r : ℕ) (one : 1 ≤ r) (past : r ≤ n) where
  blamed_made : bit 0 (mask masks r) ≡ false → Made (blamed s 0 r) id n (add_blame masks r 0)
  unfolding blamed
  blamed_made z = hears s id n masks made i l lent waits 0 r (omega arith) one past z

  twice_made : bit 0 (mask masks r) ≡ false → bit 1 (mask (add_blame masks r 0) r) ≡ false
      → Made (twice s r) id n (add_blame (add_blame masks r 0) r 1)
  unfolding twice blamed
  twice_made z u =
      hears (blamed s 0 r) id n (add_blame masks r 0) (blamed_made z) i l (simp length-set lent) waits 1 r (omega arith) one past u

abbrev Both9 : (held : State) (id : ℕ) → Type 0
Both9 held id = Met9 (blamed held 0 2) id 1 × Met9 (twice held 2) id 3

both_9 : (held : State) (id : ℕ) → Made held id 2 (zeros 6) → id < 2 → Both9 held id
unfolding zeros bit set_bit leads leader padded in_turn
both_9 held id made i =
    let led : leads (record_of id 2) ≡ false = ne_eqb 2 id (λ z. omega arith) in (
      met_9 (blamed held 0 2) id 1 _
          (blamed_made held id 2 (zeros 6) made (omega arith) (omega arith) refl led 2 (omega arith) (omega arith) refl) i refl refl,
      met_9 (twice held 2) id 3 _
          (twice_made held id 2 (zeros 6) made (omega arith) (omega arith) refl led 2 (omega arith) (omega arith) refl refl) i refl refl,
    )

pub item_9_met : Both9 held_0 0 × Both9 held_1 1
item_9_met = (both_9 held_0 0 made_0 (omega arith), both_9 held_1 1 made_1 (omega arith))

-- Item 10, at replica 1, which then took block 3: with no blame heard, and with two for each of rounds 2 and 3.
unfoldable pub held_3 : State
held_3 = state_of (branch_call held_1 (blk 3) [] out)

made_3 : Made held_3 1 3 (zeros 6)
unfolding held_3 leads leader padded in_turn zeros
made_3 = branch_waits held_1 1 2 (zeros 6) made_1 (omega arith) (omega arith) (length_zeros 6) refl refl

-- what item 10 presumes of a block on block 1 and of one on block 3, with mask m for rounds 2 and 3
pub record Met10 (s : State) (m : ℕ) : Type 0 where
  pub aside : List ℕ
  pub above : List ℕ
  pub item : Item10 s out
  pub good : block (setup_of s.replica) aside ≡ true
  pub four : round aside ≡ 4
  pub parent : ParentIn s.log aside 1
  pub held : Held (setup_of s.replica) s.log
  pub above_good : block (setup_of s.replica) above ≡ true
  pub above_child : linked (slot s.log 3) above ≡ true
  pub above_four : round above ≡ 4
  pub masks_are : (mask s.masks 2 ≡ m) × (mask s.masks 3 ≡ m)

child_of_lem : (p x : List ℕ) {r h : ℕ} → Child r h p x → round p < round x → child_of p x ≡ true
unfolding child_of
child_of_lem p x c l = both (linked p x) (ltb (round p) (round x)) c.on (lt-ltb (round p) (round x) l)

module _ (log : List ℕ) (h : Holds log 3) where
  chained : chain_rounds log 3 ≡ 1 ∷ 2 ∷ 3 ∷ []
  unfolding chain_rounds
  chained =
      let f1 : filled (slot log 1) ≡ true = slot_full log 3 h (omega arith) 1 (omega arith) (omega arith) in
      let f2 : filled (slot log 2) ≡ true = slot_full log 3 h (omega arith) 2 (omega arith) (omega arith) in
      let f3 : filled (slot log 3) ≡ true = slot_full log 3 h (omega arith) 3 (omega arith) (omega arith) in
      rw (f1, f2, f3)

  held_3_blocks : Held (setup 1 6 (turn 1)) log
  held_3_blocks =
      let u : Setup = setup 1 6 (turn 1) in
      let c1 : Child 1 1 (blk 0) (blk 1) = next 0 (omega arith) in
      let c2 : Child 2 2 (blk 1) (blk 2) = next 1 (omega arith) in
      let c3 : Child 3 3 (blk 2) (blk 3) = next 2 (omega arith) in
      let r1 : round (blk 1) ≡ 1 = c1.at in
      let r2 : round (blk 2) ≡ 2 = c2.at in
      let r3 : round (blk 3) ≡ 3 = c3.at in
      let s1 : slot log 1 ≡ blk 1 = h.slots 1 (omega arith) in
      let s2 : slot log 2 ≡ blk 2 = h.slots 2 (omega arith) in
      let s3 : slot log 3 ≡ blk 3 = h.slots 3 (omega arith) in
      record {
        first = rw s1 r1;
        second = rw s2 r2;
        third = rw s3 r3;
        root = rw s1 (unfold blk in c1.on);
        linked =
            rw (s1, s2, s3)
            (blocks_of u none (blk 1) (blk 2 ∷ blk 3 ∷ []) c1.good refl
            (blocks_of u (some (blk 1)) (blk 2) (blk 3 ∷ []) c2.good (child_of_lem (blk 1) (blk 2) c2 (omega arith))
            (blocks_of u (some (blk 2)) (blk 3) [] c3.good (child_of_lem (blk 2) (blk 3) c3 (omega arith)) (blocks_none u (some (blk 3))))));
      }

met_10 : (s : State) (m : ℕ) (masks : List ℕ) → Made s 1 3 masks → length masks ≡ 6 → mask masks 2 ≡ m → mask masks 3 ≡ m → Met10 s m
unfolding leads leader padded in_turn zeros
met_10 s m masks made lent two three =
    let x : List ℕ = child 0 4 2 (blk 1) in
    let c : Child 4 2 (blk 1) x = aside 0 4 refl (omega arith) (omega arith) in
    let d : Child 4 4 (blk 3) (blk 4) = next 3 (omega arith) in
    subst (λ u. Met10 u m) (sym made.is) (record {
      aside = x;
      above = blk 4;
      item =
          record {
            callable = callable made.log 3 made.holds (omega arith) 1 masks (omega arith) (omega arith) lent refl;
            f = refl;
            id = refl;
            awaited = refl;
            chain = chained made.log made.holds;
            renewed = sym (renewed made.log 3 made.holds (omega arith) 1 2);
          };
      good = c.good;
      four = c.at;
      parent = on_1 made.log 3 made.holds (omega arith) (omega arith) x 4 (omega arith) (omega arith) c;
      held = held_3_blocks made.log made.holds;
      above_good = d.good;
      above_child = rw (made.holds.slots 3 (omega arith)) d.on;
      above_four = d.at;
      masks_are = (two, three);
    })

pub item_10_met : Met10 held_3 0 × Met10 (twice (twice held_3 2) 3) 3
unfolding zeros bit set_bit leads leader padded in_turn
item_10_met =
    let two : Made (twice held_3 2) 1 3 (0 ∷ 3 ∷ 0 ∷ 0 ∷ 0 ∷ 0 ∷ []) =
    twice_made held_3 1 3 (zeros 6) made_3 (omega arith) (omega arith) refl refl 2 (omega arith) (omega arith) refl refl in
    let three : Made (twice (twice held_3 2) 3) 1 3 (0 ∷ 3 ∷ 3 ∷ 0 ∷ 0 ∷ 0 ∷ []) =
    twice_made (twice held_3 2) 1 3 _ two (omega arith) (omega arith) refl refl 3 (omega arith) (omega arith) refl refl in
    (met_10 held_3 0 (zeros 6) made_3 refl refl refl, met_10 (twice (twice held_3 2) 3) 3 _ three refl refl refl)
