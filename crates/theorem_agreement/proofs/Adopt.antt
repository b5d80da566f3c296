-- A branch: what its judgement says of the frames, where it attaches, and that the log which taking it makes is linked. Assumes nothing.
use Prim.Native.Nat.{ℕ, zero, suc, ◌+◌, ◌-◌, ◌≤◌, ◌<◌}
use mathlib.Core.Path.{◌≡◌, refl, sym, ap, ◌∙◌, subst}
use mathlib.Core.Logic.{inl, inr}
use mathlib.Core.Option.{Option, none, some}
use mathlib.Core.List.{List, [], ◌∷◌}
use mathlib.Core.Bool.{true, ◌&&◌}
use native.Mathlib.Omega.{arith}
use lib.ListN.{length}
use lib.Dec.{eqb}
use borrow.Author.Tests.{eqb-true, eqb-false, eq-eqb, leb-true}
use Rattle.sha256.specs.Fips.{sha256}
use Rattle.apollo.specs.Size.{frame_size}
use Rattle.apollo.specs.declared.Setup.{Setup}
use Rattle.apollo.specs.Setup.{leader}
use Rattle.apollo.specs.Bytes.{same}
use Rattle.apollo.specs.Frame.{kind, signer, round, height, digest, parent, block_form, linked, checked}
use Rattle.apollo.specs.Log.{genesis, slot, filled, store, clear_above, attach}
use Rattle.apollo.specs.Masks.{gap}
use Rattle.apollo.specs.BlockRun.{last_of, blocks, judged_run}
use Rattle.apollo.specs.Branch.{first_uncertified, store_all, grown}
use Rattle.theorem_agreement.specs.Run.{Event, In, Seen}
use Rattle.apollo.proofs.Tests.{both}
use Rattle.theorem_agreement.proofs.Tests.{and-true, same_true, same_of, by_cond}
use Rattle.theorem_agreement.proofs.Masks.{gap_none}
use Rattle.theorem_agreement.proofs.Slots.{store_same, clear_low}
use Rattle.theorem_agreement.proofs.Frames.{Whole}
use Rattle.theorem_agreement.proofs.Chain.{Held, Joins, within}
use Rattle.theorem_agreement.proofs.Stored.{Fact, Stored, store_stored, clear_stored}
use Rattle.apollo.proofs.BlockRun.{block_of, block_parts, child_parts, blocks_parts, blocks_judged}

pub linked_joins : (p x : List ℕ) → linked p x ≡ true → Joins p x
unfolding linked
linked_joins p x e =
    let t : (same (digest p) (parent x) ≡ true) × (eqb (height p + 1) (height x) ≡ true) = and-true _ _ e in
    let h : height p + 1 ≡ height x = eqb-true _ _ t.1 in
    record { named = same_true (digest p) (parent x) t.0; rise = omega arith }

pub joins_linked : (p x : List ℕ) → Joins p x → linked p x ≡ true
unfolding linked
joins_linked p x j =
    both (same (digest p) (parent x)) (eqb (height p + 1) (height x)) (same_of j.named)
    (eq-eqb (height p + 1) (height x) (omega (arith, j.rise)))

-- where a frame attaches
abbrev Attached : List ℕ → List ℕ → ℕ → ℕ → Type 0
Attached log x r a = (a ≤ r) × Held (slot log) a × Joins (slot log a) x

some_is : (r a : ℕ) → some r ≡ some a → a ≡ r
some_is r a e = cc

not_some : (a : ℕ) → none ≡ some a → ⊥
not_some a e = let z : ◌≡◌ {A = ℕ} 0 1 = cc in omega arith

pub attach_at : (log x : List ℕ) (r a : ℕ) → attach log x r ≡ some a → Attached log x r a
unfolding attach
attach_at log x zero a e =
    by_cond (λ p. p ≡ some a → Attached log x zero a) (linked genesis x)
    (λ g p. let z : a ≡ 0 = some_is 0 a p in
    (omega arith, inl z, subst (λ k. Joins (slot log k) x) (sym z) (unfold slot in linked_joins genesis x g)))
    (λ g p. absurd (not_some a p)) e
attach_at log x (suc r) a e =
    by_cond (λ p. p ≡ some a → Attached log x (suc r) a) (filled (slot log (suc r)) && linked (slot log (suc r)) x)
    (λ g p. let z : a ≡ suc r = some_is (suc r) a p in
    let h : (filled (slot log (suc r)) ≡ true) × (linked (slot log (suc r)) x ≡ true) = and-true _ _ g in (
      omega arith,
      inr (ap (λ k. filled (slot log k)) z ∙ h.0),
      subst (λ k. Joins (slot log k) x) (sym z) (linked_joins (slot log (suc r)) x h.1),
    ))
    (λ g p. let h : Attached log x r a = attach_at log x r a p in (omega (arith, h.0), h.1, h.2)) e

module _ (s : Setup) where
  -- a frame with a right check and the form of a block
  pub record Block (x : List ℕ) : Type 0 where
    pub right : checked sha256 x ≡ true
    pub form : block_form s x ≡ true
    pub kind_is : kind x ≡ 1
    pub signed : signer x ≡ leader s (round x)
    pub lowest : 1 ≤ round x
    pub highest : round x ≤ s.last_round.0

  pub formed : (x : List ℕ) → checked sha256 x ≡ true → block_form s x ≡ true → Block x
  unfolding block_form
  formed x c g =
      let p4 = (and-true _ _ g).0 in
      let p3 = (and-true _ _ p4).0 in
      let p2 = and-true _ _ p3 in
      let p1 = (and-true _ _ p2.0).0 in
      let p0 = and-true _ _ p1 in
      let r = and-true _ _ p2.1 in
      record {
        right = c;
        form = g;
        kind_is = eqb-true _ _ p0.0;
        signed = eqb-true _ _ p0.1;
        lowest = leb-true _ _ r.0;
        highest = leb-true _ _ r.1;
      }

  -- the leader of a filled slot's round signed what is in it
  pub led_by : (past : List Event) (q : ℕ) (x : List ℕ) → Fact s past q x → signer x ≡ leader s q
  led_by past q x t =
      let p = block_parts s x t.block in
      (formed x p.0 p.1).signed ∙ ap (leader s) t.round_is

  -- each frame of a branch is a block, and the child of the one before
  abbrev pub Row : List ℕ → List (List ℕ) → Type 0
  Row x [] = Unit {0}
  Row x (y ∷ ys) = Block y × Joins x y × (round x < round y) × Row y ys

  run_row : (x : List ℕ) (ys : List (List ℕ)) → blocks s (some x) ys ≡ true → Row x ys
  run_row x [] e = tt
  run_row x (y ∷ ys) e =
      let q = blocks_parts s (some x) y ys e in
      let p = block_parts s y q.0 in
      let c = child_parts x y q.1 in
      (formed y p.0 p.1, linked_joins x y c.0, c.1, run_row y ys q.2)

  pub blocks_row : (p : Option (List ℕ)) (x : List ℕ) (ys : List (List ℕ)) → blocks s p (x ∷ ys) ≡ true → Block x × Row x ys
  blocks_row p x ys e =
      let q = blocks_parts s p x ys e in
      let b = block_parts s x q.0 in
      (formed x b.0 b.1, run_row x ys q.2)

  pub branch_row : (x : List ℕ) (ys : List (List ℕ)) → (judged_run sha256 s 0 none (x ∷ ys)).number ≡ 0 → Whole (x ∷ ys) → Block x × Row x ys
  branch_row x ys e w = blocks_row none x ys (blocks_judged s 0 none (x ∷ ys) e w)

  -- the frames handed in that have a right check are seen
  abbrev pub Known : List Event → List (List ℕ) → Type 0
  Known past xs = (x : List ℕ) → In x xs → checked sha256 x ≡ true → Seen x past

  module _ (past : List Event) (masks : List ℕ) where
    certified_parts : (lo : ℕ) (x : List ℕ) (xs : List (List ℕ)) → first_uncertified s masks lo (x ∷ xs) ≡ 0
        → (gap s masks lo (round x - lo - 1) ≡ 0) × (first_uncertified s masks (round x) xs ≡ 0)
    unfolding first_uncertified
    certified_parts lo x xs e =
        by_cond (λ v. v ≡ 0 → (gap s masks lo (round x - lo - 1) ≡ 0) × (first_uncertified s masks (round x) xs ≡ 0))
        (eqb (gap s masks lo (round x - lo - 1)) 0) (λ g v. (eqb-true _ _ g, v)) (λ g v. absurd (eqb-false _ _ g v)) e

    store_first : (log : List ℕ) (a h : ℕ) (x : List ℕ) → Stored s past masks log a h → Block x → Seen x past → length x ≡ frame_size
        → Joins (slot log a) x → a < round x → gap s masks a (round x - a - 1) ≡ 0
        → Stored s past masks (store log (round x) x) (round x) (height x)
    store_first log a h x st b k l j up g =
        store_stored s past masks log a h st (round x) x up b.highest b.kind_is l
        (record { round_is = refl; block = block_of s x l b.right b.form; seen = k }) j
        (λ q m n. gap_none s masks a (round x - a - 1) g q m (omega arith))

    store_row : (xs : List (List ℕ)) (log : List ℕ) (a h : ℕ) (x : List ℕ) → Stored s past masks log a h → Block x → Row x xs
        → Known past (x ∷ xs) → Whole (x ∷ xs) → Joins (slot log a) x → a < round x → first_uncertified s masks a (x ∷ xs) ≡ 0
        → Stored s past masks (store_all log (x ∷ xs)) (round (last_of x xs)) (height (last_of x xs))
    unfolding store_all last_of
    store_row [] log a h x st b r k w j up u =
        store_first log a h x st b (k x (inl refl) b.right) w.0 j up (certified_parts a x [] u).0
    store_row (y ∷ ys) log a h x st b r k w j up u =
        store_row ys (store log (round x) x) (round x) (height x) y
        (store_first log a h x st b (k x (inl refl) b.right) w.0 j up (certified_parts a x (y ∷ ys) u).0) r.0 r.3
        (λ z p. k z (inr p)) w.1
        (subst (λ z. Joins z y) (sym (store_same log (round x) x b.lowest (omega (arith, st.size, b.highest)) w.0)) r.1) r.2
        (certified_parts a x (y ∷ ys) u).1

    -- the log that taking a branch on round a makes
    pub grown_stored : (log : List ℕ) (tip h a : ℕ) (x : List ℕ) (xs : List (List ℕ)) → Stored s past masks log tip h
        → attach log x (round x - 1) ≡ some a → Block x → Row x xs → Known past (x ∷ xs) → Whole (x ∷ xs)
        → first_uncertified s masks a (x ∷ xs) ≡ 0
        → Stored s past masks (grown log a (x ∷ xs)) (round (last_of x xs)) (height (last_of x xs))
    unfolding grown
    grown_stored log tip h a x xs st e b r k w u =
        let t : Attached log x (round x - 1) a = attach_at log x (round x - 1) a e in
        let l : a ≤ tip = within s.last_round.0 _ _ (slot log) tip st.chain a t.1 in
        store_row xs (clear_above log a) a _ x (clear_stored s past masks log tip h st a t.1) b r k w
        (subst (λ z. Joins z x) (sym (clear_low log a a (omega (arith, st.size, st.chain.low)) (omega arith))) t.2)
        (omega (arith, t.0, b.lowest)) u
