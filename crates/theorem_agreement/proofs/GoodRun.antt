-- A run of good frames, each the child of the one before, on a linked log: the chain of a state that calls made is one. Assumes what the
-- statements say, and nothing else.
use Prim.Native.Nat.{ℕ, zero, suc, ◌+◌, ◌*◌, ◌≤◌, ◌<◌}
use mathlib.Core.Path.{◌≡◌, refl, sym, ap, ◌∙◌, subst}
use mathlib.Core.Logic.{inl, inr}
use mathlib.Core.Option.{none, some}
use mathlib.Core.List.{List, [], ◌∷◌, ◌++◌}
use mathlib.Core.Bool.{Bool, true, false}
use native.Mathlib.Omega.{arith}
use lib.ListN.{length, length-append}
use lib.Dec.{leb, ltb}
use borrow.Author.Tests.{leb-true, leb-false, lt-ltb}
use Rattle.apollo.specs.Size.{frame_size}
use Rattle.apollo.specs.declared.Setup.{Setup}
use Rattle.apollo.specs.Frame.{round, linked}
use Rattle.apollo.specs.Log.{genesis, slot, filled, store, chain}
use Rattle.apollo.specs.Enter.{State}
use Rattle.apollo.specs.BlockRun.{last_of, child_of, blocks}
use Rattle.apollo.specs.Branch.{store_all}
use Rattle.apollo.specs.Fetch.{fetchable}
use Rattle.apollo.proofs.Tests.{both}
use Rattle.apollo.proofs.BlockRun.{block_length, block_parts, child_parts, blocks_parts, blocks_of, blocks_none, blocks_any, blocks_front}
use Rattle.theorem_agreement.specs.Run.{Event, In, Seen, start, run}
use Rattle.theorem_agreement.specs.GoodRun.{FromGenesis, GoodRun}
use Rattle.theorem_agreement.proofs.Tests.{by_cond}
use Rattle.theorem_agreement.proofs.Slots.{length_store, store_other}
use Rattle.theorem_agreement.proofs.Frames.{round_genesis}
use Rattle.theorem_agreement.proofs.Chain.{Held, Joins, Link, within}
use Rattle.theorem_agreement.proofs.Stored.{Linked}
use Rattle.theorem_agreement.proofs.Adopt.{joins_linked, Block, formed}
use Rattle.theorem_agreement.proofs.Above.{segment, segment_chain, segment_length, segment_in, below_is, Cut, cut}
use Rattle.theorem_agreement.proofs.Good.{Good}
use Rattle.theorem_agreement.proofs.World.{start_inv, run_inv}

-- the last frame is one of them, and the first ones are
pub last_in : (x : List ℕ) (ys : List (List ℕ)) → In (last_of x ys) (x ∷ ys)
unfolding last_of
last_in x [] = inl refl
last_in x (y ∷ ys) = inr (last_in y ys)

pub in_front : (z : List ℕ) (xs zs : List (List ℕ)) → In z xs → In z (xs ++ zs)
in_front z [] zs p = absurd p
in_front z (x ∷ xs) zs (inl e) = inl e
in_front z (x ∷ xs) zs (inr p) = inr (in_front z xs zs p)

module _ (s : Setup) where
  -- the slots up to p's round are kept where a run on p is stored
  pub stored_low : (xs : List (List ℕ)) (log p : List ℕ) → blocks s (some p) xs ≡ true → (q : ℕ) → q ≤ round p
      → length log ≡ frame_size * s.last_round.0 → slot (store_all log xs) q ≡ slot log q
  unfolding store_all
  stored_low [] log p f q l size = refl
  stored_low (x ∷ xs) log p f q l size =
      let u = blocks_parts s (some p) x xs f in
      let t = block_parts s x u.0 in
      let b : Block s x = formed s x t.0 t.1 in
      let up : round p < round x = (child_parts p x u.1).1 in
      let wide : length x ≡ frame_size = block_length s x u.0 in
      let fit : frame_size * round x ≤ length log = omega (arith, b.highest) in
      stored_low xs (store log (round x) x) x u.2 q (omega arith) (length_store log (round x) x b.lowest fit wide ∙ size)
      ∙ store_other log (round x) x q b.lowest fit wide (λ e. omega arith)

  -- the filled slots above a held round are a run on it
  module _ (past : List Event) (masks log : List ℕ) (a : ℕ) (c : Linked s past masks log a) where
    pub held_round : (k : ℕ) → Held (slot log) k → round (slot log k) ≡ k
    held_round k (inl z) = omega (arith, ap (λ j. round (slot log j)) z, ap round c.origin, round_genesis)
    held_round k (inr f) = (c.fact k f).round_is

    child : (k q : ℕ) → filled (slot log q) ≡ true → k < q → Held (slot log) k → ((r : ℕ) → k < r → r < q → filled (slot log r) ≡ false)
        → child_of (slot log k) (slot log q) ≡ true
    unfolding child_of
    child k q f l hk gap =
        let m : Link (slot log) q = c.link q f in
        let e : m.below ≡ k = below_is _ _ _ log a c q k f l hk gap m in
        let j : Joins (slot log k) (slot log q) = subst (λ b. Joins (slot log b) (slot log q)) e m.joins in
        both (linked (slot log k) (slot log q)) (ltb (round (slot log k)) (round (slot log q))) (joins_linked _ _ j)
        (lt-ltb (round (slot log k)) (round (slot log q)) (omega (arith, held_round k hk, (c.fact q f).round_is)))

    pub segment_run : (m lo k : ℕ) → k ≤ lo → Held (slot log) k → ((q : ℕ) → k < q → q ≤ lo → filled (slot log q) ≡ false)
        → blocks s (some (slot log k)) (segment log lo m) ≡ true
    unfolding segment
    segment_run zero lo k l hk gap = blocks_none s (some (slot log k))
    segment_run (suc m) lo k l hk gap =
        by_cond (λ xs. blocks s (some (slot log k)) xs ≡ true) (filled (slot log (lo + 1)))
        (λ f. blocks_of s (some (slot log k)) (slot log (lo + 1)) (segment log (lo + 1) m) (c.fact (lo + 1) f).block
        (child k (lo + 1) f (omega arith) hk (λ r u v. gap r u (omega arith)))
        (segment_run m (lo + 1) (lo + 1) (omega arith) (inr f) (λ q u v. absurd (omega arith))))
        (λ f. segment_run m (lo + 1) k (omega arith) hk (λ q u v. next f q u v))
      where
        next : filled (slot log (lo + 1)) ≡ false → (q : ℕ) → k < q → q ≤ lo + 1 → filled (slot log q) ≡ false
        next f q u v = go (leb q lo) refl
          where
            go : (b : Bool) → leb q lo ≡ b → filled (slot log q) ≡ false
            go true e = gap q u (leb-true _ _ e)
            go false e = let z : q ≡ lo + 1 = omega (arith, leb-false q lo e) in ap (λ j. filled (slot log j)) z ∙ f

-- the chain of a good state
module _ (s : Setup) (past : List Event) (j : ℕ) (d : State) (g : Good s past j d) where
  pub chain_run : (n : ℕ) → blocks s (some genesis) (chain d.log n) ≡ true
  chain_run n =
      ap (λ p. blocks s (some p) (chain d.log n)) (sym g.stored.chain.origin)
      ∙ ap (blocks s (some (slot d.log 0))) (segment_chain d.log n)
      ∙ segment_run s past d.masks d.log d.replica.tip_round.0 g.stored.chain n 0 0 (omega arith) (inl refl)
      (λ q u v. absurd (omega arith))

  -- its frames above a height
  module _ (h : ℕ) where
    abbrev T : ℕ
    T = d.replica.last_round.0

    pub parts : Cut s.last_round.0 _ _ d.log d.replica.tip_round.0 g.stored.chain h T
    parts = cut s.last_round.0 _ _ d.log d.replica.tip_round.0 g.stored.chain h T

    pub above_run : blocks s (some (slot d.log parts.from)) (fetchable d.replica d.log h) ≡ true
    above_run =
        ap (blocks s (some (slot d.log parts.from))) parts.is
        ∙ segment_run s past d.masks d.log d.replica.tip_round.0 g.stored.chain parts.more parts.from parts.from
        (omega arith) parts.held (λ q u v. absurd (omega arith))

    -- the first ones of these
    pub front_run : (xs zs : List (List ℕ)) → fetchable d.replica d.log h ≡ xs ++ zs
        → blocks s (some (slot d.log parts.from)) xs ≡ true
    front_run xs zs m =
        blocks_front s (some (slot d.log parts.from)) xs zs (ap (blocks s (some (slot d.log parts.from))) (sym m) ∙ above_run)

    pub front_good : (xs zs : List (List ℕ)) → fetchable d.replica d.log h ≡ xs ++ zs → blocks s none xs ≡ true
    front_good xs zs m = blocks_any s (some (slot d.log parts.from)) xs (front_run xs zs m)

    module _ (x : List ℕ) (ys zs : List (List ℕ)) (m : fetchable d.replica d.log h ≡ x ∷ (ys ++ zs)) where
      same_frames : segment d.log parts.from parts.more ≡ x ∷ (ys ++ zs)
      same_frames = sym parts.is ∙ m

      pub run_short : length (x ∷ ys) ≤ T
      run_short =
          omega (
            arith,
            ap length same_frames,
            segment_length d.log parts.from parts.more,
            parts.to,
            length-append (x ∷ ys) zs,
          )

      -- each of its frames is in a filled slot
      run_in : (z : List ℕ) → In z (x ∷ ys) → (q : ℕ) × (filled (slot d.log q) ≡ true) × (z ≡ slot d.log q)
      run_in z i =
          segment_in d.log parts.from parts.more z (subst (In z) (sym same_frames) (in_front z (x ∷ ys) zs i))

      pub run_seen : (z : List ℕ) → In z (x ∷ ys) → Seen z past
      run_seen z i =
          let p = run_in z i in
          subst (λ y. Seen y past) (sym p.2) (g.stored.chain.fact p.0 p.1).seen

      -- the last one's round is below R
      pub last_below : round (last_of x ys) < d.replica.round.0
      last_below =
          let p = run_in (last_of x ys) (last_in x ys) in
          omega (
            arith,
            ap round p.2,
            (g.stored.chain.fact p.0 p.1).round_is,
            within s.last_round.0 _ _ (slot d.log) _ g.stored.chain p.0 (inr p.1),
            g.tip_below,
          )

pub from_genesis : FromGenesis
from_genesis s calls l j d e = chain_run s (run start calls).past j d ((run_inv s calls start l (start_inv s)).good j d e)

pub good_run : GoodRun
good_run s calls l j d e = front_good s (run start calls).past j d ((run_inv s calls start l (start_inv s)).good j d e)
