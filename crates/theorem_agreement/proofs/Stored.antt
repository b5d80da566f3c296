-- A linked log with every skipped round certified, after a block is stored and after it is cleared above a round. Assumes nothing.
use Prim.Native.Nat.{ℕ, ◌*◌, ◌≤◌, ◌<◌}
use mathlib.Core.Path.{◌≡◌, ap, ◌∙◌}
use mathlib.Core.List.{List}
use mathlib.Core.Bool.{true}
use native.Mathlib.Omega.{arith}
use lib.ListN.{length}
use Rattle.apollo.specs.Size.{frame_size}
use Rattle.apollo.specs.declared.Setup.{Setup}
use Rattle.apollo.specs.Frame.{kind, round, height}
use Rattle.apollo.specs.Log.{slot, filled, store, clear_above}
use Rattle.apollo.specs.Masks.{certified}
use Rattle.apollo.specs.BlockRun.{block}
use Rattle.theorem_agreement.specs.Run.{Event, Seen}
use Rattle.theorem_agreement.proofs.Slots.{store_same, store_other, length_store, length_clear, clear_low, clear_high, slot_beyond, filled_nil}
use Rattle.theorem_agreement.proofs.Chain.{Held, Joins, Chain, chain_map, within, held_level}
use Rattle.theorem_agreement.proofs.Extend.{extend, cut}
use Rattle.theorem_agreement.proofs.Past.{Grows, seen_grows}

module _ (s : Setup) where
  -- what is known of the frame in a filled slot q
  pub record Fact (past : List Event) (q : ℕ) (x : List ℕ) : Type 0 where
    pub round_is : round x ≡ q
    pub block : block s x ≡ true
    pub seen : Seen x past

  abbrev pub Linked : List Event → List ℕ → List ℕ → ℕ → Type 0
  Linked past masks log tip = Chain s.last_round.0 (λ q. certified s masks q ≡ true) (Fact past) (slot log) tip

  -- a log up to a tip at height h
  pub record Stored (past : List Event) (masks log : List ℕ) (tip h : ℕ) : Type 0 where
    pub chain : Linked past masks log tip
    pub level_is : height (slot log tip) ≡ h
    pub size : length log ≡ frame_size * s.last_round.0

  pub stored_map : (past now : List Event) (masks masks' log : List ℕ) (tip h : ℕ) → Grows past now
      → ((q : ℕ) → certified s masks q ≡ true → certified s masks' q ≡ true) → Stored past masks log tip h → Stored now masks' log tip h
  stored_map past now masks masks' log tip h g k st =
      record {
        chain =
            chain_map s.last_round.0 _ _ (Fact past) (Fact now) (slot log) tip k
            (λ q x e. record { round_is = e.round_is; block = e.block; seen = seen_grows past now g x e.seen }) st.chain;
        level_is = st.level_is;
        size = st.size;
      }

  module _ (past : List Event) (masks log : List ℕ) (a h : ℕ) (st : Stored past masks log a h) where
    pub tip_level : height (slot log a) ≤ a
    tip_level = held_level s.last_round.0 _ _ (slot log) a st.chain a st.chain.top

    -- a block stored above the tip
    pub store_stored : (r : ℕ) (x : List ℕ) → a < r → r ≤ s.last_round.0 → kind x ≡ 1 → length x ≡ frame_size → Fact past r x → Joins (slot log a) x
        → ((q : ℕ) → a < q → q < r → certified s masks q ≡ true) → Stored past masks (store log r x) r (height x)
    store_stored r x up low k l fact j skips =
        let one : 1 ≤ r = omega arith in
        let fit : frame_size * r ≤ length log = omega (arith, st.size) in
        record {
          chain =
              extend s.last_round.0 _ (Fact past) (slot (store log r x)) (slot log) a r x st.chain up low (store_same log r x one fit l)
              (λ q ne. store_other log r x q one fit l ne) k fact j tip_level skips;
          level_is = ap height (store_same log r x one fit l);
          size = length_store log r x one fit l ∙ st.size;
        }

    -- the slots above a held round cleared
    pub clear_stored : (b : ℕ) → Held (slot log) b → Stored past masks (clear_above log b) b (height (slot log b))
    clear_stored b held =
        let l : b ≤ a = within s.last_round.0 _ _ (slot log) a st.chain b held in
        let fit : frame_size * b ≤ length log = omega (arith, st.size, st.chain.low) in
        let size : length (clear_above log b) ≡ frame_size * s.last_round.0 = length_clear log b fit ∙ st.size in
        record {
          chain =
              cut s.last_round.0 _ (Fact past) (slot (clear_above log b)) (slot log) a b st.chain l held (λ q m. clear_low log b q fit m)
              (λ q m n. clear_high log b q m (omega (arith, st.size)))
              (λ q m. ap filled (slot_beyond (clear_above log b) s.last_round.0 q size m) ∙ filled_nil);
          level_is = ap height (clear_low log b b fit (omega arith));
          size = size;
        }
