-- What honesty adds to the fork law: of f + 1 rounds in a row one is not suspect, so two logs are the same up to a round that both have
-- passed by f. Assumes the premises, as facts of the past.
use Prim.Native.Nat.{ℕ, suc, ◌+◌, ◌-◌, ◌*◌, ◌≤◌, ◌<◌}
use mathlib.Core.Path.{◌≡◌, refl, sym, ap, ◌∙◌, subst}
use mathlib.Core.Logic.{◌⊎◌, inl, inr, ⊎_elim}
use mathlib.Core.List.{List}
use mathlib.Core.Bool.{Bool, true, false, not}
use native.Mathlib.Omega.{arith}
use lib.Dec.{leb}
use borrow.Author.Tests.{leb-true, leb-false}
use Rattle.apollo.specs.declared.Setup.{Setup}
use Rattle.apollo.specs.Setup.{replicas, leader, valid_rotation}
use Rattle.apollo.specs.Frame.{kind, signer, round}
use Rattle.apollo.specs.Log.{slot, filled}
use Rattle.apollo.specs.Masks.{count, bit, mask, certified}
use Rattle.apollo.specs.Enter.{State, commit_limit}
use Rattle.apollo.specs.Suspect.{suspect}
use Rattle.theorem_agreement.specs.Run.{Event, emitted, In, Seen}
use Rattle.theorem_agreement.specs.Premises.{Distinct}
use Rattle.theorem_agreement.proofs.Tests.{clash, either}
use Rattle.apollo.proofs.Rotation.{leader_low}
use Rattle.theorem_agreement.proofs.Leaders.{correct_mark, correct_round}
use Rattle.theorem_agreement.proofs.Slots.{take_slots, highest_max}
use Rattle.theorem_agreement.proofs.Chain.{filled_kind, within}
use Rattle.theorem_agreement.proofs.Stored.{Fact, Linked}
use Rattle.theorem_agreement.proofs.Adopt.{led_by}
use Rattle.theorem_agreement.proofs.Fork.{Reason, blocks_differ, certified_first, certified_second, reason, fork, good_fork}
use Rattle.theorem_agreement.proofs.Good.{Blamed, Renewed, committed_low, Good, good_certified, limit_low}
use Rattle.theorem_agreement.proofs.Effects.{Tidy}
use Rattle.theorem_agreement.proofs.Outcomes.{Reverts}

-- what the premises of demand 3 come to: a frame seen that names a correct signer was emitted by it
pub record Honest (s : Setup) (correct : ℕ → Bool) (past : List Event) : Type 0 where
  pub mostly : count (replicas s) (λ i. not (correct i)) ≤ s.f
  pub authentic : (x : List ℕ) → Seen x past → signer x < replicas s → correct (signer x) ≡ true → In (emitted (signer x) x) past
  pub patient : (i : ℕ) (x : List ℕ) → correct i ≡ true → In (emitted i x) past → kind x ≡ 2 → correct (leader s (round x)) ≡ false
  pub distinct : Distinct past
  pub tidy : Tidy s past

module _ (s : Setup) (correct : ℕ → Bool) (past : List Event) (h : Honest s correct past) where
  -- a certified round has a correct blamer, so its leader is not correct
  certified_incorrect : (i : ℕ) (c : State) → Good s past i c → (q : ℕ) → 1 ≤ q → certified s c.masks q ≡ true
      → correct (leader s q) ≡ false
  unfolding certified
  certified_incorrect i c g q o e =
      let r : (k : ℕ) × (k < replicas s) × (bit k (mask c.masks q) ≡ true) × (correct k ≡ true) =
      correct_mark s correct h.mostly (λ k. bit k (mask c.masks q)) (leb-true _ _ e) in
      let b : Blamed past r.0 q = g.bits q r.0 o r.1 r.2 in
      let p : In (emitted (signer b.0) b.0) past =
      h.authentic b.0 b.1 (subst (λ k. k < replicas s) (sym b.3) r.1) (ap correct b.3 ∙ r.3) in
      ap (λ k. correct (leader s k)) (sym b.4) ∙ h.patient (signer b.0) b.0 (ap correct b.3 ∙ r.3) p b.2

  -- of each round below R: it is filled, or its leader is not correct
  good_passed : (i : ℕ) (c : State) → Good s past i c → (q : ℕ) → 1 ≤ q → q < c.replica.round.0 → filled (slot c.log q) ≡ false
      → correct (leader s q) ≡ false
  good_passed i c g q o l e = certified_incorrect i c g q o (good_certified s past i c g q o l e)

  -- the block in a slot of a correct leader's round is one that it emitted
  leader_emitted : valid_rotation s ≡ true → (q : ℕ) (x : List ℕ) → Fact s past q x → correct (leader s q) ≡ true → In (emitted (leader s q) x) past
  leader_emitted v q x t ok =
      let by : signer x ≡ leader s q = led_by s past q x t in
      subst (λ k. In (emitted k x) past) by
      (h.authentic x t.seen (subst (λ k. k < replicas s) (sym by) (leader_low s v q)) (ap correct by ∙ ok))

  -- the leader of each certified round is not correct
  abbrev Warranted : List ℕ → Type 0
  Warranted masks = (q : ℕ) → 1 ≤ q → certified s masks q ≡ true → correct (leader s q) ≡ false

  -- two linked logs with such masks
  module _ (v : valid_rotation s ≡ true) (a m b n : List ℕ) (t u : ℕ) (c : Linked s past m a t) (d : Linked s past n b u) (ma : Warranted m)
      (mb : Warranted n) where
    -- a round of a correct leader is not suspect
    led_clear : (q : ℕ) → 1 ≤ q → correct (leader s q) ≡ true → Reason s a m b n q → ⊥
    led_clear q o ok (certified_first e) = clash ok (ma q o e)
    led_clear q o ok (certified_second e) = clash ok (mb q o e)
    led_clear q o ok (blocks_differ e g ne) =
        ne
        (h.tidy.once (leader s q) (slot a q) (slot b q) (leader_emitted v q (slot a q) (c.fact q e) ok)
        (leader_emitted v q (slot b q) (d.fact q g) ok) (filled_kind (slot a q) e) (filled_kind (slot b q) g)
        ((c.fact q e).round_is ∙ sym (d.fact q g).round_is))

    -- and one of the f + 1 rounds from k on is such a round
    no_run : (k : ℕ) → 1 ≤ k → ((r : ℕ) → k ≤ r → r ≤ k + s.f → suspect s a m b n r ≡ true) → ⊥
    no_run k o all =
        let r : (q : ℕ) × (k ≤ q) × (q ≤ k + s.f) × (correct (leader s q) ≡ true) = correct_round s correct h.mostly v k o in
        led_clear r.0 (omega (arith, r.1)) r.3 (reason s a m b n r.0 (all r.0 r.1 r.2))

  -- two replicas hold the same frames up to the round that the one with the lower R may commit
  pub same_limit : (i j : ℕ) (c d : State) → Good s past i c → Good s past j d → c.replica.round.0 ≤ d.replica.round.0 → (q : ℕ)
      → 1 ≤ q → q ≤ commit_limit c.replica → slot c.log q ≡ slot d.log q
  same_limit i j c d g k l q o m =
      let n : ℕ = commit_limit c.replica in
      let low : n + s.f < c.replica.round.0 = limit_low s past i c g n (omega arith) (omega arith) in
      ⊎_elim (λ same. same q m)
      (λ all. absurd (no_run g.fixed.turns c.log c.masks d.log d.masks _ _ g.stored.chain k.stored.chain
      (certified_incorrect i c g) (certified_incorrect j d k) n (omega arith) all))
      (good_fork s past h.distinct i j c d g k n (omega arith) low (omega (arith, low)))

  -- one of the f + 1 rounds up to the limit of commit is filled
  pub committed_near : (i : ℕ) (c : State) → Good s past i c → Renewed c.replica c.log
      → c.replica.round.0 ≤ c.replica.committed_round.0 + 2 * s.f + 1
  unfolding commit_limit
  committed_near i c g r = go (leb c.replica.round.0 (2 * s.f + 1)) refl
    where
      n : ℕ
      n = c.replica.round.0 - 1 - s.f - s.f

      go : (b : Bool) → leb c.replica.round.0 (2 * s.f + 1) ≡ b
          → c.replica.round.0 ≤ c.replica.committed_round.0 + 2 * s.f + 1
      go true e = omega (arith, leb-true c.replica.round.0 (2 * s.f + 1) e)
      go false e =
          let far : 2 * s.f + 1 < c.replica.round.0 = leb-false _ _ e in
          let q : (m : ℕ) × (n ≤ m) × (m ≤ n + s.f) × (correct (leader s m) ≡ true) = correct_round s correct h.mostly g.fixed.turns n (omega arith) in
          let full : filled (slot c.log q.0) ≡ true =
          ⊎_elim (λ z. z) (λ z. absurd (clash q.3 (good_passed i c g q.0 (omega (arith, q.1)) (omega (arith, q.2)) z)))
          (either (filled (slot c.log q.0))) in
          omega (
            arith,
            q.1,
            r.committed_is,
            g.fixed.f_is,
            highest_max c.log (commit_limit c.replica) q.0 full (omega (arith, q.2, g.fixed.f_is)),
          )

  -- a branch that passed 13 keeps what was committed
  pub no_revert : (i : ℕ) (c : State) → Good s past i c → Reverts s past c → ⊥
  no_revert i c g r = r.differs (take_slots r.log c.log n same)
    where
      n : ℕ
      n = c.replica.committed_round.0

      low : 1 ≤ n → n + s.f < c.replica.round.0
      low o = limit_low s past i c g n o (committed_low r.renewed)

      same : (q : ℕ) → 1 ≤ q → q ≤ n → slot r.log q ≡ slot c.log q
      same q o m =
          ⊎_elim (λ same. same q m)
          (λ all. absurd (no_run g.fixed.turns r.log c.masks c.log c.masks _ _ r.stored.chain g.stored.chain
          (certified_incorrect i c g) (certified_incorrect i c g) n (omega arith) all))
          (fork s r.log c.masks c.log c.masks past h.distinct _ _ (suc r.tip) _ r.stored.chain g.stored.chain
          (λ k a b e. r.stored.chain.skip k a (omega arith) e) (good_certified s past i c g) n (omega arith)
          (omega (arith, low (omega arith), r.beyond)) (low (omega arith)))

  -- a block of a correct replica stands wherever its round is passed
  pub emitted_stands : (i j : ℕ) (x : List ℕ) (c : State) (q : ℕ) → Good s past j c → correct i ≡ true → In (emitted i x) past → kind x ≡ 1
      → round x ≤ q → filled (slot c.log q) ≡ true → slot c.log (round x) ≡ x
  emitted_stands i j x c q g ci p k l f = go (either (filled (slot c.log (round x))))
    where
      led : leader s (round x) ≡ i
      led = h.tidy.led i x p k

      ok : correct (leader s (round x)) ≡ true
      ok = ap correct led ∙ ci

      low : round x < c.replica.round.0
      low = omega (arith, within s.last_round.0 _ _ (slot c.log) _ g.stored.chain q (inr f), g.tip_below)

      go : (filled (slot c.log (round x)) ≡ true) ⊎ (filled (slot c.log (round x)) ≡ false) → slot c.log (round x) ≡ x
      go (inr e) = absurd (clash ok (good_passed j c g (round x) (h.tidy.high i x p k) low e))
      go (inl e) =
          h.tidy.once i (slot c.log (round x)) x
          (subst (λ m. In (emitted m (slot c.log (round x))) past) led
          (leader_emitted g.fixed.turns (round x) (slot c.log (round x)) (g.stored.chain.fact (round x) e) ok)) p
          (filled_kind (slot c.log (round x)) e) k (g.stored.chain.fact (round x) e).round_is
