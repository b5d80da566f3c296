-- Tick: the state stays good, and no refusal 2 or 12 is met. Assumes nothing.
use Prim.Native.Nat.{ℕ, ◌-◌, ◌≤◌}
use mathlib.Core.Path.{◌≡◌, refl, sym, ap, ◌∙◌}
use mathlib.Core.Logic.{inl, inr}
use mathlib.Core.List.{List, ◌∷◌}
use native.Mathlib.Omega.{arith}
use lib.ListN.{length}
use lib.Dec.{eqb}
use Rattle.sha256.specs.Fips.{sha256}
use Rattle.apollo.specs.declared.Setup.{Setup}
use Rattle.apollo.specs.Frame.{kind, signer, make_blame}
use Rattle.apollo.specs.Enter.{State, waiting, hearing, settle}
use Rattle.apollo.specs.Tick.{blaming, ticked, tick_with}
use Rattle.theorem_agreement.specs.Run.{Event, emitted, In, emit}
use Rattle.theorem_agreement.proofs.Tests.{by_cond}
use Rattle.apollo.proofs.Made.{blame_kind, blame_signer, blame_round_alone, blame_length}
use Rattle.theorem_agreement.proofs.Past.{emitted_is}
use Rattle.theorem_agreement.proofs.Good.{Rested, rested_hears, hear_hears, rest_rested, extends_refl, wait_extends, hear_extends, good_grows}
use Rattle.theorem_agreement.proofs.Effects.{Standing, rest_standing, Kept, silent, kept_trans, hear_standing, settle_kept}
use Rattle.theorem_agreement.proofs.Outcomes.{Fine, taken_fine, guarded_fine}

module _ (s : Setup) (past : List Event) (i : ℕ) (entry : List ℕ)
    (c : State) (st : Standing s past i c) (rests : Rested c) where
  abbrev R : ℕ
  R = c.replica.round.0

  abbrev x : List ℕ
  x = make_blame sha256 c.replica.id R

  -- a blame emitted changes no block
  blame_standing : Standing s (emitted i x ∷ past) i c
  blame_standing =
      record {
        good = good_grows s past (emitted i x ∷ past) i c (λ e p. inr p) st.good;
        mine = λ y p k. st.mine y (back i y p k) k;
        tidy =
            record {
              signed = signed;
              once = λ j y z p q a b. st.tidy.once j y z (back j y p a) (back j z q b) a b;
              led = λ j y p a. st.tidy.led j y (back j y p a) a;
              high = λ j y p a. st.tidy.high j y (back j y p a) a;
            };
      }
    where
      back : (j : ℕ) (y : List ℕ) → In (emitted j y) (emitted i x ∷ past) → kind y ≡ 1 → In (emitted j y) past
      back j y (inl h) k = absurd (omega (arith, ap kind (emitted_is j i y x h).1, k, blame_kind c.replica.id R))
      back j y (inr h) k = h

      signed : (j : ℕ) (y : List ℕ) → In (emitted j y) (emitted i x ∷ past) → signer y ≡ j
      signed j y (inl h) =
          let e : (j ≡ i) × (y ≡ x) = emitted_is j i y x h in
          ap signer e.1 ∙ blame_signer _ _ ∙ st.good.fixed.id_is ∙ sym e.0
      signed j y (inr h) = st.tidy.signed j y h

  module _ (low : R ≤ s.last_round.0) (fits : length entry ≤ 400) where
    blaming_kept : Kept s past i c (blaming sha256 entry c)
    unfolding blaming emit
    blaming_kept =
        let d : State = waiting c R 0 in
        let k : Kept s (emitted i x ∷ past) i c (settle sha256 entry (hearing d R c.replica.id) R) =
        kept_trans s (emitted i x ∷ past) i c d _ (wait_extends c R 0 (omega arith))
        (kept_trans s (emitted i x ∷ past) i d (hearing d R c.replica.id) _ (hear_extends d R c.replica.id)
        (settle_kept s entry fits (emitted i x ∷ past) i (hearing d R c.replica.id) R low
        (hear_hears R c.replica.id d (rested_hears R d (omega (arith, st.good.tip_below)) (unfold waiting in omega arith) (rest_rested c 0 rests)))
        (hear_standing s (emitted i x ∷ past) i d (rest_standing s (emitted i x ∷ past) i c blame_standing 0 (omega arith)) R c.replica.id
        (omega (arith, st.good.tip_below)) (
          x,
          inr (i, inl refl),
          blame_kind _ _,
          blame_signer _ _,
          blame_round_alone _ _ (omega (arith, st.good.fixed.last_is, st.good.fixed.last_top)),
        )))) in
        record { standing = k.standing; rests = k.rests; extends = k.extends; whole = (blame_length _ _, k.whole) }

    ticked_kept : Kept s past i c (ticked sha256 entry c)
    unfolding ticked
    ticked_kept =
        by_cond (Kept s past i c) (eqb c.replica.timer.0 0) (λ _. silent s past i c c st rests (extends_refl c))
        (λ _. by_cond (Kept s past i c) (eqb c.replica.timer.0 1) (λ _. blaming_kept)
        (λ _. silent s past i c (waiting c R (c.replica.timer.0 - 1))
        (rest_standing s past i c st (c.replica.timer.0 - 1) (omega (arith, st.good.timer_low)))
        (rest_rested c (c.replica.timer.0 - 1) rests) (wait_extends c R (c.replica.timer.0 - 1) (omega arith))))

  pub tick_fine : (out : List ℕ) → Fine s past i c (tick_with sha256 c entry out)
  unfolding tick_with
  tick_fine out = guarded_fine s past i c st rests entry out _ (λ low fits. taken_fine s past i c _ out (ticked_kept low fits))
