-- What is shown of each outcome, and that it holds of refusals, of what is taken, and behind refusals 2 to 5. Assumes nothing.
use Prim.Native.Nat.{ℕ, ◌+◌, ◌*◌, ◌≤◌}
use mathlib.Core.Path.{◌≡◌, refl, sym, subst}
use mathlib.Core.Logic.{◌≢◌}
use mathlib.Core.List.{List, ◌++◌, flatten}
use mathlib.Core.Bool.{false, ◌&&◌, not}
use native.Mathlib.Omega.{arith}
use lib.ListN.{length, take, drop}
use lib.Dec.{eqb, ltb}
use borrow.Author.Tests.{eqb-false, ltb-false, not-true}
use Rattle.apollo.specs.Size.{frame_size}
use Rattle.apollo.specs.declared.Setup.{Setup}
use Rattle.apollo.specs.Frame.{frames}
use Rattle.apollo.specs.Replica.{valid_replica, valid_masks}
use Rattle.apollo.specs.Enter.{State, Effect}
use Rattle.apollo.specs.Outcome.{Outcome, refused, taken, guarded, state_of}
use Rattle.theorem_agreement.specs.Run.{Event, emit, emitted_by}
use Rattle.theorem_agreement.proofs.Tests.{clash, by_cond}
use Rattle.theorem_agreement.proofs.Frames.{frames_flatten}
use Rattle.theorem_agreement.proofs.Stored.{Stored}
use Rattle.theorem_agreement.proofs.Good.{Renewed, Rested, Extends, extends_refl}
use Rattle.theorem_agreement.proofs.Effects.{Standing, Kept}
use Rattle.theorem_agreement.proofs.Valid.{valid}

module _ (s : Setup) where
  -- a linked log with a tip at R or above that does not keep the committed slots of c: the only reason for refusal 12
  pub record Reverts (past : List Event) (c : State) : Type 0 where
    pub log : List ℕ
    pub tip : ℕ
    pub level : ℕ
    pub stored : Stored s past c.masks log tip level
    pub beyond : c.replica.round.0 ≤ tip
    pub renewed : Renewed c.replica c.log
    pub differs : take (frame_size * c.replica.committed_round.0) log ≢ take (frame_size * c.replica.committed_round.0) c.log

  -- replica i's call leaves state c as the outcome says
  pub record Fine (past : List Event) (i : ℕ) (c : State) (o : Outcome) : Type 0 where
    pub standing : Standing s (emit i (emitted_by o) past) i (state_of o)
    pub rests : Rested (state_of o)
    pub extends : Extends c (state_of o)
    pub valid_ok : o.answer.number ≢ 2
    pub reverts : o.answer.number ≡ 12 → Reverts past c

  module _ (past : List Event) (i : ℕ) (c : State) where
    pub taken_fine : (e : Effect) (out : List ℕ) → Kept s past i c e → Fine past i c (taken e out)
    unfolding taken emitted_by
    taken_fine e out k =
        let q : frames (length e.emitted) (flatten e.emitted ++ drop (frame_size * length e.emitted) out) ≡ e.emitted =
        frames_flatten e.emitted _ k.whole in
        record {
          standing = subst (λ xs. Standing s (emit i xs past) i e.state) (sym q) k.standing;
          rests = k.rests;
          extends = k.extends;
          valid_ok = λ z. omega (arith, z);
          reverts = λ z. absurd (omega (arith, z));
        }

    module _ (st : Standing s past i c) (rests : Rested c) where
      pub refused_fine : (out : List ℕ) (k p : ℕ) → k ≢ 2 → (k ≡ 12 → Reverts past c) → Fine past i c (refused c out k p)
      unfolding refused frames emit emitted_by
      refused_fine out k p a b =
          record { standing = st; rests = rests; extends = extends_refl c; valid_ok = a; reverts = b }

      -- any other number than 2 and 12
      pub refused_plain : (out : List ℕ) (k p : ℕ) → eqb k 2 ≡ false → eqb k 12 ≡ false → Fine past i c (refused c out k p)
      refused_plain out k p a b = refused_fine out k p (eqb-false k 2 a) (λ e. absurd (eqb-false k 12 b e))

      pub guarded_fine : (entry out : List ℕ) (o : Outcome)
          → (c.replica.round.0 ≤ s.last_round.0 → length entry ≤ 400 → Fine past i c o) → Fine past i c (guarded c entry out o)
      unfolding guarded
      guarded_fine entry out o h =
          by_cond (Fine past i c) (not (valid_replica c.replica c.log && valid_masks c.replica c.masks))
          (λ e. absurd (clash (valid s past i c st.good rests) (not-true _ e)))
          (λ _. by_cond (Fine past i c) (eqb c.replica.round.0 (c.replica.last_round.0 + 1)) (λ _. refused_plain out 3 0 refl refl)
          (λ e. by_cond (Fine past i c) (ltb (length out) 1024) (λ _. refused_plain out 4 0 refl refl)
          (λ _. by_cond (Fine past i c) (ltb 400 (length entry)) (λ _. refused_plain out 5 0 refl refl)
          (λ l. let ne : c.replica.round.0 ≢ c.replica.last_round.0 + 1 = eqb-false _ _ e in
          h (omega (arith, st.good.reach, st.good.fixed.last_is)) (ltb-false _ _ l)))))
