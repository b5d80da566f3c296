-- Open: one that is taken makes a good state, and none meets refusal 2 or 12. Assumes nothing.
use Prim.Native.Nat.{ℕ, zero, suc, ◌+◌, ◌-◌, ◌*◌, ◌≤◌}
use mathlib.Core.Path.{◌≡◌, refl, sym, ap, ◌∙◌}
use mathlib.Core.Logic.{inl, ◌≢◌}
use mathlib.Core.List.{List, []}
use mathlib.Core.Bool.{Bool, true, false, not, ◌&&◌}
use native.Mathlib.Omega.{arith}
use lib.ListN.{length, get_or, replicate, get_or-replicate, get_or-eq_default, length-replicate}
use lib.Dec.{leb, ltb, eqb}
use lib.Pow.{pow_pos}
use borrow.Author.Tests.{lt-leb, leb-true, leb-false, ltb-false, eqb-true, eqb-false, not-true, not-false}
use Rattle.sha256.specs.Fips.{sha256}
use Rattle.apollo.specs.Size.{frame_size}
use Rattle.apollo.specs.declared.Setup.{Setup}
use Rattle.apollo.specs.Bytes.{zeros}
use Rattle.apollo.specs.Rotation.{is_rotation, padded}
use Rattle.apollo.specs.Setup.{setup_number}
use Rattle.apollo.specs.Frame.{height, frames}
use Rattle.apollo.specs.Log.{genesis, slot, filled}
use Rattle.apollo.specs.Masks.{count, bit, mask, certified}
use Rattle.apollo.proofs.Masks.{bit_zero}
use Rattle.apollo.specs.Replica.{fresh, valid_own, valid_log, valid_masks}
use Rattle.apollo.specs.Enter.{State, commit_limit, enter_round}
use Rattle.apollo.specs.Outcome.{Outcome, refused, taken}
use Rattle.apollo.specs.Open.{open_with}
use Rattle.apollo.proofs.Rotation.{padded_valid}
use Rattle.apollo.proofs.Validity.{ValidOpening, setup_number_lem, setup_good, valid_opening}
use Rattle.theorem_agreement.specs.Run.{Event, emitted, In, emitted_by}
use Rattle.theorem_agreement.proofs.Tests.{clash, and-true, by_cond}
use Rattle.theorem_agreement.proofs.Counts.{count_none}
use Rattle.theorem_agreement.proofs.Slots.{length_zeros, part_zeros, filled_genesis, filled_nil, slot_beyond, highest_le}
use Rattle.theorem_agreement.proofs.Frames.{height_genesis}
use Rattle.theorem_agreement.proofs.Stored.{Linked}
use Rattle.theorem_agreement.proofs.Good.{Renewed, Ahead, extends_refl, Fixed, Good}
use Rattle.theorem_agreement.proofs.Effects.{Tidy, enter_kept}
use Rattle.theorem_agreement.proofs.Outcomes.{Fine, taken_fine}

mask_zero : (n q : ℕ) → mask (zeros n) q ≡ 0
unfolding zeros
mask_zero n q = go (leb n (q - 1)) refl
  where
    go : (b : Bool) → leb n (q - 1) ≡ b → ◌≡◌ {A = ℕ} (get_or (replicate n 0) (q - 1) 0) 0
    go true e = get_or-eq_default (replicate n 0) 0 (omega (arith, length-replicate {A = ℕ} n 0, leb-true n (q - 1) e))
    go false e = get_or-replicate n (q - 1) 0 0 (leb-false _ _ e)

slot_zero : (T q : ℕ) → q ≤ T → slot (zeros (frame_size * T)) q ≡ genesis
unfolding slot genesis
slot_zero T zero l = refl
slot_zero T (suc k) l = part_zeros (frame_size * T) (frame_size * k) frame_size (omega arith)

module _ (s : Setup) (past : List Event) (i : ℕ) where
  module _ (id f timeout last : ℕ) (rotation : List ℕ) (fixed : Fixed s i id f timeout last (padded rotation)) where
    abbrev log : List ℕ
    log = zeros (frame_size * last)

    unfilled : (q : ℕ) → filled (slot log q) ≡ false
    unfilled q = go (leb q last) refl
      where
        go : (b : Bool) → leb q last ≡ b → filled (slot log q) ≡ false
        go true e = ap filled (slot_zero last q (leb-true _ _ e)) ∙ filled_genesis
        go false e = ap filled (slot_beyond log last q (length_zeros _) (leb-false _ _ e)) ∙ filled_nil

    first_chain : Linked s past (zeros last) log 0
    first_chain =
        record {
          top = inl refl;
          low = omega arith;
          origin = slot_zero last 0 (omega arith);
          bare = λ q l e. slot_zero last q (omega (arith, fixed.last_is));
          above = λ q l. unfilled q;
          fact = λ q e. absurd (clash e (unfilled q));
          link = λ q e. absurd (clash e (unfilled q));
          level = λ q e. absurd (clash e (unfilled q));
          skip = λ q o l e. absurd (omega arith);
        }

    height_zero : height (slot log 0) ≡ 0
    height_zero = ap height (slot_zero last 0 (omega arith)) ∙ height_genesis

    abbrev first : State
    first = record { replica = fresh id f timeout last rotation; log = log; masks = zeros last }

    first_good : Good s past i first
    unfolding fresh
    first_good =
        record {
          fixed = fixed;
          masks_length = length_zeros last ∙ fixed.last_is;
          stored =
              record {
                chain = first_chain;
                level_is = height_zero;
                size = length_zeros (frame_size * last) ∙ ap (λ k. frame_size * k) fixed.last_is;
              };
          tip_below = omega arith;
          reach = omega arith;
          timer_low = omega arith;
          waits = λ q a b. absurd (omega arith);
          bits = λ q k o l e. absurd (clash e (ap (bit k) (mask_zero last q) ∙ bit_zero k));
          marks_low = pow_pos (2 * s.f + 1);
          marks = λ k e. absurd (clash e (bit_zero k));
        }

    first_renewed : Renewed first.replica log
    unfolding fresh commit_limit
    first_renewed = record { committed_is = omega (arith, highest_le log (0 - f)); height_of_committed = sym height_zero }

    first_ahead : Ahead first
    unfolding fresh certified
    first_ahead q l =
        lt-leb (f + 1) (count (2 * f + 1) (λ k. bit k (mask (zeros last) q)))
        (omega (arith, count_none (2 * f + 1) (λ k. bit k (mask (zeros last) q)) (λ k. ap (bit k) (mask_zero last q) ∙ bit_zero k)))

  -- what is shown of an answer to open
  pub record OpenFine (id f last : ℕ) (rotation : List ℕ) (o : Outcome) : Type 0 where
    pub valid_ok : o.answer.number ≢ 2
    pub kept_ok : o.answer.number ≢ 12
    pub quiet : o.answer.number ≢ 0 → emitted_by o ≡ []
    pub fine : o.answer.number ≡ 0 → id ≡ i → f ≡ s.f → last ≡ s.last_round.0 → padded rotation ≡ s.rotation
        → ((x : List ℕ) → In (emitted i x) past → ⊥) → Tidy s past → (c : State) × Fine s past i c o

  refusal : (id f last : ℕ) (rotation : List ℕ) (c : State) (out : List ℕ) (k : ℕ) → eqb k 2 ≡ false → eqb k 12 ≡ false → eqb k 0 ≡ false
      → OpenFine id f last rotation (refused c out k 0)
  unfolding refused emitted_by frames
  refusal id f last rotation c out k a b d =
      record {
        valid_ok = eqb-false k 2 a;
        kept_ok = eqb-false k 12 b;
        quiet = λ _. refl;
        fine = λ e. absurd (eqb-false k 0 d e);
      }

  ranges : (id f timeout last : ℕ) (rotation log masks : List ℕ)
      → (valid_own (fresh id f timeout last rotation) && valid_log (fresh id f timeout last rotation) log
      && valid_masks (fresh id f timeout last rotation) masks) ≡ true
      → setup_number f last rotation ≡ 0 → id ≡ i → f ≡ s.f → last ≡ s.last_round.0 → padded rotation ≡ s.rotation
      → Fixed s i id f timeout last (padded rotation)
  unfolding fresh
  ranges id f timeout last rotation log masks v n ei ef el er =
      let t = setup_good f last rotation n in
      let o = and-true _ _ (and-true _ _ v).0 in
      let x : ValidOpening (fresh id f timeout last rotation) log = valid_opening _ log t.0 o.0 o.1 in
      record {
        id_is = ei;
        f_is = ef;
        last_is = el;
        rotation_is = er;
        id_low = x.id_below;
        f_one = x.f_least;
        f_top = x.f_most;
        timeout_one = x.timeout_least;
        timeout_top = x.timeout_most;
        last_one = x.last_least;
        last_top = x.last_most;
        turns = padded_valid s rotation (ap (λ k. is_rotation (2 * k + 1) rotation) (sym ef) ∙ t.1) (omega (arith, x.f_most)) (sym er);
      }

  module _ (id f timeout last : ℕ) (rotation log masks entry out : List ℕ) where
    abbrev new : State
    new = record { replica = fresh id f timeout last rotation; log = zeros (frame_size * last); masks = zeros last }

    made : (valid_own new.replica && valid_log new.replica log && valid_masks new.replica masks) ≡ true → setup_number f last rotation ≡ 0
        → length entry ≤ 400 → OpenFine id f last rotation (taken (enter_round sha256 entry new) out)
    unfolding taken
    made v t fits =
        record {
          valid_ok = λ z. omega (arith, z);
          kept_ok = λ z. omega (arith, z);
          quiet = λ ne. absurd (ne refl);
          fine = λ _ ei ef el er none tidy.
              let x : Fixed s i id f timeout last (padded rotation) = ranges id f timeout last rotation log masks v t ei ef el er in (
                new,
                taken_fine s past i new (enter_round sha256 entry new) out
                    (enter_kept s entry fits past i new new (first_renewed id f timeout last rotation x) (extends_refl new)
                    (record { good = first_good id f timeout last rotation x; mine = λ y p k. absurd (none y p); tidy = tidy })
                    (first_ahead id f timeout last rotation x)),
              );
        }

    abbrev Opens : Outcome → Type 0
    Opens = OpenFine id f last rotation

    pub open_fine : Opens (open_with sha256 id f timeout last rotation log masks entry out)
    unfolding open_with fresh
    open_fine =
        by_cond Opens (not (valid_own new.replica && valid_log new.replica log && valid_masks new.replica masks))
        (λ _. refusal id f last rotation _ out 1 refl refl refl)
        (λ v. by_cond Opens (not (eqb (setup_number f last rotation) 0))
        (λ e. refusal id f last rotation _ out _ (setup_number_lem f last rotation (λ k. eqb k 2 ≡ false) refl refl refl)
        (setup_number_lem f last rotation (λ k. eqb k 12 ≡ false) refl refl refl) (not-true _ e))
        (λ t. by_cond Opens (ltb (length out) 1024) (λ _. refusal id f last rotation _ out 4 refl refl refl)
        (λ _. by_cond Opens (ltb 400 (length entry)) (λ _. refusal id f last rotation _ out 5 refl refl refl)
        (λ l. made (not-false _ v) (eqb-true _ _ (not-false _ t)) (ltb-false _ _ l)))))
