-- Equivocation: the state stays good, and no refusal 2 or 12 is met. Assumes nothing.
use Prim.Native.Nat.{ℕ, ◌/◌, ◌<◌}
use mathlib.Core.Path.{◌≡◌, refl, sym, ap, ◌∙◌, subst}
use mathlib.Core.Logic.{inl, inr}
use mathlib.Core.List.{List, [], ◌∷◌}
use mathlib.Core.Bool.{Bool, true, false, not}
use native.Mathlib.Omega.{arith}
use lib.ListN.{length}
use lib.Dec.{eqb}
use borrow.Author.Tests.{eqb-true, not-true}
use Rattle.sha256.specs.Fips.{sha256}
use Rattle.apollo.specs.Size.{frame_size}
use Rattle.apollo.specs.declared.Setup.{Setup}
use Rattle.apollo.specs.declared.Marked.{Marked}
use Rattle.apollo.specs.Bytes.{same}
use Rattle.apollo.specs.Setup.{setup_of, replicas, leader}
use Rattle.apollo.specs.Frame.{round, digest, frames, frames_of, first_frame, block_form}
use Rattle.apollo.specs.Replica.{with_mark}
use Rattle.apollo.specs.Enter.{State}
use Rattle.apollo.specs.Judging.{judged_each}
use Rattle.apollo.specs.Outcome.{refused}
use Rattle.apollo.specs.Equivocation.{marked, is_pair, second, conflicting, equivocation_with}
use Rattle.apollo.proofs.Fault.{Passes}
use Rattle.apollo.proofs.Rotation.{leader_low}
use Rattle.apollo.proofs.BlockRun.{block_of}
use Rattle.apollo.proofs.Equivocation.{judged, Case, invalid_record, not_pair, faulty_frame, not_conflicting, leader_marked, by_case}
use Rattle.apollo.proofs.Frames.{pair_frames}
use Rattle.theorem_agreement.specs.Run.{Event, emit, emitted_by, record_only}
use Rattle.theorem_agreement.specs.Marks.{Equivocated}
use Rattle.theorem_agreement.proofs.Tests.{clash, and-true, same_of}
use Rattle.theorem_agreement.proofs.Frames.{Whole, frames_whole}
use Rattle.theorem_agreement.proofs.Good.{Rested, mark_extends, mark_rested, setup_is, mark_good}
use Rattle.theorem_agreement.proofs.Effects.{Standing}
use Rattle.theorem_agreement.proofs.Judged.{Low, each_low, each_none}
use Rattle.theorem_agreement.proofs.Adopt.{Known}
use Rattle.theorem_agreement.proofs.Valid.{valid_own_lem}
use Rattle.theorem_agreement.proofs.Outcomes.{Fine, refused_plain}

module _ (s : Setup) (past : List Event) (i : ℕ) (c : State) (st : Standing s past i c) (rests : Rested c) where
  abbrev FineBy : Marked → Type 0
  FineBy m = Fine s past i c (record_only c m)

  abbrev form : List ℕ → Bool
  form = block_form (setup_of c.replica)

  abbrev own : setup_of c.replica ≡ s
  own = setup_is s i c.replica st.good.fixed

  refusal : (k p : ℕ) → eqb k 2 ≡ false → eqb k 12 ≡ false → FineBy (marked k p c.replica)
  unfolding record_only refused
  refusal k p a b = refused_plain s past i c st rests [] k p a b

  -- a card is marked for two blocks that were seen
  marked_fine : (k : ℕ) → k < replicas s → Equivocated s past k → FineBy (marked 0 0 (with_mark c.replica k))
  unfolding record_only emitted_by frames emit
  marked_fine k low d =
      record {
        standing = record { good = mark_good s past i c st.good k low d; mine = st.mine; tidy = st.tidy };
        rests = mark_rested c k rests;
        extends = mark_extends c k;
        valid_ok = λ z. omega (arith, z);
        reverts = λ z. absurd (omega (arith, z));
      }

  module _ (x y : List ℕ) (known : Known s past (x ∷ y ∷ [])) (whole : Whole (x ∷ y ∷ [])) where
    -- what two frames that pass 7, 8 and 18 show
    equivocated : (judged_each sha256 form 0 (x ∷ y ∷ [])).number ≡ 0 → conflicting x y ≡ true
        → Equivocated s past (leader (setup_of c.replica) (round x))
    unfolding conflicting
    equivocated e d =
        let p : Passes sha256 form x = each_none sha256 form 0 (x ∷ y ∷ []) e x (inl refl) in
        let q : Passes sha256 form y = each_none sha256 form 0 (x ∷ y ∷ []) e y (inr (inl refl)) in
        let t = and-true (eqb (round x) (round y)) (not (same (digest x) (digest y))) d in
        record {
          one = x;
          other = y;
          one_seen = known x (inl refl) p.0;
          other_seen = known y (inr (inl refl)) q.0;
          one_block = block_of s x whole.0 p.0 (ap (λ k. block_form k x) (sym own) ∙ p.1);
          other_block = block_of s y whole.1.0 q.0 (ap (λ k. block_form k y) (sym own) ∙ q.1);
          one_round = eqb-true _ _ t.0;
          names_differ = λ z. clash (same_of z) (not-true _ t.1);
          led = ap (λ k. leader k (round x)) (sym own);
        }

  pub equivocation_fine : (bytes : List ℕ) → (is_pair bytes ≡ true → Known s past (frames_of bytes))
      → FineBy (equivocation_with sha256 c.replica bytes)
  equivocation_fine bytes known = go _ (by_case sha256 c.replica bytes)
    where
      known_two : is_pair bytes ≡ true → Known s past (first_frame bytes ∷ second bytes ∷ [])
      known_two e = subst (Known s past) (pair_frames bytes (eqb-true _ _ e)) (known e)

      whole_two : is_pair bytes ≡ true → Whole (first_frame bytes ∷ second bytes ∷ [])
      whole_two e =
          let n : length bytes ≡ 1024 = eqb-true _ _ e in
          subst Whole (pair_frames bytes n) (frames_whole (length bytes / frame_size) bytes (omega arith))

      go : (m : Marked) → Case sha256 c.replica bytes m → FineBy m
      go m (invalid_record v) = absurd (clash (valid_own_lem s past i c st.good rests) v)
      go m (not_pair v p) = refusal 6 0 refl refl
      go m (faulty_frame v p j) =
          let l : Low (judged sha256 c.replica bytes).number = each_low sha256 form 0 (first_frame bytes ∷ second bytes ∷ []) in
          refusal _ _ l.0 l.1
      go m (not_conflicting v p j d) = refusal 18 0 refl refl
      go m (leader_marked v p j d) =
          marked_fine (leader (setup_of c.replica) (round (first_frame bytes)))
          (subst (λ k. leader k (round (first_frame bytes)) < replicas s) (sym own) (leader_low s st.good.fixed.turns (round (first_frame bytes))))
          (equivocated (first_frame bytes) (second bytes) (known_two p) (whole_two p) j d)
