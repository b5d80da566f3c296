-- Blames, one or a set: the state stays good, and no refusal 2 or 12 is met. Assumes nothing.
use Prim.Native.Nat.{ℕ, ◌≤◌}
use mathlib.Core.Path.{◌≡◌, refl, sym, ap, ◌∙◌, subst}
use mathlib.Core.Logic.{inl, inr, ⊎_elim}
use mathlib.Core.List.{List, [], ◌∷◌}
use mathlib.Core.Bool.{Bool, true, ◌&&◌, not}
use lib.ListN.{length}
use lib.Dec.{eqb, ltb}
use borrow.Author.Tests.{eqb-true, leb-true, ltb-false}
use Rattle.sha256.specs.Fips.{sha256}
use Rattle.apollo.specs.declared.Setup.{Setup}
use Rattle.apollo.specs.Setup.{setup_of}
use Rattle.apollo.specs.Frame.{signer, round, frames_of, whole_frames, blame_form}
use Rattle.apollo.specs.Masks.{bit, set_bit}
use Rattle.apollo.specs.Enter.{State, hearing, settle}
use Rattle.apollo.specs.Judging.{judged_each}
use Rattle.apollo.specs.Blame.{one_set, any_fresh, add_blames, hearing_all, heard, handing}
use Rattle.theorem_agreement.specs.Run.{Event, In, Seen}
use Rattle.theorem_agreement.proofs.Tests.{and-true, by_cond}
use Rattle.theorem_agreement.proofs.Good.{Blamed, Rested, Hears, rested_hears, hear_hears, Extends, extends_refl, extends_trans, hear_extends, setup_is}
use Rattle.theorem_agreement.proofs.Effects.{Standing, Kept, kept_trans, hear_standing, settle_kept}
use Rattle.apollo.proofs.Fault.{Passes}
use Rattle.theorem_agreement.proofs.Judged.{Low, each_low, each_none}
use Rattle.theorem_agreement.proofs.Adopt.{Known}
use Rattle.theorem_agreement.proofs.Outcomes.{Fine, taken_fine, refused_plain, guarded_fine}

-- all frames of a set are of one round
one_round : (r before : ℕ) (xs : List (List ℕ)) → one_set r before xs ≡ true → (y : List ℕ) → In y xs → round y ≡ r
unfolding one_set
one_round r before [] e y p = absurd p
one_round r before (x ∷ xs) e y p =
    let t = and-true (eqb (round x) r && not (bit (signer x) before)) (one_set r (set_bit (signer x) before) xs) e in
    ⊎_elim (λ h. ap round h ∙ eqb-true _ _ (and-true (eqb (round x) r) (not (bit (signer x) before)) t.0).0)
    (one_round r (set_bit (signer x) before) xs t.1 y) p

module _ (s : Setup) (past : List Event) where
  -- a blame that was seen, for a round from 1 to T
  record Heard (x : List ℕ) : Type 0 where
    blamed : Blamed past (signer x) (round x)
    lowest : 1 ≤ round x
    highest : round x ≤ s.last_round.0

  formed : (x : List ℕ) → Seen x past → blame_form s x ≡ true → Heard x
  unfolding blame_form
  formed x k g =
      let p = and-true _ _ (and-true _ _ g).0 in
      let r = and-true _ _ p.1 in
      record {
        blamed = (x, k, eqb-true _ _ (and-true _ _ (and-true _ _ p.0).0).0, refl, refl);
        lowest = leb-true _ _ r.0;
        highest = leb-true _ _ r.1;
      }

  -- the bit of each of some blames of round r is set
  hear_all : (i r : ℕ) (xs : List (List ℕ)) (c : State) → ((x : List ℕ) → In x xs → Heard x × (round x ≡ r)) → Standing s past i c → Hears r c
      → Standing s past i (hearing_all c xs) × Hears r (hearing_all c xs) × Extends c (hearing_all c xs)
  unfolding hearing hearing_all add_blames
  hear_all i r [] c b st h = (st, h, extends_refl c)
  hear_all i r (x ∷ xs) c b st h =
      let d : State = hearing c (round x) (signer x) in
      let p : Heard x × (round x ≡ r) = b x (inl refl) in
      let g : Hears r d = subst (λ k. Hears r (hearing c k (signer x))) (sym p.1) (hear_hears r (signer x) c h) in
      let q : Standing s past i (hearing_all d xs) × Hears r (hearing_all d xs) × Extends d (hearing_all d xs) =
      hear_all i r xs d (λ y m. b y (inr m)) (hear_standing s past i c st (round x) (signer x) p.0.lowest p.0.blamed) g in
      (q.0, q.1, extends_trans c d _ (hear_extends c (round x) (signer x)) q.2)

module _ (s : Setup) (past : List Event) (i : ℕ) (entry : List ℕ)
    (c : State) (st : Standing s past i c) (rests : Rested c) where
  abbrev form : List ℕ → Bool
  form = blame_form (setup_of c.replica)

  -- all bits are set, then R is settled once
  heard_kept : length entry ≤ 400 → (x : List ℕ) (xs : List (List ℕ)) → ((y : List ℕ) → In y (x ∷ xs) → Heard s past y × (round y ≡ round x))
      → round x ≤ c.replica.round.0 → Kept s past i c (settle sha256 entry (hearing_all c (x ∷ xs)) (round x))
  heard_kept fits x xs b l =
      let d : State = hearing_all c (x ∷ xs) in
      let h : Heard s past x = (b x (inl refl)).0 in
      let r : Standing s past i d × Hears (round x) d × Extends c d =
      hear_all s past i (round x) (x ∷ xs) c b st (rested_hears (round x) c h.lowest l rests) in
      kept_trans s past i c d _ r.2 (settle_kept s entry fits past i d (round x) h.highest r.1 r.0)

  heard_fine : (out : List ℕ) (xs : List (List ℕ)) → length entry ≤ 400 → Known s past xs → Fine s past i c (heard sha256 entry out c xs)
  unfolding heard
  heard_fine out [] fits known = refused_plain s past i c st rests out 6 0 refl refl
  heard_fine out (x ∷ xs) fits known =
      by_cond (Fine s past i c) (eqb (judged_each sha256 form 0 (x ∷ xs)).number 0)
      (λ j. by_cond (Fine s past i c) (one_set (round x) 0 (x ∷ xs))
      (λ o. by_cond (Fine s past i c) (ltb c.replica.round.0 (round x)) (λ _. refused_plain s past i c st rests out 14 0 refl refl)
      (λ l. by_cond (Fine s past i c) (any_fresh c.masks (x ∷ xs))
      (λ _. taken_fine s past i c _ out
      (heard_kept fits x xs (λ y p. (all_heard (eqb-true _ _ j) y p, one_round (round x) 0 (x ∷ xs) o y p)) (ltb-false _ _ l)))
      (λ _. refused_plain s past i c st rests out 10 0 refl refl)))
      (λ _. refused_plain s past i c st rests out 16 0 refl refl))
      (λ _. let l : Low (judged_each sha256 form 0 (x ∷ xs)).number = each_low sha256 form 0 (x ∷ xs) in
      refused_plain s past i c st rests out _ _ l.0 l.1)
    where
      all_heard : (judged_each sha256 form 0 (x ∷ xs)).number ≡ 0 → (y : List ℕ) → In y (x ∷ xs) → Heard s past y
      all_heard e y p =
          let q : Passes sha256 form y = each_none sha256 form 0 (x ∷ xs) e y p in
          formed s past y (known y p q.0) (ap (λ k. blame_form k y) (sym (setup_is s i c.replica st.good.fixed)) ∙ q.1)

  -- 1 to `most` blames are handed in: 1 by the call blame, 15 by blames
  pub handing_fine : (most : ℕ) (bytes out : List ℕ) → (whole_frames most bytes ≡ true → Known s past (frames_of bytes))
      → Fine s past i c (handing sha256 most c bytes entry out)
  unfolding handing
  handing_fine most bytes out known =
      guarded_fine s past i c st rests entry out _
      (λ low fits. by_cond (Fine s past i c) (whole_frames most bytes) (λ e. heard_fine out (frames_of bytes) fits (known e))
      (λ _. refused_plain s past i c st rests out 6 0 refl refl))
