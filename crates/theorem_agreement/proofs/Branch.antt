-- Branch: the state stays good, nothing committed is lost, and no refusal 2 is met. Assumes nothing.
use Prim.Native.Nat.{ℕ, ◌-◌, ◌*◌, ◌/◌, ◌≤◌}
use mathlib.Core.Path.{◌≡◌, refl, sym, ap, ◌∙◌}
use mathlib.Core.Option.{Option, none, some}
use mathlib.Core.List.{List, [], ◌∷◌}
use mathlib.Core.Bool.{true}
use native.Mathlib.Omega.{arith}
use lib.ListN.{length, take}
use lib.Dec.{eqb, ltb}
use borrow.Author.Tests.{eqb-true, ltb-false}
use Rattle.sha256.specs.Fips.{sha256}
use Rattle.apollo.specs.Size.{frame_size}
use Rattle.apollo.specs.declared.Setup.{Setup}
use Rattle.apollo.specs.Setup.{setup_of}
use Rattle.apollo.specs.Bytes.{same}
use Rattle.apollo.specs.Frame.{round, height, frames_of, whole_frames}
use Rattle.apollo.specs.Log.{attach}
use Rattle.apollo.specs.Enter.{State, tipped, holding}
use Rattle.apollo.specs.Outcome.{taken}
use Rattle.apollo.specs.BlockRun.{last_of, judged_run}
use Rattle.apollo.specs.Branch.{first_uncertified, grown, adopting, placed, branched, branch_with}
use Rattle.theorem_agreement.specs.Run.{Event}
use Rattle.theorem_agreement.proofs.Tests.{clash, same_true, same_of, by_cond}
use Rattle.theorem_agreement.proofs.Slots.{slots_take}
use Rattle.theorem_agreement.proofs.Frames.{Whole, frames_whole}
use Rattle.theorem_agreement.proofs.Stored.{Stored}
use Rattle.theorem_agreement.proofs.Good.{Rested, extends_refl, hold_extends, setup_is, hold_good, committed_tip}
use Rattle.theorem_agreement.proofs.Effects.{Standing, standing_later, enter_kept}
use Rattle.theorem_agreement.proofs.Judged.{Low, run_low}
use Rattle.theorem_agreement.proofs.Adopt.{Block, Row, branch_row, Known, grown_stored}
use Rattle.theorem_agreement.proofs.Outcomes.{Fine, taken_fine, refused_fine, refused_plain, guarded_fine}

module _ (s : Setup) (past : List Event) (i : ℕ) (entry : List ℕ)
    (c : State) (st : Standing s past i c) (rests : Rested c) where
  -- a branch that passed 7 to 10
  module _ (fits : length entry ≤ 400) (x : List ℕ) (xs : List (List ℕ)) (block : Block s x) (row : Row s x xs)
      (known : Known s past (x ∷ xs)) (whole : Whole (x ∷ xs)) (late : c.replica.round.0 ≤ round (last_of x xs)) where
    abbrev done : ℕ
    done = c.replica.committed_round.0

    -- the log that would be made
    abbrev New : ℕ → Type 0
    New a = Stored s past c.masks (grown c.log a (x ∷ xs)) (round (last_of x xs)) (height (last_of x xs))

    adopted : (out : List ℕ) (a : ℕ) → New a → take (frame_size * done) (grown c.log a (x ∷ xs)) ≡ take (frame_size * done) c.log
        → Fine s past i c (taken (adopting sha256 entry c a x xs) out)
    unfolding adopting
    adopted out a new keep =
        let log : List ℕ = grown c.log a (x ∷ xs) in
        let t : ℕ = round (last_of x xs) in
        let h : ℕ = height (last_of x xs) in
        let fit : frame_size * done ≤ frame_size * s.last_round.0 =
        omega (arith, committed_tip s past i c st.good rests.renewed, st.good.stored.chain.low) in
        let slots = slots_take log c.log done (omega (arith, new.size)) (omega (arith, st.good.stored.size)) keep in
        taken_fine s past i c _ out
        (enter_kept s entry fits past i c (holding c log t h) rests.renewed (hold_extends c c (extends_refl c) log t h late slots)
        (standing_later s past i c (holding c log t h) st (hold_good s past i c st.good log t h new late)
        (unfold holding tipped in omega arith)) (unfold holding tipped in λ q l. rests.ahead q (omega arith)))

    placed_fine : (out : List ℕ) (p : Option ℕ) → attach c.log x (round x - 1) ≡ p → Fine s past i c (placed sha256 entry out c x xs p)
    unfolding placed
    placed_fine out none e = refused_plain s past i c st rests out 11 0 refl refl
    placed_fine out (some a) e =
        by_cond (Fine s past i c) (eqb (first_uncertified (setup_of c.replica) c.masks a (x ∷ xs)) 0)
        (λ u. by_cond (Fine s past i c) (same (take (frame_size * done) (grown c.log a (x ∷ xs))) (take (frame_size * done) c.log))
        (λ k. adopted out a (new (eqb-true _ _ u)) (same_true _ _ k))
        (λ k. refused_fine s past i c st rests out 12 0 (λ z. omega (arith, z))
        (λ _. record {
          log = grown c.log a (x ∷ xs);
          tip = round (last_of x xs);
          level = height (last_of x xs);
          stored = new (eqb-true _ _ u);
          beyond = late;
          renewed = rests.renewed;
          differs = λ z. clash (same_of z) k;
        })))
        (λ u. refused_plain s past i c st rests out 13 _ refl refl)
      where
        new : first_uncertified (setup_of c.replica) c.masks a (x ∷ xs) ≡ 0 → New a
        new u =
            grown_stored s past c.masks c.log _ _ a x xs st.good.stored e block row known whole
            (ap (λ k. first_uncertified k c.masks a (x ∷ xs)) (sym (setup_is s i c.replica st.good.fixed)) ∙ u)

  branched_fine : (out : List ℕ) (fs : List (List ℕ)) → length entry ≤ 400 → Known s past fs → Whole fs
      → Fine s past i c (branched sha256 entry out c fs)
  unfolding branched
  branched_fine out [] fits known whole = refused_plain s past i c st rests out 6 0 refl refl
  branched_fine out (x ∷ xs) fits known whole =
      by_cond (Fine s past i c) (eqb (judged_run sha256 (setup_of c.replica) 0 none (x ∷ xs)).number 0)
      (λ j. by_cond (Fine s past i c) (ltb (round (last_of x xs)) c.replica.round.0)
      (λ _. refused_plain s past i c st rests out 10 0 refl refl)
      (λ l. let r : Block s x × Row s x xs = rows (eqb-true _ _ j) in
      placed_fine fits x xs r.0 r.1 known whole (ltb-false _ _ l) out _ refl))
      (λ j. let l : Low (judged_run sha256 (setup_of c.replica) 0 none (x ∷ xs)).number = run_low (setup_of c.replica) 0 none (x ∷ xs) in
      refused_plain s past i c st rests out _ _ l.0 l.1)
    where
      rows : (judged_run sha256 (setup_of c.replica) 0 none (x ∷ xs)).number ≡ 0 → Block s x × Row s x xs
      rows e =
          branch_row s x xs
          (ap (λ k. (judged_run sha256 k 0 none (x ∷ xs)).number) (sym (setup_is s i c.replica st.good.fixed)) ∙ e) whole

  pub branch_fine : (bytes out : List ℕ) → (whole_frames c.replica.last_round.0 bytes ≡ true → Known s past (frames_of bytes))
      → Fine s past i c (branch_with sha256 c bytes entry out)
  unfolding branch_with
  branch_fine bytes out known =
      guarded_fine s past i c st rests entry out _
      (λ low fits. by_cond (Fine s past i c) (whole_frames c.replica.last_round.0 bytes)
      (λ e. branched_fine out (frames_of bytes) fits (known e) (frames_whole (length bytes / frame_size) bytes (omega arith)))
      (λ _. refused_plain s past i c st rests out 6 0 refl refl))
