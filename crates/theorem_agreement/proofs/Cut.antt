-- A call that is answered 6 hands in no frame. Assumes nothing.
use Prim.Native.Nat.{ℕ, zero, suc, ◌+◌, ◌-◌, ◌*◌, ◌≤◌}
use mathlib.Core.Path.{◌≡◌, refl}
use mathlib.Core.Option.{Option, none, some}
use mathlib.Core.List.{List, [], ◌∷◌}
use mathlib.Core.Bool.{Bool, false, not, ◌&&◌, cond}
use native.Mathlib.Omega.{arith}
use lib.ListN.{length, take, drop}
use lib.Dec.{eqb, ltb}
use borrow.Author.Tests.{eqb-false}
use Rattle.sha256.specs.Fips.{sha256}
use Rattle.apollo.specs.Size.{frame_size}
use Rattle.apollo.specs.declared.Marked.{Marked}
use Rattle.apollo.specs.Setup.{setup_of}
use Rattle.apollo.specs.Bytes.{same}
use Rattle.apollo.specs.Frame.{round, frames, frames_of, first_frame, whole_frames, block_form, blame_form}
use Rattle.apollo.specs.Log.{attach}
use Rattle.apollo.specs.Replica.{valid_replica, valid_masks}
use Rattle.apollo.specs.Enter.{State}
use Rattle.apollo.specs.Judging.{judged_each}
use Rattle.apollo.specs.Outcome.{Outcome, refused, taken, guarded}
use Rattle.apollo.specs.BlockRun.{last_of, judged_run}
use Rattle.apollo.specs.Branch.{first_uncertified, grown, placed, branched, branch_with}
use Rattle.apollo.specs.Blame.{one_set, any_fresh, heard, handing}
use Rattle.apollo.specs.Equivocation.{is_pair, second, equivocation_with}
use Rattle.apollo.proofs.Frames.{whole_true}
use Rattle.apollo.proofs.Equivocation.{Case, invalid_record, not_pair, faulty_frame, not_conflicting, leader_marked, by_case}
use Rattle.theorem_agreement.specs.Run.{branch, blame, blames, tick, equivocation, uncut, frames_in, record_only, answer}
use Rattle.theorem_agreement.specs.Claim.{CutHandsNothing}
use Rattle.theorem_agreement.proofs.Tests.{by_cond, cond_false}
use Rattle.theorem_agreement.proofs.Judged.{each_low, run_low}

-- where an outcome is answered 6, P holds
abbrev If6 : Type 0 → Outcome → Type 0
If6 P o = o.answer.number ≡ 6 → P

module _ (P : Type 0) (c : State) (entry out : List ℕ) where
  other : (k p : ℕ) → eqb k 6 ≡ false → If6 P (refused c out k p)
  unfolding refused
  other k p e z = absurd (eqb-false k 6 e z)

  guarded_6 : (o : Outcome) → If6 P o → If6 P (guarded c entry out o)
  unfolding guarded
  guarded_6 o h =
      by_cond (If6 P) (not (valid_replica c.replica c.log && valid_masks c.replica c.masks)) (λ _. other 2 0 refl)
      (λ _. by_cond (If6 P) (eqb c.replica.round.0 (c.replica.last_round.0 + 1)) (λ _. other 3 0 refl)
      (λ _. by_cond (If6 P) (ltb (length out) 1024) (λ _. other 4 0 refl)
      (λ _. by_cond (If6 P) (ltb 400 (length entry)) (λ _. other 5 0 refl) (λ _. h))))

  placed_6 : (x : List ℕ) (xs : List (List ℕ)) (a : Option ℕ) → If6 P (placed sha256 entry out c x xs a)
  unfolding placed taken
  placed_6 x xs none = other 11 0 refl
  placed_6 x xs (some a) =
      let n : ℕ = frame_size * c.replica.committed_round.0 in
      by_cond (If6 P) (eqb (first_uncertified (setup_of c.replica) c.masks a (x ∷ xs)) 0)
      (λ _. by_cond (If6 P) (same (take n (grown c.log a (x ∷ xs))) (take n c.log)) (λ _ z. absurd (omega (arith, z)))
      (λ _. other 12 0 refl))
      (λ _. other 13 _ refl)

  branched_6 : (x : List ℕ) (xs : List (List ℕ)) → If6 P (branched sha256 entry out c (x ∷ xs))
  unfolding branched
  branched_6 x xs =
      by_cond (If6 P) (eqb (judged_run sha256 (setup_of c.replica) 0 none (x ∷ xs)).number 0)
      (λ _. by_cond (If6 P) (ltb (round (last_of x xs)) c.replica.round.0) (λ _. other 10 0 refl)
      (λ _. placed_6 x xs (attach c.log x (round x - 1))))
      (λ _. other _ _ (run_low (setup_of c.replica) 0 none (x ∷ xs)).2)

  heard_6 : (x : List ℕ) (xs : List (List ℕ)) → If6 P (heard sha256 entry out c (x ∷ xs))
  unfolding heard taken
  heard_6 x xs =
      let form : List ℕ → Bool = blame_form (setup_of c.replica) in
      by_cond (If6 P) (eqb (judged_each sha256 form 0 (x ∷ xs)).number 0)
      (λ _. by_cond (If6 P) (one_set (round x) 0 (x ∷ xs))
      (λ _. by_cond (If6 P) (ltb c.replica.round.0 (round x)) (λ _. other 14 0 refl)
      (λ _. by_cond (If6 P) (any_fresh c.masks (x ∷ xs)) (λ _ z. absurd (omega (arith, z))) (λ _. other 10 0 refl)))
      (λ _. other 16 0 refl))
      (λ _. other _ _ (each_low sha256 form 0 (x ∷ xs)).2)

-- what holds wherever there is a frame holds of the frames of a whole buffer
some_frame : (P : List (List ℕ) → Type 0) → ((x : List ℕ) (xs : List (List ℕ)) → P (x ∷ xs)) → (n : ℕ) (bytes : List ℕ) → 1 ≤ n
    → P (frames n bytes)
unfolding frames
some_frame P h zero bytes l = absurd (omega arith)
some_frame P h (suc n) bytes l = h (take frame_size bytes) (frames n (drop frame_size bytes))

-- a call that judges the frames of a buffer of 1 to `most` whole frames, and does not answer 6 to them
module _ (c : State) (bytes entry out : List ℕ) (most : ℕ) where
  uncut_6 : (o : List (List ℕ) → Outcome) → ((x : List ℕ) (xs : List (List ℕ)) → If6 (uncut (whole_frames most bytes) bytes ≡ []) (o (x ∷ xs)))
      → If6 (uncut (whole_frames most bytes) bytes ≡ []) (guarded c entry out (cond (whole_frames most bytes) (o (frames_of bytes)) (refused c out 6 0)))
  uncut_6 o h =
      guarded_6 _ c entry out _
      (by_cond (If6 (uncut (whole_frames most bytes) bytes ≡ [])) (whole_frames most bytes)
      (λ e. some_frame (λ xs. If6 (uncut (whole_frames most bytes) bytes ≡ []) (o xs)) h _ bytes (whole_true most bytes e).some)
      (λ e z. unfold uncut in cond_false _ _ e))

  handing_6 : If6 (uncut (whole_frames most bytes) bytes ≡ []) (handing sha256 most c bytes entry out)
  unfolding handing
  handing_6 = uncut_6 (heard sha256 entry out c) (heard_6 _ c entry out)

-- the call equivocation, and a buffer that is no pair
module _ (c : State) (bytes : List ℕ) where
  abbrev Of : Marked → Type 0
  Of m = If6 (uncut (is_pair bytes) bytes ≡ []) (record_only c m)

  pair_6 : Of (equivocation_with sha256 c.replica bytes)
  unfolding record_only
  pair_6 = go _ (by_case sha256 c.replica bytes)
    where
      go : (m : Marked) → Case sha256 c.replica bytes m → Of m
      go m (invalid_record v) z = absurd (omega (arith, z))
      go m (not_pair v p) z = unfold uncut in cond_false _ _ p
      go m (faulty_frame v p j) z =
          absurd (eqb-false _ 6 (each_low sha256 (block_form (setup_of c.replica)) 0 (first_frame bytes ∷ second bytes ∷ [])).2 z)
      go m (not_conflicting v p j d) z = absurd (omega (arith, z))
      go m (leader_marked v p j d) z = absurd (omega (arith, z))

pub cut : CutHandsNothing
unfolding answer frames_in branch_with
cut c (branch bytes entry out) =
    uncut_6 c bytes entry out c.replica.last_round.0 (branched sha256 entry out c) (branched_6 _ c entry out)
cut c (blame bytes entry out) = handing_6 c bytes entry out 1
cut c (blames bytes entry out) = handing_6 c bytes entry out 15
cut c (tick entry out) = λ z. refl
cut c (equivocation bytes) = pair_6 c bytes
