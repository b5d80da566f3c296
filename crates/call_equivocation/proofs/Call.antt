-- Equivocation as the code answers it: two frames judged one after the other, then together, then the record. Assumes nothing.
use mathlib.Core.Path.{◌≡◌, sym, ap, ◌∙◌}
use mathlib.Core.Logic.{◌≢◌}
use mathlib.Core.Bool.{Bool, true, false, cond, true≢false}
use mathlib.Core.List.{List, [], ◌∷◌}
use Prim.Native.Nat.{ℕ, ◌<◌}
use native.Mathlib.Omega.{arith}
use lib.Dec.{eqb}
use lib.ListN.{length}
use borrow.Author.Tests.{eq-eqb, ne_eqb}
use Rattle.sha256.specs.Fips.{sha256}
use Rattle.apollo.specs.declared.Replica.{Replica}
use Rattle.apollo.specs.declared.Setup.{Setup}
use Rattle.apollo.specs.declared.Marked.{Marked}
use Rattle.apollo.specs.Setup.{setup_of, leader}
use Rattle.apollo.specs.Frame.{round, frames_of, block_form, first_frame}
use Rattle.apollo.specs.Replica.{with_mark, valid_record}
use Rattle.apollo.specs.Judging.{Verdict, verdict, no_refusal, judged_each}
use Rattle.apollo.specs.Equivocation.{marked, second, conflicting}
use Rattle.apollo.specs.Calls.{equivocation_call}
use Rattle.apollo.proofs.Tests.{cond_true, cond_false}
use Rattle.apollo.proofs.Frames.{pair_frames}
use Rattle.apollo.proofs.Rotation.{leader_low}
use Rattle.apollo.proofs.Equivocation.{judged, Case, invalid_record, not_pair, faulty_frame, not_conflicting, leader_marked, by_case, case_is}
use Rattle.apollo.proofs.Validity.{record_turns}
use Rattle.call_equivocation.specs.Judge.{judged_two, judged_pair}

module _ (s : Setup) (bytes : List ℕ) (two : length bytes ≡ 1024) (v : Verdict)
    (d : v ≡ judged_each sha256 (block_form s) 0 (frames_of bytes)) where
  abbrev judged_both : Verdict
  judged_both = judged_two s (first_frame bytes) (second bytes)

  each_is : v ≡ judged_each sha256 (block_form s) 0 (first_frame bytes ∷ second bytes ∷ [])
  each_is = d ∙ ap (judged_each sha256 (block_form s) 0) (pair_frames bytes two)

  pub two_faulty : v.number ≢ 0 → v ≡ judged_both
  unfolding judged_two
  two_faulty n = rw (← each_is, ne_eqb v.number 0 n)

  module _ (z : v.number ≡ 0) (x y : List ℕ) (ex : x ≡ first_frame bytes) (ey : y ≡ second bytes) (b : Bool) (e : b ≡ conflicting x y) where
    conflict_is : b ≡ conflicting (first_frame bytes) (second bytes)
    conflict_is = rw (ex, ey) at e

    pub two_alike : b ≡ false → verdict 18 0 ≡ judged_both
    unfolding judged_two
    two_alike f = rw (← each_is, eq-eqb v.number 0 z, ← conflict_is, f)

    pub two_conflicting : b ≡ true → no_refusal ≡ judged_both
    unfolding judged_two
    two_conflicting t = rw (← each_is, eq-eqb v.number 0 z, ← conflict_is, t)

module _ (s : Setup) (bytes : List ℕ) where
  pub pair_cut : length bytes ≢ 1024 → verdict 6 0 ≡ judged_pair s bytes
  unfolding judged_pair
  pair_cut n = rw (ne_eqb (length bytes) 1024 n)

  pub pair_whole : length bytes ≡ 1024 → (v : Verdict) → v ≡ judged_two s (first_frame bytes) (second bytes) → v ≡ judged_pair s bytes
  unfolding judged_pair
  pair_whole l v e = rw (eq-eqb (length bytes) 1024 l) e

-- what the call answers to a pair so judged
unfoldable pub answered : Replica → (x : List ℕ) → Verdict → Marked
answered r x v =
    cond (eqb v.number 0) (marked 0 0 (with_mark r (leader (setup_of r) (round x)))) (marked v.number v.place r)

module _ (r : Replica) (x : List ℕ) (v : Verdict) where
  answered_none : v.number ≡ 0 → marked 0 0 (with_mark r (leader (setup_of r) (round x))) ≡ answered r x v
  unfolding answered
  answered_none z = sym (cond_true _ _ (eq-eqb v.number 0 z))

  answered_some : v.number ≢ 0 → marked v.number v.place r ≡ answered r x v
  unfolding answered
  answered_some n = sym (cond_false _ _ (ne_eqb v.number 0 n))

pair_answer : (r : Replica) (bytes : List ℕ) → valid_record r ≡ true
    → answered r (first_frame bytes) (judged_pair (setup_of r) bytes) ≡ equivocation_call r bytes
unfolding answered judged_pair judged_two
pair_answer r bytes t = go _ (by_case sha256 r bytes)
  where
    go : (a : Marked) → Case sha256 r bytes a → answered r (first_frame bytes) (judged_pair (setup_of r) bytes) ≡ a
    go a (invalid_record v) = absurd (true≢false (sym t ∙ v))
    go a (not_pair v p) = rw p
    go a (faulty_frame v p j) = let n = ne_eqb (judged sha256 r bytes).number 0 j in rw (p, n) (rw n)
    go a (not_conflicting v p j d) = rw (p, eq-eqb (judged sha256 r bytes).number 0 j, d)
    go a (leader_marked v p j d) = rw (p, eq-eqb (judged sha256 r bytes).number 0 j, d)

module _ (r : Replica) (bytes : List ℕ) (b : Bool) (e : b ≡ valid_record r) where
  pub record_bad : (a : Marked) → a ≡ marked 2 0 r → b ≡ false → a ≡ equivocation_call r bytes
  record_bad a i f = i ∙ case_is sha256 r bytes _ (invalid_record (sym e ∙ f))

  module _ (t : b ≡ true) (s : Setup) (d : s ≡ setup_of r) (v : Verdict) (j : v ≡ judged_pair s bytes) where
    by_verdict : answered r (first_frame bytes) v ≡ equivocation_call r bytes
    by_verdict = ap (answered r (first_frame bytes)) (j ∙ ap (λ k. judged_pair k bytes) d) ∙ pair_answer r bytes (sym e ∙ t)

    pub pair_refused : (a : Marked) → a ≡ marked v.number v.place r → v.number ≢ 0 → a ≡ equivocation_call r bytes
    pair_refused a i n = i ∙ answered_some r (first_frame bytes) v n ∙ by_verdict

    module _ (x : List ℕ) (f : x ≡ first_frame bytes) (q k : ℕ) (g : q ≡ round x) (h : k ≡ leader s q) where
      leader_is : k ≡ leader (setup_of r) (round (first_frame bytes))
      leader_is = h ∙ ap (leader s) (g ∙ ap (λ (y : List ℕ). round y) f) ∙ ap (λ u. leader u (round (first_frame bytes))) d

      -- each card has a bit
      pub card_low : k < 16
      card_low =
          let p = record_turns r (sym e ∙ t) in
          omega (arith, leader_is, leader_low (setup_of r) p.1 (round (first_frame bytes)), p.0)

      pub pair_taken : (m : Replica) (a : Marked) → m ≡ with_mark r k → a ≡ marked 0 0 m → v.number ≡ 0 → a ≡ equivocation_call r bytes
      pair_taken m a c i z =
          i ∙ ap (marked 0 0) (c ∙ ap (with_mark r) leader_is) ∙ answered_none r (first_frame bytes) v z ∙ by_verdict
