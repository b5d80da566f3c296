-- Equivocation by cases: what it answers, with what the tests before that showed. Assumes nothing.
use Prim.Native.Nat.{ℕ}
use mathlib.Core.Path.{◌≡◌}
use mathlib.Core.Logic.{◌≢◌}
use mathlib.Core.List.{List, [], ◌∷◌}
use mathlib.Core.Bool.{true, false, not}
use lib.Dec.{eqb}
use borrow.Author.Tests.{eqb-true, eqb-false, eq-eqb, ne_eqb, not-true, not-false}
use Rattle.apollo.specs.declared.Replica.{Replica}
use Rattle.apollo.specs.declared.Marked.{Marked}
use Rattle.apollo.specs.Setup.{setup_of, leader}
use Rattle.apollo.specs.Frame.{round, block_form, first_frame}
use Rattle.apollo.specs.Replica.{with_mark, valid_record}
use Rattle.apollo.specs.Judging.{Verdict, judged_each}
use Rattle.apollo.specs.Equivocation.{marked, is_pair, second, conflicting, accusing, equivocation_with}
use Rattle.apollo.proofs.Tests.{by_cond}

module _ (hash : List ℕ → List ℕ) (r : Replica) (bytes : List ℕ) where
  -- 7 and 8 of the two frames
  abbrev pub judged : Verdict
  judged = judged_each hash (block_form (setup_of r)) 0 (first_frame bytes ∷ second bytes ∷ [])

  -- 2; 6; 7 or 8; 18; taken
  pub data Case : Marked → Type 0 where
    invalid_record : valid_record r ≡ false → Case (marked 2 0 r)
    not_pair : valid_record r ≡ true → is_pair bytes ≡ false → Case (marked 6 0 r)
    faulty_frame : valid_record r ≡ true → is_pair bytes ≡ true → judged.number ≢ 0 → Case (marked judged.number judged.place r)
    not_conflicting : valid_record r ≡ true → is_pair bytes ≡ true → judged.number ≡ 0 → conflicting (first_frame bytes) (second bytes) ≡ false
        → Case (marked 18 0 r)
    leader_marked : valid_record r ≡ true → is_pair bytes ≡ true → judged.number ≡ 0 → conflicting (first_frame bytes) (second bytes) ≡ true
        → Case (marked 0 0 (with_mark r (leader (setup_of r) (round (first_frame bytes)))))

  -- the answer is one of these
  pub by_case : Case (equivocation_with hash r bytes)
  unfolding equivocation_with accusing
  by_case =
      by_cond Case (not (valid_record r)) (λ e. invalid_record (not-true _ e))
      (λ v. by_cond Case (is_pair bytes)
      (λ p. by_cond Case (eqb judged.number 0)
      (λ j. by_cond Case (conflicting (first_frame bytes) (second bytes)) (leader_marked (not-false _ v) p (eqb-true _ _ j))
      (not_conflicting (not-false _ v) p (eqb-true _ _ j)))
      (λ j. faulty_frame (not-false _ v) p (eqb-false _ _ j))) (not_pair (not-false _ v)))

  -- and whichever holds is the answer
  pub case_is : (a : Marked) → Case a → a ≡ equivocation_with hash r bytes
  unfolding equivocation_with accusing
  case_is a (invalid_record v) = rw v
  case_is a (not_pair v p) = rw (v, p)
  case_is a (faulty_frame v p j) = rw (v, p, ne_eqb judged.number 0 j)
  case_is a (not_conflicting v p j c) = rw (v, p, eq-eqb judged.number 0 j, c)
  case_is a (leader_marked v p j c) = rw (v, p, eq-eqb judged.number 0 j, c)
