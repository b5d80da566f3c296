-- Laws of the lines that were carried out. Assumes nothing.
use Rattle.std.proofs.Common.{◌≡◌, ◌≢◌, All, refl, ap, ◌∙◌, sym, inl, inr, ℕ, List, [], ◌∷◌, ◌++◌, Option, None, Some, Result, Ok, append_assoc, append-nil}
use Rattle.std.specs.Prelude.{⊤}
use Rattle.std.specs.Fn.{Mut}
use Rattle.std.specs.List.{FoldsTo}
use Rattle.std.specs.Io.KnownBytes.{Consumes}
use Rattle.std.proofs.KnownBytes.{Consumes-nil, Consumes-trans}
use Rattle.std.proofs.lemmas.Fn.{FoldsTo-push}
use Rattle.std.proofs.lemmas.List.Elements.{All-push, All-nil}
use Rattle.text.specs.declared.stdout.Stop.{Stop}
use Rattle.text.specs.Running.{joined, WasDone, Handed, CarriedOut}
use denote.Ref.{Bor}

pub joined_push : (ls : List (List ℕ)) (l : List ℕ) → joined (ls ++ (l ∷ [])) ≡ joined ls ++ (l ++ (10 ∷ []))
unfolding joined
joined_push [] l = append-nil (l ++ (10 ∷ []))
joined_push (x ∷ ls) l =
    ap (λ k. x ++ (10 ∷ []) ++ k) (joined_push ls l) ∙ sym (append_assoc (x ++ (10 ∷ [])) (joined ls) (l ++ (10 ∷ [])))

pub not_done : (o : Option (Result ⊤ Stop)) → o ≡ None → WasDone o
not_done o e = rw e tt

pub well_done : (o : Option (Result ⊤ Stop)) (d : Result ⊤ Stop) (u : ⊤) → o ≡ Some d → d ≡ Ok u → WasDone o
well_done o d u e f = rw (e, f) refl

module _ {F : Type 0} (g : Mut F (Bor (List ℕ) × Unit {0}) (Option (Result ⊤ Stop))) (p : F) (before : Option (List ℕ)) where
  -- whole lines were carried out
  pub record Whole (q : F) (after : Option (List ℕ)) : Type 0 where
    pub lines : List (List ℕ)
    pub no_ends : All (All (λ b. b ≢ 10)) lines
    pub consumed : Consumes before after (joined lines)
    pub handed : FoldsTo (Handed g) p lines q

  pub none_yet : (q : F) → p ≡ q → Whole q before
  unfolding joined
  none_yet q e = record { lines = []; no_ends = All-nil (All (λ b. b ≢ 10)); consumed = Consumes-nil before; handed = e }

  pub one_more : (q r : F) (mid after : Option (List ℕ)) (l : List ℕ) → Whole q mid → All (λ b. b ≢ 10) l
      → Consumes mid after (l ++ (10 ∷ [])) → Handed g q l r → Whole r after
  one_more q r mid after l w n f h =
      record {
        lines = w.lines ++ (l ∷ []);
        no_ends = All-push (All (λ b. b ≢ 10)) w.lines l w.no_ends n;
        consumed = rw (joined_push w.lines l) (Consumes-trans before mid after (joined w.lines) (l ++ (10 ∷ [])) w.consumed f);
        handed = FoldsTo-push (Handed g) p w.lines q l r w.handed h;
      }

  -- the last line has no end
  pub with_last : (q r : F) (mid after : Option (List ℕ)) (l : List ℕ) → Whole q mid → All (λ b. b ≢ 10) l
      → Consumes mid after (l ++ []) → Handed g q l r → CarriedOut g p r before after
  with_last q r mid after l w n f h =
      record {
        lines = w.lines ++ (l ∷ []);
        no_ends = All-push (All (λ b. b ≢ 10)) w.lines l w.no_ends n;
        bytes = joined w.lines ++ (l ++ []);
        are_lines = inr (rw (append-nil l, joined_push w.lines l) (append_assoc (joined w.lines) l (10 ∷ [])));
        consumed = Consumes-trans before mid after (joined w.lines) (l ++ []) w.consumed f;
        handed = FoldsTo-push (Handed g) p w.lines q l r w.handed h;
      }

  pub all_whole : (q : F) (mid after : Option (List ℕ)) → Whole q mid → Consumes mid after [] → CarriedOut g p q before after
  all_whole q mid after w f =
      record {
        lines = w.lines;
        no_ends = w.no_ends;
        bytes = joined w.lines ++ [];
        are_lines = inl (append-nil (joined w.lines));
        consumed = Consumes-trans before mid after (joined w.lines) [] w.consumed f;
        handed = w.handed;
      }
