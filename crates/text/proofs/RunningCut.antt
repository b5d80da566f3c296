-- Laws of the lines that were cut and carried out. Assumes nothing.
use Rattle.std.proofs.Common.{◌≡◌, ◌≢◌, All, inl, inr, ℕ, List, [], ◌∷◌, ◌++◌, take, Option, None, Some, Result, append_assoc, append-nil}
use Rattle.std.specs.Prelude.{⊤}
use Rattle.std.specs.Fn.{Mut}
use Rattle.std.specs.List.{FoldsTo}
use Rattle.std.specs.Io.KnownBytes.{Consumes}
use Rattle.std.proofs.KnownBytes.{Consumes-nil, Consumes-trans}
use Rattle.std.proofs.lemmas.Fn.{FoldsTo-push}
use Rattle.std.proofs.lemmas.List.Elements.{All-push, All-nil}
use Rattle.text.specs.declared.stdout.Stop.{Stop}
use Rattle.text.specs.declared.stdin.End.{End}
use Rattle.text.specs.declared.stdin.End.TheVariants.{Newline, Input}
use Rattle.text.specs.Reading.{Cut}
use Rattle.text.specs.Running.{joined, Handed, CarriedOutCut}
use Rattle.text.proofs.Running.{joined_push}
use denote.Ref.{Bor}

-- a line was handed on, cut to its first m bytes
abbrev pub HandedCut : (m : ℕ) {F : Type 0} → Mut F (Bor (List ℕ) × Unit {0}) (Option (Result ⊤ Stop)) → F → List ℕ → F → Type 0
HandedCut m g p line q = Handed g p (take m line) q

module _ (m : ℕ) {F : Type 0} (g : Mut F (Bor (List ℕ) × Unit {0}) (Option (Result ⊤ Stop))) (p : F) (before : Option (List ℕ)) where
  -- whole lines were carried out
  pub record Whole (q : F) (after : Option (List ℕ)) : Type 0 where
    pub lines : List (List ℕ)
    pub no_ends : All (All (λ b. b ≢ 10)) lines
    pub consumed : Consumes before after (joined lines)
    pub handed : FoldsTo (HandedCut m g) p lines q

  pub none_yet : (q : F) → p ≡ q → Whole q before
  unfolding joined
  none_yet q e = record { lines = []; no_ends = All-nil (All (λ b. b ≢ 10)); consumed = Consumes-nil before; handed = e }

  pub one_more : (q r : F) (mid after : Option (List ℕ)) (kept : List ℕ) (end : Option End) → Whole q mid → Cut m mid after kept end
      → end ≡ Some Newline → Handed g q kept r → Whole r after
  one_more q r mid after kept end w k e h =
      record {
        lines = w.lines ++ (k.line ∷ []);
        no_ends = All-push (All (λ b. b ≢ 10)) w.lines k.line w.no_ends k.one;
        consumed = rw (joined_push w.lines k.line)
            (Consumes-trans before mid after (joined w.lines) (k.line ++ (10 ∷ [])) w.consumed (rw e at k.consumed));
        handed = FoldsTo-push (HandedCut m g) p w.lines q k.line r w.handed (rw k.first at h);
      }

  -- the last line has no end
  pub with_last : (q r : F) (mid after : Option (List ℕ)) (kept : List ℕ) (end : Option End) → Whole q mid → Cut m mid after kept end
      → end ≡ Some Input → Handed g q kept r → CarriedOutCut m g p r before after
  with_last q r mid after kept end w k e h =
      record {
        lines = w.lines ++ (k.line ∷ []);
        no_ends = All-push (All (λ b. b ≢ 10)) w.lines k.line w.no_ends k.one;
        bytes = joined w.lines ++ (k.line ++ []);
        are_lines = inr (rw (append-nil k.line, joined_push w.lines k.line) (append_assoc (joined w.lines) k.line (10 ∷ [])));
        consumed = Consumes-trans before mid after (joined w.lines) (k.line ++ []) w.consumed (rw e at k.consumed);
        handed = FoldsTo-push (HandedCut m g) p w.lines q k.line r w.handed (rw k.first at h);
      }

  pub all_whole : (q : F) (mid after : Option (List ℕ)) → Whole q mid → Consumes mid after [] → CarriedOutCut m g p q before after
  all_whole q mid after w f =
      record {
        lines = w.lines;
        no_ends = w.no_ends;
        bytes = joined w.lines ++ [];
        are_lines = inl (append-nil (joined w.lines));
        consumed = Consumes-trans before mid after (joined w.lines) [] w.consumed f;
        handed = w.handed;
      }

  -- no line is left
  pub none_left : (q : F) (mid after : Option (List ℕ)) (kept : List ℕ) (end : Option End) → Whole q mid → Cut m mid after kept end
      → end ≡ None → CarriedOutCut m g p q before after
  none_left q mid after kept end w k e = all_whole q mid after w (rw (e, k.none e) at k.consumed)
