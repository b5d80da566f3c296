-- Laws of what the words of a line take of the input. Assumes nothing.
use Rattle.std.proofs.Common.{◌≡◌, ◌≢◌, ℕ, List, [], ◌∷◌, ◌++◌, Option, None, Some, append-nil, arith}
use Rattle.std.proofs.KnownBytes.{Consumes-nil, Consumes-trans}
use Rattle.std.proofs.lemmas.List.Elements.{All-push, All-nil}
use Rattle.std.specs.Prelude.{IfSome}
use Rattle.std.specs.Io.KnownBytes.{Consumes}
use Rattle.text.specs.Reading.{ending}
use Rattle.text.specs.declared.stdin.End.{End}
use Rattle.mixed_lines.specs.Taken.{taken_by, OfLine}

pub nothing_read : (a : Option (List ℕ)) → OfLine a a None
nothing_read a = record { bytes = []; no_end = All-nil (λ b. b ≢ 10); consumed = Consumes-nil a }

-- one byte more, which is no newline
one_more : (a b c : Option (List ℕ)) (x : ℕ) → x ≢ 10 → OfLine a b None → Consumes b c (x ∷ []) → OfLine a c None
one_more a b c x n h f =
    record {
      bytes = h.bytes ++ (x ∷ []);
      no_end = All-push (λ b. b ≢ 10) h.bytes x h.no_end n;
      consumed =
          rw (append-nil (h.bytes ++ (x ∷ []))) (Consumes-trans a b c h.bytes (x ∷ []) (rw (append-nil h.bytes) at h.consumed) f);
    }

-- a byte was asked for
pub one_asked : (a b c : Option (List ℕ)) (e : Option End) (r : Option ℕ) → IfSome r (λ x. (x ≢ 10) × (x ≢ 32)) → OfLine a b None
    → Consumes b c (taken_by e r) → OfLine a c e
one_asked a b c (Some e) r n h f =
    record {
      bytes = h.bytes;
      no_end = h.no_end;
      consumed = Consumes-trans a b c h.bytes (ending (Some e)) (rw (append-nil h.bytes) at h.consumed) f;
    }
one_asked a b c None (Some x) n h f = one_more a b c x n.0 h f
one_asked a b c None None n h f = one_more a b c 32 (omega arith) h f

-- what ended the line is told, or that there was none
pub end_told : (a b : Option (List ℕ)) (e r : Option End) → ending r ≡ ending e → OfLine a b e → IfSome r (λ x. OfLine a b (Some x))
end_told a b e None s h = tt
end_told a b e (Some x) s h = record { bytes = h.bytes; no_end = h.no_end; consumed = rw s h.consumed }
