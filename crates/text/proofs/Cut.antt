-- Laws of a line that is cut. Assumes nothing.
use Rattle.std.proofs.Common.{◌≡◌, ◌≢◌, All, refl, sym, ap, ◌∙◌, arith, ℕ, ◌+◌, ◌<◌, List, [], ◌∷◌, ◌++◌, length, take, Option, None, Some}
use Rattle.std.specs.Io.KnownBytes.{Consumes}
use Rattle.std.proofs.KnownBytes.{Consumes-nil, Consumes-trans}
use Rattle.std.proofs.lemmas.List.Elements.{All-push, All-nil, All-take}
use Rattle.std.proofs.lemmas.List.{length-append, length-take, take_all}
use Rattle.text.specs.declared.stdin.End.{End}
use Rattle.text.specs.declared.stdin.End.TheVariants.{Input}
use Rattle.text.specs.Reading.{Cut, ending}
use Rattle.text.specs.Fitted.{put}
use Rattle.text.proofs.Fitted.{put_kept}

-- n bytes of a line were read, and its first m bytes are kept
pub record Begun (m : ℕ) (before after : Option (List ℕ)) (kept : List ℕ) (n : ℕ) : Type 0 where
  pub line : List ℕ
  pub one : All (λ b. b ≢ 10) line
  pub first : kept ≡ take m line
  pub consumed : Consumes before after line
  pub count : length line ≡ n

pub none_yet : (m : ℕ) (before : Option (List ℕ)) → Begun m before before [] 0
none_yet m before =
    record { line = []; one = All-nil (λ b. b ≢ 10); first = sym (take_all m [] (omega arith)); consumed = Consumes-nil before; count = refl }

pub one_more : (m : ℕ) (before mid after : Option (List ℕ)) (kept more : List ℕ) (n b : ℕ) → Begun m before mid kept n → b ≢ 10
    → Consumes mid after (b ∷ []) → more ≡ put m kept (b ∷ []) → Begun m before after more (n + 1)
one_more m before mid after kept more n b w h f e =
    record {
      line = w.line ++ (b ∷ []);
      one = All-push (λ b. b ≢ 10) w.line b w.one h;
      first = e ∙ ap (λ k. put m k (b ∷ [])) w.first ∙ put_kept m w.line b;
      consumed = Consumes-trans before mid after w.line (b ∷ []) w.consumed f;
      count = length-append w.line (b ∷ []) ∙ ap (λ k. k + 1) w.count;
    }

no_bytes : (l : List ℕ) → length l ≡ 0 → l ≡ []
no_bytes [] e = refl
no_bytes (x ∷ l) e = absurd (omega (arith, e))

some_bytes : (l : List ℕ) → 0 < length l → l ≢ []
some_bytes [] h = absurd (omega (arith, h))
some_bytes (x ∷ l) h = λ e. cc

-- the line is whole
pub whole : (m : ℕ) (before mid after : Option (List ℕ)) (kept : List ℕ) (n : ℕ) (end : Option End) → Begun m before mid kept n
    → Consumes mid after (ending end) → (end ≡ None → n ≡ 0) → (end ≡ Some Input → 0 < n) → Cut m before after kept end
whole m before mid after kept n end w f none last =
    record {
      line = w.line;
      one = w.one;
      first = w.first;
      consumed = Consumes-trans before mid after w.line (ending end) w.consumed f;
      none = λ e. no_bytes w.line (w.count ∙ none e);
      last = λ e. some_bytes w.line (rw w.count (last e));
    }

first_byte : (m : ℕ) (l : List ℕ) → l ≢ [] → 0 < m → 0 < length (take m l)
first_byte m [] f h = absurd (f refl)
first_byte m (x ∷ l) f h = omega (arith, h, length-take m (x ∷ l))

module _ (m : ℕ) (before after : Option (List ℕ)) (kept : List ℕ) (end : Option End) (w : Cut m before after kept end) where
  pub kept_one : All (λ b. b ≢ 10) kept
  kept_one = rw w.first (All-take (λ b. b ≢ 10) m w.line w.one)

  pub kept_none : end ≡ None → kept ≡ []
  kept_none e = w.first ∙ ap (λ l. take m l) (w.none e) ∙ take_all m [] (omega arith)

  pub kept_last : end ≡ Some Input → 0 < m → kept ≢ []
  kept_last e h = rw w.first (some_bytes (take m w.line) (first_byte m w.line (w.last e) h))
