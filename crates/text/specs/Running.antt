-- The lines of an input, carried out one by one.
use Rattle.std.specs.Prelude.{◌≡◌, ◌≢◌, ◌⊎◌, All, ℕ, List, [], ◌∷◌, ◌++◌, take, Option, None, Some, Result, Err, IsOk, ⊤}
use Rattle.std.specs.Fn.{Mut, CalledAt}
use Rattle.std.specs.List.{FoldsTo}
use Rattle.std.specs.Io.KnownBytes.{Consumes}
use Rattle.text.specs.declared.stdout.Stop.{Stop}
use denote.Ref.{Bor}

-- lines, each with the byte that ends it
unfoldable pub joined : List (List ℕ) → List ℕ
joined [] = []
joined (l ∷ ls) = l ++ (10 ∷ []) ++ joined ls

-- a line was no command, or it was carried out
abbrev pub WasDone : Option (Result ⊤ Stop) → Type 0
WasDone None = ⊤
WasDone (Some done) = IsOk done

-- a line was handed to the closure, which went on from p to q
pub record Handed {F : Type 0} (g : Mut F (Bor (List ℕ) × Unit {0}) (Option (Result ⊤ Stop))) (p : F) (line : List ℕ) (q : F) : Type 0 where
  pub done : Option (Result ⊤ Stop)
  pub called : CalledAt g p line done q
  pub was_done : WasDone done

-- the closure answered a line with e
pub record StoppedWith {F : Type 0} (g : Mut F (Bor (List ℕ) × Unit {0}) (Option (Result ⊤ Stop))) (e : Stop) : Type 0 where
  pub line : List ℕ
  pub from : F
  pub to : F
  pub called : CalledAt g from line (Some (Err e)) to

-- the bytes between an input before and after were its lines, the last of them maybe without its end, and each was handed on in its turn
pub record CarriedOut {F : Type 0} (g : Mut F (Bor (List ℕ) × Unit {0}) (Option (Result ⊤ Stop))) (p q : F)
    (before after : Option (List ℕ)) : Type 0 where
  pub lines : List (List ℕ)
  pub bytes : List ℕ
  pub no_ends : All (All (λ b. b ≢ 10)) lines
  pub are_lines : (bytes ≡ joined lines) ⊎ (bytes ++ (10 ∷ []) ≡ joined lines)
  pub consumed : Consumes before after bytes
  pub handed : FoldsTo (Handed g) p lines q

-- the same, and each line was cut to its first m bytes as it was handed on
pub record CarriedOutCut (m : ℕ) {F : Type 0} (g : Mut F (Bor (List ℕ) × Unit {0}) (Option (Result ⊤ Stop))) (p q : F)
    (before after : Option (List ℕ)) : Type 0 where
  pub lines : List (List ℕ)
  pub bytes : List ℕ
  pub no_ends : All (All (λ b. b ≢ 10)) lines
  pub are_lines : (bytes ≡ joined lines) ⊎ (bytes ++ (10 ∷ []) ≡ joined lines)
  pub consumed : Consumes before after bytes
  pub handed : FoldsTo (λ x line y. Handed g x (take m line) y) p lines q
