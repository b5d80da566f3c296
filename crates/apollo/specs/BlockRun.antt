-- Document 01, "Hand in a branch": a run of blocks, each the child of the one before, and 7, 8 and 9 of its frames, lowest first.
use Rattle.std.specs.Prelude.{ℕ, ◌+◌, List, [], ◌∷◌, Bool, true, ◌&&◌, cond, length, eqb, ltb}
use Rattle.std.proofs.Math.Option.{Option, none, some}
use Rattle.sha256.specs.Fips.{sha256}
use Rattle.apollo.specs.Size.{frame_size}
use Rattle.apollo.specs.declared.Setup.{Setup}
use Rattle.apollo.specs.Frame.{round, block_form, linked, checked}
use Rattle.apollo.specs.Judging.{Verdict, verdict, no_refusal, fault}
use Rattle.apollo.specs.Refusal.{not_child}

-- the last of x and the frames after it
unfoldable pub last_of : (x : List ℕ) (xs : List (List ℕ)) → List ℕ
last_of x [] = x
last_of x (y ∷ ys) = last_of y ys

-- frame y is the child of frame x
unfoldable pub child_of : (x y : List ℕ) → Bool
child_of x y = linked x y && ltb (round x) (round y)

-- frame y may come behind p: as the child of that frame, or with any parent where p is none
abbrev pub follows : (p : Option (List ℕ)) (y : List ℕ) → Bool
follows none y = true
follows (some x) y = child_of x y

-- a whole frame that passes 7 and 8
unfoldable pub block : Setup → List ℕ → Bool
block s x = eqb (length x) frame_size && (checked sha256 x && block_form s x)

-- whole frames that pass 7, 8 and 9 behind p
unfoldable pub blocks : Setup → (p : Option (List ℕ)) → List (List ℕ) → Bool
blocks s p [] = true
blocks s p (x ∷ xs) = block s x && (follows p x && blocks s (some x) xs)

module _ (hash : List ℕ → List ℕ) where
  -- 7 and 8 of one frame
  abbrev pub faulty : Setup → List ℕ → ℕ
  faulty s = fault hash (block_form s)

  -- 7, 8 and 9 of frame x behind p, 0 if there is none
  unfoldable pub judged_next : Setup → (p : Option (List ℕ)) (x : List ℕ) → ℕ
  judged_next s p x = cond (eqb (faulty s x) 0) (cond (follows p x) 0 not_child) (faulty s x)

  -- the same of frames, the first of which has index k. A branch may have any parent; a run behind the genesis begins a chain
  unfoldable pub judged_run : Setup → (k : ℕ) (p : Option (List ℕ)) → List (List ℕ) → Verdict
  judged_run s k p [] = no_refusal
  judged_run s k p (x ∷ xs) =
      cond (eqb (judged_next s p x) 0) (judged_run s (k + 1) (some x) xs) (verdict (judged_next s p x) k)
