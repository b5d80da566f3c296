-- Document 02, F-6, "Doubles": two blocks that one leader signed for one round. Lent are the record and the two frames alone.
use Rattle.std.specs.Prelude.{ℕ, List, [], ◌∷◌, Bool, ◌&&◌, not, cond, length, eqb}
use Rattle.apollo.specs.Size.{frame_size, pair_size}
use Rattle.apollo.specs.declared.Replica.{Replica}
use Rattle.apollo.specs.declared.Marked.{Marked}
use Rattle.apollo.specs.Bytes.{part, same}
use Rattle.apollo.specs.Setup.{setup_of, leader}
use Rattle.apollo.specs.Frame.{round, digest, first_frame, block_form}
use Rattle.apollo.specs.Replica.{with_mark, valid_record}
use Rattle.apollo.specs.Judging.{Verdict, judged_each}
use Rattle.apollo.specs.Refusal.{bad_replica, bad_length, not_equivocation}

-- the answer from its parts
abbrev pub marked : (number place : ℕ) → Replica → Marked
marked number place r = record { number = number; place = place; replica = r }

-- "two frames"
abbrev pub is_pair : (bytes : List ℕ) → Bool
is_pair bytes = eqb (length bytes) pair_size

-- the second of them
abbrev pub second : (bytes : List ℕ) → List ℕ
second bytes = part bytes frame_size frame_size

-- "their rounds are equal and their names differ"
unfoldable pub conflicting : (x y : List ℕ) → Bool
conflicting x y = eqb (round x) (round y) && not (same (digest x) (digest y))

module _ (hash : List ℕ → List ℕ) where
  -- 7 and 8 of x, then of y; 18; and taken: the round's leader is marked
  unfoldable pub accusing : Replica → (x y : List ℕ) → Marked
  accusing r x y =
      let judged : Verdict = judged_each hash (block_form (setup_of r)) 0 (x ∷ y ∷ []) in
      cond (eqb judged.number 0)
      (cond (conflicting x y) (marked 0 0 (with_mark r (leader (setup_of r) (round x)))) (marked not_equivocation 0 r))
      (marked judged.number judged.place r)

  -- 2, 6, and what follows them
  unfoldable pub equivocation_with : Replica → (bytes : List ℕ) → Marked
  equivocation_with r bytes =
      cond (not (valid_record r)) (marked bad_replica 0 r)
      (cond (is_pair bytes) (accusing r (first_frame bytes) (second bytes)) (marked bad_length 0 r))
