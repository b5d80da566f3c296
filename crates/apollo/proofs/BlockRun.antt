-- A run of blocks: its parts, that it is refused nothing and is read back from its bytes, and what a judgement shows. Assumes nothing.
use Prim.Native.Nat.{ℕ, ◌+◌, ◌*◌, ◌<◌}
use mathlib.Core.Path.{◌≡◌, refl, ap, ◌∙◌}
use mathlib.Core.List.{List, [], ◌∷◌, ◌++◌, flatten}
use mathlib.Core.Option.{Option, none, some}
use mathlib.Core.Bool.{true, ◌&&◌, not}
use native.Mathlib.Omega.{arith}
use lib.ListN.{length, take, drop, length-append}
use lib.Seq.{drop_at, take_at}
use lib.Dec.{eqb, ltb}
use borrow.Author.Tests.{ltb-true, eqb-true, eqb-false, eq-eqb}
use Rattle.sha256.specs.Fips.{sha256}
use Rattle.apollo.specs.Size.{frame_size}
use Rattle.apollo.specs.declared.Setup.{Setup}
use Rattle.apollo.specs.Frame.{round, frames, block_form, linked, checked}
use Rattle.apollo.specs.Judging.{Verdict, no_refusal, fault}
use Rattle.apollo.specs.BlockRun.{child_of, follows, block, blocks, faulty, judged_next, judged_run}
use Rattle.apollo.proofs.Tests.{and-true, both, by_cond, cond_false}
use Rattle.apollo.proofs.Frames.{Whole}
use Rattle.apollo.proofs.Fault.{fault_none, fault_number}

-- a block frame is whole, and passes 7 and 8
pub block_of : (s : Setup) (x : List ℕ) → length x ≡ frame_size → checked sha256 x ≡ true → block_form s x ≡ true → block s x ≡ true
unfolding block
block_of s x l c f =
    both (eqb (length x) frame_size) _ (eq-eqb (length x) frame_size l) (both (checked sha256 x) (block_form s x) c f)

pub block_parts : (s : Setup) (x : List ℕ) → block s x ≡ true → (checked sha256 x ≡ true) × (block_form s x ≡ true)
unfolding block
block_parts s x e = and-true (checked sha256 x) (block_form s x) (and-true (eqb (length x) frame_size) (checked sha256 x && block_form s x) e).1

pub block_length : (s : Setup) (x : List ℕ) → block s x ≡ true → length x ≡ frame_size
unfolding block
block_length s x e = eqb-true (length x) frame_size (and-true (eqb (length x) frame_size) (checked sha256 x && block_form s x) e).0

faultless : (s : Setup) (x : List ℕ) → block s x ≡ true → faulty sha256 s x ≡ 0
unfolding fault
faultless s x e =
    let q = block_parts s x e in
    cond_false _ _ (ap not q.0) ∙ cond_false _ _ (ap not q.1)

-- a child: its link, and its round
pub child_parts : (p x : List ℕ) → child_of p x ≡ true → (linked p x ≡ true) × (round p < round x)
unfolding child_of
child_parts p x e =
    let q = and-true (linked p x) (ltb (round p) (round x)) e in
    (q.0, ltb-true (round p) (round x) q.1)

-- the first of a run, and the others behind it
pub blocks_parts : (s : Setup) (p : Option (List ℕ)) (x : List ℕ) (xs : List (List ℕ)) → blocks s p (x ∷ xs) ≡ true
    → (block s x ≡ true) × (follows p x ≡ true) × (blocks s (some x) xs ≡ true)
unfolding blocks
blocks_parts s p x xs e =
    let q = and-true (block s x) (follows p x && blocks s (some x) xs) e in
    let r = and-true (follows p x) (blocks s (some x) xs) q.1 in
    (q.0, r.0, r.1)

pub blocks_of : (s : Setup) (p : Option (List ℕ)) (x : List ℕ) (xs : List (List ℕ)) → block s x ≡ true → follows p x ≡ true
    → blocks s (some x) xs ≡ true → blocks s p (x ∷ xs) ≡ true
unfolding blocks
blocks_of s p x xs b f r = both (block s x) _ b (both (follows p x) (blocks s (some x) xs) f r)

pub blocks_none : (s : Setup) (p : Option (List ℕ)) → blocks s p [] ≡ true
unfolding blocks
blocks_none s p = refl

-- one block, with any parent
pub blocks_one : (s : Setup) (x : List ℕ) → block s x ≡ true → blocks s none (x ∷ []) ≡ true
blocks_one s x b = blocks_of s none x [] b refl (blocks_none s (some x))

-- a run behind some frame is one behind any
pub blocks_any : (s : Setup) (p : Option (List ℕ)) (xs : List (List ℕ)) → blocks s p xs ≡ true → blocks s none xs ≡ true
blocks_any s p [] e = blocks_none s none
blocks_any s p (x ∷ xs) e =
    let q = blocks_parts s p x xs e in
    blocks_of s none x xs q.0 refl q.2

-- the first frames of a run
pub blocks_front : (s : Setup) (p : Option (List ℕ)) (xs zs : List (List ℕ)) → blocks s p (xs ++ zs) ≡ true → blocks s p xs ≡ true
blocks_front s p [] zs e = blocks_none s p
blocks_front s p (x ∷ xs) zs e =
    let q = blocks_parts s p x (xs ++ zs) e in
    blocks_of s p x xs q.0 q.1 (blocks_front s (some x) xs zs q.2)

pub blocks_whole : (s : Setup) (p : Option (List ℕ)) (xs : List (List ℕ)) → blocks s p xs ≡ true → Whole xs
blocks_whole s p [] e = tt
blocks_whole s p (x ∷ xs) e =
    let q = blocks_parts s p x xs e in
    (block_length s x q.0, blocks_whole s (some x) xs q.2)

-- a good run is refused nothing
pub judged_blocks : (s : Setup) (k : ℕ) (p : Option (List ℕ)) (xs : List (List ℕ)) → blocks s p xs ≡ true
    → judged_run sha256 s k p xs ≡ no_refusal
unfolding judged_run judged_next
judged_blocks s k p [] e = refl
judged_blocks s k p (x ∷ xs) e =
    let q = blocks_parts s p x xs e in
    let f : eqb (faulty sha256 s x) 0 ≡ true = eq-eqb (faulty sha256 s x) 0 (faultless s x q.0) in
    rw (f, q.1) (judged_blocks s (k + 1) (some x) xs q.2)

-- and whole frames that are refused nothing are a good run
next_block : (s : Setup) (p : Option (List ℕ)) (x : List ℕ) → length x ≡ frame_size → judged_next sha256 s p x ≡ 0
    → (block s x ≡ true) × (follows p x ≡ true)
unfolding judged_next
next_block s p x l e =
    by_cond (λ n. n ≡ 0 → Next) (eqb (faulty sha256 s x) 0)
    (λ g. by_cond (λ n. n ≡ 0 → Next) (follows p x)
    (λ f v. let q = fault_none sha256 (block_form s) x (eqb-true _ _ g) in (block_of s x l q.0 q.1, f))
    (λ f v. absurd (omega (arith, v))))
    (λ g v. absurd (eqb-false _ _ g v)) e
  where
    Next : Type 0
    Next = (block s x ≡ true) × (follows p x ≡ true)

pub blocks_judged : (s : Setup) (k : ℕ) (p : Option (List ℕ)) (xs : List (List ℕ)) → (judged_run sha256 s k p xs).number ≡ 0
    → Whole xs → blocks s p xs ≡ true
unfolding judged_run
blocks_judged s k p [] e w = blocks_none s p
blocks_judged s k p (x ∷ xs) e w =
    by_cond (λ (v : Verdict). v.number ≡ 0 → blocks s p (x ∷ xs) ≡ true) (eqb (judged_next sha256 s p x) 0)
    (λ g v. let q = next_block s p x w.0 (eqb-true _ _ g) in
    blocks_of s p x xs q.0 q.1 (blocks_judged s (k + 1) (some x) xs v w.1))
    (λ g v. absurd (eqb-false _ _ g v)) e

-- the frames of a run are answered 0, 7, 8 or 9
pub run_number : (P : ℕ → Type 0) → P 0 → P 7 → P 8 → P 9 → (s : Setup) (k : ℕ) (p : Option (List ℕ)) (xs : List (List ℕ))
    → P (judged_run sha256 s k p xs).number
unfolding judged_run judged_next
run_number P p0 p7 p8 p9 s k p [] = p0
run_number P p0 p7 p8 p9 s k p (x ∷ xs) =
    let ih : P (judged_run sha256 s (k + 1) (some x) xs).number = run_number P p0 p7 p8 p9 s (k + 1) (some x) xs in
    let next : P (judged_next sha256 s p x) =
    by_cond P (eqb (faulty sha256 s x) 0) (λ _. by_cond P (follows p x) (λ _. p0) (λ _. p9))
    (λ _. fault_number P p0 p7 p8 sha256 (block_form s) x) in
    by_cond (λ (v : Verdict). P v.number) (eqb (judged_next sha256 s p x) 0) (λ _. ih) (λ _. next)

-- a run read back from its bytes
pub run_length : (s : Setup) (p : Option (List ℕ)) (xs : List (List ℕ)) → blocks s p xs ≡ true
    → length (flatten xs) ≡ frame_size * length xs
unfolding flatten
run_length s p [] e = refl
run_length s p (x ∷ xs) e =
    let q = blocks_parts s p x xs e in
    let l : length x ≡ frame_size = block_length s x q.0 in
    let h : length (flatten xs) ≡ frame_size * length xs = run_length s (some x) xs q.2 in
    length-append x (flatten xs) ∙ (omega arith)

pub run_frames : (s : Setup) (p : Option (List ℕ)) (xs : List (List ℕ)) → blocks s p xs ≡ true
    → frames (length xs) (flatten xs) ≡ xs
unfolding frames flatten
run_frames s p [] e = refl
run_frames s p (x ∷ xs) e =
    let q = blocks_parts s p x xs e in
    let l : length x ≡ frame_size = block_length s x q.0 in
    let t : take frame_size (x ++ flatten xs) ≡ x = take_at x (flatten xs) frame_size l in
    let d : drop frame_size (x ++ flatten xs) ≡ flatten xs = drop_at x (flatten xs) frame_size l in
    let ih : frames (length xs) (flatten xs) ≡ xs = run_frames s (some x) xs q.2 in
    rw (t, d, ih)
