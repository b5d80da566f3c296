-- The frames that a replica makes: their fields, form, check and length. Assumes nothing.
use Prim.Native.Nat.{ℕ, ◌+◌, ◌-◌, ◌≤◌, ◌<◌}
use mathlib.Core.Path.{◌≡◌, refl, sym, ap, ◌∙◌}
use mathlib.Core.List.{List, ◌∷◌, ◌++◌, append_assoc}
use mathlib.Core.Bool.{true}
use native.Mathlib.Omega.{arith}
use lib.ListN.{length, take, drop, length-append}
use lib.Seq.{drop_at, take_at, take_all}
use lib.Dec.{eqb, leb, ltb}
use borrow.Author.Tests.{lt-ltb, le-leb, eq-eqb}
use Rattle.sha256.specs.Fips.{sha256}
use Rattle.sha256.proofs.Hash.{digest_length}
use Rattle.apollo.specs.Size.{check_at, frame_size}
use Rattle.apollo.specs.Bytes.{part, number2, number4, bytes2, bytes4, zeros, same, within, blank}
use Rattle.apollo.specs.declared.Setup.{Setup}
use Rattle.apollo.specs.Setup.{replicas, leader}
use Rattle.apollo.specs.Frame.{kind, signer, entry_length, round, height, parent, block_form, blame_form, block_head, blame_head, checked, sealed, make_block, make_blame}
use Rattle.apollo.specs.BlockRun.{block}
use Rattle.apollo.proofs.Tests.{both, same_of, within_of}
use Rattle.apollo.proofs.Slots.{length_zeros}

sealed_checked : (x : List ℕ) → length x ≡ check_at → checked sha256 (sealed sha256 x) ≡ true
unfolding checked sealed
sealed_checked x l =
    let d : drop check_at (x ++ sha256 x) ≡ sha256 x = drop_at x (sha256 x) check_at l in
    let t : take check_at (x ++ sha256 x) ≡ x = take_at x (sha256 x) check_at l in
    let a : take 32 (sha256 x) ≡ sha256 x = take_all 32 (sha256 x) (omega (arith, digest_length x)) in
    same_of (ap (take 32) d ∙ a ∙ ap sha256 (sym t))

pub sealed_length : (x : List ℕ) → length x ≡ check_at → length (sealed sha256 x) ≡ frame_size
unfolding sealed
sealed_length x l = length-append x (sha256 x) ∙ omega (arith, digest_length x)

pub blame_head_length : (i r : ℕ) → length (blame_head i r) ≡ check_at
unfolding blame_head
blame_head_length i r = simp length_zeros refl

pub blame_length : (i r : ℕ) → length (make_blame sha256 i r) ≡ frame_size
unfolding make_blame
blame_length i r = sealed_length (blame_head i r) (blame_head_length i r)

pub blame_checked : (i r : ℕ) → checked sha256 (make_blame sha256 i r) ≡ true
unfolding make_blame
blame_checked i r = sealed_checked (blame_head i r) (blame_head_length i r)

pub blame_round : (i r : ℕ) (rest : List ℕ) → r < 65536 → round (make_blame sha256 i r ++ rest) ≡ r
unfolding number4 make_blame sealed blame_head
blame_round i r rest l = omega arith

pub blame_round_alone : (i r : ℕ) → r < 65536 → round (make_blame sha256 i r) ≡ r
unfolding number4 make_blame sealed blame_head
blame_round_alone i r l = omega arith

pub blame_kind : (i r : ℕ) → kind (make_blame sha256 i r) ≡ 2
unfolding make_blame sealed blame_head
blame_kind i r = refl

pub blame_signer : (i r : ℕ) → signer (make_blame sha256 i r) ≡ i
unfolding make_blame sealed blame_head
blame_signer i r = refl

blame_blank_length : (i r : ℕ) → blank (make_blame sha256 i r) 2 4 ≡ true
unfolding make_blame sealed blame_head same zeros
blame_blank_length i r = refl

blame_blank : (i r : ℕ) → blank (make_blame sha256 i r) 8 check_at ≡ true
unfolding make_blame sealed blame_head
blame_blank i r = same_of (take_at (zeros 472) _ 472 (length_zeros 472))

pub blame_form_lem : (s : Setup) (i r : ℕ) → i < replicas s → 1 ≤ r → r ≤ s.last_round.0 → r < 65536
    → blame_form s (make_blame sha256 i r) ≡ true
unfolding blame_form
blame_form_lem s i r below one last small =
    let x : List ℕ = make_blame sha256 i r in
    let e : round x ≡ r = blame_round_alone i r small in
    both _ (blank x 8 check_at)
    (both _ (within 1 (round x) s.last_round.0)
    (both _ (blank x 2 4)
    (both (eqb (kind x) 2) (ltb (signer x) (replicas s)) (eq-eqb (kind x) 2 (blame_kind i r))
    (lt-ltb (signer x) (replicas s) (omega (arith, blame_signer i r))))
    (blame_blank_length i r))
    (within_of 1 (round x) s.last_round.0 (omega arith) (omega arith)))
    (blame_blank i r)

module _ (i r h : ℕ) (up entry : List ℕ) (wide : length up ≡ 32) (fits : length entry ≤ 400) where
  pub block_head_length : length (block_head i r h up entry) ≡ check_at
  unfolding block_head
  block_head_length = simp (length-append, length_zeros, wide) (omega arith)

  pub block_length : length (make_block sha256 i r h up entry) ≡ frame_size
  unfolding make_block
  block_length = sealed_length (block_head i r h up entry) block_head_length

  block_checked : checked sha256 (make_block sha256 i r h up entry) ≡ true
  unfolding make_block
  block_checked = sealed_checked (block_head i r h up entry) block_head_length

  block_entry : entry_length (make_block sha256 i r h up entry) ≡ length entry
  unfolding number2 make_block sealed block_head
  block_entry = omega arith

  pub block_round : r < 65536 → round (make_block sha256 i r h up entry) ≡ r
  unfolding number4 make_block sealed block_head
  block_round l = omega arith

  pub block_height : h < 65536 → height (make_block sha256 i r h up entry) ≡ h
  unfolding number4 make_block sealed block_head
  block_height l = omega arith

  -- the part up to the entry, and the zeros after it
  block_split : (n : ℕ) → n ≡ length entry
      → part (make_block sha256 i r h up entry) (44 + n) (check_at - (44 + n)) ≡ zeros (check_at - (44 + n))
  unfolding make_block sealed block_head
  block_split n e =
      let front : List ℕ = 1 ∷ i ∷ (bytes2 (length entry) ++ (bytes4 r ++ (bytes4 h ++ (up ++ entry)))) in
      let size : length front ≡ 44 + n = simp (length-append, wide) (omega arith) in
      let k : 436 - length entry ≡ check_at - (44 + n) = omega arith in
      let digest : List ℕ = sha256 (block_head i r h up entry) in
      let whole : block_head i r h up entry ++ digest ≡ front ++ (zeros (check_at - (44 + n)) ++ digest) =
      simp (append_assoc, k) refl in
      ap (λ (y : List ℕ). take (check_at - (44 + n)) (drop (44 + n) y)) whole
      ∙ ap (take (check_at - (44 + n))) (drop_at front _ (44 + n) size)
      ∙ take_at (zeros (check_at - (44 + n))) digest (check_at - (44 + n)) (length_zeros (check_at - (44 + n)))

  pub block_kind : kind (make_block sha256 i r h up entry) ≡ 1
  unfolding make_block sealed block_head
  block_kind = refl

  pub block_signer : signer (make_block sha256 i r h up entry) ≡ i
  unfolding make_block sealed block_head
  block_signer = refl

  pub block_parent : parent (make_block sha256 i r h up entry) ≡ up
  unfolding make_block sealed block_head
  block_parent =
      ap (take 32) (append_assoc up (entry ++ zeros (436 - length entry)) (sha256 (block_head i r h up entry)))
      ∙ take_at up _ 32 wide

  pub block_made : (s : Setup) → i ≡ leader s r → 1 ≤ r → r ≤ s.last_round.0 → r < 65536 → 1 ≤ h → h ≤ r
      → block s (make_block sha256 i r h up entry) ≡ true
  unfolding block block_form
  block_made s led one last small low high =
      let x : List ℕ = make_block sha256 i r h up entry in
      let e : round x ≡ r = block_round small in
      let g : height x ≡ h = block_height (omega arith) in
      let n : entry_length x ≡ length entry = block_entry in
      both (eqb (length x) frame_size) _ (eq-eqb (length x) frame_size block_length)
      (both (checked sha256 x) _ block_checked
      (both _ (blank x (44 + entry_length x) check_at)
      (both _ (within 1 (height x) (round x))
      (both _ (within 1 (round x) s.last_round.0)
      (both _ (leb (entry_length x) 400)
      (both (eqb (kind x) 1) (eqb (signer x) (leader s (round x))) (eq-eqb (kind x) 1 block_kind)
      (eq-eqb (signer x) (leader s (round x)) (block_signer ∙ led ∙ ap (leader s) (sym e))))
      (le-leb (entry_length x) 400 (omega arith)))
      (within_of 1 (round x) s.last_round.0 (omega arith) (omega arith)))
      (within_of 1 (height x) (round x) (omega arith) (omega arith)))
      (same_of (block_split (entry_length x) n))))
