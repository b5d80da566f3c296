-- Laws of the padded message of 480 bytes, and of the digests of the lanes. Assumes nothing.
use Rattle.std.proofs.Common.{◌≡◌, ℕ, ◌+◌, ◌-◌, ◌*◌, ◌%◌, ◌^◌, ◌<◌, List, [], ◌∷◌, ◌++◌, length, get_or, map, take, drop, set, arith, ap, ap₂, ◌∙◌, sym, length-drop}
use lib.ListN.{replicate}
use lib.Seq.{take_all, take-append-add, drop-append-le}
use native.Mathlib.Nat.{suc-add, zero-add}
use Rattle.std.specs.Borrow.{Bor}
use Rattle.compression.specs.declared.State.{State}
use Rattle.compression.specs.declared.Lanes.{Lanes}
use Rattle.compression.specs.Lanes.{state_at, Compressed}
use Rattle.compression.proofs.Blocks.{hash_more}
use Rattle.sha256.specs.Fips.{zeros, bytes8, padded, block, H0, compress, hash, bytes_of, sha256}
use Rattle.sha256.proofs.Padding.{block_front}
use Rattle.sha256.proofs.Hash.{digest_end}

-- a store behind the seam
set_behind : (xs ys : List ℕ) (i a : ℕ) → set (xs ++ ys) (length xs + i) a ≡ xs ++ set ys i a
set_behind [] ys i a = rw zero-add
set_behind (x ∷ xs) ys i a = rw suc-add (ap (λ (r : List ℕ). x ∷ r) (set_behind xs ys i a))

-- the mark, the zeros and the length behind a message of 480 bytes
abbrev tail : ℕ → List ℕ
tail n = 0x80 ∷ (replicate (zeros n) 0 ++ bytes8 (8 * n % 2 ^ 64))

-- the mark and the length are written behind the message's last 32 bytes
pub last_end : (s xs : List ℕ) → length s ≡ 480 → xs ≡ take (length s - 448) (drop 448 s) → set (set (xs ++ replicate 32 0) 32 0x80) 62 15 ≡ block (padded s) 7
unfolding padded
last_end s xs l e =
    let n : length (drop 448 s) ≡ 32 = length-drop 448 s ∙ rw l in
    let w : xs ≡ drop 448 s = e ∙ rw l (take_all 32 (drop 448 s) (omega arith)) in
    let q : length xs ≡ 32 = rw w n in
    let at : (ys : List ℕ) (i a : ℕ) → set (xs ++ ys) (32 + i) a ≡ xs ++ set ys i a = λ ys i a. rw q at (set_behind xs ys i a) in
    let r : take 64 (xs ++ tail 480) ≡ xs ++ take 32 (tail 480) = rw q at (take-append-add xs (tail 480) 32) in
    ap (λ (x : List ℕ). set x 62 15) (at (replicate 32 0) 0 0x80) ∙ at (set (replicate 32 0) 0 0x80) 30 15
    ∙ sym (ap (take 64) (drop-append-le 448 s (tail (length s)) (omega arith)) ∙ ap₂ (λ (ys : List ℕ) (k : ℕ). take 64 (ys ++ tail k)) (sym w) l ∙ r)

-- a message of the length of digest4's
abbrev pub Long : Bor (List ℕ) → Type 0
Long x = length x.now ≡ 480

-- message k of m, as the code reads it
abbrev pub message : List (Bor (List ℕ)) → ℕ → List ℕ
message m k = (get_or m k (record { ref_ptr = (0, 0); now = [] })).now

-- the hash values of the lanes after i blocks of the padded messages
pub record Hashed (m : List (Bor (List ℕ))) (i : ℕ) (h : Lanes 4) : Type 0 where
  pub at : (k : ℕ) → k < 4 → state_at h k ≡ hash H0 (padded (message m k)) i

pub hashed_start : (m : List (Bor (List ℕ))) (h : Lanes 4) (s : State) → s ≡ H0 → ((k : ℕ) → k < 4 → state_at h k ≡ s) → Hashed m 0 h
unfolding hash
hashed_start m h s i e = record { at = λ k q. e k q ∙ i }

pub hashed_step : {m : List (Bor (List ℕ))} {f : ℕ → List ℕ} {h h' : Lanes 4} (i : ℕ) → Hashed m i h
    → ((k : ℕ) → k < 4 → f k ≡ block (padded (message m k)) i) → Compressed f h h' → Hashed m (i + 1) h'
hashed_step i o e c = record { at = λ k q. rw hash_more (c.at k q ∙ ap₂ compress (o.at k q) (e k q)) }

-- a block that lies whole in a message of 480 bytes
pub block_in : (s r : List ℕ) (i : ℕ) → length s ≡ 480 → i < 7 → r ≡ block s i → r ≡ block (padded s) i
block_in s r i l h e = e ∙ block_front s i (omega arith)

pub lane_digest : (s d : List ℕ) (h g : State) → length s ≡ 480 → g ≡ hash H0 (padded s) 8 → h ≡ g → d ≡ bytes_of h → d ≡ sha256 s
lane_digest s d h g l e q r = digest_end s d h 8 8 (rw l) (omega arith) (omega arith) (q ∙ e) r

-- the digests of four messages
pub four_digests : (m : List (Bor (List ℕ))) (d0 d1 d2 d3 : List ℕ) → length m ≡ 4 → d0 ≡ sha256 (message m 0) → d1 ≡ sha256 (message m 1)
    → d2 ≡ sha256 (message m 2) → d3 ≡ sha256 (message m 3)
    → d0 ∷ d1 ∷ d2 ∷ d3 ∷ [] ≡ map (λ (x : Bor (List ℕ)). sha256 x.now) m
four_digests (a ∷ b ∷ c ∷ d ∷ []) d0 d1 d2 d3 l p q r s = rw (p, q, r, s)
four_digests [] d0 d1 d2 d3 l p q r s = absurd (omega arith)
four_digests (a ∷ []) d0 d1 d2 d3 l p q r s = absurd (omega arith)
four_digests (a ∷ b ∷ []) d0 d1 d2 d3 l p q r s = absurd (omega arith)
four_digests (a ∷ b ∷ c ∷ []) d0 d1 d2 d3 l p q r s = absurd (omega arith)
four_digests (a ∷ b ∷ c ∷ d ∷ e ∷ m) d0 d1 d2 d3 l p q r s = absurd (omega arith)
