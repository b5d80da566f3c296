-- Laws of the padded message. Assumes nothing.
use mathlib.Core.Path.{◌≡◌, refl, sym, ap, ◌∙◌}
use mathlib.Core.List.{List, [], ◌∷◌, ◌++◌}
use Prim.Native.Nat.{ℕ, zero, suc, ◌+◌, ◌-◌, ◌*◌, ◌/◌, ◌%◌, ◌^◌, ◌≤◌, ◌<◌}
use native.Mathlib.Omega.{arith}
use lib.ListN.{length, get_or, drop, replicate, length-append, length-drop, length-replicate, get_or-replicate, get_or-append, get_or-eq_default}
use lib.Seq.{get_or-append-add, get_or-append_seam, take-append-le, drop-append-le}
use Rattle.std.specs.Int.{w32, w64, to_be_bytes}
use Rattle.std.specs.List.{flat_map}
use Rattle.std.proofs.lemmas.List.{get_or-take, get_or-drop}
use Rattle.std.proofs.lemmas.Grind.{get_or_default_zero}
use Rattle.sha256.specs.Fips.{padded, zeros, bytes4, bytes8, block}

-- `zeros` is the standard's number (5.1.1): it fills up to 56 bytes modulo 64, and no smaller one does
pub zeros_fill : (l : ℕ) → (l + 1 + zeros l) % 64 ≡ 56
zeros_fill l = omega arith

pub zeros_few : (l z : ℕ) → (l + 1 + z) % 64 ≡ 56 → zeros l ≤ z
zeros_few l z h = omega arith

pub length_padded : (m : List ℕ) → length (padded m) ≡ length m + 9 + zeros (length m)
unfolding padded
length_padded m = simp (length-append, length-replicate) (omega arith)

pub padded_front : (m : List ℕ) (i : ℕ) → i < length m → get_or m i 0 ≡ get_or (padded m) i 0
unfolding padded
padded_front m i h = sym (get_or-append m _ 0 i h)

pub padded_mark : (m : List ℕ) (i : ℕ) → i ≡ length m → 0x80 ≡ get_or (padded m) i 0
unfolding padded
padded_mark m i e = rw e (sym (get_or-append_seam m 0x80 _ 0))

-- what stands behind the mark
behind : (m : List ℕ) (q : ℕ)
    → get_or (padded m) (length m + suc q) 0 ≡ get_or (replicate (zeros (length m)) 0 ++ bytes8 (8 * length m % 2 ^ 64)) q 0
unfolding padded
behind m q = get_or-append-add m _ (suc q) 0

pub padded_zero : (m : List ℕ) (i : ℕ) → length m < i → i < length m + 1 + zeros (length m) → 0 ≡ get_or (padded m) i 0
padded_zero m i h g =
    let q : ℕ = i - (length m + 1) in
    let e : i ≡ length m + suc q = omega arith in
    let l : q < zeros (length m) = omega arith in
    rw (e, behind m q)
    (sym
    (get_or-append (replicate (zeros (length m)) 0) _ 0 q (rw length-replicate l)
    ∙ get_or-replicate (zeros (length m)) q 0 0 l))

-- a number in eight bytes, as the library writes it
bytes8_be : (n : ℕ) → bytes8 n ≡ to_be_bytes w64 n
bytes8_be n =
    let e7 : n / 2 ^ 32 / 2 ^ 24 % 256 ≡ n / 2 ^ 56 % 256 = omega arith in
    let e6 : n / 2 ^ 32 / 2 ^ 16 % 256 ≡ n / 2 ^ 48 % 256 = omega arith in
    let e5 : n / 2 ^ 32 / 2 ^ 8 % 256 ≡ n / 2 ^ 40 % 256 = omega arith in
    let e0 : n % 256 ≡ n / 1 % 256 = omega arith in
    rw (e7, e6, e5, e0)

pub padded_length : (m : List ℕ) (i j : ℕ) (r : List ℕ) → r ≡ to_be_bytes w64 (length m * 8 % 2 ^ 64)
    → i ≡ length m + 1 + zeros (length m) + j → j < 8
    → get_or r j 0 ≡ get_or (padded m) i 0
padded_length m i j r q p h =
    let z : List ℕ = replicate (zeros (length m)) 0 in
    let e : i ≡ length m + suc (length z + j) = omega (arith, length-replicate {A = ℕ} (zeros (length m)) 0) in
    let t : length m * 8 ≡ 8 * length m = omega arith in
    let w : r ≡ bytes8 (8 * length m % 2 ^ 64) = q ∙ ap (λ (x : ℕ). to_be_bytes w64 (x % 2 ^ 64)) t ∙ sym (bytes8_be (8 * length m % 2 ^ 64)) in
    rw (e, behind m (length z + j)) (ap (λ (ys : List ℕ). get_or ys j 0) w ∙ sym (get_or-append-add z _ j 0))

pub padded_past : (m : List ℕ) (i : ℕ) → length m + 9 + zeros (length m) ≤ i → 0 ≡ get_or (padded m) i 0
padded_past m i h = sym (get_or-eq_default (padded m) 0 (rw length_padded h))

-- a block that lies whole in the message
pub block_front : (m : List ℕ) (k : ℕ) → 64 * k + 64 ≤ length m → block m k ≡ block (padded m) k
unfolding padded
block_front m k h =
    let l : 64 ≤ length (drop (64 * k) m) = rw length-drop (omega arith) in
    let g : 64 * k ≤ length m = omega arith in
    rw (drop-append-le (64 * k) m _ g) (sym (take-append-le 64 (drop (64 * k) m) _ l))

-- a byte of some words
pub word_byte : (ws : List ℕ) (i d : ℕ) → i < 4 * length ws → get_or (flat_map bytes4 ws) i d ≡ get_or (to_be_bytes w32 (get_or ws (i / 4) 0)) (i % 4) 0
word_byte [] i d h = absurd (omega arith)
word_byte (w ∷ ws) zero d h = omega arith
word_byte (w ∷ ws) (suc zero) d h = refl
word_byte (w ∷ ws) (suc (suc zero)) d h = refl
word_byte (w ∷ ws) (suc (suc (suc zero))) d h = omega arith
word_byte (w ∷ ws) (suc (suc (suc (suc i)))) d h =
    let q : suc (suc (suc (suc i))) / 4 ≡ suc (i / 4) = omega arith in
    let r : suc (suc (suc (suc i))) % 4 ≡ i % 4 = omega arith in
    word_byte ws i d (omega arith) ∙ rw (q, r) refl

-- a byte of a block
pub block_byte : (p : List ℕ) (k i d : ℕ) → 64 * k + 64 ≤ length p → i < 64 → get_or (block p k) i d ≡ get_or p (64 * k + i) 0
block_byte p k i d l h =
    get_or-take 64 (drop (64 * k) p) i d h ∙ get_or-drop (64 * k) p i d ∙ get_or_default_zero p (64 * k + i) d (omega arith)
