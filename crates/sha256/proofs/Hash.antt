-- Laws of the hash value over the blocks of a padded message, and of the digest. Assumes nothing.
use mathlib.Core.Path.{◌≡◌, refl, ap, ap₂, ◌∙◌}
use mathlib.Core.List.{List, [], ◌∷◌, ◌++◌}
use Prim.Native.Nat.{ℕ, zero, suc, ◌+◌, ◌*◌, ◌/◌, ◌≤◌, ◌<◌}
use native.Mathlib.Numerals.{add-one}
use native.Mathlib.Omega.{arith}
use lib.ListN.{length, get_or}
use lib.Seq.{take_all}
use Rattle.compression.specs.declared.State.{State}
use Rattle.sha256.specs.Fips.{bytes4, zeros, padded, block, H0, compress, hash, bytes_of, sha256}
use Rattle.sha256.proofs.Padding.{length_padded, block_front}

-- the blocks that lie whole in the message
hash_front : (h : State) (m : List ℕ) (k : ℕ) → 64 * k ≤ length m → hash h m k ≡ hash h (padded m) k
unfolding hash
hash_front h m zero l = refl
hash_front h m (suc k) l = ap₂ compress (hash_front h m k (omega arith)) (block_front m k (omega arith))

pub digest_whole : (m : List ℕ) (v r : State) → v ≡ H0 → r ≡ hash v m (length m / 64) → r ≡ hash H0 (padded m) (length m / 64)
digest_whole m v r i e = e ∙ ap (λ (w : State). hash w m (length m / 64)) i ∙ hash_front H0 m (length m / 64) (omega arith)

-- one padded block more
hash_block : (h : State) (b : List ℕ) → length b ≡ 64 → hash h b (length b / 64) ≡ compress h b
unfolding hash
hash_block h b l = rw l (ap (compress h) (take_all 64 b (omega arith)))

pub digest_step : (m b : List ℕ) (h r : State) (k : ℕ) → length b ≡ 64 → h ≡ hash H0 (padded m) k → b ≡ block (padded m) k
    → r ≡ hash h b (length b / 64) → r ≡ hash H0 (padded m) (k + 1)
unfolding hash
digest_step m b h r k l e g q = rw add-one (q ∙ hash_block h b l ∙ ap₂ compress e g)

pub digest_end : (m r : List ℕ) (h : State) (k n : ℕ) → 64 * n ≡ length m + 9 + zeros (length m) → k ≤ n → n ≤ k
    → h ≡ hash H0 (padded m) k → r ≡ bytes_of h
    → r ≡ sha256 m
unfolding sha256
digest_end m r h k n p l g e q =
    let d : length (padded m) / 64 ≡ k = omega (arith, length_padded m) in
    rw d (q ∙ ap bytes_of e)

-- For all later use: a digest has 32 elements, and each is a byte.
pub digest_length : (m : List ℕ) → length (sha256 m) ≡ 32
unfolding sha256
digest_length m = refl

pub record Bytes (xs : List ℕ) : Type 0 where
  pub small : (i : ℕ) → get_or xs i 0 < 256

both : {xs ys : List ℕ} → Bytes xs → Bytes ys → Bytes (xs ++ ys)
both {xs} {ys} p q = record { small = at xs p.small }
  where
    at : (zs : List ℕ) → ((i : ℕ) → get_or zs i 0 < 256) → (i : ℕ) → get_or (zs ++ ys) i 0 < 256
    at [] f i = q.small i
    at (z ∷ zs) f zero = f 0
    at (z ∷ zs) f (suc i) = at zs (λ j. f (suc j)) i

word_bytes : (x : ℕ) → Bytes (bytes4 x)
word_bytes x = record { small = at }
  where
    at : (i : ℕ) → get_or (bytes4 x) i 0 < 256
    at zero = omega arith
    at (suc zero) = omega arith
    at (suc (suc zero)) = omega arith
    at (suc (suc (suc zero))) = omega arith
    at (suc (suc (suc (suc i)))) = omega arith

state_bytes : (s : State) → Bytes (bytes_of s)
state_bytes s =
    let w : (x : ℕ) → Bytes (bytes4 x) = word_bytes in
    both
    (both (both (both (both (both (both (w s.a) (w s.b)) (w s.c)) (w s.d)) (w s.e)) (w s.f)) (w s.g))
    (w s.h)

pub digest_bytes : (m : List ℕ) → Bytes (sha256 m)
unfolding sha256
digest_bytes m = state_bytes _
