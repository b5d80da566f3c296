-- Laws of the hash value over the blocks. Assumes nothing.
use Rattle.std.proofs.Common.{◌≡◌, ℕ, zero, suc, ◌+◌, ◌*◌, ◌<◌, List, [], get_or, take, drop, refl, ap, ap₂, ◌∙◌, add-one, arith}
use Rattle.std.proofs.lemmas.List.{drop-drop}
use Rattle.std.specs.Simd.{first_chunks}
use Rattle.compression.specs.declared.State.{State}
use Rattle.compression.specs.Fips.{block, compress, hash}

-- the blocks one after the other, as the code walks over them
pub chunk_at : (p : List ℕ) (n i : ℕ) → i < n → get_or (first_chunks 64 n p) i [] ≡ block p i
chunk_at p zero i h = absurd (omega arith)
chunk_at p (suc n) zero h = refl
chunk_at p (suc n) (suc i) h =
    let e : 64 + 64 * i ≡ 64 * suc i = omega arith in
    chunk_at (drop 64 p) n i (omega arith) ∙ ap (take 64) (drop-drop (64 * i) 64 p ∙ rw e)

-- one block more
pub hash_more : (h : State) (p : List ℕ) (k : ℕ) → hash h p (k + 1) ≡ compress (hash h p k) (block p k)
unfolding hash
hash_more h p k = rw add-one refl

pub hash_step : (h : State) (p b : List ℕ) (v r : State) (k : ℕ) → v ≡ hash h p k → b ≡ block p k → r ≡ compress v b → r ≡ hash h p (k + 1)
hash_step h p b v r k e g q = rw hash_more (q ∙ ap₂ compress e g)
