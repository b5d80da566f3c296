-- Laws of the frames that are made: a frame written piece by piece. Assumes nothing.
use mathlib.Core.Path.{◌≡◌, refl, ap, ap₂, ◌∙◌}
use mathlib.Core.List.{List, ◌∷◌, ◌++◌, append_assoc}
use Prim.Native.Nat.{ℕ, ◌+◌, ◌-◌, ◌≤◌}
use native.Mathlib.Omega.{arith}
use lib.ListN.{length, take, drop, length-append}
use lib.Seq.{take_at}
use Rattle.sha256.specs.Fips.{sha256}
use Rattle.apollo.specs.Size.{check_at, frame_size}
use Rattle.apollo.specs.Bytes.{bytes2, bytes4, zeros}
use Rattle.apollo.specs.Frame.{block_head, blame_head, sealed, make_block, make_blame}
use Rattle.frame_writing.specs.Put.{Written}
use Rattle.apollo.proofs.Made.{sealed_length, blame_head_length, block_head_length}
use Rattle.frame_writing.proofs.Writes.{Begun, begun_start, begun_more}

-- the bytes before the check are written, then the check
written_frame : (x out₀ out out' : List ℕ) → length x ≡ check_at → Begun out₀ x out → Written out check_at (sha256 (take check_at out)) out'
    → out' ≡ sealed sha256 x ++ drop frame_size out₀
unfolding sealed
written_frame x out₀ out out' l b w =
    let t : take check_at out ≡ x = ap (take check_at) b.bytes ∙ take_at x (drop (length x) out₀) check_at l in
    let g : Begun out₀ (x ++ sha256 (take check_at out)) out' = begun_more check_at l b w in
    let n : length (x ++ sha256 x) ≡ frame_size = unfold sealed in sealed_length x l in
    g.bytes ∙ rw (t, n)

-- the pieces of a block, and of a blame
pub written_block : (id r h : ℕ) (parent entry start out₀ out₁ out₂ out₃ out₄ out₅ : List ℕ)
    → length parent ≡ 32 → length entry ≤ 400 → start ≡ 1 ∷ id ∷ (bytes2 (length entry) ++ (bytes4 r ++ bytes4 h))
    → Written out₀ 0 start out₁ → Written out₁ 12 parent out₂ → Written out₂ 44 entry out₃
    → Written out₃ (44 + length entry) (zeros (check_at - (44 + length entry))) out₄
    → Written out₄ check_at (sha256 (take check_at out₄)) out₅ → out₅ ≡ make_block sha256 id r h parent entry ++ drop frame_size out₀
unfolding make_block block_head
written_block id r h parent entry start out₀ out₁ out₂ out₃ out₄ out₅ p e s w₁ w₂ w₃ w₄ w₅ =
    let z : List ℕ = zeros (check_at - (44 + length entry)) in
    let q : check_at - (44 + length entry) ≡ 436 - length entry = omega arith in
    let l : length start ≡ 12 = ap length s in
    let b₂ : Begun out₀ (start ++ parent) out₂ = begun_more 12 l (begun_more 0 refl (begun_start out₀) w₁) w₂ in
    let l₂ : length (start ++ parent) ≡ 44 = length-append start parent ∙ ap₂ (λ a b. a + b) l p in
    let b₃ : Begun out₀ ((start ++ parent) ++ entry) out₃ = begun_more 44 l₂ b₂ w₃ in
    let l₃ : length ((start ++ parent) ++ entry) ≡ 44 + length entry =
    length-append (start ++ parent) entry ∙ ap (λ a. a + length entry) l₂ in
    let b₄ : Begun out₀ (((start ++ parent) ++ entry) ++ z) out₄ = begun_more (44 + length entry) l₃ b₃ w₄ in
    let x : ((start ++ parent) ++ entry) ++ z ≡ block_head id r h parent entry =
    simp append_assoc (rw (s, q)) in
    written_frame (block_head id r h parent entry) out₀ out₄ out₅ (block_head_length id r h parent entry p e) (rw x at b₄) w₅

pub written_blame : (id r : ℕ) (start out₀ out₁ out₂ out₃ : List ℕ)
    → start ≡ 2 ∷ id ∷ 0 ∷ 0 ∷ bytes4 r → Written out₀ 0 start out₁ → Written out₁ 8 (zeros 472) out₂
    → Written out₂ check_at (sha256 (take check_at out₂)) out₃ → out₃ ≡ make_blame sha256 id r ++ drop frame_size out₀
unfolding make_blame blame_head
written_blame id r start out₀ out₁ out₂ out₃ s w₁ w₂ w₃ =
    let b : Begun out₀ (start ++ zeros 472) out₂ = begun_more 8 (ap length s) (begun_more 0 refl (begun_start out₀) w₁) w₂ in
    let x : start ++ zeros 472 ≡ blame_head id r = rw s in
    written_frame (blame_head id r) out₀ out₂ out₃ (blame_head_length id r) (rw x at b) w₃
