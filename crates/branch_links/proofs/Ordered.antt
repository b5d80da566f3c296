-- What judging and attaching show of a branch: whole frames, rounds that rise from the attaching round up to the last.
-- Assumes nothing.
use mathlib.Core.Path.{◌≡◌}
use mathlib.Core.Bool.{true}
use mathlib.Core.List.{List, [], ◌∷◌}
use mathlib.Core.Option.{none, some}
use Prim.Native.Nat.{ℕ, zero, suc, ◌-◌, ◌*◌, ◌≤◌, ◌<◌}
use native.Mathlib.Omega.{arith}
use lib.ListN.{length, take, drop}
use Rattle.sha256.specs.Fips.{sha256}
use Rattle.apollo.specs.Size.{frame_size}
use Rattle.apollo.specs.declared.Setup.{Setup}
use Rattle.apollo.specs.Frame.{round, frames}
use Rattle.apollo.specs.Log.{attach}
use Rattle.apollo.specs.BlockRun.{block, blocks, judged_run}
use Rattle.apollo.proofs.Frames.{frames_whole}
use Rattle.apollo.proofs.BlockRun.{block_parts, block_length, child_parts, blocks_parts, blocks_judged}
use Rattle.frame_forms.proofs.Facts.{BlockFields, block_fields}
use Rattle.branch_links.specs.Ordered.{Ordered}
use Rattle.branch_links.proofs.Attaching.{attach_le}

-- a block's round is from 1 up to the last
block_round : (s : Setup) (x : List ℕ) → block s x ≡ true → (1 ≤ round x) × (round x ≤ s.last_round.0)
block_round s x e = let f : BlockFields s x = block_fields s x (block_parts s x e).1 in (f.round_low, f.round_high)

rising : (s : Setup) (x : List ℕ) (ys : List (List ℕ)) → round x ≤ s.last_round.0 → blocks s (some x) ys ≡ true
    → Ordered s.last_round.0 (round x) ys
unfolding Ordered
rising s x [] r e = r
rising s x (y ∷ ys) r e =
    let q = blocks_parts s (some x) y ys e in
    let f = block_round s y q.0 in
    (block_length s y q.0, (child_parts x y q.1).1, rising s y ys f.1 q.2)

-- a judged branch of n frames whose first frame attaches to round a
pub ordered : (s : Setup) (log b : List ℕ) (n a : ℕ) → 0 < n → frame_size * n ≤ length b
    → (judged_run sha256 s 0 none (frames n b)).number ≡ 0 → attach log (take frame_size b) (round (take frame_size b) - 1) ≡ some a
    → Ordered s.last_round.0 a (frames n b)
unfolding frames Ordered
ordered s log b zero a g h e d = absurd (omega arith)
ordered s log b (suc n) a g h e d =
    let x : List ℕ = take frame_size b in
    let q = blocks_parts s none x (frames n (drop frame_size b)) (blocks_judged s 0 none (frames (suc n) b) e (frames_whole (suc n) b h)) in
    let f = block_round s x q.0 in
    let l : a ≤ round x - 1 = attach_le log x (round x - 1) a d in
    (block_length s x q.0, omega (arith, f.0), rising s x (frames n (drop frame_size b)) f.1 q.2)
