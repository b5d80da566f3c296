-- A new tip by the code's steps. Assumes nothing.
use mathlib.Core.Path.{◌≡◌, refl, ap, ◌∙◌}
use mathlib.Core.List.{List, ◌++◌}
use Prim.Native.Nat.{ℕ, zero, suc, ◌+◌, ◌*◌, ◌≤◌}
use native.Mathlib.Omega.{arith}
use lib.ListN.{length, take, drop, replicate, length-take, length-drop}
use lib.Seq.{take_at}
use Rattle.sha256.specs.Fips.{sha256}
use Rattle.apollo.specs.Size.{check_at, frame_size}
use Rattle.apollo.specs.declared.Replica.{Replica}
use Rattle.apollo.specs.Bytes.{part, zeros}
use Rattle.apollo.specs.Frame.{round, height, digest, make_block}
use Rattle.apollo.specs.Log.{genesis, slot, store}
use Rattle.apollo.specs.Replica.{with_round, with_tip}
use Rattle.apollo.specs.Enter.{tipped, holding, own_block, proposing, state}
use Rattle.apollo.proofs.Made.{block_length}
use Rattle.tip.specs.Ready.{Ready}

-- the tip and R are set one after the other
pub tipped_steps : (r : Replica) (t h : ℕ) (a q : Replica) → a ≡ with_tip r t h → q ≡ with_round a (t + 1) → q ≡ tipped r t h
unfolding tipped
tipped_steps r t h a q ea eq = rw ea at eq

-- the digest of the tip: of the genesis, and of a slot
pub genesis_digest : (log : List ℕ) (t : ℕ) → t ≡ 0 → replicate 32 0 ≡ digest (slot log t)
unfolding slot genesis zeros
genesis_digest log t e = rw e

pub slot_digest : (log x y : List ℕ) (t : ℕ) → x ≡ slot log t → y ≡ part x check_at 32 → y ≡ digest (slot log t)
slot_digest log x y t ex ey = ey ∙ ap digest ex

pub digest_size : (log : List ℕ) (t : ℕ) → frame_size * t ≤ length log → length (digest (slot log t)) ≡ 32
unfolding slot genesis zeros
digest_size log zero h = refl
digest_size log (suc k) h = simp (length-take, length-drop) (omega arith)

-- a proposal by its steps
pub proposal : (r : Replica) (log entry out : List ℕ) → Ready r log entry out → (out' x log' : List ℕ) (q : Replica)
    → out' ≡ make_block sha256 r.id r.round.0 (r.tip_height.0 + 1) (digest (slot log r.tip_round.0)) entry ++ drop frame_size out
    → x ≡ take frame_size out' → log' ≡ store log r.round.0 x → q ≡ tipped r r.round.0 (r.tip_height.0 + 1) → (masks : List ℕ)
    → (out' ≡ own_block sha256 entry (state r log masks) ++ drop frame_size out)
    × (state q log' masks ≡ proposing sha256 entry (state r log masks))
unfolding own_block proposing holding
proposal r log entry out g out' x log' q eo ex el eq masks =
    let p : List ℕ = digest (slot log r.tip_round.0) in
    let B : List ℕ = make_block sha256 r.id r.round.0 (r.tip_height.0 + 1) p entry in
    let n : length B ≡ frame_size =
    block_length r.id r.round.0 (r.tip_height.0 + 1) p entry (digest_size log r.tip_round.0 (omega arith)) g.entry_room in
    let b : x ≡ B = ex ∙ ap (take frame_size) eo ∙ take_at B (drop frame_size out) frame_size n in
    (eo, rw (eq, el, b))

-- a branch by its steps
pub adoption : (r : Replica) (log log' g x y : List ℕ) (t h : ℕ) (q : Replica) → log' ≡ g → x ≡ y → t ≡ round x → h ≡ height x
    → q ≡ tipped r t h → (masks : List ℕ) → state q log' masks ≡ holding (state r log masks) g (round y) (height y)
unfolding holding
adoption r log log' g x y t h q el ex et eh eq masks = rw (eq, et, eh, ex, el)
