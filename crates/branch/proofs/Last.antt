-- The frames of an accepted branch have their slots, and the last is a block. Assumes nothing.
use mathlib.Core.Path.{◌≡◌, refl, ap, ◌∙◌}
use mathlib.Core.Bool.{Bool, true, false, cond}
use mathlib.Core.List.{List, [], ◌∷◌}
use mathlib.Core.Option.{Option, none, some}
use Prim.Native.Nat.{ℕ, ◌-◌, ◌*◌, ◌/◌}
use native.Mathlib.Omega.{arith}
use lib.Dec.{eqb, ltb}
use lib.ListN.{length, take, drop}
use borrow.Author.Tests.{eqb-true, eqb-false}
use Rattle.sha256.specs.Fips.{sha256}
use Rattle.apollo.specs.Size.{frame_size}
use Rattle.apollo.specs.declared.Replica.{Replica}
use Rattle.apollo.specs.declared.Setup.{Setup}
use Rattle.apollo.specs.Setup.{setup_of}
use Rattle.apollo.specs.Frame.{round, frames, frames_of, first_frame, last_frame, whole_frames}
use Rattle.apollo.specs.Log.{attach}
use Rattle.apollo.specs.Judging.{Verdict}
use Rattle.apollo.specs.BlockRun.{last_of, block, blocks, judged_run}
use Rattle.frame_forms.proofs.Facts.{BlockFields, block_fields}
use Rattle.apollo.proofs.BlockRun.{block_parts, blocks_parts, blocks_judged}
use Rattle.slots.specs.Slots.{Slotted}
use Rattle.branch.specs.Judge.{Judged, refusal, judged_at, judged_whole, judged_branch}
use Rattle.apollo.proofs.Frames.{WholeFrames, whole_true, frames_split, frames_whole}
use Rattle.branch.proofs.Frames.{last_is}

-- each frame has the slot of its round, and the last is a block
record Sound (s : Setup) (x : List ℕ) (ys : List (List ℕ)) : Type 0 where
  slots : Slotted (frame_size * s.last_round.0) (x ∷ ys)
  last : block s (last_of x ys) ≡ true

slot_first : (s : Setup) (x : List ℕ) (ys : List (List ℕ)) → block s x ≡ true → Slotted (frame_size * s.last_round.0) ys
    → Slotted (frame_size * s.last_round.0) (x ∷ ys)
unfolding Slotted
slot_first s x ys e h =
    let b : BlockFields s x = block_fields s x (block_parts s x e).1 in
    (b.round_low, omega (arith, b.round_high), h)

sound : (s : Setup) (p : Option (List ℕ)) (x : List ℕ) (ys : List (List ℕ)) → blocks s p (x ∷ ys) ≡ true → Sound s x ys
unfolding last_of Slotted
sound s p x [] e = let q = blocks_parts s p x [] e in record { slots = slot_first s x [] q.0 tt; last = q.0 }
sound s p x (y ∷ ys) e =
    let q = blocks_parts s p x (y ∷ ys) e in
    let r : Sound s y ys = sound s (some x) y ys q.2 in
    record { slots = slot_first s x (y ∷ ys) q.0 r.slots; last = r.last }

-- a judgement that refuses nothing
opens : (z y : Bool) (j : Judged) (n p : ℕ) → eqb n 0 ≡ y → (cond z (cond y j (refusal n p)) (refusal 6 0)).number ≡ 0
    → (z ≡ true) × (n ≡ 0)
opens true true j n p e h = (refl, eqb-true n 0 e)
opens true false j n p e h = absurd (eqb-false n 0 e h)
opens false y j n p e h = absurd (omega arith)

pub branch_sound : (r : Replica) (log masks bytes : List ℕ) → (judged_branch r log masks bytes).number ≡ 0
    → Slotted (frame_size * r.last_round.0) (frames_of bytes) × BlockFields (setup_of r) (last_frame bytes)
unfolding judged_branch judged_whole
branch_sound r log masks bytes e =
    let v : Verdict = judged_run sha256 (setup_of r) 0 none (frames_of bytes) in
    let p =
    opens (whole_frames r.last_round.0 bytes) (eqb v.number 0)
    (cond (ltb (round (last_frame bytes)) r.round.0) (refusal 10 0)
    (judged_at r log masks bytes (attach log (first_frame bytes) (round (first_frame bytes) - 1))))
    v.number v.place refl e
    in
    let w : WholeFrames r.last_round.0 bytes = whole_true r.last_round.0 bytes p.0 in
    let f = frames_split (length bytes / frame_size) bytes w.some in
    let n : ℕ = length bytes / frame_size in
    let whole = frames_whole n bytes (omega arith) in
    let good = blocks_judged (setup_of r) 0 none (frames_of bytes) p.1 whole in
    let g = sound (setup_of r) none (take frame_size bytes) (frames (n - 1) (drop frame_size bytes)) (rw f at good) in (
      rw f g.slots,
      block_fields (setup_of r) (last_frame bytes)
          (block_parts (setup_of r) (last_frame bytes) (ap (block (setup_of r)) (last_is r.last_round.0 bytes w) ∙ g.last)).1,
    )
