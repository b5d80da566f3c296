-- The judgement of a set by the code's tests, and what holds where nothing refuses it. Assumes nothing.
use mathlib.Core.Path.{◌≡◌}
use mathlib.Core.Bool.{Bool, true, false}
use mathlib.Core.List.{List}
use Prim.Native.Nat.{ℕ, ◌≤◌, ◌<◌}
use borrow.Author.Tests.{eq-eqb, ne_eqb, lt-ltb, le-ltb}
use Rattle.sha256.specs.Fips.{sha256}
use Rattle.apollo.specs.declared.Replica.{Replica}
use Rattle.apollo.specs.declared.Setup.{Setup}
use Rattle.apollo.specs.Setup.{setup_of}
use Rattle.apollo.specs.Frame.{round, frames_of, first_frame, whole_frames, blame_form}
use Rattle.apollo.specs.Judging.{Verdict, verdict, no_refusal, judged_each}
use Rattle.apollo.specs.Blame.{one_set, any_fresh}
use Rattle.blame_set.specs.Set.{judged_together, judged_frames, judged_set}

module _ (r : Replica) (masks b : List ℕ) where
  -- 16, 14 and 10
  module _ (x : List ℕ) (ex : x ≡ first_frame b) (q : ℕ) (eq : q ≡ round x) (c : Bool) (d : c ≡ one_set q 0 (frames_of b)) where
    set_is : c ≡ one_set (round (first_frame b)) 0 (frames_of b)
    set_is = rw (eq, ex) at d

    round_is : q ≡ round (first_frame b)
    round_is = rw ex at eq

    pub not_one : c ≡ false → verdict 16 0 ≡ judged_together r masks b
    unfolding judged_together
    not_one z = rw (← set_is, z)

    module _ (t : c ≡ true) where
      pub is_early : r.round.0 < q → verdict 14 0 ≡ judged_together r masks b
      unfolding judged_together
      is_early h = rw (← set_is, t, ← round_is, lt-ltb r.round.0 q h)

      module _ (h : q ≤ r.round.0) (f : Bool) (g : f ≡ any_fresh masks (frames_of b)) where
        pub is_stale : f ≡ false → verdict 10 0 ≡ judged_together r masks b
        unfolding judged_together
        is_stale z = rw (← set_is, t, ← round_is, le-ltb r.round.0 q h, ← g, z)

        pub is_taken : f ≡ true → no_refusal ≡ judged_together r masks b
        unfolding judged_together
        is_taken z = rw (← set_is, t, ← round_is, le-ltb r.round.0 q h, ← g, z)

  -- 7 and 8
  module _ (s : Setup) (q : s ≡ setup_of r) (v : Verdict) (p : v ≡ judged_each sha256 (blame_form s) 0 (frames_of b)) where
    each_is : v ≡ judged_each sha256 (blame_form (setup_of r)) 0 (frames_of b)
    each_is = rw q at p

    pub frames_faulty : (v.number ≡ 0 → ⊥) → v ≡ judged_frames r masks b
    unfolding judged_frames
    frames_faulty n = rw (← each_is, ne_eqb v.number 0 n)

    pub frames_sound : (u : Verdict) → v.number ≡ 0 → u ≡ judged_together r masks b → u ≡ judged_frames r masks b
    unfolding judged_frames
    frames_sound u z e = rw (← each_is, eq-eqb v.number 0 z) e

  -- 6
  module _ (most : ℕ) (w : Bool) (e : w ≡ whole_frames most b) where
    pub set_cut : w ≡ false → verdict 6 0 ≡ judged_set most r masks b
    unfolding judged_set
    set_cut f = rw (← e, f)

    pub set_whole : (u : Verdict) → w ≡ true → u ≡ judged_frames r masks b → u ≡ judged_set most r masks b
    unfolding judged_set
    set_whole u t d = rw (← e, t) d
