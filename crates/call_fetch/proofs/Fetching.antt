-- Fetch as the code answers it. Assumes nothing.
use mathlib.Core.Path.{◌≡◌}
use mathlib.Core.Bool.{Bool, true, false}
use mathlib.Core.List.{List, ◌++◌, flatten}
use Prim.Native.Nat.{ℕ, ◌*◌, ◌≤◌, ◌<◌}
use native.Mathlib.Omega.{arith}
use lib.ListN.{length, take, drop}
use borrow.Author.Tests.{eq-eqb, ne_eqb, lt-ltb, le-ltb}
use Rattle.apollo.specs.Size.{frame_size}
use Rattle.apollo.specs.declared.Replica.{Replica}
use Rattle.apollo.specs.declared.Fetched.{Fetched}
use Rattle.apollo.specs.Replica.{valid_replica}
use Rattle.apollo.specs.Fetch.{fetchable, fetch_count, fetch_call, fetched}
use Rattle.call_fetch.specs.Answers.{no_frames}

module _ (r : Replica) (log : List ℕ) (h : ℕ) (out : List ℕ) where
  -- what the call must answer
  abbrev pub Answers : Fetched → (after : List ℕ) → Type 0
  Answers a after = fetched a after ≡ fetch_call r log h out

  module _ (v : Bool) (e : v ≡ valid_replica r log) where
    pub fetch_invalid : (a : Fetched) → a ≡ no_frames 2 → v ≡ false → Answers a out
    unfolding fetch_call
    fetch_invalid a i f = rw (i, ← e, f)

    module _ (t : v ≡ true) where
      pub fetch_short : (a : Fetched) → a ≡ no_frames 4 → length out < 1024 → Answers a out
      unfolding fetch_call
      fetch_short a i s = rw (i, ← e, t, lt-ltb (length out) 1024 s)

      module _ (wide : 1024 ≤ length out) (k : ℕ) (after : List ℕ) (d : k ≡ fetch_count r log h out)
          (c : after ≡ flatten (take k (fetchable r log h)) ++ drop (frame_size * k) out) where
        pub fetch_absent : (a : Fetched) → a ≡ no_frames 15 → k ≡ 0 → Answers a after
        unfolding fetch_call flatten
        fetch_absent a i z =
            let w : after ≡ out = rw z at c in
            rw (i, ← e, t, le-ltb (length out) 1024 wide, eq-eqb (length (fetchable r log h)) 0 (omega arith), w)

        pub fetch_copied : (k ≡ 0 → ⊥) → Answers (record { number = 0; count = k }) after
        unfolding fetch_call
        fetch_copied n =
            rw (
              ← e,
              t,
              le-ltb (length out) 1024 wide,
              ne_eqb (length (fetchable r log h)) 0 (λ (z : length (fetchable r log h) ≡ 0). n (omega arith)),
              ← d,
              c,
            )
