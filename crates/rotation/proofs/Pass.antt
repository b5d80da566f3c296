-- The seats of a record cut at n: the cards of the first n, and the others zero. Assumes nothing.
use Prim.Native.Nat.{ℕ, ◌-◌, ◌≤◌, ◌<◌}
use mathlib.Core.Path.{◌≡◌, ap, ◌∙◌}
use mathlib.Core.List.{List}
use mathlib.Core.Bool.{Bool, false, ◌&&◌}
use native.Mathlib.Omega.{arith}
use lib.ListN.{length, take, drop, length-take, length-drop}
use lib.Seq.{length-take-le}
use borrow.Author.Tests.{ne_eqb}
use Rattle.apollo.specs.Bytes.{same, zeros, blank}
use Rattle.apollo.specs.Rotation.{is_rotation}
use Rattle.rotation.specs.Seen.{replicas_seen, all_seen}
use Rattle.rotation.proofs.Seen.{all_rotation}

module _ (n : ℕ) (seats : List ℕ) (size : length seats ≡ 15) where
  -- too many cards for the seats
  pub too_many : 15 < n → false ≡ is_rotation n (take n seats) && blank seats n 15
  unfolding is_rotation
  too_many h =
      let q : length (take n seats) ≡ 15 = simp length-take (omega (arith, size)) in
      rw (ne_eqb (length (take n seats)) n (λ e. omega (arith, q, e)))

  -- both parts, as the code tests them
  pub passed : n ≤ 15 → (m : ℕ) (a b : Bool) → m ≡ replicas_seen 0 (take n seats) → a ≡ all_seen n m
      → b ≡ same (take (15 - n) (drop n seats)) (zeros (length (take (15 - n) (drop n seats))))
      → a && b ≡ is_rotation n (take n seats) && blank seats n 15
  passed h m a b e d z =
      let long : length (take (15 - n) (drop n seats)) ≡ 15 - n = simp (length-take, length-drop) (omega (arith, size)) in
      let cards : a ≡ is_rotation n (take n seats) =
      d ∙ ap (all_seen n) e ∙ all_rotation n (take n seats) (length-take-le n seats (omega (arith, size))) (omega arith) in
      let rest : b ≡ blank seats n 15 = z ∙ ap (λ k. same (take (15 - n) (drop n seats)) (zeros k)) long in
      rw (cards, rest)
