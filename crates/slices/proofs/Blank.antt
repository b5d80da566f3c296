-- A part of a list that is there and zero, by where the list ends. Assumes nothing.
use mathlib.Core.Path.{◌≡◌, sym, ap, ◌∙◌}
use mathlib.Core.Bool.{Bool, true, false}
use mathlib.Core.Logic.{◌⊎◌}
use mathlib.Core.List.{List}
use Prim.Native.Nat.{ℕ, ◌-◌, ◌≤◌, ◌<◌}
use native.Mathlib.Omega.{arith}
use denote.Bor.{Bor}
use lib.ListN.{length, take, drop, length-take, length-drop}
use Rattle.std.specs.declared.option.Option.{Option}
use Rattle.std.specs.declared.option.Option.TheVariants.{Some, None}
use Rattle.std.specs.Option.{MatchOption}
use Rattle.std.specs.Slice.{IsGetRangeResult}
use Rattle.apollo.specs.Bytes.{same, zeros, blank}
use Rattle.apollo.proofs.Slots.{length_zeros}
use Rattle.slices.proofs.Same.{same_length}

module _ (log : List ℕ) (a e : ℕ) where
  pub blank_none : e ≤ a → true ≡ blank log a e
  unfolding same zeros
  blank_none h =
      let z : e - a ≡ 0 = omega arith in
      rw z

  pub blank_test : (r : Bool) → e ≤ a → r ≡ true → r ≡ blank log a e
  blank_test r h t = t ∙ blank_none h

  pub blank_past : a < e → length log < e → false ≡ blank log a e
  blank_past h g =
      let l : length (take (e - a) (drop a log)) < length (zeros (e - a)) =
      simp (length-take, length-drop, length_zeros) (omega arith) in
      sym (same_length (take (e - a) (drop a log)) (zeros (e - a)) (λ (p : length (take (e - a) (drop a log)) ≡ length (zeros (e - a))). omega arith))

  -- as `get` gives it
  pub blank_range : a < e → (part : Option (Bor (List ℕ))) (r : Bool) → IsGetRangeResult log a e part
      → MatchOption part (r ≡ false) (λ (p : Bor (List ℕ)). r ≡ same p.now (zeros (length p.now))) → r ≡ blank log a e
  blank_range h None r p z =
      let past : (e < a) ⊎ (length log < e) = p.0 in
      z ∙ blank_past h (omega arith)
  blank_range h (Some s) r p z =
      let now : s.now ≡ take (e - a) (drop a log) = p.0.2 in
      let size : length s.now ≡ e - a = omega (arith, p.0.3) in
      z ∙ ap (λ n. same s.now (zeros n)) size ∙ ap (λ (xs : List ℕ). same xs (zeros (e - a))) now
