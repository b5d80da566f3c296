-- Two frames judged one by one, each told at its place, are judged as both. Assumes nothing.
use mathlib.Core.Path.{◌≡◌, refl, sym}
use mathlib.Core.Logic.{◌≢◌}
use mathlib.Core.Bool.{Bool, true, false, cond}
use mathlib.Core.List.{List, [], ◌∷◌}
use Prim.Native.Nat.{ℕ}
use lib.Dec.{eqb}
use borrow.Author.Tests.{eq-eqb, ne_eqb}
use Rattle.std.specs.Prelude.{Result, Ok, Err}
use Rattle.std.specs.Result.{MatchResult, IsErrAnd}
use Rattle.std.proofs.lemmas.Result.{err_from_is_err_and}
use Rattle.sha256.specs.Fips.{sha256}
use Rattle.apollo.specs.declared.refusal.Refusal.{Refusal}
use Rattle.apollo.specs.declared.refusal.Refused.{Refused}
use Rattle.apollo.specs.declared.Setup.{Setup}
use Rattle.apollo.specs.Frame.{block_form, first_frame}
use Rattle.apollo.specs.Judging.{Verdict, verdict, no_refusal, fault, judged_each}
use Rattle.apollo.specs.Refused.{number, refusal_of, verdict_of}
use Rattle.apollo.specs.Equivocation.{second, conflicting}
use Rattle.apollo.proofs.Numbers.{number_some}
use Rattle.call_equivocation.specs.Judge.{judged_two}

-- a frame's judgement `told`, and r, which is the same with the refusal's place
pub one_told : (s : Setup) (x : List ℕ) (place : ℕ) {T : Type 0} (told : Result T Refusal) (r : Result T Refused) (P : Refusal → Refused → Type 0)
    → refusal_of told ≡ fault sha256 (block_form s) x → MatchResult told (λ u. r ≡ Ok u) (λ e. IsErrAnd r (P e))
    → ((e : Refusal) (f : Refused) → P e f → f ≡ record { refusal = e; place = place }) → verdict_of r ≡ judged_each sha256 (block_form s) place (x ∷ [])
unfolding judged_each
one_told s x place (Ok u) r P d m put = rw (m, eq-eqb (fault sha256 (block_form s) x) 0 (sym d))
one_told s x place (Err e) r P d m put =
    let p = err_from_is_err_and r m in
    rw (p.1, put e p.0 p.2, ← d, ne_eqb (number e) 0 (number_some e))

-- of two frames the first's refusal comes first, else what the second's judgement says
each_of_two : (form : List ℕ → Bool) (x y : List ℕ)
    → judged_each sha256 form 0 (x ∷ y ∷ [])
    ≡ cond (eqb (judged_each sha256 form 0 (x ∷ [])).number 0) (judged_each sha256 form 1 (y ∷ [])) (judged_each sha256 form 0 (x ∷ []))
unfolding judged_each
each_of_two form x y = go (eqb (fault sha256 form x) 0) refl
  where
    go : (b : Bool) → eqb (fault sha256 form x) 0 ≡ b
        → cond (eqb (fault sha256 form x) 0) (judged_each sha256 form 1 (y ∷ [])) (verdict (fault sha256 form x) 0)
        ≡ cond (eqb (cond (eqb (fault sha256 form x) 0) no_refusal (verdict (fault sha256 form x) 0)).number 0) (judged_each sha256 form 1 (y ∷ []))
        (cond (eqb (fault sha256 form x) 0) no_refusal (verdict (fault sha256 form x) 0))
    go true e = rw e
    go false e = rw (e, e)

-- x and y are the frames, v the judgement of the first
module _ (s : Setup) (bytes x y : List ℕ) (ex : x ≡ first_frame bytes) (ey : y ≡ second bytes) (v : Verdict)
    (d : v ≡ judged_each sha256 (block_form s) 0 (x ∷ [])) where
  abbrev judged_both : Verdict
  judged_both = judged_two s (first_frame bytes) (second bytes)

  both_are : judged_two s x y ≡ judged_both
  both_are = rw (ex, ey)

  pub first_faulty : v.number ≢ 0 → v ≡ judged_both
  unfolding judged_two
  first_faulty n =
      let each : v ≡ judged_each sha256 (block_form s) 0 (x ∷ y ∷ []) = rw (each_of_two (block_form s) x y, ← d, ne_eqb v.number 0 n) in
      rw (← each, ne_eqb v.number 0 n) at both_are

  -- the first is not refused; w is the judgement of the second
  module _ (z : v.number ≡ 0) (w : Verdict) (d₂ : w ≡ judged_each sha256 (block_form s) 1 (y ∷ [])) where
    each_is : w ≡ judged_each sha256 (block_form s) 0 (x ∷ y ∷ [])
    each_is = rw (each_of_two (block_form s) x y, ← d, eq-eqb v.number 0 z) d₂

    pub second_faulty : w.number ≢ 0 → w ≡ judged_both
    unfolding judged_two
    second_faulty n = rw (← each_is, ne_eqb w.number 0 n) at both_are

    module _ (z₂ : w.number ≡ 0) (b : Bool) (e : b ≡ conflicting x y) where
      pub two_alike : b ≡ false → verdict 18 0 ≡ judged_both
      unfolding judged_two
      two_alike f = rw (← each_is, eq-eqb w.number 0 z₂, ← e, f) at both_are

      pub two_conflicting : b ≡ true → no_refusal ≡ judged_both
      unfolding judged_two
      two_conflicting t = rw (← each_is, eq-eqb w.number 0 z₂, ← e, t) at both_are
