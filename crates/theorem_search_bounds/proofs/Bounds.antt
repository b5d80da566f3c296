-- A commit reads few slots. Assumes what the statements say, and nothing else.
use Prim.Native.Nat.{ℕ, zero, suc, ◌+◌, ◌*◌, ◌≤◌, ◌<◌}
use mathlib.Core.Path.{◌≡◌, refl}
use mathlib.Core.Logic.{⊎_elim}
use mathlib.Core.Option.{some}
use mathlib.Core.List.{List}
use mathlib.Core.Bool.{Bool, true, false}
use native.Mathlib.Omega.{arith}
use lib.Dec.{eqb, leb}
use borrow.Author.Tests.{eqb-true, leb-true, leb-false}
use Rattle.apollo.specs.declared.Setup.{Setup}
use Rattle.apollo.specs.Log.{slot, filled, highest, slots_read}
use Rattle.apollo.specs.Masks.{certified}
use Rattle.apollo.specs.Enter.{State, commit_limit}
use Rattle.theorem_agreement.specs.Run.{Call, start, run}
use Rattle.theorem_agreement.specs.Premises.{Each, Lawful}
use Rattle.theorem_agreement.proofs.Tests.{clash, either, by_cond}
use Rattle.theorem_agreement.proofs.Slots.{highest_le, highest_max}
use Rattle.theorem_agreement.proofs.Good.{Good, good_certified, limit_low}
use Rattle.theorem_agreement.proofs.World.{Inv, start_inv, run_inv}
use Rattle.theorem_agreement.proofs.Agreement.{near}
use Rattle.theorem_search_bounds.specs.Bounds.{certified_run, ReadsCertified, ReadsFew}

-- the slots read stand between the limit and the one found
read_le : (log : List ℕ) (r : ℕ) → slots_read log r + highest log r ≤ r + 1
unfolding slots_read
read_le log r =
    by_cond (λ k. k + highest log r ≤ r + 1) (eqb (highest log r) 0) (λ e. omega (arith, eqb-true (highest log r) 0 e))
    (λ _. omega (arith, highest_le log r))

-- where every round above q up to r is certified
certified_run_lem : (s : Setup) (masks : List ℕ) (q r : ℕ) → ((k : ℕ) → q < k → k ≤ r → certified s masks k ≡ true) → r ≤ q + certified_run s masks r
unfolding certified_run
certified_run_lem s masks q zero h = omega arith
certified_run_lem s masks q (suc r) h =
    by_cond (λ n. suc r ≤ q + n) (certified s masks (suc r))
    (λ _. omega (arith, certified_run_lem s masks q r (λ k a b. h k a (omega arith)))) (λ u. go u (leb (suc r) q) refl)
  where
    go : certified s masks (suc r) ≡ false → (b : Bool) → leb (suc r) q ≡ b → suc r ≤ q + 0
    go u true e = omega (arith, leb-true (suc r) q e)
    go u false e = absurd (clash (h (suc r) (leb-false (suc r) q e) (omega arith)) u)

-- a replica in the world of a lawful list
module _ (s : Setup) (calls : List (ℕ × Call)) (l : Each (Lawful s) start calls) (i : ℕ) (c : State) (e : (run start calls).states i ≡ some c) where
  abbrev limit : ℕ
  limit = commit_limit c.replica

  invariant : Inv s (run start calls)
  invariant = run_inv s calls start l (start_inv s)

  good : Good s (run start calls).past i c
  good = invariant.good i c e

  -- a round up to the limit and the f rounds above it are below R
  low : (k : ℕ) → 1 ≤ k → k ≤ limit → k + s.f < c.replica.round.0
  low = limit_low s (run start calls).past i c good

  -- a round above the one found is empty, so it is certified
  above : (k : ℕ) → highest c.log limit < k → k ≤ limit → certified s c.masks k ≡ true
  above k a b =
      ⊎_elim (λ t. absurd (omega (arith, highest_max c.log limit k t b)))
      (good_certified s (run start calls).past i c good k (omega arith) (omega (arith, low k (omega arith) b)))
      (either (filled (slot c.log k)))

  -- the one found is the committed one, which is near
  few : c.replica.round.0 ≤ c.replica.committed_round.0 + 2 * s.f + 1 → slots_read c.log limit ≤ s.f + 1
  few n = go (leb limit 0) refl
    where
      go : (b : Bool) → leb limit 0 ≡ b → slots_read c.log limit ≤ s.f + 1
      go true z = omega (arith, read_le c.log limit, leb-true limit 0 z)
      go false z =
          omega (arith, read_le c.log limit, low limit (leb-false limit 0 z) (omega arith), (invariant.rests i c e).renewed.committed_is)

pub reads_certified : ReadsCertified
reads_certified s calls l i c e =
    omega (arith, read_le c.log (limit s calls l i c e), certified_run_lem s c.masks _ _ (above s calls l i c e))

pub reads_few : ReadsFew
reads_few s correct calls p i c e = omega (arith, few s calls p.lawful i c e (near s correct calls p i c e))
