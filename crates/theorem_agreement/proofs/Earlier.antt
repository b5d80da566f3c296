-- A state that a replica had is good in the world that the whole list leaves, and its present one extends it. Assumes what the
-- statements say, and nothing else.
use Prim.Native.Nat.{ℕ}
use mathlib.Core.Path.{◌≡◌, sym, ap, ◌∙◌, subst}
use mathlib.Core.Option.{some}
use mathlib.Core.List.{List, [], append-nil}
use Rattle.apollo.specs.declared.Setup.{Setup}
use Rattle.apollo.specs.Enter.{State}
use Rattle.theorem_agreement.specs.Run.{Call, start, run}
use Rattle.theorem_agreement.specs.Premises.{Each, Lawful}
use Rattle.theorem_agreement.specs.Cases.{Had}
use Rattle.theorem_agreement.proofs.Past.{Grows}
use Rattle.theorem_agreement.proofs.Good.{Good, good_grows, Rested, Extends}
use Rattle.theorem_agreement.proofs.World.{Inv, start_inv, run_inv}
use Rattle.theorem_agreement.proofs.Agreement.{each_append, append_grows, later}

-- the present state is one of them
pub has : (calls : List (ℕ × Call)) (i : ℕ) (c : State) → (run start calls).states i ≡ some c → Had calls i c
has calls i c e = record { first = calls; rest = []; whole = sym (append-nil calls); left = e }

module _ (s : Setup) (calls : List (ℕ × Call)) (l : Each (Lawful s) start calls) (i : ℕ) (c : State) (h : Had calls i c) where
  both_lawful : Each (Lawful s) start h.first × Each (Lawful s) (run start h.first) h.rest
  both_lawful = each_append (Lawful s) h.first h.rest start (subst (Each (Lawful s) start) h.whole l)

  then : Inv s (run start h.first)
  then = run_inv s h.first start both_lawful.0 (start_inv s)

  pub had_good : Good s (run start calls).past i c
  had_good =
      good_grows s (run start h.first).past (run start calls).past i c
      (subst (λ es. Grows (run start h.first).past (run start es).past) (sym h.whole) (append_grows h.first h.rest))
      (then.good i c h.left)

  pub had_rested : Rested c
  had_rested = then.rests i c h.left

  pub had_extends : (d : State) → (run start calls).states i ≡ some d → Extends c d
  had_extends d e =
      let r = later s h.first h.rest (subst (Each (Lawful s) start) h.whole l) i c h.left in
      let same : some r.0 ≡ some d = sym r.1 ∙ ap (λ es. (run start es).states i) (sym h.whole) ∙ e in
      let q : r.0 ≡ d = cc in
      subst (Extends c) q r.2
