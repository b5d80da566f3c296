-- What a mark stands for, that no correct card is marked, and that no mark is cleared along a list. Assumes what the statements say.
use Prim.Native.Nat.{ℕ, ◌<◌}
use mathlib.Core.Path.{◌≡◌, sym, ap, ◌∙◌, subst}
use mathlib.Core.Option.{none, some}
use mathlib.Core.List.{List, ◌++◌}
use mathlib.Core.Bool.{Bool, true}
use Rattle.apollo.specs.declared.Setup.{Setup}
use Rattle.apollo.specs.Setup.{replicas, leader, valid_rotation}
use Rattle.apollo.specs.Frame.{round, digest}
use Rattle.apollo.specs.BlockRun.{block}
use Rattle.apollo.specs.Enter.{State}
use Rattle.apollo.proofs.Rotation.{leader_low}
use Rattle.apollo.proofs.BlockRun.{block_parts}
use Rattle.theorem_agreement.specs.Run.{Event, emitted, In, Seen, start, run}
use Rattle.theorem_agreement.specs.Marks.{Equivocated}
use Rattle.theorem_agreement.proofs.Good.{Extends}
use Rattle.theorem_agreement.proofs.Effects.{Tidy}
use Rattle.theorem_agreement.proofs.Adopt.{Block, formed}
use Rattle.theorem_agreement.proofs.World.{Inv, start_inv, run_inv}
use Rattle.theorem_agreement.proofs.Agreement.{Authentic, run_authentic, start_authentic, later}
use Rattle.theorem_equivocators.specs.Marks.{Shown, NeverMarked, NeverCleared}

pub shown : Shown
shown s calls l i c e = ((run_inv s calls start l (start_inv s)).good i c e).marks

-- two good blocks of one round that were seen, where its leader is correct and nothing was forged: both are the one that it emitted
module _ (s : Setup) (correct : ℕ → Bool) (past : List Event) (v : valid_rotation s ≡ true) (t : Tidy s past) (k : ℕ)
    (ok : correct k ≡ true) (real : Authentic s correct (record { states = λ i. none; past = past })) where
  formed_by : (x : List ℕ) → block s x ≡ true → Block s x
  formed_by x e = let p = block_parts s x e in formed s x p.0 p.1

  own : (x : List ℕ) → Seen x past → block s x ≡ true → leader s (round x) ≡ k → In (emitted k x) past
  own x p e led =
      let by = (formed_by x e).signed ∙ led in
      subst (λ j. In (emitted j x) past) by
      (real x p (subst (λ j. j < replicas s) (sym (by ∙ sym led)) (leader_low s v (round x))) (ap correct by ∙ ok))

  not_equivocated : Equivocated s past k → ⊥
  not_equivocated d =
      d.names_differ
      (ap (λ (x : List ℕ). digest x)
      (t.once k d.one d.other (own d.one d.one_seen d.one_block d.led)
      (own d.other d.other_seen d.other_block (ap (leader s) (sym d.one_round) ∙ d.led))
      (formed_by d.one d.one_block).kind_is (formed_by d.other d.other_block).kind_is d.one_round))

pub never_marked : NeverMarked
never_marked s correct calls l u i c e k ok m =
    let inv : Inv s (run start calls) = run_inv s calls start l (start_inv s) in
    not_equivocated s correct (run start calls).past (inv.good i c e).fixed.turns inv.tidy k ok
    (run_authentic s correct calls start l u (start_inv s) (start_authentic s correct)) (shown s calls l i c e k m)

pub never_cleared : NeverCleared
never_cleared s calls more l i c e =
    let r : (d : State) × ((run start (calls ++ more)).states i ≡ some d) × Extends c d = later s calls more l i c e in
    (r.0, r.1, r.2.marks)
