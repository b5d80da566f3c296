-- A run that skips a round which is not certified, up to that round. Assumes what the statement says, and nothing else.
use Prim.Native.Nat.{ℕ, zero, suc, ◌+◌, ◌-◌, ◌≤◌, ◌<◌}
use mathlib.Core.Path.{◌≡◌, refl, sym, ap, ◌∙◌, subst}
use mathlib.Core.Logic.{◌⊎◌, inl, inr, ◌≢◌}
use mathlib.Core.Option.{some}
use mathlib.Core.List.{List, [], ◌∷◌, ◌++◌, flatten, append_assoc}
use mathlib.Core.Bool.{Bool, true, false, cond}
use native.Mathlib.Omega.{arith}
use lib.ListN.{length}
use lib.Dec.{eqb, leb, ltb}
use borrow.Author.Tests.{eqb-true, eqb-false, leb-true, leb-false, ltb-true, ltb-false}
use Rattle.sha256.specs.Fips.{sha256}
use Rattle.apollo.specs.declared.Setup.{Setup}
use Rattle.apollo.specs.Frame.{round, height}
use Rattle.apollo.specs.Log.{slot}
use Rattle.apollo.specs.Masks.{certified, gap}
use Rattle.apollo.specs.Replica.{leads}
use Rattle.apollo.specs.Enter.{State, Effect, commit, tipped, holding, entered, proposing, enter_round}
use Rattle.apollo.specs.Judging.{Verdict, verdict}
use Rattle.apollo.specs.Outcome.{taken}
use Rattle.apollo.specs.BlockRun.{last_of, blocks}
use Rattle.apollo.specs.Branch.{first_uncertified, adopting}
use Rattle.apollo.specs.Fetch.{fetchable}
use Rattle.apollo.specs.Calls.{branch_call}
use Rattle.apollo.specs.BenchSheet.{number, new_round}
use Rattle.apollo.proofs.BlockRun.{child_parts, blocks_parts}
use Rattle.theorem_agreement.specs.Run.{Event, start, run}
use Rattle.theorem_agreement.proofs.Tests.{clash, by_cond, cond_true}
use Rattle.theorem_agreement.proofs.Chain.{Held}
use Rattle.theorem_agreement.proofs.Good.{Good, Rested, setup_is}
use Rattle.theorem_agreement.proofs.Agreement.{honest}
use Rattle.theorem_catch_up.specs.CatchUp.{lacking, received, beneath, Split, SplitLater}
use Rattle.theorem_catch_up.proofs.CatchUp.{Extending, own, taken_so, tip_most, round_d, run_on, extending, extending_late, goods, rests, gc, rc, gd, held₀, from₀, same₀}

-- the first round above lo that is not certified: all before it are
gap_found : (s : Setup) (masks : List ℕ) (lo k q : ℕ) → gap s masks lo k ≡ q → q ≢ 0
    → (lo < q) × (q ≤ lo + k) × ((r : ℕ) → lo < r → r < q → certified s masks r ≡ true)
unfolding gap
gap_found s masks lo zero q e n = absurd (n (sym e))
gap_found s masks lo (suc k) q e n =
    by_cond (λ g. g ≡ q → (lo < q) × (q ≤ lo + suc k) × ((r : ℕ) → lo < r → r < q → certified s masks r ≡ true)) (certified s masks (lo + 1))
    (λ t v. let ih = gap_found s masks (lo + 1) k q v n in
    (omega (arith, ih.0), omega (arith, ih.1), λ r a b. first t ih.2 r a b (eqb r (lo + 1)) refl))
    (λ t v. (omega arith, omega arith, λ r a b. absurd (omega arith))) e
  where
    first : certified s masks (lo + 1) ≡ true → ((r : ℕ) → lo + 1 < r → r < q → certified s masks r ≡ true) → (r : ℕ) → lo < r → r < q
        → (z : Bool) → eqb r (lo + 1) ≡ z → certified s masks r ≡ true
    first t ih r a b true z = ap (certified s masks) (eqb-true _ _ z) ∙ t
    first t ih r a b false z = let ne : r ≢ lo + 1 = eqb-false _ _ z in ih r (omega arith) b

-- the round of the last of some frames, lo if there are none
abbrev end_of : ℕ → List (List ℕ) → ℕ
end_of lo [] = lo
end_of lo (x ∷ xs) = end_of (round x) xs

end_last : (lo : ℕ) (x : List ℕ) (xs : List (List ℕ)) → end_of lo (x ∷ xs) ≡ round (last_of x xs)
unfolding last_of
end_last lo x [] = refl
end_last lo x (y ∷ ys) = end_last (round x) y ys

beneath_front : (q : ℕ) (xs : List (List ℕ)) → (zs : List (List ℕ)) × (xs ≡ beneath q xs ++ zs)
unfolding beneath
beneath_front q [] = ([], refl)
beneath_front q (x ∷ xs) =
    let r : (zs : List (List ℕ)) × (xs ≡ beneath q xs ++ zs) = beneath_front q xs in
    by_cond (λ us. (zs : List (List ℕ)) × (x ∷ xs ≡ us ++ zs)) (ltb (round x) q) (λ _. (r.0, ap (λ us. x ∷ us) r.1)) (λ _. (x ∷ xs, refl))

-- q is the first skipped round that is not certified
module _ (s : Setup) (masks : List ℕ) (q : ℕ) (is : q ≢ 0) where
  record Below (lo : ℕ) (us : List (List ℕ)) : Type 0 where
    before : lo < q
    none : first_uncertified s masks lo us ≡ 0
    ends : end_of lo us < q
    between : (r : ℕ) → end_of lo us < r → r < q → certified s masks r ≡ true

  below : (xs : List (List ℕ)) (p : List ℕ) → blocks s (some p) xs ≡ true → (lo : ℕ) → round p ≡ lo → first_uncertified s masks lo xs ≡ q
      → Below lo (beneath q xs)
  unfolding first_uncertified beneath
  below [] p f lo e u = absurd (is (sym u))
  below (x ∷ xs) p f lo e u =
      by_cond (λ v. v ≡ q → Below lo (cond (ltb (round x) q) (x ∷ beneath q xs) [])) (eqb (gap s masks lo (round x - lo - 1)) 0)
      (λ z v. on z (below xs x (blocks_parts s (some p) x xs f).2 (round x) refl v)) (λ z v. here v) u
    where
      up : lo < round x
      up = omega (arith, (child_parts p x (blocks_parts s (some p) x xs f).1).1)

      on : eqb (gap s masks lo (round x - lo - 1)) 0 ≡ true → Below (round x) (beneath q xs)
          → Below lo (cond (ltb (round x) q) (x ∷ beneath q xs) [])
      on z b =
          by_cond (Below lo) (ltb (round x) q)
          (λ _. record { before = omega (arith, b.before, up); none = cond_true _ _ z ∙ b.none; ends = b.ends; between = b.between })
          (λ t. absurd (omega (arith, ltb-false (round x) q t, b.before)))

      here : gap s masks lo (round x - lo - 1) ≡ q → Below lo (cond (ltb (round x) q) (x ∷ beneath q xs) [])
      here v =
          let g = gap_found s masks lo (round x - lo - 1) q v is in
          by_cond (Below lo) (ltb (round x) q) (λ t. absurd (omega (arith, ltb-true (round x) q t, g.1, up)))
          (λ _. record { before = g.0; none = refl; ends = g.0; between = g.2 })

-- what a 13 says
record Lacks (c : State) (k : ℕ) (x : List ℕ) (ys : List (List ℕ)) (q : ℕ) : Type 0 where
  runs : c.replica.round.0 ≢ c.replica.last_round.0 + 1
  late : c.replica.round.0 ≤ round (last_of x ys)
  first : lacking c k x ys ≡ q
  lies : q ≢ 0

lacks : (c : State) (k : ℕ) (x : List ℕ) (ys : List (List ℕ)) (q : ℕ) → received c k x ys ≡ verdict 13 q → Lacks c k x ys q
unfolding received
lacks c k x ys q =
    by_cond (λ v. v ≡ verdict 13 q → Lacks c k x ys q) (eqb c.replica.round.0 (c.replica.last_round.0 + 1))
    (λ _ v. absurd (omega (arith, ap (λ (u : Verdict). u.number) v)))
    (λ n. by_cond (λ v. v ≡ verdict 13 q → Lacks c k x ys q) (ltb (round (last_of x ys)) c.replica.round.0)
    (λ _ v. absurd (omega (arith, ap (λ (u : Verdict). u.number) v)))
    (λ l. by_cond (λ v. v ≡ verdict 13 q → Lacks c k x ys q) (eqb (lacking c k x ys) 0)
    (λ _ v. absurd (omega (arith, ap (λ (u : Verdict). u.number) v)))
    (λ z v. let e : lacking c k x ys ≡ q = ap (λ (u : Verdict). u.place) v in
    record { runs = eqb-false _ _ n; late = ltb-false _ _ l; first = e; lies = λ w. eqb-false _ _ z (e ∙ w) })))

-- a taken branch leaves R above its last round
round_after : (c : State) (a : ℕ) (x : List ℕ) (ys : List (List ℕ)) (entry out : List ℕ)
    → round (last_of x ys) < new_round (taken (adopting sha256 entry c a x ys) out)
unfolding taken adopting enter_round
round_after c a x ys entry out =
    by_cond (λ (e : Effect). round (last_of x ys) < e.state.replica.round.0) (leads (holding c _ _ _).replica)
    (λ _. unfold entered commit proposing holding tipped in omega arith) (λ _. unfold entered commit holding tipped in omega arith)

-- frames that d had above a block that c holds too, and that are answered 13 at c
module _ (s : Setup) (past : List Event) (i j : ℕ) (c d : State) (gc : Good s past i c) (rc : Rested c) (gd : Good s past j d) (k : ℕ)
    (held : Held (slot c.log) k) (same : slot c.log k ≡ slot d.log k) (x : List ℕ) (ys zs : List (List ℕ))
    (m : fetchable d.replica d.log (height (slot c.log k)) ≡ x ∷ (ys ++ zs)) (q : ℕ) (w : Lacks c k x ys q) where
  abbrev R : ℕ
  R = c.replica.round.0

  abbrev us : List (List ℕ)
  us = beneath q (x ∷ ys)

  under : Below s c.masks q w.lies k us
  under =
      below s c.masks q w.lies (x ∷ ys) (slot d.log k) (run_on s past i j c d gc rc gd k held same x ys zs m) k
      (round_d s past i j c d gc rc gd k held same x ys zs m) (sym (own s past i j c d gc rc gd k (x ∷ ys)) ∙ w.first)

  -- a certified round is below R
  passed : (r : ℕ) → certified s c.masks r ≡ true → r < R
  passed r t = go (leb R r) refl
    where
      go : (b : Bool) → leb R r ≡ b → r < R
      go true e =
          absurd (clash (ap (λ u. certified u c.masks r) (setup_is s i c.replica gc.fixed) ∙ t) (rc.ahead r (leb-true _ _ e)))
      go false e = leb-false _ _ e

  -- above R, the frames below q end right before it
  ends_right : R < q → end_of k us + 1 ≡ q
  ends_right u = go (leb q (end_of k us + 1)) refl
    where
      go : (b : Bool) → leb q (end_of k us + 1) ≡ b → end_of k us + 1 ≡ q
      go true e = omega (arith, leb-true q (end_of k us + 1) e, under.ends)
      go false e =
          let f : end_of k us + 1 < q = leb-false _ _ e in
          absurd (omega (arith, passed (q - 1) (under.between (q - 1) (omega arith) (omega arith))))

  -- where runs that reach R are taken
  module _ (ext : (z : List ℕ) (vs rest : List (List ℕ)) → fetchable d.replica d.log (height (slot c.log k)) ≡ z ∷ (vs ++ rest)
      → R ≤ round (last_of z vs) → Extending c k z vs) (entry out : List ℕ) (fits : length entry ≤ 400) (room : 1024 ≤ length out) where
    abbrev Taken : List (List ℕ) → Type 0
    Taken vs = (number (branch_call c (flatten vs) entry out) ≡ 0) × (q ≤ new_round (branch_call c (flatten vs) entry out))

    those : R < q → (vs : List (List ℕ)) → us ≡ vs → Taken vs
    those high [] e =
        absurd (omega (arith, ends_right high, ap (end_of k) e, tip_most s past i j c d gc rc gd k held same x ys zs m, gc.tip_below))
    those high (z ∷ vs) e =
        let r : (rest : List (List ℕ)) × (x ∷ ys ≡ us ++ rest) = beneath_front q (x ∷ ys) in
        let n : fetchable d.replica d.log (height (slot c.log k)) ≡ z ∷ (vs ++ (r.0 ++ zs)) =
        m ∙ ap (λ ws. ws ++ zs) (r.1 ∙ ap (λ ws. ws ++ r.0) e) ∙ append_assoc (z ∷ vs) r.0 zs in
        let end : round (last_of z vs) + 1 ≡ q = ap (λ t. t + 1) (sym (end_last k z vs) ∙ ap (end_of k) (sym e)) ∙ ends_right high in
        let late : R ≤ round (last_of z vs) = omega (arith, end) in
        let none : lacking c k z vs ≡ 0 =
        own s past i j c d gc rc gd k (z ∷ vs) ∙ ap (first_uncertified s c.masks k) (sym e) ∙ under.none in
        let o : branch_call c (flatten (z ∷ vs)) entry out ≡ taken (adopting sha256 entry c k z vs) out =
        taken_so s past i j c d gc rc gd (height (slot c.log k)) z vs (r.0 ++ zs) n k entry out fits room w.runs late
        (ext z vs (r.0 ++ zs) n late) none in (
          ap number o ∙ (unfold taken in refl),
          subst (λ t. q ≤ new_round t) (sym o) (omega (arith, end, round_after c k z vs entry out)),
        )

    no_dead_end : (q ≤ R) ⊎ Taken us
    no_dead_end = go (leb q R) refl
      where
        go : (b : Bool) → leb q R ≡ b → (q ≤ R) ⊎ Taken us
        go true z = inl (leb-true _ _ z)
        go false z = inr (those (leb-false _ _ z) us refl)

pub split : Split
split s calls l i j c d ec ed k sh x ys zs m q e =
    let past : List Event = (run start calls).past in
    let gc : Good s past i c = goods s calls l i c ec in
    let rc : Rested c = rests s calls l i c ec in
    let gd : Good s past j d = goods s calls l j d ed in
    no_dead_end s past i j c d gc rc gd k sh.held sh.same x ys zs m q (lacks c k x ys q e)
    (λ z vs rest n _. extending s past i j c d gc rc gd k sh.held sh.same z vs rest n sh.from_committed)

pub split_later : SplitLater
split_later s correct calls p i j c c₀ d ec hc hd x ys zs m q e =
    let k : ℕ = c₀.replica.committed_round.0 in
    let w : Lacks c k x ys q = lacks c k x ys q e in
    let held : Held (slot c.log) k = held₀ s correct calls p i j c c₀ d ec hc hd in
    let same : slot c.log k ≡ slot d.log k = same₀ s correct calls p i j c c₀ d ec hc hd x ys zs m w.late in
    no_dead_end s (run start calls).past i j c d (gc s correct calls p i j c c₀ d ec hc hd) (rc s correct calls p i j c c₀ d ec hc hd)
    (gd s correct calls p i j c c₀ d ec hc hd) k held same x ys zs (from₀ s correct calls p i j c c₀ d ec hc hd x ys zs m) q w
    (λ z vs rest n late. extending_late s (run start calls).past i j c d (gc s correct calls p i j c c₀ d ec hc hd)
    (rc s correct calls p i j c c₀ d ec hc hd) (gd s correct calls p i j c c₀ d ec hc hd) k held same z vs rest n correct
    (honest s correct calls p) late)
