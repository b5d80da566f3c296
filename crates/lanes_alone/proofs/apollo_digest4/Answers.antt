-- `lanes_alone::apollo_digest4` meets its contract: by the length, and by that of `digest4`. Assumes nothing.
use Rattle.std.proofs.Common.{◌≡◌, ℕ, zero, suc, ◌*◌, ◌/◌, ◌<◌, List, [], ◌∷◌, get_or, length, map, take, drop, sym, ap, ◌∙◌, arith, rules, refl, eq-eqb, ne_eqb}
use Rattle.std.proofs.lemmas.List.{take-take, drop-drop}
use borrow.Author.Tests.{eqb-true, eqb-false}
use Rattle.std.specs.Borrow.{Bor}
use Rattle.std.specs.Simd.{first_chunks}
use Rattle.lanes.specs.declared.Four.{Four}
use Rattle.sha256.specs.Fips.{sha256}
use Rattle.apollo.specs.Bytes.{part, zeros}
use Rattle.lanes.proofs.Mapped.{maps_each}
use Rattle.lanes.proofs.Digest.{message, four_digests}
use Rattle.lanes_alone.specs.Digests.{digests}
use Rattle.lanes_alone.proofs.apollo_digest4.Goals as goal

-- a frame, as long as its type says
abbrev Whole : Bor (List ℕ) → Type 0
Whole x = length x.now ≡ 512

made : (b : List ℕ) (m : List (Bor (List ℕ))) (r : Four) → length b ≡ 2048 → length m ≡ 4
    → message m 0 ≡ part b 0 480 → message m 1 ≡ part b 512 480 → message m 2 ≡ part b 1024 480 → message m 3 ≡ part b 1536 480
    → r.0 ≡ map (λ (x : Bor (List ℕ)). sha256 x.now) m → r ≡ digests b
unfolding digests
made b m r l n p0 p1 p2 p3 e =
    let d : (k : ℕ) (y : List ℕ) → message m k ≡ y → sha256 y ≡ sha256 (message m k) = λ k y q. ap sha256 (sym q) in
    let q = e ∙ sym (four_digests m _ _ _ _ n (d 0 _ p0) (d 1 _ p1) (d 2 _ p2) (d 3 _ p3)) in
    rw (eq-eqb (length b) 2048 l, ← q)

-- the bytes of a frame before its check
front : (b : List ℕ) (fs : List (List ℕ)) → fs ≡ first_chunks 512 4 b → (k : ℕ) → k < 4
    → take 480 (get_or fs k []) ≡ part b (512 * k) 480
front b fs e k h =
    ap (λ (l : List (List ℕ)). take 480 (get_or l k [])) e ∙ ap (take 480) (cut k h)
    ∙ take-take 480 512 (drop (512 * k) b) (omega arith)
  where
    cut : (k : ℕ) → k < 4 → get_or (first_chunks 512 4 b) k [] ≡ take 512 (drop (512 * k) b)
    cut zero h = refl
    cut (suc zero) h = refl
    cut (suc (suc zero)) h = ap (take 512) (drop-drop 512 512 b)
    cut (suc (suc (suc zero))) h = ap (take 512) (drop-drop 512 512 (drop 512 b) ∙ drop-drop 1024 512 b)
    cut (suc (suc (suc (suc k)))) h = absurd (omega arith)

other : (b : List ℕ) (r : Four) → (length b ≡ 2048 → ⊥) → r.0 ≡ zeros 32 ∷ zeros 32 ∷ zeros 32 ∷ zeros 32 ∷ [] → r ≡ digests b
unfolding digests
other b r n e = rw (ne_eqb (length b) 2048 n, ← e)

pub returns-in-len4 : goal.returns-in-len4
returns-in-len4 c =
    let b = c.args.frames.now in
    let z : length c.as_chunks.result.1.now ≡ 0 = eqb-true _ 0 (sym c.is_empty.ensures ∙ c.if-is_empty.true) in
    let n : length b / 512 ≡ 4 = omega arith in
    let f : (k : ℕ) → k < 4 → _ = front b c.as_chunks.result.0.now (c.as_chunks.ensures.front ∙ ap (λ k. first_chunks 512 k b) n) in
    let at : (k : ℕ) → k < 4 → _ =
    λ k h. maps_each _ _ Whole (λ x y. y.now ≡ take 480 x.now) _ c.map.result 4 refl (λ k d h. search rules) c.map.ensures.items
    (λ x y q l h. search rules) k (record { ref_ptr = (0, 0); now = [] }) (record { ref_ptr = (0, 0); now = [] }) h in
    made b c.map.result _ (omega arith) c.map.ensures.items.long
    (at 0 (omega arith) ∙ f 0 (omega arith)) (at 1 (omega arith) ∙ f 1 (omega arith))
    (at 2 (omega arith) ∙ f 2 (omega arith)) (at 3 (omega arith) ∙ f 3 (omega arith)) c.digest4.ensures

pub returns-in_default : goal.returns-in_default
unfolding zeros
returns-in_default c = other _ _ (λ e. omega (arith, e)) refl

pub returns-in_default-2 : goal.returns-in_default-2
unfolding zeros
returns-in_default-2 c =
    let z : length c.as_chunks.result.1.now ≡ 0 → ⊥ = eqb-false _ 0 (sym c.is_empty.ensures ∙ c.if-is_empty.false) in
    other _ _ (λ e. z (omega (arith, e))) refl

pub returns-in_default-3 : goal.returns-in_default-3
unfolding zeros
returns-in_default-3 c = other _ _ (λ e. omega (arith, e)) refl
