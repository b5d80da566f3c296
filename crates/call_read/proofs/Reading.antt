-- Read as the code answers it. Assumes nothing.
use mathlib.Core.Path.{◌≡◌, refl, sym, subst, ◌∙◌}
use mathlib.Core.Bool.{Bool, true, false, ◌&&◌, not, cond}
use mathlib.Core.List.{List}
use Prim.Native.Nat.{ℕ, zero, suc, ◌+◌, ◌-◌, ◌*◌, ◌≤◌}
use native.Mathlib.Omega.{arith}
use lib.Dec.{eqb, leb}
use lib.ListN.{length}
use borrow.Author.Tests.{eq-eqb, ne_eqb, eqb-false, leb-true, not-false}
use Rattle.std.specs.Prelude.{Ok, Err}
use Rattle.std.specs.Option.{ok_or}
use Rattle.apollo.specs.Size.{frame_size}
use Rattle.apollo.specs.declared.Replica.{Replica}
use Rattle.apollo.specs.declared.Part.{Part}
use Rattle.apollo.specs.Bytes.{part}
use Rattle.apollo.specs.Frame.{entry_length, height}
use Rattle.apollo.specs.Log.{slot, filled}
use Rattle.apollo.specs.Found.{found}
use Rattle.apollo.specs.Replica.{valid_replica}
use Rattle.apollo.specs.Read.{ReadOutcome, part_of, readable, lowest, read_call}
use Rattle.apollo.proofs.Tests.{and_second, by_cond}
use Rattle.apollo.proofs.Validity.{Valid, valid}
use Rattle.call_read.specs.Answers.{no_part, entry_part, told}

module _ (r : Replica) (log : List ℕ) (h : ℕ) (v : Bool) (e : v ≡ valid_replica r log) where
  pub read_invalid : v ≡ false → no_part 2 ≡ (read_call r log h).answer
  unfolding read_call
  read_invalid f = rw (← e, f)

  -- a log of T slots has all rounds up to the committed one
  pub committed_fits : v ≡ true → frame_size * r.committed_round.0 ≤ length log
  committed_fits t =
      let w : Valid r log = valid r log (sym e ∙ t) in
      omega (arith, w.setup.size, w.round_most, w.tip_below, w.committed_most)

  module _ (t : v ≡ true) (q : ℕ) (d : q ≡ lowest log h 0 r.committed_round.0) where
    pub read_absent : q ≡ 0 → no_part 15 ≡ (read_call r log h).answer
    unfolding read_call
    read_absent z = rw (← e, t, ← d, eq-eqb q 0 z)

    pub read_found : (q ≡ 0 → ⊥) → told (Ok (entry_part log q)) ≡ (read_call r log h).answer
    unfolding read_call
    read_found n =
        let s : ℕ = frame_size * (q - 1) + 44 in
        let l : s + entry_length (slot log q) - s ≡ entry_length (slot log q) = omega arith in
        rw (← e, t, ← d, ne_eqb q 0 n, l)

-- the round looked for, by what `ok_or` makes of it
module _ {E : Type 0} (a : E) where
  pub no_round : (q : ℕ) (e : E) → Err e ≡ ok_or (found q) a → (e ≡ a) × (q ≡ 0)
  unfolding found
  no_round zero e p = (cc, refl)
  no_round (suc q) e p = cc

  pub the_round : (q r : ℕ) → Ok r ≡ ok_or (found q) a → (r ≡ q) × (q ≡ 0 → ⊥)
  unfolding found
  the_round zero r p = cc
  the_round (suc q) r p = (cc, λ z. omega arith)

-- the bytes shown are those of the part
shown : (log : List ℕ) (a b : Bool) (m n k s l : ℕ) → (o : ReadOutcome)
    → o ≡ cond a (part_of log m 0 0) (cond b (part_of log n 0 0) (part_of log k s l))
    → part log o.answer.start o.answer.length ≡ o.bytes
shown log true b m n k s l o e = rw e
shown log false true m n k s l o e = rw e
shown log false false m n k s l o e = rw e

pub read_bytes : (r : Replica) (log : List ℕ) (h : ℕ) → part log (read_call r log h).answer.start (read_call r log h).answer.length ≡ (read_call r log h).bytes
unfolding read_call
read_bytes r log h =
    let q : ℕ = lowest log h 0 r.committed_round.0 in
    shown log (not (valid_replica r log)) (eqb q 0) 2 15 0 (frame_size * (q - 1) + 44) (entry_length (slot log q)) (read_call r log h) refl

-- the lowest slot, if there is one, is one of those looked at, and readable
lowest_found : (log : List ℕ) (h lo k : ℕ) → (lowest log h lo k ≡ 0 → ⊥)
    → (lowest log h lo k ≤ lo + k) × (readable (slot log (lowest log h lo k)) h ≡ true)
unfolding lowest
lowest_found log h lo zero = λ n. absurd (n refl)
lowest_found log h lo (suc k) =
    by_cond (λ q. (q ≡ 0 → ⊥) → (q ≤ lo + suc k) × (readable (slot log q) h ≡ true)) (readable (slot log (lo + 1)) h) (λ e n. (omega arith, e))
    (λ e n. let i : (lowest log h (lo + 1) k ≤ lo + 1 + k) × (readable (slot log (lowest log h (lo + 1) k)) h ≡ true) = lowest_found log h (lo + 1) k n in
    (omega (arith, i.0), i.1))

entry_low : (x : List ℕ) (h : ℕ) → readable x h ≡ true → entry_length x ≤ 400
unfolding readable
entry_low x h e = leb-true (entry_length x) 400 (and_second (filled x && eqb (height x) h) (leb (entry_length x) 400) e)

-- the part lies in the log, whole
pub part_fits : (r : Replica) (log : List ℕ) (h : ℕ) → (read_call r log h).answer.start + (read_call r log h).answer.length ≤ length log
unfolding read_call
part_fits r log h =
    let Fits : ReadOutcome → Type 0 = λ o. o.answer.start + o.answer.length ≤ length log in
    let q : ℕ = lowest log h 0 r.committed_round.0 in
    by_cond Fits (not (valid_replica r log)) (λ _. omega arith)
    (λ v. by_cond Fits (eqb q 0) (λ _. omega arith)
    (λ n.
    let some : (q ≡ 0 → ⊥) = eqb-false q 0 n in
    let found : (q ≤ 0 + r.committed_round.0) × (readable (slot log q) h ≡ true) = lowest_found log h 0 r.committed_round.0 some in
    let within : frame_size * r.committed_round.0 ≤ length log = committed_fits r log h true (sym (not-false _ v)) refl in
    let g : frame_size * (q - 1) + 44 + entry_length (slot log q) ≤ length log =
    omega (arith, found.0, within, entry_low (slot log q) h found.1) in
    g))

-- and so its end
pub ends_low : (r : Replica) (log : List ℕ) (h a b : ℕ) → record { number = 0; start = a; length = b - a } ≡ (read_call r log h).answer
    → a ≤ b → b ≤ length log
ends_low r log h a b e l =
    let f : a + (b - a) ≤ length log = subst (λ (p : Part). p.start + p.length ≤ length log) (sym e) (part_fits r log h) in
    omega (arith, f)
