-- The slots of a log as a walk upward gives them, and the search for the lowest readable one. Assumes nothing.
use mathlib.Core.Path.{◌≡◌, refl, sym, ap, ◌∙◌}
use mathlib.Core.Bool.{true, false}
use mathlib.Core.List.{List, [], ◌∷◌, ◌++◌}
use Prim.Native.Nat.{ℕ, zero, suc, ◌+◌, ◌-◌, ◌*◌, ◌≤◌, ◌<◌}
use native.Mathlib.Numerals.{add-one}
use native.Mathlib.Omega.{arith}
use lib.ListN.{length, take, drop, length-take, length-drop, length-append}
use lib.Seq.{take-take, drop-drop}
use Rattle.std.proofs.lemmas.List.{drop-take, take_at, drop_at}
use Rattle.std.proofs.lemmas.Iterator.{YieldsList}
use Rattle.std.specs.Prelude.{Option, Some, None}
use Rattle.std.specs.Option.{MatchOption}
use Rattle.std.specs.List.{AllWithin, HoldsAt}
use Rattle.std.specs.Iterator.{AlwaysYields}
use Rattle.std.specs.Slice.Iter.{chunks_exact_rest, chunks_exact_size, chunks_exact_steps}
use Rattle.std.specs.declared.slice.ChunksExact.{ChunksExact}
use Rattle.apollo.specs.Size.{frame_size}
use Rattle.apollo.specs.Log.{slot}
use Rattle.apollo.specs.Read.{readable, lowest}

-- the n slots above round lo
abbrev pub slots : (log : List ℕ) (lo n : ℕ) → List (List ℕ)
slots log lo zero = []
slots log lo (suc n) = slot log (lo + 1) ∷ slots log (lo + 1) n

pub length_slots : (log : List ℕ) (lo n : ℕ) → length (slots log lo n) ≡ n
length_slots log lo zero = refl
length_slots log lo (suc n) = ap suc (length_slots log (lo + 1) n)

module _ (log : List ℕ) where
  -- the bytes of those slots, the first of which is x
  bytes : (lo n : ℕ) → List ℕ
  bytes lo n = take (frame_size * n) (drop (frame_size * lo) log)

  bytes_length : (lo n : ℕ) → frame_size * (lo + n) ≤ length log → length (bytes lo n) ≡ frame_size * n
  unfolding bytes
  bytes_length lo n h = simp (length-take, length-drop) (omega arith)

  first_slot : (lo n : ℕ) (x t : List ℕ) → bytes lo (suc n) ≡ x ++ t → length x ≡ frame_size → x ≡ slot log (lo + 1)
  unfolding bytes slot
  first_slot lo n x t e h =
      rw add-one
      (sym (take_at x t _ h) ∙ ap (take frame_size) (sym e)
      ∙ take-take frame_size (frame_size * suc n) (drop (frame_size * lo) log) (omega arith))

  other_slots : (lo n : ℕ) (x t : List ℕ) → bytes lo (suc n) ≡ x ++ t → length x ≡ frame_size → t ≡ bytes (lo + 1) n
  unfolding bytes
  other_slots lo n x t e h =
      let p : frame_size * suc n ≡ frame_size + frame_size * n = omega arith in
      let q : frame_size * lo + frame_size ≡ frame_size * (lo + 1) = omega arith in
      sym (drop_at x t _ h)
      ∙ ap (drop frame_size) (sym e ∙ ap (λ (k : ℕ). take k (drop (frame_size * lo) log)) p)
      ∙ drop-take frame_size (frame_size * n) (drop (frame_size * lo) log)
      ∙ ap (take (frame_size * n)) (drop-drop frame_size (frame_size * lo) log ∙ ap (λ (k : ℕ). drop k log) q)

  gives_slots : (lo n : ℕ) (s : ChunksExact ℕ) → frame_size * (lo + n) ≤ length log → chunks_exact_size s ≡ frame_size
      → chunks_exact_rest s ≡ bytes lo n → AlwaysYields chunks_exact_steps (λ x. x.now) s (slots log lo n)
  gives_slots lo zero s g h e = λ x j p.
      omega (arith, h, ap length e, bytes_length lo 0 g, p.1.1, ap length p.1.0, length-append x.now (chunks_exact_rest j))
  gives_slots lo (suc n) s g h e = (
    (λ j p. omega (arith, h, ap length e, bytes_length lo (suc n) g, p.1.0)),
    λ x j p. (
      first_slot lo n x.now (chunks_exact_rest j) (sym e ∙ p.1.0) (p.1.1 ∙ h),
      gives_slots (lo + 1) n j (omega arith) (p.0 ∙ h) (other_slots lo n x.now (chunks_exact_rest j) (sym e ∙ p.1.0) (p.1.1 ∙ h)),
    ),
  )

-- those up to round c
pub YieldsList-from_log : {s : ChunksExact ℕ} (log : List ℕ) (c : ℕ) → frame_size * c ≤ length log
    → chunks_exact_rest s ≡ take (frame_size * c) log → chunks_exact_size s ≡ frame_size
    → YieldsList chunks_exact_steps (λ x. x.now) s (slots log 0 c)
unfolding bytes
YieldsList-from_log {s} log c g e h = record { runs = gives_slots log 0 c s (omega arith) h e }

-- those above round lo
pub YieldsList-from_rest : {s : ChunksExact ℕ} (log : List ℕ) (lo c : ℕ) → lo ≤ c → frame_size * c ≤ length log
    → chunks_exact_rest s ≡ take (frame_size * c - frame_size * lo) (drop (frame_size * lo) log) → chunks_exact_size s ≡ frame_size
    → YieldsList chunks_exact_steps (λ x. x.now) s (slots log lo (c - lo))
unfolding bytes
YieldsList-from_rest {s} log lo c l g e h =
    let q : frame_size * c - frame_size * lo ≡ frame_size * (c - lo) = omega arith in
    record { runs = gives_slots log lo (c - lo) s (omega arith) h (e ∙ ap (λ (k : ℕ). take k (drop (frame_size * lo) log)) q) }

-- what `position` gives
abbrev pub First : {X : Type 0} (Yes No : X → Type 0) (xs : List X) → Option ℕ → Type 0
First Yes No xs r = MatchOption r (AllWithin No xs 0 (length xs)) (λ i. (i < length xs) × HoldsAt Yes xs i × AllWithin No xs 0 i)

module _ (log : List ℕ) (h : ℕ) where
  pub lowest_first : (lo n : ℕ) (r : Option ℕ) → First (λ x. readable x h ≡ true) (λ x. readable x h ≡ false) (slots log lo n) r
      → MatchOption r (lowest log h lo n ≡ 0) (λ i. (i < n) × (lowest log h lo n ≡ lo + i + 1))
  unfolding lowest
  lowest_first lo zero None e = refl
  lowest_first lo (suc n) None e =
      rw (e 0 [] (omega arith) (omega arith)) (lowest_first (lo + 1) n None (λ k d a b. e (suc k) d (omega arith) (omega arith)))
  lowest_first lo zero (Some i) e = absurd (omega (arith, e.0))
  lowest_first lo (suc n) (Some zero) e = (omega arith, rw (e.1 []) (omega arith))
  lowest_first lo (suc n) (Some (suc i)) e =
      let f : (i < n) × (lowest log h (lo + 1) n ≡ lo + 1 + i + 1) =
      lowest_first (lo + 1) n (Some i) (omega (arith, e.0), e.1, λ k d a b. e.2 (suc k) d (omega arith) (omega arith)) in
      (omega (arith, f.0), rw (e.2 0 [] (omega arith) (omega arith)) (omega (arith, f.1)))
