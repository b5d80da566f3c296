-- Laws of the schedule of a block, of the sixteen words of it that are at hand, and of the rounds. Assumes nothing.
use Rattle.std.proofs.Common.{◌≡◌, ℕ, zero, suc, ◌+◌, ◌-◌, ◌*◌, ◌%◌, ◌<◌, ◌≤◌, List, [], length, get_or, set, sym, refl, ap, ◌∙◌, ⊎_elim, le_of_suc-le-suc, eq-or-lt_of_le, add-one, arith, length-append, length-set, get_or-set_other, get_or-set_same, le-ltb, lt-ltb}
use lib.ListN.{get_or-append}
use lib.Seq.{get_or_at}
use Rattle.compression.specs.declared.State.{State}
use Rattle.compression.specs.Fips.{K, word_at, add32, σ0, σ1, schedule_word, schedule, round, rounds, plus, compress}
use Rattle.compression.specs.Window.{Window, Turned}

length_schedule : (b : List ℕ) (n : ℕ) → length (schedule b n) ≡ n
unfolding schedule
length_schedule b zero = refl
length_schedule b (suc n) = length-append (schedule b n) _ ∙ rw (length_schedule b n, add-one)

-- a longer schedule begins with a shorter one
schedule_begins : (b : List ℕ) (n u : ℕ) → u < n → get_or (schedule b (suc n)) u 0 ≡ get_or (schedule b n) u 0
unfolding schedule
schedule_begins b n u h = get_or-append (schedule b n) _ 0 u (rw length_schedule h)

schedule_same : (b : List ℕ) (n t u : ℕ) → u < t → t ≤ n → get_or (schedule b n) u 0 ≡ get_or (schedule b t) u 0
schedule_same b zero t u h g = absurd (omega arith)
schedule_same b (suc n) t u h g =
    ⊎_elim (λ e. rw e) (λ l. schedule_begins b n u (omega arith) ∙ schedule_same b n t u h (le_of_suc-le-suc l)) (eq-or-lt_of_le g)

-- each word of a schedule is made from those before it
schedule_word_lem : (b : List ℕ) (n t : ℕ) → t < n → get_or (schedule b n) t 0 ≡ schedule_word b (schedule b t) t
unfolding schedule
schedule_word_lem b n t h =
    schedule_same b n (suc t) t (omega arith) h
    ∙ get_or_at (schedule b t) (schedule_word b (schedule b t) t) [] 0 t (length_schedule b t)

pub word_loaded : (b : List ℕ) (t : ℕ) → t < 16 → get_or (schedule b 64) t 0 ≡ word_at b (4 * t)
word_loaded b t h = schedule_word_lem b 64 t (omega arith) ∙ rw (lt-ltb t 16 h)

-- the sum that makes a word from the four words before it
abbrev mixed : ℕ → ℕ → ℕ → ℕ → ℕ
mixed w14 w9 w1 w0 = add32 (add32 (add32 (σ1 w14) w9) (σ0 w1)) w0

word_extended : (b : List ℕ) (t : ℕ) → 16 ≤ t → t < 64
    → get_or (schedule b 64) t 0
    ≡ mixed (get_or (schedule b 64) (t - 2) 0) (get_or (schedule b 64) (t - 7) 0) (get_or (schedule b 64) (t - 15) 0)
    (get_or (schedule b 64) (t - 16) 0)
word_extended b t h g =
    schedule_word_lem b 64 t g
    ∙ rw
    (le-ltb t 16 h, schedule_same b 64 t (t - 2) (omega arith) (omega arith), schedule_same b 64 t (t - 7) (omega arith) (omega arith), schedule_same b 64 t (t - 15) (omega arith) (omega arith), schedule_same b 64 t (t - 16) (omega arith) (omega arith))

-- word t takes its place
window_step : (W w : List ℕ) (t x : ℕ) → Window W w t → x ≡ get_or W t 0 → Window W (set w (t % 16) x) (t + 1)
window_step W w t x o e =
    record {
      wide = length-set w (t % 16) x ∙ o.wide;
      holds = λ u h g. ⊎_elim (λ q. same u (omega arith)) (λ l. other u (omega arith) (omega arith)) (eq-or-lt_of_le h);
    }
  where
    same : (u : ℕ) → u ≡ t → get_or (set w (t % 16) x) (u % 16) 0 ≡ get_or W u 0
    same u q = rw q (get_or-set_same w (t % 16) x 0 (omega (arith, o.wide)) ∙ e)

    other : (u : ℕ) → u < t → t < u + 16 → get_or (set w (t % 16) x) (u % 16) 0 ≡ get_or W u 0
    other u h g = get_or-set_other w (t % 16) (u % 16) x 0 (omega arith) ∙ o.holds u h (omega arith)

pub load_step : (b w : List ℕ) (t x : ℕ) → t < 16 → x ≡ word_at b (4 * t) → Window (schedule b 64) w t
    → (x ≡ get_or (schedule b 64) t 0) × Window (schedule b 64) (set w t x) (t + 1)
load_step b w t x h e o =
    let q : x ≡ get_or (schedule b 64) t 0 = e ∙ sym (word_loaded b t h) in
    let m : t % 16 ≡ t = omega arith in
    (q, rw m at (window_step (schedule b 64) w t x o q))

-- the word u of the schedule, where it stands
window_at : (W w : List ℕ) (t u i : ℕ) → Window W w t → u < t → t ≤ u + 16 → u % 16 ≡ i → get_or w i 0 ≡ get_or W u 0
window_at W w t u i o h g e = rw (← e) (o.holds u h g)

pub extend_step : (w : List ℕ) (i x : ℕ)
    → x ≡ mixed (get_or w ((i + 14) % 16) 0) (get_or w ((i + 9) % 16) 0) (get_or w ((i + 1) % 16) 0) (get_or w i 0)
    → (b : List ℕ) (t : ℕ) → 16 ≤ t → t < 64 → t % 16 ≡ i → Window (schedule b 64) w t
    → (x ≡ get_or (schedule b 64) t 0) × Window (schedule b 64) (set w i x) (t + 1)
extend_step w i x e b t h g m o =
    let at : (u j : ℕ) → u < t → t ≤ u + 16 → u % 16 ≡ j → get_or w j 0 ≡ get_or (schedule b 64) u 0 =
    λ u j. window_at (schedule b 64) w t u j o in
    let q : x ≡ get_or (schedule b 64) t 0 =
    e
    ∙ rw
    (at (t - 2) ((i + 14) % 16) (omega arith) (omega arith) (omega arith), at (t - 7) ((i + 9) % 16) (omega arith) (omega arith) (omega arith), at (t - 15) ((i + 1) % 16) (omega arith) (omega arith) (omega arith), at (t - 16) i (omega arith) (omega arith) (omega arith))
    (sym (word_extended b t h g)) in
    (q, rw m at (window_step (schedule b 64) w t x o q))

-- one round more
pub turned_step : {s v v' : State} {W w w' : List ℕ} {t x : ℕ} (t' : ℕ) (k : List ℕ) → k ≡ K → t' ≡ t + 1
    → (Window W w t → (x ≡ get_or W t 0) × Window W w' (t + 1)) → v' ≡ round v (get_or k t 0) x → Turned s W t v w
    → Turned s W t' v' w'
unfolding rounds
turned_step {s} {v} {W} {t} {x} t' k e n f r o =
    let g : (x ≡ get_or W t 0) × _ = f o.words in
    record {
      variables = rw (n, add-one) (r ∙ rw (e, o.variables, g.0));
      words = rw n g.1;
    }

-- the end of a block
pub compress_end : {s v : State} {w : List ℕ} {t : ℕ} (b : List ℕ) (r : State) → t ≤ 64 → 64 ≤ t → Turned s (schedule b 64) t v w
    → r ≡ plus s v → r ≡ compress s b
unfolding compress
compress_end {s} {v} {t} b r h g o e =
    let n : t ≡ 64 = omega arith in
    e ∙ ap (plus s) (o.variables ∙ rw n)
