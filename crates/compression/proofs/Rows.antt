-- Laws of messages side by side. Assumes nothing.
use Rattle.std.proofs.Common.{◌≡◌, ℕ, ◌+◌, ◌*◌, ◌%◌, ◌<◌, ◌≤◌, List, [], get_or, set, length, ap, sym, ◌∙◌, add-one, refl, arith, ⊎_elim, eq-or-lt_of_le, get_or-set_other, get_or-set_same}
use Rattle.std.proofs.Math.ListN.{get_or-map}
use Rattle.std.proofs.Math.Seq.{map-set_same}
use Rattle.std.proofs.lemmas.List.{map-set}
use Rattle.std.specs.Borrow.{Bor}
use Rattle.compression.specs.Fips.{K, word_at, add32, σ0, σ1, schedule, round, rounds}
use Rattle.compression.specs.declared.State.{State}
use Rattle.compression.specs.Window.{Window}
use Rattle.compression.specs.declared.Lanes.{Lanes}
use Rattle.compression.specs.Lanes.{words_at, state_at, Kept, Put, Loaded, bytes_at}
use Rattle.compression.proofs.Schedule.{load_step, extend_step}

-- word i of lane l
pub word_of : (w : List (List ℕ)) (l i : ℕ) → get_or (words_at w l) i 0 ≡ get_or (get_or w i []) l 0
word_of w l i = get_or-map (λ (row : List ℕ). get_or row l 0) w i []

-- a row with another word in lane l
words_put : (w : List (List ℕ)) (r : List ℕ) (i l x : ℕ) → get_or r l 0 ≡ x → words_at (set w i r) l ≡ set (words_at w l) i x
words_put w r i l x e = map-set (λ (row : List ℕ). get_or row l 0) w i r ∙ ap (λ (y : ℕ). set (words_at w l) i y) e

pub words_kept : (w : List (List ℕ)) (r : List ℕ) (i l : ℕ)
    → ((m : ℕ) → (m ≡ l → ⊥) → get_or r m 0 ≡ get_or (get_or w i []) m 0) → Kept l w (set w i r)
words_kept w r i l h = record { same = λ m n. map-set_same (λ (row : List ℕ). get_or row m 0) w i r [] (h m n) }

-- word t of the schedule takes its place in lane l
pub words_extend : (w : List (List ℕ)) (r : List ℕ) (i l x : ℕ) → get_or r l 0 ≡ x
    → x
    ≡ add32
    (add32 (add32 (σ1 (get_or (get_or w ((i + 14) % 16) []) l 0)) (get_or (get_or w ((i + 9) % 16) []) l 0)) (σ0 (get_or (get_or w ((i + 1) % 16) []) l 0)))
    (get_or (get_or w i []) l 0)
    → (b : List ℕ) (t : ℕ) → 16 ≤ t → t < 64 → t % 16 ≡ i → Window (schedule b 64) (words_at w l) t
    → (x ≡ get_or (schedule b 64) t 0) × Window (schedule b 64) (words_at (set w i r) l) (t + 1)
words_extend w r i l x e q =
    rw (words_put w r i l x e)
    (extend_step (words_at w l) i x
    (rw (word_of w l ((i + 14) % 16), word_of w l ((i + 9) % 16), word_of w l ((i + 1) % 16), word_of w l i) q))

-- a round over words that all are at hand
pub held_step : (w : List (List ℕ)) (l t : ℕ) (k : List ℕ) {s r : State} → k ≡ K → t < 16 → r ≡ round s (get_or k t 0) (get_or (get_or w t []) l 0)
    → (h : State) (b : List ℕ) → Window (schedule b 64) (words_at w l) 16 → s ≡ rounds h (schedule b 64) t
    → r ≡ rounds h (schedule b 64) (t + 1)
unfolding rounds
held_step w l t k e g q h b o p =
    let m : t % 16 ≡ t = omega arith in
    let x : get_or (get_or w t []) l 0 ≡ get_or (schedule b 64) t 0 = sym (word_of w l t) ∙ (rw m at (o.holds t g (omega arith))) in
    rw add-one (q ∙ rw (e, p, x))

-- the lanes below l of n are done, and the others are left
pub record Upto (n l : ℕ) (P Q : ℕ → Type 0) : Type 0 where
  pub done : (m : ℕ) → m < l → P m
  pub left : (m : ℕ) → l ≤ m → m < n → Q m

pub upto_step : {P Q P' Q' : ℕ → Type 0} {n : ℕ} (l : ℕ) → l < n → (Q l → P' l) → ((m : ℕ) → (m ≡ l → ⊥) → P m → P' m)
    → ((m : ℕ) → (m ≡ l → ⊥) → Q m → Q' m) → Upto n l P Q → Upto n (l + 1) P' Q'
upto_step {P} {Q} {P'} {Q'} l g here below above u =
    record {
      done = λ m a. ⊎_elim (λ e. at m (omega arith)) (λ a2. below m (λ e. omega arith) (u.done m (omega arith))) (eq-or-lt_of_le a);
      left = λ m a q. above m (λ e. omega arith) (u.left m (omega arith) q);
    }
  where
    at : (m : ℕ) → m ≡ l → P' m
    at m e = rw e (here (u.left l (omega arith) g))

-- the words of one lane more are written
pub upto_put : (P Q : ℕ → State → Type 0) {n : ℕ} {v v' : Lanes n} {r : State} (l : ℕ) → l < n → (Q l (state_at v l) → P l r) → Put l r v v'
    → Upto n l (λ m. P m (state_at v m)) (λ m. Q m (state_at v m)) → Upto n (l + 1) (λ m. P m (state_at v' m)) (λ m. Q m (state_at v' m))
upto_put P Q l g f u =
    upto_step l g (λ q. rw u.here (f q)) (λ m n p. rw (u.same m n) p) (λ m n q. rw (u.same m n) q)

-- word t of each lane is loaded
pub loaded_more : {L : ℕ} {b : ℕ → List ℕ} {w : List (List ℕ)} (r : List ℕ) {t : ℕ} → t < 16
    → ((m : ℕ) → m < L → get_or r m 0 ≡ word_at (b m) (4 * t)) → Loaded L b t w → Loaded L b (t + 1) (set w t r)
loaded_more {b = b} {w} r {t} h e o =
    let p = λ (m : ℕ). words_put w r t m (get_or r m 0) refl in
    record { at = λ m q. rw (p m) (load_step (b m) (words_at w m) t (get_or r m 0) h (e m q) (o.at m q)).1 }

-- the bytes of a lane are what its reference points to
pub bytes_are : (b : List (Bor (List ℕ))) (m : ℕ) → bytes_at b m ≡ (get_or b m (record { ref_ptr = (0, 0); now = [] })).now
bytes_are b m = get_or-map (λ (block : Bor (List ℕ)). block.now) b m (record { ref_ptr = (0, 0); now = [] })

-- one word more of a row
pub word_put : (r : List ℕ) {f : ℕ → ℕ} (x l : ℕ) → l < length r → ((m : ℕ) → m < l → get_or r m 0 ≡ f m) → x ≡ f l
    → (m : ℕ) → m < l + 1 → get_or (set r l x) m 0 ≡ f m
word_put r {f} x l h o e m q =
    ⊎_elim (λ d. here m (omega arith)) (λ b. get_or-set_other r l m x 0 (omega arith) ∙ o m (omega arith)) (eq-or-lt_of_le q)
  where
    here : (m : ℕ) → m ≡ l → get_or (set r l x) m 0 ≡ f m
    here m d = rw d (get_or-set_same r l x 0 h ∙ e)
