-- Rotations: n seats in which each of n cards sits once, so the cards in any two seats differ and are below n; n seats that lack no card
-- are one, as code tests it; and the old turn is one. Assumes nothing.
use Prim.Native.Nat.{ℕ, zero, suc, ◌+◌, ◌-◌, ◌%◌, ◌≤◌, ◌<◌}
use mathlib.Core.Path.{◌≡◌, refl, sym, ap, ◌∙◌}
use mathlib.Core.Logic.{◌≢◌}
use mathlib.Core.List.{List, [], ◌∷◌, ◌++◌}
use mathlib.Core.Bool.{Bool, true, false, ◌&&◌, cond}
use native.Mathlib.Nat.{mod-lt}
use native.Mathlib.Omega.{arith}
use lib.Dec.{eqb, ltb}
use lib.ListN.{length, get_or, take, drop, length-append, get_or-append}
use lib.Seq.{take-append-add, get_or-take, take_at, drop_at, get_or_at}
use borrow.Author.Tests.{eqb-true, eqb-false, eq-eqb, ltb-true, ltb-false, lt-ltb, le-ltb}
use Rattle.apollo.specs.declared.Setup.{Setup}
use Rattle.apollo.specs.Bytes.{zeros, blank}
use Rattle.apollo.specs.Rotation.{seats, each_once, is_rotation, in_turn, padded}
use Rattle.apollo.specs.Setup.{replicas, leader, valid_rotation}
use Rattle.apollo.proofs.Tests.{and_first, and_second, and_end, both, same_of}
use Rattle.apollo.proofs.Slots.{part_zeros}

-- how many seats have a card below n
unfoldable low : ℕ → List ℕ → ℕ
low n [] = 0
low n (x ∷ xs) = cond (ltb x n) 1 0 + low n xs

low_zero : (xs : List ℕ) → low 0 xs ≡ 0
unfolding low
low_zero [] = refl
low_zero (x ∷ xs) = rw (le-ltb x 0 (omega arith)) (omega (arith, low_zero xs))

-- one card more
one_more : (n x : ℕ) → cond (ltb x (suc n)) 1 0 ≡ cond (eqb x n) 1 0 + cond (ltb x n) 1 0
one_more n x = go (eqb x n) refl (ltb x n) refl
  where
    go : (b : Bool) → eqb x n ≡ b → (c : Bool) → ltb x n ≡ c → cond (ltb x (suc n)) 1 0 ≡ cond (eqb x n) 1 0 + cond (ltb x n) 1 0
    go true e c d =
        let q : x ≡ n = eqb-true x n e in
        rw (e, lt-ltb x (suc n) (omega arith), le-ltb x n (omega arith))
    go false e true d = let l : x < n = ltb-true x n d in rw (e, d, lt-ltb x (suc n) (omega arith))
    go false e false d =
        let l : n ≤ x = ltb-false x n d in
        let ne : x ≢ n = eqb-false x n e in
        rw (e, d, le-ltb x (suc n) (omega arith))

low_suc : (n : ℕ) (xs : List ℕ) → low (suc n) xs ≡ seats n xs + low n xs
unfolding low seats
low_suc n [] = refl
low_suc n (x ∷ xs) = omega (arith, one_more n x, low_suc n xs)

at_most_one : (b : Bool) → cond b 1 0 ≤ 1
at_most_one true = omega arith
at_most_one false = omega arith

low_le : (n : ℕ) (xs : List ℕ) → low n xs ≤ length xs
unfolding low
low_le n [] = omega arith
low_le n (x ∷ xs) = omega (arith, at_most_one (ltb x n), low_le n xs)

-- where no seat has another card, each has a card below n
low_all : (n : ℕ) (xs : List ℕ) → low n xs ≡ length xs → (k : ℕ) → k < length xs → get_or xs k 0 < n
unfolding low
low_all n [] e k l = absurd (omega arith)
low_all n (x ∷ xs) e zero l = go (ltb x n) refl
  where
    go : (b : Bool) → ltb x n ≡ b → x < n
    go true d = ltb-true x n d
    go false d = absurd (omega (arith, (rw d at e), low_le n xs))
low_all n (x ∷ xs) e (suc k) l = low_all n xs (omega (arith, at_most_one (ltb x n), low_le n xs)) k (omega arith)

-- a card in two seats
seats_one : (c : ℕ) (xs : List ℕ) (k : ℕ) → k < length xs → get_or xs k 0 ≡ c → 1 ≤ seats c xs
unfolding seats
seats_one c [] k l e = absurd (omega arith)
seats_one c (x ∷ xs) zero l e = rw (eq-eqb x c e) (omega arith)
seats_one c (x ∷ xs) (suc k) l e = omega (arith, seats_one c xs k (omega arith) e)

seats_two : (c : ℕ) (xs : List ℕ) (j k : ℕ) → j < k → k < length xs → get_or xs j 0 ≡ c → get_or xs k 0 ≡ c → 2 ≤ seats c xs
unfolding seats
seats_two c [] j k m l e d = absurd (omega arith)
seats_two c (x ∷ xs) j zero m l e d = absurd (omega arith)
seats_two c (x ∷ xs) zero (suc k) m l e d = rw (eq-eqb x c e) (omega (arith, seats_one c xs k (omega arith) d))
seats_two c (x ∷ xs) (suc j) (suc k) m l e d = omega (arith, seats_two c xs j k (omega arith) (omega arith) e d)

-- each card once
once_at : (n : ℕ) (xs : List ℕ) → each_once n xs ≡ true → (c : ℕ) → c < n → seats c xs ≡ 1
unfolding each_once
once_at zero xs e c l = absurd (omega arith)
once_at (suc n) xs e c l = go (once_at n xs (and_second (eqb (seats n xs) 1) _ e) c) (eqb c n) refl
  where
    go : (c < n → seats c xs ≡ 1) → (b : Bool) → eqb c n ≡ b → seats c xs ≡ 1
    go lower true d = ap (λ k. seats k xs) (eqb-true c n d) ∙ eqb-true _ _ (and_first _ (each_once n xs) e)
    go lower false d = let ne : c ≢ n = eqb-false c n d in lower (omega arith)

once_low : (n : ℕ) (xs : List ℕ) → each_once n xs ≡ true → low n xs ≡ n
unfolding each_once
once_low zero xs e = low_zero xs
once_low (suc n) xs e =
    omega (
      arith,
      low_suc n xs,
      eqb-true (seats n xs) 1 (and_first _ (each_once n xs) e),
      once_low n xs (and_second (eqb (seats n xs) 1) _ e),
    )

module _ (n : ℕ) (xs : List ℕ) (e : is_rotation n xs ≡ true) where
  pub rotation_length : length xs ≡ n
  unfolding is_rotation
  rotation_length = eqb-true _ _ (and_first _ (each_once n xs) e)

  each : each_once n xs ≡ true
  unfolding is_rotation
  each = and_second (eqb (length xs) n) _ e

  -- a seat has a card's number
  pub seat_low : (k : ℕ) → k < n → get_or xs k 0 < n
  seat_low k l = low_all n xs (once_low n xs each ∙ sym rotation_length) k (omega (arith, rotation_length))

  -- two seats have different cards
  pub seats_differ : (j k : ℕ) → j < k → k < n → get_or xs j 0 ≢ get_or xs k 0
  seats_differ j k l m d =
      omega (
        arith,
        seats_two (get_or xs j 0) xs j k l (omega (arith, rotation_length)) refl (sym d),
        once_at n xs each (get_or xs j 0) (seat_low j (omega arith)),
      )

-- no card is lacking: as many seats as cards, or more
low_least : (n : ℕ) (xs : List ℕ) → ((c : ℕ) → c < n → 1 ≤ seats c xs) → n ≤ low n xs
low_least zero xs h = omega arith
low_least (suc n) xs h = omega (arith, low_suc n xs, h n (omega arith), low_least n xs (λ c l. h c (omega arith)))

once_of : (n : ℕ) (xs : List ℕ) → ((c : ℕ) → c < n → 1 ≤ seats c xs) → low n xs ≤ n → each_once n xs ≡ true
unfolding each_once
once_of zero xs h l = refl
once_of (suc n) xs h l =
    let k : (c : ℕ) → c < n → 1 ≤ seats c xs = λ c m. h c (omega arith) in
    both (eqb (seats n xs) 1) (each_once n xs)
    (eq-eqb (seats n xs) 1 (omega (arith, low_suc n xs, low_least n xs k, h n (omega arith), l)))
    (once_of n xs k (omega (arith, low_suc n xs, h n (omega arith), l)))

-- n seats that lack no card of n are a rotation
pub none_lacks : (n : ℕ) (xs : List ℕ) → length xs ≡ n → ((c : ℕ) → c < n → 1 ≤ seats c xs) → is_rotation n xs ≡ true
unfolding is_rotation
none_lacks n xs e h = both (eqb (length xs) n) (each_once n xs) (eq-eqb (length xs) n e) (once_of n xs h (omega (arith, low_le n xs)))

-- and a rotation lacks none
pub lacks_none : (n : ℕ) (xs : List ℕ) → is_rotation n xs ≡ true → (c : ℕ) → c < n → 1 ≤ seats c xs
lacks_none n xs e c l = omega (arith, once_at n xs (each n xs e) c l)

-- the old turn
seats_append : (c : ℕ) (xs ys : List ℕ) → seats c (xs ++ ys) ≡ seats c xs + seats c ys
unfolding seats
seats_append c [] ys = omega arith
seats_append c (x ∷ xs) ys = omega (arith, seats_append c xs ys)

turn_one : (c n : ℕ) → c < n → 1 ≤ seats c (in_turn n)
unfolding in_turn seats
turn_one c zero l = absurd (omega arith)
turn_one c (suc n) l = go (turn_one c n) (eqb n c) refl
  where
    go : (c < n → 1 ≤ seats c (in_turn n)) → (b : Bool) → eqb n c ≡ b → 1 ≤ seats c (in_turn n ++ (n ∷ []))
    go lower true e = omega (arith, seats_append c (in_turn n) (n ∷ []), ap {B = ℕ} (λ (b : Bool). cond b 1 0) e)
    go lower false e =
        let ne : n ≢ c = eqb-false n c e in
        omega (arith, seats_append c (in_turn n) (n ∷ []), lower (omega arith))

pub turn_length : (n : ℕ) → length (in_turn n) ≡ n
unfolding in_turn
turn_length zero = refl
turn_length (suc n) = omega (arith, length-append (in_turn n) (n ∷ []), turn_length n)

pub turn_rotation : (n : ℕ) → is_rotation n (in_turn n) ≡ true
turn_rotation n = none_lacks n (in_turn n) (turn_length n) (λ c. turn_one c n)

turn_at : (n k : ℕ) → k < n → get_or (in_turn n) k 0 ≡ k
unfolding in_turn
turn_at zero k l = absurd (omega arith)
turn_at (suc n) k l = go (turn_at n k) (eqb k n) refl
  where
    go : (k < n → get_or (in_turn n) k 0 ≡ k) → (b : Bool) → eqb k n ≡ b → get_or (in_turn n ++ (n ∷ [])) k 0 ≡ k
    go lower true e =
        let q : k ≡ n = eqb-true k n e in
        get_or_at (in_turn n) n [] 0 k (turn_length n ∙ sym q) ∙ sym q
    go lower false e =
        let ne : k ≢ n = eqb-false k n e in
        get_or-append (in_turn n) (n ∷ []) 0 k (omega (arith, turn_length n)) ∙ lower (omega arith)

-- a rotation in a record
pub padded_seat : (xs : List ℕ) (k : ℕ) → k < length xs → k < 15 → get_or (padded xs) k 0 ≡ get_or xs k 0
unfolding padded
padded_seat xs k l m = get_or-take 15 (xs ++ zeros 15) k 0 m ∙ get_or-append xs (zeros 15) 0 k l

pub turn_seat : (n k : ℕ) → k < n → k < 15 → get_or (padded (in_turn n)) k 0 ≡ k
turn_seat n k l m = padded_seat (in_turn n) k (omega (arith, turn_length n)) m ∙ turn_at n k l

module _ (n : ℕ) (xs : List ℕ) (e : length xs ≡ n) (l : n ≤ 15) where
  padded_is : padded xs ≡ xs ++ zeros (15 - n)
  unfolding padded
  padded_is =
      let q : 15 ≡ length xs + (15 - n) = omega arith in
      ap (λ k. take k (xs ++ zeros 15)) q ∙ take-append-add xs (zeros 15) (15 - n)
      ∙ ap (λ (ys : List ℕ). xs ++ ys) (part_zeros 15 0 (15 - n) (omega arith))

  pub padded_front : take n (padded xs) ≡ xs
  padded_front = ap (take n) padded_is ∙ take_at xs (zeros (15 - n)) n e

  pub padded_blank : blank (padded xs) n 15 ≡ true
  padded_blank =
      same_of
      (ap (λ (ys : List ℕ). take (15 - n) (drop n ys)) padded_is ∙ ap (take (15 - n)) (drop_at xs (zeros (15 - n)) n e)
      ∙ part_zeros (15 - n) 0 (15 - n) (omega arith))

-- The rotation that an open was lent, by what the record then holds: "n long", and each card once.
pub padded_same : (s : Setup) (xs : List ℕ) → replicas s ≤ 15 → s.rotation ≡ padded xs
    → eqb (length xs) (replicas s) && valid_rotation s ≡ is_rotation (replicas s) xs
unfolding valid_rotation is_rotation
padded_same s xs l q = rw q (go (eqb (length xs) (replicas s)) refl)
  where
    n : ℕ
    n = replicas s

    go : (b : Bool) → eqb (length xs) n ≡ b
        → b && ((eqb (length (take n (padded xs))) n && each_once n (take n (padded xs))) && blank (padded xs) n 15) ≡ b && each_once n xs
    go true e =
        let d : length xs ≡ n = eqb-true (length xs) n e in
        rw (padded_front n xs d l, padded_blank n xs d l, e) (and_end (each_once n xs))
    go false e = refl

-- and one that a record holds
pub padded_valid : (s : Setup) (xs : List ℕ) → is_rotation (replicas s) xs ≡ true → replicas s ≤ 15 → s.rotation ≡ padded xs
    → valid_rotation s ≡ true
unfolding valid_rotation
padded_valid s xs e l q =
    let n : length xs ≡ replicas s = rotation_length (replicas s) xs e in
    rw q
    (both (is_rotation (replicas s) (take (replicas s) (padded xs))) _
    (ap (is_rotation (replicas s)) (padded_front (replicas s) xs n l) ∙ e) (padded_blank (replicas s) xs n l))

-- the seats of a valid rotation, as those of n cards
module _ (s : Setup) (v : valid_rotation s ≡ true) where
  pub seated : is_rotation (replicas s) (take (replicas s) s.rotation) ≡ true
  unfolding valid_rotation
  seated = and_first (is_rotation (replicas s) (take (replicas s) s.rotation)) (blank s.rotation (replicas s) 15) v

  pub seat : (k : ℕ) → k < replicas s → get_or (take (replicas s) s.rotation) k 0 ≡ get_or s.rotation k 0
  seat k l = get_or-take (replicas s) s.rotation k 0 l

  -- a leader is a card's number
  pub leader_low : (r : ℕ) → leader s r < replicas s
  unfolding leader
  leader_low r =
      let l : (r - 1) % replicas s < replicas s = mod-lt (r - 1) (omega arith) in
      omega (arith, seat ((r - 1) % replicas s) l, seat_low (replicas s) _ seated ((r - 1) % replicas s) l)
