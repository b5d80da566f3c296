-- A list of calls that meets demand 3's premises, with SHA-256 itself and another rotation than the old turn, where a leader does
-- nothing after its open, its round is blamed and skipped, one replica commits by blames alone, and two commit a block above that round.
-- At the end two blocks of the skipped round turn up, and their leader is marked. Its first five, six, seven, eight and ten calls meet
-- the premises too, and of the first six all replicas are correct. Assumes nothing.
use Prim.Native.Nat.{ℕ}
use mathlib.Core.Path.{◌≡◌, refl, sym, ap, ◌∙◌, subst, fun_ext}
use mathlib.Core.Logic.{◌⊎◌, inl, inr}
use mathlib.Core.Option.{some}
use mathlib.Core.List.{List, [], ◌∷◌, ◌++◌}
use mathlib.Core.Bool.{Bool, true, false, ◌||◌, cond}
use native.Mathlib.Omega.{arith}
use lib.Dec.{eqb}
use Rattle.apollo.specs.Bytes.{zeros, same}
use Rattle.apollo.specs.declared.Setup.{Setup}
use Rattle.apollo.specs.Rotation.{padded}
use Rattle.apollo.specs.Setup.{leader}
use Rattle.apollo.specs.Frame.{kind, signer, round, digest}
use Rattle.apollo.specs.Log.{genesis, chain}
use Rattle.apollo.specs.Masks.{count}
use Rattle.apollo.specs.Enter.{State}
use Rattle.apollo.specs.Committed.{committed_list, committed}
use Rattle.apollo.specs.Outcome.{state_of}
use Rattle.apollo.specs.Calls.{blames_call}
use Rattle.theorem_agreement.specs.Run.{Act, branch, blame, blames, tick, equivocation, Call, opening, act, Event, handed, emitted, answered, In, Seen, World, is_open, present, start, uncut, frames_in, emit, answer, run}
use Rattle.theorem_agreement.specs.Premises.{Mostly, Patient, Distinct, Premises}
use Rattle.theorem_agreement.specs.Cases.{Had}
use Rattle.theorem_agreement.specs.Claim.{Agreed}
use Rattle.theorem_agreement.proofs.Agreement.{agreement, all_correct, beginnings}
use Rattle.theorem_witness.proofs.Frames.{d1, d2, d3, d4, e0, e2, b1, b2, b2', b3, b4, m0, m2, checked1, checked2, checked2', checked3, checked4, checked_m0, checked_m2}
use Rattle.theorem_witness.proofs.Answers.{out, rotation, log0, all, opened_1, opened_2, opened_0, first_0, blaming_2, heard_0, skipped_0, skipped_2, last_2, last_0, marked_0, open_1, open_2, open_0, take_1, tick_2, hear_2, tick_0, hear_set, take_3, take_4, mark_1}
use Rattle.theorem_witness.proofs.Worlds.{given, next, Goes, stay, then, goes, lawful, unforged, opens, acts, marks}

-- The list: f = 1, T = 4, a timeout of one tick, the rotation 2, 1, 0; replica 1, the leader of round 2, is not correct.
--   2 opens and emits block 1; 0 opens; 0 takes block 1
--   2 ticks and blames round 2; 0 hears that
--   0 ticks and blames round 2, which is now certified: it enters round 3, emits block 3 on block 1 and commits block 1
--   1 opens, and hears nothing
--   2 hears both blames as a set, its own bit standing already: it passes round 2 and commits block 1
--   2 takes block 3, emits block 4 and commits block 3; 0 takes block 4 and commits block 3
--   0, whose rounds are over, is handed two blocks of round 2 that nobody here emitted, and marks 1
open_at : ℕ → Call
open_at i = opening i 1 1 4 rotation log0 (zeros 4) [] out

taking : List ℕ → Act
taking b = branch b [] out

hearing : List ℕ → Act
hearing m = blame m [] out

hearing_set : List ℕ → Act
hearing_set ms = blames ms [] out

ticking : Act
ticking = tick [] out

accusing : List ℕ → Act
accusing bs = equivocation bs

pub first_five : List (ℕ × Call)
first_five = (2, open_at 2) ∷ (0, open_at 0) ∷ (0, act (taking b1)) ∷ (2, act ticking) ∷ (0, act (hearing m2)) ∷ []

pub first_six : List (ℕ × Call)
first_six = first_five ++ ((0, act ticking) ∷ [])

pub first_seven : List (ℕ × Call)
first_seven = first_six ++ ((1, open_at 1) ∷ [])

pub first_eight : List (ℕ × Call)
first_eight = first_seven ++ ((2, act (hearing_set (m2 ++ m0))) ∷ [])

last_two : List (ℕ × Call)
last_two = (2, act (taking b3)) ∷ (0, act (taking b4)) ∷ []

pub first_ten : List (ℕ × Call)
first_ten = first_eight ++ last_two

pub calls : List (ℕ × Call)
calls = first_ten ++ ((0, act (accusing (b2 ++ b2'))) ∷ [])

-- the worlds that it goes through
w0 : World
w0 = next start 2 [] opened_2 (b1 ∷ [])

w1 : World
w1 = next w0 0 [] opened_0 []

w2 : World
w2 = next w1 0 (b1 ∷ []) first_0 []

w3 : World
w3 = next w2 2 [] blaming_2 (m2 ∷ [])

w4 : World
w4 = next w3 0 (m2 ∷ []) heard_0 []

w5 : World
w5 = next w4 0 [] skipped_0 (m0 ∷ b3 ∷ [])

w6 : World
w6 = next w5 1 [] opened_1 []

w7 : World
w7 = next w6 2 (m2 ∷ m0 ∷ []) skipped_2 []

w8 : World
w8 = next w7 2 (b3 ∷ []) last_2 (b4 ∷ [])

w9 : World
w9 = next w8 0 (b4 ∷ []) last_0 []

w10 : World
w10 = next w9 0 (b2 ∷ b2' ∷ []) marked_0 []

worlds : Unit {0}
unfolding open_at taking hearing hearing_set ticking accusing first_five first_six first_seven first_eight last_two first_ten calls start given next emit w0 w1 w2 w3 w4 w5 w6 w7 w8 w9 w10
worlds = tt

-- replicas 0 and 2 are correct
unfoldable pub setup : Setup
setup = record { f = 1; last_round = record { 0 = 4 }; rotation = padded rotation }

unfoldable pub correct : ℕ → Bool
correct i = eqb 0 i || eqb 2 i

-- a frame was emitted by the replica that it names
by : (x : List ℕ) (i : ℕ) → signer x ≡ i → emitted (signer x) x ≡ emitted i x
by x i e = ap (λ k. emitted k x) e

five : Goes setup correct start first_five w4
unfolding worlds setup frames_in uncut answer all opened_2 opened_0 first_0 blaming_2 heard_0
five =
    opens setup correct start 2 1 rotation log0 (zeros 4) [] opened_2 (b1 ∷ []) refl refl open_2 (refl, tt)
    (opens setup correct w0 0 1 rotation log0 (zeros 4) [] opened_0 [] refl refl open_0 tt
    (acts setup correct w1 0 (taking b1) opened_0 first_0 (b1 ∷ []) [] refl refl (checked1, tt) (inr (inr (inl (by b1 2 refl))), tt) take_1 tt
    (acts setup correct w2 2 ticking opened_2 blaming_2 [] (m2 ∷ []) refl refl tt tt tick_2 (refl, tt)
    (acts setup correct w3 0 (hearing m2) first_0 heard_0 (m2 ∷ []) [] refl refl (checked_m2, tt) (inr (inl (by m2 2 refl)), tt) hear_2 tt
    stay))))

sixth : Goes setup correct w4 ((0, act ticking) ∷ []) w5
unfolding worlds setup frames_in uncut answer all heard_0 skipped_0
sixth = acts setup correct w4 0 ticking heard_0 skipped_0 [] (m0 ∷ b3 ∷ []) refl refl tt tt tick_0 (refl, (refl, tt)) stay

six : Goes setup correct start first_six w5
unfolding first_six
six = then setup correct five sixth

seventh : Goes setup correct w5 ((1, open_at 1) ∷ []) w6
unfolding worlds setup all opened_1
seventh = opens setup correct w5 1 1 rotation log0 (zeros 4) [] opened_1 [] refl refl open_1 tt stay

seven : Goes setup correct start first_seven w6
unfolding first_seven
seven = then setup correct six seventh

eighth : Goes setup correct w6 ((2, act (hearing_set (m2 ++ m0))) ∷ []) w7
unfolding worlds setup frames_in uncut answer all blaming_2 skipped_0 skipped_2
eighth =
    acts setup correct w6 2 (hearing_set (m2 ++ m0)) blaming_2 skipped_2 (m2 ∷ m0 ∷ []) [] refl refl (checked_m2, (checked_m0, tt))
    (inr (inr (inr (inr (inr (inr (inr (inl (by m2 2 refl)))))))), (inr (inr (inr (inl (by m0 0 refl)))), tt)) hear_set tt stay

eight : Goes setup correct start first_eight w7
unfolding first_eight
eight = then setup correct seven eighth

two : Goes setup correct w7 last_two w9
unfolding worlds setup frames_in uncut answer all skipped_0 skipped_2
two =
    acts setup correct w7 2 (taking b3) skipped_2 last_2 (b3 ∷ []) (b4 ∷ []) refl refl (checked3, tt)
    (inr (inr (inr (inr (inr (inl (by b3 0 refl)))))), tt) take_3 (refl, tt)
    (acts setup correct w8 0 (taking b4) skipped_0 last_0 (b4 ∷ []) [] refl refl (checked4, tt) (inr (inl (by b4 2 refl)), tt) take_4 tt
    stay)

ten : Goes setup correct start first_ten w9
unfolding first_ten
ten = then setup correct eight two

eleventh : Goes setup correct w9 ((0, act (accusing (b2 ++ b2'))) ∷ []) w10
unfolding worlds setup correct frames_in uncut all last_0 marked_0
eleventh =
    marks setup correct w9 0 (b2 ++ b2') last_0 marked_0.replica (b2 ∷ b2' ∷ []) refl refl (checked2, (checked2', tt)) (refl, (refl, tt))
    mark_1 stay

steps : Goes setup correct start calls w10
unfolding calls
steps = then setup correct ten eleventh

mostly : Mostly setup correct
unfolding setup correct count
mostly = omega arith

-- the frames seen are the three blocks, the two blames, and the two blocks of round 2
abbrev Frame : List ℕ → Type 0
Frame x = (x ≡ b1) ⊎ ((x ≡ b3) ⊎ ((x ≡ b4) ⊎ ((x ≡ m0) ⊎ ((x ≡ m2) ⊎ ((x ≡ b2) ⊎ (x ≡ b2'))))))

abbrev Known : Event → Type 0
Known (handed x) = Frame x
Known (emitted i x) = Frame x
Known (answered k) = Unit {0}

abbrev KnownAll : List Event → Type 0
KnownAll [] = Unit {0}
KnownAll (e ∷ es) = Known e × KnownAll es

known_in : (es : List Event) → KnownAll es → (e : Event) → In e es → Known e
known_in [] a e p = absurd p
known_in (d ∷ es) a e (inl q) = subst Known (sym q) a.0
known_in (d ∷ es) a e (inr q) = known_in es a.1 e q

is1 : Frame b1
is1 = inl refl

is3 : Frame b3
is3 = inr (inl refl)

is4 : Frame b4
is4 = inr (inr (inl refl))

is0 : Frame m0
is0 = inr (inr (inr (inl refl)))

is2 : Frame m2
is2 = inr (inr (inr (inr (inl refl))))

is_one : Frame b2
is_one = inr (inr (inr (inr (inr (inl refl)))))

is_other : Frame b2'
is_other = inr (inr (inr (inr (inr (inr refl)))))

known_all : KnownAll w10.past
unfolding worlds
known_all = (tt, (is_other, (is_one, (tt, (is4, (tt, (is4, (is3, (tt, (is0, (is2, (tt, (tt, (is3, (is0, (tt, (is2, (tt, (is2, (tt, (is1, (tt, (tt, (is1, tt))))))))))))))))))))))))

known : (e : Event) → In e (run start calls).past → Known e
known e p = known_in w10.past known_all e (subst (λ (w : World). In e w.past) (goes setup correct steps) p)

seen : (x : List ℕ) → Seen x (run start calls).past → Frame x
seen x (inl p) = known (handed x) p
seen x (inr p) = known (emitted p.0 x) p.1

-- blocks and blames of round 2
record Fields : Type 0 where
  block_1 : kind b1 ≡ 1
  block_3 : kind b3 ≡ 1
  block_4 : kind b4 ≡ 1
  blame_0 : round m0 ≡ 2
  blame_2 : round m2 ≡ 2
  one : kind b2 ≡ 1
  other : kind b2' ≡ 1

fields : Fields
unfolding all
fields = record { block_1 = refl; block_3 = refl; block_4 = refl; blame_0 = refl; blame_2 = refl; one = refl; other = refl }

-- only round 2 was blamed, whose leader is not correct
patient : Patient setup correct (run start calls)
patient i x c p k = of (known (emitted i x) p)
  where
    -- a block is no blame
    block : (b : List ℕ) → kind b ≡ 1 → x ≡ b → correct (leader setup (round x)) ≡ false
    block b f e = absurd (omega (arith, ap kind e, f, k))

    blame_2 : (m : List ℕ) → round m ≡ 2 → x ≡ m → correct (leader setup (round x)) ≡ false
    blame_2 m f e = ap (λ r. correct (leader setup r)) (ap (λ (y : List ℕ). round y) e ∙ f) ∙ (unfold all correct setup in refl)

    of : Frame x → correct (leader setup (round x)) ≡ false
    of (inl e) = block b1 fields.block_1 e
    of (inr (inl e)) = block b3 fields.block_3 e
    of (inr (inr (inl e))) = block b4 fields.block_4 e
    of (inr (inr (inr (inl e)))) = blame_2 m0 fields.blame_0 e
    of (inr (inr (inr (inr (inl e))))) = blame_2 m2 fields.blame_2 e
    of (inr (inr (inr (inr (inr (inl e)))))) = block b2 fields.one e
    of (inr (inr (inr (inr (inr (inr e)))))) = block b2' fields.other e

-- the frame with a given digest
pick : List ℕ → List ℕ
pick d =
    cond (same d (zeros 32)) genesis
    (cond (same d d1) b1 (cond (same d d3) b3 (cond (same d d4) b4 (cond (same d e0) m0 (cond (same d e2) m2 (cond (same d d2) b2 b2'))))))

record Picked : Type 0 where
  none : genesis ≡ pick (digest genesis)
  block_1 : b1 ≡ pick (digest b1)
  block_3 : b3 ≡ pick (digest b3)
  block_4 : b4 ≡ pick (digest b4)
  blame_0 : m0 ≡ pick (digest m0)
  blame_2 : m2 ≡ pick (digest m2)
  one : b2 ≡ pick (digest b2)
  other : b2' ≡ pick (digest b2')

picked : Picked
unfolding all pick
picked =
    record {
      none = refl;
      block_1 = refl;
      block_3 = refl;
      block_4 = refl;
      blame_0 = refl;
      blame_2 = refl;
      one = refl;
      other = refl;
    }

pick_is : (x : List ℕ) → (x ≡ genesis) ⊎ Seen x (run start calls).past → x ≡ pick (digest x)
pick_is x p = of_any p
  where
    at : (b : List ℕ) → b ≡ pick (digest b) → x ≡ b → x ≡ pick (digest x)
    at b f e = e ∙ f ∙ ap (λ y. pick (digest y)) (sym e)

    of : Frame x → x ≡ pick (digest x)
    of (inl e) = at b1 picked.block_1 e
    of (inr (inl e)) = at b3 picked.block_3 e
    of (inr (inr (inl e))) = at b4 picked.block_4 e
    of (inr (inr (inr (inl e)))) = at m0 picked.blame_0 e
    of (inr (inr (inr (inr (inl e))))) = at m2 picked.blame_2 e
    of (inr (inr (inr (inr (inr (inl e)))))) = at b2 picked.one e
    of (inr (inr (inr (inr (inr (inr e)))))) = at b2' picked.other e

    of_any : (x ≡ genesis) ⊎ Seen x (run start calls).past → x ≡ pick (digest x)
    of_any (inl e) = at genesis picked.none e
    of_any (inr q) = of (seen x q)

distinct : Distinct (run start calls).past
distinct x y p q e = pick_is x p ∙ ap pick e ∙ sym (pick_is y q)

pub premises : Premises setup correct calls
premises =
    record {
      lawful = lawful setup correct steps;
      mostly = mostly;
      unforged = unforged setup correct steps;
      distinct = distinct;
      patient = patient;
    }

-- so demand 3 speaks of it
pub agreed : Agreed correct (run start calls)
agreed = agreement setup correct calls premises

-- the state of replica i after some calls
abbrev Leaves : List (ℕ × Call) → ℕ → State → Type 0
Leaves es i c = (run start es).states i ≡ some c

pub all_leave : Leaves calls 0 marked_0 × Leaves calls 2 last_2
unfolding worlds
all_leave =
    let e : (i : ℕ) → (run start calls).states i ≡ w10.states i = λ i. ap (λ (w : World). w.states i) (goes setup correct steps) in
    (e 0, e 2)

-- replicas 0 and 2 have both committed the blocks of rounds 1 and 3
pub commits : (committed marked_0 ≡ b1 ∷ b3 ∷ []) × (committed last_2 ≡ b1 ∷ b3 ∷ [])
unfolding all last_0 marked_0 last_2 committed_list chain
commits = (refl, refl)

-- The first ten, eight, seven, six and five calls meet the premises too.
pub ten_premises : Premises setup correct first_ten
unfolding calls
ten_premises = beginnings setup correct first_ten _ premises

pub eight_premises : Premises setup correct first_eight
unfolding first_ten
eight_premises = beginnings setup correct first_eight last_two ten_premises

pub seven_premises : Premises setup correct first_seven
unfolding first_eight
seven_premises = beginnings setup correct first_seven _ eight_premises

pub six_premises : Premises setup correct first_six
unfolding first_seven
six_premises = beginnings setup correct first_six _ seven_premises

pub five_premises : Premises setup correct first_five
unfolding first_six
five_premises = beginnings setup correct first_five _ six_premises

-- Five leave replica 2 with its blame of round 2, and replica 0 with that one alone.
pub five_leave : Leaves first_five 0 heard_0 × Leaves first_five 2 blaming_2
unfolding worlds
five_leave =
    let e : (i : ℕ) → (run start first_five).states i ≡ w4.states i = λ i. ap (λ (w : World). w.states i) (goes setup correct five) in
    (e 0, e 2)

-- Six are a list in document 01's own words: replicas 0 and 2 are all that open in it, and both are correct; replica 1 is missing.
all_present : (i : ℕ) → is_open (w5.states i) ≡ correct i
unfolding worlds correct
all_present i = go (eqb 0 i) refl (eqb 2 i) refl
  where
    go : (b : Bool) → eqb 0 i ≡ b → (d : Bool) → eqb 2 i ≡ d → is_open (w5.states i) ≡ (eqb 0 i || eqb 2 i)
    go true e d f = rw e
    go false e true f = rw (e, f)
    go false e false f = rw (e, f)

present_six : present (run start first_six) ≡ correct
unfolding present
present_six = fun_ext (λ i. ap (λ (w : World). is_open (w.states i)) (goes setup correct six) ∙ all_present i)

pub all_counted : Premises setup (present (run start first_six)) first_six
all_counted = subst (λ p. Premises setup p first_six) (sym present_six) six_premises

pub all_agreed : Agreed (λ i. true) (run start first_six)
all_agreed = all_correct setup first_six all_counted

-- Seven leave replica 1 where it opened, replica 2 with its blame of round 2, and replica 0 waiting for round 4, with round 2 skipped.
pub seven_leave : Leaves first_seven 0 skipped_0 × Leaves first_seven 1 opened_1 × Leaves first_seven 2 blaming_2
unfolding worlds
seven_leave =
    let e : (i : ℕ) → (run start first_seven).states i ≡ w6.states i = λ i. ap (λ (w : World). w.states i) (goes setup correct seven) in
    (e 0, e 1, e 2)

pub ten_leave : Leaves first_ten 0 last_0 × Leaves first_ten 2 last_2
unfolding worlds
ten_leave =
    let e : (i : ℕ) → (run start first_ten).states i ≡ w9.states i = λ i. ap (λ (w : World). w.states i) (goes setup correct ten) in
    (e 0, e 2)

pub eight_leave : Leaves first_eight 0 skipped_0 × Leaves first_eight 2 skipped_2
unfolding worlds
eight_leave =
    let e : (i : ℕ) → (run start first_eight).states i ≡ w7.states i = λ i. ap (λ (w : World). w.states i) (goes setup correct eight) in
    (e 0, e 2)

-- before the last of these replica 2 waited for round 2
pub had_waited : Had first_eight 2 blaming_2
unfolding first_eight
had_waited = record { first = first_seven; rest = _; whole = refl; left = seven_leave.2 }

-- Document 02, F-2, in the eighth call: replica 2 had committed nothing, and commits block 1 by the set of blames, with which it emits
-- nothing (`hear_set`).
pub by_blames : (committed blaming_2 ≡ []) × (committed (state_of (blames_call blaming_2 (m2 ++ m0) [] out)) ≡ b1 ∷ [])
by_blames = (
  unfold all blaming_2 committed_list chain in refl,
  ap (λ o. committed (state_of o)) hear_set ∙ (unfold all skipped_2 committed_list chain in refl),
)
