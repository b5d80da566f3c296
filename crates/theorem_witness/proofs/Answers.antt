-- What the calls of the witness answer, with SHA-256 itself: f = 1, T = 4, a timeout of 1, the rotation 2, 1, 0; replica 1 opens
-- and hears nothing.
-- Assumes nothing.
use Prim.Native.Nat.{ℕ}
use mathlib.Core.Path.{◌≡◌, refl, ap, ap₂, ◌∙◌}
use mathlib.Core.List.{List, [], ◌∷◌, ◌++◌}
use mathlib.Core.Bool.{true}
use Rattle.sha256.specs.Fips.{sha256}
use Rattle.apollo.specs.Bytes.{zeros, number2, number4, same}
use Rattle.apollo.specs.Rotation.{seats, each_once, is_rotation, padded}
use Rattle.apollo.specs.Setup.{leader, valid_rotation, valid_limits, valid_setup, setup_number}
use Rattle.apollo.specs.Frame.{frames, whole_frames, checked, block_form, blame_form, linked, block_head, blame_head, sealed, make_block, make_blame}
use Rattle.apollo.specs.Log.{genesis, slot, store, clear_above, attach, highest}
use Rattle.apollo.specs.Masks.{bit, set_bit, count, certified, gap}
use Rattle.apollo.specs.Replica.{with_equivocators, fresh, leads, valid_own, valid_rounds, valid_record, valid_replica}
use Rattle.apollo.specs.Enter.{State, commit_limit, commit, tipped, waiting, hearing, holding, entered, own_block, proposing, enter_round, settle}
use Rattle.apollo.specs.Judging.{fault, judged_each}
use Rattle.apollo.specs.Outcome.{Outcome, taken, guarded}
use Rattle.apollo.specs.Open.{open_with}
use Rattle.apollo.specs.BlockRun.{last_of, judged_next, judged_run}
use Rattle.apollo.specs.Branch.{first_uncertified, store_all, grown, adopting, placed, branched, branch_with}
use Rattle.apollo.specs.Blame.{one_set, any_fresh, add_blames, hearing_all, heard, handing}
use Rattle.apollo.specs.Tick.{blaming, ticked, tick_with}
use Rattle.apollo.specs.Equivocation.{marked, conflicting, accusing, equivocation_with}
use Rattle.apollo.specs.Calls.{open_call, branch_call, blame_call, blames_call, tick_call, equivocation_call}
use Rattle.theorem_witness.proofs.Frames.{d1, d2, d2', d3, d4, e0, e2, head1, head2, head2', head3, head4, head_m0, head_m2, b1, b2, b2', b3, b4, m0, m2, name1, name3, name4, name_m0, name_m2, checked1, checked2, checked2', checked3, checked4, checked_m0, checked_m2}

unfoldable pub out : List ℕ
out = zeros 1024

-- not the old turn: 2 leads rounds 1 and 4, 1 leads round 2, 0 leads round 3
unfoldable pub rotation : List ℕ
rotation = 2 ∷ 1 ∷ 0 ∷ []

-- the logs: empty, with block 1, with block 3 above the skipped round 2, with block 4
unfoldable pub log0 : List ℕ
log0 = zeros 2048

unfoldable pub log1 : List ℕ
log1 = store log0 1 b1

unfoldable pub log3 : List ℕ
log3 = store log1 3 b3

unfoldable pub log4 : List ℕ
log4 = store log3 4 b4

-- a state: own number, R, ticks left, round and height of the tip and of the committed block, the log, and the mask of round 2
unfoldable pub state_at : (id round timer : ℕ) (tip committed : ℕ × ℕ) (log : List ℕ) (mask : ℕ) → State
state_at id round timer tip committed log mask =
    record {
      replica =
          record {
            id = id;
            f = 1;
            timeout = record { 0 = 1 };
            last_round = record { 0 = 4 };
            round = record { 0 = round };
            timer = record { 0 = timer };
            tip_round = record { 0 = tip.0 };
            tip_height = record { 0 = tip.1 };
            committed_round = record { 0 = committed.0 };
            committed_height = record { 0 = committed.1 };
            rotation = padded rotation;
            equivocators = 0;
          };
      log = log;
      masks = 0 ∷ mask ∷ 0 ∷ 0 ∷ [];
    }

-- a call is taken: the state left, and the frames emitted
unfoldable pub made : State → List (List ℕ) → Outcome
made c xs = taken (record { state = c; emitted = xs }) out

-- all that computes, but for SHA-256 and the test of a check
unfoldable pub all : Unit {0}
unfolding out rotation log0 log1 log3 log4 state_at made b1 b2 b2' b3 b4 m0 m2 head1 head2 head2' head3 head4 head_m0 head_m2 d1 d2 d2' d3 d4 e0 e2 block_head blame_head zeros number2 number4 same seats each_once is_rotation padded leader valid_rotation frames whole_frames block_form blame_form linked sealed make_block make_blame genesis slot store clear_above attach highest bit set_bit count certified gap fresh leads valid_limits valid_setup valid_own valid_rounds valid_record setup_number valid_replica commit_limit commit tipped waiting hearing holding entered own_block proposing enter_round settle taken guarded open_with last_of first_uncertified store_all grown fault judged_each judged_next judged_run adopting placed branched branch_with one_set any_fresh add_blames hearing_all heard handing blaming ticked tick_with conflicting accusing equivocation_with
all = tt

-- Replica 1 opens.
unfoldable pub opened_1 : State
opened_1 = state_at 1 1 1 (0, 0) (0, 0) log0 0

pub open_1 : open_call 1 1 1 4 rotation log0 (zeros 4) [] out ≡ made opened_1 []
unfolding all opened_1
open_1 = refl

-- Replica 2 opens, leads round 1 and emits block 1: for any hash, and then with the digest.
opens_2 : List ℕ → Outcome
opens_2 x = made (state_at 2 2 1 (1, 1) (0, 0) (store log0 1 x) 0) (x ∷ [])

open_2_by : (h : List ℕ → List ℕ) → open_with h 2 1 1 4 rotation log0 (zeros 4) [] out ≡ opens_2 (head1 ++ h head1)
unfolding all opens_2
open_2_by h = refl

unfoldable pub opened_2 : State
opened_2 = state_at 2 2 1 (1, 1) (0, 0) log1 0

pub open_2 : open_call 2 1 1 4 rotation log0 (zeros 4) [] out ≡ made opened_2 (b1 ∷ [])
unfolding opens_2 opened_2 log1 b1
open_2 = open_2_by sha256 ∙ ap (λ d. opens_2 (head1 ++ d)) name1

-- Replica 0 opens.
unfoldable pub opened_0 : State
opened_0 = state_at 0 1 1 (0, 0) (0, 0) log0 0

pub open_0 : open_call 0 1 1 4 rotation log0 (zeros 4) [] out ≡ made opened_0 []
unfolding all opened_0
open_0 = refl

-- It takes block 1.
unfoldable pub first_0 : State
first_0 = state_at 0 2 1 (1, 1) (0, 0) log1 0

pub take_1 : branch_call opened_0 b1 [] out ≡ made first_0 []
unfolding all opened_0 first_0
take_1 = rw checked1 refl

-- The leader of round 2 sends nothing: replica 2's tick emits its blame.
unfoldable pub blaming_2 : State
blaming_2 = state_at 2 2 0 (1, 1) (0, 0) log1 4

tick_2_by : (h : List ℕ → List ℕ) → tick_with h opened_2 [] out ≡ made blaming_2 ((head_m2 ++ h head_m2) ∷ [])
unfolding all opened_2 blaming_2
tick_2_by h = refl

pub tick_2 : tick_call opened_2 [] out ≡ made blaming_2 (m2 ∷ [])
unfolding m2
tick_2 = tick_2_by sha256 ∙ ap (λ d. made blaming_2 ((head_m2 ++ d) ∷ [])) name_m2

-- Replica 0 hears it.
unfoldable pub heard_0 : State
heard_0 = state_at 0 2 1 (1, 1) (0, 0) log1 4

pub hear_2 : blame_call first_0 m2 [] out ≡ made heard_0 []
unfolding all first_0 heard_0
hear_2 = rw checked_m2 refl

-- Its own tick certifies round 2: it emits its blame, enters round 3, which it leads, emits block 3 on block 1, and commits block 1.
ticks_0 : (m x : List ℕ) → Outcome
ticks_0 m x = made (state_at 0 4 1 (3, 2) (1, 1) (store log1 3 x) 5) (m ∷ x ∷ [])

tick_0_by : (h : List ℕ → List ℕ) → tick_with h heard_0 [] out ≡ ticks_0 (head_m0 ++ h head_m0) (head3 ++ h head3)
unfolding all heard_0 ticks_0
tick_0_by h = refl

unfoldable pub skipped_0 : State
skipped_0 = state_at 0 4 1 (3, 2) (1, 1) log3 5

pub tick_0 : tick_call heard_0 [] out ≡ made skipped_0 (m0 ∷ b3 ∷ [])
unfolding ticks_0 skipped_0 log3 m0 b3
tick_0 = tick_0_by sha256 ∙ ap₂ (λ d e. ticks_0 (head_m0 ++ d) (head3 ++ e)) name_m0 name3

-- Replica 2 hears both blames as a set: its own is passed over, the other is fresh. Round 2 is certified here too: it waits for round 3,
-- and commits block 1.
unfoldable pub skipped_2 : State
skipped_2 = state_at 2 3 1 (1, 1) (1, 1) log1 5

pub hear_set : blames_call blaming_2 (m2 ++ m0) [] out ≡ made skipped_2 []
unfolding all blaming_2 skipped_2
hear_set = rw (checked_m2, checked_m0) refl

-- It takes block 3, leads round 4, emits block 4, and commits block 3.
takes_3 : List ℕ → Outcome
takes_3 x = made (state_at 2 5 1 (4, 3) (3, 2) (store log3 4 x) 5) (x ∷ [])

take_3_by : (h : List ℕ → List ℕ) → checked h b3 ≡ true → branch_with h skipped_2 b3 [] out ≡ takes_3 (head4 ++ h head4)
unfolding all skipped_2 takes_3
take_3_by h e = rw e refl

unfoldable pub last_2 : State
last_2 = state_at 2 5 1 (4, 3) (3, 2) log4 5

pub take_3 : branch_call skipped_2 b3 [] out ≡ made last_2 (b4 ∷ [])
unfolding takes_3 last_2 log4 b4
take_3 = take_3_by sha256 checked3 ∙ ap (λ d. takes_3 (head4 ++ d)) name4

-- Replica 0 takes block 4, and commits block 3.
unfoldable pub last_0 : State
last_0 = state_at 0 5 1 (4, 3) (3, 2) log4 5

pub take_4 : branch_call skipped_0 b4 [] out ≡ made last_0 []
unfolding all skipped_0 last_0
take_4 = rw checked4 refl

-- The rounds are over for it. It is handed two blocks of round 2, and marks replica 1, which led that round.
unfoldable pub marked_0 : State
marked_0 = record { replica = with_equivocators last_0.replica 2; log = log4; masks = 0 ∷ 5 ∷ 0 ∷ 0 ∷ [] }

pub mark_1 : equivocation_call last_0.replica (b2 ++ b2') ≡ marked 0 0 marked_0.replica
unfolding all last_0 marked_0
mark_1 = rw (checked2, checked2') refl
