-- Item 11 of the bench sheet, and open's part of item 7. Assumes nothing.
use Prim.Native.Nat.{ℕ, ◌+◌, ◌-◌, ◌*◌, ◌≤◌}
use mathlib.Core.Path.{◌≡◌, refl, sym, ap, ◌∙◌}
use mathlib.Core.List.{List, [], ◌∷◌, ◌++◌, flatten, append-nil}
use mathlib.Core.Bool.{true, false, ◌&&◌, not, cond}
use native.Mathlib.Nat.{zero-mod}
use native.Mathlib.Omega.{arith}
use lib.ListN.{length, get_or, take, drop}
use lib.Seq.{take_at}
use lib.Pow.{pow_pos}
use lib.Dec.{eqb, ltb}
use borrow.Author.Tests.{lt-ltb, le-ltb, eq-eqb}
use Rattle.sha256.specs.Fips.{sha256}
use Rattle.apollo.specs.Size.{frame_size, out_least}
use Rattle.apollo.specs.declared.Replica.{Replica}
use Rattle.apollo.specs.Bytes.{number4, zeros}
use Rattle.apollo.specs.Rotation.{padded}
use Rattle.apollo.specs.Setup.{leader, setup, setup_number}
use Rattle.apollo.specs.Frame.{round, height, digest, sealed, block_head, make_block}
use Rattle.apollo.specs.Log.{slot, genesis, store, highest}
use Rattle.apollo.specs.Replica.{fresh, zero_replica, leads, valid_own, valid_log, valid_replica, valid_masks}
use Rattle.apollo.specs.Enter.{State, Effect, commit_limit, commit, tipped, holding, entered, own_block, proposing, enter_round}
use Rattle.apollo.specs.Outcome.{Outcome, refused, taken, guarded, state_of}
use Rattle.apollo.specs.Open.{open_with}
use Rattle.apollo.specs.Tick.{tick_with}
use Rattle.apollo.specs.Calls.{open_call, tick_call}
use Rattle.apollo.specs.BenchSheet.{turn, Openable, number, new_round}
use Rattle.apollo.specs.BlockRun.{block}
use Rattle.apollo.proofs.Tests.{both, cond_true, cond_false}
use Rattle.apollo.proofs.Rotation.{turn_rotation, turn_seat, padded_valid}
use Rattle.apollo.proofs.Validity.{ValidOpening, setup_good, valid_opening, valid_of}
use Rattle.apollo.proofs.Slots.{length_zeros, length_store}
use Rattle.apollo.proofs.Made.{block_length, block_made}

-- the state before and after an open is taken, the round not yet entered
abbrev unopened : (log masks : List ℕ) → State
unopened log masks = record { replica = zero_replica; log = log; masks = masks }

abbrev opened : (id f timeout T : ℕ) (rotation : List ℕ) → State
opened id f timeout T rotation = record { replica = fresh id f timeout T rotation; log = zeros (frame_size * T); masks = zeros T }

module _ (id f timeout T : ℕ) (rotation log masks entry out : List ℕ) (o : Openable id f timeout T rotation log masks out) where
  opens : open_call id f timeout T rotation log masks entry out
      ≡ cond (ltb 400 (length entry)) (refused (unopened log masks) out 5 0)
      (taken (enter_round sha256 entry (opened id f timeout T rotation)) out)
  unfolding open_with fresh
  opens =
      let r : Replica = fresh id f timeout T rotation in
      let v : not (valid_own r && valid_log r log && valid_masks r masks) ≡ false =
      ap not (both (valid_own r && valid_log r log) (valid_masks r masks) (both (valid_own r) (valid_log r log) o.own o.slots) o.lent) in
      cond_false _ _ v ∙ cond_false _ _ (ap not (eq-eqb (setup_number f T rotation) 0 o.setup))
      ∙ cond_false _ _ (le-ltb (length out) out_least o.room)

  pub open_fits : length entry ≤ 400
      → open_call id f timeout T rotation log masks entry out ≡ taken (enter_round sha256 entry (opened id f timeout T rotation)) out
  open_fits l = opens ∙ cond_false _ _ (le-ltb 400 (length entry) l)

  pub open_400 : length entry ≡ 400 → number (open_call id f timeout T rotation log masks entry out) ≡ 0
  unfolding taken
  open_400 l = ap number (open_fits (omega arith))

  pub open_401 : length entry ≡ 401 → number (open_call id f timeout T rotation log masks entry out) ≡ 5
  unfolding refused
  open_401 l = ap number (opens ∙ cond_true _ _ (lt-ltb 400 (length entry) (omega arith)))

module _ (f timeout : ℕ) (log masks entry out : List ℕ) (o : Openable 0 f timeout 1 (turn f) log masks out) (l : length entry ≤ 400) where
  new : State
  new = opened 0 f timeout 1 (turn f)

  first : List ℕ
  unfolding new
  first = own_block sha256 entry new

  leader_1 : leader (setup f 1 (turn f)) 1 ≡ 0
  unfolding leader
  leader_1 = ap (λ k. get_or (padded (turn f)) k 0) (zero-mod (2 * f + 1)) ∙ turn_seat (2 * f + 1) 0 (omega arith) (omega arith)

  -- the state that the open leaves
  left : State
  unfolding new
  left = entered (proposing sha256 entry new)

  proposes : open_call 0 f timeout 1 (turn f) log masks entry out ≡ taken (record { state = left; emitted = first ∷ [] }) out
  unfolding new first left enter_round leads fresh
  proposes =
      open_fits 0 f timeout 1 (turn f) log masks entry out o l
      ∙ ap (λ (e : Effect). taken e out) (cond_true _ _ (eq-eqb (leader (setup f 1 (turn f)) 1) 0 leader_1))

  parent_length : length (digest (slot (zeros frame_size) 0)) ≡ 32
  unfolding slot genesis zeros
  parent_length = refl

  first_length : length first ≡ frame_size
  unfolding new first own_block fresh
  first_length = block_length 0 1 (0 + 1) (digest (slot (zeros frame_size) 0)) entry parent_length l

  first_block : block (setup f 1 (turn f)) first ≡ true
  unfolding new first own_block fresh
  first_block =
      block_made 0 1 (0 + 1) (digest (slot (zeros frame_size) 0)) entry parent_length l (setup f 1 (turn f)) (sym leader_1)
      (omega arith) (omega arith) (omega arith) (omega arith) (omega arith)

  first_out : take frame_size ((first ++ []) ++ drop frame_size out) ≡ first
  first_out = rw append-nil (take_at first (drop frame_size out) frame_size first_length)

  first_round : round ((first ++ []) ++ drop frame_size out) ≡ 1
  unfolding new first own_block fresh number4 make_block sealed block_head
  first_round = refl

  pub open_emits : (number (open_call 0 f timeout 1 (turn f) log masks entry out) ≡ 0)
      × ((open_call 0 f timeout 1 (turn f) log masks entry out).answer.frames ≡ 1)
      × (block (setup f 1 (turn f)) (take frame_size (open_call 0 f timeout 1 (turn f) log masks entry out).out) ≡ true)
      × (round (open_call 0 f timeout 1 (turn f) log masks entry out).out ≡ 1)
      × (new_round (open_call 0 f timeout 1 (turn f) log masks entry out) ≡ 2)
  unfolding taken flatten
  open_emits = (
    ap number proposes,
    ap (λ (o : Outcome). o.answer.frames) proposes,
    ap (λ (o : Outcome). block (setup f 1 (turn f)) (take frame_size o.out)) proposes ∙ ap (block (setup f 1 (turn f))) first_out ∙ first_block,
    ap (λ (o : Outcome). round o.out) proposes ∙ first_round,
    ap new_round proposes ∙ (unfold new left entered proposing holding tipped commit fresh in refl),
  )

  stored : List ℕ
  unfolding first
  stored = store (zeros frame_size) 1 first

  none_committed : (k : ℕ) → k ≡ 0 → (highest stored k ≡ 0) × (height (slot stored (highest stored k)) ≡ 0)
  unfolding highest slot genesis number4 zeros
  none_committed k z = (ap (highest stored) z, ap (λ j. height (slot stored (highest stored j))) z)

  -- the record that the open leaves is valid, with R = T + 1
  left_valid : valid_replica left.replica left.log ≡ true
  unfolding new first left stored entered proposing holding tipped commit commit_limit fresh leads
  left_valid =
      let s : ValidOpening (fresh 0 f timeout 1 (turn f)) log = valid_opening (fresh 0 f timeout 1 (turn f)) log (setup_good f 1 (turn f) o.setup).0 o.own o.slots in
      let low : 1 ≤ f = s.f_least in
      let c : (highest stored (1 - f) ≡ 0) × (height (slot stored (highest stored (1 - f))) ≡ 0) =
      none_committed (1 - f) (omega arith) in
      let size : length (zeros frame_size) ≡ frame_size = length_zeros frame_size in
      let kept : length stored ≡ length (zeros frame_size) = length_store (zeros frame_size) 1 first (omega arith) (omega arith) first_length in
      let a : highest stored (1 - f) ≡ 0 = c.0 in
      let b : height (slot stored (highest stored (1 - f))) ≡ 0 = c.1 in
      valid_of left.replica stored (record {
        setup =
            record {
              id_below = s.id_below;
              f_least = s.f_least;
              f_most = s.f_most;
              timeout_least = s.timeout_least;
              timeout_most = s.timeout_most;
              last_least = omega arith;
              last_most = omega arith;
              size = omega arith;
            };
        rotation = padded_valid (setup f 1 (turn f)) (turn f) (turn_rotation (2 * f + 1)) (omega (arith, s.f_most)) refl;
        round_least = omega arith;
        round_most = omega arith;
        timer_most = omega arith;
        tip_below = omega arith;
        tip_height = omega arith;
        committed_most = omega arith;
        committed_height_most = omega arith;
        height_of_committed = omega arith;
        marks = pow_pos (2 * f + 1);
        waits = refl;
      })

  left_over : (entry' out' : List ℕ) → tick_call left entry' out' ≡ refused left out' 3 0
  unfolding tick_with guarded
  left_over entry' out' =
      let s : State = left in
      let v : not (valid_replica s.replica s.log && valid_masks s.replica s.masks) ≡ false =
      ap not (both (valid_replica s.replica s.log) (valid_masks s.replica s.masks) left_valid
      (unfold new left entered proposing holding tipped commit fresh zeros in refl)) in
      let over : eqb s.replica.round.0 (s.replica.last_round.0 + 1) ≡ true =
      unfold new left entered proposing holding tipped commit fresh in refl in
      cond_false _ _ v ∙ cond_true _ _ over

  pub then_over : (entry' out' : List ℕ) → number (tick_call (state_of (open_call 0 f timeout 1 (turn f) log masks entry out)) entry' out') ≡ 3
  unfolding taken refused
  then_over entry' out' =
      ap (λ (o : Outcome). number (tick_call (state_of o) entry' out')) proposes ∙ ap number (left_over entry' out')
