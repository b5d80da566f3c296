-- A blame is a set of one: what a set of one frame comes to, in document 01's words and beside a blame.
use Rattle.std.specs.Prelude.{ℕ, ◌≡◌, List, not, cond, length, eqb, ltb}
use Rattle.sha256.specs.Fips.{sha256}
use Rattle.apollo.specs.Size.{frame_size}
use Rattle.apollo.specs.Setup.{setup_of}
use Rattle.apollo.specs.Frame.{signer, round, blame_form, checked}
use Rattle.apollo.specs.Masks.{bit, mask}
use Rattle.apollo.specs.Enter.{State, hearing, settle}
use Rattle.apollo.specs.Outcome.{Outcome, refused, taken, guarded}
use Rattle.apollo.specs.Calls.{blame_call, blames_call}
use Rattle.apollo.specs.Refusal.{bad_length, bad_digest, bad_form, stale, early}

-- document 01's blame: 6, 7, 8, 14, 10, and one bit set
unfoldable pub one_blame : State → (x entry out : List ℕ) → Outcome
one_blame s x entry out =
    cond (not (eqb (length x) frame_size)) (refused s out bad_length 0)
    (cond (not (checked sha256 x)) (refused s out bad_digest 0)
    (cond (not (blame_form (setup_of s.replica) x)) (refused s out bad_form 0)
    (cond (ltb s.replica.round.0 (round x)) (refused s out early 0)
    (cond (bit (signer x) (mask s.masks (round x))) (refused s out stale 0)
    (taken (settle sha256 entry (hearing s (round x) (signer x)) (round x)) out)))))

pub record SetOfOne : Type 0 where
  -- the call blame is document 01's, and names no 16
  pub blame_is : (s : State) (x entry out : List ℕ) → blame_call s x entry out ≡ guarded s entry out (one_blame s x entry out)
  -- blames of one frame answers and leaves what blame of it does
  pub blames_is : (s : State) (x entry out : List ℕ) → length x ≡ frame_size → blames_call s x entry out ≡ blame_call s x entry out
