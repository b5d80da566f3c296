-- Document 01, "Fetch"; how many frames by document 02, F-5.
use Rattle.std.specs.Prelude.{ℕ, ◌*◌, ◌/◌, min, not, cond, length, take, drop, eqb, ltb}
use mathlib.Core.List.{List, [], ◌∷◌, ◌++◌, flatten}
use Rattle.apollo.specs.Size.{frame_size, out_least}
use Rattle.apollo.specs.declared.Replica.{Replica}
use Rattle.apollo.specs.declared.Fetched.{Fetched}
use Rattle.apollo.specs.Frame.{height}
use Rattle.apollo.specs.Log.{chain}
use Rattle.apollo.specs.Replica.{valid_replica}
use Rattle.apollo.specs.Refusal.{bad_replica, out_too_short, absent}

-- the answer, and the out buffer after the call
pub record FetchOutcome : Type 0 where
  pub answer : Fetched
  pub out : List ℕ

-- the same from its parts
abbrev pub fetched : Fetched → (out : List ℕ) → FetchOutcome
fetched a out = record { answer = a; out = out }

-- a refusal
abbrev pub not_fetched : (out : List ℕ) (number : ℕ) → FetchOutcome
not_fetched out number = record { answer = record { number = number; count = 0 }; out = out }

-- the frames of height above h
unfoldable pub above : (h : ℕ) → List (List ℕ) → List (List ℕ)
above h [] = []
above h (x ∷ xs) = cond (ltb h (height x)) (x ∷ above h xs) (above h xs)

-- the chain (line) frames of height above h
abbrev pub fetchable : Replica → (log : List ℕ) (h : ℕ) → List (List ℕ)
fetchable r log h = above h (chain log r.last_round.0)

-- the count: "the smaller of" all such frames and the whole frames that the out buffer (tray) takes
abbrev pub fetch_count : Replica → (log : List ℕ) (h : ℕ) (out : List ℕ) → ℕ
fetch_count r log h out = min (length (fetchable r log h)) (length out / frame_size)

-- fetch above height h: 2, 4, 15, and taken, with the lowest rounds at the start of the out buffer
unfoldable pub fetch_call : Replica → (log : List ℕ) (h : ℕ) (out : List ℕ) → FetchOutcome
fetch_call r log h out =
    let count : ℕ = fetch_count r log h out in
    cond (not (valid_replica r log)) (not_fetched out bad_replica)
    (cond (ltb (length out) out_least) (not_fetched out out_too_short)
    (cond (eqb (length (fetchable r log h)) 0) (not_fetched out absent)
    (record {
      answer = record { number = 0; count = count };
      out = flatten (take count (fetchable r log h)) ++ drop (frame_size * count) out;
    })))
