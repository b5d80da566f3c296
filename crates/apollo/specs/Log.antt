-- Document 01, "A card": the log (book) of slots, the chain (line), and where a branch attaches; by document 02, F-3, the slots that a
-- search reads.
use Rattle.std.specs.Prelude.{ℕ, zero, suc, ◌+◌, ◌-◌, ◌*◌, List, [], ◌∷◌, ◌++◌, Bool, ◌&&◌, cond, length, take, drop, eqb}
use Rattle.std.proofs.Math.Option.{Option, none, some}
use Rattle.apollo.specs.Size.{frame_size}
use Rattle.apollo.specs.Bytes.{part, zeros}
use Rattle.apollo.specs.Frame.{kind, linked}

-- genesis: as a slot of zeros it has round 0, height 0 and a name of zero bytes
unfoldable pub genesis : List ℕ
genesis = zeros frame_size

-- slot r; the genesis for round 0
unfoldable pub slot : (log : List ℕ) (r : ℕ) → List ℕ
slot log zero = genesis
slot log (suc k) = part log (frame_size * k) frame_size

-- a slot is filled
abbrev pub filled : List ℕ → Bool
filled x = eqb (kind x) 1

-- the log with frame x in slot r
unfoldable pub store : (log : List ℕ) (r : ℕ) (x : List ℕ) → List ℕ
store log r x = take (frame_size * (r - 1)) log ++ (x ++ drop (frame_size * r) log)

-- the log with the slots above round r zeroed
unfoldable pub clear_above : (log : List ℕ) (r : ℕ) → List ℕ
clear_above log r = take (frame_size * r) log ++ zeros (length log - frame_size * r)

-- the round of the highest filled slot up to round r, 0 (the genesis) if none
unfoldable pub highest : (log : List ℕ) (r : ℕ) → ℕ
highest log zero = zero
highest log (suc r) = cond (filled (slot log (suc r))) (suc r) (highest log r)

-- how many slots the search for it "read" (F-3). None found: those from round r to round 1, so 0 when no round is allowed; else those from
-- round r to the one found, both counted
unfoldable pub slots_read : (log : List ℕ) (r : ℕ) → ℕ
slots_read log r = cond (eqb (highest log r) 0) r (r + 1 - highest log r)

-- the chain (line) up to round r
unfoldable pub chain : (log : List ℕ) (r : ℕ) → List (List ℕ)
chain log zero = []
chain log (suc r) = chain log r ++ cond (filled (slot log (suc r))) (slot log (suc r) ∷ []) []

-- the round of the slot that frame x attaches to, from round r downwards, the genesis (0) last
unfoldable pub attach : (log x : List ℕ) (r : ℕ) → Option ℕ
attach log x zero = cond (linked genesis x) (some 0) none
attach log x (suc r) = cond (filled (slot log (suc r)) && linked (slot log (suc r)) x) (some (suc r)) (attach log x r)
