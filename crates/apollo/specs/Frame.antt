-- Document 01, "Names" and "Frames": the fields of a frame, the form of a block and of a blame, the check, and the frames made.
use Rattle.std.specs.Prelude.{ℕ, zero, suc, ◌+◌, ◌-◌, ◌/◌, ◌%◌, List, [], ◌∷◌, ◌++◌, Bool, ◌&&◌, length, take, drop, get_or, eqb, leb, ltb}
use Rattle.apollo.specs.Size.{check_at, entry_most, frame_size}
use Rattle.apollo.specs.Bytes.{part, number2, number4, bytes2, bytes4, zeros, same, blank, within}
use Rattle.apollo.specs.declared.Setup.{Setup}
use Rattle.apollo.specs.Setup.{replicas, leader}

-- kind, signer, entry length, round, height
abbrev pub kind : List ℕ → ℕ
kind x = get_or x 0 0

abbrev pub signer : List ℕ → ℕ
signer x = get_or x 1 0

abbrev pub entry_length : List ℕ → ℕ
entry_length x = number2 x 2

abbrev pub round : List ℕ → ℕ
round x = number4 x 4

abbrev pub height : List ℕ → ℕ
height x = number4 x 8

-- parent's name
abbrev pub parent : List ℕ → List ℕ
parent x = part x 12 32

-- check, which is also the name
abbrev pub digest : List ℕ → List ℕ
digest x = part x check_at 32

-- the first n whole frames of some bytes
unfoldable pub frames : ℕ → List ℕ → List (List ℕ)
frames zero xs = []
frames (suc n) xs = take frame_size xs ∷ frames n (drop frame_size xs)

-- all whole frames of some bytes
abbrev pub frames_of : (bytes : List ℕ) → List (List ℕ)
frames_of bytes = frames (length bytes / frame_size) bytes

-- the first and the last of some frames, in their bytes
abbrev pub first_frame : (bytes : List ℕ) → List ℕ
first_frame bytes = part bytes 0 frame_size

abbrev pub last_frame : (bytes : List ℕ) → List ℕ
last_frame bytes = part bytes (length bytes - frame_size) frame_size

-- 1 to `most` whole frames
unfoldable pub whole_frames : (most : ℕ) (bytes : List ℕ) → Bool
whole_frames most bytes = eqb (length bytes % frame_size) 0 && within 1 (length bytes / frame_size) most

-- form of a block and of a blame
unfoldable pub block_form : Setup → List ℕ → Bool
block_form s x =
    eqb (kind x) 1 && eqb (signer x) (leader s (round x)) && leb (entry_length x) entry_most && within 1 (round x) s.last_round.0
    && within 1 (height x) (round x) && blank x (44 + entry_length x) check_at

unfoldable pub blame_form : Setup → List ℕ → Bool
blame_form s x =
    eqb (kind x) 2 && ltb (signer x) (replicas s) && blank x 2 4 && within 1 (round x) s.last_round.0 && blank x 8 check_at

-- frame x names frame p as its parent, and its height is one more
unfoldable pub linked : (p x : List ℕ) → Bool
linked p x = same (digest p) (parent x) && eqb (height p + 1) (height x)

-- bytes 0–479 of the block and of the blame that replica `id` makes for round r
unfoldable pub block_head : (id r h : ℕ) (parent entry : List ℕ) → List ℕ
block_head id r h parent entry =
    1 ∷ id ∷ (bytes2 (length entry) ++ (bytes4 r ++ (bytes4 h ++ (parent ++ (entry ++ zeros (436 - length entry))))))

unfoldable pub blame_head : (id r : ℕ) → List ℕ
blame_head id r = 2 ∷ id ∷ 0 ∷ 0 ∷ (bytes4 r ++ zeros 472)

module _ (hash : List ℕ → List ℕ) where
  -- the check is right
  unfoldable pub checked : List ℕ → Bool
  checked x = same (digest x) (hash (take check_at x))

  -- bytes 0–479 with their check
  unfoldable pub sealed : List ℕ → List ℕ
  sealed x = x ++ hash x

  unfoldable pub make_block : (id r h : ℕ) (parent entry : List ℕ) → List ℕ
  make_block id r h parent entry = sealed (block_head id r h parent entry)

  unfoldable pub make_blame : (id r : ℕ) → List ℕ
  make_blame id r = sealed (blame_head id r)
