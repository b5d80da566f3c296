-- The frames of a set one by one: joined to the set, looked for in the masks, and added. Assumes nothing.
use mathlib.Core.Path.{◌≡◌, refl}
use mathlib.Core.Bool.{Bool, true, false, ◌&&◌, not}
use mathlib.Core.List.{List, [], ◌∷◌, ◌++◌}
use Prim.Native.Nat.{ℕ, ◌<◌}
use lib.Dec.{eqb}
use lib.ListN.{length}
use Rattle.std.specs.List.{list_any}
use Rattle.apollo.specs.Size.{frame_size}
use Rattle.apollo.specs.Frame.{signer, round, frames_of}
use Rattle.apollo.specs.Masks.{bit, set_bit, mask, add_blame}
use Rattle.apollo.specs.Blame.{one_set, any_fresh, add_blames}
use Rattle.frame.proofs.Walk.{frames_more, frames_done}
use Rattle.blame_set.specs.Set.{HaveBits}

-- of the frames left, s, the frame x comes, and then t
module _ (s : List ℕ) where
  module _ (x t : List ℕ) (p : s ≡ x ++ t) (h : length x ≡ frame_size) where
    pub bits_next : HaveBits (frames_of s) → (signer x < 16) × HaveBits (frames_of t)
    bits_next m = rw (frames_more s x t p h) at m

  -- 16
  module _ (r before : ℕ) (goal : Bool) (e : one_set r before (frames_of s) ≡ goal) where
    module _ (x t : List ℕ) (p : s ≡ x ++ t) (h : length x ≡ frame_size) (c : Bool)
        (d : c ≡ (eqb (round x) r && not (bit (signer x) before))) where
      pub set_stop : c ≡ false → false ≡ goal
      unfolding one_set
      set_stop z = rw (frames_more s x t p h, ← d, z) at e

      pub set_more : (m : ℕ) → c ≡ true → m ≡ set_bit (signer x) before → one_set r m (frames_of t) ≡ goal
      unfolding one_set
      set_more m z f = rw f (rw (frames_more s x t p h, ← d, z) at e)

    pub set_end : length s < frame_size → true ≡ goal
    unfolding one_set
    set_end h = rw (frames_done s h) at e

  module _ (masks : List ℕ) where
    -- the bits
    module _ (goal : List ℕ) (e : add_blames masks (frames_of s) ≡ goal) where
      pub added_more : (x t : List ℕ) → s ≡ x ++ t → length x ≡ frame_size → (y : List ℕ) → y ≡ add_blame masks (round x) (signer x)
          → add_blames y (frames_of t) ≡ goal
      unfolding add_blames
      added_more x t p h y d = rw d (rw (frames_more s x t p h) at e)

      pub added_end : length s < frame_size → masks ≡ goal
      unfolding add_blames
      added_end h = rw (frames_done s h) at e

-- 10
pub fresh_any : (masks : List ℕ) (xs : List (List ℕ)) → list_any (λ x. not (bit (signer x) (mask masks (round x)))) xs ≡ any_fresh masks xs
unfolding any_fresh
fresh_any masks [] = refl
fresh_any masks (x ∷ xs) = rw (fresh_any masks xs)
