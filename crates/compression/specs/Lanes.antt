-- Messages side by side: where the words of a lane stand, and what one step makes of all of them.
use Rattle.std.specs.Prelude.{◌≡◌, List, [], ℕ, ◌<◌, slice_index, slice_index_or, map}
use Rattle.std.specs.Borrow.{Bor}
use Rattle.compression.specs.declared.State.{State}
use Rattle.compression.specs.declared.Lanes.{Lanes}
use Rattle.compression.specs.Fips.{schedule, compress}
use Rattle.compression.specs.Window.{Window, Turned}

-- the sixteen words of lane l, of rows of words
abbrev pub words_at : List (List ℕ) → ℕ → List ℕ
words_at w l = map (λ (row : List ℕ). slice_index row l) w

-- the eight words of lane l
abbrev pub state_at : {L : ℕ} → Lanes L → ℕ → State
state_at v l =
    record {
      a = slice_index v.a l;
      b = slice_index v.b l;
      c = slice_index v.c l;
      d = slice_index v.d l;
      e = slice_index v.e l;
      f = slice_index v.f l;
      g = slice_index v.g l;
      h = slice_index v.h l;
    }

-- the other lanes are as they were
pub record Kept (l : ℕ) (w w' : List (List ℕ)) : Type 0 where
  pub same : (m : ℕ) → (m ≡ l → ⊥) → words_at w' m ≡ words_at w m

-- the words of lane l are those of s, and the other lanes' are as they were
pub record Put {L : ℕ} (l : ℕ) (s : State) (v v' : Lanes L) : Type 0 where
  pub here : state_at v' l ≡ s
  pub same : (m : ℕ) → (m ≡ l → ⊥) → state_at v' m ≡ state_at v m

-- the first t words of each lane's block stand in w
pub record Loaded (L : ℕ) (b : ℕ → List ℕ) (t : ℕ) (w : List (List ℕ)) : Type 0 where
  pub at : (m : ℕ) → m < L → Window (schedule (b m) 64) (words_at w m) t

-- after t rounds in each lane, from the hash values h over the blocks b
pub record AllTurned {L : ℕ} (h : ℕ → State) (b : ℕ → List ℕ) (t : ℕ) (v : Lanes L) (w : List (List ℕ)) : Type 0 where
  pub at : (m : ℕ) → m < L → Turned (h m) (schedule (b m) 64) t (state_at v m) (words_at w m)

-- the bytes that lane m is given
abbrev pub bytes_at : List (Bor (List ℕ)) → ℕ → List ℕ
bytes_at b m = slice_index_or (map (λ (block : Bor (List ℕ)). block.now) b) m []

-- each lane is one block further
pub record Compressed {L : ℕ} (b : ℕ → List ℕ) (h h' : Lanes L) : Type 0 where
  pub at : (m : ℕ) → m < L → state_at h' m ≡ compress (state_at h m) (b m)
