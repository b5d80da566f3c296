-- Fetches one after another, and one fetch with one branch. Assumes what the statements say, and nothing else.
use Prim.Native.Nat.{ℕ, ◌+◌, ◌*◌, ◌≤◌}
use mathlib.Core.Path.{◌≡◌, refl, sym, ap, ap₂, ◌∙◌, subst}
use mathlib.Core.Logic.{inr}
use mathlib.Core.Option.{some}
use mathlib.Core.List.{List, [], ◌∷◌, ◌++◌, flatten}
use mathlib.Core.Bool.{not}
use native.Mathlib.Omega.{arith}
use lib.ListN.{length, take, drop, length-append, length-take, take-append-drop}
use lib.Seq.{take_at}
use lib.Dec.{eqb, ltb}
use Rattle.apollo.specs.Size.{frame_size}
use Rattle.apollo.specs.Frame.{height, frames}
use Rattle.apollo.specs.Log.{slot, chain}
use Rattle.apollo.specs.Replica.{valid_replica}
use Rattle.apollo.specs.Fetch.{FetchOutcome, above, fetch_count, fetch_call}
use Rattle.apollo.proofs.Fetch.{above_append}
use Rattle.apollo.specs.Calls.{branch_call}
use Rattle.apollo.proofs.Frames.{Whole, whole_take}
use Rattle.apollo.proofs.BlockRun.{blocks_whole}
use Rattle.theorem_agreement.specs.Run.{Event, start, run}
use Rattle.theorem_agreement.proofs.Tests.{by_cond}
use Rattle.theorem_agreement.proofs.Frames.{frames_flatten}
use Rattle.theorem_agreement.proofs.Good.{Good}
use Rattle.theorem_agreement.proofs.Above.{After, segment_after, cut_from, segment}
use Rattle.theorem_agreement.proofs.World.{start_inv, run_inv}
use Rattle.theorem_agreement.proofs.GoodRun.{parts, above_run}
use Rattle.theorem_catch_up.specs.CatchUp.{missing, verdict_of, received, GoesOn, GrowsOn, OneFetch}
use Rattle.theorem_catch_up.proofs.CatchUp.{catch_up}

pub goes_on : GoesOn
goes_on s calls l j d e h xs x ys m =
    let past : List Event = (run start calls).past in
    let g : Good s past j d = (run_inv s calls start l (start_inv s)).good j d e in
    let T : ℕ = d.replica.last_round.0 in
    let p = parts s past j d g h in
    let a : After d.log (p.from + p.more) x ys = segment_after d.log p.from p.more xs x ys (sym p.is ∙ m) in
    let q = parts s past j d g (height x) in
    let f : q.from ≡ a.at =
    cut_from _ _ _ d.log _ g.stored.chain (height x) T a.at q (omega (arith, a.to, p.to)) (inr a.full) (ap height (sym a.here)) in
    let n : q.more ≡ a.left = omega (arith, q.to, a.to, p.to) in
    q.is ∙ ap₂ (segment d.log) f n ∙ sym a.rest

pub grows_on : GrowsOn
grows_on d e b h = (above h b.0, ap (above h) b.1 ∙ above_append h (chain d.log d.replica.last_round.0) b.0)

-- frames of 512 bytes each, end to end
flatten_length : (xs : List (List ℕ)) → Whole xs → length (flatten xs) ≡ frame_size * length xs
unfolding flatten
flatten_length [] w = refl
flatten_length (x ∷ xs) w = length-append x (flatten xs) ∙ omega (arith, w.0, flatten_length xs w.1)

-- the frames that a fetch wrote
module _ (n : ℕ) (xs : List (List ℕ)) (rest : List ℕ) (w : Whole xs) (l : n ≤ length xs) where
  size : length (take n xs) ≡ n
  size = simp length-take (omega arith)

  wrote : frames n (flatten (take n xs) ++ rest) ≡ take n xs
  wrote = ap (λ k. frames k (flatten (take n xs) ++ rest)) (sym size) ∙ frames_flatten (take n xs) rest (whole_take n xs w)

  bytes : take (frame_size * n) (flatten (take n xs) ++ rest) ≡ flatten (take n xs)
  bytes = take_at (flatten (take n xs)) rest (frame_size * n) (flatten_length (take n xs) (whole_take n xs w) ∙ ap (λ k. frame_size * k) size)

pub one_fetch : OneFetch
unfolding fetch_call frames
one_fetch s correct calls p i j c d ec ed tray o e x ys m entry out fits room = go o e m
  where
    xs : List (List ℕ)
    xs = missing c d

    n : ℕ
    n = fetch_count d.replica d.log c.replica.committed_height.0 tray

    g : Good s (run start calls).past j d
    g = (run_inv s calls start p.lawful (start_inv s)).good j d ed

    whole : Whole xs
    whole = blocks_whole s (some (slot d.log (parts s (run start calls).past j d g c.replica.committed_height.0).from)) xs
        (above_run s (run start calls).past j d g c.replica.committed_height.0)

    Answered : FetchOutcome → Type 0
    Answered u = frames u.answer.count u.out ≡ x ∷ ys → verdict_of (branch_call c (take (frame_size * u.answer.count) u.out) entry out) ≡ received c c.replica.committed_round.0 x ys

    none : (k : ℕ) → Answered (record { answer = record { number = k; count = 0 }; out = tray })
    none k v = let z : ◌≡◌ {A = ℕ} 0 1 = cc in absurd (omega arith)

    copied : Answered (record { answer = record { number = 0; count = n }; out = flatten (take n xs) ++ drop (frame_size * n) tray })
    copied v =
        let t : take n xs ≡ x ∷ ys = sym (wrote n xs (drop (frame_size * n) tray) whole (omega arith)) ∙ v in
        let b : take (frame_size * n) (flatten (take n xs) ++ drop (frame_size * n) tray) ≡ flatten (x ∷ ys) = bytes n xs (drop (frame_size * n) tray) whole (omega arith) ∙ ap flatten t in
        ap (λ u. verdict_of (branch_call c u entry out)) b
        ∙ catch_up s correct calls p i j c d ec ed x ys (drop n xs) (sym (take-append-drop n xs) ∙ ap (λ us. us ++ drop n xs) t) entry out fits room

    go : (u : FetchOutcome) → u ≡ fetch_call d.replica d.log c.replica.committed_height.0 tray → Answered u
    go u e =
        subst Answered (sym e)
        (by_cond Answered (not (valid_replica d.replica d.log)) (λ _. none 2)
        (λ _. by_cond Answered (ltb (length tray) 1024) (λ _. none 4)
        (λ _. by_cond Answered (eqb (length xs) 0) (λ _. none 15) (λ _. copied))))
