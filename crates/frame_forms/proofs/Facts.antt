-- For the crates that build on this one: what a form that holds says of the bytes. Assumes nothing.
use mathlib.Core.Path.{◌≡◌}
use mathlib.Core.Bool.{Bool, true, ◌&&◌}
use mathlib.Core.List.{List}
use Prim.Native.Nat.{ℕ, ◌+◌, ◌≤◌, ◌<◌}
use lib.Dec.{eqb, leb, ltb}
use borrow.Author.Tests.{eqb-true, leb-true, ltb-true}
use Rattle.apollo.specs.Size.{check_at}
use Rattle.apollo.specs.Bytes.{within, blank}
use Rattle.apollo.specs.declared.Setup.{Setup}
use Rattle.apollo.specs.Setup.{replicas, leader}
use Rattle.apollo.specs.Frame.{kind, signer, entry_length, round, height, block_form, blame_form}
use Rattle.apollo.proofs.Tests.{and-true}

pub record BlockFields (s : Setup) (x : List ℕ) : Type 0 where
  pub of_block : kind x ≡ 1
  pub by_leader : signer x ≡ leader s (round x)
  pub entry_fits : entry_length x ≤ 400
  pub round_low : 1 ≤ round x
  pub round_high : round x ≤ s.last_round.0
  pub height_low : 1 ≤ height x
  pub height_high : height x ≤ round x
  pub rest : blank x (44 + entry_length x) check_at ≡ true

pub block_fields : (s : Setup) (x : List ℕ) → block_form s x ≡ true → BlockFields s x
unfolding block_form
block_fields s x e =
    let k : Bool = eqb (kind x) 1 in
    let g : Bool = eqb (signer x) (leader s (round x)) in
    let n : Bool = leb (entry_length x) 400 in
    let r : Bool = within 1 (round x) s.last_round.0 in
    let h : Bool = within 1 (height x) (round x) in
    let z : Bool = blank x (44 + entry_length x) check_at in
    let e₅ : k && g && n && r && h ≡ true = (and-true (k && g && n && r && h) z e).0 in
    let e₄ : k && g && n && r ≡ true = (and-true (k && g && n && r) h e₅).0 in
    let e₃ : k && g && n ≡ true = (and-true (k && g && n) r e₄).0 in
    let e₂ : k && g ≡ true = (and-true (k && g) n e₃).0 in
    let er : r ≡ true = (and-true (k && g && n) r e₄).1 in
    let eh : h ≡ true = (and-true (k && g && n && r) h e₅).1 in
    record {
      of_block = eqb-true (kind x) 1 (and-true k g e₂).0;
      by_leader = eqb-true (signer x) (leader s (round x)) (and-true k g e₂).1;
      entry_fits = leb-true (entry_length x) 400 (and-true (k && g) n e₃).1;
      round_low = leb-true 1 (round x) (and-true (leb 1 (round x)) (leb (round x) s.last_round.0) er).0;
      round_high = leb-true (round x) s.last_round.0 (and-true (leb 1 (round x)) (leb (round x) s.last_round.0) er).1;
      height_low = leb-true 1 (height x) (and-true (leb 1 (height x)) (leb (height x) (round x)) eh).0;
      height_high = leb-true (height x) (round x) (and-true (leb 1 (height x)) (leb (height x) (round x)) eh).1;
      rest = (and-true (k && g && n && r && h) z e).1;
    }

pub record BlameFields (s : Setup) (x : List ℕ) : Type 0 where
  pub of_blame : kind x ≡ 2
  pub by_replica : signer x < replicas s
  pub round_low : 1 ≤ round x
  pub round_high : round x ≤ s.last_round.0

pub blame_fields : (s : Setup) (x : List ℕ) → blame_form s x ≡ true → BlameFields s x
unfolding blame_form
blame_fields s x e =
    let k : Bool = eqb (kind x) 2 in
    let g : Bool = ltb (signer x) (replicas s) in
    let n : Bool = blank x 2 4 in
    let r : Bool = within 1 (round x) s.last_round.0 in
    let z : Bool = blank x 8 check_at in
    let e₄ : k && g && n && r ≡ true = (and-true (k && g && n && r) z e).0 in
    let e₂ : k && g ≡ true = (and-true (k && g) n (and-true (k && g && n) r e₄).0).0 in
    let er : r ≡ true = (and-true (k && g && n) r e₄).1 in
    record {
      of_blame = eqb-true (kind x) 2 (and-true k g e₂).0;
      by_replica = ltb-true (signer x) (replicas s) (and-true k g e₂).1;
      round_low = leb-true 1 (round x) (and-true (leb 1 (round x)) (leb (round x) s.last_round.0) er).0;
      round_high = leb-true (round x) s.last_round.0 (and-true (leb 1 (round x)) (leb (round x) s.last_round.0) er).1;
    }
