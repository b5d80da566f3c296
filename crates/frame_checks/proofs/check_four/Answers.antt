-- `frame_checks::check_four` meets its contract: each frame by the digest of its own lane.
use Rattle.std.proofs.Common.{◌≡◌, sym, ap, ◌∙◌, rules, arith, ℕ, ◌<◌, List, [], get_or, length, take, map}
use Rattle.std.proofs.iter.Serving.{serving}
use Rattle.std.proofs.lemmas.List.{get_or-map, length-map}
use Rattle.std.specs.Borrow.{Bor}
use Rattle.std.specs.List.{All}
use Rattle.sha256.specs.Fips.{sha256}
use Rattle.sha256.proofs.FromFn.{from_fn_is}
use Rattle.lanes.proofs.Mapped.{maps_each}
use Rattle.lanes.proofs.Digest.{message}
use Rattle.apollo.specs.Bytes.{same}
use Rattle.apollo.specs.Frame.{digest, checked}
use Rattle.frame_checks.proofs.check_four.Goals as goal

-- a frame, as long as its type says
abbrev Whole : Bor (List ℕ) → Type 0
Whole x = length x.now ≡ 512

-- one lane
lane : (x d : List ℕ) → d ≡ sha256 (take 480 x) → checked sha256 x ≡ same (digest x) d
unfolding checked
lane x d e = ap (same (digest x)) (sym e)

pub map-requires : goal.map-requires
map-requires c = grind serving

pub digest4-requires : goal.digest4-requires
digest4-requires c =
    let a : All Whole c.args.x = λ k d h. search rules in
    let n : length c.args.x ≡ 4 = search rules in
    λ k d h. maps_each _ _ Whole (λ x y. length y.now ≡ 480) c.args.x c.map.result 4 n a c.map.ensures.items
    (λ x y q l h. search rules) k d d (omega arith)

pub from_fn-requires : goal.from_fn-requires
from_fn-requires c = grind serving

pub returns : goal.returns
returns c =
    let x = c.args.x in
    let ds = c.digest4.result.0 in
    let a : All Whole x = λ k d h. search rules in
    let n : length x ≡ 4 = search rules in
    let m : length c.map.result ≡ 4 = c.map.ensures.items.long in
    let at : (k : ℕ) → k < 4 → get_or ds k [] ≡ sha256 (take 480 (message x k)) =
    λ k b. ap (λ (l : List (List ℕ)). get_or l k []) c.digest4.ensures
    ∙ get_or-map (λ (y : Bor (List ℕ)). sha256 y.now) c.map.result k (record { ref_ptr = (0, 0); now = [] }) [] (omega (arith, m))
    ∙ ap sha256 (maps_each _ _ Whole (λ x y. y.now ≡ take 480 x.now) x c.map.result 4 n a c.map.ensures.items
    (λ x y q l h. search rules) k _ _ b) in
    from_fn_is _ _ (λ k. same (digest (message x k)) (get_or ds k [])) 4 (λ k y q b h. search rules) _
    (map (λ (y : Bor (List ℕ)). checked sha256 y.now) x)
    (length-map x _ ∙ n)
    (λ k d b. get_or-map (λ (y : Bor (List ℕ)). checked sha256 y.now) x k (record { ref_ptr = (0, 0); now = [] }) d (omega (arith, n))
    ∙ lane _ _ (at k b))
    c.from_fn.ensures.items
