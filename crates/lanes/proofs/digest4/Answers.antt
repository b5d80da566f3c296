-- `lanes::digest4` meets its contract. Seven blocks of each message as they stand, then the last one. Assumes nothing.
use Rattle.std.proofs.Common.{◌≡◌, ◌<◌, ◌∙◌, List, [], get_or, length, ap, lit<, arith, rules}
use Rattle.sha256.specs.Fips.{block, padded}
use Rattle.compression.proofs.Rows.{bytes_are}
use Rattle.lanes.proofs.Mapped.{serves_list, maps_each}
use Rattle.lanes.proofs.Digest.{Long, hashed_start, hashed_step, block_in, lane_digest, four_digests}
use Rattle.lanes.proofs.digest4.Goals as goal

pub loop-i-init : goal.loop-i-init
loop-i-init c = hashed_start _ _ _ c.initial.ensures c.new-h.ensures

pub map-requires : goal.map-requires
map-requires c = (lit< tt, (lit< tt, (lit< tt, serves_list _ _ Long c.args.m _ c.requires (λ x q h. search rules) (λ x h. search rules))))

pub loop-i-preserved : goal.loop-i-preserved
loop-i-preserved c =
    let i = c.loop-i.i-counter in
    let h : i < 7 = omega arith in
    let n : length c.args.m ≡ 4 = search rules in
    hashed_step i c.loop-i.invariant
    (λ k q. rw (bytes_are c.map.result k)
    (block_in _ _ i (c.requires k _ (omega arith)) h
    (maps_each _ _ Long (λ x y. y.now ≡ block x.now i) c.args.m c.map.result 4 n c.requires c.map.ensures.items
    (λ x y q l h. search rules) k _ _ q)))
    c.compress.ensures

pub map-last-requires : goal.map-last-requires
map-last-requires c =
    (lit< tt, (lit< tt, (lit< tt, serves_list _ _ Long c.args.m _ c.requires (λ x q h. search rules) (λ x h. search rules))))

pub returns : goal.returns
returns c =
    let long = c.requires in
    let n : length c.args.m ≡ 4 = search rules in
    let q : c.loop-i.i-counter ≡ 7 = omega (arith, c.loop-i.auto.i-counter-end) in
    let o =
    hashed_step 7 (rw q at c.loop-i.invariant)
    (λ k q. ap (λ (bs : List _). get_or bs k []) c.each_ref.ensures.items
    ∙ maps_each _ _ Long (λ x y. y ≡ block (padded x.now) 7) c.args.m c.map-last.result 4 n long c.map-last.ensures.items
    (λ x y q l h. search rules) k _ _ q)
    c.compress-2.ensures in
    four_digests c.args.m _ _ _ _ n
    (lane_digest _ _ _ _ (long 0 _ (omega arith)) (o.at 0 (omega arith)) c.lane.ensures c.bytes_of.ensures)
    (lane_digest _ _ _ _ (long 1 _ (omega arith)) (o.at 1 (omega arith)) c.lane-2.ensures c.bytes_of-2.ensures)
    (lane_digest _ _ _ _ (long 2 _ (omega arith)) (o.at 2 (omega arith)) c.lane-3.ensures c.bytes_of-3.ensures)
    (lane_digest _ _ _ _ (long 3 _ (omega arith)) (o.at 3 (omega arith)) c.lane-4.ensures c.bytes_of-4.ensures)
