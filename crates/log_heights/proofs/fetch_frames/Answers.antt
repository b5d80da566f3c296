-- `log_heights::fetch_frames` meets its contract. By the frames copied one by one.
use Rattle.std.proofs.Common.{rules, ◌∷◌, [], arith, length-append}
use Rattle.log_heights.proofs.Fetched.{last_low_lem, tall_yields, taken_next, taken_all, front_none, front_more, front_all}
use Rattle.log_heights.proofs.fetch_frames.Goals as goal

pub slice_bounds-chunks_exact-count : goal.slice_bounds-chunks_exact-count
slice_bounds-chunks_exact-count c = let w = last_low_lem _ _ _ _ c.last_low.ensures in omega (arith, w.0)

pub slice_bounds-chunks_exact-start : goal.slice_bounds-chunks_exact-start
slice_bounds-chunks_exact-start c = let w = last_low_lem _ _ _ _ c.last_low.ensures in omega (arith, w.0)

pub loop-x-init : goal.loop-x-init
loop-x-init c =
    rw c.into_iter-x-iterator.ensures.into_iter_gives
    record { count = omega arith; room = omega (arith, c.take-x-items.ensures.count); front = front_none _ }

pub overflow_add-count : goal.overflow_add-count
overflow_add-count c =
    let w = last_low_lem _ _ _ _ c.last_low.ensures in
    let e =
    taken_next c.args.log.now c.args.h _ _ _ w.0 (omega arith) c.loop-x.yielded c.loop-x.x-iterator c.next.new.self
    c.loop-x.yielded_by
    (tall_yields c.args.log.now c.args.h _ _ _ w.0 (omega arith) _ _ _ _ c.chunks_exact.ensures.rest
    c.chunks_exact.ensures.size _ c.filter.ensures.source c.filter.ensures.closure c.take-x-items.ensures.source
    c.take-x-items.ensures.count
    c.into_iter-x-iterator.ensures.into_iter_gives (λ x b q e. search rules)) c.in-Some.x c.in-Some.ensures.steps in
    omega (arith, e.1, c.loop-x.invariant.count)

pub store-requires : goal.store-requires
store-requires c =
    let w = last_low_lem _ _ _ _ c.last_low.ensures in
    let e =
    taken_next c.args.log.now c.args.h _ _ _ w.0 (omega arith) c.loop-x.yielded c.loop-x.x-iterator c.next.new.self
    c.loop-x.yielded_by
    (tall_yields c.args.log.now c.args.h _ _ _ w.0 (omega arith) _ _ _ _ c.chunks_exact.ensures.rest
    c.chunks_exact.ensures.size _ c.filter.ensures.source c.filter.ensures.closure c.take-x-items.ensures.source
    c.take-x-items.ensures.count
    c.into_iter-x-iterator.ensures.into_iter_gives (λ x b q e. search rules)) c.in-Some.x c.in-Some.ensures.steps in
    (omega arith, omega (arith, c.loop-x.invariant.room, c.in-Some.ensures.steps.1, c.loop-x.auto.out), e.0)

pub loop-x-preserved : goal.loop-x-preserved
loop-x-preserved c =
    let w = last_low_lem _ _ _ _ c.last_low.ensures in
    let e =
    taken_next c.args.log.now c.args.h _ _ _ w.0 (omega arith) c.loop-x.yielded c.loop-x.x-iterator c.next.new.self
    c.loop-x.yielded_by
    (tall_yields c.args.log.now c.args.h _ _ _ w.0 (omega arith) _ _ _ _ c.chunks_exact.ensures.rest
    c.chunks_exact.ensures.size _ c.filter.ensures.source c.filter.ensures.closure c.take-x-items.ensures.source
    c.take-x-items.ensures.count
    c.into_iter-x-iterator.ensures.into_iter_gives (λ x b q e. search rules)) c.in-Some.x c.in-Some.ensures.steps in
    let v = c.loop-x.invariant in
    record {
      count = omega (arith, v.count, length-append c.loop-x.yielded (c.in-Some.x ∷ []));
      room = omega (arith, v.room, c.in-Some.ensures.steps.1);
      front = front_more _ _ _ v.count _ v.front _ _ _ e.0 c.store.ensures (omega arith);
    }

pub returns-clause-count : goal.returns-clause-count
returns-clause-count c =
    let w = last_low_lem _ _ _ _ c.last_low.ensures in
    let e =
    taken_all c.args.log.now c.args.h _ _ _ w.0 (omega arith) c.loop-x.yielded c.loop-x.x-iterator c.next.new.self
    c.loop-x.yielded_by
    (tall_yields c.args.log.now c.args.h _ _ _ w.0 (omega arith) _ _ _ _ c.chunks_exact.ensures.rest
    c.chunks_exact.ensures.size _ c.filter.ensures.source c.filter.ensures.closure c.take-x-items.ensures.source
    c.take-x-items.ensures.count
    c.into_iter-x-iterator.ensures.into_iter_gives (λ x b q e. search rules)) _ (omega arith) w.1 _ c.loop-x.invariant.count c.in-None.ensures.steps in
    e.0

pub returns-clause-frames : goal.returns-clause-frames
returns-clause-frames c =
    let w = last_low_lem _ _ _ _ c.last_low.ensures in
    let e =
    taken_all c.args.log.now c.args.h _ _ _ w.0 (omega arith) c.loop-x.yielded c.loop-x.x-iterator c.next.new.self
    c.loop-x.yielded_by
    (tall_yields c.args.log.now c.args.h _ _ _ w.0 (omega arith) _ _ _ _ c.chunks_exact.ensures.rest
    c.chunks_exact.ensures.size _ c.filter.ensures.source c.filter.ensures.closure c.take-x-items.ensures.source
    c.take-x-items.ensures.count
    c.into_iter-x-iterator.ensures.into_iter_gives (λ x b q e. search rules)) _ (omega arith) w.1 _ c.loop-x.invariant.count c.in-None.ensures.steps in
    front_all _ _ _ c.loop-x.invariant.count _ c.loop-x.invariant.front _ e.1
