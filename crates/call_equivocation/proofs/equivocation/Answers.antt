-- `call_equivocation::equivocation` meets its contract: 2, the judgement of the pair, and taken.
use Rattle.std.proofs.Common.{refl}
use Rattle.apollo.proofs.Numbers.{number_some, refused_verdict, taken_verdict}
use Rattle.call_equivocation.proofs.Call.{record_bad, pair_refused, card_low, pair_taken}
use Rattle.call_equivocation.proofs.equivocation.Goals as goal

pub returns-then-not-valid_record : goal.returns-then-not-valid_record
returns-then-not-valid_record c =
    record_bad _ _ _ c.valid_record.ensures _ (rw c.into.ensures at c.refused.ensures) c.if-not-valid_record.true

pub returns-in-Err : goal.returns-in-Err
returns-in-Err c =
    pair_refused _ _ _ c.valid_record.ensures c.if-not-valid_record.false _ c.from-s.ensures _
    (refused_verdict _ _ c.judge_pair.ensures _ c.in-Err.is) _ c.refused-in-Err.ensures (number_some c.in-Err.e.refusal)

pub with_mark-requires : goal.with_mark-requires
with_mark-requires c =
    card_low _ _ _ c.valid_record.ensures c.if-not-valid_record.false _ c.from-s.ensures _
    (taken_verdict _ _ c.judge_pair.ensures _ c.in_default.is) _ c.part.ensures _ _ c.round.ensures c.leader-card.ensures

pub returns : goal.returns
returns c =
    pair_taken _ _ _ c.valid_record.ensures c.if-not-valid_record.false _ c.from-s.ensures _
    (taken_verdict _ _ c.judge_pair.ensures _ c.in_default.is) _ c.part.ensures _ _ c.round.ensures c.leader-card.ensures _ _
    c.with_mark.ensures refl refl
