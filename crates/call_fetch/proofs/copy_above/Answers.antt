-- `call_fetch::copy_above` meets its contract: 2, 4, 15, and taken.
use Rattle.std.proofs.Common.{refl}
use Rattle.call_fetch.proofs.Fetching.{fetch_invalid, fetch_short, fetch_absent, fetch_copied}
use Rattle.record_ranges.proofs.Valid.{replica_test}
use Rattle.call_fetch.proofs.copy_above.Goals as goal

pub returns-then-not-valid_record-valid_log : goal.returns-then-not-valid_record-valid_log
returns-then-not-valid_record-valid_log c =
    fetch_invalid _ _ _ _ _ (replica_test _ _ c.valid_record.ensures c.valid_log.ensures) _ refl
    c.if-not-valid_record-valid_log.true

pub returns-then-out-lt-OUT : goal.returns-then-out-lt-OUT
returns-then-out-lt-OUT c =
    fetch_short _ _ _ _ _ (replica_test _ _ c.valid_record.ensures c.valid_log.ensures) c.if-not-valid_record-valid_log.false _
    refl c.if-out-lt-OUT.true

pub returns-then-count-eq0 : goal.returns-then-count-eq0
returns-then-count-eq0 c =
    fetch_absent _ _ _ _ _ (replica_test _ _ c.valid_record.ensures c.valid_log.ensures) c.if-not-valid_record-valid_log.false
    c.if-out-lt-OUT.false c.fetch_frames-count.result _ c.fetch_frames-count.ensures.count c.fetch_frames-count.ensures.frames _
    refl c.if-count-eq0.true

pub returns : goal.returns
returns c =
    fetch_copied _ _ _ _ _ (replica_test _ _ c.valid_record.ensures c.valid_log.ensures) c.if-not-valid_record-valid_log.false
    c.if-out-lt-OUT.false c.fetch_frames-count.result _ c.fetch_frames-count.ensures.count c.fetch_frames-count.ensures.frames
    c.if-count-eq0.false
