-- The bench sheet of document 01, whole. Assumes nothing.
use mathlib.Core.Path.{refl}
use Rattle.apollo.specs.Setup.{setup}
use Rattle.apollo.specs.BenchSheet.{BenchSheet}
use Rattle.apollo.proofs.BenchCommit.{leaders, chain_1_2, chain_1, third_filled, chain_1_3, commits_3, chain_1_2_3, mask_3, mask_1, mask_21}
use Rattle.apollo.proofs.BenchRefusals.{ends_in_2, ends_in_3, branch_400, hand_400, tick_400, branch_401, hand_401, tick_401}
use Rattle.apollo.proofs.BenchTicks.{first_blames, second_blames, tick_commits}
use Rattle.apollo.proofs.BenchOpen.{open_400, open_401, open_emits, then_over}
use Rattle.apollo.proofs.BenchBranches.{uncertified_9, number_9, replica_1, replica_0, committed_10, undone_10, uncertified_10, held_10}

pub bench_sheet : BenchSheet
bench_sheet =
    record {
      item_1 = leaders;
      item_2 = λ r log f. (chain_1_2 r log f, λ t e. chain_1 r log f t);
      item_3 = (
        λ r log f. (chain_1_3 r log f, λ t e. commits_3 r log f t (third_filled log e).0),
        λ s entry out h l. tick_commits h entry l,
      );
      item_4 = chain_1_2_3;
      item_5 =
          λ T rotation masks r. (
            mask_3 (setup 1 T rotation) masks r refl,
            mask_1 (setup 1 T rotation) masks r refl,
            mask_21 (setup 2 T rotation) masks r refl,
          );
      item_6 =
          λ s x xs entry out c l three fit good.
          (ends_in_2 c entry l x xs three fit good, ends_in_3 c entry l x xs three fit good);
      item_7 = (
        λ id f timeout T rotation log masks entry out o. (
          open_400 id f timeout T rotation log masks entry out o,
          open_401 id f timeout T rotation log masks entry out o,
        ),
        λ s bytes entry out c. (
          λ l. (branch_400 c bytes entry l, hand_400 c bytes entry l 1, hand_400 c bytes entry l 15, tick_400 c bytes entry l),
          λ l. (branch_401 c bytes entry l, hand_401 c bytes entry l 1, hand_401 c bytes entry l 15, tick_401 c bytes entry l),
        ),
      );
      item_8 =
          λ s entry out entry' out' c l l' room full.
          (first_blames c entry l full, second_blames c entry l entry' out' l' room full);
      item_9 =
          λ s x entry out h l.
          (uncertified_9 h entry l, λ m low. (number_9 h entry l m low, replica_1 h entry l m low, replica_0 h entry l m low));
      item_10 =
          λ s entry out h l. (
            committed_10 h,
            λ x good r p. (undone_10 h entry l x good r p, λ two three. uncertified_10 h entry l x good r p two),
            λ y held good child four. held_10 h entry l held y good child four,
          );
      item_11 =
          λ f timeout log masks entry out entry' out' o l.
          let e = open_emits f timeout log masks entry out o l in
          (e.0, e.1, e.2, e.3, e.4, then_over f timeout log masks entry out o l entry' out');
    }
