-- `compression::first_rounds` meets its contract. By the contract of `held_round`, sixteen times. Assumes nothing.
use Rattle.std.proofs.Common.{refl}
use Rattle.compression.specs.Fips.{rounds}
use Rattle.compression.proofs.first_rounds.Goals as goal

pub returns : goal.returns
unfolding rounds
returns g c b o =
    let s = c.args.s in
    record {
      variables =
          (c.held_round.ensures s b o
          (c.held_round-v-15.ensures s b o
          (c.held_round-v-14.ensures s b o
          (c.held_round-v-13.ensures s b o
          (c.held_round-v-12.ensures s b o
          (c.held_round-v-11.ensures s b o
          (c.held_round-v-10.ensures s b o
          (c.held_round-v-9.ensures s b o
          (c.held_round-v-8.ensures s b o
          (c.held_round-v-7.ensures s b o
          (c.held_round-v-6.ensures s b o
          (c.held_round-v-5.ensures s b o
          (c.held_round-v-4.ensures s b o
          (c.held_round-v-3.ensures s b o
          (c.held_round-v-2.ensures s b o
          (c.held_round-v.ensures s b o refl))))))))))))))));
      words = o;
    }
