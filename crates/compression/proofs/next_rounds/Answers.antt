-- `compression::next_rounds` meets its contract. By the contract of `extend_round`, sixteen times. Assumes nothing.
use Rattle.std.proofs.Common.{◌≡◌, ◌+◌, ◌*◌, arith}
use Rattle.compression.proofs.next_rounds.Goals as goal

pub returns-clause-turns : goal.returns-clause-turns
returns-clause-turns g c h b o =
    let e : 16 * c.args.n + 0 ≡ 16 * c.args.n = omega arith in
    (c.extend_round.ensures.turns h b
    (c.extend_round-v-15.ensures.turns h b
    (c.extend_round-v-14.ensures.turns h b
    (c.extend_round-v-13.ensures.turns h b
    (c.extend_round-v-12.ensures.turns h b
    (c.extend_round-v-11.ensures.turns h b
    (c.extend_round-v-10.ensures.turns h b
    (c.extend_round-v-9.ensures.turns h b
    (c.extend_round-v-8.ensures.turns h b
    (c.extend_round-v-7.ensures.turns h b
    (c.extend_round-v-6.ensures.turns h b
    (c.extend_round-v-5.ensures.turns h b
    (c.extend_round-v-4.ensures.turns h b
    (c.extend_round-v-3.ensures.turns h b
    (c.extend_round-v-2.ensures.turns h b
    (c.extend_round-v.ensures.turns h b (rw e o)))))))))))))))))
