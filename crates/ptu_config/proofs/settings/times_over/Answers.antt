use Rattle.std.proofs.Common.{◌≡◌, arith, rules}
use Rattle.ptu_config.proofs.RoundCounts.{count_of}
use Rattle.ptu_config.proofs.settings.times_over.Goals as goal

pub returns-clause-range : goal.returns-clause-range
returns-clause-range c = λ some times.
    let first : c.from.result ≡ c.args.rounds = search rules in
    let second : c.from-2.result ≡ c.args.repeat = search rules in
    rw (first, second) (count_of c.args.rounds c.args.repeat some (omega arith) times)
