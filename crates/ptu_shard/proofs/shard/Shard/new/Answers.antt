use Rattle.std.proofs.Common.{arith}
use Rattle.ptu_history.specs.{Moments.{book_moment, table_moment}, Live.{last_decision}}
use Rattle.ptu_history.specs.History.{lease_records}
use Rattle.ptu_shard.proofs.shard.Shard.new.Goals as goal

pub returns-clause-stands : goal.returns-clause-stands
unfolding book_moment table_moment last_decision lease_records
returns-clause-stands g c = λ j. rw (c.new.ensures.empty, c.default.ensures) (record {
  kept = λ row h. absurd (omega (arith, h.1));
  over = λ d i n l u own last none. absurd (cc);
  least = omega arith;
  greatest = omega arith;
})
