use Rattle.std.proofs.Common.{◌∙◌, ◌+◌, ap}
use Rattle.std.specs.List.{sum_by}
use Rattle.ptu_trail.specs.Live.{total_of}
use Rattle.ptu_trail.proofs.Ends.{put_in, put_total}
use Rattle.ptu_trail.proofs.live.put.Goals as goal

pub returns-clause-total : goal.returns-clause-total
returns-clause-total c =
    ap (λ n. total_of c.insert.new.self.entries + n) c.unwrap_or.ensures
    ∙ put_total c.args.end c.args.rate c.args.rates.now.entries c.insert.new.self.entries c.in_ok-former.former c.in_ok-former.ensures.was_ordered c.in_ok-former.ensures.entries c.in_ok-former.ensures.old

pub returns-clause-more : goal.returns-clause-more
returns-clause-more c = λ others weight.
    ap (sum_by weight) c.in_ok-former.ensures.entries ∙ put_in c.args.end c.args.rate c.args.rates.now.entries others weight
