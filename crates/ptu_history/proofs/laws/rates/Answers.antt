use Rattle.ptu_history.proofs.Rates.{own_rate-live, own_rate-none, rates-own, rates-tables}
use Rattle.ptu_history.proofs.laws.rates.Goals as goal

pub returns : goal.returns
returns _ = search (rates-own, own_rate-live, own_rate-none, rates-tables)
