use Rattle.std.proofs.Common.{◌≡◌, ◌∙◌, ◌+◌, None, ap, subst}
use Rattle.std.specs.{BTreeMap.{is_at}, Map.{lookup}}
use Rattle.ptu_trail.specs.contracts.live.EndOrd.TheImpl as ends
use Rattle.ptu_trail.specs.Live.{total_of}
use Rattle.ptu_trail.proofs.Ends.{taken_out, taken_total}
use Rattle.ptu_trail.proofs.live.take.Goals as goal

pub returns-clause-total : goal.returns-clause-total
returns-clause-total c =
    ap (λ n. total_of c.remove-rate.new.self.entries + n) c.unwrap_or.ensures
    ∙ taken_total c.args.end.now c.args.rates.now.entries c.remove-rate.new.self.entries c.remove-rate.result c.remove-rate.ensures.entries c.remove-rate.ensures.value

pub returns-clause-entries : goal.returns-clause-entries
returns-clause-entries c =
    c.remove-rate.ensures.entries
    ∙ taken_out c.args.end.now c.args.rates.now.entries
    (subst (λ l. lookup (is_at (ends.cmp-value.it c.args.end.now)) l ≡ None) c.remove-rate.ensures.entries c.remove-rate.ensures.updates.1)
