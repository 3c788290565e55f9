use Rattle.std.proofs.Common.{◌∙◌, ◌<◌, ap, arith, length, refl, subst, sym}
use Rattle.std.proofs.lemmas.Option.{slice_get_read}
use Rattle.ptu_record.specs.{Asks.{due_kinds}, Record.{record_of}}
use Rattle.ptu_slave.specs.Kept.{CountFor}
use Rattle.ptu_slave.proofs.Waiting.{nothing_to}
use Rattle.ptu_slave.proofs.node.Core.asks_one_from.Goals as goal

pub returns : goal.returns
returns c =
    let within : c.args.master < length c.self.inside.masters.items = rw (← c.self.view_is) at c.requires in
    rw (← c.self.view_is) (λ L h x low high.
    let own = record_of c.args.master L in
    let counted : CountFor c.index-counters.result.now own =
    h.counters.of_master c.args.master c.index-counters.result.now
    (slice_get_read c.self.inside.counters.items (length c.self.inside.counters.items) c.args.master c.index-counters.result.now refl
    (subst (λ n. c.args.master < n) (sym c.self.invariant.3) within) c.index-counters.ensures) in
    nothing_to c.self.inside.config.wants L x c.args.master
    (ap (λ wants. due_kinds wants own x) (sym c.self.invariant.4) ∙ c.due_from.ensures L h.requester x low (omega (arith, high, c.min.ensures)))
    (c.probe_due_from-probe.ensures.idle L h.requester counted x low (omega (arith, high, c.min.ensures))))
