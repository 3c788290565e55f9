use Rattle.std.proofs.Common.{take}
use Rattle.ptu_lanes.proofs.Items.{Decided}
use Rattle.ptu_lanes.proofs.answering.answer_items.Given as goal

abbrev pub invariant-loop-item : goal.invariant-loop-item
invariant-loop-item g l = Decided g.L.Rates.most l.service.base.now.config.now l.t l.client (take l.item-index l.items) l.initial.seat l.seat l.outcomes.items
