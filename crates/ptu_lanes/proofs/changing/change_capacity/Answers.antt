use Rattle.std.proofs.Common.{◌∙◌, ◌+◌, ◌%◌, ap, sym}
use Rattle.std.proofs.lemmas.List.{length-map}
use Rattle.ptu_admit.specs.declared.shed_list.Shed.{Shed}
use Rattle.ptu_lanes.proofs.Moments.{passed_one}
use Rattle.ptu_lanes.proofs.changing.change_capacity.Goals as goal

pub returns-clause-sends : goal.returns-clause-sends
returns-clause-sends g c =
    let sends = c.send_cancels-sends.ensures in
    let count = sends.count ∙ sym (length-map c.list-shed.result.now (λ (s : Shed). (s.client, s.kind))) in
    (_, _, _, sends.sends, count, c.sequence_after-lane.ensures ∙ ap (λ n. (c.args.lane.now.sequence + n) % 65536) count, c.plus-lane.ensures.sent, c.plus-lane.ensures.failed)

pub returns-clause-moment : goal.returns-clause-moment
returns-clause-moment g c = passed_one _ _ c.now.ensures.rest
