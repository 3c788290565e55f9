use Rattle.std.proofs.{Common.{◌≡◌, ◌++◌, List, [], ◌∷◌, take, sym, subst}, lemmas.List.{take_more}}
use Rattle.ptu_gm_messages.specs.declared.item.Item.{Item}
use Rattle.ptu_lanes.proofs.Items.{Decided, none_decided, one_more, room_left}
use Rattle.ptu_lanes.proofs.answering.answer_items.Goals as goal

pub loop-item-init : goal.loop-item-init
loop-item-init g c = rw c.new-outcomes.ensures.items (none_decided g.L.Rates.most c.args.service.now.base.now.config.now c.args.t c.args.client.now c.args.seat.now)

pub answer_item-requires-clause-counts : goal.answer_item-requires-clause-counts
answer_item-requires-clause-counts g c κs within =
    room_left g.L.Rates.most c.args.service.now.base.now.config.now c.args.t c.args.client.now c.args.items.now c.loop-item.item-index c.args.seat.now c.loop-item.seat c.loop-item.outcomes.items c.loop-item.invariant
    c.loop-item-test.true c.requires.few c.requires.counts.0 c.requires.counts.1

pub loop-item-preserved : goal.loop-item-preserved
loop-item-preserved g c =
    let i = c.loop-item.item-index in
    let outcome = c.in_ok-answer_item.field-0 in
    let items : c.push.new.self.items ≡ c.loop-item.outcomes.items ++ outcome ∷ [] = c.in_ok-push.ensures.items in
    let IsDone : List Item → Type 0 = λ done. Decided g.L.Rates.most c.args.service.now.base.now.config.now c.args.t c.args.client.now done c.args.seat.now c.answer_item.new.seat (c.loop-item.outcomes.items ++ outcome ∷ []) in
    rw items (subst IsDone (sym (take_more c.args.items.now i _ c.loop-item-test.true))
    (one_more g.L.Rates.most c.args.service.now.base.now.config.now c.args.t c.args.client.now (take i c.args.items.now) _ c.args.seat.now c.loop-item.seat c.answer_item.new.seat c.loop-item.outcomes.items outcome
    c.loop-item.invariant c.in_ok-answer_item.ensures.item c.in_ok-answer_item.ensures.decided c.in_ok-answer_item.ensures.answered))
