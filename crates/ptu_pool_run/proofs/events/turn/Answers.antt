use Rattle.std.proofs.Common.{refl}
use Rattle.ptu_pool_run.proofs.Happening.{on_ok_five, turn_happened}
use Rattle.ptu_pool_run.proofs.events.turn.Goals as goal

pub returns : goal.returns
returns c =
    on_ok_five c.tell_ports.result (λ last others says idle sure setup events sold.
    turn_happened setup c.args.line events c.args.pools.now c.reserve_turn.new.pools sold c.in_ok-reserve_turn.ensures.kept
    _ (λ port. refl) (λ port ds s. s) (λ port s. s) c.args.at c.args.place c.args.table c.turn.result c.turn.new.self c.tell_ports.new.pools c.args.texts.now c.tell_ports.new.texts
    c.in_ok-reserve_turn.ensures.room
    c.turn.ensures.turned (c.turn.ensures.stands _ events (c.in_ok-reserve_turn.ensures.kept.go_on.stand _ events sold.stand)) (record { last = last; others = others; says = says; emptied = idle; kept_sure = sure }))
    c.tell_ports.ensures.go_on c.tell_ports.ensures.others c.tell_ports.ensures.says c.tell_ports.ensures.idle c.tell_ports.ensures.sure
