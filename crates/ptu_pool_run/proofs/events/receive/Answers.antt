use Rattle.std.proofs.{Common.{refl}, lemmas.Result.{on_ok_weaker}}
use Rattle.ptu_nodes.specs.Standing.{setup_config}
use Rattle.ptu_pool_run.proofs.Happening.{came_happened, on_ok_five, stranger_came}
use Rattle.ptu_pool_run.proofs.events.receive.Goals as goal

pub returns-in-Stranger : goal.returns-in-Stranger
returns-in-Stranger c =
    let room = c.in_ok-reserve_for.ensures in
    let taken = c.in_ok-take.ensures in
    let took = rw c.in-Stranger.is at taken.took in
    on_ok_weaker c.add_text.result (λ says setup events sold.
    stranger_came setup c.args.line events c.args.pools.now c.reserve_for.new.pools sold room.kept
    c.args.at c.args.from c.args.octets.now c.take.new.self c.args.texts.now c.add_text.new.self took.0 took.1
    (taken.stands (setup_config setup) events (room.kept.go_on.stand (setup_config setup) events sold.stand)) says)
    c.add_text.ensures.added

pub returns-in-In : goal.returns-in-In
returns-in-In c =
    let room = c.in_ok-reserve_for.ensures in
    let taken = c.in_ok-take.ensures in
    let took = rw c.in-In.is at taken.took in
    let told = c.tell_ports.ensures in
    on_ok_five c.tell_ports.result (λ last others says idle sure setup events sold.
    came_happened setup c.args.line events c.args.pools.now c.reserve_for.new.pools sold room.kept
    _ (λ port. refl) (λ port ds s. s) (λ port s. s) c.args.at c.args.from c.in-In.place c.args.octets.now _ c.take.new.self c.tell_ports.new.pools c.args.texts.now c.tell_ports.new.texts
    room.room took.0 took.1
    (taken.stands (setup_config setup) events (room.kept.go_on.stand (setup_config setup) events sold.stand)) (record { last = last; others = others; says = says; emptied = idle; kept_sure = sure }))
    (rw c.give_back.ensures at told.go_on) (rw c.give_back.ensures at told.others) (rw c.give_back.ensures at told.says) told.idle (rw c.give_back.ensures at told.sure)
