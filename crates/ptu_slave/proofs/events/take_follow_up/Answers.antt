use Rattle.std.proofs.Common.{[], ◌∷◌, refl}
use Rattle.ptu_record.specs.Record.{Event}
use Rattle.ptu_slave.proofs.{Happening.{followed_up}, Quiet.{selects_kept}}
use Rattle.ptu_slave.proofs.events.take_follow_up.Goals as goal

pub returns : goal.returns
returns c = followed_up c.args.core.now c.begin.new.self c.begin.new.self c.args.t c.begin.result c.begin.ensures.at c.begin.ensures.rest refl
    c.args.master (λ L. selects_kept c.begin.new.self L (Event c.begin.result ∷ []) (refl, tt))
