use Rattle.std.proofs.Common.{◌≡◌, ◌∙◌, false, length, sym}
use Rattle.std.specs.Prelude.{◌==◌}
use Rattle.ptu_lanes.proofs.Items.{reply_is}
use Rattle.ptu_lanes.proofs.answering.send_reply.Goals as goal

pub returns : goal.returns
returns g c =
    let some : (length c.args.outcomes.now == 0) ≡ false = rw c.list.ensures at (sym c.is_empty.ensures ∙ c.if-is_empty.false) in
    rw (c.of.ensures, reply_is c.args.config.now c.args.from c.args.header.now c.args.outcomes.now some) (rw c.reply_of-size.ensures.octets at c.hand.ensures)
