use Rattle.std.proofs.Common.{rules}
use Rattle.ptu_nodes.proofs.HandedOver.{next_sent}
use Rattle.ptu_nodes.proofs.journal.Journal.hand_over_each.Goals as goal

pub datagrams-preserved : goal.datagrams-preserved
datagrams-preserved c =
    next_sent _ _ _ _ _ _ (record { ip = c.in-Some.to; channel = c.in-Some.channel; bytes = c.in-Some.octets.now })
    c.datagrams.invariant (search (rules, c.in-Some.ensures)) (search rules)
