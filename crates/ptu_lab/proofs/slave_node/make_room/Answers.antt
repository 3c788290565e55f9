use Rattle.ptu_slave.specs.Seen.{seen}
use Rattle.ptu_lab.proofs.{Room.{room_made}, SlaveEvents.{on_ok_both}}
use Rattle.ptu_lab.proofs.slave_node.make_room.Goals as goal

pub returns-clause-room : goal.returns-clause-room
unfolding seen
returns-clause-room g c =
    on_ok_both c.reserve.result (λ more wider.
    room_made c.port.result.now c.reserve.new.self _ _ c.reserve.ensures.same more wider)
    c.reserve.ensures.datagrams c.reserve.ensures.octets
