-- What a change of capacity sheds, as it is answered.
use Rattle.ptu_history.specs.Live.{Grant}
use Rattle.ptu_admit.specs.declared.shed_list.Shed.{Shed}

-- the grant that is shed
abbrev pub shed_of : Grant → Shed
shed_of g = record { client = g.client; kind = g.kind; log = g.log }
