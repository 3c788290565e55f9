-- What loads of few clients write, made out by hand.
use Rattle.std.specs.Prelude.{◌≡◌, codes}
use Rattle.ptu_lab.specs.Load.{summary}

-- one client: its reply, and four messages in eight seconds
abbrev pub OneClient : Type 0
OneClient = summary 1 ≡ codes "{\"datagrams\":5,\"granted\":1,\"lines\":34,\"refused\":0}\n"

-- five clients at the rates 8, 8, 8, 64 and 32: the fourth is short of the capacity of 80, the
-- others get 4, 4, 4 and 8 messages
abbrev pub FiveClients : Type 0
FiveClients = summary 5 ≡ codes "{\"datagrams\":25,\"granted\":4,\"lines\":38,\"refused\":1}\n"
