use Rattle.std.proofs.Common.{rules}
use Rattle.ptu_daemon.proofs.two_host.TwoHostHost.close.Goals as goal

pub returns-clause-below : goal.returns-clause-below
returns-clause-below g c = record { below = _; over = first_of (cc, search rules); told = c.close.ensures.back }
