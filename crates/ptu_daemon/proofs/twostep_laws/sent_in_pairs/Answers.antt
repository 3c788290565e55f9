use Rattle.ptu_daemon.proofs.Pairs.{grown-pairs}
use Rattle.ptu_daemon.proofs.twostep_laws.sent_in_pairs.Goals as goal

pub returns : goal.returns
returns c = grown-pairs
