use Rattle.ptu_history.proofs.Runs.{chain-fixed, chain-run, root-fixed, root-none, root-run, sent_in_chain-fixed, sequence_number-fixed}
use Rattle.ptu_history.proofs.laws.runs.Goals as goal

pub returns : goal.returns
returns _ = search (root-run, root-fixed, sequence_number-fixed, chain-run, chain-fixed, sent_in_chain-fixed, root-none)
