use Rattle.std.proofs.Common.{rules}
use Rattle.ptu_record.proofs.Requests.{grant-push, run_granted, run_kept, run_begun, is_kind-self, is_kind-same}
use Rattle.ptu_record.proofs.KindStates.{all_cancelled, stop_as_cancels}
use Rattle.ptu_record.proofs.laws.grants.Goals as goal

pub returns : goal.returns
returns _ = search (rules, grant-push, run_granted, run_begun, run_kept, is_kind-self, is_kind-same, stop_as_cancels, all_cancelled)
