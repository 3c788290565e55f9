use Rattle.ptu_record.proofs.ListLaws.{last-filter_map}
use Rattle.ptu_record.proofs.Ends.{latest_end_more, is_waiting_by_latest, loss_stays, waiting_stays_over, is_unusable-push, latest_end_in_order}
use Rattle.ptu_record.proofs.KindStates.{latest_all, latest_any}
use Rattle.ptu_record.proofs.laws.signal_fails.Goals as goal

pub returns : goal.returns
returns _ = search (last-filter_map, latest_end_more, is_waiting_by_latest, loss_stays, waiting_stays_over, is_unusable-push, latest_any, latest_all, latest_end_in_order)
