use Rattle.ptu_record.proofs.{Requests.{stopped_everywhere}, Others.{requests_one}}
use Rattle.ptu_record.proofs.laws.records.Goals as goal

pub returns-clause-requests_concern_one : goal.returns-clause-requests_concern_one
returns-clause-requests_concern_one c = requests_one

pub returns-clause-stopped_everywhere : goal.returns-clause-stopped_everywhere
returns-clause-stopped_everywhere c = stopped_everywhere
