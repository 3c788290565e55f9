use Rattle.std.proofs.Common.{rules}
use Rattle.serde_json.proofs.OnLiterals.{serde_json_on_literals}
use Rattle.ptu_lab.specs.Load.{object_text}
use Rattle.ptu_lab.proofs.loading.summary_object.Goals as goal

pub returns : goal.returns
unfolding serde_json_on_literals object_text
returns c = search rules
