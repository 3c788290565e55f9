use Rattle.std.proofs.Common.{◌∙◌}
use Rattle.ptu_show.proofs.Partners.{waiting_keys_are}
use Rattle.ptu_show.proofs.waiting.Waiting.count.Goals as goal

pub returns : goal.returns
returns c = λ halves stands. c.len.ensures.len ∙ waiting_keys_are _ halves stands c.len.ensures.unique
