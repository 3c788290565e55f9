use Rattle.std.proofs.Common.{◌∙◌, sym, ap}
use Rattle.ptu_show.specs.Joins.{other_of}
use Rattle.ptu_show.proofs.Partners.{has_joined, has_waited, waited_is_half}
use Rattle.ptu_show.proofs.waiting.Waiting.take.Goals as goal

pub returns-in-Some-clause-partner : goal.returns-in-Some-clause-partner
returns-in-Some-clause-partner c = λ halves stands.
    (has_joined c.args.self.now.kept c.remove.new.self halves c.args.half stands c.key-key.result c.key-key.ensures c.in-Some.before
    (ap (λ o. other_of o c.args.half) (sym c.remove.ensures.value) ∙ (sym c.other_of.ensures.other ∙ c.in-Some.is)) c.remove.ensures.updates.0).0

pub returns-in-Some-clause-stands : goal.returns-in-Some-clause-stands
returns-in-Some-clause-stands c = λ halves stands.
    (has_joined c.args.self.now.kept c.remove.new.self halves c.args.half stands c.key-key.result c.key-key.ensures c.in-Some.before
    (ap (λ o. other_of o c.args.half) (sym c.remove.ensures.value) ∙ (sym c.other_of.ensures.other ∙ c.in-Some.is)) c.remove.ensures.updates.0).1

pub returns-in-Some-clause-read : goal.returns-in-Some-clause-read
returns-in-Some-clause-read c =
    waited_is_half c.args.self.now.kept c.requires.means.0 _ c.in-Some.before c.requires.means.1 (sym c.remove.ensures.value ∙ c.in-Some.ensures.waited)

pub returns-in_ok-insert-in-None-clause-partner : goal.returns-in_ok-insert-in-None-clause-partner
returns-in_ok-insert-in-None-clause-partner c = λ halves stands.
    (has_waited c.args.self.now.kept c.insert.new.self halves c.args.half stands c.key-key.result c.key-key.ensures
    (ap (λ o. other_of o c.args.half) (sym c.remove.ensures.value) ∙ (sym c.other_of.ensures.other ∙ c.in-None.is)) c.requires.read c.remove.new.self c.remove.ensures.updates.0 c.in_ok-insert-in-None.ensures.updates.0).0

pub returns-in_ok-insert-in-None-clause-stands : goal.returns-in_ok-insert-in-None-clause-stands
returns-in_ok-insert-in-None-clause-stands c = λ halves stands.
    (has_waited c.args.self.now.kept c.insert.new.self halves c.args.half stands c.key-key.result c.key-key.ensures
    (ap (λ o. other_of o c.args.half) (sym c.remove.ensures.value) ∙ (sym c.other_of.ensures.other ∙ c.in-None.is)) c.requires.read c.remove.new.self c.remove.ensures.updates.0 c.in_ok-insert-in-None.ensures.updates.0).1
