use Rattle.ptu_report.proofs.Spans.{texts_added}
use Rattle.ptu_report.proofs.texts.Texts.add_text.Goals as goal

pub returns-clause-added : goal.returns-clause-added
returns-clause-added g c =
    rw (← c.self.view_is) (texts_added c.add_to.result c.self.inside.draft.done c.add_to.new.draft.done (g.T.Text.text c.args.text.now) c.self.inside.spans.items c.add_to.new.spans.items c.self.invariant.0 c.add_to.ensures.octets c.add_to.ensures.spans)
