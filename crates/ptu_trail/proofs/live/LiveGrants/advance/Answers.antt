use Rattle.std.proofs.Common.{◌∙◌, filter, sym, ap, subst}
use Rattle.ptu_trail.specs.Live.{AreLive, is_live_entry}
use Rattle.ptu_trail.proofs.Living.{live-later}
use Rattle.ptu_trail.proofs.live.LiveGrants.advance.Goals as goal

pub returns : goal.returns
returns c = λ history m le live.
    subst (AreLive history c.args.n) (sym (c.drop_ended-self-inside.ensures.entries ∙ ap (filter (is_live_entry c.args.n)) c.self.view_is)) (live-later history m c.args.n c.args.self.now le live)
