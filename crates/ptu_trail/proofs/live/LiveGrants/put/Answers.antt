use Rattle.std.proofs.Common.{◌∙◌, ◌+◌, ap, sym, subst}
use Rattle.std.specs.List.{sum_by}
use Rattle.ptu_history.specs.Live.{live_grants, without}
use Rattle.ptu_trail.specs.Live.{AreOf}
use Rattle.ptu_trail.proofs.Living.{live-granted, none_at, over-granted}
use Rattle.ptu_trail.proofs.live.LiveGrants.put.Goals as goal

pub returns-in_ok-former : goal.returns-in_ok-former
returns-in_ok-former c = λ history same.
    let end = c.args.end in
    let before = c.self.inside.rates.entries in
    let here : AreOf (without end.client end.kind (live_grants history c.args.at)) before =
    subst (AreOf (without end.client end.kind (live_grants history c.args.at))) (sym c.self.view_is) same in
    live-granted history c.args.at end c.args.log before c.put.new.rates.entries c.if-at-end.true here
    (λ weight. c.in_ok-former.ensures.more (none_at (live_grants history c.args.at) before end here) weight ∙ ap (λ n. weight (end, n) + sum_by weight before) c.rate-rate.ensures.rate)

pub returns-else-at-end : goal.returns-else-at-end
returns-else-at-end c = λ history same. over-granted history c.args.at c.args.end c.args.log c.args.self.now c.if-at-end.false same
