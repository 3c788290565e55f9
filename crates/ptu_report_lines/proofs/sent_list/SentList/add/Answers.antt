use Rattle.std.proofs.Common.{[], ◌∷◌, ◌++◌, ap, ◌∙◌, Result, Ok, Err, OnOk}
use Rattle.ptu_report_lines.specs.Sendings.{sent_in}
use Rattle.ptu_report_lines.proofs.Sendings.{sent_in-push}
use Rattle.ptu_report_lines.proofs.sent_list.SentList.add.Goals as goal

on_both : {A E P Q R : Type 0} (r : Result A E) → (P → Q → R) → OnOk r P → OnOk r Q → OnOk r R
on_both (Ok x) then p q = then p q
on_both (Err e) then p q = tt

pub returns-clause-added : goal.returns-clause-added
returns-clause-added c =
    let heads = c.self.inside.heads.items in
    let sent = c.args.sent.now in
    on_both c.add_to.result (λ head octets.
    ap (λ l. sent_in l c.add_to.new.octets) head ∙ ap (λ l. sent_in (heads ++ record { from = sent.from; to = sent.to; channel = sent.channel } ∷ []) l) octets
    ∙ sent_in-push heads c.self.inside.octets _ sent.octets c.self.invariant ∙ ap (λ l. l ++ sent ∷ []) c.self.view_is)
    c.add_to.ensures.head c.add_to.ensures.octets
