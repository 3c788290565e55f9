use Rattle.std.proofs.Common.{rules, refl, sym, ◌∙◌, length, ◌≤◌, ◌<◌}
use Rattle.std.proofs.lemmas.Option.{slice_get_read}
use Rattle.ptu_report_lines.proofs.Sendings.{sent_in-at, sent_in-past}
use Rattle.ptu_report_lines.proofs.sent_list.SentList.get.Goals as goal

pub returns-in_err-head : goal.returns-in_err-head
returns-in_err-head c =
    let past : length c.self.inside.heads.items ≤ c.args.place = search (rules, c.in_err-head.ensures.lookup) in
    c.from_residual.ensures
    ∙ sym (rw (← c.self.view_is) (sent_in-past c.self.inside.heads.items c.self.inside.octets c.args.place c.self.invariant past))

pub returns : goal.returns
returns c =
    let heads = c.self.inside.heads.items in
    let octets = c.self.inside.octets in
    let within : c.args.place < length heads = search (rules, c.in_ok-head.ensures.lookup) in
    let head = slice_get_read heads (length heads) c.args.place c.in_ok-head.head.now refl within (search (rules, c.in_ok-head.ensures.lookup)) in
    let text = slice_get_read octets (length heads) c.args.place c.text-octets.result.now c.self.invariant within c.text-octets.ensures in
    rw (← c.self.view_is, c.new.ensures) (sym (sent_in-at heads octets c.args.place c.in_ok-head.head.now c.text-octets.result.now head text))
