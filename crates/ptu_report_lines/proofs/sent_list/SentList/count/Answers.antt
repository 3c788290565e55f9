use Rattle.std.proofs.Common.{rules, ◌≡◌, length}
use Rattle.ptu_report_lines.proofs.Sendings.{length-sent_in}
use Rattle.ptu_report_lines.proofs.sent_list.SentList.count.Goals as goal

pub returns-clause-count : goal.returns-clause-count
returns-clause-count c =
    let many : c.len.result ≡ length c.self.inside.heads.items = search rules in
    rw (← c.self.view_is, length-sent_in c.self.inside.heads.items c.self.inside.octets c.self.invariant) many
