use Rattle.std.proofs.Common.{inr, refl}
use Rattle.ptu_config.proofs.Texts.{document_of-text, document_of-other}
use Rattle.ptu_config.proofs.document.table_of.Goals as goal

pub returns-in_default-clause-refused : goal.returns-in_default-clause-refused
returns-in_default-clause-refused c = inr (refl, document_of-other _ c.in_default.ensures.cases.0)

pub returns-in-Ok-table_from_str-clause-ok : goal.returns-in-Ok-table_from_str-clause-ok
returns-in-Ok-table_from_str-clause-ok c =
    let (same, text) = c.in-Ok.ensures.cases in
    rw (document_of-text _ text, ← same) c.in-Ok-table_from_str.ensures.ok
