use Rattle.std.proofs.Common.{rules, ◌↔◌, string_bytes}
use Rattle.std.specs.{Prelude.{IsTrue}, List.{AllPass}, BTreeMap.{keys}}
use Rattle.ptu_config.specs.Documents.{is_name_of}
use Rattle.ptu_config.proofs.Names.{all_pass}
use Rattle.ptu_config.proofs.document.has_only_keys.Goals as goal

pub returns : goal.returns
returns c =
    let passed : IsTrue c.all.result ↔
    AllPass (λ key. is_name_of c.args.keys.now (string_bytes key)) (keys c.args.table.now)
    = search rules in
    all_pass _ (is_name_of c.args.keys.now) _ passed
