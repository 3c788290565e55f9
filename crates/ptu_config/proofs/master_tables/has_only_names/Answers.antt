use Rattle.std.proofs.Common.{rules, ◌↔◌, string_bytes}
use Rattle.std.specs.{Prelude.{IsTrue}, List.{AllPass}, BTreeMap.{keys}}
use Rattle.ptu_config.specs.Masters.{is_master_name}
use Rattle.ptu_config.proofs.Names.{all_pass}
use Rattle.ptu_config.proofs.master_tables.has_only_names.Goals as goal

pub returns : goal.returns
returns c =
    let passed : IsTrue c.all.result ↔
    AllPass (λ key. is_master_name (string_bytes key)) (keys c.args.table.now)
    = search rules in
    all_pass _ is_master_name _ passed
