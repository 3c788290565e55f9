use Rattle.std.proofs.Common.{◌∙◌}
use Rattle.ptu_shard.specs.declared.rows.Key.{Key}
use Rattle.ptu_shard.proofs.{Keyed.{found_is}, Keys.{key_eq}}
use Rattle.ptu_shard.proofs.rows.find_lease.Goals as goal

pub returns : goal.returns
returns c =
    let key : Key = record { client = c.args.client.now; kind = c.args.kind } in
    c.copied.ensures ∙ c.get.ensures.value ∙ found_is key _ (key_eq key) c.args.rows.now.entries
