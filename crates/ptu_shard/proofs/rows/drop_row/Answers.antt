use Rattle.std.proofs.Common.{◌∙◌, None}
use Rattle.ptu_history.proofs.Unique.{pairs_from_Apart}
use Rattle.ptu_shard.specs.{Fields.{rows_of}, declared.rows.Key.{Key}}
use Rattle.ptu_shard.proofs.{RowLists.{Differ}, Keyed.{apart_keys, found_is, leases_after}}
use Rattle.ptu_shard.proofs.{Keys.{key_eq}, Members.{rows_dropped, share_after}}
use Rattle.ptu_shard.proofs.rows.drop_row.Goals as goal

pub returns-clause-found : goal.returns-clause-found
returns-clause-found c =
    let key : Key = record { client = c.args.client.now; kind = c.args.kind } in
    c.swap_remove.ensures.value ∙ found_is key _ (key_eq key) c.args.rows.now.entries

pub returns-clause-rows : goal.returns-clause-rows
returns-clause-rows c =
    let key : Key = record { client = c.args.client.now; kind = c.args.kind } in
    rows_dropped c.args.client.now c.args.kind (rows_of c.args.rows.now.entries) (rows_of c.swap_remove.new.self.entries)
    (apart_keys _ key_eq c.args.rows.now.entries c.len-count.ensures.unique) (apart_keys _ key_eq c.swap_remove.new.self.entries c.swap_remove.ensures.unique)
    (leases_after _ key_eq key c.args.rows.now.entries c.swap_remove.new.self.entries None c.swap_remove.ensures.updates.0)

pub returns-clause-distinct : goal.returns-clause-distinct
returns-clause-distinct c = pairs_from_Apart Differ _ (apart_keys _ key_eq c.swap_remove.new.self.entries c.swap_remove.ensures.unique)

pub returns-clause-share : goal.returns-clause-share
returns-clause-share c =
    share_after c.args.client.now c.args.kind (rows_of c.args.rows.now.entries) (rows_of c.swap_remove.new.self.entries)
    (apart_keys _ key_eq c.args.rows.now.entries c.len-count.ensures.unique) (returns-clause-rows c) c.swap_remove.result (returns-clause-found c)
