use Rattle.std.proofs.Common.{◌∙◌, Some}
use Rattle.ptu_history.proofs.Unique.{pairs_from_Apart}
use Rattle.ptu_shard.specs.{Fields.{rows_of}, declared.rows.Key.{Key}}
use Rattle.ptu_shard.proofs.{RowLists.{Differ}, Keyed.{apart_keys, found_is, leases_after}}
use Rattle.ptu_shard.proofs.{Keys.{key_eq}, Members.{rows_put, share_replaced}}
use Rattle.ptu_shard.proofs.rows.put_row.Goals as goal

pub returns-in-Ok-clause-rows : goal.returns-in-Ok-clause-rows
returns-in-Ok-clause-rows c =
    let key : Key = record { client = c.args.row.client; kind = c.args.row.kind } in
    rows_put c.args.row.client c.args.row.kind (rows_of c.args.rows.now.entries) (rows_of c.insert.new.self.entries)
    (apart_keys _ key_eq c.args.rows.now.entries c.len-count.ensures.unique) (apart_keys _ key_eq c.insert.new.self.entries c.insert.ensures.unique) c.args.row.lease
    (leases_after _ key_eq key c.args.rows.now.entries c.insert.new.self.entries (Some c.args.row.lease) c.in-Ok.ensures.updates.0)

pub returns-in-Ok-clause-replaced : goal.returns-in-Ok-clause-replaced
returns-in-Ok-clause-replaced c =
    let key : Key = record { client = c.args.row.client; kind = c.args.row.kind } in
    c.in-Ok.ensures.old ∙ found_is key _ (key_eq key) c.args.rows.now.entries

pub returns-in-Ok-clause-distinct : goal.returns-in-Ok-clause-distinct
returns-in-Ok-clause-distinct c = pairs_from_Apart Differ _ (apart_keys _ key_eq c.insert.new.self.entries c.insert.ensures.unique)

pub returns-in-Ok-clause-share : goal.returns-in-Ok-clause-share
returns-in-Ok-clause-share c =
    share_replaced c.args.row.client c.args.row.kind (rows_of c.args.rows.now.entries) (rows_of c.insert.new.self.entries) c.args.row.lease (apart_keys _ key_eq c.args.rows.now.entries c.len-count.ensures.unique)
    (returns-in-Ok-clause-rows c) c.in-Ok.replaced (returns-in-Ok-clause-replaced c)
