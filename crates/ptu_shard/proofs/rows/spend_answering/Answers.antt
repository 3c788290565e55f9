use Rattle.std.proofs.Common.{◌≡◌, ◌∙◌, sym, ap, Some, None}
use Rattle.ptu_units.specs.declared.kind.Kind.TheVariants.{DelayResp}
use Rattle.ptu_shard.specs.{Fields.{rows_of}, Row.{lease_of}, declared.rows.Key.{Key}}
use Rattle.ptu_shard.proofs.{Keyed.{apart_keys, found_is, rows_written}, Keys.{key_eq}}
use Rattle.ptu_shard.proofs.Spent.{answering_is, answering_none}
use Rattle.ptu_shard.proofs.rows.spend_answering.Goals as goal

pub returns-in_default-clause-lease : goal.returns-in_default-clause-lease
returns-in_default-clause-lease c =
    let key : Key = record { client = c.args.client; kind = DelayResp } in
    c.in_default.ensures.value ∙ found_is key _ (key_eq key) c.args.rows.now.entries

pub returns-in_default-clause-rows : goal.returns-in_default-clause-rows
returns-in_default-clause-rows c =
    let key : Key = record { client = c.args.client; kind = DelayResp } in
    let none : lease_of c.args.client DelayResp (rows_of c.args.rows.now.entries) ≡ None = sym (found_is key _ (key_eq key) c.args.rows.now.entries) ∙ sym c.in_default.ensures.value in
    ap (λ m. rows_of m.entries) c.get_mut.follows.holds-at-none
    ∙ answering_none c.args.at (rows_of c.args.rows.now.entries) (apart_keys _ key_eq c.args.rows.now.entries c.len-count.ensures.unique) c.args.client none

pub returns-clause-lease : goal.returns-clause-lease
returns-clause-lease c =
    let key : Key = record { client = c.args.client; kind = DelayResp } in
    ap Some c.spend_lawful.ensures.lease ∙ c.in-Some.ensures.value ∙ found_is key _ (key_eq key) c.args.rows.now.entries

pub returns-clause-rows : goal.returns-clause-rows
returns-clause-rows c =
    let key : Key = record { client = c.args.client; kind = DelayResp } in
    let rows = rows_of c.args.rows.now.entries in
    let apart = apart_keys _ key_eq c.args.rows.now.entries c.len-count.ensures.unique in
    let found : lease_of c.args.client DelayResp rows ≡ Some c.in-Some.lease.now = sym (found_is key _ (key_eq key) c.args.rows.now.entries) ∙ sym c.in-Some.ensures.value in
    answering_is c.args.at rows apart c.args.client c.in-Some.lease.now c.spend_lawful.new.lease found c.spend_lawful.ensures.spent _
    (ap rows_of (c.get_mut.follows.holds c.spend_lawful.new.lease).0 ∙ rows_written key _ (key_eq key) c.args.rows.now.entries c.spend_lawful.new.lease apart)
