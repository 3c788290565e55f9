use Rattle.std.proofs.Common.{rules, ◌≡◌, ◌∙◌, sym, ap, Some}
use Rattle.ptu_history.proofs.Unique.{pairs_from_Apart}
use Rattle.ptu_shard.specs.{Fields.{rows_of}, Row.{lease_of}, declared.rows.Key.{Key}}
use Rattle.ptu_shard.proofs.{RowLists.{Differ}, Keyed.{apart_keys, found_is, rows_written}}
use Rattle.ptu_shard.proofs.{Keys.{key_eq}, Spent.{due_is, no_entry, none_is, same_is, spent_is}}
use Rattle.ptu_shard.proofs.rows.spend_due.Goals as goal

pub returns-in_default : goal.returns-in_default
returns-in_default c =
    let key : Key = record { client = c.args.entry.client; kind = c.args.entry.kind } in
    let apart = apart_keys _ key_eq c.args.rows.now.entries c.len-count.ensures.unique in
    record {
      due = tt;
      spent = tt;
      later = tt;
      none = λ z h same.
          absurd (no_entry c.args.at (rows_of c.args.rows.now.entries) apart c.args.entry (sym (found_is key _ (key_eq key) c.args.rows.now.entries) ∙ sym c.in_default.ensures.value) z h same);
      same = ap (λ m. rows_of m.entries) c.get_mut.follows.holds-at-none;
      distinct = pairs_from_Apart Differ _ apart;
      spare = search rules;
    }

pub returns : goal.returns
returns c =
    let key : Key = record { client = c.args.entry.client; kind = c.args.entry.kind } in
    let rows = rows_of c.args.rows.now.entries in
    let apart = apart_keys _ key_eq c.args.rows.now.entries c.len-count.ensures.unique in
    let before = c.in-Some.lease.now in
    let after = c.spend_by_entry.new.lease in
    let found : lease_of c.args.entry.client c.args.entry.kind rows ≡ Some before = sym (found_is key _ (key_eq key) c.args.rows.now.entries) ∙ sym c.in-Some.ensures.value in
    let written = ap rows_of (c.get_mut.follows.holds after).0 ∙ rows_written key _ (key_eq key) c.args.rows.now.entries after apart in
    let spent = c.spend_by_entry.ensures in
    record {
      due = due_is c.args.at rows apart c.args.entry before after found _ written c.spend_by_entry.result spent.due;
      spent = spent_is c.args.at rows apart c.args.entry before after found _ written c.spend_by_entry.result spent.due spent.spent;
      later = search rules;
      none = none_is c.args.at rows apart c.args.entry before after found _ written c.spend_by_entry.result spent.none;
      same = same_is c.args.at rows apart c.args.entry before after found _ written c.spend_by_entry.result spent.same;
      distinct = pairs_from_Apart Differ _ apart;
      spare = search rules;
    }
