-- For which kinds a master is asked.
use Rattle.std.specs.Prelude.{Bool, List, filter}
use Rattle.ptu_units.specs.declared.kind.{Kind.{Kind}, Kind.TheVariants.{Announce, Sync, DelayResp}}
use Rattle.ptu_units.specs.Kind.{kinds}
use Rattle.ptu_requester.specs.declared.due.Due.{Due}

-- the flag of a kind
abbrev pub is_set : Due → Kind → Bool
is_set due Announce = due.announce
is_set due Sync = due.sync
is_set due DelayResp = due.delay

-- the kinds whose flags are set, in the order of kinds
abbrev pub kinds_of : Due → List Kind
kinds_of due = filter (is_set due) kinds
