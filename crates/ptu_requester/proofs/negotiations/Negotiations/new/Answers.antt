use Rattle.ptu_units.specs.declared.kind.Kind.TheVariants.{Announce, Sync, DelayResp}
use Rattle.ptu_requester.proofs.negotiations.Negotiations.new.Goals as goal

pub returns : goal.returns
returns c = record { announce = c.new.ensures Announce; sync = c.new-2.ensures Sync; delay = c.new-3.ensures DelayResp }
