use Rattle.std.proofs.Common.{◌≡◌, drop}
use Rattle.toml.specs.View.{items_view}
use Rattle.ptu_config.specs.Masters.{masters_of}
use Rattle.ptu_config.proofs.EachMaster.{followed}
use Rattle.ptu_config.proofs.master_tables.each_master.Given as goal

-- the masters so far, followed by those of what is left, are those of all
abbrev pub invariant-loop-value : goal.invariant-loop-value
invariant-loop-value l =
    followed l.list.items (drop l.value-index l.values) ≡ masters_of (items_view l.values)
