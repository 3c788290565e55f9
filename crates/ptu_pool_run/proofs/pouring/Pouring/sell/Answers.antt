use Rattle.std.proofs.Common.{sym, subst}
use Rattle.ptu_pool_run.specs.Refusal.{Share}
use Rattle.ptu_pool_run.proofs.Commands.{share_of}
use Rattle.ptu_pool_run.proofs.pouring.Pouring.sell.Goals as goal

pub sell-requires : goal.sell-requires
sell-requires c =
    subst (Share c.in-Some.setup.capacity) (sym c.sold.ensures) (share_of c.args.self.now c.requires.0 c.in-Some.setup c.requires.1 c.in-Some.is)
