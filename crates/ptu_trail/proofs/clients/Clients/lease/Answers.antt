use Rattle.std.proofs.Common.{None, nat_cmp, sym, subst}
use Rattle.std.specs.BTreeMap.{get}
use Rattle.ptu_trail.specs.Known.{IsHeld}
use Rattle.ptu_trail.proofs.{Accounts.{shared_none}, Living.{lease_held}}
use Rattle.ptu_trail.proofs.clients.Clients.lease.Goals as goal

pub returns-in-Some : goal.returns-in-Some
returns-in-Some c = λ history n known.
    let client = c.args.client.now in
    lease_held history n client c.args.kind c.lease.result (subst (IsHeld history client c.args.kind) (sym c.lease.ensures) ((c.in-Some.ensures history known).1.held c.args.kind))

pub returns-in-None : goal.returns-in-None
returns-in-None c = λ history n known.
    let client = c.args.client.now in
    lease_held history n client c.args.kind None (shared_none history client c.args.kind (get nat_cmp c.args.self.now.accounts client.ip) (known.each client.ip) (c.in-None.ensures history known))
