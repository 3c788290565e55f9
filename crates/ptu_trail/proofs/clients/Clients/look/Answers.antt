use Rattle.std.proofs.Common.{◌∙◌, sym, ap, subst}
use Rattle.std.specs.Option.{option_copied}
use Rattle.ptu_trail.specs.{Clients.{IsAccount}, Known.{IsKnown}}
use Rattle.ptu_trail.proofs.Accounts.{look_none, look_other, look_same}
use Rattle.ptu_trail.proofs.clients.Clients.look.Goals as goal

pub returns-in-None : goal.returns-in-None
returns-in-None c = λ history known.
    let ip = c.args.client.now.ip in
    let found = look_none history c.args.client.now (subst (IsAccount history ip) (sym c.get.ensures.value ∙ ap option_copied c.in-None.is) (known.each ip)) in
    (found.0, subst (IsKnown history c.args.client.now) (sym c.new.ensures) found.1)

pub returns-in-Some : goal.returns-in-Some
returns-in-Some c = λ history known.
    let ip = c.args.client.now.ip in
    look_same history c.args.client.now c.in-Some.account.now (sym c.is_same_client.ensures ∙ c.if-is_same_client.true)
    (subst (IsAccount history ip) (sym c.get.ensures.value ∙ ap option_copied c.in-Some.is) (known.each ip))

pub returns-in-Some-2 : goal.returns-in-Some-2
returns-in-Some-2 c = λ history known.
    let ip = c.args.client.now.ip in
    look_other history c.args.client.now c.in-Some.account.now (sym c.is_same_client.ensures ∙ c.if-is_same_client.false)
    (subst (IsAccount history ip) (sym c.get.ensures.value ∙ ap option_copied c.in-Some.is) (known.each ip))
