use Rattle.std.proofs.Common.{◌≡◌, ◌∙◌, ◌++◌, ◌∷◌, [], List, Some, nat_cmp, refl, sym, ap, subst}
use Rattle.std.specs.{BTreeMap.{get}, Option.{IsSome, option_copied_mut}}
use Rattle.ptu_history.specs.History.{Record, Sent}
use Rattle.ptu_trail.specs.{declared.clients.Account.{Account}, Clients.{AreKnown, IsAccount}}
use Rattle.ptu_trail.specs.Faults.{fault_of}
use Rattle.ptu_trail.proofs.Accounts.{client_found, if_none_map, none_at, sent_account}
use Rattle.ptu_trail.proofs.clients.Clients.message.Goals as goal

pub returns-in-None-clause-fault : goal.returns-in-None-clause-fault
returns-in-None-clause-fault c = λ opening history known.
    none_at opening history c.args.ip c.args.kind c.args.at c.requires (subst (IsAccount history c.args.ip) (sym c.get_mut.ensures.value ∙ ap option_copied_mut c.in-None.is) (known.each c.args.ip))

here : (c : goal.After-self-in-Some-1) (history : List Record) → AreKnown history c.args.self.now → IsAccount history c.args.ip (Some c.in-Some.account.now)
here c history known = subst (IsAccount history c.args.ip) (sym c.get_mut.ensures.value ∙ ap option_copied_mut c.in-Some.is) (known.each c.args.ip)

pub returns-in-Some-clause-fault : goal.returns-in-Some-clause-fault
returns-in-Some-clause-fault c = λ opening history known.
    let account : Account = c.in-Some.account.now in
    subst (λ d. c.message.result ≡ fault_of opening history (Sent c.args.at d c.args.kind) []) (sym (client_found history c.args.ip account.client (here c history known).0))
    (c.message.ensures.fault opening history account.client (here c history known).2)

pub returns-in-Some-clause-known : goal.returns-in-Some-clause-known
returns-in-Some-clause-known c = if_none_map c.message.result (λ none goes history known.
    let account : Account = c.in-Some.account.now in
    let after : Account = record { client = account.client; known = c.message.new.self } in
    let there = here c history known in
    let some : IsSome (get nat_cmp c.args.self.now.accounts c.args.ip) = subst IsSome (sym (ap option_copied_mut c.in-Some.is) ∙ c.get_mut.ensures.value) refl in
    let old = get nat_cmp c.args.self.now.accounts in
    let new = get nat_cmp (c.get_mut.follows.lender after) in
    subst (λ d. AreKnown (history ++ Sent c.args.at d c.args.kind ∷ []) (record { accounts = c.get_mut.follows.lender after })) (sym (client_found history c.args.ip account.client there.0))
    (record { each = sent_account history c.args.at c.args.ip c.args.kind account c.message.new.self old new ((c.get_mut.follows.holds after).3 some).0 known.each there (goes history account.client there.2) })) c.message.ensures.known
