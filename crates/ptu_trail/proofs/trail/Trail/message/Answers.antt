use Rattle.std.proofs.Common.{◌≡◌, ◌++◌, ◌∷◌, [], refl, subst}
use Rattle.ptu_history.specs.History.{Sent}
use Rattle.ptu_trail.specs.{declared.trail.Trail.{Trail}, Faults.{client_at, fault_of}}
use Rattle.ptu_trail.specs.Trail.{StandsFor}
use Rattle.ptu_trail.proofs.{Accounts.{if_none_map}, Judging.{stands_sent}}
use Rattle.ptu_trail.proofs.trail.Trail.message.Goals as goal

pub returns-in-Some-clause-fault : goal.returns-in-Some-clause-fault
returns-in-Some-clause-fault c = λ opening history s.
    subst (λ x. c.message.result ≡ fault_of opening history (Sent x (client_at history c.args.ip) c.args.kind) []) c.in-Some.ensures.0 (c.message.ensures.fault opening history s.clients)

pub returns-in-Some-clause-stands : goal.returns-in-Some-clause-stands
returns-in-Some-clause-stands c = if_none_map c.message.result (λ none known opening history s.
    let new : Trail = record { capacity = c.args.self.now.capacity; moment = c.args.self.now.moment; clients = c.message.new.self; live = c.args.self.now.live } in
    subst (λ x. StandsFor opening new (history ++ Sent x (client_at history c.args.ip) c.args.kind ∷ [])) c.in-Some.ensures.0
    (stands_sent opening history (Sent c.in-Some.at (client_at history c.args.ip) c.args.kind) c.args.self.now new s refl refl refl refl refl refl (known history s.clients))) c.message.ensures.known
