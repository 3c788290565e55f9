use Rattle.ptu_admit.proofs.Sendings.{delay_req_stands, turn_stands}
use Rattle.ptu_admit.proofs.laws.sendings.Goals as goal

pub returns-clause-turn : goal.returns-clause-turn
returns-clause-turn _ = λ opening x j opened history test moment after rows spent rest book s none h stands.
    turn_stands opening x test j moment after rows spent rest book history s none h stands

pub returns-clause-delay_req : goal.returns-clause-delay_req
returns-clause-delay_req _ = λ opening x opened c history test moment after rows spent rest book s none h stands.
    delay_req_stands opening x test c moment after rows spent rest book history s none h stands
