use Rattle.std.proofs.Common.{◌∙◌, sym}
use Rattle.ptu_lanes.proofs.Moments.{passed_none, passed_one, without_turn}
use Rattle.ptu_lanes.proofs.turns.turn_one.Goals as goal

pub returns-then-not-may_turn-clause-moments : goal.returns-then-not-may_turn-clause-moments
returns-then-not-may_turn-clause-moments g c = rw (sym c.may_turn.ensures ∙ c.if-not-may_turn.true) (passed_none (g.C.Clock.moments c.args.clock.now))

pub returns-then-not-may_turn-clause-turns : goal.returns-then-not-may_turn-clause-turns
returns-then-not-may_turn-clause-turns g c = sym (without_turn c.args.table c.args.turner.now (sym c.may_turn.ensures ∙ c.if-not-may_turn.true))

pub returns-clause-moments : goal.returns-clause-moments
returns-clause-moments g c = rw (sym c.may_turn.ensures ∙ c.if-not-may_turn.false) (passed_one _ _ c.now.ensures.rest)
