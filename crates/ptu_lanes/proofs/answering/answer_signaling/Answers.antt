use Rattle.ptu_lanes.proofs.answering.answer_signaling.Goals as goal

pub returns-clause-answered : goal.returns-clause-answered
returns-clause-answered g c = (
  _,
  c.in_ok-outcomes.ensures.items,
  rw c.client_of-client.ensures at c.in_ok-outcomes.ensures.decided,
  c.in_ok-outcomes.ensures.answered,
  c.send_reply-sends.ensures,
)
