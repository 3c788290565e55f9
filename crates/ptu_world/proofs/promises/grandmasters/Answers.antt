use Rattle.ptu_world.proofs.{Promising.{run_keeps}, Standing.{grandmaster_runs, messages_sent}}
use Rattle.ptu_world.proofs.promises.grandmasters.Goals as goal

pub returns : goal.returns
returns _ = record {
  run = grandmaster_runs;
  messages = messages_sent;
  promises = λ stock script w ip gm reaches at. run_keeps ip gm (grandmaster_runs stock script w ip gm reaches at);
}
