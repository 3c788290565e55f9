use Rattle.std.specs.Prelude.{false}
use Rattle.ptu_shared.specs.{Opening.{sample_config, untold_port}, Turning.{turn_name}}
use Rattle.ptu_shared_tests.proofs.tests.shared_held.hold_beside.Given as goal

abbrev pub ghosts-play_held-L-Ledger : goal.ghosts-play_held-L-Ledger
ghosts-play_held-L-Ledger g a = record { name = a.blanks.rates.name; parts = a.blanks.rates.parts }

abbrev pub ghosts-play_held-L-Rates : goal.ghosts-play_held-L-Rates
ghosts-play_held-L-Rates g a = record { opening = a.capacity; most = a.capacity; config = sample_config; told = false; seats = 2; opened = λ _. untold_port; turns = turn_name a.blanks.turns }

abbrev pub ghosts-play_held-G-Ledger : goal.ghosts-play_held-G-Ledger
ghosts-play_held-G-Ledger g a = record { name = a.blanks.granted.name; parts = a.blanks.granted.parts }

abbrev pub ghosts-play_held-R-Ledger : goal.ghosts-play_held-R-Ledger
ghosts-play_held-R-Ledger g a = record { name = a.blanks.refused.name; parts = a.blanks.refused.parts }
