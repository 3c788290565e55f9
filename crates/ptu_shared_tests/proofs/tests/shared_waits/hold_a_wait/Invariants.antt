use Rattle.std.specs.Prelude.{false}
use Rattle.ptu_shared.specs.{Opening.{sample_config, untold_port}, Turning.{turn_name}}
use Rattle.ptu_shared_tests.proofs.tests.shared_waits.hold_a_wait.Given as goal

abbrev pub ghosts-wait_and_ask-L-Ledger : goal.ghosts-wait_and_ask-L-Ledger
ghosts-wait_and_ask-L-Ledger g a = record { name = a.blanks.rates.name; parts = a.blanks.rates.parts }

abbrev pub ghosts-wait_and_ask-L-Rates : goal.ghosts-wait_and_ask-L-Rates
ghosts-wait_and_ask-L-Rates g a = record { opening = 64; most = 64; config = sample_config; told = false; seats = 1; opened = λ _. untold_port; turns = turn_name a.blanks.turns }

abbrev pub ghosts-wait_and_ask-G-Ledger : goal.ghosts-wait_and_ask-G-Ledger
ghosts-wait_and_ask-G-Ledger g a = record { name = a.blanks.granted.name; parts = a.blanks.granted.parts }

abbrev pub ghosts-wait_and_ask-R-Ledger : goal.ghosts-wait_and_ask-R-Ledger
ghosts-wait_and_ask-R-Ledger g a = record { name = a.blanks.refused.name; parts = a.blanks.refused.parts }
