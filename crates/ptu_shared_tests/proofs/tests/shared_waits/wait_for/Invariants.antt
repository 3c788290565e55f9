use Rattle.std.specs.Prelude.{false}
use Rattle.ptu_shared.specs.{Opening.{sample_config, untold_port}, Turning.{turn_name}}
use Rattle.ptu_shared_tests.proofs.tests.shared_waits.wait_for.Given as goal

abbrev pub ghosts-wait_for_sync-L-Ledger : goal.ghosts-wait_for_sync-L-Ledger
ghosts-wait_for_sync-L-Ledger g a = record { name = a.blanks.rates.name; parts = a.blanks.rates.parts }

abbrev pub ghosts-wait_for_sync-L-Rates : goal.ghosts-wait_for_sync-L-Rates
ghosts-wait_for_sync-L-Rates g a = record { opening = 64; most = 64; config = sample_config; told = false; seats = 1; opened = λ _. untold_port; turns = turn_name a.blanks.turns }

abbrev pub ghosts-wait_for_sync-G-Ledger : goal.ghosts-wait_for_sync-G-Ledger
ghosts-wait_for_sync-G-Ledger g a = record { name = a.blanks.granted.name; parts = a.blanks.granted.parts }

abbrev pub ghosts-wait_for_sync-R-Ledger : goal.ghosts-wait_for_sync-R-Ledger
ghosts-wait_for_sync-R-Ledger g a = record { name = a.blanks.refused.name; parts = a.blanks.refused.parts }
