-- How many rounds a daemon does: `rounds` of them, `repeat` times over.
use Rattle.std.specs.Prelude.{ℕ, ◌≤◌, ◌*◌}
use Rattle.ptu_config.specs.declared.settings.GmSettings.{GmSettings}
use Rattle.ptu_config.specs.declared.settings.SlaveSettings.{SlaveSettings}

-- so many times over
abbrev pub IsRepeat : ℕ → Type 0
IsRepeat n = (1 ≤ n) × (n ≤ 1000)

-- all rounds of a grandmaster's daemon
abbrev pub all_rounds : GmSettings → ℕ
all_rounds s = s.rounds * s.repeat

-- all rounds of a slave's daemon
abbrev pub all_slave_rounds : SlaveSettings → ℕ
all_slave_rounds s = s.rounds * s.repeat

-- what they may be: 4294967295 rounds, 1000 times over, at the most
abbrev pub IsRoundCount : ℕ → Type 0
IsRoundCount n = (1 ≤ n) × (n ≤ 4294967295000)
