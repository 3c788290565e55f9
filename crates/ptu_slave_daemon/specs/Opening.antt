-- What the settings of a slave's daemon open.
use Rattle.std.specs.{Prelude.{ℕ, Bool, not, ◌&&◌, cond, List, map, nat_le, Some}, List.{count_by}}
use Rattle.ptu_record.specs.declared.rule.{Rule.{Rule}, Rule.TheVariants.{Flag, Gap}}
use Rattle.ptu_config.specs.declared.master.MasterSetting.{MasterSetting}
use Rattle.ptu_config.specs.declared.settings.SlaveSettings.{SlaveSettings}
use Rattle.ptu_profile.specs.declared.slave.{Master.{Master}, SlaveConfig.{SlaveConfig}}
use Rattle.ptu_slave_messages.specs.Node.{Node}

-- what the slave is set up with
abbrev pub slave_config_of : SlaveSettings → SlaveConfig
slave_config_of s = record {
  identity = record { clock = s.clock; port = s.port };
  domain = s.domain;
  wants = record { announce = s.log_announce; sync = s.log_sync; delay = s.log_delay; seconds = s.duration };
  announce_timeout = s.announce_timeout;
  sync_timeout = s.sync_timeout;
  delay_timeout = s.delay_timeout;
  wait = s.wait_to_restore;
}

-- a master, and the rule of its judge
abbrev pub watched_master_of : MasterSetting → Master
watched_master_of m = record { ip = m.ip; priority = m.priority }

abbrev pub judge_rule_of : MasterSetting → Rule
judge_rule_of m = cond m.gap (Gap 4) Flag

-- the slave, whose judges are all fresh
abbrev pub node_of : SlaveSettings → Node
node_of s = record {
  config = slave_config_of s;
  masters = map watched_master_of s.masters;
  openings = map (λ m. Some (judge_rule_of m)) s.masters;
}

-- so many judges of the rule Flag, and so many of the rule Gap, are enough for these masters
abbrev pub are_enough : List MasterSetting → (flags gaps : ℕ) → Bool
are_enough masters flags gaps =
    nat_le (count_by (λ m. not m.gap) masters) flags && nat_le (count_by (λ m. m.gap) masters) gaps
