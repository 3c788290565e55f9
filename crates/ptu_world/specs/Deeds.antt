-- The nodes of a script, and what one of them does at an event.
use Rattle.std.specs.Prelude.{ℕ, List}
use Rattle.ptu_outside.specs.Departure.{Departure}
use Rattle.ptu_history.specs.History as history
use Rattle.ptu_profile.specs.declared.grandmaster.GmConfig.{GmConfig}
use Rattle.ptu_record.specs.Record as entries
use Rattle.ptu_slave_messages.specs.Node as slave
use Rattle.ptu_report_lines.specs.declared.statement.Statement.{Statement}

-- its address, its configuration with the clockClass as it stands, the capacity that it was opened with, and its history
pub record Grandmaster : Type 0 where
  pub ip : ℕ
  pub config : GmConfig
  pub capacity : ℕ
  pub past : List history.Record

-- its address, what it was opened with and its masters, and its record
pub record Slave : Type 0 where
  pub ip : ℕ
  pub opened : slave.Node
  pub taken : entries.Record

pub data Node : Type 0 where
  IsGrandmaster : Grandmaster → Node
  IsSlave : Slave → Node

-- what a node is after an event, what is said of the event, which datagrams the node sends, and what is said behind them
pub record Deed : Type 0 where
  pub node : Node
  pub said : List Statement
  pub sends : List Departure
  pub added : List Statement
