-- What a slave keeps beside its judges and its port.
use Rattle.std.specs.Prelude.{◌≡◌, ℕ, Bool, List}
use Rattle.ptu_record.specs.{Record.{Record}, Lists.{last}}
use Rattle.ptu_record.specs.Tick.{delay_req_number, probes, signaling_number}
use Rattle.ptu_requester.specs.Requester.{Kept as Negotiated}
use Rattle.ptu_select.specs.declared.master.WatchedMaster.{WatchedMaster}
use Rattle.ptu_profile.specs.declared.slave.{Master.{Master}, SlaveConfig.{SlaveConfig}}
use Rattle.ptu_slave.specs.declared.counters.Counters.{Counters}

-- what it is set up with and its masters; of each master what was asked and granted, what the selection goes by, and the
-- counters of what it is sent; the greatest moment of an event; and whether the slave has stopped
pub record Kept : Type 0 where
  pub config : SlaveConfig
  pub masters : List Master
  pub requester : Negotiated
  pub selector : List WatchedMaster
  pub counters : List Counters
  pub moment : ℕ
  pub stopped : Bool

-- a master's counters after its record: the sequenceIds of the next Signaling and of the next Delay_Req to it, and the
-- moment of the last Delay_Req
pub record CountFor (counters : Counters) (L : Record) : Type 0 where
  pub signaling : counters.signaling ≡ signaling_number L
  pub delay_req : counters.delay_req ≡ delay_req_number L
  pub probed : counters.probed ≡ last (probes L)

-- what a slave is, is as before
pub record IsSame (old new : Kept) : Type 0 where
  pub config : new.config ≡ old.config
  pub masters : new.masters ≡ old.masters
