-- What a slave is set up with, and its masters.
use Rattle.std.specs.Prelude.{◌≢◌, ℕ, ◌≤◌, List, length, map, slice_index, position, Option, ◌==◌, pos}
use Rattle.std.specs.List.{AllPairs}
use Rattle.ptu_record.specs.{SignalFails.{Timeouts}, Wants.{timeouts_of}}
use Rattle.ptu_messages.specs.declared.header.Header.{Header}
use Rattle.ptu_profile.specs.Headers.{unicast_header}
use Rattle.ptu_profile.specs.declared.slave.{Master.{Master}, SlaveConfig.{SlaveConfig}}

-- at most 16 masters, no two of one address
pub record AreMasters (masters : List Master) : Type 0 where
  pub few : length masters ≤ 16
  pub distinct : AllPairs (λ a b. a.ip ≢ b.ip) masters

-- the header of a message of this type, whose correctionField is 0
abbrev pub slave_header : SlaveConfig → ℕ → ℕ → Header
slave_header config message_type sequence = unicast_header config.identity config.domain message_type (pos 0) sequence

-- the receipt timeouts and the wait to restore, in nanoseconds
abbrev pub timeouts : SlaveConfig → Timeouts
timeouts config = timeouts_of config.wants config.announce_timeout config.sync_timeout config.delay_timeout config.wait

-- the priority numbers of the masters, in the order of their list
abbrev pub priorities : List Master → List ℕ
priorities masters = map (λ master. master.priority) masters

-- the IPv4 address of the master at a place
abbrev pub address_of : List Master → ℕ → ℕ
address_of masters m = slice_index (map (λ master. master.ip) masters) m

-- the place of the master that has the address
abbrev pub place_of : List Master → ℕ → Option ℕ
place_of masters ip = position (λ master. master.ip == ip) masters
