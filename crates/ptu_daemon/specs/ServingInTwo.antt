-- What a call that serves in two steps has done with the ports and clocks of the host below.
use Rattle.std.specs.Prelude.{◌≡◌, ◌⊎◌, ◌≤◌, ℕ, Bool, false, List, length, Option, Some, is_some, IsSome, option_map}
use Rattle.std.specs.List.{AllByRecursion, items_where_true}
use Rattle.ptu_outside.specs.declared.{clock.Clock.{Ghosts as Clocks}, opened.Opened.{Opened}}
use Rattle.ptu_outside.specs.{declared.port.Port.{Ghosts as Ports}, Departure.{Departure}, Telling.{append_told}}
use Rattle.ptu_outside.specs.{Faults.{HasRisen}, HandsOver.{SentOf}}
use Rattle.ptu_lanes.specs.{Orders.{lane_sends, opened_at}, Served.{ExchangedAll, TablesSentLawfully, faults_of, seen_at}}
use Rattle.ptu_config.specs.declared.settings.GmSettings.{GmSettings}
use Rattle.ptu_outside.specs.Ports.{HaveNotRisen}
use Rattle.ptu_daemon.specs.{declared.two_host.Flags.{Flags}, Hosts.{clear, flagged_by, over, two_steps}}
use Rattle.ptu_daemon.specs.{Pairs.{pairs}, Telling.{InTwoSteps, told_by}}
use Rattle.ptu_daemon.specs.{Commands.{IsSpoken}, Events.{Given, config_of}, Served.{Said, served_by}, Serving.{HasServed, IsGiven}}

-- the port below tells a list that is whole: each Sync in two steps of it is followed by its Follow_Up
abbrev pub TellsWhole : {P : Type 0} → Ports P → P → Type 0
TellsWhole ports port = IsSome (told_by false (ports.sent port))

-- a port below that told a whole list before was sent the pairs of the datagrams, where it may cease to tell at none of them
abbrev pub IsSentInPairs : {P : Type 0} → Ports P → P → P → List Departure → Type 0
IsSentInPairs ports before after datagrams =
    TellsWhole ports before → AllByRecursion (λ d. ports.ceases_at d ≡ false) (pairs datagrams) →
    ports.sent after ≡ append_told (ports.sent before) (pairs datagrams)

-- each port below was sent the pairs of what is served
pub record AreSentInPairs {P C : Type 0} (ports : Ports P) (settings : GmSettings) (given : Given) (before after : Opened P C) : Type 0 where
  pub p0 : IsSentInPairs ports before.p0 after.p0 (served_by settings given 0)
  pub p1 : IsSentInPairs ports before.p1 after.p1 (served_by settings given 1)
  pub p2 : IsSentInPairs ports before.p2 after.p2 (served_by settings given 2)
  pub p3 : IsSentInPairs ports before.p3 after.p3 (served_by settings given 3)
  pub p4 : IsSentInPairs ports before.p4 after.p4 (served_by settings given 4)

-- on one thread, where no count rose, each port below was sent the pairs of what is served
abbrev pub ServesInPairs : {P C : Type 0} → Ports P → Clocks C → GmSettings → Opened P C → Opened P C → Option (InTwoSteps P) → Option (InTwoSteps P) → Type 0
ServesInPairs ports clocks settings before after control control' =
    (given : Given) → IsGiven ports clocks before after given → IsSpoken (two_steps ports) control control' given → HaveNotRisen (faults_of ports before) (faults_of ports after) →
    AreSentInPairs ports settings given before after

-- a port below was sent so many of these, which are no halves and so are sent as they are: all, where its count did not rise, it told a
-- whole list before, and it may cease to tell at none of them; and so many in order, whatever failed, where its list is told and whole
-- after them, too, and the flag of the port in two steps is clear
pub record AreSentBelow {P : Type 0} (ports : Ports P) (before after : P) (flag : Bool) (datagrams : List Departure) (sent : ℕ) : Type 0 where
  pub all : ¬ HasRisen (ports.faults before) (ports.faults after) → TellsWhole ports before →
      AllByRecursion (λ d. ports.ceases_at d ≡ false) datagrams → ports.sent after ≡ append_told (ports.sent before) datagrams
  pub some : IsSome (told_by flag (ports.sent after)) → SentOf (ports.sent before) (ports.sent after) datagrams sent

-- by lanes, where orders may come or not: over port 4 in two steps the lane that takes Signaling did this, and the port below was sent its replies and CANCELs
pub record AnswersBelow {P C : Type 0} (ports : Ports P) (clocks : Clocks C) (told : Bool) (settings : GmSettings) (before after : Opened P C) (flags : Flags) (said : Said) : Type 0 where
  pub exchanged : ExchangedAll (two_steps ports) clocks told settings (config_of settings) (over false before.p4) (over flags.p4 after.p4) before.c0 after.c0
      said.granted said.refused
  pub below : AreSentBelow ports before.p4 after.p4 flags.p4 (lane_sends settings (config_of settings) (opened_at settings) exchanged.rounds)
      exchanged.sent

-- a port below was sent the pairs of so many of these, which are no halves: of all, where its count did not rise, it told a whole list
-- before, and it may cease to tell at none of the pairs; and of so many in order, whatever failed, where its list is told and whole
-- after them, too, and the flag of the port in two steps is clear
pub record ArePairsBelow {P : Type 0} (ports : Ports P) (before after : P) (flag : Bool) (datagrams : List Departure) (sent : ℕ) : Type 0 where
  pub all : ¬ HasRisen (ports.faults before) (ports.faults after) → IsSentInPairs ports before after datagrams
  pub which : List Bool
  pub each : length which ≡ length datagrams
  pub many : length (items_where_true which datagrams) ≡ sent
  pub some : IsSome (told_by flag (ports.sent after)) → ports.sent after ≡ append_told (ports.sent before) (pairs (items_where_true which datagrams))

-- by lanes: over the ports of the tables in two steps what each was sent are messages of a history of its table, and the port below was
-- sent the pairs of these
pub record SendsBelow {P C : Type 0} (ports : Ports P) (told : Bool) (settings : GmSettings) (before after : Opened P C) (flags : Flags) : Type 0 where
  pub lawful : TablesSentLawfully (two_steps ports) told (config_of settings) (seen_at (two_steps ports) (flagged_by clear before)) (flagged_by flags after)
  pub p0 : ArePairsBelow ports before.p0 after.p0 flags.p0 lawful.p0.messages lawful.p0.sent
  pub p1 : ArePairsBelow ports before.p1 after.p1 flags.p1 lawful.p1.messages lawful.p1.sent
  pub p2 : ArePairsBelow ports before.p2 after.p2 flags.p2 lawful.p2.messages lawful.p2.sent
  pub p3 : ArePairsBelow ports before.p3 after.p3 flags.p3 lawful.p3.messages lawful.p3.sent

-- where a host that told that it opens `opening`, and `speaking` as its control port, tells that it was given `back` and `spoken`: over ports
-- in two steps of these it was served so
pub record HasServedInTwo {P C : Type 0} (ports : Ports P) (clocks : Clocks C) (settings : GmSettings) (opening back : Option (Opened P C))
    (speaking spoken : Option P) (said : Said) : Type 0 where
  -- the flags of the ports in two steps as they were given back: those of the opening are clear
  pub flags : Flags
  pub control_flag : Bool
  pub served : HasServed (two_steps ports) clocks settings (option_map (flagged_by clear) opening) (option_map (flagged_by flags) back)
      (option_map (over false) speaking) (option_map (over control_flag) spoken) said
  -- on one thread, where no count rose
  pub in_pairs : settings.senders ≡ 0 → (before after : Opened P C) → opening ≡ Some before → back ≡ Some after →
      ServesInPairs ports clocks settings before after served.control served.control'
  -- by lanes, or on one thread where a lane is refused its thread
  pub by_lanes : 1 ≤ settings.senders → (before after : Opened P C) → opening ≡ Some before → back ≡ Some after →
      (AnswersBelow ports clocks (is_some served.control) settings before after flags said × SendsBelow ports (is_some served.control) settings before after flags)
      ⊎ ServesInPairs ports clocks settings before after served.control served.control'
