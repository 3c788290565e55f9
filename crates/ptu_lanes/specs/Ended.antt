-- How a grandmaster has ended that was to be served by lanes.
use Rattle.std.specs.Prelude.{◌≡◌, Option}
use Rattle.ptu_outside.specs.declared.{clock.Clock.{Ghosts as Clocks}, opened.Opened.{Opened}, port.Port.{Ghosts as Ports}}
use Rattle.ptu_profile.specs.declared.grandmaster.GmConfig.{GmConfig}
use Rattle.ptu_config.specs.declared.settings.GmSettings.{GmSettings}
use Rattle.ptu_lanes.specs.Served.{ServesByLanes, numbers_of}
use Rattle.ptu_lanes.specs.declared.serving.Ended.{Ended}
use Rattle.ptu_lanes.specs.declared.serving.Ended.TheVariants.{Refused, Served}

-- lanes served it, between these ports and clocks as they were opened and others; or a lane was refused its thread, and they are
-- given back as they were opened
abbrev pub HasEnded : {P C : Type 0} → Ports P → Clocks C → GmSettings → GmConfig → Opened P C → Option P → Ended P C → Type 0
HasEnded ports clocks settings config opened control (Served closed control' totals) =
    ServesByLanes ports clocks settings config opened closed control control' totals.rounds (numbers_of totals)
HasEnded ports clocks settings config opened control (Refused back control') = (back ≡ opened) × (control' ≡ control)
