-- What each answer of a grandmaster's daemon says.
use Rattle.std.specs.Prelude.{◌≡◌, ◌≢◌, ◌∷◌, [], ℕ, Option, Some, Result, Ok, Err, IfErr, IfNone, IfSome, OnOk}
use Rattle.ptu_outside.specs.declared.{endpoint.Endpoint.{Endpoint}, sink.Sink.{Ghosts as Sinks}}
use Rattle.ptu_outside.specs.{Faults.{HasRisen}, Handing.{HasPut, HasPutFront}, Telling.{IfTold}}
use Rattle.ptu_config.specs.declared.settings.GmSettings.{GmSettings}
use Rattle.ptu_outside.specs.declared.fault.DaemonFault.{DaemonFault}
use Rattle.ptu_outside.specs.declared.fault.DaemonFault.TheVariants.{Open, Write, OutOfMemory}
use Rattle.ptu_outside.specs.Opening.{OpenedAt}
use Rattle.ptu_daemon.specs.{Events.{endpoint_of}, Served.{Said, closing_line}}

-- a daemon that answers this has opened its control port there, where its host tells it, but for one whose host did not open
abbrev pub SpokenAt : {A : Type 0} → Result A DaemonFault → Option ℕ → ℕ → Type 0
SpokenAt (Ok x) told number = IfTold told (Some number)
SpokenAt (Err Open) told number = Unit {0}
SpokenAt (Err Write) told number = IfTold told (Some number)
SpokenAt (Err OutOfMemory) told number = IfTold told (Some number)

-- where the settings name a control port, that was opened so; without one none was asked for
abbrev pub IsAskedFor : {A : Type 0} → Option ℕ → Result A DaemonFault → Option ℕ → Option ℕ → Type 0
IsAskedFor port result before told = IfNone port (told ≡ before) × IfSome port (λ number. SpokenAt result told number)

-- The daemon of these settings answers so, over a host that opened there and had so many faults. `IsServed` says what was served where
-- the line has these numbers.
module _ {K : Type 0} (sinks : Sinks K) (sink sink' : K) (failed failed' : ℕ) (opened_at : Option Endpoint) (control_before control_at : Option ℕ) (settings : GmSettings) where
  pub record HasAnswered (IsServed : Said → Type 0) (result : Result (Unit {0}) DaemonFault) : Type 0 where
    -- the line was written: its numbers, and what the ports were sent, are those of what is served
    pub served : OnOk result ((said : Said) × HasPut sinks.written sinks.handed sink sink' (closing_line said ∷ []) × IsServed said)
    -- the sink failed in it
    pub part : IfErr result (λ fault. fault ≡ Write → ((said : Said)
        × HasPutFront sinks.written sinks.handed sink sink' (closing_line said) × IsServed said))
    -- else nothing was written
    pub nothing : IfErr result (λ fault. fault ≢ Write → sink' ≡ sink)
    pub write : IfErr result (λ fault. fault ≡ Write → HasRisen (sinks.faults sink) (sinks.faults sink'))
    pub still : OnOk result (sinks.faults sink' ≡ sinks.faults sink)
    -- the host did not open, and its count rose; every other answer leaves that as it was
    pub unopened : IfErr result (λ fault. fault ≡ Open → HasRisen failed failed')
    pub opens : OnOk result (failed' ≡ failed)
    pub host_still : IfErr result (λ fault. fault ≢ Open → failed' ≡ failed)
    -- it was opened at the settings' address and ports
    pub at : OpenedAt result opened_at (endpoint_of settings)
    -- and where they name a control port, that was opened there; without one the host was not asked for one
    pub spoken_at : IsAskedFor settings.control_port result control_before control_at
