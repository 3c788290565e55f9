use Rattle.std.proofs.Common.{◌≡◌, ℕ, Option, Result, Ok, Err, sym, subst, inl, inr}
use Rattle.std.specs.Prelude.{IfOk}
use Rattle.ptu_outside.specs.declared.{clock.Clock.{Ghosts as Clocks}, opened.Opened.{Opened}, port.Port.{Ghosts as Ports}}
use Rattle.ptu_profile.specs.declared.grandmaster.GmConfig.{GmConfig}
use Rattle.ptu_config.specs.declared.settings.GmSettings.{GmSettings}
use Rattle.ptu_lanes.specs.Served.{Numbers, ServesByLanes, numbers_of}
use Rattle.ptu_daemon.specs.{Events.{config_of}, Served.{numbers_in, said_by}, Serving.{Serves}}
use Rattle.ptu_daemon.proofs.serving.serve_by_lanes.Goals as goal

if_ok_more : {T E : Type 0} (F G : T → Type 0) (r : Result T E) → ((x : T) → F x → G x) → IfOk r F → IfOk r G
if_ok_more F G (Ok x) f h = f x h
if_ok_more F G (Err e) f h = tt

-- the same of an equal configuration, and equal numbers
of_equals : {P C : Type 0} (ports : Ports P) (clocks : Clocks C) (settings : GmSettings) (config config' : GmConfig) (opened back : Opened P C) (control control' : Option P)
    (rounds rounds' : ℕ) (numbers numbers' : Numbers) → config ≡ config' → rounds' ≡ rounds → numbers' ≡ numbers →
    ServesByLanes ports clocks settings config opened back control control' rounds numbers →
    ServesByLanes ports clocks settings config' opened back control control' rounds' numbers'
of_equals ports clocks settings config config' opened back control control' rounds rounds' numbers numbers' same many equal h =
    subst (λ c. ServesByLanes ports clocks settings c opened back control control' rounds' numbers') same
    (subst (λ r. ServesByLanes ports clocks settings config opened back control control' r numbers') (sym many)
    (subst (λ n. ServesByLanes ports clocks settings config opened back control control' rounds n) (sym equal) h))

pub returns-in-Served : goal.returns-in-Served
returns-in-Served g c =
    let ended : ServesByLanes g.P.Port g.C.Clock c.args.settings.now c.config-config.result c.args.opened c.in-Served.back c.args.control c.in-Served.control
    c.in-Served.totals.rounds (numbers_of c.in-Served.totals) = rw c.in-Served.is at c.in_ok-back.ensures in
    record {
      serves = inl (of_equals g.P.Port g.C.Clock c.args.settings.now c.config-config.result (config_of c.args.settings.now) c.args.opened c.in-Served.back c.args.control c.in-Served.control
          c.in-Served.totals.rounds _ (numbers_of c.in-Served.totals) (numbers_in (said_by c.closing_of.result)) c.config-config.ensures c.closing_of.ensures.rounds
          c.closing_of.ensures.numbers ended);
    }
