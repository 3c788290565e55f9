-- A host in two steps, over a host.
use Rattle.std.specs.Prelude.{◌≡◌, Bool, false, Option, Some}
use Rattle.ptu_outside.specs.{declared.opened.Opened.{Opened}, Telling.{IfTold}}
use Rattle.ptu_daemon.specs.declared.two_host.Flags.{Flags}
use Rattle.ptu_outside.specs.declared.port.Port.{Ghosts as Ports}
use Rattle.ptu_daemon.specs.Telling.{InTwoSteps, ceases_in_two, told_by}

-- what ports in two steps tell, by what those below tell
abbrev pub two_steps : {P : Type 0} → Ports P → Ports (InTwoSteps P)
two_steps ports = record {
  sent = λ p. told_by p.is_flagged (ports.sent p.port);
  waiting = λ p. ports.waiting p.port;
  faults = λ p. ports.faults p.port;
  counts_once = false;
  ceases_at = ceases_in_two ports.ceases_at;
  is_sure = λ _ _. ⊥;
}

-- a port in two steps with this flag over the one below
abbrev pub over : {P : Type 0} → Bool → P → InTwoSteps P
over flag below = record { port = below; is_flagged = flag }

-- the ports in two steps with these flags over those below, and the same clocks
abbrev pub flagged_by : {P C : Type 0} → Flags → Opened P C → Opened (InTwoSteps P) C
flagged_by flags below = record {
  p0 = over flags.p0 below.p0;
  p1 = over flags.p1 below.p1;
  p2 = over flags.p2 below.p2;
  p3 = over flags.p3 below.p3;
  p4 = over flags.p4 below.p4;
  p5 = over flags.p5 below.p5;
  c0 = below.c0;
  c1 = below.c1;
  c2 = below.c2;
  c3 = below.c3;
  c4 = below.c4;
  c5 = below.c5;
}

-- all flags are clear
abbrev pub clear : Flags
clear = record { p0 = false; p1 = false; p2 = false; p3 = false; p4 = false; p5 = false }

-- the host below was given these ports and clocks back, over which the ports in two steps with these flags stood
pub record GivesBackBelow {P C : Type 0} (flags : Flags) (opened : Opened (InTwoSteps P) C) (back : Option (Opened P C)) : Type 0 where
  pub below : Opened P C
  pub over : opened ≡ flagged_by flags below
  pub told : IfTold back (Some below)
