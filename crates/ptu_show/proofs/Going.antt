-- A script goes on to its end where its first line sets up a grandmaster at 10.0.0.1, and each later one is taken wherever one stands there.
use Rattle.std.proofs.Common.{◌≡◌, ◌∙◌, ℕ, ◌+◌, List, [], ◌∷◌, length, map, Some, Ok, refl, ap, arith}
use Rattle.std.specs.List.{AllByRecursion}
use Rattle.ptu_lines.specs.Script.{Whole}
use Rattle.ptu_report.specs.declared.ending.Ending.TheVariants as endings
use Rattle.ptu_report.specs.Rules.{ending_after, ending_at}
use Rattle.ptu_script.specs.declared.command.Command.{Command}
use Rattle.ptu_script.specs.declared.act.Act.TheVariants as acts
use Rattle.ptu_script.specs.declared.command.Command.TheVariants as commands
use Rattle.ptu_script.specs.Command.{command_of}
use Rattle.ptu_world.specs.Deeds.{Grandmaster, IsGrandmaster}
use Rattle.ptu_world.specs.World.{World, Stock, Done, node_at, opening, step}
use Rattle.ptu_world.specs.Report.{Course, course_after, course_opening, outcome_by, outcome_by_line, rules}
use Rattle.ptu_world.proofs.Going.{datagram_goes, turn_goes}

-- the address 10.0.0.1
abbrev pub address : ℕ
address = 167772161

-- a grandmaster stands there
pub record HasMaster (w : World) : Type 0 where
  pub master : Grandmaster
  pub is : node_at w.nodes address ≡ Some (IsGrandmaster master)

-- the command is taken, and a grandmaster stands there afterwards
pub record IsTaken (w : World) (command : Command) : Type 0 where
  pub done : Done
  pub step : step w command ≡ Ok done
  pub master : HasMaster done.world

-- the line is taken wherever a grandmaster stands there
pub record IsGoing (text : List ℕ) : Type 0 where
  pub command : Command
  pub says : command_of text ≡ Ok (Some command)
  pub taken : (w : World) → HasMaster w → IsTaken w command

pub receive_taken : (t from : ℕ) (octets : List ℕ) (w : World) → HasMaster w → IsTaken w (commands.Event t address (acts.Receive from octets))
receive_taken t from octets w m =
    let g = datagram_goes w (commands.Event t address (acts.Receive from octets)) (record { at = t; node = address; from = from; octets = octets }) m.master refl m.is in
    record { done = g.done; step = g.step; master = record { master = _; is = g.node } }

pub turn_taken : (t table : ℕ) (w : World) → HasMaster w → IsTaken w (commands.Event t address (acts.Turn table))
turn_taken t table w m =
    let g = turn_goes w address m.master m.is t table in
    record { done = g.done; step = g.step; master = record { master = _; is = g.node } }

pub setup_taken : (stock : Stock) (clock port domain class capacity max_duration : ℕ)
    → IsTaken (opening stock) (commands.Grandmaster (record { ip = address; clock = clock; port = port; domain = domain; class = class; capacity = capacity; max_duration = max_duration }))
unfolding step
setup_taken stock clock port domain class capacity max_duration = record { done = _; step = refl; master = record { master = _; is = refl } }

-- a line that is taken goes on with the others
one_line : (c : Course) (before : ℕ) (text : List ℕ) (rest : List (List ℕ)) (command : Command) (done : Done) → command_of text ≡ Ok (Some command) → step c.world command ≡ Ok done
    → ending_after rules c before (map Whole (text ∷ rest)) ≡ ending_after rules (course_after c done) (before + 1) (map Whole rest)
unfolding rules
one_line c before text rest command done says steps =
    ap (λ o. ending_at (before + 1) o (λ after. ending_after rules after (before + 1) (map Whole rest)))
    (ap (outcome_by_line c (before + 1)) says ∙ ap (outcome_by c (before + 1)) steps)

all_lines : (texts : List (List ℕ)) (c : Course) (before : ℕ) → HasMaster c.world → AllByRecursion IsGoing texts
    → ending_after rules c before (map Whole texts) ≡ endings.Whole (before + length texts)
unfolding rules
all_lines [] c before m h = ap endings.Whole (let same : before ≡ before + 0 = omega arith in same)
all_lines (text ∷ rest) c before m h =
    let taken = h.0.taken c.world m in
    one_line c before text rest h.0.command taken.done h.0.says taken.step
    ∙ all_lines rest (course_after c taken.done) (before + 1) taken.master h.1
    ∙ ap endings.Whole (let same : before + 1 + length rest ≡ before + length (text ∷ rest) = omega arith in same)

pub goes_whole : (stock : Stock) (first : List ℕ) (texts : List (List ℕ)) (command : Command) → command_of first ≡ Ok (Some command) → IsTaken (opening stock) command
    → AllByRecursion IsGoing texts → ending_after rules (course_opening stock) 0 (map Whole (first ∷ texts)) ≡ endings.Whole (1 + length texts)
goes_whole stock first texts command says taken h =
    one_line (course_opening stock) 0 first texts command taken.done says taken.step
    ∙ all_lines texts (course_after (course_opening stock) taken.done) 1 taken.master h
