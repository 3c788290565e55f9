-- The report of a script says what is said of each of its lines.
use Rattle.std.proofs.Common.{◌≡◌, ◌∙◌, ℕ, ◌+◌, ◌++◌, List, [], ◌∷◌, map, length, Option, Some, None, Result, Ok, Err, refl, sym, ap, subst, arith, append_assoc}
use Rattle.ptu_lines.specs.declared.cause.LineCause.{LineCause}
use Rattle.ptu_lines.specs.Script.{ScriptLine, Whole, Refused, script_lines}
use Rattle.ptu_script.specs.declared.{cause.Cause.{Cause}, command.Command.{Command}}
use Rattle.ptu_script.specs.{Cause.{cause_of_line}, Command.{command_of}}
use Rattle.ptu_report_lines.specs.declared.report_line.ReportLine.{ReportLine}
use Rattle.ptu_report_lines.specs.declared.report_line.ReportLine.TheVariants.{At, End}
use Rattle.ptu_report_lines.specs.declared.statement.Statement.TheVariants.{Bad}
use Rattle.ptu_world.specs.World.{World, Stock, Done, opening, step}
use Rattle.ptu_world.specs.Report.{lines_by, lines_by_line, lines_from, report_lines}
use Rattle.ptu_world.specs.Facts.{world_after, world_by, world_by_line, world_of}
use Rattle.ptu_world.specs.Headline.{said_so_far}
use Rattle.ptu_world.specs.Reached.{Leads, Reaches, done_by_line, lines_said}

module _ (w : World) (n : ℕ) (later : World → List ReportLine) where
  lines-done : (r : Result (Option Command) Cause) (done : Done) → done_by_line w r ≡ Ok done → lines_by_line w n r later ≡ map (At n) done.said ++ later done.world
  lines-done (Ok None) done e = let same : record { world = w; said = [] } ≡ done = cc in ap (λ d. map (At n) d.said ++ later d.world) same
  lines-done (Ok (Some command)) done e = ap (λ r. lines_by n r later) e
  lines-done (Err cause) done e = absurd cc

  lines-refused : (r : Result (Option Command) Cause) (cause : Cause) → done_by_line w r ≡ Err cause → lines_by_line w n r later ≡ At n (Bad cause) ∷ []
  lines-refused (Ok None) cause e = absurd cc
  lines-refused (Ok (Some command)) cause e = ap (λ r. lines_by n r later) e
  lines-refused (Err other) cause e = let same : other ≡ cause = cc in ap (λ c. At n (Bad c) ∷ []) same

abbrev after_line : ℕ → List ScriptLine → World → List ReportLine
after_line before rest next = lines_from next (before + 1) rest

-- what lines that lead to a world have in the report stands before what the others have
goes_before : (w : World) (before : ℕ) (lines left : List ScriptLine) (last : World) (leads : Leads w lines last)
    → lines_from w before (lines ++ left) ≡ lines_said before w lines last leads ++ lines_from last (before + length lines) left
goes_before w before [] left last e =
    ap (λ n. lines_from w n left) (let same : before ≡ before + 0 = omega arith in same) ∙ ap (λ v. lines_from v (before + 0) left) (sym e)
goes_before w before (Refused cause ∷ rest) left last e = absurd e
goes_before w before (Whole text ∷ rest) left last e =
    let own : List ReportLine = map (At (before + 1)) e.0.said in
    let more : List ReportLine = lines_said (before + 1) e.0.world rest last e.2 in
    lines-done w (before + 1) (after_line before (rest ++ left)) (command_of text) e.0 e.1
    ∙ ap (λ ls. own ++ ls) (goes_before e.0.world (before + 1) rest left last e.2)
    ∙ sym (append_assoc own more (lines_from last (before + 1 + length rest) left))
    ∙ ap (λ n. (own ++ more) ++ lines_from last n left) (let same : before + 1 + length rest ≡ before + length (Whole text ∷ rest) = omega arith in same)

module _ (stock : Stock) (script : List ℕ) (w : World) (r : Reaches stock script w) where
  abbrev number : ℕ
  number = length r.taken + 1

  abbrev so_far : List ReportLine
  so_far = said_so_far stock script w r

  -- the report goes on from there with the lines that are left
  report-is : (left : List ScriptLine) → r.left ≡ left → report_lines stock script ≡ so_far ++ lines_from w (length r.taken) left
  report-is left e =
      ap (λ ls. lines_from (opening stock) 0 ls) r.lines ∙ goes_before (opening stock) 0 r.taken r.left w r.leads
      ∙ ap (λ n. so_far ++ lines_from w n r.left) (let same : 0 + length r.taken ≡ length r.taken = omega arith in same)
      ∙ ap (λ ls. so_far ++ lines_from w (length r.taken) ls) e

  pub said : (text : List ℕ) (rest : List ScriptLine) (done : Done) → r.left ≡ Whole text ∷ rest → done_by_line w (command_of text) ≡ Ok done
      → (later : List ReportLine) × (report_lines stock script ≡ so_far ++ (map (At number) done.said ++ later))
  said text rest done left e = (
    lines_from done.world number rest,
    report-is (Whole text ∷ rest) left ∙ ap (λ ls. so_far ++ ls) (lines-done w number (after_line (length r.taken) rest) (command_of text) done e),
  )

  pub refused : (text : List ℕ) (rest : List ScriptLine) (cause : Cause) → r.left ≡ Whole text ∷ rest → done_by_line w (command_of text) ≡ Err cause
      → report_lines stock script ≡ so_far ++ At number (Bad cause) ∷ []
  refused text rest cause left e =
      report-is (Whole text ∷ rest) left ∙ ap (λ ls. so_far ++ ls) (lines-refused w number (after_line (length r.taken) rest) (command_of text) cause e)

  pub malformed : (rest : List ScriptLine) (cause : LineCause) → r.left ≡ Refused cause ∷ rest → report_lines stock script ≡ so_far ++ At number (Bad (cause_of_line cause)) ∷ []
  malformed rest cause left = report-is (Refused cause ∷ rest) left

  pub ended : r.left ≡ [] → report_lines stock script ≡ so_far ++ End (length r.taken) (length w.sent) ∷ []
  ended left = report-is [] left

  -- one line more
  leads-more : (v : World) (lines : List ScriptLine) (text : List ℕ) (done : Done) → Leads v lines w → done_by_line w (command_of text) ≡ Ok done → Leads v (lines ++ Whole text ∷ []) done.world
  leads-more v [] text done l e = (done, subst (λ u. done_by_line u (command_of text) ≡ Ok done) l e, refl)
  leads-more v (Refused cause ∷ rest) text done l e = absurd l
  leads-more v (Whole first ∷ rest) text done l e = (l.0, l.1, leads-more l.0.world rest text done l.2 e)

  pub next : (text : List ℕ) (rest : List ScriptLine) (done : Done) → r.left ≡ Whole text ∷ rest → done_by_line w (command_of text) ≡ Ok done → Reaches stock script done.world
  next text rest done left e = record {
    taken = r.taken ++ Whole text ∷ [];
    left = rest;
    lines = r.lines ∙ ap (λ ls. r.taken ++ ls) left ∙ sym (append_assoc r.taken (Whole text ∷ []) rest);
    leads = leads-more (opening stock) r.taken text done r.leads e;
  }

pub none_taken : (stock : Stock) (script : List ℕ) → Reaches stock script (opening stock)
none_taken stock script = record { taken = []; left = script_lines script; lines = refl; leads = refl }

-- ---- the end of a script

record LeadsOn (w : World) (lines : List ScriptLine) (last : World) : Type 0 where
  taken : List ScriptLine
  left : List ScriptLine
  parts : lines ≡ taken ++ left
  leads : Leads w taken last

stops : (w : World) (lines : List ScriptLine) → LeadsOn w lines w
stops w lines = record { taken = []; left = lines; parts = refl; leads = refl }

one_more : (w : World) (text : List ℕ) (rest : List ScriptLine) (done : Done) (last : World) → done_by_line w (command_of text) ≡ Ok done → LeadsOn done.world rest last → LeadsOn w (Whole text ∷ rest) last
one_more w text rest done last e l = record {
  taken = Whole text ∷ l.taken;
  left = l.left;
  parts = ap (λ ls. Whole text ∷ ls) l.parts;
  leads = (done, e, l.leads);
}

leads_on : (lines : List ScriptLine) (w : World) → LeadsOn w lines (world_after w lines)
leads_on [] w = stops w []
leads_on (Refused cause ∷ rest) w = stops w (Refused cause ∷ rest)
leads_on (Whole text ∷ rest) w = by (command_of text) refl (leads_on rest)
  where
    by_step : (r : Result Done Cause) → done_by_line w (command_of text) ≡ r → ((v : World) → LeadsOn v rest (world_after v rest)) → LeadsOn w (Whole text ∷ rest) (world_by w r (λ next. world_after next rest))
    by_step (Ok done) e ih = one_more w text rest done (world_after done.world rest) e (ih done.world)
    by_step (Err cause) e ih = stops w (Whole text ∷ rest)

    by : (o : Result (Option Command) Cause) → command_of text ≡ o → ((v : World) → LeadsOn v rest (world_after v rest)) → LeadsOn w (Whole text ∷ rest) (world_by_line w o (λ next. world_after next rest))
    by (Ok None) e ih = one_more w text rest (record { world = w; said = [] }) (world_after w rest) (ap (done_by_line w) e) (ih w)
    by (Ok (Some command)) e ih = by_step (step w command) (ap (done_by_line w) e) ih
    by (Err cause) e ih = stops w (Whole text ∷ rest)

pub end_reached : (stock : Stock) (script : List ℕ) → Reaches stock script (world_of stock script)
end_reached stock script =
    let l : LeadsOn (opening stock) (script_lines script) (world_of stock script) = leads_on (script_lines script) (opening stock) in
    record { taken = l.taken; left = l.left; lines = l.parts; leads = l.leads }
