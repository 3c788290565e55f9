-- What the replay of a script answers, where it has no judges and nothing fails; the `end` line of a whole report has the number of the
-- script's lines.
use Rattle.std.proofs.Common.{◌≡◌, ◌∙◌, ◌⊎◌, ℕ, ◌+◌, List, [], ◌∷◌, ◌++◌, map, length, Option, Some, None, Result, Ok, Err, IfOk, IfErr, refl, sym, ap, subst, inl, inr, arith}
use Rattle.ptu_lines.specs.Script.{ScriptLine, Whole, Refused, script_lines}
use Rattle.ptu_report.specs.declared.ending.Ending.TheVariants as endings
use Rattle.ptu_report.specs.Rules.{ending_of}
use Rattle.ptu_script.specs.declared.{cause.Cause.{Cause}, command.Command.{Command}}
use Rattle.ptu_script.specs.Command.{command_of}
use Rattle.ptu_report_lines.specs.declared.report_line.ReportLine.{ReportLine}
use Rattle.ptu_report_lines.specs.declared.report_line.ReportLine.TheVariants.{At, End}
use Rattle.ptu_report_lines.specs.declared.statement.Statement.{Statement}
use Rattle.ptu_report_lines.specs.declared.statement.Statement.TheVariants.{Bad}
use Rattle.ptu_world.specs.{World.{Done, Stock, World, no_judges, opening, step}, Facts.{EndsBy, world_of}}
use Rattle.ptu_world.specs.Report.{course_opening, lines_by, lines_by_line, lines_from, report_lines, rules}
use Rattle.ptu_world.proofs.Reported.{ends_of_rules}
use Rattle.ptu_report.specs.Runs.{CountsRead, CountsWrite}
use Rattle.ptu_lab.specs.Load.{numbers_of}
use Rattle.ptu_lab.specs.Replayed.{AreCounts, HasReplayed, IfReplayed}
use Rattle.ptu_lab.specs.declared.done.Done.{Done as Answer}
use Rattle.ptu_report.specs.declared.fault.RunFault.{RunFault}
use Rattle.ptu_report.specs.declared.fault.RunFault.TheVariants.{Line, Read, Write, OutOfMemory}

-- how many lines the last `end` line counts; where there is none, what was found before
last_end : Option ℕ → List ReportLine → Option ℕ
last_end found [] = found
last_end found (At number statement ∷ later) = last_end found later
last_end found (End lines datagrams ∷ later) = last_end (Some lines) later

last_end-said : (found : Option ℕ) (number : ℕ) (said : List Statement) (later : List ReportLine) → last_end found (map (At number) said ++ later) ≡ last_end found later
unfolding last_end
last_end-said found number [] later = refl
last_end-said found number (s ∷ said) later = last_end-said found number said later

last_end-end : (found : Option ℕ) (front : List ReportLine) (lines datagrams : ℕ) → last_end found (front ++ End lines datagrams ∷ []) ≡ Some lines
unfolding last_end
last_end-end found [] lines datagrams = refl
last_end-end found (At number statement ∷ front) lines datagrams = last_end-end found front lines datagrams
last_end-end found (End n d ∷ front) lines datagrams = last_end-end (Some n) front lines datagrams

-- the report ends with an `end` line that counts so many, or has none
abbrev Counts : ℕ → List ReportLine → Type 0
Counts n report = (last_end None report ≡ Some n) ⊎ (last_end None report ≡ None)

module _ (n : ℕ) (later : World → List ReportLine) (counts : (w : World) → Counts n (later w)) where
  done_counts : (w : World) (number : ℕ) (made : Result Done Cause) → Counts n (lines_by number made later)
  unfolding last_end
  done_counts w number (Ok done) = subst (λ found. (found ≡ Some n) ⊎ (found ≡ None)) (sym (last_end-said None number done.said (later done.world))) (counts done.world)
  done_counts w number (Err cause) = inr refl

  line_counts : (w : World) (number : ℕ) (said : Result (Option Command) Cause) → Counts n (lines_by_line w number said later)
  unfolding last_end
  line_counts w number (Ok None) = counts w
  line_counts w number (Ok (Some command)) = done_counts w number (step w command)
  line_counts w number (Err cause) = inr refl

counts_from : (lines : List ScriptLine) (w : World) (before : ℕ) → Counts (before + length lines) (lines_from w before lines)
unfolding last_end
counts_from [] w before = inl (ap Some (let same : before ≡ before + 0 = omega arith in same))
counts_from (Refused cause ∷ rest) w before = inr refl
counts_from (Whole text ∷ rest) w before =
    let more : before + 1 + length rest ≡ before + length (Whole text ∷ rest) = omega arith in
    line_counts (before + length (Whole text ∷ rest)) (λ next. lines_from next (before + 1) rest)
    (λ next. subst (λ n. Counts n (lines_from next (before + 1) rest)) more (counts_from rest next (before + 1))) w (before + 1) (command_of text)

counts_all : (w : World) (lines : List ScriptLine) (front : List ReportLine) (n d : ℕ) → lines_from w 0 lines ≡ front ++ End n d ∷ [] → n ≡ length lines
counts_all w lines front n d is = by_cases (counts_from lines w 0)
  where
    found : last_end None (lines_from w 0 lines) ≡ Some n
    found = ap (last_end None) is ∙ last_end-end None front n d

    by_cases : Counts (0 + length lines) (lines_from w 0 lines) → n ≡ length lines
    by_cases (inl e) = let same : Some n ≡ Some (0 + length lines) = sym found ∙ e in let value : n ≡ 0 + length lines = cc in omega (arith, value)
    by_cases (inr e) = let same : Some n ≡ None = sym found ∙ e in absurd cc

-- ---- the end

last_of : ReportLine → List ReportLine → ReportLine
last_of line [] = line
last_of line (next ∷ later) = last_of next later

last_of-push : (line : ReportLine) (front : List ReportLine) (last : ReportLine) → last_of line (front ++ last ∷ []) ≡ last
unfolding last_of
last_of-push line [] last = refl
last_of-push line (next ∷ front) last = last_of-push next front last

-- a report that ends with its `end` line ends with no line that is refused
not_refused : (stock : Stock) (script : List ℕ) (count number : ℕ) (cause : Cause) → ending_of rules (course_opening stock) (script_lines script) ≡ endings.Whole count
    → EndsBy (endings.Refused number cause) (world_of stock script) (report_lines stock script) → ⊥
not_refused stock script count number cause whole refused =
    let w = world_of stock script in
    let lines = report_lines stock script in
    let ends : EndsBy (endings.Whole count) w lines = subst (λ e. EndsBy e w lines) whole (ends_of_rules stock script) in
    let end = End count (length w.sent) in
    let bad = At number (Bad cause) in
    let one : last_of end lines ≡ end = ap (last_of end) ends.1 ∙ last_of-push end ends.0 end in
    let other : last_of end lines ≡ bad = ap (last_of end) refused.1 ∙ last_of-push end refused.0 bad in
    let never : end ≡ bad = sym one ∙ other in
    absurd cc

-- ---- the answer

module _ {K : Type 0} (W : K → Option (List ℕ)) (H : K → Option (List (List ℕ))) (old new : K) (script : List ℕ) where
  numbers_are : (done : Answer) → HasReplayed W H old new no_judges script (endings.Whole done.lines) → AreCounts no_judges script done → done ≡ numbers_of script
  unfolding numbers_of
  numbers_are done r counts =
      rw (counts_all (opening no_judges) (script_lines script) r.ends.0 done.lines _ r.ends.1, counts.datagrams, counts.granted, counts.refused) refl

  pub numbers : (stock : Stock) (answer : Result Answer (RunFault Cause)) → stock ≡ no_judges → IfReplayed answer (HasReplayed W H old new stock script)
      → IfOk answer (AreCounts stock script) → IfOk answer (λ done. done ≡ numbers_of script)
  numbers stock (Ok done) e r counts = numbers_are done (subst (λ s. HasReplayed W H old new s script (endings.Whole done.lines)) e r) (subst (λ s. AreCounts s script done) e counts)
  numbers stock (Err fault) e r counts = tt

  pub causes : (stock : Stock) (answer : Result Answer (RunFault Cause)) (count : ℕ) → ending_of rules (course_opening stock) (script_lines script) ≡ endings.Whole count
      → IfReplayed answer (HasReplayed W H old new stock script) → CountsRead answer 0 0 → CountsWrite answer 0 0 → IfErr answer (λ fault. fault ≡ OutOfMemory)
  causes stock (Ok done) count whole r reads writes = tt
  causes stock (Err (Line number cause)) count whole r reads writes = absurd (not_refused stock script count number cause whole r.ends)
  causes stock (Err Read) count whole r (inl risen) writes = absurd (omega (arith, risen))
  causes stock (Err Read) count whole r (inr end) writes = absurd (omega (arith, end))
  causes stock (Err Write) count whole r reads (inl risen) = absurd (omega (arith, risen))
  causes stock (Err Write) count whole r reads (inr end) = absurd (omega (arith, end))
  causes stock (Err OutOfMemory) count whole r reads writes = refl
