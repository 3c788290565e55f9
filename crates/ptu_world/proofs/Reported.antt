-- The report is what the driver makes of the rules, it ends as the driver says, and its counts are those of the course.
use Rattle.std.proofs.Common.{◌≡◌, ℕ, ◌+◌, Bool, List, [], ◌∷◌, ◌++◌, Option, Some, None, IfSome, Result, Ok, Err, refl, sym, ◌∙◌, ap, append_assoc, arith}
use Rattle.std.specs.{Prelude.{map, if◌then◌else◌}, List.{count_by}}
use Rattle.std.proofs.lemmas.List.Sums.{sum_by-cons}
use Rattle.ptu_lines.specs.Script.{ScriptLine, Whole, Refused, script_lines}
use Rattle.ptu_report.specs.Rules.{closing, ending_after, ending_at, meaning_after, meaning_at, meaning_of, texts_at, texts_until, texts_of, ending_of}
use Rattle.ptu_report.specs.declared.ending.Ending.{Ending}
use Rattle.ptu_report.specs.declared.ending.Ending.TheVariants as endings
use Rattle.ptu_script.specs.declared.{cause.Cause.{Cause}, command.Command.{Command}}
use Rattle.ptu_script.specs.Command.{command_of}
use Rattle.ptu_report_lines.specs.declared.report_line.ReportLine.{ReportLine}
use Rattle.ptu_report_lines.specs.declared.report_line.ReportLine.TheVariants.{At}
use Rattle.ptu_report_lines.specs.{declared.statement.Statement.{Statement}, Report.{line_text}}
use Rattle.ptu_world.specs.World.{World, Stock, Done, step}
use Rattle.ptu_world.specs.Report.{Course, course_after, course_opening, granted_count, is_granted, is_granted_line, is_short, is_short_line, lines_by, lines_by_line, lines_from, outcome_by, outcome_by_line, report, report_lines, rules, short_count, text_at}
use Rattle.ptu_world.specs.Facts.{AreCounted, EndsBy, world_after, world_by, world_by_line, world_of}

-- ---- the texts

said_texts : (number : ℕ) (said : List Statement) (more : List ReportLine) → map (text_at number) said ++ map line_text more ≡ map line_text (map (At number) said ++ more)
said_texts number [] more = refl
said_texts number (s ∷ said) more = ap (λ texts. text_at number s ∷ texts) (said_texts number said more)

module _ (texts : Course → List (List ℕ)) (lines : World → List ReportLine) (same : (c : Course) → texts c ≡ map line_text (lines c.world)) where
  done_texts : (c : Course) (number : ℕ) (made : Result Done Cause) → texts_at rules number (outcome_by c number made) texts ≡ map line_text (lines_by number made lines)
  unfolding rules
  done_texts c number (Ok done) = ap (λ later. map (text_at number) done.said ++ later) (same (course_after c done)) ∙ said_texts number done.said (lines done.world)
  done_texts c number (Err cause) = refl

  line_texts : (c : Course) (number : ℕ) (said : Result (Option Command) Cause) → texts_at rules number (outcome_by_line c number said) texts ≡ map line_text (lines_by_line c.world number said lines)
  unfolding rules
  line_texts c number (Ok None) = same c
  line_texts c number (Ok (Some command)) = done_texts c number (step c.world command)
  line_texts c number (Err cause) = refl

texts_from : (left : List ScriptLine) (c : Course) (before : ℕ) → texts_until rules (closing rules) c before left ≡ map line_text (lines_from c.world before left)
unfolding rules
texts_from [] c before = refl
texts_from (Refused cause ∷ rest) c before = refl
texts_from (Whole text ∷ rest) c before =
    line_texts (λ next. texts_until rules (closing rules) next (before + 1) rest) (λ next. lines_from next (before + 1) rest)
    (λ next. texts_from rest next (before + 1)) c (before + 1) (command_of text)

pub texts_of_rules : (stock : Stock) (script : List ℕ) → texts_of rules (course_opening stock) (script_lines script) ≡ report stock script
texts_of_rules stock script = texts_from (script_lines script) (course_opening stock) 0

-- ---- the end

-- lines before do not change it
behind : (said : List ReportLine) (e : Ending Cause) (w : World) (lines : List ReportLine) → EndsBy e w lines → EndsBy e w (said ++ lines)
behind said (endings.Whole count) w lines (front, is) = (said ++ front, ap (λ more. said ++ more) is ∙ sym (append_assoc said front _))
behind said (endings.Refused number cause) w lines (front, is) = (said ++ front, ap (λ more. said ++ more) is ∙ sym (append_assoc said front _))

module _ (ends : Course → Ending Cause) (final : World → World) (lines : World → List ReportLine) (same : (c : Course) → EndsBy (ends c) (final c.world) (lines c.world)) where
  done_ends : (c : Course) (number : ℕ) (made : Result Done Cause) → EndsBy (ending_at number (outcome_by c number made) ends) (world_by c.world made final) (lines_by number made lines)
  done_ends c number (Ok done) = behind (map (At number) done.said) (ends (course_after c done)) (final done.world) (lines done.world) (same (course_after c done))
  done_ends c number (Err cause) = ([], refl)

  line_ends : (c : Course) (number : ℕ) (said : Result (Option Command) Cause) → EndsBy (ending_at number (outcome_by_line c number said) ends) (world_by_line c.world said final) (lines_by_line c.world number said lines)
  line_ends c number (Ok None) = same c
  line_ends c number (Ok (Some command)) = done_ends c number (step c.world command)
  line_ends c number (Err cause) = ([], refl)

ends_from : (left : List ScriptLine) (c : Course) (before : ℕ) → EndsBy (ending_after rules c before left) (world_after c.world left) (lines_from c.world before left)
unfolding rules
ends_from [] c before = ([], refl)
ends_from (Refused cause ∷ rest) c before = ([], refl)
ends_from (Whole text ∷ rest) c before =
    line_ends (λ next. ending_after rules next (before + 1) rest) (λ next. world_after next rest) (λ next. lines_from next (before + 1) rest)
    (λ next. ends_from rest next (before + 1)) c (before + 1) (command_of text)

pub ends_of_rules : (stock : Stock) (script : List ℕ) → EndsBy (ending_of rules (course_opening stock) (script_lines script)) (world_of stock script) (report_lines stock script)
ends_of_rules stock script = ends_from (script_lines script) (course_opening stock) 0

-- ---- the counts

-- those of a line's statements and those of the lines behind it
counted_said : (is : Statement → Bool) (is_line : ReportLine → Bool) (number : ℕ) → ((s : Statement) → is_line (At number s) ≡ is s)
    → (said : List Statement) (more : List ReportLine) → count_by is_line (map (At number) said ++ more) ≡ count_by is said + count_by is_line more
counted_said is is_line number same [] more = omega arith
counted_said is is_line number same (s ∷ said) more =
    let rest = counted_said is is_line number same said more in
    let own : count_by is (s ∷ said) ≡ (if is s then 1 else 0) + count_by is said = sum_by-cons (λ x. if is x then 1 else 0) s said in
    let all : count_by is_line (map (At number) (s ∷ said) ++ more) ≡ (if is s then 1 else 0) + count_by is_line (map (At number) said ++ more) =
    sum_by-cons (λ x. if is_line x then 1 else 0) (At number s) (map (At number) said ++ more) ∙ ap (λ b. (if b then 1 else 0) + count_by is_line (map (At number) said ++ more)) (same s) in
    omega (arith, rest, own, all)

-- the course comes to this from another, over these lines of the report
abbrev Comes : Option Course → Course → World → List ReportLine → Type 0
Comes last c w lines = IfSome last (λ e. (e.world ≡ w) × (e.granted ≡ c.granted + granted_count lines) × (e.short ≡ c.short + short_count lines))

comes_on : (c : Course) (number : ℕ) (done : Done) (last : Option Course) (w : World) (lines : List ReportLine) → Comes last (course_after c done) w lines → Comes last c w (map (At number) done.said ++ lines)
comes_on c number done None w lines e = tt
comes_on c number done (Some last) w lines (world, granted, short) =
    let more = counted_said is_granted is_granted_line number (λ s. refl) done.said lines in
    let fewer = counted_said is_short is_short_line number (λ s. refl) done.said lines in
    (world, omega (arith, granted, more), omega (arith, short, fewer))

module _ (later : Course → Option Course) (final : World → World) (lines : World → List ReportLine) (same : (c : Course) → Comes (later c) c (final c.world) (lines c.world)) where
  done_comes : (c : Course) (number : ℕ) (made : Result Done Cause) → Comes (meaning_at (outcome_by c number made) later) c (world_by c.world made final) (lines_by number made lines)
  done_comes c number (Ok done) = comes_on c number done (later (course_after c done)) (final done.world) (lines done.world) (same (course_after c done))
  done_comes c number (Err cause) = tt

  line_comes : (c : Course) (number : ℕ) (said : Result (Option Command) Cause) → Comes (meaning_at (outcome_by_line c number said) later) c (world_by_line c.world said final) (lines_by_line c.world number said lines)
  line_comes c number (Ok None) = same c
  line_comes c number (Ok (Some command)) = done_comes c number (step c.world command)
  line_comes c number (Err cause) = tt

comes_from : (left : List ScriptLine) (c : Course) (before : ℕ) → Comes (meaning_after rules c before left) c (world_after c.world left) (lines_from c.world before left)
unfolding rules
comes_from [] c before = (refl, (let none : c.granted ≡ c.granted + 0 = omega arith in none), (let none : c.short ≡ c.short + 0 = omega arith in none))
comes_from (Refused cause ∷ rest) c before = tt
comes_from (Whole text ∷ rest) c before =
    line_comes (λ next. meaning_after rules next (before + 1) rest) (λ next. world_after next rest) (λ next. lines_from next (before + 1) rest)
    (λ next. comes_from rest next (before + 1)) c (before + 1) (command_of text)

counted : (stock : Stock) (script : List ℕ) (last : Option Course) → Comes last (course_opening stock) (world_of stock script) (report_lines stock script) → IfSome last (AreCounted stock script)
counted stock script None e = tt
counted stock script (Some last) (world, granted, short) = record { world = world; granted = omega (arith, granted); short = omega (arith, short) }

pub counts_of_rules : (stock : Stock) (script : List ℕ) → IfSome (meaning_of rules (course_opening stock) (script_lines script)) (AreCounted stock script)
counts_of_rules stock script = counted stock script _ (comes_from (script_lines script) (course_opening stock) 0)
