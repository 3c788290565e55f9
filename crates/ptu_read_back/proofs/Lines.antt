-- Who reads a report by lines is given just its lines.
use Rattle.std.proofs.Common.{◌≡◌, ◌∙◌, ℕ, ◌+◌, ◌≤◌, min, nat_le, nat_lt, ◌&&◌, if◌then◌else◌, Bool, true, false, List, [], ◌∷◌, ◌++◌, length, map, Some, None, refl, sym, ap, arith}
use Rattle.std.specs.List.{AllByRecursion}
use Rattle.std.proofs.lemmas.Bool.{le-ltb}
use Rattle.std.proofs.lemmas.List.{append_assoc, length-append}
use Rattle.ptu_lines.specs.declared.cause.LineCause.TheVariants.{Size}
use Rattle.ptu_lines.specs.Script.{Whole, cause_of, lines_from, pieces, text_of}
use Rattle.ptu_lines.proofs.Cutting.{pieces-line, text_of-line}
use Rattle.ptu_report_lines.specs.declared.report_line.ReportLine.{ReportLine}
use Rattle.ptu_report_lines.specs.Report.{line_text}
use Rattle.ptu_read_back.specs.ReadBack.{text_in, written_report}
use Rattle.ptu_read_back.proofs.Words.{AreText, text_has_no_end, text_is_plain}

-- a line is a text of at most 8192 octets, and a 0A
pub record IsLine (line : List ℕ) : Type 0 where
  pub text : List ℕ
  pub is : line ≡ text ++ 10 ∷ []
  pub plain : AreText text
  pub few : length text ≤ 8192

pub text_of_line : (line : List ℕ) (h : IsLine line) → text_of line ≡ h.text
text_of_line line h = ap text_of h.is ∙ text_of-line h.text [] (text_has_no_end h.text h.plain)

-- it is not refused where it ends within the limit of all octets
not_refused : (before : ℕ) (text : List ℕ) → AreText text → length text ≤ 8192 → before + length (text ++ 10 ∷ []) ≤ 67108864
    → cause_of before (text ++ 10 ∷ []) ≡ None
not_refused before text plain few within =
    let least : min (length (text ++ 10 ∷ [])) 8193 ≤ length (text ++ 10 ∷ []) = omega arith in
    let limit : nat_lt 67108864 (before + min (length (text ++ 10 ∷ [])) 8193) ≡ false = le-ltb 67108864 _ (omega (arith, least, within)) in
    let same : text_of (text ++ 10 ∷ []) ≡ text = text_of-line text [] (text_has_no_end text plain) in
    let long : nat_lt 8192 (length text) ≡ false = le-ltb 8192 _ few in
    rw (limit, same, long, text_is_plain text plain) (either (nat_le before 67108864))
  where
    either : (b : Bool) → (if b && false then Some Size else None) ≡ None
    either true = refl
    either false = refl

one_line : (before : ℕ) (text rest : List ℕ) → AreText text → length text ≤ 8192 → before + length (text ++ 10 ∷ []) ≤ 67108864
    → lines_from before (pieces (text ++ 10 ∷ rest)) ≡ Whole text ∷ lines_from (before + length (text ++ 10 ∷ [])) (pieces rest)
one_line before text rest plain few within =
    let no_end = text_has_no_end text plain in
    ap (lines_from before) (pieces-line text rest no_end)
    ∙ rw (not_refused before text plain few within) (ap (λ t. Whole t ∷ lines_from (before + length (text ++ 10 ∷ [])) (pieces rest)) (text_of-line text [] no_end))

pub all_lines : (before : ℕ) (report : List ReportLine) → AllByRecursion (λ line. IsLine (line_text line)) report → before + length (written_report report) ≤ 67108864
    → lines_from before (pieces (written_report report)) ≡ map (λ line. Whole (text_in line)) report
all_lines before [] h within = refl
all_lines before (line ∷ report) h within =
    let this = h.0 in
    let rest = written_report report in
    let whole : line_text line ++ rest ≡ this.text ++ 10 ∷ rest = ap (λ l. l ++ rest) this.is ∙ append_assoc this.text (10 ∷ []) rest in
    let size : length (line_text line ++ rest) ≡ length (line_text line) + length rest = length-append (line_text line) rest in
    let same : length (line_text line) ≡ length (this.text ++ 10 ∷ []) = ap length this.is in
    let later = all_lines (before + length (this.text ++ 10 ∷ [])) report h.1 (omega (arith, size, same, within)) in
    ap (λ l. lines_from before (pieces l)) whole
    ∙ one_line before this.text rest this.plain this.few (omega (arith, size, same, within))
    ∙ ap (λ ls. Whole this.text ∷ ls) later
    ∙ ap (λ t. Whole t ∷ map (λ line. Whole (text_in line)) report) (sym (text_of_line (line_text line) this))
