use Rattle.std.proofs.Common.{rules, ◌≡◌, ◌+◌, ◌≤◌, ◌++◌, None, length, take, ap, sym, refl, ◌∙◌, arith}
use Rattle.std.specs.List.{position}
use Rattle.std.proofs.lemmas.{List.{take_at, take_all, length-append}, Result.{err_from_is_err_and}}
use Rattle.ptu_lines.specs.Script.{is_end}
use Rattle.ptu_lines.proofs.HasRead.{told-more, waiting-more}
use Rattle.ptu_lines.proofs.line_reader.find_end.Goals as goal

pub loop-place-preserved : goal.loop-place-preserved
loop-place-preserved g c =
    let before = c.loop-place.invariant.read in
    let waiting = c.loop-place.buffer.waiting in
    let now = c.fill.new.self.waiting in
    let fill = c.in_ok-fill.ensures in
    let read = fill.read in
    let searched : c.waiting-searched.result.now ≡ waiting = c.waiting-searched.ensures in
    let size : length now ≡ length waiting + length read.0 = ap length read.2 ∙ length-append waiting read.0 in
    let short : length waiting ≤ 8193 = omega (arith, ap length searched) in
    let none : position is_end (take 8193 waiting) ≡ None = search rules in
    let front : take (length waiting) now ≡ take 8193 waiting =
    ap (take (length waiting)) read.2 ∙ (take_at waiting read.0 (length waiting) refl ∙ sym (take_all 8193 waiting short)) in
    record {
      read = record {
        octets = before.octets ++ read.0;
        waiting = waiting-more _ _ _ before.octets read.0 before.waiting read.2;
        told = told-more _ _ _ before.octets read.0 before.told read.3;
        in_step = fill.in_step;
        stays = λ h. fill.stays (before.stays h);
        ends_so = λ h. fill.ends (before.ends_so h);
        still = fill.still ∙ before.still;
      };
      within = omega (arith, size, read.1, fill.within, ap length searched);
      searched = omega (arith, ap length searched, size);
      short = rw searched short;
      none = rw (searched, front) none;
    }

pub returns-in_err-fill-clause-unended : goal.returns-in_err-fill-clause-unended
returns-in_err-fill-clause-unended g c =
    let waiting = c.loop-place.buffer.waiting in
    let searched : c.waiting-searched.result.now ≡ waiting = c.waiting-searched.ensures in
    let short : length waiting ≤ 8193 = omega (arith, ap length searched) in
    let none : position is_end (take 8193 waiting) ≡ None = search rules in
    let p = err_from_is_err_and c.from_residual.result c.from_residual.ensures.1 in
    rw p.1 (ap (position is_end) (c.in_err-fill.ensures.kept ∙ sym (take_all 8193 waiting short)) ∙ none)
