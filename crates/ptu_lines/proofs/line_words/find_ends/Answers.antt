use Rattle.std.proofs.Common.{◌≡◌, ◌-◌, ℕ, List, length, take, drop, sym, arith}
use Rattle.std.proofs.lemmas.List.{take_all, length-drop}
use Rattle.ptu_lines.proofs.Separators.{cut_placed, none_placed}
use Rattle.ptu_lines.proofs.WordCutting.{is_space, cut_all, cut_more}
use Rattle.ptu_lines.proofs.line_words.find_ends.Goals as goal

pub loop-size-preserved : goal.loop-size-preserved
loop-size-preserved c =
    let line : List ℕ = c.args.line.now in
    let from : ℕ = c.loop-size.from in
    let whole : take (length line - from) (drop from line) ≡ drop from line = take_all (length line - from) (drop from line) (omega (arith, length-drop from line)) in
    let found = rw whole at c.in-Some.ensures in
    cut_more line c.loop-size.ends c.keep_end.new.ends c.loop-size.count from c.in-Some.size c.loop-size.invariant (cut_placed is_space (drop from line) c.in-Some.size (sym found)) c.keep_end.ensures.kept c.keep_end.ensures.before

pub returns : goal.returns
returns c =
    let line : List ℕ = c.args.line.now in
    let from : ℕ = c.loop-size.from in
    let whole : take (length line - from) (drop from line) ≡ drop from line = take_all (length line - from) (drop from line) (omega (arith, length-drop from line)) in
    let found = rw whole at c.in_default.ensures in
    cut_all line c.loop-size.ends c.keep_end-2.new.ends c.loop-size.count from c.loop-size.invariant (none_placed is_space (drop from line) (sym found)) c.keep_end-2.ensures.kept c.keep_end-2.ensures.before
