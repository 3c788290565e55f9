use Rattle.std.proofs.Common.{◌≡◌, ◌-◌, ◌∷◌, [], ◌∙◌, ℕ, List, length, take, drop, get_or, Some, sym, ap, arith}
use Rattle.std.specs.Prelude.{option_map}
use Rattle.std.proofs.lemmas.List.{take_all, length-drop}
use Rattle.ptu_lines.specs.Words.{bytes_of, number_within}
use Rattle.ptu_lines.proofs.Addresses.{fourth_dot, uncut}
use Rattle.ptu_lines.proofs.forms.byte_before_dot.Goals as goal
use Rattle.ptu_lines.proofs.forms.byte_before_dot.Goals.{in_default-via-then-word-lt2, in_default-via-else-word-lt2+then-word-lt3+in_default-1, in_default-via-else-word-lt2+else-word-lt3+then-word-lt4+in_default+in_default-word-3, in_default-via-else-word-lt2+else-word-lt3+else-word-lt4+in_default+in_default-word-5+in_default-word-6}

pub returns-in_ok-three_digits-in-46-3-clause-value : goal.returns-in_ok-three_digits-in-46-3-clause-value
returns-in_ok-three_digits-in-46-3-clause-value c =
    let word : List ℕ = c.args.word.now in
    let rest : take (length word - 4) (drop 4 word) ≡ drop 4 word = take_all (length word - 4) (drop 4 word) (omega (arith, length-drop 4 word)) in
    let dot : get_or word 3 0 ≡ 46 = omega arith in
    let second : ¬ (get_or word 1 0 ≡ 46) = λ e. omega (arith, e) in
    let third : ¬ (get_or word 2 0 ≡ 46) = λ e. omega (arith, e) in
    let value : number_within (get_or word 0 0 ∷ get_or word 1 0 ∷ get_or word 2 0 ∷ []) 0 255 ≡ Some c.in_ok-three_digits-in-46-3.field-0 = sym c.in_ok-three_digits-in-46-3.ensures.value in
    rw rest (sym (fourth_dot word c.in-46-3.len_at_least dot second third ∙ ap (option_map (λ byte. (byte, bytes_of (drop 4 word)))) value))

pub returns-in_default-clause-value : goal.returns-in_default-clause-value
returns-in_default-clause-value c = sym (elim c.in_default.branch [
  | in_default-via-then-word-lt2 w ↦ uncut c.args.word.now (λ lt e. grind (arith, lt)) (λ lt e. grind (arith, lt)) (λ lt e. grind (arith, lt))
  | in_default-via-else-word-lt2+then-word-lt3+in_default-1 w ↦ uncut c.args.word.now (λ lt e. grind (arith, lt, e)) (λ lt e. grind (arith, lt)) (λ lt e. grind (arith, lt))
  | in_default-via-else-word-lt2+else-word-lt3+then-word-lt4+in_default+in_default-word-3 w ↦ uncut c.args.word.now (λ lt e. grind (arith, lt, e)) (λ lt e. grind (arith, lt, e)) (λ lt e. grind (arith, lt))
  | in_default-via-else-word-lt2+else-word-lt3+else-word-lt4+in_default+in_default-word-5+in_default-word-6 w ↦ uncut c.args.word.now (λ lt e. grind (arith, lt, e)) (λ lt e. grind (arith, lt, e)) (λ lt e. grind (arith, lt, e))
])
