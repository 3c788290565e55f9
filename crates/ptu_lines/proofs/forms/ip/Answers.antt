use Rattle.std.proofs.Common.{rules, ◌≡◌, ◌∙◌, Some, None, sym, ap}
use Rattle.ptu_lines.specs.Words.{bytes_of, first_of_several, ip_of, number_within}
use Rattle.ptu_lines.proofs.Addresses.{four_numbers, last_of}
use Rattle.ptu_lines.proofs.forms.ip.Goals as goal

pub returns : goal.returns
returns c =
    let first : first_of_several (bytes_of c.args.word.now) ≡ Some (c.in_ok-a.a, bytes_of c.in_ok-a.rest.now) = search rules in
    let second : first_of_several (bytes_of c.in_ok-a.rest.now) ≡ Some (c.in_ok-b.b, bytes_of c.in_ok-b.rest.now) = search rules in
    let third : first_of_several (bytes_of c.in_ok-b.rest.now) ≡ Some (c.in_ok-c.c, bytes_of c.in_ok-c.rest.now) = search rules in
    let fourth : number_within c.in_ok-c.rest.now 0 255 ≡ Some c.in_ok-d.d = sym c.in_ok-d.ensures.value in
    sym (four_numbers c.args.word.now c.in_ok-a.rest.now c.in_ok-b.rest.now c.in_ok-c.rest.now c.in_ok-a.a c.in_ok-b.b c.in_ok-c.c first second third ∙ ap (last_of c.in_ok-a.a c.in_ok-b.b c.in_ok-c.c) fourth)

pub returns-in_err-d : goal.returns-in_err-d
returns-in_err-d c =
    let first : first_of_several (bytes_of c.args.word.now) ≡ Some (c.in_ok-a.a, bytes_of c.in_ok-a.rest.now) = search rules in
    let second : first_of_several (bytes_of c.in_ok-a.rest.now) ≡ Some (c.in_ok-b.b, bytes_of c.in_ok-b.rest.now) = search rules in
    let third : first_of_several (bytes_of c.in_ok-b.rest.now) ≡ Some (c.in_ok-c.c, bytes_of c.in_ok-c.rest.now) = search rules in
    let fourth : number_within c.in_ok-c.rest.now 0 255 ≡ None = sym c.in_err-d.ensures.value in
    let none : ip_of c.args.word.now ≡ None = four_numbers c.args.word.now c.in_ok-a.rest.now c.in_ok-b.rest.now c.in_ok-c.rest.now c.in_ok-a.a c.in_ok-b.b c.in_ok-c.c first second third ∙ ap (last_of c.in_ok-a.a c.in_ok-b.b c.in_ok-c.c) fourth in
    search rules
