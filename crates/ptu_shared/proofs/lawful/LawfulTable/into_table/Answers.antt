use Rattle.std.proofs.Common.{◌≡◌, subst, sym}
use Rattle.std.specs.Prelude.{IfSome, option_map}
use Rattle.ptu_shared.proofs.lawful.LawfulTable.into_table.Goals as goal

pub returns : goal.returns
returns g c =
    let has = c.self.invariant.0 in
    (has.lawful, has.counted, subst (λ x. IfSome (option_map (λ b. b.total) c.args.book.now) (λ n. x ≡ n)) (sym has.turns) c.audit_turns.ensures)
