use Rattle.std.proofs.Common.{[], nat_cmp, refl, sym, subst}
use Rattle.std.specs.{BTreeMap.{is_at}, Map.{lookup}}
use Rattle.ptu_audit.specs.{Standing.{IsTrailKept}, Trails.{trail_of}}
use Rattle.ptu_audit.proofs.Ledgers.{no_trail}
use Rattle.ptu_audit.proofs.ledger.Ledger.new.Goals as goal

pub returns-clause-kept : goal.returns-clause-kept
returns-clause-kept c = record {
  trails = λ g. subst (λ entries. IsTrailKept c.args.capacity (lookup (is_at (nat_cmp g)) entries) (trail_of g [])) (sym c.new.ensures.empty) (no_trail g);
  granted = refl;
  sent = refl;
}
