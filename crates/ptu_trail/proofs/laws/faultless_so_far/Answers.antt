use Rattle.std.proofs.Common.{◌∷◌, map, refl}
use Rattle.ptu_history.specs.History.{Capacity}
use Rattle.ptu_trail.specs.Faults.{record_of}
use Rattle.ptu_trail.proofs.Faultless.{faultless-more, faultless-none, faultless-one_more, none-from}
use Rattle.ptu_trail.proofs.laws.faultless_so_far.Goals as goal

pub returns : goal.returns
returns _ = record {
  none = faultless-none;
  one_more = faultless-one_more;
  change = λ opening trail x capacity shed f none. faultless-more opening trail (Capacity x capacity ∷ map (record_of x) shed) f refl none;
  first = none-from;
}
