use Rattle.std.proofs.Common.{◌≡◌, ℕ, List, [], refl, ltb}
use Rattle.std.specs.List.{filter}
use Rattle.ptu_units.specs.declared.{client.Client.{Client}, kind.Kind.{Kind}}
use Rattle.ptu_history.specs.History.{Record}
use Rattle.ptu_history.specs.{Live.{live_grants, standing, without}, Verdict.{others, rate_sum}}
use Rattle.ptu_history.proofs.Currents.{live-standing, standing-ended, standing-granted, standing-shed, standing-undecided}
use Rattle.ptu_history.proofs.Standing.{standing-distinct, standing-last, standing-member}
use Rattle.ptu_history.proofs.laws.standing_grants.Goals as goal

nothing : standing [] ≡ []
unfolding standing
nothing = refl

live_grants_are : (history : List Record) (x : ℕ) → live_grants history x ≡ filter (λ g. ltb x g.until) (standing history)
unfolding live_grants
live_grants_are history x = refl

others_are : (history : List Record) (n : ℕ) (c : Client) (k : Kind) → others history n c k ≡ rate_sum (without c k (filter (λ g. ltb n g.until) (standing history)))
unfolding others live_grants
others_are history n c k = refl

pub returns : goal.returns
returns _ = record {
  none = nothing;
  granted = standing-granted;
  ended = standing-ended;
  shed = standing-shed;
  undecided = standing-undecided;
  live = λ history x c k. live-standing x c k history;
  live_grants = live_grants_are;
  others = others_are;
  last = standing-last;
  member = λ history n c k l u e. standing-member n c k l u history e;
  distinct = standing-distinct;
}
