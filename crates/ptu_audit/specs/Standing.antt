-- What an auditor stands for.
use Rattle.std.specs.Prelude.{◌≡◌, ℕ, List, [], ◌∷◌, ◌++◌, Option, Some, None, IfNone, false}
use Rattle.std.specs.{BTreeMap.{get}, Ordering.{nat_cmp}}
use Rattle.ptu_history.specs.History.{Record}
use Rattle.ptu_trail.specs.{declared.trail.Trail.{Trail}, Trail.{StandsFor as IsTrail}}
use Rattle.ptu_audit.specs.declared.{auditor.Auditor.{Auditor}, deed.Act.{Act}}
use Rattle.ptu_audit.specs.declared.{ledger.Ledger.{Ledger}, line.Line.{Line}}
use Rattle.ptu_audit.specs.{Groups.{groups_of}, Reading.{Reading, last_script}}
use Rattle.ptu_units.specs.Counts.{counted}
use Rattle.ptu_audit.specs.Trails.{acts_in, groups_finding, grant_acts_in, message_acts_in, trail_of}

-- the trail stands for these records, or there is none and no record
abbrev pub IsTrailKept : ℕ → Option Trail → List Record → Type 0
IsTrailKept capacity None history = history ≡ []
IsTrailKept capacity (Some trail) history = IsTrail capacity trail history

-- each grandmaster's trail is kept, after these acts, and the grants and messages are counted, as far as a count goes
pub record AreKept (ledger : Ledger) (acts : List Act) : Type 0 where
  pub trails : (grandmaster : ℕ) → IsTrailKept ledger.capacity (get nat_cmp ledger.trails grandmaster) (trail_of grandmaster acts)
  pub granted : ledger.granted ≡ counted (grant_acts_in acts)
  pub sent : ledger.sent ≡ counted (message_acts_in acts)

-- a group, where it has a line
abbrev pub one_group : List Line → List (List Line)
one_group [] = []
one_group (line ∷ rest) = (line ∷ rest) ∷ []

-- the auditor has judged all groups
pub record HasClosed (auditor : Auditor) (r : Reading) : Type 0 where
  pub found : auditor.found ≡ groups_finding r.capacity [] (groups_of r.lines)
  pub kept : IfNone auditor.found (AreKept auditor.ledger (acts_in (groups_of r.lines)))
  pub capacity : auditor.ledger.capacity ≡ r.capacity
  pub last : auditor.last ≡ last_script r.lines
  pub ended : auditor.ended ≡ r.ended

-- without a line in the last group there is no group at all
abbrev pub IsBegun : List (List Line) → List Line → Type 0
IsBegun judged [] = judged ≡ []
IsBegun judged (line ∷ rest) = Unit {0}

-- the auditor has judged the groups but the last one, whose lines it keeps
pub record StandsFor (auditor : Auditor) (r : Reading) : Type 0 where
  pub judged : List (List Line)
  pub groups : groups_of r.lines ≡ judged ++ one_group auditor.group.items
  pub begun : r.ended ≡ false → IsBegun judged auditor.group.items
  pub found : auditor.found ≡ groups_finding r.capacity [] judged
  pub kept : IfNone auditor.found (AreKept auditor.ledger (acts_in judged))
  pub capacity : auditor.ledger.capacity ≡ r.capacity
  pub last : auditor.last ≡ last_script r.lines
  pub ended : auditor.ended ≡ r.ended

-- the line was put into the last group
pub record HasAdded (line : Line) (old new : Auditor) : Type 0 where
  pub group : new.group.items ≡ old.group.items ++ line ∷ []
  pub last : new.last ≡ line.script
  pub found : new.found ≡ old.found
  pub ledger : new.ledger ≡ old.ledger
  pub ended : new.ended ≡ old.ended
