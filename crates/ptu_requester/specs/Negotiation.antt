-- What is kept of one kind at one master.
use Rattle.std.specs.Prelude.{◌≡◌, ℕ, [], ◌∷◌, ◌++◌, option_map}
use Rattle.ptu_units.specs.declared.kind.Kind.{Kind}
use Rattle.ptu_record.specs.Record.{Entry, Record, Asked, Granted, Denied, Cancelled}
use Rattle.ptu_record.specs.{Grants.{run_start}, Kept.{KindState, kind_state}}
use Rattle.ptu_requester.specs.declared.negotiation.Change.{Change}
use Rattle.ptu_requester.specs.declared.negotiation.Change.TheVariants.{Ask, Grant, Denial, Cancel}
use Rattle.ptu_requester.specs.declared.negotiation.{Term.{Term}, Negotiation.{Negotiation}}

-- the entry of a change
abbrev pub entry_of : Change → (at master : ℕ) → Kind → Entry
entry_of Ask at master k = Asked at master k
entry_of (Grant seconds) at master k = Granted at master k seconds
entry_of Denial at master k = Denied at master k
entry_of Cancel at master k = Cancelled at master k

-- a grant's moment and its seconds
abbrev pub term_of : Term → ℕ × ℕ
term_of term = (term.at, term.seconds)

-- what a negotiation shows
abbrev pub state_of : Negotiation → KindState
state_of n = record {
  unanswered = n.unanswered;
  asked = n.asked;
  refused = n.refused;
  granted = option_map term_of n.granted;
}

-- what is kept of a kind is what the record of the master comes to
pub record IsKept (k : Kind) (L : Record) (n : Negotiation) : Type 0 where
  pub state : state_of n ≡ kind_state k L
  pub run_start : n.run_start ≡ run_start k L

-- whatever record this was kept of, it has come to be kept of it with this entry of the kind, whichever master it is
abbrev pub Enters : ((master : ℕ) → Kind → Entry) → (old new : Negotiation) → Type 0
Enters entry old new = (k : Kind) (L : Record) (m : ℕ) → IsKept k L old → IsKept k (L ++ entry m k ∷ []) new
