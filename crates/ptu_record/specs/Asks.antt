-- When a slave asks a master for a kind (IEEE 1588-2019 clause 16.1; the pauses and the renewal at half of the duration are this project's own choice). Each record here is the record of one master.
use Rattle.std.specs.Prelude.{ℕ, ◌+◌, ◌*◌, ◌%◌, Bool, false, cond, List, [], ◌∷◌, length, filter, filter_map, flat_map, Option, Some, None, option_map, option_to_list, ◌==◌, nat_le}
use Rattle.ptu_units.specs.{declared.kind.Kind.{Kind}, Time.{second}}
use Rattle.ptu_record.specs.{declared.wants.Wants.{Wants}, Lists.{last, maximum, since_last}}
use Rattle.ptu_record.specs.Record.{Entry, Record, Asked, Granted, Denied, Cancelled}
use Rattle.ptu_record.specs.{Wants.{is_kind, wanted_kinds}, Grants.{grant, is_live}}

abbrev pub ask_moment : Kind → Entry → Option ℕ
ask_moment k (Asked at master kind) = cond (is_kind k kind) (Some at) None
ask_moment k e = None

-- a grant, a denial or a CANCEL answers the asks before it
abbrev pub is_answer : Kind → Entry → Bool
is_answer k (Granted at master kind seconds) = is_kind k kind
is_answer k (Denied at master kind) = is_kind k kind
is_answer k (Cancelled at master kind) = is_kind k kind
is_answer k e = false

-- the moment of a denial or a CANCEL
abbrev pub refusal_moment : Kind → Entry → Option ℕ
refusal_moment k (Denied at master kind) = cond (is_kind k kind) (Some at) None
refusal_moment k (Cancelled at master kind) = cond (is_kind k kind) (Some at) None
refusal_moment k e = None

-- the moments of the asks since the last answer
abbrev pub open_asks : Kind → Record → List ℕ
open_asks k L = filter_map (ask_moment k) (since_last (is_answer k) L)

abbrev pub refusals : Kind → Record → List ℕ
refusals k L = filter_map (refusal_moment k) L

-- how long after the last of so many asks without an answer the next one waits, in nanoseconds: a second, and a minute after each third
abbrev pub pause : ℕ → ℕ
pause count = cond (count % 3 == 0) (60 * second) second

-- the pause after the last ask without an answer
abbrev pub ask_gate : Kind → Record → Option ℕ
ask_gate k L = option_map (λ at. at + pause (length (open_asks k L))) (last (open_asks k L))

-- a minute after the last denial or CANCEL
abbrev pub refusal_gate : Kind → Record → Option ℕ
refusal_gate k L = option_map (λ at. at + 60 * second) (last (refusals k L))

-- half of the duration of the live grant
abbrev pub renewal_gate : Kind → Record → ℕ → Option ℕ
renewal_gate k L t = cond (is_live k L t) (option_map (λ g. g.0 + g.1 * 500000000) (grant k L)) None

-- what the next ask waits for, as far as it exists
abbrev pub gates : Kind → Record → ℕ → List ℕ
gates k L t = flat_map option_to_list (ask_gate k L ∷ refusal_gate k L ∷ renewal_gate k L t ∷ [])

-- the greatest of them, and 0 where there is none, so that an ask is due at once
abbrev pub gate : Kind → Record → ℕ → ℕ
gate k L t = maximum (gates k L t)

-- an ask is due exactly at and past the gate
abbrev pub is_due : Kind → Record → ℕ → Bool
is_due k L t = nat_le (gate k L t) t

-- the kinds for which a tick asks the master, in the order of kinds
abbrev pub due_kinds : Wants → Record → ℕ → List Kind
due_kinds wants L t = filter (λ k. is_due k L t) (wanted_kinds wants)
