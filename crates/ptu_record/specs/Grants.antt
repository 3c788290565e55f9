-- Which grant a slave has of a kind (IEEE 1588-2019 clause 16.1). Each record here is the record of one master.
use Rattle.std.specs.Prelude.{ℕ, ◌+◌, ◌*◌, Bool, false, cond, List, ◌∷◌, filter, filter_map, zip, Option, Some, None, unwrap_or, nat_lt}
use Rattle.ptu_units.specs.{declared.kind.Kind.{Kind}, Kind.{kinds}, Time.{second}}
use Rattle.ptu_record.specs.{Lists.{last}, Record.{Entry, Record, Granted, Cancelled, Stopped}}
use Rattle.ptu_record.specs.Wants.{is_kind}

-- what an entry does to the grant of a kind: it is given at a moment for some seconds, or it ends
abbrev pub grant_change : Kind → Entry → Option (Option (ℕ × ℕ))
grant_change k (Granted at master kind seconds) = cond (is_kind k kind) (Some (Some (at, seconds))) None
grant_change k (Cancelled at master kind) = cond (is_kind k kind) (Some None) None
grant_change k (Stopped at) = Some None
grant_change k e = None

abbrev pub grant_changes : Kind → Record → List (Option (ℕ × ℕ))
grant_changes k L = filter_map (grant_change k) L

-- a grant is live for its seconds from its moment on
abbrev pub is_live_at : Option (ℕ × ℕ) → ℕ → Bool
is_live_at None t = false
is_live_at (Some g) t = nat_lt t (g.0 + g.1 * second)

-- the last grant that no CANCEL and no stop ended, with its seconds
abbrev pub grant : Kind → Record → Option (ℕ × ℕ)
grant k L = unwrap_or (last (grant_changes k L)) None

abbrev pub is_live : Kind → Record → ℕ → Bool
is_live k L t = is_live_at (grant k L) t

-- the moment of a grant before which no grant was live
abbrev pub fresh_start : Option (ℕ × ℕ) × Option (ℕ × ℕ) → Option ℕ
fresh_start p = elim p.1 as (λ _. Option ℕ) [ None ↦ None | Some g ↦ cond (is_live_at p.0 g.0) None (Some g.0) ]

-- the moment of the earliest grant of the run in which each grant found the one before it live
abbrev pub run_start : Kind → Record → Option ℕ
run_start k L = last (filter_map fresh_start (zip (None ∷ grant_changes k L) (grant_changes k L)))

-- the kinds whose grants are live at t, in the order of kinds
abbrev pub live_kinds : Record → ℕ → List Kind
live_kinds L t = filter (λ k. is_live k L t) kinds
