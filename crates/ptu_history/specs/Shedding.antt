-- What a change of capacity sheds (the project's own choice).
use Rattle.std.specs.Prelude.{ℕ, List, [], ◌∷◌, nat_le, if◌then◌else◌}
use Rattle.std.specs.{Ordering.{nat_cmp, ordering_then}, declared.cmp.Ordering.{Ordering}}
use Rattle.ptu_units.specs.Client.{client_cmp, kind_cmp}
use Rattle.ptu_history.specs.Order.{in_order}
use Rattle.ptu_history.specs.{History.{Record, Shed}, Live.{Grant, live_grants}, Verdict.{rate_sum}}

-- the record of the grant's shedding
abbrev pub shed_record : ℕ → Grant → Record
shed_record x g = Shed x g.client g.kind

-- by the moment at which a grant was made, the greatest first, then by greatest client, then by
-- latest kind
abbrev pub shed_cmp : Grant → Grant → Ordering
shed_cmp a b =
    ordering_then (nat_cmp b.start a.start)
    (ordering_then (client_cmp b.client a.client) (kind_cmp b.kind a.kind))

-- the shortest prefix without which the rates of the rest sum to at most the capacity
abbrev pub shed_prefix : ℕ → List Grant → List Grant
shed_prefix capacity [] = []
shed_prefix capacity (g ∷ grants) =
    if nat_le (rate_sum (g ∷ grants)) capacity then [] else g ∷ shed_prefix capacity grants

-- the grants that are live at the moment, in the order of shedding
unfoldable pub shed_order : List Record → ℕ → List Grant
shed_order history x = in_order shed_cmp (live_grants history x)

-- the grants that a change to the capacity sheds at the moment, in order
unfoldable pub shed_grants : List Record → ℕ → ℕ → List Grant
shed_grants history x capacity = shed_prefix capacity (shed_order history x)
