-- The kinds of message that are granted, and their messageType (IEEE 1588-2019 table 36).
use Rattle.std.specs.Prelude.{ℕ, List, [], ◌∷◌, Option, ◌==◌, find}
use Rattle.ptu_units.specs.declared.kind.{Kind.{Kind}, Kind.TheVariants.{Announce, Sync, DelayResp}}

-- the messageType of a kind
abbrev pub code_of : Kind → ℕ
code_of Announce = 11
code_of Sync = 0
code_of DelayResp = 9

-- all kinds, in their order
abbrev pub kinds : List Kind
kinds = Announce ∷ Sync ∷ DelayResp ∷ []

-- the kind that has this messageType, if one has
abbrev pub kind_of : ℕ → Option Kind
kind_of code = find (λ kind. code_of kind == code) kinds
