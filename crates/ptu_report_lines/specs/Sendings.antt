-- The datagrams that the nodes of a script sent, by what is kept of each beside its octets.
use Rattle.std.specs.Prelude.{ℕ, List, [], ◌∷◌}
use Rattle.ptu_report_lines.specs.declared.{sent.Sent.{Sent}, sent_list.Head.{Head}}

-- the datagram with these octets
abbrev pub sent_of : Head → List ℕ → Sent
sent_of head octets = record { from = head.from; to = head.to; channel = head.channel; octets = octets }

-- the datagrams, in order
abbrev pub sent_in : List Head → List (List ℕ) → List Sent
sent_in (head ∷ heads) (octets ∷ rest) = sent_of head octets ∷ sent_in heads rest
sent_in [] rest = []
sent_in heads [] = []
