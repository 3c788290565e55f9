-- The Signaling messages of a grandmaster: the reply to one that it heard, and the CANCEL of a grant that it shed (IEEE
-- 1588-2019 clause 16.1; the sequenceIds are the project's own choice).
use Rattle.std.specs.Prelude.{ℕ, ◌+◌, ◌%◌, true, false, List, [], ◌∷◌, pos}
use Rattle.ptu_units.specs.{declared.kind.Kind.{Kind}, Kind.{code_of}}
use Rattle.ptu_messages.specs.declared.header.{Header.{Header}, PortIdentity.{PortIdentity}}
use Rattle.ptu_messages.specs.declared.tlv.{Ask.{Ask}, Tlv.{Tlv}, Tlv.TheVariants.{Grant, Cancel}}
use Rattle.ptu_messages.specs.{declared.message.Message.{Message}, Sent.{octets_sent, signaling}}
use Rattle.ptu_outside.specs.{declared.channel.Channel.TheVariants.{General}, Departure.{Departure}}
use Rattle.ptu_units.specs.declared.client.Client.{Client}
use Rattle.ptu_history.specs.Live as live
use Rattle.ptu_profile.specs.{declared.grandmaster.GmConfig.{GmConfig}, Grandmaster.{header_of}}

-- a grant of this duration, in seconds, of what was asked for: R is set
abbrev pub grant_of : Ask → ℕ → Tlv
grant_of ask seconds = Grant (record { code = ask.code; log = ask.log; seconds = seconds }) true

-- a denial of it: a GRANT of the duration 0, with R clear
abbrev pub denial_of : Ask → Tlv
denial_of ask = Grant (record { code = ask.code; log = ask.log; seconds = 0 }) false

-- a Signaling of the grandmaster to this port, with these TLVs
abbrev pub signaling_of : GmConfig → PortIdentity → ℕ → List Tlv → Message
signaling_of config target sequence tlvs = signaling (header_of config 12 (pos 0) sequence) target tlvs

-- the datagram of it, to this address on the general channel
abbrev pub signaling_to : GmConfig → ℕ → PortIdentity → ℕ → List Tlv → Departure
signaling_to config ip target sequence tlvs =
    record { ip = ip; channel = General; bytes = octets_sent (signaling_of config target sequence tlvs) }

-- the reply to a Signaling with this header, which came from the address: it goes back there, for the port that sent it,
-- with its sequenceId
abbrev pub reply_to : GmConfig → ℕ → Header → List Tlv → Departure
reply_to config from header answers = signaling_to config from header.source header.sequence answers

-- the port identity of a client
abbrev pub identity_of : Client → PortIdentity
identity_of c = record { clock = c.clock; port = c.port }

-- the CANCEL to a client whose grant of the kind was shed
abbrev pub cancel_to : GmConfig → Client → Kind → ℕ → Departure
cancel_to config c k sequence = signaling_to config c.ip (identity_of c) sequence (Cancel (code_of k) ∷ [])

-- the client and kind of a grant
abbrev pub lease_of : live.Grant → Client × Kind
lease_of g = (g.client, g.kind)

-- the CANCELs to these clients, each for its kind, in order; so many were sent before
abbrev pub cancels_to : GmConfig → ℕ → List (Client × Kind) → List Departure
cancels_to config before [] = []
cancels_to config before (lease ∷ leases) =
    cancel_to config lease.0 lease.1 (before % 65536) ∷ cancels_to config (before + 1) leases
