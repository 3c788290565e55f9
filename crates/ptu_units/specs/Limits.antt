-- The limits of each setting (the project's own choice): the least and the greatest, and what is within them.
use Rattle.std.specs.Prelude.{ℕ, ◌-◌, ◌≤◌, ◌^◌}

-- the portNumber of a port identity
abbrev pub least_port : ℕ
least_port = 1

abbrev pub greatest_port : ℕ
greatest_port = 65534

abbrev pub IsPort : ℕ → Type 0
IsPort port = (least_port ≤ port) × (port ≤ greatest_port)

-- a domainNumber
abbrev pub least_domain : ℕ
least_domain = 4

abbrev pub greatest_domain : ℕ
greatest_domain = 23

abbrev pub IsDomain : ℕ → Type 0
IsDomain domain = (least_domain ≤ domain) × (domain ≤ greatest_domain)

-- a capacity, in sixteenths of a message per second
abbrev pub least_capacity : ℕ
least_capacity = 1

abbrev pub greatest_capacity : ℕ
greatest_capacity = 16777216

abbrev pub IsCapacity : ℕ → Type 0
IsCapacity capacity = (least_capacity ≤ capacity) × (capacity ≤ greatest_capacity)

-- a duration that is granted or requested, in seconds
abbrev pub least_duration : ℕ
least_duration = 60

abbrev pub greatest_duration : ℕ
greatest_duration = 1000

abbrev pub IsDuration : ℕ → Type 0
IsDuration seconds = (least_duration ≤ seconds) × (seconds ≤ greatest_duration)

-- a receipt timeout, in periods
abbrev pub least_timeout : ℕ
least_timeout = 2

abbrev pub greatest_timeout : ℕ
greatest_timeout = 10

abbrev pub IsTimeout : ℕ → Type 0
IsTimeout periods = (least_timeout ≤ periods) × (periods ≤ greatest_timeout)

-- a wait to restore, in seconds
abbrev pub greatest_wait : ℕ
greatest_wait = 720

abbrev pub IsWait : ℕ → Type 0
IsWait seconds = seconds ≤ greatest_wait

-- a number of lanes that turn tables
abbrev pub greatest_senders : ℕ
greatest_senders = 4

abbrev pub IsSenders : ℕ → Type 0
IsSenders lanes = lanes ≤ greatest_senders

-- a UDP port number that a node may be opened at
abbrev pub least_udp_port : ℕ
least_udp_port = 1

abbrev pub greatest_udp_port : ℕ
greatest_udp_port = 65535

abbrev pub IsUdpPort : ℕ → Type 0
IsUdpPort number = (least_udp_port ≤ number) × (number ≤ greatest_udp_port)

-- the seconds of a timescale at moment zero
abbrev pub greatest_epoch : ℕ
greatest_epoch = 2 ^ 47 - 1

abbrev pub IsEpoch : ℕ → Type 0
IsEpoch seconds = seconds ≤ greatest_epoch
