-- Two clients, some asks, and short lists of events, on which the definitions compute.
use Rattle.std.specs.Prelude.{ℕ, ◌*◌, List, [], ◌∷◌, ◌++◌, ℤ, pos, negsuc}
use Rattle.ptu_units.specs.declared.kind.{Kind.{Kind}, Kind.TheVariants.{Announce, Sync, DelayResp}}
use Rattle.ptu_units.specs.{declared.client.Client.{Client}, Kind.{code_of}, Time.{second}}
use Rattle.ptu_history.specs.{Verdict.{Config, Ask, GrantedFor, ShortOf}, Held.{Payment}}
use Rattle.ptu_history.specs.Events.{Event, Request, Cancel, Turn, DelayReq, Resize, Outcome, Decided, Turned}

-- 10.0.1.17 with port 1 of 0a00000000000011, of table 2
abbrev pub first_client : Client
first_client = record { ip = 0x0a000111; clock = 0x0a00000000000011; port = 1 }

-- 10.0.1.18 with port 1 of 0a00000000000012, of table 3
abbrev pub second_client : Client
second_client = record { ip = 0x0a000112; clock = 0x0a00000000000012; port = 1 }

-- 10.0.1.21 with port 1 of 0a00000000000015, of table 2
abbrev pub third_client : Client
third_client = record { ip = 0x0a000115; clock = 0x0a00000000000015; port = 1 }

-- so many seconds in nanoseconds
abbrev pub seconds : ℕ → ℕ
seconds n = n * second

-- this capacity, and this longest duration in seconds
abbrev pub config_of : ℕ → ℕ → Config
config_of capacity max_duration = record { max_duration = max_duration; capacity = capacity }

-- an ask of a kind for 300 s
abbrev pub ask_of : Kind → ℤ → Ask
ask_of k l = record { code = code_of k; log = l; seconds = 300 }

-- the outcome of an ask that is granted
abbrev pub granted : Kind → ℤ → ℕ → ℕ → Outcome
granted k l duration until = Decided (GrantedFor k l duration until)

-- the outcome of an ask that does not fit
abbrev pub short : Kind → ℤ → ℕ → ℕ → ℕ → Outcome
short k l others rate capacity = Decided (ShortOf k l others rate capacity)

-- the outcome of a turn that sends the first client one message
abbrev pub turned_one : Kind → ℕ → Outcome
turned_one k sequence =
    Turned (record { client = first_client; kind = k; sequence = sequence } ∷ [])

-- what a Sync to the first client that is sent at a moment pays with, from one moment to another
abbrev pub sync_payment : ℕ → ℕ → ℕ → Payment
sync_payment x start end =
    record { at = x; client = first_client; kind = Sync; start = start; end = end }

-- the outcome of a turn that sends nothing
abbrev pub turned_none : Outcome
turned_none = Turned []

-- a full table: the first client asks twice, then the second
abbrev pub repeat_in_full_table : List (ℕ × Event)
repeat_in_full_table =
    (0, Request first_client (ask_of Announce (pos 1)))
    ∷ (seconds 5, Request first_client (ask_of Announce (pos 1)))
    ∷ (seconds 5, Request second_client (ask_of Announce (pos 4)))
    ∷ []

-- a renewal that does not fit beside the other's grant, and then a turn
abbrev pub refused_renewal : List (ℕ × Event)
refused_renewal =
    (0, Request first_client (ask_of Announce (pos 1)))
    ∷ (0, Request second_client (ask_of Announce (pos 1)))
    ∷ (seconds 10, Request first_client (ask_of Announce (pos 0)))
    ∷ (seconds 10, Turn 2)
    ∷ []

-- an ask at the very moment at which the grant is over
abbrev pub ask_at_expiry : List (ℕ × Event)
ask_at_expiry =
    (0, Request first_client (ask_of Announce (pos 1)))
    ∷ (seconds 60, Request first_client (ask_of Announce (pos 1)))
    ∷ (61999999999, Turn 2)
    ∷ (seconds 62, Turn 2)
    ∷ []

-- turns round the first moment of a Sync, and late ones
abbrev pub late_turns : List (ℕ × Event)
late_turns =
    (0, Request first_client (ask_of Sync (pos 0)))
    ∷ (999999999, Turn 2)
    ∷ (seconds 1, Turn 2)
    ∷ (seconds 11, Turn 2)
    ∷ (11999999999, Turn 2)
    ∷ (seconds 12, Turn 2)
    ∷ []

-- three Delay_Reqs after ten periods
abbrev pub credit_of_two : List (ℕ × Event)
credit_of_two =
    (0, Request first_client (ask_of DelayResp (pos 0)))
    ∷ (seconds 10, DelayReq first_client)
    ∷ (10999999999, DelayReq first_client)
    ∷ (10999999999, DelayReq first_client)
    ∷ []

-- two cancels of one grant, and a turn after them
abbrev pub cancelled_twice : List (ℕ × Event)
cancelled_twice =
    (0, Request first_client (ask_of Announce (pos 1)))
    ∷ (seconds 5, Cancel first_client Announce)
    ∷ (seconds 6, Cancel first_client Announce)
    ∷ (seconds 7, Turn 2)
    ∷ []

-- a cancel that is handed an earlier moment than the last turn
abbrev pub early_cancel : List (ℕ × Event)
early_cancel =
    (0, Request first_client (ask_of Sync (pos 0)))
    ∷ (seconds 5, Turn 2)
    ∷ (seconds 3, Cancel first_client Sync)
    ∷ []

-- the capacity falls and rises again
abbrev pub lower_capacity : List (ℕ × Event)
lower_capacity =
    (0, Request first_client (ask_of Announce (pos 1)))
    ∷ (seconds 1, Request second_client (ask_of Announce (pos 1)))
    ∷ (seconds 2, Resize 8)
    ∷ (seconds 2, Request second_client (ask_of Announce (pos 1)))
    ∷ (seconds 3, Resize 16)
    ∷ (0, Request second_client (ask_of Announce (pos 1)))
    ∷ []

-- two grants of one moment, and a capacity that holds one of them
abbrev pub shed_of_two : List (ℕ × Event)
shed_of_two =
    (0, Request second_client (ask_of Announce (pos 1)))
    ∷ (0, Request first_client (ask_of Announce (pos 1)))
    ∷ (0, Resize 8)
    ∷ []

-- grants of one client with different earliest moments
abbrev pub turn_of_two : List (ℕ × Event)
turn_of_two =
    (0, Request first_client (ask_of Announce (pos 0)))
    ∷ (0, Request first_client (ask_of Sync (negsuc 0)))
    ∷ (seconds 1, Turn 2)
    ∷ (seconds 2, Turn 2)
    ∷ []

-- a grant of Delay_Resp, and a turn long after its first period
abbrev pub turn_beside_delay_resp : List (ℕ × Event)
turn_beside_delay_resp =
    (0, Request first_client (ask_of DelayResp (pos 0))) ∷ (seconds 5, Turn 2) ∷ []

-- the greater client asks first, and a capacity that holds one of the two grants
abbrev pub shed_of_greater_first : List (ℕ × Event)
shed_of_greater_first =
    (0, Request second_client (ask_of Announce (pos 1)))
    ∷ (seconds 1, Request first_client (ask_of Announce (pos 1)))
    ∷ (seconds 2, Resize 8)
    ∷ []

-- a cancel at the very moment at which the grant is over
abbrev pub cancel_at_expiry : List (ℕ × Event)
cancel_at_expiry =
    (0, Request first_client (ask_of Announce (pos 1))) ∷ (seconds 60, Cancel first_client Announce)
    ∷ []

-- a Delay_Req at the very moment at which the grant is over
abbrev pub delay_req_at_expiry : List (ℕ × Event)
delay_req_at_expiry =
    (0, Request first_client (ask_of DelayResp (pos 0))) ∷ (seconds 60, DelayReq first_client) ∷ []

-- a turn of one table, and then one of another that is handed an earlier moment
abbrev pub turns_of_two_tables : List (ℕ × Event)
turns_of_two_tables = (seconds 10, Turn 2) ∷ (seconds 5, Turn 3) ∷ []

-- two kinds of each of two clients of one table, all granted at one moment
abbrev pub four_of_one_moment : List (ℕ × Event)
four_of_one_moment =
    (0, Request third_client (ask_of Sync (pos 0)))
    ∷ (0, Request third_client (ask_of Announce (pos 0)))
    ∷ (0, Request first_client (ask_of Sync (pos 0)))
    ∷ (0, Request first_client (ask_of Announce (pos 0)))
    ∷ []

-- the same, and a turn of their table a period later
abbrev pub turn_of_four : List (ℕ × Event)
turn_of_four = four_of_one_moment ++ (seconds 1, Turn 2) ∷ []

-- the same, and a capacity that holds one of them
abbrev pub shed_of_four : List (ℕ × Event)
shed_of_four = four_of_one_moment ++ (seconds 1, Resize 16) ∷ []

-- two kinds of a client of one table, and one of a client of another
abbrev pub two_tables : List (ℕ × Event)
two_tables =
    (0, Request first_client (ask_of Announce (pos 0)))
    ∷ (0, Request second_client (ask_of Announce (pos 1)))
    ∷ (0, Request first_client (ask_of Sync (negsuc 0)))
    ∷ []

-- a renewal at another logarithm between two messages
abbrev pub slower_renewal : List (ℕ × Event)
slower_renewal =
    (0, Request first_client (ask_of Sync (pos 0)))
    ∷ (seconds 1, Turn 2)
    ∷ (1500000000, Request first_client (ask_of Sync (pos 1)))
    ∷ (3499999999, Turn 2)
    ∷ (3500000000, Turn 2)
    ∷ []

-- asks outside the profile, each with one fault or with all
abbrev pub denials : List (ℕ × Event)
denials =
    (0, Request first_client (ask_of Announce (negsuc 3)))
    ∷ (0, Request first_client (record { code = 0; log = pos 0; seconds = 59 }))
    ∷ (0, Request first_client (record { code = 3; log = pos 5; seconds = 0 }))
    ∷ (0, Request first_client (record { code = 9; log = pos 5; seconds = 0 }))
    ∷ []

-- a turn of the table at each of these whole seconds
abbrev pub turn_events : List ℕ → List (ℕ × Event)
turn_events [] = []
turn_events (n ∷ ns) = (seconds n, Turn 2) ∷ turn_events ns

-- a Sync a second, and turns at these seconds
abbrev pub sync_and_turns : List ℕ → List (ℕ × Event)
sync_and_turns ns = (0, Request first_client (ask_of Sync (pos 0))) ∷ turn_events ns
