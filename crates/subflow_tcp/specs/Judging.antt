-- What a segment that arrives means for an end, rule by rule in their order (RFC 9293, section 3.10.7; RFC 5961).
use Rattle.std.specs.Prelude.{ℕ, ◌+◌, ◌-◌, ◌^◌, ◌<◌, Bool, false, not, ◌&&◌, ◌||◌, ◌==◌, nat_lt, nat_le, if◌then◌else◌, is_none, Option, Some, None, length}
use Rattle.subflow_tcp.specs.declared.handshake.State.{State}
use Rattle.subflow_tcp.specs.declared.handshake.State.TheVariants.{Waiting, Listen, SynSent, Dead}
use Rattle.subflow_tcp.specs.declared.verdicts.Meaning.{Meaning}
use Rattle.subflow_tcp.specs.declared.verdicts.Meaning.TheVariants.{Ignored, Unwanted, Opens, Accepts, RepeatedSyn, Outside, Kills, Challenged, Unacknowledging, Ahead, Taken}
use Rattle.subflow_tcp.specs.States.{is_half_open}
use Rattle.subflow_tcp.specs.Segments.{Copy, occupied}
use Rattle.subflow_tcp.specs.State.{EndState, is_at_limit}

-- ---- a listening end
-- of the flags SYN, ACK, RST and FIN it has SYN alone
abbrev pub is_syn_alone : Copy → Bool
is_syn_alone c = c.syn && (not c.fin && (not c.rst && is_none c.acknowledged))

-- ---- an opening end
-- an acknowledgement of the SYN: a reset ends the end, and a SYN accepts it
abbrev pub meaning_answer : Copy → ℕ → Meaning
meaning_answer c acknowledged = if c.rst then Kills else (if c.syn then Accepts acknowledged else Ignored)

-- a copy counts only where it acknowledges the SYN
abbrev pub meaning_answering : Option ℕ → Copy → EndState → Meaning
meaning_answering None c s = Ignored
meaning_answering (Some acknowledged) c s =
    if nat_lt 0 acknowledged && nat_le acknowledged s.send.nxt then meaning_answer c acknowledged else Ignored

-- at the limit of positions nothing counts; else what answers the SYN
abbrev pub meaning_opening : Copy → EndState → Meaning
meaning_opening c s = if is_at_limit s then Ignored else meaning_answering c.acknowledged c s

-- ---- an end that has the peer's SYN
-- there is a position, and it is this one
abbrev pub is_at : ℕ → Option ℕ → Bool
is_at pos None = false
is_at pos (Some p) = p == pos

-- the SYN that opened it, once more
abbrev pub is_repeated_syn : Copy → EndState → Bool
is_repeated_syn c s = not s.numbers.opens && (c.syn && (not c.rst && (is_none c.acknowledged && is_at 0 c.position)))

-- a position in the receive window of 2^20 positions
abbrev pub is_in_window : ℕ → ℕ → Bool
is_in_window edge pos = nat_le edge pos && nat_lt pos (edge + 1048576)

-- the copy occupies positions, and the last one lies in the window
abbrev pub ends_in_window : ℕ → ℕ → ℕ → Bool
ends_in_window edge pos len = nat_lt 0 len && is_in_window edge (pos + (len - 1))

-- the copy has no octets, and stands at the right edge, the position after the window, as what a peer sends that has
-- filled the window
abbrev pub is_at_right_edge : ℕ → ℕ → ℕ → Bool
is_at_right_edge edge pos octets = octets == 0 && pos == edge + 1048576

-- the copy begins in the window, or ends there, or has no octets and stands at the right edge (RFC 9293, section
-- 3.10.7.4, which has not the last)
abbrev pub is_acceptable : ℕ → ℕ → Copy → Bool
is_acceptable edge pos c =
    is_in_window edge pos || (ends_in_window edge pos (occupied c) || is_at_right_edge edge pos (length c.payload))

-- a segment outside the window is answered, a reset there isn't
abbrev pub meaning_outside : Copy → Meaning
meaning_outside c = if c.rst then Ignored else Outside

-- an acknowledgement has to be of something sent, and at a half-open end of the SYN
abbrev pub meaning_acknowledging : Option ℕ → ℕ → EndState → Meaning
meaning_acknowledging None pos s = Unacknowledging
meaning_acknowledging (Some acknowledged) pos s =
    if nat_lt s.send.nxt acknowledged then Ahead
    else (if is_half_open s.state && acknowledged == 0 then Unacknowledging else Taken pos acknowledged)

-- a reset counts at the receive edge alone, and a SYN nowhere in the window
abbrev pub meaning_within : ℕ → Copy → EndState → Meaning
meaning_within pos c s =
    if c.rst then (if pos == s.recv.edge then Kills else Challenged)
    else (if c.syn then Challenged else meaning_acknowledging c.acknowledged pos s)

-- a segment that begins at no position is outside, as is one that isn't acceptable
abbrev pub meaning_placed : Option ℕ → Copy → EndState → Meaning
meaning_placed None c s = meaning_outside c
meaning_placed (Some pos) c s = if is_acceptable s.recv.edge pos c then meaning_within pos c s else meaning_outside c

-- at the limit of positions nothing counts; else a repeated SYN is told apart first
abbrev pub meaning_connected : Copy → EndState → Meaning
meaning_connected c s =
    if is_at_limit s then Ignored else (if is_repeated_syn c s then RepeatedSyn else meaning_placed c.position c s)

-- ---- any end
-- a dead end wants no segment, a waiting one hears none, and a listening one takes a SYN alone
abbrev pub meaning_at : State → Copy → EndState → Meaning
meaning_at Dead c s = if c.rst then Ignored else Unwanted
meaning_at Waiting c s = Ignored
meaning_at Listen c s = if is_syn_alone c then Opens else Ignored
meaning_at SynSent c s = meaning_opening c s
meaning_at state c s = meaning_connected c s

abbrev pub meaning_of : Copy → EndState → Meaning
meaning_of c s = meaning_at s.state c s

-- what is taken begins below the end of the window of an end that isn't at its limit
abbrev pub IsBelow : Meaning → Type 0
IsBelow (Taken pos acknowledged) = pos < 2 ^ 61 + 2 ^ 20
IsBelow _ = Unit {0}
