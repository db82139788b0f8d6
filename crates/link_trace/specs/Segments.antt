-- A segment in words.
use Rattle.std.specs.Prelude.{ℕ, ◌+◌, ◌-◌, ◌*◌, ◌%◌, ◌^◌, ◌||◌, ◌==◌, nat_lt, Bool, true, if◌then◌else◌, Option, Some, None, Result, Ok, Err, List, [], ◌++◌, length, codes}
use Rattle.std.specs.Fmt.{decimal}
use Rattle.segment_wire.specs.declared.head.Head.{Head}
use Rattle.segment_wire.specs.declared.reading.SegmentFault.{SegmentFault}
use Rattle.segment_wire.specs.Options.{option_octets}
use Rattle.segment_wire.specs.Segment.{Segment}
use Rattle.link_trace.specs.declared.segment.Initials.{Initials}
use Rattle.link_trace.specs.Multipath.{word_if}
use Rattle.link_trace.specs.Options.{list_words}
use Rattle.link_trace.specs.Rows.{capped}

-- a number of 32 bits relative to the initial one, or as it stands where that isn't known
abbrev pub relative : ℕ → Option ℕ → ℕ
relative number (Some initial) = (number + (2 ^ 32 - initial)) % 2 ^ 32
relative number None = number

-- a letter for each flag that is set, and a point for ACK
abbrev pub flag_words : Head → List ℕ
flag_words head =
    codes "Flags [" ++ word_if head.fin (codes "F") ++ word_if head.syn (codes "S")
    ++ word_if head.rst (codes "R") ++ word_if head.ack_set (codes ".") ++ codes "]"

-- a segment with payload, SYN, FIN or RST tells its number
abbrev pub is_numbered : Head → ℕ → Bool
is_numbered head len = head.syn || head.fin || head.rst || nat_lt 0 len

-- a number, and with payload the one behind it
abbrev pub range_words : ℕ → ℕ → List ℕ
range_words from len = if len == 0 then decimal from else decimal from ++ codes ":" ++ decimal (from + len)

-- the number, relative to this initial one, where the segment tells it
abbrev pub seq_words : Head → Option ℕ → ℕ → List ℕ
seq_words head initial len =
    if is_numbered head len then codes ", seq " ++ range_words (relative head.seq initial) len else []

-- the number that is acknowledged, relative to this initial one, where any is
abbrev pub ack_words : Head → Option ℕ → List ℕ
ack_words head initial = if head.ack_set then codes ", ack " ++ decimal (relative head.ack initial) else []

-- the window in octets: one without SYN is shifted as the SYNs agreed on (RFC 7323, section 2.3)
abbrev pub window_of : Option ℕ → Head → ℕ
window_of None head = head.window
window_of (Some shift) head = if head.syn then head.window else capped (head.window * 2 ^ shift)

-- flags, numbers, the window, the options, and octets of payload
abbrev pub segment_words : Initials → Bool → Segment → List ℕ
segment_words initials checksums s =
    flag_words s.head
    ++ seq_words s.head initials.own (length s.payload)
    ++ ack_words s.head initials.peer
    ++ (codes ", win " ++ decimal (window_of initials.shift s.head))
    ++ list_words initials.streams checksums true (option_octets s.options)
    ++ (codes ", length " ++ decimal (length s.payload))

-- the words of what octets mean
abbrev pub words_of : Initials → Bool → Result Segment SegmentFault → List ℕ
words_of initials checksums (Ok s) = segment_words initials checksums s
words_of initials checksums (Err fault) = codes "malformed"
