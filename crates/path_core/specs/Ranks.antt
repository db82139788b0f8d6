-- The numbers that show that a turn ends, each of which falls where those before it stay: ticks until the round's end, events
-- that are due by now, the weight of what is to be done, octets in order that aren't passed, and what may still be sent.
use Rattle.std.specs.Prelude.{ℕ, ◌+◌, ◌-◌, ◌*◌, nat_le, if◌then◌else◌, Option, Some, None, List, [], ◌∷◌, length}
use Rattle.link_model.specs.declared.flight.Flight.{Flight}
use Rattle.subflow_recv.specs.Receiving.{filled}
use Rattle.subflow_send.specs.Records.{Record}
use Rattle.subflow_send.specs.Rules.{is_unsent, acknowledged_in}
use Rattle.path_core.specs.End.{PathEnd}
use Rattle.path_core.specs.Notices.{Notices, is_carried}
use Rattle.path_core.specs.State.{PathState}
use Rattle.path_store.specs.declared.lines.LineLeft.{LineLeft}

abbrev pub ticks_left : {C : Type 0} → PathState C → ℕ
ticks_left p = p.until - p.clock

-- ---- events

abbrev pub one_if_due : ℕ → ℕ → ℕ
one_if_due clock tick = if nat_le tick clock then 1 else 0

abbrev pub due_copies : {C : Type 0} → ℕ → List (Flight C) → ℕ
due_copies clock [] = 0
due_copies clock (f ∷ flights) = one_if_due clock f.tick + due_copies clock flights

abbrev pub due_lines : ℕ → List LineLeft → ℕ
due_lines clock [] = 0
due_lines clock (line ∷ lines) = one_if_due clock line.tick + due_lines clock lines

abbrev pub due_timer : ℕ → Option ℕ → ℕ
due_timer clock None = 0
due_timer clock (Some tick) = one_if_due clock tick

-- how many there are of copies, lines, the join and timers whose tick has come
abbrev pub due_by_now : {C : Type 0} → PathState C → ℕ
due_by_now p =
    due_copies p.clock p.link.under_way + (due_lines p.clock p.lines + (due_timer p.clock p.joined_at
    + (due_timer p.clock p.a.tcp.timing.timer + due_timer p.clock p.b.tcp.timing.timer)))

-- ---- octets

-- octets in order from the edge on, which it hasn't passed yet
abbrev pub held : PathEnd → ℕ
held e = length (filled e.tcp.recv.places)

-- octets in order that the edges of both ends haven't passed yet
abbrev pub bytes_left : {C : Type 0} → PathState C → ℕ
bytes_left p = held p.a + held p.b

-- ---- sendings

-- octets of records that aren't acknowledged, to be sent or under way
abbrev pub outstanding : ℕ → List Record → ℕ
outstanding una [] = 0
outstanding una (r ∷ rs) = (length r.piece - acknowledged_in una r) + outstanding una rs

-- records to be sent
abbrev pub unsent_count : List Record → ℕ
unsent_count [] = 0
unsent_count (r ∷ rs) = (if is_unsent r then 1 else 0) + unsent_count rs

-- what is to be noted to the peer, and the fast close
abbrev pub notes_left : Notices → ℕ
notes_left n = length n.queue + (if is_carried n then 1 else 0)

-- each octet of room may become a piece, which is sent once; so is what is to be noted
abbrev pub work : PathEnd → ℕ
work e =
    2 * (e.tcp.congestion.reno.window - outstanding e.tcp.send.una e.tcp.send.records) + unsent_count e.tcp.send.records + notes_left e.notices

-- what both ends may still send and note
abbrev pub sendings_left : {C : Type 0} → PathState C → ℕ
sendings_left p = work p.a + work p.b
