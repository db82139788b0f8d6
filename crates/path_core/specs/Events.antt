-- What happens on a path by itself: its join, lines of the script, copies that arrive, timers that run out.
use Rattle.std.specs.Prelude.{ℕ, ◌<◌, Bool, ◌&&◌, true, false, nat_lt, nat_le, if◌then◌else◌, List, Option, [], Some, ◌∷◌, None, IsSome}
use Rattle.std.specs.Option.{option_and_then}
use Rattle.subflow_tcp.specs.declared.handshake.State.{State as EndPhase}
use Rattle.subflow_tcp.specs.States.{is_waiting, is_dead}
use Rattle.path_store.specs.declared.lines.LineLeft.{LineLeft}
use Rattle.link_model.specs.declared.flight.Due.{Due}
use Rattle.sides.specs.declared.side.Side.TheVariants.{A, B}
use Rattle.link_model.specs.Steps.{next_due, arriving}
use Rattle.actor_desk.specs.declared.ask.Ask.{Ask}
use Rattle.actor_desk.specs.declared.ask.Ask.TheVariants as asks
use Rattle.actor_desk.specs.declared.ask.LocalStep.TheVariants as steps
use Rattle.subflow_tcp.specs.declared.handshake.State.TheVariants as phase
use Rattle.path_agenda.specs.Agenda.{emission, announces, withdraws, rest_of_turn}
use Rattle.path_store.specs.declared.lines.LineAction.{LineAction}
use Rattle.path_store.specs.declared.lines.LineAction.TheVariants as actions
use Rattle.actor_desk.specs.Words.{tail_of}
use Rattle.actor_desk.specs.declared.ask.Reply.{Reply}
use Rattle.path_core.specs.declared.events.Event.{Event}
use Rattle.path_core.specs.declared.events.Event.TheVariants as happenings
use Rattle.path_core.specs.Timer.{next_fire, timer_fired}
use Rattle.path_core.specs.State.{PathState, end_at, with_agenda, goes_on, at_tick}
use Rattle.path_core.specs.MpJoin.{join_begin_ask, joins_at_tick}
use Rattle.path_core.specs.Breaking.{path_died}
use Rattle.path_core.specs.Addresses.{with_priority}
use Rattle.path_core.specs.Arrival.{copy_taken}
use Rattle.path_core.specs.Codec.{Codec}

abbrev pub tick_of : Event → ℕ
tick_of (happenings.Joins tick) = tick
tick_of (happenings.Takes line) = line.tick
tick_of (happenings.Arrives due) = due.tick
tick_of (happenings.Fires s tick) = tick

-- ---- which is next

-- A joins the path, as long as its end waits for that
abbrev pub next_join : EndPhase → Option ℕ → Option Event
next_join state None = None
next_join state (Some tick) = if is_waiting state then Some (happenings.Joins tick) else None

-- the first line that isn't taken yet
abbrev pub next_line : List LineLeft → Option Event
next_line [] = None
next_line (line ∷ lines) = Some (happenings.Takes line)

abbrev pub next_copy : Option Due → Option Event
next_copy None = None
next_copy (Some due) = Some (happenings.Arrives due)

-- the earlier one; at one tick the first
abbrev pub earlier : Option Event → Option Event → Option Event
earlier None other = other
earlier (Some x) None = Some x
earlier (Some x) (Some y) = if nat_le (tick_of x) (tick_of y) then Some x else Some y

-- at one tick the join comes before lines, lines before copies, and copies before timers, that of A first
abbrev pub earliest : {C : Type 0} → PathState C → Option Event
earliest p =
    earlier (next_join p.a.tcp.state p.joined_at) (earlier (next_line p.lines) (earlier (next_copy (next_due p.link.under_way))
    (earlier (next_fire A p.a.tcp.timing.timer) (next_fire B p.b.tcp.timing.timer))))

-- an event that comes before this tick
abbrev pub before : ℕ → Event → Option Event
before until event = if nat_lt (tick_of event) until then Some event else None

-- the earliest event before the round's end
abbrev pub next_event : {C : Type 0} → PathState C → Option Event
next_event p = option_and_then (before p.until) (earliest p)

-- the step of an event on the path of this number
abbrev pub step_of : ℕ → Event → Ask
step_of path (happenings.Joins tick) = join_begin_ask path
step_of path (happenings.Takes line) = asks.Local (steps.Line line.number)
step_of path (happenings.Arrives due) = asks.Local (steps.Arrive due.to due.copy)
step_of path (happenings.Fires s tick) = asks.Local (steps.Fire s)

-- the step of an event that may be there
abbrev pub step_for : ℕ → Option Event → Ask
step_for path None = asks.Local steps.End
step_for path (Some event) = step_of path event

-- an event comes before the round's end, and is there: a copy is under way, and a timer runs
abbrev pub CanHappen : {C : Type 0} → Event → PathState C → Type 0
CanHappen (happenings.Joins tick) p = tick < p.until
CanHappen (happenings.Takes line) p = line.tick < p.until
CanHappen (happenings.Arrives due) p = (due.tick < p.until) × IsSome (arriving due p.link)
CanHappen (happenings.Fires s tick) p = (tick < p.until) × IsSome (end_at s p).tcp.timing.timer

-- the end is dead, or never heard anything
abbrev pub is_dead_or_listening : EndPhase → Bool
is_dead_or_listening phase.Listen = true
is_dead_or_listening phase.Dead = true
is_dead_or_listening _ = false

-- A path is dead where A's end is dead, and B's end is dead or was never reached.
abbrev pub is_dead_path : {C : Type 0} → PathState C → Bool
is_dead_path p = is_dead p.a.tcp.state && is_dead_or_listening p.b.tcp.state

-- an address that is announced or taken back is told to the side, whether its end lives or not (RFC 8684, section 3.4)
abbrev pub after_line : {C : Type 0} → LineAction → PathState C → PathState C
after_line actions.Die p = path_died p
after_line (actions.Prio s backup) p = goes_on s (with_priority backup (end_at s p)) (emission s) p
after_line (actions.Announce s id) p = with_agenda (announces s id) p
after_line (actions.Withdraw s id) p = with_agenda (withdraws s id) p

-- at the line's tick, and the line is taken no second time
abbrev pub line_taken : {C : Type 0} → LineLeft → PathState C → PathState C
line_taken line p = after_line line.action (record (at_tick line.tick p) { lines = tail_of p.lines })

-- what an event makes of the path; only a join depends on the reply
abbrev pub happens : {C : Type 0} → Codec C → Event → Reply → PathState C → PathState C
happens k (happenings.Joins tick) r p = joins_at_tick r (at_tick tick p)
happens k (happenings.Takes line) r p = line_taken line p
happens k (happenings.Arrives due) r p = copy_taken k due p
happens k (happenings.Fires s tick) r p = timer_fired s (at_tick tick p)

-- an event that may be there; without one the turn goes on
abbrev pub happens_if : {C : Type 0} → Codec C → Option Event → Reply → PathState C → PathState C
happens_if k None r p = with_agenda rest_of_turn p
happens_if k (Some event) r p = happens k event r p
