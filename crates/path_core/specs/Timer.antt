-- The timer of an end: when it runs, and what an expiry makes of the path (RFC 6298, section 5).
use Rattle.std.specs.Prelude.{ℕ, Bool, ◌||◌, if◌then◌else◌, List, Option, Some, None}
use Rattle.subflow_tcp.specs.Expiring.{after_settling, after_fire, is_sixth}
use Rattle.sides.specs.declared.side.Side.{Side}
use Rattle.path_agenda.specs.declared.duty.Duty.{Duty}
use Rattle.path_agenda.specs.Agenda.{expired, expired_for_ever}
use Rattle.path_core.specs.DataFin.{is_waiting, without_news}
use Rattle.path_core.specs.End.{PathEnd}
use Rattle.path_core.specs.declared.events.Event.{Event}
use Rattle.path_core.specs.declared.events.Event.TheVariants as happenings
use Rattle.path_core.specs.State.{PathState, end_at, goes_on}

-- ---- when it runs

-- the timer is settled by the reasons of the subflow and of the streams, by the third MP_JOIN, and by the fast close
abbrev pub with_timer_settled : ℕ → PathEnd → PathEnd
with_timer_settled now e = record e {
  tcp = after_settling (is_waiting e || (e.modes.owes_third || e.notices.fast_closed)) e.sending.news now e.tcp;
  sending = without_news e.sending;
}

-- ---- when it runs out

-- the timer of this side's end, where it runs
abbrev pub next_fire : Side → Option ℕ → Option Event
next_fire s None = None
next_fire s (Some tick) = Some (happenings.Fires s tick)

-- the sixth expiry in a row ends the end
abbrev pub template_fired : Bool → Side → List Duty
template_fired sixth s = if sixth then expired_for_ever s else expired s

abbrev pub after_firing : ℕ → PathEnd → PathEnd
after_firing now e = record e { tcp = after_fire now e.tcp }

-- the end after the expiry of its timer, and what is to be done then
abbrev pub timer_fired : {C : Type 0} → Side → PathState C → PathState C
timer_fired s p = goes_on s (after_firing p.clock (end_at s p)) (template_fired (is_sixth (end_at s p).tcp) s) p
