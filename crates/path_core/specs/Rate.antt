-- How a window grows, by the rows of all paths (RFC 6356).
use Rattle.std.specs.Prelude.{ℕ, Bool, ◌==◌, min, max, List, Option, Some, None, find}
use Rattle.sides.specs.declared.side.Side.{Side}
use Rattle.control_book.specs.declared.call.ControlCall.TheVariants as control_calls
use Rattle.loss_recovery.specs.declared.windows.Pending.{Pending}
use Rattle.actor_desk.specs.declared.ask.Ask.{Ask}
use Rattle.actor_desk.specs.declared.ask.Ask.TheVariants as asks
use Rattle.actor_desk.specs.declared.ask.LocalStep.TheVariants as steps
use Rattle.linked_increase.specs.declared.rows.Row.{Row}
use Rattle.linked_increase.specs.Scaled.{growth_of}
use Rattle.control_book.specs.declared.call.ControlReply.TheVariants as control_replies
use Rattle.actor_desk.specs.declared.ask.Reply.{Reply}
use Rattle.actor_desk.specs.declared.ask.Reply.TheVariants as replies
use Rattle.loss_recovery.specs.Windows.{after_growth}
use Rattle.path_core.specs.State.{PathState, path_of, end_at, goes_on, left}
use Rattle.path_core.specs.End.{PathEnd}

-- a window of at least an octet and at most 2^20, and a round-trip time of at least a tick and at most a minute
abbrev pub rate_ask : {C : Type 0} → Side → Option Pending → PathState C → Ask
rate_ask s None p = asks.Local steps.End
rate_ask s (Some pending) p =
    asks.Control s (control_calls.Rate (path_of p) (max 1 (min 1048576 pending.window)) (max 1 (min 60000 pending.rtt)))

abbrev pub is_row_of : ℕ → Row → Bool
is_row_of path row = row.path == path

-- by the path's own row among all; at most 2^20 octets count
abbrev pub growth_by : Option Row → List Row → ℕ → ℕ → ℕ
growth_by None rows mss acked = 0
growth_by (Some row) rows mss acked = growth_of row rows mss acked

-- the linked increase of the congestion window in octets (RFC 6356, section 3); 0 where the book told no rows
abbrev pub growth_in : ℕ → ℕ → Reply → Option Pending → ℕ
growth_in path mss (replies.Control (control_replies.Rows rows)) (Some pending) =
    growth_by (find (is_row_of path) rows) rows mss (min 1048576 pending.acked)
growth_in path mss _ pending = 0

abbrev pub after_rate : ℕ → ℕ → Reply → PathEnd → PathEnd
after_rate path mss r e =
    record e { tcp = record e.tcp { congestion = after_growth (growth_in path mss r e.tcp.congestion.pending) e.tcp.congestion } }

abbrev pub answered_rate : {C : Type 0} → Side → Reply → PathState C → PathState C
answered_rate s r p = goes_on s (after_rate (path_of p) p.profile.mss r (end_at s p)) (left p) p
