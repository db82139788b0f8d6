-- The conditions of the calls: a path is below 16, and what is told of a path can be linked.
use Rattle.std.specs.Prelude.{◌<◌, ◌≤◌}
use Rattle.control_book.specs.declared.call.ControlCall.{ControlCall}
use Rattle.control_book.specs.declared.call.ControlCall.TheVariants as call

abbrev pub can_ask : ControlCall → Type 0
can_ask (call.Look path) = path < 16
can_ask (call.PeerKey key) = Unit {0}
can_ask (call.Keys own peer) = Unit {0}
can_ask (call.Fell path event) = path < 16
can_ask (call.JoinBegin path) = path < 16
can_ask (call.JoinHeard path token) = path < 16
can_ask (call.Live path backup) = path < 16
can_ask (call.Dead path) = path < 16
can_ask (call.Backup path on) = path < 16
can_ask (call.Rate path window rtt) = (path < 16) × (0 < window) × (window ≤ 1048576) × (0 < rtt) × (rtt ≤ 60000)
can_ask (call.Announce id) = Unit {0}
can_ask (call.Withdraw id) = Unit {0}
can_ask (call.Heard id address port hmac) = Unit {0}
can_ask (call.Echoed id) = Unit {0}
can_ask (call.Removed id) = Unit {0}
can_ask call.FastClose = Unit {0}
can_ask (call.FastHeard key) = Unit {0}
