-- How much an end may have under way.
use Rattle.std.specs.Prelude.{ℕ, ◌-◌, min}
use Rattle.subflow_send.specs.Records.{SendState}
use Rattle.subflow_send.specs.Rules.{flight}
use Rattle.subflow_tcp.specs.State.{EndState}

-- as many octets as a loss counts: below 2^32
abbrev pub flight_told : SendState → ℕ
flight_told v = min (flight v) 4294967295

-- the congestion window beside what is under way
abbrev pub room : EndState → ℕ
room s = s.congestion.reno.window - flight s.send
