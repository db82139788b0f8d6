-- The rule on Data ACKs (RFC 8684, sections 3.3.2, 3.3.3 and 3.7).
use Rattle.std.specs.Prelude.{ℕ, ◌+◌, ◌==◌, max, nat_lt, if◌then◌else◌, Option, Some, None, Result, Ok, Err}
use Rattle.mptcp_options.specs.declared.dss.DataNumber.{DataNumber}
use Rattle.judge_rules.specs.declared.acks.AckFacts.{AckFacts}
use Rattle.judge_rules.specs.declared.acks.ToldPlace.{ToldPlace}
use Rattle.judge_rules.specs.declared.finding.Finding.{Finding}
use Rattle.judge_rules.specs.declared.finding.Finding.TheVariants.{NoPlace, NotSeen, Falls}
use Rattle.judge_rules.specs.Numbers.{place_near, told_number}

-- the DATA_FIN is acknowledged as an octet, once all before it was seen
abbrev pub behind_fin : Option ToldPlace → ℕ → ℕ
behind_fin None whole = whole
behind_fin (Some told) whole = if told.place == whole then whole + 1 else whole

-- the most that may be acknowledged: behind what was seen, or behind what came in plain TCP
abbrev pub most_seen : AckFacts → ℕ
most_seen facts = max (behind_fin facts.fin facts.whole) facts.plain

-- a place that isn't below the highest one before
abbrev pub not_below : Option ℕ → ℕ → Result ℕ Finding
not_below None place = Ok place
not_below (Some after) place = if nat_lt place after then Err (Falls place after) else Ok place

-- no more than was seen is acknowledged
abbrev pub judged_ack : AckFacts → ℕ → Result ℕ Finding
judged_ack facts place =
    if nat_lt (most_seen facts) place then Err (NotSeen place (most_seen facts))
    else not_below facts.highest place

-- by the place, if the number means one
abbrev pub ack_by : AckFacts → DataNumber → Option ℕ → Result ℕ Finding
ack_by facts number None = Err (NoPlace (told_number number))
ack_by facts number (Some place) = judged_ack facts place

abbrev pub ack_place : AckFacts → DataNumber → Result ℕ Finding
ack_place facts number = ack_by facts number (place_near facts.first facts.top number)
