-- What a copy is to an end of a path.
use Rattle.std.specs.Prelude.{Bool, ◌&&◌, not, true, ◌||◌, false, if◌then◌else◌, List, Option, is_none, Some, is_some, None}
use Rattle.subflow_tcp.specs.declared.verdicts.Meaning.{Meaning}
use Rattle.subflow_tcp.specs.declared.verdicts.Meaning.TheVariants as means
use Rattle.subflow_tcp.specs.States.{is_half_open}
use Rattle.path_agenda.specs.declared.heard.Heard.{Heard}
use Rattle.join_handshake.specs.declared.hearing.JoinAnswer.{JoinAnswer}
use Rattle.subflow_tcp.specs.declared.handshake.State.{State as EndPhase}
use Rattle.path_core.specs.End.{PathEnd}
use Rattle.path_core.specs.MpJoin.{third_in, is_third_right, join_asked, join_answer}
use Rattle.path_core.specs.declared.judged.Judged.{Judged}
use Rattle.path_core.specs.declared.judged.Judged.TheVariants as judged
use Rattle.path_core.specs.declared.modes.Modes.{Modes}

abbrev pub is_taken : Meaning → Bool
is_taken (means.Taken position acknowledged) = true
is_taken _ = false

-- ---- at an end of a path that joins

-- B's end passes a copy over in silence until the third MP_JOIN comes, unless it is a reset
abbrev pub is_passed_over : Bool → List Heard → PathEnd → Bool
is_passed_over rst items e = is_half_open e.tcp.state && (not rst && is_none (third_in items))

-- the third MP_JOIN isn't A's
abbrev pub is_forged : List Heard → PathEnd → Bool
is_forged items e = is_half_open e.tcp.state && not (is_third_right items e.modes)

-- the copy is what it means to the subflow, or ignored where it is passed over
abbrev pub unless_passed_over : Bool → List Heard → Meaning → PathEnd → Judged
unless_passed_over rst items meaning e = if is_passed_over rst items e then judged.As means.Ignored else judged.As meaning

-- A SYN has to ask to join, its answer needs B's HMAC, and the third segment A's. The SYN may be repeated.
abbrev pub join_judged : Bool → List Heard → Meaning → PathEnd → Judged
join_judged rst items means.Opens e = if is_some (join_asked items) then judged.Asks else judged.Lacks
join_judged rst items (means.Accepts acknowledged) e =
    if is_some (join_answer items e.modes) then judged.As (means.Accepts acknowledged) else judged.Forged
join_judged rst items means.RepeatedSyn e = judged.As means.RepeatedSyn
join_judged rst items (means.Taken position acknowledged) e =
    if is_passed_over rst items e then judged.As means.Ignored
    else (if is_forged items e then judged.Forged else judged.As (means.Taken position acknowledged))
join_judged rst items meaning e = unless_passed_over rst items meaning e

-- what a copy is to an end by what it means to the subflow
abbrev pub judged_of : Bool → Bool → List Heard → Meaning → PathEnd → Judged
judged_of joined rst items meaning e = if joined then join_judged rst items meaning e else judged.As meaning

-- the subflow takes nothing of a copy that waits for the control book or is refused
abbrev pub taken_as : Judged → Meaning
taken_as (judged.As meaning) = meaning
taken_as judged.Asks = means.Ignored
taken_as judged.Lacks = means.Ignored
taken_as judged.Forged = means.Ignored

abbrev pub is_ignored : Meaning → Bool
is_ignored means.Ignored = true
is_ignored _ = false

-- A has B's nonce and flag now, and owes the third MP_JOIN
abbrev pub with_answer : Option JoinAnswer → Modes → Modes
with_answer None m = m
with_answer (Some answer) m = record m { peer_nonce = answer.nonce; backup_heard = answer.backup; owes_third = true }

-- where A's end accepts the SYN/ACK, it takes what its MP_JOIN says
abbrev pub answered_in : Meaning → List Heard → Modes → Modes
answered_in (means.Accepts acknowledged) items m = with_answer (join_answer items m) m
answered_in _ items m = m

-- B may send a DSS once A's third segment came
abbrev pub cleared_in : Meaning → EndPhase → Modes → Modes
cleared_in (means.Taken position acknowledged) state m = record m { clear = m.clear || is_half_open state }
cleared_in _ state m = m

-- both, on a path that joins; path 0 stays as it is
abbrev pub after_join : Bool → List Heard → Meaning → PathEnd → PathEnd
after_join joined items meaning e =
    record e { modes = (if joined then cleared_in meaning e.tcp.state (answered_in meaning items e.modes) else e.modes) }
