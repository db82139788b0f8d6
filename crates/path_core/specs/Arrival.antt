-- A copy that arrives: what it means to an end, and what it makes of the end at once. The rest is treated duty by duty.
use Rattle.std.specs.Prelude.{ℕ, ◌+◌, ◌≡◌, ◌-◌, ◌%◌, Bool, ◌⊎◌, ◌^◌, not, true, false, if◌then◌else◌, List, Option, Some, unwrap_or, None, length, option_map}
use Rattle.std.specs.List.{list_any}
use Rattle.path_segments.specs.declared.expected.Expected.{Expected}
use Rattle.path_segments.specs.declared.position.HeardPosition.{HeardPosition}
use Rattle.path_segments.specs.declared.position.HeardPosition.TheVariants.{At, Nowhere}
use Rattle.path_segments.specs.Heard.{HeardSegment}
use Rattle.subflow_tcp.specs.Segments.{Copy, occupied}
use Rattle.sides.specs.declared.side.Side.{Side}
use Rattle.path_segments.specs.Spelling.{numbers_of}
use Rattle.subflow_tcp.specs.declared.segments.Outgoing.{Outgoing}
use Rattle.subflow_tcp.specs.Spelling.{ResetNumbers, reset_numbers}
use Rattle.sides.specs.Side.{peer}
use Rattle.subflow_tcp.specs.State.{EndState}
use Rattle.subflow_tcp.specs.Closing.{after_owing}
use Rattle.subflow_tcp.specs.declared.verdicts.Meaning.{Meaning}
use Rattle.subflow_tcp.specs.declared.verdicts.Meaning.TheVariants as means
use Rattle.subflow_tcp.specs.Taking.{after_holding, arrival_of, after_arrival}
use Rattle.actor_desk.specs.Words.{is_nil}
use Rattle.dss_mapping.specs.declared.kept.KeptMapping.{KeptMapping}
use Rattle.dss_mapping.specs.Learning.{after_hold}
use Rattle.path_agenda.specs.declared.heard.Heard.{Heard}
use Rattle.subflow_tcp.specs.Judging.{meaning_of}
use Rattle.path_agenda.specs.declared.duty.Duty.{Duty}
use Rattle.path_agenda.specs.Agenda.{emission, syn_came, syn_ack_came, join_answered, copy_came, syn_again, answers, answers_dead, leaves, join_came, refuses, resets}
use Rattle.link_model.specs.declared.flight.Flight.{Flight}
use Rattle.link_model.specs.declared.flight.Due.{Due}
use Rattle.link_model.specs.Steps.{arriving, after_delivery}
use Rattle.path_core.specs.End.{PathEnd}
use Rattle.path_core.specs.Profile.{Profile}
use Rattle.path_core.specs.DssIn.{HeardOption, held_of}
use Rattle.path_core.specs.OptionsIn.{asks_capable, edge_in_payload, hint_of, is_plain_ack, opens_by, owes_by, items_of, options_heard}
use Rattle.path_core.specs.declared.modes.Modes.{Modes}
use Rattle.path_core.specs.Judged.{is_taken, after_join, judged_of, taken_as}
use Rattle.path_core.specs.Treated.{Treated, nothing_treated}
use Rattle.path_core.specs.declared.judged.Judged.{Judged}
use Rattle.path_core.specs.MpJoin.{is_joined}
use Rattle.path_core.specs.declared.judged.Judged.TheVariants as judged
use Rattle.path_core.specs.State.{PathState, end_at, goes_on, with_agenda, at_tick}
use Rattle.path_core.specs.Codec.{Codec}

-- what an end counts from
abbrev pub expected_by : PathEnd → Expected
expected_by e = record {
  edge = e.tcp.recv.edge;
  unacknowledged = e.tcp.send.una;
  told = e.sending.heard;
  place = e.receiving.next;
}

-- ---- the header

-- the position that was heard, where its number means one
abbrev pub position_in : HeardPosition → Option ℕ
position_in (At position) = Some position
position_in (Nowhere number) = None

-- the acknowledged position; 0 where its number means none
abbrev pub acknowledged_in : Option HeardPosition → Option ℕ
acknowledged_in None = None
acknowledged_in (Some heard) = Some (unwrap_or (position_in heard) 0)

-- the segment as the subflow takes it, by positions and without its options
abbrev pub copy_of : HeardSegment → Copy
copy_of h = record {
  position = position_in h.position;
  acknowledged = acknowledged_in h.acknowledged;
  syn = h.syn;
  fin = h.fin;
  rst = h.rst;
  window = h.window;
  payload = h.payload;
}

-- ---- a dead end's answer

-- the position below 2^32 at which a side's subflow has a number
abbrev pub position_numbered : Profile → Side → ℕ → ℕ
position_numbered c s number = (number + (2 ^ 32 - (numbers_of c.spelling s).initial.0 % 2 ^ 32)) % 2 ^ 32

-- a position with the number that was heard, whether that names one or not
abbrev pub position_meant : Profile → Side → HeardPosition → ℕ
position_meant c s (At position) = position
position_meant c s (Nowhere number) = position_numbered c s number

-- by the numbers of the copy, as they stand
abbrev pub outgoing_reset : ResetNumbers ℕ → Outgoing
outgoing_reset reset =
    record { position = reset.at; acknowledged = reset.acknowledged; syn = false; fin = false; rst = true; length = 0 }

-- the reset that answers a copy stands at what the copy acknowledges; without that at number 0, and acknowledges all
-- that the copy occupies (RFC 9293, section 3.10.7.1)
abbrev pub reset_by : Profile → Side → Option HeardPosition → HeardPosition → ℕ → Outgoing
reset_by c s acknowledged position occupied =
    outgoing_reset (reset_numbers (position_numbered c s 0) (λ first n. first + n) (option_map (position_meant c s) acknowledged)
    (position_meant c (peer s) position) occupied)

-- the reset that answers this copy at a dead end of this side
abbrev pub reset_for : Profile → Side → HeardSegment → Outgoing
reset_for c s h = reset_by c s h.acknowledged h.position (occupied (copy_of h))

-- ---- what the copy makes of the end at once

-- where one is owed, an acknowledgement is due at SND.NXT
abbrev pub owing_if : Bool → EndState → EndState
owing_if owing tcp = if owing then after_owing false tcp else tcp

-- the SYN that opens the end tells it whether the peer asks for Multipath TCP
abbrev pub asked_in : Meaning → List HeardOption → Modes → Modes
asked_in means.Opens options m = record m { capable_asked = list_any asks_capable options }
asked_in _ options m = m

-- a copy's payload is held where the copy is taken
abbrev pub with_payload : Meaning → List ℕ → EndState → EndState
with_payload (means.Taken position acknowledged) octets tcp = if is_nil octets then tcp else after_holding position octets tcp
with_payload meaning octets tcp = tcp

-- a copy's payload is held where the copy is taken, and the mappings that it told
abbrev pub with_held : List KeptMapping → HeardSegment → Meaning → PathEnd → PathEnd
with_held told h meaning e = record e {
  tcp = with_payload meaning h.payload e.tcp;
  receiving = record e.receiving { mappings = after_hold told e.receiving.mappings };
}

-- what is still to be treated of a copy that says these things
abbrev pub treated_of : List Heard → Meaning → HeardSegment → Outgoing → EndState → Treated
treated_of items meaning h answer s = record nothing_treated {
  items = items;
  opened = opens_by meaning s.state;
  has_option = not (is_nil h.options);
  answer = Some answer;
  window = h.window;
  plain_ack = is_plain_ack (arrival_of meaning (hint_of items) (copy_of h) s) h;
  acknowledged = (if is_taken meaning then unwrap_or (copy_of h).acknowledged 0 else 0);
  held_edge = edge_in_payload meaning h.payload s.recv.edge;
}

-- the subflow takes it, and the rest is still to be treated
abbrev pub after_copy : List Heard → Outgoing → ℕ → HeardSegment → Meaning → PathEnd → PathEnd
after_copy items answer now h meaning e = record e {
  tcp = owing_if (owes_by meaning items) (after_arrival meaning (hint_of items) now (copy_of h) e.tcp);
  treated = treated_of items meaning h answer e.tcp;
  modes = asked_in meaning h.options e.modes;
}

-- the subflow takes a copy as what it means, or not at all
abbrev pub IsTakenAs : Meaning → Copy → EndState → Type 0
IsTakenAs meaning c s = (meaning ≡ means.Ignored) ⊎ (meaning ≡ meaning_of c s)

-- ---- all

-- a segment that says these mappings, and is answered so at a dead end
abbrev pub copy_judged : Bool → List KeptMapping → Outgoing → Side → ℕ → HeardSegment → Meaning → PathEnd → PathEnd
copy_judged joined told answer s now h meaning e =
    let items = items_of joined s h in
    after_copy items answer now h meaning (after_join joined items meaning (with_held told h meaning e))

-- what a copy that arrives is to the end of this side
abbrev pub judged_in : Bool → Side → HeardSegment → PathEnd → Judged
judged_in joined s h e = judged_of joined h.rst (items_of joined s h) (meaning_of (copy_of h) e.tcp) e

-- the end after a copy that was judged so, with the mappings and the answer of that copy
abbrev pub after_judged : Profile → Side → ℕ → HeardSegment → Judged → PathEnd → PathEnd
after_judged c s now h verdict e =
    copy_judged (is_joined c) (held_of c s h) (reset_for c s h) s now h (taken_as verdict) e

-- the end after a copy that it judges itself, with the mappings and the answer of that copy
abbrev pub segment_heard : Bool → List KeptMapping → Outgoing → Side → ℕ → HeardSegment → PathEnd → PathEnd
segment_heard joined told answer s now h e = copy_judged joined told answer s now h (taken_as (judged_in joined s h e)) e

-- what is to be done after a copy, by what it means
abbrev pub template_by : Bool → Side → ℕ → Meaning → List Duty
template_by joined s count means.Ignored = emission s
template_by joined s count means.Unwanted = answers_dead s
template_by joined s count means.Opens = syn_came s
template_by joined s count (means.Accepts acknowledged) = if joined then join_answered s else syn_ack_came s
template_by joined s count means.RepeatedSyn = syn_again s
template_by joined s count means.Outside = answers s
template_by joined s count means.Kills = leaves s
template_by joined s count means.Challenged = answers s
template_by joined s count means.Unacknowledging = emission s
template_by joined s count means.Ahead = answers s
template_by joined s count (means.Taken position acknowledged) = copy_came s count

-- A SYN that asks to join is told to the control book, and one that doesn't is refused. Without the peer's HMAC the end is reset,
-- for reason 1, an error of Multipath TCP (RFC 8684, section 3.6).
abbrev pub template_judged : Bool → Side → ℕ → Judged → List Duty
template_judged joined s count (judged.As meaning) = template_by joined s count meaning
template_judged joined s count judged.Asks = join_came s
template_judged joined s count judged.Lacks = refuses s
template_judged joined s count judged.Forged = resets s 1

-- by how many things it says
abbrev pub template_of : Bool → Side → List Heard → Judged → List Duty
template_of joined s items verdict = template_judged joined s (length items) verdict

-- ---- on the path

-- what a copy says to the end
abbrev pub told_at : {C : Type 0} → ℕ → Side → HeardSegment → PathState C → PathState C
told_at now s h p =
    let e = end_at s p in let joined = is_joined p.profile in let verdict = judged_in joined s h e in
    goes_on s (after_judged p.profile s now h verdict e) (template_of joined s (items_of joined s h) verdict) p

-- what is heard at this tick; a copy that doesn't parse is dropped
abbrev pub heard_at : {C : Type 0} → ℕ → Side → Option HeardSegment → PathState C → PathState C
heard_at now s None p = with_agenda (emission s) p
heard_at now s (Some h) p = told_at now s (options_heard (end_at s p) h) p

-- at the path's own tick
abbrev pub copy_heard : {C : Type 0} → Side → Option HeardSegment → PathState C → PathState C
copy_heard s heard p = heard_at p.clock s heard p

-- what the end reads in a copy, by the positions that it expects, where a copy is there and can be read
abbrev pub heard_in : {C : Type 0} → Codec C → Side → Option (Flight C) → PathState C → Option HeardSegment
heard_in k s None p = None
heard_in k s (Some flight) p = k.reads p.profile.spelling (peer s) (expected_by (end_at s p)) flight.carried

-- the copy is taken from the link at its tick, and the end hears it
abbrev pub copy_taken : {C : Type 0} → Codec C → Due → PathState C → PathState C
copy_taken k due p =
    copy_heard due.to (heard_in k due.to (arriving due p.link) p) (record (at_tick due.tick p) { link = after_delivery due p.link })
