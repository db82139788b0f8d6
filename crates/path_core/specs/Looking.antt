-- What is seen of a path from outside: its ends' measures, what its next step hands to the link, and what it takes from it.
use Rattle.std.specs.Prelude.{◌≡◌, ℕ, max, if◌then◌else◌, Bool, true, false, IfSome, IsOk, Option, Some, None, option_map, List, [], ◌∷◌, length, drop}
use Rattle.std.specs.Int.{w16}
use Rattle.sides.specs.declared.side.Side.{Side}
use Rattle.sides.specs.Side.{peer}
use Rattle.octet_text.specs.Octets.{number_at}
use Rattle.link_model.specs.declared.flight.Due.{Due}
use Rattle.link_model.specs.declared.flight.Flight.{Flight}
use Rattle.link_model.specs.Steps.{arriving, next_number, octets_waiting as octets_in_queue, segment_fate}
use Rattle.segment_wire.specs.declared.head.Addresses.{Addresses}
use Rattle.segment_wire.specs.Reading.{header_len, segment_meaning}
use Rattle.segment_wire.specs.Paths.{addresses_from}
use Rattle.rtt_timer.specs.Estimates.{srtt_of}
use Rattle.subflow_send.specs.Records.{Record}
use Rattle.path_segments.specs.Spelled.{PlainSegment}
use Rattle.actor_desk.specs.declared.ask.Ask.{Ask}
use Rattle.actor_desk.specs.declared.ask.Ask.TheVariants as asks
use Rattle.actor_desk.specs.declared.ask.LocalStep.TheVariants as steps
use Rattle.actor_desk.specs.declared.ask.Reply.{Reply}
use Rattle.path_agenda.specs.declared.duty.Duty.{Duty}
use Rattle.path_agenda.specs.declared.duty.Duty.TheVariants as duties
use Rattle.path_agenda.specs.declared.duty.SendDuty.{SendDuty}
use Rattle.path_agenda.specs.declared.duty.SendDuty.TheVariants as sends_of
use Rattle.path_agenda.specs.declared.duty.StepDuty.{StepDuty}
use Rattle.path_agenda.specs.declared.duty.StepDuty.TheVariants as steps_of
use Rattle.path_agenda.specs.declared.heard.Heard.{Heard}
use Rattle.path_agenda.specs.declared.heard.Heard.TheVariants as says
use Rattle.path_core.specs.declared.events.Event.{Event}
use Rattle.path_core.specs.declared.events.Event.TheVariants as happenings
use Rattle.path_core.specs.declared.looking.Arriving.{Arriving}
use Rattle.path_core.specs.declared.looking.Departing.{Departing}
use Rattle.path_core.specs.declared.looking.ToSend.{ToSend}
use Rattle.path_core.specs.declared.said.SegmentKind.{SegmentKind}
use Rattle.path_core.specs.declared.said.SegmentKind.TheVariants as kinds
use Rattle.path_core.specs.Emission.{first_unsent}
use Rattle.path_core.specs.Codec.{Codec}
use Rattle.path_core.specs.Events.{next_event, tick_of}
use Rattle.path_core.specs.Handover.{handed, sends}
use Rattle.path_core.specs.Octets.{octets, made}
use Rattle.path_core.specs.Said.{said_by}
use Rattle.path_core.specs.State.{PathState, end_at, path_of}
use Rattle.path_core.specs.Steps.{asks_of, takes}
use Rattle.path_core.specs.DssIn.{is_clash}
use Rattle.path_core.specs.Treating.{item_of}
use Rattle.path_core.specs.Fallback.{breaks_by_ack}

-- ---- what an end measured, and how much it may have under way

-- SRTT in whole ticks; none before the first measurement (RFC 6298, section 2)
abbrev pub smoothed_rtt : {C : Type 0} → Side → PathState C → Option ℕ
smoothed_rtt s p = option_map srtt_of (end_at s p).tcp.timing.rtt.estimate

-- RTO in ticks (RFC 6298, section 2)
abbrev pub retransmission_timeout : {C : Type 0} → Side → PathState C → ℕ
retransmission_timeout s p = (end_at s p).tcp.timing.rtt.rto

-- ssthresh in octets (RFC 5681, section 3.1)
abbrev pub slow_start_threshold : {C : Type 0} → Side → PathState C → ℕ
slow_start_threshold s p = (end_at s p).tcp.congestion.reno.ssthresh

-- cwnd in octets (RFC 5681, section 3.1)
abbrev pub congestion_window : {C : Type 0} → Side → PathState C → ℕ
congestion_window s p = (end_at s p).tcp.congestion.reno.window

-- the octets that wait before the link as the round ends
abbrev pub octets_waiting : {C : Type 0} → Side → PathState C → ℕ
octets_waiting s p = octets_in_queue s p.until p.link

-- ---- a segment that is sent

abbrev pub to_send : Side → SegmentKind → Option ToSend
to_send s kind = Some (record { from = s; kind = kind })

-- the segment of a duty that sends one
abbrev pub send_of : SendDuty → Option ToSend
send_of (sends_of.Update s) = to_send s kinds.Ack
send_of (sends_of.Acknowledge s) = to_send s kinds.Ack
send_of (sends_of.Syn s) = to_send s kinds.Unsent
send_of (sends_of.FastClose s) = to_send s kinds.FastClose
send_of (sends_of.Notice s) = to_send s kinds.Notice
send_of (sends_of.DataFin s) = to_send s kinds.DataFin
send_of (sends_of.Fin s) = to_send s kinds.Fin
send_of (sends_of.SynAck s) = to_send s kinds.SynAck
send_of (sends_of.Refuse s) = to_send s kinds.Refusal
send_of (sends_of.Again s) = to_send s kinds.First
send_of (sends_of.Answer s) = to_send s kinds.Answer
send_of (sends_of.ResetAnswer s) = to_send s kinds.DeadAnswer
send_of (sends_of.Resend s) = to_send s kinds.Resend
send_of (sends_of.BreakReset s reason) = to_send s (kinds.Reset (Some reason))
send_of (sends_of.Reset s) = to_send s (kinds.Reset None)
send_of (sends_of.ResetNoted s) = to_send s (kinds.Reset None)

-- the first record that is to be sent, where there is one
abbrev pub unsent_sends : Side → Option Record → Option ToSend
unsent_sends s None = None
unsent_sends s (Some r) = to_send s kinds.Unsent

module _ {C : Type 0} where
  -- the first step of a break is the reset, unless what is to be acknowledged is asked once more
  abbrev pub broken_by : Side → ℕ → PathState C → Option ToSend
  broken_by s reason p = if (end_at s p).treated.asked then None else to_send s (kinds.Reset (Some reason))

  -- a mapping breaks the path where it clashes
  abbrev pub mapping_sends : Side → PathState C → Option ToSend
  mapping_sends s p = if is_clash (end_at s p) then broken_by s 1 p else None

  -- of all that is heard only a mapping does
  abbrev pub heard_sends : Side → Option Heard → PathState C → Option ToSend
  heard_sends s (Some (says.Mapping fin)) p = mapping_sends s p
  heard_sends s _ p = None

  -- an acknowledgement without a Data ACK may break it
  abbrev pub ack_sends : Side → PathState C → Option ToSend
  ack_sends s p = if breaks_by_ack p.profile (end_at s p) then broken_by s 6 p else None

  -- the segment that a duty sends that sends, asks or takes an event, as the path stands
  abbrev pub step_sends : StepDuty → PathState C → Option ToSend
  step_sends (steps_of.Data s) p = unsent_sends s (first_unsent (end_at s p))
  step_sends (steps_of.Heard s index) p = heard_sends s (item_of index (end_at s p)) p
  step_sends (steps_of.PlainAck s) p = ack_sends s p
  step_sends (steps_of.Unmapped s) p = broken_by s 6 p
  step_sends _ p = None

  -- the segment that a duty sends, if it sends one
  abbrev pub duty_sends : Duty → PathState C → Option ToSend
  duty_sends (duties.Send d) p = send_of d
  duty_sends (duties.Step d) p = step_sends d p
  duty_sends _ p = None

  abbrev pub first_sends : List Duty → PathState C → Option ToSend
  first_sends [] p = None
  first_sends (d ∷ ds) p = duty_sends d p

-- as the link takes it
abbrev pub departing_as : PathState (List ℕ) → ToSend → Departing
departing_as p t =
    let octets = made p.profile.spelling t.from (said_by t.kind p.profile t.from (end_at t.from p)) in
    record {
      from = t.from;
      number = next_number t.from p.link;
      octets = octets;
      fate = segment_fate t.from (next_number t.from p.link) (length octets) p.clock p.link;
    }

-- the segment that the next step hands to the link, if it hands one
abbrev pub departing : PathState (List ℕ) → Option Departing
departing p = option_map (departing_as p) (first_sends p.agenda p)

-- the step that tells a segment: its number, the octets of its payload, its checksum field
abbrev pub step_told : Departing → Ask
step_told d = asks.Local (steps.Sent d.from d.number (length (drop (header_len d.octets) d.octets)) (number_at w16 d.octets 16))

-- a departing segment's octets are a segment of its side on the path of this number
abbrev pub IsSegmentOn : ℕ → Departing → Type 0
IsSegmentOn path d = IsOk (segment_meaning (addresses_from path d.from) d.octets)

-- the path's next step is the one that tells the segment that departs, if one does
abbrev pub IsTold : Option Departing → PathState (List ℕ) → Type 0
IsTold d p = IfSome d (λ d. asks_of octets p ≡ Some (step_told d))

-- ---- the law: what a step hands over is what it tells, and no other step tells a segment

abbrev pub tells_a_segment : Option Ask → Bool
tells_a_segment (Some (asks.Local (steps.Sent from copy len sum))) = true
tells_a_segment _ = false

module _ {C : Type 0} where
  abbrev pub segment_sent : PathState C → ToSend → PlainSegment
  segment_sent p t = said_by t.kind p.profile t.from (end_at t.from p)

  -- the step tells this segment, and whatever it is answered, the link has it then
  pub record Hands (k : Codec C) (p : PathState C) (t : ToSend) : Type 0 where
    pub told : asks_of k p ≡ Some (sends k t.from (segment_sent p t) p)
    pub taken : (r : Reply) → (takes k r p).link ≡ handed k t.from (segment_sent p t) p

  -- the next step hands over this segment, or, where there is none, tells of none
  abbrev pub HandsOrTellsNone : Codec C → PathState C → Option ToSend → Type 0
  HandsOrTellsNone k p None = tells_a_segment (asks_of k p) ≡ false
  HandsOrTellsNone k p (Some t) = Hands k p t

  abbrev pub EachSegmentIsTold : Codec C → Type 0
  EachSegmentIsTold k = (p : PathState C) → HandsOrTellsNone k p (first_sends p.agenda p)

-- ---- a copy that arrives

-- by its value
pub record Arrived : Type 0 where
  pub to : Side
  pub octets : List ℕ
  pub addresses : Addresses

abbrev pub shown_arriving : Arriving → Arrived
shown_arriving a = record { to = a.to; octets = a.octets.now; addresses = a.addresses }

abbrev pub arrived_as : ℕ → Side → Flight (List ℕ) → Arrived
arrived_as path to f = record { to = to; octets = f.carried; addresses = addresses_from path (peer to) }

-- the copy, where it is under way
abbrev pub arrived : Due → PathState (List ℕ) → Option Arrived
arrived due p = option_map (arrived_as (path_of p) due.to) (arriving due p.link)

-- the copy of an event, where it is an arrival
abbrev pub copy_arriving : Option Event → PathState (List ℕ) → Option Arrived
copy_arriving (Some (happenings.Arrives due)) p = arrived due p
copy_arriving _ p = None

-- the copy that arrives next, only where the duty of events stands first
abbrev pub first_arrival : List Duty → PathState (List ℕ) → Option Arrived
first_arrival (duties.Step steps_of.Events ∷ ds) p = copy_arriving (next_event p) p
first_arrival _ p = None

-- the copy that arrives by the next step, if one does
abbrev pub next_arrival : PathState (List ℕ) → Option Arrived
next_arrival p = first_arrival p.agenda p

-- ---- the tick of the next step

module _ {C : Type 0} where
  -- the tick of an event, never one that is past; the path's clock where there is none
  abbrev pub tick_with : Option Event → PathState C → ℕ
  tick_with None p = p.clock
  tick_with (Some event) p = max p.clock (tick_of event)

  -- the first duty may be the one of events
  abbrev pub first_tick : List Duty → PathState C → ℕ
  first_tick (duties.Step steps_of.Events ∷ ds) p = tick_with (next_event p) p
  first_tick _ p = p.clock

  -- The tick at which the next step stands: that of the line, the copy, the timer or the join that it takes, else the path's tick.
  abbrev pub next_tick : PathState C → ℕ
  next_tick p = first_tick p.agenda p
