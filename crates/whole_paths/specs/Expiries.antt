-- What an expiry makes of a path: the first record goes again, and the timer runs anew (RFC 6298, section 5, rules 5.4 to 5.6).
use Rattle.std.specs.Prelude.{ℕ, ◌+◌, ◌*◌, ◌≡◌, ◌<◌, ◌≤◌, ◌⊎◌, min, true, false, Some, List, [], ◌∷◌, slice_get}
use Rattle.sides.specs.declared.side.Side.{Side}
use Rattle.path_segments.specs.Spelled.{PlainSegment}
use Rattle.subflow_send.specs.Records.{Record}
use Rattle.subflow_send.specs.Rules.{is_fin}
use Rattle.subflow_tcp.specs.Emitting.{acknowledged_in, is_syn}
use Rattle.subflow_tcp.specs.States.{is_dead}
use Rattle.path_agenda.specs.Agenda.{emission, expired}
use Rattle.path_agenda.specs.declared.duty.Duty.{Duty}
use Rattle.path_agenda.specs.declared.duty.Duty.TheVariants as duties
use Rattle.path_agenda.specs.declared.duty.SendDuty.TheVariants as send_duties
use Rattle.path_agenda.specs.declared.duty.StepDuty.TheVariants as step_duties
use Rattle.path_core.specs.Codec.{Codec}
use Rattle.path_core.specs.Emission.{ack_resent}
use Rattle.path_core.specs.End.{PathEnd}
use Rattle.path_core.specs.Events.{next_event}
use Rattle.path_core.specs.Handover.{handed}
use Rattle.path_core.specs.OptionsOut.{record_options}
use Rattle.path_core.specs.Profile.{Profile}
use Rattle.path_core.specs.State.{PathState, end_at}
use Rattle.path_core.specs.declared.events.Event.TheVariants as happenings
use Rattle.world_laws.specs.declared.member.Member.TheVariants.{App, Path}
use Rattle.world_laws.specs.Actors.{Actor, ActorCrew}
use Rattle.world_laws.specs.Worlds.{WorldState, Turn, after_turn}
use Rattle.whole_paths.specs.Reasons.{IsOutstanding}

-- The options are those of the record, what is acknowledged is RCV.NXT, as at this end (RFC 8684, section 3.3; RFC 9293, section 3.10.7.4).
pub record IsSaidAt (c : Profile) (s : Side) (r : Record) (e : PathEnd) (x : PlainSegment) : Type 0 where
  pub options : x.options ≡ record_options r.kind c s r e
  pub acknowledged : x.acknowledged ≡ acknowledged_in e.tcp

-- the segment is that of the record
pub record IsSegmentOf (r : Record) (x : PlainSegment) : Type 0 where
  pub position : x.position ≡ r.pos
  pub syn : x.syn ≡ is_syn r.kind
  pub fin : x.fin ≡ is_fin r.kind
  pub rst : x.rst ≡ false
  pub payload : x.payload ≡ r.piece

module _ {C : Type 0} where
  -- the timer of this side's end runs out next, at this tick, and nothing is to be done before
  pub record RunsOut (s : Side) (tick : ℕ) (p : PathState C) : Type 0 where
    pub next : next_event p ≡ Some (happenings.Fires s tick)
    pub others : List Duty
    pub first : p.agenda ≡ duties.Step step_duties.Events ∷ others

  -- the end sends again before anything else
  abbrev pub IsToSend : Side → PathState C → Type 0
  IsToSend s p = p.agenda ≡ duties.Send (send_duties.Resend s) ∷ emission s

  -- or once the bytes are given back that its path was granted
  abbrev pub IsToSendAgain : Side → PathState C → Type 0
  IsToSendAgain s p = (p.agenda ≡ expired s) ⊎ IsToSend s p

  -- The end is to send again, and its timer runs anew, twice as long, and for a minute at most. What was outstanding is so still.
  pub record IsTimedAgain (s : Side) (p q : PathState C) : Type 0 where
    pub next : IsToSendAgain s q
    pub outstanding : IsOutstanding (end_at s p) → IsOutstanding (end_at s q)
    pub timer : (end_at s q).tcp.timing.timer ≡ Some (q.clock + min 60000 (2 * (end_at s p).tcp.timing.rtt.rto))

  -- an expiry: up to the fifth without an acceptable segment in between the end goes on, and the sixth ends it
  pub record Expires (s : Side) (p q : PathState C) : Type 0 where
    pub again : (end_at s p).tcp.timing.expiries < 5 → IsTimedAgain s p q
    pub sixth : 5 ≤ (end_at s p).tcp.timing.expiries → is_dead (end_at s q).tcp.state ≡ true

  -- The link takes the segment of the first record that isn't acknowledged. Where there is none that is an acknowledgement with what isn't answered,
  -- or else the probe, one position before SND.UNA.
  pub record SendsAgain (k : Codec C) (s : Side) (p q : PathState C) : Type 0 where
    pub segment : PlainSegment
    pub first : (r : Record) (others : List Record) → (end_at s p).tcp.send.records ≡ r ∷ others → IsSegmentOf r segment
        × IsSaidAt p.profile s r (end_at s p) segment
    pub without : (end_at s p).tcp.send.records ≡ [] → segment ≡ ack_resent p.profile s (end_at s p)
    pub taken : q.link ≡ handed k s segment p

  -- what becomes of a path whose timer runs out, and of one that is to send again, unless it stays as it is
  pub record GoesAgain (k : Codec C) (p q : PathState C) : Type 0 where
    pub fires : (s : Side) (tick : ℕ) → RunsOut s tick p → (q ≡ p) ⊎ Expires s p q
    pub gives_back : (s : Side) → p.agenda ≡ expired s → (q ≡ p) ⊎ (IsToSend s q × (end_at s q ≡ end_at s p))
    pub sends : (s : Side) → IsToSend s p → (q ≡ p) ⊎ SendsAgain k s p q

  -- as the path becomes this actor
  abbrev pub PathsGoAgain : Codec C → Actor C → Actor C → Type 0
  PathsGoAgain k (Path p) (Path q) = GoesAgain k p q
  PathsGoAgain k (App a) (App b) = Unit {0}
  PathsGoAgain k _ _ = ⊥

  -- by any turn
  abbrev pub WhatRunsOutGoesAgain : Codec C → Type 0
  WhatRunsOutGoesAgain k = (w : WorldState C) (turn : Turn) (actor : ℕ) (c : ActorCrew C) → slice_get w.crew actor ≡ Some c
      → (d : ActorCrew C) × (slice_get (after_turn k turn w).crew actor ≡ Some d) × PathsGoAgain k c.member d.member
