-- By what an end of a path dies: its sixth expiry in a row, a line of the script, a reset that comes, or a duty that resets it.
use Rattle.std.specs.Prelude.{ℕ, ◌≡◌, ◌≤◌, Bool, true, false, Some, List, ◌∷◌, slice_get}
use Rattle.path_segments.specs.Heard.{HeardSegment}
use Rattle.sides.specs.declared.side.Side.{Side}
use Rattle.link_model.specs.declared.flight.Due.{Due}
use Rattle.link_model.specs.Steps.{arriving}
use Rattle.subflow_tcp.specs.declared.verdicts.Meaning.TheVariants.{Kills}
use Rattle.subflow_tcp.specs.Judging.{meaning_of}
use Rattle.subflow_tcp.specs.States.{is_dead}
use Rattle.path_store.specs.declared.lines.LineAction.TheVariants as actions
use Rattle.path_store.specs.declared.lines.LineLeft.{LineLeft}
use Rattle.path_agenda.specs.declared.duty.Duty.{Duty}
use Rattle.path_agenda.specs.declared.duty.Duty.TheVariants as duties
use Rattle.path_agenda.specs.declared.duty.AskDuty.TheVariants as ask_duties
use Rattle.path_agenda.specs.declared.duty.SendDuty.TheVariants as send_duties
use Rattle.path_agenda.specs.declared.duty.StepDuty.TheVariants as step_duties
use Rattle.path_core.specs.Arrival.{copy_of, heard_in}
use Rattle.path_core.specs.Codec.{Codec}
use Rattle.path_core.specs.DssIn.{is_clash}
use Rattle.path_core.specs.Events.{next_event}
use Rattle.path_core.specs.Fallback.{breaks_by_ack}
use Rattle.path_core.specs.OptionsIn.{options_heard}
use Rattle.path_core.specs.State.{PathState, end_at}
use Rattle.path_core.specs.declared.events.Event.TheVariants as happenings
use Rattle.world_laws.specs.declared.member.Member.TheVariants.{App, Path}
use Rattle.world_laws.specs.Actors.{Actor, ActorCrew}
use Rattle.world_laws.specs.Worlds.{WorldState, Turn, after_turn}
use Rattle.whole_paths.specs.Expiries.{RunsOut}

module _ {C : Type 0} where
  -- By the duty an end may die: its join is answered, it is to leave or to be reset, a mapping clashes (RFC 8684, section 3.3.1), or an
  -- acknowledgement or a payload came without the option that it needs (section 3.7).
  abbrev pub is_fatal : PathState C → Duty → Bool
  is_fatal p (duties.Ask ask_duties.JoinAgain) = true
  is_fatal p (duties.Ask (ask_duties.LeaveNoted s)) = true
  is_fatal p (duties.Send (send_duties.BreakReset s reason)) = true
  is_fatal p (duties.Send (send_duties.Reset s)) = true
  is_fatal p (duties.Send (send_duties.ResetNoted s)) = true
  is_fatal p (duties.Step (step_duties.Heard s index)) = is_clash (end_at s p)
  is_fatal p (duties.Step (step_duties.PlainAck s)) = breaks_by_ack p.profile (end_at s p)
  is_fatal p (duties.Step (step_duties.Unmapped s)) = true
  is_fatal p _ = false

  -- by what comes next on a path the end of this side dies
  pub data DiesBy (k : Codec C) (s : Side) (p : PathState C) : Type 0 where
    -- its timer runs out, for the sixth time in a row at least
    sixth : (tick : ℕ) → RunsOut s tick p → 5 ≤ (end_at s p).tcp.timing.expiries → DiesBy k s p
    -- the line by which the path dies
    line : (line : LineLeft) → next_event p ≡ Some (happenings.Takes line) → line.action ≡ actions.Die → DiesBy k s p
    -- a reset that counts (RFC 9293, section 3.10.7.4)
    reset : (due : Due) → next_event p ≡ Some (happenings.Arrives due) → due.to ≡ s → (heard : HeardSegment) → heard_in k s (arriving due p.link) p ≡ Some heard
        → meaning_of (copy_of (options_heard (end_at s p) heard)) (end_at s p).tcp ≡ Kills → DiesBy k s p
    -- A's end joins a connection, and may not
    joins : (tick : ℕ) → next_event p ≡ Some (happenings.Joins tick) → DiesBy k s p
    -- a duty by which an end may die
    duty : (d : Duty) (others : List Duty) → p.agenda ≡ d ∷ others → is_fatal p d ≡ true → DiesBy k s p

  -- as the path becomes this actor: an end that is dead was dead, or died so
  abbrev pub EndsDie : Codec C → Actor C → Actor C → Type 0
  EndsDie k (Path p) (Path q) = (s : Side) → is_dead (end_at s p).tcp.state ≡ false → is_dead (end_at s q).tcp.state ≡ true → DiesBy k s p
  EndsDie k (App a) (App b) = Unit {0}
  EndsDie k _ _ = ⊥

  -- by any turn
  abbrev pub EndsDieOfTheirCauses : Codec C → Type 0
  EndsDieOfTheirCauses k = (w : WorldState C) (turn : Turn) (actor : ℕ) (c : ActorCrew C) → slice_get w.crew actor ≡ Some c
      → (d : ActorCrew C) × (slice_get (after_turn k turn w).crew actor ≡ Some d) × EndsDie k c.member d.member
