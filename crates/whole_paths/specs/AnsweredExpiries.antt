-- How each expiry of an end is answered, so that the end hears an acceptable segment before its timer runs out again: 400 ticks there at
-- most and 400 back, where no segment of the exchange is harmed, and the timer waits for 1,000 at least (RFC 6298, section 2).
use Rattle.std.specs.Prelude.{ℕ, ◌+◌, ◌-◌, ◌^◌, ◌≡◌, ◌<◌, ◌≤◌, ◌⊎◌, true, false, IfSome, None, Some, List, ◌∷◌, length}
use Rattle.sides.specs.declared.side.Side.{Side}
use Rattle.sides.specs.Side.{peer}
use Rattle.path_segments.specs.Spelled.{PlainSegment}
use Rattle.link_model.specs.declared.flight.Flight.{Flight}
use Rattle.link_model.specs.Steps.{due_of}
use Rattle.subflow_tcp.specs.States.{is_dead}
use Rattle.path_agenda.specs.declared.duty.Duty.{Duty}
use Rattle.path_agenda.specs.declared.duty.Duty.TheVariants as duties
use Rattle.path_agenda.specs.declared.duty.StepDuty.TheVariants as step_duties
use Rattle.path_core.specs.Events.{next_event}
use Rattle.path_core.specs.Handover.{handed}
use Rattle.path_core.specs.OptionsOut.{ack_said}
use Rattle.path_core.specs.State.{PathState, end_at}
use Rattle.path_core.specs.Values.{Carried, as_arrived, values}
use Rattle.path_core.specs.declared.events.Event.TheVariants as happenings
use Rattle.world_laws.specs.Openings.{Start}
use Rattle.world_laws.specs.RoundDone.{reached}
use Rattle.world_laws.specs.Worlds.{WorldState, Turn, after_turn}
use Rattle.whole_paths.specs.AsFar.{stage}
use Rattle.whole_paths.specs.Copies.{IsUnderWay}
use Rattle.whole_paths.specs.Expiries.{IsToSend, IsToSendAgain, SendsAgain}
use Rattle.whole_paths.specs.ExpiriesInARow.{in_a_row}
use Rattle.whole_paths.specs.Finish.{IsPathAt}
use Rattle.whole_paths.specs.Reasons.{IsOutstanding}

-- by a turn behind fewer than 2^64 - 1 path 0 becomes another one, and its ends live before it and after it
pub record IsLivingTurn (start : Start) (turns : List Turn) (turn : Turn) (p q : PathState Carried) : Type 0 where
  pub before : IsPathAt 0 (reached values start turns) p
  pub after : IsPathAt 0 (after_turn values turn (reached values start turns)) q
  pub lived : (s : Side) → is_dead (end_at s p).tcp.state ≡ false
  pub lives : (s : Side) → is_dead (end_at s q).tcp.state ≡ false
  pub few : length turns < 2 ^ 64 - 1

-- the copy comes next
pub record ComesNext (f : Flight Carried) (p : PathState Carried) : Type 0 where
  pub others : List Duty
  pub first : p.agenda ≡ duties.Step step_duties.Events ∷ others
  pub next : next_event p ≡ Some (happenings.Arrives (due_of f))

-- the peer of this side's end, which has both SYNs, owes it an acknowledgement
pub record IsOwed (s : Side) (p : PathState Carried) : Type 0 where
  pub opened : 2 ≤ stage (end_at s p).tcp.state
  pub ack : (end_at (peer s) p).tcp.due.ack ≡ true

-- the end is to send again, and something of it is outstanding
pub record ResendsNext (s : Side) (p : PathState Carried) : Type 0 where
  pub next : IsToSendAgain s p
  pub outstanding : IsOutstanding (end_at s p)

-- `Wants s x p`: the peer answers the segment that the end of side s sent again. `Ends s x p`: the segment ends the end's expiries in a row.
-- `Opens s p`: the peer opens by it, and is to send its SYN/ACK.
module _ (Wants Ends : Side → PlainSegment → PathState Carried → Type 0) (Opens : Side → PathState Carried → Type 0) where
  -- where the exchange stands that an expiry of this side's end began, which hears of it by this tick
  pub data IsHeardBy (s : Side) (by : ℕ) (p : PathState Carried) : Type 0 where
    -- the end is to send again
    resends : p.clock + 800 ≤ by → ResendsNext s p → IsHeardBy s by p
    -- what it sent again is under way
    goes : (f : Flight Carried) → IsUnderWay f p → f.to ≡ peer s → f.tick + 400 ≤ by → Wants s (as_arrived f.carried) p → IsHeardBy s by p
    -- the peer owes an acknowledgement
    owes : p.clock + 400 ≤ by → IsOwed s p → IsHeardBy s by p
    -- the peer opens, or is to send its SYN/ACK again
    opens : p.clock + 400 ≤ by → Opens s p → IsHeardBy s by p
    -- what it answered is under way
    returns : (f : Flight Carried) → IsUnderWay f p → f.to ≡ s → f.tick ≤ by → Ends s (as_arrived f.carried) p → IsHeardBy s by p

  -- the exchange goes on, and is over before the timer runs out
  pub record IsAnsweredInTime (s : Side) (p : PathState Carried) : Type 0 where
    pub by : ℕ
    pub heard : IsHeardBy s by p
    pub soon : by ≤ p.clock + 800
    pub early : IfSome (end_at s p).tcp.timing.timer (λ tick. by < tick)

  -- so it is on path 0
  pub record IsAnsweredAt (s : Side) (w : WorldState Carried) : Type 0 where
    pub path : PathState Carried
    pub here : IsPathAt 0 w path
    pub in_time : IsAnsweredInTime s path

  -- as the path becomes another one: the peer opens still, at the same tick, or the link takes what ends the row; or that ends
  pub data OpensOn (s : Side) (p q : PathState Carried) : Type 0 where
    opens : q.clock ≡ p.clock → Opens s q → OpensOn s p q
    goes : (x : PlainSegment) → q.link ≡ handed values (peer s) x p → q.clock ≡ p.clock → Ends s x q → OpensOn s p q
    over : in_a_row (end_at s q) ≡ 0 → OpensOn s p q

  -- what holds then, or the row is over
  abbrev pub Unless : Side → PathState Carried → Type 0 → Type 0
  Unless s q X = X ⊎ (in_a_row (end_at s q) ≡ 0)

  -- What the segments mean to the ends, by each turn between living ends. The row may end at any moment.
  pub record SegmentsMeanSo (start : Start) : Type 0 where
    pub goes_again : (turns : List Turn) (turn : Turn) (p q : PathState Carried) → IsLivingTurn start turns turn p q → (s : Side) → IsToSend s p
        → IsOutstanding (end_at s p) → (h : SendsAgain values s p q) → Unless s q (Wants s h.segment q)
    pub replies : (turns : List Turn) (turn : Turn) (p q : PathState Carried) → IsLivingTurn start turns turn p q → (s : Side) (x : PlainSegment)
        → IsOwed s p → x ≡ ack_said p.profile (peer s) (end_at (peer s) p).tcp.send.nxt None (end_at (peer s) p) → Unless s q (Ends s x q)
    pub wants_on : (turns : List Turn) (turn : Turn) (p q : PathState Carried) → IsLivingTurn start turns turn p q → (s : Side) (x : PlainSegment)
        → Wants s x p → Unless s q (Wants s x q)
    pub ends_on : (turns : List Turn) (turn : Turn) (p q : PathState Carried) → IsLivingTurn start turns turn p q → (s : Side) (x : PlainSegment)
        → Ends s x p → Unless s q (Ends s x q)
    pub wants_come : (turns : List Turn) (turn : Turn) (p q : PathState Carried) → IsLivingTurn start turns turn p q → (s : Side) (f : Flight Carried)
        → IsUnderWay f p → f.to ≡ peer s → Wants s (as_arrived f.carried) p → ComesNext f p → (q ≡ p) ⊎ Unless s q (IsOwed s q ⊎ Opens s q)
    pub ends_come : (turns : List Turn) (turn : Turn) (p q : PathState Carried) → IsLivingTurn start turns turn p q → (s : Side) (f : Flight Carried)
        → IsUnderWay f p → f.to ≡ s → Ends s (as_arrived f.carried) p → ComesNext f p → (q ≡ p) ⊎ (in_a_row (end_at s q) ≡ 0)
    pub opens_on : (turns : List Turn) (turn : Turn) (p q : PathState Carried) → IsLivingTurn start turns turn p q → (s : Side) → Opens s p → OpensOn s p q
    pub opens_first : (turns : List Turn) (p : PathState Carried) → IsPathAt 0 (reached values start turns) p → ((u : Side) → is_dead (end_at u p).tcp.state ≡ false)
        → (s : Side) → Opens s p → (others : List Duty) → p.agenda ≡ duties.Step step_duties.Events ∷ others → ⊥
