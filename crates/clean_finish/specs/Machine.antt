-- What a lane knows of the machine: facts about single parts of it.
use Rattle.std.specs.Prelude.{ℕ, ◌≡◌, ◌+◌, ◌<◌, ◌≤◌, Bool, cond, ◌||◌, if◌then◌else◌, Option, Some, None, List, length, map, All, false, [], ◌∷◌}
use Rattle.sides.specs.declared.side.Side.{Side}
use Rattle.sides.specs.Side.{peer}
use Rattle.link_script.specs.Places.{same_side}
use Rattle.link_model.specs.declared.flight.Flight.{Flight}
use Rattle.link_model.specs.State.{LinkState}
use Rattle.link_model.specs.Laws.{going_to}
use Rattle.link_model.specs.Steps.{due_of, arriving, after_delivery, with_flight, next_number, after_send}
use Rattle.loss_recovery.specs.declared.timers.Timing.{Timing}
use Rattle.loss_recovery.specs.Timers.{opening, heard, measured, timer_settled, settled, stopped}
use Rattle.subflow_send.specs.Records.{Record, SendState, occupied, span_of, Tile}
use Rattle.subflow_send.specs.Rules.{flight}
use Rattle.pace.specs.Rules.{tick_or}

-- ---- the timer

-- the timer as a lane sees it: it rests from something new on until it is settled
abbrev pub seen_timer : Bool → Option ℕ → Option ℕ
seen_timer news timer = if news then None else timer

-- settling is the lane's rule
abbrev pub SettlesAsALane : Type 0
SettlesAsALane = (reason restart : Bool) (now : ℕ) (t : Timing)
    → timer_settled reason restart now t
    ≡ cond reason (Some (tick_or (now + t.rtt.rto) (seen_timer (t.news || restart) t.timer))) None

-- a timeout of a second or more
abbrev pub IsLong : Timing → Type 0
IsLong t = 1000 ≤ t.rtt.rto

-- a timeout stays a second or more as long as no timer runs out
pub record StaysLong : Type 0 where
  pub first : IsLong opening
  pub heard : (t : Timing) → IsLong t → IsLong (heard t)
  pub measured : (since : Option ℕ) (now : ℕ) (t : Timing) → IsLong t → IsLong (measured since now t)
  pub settled : (reason restart : Bool) (now : ℕ) (t : Timing) → IsLong t → IsLong (settled reason restart now t)
  pub stopped : (t : Timing) → IsLong t → IsLong (stopped t)

-- ---- what is under way of an end

-- a piece is no longer than a payload, nor than the positions that it occupies
abbrev pub IsPiece : ℕ → Record → Type 0
IsPiece payload r = (length r.piece ≤ payload) × (length r.piece ≤ occupied r.kind r.piece)

-- The flight is at most what isn't acknowledged and one payload: of the first record a part may be
-- acknowledged.
abbrev pub FlightsAreSmall : Type 0
FlightsAreSmall = (payload : ℕ) (v : SendState) → Tile v.una v.nxt (map span_of v.records) → All (IsPiece payload) v.records
    → flight v + v.una < v.nxt + payload + 1

-- ---- a link on which nothing happens: the laws are of octets, their lemmas of all that can be carried

-- the first copy is the one that arrives, and the others stay
pub record HeadArrives {C : Type 0} (f : Flight C) (rest : List (Flight C)) (link : LinkState C) : Type 0 where
  pub found : arriving (due_of f) link ≡ Some f
  pub gone : after_delivery (due_of f) link ≡ record link { under_way = rest }

-- the copy of a segment that is sent now
abbrev pub copy_of : {C : Type 0} → Side → C → ℕ → LinkState C → Flight C
copy_of from carried now link =
    record { tick = now + link.delay; to = peer from; number = next_number from link; carried = carried }

-- each copy that stands first on a link is found as the one that is due, and is gone once it was delivered
abbrev pub HeadsArrive : Type 0
HeadsArrive = (f : Flight (List ℕ)) (rest : List (Flight (List ℕ))) (link : LinkState (List ℕ))
    → HeadArrives f rest (record link { under_way = f ∷ rest })

-- a segment goes as it is, a delay later, where no line says anything
abbrev pub SegmentsGoPlainly : Type 0
SegmentsGoPlainly =
    (strip alter : Side → List ℕ → List ℕ) (from : Side) (octets : List ℕ) (size now : ℕ) (link : LinkState (List ℕ))
    → link.lines ≡ []
    → (after_send strip alter from octets size now link).under_way ≡ with_flight (copy_of from octets now link) link.under_way

-- a copy more that goes to one side leaves those that go to the other
abbrev pub OthersStay : Type 0
OthersStay = (s : Side) (f : Flight (List ℕ)) (flights : List (Flight (List ℕ))) → same_side f.to s ≡ false
    → going_to s (with_flight f flights) ≡ going_to s flights
