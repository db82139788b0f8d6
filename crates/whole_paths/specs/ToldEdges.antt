-- The edge of the window that an end told last, and what it could tell: what a turn makes of both (RFC 9293, section 3.8.6).
use Rattle.std.specs.Prelude.{ℕ, ◌+◌, ◌≡◌, ◌⊎◌, Bool, true, false, List, ◌∷◌}
use Rattle.sides.specs.declared.side.Side.{Side}
use Rattle.subflow_tcp.specs.States.{is_dead}
use Rattle.path_agenda.specs.declared.duty.Duty.{Duty}
use Rattle.path_agenda.specs.declared.duty.Duty.TheVariants as duties
use Rattle.path_agenda.specs.declared.duty.AskDuty.TheVariants as ask_duties
use Rattle.path_agenda.specs.declared.duty.SendDuty.TheVariants as send_duties
use Rattle.path_segments.specs.Laws.{window_told}
use Rattle.path_core.specs.End.{PathEnd}
use Rattle.path_core.specs.Standing.{has_grown, is_connected, tellable_edge}
use Rattle.path_core.specs.State.{PathState, end_at}
use Rattle.path_core.specs.Values.{Carried, values}
use Rattle.world_laws.specs.Openings.{Start}
use Rattle.world_laws.specs.RoundDone.{reached}
use Rattle.world_laws.specs.Worlds.{Turn, after_turn}
use Rattle.whole_paths.specs.Brought.{IsToReset}
use Rattle.whole_paths.specs.Finish.{IsPathAt}

-- as far as the end was told that its side's reassembly book takes bytes
abbrev pub offer : PathEnd → ℕ
offer e = e.receiving.next + e.receiving.window

-- the edge of the window that it told last, by no reset
abbrev pub told : PathEnd → ℕ
told e = e.receiving.told_edge

-- the edge that an end told stays, or is the one that it tells then, in a SYN or rounded to 32 bytes
abbrev pub TellsEdge : PathEnd → PathEnd → Type 0
TellsEdge e f = (told f ≡ told e) ⊎ ((syn : Bool) × (told f ≡ e.receiving.next + window_told syn e.receiving.window))

-- What a turn makes of both: the offer stays, and what is told is part of it, or stays; or the end asks its book, as a turn begins (and tells its peer
-- next if the window has grown enough), or behind a copy; or the end dies, or is reset.
pub data ToldOn (t : Side) (p q : PathState Carried) : Type 0 where
  keeps : (end_at t q).receiving.next ≡ (end_at t p).receiving.next → (end_at t q).receiving.window ≡ (end_at t p).receiving.window → TellsEdge (end_at t p) (end_at t q) → ToldOn t p q
  begins : (others : List Duty) → p.agenda ≡ duties.Ask (ask_duties.Window t) ∷ others → told (end_at t q) ≡ told (end_at t p) → ToldOn t p q
  asks : (others : List Duty) → p.agenda ≡ duties.Ask (ask_duties.AckOut t) ∷ others → told (end_at t q) ≡ told (end_at t p) → ToldOn t p q
  dies : is_dead (end_at t q).tcp.state ≡ true → ToldOn t p q
  breaks : IsToReset t p.agenda ⊎ IsToReset t q.agenda → ToldOn t p q

-- As the book was asked at the beginning of a turn, where the window's growth comes next: it is told next, or the window hasn't grown enough.
abbrev pub UpdatesIfGrown : Side → PathState Carried → PathState Carried → Type 0
UpdatesIfGrown t p q = (others : List Duty) → p.agenda ≡ duties.Ask (ask_duties.Window t) ∷ duties.Send (send_duties.Update t) ∷ others
    → is_connected (end_at t p).tcp.state ≡ true
    → (q ≡ p) ⊎ ((q.agenda ≡ duties.Send (send_duties.Update t) ∷ others) ⊎ (has_grown q.profile (end_at t q) ≡ false))

-- As an Update or an acknowledgement goes, the window is told as the end could tell it then.
abbrev pub UpdatesTellAll : Side → PathState Carried → PathState Carried → Type 0
UpdatesTellAll t p q = (others : List Duty) → (p.agenda ≡ duties.Send (send_duties.Update t) ∷ others) ⊎ (p.agenda ≡ duties.Send (send_duties.Acknowledge t) ∷ others)
    → (q ≡ p) ⊎ (told (end_at t q) ≡ tellable_edge (end_at t q))

-- by each turn, on path 0
abbrev pub WhatIsToldGoesOn : Type 0
WhatIsToldGoesOn = (start : Start) (turns : List Turn) (turn : Turn) → let w = reached values start turns in (p q : PathState Carried)
    → IsPathAt 0 w p → IsPathAt 0 (after_turn values turn w) q → (t : Side) → ToldOn t p q × UpdatesIfGrown t p q × UpdatesTellAll t p q
