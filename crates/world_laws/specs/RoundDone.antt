-- The round that a run is in, and what is done at its end.
use Rattle.std.specs.Prelude.{ℕ, ◌≡◌, ◌+◌, ◌*◌, true, if◌then◌else◌, Some, List, [], ◌∷◌, ◌++◌, slice_get}
use Rattle.path_core.specs.Codec.{Codec}
use Rattle.world_laws.specs.declared.member.Member.TheVariants.{App, Path}
use Rattle.world_laws.specs.Actors.{Actor, ActorCrew}
use Rattle.world_laws.specs.Fine.{IsFine, top_after}
use Rattle.world_laws.specs.Laws.{NothingDueIsLeft}
use Rattle.world_laws.specs.Openings.{Start, opened_world}
use Rattle.world_laws.specs.RoundEnd.{ReadersAreDone}
use Rattle.world_laws.specs.RoundNumbers.{GrantsAreDone, PathsAskForAll, ReadersCaughtUp}
use Rattle.world_laws.specs.Worlds.{WorldState, Turn, all_over, greatest, end_round, after_turn, world_run, AreLawful}

-- A round: its number, the first one being 0; the greatest stamp as the round before it ended; and the world in which it began.
pub record RoundState (C : Type 0) : Type 0 where
  pub number : ℕ
  pub top : ℕ
  pub begun : WorldState C

module _ {C : Type 0} where
  abbrev pub first_round : Start → RoundState C
  first_round start = record { number = 0; top = 0; begun = opened_world start }

  -- after a round's end in this world: the next one, where each turn was over
  abbrev pub next_round : WorldState C → RoundState C → RoundState C
  next_round w r = if all_over w.crew
      then record { number = r.number + 1; top = greatest 0 w.crew; begun = end_round w } else r

  -- after a turn in this world
  abbrev pub round_by : Turn → WorldState C → RoundState C → RoundState C
  round_by (Turn.Step actor) w r = r
  round_by Turn.Round w r = next_round w r

  -- after these turns from this world on
  abbrev pub round_after : Codec C → List Turn → WorldState C → RoundState C → RoundState C
  round_after k [] w r = r
  round_after k (turn ∷ turns) w r = round_after k turns (after_turn k turn w) (round_by turn w r)

  -- the world after these turns of a connection
  abbrev pub reached : Codec C → Start → List Turn → WorldState C
  reached k start turns = world_run k turns (opened_world start)

  -- the round that goes on in it
  abbrev pub round_of : Codec C → Start → List Turn → RoundState C
  round_of k start turns = round_after k turns (opened_world start) (first_round start)

  -- ---- its end

  -- the round of a path ends at this tick
  abbrev pub EndsAt : ℕ → Actor C → Type 0
  EndsAt tick (App a) = Unit {0}
  EndsAt tick (Path p) = p.until ≡ tick

  -- on each path the round of number r ends at tick 100 (r + 1)
  pub record EndsOnTime (r : RoundState C) (w : WorldState C) : Type 0 where
    pub each : (actor : ℕ) (c : ActorCrew C) → slice_get w.crew actor ≡ Some c
        → EndsAt (100 * (r.number + 1)) c.member

  -- Where all turns of a round are over. No line, copy or timer that was due before the round's end is left. Each end of a path
  -- that may still ask for bytes, with room in its window for a full segment, was refused the last grant of the round, and asked for all
  -- that was written as the round began. Each reader was told the end, or read as much as a side buffers, or its last read found nothing;
  -- and it read all that had arrived as the round began.
  pub record RoundIsDone (r : RoundState C) (w : WorldState C) : Type 0 where
    pub over : all_over w.crew ≡ true
    pub tick : EndsOnTime r w
    pub due : NothingDueIsLeft w
    pub grants : GrantsAreDone r.begun w
    pub asked : PathsAskForAll r.begun w
    pub readers : ReadersAreDone w
    pub caught_up : ReadersCaughtUp r.begun w

-- ---- laws, over every list of turns

module _ {C : Type 0} (k : Codec C) where
  -- at every moment the round that goes on ends on each path at its tick
  abbrev pub RoundsEndOnTime : Type 0
  RoundsEndOnTime =
      (start : Start) (turns : List Turn) → EndsOnTime (round_of k start turns) (reached k start turns)

  -- after turns with which all turns of a round are over
  abbrev pub RoundsAreDone : Type 0
  RoundsAreDone =
      (start : Start) (turns : List Turn) → all_over (reached k start turns).crew ≡ true
      → RoundIsDone (round_of k start turns) (reached k start turns)

  -- at each end of a round in lawful turns, as serial turns are, all that was due is done
  abbrev pub LawfulRoundsAreDone : Type 0
  LawfulRoundsAreDone =
      (start : Start) (before later : List Turn)
      → AreLawful k (before ++ Turn.Round ∷ later) (opened_world start)
      → RoundIsDone (round_of k start before) (reached k start before)

  -- a step or a round's end keeps lists and journals in order, which they are from the opening on; they are chained above the
  -- greatest stamp as the last round ended
  pub record StaysFine : Type 0 where
    pub always : (start : Start) (turns : List Turn) → IsFine (round_of k start turns).top (reached k start turns)
    pub turns : (turn : Turn) (top : ℕ) (w : WorldState C) → IsFine top w → IsFine (top_after turn w top) (after_turn k turn w)
