-- What becomes of a DATA_FIN that an end takes: the peer's came, once the reassembly book is told where the peer's stream ends (RFC 8684,
-- section 3.3.3).
use Rattle.std.specs.Prelude.{ℕ, zero, ◌^◌, ◌≡◌, ◌<◌, ◌≤◌, ◌⊎◌, Bool, true, false, Option, None, Some, List, [], ◌∷◌, length, slice_get}
use Rattle.path_segments.specs.Laws.{meant}
use Rattle.path_segments.specs.Options.{PlainOption}
use Rattle.path_segments.specs.Spelled.{PlainSegment}
use Rattle.path_segments.specs.declared.segment.PathMapping.TheVariants.{End}
use Rattle.path_segments.specs.declared.segment.PathOption.TheVariants.{Dss}
use Rattle.sides.specs.declared.side.Side.{Side}
use Rattle.subflow_tcp.specs.States.{is_dead}
use Rattle.path_agenda.specs.declared.duty.Duty.{Duty}
use Rattle.path_agenda.specs.declared.duty.Duty.TheVariants as duties
use Rattle.path_agenda.specs.declared.duty.AskDuty.TheVariants as ask_duties
use Rattle.path_agenda.specs.declared.duty.SilentDuty.TheVariants as silent_duties
use Rattle.path_agenda.specs.declared.duty.StepDuty.TheVariants as step_duties
use Rattle.path_agenda.specs.declared.heard.Heard.TheVariants as says
use Rattle.path_core.specs.Choices.{item_at}
use Rattle.path_core.specs.Codec.{Codec}
use Rattle.path_core.specs.End.{PathEnd}
use Rattle.path_core.specs.MpJoin.{is_joined}
use Rattle.path_core.specs.OptionsIn.{items_of, options_heard}
use Rattle.path_core.specs.State.{PathState, end_at}
use Rattle.world_laws.specs.declared.member.Member.TheVariants.{App, Path}
use Rattle.world_laws.specs.Actors.{Actor, ActorCrew}
use Rattle.world_laws.specs.Worlds.{WorldState, Turn, after_turn}
use Rattle.world_laws.specs.Writes.{side_of}
use Rattle.whole_paths.specs.Brought.{Brings, IsToReset, comes_before_keeping}
use Rattle.whole_paths.specs.DataAcksHeard.{IsToHear}

-- the duty treats what a copy says or carried, before the ends of the stream are told
abbrev pub comes_before_fins : Duty → Bool
comes_before_fins (duties.Silent (silent_duties.Keep s)) = true
comes_before_fins (duties.Ask (ask_duties.Edge s)) = true
comes_before_fins (duties.Ask (ask_duties.CheckFailed s)) = true
comes_before_fins (duties.Step (step_duties.Unmapped s)) = true
comes_before_fins d = comes_before_keeping d

-- the reassembly book of the side is told the first of these ends
abbrev pub TellsFin : Side → Duty → Type 0
TellsFin s (duties.Ask (ask_duties.HeardFin t zero)) = t ≡ s
TellsFin s _ = ⊥

-- the book is told next, or once all is treated that comes before
abbrev pub IsToTell : Side → List Duty → Type 0
IsToTell s [] = ⊥
IsToTell s (d ∷ ds) = TellsFin s d ⊎ ((side_of d ≡ s) × ((comes_before_fins d ≡ true) × IsToTell s ds))

-- a segment whose DSS has the mapping of a DATA_FIN says so to an end that reads its options, as values: a place up to 2^62
abbrev pub EachDataFinIsSaid : Type 0
EachDataFinIsSaid = (x : PlainSegment) (e : PathEnd) (joined : Bool) (s : Side) (next place : ℕ) (checksum : Option ℕ) (others : List PlainOption)
    → x.options ≡ Dss (Some next) (Some (End place checksum)) ∷ others → next < 2 ^ 62 → place ≤ 2 ^ 62 → e.modes.identity ≡ false
    → item_at 2 (items_of joined s (options_heard e (meant x))) ≡ Some (says.DataFin place)

module _ {C : Type 0} where
  -- The peer's DATA_FIN came; or the copy says so that the end treats, and it is heard in its turn; or it was heard, and the reassembly
  -- book is told.
  pub data IsFinHeard (s : Side) (p : PathState C) : Type 0 where
    came : (end_at s p).sending.close.peer_came ≡ true → IsFinHeard s p
    told : (place : ℕ) → IsToHear s (says.DataFin place) (end_at s p).treated.items p.agenda → IsToTell s p.agenda → IsFinHeard s p
    heard : 0 < length (end_at s p).treated.fins → IsToTell s p.agenda → IsFinHeard s p

  -- what becomes of it, as the path becomes another one
  pub data FinGoesOn (s : Side) (q : PathState C) : Type 0 where
    on : IsFinHeard s q → FinGoesOn s q
    -- the end is dead, or reset next, as where the book refuses it
    gone : is_dead (end_at s q).tcp.state ≡ true → FinGoesOn s q
    reset : IsToReset s q.agenda → FinGoesOn s q
    -- no DATA_FIN counts: the side fell back to plain TCP, or hasn't the peer's key
    plain : (end_at s q).modes.identity ≡ true → FinGoesOn s q
    unkeyed : (end_at s q).modes.peer_key ≡ None → FinGoesOn s q

  -- ---- of any path, as it becomes another one

  pub record HearsDataFins (k : Codec C) (p q : PathState C) : Type 0 where
    -- each that a taken copy says is heard, unless the path stays as it is
    pub tells : (b : Brings k p) (index place : ℕ)
        → item_at index (items_of (is_joined p.profile) b.copy.due.to (options_heard (end_at b.copy.due.to p) b.copy.segment)) ≡ Some (says.DataFin place)
        → (q ≡ p) ⊎ FinGoesOn b.copy.due.to q
    -- each stays so
    pub stays : (s : Side) → IsFinHeard s p → FinGoesOn s q

  -- as the path becomes this actor
  abbrev pub PathsHearFins : Codec C → Actor C → Actor C → Type 0
  PathsHearFins k (Path p) (Path q) = HearsDataFins k p q
  PathsHearFins k (App a) (App b) = Unit {0}
  PathsHearFins k _ _ = ⊥

  -- by any turn
  abbrev pub EachDataFinCounts : Codec C → Type 0
  EachDataFinCounts k = (w : WorldState C) (turn : Turn) (actor : ℕ) (c : ActorCrew C) → slice_get w.crew actor ≡ Some c
      → (d : ActorCrew C) × (slice_get (after_turn k turn w).crew actor ≡ Some d) × PathsHearFins k c.member d.member
