-- What becomes of the octets that come to an end: each is kept until RCV.NXT passes it (RFC 9293, section 3.10.7.4).
use Rattle.std.specs.Prelude.{ℕ, ◌≡◌, ◌<◌, ◌⊎◌, Bool, true, false, Some, None, unwrap_or, List, ◌∷◌, [], length, slice_get}
use Rattle.path_segments.specs.Heard.{HeardSegment}
use Rattle.sides.specs.declared.side.Side.{Side}
use Rattle.sides.specs.declared.side.Side.TheVariants.{B}
use Rattle.dss_mapping.specs.declared.kept.KeptMapping.{KeptMapping}
use Rattle.fallback_state.specs.Modes.{reads_mappings}
use Rattle.link_model.specs.declared.flight.Due.{Due}
use Rattle.link_model.specs.Steps.{arriving}
use Rattle.subflow_recv.specs.Laws.{payload_octet}
use Rattle.subflow_recv.specs.Receiving.{Receiving, filled, window_end, octet_at, after_keep_held}
use Rattle.subflow_tcp.specs.State.{is_fin_passed}
use Rattle.subflow_tcp.specs.States.{is_dead}
use Rattle.subflow_tcp.specs.declared.verdicts.Meaning.TheVariants.{Taken}
use Rattle.path_agenda.specs.Agenda.{breaks, resets, stops}
use Rattle.path_agenda.specs.declared.duty.Duty.{Duty}
use Rattle.path_agenda.specs.declared.duty.Duty.TheVariants as duties
use Rattle.path_agenda.specs.declared.duty.AskDuty.TheVariants as ask_duties
use Rattle.path_agenda.specs.declared.duty.SilentDuty.TheVariants as silent_duties
use Rattle.path_agenda.specs.declared.duty.StepDuty.TheVariants as step_duties
use Rattle.path_store.specs.Passing.{is_there, has_its_sum}
use Rattle.path_core.specs.Arrival.{judged_in, heard_in}
use Rattle.path_core.specs.Codec.{Codec}
use Rattle.path_core.specs.Deliver.{mapping_here}
use Rattle.path_core.specs.End.{PathEnd}
use Rattle.path_core.specs.Events.{next_event}
use Rattle.path_core.specs.MpJoin.{is_joined}
use Rattle.path_core.specs.OptionsIn.{options_heard}
use Rattle.path_core.specs.State.{PathState, end_at}
use Rattle.path_core.specs.declared.events.Event.TheVariants as happenings
use Rattle.path_core.specs.declared.judged.Judged.{Judged}
use Rattle.path_core.specs.declared.judged.Judged.TheVariants as judged
use Rattle.world_laws.specs.declared.member.Member.TheVariants.{App, Path}
use Rattle.world_laws.specs.Actors.{Actor, ActorCrew}
use Rattle.world_laws.specs.Worlds.{WorldState, Turn, after_turn}
use Rattle.world_laws.specs.Writes.{side_of}

-- ---- where an octet is

-- an octet is kept at this position, whether the payload that is held besides is kept later or dropped
pub record IsKept (pos octet : ℕ) (v : Receiving) : Type 0 where
  pub now : octet_at pos v ≡ Some octet
  pub later : octet_at pos (after_keep_held v) ≡ Some octet

-- the duty treats what a copy says, before its payload is kept
abbrev pub comes_before_keeping : Duty → Bool
comes_before_keeping (duties.Ask (ask_duties.Opened s)) = true
comes_before_keeping (duties.Ask (ask_duties.Live s)) = true
comes_before_keeping (duties.Ask (ask_duties.AckHeard s)) = true
comes_before_keeping (duties.Ask (ask_duties.FailHeard s)) = true
comes_before_keeping (duties.Ask (ask_duties.SubflowAck s)) = true
comes_before_keeping (duties.Ask (ask_duties.PlainData s)) = true
comes_before_keeping (duties.Ask (ask_duties.GoIdentity s)) = true
comes_before_keeping (duties.Step (step_duties.Heard s index)) = true
comes_before_keeping (duties.Step (step_duties.PlainAck s)) = true
comes_before_keeping _ = false

-- the payload that this side's end holds is kept next
abbrev pub KeepsNext : Side → List Duty → Type 0
KeepsNext s (duties.Silent (silent_duties.Keep t) ∷ ds) = t ≡ s
KeepsNext s _ = ⊥

-- the payload of a copy is kept once all is treated that the copy says
abbrev pub IsToKeep : Side → List Duty → Type 0
IsToKeep s [] = ⊥
IsToKeep s (d ∷ ds) = (side_of d ≡ s) × ((comes_before_keeping d ≡ true) × (KeepsNext s ds ⊎ IsToKeep s ds))

-- ---- where it is no longer

-- The path is broken at this side's end, or the peer closed the connection at once: the end is reset next.
pub data IsToReset (s : Side) (ds : List Duty) : Type 0 where
  broken : (reason : ℕ) → ds ≡ breaks s reason → IsToReset s ds
  is_reset : (reason : ℕ) → ds ≡ resets s reason → IsToReset s ds
  stopped : ds ≡ stops s → IsToReset s ds

-- B has neither both keys, nor fell back to plain TCP, and the copy that it treats has an option (RFC 8684, section 3.1)
pub record IsUnsure (s : Side) (e : PathEnd) : Type 0 where
  pub at_b : s ≡ B
  pub clear : e.modes.clear ≡ false
  pub plain : e.modes.identity ≡ false
  pub option : e.treated.has_option ≡ true

module _ {C : Type 0} where
  -- This side's control book is told next that the mapping at RCV.NXT fails its check: all of its octets are in order there, and their
  -- checksum is another one (RFC 8684, section 3.3.1).
  pub record FailsItsCheck (s : Side) (p : PathState C) : Type 0 where
    pub others : List Duty
    pub first : p.agenda ≡ duties.Ask (ask_duties.CheckFailed s) ∷ others
    pub checksums : p.profile.spelling.checksums ≡ true
    pub mapping : KeptMapping
    pub here : mapping_here (end_at s p) ≡ Some mapping
    pub there : is_there mapping (end_at s p).tcp.recv.edge (length (filled (end_at s p).tcp.recv.places)) ≡ true
    pub wrong : has_its_sum mapping (filled (end_at s p).tcp.recv.places) ≡ false

  -- ---- an octet that came

  -- RCV.NXT is past it; or it is kept; or it is in the payload that is held, which is to be kept
  pub data IsThere (s : Side) (pos octet : ℕ) (p : PathState C) : Type 0 where
    passed : pos < (end_at s p).tcp.recv.edge → IsThere s pos octet p
    kept : IsKept pos octet (end_at s p).tcp.recv → IsThere s pos octet p
    held : octet_at pos (after_keep_held (end_at s p).tcp.recv) ≡ Some octet → IsToKeep s p.agenda → IsThere s pos octet p

  -- a copy comes next that its end can read
  pub record Comes (k : Codec C) (p : PathState C) : Type 0 where
    pub others : List Duty
    pub first : p.agenda ≡ duties.Step step_duties.Events ∷ others
    pub due : Due
    pub next : next_event p ≡ Some (happenings.Arrives due)
    pub segment : HeardSegment
    pub heard : heard_in k due.to (arriving due p.link) p ≡ Some segment

  -- the copy is this to the end that it comes to
  abbrev pub IsTo : (k : Codec C) (p : PathState C) → Comes k p → Judged → Type 0
  IsTo k p c verdict = let e : PathEnd = end_at c.due.to p in judged_in (is_joined p.profile) c.due.to (options_heard e c.segment) e ≡ verdict

  -- a copy is taken by its end, with its payload from this position on
  pub record Brings (k : Codec C) (p : PathState C) : Type 0 where
    pub copy : Comes k p
    pub position : ℕ
    pub acknowledged : ℕ
    pub taken : IsTo k p copy (judged.As (Taken position acknowledged))

  -- what becomes of it, as the path becomes another one
  pub data StaysThere (s : Side) (pos octet : ℕ) (p q : PathState C) : Type 0 where
    on : IsThere s pos octet q → StaysThere s pos octet p q
    -- the end is dead, or reset next, as no end of path 0 of a mild connection is (Mild)
    gone : is_dead (end_at s q).tcp.state ≡ true → StaysThere s pos octet p q
    reset : IsToReset s q.agenda → StaysThere s pos octet p q
    -- RCV.NXT is past the peer's FIN, behind which no octet of the stream stands
    behind_fin : is_fin_passed (end_at s q).tcp ≡ true → StaysThere s pos octet p q
    -- the octet's mapping or one before it failed its check, whether the control book is told (never in a mild connection), or goes by an infinite
    -- mapping and isn't
    fails : FailsItsCheck s p → StaysThere s pos octet p q
    fails_untold : q.profile.spelling.checksums ≡ true → reads_mappings (end_at s q).modes.mode ≡ false → (end_at s q).modes.identity ≡ false
        → StaysThere s pos octet p q
    -- the payload was dropped
    dropped : IsUnsure s (end_at s q) → StaysThere s pos octet p q

  -- ---- of any path, as it becomes another one

  pub record KeepsWhatComes (k : Codec C) (p q : PathState C) : Type 0 where
    -- each octet in the window that comes is there, or the one that is kept at its position, unless the path stays as it is
    pub brings : (b : Brings k p) (pos octet : ℕ) → let v : Receiving = (end_at b.copy.due.to p).tcp.recv in
        payload_octet pos b.position b.copy.segment.payload ≡ Some octet → pos < window_end v
        → (q ≡ p) ⊎ StaysThere b.copy.due.to pos (unwrap_or (octet_at pos v) octet) p q
    -- each one that came stays
    pub stays : (s : Side) (pos octet : ℕ) → IsThere s pos octet p → StaysThere s pos octet p q
    -- where a check fails none is kept any longer, so that each can come again
    pub forgets : (s : Side) → FailsItsCheck s p → (q ≡ p) ⊎ ((pos : ℕ) → octet_at pos (end_at s q).tcp.recv ≡ None)

  -- as the path becomes this actor
  abbrev pub PathsKeepWhatComes : Codec C → Actor C → Actor C → Type 0
  PathsKeepWhatComes k (Path p) (Path q) = KeepsWhatComes k p q
  PathsKeepWhatComes k (App a) (App b) = Unit {0}
  PathsKeepWhatComes k _ _ = ⊥

  -- by any turn
  abbrev pub WhatComesIsKept : Codec C → Type 0
  WhatComesIsKept k = (w : WorldState C) (turn : Turn) (actor : ℕ) (c : ActorCrew C) → slice_get w.crew actor ≡ Some c
      → (d : ActorCrew C) × (slice_get (after_turn k turn w).crew actor ≡ Some d) × PathsKeepWhatComes k c.member d.member
