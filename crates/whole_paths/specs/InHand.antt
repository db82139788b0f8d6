-- What came to an end in order is acknowledged (RFC 9293, section 3.10.7.4; RFC 8684, section 3.3.1).
use Rattle.std.specs.Prelude.{ℕ, ◌+◌, ◌-◌, ◌^◌, ◌≡◌, ◌<◌, ◌≤◌, ◌⊎◌, true, false, None, Some, IsSome, List, ◌∷◌, length, slice_get}
use Rattle.std.specs.List.{list_any}
use Rattle.sides.specs.declared.side.Side.{Side}
use Rattle.path_segments.specs.Spelled.{PlainSegment}
use Rattle.dss_mapping.specs.Mappings.{mapping_at, run_of}
use Rattle.dss_mapping.specs.Runs.{covers}
use Rattle.dss_mapping.specs.declared.kept.KeptMapping.{KeptMapping}
use Rattle.fallback_state.specs.Modes.{reads_mappings}
use Rattle.link_model.specs.Steps.{segments_sent}
use Rattle.subflow_recv.specs.Receiving.{window_end}
use Rattle.subflow_tcp.specs.State.{is_fin_passed}
use Rattle.subflow_tcp.specs.declared.verdicts.Meaning.TheVariants.{Outside}
use Rattle.path_store.specs.Passing.{is_there}
use Rattle.path_core.specs.Codec.{Codec}
use Rattle.path_core.specs.Deliver.{failing_mapping}
use Rattle.path_core.specs.DssIn.{held_of}
use Rattle.path_core.specs.MpJoin.{is_joined}
use Rattle.path_core.specs.OptionsIn.{items_of, options_heard}
use Rattle.path_core.specs.State.{PathState, end_at}
use Rattle.path_core.specs.declared.judged.Judged.TheVariants as judged
use Rattle.world_laws.specs.declared.member.Member.TheVariants.{App, Path}
use Rattle.world_laws.specs.Actors.{Actor, ActorCrew}
use Rattle.world_laws.specs.Worlds.{WorldState, Turn, after_turn}
use Rattle.whole_paths.specs.Copies.{LinksAreNumbered}
use Rattle.whole_paths.specs.AsFar.{stage}
use Rattle.whole_paths.specs.Answered.{CopiesAreAnswered}
use Rattle.whole_paths.specs.Brought.{FailsItsCheck, IsToReset, IsUnsure, IsThere, Comes, IsTo, Brings}
use Rattle.whole_paths.specs.Mapped.{says_mapping, IsMapped, MappingsAreLive}
use Rattle.whole_paths.specs.Owed.{AnswerGoesOn, AnswerComesSo}
use Rattle.whole_paths.specs.Passed.{WhatIsInOrderIsPassed}

module _ {C : Type 0} where
  -- Each octet before this position came to the end, and its mapping, and the end owes an acknowledgement, which can come by this tick, as
  -- late as the link may hand on what is sent now. Both SYNs came.
  pub record IsInHand (s : Side) (position by : ℕ) (p : PathState C) : Type 0 where
    pub in_time : p.clock + 400 ≤ by
    pub opened : 2 ≤ stage (end_at s p).tcp.state
    pub due : (end_at s p).tcp.due.ack ≡ true
    pub octets : (pos : ℕ) → pos < position → (octet : ℕ) × IsThere s pos octet p
    pub mapped : (pos : ℕ) → pos < position → IsMapped s pos p

  -- with checksums: the mapping at RCV.NXT doesn't begin there, or isn't whole before this position
  pub record IsPartial (s : Side) (position : ℕ) (p : PathState C) : Type 0 where
    pub checksums : p.profile.spelling.checksums ≡ true
    pub behind : (end_at s p).tcp.recv.edge < position
    pub mapping : KeptMapping
    pub here : mapping_at (end_at s p).receiving.mappings (end_at s p).tcp.recv.edge ≡ Some mapping
    pub short : is_there mapping (end_at s p).tcp.recv.edge (position - (end_at s p).tcp.recv.edge) ≡ false

  -- what becomes of it, as the path becomes another one
  pub data HandGoesOn (k : Codec C) (s : Side) (position by : ℕ) (p q : PathState C) : Type 0 where
    -- all of it is in hand still, by the same tick
    on : IsInHand s position by q → HandGoesOn k s position by p q
    -- RCV.NXT is past it, and the answer that says so goes the way of each (`WhatIsOwedComes`); or the end sends a reset, or is dead
    answered : AnswerGoesOn k s position by p q → HandGoesOn k s position by p q
    -- the end is reset next, as no end of path 0 of a mild connection is (Mild)
    reset : IsToReset s q.agenda → HandGoesOn k s position by p q
    -- RCV.NXT is past the peer's FIN
    behind_fin : is_fin_passed (end_at s q).tcp ≡ true → HandGoesOn k s position by p q
    -- an octet was dropped at B, which hasn't both keys
    dropped : IsUnsure s (end_at s q) → HandGoesOn k s position by p q
    -- no mapping counts: the side fell back to plain TCP, or hasn't the peer's key, or the peer sends by an infinite mapping: in a mild
    -- connection never, once the end may send a DSS (Mild)
    plain : (end_at s q).modes.identity ≡ true → HandGoesOn k s position by p q
    unkeyed : (end_at s q).modes.peer_key ≡ None → HandGoesOn k s position by p q
    infinite : IsSome (end_at s p).modes.peer_infinite → HandGoesOn k s position by p q
    -- with checksums: a mapping fails its check, which no mild connection lets it do, or the control book isn't told of that; or none is whole
    fails : FailsItsCheck s p ⊎ IsSome (failing_mapping p.profile (end_at s p)) → HandGoesOn k s position by p q
    untold : q.profile.spelling.checksums ≡ true → reads_mappings (end_at s q).modes.mode ≡ false → (end_at s q).modes.identity ≡ false
        → HandGoesOn k s position by p q
    partial : IsPartial s position p → HandGoesOn k s position by p q

  -- of an answer to it, that this holds of its segment
  abbrev pub HandComesSo : {k : Codec C} {s : Side} {position by : ℕ} {p q : PathState C} → (PlainSegment → Type 0) → HandGoesOn k s position by p q → Type 0
  HandComesSo Was (answered go) = AnswerComesSo Was go
  HandComesSo Was _ = Unit {0}

  -- ---- how it begins

  -- The end has the octets of a copy that it takes in order: none stands behind a gap or past the window, and the first mapping that the
  -- copy tells names each of them from RCV.NXT on.
  pub record IsInOrder (k : Codec C) (p : PathState C) (b : Brings k p) : Type 0 where
    pub starts : b.position ≤ (end_at b.copy.due.to p).tcp.recv.edge
    pub some : 0 < length b.copy.segment.payload
    pub within : b.position + length b.copy.segment.payload ≤ window_end (end_at b.copy.due.to p).tcp.recv
    pub mapping : KeptMapping
    pub others : List KeptMapping
    pub held : held_of p.profile b.copy.due.to (options_heard (end_at b.copy.due.to p) b.copy.segment) ≡ mapping ∷ others
    pub says : list_any says_mapping (items_of (is_joined p.profile) b.copy.due.to (options_heard (end_at b.copy.due.to p) b.copy.segment)) ≡ true
    pub names : (pos : ℕ) → (end_at b.copy.due.to p).tcp.recv.edge ≤ pos → pos < b.position + length b.copy.segment.payload → covers pos (run_of mapping) ≡ true

  -- as the path becomes another one, unless it stays as it is: what comes in order is in hand, at once
  abbrev pub ComesInHand : Codec C → PathState C → PathState C → Type 0
  ComesInHand k p q = (b : Brings k p) → IsInOrder k p b
      → (q ≡ p) ⊎ HandGoesOn k b.copy.due.to (b.position + length b.copy.segment.payload) (q.clock + 400) p q

  -- a copy that lies outside the window, as one that came before, is answered, where the end opened
  abbrev pub IsAnsweredOutside : Codec C → PathState C → PathState C → Type 0
  IsAnsweredOutside k p q = (c : Comes k p) → IsTo k p c (judged.As Outside) → 3 ≤ stage (end_at c.due.to p).tcp.state
      → (q ≡ p) ⊎ AnswerGoesOn k c.due.to (end_at c.due.to p).tcp.recv.edge (q.clock + 400) p q

  -- ---- any path

  -- as the path becomes this actor, with fewer than 2^64 - 1 segments sent from the side
  abbrev pub HandsGoOn : Codec C → Actor C → Actor C → Type 0
  HandsGoOn k (Path p) (Path q) =
      ComesInHand k p q × (IsAnsweredOutside k p q × ((s : Side) (position by : ℕ) → segments_sent s p.link < 2 ^ 64 - 1 → IsInHand s position by p → HandGoesOn k s position by p q))
  HandsGoOn k (App a) (App b) = Unit {0}
  HandsGoOn k _ _ = ⊥

  -- by any turn, where what is in order is passed, and each answered
  abbrev pub WhatIsInHandIsAcknowledged : Codec C → Type 0
  WhatIsInHandIsAcknowledged k = (w : WorldState C) → CopiesAreAnswered w → LinksAreNumbered w → WhatIsInOrderIsPassed w → MappingsAreLive w → (turn : Turn) (actor : ℕ) (c : ActorCrew C)
      → slice_get w.crew actor ≡ Some c → (d : ActorCrew C) × (slice_get (after_turn k turn w).crew actor ≡ Some d) × HandsGoOn k c.member d.member
