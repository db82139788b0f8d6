-- Connections by whose script no option is taken away, no payload is altered, and no side closes at once: both sides go by mappings, no end
-- of path 0 breaks, and each copy arrives as it was sent (RFC 8684, sections 3.3.1, 3.5 and 3.7).
use Rattle.std.specs.Prelude.{ℕ, ◌≡◌, ◌≤◌, ◌⊎◌, Bool, true, false, not, None, Some, is_some, List, ◌∷◌, slice_get}
use Rattle.std.specs.List.{list_all, list_any}
use Rattle.sides.specs.declared.side.Side.{Side}
use Rattle.link_script.specs.declared.script.Script.{Script}
use Rattle.link_script.specs.declared.script.ScriptLine.{ScriptLine}
use Rattle.link_model.specs.Passage.{plain_shape, shape_of}
use Rattle.stream_apps.specs.Starts.{fast_close_of}
use Rattle.subflow_tcp.specs.States.{is_dead}
use Rattle.path_agenda.specs.Agenda.{breaks, resets, stops}
use Rattle.path_agenda.specs.declared.duty.Duty.{Duty}
use Rattle.path_agenda.specs.declared.duty.Duty.TheVariants as duties
use Rattle.path_agenda.specs.declared.duty.AskDuty.TheVariants as ask_duties
use Rattle.path_agenda.specs.declared.duty.SendDuty.TheVariants as send_duties
use Rattle.path_core.specs.Codec.{Codec}
use Rattle.path_core.specs.Deliver.{failing_mapping}
use Rattle.path_core.specs.End.{PathEnd}
use Rattle.path_core.specs.MpJoin.{is_joined}
use Rattle.path_core.specs.Profile.{Profile}
use Rattle.path_core.specs.Shown.{AltersNothing}
use Rattle.path_core.specs.State.{PathState, end_at}
use Rattle.world_laws.specs.Actors.{ActorCrew}
use Rattle.world_laws.specs.Members.{HoldsOfKind}
use Rattle.world_laws.specs.NeverFalls.{StripsNothing}
use Rattle.world_laws.specs.NeverFalls.{IsWhole as StripsNone}
use Rattle.world_laws.specs.Openings.{Start, opened_world, start_of}
use Rattle.world_laws.specs.PlainScripts.{IsShortScript}
use Rattle.world_laws.specs.Promises.{IsPlain, NumbersFit}
use Rattle.world_laws.specs.Worlds.{WorldState, Turn, world_run}
use Rattle.whole_paths.specs.AsFar.{stage}
use Rattle.whole_paths.specs.Brought.{FailsItsCheck}
use Rattle.whole_paths.specs.Finish.{is_mild, is_on_direction}

-- ---- where it is promised

-- numbers fit, full segments have room, and no line takes options away, alters payload or lets a side close at once
pub record IsMildStart (start : Start) : Type 0 where
  pub plain : IsPlain start
  pub strips : StripsNone start
  pub stays_open : (s : Side) → fast_close_of s start.lines ≡ None
  pub fit : NumbersFit start

-- P holds of such a connection at every moment, in whatever order its actors go
abbrev pub IsPromisedMildly : {C : Type 0} → Codec C → (Start → WorldState C → Type 0) → Type 0
IsPromisedMildly k P = (start : Start) (turns : List Turn) → IsMildStart start → P start (world_run k turns (opened_world start))

-- a connection by a script with short files each of whose lines is mild begins like that
abbrev pub MildScriptsStartMildly : Type 0
MildScriptsStartMildly = (script : Script) (file_a file_b : List ℕ) → IsShortScript script file_a file_b → list_all is_mild script.lines ≡ true
    → IsMildStart (start_of script file_a file_b)

-- ---- mappings

-- The end sends and receives by mappings of pieces: it is not in plain TCP, and goes by no infinite mapping. It tells no failed check, and
-- the mapping at RCV.NXT fails none.
pub record GoesByMappings (c : Profile) (e : PathEnd) : Type 0 where
  pub identity : e.modes.identity ≡ false
  pub own : e.modes.own_infinite ≡ None
  pub peer : is_joined c ≡ false → e.modes.peer_infinite ≡ None
  pub told : e.modes.failed_mapping ≡ None
  pub right : failing_mapping c e ≡ None

module _ {C : Type 0} where
  abbrev pub EndsGoByMappings : PathState C → Type 0
  EndsGoByMappings p = (s : Side) → GoesByMappings p.profile (end_at s p)

  -- both ends of each path; of an infinite mapping of the peer's that is said of path 0
  pub record MappingIsKept (w : WorldState C) : Type 0 where
    pub each : (actor : ℕ) (c : ActorCrew C) → slice_get w.crew actor ≡ Some c → HoldsOfKind (λ app. Unit {0}) EndsGoByMappings c.member

-- ---- keys

-- the SYN/ACK is treated next, or the key that it shows
abbrev pub treats_answer : List Duty → Bool
treats_answer (duties.Ask (ask_duties.SynAnswered s) ∷ ds) = true
treats_answer (duties.Ask (ask_duties.PeerKey s) ∷ ds) = true
treats_answer _ = false

module _ {C : Type 0} where
  -- A's end of path 0 has B's key once it has B's SYN, as soon as the SYN/ACK is treated; and B's has A's where it may send a DSS.
  pub record EndsHaveKeys (p : PathState C) : Type 0 where
    pub a : 2 ≤ stage p.a.tcp.state → is_dead p.a.tcp.state ≡ false → (is_some p.a.modes.peer_key ≡ true) ⊎ (treats_answer p.agenda ≡ true)
    pub b : p.b.modes.clear ≡ true → is_some p.b.modes.peer_key ≡ true

  abbrev pub HasKeys : PathState C → Type 0
  HasKeys p = is_joined p.profile ≡ false → EndsHaveKeys p

  pub record KeysAreKnown (w : WorldState C) : Type 0 where
    pub each : (actor : ℕ) (c : ActorCrew C) → slice_get w.crew actor ≡ Some c → HoldsOfKind (λ app. Unit {0}) HasKeys c.member

-- ---- links

module _ {C : Type 0} where
  -- The link of a path changes no segment; where no line speaks of a direction it has neither a rate nor random loss nor jitter.
  pub record LinkIsMild (lines : List ScriptLine) (p : PathState C) : Type 0 where
    pub strips : StripsNothing p.link.lines
    pub alters : AltersNothing p.link.lines
    pub shape : list_all (λ line. not (is_on_direction line)) lines ≡ true → (s : Side) → shape_of s p.link.lines ≡ plain_shape

  -- that of each path, by these lines of the script
  pub record LinksAreMild (lines : List ScriptLine) (w : WorldState C) : Type 0 where
    pub each : (actor : ℕ) (c : ActorCrew C) → slice_get w.crew actor ≡ Some c → HoldsOfKind (λ app. Unit {0}) (LinkIsMild lines) c.member

-- ---- breaks

-- By a harsh duty a side falls back, a path is asked for or refused, or an end is reset for a reason (RFC 8684, section 3.6).
abbrev pub is_harsh : Duty → Bool
is_harsh (duties.Ask (ask_duties.GoIdentity s)) = true
is_harsh (duties.Ask (ask_duties.FailHeard s)) = true
is_harsh (duties.Ask (ask_duties.JoinHeard s)) = true
is_harsh (duties.Ask (ask_duties.BreakAck s reason)) = true
is_harsh (duties.Send (send_duties.BreakReset s reason)) = true
is_harsh (duties.Send (send_duties.Refuse s)) = true
is_harsh _ = false

module _ {C : Type 0} where
  -- No duty of path 0 is harsh: no end is to be reset for a reason, nor is it told that its peer closed at once. No mapping at RCV.NXT fails
  -- its check.
  pub record IsUnbroken (p : PathState C) : Type 0 where
    pub duties : list_any is_harsh p.agenda ≡ false
    pub broken : (s : Side) (reason : ℕ) → p.agenda ≡ breaks s reason → ⊥
    pub is_reset : (s : Side) (reason : ℕ) → p.agenda ≡ resets s reason → ⊥
    pub stopped : (s : Side) → p.agenda ≡ stops s → ⊥
    pub fails : (s : Side) → FailsItsCheck s p → ⊥

  abbrev pub IsNeverBroken : PathState C → Type 0
  IsNeverBroken p = is_joined p.profile ≡ false → IsUnbroken p

  -- path 0
  pub record NeverBreaks (w : WorldState C) : Type 0 where
    pub each : (actor : ℕ) (c : ActorCrew C) → slice_get w.crew actor ≡ Some c → HoldsOfKind (λ app. Unit {0}) IsNeverBroken c.member
