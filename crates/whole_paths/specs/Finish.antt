-- When a connection over one path delivers both files, though the path loses, delays and repeats segments.
use Rattle.std.specs.Prelude.{ℕ, suc, ◌+◌, ◌-◌, ◌*◌, ◌^◌, ◌==◌, ◌≡◌, ◌<◌, ◌≤◌, ◌⊎◌, max, nat_le, nat_lt, Bool, true, false, not, ◌&&◌, if◌then◌else◌, Option, Some, List, [], ◌∷◌, ◌++◌, length, count_by, slice_get}
use Rattle.std.specs.Int.{div_ceil}
use Rattle.std.specs.List.{list_all, list_any}
use Rattle.sides.specs.declared.side.Side.{Side}
use Rattle.sides.specs.declared.side.Side.TheVariants.{A, B}
use Rattle.sides.specs.Side.{peer}
use Rattle.link_script.specs.declared.script.PathLine.{PathLine}
use Rattle.link_script.specs.declared.script.Script.{Script}
use Rattle.link_script.specs.declared.script.ScriptLine.{ScriptLine}
use Rattle.link_script.specs.declared.script.ScriptLine.TheVariants.{OnSegment, OnDirection, StripAll, Die, Remove, FastClose}
use Rattle.link_script.specs.declared.script.Happens.TheVariants.{Lost, Late, Stripped, Altered}
use Rattle.link_script.specs.Places.{same_side}
use Rattle.link_script.specs.Scripts.{HasRanges}
use Rattle.link_model.specs.Steps.{segments_sent}
use Rattle.subflow_tcp.specs.States.{is_dead}
use Rattle.path_core.specs.Codec.{Codec}
use Rattle.path_core.specs.Octets.{octets}
use Rattle.path_core.specs.Standing.{is_connected}
use Rattle.path_core.specs.State.{PathState, end_at}
use Rattle.world_laws.specs.declared.member.Member.TheVariants.{Path}
use Rattle.world_laws.specs.declared.outcome.Outcome.TheVariants.{Delivered}
use Rattle.world_laws.specs.Actors.{Actor, ActorCrew}
use Rattle.world_laws.specs.Openings.{opened_world, start_of}
use Rattle.world_laws.specs.Outcomes.{outcome_of}
use Rattle.world_laws.specs.Worlds.{WorldState, Turn, after_turn, world_run, AreLawful}

-- ---- lines

-- by this line a segment of the path is lost or comes late; a repeated one harms nothing
abbrev pub harms : ℕ → ScriptLine → Bool
harms path (OnSegment segment Lost) = segment.path == path
harms path (OnSegment segment (Late ticks)) = segment.path == path
harms path _ = false

-- how many such lines the script has
abbrev pub harms_to : ℕ → Script → ℕ
harms_to path script = count_by (harms path) script.lines

-- whether a line speaks of each segment of a direction: a rate, random loss or jitter
abbrev pub is_on_direction : ScriptLine → Bool
is_on_direction (OnDirection direction impairment) = true
is_on_direction _ = false

-- The line takes no option away, alters no payload, and doesn't close the connection at once. Rates, random loss and jitter are mild:
-- what they do is counted by segment (`harmed`).
abbrev pub is_mild : ScriptLine → Bool
is_mild (OnSegment segment Stripped) = false
is_mild (OnSegment segment Altered) = false
is_mild (StripAll path from tick) = false
is_mild (FastClose side tick) = false
is_mild _ = true

-- nor does it let a path die, or take back the address of path 0, whose ends are reset then (RFC 8684, section 3.4.2)
abbrev pub is_harmless_to_ends : ScriptLine → Bool
is_harmless_to_ends (Die path tick) = false
is_harmless_to_ends (Remove side id tick) = nat_lt 0 id
is_harmless_to_ends line = is_mild line

-- ---- rounds

-- octets of payload of a full segment, and in how many such segments so many octets go
abbrev pub payload_of : ℕ → ℕ
payload_of mss = max (mss - 28) 1

abbrev pub segments : ℕ → ℕ → ℕ
segments mss length = div_ceil length (payload_of mss)

-- there are fewer than 2^64 - 1 turns
pub record IsBrief (script : Script) (turns : List Turn) : Type 0 where
  pub few : length turns < 2 ^ 64 - 1

-- how many rounds are enough, by a script, its path, the files of both sides, and how many segments are harmed
abbrev pub Patience : Type 0
Patience = Script → PathLine → List ℕ → List ℕ → ℕ → ℕ

-- 10,800 rounds, 23 for each full segment of either file, and 3,150 for each segment that is harmed. A harm may cost a wait for a timer of 60,000
-- ticks as the path opens, and four afterwards, with what is sent behind them. Of the 10,800 rounds 3,055 are for the opening, and 7,590 for three
-- such harms, though no segment is harmed: the end of a stream may be overtaken by its last bytes, and what is told as the path opens may not be heard.
abbrev pub patient_rounds : ℕ → ℕ → ℕ → ℕ → ℕ
patient_rounds mss length_a length_b harmed = 10800 + 23 * (segments mss length_a + segments mss length_b) + 3150 * harmed

-- of a script by its path
abbrev pub patience : Patience
patience script path file_a file_b harmed = patient_rounds path.mss (length file_a) (length file_b) harmed

-- how many rounds end by these turns
abbrev pub rounds_in : List Turn → ℕ
rounds_in [] = 0
rounds_in (Turn.Step actor ∷ turns) = rounds_in turns
rounds_in (Turn.Round ∷ turns) = suc (rounds_in turns)

-- ---- ends

module _ {C : Type 0} where
  -- the path of this number is here
  pub record IsPathAt (number : ℕ) (w : WorldState C) (p : PathState C) : Type 0 where
    pub crew : ActorCrew C
    pub there : slice_get w.crew (2 + number) ≡ Some crew
    pub is : crew.member ≡ Path p

  -- at both ends both SYNs are acknowledged, neither is dead, and both may send a DSS
  pub record IsWhole (number : ℕ) (w : WorldState C) : Type 0 where
    pub path : PathState C
    pub here : IsPathAt number w path
    pub connected : (s : Side) → is_connected (end_at s path).tcp.state ≡ true
    pub clear : (s : Side) → (end_at s path).modes.clear ≡ true

  -- one of its ends is dead
  pub record AnEndDied (number : ℕ) (w : WorldState C) : Type 0 where
    pub path : PathState C
    pub here : IsPathAt number w path
    pub side : Side
    pub dead : is_dead (end_at side path).tcp.state ≡ true

-- ---- segments that are harmed

module _ {C : Type 0} where
  -- The link takes a segment from this side as the path becomes another one, and no copy of it is to come within 400 ticks, twice the longest
  -- delay: a line or the word drawn for it loses it, its queue is full, or it is late.
  abbrev pub is_harmed : Side → PathState C → PathState C → Bool
  is_harmed s p q =
      let number = segments_sent s q.link in
      nat_lt (segments_sent s p.link) number && not (list_any (λ f. same_side f.to (peer s) && (f.number == number && nat_le f.tick (p.clock + 400))) q.link.under_way)

  -- from either side, as an actor becomes another one
  abbrev pub harms_between : Actor C → Actor C → ℕ
  harms_between (Path p) (Path q) = (if is_harmed A p q then 1 else 0) + (if is_harmed B p q then 1 else 0)
  harms_between _ _ = 0

  abbrev pub harms_of : Option (ActorCrew C) → Option (ActorCrew C) → ℕ
  harms_of (Some c) (Some d) = harms_between c.member d.member
  harms_of _ _ = 0

  -- how many segments of the path of this number are harmed by these turns
  abbrev pub harmed : Codec C → ℕ → List Turn → WorldState C → ℕ
  harmed k number [] w = 0
  harmed k number (turn ∷ turns) w =
      harms_of (slice_get w.crew (2 + number)) (slice_get (after_turn k turn w).crew (2 + number)) + harmed k number turns (after_turn k turn w)

-- ---- what is promised of scripts of one path

-- a mild script with one path, and two files of 16 MiB at most
pub record IsMild (script : Script) (path : PathLine) (file_a file_b : List ℕ) : Type 0 where
  pub ranges : HasRanges script
  pub one : script.paths ≡ path ∷ []
  pub mild : list_all is_mild script.lines ≡ true
  pub a : length file_a ≤ 16777216
  pub b : length file_b ≤ 16777216

-- the connection of a script and two files before the first step
abbrev pub opened : {C : Type 0} → Script → List ℕ → List ℕ → WorldState C
opened script file_a file_b = opened_world (start_of script file_a file_b)

module _ {C : Type 0} (k : Codec C) where
  -- what these turns make of it
  abbrev pub run_of : Script → List ℕ → List ℕ → List Turn → WorldState C
  run_of script file_a file_b turns = world_run k turns (opened script file_a file_b)

  -- by these turns so many rounds have ended as are enough for the segments that they harm
  abbrev pub IsEnough : Patience → Script → PathLine → List ℕ → List ℕ → List Turn → ℕ → Type 0
  IsEnough enough script path file_a file_b turns rounds = enough script path file_a file_b (harmed k 0 turns (opened script file_a file_b)) ≤ rounds

  -- Once the path is whole at the end of a round, and still whole when so many more have ended, both files are delivered. It is said of scripts
  -- and turns that are so besides.
  abbrev pub WholePathsDeliverWhere : (Script → List Turn → Type 0) → Patience → Type 0
  WholePathsDeliverWhere Also enough = (script : Script) (path : PathLine) (file_a file_b : List ℕ) (before more : List Turn) → IsMild script path file_a file_b
      → let turns = before ++ Turn.Round ∷ more in Also script turns → AreLawful k turns (opened script file_a file_b)
      → IsWhole 0 (run_of script file_a file_b (before ++ Turn.Round ∷ [])) → IsWhole 0 (run_of script file_a file_b turns)
      → IsEnough enough script path file_a file_b turns (rounds_in more) → outcome_of (run_of script file_a file_b turns).crew ≡ Delivered

  -- of all
  abbrev pub WholePathsDeliver : Patience → Type 0
  WholePathsDeliver = WholePathsDeliverWhere (λ script turns. Unit {0})

  -- by turns so few that no count of segments ends
  abbrev pub BriefPathsDeliver : Patience → Type 0
  BriefPathsDeliver = WholePathsDeliverWhere IsBrief

  -- As soon as so many rounds have ended they are delivered, or an end died, however much is lost. It is said of scripts and turns that are so
  -- besides.
  abbrev pub OnePathEndsWhere : (Script → List Turn → Type 0) → Patience → Type 0
  OnePathEndsWhere Also enough = (script : Script) (path : PathLine) (file_a file_b : List ℕ) (turns : List Turn) → IsMild script path file_a file_b → Also script turns
      → AreLawful k turns (opened script file_a file_b) → IsEnough enough script path file_a file_b turns (rounds_in turns)
      → let w = run_of script file_a file_b turns in (outcome_of w.crew ≡ Delivered) ⊎ AnEndDied 0 w

  -- of all
  abbrev pub OnePathEnds : Patience → Type 0
  OnePathEnds = OnePathEndsWhere (λ script turns. Unit {0})

  -- by turns so few that no count of segments ends
  abbrev pub OneBriefPathEnds : Patience → Type 0
  OneBriefPathEnds = OnePathEndsWhere IsBrief

  -- with four harmed segments at most, and no line by which the path dies or its address is taken back, neither end of the path is ever dead
  abbrev pub FewLossesEndNoneWhere : (Script → List Turn → Type 0) → Type 0
  FewLossesEndNoneWhere Also = (script : Script) (path : PathLine) (file_a file_b : List ℕ) (turns : List Turn) → IsMild script path file_a file_b → Also script turns
      → list_all is_harmless_to_ends script.lines ≡ true → harmed k 0 turns (opened script file_a file_b) ≤ 4
      → AnEndDied 0 (run_of script file_a file_b turns) → ⊥

  abbrev pub BriefLossesEndNone : Type 0
  BriefLossesEndNone = FewLossesEndNoneWhere IsBrief

  -- so they are delivered
  abbrev pub FewLossesFinishWhere : (Script → List Turn → Type 0) → Patience → Type 0
  FewLossesFinishWhere Also enough = (script : Script) (path : PathLine) (file_a file_b : List ℕ) (turns : List Turn) → IsMild script path file_a file_b → Also script turns
      → list_all is_harmless_to_ends script.lines ≡ true → harmed k 0 turns (opened script file_a file_b) ≤ 4
      → AreLawful k turns (opened script file_a file_b) → IsEnough enough script path file_a file_b turns (rounds_in turns)
      → outcome_of (run_of script file_a file_b turns).crew ≡ Delivered

  -- of all
  abbrev pub FewLossesFinish : Patience → Type 0
  FewLossesFinish = FewLossesFinishWhere (λ script turns. Unit {0})

  -- by turns so few that no count of segments ends
  abbrev pub BriefLossesFinish : Patience → Type 0
  BriefLossesFinish = FewLossesFinishWhere IsBrief

  -- With at most four lines that lose or delay a segment, and none that speaks of a whole direction, they are delivered: but for the turns this is said
  -- of the script's text alone.
  abbrev pub BriefFewLinesFinish : Patience → Type 0
  BriefFewLinesFinish enough = (script : Script) (path : PathLine) (file_a file_b : List ℕ) (turns : List Turn) → IsMild script path file_a file_b → IsBrief script turns
      → list_all is_harmless_to_ends script.lines ≡ true → list_all (λ line. not (is_on_direction line)) script.lines ≡ true → harms_to 0 script ≤ 4
      → AreLawful k turns (opened script file_a file_b) → enough script path file_a file_b (harms_to 0 script) ≤ rounds_in turns
      → outcome_of (run_of script file_a file_b turns).crew ≡ Delivered

-- where no line speaks of a direction, each segment that is harmed uses a line
abbrev pub HarmsUseLines : Type 0
HarmsUseLines = (script : Script) (file_a file_b : List ℕ) (number : ℕ) (turns : List Turn) → HasRanges script
    → list_all (λ line. not (is_on_direction line)) script.lines ≡ true
    → harmed octets number turns (opened script file_a file_b) ≤ harms_to number script
