-- How an end whose peer's window is shut hears of the window again: its timer runs out, it probes, and the peer owes an answer (RFC 9293, section
-- 3.8.6.1; RFC 6298, section 5).
use Rattle.std.specs.Prelude.{ℕ, suc, ◌+◌, ◌≡◌, ◌<◌, ◌≤◌, ◌⊎◌, true, List, [], ◌∷◌, ◌++◌}
use Rattle.sides.specs.declared.side.Side.{Side}
use Rattle.sides.specs.Side.{peer}
use Rattle.link_model.specs.declared.flight.Flight.{Flight}
use Rattle.path_segments.specs.Spelled.{PlainSegment}
use Rattle.path_core.specs.State.{PathState, end_at}
use Rattle.path_core.specs.Values.{Carried, carried_by, values}
use Rattle.world_laws.specs.Openings.{PathPlan, Start}
use Rattle.world_laws.specs.RoundDone.{reached}
use Rattle.world_laws.specs.Worlds.{Turn, all_over}
use Rattle.whole_paths.specs.Copies.{IsUnderWay}
use Rattle.whole_paths.specs.Courses.{round_end}
use Rattle.whole_paths.specs.DataAcksCome.{IsBare}
use Rattle.whole_paths.specs.Delivery.{IsAllThere}
use Rattle.whole_paths.specs.Expiries.{IsToSendAgain}
use Rattle.whole_paths.specs.Finish.{is_harmed}
use Rattle.whole_paths.specs.FinsComing.{FinComesBy}
use Rattle.whole_paths.specs.Mending.{IsOpenTurn}
use Rattle.whole_paths.specs.OnePathScripts.{BeginsWithOnePath}
use Rattle.whole_paths.specs.OpenCourses.{IsOpenAfter}
use Rattle.whole_paths.specs.Running.{IsRunning}

module _ (s : Side) where
  -- the end has no record, and its peer's window is shut
  pub record IsShutAt (p : PathState Carried) : Type 0 where
    pub none : (end_at s p).tcp.send.records ≡ []
    pub shut : (end_at s p).sending.shut ≡ true

  -- a segment without bytes from the side's end is under way to the peer, before whose RCV.NXT it lies, and comes by this tick
  pub record ProbeComesBy (by : ℕ) (p : PathState Carried) : Type 0 where
    pub copy : Flight Carried
    pub there : IsUnderWay copy p
    pub to : copy.to ≡ peer s
    pub segment : PlainSegment
    pub carried : copy.carried ≡ carried_by p.profile.spelling s segment
    pub bare : IsBare segment
    pub behind : segment.position < (end_at (peer s) p).tcp.recv.edge
    pub soon : copy.tick ≤ by

  -- By the tick x the peer owes an answer; the round goes on to the tick `until`.
  pub data ProbeGoesBy (x until : ℕ) (p : PathState Carried) : Type 0 where
    -- the timer runs, and no Data ACK of bytes is to come
    waits : IsShutAt p → (end_at s p).tcp.send.una ≤ suc (end_at s p).sending.heard → (tick : ℕ) → IsRunning tick (end_at s p) → tick + 1100 ≤ x
        → until + 1000 ≤ x → ProbeGoesBy x until p
    -- the timer ran out
    resends : IsShutAt p → IsToSendAgain s p → until + 1000 ≤ x → ProbeGoesBy x until p
    -- the probe is under way, or the DATA_FIN in its place, and nothing was sent behind
    probes : (by : ℕ) → by + 500 ≤ x → until + 400 ≤ x → ProbeComesBy by p → ProbeGoesBy x until p
    fins : (position by : ℕ) → by + 500 ≤ x → until + 400 ≤ x → (end_at s p).tcp.send.nxt ≤ position → FinComesBy s position by p
        → ProbeGoesBy x until p

  -- what becomes of it by a turn, as path 0 becomes another one
  pub data ProbeGoesOn (start : Start) (turns : List Turn) (turn : Turn) (p q : PathState Carried) (x until : ℕ) : Type 0 where
    goes : ProbeGoesBy x until q → ProbeGoesOn start turns turn p q x until
    -- the peer owes an acknowledgement
    owed : (end_at (peer s) q).tcp.due.ack ≡ true → ProbeGoesOn start turns turn p q x until
    -- the end sends more, since the window opens: SND.NXT rises
    sends : (end_at s p).tcp.send.nxt < (end_at s q).tcp.send.nxt → ProbeGoesOn start turns turn p q x until
    harmed : is_harmed s p q ≡ true → ProbeGoesOn start turns turn p q x until
    all_there : IsAllThere s (reached values start (turns ++ turn ∷ [])) → ProbeGoesOn start turns turn p q x until

-- by each turn between open ends, over one path
abbrev pub ProbesGoAgain : Type 0
ProbesGoAgain = (start : Start) (plan : PathPlan) (turns : List Turn) (turn : Turn) → BeginsWithOnePath start plan
    → (h : IsOpenTurn start turns turn) (s : Side) (x until : ℕ) → h.after.path.clock ≤ until → ProbeGoesBy s x until h.before.path
    → ProbeGoesOn s start turns turn h.before.path h.after.path x until

-- Where a round is over such a wait begins, for 61,200 ticks, unless all of the stream is there; and one that goes on does so in the next round.
pub record ProbesAreAwaited (start : Start) (turns : List Turn) (h : IsOpenAfter start turns) (s : Side) : Type 0 where
  pub begins : IsShutAt s h.path → IsAllThere s (reached values start turns)
      ⊎ ProbeGoesBy s (round_end values start turns + 61200) (round_end values start turns) h.path
  pub in_time : (x : ℕ) → ProbeGoesBy s x (round_end values start turns) h.path → round_end values start turns ≤ x
  pub later : (x : ℕ) → ProbeGoesBy s x (round_end values start turns) h.path → ProbeGoesBy s x (round_end values start turns + 100) h.path

abbrev pub ProbesAreAwaitedAlways : Type 0
ProbesAreAwaitedAlways = (start : Start) (plan : PathPlan) (turns : List Turn) → BeginsWithOnePath start plan
    → all_over (reached values start turns).crew ≡ true → (h : IsOpenAfter start turns) (s : Side) → ProbesAreAwaited start turns h s
