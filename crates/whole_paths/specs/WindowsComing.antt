-- A window as it goes on its way with a bare segment: the end hears it, unless more is sent behind it (RFC 8684, section 3.3.5).
use Rattle.std.specs.Prelude.{ℕ, ◌+◌, ◌^◌, ◌≡◌, ◌<◌, ◌≤◌, ◌⊎◌, true, IfSome, Option, Some, List, [], ◌∷◌, ◌++◌}
use Rattle.sides.specs.declared.side.Side.{Side}
use Rattle.sides.specs.Side.{peer}
use Rattle.actor_desk.specs.Books.{books_in}
use Rattle.actor_desk.specs.Desk.{SixBooks}
use Rattle.path_segments.specs.Laws.{meant}
use Rattle.path_segments.specs.declared.segment.PathMapping.{PathMapping}
use Rattle.path_segments.specs.declared.segment.PathOption.TheVariants.{Dss}
use Rattle.path_segments.specs.Options.{PlainOption}
use Rattle.link_model.specs.declared.flight.Flight.{Flight}
use Rattle.path_core.specs.Looking.{first_sends, segment_sent}
use Rattle.path_core.specs.State.{PathState, end_at}
use Rattle.path_core.specs.Values.{Carried, as_arrived, values}
use Rattle.world_laws.specs.Openings.{Start}
use Rattle.world_laws.specs.Promises.{written_by}
use Rattle.world_laws.specs.RoundDone.{reached}
use Rattle.world_laws.specs.Worlds.{Turn}
use Rattle.whole_paths.specs.BareSegments.{IsBareFrom, IsBareTo}
use Rattle.whole_paths.specs.Copies.{IsUnderWay}
use Rattle.whole_paths.specs.Finish.{IsPathAt, is_harmed}
use Rattle.whole_paths.specs.Mending.{IsBegunTurn, LeavesRoomFor}
use Rattle.whole_paths.specs.Mild.{IsMildStart}
use Rattle.whole_paths.specs.SegmentRounds.{Rounds}
use Rattle.whole_paths.specs.WindowsHeard.{IsOpenTo}

-- a bare segment is under way to the side, at this position, whose window goes to this place of its stream, and comes by this tick
pub record WindowComesBy (s : Side) (position edge by : ℕ) (p : PathState Carried) : Type 0 where
  pub copy : Flight Carried
  pub there : IsUnderWay copy p
  pub at : copy.carried.segment.position ≡ position
  pub bare : IsBareTo s p copy
  pub next : ℕ
  pub mapping : Option (PathMapping ℕ)
  pub others : List PlainOption
  pub says : (as_arrived copy.carried).options ≡ Dss (Some next) mapping ∷ others
  pub low : next < 2 ^ 62
  pub wide : edge ≤ next + (meant (as_arrived copy.carried)).window
  pub soon : copy.tick ≤ by

-- the side may send up to the place, or is told so; or more was sent behind it, by which it may be overtaken
pub data WindowIsTold (six : SixBooks) (s : Side) (position edge by : ℕ) (p : PathState Carried) : Type 0 where
  heard : IsOpenTo six s edge p → WindowIsTold six s position edge by p
  comes : WindowComesBy s position edge by p → WindowIsTold six s position edge by p
  behind : position < (end_at (peer s) p).tcp.send.nxt → WindowIsTold six s position edge by p

-- of the windows that a side is told, as the path becomes another one, and the books are so before and after
pub record WindowsGoOn (s : Side) (six after : SixBooks) (p q : PathState Carried) : Type 0 where
  -- what is told by a tick is told by that tick still
  pub comes : (position edge by : ℕ) → WindowIsTold six s position edge by p → WindowIsTold after s position edge by q
  -- and one that the peer sends in the turn, without an octet, comes within 400 ticks, or is harmed
  pub sent : LeavesRoomFor s p → IfSome (first_sends p.agenda p) (λ x. x.from ≡ peer s → IsBareFrom (peer s) p (segment_sent p x)
      → (next : ℕ) (mapping : Option (PathMapping ℕ)) (others : List PlainOption) → (segment_sent p x).options ≡ Dss (Some next) mapping ∷ others → next < 2 ^ 62
      → (edge : ℕ) → edge ≤ next + (meant (segment_sent p x)).window
      → (q ≡ p) ⊎ ((is_harmed (peer s) p q ≡ true) ⊎ WindowComesBy s (end_at (peer s) p).tcp.send.nxt edge (p.clock + 400) q))

-- by each turn of a mild connection between ends past the handshake, of which B's may send a DSS
abbrev pub WindowsComeSoon : Type 0
WindowsComeSoon = (start : Start) (turns : List Turn) (turn : Turn) (h : IsBegunTurn start turns turn) (s : Side)
    → WindowsGoOn s (books_in (reached values start turns).books) (books_in (reached values start (turns ++ turn ∷ [])).books) h.before.path h.after.path

-- In four rounds the side may send up to the edge that it was told so; or more is sent behind it.
abbrev pub FourRoundsOpen : Type 0
FourRoundsOpen = (start : Start) (v u : List Turn) → IsMildStart start → Rounds start 4 v u → (s : Side)
    → (p q : PathState Carried) → IsPathAt 0 (reached values start v) p → IsPathAt 0 (reached values start u) q
    → (position edge : ℕ) → WindowIsTold (books_in (reached values start v).books) s position edge (p.clock + 400) p
    → (edge ≤ (written_by s (reached values start u)).edge) ⊎ (position < (end_at (peer s) q).tcp.send.nxt)
