-- What path 0 of a mild connection waits for once both of its ends are past the handshake, until both may send a DSS (RFC 8684, section 3.1).
use Rattle.std.specs.Prelude.{ℕ, ◌+◌, ◌≡◌, ◌<◌, ◌≤◌, ◌⊎◌, false, List, [], ◌∷◌}
use Rattle.subflow_send.specs.Records.{Record}
use Rattle.subflow_send.specs.declared.record.RecordKind.TheVariants.{Data}
use Rattle.subflow_tcp.specs.States.{is_closed_to_segments}
use Rattle.path_core.specs.State.{PathState}
use Rattle.path_core.specs.Values.{Carried, values}
use Rattle.world_laws.specs.Openings.{Start}
use Rattle.world_laws.specs.RoundDone.{reached}
use Rattle.world_laws.specs.Worlds.{Turn}
use Rattle.whole_paths.specs.AsFar.{stage}
use Rattle.whole_paths.specs.Courses.{round_end}
use Rattle.whole_paths.specs.Finish.{IsPathAt}
use Rattle.whole_paths.specs.Mild.{IsMildStart}
use Rattle.whole_paths.specs.FirstPieces.{IsFirstPieceAwaited}
use Rattle.whole_paths.specs.FirstSigns.{IsSignAwaited, WaitsAtItsEnd}
use Rattle.whole_paths.specs.Opened.{opened_or_harmed}
use Rattle.whole_paths.specs.SignPieces.{IsSignPieceAwaited, WantsASign}
use Rattle.whole_paths.specs.OpeningWaits.{AliveOpens, AliveSteps}

-- by this tick B is to hear both keys, by A's first piece; or A its first DSS, by B's first piece, or where B has no record
pub data IsFirstSignAwaited (x : ℕ) (p : PathState Carried) : Type 0 where
  piece : IsFirstPieceAwaited x p → IsFirstSignAwaited x p
  sign : IsSignPieceAwaited x p → IsFirstSignAwaited x p
  end : IsSignAwaited x p → IsFirstSignAwaited x p

-- after these turns
pub record AwaitsFirstSign (start : Start) (x : ℕ) (turns : List Turn) : Type 0 where
  pub path : PathState Carried
  pub here : IsPathAt 0 (reached values start turns) path
  pub by : ℕ
  pub soon : by ≤ x
  pub sent : 1 ≤ stage path.a.tcp.state
  pub waits : IsFirstSignAwaited by path

-- Neither end may send a DSS, and A's first piece isn't acknowledged, before which nothing came to B behind the SYN; or B may, and its first piece isn't
-- acknowledged, or it has no record, and waits for the Data ACK of its DATA_FIN.
pub data IsToShow (p : PathState Carried) : Type 0 where
  piece : (r : Record) (others : List Record) → p.a.tcp.send.records ≡ r ∷ others → r.kind ≡ Data → r.pos ≡ 1 → 2 ≤ stage p.a.tcp.state → p.a.modes.clear ≡ false
      → p.b.modes.clear ≡ false → 2 ≤ stage p.b.tcp.state → p.b.tcp.recv.edge ≡ 1 → IsToShow p
  sign : WantsASign p → (r : Record) (others : List Record) → p.b.tcp.send.records ≡ r ∷ others → r.kind ≡ Data → r.pos ≡ 1 → IsToShow p
  end : is_closed_to_segments p.b.tcp.state ≡ false → p.b.tcp.send.records ≡ [] → p.a.modes.clear ≡ false → 2 ≤ stage p.a.tcp.state → WaitsAtItsEnd p.b → IsToShow p

-- so it is after these turns
pub record ShowsStill (start : Start) (turns : List Turn) : Type 0 where
  pub path : PathState Carried
  pub here : IsPathAt 0 (reached values start turns) path
  pub shows : IsToShow path

-- As a round begins a wait begins, for a minute and 400 ticks there and back; it goes on by each step, and as the next round begins, or the path is a
-- step further, or a segment was harmed; and no round begins past it.
pub record FirstSignIsAwaited (start : Start) (most : ℕ) : Type 0 where
  pub begins : (v u : List Turn) → AliveOpens start most v u → ShowsStill start v → AwaitsFirstSign start (round_end values start v + 60800) u
  pub on : (x : ℕ) (v u : List Turn) → AliveSteps start most v u → AwaitsFirstSign start x v → (opened_or_harmed start v < opened_or_harmed start u) ⊎ AwaitsFirstSign start x u
  pub next : (x : ℕ) (v u : List Turn) → AliveOpens start most v u → AwaitsFirstSign start x v → (opened_or_harmed start v < opened_or_harmed start u) ⊎ AwaitsFirstSign start x u
  pub due : (x : ℕ) (v u : List Turn) → AliveOpens start most v u → AwaitsFirstSign start x v → x < round_end values start v → ⊥

-- in each mild connection over any number of paths, while no end of path 0 is dead
abbrev pub FirstSignsAreAwaited : Type 0
FirstSignsAreAwaited = (start : Start) (most : ℕ) → IsMildStart start → FirstSignIsAwaited start most
