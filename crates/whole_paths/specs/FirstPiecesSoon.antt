-- A's first piece that is sent with both keys is harmed, or awaited within 400 ticks.
use Rattle.std.specs.Prelude.{◌+◌, ◌-◌, ◌^◌, ◌≡◌, ◌<◌, ◌≤◌, ◌⊎◌, true, false, is_some, List, [], ◌∷◌, ◌++◌}
use Rattle.sides.specs.declared.side.Side.TheVariants.{A}
use Rattle.subflow_send.specs.Records.{Record}
use Rattle.subflow_send.specs.declared.record.RecordKind.TheVariants.{Data}
use Rattle.link_model.specs.Steps.{segments_sent}
use Rattle.path_core.specs.State.{PathState}
use Rattle.path_core.specs.Values.{Carried, values}
use Rattle.world_laws.specs.Openings.{Start}
use Rattle.world_laws.specs.RoundDone.{reached}
use Rattle.world_laws.specs.Worlds.{Turn}
use Rattle.whole_paths.specs.AsFar.{stage}
use Rattle.whole_paths.specs.Finish.{IsPathAt, is_harmed}
use Rattle.whole_paths.specs.FirstPieces.{IsFirstPieceAwaited}
use Rattle.whole_paths.specs.Mild.{IsMildStart}
use Rattle.whole_paths.specs.RecordsGo.{GoesNext}

-- neither end may send a DSS yet, A has B's key, and nothing came to B behind the SYN
pub record AwaitsKeys (p : PathState Carried) : Type 0 where
  pub high : 2 ≤ stage p.a.tcp.state
  pub unclear : p.a.modes.clear ≡ false
  pub key : is_some p.a.modes.peer_key ≡ true
  pub unsure : p.b.modes.clear ≡ false
  pub met : 2 ≤ stage p.b.tcp.state
  pub edge : p.b.tcp.recv.edge ≡ 1

-- As the path becomes another one, and its link takes the piece, for which B waits still: it is harmed, or comes within 400 ticks, twice the longest
-- delay.
abbrev pub FirstPieceComesSoon : PathState Carried → PathState Carried → Type 0
FirstPieceComesSoon p q = (r : Record) → r.kind ≡ Data → r.pos ≡ 1 → AwaitsKeys p → AwaitsKeys q → GoesNext A r p → segments_sent A p.link < segments_sent A q.link
    → segments_sent A p.link < 2 ^ 64 - 1 → (is_harmed A p q ≡ true) ⊎ IsFirstPieceAwaited (p.clock + 400) q

-- on path 0, by each turn of a mild connection
abbrev pub EachFirstPieceComesSoon : Type 0
EachFirstPieceComesSoon = (start : Start) (turns : List Turn) (turn : Turn) → IsMildStart start → (p q : PathState Carried) → IsPathAt 0 (reached values start turns) p
    → IsPathAt 0 (reached values start (turns ++ turn ∷ [])) q → FirstPieceComesSoon p q
