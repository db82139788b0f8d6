-- What the end of the only path is granted: a full segment's payload, or all that is written of its stream, or all before the edge of its peer's
-- window (RFC 9293, section 3.8.6).
use Rattle.std.specs.Prelude.{◌+◌, ◌≡◌, ◌<◌, ◌≤◌, ◌⊎◌, min, false, List, [], ◌∷◌, ◌++◌, ℕ, length}
use Rattle.sides.specs.declared.side.Side.{Side}
use Rattle.send_book.specs.State.{Sending}
use Rattle.subflow_send.specs.Records.{Record, end_of}
use Rattle.subflow_send.specs.declared.record.RecordKind.TheVariants.{Data}
use Rattle.path_core.specs.Emission.{payload_size}
use Rattle.path_core.specs.End.{PathEnd}
use Rattle.path_core.specs.Profile.{Profile}
use Rattle.path_core.specs.State.{PathState, end_at}
use Rattle.path_core.specs.Values.{Carried, values}
use Rattle.world_laws.specs.Openings.{PathPlan, Start}
use Rattle.world_laws.specs.Promises.{written_by}
use Rattle.world_laws.specs.RoundDone.{reached}
use Rattle.world_laws.specs.Worlds.{Turn}
use Rattle.whole_paths.specs.Finish.{IsPathAt}
use Rattle.whole_paths.specs.Mending.{IsRecordOf}
use Rattle.whole_paths.specs.Mild.{IsMildStart}

-- At this position the end's last record begins, of data, that holds a full segment's payload, or reaches all that is written, or the edge of the
-- peer's window.
pub record HoldsAFullPiece (c : Profile) (b : Sending) (from : ℕ) (e : PathEnd) : Type 0 where
  pub piece : Record
  pub there : IsRecordOf e piece
  pub kind : piece.kind ≡ Data
  pub pos : piece.pos ≡ from
  pub last : e.tcp.send.nxt ≡ end_of piece
  pub full : (from + payload_size c ≤ end_of piece) ⊎ (min (length b.written) b.edge < end_of piece)
  -- all of its bytes are written
  pub part : length piece.piece ≤ length b.written

-- On the only path of a mild connection, by any turn: SND.NXT of an end that sent no FIN stays, or such a record begins where it was.
abbrev pub EachGrantIsFull : Type 0
EachGrantIsFull = (start : Start) (plan : PathPlan) (turns : List Turn) (turn : Turn) → start.paths ≡ plan ∷ [] → IsMildStart start
    → (p q : PathState Carried) → IsPathAt 0 (reached values start turns) p → IsPathAt 0 (reached values start (turns ++ turn ∷ [])) q → (s : Side)
    → (end_at s q).tcp.send.finished ≡ false → let next = (end_at s p).tcp.send.nxt in
    ((end_at s q).tcp.send.nxt ≡ next) ⊎ HoldsAFullPiece p.profile (written_by s (reached values start turns)) next (end_at s q)
