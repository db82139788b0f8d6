-- The records of a sending side by position: the SYN, data pieces, the FIN.
use Rattle.std.specs.Prelude.{ℕ, ◌≡◌, ◌+◌, ◌<◌, ◌≤◌, Bool, List, [], ◌∷◌, length}
use Rattle.seq_units.specs.declared.mapping.Mapping.{Mapping}
use Rattle.subflow_send.specs.declared.record.RecordKind.{RecordKind}
use Rattle.subflow_send.specs.declared.record.RecordKind.TheVariants.{Syn, Data, Fin}
use Rattle.subflow_send.specs.declared.record.Sending.{Sending}
use Rattle.subflow_send.specs.declared.record.RecordRef.{RecordRef}

pub record Record : Type 0 where
  pub pos : ℕ
  pub kind : RecordKind
  pub piece : List ℕ
  pub mapping : Mapping
  pub sending : Sending

-- the SYN and the FIN occupy one position each, data one for each octet
abbrev pub occupied : RecordKind → List ℕ → ℕ
occupied Syn piece = 1
occupied Data piece = length piece
occupied Fin piece = 1

-- the position after a record
abbrev pub end_of : Record → ℕ
end_of r = r.pos + occupied r.kind r.piece

-- the positions of a record: the first one, and the one after the last
abbrev pub span_of : Record → ℕ × ℕ
span_of r = (r.pos, end_of r)

-- one after another, none of them empty, from one position to another
abbrev pub Follow : ℕ → ℕ → List (ℕ × ℕ) → Type 0
Follow from to [] = from ≡ to
Follow from to (s ∷ ss) = (s.0 ≡ from) × (from < s.1) × Follow s.1 to ss

-- what is not acknowledged whole: SND.UNA lies in the first record, and the last one ends at SND.NXT
abbrev pub Tile : ℕ → ℕ → List (ℕ × ℕ) → Type 0
Tile una nxt [] = una ≡ nxt
Tile una nxt (s ∷ ss) = (s.0 ≤ una) × (una < s.1) × Follow s.1 nxt ss

-- a sending side: SND.UNA, SND.NXT, the records that are not acknowledged whole, and whether the FIN was pushed
pub record SendState : Type 0 where
  pub una : ℕ
  pub nxt : ℕ
  pub records : List Record
  pub finished : Bool

-- a record as it is lent
abbrev pub record_of : RecordRef → Record
record_of r = record { pos = r.pos; kind = r.kind; piece = r.piece.now; mapping = r.mapping; sending = r.sending }
