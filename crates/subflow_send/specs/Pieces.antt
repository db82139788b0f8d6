-- The representation: the SYN, the pieces and the FIN in fields of their own.
use Rattle.std.specs.Prelude.{ℕ, ◌≡◌, ◌+◌, ◌-◌, ◌^◌, ◌<◌, ◌≤◌, ◌↔◌, Bool, true, false, IsSome, nat_le, if◌then◌else◌, Option, Some, None, List, [], ◌∷◌, ◌++◌, length, map, sum_by}
use Rattle.std.proofs.Common.{get_or}
use Rattle.subflow_send.specs.declared.pieces.Piece.{Piece}
use Rattle.subflow_send.specs.declared.record.RecordKind.TheVariants.{Data}
use Rattle.subflow_send.specs.declared.record.Sending.{Sending}
use Rattle.subflow_send.specs.Sendings.{sent_again, to_be_sent}
use Rattle.subflow_send.specs.Records.{Record, span_of, Tile}
use Rattle.subflow_send.specs.Rules.{syn_record, fin_record}

-- a piece as a record of data
abbrev pub piece_record : Piece → Record
piece_record p = record { pos = p.pos; kind = Data; piece = p.bytes; mapping = p.mapping; sending = p.sending }

-- the SYN, as long as it is kept
abbrev pub syn_records : Option Sending → List Record
syn_records None = []
syn_records (Some sending) = syn_record sending ∷ []

-- the FIN at its position, as long as it is kept
abbrev pub fin_records : ℕ → Option Sending → List Record
fin_records pos None = []
fin_records pos (Some sending) = fin_record pos sending ∷ []

-- the SYN, the pieces, the FIN
abbrev pub all_records : Option Sending → List Piece → ℕ → Option Sending → List Record
all_records syn pieces fin_pos fin = syn_records syn ++ (map piece_record pieces ++ fin_records fin_pos fin)

-- the SYN or the FIN, where it is to be sent
abbrev pub unsent_sending : Option Sending → Option Sending
unsent_sending None = None
unsent_sending (Some sending) = if sending.unsent then Some sending else None

-- the position after a piece
abbrev pub piece_end : Piece → ℕ
piece_end p = p.pos + length p.bytes

-- the pieces that end past this position
abbrev pub uncovered_pieces : ℕ → List Piece → List Piece
uncovered_pieces pos [] = []
uncovered_pieces pos (p ∷ ps) = if nat_le (piece_end p) pos then uncovered_pieces pos ps else p ∷ ps

-- a piece that is to be sent again
abbrev pub unsent_piece : Piece → Piece
unsent_piece p = record p { sending = to_be_sent p.sending }

abbrev pub is_unsent_piece : Piece → Bool
is_unsent_piece p = p.sending.unsent

-- the first piece that is to be sent is sent
abbrev pub sent_pieces : ℕ → List Piece → List Piece
sent_pieces now [] = []
sent_pieces now (p ∷ ps) = if is_unsent_piece p then record p { sending = sent_again now p.sending } ∷ ps else p ∷ sent_pieces now ps

abbrev pub sending_of : Record → Sending
sending_of r = r.sending

abbrev pub piece_len : Piece → ℕ
piece_len p = length p.bytes

-- the octets of a piece that are sent, acknowledged or not: none where it is to be sent
abbrev pub piece_under_way : Piece → ℕ
piece_under_way p = if is_unsent_piece p then 0 else length p.bytes

-- the octets of the first piece that are sent and lie below this position
abbrev pub sent_below : ℕ → List Piece → ℕ
sent_below pos [] = 0
sent_below pos (p ∷ ps) = if is_unsent_piece p then 0 else pos - p.pos

-- whether the first piece ends at or before this position
abbrev pub first_is_covered : ℕ → List Piece → Bool
first_is_covered pos [] = false
first_is_covered pos (p ∷ ps) = nat_le (piece_end p) pos

-- a piece is sent once more
abbrev pub sent_piece : ℕ → Piece → Piece
sent_piece now p = record p { sending = sent_again now p.sending }

-- what is kept beside the pieces: none before this place is to be sent, and so many octets are under way
pub record IsCounted (pieces : List Piece) (sent_to under_way : ℕ) : Type 0 where
  pub within : sent_to ≤ length pieces
  pub before : (k : ℕ) (d : Piece) → k < sent_to → is_unsent_piece (get_or pieces k d) ≡ false
  pub octets : under_way ≡ sum_by piece_under_way pieces

-- what is kept of a sending side
pub record IsKept (una nxt : ℕ) (syn : Option Sending) (pieces : List Piece) (fin : Option Sending) (finished : Bool) : Type 0 where
  pub tile : Tile una nxt (map span_of (all_records syn pieces (nxt - 1) fin))
  pub syn_first : IsSome syn ↔ (una ≡ 0)
  pub fin_last : IsSome fin → finished ≡ true
  pub fin_left : finished ≡ true → una < nxt → IsSome fin
  pub order : una ≤ nxt
  pub begun : 0 < nxt
  pub open_bound : finished ≡ false → nxt < 2 ^ 61 + 2 ^ 16
  pub bound : nxt < 2 ^ 61 + 2 ^ 17
