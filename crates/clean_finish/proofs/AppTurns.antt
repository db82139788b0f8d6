-- The turns of both applications of a lane begin.
use Rattle.clean_finish.proofs.Words.{◌≡◌, ℕ, Bool, true, false, Option, None, List, [], ◌∷◌, Some, Arriving, received, AppState, app_next_round, Setting, Lane}
use Rattle.clean_finish.proofs.Words.{all_left, Writer, Reader, Going, Moves, all_moves_going, IsAppTurn, WriterIs, WriterShows, ReaderIs, ReaderShows, Begun}
use Rattle.clean_finish.proofs.Words.{Written, Closed, ReadAll}
use Rattle.send_book.specs.State.{Sending}
use Rattle.clean_finish.proofs.Moving.{more_than, moves_then}
use Rattle.clean_finish.proofs.Reading.{reading_begins}
use Rattle.clean_finish.proofs.Writing.{turn_begins}

-- both lead the lane on by moves
pub record BothBegin (k : Setting) (w : Lane) (a b : AppState) (send : Sending) (arrived : Arriving) : Type 0 where
  pub writer : Writer
  pub reader : Reader
  pub count : ℕ
  pub moves : Moves k w count all_left w all_left (record w { writer = writer; reader = reader })
  pub writes : WriterShows k (record w { writer = writer; reader = reader }) (app_next_round a) send
  pub reads : ReaderShows k (record w { writer = writer; reader = reader }) (app_next_round b) arrived

pub both_begin : (k : Setting) (w : Lane) (t : ℕ) (a b : AppState) (send : Sending) (arrived : Arriving) → Going k w t all_left w
    → WriterIs k w.written w.closed w.acked a send → w.writer_over ≡ false
    → ReaderIs k w.read w.data_fin_came w.got w.told_end (record b { count = 0 }) arrived → w.received ≡ received arrived
    → w.reader_over ≡ false → BothBegin k w a b send arrived
both_begin k w t a b send arrived going writes writing reads came reading =
    let g = turn_begins k w t all_left w a send going writes writing in
    let h = reading_begins k w t all_left (record w { writer = g.writer }) b arrived
    (all_moves_going k w t g.count all_left w all_left (record w { writer = g.writer }) g.moves going)
    (record {
      bytes = reads.bytes;
      count = reads.count;
      known = reads.known;
      end = reads.end;
      whole = reads.whole;
      buffer = reads.buffer;
      unaborted = reads.unaborted;
      stays = reads.stays;
    }) came reading in
    record {
      writer = g.writer;
      reader = h.reader;
      count = more_than h.count g.count;
      moves = moves_then k w g.count h.count all_left w all_left (record w { writer = g.writer }) all_left
          (record w { writer = g.writer; reader = h.reader }) g.moves h.moves;
      writes = record { numbers = g.shows.numbers; over = g.shows.over };
      reads = h.shows;
    }

-- what is left of such a turn
pub turn_is : (a : AppState) → a.stops_in ≡ None → IsAppTurn (app_next_round a).agenda
turn_is a stays = by a.stops_in stays a.rest a.closed a.told
  where
    by : (o : Option ℕ) → o ≡ None → (rest : List ℕ) (closed told : Bool)
        → IsAppTurn (app_next_round (record a { stops_in = o; rest = rest; closed = closed; told = told })).agenda
    by (Some n) none rest closed told = cc
    by None none (x ∷ rest) closed told = Begun
    by None none [] false told = Written
    by None none [] true false = Closed
    by None none [] true true = ReadAll
