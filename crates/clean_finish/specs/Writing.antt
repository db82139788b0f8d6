-- How the writer of a lane shows in an application and its send book.
use Rattle.std.specs.Prelude.{ℕ, ◌≡◌, ◌+◌, ◌≤◌, min, Bool, true, false, not, None, List, [], ◌∷◌, length}
use Rattle.send_book.specs.State.{Sending, acked_len}
use Rattle.subflow_tcp.specs.Segments.{one_if}
use Rattle.stream_apps.specs.declared.duty.AppDuty.{AppDuty}
use Rattle.stream_apps.specs.declared.duty.AppDuty.TheVariants.{Write, Close}
use Rattle.stream_apps.specs.Apps.{AppState}
use Rattle.pace.specs.Lane.{Setting, Lane, Writer, Stage}
use Rattle.pace.specs.Rounds.{Moves}

-- the application has still to write or to close
abbrev pub is_writing : List AppDuty → Bool
is_writing (Write ∷ ds) = true
is_writing (Close ∷ ds) = true
is_writing _ = false

-- The application and its book show what is written, closed (0 or 1) and heard to be acknowledged.
pub record WriterIs (k : Setting) (written closed acked : ℕ) (a : AppState) (b : Sending) : Type 0 where
  pub file : length b.written + length a.rest ≡ k.total
  pub bytes : written ≡ length b.written
  pub shut : closed ≡ one_if b.closed
  pub told : a.closed ≡ b.closed
  pub whole : b.closed ≡ true → a.rest ≡ []
  -- the book knows all that was heard
  pub heard : min acked (length b.written) ≤ acked_len b.marks
  pub offers : a.buffer ≡ k.buffer
  pub buffer : b.buffer ≡ k.buffer
  pub unaborted : b.aborted ≡ false
  -- the application never stops the connection
  pub stays : a.stops_in ≡ None

-- A lane shows in an application and its book; its writer's turn is over where nothing is left to write or to close.
pub record WriterShows (k : Setting) (w : Lane) (a : AppState) (b : Sending) : Type 0 where
  pub numbers : WriterIs k w.written w.closed w.acked a b
  pub over : w.writer_over ≡ not (is_writing a.agenda)

-- The writer of the lane goes on by moves, and shows in this application and book.
pub record WriterGoes (k : Setting) (s : Lane) (p : Stage) (w : Lane) (a : AppState) (b : Sending) : Type 0 where
  pub writer : Writer
  pub count : ℕ
  pub moves : Moves k s count p w p (record w { writer = writer })
  pub shows : WriterShows k (record w { writer = writer }) a b
