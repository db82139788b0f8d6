-- How the reader of a lane shows in an application and its reassembly book.
use Rattle.std.specs.Prelude.{ℕ, zero, suc, ◌≡◌, Bool, true, false, not, Option, None, Some, List, ◌∷◌}
use Rattle.subflow_tcp.specs.Segments.{one_if}
use Rattle.reassembly_book.specs.State.{Arriving, received}
use Rattle.stream_apps.specs.declared.duty.AppDuty.{AppDuty}
use Rattle.stream_apps.specs.declared.duty.AppDuty.TheVariants.{Write, Close, Read}
use Rattle.stream_apps.specs.Apps.{AppState}
use Rattle.pace.specs.Lane.{Setting, Lane, Reader, Stage}
use Rattle.pace.specs.Rounds.{Moves}

-- the application has still to write, to close or to read
abbrev pub is_reading : List AppDuty → Bool
is_reading (Write ∷ ds) = true
is_reading (Close ∷ ds) = true
is_reading (Read ∷ ds) = true
is_reading _ = false

-- the end that the book knows, once a DATA_FIN came
abbrev pub end_known : ℕ → ℕ → Option ℕ
end_known zero total = None
end_known (suc n) total = Some total

-- The application and its book show what is read, got in this round and told (0 or 1), and how many DATA_FINs came.
pub record ReaderIs (k : Setting) (read came got told : ℕ) (a : AppState) (b : Arriving) : Type 0 where
  pub bytes : read ≡ b.read
  pub count : got ≡ a.count
  pub known : b.known_end ≡ end_known came k.total
  pub end : told ≡ one_if a.told
  pub whole : a.told ≡ true → b.read ≡ k.total
  pub buffer : a.buffer ≡ k.buffer
  pub unaborted : b.aborted ≡ None
  -- the application never stops the connection
  pub stays : a.stops_in ≡ None

-- A lane shows in an application and its book; its reader's turn is over where nothing is left to write, close or read.
pub record ReaderShows (k : Setting) (w : Lane) (a : AppState) (b : Arriving) : Type 0 where
  pub numbers : ReaderIs k w.read w.data_fin_came w.got w.told_end a b
  pub received : w.received ≡ received b
  pub over : w.reader_over ≡ not (is_reading a.agenda)

-- The reader of the lane goes on by moves, and shows in this application and book.
pub record ReaderGoes (k : Setting) (s : Lane) (p : Stage) (w : Lane) (a : AppState) (b : Arriving) : Type 0 where
  pub reader : Reader
  pub count : ℕ
  pub moves : Moves k s count p w p (record w { reader = reader })
  pub shows : ReaderShows k (record w { reader = reader }) a b
