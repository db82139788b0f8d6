-- What the steps of an application are to the two lanes of its side: the one that it writes to, and the one
-- that it reads from.
use Rattle.std.specs.Prelude.{ℕ, ◌≡◌, ◌≤◌, true, false, [], ◌∷◌, length}
use Rattle.reassembly_book.specs.State.{Arriving, received}
use Rattle.reassembly_book.specs.Steps.{read_reply, after_read}
use Rattle.send_book.specs.State.{Sending}
use Rattle.send_book.specs.Steps.{write_reply, after_write, close_reply, after_close}
use Rattle.actor_desk.specs.declared.ask.Reply.TheVariants as replies
use Rattle.stream_apps.specs.declared.duty.AppDuty.TheVariants.{Write, Close, Read, End}
use Rattle.stream_apps.specs.Apps.{AppState}
use Rattle.stream_apps.specs.AppSteps.{offered, app_takes, app_next_round}
use Rattle.pace.specs.Lane.{Setting, Lane, Stage}
use Rattle.pace.specs.Going.{Going}
use Rattle.clean_finish.specs.Writing.{WriterIs, WriterShows, WriterGoes}
use Rattle.clean_finish.specs.Reading.{is_reading, ReaderIs, ReaderShows, ReaderGoes}

-- P holds of each lane at every moment of a round, with an application and a book
abbrev pub WithBook : {B : Type 0}
    → ((k : Setting) (s : Lane) (p : Stage) (w : Lane) (a : AppState) (b : B) → Type 0) → Type 0
WithBook {B} P = (k : Setting) (s : Lane) (t : ℕ) (p : Stage) (w : Lane) (a : AppState) (b : B) → Going k s t p w
    → P k s p w a b

-- an application writes as its lane does, as far as its book has room; files are of 16 MiB at most
abbrev pub WritesAsALane : Type 0
WritesAsALane =
    WithBook {B = Sending} (λ k s p w a b. WriterShows k w a b → a.agenda ≡ Write ∷ Close ∷ Read ∷ End ∷ []
    → 1 ≤ length a.rest → k.total ≤ 16777216
    → WriterGoes k s p w (app_takes (replies.Send (write_reply (offered a) b)) a) (after_write (offered a) b))

-- an application that has nothing left to write closes its stream as its lane does
abbrev pub ClosesAsALane : Type 0
ClosesAsALane =
    WithBook {B = Sending} (λ k s p w a b. WriterShows k w a b → a.agenda ≡ Close ∷ Read ∷ End ∷ [] → a.rest ≡ []
    → WriterGoes k s p w (app_takes (replies.Send (close_reply b)) a) (after_close b))

-- a writing application's next turn begins as its lane's does
abbrev pub BeginsToWriteAsALane : Type 0
BeginsToWriteAsALane =
    WithBook {B = Sending} (λ k s p w a b. WriterIs k w.written w.closed w.acked a b → w.writer_over ≡ false
    → WriterGoes k s p w (app_next_round a) b)

-- an application reads as its lane does, at most `most` octets at once
abbrev pub ReadsAsALane : Type 0
ReadsAsALane =
    WithBook {B = Arriving} (λ k s p w a b. ReaderShows k w a b → a.agenda ≡ Read ∷ End ∷ [] → a.told ≡ false
    → (most : ℕ) → 1 ≤ most
    → ReaderGoes k s p w (app_takes (replies.Reassembly (read_reply most b)) a) (after_read most b))

-- what an application does besides leaves what it reads; its turn may be over only where it was told the end
abbrev pub FollowsAsALane : Type 0
FollowsAsALane =
    WithBook {B = Arriving}
    (λ k s p w a b. ReaderIs k w.read w.data_fin_came w.got w.told_end a b → w.received ≡ received b
    → (is_reading a.agenda ≡ false → a.told ≡ true) → w.reader_over ≡ false
    → ReaderGoes k s p w a b)

-- a reading application's next turn begins as its lane's does
abbrev pub BeginsToReadAsALane : Type 0
BeginsToReadAsALane =
    WithBook {B = Arriving}
    (λ k s p w a b. ReaderIs k w.read w.data_fin_came w.got w.told_end (record a { count = 0 }) b
    → w.received ≡ received b → w.reader_over ≡ false
    → ReaderGoes k s p w (app_next_round a) b)
