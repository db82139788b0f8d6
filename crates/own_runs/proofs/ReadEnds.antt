-- A reader is told the end of a stream only by a book that knows it.
use Rattle.std.proofs.Common.{◌≡◌, refl, ap, ℕ, Bool, true, false, if◌then◌else◌, Option, Some, None, is_some, List, [], ◌∷◌, take}
use Rattle.std.specs.List.{slice_get}
use Rattle.std.proofs.lemmas.Bool.{false≢true}
use Rattle.reassembly_book.specs.State.{Arriving, filled}
use Rattle.reassembly_book.specs.Steps.{after_call, after_reading, bytes_reply, is_end, read_reply, reading}
use Rattle.reassembly_book.specs.declared.call.ReassemblyCall.TheVariants.{Fin, Place, Read}
use Rattle.reassembly_book.specs.declared.call.ReassemblyReply.{ReassemblyReply}
use Rattle.stream_lanes.specs.Duo.{Duo, Event, after_event, after_events, flags_ab, flags_ba, opening_over}
use Rattle.stream_lanes.specs.Lane.{Ask, Lane}
use Rattle.stream_lanes.specs.Moves.{Flags}
use Rattle.stream_lanes.specs.Streams.{Direction, Reader, StreamEvent, after, asks, asks_at, goes_infinite, is_done, may_go, moves, reads, takes_read}
use Rattle.own_runs.proofs.Wanted.{Onward, fin_onward, placed_onward, read_onward}

abbrev Knows : Arriving → Type 0
Knows b = is_some b.known_end ≡ true

knows_onward : (b c : Arriving) → Onward b c → Knows b → Knows c
knows_onward b c h is = by b.known_end h.stays is
  where
    by : (o : Option ℕ) → ((e : ℕ) → o ≡ Some e → c.known_end ≡ Some e) → is_some o ≡ true → Knows c
    by None stays is = absurd (false≢true is)
    by (Some e) stays is = ap is_some (stays e refl)

-- where its reader was told the end
abbrev pub ToldKnows : Direction → Type 0
ToldKnows d = d.reader.told ≡ true → Knows d.arrived

either_knows : (b : Bool) (d e : Direction) → ToldKnows d → ToldKnows e → ToldKnows (if b then d else e)
either_knows true d e x y = x
either_knows false d e x y = y

end_known : (o : Option ℕ) (place : ℕ) → is_end o place ≡ true → is_some o ≡ true
end_known None place is = absurd (false≢true is)
end_known (Some e) place is = refl

-- the reply by which it is told
told_by : (b : Arriving) (max : ℕ) (r : Reader) → (takes_read (read_reply max b) r).told ≡ true → (r.told ≡ true → Knows b) → Knows b
told_by b max r is h = by b.aborted is
  where
    ends : (k : Bool) → is_end b.known_end b.read ≡ k → (takes_read (if k then ReassemblyReply.End else ReassemblyReply.NoneYet) r).told ≡ true → Knows b
    ends true at is = end_known b.known_end b.read at
    ends false at is = h is

    bytes : (xs : List ℕ) → (takes_read (bytes_reply xs b) r).told ≡ true → Knows b
    bytes [] is = ends (is_end b.known_end b.read) refl is
    bytes (x ∷ xs) is = h is

    by : (o : Option Bool) → (takes_read (reading o max b) r).told ≡ true → Knows b
    by None is = bytes (take max (filled b.places)) is
    by (Some by_peer) is = h is

read_knows : (b : Arriving) (max : ℕ) → Knows b → Knows (after_call b (Read max))
read_knows b max is = by (is_some b.aborted)
  where
    by : (k : Bool) → Knows (if k then b else after_reading max b)
    by true = is
    by false = knows_onward b (after_reading max b) (read_onward max b) is

asks_know : (path : ℕ) (ask : Ask) (p : Lane) (d : Direction) → ToldKnows d → ToldKnows (asks path ask p d)
asks_know path (Ask.AskPlace at bytes) p d h = λ told. knows_onward d.arrived (after_call d.arrived (Place at bytes)) (placed_onward at bytes d.arrived) (h told)
asks_know path (Ask.AskFin at) p d h = λ told. knows_onward d.arrived (after_call d.arrived (Fin at)) (fin_onward at d.arrived) (h told)
asks_know path Ask.Nothing p d h = h
asks_know path _ p d h = h

event_knows : (f : Flags) (event : StreamEvent) (d : Direction) → ToldKnows d → ToldKnows (after f event d)
event_knows f (StreamEvent.Write bytes) d h = h
event_knows f StreamEvent.Close d h = h
event_knows f (StreamEvent.Return path) d h = h
event_knows f StreamEvent.AbortSend d h = h
event_knows f (StreamEvent.AbortRead by_peer) d h = h
event_knows f StreamEvent.GoIdentity d h = either_knows f.sender _ d h h
event_knows f (StreamEvent.GoInfinite path pos) d h = by (slice_get d.lanes path)
  where
    by : (o : Option Lane) → ToldKnows (goes_infinite path pos o d)
    by None = h
    by (Some p) = either_knows (may_go path pos d.send p) _ d h h
event_knows f (StreamEvent.Read max) d h =
    either_knows (is_done d.reader) d (reads max d) h (λ told. read_knows d.arrived max (told_by d.arrived max d.reader told h))
event_knows f (StreamEvent.Moves path move) d h = by (slice_get d.lanes path)
  where
    by : (o : Option Lane) → ToldKnows (moves f path move o d)
    by None = h
    by (Some p) = h
event_knows f (StreamEvent.Asks path) d h = by (slice_get d.lanes path)
  where
    by : (o : Option Lane) → ToldKnows (asks_at path o d)
    by None = h
    by (Some p) = asks_know path p.asking p d h

-- ---- a connection

pub record BothKnow (d : Duo) : Type 0 where
  pub ab : ToldKnows d.ab
  pub ba : ToldKnows d.ba

duo_knows : (event : Event) (d : Duo) → BothKnow d → BothKnow (after_event event d)
duo_knows (Event.ToB event) d h = record { ab = event_knows (flags_ab d.modes) event d.ab h.ab; ba = h.ba }
duo_knows (Event.ToA event) d h = record { ab = h.ab; ba = event_knows (flags_ba d.modes) event d.ba h.ba }
duo_knows _ d h = record { ab = h.ab; ba = h.ba }

events_know : (events : List Event) (d : Duo) → BothKnow d → BothKnow (after_events events d)
events_know [] d h = h
events_know (event ∷ events) d h = events_know events (after_event event d) (duo_knows event d h)

-- at each moment
pub always_know : (alters checked : Bool) (paths buffer_a buffer_b : ℕ) (events : List Event) → BothKnow (after_events events (opening_over alters checked paths buffer_a buffer_b))
always_know alters checked paths buffer_a buffer_b events =
    events_know events (opening_over alters checked paths buffer_a buffer_b) (record { ab = λ told. absurd (false≢true told); ba = λ told. absurd (false≢true told) })
