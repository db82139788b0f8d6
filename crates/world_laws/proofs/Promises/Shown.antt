-- What a connection promises follows from what its world shows of the two directions.
use Rattle.world_laws.proofs.Words.{◌≡◌, refl, sym, ◌∙◌, ap, subst, ℕ, ◌-◌, ◌&&◌, ◌||◌, not, nat_lt, Bool, true, false, if◌then◌else◌, Option, Some, None}
use Rattle.world_laws.proofs.Words.{Result, Ok, Err, List, [], ◌∷◌, length, take, and_parts, false≢true, slice_get, list_all, IsPrefix, A, B, ReassemblyCall}
use Rattle.world_laws.proofs.Words.{Arriving, filled, received, ReassemblyReply, Span, Why, SendCall, Sending, acked_len, SendReply, Ask, Note, Reply, books_in}
use Rattle.world_laws.proofs.Words.{SixBooks, reply_of, Carried, Duo, after_events, after_event, flags_ab, flags_ba, Holds, DirectionHolds, Lane, LaneAsk}
use Rattle.world_laws.proofs.Words.{is_exact, Direction, StreamEvent, Reader, lane_moves, ToB, ToA, FallA, FallB, LoosenA, LoosenB, BeginJoin, SendJoin}
use Rattle.world_laws.proofs.Words.{HearJoin, Flags, Move, AskAckIn, AskPlace, AskFin, Moves, Asks, lane_pipe, StepsOrStays, EachEventIsOneStep}
use Rattle.world_laws.proofs.Words.{NothingIsRefused, BothWays, is_ack_future, is_beyond_or_clash, ask_refused, lane_refused, content, flattened, never_fell_a}
use Rattle.world_laws.proofs.Words.{never_fell_b, reads_prefix, ends_whole, ends_at_all, Start, WorldState, was_told_end, BothKeepTheirWord, arrived_at}
use Rattle.world_laws.proofs.Words.{tells_refusal, if_so, output_of, read_by, was_told, tells_end, pipe_ab, pipe_ba, BothKeepCount, octet_at}
use Rattle.send_book.specs.Steps as sending
use Rattle.reassembly_book.specs.Steps as arriving
use Rattle.stream_lanes.specs.Duo.{Event}
use Rattle.stream_lanes.proofs.Promises.{acknowledges}
use Rattle.world_laws.proofs.Lanes.Applying.{Reads}
use Rattle.world_laws.proofs.Lanes.OfAWorld.{Links, plain_at, loose_at, duo_of, WorldShows, IsAsking, SendCallIs, ReassemblyCallIs, CallIs, is_silent, AreSilent, call_events, TurnShows}
use Rattle.world_laws.proofs.Lanes.Roads.{direction}
use Rattle.world_laws.proofs.Worlds.Casts.{Cast, world_of}
use Rattle.world_laws.proofs.Falls.WhereASideStands.{is_plain, is_loose}

-- ---- one direction

module _ (f : Flags) (exact : is_exact f ≡ true) (send : Sending) (arrived : Arriving) (lanes : List Lane) (reader : Reader) (told : Bool) (list : List Note)
    (h : DirectionHolds f (direction send arrived lanes reader)) (reads : Reads told list reader) where
  prefix_of : IsPrefix (read_by list) send.written
  prefix_of = subst (λ xs. IsPrefix xs send.written) reads.out_is (reads_prefix f (direction send arrived lanes reader) exact h)

  whole_of : was_told tells_end list ≡ true → (send.closed ≡ true) × (read_by list ≡ send.written)
  whole_of is =
      let whole = ends_whole f (direction send arrived lanes reader) exact h (reads.told_is ∙ is) in (whole.0, sym reads.out_is ∙ whole.1)

-- ---- both directions of a world

kept : (links : Links) → links.alters ≡ false → (t : Cast Carried) (ab ba : List Lane) (reader_a reader_b : Reader) → Holds (duo_of links (books_in t.books) ab ba reader_a reader_b) → Reads t.a.told t.at_a.list reader_a
    → Reads t.b.told t.at_b.list reader_b → BothKeepTheirWord (world_of t)
kept links none t ab ba reader_a reader_b h reads_a reads_b =
    let six = books_in t.books in
    let exact_b = ap (λ c. not c || (links.checked && not (plain_at links B six || loose_at links B six))) none in
    let exact_a = ap (λ c. not c || (links.checked && not (plain_at links A six || loose_at links A six))) none in
    let to_b = acknowledges _ (direction six.send_a six.reassembly_b ab reader_b) h.ab in
    let to_a = acknowledges _ (direction six.send_b six.reassembly_a ba reader_a) h.ba in
    record {
      ab = record {
        prefix = prefix_of _ exact_b six.send_a six.reassembly_b ab reader_b t.b.told t.at_b.list h.ab reads_b;
        acked = to_b.count;
        arrived = to_b.written;
        fin = to_b.fin;
        told = whole_of _ exact_b six.send_a six.reassembly_b ab reader_b t.b.told t.at_b.list h.ab reads_b;
      };
      ba = record {
        prefix = prefix_of _ exact_a six.send_b six.reassembly_a ba reader_a t.a.told t.at_a.list h.ba reads_a;
        acked = to_a.count;
        arrived = to_a.written;
        fin = to_a.fin;
        told = whole_of _ exact_a six.send_b six.reassembly_a ba reader_a t.a.told t.at_a.list h.ba reads_a;
      };
    }

pub keeps_its_word : (links : Links) (start : Start) (d : Duo) (w : WorldState Carried) → links.alters ≡ false → Holds d → WorldShows links start d w → BothKeepTheirWord w
keeps_its_word links start d w none h s =
    subst BothKeepTheirWord (sym s.is) (kept links none s.cast s.lanes_ab s.lanes_ba s.reader_a s.reader_b (subst Holds s.duo_is h) s.reads_a s.reads_b)

-- whatever is altered, lengths are kept
counted : (links : Links) (t : Cast Carried) (ab ba : List Lane) (reader_a reader_b : Reader) → Holds (duo_of links (books_in t.books) ab ba reader_a reader_b) → Reads t.a.told t.at_a.list reader_a
    → Reads t.b.told t.at_b.list reader_b → BothKeepCount (world_of t)
counted links t ab ba reader_a reader_b h reads_a reads_b =
    let six = books_in t.books in
    let to_b = acknowledges _ (direction six.send_a six.reassembly_b ab reader_b) h.ab in
    let to_a = acknowledges _ (direction six.send_b six.reassembly_a ba reader_a) h.ba in
    record {
      ab = record {
        acked = to_b.count;
        arrived = to_b.written;
        fin = to_b.fin;
        told = λ is. let all = ends_at_all _ (direction six.send_a six.reassembly_b ab reader_b) h.ab (reads_b.told_is ∙ is) in (all.0, ap length (sym reads_b.out_is) ∙ all.1);
      };
      ba = record {
        acked = to_a.count;
        arrived = to_a.written;
        fin = to_a.fin;
        told = λ is. let all = ends_at_all _ (direction six.send_b six.reassembly_a ba reader_a) h.ba (reads_a.told_is ∙ is) in (all.0, ap length (sym reads_a.out_is) ∙ all.1);
      };
    }

pub keeps_count : (links : Links) (start : Start) (d : Duo) (w : WorldState Carried) → Holds d → WorldShows links start d w → BothKeepCount w
keeps_count links start d w h s =
    subst BothKeepCount (sym s.is) (counted links s.cast s.lanes_ab s.lanes_ba s.reader_a s.reader_b (subst Holds s.duo_is h) s.reads_a s.reads_b)

-- ---- what the two directions show of outputs and pipes

pub record SameAsShown (d : Duo) (w : WorldState Carried) : Type 0 where
  pub out_b : output_of B w ≡ d.ab.reader.out
  pub out_a : output_of A w ≡ d.ba.reader.out
  pub told_b : was_told_end B w ≡ d.ab.reader.told
  pub told_a : was_told_end A w ≡ d.ba.reader.told
  pub written_a : (books_in w.books).send_a ≡ d.ab.send
  pub written_b : (books_in w.books).send_b ≡ d.ba.send
  pub arrived_b : (books_in w.books).reassembly_b ≡ d.ab.arrived
  pub arrived_a : (books_in w.books).reassembly_a ≡ d.ba.arrived
  pub ab : pipe_ab w ≡ lane_pipe d.ab
  pub ba : pipe_ba w ≡ lane_pipe d.ba

pub same_as_shown : (links : Links) (start : Start) (d : Duo) (w : WorldState Carried) → WorldShows links start d w → SameAsShown d w
same_as_shown links start d w s =
    subst (SameAsShown d) (sym s.is) (subst (λ e. SameAsShown e (world_of s.cast)) (sym s.duo_is) (record {
      out_b = sym s.reads_b.out_is;
      out_a = sym s.reads_a.out_is;
      told_b = sym s.reads_b.told_is;
      told_a = sym s.reads_a.told_is;
      written_a = refl;
      written_b = refl;
      arrived_b = refl;
      arrived_a = refl;
      ab = ap (λ b. record (pipe_ab (world_of s.cast)) { told_end = b }) (sym s.reads_b.told_is);
      ba = ap (λ b. record (pipe_ba (world_of s.cast)) { told_end = b }) (sym s.reads_a.told_is);
    }))

-- the octets that were placed
pub octets_b : (d : Duo) (w : WorldState Carried) → SameAsShown d w → (place : ℕ) → octet_at B w place ≡ content d.ab place
octets_b d w now place =
    ap (λ out. if nat_lt place (arrived_at B w).read then slice_get out place else flattened (slice_get (arrived_at B w).places (place - (arrived_at B w).read))) now.out_b
    ∙ ap (λ (a : Arriving). if nat_lt place a.read then slice_get d.ab.reader.out place else flattened (slice_get a.places (place - a.read))) now.arrived_b

pub octets_a : (d : Duo) (w : WorldState Carried) → SameAsShown d w → (place : ℕ) → octet_at A w place ≡ content d.ba place
octets_a d w now place =
    ap (λ out. if nat_lt place (arrived_at A w).read then slice_get out place else flattened (slice_get (arrived_at A w).places (place - (arrived_at A w).read))) now.out_a
    ∙ ap (λ (a : Arriving). if nat_lt place a.read then slice_get d.ba.reader.out place else flattened (slice_get a.places (place - a.read))) now.arrived_a

-- a firm side fell in no way
abbrev pub FirmShown : Links → Duo → Type 0
FirmShown links d = (links.firm_b ≡ true → never_fell_b d.modes ≡ true) × (links.firm_a ≡ true → never_fell_a d.modes ≡ true)

pub firm_shown : (links : Links) (start : Start) (d : Duo) (w : WorldState Carried) → WorldShows links start d w → FirmShown links d
firm_shown links start d w s =
    let six : SixBooks = books_in s.cast.books in
    subst (FirmShown links) (sym s.duo_is) (
      λ firm. ap (λ b. not ((not b && is_plain six.control_b.fall) || (not b && is_loose six.control_b.fall))) firm,
      λ firm. ap (λ b. not ((not b && is_plain six.control_a.fall) || (not b && is_loose six.control_a.fall))) firm,
    )

-- ---- moves of lanes

-- books and readers are the same
pub record SameBooks (d e : Direction) : Type 0 where
  pub send : e.send ≡ d.send
  pub arrived : e.arrived ≡ d.arrived
  pub reader : e.reader ≡ d.reader

pub record SameDuo (d e : Duo) : Type 0 where
  pub ab : SameBooks d.ab e.ab
  pub ba : SameBooks d.ba e.ba

same_books : (d : Direction) → SameBooks d d
same_books d = record { send = refl; arrived = refl; reader = refl }

then_same : (c d e : Direction) → SameBooks c d → SameBooks d e → SameBooks c e
then_same c d e x y = record { send = y.send ∙ x.send; arrived = y.arrived ∙ x.arrived; reader = y.reader ∙ x.reader }

then_same_duo : (c d e : Duo) → SameDuo c d → SameDuo d e → SameDuo c e
then_same_duo c d e x y = record { ab = then_same c.ab d.ab e.ab x.ab y.ab; ba = then_same c.ba d.ba e.ba x.ba y.ba }

moved_same : (f : Flags) (path : ℕ) (m : Move) (o : Option Lane) (d : Direction) → SameBooks d (lane_moves f path m o d)
moved_same f path m None d = same_books d
moved_same f path m (Some p) d = record { send = refl; arrived = refl; reader = refl }

event_same : (event : Event) (d : Duo) → is_silent event ≡ true → SameDuo d (after_event event d)
event_same (ToB (Moves path m)) d is = record { ab = moved_same (flags_ab d.modes) path m (slice_get d.ab.lanes path) d.ab; ba = same_books d.ba }
event_same (ToA (Moves path m)) d is = record { ab = same_books d.ab; ba = moved_same (flags_ba d.modes) path m (slice_get d.ba.lanes path) d.ba }
event_same FallA d is = record { ab = same_books d.ab; ba = same_books d.ba }
event_same FallB d is = record { ab = same_books d.ab; ba = same_books d.ba }
event_same LoosenA d is = record { ab = same_books d.ab; ba = same_books d.ba }
event_same LoosenB d is = record { ab = same_books d.ab; ba = same_books d.ba }
event_same BeginJoin d is = record { ab = same_books d.ab; ba = same_books d.ba }
event_same SendJoin d is = record { ab = same_books d.ab; ba = same_books d.ba }
event_same HearJoin d is = record { ab = same_books d.ab; ba = same_books d.ba }
event_same _ d is = absurd (false≢true is)

events_same : (events : List Event) (d : Duo) → AreSilent events → SameDuo d (after_events events d)
events_same [] d silent = record { ab = same_books d.ab; ba = same_books d.ba }
events_same (event ∷ events) d silent =
    let parts = and_parts (is_silent event) (list_all is_silent events) silent in
    let e = after_event event d in
    then_same_duo d e (after_events events e) (event_same event d parts.0) (events_same events e parts.1)

same_pipe : (d e : Direction) → SameBooks d e → lane_pipe e ≡ lane_pipe d
same_pipe d e same = rw (same.send, same.arrived, same.reader) refl

-- ---- one step or none

pub step_from : (n m : ℕ) (p q r s : _) → n ≡ m → p ≡ r → q ≡ s → StepsOrStays m r s → StepsOrStays n p q
step_from n m p q r s count from to h =
    subst (λ k. StepsOrStays k p q) (sym count) (subst (λ x. StepsOrStays m x q) (sym from) (subst (λ y. StepsOrStays m r y) (sym to) h))

-- what each event is, a call is
call_steps : (call : Option Event) (d : Duo) → EachEventIsOneStep d
    → StepsOrStays (received d.ab.arrived) (lane_pipe d.ab) (lane_pipe (after_events (call_events call) d).ab)
    × StepsOrStays (received d.ba.arrived) (lane_pipe d.ba) (lane_pipe (after_events (call_events call) d).ba)
call_steps None d each = (StepsOrStays.stays refl, StepsOrStays.stays refl)
call_steps (Some event) d each = each event

module _ (ask : Option Ask) (d e : Duo) (t : TurnShows ask d e) where
  abbrev pub before : Duo
  before = after_events t.before d

  abbrev pub called : Duo
  called = after_events (call_events t.call) before

  pub same_before : SameDuo d before
  same_before = events_same t.before d t.before_silent

  same_after : SameDuo called e
  same_after = subst (SameDuo called) (sym t.to) (events_same t.after called t.after_silent)

  pub turn_steps : EachEventIsOneStep before
      → StepsOrStays (received d.ab.arrived) (lane_pipe d.ab) (lane_pipe e.ab) × StepsOrStays (received d.ba.arrived) (lane_pipe d.ba) (lane_pipe e.ba)
  turn_steps each =
      let steps = call_steps t.call before each in (
        step_from _ (received before.ab.arrived) _ _ (lane_pipe before.ab) (lane_pipe called.ab) (ap received (sym same_before.ab.arrived))
            (sym (same_pipe d.ab before.ab same_before.ab)) (same_pipe called.ab e.ab same_after.ab) steps.0,
        step_from _ (received before.ba.arrived) _ _ (lane_pipe before.ba) (lane_pipe called.ba) (ap received (sym same_before.ba.arrived))
            (sym (same_pipe d.ba before.ba same_before.ba)) (same_pipe called.ba e.ba same_after.ba) steps.1,
      )

-- ---- nothing is refused

granted_untold : (o : Result Span Why) (b : Sending) → tells_refusal (Reply.Send (sending.reply_by o b)) ≡ false
granted_untold = elim [ Ok span ↦ λ b. refl | Err why ↦ λ b. refl ]

write_untold : (bytes : List ℕ) (b : Sending) → tells_refusal (Reply.Send (sending.write_reply bytes b)) ≡ false
write_untold bytes b = if_so (λ z. tells_refusal (Reply.Send z) ≡ false) (b.closed || b.aborted) SendReply.Shut (SendReply.Taken (sending.bytes_taken bytes b)) refl refl

close_untold : (b : Sending) → tells_refusal (Reply.Send (sending.close_reply b)) ≡ false
close_untold b = if_so (λ z. tells_refusal (Reply.Send z) ≡ false) b.aborted SendReply.Shut SendReply.Closed refl refl

ack_untold : (r : SendReply) → is_ack_future r ≡ false → tells_refusal (Reply.Send r) ≡ false
ack_untold = elim [ SendReply.AckFuture written ↦ λ is. is | _ ↦ λ is. refl ]

place_untold : (r : ReassemblyReply) → is_beyond_or_clash r ≡ false → tells_refusal (Reply.Reassembly r) ≡ false
place_untold (ReassemblyReply.Beyond edge) is = is
place_untold (ReassemblyReply.FinClash fin at) is = is
place_untold _ is = refl

read_untold : (max : ℕ) (b : Arriving) → tells_refusal (Reply.Reassembly (arriving.reading b.aborted max b)) ≡ false
read_untold max b = elim b.aborted as (λ aborted. tells_refusal (Reply.Reassembly (arriving.reading aborted max b)) ≡ false)
    [ None ↦ by_bytes (take max (filled b.places)) | Some by_peer ↦ refl ]
  where
    by_bytes : (bytes : List ℕ) → tells_refusal (Reply.Reassembly (arriving.bytes_reply bytes b)) ≡ false
    by_bytes [] = elim (arriving.is_end b.known_end b.read) as (λ c. tells_refusal (Reply.Reassembly (if c then ReassemblyReply.End else ReassemblyReply.NoneYet)) ≡ false)
        [ true ↦ refl | false ↦ refl ]
    by_bytes (byte ∷ bytes) = refl

-- what a lane asks is not refused
lane_untold : (path : ℕ) (ask : LaneAsk) (d : Direction) → NothingIsRefused d → IsAsking path ask d → ask_refused ask d ≡ false
lane_untold path ask d none asking =
    ap (λ x. ask_refused x d) (sym asking.asks) ∙ ap (lane_refused (λ p. ask_refused p.asking d)) (sym asking.there) ∙ none (Asks path)

infinite_untold : (path : ℕ) (b : Sending) → tells_refusal (Reply.Send (sending.infinite_reply path b)) ≡ false
infinite_untold path b =
    if_so (λ z. tells_refusal (Reply.Send z) ≡ false) (sending.is_gathered path b) (SendReply.Infinite (acked_len b.marks)) SendReply.Scattered
    refl refl

send_untold : (call : SendCall) (d : Direction) (event : StreamEvent) → NothingIsRefused d → SendCallIs call d event → tells_refusal (Reply.Send (sending.reply_to d.send call)) ≡ false
send_untold (SendCall.Write bytes) d event none is = write_untold bytes d.send
send_untold SendCall.Close d event none is = close_untold d.send
send_untold (SendCall.Grant path max standby) d event none is = granted_untold (sending.decision path max standby d.send) d.send
send_untold (SendCall.AckIn next window) d event none is = ack_untold (sending.reply_to d.send (SendCall.AckIn next window)) (lane_untold is.path (AskAckIn next window) d none is.asking)
send_untold (SendCall.GoInfinite path) d event none is = infinite_untold path d.send
send_untold _ d event none is = refl

arrival_untold : (call : ReassemblyCall) (d : Direction) (event : StreamEvent) → NothingIsRefused d → ReassemblyCallIs call d event
    → tells_refusal (Reply.Reassembly (arriving.reply_to d.arrived call)) ≡ false
arrival_untold (ReassemblyCall.Place at bytes) d event none is =
    place_untold (arriving.reply_to d.arrived (ReassemblyCall.Place at bytes)) (lane_untold is.path (AskPlace at bytes) d none is.asking)
arrival_untold (ReassemblyCall.Fin at) d event none is = place_untold (arriving.reply_to d.arrived (ReassemblyCall.Fin at)) (lane_untold is.path (AskFin at) d none is.asking)
arrival_untold (ReassemblyCall.Read max) d event none is = read_untold max d.arrived
arrival_untold ReassemblyCall.AckOut d event none is = refl
arrival_untold (ReassemblyCall.Abort by_peer) d event none is = refl

-- the books of a world are those of its directions
pub ask_untold : (ask : Ask) (six : SixBooks) (d : Duo) (call : Option Event) → six.send_a ≡ d.ab.send → six.send_b ≡ d.ba.send → six.reassembly_b ≡ d.ab.arrived → six.reassembly_a ≡ d.ba.arrived
    → BothWays NothingIsRefused d → CallIs (Some ask) d call → tells_refusal (reply_of six ask) ≡ false
ask_untold (Ask.Send A c) six d call send_a send_b arrived_b arrived_a none is =
    ap (λ b. tells_refusal (Reply.Send (sending.reply_to b c))) send_a ∙ send_untold c d.ab is.0 none.0 is.2
ask_untold (Ask.Send B c) six d call send_a send_b arrived_b arrived_a none is =
    ap (λ b. tells_refusal (Reply.Send (sending.reply_to b c))) send_b ∙ send_untold c d.ba is.0 none.1 is.2
ask_untold (Ask.Reassembly A c) six d call send_a send_b arrived_b arrived_a none is =
    ap (λ b. tells_refusal (Reply.Reassembly (arriving.reply_to b c))) arrived_a ∙ arrival_untold c d.ba is.0 none.1 is.2
ask_untold (Ask.Reassembly B c) six d call send_a send_b arrived_b arrived_a none is =
    ap (λ b. tells_refusal (Reply.Reassembly (arriving.reply_to b c))) arrived_b ∙ arrival_untold c d.ab is.0 none.0 is.2
ask_untold (Ask.Control s c) six d call send_a send_b arrived_b arrived_a none is = refl
ask_untold (Ask.Local step) six d call send_a send_b arrived_b arrived_a none is = refl
