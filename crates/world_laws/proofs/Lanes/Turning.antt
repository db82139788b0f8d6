-- A turn of the path and of the applications, in the two directions.
use Rattle.world_laws.proofs.Words.{◌≡◌, refl, sym, ◌∙◌, ap, subst, ℕ, not, Bool, true, false, if◌then◌else◌, Option, Some, None, List, [], ◌∷◌, ◌++◌, not-true}
use Rattle.world_laws.proofs.Words.{Side, A, B, ControlCall, ReassemblyCall, ReassemblyReply, Duty, Ask, Note, Reply, SixBooks, reply_of, after_ask, AppDuty}
use Rattle.world_laws.proofs.Words.{AppState, app_stands, app_ask, app_answered, app_answers, app_settles_down, app_takes, offered, PathState, settled, Carried}
use Rattle.world_laws.proofs.Words.{Profile, Duo, after_events, Holds, Lane, Direction, reads, is_done, Reader, takes_read, ToB, ToA, AbortRead}
use Rattle.reassembly_book.specs.Steps as arriving
use Rattle.stream_lanes.specs.Streams.StreamEvent.{Write, Close, AbortSend, Read}
use Rattle.stream_lanes.specs.Duo.{Event}
use Rattle.world_laws.proofs.Lanes.Applying.{Reads, settled_app, reads_more, reads_on}
use Rattle.world_laws.proofs.Falls.CallsAndModes.{control_moves}
use Rattle.world_laws.proofs.Lanes.OfAWorld.{Links, duo_of, Others, duo_at, CallIs, silent_append, call_events, TurnShows, events_append, Moved, then_moved}
use Rattle.world_laws.proofs.Lanes.Settling.{then_strolled, settles}
use Rattle.world_laws.proofs.Lanes.Showing.{PathShows}
use Rattle.world_laws.proofs.Lanes.Sides.{Answered}
use Rattle.world_laws.proofs.Lanes.Strolling.{Strolled, strolls_held, events_held, lanes_moved}

-- ---- moves

pub moved_turn : (d e : Duo) → Moved d e → TurnShows None d e
moved_turn d e m = record { before = m.events; before_silent = m.silent; call = None; after = []; after_silent = refl; calls = refl; to = m.to }

-- the lanes move, and then the turn is made
pub moved_first : (ask : Option Ask) (c d e : Duo) → Moved c d → TurnShows ask d e → TurnShows ask c e
moved_first ask c d e m t =
    let is : after_events (m.events ++ t.before) c ≡ after_events t.before d = events_append m.events t.before c ∙ ap (after_events t.before) (sym m.to) in
    record {
      before = m.events ++ t.before;
      before_silent = silent_append m.events t.before m.silent t.before_silent;
      call = t.call;
      after = t.after;
      after_silent = t.after_silent;
      calls = subst (λ x. CallIs ask x t.call) (sym is) t.calls;
      to = t.to ∙ ap (λ x. after_events t.after (after_events (call_events t.call) x)) (sym is);
    }

-- ---- a path

-- what a turn of the path comes to
pub record PathTurn (c : Profile) (six : SixBooks) (others : Others) (ask : Ask) (q : PathState Carried) (ab ba : Lane) : Type 0 where
  pub ab_end : Lane
  pub ba_end : Lane
  pub turn : TurnShows (Some ask) (duo_at six ab ba others) (duo_at (after_ask ask six) ab_end ba_end others)
  pub shows : PathShows c q ab_end ba_end

module _ (c : Profile) (six : SixBooks) (others : Others) (ask : Ask) (q : PathState Carried) (ab ba : Lane) where
  -- what holds before the step holds after the call
  pub answered_holds : Holds (duo_at six ab ba others) → (a : Answered c six others ask q ab ba) → Holds (duo_at (after_ask ask six) a.ab_called a.ba_called others)
  answered_holds holds a =
      let asked_holds = subst Holds (sym a.before.to) (events_held a.before.events (duo_at six ab ba others) holds) in
      subst Holds (sym a.called.to) (events_held a.called.events _ (events_held (call_events a.call) (duo_at six a.ab_before a.ba_before others) asked_holds))

  -- a reply was taken, and duties are passed
  pub path_turn : (ds : List Duty) → Holds (duo_at six ab ba others) → Answered c six others ask q ab ba → PathTurn c six others ask (settled ds q) ab ba
  path_turn ds holds a =
      let called_holds = answered_holds holds a in
      let after = a.after in
      let rest = settles (after_ask ask six) others c ds q after.ab_after after.ba_after after.shows
      (strolls_held (after_ask ask six) others a.ab_called after.ab_after a.ba_called after.ba_after after.ab_moves after.ba_moves called_holds) in
      let w : Strolled c (settled ds q) a.ab_called a.ba_called = then_strolled c q (settled ds q) a.ab_called a.ba_called after rest in
      let before = a.before in
      let moved = lanes_moved (after_ask ask six) others a.ab_called w.ab_after a.ba_called w.ba_after w.ab_moves w.ba_moves in
      let later = then_moved _ (duo_at (after_ask ask six) a.ab_called a.ba_called others) _ a.called moved in
      record {
        ab_end = w.ab_after;
        ba_end = w.ba_after;
        turn = record {
          before = before.events;
          before_silent = before.silent;
          call = a.call;
          after = later.events;
          after_silent = later.silent;
          calls = subst (λ d. CallIs (Some ask) d a.call) before.to a.calls;
          to = later.to ∙ ap (λ d. after_events later.events (after_events (call_events a.call) d)) before.to;
        };
        shows = w.shows;
      }

-- ---- an application

-- a call without moves
pub call_turn : (ask : Ask) (call : Option Event) (d e : Duo) → CallIs (Some ask) d call → e ≡ after_events (call_events call) d → TurnShows (Some ask) d e
call_turn ask call d e calls to = record { before = []; before_silent = refl; call = call; after = []; after_silent = refl; calls = calls; to = to }

-- a call of a control book is moves
control_turn : (s : Side) (call : ControlCall) (d e : Duo) → Moved d e → TurnShows (Some (Ask.Control s call)) d e
control_turn s call d e m = record { before = m.events; before_silent = m.silent; call = None; after = []; after_silent = refl; calls = refl; to = m.to }

-- whether it was told that the stream ended
pub taken_told : (d : AppDuty) (ds : List AppDuty) (r : Reply) (a : AppState) → a.agenda ≡ d ∷ ds → (app_takes r a).told ≡ (app_answered d r a).told
taken_told d ds r a is =
    ap (λ xs. (app_settles_down (app_answers xs r a)).told) is
    ∙ ap (λ x. x.told) (settled_app (app_answered d r a).agenda (app_answered d r a)).is

unread : (a : AppState) (notes : List Note) (reader : Reader) → not a.told ≡ true → Reads a.told notes reader → is_done reader ≡ false
unread a notes reader is h = sym h.done_is ∙ not-true a.told is

-- a reader that isn't done reads
reads_if : (b : Bool) (most : ℕ) (d : Direction) → b ≡ false → (if b then d else reads most d) ≡ reads most d
reads_if = elim [ true ↦ λ most d is. cc | false ↦ λ most d is. refl ]

module _ (links : Links) (six : SixBooks) (lanes_ab lanes_ba : List Lane) (reader_a reader_b : Reader) (x : AppState) (notes : List Note) (n : Note) where
  -- that of A reads from B, and writes to it
  pub record TurnOfA (a : AppState) (d : AppDuty) : Type 0 where
    pub reader : Reader
    pub turn : TurnShows (Some (app_ask d a)) (duo_of links six lanes_ab lanes_ba reader_a reader_b) (duo_of links (after_ask (app_ask d a) six) lanes_ab lanes_ba reader reader_b)
    pub reads : Reads (app_answered d (reply_of six (app_ask d a)) a).told (notes ++ n ∷ []) reader

  abbrev a_at : AppState
  a_at = record x { side = A }

  as_a : (d : AppDuty) → app_stands d a_at ≡ true → n.reply ≡ reply_of six (app_ask d a_at) → Reads x.told notes reader_a → TurnOfA a_at d
  as_a AppDuty.FastClose stands is h = record {
    reader = reader_a;
    turn = control_turn A ControlCall.FastClose _ _ (control_moves links A ControlCall.FastClose six tt lanes_ab lanes_ba reader_a reader_b);
    reads = reads_on x.told notes reader_a n (rw is refl) (rw is refl) (rw is refl) h;
  }
  as_a AppDuty.AbortSend stands is h = record {
    reader = reader_a;
    turn = call_turn _ (Some (ToB AbortSend)) _ _ (AbortSend, refl, refl) refl;
    reads = reads_on x.told notes reader_a n (rw is refl) (rw is refl) (rw is refl) h;
  }
  as_a AppDuty.AbortReceive stands is h = record {
    reader = reader_a;
    turn = call_turn _ (Some (ToA (AbortRead false))) _ _ (AbortRead false, refl, refl) refl;
    reads = reads_on x.told notes reader_a n (rw is refl) (rw is refl) (rw is refl) h;
  }
  as_a AppDuty.Write stands is h = record {
    reader = reader_a;
    turn = call_turn _ (Some (ToB (Write (offered a_at)))) _ _ (Write (offered a_at), refl, refl) refl;
    reads = reads_on x.told notes reader_a n (rw is refl) (rw is refl) (rw is refl) h;
  }
  as_a AppDuty.Close stands is h = record {
    reader = reader_a;
    turn = call_turn _ (Some (ToB Close)) _ _ (Close, refl, refl) refl;
    reads = reads_on x.told notes reader_a n (rw is refl) (rw is refl) (rw is refl) h;
  }
  as_a AppDuty.Read stands is h =
      let reply : ReassemblyReply = arriving.reply_to six.reassembly_a (ReassemblyCall.Read 65536) in
      let open_reader : is_done reader_a ≡ false = unread x notes reader_a stands h in
      record {
        reader = takes_read reply reader_a;
        turn = call_turn _ (Some (ToA (Read 65536))) _ _ (Read 65536, refl, (refl, open_reader))
            (sym (ap (λ d. record (duo_of links six lanes_ab lanes_ba reader_a reader_b) { ba = d }) (reads_if (is_done reader_a) 65536 (duo_of links six lanes_ab lanes_ba reader_a reader_b).ba open_reader)));
        reads = reads_more x.told notes reader_a reply n is h;
      }
  as_a AppDuty.End stands is h = record {
    reader = reader_a;
    turn = call_turn _ None _ _ refl refl;
    reads = reads_on x.told notes reader_a n (rw is refl) (rw is refl) (rw is refl) h;
  }

  -- that of B the other way round
  pub record TurnOfB (a : AppState) (d : AppDuty) : Type 0 where
    pub reader : Reader
    pub turn : TurnShows (Some (app_ask d a)) (duo_of links six lanes_ab lanes_ba reader_a reader_b) (duo_of links (after_ask (app_ask d a) six) lanes_ab lanes_ba reader_a reader)
    pub reads : Reads (app_answered d (reply_of six (app_ask d a)) a).told (notes ++ n ∷ []) reader

  abbrev b_at : AppState
  b_at = record x { side = B }

  as_b : (d : AppDuty) → app_stands d b_at ≡ true → n.reply ≡ reply_of six (app_ask d b_at) → Reads x.told notes reader_b → TurnOfB b_at d
  as_b AppDuty.FastClose stands is h = record {
    reader = reader_b;
    turn = control_turn B ControlCall.FastClose _ _ (control_moves links B ControlCall.FastClose six tt lanes_ab lanes_ba reader_a reader_b);
    reads = reads_on x.told notes reader_b n (rw is refl) (rw is refl) (rw is refl) h;
  }
  as_b AppDuty.AbortSend stands is h = record {
    reader = reader_b;
    turn = call_turn _ (Some (ToA AbortSend)) _ _ (AbortSend, refl, refl) refl;
    reads = reads_on x.told notes reader_b n (rw is refl) (rw is refl) (rw is refl) h;
  }
  as_b AppDuty.AbortReceive stands is h = record {
    reader = reader_b;
    turn = call_turn _ (Some (ToB (AbortRead false))) _ _ (AbortRead false, refl, refl) refl;
    reads = reads_on x.told notes reader_b n (rw is refl) (rw is refl) (rw is refl) h;
  }
  as_b AppDuty.Write stands is h = record {
    reader = reader_b;
    turn = call_turn _ (Some (ToA (Write (offered b_at)))) _ _ (Write (offered b_at), refl, refl) refl;
    reads = reads_on x.told notes reader_b n (rw is refl) (rw is refl) (rw is refl) h;
  }
  as_b AppDuty.Close stands is h = record {
    reader = reader_b;
    turn = call_turn _ (Some (ToA Close)) _ _ (Close, refl, refl) refl;
    reads = reads_on x.told notes reader_b n (rw is refl) (rw is refl) (rw is refl) h;
  }
  as_b AppDuty.Read stands is h =
      let reply : ReassemblyReply = arriving.reply_to six.reassembly_b (ReassemblyCall.Read 65536) in
      let open_reader : is_done reader_b ≡ false = unread x notes reader_b stands h in
      record {
        reader = takes_read reply reader_b;
        turn = call_turn _ (Some (ToB (Read 65536))) _ _ (Read 65536, refl, (refl, open_reader))
            (sym (ap (λ d. record (duo_of links six lanes_ab lanes_ba reader_a reader_b) { ab = d }) (reads_if (is_done reader_b) 65536 (duo_of links six lanes_ab lanes_ba reader_a reader_b).ab open_reader)));
        reads = reads_more x.told notes reader_b reply n is h;
      }
  as_b AppDuty.End stands is h = record {
    reader = reader_b;
    turn = call_turn _ None _ _ refl refl;
    reads = reads_on x.told notes reader_b n (rw is refl) (rw is refl) (rw is refl) h;
  }

  -- an application of a side
  pub turn_of_a : (d : AppDuty) → x.side ≡ A → app_stands d x ≡ true → n.reply ≡ reply_of six (app_ask d x) → Reads x.told notes reader_a → TurnOfA x d
  turn_of_a d side =
      let same : x ≡ a_at = ap (λ s. record x { side = s }) side in
      subst (λ y. app_stands d y ≡ true → n.reply ≡ reply_of six (app_ask d y) → Reads x.told notes reader_a → TurnOfA y d) (sym same) (as_a d)

  pub turn_of_b : (d : AppDuty) → x.side ≡ B → app_stands d x ≡ true → n.reply ≡ reply_of six (app_ask d x) → Reads x.told notes reader_b → TurnOfB x d
  turn_of_b d side =
      let same : x ≡ b_at = ap (λ s. record x { side = s }) side in
      subst (λ y. app_stands d y ≡ true → n.reply ≡ reply_of six (app_ask d y) → Reads x.told notes reader_b → TurnOfB y d) (sym same) (as_b d)
