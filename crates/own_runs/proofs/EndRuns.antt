-- At every moment of a run that never falls back the book of a side knows where the other side's stream ends only where a segment of that side in the
-- trace said so.
use Rattle.std.proofs.Common.{◌≡◌, refl, sym, ap, ◌∙◌, subst, ℕ, Bool, true, false, if◌then◌else◌, Option, Some, None, nat_le, nat_lt, is_some, List, [], ◌∷◌, ◌++◌, append_assoc, append-nil, map, ⊎_elim}
use Rattle.std.specs.List.{list_any, slice_get}
use Rattle.std.specs.Option.{IfSome, option_to_list}
use Rattle.std.proofs.lemmas.Bool.{both_ways, false≢true}
use Rattle.std.proofs.lemmas.Option.{same_Some}
use Rattle.actor_desk.specs.Books.{books_in}
use Rattle.actor_desk.specs.Desk.{SixBooks, after_ask, reassembly_of}
use Rattle.actor_desk.specs.declared.ask.Ask.{Ask}
use Rattle.actor_desk.specs.declared.ask.Reply.{Reply}
use Rattle.link_trace.specs.declared.sent.Sent.{Sent}
use Rattle.path_agenda.specs.declared.duty.AskDuty.{AskDuty}
use Rattle.path_agenda.specs.declared.duty.Duty.{Duty}
use Rattle.path_agenda.specs.declared.duty.SendDuty.{SendDuty}
use Rattle.path_agenda.specs.declared.duty.StepDuty.{StepDuty}
use Rattle.path_core.specs.DataFin.{data_fin_of, fin_ask, place_of_fin, place_passed}
use Rattle.path_core.specs.Duties.{ask_for}
use Rattle.path_core.specs.End.{PathEnd}
use Rattle.path_core.specs.Looking.{departing_as, first_sends}
use Rattle.path_core.specs.Octets.{octets}
use Rattle.path_core.specs.Shown.{shown_path}
use Rattle.path_core.specs.Start.{waiting_path}
use Rattle.path_core.specs.State.{PathState, end_at}
use Rattle.path_core.specs.Steps.{asks_first}
use Rattle.path_core.specs.Values.{Carried, values}
use Rattle.path_store.specs.InfiniteMappings.{fin_place, fin_under, place_under}
use Rattle.path_store.specs.declared.infinite_mapping.InfiniteMapping.{InfiniteMapping}
use Rattle.reassembly_book.specs.State.{Arriving}
use Rattle.reassembly_book.specs.Steps.{after_call, after_reading, is_taken, places_after}
use Rattle.reassembly_book.specs.declared.call.ReassemblyCall.{ReassemblyCall}
use Rattle.reassembly_book.specs.declared.call.ReassemblyCall.TheVariants.{Abort, AckOut, Fin, Place, Read}
use Rattle.run_trace.specs.Trace.{sent_as, sent_at, sent_next, trace_of}
use Rattle.sides.specs.Side.{peer}
use Rattle.sides.specs.declared.side.Side.TheVariants.{A, B}
use Rattle.sides.specs.declared.side.Side.{Side}
use Rattle.stream_apps.specs.AppSteps.{app_ask, app_asks_first}
use Rattle.stream_apps.specs.Apps.{AppState}
use Rattle.stream_apps.specs.declared.duty.AppDuty.{AppDuty}
use Rattle.stream_lanes.proofs.Lists.{Every-nil, Has-more, in_map, in_set}
use Rattle.stream_lanes.specs.Words.{Has}
use Rattle.world_laws.proofs.Lanes.Doing.{has_last}
use Rattle.world_laws.proofs.Lanes.Replying.{every_item}
use Rattle.world_laws.proofs.Promises.Made.{run_fresh}
use Rattle.world_laws.proofs.Weaving.Journals.{books_after}
use Rattle.world_laws.proofs.Whole.Falls.{EachUpright, MemberUpright, each_upright}
use Rattle.world_laws.proofs.Worlds.Opened.{opened_actors}
use Rattle.world_laws.proofs.Writes.Asks.{asks_no_more}
use Rattle.world_laws.specs.Actors.{Actor, ActorCrew, member_asks, member_next, member_takes}
use Rattle.world_laws.specs.Asking.{May, asking, may}
use Rattle.world_laws.specs.Fresh.{shown_world}
use Rattle.world_laws.specs.NeverFalls.{IsWhole}
use Rattle.world_laws.specs.Openings.{PathPlan, Start, new_path, opened_world, path_begins}
use Rattle.world_laws.specs.Promises.{IsPlain, NumbersFit}
use Rattle.world_laws.specs.StampedBooks.{answer_to}
use Rattle.world_laws.specs.Worlds.{Turn, WorldState, after_turn, all_over, asked, begins, crew_after, greatest, stepped, world_run}
use Rattle.world_laws.specs.declared.member.Member.TheVariants.{App, Path}
use Rattle.own_runs.proofs.EndMarks.{ends_stream, opening_tells}
use Rattle.own_runs.proofs.EndPaths.{FlightTells, PathTells, SendsSo, end_tells, more_path, next_tell, takes_tell, turn_tells as path_turn}
use Rattle.own_runs.proofs.Moments.{IsSpoken, MemberSpeaks, Nothing, PathSpeaks, WorldSpeaks, valued}
use Rattle.own_runs.proofs.NextSent.{Own, next_is, only_spoken, sent_of, spoken_next}
use Rattle.own_runs.proofs.Speaking.{ToSend}

-- nothing is said of keys
abbrev Unkeyed : Side → Type 0
Unkeyed s = ⊥

-- ---- books

abbrev CallTells : Type 0 → ReassemblyCall → Type 0
CallTells T (Fin at) = T
CallTells T _ = Unit {0}

abbrev Ends : Arriving → Type 0
Ends b = is_some b.known_end ≡ true

either_ends : (k : Bool) (c d b : Arriving) → c.known_end ≡ b.known_end → d.known_end ≡ b.known_end → Ends (if k then c else d) → Ends b
either_ends true c d b x y is = ap is_some (sym x) ∙ is
either_ends false c d b x y is = ap is_some (sym y) ∙ is

call_so : (T : Type 0) (b : Arriving) (call : ReassemblyCall) → CallTells T call → (Ends b → T) → Ends (after_call b call) → T
call_so T b (Fin at) told h is = told
call_so T b (Place at bytes) told h is = h (either_ends (is_taken at bytes b) (record b { places = places_after at bytes b }) b b refl refl is)
call_so T b (Read max) told h is = h (either_ends (is_some b.aborted) b (after_reading max b) b refl refl is)
call_so T b AckOut told h is = h is
call_so T b (Abort by_peer) told h is = h is

module _ (W : Side → Type 0) where
  -- each side's book of the other's stream
  abbrev pub BookTells : SixBooks → Type 0
  BookTells six = (s : Side) → Ends (reassembly_of s six) → W (peer s)

  abbrev AskTells : Ask → Type 0
  AskTells (Ask.Reassembly s call) = CallTells (W (peer s)) call
  AskTells _ = Unit {0}

  book_so : (x : Ask) (six : SixBooks) → AskTells x → BookTells six → BookTells (after_ask x six)
  book_so (Ask.Reassembly A call) six told h A is = call_so (W B) six.reassembly_a call told (h A) is
  book_so (Ask.Reassembly A call) six told h B is = h B is
  book_so (Ask.Reassembly B call) six told h A is = h A is
  book_so (Ask.Reassembly B call) six told h B is = call_so (W A) six.reassembly_b call told (h B) is
  book_so (Ask.Control s call) six told h t is = h t is
  book_so (Ask.Send s call) six told h t is = h t is
  book_so (Ask.Local step) six told h t is = h t is

  -- ---- what is asked

  fin_so : (s : Side) (o : Option ℕ) → IfSome o (λ n. W (peer s)) → AskTells (fin_ask s o)
  fin_so s None h = tt
  fin_so s (Some place) h = h

  -- a FIN ends a stream under an infinite mapping of the peer's alone
  plain_so : (e : PathEnd) (T : Type 0) → e.modes.identity ≡ false → IfSome e.modes.peer_infinite (λ m. T) → IfSome (place_of_fin e) (λ n. T)
  plain_so e T identity h = told e.receiving.fin_told
    where
      under : (o : Option InfiniteMapping) (position : ℕ) → IfSome o (λ m. T) → IfSome (fin_under o position) (λ n. T)
      under None position h = tt
      under (Some mapping) position h = by (nat_le mapping.position position)
        where
          any : (o : Option ℕ) → IfSome o (λ n. T)
          any None = tt
          any (Some n) = h

          by : (b : Bool) → IfSome (if b then place_under mapping position else None) (λ n. T)
          by true = any (place_under mapping position)
          by false = tt

      passed : (o : Option ℕ) → IfSome (place_passed e.modes o e.tcp.recv.edge) (λ n. T)
      passed None = tt
      passed (Some position) = by (nat_lt position e.tcp.recv.edge)
        where
          by : (b : Bool) → IfSome (if b then fin_place e.modes.identity e.modes.peer_infinite position else None) (λ n. T)
          by false = tt
          by true = subst (λ (k : Bool). IfSome (fin_place k e.modes.peer_infinite position) (λ n. T)) (sym identity) (under e.modes.peer_infinite position h)

      told : (b : Bool) → IfSome (if b then None else place_passed e.modes e.tcp.fin_at e.tcp.recv.edge) (λ n. T)
      told true = tt
      told false = passed e.tcp.fin_at

  untold : (m : May) → m.fin ≡ false → (x : Ask) → may m x ≡ true → AskTells x
  untold m none (Ask.Reassembly s (Fin at)) is = absurd (both_ways m.fin none is)
  untold m none (Ask.Reassembly s (Place at bytes)) is = tt
  untold m none (Ask.Reassembly s (Read max)) is = tt
  untold m none (Ask.Reassembly s AckOut) is = tt
  untold m none (Ask.Reassembly s (Abort by_peer)) is = tt
  untold m none (Ask.Control s call) is = tt
  untold m none (Ask.Send s call) is = tt
  untold m none (Ask.Local step) is = tt

  module _ (p : PathState Carried) (h : PathTells W Unkeyed p) (identity : (s : Side) → (end_at s p).modes.identity ≡ false) where
    duty_so : (d : Duty) → AskTells (ask_for values d p)
    duty_so (Duty.Ask (AskDuty.HeardFin s index)) = fin_so s (data_fin_of index (end_at s p)) (every_item index (end_at s p).treated.fins (end_tells W Unkeyed s p h).fins)
    duty_so (Duty.Ask (AskDuty.SubflowFin s)) = fin_so s (place_of_fin (end_at s p)) (plain_so (end_at s p) (W (peer s)) (identity s) (end_tells W Unkeyed s p h).infinite)
    duty_so (Duty.Ask AskDuty.JoinAgain) = untold (asking (Duty.Ask AskDuty.JoinAgain)) refl (ask_for values (Duty.Ask AskDuty.JoinAgain) p) (asks_no_more values p (Duty.Ask AskDuty.JoinAgain)).kind
    duty_so (Duty.Send (SendDuty.Update s)) = untold (asking (Duty.Send (SendDuty.Update s))) refl (ask_for values (Duty.Send (SendDuty.Update s)) p) (asks_no_more values p (Duty.Send (SendDuty.Update s))).kind
    duty_so (Duty.Step (StepDuty.Look s)) = untold (asking (Duty.Step (StepDuty.Look s))) refl (ask_for values (Duty.Step (StepDuty.Look s)) p) (asks_no_more values p (Duty.Step (StepDuty.Look s))).kind
    duty_so d = untold (asking d) refl (ask_for values d p) (asks_no_more values p d).kind

    path_so : (x : Ask) → asks_first values p.agenda p ≡ Some x → AskTells x
    path_so x asks = by p.agenda asks
      where
        by : (ds : List Duty) → asks_first values ds p ≡ Some x → AskTells x
        by [] asks = cc
        by (d ∷ ds) asks = subst AskTells (same_Some _ x asks) (duty_so d)

  app_so : (ds : List AppDuty) (a : AppState) (x : Ask) → app_asks_first ds a ≡ Some x → AskTells x
  app_so [] a x asks = cc
  app_so (d ∷ ds) a x asks = subst AskTells (same_Some _ x asks) (one d)
    where
      one : (d : AppDuty) → AskTells (app_ask d a)
      one AppDuty.Write = tt
      one _ = tt

  -- ---- worlds

  abbrev pub MemberTells : Actor Carried → Type 0
  MemberTells (App a) = Unit {0}
  MemberTells (Path p) = PathTells W Unkeyed p

  pub record WorldTells (w : WorldState Carried) : Type 0 where
    pub crew : (actor : ℕ) (c : ActorCrew Carried) → slice_get w.crew actor ≡ Some c → MemberTells c.member
    pub books : BookTells (books_in w.books)

  -- the segment that an actor sends next
  abbrev MemberSends : Actor Carried → Type 0
  MemberSends (App a) = Unit {0}
  MemberSends (Path p) = SendsSo W Unkeyed p (first_sends p.agenda p)

  abbrev TurnSends : Turn → WorldState Carried → Type 0
  TurnSends (Turn.Step i) w = IfSome (slice_get w.crew i) (λ c. MemberSends c.member)
  TurnSends Turn.Round w = Unit {0}

  takes_so : (r : Reply) (m : Actor Carried) → MemberSends m → MemberTells m → MemberTells (member_takes values r m)
  takes_so r (App a) sends h = tt
  takes_so r (Path p) sends h = takes_tell W Unkeyed r p sends h

  next_so : (m : Actor Carried) → MemberTells m → MemberTells (member_next m)
  next_so (App a) h = tt
  next_so (Path p) h = next_tell W Unkeyed p h

  asks_so : (m : Actor Carried) (x : Ask) → member_asks values m ≡ Some x → MemberUpright m → MemberTells m → AskTells x
  asks_so (App a) x asks upright h = app_so a.agenda a x asks
  asks_so (Path p) x asks upright h = path_so p h upright.identity x asks

  module _ (w : WorldState Carried) (upright : EachUpright w) (h : WorldTells w) where
    step_so : (actor : ℕ) (o : Option (ActorCrew Carried)) → slice_get w.crew actor ≡ o → IfSome o (λ c. MemberSends c.member) → WorldTells (stepped values actor o w)
    step_so actor None there sends = h
    step_so actor (Some c) there sends = by (member_asks values c.member) refl
      where
        by : (o : Option Ask) → member_asks values c.member ≡ o → WorldTells (asked values actor o c w)
        by None asks = h
        by (Some x) asks = record {
          crew = λ i d at. ⊎_elim
              (λ here. subst (λ (y : ActorCrew Carried). MemberTells y.member) here.1 (takes_so (answer_to w.books x) c.member sends (h.crew actor c there)))
              (λ other. h.crew i d other.1)
              (in_set w.crew actor (crew_after values x w.books c) i d at);
          books = subst BookTells (sym (books_after x c.pass w.books)) (book_so x (books_in w.books) (asks_so c.member x asks (upright.each actor c there) (h.crew actor c there)) h.books);
        }

    pub turn_so : (turn : Turn) → TurnSends turn w → WorldTells (after_turn values turn w)
    turn_so (Turn.Step actor) sends = step_so actor (slice_get w.crew actor) refl sends
    turn_so Turn.Round sends = by (all_over w.crew)
      where
        by : (b : Bool) → WorldTells (if b then record w { crew = map (begins (greatest 0 w.crew)) w.crew } else w)
        by false = h
        by true = record {
          crew = λ i d at.
              let found = in_map (begins (greatest 0 w.crew)) w.crew i d at in
              subst (λ (y : ActorCrew Carried). MemberTells y.member) found.2 (next_so found.0.member (h.crew i found.0 found.1));
          books = h.books;
        }

more_world : (V W : Side → Type 0) → ((s : Side) → V s → W s) → (w : WorldState Carried) → WorldTells V w → WorldTells W w
more_world V W more w h = record { crew = λ i c at. member c.member (h.crew i c at); books = λ s is. more (peer s) (h.books s is) }
  where
    member : (m : Actor Carried) → MemberTells V m → MemberTells W m
    member (App a) h = tt
    member (Path p) h = more_path V W Unkeyed more p h

-- ---- the trace

-- a segment of the side that ends its stream
pub record TellsEnd (start : Start) (s : Side) (x : Sent) : Type 0 where
  pub said : IsSpoken Nothing start x
  pub from : x.from ≡ s
  pub ends : list_any ends_stream said.segment.options ≡ true

module _ (start : Start) where
  abbrev Told : List Sent → Side → Type 0
  Told trace s = Has (TellsEnd start s) trace

  -- the step of a path sends it
  path_sends_so : (trace : List Sent) (p : PathState Carried) → PathSpeaks start p → SendsSo (Told (trace ++ option_to_list (sent_of (shown_path p) (first_sends p.agenda p)))) Unkeyed p (first_sends p.agenda p)
  path_sends_so trace p speaks = by (first_sends p.agenda p) refl
    where
      by : (o : Option ToSend) → first_sends p.agenda p ≡ o → SendsSo (Told (trace ++ option_to_list (sent_of (shown_path p) o))) Unkeyed p o
      by None next = tt
      by (Some t) next = λ ends.
          let s = spoken_next start p t next speaks in
          has_last trace (sent_as (shown_path p) (departing_as (shown_path p) t))
          (record { said = only_spoken (Own start p t next speaks) start _ s; from = refl; ends = ap (λ sg. list_any ends_stream sg.options) s.also ∙ ends })

  turn_sends_so : (trace : List Sent) (turn : Turn) (w : WorldState Carried) → WorldSpeaks start w → TurnSends (Told (trace ++ sent_at turn (shown_world w))) turn w
  turn_sends_so trace Turn.Round w speaks = tt
  turn_sends_so trace (Turn.Step i) w speaks = by (slice_get w.crew i) refl
    where
      member : (c : ActorCrew Carried) (m : Actor Carried) → slice_get w.crew i ≡ Some c → c.member ≡ m → MemberSpeaks start m → MemberSends (Told (trace ++ option_to_list (sent_next i (shown_world w)))) m
      member c (App a) there is speaks = tt
      member c (Path p) there is speaks =
          subst (λ (o : Option Sent). SendsSo (Told (trace ++ option_to_list o)) Unkeyed p (first_sends p.agenda p)) (sym (next_is i w c p there is)) (path_sends_so trace p speaks)

      by : (o : Option (ActorCrew Carried)) → slice_get w.crew i ≡ o → IfSome o (λ c. MemberSends (Told (trace ++ option_to_list (sent_next i (shown_world w)))) c.member)
      by None there = tt
      by (Some c) there = member c c.member there refl (speaks i c there)

  turn_told : (trace : List Sent) (turn : Turn) (w : WorldState Carried) → WorldSpeaks start w → EachUpright w → WorldTells (Told trace) w
      → WorldTells (Told (trace ++ sent_at turn (shown_world w))) (after_turn values turn w)
  turn_told trace turn w speaks upright h =
      turn_so (Told (trace ++ sent_at turn (shown_world w))) w upright (more_world (Told trace) _ (λ s has. Has-more (sent_at turn (shown_world w)) has) w h) turn (turn_sends_so trace turn w speaks)

  run_told : (turns : List Turn) (trace : List Sent) (v : WorldState Carried) (w : WorldState (List ℕ)) → ((more : List Turn) → world_run octets more w ≡ shown_world (world_run values more v))
      → ((more : List Turn) → WorldSpeaks start (world_run values more v)) → ((more : List Turn) → EachUpright (world_run values more v)) → WorldTells (Told trace) v
      → WorldTells (Told (trace ++ trace_of turns w)) (world_run values turns v)
  run_told [] trace v w same speaks upright h = subst (λ (t : List Sent). WorldTells (Told t) v) (sym (append-nil trace)) h
  run_told (turn ∷ turns) trace v w same speaks upright h =
      subst (λ (t : List Sent). WorldTells (Told t) (world_run values turns (after_turn values turn v))) (append_assoc trace (sent_at turn w) (trace_of turns (after_turn octets turn w)))
      (run_told turns (trace ++ sent_at turn w) (after_turn values turn v) (after_turn octets turn w) (λ more. same (turn ∷ more)) (λ more. speaks (turn ∷ more)) (λ more. upright (turn ∷ more))
      (subst (λ (x : WorldState (List ℕ)). WorldTells (Told (trace ++ sent_at turn x)) (after_turn values turn v)) (sym (same [])) (turn_told trace turn v (speaks []) (upright []) h)))

  opened_told : WorldTells (Told []) (opened_world start)
  opened_told = record {
    crew = opened_actors (λ actor c. MemberTells (Told []) c.member) start tt tt (λ number plan there. path number plan);
    books = none;
  }
    where
      path : (number : ℕ) (plan : PathPlan) → MemberTells (Told []) (new_path start number plan).member
      path number plan =
          let p : PathState Carried = waiting_path (path_begins start number plan) start.lines in
          path_turn (Told []) Unkeyed p
          (record { copies = Every-nil (FlightTells (Told []) Unkeyed); a = opening_tells (Told [] B) ⊥ p.a refl (λ never. never); b = opening_tells (Told [] A) ⊥ p.b refl (λ never. never) })

      none : BookTells (Told []) (books_in (opened_world {C = Carried} start).books)
      none A is = absurd (false≢true is)
      none B is = absurd (false≢true is)

  -- at each moment of a run that never falls back
  pub end_told : IsPlain start → IsWhole start → NumbersFit start → (turns : List Turn) (s : Side) → Ends (reassembly_of s (books_in (world_run values turns (opened_world start)).books))
      → Has (TellsEnd start (peer s)) (trace_of turns (opened_world start))
  end_told plain whole fit turns s is =
      (run_told turns [] (opened_world start) (opened_world start) (λ more. run_fresh start more plain.size fit) (λ more. valued start more plain.size fit) (λ more. each_upright start more plain whole) opened_told).books s is
