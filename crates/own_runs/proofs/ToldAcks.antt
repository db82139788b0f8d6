-- What a Data ACK covers was sent before: the receiver's book has it.
use Rattle.std.proofs.Common.{◌≡◌, refl, sym, ap, ◌∙◌, subst, ℕ, ◌+◌, ◌-◌, ◌≤◌, ◌<◌, ◌==◌, ◌⊎◌, inl, inr, ⊎_elim, Bool, true, false, if◌then◌else◌, Option, Some, None, List, [], ◌∷◌, ◌++◌, length, take, arith}
use Rattle.std.specs.List.{slice_get}
use Rattle.std.specs.Option.{IfSome, option_to_list}
use Rattle.std.proofs.Math.Seq.{take-append-add}
use Rattle.std.proofs.lemmas.Bool.{cases_lt, eqb-true}
use Rattle.std.proofs.lemmas.Option.{slice_get_within}
use Rattle.actor_desk.specs.Books.{books_in}
use Rattle.actor_desk.specs.Desk.{send_of}
use Rattle.link_trace.specs.declared.sent.Sent.{Sent}
use Rattle.path_core.specs.End.{PathEnd}
use Rattle.path_core.specs.Looking.{first_sends, segment_sent}
use Rattle.path_core.specs.Said.{said_by}
use Rattle.path_core.specs.Octets.{octets}
use Rattle.path_core.specs.Shown.{shown_path}
use Rattle.path_core.specs.State.{PathState, end_at, path_of}
use Rattle.path_core.specs.Values.{Carried, values}
use Rattle.path_segments.specs.Options.{PlainOption}
use Rattle.path_segments.specs.Spelled.{PlainSegment}
use Rattle.path_segments.specs.declared.segment.PathOption.TheVariants.{Dss}
use Rattle.reassembly_book.specs.State.{filled, received}
use Rattle.reassembly_book.specs.Steps.{is_end, next_wanted}
use Rattle.run_trace.specs.Trace.{sent_at, sent_next, trace_of}
use Rattle.send_book.specs.State.{Sending}
use Rattle.sides.specs.Side.{peer}
use Rattle.sides.specs.declared.side.Side.TheVariants.{A, B}
use Rattle.sides.specs.declared.side.Side.{Side}
use Rattle.stream_lanes.proofs.Bytes.{From-filled}
use Rattle.stream_lanes.proofs.Duos.{any_held}
use Rattle.stream_lanes.proofs.Lists.{Every-map, in_append, in_map, item_at}
use Rattle.stream_lanes.specs.Duo.{Duo}
use Rattle.stream_lanes.specs.Holding.{Holds}
use Rattle.stream_lanes.specs.View.{end_of}
use Rattle.stream_lanes.specs.Words.{Every, From, Has}
use Rattle.own_runs.specs.Sending.{CarriesPlace}
use Rattle.world_laws.proofs.Lanes.OfAWorld.{PathThere}
use Rattle.world_laws.proofs.Promises.Made.{run_fresh}
use Rattle.world_laws.proofs.Worlds.CastLifting.{each_actor, writes_the_files}
use Rattle.world_laws.proofs.Worlds.Casts.{Walker}
use Rattle.world_laws.specs.Actors.{Actor, ActorCrew}
use Rattle.world_laws.specs.Fresh.{shown_crew, shown_member}
use Rattle.world_laws.specs.Openings.{Start, opened_world}
use Rattle.world_laws.specs.Promises.{IsPlain, NumbersFit}
use Rattle.world_laws.specs.Worlds.{Turn, WorldState, after_turn, world_run}
use Rattle.world_laws.specs.declared.member.Member.TheVariants.{App, Path}
use Rattle.own_runs.specs.Arrivals.{AckIsCarried, EachAckIsCarried}
use Rattle.own_runs.specs.Runs.{file_of}
use Rattle.own_runs.proofs.Acking.{OptionAcks, SendsAcks, first_sent_acks}
use Rattle.own_runs.proofs.CameSent.{IsOnLane, d, has_map, links, on_lane_carries, passed_of, w, was_sent}
use Rattle.own_runs.proofs.Wanted.{BothWanted, always_wanted}
use Rattle.own_runs.proofs.WasSent.{Known, always_known}
use Rattle.own_runs.proofs.Granted.{way}
use Rattle.own_runs.proofs.Moments.{IsSpoken, MemberAlso, PathAlso, WorldAlso, end_shown, first_same, turn_spoken, world_speaks}
use Rattle.own_runs.proofs.Passed.{AllPassed, WasPassed}
use Rattle.own_runs.proofs.Speaking.{ToSend}

-- what holds of the segments that are sent next
abbrev pub AckShows : (Side → ℕ → Sent → Type 0) → (Side → ℕ → Type 0) → List Sent → Side → PlainOption → Type 0
AckShows P E before s (Dss (Some next) mapping) = (place : ℕ) → place < next → Has (P (peer s) place) before ⊎ E (peer s) place
AckShows P E before s _ = Unit {0}

abbrev pub AckedBefore : (Side → ℕ → Sent → Type 0) → (Side → ℕ → Type 0) → List Sent → ℕ → Side → PlainSegment → Type 0
AckedBefore P E before path s sg = Every (AckShows P E before s) sg.options

-- behind the last octet of the file
abbrev pub AtEnd : Start → Side → ℕ → Type 0
AtEnd start s place = place ≡ length (file_of start s)

-- the end is known where a place behind what came is wanted no more
end_there : (o : Option ℕ) (count place : ℕ) → count ≤ place → place < count + (if is_end o count then 1 else 0) → o ≡ Some place
end_there None count place low high = absurd (omega (arith, low, high))
end_there (Some e) count place low high = by (e == count) refl high
  where
    by : (b : Bool) → (e == count) ≡ b → place < count + (if b then 1 else 0) → Some e ≡ Some place
    by true is high = ap (λ (n : ℕ). Some n) (let same = eqb-true e count is in let at : e ≡ place = omega (arith, same, low, high) in at)
    by false is high = absurd (omega (arith, low, high))

-- where a stream is closed its file was written
closed_end : (file : List ℕ) (b : Sending) → (b.closed ≡ true → b.written ≡ file) → (place : ℕ) → end_of b ≡ Some place → place ≡ length file
closed_end file b whole place is = by b.closed whole is
  where
    by : (closed : Bool) → (closed ≡ true → b.written ≡ file) → (if closed then Some (length b.written) else None) ≡ Some place → place ≡ length file
    by true whole is = let same : length b.written ≡ place = cc in sym same ∙ ap length (whole refl)
    by false whole is = cc

known_so : (o : Option ℕ) (R : ℕ → Type 0) (place : ℕ) → IfSome o R → o ≡ Some place → R place
known_so o R place h is = subst (λ (x : Option ℕ). IfSome x R) is h

shown_so : (P : Side → ℕ → Sent → Type 0) (E : Side → ℕ → Type 0) (before : List Sent) (s : Side) (n : ℕ)
    → ((place : ℕ) → place < n → Has (P (peer s) place) before ⊎ E (peer s) place) → (o : PlainOption) → OptionAcks n o → AckShows P E before s o
shown_so P E before s n carried (Dss (Some next) mapping) is = λ place below. carried place (omega (arith, below, is))
shown_so P E before s n carried (Dss None mapping) is = tt
shown_so P E before s n carried _ is = tt

carried_so : (start : Start) (P : Side → ℕ → Sent → Type 0) (before : List Sent) (s : Side)
    → ((place : ℕ) (x : Sent) → P (peer s) place x → CarriesPlace (peer s) (file_of start (peer s)) place x)
    → (o : PlainOption) → AckShows P (AtEnd start) before s o → AckIsCarried start before s o
carried_so start P before s f (Dss (Some next) mapping) h = λ place below. ⊎_elim (λ has. inl (has_map before (f place) has)) (λ end. inr end) (h place below)
carried_so start P before s f (Dss None mapping) h = tt
carried_so start P before s f _ h = tt

module _ (start : Start) (plain : IsPlain start) (fit : NumbersFit start) (turns : List Turn) (k : Known start plain fit turns) where
  holds : Holds (d start plain fit turns k)
  holds = any_held (links start plain fit turns k).alters (links start plain fit turns k).checked (length start.paths) start.buffer start.buffer k.events

  send_is : (s : Side) → (way s (d start plain fit turns k)).send ≡ send_of s (books_in (w start plain fit turns k).books)
  send_is A = ap (λ (e : Duo). e.ab.send) k.shows.duo_is ∙ sym (ap (λ (v : WorldState Carried). (books_in v.books).send_a) k.shows.is)
  send_is B = ap (λ (e : Duo). e.ba.send) k.shows.duo_is ∙ sym (ap (λ (v : WorldState Carried). (books_in v.books).send_b) k.shows.is)

  -- where a stream is closed its file was written
  pub closed_whole : (s : Side) → (way s (d start plain fit turns k)).send.closed ≡ true → (way s (d start plain fit turns k)).send.written ≡ file_of start s
  closed_whole A = subst (λ (b : Sending). b.closed ≡ true → b.written ≡ start.file_a) (sym (send_is A)) (writes_the_files values start turns).a.whole
  closed_whole B = subst (λ (b : Sending). b.closed ≡ true → b.written ≡ start.file_b) (sym (send_is B)) (writes_the_files values start turns).b.whole

  -- a known end is that of the file
  pub known_at_end : (s : Side) (place : ℕ) → (way s (d start plain fit turns k)).arrived.known_end ≡ Some place → AtEnd start s place
  known_at_end A place is = closed_end start.file_a (way A (d start plain fit turns k)).send (closed_whole A) place
      (known_so (way A (d start plain fit turns k)).arrived.known_end (λ e. end_of (way A (d start plain fit turns k)).send ≡ Some e) place holds.ab.arrived.end is)
  known_at_end B place is = closed_end start.file_b (way B (d start plain fit turns k)).send (closed_whole B) place
      (known_so (way B (d start plain fit turns k)).arrived.known_end (λ e. end_of (way B (d start plain fit turns k)).send ≡ Some e) place holds.ba.arrived.end is)

module _ (start : Start) (plain : IsPlain start) (fit : NumbersFit start) (turns : List Turn) (k : Known start plain fit turns)
    (P : Side → ℕ → Sent → Type 0) (shows : (s : Side) (place : ℕ) (x : Sent) → IsOnLane start (d start plain fit turns k) s place x → P s place x)
    (E : Side → ℕ → Type 0) (ends : (s : Side) (place : ℕ) → (way s (d start plain fit turns k)).arrived.known_end ≡ Some place → E s place) where
  abbrev now : Duo
  now = d start plain fit turns k

  abbrev before : List Sent
  before = trace_of turns (opened_world start)

  -- what came without a gap
  was_received : (s : Side) (place : ℕ) → place < received (way s now).arrived → WasPassed (way s now).lanes place
  was_received s place below = ⊎_elim (λ read. all.before place read) (λ new. stands new) (cases_lt place (way s now).arrived.read)
    where
      all : AllPassed (way s now).lanes (way s now).arrived
      all = passed_of start plain fit turns k s

      stands : (way s now).arrived.read ≤ place → WasPassed (way s now).lanes place
      stands new =
          let row : From (λ (place byte : ℕ). WasPassed (way s now).lanes place) (way s now).arrived.read (filled (way s now).arrived.places) = From-filled all.cells in
          let there = item_at (filled (way s now).arrived.places) (place - (way s now).arrived.read) (omega (arith, new, below)) in
          row.each (place - (way s now).arrived.read) place there.0 (omega (arith, new)) there.1

  covered : (s : Side) (n place : ℕ) → n ≤ next_wanted (way s now).arrived → place < n → Has (P s place) before ⊎ E s place
  covered s n place most below =
      ⊎_elim
      (λ came. inl (has_map before (shows s place) (was_sent start plain fit turns k s place (was_received s place came))))
      (λ past. inr (ends s place (end_there (way s now).arrived.known_end (received (way s now).arrived) place past (omega (arith, below, most)))))
      (cases_lt place (received (way s now).arrived))

  wanted : BothWanted (d start plain fit turns k)
  wanted = always_wanted (links start plain fit turns k).alters (links start plain fit turns k).checked (length start.paths) start.buffer start.buffer k.events

  -- what an end was told
  told_so : (n : ℕ) (x : Walker Carried) → slice_get k.shows.cast.paths n ≡ Some x → (s : Side) → (end_at s x.path).receiving.next ≤ next_wanted (way (peer s) now).arrived
  told_so n x at s = by s
    where
      path : PathThere start k.shows.lanes_ab k.shows.lanes_ba n x.path
      path = k.shows.paths.each n n x (omega arith) at

      by : (s : Side) → (end_at s x.path).receiving.next ≤ next_wanted (way (peer s) now).arrived
      by A =
          let most = wanted.ba n path.ba (ap (λ (e : Duo). slice_get e.ba.lanes n) k.shows.duo_is ∙ path.ba_there) in
          let latest : path.ba.latest.next ≡ x.path.a.receiving.next = ap (λ t. t.next) path.shows.a.acks.latest in
          omega (arith, most, latest)
      by B =
          let most = wanted.ab n path.ab (ap (λ (e : Duo). slice_get e.ab.lanes n) k.shows.duo_is ∙ path.ab_there) in
          let latest : path.ab.latest.next ≡ x.path.b.receiving.next = ap (λ t. t.next) path.shows.b.acks.latest in
          omega (arith, most, latest)

  path_acks : (n : ℕ) (x : Walker Carried) → slice_get k.shows.cast.paths n ≡ Some x → PathAlso (AckedBefore P E (trace_of turns (opened_world start))) x.path
  path_acks n x at = by (first_sends x.path.agenda x.path) (first_sent_acks x.path x.path.agenda)
    where
      by : (o : Option ToSend) → IfSome o (SendsAcks x.path) → IfSome o (λ t. AckedBefore P E before (path_of x.path) t.from (segment_sent x.path t))
      by None acks = tt
      by (Some t) acks = Every-map (λ o is. shown_so P E before t.from (end_at t.from x.path).receiving.next (λ place below. covered (peer t.from) (end_at t.from x.path).receiving.next place (told_so n x at t.from) below) o is) acks

  abbrev Q : ℕ → Side → PlainSegment → Type 0
  Q = AckedBefore P E (trace_of turns (opened_world start))

  valued : WorldAlso Q (w start plain fit turns k)
  valued = subst (λ (v : WorldState Carried). WorldAlso Q v) (sym k.shows.is) (each_actor (λ i c. MemberAlso Q c.member) k.shows.cast tt tt (λ n x at. path_acks n x at))

  -- ---- over octets

  path_also : (p : PathState Carried) → PathAlso Q p → PathAlso Q (shown_path p)
  path_also p s = subst (λ (o : Option ToSend). IfSome o Shown) (sym (first_same p.agenda p)) (by (first_sends p.agenda p) s)
    where
      Shown : ToSend → Type 0
      Shown = λ t. Q (path_of (shown_path p)) t.from (segment_sent (shown_path p) t)

      by : (o : Option ToSend) → IfSome o (λ t. Q (path_of p) t.from (segment_sent p t)) → IfSome o Shown
      by None said = tt
      by (Some t) said = subst (λ (e : PathEnd). Q (path_of p) t.from (said_by t.kind p.profile t.from e)) (end_shown t.from p) said

  member_also : (m : Actor Carried) → MemberAlso Q m → MemberAlso Q (shown_member m)
  member_also (App a) s = tt
  member_also (Path p) s = path_also p s

  -- each segment that the next turn sends
  pub also_acked : WorldAlso (AckedBefore P E (trace_of turns (opened_world start))) (world_run octets turns (opened_world start))
  also_acked =
      subst (λ (v : WorldState (List ℕ)). WorldAlso Q v) (sym (run_fresh start turns plain.size fit))
      (λ i c at.
      let found = in_map shown_crew (w start plain fit turns k).crew i c at in
      subst (λ (y : ActorCrew (List ℕ)). MemberAlso Q y.member) found.2 (member_also found.0.member (valued i found.0 found.1)))

-- ---- where a segment stands in a trace

-- the turn that sent it, and what was sent before
pub record SentIn (turns : List Turn) (v : WorldState (List ℕ)) (i : ℕ) (x : Sent) : Type 0 where
  pub before : List Turn
  pub turn : Turn
  pub later : List Turn
  pub whole : before ++ later ≡ turns
  pub front : trace_of before v ≡ take i (trace_of turns v)
  pub sends : slice_get (sent_at turn (world_run octets before v)) 0 ≡ Some x

one_at_most : (turn : Turn) (v : WorldState (List ℕ)) → length (sent_at turn v) ≤ 1
one_at_most (Turn.Step i) v = by (sent_next i v)
  where
    by : (o : Option Sent) → length (option_to_list o) ≤ 1
    by None = omega arith
    by (Some x) = omega arith
one_at_most Turn.Round v = omega arith

pub sent_in : (turns : List Turn) (v : WorldState (List ℕ)) (i : ℕ) (x : Sent) → slice_get (trace_of turns v) i ≡ Some x → SentIn turns v i x
sent_in [] v i x is = cc
sent_in (turn ∷ turns) v i x is = by (in_append now rest i x is) (λ j there. sent_in turns (after_turn octets turn v) j x there)
  where
    now : List Sent
    now = sent_at turn v

    rest : List Sent
    rest = trace_of turns (after_turn octets turn v)

    by : (slice_get now i ≡ Some x) ⊎ ((length now ≤ i) × (slice_get rest (i - length now) ≡ Some x)) → ((j : ℕ) → slice_get rest j ≡ Some x → SentIn turns (after_turn octets turn v) j x) → SentIn (turn ∷ turns) v i x
    by (inl here) further =
        let within = slice_get_within now i x here in
        let most = one_at_most turn v in
        let none : 0 ≡ i = omega (arith, within, most) in
        record {
          before = [];
          turn = turn;
          later = turn ∷ turns;
          whole = refl;
          front = ap (λ (n : ℕ). take n (trace_of (turn ∷ turns) v)) none;
          sends = ap (slice_get now) none ∙ here;
        }
    by (inr later) further =
        let low = later.0 in
        let m = further (i - length now) later.1 in
        record {
          before = turn ∷ m.before;
          turn = m.turn;
          later = m.later;
          whole = ap (λ (ts : List Turn). turn ∷ ts) m.whole;
          front = ap (λ (t : List Sent). now ++ t) m.front ∙ sym (take-append-add now rest (i - length now))
              ∙ ap (λ (n : ℕ). take n (now ++ rest)) (let same : length now + (i - length now) ≡ i = omega (arith, low) in same);
          sends = m.sends;
        }

pub each_is_carried : EachAckIsCarried
each_is_carried start turns plain fit i x is =
    let m = sent_in turns (opened_world start) i x is in
    let k : Known start plain fit m.before = always_known start plain fit m.before in
    let P : Side → ℕ → Sent → Type 0 = IsOnLane start (d start plain fit m.before k) in
    let so_far : List Sent = trace_of m.before (opened_world start) in
    let all : Every (IsSpoken (AckedBefore P (AtEnd start) so_far) start) (sent_at m.turn (world_run octets m.before (opened_world start))) =
    turn_spoken (AckedBefore P (AtEnd start) so_far) start m.turn (world_run octets m.before (opened_world start)) (world_speaks start m.before plain.size fit)
    (also_acked start plain fit m.before k P (λ s place x h. h) (AtEnd start) (known_at_end start plain fit m.before k)) in
    let said = all.each 0 x m.sends in
    record {
      spelling = _;
      segment = said.segment;
      octets = said.octets;
      acks = subst (λ (front : List Sent). Every (AckIsCarried start front x.from) said.segment.options) m.front
          (Every-map (λ o shown. carried_so start P so_far x.from (λ place y h. on_lane_carries start (d start plain fit m.before k) (peer x.from) place y h) o shown) said.also);
    }
