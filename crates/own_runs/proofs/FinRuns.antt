-- Where each FIN of a trace stands: behind the turn that sends it, its lane has it.
use Rattle.std.proofs.Common.{◌≡◌, refl, sym, ap, ◌∙◌, subst, ℕ, suc, ◌+◌, ◌-◌, Bool, true, false, if◌then◌else◌, Option, Some, None, option_map, List, [], ◌∷◌, ◌++◌, append_assoc, arith}
use Rattle.std.specs.List.{slice_get}
use Rattle.std.specs.Option.{IfSome}
use Rattle.std.proofs.lemmas.Bool.{and_parts, false≢true}
use Rattle.actor_desk.specs.Books.{books_in}
use Rattle.actor_desk.specs.Words.{pick}
use Rattle.actor_desk.specs.declared.ask.Ask.{Ask}
use Rattle.actor_desk.specs.declared.ask.Reply.{Reply}
use Rattle.judge_laws.proofs.Standing.{some_same}
use Rattle.path_agenda.specs.declared.duty.AskDuty.{AskDuty}
use Rattle.path_agenda.specs.declared.duty.Duty.{Duty}
use Rattle.path_agenda.specs.declared.duty.SendDuty.{SendDuty}
use Rattle.path_agenda.specs.declared.duty.SilentDuty.{SilentDuty}
use Rattle.path_agenda.specs.declared.duty.StepDuty.{StepDuty}
use Rattle.path_agenda.specs.declared.heard.Heard.{Heard}
use Rattle.path_core.specs.DssIn.{counts, with_data_fin, with_learned, with_skipped}
use Rattle.path_core.specs.Duties.{ask_for, passed, stands}
use Rattle.path_core.specs.End.{PathEnd}
use Rattle.path_core.specs.Looking.{first_sends, segment_sent}
use Rattle.path_core.specs.Octets.{octets}
use Rattle.path_core.specs.DataFin.{answered_fin}
use Rattle.path_core.specs.Profile.{Profile}
use Rattle.path_core.specs.State.{PathState, end_at, path_of, with_end}
use Rattle.path_core.specs.Steps.{answers, asks_first, settled, takes}
use Rattle.path_core.specs.Treating.{item_of, item_passed}
use Rattle.path_core.specs.Turns.{FirstStands, IsSettled}
use Rattle.path_core.specs.Values.{Carried, values}
use Rattle.path_segments.specs.Spelled.{PlainSegment}
use Rattle.sides.specs.declared.side.Side.TheVariants.{A, B}
use Rattle.sides.specs.declared.side.Side.{Side}
use Rattle.stream_lanes.proofs.Lists.{in_map, set_same}
use Rattle.stream_lanes.specs.Duo.{Duo}
use Rattle.stream_lanes.specs.Lane.{Lane}
use Rattle.subflow_send.specs.Records.{Record, SendState}
use Rattle.subflow_send.specs.Rules.{is_fin}
use Rattle.subflow_send.specs.declared.record.RecordKind.TheVariants.{Syn, Data, Fin}
use Rattle.subflow_send.specs.declared.record.RecordKind.{RecordKind}
use Rattle.subflow_tcp.specs.Emitting.{fin_position}
use Rattle.subflow_tcp.specs.States.{may_finish}
use Rattle.subflow_tcp.specs.declared.segments.Outgoing.{Outgoing}
use Rattle.world_laws.proofs.Lanes.Ending.{unfinished_if}
use Rattle.world_laws.proofs.Lanes.OfAWorld.{Carries as MayCarry, PathThere, Reached, WorldShows, duo_of}
use Rattle.world_laws.proofs.Lanes.Showing.{EndShows, KindShows}
use Rattle.world_laws.proofs.Promises.Made.{run_fresh}
use Rattle.world_laws.proofs.Worlds.CastLifting.{each_actor, path_actor}
use Rattle.world_laws.proofs.Worlds.Casts.{Walker, walking}
use Rattle.world_laws.proofs.Writes.Paths.{passes_no_more}
use Rattle.world_laws.proofs.Writes.Steps.{Lasts, both_ends, settled_lasts, unwritten}
use Rattle.world_laws.specs.Actors.{Actor, ActorCrew, member_asks}
use Rattle.world_laws.specs.Fresh.{shown_crew, shown_member}
use Rattle.world_laws.specs.Openings.{Start, opened_world, path_begins}
use Rattle.world_laws.specs.Promises.{HasRoom, NumbersFit}
use Rattle.world_laws.specs.StampedBooks.{answer_to}
use Rattle.world_laws.specs.Worlds.{Turn, WorldState, after_turn, asked, crew_after, stepped, world_run}
use Rattle.world_laws.specs.Writes.{EndView, EndWrites, Only, OnlyAt, side_of, writes}
use Rattle.world_laws.specs.declared.member.Member.TheVariants.{App, Path}
use Rattle.own_runs.proofs.ActorNumbers.{actor_is}
use Rattle.own_runs.proofs.ComesTimes.{also_shown}
use Rattle.own_runs.proofs.EndMaps.{FinOn, lane_of}
use Rattle.own_runs.proofs.FinSays.{EndFins, FinStands, first_stands}
use Rattle.own_runs.proofs.InTime.{Sending, member_sending, path_sending, sending_as, crew_sending, turn_sending}
use Rattle.own_runs.proofs.Moments.{MemberAlso, PathAlso, WorldAlso}
use Rattle.own_runs.proofs.NextTrace.{run_append}
use Rattle.own_runs.proofs.Reached.{EachReaches, duo_at}
use Rattle.own_runs.proofs.SentGrows.{Grows, Longer}
use Rattle.own_runs.proofs.Speaking.{ToSend}

-- ---- what is passed touches nothing of what an end sends

pub record SendSame (p q : PathState Carried) : Type 0 where
  pub a : q.a.tcp.send ≡ p.a.tcp.send
  pub b : q.b.tcp.send ≡ p.b.tcp.send

pub send_same : (s : Side) (p q : PathState Carried) → SendSame p q → (end_at s q).tcp.send ≡ (end_at s p).tcp.send
send_same A p q h = h.a
send_same B p q h = h.b

abbrev EndSame : PathEnd → PathEnd → Type 0
EndSame e f = f.tcp.send ≡ e.tcp.send

end_unwritten : (w : EndWrites) → w.send ≡ false → (e f : PathEnd) → Only w e f → EndSame e f
end_unwritten w never e f x = unwritten w.send e.tcp.send f.tcp.send never (ap (λ (v : EndView). v.send) x.same)

only : (d : Duty) (p q : PathState Carried) → (writes d).own.send ≡ false → (writes d).other.send ≡ false → OnlyAt (side_of d) (writes d) p q → SendSame p q
only d p q own other x =
    let both = both_ends EndSame (side_of d) (writes d) p q (end_unwritten (writes d).own own) (end_unwritten (writes d).other other) x in
    record { a = both.0; b = both.1 }

either_end : (b : Bool) (e f g : PathEnd) → EndSame e f → EndSame e g → EndSame e (if b then f else g)
either_end true e f g x y = x
either_end false e f g x y = y

pass_same : (s : Side) (o : Option Heard) (e : PathEnd) → EndSame e (item_passed s o e)
pass_same s None e = refl
pass_same s (Some (Heard.Mapping fin)) e = either_end (counts e) e (with_learned e) (with_skipped e) refl refl
pass_same s (Some (Heard.DataFin place)) e = either_end (counts e) e (with_data_fin place e) e refl refl
pass_same s (Some _) e = refl

ends : (s : Side) (e : PathEnd) (p : PathState Carried) → EndSame (end_at s p) e → SendSame p (with_end s e p)
ends A e p h = record { a = h; b = refl }
ends B e p h = record { a = refl; b = h }

passed_step : (d : StepDuty) (p : PathState Carried) → SendSame p (passed (Duty.Step d) p)
passed_step (StepDuty.Heard s index) p = ends s _ p (pass_same s (item_of index (end_at s p)) (end_at s p))
passed_step (StepDuty.PlainAck s) p = ends s _ p refl
passed_step (StepDuty.Unmapped s) p = ends s _ p refl
passed_step _ p = record { a = refl; b = refl }

passed_ask : (d : AskDuty) (p : PathState Carried) → SendSame p (passed (Duty.Ask d) p)
passed_ask (AskDuty.CheckFailed s) p = only (Duty.Ask (AskDuty.CheckFailed s)) p _ refl refl (passes_no_more (Duty.Ask (AskDuty.CheckFailed s)) p)
passed_ask _ p = record { a = refl; b = refl }

passed_silent : (d : SilentDuty) (p : PathState Carried) → SendSame p (passed (Duty.Silent d) p)
passed_silent d p = only (Duty.Silent d) p _ (none d) refl (passes_no_more (Duty.Silent d) p)
  where
    none : (d : SilentDuty) → (writes (Duty.Silent d)).own.send ≡ false
    none (SilentDuty.Timer s) = refl
    none _ = refl

passed_same : (d : Duty) (p : PathState Carried) → SendSame p (passed d p)
passed_same (Duty.Ask d) p = passed_ask d p
passed_same (Duty.Step d) p = passed_step d p
passed_same (Duty.Send d) p = record { a = refl; b = refl }
passed_same (Duty.Silent d) p = passed_silent d p
passed_same Duty.End p = record { a = refl; b = refl }

pub lasts : Lasts SendSame
lasts = record {
  agenda = λ ds p. record { a = refl; b = refl };
  chains = λ p q r x y. record { a = y.a ∙ x.a; b = y.b ∙ x.b };
  passes = λ d p. passed_same d p;
}

-- ---- the FIN is pushed

pushed_at : (s : Side) (p : PathState Carried) → ((end_at s (answered_fin values s p)).tcp.send.finished ≡ true) × ((end_at s (answered_fin values s p)).tcp.send.nxt ≡ (end_at s p).tcp.send.nxt + 1)
pushed_at A p = (refl, refl)
pushed_at B p = (refl, refl)

pub pushed : (s : Side) (ds : List Duty) (r : Reply) (p : PathState Carried) → p.agenda ≡ Duty.Send (SendDuty.Fin s) ∷ ds
    → ((end_at s (takes values r p)).tcp.send.finished ≡ true) × ((end_at s (takes values r p)).tcp.send.nxt ≡ (end_at s p).tcp.send.nxt + 1)
pushed s ds r p is =
    subst (λ (todo : List Duty). (let q = answers values todo r p in
    ((end_at s (settled q.agenda q)).tcp.send.finished ≡ true) × ((end_at s (settled q.agenda q)).tcp.send.nxt ≡ (end_at s p).tcp.send.nxt + 1))) (sym is)
    (let q : PathState Carried = answered_fin values s p in
    let same = send_same s q (settled q.agenda q) (settled_lasts SendSame lasts q.agenda q) in
    let new = pushed_at s p in
    (ap (λ (v : SendState). v.finished) same ∙ new.0, ap (λ (v : SendState). v.nxt) same ∙ new.1))

-- ---- a step of an actor

stepped_crew : (i : ℕ) (c : ActorCrew Carried) (x : Ask) (w : WorldState Carried) → slice_get w.crew i ≡ Some c → member_asks values c.member ≡ Some x
    → slice_get (after_turn values (Turn.Step i) w).crew i ≡ Some (crew_after values x w.books c)
stepped_crew i c x w there asks =
    ap (λ (v : WorldState Carried). slice_get v.crew i) (ap (λ (o : Option (ActorCrew Carried)). stepped values i o w) there ∙ ap (λ (o : Option Ask). asked values i o c w) asks)
    ∙ set_same w.crew i (crew_after values x w.books c) c there

-- ---- at each moment, by the lanes of the last one

module _ (start : Start) (can : MayCarry start) (turns : List Turn) (last : Duo) (reaches : EachReaches start can turns last) where
  abbrev v : List Turn → WorldState Carried
  v before = world_run values before (opened_world start)

  -- the FIN that an end pushed is there
  abbrev Finished : ℕ → PathState Carried → Type 0
  Finished n p = (s : Side) → (end_at s p).tcp.send.finished ≡ true → FinOn (lane_of last n s) ((end_at s p).tcp.send.nxt - 1)

  abbrev FinishedAt : ℕ → ActorCrew Carried → Type 0
  FinishedAt (suc (suc n)) c = (p : PathState Carried) → c.member ≡ Path p → Finished n p
  FinishedAt _ c = Unit {0}

  on_later : (n : ℕ) (s : Side) (out : Lane) → ((later : Lane) × (lane_of last n s ≡ Some later) × Longer out later) → (p : ℕ) → FinOn (Some out) p → FinOn (lane_of last n s) p
  on_later n s out later p fin =
      subst (λ (o : Option Lane). FinOn o p) (sym later.1) (record { at = fin.at; item = fin.item; there = later.2.says.fins fin.at fin.item fin.there; holds = fin.holds })

  module _ (before later : List Turn) (is : before ++ later ≡ turns) where
    reached : (q : Reached can.links start (v before)) × Grows (duo_at start can (v before) q) last
    reached = reaches before later is

    abbrev h : WorldShows can.links start (duo_at start can (v before) reached.0) (v before)
    h = reached.0.shows

    grows : Grows (duo_of can.links (books_in h.cast.books) h.lanes_ab h.lanes_ba h.reader_a h.reader_b) last
    grows = subst (λ (d : Duo). Grows d last) h.duo_is reached.1

    module _ (n : ℕ) (x : Walker Carried) (at : slice_get h.cast.paths n ≡ Some x) where
      abbrev there : PathThere start h.lanes_ab h.lanes_ba n x.path
      there = h.paths.each n n x (omega arith) at

      abbrev c : Profile
      c = (path_begins start n there.plan).profile

      out_later : (s : Side) → (later : Lane) × (lane_of last n s ≡ Some later) × Longer (pick s there.ab there.ba) later
      out_later A = grows.ab n there.ab there.ab_there
      out_later B = grows.ba n there.ba there.ba_there

      shows : (s : Side) → EndShows c s (end_at s x.path) (pick s there.ab there.ba) (pick s there.ba there.ab)
      shows A = there.shows.a
      shows B = there.shows.b

      finished_so : Finished n x.path
      finished_so s done = let has = (shows s).sender.sent.fin done in on_later n s (pick s there.ab there.ba) (out_later s) ((end_at s x.path).tcp.send.nxt - 1) has

      kind_fin : (s : Side) (kind : RecordKind) (r : Record) → KindShows c s (pick s there.ab there.ba).alters (pick s there.ab there.ba).sent (pick s there.ab there.ba).datas (pick s there.ab there.ba).fins kind r
          → is_fin kind ≡ true → (r.piece ≡ []) × FinOn (lane_of last n s) r.pos
      kind_fin s Syn r shown fin = absurd (false≢true fin)
      kind_fin s Data r shown fin = absurd (false≢true fin)
      kind_fin s Fin r shown fin = (shown.0, on_later n s (pick s there.ab there.ba) (out_later s) r.pos shown.1)

      answered : (o : Option Outgoing) → IfSome o (λ o. (o.fin ≡ false) × (o.rst ≡ true)) → IfSome o (λ o. o.fin ≡ false)
      answered None is = tt
      answered (Some o) is = is.0

      end_fins : (s : Side) → EndFins (λ t p. FinOn (lane_of last n t) p) s (end_at s x.path)
      end_fins s = record {
        records = record { each = λ i r there_one. kind_fin s r.kind r ((shows s).sender.pieces.each i r there_one) };
        answer = answered (end_at s x.path).treated.answer (shows s).treated.answer;
      }

      -- before it is pushed it isn't
      unfinished : (s : Side) (ds : List Duty) → x.path.agenda ≡ Duty.Send (SendDuty.Fin s) ∷ ds → (end_at s x.path).tcp.send.finished ≡ false
      unfinished s ds todo =
          let settles : IsSettled x.path = h.settled.each n x at in
          let stood : stands (Duty.Send (SendDuty.Fin s)) x.path ≡ true = subst (λ (ds : List Duty). FirstStands ds x.path) todo settles in
          (shows s).sender.unfinished (unfinished_if (end_at s x.path).tcp.state (and_parts (may_finish (end_at s x.path).tcp.state) _ stood).0)

    finished_at : (i : ℕ) (c : ActorCrew Carried) → slice_get (v before).crew i ≡ Some c → FinishedAt i c
    finished_at i c there =
        each_actor FinishedAt h.cast tt tt (λ n x at p is. subst (Finished n) (path_same is) (finished_so n x at)) i c
        (ap (λ (w : WorldState Carried). slice_get w.crew i) (sym h.is) ∙ there)
      where
        path_same : {x y : PathState Carried} → (let one : Actor Carried = Path x in one) ≡ Path y → x ≡ y
        path_same e = cc

  -- a segment that the next turn sends, on the path of its actor
  abbrev pub FinSaid : List Turn → ℕ → Side → PlainSegment → Type 0
  FinSaid before path s sg = (later : List Turn) → before ++ Turn.Step (suc (suc path)) ∷ later ≡ turns → FinStands (λ t p. FinOn (lane_of last path t) p) s sg

  module _ (before later : List Turn) (is : before ++ later ≡ turns) where
    abbrev now : WorldShows can.links start (duo_at start can (v before) (reached before later is).0) (v before)
    now = h before later is

    module _ (n : ℕ) (x : Walker Carried) (at : slice_get now.cast.paths n ≡ Some x) where
      here : slice_get (v before).crew (suc (suc n)) ≡ Some (walking x)
      here = subst (λ (w : WorldState Carried). slice_get w.crew (suc (suc n)) ≡ Some (walking x)) (sym now.is) (path_actor now.cast n x at)

      -- the FIN that this turn pushes
      new : (rest : List Turn) → before ++ Turn.Step (suc (suc n)) ∷ rest ≡ turns → (s : Side) (ds : List Duty) → x.path.agenda ≡ Duty.Send (SendDuty.Fin s) ∷ ds
          → FinOn (lane_of last n s) (fin_position (end_at s x.path).tcp.send)
      new rest split s ds todo =
          subst (FinOn (lane_of last n s)) at_fin
          (finished_at (before ++ Turn.Step (suc (suc n)) ∷ []) rest (append_assoc before (Turn.Step (suc (suc n)) ∷ []) rest ∙ split) (suc (suc n)) (crew_after values ask (v before).books (walking x)) behind
          (takes values r x.path) refl s done.0)
        where
          ask : Ask
          ask = ask_for values (Duty.Send (SendDuty.Fin s)) x.path

          r : Reply
          r = answer_to (v before).books ask

          done : ((end_at s (takes values r x.path)).tcp.send.finished ≡ true) × ((end_at s (takes values r x.path)).tcp.send.nxt ≡ (end_at s x.path).tcp.send.nxt + 1)
          done = pushed s ds r x.path todo

          behind : slice_get (v (before ++ Turn.Step (suc (suc n)) ∷ [])).crew (suc (suc n)) ≡ Some (crew_after values ask (v before).books (walking x))
          behind =
              ap (λ (w : WorldState Carried). slice_get w.crew (suc (suc n))) (run_append before (Turn.Step (suc (suc n)) ∷ []) (opened_world start))
              ∙ stepped_crew (suc (suc n)) (walking x) ask (v before) here (ap (λ (todo : List Duty). asks_first values todo x.path) todo)

          at_fin : (end_at s (takes values r x.path)).tcp.send.nxt - 1 ≡ fin_position (end_at s x.path).tcp.send
          at_fin =
              let next = done.1 in
              (let same : (end_at s (takes values r x.path)).tcp.send.nxt - 1 ≡ (end_at s x.path).tcp.send.nxt = omega (arith, next) in same)
              ∙ sym (ap (λ (b : Bool). if b then (end_at s x.path).tcp.send.nxt - 1 else (end_at s x.path).tcp.send.nxt) (unfinished before later is n x at s ds todo))

      path_fins : PathAlso (FinSaid before) x.path
      path_fins =
          subst (λ (k : ℕ). IfSome (first_sends x.path.agenda x.path) (λ t. FinSaid before k t.from (segment_sent x.path t))) (sym (there before later is n x at).numbered) (by (first_sends x.path.agenda x.path) refl)
        where
          by : (o : Option ToSend) → first_sends x.path.agenda x.path ≡ o → IfSome o (λ t. FinSaid before n t.from (segment_sent x.path t))
          by None e = tt
          by (Some t) e = λ rest split. subst (λ (o : Option ToSend). IfSome o (λ t. FinStands (λ t p. FinOn (lane_of last n t) p) t.from (segment_sent x.path t))) e
              (first_stands (λ t p. FinOn (lane_of last n t) p) x.path (end_fins before later is n x at) x.path.agenda (λ s ds todo. new rest split s ds todo))

    fins_valued : WorldAlso (FinSaid before) (v before)
    fins_valued = subst (λ (w : WorldState Carried). WorldAlso (FinSaid before) w) (sym now.is) (each_actor (λ i c. MemberAlso (FinSaid before) c.member) now.cast tt tt (λ n x at. path_fins n x at))

-- ---- over octets

module _ (start : Start) (can : MayCarry start) (size : HasRoom start) (fit : NumbersFit start) (turns : List Turn) (last : Duo) (reaches : EachReaches start can turns last) where
  abbrev Said : List Turn → ℕ → Side → PlainSegment → Type 0
  Said = FinSaid start can turns last reaches

  abbrev w : List Turn → WorldState (List ℕ)
  w before = world_run octets before (opened_world start)

  pub fins_at : (before later : List Turn) → before ++ later ≡ turns → WorldAlso (Said before) (w before)
  fins_at before later is =
      subst (λ (x : WorldState (List ℕ)). WorldAlso (Said before) x) (sym (run_fresh start before size fit))
      (also_shown (Said before) (world_run values before (opened_world start)) (fins_valued start can turns last reaches before later is))

  -- of what a turn sends
  pub fin_stands : (before later : List Turn) (turn : Turn) → before ++ turn ∷ later ≡ turns → (y : Sending) → turn_sending turn (w before) ≡ Some y → FinStands (λ t p. FinOn (lane_of last y.path t) p) y.from y.segment
  fin_stands before later Turn.Round is y sends = cc
  fin_stands before later (Turn.Step i) is y sends = crew (slice_get (w before).crew i) refl sends
    where
      path : (p : PathState (List ℕ)) → i ≡ suc (suc (path_of p)) → PathAlso (Said before) p → path_sending p ≡ Some y → FinStands (λ t p. FinOn (lane_of last y.path t) p) y.from y.segment
      path p number also says = by (first_sends p.agenda p) also says
        where
          by : (o : Option ToSend) → IfSome o (λ t. Said before (path_of p) t.from (segment_sent p t)) → option_map (sending_as p) o ≡ Some y → FinStands (λ t p. FinOn (lane_of last y.path t) p) y.from y.segment
          by None said e = cc
          by (Some t) said e =
              subst (λ (z : Sending). FinStands (λ t p. FinOn (lane_of last z.path t) p) z.from z.segment) (some_same (sending_as p t) y e)
              (said later (ap (λ (k : ℕ). before ++ Turn.Step k ∷ later) (sym number) ∙ is))

      member : (c : ActorCrew (List ℕ)) → slice_get (w before).crew i ≡ Some c → (m : Actor (List ℕ)) → c.member ≡ m → MemberAlso (Said before) m → member_sending m ≡ Some y
          → FinStands (λ t p. FinOn (lane_of last y.path t) p) y.from y.segment
      member c there (App a) is_app also says = cc
      member c there (Path p) is_path also says = path p (numbered c there p is_path) also says
        where
          numbered : (c : ActorCrew (List ℕ)) → slice_get (w before).crew i ≡ Some c → (p : PathState (List ℕ)) → c.member ≡ Path p → i ≡ suc (suc (path_of p))
          numbered c there p is_path =
              let found = in_map shown_crew (world_run values before (opened_world start)).crew i c (ap (λ (x : WorldState (List ℕ)). slice_get x.crew i) (sym (run_fresh start before size fit)) ∙ there) in
              shown found.0.member refl (actor_is start size before i found.0 found.1) (ap (λ (x : ActorCrew (List ℕ)). x.member) found.2 ∙ is_path)
            where
              path_same : {x y : PathState (List ℕ)} → (let one : Actor (List ℕ) = Path x in one) ≡ Path y → x ≡ y
              path_same e = cc

              shown : {o : Actor Carried} → (m : Actor Carried) → o ≡ m → ((q : PathState Carried) → o ≡ Path q → i ≡ suc (suc (path_of q))) → shown_member m ≡ Path p → i ≡ suc (suc (path_of p))
              shown (App a) same number e = cc
              shown (Path q) same number e = number q same ∙ ap (λ (x : PathState (List ℕ)). suc (suc (path_of x))) (path_same e)

      crew : (o : Option (ActorCrew (List ℕ))) → slice_get (w before).crew i ≡ o → crew_sending o ≡ Some y → FinStands (λ t p. FinOn (lane_of last y.path t) p) y.from y.segment
      crew None there says = cc
      crew (Some c) there says = member c there c.member refl (fins_at before (Turn.Step i ∷ later) is i c there) says
