-- How a turn of a path begins.
use Rattle.std.proofs.Common.{◌≡◌, refl, sym, subst, ap, ◌∙◌, ◌⊎◌, inl, inr, ⊎_elim, ℕ, zero, suc, ◌+◌, arith, Bool, true, false, true≢false, if◌then◌else◌, Some, List, [], ◌∷◌, ◌++◌}
use Rattle.std.proofs.lemmas.Option.{same_Some}
use Rattle.sides.specs.declared.side.Side.{Side}
use Rattle.sides.specs.declared.side.Side.TheVariants.{A, B}
use Rattle.sides.specs.Side.{peer}
use Rattle.reassembly_book.specs.declared.call.ReassemblyCall.{ReassemblyCall}
use Rattle.reassembly_book.specs.Steps as arriving
use Rattle.actor_desk.specs.declared.ask.Ask.{Ask}
use Rattle.actor_desk.specs.declared.ask.Note.{Note}
use Rattle.actor_desk.specs.declared.ask.Reply.{Reply}
use Rattle.actor_desk.specs.Desk.{SixBooks, after_ask, reassembly_of, reply_of}
use Rattle.actor_desk.specs.Words.{is_nil}
use Rattle.subflow_tcp.specs.States.{is_dead}
use Rattle.path_agenda.specs.Agenda.{start_of_turn, rest_of_turn, heard_and, payload_came}
use Rattle.path_agenda.specs.declared.duty.Duty.{Duty}
use Rattle.path_agenda.specs.declared.duty.Duty.TheVariants as duties
use Rattle.path_agenda.specs.declared.duty.AskDuty.TheVariants as ask_duties
use Rattle.path_agenda.specs.declared.duty.SendDuty.TheVariants as send_duties
use Rattle.path_agenda.specs.declared.duty.StepDuty.TheVariants as step_duties
use Rattle.path_core.specs.Breaking.{leaves_unless_dead}
use Rattle.path_core.specs.Codec.{Codec}
use Rattle.path_core.specs.Duties.{answered, ask_for, passed, stands}
use Rattle.path_core.specs.End.{PathEnd}
use Rattle.path_core.specs.State.{PathState, end_at, with_agenda}
use Rattle.path_core.specs.Steps.{asks_of, next_round, settled, takes}
use Rattle.path_core.specs.Start.{waiting_path}
use Rattle.path_core.specs.Values.{Carried, values}
use Rattle.actor_desk.specs.Books.{books_in}
use Rattle.world_laws.specs.Actors.{ActorCrew}
use Rattle.world_laws.specs.Openings.{Start, opened_world, path_begins}
use Rattle.world_laws.specs.RoundDone.{reached}
use Rattle.world_laws.specs.Worlds.{Turn}
use Rattle.world_laws.specs.Writes.{side_of}
use Rattle.world_laws.proofs.Rounds.Lifting.{opened_lifted}
use Rattle.whole_paths.specs.Finish.{IsPathAt}
use Rattle.whole_paths.proofs.ByTurns.{Of, OfBooked, each_booked}
use Rattle.world_laws.proofs.Writes.Steps.{Lasts, settled_lasts}
use Rattle.whole_paths.specs.AgendaSteps.{Follows, Happened, is_of_both, is_silent, is_told, may_break}
use Rattle.whole_paths.specs.AgendaSteps.{Follows as follow, Happened as happen}
use Rattle.whole_paths.specs.TurnsBegin.{AsksNow, BeginsTurn, EachTurnBegins, HasBegun, TurnBeginsOn, TurnsBeginOn, UpdateThen}
use Rattle.whole_paths.proofs.Agendas.{answered_follows}
use Rattle.whole_paths.proofs.Offered.{Same, passed_same, same_offers, same_so, treats_breaks, window_offers}
use Rattle.whole_paths.proofs.Turns.{TellsSteps, paths_between}

-- ---- what follows a duty

loud_of_both : (d : Duty) → is_of_both d ≡ true → is_silent d ≡ true → ⊥
loud_of_both (duties.Step step_duties.Events) is silent = true≢false (sym silent)
loud_of_both duties.End is silent = true≢false (sym silent)
loud_of_both d is silent = true≢false (sym is)

told_begun : (t : Side) (e : Duty) (ds : List Duty) → is_told e ≡ true → HasBegun t ds → HasBegun t (e ∷ ds)
told_begun t (duties.Ask (ask_duties.Window u)) ds is h = absurd (true≢false (sym is))
told_begun t e ds is h = h

begun_tail : (t : Side) (d : Duty) (ds : List Duty) → HasBegun t (d ∷ ds) → HasBegun t ds
begun_tail t (duties.Ask (ask_duties.Window u)) ds h = h.1
begun_tail t d ds h = h

module _ (t s : Side) (gone : Bool) (d : Duty) (ds : List Duty) where
  follow_begins : (next : List Duty) → may_break d ≡ false → is_silent d ≡ true → BeginsTurn t (d ∷ ds) → BeginsTurn t ds → Follows s gone d ds next → BeginsTurn t next
  follow_begins next calm silent whole rest follow.goes_on = rest
  follow_begins next calm silent whole rest follow.again = whole
  follow_begins next calm silent whole rest (follow.told treats e own both one quiet) = absurd (true≢false (sym (treats_breaks d treats) ∙ calm))
  follow_begins next calm silent whole rest (follow.left is) = (refl, refl, rest)
  follow_begins next calm silent whole rest follow.noted = (refl, refl, rest)
  follow_begins next calm silent whole rest (follow.broken is reason) = absurd (true≢false (sym is ∙ calm))
  follow_begins next calm silent whole rest (follow.is_reset is reason) = absurd (true≢false (sym is ∙ calm))
  follow_begins next calm silent whole rest (follow.dead is died) = absurd (true≢false (sym is ∙ calm))
  follow_begins next calm silent whole rest (follow.stopped is) = absurd (true≢false (sym is ∙ calm))
  follow_begins next calm silent whole rest (follow.over is) = absurd (loud_of_both d is silent)

  follow_begun : (next : List Duty) → HasBegun t (d ∷ ds) → Follows s gone d ds next → HasBegun t next
  follow_begun next whole follow.goes_on = begun_tail t d ds whole
  follow_begun next whole follow.again = whole
  follow_begun next whole (follow.told treats e own both one quiet) = told_begun t e ds one (begun_tail t d ds whole)
  follow_begun next whole (follow.left is) = begun_tail t d ds whole
  follow_begun next whole follow.noted = begun_tail t d ds whole
  follow_begun next whole (follow.broken is reason) = tt
  follow_begun next whole (follow.is_reset is reason) = tt
  follow_begun next whole (follow.dead is died) = tt
  follow_begun next whole (follow.stopped is) = tt
  follow_begun next whole (follow.over is) = tt

-- ---- what follows an event

heard_begun : (t s : Side) (from count : ℕ) → HasBegun t (heard_and s from count (payload_came s))
heard_begun t s from zero = tt
heard_begun t s from (suc count) = heard_begun t s (from + 1) count

unless_begun : (t s : Side) (c : Bool) (ds : List Duty) → HasBegun t ds → HasBegun t ((if c then [] else duties.Ask (ask_duties.Leave s) ∷ []) ++ ds)
unless_begun t s true ds h = h
unless_begun t s false ds h = h

happened_begun : (t s : Side) (e f : PathEnd) (ds : List Duty) → Happened s e f ds → HasBegun t ds
happened_begun t s e f ds (happen.nothing still) = tt
happened_begun t s e f ds happen.sent = tt
happened_begun t s e f ds happen.syn = tt
happened_begun t s e f ds happen.syn_ack = tt
happened_begun t s e f ds happen.join = tt
happened_begun t s e f ds happen.no_join = tt
happened_begun t s e f ds happen.join_answer = tt
happened_begun t s e f ds (happen.copy count) = heard_begun t s 0 count
happened_begun t s e f ds happen.syn_once_more = tt
happened_begun t s e f ds happen.answered = tt
happened_begun t s e f ds (happen.answered_dead still) = tt
happened_begun t s e f ds happen.timed_out = tt
happened_begun t s e f ds happen.timed_out_for_ever = tt
happened_begun t s e f ds (happen.announced id) = tt
happened_begun t s e f ds (happen.withdrawn id) = tt
happened_begun t s e f ds (happen.dead is) = tt
happened_begun t s e f ds (happen.both_dead is a b) = unless_begun t A (is_dead a.tcp.state) (leaves_unless_dead B b ++ rest_of_turn) (unless_begun t B (is_dead b.tcp.state) rest_of_turn tt)
happened_begun t s e f ds (happen.is_reset reason) = tt

-- ---- a turn of the path

pub start_begins : (t : Side) → BeginsTurn t start_of_turn
start_begins A = (refl, refl, (refl, refl, (refl, refl, inl (refl, (refl, (refl, tt))))))
start_begins B = (refl, refl, (refl, refl, (refl, refl, inr (refl, (refl, inl (refl, (refl, tt)))))))

pub none_is_its_peer : (t : Side) → t ≡ peer t → ⊥
none_is_its_peer A is = cc
none_is_its_peer B is = cc

abbrev first_of : Duty → List Duty → Duty
first_of d [] = d
first_of d (e ∷ ds) = e

asks_window : (t : Side) (d : Duty) (ds es : List Duty) → d ∷ ds ≡ duties.Ask (ask_duties.Window t) ∷ es → d ≡ duties.Ask (ask_duties.Window t)
asks_window t d ds es same = ap (first_of d) same

empty : (t : Side) (ds : List Duty) → is_nil ds ≡ true → BeginsTurn t ds → ⊥
empty t [] over h = h
empty t (d ∷ ds) over h = true≢false (sym over)

nothing_left : (ds : List Duty) → is_nil ds ≡ true → ds ≡ []
nothing_left [] over = refl
nothing_left (d ∷ ds) over = absurd (true≢false (sym over))

-- the book is as it was before it was asked
asked_edge : (t : Side) (six : SixBooks) → arriving.edge (reassembly_of t (after_ask (Ask.Reassembly t ReassemblyCall.AckOut) six)) ≡ arriving.edge (reassembly_of t six)
asked_edge A six = refl
asked_edge B six = refl

module _ {C : Type 0} where
  abbrev AllSame : Side → PathState C → PathState C → Type 0
  AllSame t p q = Same (end_at t p) (end_at t q)

  same_lasts : (t : Side) → Lasts (AllSame t)
  same_lasts t = record {
    agenda = λ ds p. same_so (end_at t p) (end_at t p) refl refl;
    chains = λ p q r x y. same_so (end_at t p) (end_at t r) (y.next ∙ x.next) (y.window ∙ x.window);
    passes = λ d p. passed_same t d p;
  }

  begins_tail : (t : Side) (d : Duty) (ds : List Duty) (p : PathState C) → stands d p ≡ false → BeginsTurn t (d ∷ ds) → BeginsTurn t ds
  begins_tail t (duties.Ask (ask_duties.Window u)) ds p quiet h = absurd (true≢false quiet)
  begins_tail t (duties.Send (send_duties.Update u)) ds p quiet h = h.1
  begins_tail t d ds p quiet h = h.2

  pub settled_begins : (t : Side) (ds : List Duty) (p : PathState C) → BeginsTurn t ds → BeginsTurn t (settled ds p).agenda
  settled_begins t [] p h = absurd h
  settled_begins t (d ∷ ds) p h = (elim (stands d p) as (λ b. stands d p ≡ b → BeginsTurn t (if b then with_agenda (d ∷ ds) p else settled ds (passed d p)).agenda) [
    | true ↦ λ is. h
    | false ↦ λ quiet. settled_begins t ds (passed d p) (begins_tail t d ds p quiet h)
  ]) refl

  settled_begun : (t : Side) (ds : List Duty) (p : PathState C) → HasBegun t ds → HasBegun t (settled ds p).agenda
  settled_begun t [] p h = tt
  settled_begun t (d ∷ ds) p h = elim (stands d p) as (λ b. HasBegun t (if b then with_agenda (d ∷ ds) p else settled ds (passed d p)).agenda) [
    | true ↦ h
    | false ↦ settled_begun t ds (passed d p) (begun_tail t d ds h)
  ]

  answer_begun : (k : Codec C) (r : Reply) (t : Side) (d : Duty) (ds : List Duty) (p : PathState C) → HasBegun t (d ∷ ds) → HasBegun t (answered k d r (with_agenda (d ∷ ds) p)).agenda
  answer_begun k r t (duties.Step step_duties.Events) ds p h = happened_begun t _ _ _ _ (answered_follows k (duties.Step step_duties.Events) ds r p).0
  answer_begun k r t d ds p h = follow_begun t (side_of d) _ d ds _ h (answered_follows k d ds r p)

  module _ (k : Codec C) (six : SixBooks) (x : Ask) where
    abbrev to : Duty → List Duty → PathState C → PathState C
    to d ds p = answered k d (reply_of six x) (with_agenda (d ∷ ds) p)

    asks_now : (t : Side) (ds : List Duty) (p : PathState C) → x ≡ Ask.Reassembly t ReassemblyCall.AckOut → UpdateThen t ds
        → AsksNow (after_ask x six) t (with_agenda (duties.Ask (ask_duties.Window t) ∷ ds) p) (takes k (reply_of six x) (with_agenda (duties.Ask (ask_duties.Window t) ∷ ds) p))
    asks_now t (duties.Send (send_duties.Update u) ∷ others) p is h =
        let d : Duty = duties.Ask (ask_duties.Window t) in
        let ds : List Duty = duties.Send (send_duties.Update u) ∷ others in
        let at : ℕ = arriving.edge (reassembly_of t (after_ask x six)) in
        let same : at ≡ arriving.edge (reassembly_of t six) = ap (λ y. arriving.edge (reassembly_of t (after_ask y six))) is ∙ asked_edge t six in
        record {
          others = others;
          first = ap (λ v. duties.Ask (ask_duties.Window t) ∷ duties.Send (send_duties.Update v) ∷ others) h.0;
          knows = same_offers at (end_at t (to d ds p)) (end_at t (settled ds (to d ds p))) (settled_lasts (AllSame t) (same_lasts t) ds (to d ds p)) (window_offers k six x ds p t at (omega (arith, same)) is);
          begun = settled_begun t ds (to d ds p) h.1;
        }
    asks_now t _ p is h = absurd h

    soon_so : (t : Side) (d : Duty) (ds : List Duty) (p : PathState C) → x ≡ ask_for k d (with_agenda (d ∷ ds) p) → BeginsTurn t (d ∷ ds) → let z : PathState C = takes k (reply_of six x) (with_agenda (d ∷ ds) p) in
        BeginsTurn t z.agenda ⊎ AsksNow (after_ask x six) t (with_agenda (d ∷ ds) p) z
    soon_so t (duties.Ask (ask_duties.Window u)) ds p is h = ⊎_elim
        (λ own. inr (subst (λ v. x ≡ Ask.Reassembly v ReassemblyCall.AckOut → AsksNow (after_ask x six) t (with_agenda (duties.Ask (ask_duties.Window v) ∷ ds) p) (takes k (reply_of six x) (with_agenda (duties.Ask (ask_duties.Window v) ∷ ds) p)))
        (sym own.0) (λ at. asks_now t ds p at own.1) is))
        (λ away. inl (settled_begins t ds (to (duties.Ask (ask_duties.Window u)) ds p) away.1)) h
    soon_so t (duties.Send (send_duties.Update u)) ds p is h = inl (settled_begins t ds (to (duties.Send (send_duties.Update u)) ds p) h.1)
    soon_so t (duties.Step step_duties.Events) ds p is h = absurd (true≢false (sym h.0))
    soon_so t d ds p is h = inl (settled_begins t (to d ds p).agenda (to d ds p) (follow_begins t (side_of d) _ d ds _ h.1 h.0 h h.2 (answered_follows k d ds (reply_of six x) p)))

    first_so : (t : Side) (d : Duty) (ds es : List Duty) (p : PathState C) → x ≡ ask_for k d (with_agenda (d ∷ ds) p) → d ∷ ds ≡ duties.Ask (ask_duties.Window t) ∷ es → BeginsTurn t (d ∷ ds)
        → AsksNow (after_ask x six) t (with_agenda (d ∷ ds) p) (takes k (reply_of six x) (with_agenda (d ∷ ds) p))
    first_so t d ds es p is same h = subst At (sym (asks_window t d ds es same)) of_window is h
      where
        At : Duty → Type 0
        At d = x ≡ ask_for k d (with_agenda (d ∷ ds) p) → BeginsTurn t (d ∷ ds) → AsksNow (after_ask x six) t (with_agenda (d ∷ ds) p) (takes k (reply_of six x) (with_agenda (d ∷ ds) p))

        of_window : At (duties.Ask (ask_duties.Window t))
        of_window is h = ⊎_elim (λ own. asks_now t ds p is own.1) (λ away. absurd (none_is_its_peer t away.0)) h

    duty_turn : (t : Side) (d : Duty) (ds : List Duty) (p : PathState C) → x ≡ ask_for k d (with_agenda (d ∷ ds) p)
        → TurnBeginsOn (after_ask x six) t (with_agenda (d ∷ ds) p) (takes k (reply_of six x) (with_agenda (d ∷ ds) p))
    duty_turn t d ds p is = record {
      soon = λ h. soon_so t d ds p is h;
      later = λ h. inl (settled_begun t (to d ds p).agenda (to d ds p) (answer_begun k (reply_of six x) t d ds p h));
      first = λ es same h. inr (first_so t d ds es p is same h);
    }

  others_turn : (six : SixBooks) (x : Ask) (steps : List Note) (p : PathState C) → TurnsBeginOn six (after_ask x six) steps p p
  others_turn six x steps p t = record { soon = λ h. inl h; later = λ h. inl h; first = λ ds same h. inl refl }

  takes_turn : (k : Codec C) (six : SixBooks) (x : Ask) (steps : List Note) (p : PathState C) → asks_of k p ≡ Some x → TellsSteps (reply_of six x) steps
      → TurnsBeginOn six (after_ask x six) steps p (takes k (reply_of six x) p)
  takes_turn k six x steps p asks tells = by p.agenda asks
    where
      by : (ds : List Duty) → let y : PathState C = with_agenda ds p in asks_of k y ≡ Some x → TurnsBeginOn six (after_ask x six) steps y (takes k (reply_of six x) y)
      by [] asks = others_turn six x steps (with_agenda [] p)
      by (d ∷ ds) asks = λ t. duty_turn k six x t d ds p (sym (same_Some (ask_for k d (with_agenda (d ∷ ds) p)) x asks))

  -- as a turn begins
  pub begins_anew : (t : Side) (p : PathState C) → BeginsTurn t (next_round p).agenda
  begins_anew t p = settled_begins t start_of_turn (with_agenda start_of_turn (record p { clock = p.until; until = p.until + 100 })) (start_begins t)

  next_turn : (six : SixBooks) (steps : List Note) (p : PathState C) → is_nil p.agenda ≡ true → TurnsBeginOn six six steps p (next_round p)
  next_turn six steps p over t = record {
    soon = λ h. absurd (empty t p.agenda over h);
    later = λ h. inr (nothing_left p.agenda over, begins_anew t p);
    first = λ ds same h. absurd (empty t p.agenda over h);
  }

  pub each_turn_begins : (k : Codec C) → EachTurnBegins k
  each_turn_begins k = paths_between k TurnsBeginOn others_turn (takes_turn k) next_turn

-- ---- at every moment

-- the end has begun its turn, or asks its book soon
abbrev pub IsAtTurn : List Duty → Type 0
IsAtTurn ds = (t : Side) → HasBegun t ds ⊎ BeginsTurn t ds

module _ (start : Start) where
  at_turn_on : (six after : SixBooks) (steps : List Note) (p q : PathState Carried) → TurnsBeginOn six after steps p q → IsAtTurn p.agenda → IsAtTurn q.agenda
  at_turn_on six after steps p q on h t = ⊎_elim
      (λ begun. ⊎_elim (λ still. inl still) (λ anew. inr anew.1) ((on t).later begun))
      (λ soon. ⊎_elim (λ still. inr still) (λ now. inl now.begun) ((on t).soon soon))
      (h t)

  opened_at_turn : OfBooked values start TurnsBeginOn (each_turn_begins values) (λ six (p : PathState Carried). IsAtTurn p.agenda) (opened_world start)
  opened_at_turn = record {
    each = λ c there. (opened_lifted (λ (c : ActorCrew Carried). Of (λ (p : PathState Carried). IsAtTurn p.agenda) c.member) start tt tt
        (λ number plan at_place t. inr (settled_begins t start_of_turn (with_agenda start_of_turn (waiting_path {C = Carried} (path_begins start number plan) start.lines)) (start_begins t)))).each 2 c there;
  }

  pub each_is_at_turn : (turns : List Turn) (p : PathState Carried) → IsPathAt 0 (reached values start turns) p → IsAtTurn p.agenda
  each_is_at_turn turns p here = subst (Of (λ (q : PathState Carried). IsAtTurn q.agenda)) here.is
      ((each_booked values start TurnsBeginOn (each_turn_begins values) (λ six (p : PathState Carried). IsAtTurn p.agenda) opened_at_turn
      (λ turns turn steps p q here there on h. at_turn_on (books_in (reached values start turns).books) (books_in (reached values start (turns ++ turn ∷ [])).books) steps p q on h) turns).each here.crew here.there)
