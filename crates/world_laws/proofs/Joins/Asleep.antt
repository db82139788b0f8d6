-- A path that joins the connection does nothing before it is begun, and nothing where it died before: its ends say nothing, nothing
-- is under way, no timer runs, and what it has to do comes to nothing, but that it asks whether it may begin.
--
-- A path that hasn't joined is silent: both of its ends are shut, and no duty wakes one as long as no join is begun
-- (`proofs/Joins/Asleep`); so its lanes stay as they were opened.
use Rattle.world_laws.proofs.Words.{◌≡◌, refl, sym, ◌∙◌, ap, subst, ℕ, ◌+◌, ◌&&◌, ◌||◌, not, nat_lt, nat_le, Bool, true, false, if◌then◌else◌, Option, Some}
use Rattle.world_laws.proofs.Words.{None, List, [], ◌∷◌, ◌++◌, is_none, and_parts, and_from, false≢true, same_Some, list_all, IfSome, option_and_then, Side, A}
use Rattle.world_laws.proofs.Words.{B, ScriptLine, Control, is_sure, join_waits, begin, join_begin_reply, Record, is_closed_to_segments, is_opening, is_dead}
use Rattle.world_laws.proofs.Words.{is_waiting_phase, may_finish, has_records, EndPhase, next_due, LineAction, LineLeft, rest_of_turn, emission, leaves}
use Rattle.world_laws.proofs.Words.{start_of_turn, Duty, SendDuty, StepDuty, AskDuty, SilentDuty, replaced, Ask, Reply, SixBooks, reply_of, tail_of, Codec}
use Rattle.world_laws.proofs.Words.{stands, ask_for, passed, answered, PathEnd, died, after_look, is_connected, may_note, after_ack_out, PathStart, first_state}
use Rattle.world_laws.proofs.Words.{waiting_path, first_turn, at_tick, PathState, end_at, goes_on, with_end, with_agenda, left, path_of, settled, settles_down}
use Rattle.world_laws.proofs.Words.{answers, asks_of, asks_first, takes, next_round, FirstStands, IsSettled, died_unless_dead, leaves_unless_dead, data_stands}
use Rattle.world_laws.proofs.Words.{first_unsent, data_ask, tick_of, next_join, next_line, next_copy, earlier, next_event, step_for, after_line, happens}
use Rattle.world_laws.proofs.Words.{happens_if, join_begun, never_joined, is_never, keys_begun, opened_by, with_timer_settled, next_fire, with_priority, Profile}
use Rattle.world_laws.proofs.Words.{if_so}
use Rattle.loss_recovery.specs.Timers.{timer_settled}
use Rattle.control_book.specs.declared.call.ControlReply.TheVariants.{NotYet, Never}
use Rattle.path_core.specs.declared.events.Event.{Event}
use Rattle.path_core.specs.DataFin.{is_waiting}
use Rattle.path_core.specs.Events.{before}

-- ---- an end

-- an end waits, listens or is dead, and no timer of it runs
pub record IsShut (e : PathEnd) : Type 0 where
  pub closed : is_closed_to_segments e.tcp.state ≡ true
  pub timer : e.tcp.timing.timer ≡ None

-- such an end is in no state in which it would say something
module _ (P : EndPhase → Bool) (waiting : P EndPhase.Waiting ≡ false) (listen : P EndPhase.Listen ≡ false) (dead : P EndPhase.Dead ≡ false) where
  shut_is : (state : EndPhase) → is_closed_to_segments state ≡ true → P state ≡ false
  shut_is EndPhase.Waiting is = waiting
  shut_is EndPhase.Listen is = listen
  shut_is EndPhase.Dead is = dead
  shut_is _ is = absurd (false≢true is)

pub never_finishes : (e : PathEnd) → IsShut e → may_finish e.tcp.state ≡ false
never_finishes e h = shut_is may_finish refl refl refl e.tcp.state h.closed

never_connected : (e : PathEnd) → IsShut e → is_connected e.tcp.state ≡ false
never_connected e h = shut_is is_connected refl refl refl e.tcp.state h.closed

never_opens : (e : PathEnd) → IsShut e → is_opening e.tcp.state ≡ false
never_opens e h = shut_is is_opening refl refl refl e.tcp.state h.closed

-- what begins with a false test doesn't stand
no : (b c : Bool) → b ≡ false → b && c ≡ true → ⊥
no = elim [ true ↦ λ c is stands. false≢true (sym is) | false ↦ λ c is stands. false≢true stands ]

no_data : (c : Profile) (s : Side) (e : PathEnd) (o : Option Record) → IsShut e → data_stands c s e o ≡ true → ⊥
no_data c s e (Some r) h stands = no (not (is_closed_to_segments e.tcp.state)) _ (ap not h.closed) stands
no_data c s e None h stands = no (may_finish e.tcp.state) _ (never_finishes e h) stands

died_shut : (e : PathEnd) → IsShut e → IsShut (died_unless_dead e)
died_shut e h = if_so IsShut (is_dead e.tcp.state) e (died e) h (record { closed = refl; timer = refl })

-- no timer is started
timed_shut : (now : ℕ) (e : PathEnd) → IsShut e → IsShut (with_timer_settled now e)
timed_shut now e h = record {
  closed = h.closed;
  timer = ap (λ (b : Bool). timer_settled (not b && ((is_waiting e || (e.modes.owes_third || e.notices.fast_closed)) || has_records e.tcp)) e.sending.news now e.tcp.timing) h.closed;
}

-- ---- what is to be done

-- a duty comes to nothing at such an end, or tells the books nothing but how it stands
abbrev pub is_idle : Duty → Bool
is_idle (Duty.Ask AskDuty.JoinAgain) = true
is_idle (Duty.Step (StepDuty.Look s)) = true
is_idle (Duty.Ask (AskDuty.Window s)) = true
is_idle (Duty.Send (SendDuty.Update s)) = true
is_idle (Duty.Send (SendDuty.FastClose s)) = true
is_idle (Duty.Send (SendDuty.Notice s)) = true
is_idle (Duty.Send (SendDuty.Syn s)) = true
is_idle (Duty.Step (StepDuty.Data s)) = true
is_idle (Duty.Send (SendDuty.DataFin s)) = true
is_idle (Duty.Send (SendDuty.Fin s)) = true
is_idle (Duty.Silent (SilentDuty.Timer s)) = true
is_idle (Duty.Step StepDuty.Events) = true
is_idle (Duty.Ask (AskDuty.Leave s)) = true
is_idle (Duty.Ask (AskDuty.LeaveNoted s)) = true
is_idle (Duty.Send (SendDuty.ResetNoted s)) = true
is_idle (Duty.Ask (AskDuty.Announce s id)) = true
is_idle (Duty.Ask (AskDuty.Withdraw s id)) = true
is_idle (Duty.Ask (AskDuty.Dead s)) = true
is_idle Duty.End = true
is_idle _ = false

abbrev pub AreIdle : List Duty → Type 0
AreIdle ds = list_all is_idle ds ≡ true

tail_idle : (ds : List Duty) → AreIdle ds → AreIdle (tail_of ds)
tail_idle [] h = refl
tail_idle (d ∷ ds) h = (and_parts (is_idle d) (list_all is_idle ds) h).1

replaced_idle : (d : Duty) (ds : List Duty) → is_idle d ≡ true → AreIdle ds → AreIdle (replaced d ds)
replaced_idle d [] idle h = refl
replaced_idle d (e ∷ ds) idle h = and_from (is_idle d) (list_all is_idle ds) idle (and_parts (is_idle e) (list_all is_idle ds) h).1

left_over : (s : Side) (b : Bool) (ds : List Duty) → AreIdle ds → AreIdle ((if b then [] else Duty.Ask (AskDuty.Leave s) ∷ []) ++ ds)
left_over s true ds h = h
left_over s false ds h = h

-- ---- what happens by itself

-- the path's join, or a line of the script
abbrev pub is_own : Event → Bool
is_own (Event.Joins tick) = true
is_own (Event.Takes line) = true
is_own _ = false

abbrev pub IsOwn : Option Event → Type 0
IsOwn o = IfSome o (λ event. is_own event ≡ true)

earlier_own : (x y : Option Event) → IsOwn x → IsOwn y → IsOwn (earlier x y)
earlier_own None y own_x own_y = own_y
earlier_own (Some x) None own_x own_y = own_x
earlier_own (Some x) (Some y) own_x own_y = if_so IsOwn (nat_le (tick_of x) (tick_of y)) (Some x) (Some y) own_x own_y

before_own : (until : ℕ) (o : Option Event) → IsOwn o → IsOwn (option_and_then (before until) o)
before_own until None own = tt
before_own until (Some event) own = if_so IsOwn (nat_lt (tick_of event) until) (Some event) None own tt

join_own : (state : EndPhase) (joined_at : Option ℕ) → IsOwn (next_join state joined_at)
join_own state None = tt
join_own state (Some tick) = if_so IsOwn (is_waiting_phase state) (Some (Event.Joins tick)) None refl tt

line_own : (lines : List LineLeft) → IsOwn (next_line lines)
line_own = elim [ [] ↦ tt | line ∷ lines ↦ refl ]

-- ---- what it is answered

-- as long as A's side isn't sure no join is begun
unsure_begin : (c : Control) → is_sure c.fall.mode ≡ false → keys_begun (Reply.Control (join_begin_reply c)) ≡ None
unsure_begin c unsure =
    ap (λ (b : Bool). keys_begun (Reply.Control (if b && is_none c.fall.failed then begin c else (if join_waits c then NotYet else Never c.fall.mode)))) unsure
    ∙ (elim (join_waits c) as (λ b. keys_begun (Reply.Control (if b then NotYet else Never c.fall.mode)) ≡ None) [ true ↦ refl | false ↦ refl ])

unsure_step : (six : SixBooks) (path : ℕ) (o : Option Event) → is_sure six.control_a.fall.mode ≡ false → IsOwn o → keys_begun (reply_of six (step_for path o)) ≡ None
unsure_step six path (Some (Event.Joins tick)) unsure own = unsure_begin six.control_a unsure
unsure_step six path _ unsure own = refl

-- ---- the path

module _ {C : Type 0} where
  pub record IsAsleep (p : PathState C) : Type 0 where
    pub a : IsShut p.a
    pub b : IsShut p.b
    pub none : p.link.under_way ≡ []
    pub idle : AreIdle p.agenda

  pub shut_at : (s : Side) (p : PathState C) → IsAsleep p → IsShut (end_at s p)
  shut_at = elim [ A ↦ λ p h. h.a | B ↦ λ p h. h.b ]

  agenda_asleep : (ds : List Duty) (p : PathState C) → AreIdle ds → IsAsleep p → IsAsleep (with_agenda ds p)
  agenda_asleep ds p idle h = record { a = h.a; b = h.b; none = h.none; idle = idle }

  goes_asleep : (s : Side) (e : PathEnd) (ds : List Duty) (p : PathState C) → IsShut e → AreIdle ds → IsAsleep p → IsAsleep (goes_on s e ds p)
  goes_asleep A e ds p shut idle h = record { a = shut; b = h.b; none = h.none; idle = idle }
  goes_asleep B e ds p shut idle h = record { a = h.a; b = shut; none = h.none; idle = idle }

  with_asleep : (s : Side) (e : PathEnd) (p : PathState C) → IsShut e → IsAsleep p → IsAsleep (with_end s e p)
  with_asleep A e p shut h = record { a = shut; b = h.b; none = h.none; idle = h.idle }
  with_asleep B e p shut h = record { a = h.a; b = shut; none = h.none; idle = h.idle }

  left_idle : (p : PathState C) → IsAsleep p → AreIdle (left p)
  left_idle p h = tail_idle p.agenda h.idle

  -- ---- what happens on it: its join, which isn't begun, and lines of its script

  line_asleep : (action : LineAction) (p : PathState C) → IsAsleep p → IsAsleep (after_line action p)
  line_asleep LineAction.Die p h = record {
    a = died_shut p.a h.a;
    b = died_shut p.b h.b;
    none = refl;
    idle = left_over A (is_dead p.a.tcp.state) (leaves_unless_dead B p.b ++ rest_of_turn) (left_over B (is_dead p.b.tcp.state) rest_of_turn refl);
  }
  line_asleep (LineAction.Prio s backup) p h =
      let shut = shut_at s p h in goes_asleep s (with_priority backup (end_at s p)) (emission s) p (record { closed = shut.closed; timer = shut.timer }) refl h
  line_asleep (LineAction.Announce s id) p h = record { a = h.a; b = h.b; none = h.none; idle = refl }
  line_asleep (LineAction.Withdraw s id) p h = record { a = h.a; b = h.b; none = h.none; idle = refl }

  -- the control book began no join
  join_asleep : (r : Reply) (dead living : List Duty) (p : PathState C) → keys_begun r ≡ None → AreIdle dead → AreIdle living → IsAsleep p → IsAsleep (join_begun r dead living p)
  join_asleep r dead living p none dead_idle living_idle h =
      elim (is_never r) as (λ b. IsAsleep (if b then goes_on A (never_joined r p.a) dead p else goes_on A (opened_by (keys_begun r) p.a) living p)) [
        | true ↦ goes_asleep A (never_joined r p.a) dead p (record { closed = refl; timer = refl }) dead_idle h
        | false ↦ goes_asleep A (opened_by (keys_begun r) p.a) living p (subst (λ keys. IsShut (opened_by keys p.a)) (sym none) h.a) living_idle h
      ]

  own_asleep : (k : Codec C) (r : Reply) (event : Event) (p : PathState C) → keys_begun r ≡ None → is_own event ≡ true → IsAsleep p → IsAsleep (happens k event r p)
  own_asleep k r (Event.Joins tick) p none own h =
      join_asleep r (leaves A) (emission A) (record (at_tick tick p) { joined_at = None }) none refl refl (record { a = h.a; b = h.b; none = h.none; idle = h.idle })
  own_asleep k r (Event.Takes line) p none own h =
      line_asleep line.action (record (at_tick line.tick p) { lines = tail_of p.lines }) (record { a = h.a; b = h.b; none = h.none; idle = h.idle })
  own_asleep k r (Event.Arrives due) p none own h = absurd (false≢true own)
  own_asleep k r (Event.Fires s tick) p none own h = absurd (false≢true own)

  -- the earliest is the join, or the next line
  next_is_own : (p : PathState C) → IsAsleep p
      → next_event p ≡ option_and_then (before p.until) (earlier (next_join p.a.tcp.state p.joined_at) (earlier (next_line p.lines) None))
  next_is_own p h =
      ap (λ flights. option_and_then (before p.until) (earlier (next_join p.a.tcp.state p.joined_at) (earlier (next_line p.lines) (earlier (next_copy (next_due flights))
      (earlier (next_fire A p.a.tcp.timing.timer) (next_fire B p.b.tcp.timing.timer)))))) h.none
      ∙ ap (λ timer. option_and_then (before p.until) (earlier (next_join p.a.tcp.state p.joined_at) (earlier (next_line p.lines) (earlier None (earlier (next_fire A timer) (next_fire B p.b.tcp.timing.timer)))))) h.a.timer
      ∙ ap (λ timer. option_and_then (before p.until) (earlier (next_join p.a.tcp.state p.joined_at) (earlier (next_line p.lines) (earlier None (earlier None (next_fire B timer)))))) h.b.timer

  pub next_own : (p : PathState C) → IsAsleep p → IsOwn (next_event p)
  next_own p h =
      subst IsOwn (sym (next_is_own p h))
      (before_own p.until (earlier (next_join p.a.tcp.state p.joined_at) (earlier (next_line p.lines) None))
      (earlier_own (next_join p.a.tcp.state p.joined_at) (earlier (next_line p.lines) None) (join_own p.a.tcp.state p.joined_at) (earlier_own (next_line p.lines) None (line_own p.lines) tt)))

  events_asleep : (k : Codec C) (r : Reply) (p : PathState C) → keys_begun r ≡ None → IsAsleep p → IsAsleep (happens_if k (next_event p) r p)
  events_asleep k r p none h = (elim (next_event p) as (λ o. IsOwn o → IsAsleep (happens_if k o r p))
      [ None ↦ λ own. agenda_asleep rest_of_turn p refl h | Some event ↦ λ own. own_asleep k r event p none own h ]) (next_own p h)

  -- ---- its duties

  answered_asleep : (k : Codec C) (d : Duty) (r : Reply) (p : PathState C) → keys_begun r ≡ None → IsAsleep p → is_idle d ≡ true → stands d p ≡ true → IsAsleep (answered k d r p)
  answered_asleep k (Duty.Ask AskDuty.JoinAgain) r p none h idle is = join_asleep r (replaced (Duty.Ask (AskDuty.Leave A)) p.agenda) (left p) p none (replaced_idle (Duty.Ask (AskDuty.Leave A)) p.agenda refl h.idle) (left_idle p h) h
  answered_asleep k (Duty.Step (StepDuty.Look s)) r p none h idle is = let shut = shut_at s p h in goes_asleep s (after_look r (end_at s p)) (left p) p (record { closed = shut.closed; timer = shut.timer }) (left_idle p h) h
  answered_asleep k (Duty.Ask (AskDuty.Window s)) r p none h idle is = let shut = shut_at s p h in goes_asleep s (after_ack_out r (end_at s p)) (left p) p (record { closed = shut.closed; timer = shut.timer }) (left_idle p h) h
  answered_asleep k (Duty.Send (SendDuty.Update s)) r p none h idle is = absurd (no _ _ (never_connected (end_at s p) (shut_at s p h)) is)
  answered_asleep k (Duty.Send (SendDuty.FastClose s)) r p none h idle is = absurd (no _ _ (never_connected (end_at s p) (shut_at s p h)) is)
  answered_asleep k (Duty.Send (SendDuty.Notice s)) r p none h idle is = absurd (no _ _ (never_connected (end_at s p) (shut_at s p h)) (and_parts (may_note (end_at s p)) _ is).0)
  answered_asleep k (Duty.Send (SendDuty.Syn s)) r p none h idle is = absurd (no _ _ (never_opens (end_at s p) (shut_at s p h)) is)
  answered_asleep k (Duty.Step (StepDuty.Data s)) r p none h idle is = absurd (no_data p.profile s (end_at s p) (first_unsent (end_at s p)) (shut_at s p h) is)
  answered_asleep k (Duty.Send (SendDuty.DataFin s)) r p none h idle is = absurd (no _ _ (never_finishes (end_at s p) (shut_at s p h)) is)
  answered_asleep k (Duty.Send (SendDuty.Fin s)) r p none h idle is = absurd (no _ _ (never_finishes (end_at s p) (shut_at s p h)) is)
  answered_asleep k (Duty.Silent (SilentDuty.Timer s)) r p none h idle is = absurd (false≢true is)
  answered_asleep k (Duty.Step StepDuty.Events) r p none h idle is = events_asleep k r p none h
  answered_asleep k (Duty.Ask (AskDuty.Leave s)) r p none h idle is = agenda_asleep (replaced (Duty.Ask (AskDuty.Dead s)) p.agenda) p (replaced_idle (Duty.Ask (AskDuty.Dead s)) p.agenda refl h.idle) h
  answered_asleep k (Duty.Ask (AskDuty.LeaveNoted s)) r p none h idle is =
      goes_asleep s (died (end_at s p)) (replaced (Duty.Ask (AskDuty.Dead s)) p.agenda) p (record { closed = refl; timer = refl })
      (replaced_idle (Duty.Ask (AskDuty.Dead s)) p.agenda refl h.idle) h
  answered_asleep k (Duty.Send (SendDuty.ResetNoted s)) r p none h idle is = absurd (no _ _ (ap not (shut_at s p h).closed) is)
  answered_asleep k (Duty.Ask (AskDuty.Announce s id)) r p none h idle is = agenda_asleep (left p) p (left_idle p h) h
  answered_asleep k (Duty.Ask (AskDuty.Withdraw s id)) r p none h idle is = agenda_asleep (left p) p (left_idle p h) h
  answered_asleep k (Duty.Ask (AskDuty.Dead s)) r p none h idle is = agenda_asleep (left p) p (left_idle p h) h
  answered_asleep k Duty.End r p none h idle is = agenda_asleep [] p refl h
  answered_asleep k _ r p none h idle is = absurd (false≢true idle)

  passed_asleep : (d : Duty) (p : PathState C) → IsAsleep p → is_idle d ≡ true → IsAsleep (passed d p)
  passed_asleep (Duty.Silent (SilentDuty.Timer s)) p h idle = with_asleep s (with_timer_settled p.clock (end_at s p)) p (timed_shut p.clock (end_at s p) (shut_at s p h)) h
  passed_asleep (Duty.Step (StepDuty.Heard s index)) p h idle = absurd (false≢true idle)
  passed_asleep (Duty.Silent (SilentDuty.Keep s)) p h idle = absurd (false≢true idle)
  passed_asleep (Duty.Ask (AskDuty.CheckFailed s)) p h idle = absurd (false≢true idle)
  passed_asleep (Duty.Silent (SilentDuty.PassFin s)) p h idle = absurd (false≢true idle)
  passed_asleep (Duty.Step (StepDuty.PlainAck s)) p h idle = absurd (false≢true idle)
  passed_asleep (Duty.Step (StepDuty.Unmapped s)) p h idle = absurd (false≢true idle)
  passed_asleep _ p h idle = h

  settled_asleep : (ds : List Duty) (p : PathState C) → AreIdle ds → IsAsleep p → IsAsleep (settled ds p)
  settled_asleep [] p idle h = agenda_asleep [] p refl h
  settled_asleep (d ∷ ds) p idle h =
      let parts = and_parts (is_idle d) (list_all is_idle ds) idle in
      (elim (stands d p) as (λ b. IsAsleep (settled ds (passed d p)) → IsAsleep (if b then with_agenda (d ∷ ds) p else settled ds (passed d p)))
      [ true ↦ λ rest. agenda_asleep (d ∷ ds) p idle h | false ↦ λ rest. rest ]) (settled_asleep ds (passed d p) parts.1 (passed_asleep d p h parts.0))

  -- a path stays asleep, whatever is replied, as long as no join is begun
  pub takes_asleep : (k : Codec C) (r : Reply) (p : PathState C) → keys_begun r ≡ None → IsSettled p → IsAsleep p → IsAsleep (takes k r p)
  takes_asleep k r p none settled_path h = (elim p.agenda as (λ ds. p.agenda ≡ ds → IsAsleep (settles_down (answers k ds r p))) [
    | [] ↦ λ is. settles p h
    | d ∷ ds ↦ λ is. settles (answered k d r p) (answered_asleep k d r p none h (and_parts (is_idle d) (list_all is_idle ds) (subst AreIdle is h.idle)).0 (subst (λ xs. FirstStands xs p) is settled_path))
  ]) refl
    where
      settles : (q : PathState C) → IsAsleep q → IsAsleep (settles_down q)
      settles q x = settled_asleep q.agenda q x.idle x

  pub begins_asleep : (p : PathState C) → IsAsleep p → IsAsleep (next_round p)
  begins_asleep p h =
      settled_asleep start_of_turn (with_agenda start_of_turn (record p { clock = p.until; until = p.until + 100 })) refl (record { a = h.a; b = h.b; none = h.none; idle = refl })

  -- from the opening on
  pub first_asleep : (start : PathStart) (lines : List ScriptLine) (tick : ℕ) → start.joined_at ≡ Some tick → IsAsleep (first_turn start lines)
  first_asleep start lines tick is = settled_asleep start_of_turn (with_agenda start_of_turn (waiting_path start lines)) refl (record {
    a = record { closed = ap (λ o. is_closed_to_segments (first_state o)) is; timer = refl };
    b = record { closed = refl; timer = refl };
    none = refl;
    idle = refl;
  })

  -- ---- what it is answered

  unsure_data : (k : Codec C) (six : SixBooks) (s : Side) (o : Option Record) (p : PathState C) → keys_begun (reply_of six (data_ask k s o p)) ≡ None
  unsure_data k six s None p = refl
  unsure_data k six s (Some r) p = refl

  unsure_duty : (k : Codec C) (six : SixBooks) (d : Duty) (p : PathState C) → is_sure six.control_a.fall.mode ≡ false → is_idle d ≡ true → IsAsleep p → keys_begun (reply_of six (ask_for k d p)) ≡ None
  unsure_duty k six (Duty.Ask AskDuty.JoinAgain) p unsure idle h = unsure_begin six.control_a unsure
  unsure_duty k six (Duty.Step (StepDuty.Look s)) p unsure idle h = refl
  unsure_duty k six (Duty.Ask (AskDuty.Window s)) p unsure idle h = refl
  unsure_duty k six (Duty.Send (SendDuty.Update s)) p unsure idle h = refl
  unsure_duty k six (Duty.Send (SendDuty.FastClose s)) p unsure idle h = refl
  unsure_duty k six (Duty.Send (SendDuty.Notice s)) p unsure idle h = refl
  unsure_duty k six (Duty.Send (SendDuty.Syn s)) p unsure idle h = refl
  unsure_duty k six (Duty.Step (StepDuty.Data s)) p unsure idle h = unsure_data k six s (first_unsent (end_at s p)) p
  unsure_duty k six (Duty.Send (SendDuty.DataFin s)) p unsure idle h = refl
  unsure_duty k six (Duty.Send (SendDuty.Fin s)) p unsure idle h = refl
  unsure_duty k six (Duty.Silent (SilentDuty.Timer s)) p unsure idle h = refl
  unsure_duty k six (Duty.Step StepDuty.Events) p unsure idle h = unsure_step six (path_of p) (next_event p) unsure (next_own p h)
  unsure_duty k six (Duty.Ask (AskDuty.Leave s)) p unsure idle h = refl
  unsure_duty k six (Duty.Ask (AskDuty.LeaveNoted s)) p unsure idle h = refl
  unsure_duty k six (Duty.Send (SendDuty.ResetNoted s)) p unsure idle h = refl
  unsure_duty k six (Duty.Ask (AskDuty.Announce s id)) p unsure idle h = refl
  unsure_duty k six (Duty.Ask (AskDuty.Withdraw s id)) p unsure idle h = refl
  unsure_duty k six (Duty.Ask (AskDuty.Dead s)) p unsure idle h = refl
  unsure_duty k six Duty.End p unsure idle h = refl
  unsure_duty k six _ p unsure idle h = absurd (false≢true idle)

  pub begins_nothing : (k : Codec C) (six : SixBooks) (ask : Ask) (p : PathState C) → is_sure six.control_a.fall.mode ≡ false → asks_of k p ≡ Some ask → IsAsleep p → keys_begun (reply_of six ask) ≡ None
  begins_nothing k six ask p unsure asks h = (elim p.agenda as (λ ds. asks_first k ds p ≡ Some ask → AreIdle ds → keys_begun (reply_of six ask) ≡ None) [
    | [] ↦ λ is idle. cc
    | d ∷ ds ↦ λ is idle. subst (λ x. keys_begun (reply_of six x) ≡ None) (same_Some (ask_for k d p) ask is) (unsure_duty k six d p unsure (and_parts (is_idle d) (list_all is_idle ds) idle).0 h)
  ]) asks h.idle
