-- On a path that joins A asks for no byte of its stream before it may send a DSS there.
use Rattle.world_laws.proofs.Words.{◌≡◌, refl, sym, ◌∙◌, ap, subst, ℕ, zero, suc, ◌+◌, ◌&&◌, ◌||◌, ◌==◌, not, nat_lt, nat_le, Bool, true, false, if◌then◌else◌}
use Rattle.world_laws.proofs.Words.{Option, Some, None, List, [], ◌∷◌, ◌++◌, arith, is_some, and_parts, both_ways, false≢true, same_Some, list_any, FallEvent}
use Rattle.world_laws.proofs.Words.{fall_step, Pass, token_of, Side, A, B, ControlCall, ControlReply, sole_path, with_phase, Control, Opening, Record}
use Rattle.world_laws.proofs.Words.{may_finish, is_at_limit, start_of_turn, Duty, SendDuty, StepDuty, AskDuty, SilentDuty, Ask, Reply, books_in, after_entry}
use Rattle.world_laws.proofs.Words.{SixBooks, control_of, reply_of, after_ask, app_ask, Codec, stands, ask_for, PathEnd, waiting_path, PathState, end_at}
use Rattle.world_laws.proofs.Words.{with_agenda, answers, asks_first, takes, FirstStands, IsSettled, data_stands, first_unsent, data_ask, payload_size, may_ask}
use Rattle.world_laws.proofs.Words.{may_send_data, keys_begun, is_joined, is_fall, Profile, in_map, Every, Always, PathPlan, Start, path_begins, opened_world}
use Rattle.world_laws.proofs.Words.{Turn, greatest, world_run, note_of, answer_to, asks_grant}
use Rattle.control_book.specs.Replies as control
use Rattle.control_book.specs.Steps as controlling
use Rattle.subflow_tcp.specs.Sizes.{room}
use Rattle.world_laws.specs.JoinsWait.{asks_for_a, WaitsSo, JoinsWait}
use Rattle.world_laws.proofs.Lanes.Applying.{any_more}
use Rattle.world_laws.proofs.Worlds.CastLifting.{Has, turns_have, each_actor, Stepwise}
use Rattle.world_laws.proofs.Joins.AwakeAfterBegun.{Awake, CallSo, So, takes_awake, begins_awake, more_awake}
use Rattle.world_laws.proofs.Falls.WhereASideStands.{row_falls, is_plain}
use Rattle.world_laws.proofs.Weaving.Journals.{books_after}
use Rattle.world_laws.proofs.Keys.Books.{call_joined}
use Rattle.world_laws.proofs.Keys.WhatWakes.{is_up}
use Rattle.world_laws.proofs.Worlds.Casts.{after_path, Walker, Cast, Every-put, world_of, walked, walks_on, new_walker, first_cast, first_fare, opened_is, walker_there, next_cast}
use Rattle.world_laws.proofs.Falls.ClearStays.{unclear_before, takes_clear, next_clear}
use Rattle.world_laws.proofs.Worlds.Settled.{settled_settled}
use Rattle.world_laws.proofs.Rounds.Frame.{takes_keeps, first_keeps}
use Rattle.world_laws.proofs.Rounds.GrantAtOneDuty.{MayNotAsk, ask_isn't, asks_none}
use Rattle.world_laws.proofs.Keys.ToldAreOwn.{FellBack, fell_stays}

-- ---- what a path asks

last_of : (b c d e : Bool) → (b && (c && (d && e))) ≡ true → e ≡ true
last_of b c d e is = (and_parts d e (and_parts c (d && e) (and_parts b (c && (d && e)) is).1).1).1

no_data : (clear plain joins : Bool) → clear ≡ false → plain ≡ false → joins ≡ true → (clear || (plain || (true && not joins))) ≡ true → ⊥
no_data false false true x y z is = false≢true is
no_data true plain joins x y z is = false≢true (sym x)
no_data false true joins x y z is = false≢true (sym y)
no_data false false false x y z is = false≢true z

never_asks : (c : Profile) (e : PathEnd) → is_joined c ≡ true → e.modes.clear ≡ false → e.modes.identity ≡ false → may_ask c A e ≡ true → ⊥
never_asks c e joins unclear plain is =
    no_data e.modes.clear e.modes.identity (is_joined c) unclear plain joins (last_of (may_finish e.tcp.state) (nat_le (payload_size c) (room e.tcp)) (not (is_at_limit e.tcp)) (may_send_data c A e) is)

-- ---- sides that joined

-- the side's book joined
abbrev pub HasJoined : SixBooks → Side → Type 0
HasJoined six s = (control_of s six).fall.joined ≡ true

-- a book that joined stays so
pub still_joined : (six : SixBooks) (x : Ask) (s : Side) → HasJoined six s → HasJoined (after_ask x six) s
still_joined six (Ask.Control A call) A is = call_joined six.control_a call is
still_joined six (Ask.Control A call) B is = is
still_joined six (Ask.Control B call) A is = is
still_joined six (Ask.Control B call) B is = call_joined six.control_b call is
still_joined six (Ask.Send A call) A is = is
still_joined six (Ask.Send A call) B is = is
still_joined six (Ask.Send B call) A is = is
still_joined six (Ask.Send B call) B is = is
still_joined six (Ask.Reassembly A call) A is = is
still_joined six (Ask.Reassembly A call) B is = is
still_joined six (Ask.Reassembly B call) A is = is
still_joined six (Ask.Reassembly B call) B is = is
still_joined six (Ask.Local step) s is = is

module _ {C : Type 0} (k : Codec C) where
  data_clear : (p : PathState C) (o : Option Record) → is_joined p.profile ≡ true → p.a.modes.clear ≡ false → p.a.modes.identity ≡ false → data_stands p.profile A p.a o ≡ true → asks_grant A (data_ask k A o p) ≡ false
  data_clear p (Some r) joins unclear plain is = refl
  data_clear p None joins unclear plain is = absurd (never_asks p.profile p.a joins unclear plain is)

  asks_nothing : (p : PathState C) (d : Duty) → MayNotAsk d → asks_grant A (ask_for k d p) ≡ false
  asks_nothing p d other = ask_isn't A (ask_for k d p) (asks_none k p d other)

  -- where A asks for bytes it may send a DSS on a path that joins
  pub grants_clear : (p : PathState C) (d : Duty) → stands d p ≡ true → is_joined p.profile ≡ true → p.a.modes.clear ≡ false → p.a.modes.identity ≡ false → asks_grant A (ask_for k d p) ≡ false
  grants_clear p (Duty.Step (StepDuty.Data A)) is joins unclear plain = data_clear p (first_unsent p.a) joins unclear plain is
  grants_clear p (Duty.Step (StepDuty.Data B)) is joins unclear plain = elim (first_unsent p.b) as (λ o. asks_grant A (data_ask k B o p) ≡ false)
      [ Some r ↦ refl | None ↦ refl ]
  grants_clear p (Duty.Ask AskDuty.JoinAgain) is joins unclear plain = asks_nothing p (Duty.Ask AskDuty.JoinAgain) tt
  grants_clear p (Duty.Send (SendDuty.Update s)) is joins unclear plain = asks_nothing p (Duty.Send (SendDuty.Update s)) tt
  grants_clear p (Duty.Silent (SilentDuty.Timer s)) is joins unclear plain = asks_nothing p (Duty.Silent (SilentDuty.Timer s)) tt
  grants_clear p d is joins unclear plain = asks_nothing p d tt

  -- ---- what the control books are asked

  begins_joined : (path : ℕ) (c : Control) → is_some (keys_begun (Reply.Control (control.join_begin_reply c))) ≡ true → (controlling.after c (ControlCall.JoinBegin path)).fall.joined ≡ true
  begins_joined path c = by (control.may_join c) (control.join_waits c)
    where
      by : (x y : Bool) → is_some (keys_begun (Reply.Control (if x then control.begin c else (if y then ControlReply.NotYet else ControlReply.Never c.fall.mode)))) ≡ true
          → (if x then controlling.after_join (record c { paths = with_phase path Opening c.paths }) else c).fall.joined ≡ true
      by true y some = refl
      by false true some = absurd (false≢true some)
      by false false some = absurd (false≢true some)

  heard_joined : (token : ℕ) (c : Control) → is_some (keys_begun (Reply.Control (control.join_heard_reply token c))) ≡ true → (controlling.after_join_heard token c).fall.joined ≡ true
  heard_joined token c = by (token == token_of c.keys.own) c.fall.confirmed (control.is_starting c.fall.mode || control.is_sure c.fall.mode)
    where
      by : (known confirmed begins : Bool) → is_some (keys_begun (Reply.Control (if not known then ControlReply.UnknownToken (token_of c.keys.own)
          else (if not confirmed then ControlReply.NotConfirmed else (if begins then control.begin c else ControlReply.Fallen c.fall.mode))))) ≡ true
          → (if known && confirmed && begins then controlling.after_join c else c).fall.joined ≡ true
      by false confirmed begins some = absurd (false≢true some)
      by true false begins some = absurd (false≢true some)
      by true true true some = refl
      by true true false some = absurd (false≢true some)

  -- a side that falls joined nothing, and fell back by its book
  falls_so : (path : ℕ) (event : FallEvent) (c : Control) → let row = fall_step c.fall path (sole_path c.paths path) event in
      is_fall (Reply.Control (ControlReply.Verdict row.1)) ≡ true → (row.0.joined ≡ true → ⊥) × (is_plain row.0 ≡ true)
  falls_so path event c fell =
      let row = row_falls path (sole_path c.paths path) event c.fall fell in ((λ is. both_ways _ row.1 is), row.0)

  call_so : (six : SixBooks) (s : Side) (call : ControlCall)
      → CallSo k (HasJoined (after_ask (Ask.Control s call) six)) (FellBack (after_ask (Ask.Control s call) six)) s call (reply_of six (Ask.Control s call))
  call_so six A (ControlCall.JoinBegin path) = begins_joined path six.control_a
  call_so six B (ControlCall.JoinBegin path) = begins_joined path six.control_b
  call_so six A (ControlCall.JoinHeard path token) = heard_joined token six.control_a
  call_so six B (ControlCall.JoinHeard path token) = heard_joined token six.control_b
  call_so six A (ControlCall.Fell path event) = falls_so path event six.control_a
  call_so six B (ControlCall.Fell path event) = falls_so path event six.control_b
  call_so six s _ = tt

  pub ask_so : (six : SixBooks) (x : Ask) → So k (HasJoined (after_ask x six)) (FellBack (after_ask x six)) x (reply_of six x)
  ask_so six (Ask.Control s call) = call_so six s call
  ask_so six _ = tt

  -- ---- every list of turns

  -- the first duty stands, and A asked for nothing as long as it may send no DSS
  pub record Waits (six : SixBooks) (x : Walker C) : Type 0 where
    settled_path : IsSettled x.path
    pub awake : Awake k (HasJoined six) (FellBack six) x.path
    none : is_joined x.path.profile ≡ true → x.path.a.modes.clear ≡ false → list_any asks_for_a x.at.list ≡ false

  abbrev pub AllWait : Cast C → Type 0
  AllWait t = Every (Waits (books_in t.books)) t.paths

  still_awake : (six : SixBooks) (ask : Ask) (p : PathState C) → Awake k (HasJoined six) (FellBack six) p → Awake k (HasJoined (after_ask ask six)) (FellBack (after_ask ask six)) p
  still_awake six ask p h =
      more_awake k (HasJoined six) (FellBack six) (HasJoined (after_ask ask six)) (FellBack (after_ask ask six)) p (still_joined six ask) (fell_stays six ask) h

  more_waits : (six : SixBooks) (ask : Ask) (x : Walker C) → Waits six x → Waits (after_ask ask six) x
  more_waits six ask x h = record { settled_path = h.settled_path; awake = still_awake six ask x.path h.awake; none = h.none }

  each_waits : (six : SixBooks) (ask : Ask) (xs : List (Walker C)) → Every (Waits six) xs → Every (Waits (after_ask ask six)) xs
  each_waits six ask xs h = record { each = λ i x at. more_waits six ask x (h.each i x at) }

  step_waits : (t : Cast C) (x : Walker C) (d : Duty) (ds : List Duty) → x.path.agenda ≡ d ∷ ds → Waits (books_in t.books) x
      → Waits (after_ask (ask_for k d x.path) (books_in t.books)) (walked k (ask_for k d x.path) t.books x)
  step_waits t x d ds is h = record { settled_path = settled_settled q.agenda q; awake = awake; none = none }
    where
      six : SixBooks
      six = books_in t.books

      ask : Ask
      ask = ask_for k d x.path

      q : PathState C
      q = answers k x.path.agenda (answer_to t.books ask) x.path

      awake : Awake k (HasJoined (after_ask ask six)) (FellBack (after_ask ask six)) (takes k (answer_to t.books ask) x.path)
      awake =
          takes_awake k (HasJoined (after_ask ask six)) (FellBack (after_ask ask six)) (answer_to t.books ask) x.path
          (λ y asks. subst (λ z. So k (HasJoined (after_ask ask six)) (FellBack (after_ask ask six)) z (reply_of six ask)) (same_Some ask y (ap (λ xs. asks_first k xs x.path) (sym is) ∙ asks)) (ask_so six ask))
          (still_awake six ask x.path h.awake)

      none : is_joined (walked k ask t.books x).path.profile ≡ true → (walked k ask t.books x).path.a.modes.clear ≡ false
          → list_any asks_for_a (x.at.list ++ note_of t.books x.at.pass ask ∷ []) ≡ false
      none joins unclear =
          let r = answer_to t.books ask in
          let joined : is_joined x.path.profile ≡ true = ap is_joined (sym (takes_keeps k r x.path).1) ∙ joins in
          let before = unclear_before x.path.a.modes.clear _ (takes_clear k r x.path).a.0 unclear in
          any_more asks_for_a x.at.list (note_of t.books x.at.pass ask)
          ∙ ap (λ b. b || asks_grant A ask) (h.none joined before)
          ∙ grants_clear x.path d (subst (λ xs. FirstStands xs x.path) is h.settled_path) joined before (h.awake.plain A joined)

  round_waits : (stamp : ℕ) (six : SixBooks) (x : Walker C) → Waits six x → Waits six (walks_on stamp x)
  round_waits stamp six x h = record {
    settled_path = settled_settled start_of_turn (with_agenda start_of_turn (record x.path { clock = x.path.until; until = x.path.until + 100 }));
    awake = begins_awake k (HasJoined six) (FellBack six) (record x.path { clock = x.path.until; until = x.path.until + 100 })
        (record { woken = h.awake.woken; known = h.awake.known; falls = h.awake.falls; plain = h.awake.plain });
    none = λ joins unclear.
        h.none (ap is_joined (sym (first_keeps (record x.path { clock = x.path.until; until = x.path.until + 100 })).1) ∙ joins)
        (unclear_before x.path.a.modes.clear _ (next_clear x.path).a.0 unclear);
  }

  first_waits : (six : SixBooks) (start : Start) (number : ℕ) (plan : PathPlan) → Waits six (new_walker start number plan)
  first_waits six start number plan = record {
    settled_path = settled_settled start_of_turn (with_agenda start_of_turn (waiting_path (path_begins start number plan) start.lines));
    awake = begins_awake k (HasJoined six) (FellBack six) (waiting_path (path_begins start number plan) start.lines) (record {
      woken = asleep number;
      known = λ t joins is. absurd (false≢true is);
      falls = λ t is. absurd (false≢true is);
      plain = plain;
    });
    none = λ joins unclear. refl;
  }
    where
      asleep : (number : ℕ) (t : Side) → nat_lt 0 number ≡ true → is_up (end_at t (waiting_path {C = C} (path_begins start number plan) start.lines)).tcp ≡ true → HasJoined six t
      asleep zero t joins up = absurd (false≢true joins)
      asleep (suc n) A joins up = absurd (false≢true up)
      asleep (suc n) B joins up = absurd (false≢true up)

      plain : (t : Side) → is_joined (waiting_path {C = C} (path_begins start number plan) start.lines).profile ≡ true
          → (end_at t (waiting_path {C = C} (path_begins start number plan) start.lines)).modes.identity ≡ false
      plain = elim [ A ↦ λ joins. refl | B ↦ λ joins. refl ]

  asked_wait : (t : Cast C) (x : Ask) (pass : Pass) (paths : List (Walker C)) → Every (Waits (books_in t.books)) paths → Every (Waits (books_in (after_entry x pass t.books))) paths
  asked_wait t x pass paths h = subst (λ (y : SixBooks). Every (Waits y) paths) (sym (books_after x pass t.books)) (each_waits (books_in t.books) x paths h)

  pub wait_steps : (start : Start) → Stepwise k start AllWait
  wait_steps start = record {
    a = λ t f d ds is h. asked_wait t (app_ask d t.a) t.at_a.pass t.paths h;
    b = λ t f d ds is h. asked_wait t (app_ask d t.b) t.at_b.pass t.paths h;
    path = λ t f number x there d ds is h.
        let ask = ask_for k d x.path in
        let six = books_in t.books in
        let now = books_after ask x.at.pass t.books in
        subst (λ (y : SixBooks). Every (Waits y) (after_path k number x ask t).paths) (sym now)
        (Every-put number (walked k ask t.books x) (step_waits t x d ds is (h.each number x there)) (each_waits six ask t.paths h));
  }

  pub wait_next : (t : Cast C) → AllWait t → AllWait (next_cast t)
  wait_next t h = record {
    each = λ i y there. let found = in_map (walks_on (greatest 0 (world_of t).crew)) t.paths i y there in
        subst (Waits (books_in t.books)) found.2 (round_waits (greatest 0 (world_of t).crew) (books_in t.books) found.0 (h.each i found.0 found.1));
  }

  pub wait_first : (start : Start) → AllWait (first_cast start)
  wait_first start = record {
    each = λ i x there. let found = walker_there start 0 i i start.paths x (omega arith) there in
        subst (Waits (books_in (first_cast {C = C} start).books)) (sym found.2) (first_waits (books_in (first_cast {C = C} start).books) start i found.0);
  }

  all_wait : (start : Start) (turns : List Turn) → Has start AllWait (world_run k turns (opened_world start))
  all_wait start turns =
      turns_have k start AllWait (wait_steps start) (λ t f h. wait_next t h) turns (opened_world start)
      (record { cast = first_cast start; is = opened_is start; fare = first_fare start; holds = wait_first start })

  pub joins_wait : Always k (λ start w. JoinsWait w)
  joins_wait start turns =
      let h = all_wait start turns in
      subst JoinsWait (sym h.is) (record { each = each_actor (λ actor c. WaitsSo c.list c.member) h.cast tt tt (λ number x there. (h.holds.each number x there).none) })
