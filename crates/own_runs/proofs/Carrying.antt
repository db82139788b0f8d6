-- The key that an end is to tell in a fast close is its peer's, at every moment of a run: its side's control book names who tells it only
-- where it keeps that key.
use Rattle.std.proofs.Common.{◌≡◌, refl, sym, ap, ◌∙◌, subst, ℕ, ◌+◌, ◌==◌, Bool, true, false, if◌then◌else◌, Option, Some, None, List, [], ◌∷◌, ⊎_elim}
use Rattle.std.specs.Prelude.{is_some}
use Rattle.std.specs.List.{slice_get}
use Rattle.std.specs.Option.{IfSome}
use Rattle.std.proofs.lemmas.Bool.{false≢true}
use Rattle.std.proofs.lemmas.Option.{same_Some}
use Rattle.actor_desk.specs.Books.{books_in}
use Rattle.actor_desk.specs.Desk.{SixBooks, after_ask, reply_of}
use Rattle.actor_desk.specs.declared.ask.Ask.{Ask}
use Rattle.actor_desk.specs.declared.ask.Reply.{Reply}
use Rattle.control_book.specs.Control.{Control, is_path, peer_or_zero}
use Rattle.control_book.specs.Replies as reply
use Rattle.control_book.specs.Steps as control
use Rattle.control_book.specs.declared.call.ControlCall.{ControlCall}
use Rattle.control_book.specs.declared.call.ControlReply.{ControlReply}
use Rattle.control_book.specs.declared.call.Notice.{Notice}
use Rattle.path_agenda.specs.declared.duty.AskDuty.{AskDuty}
use Rattle.path_agenda.specs.declared.duty.Duty.{Duty}
use Rattle.path_agenda.specs.declared.duty.SendDuty.{SendDuty}
use Rattle.path_agenda.specs.declared.duty.SilentDuty.{SilentDuty}
use Rattle.path_agenda.specs.declared.duty.StepDuty.{StepDuty}
use Rattle.path_agenda.specs.declared.heard.Heard.{Heard}
use Rattle.path_agenda.specs.declared.keys.KeyPair.{KeyPair}
use Rattle.path_core.specs.Arrival.{copy_heard, told_at}
use Rattle.path_core.specs.Breaking.{answered_break, died_unless_dead}
use Rattle.path_core.specs.DssIn.{counts, is_clash, with_data_fin, with_learned, with_skipped}
use Rattle.path_core.specs.Duties.{answered, ask_for, passed}
use Rattle.path_core.specs.End.{PathEnd, died}
use Rattle.path_core.specs.Events.{after_line, happens_if, next_event}
use Rattle.path_core.specs.Fallback.{breaks_by_ack}
use Rattle.path_core.specs.Handover.{sent_on}
use Rattle.path_core.specs.MpJoin.{join_begun, keys_begun, never_joined, opened_by}
use Rattle.path_core.specs.Notices.{Notices, after_notice}
use Rattle.path_core.specs.OptionsIn.{options_heard}
use Rattle.path_core.specs.Standing.{after_look, may_note}
use Rattle.path_core.specs.Start.{waiting_path}
use Rattle.path_core.specs.State.{PathState, at_tick, end_at, goes_on, left, with_end}
use Rattle.path_core.specs.Steps.{asks_first, asks_of, next_round, answers, settled, takes}
use Rattle.path_core.specs.Timer.{after_firing, template_fired, timer_fired}
use Rattle.path_core.specs.Treating.{answered_heard, answered_item, item_of, item_passed}
use Rattle.path_core.specs.Values.{Carried, values}
use Rattle.path_core.specs.declared.events.Event.{Event}
use Rattle.path_segments.specs.Heard.{HeardSegment}
use Rattle.path_segments.specs.Spelled.{PlainSegment}
use Rattle.path_store.specs.declared.lines.LineAction.{LineAction}
use Rattle.sides.specs.declared.side.Side.TheVariants.{A, B}
use Rattle.sides.specs.declared.side.Side.{Side}
use Rattle.stream_lanes.proofs.Lists.{in_map, in_set}
use Rattle.subflow_tcp.specs.Expiring.{is_sixth}
use Rattle.subflow_tcp.specs.States.{is_dead}
use Rattle.world_laws.proofs.Falls.FailedChecks.{infinite_came_so}
use Rattle.world_laws.proofs.Joins.TokensAgree.{WorldMet, opened_met, turn_met}
use Rattle.world_laws.proofs.Keys.Books.{call_keyed}
use Rattle.world_laws.proofs.Keys.StepsKeep.{carrier_in, carrier_told}
use Rattle.world_laws.proofs.Keys.ToldAreOwn.{BooksAre}
use Rattle.world_laws.proofs.Weaving.Journals.{books_after}
use Rattle.world_laws.proofs.Worlds.Opened.{opened_actors}
use Rattle.world_laws.proofs.Worlds.Turns.{turn_so}
use Rattle.world_laws.proofs.Writes.Paths.{passes_no_more, writes_no_more}
use Rattle.world_laws.proofs.Writes.Steps.{Lasts, begins_lasts, both_ends, settled_lasts, unwritten}
use Rattle.world_laws.specs.Actors.{Actor, ActorCrew, member_asks, member_next, member_takes}
use Rattle.world_laws.specs.Openings.{Start, opened_world, path_begins}
use Rattle.world_laws.specs.Worlds.{Turn, WorldState, after_turn, begins, crew_after, greatest, world_run}
use Rattle.world_laws.specs.Writes.{EndView, EndWrites, Only, OnlyAt, side_of, writes}
use Rattle.world_laws.specs.declared.member.Member.TheVariants.{App, Path}

-- ---- a control book

-- where who tells a fast close is named, the peer's key is kept
abbrev pub BookCarries : Control → Type 0
BookCarries c = is_some c.notices.carrier ≡ true → is_some c.keys.peer ≡ true

if_named : (b : Bool) (c d : Control) → d.notices.carrier ≡ c.notices.carrier → is_some (if b then d else c).notices.carrier ≡ true → BookCarries c → is_some c.keys.peer ≡ true
if_named true c d same is h = h (sym (ap is_some same) ∙ is)
if_named false c d same is h = h is

named_so : (c : Control) (call : ControlCall) → is_some (control.after c call).notices.carrier ≡ true → BookCarries c → is_some c.keys.peer ≡ true
named_so c (ControlCall.Look path) is h = (elim (reply.notice_on c path) as (λ n. is_some (control.after_notice n path c).notices.carrier ≡ true → is_some c.keys.peer ≡ true)
    [ Notice.Withdraw id ↦ λ is. h is | _ ↦ λ is. h is ]) is
named_so c (ControlCall.PeerKey key) is h = h is
named_so c (ControlCall.Keys own other) is h = if_named (own == c.keys.own) c _ refl is h
named_so c (ControlCall.Fell path event) is h = h is
named_so c (ControlCall.JoinBegin path) is h = if_named (reply.may_join c) c _ refl is h
named_so c (ControlCall.JoinHeard path token) is h = if_named _ c _ refl is h
named_so c (ControlCall.Live path backup) is h = h is
named_so c (ControlCall.Dead path) is h = h is
named_so c (ControlCall.Backup path on) is h = h is
named_so c (ControlCall.Rate path window rtt) is h = h is
named_so c (ControlCall.Announce id) is h = h is
named_so c (ControlCall.Withdraw id) is h = if_named (control.is_known id c) c _ refl is h
named_so c (ControlCall.Heard id address port hmac) is h = h is
named_so c (ControlCall.Echoed id) is h = if_named (control.is_known id c) c _ refl is h
named_so c (ControlCall.Removed id) is h = if_named (control.is_known id c) c _ refl is h
named_so c ControlCall.FastClose is h = by (is_some c.keys.peer) _ is
  where
    by : (b : Bool) (lowest : Option ℕ) → is_some (if b then lowest else None) ≡ true → b ≡ true
    by true lowest is = refl
    by false lowest is = is
named_so c (ControlCall.FastHeard key) is h = if_named (key == c.keys.own) c _ refl is h

call_carries : (c : Control) (call : ControlCall) → BookCarries c → BookCarries (control.after c call)
call_carries c call h is = call_keyed c call (named_so c call is h)

-- what it tells then is the peer's key
module _ (key : ℕ) where
  abbrev IsKey : Option ℕ → Type 0
  IsKey o = IfSome o (λ told. told ≡ key)

  address_told : (announced withdrawn : Option ℕ) → IsKey (carrier_in (reply.address_notice announced withdrawn))
  address_told (Some id) withdrawn = tt
  address_told None (Some id) = tt
  address_told None None = tt

  notice_told : (path told : ℕ) (resets : Bool) (carrier announced withdrawn : Option ℕ) → (is_some carrier ≡ true → told ≡ key)
      → IsKey (carrier_in (if resets then Notice.Reset else (if is_path carrier path then Notice.Carrier told else reply.address_notice announced withdrawn)))
  notice_told path told true carrier announced withdrawn named = tt
  notice_told path told false None announced withdrawn named = address_told announced withdrawn
  notice_told path told false (Some one) announced withdrawn named =
      by (one == path)
    where
      by : (b : Bool) → IsKey (carrier_in (if b then Notice.Carrier told else reply.address_notice announced withdrawn))
      by true = named refl
      by false = address_told announced withdrawn

  look_told : (path : ℕ) (c : Control) → BookCarries c → IsKey c.keys.peer → IsKey (carrier_in (reply.notice_on c path))
  look_told path c h is =
      notice_told path (peer_or_zero c.keys.peer) (reply.resets c path) c.notices.carrier (reply.announcement c path) _ (λ named. kept c.keys.peer (h named) is)
    where
      kept : (o : Option ℕ) → is_some o ≡ true → IsKey o → peer_or_zero o ≡ key
      kept None some is = absurd (false≢true some)
      kept (Some told) some is = is

-- ---- ends

abbrev EndKeeps : PathEnd → PathEnd → Type 0
EndKeeps e f = (key : ℕ) → IfSome e.notices.carrier (λ told. told ≡ key) → IfSome f.notices.carrier (λ told. told ≡ key)

unless_keeps : (e : PathEnd) → EndKeeps e (died_unless_dead e)
unless_keeps e key h = by (is_dead e.tcp.state)
  where
    by : (b : Bool) → IfSome (if b then e else died e).notices.carrier (λ told. told ≡ key)
    by true = h
    by false = tt

opened_keeps : (keys : Option KeyPair) (e : PathEnd) → EndKeeps e (opened_by keys e)
opened_keeps None e key h = h
opened_keeps (Some keys) e key h = h

-- ---- paths

record Kept (p q : PathState Carried) : Type 0 where
  a : EndKeeps p.a q.a
  b : EndKeeps p.b q.b

on : (s : Side) (e : PathEnd) (ds : List Duty) (p : PathState Carried) → EndKeeps (end_at s p) e → Kept p (goes_on s e ds p)
on A e ds p h = record { a = h; b = λ key z. z }
on B e ds p h = record { a = λ key z. z; b = h }

sent : (s : Side) (segment : PlainSegment) (e : PathEnd) (ds : List Duty) (p : PathState Carried) → EndKeeps (end_at s p) e → Kept p (sent_on values s segment e ds p)
sent A segment e ds p h = record { a = h; b = λ key z. z }
sent B segment e ds p h = record { a = λ key z. z; b = h }

same : (p : PathState Carried) → Kept p p
same p = record { a = λ key z. z; b = λ key z. z }

then_kept : (p q r : PathState Carried) → Kept p q → Kept q r → Kept p r
then_kept p q r x y = record { a = λ key z. y.a key (x.a key z); b = λ key z. y.b key (x.b key z) }

either : (b : Bool) (p q r : PathState Carried) → Kept p q → Kept p r → Kept p (if b then q else r)
either true p q r x y = x
either false p q r x y = y

-- a duty that doesn't write it
end_unwritten : (w : EndWrites) → w.carrier ≡ false → (e f : PathEnd) → Only w e f → EndKeeps e f
end_unwritten w never e f x key h =
    subst (λ (o : Option ℕ). IfSome o (λ told. told ≡ key)) (sym (unwritten w.carrier e.notices.carrier f.notices.carrier never (ap (λ (v : EndView). v.carrier) x.same))) h

only : (d : Duty) (p q : PathState Carried) → (writes d).own.carrier ≡ false → (writes d).other.carrier ≡ false → OnlyAt (side_of d) (writes d) p q → Kept p q
only d p q own other x =
    let both = both_ends EndKeeps (side_of d) (writes d) p q (end_unwritten (writes d).own own) (end_unwritten (writes d).other other) x in
    record { a = both.0; b = both.1 }

break_kept : (s : Side) (reason : ℕ) (r : Reply) (p : PathState Carried) → Kept p (answered_break values s reason r p)
break_kept s reason r p = either (end_at s p).treated.asked p _ _ (on s _ _ p (λ key z. z)) (sent s _ _ _ p (λ key z. tt))

join_kept : (r : Reply) (dead living : List Duty) (p : PathState Carried) → Kept p (join_begun r dead living p)
join_kept r dead living p = either _ p _ _ (on A (never_joined r p.a) dead p (λ key z. tt)) (on A (opened_by (keys_begun r) p.a) living p (opened_keeps (keys_begun r) p.a))

line_kept : (action : LineAction) (p : PathState Carried) → Kept p (after_line action p)
line_kept LineAction.Die p = record { a = unless_keeps p.a; b = unless_keeps p.b }
line_kept (LineAction.Prio s backup) p = on s _ _ p (λ key z. z)
line_kept (LineAction.Announce s id) p = record { a = λ key z. z; b = λ key z. z }
line_kept (LineAction.Withdraw s id) p = record { a = λ key z. z; b = λ key z. z }

heard_kept : (now : ℕ) (s : Side) (x : HeardSegment) (p : PathState Carried) → Kept p (told_at now s x p)
heard_kept now s x p = on s _ _ p (λ key z. z)

copy_kept : (s : Side) (o : Option HeardSegment) (p : PathState Carried) → Kept p (copy_heard s o p)
copy_kept s None p = record { a = λ key z. z; b = λ key z. z }
copy_kept s (Some x) p = heard_kept p.clock s (options_heard (end_at s p) x) p

fired_kept : (s : Side) (p : PathState Carried) → Kept p (timer_fired s p)
fired_kept s p = on s (after_firing p.clock (end_at s p)) (template_fired (is_sixth (end_at s p).tcp) s) p (λ key z. z)

event_kept : (o : Option Event) (r : Reply) (p : PathState Carried) → Kept p (happens_if values o r p)
event_kept None r p = record { a = λ key z. z; b = λ key z. z }
event_kept (Some (Event.Joins tick)) r p =
    let k = join_kept r _ _ (record (at_tick tick p) { joined_at = None }) in record { a = k.a; b = k.b }
event_kept (Some (Event.Takes line)) r p =
    let k = line_kept line.action (record (at_tick line.tick p) { lines = _ }) in record { a = k.a; b = k.b }
event_kept (Some (Event.Arrives due)) r p =
    let k = copy_kept due.to _ (record (at_tick due.tick p) { link = _ }) in record { a = k.a; b = k.b }
event_kept (Some (Event.Fires s tick)) r p =
    let k = fired_kept s (at_tick tick p) in record { a = k.a; b = k.b }

-- ---- replies

thing_kept : (s : Side) (item : Heard) (r : Reply) (p : PathState Carried) → Kept p (answered_heard values s item r p)
thing_kept s (Heard.DataAck next window) r p = on s _ _ p (λ key z. z)
thing_kept s (Heard.Mapping fin) r p = either (is_clash (end_at s p)) p _ _ (break_kept s 1 r p) (on s _ _ p (λ key z. z))
thing_kept s (Heard.DataFin place) r p = on s _ _ p (λ key z. z)
thing_kept s (Heard.InfiniteMapping place position) r p =
    on s _ _ p (infinite_came_so (EndKeeps (end_at s p)) place position r (end_at s p) (λ other key z. z))
thing_kept s (Heard.Keys own peer) r p = on s _ _ p (λ key z. z)
thing_kept s (Heard.Notice notice) r p = on s _ _ p (λ key z. z)
thing_kept s Heard.Fail r p = either _ p _ _ (on s _ _ p (λ key z. z)) (on s _ _ p (λ key z. z))
thing_kept s (Heard.FastClose key) r p = record { a = λ key z. z; b = λ key z. z }
thing_kept s _ r p = record { a = λ key z. z; b = λ key z. z }

item_kept : (s : Side) (o : Option Heard) (r : Reply) (p : PathState Carried) → Kept p (answered_item values s o r p)
item_kept s None r p = record { a = λ key z. z; b = λ key z. z }
item_kept s (Some item) r p = thing_kept s item r p

ask_kept : (d : AskDuty) (r : Reply) (p : PathState Carried) → Kept p (answered values (Duty.Ask d) r p)
ask_kept AskDuty.JoinAgain r p = join_kept r _ _ p
ask_kept (AskDuty.LeaveNoted s) r p = on s _ _ p (λ key z. tt)
ask_kept d r p = only (Duty.Ask d) p _ refl refl (writes_no_more values (Duty.Ask d) r p)

send_kept : (d : SendDuty) (r : Reply) (p : PathState Carried) → Kept p (answered values (Duty.Send d) r p)
send_kept (SendDuty.BreakReset s reason) r p = sent s _ _ _ p (λ key z. tt)
send_kept (SendDuty.Reset s) r p = sent s _ _ _ p (λ key z. tt)
send_kept (SendDuty.ResetNoted s) r p = sent s _ _ _ p (λ key z. tt)
send_kept d r p = only (Duty.Send d) p _ refl refl (writes_no_more values (Duty.Send d) r p)

-- ---- what is passed

end_of_two : (b : Bool) (e f g : PathEnd) → EndKeeps e f → EndKeeps e g → EndKeeps e (if b then f else g)
end_of_two true e f g x y = x
end_of_two false e f g x y = y

pass_kept : (s : Side) (o : Option Heard) (p : PathState Carried) → EndKeeps (end_at s p) (item_passed s o (end_at s p))
pass_kept s None p = λ key z. z
pass_kept s (Some (Heard.Mapping fin)) p = end_of_two (counts (end_at s p)) (end_at s p) (with_learned (end_at s p)) (with_skipped (end_at s p)) (λ key z. z) (λ key z. z)
pass_kept s (Some (Heard.DataFin place)) p = end_of_two (counts (end_at s p)) (end_at s p) (with_data_fin place (end_at s p)) (end_at s p) (λ key z. z) (λ key z. z)
pass_kept s (Some _) p = λ key z. z

ends : (s : Side) (e : PathEnd) (p : PathState Carried) → EndKeeps (end_at s p) e → Kept p (with_end s e p)
ends A e p h = record { a = h; b = λ key z. z }
ends B e p h = record { a = λ key z. z; b = h }

passed_step : (d : StepDuty) (p : PathState Carried) → Kept p (passed (Duty.Step d) p)
passed_step (StepDuty.Heard s index) p = ends s _ p (pass_kept s (item_of index (end_at s p)) p)
passed_step (StepDuty.PlainAck s) p = ends s _ p (λ key z. z)
passed_step (StepDuty.Unmapped s) p = ends s _ p (λ key z. z)
passed_step _ p = record { a = λ key z. z; b = λ key z. z }

passed_ask : (d : AskDuty) (p : PathState Carried) → Kept p (passed (Duty.Ask d) p)
passed_ask (AskDuty.CheckFailed s) p = only (Duty.Ask (AskDuty.CheckFailed s)) p _ refl refl (passes_no_more (Duty.Ask (AskDuty.CheckFailed s)) p)
passed_ask _ p = record { a = λ key z. z; b = λ key z. z }

passed_silent : (d : SilentDuty) (p : PathState Carried) → Kept p (passed (Duty.Silent d) p)
passed_silent d p = only (Duty.Silent d) p _ (none d) refl (passes_no_more (Duty.Silent d) p)
  where
    none : (d : SilentDuty) → (writes (Duty.Silent d)).own.carrier ≡ false
    none (SilentDuty.Timer s) = refl
    none _ = refl

passed_kept : (d : Duty) (p : PathState Carried) → Kept p (passed d p)
passed_kept (Duty.Ask d) p = passed_ask d p
passed_kept (Duty.Step d) p = passed_step d p
passed_kept (Duty.Send d) p = record { a = λ key z. z; b = λ key z. z }
passed_kept (Duty.Silent d) p = passed_silent d p
passed_kept Duty.End p = record { a = λ key z. z; b = λ key z. z }

lasts : Lasts Kept
lasts = record {
  agenda = λ ds p. record { a = λ key z. z; b = λ key z. z };
  chains = λ p q r x y. then_kept p q r x y;
  passes = λ d p. passed_kept d p;
}

next_kept : (p : PathState Carried) → Kept p (next_round p)
next_kept p = let k = begins_lasts Kept lasts (record p { clock = p.until; until = p.until + 100 }) in record { a = k.a; b = k.b }

-- ---- with the keys that were drawn

module _ (key_a key_b : ℕ) where
  abbrev peers_key : Side → ℕ
  peers_key A = key_b
  peers_key B = key_a

  abbrev pub EndCarries : Side → PathEnd → Type 0
  EndCarries s e = IfSome e.notices.carrier (λ told. told ≡ peers_key s)

  abbrev pub PathCarries : PathState Carried → Type 0
  PathCarries p = EndCarries A p.a × EndCarries B p.b

  later : (p q : PathState Carried) → Kept p q → PathCarries p → PathCarries q
  later p q kept h = (kept.a key_b h.0, kept.b key_a h.1)

  -- what a book tells
  abbrev ReplyCarries : Ask → Reply → Type 0
  ReplyCarries (Ask.Control s (ControlCall.Look path)) r = IfSome (carrier_told r) (λ told. told ≡ peers_key s)
  ReplyCarries _ r = Unit {0}

  carried_at : (s : Side) (p : PathState Carried) → PathCarries p → EndCarries s (end_at s p)
  carried_at A p h = h.0
  carried_at B p h = h.1

  goes_carrying : (s : Side) (e : PathEnd) (ds : List Duty) (p : PathState Carried) → PathCarries p → EndCarries s e → PathCarries (goes_on s e ds p)
  goes_carrying A e ds p h is = (is, h.1)
  goes_carrying B e ds p h is = (h.0, is)

  look_carries : (s : Side) (r : Reply) (e : PathEnd) → IfSome (carrier_told r) (λ told. told ≡ peers_key s) → EndCarries s e → EndCarries s (after_look r e)
  look_carries s (Reply.Control (ControlReply.Standing mode standby sole notice)) e told was = by (is_dead e.tcp.state) notice told
    where
      if_may : (b : Bool) (n : Notices) → n.carrier ≡ e.notices.carrier → IfSome (if b then n else e.notices).carrier (λ told. told ≡ peers_key s)
      if_may true n same = subst (λ (o : Option ℕ). IfSome o (λ told. told ≡ peers_key s)) (sym same) was
      if_may false n same = was

      kept : (b : Bool) (key : ℕ) → key ≡ peers_key s → IfSome (if b then e.notices.carrier else Some key) (λ told. told ≡ peers_key s)
      kept true key is = was
      kept false key is = is

      by : (dead : Bool) (notice : Notice) → IfSome (carrier_in notice) (λ told. told ≡ peers_key s)
          → IfSome (if dead then e.notices else after_notice notice (may_note e) e.notices).carrier (λ told. told ≡ peers_key s)
      by true notice told = was
      by false Notice.Nothing told = was
      by false (Notice.Announce id) told = if_may (may_note e) _ refl
      by false (Notice.Withdraw id) told = was
      by false (Notice.Carrier key) told = kept e.notices.fast_closed key told
      by false Notice.Reset told = was
  look_carries s (Reply.Control ControlReply.Noted) e told was = was
  look_carries s _ e told was = was

  step_carries : (d : StepDuty) (r : Reply) (p : PathState Carried) → ReplyCarries (ask_for values (Duty.Step d) p) r → PathCarries p → PathCarries (answered values (Duty.Step d) r p)
  step_carries (StepDuty.Look s) r p told h = goes_carrying s (after_look r (end_at s p)) (left p) p h (look_carries s r (end_at s p) told (carried_at s p h))
  step_carries (StepDuty.Data s) r p told h = later p _ (only (Duty.Step (StepDuty.Data s)) p _ refl refl (writes_no_more values (Duty.Step (StepDuty.Data s)) r p)) h
  step_carries StepDuty.Events r p told h = later p _ (event_kept (next_event p) r p) h
  step_carries (StepDuty.Heard s index) r p told h = later p _ (item_kept s (item_of index (end_at s p)) r p) h
  step_carries (StepDuty.PlainAck s) r p told h = later p _ (either (breaks_by_ack p.profile (end_at s p)) p _ _ (break_kept s 6 r p) (on s _ _ p (λ key z. z))) h
  step_carries (StepDuty.Unmapped s) r p told h = later p _ (break_kept s 6 r p) h

  answered_carries : (d : Duty) (r : Reply) (p : PathState Carried) → ReplyCarries (ask_for values d p) r → PathCarries p → PathCarries (answered values d r p)
  answered_carries (Duty.Ask d) r p told h = later p _ (ask_kept d r p) h
  answered_carries (Duty.Step d) r p told h = step_carries d r p told h
  answered_carries (Duty.Send d) r p told h = later p _ (send_kept d r p) h
  answered_carries (Duty.Silent d) r p told h = later p _ (same p) h
  answered_carries Duty.End r p told h = later p _ (same p) h

  settled_carries : (p : PathState Carried) → PathCarries p → PathCarries (settled p.agenda p)
  settled_carries p h = later p (settled p.agenda p) (settled_lasts Kept lasts p.agenda p) h

  takes_carries : (r : Reply) (p : PathState Carried) → ((x : Ask) → asks_of values p ≡ Some x → ReplyCarries x r) → PathCarries p → PathCarries (takes values r p)
  takes_carries r p is h = by p.agenda refl
    where
      by : (ds : List Duty) → p.agenda ≡ ds → PathCarries (settled (answers values ds r p).agenda (answers values ds r p))
      by [] same = settled_carries p h
      by (d ∷ ds) same = settled_carries (answered values d r p) (answered_carries d r p (is (ask_for values d p) (ap (λ xs. asks_first values xs p) same)) h)

  -- ---- worlds

  pub record BooksCarry (six : SixBooks) : Type 0 where
    pub a : BookCarries six.control_a
    pub b : BookCarries six.control_b

  ask_carries : (x : Ask) (six : SixBooks) → BooksCarry six → BooksCarry (after_ask x six)
  ask_carries (Ask.Control A call) six h = record { a = call_carries six.control_a call h.a; b = h.b }
  ask_carries (Ask.Control B call) six h = record { a = h.a; b = call_carries six.control_b call h.b }
  ask_carries (Ask.Send A call) six h = record { a = h.a; b = h.b }
  ask_carries (Ask.Send B call) six h = record { a = h.a; b = h.b }
  ask_carries (Ask.Reassembly A call) six h = record { a = h.a; b = h.b }
  ask_carries (Ask.Reassembly B call) six h = record { a = h.a; b = h.b }
  ask_carries (Ask.Local step) six h = h

  reply_carries : (x : Ask) (six : SixBooks) → BooksCarry six → BooksAre key_a key_b true six → ReplyCarries x (reply_of six x)
  reply_carries (Ask.Control A (ControlCall.Look path)) six h is = look_told key_b path six.control_a h.a is.a.peer_is
  reply_carries (Ask.Control B (ControlCall.Look path)) six h is = look_told key_a path six.control_b h.b is.b.peer_is
  reply_carries _ six h is = tt

  abbrev pub MemberCarries : Actor Carried → Type 0
  MemberCarries (App a) = Unit {0}
  MemberCarries (Path p) = PathCarries p

  pub record WorldCarries (w : WorldState Carried) : Type 0 where
    pub met : WorldMet key_a key_b w
    pub books : BooksCarry (books_in w.books)
    pub crew : (actor : ℕ) (c : ActorCrew Carried) → slice_get w.crew actor ≡ Some c → MemberCarries c.member

  takes_member : (r : Reply) (x : Ask) (m : Actor Carried) → member_asks values m ≡ Some x → ReplyCarries x r → MemberCarries m → MemberCarries (member_takes values r m)
  takes_member r x (App a) asks told h = tt
  takes_member r x (Path p) asks told h = takes_carries r p (λ y is. subst (λ (z : Ask). ReplyCarries z r) (same_Some x y (sym asks ∙ is)) told) h

  next_member : (m : Actor Carried) → MemberCarries m → MemberCarries (member_next m)
  next_member (App a) h = tt
  next_member (Path p) h = later p (next_round p) (next_kept p) h

  turn_carries : (turn : Turn) (w : WorldState Carried) → WorldCarries w → WorldCarries (after_turn values turn w)
  turn_carries turn w h =
      turn_so values (λ v. WorldMet key_a key_b v → WorldCarries v) turn w (λ met. h)
      (λ actor c x there is met.
      let six = books_in w.books in
      record {
        met = met;
        books = subst BooksCarry (sym (books_after x c.pass w.books)) (ask_carries x six h.books);
        crew = λ i d at.
            ⊎_elim
            (λ here. subst (λ (y : ActorCrew Carried). MemberCarries y.member) here.1
            (takes_member (reply_of six x) x c.member is (reply_carries x six h.books h.met.keys.books) (h.crew actor c there)))
            (λ other. h.crew i d other.1)
            (in_set w.crew actor (crew_after values x w.books c) i d at);
      })
      (λ over met. record {
        met = met;
        books = h.books;
        crew = λ i d at.
            let found = in_map (begins (greatest 0 w.crew)) w.crew i d at in
            subst (λ (y : ActorCrew Carried). MemberCarries y.member) found.2 (next_member found.0.member (h.crew i found.0 found.1));
      })
      (turn_met key_a key_b turn w h.met)

  run_carries : (turns : List Turn) (w : WorldState Carried) → WorldCarries w → WorldCarries (world_run values turns w)
  run_carries [] w h = h
  run_carries (turn ∷ turns) w h = run_carries turns (after_turn values turn w) (turn_carries turn w h)

opened_carries : (start : Start) → WorldCarries start.key_a start.key_b (opened_world start)
opened_carries start = record {
  met = opened_met start;
  books = record { a = λ is. absurd (false≢true is); b = λ is. absurd (false≢true is) };
  crew = opened_actors (λ actor c. MemberCarries start.key_a start.key_b c.member) start tt tt
      (λ number plan there.
      later start.key_a start.key_b (waiting_path (path_begins start number plan) start.lines) _
      (begins_lasts Kept lasts (waiting_path (path_begins start number plan) start.lines)) (tt, tt));
}

pub always_carry : (start : Start) (turns : List Turn) → WorldCarries start.key_a start.key_b (world_run values turns (opened_world start))
always_carry start turns = run_carries start.key_a start.key_b turns (opened_world start) (opened_carries start)
