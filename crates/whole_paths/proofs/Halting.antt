-- A side that halts at the edge of its peer's window does so until the window opens or more is heard.
use Rattle.std.proofs.Common.{◌≡◌, refl, sym, subst, ap, ◌∙◌, ◌⊎◌, inl, inr, ⊎_elim, ℕ, zero, suc, ◌+◌, ◌-◌, ◌<◌, ◌≤◌, ◌==◌, ◌&&◌, ◌||◌, arith, max, min, Bool, true, false, true≢false, if◌then◌else◌, Ok, Err, Result, Option, Some, None, List, [], ◌∷◌, ◌++◌, drop, le_refl, length, length-append, map, set, take, replicate}
use Rattle.std.specs.List.{slice_get}
use Rattle.std.proofs.Math.Nat.{le-max_right}
use Rattle.std.proofs.lemmas.Bool.{and_parts, cases_eq, cases_lt, eqb-true}
use Rattle.std.proofs.lemmas.Option.{same_Some}
use Rattle.std.proofs.lemmas.List.{length-drop, length-take}
use Rattle.sides.specs.declared.side.Side.{Side}
use Rattle.sides.specs.declared.side.Side.TheVariants.{A, B}
use Rattle.send_book.specs.declared.call.SendCall.{SendCall}
use Rattle.send_book.specs.declared.call.SendCall.TheVariants as calls
use Rattle.send_book.specs.declared.call.SendReply.TheVariants as send_replies
use Rattle.send_book.specs.declared.call.Span.{Span}
use Rattle.send_book.specs.declared.call.Why.{Why}
use Rattle.send_book.specs.declared.mark.ByteMark.{ByteMark}
use Rattle.send_book.specs.declared.mark.ByteMark.TheVariants.{Acked, Free}
use Rattle.send_book.specs.Marks.{returned}
use Rattle.send_book.specs.State.{Sending, acked_len, new_sending}
use Rattle.send_book.specs.Steps.{after_call, bytes_taken, decision, fin_after, given_by, is_future, is_gathered, reply_by}
use Rattle.send_book.specs.Tried.{no_paths}
use Rattle.reassembly_book.specs.declared.call.ReassemblyCall.{ReassemblyCall}
use Rattle.control_book.specs.declared.call.ControlCall.{ControlCall}
use Rattle.send_book.proofs.Decisions.{MayTake, decision-MayTake}
use Rattle.stream_lanes.specs.Marks.{AreAcked, tried}
use Rattle.stream_lanes.proofs.Lists.{set_other, set_same}
use Rattle.stream_lanes.proofs.MarkLists.{AreAcked-acked, AreAcked-count, AreAcked-returned, AreAcked-written, tried-acked, tried-returned, tried-written}
use Rattle.actor_desk.specs.Books.{books_in}
use Rattle.actor_desk.specs.Desk.{SixBooks, after_ask, reply_of, send_of}
use Rattle.actor_desk.specs.declared.ask.Ask.{Ask}
use Rattle.actor_desk.specs.declared.ask.Ask.TheVariants as asks
use Rattle.actor_desk.specs.declared.ask.LocalStep.{LocalStep}
use Rattle.actor_desk.specs.declared.ask.Reply.{Reply}
use Rattle.actor_desk.specs.declared.ask.Reply.TheVariants as replies
use Rattle.stream_apps.specs.declared.duty.AppDuty.{AppDuty}
use Rattle.stream_apps.specs.declared.duty.AppDuty.TheVariants as app_duties
use Rattle.stream_apps.specs.Apps.{AppState}
use Rattle.stream_apps.specs.AppSteps.{offered, app_ask, app_asks_first, app_asks_of}
use Rattle.path_agenda.specs.declared.duty.Duty.{Duty}
use Rattle.path_agenda.specs.declared.duty.Duty.TheVariants as duties
use Rattle.path_agenda.specs.declared.duty.AskDuty.TheVariants as ask_duties
use Rattle.path_agenda.specs.declared.duty.StepDuty.TheVariants as step_duties
use Rattle.path_agenda.specs.declared.heard.Heard.{Heard}
use Rattle.path_agenda.specs.declared.heard.Heard.TheVariants as says
use Rattle.path_core.specs.DataFin.{acked_in, is_shut}
use Rattle.path_core.specs.DssIn.{is_clash, with_acked}
use Rattle.path_core.specs.Duties.{answered, ask_for}
use Rattle.path_core.specs.End.{PathEnd}
use Rattle.path_core.specs.Fallback.{fail_ask, may_go_infinite, plain_ack_in, plain_next, plainly_acked, with_plain_acked}
use Rattle.path_core.specs.Sending.{Sending as OwnStream}
use Rattle.path_core.specs.State.{PathState, end_at, path_of, with_agenda}
use Rattle.path_core.specs.Steps.{asks_of, next_round, takes}
use Rattle.path_core.specs.Treating.{answered_item, item_ask, item_of}
use Rattle.path_core.specs.Values.{Carried, values}
use Rattle.world_laws.specs.declared.member.Member.TheVariants.{App, Path}
use Rattle.world_laws.specs.Actors.{Actor, ActorCrew, member_asks, member_next, member_takes}
use Rattle.world_laws.specs.Asking.{May, asking, may}
use Rattle.world_laws.specs.Openings.{PathPlan, Start, opened_world}
use Rattle.world_laws.specs.RoundDone.{reached}
use Rattle.world_laws.specs.RoundEnd.{asks_grant}
use Rattle.world_laws.specs.RoundNumbers.{is_standby}
use Rattle.world_laws.specs.StampedBooks.{answer_to}
use Rattle.world_laws.specs.Worlds.{WorldState, Turn, after_turn, asked, begins, crew_after, greatest}
use Rattle.world_laws.proofs.Weaving.Journals.{books_after}
use Rattle.world_laws.proofs.Worlds.CastLifting.{Has, each_actor}
use Rattle.world_laws.proofs.Worlds.Turns.{turn_so}
use Rattle.world_laws.proofs.Writes.Asks.{asks_no_more}
use Rattle.whole_paths.specs.Acknowledged.{AllIsAcknowledged}
use Rattle.whole_paths.specs.Halted.{HaltGoesOn, HaltsGoOn, IsHalted, WhoHaltsGoesOnHalting}
use Rattle.whole_paths.specs.Halted.{HaltGoesOn as goes}
use Rattle.whole_paths.specs.Mild.{IsMildStart}
use Rattle.whole_paths.specs.Waits.{IsNews}
use Rattle.whole_paths.proofs.Agendas.{own_end}
use Rattle.whole_paths.proofs.Exchanges.{OfPaths}
use Rattle.whole_paths.proofs.OnePath.{Alone, always_alone, first_acked, own_grant, own_standby, send_after, send_replied}
use Rattle.whole_paths.proofs.OnlyBooks.{IsOf, Refusal, refusal}
use Rattle.whole_paths.proofs.OnlyBooks.Refusal.{by_window, by_standby, by_stop, by_spent}
use Rattle.whole_paths.proofs.OpenPieces.{AgreesWith, EndsAgreeWith, ends_agree}
use Rattle.whole_paths.proofs.Paying.{settled_far}
use Rattle.whole_paths.proofs.Refusals.{AtGrant, at_grant, takes_told}
use Rattle.whole_paths.proofs.Refusals.AtGrant.{asks_none_of_it, asks_bytes}
use Rattle.whole_paths.proofs.RoundBegins.{next_rests}
use Rattle.whole_paths.proofs.Standing.{MemberServes, Serves, duty_serves, opened_serves, run_serves}
use Rattle.whole_paths.proofs.Unstopped.{mild_paths_are_never_stopped}

-- ---- a book

-- the first bytes are acknowledged and no others, some aren't, and path 0 tried none of these
record Halts (b : Sending) : Type 0 where
  first : AreAcked (acked_len b.marks) b.marks
  left : acked_len b.marks < length b.written
  untried : AllIsAcknowledged 0 b

either_halts : (c : Bool) (b d : Sending) → Halts b → Halts d → Halts (if c then b else d)
either_halts true b d x y = x
either_halts false b d x y = y

less_tried : (o p : Option ByteMark) → (tried 0 o ≡ true → tried 0 p ≡ true) → tried 0 p ≡ false → tried 0 o ≡ false
less_tried o p less none = (elim (tried 0 o) as (λ c. tried 0 o ≡ c → c ≡ false) [ true ↦ λ is. absurd (true≢false (sym (less is) ∙ none)) | false ↦ λ is. refl ]) refl

-- no more is acknowledged or tried
same_halts : (b d : Sending) → length b.written ≤ length d.written → AreAcked (acked_len b.marks) d.marks → ((place : ℕ) → tried 0 (slice_get d.marks place) ≡ true → tried 0 (slice_get b.marks place) ≡ true) → Halts b → Halts d
same_halts b d more are less h =
    let count = AreAcked-count (acked_len b.marks) d.marks are in
    let left = h.left in
    record { first = subst (λ n. AreAcked n d.marks) (sym count) are; left = omega (arith, count, left, more); untried = λ place. less_tried (slice_get d.marks place) (slice_get b.marks place) (less place) (h.untried place) }

-- a call that neither asks for bytes nor acknowledges some
abbrev IsQuiet : SendCall → Type 0
IsQuiet (calls.Grant asker max standby) = ⊥
IsQuiet (calls.AckIn next window) = ⊥
IsQuiet _ = Unit {0}

halts_call : (b : Sending) (call : SendCall) → IsQuiet call → Halts b → Halts (after_call b call)
halts_call b (calls.Write bytes) quiet h =
    either_halts (b.closed || b.aborted) b _ h (same_halts b (record b { written = b.written ++ take (bytes_taken bytes b) bytes; marks = b.marks ++ replicate (bytes_taken bytes b) (Free no_paths) })
    (omega (arith, length-append b.written (take (bytes_taken bytes b) bytes))) (AreAcked-written (acked_len b.marks) (bytes_taken bytes b) b.marks h.first) (λ place. tried-written 0 place (bytes_taken bytes b) b.marks) h)
halts_call b calls.Close quiet h = either_halts b.aborted b _ h (record { first = h.first; left = h.left; untried = h.untried })
halts_call b (calls.Return asker) quiet h =
    same_halts b (record b { marks = map (returned asker) b.marks }) (le_refl (length b.written)) (AreAcked-returned asker (acked_len b.marks) b.marks h.first) (λ place. tried-returned asker 0 place b.marks) h
halts_call b calls.GoIdentity quiet h = record { first = h.first; left = h.left; untried = h.untried }
halts_call b (calls.GoInfinite asker) quiet h = either_halts (is_gathered asker b) _ b (record { first = h.first; left = h.left; untried = h.untried }) h
halts_call b calls.Abort quiet h = record { first = h.first; left = h.left; untried = h.untried }
halts_call b (calls.Grant asker most standby) quiet h = absurd quiet
halts_call b (calls.AckIn next window) quiet h = absurd quiet

-- an acknowledgement of no more
halts_ack : (b : Sending) (next window : ℕ) → next ≤ acked_len b.marks → Halts b → Halts (after_call b (calls.AckIn next window))
halts_ack b next window low h =
    let c = min next (length b.marks) in
    either_halts (is_future next b) b _ h (same_halts b (record b { marks = replicate c Acked ++ drop next b.marks; edge = max b.edge (next + window); fin = fin_after next b }) (le_refl (length b.written))
    (AreAcked-acked (acked_len b.marks) next c (acked_len b.marks) b.marks refl (omega (arith, low)) h.first) (λ place. tried-acked 0 place next c b.marks refl) h)

-- what a step of another book, or of none of these calls, leaves
data Step (six after : SixBooks) (s : Side) (x : Ask) : Type 0 where
  halted : Halts (send_of s after) → Step six after s x
  acks : (next window : ℕ) → x ≡ asks.Send s (calls.AckIn next window) → is_future next (send_of s six) ≡ false → acked_len (send_of s six).marks < next → Step six after s x

one_call : (s : Side) (call : SendCall) (six : SixBooks) → asks_grant s (asks.Send s call) ≡ false → Halts (send_of s six) → Step six (after_ask (asks.Send s call) six) s (asks.Send s call)
one_call s (calls.Grant asker most standby) six quiet h = absurd (true≢false (sym (own_grant s asker most standby) ∙ quiet))
one_call s (calls.AckIn next window) six quiet h = ⊎_elim
    (λ more. by (is_future next (send_of s six)) refl more)
    (λ low. halted (subst Halts (sym (send_after s (calls.AckIn next window) six)) (halts_ack (send_of s six) next window (omega (arith, low)) h)))
    (cases_lt (acked_len (send_of s six).marks) next)
  where
    call : SendCall
    call = calls.AckIn next window

    by : (c : Bool) → is_future next (send_of s six) ≡ c → acked_len (send_of s six).marks < next → Step six (after_ask (asks.Send s call) six) s (asks.Send s call)
    by false is more = acks next window refl is more
    by true is more = halted (subst Halts (sym (send_after s call six ∙ unchanged (is_future next (send_of s six)) is _)) h)
      where
        unchanged : (c : Bool) → c ≡ true → (d : Sending) → (if c then send_of s six else d) ≡ send_of s six
        unchanged true is d = refl
        unchanged false is d = absurd (true≢false (sym is))
one_call s (calls.Write bytes) six quiet h = halted (subst Halts (sym (send_after s (calls.Write bytes) six)) (halts_call (send_of s six) (calls.Write bytes) tt h))
one_call s calls.Close six quiet h = halted (subst Halts (sym (send_after s calls.Close six)) (halts_call (send_of s six) calls.Close tt h))
one_call s (calls.Return asker) six quiet h = halted (subst Halts (sym (send_after s (calls.Return asker) six)) (halts_call (send_of s six) (calls.Return asker) tt h))
one_call s calls.GoIdentity six quiet h = halted (subst Halts (sym (send_after s calls.GoIdentity six)) (halts_call (send_of s six) calls.GoIdentity tt h))
one_call s (calls.GoInfinite asker) six quiet h = halted (subst Halts (sym (send_after s (calls.GoInfinite asker) six)) (halts_call (send_of s six) (calls.GoInfinite asker) tt h))
one_call s calls.Abort six quiet h = halted (subst Halts (sym (send_after s calls.Abort six)) (halts_call (send_of s six) calls.Abort tt h))

one_ask : (s : Side) (x : Ask) (six : SixBooks) → asks_grant s x ≡ false → Halts (send_of s six) → Step six (after_ask x six) s x
one_ask A (asks.Send A call) six quiet h = one_call A call six quiet h
one_ask B (asks.Send B call) six quiet h = one_call B call six quiet h
one_ask A (asks.Send B call) six quiet h = halted h
one_ask B (asks.Send A call) six quiet h = halted h
one_ask A (asks.Reassembly A call) six quiet h = halted h
one_ask A (asks.Reassembly B call) six quiet h = halted h
one_ask B (asks.Reassembly A call) six quiet h = halted h
one_ask B (asks.Reassembly B call) six quiet h = halted h
one_ask A (asks.Control A call) six quiet h = halted h
one_ask A (asks.Control B call) six quiet h = halted h
one_ask B (asks.Control A call) six quiet h = halted h
one_ask B (asks.Control B call) six quiet h = halted h
one_ask s (asks.Local step) six quiet h = halted h

side_halts : (s t : Side) (call : SendCall) → IsQuiet call → (six : SixBooks) → Halts (send_of s six) → Halts (send_of s (after_ask (asks.Send t call) six))
side_halts A A call quiet six h = halts_call six.send_a call quiet h
side_halts B B call quiet six h = halts_call six.send_b call quiet h
side_halts A B call quiet six h = h
side_halts B A call quiet six h = h

-- an application neither asks for bytes nor acknowledges some
app_halts : (s : Side) (d : AppDuty) (a : AppState) (six : SixBooks) → Halts (send_of s six) → Halts (send_of s (after_ask (app_ask d a) six))
app_halts s app_duties.AbortSend a six h = side_halts s a.side calls.Abort tt six h
app_halts s app_duties.Write a six h = side_halts s a.side (calls.Write (offered a)) tt six h
app_halts s app_duties.Close a six h = side_halts s a.side calls.Close tt six h
app_halts s app_duties.FastClose a six h = h
app_halts s app_duties.AbortReceive a six h = h
app_halts s app_duties.Read a six h = h
app_halts s app_duties.End a six h = h

-- ---- what a path hears

acks_none : (m : May) (x : Ask) (s : Side) (next window : ℕ) → m.ack_in ≡ false → may m x ≡ true → x ≡ asks.Send s (calls.AckIn next window) → {X : Type 0} → X
acks_none m x s next window none is same = absurd (true≢false (sym (subst (λ y. may m y ≡ true) same is) ∙ none))

acked_heard : (next : ℕ) (b : Sending) (v : OwnStream) → is_future next b ≡ false → next ≤ (acked_in next (replies.Send (if is_future next b then send_replies.AckFuture (length b.written)
    else send_replies.Acked (min next (length b.written) - acked_len b.marks) (fin_after next b))) v).heard
acked_heard next b v is = subst (λ c. next ≤ (acked_in next (replies.Send (if c then send_replies.AckFuture (length b.written) else send_replies.Acked (min next (length b.written) - acked_len b.marks) (fin_after next b))) v).heard)
    (sym is) (le-max_right v.heard next)

ack_reply_heard : (s : Side) (next window : ℕ) (six : SixBooks) (v : OwnStream) → is_future next (send_of s six) ≡ false → next ≤ (acked_in next (reply_of six (asks.Send s (calls.AckIn next window))) v).heard
ack_reply_heard A next window six v is = acked_heard next six.send_a v is
ack_reply_heard B next window six v is = acked_heard next six.send_b v is

module _ (six : SixBooks) (p : PathState Carried) (s : Side) (next window : ℕ) (fresh : is_future next (send_of s six) ≡ false) where
  -- a duty that tells an acknowledgement hears it, or acknowledges nothing
  abbrev Hears : Duty → Type 0
  Hears d = ask_for values d p ≡ asks.Send s (calls.AckIn next window) → (next ≡ 0) ⊎ (next ≤ (end_at s (answered values d (reply_of six (ask_for values d p)) p)).sending.heard)

  same_ack : (t : Side) (n w : ℕ) → asks.Send t (calls.AckIn n w) ≡ asks.Send s (calls.AckIn next window) → (t ≡ s) × (n ≡ next)
  same_ack t n w is = (cc, cc)

  item_hears : (t : Side) (o : Option Heard) → item_ask values t o p ≡ asks.Send s (calls.AckIn next window) → next ≤ (end_at s (answered_item values t o (reply_of six (item_ask values t o p)) p)).sending.heard
  item_hears t None is = cc
  item_hears t (Some (says.DataAck n w)) is =
      let same = same_ack t n w is in
      subst (λ u. next ≤ (end_at s (answered_item values u (Some (says.DataAck n w)) (reply_of six (asks.Send u (calls.AckIn n w))) p)).sending.heard) (sym same.0)
      (subst (λ m. next ≤ (end_at s (answered_item values s (Some (says.DataAck m w)) (reply_of six (asks.Send s (calls.AckIn m w))) p)).sending.heard) (sym same.1)
      (subst (λ (f : PathEnd). next ≤ f.sending.heard) (sym (own_end s (with_acked next (reply_of six (asks.Send s (calls.AckIn next w))) (end_at s p)) p.a p.b))
      (ack_reply_heard s next w six (end_at s p).sending fresh)))
  item_hears t (Some (says.Mapping fin)) is = absurd (unlike (is_clash (end_at t p)) (end_at t p).treated.asked t t _ _ _ is)
    where
      unlike : (c d : Bool) (u v : Side) (call : ReassemblyCall) (step : LocalStep) (told : ControlCall)
          → (if c then (if d then asks.Reassembly u call else asks.Local step) else asks.Control v told) ≡ asks.Send s (calls.AckIn next window) → ⊥
      unlike true true u v call step told is = cc
      unlike true false u v call step told is = cc
      unlike false d u v call step told is = cc
  item_hears t (Some says.Fail) is = absurd (unlike is)
    where
      by : (c : Bool) (n : ℕ) (told : ControlCall) → (if c then asks.Send t (calls.GoInfinite n) else asks.Control t told) ≡ asks.Send s (calls.AckIn next window) → ⊥
      by true n told is = cc
      by false n told is = cc

      unlike : fail_ask t p ≡ asks.Send s (calls.AckIn next window) → ⊥
      unlike is = by (may_go_infinite (end_at t p)) (path_of p) _ is
  item_hears t (Some _) is = cc

  plain_hears : (t : Side) (o : Option ℕ) (size : ℕ) (v : OwnStream) → plain_ack_in t o size ≡ asks.Send s (calls.AckIn next window) → (t ≡ s) × (next ≤ (plainly_acked o (reply_of six (plain_ack_in t o size)) v).heard)
  plain_hears t None size v is = cc
  plain_hears t (Some n) size v is =
      let same = same_ack t n size is in (
        same.0,
        subst (λ u. next ≤ (plainly_acked (Some n) (reply_of six (asks.Send u (calls.AckIn n size))) v).heard) (sym same.0)
            (subst (λ m. next ≤ (plainly_acked (Some m) (reply_of six (asks.Send s (calls.AckIn m size))) v).heard) (sym same.1) (ack_reply_heard s next size six v fresh)),
      )

  duty_hears : (d : Duty) → Hears d
  duty_hears (duties.Ask (ask_duties.SynHeard t)) = λ is. inl (sym (same_ack t 0 _ is).1)
  duty_hears (duties.Ask (ask_duties.SynAnswered t)) = λ is. inl (sym (same_ack t 0 _ is).1)
  duty_hears (duties.Ask (ask_duties.SubflowAck t)) = λ is.
      (let e : PathEnd = end_at t p in
      let r : Reply = reply_of six (plain_ack_in t (plain_next e) e.treated.window) in
      let found = plain_hears t (plain_next e) e.treated.window e.sending is in
      inr (subst (λ u. next ≤ (end_at u (answered values (duties.Ask (ask_duties.SubflowAck t)) r p)).sending.heard) found.0
      (subst (λ (f : PathEnd). next ≤ f.sending.heard) (sym (own_end t (with_plain_acked r e) p.a p.b)) found.1)))
  duty_hears (duties.Step (step_duties.Heard t index)) = λ is. inr (item_hears t (item_of index (end_at t p)) is)
  duty_hears d = λ is. acks_none (asking d) (ask_for values d p) s next window refl (asks_no_more values p d).kind is

-- ---- a path takes its turn

-- what is known of a path and of a book of its side
pub record Known (six : SixBooks) (s : Side) (p : PathState Carried) : Type 0 where
  pub number : path_of p ≡ 0
  pub of_one : IsOf (send_of s six) (send_of s six)
  pub unstopped : (send_of s six).aborted ≡ false
  pub serves : (t : Side) → (end_at t p).modes.standby ≡ false
  pub agrees : AgreesWith (send_of s six) (end_at s p).sending
  pub room : 29 ≤ p.profile.mss

-- bytes that are left are more than the end heard acknowledged
heard_few : (b : Sending) (v : OwnStream) → AgreesWith b v → acked_len b.marks < length b.written → v.heard ≤ acked_len b.marks
heard_few b v agrees left = by (b.closed && (length b.written == acked_len b.marks)) refl
  where
    by : (c : Bool) → (b.closed && (length b.written == acked_len b.marks)) ≡ c → v.heard ≤ acked_len b.marks
    by true is = (let same = eqb-true (length b.written) (acked_len b.marks) (and_parts b.closed (length b.written == acked_len b.marks) is).1 in absurd (omega (arith, same, left)))
    by false is = (let low : v.heard ≤ acked_len b.marks + 0 = subst (λ (c : Bool). v.heard ≤ acked_len b.marks + (if c then 1 else 0)) is agrees.heard in omega (arith, low))

pub piece_len : (n count : ℕ) (xs : List ℕ) (from : ℕ) → from + count ≤ length xs → n ≡ count → length (take n (drop from xs)) ≡ count
piece_len n count xs from within same = (let all = length-drop from xs in let few = length-take n (drop from xs) in omega (arith, all, few, within, same))

module _ (start : Start) (six : SixBooks) (ds : List Duty) (p : PathState Carried) (s : Side) (d : Duty) (k : Known six s (with_agenda (d ∷ ds) p)) (h : IsHalted six s (with_agenda (d ∷ ds) p)) where
  abbrev from : PathState Carried
  from = with_agenda (d ∷ ds) p

  abbrev x : Ask
  x = ask_for values d from

  abbrev r : Reply
  r = reply_of six x

  abbrev q : PathState Carried
  q = takes values r from

  abbrev b : Sending
  b = send_of s six

  abbrev Goes : Type 0
  Goes = HaltGoesOn (after_ask x six) s from q

  halts : Halts b
  halts = record { first = k.agrees.acked; left = h.left; untried = h.untried }

  still : (end_at s q).sending.shut ≡ true → Halts (send_of s (after_ask x six)) → Goes
  still shut on = goes.on (record { shut = shut; left = on.left; untried = on.untried })

  -- what the duty makes of the end, the path keeps in its turn
  nxt_up : (end_at s (answered values d r from)).tcp.send.nxt ≤ (end_at s q).tcp.send.nxt
  nxt_up = (settled_far values d ds r p s).subflow.pushed

  heard_up : (end_at s (answered values d r from)).sending.heard ≤ (end_at s q).sending.heard
  heard_up = (settled_far values d ds r p s).stream.heard

  -- no bytes are asked for
  quiet_goes : (end_at s q).sending.shut ≡ true → Step six (after_ask x six) s x → Goes
  quiet_goes shut (halted on) = still shut on
  quiet_goes shut (acks next window is fresh more) = ⊎_elim
      (λ zero_is. absurd (omega (arith, zero_is, more)))
      (λ heard. goes.news (IsNews.on_stream (let few = heard_few b (end_at s from).sending k.agrees h.left in let up = heard_up in omega (arith, few, more, heard, up))))
      (duty_hears six from s next window fresh d is)

  module _ (max : ℕ) (stands : Bool) (asked : x ≡ asks.Send s (calls.Grant 0 max stands)) (some : 1 ≤ max) where
    replied : r ≡ replies.Send (reply_by (decision 0 max stands b) b)
    replied = ap (reply_of six) asked ∙ send_replied s (calls.Grant 0 max stands) six

    booked : send_of s (after_ask x six) ≡ given_by 0 (decision 0 max stands b) b
    booked = ap (λ y. send_of s (after_ask y six)) asked ∙ send_after s (calls.Grant 0 max stands) six

    unstanding : stands ≡ false
    unstanding = sym (own_standby s 0 max stands) ∙ ap is_standby (sym asked) ∙ duty_serves values from k.serves d

    refused : (why : Why) → decision 0 max stands b ≡ Err why → (end_at s q).sending.shut ≡ is_shut why → Goes
    refused why decided shut = by (refusal b b k.of_one max stands why decided)
      where
        by : Refusal b b stands why → Goes
        by (by_window same all more) = still (shut ∙ ap is_shut same) (subst Halts (sym (booked ∙ ap (λ d. given_by 0 d b) decided)) halts)
        by (by_standby stood) = absurd (true≢false (sym stood ∙ unstanding))
        by (by_stop is) = absurd (true≢false (sym is ∙ k.unstopped))
        by (by_spent is_open all) = absurd (let many = first_acked values start (length b.written) b.marks all h.untried in let left = h.left in omega (arith, many, left))

    granted : (span : Span) → decision 0 max stands b ≡ Ok span
        → ((piece : List ℕ) → (end_at s (answered values d (replies.Send (send_replies.Granted span piece)) from)).tcp.send.nxt ≡ (end_at s from).tcp.send.nxt + length piece) → Goes
    granted span decided gives =
        let m : MayTake 0 max b span = decision-MayTake 0 max stands b span decided in
        let count = m.some some in
        let whole = m.whole in
        let within = m.within in
        let size = k.of_one.ones.whole in
        let long = piece_len (span.to - span.from) m.count b.written span.from (omega (arith, whole, within, size)) (omega (arith, whole)) in
        let got : (end_at s (answered values d r from)).tcp.send.nxt ≡ (end_at s from).tcp.send.nxt + length (take (span.to - span.from) (drop span.from b.written)) =
        ap (λ r. (end_at s (answered values d r from)).tcp.send.nxt) (replied ∙ ap (λ e. replies.Send (reply_by e b)) decided) ∙ gives (take (span.to - span.from) (drop span.from b.written)) in
        let up = nxt_up in
        goes.sends (omega (arith, count, long, got, up))

  path_goes : Goes
  path_goes = by (at_grant values from d s)
    where
      by : AtGrant s from x (λ r. answered values d r from) → Goes
      by (asks_none_of_it quiet same) = quiet_goes ((takes_told values from r d ds refl s).shut ∙ (same r).shut ∙ h.shut) (one_ask s x six quiet halts)
      by (asks_bytes max stands asked tells size gives) = by_decision (decision 0 max stands b) refl
        where
          own : x ≡ asks.Send s (calls.Grant 0 max stands)
          own = asked ∙ ap (λ n. asks.Send s (calls.Grant n max stands)) k.number

          some : 1 ≤ max
          some = (let room = k.room in omega (arith, room, size))

          by_decision : (e : Result Span Why) → decision 0 max stands b ≡ e → Goes
          by_decision (Ok span) is = granted max stands own some span is (λ piece. gives span piece)
          by_decision (Err why) is = refused max stands own some why is
              ((takes_told values from r d ds refl s).shut ∙ ap (λ r. (end_at s (answered values d r from)).sending.shut) (replied max stands own some ∙ ap (λ e. replies.Send (reply_by e b)) is) ∙ (tells why _).shut)

takes_goes : (start : Start) (six : SixBooks) (p : PathState Carried) (s : Side) (x : Ask) → asks_of values p ≡ Some x → Known six s p → IsHalted six s p → HaltGoesOn (after_ask x six) s p (takes values (reply_of six x) p)
takes_goes start six p s ask is = by p.agenda is
  where
    by : (ds : List Duty) → let y : PathState Carried = with_agenda ds p in asks_of values y ≡ Some ask → Known six s y → IsHalted six s y → HaltGoesOn (after_ask ask six) s y (takes values (reply_of six ask) y)
    by [] = λ is k h. cc
    by (d ∷ ds) = λ is k h.
        subst (λ y. HaltGoesOn (after_ask y six) s (with_agenda (d ∷ ds) p) (takes values (reply_of six y) (with_agenda (d ∷ ds) p))) (same_Some (ask_for values d (with_agenda (d ∷ ds) p)) ask is) (path_goes start six ds p s d k h)

-- ---- the world

-- whoever asks and isn't path 0 is an application
record IsOfApp (x : Ask) : Type 0 where
  duty : AppDuty
  app : AppState
  is : x ≡ app_ask duty app

module _ (start : Start) (plan : PathPlan) (turns : List Turn) (one : start.paths ≡ plan ∷ []) (mild : IsMildStart start) where
  abbrev w : WorldState Carried
  w = reached values start turns

  alone : Has start (Alone {C = Carried} (λ s. new_sending start.buffer)) w
  alone = always_alone values start plan one turns

  app_asks : (a : AppState) (x : Ask) → app_asks_of a ≡ Some x → IsOfApp x
  app_asks a x is = by a.agenda is
    where
      by : (ds : List AppDuty) → app_asks_first ds a ≡ Some x → IsOfApp x
      by [] is = cc
      by (d ∷ ds) is = record { duty = d; app = a; is = sym (same_Some (app_ask d a) x is) }

  others_are_apps : (actor : ℕ) (c : ActorCrew Carried) → slice_get w.crew actor ≡ Some c → (actor ≡ 2 → ⊥) → (x : Ask) → member_asks values c.member ≡ Some x → IsOfApp x
  others_are_apps actor c there = each_actor (λ actor c. (actor ≡ 2 → ⊥) → (x : Ask) → member_asks values c.member ≡ Some x → IsOfApp x) alone.cast
      (λ apart x is. app_asks alone.cast.a x is) (λ apart x is. app_asks alone.cast.b x is)
      (λ number y at apart x is. absurd (apart (let zero_is = (alone.holds.paths number y at).0 in omega (arith, zero_is))))
      actor c (subst (λ (v : WorldState Carried). slice_get v.crew actor ≡ Some c) alone.is there)

  pub known_at : (c : ActorCrew Carried) (p : PathState Carried) → slice_get w.crew 2 ≡ Some c → c.member ≡ Path p → (s : Side) → Known (books_in w.books) s p
  known_at c p there is s = record {
    number = serves.number;
    of_one = (let own = subst (λ (v : WorldState Carried). IsOf (new_sending start.buffer) (send_of s (books_in v.books))) (sym alone.is) (alone.holds.books s) in record {
      tried = own.tried;
      held = own.held;
      ones = record { tried = own.ones.tried; whole = own.ones.whole; grown = le_refl (length (send_of s (books_in w.books)).written) };
      opened = le_refl (send_of s (books_in w.books)).edge;
      owner = own.owner;
      in_turn = own.in_turn;
    });
    unstopped = (mild_paths_are_never_stopped start plan turns one mild).send s;
    serves = serves.none;
    agrees = agree.ends s;
    room = agree.room;
  }
    where
      serves : Serves values p
      serves = subst (λ m. MemberServes values m) is ((run_serves values turns (opened_world start) (opened_serves values start plan one)).each 2 c there)

      agree : EndsAgreeWith w p
      agree = subst (OfPaths (EndsAgreeWith w)) is (ends_agree start turns mild.plain.size 2 c there)

  module _ (turn : Turn) (c : ActorCrew Carried) (there : slice_get w.crew 2 ≡ Some c) where
    abbrev GoesTo : WorldState Carried → Type 0
    GoesTo v = (d : ActorCrew Carried) × (slice_get v.crew 2 ≡ Some d) × HaltsGoOn (books_in w.books) (books_in v.books) c.member d.member

    stays : (m : Actor Carried) → HaltsGoOn (books_in w.books) (books_in w.books) m m
    stays (App a) = tt
    stays (Path p) = λ s h. goes.on h

    own_turn : (m : Actor Carried) → c.member ≡ m → (x : Ask) → member_asks values m ≡ Some x → HaltsGoOn (books_in w.books) (after_ask x (books_in w.books)) m (member_takes values (answer_to w.books x) m)
    own_turn (App a) is x asks = tt
    own_turn (Path p) is x asks = λ s h. takes_goes start (books_in w.books) p s x asks (known_at c p there is s) h

    app_turn : (m : Actor Carried) → c.member ≡ m → (x : Ask) → IsOfApp x → HaltsGoOn (books_in w.books) (after_ask x (books_in w.books)) m m
    app_turn (App a) is x of_app = tt
    app_turn (Path p) is x of_app = λ s h.
        (let on : Halts (send_of s (after_ask x (books_in w.books))) = subst (λ y. Halts (send_of s (after_ask y (books_in w.books)))) (sym of_app.is)
        (app_halts s of_app.duty of_app.app (books_in w.books) (record { first = (known_at c p there is s).agrees.acked; left = h.left; untried = h.untried })) in
        goes.on (record { shut = h.shut; left = on.left; untried = on.untried }))

    round_turn : (m : Actor Carried) → HaltsGoOn (books_in w.books) (books_in w.books) m (member_next m)
    round_turn (App a) = tt
    round_turn (Path p) = λ s h. goes.on (record { shut = by s h.shut; left = h.left; untried = h.untried })
      where
        by : (s : Side) → (end_at s p).sending.shut ≡ true → (end_at s (next_round p)).sending.shut ≡ true
        by A shut = ap (λ (e : PathEnd). e.sending.shut) (next_rests p).a ∙ shut
        by B shut = ap (λ (e : PathEnd). e.sending.shut) (next_rests p).b ∙ shut

    asked_goes : (actor : ℕ) (e : ActorCrew Carried) (x : Ask) → slice_get w.crew actor ≡ Some e → member_asks values e.member ≡ Some x → GoesTo (asked values actor (Some x) e w)
    asked_goes actor e x at asks = ⊎_elim
        (λ here. (let same : e ≡ c = same_Some e c (sym at ∙ ap (slice_get w.crew) (sym here) ∙ there) in (
          crew_after values x w.books e,
          ap (slice_get (set w.crew actor (crew_after values x w.books e))) here ∙ set_same w.crew actor (crew_after values x w.books e) e at,
          subst (λ six. HaltsGoOn (books_in w.books) six c.member (member_takes values (answer_to w.books x) e.member)) (sym (books_after x e.pass w.books))
              (subst (λ (f : ActorCrew Carried). HaltsGoOn (books_in w.books) (after_ask x (books_in w.books)) c.member (member_takes values (answer_to w.books x) f.member)) (sym same)
              (own_turn c.member refl x (ap (λ (f : ActorCrew Carried). member_asks values f.member) (sym same) ∙ asks))),
        )))
        (λ apart. (
          c,
          set_other w.crew actor (crew_after values x w.books e) 2 apart ∙ there,
          subst (λ six. HaltsGoOn (books_in w.books) six c.member c.member) (sym (books_after x e.pass w.books)) (app_turn c.member refl x (others_are_apps actor e at (λ is. apart (sym is)) x asks)),
        ))
        (cases_eq 2 actor)

    begun_at : (stamp : ℕ) (crew : List (ActorCrew Carried)) (i : ℕ) (e : ActorCrew Carried) → slice_get crew i ≡ Some e → slice_get (map (begins stamp) crew) i ≡ Some (begins stamp e)
    begun_at stamp [] i e at = cc
    begun_at stamp (f ∷ crew) zero e at = ap (λ y. Some (begins stamp y)) (same_Some f e at)
    begun_at stamp (f ∷ crew) (suc i) e at = begun_at stamp crew i e at

    goes_on : GoesTo (after_turn values turn w)
    goes_on = turn_so values GoesTo turn w (c, there, stays c.member) asked_goes (λ over. (begins (greatest 0 w.crew) c, begun_at (greatest 0 w.crew) w.crew 2 c there, round_turn c.member))

pub who_halts_goes_on_halting : WhoHaltsGoesOnHalting
who_halts_goes_on_halting start plan turns turn one mild c there = goes_on start plan turns one mild turn c there
