-- What a reassembly book takes its end knows as it sends.
use Rattle.std.proofs.Common.{◌≡◌, refl, sym, subst, ap, ◌∙◌, ◌⊎◌, inl, inr, ⊎_elim, ℕ, ◌+◌, ◌≤◌, arith, Bool, true, false, true≢false, if◌then◌else◌, Option, Some, None, IfSome, is_some, List, [], ◌∷◌, take}
use Rattle.std.proofs.lemmas.Option.{same_Some}
use Rattle.sides.specs.declared.side.Side.{Side}
use Rattle.sides.specs.declared.side.Side.TheVariants.{A, B}
use Rattle.sides.specs.Side.{peer}
use Rattle.fallback_state.specs.declared.fall.Event.TheVariants as events
use Rattle.reassembly_book.specs.declared.call.ReassemblyCall.{ReassemblyCall}
use Rattle.reassembly_book.specs.declared.call.ReassemblyReply.{ReassemblyReply}
use Rattle.reassembly_book.specs.State.{Arriving, filled, received}
use Rattle.reassembly_book.specs.Steps as arriving
use Rattle.reassembly_book.specs.Steps.{after_call, after_reading, fin_clash, is_end, is_taken, places_after}
use Rattle.actor_desk.specs.declared.ask.Ask.{Ask}
use Rattle.actor_desk.specs.declared.ask.Note.{Note}
use Rattle.actor_desk.specs.declared.ask.Reply.{Reply}
use Rattle.actor_desk.specs.Books.{books_in}
use Rattle.actor_desk.specs.Desk.{SixBooks, after_ask, reassembly_of, reply_of}
use Rattle.actor_desk.specs.Words.{is_nil, pick}
use Rattle.path_agenda.specs.Agenda.{start_of_turn, leaves, resets}
use Rattle.path_agenda.specs.declared.duty.Duty.{Duty}
use Rattle.path_agenda.specs.declared.duty.Duty.TheVariants as duties
use Rattle.path_agenda.specs.declared.duty.AskDuty.TheVariants as ask_duties
use Rattle.path_agenda.specs.declared.duty.SendDuty.TheVariants as send_duties
use Rattle.path_agenda.specs.declared.duty.SilentDuty.TheVariants as silent_duties
use Rattle.path_agenda.specs.declared.duty.StepDuty.TheVariants as step_duties
use Rattle.path_agenda.specs.declared.heard.Heard.{Heard}
use Rattle.path_agenda.specs.declared.heard.Heard.TheVariants as says
use Rattle.path_core.specs.Breaking.{answered_break, reset_on}
use Rattle.path_core.specs.Codec.{Codec}
use Rattle.path_core.specs.DataFin.{after_pass_fin}
use Rattle.path_core.specs.Deliver.{after_check, after_keep, after_pieces, mapping_here}
use Rattle.path_core.specs.DssIn.{counts, is_clash, with_data_fin, with_learned, with_skipped}
use Rattle.path_core.specs.Duties.{answered, ask_for, passed, stands}
use Rattle.path_core.specs.End.{PathEnd, died}
use Rattle.path_core.specs.Fallback.{after_fell, after_infinite, breaks_by_ack, fell_duties, with_plain_ack}
use Rattle.path_core.specs.Looking.{duty_sends, first_sends}
use Rattle.path_core.specs.Standing.{after_ack_out, answered_ack_out}
use Rattle.path_core.specs.State.{PathState, end_at, goes_on, left, with_agenda}
use Rattle.path_core.specs.Steps.{asks_of, next_round, settled, takes}
use Rattle.path_core.specs.Timer.{with_timer_settled}
use Rattle.path_core.specs.Treating.{answered_item, item_of, item_passed}
use Rattle.world_laws.specs.Asking.{IsAt}
use Rattle.world_laws.specs.Openings.{Start, opened_world}
use Rattle.world_laws.specs.Worlds.{Turn, world_run}
use Rattle.world_laws.specs.Writes.{EndView, PathView, side_of, writes}
use Rattle.world_laws.proofs.Falls.FailedChecks.{fail_answered_so, forgets_so, infinite_came_so}
use Rattle.world_laws.proofs.Writes.Asks.{asks_no_more}
use Rattle.world_laws.proofs.Writes.Paths.{passes_no_more, writes_no_more}
use Rattle.world_laws.proofs.Writes.Steps.{unwritten}
use Rattle.whole_paths.specs.AgendaSteps.{Follows, is_silent, may_break, treats_copy}
use Rattle.whole_paths.specs.AgendaSteps.{Follows as follow}
use Rattle.whole_paths.specs.Offered.{AsksFirst, Offers, OffersOn, OffersUpTo, OffersWhereItSends, WhatIsTakenIsOffered}
use Rattle.whole_paths.proofs.Agendas.{answered_follows, own_end}
use Rattle.whole_paths.proofs.Books.{side_up}
use Rattle.whole_paths.proofs.Pieces.{own_only}
use Rattle.whole_paths.proofs.Saying.{ToSend}
use Rattle.whole_paths.proofs.Settling.{sides}
use Rattle.whole_paths.proofs.Turns.{TellsSteps, books_by_turns, paths_between}

-- ---- a reassembly book

-- the size of its buffer stays
call_size : (b : Arriving) (call : ReassemblyCall) → (after_call b call).capacity ≡ b.capacity
call_size b (ReassemblyCall.Place at bytes) = elim (is_taken at bytes b) as (λ c. (if c then record b { places = places_after at bytes b } else b).capacity ≡ b.capacity) [ true ↦ refl | false ↦ refl ]
call_size b (ReassemblyCall.Fin at) = elim (is_some (fin_clash b.known_end at b)) as (λ c. (if c then b else record b { known_end = Some at }).capacity ≡ b.capacity) [ true ↦ refl | false ↦ refl ]
call_size b (ReassemblyCall.Read most) = elim (is_some b.aborted) as (λ c. (if c then b else after_reading most b).capacity ≡ b.capacity) [ true ↦ refl | false ↦ refl ]
call_size b ReassemblyCall.AckOut = refl
call_size b (ReassemblyCall.Abort by_peer) = refl

ask_size : (x : Ask) (six : SixBooks) (s : Side) → (reassembly_of s (after_ask x six)).capacity ≡ (reassembly_of s six).capacity
ask_size (Ask.Reassembly A call) six A = call_size six.reassembly_a call
ask_size (Ask.Reassembly B call) six B = call_size six.reassembly_b call
ask_size (Ask.Reassembly A call) six B = refl
ask_size (Ask.Reassembly B call) six A = refl
ask_size (Ask.Send A call) six s = refl
ask_size (Ask.Send B call) six s = refl
ask_size (Ask.Control A call) six s = refl
ask_size (Ask.Control B call) six s = refl
ask_size (Ask.Local step) six s = refl

-- a book takes bytes up to its edge, which never falls
pub edge_up : (x : Ask) (six : SixBooks) (s : Side) → arriving.edge (reassembly_of s six) ≤ arriving.edge (reassembly_of s (after_ask x six))
edge_up x six s = let up = (side_up x six s).arrival.read in let same = ask_size x six s in omega (arith, up, same)

-- what is answered to an end that asks what is to be acknowledged
abbrev pub IsFairOf : Arriving → ReassemblyReply → Type 0
IsFairOf b (ReassemblyReply.Ack next window) = arriving.edge b ≤ next + window
IsFairOf b _ = Unit {0}

abbrev pub IsFair : Side → SixBooks → Reply → Type 0
IsFair s six (Reply.Reassembly r) = IsFairOf (reassembly_of s six) r
IsFair s six _ = Unit {0}

fair_book : (b : Arriving) → arriving.edge b ≤ arriving.next_wanted b + arriving.window b
fair_book b = (let more : received b ≤ arriving.next_wanted b = omega arith in omega (arith, more))

either_fair : (b : Arriving) (c : Bool) (r q : ReassemblyReply) → IsFairOf b r → IsFairOf b q → IsFairOf b (if c then r else q)
either_fair b true r q x y = x
either_fair b false r q x y = y

fair_call : (b : Arriving) (call : ReassemblyCall) → IsFairOf b (arriving.reply_to b call)
fair_call b (ReassemblyCall.Place at bytes) = either_fair b (arriving.reaches_past (arriving.edge b) at bytes) _ _ tt (placed (arriving.clash b.known_end at bytes))
  where
    placed : (o : Option ℕ) → IsFairOf b (arriving.placed_reply o at bytes b)
    placed None = tt
    placed (Some e) = tt
fair_call b (ReassemblyCall.Fin at) = by (fin_clash b.known_end at b)
  where
    by : (o : Option ℕ) → IsFairOf b (arriving.fin_reply_by o at)
    by None = tt
    by (Some e) = tt
fair_call b (ReassemblyCall.Read most) = by b.aborted
  where
    bytes : (xs : List ℕ) → IsFairOf b (arriving.bytes_reply xs b)
    bytes [] = either_fair b (is_end b.known_end b.read) _ _ tt tt
    bytes (x ∷ xs) = tt

    by : (o : Option Bool) → IsFairOf b (arriving.reading o most b)
    by None = bytes (take most (filled b.places))
    by (Some by_peer) = tt
fair_call b ReassemblyCall.AckOut = fair_book b
fair_call b (ReassemblyCall.Abort by_peer) = tt

pub fair_so : (s : Side) (x : Ask) (six : SixBooks) → IsAt s x → IsFair s six (reply_of six x)
fair_so A (Ask.Reassembly A call) six at = fair_call six.reassembly_a call
fair_so B (Ask.Reassembly B call) six at = fair_call six.reassembly_b call
fair_so A (Ask.Reassembly B call) six at = cc
fair_so B (Ask.Reassembly A call) six at = cc
fair_so s (Ask.Send t call) six at = tt
fair_so s (Ask.Control t call) six at = tt
fair_so s (Ask.Local step) six at = tt

-- ---- an end

-- what it was told stays
pub record Same (e f : PathEnd) : Type 0 where
  pub next : f.receiving.next ≡ e.receiving.next
  pub window : f.receiving.window ≡ e.receiving.window

pub same_so : (e f : PathEnd) → f.receiving.next ≡ e.receiving.next → f.receiving.window ≡ e.receiving.window → Same e f
same_so e f next window = record { next = next; window = window }

pub same_offers : (at : ℕ) (e f : PathEnd) → Same e f → Offers at e → Offers at f
same_offers at e f x h = (let n = x.next in let w = x.window in omega (arith, n, w, h))

-- or it was answered what is to be acknowledged
pub data Knows (r : Reply) (e f : PathEnd) : Type 0 where
  stays : Same e f → Knows r e f
  asked : Same (after_ack_out r e) f → Knows r e f

same_knows : (r : Reply) (e f : PathEnd) → f.receiving.next ≡ e.receiving.next → f.receiving.window ≡ e.receiving.window → Knows r e f
same_knows r e f next window = stays (same_so e f next window)

here_knows : (r : Reply) (s : Side) (e f a b : PathEnd) → Knows r e f → Knows r e (pick s (pick s f a) (pick s b f))
here_knows r s e f a b h = subst (λ g. Knows r e g) (sym (own_end s f a b)) h

here_same : (s : Side) (e f a b : PathEnd) → Same e f → Same e (pick s (pick s f a) (pick s b f))
here_same s e f a b x = subst (λ g. Same e g) (sym (own_end s f a b)) x

ack_offers : (at : ℕ) (s : Side) (six : SixBooks) (r : Reply) (e : PathEnd) → at ≤ arriving.edge (reassembly_of s six) → IsFair s six r → Offers at e → Offers at (after_ack_out r e)
ack_offers at s six (Reply.Reassembly (ReassemblyReply.Ack next window)) e low fair h = omega (arith, low, fair)
ack_offers at s six _ e low fair h = h

knows_offers : (at : ℕ) (s : Side) (six : SixBooks) (r : Reply) (e f : PathEnd) → at ≤ arriving.edge (reassembly_of s six) → IsFair s six r → Knows r e f → Offers at e → Offers at f
knows_offers at s six r e f low fair (stays x) h = same_offers at e f x h
knows_offers at s six r e f low fair (asked x) h = same_offers at (after_ack_out r e) f x (ack_offers at s six r e low fair h)

item_same : (s : Side) (o : Option Heard) (e : PathEnd) → Same e (item_passed s o e)
item_same s None e = same_so e e refl refl
item_same s (Some (says.Mapping fin)) e = elim (counts e) as (λ b. Same e (if b then with_learned e else with_skipped e)) [ true ↦ same_so e (with_learned e) refl refl | false ↦ same_so e (with_skipped e) refl refl ]
item_same s (Some (says.DataFin place)) e = elim (counts e) as (λ b. Same e (if b then with_data_fin place e else e)) [ true ↦ same_so e (with_data_fin place e) refl refl | false ↦ same_so e e refl refl ]
item_same s (Some _) e = same_so e _ refl refl

-- ---- duties before the book is asked

pub treats_breaks : (d : Duty) → treats_copy d ≡ true → may_break d ≡ true
treats_breaks (duties.Ask (ask_duties.BreakAck s reason)) is = refl
treats_breaks (duties.Send (send_duties.BreakReset s reason)) is = refl
treats_breaks d is = is

module _ (s t : Side) (gone : Bool) (d : Duty) (ds : List Duty) (calm : may_break d ≡ false) where
  unbroken : {X : Type 0} → may_break d ≡ true → X
  unbroken is = absurd (true≢false (sym is ∙ calm))

  pub follow_asks : (next : List Duty) → AsksFirst s (d ∷ ds) → AsksFirst s ds → Follows t gone d ds next → AsksFirst s next
  follow_asks next whole rest follow.goes_on = rest
  follow_asks next whole rest follow.again = whole
  follow_asks next whole rest (follow.told treats e own both one quiet) = unbroken (treats_breaks d treats)
  follow_asks next whole rest (follow.left is) = (refl, refl, rest)
  follow_asks next whole rest follow.noted = (refl, refl, rest)
  follow_asks next whole rest (follow.broken is reason) = unbroken is
  follow_asks next whole rest (follow.is_reset is reason) = unbroken is
  follow_asks next whole rest (follow.dead is died) = unbroken is
  follow_asks next whole rest (follow.stopped is) = unbroken is
  follow_asks next whole rest (follow.over is) = tt

-- the first of all that a turn does
pub start_asks : (s : Side) → AsksFirst s start_of_turn
start_asks A = (refl, refl, (refl, refl, (refl, refl, inl refl)))
start_asks B = (refl, refl, (refl, refl, (refl, refl, inr (refl, inl refl))))

module _ {C : Type 0} where
  -- by such a duty no segment goes
  pub none_sent : (d : Duty) (p : PathState C) → is_silent d ≡ true → may_break d ≡ false → duty_sends d p ≡ None
  none_sent (duties.Step (step_duties.Data s)) p silent calm = absurd (true≢false (sym silent))
  none_sent (duties.Step (step_duties.Heard s index)) p silent calm = absurd (true≢false calm)
  none_sent (duties.Step (step_duties.PlainAck s)) p silent calm = absurd (true≢false calm)
  none_sent (duties.Step (step_duties.Unmapped s)) p silent calm = absurd (true≢false calm)
  none_sent (duties.Send d) p silent calm = absurd (true≢false (sym silent))
  none_sent _ p silent calm = refl

  -- ---- a duty that is passed

  passed_own : (d : Duty) (p : PathState C) → Same (end_at (side_of d) p) (end_at (side_of d) (passed d p))
  passed_own (duties.Ask (ask_duties.CheckFailed s)) p =
      let e = end_at s p in
      here_same s e (after_check p.profile e) p.a p.b (forgets_so (λ f. Same e f) p.profile.spelling.checksums (mapping_here e) e (λ recv forgotten. same_so e (record e { tcp = record e.tcp { recv = recv } }) refl refl))
  passed_own (duties.Step (step_duties.Heard s index)) p = let e = end_at s p in here_same s e (item_passed s (item_of index e) e) p.a p.b (item_same s (item_of index e) e)
  passed_own (duties.Step (step_duties.PlainAck s)) p = let e = end_at s p in here_same s e (with_plain_ack e) p.a p.b (same_so e (with_plain_ack e) refl refl)
  passed_own (duties.Step (step_duties.Unmapped s)) p = let e = end_at s p in here_same s e (after_pieces e) p.a p.b (same_so e (after_pieces e) refl refl)
  passed_own (duties.Silent (silent_duties.Timer s)) p = let e = end_at s p in here_same s e (with_timer_settled p.clock e) p.a p.b (same_so e (with_timer_settled p.clock e) refl refl)
  passed_own (duties.Silent (silent_duties.Keep s)) p = let e = end_at s p in here_same s e (after_keep s e) p.a p.b (same_so e (after_keep s e) refl refl)
  passed_own (duties.Silent (silent_duties.PassFin s)) p = let e = end_at s p in here_same s e (after_pass_fin e) p.a p.b (same_so e (after_pass_fin e) refl refl)
  passed_own d p = same_so (end_at (side_of d) p) (end_at (side_of d) p) refl refl

  passed_other : (d : Duty) (p : PathState C) → Same (end_at (peer (side_of d)) p) (end_at (peer (side_of d)) (passed d p))
  passed_other (duties.Step step_duties.Events) p = same_so p.b p.b refl refl
  passed_other d p = let t = peer (side_of d) in record {
    next = unwritten false (end_at t p).receiving.next (end_at t (passed d p)).receiving.next refl (ap (λ (v : PathView C). v.other.next) (passes_no_more d p).same);
    window = unwritten false (end_at t p).receiving.window (end_at t (passed d p)).receiving.window refl (ap (λ (v : PathView C). v.other.window) (passes_no_more d p).same);
  }

  pub passed_same : (s : Side) (d : Duty) (p : PathState C) → Same (end_at s p) (end_at s (passed d p))
  passed_same s d p = ⊎_elim
      (λ own. subst (λ t. Same (end_at t p) (end_at t (passed d p))) own (passed_own d p))
      (λ away. subst (λ t. Same (end_at t p) (end_at t (passed d p))) away (passed_other d p))
      (sides s (side_of d))

  pub asks_tail : (s : Side) (d : Duty) (ds : List Duty) (p : PathState C) → stands d p ≡ false → AsksFirst s (d ∷ ds) → AsksFirst s ds
  asks_tail s (duties.Ask (ask_duties.Window t)) ds p quiet h = absurd (true≢false quiet)
  asks_tail s (duties.Send (send_duties.Update t)) ds p quiet h = h.1
  asks_tail s d ds p quiet h = h.2

  pub settled_offers : (s : Side) (at : ℕ) (ds : List Duty) (p : PathState C) → Offers at (end_at s p) ⊎ AsksFirst s ds → let q = settled ds p in Offers at (end_at s q) ⊎ AsksFirst s q.agenda
  settled_offers s at [] p h = inr tt
  settled_offers s at (d ∷ ds) p h = (elim (stands d p) as (λ b. stands d p ≡ b → let q = if b then with_agenda (d ∷ ds) p else settled ds (passed d p) in Offers at (end_at s q) ⊎ AsksFirst s q.agenda) [
    | true ↦ λ is. h
    | false ↦ λ quiet. settled_offers s at ds (passed d p)
        (⊎_elim (λ knows. inl (same_offers at (end_at s p) (end_at s (passed d p)) (passed_same s d p) knows)) (λ asks. inr (asks_tail s d ds p quiet asks)) h)
  ]) refl

  -- ---- a duty that is answered

  module _ (k : Codec C) (r : Reply) (p : PathState C) where
    break_knows : (s : Side) (reason : ℕ) → Knows r (end_at s p) (end_at s (answered_break k s reason r p))
    break_knows s reason = elim (end_at s p).treated.asked as (λ b. Knows r (end_at s p) (end_at s (if b then answered_ack_out s r (resets s reason) p else reset_on k s (Some reason) (leaves s) p))) [
      | true ↦ here_knows r s (end_at s p) (after_ack_out r (end_at s p)) p.a p.b (asked (same_so (after_ack_out r (end_at s p)) (after_ack_out r (end_at s p)) refl refl))
      | false ↦ here_knows r s (end_at s p) (died (end_at s p)) p.a p.b (same_knows r (end_at s p) (died (end_at s p)) refl refl)
    ]

    ack_knows : (s : Side) (ds : List Duty) → Knows r (end_at s p) (end_at s (answered_ack_out s r ds p))
    ack_knows s ds = let f = after_ack_out r (end_at s p) in here_knows r s (end_at s p) f p.a p.b (asked (same_so f f refl refl))

    thing_knows : (s : Side) (o : Option Heard) → Knows r (end_at s p) (end_at s (answered_item k s o r p))
    thing_knows s None = same_knows r (end_at s p) (end_at s p) refl refl
    thing_knows s (Some (says.DataAck next window)) = here_knows r s (end_at s p) _ p.a p.b (same_knows r (end_at s p) _ refl refl)
    thing_knows s (Some (says.Mapping fin)) = elim (is_clash (end_at s p)) as
        (λ b. Knows r (end_at s p) (end_at s (if b then answered_break k s 1 r p else goes_on s (with_learned (after_fell events.MappingHeard r (end_at s p))) (fell_duties s r p) p))) [
          | true ↦ break_knows s 1
          | false ↦ here_knows r s (end_at s p) (with_learned (after_fell events.MappingHeard r (end_at s p))) p.a p.b (same_knows r (end_at s p) (with_learned (after_fell events.MappingHeard r (end_at s p))) refl refl)
        ]
    thing_knows s (Some (says.DataFin place)) = here_knows r s (end_at s p) _ p.a p.b (same_knows r (end_at s p) _ refl refl)
    thing_knows s (Some (says.InfiniteMapping place position)) =
        let e = end_at s p in here_knows r s e (after_infinite place position r e) p.a p.b (infinite_came_so (λ f. Knows r e f) place position r e (λ other. same_knows r e _ refl refl))
    thing_knows s (Some (says.Keys own other)) = here_knows r s (end_at s p) _ p.a p.b (same_knows r (end_at s p) _ refl refl)
    thing_knows s (Some (says.Notice notice)) = here_knows r s (end_at s p) _ p.a p.b (same_knows r (end_at s p) _ refl refl)
    thing_knows s (Some says.Fail) = fail_answered_so (λ q. Knows r (end_at s p) (end_at s q)) s r p
        (here_knows r s (end_at s p) _ p.a p.b (same_knows r (end_at s p) _ refl refl)) (here_knows r s (end_at s p) _ p.a p.b (same_knows r (end_at s p) _ refl refl))
    thing_knows s (Some _) = same_knows r (end_at s p) (end_at s p) refl refl

    unwritten_knows : (d : Duty) → (writes d).own.next ≡ false → (writes d).own.window ≡ false → Knows r (end_at (side_of d) p) (end_at (side_of d) (answered k d r p))
    unwritten_knows d next window =
        let x = own_only (side_of d) (writes d) p (answered k d r p) (writes_no_more k d r p) in
        same_knows r (end_at (side_of d) p) (end_at (side_of d) (answered k d r p))
        (unwritten (writes d).own.next (end_at (side_of d) p).receiving.next (end_at (side_of d) (answered k d r p)).receiving.next next (ap (λ (v : EndView). v.next) x.same))
        (unwritten (writes d).own.window (end_at (side_of d) p).receiving.window (end_at (side_of d) (answered k d r p)).receiving.window window (ap (λ (v : EndView). v.window) x.same))

    pub own_knows : (d : Duty) → Knows r (end_at (side_of d) p) (end_at (side_of d) (answered k d r p))
    own_knows (duties.Ask (ask_duties.Window s)) = ack_knows s (left p)
    own_knows (duties.Ask (ask_duties.AckOut s)) = ack_knows s (left p)
    own_knows (duties.Ask (ask_duties.BreakAck s reason)) = ack_knows s (resets s reason)
    own_knows (duties.Step (step_duties.Heard s index)) = thing_knows s (item_of index (end_at s p))
    own_knows (duties.Step (step_duties.PlainAck s)) = elim (breaks_by_ack p.profile (end_at s p)) as
        (λ b. Knows r (end_at s p) (end_at s (if b then answered_break k s 6 r p else goes_on s (with_plain_ack (after_fell events.PlainAck r (end_at s p))) (fell_duties s r p) p))) [
          | true ↦ break_knows s 6
          | false ↦ here_knows r s (end_at s p) (with_plain_ack (after_fell events.PlainAck r (end_at s p))) p.a p.b (same_knows r (end_at s p) (with_plain_ack (after_fell events.PlainAck r (end_at s p))) refl refl)
        ]
    own_knows (duties.Step (step_duties.Unmapped s)) = break_knows s 6
    own_knows (duties.Silent d) = same_knows r (end_at (side_of (duties.Silent d)) p) (end_at (side_of (duties.Silent d)) p) refl refl
    own_knows (duties.Send (send_duties.Update s)) = unwritten_knows (duties.Send (send_duties.Update s)) refl refl
    own_knows d = unwritten_knows d refl refl

    pub other_same : (d : Duty) → Same (end_at (peer (side_of d)) p) (end_at (peer (side_of d)) (answered k d r p))
    other_same (duties.Step step_duties.Events) = let d : Duty = duties.Step step_duties.Events in let t = peer (side_of d) in record {
      next = unwritten (writes d).other.next (end_at t p).receiving.next (end_at t (answered k d r p)).receiving.next refl (ap (λ (v : PathView C). v.other.next) (writes_no_more k d r p).same);
      window = unwritten (writes d).other.window (end_at t p).receiving.window (end_at t (answered k d r p)).receiving.window refl (ap (λ (v : PathView C). v.other.window) (writes_no_more k d r p).same);
    }
    other_same d = let t = peer (side_of d) in record {
      next = unwritten (writes d).other.next (end_at t p).receiving.next (end_at t (answered k d r p)).receiving.next refl (ap (λ (v : PathView C). v.other.next) (writes_no_more k d r p).same);
      window = unwritten (writes d).other.window (end_at t p).receiving.window (end_at t (answered k d r p)).receiving.window refl (ap (λ (v : PathView C). v.other.window) (writes_no_more k d r p).same);
    }

    -- of either end
    pub answered_knows : (s : Side) (d : Duty) (six : SixBooks) (at : ℕ) → at ≤ arriving.edge (reassembly_of s six) → IsFair (side_of d) six r → Offers at (end_at s p) → Offers at (end_at s (answered k d r p))
    answered_knows s d six at low fair h = ⊎_elim
        (λ own. knows_offers at s six r (end_at s p) (end_at s (answered k d r p)) low (subst (λ t. IsFair t six r) own fair) (subst (λ t. Knows r (end_at t p) (end_at t (answered k d r p))) own (own_knows d)) h)
        (λ away. same_offers at (end_at s p) (end_at s (answered k d r p)) (subst (λ t. Same (end_at t p) (end_at t (answered k d r p))) away (other_same d)) h)
        (sides s (side_of d))

  module _ (k : Codec C) (six : SixBooks) (x : Ask) (ds : List Duty) (p : PathState C) where
    abbrev to : Duty → PathState C
    to d = answered k d (reply_of six x) (with_agenda (d ∷ ds) p)

    pub window_offers : (s : Side) (at : ℕ) → at ≤ arriving.edge (reassembly_of s six) → x ≡ Ask.Reassembly s ReassemblyCall.AckOut → Offers at (end_at s (to (duties.Ask (ask_duties.Window s))))
    window_offers s at low is = subst (λ r. Offers at (end_at s (answered_ack_out s r ds (with_agenda (duties.Ask (ask_duties.Window s) ∷ ds) p)))) (sym (ap (reply_of six) is))
        (subst (λ (f : PathEnd). Offers at f) (sym (own_end s (after_ack_out (reply_of six (Ask.Reassembly s ReassemblyCall.AckOut)) (end_at s p)) p.a p.b))
        (let room = fair_book (reassembly_of s six) in omega (arith, low, room)))

    answer_asks : (s : Side) (at : ℕ) (d : Duty) → x ≡ ask_for k d (with_agenda (d ∷ ds) p) → at ≤ arriving.edge (reassembly_of s six) → AsksFirst s (d ∷ ds) → Offers at (end_at s (to d)) ⊎ AsksFirst s (to d).agenda
    answer_asks s at (duties.Ask (ask_duties.Window t)) is low h = ⊎_elim
        (λ own. inl (subst (λ u. x ≡ Ask.Reassembly u ReassemblyCall.AckOut → Offers at (end_at s (to (duties.Ask (ask_duties.Window u))))) (sym own) (window_offers s at low) is))
        (λ rest. inr rest) h
    answer_asks s at (duties.Send (send_duties.Update t)) is low h = inr h.1
    answer_asks s at (duties.Step step_duties.Events) is low h = absurd (true≢false (sym h.0))
    answer_asks s at d is low h = inr (follow_asks s (side_of d) _ d ds h.1 _ h h.2 (answered_follows k d ds (reply_of six x) p))

    answer_offers : (s : Side) (at : ℕ) (d : Duty) → x ≡ ask_for k d (with_agenda (d ∷ ds) p) → OffersUpTo six s at (with_agenda (d ∷ ds) p) → OffersUpTo (after_ask x six) s at (takes k (reply_of six x) (with_agenda (d ∷ ds) p))
    answer_offers s at d is h =
        let at_duty = (asks_no_more k (with_agenda (d ∷ ds) p) d).side in
        let fair : IsFair (side_of d) six (reply_of six x) = fair_so (side_of d) x six (subst (λ y. IsAt (side_of d) y) (sym is) at_duty) in
        let low : at ≤ arriving.edge (reassembly_of s six) = h.taken in
        record {
          taken = (let up = edge_up x six s in omega (arith, low, up));
          offered = settled_offers s at (to d).agenda (to d)
              (⊎_elim (λ knows. inl (answered_knows k (reply_of six x) (with_agenda (d ∷ ds) p) s d six at low fair knows)) (λ asks. answer_asks s at d is low asks) h.offered);
        }

  -- ---- a turn

  others_offer : (six : SixBooks) (x : Ask) (steps : List Note) (p : PathState C) → OffersOn six (after_ask x six) steps p p
  others_offer six x steps p s at h = record { taken = (let low = h.taken in let up = edge_up x six s in omega (arith, low, up)); offered = h.offered }

  takes_offers : (k : Codec C) (six : SixBooks) (x : Ask) (steps : List Note) (p : PathState C) → asks_of k p ≡ Some x → TellsSteps (reply_of six x) steps → OffersOn six (after_ask x six) steps p (takes k (reply_of six x) p)
  takes_offers k six x steps p asks refuses = by p.agenda asks
    where
      by : (ds : List Duty) → let y : PathState C = with_agenda ds p in asks_of k y ≡ Some x → OffersOn six (after_ask x six) steps y (takes k (reply_of six x) y)
      by [] asks = others_offer six x steps (with_agenda [] p)
      by (d ∷ ds) asks = λ s at h. answer_offers k six x ds p s at d (sym (same_Some (ask_for k d (with_agenda (d ∷ ds) p)) x asks)) h

  next_offers : (six : SixBooks) (steps : List Note) (p : PathState C) → is_nil p.agenda ≡ true → OffersOn six six steps p (next_round p)
  next_offers six steps p over s at h =
      record { taken = h.taken; offered = settled_offers s at start_of_turn (with_agenda start_of_turn (record p { clock = p.until; until = p.until + 100 })) (inr (start_asks s)) }

  -- ---- as it sends

  pub sends_offers : (six : SixBooks) (s : Side) (at : ℕ) (p : PathState C) → OffersUpTo six s at p → OffersWhereItSends s at p
  sends_offers six s at p h = ⊎_elim (λ knows. known (first_sends p.agenda p) knows) (λ asks. by p.agenda asks) h.offered
    where
      known : (o : Option ToSend) → Offers at (end_at s p) → IfSome o (λ t. t.from ≡ s → Offers at (end_at s p))
      known None knows = tt
      known (Some t) knows = λ own. knows

      unlike : (s : Side) → peer s ≡ s → ⊥
      unlike A is = cc
      unlike B is = cc

      none : (o : Option ToSend) → o ≡ None → IfSome o (λ t. t.from ≡ s → Offers at (end_at s p))
      none None is = tt
      none (Some t) is = cc

      by : (ds : List Duty) → AsksFirst s ds → IfSome (first_sends ds p) (λ t. t.from ≡ s → Offers at (end_at s p))
      by [] asks = tt
      by (duties.Ask (ask_duties.Window t) ∷ ds) asks = tt
      by (duties.Send (send_duties.Update t) ∷ ds) asks = λ own. absurd (unlike s (sym asks.0 ∙ own))
      by (d ∷ ds) asks = none (duty_sends d p) (none_sent d p asks.0 asks.1)

  pub sizes_stay : (k : Codec C) (start : Start) (turns : List Turn) (s : Side) → (reassembly_of s (books_in (world_run k turns (opened_world start)).books)).capacity ≡ start.buffer
  sizes_stay k start turns = books_by_turns k (λ six. (s : Side) → (reassembly_of s six).capacity ≡ start.buffer) (λ x six h s. ask_size x six s ∙ h s) turns (opened_world start) (elim [ A ↦ refl | B ↦ refl ])

  pub what_is_taken_is_offered : (k : Codec C) → WhatIsTakenIsOffered k
  what_is_taken_is_offered k = record { goes_on = paths_between k OffersOn others_offer (takes_offers k) next_offers; sizes = sizes_stay k; sends = sends_offers }
