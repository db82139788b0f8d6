-- What a reassembly book wants its ends tell from their next turn on.
use Rattle.std.proofs.Common.{◌≡◌, refl, sym, subst, ap, ◌∙◌, ◌⊎◌, inl, inr, ⊎_elim, ℕ, ◌+◌, ◌≤◌, arith, Bool, true, false, true≢false, if◌then◌else◌, Option, Some, None, IfSome, List, [], ◌∷◌, take}
use Rattle.std.proofs.lemmas.Bool.{cases_lt, eq-eqb, eqb-true}
use Rattle.std.proofs.lemmas.Option.{same_Some}
use Rattle.sides.specs.declared.side.Side.{Side}
use Rattle.sides.specs.declared.side.Side.TheVariants.{A, B}
use Rattle.sides.specs.Side.{peer}
use Rattle.reassembly_book.specs.declared.call.ReassemblyCall.{ReassemblyCall}
use Rattle.reassembly_book.specs.declared.call.ReassemblyReply.{ReassemblyReply}
use Rattle.reassembly_book.specs.State.{Arriving, filled, received}
use Rattle.reassembly_book.specs.Steps as arriving
use Rattle.reassembly_book.specs.Steps.{fin_clash, is_end, next_wanted}
use Rattle.actor_desk.specs.declared.ask.Ask.{Ask}
use Rattle.actor_desk.specs.declared.ask.Note.{Note}
use Rattle.actor_desk.specs.declared.ask.Reply.{Reply}
use Rattle.actor_desk.specs.Desk.{SixBooks, after_ask, reassembly_of, reply_of}
use Rattle.actor_desk.specs.Words.{is_nil}
use Rattle.path_agenda.specs.Agenda.{start_of_turn}
use Rattle.path_agenda.specs.declared.duty.Duty.{Duty}
use Rattle.path_agenda.specs.declared.duty.Duty.TheVariants as duties
use Rattle.path_agenda.specs.declared.duty.AskDuty.TheVariants as ask_duties
use Rattle.path_agenda.specs.declared.duty.SendDuty.TheVariants as send_duties
use Rattle.path_agenda.specs.declared.duty.StepDuty.TheVariants as step_duties
use Rattle.path_core.specs.Codec.{Codec}
use Rattle.path_core.specs.Duties.{answered, ask_for, passed, stands}
use Rattle.path_core.specs.End.{PathEnd}
use Rattle.path_core.specs.Looking.{duty_sends, first_sends, segment_sent}
use Rattle.path_core.specs.Standing.{after_ack_out, answered_ack_out}
use Rattle.path_core.specs.State.{PathState, end_at, with_agenda}
use Rattle.path_core.specs.Steps.{asks_of, next_round, settled, takes}
use Rattle.subflow_tcp.specs.States.{is_dead}
use Rattle.world_laws.specs.Asking.{IsAt}
use Rattle.world_laws.specs.Writes.{side_of}
use Rattle.world_laws.proofs.Writes.Asks.{asks_no_more}
use Rattle.whole_paths.specs.AsFar.{IsArrivalAsFar}
use Rattle.whole_paths.specs.DataAcksOwed.{KnowsWhereItSends}
use Rattle.whole_paths.specs.Offered.{AsksFirst}
use Rattle.whole_paths.specs.Wanted.{WantsOn, WantsUpTo, WhatIsWantedIsTold}
use Rattle.whole_paths.proofs.Agendas.{answered_follows, own_end}
use Rattle.whole_paths.proofs.Books.{side_up}
use Rattle.whole_paths.proofs.Offered.{Knows, Same, asks_tail, follow_asks, none_sent, other_same, own_knows, passed_same, start_asks}
use Rattle.whole_paths.proofs.Offered.{Knows as knows}
use Rattle.whole_paths.proofs.Saying.{ToSend}
use Rattle.whole_paths.proofs.Settling.{sides}
use Rattle.whole_paths.proofs.Turns.{TellsSteps, paths_between}
use Rattle.actor_desk.specs.Books.{books_in}
use Rattle.path_core.specs.Start.{first_turn, waiting_path}
use Rattle.world_laws.specs.Actors.{ActorCrew}
use Rattle.world_laws.specs.Openings.{PathPlan, Start, opened_world, path_begins}
use Rattle.world_laws.specs.RoundDone.{reached}
use Rattle.world_laws.specs.Worlds.{Turn}
use Rattle.world_laws.proofs.Rounds.Lifting.{opened_lifted}
use Rattle.whole_paths.specs.Between.{EachPathBetween}
use Rattle.whole_paths.proofs.ByTurns.{Of, OfBooked, each_booked}

-- ---- a reassembly book

-- what it wants next never falls
pub wanted_so : (b c : Arriving) → IsArrivalAsFar b c → next_wanted b ≤ next_wanted c
wanted_so b c up = by (is_end b.known_end (received b)) refl
  where
    ends : (o : Option ℕ) → is_end o (received b) ≡ true → o ≡ Some (received b)
    ends None is = absurd (true≢false (sym is))
    ends (Some e) is = ap Some (eqb-true e (received b) is)

    still : received b ≡ received c → is_end b.known_end (received b) ≡ true → is_end c.known_end (received c) ≡ true
    still same is = subst (λ o. is_end o (received c) ≡ true) (sym (up.end (received b) (ends b.known_end is))) (eq-eqb (received b) (received c) same)

    more : received b ≤ received c
    more = up.received

    by : (x : Bool) → is_end b.known_end (received b) ≡ x → next_wanted b ≤ next_wanted c
    by false is = subst (λ x. received b + (if x then 1 else 0) ≤ next_wanted c) (sym is) (let low : received c ≤ next_wanted c = omega arith in omega (arith, more, low))
    by true is = subst (λ x. received b + (if x then 1 else 0) ≤ next_wanted c) (sym is) (⊎_elim
        (λ less. (let low : received c ≤ next_wanted c = omega arith in omega (arith, less, low)))
        (λ most. (let same : received b ≡ received c = omega (arith, most, more) in
        subst (λ x. received b + 1 ≤ received c + (if x then 1 else 0)) (sym (still same is)) (omega (arith, same))))
        (cases_lt (received b) (received c)))

wanted_up : (x : Ask) (six : SixBooks) (s : Side) → next_wanted (reassembly_of s six) ≤ next_wanted (reassembly_of s (after_ask x six))
wanted_up x six s = wanted_so (reassembly_of s six) (reassembly_of s (after_ask x six)) (side_up x six s).arrival

-- an end that asks what is to be acknowledged is told so
abbrev IsTold : Arriving → ReassemblyReply → Type 0
IsTold b (ReassemblyReply.Ack next window) = next ≡ next_wanted b
IsTold b _ = Unit {0}

either_told : (b : Arriving) (c : Bool) (r q : ReassemblyReply) → IsTold b r → IsTold b q → IsTold b (if c then r else q)
either_told b true r q x y = x
either_told b false r q x y = y

told_call : (b : Arriving) (call : ReassemblyCall) → IsTold b (arriving.reply_to b call)
told_call b (ReassemblyCall.Place at bytes) = either_told b (arriving.reaches_past (arriving.edge b) at bytes) _ _ tt (placed (arriving.clash b.known_end at bytes))
  where
    placed : (o : Option ℕ) → IsTold b (arriving.placed_reply o at bytes b)
    placed None = tt
    placed (Some e) = tt
told_call b (ReassemblyCall.Fin at) = by (fin_clash b.known_end at b)
  where
    by : (o : Option ℕ) → IsTold b (arriving.fin_reply_by o at)
    by None = tt
    by (Some e) = tt
told_call b (ReassemblyCall.Read most) = by b.aborted
  where
    bytes : (xs : List ℕ) → IsTold b (arriving.bytes_reply xs b)
    bytes [] = either_told b (is_end b.known_end b.read) _ _ tt tt
    bytes (x ∷ xs) = tt

    by : (o : Option Bool) → IsTold b (arriving.reading o most b)
    by None = bytes (take most (filled b.places))
    by (Some by_peer) = tt
told_call b ReassemblyCall.AckOut = refl
told_call b (ReassemblyCall.Abort by_peer) = tt

abbrev IsToldSo : Side → SixBooks → Reply → Type 0
IsToldSo s six (Reply.Reassembly r) = IsTold (reassembly_of s six) r
IsToldSo s six _ = Unit {0}

told_so : (s : Side) (x : Ask) (six : SixBooks) → IsAt s x → IsToldSo s six (reply_of six x)
told_so A (Ask.Reassembly A call) six at = told_call six.reassembly_a call
told_so B (Ask.Reassembly B call) six at = told_call six.reassembly_b call
told_so A (Ask.Reassembly B call) six at = cc
told_so B (Ask.Reassembly A call) six at = cc
told_so s (Ask.Send t call) six at = tt
told_so s (Ask.Control t call) six at = tt
told_so s (Ask.Local step) six at = tt

-- ---- an end

ack_next : (place : ℕ) (s : Side) (six : SixBooks) (r : Reply) (e : PathEnd) → place ≤ next_wanted (reassembly_of s six) → IsToldSo s six r → place ≤ e.receiving.next → place ≤ (after_ack_out r e).receiving.next
ack_next place s six (Reply.Reassembly (ReassemblyReply.Ack next window)) e low told h = omega (arith, low, told)
ack_next place s six _ e low told h = h

knows_next : (place : ℕ) (s : Side) (six : SixBooks) (r : Reply) (e f : PathEnd) → place ≤ next_wanted (reassembly_of s six) → IsToldSo s six r → Knows r e f → place ≤ e.receiving.next → place ≤ f.receiving.next
knows_next place s six r e f low told (knows.stays x) h = (let same = x.next in omega (arith, same, h))
knows_next place s six r e f low told (knows.asked x) h = (let same = x.next in let now = ack_next place s six r e low told h in omega (arith, same, now))

-- no end knows more than that
ack_no_more : (s : Side) (six : SixBooks) (r : Reply) (e : PathEnd) → IsToldSo s six r → e.receiving.next ≤ next_wanted (reassembly_of s six) → (after_ack_out r e).receiving.next ≤ next_wanted (reassembly_of s six)
ack_no_more s six (Reply.Reassembly (ReassemblyReply.Ack next window)) e told h = omega (arith, told)
ack_no_more s six _ e told h = h

knows_no_more : (s : Side) (six : SixBooks) (r : Reply) (e f : PathEnd) → IsToldSo s six r → Knows r e f → e.receiving.next ≤ next_wanted (reassembly_of s six) → f.receiving.next ≤ next_wanted (reassembly_of s six)
knows_no_more s six r e f told (knows.stays x) h = (let same = x.next in omega (arith, same, h))
knows_no_more s six r e f told (knows.asked x) h = (let same = x.next in let now = ack_no_more s six r e told h in omega (arith, same, now))

same_next : (place : ℕ) (e f : PathEnd) → Same e f → place ≤ e.receiving.next → place ≤ f.receiving.next
same_next place e f x h = (let same = x.next in omega (arith, same, h))

module _ {C : Type 0} where
  -- ---- duties that are passed

  settled_next : (s : Side) (place : ℕ) (ds : List Duty) (p : PathState C) → (place ≤ (end_at s p).receiving.next) ⊎ AsksFirst s ds
      → let q = settled ds p in (place ≤ (end_at s q).receiving.next) ⊎ AsksFirst s q.agenda
  settled_next s place [] p h = inr tt
  settled_next s place (d ∷ ds) p h = (elim (stands d p) as (λ b. stands d p ≡ b → let q = if b then with_agenda (d ∷ ds) p else settled ds (passed d p) in (place ≤ (end_at s q).receiving.next) ⊎ AsksFirst s q.agenda) [
    | true ↦ λ is. h
    | false ↦ λ quiet. settled_next s place ds (passed d p)
        (⊎_elim (λ known. inl (same_next place (end_at s p) (end_at s (passed d p)) (passed_same s d p) known)) (λ asks. inr (asks_tail s d ds p quiet asks)) h)
  ]) refl

  -- ---- a duty that is answered

  module _ (k : Codec C) (six : SixBooks) (x : Ask) (ds : List Duty) (p : PathState C) where
    abbrev to : Duty → PathState C
    to d = answered k d (reply_of six x) (with_agenda (d ∷ ds) p)

    own_next : (s : Side) (d : Duty) (place : ℕ) → place ≤ next_wanted (reassembly_of s six) → IsToldSo (side_of d) six (reply_of six x) → place ≤ (end_at s p).receiving.next → place ≤ (end_at s (to d)).receiving.next
    own_next s d place low told h = ⊎_elim
        (λ own. knows_next place s six (reply_of six x) (end_at s p) (end_at s (to d)) low (subst (λ t. IsToldSo t six (reply_of six x)) own told)
        (subst (λ t. Knows (reply_of six x) (end_at t p) (end_at t (to d))) own (own_knows k (reply_of six x) (with_agenda (d ∷ ds) p) d)) h)
        (λ away. same_next place (end_at s p) (end_at s (to d)) (subst (λ t. Same (end_at t p) (end_at t (to d))) away (other_same k (reply_of six x) (with_agenda (d ∷ ds) p) d)) h)
        (sides s (side_of d))

    window_next : (s : Side) (place : ℕ) → place ≤ next_wanted (reassembly_of s six) → x ≡ Ask.Reassembly s ReassemblyCall.AckOut → place ≤ (end_at s (to (duties.Ask (ask_duties.Window s)))).receiving.next
    window_next s place low is = subst (λ r. place ≤ (end_at s (answered_ack_out s r ds (with_agenda (duties.Ask (ask_duties.Window s) ∷ ds) p))).receiving.next) (sym (ap (reply_of six) is))
        (subst (λ (f : PathEnd). place ≤ f.receiving.next) (sym (own_end s (after_ack_out (reply_of six (Ask.Reassembly s ReassemblyCall.AckOut)) (end_at s p)) p.a p.b)) (by s low))
      where
        by : (s : Side) → place ≤ next_wanted (reassembly_of s six) → place ≤ (after_ack_out (reply_of six (Ask.Reassembly s ReassemblyCall.AckOut)) (end_at s p)).receiving.next
        by A low = low
        by B low = low

    answer_next : (s : Side) (place : ℕ) (d : Duty) → x ≡ ask_for k d (with_agenda (d ∷ ds) p) → place ≤ next_wanted (reassembly_of s six) → AsksFirst s (d ∷ ds)
        → (place ≤ (end_at s (to d)).receiving.next) ⊎ AsksFirst s (to d).agenda
    answer_next s place (duties.Ask (ask_duties.Window t)) is low h = ⊎_elim
        (λ own. inl (subst (λ u. x ≡ Ask.Reassembly u ReassemblyCall.AckOut → place ≤ (end_at s (to (duties.Ask (ask_duties.Window u)))).receiving.next) (sym own) (window_next s place low) is))
        (λ rest. inr rest) h
    answer_next s place (duties.Send (send_duties.Update t)) is low h = inr h.1
    answer_next s place (duties.Step step_duties.Events) is low h = absurd (true≢false (sym h.0))
    answer_next s place d is low h = inr (follow_asks s (side_of d) _ d ds h.1 _ h h.2 (answered_follows k d ds (reply_of six x) p))

    answer_wants : (s : Side) (place : ℕ) (d : Duty) → x ≡ ask_for k d (with_agenda (d ∷ ds) p) → WantsUpTo six s place (with_agenda (d ∷ ds) p)
        → WantsUpTo (after_ask x six) s place (takes k (reply_of six x) (with_agenda (d ∷ ds) p))
    answer_wants s place d is h =
        let at_duty = (asks_no_more k (with_agenda (d ∷ ds) p) d).side in
        let told : IsToldSo (side_of d) six (reply_of six x) = told_so (side_of d) x six (subst (λ y. IsAt (side_of d) y) (sym is) at_duty) in
        let low : place ≤ next_wanted (reassembly_of s six) = h.wanted in
        record {
          wanted = (let up = wanted_up x six s in omega (arith, low, up));
          known = settled_next s place (to d).agenda (to d) (⊎_elim (λ known. inl (own_next s d place low told known)) (λ asks. answer_next s place d is low asks) h.known);
        }

  -- ---- a turn

  others_want : (six : SixBooks) (x : Ask) (steps : List Note) (p : PathState C) → WantsOn six (after_ask x six) steps p p
  others_want six x steps p s place h = record { wanted = (let low = h.wanted in let up = wanted_up x six s in omega (arith, low, up)); known = h.known }

  takes_wants : (k : Codec C) (six : SixBooks) (x : Ask) (steps : List Note) (p : PathState C) → asks_of k p ≡ Some x → TellsSteps (reply_of six x) steps → WantsOn six (after_ask x six) steps p (takes k (reply_of six x) p)
  takes_wants k six x steps p asks refuses = by p.agenda asks
    where
      by : (ds : List Duty) → let y : PathState C = with_agenda ds p in asks_of k y ≡ Some x → WantsOn six (after_ask x six) steps y (takes k (reply_of six x) y)
      by [] asks = others_want six x steps (with_agenda [] p)
      by (d ∷ ds) asks = λ s place h. answer_wants k six x ds p s place d (sym (same_Some (ask_for k d (with_agenda (d ∷ ds) p)) x asks)) h

  begins_wanting : (six : SixBooks) (s : Side) (place : ℕ) (p : PathState C) → place ≤ next_wanted (reassembly_of s six) → WantsUpTo six s place (next_round p)
  begins_wanting six s place p low =
      record { wanted = low; known = settled_next s place start_of_turn (with_agenda start_of_turn (record p { clock = p.until; until = p.until + 100 })) (inr (start_asks s)) }

  next_wants : (six : SixBooks) (steps : List Note) (p : PathState C) → is_nil p.agenda ≡ true → WantsOn six six steps p (next_round p)
  next_wants six steps p over s place h = begins_wanting six s place p h.wanted

  -- ---- as it sends

  abbrev SaysWanted : Side → ℕ → PathState C → Option ToSend → Type 0
  SaysWanted s place p o = IfSome o (λ t. t.from ≡ s → is_dead (end_at s p).tcp.state ≡ false → (segment_sent p t).rst ≡ false → place ≤ (end_at s p).receiving.next)

  sends_wanted : (six : SixBooks) (s : Side) (place : ℕ) (p : PathState C) → WantsUpTo six s place p → KnowsWhereItSends s place p
  sends_wanted six s place p h = ⊎_elim (λ known. tells (first_sends p.agenda p) known) (λ asks. by p.agenda asks) h.known
    where
      tells : (o : Option ToSend) → place ≤ (end_at s p).receiving.next → SaysWanted s place p o
      tells None known = tt
      tells (Some t) known = λ own living unreset. known

      unlike : (s : Side) → peer s ≡ s → ⊥
      unlike A is = cc
      unlike B is = cc

      none : (o : Option ToSend) → o ≡ None → SaysWanted s place p o
      none None is = tt
      none (Some t) is = cc

      by : (ds : List Duty) → AsksFirst s ds → SaysWanted s place p (first_sends ds p)
      by [] asks = tt
      by (duties.Ask (ask_duties.Window t) ∷ ds) asks = tt
      by (duties.Send (send_duties.Update t) ∷ ds) asks = λ own living unreset. absurd (unlike s (sym asks.0 ∙ own))
      by (d ∷ ds) asks = none (duty_sends d p) (none_sent d p asks.0 asks.1)

  pub what_is_wanted_is_told : (k : Codec C) → WhatIsWantedIsTold k
  what_is_wanted_is_told k = record { goes_on = paths_between k WantsOn others_want (takes_wants k) next_wants; sends = sends_wanted; begins = begins_wanting }

  -- ---- no end knows more than its book wants next

  abbrev pub KnowsNoMore : SixBooks → PathState C → Type 0
  KnowsNoMore six p = (s : Side) → (end_at s p).receiving.next ≤ next_wanted (reassembly_of s six)

  abbrev KnowsNoMoreOn : SixBooks → SixBooks → List Note → PathState C → PathState C → Type 0
  KnowsNoMoreOn six after steps p q = KnowsNoMore six p → KnowsNoMore after q

  settled_same : (s : Side) (ds : List Duty) (p : PathState C) → (end_at s (settled ds p)).receiving.next ≡ (end_at s p).receiving.next
  settled_same A [] p = refl
  settled_same B [] p = refl
  settled_same s (d ∷ ds) p = elim (stands d p) as (λ b. (end_at s (if b then with_agenda (d ∷ ds) p else settled ds (passed d p))).receiving.next ≡ (end_at s p).receiving.next)
      [ true ↦ agenda_next s (d ∷ ds) p | false ↦ settled_same s ds (passed d p) ∙ (passed_same s d p).next ]
    where
      agenda_next : (s : Side) (ds : List Duty) (p : PathState C) → (end_at s (with_agenda ds p)).receiving.next ≡ (end_at s p).receiving.next
      agenda_next A ds p = refl
      agenda_next B ds p = refl

  pub others_no_more : (six : SixBooks) (x : Ask) (steps : List Note) (p : PathState C) → KnowsNoMoreOn six (after_ask x six) steps p p
  others_no_more six x steps p h s = let low = h s in let up = wanted_up x six s in omega (arith, low, up)

  pub takes_no_more : (k : Codec C) (six : SixBooks) (x : Ask) (steps : List Note) (p : PathState C) → asks_of k p ≡ Some x → TellsSteps (reply_of six x) steps → KnowsNoMoreOn six (after_ask x six) steps p (takes k (reply_of six x) p)
  takes_no_more k six x steps p asks refuses = by p.agenda asks
    where
      by : (ds : List Duty) → let y : PathState C = with_agenda ds p in asks_of k y ≡ Some x → KnowsNoMoreOn six (after_ask x six) steps y (takes k (reply_of six x) y)
      by [] asks = others_no_more six x steps (with_agenda [] p)
      by (d ∷ ds) asks = λ h s.
          let y : PathState C = with_agenda (d ∷ ds) p in
          let q : PathState C = to k six x ds p d in
          let is : x ≡ ask_for k d y = sym (same_Some (ask_for k d y) x asks) in
          let told : IsToldSo (side_of d) six (reply_of six x) = told_so (side_of d) x six (subst (λ z. IsAt (side_of d) z) (sym is) (asks_no_more k y d).side) in
          let now : (end_at s q).receiving.next ≤ next_wanted (reassembly_of s six) = ⊎_elim
          (λ own. knows_no_more s six (reply_of six x) (end_at s y) (end_at s q) (subst (λ t. IsToldSo t six (reply_of six x)) own told) (subst (λ t. Knows (reply_of six x) (end_at t y) (end_at t q)) own (own_knows k (reply_of six x) y d)) (h s))
          (λ away. (let same = (subst (λ t. Same (end_at t y) (end_at t q)) away (other_same k (reply_of six x) y d)).next in let low = h s in omega (arith, same, low)))
          (sides s (side_of d)) in
          let up = wanted_up x six s in let same = settled_same s q.agenda q in omega (arith, now, up, same)

  pub next_no_more : (six : SixBooks) (steps : List Note) (p : PathState C) → is_nil p.agenda ≡ true → KnowsNoMoreOn six six steps p (next_round p)
  next_no_more six steps p over h A = let low = h A in let same = settled_same A start_of_turn (with_agenda start_of_turn (record p { clock = p.until; until = p.until + 100 })) in omega (arith, low, same)
  next_no_more six steps p over h B = let low = h B in let same = settled_same B start_of_turn (with_agenda start_of_turn (record p { clock = p.until; until = p.until + 100 })) in omega (arith, low, same)

  abbrev no_more_between : (k : Codec C) → EachPathBetween k KnowsNoMoreOn
  no_more_between k = paths_between k KnowsNoMoreOn others_no_more (takes_no_more k) next_no_more

-- on path 0, at every moment
pub first_knows_no_more : {C : Type 0} (k : Codec C) (start : Start) (turns : List Turn) → OfBooked k start KnowsNoMoreOn (no_more_between k) KnowsNoMore (reached k start turns)
first_knows_no_more {C} k start = each_booked k start KnowsNoMoreOn (no_more_between k) KnowsNoMore opened (λ turns turn steps p q here there on h. on h)
  where
    opened : OfBooked k start KnowsNoMoreOn (no_more_between k) KnowsNoMore (opened_world start)
    opened = record {
      each = λ c there. (opened_lifted (λ (c : ActorCrew C). Of (KnowsNoMore (books_in (opened_world {C = C} start).books)) c.member) start tt tt (λ number plan at. first number plan)).each 2 c there;
    }
      where
        first : (number : ℕ) (plan : PathPlan) → KnowsNoMore (books_in (opened_world {C = C} start).books) (first_turn {C = C} (path_begins start number plan) start.lines)
        first number plan A = let same = settled_same A start_of_turn (with_agenda start_of_turn (waiting_path {C = C} (path_begins start number plan) start.lines)) in omega (arith, same)
        first number plan B = let same = settled_same B start_of_turn (with_agenda start_of_turn (waiting_path {C = C} (path_begins start number plan) start.lines)) in omega (arith, same)
