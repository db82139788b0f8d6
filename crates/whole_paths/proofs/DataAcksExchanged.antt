-- The exchange of an ask goes on by each turn, stage by stage, or something comes between.
use Rattle.std.proofs.Common.{◌≡◌, refl, sym, subst, ap, ◌∙◌, ◌⊎◌, inl, inr, ⊎_elim, ℕ, zero, suc, ◌+◌, ◌-◌, ◌^◌, ◌<◌, ◌≤◌, arith, ◌||◌, Bool, true, false, true≢false, Option, Some, None, IfSome, List, [], ◌∷◌, le_refl}
use Rattle.std.specs.List.{slice_get, list_any}
use Rattle.std.proofs.lemmas.Bool.{cases_lt}
use Rattle.std.proofs.lemmas.Option.{same_Some}
use Rattle.path_segments.specs.declared.segment.PathMapping.{PathMapping}
use Rattle.path_segments.specs.declared.segment.PathOption.TheVariants.{Dss}
use Rattle.path_segments.specs.Laws.{meant}
use Rattle.path_segments.specs.Options.{PlainOption}
use Rattle.path_segments.specs.Spelled.{PlainSegment}
use Rattle.sides.specs.declared.side.Side.{Side}
use Rattle.sides.specs.declared.side.Side.TheVariants.{A, B}
use Rattle.sides.specs.Side.{peer}
use Rattle.link_model.specs.declared.flight.Due.{Due}
use Rattle.link_model.specs.declared.flight.Flight.{Flight}
use Rattle.link_model.specs.Fate.{is_stripped, is_altered}
use Rattle.link_model.specs.Steps.{changed, due_of, next_number, segments_sent}
use Rattle.subflow_tcp.specs.States.{is_closed_to_segments, is_dead}
use Rattle.actor_desk.specs.Books.{StampedBooks}
use Rattle.actor_desk.specs.declared.ask.Note.{Note}
use Rattle.actor_desk.specs.Words.{is_nil}
use Rattle.path_agenda.specs.Items.{wants_ack}
use Rattle.path_agenda.specs.declared.duty.Duty.{Duty}
use Rattle.path_agenda.specs.declared.duty.Duty.TheVariants as duties
use Rattle.path_agenda.specs.declared.duty.StepDuty.TheVariants as step_duties
use Rattle.path_agenda.specs.declared.heard.Heard.{Heard}
use Rattle.path_agenda.specs.declared.heard.Heard.TheVariants as says
use Rattle.path_core.specs.Choices.{item_at}
use Rattle.path_core.specs.DataFin.{is_data_fin_owed}
use Rattle.path_core.specs.Emission.{ack_resent}
use Rattle.path_core.specs.End.{PathEnd}
use Rattle.path_core.specs.Events.{next_event}
use Rattle.path_core.specs.MpJoin.{is_joined}
use Rattle.path_core.specs.OptionsIn.{items_of, options_heard}
use Rattle.path_core.specs.State.{PathState, end_at}
use Rattle.path_core.specs.Values.{Carried, carried_by, values}
use Rattle.path_core.specs.declared.events.Event.TheVariants as happenings
use Rattle.world_laws.specs.declared.member.Member.TheVariants.{App, Path}
use Rattle.world_laws.specs.Actors.{Actor, ActorCrew}
use Rattle.world_laws.specs.Openings.{Start, opened_world}
use Rattle.world_laws.specs.Promises.{HasRoom, NumbersFit}
use Rattle.world_laws.specs.Worlds.{Turn, after_turn, world_run}
use Rattle.whole_paths.specs.AgendaSteps.{event_side}
use Rattle.whole_paths.specs.Answered.{AcksGoFirst, HasAnswered}
use Rattle.whole_paths.specs.Answered.{IsDone as idle}
use Rattle.whole_paths.specs.Arrivals.{Arrival, ComesAgain}
use Rattle.whole_paths.specs.AsFar.{stage}
use Rattle.whole_paths.specs.Brought.{Comes}
use Rattle.whole_paths.specs.Came.{AcksWhatCame, HasCome}
use Rattle.whole_paths.specs.ClosingAsked.{OwesItsEnd, TakesFrom, EndComes}
use Rattle.whole_paths.specs.ClosingOwed.{OwesAnAnswer, PathsOwe}
use Rattle.whole_paths.specs.Copies.{IsUnderWay}
use Rattle.whole_paths.specs.DataAcksAsked.{IsAsking, IsAskedAgain, IsAskedSo, AskingGoesOn, AskComesSo}
use Rattle.whole_paths.specs.DataAcksAsked.{AskingGoesOn as asking}
use Rattle.whole_paths.specs.DataAcksAsked.{IsAskedAgain as ways}
use Rattle.whole_paths.specs.DataAcksCome.{AskArrives, ComesTaken, IsBare, IsInWindow, IsOpen}
use Rattle.whole_paths.specs.DataAcksExchanged.{HasHeard, IsAskedPlainly, IsInquired, InquiryGoesOn, InquiriesGoOn, InquiriesBegin, InquiriesEnd, EachAskIsAnswered}
use Rattle.whole_paths.specs.DataAcksExchanged.{IsAwry as awry}
use Rattle.whole_paths.specs.DataAcksExchanged.{IsInquired as inquired}
use Rattle.whole_paths.specs.DataAcksExchanged.{InquiryGoesOn as turns}
use Rattle.whole_paths.specs.DataAcksHeard.{HearsDataAcks, IsPastTheEnd, PathsHear, StaysHeard}
use Rattle.whole_paths.specs.DataAcksHeard.{StaysHeard as stay}
use Rattle.whole_paths.specs.DataAcksOwed.{IsDataAckFrom, KnowsWhereItSends}
use Rattle.whole_paths.specs.Due.{CopiesArriveSo}
use Rattle.whole_paths.specs.Expiries.{IsToSendAgain}
use Rattle.whole_paths.specs.Exchanges.{LetsThrough}
use Rattle.whole_paths.specs.Exchanges.{IsHeldUp as held}
use Rattle.whole_paths.specs.InTime.{ComesFrom}
use Rattle.whole_paths.specs.Kept.{KeepsWhatWaits, EndsKeepWhatWaits}
use Rattle.whole_paths.specs.Owed.{AnswerGoesOn, AnswerComesSo, IsAnswer, IsAnswered, IsAnsweredSo}
use Rattle.whole_paths.specs.Owed.{AnswerGoesOn as answer}
use Rattle.whole_paths.specs.Owed.IsAnswered.{owes, flies}
use Rattle.whole_paths.specs.Probes.{AskTurns, IsAskedFor}
use Rattle.whole_paths.specs.Probes.IsAskedFor.{asks, answered, heard}
use Rattle.whole_paths.specs.Probes.{AskTurns as goes}
use Rattle.whole_paths.specs.Reasons.{IsOutstanding}
use Rattle.whole_paths.specs.Sent.{WasSent}
use Rattle.whole_paths.specs.Waits.{IsNews as news}
use Rattle.whole_paths.proofs.Acking.{HandsComeSo, hands_come_so, same_actor}
use Rattle.whole_paths.proofs.Arrivals.{sender_of}
use Rattle.whole_paths.proofs.Came.{what_is_acknowledged_came}
use Rattle.whole_paths.proofs.ClosingAsked.{asks_so, each_data_fin_comes}
use Rattle.whole_paths.proofs.ClosingOwed.{what_wants_an_answer_is_owed_one}
use Rattle.whole_paths.proofs.DataAcksAsked.{AskedAtTheEnd, AsksComeSo, asked_at_the_end, asks_come_so}
use Rattle.whole_paths.proofs.DataAcksCome.{each_ack_comes, each_ask_arrives}
use Rattle.whole_paths.proofs.DataAcksHeard.{each_data_ack_counts, each_data_ack_is_said}
use Rattle.whole_paths.proofs.DataAcksOwed.{data_ack_goes}
use Rattle.whole_paths.proofs.Due.{LinkMember, copies_arrive_as_sent, each_link}
use Rattle.whole_paths.proofs.Exchanges.{Known, OfPaths, SameHeader, Shown, all_at, answer_later, below_limit, changed_said, each_shown, under_way}
use Rattle.whole_paths.proofs.Flying.{Frames, FramesStay, frames_stay}
use Rattle.whole_paths.proofs.InTime.{nothing_is_overdue}
use Rattle.whole_paths.proofs.Keeping.{what_waits_is_kept}
use Rattle.whole_paths.proofs.Knowing.{what_is_told_is_known}
use Rattle.whole_paths.proofs.Owing.{copies_are_answered}
use Rattle.whole_paths.proofs.Passing.{what_is_in_order_is_passed}
use Rattle.whole_paths.proofs.Paying.{AnswersComeSo, GoesSo, TurnedTo, answers_come_so, turned_to}
use Rattle.whole_paths.proofs.Reached.{EndsAreReached, each_is_reached, none_left}
use Rattle.whole_paths.proofs.Sent.{what_came_was_sent}
use Rattle.whole_paths.proofs.SentSoon.{what_is_sent_comes_soon}

pub item_wants : (index place : ℕ) (items : List Heard) → item_at index items ≡ Some (says.DataFin place) → list_any wants_ack items ≡ true
item_wants index place [] at = cc
item_wants zero place (item ∷ items) at = ap (λ i. wants_ack i || list_any wants_ack items) (same_Some item (says.DataFin place) at)
item_wants (suc n) place (item ∷ items) at = more (wants_ack item) (list_any wants_ack items) (item_wants n place items at)
  where
    more : (b c : Bool) → c ≡ true → (b || c) ≡ true
    more true c is = refl
    more false c is = is

one_less : (n edge : ℕ) → n ≤ edge → 0 < edge → n - 1 < edge
one_less zero edge low some = some
one_less (suc n) edge low some = omega (arith, low)

-- a segment with a DSS that the end takes says its Data ACK, with its window
pub data_ack_says : (p : PathState Carried) (x : PlainSegment) (next : ℕ) (mapping : Option (PathMapping ℕ)) (others : List PlainOption) → x.options ≡ Dss (Some next) mapping ∷ others → next < 2 ^ 62
    → (taken : ComesTaken x p) (s : Side) → taken.brings.copy.due.to ≡ s → (end_at s p).modes.identity ≡ false → let copy = taken.brings.copy in
    item_at 1 (items_of (is_joined p.profile) copy.due.to (options_heard (end_at copy.due.to p) copy.segment)) ≡ Some (says.DataAck next (meant x).window)
data_ack_says p x next mapping others options low taken s to mapped =
    let t = taken.brings.copy.due.to in
    subst (λ segment. item_at 1 (items_of (is_joined p.profile) t (options_heard (end_at t p) segment)) ≡ Some (says.DataAck next (meant x).window)) (sym taken.segment)
    (each_data_ack_is_said x (end_at t p) (is_joined p.profile) t next mapping others options low (subst (λ t. (end_at t p).modes.identity ≡ false) (sym to) mapped))

-- what the laws of one turn say of it, side by side
pub record IsTurn (p q : PathState Carried) : Type 0 where
  kept : (s : Side) → KeepsWhatWaits (end_at s p) (end_at s q)
  frames : Frames p q
  far : (s : Side) → (end_at s p).tcp.recv.edge ≤ (end_at s q).tcp.recv.edge
  pushed : (s : Side) → (end_at s p).tcp.send.nxt ≤ (end_at s q).tcp.send.nxt
  later : (s : Side) → stage (end_at s p).tcp.state ≤ stage (end_at s q).tcp.state
  owed : OwesAnAnswer values p q
  pub first : AcksGoFirst p

-- what is said of an answer between two positions: it is a Data ACK there, also where the second one is greater
pub record SaysDataAck (Says : ℕ → ℕ → PlainSegment → Type 0) : Type 0 where
  pub so : (edge last : ℕ) (x : PlainSegment) → Says edge last x → IsDataAckFrom edge last 0 x
  pub up : (edge last more : ℕ) (x : PlainSegment) → last ≤ more → Says edge last x → Says edge more x

abbrev pub less_place : (edge last more place : ℕ) (x : PlainSegment) → last ≤ more → IsDataAckFrom edge last place x → IsDataAckFrom edge more place x
less_place edge last more place x low h = record {
  from = h.from;
  up_to = (let few = h.up_to in omega (arith, few, low));
  syn = h.syn;
  fin = h.fin;
  payload = h.payload;
  next = h.next;
  mapping = h.mapping;
  others = h.others;
  options = h.options;
  enough = h.enough;
  low = h.low;
}

-- whatever is asked for: an answer with a Data ACK, of which this is said, and what the end hears of it after the turn
module _ (steps : List Note) (p q : PathState Carried) (known : Known p) (faithful : LetsThrough p) (few : (t : Side) → segments_sent t p.link < 2 ^ 64 - 1) (turn : IsTurn p q)
    (s : Side) (until : ℕ) (Says : ℕ → ℕ → PlainSegment → Type 0) (After : PathState Carried → Type 0) (says_so : SaysDataAck Says) where
  abbrev Ack : PlainSegment → Type 0
  Ack = Says (end_at s p).tcp.recv.edge (end_at (peer s) p).tcp.send.nxt

  abbrev Plainly : PathEnd → Bool → Bool → Type 0
  Plainly = IsAskedPlainly (end_at s p).tcp.send.una

  abbrev Stage : PathState Carried → Type 0
  Stage r = IsAskedFor Says After s until r

  abbrev Goes : Type 0
  Goes = AskTurns (Stage q) s until steps p q

  same_goes : q ≡ p → Stage p → Goes
  same_goes same h = goes.on (subst Stage (sym same) h)

  -- RCV.NXT of the end stays, or more came; SND.UNA stays, or there is news
  if_still : ((end_at s q).tcp.recv.edge ≡ (end_at s p).tcp.recv.edge → Goes) → Goes
  if_still stays = ⊎_elim (λ more. goes.held_up (held.more_came more)) (λ low. stays (let up = turn.far s in omega (arith, low, up))) (cases_lt (end_at s p).tcp.recv.edge (end_at s q).tcp.recv.edge)

  if_unacked : ((end_at s q).tcp.send.una ≡ (end_at s p).tcp.send.una → Goes) → Goes
  if_unacked stays =
      ⊎_elim (λ more. goes.held_up (held.news (news.on_subflow more))) (λ low. stays (let up = (turn.kept s).una in omega (arith, low, up))) (cases_lt (end_at s p).tcp.send.una (end_at s q).tcp.send.una)

  -- an end lives, is open, and goes by mappings
  if_living : (t : Side) → (is_dead (end_at t p).tcp.state ≡ false → Goes) → Goes
  if_living t then_so = by (is_dead (end_at t p).tcp.state) refl
    where
      by : (b : Bool) → is_dead (end_at t p).tcp.state ≡ b → Goes
      by true is = goes.held_up (held.gone t (inl is))
      by false is = then_so is

  if_open : (t : Side) → (3 ≤ stage (end_at t p).tcp.state → Goes) → Goes
  if_open t then_so = ⊎_elim (λ low. goes.awry (awry.unopened t (omega (arith, low)))) (λ high. then_so (omega (arith, high))) (cases_lt (stage (end_at t p).tcp.state) 3)

  if_clear : (t : Side) → ((end_at t p).modes.clear ≡ true → Goes) → Goes
  if_clear t then_so = by (end_at t p).modes.clear refl
    where
      by : (b : Bool) → (end_at t p).modes.clear ≡ b → Goes
      by true is = then_so is
      by false is = goes.awry (awry.unclear t is)

  if_mapped : (t : Side) → ((end_at t p).modes.identity ≡ false → Goes) → Goes
  if_mapped t then_so = by (end_at t p).modes.identity refl
    where
      by : (b : Bool) → (end_at t p).modes.identity ≡ b → Goes
      by true is = goes.awry (awry.plain t (inl is))
      by false is = then_so is

  numbered : (f : Flight Carried) → IsUnderWay f p → f.number < 2 ^ 64 - 1
  numbered f there = let low = under_way (λ g. g.number ≤ segments_sent (peer g.to) p.link) f p there known.link.low in let most = few (peer f.to) in omega (arith, low, most)

  tick_from : (f : Flight Carried) → IsUnderWay f p → p.clock ≤ f.tick
  tick_from f there = subst (λ (g : Flight Carried). p.clock ≤ g.tick) there.holds (all_at (λ (g : Flight Carried). p.clock ≤ g.tick) p.link.under_way there.at there.item there.there known.past.copies)

  -- what a copy acknowledges that is no reset was sent
  acked_sent : (f : Flight Carried) (n : ℕ) → IsUnderWay f p → f.carried.segment.rst ≡ false → f.carried.segment.acknowledged ≡ Some n → n ≤ (end_at f.to p).tcp.send.nxt
  acked_sent f n there rst acks =
      let low : n ≤ (end_at (peer f.to) p).tcp.recv.edge = ⊎_elim
      (λ is. absurd (true≢false (sym is ∙ rst)))
      (λ low. subst (λ o. IfSome o (λ n. n ≤ (end_at (peer f.to) p).tcp.recv.edge)) acks low)
      (under_way (AcksWhatCame p) f p there known.came.copies) in
      let sent = subst (λ t. (end_at (peer f.to) p).tcp.recv.edge ≤ (end_at t p).tcp.send.nxt) (sender_of f.to) (known.was_sent (peer f.to)) in
      omega (arith, low, sent)

  opened_so : (t : Side) → 2 ≤ stage (end_at t p).tcp.state → is_dead (end_at t p).tcp.state ≡ false → IsOpen (end_at t p).tcp
  opened_so t high living = record { opened = high; living = living; below_limit = below_limit p known t }

  -- ---- the answer comes, and is heard

  -- a copy of it that the end takes
  abbrev pub TakesAnswer : Type 0
  TakesAnswer = (x : PlainSegment) → Ack x → (taken : ComesTaken x p) → taken.brings.copy.due.to ≡ s → (end_at s p).modes.identity ≡ false → (q ≡ p) ⊎ Goes

  module _ (f : Flight Carried) (there : IsUnderWay f p) (h : IsAnswer values (peer s) 1 p f) (so : Ack h.segment)
      (others : List Duty) (first : p.agenda ≡ duties.Step step_duties.Events ∷ others) (next : next_event p ≡ Some (happenings.Arrives (due_of f))) where
    answer_to : f.to ≡ s
    answer_to = h.to ∙ sender_of s

    abbrev answer_arrives : Arrival h.segment p
    answer_arrives = let comes = known.alike f there (numbered f there) in record {
      others = others;
      first = first;
      due = due_of f;
      next = next;
      flight = comes.first;
      there = comes.there;
      carried = comes.same ∙ h.carried
          ∙ ap (λ b. changed (values.strips p.profile.spelling (peer s)) (values.alters p.profile.spelling (peer s)) b h.altered (carried_by p.profile.spelling (peer s) h.segment)) (h.whole faithful.whole)
          ∙ ap (λ b. changed (values.strips p.profile.spelling (peer s)) (values.alters p.profile.spelling (peer s)) false b (carried_by p.profile.spelling (peer s) h.segment)) (h.plain faithful.plain)
          ∙ ap (λ t. carried_by p.profile.spelling t h.segment) (sym (ap peer h.to ∙ sender_of (peer s)));
    }

    answer_header : SameHeader h.segment f.carried.segment
    answer_header = changed_said p.profile.spelling (peer s) h.segment h.stripped h.altered f.carried h.carried

    answer_bare : IsBare h.segment
    answer_bare = (let ack = says_so.so (end_at s p).tcp.recv.edge (end_at (peer s) p).tcp.send.nxt h.segment so in record { syn = ack.syn; fin = ack.fin; rst = h.covers.rst; empty = ack.payload })

    -- an answer that is taken says so
    ack_taken : TakesAnswer → (end_at s p).modes.identity ≡ false → Stage p → ComesTaken h.segment p → Goes
    ack_taken takes mapped still taken =
        ⊎_elim (λ same. same_goes same still) (λ goes. goes) (takes h.segment so taken (sym (ap event_side taken.brings.copy.next) ∙ ap event_side next ∙ answer_to) mapped)

    in_window : h.segment.position ≤ (end_at s p).tcp.recv.edge + 1048576 → IsInWindow h.segment (end_at s p).tcp
    in_window within = record {
      from = (says_so.so (end_at s p).tcp.recv.edge (end_at (peer s) p).tcp.send.nxt h.segment so).from;
      within = within;
      acknowledged = h.covers.up_to;
      acknowledges = h.covers.acknowledged;
      answered = (let some = h.covers.enough in omega (arith, some));
      sent = subst (λ t. h.covers.up_to ≤ (end_at t p).tcp.send.nxt) answer_to (acked_sent f h.covers.up_to there (answer_header.rst ∙ h.covers.rst) (answer_header.acknowledged ∙ h.covers.acknowledged));
    }

    answer_comes : TakesAnswer → 2 ≤ stage (end_at s p).tcp.state → Stage p → Goes
    answer_comes takes high still = if_living s (λ living. if_mapped s (λ mapped. ⊎_elim
        (λ past. goes.awry (awry.past_window (let up_to = (says_so.so (end_at s p).tcp.recv.edge (end_at (peer s) p).tcp.send.nxt h.segment so).up_to in omega (arith, past, up_to))))
        (λ within. ack_taken takes mapped still ((each_ack_comes h.segment p answer_arrives (faithful.joined answer_arrives.due.to) answer_bare (subst (λ t. IsOpen (end_at t p).tcp) (sym answer_to) (opened_so s high living))).taken
        (subst (λ t. IsInWindow h.segment (end_at t p).tcp) (sym answer_to) (in_window within))))
        (cases_lt ((end_at s p).tcp.recv.edge + 1048576) h.segment.position)))

  -- ---- the answer goes on

  -- the peer may send more
  said_later : (position n : ℕ) (h : IsAnswered values (peer s) position n q) → IsAnsweredSo Ack h → IsAnsweredSo (Says (end_at s p).tcp.recv.edge (end_at (peer s) q).tcp.send.nxt) h
  said_later position n (owes in_time opened came due) so = tt
  said_later position n (flies f in_time there h) so = says_so.up (end_at s p).tcp.recv.edge (end_at (peer s) p).tcp.send.nxt (end_at (peer s) q).tcp.send.nxt h.segment (turn.pushed (peer s)) so

  abbrev less_answered : (position : ℕ) (f : Flight Carried) → 1 ≤ position → IsAnswer values (peer s) position p f → IsAnswer values (peer s) 1 p f
  less_answered position f some h = record {
    to = h.to;
    segment = h.segment;
    covers = record { up_to = h.covers.up_to; acknowledged = h.covers.acknowledged; enough = (let enough = h.covers.enough in omega (arith, enough, some)); rst = h.covers.rst };
    stripped = h.stripped;
    altered = h.altered;
    whole = h.whole;
    plain = h.plain;
    carried = h.carried;
  }

  answer_goes : TakesAnswer → 2 ≤ stage (end_at s p).tcp.state → Stage p → (position before : ℕ) → 1 ≤ position → before ≤ until → (go : AnswerGoesOn values (peer s) position before p q) → AnswerComesSo Ack go → Goes
  answer_goes takes high still position before some low (answer.on h) so = if_still (λ same. (let later = answer_later Ack (peer s) position 1 before until q some low h so in
      goes.on (answered (let up = turn.later s in omega (arith, high, up)) later.0
      (subst (λ n. IsAnsweredSo (Says n (end_at (peer s) q).tcp.send.nxt) later.0) (sym same) (said_later 1 until later.0 later.1)))))
  answer_goes takes high still position before some low (answer.arrives f in_time there h others first next) so = answer_comes f there (less_answered position f some h) so others first next takes high still
  answer_goes takes high still position before some low (answer.harmed is) so = goes.held_up (held.harmed (peer s) is)
  answer_goes takes high still position before some low (answer.resets is) so = goes.awry (awry.resets is)
  answer_goes takes high still position before some low (answer.gone dead) so = goes.held_up (held.gone (peer s) (inr dead))
  answer_goes takes high still position before some low (answer.dies line next is dead) so = goes.held_up (held.dies line next is dead)

  -- ---- what the end asks comes

  module _ (arrival : ℕ) (soon : arrival + 400 ≤ until) (takes : TakesAnswer) (still : Stage p) (f : Flight Carried) (in_time : f.tick ≤ arrival) (there : IsUnderWay f p)
      (h : IsAsking values s p f) (so : Plainly h.sender h.stripped h.altered) (hands : HandsComeSo Ack values (Path p) (Path q))
      (others : List Duty) (first : p.agenda ≡ duties.Step step_duties.Events ∷ others) (next : next_event p ≡ Some (happenings.Arrives (due_of f))) where
    abbrev x : PlainSegment
    x = ack_resent p.profile s h.sender

    abbrev taker : PathEnd
    taker = end_at (peer s) p

    ask_arrives : AskArrives s p f h.sender
    ask_arrives = each_ask_arrives s p f h so.unstripped so.unaltered there (numbered f there) known.alike others first next

    arrives_to : ask_arrives.arrival.due.to ≡ peer s
    arrives_to = ap (λ (due : Due). due.to) ask_arrives.due_is ∙ h.to

    side_is : (c : Comes values p) → c.due.to ≡ peer s
    side_is c = sym (ap event_side c.next) ∙ ap event_side next ∙ h.to

    by_clock : (q.clock + 400 ≤ until → Goes) → Goes
    by_clock then_so = ⊎_elim
        (λ same. same_goes same still)
        (λ is. then_so (let from = tick_from f there in omega (arith, is, from, in_time, soon)))
        (turn.frames.moves (happenings.Arrives (due_of f)) others first next)

    -- before RCV.NXT it is answered
    comes_before : 2 ≤ stage (end_at s p).tcp.state → 3 ≤ stage taker.tcp.state → is_dead taker.tcp.state ≡ false → x.position < taker.tcp.recv.edge → Goes
    comes_before high opened living low =
        let again : ComesAgain p = (each_ack_comes x p ask_arrives.arrival (faithful.joined ask_arrives.arrival.due.to) ask_arrives.bare
        (subst (λ t. IsOpen (end_at t p).tcp) (sym arrives_to) (opened_so (peer s) (omega (arith, opened)) living))).again
        (subst (λ t. x.position < (end_at t p).tcp.recv.edge) (sym arrives_to) low) in
        let to : again.copy.due.to ≡ peer s = side_is again.copy in
        ⊎_elim
        (λ same. same_goes same still)
        (λ go. by_clock (λ soon_enough. (let here = subst (λ t. (go : AnswerGoesOn values t (end_at t p).tcp.recv.edge (q.clock + 400) p q) × AnswerComesSo Ack go) to go in
        answer_goes takes high still taker.tcp.recv.edge (q.clock + 400) (let some = known.edge (peer s) in omega (arith, some)) soon_enough here.0 here.1)))
        (hands.1.0 again.copy again.outside (subst (λ t. 3 ≤ stage (end_at t p).tcp.state) (sym to) opened))

    -- the DATA_FIN is taken in the window
    fin_comes : 2 ≤ stage (end_at s p).tcp.state → 3 ≤ stage taker.tcp.state → (told : ℕ) → OwesItsEnd told h.sender → TakesFrom h.sender taker → Goes
    fin_comes high opened told owes_it takes =
        let e : EndComes told p = each_data_fin_comes s p f h so.unstripped so.unaltered there (numbered f there) known.alike others first next (faithful.joined (peer s)) told owes_it takes in
        let to : e.brings.copy.due.to ≡ peer s = side_is e.brings.copy in
        ⊎_elim
        (λ same. same_goes same still)
        (λ due. by_clock (λ soon_enough. goes.on (answered (let up = turn.later s in omega (arith, high, up))
        (owes soon_enough (let up = turn.later (peer s) in omega (arith, opened, up)) (let some = known.edge (peer s) in let up = turn.far (peer s) in omega (arith, some, up))
        (subst (λ t. (end_at t q).tcp.due.ack ≡ true) to due)) tt)))
        (turn.owed.owes e.brings (inr (item_wants e.index told _ e.says)))

    fin_said : (told : ℕ) → OwesItsEnd told h.sender → is_dead taker.tcp.state ≡ false → 3 ≤ stage taker.tcp.state → taker.modes.identity ≡ false → taker.tcp.recv.edge ≤ h.sender.tcp.send.nxt
        → (end_at s p).tcp.send.una ≤ taker.tcp.recv.edge → TakesFrom h.sender taker
    fin_said told owes_it living opened mapped from reached =
        let header : SameHeader x f.carried.segment = changed_said p.profile.spelling s x h.stripped h.altered f.carried h.carried in
        record {
          opened = opened_so (peer s) (omega (arith, opened)) living;
          mapped = mapped;
          from = from;
          within = (let at = so.nxt in omega (arith, at, reached));
          answered = so.edge;
          sent = subst (λ t. h.sender.tcp.recv.edge ≤ (end_at t p).tcp.send.nxt) h.to (acked_sent f h.sender.tcp.recv.edge there (header.rst ∙ ask_arrives.bare.rst)
              (header.acknowledged ∙ ap (λ (y : PlainSegment). y.acknowledged) (asks_so p.profile s h.sender told owes_it)));
        }

    ask_comes : Goes
    ask_comes = if_living s (λ living. if_living (peer s) (λ there_living. if_open s (λ high. if_open (peer s) (λ opened. if_mapped (peer s) (λ mapped. by (omega (arith, high)) (known.came.una s living) there_living opened mapped so.ends)))))
      where
        by : 2 ≤ stage (end_at s p).tcp.state → (end_at s p).tcp.send.una ≤ taker.tcp.recv.edge → is_dead taker.tcp.state ≡ false → 3 ≤ stage taker.tcp.state → taker.modes.identity ≡ false
            → (is_data_fin_owed h.sender ≡ false) ⊎ ((told : ℕ) × OwesItsEnd told h.sender) → Goes
        by high low living opened mapped (inl none) = comes_before high opened living
            (let less = one_less (end_at s p).tcp.send.una taker.tcp.recv.edge low (known.edge (peer s)) in
            subst (λ n. n < taker.tcp.recv.edge) (sym (ask_arrives.probes so.third so.close none ∙ ap (λ n. n - 1) so.una)) less)
        by high low living opened mapped (inr owed) = ⊎_elim
            (λ past. comes_before high opened living (subst (λ n. n < taker.tcp.recv.edge) (sym (ap (λ (y : PlainSegment). y.position) (asks_so p.profile s h.sender owed.0 owed.1))) past))
            (λ from. fin_comes high opened owed.0 owed.1 (fin_said owed.0 owed.1 living opened mapped from low))
            (cases_lt h.sender.tcp.send.nxt taker.tcp.recv.edge)

  -- ---- each stage

  -- what the end asks is on its way
  asking_goes : (arrival : ℕ) → arrival + 400 ≤ until → TakesAnswer → Stage p → HandsComeSo Ack values (Path p) (Path q)
      → (go : AskingGoesOn values s arrival p q) → AskComesSo Plainly go → Goes
  asking_goes arrival soon takes still hands (asking.on h) so =
      if_unacked (λ same. goes.on (asks arrival (omega (arith, soon)) h (subst (λ n. IsAskedSo (IsAskedPlainly n) h) (sym same) so)))
  asking_goes arrival soon takes still hands (asking.arrives f in_time there h others first next) so = ask_comes arrival soon takes still f in_time there h so hands others first next
  asking_goes arrival soon takes still hands (asking.record_waits r none first way ungone) so = goes.record_waits r arrival (omega (arith, soon)) none first way
  asking_goes arrival soon takes still hands (asking.news h) so = goes.held_up (held.news h)
  asking_goes arrival soon takes still hands (asking.done none) so = goes.done none
  asking_goes arrival soon takes still hands (asking.harmed is) so = goes.held_up (held.harmed s is)
  asking_goes arrival soon takes still hands (asking.gone dead) so = goes.held_up (held.gone s (inr dead))
  asking_goes arrival soon takes still hands (asking.dies line next is dead) so = goes.held_up (held.dies line next is dead)

  -- the end asks plainly, as it sends
  if_plain : (((end_at s p).tcp.send.records ≡ [] → Plainly (end_at s p) (is_stripped s (next_number s p.link) p.clock p.link.lines) (is_altered s (next_number s p.link) p.link.lines)) → Goes) → Goes
  if_plain then_so = by_third (end_at s p).modes.owes_third refl
    where
      plainly : (end_at s p).modes.owes_third ≡ false → (end_at s p).notices.fast_closed ≡ false → (is_data_fin_owed (end_at s p) ≡ false) ⊎ ((told : ℕ) × OwesItsEnd told (end_at s p)) → Goes
      plainly third close ends = then_so (λ none. record {
        una = refl;
        nxt = sym (none_left (end_at s p).tcp (known.reached s) none);
        third = third;
        close = close;
        ends = ends;
        edge = known.edge s;
        unstripped = faithful.whole.strips s (next_number s p.link) p.clock;
        unaltered = faithful.plain.alters s (next_number s p.link);
      })

      by_end : (end_at s p).modes.owes_third ≡ false → (end_at s p).notices.fast_closed ≡ false → is_data_fin_owed (end_at s p) ≡ true → (end_at s p).modes.clear ≡ true → (end_at s p).modes.identity ≡ false
          → (o : Option ℕ) → (end_at s p).sending.known_end ≡ o → Goes
      by_end third close owed clear mapped None is = goes.awry (awry.endless owed is)
      by_end third close owed clear mapped (Some told) is = plainly third close (inr (
        told,
        record {
          third = third;
          close = close;
          owed = owed;
          clear = clear;
          mapped = mapped;
          end = is;
          low = (let low : (end_at s p).receiving.next < 2 ^ 31 = (known.tells s).window.next in omega (arith, low));
          fair = (let low : told < 2 ^ 31 = subst (λ o. IfSome o (λ n. n < 2 ^ 31)) is (known.tells s).stream.known_end in omega (arith, low));
        },
      ))

      by_owed : (end_at s p).modes.owes_third ≡ false → (end_at s p).notices.fast_closed ≡ false → (b : Bool) → is_data_fin_owed (end_at s p) ≡ b → Goes
      by_owed third close false is = plainly third close (inl is)
      by_owed third close true is = if_clear s (λ clear. if_mapped s (λ mapped. by_end third close is clear mapped (end_at s p).sending.known_end refl))

      by_close : (end_at s p).modes.owes_third ≡ false → (b : Bool) → (end_at s p).notices.fast_closed ≡ b → Goes
      by_close third true is = goes.awry (awry.close is)
      by_close third false is = by_owed third is (is_data_fin_owed (end_at s p)) refl

      by_third : (b : Bool) → (end_at s p).modes.owes_third ≡ b → Goes
      by_third true is = goes.awry (awry.third is)
      by_third false is = by_close is (end_at s p).notices.fast_closed refl

  -- what goes from the peer while it owes an acknowledgement
  abbrev pub PeerSays : Type 0
  PeerSays = is_dead (end_at (peer s) p).tcp.state ≡ false → (end_at (peer s) p).modes.clear ≡ true → (end_at (peer s) p).modes.identity ≡ false → GoesSo Ack (peer s) p

  pub asks_on : AsksComeSo Plainly values (Path p) (Path q) → HandsComeSo Ack values (Path p) (Path q) → TakesAnswer
      → (arrival : ℕ) → arrival + 400 ≤ until → (h : IsAskedAgain values s arrival p) → IsAskedSo Plainly h → Goes
  asks_on come hands takes arrival soon h so = if_plain (λ was. (let go = come s arrival (few s) was h so in asking_goes arrival soon takes (asks arrival soon h so) hands go.0 go.1))

  pub answered_on : AnswersComeSo Ack values (Path p) (Path q) → PeerSays → TakesAnswer → 2 ≤ stage (end_at s p).tcp.state → (h : IsAnswered values (peer s) 1 until p) → IsAnsweredSo Ack h → Goes
  answered_on answers peer_says takes high h so = if_living (peer s) (λ living. if_clear (peer s) (λ clear. if_mapped (peer s) (λ mapped.
      (let go = answers (peer s) 1 until (few (peer s)) (peer_says living clear mapped) h so in answer_goes takes high (answered high h so) 1 until (le_refl 1) (le_refl until) go.0 go.1))))

-- ---- of a Data ACK

inquired_so : (s : Side) (place : ℕ) (fin : Bool) (until : ℕ) (p : PathState Carried) → IsAskedFor (λ edge last. IsDataAckFrom edge last place) (HasHeard s place fin) s until p → IsInquired s place fin until p
inquired_so s place fin until p (asks arrival soon h so) = inquired.asks arrival soon h so
inquired_so s place fin until p (answered high h so) = inquired.answered high h so
inquired_so s place fin until p (heard h) = inquired.heard h.next h.enough h.hears

asked_so : (s : Side) (place : ℕ) (fin : Bool) (until : ℕ) (p : PathState Carried) → IsInquired s place fin until p → IsAskedFor (λ edge last. IsDataAckFrom edge last place) (HasHeard s place fin) s until p
asked_so s place fin until p (inquired.asks arrival soon h so) = asks arrival soon h so
asked_so s place fin until p (inquired.answered high h so) = answered high h so
asked_so s place fin until p (inquired.heard next enough h) = heard (record { next = next; enough = enough; hears = h })

module _ (books : StampedBooks) (steps : List Note) (p q : PathState Carried) (known : Known p) (faithful : LetsThrough p) (few : (t : Side) → segments_sent t p.link < 2 ^ 64 - 1) (turn : IsTurn p q)
    (hears : HearsDataAcks values books steps p q) (s : Side) (place : ℕ) (fin : Bool) (until : ℕ) where
  abbrev SaysPlace : ℕ → ℕ → PlainSegment → Type 0
  SaysPlace edge last = IsDataAckFrom edge last place

  abbrev IsHeardThen : PathState Carried → Type 0
  IsHeardThen = HasHeard s place fin

  from_place : SaysDataAck SaysPlace
  from_place = record {
    so = λ edge last x so. record {
      from = so.from;
      up_to = so.up_to;
      syn = so.syn;
      fin = so.fin;
      payload = so.payload;
      next = so.next;
      mapping = so.mapping;
      others = so.others;
      options = so.options;
      enough = omega arith;
      low = so.low;
    };
    up = λ edge last more x low so. less_place edge last more place x low so;
  }

  abbrev AskGoes : Type 0
  AskGoes = AskTurns (IsAskedFor SaysPlace IsHeardThen s until q) s until steps p q

  stays_goes : (next : ℕ) → place ≤ next → StaysHeard s next fin steps q → AskGoes
  stays_goes next enough (stay.on h) = goes.on (heard (record { next = next; enough = enough; hears = h }))
  stays_goes next enough (stay.gone dead) = goes.held_up (held.gone s (inr dead))
  stays_goes next enough (stay.reset h) = goes.awry (awry.reset h)
  stays_goes next enough (stay.plain is) = goes.awry (awry.plain s (inr is))
  stays_goes next enough (stay.infinite h) = goes.awry (awry.infinite h)
  stays_goes next enough (stay.refused is) = goes.awry (awry.refused is)

  takes_place : TakesAnswer steps p q known faithful few turn s until SaysPlace IsHeardThen from_place
  takes_place x so taken to mapped =
      ⊎_elim
      (λ same. inl same)
      (λ stays. inr (stays_goes so.next so.enough (subst (λ t. StaysHeard t so.next fin steps q) to stays)))
      (hears.tells taken.brings 1 so.next (meant x).window fin (data_ack_says p x so.next so.mapping so.others so.options so.low taken s to mapped))

  peer_says : KnowsWhereItSends (peer s) place p → PeerSays steps p q known faithful few turn s until SaysPlace IsHeardThen from_place
  peer_says wants living clear mapped = data_ack_goes (peer s) (end_at s p).tcp.recv.edge (end_at (peer s) p).tcp.send.nxt place p turn.first living clear mapped (known.was_sent s) (le_refl (end_at (peer s) p).tcp.send.nxt)
      (let low : (end_at (peer s) p).receiving.next < 2 ^ 31 = (known.tells (peer s)).window.next in omega (arith, low)) wants

  inquiry_goes : AsksComeSo (IsAskedPlainly (end_at s p).tcp.send.una) values (Path p) (Path q) → AnswersComeSo (SaysPlace (end_at s p).tcp.recv.edge (end_at (peer s) p).tcp.send.nxt) values (Path p) (Path q)
      → HandsComeSo (SaysPlace (end_at s p).tcp.recv.edge (end_at (peer s) p).tcp.send.nxt) values (Path p) (Path q) → IsPastTheEnd books s place fin → KnowsWhereItSends (peer s) place p → IsInquired s place fin until p → AskGoes
  inquiry_goes come answers hands past wants (inquired.asks arrival soon h so) = asks_on steps p q known faithful few turn s until SaysPlace IsHeardThen from_place come hands takes_place arrival soon h so
  inquiry_goes come answers hands past wants (inquired.answered high h so) =
      answered_on steps p q known faithful few turn s until SaysPlace IsHeardThen from_place answers (peer_says wants) takes_place high h so
  inquiry_goes come answers hands past wants (inquired.heard next enough h) = stays_goes next enough (hears.stays s next fin (λ is. (let far = past is in omega (arith, far, enough))) h)

  goes_so : AskGoes → InquiryGoesOn s place fin until steps p q
  goes_so (goes.on h) = turns.on (inquired_so s place fin until q h)
  goes_so (goes.record_waits r arrival low none first way) = turns.record_waits r arrival low none first way
  goes_so (goes.done none) = turns.done none
  goes_so (goes.held_up is) = turns.held_up is
  goes_so (goes.awry is) = turns.awry is

-- ---- the world

-- what the laws say of an actor and of what a turn makes of it
pub record TurnFacts (m n : Actor Carried) : Type 1 where
  kept : EndsKeepWhatWaits m n
  frames : FramesStay m n
  turned : TurnedTo m n
  owed : PathsOwe values m n
  pub come : (Was : PathEnd → Bool → Bool → Type 0) → AsksComeSo Was values m n
  pub answers : (Was : PlainSegment → Type 0) → AnswersComeSo Was values m n
  pub hands : (Was : PlainSegment → Type 0) → HandsComeSo Was values m n
  shown : OfPaths Shown m
  reached : OfPaths EndsAreReached m
  came : OfPaths HasCome m
  was_sent : OfPaths WasSent m
  link : LinkMember m
  alike : OfPaths CopiesArriveSo m
  past : OfPaths (λ p. ComesFrom p.clock p) m
  first : OfPaths AcksGoFirst m

pub turn_facts : (start : Start) (turns : List Turn) → HasRoom start → NumbersFit start → let w = world_run values turns (opened_world start) in
    (turn : Turn) (actor : ℕ) (c d : ActorCrew Carried) → slice_get w.crew actor ≡ Some c → slice_get (after_turn values turn w).crew actor ≡ Some d → TurnFacts c.member d.member
turn_facts start turns size fit turn actor c d at there =
    let w = world_run values turns (opened_world start) in
    let v = after_turn values turn w in
    let all_answered = copies_are_answered values start turns in
    let late = nothing_is_overdue values start turns in
    record {
      kept = same_actor (λ x. EndsKeepWhatWaits c.member x.member) v actor d there (what_waits_is_kept values w (turn ∷ []) actor c at);
      frames = same_actor (λ x. FramesStay c.member x.member) v actor d there (frames_stay values w turn actor c at);
      turned = same_actor (λ x. TurnedTo c.member x.member) v actor d there (turned_to values w turn actor c at);
      owed = same_actor (λ x. PathsOwe values c.member x.member) v actor d there (what_wants_an_answer_is_owed_one values w turn actor c at);
      come = λ Was. same_actor (λ x. AsksComeSo Was values c.member x.member) v actor d there (asks_come_so Was values w late ((what_is_sent_comes_soon values).numbered start turns) turn actor c at);
      answers = λ Was. same_actor (λ x. AnswersComeSo Was values c.member x.member) v actor d there (answers_come_so Was values w all_answered ((what_is_sent_comes_soon values).numbered start turns) turn actor c at);
      hands = λ Was. same_actor (λ x. HandsComeSo Was values c.member x.member) v actor d there
          (hands_come_so Was values w all_answered ((what_is_sent_comes_soon values).numbered start turns) (what_is_in_order_is_passed values start turns) ((what_is_told_is_known values).live start turns) turn actor c at);
      shown = each_shown start turns size fit actor c at;
      reached = (each_is_reached values start turns).each actor c at;
      came = (what_is_acknowledged_came start turns).each actor c at;
      was_sent = (what_came_was_sent start turns size).each actor c at;
      link = (each_link values start turns).each actor c at;
      alike = (copies_arrive_as_sent values start turns).each actor c at;
      past = late.each actor c at;
      first = all_answered.first actor c at;
    }

pub known_of : (p : PathState Carried) (n : Actor Carried) → TurnFacts (Path p) n → Known p
known_of p n x = record {
  tells = x.shown.tells;
  behind = x.shown.behind;
  edge = x.shown.edge;
  reached = x.reached;
  came = x.came;
  was_sent = x.was_sent;
  link = x.link;
  alike = x.alike;
  past = x.past;
}

pub turn_of : (p q : PathState Carried) → TurnFacts (Path p) (Path q) → IsTurn p q
turn_of p q x = record {
  kept = x.kept;
  frames = x.frames;
  far = λ s. (x.turned.far s).subflow.received;
  pushed = λ s. (x.turned.far s).subflow.pushed;
  later = λ s. (x.turned.far s).subflow.state;
  owed = x.owed;
  first = x.first;
}

inquiries_go : (books : StampedBooks) (steps : List Note) (m n : Actor Carried) → TurnFacts m n → PathsHear values books steps m n → InquiriesGoOn books steps m n
inquiries_go books steps (App a) (App b) facts hears = tt
inquiries_go books steps (Path p) (Path q) facts hears = λ faithful s place fin until few at_end wants h.
    let known = known_of p (Path q) facts in
    let turn = turn_of p q facts in
    goes_so books steps p q known faithful few turn hears s place fin until
    (inquiry_goes books steps p q known faithful few turn hears s place fin until
    (facts.come (IsAskedPlainly (end_at s p).tcp.send.una)) (facts.answers (IsDataAckFrom (end_at s p).tcp.recv.edge (end_at (peer s) p).tcp.send.nxt place)) (facts.hands (IsDataAckFrom (end_at s p).tcp.recv.edge (end_at (peer s) p).tcp.send.nxt place)) at_end wants h)
inquiries_go books steps (App a) (Path q) facts hears = absurd hears
inquiries_go books steps (Path p) (App b) facts hears = absurd hears

inquiries_by_turns : (start : Start) (turns : List Turn) → HasRoom start → NumbersFit start → let w = world_run values turns (opened_world start) in
    (turn : Turn) (actor : ℕ) (c : ActorCrew Carried) → slice_get w.crew actor ≡ Some c
    → (d : ActorCrew Carried) × (slice_get (after_turn values turn w).crew actor ≡ Some d) × InquiriesGoOn w.books d.list c.member d.member
inquiries_by_turns start turns size fit turn actor c at =
    let w = world_run values turns (opened_world start) in
    let hears = each_data_ack_counts values w turn actor c at in
    let d : ActorCrew Carried = hears.0 in
    (d, hears.1, inquiries_go w.books d.list c.member d.member (turn_facts start turns size fit turn actor c d at hears.1) hears.2)

-- ---- how they begin and end

-- where a turn is over
pub asked_begins : (p : PathState Carried) → ((Was : PathEnd → Bool → Bool → Type 0) → AskedAtTheEnd Was values p) → (Says : ℕ → ℕ → PlainSegment → Type 0) (Hears : PathState Carried → Type 0)
    → p.agenda ≡ [] → (s : Side) → is_closed_to_segments (end_at s p).tcp.state ≡ false → (end_at s p).tcp.send.records ≡ [] → IsOutstanding (end_at s p)
    → IsAskedFor Says Hears s (p.clock + 60000 + 400 + 400) p
asked_begins p asked Says Hears over s living none out =
    let h = asked (IsAskedPlainly (end_at s p).tcp.send.una) over s living none out in
    asks (p.clock + 60000 + 400) (le_refl (p.clock + 60000 + 400 + 400)) h.0 h.1

inquiries_begin : (m : Actor Carried) → ((Was : PathEnd → Bool → Bool → Type 0) → OfPaths (AskedAtTheEnd Was values) m) → OfPaths InquiriesBegin m
inquiries_begin (App a) asked = tt
inquiries_begin (Path p) asked = λ over s living none out place fin.
    inquired_so s place fin _ p (asked_begins p asked (λ edge last. IsDataAckFrom edge last place) (HasHeard s place fin) over s living none out)

-- where all that waits to happen does so at a tick or later, and what is to be sent isn't sent before
module _ (p : PathState Carried) (s : Side) (now : ℕ) (past : ComesFrom now p) (sends_now : IsToSendAgain s p → now ≤ p.clock) (owes_now : (end_at (peer s) p).tcp.due.ack ≡ true → now ≤ p.clock) where
  flight_from : (f : Flight Carried) → IsUnderWay f p → now ≤ f.tick
  flight_from f there = subst (λ (g : Flight Carried). now ≤ g.tick) there.holds (all_at (λ (g : Flight Carried). now ≤ g.tick) p.link.under_way there.at there.item there.there past.copies)

  timer_then : (t : Side) (tick : ℕ) → (end_at t p).tcp.timing.timer ≡ Some tick → now ≤ tick
  timer_then A tick runs = subst (λ o. IfSome o (λ t. now ≤ t)) runs past.timer_a
  timer_then B tick runs = subst (λ o. IfSome o (λ t. now ≤ t)) runs past.timer_b

  ask_from : (n : ℕ) → IsAskedAgain values s n p → now ≤ n
  ask_from n (ways.waits tick low runs none) = let from = timer_then s tick runs.timer in omega (arith, from, low)
  ask_from n (ways.resends low is none) = let from = sends_now is in omega (arith, from, low)
  ask_from n (ways.flies f low there h) = let from = flight_from f there in omega (arith, from, low)

  answer_from : (position n : ℕ) → IsAnswered values (peer s) position n p → now ≤ n
  answer_from position n (owes low opened came due) = let from = owes_now due in omega (arith, from, low)
  answer_from position n (flies f low there h) = let from = flight_from f there in omega (arith, from, low)

  -- past the tick of the exchange it is heard
  pub asked_ends : (Says : ℕ → ℕ → PlainSegment → Type 0) (Hears : PathState Carried → Type 0) (n : ℕ) → IsAskedFor Says Hears s n p → n < now → Hears p
  asked_ends Says Hears n (asks arrival soon h so) late = absurd (let from = ask_from arrival h in omega (arith, from, soon, late))
  asked_ends Says Hears n (answered high h so) late = absurd (let from = answer_from 1 n h in omega (arith, from, late))
  asked_ends Says Hears n (heard h) late = h

-- once the clock is
pub asked_in_time : (p : PathState Carried) → ComesFrom p.clock p → (Says : ℕ → ℕ → PlainSegment → Type 0) (Hears : PathState Carried → Type 0) (s : Side) (n : ℕ) → IsAskedFor Says Hears s n p → n < p.clock → Hears p
asked_in_time p past Says Hears s n h late = asked_ends p s p.clock past (λ is. le_refl p.clock) (λ is. le_refl p.clock) Says Hears n h late

-- and where the turn is over in a round that ends past it, and the peer isn't dead
pub asked_due : (p : PathState Carried) → ComesFrom p.until p → HasAnswered p → p.agenda ≡ [] → (s : Side) → is_dead (end_at (peer s) p).tcp.state ≡ false
    → (Says : ℕ → ℕ → PlainSegment → Type 0) (Hears : PathState Carried → Type 0) (n : ℕ) → IsAskedFor Says Hears s n p → n < p.until → Hears p
asked_due p past answers over s living Says Hears n h late =
    asked_ends p s p.until past (λ is. ⊎_elim (λ fires. absurd (true≢false (ap is_nil (sym over ∙ fires)))) (λ sends. absurd (true≢false (ap is_nil (sym over ∙ sends)))) is)
    (λ due. absurd (true≢false (sym due ∙ (answers (idle.over over) (peer s) living).ack))) Says Hears n h late

inquiries_end : (m : Actor Carried) → OfPaths (λ p. ComesFrom p.clock p) m → OfPaths InquiriesEnd m
inquiries_end (App a) past = tt
inquiries_end (Path p) past = λ s place fin n h late. asked_in_time p past (λ edge last. IsDataAckFrom edge last place) (HasHeard s place fin) s n (asked_so s place fin n p h) late

pub each_ask_is_answered : EachAskIsAnswered
each_ask_is_answered = record {
  in_time = λ start turns. record {
    begin = λ actor c at. inquiries_begin c.member (λ Was. asked_at_the_end Was values start turns actor c at);
    end = λ actor c at. inquiries_end c.member ((nothing_is_overdue values start turns).each actor c at);
  };
  goes_on = inquiries_by_turns;
}
