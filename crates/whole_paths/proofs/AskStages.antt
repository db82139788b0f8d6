-- The exchange of an ask between the open ends of a path goes on with what the peer heard, or what comes between counts.
use Rattle.std.proofs.Common.{◌≡◌, refl, sym, subst, ap, ◌∙◌, ◌⊎◌, inl, inr, ⊎_elim, ℕ, ◌+◌, ◌-◌, ◌^◌, ◌<◌, ◌≤◌, arith, not, ◌&&◌, ◌||◌, Bool, true, false, true≢false, Option, Some, None, is_some, IfSome, List, [], ◌∷◌, ◌++◌, length, le_refl}
use Rattle.std.specs.List.{slice_get}
use Rattle.std.proofs.lemmas.Bool.{both_ways, cases_lt}
use Rattle.std.proofs.lemmas.Option.{same_Some}
use Rattle.sides.specs.declared.side.Side.{Side}
use Rattle.sides.specs.declared.side.Side.TheVariants.{A, B}
use Rattle.sides.specs.Side.{peer}
use Rattle.link_model.specs.declared.flight.Flight.{Flight}
use Rattle.link_script.specs.declared.script.ScriptLine.{ScriptLine}
use Rattle.link_model.specs.Fate.{is_altered, is_stripped}
use Rattle.link_model.specs.Steps.{due_of, next_number, segments_sent}
use Rattle.reassembly_book.specs.State.{received}
use Rattle.subflow_send.specs.Records.{Record}
use Rattle.path_segments.specs.Spelled.{PlainSegment}
use Rattle.actor_desk.specs.Books.{StampedBooks, books_in}
use Rattle.actor_desk.specs.Desk.{SixBooks, reassembly_of, send_of}
use Rattle.actor_desk.specs.declared.ask.Note.{Note}
use Rattle.path_agenda.specs.declared.duty.Duty.{Duty}
use Rattle.path_agenda.specs.declared.duty.Duty.TheVariants as duties
use Rattle.path_agenda.specs.declared.duty.StepDuty.TheVariants as step_duties
use Rattle.path_core.specs.DataFin.{is_data_fin_owed}
use Rattle.path_core.specs.Emission.{ack_resent}
use Rattle.path_core.specs.End.{PathEnd}
use Rattle.path_core.specs.Events.{next_event}
use Rattle.path_core.specs.Looking.{first_sends, segment_sent}
use Rattle.path_core.specs.State.{PathState, end_at}
use Rattle.path_core.specs.Values.{Carried, values}
use Rattle.path_core.specs.declared.events.Event.TheVariants as happenings
use Rattle.world_laws.specs.declared.member.Member.TheVariants.{App, Path}
use Rattle.world_laws.specs.Actors.{Actor, ActorCrew}
use Rattle.world_laws.specs.Openings.{Start, opened_world}
use Rattle.world_laws.specs.Worlds.{WorldState, Turn, after_turn, world_run}
use Rattle.world_laws.proofs.Weaving.WholeRounds.{run_append}
use Rattle.whole_paths.specs.AgendaSteps.{event_side}
use Rattle.whole_paths.specs.AsFar.{IsActorAsFar, IsEndAsFar, IsPathAsFar}
use Rattle.whole_paths.specs.AskStages.{AnswerIsAwaitedFrom, AnswerIsAwaitedOn, AnswerIsAwaitedBy, AsksAreAnswered, BringsEnd, IsAnswerAwaited, OpenAsksAreAnswered}
use Rattle.whole_paths.specs.AskStages.{AnswerIsAwaitedOn as ask}
use Rattle.whole_paths.specs.Came.{AcksWhatCame, HasCome}
use Rattle.whole_paths.specs.Closing.{FinGoesOn, HearsDataFins, IsFinHeard, PathsHearFins}
use Rattle.whole_paths.specs.Closing.{FinGoesOn as fins}
use Rattle.whole_paths.specs.ClosingAsked.{EndComes, OwesItsEnd, TakesFrom}
use Rattle.whole_paths.specs.Copies.{IsUnderWay}
use Rattle.whole_paths.specs.DataAcksAsked.{AskComesSo, AskingGoesOn, IsAskedAgain, IsAskedSo, IsAsking}
use Rattle.whole_paths.specs.DataAcksAsked.{AskingGoesOn as asking}
use Rattle.whole_paths.specs.DataAcksAsked.{IsAskedAgain as ways}
use Rattle.whole_paths.specs.DataAcksCome.{AskArrives}
use Rattle.whole_paths.specs.DataAcksExchanged.{InquiriesGoOn, InquiryGoesOn, IsAskedPlainly, IsInquired}
use Rattle.whole_paths.specs.DataAcksExchanged.{InquiryGoesOn as goes}
use Rattle.whole_paths.specs.DataAcksExchanged.IsInquired.{asks, answered, heard}
use Rattle.whole_paths.specs.DataAcksOwed.{KnowsWhereItSends}
use Rattle.whole_paths.specs.Due.{CopiesArriveSo}
use Rattle.whole_paths.specs.Exchanges.{LetsThrough}
use Rattle.whole_paths.specs.Exchanges.{IsHeldUp as held}
use Rattle.whole_paths.specs.Flights.{IsFirst}
use Rattle.whole_paths.specs.InTime.{ComesFrom}
use Rattle.whole_paths.specs.Kept.{EndsKeepWhatWaits, KeepsWhatWaits}
use Rattle.whole_paths.specs.Mild.{EndsGoByMappings, IsMildStart, LinkIsMild, MappingIsKept}
use Rattle.whole_paths.specs.OpenAsks.{HardlyGoesAwry, IsUnansweredAt}
use Rattle.whole_paths.specs.OpenAsks.IsUnanswered.{data_fin, bytes}
use Rattle.whole_paths.specs.Reasons.{IsOutstanding}
use Rattle.whole_paths.specs.Sent.{WasSent}
use Rattle.whole_paths.specs.Straying.{IsOpen, IsSound}
use Rattle.whole_paths.specs.Waits.{IsNews}
use Rattle.whole_paths.specs.Waits.{IsNews as news}
use Rattle.whole_paths.proofs.Acking.{same_actor}
use Rattle.whole_paths.proofs.Arrivals.{sender_of}
use Rattle.whole_paths.proofs.Came.{what_is_acknowledged_came}
use Rattle.whole_paths.proofs.Closing.{each_data_fin_counts}
use Rattle.whole_paths.proofs.ClosingAsked.{asks_so, each_data_fin_comes}
use Rattle.whole_paths.proofs.DataAcksAsked.{AskedAtTheEnd, AsksComeSo, asked_at_the_end, asks_come_so}
use Rattle.whole_paths.proofs.DataAcksCome.{each_ask_arrives}
use Rattle.whole_paths.proofs.DataAcksExchanged.{each_ask_is_answered}
use Rattle.whole_paths.proofs.Due.{LinkMember, copies_arrive_as_sent, each_link}
use Rattle.whole_paths.proofs.Endings.{BothKnowTheirEnd, KnowsItsEnd}
use Rattle.whole_paths.proofs.Exchanges.{Known, OfPaths, SameHeader, Shown, below_limit, changed_said, each_shown, under_way}
use Rattle.whole_paths.proofs.Flying.{Frames, FramesStay, frames_stay}
use Rattle.whole_paths.proofs.GoesOn.{goes_on_so}
use Rattle.whole_paths.proofs.InTime.{nothing_is_overdue}
use Rattle.whole_paths.proofs.Keeping.{what_waits_is_kept}
use Rattle.whole_paths.proofs.Mild.{links_are_mild, mapping_is_kept}
use Rattle.whole_paths.proofs.OpenAsks.{EndsAskForThemselves, each_open_is_sound, ends_ask_for_themselves, sound_after, sound_ends_hardly_go_awry}
use Rattle.whole_paths.proofs.OpenAsksGoOn.{is_outstanding, more_sent, open_segments, past_the_end, same_written, unanswered_goes}
use Rattle.whole_paths.proofs.OpenPieces.{AgreesWith, EndsAgreeWith, closed_stays, each_knows, ends_agree}
use Rattle.whole_paths.proofs.Reached.{EndsAreReached, each_is_reached, none_left}
use Rattle.whole_paths.proofs.Sent.{what_came_was_sent}
use Rattle.whole_paths.proofs.Straying.{never_resets}
use Rattle.whole_paths.proofs.SentSoon.{what_is_sent_comes_soon}
use Rattle.subflow_tcp.specs.States.{is_dead}

-- ---- what held of a sender

abbrev Both : (PathEnd → Bool → Bool → Type 0) → (PathEnd → Bool → Bool → Type 0) → PathEnd → Bool → Bool → Type 0
Both V W e strips alters = V e strips alters × W e strips alters

-- both of two facts
both_so : (V W : PathEnd → Bool → Bool → Type 0) {s : Side} {n : ℕ} {p : PathState Carried} (h : IsAskedAgain values s n p) → IsAskedSo V h → IsAskedSo W h → IsAskedSo (Both V W) h
both_so V W (ways.waits tick low runs none) v w = tt
both_so V W (ways.resends low is none) v w = tt
both_so V W (ways.flies f low there h) v w = (v, w)

parts_so : (V W : PathEnd → Bool → Bool → Type 0) {s : Side} {n : ℕ} {p : PathState Carried} (h : IsAskedAgain values s n p) → IsAskedSo (Both V W) h → IsAskedSo V h × IsAskedSo W h
parts_so V W (ways.waits tick low runs none) so = (tt, tt)
parts_so V W (ways.resends low is none) so = (tt, tt)
parts_so V W (ways.flies f low there h) so = so

abbrev Owes : PathEnd → Bool → Bool → Type 0
Owes e strips alters = is_data_fin_owed e ≡ true

-- its sender owes its DATA_FIN, and asks plainly
abbrev Asks : ℕ → PathEnd → Bool → Bool → Type 0
Asks base = Both (IsAskedPlainly base) Owes

not_true : (b : Bool) → (b ≡ true → ⊥) → b ≡ false
not_true true never = absurd (never refl)
not_true false never = refl

owed_so : (c : Bool) (i : Bool) (sent acked : Bool) → c ≡ false → i ≡ false → sent ≡ true → acked ≡ false → (not (c || i) && (sent && not acked)) ≡ true
owed_so c i sent acked identity finite is open_end = rw (identity, finite, is, open_end) refl

-- ---- a turn

-- what is known of a sound path, and of what it becomes
record IsTurn (books : StampedBooks) (later : SixBooks) (steps : List Note) (p q : PathState Carried) : Type 0 where
  known : Known p
  open_p : IsSound p
  open_q : IsSound q
  faithful : LetsThrough p
  few : (t : Side) → segments_sent t p.link < 2 ^ 64 - 1
  frames : Frames p q
  far : IsPathAsFar p q
  kept : (s : Side) → KeepsWhatWaits (end_at s p) (end_at s q)
  mapped_p : EndsGoByMappings p
  mapped_q : EndsGoByMappings q
  alone : EndsAskForThemselves p
  knows : (s : Side) → KnowsItsEnd (end_at s p)
  agrees : (s : Side) → AgreesWith (send_of s (books_in books)) (end_at s p).sending
  closed : (s : Side) → (send_of s (books_in books)).closed ≡ true → (send_of s later).written ≡ (send_of s (books_in books)).written
  arrives : (s : Side) → received (reassembly_of s (books_in books)) ≤ received (reassembly_of s later)
  reached_q : EndsAreReached q
  shown_q : Shown q
  hears : HearsDataFins values p q
  go : InquiriesGoOn books steps (Path p) (Path q)
  hardly : HardlyGoesAwry IsSound steps (Path p) (Path q)

end_far : (p q : PathState Carried) → IsPathAsFar p q → (s : Side) → IsEndAsFar (end_at s p) (end_at s q)
end_far p q h A = h.a
end_far p q h B = h.b

same_first : (r : Record) (others : List Record) (e : PathEnd) → e.tcp.send.records ≡ r ∷ others → IsFirst r e
same_first r others e is = record { first = r; others = others; records = is; same = record { pos = refl; kind = refl; piece = refl; mapping = refl } }

module _ (books : StampedBooks) (later : SixBooks) (steps : List Note) (p q : PathState Carried) (t : IsTurn books later steps p q) (s : Side) (place : ℕ) (fin : Bool) (by : ℕ)
    (knows : (fin ≡ true → IsFinHeard (peer s) p) → KnowsWhereItSends (peer s) place p) (h : IsAnswerAwaited (books_in books) s place fin by p) where
  abbrev Goes : Type 0
  Goes = AnswerIsAwaitedOn later s place fin by p q

  abbrev base : ℕ
  base = (end_at s p).tcp.send.una

  -- the ask isn't answered yet, or there is news
  still_goes : IsNews (end_at s p) (end_at s q) ⊎ IsUnansweredAt later s place fin q
  still_goes = unanswered_goes place fin (length (send_of s (books_in books)).written) (length (send_of s later).written) (end_at s p) (end_at s q) (t.kept s) (end_far p q t.far s)
      (same_written (send_of s (books_in books)) (send_of s later) (end_at s p) (t.knows s) (t.agrees s) (t.closed s)) h.unanswered

  rises : (r : Record) → (end_at s p).tcp.send.records ≡ [] → IsFirst r (end_at s q) → Goes
  rises r none first = ask.sends (more_sent s p q (t.known.reached s) (t.reached_q s) t.shown_q (t.kept s).una none r first)

  -- where the end has no record, nor is it answered, it waits on
  waits_on : (inquiry : IsInquired s place fin by q) → (fin ≡ true → IsFinHeard (peer s) q) ⊎ BringsEnd inquiry → Goes
  waits_on inquiry end = ⊎_elim (λ more. ask.held_up (held.news more)) (λ still. by_records still (end_at s q).tcp.send.records refl) still_goes
    where
      by_records : IsUnansweredAt later s place fin q → (rs : List Record) → (end_at s q).tcp.send.records ≡ rs → Goes
      by_records still [] none = ask.on (record { none = none; unanswered = still; has = (let more = t.arrives (peer s) in let few = h.has in omega (arith, more, few)); inquiry = inquiry; end = end })
      by_records still (r ∷ others) is = rises r h.none (same_first r others (end_at s q) is)

  done_goes : (IsOutstanding (end_at s q) → ⊥) → Goes
  done_goes none = ⊎_elim
      (λ more. ask.held_up (held.news more))
      (λ still. absurd (none (is_outstanding q.profile place fin (length (send_of s later).written) (end_at s q) (t.mapped_q s) still)))
      still_goes

  -- the peer's key is known
  has_key : (u : Side) → (end_at u q).modes.peer_key ≡ None → ⊥
  has_key u none = both_ways (is_some (end_at u q).modes.peer_key) (ap is_some none) (t.open_q.keyed u)

  -- the DATA_FIN was heard, or is in its turn
  fin_goes : (IsFinHeard (peer s) q → Goes) → FinGoesOn (peer s) q → Goes
  fin_goes then_so (fins.on is) = then_so is
  fin_goes then_so (fins.gone dead) = absurd (both_ways _ (t.open_q.living (peer s)) dead)
  fin_goes then_so (fins.reset is) = absurd (never_resets q t.open_q.unbroken (peer s) is)
  fin_goes then_so (fins.plain is) = absurd (both_ways _ (t.mapped_q (peer s)).identity is)
  fin_goes then_so (fins.unkeyed none) = absurd (has_key (peer s) none)

  -- what the exchange comes to, where the peer heard all
  inquiry_goes : (fin ≡ true → IsFinHeard (peer s) q) → InquiryGoesOn s place fin by steps p q → Goes
  inquiry_goes came (goes.on inquiry) = waits_on inquiry (inl came)
  inquiry_goes came (goes.record_waits r arrival low none first way) = rises r none first
  inquiry_goes came (goes.done none) = done_goes none
  inquiry_goes came (goes.held_up is) = ask.held_up is
  inquiry_goes came (goes.awry is) = ask.awry (t.hardly t.open_p t.open_q s is)

  by_inquiry : (fin ≡ true → IsFinHeard (peer s) q) → KnowsWhereItSends (peer s) place p → Goes
  by_inquiry came wants = inquiry_goes came (t.go t.faithful s place fin by t.few (past_the_end place fin _ _ h.unanswered) wants h.inquiry)

  -- the peer heard it before
  heard_goes : (fin ≡ true → IsFinHeard (peer s) p) → Goes
  heard_goes came = by_fin fin refl
    where
      wants : KnowsWhereItSends (peer s) place p
      wants = knows came

      by_fin : (b : Bool) → fin ≡ b → Goes
      by_fin false is = by_inquiry (λ so. absurd (both_ways fin is so)) wants
      by_fin true is = fin_goes (λ now. by_inquiry (λ so. now) wants) (t.hears.stays (peer s) (came is))

  -- ---- the DATA_FIN is on its way

  same_goes : q ≡ p → Goes
  same_goes same = waits_there (subst Stage (sym same) (h.inquiry, h.end))
    where
      Stage : PathState Carried → Type 0
      Stage r = (inquiry : IsInquired s place fin by r) × ((fin ≡ true → IsFinHeard (peer s) r) ⊎ BringsEnd inquiry)

      waits_there : Stage q → Goes
      waits_there next = waits_on next.0 next.1

  -- no segment goes as a copy arrives
  wants_none : (others : List Duty) → p.agenda ≡ duties.Step step_duties.Events ∷ others → KnowsWhereItSends (peer s) place p
  wants_none others first = subst (λ ds. IfSome (first_sends ds p) (λ t. t.from ≡ peer s → is_dead (end_at (peer s) p).tcp.state ≡ false → (segment_sent p t).rst ≡ false → place ≤ (end_at (peer s) p).receiving.next)) (sym first) tt

  numbered : (f : Flight Carried) → IsUnderWay f p → f.number < 2 ^ 64 - 1
  numbered f there = let low = under_way (λ g. g.number ≤ segments_sent (peer g.to) p.link) f p there t.known.link.low in let most = t.few (peer f.to) in omega (arith, low, most)

  acked_sent : (f : Flight Carried) (n : ℕ) → IsUnderWay f p → f.carried.segment.rst ≡ false → f.carried.segment.acknowledged ≡ Some n → n ≤ (end_at f.to p).tcp.send.nxt
  acked_sent f n there rst acks =
      let low : n ≤ (end_at (peer f.to) p).tcp.recv.edge = ⊎_elim
      (λ is. absurd (true≢false (sym is ∙ rst)))
      (λ low. subst (λ o. IfSome o (λ n. n ≤ (end_at (peer f.to) p).tcp.recv.edge)) acks low)
      (under_way (AcksWhatCame p) f p there t.known.came.copies) in
      let sent = subst (λ u. (end_at (peer f.to) p).tcp.recv.edge ≤ (end_at u p).tcp.send.nxt) (sender_of f.to) (t.known.was_sent (peer f.to)) in
      omega (arith, low, sent)

  module _ (f : Flight Carried) (there : IsUnderWay f p) (a : IsAsking values s p f) (so : Asks base a.sender a.stripped a.altered)
      (others : List Duty) (first : p.agenda ≡ duties.Step step_duties.Events ∷ others) (next : next_event p ≡ Some (happenings.Arrives (due_of f))) where
    abbrev taker : PathEnd
    taker = end_at (peer s) p

    abbrev x : PlainSegment
    x = ack_resent p.profile s a.sender

    taken_from : (told : ℕ) → OwesItsEnd told a.sender → TakesFrom a.sender taker
    taken_from told owes_it =
        let header : SameHeader x f.carried.segment = changed_said p.profile.spelling s x a.stripped a.altered f.carried a.carried in
        let arrives : AskArrives s p f a.sender = each_ask_arrives s p f a so.0.unstripped so.0.unaltered there (numbered f there) t.known.alike others first next in
        let sent : taker.tcp.recv.edge ≤ (end_at s p).tcp.send.nxt = subst (λ u. taker.tcp.recv.edge ≤ (end_at u p).tcp.send.nxt) (sender_of s) (t.known.was_sent (peer s)) in
        let all = none_left (end_at s p).tcp (t.known.reached s) h.none in
        let at = so.0.nxt in
        let came = t.known.came.una s (t.open_p.living s) in record {
          opened = record { opened = (let past = t.open_p.past (peer s) in omega (arith, past)); living = t.open_p.living (peer s); below_limit = below_limit p t.known (peer s) };
          mapped = (t.mapped_p (peer s)).identity;
          from = omega (arith, sent, all, at);
          within = omega (arith, at, came);
          answered = so.0.edge;
          sent = subst (λ u. a.sender.tcp.recv.edge ≤ (end_at u p).tcp.send.nxt) a.to (acked_sent f a.sender.tcp.recv.edge there (header.rst ∙ arrives.bare.rst)
              (header.acknowledged ∙ ap (λ (y : PlainSegment). y.acknowledged) (asks_so p.profile s a.sender told owes_it)));
        }

    end_comes : (told : ℕ) → OwesItsEnd told a.sender → Goes
    end_comes told owes_it =
        let e : EndComes told p = each_data_fin_comes s p f a so.0.unstripped so.0.unaltered there (numbered f there) t.known.alike others first next (t.faithful.joined (peer s)) told owes_it (taken_from told owes_it) in
        let to : e.brings.copy.due.to ≡ peer s = sym (ap event_side e.brings.copy.next) ∙ ap event_side next ∙ a.to in
        ⊎_elim
        (λ same. same_goes same)
        (λ go. fin_goes (λ now. by_inquiry (λ is. now) (wants_none others first)) (subst (λ u. FinGoesOn u q) to go))
        (t.hears.tells e.brings e.index told e.says)

    ask_comes : Goes
    ask_comes = ⊎_elim (λ none. absurd (both_ways (is_data_fin_owed a.sender) none so.1)) (λ owes_it. end_comes owes_it.0 owes_it.1) so.0.ends

  asking_goes : (arrival : ℕ) → arrival + 400 ≤ by → (go : AskingGoesOn values s arrival p q) → AskComesSo (Asks base) go → Goes
  asking_goes arrival soon (asking.on next) so = ⊎_elim
      (λ more. ask.held_up (held.news (news.on_subflow more)))
      (λ low. (let same : (end_at s q).tcp.send.una ≡ base = (let up = (t.kept s).una in omega (arith, low, up)) in let parts = parts_so (IsAskedPlainly base) Owes next so in
      waits_on (asks arrival (omega (arith, soon)) next (subst (λ n. IsAskedSo (IsAskedPlainly n) next) (sym same) parts.0)) (inr parts.1)))
      (cases_lt base (end_at s q).tcp.send.una)
  asking_goes arrival soon (asking.arrives f in_time there a others first next) so = ask_comes f there a so others first next
  asking_goes arrival soon (asking.record_waits r none first way ungone) so = rises r none first
  asking_goes arrival soon (asking.news is) so = ask.held_up (held.news is)
  asking_goes arrival soon (asking.done none) so = done_goes none
  asking_goes arrival soon (asking.harmed is) so = ask.held_up (held.harmed s is)
  asking_goes arrival soon (asking.gone dead) so = absurd (both_ways _ (t.open_q.living s) dead)
  asking_goes arrival soon (asking.dies line next is dead) so = ask.held_up (held.dies line next is dead)

  -- the end asks plainly, as it sends
  asks_plainly : fin ≡ true → (end_at s p).tcp.send.records ≡ [] → Asks base (end_at s p) (is_stripped s (next_number s p.link) p.clock p.link.lines) (is_altered s (next_number s p.link) p.link.lines)
  asks_plainly is none = (plainly, owed)
    where
      e : PathEnd
      e = end_at s p

      sent : (e.sending.fin_sent ≡ true) × (e.sending.close.own_acked ≡ false)
      sent = by_unanswered h.unanswered
        where
          by_unanswered : IsUnansweredAt (books_in books) s place fin p → (e.sending.fin_sent ≡ true) × (e.sending.close.own_acked ≡ false)
          by_unanswered (data_fin so behind sent open_end) = (sent, open_end)
          by_unanswered (bytes so has low) = absurd (both_ways fin so is)

      owed : is_data_fin_owed e ≡ true
      owed = owed_so e.modes.identity (is_some e.modes.own_infinite) e.sending.fin_sent e.sending.close.own_acked (t.mapped_p s).identity (ap is_some (t.mapped_p s).own) sent.0 sent.1

      third : e.modes.owes_third ≡ false
      third = t.open_p.third s

      close : e.notices.fast_closed ≡ false
      close = not_true e.notices.fast_closed (λ is. (t.alone s).carries ((t.knows s).closed is))

      ends : (told : Option ℕ) → e.sending.known_end ≡ told → is_some told ≡ true → (told : ℕ) × OwesItsEnd told e
      ends None at some = absurd (true≢false (sym some))
      ends (Some told) at some = (
        told,
        record {
          third = third;
          close = close;
          owed = owed;
          clear = t.open_p.clear s;
          mapped = (t.mapped_p s).identity;
          end = at;
          low = (let low : e.receiving.next < 2 ^ 31 = (t.known.tells s).window.next in omega (arith, low));
          fair = (let low : told < 2 ^ 31 = subst (λ o. IfSome o (λ n. n < 2 ^ 31)) at (t.known.tells s).stream.known_end in omega (arith, low));
        },
      )

      plainly : IsAskedPlainly base e (is_stripped s (next_number s p.link) p.clock p.link.lines) (is_altered s (next_number s p.link) p.link.lines)
      plainly = record {
        una = refl;
        nxt = sym (none_left e.tcp (t.known.reached s) none);
        third = third;
        close = close;
        ends = inr (ends e.sending.known_end refl ((t.knows s).ended sent.0));
        edge = t.known.edge s;
        unstripped = t.faithful.whole.strips s (next_number s p.link) p.clock;
        unaltered = t.faithful.plain.alters s (next_number s p.link);
      }

  -- what the end asks brings its DATA_FIN
  brings_goes : fin ≡ true → AsksComeSo (Asks base) values (Path p) (Path q) → (inquiry : IsInquired s place fin by p) → BringsEnd inquiry → Goes
  brings_goes is come (asks arrival soon next so) owes_it = (let go = come s arrival (t.few s) (asks_plainly is) next (both_so (IsAskedPlainly base) Owes next so owes_it) in asking_goes arrival soon go.0 go.1)
  brings_goes is come (answered high next so) owes_it = absurd owes_it
  brings_goes is come (heard next enough is_heard) owes_it = absurd owes_it

  awaited_goes : AsksComeSo (Asks base) values (Path p) (Path q) → Goes
  awaited_goes come = ⊎_elim heard_goes (λ owes_it. by_fin fin refl owes_it) h.end
    where
      by_fin : (b : Bool) → fin ≡ b → BringsEnd h.inquiry → Goes
      by_fin true is owes_it = brings_goes is come h.inquiry owes_it
      by_fin false is owes_it = heard_goes (λ so. absurd (both_ways fin is so))

-- ---- an actor

-- what the laws say of it, and of what the turn makes of it
record IsTurnOf (w : WorldState Carried) (later : SixBooks) (lines : List ScriptLine) (steps : List Note) (m n : Actor Carried) : Type 1 where
  shown : OfPaths Shown m
  reached : OfPaths EndsAreReached m
  came : OfPaths HasCome m
  was_sent : OfPaths WasSent m
  link_is : LinkMember m
  alike : OfPaths CopiesArriveSo m
  past : OfPaths (λ p. ComesFrom p.clock p) m
  frames : FramesStay m n
  far : IsActorAsFar m n
  kept : EndsKeepWhatWaits m n
  link : OfPaths (LinkIsMild lines) m
  mapped_p : OfPaths EndsGoByMappings m
  mapped_q : OfPaths EndsGoByMappings n
  alone : OfPaths EndsAskForThemselves m
  knows : OfPaths BothKnowTheirEnd m
  agrees : OfPaths (EndsAgreeWith w) m
  closed : (s : Side) → (send_of s (books_in w.books)).closed ≡ true → (send_of s later).written ≡ (send_of s (books_in w.books)).written
  arrives : (s : Side) → received (reassembly_of s (books_in w.books)) ≤ received (reassembly_of s later)
  reached_q : OfPaths EndsAreReached n
  shown_q : OfPaths Shown n
  hears : PathsHearFins values m n
  go : InquiriesGoOn w.books steps m n
  hardly : HardlyGoesAwry IsSound steps m n
  come : (Was : PathEnd → Bool → Bool → Type 0) → AsksComeSo Was values m n

member_goes : (w : WorldState Carried) (later : SixBooks) (lines : List ScriptLine) (steps : List Note) (m n : Actor Carried) → IsTurnOf w later lines steps m n → AnswerIsAwaitedBy IsSound (books_in w.books) later m n
member_goes w later lines steps (Path p) (Path q) x = λ open_p open_q few s place fin by knows h. awaited_goes w.books later steps p q (record {
  known = record { tells = x.shown.tells; behind = x.shown.behind; edge = x.shown.edge; reached = x.reached; came = x.came; was_sent = x.was_sent; link = x.link_is; alike = x.alike; past = x.past };
  open_p = open_p;
  open_q = open_q;
  faithful = record { joined = λ s joined. open_p.past s; whole = x.link.strips; plain = x.link.alters };
  few = few;
  frames = x.frames;
  far = x.far;
  kept = x.kept;
  mapped_p = x.mapped_p;
  mapped_q = x.mapped_q;
  alone = x.alone;
  knows = x.knows.knows;
  agrees = x.agrees.ends;
  closed = x.closed;
  arrives = x.arrives;
  reached_q = x.reached_q;
  shown_q = x.shown_q;
  hears = x.hears;
  go = x.go;
  hardly = x.hardly;
}) s place fin by knows h (x.come (Asks (end_at s p).tcp.send.una))
member_goes w later lines steps (Path p) (App b) x = tt
member_goes w later lines steps (App a) n x = tt

-- ---- how it begins

begins_so : (six : SixBooks) (m : Actor Carried) → OfPaths EndsGoByMappings m → ((Was : PathEnd → Bool → Bool → Type 0) → OfPaths (AskedAtTheEnd Was values) m) → OfPaths (AnswerIsAwaitedFrom IsSound six) m
begins_so six (App a) mapped asked = tt
begins_so six (Path p) mapped asked = λ opened done s none place fin still has.
    let out = is_outstanding p.profile place fin (length (send_of s six).written) (end_at s p) (mapped s) still in
    let next = asked (Asks (end_at s p).tcp.send.una) done s (open_segments (end_at s p).tcp.state (opened.past s) (opened.living s)) none out in
    let parts = parts_so (IsAskedPlainly (end_at s p).tcp.send.una) Owes next.0 next.1 in record {
      none = none;
      unanswered = still;
      has = has;
      inquiry = asks (p.clock + 60000 + 400) (le_refl (p.clock + 60000 + 400 + 400)) next.0 parts.0;
      end = inr parts.1;
    }

-- ---- the world

abbrev Each : (PathState Carried → Type 0) → WorldState Carried → Type 0
Each P w = (actor : ℕ) (c : ActorCrew Carried) → slice_get w.crew actor ≡ Some c → OfPaths P c.member

side_far : (turn : Turn) (w : WorldState Carried) (s : Side) → received (reassembly_of s (books_in w.books)) ≤ received (reassembly_of s (books_in (after_turn values turn w).books))
side_far turn w s = ((goes_on_so values w (turn ∷ [])).sides s).arrival.received

turn_of : (start : Start) (turns : List Turn) (turn : Turn) → IsMildStart start → let w = world_run values turns (opened_world start) in let v = after_turn values turn w in
    (actor : ℕ) (c d : ActorCrew Carried) → slice_get w.crew actor ≡ Some c → slice_get v.crew actor ≡ Some d → IsTurnOf w (books_in v.books) start.lines d.list c.member d.member
turn_of start turns turn mild actor c d was now =
    let w : WorldState Carried = world_run values turns (opened_world start) in
    let v : WorldState Carried = after_turn values turn w in
    let more : List Turn = turns ++ turn ∷ [] in
    let same : world_run values more (opened_world start) ≡ v = run_append values turns (turn ∷ []) (opened_world start) in
    let far = (goes_on_so values w (turn ∷ [])).crew actor c was in
    let size = mild.plain.size in
    let late = nothing_is_overdue values start turns in
    let mapped : MappingIsKept v = subst MappingIsKept same (mapping_is_kept start more mild) in
    let reached : Each EndsAreReached v = subst (Each EndsAreReached) same (λ i x there. (each_is_reached values start more).each i x there) in
    let shown : Each Shown v = subst (Each Shown) same (each_shown start more size mild.fit) in record {
      shown = each_shown start turns size mild.fit actor c was;
      reached = (each_is_reached values start turns).each actor c was;
      came = (what_is_acknowledged_came start turns).each actor c was;
      was_sent = (what_came_was_sent start turns size).each actor c was;
      link_is = (each_link values start turns).each actor c was;
      alike = (copies_arrive_as_sent values start turns).each actor c was;
      past = late.each actor c was;
      frames = same_actor (λ x. FramesStay c.member x.member) v actor d now (frames_stay values w turn actor c was);
      far = subst (λ (x : ActorCrew Carried). IsActorAsFar c.member x.member) (same_Some far.0 d (sym far.1 ∙ now)) far.2.member;
      kept = same_actor (λ x. EndsKeepWhatWaits c.member x.member) v actor d now (what_waits_is_kept values w (turn ∷ []) actor c was);
      link = (links_are_mild values start turns mild).each actor c was;
      mapped_p = (mapping_is_kept start turns mild).each actor c was;
      mapped_q = mapped.each actor d now;
      alone = ends_ask_for_themselves start turns mild actor c was;
      knows = each_knows start turns size actor c was;
      agrees = ends_agree start turns size actor c was;
      closed = closed_stays turn w;
      arrives = side_far turn w;
      reached_q = reached actor d now;
      shown_q = shown actor d now;
      hears = same_actor (λ x. PathsHearFins values c.member x.member) v actor d now (each_data_fin_counts values w turn actor c was);
      go = same_actor (λ x. InquiriesGoOn w.books x.list c.member x.member) v actor d now (each_ask_is_answered.goes_on start turns size mild.fit turn actor c was);
      hardly = sound_ends_hardly_go_awry start turns turn mild actor c d was now;
      come = λ Was. same_actor (λ x. AsksComeSo Was values c.member x.member) v actor d now (asks_come_so Was values w late ((what_is_sent_comes_soon values).numbered start turns) turn actor c was);
    }

pub sound_asks_are_answered : AsksAreAnswered IsSound
sound_asks_are_answered = record {
  begin = λ start turns mild actor c there. let w : WorldState Carried = world_run values turns (opened_world start) in
      begins_so (books_in w.books) c.member ((mapping_is_kept start turns mild).each actor c there) (λ Was. asked_at_the_end Was values start turns actor c there);
  goes_on = λ start turns turn mild actor c d was now. let w : WorldState Carried = world_run values turns (opened_world start) in
      member_goes w (books_in (after_turn values turn w).books) start.lines d.list c.member d.member (turn_of start turns turn mild actor c d was now);
}

-- ---- of path 0 where it is open

abbrev OpenIsSound : Actor Carried → Type 0
OpenIsSound = OfPaths (λ p. IsOpen p → IsSound p)

open_begins : (six : SixBooks) (m : Actor Carried) → OpenIsSound m → OfPaths (AnswerIsAwaitedFrom IsSound six) m → OfPaths (AnswerIsAwaitedFrom IsOpen six) m
open_begins six (App a) sound h = tt
open_begins six (Path p) sound h = λ open_p. h (sound open_p)

open_goes : (six later : SixBooks) (m n : Actor Carried) → OpenIsSound m → OpenIsSound n → AnswerIsAwaitedBy IsSound six later m n → AnswerIsAwaitedBy IsOpen six later m n
open_goes six later (Path p) (Path q) sound_p sound_q h = λ open_p open_q. h (sound_p open_p) (sound_q open_q)
open_goes six later (Path p) (App b) sound_p sound_q h = tt
open_goes six later (App a) n sound_p sound_q h = tt

pub open_asks_are_answered : OpenAsksAreAnswered
open_asks_are_answered = record {
  begin = λ start turns mild actor c there. open_begins (books_in (world_run values turns (opened_world start)).books) c.member (each_open_is_sound start turns mild actor c there) (sound_asks_are_answered.begin start turns mild actor c there);
  goes_on = λ start turns turn mild actor c d was now. let w : WorldState Carried = world_run values turns (opened_world start) in
      open_goes (books_in w.books) (books_in (after_turn values turn w).books) c.member d.member (each_open_is_sound start turns mild actor c was) (sound_after start turns turn mild actor d now) (sound_asks_are_answered.goes_on start turns turn mild actor c d was now);
}
