-- A side knows the window that its peer's SYN told, which isn't shut, before its end asks for bytes. So as long as its end was granted none it was
-- refused none for a window that is shut.
use Rattle.std.proofs.Common.{Bool, Err, IfSome, List, None, Ok, Option, Result, Some, [], ap, arith, false, if◌then◌else◌, inl, inr, length, max, nat_le, nat_lt, refl, subst, sym, true, true≢false, ℕ, ⊎_elim, ◌&&◌, ◌+◌, ◌-◌, ◌<◌, ◌==◌, ◌||◌, ◌∙◌, ◌∷◌, ◌≡◌, ◌≤◌, ◌⊎◌}
use Rattle.std.specs.List.{position, slice_get}
use Rattle.std.proofs.lemmas.Bool.{and_parts, both_ways, cases_lt, leb-true, ltb-true}
use Rattle.std.proofs.lemmas.Option.{same_Some}
use Rattle.path_segments.specs.Heard.{HeardSegment}
use Rattle.path_segments.specs.Laws.{meant, window_told}
use Rattle.path_segments.specs.Spelled.{PlainSegment}
use Rattle.sides.specs.declared.side.Side.{Side}
use Rattle.sides.specs.declared.side.Side.TheVariants.{A, B}
use Rattle.sides.specs.Side.{peer}
use Rattle.link_script.specs.Places.{same_side}
use Rattle.link_model.specs.Steps.{after_delivery, arriving, is_due}
use Rattle.link_model.specs.declared.flight.Flight.{Flight}
use Rattle.stream_lanes.specs.Words.{Every}
use Rattle.send_book.specs.State.{Sending, acked_len}
use Rattle.send_book.specs.Steps as booking
use Rattle.send_book.specs.Marks.{is_free_for}
use Rattle.send_book.specs.declared.call.SendCall.TheVariants as send_calls
use Rattle.send_book.specs.declared.call.Span.{Span}
use Rattle.send_book.specs.declared.call.Why.{Why}
use Rattle.send_book.specs.declared.call.Why.TheVariants.{Backup, Ended, NothingFree, WindowShut}
use Rattle.reassembly_book.specs.Steps as arriving_book
use Rattle.reassembly_book.specs.Steps.{next_wanted}
use Rattle.subflow_send.specs.Records.{Record}
use Rattle.subflow_tcp.specs.Judging.{meaning_of}
use Rattle.subflow_tcp.specs.States.{is_dead, may_finish}
use Rattle.subflow_tcp.specs.declared.handshake.State.{State}
use Rattle.subflow_tcp.specs.declared.handshake.State.TheVariants as phase
use Rattle.subflow_tcp.specs.declared.verdicts.Meaning.{Meaning}
use Rattle.subflow_tcp.specs.declared.verdicts.Meaning.TheVariants as means
use Rattle.actor_desk.specs.Books.{books_in}
use Rattle.actor_desk.specs.Desk.{SixBooks, after_ask, reassembly_of, reply_of}
use Rattle.actor_desk.specs.Desk.{send_of as book_of}
use Rattle.actor_desk.specs.Words.{is_nil}
use Rattle.actor_desk.specs.declared.ask.Ask.{Ask}
use Rattle.actor_desk.specs.declared.ask.Note.{Note}
use Rattle.actor_desk.specs.declared.ask.Reply.{Reply}
use Rattle.actor_desk.specs.declared.ask.Reply.TheVariants as replies
use Rattle.path_agenda.specs.Agenda.{start_of_turn}
use Rattle.path_agenda.specs.declared.duty.Duty.{Duty}
use Rattle.path_agenda.specs.declared.duty.Duty.TheVariants as duties
use Rattle.path_agenda.specs.declared.duty.AskDuty.{AskDuty}
use Rattle.path_agenda.specs.declared.duty.AskDuty.TheVariants as ask_duties
use Rattle.path_agenda.specs.declared.duty.SendDuty.TheVariants as send_duties
use Rattle.path_agenda.specs.declared.duty.SilentDuty.TheVariants as silent_duties
use Rattle.path_agenda.specs.declared.duty.StepDuty.TheVariants as step_duties
use Rattle.path_agenda.specs.declared.heard.Heard.{Heard}
use Rattle.path_agenda.specs.declared.heard.Heard.TheVariants as says
use Rattle.path_agenda.specs.declared.notice.OwnNotice.{OwnNotice}
use Rattle.path_core.specs.DssIn.{is_clash}
use Rattle.path_core.specs.Fallback.{breaks_by_ack}
use Rattle.path_core.specs.Treating.{item_of}
use Rattle.path_agenda.specs.Words.{first_of}
use Rattle.subflow_tcp.specs.State.{EndState}
use Rattle.subflow_tcp.specs.Segments.{Copy}
use Rattle.path_core.specs.Arrival.{after_judged, copy_of, heard_at, heard_in, judged_in, template_of, told_at}
use Rattle.path_core.specs.DataFin.{is_data_fin_owed, is_shut}
use Rattle.path_core.specs.Duties.{answered, ask_for, passed}
use Rattle.path_core.specs.Emission.{answered_data, answered_grant, data_ask, data_stands, first_record, first_unsent, grant_ask, grant_in, payload_size}
use Rattle.path_core.specs.End.{PathEnd}
use Rattle.path_core.specs.Events.{happens_if}
use Rattle.path_core.specs.Judged.{judged_of}
use Rattle.path_core.specs.Looking.{broken_by, duty_sends, first_sends, heard_sends, segment_sent, send_of, unsent_sends}
use Rattle.path_core.specs.MpJoin.{is_joined}
use Rattle.path_core.specs.OptionsIn.{items_of, options_heard}
use Rattle.path_core.specs.OptionsOut.{ack_said, carried_said, noted_said, record_or_ack, syn_ack_said}
use Rattle.path_core.specs.Profile.{Profile}
use Rattle.path_core.specs.Start.{first_state, waiting_path}
use Rattle.path_core.specs.State.{PathState, at_tick, end_at, goes_on, path_of, with_agenda}
use Rattle.path_core.specs.Steps.{answers, asks_first, asks_of, begins_turn, next_round, settles_down, takes}
use Rattle.path_core.specs.Turns.{FirstStands}
use Rattle.path_core.specs.Values.{Carried, as_arrived, values}
use Rattle.path_core.specs.declared.events.Event.TheVariants as happenings
use Rattle.path_core.specs.declared.judged.Judged.{Judged}
use Rattle.path_core.specs.declared.judged.Judged.TheVariants as judged
use Rattle.subflow_tcp.specs.State.{has_records}
use Rattle.world_laws.specs.declared.member.Member.TheVariants.{App, Path}
use Rattle.world_laws.specs.Actors.{Actor, ActorCrew}
use Rattle.world_laws.specs.Openings.{PathPlan, Start, opened_world, path_begins}
use Rattle.world_laws.specs.Promises.{HasRoom, arrived_at, written_by}
use Rattle.world_laws.specs.RoundDone.{reached}
use Rattle.world_laws.specs.RoundNumbers.{taken_len}
use Rattle.world_laws.specs.Worlds.{Turn, WorldState}
use Rattle.world_laws.specs.Writes.{EndView, side_of, writes}
use Rattle.world_laws.proofs.Rounds.Lifting.{opened_lifted}
use Rattle.world_laws.proofs.Whole.Ends.{MeansIs, means_so}
use Rattle.world_laws.proofs.Worlds.Finding.{find_every, one_side}
use Rattle.world_laws.proofs.Writes.Paths.{passes_no_more, writes_no_more}
use Rattle.world_laws.proofs.Writes.Steps.{Lasts, begins_lasts, both_ends, settled_lasts, unwritten}
use Rattle.world_laws.proofs.Keys.WhatWakes.{next_happens}
use Rattle.stream_lanes.specs.Duo.{Duo, after_events}
use Rattle.world_laws.proofs.Lanes.Beginning.{each_run_shows}
use Rattle.world_laws.proofs.Lanes.OfAWorld.{Links, WorldShows, anyhow, anyhow_free, first_duo, free_run}
use Rattle.world_laws.proofs.Worlds.CastLifting.{each_actor}
use Rattle.whole_paths.specs.AsFar.{stage}
use Rattle.whole_paths.specs.Between.{EachPathBetween}
use Rattle.whole_paths.specs.Brought.{Comes, IsTo}
use Rattle.whole_paths.specs.Finish.{IsPathAt}
use Rattle.whole_paths.specs.Mild.{IsMildStart, LinkIsMild}
use Rattle.whole_paths.specs.Offered.{Offers, OffersOn, OffersUpTo}
use Rattle.whole_paths.specs.Opening.{opens_to}
use Rattle.whole_paths.specs.OpeningStates.{GoByTheHandshake, IsOfA, IsOfB}
use Rattle.whole_paths.specs.OpeningStates.{IsOfB as of_b}
use Rattle.whole_paths.specs.OpeningWaits.{IsAlive}
use Rattle.whole_paths.specs.Rising.{OpensBy}
use Rattle.whole_paths.specs.Rising.{OpensBy as opens_by}
use Rattle.whole_paths.proofs.Books.{side_up}
use Rattle.whole_paths.proofs.ByTurns.{Of, OfBooked, OfFirst, each_booked}
use Rattle.whole_paths.proofs.Clearing.{past_met}
use Rattle.whole_paths.proofs.EdgesStay.{alive_before}
use Rattle.whole_paths.proofs.Handshaking.{AllFar, Given, PathMet, each_met, given, never_joins, never_waits, next_far, takes_far}
use Rattle.whole_paths.proofs.Mild.{links_are_mild}
use Rattle.whole_paths.proofs.Offered.{settled_offers, sizes_stay, start_asks, what_is_taken_is_offered}
use Rattle.whole_paths.proofs.OpenCourses.{IsFirstPath, each_first}
use Rattle.whole_paths.proofs.OpeningStates.{ends_go_by_the_handshake}
use Rattle.whole_paths.proofs.PositionCounts.{first_counts_bytes}
use Rattle.whole_paths.proofs.LoneFirst.{IsUnjoined, each_lone_moment, unjoined_before}
use Rattle.whole_paths.proofs.Wanted.{KnowsNoMore, first_knows_no_more}
use Rattle.whole_paths.proofs.Rising.{begins_dead, next_dead, takes_open}
use Rattle.whole_paths.proofs.Saying.{ToSend}
use Rattle.whole_paths.proofs.Turns.{TellsSteps, paths_between}
use Rattle.whole_paths.proofs.UnderWay.{OfSent, next_all, none_begins, takes_all}
use Rattle.whole_paths.specs.OpeningStates.{IsOfA as of_a}

-- ---- an end tells the window that its book told it

module _ (c : Profile) (s : Side) (e : PathEnd) where
  abbrev Told : PlainSegment → Type 0
  Told x = x.window ≡ e.receiving.window

  or_ack : (o : Option Record) → Told (record_or_ack c s o e)
  or_ack None = refl
  or_ack (Some r) = refl

  noted : (o : Option OwnNotice) → Told (noted_said c s o e)
  noted None = refl
  noted (Some notice) = refl

  carried : (o : Option ℕ) → Told (carried_said c s o e)
  carried None = refl
  carried (Some key) = refl

  answer : (b : Bool) → Told (if b then syn_ack_said c s e else ack_said c s e.tcp.send.nxt None e)
  answer true = refl
  answer false = refl

  resent : (records third close fin : Bool) → Told (if records then record_or_ack c s (first_record e) e
      else (if third then ack_said c s e.tcp.send.nxt None e
      else (if close then carried_said c s e.notices.carrier e
      else (if fin then ack_said c s e.tcp.send.nxt e.sending.known_end e
      else ack_said c s (e.tcp.send.una - 1) None e))))
  resent true third close fin = or_ack (first_record e)
  resent false true close fin = refl
  resent false false true fin = carried e.notices.carrier
  resent false false false true = refl
  resent false false false false = refl

module _ (p : PathState Carried) where
  -- so it is of the segment that is sent
  abbrev pub AllTold : Option ToSend → Type 0
  AllTold o = IfSome o (λ (t : ToSend). (segment_sent p t).window ≡ (end_at t.from p).receiving.window)

  broken_told : (s : Side) (reason : ℕ) → AllTold (broken_by s reason p)
  broken_told s reason = elim (end_at s p).treated.asked as (λ b. AllTold (if b then None else send_of (send_duties.BreakReset s reason))) [ true ↦ tt | false ↦ refl ]

  unsent_told : (s : Side) (o : Option Record) → AllTold (unsent_sends s o)
  unsent_told s None = tt
  unsent_told s (Some r) = or_ack p.profile s (end_at s p) (first_unsent (end_at s p))

  heard_told : (s : Side) (o : Option Heard) → AllTold (heard_sends s o p)
  heard_told s (Some (says.Mapping fin)) = elim (is_clash (end_at s p)) as (λ b. AllTold (if b then broken_by s 1 p else None)) [ true ↦ broken_told s 1 | false ↦ tt ]
  heard_told s _ = tt

  pub duty_told : (d : Duty) → AllTold (duty_sends d p)
  duty_told (duties.Step (step_duties.Data s)) = unsent_told s (first_unsent (end_at s p))
  duty_told (duties.Step (step_duties.Heard s index)) = heard_told s (item_of index (end_at s p))
  duty_told (duties.Step (step_duties.PlainAck s)) = elim (breaks_by_ack p.profile (end_at s p)) as (λ b. AllTold (if b then broken_by s 6 p else None)) [ true ↦ broken_told s 6 | false ↦ tt ]
  duty_told (duties.Step (step_duties.Unmapped s)) = broken_told s 6
  duty_told (duties.Send (send_duties.Syn s)) = or_ack p.profile s (end_at s p) (first_unsent (end_at s p))
  duty_told (duties.Send (send_duties.Again s)) = or_ack p.profile s (end_at s p) (first_record (end_at s p))
  duty_told (duties.Send (send_duties.FastClose s)) = carried p.profile s (end_at s p) (end_at s p).notices.carrier
  duty_told (duties.Send (send_duties.Notice s)) = noted p.profile s (end_at s p) (first_of (end_at s p).notices.queue)
  duty_told (duties.Send (send_duties.Refuse s)) = refl
  duty_told (duties.Send (send_duties.ResetAnswer s)) = refl
  duty_told (duties.Send (send_duties.Answer s)) = answer p.profile s (end_at s p) (end_at s p).tcp.due.syn_ack
  duty_told (duties.Send (send_duties.Resend s)) =
      let e : PathEnd = end_at s p in resent p.profile s e (has_records e.tcp) e.modes.owes_third e.notices.fast_closed (is_data_fin_owed e)
  duty_told (duties.Send (send_duties.BreakReset s reason)) = refl
  duty_told (duties.Send (send_duties.Reset s)) = refl
  duty_told (duties.Send (send_duties.ResetNoted s)) = refl
  duty_told (duties.Send (send_duties.Update s)) = refl
  duty_told (duties.Send (send_duties.Acknowledge s)) = refl
  duty_told (duties.Send (send_duties.DataFin s)) = refl
  duty_told (duties.Send (send_duties.Fin s)) = refl
  duty_told (duties.Send (send_duties.SynAck s)) = refl
  duty_told _ = tt

  pub first_told : AllTold (first_sends p.agenda p)
  first_told = by p.agenda
    where
      by : (ds : List Duty) → AllTold (first_sends ds p)
      by [] = tt
      by (d ∷ ds) = duty_told d

-- ---- copies to a side

-- a reset, or one that tells so great a window; or the side's end has its peer's SYN
abbrev CopyOffers : ℕ → Side → PathState Carried → Flight Carried → Type 0
CopyOffers least s p f = f.to ≡ s → (f.carried.segment.rst ≡ true) ⊎ ((least ≤ f.carried.segment.window) ⊎ (2 ≤ stage (end_at s p).tcp.state))

-- as it sends before then the peer knows such a window
abbrev pub FirstWindow : ℕ → Side → PathState Carried → Type 0
FirstWindow least s p = stage (end_at s p).tcp.state ≤ 1 → IfSome (first_sends p.agenda p) (λ (t : ToSend). t.from ≡ peer s → ((segment_sent p t).rst ≡ true) ⊎ (least ≤ (segment_sent p t).window))

all_later : (least : ℕ) (s : Side) (p q : PathState Carried) → AllFar p q → (fs : List (Flight Carried)) → Every (CopyOffers least s p) fs → Every (CopyOffers least s q) fs
all_later least s p q far fs h = record {
  each = λ i f there to. ⊎_elim (λ rst. inl rst) (λ rest. inr (⊎_elim (λ some. inl some) (λ met. inr (let up = (far.at s).subflow.state in omega (arith, met, up))) rest)) (h.each i f there to);
}

from_peer : (u s : Side) → peer u ≡ s → u ≡ peer s
from_peer A s is = ap peer is
from_peer B s is = ap peer is

module _ (start : Start) (s : Side) (least : ℕ) where
  -- what is known of the path at a moment
  record Known (p : PathState Carried) : Type 0 where
    link : LinkIsMild start.lines p
    first_window : IsAlive p → FirstWindow least s p

  sent_offers : (p q : PathState Carried) → Known p → IsAlive p → AllFar p q → OfSent (CopyOffers least s q) (first_sends p.agenda p) p
  sent_offers p q k alive far = ⊎_elim
      (λ low. early (first_sends p.agenda p) (k.first_window alive (omega (arith, low))))
      (λ high. late (first_sends p.agenda p) (let up = (far.at s).subflow.state in omega (arith, high, up)))
      (cases_lt (stage (end_at s p).tcp.state) 2)
    where
      late : (o : Option ToSend) → 2 ≤ stage (end_at s q).tcp.state → OfSent (CopyOffers least s q) o p
      late None two = tt
      late (Some t) two = λ f to carried own. inr (inr two)

      early : (o : Option ToSend) → IfSome o (λ (t : ToSend). t.from ≡ peer s → ((segment_sent p t).rst ≡ true) ⊎ (least ≤ (segment_sent p t).window)) → OfSent (CopyOffers least s q) o p
      early None some = tt
      early (Some t) some = λ f to carried own.
          let is = ap (λ (c : Carried). c.segment) carried in
          ⊎_elim (λ rst. inl (ap (λ (x : PlainSegment). x.rst) is ∙ rst)) (λ more. inr (inl (let same = ap (λ (x : PlainSegment). x.window) is in omega (arith, more, same)))) (some (from_peer t.from s (sym to ∙ own)))

  -- as long as no end is dead
  record AreOffered (p : PathState Carried) : Type 0 where
    copies : IsAlive p → Every (CopyOffers least s p) p.link.under_way

  takes_offered : (r : Reply) (p : PathState Carried) → Known p → AreOffered p → AreOffered (takes values r p)
  takes_offered r p k h = record {
    copies = λ alive.
        let q : PathState Carried = takes values r p in let was = alive_before p q (takes_far r p) alive in
        takes_all (CopyOffers least s q) r p k.link.strips k.link.alters (sent_offers p q k was (takes_far r p)) (all_later least s p q (takes_far r p) p.link.under_way (h.copies was));
  }

  next_offered : (p : PathState Carried) → AreOffered p → AreOffered (next_round p)
  next_offered p h = record {
    copies = λ alive.
        let q : PathState Carried = next_round p in
        next_all (CopyOffers least s q) p (all_later least s p q (next_far p) p.link.under_way (h.copies (alive_before p q (next_far p) alive)));
  }

-- ---- the peer's SYN comes

-- the copy is the SYN to B's end, the SYN/ACK to A's
abbrev brings_syn : Side → Meaning → Bool
brings_syn A (means.Accepts n) = true
brings_syn B means.Opens = true
brings_syn _ _ = false

-- by which its window is told to the side's book
abbrev told_by : Side → AskDuty
told_by A = ask_duties.SynAnswered A
told_by B = ask_duties.SynHeard B

-- the side is told the window next, which is so great
record IsToldNext (least : ℕ) (s : Side) (p : PathState Carried) : Type 0 where
  others : List Duty
  first : p.agenda ≡ duties.Ask (told_by s) ∷ others
  window : least ≤ (end_at s p).tcp.congestion.told.window

told_next : (least : ℕ) (s : Side) (now : ℕ) (h : HeardSegment) (p : PathState Carried) (m : Meaning) → brings_syn s m ≡ true → is_joined p.profile ≡ false → judged_in (is_joined p.profile) s h (end_at s p) ≡ judged.As m → least ≤ h.window
    → IsToldNext least s (settles_down (told_at now s h p))
told_next least s now h p m syn first is some = subst (λ v. IsToldNext least s (settles_down (heard_as v))) (sym is)
    (subst (λ b. IsToldNext least s (settles_down (goes_on s (after_judged p.profile s now h (judged.As m) (end_at s p)) (template_of b s (items_of (is_joined p.profile) s h) (judged.As m)) p))) (sym first) (by s m syn))
  where
    heard_as : Judged → PathState Carried
    heard_as v = goes_on s (after_judged p.profile s now h v (end_at s p)) (template_of (is_joined p.profile) s (items_of (is_joined p.profile) s h) v) p

    by : (s : Side) (m : Meaning) → brings_syn s m ≡ true → IsToldNext least s (settles_down (goes_on s (after_judged p.profile s now h (judged.As m) (end_at s p)) (template_of false s (items_of (is_joined p.profile) s h) (judged.As m)) p))
    by A (means.Accepts n) syn = record { others = _; first = refl; window = some }
    by B means.Opens syn = record { others = _; first = refl; window = some }
    by _ _ syn = absurd (true≢false (sym syn))

-- it has a SYN, and is no reset
with_syn : (s : Side) (m : Meaning) (x : Copy) (e : EndState) → brings_syn s m ≡ true → MeansIs x e m → (x.syn ≡ true) × (x.rst ≡ false)
with_syn A (means.Accepts n) x e syn fits = (fits.1.0, fits.1.1)
with_syn B means.Opens x e syn fits = (fits.1.0, fits.1.1.0)
with_syn _ _ x e syn fits = absurd (true≢false (sym syn))

-- no other copy lets an end go so far
opens_so : (s : Side) (m : Meaning) (x : Copy) (p : PathState Carried) → GoByTheHandshake p → MeansIs x (end_at s p).tcp m → stage (end_at s p).tcp.state < 2 → 2 ≤ opens_to m → brings_syn s m ≡ true
opens_so A (means.Accepts n) x p states fits low far = refl
opens_so B means.Opens x p states fits low far = refl
opens_so A means.Opens x p states fits low far = absurd (never p.a.tcp.state states.a fits.0)
  where
    never : (x : State) → IsOfA x → x ≡ phase.Listen → ⊥
    never x (of_a.waiting is) listens = let both : phase.Waiting ≡ phase.Listen = sym is ∙ listens in cc
    never x (of_a.sent is) listens = let both : phase.SynSent ≡ phase.Listen = sym is ∙ listens in cc
    never x (of_a.past up) listens = (let none = ap stage listens in omega (arith, up, none))
opens_so B (means.Accepts n) x p states fits low far = absurd (never p.b.tcp.state states.b fits.0)
  where
    never : (x : State) → IsOfB x → x ≡ phase.SynSent → ⊥
    never x (of_b.listening is) opening = let both : phase.Listen ≡ phase.SynSent = sym is ∙ opening in cc
    never x (of_b.half_open is) opening = let both : phase.SynReceived ≡ phase.SynSent = sym is ∙ opening in cc
    never x (of_b.past up) opening = (let one = ap stage opening in omega (arith, up, one))
opens_so s (means.Taken pos n) x p states fits low far = absurd (let two = past_met (end_at s p).tcp.state fits.0 in omega (arith, two, low))
opens_so s _ x p states fits low far = absurd (omega (arith, far))

-- what the copy means
module _ (s : Side) (p : PathState Carried) (first : is_joined p.profile ≡ false) (c : Comes values p) (to_s : c.due.to ≡ s) (m : Meaning) (is : IsTo values p c (judged.As m)) where
  abbrev h : HeardSegment
  h = options_heard (end_at c.due.to p) c.segment

  fits : MeansIs (copy_of h) (end_at c.due.to p).tcp m
  fits = subst (MeansIs (copy_of h) (end_at c.due.to p).tcp)
      (same_as (meaning_of (copy_of h) (end_at c.due.to p).tcp) m (sym (ap (λ j. judged_of j h.rst (items_of j c.due.to h) (meaning_of (copy_of h) (end_at c.due.to p).tcp) (end_at c.due.to p)) first) ∙ is)) (means_so (copy_of h) (end_at c.due.to p).tcp)
    where
      same_as : (x y : Meaning) → judged.As x ≡ judged.As y → x ≡ y
      same_as x y equal = cc

  -- where it has the SYN
  module _ (least : ℕ) (small : least ≤ 65535) (copies : Every (CopyOffers least s p) p.link.under_way) (low : stage (end_at s p).tcp.state < 2) (syn : brings_syn s m ≡ true) where
    has : ((copy_of h).syn ≡ true) × ((copy_of h).rst ≡ false)
    has = with_syn s m (copy_of h) (end_at c.due.to p).tcp syn fits

    window_some : least ≤ c.segment.window
    window_some = by (arriving c.due p.link) refl c.heard
      where
        open_window : (x : PlainSegment) → x.syn ≡ true → least ≤ x.window → least ≤ (meant x).window
        open_window x syn some = subst (λ b. least ≤ window_told b x.window) (sym syn) (omega (arith, some, small))

        by : (o : Option (Flight Carried)) → arriving c.due p.link ≡ o → heard_in values c.due.to o p ≡ Some c.segment → least ≤ c.segment.window
        by None there heard = cc
        by (Some f) there heard =
            let row = find_every (CopyOffers least s p) (is_due c.due) p.link.under_way f copies there in
            let parts = and_parts (f.tick == c.due.tick) (same_side f.to c.due.to && f.number == c.due.copy) row.1 in
            let to = one_side f.to c.due.to (and_parts (same_side f.to c.due.to) (f.number == c.due.copy) parts.1).0 in
            let same : meant (as_arrived f.carried) ≡ c.segment = same_Some _ c.segment heard in
            ⊎_elim
            (λ rst. absurd (both_ways f.carried.segment.rst (ap (λ (x : HeardSegment). x.rst) same ∙ has.1) rst))
            (λ rest. ⊎_elim
            (λ some. subst (λ (x : HeardSegment). least ≤ x.window) same (open_window (as_arrived f.carried) (ap (λ (x : HeardSegment). x.syn) same ∙ has.0) some))
            (λ met. absurd (omega (arith, met, low)))
            rest)
            (row.0 (to ∙ to_s))

    opens_next : (r : Reply) → IsToldNext least s (takes values r p)
    opens_next r =
        let q : PathState Carried = record (at_tick c.due.tick p) { link = after_delivery c.due p.link } in
        subst (λ ds. IsToldNext least s (settles_down (answers values ds r p))) (sym c.first)
        (subst (λ o. IsToldNext least s (settles_down (happens_if values o r p))) (sym c.next)
        (subst (λ o. IsToldNext least s (settles_down (heard_at q.clock c.due.to o q))) (sym c.heard)
        (subst (λ u. judged_in (is_joined p.profile) u (options_heard (end_at u p) c.segment) (end_at u p) ≡ judged.As m → IsToldNext least s (settles_down (heard_at q.clock u (Some c.segment) q))) (sym to_s)
        (λ as_syn. told_next least s q.clock (options_heard (end_at s p) c.segment) q m syn first as_syn window_some) is)))

-- ---- no window is shut

-- the first byte that the path may take is the first one of all, where it took none
first_byte : (path : ℕ) (b : Sending) (from : ℕ) → booking.first_free path b ≡ Some from → taken_len path b.marks ≡ 0 → from ≡ 0
first_byte path b from is none = by (booking.is_for path b.owner) is
  where
    found : (c : Bool) → (if c then Some (taken_len path b.marks) else None) ≡ Some from → from ≡ 0
    found true at = sym (same_Some (taken_len path b.marks) from at) ∙ none
    found false at = cc

    by : (c : Bool) → (if c then position (is_free_for path) b.marks else None) ≡ Some from → from ≡ 0
    by true at = found (nat_lt (taken_len path b.marks) (length b.marks)) at
    by false at = cc

abbrev failed : Why → Result Span Why
failed why = Err why

abbrev given_to : Span → Result Span Why
given_to span = Ok span

same_why : (x y : Why) → failed x ≡ failed y → x ≡ y
same_why x y equal = cc

never_shut : (path most : ℕ) (standby : Bool) (b : Sending) → 1 ≤ b.edge → taken_len path b.marks ≡ 0 → (why : Why) → booking.decision path most standby b ≡ Err why → is_shut why ≡ false
never_shut path most standby b some none why is = by_end (b.aborted || (b.closed && (acked_len b.marks == length b.written))) is
  where
    shut_from : (from : ℕ) → from ≡ 0 → (c : Bool) → nat_le b.edge from ≡ c → (if c then failed WindowShut else given_to (record { from = from; to = from + booking.run_len path most b from })) ≡ failed why → is_shut why ≡ false
    shut_from from zeroth true low at = absurd (let edge = leb-true b.edge from low in omega (arith, edge, zeroth, some))
    shut_from from zeroth false low at = cc

    by_free : (o : Option ℕ) → booking.first_free path b ≡ o → booking.span_at path most b o ≡ Err why → is_shut why ≡ false
    by_free None free at = subst (λ w. is_shut w ≡ false) (same_why NothingFree why at) refl
    by_free (Some from) free at = shut_from from (first_byte path b from free none) (nat_le b.edge from) refl at

    by_standby : (c : Bool) → (if c then failed Backup else booking.span_at path most b (booking.first_free path b)) ≡ Err why → is_shut why ≡ false
    by_standby true at = subst (λ w. is_shut w ≡ false) (same_why Backup why at) refl
    by_standby false at = by_free (booking.first_free path b) refl at

    by_end : (c : Bool) → (if c then failed Ended else (if standby then failed Backup else booking.span_at path most b (booking.first_free path b))) ≡ Err why → is_shut why ≡ false
    by_end true at = subst (λ w. is_shut w ≡ false) (same_why Ended why at) refl
    by_end false at = by_standby standby at

-- a window that is told with no byte acknowledged is known
if_not : {X : Type 0} (c : Bool) (x y : X) → c ≡ false → (if c then x else y) ≡ y
if_not false x y none = refl
if_not true x y none = absurd (true≢false none)

no_less : (n : ℕ) → nat_lt n 0 ≡ false
no_less n = by (nat_lt n 0) refl
  where
    by : (c : Bool) → nat_lt n 0 ≡ c → c ≡ false
    by false is = refl
    by true is = absurd (let low = ltb-true n 0 is in omega (arith, low))

told_edge : (window : ℕ) (b : Sending) → window ≤ (booking.after_call b (send_calls.AckIn 0 window)).edge
told_edge window b =
    let is : (booking.after_call b (send_calls.AckIn 0 window)).edge ≡ max b.edge (0 + window) = ap (λ (x : Sending). x.edge) (if_not (booking.is_future 0 b) b _ (no_less (length b.written + (if b.closed then 1 else 0)))) in
    omega (arith, is)

-- what the end makes of it
granted_unshut : (s : Side) (six : SixBooks) (p : PathState Carried) → 1 ≤ (book_of s six).edge → taken_len (path_of p) (book_of s six).marks ≡ 0 → (end_at s p).sending.shut ≡ false
    → (end_at s (answered_data values s None (reply_of six (grant_ask s p)) p)).sending.shut ≡ false
granted_unshut A six p some none was = by (booking.decision (path_of p) (payload_size p.profile) p.a.modes.standby six.send_a) refl
  where
    by : (o : Result Span Why) → booking.decision (path_of p) (payload_size p.profile) p.a.modes.standby six.send_a ≡ o
        → let r = replies.Send (booking.reply_by o six.send_a) in (answered_grant A (grant_in r) r p).a.sending.shut ≡ false
    by (Ok span) is = refl
    by (Err why) is = never_shut (path_of p) (payload_size p.profile) p.a.modes.standby six.send_a some none why is
granted_unshut B six p some none was = by (booking.decision (path_of p) (payload_size p.profile) p.b.modes.standby six.send_b) refl
  where
    by : (o : Result Span Why) → booking.decision (path_of p) (payload_size p.profile) p.b.modes.standby six.send_b ≡ o
        → let r = replies.Send (booking.reply_by o six.send_b) in (answered_grant B (grant_in r) r p).b.sending.shut ≡ false
    by (Ok span) is = refl
    by (Err why) is = never_shut (path_of p) (payload_size p.profile) p.b.modes.standby six.send_b some none why is

-- a record that is sent changes nothing of it
pub unsent_same : (s : Side) (u : Record) (r : Reply) (p : PathState Carried) → (end_at s (answered_data values s (Some u) r p)).sending.shut ≡ (end_at s p).sending.shut
unsent_same A u r p = refl
unsent_same B u r p = refl

-- the peer's bytes change nothing of it either
pub peer_granted : (s : Side) (o : Option Record) (r : Reply) (p : PathState Carried) → (end_at s (answered_data values (peer s) o r p)).sending.shut ≡ (end_at s p).sending.shut
peer_granted A (Some u) r p = refl
peer_granted B (Some u) r p = refl
peer_granted A None r p = elim (grant_in r) as (λ o. (answered_grant B o r p).a.sending.shut ≡ p.a.sending.shut) [ None ↦ refl | Some grant ↦ refl ]
peer_granted B None r p = elim (grant_in r) as (λ o. (answered_grant A o r p).b.sending.shut ≡ p.b.sending.shut) [ None ↦ refl | Some grant ↦ refl ]

-- no other duty changes it
abbrev pub asks_for_bytes : Duty → Bool
asks_for_bytes (duties.Step (step_duties.Data s)) = true
asks_for_bytes _ = false

shut_unwritten : (d : Duty) → asks_for_bytes d ≡ false → (writes d).own.shut ≡ false
shut_unwritten (duties.Step (step_duties.Data s)) none = absurd (true≢false none)
shut_unwritten (duties.Ask (ask_duties.SynHeard s)) none = refl
shut_unwritten (duties.Send (send_duties.Syn s)) none = refl
shut_unwritten (duties.Silent (silent_duties.Timer s)) none = refl
shut_unwritten _ none = refl

abbrev pub SameShut : PathState Carried → PathState Carried → Type 0
SameShut p q = (s : Side) → (end_at s q).sending.shut ≡ (end_at s p).sending.shut

by_both : (p q : PathState Carried) → (q.a.sending.shut ≡ p.a.sending.shut) × (q.b.sending.shut ≡ p.b.sending.shut) → SameShut p q
by_both p q both A = both.0
by_both p q both B = both.1

pub shut_same : (d : Duty) (r : Reply) (p : PathState Carried) → asks_for_bytes d ≡ false → SameShut p (answered values d r p)
shut_same (duties.Step (step_duties.Data s)) r p other = absurd (true≢false other)
shut_same (duties.Step step_duties.Events) r p other = by_both p (answered values (duties.Step step_duties.Events) r p) (both_ends (λ e f. f.sending.shut ≡ e.sending.shut) A (writes (duties.Step step_duties.Events)) p (answered values (duties.Step step_duties.Events) r p)
    (λ e f only. unwritten false e.sending.shut f.sending.shut refl (ap (λ (v : EndView). v.shut) only.same))
    (λ e f only. unwritten false e.sending.shut f.sending.shut refl (ap (λ (v : EndView). v.shut) only.same)) (writes_no_more values (duties.Step step_duties.Events) r p))
shut_same d r p other = by_both p (answered values d r p) (both_ends (λ e f. f.sending.shut ≡ e.sending.shut) (side_of d) (writes d) p (answered values d r p)
    (λ e f only. unwritten (writes d).own.shut e.sending.shut f.sending.shut (shut_unwritten d other) (ap (λ (v : EndView). v.shut) only.same))
    (λ e f only. unwritten (writes d).other.shut e.sending.shut f.sending.shut refl (ap (λ (v : EndView). v.shut) only.same)) (writes_no_more values d r p))

shut_passed : (d : Duty) (p : PathState Carried) → SameShut p (passed d p)
shut_passed (duties.Step step_duties.Events) p = λ s. refl
shut_passed (duties.Step (step_duties.Data t)) p = λ s. refl
shut_passed d p = by_both p (passed d p) (both_ends (λ e f. f.sending.shut ≡ e.sending.shut) (side_of d) (writes d) p (passed d p)
    (λ e f only. unwritten (writes d).own.shut e.sending.shut f.sending.shut (shut_unwritten d refl) (ap (λ (v : EndView). v.shut) only.same))
    (λ e f only. unwritten (writes d).other.shut e.sending.shut f.sending.shut refl (ap (λ (v : EndView). v.shut) only.same)) (passes_no_more d p))

pub shut_last : Lasts {C = Carried} SameShut
shut_last = record { agenda = λ ds p s. refl; chains = λ p q r x y s. y s ∙ x s; passes = shut_passed }

-- ---- by turns

-- the window is told to the side's book
told_now : (least : ℕ) (s : Side) (six : SixBooks) (p : PathState Carried) → least ≤ (end_at s p).tcp.congestion.told.window → least ≤ (book_of s (after_ask (ask_for values (duties.Ask (told_by s)) p) six)).edge
told_now least A six p some = let known = told_edge p.a.tcp.congestion.told.window six.send_a in omega (arith, some, known)
told_now least B six p some = let known = told_edge p.b.tcp.congestion.told.window six.send_b in omega (arith, some, known)

same_or_peer : (u s : Side) → (u ≡ s) ⊎ (u ≡ peer s)
same_or_peer A A = inl refl
same_or_peer B B = inl refl
same_or_peer A B = inr refl
same_or_peer B A = inr refl

module _ (start : Start) (s : Side) (least : ℕ) (small : least ≤ 65535) (some : 1 ≤ least) where
  -- with these books
  pub record IsUnshut (six : SixBooks) (p : PathState Carried) : Type 0 where
    -- once the end has its peer's SYN its book knows a window, or is told one next
    told : 2 ≤ stage (end_at s p).tcp.state → IsToldNext least s p ⊎ (least ≤ (book_of s six).edge)
    pub open_still : (end_at s p).tcp.send.nxt ≤ 1 → (end_at s p).sending.shut ≡ false

  -- what is known with these books before the turn
  record Before (six : SixBooks) (p : PathState Carried) : Type 0 where
    given : Given start p
    met : PathMet p
    first : is_joined p.profile ≡ false
    states : GoByTheHandshake p
    stood : FirstStands p.agenda p
    copies : IsAlive p → Every (CopyOffers least s p) p.link.under_way
    taken : (end_at s p).tcp.send.nxt ≤ 1 → taken_len (path_of p) (book_of s six).marks ≡ 0

  abbrev GoesOn : SixBooks → SixBooks → List Note → PathState Carried → PathState Carried → Type 0
  GoesOn six after steps p q = Before six p → IsAlive q → (IsAlive p → IsUnshut six p) → IsUnshut after q

  edge_on : (ask : Ask) (six : SixBooks) → least ≤ (book_of s six).edge → least ≤ (book_of s (after_ask ask six)).edge
  edge_on ask six low = let up = (side_up ask six s).send.edge in omega (arith, low, up)

  others_on : (six : SixBooks) (ask : Ask) (steps : List Note) (p : PathState Carried) → GoesOn six (after_ask ask six) steps p p
  others_on six ask steps p before alive h = record {
    told = λ met. ⊎_elim (λ next. inl next) (λ low. inr (edge_on ask six low)) ((h alive).told met);
    open_still = (h alive).open_still;
  }

  module _ (six : SixBooks) (ask : Ask) (p : PathState Carried) (asks : asks_of values p ≡ Some ask) (k : Before six p) (alive : IsAlive (takes values (reply_of six ask) p)) (h : IsUnshut six p) where
    abbrev q : PathState Carried
    q = takes values (reply_of six ask) p

    was : IsAlive p
    was = alive_before p q (takes_far (reply_of six ask) p) alive

    -- the window of the SYN is told now
    now_told : IsToldNext least s p → least ≤ (book_of s (after_ask ask six)).edge
    now_told next =
        let is : ask_for values (duties.Ask (told_by s)) p ≡ ask = same_Some _ ask (ap (λ ds. asks_first values ds p) (sym next.first) ∙ asks) in
        subst (λ x. least ≤ (book_of s (after_ask x six)).edge) is (told_now least s six p next.window)

    opened : stage (end_at s p).tcp.state < 2 → OpensBy values 2 s p → IsToldNext least s q
    opened low (opens_by.copy c to m is far) =
        let x : Copy = copy_of (options_heard (end_at c.due.to p) c.segment) in
        let syn = opens_so s m x p k.states (subst (λ u. MeansIs x (end_at u p).tcp m) to (fits s p k.first c to m is)) low far in
        opens_next s p k.first c to m is least small (k.copies was) low syn (reply_of six ask)
    opened low (opens_by.joins tick next) = absurd (never_waits start p k.given k.met (next_happens p (happenings.Joins tick) next))
    opened low (opens_by.duty d others is joins) = absurd (never_joins start p k.given k.met d others is joins)

    told_then : 2 ≤ stage (end_at s q).tcp.state → IsToldNext least s q ⊎ (least ≤ (book_of s (after_ask ask six)).edge)
    told_then met = ⊎_elim
        (λ low. inl (⊎_elim (λ dead. absurd (both_ways (is_dead (end_at s q).tcp.state) (alive.living s) dead)) (opened low) (takes_open 2 (omega arith) (omega arith) values (reply_of six ask) p s low met)))
        (λ had. ⊎_elim (λ next. inr (now_told next)) (λ low. inr (edge_on ask six low)) (h.told had))
        (cases_lt (stage (end_at s p).tcp.state) 2)

    -- the end asks for bytes once a window was told
    edge_there : (ds : List Duty) → p.agenda ≡ duties.Step (step_duties.Data s) ∷ ds → first_unsent (end_at s p) ≡ None → 1 ≤ (book_of s six).edge
    edge_there ds is none = ⊎_elim
        (λ next. absurd (never next))
        (λ low. let one = some in omega (arith, low, one))
        (h.told (may_stage (end_at s p).tcp.state (and_parts (may_finish (end_at s p).tcp.state) _ (subst (λ o. data_stands p.profile s (end_at s p) o ≡ true) none (subst (λ es. FirstStands es p) is k.stood))).0))
      where
        never : IsToldNext least s p → ⊥
        never next = let both = sym is ∙ next.first in cc

        may_stage : (x : State) → may_finish x ≡ true → 2 ≤ stage x
        may_stage phase.Established may = omega arith
        may_stage phase.CloseWait may = omega arith
        may_stage _ may = absurd (true≢false (sym may))

    unshut_then : (end_at s q).tcp.send.nxt ≤ 1 → (end_at s q).sending.shut ≡ false
    unshut_then few = by p.agenda refl asks k.stood
      where
        few_before : (end_at s p).tcp.send.nxt ≤ 1
        few_before = let up = ((takes_far (reply_of six ask) p).at s).subflow.pushed in omega (arith, few, up)

        data_now : (ds : List Duty) (o : Option Record) → p.agenda ≡ duties.Step (step_duties.Data s) ∷ ds → first_unsent (end_at s p) ≡ o → ask ≡ data_ask values s o (with_agenda (duties.Step (step_duties.Data s) ∷ ds) p)
            → (end_at s (answered_data values s o (reply_of six ask) (with_agenda (duties.Step (step_duties.Data s) ∷ ds) p))).sending.shut ≡ false
        data_now ds None is none asked = subst (λ x. (end_at s (answered_data values s None (reply_of six x) (with_agenda (duties.Step (step_duties.Data s) ∷ ds) p))).sending.shut ≡ false) (sym asked)
            (granted_unshut s six (with_agenda (duties.Step (step_duties.Data s) ∷ ds) p) (edge_there ds is none) (k.taken few_before) (h.open_still few_before))
        data_now ds (Some u) is some asked = unsent_same s u (reply_of six ask) (with_agenda (duties.Step (step_duties.Data s) ∷ ds) p) ∙ h.open_still few_before

        answered_now : (d : Duty) (ds : List Duty) → p.agenda ≡ d ∷ ds → ask ≡ ask_for values d (with_agenda (d ∷ ds) p) → (end_at s (answered values d (reply_of six ask) (with_agenda (d ∷ ds) p))).sending.shut ≡ false
        answered_now (duties.Step (step_duties.Data u)) ds is asked = ⊎_elim
            (λ own. subst (λ u. p.agenda ≡ duties.Step (step_duties.Data u) ∷ ds → ask ≡ ask_for values (duties.Step (step_duties.Data u)) (with_agenda (duties.Step (step_duties.Data u) ∷ ds) p)
            → (end_at s (answered values (duties.Step (step_duties.Data u)) (reply_of six ask) (with_agenda (duties.Step (step_duties.Data u) ∷ ds) p))).sending.shut ≡ false) (sym own)
            (λ first asked. data_now ds (first_unsent (end_at s p)) first refl asked) is asked)
            (λ other. subst (λ u. (end_at s (answered values (duties.Step (step_duties.Data u)) (reply_of six ask) (with_agenda (duties.Step (step_duties.Data u) ∷ ds) p))).sending.shut ≡ false) (sym other)
            (peer_granted s (first_unsent (end_at (peer s) p)) (reply_of six ask) (with_agenda (duties.Step (step_duties.Data (peer s)) ∷ ds) p) ∙ h.open_still few_before))
            (same_or_peer u s)
        answered_now (duties.Step step_duties.Events) ds is asked = shut_same (duties.Step step_duties.Events) (reply_of six ask) (with_agenda (duties.Step step_duties.Events ∷ ds) p) refl s ∙ h.open_still few_before
        answered_now d ds is asked = shut_same d (reply_of six ask) (with_agenda (d ∷ ds) p) refl s ∙ h.open_still few_before

        by : (ds : List Duty) → p.agenda ≡ ds → asks_first values ds (with_agenda ds p) ≡ Some ask → FirstStands ds p → (end_at s (takes values (reply_of six ask) (with_agenda ds p))).sending.shut ≡ false
        by [] is asked due = cc
        by (d ∷ ds) is asked due =
            let y : PathState Carried = answered values d (reply_of six ask) (with_agenda (d ∷ ds) p) in
            settled_lasts SameShut shut_last y.agenda y s ∙ answered_now d ds is (sym (same_Some (ask_for values d (with_agenda (d ∷ ds) p)) ask asked))

  takes_on : (six : SixBooks) (ask : Ask) (steps : List Note) (p : PathState Carried) → asks_of values p ≡ Some ask → TellsSteps (reply_of six ask) steps → GoesOn six (after_ask ask six) steps p (takes values (reply_of six ask) p)
  takes_on six ask steps p asks tells k alive h =
      let now = h (alive_before p (takes values (reply_of six ask) p) (takes_far (reply_of six ask) p) alive) in
      record { told = told_then six ask p asks k alive now; open_still = unshut_then six ask p asks k alive now }

  next_on : (six : SixBooks) (steps : List Note) (p : PathState Carried) → is_nil p.agenda ≡ true → GoesOn six six steps p (next_round p)
  next_on six steps p over k alive h = record {
    told = λ met. ⊎_elim
        (λ low. absurd (both_ways (is_dead (end_at s (next_round p)).tcp.state) (alive.living s) (next_dead 2 (omega arith) (omega arith) values s p low met)))
        (λ had. ⊎_elim (λ next. absurd (true≢false (sym over ∙ ap is_nil next.first))) (λ low. inr low) (now.told had))
        (cases_lt (stage (end_at s p).tcp.state) 2);
    open_still = λ few. begins_lasts SameShut shut_last (record p { clock = p.until; until = p.until + 100 }) s
        ∙ now.open_still (let up = ((next_far p).at s).subflow.pushed in omega (arith, few, up));
  }
    where
      now : IsUnshut six p
      now = h (alive_before p (next_round p) (next_far p) alive)

-- ---- by the lanes

-- the only path is path 0
pub record HasNumber (p : PathState Carried) : Type 0 where
  pub path : path_of p ≡ 0

pub each_numbered : (start : Start) (turns : List Turn) → HasRoom start → OfFirst HasNumber (reached values start turns)
each_numbered start turns size =
    let can = anyhow start size in
    let r = each_run_shows start can turns (free_run can.links (anyhow_free start size) turns (opened_world start)) in
    record { each = λ c there. shown_so can.links (after_events r.events (first_duo can.links start)) r.shows 2 c there refl }
  where
    shown_so : (links : Links) (d : Duo) → WorldShows links start d (reached values start turns)
        → (actor : ℕ) (c : ActorCrew Carried) → slice_get (reached values start turns).crew actor ≡ Some c → actor ≡ 2 → Of HasNumber c.member
    shown_so links d h = subst (λ (w : WorldState Carried). (actor : ℕ) (c : ActorCrew Carried) → slice_get w.crew actor ≡ Some c → actor ≡ 2 → Of HasNumber c.member) (sym h.is)
        (each_actor (λ actor c. actor ≡ 2 → Of HasNumber c.member) h.cast (λ is. tt) (λ is. tt) (λ number x there is.
        (let path = h.paths.each number number x (omega arith) there in record { path = path.numbered ∙ omega (arith, is) })))

-- ---- the world

-- the peer's book takes bytes up to a place, and knows of fewer of the side's before the end has its peer's SYN
-- while B's side joined no path
module _ (start : Start) (mild : IsMildStart start) (s : Side) (at least : ℕ) (small : least ≤ 65535) (some : 1 ≤ least) (room : at ≤ start.buffer)
    (fewer : (turns : List Turn) → IsUnjoined (reached values start turns) → (p : PathState Carried) → IsPathAt 0 (reached values start turns) p → IsAlive p → stage (end_at s p).tcp.state ≤ 1
    → next_wanted (arrived_at (peer s) (reached values start turns)) + least ≤ at) where
  abbrev books_at : List Turn → SixBooks
  books_at turns = books_in (reached values start turns).books

  abbrev TakesFirst : SixBooks → PathState Carried → Type 0
  TakesFirst six p = OffersUpTo six (peer s) at p

  opened_takes : OfBooked values start OffersOn (what_is_taken_is_offered values).goes_on TakesFirst (opened_world start)
  opened_takes = record {
    each = λ c there. (opened_lifted (λ c. Of (TakesFirst (books_in (opened_world {C = Carried} start).books)) c.member) start tt tt (λ number plan at_place. record {
      taken = (let size = sizes_stay values start [] (peer s) in starts_with (peer s) size);
      offered = settled_offers (peer s) at start_of_turn (with_agenda start_of_turn (waiting_path {C = Carried} (path_begins start number plan) start.lines)) (inr (start_asks (peer s)));
    })).each 2 c there;
  }
    where
      starts_with : (u : Side) → (reassembly_of u (books_in (opened_world {C = Carried} start).books)).capacity ≡ start.buffer → at ≤ arriving_book.edge (reassembly_of u (books_in (opened_world {C = Carried} start).books))
      starts_with A size = omega (arith, size, room)
      starts_with B size = omega (arith, size, room)

  takes_at : (turns : List Turn) (p : PathState Carried) → IsPathAt 0 (reached values start turns) p → OffersUpTo (books_at turns) (peer s) at p
  takes_at turns p here = subst (Of (TakesFirst (books_at turns))) here.is
      ((each_booked values start OffersOn (what_is_taken_is_offered values).goes_on TakesFirst opened_takes (λ turns turn steps p q here there on h. on (peer s) at h) turns).each here.crew here.there)

  module _ (turns : List Turn) (p : PathState Carried) (here : IsPathAt 0 (reached values start turns) p) where
    abbrev w : WorldState Carried
    w = reached values start turns

    knows_no_more : KnowsNoMore (books_at turns) p
    knows_no_more = subst (Of (KnowsNoMore (books_at turns))) here.is ((first_knows_no_more values start turns).each here.crew here.there)

    given_here : Given start p
    given_here = subst (Of (Given start)) here.is ((given start mild turns).each here.crew here.there)

    window_said : IsAlive p → next_wanted (arrived_at (peer s) w) + least ≤ at → (o : Option ToSend) → AllTold p o → IfSome o (λ (t : ToSend). t.from ≡ peer s → Offers at (end_at (peer s) p))
        → IfSome o (λ (t : ToSend). t.from ≡ peer s → ((segment_sent p t).rst ≡ true) ⊎ (least ≤ (segment_sent p t).window))
    window_said alive few None told offers = tt
    window_said alive few (Some t) told offers = λ own. by own (segment_sent p t).rst refl
      where
        by : t.from ≡ peer s → (b : Bool) → (segment_sent p t).rst ≡ b → (b ≡ true) ⊎ (least ≤ (segment_sent p t).window)
        by own true is = inl refl
        by own false is = inr
            (let next = knows_no_more (peer s) in
            let window = subst (λ u. (segment_sent p t).window ≡ (end_at u p).receiving.window) own told in
            let offer = offers own in omega (arith, next, window, offer, few))

    first_window : IsUnjoined w → IsAlive p → FirstWindow least s p
    first_window alone alive low = window_said alive (fewer turns alone p here alive low) (first_sends p.agenda p) (first_told p)
        ((what_is_taken_is_offered values).sends (books_at turns) (peer s) at p (takes_at turns p here))

    known_at : IsUnjoined w → Known start s least p
    known_at alone = record { link = subst (Of (LinkIsMild start.lines)) here.is ((links_are_mild values start turns mild).each 2 here.crew here.there); first_window = first_window alone }

  known : (turns : List Turn) → IsUnjoined (reached values start turns) → OfFirst (Known start s least) (reached values start turns)
  known turns alone = record { each = λ c there. by c there c.member refl }
    where
      by : (c : ActorCrew Carried) → slice_get (reached values start turns).crew 2 ≡ Some c → (m : Actor Carried) → c.member ≡ m → Of (Known start s least) m
      by c there (App a) is = tt
      by c there (Path p) is = known_at turns p (record { crew = c; there = there; is = is }) alone

  opened_offered : OfFirst (AreOffered start s least) (opened_world start)
  opened_offered = record {
    each = λ c there. (opened_lifted (λ c. Of (AreOffered start s least) c.member) start tt tt (λ number plan at_place. record { copies = λ alive. none_begins (CopyOffers least s (begins_turn (waiting_path (path_begins start number plan) start.lines))) start number plan })).each 2 c there;
  }

  offered_at : (turns : List Turn) → IsUnjoined (reached values start turns) → (p : PathState Carried) → IsPathAt 0 (reached values start turns) p → AreOffered start s least p
  offered_at turns alone p here = subst (Of (AreOffered start s least)) here.is
      ((each_lone_moment start (Known start s least) (AreOffered start s least) known opened_offered (λ r p k h. takes_offered start s least r p k h) (λ p k h. next_offered start s least p h) turns alone).each here.crew here.there)

  before_at : (turns : List Turn) → IsUnjoined (reached values start turns) → (p : PathState Carried) → IsPathAt 0 (reached values start turns) p → Before start s least small some (books_at turns) p
  before_at turns alone p here = record {
    given = given_here turns p here;
    met = subst (Of PathMet) here.is ((each_met start mild turns).each here.crew here.there);
    first = (subst (Of (IsFirstPath start)) here.is (each_first start turns mild.plain.size here.crew here.there)).first;
    states = subst (Of (λ (x : PathState Carried). GoByTheHandshake x)) here.is ((ends_go_by_the_handshake values start turns).each 2 here.crew here.there);
    stood = (given_here turns p here).upright.passes.settled;
    copies = (offered_at turns alone p here).copies;
    taken = λ few. subst (λ n. taken_len n (written_by s (reached values start turns)).marks ≡ 0) (sym (subst (Of HasNumber) here.is ((each_numbered start turns mild.plain.size).each here.crew here.there)).path)
        (let low = (first_counts_bytes start turns mild alone p here s).taken in omega (arith, low, few));
  }

  -- as long as no end is dead and B's side joined no path
  abbrev Unshut : SixBooks → PathState Carried → Type 0
  Unshut six p = six.control_b.fall.joined ≡ false → IsAlive p → IsUnshut start s least small some six p

  abbrev goes_so : EachPathBetween values (GoesOn start s least small some)
  goes_so = paths_between values (GoesOn start s least small some) (others_on start s least small some) (takes_on start s least small some) (next_on start s least small some)

  opened_unshut : OfBooked values start (GoesOn start s least small some) goes_so Unshut (opened_world start)
  opened_unshut = record {
    each = λ c there. (opened_lifted (λ c. Of (Unshut (books_in (opened_world {C = Carried} start).books)) c.member) start tt tt (λ number plan at_place alone alive.
        (let p : PathState Carried = waiting_path (path_begins start number plan) start.lines in record {
          told = λ high. absurd (let dead = begins_dead 2 (omega arith) (omega arith) values s p (first_low s number plan) high in both_ways (is_dead (end_at s (begins_turn p)).tcp.state) (alive.living s) dead);
          open_still = λ few. begins_lasts SameShut shut_last p s ∙ first_unshut s number plan;
        }))).each 2 c there;
  }
    where
      opening : (o : Option ℕ) → stage (first_state o) < 2
      opening None = omega arith
      opening (Some tick) = omega arith

      first_low : (u : Side) (number : ℕ) (plan : PathPlan) → stage (end_at u (waiting_path {C = Carried} (path_begins start number plan) start.lines)).tcp.state < 2
      first_low A number plan = opening (path_begins start number plan).joined_at
      first_low B number plan = omega arith

      first_unshut : (u : Side) (number : ℕ) (plan : PathPlan) → (end_at u (waiting_path {C = Carried} (path_begins start number plan) start.lines)).sending.shut ≡ false
      first_unshut A number plan = refl
      first_unshut B number plan = refl

  unshut_now : (turns : List Turn) → IsUnjoined (reached values start turns) → (p : PathState Carried) → IsPathAt 0 (reached values start turns) p → IsAlive p → IsUnshut start s least small some (books_at turns) p
  unshut_now turns alone p here alive = (subst (Of (Unshut (books_at turns))) here.is
      ((each_booked values start (GoesOn start s least small some) goes_so Unshut opened_unshut
      (λ turns turn steps p q here there on h alone alive. (let before = unjoined_before start turns turn alone in on (before_at turns before p here) alive (h before))) turns).each here.crew here.there)) alone alive

  pub unshut_at : (turns : List Turn) → IsUnjoined (reached values start turns) → (p : PathState Carried) → IsPathAt 0 (reached values start turns) p → IsAlive p → (end_at s p).tcp.send.nxt ≤ 1 → (end_at s p).sending.shut ≡ false
  unshut_at turns alone p here alive = (unshut_now turns alone p here alive).open_still

  -- where the turn is over the side may send so far, once its end has its peer's SYN
  pub edge_at : (turns : List Turn) → IsUnjoined (reached values start turns) → (p : PathState Carried) → IsPathAt 0 (reached values start turns) p → IsAlive p → 2 ≤ stage (end_at s p).tcp.state → p.agenda ≡ []
      → least ≤ (written_by s (reached values start turns)).edge
  edge_at turns alone p here alive met over = ⊎_elim (λ next. absurd (let both = sym over ∙ next.first in cc)) (λ low. low) ((unshut_now turns alone p here alive).told met)

  -- and where it asks for bytes
  pub edge_asks : (turns : List Turn) → IsUnjoined (reached values start turns) → (p : PathState Carried) → IsPathAt 0 (reached values start turns) p → IsAlive p → 2 ≤ stage (end_at s p).tcp.state → (others : List Duty)
      → p.agenda ≡ duties.Step (step_duties.Data s) ∷ others → least ≤ (written_by s (reached values start turns)).edge
  edge_asks turns alone p here alive met others asks = ⊎_elim (λ next. absurd (let both = sym asks ∙ next.first in cc)) (λ low. low) ((unshut_now turns alone p here alive).told met)
