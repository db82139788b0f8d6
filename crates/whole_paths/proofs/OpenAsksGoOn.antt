-- The exchange of an ask goes on between open ends of a mild connection, or what comes between counts.
use Rattle.std.proofs.Common.{◌≡◌, refl, sym, subst, ap, ◌∙◌, ◌⊎◌, inl, inr, ⊎_elim, ℕ, zero, suc, ◌+◌, ◌<◌, ◌≤◌, arith, Bool, true, false, true≢false, Option, Some, None, is_some, IfSome, List, [], ◌∷◌, ◌++◌, length}
use Rattle.std.specs.List.{AllByRecursion, slice_get}
use Rattle.std.proofs.lemmas.Bool.{both_ways, cases_lt}
use Rattle.std.proofs.lemmas.Option.{same_Some}
use Rattle.sides.specs.declared.side.Side.{Side}
use Rattle.sides.specs.declared.side.Side.TheVariants.{A, B}
use Rattle.sides.specs.Side.{peer}
use Rattle.link_model.specs.declared.flight.Flight.{Flight}
use Rattle.link_script.specs.declared.script.ScriptLine.{ScriptLine}
use Rattle.stream_lanes.specs.Words.{Has}
use Rattle.subflow_send.specs.Records.{Record, end_of, occupied}
use Rattle.subflow_send.specs.declared.record.RecordKind.{RecordKind}
use Rattle.subflow_send.specs.declared.record.RecordKind.TheVariants.{Syn, Data, Fin}
use Rattle.send_book.specs.State.{Sending as SendBook}
use Rattle.subflow_tcp.specs.States.{is_closed_to_segments, is_dead}
use Rattle.subflow_tcp.specs.declared.handshake.State.{State}
use Rattle.subflow_tcp.specs.declared.handshake.State.TheVariants as phase
use Rattle.actor_desk.specs.Books.{books_in}
use Rattle.actor_desk.specs.Desk.{SixBooks, send_of}
use Rattle.actor_desk.specs.declared.ask.Note.{Note}
use Rattle.path_agenda.specs.Agenda.{emission, expired}
use Rattle.path_agenda.specs.declared.duty.Duty.TheVariants as duties
use Rattle.path_agenda.specs.declared.duty.SendDuty.TheVariants as send_duties
use Rattle.path_agenda.specs.declared.heard.Heard.TheVariants as says
use Rattle.path_store.specs.declared.granted_piece.GrantedPiece.{GrantedPiece}
use Rattle.path_core.specs.End.{PathEnd}
use Rattle.path_core.specs.MpJoin.{is_joined}
use Rattle.path_core.specs.Profile.{Profile}
use Rattle.path_core.specs.Sending.{Sending}
use Rattle.path_core.specs.State.{PathState, end_at}
use Rattle.path_core.specs.Values.{Carried, values}
use Rattle.world_laws.specs.declared.member.Member.TheVariants.{App, Path}
use Rattle.world_laws.specs.Actors.{Actor, ActorCrew}
use Rattle.world_laws.specs.Openings.{opened_world}
use Rattle.world_laws.specs.Worlds.{WorldState, Turn, after_turn, world_run}
use Rattle.world_laws.proofs.Numbers.TellSmall.{RecordKindTells}
use Rattle.world_laws.proofs.Weaving.WholeRounds.{run_append}
use Rattle.whole_paths.specs.Answered.{HasAnswered}
use Rattle.whole_paths.specs.Answered.IsDone.{over}
use Rattle.whole_paths.specs.AsFar.{IsActorAsFar, IsEndAsFar, IsPathAsFar, stage}
use Rattle.whole_paths.specs.Copies.{IsUnderWay}
use Rattle.whole_paths.specs.DataAcksAsked.{IsAskedAgain as ways}
use Rattle.whole_paths.specs.DataAcksExchanged.{InquiriesBegin, InquiriesGoOn, InquiryGoesOn, IsInquired}
use Rattle.whole_paths.specs.DataAcksExchanged.{InquiryGoesOn as goes}
use Rattle.whole_paths.specs.DataAcksExchanged.IsInquired.{asks, answered, heard}
use Rattle.whole_paths.specs.DataAcksHeard.{IsHeard, IsToHear}
use Rattle.whole_paths.specs.DataAcksHeard.{IsHeard as hears}
use Rattle.whole_paths.specs.Exchanges.{IsHeldUp as held}
use Rattle.whole_paths.specs.Expiries.{IsToSendAgain}
use Rattle.whole_paths.specs.Flights.{IsFirst}
use Rattle.whole_paths.specs.InTime.{ComesFrom}
use Rattle.whole_paths.specs.Kept.{AreKept, EndsKeepWhatWaits, KeepsWhatWaits}
use Rattle.whole_paths.specs.Mild.{EndsGoByMappings, GoesByMappings, IsPromisedMildly, LinkIsMild}
use Rattle.whole_paths.specs.OpenAsks.{AskBegins, AskGoesOn, AskGoesOnBy, AskIsDue, AskWaits, HardlyGoesAwry, IsUnanswered, IsUnansweredAt, OpenAsksAreInTime, OpenAsksGoOn, WaitsForAnswer}
use Rattle.whole_paths.specs.OpenAsks.{AskGoesOn as ask}
use Rattle.whole_paths.specs.OpenAsks.{WaitsForAnswer as waits}
use Rattle.whole_paths.specs.OpenAsks.IsUnanswered.{data_fin, bytes}
use Rattle.whole_paths.specs.Owed.IsAnswered.{owes, flies}
use Rattle.whole_paths.specs.Reasons.{IsOutstanding}
use Rattle.whole_paths.specs.Reasons.{IsOutstanding as outstanding}
use Rattle.whole_paths.specs.Straying.{IsOpen}
use Rattle.whole_paths.specs.Waits.{IsNews}
use Rattle.whole_paths.specs.Waits.{IsNews as news}
use Rattle.whole_paths.proofs.Acking.{same_actor}
use Rattle.whole_paths.proofs.DataAcksExchanged.{each_ask_is_answered}
use Rattle.whole_paths.proofs.Endings.{BothKnowTheirEnd, KnowsItsEnd}
use Rattle.whole_paths.proofs.Exchanges.{OfPaths, Shown, all_at, each_shown}
use Rattle.whole_paths.proofs.GoesOn.{goes_on_so}
use Rattle.whole_paths.proofs.InTime.{nothing_is_overdue}
use Rattle.whole_paths.proofs.Keeping.{what_waits_is_kept}
use Rattle.whole_paths.proofs.Mild.{links_are_mild, mapping_is_kept}
use Rattle.whole_paths.proofs.OpenAsks.{AsksForItself, EndsAskForThemselves, ends_ask_for_themselves, open_ends_hardly_go_awry}
use Rattle.whole_paths.proofs.OpenPieces.{AgreesWith, EndsAgreeWith, closed_stays, each_knows, ends_agree}
use Rattle.whole_paths.proofs.Owing.{copies_are_answered}
use Rattle.whole_paths.proofs.Reached.{EndsAreReached, IsReached, each_is_reached, first_waits, none_left}
use Rattle.whole_paths.proofs.Arrivals.{first_joins}

-- ---- what isn't answered

-- a granted piece stays, or all of it is acknowledged
kept_piece : (n : ℕ) (xs ys : List GrantedPiece) → AreKept (λ (x : GrantedPiece). x.to ≤ n) (λ (x y : GrantedPiece). y ≡ x) xs ys → (i : ℕ) (x : GrantedPiece) → slice_get xs i ≡ Some x
    → (x.to ≤ n) ⊎ Has (λ y. y ≡ x) ys
kept_piece n [] ys kept i x there = cc
kept_piece n (z ∷ xs) [] kept zero x there = let same : z ≡ x = cc in inl (subst (λ (y : GrantedPiece). y.to ≤ n) same kept.0)
kept_piece n (z ∷ xs) [] kept (suc i) x there = kept_piece n xs [] kept.1 i x there
kept_piece n (z ∷ xs) (y ∷ ys) (inl gone) zero x there = let same : z ≡ x = cc in inl (subst (λ (y : GrantedPiece). y.to ≤ n) same gone.0)
kept_piece n (z ∷ xs) (y ∷ ys) (inl gone) (suc i) x there = kept_piece n xs (y ∷ ys) gone.1 i x there
kept_piece n (z ∷ xs) (y ∷ ys) (inr stays) zero x there = let same : z ≡ x = cc in inr (record { at = 0; item = y; there = refl; holds = stays.0 ∙ same })
kept_piece n (z ∷ xs) (y ∷ ys) (inr stays) (suc i) x there = ⊎_elim
    (λ low. inl low)
    (λ has. inr (record { at = suc has.at; item = has.item; there = has.there; holds = has.holds }))
    (kept_piece n xs ys stays.1 i x there)

-- what is unanswered stays unanswered, or there is news
pub unanswered_goes : (place : ℕ) (fin : Bool) (written later : ℕ) (e f : PathEnd) → KeepsWhatWaits e f → IsEndAsFar e f → (e.sending.fin_sent ≡ true → later ≡ written) → IsUnanswered place fin written e.sending
    → IsNews e f ⊎ IsUnanswered place fin later f.sending
unanswered_goes place fin written later e f kept far same (data_fin is behind sent open_end) = by f.sending.close.own_acked refl
  where
    by : (b : Bool) → f.sending.close.own_acked ≡ b → IsNews e f ⊎ IsUnanswered place fin later f.sending
    by true acked = inl (news.data_fin open_end acked)
    by false unacked = inr (data_fin is (let at = same sent in omega (arith, at, behind)) (far.stream.fin_sent sent) unacked)
unanswered_goes place fin written later e f kept far same (bytes is has low) = ⊎_elim
    (λ still. ⊎_elim
    (λ over. absurd (let high = has.holds in omega (arith, over, still, high)))
    (λ there. inr (bytes is (record { at = there.at; item = there.item; there = there.there; holds = subst (λ (y : GrantedPiece). place ≤ y.to) (sym there.holds) has.holds }) still))
    (kept_piece f.sending.heard e.sending.granted f.sending.granted kept.pieces has.at has.item has.there))
    (λ high. inl (news.on_stream (omega (arith, low, high))))
    (cases_lt f.sending.heard place)

-- and then something is outstanding
pub is_outstanding : (c : Profile) (place : ℕ) (fin : Bool) (written : ℕ) (e : PathEnd) → GoesByMappings c e → IsUnanswered place fin written e.sending → IsOutstanding e
is_outstanding c place fin written e mapped (data_fin is behind sent open_end) = outstanding.data_fin mapped.identity mapped.own sent open_end
is_outstanding c place fin written e mapped (bytes is has low) = by e.sending.granted refl has
  where
    by : (gs : List GrantedPiece) → e.sending.granted ≡ gs → Has (λ (g : GrantedPiece). place ≤ g.to) gs → IsOutstanding e
    by [] is none = absurd (empty none.at none.item none.there)
      where
        empty : (i : ℕ) (g : GrantedPiece) → slice_get [] i ≡ Some g → ⊥
        empty i g there = cc
    by (g ∷ gs) is some = outstanding.on_stream g gs is

-- where it asks for its DATA_FIN's Data ACK the place is past all that was written
pub past_the_end : (place : ℕ) (fin : Bool) (written : ℕ) (v : Sending) → IsUnanswered place fin written v → fin ≡ true → written < place
past_the_end place fin written v (data_fin is behind sent open_end) so = behind
past_the_end place fin written v (bytes is has low) so = absurd (both_ways fin is so)

-- ---- records

-- each has a position
spans : (c : Profile) (s : Side) (r : Record) → RecordKindTells c s r.kind r → r.pos < end_of r
spans c s r = by r.kind
  where
    by : (kind : RecordKind) → RecordKindTells c s kind r → r.pos < r.pos + occupied kind r.piece
    by Syn tells = omega arith
    by Data tells = let some = tells.0 in let whole = tells.4 in omega (arith, some, whole)
    by Fin tells = omega arith

-- where there was none and there is one, SND.NXT rose
pub more_sent : (s : Side) (p q : PathState Carried) → IsReached (end_at s p).tcp → IsReached (end_at s q).tcp → Shown q → (end_at s p).tcp.send.una ≤ (end_at s q).tcp.send.una → (end_at s p).tcp.send.records ≡ [] → (r : Record) → IsFirst r (end_at s q)
    → (end_at s p).tcp.send.nxt < (end_at s q).tcp.send.nxt
more_sent s p q reached_p reached_q shown una none r h =
    let some = spans q.profile s h.first ((shown.tells s).sender.records.each 0 h.first (ap (λ (rs : List Record). slice_get rs 0) h.records)).mapped in
    let at = none_left (end_at s p).tcp reached_p none in
    let line = first_waits (end_at s q).tcp h.first h.others reached_q h.records some in
    let behind = line.0 in let before = line.1 in omega (arith, at, una, behind, before)

-- ---- a turn

record IsTurn (six later : SixBooks) (p q : PathState Carried) : Type 0 where
  kept : (s : Side) → KeepsWhatWaits (end_at s p) (end_at s q)
  far : IsPathAsFar p q
  mapped : EndsGoByMappings q
  reached_p : EndsAreReached p
  reached_q : EndsAreReached q
  shown : Shown q
  knows : BothKnowTheirEnd p
  agrees : (s : Side) → AgreesWith (send_of s six) (end_at s p).sending
  closed : (s : Side) → (send_of s six).closed ≡ true → (send_of s later).written ≡ (send_of s six).written

end_far : (p q : PathState Carried) → IsPathAsFar p q → (s : Side) → IsEndAsFar (end_at s p) (end_at s q)
end_far p q h A = h.a
end_far p q h B = h.b

-- where an end sent its DATA_FIN its side writes no more
pub same_written : (b c : SendBook) (e : PathEnd) → KnowsItsEnd e → AgreesWith b e.sending → (b.closed ≡ true → c.written ≡ b.written) → e.sending.fin_sent ≡ true → length c.written ≡ length b.written
same_written b c e knows agrees closed sent = by e.sending.known_end (knows.ended sent) agrees.ends
  where
    by : (o : Option ℕ) → is_some o ≡ true → IfSome o (λ n. (b.closed ≡ true) × (n ≡ length b.written)) → length c.written ≡ length b.written
    by None some ends = absurd (true≢false (sym some))
    by (Some n) some ends = ap (λ (bytes : List ℕ). length bytes) (closed ends.0)

module _ (six later : SixBooks) (steps : List Note) (p q : PathState Carried) (turn : IsTurn six later p q) (hardly : HardlyGoesAwry IsOpen steps (Path p) (Path q)) (open_p : IsOpen p) (open_q : IsOpen q)
    (s : Side) (place : ℕ) (fin : Bool) (by : ℕ) where
  abbrev Goes : Type 0
  Goes = AskGoesOn s place fin by (length (send_of s later).written) p q

  goes_by : IsUnanswered place fin (length (send_of s later).written) (end_at s q).sending → InquiryGoesOn s place fin by steps p q → Goes
  goes_by still (goes.on h) = ask.on h still
  goes_by still (goes.record_waits r arrival low none first way) = ask.sends (more_sent s p q (turn.reached_p s) (turn.reached_q s) turn.shown (turn.kept s).una none r first)
  goes_by still (goes.done none) = absurd (none (is_outstanding q.profile place fin (length (send_of s later).written) (end_at s q) (turn.mapped s) still))
  goes_by still (goes.held_up h) = ask.held_up h
  goes_by still (goes.awry h) = ask.awry (hardly open_p open_q s h)

  goes_so : IsUnanswered place fin (length (send_of s six).written) (end_at s p).sending → InquiryGoesOn s place fin by steps p q → Goes
  goes_so still go = ⊎_elim
      (λ more. ask.held_up (held.news more))
      (λ unanswered. goes_by unanswered go)
      (unanswered_goes place fin (length (send_of s six).written) (length (send_of s later).written) (end_at s p) (end_at s q) (turn.kept s) (end_far p q turn.far s)
      (same_written (send_of s six) (send_of s later) (end_at s p) (turn.knows.knows s) (turn.agrees s) (turn.closed s)) still)

-- both ends of the path, as an actor, before the turn and after it
record IsTurnOf (w : WorldState Carried) (later : SixBooks) (lines : List ScriptLine) (steps : List Note) (m n : Actor Carried) : Type 0 where
  go : InquiriesGoOn w.books steps m n
  hardly : HardlyGoesAwry IsOpen steps m n
  kept : EndsKeepWhatWaits m n
  far : IsActorAsFar m n
  link : OfPaths (LinkIsMild lines) m
  mapped : OfPaths EndsGoByMappings n
  reached_p : OfPaths EndsAreReached m
  reached_q : OfPaths EndsAreReached n
  shown : OfPaths Shown n
  knows : OfPaths BothKnowTheirEnd m
  agrees : OfPaths (EndsAgreeWith w) m
  closed : (s : Side) → (send_of s (books_in w.books)).closed ≡ true → (send_of s later).written ≡ (send_of s (books_in w.books)).written

member_goes : (w : WorldState Carried) (later : SixBooks) (lines : List ScriptLine) (steps : List Note) (m n : Actor Carried) → IsTurnOf w later lines steps m n → AskGoesOnBy (books_in w.books) later m n
member_goes w later lines steps (Path p) (Path q) t = λ open_p open_q few s place fin by wants h still.
    goes_so (books_in w.books) later steps p q (record {
      kept = t.kept;
      far = t.far;
      mapped = t.mapped;
      reached_p = t.reached_p;
      reached_q = t.reached_q;
      shown = t.shown;
      knows = t.knows;
      agrees = t.agrees.ends;
      closed = t.closed;
    }) t.hardly open_p open_q s place fin by still
    (t.go (record { joined = λ u. first_joins u p open_p.first; whole = t.link.strips; plain = t.link.alters }) s place fin by few (past_the_end place fin _ _ still) wants h)
member_goes w later lines steps (Path p) (App b) t = tt
member_goes w later lines steps (App a) n t = tt

abbrev Each : (PathState Carried → Type 0) → WorldState Carried → Type 0
Each P w = (actor : ℕ) (c : ActorCrew Carried) → slice_get w.crew actor ≡ Some c → OfPaths P c.member

pub open_asks_go_on : OpenAsksGoOn
open_asks_go_on start turns turn mild actor c d was now =
    let w : WorldState Carried = world_run values turns (opened_world start) in
    let v : WorldState Carried = after_turn values turn w in
    let more : List Turn = turns ++ turn ∷ [] in
    let same : world_run values more (opened_world start) ≡ v = run_append values turns (turn ∷ []) (opened_world start) in
    let far = (goes_on_so values w (turn ∷ [])).crew actor c was in
    let reached : Each EndsAreReached v = subst (Each EndsAreReached) same (λ i x there. (each_is_reached values start more).each i x there) in
    let shown : Each Shown v = subst (Each Shown) same (each_shown start more mild.plain.size mild.fit) in
    let mapped : Each EndsGoByMappings v = subst (Each EndsGoByMappings) same (mapping_is_kept start more mild).each in
    member_goes w (books_in v.books) start.lines d.list c.member d.member (record {
      go = same_actor (λ x. InquiriesGoOn w.books x.list c.member x.member) v actor d now (each_ask_is_answered.goes_on start turns mild.plain.size mild.fit turn actor c was);
      hardly = open_ends_hardly_go_awry start turns turn mild actor c d was now;
      kept = same_actor (λ x. EndsKeepWhatWaits c.member x.member) v actor d now (what_waits_is_kept values w (turn ∷ []) actor c was);
      far = subst (λ (x : ActorCrew Carried). IsActorAsFar c.member x.member) (same_Some far.0 d (sym far.1 ∙ now)) far.2.member;
      link = (links_are_mild values start turns mild).each actor c was;
      mapped = mapped actor d now;
      reached_p = (each_is_reached values start turns).each actor c was;
      reached_q = reached actor d now;
      shown = shown actor d now;
      knows = each_knows start turns mild.plain.size actor c was;
      agrees = ends_agree start turns mild.plain.size actor c was;
      closed = closed_stays turn w;
    })

-- ---- how it begins

pub open_segments : (state : State) → 3 ≤ stage state → is_dead state ≡ false → is_closed_to_segments state ≡ false
open_segments phase.Waiting high living = absurd (omega (arith, high))
open_segments phase.Listen high living = absurd (omega (arith, high))
open_segments phase.Dead high living = absurd (true≢false living)
open_segments _ high living = refl

begins_so : (six : SixBooks) (m : Actor Carried) → OfPaths InquiriesBegin m → OfPaths EndsGoByMappings m → OfPaths (AskBegins six) m
begins_so six (App a) begin mapped = tt
begins_so six (Path p) begin mapped = λ opened done s none place fin still.
    begin done s (open_segments (end_at s p).tcp.state (opened.past s) (opened.living s)) none (is_outstanding p.profile place fin (length (send_of s six).written) (end_at s p) (mapped s) still) place fin

-- ---- for what

waits_so : (joined : Bool) (b : SendBook) (e : PathEnd) → KnowsItsEnd e → AgreesWith b e.sending → AsksForItself joined e.modes.owes_third e.notices.carrier → joined ≡ false → e.tcp.send.records ≡ [] → IsOutstanding e
    → WaitsForAnswer (length b.written) e.sending
waits_so joined b e knows agrees alone first none (outstanding.on_subflow r others is) = let never : [] ≡ r ∷ others = sym none ∙ is in cc
waits_so joined b e knows agrees alone first none (outstanding.on_stream g others is) =
    waits.asks g.to false (bytes refl (record { at = 0; item = g; there = ap (λ gs. slice_get gs 0) is; holds = omega arith })
    (subst (λ gs. AllByRecursion (λ (piece : GrantedPiece). e.sending.heard < piece.to) gs) is knows.open_pieces).0)
waits_so joined b e knows agrees alone first none (outstanding.data_fin identity infinite sent unacked) = by e.sending.known_end (knows.ended sent) agrees.ends
  where
    by : (o : Option ℕ) → is_some o ≡ true → IfSome o (λ n. (b.closed ≡ true) × (n ≡ length b.written)) → WaitsForAnswer (length b.written) e.sending
    by None some ends = absurd (true≢false (sym some))
    by (Some n) some ends = waits.asks (n + 1) true (data_fin refl (let at = ends.1 in omega (arith, at)) sent unacked)
waits_so joined b e knows agrees alone first none (outstanding.shut is) = waits.shut is
waits_so joined b e knows agrees alone first none (outstanding.third is) = absurd (both_ways joined first (alone.third is))
waits_so joined b e knows agrees alone first none (outstanding.fast_close is) = absurd (alone.carries (knows.closed is))

member_waits : (w : WorldState Carried) (m : Actor Carried) → OfPaths BothKnowTheirEnd m → OfPaths (EndsAgreeWith w) m → OfPaths EndsAskForThemselves m → OfPaths (AskWaits (books_in w.books)) m
member_waits w (App a) knows agrees alone = tt
member_waits w (Path p) knows agrees alone = λ opened s none out. waits_so (is_joined p.profile) (send_of s (books_in w.books)) (end_at s p) (knows.knows s) (agrees.ends s) (alone s) opened.first none out

-- ---- in time

module _ (p : PathState Carried) (n : ℕ) (late : ComesFrom n p) (answered_all : HasAnswered p) (six : SixBooks) (living : (s : Side) → is_dead (end_at s p).tcp.state ≡ false) (done : p.agenda ≡ []) where
  timer_late : (s : Side) (tick : ℕ) → (end_at s p).tcp.timing.timer ≡ Some tick → n ≤ tick
  timer_late A tick runs = subst (λ o. IfSome o (λ t. n ≤ t)) runs late.timer_a
  timer_late B tick runs = subst (λ o. IfSome o (λ t. n ≤ t)) runs late.timer_b

  flight_late : (f : Flight Carried) → IsUnderWay f p → n ≤ f.tick
  flight_late f there = subst (λ (g : Flight Carried). n ≤ g.tick) there.holds (all_at (λ (g : Flight Carried). n ≤ g.tick) p.link.under_way there.at there.item there.there late.copies)

  none_sends : (s : Side) → IsToSendAgain s p → ⊥
  none_sends s (inl is) = let never : [] ≡ expired s = sym done ∙ is in cc
  none_sends s (inr is) = let never : [] ≡ duties.Send (send_duties.Resend s) ∷ emission s = sym done ∙ is in cc

  hears_none : (s : Side) (next window : ℕ) → IsToHear s (says.DataAck next window) (end_at s p).treated.items p.agenda → ⊥
  hears_none s next window h = subst (IsToHear s (says.DataAck next window) (end_at s p).treated.items) done h

  not_heard : (s : Side) (place next : ℕ) (fin : Bool) → place ≤ next → IsHeard s next fin p → IsUnansweredAt six s place fin p → ⊥
  not_heard s place next fin enough (hears.told window h) still = hears_none s next window h
  not_heard s place next fin enough (hears.counts acked) (data_fin is behind sent open_end) = both_ways (end_at s p).sending.close.own_acked open_end (acked.end is)
  not_heard s place next fin enough (hears.counts acked) (bytes is has low) = let high = acked.heard in omega (arith, enough, high, low)

  is_due : (s : Side) (place : ℕ) (fin : Bool) (by : ℕ) → by < n → IsInquired s place fin by p → IsUnansweredAt six s place fin p → ⊥
  is_due s place fin by less (asks arrival soon (ways.waits tick low runs none) so) still = let from = timer_late s tick runs.timer in omega (arith, from, low, soon, less)
  is_due s place fin by less (asks arrival soon (ways.resends low is none) so) still = none_sends s is
  is_due s place fin by less (asks arrival soon (ways.flies f low there h) so) still = let from = flight_late f there in omega (arith, from, low, soon, less)
  is_due s place fin by less (answered high (owes low stage_high came due) so) still = both_ways (end_at (peer s) p).tcp.due.ack (answered_all (over done) (peer s) (living (peer s))).ack due
  is_due s place fin by less (answered high (flies f low there h) so) still = let from = flight_late f there in omega (arith, from, low, less)
  is_due s place fin by less (heard next enough h) still = not_heard s place next fin enough h still

due_so : (six : SixBooks) (m : Actor Carried) → OfPaths (λ p. p.agenda ≡ [] → ComesFrom p.until p) m → OfPaths HasAnswered m → OfPaths (AskIsDue six) m
due_so six (App a) late answered_all = tt
due_so six (Path p) late answered_all = λ living done s place fin by less h still. is_due p p.until (late done) answered_all six living done s place fin by less h still

pub open_asks_are_in_time : IsPromisedMildly values (λ start w. OpenAsksAreInTime w)
open_asks_are_in_time start turns mild =
    let w : WorldState Carried = world_run values turns (opened_world start) in let six : SixBooks = books_in w.books in record {
      waits = λ actor c there. member_waits w c.member (each_knows start turns mild.plain.size actor c there) (ends_agree start turns mild.plain.size actor c there) (ends_ask_for_themselves start turns mild actor c there);
      begin = λ actor c there. begins_so six c.member ((each_ask_is_answered.in_time start turns).begin actor c there) ((mapping_is_kept start turns mild).each actor c there);
      due = λ actor c there. due_so six c.member ((nothing_is_overdue values start turns).over actor c there) ((copies_are_answered values start turns).each actor c there);
    }
