-- No end sends past the window: each grant is asked for with room for a full segment in a congestion window of 2^20 octets at most, where no
-- record is to be sent again, so that all that isn't acknowledged is under way.
use Rattle.std.proofs.Common.{◌≡◌, refl, sym, subst, ap, ◌∙◌, ⊎_elim, ℕ, suc, ◌+◌, ◌-◌, ◌≤◌, ◌&&◌, not, nat_le, arith, max, min, Bool, true, false, if◌then◌else◌, Option, Some, None, Result, Ok, Err, List, [], ◌∷◌, ◌++◌, length, map, drop, find, sum_by, length-take, length-drop}
use Rattle.std.specs.List.{slice_get}
use Rattle.std.proofs.lemmas.Bool.{and_parts, cases_lt, leb-true, lt-ltb}
use Rattle.std.proofs.lemmas.List.{append-nil, append_assoc}
use Rattle.std.proofs.lemmas.List.Sums.{sum_by-cons}
use Rattle.std.proofs.lemmas.Option.{same_Some}
use Rattle.sides.specs.declared.side.Side.{Side}
use Rattle.sides.specs.declared.side.Side.TheVariants.{A, B}
use Rattle.send_book.specs.State.{Sending as SendBook}
use Rattle.send_book.specs.Steps as booking
use Rattle.send_book.specs.declared.call.Span.{Span}
use Rattle.send_book.specs.declared.call.Why.{Why}
use Rattle.send_book.proofs.Decisions.{decision-MayTake}
use Rattle.stream_lanes.specs.Words.{Every}
use Rattle.subflow_send.specs.declared.record.RecordKind.{RecordKind}
use Rattle.subflow_send.specs.declared.record.RecordKind.TheVariants.{Syn, Data, Fin}
use Rattle.subflow_send.specs.Records.{Record, end_of, occupied, span_of}
use Rattle.subflow_send.specs.Rules.{acknowledged_in, is_unsent, octets_under_way}
use Rattle.subflow_tcp.specs.declared.handshake.State.{State as EndPhase}
use Rattle.subflow_tcp.specs.declared.handshake.State.TheVariants as phase
use Rattle.subflow_tcp.specs.Sizes.{room}
use Rattle.subflow_tcp.specs.State.{is_at_limit}
use Rattle.subflow_tcp.specs.States.{may_finish}
use Rattle.actor_desk.specs.declared.ask.Ask.{Ask}
use Rattle.actor_desk.specs.declared.ask.Reply.{Reply}
use Rattle.actor_desk.specs.declared.ask.Reply.TheVariants as replies
use Rattle.actor_desk.specs.Books.{StampedBooks, books_in}
use Rattle.actor_desk.specs.Words.{pick}
use Rattle.path_agenda.specs.declared.duty.Duty.{Duty}
use Rattle.path_agenda.specs.declared.duty.Duty.TheVariants as duties
use Rattle.path_agenda.specs.declared.duty.SendDuty.TheVariants as send_duties
use Rattle.path_agenda.specs.declared.duty.StepDuty.TheVariants as step_duties
use Rattle.path_core.specs.DataFin.{is_fin_due}
use Rattle.path_core.specs.Duties.{answered, ask_for, passed}
use Rattle.path_core.specs.Emission.{Grant, answered_data, answered_grant, data_ask, data_stands, first_unsent, grant_ask, grant_in, granted, may_ask, may_send_data, payload_size}
use Rattle.path_core.specs.End.{PathEnd}
use Rattle.path_core.specs.Events.{next_event}
use Rattle.path_core.specs.State.{PathState, end_at, path_of, with_agenda}
use Rattle.path_core.specs.Start.{waiting_path}
use Rattle.path_core.specs.Steps.{asks_first, next_round, takes}
use Rattle.path_core.specs.Turns.{FirstStands}
use Rattle.path_core.specs.Values.{Carried, values}
use Rattle.world_laws.specs.declared.member.Member.TheVariants.{App, Path}
use Rattle.world_laws.specs.Actors.{Actor, ActorCrew, member_asks, member_next, member_takes}
use Rattle.world_laws.specs.Members.{HoldsOfKind}
use Rattle.world_laws.specs.Openings.{PathPlan, Start, opened_world, path_begins}
use Rattle.world_laws.specs.RoundDone.{reached}
use Rattle.world_laws.specs.StampedBooks.{answer_to}
use Rattle.world_laws.specs.Worlds.{WorldState, Turn, after_turn}
use Rattle.world_laws.proofs.Weaving.WholeRounds.{run_append}
use Rattle.world_laws.proofs.Whole.Falls.{MemberUpright, each_upright}
use Rattle.world_laws.proofs.Rounds.Lifting.{opened_lifted}
use Rattle.world_laws.proofs.Writes.Steps.{Lasts, begins_lasts, settled_lasts}
use Rattle.whole_paths.specs.AsFar.{stage}
use Rattle.whole_paths.specs.EndSteps.{PathStep, SubflowSteps}
use Rattle.whole_paths.specs.Mild.{IsMildStart}
use Rattle.whole_paths.specs.News.{one_if}
use Rattle.whole_paths.specs.Overruns.{NoEndOverruns, StaysWithin}
use Rattle.whole_paths.specs.Room.{HasWindows}
use Rattle.whole_paths.proofs.DataLeft.{EndsAreBegun, each_is_begun}
use Rattle.whole_paths.proofs.Duties.{answered_steps, passed_steps}
use Rattle.whole_paths.proofs.Finishing.{steps_push}
use Rattle.whole_paths.proofs.Harmed.{none_stays}
use Rattle.whole_paths.proofs.OpenCourses.{IsOfLanes, each_of_lanes}
use Rattle.whole_paths.proofs.Pushing.{AllStay, NextStays, answered_next, event_next, passed_next, refused_next, unsent_next}
use Rattle.whole_paths.proofs.Reached.{EndsAreReached, Joined, Line, each_is_reached}
use Rattle.whole_paths.proofs.Room.{who_is_done_may_ask}
use Rattle.whole_paths.proofs.Subflows.{steps_up}
use Rattle.whole_paths.proofs.Turns.{turn_by}

-- ---- where no record is to be sent, all that isn't acknowledged is under way

all_sent : (r : Record) (rs : List Record) → find is_unsent (r ∷ rs) ≡ None → (is_unsent r ≡ false) × (find is_unsent rs ≡ None)
all_sent r rs = (elim (is_unsent r) as (λ b. (if b then Some r else find is_unsent rs) ≡ None → (b ≡ false) × (find is_unsent rs ≡ None)) [ true ↦ λ is. cc | false ↦ λ is. (refl, is) ])

module _ (una nxt : ℕ) (some : 1 ≤ una) where
  -- the octets of a record from SND.UNA on
  one_under_way : (r : Record) (kind : RecordKind) → r.kind ≡ kind → (r.kind ≡ Syn → r.pos ≡ 0) → (r.kind ≡ Fin → ⊥) → is_unsent r ≡ false → max una (end_of r) ≤ max una r.pos + octets_under_way una r
  one_under_way r Syn is zeroth never sent =
      let zero_pos = zeroth is in let end : end_of r ≡ r.pos + 1 = ap (λ k. r.pos + occupied k r.piece) is in omega (arith, zero_pos, end, some)
  one_under_way r Fin is zeroth never sent = absurd (never is)
  one_under_way r Data is zeroth never sent =
      let end : end_of r ≡ r.pos + length r.piece = ap (λ k. r.pos + occupied k r.piece) is in
      let octets = ap (λ (b : Bool). if b then 0 else length r.piece - acknowledged_in una r) sent in
      ⊎_elim
      (λ within. (let left = ap (λ (b : Bool). if b then una - r.pos else 0) (lt-ltb una (end_of r) within) in omega (arith, end, octets, left, within)))
      (λ past. omega (arith, past))
      (cases_lt una (end_of r))

  all_under_way : (rs : List Record) (from : ℕ) → Joined from nxt (map span_of rs) → Every (λ (r : Record). r.kind ≡ Syn → r.pos ≡ 0) rs → Every (λ (r : Record). r.kind ≡ Fin → ⊥) rs → find is_unsent rs ≡ None
      → nxt ≤ max una from + sum_by (octets_under_way una) rs
  all_under_way [] from h zeroth never sent = omega (arith, h)
  all_under_way (r ∷ rs) from h zeroth never sent =
      let parts = all_sent r rs sent in
      let rest = all_under_way rs (end_of r) h.1 (record { each = λ i x there. zeroth.each (suc i) x there }) (record { each = λ i x there. never.each (suc i) x there }) parts.1 in
      let one = one_under_way r r.kind refl (zeroth.each 0 r refl) (never.each 0 r refl) parts.0 in
      let at = h.0 in omega (arith, rest, one, at, sum_by-cons (octets_under_way una) r rs)

  from_una : (rs : List Record) → Line una nxt (map span_of rs) → Every (λ (r : Record). r.kind ≡ Syn → r.pos ≡ 0) rs → Every (λ (r : Record). r.kind ≡ Fin → ⊥) rs → find is_unsent rs ≡ None
      → nxt ≤ una + sum_by (octets_under_way una) rs
  from_una [] h zeroth never sent = omega (arith, h)
  from_una (r ∷ rs) h zeroth never sent = let low = h.0 in let all = all_under_way (r ∷ rs) r.pos (refl, h.2) zeroth never sent in omega (arith, low, all)

-- ---- an end

abbrev Within : PathEnd → Type 0
Within e = e.tcp.send.nxt ≤ e.tcp.send.una + 1048576 + one_if e.tcp.send.finished

end_within : (now : ℕ) (e f : PathEnd) → SubflowSteps now e.tcp f.tcp → NextStays e f → Within e → Within f
end_within now e f steps same h = ⊎_elim
    (λ still. (let finished = ap one_if still in let up = (steps_up now e.tcp f.tcp steps).acknowledged in omega (arith, same, h, up, finished)))
    (λ rises. absurd (omega (arith, same, rises)))
    (steps_push now e.tcp f.tcp steps).goes

-- ---- a path

abbrev Stays : PathState Carried → PathState Carried → Type 0
Stays p q = (s : Side) → Within (end_at s p) → Within (end_at s q)

within_by : (p q : PathState Carried) → PathStep p q → AllStay p q → Stays p q
within_by p q x y A = end_within q.clock p.a q.a x.a.subflow y.a
within_by p q x y B = end_within q.clock p.b q.b x.b.subflow y.b

stays_last : Lasts Stays
stays_last = record { agenda = λ ds p s h. h; chains = λ p q r x y s h. y s (x s h); passes = λ d p. within_by p (passed d p) (passed_steps d p) (passed_next d p) }

side_within : (s : Side) (f : PathEnd) (p q : PathState Carried) → (Within (end_at s p) → Within f) → q.a ≡ pick s f p.a → q.b ≡ pick s p.b f → Stays p q
side_within A f p q x a b A h = subst Within (sym a) (x h)
side_within A f p q x a b B h = subst Within (sym b) h
side_within B f p q x a b A h = subst Within (sym a) h
side_within B f p q x a b B h = subst Within (sym b) (x h)

-- a grant leaves the end within the window, and the FIN is sent once
abbrev Fits : Duty → Reply → PathState Carried → Type 0
Fits (duties.Step (step_duties.Data s)) r p = first_unsent (end_at s p) ≡ None → (grant : Grant) → grant_in r ≡ Some grant → Within (end_at s p)
    → (end_at s p).tcp.send.nxt + length grant.piece ≤ (end_at s p).tcp.send.una + 1048576 + one_if (end_at s p).tcp.send.finished
Fits (duties.Send (send_duties.Fin s)) r p = (end_at s p).tcp.send.finished ≡ false
Fits _ r p = Unit {0}

grant_within : (s : Side) (r : Reply) (p : PathState Carried) (o : Option Grant) → PathStep p (answered_grant s o r p)
    → ((grant : Grant) → o ≡ Some grant → Within (end_at s p) → (end_at s p).tcp.send.nxt + length grant.piece ≤ (end_at s p).tcp.send.una + 1048576 + one_if (end_at s p).tcp.send.finished)
    → Stays p (answered_grant s o r p)
grant_within s r p None steps fits = within_by p (answered_grant s None r p) steps (refused_next s r p)
grant_within s r p (Some grant) steps fits = side_within s (granted p.profile s grant.span grant.piece (end_at s p)) p (answered_grant s (Some grant) r p) (λ h. fits grant refl h) refl refl

data_within : (s : Side) (r : Reply) (p : PathState Carried) (o : Option Record) → first_unsent (end_at s p) ≡ o → Fits (duties.Step (step_duties.Data s)) r p → PathStep p (answered_data values s o r p) → Stays p (answered_data values s o r p)
data_within s r p (Some first) is fits steps = within_by p (answered_data values s (Some first) r p) steps (unsent_next values s first r p)
data_within s r p None is fits steps = grant_within s r p (grant_in r) steps (fits is)

answered_within : (d : Duty) (r : Reply) (p : PathState Carried) → Fits d r p → Stays p (answered values d r p)
answered_within (duties.Step (step_duties.Data s)) r p fits = data_within s r p (first_unsent (end_at s p)) refl fits (answered_steps values (duties.Step (step_duties.Data s)) r p)
answered_within (duties.Step step_duties.Events) r p fits = within_by p (answered values (duties.Step step_duties.Events) r p) (answered_steps values (duties.Step step_duties.Events) r p) (event_next values (next_event p) r p)
answered_within (duties.Send (send_duties.Fin s)) r p unfinished =
    side_within s _ p (answered values (duties.Send (send_duties.Fin s)) r p) (λ h. (let none = ap one_if unfinished in omega (arith, h, none))) refl refl
answered_within d r p fits = within_by p (answered values d r p) (answered_steps values d r p) (answered_next values d r p refl refl)

abbrev FirstFits : List Duty → Reply → PathState Carried → Type 0
FirstFits [] r p = Unit {0}
FirstFits (d ∷ ds) r p = Fits d r p

takes_within : (r : Reply) (p : PathState Carried) → FirstFits p.agenda r p → Stays p (takes values r p)
takes_within r p = by p.agenda
  where
    by : (ds : List Duty) → FirstFits ds r (with_agenda ds p) → Stays (with_agenda ds p) (takes values r (with_agenda ds p))
    by [] fits = λ s h. h
    by (d ∷ ds) fits =
        let x : PathState Carried = with_agenda (d ∷ ds) p in let q : PathState Carried = answered values d r x in
        λ s h. settled_lasts Stays stays_last q.agenda q s (answered_within d r x fits s h)

next_within : (p : PathState Carried) → Stays p (next_round p)
next_within p s h = begins_lasts Stays stays_last (record p { clock = p.until; until = p.until + 100 }) s h

-- ---- a grant

sized : (path most : ℕ) (standby : Bool) (b : SendBook) (o : Result Span Why) → booking.decision path most standby b ≡ o → (grant : Grant) → grant_in (replies.Send (booking.reply_by o b)) ≡ Some grant → length grant.piece ≤ most
sized path most standby b (Err why) is grant found = cc
sized path most standby b (Ok span) is grant found =
    let may = decision-MayTake path most standby b span is in
    let len : length (booking.part_of span b.written) ≡ min (span.to - span.from) (length b.written - span.from)
    = rw (length-take (span.to - span.from) (drop span.from b.written), length-drop span.from b.written) refl in
    let small : length (booking.part_of span b.written) ≤ most = omega (arith, len, may.whole, may.most) in
    subst (λ (g : Grant). length g.piece ≤ most) (same_Some _ grant found) small

granted_small : (books : StampedBooks) (s : Side) (p : PathState Carried) (grant : Grant) → grant_in (answer_to books (grant_ask s p)) ≡ Some grant → length grant.piece ≤ payload_size p.profile
granted_small books A p grant at =
    sized (path_of p) (payload_size p.profile) p.a.modes.standby (books_in books).send_a (booking.decision (path_of p) (payload_size p.profile) p.a.modes.standby (books_in books).send_a) refl grant at
granted_small books B p grant at =
    sized (path_of p) (payload_size p.profile) p.b.modes.standby (books_in books).send_b (booking.decision (path_of p) (payload_size p.profile) p.b.modes.standby (books_in books).send_b) refl grant at

-- what is known of a path
record Facts (start : Start) (p : PathState Carried) : Type 0 where
  windows : HasWindows p
  ends : EndsAreReached p
  begun : EndsAreBegun p
  first : IsOfLanes start p
  stood : FirstStands p.agenda p

finishing_stage : (state : EndPhase) → may_finish state ≡ true → (3 ≤ stage state) × (stage state ≤ 6)
finishing_stage phase.Established may = (omega arith, omega arith)
finishing_stage phase.CloseWait may = (omega arith, omega arith)
finishing_stage _ may = cc

module _ (start : Start) (books : StampedBooks) (p : PathState Carried) (facts : Facts start p) where
  grant_fits : (s : Side) → data_stands p.profile s (end_at s p) (first_unsent (end_at s p)) ≡ true → Fits (duties.Step (step_duties.Data s)) (answer_to books (data_ask values s (first_unsent (end_at s p)) p)) p
  grant_fits s stood none grant found was =
      let e : PathEnd = end_at s p in
      let small = granted_small books s p grant (subst (λ o. grant_in (answer_to books (data_ask values s o p)) ≡ Some grant) none found) in
      let may : may_ask p.profile s e ≡ true = subst (λ o. data_stands p.profile s e o ≡ true) none stood in
      let parts = and_parts (may_finish e.tcp.state) (nat_le (payload_size p.profile) (room e.tcp) && (not (is_at_limit e.tcp) && may_send_data p.profile s e)) may in
      let fits = leb-true (payload_size p.profile) (room e.tcp) (and_parts (nat_le (payload_size p.profile) (room e.tcp)) (not (is_at_limit e.tcp) && may_send_data p.profile s e) parts.1).0 in
      let stages = finishing_stage e.tcp.state parts.0 in
      let unfinished = facts.first.may s parts.0 in
      let none_sent = ap one_if unfinished in
      let some = (facts.begun s).past stages.0 stages.1 in
      let all = from_una e.tcp.send.una e.tcp.send.nxt some e.tcp.send.records (facts.ends s).lined.line (facts.begun s).syns (facts.first.kinds s unfinished) none in
      let most = facts.windows.greatest s in omega (arith, small, fits, all, most, was, none_sent)

  fin_fits : (s : Side) → is_fin_due (end_at s p) ≡ true → (end_at s p).tcp.send.finished ≡ false
  fin_fits s due = facts.first.may s
      (and_parts (may_finish (end_at s p).tcp.state) _ due).0

  duty_fits : (d : Duty) (ds : List Duty) → FirstStands (d ∷ ds) p → Fits d (answer_to books (ask_for values d p)) p
  duty_fits (duties.Step (step_duties.Data s)) ds stood = grant_fits s stood
  duty_fits (duties.Step step_duties.Events) ds stood = tt
  duty_fits (duties.Send (send_duties.Fin s)) ds stood = fin_fits s stood
  duty_fits d ds stood = tt

  first_fits : (x : Ask) → asks_first values p.agenda p ≡ Some x → FirstFits p.agenda (answer_to books x) p
  first_fits x asks = by p.agenda facts.stood asks
    where
      by : (ds : List Duty) → FirstStands ds p → asks_first values ds p ≡ Some x → FirstFits ds (answer_to books x) p
      by [] stood asks = tt
      by (d ∷ ds) stood asks = subst (λ y. Fits d (answer_to books y) p) (same_Some (ask_for values d p) x asks) (duty_fits d ds stood)

-- ---- the world

abbrev OfPaths : (PathState Carried → Type 0) → Actor Carried → Type 0
OfPaths P = HoldsOfKind (λ app. Unit {0}) P

module _ (start : Start) (actor : ℕ) where
  takes_on : (books : StampedBooks) (x : Ask) (m : Actor Carried) → member_asks values m ≡ Some x → OfPaths (Facts start) m → OfPaths StaysWithin m → OfPaths StaysWithin (member_takes values (answer_to books x) m)
  takes_on books x (App a) asks facts h = tt
  takes_on books x (Path p) asks facts h = λ s. takes_within (answer_to books x) p (first_fits start books p facts x asks) s (h s)

  next_on : (m : Actor Carried) → OfPaths StaysWithin m → OfPaths StaysWithin (member_next m)
  next_on (App a) h = tt
  next_on (Path p) h = λ s. next_within p s (h s)

  turn_on : (turn : Turn) (w : WorldState Carried) (c : ActorCrew Carried) → slice_get w.crew actor ≡ Some c → OfPaths (Facts start) c.member → OfPaths StaysWithin c.member
      → (d : ActorCrew Carried) × (slice_get (after_turn values turn w).crew actor ≡ Some d) × OfPaths StaysWithin d.member
  turn_on turn w c there facts h =
      let found = turn_by values (λ books c d. OfPaths (Facts start) c.member → OfPaths StaysWithin c.member → OfPaths StaysWithin d.member) (λ books c facts h. h)
      (λ books ask c asks facts h. takes_on books ask c.member asks facts h) (λ books stamp c over facts h. next_on c.member h) turn w actor c there in
      (found.0, found.1, found.2 facts h)

  facts_so : (m : Actor Carried) → OfPaths HasWindows m → OfPaths EndsAreReached m → OfPaths EndsAreBegun m → OfPaths (IsOfLanes start) m → MemberUpright m → OfPaths (Facts start) m
  facts_so (App a) windows ends begun first upright = tt
  facts_so (Path p) windows ends begun first upright = record { windows = windows; ends = ends; begun = begun; first = first; stood = upright.passes.settled }

  abbrev AtActor : WorldState Carried → Type 0
  AtActor w = (c : ActorCrew Carried) → slice_get w.crew actor ≡ Some c → OfPaths StaysWithin c.member

  module _ (mild : IsMildStart start) where
    facts_at : (turns : List Turn) (c : ActorCrew Carried) → slice_get (reached values start turns).crew actor ≡ Some c → OfPaths (Facts start) c.member
    facts_at turns c there = facts_so c.member (who_is_done_may_ask start turns mild.plain.size mild.fit actor c there) ((each_is_reached values start turns).each actor c there) ((each_is_begun values start turns).each actor c there)
        (each_of_lanes start turns mild.plain.size actor c there) ((each_upright start turns mild.plain mild.strips).each actor c there)

    step_on : (turns : List Turn) (turn : Turn) → AtActor (reached values start turns) → AtActor (after_turn values turn (reached values start turns))
    step_on turns turn h d there = by (slice_get (reached values start turns).crew actor) refl
      where
        by : (o : Option (ActorCrew Carried)) → slice_get (reached values start turns).crew actor ≡ o → OfPaths StaysWithin d.member
        by None was = absurd (let none = none_stays values turn (reached values start turns) actor was in let found : None ≡ Some d = sym none ∙ there in cc)
        by (Some c) was =
            let next = turn_on turn (reached values start turns) c was (facts_at turns c was) (h c was) in
            subst (λ (y : ActorCrew Carried). OfPaths StaysWithin y.member) (same_Some next.0 d (sym next.1 ∙ there)) next.2

    run_on : (before more : List Turn) → AtActor (reached values start before) → AtActor (reached values start (before ++ more))
    run_on before [] h = subst (λ ts. AtActor (reached values start ts)) (sym (append-nil before)) h
    run_on before (turn ∷ more) h = subst (λ ts. AtActor (reached values start ts)) (append_assoc before (turn ∷ []) more)
        (run_on (before ++ turn ∷ []) more (subst AtActor (sym (run_append values before (turn ∷ []) (opened_world start))) (step_on before turn h)))

  opened_on : AtActor (opened_world start)
  opened_on c there = (opened_lifted (λ c. OfPaths StaysWithin c.member) start tt tt
      (λ number plan there s. begins_lasts Stays stays_last (waiting_path (path_begins start number plan) start.lines) s (first number plan s))).each actor c there
    where
      first : (number : ℕ) (plan : PathPlan) (s : Side) → Within (end_at s (waiting_path {C = Carried} (path_begins start number plan) start.lines))
      first number plan A = omega arith
      first number plan B = omega arith

pub each_end_stays_within : NoEndOverruns
each_end_stays_within start turns mild actor c there = run_on start actor mild [] turns (opened_on start actor) c there

-- of path 0
pub no_end_overruns : (start : Start) (turns : List Turn) → IsMildStart start → (c : ActorCrew Carried) → slice_get (reached values start turns).crew 2 ≡ Some c → OfPaths StaysWithin c.member
no_end_overruns start turns mild c there = each_end_stays_within start turns mild 2 c there
