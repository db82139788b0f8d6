-- Grants are full: on the only path all bytes behind the first free one are free, so a grant ends by its size, the edge, or what is written.
use Rattle.std.proofs.Common.{◌≡◌, refl, sym, subst, ap, ◌∙◌, ◌⊎◌, inl, inr, ⊎_elim, ℕ, suc, ◌+◌, ◌-◌, ◌<◌, ◌≤◌, min, nat_lt, nat_le, arith, Bool, true, false, true≢false, cond, if◌then◌else◌, Option, Some, None, Result, Ok, Err, List, [], ◌∷◌, ◌++◌, drop, length, position}
use Rattle.std.specs.List.{prefix_len, slice_get}
use Rattle.std.proofs.lemmas.Bool.{cases_lt}
use Rattle.std.proofs.lemmas.List.{length-drop, length-take}
use Rattle.std.proofs.lemmas.Option.{same_Some}
use Rattle.sides.specs.declared.side.Side.{Side}
use Rattle.sides.specs.declared.side.Side.TheVariants.{A, B}
use Rattle.sides.specs.Side.{peer}
use Rattle.send_book.specs.declared.call.Span.{Span}
use Rattle.send_book.specs.declared.call.Why.{Why}
use Rattle.send_book.specs.declared.call.Why.TheVariants.{Backup, Ended, WindowShut}
use Rattle.send_book.specs.declared.mark.ByteMark.{ByteMark}
use Rattle.send_book.specs.Marks.{is_free_for}
use Rattle.send_book.specs.State.{Sending}
use Rattle.send_book.specs.Steps.{decision, first_free, is_for, part_of, reply_by, run_len, span_at, span_from}
use Rattle.send_book.proofs.Lists.{slice_get-drop}
use Rattle.stream_lanes.specs.Words.{Has}
use Rattle.subflow_send.specs.Records.{Record, SendState, end_of, occupied}
use Rattle.subflow_send.specs.Sendings.{never_sent}
use Rattle.subflow_send.specs.declared.record.RecordKind.TheVariants.{Data}
use Rattle.actor_desk.specs.declared.ask.Ask.{Ask}
use Rattle.actor_desk.specs.declared.ask.Note.{Note}
use Rattle.actor_desk.specs.declared.ask.Reply.{Reply}
use Rattle.actor_desk.specs.declared.ask.Reply.TheVariants as replies
use Rattle.actor_desk.specs.Books.{books_in}
use Rattle.actor_desk.specs.Desk.{SixBooks, reply_of, send_of}
use Rattle.path_agenda.specs.declared.duty.Duty.{Duty}
use Rattle.path_agenda.specs.declared.duty.Duty.TheVariants as duties
use Rattle.path_agenda.specs.declared.duty.AskDuty.TheVariants as ask_duties
use Rattle.path_agenda.specs.declared.duty.SendDuty.TheVariants as send_duties
use Rattle.path_agenda.specs.declared.duty.SilentDuty.TheVariants as silent_duties
use Rattle.path_agenda.specs.declared.duty.StepDuty.TheVariants as step_duties
use Rattle.path_agenda.specs.declared.heard.Heard.{Heard}
use Rattle.path_agenda.specs.declared.heard.Heard.TheVariants as says
use Rattle.path_core.specs.Deliver.{after_pieces}
use Rattle.path_core.specs.DssIn.{counts, with_data_fin, with_learned, with_skipped}
use Rattle.path_core.specs.DssOut.{mapping_of}
use Rattle.path_core.specs.Duties.{answered, ask_for, passed}
use Rattle.path_core.specs.Emission.{answered_data, answered_grant, data_ask, first_unsent, grant_ask, grant_in, payload_size}
use Rattle.path_core.specs.End.{PathEnd}
use Rattle.path_core.specs.Events.{next_event}
use Rattle.path_core.specs.Fallback.{with_plain_ack}
use Rattle.path_core.specs.State.{PathState, end_at, path_of, with_agenda, with_end}
use Rattle.path_core.specs.Steps.{asks_first, asks_of, next_round, takes}
use Rattle.path_core.specs.Timer.{with_timer_settled}
use Rattle.path_core.specs.Treating.{item_of, item_passed}
use Rattle.path_core.specs.Values.{Carried, values}
use Rattle.world_laws.specs.Members.{HoldsOfKind}
use Rattle.world_laws.specs.Openings.{PathPlan, Start}
use Rattle.world_laws.specs.Promises.{written_by}
use Rattle.world_laws.specs.RoundDone.{reached}
use Rattle.world_laws.specs.RoundNumbers.{taken_len}
use Rattle.world_laws.specs.Worlds.{Turn, WorldState}
use Rattle.world_laws.specs.Writes.{EndView, side_of, writes}
use Rattle.world_laws.proofs.Writes.Paths.{passes_no_more}
use Rattle.world_laws.proofs.Writes.Steps.{Lasts, begins_lasts, both_ends, settled_lasts, unwritten}
use Rattle.whole_paths.specs.Between.{EachPathBetween}
use Rattle.whole_paths.specs.Finish.{IsPathAt}
use Rattle.whole_paths.specs.FullGrants.{EachGrantIsFull, HoldsAFullPiece}
use Rattle.whole_paths.specs.Mild.{IsMildStart}
use Rattle.whole_paths.specs.PositionCounts.{CountsBytes}
use Rattle.whole_paths.proofs.KnownWindows.{HasNumber, each_numbered}
use Rattle.whole_paths.proofs.PathTurns.{at_turn}
use Rattle.whole_paths.proofs.PositionCounts.{positions_count_bytes}
use Rattle.whole_paths.proofs.Pushing.{AllStay, answered_next, event_next, refused_next, unsent_next}
use Rattle.whole_paths.proofs.Turns.{paths_between}

-- ---- lists

-- what is put last is there
last_so : (P : Record → Type 0) (rs : List Record) (x : Record) → P x → Has P (rs ++ x ∷ [])
last_so P [] x h = record { at = 0; item = x; there = refl; holds = h }
last_so P (r ∷ rs) x h = let rest = last_so P rs x h in record { at = suc rest.at; item = rest.item; there = rest.there; holds = rest.holds }

all_pass : (p : ByteMark → Bool) (xs : List ByteMark) → ((i : ℕ) (x : ByteMark) → slice_get xs i ≡ Some x → p x ≡ true) → prefix_len p xs ≡ length xs
all_pass p [] all = refl
all_pass p (x ∷ xs) all =
    let one : cond (p x) (1 + prefix_len p xs) 0 ≡ 1 + prefix_len p xs = ap (λ b. cond b (1 + prefix_len p xs) 0) (all 0 x refl) in
    let rest = all_pass p xs (λ i y there. all (suc i) y there) in omega (arith, one, rest)

-- ---- a grant

-- behind the first byte that is free for path 0 each one is
abbrev FreeBehind : Sending → Type 0
FreeBehind b = (place : ℕ) (mark : ByteMark) → taken_len 0 b.marks ≤ place → slice_get b.marks place ≡ Some mark → is_free_for 0 mark ≡ true

module _ (most : ℕ) (stands : Bool) (b : Sending) (span : Span) where
  -- the span begins at the first free byte
  abbrev IsRun : Type 0
  IsRun = (span.from ≡ taken_len 0 b.marks) × (span.to ≡ span.from + run_len 0 most b span.from)

  passed_over : (c : Bool) (w : Why) (r : Result Span Why) → (if c then Err w else r) ≡ Ok span → r ≡ Ok span
  passed_over true w r e = cc
  passed_over false w r e = e

  pub first_is : (from : ℕ) → first_free 0 b ≡ Some from → from ≡ taken_len 0 b.marks
  first_is from is = by (is_for 0 b.owner) is
    where
      found : (c : Bool) → (if c then Some (taken_len 0 b.marks) else None) ≡ Some from → from ≡ taken_len 0 b.marks
      found true at = sym (same_Some (taken_len 0 b.marks) from at)
      found false at = cc

      by : (c : Bool) → (if c then position (is_free_for 0) b.marks else None) ≡ Some from → from ≡ taken_len 0 b.marks
      by true at = found (nat_lt (taken_len 0 b.marks) (length b.marks)) at
      by false at = cc

  run_from : (from : ℕ) → from ≡ taken_len 0 b.marks → span_from 0 most b from ≡ Ok span → IsRun
  run_from from is e = by (nat_le b.edge from) e
    where
      by : (c : Bool) → (if c then Err WindowShut else Ok (record { from = from; to = from + run_len 0 most b from })) ≡ Ok span → IsRun
      by true e = cc
      by false e = let same : record { from = from; to = from + run_len 0 most b from } ≡ span = cc in subst (λ (x : Span). (x.from ≡ taken_len 0 b.marks) × (x.to ≡ x.from + run_len 0 most b x.from)) same (is, refl)

  is_run : decision 0 most stands b ≡ Ok span → IsRun
  is_run e = by (first_free 0 b) refl (passed_over stands Backup _ (passed_over _ Ended _ e))
    where
      by : (o : Option ℕ) → first_free 0 b ≡ o → span_at 0 most b o ≡ Ok span → IsRun
      by None is e = cc
      by (Some from) is e = run_from from (first_is from is) e

  -- it ends by its size, the edge, or what is written
  ends_so : decision 0 most stands b ≡ Ok span → length b.marks ≡ length b.written → FreeBehind b
      → (most ≤ length (part_of span b.written)) ⊎ (min (length b.written) b.edge ≤ taken_len 0 b.marks + length (part_of span b.written))
  ends_so e marked free = ⊎_elim (λ less. inr (omega (arith, less, size, run.0, run.1, all, marked, rest))) (λ enough. inl enough) (cases_lt (length (part_of span b.written)) most)
    where
      run : IsRun
      run = is_run e

      all : prefix_len (is_free_for 0) (drop span.from b.marks) ≡ length (drop span.from b.marks)
      all = all_pass (is_free_for 0) (drop span.from b.marks) (λ i mark there. free (span.from + i) mark (let from = run.0 in omega (arith, from)) (sym (slice_get-drop span.from b.marks i (span.from + i) refl) ∙ there))

      rest : length (drop span.from b.marks) ≡ length b.marks - span.from
      rest = length-drop span.from b.marks

      size : length (part_of span b.written) ≡ min (span.to - span.from) (length b.written - span.from)
      size = length-take (span.to - span.from) (drop span.from b.written) ∙ ap (λ n. min (span.to - span.from) n) (length-drop span.from b.written)

-- ---- what a path sends stays as it passes duties

abbrev pub SameSend : PathState Carried → PathState Carried → Type 0
SameSend p q = (s : Side) → (end_at s q).tcp.send ≡ (end_at s p).tcp.send

by_both : (p q : PathState Carried) → (q.a.tcp.send ≡ p.a.tcp.send) × (q.b.tcp.send ≡ p.b.tcp.send) → SameSend p q
by_both p q both A = both.0
by_both p q both B = both.1

item_send : (s : Side) (o : Option Heard) (e : PathEnd) → (item_passed s o e).tcp.send ≡ e.tcp.send
item_send s None e = refl
item_send s (Some (says.Mapping fin)) e = elim (counts e) as (λ b. (if b then with_learned e else with_skipped e).tcp.send ≡ e.tcp.send) [ true ↦ refl | false ↦ refl ]
item_send s (Some (says.DataFin place)) e = elim (counts e) as (λ b. (if b then with_data_fin place e else e).tcp.send ≡ e.tcp.send) [ true ↦ refl | false ↦ refl ]
item_send s (Some _) e = refl

-- the end of this side passes a duty
own : (s : Side) (e : PathEnd) (p : PathState Carried) → e.tcp.send ≡ (end_at s p).tcp.send → SameSend p (with_end s e p)
own A e p x A = x
own A e p x B = refl
own B e p x A = refl
own B e p x B = x

passed_send : (d : Duty) (p : PathState Carried) → SameSend p (passed d p)
passed_send (duties.Silent (silent_duties.Timer s)) p = own s (with_timer_settled p.clock (end_at s p)) p refl
passed_send (duties.Step (step_duties.Heard s index)) p = let e : PathEnd = end_at s p in own s (item_passed s (item_of index e) e) p (item_send s (item_of index e) e)
passed_send (duties.Step (step_duties.PlainAck s)) p = own s (with_plain_ack (end_at s p)) p refl
passed_send (duties.Step (step_duties.Unmapped s)) p = own s (after_pieces (end_at s p)) p refl
passed_send (duties.Step (step_duties.Data s)) p = λ t. refl
passed_send (duties.Ask ask_duties.JoinAgain) p = λ t. refl
passed_send (duties.Ask (ask_duties.SubflowAck s)) p = λ t. refl
passed_send (duties.Ask (ask_duties.LeaveNoted s)) p = λ t. refl
passed_send (duties.Step step_duties.Events) p = λ t. refl
passed_send (duties.Send d) p = λ t. refl
passed_send d p = by_both p (passed d p) (both_ends (λ e f. f.tcp.send ≡ e.tcp.send) (side_of d) (writes d) p (passed d p)
    (λ e f only. unwritten (writes d).own.send e.tcp.send f.tcp.send refl (ap (λ (v : EndView). v.send) only.same))
    (λ e f only. unwritten (writes d).other.send e.tcp.send f.tcp.send refl (ap (λ (v : EndView). v.send) only.same)) (passes_no_more d p))

pub same_last : Lasts {C = Carried} SameSend
same_last = record { agenda = λ ds p s. refl; chains = λ p q r x y s. y s ∙ x s; passes = passed_send }

-- ---- what a turn makes of SND.NXT

-- a record of data that begins at SND.NXT, with the bytes of the span
abbrev IsGrantOf : SendState → Sending → Span → Record → Type 0
IsGrantOf v b span r = (r.kind ≡ Data) × (r.pos ≡ v.nxt) × (r.piece ≡ part_of span b.written)

data Grants (s : Side) (six : SixBooks) (p q : PathState Carried) : Type 0 where
  stays : (end_at s q).tcp.send.nxt ≡ (end_at s p).tcp.send.nxt → Grants s six p q
  ends : (end_at s q).tcp.send.finished ≡ true → Grants s six p q
  gives : (others : List Duty) → p.agenda ≡ duties.Step (step_duties.Data s) ∷ others → (stands : Bool) (span : Span) → decision (path_of p) (payload_size p.profile) stands (send_of s six) ≡ Ok span
      → Has (IsGrantOf (end_at s p).tcp.send (send_of s six) span) (end_at s q).tcp.send.records
      → (end_at s q).tcp.send.nxt ≡ (end_at s p).tcp.send.nxt + length (part_of span (send_of s six).written) → Grants s six p q

then_same : (s : Side) (six : SixBooks) (p y q : PathState Carried) → SameSend y q → Grants s six p y → Grants s six p q
then_same s six p y q same (stays is) = stays (ap (λ (v : SendState). v.nxt) (same s) ∙ is)
then_same s six p y q same (ends is) = ends (ap (λ (v : SendState). v.finished) (same s) ∙ is)
then_same s six p y q same (gives others first stands span decided has next) =
    gives others first stands span decided (subst (Has (IsGrantOf (end_at s p).tcp.send (send_of s six) span)) (sym (ap (λ (v : SendState). v.records) (same s))) has) (ap (λ (v : SendState). v.nxt) (same s) ∙ next)

module _ (six : SixBooks) (p : PathState Carried) where
  all_stay : (s : Side) (q : PathState Carried) → AllStay p q → Grants s six p q
  all_stay A q h = stays h.a
  all_stay B q h = stays h.b

  granted_row : (s : Side) (others : List Duty) → p.agenda ≡ duties.Step (step_duties.Data s) ∷ others → Grants s six p (answered_data values s None (reply_of six (grant_ask s p)) p)
  granted_row A others first = by (decision (path_of p) (payload_size p.profile) p.a.modes.standby six.send_a) refl
    where
      by : (o : Result Span Why) → decision (path_of p) (payload_size p.profile) p.a.modes.standby six.send_a ≡ o → let r = replies.Send (reply_by o six.send_a) in Grants A six p (answered_grant A (grant_in r) r p)
      by (Err why) is = let r : Reply = replies.Send (reply_by (Err why) six.send_a) in all_stay A (answered_grant A None r p) (refused_next A r p)
      by (Ok span) is = gives others first p.a.modes.standby span is (last_so (IsGrantOf p.a.tcp.send six.send_a span) p.a.tcp.send.records (record { pos = p.a.tcp.send.nxt; kind = Data; piece = part_of span six.send_a.written; mapping = mapping_of p.profile A span.from p.a.tcp.send.nxt (part_of span six.send_a.written); sending = never_sent }) (refl, refl, refl)) refl
  granted_row B others first = by (decision (path_of p) (payload_size p.profile) p.b.modes.standby six.send_b) refl
    where
      by : (o : Result Span Why) → decision (path_of p) (payload_size p.profile) p.b.modes.standby six.send_b ≡ o → let r = replies.Send (reply_by o six.send_b) in Grants B six p (answered_grant B (grant_in r) r p)
      by (Err why) is = let r : Reply = replies.Send (reply_by (Err why) six.send_b) in all_stay B (answered_grant B None r p) (refused_next B r p)
      by (Ok span) is = gives others first p.b.modes.standby span is (last_so (IsGrantOf p.b.tcp.send six.send_b span) p.b.tcp.send.records (record { pos = p.b.tcp.send.nxt; kind = Data; piece = part_of span six.send_b.written; mapping = mapping_of p.profile B span.from p.b.tcp.send.nxt (part_of span six.send_b.written); sending = never_sent }) (refl, refl, refl)) refl

  pub other_next : (s : Side) (o : Option Record) (r : Reply) → (end_at s (answered_data values (peer s) o r p)).tcp.send.nxt ≡ (end_at s p).tcp.send.nxt
  other_next A (Some u) r = refl
  other_next B (Some u) r = refl
  other_next A None r = elim (grant_in r) as (λ o. (answered_grant B o r p).a.tcp.send.nxt ≡ p.a.tcp.send.nxt) [ None ↦ refl | Some grant ↦ refl ]
  other_next B None r = elim (grant_in r) as (λ o. (answered_grant A o r p).b.tcp.send.nxt ≡ p.b.tcp.send.nxt) [ None ↦ refl | Some grant ↦ refl ]

  own_row : (s : Side) (o : Option Record) (others : List Duty) → p.agenda ≡ duties.Step (step_duties.Data s) ∷ others → Grants s six p (answered_data values s o (reply_of six (data_ask values s o p)) p)
  own_row s (Some u) others first = let r : Reply = reply_of six (data_ask values s (Some u) p) in all_stay s (answered_data values s (Some u) r p) (unsent_next values s u r p)
  own_row s None others first = granted_row s others first

  data_row : (s t : Side) (others : List Duty) → p.agenda ≡ duties.Step (step_duties.Data t) ∷ others → Grants s six p (answered values (duties.Step (step_duties.Data t)) (reply_of six (ask_for values (duties.Step (step_duties.Data t)) p)) p)
  data_row A A others first = own_row A (first_unsent p.a) others first
  data_row B B others first = own_row B (first_unsent p.b) others first
  data_row A B others first = stays (other_next A (first_unsent p.b) (reply_of six (data_ask values B (first_unsent p.b) p)))
  data_row B A others first = stays (other_next B (first_unsent p.a) (reply_of six (data_ask values A (first_unsent p.a) p)))

  fin_row : (s t : Side) (r : Reply) → Grants s six p (answered values (duties.Send (send_duties.Fin t)) r p)
  fin_row A A r = ends refl
  fin_row B B r = ends refl
  fin_row A B r = stays refl
  fin_row B A r = stays refl

  duty_row : (s : Side) (d : Duty) (others : List Duty) → p.agenda ≡ d ∷ others → Grants s six p (answered values d (reply_of six (ask_for values d p)) p)
  duty_row s (duties.Step (step_duties.Data t)) others first = data_row s t others first
  duty_row s (duties.Step step_duties.Events) others first = let r : Reply = reply_of six (ask_for values (duties.Step step_duties.Events) p) in
      all_stay s (answered values (duties.Step step_duties.Events) r p) (event_next values (next_event p) r p)
  duty_row s (duties.Send (send_duties.Fin t)) others first = fin_row s t (reply_of six (ask_for values (duties.Send (send_duties.Fin t)) p))
  duty_row s d others first = let r : Reply = reply_of six (ask_for values d p) in all_stay s (answered values d r p) (answered_next values d r p refl refl)

-- as the path takes a reply, and as its next round begins
takes_row : (six : SixBooks) (ask : Ask) (p : PathState Carried) → asks_of values p ≡ Some ask → (s : Side) → Grants s six p (takes values (reply_of six ask) p)
takes_row six ask p asks s = by p.agenda asks
  where
    by : (ds : List Duty) → asks_first values ds (with_agenda ds p) ≡ Some ask → Grants s six (with_agenda ds p) (takes values (reply_of six ask) (with_agenda ds p))
    by [] asked = cc
    by (d ∷ ds) asked =
        let x : PathState Carried = with_agenda (d ∷ ds) p in
        let y : PathState Carried = answered values d (reply_of six ask) x in
        then_same s six x y (takes values (reply_of six ask) x) (settled_lasts SameSend same_last y.agenda y)
        (subst (λ z. Grants s six x (answered values d (reply_of six z) x)) (same_Some (ask_for values d x) ask asked) (duty_row six x s d ds refl))

next_row : (six : SixBooks) (p : PathState Carried) (s : Side) → Grants s six p (next_round p)
next_row six p s = stays (ap (λ (v : SendState). v.nxt) (begins_lasts SameSend same_last (record p { clock = p.until; until = p.until + 100 }) s))

abbrev EachGrants : SixBooks → SixBooks → List Note → PathState Carried → PathState Carried → Type 0
EachGrants six after steps p q = (s : Side) → Grants s six p q

paths_grant : EachPathBetween values EachGrants
paths_grant = paths_between values EachGrants (λ six ask steps p s. stays refl) (λ six ask steps p asks tells. takes_row six ask p asks) (λ six steps p over. next_row six p)

-- ---- the law

module _ (start : Start) (plan : PathPlan) (turns : List Turn) (turn : Turn) (one : start.paths ≡ plan ∷ []) (mild : IsMildStart start) (p q : PathState Carried)
    (here : IsPathAt 0 (reached values start turns) p) (there : IsPathAt 0 (reached values start (turns ++ turn ∷ [])) q) (s : Side) (unfinished : (end_at s q).tcp.send.finished ≡ false) where
  abbrev old : WorldState Carried
  old = reached values start turns

  abbrev b : Sending
  b = written_by s old

  counted : CountsBytes old p s
  counted = subst (HoldsOfKind (λ app. Unit {0}) (λ (z : PathState Carried). (t : Side) → CountsBytes old z t)) here.is ((positions_count_bytes start turns plan one mild).each 2 here.crew here.there) s

  number : path_of p ≡ 0
  number = (subst (HoldsOfKind (λ app. Unit {0}) HasNumber) here.is ((each_numbered start turns mild.plain.size).each here.crew here.there)).path

  grants : Grants s (books_in old.books) p q
  grants = at_turn start turns turn p q here there EachGrants paths_grant s

  ends_at : (span : Span) (x : Record) → x.kind ≡ Data → x.pos ≡ (end_at s p).tcp.send.nxt → x.piece ≡ part_of span b.written → end_of x ≡ (end_at s p).tcp.send.nxt + length (part_of span b.written)
  ends_at span x kind pos piece = (let size : occupied x.kind x.piece ≡ length (part_of span b.written) = ap (λ k. occupied k x.piece) kind ∙ ap (λ (o : List ℕ). length o) piece in omega (arith, size, pos))

  part_short : (span : Span) (x : Record) → x.piece ≡ part_of span b.written → length x.piece ≤ length b.written
  part_short span x piece =
      let size = ap (λ (o : List ℕ). length o) piece in
      let most = length-take (span.to - span.from) (drop span.from b.written) in let rest = length-drop span.from b.written in omega (arith, size, most, rest)

  full_one : (span : Span) (x : Record) → x.kind ≡ Data → x.pos ≡ (end_at s p).tcp.send.nxt → x.piece ≡ part_of span b.written
      → (payload_size p.profile ≤ length (part_of span b.written)) ⊎ (min (length b.written) b.edge ≤ taken_len 0 b.marks + length (part_of span b.written))
      → ((end_at s p).tcp.send.nxt + payload_size p.profile ≤ end_of x) ⊎ (min (length b.written) b.edge < end_of x)
  full_one span x kind pos piece by_size =
      let size : occupied x.kind x.piece ≡ length (part_of span b.written) = ap (λ k. occupied k x.piece) kind ∙ ap (λ (o : List ℕ). length o) piece in
      let taken = counted.taken in
      ⊎_elim (λ all. inl (omega (arith, all, size, pos))) (λ rest. inr (omega (arith, rest, size, pos, taken))) by_size

  is_full : ((end_at s q).tcp.send.nxt ≡ (end_at s p).tcp.send.nxt) ⊎ HoldsAFullPiece p.profile b (end_at s p).tcp.send.nxt (end_at s q)
  is_full = by grants
    where
      by : Grants s (books_in old.books) p q → ((end_at s q).tcp.send.nxt ≡ (end_at s p).tcp.send.nxt) ⊎ HoldsAFullPiece p.profile b (end_at s p).tcp.send.nxt (end_at s q)
      by (stays is) = inl is
      by (ends is) = absurd (true≢false (sym is ∙ unfinished))
      by (gives others first stands span decided has next) = inr (record {
        piece = has.item;
        there = record { at = has.at; item = has.item; there = has.there; holds = refl };
        kind = has.holds.0;
        pos = has.holds.1;
        last = next ∙ sym (ends_at span has.item has.holds.0 has.holds.1 has.holds.2);
        full = full_one span has.item has.holds.0 has.holds.1 has.holds.2
            (ends_so (payload_size p.profile) stands b span (subst (λ n. decision n (payload_size p.profile) stands b ≡ Ok span) number decided) counted.marked counted.free);
        part = part_short span has.item has.holds.2;
      })

  -- where SND.NXT rises the end was to ask for bytes
  pub grants_ask : ((end_at s q).tcp.send.nxt ≡ (end_at s p).tcp.send.nxt) ⊎ ((others : List Duty) × (p.agenda ≡ duties.Step (step_duties.Data s) ∷ others))
  grants_ask = by grants
    where
      by : Grants s (books_in old.books) p q → ((end_at s q).tcp.send.nxt ≡ (end_at s p).tcp.send.nxt) ⊎ ((others : List Duty) × (p.agenda ≡ duties.Step (step_duties.Data s) ∷ others))
      by (stays is) = inl is
      by (ends is) = absurd (true≢false (sym is ∙ unfinished))
      by (gives others first stands span decided has next) = inr (others, first)

pub each_grant_is_full : EachGrantIsFull
each_grant_is_full start plan turns turn one mild p q here there s unfinished = is_full start plan turns turn one mild p q here there s unfinished

-- as SND.NXT of such an end rises it was to ask for bytes next
pub who_is_granted_asks : (start : Start) (plan : PathPlan) (turns : List Turn) (turn : Turn) → start.paths ≡ plan ∷ [] → IsMildStart start
    → (p q : PathState Carried) → IsPathAt 0 (reached values start turns) p → IsPathAt 0 (reached values start (turns ++ turn ∷ [])) q → (s : Side)
    → (end_at s q).tcp.send.finished ≡ false → ((end_at s q).tcp.send.nxt ≡ (end_at s p).tcp.send.nxt)
    ⊎ ((others : List Duty) × (p.agenda ≡ duties.Step (step_duties.Data s) ∷ others))
who_is_granted_asks start plan turns turn one mild p q here there s unfinished = grants_ask start plan turns turn one mild p q here there s unfinished
