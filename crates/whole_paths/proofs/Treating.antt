-- What the duties that treat what a copy says make of its end, before its payload is kept.
use Rattle.std.proofs.Common.{◌≡◌, refl, sym, subst, ℕ, ◌≤◌, arith, le_refl, nat_lt, Bool, true, false, true≢false, if◌then◌else◌, Option, Some, None, List, [], ◌∷◌, ◌++◌, length}
use Rattle.std.proofs.lemmas.List.{length-append}
use Rattle.sides.specs.declared.side.Side.{Side}
use Rattle.sides.specs.Side.{peer}
use Rattle.control_book.specs.declared.call.ControlReply.TheVariants as control_replies
use Rattle.fallback_state.specs.declared.fall.Event.TheVariants as events
use Rattle.fallback_state.specs.declared.fall.Mode.TheVariants as modes
use Rattle.fallback_state.specs.declared.fall.Verdict.TheVariants as verdicts
use Rattle.actor_desk.specs.declared.ask.Reply.{Reply}
use Rattle.actor_desk.specs.declared.ask.Reply.TheVariants as replies
use Rattle.actor_desk.specs.Words.{pick}
use Rattle.path_agenda.specs.Agenda.{leaves, resets, stops}
use Rattle.path_agenda.specs.Items.{keys_heard}
use Rattle.path_agenda.specs.declared.duty.Duty.{Duty}
use Rattle.path_agenda.specs.declared.duty.Duty.TheVariants as duties
use Rattle.path_agenda.specs.declared.duty.AskDuty.TheVariants as ask_duties
use Rattle.path_agenda.specs.declared.duty.StepDuty.TheVariants as step_duties
use Rattle.path_agenda.specs.declared.heard.Heard.{Heard}
use Rattle.path_agenda.specs.declared.heard.Heard.TheVariants as says
use Rattle.path_agenda.specs.declared.keys.KeyPair.{KeyPair}
use Rattle.path_core.specs.Breaking.{answered_break, reset_on}
use Rattle.path_core.specs.Codec.{Codec}
use Rattle.path_core.specs.Deliver.{fins_and}
use Rattle.path_core.specs.DssIn.{is_clash, with_learned, with_data_fin, told_next}
use Rattle.path_core.specs.Duties.{answered}
use Rattle.path_core.specs.End.{PathEnd, died}
use Rattle.path_core.specs.Fallback.{breaks_by_ack, breaks_by, after_fell, fell_duties, with_plain_ack, after_infinite, after_fail_heard}
use Rattle.path_core.specs.FastClose.{is_stopped_by}
use Rattle.path_core.specs.MpCapable.{answered_opened}
use Rattle.path_core.specs.Standing.{answered_ack_out, after_ack_out}
use Rattle.path_core.specs.State.{PathState, end_at, goes_on, with_agenda}
use Rattle.path_core.specs.Treating.{item_of, answered_item}
use Rattle.world_laws.specs.Writes.{side_of}
use Rattle.world_laws.proofs.Falls.FailedChecks.{fail_heard_so, infinite_came_so, fail_answered_so}
use Rattle.whole_paths.specs.AgendaSteps.{is_gone}
use Rattle.whole_paths.specs.Brought.{comes_before_keeping, IsToReset}
use Rattle.whole_paths.specs.Brought.{IsToReset as resetting}
use Rattle.whole_paths.proofs.Agendas.{own_end, gone_end}

-- ---- an end

-- the payload that is held stays, what the copy says, and the ends of the stream that it told
pub record Leaves (e f : PathEnd) : Type 0 where
  pub recv : f.tcp.recv ≡ e.tcp.recv
  pub items : f.treated.items ≡ e.treated.items
  pub fins : length e.treated.fins ≤ length f.treated.fins

left_so : (e f : PathEnd) → f.tcp.recv ≡ e.tcp.recv → f.treated.items ≡ e.treated.items → f.treated.fins ≡ e.treated.fins → Leaves e f
left_so e f recv items fins = record { recv = recv; items = items; fins = subst (λ (places : List ℕ). length e.treated.fins ≤ length places) (sym fins) (le_refl (length e.treated.fins)) }

-- one end more is told, where there is room
pub more_fins : (o : Option ℕ) (fins : List ℕ) → length fins ≤ length (fins_and o fins)
more_fins None fins = le_refl (length fins)
more_fins (Some place) fins = elim (nat_lt (length fins) 3) as (λ b. length fins ≤ length (if b then fins ++ place ∷ [] else fins)) [
  | true ↦ (let all = length-append fins (place ∷ []) in omega (arith, all))
  | false ↦ le_refl (length fins)
]

abbrev pub is_heard : Duty → Bool
is_heard (duties.Step (step_duties.Heard s index)) = true
is_heard _ = false

-- the other duties follow, or one more before them that treats what the copy says
pub data Leads (s : Side) (ds : List Duty) : List Duty → Type 0 where
  as_they_are : Leads s ds ds
  one_more : (d : Duty) → side_of d ≡ s → comes_before_keeping d ≡ true → is_heard d ≡ false → Leads s ds (d ∷ ds)

-- ---- a duty

-- or the end is reset next, or dead
pub data Before (s : Side) (ds : List Duty) (e f : PathEnd) (next : List Duty) : Type 0 where
  on : Leaves e f → Leads s ds next → Before s ds e f next
  resets_then : IsToReset s next → Before s ds e f next
  dies : is_gone f ≡ true → Before s ds e f next

here_before : (s : Side) (ds : List Duty) (e f a b : PathEnd) (next : List Duty) → Before s ds e f next → Before s ds e (pick s (pick s f a) (pick s b f)) next
here_before s ds e f a b next x = subst (λ g. Before s ds e g next) (sym (own_end s f a b)) x

module _ {C : Type 0} where
  module _ (k : Codec C) (s : Side) (d : Duty) (ds : List Duty) (r : Reply) (p : PathState C) where
    abbrev x : PathState C
    x = with_agenda (d ∷ ds) p

    abbrev e : PathEnd
    e = end_at s p

    broken_before : (b : Bool) (reason : ℕ) (f : PathEnd) → Before s ds e f (breaks_by b s reason)
    broken_before true reason f = resets_then (resetting.broken reason refl)
    broken_before false reason f = resets_then (resetting.is_reset reason refl)

    fell_before : (f : PathEnd) (o : Reply) → Leaves e f → Before s ds e f (fell_duties s o x)
    fell_before f (replies.Control (control_replies.Verdict (verdicts.Went modes.Identity))) is = on is (one_more (duties.Ask (ask_duties.GoIdentity s)) refl refl refl)
    fell_before f (replies.Control (control_replies.Verdict (verdicts.BreakPath reason))) is = broken_before e.treated.asked reason f
    fell_before f _ is = on is as_they_are

    fallen : (f : PathEnd) → Leaves e f → let q : PathState C = goes_on s f (fell_duties s r x) x in Before s ds e (end_at s q) q.agenda
    fallen f is = here_before s ds e f p.a p.b (fell_duties s r x) (fell_before f r is)

    stays_before : (f : PathEnd) → Leaves e f → let q : PathState C = goes_on s f ds x in Before s ds e (end_at s q) q.agenda
    stays_before f is = here_before s ds e f p.a p.b ds (on is as_they_are)

    break_before : (reason : ℕ) → let q : PathState C = answered_break k s reason r x in Before s ds e (end_at s q) q.agenda
    break_before reason = elim e.treated.asked as
        (λ b. let q : PathState C = if b then answered_ack_out s r (resets s reason) x else reset_on k s (Some reason) (leaves s) x in Before s ds e (end_at s q) q.agenda) [
          | true ↦ here_before s ds e (after_ack_out r e) p.a p.b (resets s reason) (resets_then (resetting.is_reset reason refl))
          | false ↦ dies (gone_end s (died e) p.a p.b refl)
        ]

    told_before : (f : PathEnd) (b : Bool) → Leaves e f → let q : PathState C = goes_on s f (told_next s b x) x in Before s ds e (end_at s q) q.agenda
    told_before f true is = here_before s ds e f p.a p.b (duties.Ask (ask_duties.AckHeard s) ∷ ds) (on is (one_more (duties.Ask (ask_duties.AckHeard s)) refl refl refl))
    told_before f false is = stays_before f is

    stopped_before : (b : Bool) → Before s ds e (end_at s p) (if b then stops s else ds)
    stopped_before true = resets_then (resetting.stopped refl)
    stopped_before false = on (left_so _ _ refl refl refl) as_they_are

    abbrev Next : PathState C → Type 0
    Next q = Before s ds e (end_at s q) q.agenda

    item_before : (o : Option Heard) → Next (answered_item k s o r x)
    item_before None = on (left_so _ _ refl refl refl) as_they_are
    item_before (Some (says.DataAck next window)) = told_before _ _ (left_so _ _ refl refl refl)
    item_before (Some (says.Mapping fin)) = elim (is_clash e) as
        (λ b. Next (if b then answered_break k s 1 r x else goes_on s (with_learned (after_fell events.MappingHeard r (end_at s x))) (fell_duties s r x) x))
        [ true ↦ break_before 1 | false ↦ fallen (with_learned (after_fell events.MappingHeard r e)) (left_so _ _ refl refl refl) ]
    item_before (Some (says.DataFin place)) =
        fallen (with_data_fin place (after_fell events.MappingHeard r e)) (record { recv = refl; items = refl; fins = more_fins (Some place) e.treated.fins })
    item_before (Some (says.InfiniteMapping place position)) =
        fallen (after_infinite place position r e) (infinite_came_so (λ f. Leaves e f) place position r e (λ other. (left_so _ _ refl refl refl)))
    item_before (Some says.Fail) = fail_answered_so Next s r x
        (here_before s ds e _ p.a p.b (duties.Ask (ask_duties.FailHeard s) ∷ ds) (on (left_so _ _ refl refl refl) (one_more (duties.Ask (ask_duties.FailHeard s)) refl refl refl)))
        (fallen _ (left_so _ _ refl refl refl))
    item_before (Some (says.FastClose key)) = stopped_before (is_stopped_by r)
    item_before (Some (says.Keys own peer)) = stays_before _ (left_so _ _ refl refl refl)
    item_before (Some (says.Notice notice)) = stays_before _ (left_so _ _ refl refl refl)
    item_before (Some _) = on (left_so _ _ refl refl refl) as_they_are

    keys_before : (o : Option KeyPair) → Next (answered_opened s o r x)
    keys_before None = fallen _ (left_so _ _ refl refl refl)
    keys_before (Some keys) = stays_before _ (left_so _ _ refl refl refl)

    plain_ack_before : Next (answered k (duties.Step (step_duties.PlainAck s)) r x)
    plain_ack_before = elim (breaks_by_ack p.profile e) as
        (λ b. Next (if b then answered_break k s 6 r x else goes_on s (with_plain_ack (after_fell events.PlainAck r (end_at s x))) (fell_duties s r x) x))
        [ true ↦ break_before 6 | false ↦ fallen (with_plain_ack (after_fell events.PlainAck r e)) (left_so _ _ refl refl refl) ]

  pub before_answers : (k : Codec C) (d : Duty) (ds : List Duty) (r : Reply) (p : PathState C) → comes_before_keeping d ≡ true
      → let q : PathState C = answered k d r (with_agenda (d ∷ ds) p) in Before (side_of d) ds (end_at (side_of d) p) (end_at (side_of d) q) q.agenda
  before_answers k (duties.Ask (ask_duties.Opened s)) ds r p before = keys_before k s (duties.Ask (ask_duties.Opened s)) ds r p (keys_heard (end_at s p).treated.items)
  before_answers k (duties.Ask (ask_duties.Live s)) ds r p before = on (left_so _ _ refl refl refl) as_they_are
  before_answers k (duties.Ask (ask_duties.AckHeard s)) ds r p before = fallen k s (duties.Ask (ask_duties.AckHeard s)) ds r p (after_fell events.AckHeard r (end_at s p)) (left_so _ _ refl refl refl)
  before_answers k (duties.Ask (ask_duties.FailHeard s)) ds r p before =
      let e = end_at s p in fallen k s (duties.Ask (ask_duties.FailHeard s)) ds r p (after_fail_heard r e) (fail_heard_so (λ f. Leaves e f) r e (λ own owes. (left_so _ _ refl refl refl)))
  before_answers k (duties.Ask (ask_duties.SubflowAck s)) ds r p before = stays_before k s (duties.Ask (ask_duties.SubflowAck s)) ds r p _ (left_so _ _ refl refl refl)
  before_answers k (duties.Ask (ask_duties.PlainData s)) ds r p before = fallen k s (duties.Ask (ask_duties.PlainData s)) ds r p (after_fell events.PlainData r (end_at s p)) (left_so _ _ refl refl refl)
  before_answers k (duties.Ask (ask_duties.GoIdentity s)) ds r p before = stays_before k s (duties.Ask (ask_duties.GoIdentity s)) ds r p _ (left_so _ _ refl refl refl)
  before_answers k (duties.Step (step_duties.Heard s index)) ds r p before = item_before k s (duties.Step (step_duties.Heard s index)) ds r p (item_of index (end_at s p))
  before_answers k (duties.Step (step_duties.PlainAck s)) ds r p before = plain_ack_before k s (duties.Step (step_duties.PlainAck s)) ds r p
  before_answers k d ds r p before = absurd (true≢false (sym before))
