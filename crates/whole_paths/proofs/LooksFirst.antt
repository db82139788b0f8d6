-- In each turn a path looks how each of its sides stands, before it asks for bytes; it looks no more in that turn.
use Rattle.std.proofs.Common.{◌≡◌, refl, sym, ◌⊎◌, inl, inr, ℕ, zero, suc, ◌+◌, Bool, true, false, true≢false, if◌then◌else◌, Option, Some, None, List, [], ◌∷◌, ◌++◌, length}
use Rattle.std.specs.List.{list_any}
use Rattle.std.proofs.lemmas.Bool.{both_ways, or_parts}
use Rattle.path_segments.specs.Heard.{HeardSegment}
use Rattle.sides.specs.declared.side.Side.{Side}
use Rattle.sides.specs.declared.side.Side.TheVariants.{A, B}
use Rattle.link_model.specs.Steps.{arriving, after_delivery}
use Rattle.link_script.specs.Places.{same_side}
use Rattle.subflow_send.specs.Records.{Record}
use Rattle.subflow_tcp.specs.declared.verdicts.Meaning.{Meaning}
use Rattle.subflow_tcp.specs.declared.verdicts.Meaning.TheVariants as means
use Rattle.subflow_tcp.specs.Expiring.{is_sixth}
use Rattle.subflow_tcp.specs.States.{is_dead}
use Rattle.actor_desk.specs.Words.{tail_of}
use Rattle.actor_desk.specs.declared.ask.Reply.{Reply}
use Rattle.path_agenda.specs.Agenda.{emission, heard_and, leaves, payload_came, rest_of_turn, start_of_turn}
use Rattle.path_agenda.specs.Words.{replaced}
use Rattle.path_agenda.specs.declared.duty.Duty.{Duty}
use Rattle.path_agenda.specs.declared.duty.Duty.TheVariants as duties
use Rattle.path_agenda.specs.declared.duty.AskDuty.TheVariants as ask_duties
use Rattle.path_agenda.specs.declared.duty.SendDuty.TheVariants as send_duties
use Rattle.path_agenda.specs.declared.duty.StepDuty.TheVariants as step_duties
use Rattle.path_store.specs.declared.lines.LineAction.{LineAction}
use Rattle.path_store.specs.declared.lines.LineAction.TheVariants as actions
use Rattle.path_core.specs.Arrival.{copy_heard, heard_in, judged_in, template_by, template_judged}
use Rattle.path_core.specs.Codec.{Codec}
use Rattle.path_core.specs.Duties.{answered, ask_for, passed, stands}
use Rattle.path_core.specs.Emission.{data_ask, first_unsent}
use Rattle.path_core.specs.Events.{after_line, happens_if, next_event}
use Rattle.path_core.specs.MpJoin.{is_joined, is_never, keys_begun, never_joined, opened_by}
use Rattle.path_core.specs.OptionsIn.{items_of, options_heard}
use Rattle.path_core.specs.State.{PathState, at_tick, end_at, goes_on, left, with_agenda}
use Rattle.path_core.specs.Steps.{begins_turn, settled}
use Rattle.path_core.specs.Timer.{template_fired}
use Rattle.path_core.specs.declared.events.Event.{Event}
use Rattle.path_core.specs.declared.events.Event.TheVariants as happenings
use Rattle.path_core.specs.declared.judged.Judged.{Judged}
use Rattle.path_core.specs.declared.judged.Judged.TheVariants as judged
use Rattle.world_laws.specs.RoundEnd.{asks_grant}
use Rattle.world_laws.specs.RoundNumbers.{is_standby}
use Rattle.world_laws.specs.Standbys.{looks}
use Rattle.world_laws.specs.Writes.{side_of}
use Rattle.world_laws.proofs.Rounds.GrantAtOneDuty.{ask_isn't, asks_none}
use Rattle.world_laws.proofs.Standby.OneDutyLooks.{look_isn't, looks_none}
use Rattle.whole_paths.specs.AgendaSteps.{is_told}
use Rattle.whole_paths.proofs.Agendas.{answered_follows}
use Rattle.whole_paths.proofs.OnlyEvents.{follow_none}

-- ---- agendas

-- the path looks how this side stands
abbrev pub looks_on : Side → Duty → Bool
looks_on s (duties.Step (step_duties.Look t)) = same_side t s
looks_on s _ = false

abbrev pub NoneLooks : Side → List Duty → Type 0
NoneLooks s ds = list_any (looks_on s) ds ≡ false

-- It does so next, once the other side was looked at, a join that had to wait was asked for, or the path died by that.
pub data IsToLook (s : Side) : List Duty → Type 0 where
  now : (ds : List Duty) → NoneLooks s ds → IsToLook s (duties.Step (step_duties.Look s) ∷ ds)
  behind_look : (t : Side) (ds : List Duty) → IsToLook s ds → IsToLook s (duties.Step (step_duties.Look t) ∷ ds)
  behind_join : (ds : List Duty) → IsToLook s ds → IsToLook s (duties.Ask ask_duties.JoinAgain ∷ ds)
  behind_leave : (t : Side) (ds : List Duty) → IsToLook s ds → IsToLook s (duties.Ask (ask_duties.Leave t) ∷ ds)
  behind_dead : (t : Side) (ds : List Duty) → IsToLook s ds → IsToLook s (duties.Ask (ask_duties.Dead t) ∷ ds)

told_none : (s : Side) (e : Duty) → is_told e ≡ true → looks_on s e ≡ false
told_none s (duties.Ask (ask_duties.GoIdentity t)) told = refl
told_none s (duties.Ask (ask_duties.AckHeard t)) told = refl
told_none s (duties.Ask (ask_duties.FailHeard t)) told = refl
told_none s (duties.Send (send_duties.SynAck t)) told = refl
told_none s (duties.Send (send_duties.Refuse t)) told = refl
told_none s _ told = absurd (true≢false (sym told))

start_looks : (s : Side) → IsToLook s start_of_turn
start_looks A = behind_join _ (now _ refl)
start_looks B = behind_join _ (behind_look A _ (now _ refl))

-- ---- what an event lays out

heard_none : (s t : Side) (from count : ℕ) (ds : List Duty) → NoneLooks s ds → NoneLooks s (heard_and t from count ds)
heard_none s t from zero ds none = none
heard_none s t from (suc count) ds none = heard_none s t (from + 1) count ds none

died_none : (s : Side) (a b : Bool) → NoneLooks s ((if a then [] else duties.Ask (ask_duties.Leave A) ∷ []) ++ ((if b then [] else duties.Ask (ask_duties.Leave B) ∷ []) ++ rest_of_turn))
died_none s true true = refl
died_none s true false = refl
died_none s false true = refl
died_none s false false = refl

meant_none : (s t : Side) (joined : Bool) (count : ℕ) (m : Meaning) → NoneLooks s (template_by joined t count m)
meant_none s t true count (means.Accepts n) = refl
meant_none s t false count (means.Accepts n) = refl
meant_none s t joined count (means.Taken pos n) = heard_none s t 0 count (payload_came t) refl
meant_none s t joined count _ = refl

judged_none : (s t : Side) (joined : Bool) (count : ℕ) (v : Judged) → NoneLooks s (template_judged joined t count v)
judged_none s t joined count (judged.As m) = meant_none s t joined count m
judged_none s t joined count _ = refl

module _ {C : Type 0} where
  copy_none : (s t : Side) (o : Option HeardSegment) (p : PathState C) → NoneLooks s (copy_heard t o p).agenda
  copy_none s t None p = refl
  copy_none s t (Some segment) p =
      let h : HeardSegment = options_heard (end_at t p) segment in judged_none s t (is_joined p.profile) (length (items_of (is_joined p.profile) t h)) (judged_in (is_joined p.profile) t h (end_at t p))

  line_none : (s : Side) (action : LineAction) (p : PathState C) → NoneLooks s (after_line action p).agenda
  line_none s actions.Die p = died_none s (is_dead p.a.tcp.state) (is_dead p.b.tcp.state)
  line_none s (actions.Prio t backup) p = refl
  line_none s (actions.Announce t id) p = refl
  line_none s (actions.Withdraw t id) p = refl

module _ {C : Type 0} (k : Codec C) where
  event_none : (s : Side) (o : Option Event) (r : Reply) (p : PathState C) → NoneLooks s (happens_if k o r p).agenda
  event_none s None r p = refl
  event_none s (Some (happenings.Joins tick)) r p =
      let x : PathState C = record (at_tick tick p) { joined_at = None } in
      elim (is_never r) as (λ b. NoneLooks s (if b then goes_on A (never_joined r x.a) (leaves A) x else goes_on A (opened_by (keys_begun r) x.a) (emission A) x).agenda) [ true ↦ refl | false ↦ refl ]
  event_none s (Some (happenings.Takes line)) r p = line_none s line.action (record (at_tick line.tick p) { lines = tail_of p.lines })
  event_none s (Some (happenings.Arrives due)) r p = copy_none s due.to (heard_in k due.to (arriving due p.link) p) (record (at_tick due.tick p) { link = after_delivery due p.link })
  event_none s (Some (happenings.Fires t tick)) r p = elim (is_sixth (end_at t p).tcp) as (λ b. NoneLooks s (template_fired b t)) [ true ↦ refl | false ↦ refl ]

  -- ---- any duty

  pub answered_none : (s : Side) (d : Duty) (ds : List Duty) (r : Reply) (p : PathState C) → NoneLooks s (d ∷ ds) → NoneLooks s (answered k d r (with_agenda (d ∷ ds) p)).agenda
  answered_none s (duties.Step step_duties.Events) ds r p none = let x : PathState C = with_agenda (duties.Step step_duties.Events ∷ ds) p in event_none s (next_event x) r x
  answered_none s d ds r p none =
      follow_none (looks_on s) (told_none s) (λ t. refl) (λ t. refl) (λ t reason. refl) (λ t reason. refl) (λ t. refl) (λ t. refl) (side_of d) _ d ds (answered k d r (with_agenda (d ∷ ds) p)).agenda (answered_follows k d ds r p) none

  pub settled_none : (s : Side) (ds : List Duty) (p : PathState C) → NoneLooks s ds → NoneLooks s (settled ds p).agenda
  settled_none s [] p none = refl
  settled_none s (d ∷ ds) p none = elim (stands d p) as (λ b. NoneLooks s (if b then with_agenda (d ∷ ds) p else settled ds (passed d p)).agenda)
      [ true ↦ none | false ↦ settled_none s ds (passed d p) (or_parts (looks_on s d) (list_any (looks_on s) ds) none).1 ]

  -- it looks next, or looked now
  pub look_next : (s : Side) (d : Duty) (ds : List Duty) (r : Reply) (p : PathState C) → IsToLook s (d ∷ ds) → let q = answered k d r (with_agenda (d ∷ ds) p) in IsToLook s q.agenda ⊎ ((d ≡ duties.Step (step_duties.Look s)) × NoneLooks s q.agenda)
  look_next s d ds r p (now others none) = inr (refl, none)
  look_next s d ds r p (behind_look t others l) = inl l
  look_next s d ds r p (behind_join others l) =
      let x : PathState C = with_agenda (duties.Ask ask_duties.JoinAgain ∷ ds) p in
      inl (elim (is_never r) as (λ b. IsToLook s (if b then goes_on A (never_joined r x.a) (replaced (duties.Ask (ask_duties.Leave A)) x.agenda) x else goes_on A (opened_by (keys_begun r) x.a) (left x) x).agenda) [ true ↦ behind_leave A ds l | false ↦ l ])
  look_next s d ds r p (behind_leave t others l) = inl (behind_dead t ds l)
  look_next s d ds r p (behind_dead t others l) = inl l

  pub settled_looks : (s : Side) (ds : List Duty) (p : PathState C) → IsToLook s ds → IsToLook s (settled ds p).agenda
  settled_looks s ds p (now others none) = now others none
  settled_looks s ds p (behind_look t others l) = behind_look t others l
  settled_looks s ds p (behind_join others l) = elim (stands (duties.Ask ask_duties.JoinAgain) p) as (λ b. IsToLook s (if b then with_agenda (duties.Ask ask_duties.JoinAgain ∷ others) p else settled others p).agenda)
      [ true ↦ behind_join others l | false ↦ settled_looks s others p l ]
  settled_looks s ds p (behind_leave t others l) = behind_leave t others l
  settled_looks s ds p (behind_dead t others l) = behind_dead t others l

  pub begins_looks : (s : Side) (p : PathState C) → IsToLook s (begins_turn p).agenda
  begins_looks s p = settled_looks s start_of_turn (with_agenda start_of_turn p) (start_looks s)

  -- ---- what is asked

  -- no look of this side
  pub asks_no_look : (s : Side) (d : Duty) (p : PathState C) → looks_on s d ≡ false → looks s (ask_for k d p) ≡ false
  asks_no_look A (duties.Step (step_duties.Look B)) p none = refl
  asks_no_look B (duties.Step (step_duties.Look A)) p none = refl
  asks_no_look A (duties.Step (step_duties.Look A)) p none = absurd (true≢false none)
  asks_no_look B (duties.Step (step_duties.Look B)) p none = absurd (true≢false none)
  asks_no_look s d p none = look_isn't s (ask_for k d p) (looks_none k p d tt)

  -- who is to look asks for no bytes
  pub looker_asks_none : (s t : Side) (d : Duty) (ds : List Duty) (p : PathState C) → IsToLook s (d ∷ ds) → asks_grant t (ask_for k d p) ≡ false
  looker_asks_none s t d ds p (now others none) = ask_isn't t (ask_for k (duties.Step (step_duties.Look s)) p) tt
  looker_asks_none s t d ds p (behind_look u others l) = ask_isn't t (ask_for k (duties.Step (step_duties.Look u)) p) tt
  looker_asks_none s t d ds p (behind_join others l) = ask_isn't t (ask_for k (duties.Ask ask_duties.JoinAgain) p) tt
  looker_asks_none s t d ds p (behind_leave u others l) = ask_isn't t (ask_for k (duties.Ask (ask_duties.Leave u)) p) tt
  looker_asks_none s t d ds p (behind_dead u others l) = ask_isn't t (ask_for k (duties.Ask (ask_duties.Dead u)) p) tt

  data_standby : (s t : Side) (o : Option Record) (p : PathState C) → asks_grant s (data_ask k t o p) ≡ true → is_standby (data_ask k t o p) ≡ (end_at s p).modes.standby
  data_standby A t (Some r) p is = absurd (true≢false (sym is))
  data_standby B t (Some r) p is = absurd (true≢false (sym is))
  data_standby A A None p is = refl
  data_standby B B None p is = refl
  data_standby A B None p is = absurd (true≢false (sym is))
  data_standby B A None p is = absurd (true≢false (sym is))

  -- bytes are asked for as the end stands
  pub asks_as_it_stands : (s : Side) (d : Duty) (p : PathState C) → asks_grant s (ask_for k d p) ≡ true → is_standby (ask_for k d p) ≡ (end_at s p).modes.standby
  asks_as_it_stands s (duties.Step (step_duties.Data t)) p is = data_standby s t (first_unsent (end_at t p)) p is
  asks_as_it_stands s d p is = absurd (both_ways _ (ask_isn't s (ask_for k d p) (asks_none k p d tt)) is)
