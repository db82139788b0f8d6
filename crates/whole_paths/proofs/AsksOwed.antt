-- As an end asks its book behind a copy what is to be acknowledged, it owes an acknowledgement: nothing is told to the book of a copy that wants none.
use Rattle.std.proofs.Common.{◌≡◌, refl, sym, subst, ap, ◌∙◌, ◌⊎◌, inl, inr, ⊎_elim, ℕ, zero, suc, ◌+◌, ◌<◌, ◌≤◌, arith, Bool, true, false, true≢false, nat_lt, if◌then◌else◌, Option, Some, None, is_some, List, [], ◌∷◌, ◌++◌, drop, length}
use Rattle.std.specs.Prelude.{IsSome}
use Rattle.std.specs.List.{list_any, slice_get}
use Rattle.std.proofs.lemmas.Bool.{both_ways, cases_lt, or_parts}
use Rattle.std.proofs.lemmas.Option.{same_Some}
use Rattle.sides.specs.declared.side.Side.{Side}
use Rattle.sides.specs.declared.side.Side.TheVariants.{A, B}
use Rattle.fallback_state.specs.declared.fall.Event.TheVariants as events
use Rattle.dss_mapping.specs.Learning.{first_held, first_of, others_of}
use Rattle.dss_mapping.specs.Mappings.{Mappings}
use Rattle.path_store.specs.Receiving.{Receiving, data_fin_behind, data_fin_reached}
use Rattle.subflow_tcp.specs.declared.dues.Due.{Due}
use Rattle.reassembly_book.specs.declared.call.ReassemblyReply.{ReassemblyReply}
use Rattle.actor_desk.specs.declared.ask.Reply.{Reply}
use Rattle.actor_desk.specs.Words.{pick, tail_of}
use Rattle.path_agenda.specs.Agenda.{copy_came, emission, heard_and, join_answered, leaves, payload_came, resets, start_of_turn, syn_ack_came}
use Rattle.path_agenda.specs.Items.{wants_ack}
use Rattle.path_agenda.specs.Words.{replaced}
use Rattle.path_agenda.specs.declared.keys.KeyPair.{KeyPair}
use Rattle.path_agenda.specs.declared.duty.Duty.{Duty}
use Rattle.path_agenda.specs.declared.duty.Duty.TheVariants as duties
use Rattle.path_agenda.specs.declared.duty.AskDuty.TheVariants as ask_duties
use Rattle.path_agenda.specs.declared.duty.SilentDuty.TheVariants as silent_duties
use Rattle.path_agenda.specs.declared.duty.StepDuty.TheVariants as step_duties
use Rattle.path_agenda.specs.declared.heard.Heard.{Heard}
use Rattle.path_agenda.specs.declared.heard.Heard.TheVariants as says
use Rattle.path_core.specs.Breaking.{answered_break, reset_on}
use Rattle.path_core.specs.Choices.{item_at}
use Rattle.path_core.specs.DataFin.{place_passed}
use Rattle.path_core.specs.Deliver.{after_check, after_pieces, fins_and, mapping_here}
use Rattle.path_core.specs.DssIn.{counts, held_of, is_clash, with_learned, with_skipped}
use Rattle.path_core.specs.Duties.{answered, passed, stands}
use Rattle.path_core.specs.End.{PathEnd, died}
use Rattle.path_core.specs.Fallback.{after_fell, after_infinite, breaks_by_ack, fell_duties, with_plain_ack}
use Rattle.path_core.specs.Profile.{Profile}
use Rattle.path_core.specs.MpJoin.{is_joined, is_never, joins_at_tick, keys_begun, never_joined, opened_by}
use Rattle.path_core.specs.Standing.{after_ack_out, answered_ack_out, window_in}
use Rattle.path_core.specs.State.{PathState, at_tick, end_at, goes_on, left, with_agenda}
use Rattle.path_core.specs.Steps.{next_round, settled, takes}
use Rattle.path_core.specs.Timer.{template_fired, timer_fired}
use Rattle.path_core.specs.Treated.{Treated}
use Rattle.path_core.specs.Treating.{answered_item, answered_heard, item_of, item_passed}
use Rattle.path_core.specs.Values.{Carried, values}
use Rattle.world_laws.specs.Writes.{EndView, PathView, copy_said, side_of, writes}
use Rattle.world_laws.proofs.Falls.FailedChecks.{fail_answered_so, forgets_so, infinite_came_so}
use Rattle.world_laws.proofs.Writes.Paths.{passes_no_more, writes_no_more}
use Rattle.world_laws.proofs.Writes.Steps.{Lasts, settled_lasts, unwritten}
use Rattle.whole_paths.specs.AgendaSteps.{Follows, is_gone, is_silent, is_told}
use Rattle.whole_paths.specs.AgendaSteps.{Follows as follow}
use Rattle.whole_paths.specs.Brought.{IsToReset}
use Rattle.whole_paths.specs.Mild.{IsMildStart, is_harsh}
use Rattle.whole_paths.specs.Brought.{IsToReset as resetting}
use Rattle.whole_paths.proofs.Agendas.{answered_follows, gone_end, own_end}
use Rattle.whole_paths.proofs.Pieces.{is_event, own_only}
use Rattle.whole_paths.proofs.RisesOwed.{BareSaysNothing, Treats, never_both, never_joins, never_silent, apart, other_infinite}
use Rattle.whole_paths.proofs.Unpassed.{Calm, Empty, Idle, StaysCalm, calm_by, is_edge, learned_none, own_calm, passed_calm, passed_infinite}
use Rattle.world_laws.specs.Actors.{ActorCrew}
use Rattle.link_model.specs.declared.flight.Due.{Due as Arriving}
use Rattle.whole_paths.proofs.ByTurns.{Becomes, Of, OfFirst, each_step}
use Rattle.stream_lanes.specs.Duo.{Duo, after_events}
use Rattle.stream_lanes.specs.Lane.{Lane}
use Rattle.subflow_tcp.specs.State.{EndState}
use Rattle.path_core.specs.declared.events.Event.{Event}
use Rattle.path_core.specs.Turns.{FirstStands}
use Rattle.whole_paths.proofs.Handshaking.{Given, given}
use Rattle.world_laws.specs.Promises.{HasRoom}
use Rattle.path_segments.specs.Heard.{HeardSegment}
use Rattle.path_store.specs.declared.infinite_mapping.InfiniteMapping.{InfiniteMapping}
use Rattle.whole_paths.specs.Finish.{IsPathAt}
use Rattle.path_core.specs.declared.judged.Judged.{Judged}
use Rattle.world_laws.proofs.Lanes.OfAWorld.{Links, WorldShows, anyhow, anyhow_free, first_duo, free_run}
use Rattle.world_laws.proofs.Lanes.Showing.{PathShows}
use Rattle.world_laws.proofs.Lanes.Beginning.{each_run_shows}
use Rattle.world_laws.proofs.Worlds.CastLifting.{each_actor}
use Rattle.world_laws.proofs.Rounds.Lifting.{opened_lifted}
use Rattle.path_store.specs.declared.lines.LineAction.{LineAction}
use Rattle.subflow_tcp.specs.declared.verdicts.Meaning.{Meaning}
use Rattle.path_core.specs.declared.modes.Modes.{Modes}
use Rattle.whole_paths.proofs.MoreOwed.{AllSettled, Facts, Known, OfPaths, events_idle, facts_at, settled_at}
use Rattle.world_laws.specs.Openings.{PathPlan, Start, opened_world, path_begins}
use Rattle.whole_paths.proofs.Paying.{Pays, answered_pays, passed_due}
use Rattle.whole_paths.proofs.Passing.{Quiet, Ready, died_now, heard_modes}
use Rattle.world_laws.specs.Worlds.{Turn, WorldState}
use Rattle.world_laws.specs.RoundDone.{reached}
use Rattle.link_model.specs.Steps.{after_delivery, arriving}
use Rattle.subflow_tcp.specs.Taking.{after_established, after_heard_ack, after_hearing, after_payload}
use Rattle.path_core.specs.Arrival.{after_judged, copy_heard, copy_judged, copy_of, heard_in, judged_in, reset_for, template_by, template_judged, with_payload}
use Rattle.path_core.specs.Events.{after_line, happens_if, next_event}
use Rattle.whole_paths.proofs.Duties.{answered_steps, passed_steps}
use Rattle.path_core.specs.OptionsIn.{hint_of, items_of, options_heard, owes_by}
use Rattle.subflow_tcp.specs.States.{is_dead}
use Rattle.subflow_tcp.specs.Expiring.{is_sixth}
use Rattle.subflow_tcp.specs.Segments.{occupied}
use Rattle.whole_paths.specs.News.{one_if}
use Rattle.path_core.specs.Judged.{taken_as}
use Rattle.whole_paths.proofs.Moving.{taken_recv}
use Rattle.path_core.specs.Start.{waiting_path}
use Rattle.path_core.specs.Looking.{duty_sends}
use Rattle.path_core.specs.Modes.{fin_place}
use Rattle.path_store.specs.InfiniteMappings.{fin_place as fin_at}
use Rattle.whole_paths.proofs.Waiting.{gone_stays, path_far}
use Rattle.whole_paths.proofs.ClosingOwed.{owing_due}
use Rattle.whole_paths.proofs.Settling.{sides}
use Rattle.subflow_recv.specs.Receiving.{Receiving as Octets}
use Rattle.whole_paths.specs.AsksOwed.{WhoAsksOwes}
use Rattle.path_store.specs.declared.lines.LineAction.TheVariants as actions
use Rattle.path_core.specs.declared.events.Event.TheVariants as happenings
use Rattle.path_core.specs.declared.judged.Judged.TheVariants as judged
use Rattle.subflow_tcp.specs.declared.verdicts.Meaning.TheVariants as means
use Rattle.whole_paths.proofs.Unpassed.{Calm as calms}
use Rattle.whole_paths.proofs.Paying.{Owed as owes_on, Pays as pay}
use Rattle.whole_paths.proofs.Passing.{Ready as ready}
use Rattle.whole_paths.proofs.ByTurns.{Becomes as becoming}

-- ---- agendas

-- the book isn't asked behind a copy, at this side
abbrev pub NoAsk : Side → List Duty → Type 0
NoAsk t [] = Unit {0}
NoAsk t (duties.Ask (ask_duties.AckOut u) ∷ ds) = (u ≡ t → ⊥) × NoAsk t ds
NoAsk t (d ∷ ds) = NoAsk t ds

abbrev pub AskNext : Side → Duty → List Duty → Type 0
AskNext t (duties.Ask (ask_duties.AckOut u)) ds = (u ≡ t) × NoAsk t ds
AskNext t d ds = ⊥

-- it is, behind other duties of the side, none of which sends a segment
abbrev pub AskSoon : Side → List Duty → Type 0
AskSoon t [] = ⊥
AskSoon t (d ∷ ds) = AskNext t d ds ⊎ ((side_of d ≡ t) × ((is_silent d ≡ true) × AskSoon t ds))

no_ask_rest : (t : Side) (d : Duty) (ds : List Duty) → NoAsk t (d ∷ ds) → NoAsk t ds
no_ask_rest t (duties.Ask (ask_duties.AckOut u)) ds x = x.1
no_ask_rest t d ds x = x

next_rest : (t : Side) (d : Duty) (ds : List Duty) → AskNext t d ds → NoAsk t ds
next_rest t (duties.Ask (ask_duties.AckOut u)) ds x = x.1
next_rest t d ds x = absurd x

-- ---- what a copy that wants no acknowledgement leaves to be told

pub record Untold (e : PathEnd) : Type 0 where
  pub asked : e.treated.asked ≡ false
  pub fins : e.treated.fins ≡ []
  pub items : list_any wants_ack e.treated.items ≡ false
  pub mapped : e.receiving.mapped_data_fin ≡ None
  pub held : e.receiving.mappings.held ≡ []

-- of a thing that it says
at_quiet : {X : Type 0} (f : X → Bool) (n : ℕ) (xs : List X) (x : X) → item_at n xs ≡ Some x → list_any f xs ≡ false → f x ≡ false
at_quiet f n [] x is none = cc
at_quiet f zero (y ∷ xs) x is none = subst (λ z. f z ≡ false) (same_Some y x is) (or_parts (f y) (list_any f xs) none).0
at_quiet f (suc n) (y ∷ xs) x is none = at_quiet f n xs x is (or_parts (f y) (list_any f xs) none).1

item_quiet : (index : ℕ) (e : PathEnd) (item : Heard) → item_of index e ≡ Some item → Untold e → wants_ack item ≡ false
item_quiet index e item = by e.modes.identity
  where
    by : (b : Bool) → (if b then None else item_at index e.treated.items) ≡ Some item → Untold e → wants_ack item ≡ false
    by true is h = cc
    by false is h = at_quiet wants_ack index e.treated.items item is h.items

-- nothing changes of it
same_untold : (e f : PathEnd) → f.treated.asked ≡ e.treated.asked → f.treated.fins ≡ e.treated.fins → f.treated.items ≡ e.treated.items → f.receiving.mapped_data_fin ≡ e.receiving.mapped_data_fin
    → f.receiving.mappings.held ≡ e.receiving.mappings.held → Untold e → Untold f
same_untold e f asked fins items mapped held h = record { asked = asked ∙ h.asked; fins = fins ∙ h.fins; items = ap (list_any wants_ack) items ∙ h.items; mapped = mapped ∙ h.mapped; held = held ∙ h.held }

here : (s : Side) (f a b : PathEnd) → Untold f → Untold (pick s (pick s f a) (pick s b f))
here s f a b x = subst (λ g. Untold g) (sym (own_end s f a b)) x

-- a mapping is learned where none is held
learned_untold : (e f : PathEnd) → f.treated.asked ≡ e.treated.asked → f.treated.fins ≡ e.treated.fins → f.treated.items ≡ e.treated.items → f.receiving.mapped_data_fin ≡ data_fin_behind (first_held e.receiving.mappings) e.receiving.mapped_data_fin
    → (e.receiving.mappings.held ≡ [] → f.receiving.mappings.held ≡ []) → Untold e → Untold f
learned_untold e f asked fins items mapped held h = record {
  asked = asked ∙ h.asked;
  fins = fins ∙ h.fins;
  items = ap (list_any wants_ack) items ∙ h.items;
  mapped = mapped ∙ ap (λ o. data_fin_behind o e.receiving.mapped_data_fin) first ∙ h.mapped;
  held = held h.held;
}
  where
    first : first_held e.receiving.mappings ≡ None
    first = ap first_of h.held

-- ---- a duty that is passed

item_untold : (s : Side) (o : Option Heard) (e : PathEnd) → ((item : Heard) → o ≡ Some item → wants_ack item ≡ false) → Untold e → Untold (item_passed s o e)
item_untold s None e quiet h = h
item_untold s (Some (says.Mapping fin)) e quiet h = elim (counts e) as (λ b. Untold (if b then with_learned e else with_skipped e)) [
  | true ↦ learned_untold e (with_learned e) refl refl refl refl (λ none. (learned_none e.receiving.mappings none).1) h
  | false ↦ record { asked = h.asked; fins = h.fins; items = h.items; mapped = h.mapped; held = ap others_of h.held }
]
item_untold s (Some (says.DataFin place)) e quiet h = absurd (true≢false (quiet (says.DataFin place) refl))
item_untold s (Some _) e quiet h = same_untold e _ refl refl refl refl refl h

module _ (d : Duty) (p : PathState Carried) where
  unwritten_passes : (writes d).own.asked ≡ false → (writes d).own.fins ≡ false → (writes d).own.copy ≡ false → (writes d).own.mapped_data_fin ≡ false → (writes d).own.mappings ≡ false
      → Untold (end_at (side_of d) p) → Untold (end_at (side_of d) (passed d p))
  unwritten_passes asked fins copy mapped mappings =
      let s = side_of d in let q : PathState Carried = passed d p in let only = own_only s (writes d) p q (passes_no_more d p) in
      same_untold (end_at s p) (end_at s q)
      (unwritten (writes d).own.asked (end_at s p).treated.asked (end_at s q).treated.asked asked (ap (λ (v : EndView). v.asked) only.same))
      (unwritten (writes d).own.fins (end_at s p).treated.fins (end_at s q).treated.fins fins (ap (λ (v : EndView). v.fins) only.same))
      (ap (λ (t : Treated). t.items) (unwritten (writes d).own.copy (copy_said (end_at s p).treated) (copy_said (end_at s q).treated) copy (ap (λ (v : EndView). v.copy) only.same)))
      (unwritten (writes d).own.mapped_data_fin (end_at s p).receiving.mapped_data_fin (end_at s q).receiving.mapped_data_fin mapped (ap (λ (v : EndView). v.mapped_data_fin) only.same))
      (ap (λ (m : Mappings). m.held) (unwritten (writes d).own.mappings (end_at s p).receiving.mappings (end_at s q).receiving.mappings mappings (ap (λ (v : EndView). v.mappings) only.same)))

pieces_untold : (e : PathEnd) → Untold e → Untold (after_pieces e)
pieces_untold e h = record {
  asked = h.asked;
  fins = ap (λ o. fins_and (data_fin_reached o e.tcp.recv.edge) e.treated.fins) h.mapped ∙ h.fins;
  items = h.items;
  mapped = ap (λ o. if is_some (data_fin_reached o e.tcp.recv.edge) then None else o) h.mapped;
  held = h.held;
}

passed_untold : (d : Duty) (p : PathState Carried) → Untold (end_at (side_of d) p) → Untold (end_at (side_of d) (passed d p))
passed_untold (duties.Ask (ask_duties.CheckFailed s)) p h =
    let e = end_at s p in here s (after_check p.profile e) p.a p.b (forgets_so Untold p.profile.spelling.checksums (mapping_here e) e (λ recv forgotten. same_untold e (record e { tcp = record e.tcp { recv = recv } }) refl refl refl refl refl h))
passed_untold (duties.Step (step_duties.Heard s index)) p h =
    let e = end_at s p in here s (item_passed s (item_of index e) e) p.a p.b (item_untold s (item_of index e) e (λ item is. item_quiet index e item is h) h)
passed_untold (duties.Step (step_duties.PlainAck s)) p h = let e = end_at s p in here s (with_plain_ack e) p.a p.b (same_untold e (with_plain_ack e) refl refl refl refl refl h)
passed_untold (duties.Step (step_duties.Unmapped s)) p h = here s (after_pieces (end_at s p)) p.a p.b (pieces_untold (end_at s p) h)
passed_untold (duties.Silent (silent_duties.Timer s)) p h = unwritten_passes (duties.Silent (silent_duties.Timer s)) p refl refl refl refl refl h
passed_untold (duties.Silent (silent_duties.Keep s)) p h = unwritten_passes (duties.Silent (silent_duties.Keep s)) p refl refl refl refl refl h
passed_untold (duties.Silent (silent_duties.PassFin s)) p h = unwritten_passes (duties.Silent (silent_duties.PassFin s)) p refl refl refl refl refl h
passed_untold d p h = h

-- ---- a duty that is answered

-- what an answered duty leaves: nothing to be told, a dead end, or one that is reset next
data Leaves (s : Side) (q : PathState Carried) : Type 0 where
  untold : Untold (end_at s q) → Leaves s q
  dies : is_gone (end_at s q) ≡ true → Leaves s q
  resets_next : IsToReset s q.agenda → Leaves s q

module _ (s : Side) (r : Reply) (p : PathState Carried) (h : Untold (end_at s p)) where
  abbrev e : PathEnd
  e = end_at s p

  stays : (f : PathEnd) (ds : List Duty) → Untold f → Leaves s (goes_on s f ds p)
  stays f ds x = untold (here s f p.a p.b x)

  break_leaves : (reason : ℕ) → Leaves s (answered_break values s reason r p)
  break_leaves reason = elim e.treated.asked as (λ b. Leaves s (if b then answered_ack_out s r (resets s reason) p else reset_on values s (Some reason) (leaves s) p))
      [ true ↦ resets_next (resetting.is_reset reason refl) | false ↦ dies (gone_end s (died e) p.a p.b refl) ]

  thing_leaves : (item : Heard) → wants_ack item ≡ false → Leaves s (answered_heard values s item r p)
  thing_leaves (says.DataAck next window) quiet = untold (here s _ p.a p.b (same_untold e _ refl refl refl refl refl h))
  thing_leaves (says.Mapping fin) quiet = elim (is_clash e) as
      (λ b. Leaves s (if b then answered_break values s 1 r p else goes_on s (with_learned (after_fell events.MappingHeard r e)) (fell_duties s r p) p)) [
        | true ↦ break_leaves 1
        | false ↦ stays (with_learned (after_fell events.MappingHeard r e)) (fell_duties s r p) (learned_untold e (with_learned (after_fell events.MappingHeard r e)) refl refl refl refl (λ none. (learned_none e.receiving.mappings none).1) h)
      ]
  thing_leaves (says.DataFin place) quiet = absurd (true≢false quiet)
  thing_leaves (says.InfiniteMapping place position) quiet =
      untold (here s (after_infinite place position r e) p.a p.b (infinite_came_so Untold place position r e (λ other. same_untold e _ refl refl refl refl refl h)))
  thing_leaves (says.Keys own other) quiet = absurd (true≢false quiet)
  thing_leaves (says.Notice notice) quiet = untold (here s _ p.a p.b (same_untold e _ refl refl refl refl refl h))
  thing_leaves says.Fail quiet = fail_answered_so (λ q. Leaves s q) s r p (untold (here s _ p.a p.b (same_untold e _ refl refl refl refl refl h))) (untold (here s _ p.a p.b (same_untold e _ refl refl refl refl refl h)))
  thing_leaves _ quiet = untold h

  things_leave : (o : Option Heard) → ((item : Heard) → o ≡ Some item → wants_ack item ≡ false) → Leaves s (answered_item values s o r p)
  things_leave None quiet = untold h
  things_leave (Some item) quiet = thing_leaves item (quiet item refl)

  plain_leaves : Leaves s (answered values (duties.Step (step_duties.PlainAck s)) r p)
  plain_leaves = elim (breaks_by_ack p.profile e) as (λ b. Leaves s (if b then answered_break values s 6 r p else goes_on s (with_plain_ack (after_fell events.PlainAck r e)) (fell_duties s r p) p))
      [ true ↦ break_leaves 6 | false ↦ stays (with_plain_ack (after_fell events.PlainAck r e)) (fell_duties s r p) (same_untold e _ refl refl refl refl refl h) ]

module _ (d : Duty) (r : Reply) (p : PathState Carried) where
  abbrev answer : PathState Carried
  answer = answered values d r p

  unwritten_leaves : (writes d).own.asked ≡ false → (writes d).own.fins ≡ false → (writes d).own.copy ≡ false → (writes d).own.mapped_data_fin ≡ false → (writes d).own.mappings ≡ false
      → Untold (end_at (side_of d) p) → Leaves (side_of d) answer
  unwritten_leaves asked fins copy mapped mappings h =
      let s = side_of d in let only = own_only s (writes d) p answer (writes_no_more values d r p) in
      untold (same_untold (end_at s p) (end_at s answer)
      (unwritten (writes d).own.asked (end_at s p).treated.asked (end_at s answer).treated.asked asked (ap (λ (v : EndView). v.asked) only.same))
      (unwritten (writes d).own.fins (end_at s p).treated.fins (end_at s answer).treated.fins fins (ap (λ (v : EndView). v.fins) only.same))
      (ap (λ (t : Treated). t.items) (unwritten (writes d).own.copy (copy_said (end_at s p).treated) (copy_said (end_at s answer).treated) copy (ap (λ (v : EndView). v.copy) only.same)))
      (unwritten (writes d).own.mapped_data_fin (end_at s p).receiving.mapped_data_fin (end_at s answer).receiving.mapped_data_fin mapped (ap (λ (v : EndView). v.mapped_data_fin) only.same))
      (ap (λ (m : Mappings). m.held) (unwritten (writes d).own.mappings (end_at s p).receiving.mappings (end_at s answer).receiving.mappings mappings (ap (λ (v : EndView). v.mappings) only.same))) h)

-- the book is told bytes, or an end
abbrev tells : Duty → Bool
tells (duties.Ask (ask_duties.Edge s)) = true
tells (duties.Ask (ask_duties.HeardFin s index)) = true
tells (duties.Ask (ask_duties.SubflowFin s)) = true
tells _ = false

-- what is to be acknowledged is asked
window_maps : (r : Reply) (v : Receiving) → ((window_in r v).mapped_data_fin ≡ v.mapped_data_fin) × ((window_in r v).mappings ≡ v.mappings)
window_maps (Reply.Reassembly (ReassemblyReply.Ack next window)) v = (refl, refl)
window_maps _ v = (refl, refl)

asked_leaves : (s : Side) (ds : List Duty) (r : Reply) (p : PathState Carried) → Untold (end_at s p) → Leaves s (answered_ack_out s r ds p)
asked_leaves s ds r p h =
    let e = end_at s p in let same = window_maps r e.receiving in
    untold (here s (after_ack_out r e) p.a p.b (record { asked = refl; fins = h.fins; items = h.items; mapped = same.0 ∙ h.mapped; held = ap (λ (m : Mappings). m.held) same.1 ∙ h.held }))

joins_leave : (r : Reply) (p : PathState Carried) → Untold p.a → Leaves A (answered values (duties.Ask ask_duties.JoinAgain) r p)
joins_leave r p h = elim (is_never r) as
    (λ b. Leaves A (if b then goes_on A (never_joined r p.a) (replaced (duties.Ask (ask_duties.Leave A)) p.agenda) p else goes_on A (opened_by (keys_begun r) p.a) (tail_of p.agenda) p))
    [ true ↦ dies refl | false ↦ untold (by (keys_begun r)) ]
  where
    by : (keys : Option KeyPair) → Untold (opened_by keys p.a)
    by None = h
    by (Some keys) = same_untold p.a (opened_by (Some keys) p.a) refl refl refl refl refl h

untold_leaves : (d : Duty) (r : Reply) (p : PathState Carried) → is_silent d ≡ true → is_harsh d ≡ false → tells d ≡ false → Untold (end_at (side_of d) p) → Leaves (side_of d) (answered values d r p)
untold_leaves (duties.Step step_duties.Events) r p silent mild quiet h = absurd (true≢false (sym silent))
untold_leaves (duties.Step (step_duties.Data s)) r p silent mild quiet h = absurd (true≢false (sym silent))
untold_leaves duties.End r p silent mild quiet h = absurd (true≢false (sym silent))
untold_leaves (duties.Send d) r p silent mild quiet h = absurd (true≢false (sym silent))
untold_leaves (duties.Ask (ask_duties.JoinHeard s)) r p silent mild quiet h = absurd (true≢false (sym silent))
untold_leaves (duties.Ask (ask_duties.GoIdentity s)) r p silent mild quiet h = absurd (true≢false mild)
untold_leaves (duties.Ask (ask_duties.FailHeard s)) r p silent mild quiet h = absurd (true≢false mild)
untold_leaves (duties.Ask (ask_duties.BreakAck s reason)) r p silent mild quiet h = absurd (true≢false mild)
untold_leaves (duties.Ask (ask_duties.Edge s)) r p silent mild quiet h = absurd (true≢false quiet)
untold_leaves (duties.Ask (ask_duties.HeardFin s index)) r p silent mild quiet h = absurd (true≢false quiet)
untold_leaves (duties.Ask (ask_duties.SubflowFin s)) r p silent mild quiet h = absurd (true≢false quiet)
untold_leaves (duties.Ask (ask_duties.Window s)) r p silent mild quiet h = asked_leaves s (left p) r p h
untold_leaves (duties.Ask (ask_duties.AckOut s)) r p silent mild quiet h = asked_leaves s (left p) r p h
untold_leaves (duties.Ask ask_duties.JoinAgain) r p silent mild quiet h = joins_leave r p h
untold_leaves (duties.Ask (ask_duties.LeaveNoted s)) r p silent mild quiet h = dies (gone_end s (died (end_at s p)) p.a p.b refl)
untold_leaves (duties.Step (step_duties.Heard s index)) r p silent mild quiet h = things_leave s r p h (item_of index (end_at s p)) (λ item is. item_quiet index (end_at s p) item is h)
untold_leaves (duties.Step (step_duties.PlainAck s)) r p silent mild quiet h = plain_leaves s r p h
untold_leaves (duties.Step (step_duties.Unmapped s)) r p silent mild quiet h = break_leaves s r p h 6
untold_leaves (duties.Step (step_duties.Look s)) r p silent mild quiet h = unwritten_leaves (duties.Step (step_duties.Look s)) r p refl refl refl refl refl h
untold_leaves (duties.Silent d) r p silent mild quiet h = untold h
untold_leaves d r p silent mild quiet h = unwritten_leaves d r p refl refl refl refl refl h

-- ---- what holds of an end, by what is still to be done

pub data Asks (t : Side) (c : Profile) (ds : List Duty) (e : PathEnd) : Type 0 where
  -- the end is dead
  over : is_gone e ≡ true → Asks t c ds e
  -- the book isn't asked behind a copy
  rests : NoAsk t ds → Asks t c ds e
  -- it is, where an acknowledgement is due
  owes : e.tcp.due.ack ≡ true → AskSoon t ds → Asks t c ds e
  -- or where nothing was told it, and nothing will be
  bare : Untold e → Empty c e → AskSoon t ds → Asks t c ds e

-- what follows a silent duty of the side
soon_follows : (t : Side) (over : Bool) (d : Duty) (ds next : List Duty) → Follows t over d ds next → side_of d ≡ t → is_silent d ≡ true → AskSoon t ds → AskSoon t next ⊎ NoAsk t next
soon_follows t dead_now d ds next follow.goes_on own silent soon = inl soon
soon_follows t dead_now d ds next follow.again own silent soon = inl (inr (own, (silent, soon)))
soon_follows t dead_now d ds next (follow.told treats e side alone named other) own silent soon = inl (inr (side, (⊎_elim (λ is. is) (λ joins. absurd (never_joins d silent joins)) other, soon)))
soon_follows t dead_now d ds next (follow.left dead) own silent soon = inl (inr (refl, (refl, soon)))
soon_follows t dead_now d ds next follow.noted own silent soon = inl (inr (refl, (refl, soon)))
soon_follows t dead_now d ds next (follow.broken may reason) own silent soon = inr tt
soon_follows t dead_now d ds next (follow.is_reset may reason) own silent soon = inr tt
soon_follows t dead_now d ds next (follow.dead may dead) own silent soon = inr tt
soon_follows t dead_now d ds next (follow.stopped may) own silent soon = inr tt
soon_follows t dead_now d ds next (follow.over both) own silent soon = absurd (never_both d silent both)

no_ask_told : (t : Side) (e : Duty) (ds : List Duty) → is_told e ≡ true → NoAsk t ds → NoAsk t (e ∷ ds)
no_ask_told t (duties.Ask (ask_duties.AckOut u)) ds told x = absurd (true≢false (sym told))
no_ask_told t e ds told x = x

no_ask_follows : (t s : Side) (over : Bool) (d : Duty) (ds next : List Duty) → Follows s over d ds next → NoAsk t (d ∷ ds) → NoAsk t next
no_ask_follows t s dead_now d ds next follow.goes_on x = no_ask_rest t d ds x
no_ask_follows t s dead_now d ds next follow.again x = x
no_ask_follows t s dead_now d ds next (follow.told treats e side alone named silent) x = no_ask_told t e ds named (no_ask_rest t d ds x)
no_ask_follows t s dead_now d ds next (follow.left dead) x = no_ask_rest t d ds x
no_ask_follows t s dead_now d ds next follow.noted x = no_ask_rest t d ds x
no_ask_follows t s dead_now d ds next (follow.broken may reason) x = tt
no_ask_follows t s dead_now d ds next (follow.is_reset may reason) x = tt
no_ask_follows t s dead_now d ds next (follow.dead may dead) x = tt
no_ask_follows t s dead_now d ds next (follow.stopped may) x = tt
no_ask_follows t s dead_now d ds next (follow.over both) x = tt

-- ---- a duty that is passed

passed_asks : (t : Side) (d : Duty) (ds : List Duty) (p : PathState Carried) → (IsSome (end_at t (passed d p)).modes.peer_infinite → ⊥) → Asks t p.profile (d ∷ ds) (end_at t p) → Asks t p.profile ds (end_at t (passed d p))
passed_asks t d ds p finite (over dead) = over (gone_stays (end_at t p) (end_at t (passed d p)) (path_far p (passed d p) (passed_steps d p) t) dead)
passed_asks t d ds p finite (rests none) = rests (no_ask_rest t d ds none)
passed_asks t d ds p finite (owes due (inl next)) = rests (next_rest t d ds next)
passed_asks t d ds p finite (owes due (inr soon)) = owes (ap (λ (x : Due). x.ack) (passed_due t d p) ∙ due) soon.1.1
passed_asks t d ds p finite (bare h none (inl next)) = rests (next_rest t d ds next)
passed_asks t d ds p finite (bare h none (inr soon)) = by ((subst (λ u. StaysCalm p.profile (end_at u p) (end_at u (passed d p))) soon.0 (record { stays = passed_calm d p })).stays none)
  where
    by : Calm p.profile (end_at t (passed d p)) → Asks t p.profile ds (end_at t (passed d p))
    by (calms.empty x) = bare (subst (λ u. Untold (end_at u p) → Untold (end_at u (passed d p))) soon.0 (passed_untold d p) h) x soon.1.1
    by (calms.by_infinite some) = absurd (finite some)
    by (calms.gone dead) = over dead

-- ---- a duty that is answered

-- where nothing is to be told it doesn't come to anything
tells_stand : (d : Duty) (p : PathState Carried) → tells d ≡ true → Untold (end_at (side_of d) p) → Empty p.profile (end_at (side_of d) p) → (end_at (side_of d) p).modes.identity ≡ false
    → (IsSome (end_at (side_of d) p).modes.peer_infinite → ⊥) → stands d p ≡ true → ⊥
tells_stand (duties.Ask (ask_duties.Edge s)) p is h none plain finite stood = true≢false (sym stood ∙ ap is_some none.none)
tells_stand (duties.Ask (ask_duties.HeardFin s index)) p is h none plain finite stood = true≢false (sym stood ∙ ap (λ fins. is_some (item_at index fins)) h.fins)
tells_stand (duties.Ask (ask_duties.SubflowFin s)) p is h none plain finite stood = by (end_at s p).receiving.fin_told (end_at s p).tcp.fin_at stood
  where
    m : Modes
    m = (end_at s p).modes

    none_there : (position : ℕ) → is_some (fin_place m position) ≡ true → ⊥
    none_there position = place m.identity m.peer_infinite plain finite
      where
        place : (b : Bool) (o : Option InfiniteMapping) → b ≡ false → (IsSome o → ⊥) → is_some (fin_at b o position) ≡ true → ⊥
        place true o is finite some = true≢false is
        place false None is finite some = true≢false (sym some)
        place false (Some x) is finite some = finite refl

    by : (b : Bool) (o : Option ℕ) → is_some (if b then None else place_passed m o (end_at s p).tcp.recv.edge) ≡ true → ⊥
    by true o some = true≢false (sym some)
    by false None some = true≢false (sym some)
    by false (Some position) some = past (nat_lt position (end_at s p).tcp.recv.edge) some
      where
        past : (c : Bool) → is_some (if c then fin_place m position else None) ≡ true → ⊥
        past true some = none_there position some
        past false some = true≢false (sym some)
tells_stand d p is h none plain finite stood = absurd (true≢false (sym is))

ask_agenda : (t : Side) (d : Duty) (ds : List Duty) (r : Reply) (p : PathState Carried) → AskNext t d ds → (answered values d r (with_agenda (d ∷ ds) p)).agenda ≡ ds
ask_agenda t (duties.Ask (ask_duties.AckOut u)) ds r p next = refl
ask_agenda t d ds r p next = absurd next

module _ (t : Side) (d : Duty) (ds : List Duty) (r : Reply) (p : PathState Carried) (other : is_event d ≡ false) (follows : let q : PathState Carried = answered values d r (with_agenda (d ∷ ds) p) in Follows (side_of d) (is_gone (end_at (side_of d) q)) d ds q.agenda)
    (mild : is_harsh d ≡ false) (stood : stands d (with_agenda (d ∷ ds) p) ≡ true) (plain : (end_at t p).modes.identity ≡ false) (finite : IsSome (end_at t p).modes.peer_infinite → ⊥) where
  abbrev x : PathState Carried
  x = with_agenda (d ∷ ds) p

  abbrev q : PathState Carried
  q = answered values d r x

  abbrev Next : Type 0
  Next = (IsSome (end_at t q).modes.peer_infinite → ⊥) → Asks t p.profile q.agenda (end_at t q)

  goes_next : side_of d ≡ t → is_silent d ≡ true → AskSoon t ds → (AskSoon t q.agenda → Asks t p.profile q.agenda (end_at t q)) → Asks t p.profile q.agenda (end_at t q)
  goes_next own silent soon then_so = ⊎_elim then_so (λ none. rests none) (soon_follows t (is_gone (end_at t q)) d ds q.agenda (subst (λ u. Follows u (is_gone (end_at u q)) d ds q.agenda) own follows) own silent soon)

  due_next : side_of d ≡ t → is_silent d ≡ true → AskSoon t ds → Pays d (duty_sends d x) t (end_at t x) (end_at t q) → (end_at t p).tcp.due.ack ≡ true → Asks t p.profile q.agenda (end_at t q)
  due_next own silent soon (pay.owed (owes_on.still still)) due = goes_next own silent soon (λ ahead. owes (still due) ahead)
  due_next own silent soon (pay.owed (owes_on.dies_now dead)) due = over dead
  due_next own silent soon (pay.paid y sends of_side on side) due = absurd (never_silent d on silent)

  bare_next : side_of d ≡ t → is_silent d ≡ true → AskSoon t ds → Untold (end_at t p) → Empty p.profile (end_at t p) → Next
  bare_next own silent soon h none later = by (tells d) refl
    where
      kept : Leaves t q → Calm p.profile (end_at t q) → Asks t p.profile q.agenda (end_at t q)
      kept (untold is) (calms.empty still) = goes_next own silent soon (λ ahead. bare is still ahead)
      kept (untold is) (calms.by_infinite some) = absurd (later some)
      kept (untold is) (calms.gone dead) = over dead
      kept (dies dead) calm = over dead
      kept (resets_next (resetting.broken reason is)) calm = rests (subst (NoAsk t) (sym is) tt)
      kept (resets_next (resetting.is_reset reason is)) calm = rests (subst (NoAsk t) (sym is) tt)
      kept (resets_next (resetting.stopped is)) calm = rests (subst (NoAsk t) (sym is) tt)

      no_edge : tells d ≡ false → is_edge d ≡ false
      no_edge = edge_tells d
        where
          edge_tells : (e : Duty) → tells e ≡ false → is_edge e ≡ false
          edge_tells (duties.Ask (ask_duties.Edge s)) is = absurd (true≢false is)
          edge_tells (duties.Ask a) is = refl
          edge_tells _ is = refl

      by : (b : Bool) → tells d ≡ b → Asks t p.profile q.agenda (end_at t q)
      by true is = absurd (tells_stand d x is (subst (λ u. Untold (end_at u p)) (sym own) h) (subst (λ u. Empty p.profile (end_at u p)) (sym own) none)
          (subst (λ u. (end_at u p).modes.identity ≡ false) (sym own) plain) (subst (λ u. IsSome (end_at u p).modes.peer_infinite → ⊥) (sym own) finite) stood)
      by false is = kept (subst (λ u. Untold (end_at u x) → Leaves u q) own (untold_leaves d r x silent mild is) h)
          ((subst (λ u. StaysCalm p.profile (end_at u x) (end_at u q)) own (record { stays = own_calm values d r x silent mild (no_edge is) })).stays none)

  answered_asks : Asks t p.profile (d ∷ ds) (end_at t p) → Next
  answered_asks (over dead) later = over (gone_stays (end_at t x) (end_at t q) (path_far x q (answered_steps values d r x) t) dead)
  answered_asks (rests none) later = rests (no_ask_follows t (side_of d) (is_gone (end_at (side_of d) q)) d ds q.agenda follows none)
  answered_asks (owes due (inl next)) later = rests (subst (NoAsk t) (sym (ask_agenda t d ds r p next)) (next_rest t d ds next))
  answered_asks (owes due (inr soon)) later = due_next soon.0 soon.1.0 soon.1.1 (answered_pays values t d r x other) due
  answered_asks (bare h none (inl next)) later = rests (subst (NoAsk t) (sym (ask_agenda t d ds r p next)) (next_rest t d ds next))
  answered_asks (bare h none (inr soon)) later = bare_next soon.0 soon.1.0 soon.1.1 h none later

-- ---- a copy

ask_copy : (s : Side) (count : ℕ) → AskSoon s (copy_came s count)
ask_copy s count = inr (refl, (refl, inr (refl, (refl, heard_soon 0 count payload))))
  where
    ask : AskSoon s (drop 12 (payload_came s))
    ask = inl (refl, tt)

    -- none of the others sends a segment
    ends : AskSoon s (drop 7 (payload_came s))
    ends =
        let fin : AskSoon s (drop 11 (payload_came s)) = inr (refl, (refl, ask)) in
        let pass : AskSoon s (drop 10 (payload_came s)) = inr (refl, (refl, fin)) in
        let third : AskSoon s (drop 9 (payload_came s)) = inr (refl, (refl, pass)) in
        let second : AskSoon s (drop 8 (payload_came s)) = inr (refl, (refl, third)) in inr (refl, (refl, second))

    payload : AskSoon s (payload_came s)
    payload =
        let unmapped : AskSoon s (drop 6 (payload_came s)) = inr (refl, (refl, ends)) in
        let check : AskSoon s (drop 5 (payload_came s)) = inr (refl, (refl, unmapped)) in
        let edge : AskSoon s (drop 4 (payload_came s)) = inr (refl, (refl, check)) in
        let keep : AskSoon s (drop 3 (payload_came s)) = inr (refl, (refl, edge)) in
        let plain : AskSoon s (drop 2 (payload_came s)) = inr (refl, (refl, keep)) in
        let acks : AskSoon s (drop 1 (payload_came s)) = inr (refl, (refl, plain)) in inr (refl, (refl, acks))

    heard_soon : (from count : ℕ) → AskSoon s (payload_came s) → AskSoon s (heard_and s from count (payload_came s))
    heard_soon from zero soon = soon
    heard_soon from (suc count) soon = inr (refl, (refl, heard_soon (from + 1) count soon))

module _ (s t : Side) (away : s ≡ t → ⊥) where
  heard_away : (from count : ℕ) → NoAsk t (heard_and s from count (payload_came s))
  heard_away from zero = (away, tt)
  heard_away from (suc count) = heard_away (from + 1) count

  template_away : (joined : Bool) (count : ℕ) (m : Meaning) → NoAsk t (template_by joined s count m)
  template_away true count (means.Accepts pos) = tt
  template_away false count (means.Accepts pos) = tt
  template_away joined count (means.Taken pos acknowledged) = heard_away 0 count
  template_away joined count m = tt

  judged_away : (joined : Bool) (count : ℕ) (verdict : Judged) → NoAsk t (template_judged joined s count verdict)
  judged_away joined count (judged.As m) = template_away joined count m
  judged_away joined count verdict = tt

accepted_none : (s : Side) (joined : Bool) → NoAsk s (if joined then join_answered s else syn_ack_came s)
accepted_none s true = tt
accepted_none s false = tt

module _ (c : Profile) (s : Side) (now : ℕ) (x : HeardSegment) (count : ℕ) (e : PathEnd) (h : Quiet c e) (idle : Idle e) (unmapped : e.receiving.mapped_data_fin ≡ None) (bare_says : x.payload ≡ [] → held_of c s x ≡ []) where
  abbrev items : List Heard
  items = items_of (is_joined c) s x

  abbrev heard_as : Meaning → PathEnd
  heard_as m = copy_judged (is_joined c) (held_of c s x) (reset_for c s x) s now x m e

  abbrev Hears : Meaning → Type 0
  Hears m = (IsSome (heard_as m).modes.peer_infinite → ⊥) → Asks s c (template_by (is_joined c) s count m) (heard_as m)

  nil_payload : (octets : List ℕ) (n : ℕ) → length octets + n ≤ 0 → octets ≡ []
  nil_payload [] n few = refl
  nil_payload (octet ∷ octets) n few = absurd (omega (arith, few))

  taken_hears : (pos a : ℕ) → Hears (means.Taken pos a)
  taken_hears pos a later = ⊎_elim (λ some. due (inl some)) (λ few. by (list_any wants_ack items) refl (nil_payload x.payload (one_if x.syn + one_if x.fin) few)) (cases_lt 0 (occupied (copy_of x)))
    where
      f : PathEnd
      f = heard_as (means.Taken pos a)

      heard : EndState
      heard = after_heard_ack a (hint_of items) now (copy_of x) (after_established (after_hearing (after_payload pos (hint_of items) (copy_of x) (with_payload (means.Taken pos a) x.payload e.tcp))))

      due : (0 < occupied (copy_of x)) ⊎ (list_any wants_ack items ≡ true) → Asks s c (copy_came s count) f
      due either = owes (owing_due (owes_by (means.Taken pos a) items) heard (copy_of x) either) (ask_copy s count)

      untold_so : list_any wants_ack items ≡ false → x.payload ≡ [] → Untold f
      untold_so quiet none = record { asked = refl; fins = refl; items = quiet; mapped = unmapped; held = bare_says none }

      calm_so : x.payload ≡ [] → Calm c f
      calm_so none = calm_by c e f (record { recv = recv; mapped = λ pos. refl; plain = modes.0; infinite = modes.1 }) h.none (ap (λ (v : Octets). v.incoming) recv ∙ idle) (bare_says none)
        where
          recv : f.tcp.recv ≡ e.tcp.recv
          recv = taken_recv c s now x e pos a ∙ ap (λ octets. (with_payload (means.Taken pos a) octets e.tcp).recv) none

          modes : (f.modes.identity ≡ e.modes.identity) × (f.modes.peer_infinite ≡ e.modes.peer_infinite)
          modes = let m = means.Taken pos a in heard_modes (is_joined c) items m x.options (with_payload m x.payload e.tcp).state e.modes

      bare_so : Untold f → Calm c f → Asks s c (copy_came s count) f
      bare_so is (calms.empty none) = bare is none (ask_copy s count)
      bare_so is (calms.by_infinite some) = absurd (later some)
      bare_so is (calms.gone dead) = over dead

      by : (b : Bool) → list_any wants_ack items ≡ b → x.payload ≡ [] → Asks s c (copy_came s count) f
      by true wants none = due (inr wants)
      by false quiet none = bare_so (untold_so quiet none) (calm_so none)

  meant_asks : (m : Meaning) → Hears m
  meant_asks (means.Taken pos a) later = taken_hears pos a later
  meant_asks means.Kills later = over refl
  meant_asks (means.Accepts a) later = rests (accepted_none s (is_joined c))
  meant_asks m later = rests tt

  judged_asks : (verdict : Judged) → (IsSome (heard_as (taken_as verdict)).modes.peer_infinite → ⊥) → Asks s c (template_judged (is_joined c) s count verdict) (heard_as (taken_as verdict))
  judged_asks (judged.As m) later = meant_asks m later
  judged_asks verdict later = rests tt

-- ---- an event

fired_asks : (c : Profile) (s t : Side) (sixth : Bool) (e : PathEnd) → Asks t c (template_fired sixth s) e
fired_asks c s t true e = rests tt
fired_asks c s t false e = rests tt

module _ (r : Reply) (p : PathState Carried) (t : Side) (says_none : BareSaysNothing values p) (quiet : Quiet p.profile (end_at t p)) (idle : Idle (end_at t p)) (unmapped : (end_at t p).receiving.mapped_data_fin ≡ None) where
  abbrev Then : PathState Carried → Type 0
  Then v = (IsSome (end_at t v).modes.peer_infinite → ⊥) → Asks t p.profile v.agenda (end_at t v)

  line_asks : (action : LineAction) (tick : ℕ) → Then (after_line action (record (at_tick tick p) { lines = tail_of p.lines }))
  line_asks actions.Die tick later = by t
    where
      by : (u : Side) → Asks u p.profile (after_line actions.Die (record (at_tick tick p) { lines = tail_of p.lines })).agenda (end_at u (after_line actions.Die (record (at_tick tick p) { lines = tail_of p.lines })))
      by A = over (died_now p.a)
      by B = over (died_now p.b)
  line_asks (actions.Prio s backup) tick later = rests tt
  line_asks (actions.Announce s id) tick later = rests tt
  line_asks (actions.Withdraw s id) tick later = rests tt

  joins_asks : (tick : ℕ) → Then (joins_at_tick r (at_tick tick p))
  joins_asks tick later = by (is_never r)
    where
      v : PathState Carried
      v = record (at_tick tick p) { joined_at = None }

      by : (b : Bool) → let z : PathState Carried = if b then goes_on A (never_joined r v.a) (leaves A) v else goes_on A (opened_by (keys_begun r) v.a) (emission A) v in Asks t p.profile z.agenda (end_at t z)
      by true = rests tt
      by false = rests tt

  abbrev came : Arriving → PathState Carried
  came due = record (at_tick due.tick p) { link = after_delivery due p.link }

  own_asks : (due : Arriving) (segment : HeardSegment) → t ≡ due.to → heard_in values due.to (arriving due p.link) p ≡ Some segment → next_event p ≡ Some (happenings.Arrives due) → Then (copy_heard due.to (Some segment) (came due))
  own_asks due segment own heard next = subst (λ u. Quiet p.profile (end_at u p) → Idle (end_at u p) → (end_at u p).receiving.mapped_data_fin ≡ None → (IsSome (end_at u v).modes.peer_infinite → ⊥) → Asks u p.profile v.agenda (end_at u v)) (sym own) by quiet idle unmapped
    where
      v : PathState Carried
      v = copy_heard due.to (Some segment) (came due)

      by : Quiet p.profile (end_at due.to p) → Idle (end_at due.to p) → (end_at due.to p).receiving.mapped_data_fin ≡ None → (IsSome (end_at due.to v).modes.peer_infinite → ⊥) → Asks due.to p.profile v.agenda (end_at due.to v)
      by quiet idle unmapped later =
          let e : PathEnd = end_at due.to p in let x : HeardSegment = options_heard e segment in
          let verdict : Judged = judged_in (is_joined p.profile) due.to x e in let count : ℕ = length (items_of (is_joined p.profile) due.to x) in let now : ℕ = (came due).clock in
          let same = own_end due.to (after_judged p.profile due.to now x verdict e) p.a p.b in
          subst (λ (g : PathEnd). Asks due.to p.profile (template_judged (is_joined p.profile) due.to count verdict) g) (sym same)
          (judged_asks p.profile due.to now x count e quiet idle unmapped (λ none. says_none due next segment heard none) verdict (subst (λ (g : PathEnd). IsSome g.modes.peer_infinite → ⊥) same later))

  copy_asks : (due : Arriving) → next_event p ≡ Some (happenings.Arrives due) → Then (copy_heard due.to (heard_in values due.to (arriving due p.link) p) (came due))
  copy_asks due next = by (heard_in values due.to (arriving due p.link) p) refl
    where
      by : (o : Option HeardSegment) → heard_in values due.to (arriving due p.link) p ≡ o → Then (copy_heard due.to o (came due))
      by None is = λ later. rests tt
      by (Some segment) is = ⊎_elim
          (λ own. own_asks due segment (sym own) is next)
          (λ away later. rests (let e : PathEnd = end_at due.to p in let x : HeardSegment = options_heard e segment in
          judged_away due.to t (λ same. apart due.to (same ∙ sym away)) (is_joined p.profile) (length (items_of (is_joined p.profile) due.to x)) (judged_in (is_joined p.profile) due.to x e)))
          (sides t due.to)

  event_asks : (o : Option Event) → next_event p ≡ o → Then (happens_if values o r p)
  event_asks None is = λ later. rests tt
  event_asks (Some (happenings.Joins tick)) is = joins_asks tick
  event_asks (Some (happenings.Takes line)) is = line_asks line.action line.tick
  event_asks (Some (happenings.Arrives due)) is = copy_asks due is
  event_asks (Some (happenings.Fires s tick)) is = λ later. fired_asks p.profile s t (is_sixth (end_at s (at_tick tick p)).tcp) (end_at t (timer_fired s (at_tick tick p)))

-- ---- a turn

-- an infinite mapping stays as duties are passed
abbrev SameInfinite : PathState Carried → PathState Carried → Type 0
SameInfinite p q = (t : Side) → (end_at t q).modes.peer_infinite ≡ (end_at t p).modes.peer_infinite

infinite_lasts : Lasts SameInfinite
infinite_lasts = record {
  agenda = λ ds p t. by t ds p;
  chains = λ p q r x y t. y t ∙ x t;
  passes = λ d p t. ⊎_elim
      (λ own. subst (λ u. (end_at u (passed d p)).modes.peer_infinite ≡ (end_at u p).modes.peer_infinite) own (passed_infinite d p))
      (λ away. subst (λ u. (end_at u (passed d p)).modes.peer_infinite ≡ (end_at u p).modes.peer_infinite) away (other_infinite d p))
      (sides t (side_of d));
}
  where
    by : (t : Side) (ds : List Duty) (p : PathState Carried) → (end_at t (with_agenda ds p)).modes.peer_infinite ≡ (end_at t p).modes.peer_infinite
    by A ds p = refl
    by B ds p = refl

-- with another agenda
of_agenda : (ds : List Duty) (p : PathState Carried) (t : Side) → Asks t p.profile ds (end_at t p) → Asks t p.profile ds (end_at t (with_agenda ds p))
of_agenda ds p A h = h
of_agenda ds p B h = h

settled_asks : (t : Side) (ds : List Duty) (p : PathState Carried) → (IsSome (end_at t p).modes.peer_infinite → ⊥) → Asks t p.profile ds (end_at t p) → let q : PathState Carried = settled ds p in Asks t q.profile q.agenda (end_at t q)
settled_asks t [] p finite h = of_agenda [] p t h
settled_asks t (d ∷ ds) p finite h = (elim (stands d p) as (λ b. stands d p ≡ b → let q : PathState Carried = if b then with_agenda (d ∷ ds) p else settled ds (passed d p) in Asks t q.profile q.agenda (end_at t q)) [
  | true ↦ λ is. of_agenda (d ∷ ds) p t h
  | false ↦ λ quiet.
      let still : IsSome (end_at t (passed d p)).modes.peer_infinite → ⊥ = subst (λ (o : Option InfiniteMapping). IsSome o → ⊥) (sym (infinite_lasts.passes d p t)) finite in
      settled_asks t ds (passed d p) still
      (subst (λ c. Asks t c ds (end_at t (passed d p))) (sym (ap (λ (v : PathView Carried). v.profile) (passes_no_more d p).same)) (passed_asks t d ds p still h))
]) refl

abbrev AllAsk : PathState Carried → Type 0
AllAsk p = (t : Side) → Asks t p.profile p.agenda (end_at t p)

-- what is known of path 0 at a moment
record KnownNow (p : PathState Carried) : Type 0 where
  facts : Facts p.agenda p
  treats : AllSettled p
  stood : FirstStands p.agenda p
  unmapped : (t : Side) → (end_at t p).receiving.mapped_data_fin ≡ None
  plain : (t : Side) → (end_at t p).modes.identity ≡ false
  finite : (t : Side) → IsSome (end_at t p).modes.peer_infinite → ⊥

module _ (t : Side) (ds : List Duty) (r : Reply) (p : PathState Carried) where
  abbrev from : Duty → PathState Carried
  from d = with_agenda (d ∷ ds) p

  abbrev to : Duty → PathState Carried
  to d = answered values d r (from d)

  same_profile : (d : Duty) → (to d).profile ≡ p.profile
  same_profile d = ap (λ (v : PathView Carried). v.profile) (writes_no_more values d r (from d)).same

  happens_next : Facts (duties.Step step_duties.Events ∷ ds) p → Treats t p.profile (duties.Step step_duties.Events ∷ ds) (end_at t p) → (end_at t p).receiving.mapped_data_fin ≡ None
      → (IsSome (end_at t (to (duties.Step step_duties.Events))).modes.peer_infinite → ⊥) → Asks t p.profile (to (duties.Step step_duties.Events)).agenda (end_at t (to (duties.Step step_duties.Events)))
  happens_next facts treats unmapped later = by (facts.ready t)
    where
      d : Duty
      d = duties.Step step_duties.Events

      gone_then : is_gone (end_at t p) ≡ true → Asks t p.profile (to d).agenda (end_at t (to d))
      gone_then dead = over (gone_stays (end_at t (from d)) (end_at t (to d)) (path_far (from d) (to d) (answered_steps values d r (from d)) t) dead)

      by : Ready t (duties.Step step_duties.Events ∷ ds) p.profile (end_at t p) → Asks t p.profile (to d).agenda (end_at t (to d))
      by (ready.is_dead_now dead) = gone_then dead
      by (ready.is_quiet quiet lets) = ⊎_elim gone_then
          (λ idle. event_asks r (from d) t facts.says quiet idle unmapped (next_event (from d)) refl later)
          (events_idle t p.profile ds (end_at t p) (facts.finite t) (facts.whole t) treats)
      by (ready.passes low ahead) = absurd (⊎_elim (λ lead. lead) (λ rest. true≢false (sym rest.1.0)) ahead)

  duty_next : (d : Duty) → Facts (d ∷ ds) p → Treats t p.profile (d ∷ ds) (end_at t p) → stands d (from d) ≡ true → (end_at t p).receiving.mapped_data_fin ≡ None → (end_at t p).modes.identity ≡ false
      → (IsSome (end_at t p).modes.peer_infinite → ⊥) → Asks t p.profile (d ∷ ds) (end_at t p) → (IsSome (end_at t (to d)).modes.peer_infinite → ⊥) → Asks t p.profile (to d).agenda (end_at t (to d))
  duty_next (duties.Step step_duties.Events) facts treats stood unmapped plain finite h later = happens_next facts treats unmapped later
  duty_next d facts treats stood unmapped plain finite h later =
      answered_asks t d ds r p refl (answered_follows values d ds r p) ((or_parts (is_harsh d) (list_any is_harsh ds) facts.harsh).0) stood plain finite h later

takes_ask : (r : Reply) (p : PathState Carried) → KnownNow p → ((t : Side) → IsSome (end_at t (takes values r p)).modes.peer_infinite → ⊥) → AllAsk p → AllAsk (takes values r p)
takes_ask r p k later h t = by p.agenda k.facts (k.treats t).treats k.stood later (h t)
  where
    by : (ds : List Duty) → let v : PathState Carried = with_agenda ds p in Facts ds p → Treats t p.profile ds (end_at t p) → FirstStands ds v → ((t : Side) → IsSome (end_at t (takes values r v)).modes.peer_infinite → ⊥)
        → Asks t p.profile ds (end_at t p) → let z : PathState Carried = takes values r v in Asks t z.profile z.agenda (end_at t z)
    by [] facts treats stood later h = of_agenda [] p t h
    by (d ∷ ds) facts treats stood later h =
        let y : PathState Carried = answered values d r (with_agenda (d ∷ ds) p) in
        let then_finite : IsSome (end_at t y).modes.peer_infinite → ⊥ = subst (λ (o : Option InfiniteMapping). IsSome o → ⊥) (settled_lasts SameInfinite infinite_lasts y.agenda y t) (later t) in
        settled_asks t y.agenda y then_finite
        (subst (λ c. Asks t c y.agenda (end_at t y)) (sym (same_profile t ds r p d)) (duty_next t ds r p d facts treats stood (k.unmapped t) (k.plain t) (k.finite t) h then_finite))

next_asks : (p : PathState Carried) → ((t : Side) → IsSome (end_at t p).modes.peer_infinite → ⊥) → AllAsk (next_round p)
next_asks p finite t =
    let q : PathState Carried = record p { clock = p.until; until = p.until + 100 } in
    settled_asks t start_of_turn (with_agenda start_of_turn q) (still t) (rests tt)
  where
    still : (t : Side) → IsSome (end_at t (with_agenda start_of_turn (record p { clock = p.until; until = p.until + 100 }))).modes.peer_infinite → ⊥
    still A = finite A
    still B = finite B

-- ---- the world

record HasNone (p : PathState Carried) : Type 0 where
  none : (t : Side) → (end_at t p).receiving.mapped_data_fin ≡ None

shown_none : (c : Profile) (p : PathState Carried) (ab ba : Lane) → PathShows c p ab ba → HasNone p
shown_none c p ab ba shows = record { none = elim [ A ↦ shows.a.held.none | B ↦ shows.b.held.none ] }

each_none : (start : Start) (turns : List Turn) → HasRoom start → OfFirst HasNone (reached values start turns)
each_none start turns size =
    let can = anyhow start size in
    let r = each_run_shows start can turns (free_run can.links (anyhow_free start size) turns (opened_world start)) in
    record { each = λ c there. shown_so can.links (after_events r.events (first_duo can.links start)) r.shows 2 c there refl }
  where
    shown_so : (links : Links) (d : Duo) → WorldShows links start d (reached values start turns)
        → (actor : ℕ) (c : ActorCrew Carried) → slice_get (reached values start turns).crew actor ≡ Some c → actor ≡ 2 → Of HasNone c.member
    shown_so links d h = subst (λ (w : WorldState Carried). (actor : ℕ) (c : ActorCrew Carried) → slice_get w.crew actor ≡ Some c → actor ≡ 2 → Of HasNone c.member) (sym h.is)
        (each_actor (λ actor c. actor ≡ 2 → Of HasNone c.member) h.cast (λ is. tt) (λ is. tt) (λ number x there is.
        (let path = h.paths.each number number x (omega arith) there in
        shown_none (path_begins start number path.plan).profile x.path path.ab path.ba path.shows)))

module _ (start : Start) (mild : IsMildStart start) where
  known_at : (turns : List Turn) (p : PathState Carried) → IsPathAt 0 (reached values start turns) p → KnownNow p
  known_at turns p here = record {
    facts = subst (OfPaths Known) here.is (facts_at start mild turns here.crew here.there);
    treats = subst (OfPaths AllSettled) here.is (settled_at start mild turns here.crew here.there);
    stood = given_here.upright.passes.settled;
    unmapped = (subst (Of HasNone) here.is ((each_none start turns mild.plain.size).each here.crew here.there)).none;
    plain = λ t. given_here.upright.identity t;
    finite = (subst (OfPaths Known) here.is (facts_at start mild turns here.crew here.there)).finite;
  }
    where
      given_here : Given start p
      given_here = subst (Of (Given start)) here.is ((given start mild turns).each here.crew here.there)

  step_asks : (turns : List Turn) (turn : Turn) (p q : PathState Carried) → IsPathAt 0 (reached values start turns) p → IsPathAt 0 (reached values start (turns ++ turn ∷ [])) q → Becomes values p q → AllAsk p → AllAsk q
  step_asks turns turn p q here there becomes h = by q becomes (known_at (turns ++ turn ∷ []) q there).finite
    where
      by : (z : PathState Carried) → Becomes values p z → ((t : Side) → IsSome (end_at t z).modes.peer_infinite → ⊥) → AllAsk z
      by z becoming.stays later = h
      by z (becoming.takes_a_reply r) later = takes_ask r p (known_at turns p here) later h
      by z becoming.begins_anew later = next_asks p (known_at turns p here).finite

  opened_asks : OfFirst AllAsk (opened_world start)
  opened_asks = record {
    each = λ c there. (opened_lifted (λ c. Of AllAsk c.member) start tt tt (λ number plan at_place t.
        (let p : PathState Carried = waiting_path (path_begins start number plan) start.lines in settled_asks t start_of_turn (with_agenda start_of_turn p) (first number plan t) (rests tt)))).each 2 c there;
  }
    where
      first : (number : ℕ) (plan : PathPlan) (t : Side) → IsSome (end_at t (with_agenda start_of_turn (waiting_path {C = Carried} (path_begins start number plan) start.lines))).modes.peer_infinite → ⊥
      first number plan A some = true≢false (sym some)
      first number plan B some = true≢false (sym some)

  asks_at : (turns : List Turn) (p : PathState Carried) → IsPathAt 0 (reached values start turns) p → AllAsk p
  asks_at turns p here = subst (Of AllAsk) here.is ((each_step values start AllAsk opened_asks step_asks turns).each here.crew here.there)

pub who_asks_owes : WhoAsksOwes
who_asks_owes start turns mild p here t living others first = by (subst (λ ds. Asks t p.profile ds (end_at t p)) first (asks_at start mild turns p here t))
  where
    asked : (end_at t p).treated.asked ≡ true
    asked = subst (λ ds. FirstStands ds p) first (known_at start mild turns p here).stood

    by : Asks t p.profile (duties.Ask (ask_duties.AckOut t) ∷ others) (end_at t p) → (end_at t p).tcp.due.ack ≡ true
    by (over dead) = absurd (both_ways (is_dead (end_at t p).tcp.state) living dead)
    by (rests none) = absurd (none.0 refl)
    by (owes due soon) = due
    by (bare h none soon) = absurd (both_ways (end_at t p).treated.asked h.asked asked)
