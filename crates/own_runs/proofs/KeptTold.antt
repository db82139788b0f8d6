-- The mappings that the ends of a path keep, and hold still, are such as copies under way told: every step of the path keeps it.
use Rattle.actor_desk.specs.Words.{tail_of}
use Rattle.actor_desk.specs.declared.ask.Reply.{Reply}
use Rattle.dss_mapping.specs.Learning.{others_of, learn_of, learned_if, after_skip_held, after_learn_held}
use Rattle.dss_mapping.specs.Mappings.{Mappings, after_learn, after_forget}
use Rattle.dss_mapping.specs.declared.kept.KeptMapping.{KeptMapping}
use Rattle.link_model.specs.Steps.{is_due, arriving, after_delivery}
use Rattle.link_model.specs.declared.flight.Flight.{Flight}
use Rattle.link_script.specs.Places.{same_side}
use Rattle.path_agenda.specs.Agenda.{emission, leaves, resets}
use Rattle.path_agenda.specs.declared.duty.AskDuty.{AskDuty}
use Rattle.path_agenda.specs.declared.duty.Duty.{Duty}
use Rattle.path_agenda.specs.declared.duty.SendDuty.{SendDuty}
use Rattle.path_agenda.specs.declared.duty.SilentDuty.{SilentDuty}
use Rattle.path_agenda.specs.declared.duty.StepDuty.{StepDuty}
use Rattle.path_agenda.specs.declared.heard.Heard.{Heard}
use Rattle.path_core.specs.Arrival.{heard_in, copy_heard, told_at}
use Rattle.path_core.specs.Breaking.{reset_of, reset_on, answered_break, died_unless_dead}
use Rattle.path_core.specs.Deliver.{piece_of, is_placed, answered_piece}
use Rattle.path_core.specs.DssIn.{is_clash, with_learned, held_of}
use Rattle.path_core.specs.Duties.{passed, answered}
use Rattle.path_core.specs.End.{PathEnd, died}
use Rattle.path_core.specs.Events.{next_event, after_line, happens_if}
use Rattle.path_core.specs.Fallback.{after_fell, fell_duties}
use Rattle.path_core.specs.Handover.{sent_on}
use Rattle.path_core.specs.MpJoin.{join_begun, never_joined, is_never, keys_begun, opened_by}
use Rattle.path_core.specs.Standing.{answered_ack_out, window_in}
use Rattle.path_core.specs.State.{at_tick, PathState, end_at, goes_on, with_end, with_agenda}
use Rattle.path_core.specs.Steps.{takes, begins_turn}
use Rattle.path_core.specs.Treating.{answered_heard, answered_item, item_of, item_passed}
use Rattle.path_core.specs.Values.{Carried, values}
use Rattle.path_segments.specs.Laws.{meant}
use Rattle.path_segments.specs.Spelled.{PlainSegment}
use Rattle.path_store.specs.Passing.{Piece}
use Rattle.path_store.specs.declared.lines.LineAction.{LineAction}
use Rattle.reassembly_book.specs.declared.call.ReassemblyReply.{ReassemblyReply}
use Rattle.sides.specs.declared.side.Side.{Side}
use Rattle.sides.specs.declared.side.Side.TheVariants.{A, B}
use Rattle.std.proofs.Common.{◌≡◌, refl, sym, ap, subst, ℕ, suc, ◌&&◌, ◌==◌, Bool, true, false, if◌then◌else◌, Option, Some, None, List, [], ◌∷◌}
use Rattle.std.proofs.lemmas.Bool.{and_parts}
use Rattle.stream_lanes.proofs.Lists.{Every-nil}
use Rattle.stream_lanes.specs.Words.{Every}
use Rattle.subflow_tcp.specs.States.{is_dead}
use Rattle.world_laws.specs.Writes.{Writes, OnlyAt, EndView, writes, side_of}
use Rattle.std.specs.List.{slice_get}
use Rattle.std.proofs.Common.{zero, filter}
use Rattle.stream_lanes.proofs.Lists.{Every-push}
use Rattle.dss_mapping.specs.declared.learn.Learn.{Learn}
use Rattle.dss_mapping.specs.declared.learn.Learn.TheVariants.{New, Same, Clash}
use Rattle.dss_mapping.specs.Learning.{first_of}
use Rattle.fallback_state.specs.declared.fall.Event.TheVariants as events
use Rattle.path_core.specs.declared.events.Event.{Event}
use Rattle.path_store.specs.Receiving.{Receiving}
use Rattle.world_laws.proofs.Writes.Ends.{item_so}
use Rattle.world_laws.proofs.Worlds.Finding.{find_every, one_side}
use Rattle.world_laws.proofs.Falls.FailedChecks.{infinite_came_so, fail_answered_so}
use Rattle.world_laws.proofs.Writes.Paths.{writes_no_more, passes_no_more}
use Rattle.world_laws.proofs.Writes.Steps.{both_ends, Lasts, unwritten, takes_lasts, begins_lasts}

if_so : {X : Type 0} (P : X → Type 0) (b : Bool) (x y : X) → P x → P y → P (if b then x else y)
if_so P true x y h k = h
if_so P false x y h k = k

-- ---- mappings

-- each mapping that is kept, or held, is such
pub record Knows (R : KeptMapping → Type 0) (v : Mappings) : Type 0 where
  pub live : Every R v.live
  pub held : Every R v.held

module _ (R : KeptMapping → Type 0) where
  abbrev pub AllTell : List KeptMapping → Type 0
  AllTell held = Every R held

  learned_knows : (kept : KeptMapping) (answer : Learn) (v : Mappings) → R kept → Knows R v → Knows R (after_learn kept answer v)
  learned_knows kept New v tells h = record { live = Every-push kept h.live tells; held = h.held }
  learned_knows kept Same v tells h = h
  learned_knows kept (Clash pos place here) v tells h = h

  others_tell : (xs : List KeptMapping) → AllTell xs → AllTell (others_of xs)
  others_tell [] h = h
  others_tell (kept ∷ xs) h = record { each = λ i x at. h.each (suc i) x at }

  skipped_knows : (v : Mappings) → Knows R v → Knows R (after_skip_held v)
  skipped_knows v h = record { live = h.live; held = others_tell v.held h.held }

  learned_held : (v : Mappings) → Knows R v → Knows R (after_learn_held v)
  learned_held v h = (elim v.held as (λ xs. AllTell xs → Knows R (after_skip_held (learned_if (first_of xs) v)))
      [ [] ↦ λ tell. skipped_knows v h | kept ∷ xs ↦ λ tell. skipped_knows _ (learned_knows kept (learn_of kept v) v (tell.each 0 kept refl) h) ]) h.held

  filtered : (f : KeptMapping → Bool) (xs : List KeptMapping) → AllTell xs → AllTell (filter f xs)
  filtered f [] h = h
  filtered f (x ∷ xs) h = by (f x) (filtered f xs (record { each = λ i y at. h.each (suc i) y at }))
    where
      by : (b : Bool) → AllTell (filter f xs) → AllTell (if b then x ∷ filter f xs else filter f xs)
      by false rest = rest
      by true rest = record { each = each }
        where
          each : (i : ℕ) (y : KeptMapping) → slice_get (x ∷ filter f xs) i ≡ Some y → R y
          each zero y at = (let same : x ≡ y = cc in subst R same (h.each 0 x refl))
          each (suc i) y at = rest.each i y at

  forgotten_knows : (pos : ℕ) (v : Mappings) → Knows R v → Knows R (after_forget pos v)
  forgotten_knows pos v h = record { live = filtered _ v.live h.live; held = h.held }

  hold_knows : (held : List KeptMapping) (v : Mappings) → AllTell held → Knows R v → Knows R (record v { held = held })
  hold_knows held v tell h = record { live = h.live; held = tell }

-- the window changes no mapping
window_same : (r : Reply) (v : Receiving) → (window_in r v).mappings ≡ v.mappings
window_same (Reply.Send reply) v = refl
window_same (Reply.Control reply) v = refl
window_same Reply.Done v = refl
window_same (Reply.Reassembly reply) v = elim reply as (λ reply. (window_in (Reply.Reassembly reply) v).mappings ≡ v.mappings)
    [ ReassemblyReply.Ack next window ↦ refl | _ ↦ refl ]

-- ---- a path; the end of each side has a record

module _ (R : Side → KeptMapping → Type 0) where
  abbrev pub EndKnows : Side → PathEnd → Type 0
  EndKnows s e = Knows (R s) e.receiving.mappings

  pub record PathKnows (p : PathState Carried) : Type 0 where
    pub a : EndKnows A p.a
    pub b : EndKnows B p.b

  -- the mappings of a copy tell the record of the end that it goes to
  abbrev pub FlightTells : PathState Carried → Flight Carried → Type 0
  FlightTells p f = AllTell (R f.to) (held_of p.profile f.to (meant f.carried.segment))

  abbrev pub CopiesTell : PathState Carried → Type 0
  CopiesTell p = Every (FlightTells p) p.link.under_way

  pub end_knows : (s : Side) (p : PathState Carried) → PathKnows p → EndKnows s (end_at s p)
  end_knows = elim [ A ↦ λ p h. h.a | B ↦ λ p h. h.b ]

  -- ---- an end goes on

  goes : (s : Side) (e : PathEnd) (ds : List Duty) (p : PathState Carried) → EndKnows s e → PathKnows p → PathKnows (goes_on s e ds p)
  goes = elim [ A ↦ λ e ds p own h. record { a = own; b = h.b } | B ↦ λ e ds p own h. record { a = h.a; b = own } ]

  with_own : (s : Side) (e : PathEnd) (p : PathState Carried) → EndKnows s e → PathKnows p → PathKnows (with_end s e p)
  with_own = elim [ A ↦ λ e p own h. record { a = own; b = h.b } | B ↦ λ e p own h. record { a = h.a; b = own } ]

  agenda : (ds : List Duty) (p : PathState Carried) → PathKnows p → PathKnows (with_agenda ds p)
  agenda ds p h = record { a = h.a; b = h.b }

  -- with the same mappings
  same_goes : (s : Side) (e : PathEnd) (ds : List Duty) (p : PathState Carried) → e.receiving.mappings ≡ (end_at s p).receiving.mappings → PathKnows p
      → PathKnows (goes_on s e ds p)
  same_goes s e ds p same h = goes s e ds p (subst (Knows (R s)) (sym same) (end_knows s p h)) h

  same_sent : (s : Side) (segment : PlainSegment) (e : PathEnd) (ds : List Duty) (p : PathState Carried) → e.receiving.mappings ≡ (end_at s p).receiving.mappings
      → PathKnows p → PathKnows (sent_on values s segment e ds p)
  same_sent s segment e ds p same h = let next = same_goes s e ds p same h in record { a = next.a; b = next.b }

  -- ---- duties that come to nothing

  item_knows : (s : Side) (o : Option Heard) (e : PathEnd) → EndKnows s e → EndKnows s (item_passed s o e)
  item_knows s o e h = item_so (EndKnows s) s o e h h (λ next. h) (learned_held (R s) e.receiving.mappings h) (skipped_knows (R s) e.receiving.mappings h) (λ place. h)

  -- where the mappings may be written at neither end
  kept_by : (s : Side) (w : Writes) (p q : PathState Carried) → w.own.mappings ≡ false → w.other.mappings ≡ false → OnlyAt s w p q → PathKnows p → PathKnows q
  kept_by s w p q own other x h =
      let both = both_ends (λ e f. f.receiving.mappings ≡ e.receiving.mappings) s w p q
      (λ e f y. unwritten w.own.mappings e.receiving.mappings f.receiving.mappings own (ap (λ (v : EndView). v.mappings) y.same))
      (λ e f y. unwritten w.other.mappings e.receiving.mappings f.receiving.mappings other (ap (λ (v : EndView). v.mappings) y.same)) x in
      record { a = subst (Knows (R A)) (sym both.0) h.a; b = subst (Knows (R B)) (sym both.1) h.b }

  passed_knows : (d : Duty) (p : PathState Carried) → PathKnows p → PathKnows (passed d p)
  passed_knows (Duty.Step (StepDuty.Heard s index)) p h = with_own s _ p (item_knows s (item_of index (end_at s p)) (end_at s p) (end_knows s p h)) h
  passed_knows (Duty.Step StepDuty.Events) p h = h
  passed_knows (Duty.Ask (AskDuty.Edge s)) p h = h
  passed_knows (Duty.Send d) p h = h
  passed_knows (Duty.Silent (SilentDuty.Timer s)) p h = with_own s _ p (end_knows s p h) h
  passed_knows d p h = kept_by (side_of d) (writes d) p _ refl refl (passes_no_more d p) h

  -- ---- events

  unless_dead : (s : Side) (e : PathEnd) → EndKnows s e → EndKnows s (died_unless_dead e)
  unless_dead s e h = if_so (EndKnows s) (is_dead e.tcp.state) e (died e) h h

  line_knows : (action : LineAction) (p : PathState Carried) → PathKnows p → PathKnows (after_line action p)
  line_knows LineAction.Die p h = record { a = unless_dead A p.a h.a; b = unless_dead B p.b h.b }
  line_knows (LineAction.Prio s backup) p h = same_goes s _ _ p refl h
  line_knows (LineAction.Announce s id) p h = agenda _ p h
  line_knows (LineAction.Withdraw s id) p h = agenda _ p h

  copy_knows : (s : Side) (o : Option (Flight Carried)) (q p : PathState Carried)
      → ((f : Flight Carried) → o ≡ Some f → AllTell (R s) (held_of p.profile s (meant f.carried.segment))) → PathKnows p → PathKnows (copy_heard s (heard_in values s o q) p)
  copy_knows s None q p tell h = agenda _ p h
  copy_knows s (Some f) q p tell h = by (end_at s p).modes.identity f.carried.stripped
    where
      by : (plain stripped : Bool) → let sg = record f.carried.segment { options = (if stripped then [] else f.carried.segment.options) } in
          PathKnows (told_at p.clock s (record (meant sg) { options = (if plain then [] else (meant sg).options) }) p)
      by true stripped = goes s _ _ p (hold_knows (R s) _ (end_at s p).receiving.mappings (Every-nil _) (end_knows s p h)) h
      by false true = goes s _ _ p (hold_knows (R s) _ (end_at s p).receiving.mappings (Every-nil _) (end_knows s p h)) h
      by false false = goes s _ _ p (hold_knows (R s) _ (end_at s p).receiving.mappings (tell f refl) (end_knows s p h)) h

  -- A begins a join, or waits on
  begun_knows : (r : Reply) (dead living : List Duty) (p : PathState Carried) → PathKnows p → PathKnows (join_begun r dead living p)
  begun_knows r dead living p h =
      (elim (is_never r) as (λ b. EndKnows A (opened_by (keys_begun r) p.a) → PathKnows (if b then goes_on A (never_joined r p.a) dead p else goes_on A (opened_by (keys_begun r) p.a) living p)) [
        | true ↦ λ own. goes A (never_joined r p.a) dead p h.a h
        | false ↦ λ own. goes A (opened_by (keys_begun r) p.a) living p own h
      ]) (elim (keys_begun r) as (λ o. EndKnows A (opened_by o p.a)) [ None ↦ h.a | Some keys ↦ h.a ])

  event_knows : (o : Option Event) (r : Reply) (p : PathState Carried) → CopiesTell p → PathKnows p → PathKnows (happens_if values o r p)
  event_knows None r p tell h = agenda _ p h
  event_knows (Some (Event.Joins tick)) r p tell h = begun_knows r (leaves A) (emission A) (record (at_tick tick p) { joined_at = None }) (record { a = h.a; b = h.b })
  event_knows (Some (Event.Takes line)) r p tell h =
      line_knows line.action (record (at_tick line.tick p) { lines = tail_of p.lines }) (record { a = h.a; b = h.b })
  event_knows (Some (Event.Arrives due)) r p tell h =
      copy_knows due.to (arriving due p.link) p (record (at_tick due.tick p) { link = after_delivery due p.link }) arrives (record { a = h.a; b = h.b })
    where
      arrives : (f : Flight Carried) → arriving due p.link ≡ Some f → AllTell (R due.to) (held_of p.profile due.to (meant f.carried.segment))
      arrives f is =
          let found = find_every (FlightTells p) (is_due due) p.link.under_way f tell is in
          let parts = and_parts (f.tick == due.tick) (same_side f.to due.to && f.number == due.copy) found.1 in
          let to = one_side f.to due.to (and_parts (same_side f.to due.to) (f.number == due.copy) parts.1).0 in
          subst (λ s. AllTell (R s) (held_of p.profile s (meant f.carried.segment))) to found.0
  event_knows (Some (Event.Fires s tick)) r p tell h = same_goes s _ _ (at_tick tick p) refl (record { a = h.a; b = h.b })

  -- ---- replies

  ack_out_knows : (s : Side) (r : Reply) (ds : List Duty) (p : PathState Carried) → PathKnows p → PathKnows (answered_ack_out s r ds p)
  ack_out_knows s r ds p h = same_goes s _ ds p (window_same r (end_at s p).receiving) h

  reset_knows : (s : Side) (reason : Option ℕ) (ds : List Duty) (p : PathState Carried) → PathKnows p → PathKnows (reset_on values s reason ds p)
  reset_knows s reason ds p h = same_sent s (reset_of s reason p) (died (end_at s p)) ds p refl h

  break_knows : (s : Side) (reason : ℕ) (r : Reply) (p : PathState Carried) → PathKnows p → PathKnows (answered_break values s reason r p)
  break_knows s reason r p h =
      if_so PathKnows (end_at s p).treated.asked (answered_ack_out s r (resets s reason) p) (reset_on values s (Some reason) (leaves s) p)
      (ack_out_knows s r (resets s reason) p h) (reset_knows s (Some reason) (leaves s) p h)

  heard_knows : (s : Side) (item : Heard) (r : Reply) (p : PathState Carried) → PathKnows p → PathKnows (answered_heard values s item r p)
  heard_knows s (Heard.DataAck next window) r p h = same_goes s _ _ p refl h
  heard_knows s (Heard.Mapping fin) r p h =
      if_so PathKnows (is_clash (end_at s p)) (answered_break values s 1 r p) (goes_on s (with_learned (after_fell events.MappingHeard r (end_at s p))) (fell_duties s r p) p)
      (break_knows s 1 r p h) (goes s _ _ p (learned_held (R s) (end_at s p).receiving.mappings (end_knows s p h)) h)
  heard_knows s (Heard.DataFin place) r p h = same_goes s _ _ p refl h
  heard_knows s (Heard.InfiniteMapping place position) r p h =
      infinite_came_so (λ e. PathKnows (goes_on s e (fell_duties s r p) p)) place position r (end_at s p) (λ other. same_goes s _ _ p refl h)
  heard_knows s (Heard.Keys mine other) r p h = same_goes s _ _ p refl h
  heard_knows s (Heard.Notice notice) r p h = same_goes s _ _ p refl h
  heard_knows s Heard.Fail r p h = fail_answered_so PathKnows s r p (same_goes s _ _ p refl h) (same_goes s _ _ p refl h)
  heard_knows s _ r p h = agenda _ p h

  answered_item_knows : (s : Side) (o : Option Heard) (r : Reply) (p : PathState Carried) → PathKnows p → PathKnows (answered_item values s o r p)
  answered_item_knows s None r p h = agenda _ p h
  answered_item_knows s (Some item) r p h = heard_knows s item r p h

  piece_knows : (s : Side) (o : Option Piece) (taken : Bool) (p : PathState Carried) → PathKnows p → PathKnows (answered_piece s o taken p)
  piece_knows s None taken p h = same_goes s _ _ p refl h
  piece_knows s (Some piece) true p h = goes s _ _ p (forgotten_knows (R s) _ (end_at s p).receiving.mappings (end_knows s p h)) h
  piece_knows s (Some piece) false p h = same_goes s _ _ p refl h

  answered_knows : (d : Duty) (r : Reply) (p : PathState Carried) → CopiesTell p → PathKnows p → PathKnows (answered values d r p)
  answered_knows (Duty.Step StepDuty.Events) r p tell h = event_knows (next_event p) r p tell h
  answered_knows (Duty.Step (StepDuty.Heard s index)) r p tell h = answered_item_knows s (item_of index (end_at s p)) r p h
  answered_knows (Duty.Ask (AskDuty.Edge s)) r p tell h = piece_knows s (piece_of s p) (is_placed r) p h
  answered_knows (Duty.Send (SendDuty.Update s)) r p tell h = same_sent s _ _ _ p refl h
  answered_knows (Duty.Silent d) r p tell h = agenda _ p h
  answered_knows d r p tell h = kept_by (side_of d) (writes d) p _ refl refl (writes_no_more values d r p) h

  knows_lasts : Lasts (λ (p q : PathState Carried). PathKnows p → PathKnows q)
  knows_lasts = record { agenda = λ ds p h. agenda ds p h; chains = λ p q r x y h. y (x h); passes = λ d p h. passed_knows d p h }

  pub takes_knows : (r : Reply) (p : PathState Carried) → CopiesTell p → PathKnows p → PathKnows (takes values r p)
  takes_knows r p tell h = takes_lasts (λ p q. PathKnows p → PathKnows q) knows_lasts values r p (λ d h. answered_knows d r p tell h) h

  pub begins_knows : (p : PathState Carried) → PathKnows p → PathKnows (begins_turn p)
  begins_knows p h = begins_lasts (λ p q. PathKnows p → PathKnows q) knows_lasts p h

-- such, and more
pub more_known : (R S : KeptMapping → Type 0) → ((kept : KeptMapping) → R kept → S kept) → (v : Mappings) → Knows R v → Knows S v
more_known R S more v h = record { live = record { each = λ i kept at. more kept (h.live.each i kept at) }; held = record { each = λ i kept at. more kept (h.held.each i kept at) } }
