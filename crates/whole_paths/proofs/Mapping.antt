-- What each duty makes of the mappings that an end knows.
use Rattle.std.proofs.Common.{◌≡◌, refl, sym, subst, ap, ◌⊎◌, inl, inr, ⊎_elim, ℕ, zero, suc, ◌+◌, ◌-◌, ◌<◌, ◌≤◌, arith, le_refl, nat_lt, nat_le, Bool, true, false, true≢false, if◌then◌else◌, Option, Some, None, is_some, List, [], ◌∷◌, ◌++◌, length}
use Rattle.std.specs.Prelude.{IsSome, IfSome, find}
use Rattle.std.specs.List.{All}
use Rattle.std.proofs.lemmas.Bool.{and_parts, cases_lt, leb-true, ltb-true, le-ltb}
use Rattle.std.proofs.lemmas.List.Elements.{All-nil, All-cons, All-head, All-tail, All-append, All-filter}
use Rattle.path_segments.specs.Heard.{HeardSegment}
use Rattle.sides.specs.declared.side.Side.{Side}
use Rattle.sides.specs.declared.side.Side.TheVariants.{A, B}
use Rattle.sides.specs.Side.{peer}
use Rattle.dss_mapping.specs.Learning.{IsWithin, first_of, others_of, clash_of, all_covered, is_known, answer_by, learn_of, learned, clashes, after_hold, first_held, after_skip_held, learned_if, after_learn_held}
use Rattle.dss_mapping.specs.Mappings.{Mappings, mapping_at, place_at, run_of, after_learn, after_forget}
use Rattle.dss_mapping.specs.Runs.{covers, place_in}
use Rattle.dss_mapping.specs.declared.kept.KeptMapping.{KeptMapping}
use Rattle.dss_mapping.specs.declared.learn.Learn.TheVariants.{New, Same, Clash}
use Rattle.dss_mapping.proofs.LawsProved.{learned_places, others_are_told}
use Rattle.fallback_state.specs.declared.fall.Event.TheVariants as events
use Rattle.link_model.specs.Steps.{arriving, after_delivery}
use Rattle.subflow_tcp.specs.States.{is_dead}
use Rattle.reassembly_book.specs.declared.call.ReassemblyReply.TheVariants as reassembly_replies
use Rattle.actor_desk.specs.declared.ask.Reply.{Reply}
use Rattle.actor_desk.specs.declared.ask.Reply.TheVariants as replies
use Rattle.actor_desk.specs.Words.{tail_of, pick}
use Rattle.path_agenda.specs.Agenda.{emission, leaves, resets}
use Rattle.path_agenda.specs.declared.duty.Duty.{Duty}
use Rattle.path_agenda.specs.declared.duty.Duty.TheVariants as duties
use Rattle.path_agenda.specs.declared.duty.AskDuty.TheVariants as ask_duties
use Rattle.path_agenda.specs.declared.duty.SendDuty.TheVariants as send_duties
use Rattle.path_agenda.specs.declared.duty.SilentDuty.TheVariants as silent_duties
use Rattle.path_agenda.specs.declared.duty.StepDuty.TheVariants as step_duties
use Rattle.path_agenda.specs.declared.heard.Heard.{Heard}
use Rattle.path_agenda.specs.declared.heard.Heard.TheVariants as says
use Rattle.path_agenda.specs.declared.keys.KeyPair.{KeyPair}
use Rattle.path_store.specs.Passing.{Piece}
use Rattle.path_store.specs.Receiving.{Receiving}
use Rattle.path_store.specs.declared.lines.LineAction.{LineAction}
use Rattle.path_store.specs.declared.lines.LineAction.TheVariants as actions
use Rattle.path_core.specs.Addresses.{with_priority}
use Rattle.path_core.specs.Arrival.{judged_in, after_judged, copy_heard, heard_in}
use Rattle.path_core.specs.Breaking.{died_unless_dead, reset_on, answered_break}
use Rattle.path_core.specs.Codec.{Codec}
use Rattle.path_core.specs.Deliver.{piece_of, answered_piece, is_placed, after_piece, having_asked}
use Rattle.path_core.specs.DssIn.{counts, held_of, is_clash, with_learned, with_skipped, with_data_fin}
use Rattle.path_core.specs.Duties.{passed, answered}
use Rattle.path_core.specs.End.{PathEnd, died}
use Rattle.path_core.specs.Events.{after_line, happens_if}
use Rattle.path_core.specs.Fallback.{after_fell, fell_duties, after_infinite}
use Rattle.path_core.specs.MpJoin.{is_joined, is_never, never_joined, keys_begun, opened_by}
use Rattle.path_core.specs.OptionsIn.{options_heard}
use Rattle.path_core.specs.Standing.{answered_ack_out, after_ack_out, window_in}
use Rattle.path_core.specs.State.{PathState, at_tick, end_at, goes_on}
use Rattle.path_core.specs.Timer.{after_firing, timer_fired}
use Rattle.path_core.specs.Treating.{item_of, item_passed, answered_item, answered_heard}
use Rattle.path_core.specs.declared.events.Event.{Event}
use Rattle.path_core.specs.declared.events.Event.TheVariants as happenings
use Rattle.path_core.proofs.Mapped.{all_within}
use Rattle.world_laws.specs.Writes.{EndWrites, EndView, Writes, PathView, Only, OnlyAt, nothing, writes, side_of}
use Rattle.world_laws.proofs.Falls.FailedChecks.{infinite_came_so, fail_answered_so}
use Rattle.world_laws.proofs.Writes.Paths.{writes_no_more, passes_no_more}
use Rattle.world_laws.proofs.Writes.Steps.{unwritten}
use Rattle.whole_paths.specs.Mapped.{AreLive}
use Rattle.whole_paths.proofs.Agendas.{own_end}
use Rattle.whole_paths.proofs.Pieces.{is_event, own_only}
use Rattle.whole_paths.proofs.Settling.{sides}

-- ---- mappings

some_append : (P : KeptMapping → Bool) (xs ys : List KeptMapping) → IsSome (find P xs) → IsSome (find P (xs ++ ys))
some_append P [] ys some = absurd (true≢false (sym some))
some_append P (x ∷ xs) ys some = (elim (P x) as (λ b. IsSome (if b then Some x else find P xs) → IsSome (if b then Some x else find P (xs ++ ys)))
    [ true ↦ λ is. refl | false ↦ λ is. some_append P xs ys is ]) some

found_last : (P : KeptMapping → Bool) (xs : List KeptMapping) (y : KeptMapping) → P y ≡ true → IsSome (find P (xs ++ y ∷ []))
found_last P [] y is = subst (λ b. IsSome (if b then Some y else None)) (sym is) refl
found_last P (x ∷ xs) y is = elim (P x) as (λ b. IsSome (if b then Some x else find P (xs ++ y ∷ []))) [ true ↦ refl | false ↦ found_last P xs y is ]

mapped_more : (v : Mappings) (x : KeptMapping) (pos : ℕ) → IsSome (mapping_at v pos) → IsSome (mapping_at (after_learn x New v) pos)
mapped_more v x pos some = (elim (nat_lt pos v.forgotten) as
    (λ b. IsSome (if b then None else find (λ kept. covers pos (run_of kept)) v.live) → IsSome (if b then None else find (λ kept. covers pos (run_of kept)) (v.live ++ x ∷ [])))
    [ true ↦ λ is. absurd (true≢false (sym is)) | false ↦ λ is. some_append (λ kept. covers pos (run_of kept)) v.live (x ∷ []) is ]) some

mapped_new : (v : Mappings) (x : KeptMapping) (pos : ℕ) → covers pos (run_of x) ≡ true → v.forgotten ≤ pos → IsSome (mapping_at (after_learn x New v) pos)
mapped_new v x pos is high = subst (λ b. IsSome (if b then None else find (λ kept. covers pos (run_of kept)) (v.live ++ x ∷ []))) (sym (le-ltb pos v.forgotten high)) (found_last (λ kept. covers pos (run_of kept)) v.live x is)

learned_mapped : (x : KeptMapping) (v : Mappings) (pos : ℕ) → IsSome (mapping_at v pos) → IsSome (mapping_at (learned x v) pos)
learned_mapped x v pos some = elim (learn_of x v) as (λ answer. IsSome (mapping_at (after_learn x answer v) pos)) [ New ↦ mapped_more v x pos some | Same ↦ some | Clash at kept here ↦ some ]

learned_live : (x : KeptMapping) (v : Mappings) (edge : ℕ) → IsWithin x → AreLive v edge → AreLive (learned x v) edge
learned_live x v edge fits h = elim (learn_of x v) as (λ answer. AreLive (after_learn x answer v) edge) [
  | New ↦ record {
    low = h.low;
    live = λ pos high some. by pos high (subst IsSome (learned_places v x pos) some);
    within = All-append IsWithin v.live (x ∷ []) h.within (All-cons IsWithin x [] fits (All-nil IsWithin));
    told = h.told;
  }
  | Same ↦ h
  | Clash at kept here ↦ h
]
  where
    by : (pos : ℕ) → v.forgotten ≤ pos → IsSome (if covers pos (run_of x) then Some (place_in pos (run_of x)) else place_at v pos) → IsSome (mapping_at (after_learn x New v) pos)
    by pos high some = (elim (covers pos (run_of x)) as
        (λ b. covers pos (run_of x) ≡ b → IsSome (if b then Some (place_in pos (run_of x)) else place_at v pos) → IsSome (mapping_at (after_learn x New v) pos))
        [ true ↦ λ is some. mapped_new v x pos is high | false ↦ λ is some. mapped_more v x pos (h.live pos high some) ]) refl some

all_at : (count at pos : ℕ) (v : Mappings) → all_covered count at v ≡ true → at ≤ pos → pos < at + count → IsSome (place_at v pos)
all_at zero at pos v all low high = absurd (omega (arith, low, high))
all_at (suc count) at pos v all low high =
    let parts = and_parts (is_some (place_at v at)) (all_covered count (suc at) v) all in
    ⊎_elim
    (λ past. all_at count (suc at) pos v parts.1 (omega (arith, past)) (omega (arith, high)))
    (λ here. (let same : at ≡ pos = omega (arith, low, here) in subst (λ n. IsSome (place_at v n)) same parts.0))
    (cases_lt at pos)

-- one that doesn't clash is known then
pub learned_known : (x : KeptMapping) (v : Mappings) (edge pos : ℕ) → AreLive v edge → clashes x v ≡ false → covers pos (run_of x) ≡ true → v.forgotten ≤ pos → IsSome (mapping_at (learned x v) pos)
learned_known x v edge pos h agrees is high = (elim (clash_of (run_of x) v) as (λ o. is_some o ≡ false → IsSome (mapping_at (after_learn x (answer_by o (run_of x) v) v) pos))
    [ Some clash ↦ λ none. absurd (true≢false none) | None ↦ λ none. by ]) agrees
  where
    covered : is_known (run_of x) v ≡ true → IsSome (place_at v pos)
    covered all =
        let parts = and_parts (nat_le (run_of x).pos pos) (nat_lt pos (run_of x).to) is in
        let low = leb-true (run_of x).pos pos parts.0 in let below = ltb-true pos (run_of x).to parts.1 in
        all_at ((run_of x).to - (run_of x).pos) (run_of x).pos pos v all low (omega (arith, low, below))

    by : IsSome (mapping_at (after_learn x (if is_known (run_of x) v then Same else New) v) pos)
    by = (elim (is_known (run_of x) v) as (λ b. is_known (run_of x) v ≡ b → IsSome (mapping_at (after_learn x (if b then Same else New) v) pos))
        [ true ↦ λ all. h.live pos high (covered all) | false ↦ λ some. mapped_new v x pos is high ]) refl

if_mapped : (o : Option KeptMapping) (v : Mappings) (pos : ℕ) → IsSome (mapping_at v pos) → IsSome (mapping_at (learned_if o v) pos)
if_mapped None v pos some = some
if_mapped (Some x) v pos some = learned_mapped x v pos some

if_live : (o : Option KeptMapping) (v : Mappings) (edge : ℕ) → IfSome o IsWithin → AreLive v edge → AreLive (learned_if o v) edge
if_live None v edge fits h = h
if_live (Some x) v edge fits h = learned_live x v edge fits h

first_within : (xs : List KeptMapping) → All IsWithin xs → IfSome (first_of xs) IsWithin
first_within [] all = tt
first_within (x ∷ xs) all = All-head IsWithin x xs all

others_within : (xs : List KeptMapping) → All IsWithin xs → All IsWithin (others_of xs)
others_within [] all = all
others_within (x ∷ xs) all = All-tail IsWithin x xs all

skipped_live : (v : Mappings) (edge : ℕ) → AreLive v edge → AreLive (after_skip_held v) edge
skipped_live v edge h = record { low = h.low; live = h.live; within = h.within; told = others_within v.held h.told }

-- ---- an end

pub data MapMoves (e f : PathEnd) : Type 0 where
  same : f.receiving.mappings ≡ e.receiving.mappings → MapMoves e f
  learns : f.receiving.mappings ≡ after_learn_held e.receiving.mappings → MapMoves e f
  skips : f.receiving.mappings ≡ after_skip_held e.receiving.mappings → MapMoves e f
  forgets : (to : ℕ) → f.receiving.mappings ≡ after_forget to e.receiving.mappings → to ≤ f.tcp.recv.edge → MapMoves e f
  holds : (told : List KeptMapping) → f.receiving.mappings ≡ after_hold told e.receiving.mappings → All IsWithin told → MapMoves e f

higher : (v : Mappings) (low high : ℕ) → low ≤ high → AreLive v low → AreLive v high
higher v low high up h = record { low = (let at = h.low in omega (arith, at, up)); live = h.live; within = h.within; told = h.told }

forgotten_live : (to : ℕ) (v : Mappings) (low high : ℕ) → low ≤ high → to ≤ high → AreLive v low → AreLive (after_forget to v) high
forgotten_live to v low high up over h = record {
  low = (let at = h.low in omega (arith, at, up, over));
  live = λ pos past some. subst IsSome (sym (others_are_told v to pos (omega (arith, past)))) (h.live pos (omega (arith, past)) some);
  within = All-filter (λ kept. nat_lt to (run_of kept).to) IsWithin v.live h.within;
  told = h.told;
}

pub live_moves : (e f : PathEnd) → e.tcp.recv.edge ≤ f.tcp.recv.edge → MapMoves e f → AreLive e.receiving.mappings e.tcp.recv.edge → AreLive f.receiving.mappings f.tcp.recv.edge
live_moves e f up (same is) h = subst (λ v. AreLive v f.tcp.recv.edge) (sym is) (higher e.receiving.mappings e.tcp.recv.edge f.tcp.recv.edge up h)
live_moves e f up (learns is) h =
    let v = e.receiving.mappings in
    subst (λ v. AreLive v f.tcp.recv.edge) (sym is) (skipped_live (learned_if (first_held v) v) f.tcp.recv.edge
    (if_live (first_held v) v f.tcp.recv.edge (first_within v.held h.told) (higher v e.tcp.recv.edge f.tcp.recv.edge up h)))
live_moves e f up (skips is) h = subst (λ v. AreLive v f.tcp.recv.edge) (sym is) (skipped_live e.receiving.mappings f.tcp.recv.edge (higher e.receiving.mappings e.tcp.recv.edge f.tcp.recv.edge up h))
live_moves e f up (forgets to is over) h = subst (λ v. AreLive v f.tcp.recv.edge) (sym is) (forgotten_live to e.receiving.mappings e.tcp.recv.edge f.tcp.recv.edge up over h)
live_moves e f up (holds told is fits) h =
    subst (λ v. AreLive v f.tcp.recv.edge) (sym is) (let x = higher e.receiving.mappings e.tcp.recv.edge f.tcp.recv.edge up h in record { low = x.low; live = x.live; within = x.within; told = fits })

pub known_moves : (pos : ℕ) (e f : PathEnd) → MapMoves e f → IsSome (mapping_at e.receiving.mappings pos) → (pos < f.tcp.recv.edge) ⊎ IsSome (mapping_at f.receiving.mappings pos)
known_moves pos e f (same is) some = inr (subst (λ v. IsSome (mapping_at v pos)) (sym is) some)
known_moves pos e f (learns is) some = inr (subst (λ v. IsSome (mapping_at v pos)) (sym is) (if_mapped (first_held e.receiving.mappings) e.receiving.mappings pos some))
known_moves pos e f (skips is) some = inr (subst (λ v. IsSome (mapping_at v pos)) (sym is) some)
known_moves pos e f (forgets to is over) some = ⊎_elim
    (λ below. inl (omega (arith, below, over)))
    (λ past. inr (subst (λ v. IsSome (mapping_at v pos)) (sym is) (subst IsSome (sym (others_are_told e.receiving.mappings to pos past)) some)))
    (cases_lt pos to)
known_moves pos e f (holds told is fits) some = inr (subst (λ v. IsSome (mapping_at v pos)) (sym is) some)

-- ---- by duty

only_maps : (w : EndWrites) (e f : PathEnd) → w.mappings ≡ false → Only w e f → MapMoves e f
only_maps w e f mappings x = same (unwritten w.mappings e.receiving.mappings f.receiving.mappings mappings (ap (λ (v : EndView). v.mappings) x.same))

here : (t : Side) (e f a b : PathEnd) → MapMoves e f → MapMoves e (pick t (pick t f a) (pick t b f))
here t e f a b x = subst (λ g. MapMoves e g) (sym (own_end t f a b)) x

item_maps : (s : Side) (o : Option Heard) (e : PathEnd) → MapMoves e (item_passed s o e)
item_maps s None e = same refl
item_maps s (Some (says.Mapping fin)) e = elim (counts e) as (λ b. MapMoves e (if b then with_learned e else with_skipped e)) [ true ↦ learns refl | false ↦ skips refl ]
item_maps s (Some (says.DataFin place)) e = elim (counts e) as (λ b. MapMoves e (if b then with_data_fin place e else e)) [ true ↦ same refl | false ↦ same refl ]
item_maps s (Some _) e = same refl

opened_maps : (keys : Option KeyPair) (e : PathEnd) → MapMoves e (opened_by keys e)
opened_maps None e = same refl
opened_maps (Some keys) e = same refl

pub window_maps : (r : Reply) (v : Receiving) → (window_in r v).mappings ≡ v.mappings
window_maps (replies.Reassembly (reassembly_replies.Ack next window)) v = refl
window_maps _ v = refl

died_maps : (e : PathEnd) → MapMoves e (died_unless_dead e)
died_maps e = elim (is_dead e.tcp.state) as (λ b. MapMoves e (if b then e else died e)) [ true ↦ same refl | false ↦ same refl ]

module _ {C : Type 0} where
  -- where the end of one side becomes this, the other one stays
  side_maps : (s t : Side) (f : PathEnd) (p q : PathState C) → q.a ≡ pick s f p.a → q.b ≡ pick s p.b f → MapMoves (end_at s p) f → MapMoves (end_at t p) (end_at t q)
  side_maps A A f p q a b x = subst (λ g. MapMoves p.a g) (sym a) x
  side_maps A B f p q a b x = same (ap (λ (g : PathEnd). g.receiving.mappings) b)
  side_maps B A f p q a b x = same (ap (λ (g : PathEnd). g.receiving.mappings) a)
  side_maps B B f p q a b x = subst (λ g. MapMoves p.b g) (sym b) x

  line_maps : (t : Side) (action : LineAction) (p : PathState C) → MapMoves (end_at t p) (end_at t (after_line action p))
  line_maps A actions.Die p = died_maps p.a
  line_maps B actions.Die p = died_maps p.b
  line_maps t (actions.Prio s backup) p = side_maps s t (with_priority backup (end_at s p)) p (after_line (actions.Prio s backup) p) refl refl (same refl)
  line_maps t (actions.Announce s id) p = same refl
  line_maps t (actions.Withdraw s id) p = same refl

  copy_maps : (s t : Side) (o : Option HeardSegment) (p : PathState C) → MapMoves (end_at t p) (end_at t (copy_heard s o p))
  copy_maps s t None p = same refl
  copy_maps s t (Some segment) p =
      let x = options_heard (end_at s p) segment in
      side_maps s t (after_judged p.profile s p.clock x (judged_in (is_joined p.profile) s x (end_at s p)) (end_at s p)) p (copy_heard s (Some segment) p) refl refl (holds (held_of p.profile s x) refl (all_within p.profile s x.options))

  pub event_maps : (k : Codec C) (o : Option Event) (r : Reply) (p : PathState C) (t : Side) → MapMoves (end_at t p) (end_at t (happens_if k o r p))
  event_maps k None r p t = same refl
  event_maps k (Some (happenings.Joins tick)) r p t = by (is_never r)
    where
      q : PathState C
      q = record (at_tick tick p) { joined_at = None }

      by : (b : Bool) → MapMoves (end_at t p) (end_at t (if b then goes_on A (never_joined r q.a) (leaves A) q else goes_on A (opened_by (keys_begun r) q.a) (emission A) q))
      by true = side_maps A t (never_joined r q.a) p (goes_on A (never_joined r q.a) (leaves A) q) refl refl (same refl)
      by false = side_maps A t (opened_by (keys_begun r) q.a) p (goes_on A (opened_by (keys_begun r) q.a) (emission A) q) refl refl (opened_maps (keys_begun r) q.a)
  event_maps k (Some (happenings.Takes line)) r p t = line_maps t line.action (record (at_tick line.tick p) { lines = tail_of p.lines })
  event_maps k (Some (happenings.Arrives due)) r p t =
      copy_maps due.to t (heard_in k due.to (arriving due p.link) p) (record (at_tick due.tick p) { link = after_delivery due p.link })
  event_maps k (Some (happenings.Fires s tick)) r p t =
      let q : PathState C = at_tick tick p in side_maps s t (after_firing q.clock (end_at s q)) q (timer_fired s q) refl refl (same refl)

  -- ---- at the duty's own end

  piece_maps : (s : Side) (o : Option Piece) (taken : Bool) (p : PathState C) → MapMoves (end_at s p) (end_at s (answered_piece s o taken p))
  piece_maps s (Some piece) true p =
      let e = end_at s p in let to : ℕ = e.tcp.recv.edge + length piece.octets in here s e (having_asked (after_piece piece e)) p.a p.b (forgets to refl (le_refl to))
  piece_maps s (Some piece) false p = here s (end_at s p) (having_asked (end_at s p)) p.a p.b (same refl)
  piece_maps s None taken p = here s (end_at s p) (having_asked (end_at s p)) p.a p.b (same refl)

  break_maps : (k : Codec C) (s : Side) (reason : ℕ) (r : Reply) (p : PathState C) → MapMoves (end_at s p) (end_at s (answered_break k s reason r p))
  break_maps k s reason r p = elim (end_at s p).treated.asked as
      (λ b. MapMoves (end_at s p) (end_at s (if b then answered_ack_out s r (resets s reason) p else reset_on k s (Some reason) (leaves s) p)))
      [ true ↦ here s (end_at s p) (after_ack_out r (end_at s p)) p.a p.b (same (window_maps r (end_at s p).receiving)) | false ↦ here s (end_at s p) (died (end_at s p)) p.a p.b (same refl) ]

  thing_maps : (k : Codec C) (s : Side) (item : Heard) (r : Reply) (p : PathState C) → MapMoves (end_at s p) (end_at s (answered_heard k s item r p))
  thing_maps k s (says.DataAck next window) r p = here s (end_at s p) _ p.a p.b (same refl)
  thing_maps k s (says.Mapping fin) r p = elim (is_clash (end_at s p)) as
      (λ b. MapMoves (end_at s p) (end_at s (if b then answered_break k s 1 r p else goes_on s (with_learned (after_fell events.MappingHeard r (end_at s p))) (fell_duties s r p) p)))
      [ true ↦ break_maps k s 1 r p | false ↦ here s (end_at s p) (with_learned (after_fell events.MappingHeard r (end_at s p))) p.a p.b (learns refl) ]
  thing_maps k s (says.DataFin place) r p = here s (end_at s p) _ p.a p.b (same refl)
  thing_maps k s (says.InfiniteMapping place position) r p =
      let e = end_at s p in here s e (after_infinite place position r e) p.a p.b (infinite_came_so (λ f. MapMoves e f) place position r e (λ other. same refl))
  thing_maps k s (says.Keys own other) r p = here s (end_at s p) _ p.a p.b (same refl)
  thing_maps k s (says.Notice notice) r p = here s (end_at s p) _ p.a p.b (same refl)
  thing_maps k s says.Fail r p = fail_answered_so (λ q. MapMoves (end_at s p) (end_at s q)) s r p (here s (end_at s p) _ p.a p.b (same refl)) (here s (end_at s p) _ p.a p.b (same refl))
  thing_maps k s _ r p = same refl

  things_map : (k : Codec C) (s : Side) (item : Option Heard) (r : Reply) (p : PathState C) → MapMoves (end_at s p) (end_at s (answered_item k s item r p))
  things_map k s None r p = same refl
  things_map k s (Some item) r p = thing_maps k s item r p

  own_maps : (k : Codec C) (d : Duty) (r : Reply) (p : PathState C) → is_event d ≡ false → MapMoves (end_at (side_of d) p) (end_at (side_of d) (answered k d r p))
  own_maps k (duties.Step step_duties.Events) r p other = absurd (true≢false other)
  own_maps k (duties.Ask (ask_duties.Edge s)) r p other = piece_maps s (piece_of s p) (is_placed r) p
  own_maps k (duties.Step (step_duties.Heard s index)) r p other = things_map k s (item_of index (end_at s p)) r p
  own_maps k (duties.Send (send_duties.Update s)) r p other =
      let d : Duty = duties.Send (send_duties.Update s) in only_maps (writes d).own _ _ refl (own_only s (writes d) p _ (writes_no_more k d r p))
  own_maps k (duties.Silent d) r p other = same refl
  own_maps k d r p other = only_maps (writes d).own _ _ refl (own_only (side_of d) (writes d) p _ (writes_no_more k d r p))

  passed_own : (d : Duty) (p : PathState C) → MapMoves (end_at (side_of d) p) (end_at (side_of d) (passed d p))
  passed_own (duties.Step step_duties.Events) p = same refl
  passed_own (duties.Ask (ask_duties.Edge s)) p = same refl
  passed_own (duties.Step (step_duties.Heard s index)) p =
      let e = end_at s p in here s e (item_passed s (item_of index e) e) p.a p.b (item_maps s (item_of index e) e)
  passed_own (duties.Send d) p = same refl
  passed_own (duties.Silent (silent_duties.Timer s)) p =
      let d : Duty = duties.Silent (silent_duties.Timer s) in only_maps (writes d).own _ _ refl (own_only s (writes d) p _ (passes_no_more d p))
  passed_own d p = only_maps (writes d).own _ _ refl (own_only (side_of d) (writes d) p _ (passes_no_more d p))

  -- ---- at either end

  other_maps : (s : Side) (w : Writes) (p q : PathState C) → w.other ≡ nothing → OnlyAt s w p q → MapMoves (end_at (peer s) p) (end_at (peer s) q)
  other_maps s w p q none x =
      only_maps nothing (end_at (peer s) p) (end_at (peer s) q) refl (subst (λ v. Only v (end_at (peer s) p) (end_at (peer s) q)) none (record { same = ap (λ (v : PathView C). v.other) x.same }))

  answered_other : (k : Codec C) (d : Duty) (r : Reply) (p : PathState C) → is_event d ≡ false → MapMoves (end_at (peer (side_of d)) p) (end_at (peer (side_of d)) (answered k d r p))
  answered_other k (duties.Step step_duties.Events) r p other = absurd (true≢false other)
  answered_other k d r p other = other_maps (side_of d) (writes d) p _ refl (writes_no_more k d r p)

  passed_other : (d : Duty) (p : PathState C) → MapMoves (end_at (peer (side_of d)) p) (end_at (peer (side_of d)) (passed d p))
  passed_other (duties.Step step_duties.Events) p = same refl
  passed_other d p = other_maps (side_of d) (writes d) p _ refl (passes_no_more d p)

  pub answered_maps : (k : Codec C) (t : Side) (d : Duty) (r : Reply) (p : PathState C) → is_event d ≡ false → MapMoves (end_at t p) (end_at t (answered k d r p))
  answered_maps k t d r p other =
      let q = answered k d r p in
      ⊎_elim
      (λ own. subst (λ u. MapMoves (end_at u p) (end_at u q)) own (own_maps k d r p other))
      (λ away. subst (λ u. MapMoves (end_at u p) (end_at u q)) away (answered_other k d r p other))
      (sides t (side_of d))

  pub passed_maps : (t : Side) (d : Duty) (p : PathState C) → MapMoves (end_at t p) (end_at t (passed d p))
  passed_maps t d p =
      ⊎_elim
      (λ own. subst (λ u. MapMoves (end_at u p) (end_at u (passed d p))) own (passed_own d p))
      (λ away. subst (λ u. MapMoves (end_at u p) (end_at u (passed d p))) away (passed_other d p))
      (sides t (side_of d))
