-- What a copy tells of its octets is known until RCV.NXT passes them.
use Rattle.std.proofs.Common.{◌≡◌, refl, sym, subst, ap, ◌∙◌, ◌⊎◌, inl, inr, ⊎_elim, ℕ, ◌+◌, ◌<◌, ◌≤◌, arith, Bool, true, false, true≢false, ◌&&◌, ◌||◌, if◌then◌else◌, Option, Some, None, is_some, List, [], ◌∷◌, ◌++◌, length}
use Rattle.std.specs.Prelude.{IsSome}
use Rattle.std.specs.FinMap.{get-empty}
use Rattle.std.specs.List.{list_any}
use Rattle.std.specs.Option.{option_or}
use Rattle.std.specs.Ordering.{nat_cmp}
use Rattle.std.proofs.lemmas.Bool.{cases_lt}
use Rattle.std.proofs.lemmas.List.Elements.{All-nil}
use Rattle.path_segments.specs.Heard.{HeardSegment}
use Rattle.sides.specs.declared.side.Side.{Side}
use Rattle.sides.specs.declared.side.Side.TheVariants.{A, B}
use Rattle.dss_mapping.specs.Learning.{IsWithin, first_held, clashes_if, after_skip_held, learned_if}
use Rattle.dss_mapping.specs.Mappings.{Mappings, no_mappings, mapping_at, run_of}
use Rattle.dss_mapping.specs.Runs.{covers}
use Rattle.dss_mapping.specs.declared.kept.KeptMapping.{KeptMapping}
use Rattle.fallback_state.specs.Modes.{is_starting}
use Rattle.fallback_state.specs.declared.fall.Event.TheVariants as events
use Rattle.subflow_tcp.specs.declared.verdicts.Meaning.TheVariants as means
use Rattle.actor_desk.specs.declared.ask.Reply.{Reply}
use Rattle.actor_desk.specs.Words.{is_nil, pick}
use Rattle.path_agenda.specs.Agenda.{start_of_turn, heard_and, payload_came, copy_came, leaves, resets}
use Rattle.path_agenda.specs.declared.duty.Duty.{Duty}
use Rattle.path_agenda.specs.declared.duty.Duty.TheVariants as duties
use Rattle.path_agenda.specs.declared.duty.AskDuty.TheVariants as ask_duties
use Rattle.path_agenda.specs.declared.duty.StepDuty.TheVariants as step_duties
use Rattle.path_agenda.specs.declared.heard.Heard.{Heard}
use Rattle.path_agenda.specs.declared.heard.Heard.TheVariants as says
use Rattle.path_core.specs.Arrival.{after_judged, template_of}
use Rattle.path_core.specs.Breaking.{answered_break, reset_on}
use Rattle.path_core.specs.Choices.{item_at}
use Rattle.path_core.specs.Codec.{Codec}
use Rattle.path_core.specs.DssIn.{counts, is_clash, held_of, with_learned, with_skipped, with_data_fin}
use Rattle.path_core.specs.Duties.{stands, passed, answered}
use Rattle.path_core.specs.End.{PathEnd, died}
use Rattle.path_core.specs.Events.{next_event}
use Rattle.path_core.specs.Fallback.{after_fell, fell_duties, with_plain_ack, after_infinite}
use Rattle.path_core.specs.MpJoin.{is_joined}
use Rattle.path_core.specs.OptionsIn.{items_of, options_heard}
use Rattle.path_core.specs.Standing.{answered_ack_out}
use Rattle.path_core.specs.Start.{waiting_path}
use Rattle.path_core.specs.State.{PathState, end_at, goes_on, with_agenda}
use Rattle.path_core.specs.Steps.{settled, takes, next_round}
use Rattle.path_core.specs.Treating.{item_of, item_passed, item_stands, answered_item}
use Rattle.path_core.specs.declared.judged.Judged.{Judged}
use Rattle.path_core.specs.declared.judged.Judged.TheVariants as judged
use Rattle.world_laws.specs.declared.member.Member.TheVariants.{App, Path}
use Rattle.world_laws.specs.Actors.{Actor, ActorCrew, member_takes, member_next, is_over}
use Rattle.world_laws.specs.Laws.{Always}
use Rattle.world_laws.specs.Members.{HoldsOfKind}
use Rattle.world_laws.specs.Openings.{PathPlan, Start, path_begins, opened_world}
use Rattle.world_laws.specs.StampedBooks.{answer_to}
use Rattle.world_laws.specs.Writes.{EndView, writes, side_of}
use Rattle.world_laws.proofs.Falls.FailedChecks.{infinite_came_so, fail_answered_so}
use Rattle.world_laws.proofs.Rounds.Lifting.{run_lifted, opened_lifted}
use Rattle.world_laws.proofs.Writes.Paths.{writes_no_more}
use Rattle.world_laws.proofs.Writes.Steps.{unwritten}
use Rattle.whole_paths.specs.AgendaSteps.{is_gone}
use Rattle.whole_paths.specs.Brought.{Brings, IsToReset, comes_before_keeping}
use Rattle.whole_paths.specs.Brought.{IsToReset as resetting}
use Rattle.whole_paths.specs.Mapped.{AreLive, says_mapping, is_mapping, IsToLearn, IsMapped, StaysMapped, KnowsWhatIsTold, PathsKnowWhatIsTold, EndsAreLive, MappingsAreLive, WhatIsToldIsKnown}
use Rattle.whole_paths.specs.Mapped.{IsMapped as there}
use Rattle.whole_paths.specs.Mapped.{StaysMapped as stay}
use Rattle.whole_paths.proofs.Agendas.{own_end, gone_end}
use Rattle.whole_paths.proofs.Bringing.{coming_by, comes_so, first_so}
use Rattle.whole_paths.proofs.Duties.{passed_steps, answered_steps}
use Rattle.whole_paths.proofs.Mapping.{learned_known, live_moves, known_moves, event_maps, answered_maps, passed_maps}
use Rattle.whole_paths.proofs.Pieces.{own_only}
use Rattle.whole_paths.proofs.Staying.{Rests, passed_rests, reset_stands}
use Rattle.whole_paths.proofs.Treating.{Leads, is_heard, Before, before_answers}
use Rattle.whole_paths.proofs.Treating.Leads.{as_they_are, one_more}
use Rattle.whole_paths.proofs.Treating.Before.{on, resets_then, dies}
use Rattle.whole_paths.proofs.Turns.{turn_each}
use Rattle.whole_paths.proofs.Waiting.{gone_stays, path_far}

-- ---- a position at an end behind which these duties stand

data Now (s : Side) (pos : ℕ) (ds : List Duty) (e : PathEnd) : Type 0 where
  below : pos < e.tcp.recv.edge → Now s pos ds e
  mapped : IsSome (mapping_at e.receiving.mappings pos) → Now s pos ds e
  to_learn : (m : KeptMapping) → first_held e.receiving.mappings ≡ Some m → covers pos (run_of m) ≡ true → IsToLearn s e.treated.items ds → Now s pos ds e
  at_dead : is_gone e ≡ true → Now s pos ds e
  resets_next : IsToReset s ds → Now s pos ds e
  fallen : e.modes.identity ≡ true → Now s pos ds e
  keyless : e.modes.peer_key ≡ None → Now s pos ds e

abbrev pub Live : PathEnd → Type 0
Live e = AreLive e.receiving.mappings e.tcp.recv.edge

still_known : (s : Side) (pos : ℕ) (ds : List Duty) (e : PathEnd) → (pos < e.tcp.recv.edge) ⊎ IsSome (mapping_at e.receiving.mappings pos) → Now s pos ds e
still_known s pos ds e x = ⊎_elim (λ low. below low) (λ some. mapped some) x

none_of : (o : Option ℕ) → is_some o ≡ false → o ≡ None
none_of None is = refl
none_of (Some key) is = absurd (true≢false is)

first_false : (a b : Bool) → (a || b) ≡ false → a ≡ false
first_false true b is = absurd (true≢false is)
first_false false b is = refl

-- the first mapping that is held is learned
pub learned_so : (pos : ℕ) (m : KeptMapping) (e f : PathEnd) → Live e → first_held e.receiving.mappings ≡ Some m → covers pos (run_of m) ≡ true → is_clash e ≡ false
    → f.tcp.recv.edge ≡ e.tcp.recv.edge → f.receiving.mappings ≡ (with_learned e).receiving.mappings → (pos < f.tcp.recv.edge) ⊎ IsSome (mapping_at f.receiving.mappings pos)
learned_so pos m e f live first is clash edge maps = ⊎_elim
    (λ low. inl (let far = live.low in omega (arith, low, far, edge)))
    (λ high. inr (subst (λ x. IsSome (mapping_at x pos)) (sym maps) (subst (λ o. IsSome (mapping_at (after_skip_held (learned_if o v)) pos)) (sym first)
    (learned_known m v e.tcp.recv.edge pos live (subst (λ o. clashes_if o v ≡ false) first clash) is high))))
    (cases_lt pos v.forgotten)
  where
    v : Mappings
    v = e.receiving.mappings

learned_now : (s : Side) (pos : ℕ) (ds : List Duty) (m : KeptMapping) (e f : PathEnd) → Live e → first_held e.receiving.mappings ≡ Some m → covers pos (run_of m) ≡ true → is_clash e ≡ false
    → f.tcp.recv.edge ≡ e.tcp.recv.edge → f.receiving.mappings ≡ (with_learned e).receiving.mappings → Now s pos ds f
learned_now s pos ds m e f live first is clash edge maps = still_known s pos ds f (learned_so pos m e f live first is clash edge maps)

-- ---- what is heard

-- no mapping
record Leaves (e f : PathEnd) : Type 0 where
  maps : f.receiving.mappings ≡ e.receiving.mappings
  items : f.treated.items ≡ e.treated.items

on_leaves : (s : Side) (pos : ℕ) (ds : List Duty) (m : KeptMapping) (e f : PathEnd) → Leaves e f → first_held e.receiving.mappings ≡ Some m → covers pos (run_of m) ≡ true → IsToLearn s e.treated.items ds
    → Now s pos ds f
on_leaves s pos ds m e f x first is learn = to_learn m (ap first_held x.maps ∙ first) is (subst (λ items. IsToLearn s items ds) (sym x.items) learn)

item_leaves : (s : Side) (o : Option Heard) (e : PathEnd) → is_mapping o ≡ false → Leaves e (item_passed s o e)
item_leaves s None e no_map = record { maps = refl; items = refl }
item_leaves s (Some (says.Mapping fin)) e no_map = absurd (true≢false no_map)
item_leaves s (Some (says.DataFin place)) e no_map = elim (counts e) as (λ b. Leaves e (if b then with_data_fin place e else e)) [ true ↦ record { maps = refl; items = refl } | false ↦ record { maps = refl; items = refl } ]
item_leaves s (Some _) e no_map = record { maps = refl; items = refl }

-- one is learned now, or there are others to come
abbrev Rest : Side → List Heard → Option Heard → List Duty → Type 0
Rest s items o ds = (is_mapping o ≡ true) ⊎ IsToLearn s items ds

other_leaves : (s : Side) (pos : ℕ) (ds : List Duty) (m : KeptMapping) (e : PathEnd) → first_held e.receiving.mappings ≡ Some m → covers pos (run_of m) ≡ true
    → (o : Option Heard) → is_mapping o ≡ false → Rest s e.treated.items o ds → Now s pos ds (item_passed s o e)
other_leaves s pos ds m e first is o no_map (inl maps) = absurd (true≢false (sym maps ∙ no_map))
other_leaves s pos ds m e first is o no_map (inr learn) = on_leaves s pos ds m e (item_passed s o e) (item_leaves s o e no_map) first is learn

item_now : (s : Side) (pos : ℕ) (ds : List Duty) (m : KeptMapping) (e : PathEnd) → Live e → first_held e.receiving.mappings ≡ Some m → covers pos (run_of m) ≡ true
    → (o : Option Heard) → item_stands o e ≡ false → Rest s e.treated.items o ds → Now s pos ds (item_passed s o e)
item_now s pos ds m e live first is None quiet rest = other_leaves s pos ds m e first is None refl rest
item_now s pos ds m e live first is (Some (says.Mapping fin)) quiet rest = (elim (counts e) as
    (λ b. counts e ≡ b → (b && (is_clash e || is_starting e.modes.mode)) ≡ false → Now s pos ds (if b then with_learned e else with_skipped e)) [
      | true ↦ λ has quiet. learned_now s pos ds m e (with_learned e) live first is (first_false (is_clash e) (is_starting e.modes.mode) quiet) refl refl
      | false ↦ λ none quiet. keyless (none_of e.modes.peer_key none)
    ]) refl quiet
item_now s pos ds m e live first is (Some item) quiet rest = other_leaves s pos ds m e first is (Some item) refl rest

-- after a fall nothing is heard
passed_item : (s : Side) (pos index : ℕ) (ds : List Duty) (m : KeptMapping) (e : PathEnd) → Live e → first_held e.receiving.mappings ≡ Some m → covers pos (run_of m) ≡ true
    → item_stands (item_of index e) e ≡ false → Rest s e.treated.items (item_at index e.treated.items) ds → Now s pos ds (item_passed s (item_of index e) e)
passed_item s pos index ds m e live first is quiet rest = (elim e.modes.identity as
    (λ b. e.modes.identity ≡ b → item_stands (if b then None else item_at index e.treated.items) e ≡ false → Now s pos ds (item_passed s (if b then None else item_at index e.treated.items) e))
    [ true ↦ λ plain quiet. fallen plain | false ↦ λ maps quiet. item_now s pos ds m e live first is (item_at index e.treated.items) quiet rest ]) refl quiet

-- ---- what is to be learned

learn_more : (s : Side) (items : List Heard) (d : Duty) (ds : List Duty) → side_of d ≡ s → comes_before_keeping d ≡ true → is_heard d ≡ false → IsToLearn s items ds → IsToLearn s items (d ∷ ds)
learn_more s items (duties.Step (step_duties.Heard t index)) ds own before heard learn = absurd (true≢false heard)
learn_more s items d ds own before heard learn = (own, (before, learn))

pub item_here : (before : List Heard) (x : Heard) (after : List Heard) → item_at (length before) (before ++ x ∷ after) ≡ Some x
item_here [] x after = refl
item_here (y ∷ before) x after = item_here before x after

pub appended : (before : List Heard) (x : Heard) (after : List Heard) → before ++ x ∷ after ≡ (before ++ x ∷ []) ++ after
appended [] x after = refl
appended (y ∷ before) x after = ap (λ rest. y ∷ rest) (appended before x after)

pub one_longer : (before : List Heard) (x : Heard) → length (before ++ x ∷ []) ≡ length before + 1
one_longer [] x = refl
one_longer (y ∷ before) x = (let rest = one_longer before x in omega (arith, rest))

-- where one of the things says so
heard_learn : (s : Side) (before after : List Heard) (ds : List Duty) → list_any says_mapping after ≡ true → IsToLearn s (before ++ after) (heard_and s (length before) (length after) ds)
heard_learn s before [] ds some = absurd (true≢false (sym some))
heard_learn s before (x ∷ after) ds some = (
  refl,
  (elim (says_mapping x) as
      (λ b. says_mapping x ≡ b → (b || list_any says_mapping after) ≡ true
      → (is_mapping (item_at (length before) (before ++ x ∷ after)) ≡ true) ⊎ IsToLearn s (before ++ x ∷ after) (heard_and s (length before + 1) (length after) ds)) [
        | true ↦ λ maps some. inl (ap is_mapping (item_here before x after) ∙ maps)
        | false ↦ λ maps some. inr (subst (λ xs. IsToLearn s xs (heard_and s (length before + 1) (length after) ds)) (sym (appended before x after))
            (subst (λ n. IsToLearn s ((before ++ x ∷ []) ++ after) (heard_and s n (length after) ds)) (one_longer before x) (heard_learn s (before ++ x ∷ []) after ds some)))
      ]) refl some,
)

copy_learn : (s : Side) (items : List Heard) → list_any says_mapping items ≡ true → IsToLearn s items (copy_came s (length items))
copy_learn s items some = (refl, (refl, (refl, (refl, heard_learn s [] items (payload_came s) some))))

-- what leaves the mappings and what the copy says
before_now : (s : Side) (pos : ℕ) (ds next : List Duty) (m : KeptMapping) (e f : PathEnd) → first_held e.receiving.mappings ≡ Some m → covers pos (run_of m) ≡ true → IsToLearn s e.treated.items ds
    → f.receiving.mappings ≡ e.receiving.mappings → Before s ds e f next → Now s pos next f
before_now s pos ds next m e f first is learn maps (on x leads) = on_leaves s pos next m e f (record { maps = maps; items = x.items }) first is (by next leads)
  where
    by : (next : List Duty) → Leads s ds next → IsToLearn s e.treated.items next
    by next as_they_are = learn
    by next (one_more d own before heard) = learn_more s e.treated.items d ds own before heard learn
before_now s pos ds next m e f first is learn maps (resets_then is_so) = resets_next is_so
before_now s pos ds next m e f first is learn maps (dies gone) = at_dead gone

-- before the first turn nothing is mapped
none_live : (edge : ℕ) → AreLive no_mappings edge
none_live edge = record {
  low = omega arith;
  live = λ pos high some. absurd (true≢false (sym some ∙ ap (λ o. is_some (option_or o None)) (get-empty nat_cmp pos)));
  within = All-nil IsWithin;
  told = All-nil IsWithin;
}

first_live : (C : Type 0) (number : ℕ) (start : Start) (plan : PathPlan) (s : Side) → let p : PathState C = waiting_path (path_begins start number plan) start.lines in Live (end_at s p)
first_live C number start plan A = let p : PathState C = waiting_path (path_begins start number plan) start.lines in none_live p.a.tcp.recv.edge
first_live C number start plan B = let p : PathState C = waiting_path (path_begins start number plan) start.lines in none_live p.b.tcp.recv.edge

module _ {C : Type 0} where
  -- ---- a duty that is passed

  before_leaves : (d : Duty) (p : PathState C) → comes_before_keeping d ≡ true → is_heard d ≡ false → Leaves (end_at (side_of d) p) (end_at (side_of d) (passed d p))
  before_leaves (duties.Step (step_duties.Heard s index)) p before heard = absurd (true≢false heard)
  before_leaves (duties.Step (step_duties.PlainAck s)) p before heard = subst (λ f. Leaves (end_at s p) f) (sym (own_end s (with_plain_ack (end_at s p)) p.a p.b)) (record { maps = refl; items = refl })
  before_leaves (duties.Step (step_duties.Unmapped s)) p before heard = absurd (true≢false (sym before))
  before_leaves (duties.Ask (ask_duties.CheckFailed s)) p before heard = absurd (true≢false (sym before))
  before_leaves (duties.Silent d) p before heard = absurd (true≢false (sym before))
  before_leaves _ p before heard = record { maps = refl; items = refl }

  learn_passes : (s : Side) (pos : ℕ) (d : Duty) (ds : List Duty) (p : PathState C) → stands d p ≡ false → Live (end_at s p) → (m : KeptMapping) → first_held (end_at s p).receiving.mappings ≡ Some m
      → covers pos (run_of m) ≡ true → IsToLearn s (end_at s p).treated.items (d ∷ ds) → Now s pos ds (end_at s (passed d p))
  learn_passes s pos (duties.Step (step_duties.Heard t index)) ds p quiet live m first is learn =
      subst (λ u. Live (end_at u p) → first_held (end_at u p).receiving.mappings ≡ Some m → Rest u (end_at u p).treated.items (item_at index (end_at u p).treated.items) ds → Now u pos ds (end_at u q)) learn.0
      (λ live first rest. subst (λ f. Now t pos ds f) (sym (own_end t (item_passed t (item_of index (end_at t p)) (end_at t p)) p.a p.b)) (passed_item t pos index ds m (end_at t p) live first is quiet rest)) live first learn.1
    where
      q : PathState C
      q = passed (duties.Step (step_duties.Heard t index)) p
  learn_passes s pos d ds p quiet live m first is learn =
      on_leaves s pos ds m (end_at s p) (end_at s (passed d p)) (subst (λ u. Leaves (end_at u p) (end_at u (passed d p))) learn.0 (before_leaves d p learn.1.0 refl)) first is learn.1.1

  pass_now : (s : Side) (pos : ℕ) (d : Duty) (ds : List Duty) (p : PathState C) → stands d p ≡ false → Live (end_at s p) → Now s pos (d ∷ ds) (end_at s p) → Now s pos ds (end_at s (passed d p))
  pass_now s pos d ds p quiet live h = by h
    where
      q : PathState C
      q = passed d p

      up : (end_at s p).tcp.recv.edge ≤ (end_at s q).tcp.recv.edge
      up = (path_far p q (passed_steps d p) s).subflow.received

      x : Rests s (end_at s p) (end_at s q)
      x = passed_rests s d p

      by : Now s pos (d ∷ ds) (end_at s p) → Now s pos ds (end_at s q)
      by (below low) = below (let more = up in omega (arith, low, more))
      by (mapped some) = still_known s pos ds (end_at s q) (known_moves pos (end_at s p) (end_at s q) (passed_maps s d p) some)
      by (to_learn m first is learn) = learn_passes s pos d ds p quiet live m first is learn
      by (at_dead is) = at_dead (gone_stays (end_at s p) (end_at s q) (path_far p q (passed_steps d p) s) is)
      by (resets_next is) = absurd (true≢false (sym (reset_stands s (d ∷ ds) p is) ∙ quiet))
      by (fallen is) = fallen (x.plain ∙ is)
      by (keyless is) = keyless (x.key ∙ is)

  pub passed_live : (s : Side) (d : Duty) (p : PathState C) → Live (end_at s p) → Live (end_at s (passed d p))
  passed_live s d p live = live_moves (end_at s p) (end_at s (passed d p)) ((path_far p (passed d p) (passed_steps d p) s).subflow.received) (passed_maps s d p) live

  now_so : (s : Side) (pos : ℕ) (p q : PathState C) → Now s pos q.agenda (end_at s q) → StaysMapped s pos p q
  now_so s pos p q (below low) = stay.on (there.passed low)
  now_so s pos p q (mapped some) = stay.on (there.known some)
  now_so s pos p q (to_learn m first is learn) = stay.on (there.told m first is learn)
  now_so s pos p q (at_dead is) = stay.gone is
  now_so s pos p q (resets_next is) = stay.reset is
  now_so s pos p q (fallen is) = stay.plain is
  now_so s pos p q (keyless is) = stay.unkeyed is

  settled_so : (s : Side) (pos : ℕ) (from : PathState C) (ds : List Duty) (p : PathState C) → Live (end_at s p) → Now s pos ds (end_at s p) → StaysMapped s pos from (settled ds p)
  settled_so s pos from [] p live h = now_so s pos from (with_agenda [] p) h
  settled_so s pos from (d ∷ ds) p live h = by (stands d p) refl (λ quiet. settled_so s pos from ds (passed d p) (passed_live s d p live) (pass_now s pos d ds p quiet live h))
    where
      by : (b : Bool) → stands d p ≡ b → (stands d p ≡ false → StaysMapped s pos from (settled ds (passed d p))) → StaysMapped s pos from (if b then with_agenda (d ∷ ds) p else settled ds (passed d p))
      by true is rest = now_so s pos from (with_agenda (d ∷ ds) p) h
      by false is rest = rest is

  settled_live : (s : Side) (ds : List Duty) (p : PathState C) → Live (end_at s p) → Live (end_at s (settled ds p))
  settled_live s [] p live = live
  settled_live s (d ∷ ds) p live = elim (stands d p) as (λ b. Live (end_at s (if b then with_agenda (d ∷ ds) p else settled ds (passed d p))))
      [ true ↦ live | false ↦ settled_live s ds (passed d p) (passed_live s d p live) ]

  -- ---- a duty that is answered

  pub thing_leaves : (k : Codec C) (s : Side) (o : Option Heard) (r : Reply) (p : PathState C) → is_mapping o ≡ false → (end_at s (answered_item k s o r p)).receiving.mappings ≡ (end_at s p).receiving.mappings
  thing_leaves k s None r p no_map = refl
  thing_leaves k s (Some (says.Mapping fin)) r p no_map = absurd (true≢false no_map)
  thing_leaves k s (Some (says.DataAck next window)) r p no_map = ap (λ (f : PathEnd). f.receiving.mappings) (own_end s _ p.a p.b)
  thing_leaves k s (Some (says.DataFin place)) r p no_map = ap (λ (f : PathEnd). f.receiving.mappings) (own_end s _ p.a p.b)
  thing_leaves k s (Some (says.InfiniteMapping place position)) r p no_map =
      let e = end_at s p in
      ap (λ (f : PathEnd). f.receiving.mappings) (own_end s (after_infinite place position r e) p.a p.b)
      ∙ infinite_came_so (λ f. f.receiving.mappings ≡ e.receiving.mappings) place position r e (λ other. refl)
  thing_leaves k s (Some (says.Keys own other)) r p no_map = ap (λ (f : PathEnd). f.receiving.mappings) (own_end s _ p.a p.b)
  thing_leaves k s (Some (says.Notice notice)) r p no_map = ap (λ (f : PathEnd). f.receiving.mappings) (own_end s _ p.a p.b)
  thing_leaves k s (Some says.Fail) r p no_map = fail_answered_so (λ q. (end_at s q).receiving.mappings ≡ (end_at s p).receiving.mappings) s r p
      (ap (λ (f : PathEnd). f.receiving.mappings) (own_end s _ p.a p.b)) (ap (λ (f : PathEnd). f.receiving.mappings) (own_end s _ p.a p.b))
  thing_leaves k s (Some _) r p no_map = refl

  pub unmapped_so : (k : Codec C) (d : Duty) (r : Reply) (p : PathState C) → comes_before_keeping d ≡ true → is_heard d ≡ false
      → (end_at (side_of d) (answered k d r p)).receiving.mappings ≡ (end_at (side_of d) p).receiving.mappings
  unmapped_so k (duties.Step (step_duties.Heard s index)) r p before heard = absurd (true≢false heard)
  unmapped_so k (duties.Step step_duties.Events) r p before heard = absurd (true≢false (sym before))
  unmapped_so k (duties.Ask (ask_duties.Edge s)) r p before heard = absurd (true≢false (sym before))
  unmapped_so k (duties.Send d) r p before heard = absurd (true≢false (sym before))
  unmapped_so k (duties.Silent d) r p before heard = absurd (true≢false (sym before))
  unmapped_so k d r p before heard = unwritten (writes d).own.mappings (end_at (side_of d) p).receiving.mappings (end_at (side_of d) (answered k d r p)).receiving.mappings refl
      (ap (λ (v : EndView). v.mappings) (own_only (side_of d) (writes d) p (answered k d r p) (writes_no_more k d r p)).same)

  module _ (k : Codec C) (s : Side) (pos index : ℕ) (ds : List Duty) (r : Reply) (p : PathState C) (m : KeptMapping) where
    abbrev x : PathState C
    x = with_agenda (duties.Step (step_duties.Heard s index) ∷ ds) p

    abbrev e : PathEnd
    e = end_at s p

    abbrev Then : PathState C → Type 0
    Then q = Now s pos q.agenda (end_at s q)

    breaks_now : Then (answered_break k s 1 r x)
    breaks_now = elim e.treated.asked as (λ b. Then (if b then answered_ack_out s r (resets s 1) x else reset_on k s (Some 1) (leaves s) x))
        [ true ↦ resets_next (resetting.is_reset 1 refl) | false ↦ at_dead (gone_end s (died e) p.a p.b refl) ]

    mapping_now : Live e → first_held e.receiving.mappings ≡ Some m → covers pos (run_of m) ≡ true → Then (answered_item k s (Some (says.Mapping false)) r x)
    mapping_now live first is = (elim (is_clash e) as
        (λ b. is_clash e ≡ b → Then (if b then answered_break k s 1 r x else goes_on s (with_learned (after_fell events.MappingHeard r (end_at s x))) (fell_duties s r x) x)) [
          | true ↦ λ clash. breaks_now
          | false ↦ λ clash. subst (λ f. Now s pos (fell_duties s r x) f) (sym (own_end s (with_learned (after_fell events.MappingHeard r e)) p.a p.b))
              (learned_now s pos (fell_duties s r x) m e (with_learned (after_fell events.MappingHeard r e)) live first is clash refl refl)
        ]) refl

    thing_now : Live e → first_held e.receiving.mappings ≡ Some m → covers pos (run_of m) ≡ true → (o : Option Heard) → Rest s e.treated.items o ds → (is_mapping o ≡ false → Before s ds e (end_at s (answered_item k s o r x)) (answered_item k s o r x).agenda)
        → Then (answered_item k s o r x)
    thing_now live first is (Some (says.Mapping fin)) rest before = mapping_now live first is
    thing_now live first is o rest before = by rest
      where
        by : Rest s e.treated.items o ds → Then (answered_item k s o r x)
        by (inl maps) = absurd (true≢false (sym maps))
        by (inr learn) = before_now s pos ds (answered_item k s o r x).agenda m e (end_at s (answered_item k s o r x)) first is learn (thing_leaves k s o r x refl) (before refl)

    heard_now : Live e → first_held e.receiving.mappings ≡ Some m → covers pos (run_of m) ≡ true → Rest s e.treated.items (item_at index e.treated.items) ds
        → Then (answered k (duties.Step (step_duties.Heard s index)) r x)
    heard_now live first is rest = (elim e.modes.identity as
        (λ b. e.modes.identity ≡ b → let o : Option Heard = if b then None else item_at index e.treated.items in
        Before s ds e (end_at s (answered_item k s o r x)) (answered_item k s o r x).agenda → Then (answered_item k s o r x)) [
          | true ↦ λ plain before. fallen plain
          | false ↦ λ maps before. thing_now live first is (item_at index e.treated.items) rest (λ no_map. before)
        ]) refl (before_answers k (duties.Step (step_duties.Heard s index)) ds r p refl)

  learn_answers : (k : Codec C) (s : Side) (pos : ℕ) (d : Duty) (ds : List Duty) (r : Reply) (p : PathState C) → let q : PathState C = answered k d r (with_agenda (d ∷ ds) p) in
      Live (end_at s p) → (m : KeptMapping) → first_held (end_at s p).receiving.mappings ≡ Some m → covers pos (run_of m) ≡ true → IsToLearn s (end_at s p).treated.items (d ∷ ds) → Now s pos q.agenda (end_at s q)
  learn_answers k s pos (duties.Step (step_duties.Heard t index)) ds r p live m first is learn =
      subst (λ u. Live (end_at u p) → first_held (end_at u p).receiving.mappings ≡ Some m → Rest u (end_at u p).treated.items (item_at index (end_at u p).treated.items) ds → Now u pos q.agenda (end_at u q)) learn.0
      (λ live first rest. heard_now k t pos index ds r p m live first is rest) live first learn.1
    where
      q : PathState C
      q = answered k (duties.Step (step_duties.Heard t index)) r (with_agenda (duties.Step (step_duties.Heard t index) ∷ ds) p)
  learn_answers k s pos d ds r p live m first is learn =
      let x : PathState C = with_agenda (d ∷ ds) p in let q : PathState C = answered k d r x in
      before_now s pos ds q.agenda m (end_at s p) (end_at s q) first is learn.1.1
      (subst (λ u. (end_at u q).receiving.mappings ≡ (end_at u x).receiving.mappings) learn.0 (unmapped_so k d r x learn.1.0 refl))
      (subst (λ u. Before u ds (end_at u p) (end_at u q) q.agenda) learn.0 (before_answers k d ds r p learn.1.0))

  known_answers : (k : Codec C) (s : Side) (pos : ℕ) (d : Duty) (ds : List Duty) (r : Reply) (p : PathState C) → let q : PathState C = answered k d r (with_agenda (d ∷ ds) p) in
      IsSome (mapping_at (end_at s p).receiving.mappings pos) → Now s pos q.agenda (end_at s q)
  known_answers k s pos (duties.Step step_duties.Events) ds r p some =
      let x : PathState C = with_agenda (duties.Step step_duties.Events ∷ ds) p in let q : PathState C = answered k (duties.Step step_duties.Events) r x in
      still_known s pos q.agenda (end_at s q) (known_moves pos (end_at s x) (end_at s q) (event_maps k (next_event x) r x s) some)
  known_answers k s pos d ds r p some =
      let x : PathState C = with_agenda (d ∷ ds) p in let q : PathState C = answered k d r x in
      still_known s pos q.agenda (end_at s q) (known_moves pos (end_at s x) (end_at s q) (answered_maps k s d r x refl) some)

  pub answered_live : (k : Codec C) (s : Side) (d : Duty) (ds : List Duty) (r : Reply) (p : PathState C) → Live (end_at s p) → Live (end_at s (answered k d r (with_agenda (d ∷ ds) p)))
  answered_live k s (duties.Step step_duties.Events) ds r p live =
      let d : Duty = duties.Step step_duties.Events in let x : PathState C = with_agenda (d ∷ ds) p in
      live_moves (end_at s x) (end_at s (answered k d r x)) ((path_far x (answered k d r x) (answered_steps k d r x) s).subflow.received) (event_maps k (next_event x) r x s) live
  answered_live k s d ds r p live =
      let x : PathState C = with_agenda (d ∷ ds) p in
      live_moves (end_at s x) (end_at s (answered k d r x)) ((path_far x (answered k d r x) (answered_steps k d r x) s).subflow.received) (answered_maps k s d r x refl) live

  there_answers : (k : Codec C) (s : Side) (pos : ℕ) (d : Duty) (ds : List Duty) (r : Reply) (p : PathState C) → let x : PathState C = with_agenda (d ∷ ds) p in let q : PathState C = answered k d r x in
      Live (end_at s p) → IsMapped s pos x → Now s pos q.agenda (end_at s q)
  there_answers k s pos d ds r p live (there.passed low) =
      let x : PathState C = with_agenda (d ∷ ds) p in let up = (path_far x (answered k d r x) (answered_steps k d r x) s).subflow.received in below (omega (arith, low, up))
  there_answers k s pos d ds r p live (there.known some) = known_answers k s pos d ds r p some
  there_answers k s pos d ds r p live (there.told m first is learn) = learn_answers k s pos d ds r p live m first is learn

  -- ---- a copy comes

  module _ (k : Codec C) (ds : List Duty) (r : Reply) (p : PathState C) (b : Brings k (with_agenda (duties.Step step_duties.Events ∷ ds) p)) (m : KeptMapping) (rest : List KeptMapping) (pos : ℕ) where
    abbrev s : Side
    s = b.copy.due.to

    abbrev own : PathEnd
    own = end_at s p

    abbrev said : HeardSegment
    said = options_heard own b.copy.segment

    abbrev items : List Heard
    items = items_of (is_joined p.profile) s said

    tells_now : held_of p.profile s said ≡ m ∷ rest → list_any says_mapping items ≡ true → covers pos (run_of m) ≡ true
        → let q = answered k (duties.Step step_duties.Events) r (with_agenda (duties.Step step_duties.Events ∷ ds) p) in Now s pos q.agenda (end_at s q)
    tells_now holds some is = comes_so (λ q. Now s pos q.agenda (end_at s q)) k ds r p b.copy
        (subst (λ (verdict : Judged). Now s pos (template_of (is_joined p.profile) s items verdict)
        (pick s (pick s (after_judged p.profile s now said verdict own) p.a) (pick s p.b (after_judged p.profile s now said verdict own)))) (sym b.taken)
        (subst (λ f. Now s pos (copy_came s (length items)) f) (sym (own_end s taken p.a p.b))
        (to_learn m (ap (λ (told : List KeptMapping). first_held (record own.receiving.mappings { held = told })) holds) is (copy_learn s items some))))
      where
        now : ℕ
        now = (coming_by ds p b.copy).clock

        taken : PathEnd
        taken = after_judged p.profile s now said (judged.As (means.Taken b.position b.acknowledged)) own

  -- ---- a turn

  module _ (k : Codec C) (ds : List Duty) (r : Reply) (p : PathState C) (live : EndsAreLive p) where
    abbrev from : Duty → PathState C
    from d = with_agenda (d ∷ ds) p

    abbrev to : Duty → PathState C
    to d = answered k d r (from d)

    settles : (d : Duty) (s : Side) (pos : ℕ) → Now s pos (to d).agenda (end_at s (to d)) → StaysMapped s pos (from d) (takes k r (from d))
    settles d s pos now = settled_so s pos (from d) (to d).agenda (to d) (answered_live k s d ds r p (live s)) now

    abbrev Tells : (d : Duty) → Brings k (from d) → Type 0
    Tells d b = (m : KeptMapping) (rest : List KeptMapping) (pos : ℕ) → let s : Side = b.copy.due.to in let said : HeardSegment = options_heard (end_at s p) b.copy.segment in
        held_of p.profile s said ≡ m ∷ rest → list_any says_mapping (items_of (is_joined p.profile) s said) ≡ true → covers pos (run_of m) ≡ true
        → (takes k r (from d) ≡ from d) ⊎ StaysMapped s pos (from d) (takes k r (from d))

    tells : (b : Brings k (from (duties.Step step_duties.Events))) → Tells (duties.Step step_duties.Events) b
    tells b m rest pos holds some is = inr (settles (duties.Step step_duties.Events) b.copy.due.to pos (tells_now k ds r p b m rest pos holds some is))

    answer_knows : (d : Duty) → KnowsWhatIsTold k (from d) (takes k r (from d))
    answer_knows d = record {
      tells = λ b. subst (λ d. (b : Brings k (from d)) → Tells d b) (sym (first_so d (duties.Step step_duties.Events) ds b.copy.others b.copy.first)) tells b;
      stays = λ s pos h. settles d s pos (there_answers k s pos d ds r p (live s) h);
    }

  path_stays : (k : Codec C) (p : PathState C) → KnowsWhatIsTold k p p
  path_stays k p = record { tells = λ b m rest pos holds some is. inl refl; stays = λ s pos h. stay.on h }

  takes_knows : (k : Codec C) (r : Reply) (p : PathState C) → EndsAreLive p → KnowsWhatIsTold k p (takes k r p)
  takes_knows k r p live = by p.agenda
    where
      by : (ds : List Duty) → let x : PathState C = with_agenda ds p in KnowsWhatIsTold k x (takes k r x)
      by [] = path_stays k (with_agenda [] p)
      by (d ∷ ds) = answer_knows k ds r p live d

  next_knows : (k : Codec C) (p : PathState C) → EndsAreLive p → is_nil p.agenda ≡ true → KnowsWhatIsTold k p (next_round p)
  next_knows k p live over = record {
    tells = λ b m rest pos holds some is. absurd (true≢false (sym over ∙ ap is_nil b.copy.first));
    stays = λ s pos h. settled_so s pos p start_of_turn (with_agenda start_of_turn (record p { clock = p.until; until = p.until + 100 })) (live s) (by s pos h);
  }
    where
      idle : (s : Side) (items : List Heard) (ds : List Duty) → is_nil ds ≡ true → IsToLearn s items ds → ⊥
      idle s xs [] over learn = learn
      idle s xs (d ∷ ds) over learn = true≢false (sym over)

      by : (s : Side) (pos : ℕ) → IsMapped s pos p → Now s pos start_of_turn (end_at s p)
      by s pos (there.passed low) = below low
      by s pos (there.known some) = mapped some
      by s pos (there.told m first is learn) = absurd (idle s (end_at s p).treated.items p.agenda over learn)

  -- ---- the world

  takes_live : (k : Codec C) (r : Reply) (p : PathState C) → EndsAreLive p → EndsAreLive (takes k r p)
  takes_live k r p live s = by p.agenda
    where
      by : (ds : List Duty) → Live (end_at s (takes k r (with_agenda ds p)))
      by [] = live s
      by (d ∷ ds) = let q : PathState C = answered k d r (with_agenda (d ∷ ds) p) in settled_live s q.agenda q (answered_live k s d ds r p (live s))

  abbrev LiveMember : Actor C → Type 0
  LiveMember = HoldsOfKind (λ app. Unit {0}) EndsAreLive

  member_takes_live : (k : Codec C) (r : Reply) (m : Actor C) → LiveMember m → LiveMember (member_takes k r m)
  member_takes_live k r (App a) h = tt
  member_takes_live k r (Path p) h = takes_live k r p h

  member_begins_live : (m : Actor C) → LiveMember m → LiveMember (member_next m)
  member_begins_live (App a) h = tt
  member_begins_live (Path p) h = λ s. settled_live s start_of_turn (with_agenda start_of_turn (record p { clock = p.until; until = p.until + 100 })) (h s)

  all_live : (k : Codec C) → Always k (λ start w. MappingsAreLive w)
  all_live k start turns = record {
    each = (run_lifted k (λ c. LiveMember c.member) (λ books c x asks h. member_takes_live k (answer_to books x) c.member h) (λ stamp c over h. member_begins_live c.member h) turns (opened_world start)
        (opened_lifted (λ c. LiveMember c.member) start tt tt (λ number plan there s. settled_live s start_of_turn (with_agenda start_of_turn (waiting_path (path_begins start number plan) start.lines)) (first_live C number start plan s)))).each;
  }

  abbrev Knows : Codec C → ActorCrew C → ActorCrew C → Type 0
  Knows k c d = LiveMember c.member → PathsKnowWhatIsTold k c.member d.member

  member_knows : (k : Codec C) (r : Reply) (m : Actor C) → LiveMember m → PathsKnowWhatIsTold k m (member_takes k r m)
  member_knows k r (App a) live = tt
  member_knows k r (Path p) live = takes_knows k r p live

  member_begins : (k : Codec C) (m : Actor C) → is_over m ≡ true → LiveMember m → PathsKnowWhatIsTold k m (member_next m)
  member_begins k (App a) over live = tt
  member_begins k (Path p) over live = next_knows k p live over

  member_stays : (k : Codec C) (m : Actor C) → PathsKnowWhatIsTold k m m
  member_stays k (App a) = tt
  member_stays k (Path p) = path_stays k p

  pub what_is_told_is_known : (k : Codec C) → WhatIsToldIsKnown k
  what_is_told_is_known k = record {
    live = all_live k;
    goes_on = λ w live turn actor c at. (let x = turn_each k (Knows k) (λ c live. member_stays k c.member) (λ ask books c live. member_knows k (answer_to books ask) c.member live)
        (λ stamp c over live. member_begins k c.member over live) turn w actor c at in (x.0, x.1, x.2 (live.each actor c at)));
  }
