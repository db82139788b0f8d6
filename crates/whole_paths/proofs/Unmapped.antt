-- The byte at RCV.NXT that a copy brings to an end of path 0: its mapping is known, or it is learned before a missing one counts, or the
-- copy's payload is dropped. What duties make of that, but events.
use Rattle.std.proofs.Common.{◌≡◌, refl, sym, subst, ap, ◌∙◌, ◌⊎◌, inl, inr, ⊎_elim, ℕ, ◌<◌, arith, Bool, true, false, true≢false, not, ◌&&◌, ◌||◌, if◌then◌else◌, Option, Some, None, is_some, List, [], ◌∷◌}
use Rattle.std.specs.Prelude.{IsSome}
use Rattle.std.specs.List.{list_any}
use Rattle.std.proofs.lemmas.Bool.{and_parts, both_ways, or_cases, or_parts, or_right}
use Rattle.sides.specs.declared.side.Side.{Side}
use Rattle.sides.specs.declared.side.Side.TheVariants.{A, B}
use Rattle.sides.specs.Side.{peer}
use Rattle.link_script.specs.Places.{same_side}
use Rattle.dss_mapping.specs.Learning.{first_held}
use Rattle.dss_mapping.specs.Mappings.{mapping_at, run_of}
use Rattle.dss_mapping.specs.Runs.{covers}
use Rattle.dss_mapping.specs.declared.kept.KeptMapping.{KeptMapping}
use Rattle.fallback_state.specs.Modes.{is_starting}
use Rattle.fallback_state.specs.declared.fall.Event.TheVariants as events
use Rattle.subflow_tcp.specs.State.{is_fin_passed}
use Rattle.subflow_tcp.specs.States.{is_dead}
use Rattle.actor_desk.specs.declared.ask.Reply.{Reply}
use Rattle.path_agenda.specs.declared.duty.Duty.{Duty}
use Rattle.path_agenda.specs.declared.duty.Duty.TheVariants as duties
use Rattle.path_agenda.specs.declared.duty.AskDuty.TheVariants as ask_duties
use Rattle.path_agenda.specs.declared.duty.SendDuty.TheVariants as send_duties
use Rattle.path_agenda.specs.declared.duty.SilentDuty.TheVariants as silent_duties
use Rattle.path_agenda.specs.declared.duty.StepDuty.TheVariants as step_duties
use Rattle.path_agenda.specs.declared.heard.Heard.{Heard}
use Rattle.path_agenda.specs.declared.heard.Heard.TheVariants as says
use Rattle.path_core.specs.Choices.{item_at}
use Rattle.path_core.specs.Deliver.{after_pieces, is_dropped, is_not_kept}
use Rattle.path_core.specs.DssIn.{counts, is_clash, with_learned, with_skipped, with_data_fin}
use Rattle.path_core.specs.Duties.{answered, passed, stands}
use Rattle.path_core.specs.End.{PathEnd}
use Rattle.path_core.specs.DataFin.{after_pass_fin}
use Rattle.path_core.specs.Fallback.{after_fell, after_infinite, fell_duties, with_plain_ack}
use Rattle.path_core.specs.Breaking.{answered_break}
use Rattle.path_core.specs.State.{PathState, end_at, goes_on, with_agenda}
use Rattle.path_core.specs.Timer.{with_timer_settled}
use Rattle.path_core.specs.Steps.{settled}
use Rattle.path_core.specs.Treated.{Treated}
use Rattle.path_core.specs.Treating.{answered_item, item_of, item_passed, item_stands}
use Rattle.path_core.specs.Values.{Carried, values}
use Rattle.world_laws.specs.Writes.{EndView, EndWrites, Only, OnlyAt, PathView, Writes, copy_said, nothing, side_of, writes}
use Rattle.world_laws.proofs.Falls.FailedChecks.{fail_answered_so, infinite_came_so}
use Rattle.world_laws.proofs.Whole.Paths.{Mark, marks}
use Rattle.world_laws.proofs.Writes.Paths.{passes_no_more, writes_no_more}
use Rattle.world_laws.proofs.Writes.Steps.{unwritten}
use Rattle.whole_paths.specs.AgendaSteps.{Follows, is_gone, is_told}
use Rattle.whole_paths.specs.AgendaSteps.{Follows as follows}
use Rattle.whole_paths.specs.Brought.{IsToReset, comes_before_keeping}
use Rattle.whole_paths.specs.Brought.{IsToReset as resetting}
use Rattle.whole_paths.specs.Mapped.{is_mapping}
use Rattle.whole_paths.proofs.Agendas.{answered_follows, own_end}
use Rattle.whole_paths.proofs.Duties.{answered_steps, passed_steps}
use Rattle.whole_paths.proofs.Knowing.{Live, learned_so, passed_live, thing_leaves, unmapped_so}
use Rattle.whole_paths.proofs.Mapping.{answered_maps, known_moves, passed_maps}
use Rattle.whole_paths.proofs.Pieces.{is_event, own_only}
use Rattle.whole_paths.proofs.Settling.{sides}
use Rattle.whole_paths.proofs.Staying.{Rests, passed_rests}
use Rattle.whole_paths.proofs.Treating.{Before, Leads, before_answers, is_heard}
use Rattle.whole_paths.proofs.Treating.{Before as staged}
use Rattle.whole_paths.proofs.Treating.Leads.{as_they_are, one_more}
use Rattle.whole_paths.proofs.Waiting.{path_far}

-- ---- duties

abbrev pub unmapped_at : Side → Duty → Bool
unmapped_at t (duties.Step (step_duties.Unmapped s)) = same_side s t
unmapped_at t _ = false

abbrev pub has_unmapped : Side → List Duty → Bool
has_unmapped t ds = list_any (unmapped_at t) ds

-- one that treats no copy with bytes, and by which an end learns its peer's key or dies
abbrev pub is_foreign : Duty → Bool
is_foreign (duties.Ask ask_duties.JoinAgain) = true
is_foreign (duties.Ask (ask_duties.PeerKey s)) = true
is_foreign (duties.Ask (ask_duties.JoinHeard s)) = true
is_foreign (duties.Ask (ask_duties.LeaveNoted s)) = true
is_foreign (duties.Send (send_duties.BreakReset s reason)) = true
is_foreign (duties.Send (send_duties.Reset s)) = true
is_foreign (duties.Send (send_duties.ResetNoted s)) = true
is_foreign _ = false

-- one by which an end that treats a copy may learn its peer's key
abbrev pub tells_key : Duty → Bool
tells_key (duties.Ask (ask_duties.Opened s)) = true
tells_key (duties.Step (step_duties.Heard s index)) = true
tells_key _ = false

-- one that never stands where a copy maps its bytes, or that is no answer
abbrev pub is_apart : Duty → Bool
is_apart (duties.Step step_duties.Events) = true
is_apart (duties.Step (step_duties.PlainAck s)) = true
is_apart (duties.Step (step_duties.Unmapped s)) = true
is_apart (duties.Silent d) = true
is_apart _ = false

-- the payload is kept or dropped before a missing mapping counts
abbrev pub keeps_first : Side → List Duty → Bool
keeps_first t [] = false
keeps_first t (duties.Silent (silent_duties.Keep s) ∷ ds) = same_side s t || keeps_first t ds
keeps_first t (duties.Step (step_duties.Unmapped s) ∷ ds) = not (same_side s t) && keeps_first t ds
keeps_first t (d ∷ ds) = keeps_first t ds

-- behind each missing mapping that may count the end may acknowledge
abbrev pub acks_behind : Side → List Duty → Bool
acks_behind t [] = true
acks_behind t (d ∷ ds) = (not (unmapped_at t d) || marks (Mark.SaidBy t) ds) && acks_behind t ds

-- The end learns a mapping of the copy next, but for what the copy says before it; behind that it says no key.
abbrev pub Learns : Side → List Heard → List Duty → Type 0
Learns t items [] = ⊥
Learns t items (duties.Step (step_duties.Heard s index) ∷ ds) =
    (s ≡ t) × (((is_mapping (item_at index items) ≡ true) × (list_any tells_key ds ≡ false)) ⊎ ((is_mapping (item_at index items) ≡ false) × Learns t items ds))
Learns t items (d ∷ ds) = (side_of d ≡ t) × ((comes_before_keeping d ≡ true) × Learns t items ds)

-- ---- a byte

-- a mapping of the copy that names it is to be learned
pub record Told (t : Side) (n : ℕ) (ds : List Duty) (e : PathEnd) : Type 0 where
  pub mapping : KeptMapping
  pub first : first_held e.receiving.mappings ≡ Some mapping
  pub names : covers n (run_of mapping) ≡ true
  pub living : is_gone e ≡ false
  pub learns : Learns t e.treated.items ds
  pub keeps : keeps_first t ds ≡ true

-- the end has no key, so that it learned no mapping, and drops the payload, or would have
pub record Loose (t : Side) (ds : List Duty) (e : PathEnd) : Type 0 where
  pub key : e.modes.peer_key ≡ None
  pub silent : list_any tells_key ds ≡ false
  pub drops : (keeps_first t ds ≡ true) ⊎ (is_dropped t e ≡ false)

pub data Stage (t : Side) (n : ℕ) (ds : List Duty) (e : PathEnd) : Type 0 where
  below : n < e.tcp.recv.edge → Stage t n ds e
  known : IsSome (mapping_at e.receiving.mappings n) → Stage t n ds e
  told : Told t n ds e → Stage t n ds e
  loose : Loose t ds e → Stage t n ds e
  fallen : e.modes.identity ≡ true → Stage t n ds e

-- what holds of the end as long as a missing mapping may count
pub record At (t : Side) (ds : List Duty) (e : PathEnd) : Type 0 where
  pub native : list_any is_foreign ds ≡ false
  pub acks : acks_behind t ds ≡ true
  pub held : (n : ℕ) → e.treated.held_edge ≡ Some n → Stage t n ds e

abbrev pub AtIf : Side → List Duty → PathEnd → Type 0
AtIf t ds e = has_unmapped t ds ≡ true → At t ds e

known_so : (t : Side) (n : ℕ) (ds : List Duty) (e : PathEnd) → (n < e.tcp.recv.edge) ⊎ IsSome (mapping_at e.receiving.mappings n) → Stage t n ds e
known_so t n ds e x = ⊎_elim (λ low. below low) (λ some. known some) x

-- ---- agendas

behind_one : (t : Side) (d : Duty) (ds : List Duty) → has_unmapped t ds ≡ true → has_unmapped t (d ∷ ds) ≡ true
behind_one t d ds some = or_right (unmapped_at t d) (has_unmapped t ds) some

acks_less : (t : Side) (d : Duty) (ds : List Duty) → acks_behind t (d ∷ ds) ≡ true → acks_behind t ds ≡ true
acks_less t d ds is = (and_parts (not (unmapped_at t d) || marks (Mark.SaidBy t) ds) (acks_behind t ds) is).1

told_so : (P : Duty → Type 0) → ((s : Side) → P (duties.Ask (ask_duties.GoIdentity s))) → ((s : Side) → P (duties.Ask (ask_duties.AckHeard s))) → ((s : Side) → P (duties.Ask (ask_duties.FailHeard s)))
    → ((s : Side) → P (duties.Send (send_duties.SynAck s))) → ((s : Side) → P (duties.Send (send_duties.Refuse s))) → (e : Duty) → is_told e ≡ true → P e
told_so P identity ack fail syn refuse (duties.Ask (ask_duties.GoIdentity s)) named = identity s
told_so P identity ack fail syn refuse (duties.Ask (ask_duties.AckHeard s)) named = ack s
told_so P identity ack fail syn refuse (duties.Ask (ask_duties.FailHeard s)) named = fail s
told_so P identity ack fail syn refuse (duties.Send (send_duties.SynAck s)) named = syn s
told_so P identity ack fail syn refuse (duties.Send (send_duties.Refuse s)) named = refuse s
told_so P identity ack fail syn refuse _ named = absurd (true≢false (sym named))

-- what holds of an agenda holds of the next one, as long as a missing mapping may count
module _ (t s : Side) (gone : Bool) (d : Duty) (ds : List Duty) where
  follow_so : (P : List Duty → Type 0) → P (d ∷ ds) → P ds → ((e : Duty) → is_told e ≡ true → P (e ∷ ds)) → P (duties.Ask (ask_duties.Leave s) ∷ ds) → P (duties.Ask (ask_duties.Dead s) ∷ ds)
      → (es : List Duty) → has_unmapped t es ≡ true → Follows s gone d ds es → P es
  follow_so P all rest other left noted es some follows.goes_on = rest
  follow_so P all rest other left noted es some follows.again = all
  follow_so P all rest other left noted es some (follows.told treats e own both named silent) = other e named
  follow_so P all rest other left noted es some (follows.left dead) = left
  follow_so P all rest other left noted es some follows.noted = noted
  follow_so P all rest other left noted es some (follows.broken may reason) = absurd (true≢false (sym some))
  follow_so P all rest other left noted es some (follows.is_reset may reason) = absurd (true≢false (sym some))
  follow_so P all rest other left noted es some (follows.dead may dead) = absurd (true≢false (sym some))
  follow_so P all rest other left noted es some (follows.stopped may) = absurd (true≢false (sym some))
  follow_so P all rest other left noted es some (follows.over both) = absurd (true≢false (sym some))

  module _ (es : List Duty) (some : has_unmapped t es ≡ true) (after : Follows s gone d ds es) where
    follow_back : has_unmapped t (d ∷ ds) ≡ true
    follow_back = follow_so (λ xs. has_unmapped t xs ≡ true → has_unmapped t (d ∷ ds) ≡ true) (λ is. is) (behind_one t d ds)
        (told_so (λ e. has_unmapped t (e ∷ ds) ≡ true → has_unmapped t (d ∷ ds) ≡ true) (λ s. behind_one t d ds) (λ s. behind_one t d ds) (λ s. behind_one t d ds) (λ s. behind_one t d ds) (λ s. behind_one t d ds))
        (behind_one t d ds) (behind_one t d ds) es some after some

    follow_native : list_any is_foreign (d ∷ ds) ≡ false → list_any is_foreign es ≡ false
    follow_native none =
        let rest = (or_parts (is_foreign d) (list_any is_foreign ds) none).1 in
        follow_so (λ xs. list_any is_foreign xs ≡ false) none rest (told_so (λ e. list_any is_foreign (e ∷ ds) ≡ false) (λ s. rest) (λ s. rest) (λ s. rest) (λ s. rest) (λ s. rest)) rest rest es some after

    follow_silent : list_any tells_key (d ∷ ds) ≡ false → list_any tells_key es ≡ false
    follow_silent none =
        let rest = (or_parts (tells_key d) (list_any tells_key ds) none).1 in
        follow_so (λ xs. list_any tells_key xs ≡ false) none rest (told_so (λ e. list_any tells_key (e ∷ ds) ≡ false) (λ s. rest) (λ s. rest) (λ s. rest) (λ s. rest) (λ s. rest)) rest rest es some after

    follow_acks : acks_behind t (d ∷ ds) ≡ true → acks_behind t es ≡ true
    follow_acks is =
        let rest = acks_less t d ds is in
        follow_so (λ xs. acks_behind t xs ≡ true) is rest (told_so (λ e. acks_behind t (e ∷ ds) ≡ true) (λ s. rest) (λ s. rest) (λ s. rest) (λ s. rest) (λ s. rest)) rest rest es some after

    follow_keeps : keeps_first t (d ∷ ds) ≡ true → keeps_first t ds ≡ true → keeps_first t es ≡ true
    follow_keeps is rest = follow_so (λ xs. keeps_first t xs ≡ true) is rest (told_so (λ e. keeps_first t (e ∷ ds) ≡ true) (λ s. rest) (λ s. rest) (λ s. rest) (λ s. rest) (λ s. rest)) rest rest es some after

-- a duty that is no matter of keeping
keeps_less : (t : Side) (d : Duty) (ds : List Duty) → is_apart d ≡ false → keeps_first t (d ∷ ds) ≡ true → keeps_first t ds ≡ true
keeps_less t (duties.Silent d) ds apart is = absurd (true≢false apart)
keeps_less t (duties.Step (step_duties.Unmapped s)) ds apart is = absurd (true≢false apart)
keeps_less t d ds apart is = is

keeps_more : (t : Side) (d : Duty) (ds : List Duty) → comes_before_keeping d ≡ true → keeps_first t ds ≡ true → keeps_first t (d ∷ ds) ≡ true
keeps_more t (duties.Silent d) ds before is = absurd (true≢false (sym before))
keeps_more t (duties.Step (step_duties.Unmapped s)) ds before is = absurd (true≢false (sym before))
keeps_more t d ds before is = is

keeps_rest : (t : Side) (d : Duty) (ds : List Duty) → comes_before_keeping d ≡ true → keeps_first t (d ∷ ds) ≡ true → keeps_first t ds ≡ true
keeps_rest t (duties.Silent d) ds before is = absurd (true≢false (sym before))
keeps_rest t (duties.Step (step_duties.Unmapped s)) ds before is = absurd (true≢false (sym before))
keeps_rest t d ds before is = is

-- as a duty is passed by, the payload is kept or dropped by it, or later
keeps_then : (t : Side) (d : Duty) (ds : List Duty) → keeps_first t (d ∷ ds) ≡ true → (d ≡ duties.Silent (silent_duties.Keep t)) ⊎ (keeps_first t ds ≡ true)
keeps_then t (duties.Silent (silent_duties.Keep s)) ds is = ⊎_elim (λ own. inl (ap (λ u. duties.Silent (silent_duties.Keep u)) (one s t own))) (λ later. inr later) (or_cases (same_side s t) (keeps_first t ds) is)
  where
    one : (s t : Side) → same_side s t ≡ true → s ≡ t
    one A A is = refl
    one B B is = refl
    one A B is = absurd (true≢false (sym is))
    one B A is = absurd (true≢false (sym is))
keeps_then t (duties.Step (step_duties.Unmapped s)) ds is = inr (and_parts (not (same_side s t)) (keeps_first t ds) is).1
keeps_then t (duties.Silent (silent_duties.Timer s)) ds is = inr is
keeps_then t d ds is = inr is

learns_more : (t : Side) (items : List Heard) (d : Duty) (ds : List Duty) → side_of d ≡ t → comes_before_keeping d ≡ true → is_heard d ≡ false → Learns t items ds → Learns t items (d ∷ ds)
learns_more t items (duties.Step (step_duties.Heard s index)) ds own before heard learns = absurd (true≢false heard)
learns_more t items d ds own before heard learns = (own, (before, learns))

-- ---- an end by a duty that is passed

none_of : (o : Option ℕ) → is_some o ≡ false → o ≡ None
none_of None is = refl
none_of (Some key) is = absurd (true≢false is)

first_false : (a b : Bool) → (a || b) ≡ false → a ≡ false
first_false true b is = absurd (true≢false is)
first_false false b is = refl

-- what holds at one side and at its peer holds at each
either_side : (P : Side → Type 0) (t s : Side) → P s → P (peer s) → P t
either_side P t s own other = ⊎_elim (λ is. subst P is own) (λ away. subst P away other) (sides t s)

-- what is told stays to be learned
record Leaves (e f : PathEnd) : Type 0 where
  maps : f.receiving.mappings ≡ e.receiving.mappings
  items : f.treated.items ≡ e.treated.items
  gone : is_gone f ≡ is_gone e

same_leaves : (e : PathEnd) → Leaves e e
same_leaves e = record { maps = refl; items = refl; gone = refl }

item_leaves : (s : Side) (o : Option Heard) (e : PathEnd) → is_mapping o ≡ false → Leaves e (item_passed s o e)
item_leaves s None e no_map = same_leaves e
item_leaves s (Some (says.Mapping fin)) e no_map = absurd (true≢false no_map)
item_leaves s (Some (says.DataFin place)) e no_map = elim (counts e) as (λ b. Leaves e (if b then with_data_fin place e else e)) [ true ↦ record { maps = refl; items = refl; gone = refl } | false ↦ same_leaves e ]
item_leaves s (Some _) e no_map = record { maps = refl; items = refl; gone = refl }

told_on : (t : Side) (n : ℕ) (ds es : List Duty) (e f : PathEnd) → Leaves e f → (x : Told t n ds e) → Learns t e.treated.items es → keeps_first t es ≡ true → Told t n es f
told_on t n ds es e f leaves x learns keeps = record {
  mapping = x.mapping;
  first = ap first_held leaves.maps ∙ x.first;
  names = x.names;
  living = leaves.gone ∙ x.living;
  learns = subst (λ items. Learns t items es) (sym leaves.items) learns;
  keeps = keeps;
}

item_held : (s : Side) (o : Option Heard) (e : PathEnd) → (item_passed s o e).treated.held_edge ≡ e.treated.held_edge
item_held s None e = refl
item_held s (Some (says.Mapping fin)) e = elim (counts e) as (λ b. (if b then with_learned e else with_skipped e).treated.held_edge ≡ e.treated.held_edge) [ true ↦ refl | false ↦ refl ]
item_held s (Some (says.DataFin place)) e = elim (counts e) as (λ b. (if b then with_data_fin place e else e).treated.held_edge ≡ e.treated.held_edge) [ true ↦ refl | false ↦ refl ]
item_held s (Some _) e = refl

-- whether an end has the peer's key stays, and whether it drops a payload
record Dull (t : Side) (e f : PathEnd) : Type 0 where
  key : f.modes.peer_key ≡ e.modes.peer_key
  clear : t ≡ B → f.modes.clear ≡ e.modes.clear
  plain : f.modes.identity ≡ e.modes.identity
  option : f.treated.has_option ≡ e.treated.has_option

rests_dull : (t : Side) (e f : PathEnd) → Rests t e f → Dull t e f
rests_dull t e f x = record { key = x.key; clear = x.clear; plain = x.plain; option = x.option }

dropped_stays : (t : Side) (e f : PathEnd) → Dull t e f → is_dropped t e ≡ false → is_dropped t f ≡ false
dropped_stays A e f x none = refl
dropped_stays B e f x none = rw (x.clear refl, x.plain, x.option) none

-- the mapping is learned, or skipped by an end without the peer's key
map_passes : (t : Side) (n : ℕ) (ds : List Duty) (o : Option Heard) (e : PathEnd) → Live e → (x : KeptMapping) → first_held e.receiving.mappings ≡ Some x → covers n (run_of x) ≡ true → is_mapping o ≡ true → list_any tells_key ds ≡ false
    → keeps_first t ds ≡ true → item_stands o e ≡ false → Stage t n ds (item_passed t o e)
map_passes t n ds None e live x first names maps silent keeps quiet = absurd (true≢false (sym maps))
map_passes t n ds (Some (says.Mapping fin)) e live x first names maps silent keeps quiet = (elim (counts e) as
    (λ b. counts e ≡ b → (b && (is_clash e || is_starting e.modes.mode)) ≡ false → Stage t n ds (if b then with_learned e else with_skipped e)) [
      | true ↦ λ has quiet. known_so t n ds (with_learned e) (learned_so n x e (with_learned e) live first names (first_false (is_clash e) (is_starting e.modes.mode) quiet) refl refl)
      | false ↦ λ none quiet. loose (record { key = none_of e.modes.peer_key none; silent = silent; drops = inl keeps })
    ]) refl quiet
map_passes t n ds (Some _) e live x first names maps silent keeps quiet = absurd (true≢false (sym maps))

-- only keeping changes whether the byte is held
abbrev is_keep : Duty → Bool
is_keep (duties.Silent (silent_duties.Keep s)) = true
is_keep _ = false

own_passed_held : (d : Duty) (p : PathState Carried) → is_keep d ≡ false → (end_at (side_of d) (passed d p)).treated.held_edge ≡ (end_at (side_of d) p).treated.held_edge
own_passed_held (duties.Ask (ask_duties.CheckFailed s)) p other =
    let d : Duty = duties.Ask (ask_duties.CheckFailed s) in
    unwritten false (end_at s p).treated.held_edge (end_at s (passed d p)).treated.held_edge refl (ap (λ (v : EndView). v.held_edge) (own_only s (writes d) p (passed d p) (passes_no_more d p)).same)
own_passed_held (duties.Step (step_duties.Heard s index)) p other =
    let e = end_at s p in ap (λ (f : PathEnd). f.treated.held_edge) (own_end s (item_passed s (item_of index e) e) p.a p.b) ∙ item_held s (item_of index e) e
own_passed_held (duties.Step (step_duties.PlainAck s)) p other = ap (λ (f : PathEnd). f.treated.held_edge) (own_end s (with_plain_ack (end_at s p)) p.a p.b)
own_passed_held (duties.Step (step_duties.Unmapped s)) p other = ap (λ (f : PathEnd). f.treated.held_edge) (own_end s (after_pieces (end_at s p)) p.a p.b)
own_passed_held (duties.Silent (silent_duties.Timer s)) p other = ap (λ (f : PathEnd). f.treated.held_edge) (own_end s (with_timer_settled p.clock (end_at s p)) p.a p.b)
own_passed_held (duties.Silent (silent_duties.Keep s)) p other = absurd (true≢false other)
own_passed_held (duties.Silent (silent_duties.PassFin s)) p other = ap (λ (f : PathEnd). f.treated.held_edge) (own_end s (after_pass_fin (end_at s p)) p.a p.b)
own_passed_held d p other = refl

-- the other end stays
other_held : (s : Side) (w : Writes) (p q : PathState Carried) → w.other ≡ nothing → OnlyAt s w p q → (end_at (peer s) q).treated.held_edge ≡ (end_at (peer s) p).treated.held_edge
other_held s w p q none x =
    let only : Only nothing (end_at (peer s) p) (end_at (peer s) q) = subst (λ v. Only v (end_at (peer s) p) (end_at (peer s) q)) none (record { same = ap (λ (v : PathView Carried). v.other) x.same }) in
    unwritten false (end_at (peer s) p).treated.held_edge (end_at (peer s) q).treated.held_edge refl (ap (λ (v : EndView). v.held_edge) only.same)

passed_other_held : (d : Duty) (p : PathState Carried) → (end_at (peer (side_of d)) (passed d p)).treated.held_edge ≡ (end_at (peer (side_of d)) p).treated.held_edge
passed_other_held (duties.Step step_duties.Events) p = refl
passed_other_held d p = other_held (side_of d) (writes d) p (passed d p) refl (passes_no_more d p)

-- where it is kept, the payload isn't dropped
kept_so : (s : Side) (e : PathEnd) (n : ℕ) → (if is_not_kept s e then None else e.treated.held_edge) ≡ Some n → (e.treated.held_edge ≡ Some n) × (is_dropped s e ≡ false)
kept_so s e n = elim (is_dropped s e) as (λ b. (if b || is_fin_passed e.tcp then None else e.treated.held_edge) ≡ Some n → (e.treated.held_edge ≡ Some n) × (b ≡ false))
    [ true ↦ λ is. absurd (true≢false (sym (ap is_some is))) | false ↦ λ is. (both (is_fin_passed e.tcp) is, refl) ]
  where
    both : (b : Bool) → (if b then None else e.treated.held_edge) ≡ Some n → e.treated.held_edge ≡ Some n
    both true is = absurd (true≢false (sym (ap is_some is)))
    both false is = is

keep_held : (s t : Side) (n : ℕ) (p : PathState Carried) → let d : Duty = duties.Silent (silent_duties.Keep s) in (end_at t (passed d p)).treated.held_edge ≡ Some n
    → ((end_at t p).treated.held_edge ≡ Some n) × (s ≡ t → is_dropped t (end_at t p) ≡ false)
keep_held A A n p is = let both = kept_so A p.a n is in (both.0, λ same. both.1)
keep_held B B n p is = let both = kept_so B p.b n is in (both.0, λ same. both.1)
keep_held A B n p is = (is, λ same. cc)
keep_held B A n p is = (is, λ same. cc)

passed_held : (t : Side) (n : ℕ) (d : Duty) (p : PathState Carried) → (end_at t (passed d p)).treated.held_edge ≡ Some n
    → ((end_at t p).treated.held_edge ≡ Some n) × (d ≡ duties.Silent (silent_duties.Keep t) → is_dropped t (end_at t p) ≡ false)
passed_held t n (duties.Silent (silent_duties.Keep s)) p is = let both = keep_held s t n p is in (both.0, λ same. both.1 (one same))
  where
    one : duties.Silent (silent_duties.Keep s) ≡ duties.Silent (silent_duties.Keep t) → s ≡ t
    one same = cc
passed_held t n d p is = (sym same ∙ is, λ keep. absurd (never d keep refl))
  where
    never : (d : Duty) → d ≡ duties.Silent (silent_duties.Keep t) → is_keep d ≡ false → ⊥
    never d keep other = true≢false (ap is_keep (sym keep) ∙ other)

    same : (end_at t (passed d p)).treated.held_edge ≡ (end_at t p).treated.held_edge
    same = either_side (λ u. (end_at u (passed d p)).treated.held_edge ≡ (end_at u p).treated.held_edge) t (side_of d) (own_passed_held d p refl) (passed_other_held d p)

-- what a duty passes that comes before keeping, unless a copy says it
before_passes : (d : Duty) (p : PathState Carried) → comes_before_keeping d ≡ true → is_heard d ≡ false → Leaves (end_at (side_of d) p) (end_at (side_of d) (passed d p))
before_passes (duties.Step (step_duties.Heard s index)) p before heard = absurd (true≢false heard)
before_passes (duties.Step (step_duties.PlainAck s)) p before heard = subst (λ f. Leaves (end_at s p) f) (sym (own_end s (with_plain_ack (end_at s p)) p.a p.b)) (record { maps = refl; items = refl; gone = refl })
before_passes (duties.Step (step_duties.Unmapped s)) p before heard = absurd (true≢false (sym before))
before_passes (duties.Ask (ask_duties.CheckFailed s)) p before heard = absurd (true≢false (sym before))
before_passes (duties.Silent d) p before heard = absurd (true≢false (sym before))
before_passes _ p before heard = record { maps = refl; items = refl; gone = refl }

-- a thing that the copy says is passed
heard_passes : (s : Side) (n index : ℕ) (ds : List Duty) (e : PathEnd) → item_stands (item_of index e) e ≡ false → Live e → Told s n (duties.Step (step_duties.Heard s index) ∷ ds) e → Stage s n ds (item_passed s (item_of index e) e)
heard_passes s n index ds e quiet live x = by x.learns.1
  where
    none_said : (b : Bool) → is_mapping (item_at index e.treated.items) ≡ false → is_mapping (if b then None else item_at index e.treated.items) ≡ false
    none_said true none = refl
    none_said false none = none

    by : ((is_mapping (item_at index e.treated.items) ≡ true) × (list_any tells_key ds ≡ false)) ⊎ ((is_mapping (item_at index e.treated.items) ≡ false) × Learns s e.treated.items ds) → Stage s n ds (item_passed s (item_of index e) e)
    by (inl maps) = (elim e.modes.identity as (λ b. e.modes.identity ≡ b → item_stands (if b then None else item_at index e.treated.items) e ≡ false → Stage s n ds (item_passed s (if b then None else item_at index e.treated.items) e))
        [ true ↦ λ plain quiet. fallen plain | false ↦ λ plain quiet. map_passes s n ds (item_at index e.treated.items) e live x.mapping x.first x.names maps.0 maps.1 x.keeps quiet ]) refl quiet
    by (inr more) = told (told_on s n (duties.Step (step_duties.Heard s index) ∷ ds) ds e (item_passed s (item_of index e) e) (item_leaves s (item_of index e) e (none_said e.modes.identity more.0)) x more.1 x.keeps)

told_passes : (t : Side) (n : ℕ) (d : Duty) (ds : List Duty) (p : PathState Carried) → stands d p ≡ false → Live (end_at t p) → Told t n (d ∷ ds) (end_at t p) → Stage t n ds (end_at t (passed d p))
told_passes t n (duties.Step (step_duties.Heard s index)) ds p quiet live x =
    let d : Duty = duties.Step (step_duties.Heard s index) in
    subst (λ u. Live (end_at u p) → Told u n (d ∷ ds) (end_at u p) → Stage u n ds (end_at u (passed d p))) x.learns.0
    (λ live x. subst (λ f. Stage s n ds f) (sym (own_end s (item_passed s (item_of index (end_at s p)) (end_at s p)) p.a p.b)) (heard_passes s n index ds (end_at s p) quiet live x)) live x
told_passes t n d ds p quiet live x = told (told_on t n (d ∷ ds) ds (end_at t p) (end_at t (passed d p))
    (subst (λ u. Leaves (end_at u p) (end_at u (passed d p))) x.learns.0 (before_passes d p x.learns.1.0 refl)) x x.learns.1.1 (keeps_rest t d ds x.learns.1.0 x.keeps))

loose_passes : (t : Side) (n : ℕ) (d : Duty) (ds : List Duty) (p : PathState Carried) → (d ≡ duties.Silent (silent_duties.Keep t) → is_dropped t (end_at t p) ≡ false) → Loose t (d ∷ ds) (end_at t p) → Loose t ds (end_at t (passed d p))
loose_passes t n d ds p kept x =
    let rests = rests_dull t (end_at t p) (end_at t (passed d p)) (passed_rests t d p) in record {
      key = rests.key ∙ x.key;
      silent = (or_parts (tells_key d) (list_any tells_key ds) x.silent).1;
      drops = ⊎_elim
          (λ keeps. ⊎_elim (λ now. inr (dropped_stays t (end_at t p) (end_at t (passed d p)) rests (kept now))) (λ later. inl later) (keeps_then t d ds keeps))
          (λ none. inr (dropped_stays t (end_at t p) (end_at t (passed d p)) rests none))
          x.drops;
    }

stage_passes : (t : Side) (n : ℕ) (d : Duty) (ds : List Duty) (p : PathState Carried) → stands d p ≡ false → Live (end_at t p) → (d ≡ duties.Silent (silent_duties.Keep t) → is_dropped t (end_at t p) ≡ false)
    → Stage t n (d ∷ ds) (end_at t p) → Stage t n ds (end_at t (passed d p))
stage_passes t n d ds p quiet live kept (below low) = let up = (path_far p (passed d p) (passed_steps d p) t).subflow.received in below (omega (arith, low, up))
stage_passes t n d ds p quiet live kept (known some) = known_so t n ds (end_at t (passed d p)) (known_moves n (end_at t p) (end_at t (passed d p)) (passed_maps t d p) some)
stage_passes t n d ds p quiet live kept (told x) = told_passes t n d ds p quiet live x
stage_passes t n d ds p quiet live kept (loose x) = loose (loose_passes t n d ds p kept x)
stage_passes t n d ds p quiet live kept (fallen is) = fallen ((passed_rests t d p).plain ∙ is)

passes_at : (t : Side) (d : Duty) (ds : List Duty) (p : PathState Carried) → stands d p ≡ false → Live (end_at t p) → AtIf t (d ∷ ds) (end_at t p) → AtIf t ds (end_at t (passed d p))
passes_at t d ds p quiet live h some =
    let at = h (behind_one t d ds some) in record {
      native = (or_parts (is_foreign d) (list_any is_foreign ds) at.native).1;
      acks = acks_less t d ds at.acks;
      held = λ n is. let was = passed_held t n d p is in stage_passes t n d ds p quiet live was.1 (at.held n was.0);
    }

-- ---- an end by a duty that is answered

-- the byte at the edge stays held, and an end living
record Keeps (e f : PathEnd) : Type 0 where
  held : f.treated.held_edge ≡ e.treated.held_edge
  gone : is_gone f ≡ is_gone e

heard_keeps : (s : Side) (o : Option Heard) (r : Reply) (p : PathState Carried) → is_clash (end_at s p) ≡ false → Keeps (end_at s p) (end_at s (answered_item values s o r p))
heard_keeps s None r p agrees = record { held = refl; gone = refl }
heard_keeps s (Some (says.Mapping fin)) r p agrees =
    let e = end_at s p in let f = with_learned (after_fell events.MappingHeard r e) in
    subst (λ b. Keeps e (end_at s (if b then answered_break values s 1 r p else goes_on s f (fell_duties s r p) p))) (sym agrees)
    (record { held = ap (λ (f : PathEnd). f.treated.held_edge) (own_end s f p.a p.b); gone = ap (λ f. is_gone f) (own_end s f p.a p.b) })
heard_keeps s (Some (says.DataAck next window)) r p agrees = record { held = ap (λ (f : PathEnd). f.treated.held_edge) (own_end s _ p.a p.b); gone = ap (λ f. is_gone f) (own_end s _ p.a p.b) }
heard_keeps s (Some (says.DataFin place)) r p agrees = record { held = ap (λ (f : PathEnd). f.treated.held_edge) (own_end s _ p.a p.b); gone = ap (λ f. is_gone f) (own_end s _ p.a p.b) }
heard_keeps s (Some (says.InfiniteMapping place position)) r p agrees =
    let e = end_at s p in
    subst (λ f. Keeps e f) (sym (own_end s (after_infinite place position r e) p.a p.b)) (infinite_came_so (λ f. Keeps e f) place position r e (λ other. record { held = refl; gone = refl }))
heard_keeps s (Some (says.Keys own other)) r p agrees = record { held = ap (λ (f : PathEnd). f.treated.held_edge) (own_end s _ p.a p.b); gone = ap (λ f. is_gone f) (own_end s _ p.a p.b) }
heard_keeps s (Some (says.Notice notice)) r p agrees = record { held = ap (λ (f : PathEnd). f.treated.held_edge) (own_end s _ p.a p.b); gone = ap (λ f. is_gone f) (own_end s _ p.a p.b) }
heard_keeps s (Some says.Fail) r p agrees = fail_answered_so (λ q. Keeps (end_at s p) (end_at s q)) s r p
    (record { held = ap (λ (f : PathEnd). f.treated.held_edge) (own_end s _ p.a p.b); gone = ap (λ f. is_gone f) (own_end s _ p.a p.b) })
    (record { held = ap (λ (f : PathEnd). f.treated.held_edge) (own_end s _ p.a p.b); gone = ap (λ f. is_gone f) (own_end s _ p.a p.b) })
heard_keeps s (Some _) r p agrees = record { held = refl; gone = refl }

held_unwritten : (d : Duty) → is_foreign d ≡ false → is_apart d ≡ false → is_heard d ≡ false → (writes d).own.held_edge ≡ false
held_unwritten (duties.Ask ask_duties.JoinAgain) native apart heard = absurd (true≢false native)
held_unwritten (duties.Ask (ask_duties.LeaveNoted s)) native apart heard = absurd (true≢false native)
held_unwritten (duties.Send (send_duties.BreakReset s reason)) native apart heard = absurd (true≢false native)
held_unwritten (duties.Send (send_duties.Reset s)) native apart heard = absurd (true≢false native)
held_unwritten (duties.Send (send_duties.ResetNoted s)) native apart heard = absurd (true≢false native)
held_unwritten (duties.Step step_duties.Events) native apart heard = absurd (true≢false apart)
held_unwritten (duties.Step (step_duties.PlainAck s)) native apart heard = absurd (true≢false apart)
held_unwritten (duties.Step (step_duties.Unmapped s)) native apart heard = absurd (true≢false apart)
held_unwritten (duties.Silent d) native apart heard = absurd (true≢false apart)
held_unwritten (duties.Step (step_duties.Heard s index)) native apart heard = absurd (true≢false heard)
held_unwritten _ native apart heard = refl

-- none that comes before keeping lets the end die, but what breaks it
phase_unwritten : (d : Duty) → is_apart d ≡ false → is_heard d ≡ false → (comes_before_keeping d && (writes d).own.phase) ≡ false
phase_unwritten (duties.Step (step_duties.PlainAck s)) apart heard = absurd (true≢false apart)
phase_unwritten (duties.Step (step_duties.Heard s index)) apart heard = absurd (true≢false heard)
phase_unwritten (duties.Ask ask_duties.JoinAgain) apart heard = refl
phase_unwritten (duties.Send d) apart heard = refl
phase_unwritten (duties.Silent d) apart heard = refl
phase_unwritten _ apart heard = refl

abbrev is_falling : Duty → Bool
is_falling (duties.Ask (ask_duties.GoIdentity s)) = true
is_falling _ = false

dull_unwritten : (d : Duty) → is_foreign d ≡ false → is_apart d ≡ false → tells_key d ≡ false → is_falling d ≡ false
    → ((writes d).own.peer_key || ((writes d).own.clear || ((writes d).own.identity || (writes d).own.copy))) ≡ false
dull_unwritten (duties.Ask ask_duties.JoinAgain) native apart silent falls = absurd (true≢false native)
dull_unwritten (duties.Ask (ask_duties.PeerKey s)) native apart silent falls = absurd (true≢false native)
dull_unwritten (duties.Ask (ask_duties.JoinHeard s)) native apart silent falls = absurd (true≢false native)
dull_unwritten (duties.Ask (ask_duties.LeaveNoted s)) native apart silent falls = absurd (true≢false native)
dull_unwritten (duties.Ask (ask_duties.Opened s)) native apart silent falls = absurd (true≢false silent)
dull_unwritten (duties.Ask (ask_duties.GoIdentity s)) native apart silent falls = absurd (true≢false falls)
dull_unwritten (duties.Send (send_duties.BreakReset s reason)) native apart silent falls = absurd (true≢false native)
dull_unwritten (duties.Send (send_duties.Reset s)) native apart silent falls = absurd (true≢false native)
dull_unwritten (duties.Send (send_duties.ResetNoted s)) native apart silent falls = absurd (true≢false native)
dull_unwritten (duties.Step step_duties.Events) native apart silent falls = absurd (true≢false apart)
dull_unwritten (duties.Step (step_duties.PlainAck s)) native apart silent falls = absurd (true≢false apart)
dull_unwritten (duties.Step (step_duties.Unmapped s)) native apart silent falls = absurd (true≢false apart)
dull_unwritten (duties.Step (step_duties.Heard s index)) native apart silent falls = absurd (true≢false silent)
dull_unwritten (duties.Silent d) native apart silent falls = absurd (true≢false apart)
dull_unwritten _ native apart silent falls = refl

dull_only : (t : Side) (w : EndWrites) (e f : PathEnd) → (w.peer_key || (w.clear || (w.identity || w.copy))) ≡ false → Only w e f → Dull t e f
dull_only t w e f none x =
    let one = or_parts w.peer_key (w.clear || (w.identity || w.copy)) none in
    let two = or_parts w.clear (w.identity || w.copy) one.1 in
    let three = or_parts w.identity w.copy two.1 in record {
      key = unwritten w.peer_key e.modes.peer_key f.modes.peer_key one.0 (ap (λ (v : EndView). v.peer_key) x.same);
      clear = λ same. unwritten w.clear e.modes.clear f.modes.clear two.0 (ap (λ (v : EndView). v.clear) x.same);
      plain = unwritten w.identity e.modes.identity f.modes.identity three.0 (ap (λ (v : EndView). v.identity) x.same);
      option = ap (λ (y : Treated). y.has_option) (unwritten w.copy (copy_said e.treated) (copy_said f.treated) three.1 (ap (λ (v : EndView). v.copy) x.same));
    }

other_only : (s : Side) (w : Writes) (p q : PathState Carried) → w.other ≡ nothing → OnlyAt s w p q → Only nothing (end_at (peer s) p) (end_at (peer s) q)
other_only s w p q none x = subst (λ v. Only v (end_at (peer s) p) (end_at (peer s) q)) none (record { same = ap (λ (v : PathView Carried). v.other) x.same })

never_unmapped : (t : Side) (es : List Duty) → IsToReset t es → has_unmapped t es ≡ true → ⊥
never_unmapped t es (resetting.broken reason is) some = true≢false (sym some ∙ ap (has_unmapped t) is)
never_unmapped t es (resetting.is_reset reason is) some = true≢false (sym some ∙ ap (has_unmapped t) is)
never_unmapped t es (resetting.stopped is) some = true≢false (sym some ∙ ap (has_unmapped t) is)

-- the mapping stays to be learned by what comes before it
told_before : (t : Side) (n : ℕ) (d : Duty) (ds es : List Duty) (e f : PathEnd) → Before t ds e f es → f.receiving.mappings ≡ e.receiving.mappings → is_gone f ≡ is_gone e → (x : Told t n (d ∷ ds) e) → Learns t e.treated.items ds
    → keeps_first t ds ≡ true → has_unmapped t es ≡ true → Stage t n es f
told_before t n d ds es e f (staged.on leaves leads) maps gone x learns keeps some = let both = by es leads in told (told_on t n (d ∷ ds) es e f (record { maps = maps; items = leaves.items; gone = gone }) x both.0 both.1)
  where
    by : (es : List Duty) → Leads t ds es → Learns t e.treated.items es × (keeps_first t es ≡ true)
    by es as_they_are = (learns, keeps)
    by es (one_more d own before heard) = (learns_more t e.treated.items d ds own before heard learns, keeps_more t d ds before keeps)
told_before t n d ds es e f (staged.resets_then is) maps gone x learns keeps some = absurd (never_unmapped t es is some)
told_before t n d ds es e f (staged.dies dead) maps gone x learns keeps some = absurd (true≢false (sym dead ∙ gone ∙ x.living))

-- as this duty is answered at an end that goes by mappings, none of which clashes
module _ (d : Duty) (ds : List Duty) (r : Reply) (p : PathState Carried) where
  abbrev x : PathState Carried
  x = with_agenda (d ∷ ds) p

  abbrev q : PathState Carried
  q = answered values d r x

map_answers : (s : Side) (n index : ℕ) (ds : List Duty) (o : Option Heard) (r : Reply) (p : PathState Carried) → let e = end_at s p in let q = answered_item values s o r (x (duties.Step (step_duties.Heard s index)) ds r p) in
    Live e → is_clash e ≡ false → is_mapping o ≡ true → (m : KeptMapping) → first_held e.receiving.mappings ≡ Some m → covers n (run_of m) ≡ true → Stage s n q.agenda (end_at s q)
map_answers s n index ds None r p live agrees maps m first names = absurd (true≢false (sym maps))
map_answers s n index ds (Some (says.Mapping fin)) r p live agrees maps m first names =
    let e = end_at s p in let y = x (duties.Step (step_duties.Heard s index)) ds r p in let f = with_learned (after_fell events.MappingHeard r e) in
    subst (λ b. let q = (if b then answered_break values s 1 r y else goes_on s f (fell_duties s r y) y) in Stage s n q.agenda (end_at s q)) (sym agrees)
    (subst (λ g. Stage s n (fell_duties s r y) g) (sym (own_end s f p.a p.b)) (known_so s n (fell_duties s r y) f (learned_so n m e f live first names agrees refl refl)))
map_answers s n index ds (Some _) r p live agrees maps m first names = absurd (true≢false (sym maps))

heard_answers : (s : Side) (n index : ℕ) (ds : List Duty) (r : Reply) (p : PathState Carried) → let d = duties.Step (step_duties.Heard s index) in let e = end_at s p in let z = q d ds r p in
    Live e → is_clash e ≡ false → e.modes.identity ≡ false → Told s n (d ∷ ds) e → has_unmapped s z.agenda ≡ true → Stage s n z.agenda (end_at s z)
heard_answers s n index ds r p live agrees plain y some = by y.learns.1
  where
    d : Duty
    d = duties.Step (step_duties.Heard s index)

    said : item_of index (end_at s p) ≡ item_at index (end_at s p).treated.items
    said = ap (λ b. if b then None else item_at index (end_at s p).treated.items) plain

    by : ((is_mapping (item_at index (end_at s p).treated.items) ≡ true) × (list_any tells_key ds ≡ false)) ⊎ ((is_mapping (item_at index (end_at s p).treated.items) ≡ false) × Learns s (end_at s p).treated.items ds)
        → Stage s n (q d ds r p).agenda (end_at s (q d ds r p))
    by (inl maps) = map_answers s n index ds (item_of index (end_at s p)) r p live agrees (ap is_mapping said ∙ maps.0) y.mapping y.first y.names
    by (inr more) = told_before s n d ds (q d ds r p).agenda (end_at s p) (end_at s (q d ds r p)) (before_answers values d ds r p refl)
        (thing_leaves values s (item_of index (end_at s p)) r (x d ds r p) (ap is_mapping said ∙ more.0))
        (heard_keeps s (item_of index (end_at s p)) r (x d ds r p) agrees).gone y more.1 y.keeps some

told_answers : (t : Side) (n : ℕ) (d : Duty) (ds : List Duty) (r : Reply) (p : PathState Carried) → let z = q d ds r p in is_apart d ≡ false → Live (end_at t p) → is_clash (end_at t p) ≡ false → (end_at t p).modes.identity ≡ false
    → Told t n (d ∷ ds) (end_at t p) → has_unmapped t z.agenda ≡ true → Stage t n z.agenda (end_at t z)
told_answers t n (duties.Step (step_duties.Heard s index)) ds r p apart live agrees plain y some =
    let d : Duty = duties.Step (step_duties.Heard s index) in let z = q d ds r p in
    subst (λ u. Live (end_at u p) → is_clash (end_at u p) ≡ false → (end_at u p).modes.identity ≡ false → Told u n (d ∷ ds) (end_at u p) → has_unmapped u z.agenda ≡ true → Stage u n z.agenda (end_at u z)) y.learns.0
    (λ live agrees plain y some. heard_answers s n index ds r p live agrees plain y some) live agrees plain y some
told_answers t n d ds r p apart live agrees plain y some =
    let z = q d ds r p in let before = y.learns.1.0 in
    told_before t n d ds z.agenda (end_at t p) (end_at t z) (subst (λ u. Before u ds (end_at u p) (end_at u z) z.agenda) y.learns.0 (before_answers values d ds r p before))
    (subst (λ u. (end_at u z).receiving.mappings ≡ (end_at u p).receiving.mappings) y.learns.0 (unmapped_so values d r (x d ds r p) before refl))
    (subst (λ u. is_gone (end_at u z) ≡ is_gone (end_at u p)) y.learns.0
    (ap is_dead (unwritten (writes d).own.phase (end_at (side_of d) p).tcp.state (end_at (side_of d) z).tcp.state (ap (λ b. b && (writes d).own.phase) (sym before) ∙ phase_unwritten d apart refl)
    (ap (λ (v : EndView). v.phase) (own_only (side_of d) (writes d) (x d ds r p) z (writes_no_more values d r (x d ds r p))).same))))
    y y.learns.1.1 (keeps_rest t d ds before y.keeps) some

-- the end that has no key still has none
loose_on : (t : Side) (n : ℕ) (d : Duty) (ds es : List Duty) (s : Side) (gone : Bool) (e f : PathEnd) → is_apart d ≡ false → Dull t e f → has_unmapped t es ≡ true → Follows s gone d ds es → Loose t (d ∷ ds) e → Stage t n es f
loose_on t n d ds es s gone e f apart dull some after y = loose (record {
  key = dull.key ∙ y.key;
  silent = follow_silent t s gone d ds es some after y.silent;
  drops = ⊎_elim (λ keeps. inl (follow_keeps t s gone d ds es some after keeps (keeps_less t d ds apart keeps))) (λ none. inr (dropped_stays t e f dull none)) y.drops;
})

dull_answers : (t : Side) (d : Duty) (ds : List Duty) (r : Reply) (p : PathState Carried) → is_event d ≡ false → is_foreign d ≡ false → is_apart d ≡ false → tells_key d ≡ false
    → ((end_at t (q d ds r p)).modes.identity ≡ true) ⊎ Dull t (end_at t p) (end_at t (q d ds r p))
dull_answers t d ds r p other native apart silent =
    either_side (λ u. ((end_at u (q d ds r p)).modes.identity ≡ true) ⊎ Dull u (end_at u p) (end_at u (q d ds r p))) t (side_of d) (own_dull d native apart silent) (inr (other_dull d other))
  where
    other_dull : (d : Duty) → is_event d ≡ false → Dull (peer (side_of d)) (end_at (peer (side_of d)) p) (end_at (peer (side_of d)) (q d ds r p))
    other_dull (duties.Step step_duties.Events) other = absurd (true≢false other)
    other_dull d other = dull_only (peer (side_of d)) nothing (end_at (peer (side_of d)) p) (end_at (peer (side_of d)) (q d ds r p)) refl (other_only (side_of d) (writes d) (x d ds r p) (q d ds r p) refl (writes_no_more values d r (x d ds r p)))

    own_dull : (d : Duty) → is_foreign d ≡ false → is_apart d ≡ false → tells_key d ≡ false → ((end_at (side_of d) (q d ds r p)).modes.identity ≡ true) ⊎ Dull (side_of d) (end_at (side_of d) p) (end_at (side_of d) (q d ds r p))
    own_dull (duties.Ask (ask_duties.GoIdentity s)) native apart silent = inl (ap (λ (f : PathEnd). f.modes.identity) (own_end s _ p.a p.b))
    own_dull d native apart silent = inr (dull_only (side_of d) (writes d).own (end_at (side_of d) p) (end_at (side_of d) (q d ds r p)) (dull_unwritten d native apart silent refl) (own_only (side_of d) (writes d) (x d ds r p) (q d ds r p) (writes_no_more values d r (x d ds r p))))

answered_held : (t : Side) (d : Duty) (ds : List Duty) (r : Reply) (p : PathState Carried) → is_event d ≡ false → is_foreign d ≡ false → is_apart d ≡ false → ((s : Side) → is_clash (end_at s p) ≡ false)
    → (end_at t (q d ds r p)).treated.held_edge ≡ (end_at t p).treated.held_edge
answered_held t d ds r p other native apart agrees =
    either_side (λ u. (end_at u (q d ds r p)).treated.held_edge ≡ (end_at u p).treated.held_edge) t (side_of d) (own_held d native apart) (away_held d other)
  where
    away_held : (d : Duty) → is_event d ≡ false → (end_at (peer (side_of d)) (q d ds r p)).treated.held_edge ≡ (end_at (peer (side_of d)) p).treated.held_edge
    away_held (duties.Step step_duties.Events) other = absurd (true≢false other)
    away_held d other = other_held (side_of d) (writes d) (x d ds r p) (q d ds r p) refl (writes_no_more values d r (x d ds r p))

    own_held : (d : Duty) → is_foreign d ≡ false → is_apart d ≡ false → (end_at (side_of d) (q d ds r p)).treated.held_edge ≡ (end_at (side_of d) p).treated.held_edge
    own_held (duties.Step (step_duties.Heard s index)) native apart = (heard_keeps s (item_of index (end_at s p)) r (x (duties.Step (step_duties.Heard s index)) ds r p) (agrees s)).held
    own_held d native apart = unwritten (writes d).own.held_edge (end_at (side_of d) p).treated.held_edge (end_at (side_of d) (q d ds r p)).treated.held_edge (held_unwritten d native apart refl)
        (ap (λ (v : EndView). v.held_edge) (own_only (side_of d) (writes d) (x d ds r p) (q d ds r p) (writes_no_more values d r (x d ds r p))).same)

-- a duty that stands at path 0, but an event
pub answered_at : (t : Side) (d : Duty) (ds : List Duty) (r : Reply) (p : PathState Carried) → is_apart d ≡ false → ((s : Side) → Live (end_at s p)) → ((s : Side) → is_clash (end_at s p) ≡ false) → ((s : Side) → (end_at s p).modes.identity ≡ false)
    → AtIf t (d ∷ ds) (end_at t p) → AtIf t (q d ds r p).agenda (end_at t (q d ds r p))
answered_at t (duties.Step step_duties.Events) ds r p apart live agrees plain h some = absurd (true≢false apart)
answered_at t d ds r p apart live agrees plain h some = record {
  native = follow_native t (side_of d) _ d ds z.agenda some after at.native;
  acks = follow_acks t (side_of d) _ d ds z.agenda some after at.acks;
  held = λ n is. on n (at.held n (sym (answered_held t d ds r p refl native apart agrees) ∙ is));
}
  where
    z : PathState Carried
    z = q d ds r p

    after : Follows (side_of d) (is_gone (end_at (side_of d) z)) d ds z.agenda
    after = answered_follows values d ds r p

    at : At t (d ∷ ds) (end_at t p)
    at = h (follow_back t (side_of d) _ d ds z.agenda some after)

    native : is_foreign d ≡ false
    native = (or_parts (is_foreign d) (list_any is_foreign ds) at.native).0

    on : (n : ℕ) → Stage t n (d ∷ ds) (end_at t p) → Stage t n z.agenda (end_at t z)
    on n (below low) = let up = (path_far (x d ds r p) z (answered_steps values d r (x d ds r p)) t).subflow.received in below (omega (arith, low, up))
    on n (known there) = known_so t n z.agenda (end_at t z) (known_moves n (end_at t p) (end_at t z) (answered_maps values t d r (x d ds r p) refl) there)
    on n (told y) = told_answers t n d ds r p apart (live t) (agrees t) (plain t) y some
    on n (loose y) = ⊎_elim (λ falls. fallen falls) (λ dull. loose_on t n d ds z.agenda (side_of d) _ (end_at t p) (end_at t z) apart dull some after y)
        (dull_answers t d ds r p refl native apart (or_parts (tells_key d) (list_any tells_key ds) y.silent).0)
    on n (fallen is) = absurd (both_ways (end_at t p).modes.identity (plain t) is)

-- ---- duties that are passed, one after the other

pub settled_at : (ds : List Duty) (p : PathState Carried) → ((t : Side) → Live (end_at t p)) → ((t : Side) → AtIf t ds (end_at t p)) → (t : Side) → AtIf t (settled ds p).agenda (end_at t (settled ds p))
settled_at [] p live h t = h t
settled_at (d ∷ ds) p live h t = by (stands d p) refl (λ is. settled_at ds (passed d p) (λ t. passed_live t d p (live t)) (λ t. passes_at t d ds p is (live t) (h t)) t)
  where
    by : (b : Bool) → stands d p ≡ b → (stands d p ≡ false → let q = settled ds (passed d p) in AtIf t q.agenda (end_at t q)) → let q = (if b then with_agenda (d ∷ ds) p else settled ds (passed d p)) in AtIf t q.agenda (end_at t q)
    by true is rest = h t
    by false is rest = rest is
