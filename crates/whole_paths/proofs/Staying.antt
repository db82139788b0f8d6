-- Where an octet that came to an end is, by each duty that is passed.
use Rattle.std.proofs.Common.{◌≡◌, refl, sym, subst, ap, ◌∙◌, ◌⊎◌, inl, inr, ⊎_elim, ℕ, zero, suc, ◌+◌, ◌-◌, ◌<◌, ◌≤◌, arith, Bool, true, false, true≢false, not, ◌&&◌, ◌||◌, if◌then◌else◌, Option, Some, None, is_some, List, [], ◌∷◌, drop, length}
use Rattle.std.proofs.Math.Bool.{or-false}
use Rattle.std.proofs.lemmas.Bool.{and_parts, cases_lt, ltb-true, lt-ltb, le-ltb, not-true}
use Rattle.sides.specs.declared.side.Side.{Side}
use Rattle.sides.specs.declared.side.Side.TheVariants.{A, B}
use Rattle.sides.specs.Side.{peer}
use Rattle.control_book.specs.declared.call.ControlReply.TheVariants as control_replies
use Rattle.dss_mapping.specs.Mappings.{mapping_at}
use Rattle.dss_mapping.specs.declared.kept.KeptMapping.{KeptMapping}
use Rattle.fallback_state.specs.Modes.{reads_mappings}
use Rattle.fallback_state.specs.declared.fall.Event.TheVariants as events
use Rattle.fallback_state.specs.declared.fall.Verdict.TheVariants as verdicts
use Rattle.subflow_recv.specs.Receiving.{Receiving, filled, place_at, octet_at, after_advance, without_held, after_hold, after_keep_held, after_forget_from}
use Rattle.subflow_recv.proofs.ByPosition.{kept_octets_stay_lem}
use Rattle.subflow_tcp.specs.Closing.{is_fin_next, after_passing_fin}
use Rattle.subflow_tcp.specs.State.{EndState, is_behind, is_fin_passed}
use Rattle.subflow_tcp.specs.Taking.{after_keeping_held, after_dropping_held}
use Rattle.actor_desk.specs.declared.ask.Reply.{Reply}
use Rattle.actor_desk.specs.declared.ask.Reply.TheVariants as replies
use Rattle.actor_desk.specs.Words.{pick}
use Rattle.path_agenda.specs.Agenda.{heard_and, payload_came, copy_came}
use Rattle.path_agenda.specs.declared.duty.Duty.{Duty}
use Rattle.path_agenda.specs.declared.duty.Duty.TheVariants as duties
use Rattle.path_agenda.specs.declared.duty.AskDuty.TheVariants as ask_duties
use Rattle.path_agenda.specs.declared.duty.SilentDuty.TheVariants as silent_duties
use Rattle.path_agenda.specs.declared.duty.StepDuty.TheVariants as step_duties
use Rattle.path_agenda.specs.declared.heard.Heard.{Heard}
use Rattle.path_agenda.specs.declared.heard.Heard.TheVariants as says
use Rattle.path_store.specs.InfiniteMappings.{covers}
use Rattle.path_store.specs.Passing.{is_there, has_its_sum}
use Rattle.path_core.specs.Choices.{is_side_a}
use Rattle.path_core.specs.DataFin.{after_pass_fin}
use Rattle.path_core.specs.Deliver.{mapping_here, is_whole, is_right, is_wrong, failing_by, forgotten_by, after_check, after_pieces, is_dropped, after_keep}
use Rattle.path_core.specs.DssIn.{counts, with_learned, with_skipped, with_data_fin}
use Rattle.path_core.specs.Duties.{stands, passed}
use Rattle.path_core.specs.End.{PathEnd}
use Rattle.path_core.specs.Fallback.{after_fell, with_failure, with_plain_ack}
use Rattle.path_core.specs.Profile.{Profile}
use Rattle.path_core.specs.State.{PathState, end_at, with_agenda}
use Rattle.path_core.specs.Steps.{settled}
use Rattle.path_core.specs.Timer.{with_timer_settled}
use Rattle.path_core.specs.Treating.{item_of, item_passed}
use Rattle.world_laws.specs.Writes.{EndView, Writes, PathView, Only, OnlyAt, nothing, writes, side_of, copy_said}
use Rattle.world_laws.proofs.Falls.FailedChecks.{forgets_so}
use Rattle.world_laws.proofs.Writes.Paths.{passes_no_more}
use Rattle.world_laws.proofs.Writes.Steps.{unwritten}
use Rattle.whole_paths.specs.AgendaSteps.{is_gone}
use Rattle.whole_paths.specs.Brought.{IsKept, comes_before_keeping, KeepsNext, IsToKeep, IsToReset, IsUnsure, StaysThere}
use Rattle.whole_paths.specs.Brought.{IsThere as there}
use Rattle.whole_paths.specs.Brought.{StaysThere as stay}
use Rattle.whole_paths.specs.Brought.{IsToReset as resetting}
use Rattle.whole_paths.proofs.Agendas.{own_end}
use Rattle.whole_paths.proofs.Duties.{passed_steps}
use Rattle.whole_paths.proofs.Moving.{Moves, item_recv, passed_moves, passed_other_recv}
use Rattle.whole_paths.proofs.Moving.{Moves as move}
use Rattle.whole_paths.proofs.Settling.{sides}
use Rattle.whole_paths.proofs.Waiting.{gone_stays, path_far}

-- ---- octets by position

pub place_drop : (n k i : ℕ) (places : List (Option ℕ)) → i ≡ n + k → place_at k (drop n places) ≡ place_at i places
place_drop zero k i places is = ap (λ j. place_at j places) (omega (arith, is))
place_drop (suc n) k i [] is = refl
place_drop (suc n) k zero (place ∷ places) is = absurd (omega (arith, is))
place_drop (suc n) k (suc i) (place ∷ places) is = place_drop n k i places (omega (arith, is))

pub inside : (pos : ℕ) (v : Receiving) → v.edge ≤ pos → octet_at pos v ≡ place_at (pos - v.edge) v.places
inside pos v high = ap (λ b. if b then None else place_at (pos - v.edge) v.places) (le-ltb pos v.edge high)

-- RCV.NXT moves over a part of what is kept
advanced_at : (pos octet to : ℕ) (v : Receiving) → v.edge ≤ to → to ≤ pos → octet_at pos v ≡ Some octet → octet_at pos (after_advance to v) ≡ Some octet
advanced_at pos octet to v up high is =
    inside pos (after_advance to v) high ∙ place_drop (to - v.edge) (pos - to) (pos - v.edge) v.places (omega (arith, up, high)) ∙ sym (inside pos v (omega (arith, up, high))) ∙ is

-- ---- an octet at an end

-- RCV.NXT is past it, or it is kept; or the edge is past the peer's FIN, or the end is dead
pub data Lies (pos octet : ℕ) (f : PathEnd) : Type 0 where
  below : pos < f.tcp.recv.edge → Lies pos octet f
  at_place : IsKept pos octet f.tcp.recv → Lies pos octet f
  past_fin : is_fin_passed f.tcp ≡ true → Lies pos octet f
  at_dead : is_gone f ≡ true → Lies pos octet f

pub same_kept : (pos octet : ℕ) (v w : Receiving) → w ≡ v → IsKept pos octet v → IsKept pos octet w
same_kept pos octet v w is h = subst (IsKept pos octet) (sym is) h

pub kept_moves : (pos octet : ℕ) (e f : PathEnd) → IsKept pos octet e.tcp.recv → Moves e f → Lies pos octet f
kept_moves pos octet e f h (move.same is) = at_place (same_kept pos octet e.tcp.recv f.tcp.recv is h)
kept_moves pos octet e f h (move.moved to up is) = ⊎_elim
    (λ low. below (subst (λ (v : Receiving). pos < v.edge) (sym is) low))
    (λ high. (let at = advanced_at pos octet to e.tcp.recv up high h.now in at_place (same_kept pos octet (after_advance to e.tcp.recv) f.tcp.recv is (record { now = at; later = at }))))
    (cases_lt pos to)
kept_moves pos octet e f h (move.holds at payload is) =
    at_place (same_kept pos octet (after_hold at payload e.tcp.recv) f.tcp.recv is (record { now = h.now; later = kept_octets_stay_lem ((at, payload) ∷ []) e.tcp.recv pos octet h.now }))
kept_moves pos octet e f h (move.over is) = past_fin is
kept_moves pos octet e f h (move.dead is) = at_dead is

-- the payload that is held is kept or dropped
kept_keep : (pos octet : ℕ) (b : Bool) (t : EndState) → IsKept pos octet t.recv → IsKept pos octet (if b then after_dropping_held t else after_keeping_held t).recv
kept_keep pos octet true t h = record { now = h.now; later = h.now }
kept_keep pos octet false t h = elim (is_fin_passed t) as (λ b. IsKept pos octet (if b then without_held t.recv else after_keep_held t.recv))
    [ true ↦ record { now = h.now; later = h.now } | false ↦ record { now = h.later; later = h.later } ]

-- ---- an octet at an end behind which these duties stand

abbrev pub Soon : Side → List Duty → Type 0
Soon s ds = KeepsNext s ds ⊎ IsToKeep s ds

pub data Now (s : Side) (pos octet : ℕ) (ds : List Duty) (c : Profile) (e : PathEnd) : Type 0 where
  lies : Lies pos octet e → Now s pos octet ds c e
  in_hand : octet_at pos (after_keep_held e.tcp.recv) ≡ Some octet → Soon s ds → Now s pos octet ds c e
  resets_next : IsToReset s ds → Now s pos octet ds c e
  untold : c.spelling.checksums ≡ true → reads_mappings e.modes.mode ≡ false → e.modes.identity ≡ false → Now s pos octet ds c e
  lets_go : IsUnsure s e → Now s pos octet ds c e

pub then_soon : (s : Side) (d : Duty) (ds : List Duty) → side_of d ≡ s → comes_before_keeping d ≡ true → Soon s ds → Soon s (d ∷ ds)
then_soon s d ds own before soon = inr (own, (before, soon))

heard_soon : (s : Side) (from count : ℕ) (ds : List Duty) → Soon s ds → Soon s (heard_and s from count ds)
heard_soon s from zero ds soon = soon
heard_soon s from (suc count) ds soon = then_soon s (duties.Step (step_duties.Heard s from)) (heard_and s (from + 1) count ds) refl refl (heard_soon s (from + 1) count ds soon)

-- what a copy carries is kept once it is treated what the copy says
pub copy_soon : (s : Side) (count : ℕ) → Soon s (copy_came s count)
copy_soon s count =
    let keep : Soon s (drop 3 (payload_came s)) = inl refl in
    let third : Soon s (drop 2 (payload_came s)) = then_soon s (duties.Ask (ask_duties.PlainData s)) (drop 3 (payload_came s)) refl refl keep in
    let second : Soon s (drop 1 (payload_came s)) = then_soon s (duties.Ask (ask_duties.SubflowAck s)) (drop 2 (payload_came s)) refl refl third in
    let first : Soon s (payload_came s) = then_soon s (duties.Step (step_duties.PlainAck s)) (drop 1 (payload_came s)) refl refl second in
    let heard : Soon s (heard_and s 0 count (payload_came s)) = heard_soon s 0 count (payload_came s) first in
    then_soon s (duties.Ask (ask_duties.Opened s)) (drop 1 (copy_came s count)) refl refl (then_soon s (duties.Ask (ask_duties.Live s)) (drop 2 (copy_came s count)) refl refl heard)

-- ---- the payload is kept

unsure_so : (s : Side) (held_edge : Option ℕ) (t : EndState) (e : PathEnd) → is_dropped s e ≡ true → IsUnsure s (record e { tcp = t; treated = record e.treated { held_edge = held_edge } })
unsure_so A held_edge t e is = absurd (true≢false (sym is))
unsure_so B held_edge t e is =
    let parts = and_parts (not (e.modes.clear || e.modes.identity)) e.treated.has_option is in
    let none = neither e.modes.clear e.modes.identity (not-true (e.modes.clear || e.modes.identity) parts.0) in
    record { at_b = refl; clear = none.0; plain = none.1; option = parts.1 }
  where
    neither : (a b : Bool) → (a || b) ≡ false → (a ≡ false) × (b ≡ false)
    neither true b is = absurd (true≢false is)
    neither false b is = (refl, is)

held_keep : (s : Side) (pos octet : ℕ) (ds : List Duty) (c : Profile) (e : PathEnd) → octet_at pos (after_keep_held e.tcp.recv) ≡ Some octet → Now s pos octet ds c (after_keep s e)
held_keep s pos octet ds c e at = by (is_dropped s e) refl (is_fin_passed e.tcp) refl
  where
    by : (b : Bool) → is_dropped s e ≡ b → (over : Bool) → is_fin_passed e.tcp ≡ over → Now s pos octet ds c (record e {
      tcp = (if b then after_dropping_held e.tcp else record e.tcp { recv = (if over then without_held e.tcp.recv else after_keep_held e.tcp.recv) });
      treated = record e.treated { held_edge = (if (b || over) then None else e.treated.held_edge) };
    })
    by true is over fin = lets_go (unsure_so s None (after_dropping_held e.tcp) e is)
    by false is true fin = lies (past_fin fin)
    by false is false fin = lies (at_place (record { now = at; later = at }))

-- ---- a check

plain_so : (e : PathEnd) (x : KeptMapping) → mapping_here e ≡ Some x → e.modes.identity ≡ false
plain_so e x is = (elim e.modes.identity as (λ b. (if (b || covers e.modes.peer_infinite e.tcp.recv.edge) then None else mapping_at e.receiving.mappings e.tcp.recv.edge) ≡ Some x → b ≡ false)
    [ true ↦ λ none. absurd (true≢false (sym (ap is_some none))) | false ↦ λ there. refl ]) is

passed_check : (s : Side) (pos octet : ℕ) (ds : List Duty) (c : Profile) (e : PathEnd) → let sums = c.spelling.checksums in
    (o : Option KeptMapping) → mapping_here e ≡ o → (is_some (failing_by sums o e.tcp) && reads_mappings e.modes.mode) ≡ false → IsKept pos octet e.tcp.recv → Now s pos octet ds c (forgotten_by sums o e)
passed_check s pos octet ds c e None is quiet h = lies (at_place h)
passed_check s pos octet ds c e (Some x) is quiet h = (elim (is_wrong c.spelling.checksums x e.tcp) as
    (λ b. is_wrong c.spelling.checksums x e.tcp ≡ b → (is_some (if b then Some x else None) && reads_mappings e.modes.mode) ≡ false
    → Now s pos octet ds c (if b then record e { tcp = record e.tcp { recv = after_forget_from x.pos e.tcp.recv } } else e)) [
      | true ↦ λ wrong quiet. untold (and_parts c.spelling.checksums (is_whole x e.tcp && not (is_right x e.tcp)) wrong).0 quiet (plain_so e x is)
      | false ↦ λ right quiet. lies (at_place h)
    ]) refl quiet

-- a mapping that fails its check lies at RCV.NXT, from where on all is forgotten
pub record Fails (checksums : Bool) (x : KeptMapping) (t : EndState) : Type 0 where
  pub sums : checksums ≡ true
  pub there : is_there x t.recv.edge (length (filled t.recv.places)) ≡ true
  pub wrong : has_its_sum x (filled t.recv.places) ≡ false

pub fails_so : (checksums : Bool) (x : KeptMapping) (t : EndState) → is_wrong checksums x t ≡ true → Fails checksums x t
fails_so checksums x t is =
    let parts = and_parts checksums (is_whole x t && not (is_right x t)) is in
    let more = and_parts (is_whole x t) (not (is_right x t)) parts.1 in
    record { sums = parts.0; there = more.0; wrong = not-true (is_right x t) more.1 }

pub failed_so : (checksums : Bool) (x : KeptMapping) (t : EndState) → Fails checksums x t → is_wrong checksums x t ≡ true
failed_so checksums x t h =
    ap (λ b. b && (is_whole x t && not (is_right x t))) h.sums ∙ ap (λ b. b && not (is_right x t)) h.there ∙ ap not h.wrong

pub failure_tcp : (o : Option KeptMapping) (r : Reply) (e : PathEnd) → (with_failure o r e).tcp ≡ e.tcp
failure_tcp None r e = refl
failure_tcp (Some x) (replies.Control (control_replies.Verdict verdicts.SendFail)) e = refl
failure_tcp (Some x) (replies.Control (control_replies.Verdict (verdicts.BreakPath reason))) e = refl
failure_tcp (Some x) _ e = refl

-- what an end makes of what it keeps where it is told of a check
abbrev pub told_end : (c : Profile) (r : Reply) (e : PathEnd) → PathEnd
told_end c r e = with_failure (failing_by c.spelling.checksums (mapping_here e) e.tcp) r (after_fell events.CheckFailed r e)

-- ---- what else an end keeps by a duty that is passed

pub record Rests (s : Side) (e f : PathEnd) : Type 0 where
  pub fin_at : f.tcp.fin_at ≡ e.tcp.fin_at
  pub mode : f.modes.mode ≡ e.modes.mode
  pub plain : f.modes.identity ≡ e.modes.identity
  pub key : f.modes.peer_key ≡ e.modes.peer_key
  pub option : f.treated.has_option ≡ e.treated.has_option
  pub clear : s ≡ B → f.modes.clear ≡ e.modes.clear
  pub infinite : f.modes.own_infinite ≡ e.modes.own_infinite

here_rests : (s : Side) (e f a b : PathEnd) → Rests s e f → Rests s e (pick s (pick s f a) (pick s b f))
here_rests s e f a b x = subst (λ g. Rests s e g) (sym (own_end s f a b)) x

calm : (s : Side) (e f : PathEnd) → f.tcp.fin_at ≡ e.tcp.fin_at → f.modes.mode ≡ e.modes.mode → f.modes.identity ≡ e.modes.identity → f.modes.peer_key ≡ e.modes.peer_key
    → f.treated.has_option ≡ e.treated.has_option → f.modes.clear ≡ e.modes.clear → f.modes.own_infinite ≡ e.modes.own_infinite → Rests s e f
calm s e f fin_at mode plain key option clear infinite = record { fin_at = fin_at; mode = mode; plain = plain; key = key; option = option; clear = λ of_b. clear; infinite = infinite }

dss_clear : (s : Side) (b : Bool) → s ≡ B → (b || is_side_a s) ≡ b
dss_clear s b is = ap (λ t. b || is_side_a t) is ∙ or-false b

item_rests : (s : Side) (o : Option Heard) (e : PathEnd) → Rests s e (item_passed s o e)
item_rests s None e = calm s e e refl refl refl refl refl refl refl
item_rests s (Some says.Dss) e = record { fin_at = refl; mode = refl; plain = refl; key = refl; option = refl; clear = dss_clear s e.modes.clear; infinite = refl }
item_rests s (Some (says.Mapping fin)) e = elim (counts e) as (λ b. Rests s e (if b then with_learned e else with_skipped e))
    [ true ↦ calm s e (with_learned e) refl refl refl refl refl refl refl | false ↦ calm s e (with_skipped e) refl refl refl refl refl refl refl ]
item_rests s (Some (says.DataFin place)) e = elim (counts e) as (λ b. Rests s e (if b then with_data_fin place e else e))
    [ true ↦ calm s e (with_data_fin place e) refl refl refl refl refl refl refl | false ↦ calm s e e refl refl refl refl refl refl refl ]
item_rests s (Some _) e = calm s e _ refl refl refl refl refl refl refl

keep_rests : (s : Side) (e : PathEnd) → Rests s e (after_keep s e)
keep_rests s e = calm s e (after_keep s e) (elim (is_dropped s e) as (λ b. (if b then after_dropping_held e.tcp else after_keeping_held e.tcp).fin_at ≡ e.tcp.fin_at) [ true ↦ refl | false ↦ refl ]) refl refl refl refl refl refl

pass_fin_rests : (s : Side) (e : PathEnd) → Rests s e (after_pass_fin e)
pass_fin_rests s e = calm s e (after_pass_fin e) (elim (is_fin_next e.tcp) as (λ b. (if b then after_passing_fin e.tcp else e.tcp).fin_at ≡ e.tcp.fin_at) [ true ↦ refl | false ↦ refl ]) refl refl refl refl refl refl

other_rests : (s : Side) (e f : PathEnd) → Only nothing e f → Rests s e f
other_rests s e f x = calm s e f
    (unwritten false e.tcp.fin_at f.tcp.fin_at refl (ap (λ (v : EndView). v.fin_at) x.same))
    (unwritten false e.modes.mode f.modes.mode refl (ap (λ (v : EndView). v.mode) x.same))
    (unwritten false e.modes.identity f.modes.identity refl (ap (λ (v : EndView). v.identity) x.same))
    (unwritten false e.modes.peer_key f.modes.peer_key refl (ap (λ (v : EndView). v.peer_key) x.same))
    (ap (λ t. t.has_option) (unwritten false (copy_said e.treated) (copy_said f.treated) refl (ap (λ (v : EndView). v.copy) x.same)))
    (unwritten false e.modes.clear f.modes.clear refl (ap (λ (v : EndView). v.clear) x.same))
    (unwritten false e.modes.own_infinite f.modes.own_infinite refl (ap (λ (v : EndView). v.own_infinite) x.same))

pub fin_stays : (s : Side) (e f : PathEnd) → Rests s e f → e.tcp.recv.edge ≤ f.tcp.recv.edge → is_fin_passed e.tcp ≡ true → is_fin_passed f.tcp ≡ true
fin_stays s e f x up is = subst (λ o. is_behind o f.tcp.recv.edge ≡ true) (sym x.fin_at) (by e.tcp.fin_at is)
  where
    by : (o : Option ℕ) → is_behind o e.tcp.recv.edge ≡ true → is_behind o f.tcp.recv.edge ≡ true
    by None is = is
    by (Some pos) is = (let low = ltb-true pos e.tcp.recv.edge is in lt-ltb pos f.tcp.recv.edge (omega (arith, low, up)))

unsure_stays : (s : Side) (e f : PathEnd) → Rests s e f → IsUnsure s e → IsUnsure s f
unsure_stays s e f x h = record { at_b = h.at_b; clear = x.clear h.at_b ∙ h.clear; plain = x.plain ∙ h.plain; option = x.option ∙ h.option }

module _ {C : Type 0} where
  passed_own_rests : (d : Duty) (p : PathState C) → Rests (side_of d) (end_at (side_of d) p) (end_at (side_of d) (passed d p))
  passed_own_rests (duties.Ask (ask_duties.CheckFailed s)) p =
      let e = end_at s p in
      here_rests s e (after_check p.profile e) p.a p.b
      (forgets_so (λ f. Rests s e f) p.profile.spelling.checksums (mapping_here e) e (λ recv forgotten. calm s e (record e { tcp = record e.tcp { recv = recv } }) refl refl refl refl refl refl refl))
  passed_own_rests (duties.Step (step_duties.Heard s index)) p =
      let e = end_at s p in here_rests s e (item_passed s (item_of index e) e) p.a p.b (item_rests s (item_of index e) e)
  passed_own_rests (duties.Step (step_duties.PlainAck s)) p = let e = end_at s p in here_rests s e (with_plain_ack e) p.a p.b (calm s e (with_plain_ack e) refl refl refl refl refl refl refl)
  passed_own_rests (duties.Step (step_duties.Unmapped s)) p = let e = end_at s p in here_rests s e (after_pieces e) p.a p.b (calm s e (after_pieces e) refl refl refl refl refl refl refl)
  passed_own_rests (duties.Silent (silent_duties.Timer s)) p = let e = end_at s p in here_rests s e (with_timer_settled p.clock e) p.a p.b (calm s e (with_timer_settled p.clock e) refl refl refl refl refl refl refl)
  passed_own_rests (duties.Silent (silent_duties.Keep s)) p = let e = end_at s p in here_rests s e (after_keep s e) p.a p.b (keep_rests s e)
  passed_own_rests (duties.Silent (silent_duties.PassFin s)) p = let e = end_at s p in here_rests s e (after_pass_fin e) p.a p.b (pass_fin_rests s e)
  passed_own_rests d p = calm (side_of d) (end_at (side_of d) p) (end_at (side_of d) p) refl refl refl refl refl refl refl

  other_only : (s : Side) (w : Writes) (p q : PathState C) → w.other ≡ nothing → OnlyAt s w p q → Only nothing (end_at (peer s) p) (end_at (peer s) q)
  other_only s w p q none x = subst (λ v. Only v (end_at (peer s) p) (end_at (peer s) q)) none (record { same = ap (λ (v : PathView C). v.other) x.same })

  passed_other_rests : (d : Duty) (p : PathState C) → Rests (peer (side_of d)) (end_at (peer (side_of d)) p) (end_at (peer (side_of d)) (passed d p))
  passed_other_rests (duties.Step step_duties.Events) p = calm B p.b p.b refl refl refl refl refl refl refl
  passed_other_rests d p = other_rests (peer (side_of d)) (end_at (peer (side_of d)) p) (end_at (peer (side_of d)) (passed d p)) (other_only (side_of d) (writes d) p (passed d p) refl (passes_no_more d p))

  pub passed_rests : (s : Side) (d : Duty) (p : PathState C) → Rests s (end_at s p) (end_at s (passed d p))
  passed_rests s d p = ⊎_elim
      (λ own. subst (λ t. Rests t (end_at t p) (end_at t (passed d p))) own (passed_own_rests d p))
      (λ away. subst (λ t. Rests t (end_at t p) (end_at t (passed d p))) away (passed_other_rests d p))
      (sides s (side_of d))

  -- ---- a duty that is passed

  abbrev pub first_stands : List Duty → PathState C → Bool
  first_stands [] p = true
  first_stands (d ∷ ds) p = stands d p

  -- one by which the end is reset isn't
  pub reset_stands : (s : Side) (ds : List Duty) (p : PathState C) → IsToReset s ds → first_stands ds p ≡ true
  reset_stands s ds p (resetting.broken reason is) = ap (λ xs. first_stands xs p) is
  reset_stands s ds p (resetting.is_reset reason is) = ap (λ xs. first_stands xs p) is
  reset_stands s ds p (resetting.stopped is) = ap (λ xs. first_stands xs p) is

  check_passes : (s : Side) (pos octet : ℕ) (ds : List Duty) (p : PathState C) → let d : Duty = duties.Ask (ask_duties.CheckFailed s) in
      stands d p ≡ false → IsKept pos octet (end_at s p).tcp.recv → Now s pos octet ds p.profile (end_at s (passed d p))
  check_passes s pos octet ds p quiet h =
      let e = end_at s p in
      subst (λ f. Now s pos octet ds p.profile f) (sym (own_end s (after_check p.profile e) p.a p.b)) (passed_check s pos octet ds p.profile e (mapping_here e) refl quiet h)

  keep_passes : (s : Side) (pos octet : ℕ) (ds : List Duty) (p : PathState C) → IsKept pos octet (end_at s p).tcp.recv → Now s pos octet ds p.profile (end_at s (passed (duties.Silent (silent_duties.Keep s)) p))
  keep_passes s pos octet ds p h =
      let e = end_at s p in
      subst (λ f. Now s pos octet ds p.profile f) (sym (own_end s (after_keep s e) p.a p.b)) (lies (at_place (kept_keep pos octet (is_dropped s e) e.tcp h)))

  -- an octet that is kept
  kept_passes : (s : Side) (pos octet : ℕ) (d : Duty) (ds : List Duty) (p : PathState C) → stands d p ≡ false → IsKept pos octet (end_at s p).tcp.recv
      → Now s pos octet ds p.profile (end_at s (passed d p))
  kept_passes s pos octet (duties.Ask (ask_duties.CheckFailed t)) ds p quiet h = ⊎_elim
      (λ own. subst (λ u. IsKept pos octet (end_at u p).tcp.recv → Now u pos octet ds p.profile (end_at u (passed (duties.Ask (ask_duties.CheckFailed t)) p))) own (check_passes t pos octet ds p quiet) h)
      (λ away. subst (λ u. IsKept pos octet (end_at u p).tcp.recv → Now u pos octet ds p.profile (end_at u (passed (duties.Ask (ask_duties.CheckFailed t)) p))) away
      (λ h. lies (at_place (same_kept pos octet (end_at (peer t) p).tcp.recv _ (passed_other_recv (duties.Ask (ask_duties.CheckFailed t)) p) h))) h)
      (sides s t)
  kept_passes s pos octet (duties.Silent (silent_duties.Keep t)) ds p quiet h = ⊎_elim
      (λ own. subst (λ u. IsKept pos octet (end_at u p).tcp.recv → Now u pos octet ds p.profile (end_at u (passed (duties.Silent (silent_duties.Keep t)) p))) own (keep_passes t pos octet ds p) h)
      (λ away. subst (λ u. IsKept pos octet (end_at u p).tcp.recv → Now u pos octet ds p.profile (end_at u (passed (duties.Silent (silent_duties.Keep t)) p))) away
      (λ h. lies (at_place (same_kept pos octet (end_at (peer t) p).tcp.recv _ (passed_other_recv (duties.Silent (silent_duties.Keep t)) p) h))) h)
      (sides s t)
  kept_passes s pos octet d ds p quiet h = lies (kept_moves pos octet (end_at s p) (end_at s (passed d p)) h (passed_moves s d p refl refl))

  -- a duty before the payload is kept leaves it in hand
  pub before_passes : (d : Duty) (p : PathState C) → comes_before_keeping d ≡ true → (end_at (side_of d) (passed d p)).tcp.recv ≡ (end_at (side_of d) p).tcp.recv
  before_passes (duties.Step (step_duties.Heard s index)) p before =
      let e = end_at s p in ap (λ (f : PathEnd). f.tcp.recv) (own_end s (item_passed s (item_of index e) e) p.a p.b) ∙ item_recv s (item_of index e) e
  before_passes (duties.Step (step_duties.PlainAck s)) p before = ap (λ (f : PathEnd). f.tcp.recv) (own_end s (with_plain_ack (end_at s p)) p.a p.b)
  before_passes (duties.Step (step_duties.Unmapped s)) p before = absurd (true≢false (sym before))
  before_passes (duties.Ask (ask_duties.CheckFailed s)) p before = absurd (true≢false (sym before))
  before_passes (duties.Silent d) p before = absurd (true≢false (sym before))
  before_passes _ p before = refl

  -- one that is held
  keeps_now : (s : Side) (pos octet : ℕ) (d : Duty) (ds : List Duty) (p : PathState C) → octet_at pos (after_keep_held (end_at s p).tcp.recv) ≡ Some octet → KeepsNext s (d ∷ ds)
      → Now s pos octet ds p.profile (end_at s (passed d p))
  keeps_now s pos octet (duties.Silent (silent_duties.Keep t)) ds p at own =
      subst (λ u. octet_at pos (after_keep_held (end_at u p).tcp.recv) ≡ Some octet → Now u pos octet ds p.profile (end_at u (passed (duties.Silent (silent_duties.Keep t)) p))) own
      (λ at. let e = end_at t p in subst (λ f. Now t pos octet ds p.profile f) (sym (own_end t (after_keep t e) p.a p.b)) (held_keep t pos octet ds p.profile e at)) at
  keeps_now s pos octet _ ds p at own = absurd own

  hand_passes : (s : Side) (pos octet : ℕ) (d : Duty) (ds : List Duty) (p : PathState C) → octet_at pos (after_keep_held (end_at s p).tcp.recv) ≡ Some octet → Soon s (d ∷ ds)
      → Now s pos octet ds p.profile (end_at s (passed d p))
  hand_passes s pos octet d ds p at (inl next) = keeps_now s pos octet d ds p at next
  hand_passes s pos octet d ds p at (inr (own, (before, soon))) =
      in_hand (ap (λ (v : Receiving). octet_at pos (after_keep_held v)) (subst (λ u. (end_at u (passed d p)).tcp.recv ≡ (end_at u p).tcp.recv) own (before_passes d p before)) ∙ at) soon

  pass_now : (s : Side) (pos octet : ℕ) (d : Duty) (ds : List Duty) (p : PathState C) → stands d p ≡ false → Now s pos octet (d ∷ ds) p.profile (end_at s p)
      → Now s pos octet ds p.profile (end_at s (passed d p))
  pass_now s pos octet d ds p quiet h = by h
    where
      q : PathState C
      q = passed d p

      up : (end_at s p).tcp.recv.edge ≤ (end_at s q).tcp.recv.edge
      up = (path_far p q (passed_steps d p) s).subflow.received

      x : Rests s (end_at s p) (end_at s q)
      x = passed_rests s d p

      by : Now s pos octet (d ∷ ds) p.profile (end_at s p) → Now s pos octet ds p.profile (end_at s q)
      by (lies (below low)) = lies (below (let more = up in omega (arith, low, more)))
      by (lies (at_place h)) = kept_passes s pos octet d ds p quiet h
      by (lies (past_fin is)) = lies (past_fin (fin_stays s (end_at s p) (end_at s q) x up is))
      by (lies (at_dead is)) = lies (at_dead (gone_stays (end_at s p) (end_at s q) (path_far p q (passed_steps d p) s) is))
      by (in_hand at soon) = hand_passes s pos octet d ds p at soon
      by (resets_next is) = absurd (true≢false (sym (reset_stands s (d ∷ ds) p is) ∙ quiet))
      by (untold sums reads plain) = untold sums (ap reads_mappings x.mode ∙ reads) (x.plain ∙ plain)
      by (lets_go unsure) = lets_go (unsure_stays s (end_at s p) (end_at s q) x unsure)

  -- ---- where the first duty stands

  -- the payload isn't kept next, since that is passed at once
  stands_to_keep : (s : Side) (d : Duty) (ds : List Duty) (p : PathState C) → stands d p ≡ true → KeepsNext s (d ∷ ds) → ⊥
  stands_to_keep s (duties.Silent (silent_duties.Keep t)) ds p is next = true≢false (sym is)
  stands_to_keep s _ ds p is next = next

  lies_so : (s : Side) (pos octet : ℕ) (p q : PathState C) → Lies pos octet (end_at s q) → StaysThere s pos octet p q
  lies_so s pos octet p q (below low) = stay.on (there.passed low)
  lies_so s pos octet p q (at_place h) = stay.on (there.kept h)
  lies_so s pos octet p q (past_fin is) = stay.behind_fin is
  lies_so s pos octet p q (at_dead is) = stay.gone is

  now_so : (s : Side) (pos octet : ℕ) (p q : PathState C) → (KeepsNext s q.agenda → ⊥) → Now s pos octet q.agenda q.profile (end_at s q) → StaysThere s pos octet p q
  now_so s pos octet p q first (lies h) = lies_so s pos octet p q h
  now_so s pos octet p q first (in_hand at (inl next)) = absurd (first next)
  now_so s pos octet p q first (in_hand at (inr soon)) = stay.on (there.held at soon)
  now_so s pos octet p q first (resets_next is) = stay.reset is
  now_so s pos octet p q first (untold sums reads plain) = stay.fails_untold sums reads plain
  now_so s pos octet p q first (lets_go unsure) = stay.dropped unsure

  pub settled_so : (s : Side) (pos octet : ℕ) (from : PathState C) (ds : List Duty) (p : PathState C) → Now s pos octet ds p.profile (end_at s p) → StaysThere s pos octet from (settled ds p)
  settled_so s pos octet from [] p h = now_so s pos octet from (with_agenda [] p) (λ next. next) h
  settled_so s pos octet from (d ∷ ds) p h = by (stands d p) refl (λ quiet. settled_so s pos octet from ds (passed d p)
      (subst (λ c. Now s pos octet ds c (end_at s (passed d p))) (sym (ap (λ (v : PathView C). v.profile) (passes_no_more d p).same)) (pass_now s pos octet d ds p quiet h)))
    where
      by : (b : Bool) → stands d p ≡ b → (stands d p ≡ false → StaysThere s pos octet from (settled ds (passed d p)))
          → StaysThere s pos octet from (if b then with_agenda (d ∷ ds) p else settled ds (passed d p))
      by true is rest = now_so s pos octet from (with_agenda (d ∷ ds) p) (stands_to_keep s d ds p is) h
      by false is rest = rest is
