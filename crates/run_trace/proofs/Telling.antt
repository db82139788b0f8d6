-- The steps of a path tell just the segments that it hands to its link.
use Rattle.std.proofs.Common.{◌≡◌, refl, sym, ap, subst, ◌∙◌, ℕ, zero, suc, ◌==◌, ◌⊎◌, inl, inr, Bool, true, false, if◌then◌else◌, Ok, Option, Some, None, option_map, option_and_then, IfSome, List, [], ◌∷◌, ◌++◌, map, set, slice_get, append_assoc, append-nil, arith}
use Rattle.std.proofs.lemmas.Bool.{cases_eq, eqb-false, eqb-true, true≢false}
use Rattle.std.proofs.lemmas.Grind.{flat_map-append}
use Rattle.std.proofs.lemmas.List.{map-append}
use Rattle.std.proofs.lemmas.List.Elements.{filter-append}
use Rattle.std.proofs.lemmas.Option.{same_Some}
use Rattle.std.specs.Option.{option_to_list}
use Rattle.actor_desk.specs.declared.ask.Ask.{Ask}
use Rattle.actor_desk.specs.declared.ask.LocalStep.{LocalStep}
use Rattle.actor_desk.specs.declared.ask.Note.{Note}
use Rattle.path_core.proofs.SegmentsTold.{each_segment_is_told, outgoing_told}
use Rattle.path_core.specs.declared.looking.Departing.{Departing}
use Rattle.path_core.specs.Looking.{HandsOrTellsNone, IsTold, departing, departing_as, first_sends, step_told, tells_a_segment}
use Rattle.path_core.specs.Octets.{octets}
use Rattle.path_core.specs.State.{PathState, path_of}
use Rattle.path_core.specs.Steps.{asks_of}
use Rattle.stream_apps.specs.Apps.{AppState}
use Rattle.stream_apps.specs.AppSteps.{app_ask, app_asks_first, app_asks_of}
use Rattle.stream_apps.specs.declared.duty.AppDuty.{AppDuty}
use Rattle.world_core.specs.Looking.{crew_path, member_path}
use Rattle.world_laws.specs.Actors.{Actor, ActorCrew, member_asks}
use Rattle.world_laws.specs.declared.member.Member.TheVariants.{App, Path}
use Rattle.world_laws.specs.Openings.{PathPlan, Start, opened_world, paths_from}
use Rattle.world_laws.specs.Outcomes.{notes_at}
use Rattle.world_laws.specs.Worlds.{WorldState, Turn, after_turn, all_over, asked, begins, crew_after, end_round, greatest, note_of, stepped, world_run, world_step}
use Rattle.run_trace.specs.Telling.{SentLine, SentLinesTellTheTrace, line_in, line_of, lines_in, on_path}
use Rattle.run_trace.specs.Trace.{sent_as, sent_at, sent_by, sent_next, trace_of}
use Rattle.link_trace.specs.declared.sent.Sent.{Sent}
use Rattle.run_trace.proofs.Numbered.{AreNumbered, StandsAt, opened_numbered, turn_numbered}

-- ---- a step more

lines_more : (notes : List Note) (note : Note) → lines_in (notes ++ note ∷ []) ≡ lines_in notes ++ option_to_list (line_in note.ask)
lines_more notes note =
    flat_map-append (λ n. option_to_list (line_in n.ask)) notes (note ∷ [])
    ∙ ap (λ (xs : List SentLine). lines_in notes ++ xs) (append-nil (option_to_list (line_in note.ask)))

notes_same : (crew : List (ActorCrew (List ℕ))) (i : ℕ) (c d : ActorCrew (List ℕ)) (note : Note) → slice_get crew i ≡ Some c
    → d.list ≡ c.list ++ note ∷ [] → notes_at i (set crew i d) ≡ notes_at i crew ++ note ∷ []
notes_same [] i c d note there is = cc
notes_same (x ∷ crew) zero c d note there is = is ∙ ap (λ (y : ActorCrew (List ℕ)). y.list ++ note ∷ []) (sym (same_Some x c there))
notes_same (x ∷ crew) (suc i) c d note there is = notes_same crew i c d note there is

notes_other : (crew : List (ActorCrew (List ℕ))) (i n : ℕ) (d : ActorCrew (List ℕ)) → (i ≡ n → ⊥) → notes_at n (set crew i d) ≡ notes_at n crew
notes_other [] i n d other = refl
notes_other (x ∷ crew) zero zero d other = absurd (other refl)
notes_other (x ∷ crew) zero (suc n) d other = refl
notes_other (x ∷ crew) (suc i) zero d other = refl
notes_other (x ∷ crew) (suc i) (suc n) d other = notes_other crew i n d (λ same. other (ap suc same))

-- an actor notes what tells these lines
abbrev Adds : ℕ → List SentLine → WorldState (List ℕ) → WorldState (List ℕ) → Type 0
Adds n lines w v = lines_in (notes_at n v.crew) ≡ lines_in (notes_at n w.crew) ++ lines

same_adds : (i : ℕ) (ask : Ask) (c : ActorCrew (List ℕ)) (w : WorldState (List ℕ)) → slice_get w.crew i ≡ Some c
    → Adds i (option_to_list (line_in ask)) w (asked octets i (Some ask) c w)
same_adds i ask c w there =
    let note = note_of w.books c.pass ask in
    ap lines_in (notes_same w.crew i c (crew_after octets ask w.books c) note there refl) ∙ lines_more (notes_at i w.crew) note

other_adds : (i n : ℕ) (ask : Ask) (c : ActorCrew (List ℕ)) (w : WorldState (List ℕ)) → (i ≡ n → ⊥) → Adds n [] w (asked octets i (Some ask) c w)
other_adds i n ask c w other =
    ap lines_in (notes_other w.crew i n (crew_after octets ask w.books c) other) ∙ sym (append-nil (lines_in (notes_at n w.crew)))

-- a step that tells no segment
quiet_adds : (i n : ℕ) (o : Option Ask) (c : ActorCrew (List ℕ)) (w : WorldState (List ℕ)) → slice_get w.crew i ≡ Some c
    → IfSome o (λ ask. line_in ask ≡ None) → Adds n [] w (asked octets i o c w)
quiet_adds i n None c w there quiet = sym (append-nil (lines_in (notes_at n w.crew)))
quiet_adds i n (Some ask) c w there quiet = elim (cases_eq i n) [
  | inl same ↦ subst (λ (m : ℕ). Adds m [] w (asked octets i (Some ask) c w)) same (same_adds i ask c w there ∙ ap (λ (o : Option SentLine). lines_in (notes_at i w.crew) ++ option_to_list o) quiet)
  | inr other ↦ other_adds i n ask c w other
]

-- ---- who tells none

quiet_ask : (ask : Ask) → tells_a_segment (Some ask) ≡ false → line_in ask ≡ None
quiet_ask (Ask.Local (LocalStep.Sent from number payload checksum)) none = absurd (true≢false none)
quiet_ask _ none = refl

quiet : (o : Option Ask) → tells_a_segment o ≡ false → IfSome o (λ ask. line_in ask ≡ None)
quiet None none = tt
quiet (Some ask) none = quiet_ask ask none

app_quiet : (d : AppDuty) (a : AppState) → line_in (app_ask d a) ≡ None
app_quiet AppDuty.FastClose a = refl
app_quiet _ a = refl

apps_quiet : (ds : List AppDuty) (a : AppState) → IfSome (app_asks_first ds a) (λ ask. line_in ask ≡ None)
apps_quiet [] a = tt
apps_quiet (d ∷ ds) a = app_quiet d a

-- ---- a path

on_one : (path : ℕ) (s : Sent) (b : Bool) → (s.path == path) ≡ b → on_path path (s ∷ []) ≡ (if b then s ∷ [] else [])
on_one path s b is = ap (λ (t : Bool). if t then s ∷ [] else []) is

sent_adds : (i path : ℕ) (s : Sent) (ask : Ask) (c : ActorCrew (List ℕ)) (w : WorldState (List ℕ)) → slice_get w.crew i ≡ Some c
    → i ≡ suc (suc s.path) → line_in ask ≡ Some (line_of s)
    → Adds (suc (suc path)) (map line_of (on_path path (s ∷ []))) w (asked octets i (Some ask) c w)
sent_adds i path s ask c w there at tells = by (s.path == path) refl
  where
    v : WorldState (List ℕ)
    v = asked octets i (Some ask) c w

    by : (b : Bool) → (s.path == path) ≡ b → Adds (suc (suc path)) (map line_of (on_path path (s ∷ []))) w v
    by true is =
        let there_too : i ≡ suc (suc path) = at ∙ ap (λ (n : ℕ). suc (suc n)) (eqb-true s.path path is) in
        subst (λ (xs : List Sent). Adds (suc (suc path)) (map line_of xs) w v) (sym (on_one path s true is))
        (subst (λ (m : ℕ). Adds m (line_of s ∷ []) w v) there_too
        (subst (λ (o : Option SentLine). Adds i (option_to_list o) w v) tells (same_adds i ask c w there)))
    by false is =
        subst (λ (xs : List Sent). Adds (suc (suc path)) (map line_of xs) w v) (sym (on_one path s false is))
        (other_adds i (suc (suc path)) ask c w
        (λ same. eqb-false s.path path is (omega (arith, at, same))))

path_adds : (i path : ℕ) (t : _) (p : PathState (List ℕ)) (c : ActorCrew (List ℕ)) (w : WorldState (List ℕ)) → slice_get w.crew i ≡ Some c
    → i ≡ suc (suc (path_of p)) → HandsOrTellsNone octets p t → IsTold (option_map (departing_as p) t) p
    → Adds (suc (suc path)) (map line_of (on_path path (option_to_list (option_map (sent_as p) (option_map (departing_as p) t))))) w
    (asked octets i (asks_of octets p) c w)
path_adds i path None p c w there at hands told = quiet_adds i (suc (suc path)) (asks_of octets p) c w there (quiet (asks_of octets p) hands)
path_adds i path (Some t) p c w there at hands told =
    let d : Departing = departing_as p t in
    subst (λ (o : Option Ask). Adds (suc (suc path)) (map line_of (on_path path (sent_as p d ∷ []))) w (asked octets i o c w)) (sym told)
    (sent_adds i path (sent_as p d) (step_told d) c w there at refl)

told_by : (p : PathState (List ℕ)) → IsTold (departing p) p
told_by p = outgoing_told {E = Unit {0}} p (Ok (departing p)) refl

-- ---- turns

step_adds : (i path : ℕ) (w : WorldState (List ℕ)) → AreNumbered w.crew
    → Adds (suc (suc path)) (map line_of (on_path path (option_to_list (sent_next i w)))) w (world_step octets i w)
step_adds i path w h =
    (elim (slice_get w.crew i) as (λ o. slice_get w.crew i ≡ o → Adds (suc (suc path)) (map line_of (on_path path (option_to_list (option_and_then sent_by (crew_path o))))) w (stepped octets i o w))
    [ None ↦ λ there. sym (append-nil (lines_in (notes_at (suc (suc path)) w.crew))) | Some c ↦ λ there. so c.member c there (h i c there) ]) refl
  where
    so : (m : Actor (List ℕ)) (c : ActorCrew (List ℕ)) → slice_get w.crew i ≡ Some c → StandsAt i m
        → Adds (suc (suc path)) (map line_of (on_path path (option_to_list (option_and_then sent_by (member_path m))))) w
        (asked octets i (member_asks octets m) c w)
    so (App a) c there stands = quiet_adds i (suc (suc path)) (app_asks_of a) c w there (apps_quiet a.agenda a)
    so (Path p) c there stands =
        path_adds i path (first_sends p.agenda p) p c w there stands.0 (each_segment_is_told octets p) (told_by p)

notes_begun : (stamp : ℕ) (crew : List (ActorCrew (List ℕ))) (n : ℕ) → notes_at n (map (begins stamp) crew) ≡ notes_at n crew
notes_begun stamp [] n = refl
notes_begun stamp (c ∷ crew) zero = refl
notes_begun stamp (c ∷ crew) (suc n) = notes_begun stamp crew n

round_adds : (n : ℕ) (w : WorldState (List ℕ)) → Adds n [] w (end_round w)
round_adds n w = elim (all_over w.crew) as (λ b. Adds n [] w (if b then record w { crew = map (begins (greatest 0 w.crew)) w.crew } else w))
    [ true ↦ ap lines_in (notes_begun (greatest 0 w.crew) w.crew n) ∙ sym (append-nil (lines_in (notes_at n w.crew))) | false ↦ sym (append-nil (lines_in (notes_at n w.crew))) ]

turn_adds : (t : Turn) (path : ℕ) (w : WorldState (List ℕ)) → AreNumbered w.crew
    → Adds (suc (suc path)) (map line_of (on_path path (sent_at t w))) w (after_turn octets t w)
turn_adds (Turn.Step i) path w h = step_adds i path w h
turn_adds Turn.Round path w h = round_adds (suc (suc path)) w

-- the lines of both parts, one behind the other
both_parts : (path : ℕ) (xs ys : List Sent) → map line_of (on_path path (xs ++ ys)) ≡ map line_of (on_path path xs) ++ map line_of (on_path path ys)
both_parts path xs ys = ap (map line_of) (filter-append (λ (s : Sent). s.path == path) xs ys) ∙ map-append line_of (on_path path xs) (on_path path ys)

run_adds : (turns : List Turn) (path : ℕ) (w : WorldState (List ℕ)) → AreNumbered w.crew
    → Adds (suc (suc path)) (map line_of (on_path path (trace_of turns w))) w (world_run octets turns w)
run_adds [] path w h = sym (append-nil (lines_in (notes_at (suc (suc path)) w.crew)))
run_adds (t ∷ turns) path w h =
    let v : WorldState (List ℕ) = after_turn octets t w in let before = lines_in (notes_at (suc (suc path)) w.crew) in
    let now = map line_of (on_path path (sent_at t w)) in let later = map line_of (on_path path (trace_of turns v)) in
    run_adds turns path v (turn_numbered t w h)
    ∙ ap (λ (xs : List SentLine). xs ++ later) (turn_adds t path w h) ∙ append_assoc before now later
    ∙ ap (λ (xs : List SentLine). before ++ xs) (sym (both_parts path (sent_at t w) (trace_of turns v)))

paths_unasked : (start : Start) (number : ℕ) (plans : List PathPlan) (i : ℕ) → notes_at i (paths_from {C = List ℕ} start number plans) ≡ []
paths_unasked start number [] i = refl
paths_unasked start number (plan ∷ plans) zero = refl
paths_unasked start number (plan ∷ plans) (suc i) = paths_unasked start (suc number) plans i

pub sent_lines_tell : SentLinesTellTheTrace
sent_lines_tell start turns path =
    run_adds turns path (opened_world start) (opened_numbered start)
    ∙ ap (λ (notes : List Note). lines_in notes ++ map line_of (on_path path (trace_of turns (opened_world start)))) (paths_unasked start 0 start.paths path)
