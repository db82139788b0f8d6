-- A round goes on: lists grow by notes above the greatest stamp at its beginning, and the next round begins with them.
use Rattle.std.proofs.Common.{◌≡◌, refl, sym, ◌∙◌, ap, subst, ℕ, zero, suc, ◌+◌, ◌<◌, ◌≤◌, max, Bool, true, false, if◌then◌else◌, Option, Some, None, List, [], ◌∷◌, ◌++◌, length, map, replicate, set, arith, ⊎_elim}
use Rattle.std.proofs.lemmas.List.{append-nil, append_assoc}
use Rattle.std.proofs.lemmas.Option.{same_Some}
use Rattle.std.specs.List.{slice_get}
use Rattle.stream_lanes.specs.Words.{Every}
use Rattle.stream_lanes.proofs.Lists.{Every-nil, Every-map, Every-push, in_map, in_set}
use Rattle.actor_desk.specs.declared.ask.Ask.{Ask}
use Rattle.actor_desk.specs.declared.ask.Note.{Note}
use Rattle.actor_desk.specs.Books.{StampedBooks}
use Rattle.path_core.specs.Octets.{octets}
use Rattle.world_laws.specs.Actors.{ActorCrew, member_asks}
use Rattle.world_laws.specs.Fine.{IsFine, lists_of}
use Rattle.link_script.specs.declared.script.PathLine.{PathLine}
use Rattle.link_script.specs.declared.script.Script.{Script}
use Rattle.world_laws.specs.Openings.{PathPlan, Start, paths_from, plans_from, start_of, opened_world}
use Rattle.world_laws.specs.Serial.{after_steps, after_turns}
use Rattle.world_laws.specs.Worlds.{note_of, crew_after, asked, stepped, world_step, all_over, greatest, begins, end_round}
use Rattle.world_laws.proofs.Weaving.StampsChain.{stamp_rises, stamps_below}
use Rattle.world_laws.proofs.Worlds.Opened.{opened_actors}
use Rattle.world_laws.proofs.Weaving.Paired.{step_fine, ended_fine, greatest_above, greatest_ended, opened_fine}
use Rattle.mptcp_run.specs.Rounds.{Begins}
use Rattle.mptcp_run.specs.Replaying.{GoesOn}
use Rattle.mptcp_run.specs.Task.{Connection}
use Rattle.world_core.specs.Kept.{Kept, standing}
use Rattle.world_core.specs.Weaving.{GrewAbove, AllGrewAbove}

-- ---- lists

grew_one : (top : ℕ) (before list : List Note) (n : Note) → GrewAbove top before list → top < n.stamp → GrewAbove top before (list ++ n ∷ [])
grew_one top before list n h above = record {
  more = h.more ++ n ∷ [];
  is = ap (λ xs. xs ++ n ∷ []) h.is ∙ append_assoc before h.more (n ∷ []);
  below = h.below;
  above = Every-push n h.above above;
}

grew_not : (top : ℕ) (list : List Note) → Every (λ n. n.stamp ≤ top) list → GrewAbove top list list
grew_not top list below = record { more = []; is = sym (append-nil list); below = below; above = Every-nil (λ n. top < n.stamp) }

-- a step of one actor
grew_step : (top actor : ℕ) (lists : List (List Note)) (crew : List (ActorCrew (List ℕ))) (books : StampedBooks) (ask : Ask) (c : ActorCrew (List ℕ))
    → slice_get crew actor ≡ Some c → top ≤ c.pass.stamp → AllGrewAbove top lists (lists_of crew)
    → AllGrewAbove top lists (lists_of (set crew actor (crew_after octets ask books c)))
grew_step top actor [] [] books ask c there known h = h
grew_step top actor [] (first ∷ crew) books ask c there known h = absurd h
grew_step top actor (before ∷ lists) [] books ask c there known h = absurd h
grew_step top zero (before ∷ lists) (first ∷ crew) books ask c there known h =
    let same : first ≡ c = same_Some first c there in (
      grew_one top before c.list (note_of books c.pass ask) (subst (λ x. GrewAbove top before x.list) same h.0)
          (let rises = stamp_rises books c.pass ask in omega (arith, known, rises)),
      h.1,
    )
grew_step top (suc actor) (before ∷ lists) (first ∷ crew) books ask c there known h =
    (h.0, grew_step top actor lists crew books ask c there known h.1)

-- ---- steps

asked_goes : (last w : Connection) (actor : ℕ) (o : Option Ask) (c : ActorCrew (List ℕ)) → slice_get w.crew actor ≡ Some c → GoesOn last w
    → IsFine (greatest 0 last.crew) (asked octets actor o c w) → GoesOn last (asked octets actor o c w)
asked_goes last w actor None c there h fine = h
asked_goes last w actor (Some ask) c there h fine = record {
  fine = fine;
  grew = grew_step (greatest 0 last.crew) actor (lists_of last.crew) w.crew w.books ask c there (h.known.each actor c there) h.grew;
  known = record {
    each = λ i x is. ⊎_elim
        (λ here. subst (λ y. greatest 0 last.crew ≤ y.pass.stamp) here.1
        (let rises = stamp_rises w.books c.pass ask in let known = h.known.each actor c there in omega (arith, rises, known)))
        (λ other. h.known.each i x other.1)
        (in_set w.crew actor (crew_after octets ask w.books c) i x is);
  };
}

-- the round goes on with each step
pub step_goes : (last w : Connection) (actor : ℕ) → GoesOn last w → GoesOn last (world_step octets actor w)
step_goes last w actor h = by (slice_get w.crew actor) refl (step_fine octets actor (greatest 0 last.crew) w h.fine)
  where
    by : (o : Option (ActorCrew (List ℕ))) → slice_get w.crew actor ≡ o → IsFine (greatest 0 last.crew) (stepped octets actor o w) → GoesOn last (stepped octets actor o w)
    by None there fine = h
    by (Some c) there fine = asked_goes last w actor (member_asks octets c.member) c there h fine

steps_go : (last w : Connection) (actor n : ℕ) → GoesOn last w → GoesOn last (after_steps octets actor n w)
steps_go last w actor zero h = h
steps_go last w actor (suc n) h = steps_go last (world_step octets actor w) actor n (step_goes last w actor h)

pub turns_go : (last w : Connection) (actor : ℕ) (counts : List ℕ) → GoesOn last w → GoesOn last (after_turns octets actor counts w)
turns_go last w actor [] h = h
turns_go last w actor (n ∷ counts) h = turns_go last (after_steps octets actor n w) (suc actor) counts (steps_go last w actor n h)

-- ---- a round begins

same_grew : (top : ℕ) (crew : List (ActorCrew (List ℕ))) → ((i : ℕ) (c : ActorCrew (List ℕ)) → slice_get crew i ≡ Some c → Every (λ n. n.stamp ≤ top) c.list)
    → AllGrewAbove top (lists_of crew) (lists_of crew)
same_grew top [] below = tt
same_grew top (c ∷ crew) below = (grew_not top c.list (below 0 c refl), same_grew top crew (λ i x there. below (suc i) x there))

-- no step of it was made yet
pub begins_going : (w : Connection) → Begins w → GoesOn w w
begins_going w h = record {
  fine = h.fine;
  grew = same_grew (greatest 0 w.crew) w.crew (λ i c there.
      let f = h.fine.crew.each i i c (omega arith) there in
      Every-map (λ n below. let k = f.known in let g = greatest_above 0 w.crew i c there in omega (arith, below, k, g)) (stamps_below 0 c.list f.rises));
  known = record { each = λ i c there. let k = h.known.each i c there in omega (arith, k) };
}

same_lists : (stamp : ℕ) (crew : List (ActorCrew (List ℕ))) → lists_of (map (begins stamp) crew) ≡ lists_of crew
same_lists stamp [] = refl
same_lists stamp (c ∷ crew) = ap (λ lists. c.list ∷ lists) (same_lists stamp crew)

-- the end of a round leaves the lists
pub lists_at_end : (w : Connection) → lists_of (end_round w).crew ≡ lists_of w.crew
lists_at_end w = by (all_over w.crew)
  where
    by : (b : Bool) → lists_of (if b then record w { crew = map (begins (greatest 0 w.crew)) w.crew } else w).crew ≡ lists_of w.crew
    by true = same_lists (greatest 0 w.crew) w.crew
    by false = refl

greatest_at_most : (known top : ℕ) (crew : List (ActorCrew (List ℕ))) → known ≤ top → ((i : ℕ) (c : ActorCrew (List ℕ)) → slice_get crew i ≡ Some c → c.pass.stamp ≤ top)
    → greatest known crew ≤ top
greatest_at_most known top [] few each = few
greatest_at_most known top (c ∷ crew) few each =
    greatest_at_most (max known c.pass.stamp) top crew (let first = each 0 c refl in omega (arith, few, first)) (λ i x there. each (suc i) x there)

begun_known : (top : ℕ) (crew : List (ActorCrew (List ℕ))) → top ≡ greatest 0 crew → (i : ℕ) (c : ActorCrew (List ℕ)) → slice_get (map (begins top) crew) i ≡ Some c
    → c.pass.stamp ≡ top
begun_known top crew is i c there =
    let found = in_map (begins top) crew i c there in
    let below : found.0.pass.stamp ≤ top = subst (λ n. found.0.pass.stamp ≤ n) (sym is) (greatest_above 0 crew i found.0 found.1) in
    subst (λ x. x.pass.stamp ≡ top) found.2 (omega (arith, below))

begun : (w : Connection) → Every (λ c. c.pass.stamp ≡ greatest 0 (map (begins (greatest 0 w.crew)) w.crew)) (map (begins (greatest 0 w.crew)) w.crew)
begun w = record {
  each = λ i c there.
      let here = begun_known (greatest 0 w.crew) w.crew refl i c there in
      let least = greatest_above 0 (map (begins (greatest 0 w.crew)) w.crew) i c there in
      let most = greatest_at_most 0 (greatest 0 w.crew) (map (begins (greatest 0 w.crew)) w.crew) (omega arith)
      (λ j x found. let same = begun_known (greatest 0 w.crew) w.crew refl j x found in omega (arith, same)) in
      omega (arith, here, least, most);
}

-- where each turn ended, the next round begins
pub next_begins : (top : ℕ) (w : Connection) → IsFine top w → all_over w.crew ≡ true → Begins (end_round w)
next_begins top w fine over = record {
  fine = subst (λ n. IsFine n (end_round w)) (sym (greatest_ended w)) (ended_fine top w over fine);
  known = by (all_over w.crew) over;
}
  where
    by : (b : Bool) → b ≡ true
        → Every (λ c. c.pass.stamp ≡ greatest 0 (if b then record w { crew = map (begins (greatest 0 w.crew)) w.crew } else w).crew)
        (if b then record w { crew = map (begins (greatest 0 w.crew)) w.crew } else w).crew
    by true is = begun w
    by false is = cc

-- a connection that opens begins its first round
pub opened_begins : (start : Start) → Begins (opened_world start)
opened_begins start =
    let unstamped = opened_actors (λ actor c. c.pass.stamp ≡ 0) start refl refl (λ number plan there. refl) in
    let none = greatest_at_most 0 0 (opened_world start).crew (omega arith) (λ i c there. let first = unstamped i c there in omega (arith, first)) in
    let is : 0 ≡ greatest 0 (opened_world start).crew = omega (arith, none) in
    record {
      fine = subst (λ n. IsFine {C = List ℕ} n (opened_world start)) is (opened_fine start);
      known = record { each = λ i c there. let first = unstamped i c there in omega (arith, first, none) };
    }

-- no actor of it has made a step
unstepped : (start : Start) (number : ℕ) (plans : List PathPlan) → map length (lists_of (paths_from {C = List ℕ} start number plans)) ≡ replicate (length plans) 0
unstepped start number [] = refl
unstepped start number (plan ∷ plans) = ap (λ ns. 0 ∷ ns) (unstepped start (suc number) plans)

as_many : (script : Script) (number : ℕ) (lines : List PathLine) → length (plans_from script number lines) ≡ length lines
as_many script number [] = refl
as_many script number (line ∷ lines) = ap suc (as_many script (suc number) lines)

pub opened_lists : (script : Script) (file_a file_b made : List ℕ) (k : Kept) → made ≡ replicate (length script.paths + 2) 0
    → k ≡ standing (opened_world (start_of script file_a file_b)) → made ≡ map length (lists_of k.state.crew)
opened_lists script file_a file_b made k none opens =
    let actors : length script.paths + 2 ≡ suc (suc (length (plans_from script 0 script.paths))) = let same = as_many script 0 script.paths in omega (arith, same) in
    none ∙ ap (λ n. replicate n 0) actors
    ∙ ap (λ ns. 0 ∷ 0 ∷ ns) (sym (unstepped (start_of script file_a file_b) 0 (plans_from script 0 script.paths)))
    ∙ ap (λ (k : Kept). map length (lists_of k.state.crew)) (sym opens)
