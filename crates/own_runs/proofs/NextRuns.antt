-- What an end acknowledges of its peer's stream never falls while turns are made.
use Rattle.std.proofs.Common.{◌≡◌, refl, sym, ap, ◌∙◌, subst, ℕ, zero, suc, ◌≤◌, ◌⊎◌, inl, inr, ⊎_elim, Option, Some, option_map, List, [], ◌∷◌, map, arith}
use Rattle.std.specs.List.{slice_get}
use Rattle.actor_desk.specs.Books.{books_in}
use Rattle.actor_desk.specs.Desk.{SixBooks, after_ask}
use Rattle.actor_desk.specs.declared.ask.Ask.{Ask}
use Rattle.path_core.specs.Start.{PathStart, waiting_path}
use Rattle.path_core.specs.Steps.{begins_turn, next_round, takes}
use Rattle.std.proofs.Math.ListN.{set}
use Rattle.path_core.specs.State.{PathState, end_at}
use Rattle.path_core.specs.Values.{Carried, values}
use Rattle.reassembly_book.proofs.Bounds.{sound-opened}
use Rattle.sides.specs.declared.side.Side.TheVariants.{A, B}
use Rattle.sides.specs.declared.side.Side.{Side}
use Rattle.stream_lanes.proofs.Lists.{in_map, in_set, set_other, set_same}
use Rattle.world_laws.proofs.Weaving.Journals.{books_after}
use Rattle.world_laws.proofs.Worlds.Opened.{opened_actors}
use Rattle.world_laws.proofs.Worlds.Turns.{turn_so}
use Rattle.world_laws.proofs.Writes.Steps.{begins_lasts}
use Rattle.world_laws.specs.Actors.{Actor, ActorCrew, member_asks, member_next, member_takes}
use Rattle.world_laws.specs.Openings.{Start, path_begins, opened_world}
use Rattle.world_laws.specs.StampedBooks.{answer_to}
use Rattle.world_laws.specs.Worlds.{Turn, WorldState, after_turn, begins, crew_after, greatest, world_run}
use Rattle.world_laws.specs.declared.member.Member.TheVariants.{App, Path}
use Rattle.own_runs.proofs.NextGrows.{AreSound, Below, NextUp, Same, path_step, round_step, same_lasts, sound_on, wanted, wanted_up}

-- ---- members

-- the path of a member acknowledges no less on each side
abbrev pub MemberUp : Actor Carried → Actor Carried → Type 0
MemberUp (App a) n = Unit {0}
MemberUp (Path p) n = (q : PathState Carried) × (n ≡ Path q) × NextUp p q

abbrev pub MemberBelow : SixBooks → Actor Carried → Type 0
MemberBelow six (App a) = Unit {0}
MemberBelow six (Path p) = Below six p

up_same : (m : Actor Carried) → MemberUp m m
up_same (App a) = tt
up_same (Path p) = (p, refl, λ s. omega arith)

up_then : (m n o : Actor Carried) → MemberUp m n → MemberUp n o → MemberUp m o
up_then (App a) n o x y = tt
up_then (Path p) n o x y =
    let z = subst (λ (n : Actor Carried). MemberUp n o) x.1 y in
    (z.0, z.1, λ s. let one = x.2 s in let other = z.2 s in omega (arith, one, other))

below_on : (x : Ask) (six : SixBooks) → AreSound six → (m : Actor Carried) → MemberBelow six m → MemberBelow (after_ask x six) m
below_on x six sound (App a) h = tt
below_on x six sound (Path p) h = λ s. let low = h s in let up = wanted_up s x six sound in omega (arith, low, up)

-- ---- worlds

pub record WorldNext (w : WorldState Carried) : Type 0 where
  pub sound : AreSound (books_in w.books)
  pub below : (i : ℕ) (c : ActorCrew Carried) → slice_get w.crew i ≡ Some c → MemberBelow (books_in w.books) c.member

abbrev pub WorldUp : WorldState Carried → WorldState Carried → Type 0
WorldUp w v = (i : ℕ) (c : ActorCrew Carried) → slice_get w.crew i ≡ Some c → (d : ActorCrew Carried) × (slice_get v.crew i ≡ Some d) × MemberUp c.member d.member

is_equal : (i j : ℕ) → (i ≡ j) ⊎ (i ≡ j → ⊥)
is_equal zero zero = inl refl
is_equal zero (suc j) = inr (λ same. cc)
is_equal (suc i) zero = inr (λ same. cc)
is_equal (suc i) (suc j) = ⊎_elim (λ same. inl (ap suc same)) (λ apart. inr (λ same. apart (omega (arith, same)))) (is_equal i j)

at_map : {X Y : Type 0} (f : X → Y) (xs : List X) (i : ℕ) (x : X) → slice_get xs i ≡ Some x → slice_get (map f xs) i ≡ Some (f x)
at_map f [] i x at = cc
at_map f (y ∷ xs) zero x at = ap (option_map f) at
at_map f (y ∷ xs) (suc i) x at = at_map f xs i x at

takes_member : (w : WorldState Carried) (c : ActorCrew Carried) (x : Ask) → member_asks values c.member ≡ Some x → WorldNext w → MemberBelow (books_in w.books) c.member
    → MemberUp c.member (crew_after values x w.books c).member × MemberBelow (after_ask x (books_in w.books)) (crew_after values x w.books c).member
takes_member w c x asks h low = by c.member asks low
  where
    by : (m : Actor Carried) → member_asks values m ≡ Some x → MemberBelow (books_in w.books) m
        → MemberUp m (member_takes values (answer_to w.books x) m) × MemberBelow (after_ask x (books_in w.books)) (member_takes values (answer_to w.books x) m)
    by (App a) asks low = (tt, tt)
    by (Path p) asks low = let step = path_step (books_in w.books) p x asks h.sound low in ((takes values (answer_to w.books x) p, refl, step.0), step.1)

turn_next : (turn : Turn) (w : WorldState Carried) → WorldNext w → WorldNext (after_turn values turn w) × WorldUp w (after_turn values turn w)
turn_next turn w h =
    turn_so values (λ v. WorldNext v × WorldUp w v) turn w
    (h, λ i c at. (c, at, up_same c.member))
    (λ actor c x there is.
    let six = books_in w.books in
    let step = takes_member w c x is h (h.below actor c there) in
    let same = books_after x c.pass w.books in
    let next = crew_after values x w.books c in (
      record {
        sound = subst AreSound (sym same) (sound_on x six h.sound);
        below = λ i d at. subst (λ (b : SixBooks). MemberBelow b d.member) (sym same)
            (⊎_elim
            (λ here. subst (λ (y : ActorCrew Carried). MemberBelow (after_ask x six) y.member) here.1 step.1)
            (λ other. below_on x six h.sound d.member (h.below i d other.1))
            (in_set w.crew actor next i d at));
      },
      λ i d at. ⊎_elim
          (λ here.
          let is_it : c ≡ d = some_is c d (sym there ∙ ap (slice_get w.crew) (sym here) ∙ at) in
          (next, ap (slice_get (set w.crew actor next)) here ∙ set_same w.crew actor next c there, subst (λ (y : ActorCrew Carried). MemberUp y.member next.member) is_it step.0))
          (λ apart. (d, set_other w.crew actor next i apart ∙ at, up_same d.member))
          (is_equal i actor),
    ))
    (λ over. (
      record {
        sound = h.sound;
        below = λ i d at. let found = in_map (begins (greatest 0 w.crew)) w.crew i d at in
            subst (λ (y : ActorCrew Carried). MemberBelow (books_in w.books) y.member) found.2 (next_below (books_in w.books) found.0.member (h.below i found.0 found.1));
      },
      λ i d at. (begins (greatest 0 w.crew) d, at_map (begins (greatest 0 w.crew)) w.crew i d at, next_up d.member),
    ))
  where
    some_is : (x y : ActorCrew Carried) → (let one : Option (ActorCrew Carried) = Some x in one) ≡ Some y → x ≡ y
    some_is x y e = cc

    round_at : (s : Side) (p : PathState Carried) → (end_at s (next_round p)).receiving.next ≡ (end_at s p).receiving.next
    round_at A p = (round_step p).0
    round_at B p = (round_step p).1

    next_below : (six : SixBooks) (m : Actor Carried) → MemberBelow six m → MemberBelow six (member_next m)
    next_below six (App a) low = tt
    next_below six (Path p) low = λ s. let at = low s in let same = round_at s p in omega (arith, at, same)

    next_up : (m : Actor Carried) → MemberUp m (member_next m)
    next_up (App a) = tt
    next_up (Path p) = (next_round p, refl, λ s. let same = round_at s p in omega (arith, same))

pub run_next : (turns : List Turn) (w : WorldState Carried) → WorldNext w → WorldNext (world_run values turns w) × WorldUp w (world_run values turns w)
run_next [] w h = (h, λ i c at. (c, at, up_same c.member))
run_next (turn ∷ turns) w h =
    let one = turn_next turn w h in
    let rest = run_next turns (after_turn values turn w) one.0 in (
      rest.0,
      λ i c at. let d = one.1 i c at in let e = rest.1 i d.0 d.1 in (e.0, e.1, up_then c.member d.0.member e.0.member d.2 e.2),
    )

pub opened_next : (start : Start) → WorldNext (opened_world start)
opened_next start = record {
  sound = record { a = sound-opened start.buffer; b = sound-opened start.buffer };
  below = opened_actors (λ actor c. MemberBelow (books_in (let w : WorldState Carried = opened_world start in w).books) c.member) start tt tt
      (λ number plan there.
      let p = waiting_path (path_begins start number plan) start.lines in
      let same = begins_lasts Same same_lasts p in
      (λ s. zero_at s p (begins_turn p) same (first_zero s (path_begins start number plan))));
}
  where
    first_zero : (s : Side) (begun : PathStart) → (end_at s (let q : PathState Carried = waiting_path begun start.lines in q)).receiving.next ≡ 0
    first_zero A begun = refl
    first_zero B begun = refl

    zero_at : (s : Side) (p q : PathState Carried) → Same p q → (end_at s p).receiving.next ≡ 0 → (end_at s q).receiving.next ≤ wanted s (books_in (let w : WorldState Carried = opened_world start in w).books)
    zero_at A p q same none = let is = same.0 in omega (arith, is, none)
    zero_at B p q same none = let is = same.1 in omega (arith, is, none)

-- at any moment, whatever turns follow
pub never_falls : (start : Start) (before later : List Turn) → WorldUp (world_run values before (opened_world start)) (world_run values later (world_run values before (opened_world start)))
never_falls start before later = (run_next later (world_run values before (opened_world start)) (run_next before (opened_world start) (opened_next start)).0).1
