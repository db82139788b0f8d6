-- Where a side goes by infinite mappings (RFC 8684, section 3.7): all that it tells in a run are of one path, with one place less position. Its own one is that of the path that
-- its send book was given to; in plain TCP the place is one less than the position, on path 0. No side tells of both kinds.
use Rattle.std.proofs.Common.{◌≡◌, refl, sym, ap, ◌∙◌, subst, ℕ, ℤ, zero, suc, pos, ◌+◌, ◌-◌, ◌≤◌, not, Bool, true, false, Option, Some, None, List, ◌++◌, length, arith}
use Rattle.std.specs.List.{slice_get}
use Rattle.std.specs.Option.{IfSome}
use Rattle.std.proofs.lemmas.Int.{ints}
use Rattle.actor_desk.specs.Books.{books_in}
use Rattle.actor_desk.specs.Desk.{SixBooks, control_of, send_of}
use Rattle.fallback_state.specs.Modes.{is_identity}
use Rattle.judge_rules.specs.Mappings.{shift_of}
use Rattle.path_core.specs.State.{PathState, end_at}
use Rattle.path_core.specs.Values.{Carried, values}
use Rattle.path_store.specs.declared.infinite_mapping.InfiniteMapping.{InfiniteMapping}
use Rattle.sides.specs.declared.side.Side.TheVariants.{A, B}
use Rattle.sides.specs.declared.side.Side.{Side}
use Rattle.stream_lanes.proofs.Duos.{any_held}
use Rattle.stream_lanes.proofs.Lists.{in_map}
use Rattle.stream_lanes.specs.Duo.{Duo, flags_ab, flags_ba}
use Rattle.stream_lanes.specs.Holding.{Holds, IsEndless}
use Rattle.stream_lanes.specs.Lane.{Cell, Pair}
use Rattle.stream_lanes.specs.View.{View, view_of}
use Rattle.world_laws.proofs.Falls.AreRight.{falls_are_right}
use Rattle.world_laws.proofs.Falls.ByTheJournal.{Was, run_was}
use Rattle.world_laws.proofs.Keys.ByJournals.{Knows, run_causes}
use Rattle.world_laws.proofs.Lanes.OfAWorld.{Carries as MayCarry, PathIsSteady, Reached, WorldShows, duo_of}
use Rattle.world_laws.proofs.Lanes.Showing.{OwnIs}
use Rattle.world_laws.proofs.Weaving.WholeRounds.{run_append}
use Rattle.world_laws.proofs.Worlds.Casts.{Cast, Walker, walking, world_of}
use Rattle.world_laws.proofs.Worlds.Steady.{always_steady}
use Rattle.world_laws.specs.Actors.{Actor, ActorCrew}
use Rattle.world_laws.specs.Openings.{Start, opened_world}
use Rattle.world_laws.specs.Worlds.{Turn, WorldState, world_run}
use Rattle.world_laws.specs.declared.member.Member.TheVariants.{App, Path}
use Rattle.own_runs.proofs.OwnSends.{always_own, own_at, own_in, own_stays}
use Rattle.own_runs.proofs.Reached.{duo_at}
use Rattle.own_runs.proofs.SendingModes.{always_sends}

-- one path, and one place less position
pub record Home : Type 0 where
  pub path : ℕ
  pub shift : ℤ

-- an infinite mapping that is told there
pub record IsHome (home : Home) (path place position : ℕ) : Type 0 where
  pub path_is : path ≡ home.path
  pub shift_is : shift_of place (pos position) ≡ home.shift

pub homes_agree : (home : Home) (p q place position other_place other_position : ℕ) → IsHome home p place position → IsHome home q other_place other_position
    → (p ≡ q) × (place + other_position ≡ other_place + position)
homes_agree home p q place position other_place other_position x y =
    (x.path_is ∙ sym y.path_is, let same : shift_of place (pos position) ≡ shift_of other_place (pos other_position) = x.shift_is ∙ sym y.shift_is in omega (arith, ints, same))

-- ---- where that is

abbrev pub owner_or : Option ℕ → ℕ
owner_or None = 0
owner_or (Some n) = n

abbrev pub shift_by : Option InfiniteMapping → ℤ
shift_by None = shift_of 0 (pos 1)
shift_by (Some m) = shift_of m.place (pos m.position)

abbrev pub home_in : WorldState Carried → Side → Home
home_in w s =
    let path = owner_or (send_of s (books_in w.books)).owner in record { path = path; shift = shift_by (own_in s (slice_get w.crew (suc (suc path)))) }

-- behind all turns
abbrev pub home_of : Start → List Turn → Side → Home
home_of start turns s = home_in (world_run values turns (opened_world start)) s

-- ---- by the lanes at a moment

-- a lane that goes by an own mapping is the one that the book was given to
given : (owner : Option ℕ) (number : ℕ) (view : View) (sent : List Cell) (pair : Option Pair) (pairs : List Pair) (fins : List ℕ) (alters : Bool) (o : Option InfiniteMapping) (m : InfiniteMapping) → o ≡ Some m
    → IfSome o (OwnIs pair pairs fins alters) → IfSome pair (λ x. IsEndless number view sent x × (x.place ≤ view.acked) × (owner ≡ Some number)) → owner ≡ Some number
given owner number view sent pair pairs fins alters o m is own held =
    let goes : OwnIs pair pairs fins alters m = subst (λ (x : Option InfiniteMapping). IfSome x (OwnIs pair pairs fins alters)) is own in
    (subst (λ (x : Option Pair). IfSome x (λ y. IsEndless number view sent y × (y.place ≤ view.acked) × (owner ≡ Some number))) goes.there held).2

module _ (start : Start) (can : MayCarry start) (turns : List Turn) (q : Reached can.links start (world_run values turns (opened_world start))) where
  abbrev w : WorldState Carried
  w = world_run values turns (opened_world start)

  abbrev h : WorldShows can.links start (duo_at start can w q) w
  h = q.shows

  abbrev six : SixBooks
  six = books_in h.cast.books

  abbrev duo : Duo
  duo = duo_of can.links six h.lanes_ab h.lanes_ba h.reader_a h.reader_b

  holds : Holds duo
  holds = subst Holds h.duo_is (any_held can.links.alters can.links.checked (length start.paths) start.buffer start.buffer q.events)

  owner_so : (s : Side) (number : ℕ) (x : Walker Carried) → slice_get h.cast.paths number ≡ Some x → (m : InfiniteMapping) → (end_at s x.path).modes.own_infinite ≡ Some m → (send_of s six).owner ≡ Some number
  owner_so A number x at m is =
      let there = h.paths.each number number x (omega arith) at in
      let hold = holds.ab.lanes.each number number there.ab (omega arith) there.ab_there in
      given six.send_a.owner number (view_of (flags_ab duo.modes) duo.ab.send duo.ab.arrived) there.ab.sent there.ab.pair there.ab.pairs there.ab.fins there.ab.alters x.path.a.modes.own_infinite m is there.shows.a.pairs.0 hold.pairs.own
  owner_so B number x at m is =
      let there = h.paths.each number number x (omega arith) at in
      let hold = holds.ba.lanes.each number number there.ba (omega arith) there.ba_there in
      given six.send_b.owner number (view_of (flags_ba duo.modes) duo.ba.send duo.ba.arrived) there.ba.sent there.ba.pair there.ba.pairs there.ba.fins there.ba.alters x.path.b.modes.own_infinite m is there.shows.b.pairs.0 hold.pairs.own

  -- where no join was answered that is path 0
  alone_so : (s : Side) (number : ℕ) → six.control_b.fall.joined ≡ false → (send_of s six).owner ≡ Some number → number ≡ 0
  alone_so A number none is = holds.ab.owner number is (ap not none)
  alone_so B number none is = holds.ba.owner number is (ap not none)

  abbrev OwnerAt : WorldState Carried → Type 0
  OwnerAt v = (s : Side) (number : ℕ) (m : InfiniteMapping) → own_in s (slice_get v.crew (suc (suc number))) ≡ Some m → (send_of s (books_in v.books)).owner ≡ Some number

  owner_there : OwnerAt (world_of h.cast)
  owner_there s number m is = by (slice_get (world_of h.cast).crew (suc (suc number))) refl is
    where
      by : (o : Option (ActorCrew Carried)) → slice_get (world_of h.cast).crew (suc (suc number)) ≡ o → own_in s o ≡ Some m → (send_of s six).owner ≡ Some number
      by None at none = cc
      by (Some c) at own =
          let found = in_map walking h.cast.paths number c at in
          owner_so s number found.0 found.1 m (subst (λ (y : ActorCrew Carried). own_at s y.member ≡ Some m) (sym found.2) own)

  pub owner_at : OwnerAt w
  owner_at = subst OwnerAt (sym h.is) owner_there

  abbrev AloneAt : WorldState Carried → Type 0
  AloneAt v = (s : Side) (number : ℕ) → (control_of B (books_in v.books)).fall.joined ≡ false → (send_of s (books_in v.books)).owner ≡ Some number → number ≡ 0

  pub alone_at : AloneAt w
  alone_at = subst AloneAt (sym h.is) alone_so

  -- ---- what is told behind all turns

  -- the own one
  pub own_home : (s : Side) (number : ℕ) (m : InfiniteMapping) → own_in s (slice_get w.crew (suc (suc number))) ≡ Some m → IsHome (home_of start turns s) number m.place m.position
  own_home s number m is = record {
    path_is = sym same;
    shift_is = ap shift_by (sym is) ∙ ap (λ (n : ℕ). shift_by (own_in s (slice_get w.crew (suc (suc n))))) (sym same);
  }
    where
      same : owner_or (send_of s (books_in w.books)).owner ≡ number
      same = ap owner_or (owner_at s number m is)

  -- in plain TCP
  pub plain_home : (s : Side) → Was is_identity w.books s → (position : ℕ) → 1 ≤ position → IsHome (home_of start turns s) 0 (position - 1) position
  plain_home s fell position some = record { path_is = first (send_of s (books_in w.books)).owner refl; shift_is = one_less ∙ ap shift_by (sym (none (owner_or (send_of s (books_in w.books)).owner))) }
    where
      first : (o : Option ℕ) → (send_of s (books_in w.books)).owner ≡ o → 0 ≡ owner_or o
      first None is = refl
      first (Some n) is = sym (alone_at s n ((falls_are_right start turns).answered s fell) is)

      one_less : shift_of (position - 1) (pos position) ≡ shift_of 0 (pos 1)
      one_less = omega (arith, ints, some)

      none : (n : ℕ) → own_in s (slice_get w.crew (suc (suc n))) ≡ None
      none n = by (own_in s (slice_get w.crew (suc (suc n)))) refl
        where
          by : (o : Option InfiniteMapping) → own_in s (slice_get w.crew (suc (suc n))) ≡ o → o ≡ None
          by None is = refl
          by (Some m) is = absurd ((always_sends start turns).never s ((always_own start turns).was (suc (suc n)) s m is) fell)

-- ---- at a moment of a run

-- an end in plain TCP is of path 0, and of a side that fell back
module _ (start : Start) (turns : List Turn) where
  abbrev FellAt : WorldState Carried → Type 0
  FellAt v = (s : Side) (number : ℕ) (x : Walker Carried) → slice_get v.crew (suc (suc number)) ≡ Some (walking x) → (end_at s x.path).modes.identity ≡ true → Was is_identity v.books s

  pub fell_at : FellAt (world_run values turns (opened_world start))
  fell_at = let run = run_causes start turns in subst FellAt (sym run.is) (of_cast run.cast (λ n x there. run.holds.paths.each n x there))
    where
      of_cast : (t : Cast Carried) → ((n : ℕ) (x : Walker Carried) → slice_get t.paths n ≡ Some x → Knows start t x.path) → FellAt (world_of t)
      of_cast t knows s number x at is =
          let found = in_map walking t.paths number (walking x) at in
          fell s found.0.path (knows number found.0 found.1) (subst (λ (m : Actor Carried). fallen s m ≡ true) (sym (ap (λ (c : ActorCrew Carried). c.member) found.2)) is)
        where
          fallen : Side → Actor Carried → Bool
          fallen s (App a) = false
          fallen s (Path p) = (end_at s p).modes.identity

          fell : (s : Side) (p : PathState Carried) → Knows start t p → (end_at s p).modes.identity ≡ true → Was is_identity t.books s
          fell A p k is = (k.is.a.modes.fell is).1.1
          fell B p k is = (k.is.b.modes.fell is).1.1

  pub first_at : (s : Side) (number : ℕ) (x : Walker Carried) → slice_get (world_run values turns (opened_world start)).crew (suc (suc number)) ≡ Some (walking x)
      → (end_at s x.path).modes.identity ≡ true → number ≡ 0
  first_at s zero x at is = refl
  first_at s (suc n) x at is =
      let steady : PathIsSteady (books_in (world_run values turns (opened_world start)).books) (suc n) x.path = (always_steady start turns).each (suc n) (walking x) at in
      let apart = steady.mode n refl s in let never : true ≡ false = sym is ∙ apart in cc

module _ (start : Start) (can : MayCarry start) (more later turns : List Turn) (is : more ++ later ≡ turns) (q : Reached can.links start (world_run values turns (opened_world start)))
    (number : ℕ) (x : Walker Carried) (at : slice_get (world_run values more (opened_world start)).crew (suc (suc number)) ≡ Some (walking x)) (s : Side) where
  pub own_told : (m : InfiniteMapping) → (end_at s x.path).modes.own_infinite ≡ Some m → IsHome (home_of start turns s) number m.place m.position
  own_told m own = own_home start can turns q s number m (own_stays start more later turns is (suc (suc number)) s m (ap (own_in s) at ∙ own))

  pub plain_told : (end_at s x.path).modes.identity ≡ true → (position : ℕ) → 1 ≤ position → IsHome (home_of start turns s) number (position - 1) position
  plain_told fell position some =
      let joins : world_run values later (world_run values more (opened_world start)) ≡ world_run values turns (opened_world start) = sym (run_append values more later (opened_world start)) ∙ ap (λ (ts : List Turn). world_run values ts (opened_world start)) is in
      let was : Was is_identity (world_run values turns (opened_world start)).books s =
      subst (λ (v : WorldState Carried). Was is_identity v.books s) joins (run_was is_identity values s later (world_run values more (opened_world start)) (fell_at start more s number x at fell)) in
      subst (λ (n : ℕ). IsHome (home_of start turns s) n (position - 1) position) (sym (first_at start more s number x at fell)) (plain_home start can turns q s was position some)
