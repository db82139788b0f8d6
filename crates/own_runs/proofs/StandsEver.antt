-- At each moment of a run: an end is connected only where its path stands at its side's control book, or it is to tell that book first, and has no octets to
-- send yet.
use Rattle.std.proofs.Common.{◌≡◌, refl, sym, ap, ◌∙◌, subst, ℕ, suc, ◌+◌, ◌<◌, ◌≤◌, ⊎_elim, inl, inr, Bool, true, false, Option, Some, None, List, [], ◌∷◌, length, map, arith}
use Rattle.std.specs.List.{slice_get}
use Rattle.std.proofs.lemmas.Bool.{both_ways, false≢true}
use Rattle.std.proofs.lemmas.Option.{same_Some, slice_get_within}
use Rattle.actor_desk.specs.Books.{books_in}
use Rattle.actor_desk.specs.Desk.{SixBooks, after_ask, reply_of}
use Rattle.actor_desk.specs.Words.{is_nil}
use Rattle.actor_desk.specs.declared.ask.Ask.{Ask}
use Rattle.actor_desk.specs.declared.ask.Reply.{Reply}
use Rattle.control_book.specs.Registry.{opening_paths}
use Rattle.control_book.specs.declared.call.ControlCall.{ControlCall}
use Rattle.path_agenda.specs.declared.duty.Duty.{Duty}
use Rattle.path_core.specs.Duties.{ask_for}
use Rattle.path_core.specs.Standing.{is_connected}
use Rattle.path_core.specs.Start.{first_state, waiting_path}
use Rattle.path_core.specs.State.{PathState, end_at, path_of}
use Rattle.path_core.specs.Steps.{asks_first, begins_turn, next_round, takes}
use Rattle.path_core.specs.Values.{Carried, values}
use Rattle.sides.specs.declared.side.Side.TheVariants.{A, B}
use Rattle.sides.specs.declared.side.Side.{Side}
use Rattle.stream_lanes.proofs.Lists.{in_map, in_set}
use Rattle.world_laws.proofs.Rounds.Lifting.{all_over_each}
use Rattle.world_laws.proofs.Weaving.Journals.{books_after}
use Rattle.world_laws.proofs.Worlds.Opened.{opened_actors}
use Rattle.world_laws.proofs.Worlds.Turns.{turn_so}
use Rattle.world_laws.proofs.Writes.Paths.{passes_no_more, writes_no_more}
use Rattle.world_laws.proofs.Writes.Steps.{Lasts, begins_lasts, takes_lasts}
use Rattle.world_laws.specs.Actors.{Actor, ActorCrew, is_over, member_asks, member_next, member_takes}
use Rattle.world_laws.specs.Openings.{PathPlan, Start, joins_at, new_path, opened_world, path_begins}
use Rattle.world_laws.specs.Worlds.{Turn, WorldState, after_turn, all_over, asked, begins, crew_after, greatest, world_run}
use Rattle.world_laws.specs.Writes.{PathView}
use Rattle.world_laws.specs.declared.member.Member.TheVariants.{App, Path}
use Rattle.own_runs.proofs.Leaving.{Ups, is_up, ups_at, ups_last}
use Rattle.own_runs.proofs.StandsWorld.{Long, PathOnes, PathStands, app_asked, ask_long, ask_stands, dead_asked, path_next, path_takes}

-- ---- numbers of paths

number_lasts : Lasts {C = Carried} (λ p q. path_of q ≡ path_of p)
number_lasts = record {
  agenda = λ ds p. refl;
  chains = λ p q r one other. other ∙ one;
  passes = λ d p. ap (λ (v : PathView Carried). v.number) (passes_no_more d p).same;
}

takes_number : (r : Reply) (p : PathState Carried) → path_of (takes values r p) ≡ path_of p
takes_number r p = takes_lasts (λ p q. path_of q ≡ path_of p) number_lasts values r p (λ d. ap (λ (v : PathView Carried). v.number) (writes_no_more values d r p).same)

next_number : (p : PathState Carried) → path_of (next_round p) ≡ path_of p
next_number p = begins_lasts (λ p q. path_of q ≡ path_of p) number_lasts (record p { clock = p.until; until = p.until + 100 })

-- ---- actors

-- an actor of the crew, by its place there
abbrev pub Numbered : ℕ → Actor Carried → Type 0
Numbered i (App a) = Unit {0}
Numbered i (Path p) = (i ≡ suc (suc (path_of p))) × (path_of p < 16)

abbrev pub MemberOnes : Actor Carried → Type 0
MemberOnes (App a) = Unit {0}
MemberOnes (Path p) = PathOnes p

abbrev pub MemberStands : SixBooks → Actor Carried → Type 0
MemberStands six (App a) = Unit {0}
MemberStands six (Path p) = PathStands six (path_of p) p

numbered_takes : (i : ℕ) (r : Reply) (m : Actor Carried) → Numbered i m → Numbered i (member_takes values r m)
numbered_takes i r (App a) h = tt
numbered_takes i r (Path p) h = subst (λ (n : ℕ). (i ≡ suc (suc n)) × (n < 16)) (sym (takes_number r p)) h

numbered_next : (i : ℕ) (m : Actor Carried) → Numbered i m → Numbered i (member_next m)
numbered_next i (App a) h = tt
numbered_next i (Path p) h = subst (λ (n : ℕ). (i ≡ suc (suc n)) × (n < 16)) (sym (next_number p)) h

takes_stands : (six : SixBooks) (i : ℕ) (m : Actor Carried) (x : Ask) → Long six → Numbered i m → MemberOnes m → member_asks values m ≡ Some x → MemberStands six m
    → MemberStands (after_ask x six) (member_takes values (reply_of six x) m)
takes_stands six i (App a) x long number ones asks h = tt
takes_stands six i (Path p) x long number ones asks h =
    subst (λ (n : ℕ). PathStands (after_ask x six) n (takes values (reply_of six x) p)) (sym (takes_number (reply_of six x) p))
    (path_takes six (path_of p) number.1 long p refl ones h x asks (reply_of six x))

none_left : (ds : List Duty) → is_nil ds ≡ true → ds ≡ []
none_left [] is = refl
none_left (d ∷ ds) is = absurd (false≢true is)

next_stands : (six : SixBooks) (m : Actor Carried) → is_over m ≡ true → MemberStands six m → MemberStands six (member_next m)
next_stands six (App a) over h = tt
next_stands six (Path p) over h =
    subst (λ (n : ℕ). PathStands six n (next_round p)) (sym (next_number p)) (path_next six (path_of p) p (none_left p.agenda over) h)

-- whose path a book is told to be dead
dead_own : (i : ℕ) (m : Actor Carried) (x : Ask) (s : Side) (n : ℕ) → Numbered i m → member_asks values m ≡ Some x → x ≡ Ask.Control s (ControlCall.Dead n) → i ≡ suc (suc n)
dead_own i (App a) x s n number asks is = absurd (app_asked a.agenda a s n (asks ∙ ap (λ (y : Ask). Some y) is))
dead_own i (Path p) x s n number asks is = by p.agenda asks
  where
    by : (ds : List Duty) → asks_first values ds p ≡ Some x → i ≡ suc (suc n)
    by [] asks = cc
    by (d ∷ ds) asks = number.0 ∙ ap (λ (k : ℕ). suc (suc k)) (dead_asked d p s n (same_Some (ask_for values d p) x asks ∙ is)).1

other_stands : (six : SixBooks) (i j : ℕ) (m e : Actor Carried) (x : Ask) → (j ≡ i → ⊥) → Long six → Numbered i m → Numbered j e → member_asks values m ≡ Some x → MemberStands six e → MemberStands (after_ask x six) e
other_stands six i j m (App a) x apart long number other asks h = tt
other_stands six i j m (Path p) x apart long number other asks h = record {
  stand = λ s up. ⊎_elim (λ lives. inl (ask_stands six x s (path_of p) other.1 long (λ dead. apart (other.0 ∙ sym (dead_own i m x s (path_of p) number asks dead))) lives)) (λ owes. inr owes) (h.stand s up);
  leave = h.leave;
}

-- ---- worlds

pub record WorldStands (w : WorldState Carried) : Type 0 where
  pub long : Long (books_in w.books)
  pub numbered : (i : ℕ) (c : ActorCrew Carried) → slice_get w.crew i ≡ Some c → Numbered i c.member
  pub each : (i : ℕ) (c : ActorCrew Carried) → slice_get w.crew i ≡ Some c → MemberStands (books_in w.books) c.member

abbrev pub Ones : WorldState Carried → Type 0
Ones w = (i : ℕ) (c : ActorCrew Carried) → slice_get w.crew i ≡ Some c → MemberOnes c.member

module _ (w : WorldState Carried) (ones : Ones w) (h : WorldStands w) where
  module _ (actor : ℕ) (c : ActorCrew Carried) (x : Ask) (there : slice_get w.crew actor ≡ Some c) (asks : member_asks values c.member ≡ Some x) where
    abbrev v : WorldState Carried
    v = asked values actor (Some x) c w

    abbrev d : ActorCrew Carried
    d = crew_after values x w.books c

    step : WorldStands v
    step = record { long = subst Long (sym (books_after x c.pass w.books)) (ask_long (books_in w.books) x h.long); numbered = numbered; each = each }
      where
        numbered : (i : ℕ) (e : ActorCrew Carried) → slice_get v.crew i ≡ Some e → Numbered i e.member
        numbered i e at = ⊎_elim
            (λ it. subst (λ (y : ActorCrew Carried). Numbered i y.member) it.1
            (numbered_takes i (reply_of (books_in w.books) x) c.member (subst (λ (k : ℕ). Numbered k c.member) (sym it.0) (h.numbered actor c there))))
            (λ other. h.numbered i e other.1)
            (in_set w.crew actor d i e at)

        each : (i : ℕ) (e : ActorCrew Carried) → slice_get v.crew i ≡ Some e → MemberStands (books_in v.books) e.member
        each i e at = subst (λ (six : SixBooks). MemberStands six e.member) (sym (books_after x c.pass w.books)) (⊎_elim
            (λ it. subst (λ (y : ActorCrew Carried). MemberStands (after_ask x (books_in w.books)) y.member) it.1
            (takes_stands (books_in w.books) actor c.member x h.long (h.numbered actor c there) (ones actor c there) asks (h.each actor c there)))
            (λ other. other_stands (books_in w.books) actor i c.member e.member x other.0 h.long (h.numbered actor c there) (h.numbered i e other.1) asks (h.each i e other.1))
            (in_set w.crew actor d i e at))

  round : all_over w.crew ≡ true → WorldStands (record w { crew = map (begins (greatest 0 w.crew)) w.crew })
  round over = record {
    long = h.long;
    numbered = λ i e at.
        let found = in_map (begins (greatest 0 w.crew)) w.crew i e at in
        subst (λ (y : ActorCrew Carried). Numbered i y.member) found.2 (numbered_next i found.0.member (h.numbered i found.0 found.1));
    each = λ i e at.
        let found = in_map (begins (greatest 0 w.crew)) w.crew i e at in
        subst (λ (y : ActorCrew Carried). MemberStands (books_in w.books) y.member) found.2
        (next_stands (books_in w.books) found.0.member (all_over_each w.crew i found.0 over found.1) (h.each i found.0 found.1));
  }

  turn_stands : (turn : Turn) → WorldStands (after_turn values turn w)
  turn_stands turn = turn_so values WorldStands turn w h (λ actor c x there asks. step actor c x there asks) (λ over. round over)

run_stands : (turns : List Turn) (w : WorldState Carried) → ((more : List Turn) → Ones (world_run values more w)) → WorldStands w → WorldStands (world_run values turns w)
run_stands [] w ones h = h
run_stands (turn ∷ turns) w ones h = run_stands turns (after_turn values turn w) (λ more. ones (turn ∷ more)) (turn_stands w (ones []) h turn)

-- ---- the beginning

opened_rows : length opening_paths ≡ 16
unfolding opening_paths
opened_rows = refl

module _ (start : Start) (few : length start.paths ≤ 16) where
  opened_long : Long (books_in (opened_world {C = Carried} start).books)
  opened_long A = opened_rows
  opened_long B = opened_rows

  module _ (number : ℕ) (plan : PathPlan) (there : slice_get start.paths number ≡ Some plan) where
    abbrev first : PathState Carried
    first = waiting_path (path_begins start number plan) start.lines

    same : path_of (begins_turn first) ≡ number
    same = begins_lasts (λ p q. path_of q ≡ path_of p) number_lasts first

    downs : (s : Side) → is_up (end_at s (begins_turn first)) ≡ false
    downs s = by (is_up (end_at s (begins_turn first))) (ups_at s first (begins_turn first) (begins_lasts (λ (p q : PathState Carried). Ups p q) ups_last first))
      where
        begun : (o : Option ℕ) → is_connected (first_state o) ≡ true → ⊥
        begun None is = false≢true is
        begun (Some tick) is = false≢true is

        none : (s : Side) → is_up (end_at s first) ≡ true → ⊥
        none A is = begun (joins_at number plan.join) is
        none B is = false≢true is

        by : (b : Bool) → (b ≡ true → is_up (end_at s first) ≡ true) → b ≡ false
        by false up = refl
        by true up = absurd (none s (up refl))

    numbered_path : Numbered (suc (suc number)) (new_path {C = Carried} start number plan).member
    numbered_path = (ap (λ (n : ℕ). suc (suc n)) (sym same), let low = slice_get_within start.paths number plan there in omega (arith, low, few, same))

    path_stands : (six : SixBooks) → MemberStands six (new_path {C = Carried} start number plan).member
    path_stands six = record { stand = λ s up. absurd (both_ways (is_up (end_at s (begins_turn first))) (downs s) up); leave = λ s is. downs s }

  opened_stands : WorldStands (opened_world start)
  opened_stands = record {
    long = opened_long;
    numbered = opened_actors (λ i c. Numbered i c.member) start tt tt (λ number plan there. numbered_path number plan there);
    each = opened_actors (λ i c. MemberStands (books_in (opened_world {C = Carried} start).books) c.member) start tt tt (λ number plan there. path_stands number plan there (books_in (opened_world {C = Carried} start).books));
  }

  pub always_stands : (turns : List Turn) → ((more : List Turn) → Ones (world_run values more (opened_world start))) → WorldStands (world_run values turns (opened_world start))
  always_stands turns ones = run_stands turns (opened_world start) ones opened_stands
