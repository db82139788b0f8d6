-- As long as A's end of path 0 may send no DSS, no other path does anything, and B's side joined none.
use Rattle.std.proofs.Common.{◌≡◌, refl, sym, subst, ap, ◌∙◌, ⊎_elim, arith, ℕ, suc, Bool, true, false, Some, List, [], ◌∷◌, ◌++◌, map, set}
use Rattle.std.specs.List.{slice_get}
use Rattle.std.proofs.lemmas.Bool.{both_ways}
use Rattle.stream_lanes.proofs.Lists.{in_map, in_set}
use Rattle.control_book.specs.Replies.{is_sure}
use Rattle.actor_desk.specs.Books.{books_in}
use Rattle.actor_desk.specs.Desk.{SixBooks, after_ask, reply_of}
use Rattle.actor_desk.specs.declared.ask.Ask.{Ask}
use Rattle.path_core.specs.State.{PathState}
use Rattle.path_core.specs.Steps.{next_round, takes}
use Rattle.path_core.specs.Values.{Carried, values}
use Rattle.world_laws.specs.declared.member.Member.TheVariants.{App, Path}
use Rattle.world_laws.specs.Actors.{Actor, ActorCrew, member_asks, member_next, member_takes}
use Rattle.world_laws.specs.Openings.{PathPlan, Start, opened_world, path_begins}
use Rattle.world_laws.specs.RoundDone.{reached}
use Rattle.world_laws.specs.StampedBooks.{answer_to}
use Rattle.world_laws.specs.Worlds.{Turn, WorldState, after_turn, all_over, asked, begins, crew_after, greatest}
use Rattle.world_laws.proofs.Joins.NoBytesBeforeClear.{still_joined}
use Rattle.world_laws.proofs.Weaving.Journals.{books_after}
use Rattle.world_laws.proofs.Worlds.Turns.{turn_so}
use Rattle.world_laws.proofs.Whole.Falls.{MemberUpright, each_upright}
use Rattle.sides.specs.declared.side.Side.TheVariants.{B}
use Rattle.actor_desk.specs.declared.ask.Reply.{Reply}
use Rattle.path_core.specs.Start.{first_turn}
use Rattle.world_laws.proofs.Falls.ClearStays.{next_clear, takes_clear, unclear_before}
use Rattle.world_laws.proofs.Joins.Asleep.{IsAsleep, begins_asleep, begins_nothing, first_asleep, takes_asleep}
use Rattle.world_laws.proofs.Keys.SureMaySend.{sure_is_clear}
use Rattle.world_laws.proofs.Lanes.OfAWorld.{IsClearAt, MemberIsSteady}
use Rattle.world_laws.proofs.Weaving.WholeRounds.{run_append}
use Rattle.world_laws.proofs.Worlds.Opened.{opened_actors}
use Rattle.world_laws.proofs.Worlds.Steady.{always_steady}
use Rattle.whole_paths.specs.Finish.{IsPathAt}
use Rattle.whole_paths.specs.Mild.{IsMildStart}
use Rattle.whole_paths.proofs.ByTurns.{Of, OfFirst, each_moment}

-- B's side answered no join
abbrev pub IsUnjoined : WorldState Carried → Type 0
IsUnjoined w = (books_in w.books).control_b.fall.joined ≡ false

pub unjoined_so : (start : Start) (turns : List Turn) (p : PathState Carried) → IsPathAt 0 (reached values start turns) p → p.a.modes.clear ≡ false → IsUnjoined (reached values start turns)
unjoined_so start turns p here unclear = by (books_in (reached values start turns).books).control_b.fall.joined refl
  where
    six : SixBooks
    six = books_in (reached values start turns).books

    by : (b : Bool) → six.control_b.fall.joined ≡ b → b ≡ false
    by false is = refl
    by true is = absurd (both_ways p.a.modes.clear unclear ((subst (MemberIsSteady six 0) here.is ((always_steady start turns).each 0 here.crew here.there)).clear refl is))

-- it didn't before
asked_before : (x : Ask) (six : SixBooks) → (after_ask x six).control_b.fall.joined ≡ false → six.control_b.fall.joined ≡ false
asked_before x six none = by six.control_b.fall.joined refl
  where
    by : (b : Bool) → six.control_b.fall.joined ≡ b → b ≡ false
    by false is = refl
    by true is = absurd (both_ways _ none (still_joined six x B is))

asked_so : (actor : ℕ) (x : Ask) (c : ActorCrew Carried) (w : WorldState Carried) → IsUnjoined (asked values actor (Some x) c w) → IsUnjoined w
asked_so actor x c w none = asked_before x (books_in w.books) (subst (λ (six : SixBooks). six.control_b.fall.joined ≡ false) (books_after x c.pass w.books) none)

turn_before : (turn : Turn) (w : WorldState Carried) → IsUnjoined (after_turn values turn w) → IsUnjoined w
turn_before turn w = turn_so values (λ v. IsUnjoined v → IsUnjoined w) turn w (λ none. none) (λ actor c x there asking none. asked_so actor x c w none) (λ over none. none)

pub unjoined_before : (start : Start) (turns : List Turn) (turn : Turn) → IsUnjoined (reached values start (turns ++ turn ∷ [])) → IsUnjoined (reached values start turns)
unjoined_before start turns turn none = turn_before turn (reached values start turns) (subst IsUnjoined (run_append values turns (turn ∷ []) (opened_world start)) none)

-- what each turn of path 0 keeps holds at every moment until B's side joins a path
module _ (start : Start) (Facts P : PathState Carried → Type 0)
    (known : (turns : List Turn) → IsUnjoined (reached values start turns) → OfFirst Facts (reached values start turns))
    (opened : OfFirst P (opened_world start))
    (answers : (r : Reply) (p : PathState Carried) → Facts p → P p → P (takes values r p))
    (goes_on : (p : PathState Carried) → Facts p → P p → P (next_round p)) where
  member_takes_on : (r : Reply) (m : Actor Carried) → Of Facts m → Of P m → Of P (member_takes values r m)
  member_takes_on r (App a) facts h = tt
  member_takes_on r (Path p) facts h = answers r p facts h

  member_next_on : (m : Actor Carried) → Of Facts m → Of P m → Of P (member_next m)
  member_next_on (App a) facts h = tt
  member_next_on (Path p) facts h = goes_on p facts h

  pub each_lone_moment : (turns : List Turn) → IsUnjoined (reached values start turns) → OfFirst P (reached values start turns)
  each_lone_moment = each_moment values start (λ w. IsUnjoined w → OfFirst P w) (λ none. opened)
      (λ turns actor c x there asking h none. let w : WorldState Carried = reached values start turns in let before = asked_so actor x c w none in record {
        each = λ d at. ⊎_elim
            (λ here. subst (λ (y : ActorCrew Carried). Of P y.member) here.1
            (let two : slice_get w.crew 2 ≡ Some c = ap (λ i. slice_get w.crew i) here.0 ∙ there in member_takes_on (answer_to w.books x) c.member ((known turns before).each c two) ((h before).each c two)))
            (λ other. (h before).each d other.1)
            (in_set w.crew actor (crew_after values x w.books c) 2 d at);
      })
      (λ turns over h none. let w : WorldState Carried = reached values start turns in record {
        each = λ d at.
            let found = in_map (begins (greatest 0 w.crew)) w.crew 2 d at in
            subst (λ (y : ActorCrew Carried). Of P y.member) found.2 (member_next_on found.0.member ((known turns none).each found.0 found.1) ((h none).each found.0 found.1));
      })

-- ---- the other paths

module _ (start : Start) (mild : IsMildStart start) where
  -- they sleep
  record OthersSleep (w : WorldState Carried) : Type 0 where
    each : (p : PathState Carried) → IsPathAt 0 w p → p.a.modes.clear ≡ false → (n : ℕ) (c : ActorCrew Carried) → slice_get w.crew (suc (suc (suc n))) ≡ Some c → Of IsAsleep c.member

  opened_sleep : OthersSleep (opened_world start)
  opened_sleep = record {
    each = λ p here unclear n c there. opened_actors (λ actor c. (m : ℕ) → actor ≡ suc (suc (suc m)) → Of IsAsleep c.member) start (λ m is. tt) (λ m is. tt)
        (λ number plan at m is. other number plan m is) (suc (suc (suc n))) c there n refl;
  }
    where
      later : (number m : ℕ) → suc (suc number) ≡ suc (suc (suc m)) → number ≡ suc m
      later number m is = omega (arith, is)

      other : (number : ℕ) (plan : PathPlan) (m : ℕ) → suc (suc number) ≡ suc (suc (suc m)) → IsAsleep (first_turn {C = Carried} (path_begins start number plan) start.lines)
      other number plan m is = subst (λ n. IsAsleep (first_turn {C = Carried} (path_begins start n plan) start.lines)) (sym (later number m is))
          (first_asleep (path_begins start (suc m) plan) start.lines plan.join refl)

  member_sleeps : (six : SixBooks) (x : Ask) (m : Actor Carried) → is_sure six.control_a.fall.mode ≡ false → member_asks values m ≡ Some x → MemberUpright m → Of IsAsleep m → Of IsAsleep (member_takes values (reply_of six x) m)
  member_sleeps six x (App a) unsure asking upright h = tt
  member_sleeps six x (Path p) unsure asking upright h = takes_asleep values (reply_of six x) p (begins_nothing values six x p unsure asking h) upright.passes.settled h

  next_sleeps : (m : Actor Carried) → Of IsAsleep m → Of IsAsleep (member_next m)
  next_sleeps (App a) h = tt
  next_sleeps (Path p) h = begins_asleep p h

  -- path 0 before a reply, and before a round
  before_reply : (r : Reply) (m : Actor Carried) (q : PathState Carried) → member_takes values r m ≡ Path q → q.a.modes.clear ≡ false → (p : PathState Carried) × (m ≡ Path p) × (p.a.modes.clear ≡ false)
  before_reply r (App a) q is unclear = cc
  before_reply r (Path p) q is unclear =
      let same : (takes values r p).a.modes.clear ≡ false = subst (Of (λ (x : PathState Carried). x.a.modes.clear ≡ false)) (sym is) unclear in
      (p, refl, unclear_before p.a.modes.clear (takes values r p).a.modes.clear (takes_clear values r p).a.0 same)

  before_round : (m : Actor Carried) (q : PathState Carried) → member_next m ≡ Path q → q.a.modes.clear ≡ false → (p : PathState Carried) × (m ≡ Path p) × (p.a.modes.clear ≡ false)
  before_round (App a) q is unclear = cc
  before_round (Path p) q is unclear =
      let same : (next_round p).a.modes.clear ≡ false = subst (Of (λ (x : PathState Carried). x.a.modes.clear ≡ false)) (sym is) unclear in
      (p, refl, unclear_before p.a.modes.clear (next_round p).a.modes.clear (next_clear p).a.0 same)

  unsure : (turns : List Turn) (p : PathState Carried) → IsPathAt 0 (reached values start turns) p → p.a.modes.clear ≡ false → is_sure (books_in (reached values start turns).books).control_a.fall.mode ≡ false
  unsure turns p here unclear = by (is_sure (books_in (reached values start turns).books).control_a.fall.mode) refl
    where
      by : (b : Bool) → is_sure (books_in (reached values start turns).books).control_a.fall.mode ≡ b → b ≡ false
      by false is = refl
      by true is = absurd (both_ways p.a.modes.clear unclear (subst IsClearAt here.is (sure_is_clear start turns is here.crew here.there)))

  others_sleep : (turns : List Turn) → OthersSleep (reached values start turns)
  others_sleep = each_moment values start OthersSleep opened_sleep asks_so begun_so
    where
      asks_so : (turns : List Turn) (actor : ℕ) (c : ActorCrew Carried) (x : Ask) → slice_get (reached values start turns).crew actor ≡ Some c → member_asks values c.member ≡ Some x
          → OthersSleep (reached values start turns) → OthersSleep (asked values actor (Some x) c (reached values start turns))
      asks_so turns actor c x there asking h = record { each = λ q at unclear n d found. by q at (first q at unclear) n d found }
        where
          w : WorldState Carried
          w = reached values start turns

          first : (q : PathState Carried) (at : IsPathAt 0 (asked values actor (Some x) c w) q) → q.a.modes.clear ≡ false → (p : PathState Carried) × IsPathAt 0 w p × (p.a.modes.clear ≡ false)
          first q at unclear = ⊎_elim
              (λ here.
              (let was = before_reply (answer_to w.books x) c.member q (ap (λ (y : ActorCrew Carried). y.member) here.1 ∙ at.is) unclear in
              (was.0, record { crew = c; there = ap (λ i. slice_get w.crew i) here.0 ∙ there; is = was.1 }, was.2)))
              (λ other. (q, record { crew = at.crew; there = other.1; is = at.is }, unclear))
              (in_set w.crew actor (crew_after values x w.books c) 2 at.crew at.there)

          by : (q : PathState Carried) → IsPathAt 0 (asked values actor (Some x) c w) q → (p : PathState Carried) × IsPathAt 0 w p × (p.a.modes.clear ≡ false)
              → (n : ℕ) (d : ActorCrew Carried) → slice_get (set w.crew actor (crew_after values x w.books c)) (suc (suc (suc n))) ≡ Some d → Of IsAsleep d.member
          by q at was n d found = ⊎_elim
              (λ here.
              (let own : slice_get w.crew (suc (suc (suc n))) ≡ Some c = ap (λ i. slice_get w.crew i) here.0 ∙ there in
              subst (λ (y : ActorCrew Carried). Of IsAsleep y.member) here.1
              (member_sleeps (books_in w.books) x c.member (unsure turns was.0 was.1 was.2) asking ((each_upright start turns mild.plain mild.strips).each (suc (suc (suc n))) c own) (h.each was.0 was.1 was.2 n c own))))
              (λ other. h.each was.0 was.1 was.2 n d other.1)
              (in_set w.crew actor (crew_after values x w.books c) (suc (suc (suc n))) d found)

      begun_so : (turns : List Turn) → all_over (reached values start turns).crew ≡ true → OthersSleep (reached values start turns)
          → OthersSleep (record (reached values start turns) { crew = map (begins (greatest 0 (reached values start turns).crew)) (reached values start turns).crew })
      begun_so turns over h = record {
        each = λ q at unclear n d found.
            let w : WorldState Carried = reached values start turns in
            let own = in_map (begins (greatest 0 w.crew)) w.crew 2 at.crew at.there in
            let was = before_round own.0.member q (ap (λ (y : ActorCrew Carried). y.member) own.2 ∙ at.is) unclear in
            let other = in_map (begins (greatest 0 w.crew)) w.crew (suc (suc (suc n))) d found in
            subst (λ (y : ActorCrew Carried). Of IsAsleep y.member) other.2
            (next_sleeps other.0.member (h.each was.0 (record { crew = own.0; there = own.1; is = was.1 }) was.2 n other.0 other.1));
      }

pub others_sleep_before : (start : Start) (turns : List Turn) → IsMildStart start → (p : PathState Carried) → IsPathAt 0 (reached values start turns) p → p.a.modes.clear ≡ false
    → (n : ℕ) (c : ActorCrew Carried) → slice_get (reached values start turns).crew (suc (suc (suc n))) ≡ Some c → Of IsAsleep c.member
others_sleep_before start turns mild p here unclear n c there = (others_sleep start mild turns).each p here unclear n c there
