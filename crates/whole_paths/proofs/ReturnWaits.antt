-- A wait for a byte that another path holds goes on, or there is news.
use Rattle.std.proofs.Common.{◌≡◌, sym, subst, ap, ◌∙◌, ◌⊎◌, inl, inr, ⊎_elim, ℕ, ◌+◌, ◌<◌, ◌≤◌, arith, true, List, [], ◌∷◌, ◌++◌}
use Rattle.sides.specs.declared.side.Side.{Side}
use Rattle.sides.specs.declared.side.Side.TheVariants.{A, B}
use Rattle.path_core.specs.State.{PathState}
use Rattle.path_core.specs.Values.{Carried, values}
use Rattle.world_laws.specs.declared.member.Member.TheVariants.{Path}
use Rattle.world_laws.specs.Actors.{Actor, is_over}
use Rattle.world_laws.specs.Openings.{Start, opened_world}
use Rattle.world_laws.specs.Promises.{HasRoom}
use Rattle.world_laws.specs.RoundDone.{EndsAt, reached}
use Rattle.world_laws.specs.Worlds.{WorldState, Turn, after_turn, all_over, world_run}
use Rattle.world_laws.proofs.Rounds.DoneByTheEnd.{rounds_end_on_time}
use Rattle.world_laws.proofs.Rounds.Lifting.{all_over_each}
use Rattle.world_laws.proofs.Weaving.WholeRounds.{run_append}
use Rattle.whole_paths.specs.BookNews.{book_news}
use Rattle.whole_paths.specs.Courses.{round_end}
use Rattle.whole_paths.specs.Finish.{IsPathAt}
use Rattle.whole_paths.specs.HolderWaits.{IsLent, LentGoesOn, LetsGo}
use Rattle.whole_paths.specs.HolderWaits.{LentGoesOn as lent, LetsGo as lets}
use Rattle.whole_paths.specs.News.{ActorCounts, Counts}
use Rattle.whole_paths.specs.News.{Counts as counts}
use Rattle.whole_paths.specs.ReturnWaits.{AllNewsIsBounded, AwaitsAReturn, ReturnsAreAwaitedAlways, all_news}
use Rattle.whole_paths.specs.Timers.{TimersAreNear}
use Rattle.whole_paths.proofs.BookNews.{book_news_is_bounded, book_news_never_falls, number_low, what_is_given_back_counts}
use Rattle.whole_paths.proofs.HolderWaits.{holders_let_go, of_path}
use Rattle.whole_paths.proofs.InTime.{nil_so}
use Rattle.whole_paths.proofs.News.{each_news_counts, news_never_falls}
use Rattle.whole_paths.proofs.NewsBounds.{news_is_bounded}
use Rattle.whole_paths.proofs.Timing.{timers_run_out}

pub all_news_never_falls : (start : Start) (before more : List Turn) → let w = reached values start before in all_news start w ≤ all_news start (world_run values more w)
all_news_never_falls start before more =
    let one = news_never_falls values start before more in let a = book_news_never_falls values start before more A in let b = book_news_never_falls values start before more B in omega (arith, one, a, b)

pub all_news_is_bounded : AllNewsIsBounded
all_news_is_bounded = record {
  never_falls = all_news_never_falls;
  bounded = λ start turns plain fit.
      let one = news_is_bounded start turns plain fit in let a = book_news_is_bounded start turns plain.size A in let b = book_news_is_bounded start turns plain.size B in omega (arith, one, a, b);
}

later_lets : (s : Side) (by more : ℕ) (p : PathState Carried) → by ≤ more → LetsGo s by p → LetsGo s more p
later_lets s by more p low (lets.runs tick run at) = lets.runs tick run (omega (arith, low, at))
later_lets s by more p low (lets.gives agenda at) = lets.gives agenda (omega (arith, low, at))

module _ (start : Start) (turns : List Turn) where
  abbrev w : WorldState Carried
  w = reached values start turns

  ends : (number : ℕ) (p : PathState Carried) → IsPathAt number w p → p.until ≡ round_end values start turns
  ends number p here = subst (EndsAt (round_end values start turns)) here.is ((rounds_end_on_time values start turns).each (2 + number) here.crew here.there)

  begins_so : (s : Side) (number place : ℕ) (q : PathState Carried) → IsPathAt number w q → IsLent s number place (q.clock + 60000) w → AwaitsAReturn start (round_end values start turns + 60000) turns
  begins_so s number place q here h = record {
    side = s;
    number = number;
    place = place;
    lent = record {
      path = h.path;
      here = h.here;
      held = h.held;
      back = later_lets s (q.clock + 60000) (round_end values start turns + 60000) h.path
          (let near = (of_path start turns number q here TimersAreNear ((timers_run_out values start turns).each (2 + number) here.crew here.there)).clock in let at = ends number q here in omega (arith, near, at)) h.back;
    };
  }

  due_so : (x : ℕ) → all_over w.crew ≡ true → AwaitsAReturn start x turns → round_end values start turns ≤ x
  due_so x over h =
      let at = h.lent.here in
      let idle = nil_so h.lent.path.agenda (ap is_over (sym at.is) ∙ all_over_each w.crew (2 + h.number) at.crew over at.there) in
      let late = holders_let_go.due start turns h.side h.number h.place x h.lent idle in let same = ends h.number h.lent.path at in omega (arith, late, same)

  module _ (size : HasRoom start) (turn : Turn) (x : ℕ) (h : AwaitsAReturn start x turns) where
    abbrev v : WorldState Carried
    v = after_turn values turn w

    abbrev Result : Type 0
    Result = (all_news start w < all_news start v) ⊎ IsLent h.side h.number h.place x v

    books_up : (s : Side) → book_news start s w ≤ book_news start s v
    books_up s = book_news_never_falls values start turns (turn ∷ []) s

    by_news : (number : ℕ) (p q : PathState Carried) → IsPathAt number w p → IsPathAt number v q → Counts p q → all_news start w < all_news start v
    by_news number p q here there is =
        let actor : ActorCounts here.crew.member there.crew.member = subst (λ (m : Actor Carried). ActorCounts here.crew.member m) (sym there.is) (subst (λ (m : Actor Carried). ActorCounts m (Path q)) (sym here.is) is) in
        let more = each_news_counts values start turns (turn ∷ []) (2 + number) here.crew there.crew here.there there.there actor in
        let a = books_up A in let b = books_up B in omega (arith, more, a, b)

    by_book : (s : Side) → book_news start s w < book_news start s v → all_news start w < all_news start v
    by_book A more = let one = news_never_falls values start turns (turn ∷ []) in let b = books_up B in omega (arith, more, one, b)
    by_book B more = let one = news_never_falls values start turns (turn ∷ []) in let a = books_up A in omega (arith, more, one, a)

    by : LentGoesOn h.side h.number h.place x w v → Result
    by (lent.on still) = inr still
    by (lent.news p q here there is) = inl (by_news h.number p q here there (counts.at_end h.side is))
    by (lent.dies p q here there alive dead) = inl (by_news h.number p q here there (counts.dies h.side alive dead))
    by (lent.returned more) = inl (by_book h.side (what_is_given_back_counts values start turns (turn ∷ []) h.side h.number (number_low values start turns h.number h.lent.path h.lent.here) more))

    goes_on : Result
    goes_on = by (holders_let_go.goes_on start turns turn size h.side h.number h.place x h.lent)

    on_so : (all_news start w < all_news start (reached values start (turns ++ turn ∷ []))) ⊎ AwaitsAReturn start x (turns ++ turn ∷ [])
    on_so =
        let same : v ≡ reached values start (turns ++ turn ∷ []) = sym (run_append values turns (turn ∷ []) (opened_world start)) in
        ⊎_elim (λ more. inl (subst (λ (u : WorldState Carried). all_news start w < all_news start u) same more))
        (λ still. inr (record { side = h.side; number = h.number; place = h.place; lent = subst (λ (u : WorldState Carried). IsLent h.side h.number h.place x u) same still })) goes_on

pub returns_are_awaited_always : ReturnsAreAwaitedAlways
returns_are_awaited_always start size = record {
  begins = λ turns s number place q here h. begins_so start turns s number place q here h;
  on = λ turns turn x h. on_so start turns size turn x h;
  due = λ turns x over h. due_so start turns x over h;
}
