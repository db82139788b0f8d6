-- A wait for a window goes on by each turn between sound ends, or something is counted.
use Rattle.std.proofs.Common.{◌≡◌, sym, subst, ap, ◌∙◌, ◌⊎◌, ⊎_elim, inl, inr, ℕ, ◌+◌, ◌<◌, ◌≤◌, arith, true, false, Some, List, [], ◌∷◌, ◌++◌}
use Rattle.std.specs.List.{slice_get}
use Rattle.std.proofs.lemmas.Bool.{cases_lt}
use Rattle.sides.specs.declared.side.Side.{Side}
use Rattle.sides.specs.Side.{peer}
use Rattle.subflow_send.specs.Records.{Record}
use Rattle.subflow_tcp.specs.States.{is_closed_to_segments}
use Rattle.actor_desk.specs.Books.{books_in}
use Rattle.actor_desk.specs.Desk.{send_of, SixBooks}
use Rattle.actor_desk.specs.declared.ask.Note.{Note}
use Rattle.path_core.specs.State.{PathState, end_at}
use Rattle.path_core.specs.Values.{Carried, values}
use Rattle.world_laws.specs.declared.member.Member.TheVariants.{Path}
use Rattle.world_laws.specs.Actors.{ActorCrew, is_over}
use Rattle.world_laws.specs.Openings.{PathPlan, Start, opened_world}
use Rattle.world_laws.specs.RoundDone.{EndsAt, reached}
use Rattle.world_laws.specs.Worlds.{WorldState, Turn, after_turn}
use Rattle.world_laws.proofs.Rounds.DoneByTheEnd.{rounds_end_on_time}
use Rattle.world_laws.proofs.Rounds.Lifting.{all_over_each}
use Rattle.world_laws.proofs.Weaving.WholeRounds.{run_append}
use Rattle.whole_paths.specs.Awaited.{AwaitedGoesOn, AwaitingBegins, AwaitingIsDue, IsAwaited}
use Rattle.whole_paths.specs.Between.{PathsBetween}
use Rattle.whole_paths.specs.Courses.{counted_at, round_end}
use Rattle.whole_paths.specs.Finish.{IsPathAt}
use Rattle.whole_paths.specs.Flights.{IsFirst}
use Rattle.whole_paths.specs.Halted.{HaltGoesOn, HaltsGoOn, IsHalted}
use Rattle.whole_paths.specs.Halted.{HaltGoesOn as halts}
use Rattle.whole_paths.specs.Mild.{IsMildStart}
use Rattle.whole_paths.specs.News.{Counts as counts}
use Rattle.whole_paths.specs.News.{Gains as gains}
use Rattle.whole_paths.specs.OpenAsks.{HardlyGoesAwry, IsHardlyAwry}
use Rattle.whole_paths.specs.OpenAsks.{IsHardlyAwry as hardly}
use Rattle.whole_paths.specs.OpenCourses.{HoldUpsCount, IsNowAt}
use Rattle.whole_paths.specs.Probes.{AskTurns, TellsWindow}
use Rattle.whole_paths.specs.Probes.{AskTurns as goes}
use Rattle.whole_paths.specs.Reasons.{IsOutstanding as outstanding}
use Rattle.whole_paths.specs.RecordWaits.{OpensAt, StepsAt}
use Rattle.whole_paths.specs.Serving.{ServesAt}
use Rattle.whole_paths.specs.Straying.{IsOpen, IsSound}
use Rattle.whole_paths.specs.Timers.{TimersAreNear}
use Rattle.whole_paths.specs.WindowsHeard.{IsOpenTo}
use Rattle.whole_paths.specs.WindowWaits.{AwaitsAWindowAt, HasAShutWindowAt, IsWindowAwaited, WindowsAreAwaitedAlways, ShutEndsAreAwaited, WindowsAreAwaitedAt}
use Rattle.whole_paths.proofs.Awaited.{each_window_comes}
use Rattle.whole_paths.proofs.Counted.{by_news, what_holds_up_counts}
use Rattle.whole_paths.proofs.Exchanges.{OfPaths, Shown, each_shown}
use Rattle.whole_paths.proofs.Halting.{who_halts_goes_on_halting}
use Rattle.whole_paths.proofs.InTime.{nil_so}
use Rattle.whole_paths.proofs.News.{each_gain_counts}
use Rattle.whole_paths.proofs.OpenAsks.{open_sound, sound_ends_hardly_go_awry}
use Rattle.whole_paths.proofs.OpenAsksGoOn.{more_sent}
use Rattle.whole_paths.proofs.Probes.{later_so}
use Rattle.whole_paths.proofs.Reached.{EndsAreReached, each_is_reached}
use Rattle.whole_paths.proofs.RecordWaits.{counts_so, edge_up, here, lets_at, living_open, path_is, una_up, with_both}
use Rattle.whole_paths.proofs.RoundBegins.{no_round_counts}
use Rattle.whole_paths.proofs.Timing.{timers_run_out}
use Rattle.whole_paths.specs.EdgeStands.{IsShutOutAt, StaysShutOut}
use Rattle.whole_paths.proofs.EdgeStands.{shut_ends_stay_shut}

abbrev Halt : Type 1
Halt = SixBooks → Side → PathState Carried → Type 0

-- the end of a side that halts knows that the window is shut
abbrev IsOfShutEnds : Halt → Type 0
IsOfShutEnds Halts = (six : SixBooks) (s : Side) (p : PathState Carried) → Halts six s p → (end_at s p).sending.shut ≡ true

-- of the path of this number, of which this is known at each moment
module _ (number : ℕ) (Holds : PathState Carried → Type 0) (start : Start) where
  abbrev Now : List Turn → Type 0
  Now turns = IsNowAt number Holds (reached values start turns)

  -- by a turn a side that halts does so, or something is counted
  abbrev GoesOnHalting : Halt → (List Turn → Type 0) → Type 0
  GoesOnHalting Halts Goes = (turns : List Turn) (turn : Turn) → let w = reached values start turns in let v = after_turn values turn w in
      (before : IsNowAt number Holds w) (after : IsNowAt number Holds v) → Goes turns → (s : Side) → Halts (books_in w.books) s before.path
      → (counted_at values start number turns < counted_at values start number (turns ++ turn ∷ [])) ⊎ Halts (books_in v.books) s after.path

  -- and it is sound then
  abbrev pub HoldsOfSound : Type 0
  HoldsOfSound = (v : List Turn) (p : PathState Carried) → IsPathAt number (reached values start v) p → Holds p → IsSound p

module _ (number : ℕ) (Holds : PathState Carried → Type 0) (start : Start) (sound : HoldsOfSound number Holds start) (Halts : Halt) (Goes : List Turn → Type 0) (of_shut : IsOfShutEnds Halts)
    (halts_on : GoesOnHalting number Holds start Halts Goes) (mild : IsMildStart start) (turns : List Turn) (turn : Turn) where
  abbrev w : WorldState Carried
  w = reached values start turns

  abbrev v : WorldState Carried
  v = after_turn values turn w

  abbrev Rises : Type 0
  Rises = counted_at values start number turns < counted_at values start number (turns ++ turn ∷ [])

  last : reached values start (turns ++ turn ∷ []) ≡ v
  last = run_append values turns (turn ∷ []) (opened_world start)

  -- between two moments
  module _ (before : IsNowAt number Holds w) (after : IsNowAt number Holds v) where
    abbrev p : PathState Carried
    p = before.path

    abbrev q : PathState Carried
    q = after.path

    -- what holds of each path there
    at_p : (P : PathState Carried → Type 0) → ((actor : ℕ) (c : ActorCrew Carried) → slice_get w.crew actor ≡ Some c → OfPaths P c.member) → P p
    at_p P each = subst (OfPaths P) before.here.is (each (2 + number) before.here.crew before.here.there)

    at_q : (P : PathState Carried → Type 0) → ((actor : ℕ) (c : ActorCrew Carried) → slice_get (reached values start (turns ++ turn ∷ [])).crew actor ≡ Some c → OfPaths P c.member) → P q
    at_q P each = subst (OfPaths P) after.here.is (each (2 + number) after.here.crew (subst (λ (x : WorldState Carried). slice_get x.crew (2 + number) ≡ Some after.here.crew) (sym last) after.here.there))

    sound_p : IsSound p
    sound_p = sound turns p before.here before.is_open

    sound_q : IsSound q
    sound_q = sound (turns ++ turn ∷ []) q (subst (λ (y : WorldState Carried). IsPathAt number y q) (sym last) after.here) after.is_open

    -- where there was no record and there is one, that counts
    sends_counts : (s : Side) (r : Record) → (end_at s p).tcp.send.records ≡ [] → IsFirst r (end_at s q) → Rises
    sends_counts s r none first = counts_so start mild turns turn before after (counts.sent_more s (more_sent s p q
        (at_p EndsAreReached (each_is_reached values start turns).each s) (at_q EndsAreReached (each_is_reached values start (turns ++ turn ∷ [])).each s)
        (at_q Shown (each_shown start (turns ++ turn ∷ []) mild.plain.size mild.fit)) (una_up start mild turns turn before after s) none r first))

    module _ (x : ℕ) (h : IsWindowAwaited Halts (books_in w.books) x p) where
      abbrev s : Side
      s = h.side

      abbrev Next : Type 0
      Next = Rises ⊎ IsWindowAwaited Halts (books_in v.books) x q

      -- the peer sends no more, or that counts
      if_room : ((end_at (peer s) q).tcp.send.nxt ≤ (end_at s q).tcp.recv.edge + 1048576 → Next) → Next
      if_room still = ⊎_elim (λ more. inl (counts_so start mild turns turn before after (counts.sent_more (peer s) more)))
          (λ few. still (let room = h.room in let up = edge_up start mild turns turn before after s in omega (arith, few, room, up)))
          (cases_lt (end_at (peer s) p).tcp.send.nxt (end_at (peer s) q).tcp.send.nxt)

      strays : IsHardlyAwry s p q → Next
      strays (hardly.past_window past) = absurd (let room = h.room in omega (arith, past, room))

      by_turn : Halts (books_in v.books) s q → (steps : List Note) → HardlyGoesAwry IsSound steps (Path p) (Path q)
          → AskTurns (IsAwaited (books_in v.books) s h.place x q ⊎ ((send_of s (books_in w.books)).edge < (send_of s (books_in v.books)).edge)) s x steps p q → Next
      by_turn halted steps awry (goes.on (inl awaited)) = if_room (λ room. inr (record { side = s; place = h.place; room = room; halted = halted; awaited = awaited }))
      by_turn halted steps awry (goes.on (inr rose)) = inl (by_news start number turns turn (each_gain_counts values start turns (turn ∷ []) s (gains.opens rose)))
      by_turn halted steps awry (goes.record_waits r arrival low none first way) = inl (sends_counts s r none first)
      by_turn halted steps awry (goes.done none) = absurd (none (outstanding.shut (of_shut (books_in v.books) s q halted)))
      by_turn halted steps awry (goes.held_up held) = inl (here start mild turns turn before after (λ m n. HoldUpsCount Rises m n)
          (what_holds_up_counts start number turns turn before.here.crew after.here.crew before.here.there after.here.there) sound_p.living sound_q.living before.few s held)
      by_turn halted steps awry (goes.awry is) = strays (awry sound_p sound_q s is)

      -- the side halts still, or that counts
      by_halt : Goes turns → (Halts (books_in v.books) s q → Next) → Next
      by_halt goes_so still = ⊎_elim (λ rises. inl rises) still (halts_on turns turn before after goes_so s h.halted)

      goes_on : Goes turns → Next
      goes_on goes_so =
          let found = each_window_comes.goes_on start turns mild.plain.size mild.fit turn (2 + number) before.here.crew before.here.there in
          let both = with_both start mild turns turn before after (λ m n. (steps : List Note) × PathsBetween AwaitedGoesOn w.books v.books steps m n × HardlyGoesAwry IsSound steps m n)
          (found.0, found.1, (found.0.list, found.2, sound_ends_hardly_go_awry start turns turn mild (2 + number) before.here.crew found.0 before.here.there found.1)) in
          by_halt goes_so (λ halted. by_turn halted both.0 both.2 (both.1 (lets_at number before.path before.faithful) s h.place x before.few h.awaited))

-- ---- waits

module _ (number : ℕ) (Holds : PathState Carried → Type 0) (start : Start) (sound : HoldsOfSound number Holds start) (Halts : Halt) (Goes : List Turn → Type 0) (of_shut : IsOfShutEnds Halts)
    (halts_on : GoesOnHalting number Holds start Halts Goes) (most : ℕ) (mild : IsMildStart start) where
  -- at the same path
  awaited_at : (x : ℕ) (u : WorldState Carried) (a b : PathState Carried) → IsPathAt number u a → IsPathAt number u b → IsWindowAwaited Halts (books_in u.books) x a → IsWindowAwaited Halts (books_in u.books) x b
  awaited_at x u a b at there h = subst (IsWindowAwaited Halts (books_in u.books) x) (path_is u a b at there) h

  abbrev Later : ℕ → List Turn → List Turn → Type 0
  Later x v u = (counted_at values start number v < counted_at values start number u) ⊎ AwaitsAWindowAt Halts number start x u

  turn_on : (x : ℕ) (v : List Turn) (turn : Turn) → Now number Holds start v → Now number Holds start (v ++ turn ∷ []) → Goes v → AwaitsAWindowAt Halts number start x v → Later x v (v ++ turn ∷ [])
  turn_on x v turn before after goes_so h = ⊎_elim
      (λ rises. inl rises)
      (λ waits. inr (record { path = then_open.path; here = there; waits = subst (λ (y : WorldState Carried). IsWindowAwaited Halts (books_in y.books) x then_open.path) (sym is) waits }))
      (goes_on number Holds start sound Halts Goes of_shut halts_on mild v turn before then_open x now goes_so)
    where
      is : reached values start (v ++ turn ∷ []) ≡ after_turn values turn (reached values start v)
      is = run_append values v (turn ∷ []) (opened_world start)

      then_open : IsNowAt number Holds (after_turn values turn (reached values start v))
      then_open = subst (IsNowAt number Holds) is after

      there : IsPathAt number (reached values start (v ++ turn ∷ [])) then_open.path
      there = subst (λ (y : WorldState Carried). IsPathAt number y then_open.path) (sym is) then_open.here

      now : IsWindowAwaited Halts (books_in (reached values start v).books) x before.path
      now = awaited_at x (reached values start v) h.path before.path h.here before.here h.waits

  steps_on : (x : ℕ) (v u : List Turn) → StepsAt number Holds start most v u → Goes v → AwaitsAWindowAt Halts number start x v → Later x v u
  steps_on x v u step goes_so h = subst (λ t. Later x v t) (sym step.is) (turn_on x v (Turn.Step step.actor) step.before (subst (Now number Holds start) step.is step.after) goes_so h)

  opens_on : (x : ℕ) (v u : List Turn) → OpensAt number Holds start most v u → Goes v → AwaitsAWindowAt Halts number start x v → Later x v u
  opens_on x v u step goes_so h = subst (λ t. Later x v t) (sym step.is) (turn_on x v Turn.Round step.before (subst (Now number Holds start) step.is step.after) goes_so h)

  -- ---- as a round begins

  module _ (v u : List Turn) (step : OpensAt number Holds start most v u) where
    abbrev ended : WorldState Carried
    ended = reached values start v

    -- what is known of the path as the round ends
    module _ (p : PathState Carried) (at : IsPathAt number ended p) where
      same : step.before.path ≡ p
      same = path_is ended step.before.path p step.before.here at

      until : p.until ≡ round_end values start v
      until = subst (EndsAt (round_end values start v)) at.is ((rounds_end_on_time values start v).each (2 + number) at.crew at.there)

      silent : p.agenda ≡ []
      silent = nil_so p.agenda (subst (λ m. is_over m ≡ true) at.is (all_over_each ended.crew (2 + number) at.crew step.over at.there))

      is_sound : IsSound p
      is_sound = sound v p at (subst Holds same step.before.is_open)

      unclosed : (s : Side) → is_closed_to_segments (end_at s p).tcp.state ≡ false
      unclosed s = living_open (end_at s p).tcp.state (is_sound.past s) (is_sound.living s)

    none_late : (x : ℕ) → AwaitsAWindowAt Halts number start x v → x < round_end values start v → ⊥
    none_late x h late =
        let due : AwaitingIsDue (books_in ended.books) h.path = subst (OfPaths (AwaitingIsDue (books_in ended.books))) h.here.is ((each_window_comes.in_time start v).due (2 + number) h.here.crew h.here.there) in
        let ends = until h.path h.here in
        due (silent h.path h.here) h.waits.side ((is_sound h.path h.here).living (peer h.waits.side)) h.waits.place x (omega (arith, late, ends)) h.waits.awaited

    wait_begins : Goes v → HasAShutWindowAt Halts number start v → AwaitsAWindowAt Halts number start (round_end values start v + 60800) u
    wait_begins goes_so h = ⊎_elim
        (λ rises. absurd (let still = ap (counted_at values start number) step.is ∙ no_round_counts start number v step.over in omega (arith, rises, still)))
        (λ waits. waits)
        (opens_on (round_end values start v + 60800) v u step goes_so (record { path = h.path; here = h.here; waits = record { side = h.side; place = place; room = h.room; halted = h.halted; awaited = awaited } }))
      where
        place : ℕ
        place = (send_of h.side (books_in ended.books)).edge + 1

        first : ℕ
        first = h.path.clock + 60000 + 400 + 400

        near : TimersAreNear h.path
        near = subst (OfPaths TimersAreNear) h.here.is ((timers_run_out values start v).each (2 + number) h.here.crew h.here.there)

        begun : AwaitingBegins (books_in ended.books) h.path
        begun = subst (OfPaths (AwaitingBegins (books_in ended.books))) h.here.is ((each_window_comes.in_time start v).begin (2 + number) h.here.crew h.here.there)

        at_first : IsAwaited (books_in ended.books) h.side place first h.path
        at_first = begun (silent h.path h.here) h.side (unclosed h.path h.here h.side) h.no_record (outstanding.shut (of_shut (books_in ended.books) h.side h.path h.halted)) place (omega arith) (let takes = h.takes in omega (arith, takes))

        awaited : IsAwaited (books_in ended.books) h.side place (round_end values start v + 60800) h.path
        awaited = record {
          below = at_first.below;
          probed = later_so (TellsWindow place) (IsOpenTo (books_in ended.books) h.side place) h.side first (round_end values start v + 60800) h.path
              (let clock = near.clock in let ends = until h.path h.here in omega (arith, clock, ends)) at_first.probed;
          offered = at_first.offered;
        }

  pub windows_are_awaited : WindowsAreAwaitedAt Halts number Holds start Goes most
  windows_are_awaited = record {
    begins = λ v u step goes_so h. wait_begins v u step goes_so h;
    on = λ x v u step goes_so h. steps_on x v u step goes_so h;
    next = λ x v u step goes_so h. opens_on x v u step goes_so h;
    due = λ x v u step h late. none_late v u step x h late;
  }

-- ---- over one path

module _ (start : Start) (plan : PathPlan) (one : start.paths ≡ plan ∷ []) (mild : IsMildStart start) where
  halts_still : GoesOnHalting 0 IsOpen start IsHalted (λ turns. Unit {0})
  halts_still turns turn before after nothing s h = by ((with_both start mild turns turn before after (λ m n. HaltsGoOn (books_in w.books) (books_in v.books) m n)
      (who_halts_goes_on_halting start plan turns turn one mild before.here.crew before.here.there)) s h)
    where
      w : WorldState Carried
      w = reached values start turns

      v : WorldState Carried
      v = after_turn values turn w

      by : HaltGoesOn (books_in v.books) s before.path after.path → (counted_at values start 0 turns < counted_at values start 0 (turns ++ turn ∷ [])) ⊎ IsHalted (books_in v.books) s after.path
      by (halts.on halted) = inr halted
      by (halts.sends more) = inl (counts_so start mild turns turn before after (counts.sent_more s more))
      by (halts.news is) = inl (counts_so start mild turns turn before after (counts.at_end s is))

pub windows_are_awaited_always : WindowsAreAwaitedAlways
windows_are_awaited_always start plan most one mild = windows_are_awaited 0 IsOpen start (open_sound start mild) IsHalted (λ turns. Unit {0}) (λ six s p h. h.shut) (halts_still start plan one mild) most mild

-- ---- over any number of paths

module _ (number : ℕ) (Holds : PathState Carried → Type 0) (start : Start) (mild : IsMildStart start) where
  -- the path doesn't stand by
  abbrev Serves : List Turn → Type 0
  Serves turns = ServesAt number (reached values start turns)

  stays_shut_out : GoesOnHalting number Holds start IsShutOutAt Serves
  stays_shut_out turns turn before after serves s h = ⊎_elim
      (λ out. inr out)
      (λ rose. inl (by_news start number turns turn (each_gain_counts values start turns (turn ∷ []) s (gains.opens rose))))
      ((with_both start mild turns turn before after (λ m n. StaysShutOut (books_in w.books) (books_in v.books) m n)
      (shut_ends_stay_shut start turns turn mild (2 + number) before.here.crew before.here.there)) (serves before.path before.here) s h)
    where
      w : WorldState Carried
      w = reached values start turns

      v : WorldState Carried
      v = after_turn values turn w

  pub shut_ends_await : HoldsOfSound number Holds start → (most : ℕ) → WindowsAreAwaitedAt IsShutOutAt number Holds start Serves most
  shut_ends_await sound most = windows_are_awaited number Holds start sound IsShutOutAt Serves (λ six s p h. h.shut) stays_shut_out most mild

pub shut_ends_are_awaited : ShutEndsAreAwaited
shut_ends_are_awaited start most mild = shut_ends_await 0 IsOpen start mild (open_sound start mild) most
