-- A path holds a byte for a minute at most, unless there is news: its end waits for it, and gives it back as its timer runs out.
use Rattle.std.proofs.Common.{◌≡◌, refl, sym, subst, ap, ◌∙◌, ◌⊎◌, inl, inr, ⊎_elim, ℕ, ◌+◌, ◌≤◌, ◌<◌, max, arith, Bool, true, false, true≢false, not, if◌then◌else◌, Option, Some, None, IfSome, IsSome, List, [], ◌∷◌, ◌++◌}
use Rattle.std.specs.List.{slice_get}
use Rattle.std.proofs.lemmas.Bool.{both_ways, eqb-true}
use Rattle.std.proofs.lemmas.Option.{same_Some}
use Rattle.sides.specs.declared.side.Side.{Side}
use Rattle.sides.specs.declared.side.Side.TheVariants.{A, B}
use Rattle.send_book.specs.declared.mark.ByteMark.{ByteMark}
use Rattle.send_book.specs.declared.mark.ByteMark.TheVariants.{Acked, Held, Free}
use Rattle.send_book.specs.Tried.{contains}
use Rattle.stream_lanes.specs.Marks.{tried}
use Rattle.stream_lanes.specs.Words.{Has}
use Rattle.subflow_tcp.specs.declared.handshake.State.{State}
use Rattle.subflow_tcp.specs.declared.handshake.State.TheVariants as phase
use Rattle.subflow_tcp.specs.Expiring.{after_expiry, is_sixth}
use Rattle.subflow_tcp.specs.States.{is_closed_to_segments, is_dead}
use Rattle.subflow_tcp.specs.Taking.{after_death}
use Rattle.actor_desk.specs.Books.{books_in}
use Rattle.actor_desk.specs.Desk.{SixBooks, after_ask, reply_of, send_of}
use Rattle.actor_desk.specs.declared.ask.Ask.{Ask}
use Rattle.actor_desk.specs.declared.ask.Note.{Note}
use Rattle.actor_desk.specs.declared.ask.Reply.{Reply}
use Rattle.actor_desk.specs.Words.{is_nil}
use Rattle.path_agenda.specs.Agenda.{emission, expired}
use Rattle.path_agenda.specs.declared.duty.Duty.TheVariants as duties
use Rattle.path_agenda.specs.declared.duty.AskDuty.TheVariants as ask_duties
use Rattle.path_agenda.specs.declared.duty.SendDuty.TheVariants as send_duties
use Rattle.path_agenda.specs.declared.duty.StepDuty.TheVariants as step_duties
use Rattle.path_store.specs.declared.granted_piece.GrantedPiece.{GrantedPiece}
use Rattle.path_store.specs.Granted.{has_place, is_all_acknowledged}
use Rattle.path_core.specs.Events.{happens_if}
use Rattle.path_core.specs.State.{PathState, at_tick, end_at, goes_on, path_of, with_agenda}
use Rattle.path_core.specs.Steps.{settled, takes}
use Rattle.path_core.specs.Timer.{template_fired}
use Rattle.path_core.specs.Values.{Carried, values}
use Rattle.path_core.specs.declared.events.Event.TheVariants as happenings
use Rattle.world_laws.specs.declared.member.Member.TheVariants.{App, Path}
use Rattle.world_laws.specs.Actors.{Actor, ActorCrew}
use Rattle.world_laws.specs.Members.{HoldsOfKind}
use Rattle.world_laws.specs.Openings.{Start, opened_world}
use Rattle.world_laws.specs.Promises.{HasRoom, written_by}
use Rattle.world_laws.specs.RoundDone.{reached}
use Rattle.world_laws.specs.Worlds.{Turn, WorldState, after_turn}
use Rattle.world_laws.proofs.Weaving.WholeRounds.{run_append}
use Rattle.whole_paths.specs.AsFar.{stage}
use Rattle.whole_paths.specs.Between.{EachPathBetween, PathsBetween}
use Rattle.whole_paths.specs.Expiries.{RunsOut}
use Rattle.whole_paths.specs.Finish.{IsPathAt}
use Rattle.whole_paths.specs.GivenBack.{GivesBack, given_back}
use Rattle.whole_paths.specs.GivenBack.{IsReturn as is_return}
use Rattle.whole_paths.specs.Holders.{IsAwaitedAt, MayHold, TriedIsAwaited, holds, let_go}
use Rattle.whole_paths.specs.HolderWaits.{HoldersLetGo, IsLent, LentGoesOn, LetsGo}
use Rattle.whole_paths.specs.HolderWaits.{LentGoesOn as lent, LetsGo as lets}
use Rattle.whole_paths.specs.InTime.{ComesFrom}
use Rattle.whole_paths.specs.Reasons.{IsOutstanding, IsTimedWhereItWaits}
use Rattle.whole_paths.specs.Reasons.{IsOutstanding as outstanding}
use Rattle.whole_paths.specs.Running.{EndsRunOn, IsRunning, RunsOn}
use Rattle.whole_paths.specs.Running.{RunsOn as running}
use Rattle.whole_paths.specs.Timers.{TimersAreNear}
use Rattle.whole_paths.specs.Waits.{IsSettledAtTheEnd}
use Rattle.whole_paths.proofs.GivenBack.{AreRightly, ask_lets_go, ask_marks, count_rises, each_return_counts, gone_step, held_apart, marks_are_right, rightly}
use Rattle.whole_paths.proofs.Holding.{IsNamed, always_known, holders_live, never_leaves}
use Rattle.whole_paths.proofs.InTime.{nothing_is_overdue, timer_behind}
use Rattle.whole_paths.proofs.Reasons.{who_waits_has_a_timer}
use Rattle.whole_paths.proofs.Resending.{busy}
use Rattle.whole_paths.proofs.Running.{timers_run_on}
use Rattle.whole_paths.proofs.Timing.{timers_run_out}
use Rattle.whole_paths.proofs.TriedBytes.{what_is_tried_is_awaited}
use Rattle.whole_paths.proofs.Turns.{paths_between}
use Rattle.whole_paths.proofs.Waiting.{no_timer_is_put_off}

-- ---- states

open_lives : (state : State) → is_closed_to_segments state ≡ false → is_dead state ≡ false
open_lives phase.Dead is = absurd (true≢false is)
open_lives _ is = refl

past_is_open : (state : State) → 3 ≤ stage state → is_dead state ≡ false → is_closed_to_segments state ≡ false
past_is_open phase.Waiting past alive = absurd (omega (arith, past))
past_is_open phase.Listen past alive = absurd (omega (arith, past))
past_is_open phase.Dead past alive = absurd (true≢false alive)
past_is_open _ past alive = refl

-- ---- a byte that isn't held any longer

held_tried : (n : ℕ) (o : Option ByteMark) → rightly o ≡ true → holds n o ≡ true → tried n o ≡ true
held_tried n None right held = absurd (true≢false (sym held))
held_tried n (Some Acked) right held = absurd (true≢false (sym held))
held_tried n (Some (Free among)) right held = absurd (true≢false (sym held))
held_tried n (Some (Held holder among)) right held = subst (λ (x : ℕ). contains x among ≡ true) (eqb-true holder n held) right

lost_by_ask : (s : Side) (path place : ℕ) (x : Ask) (six : SixBooks) → AreRightly six → holds path (slice_get (send_of s six).marks place) ≡ true
    → holds path (slice_get (send_of s (after_ask x six)).marks place) ≡ false → given_back path (send_of s six).marks < given_back path (send_of s (after_ask x six)).marks
lost_by_ask s path place x six right held away =
    count_rises (let_go path) refl place (send_of s six).marks (send_of s (after_ask x six)).marks (λ n. ask_lets_go s path n x six) (held_apart path (slice_get (send_of s six).marks place) held)
    (ask_marks s place x six (λ o q. holds path q ≡ false → rightly o ≡ true → holds path o ≡ true → let_go path q ≡ true) (λ o none right held. absurd (both_ways (holds path o) none held))
    (λ call o q step. gone_step path call o q step) away (right s place) held)

abbrev Loses : SixBooks → SixBooks → List Note → PathState Carried → PathState Carried → Type 0
Loses six after steps p q = AreRightly six → (s : Side) (path place : ℕ) → holds path (slice_get (send_of s six).marks place) ≡ true → holds path (slice_get (send_of s after).marks place) ≡ false
    → given_back path (send_of s six).marks < given_back path (send_of s after).marks

loses_between : EachPathBetween values Loses
loses_between = paths_between values Loses (λ six x steps p right s path place held away. lost_by_ask s path place x six right held away)
    (λ six x steps p asking told right s path place held away. lost_by_ask s path place x six right held away)
    (λ six steps p over right s path place held away. absurd (both_ways (holds path (slice_get (send_of s six).marks place)) away held))

-- ---- an expiry

-- where a piece isn't acknowledged, to give back comes next, at the tick of the expiry; or the end is dead
pub data Expired (s : Side) (tick : ℕ) (p q : PathState Carried) : Type 0 where
  ends : is_dead (end_at s q).tcp.state ≡ true → Expired s tick p q
  again : q.agenda ≡ expired s → q.clock ≡ max p.clock tick → Expired s tick p q

module _ (tick : ℕ) (p : PathState Carried) (first : GrantedPiece) (others : List GrantedPiece) where
  gives_next : (s : Side) (x : PathState Carried) → x.clock ≡ max p.clock tick → (end_at s x).sending.granted ≡ first ∷ others → Expired s tick p (settled (expired s) x)
  gives_next s x clock granted =
      subst (λ (gs : List GrantedPiece). Expired s tick p (if not (is_all_acknowledged gs) then with_agenda (expired s) x else with_agenda (duties.Send (send_duties.Resend s) ∷ emission s) x)) (sym granted)
      (Expired.again refl clock)

  abbrev fired_path : Side → Bool → PathState Carried
  fired_path s sixth =
      goes_on s (record (end_at s p) { tcp = if sixth then after_death true (end_at s p).tcp else after_expiry (at_tick tick p).clock (end_at s p).tcp }) (template_fired sixth s) (at_tick tick p)

  fired_so : (s : Side) (sixth : Bool) → (end_at s p).sending.granted ≡ first ∷ others → let x = fired_path s sixth in Expired s tick p (settled x.agenda x)
  fired_so A true granted = Expired.ends refl
  fired_so B true granted = Expired.ends refl
  fired_so A false granted = gives_next A (fired_path A false) refl granted
  fired_so B false granted = gives_next B (fired_path B false) refl granted

takes_expired : (r : Reply) (s : Side) (tick : ℕ) (p : PathState Carried) → RunsOut s tick p → (first : GrantedPiece) (rest : List GrantedPiece) → (end_at s p).sending.granted ≡ first ∷ rest
    → Expired s tick p (takes values r p)
takes_expired r s tick p out first rest granted =
    subst (λ ds. Expired s tick (with_agenda ds p) (takes values r (with_agenda ds p))) (sym out.first)
    (subst (λ o. let y = happens_if values o r x in Expired s tick x (settled y.agenda y)) (sym out.next) (fired_so tick x first rest s (is_sixth (end_at s p).tcp) granted))
  where
    x : PathState Carried
    x = with_agenda (duties.Step step_duties.Events ∷ out.others) p

abbrev Fires : SixBooks → SixBooks → List Note → PathState Carried → PathState Carried → Type 0
Fires six after steps p q = (s : Side) (tick : ℕ) → RunsOut s tick p → (first : GrantedPiece) (rest : List GrantedPiece) → (end_at s p).sending.granted ≡ first ∷ rest → (q ≡ p) ⊎ Expired s tick p q

fires_between : EachPathBetween values Fires
fires_between = paths_between values Fires (λ six x steps p s tick out first rest granted. inl refl)
    (λ six x steps p asking told s tick out first rest granted. inr (takes_expired (reply_of six x) s tick p out first rest granted))
    (λ six steps p over s tick out first rest granted. absurd (busy p.agenda (duties.Step step_duties.Events) out.others over out.first))

-- ---- from a path to what a turn makes of it

module _ (start : Start) (turns : List Turn) (turn : Turn) (size : HasRoom start) where
  abbrev w : WorldState Carried
  w = reached values start turns

  abbrev v : WorldState Carried
  v = after_turn values turn w

  same_world : reached values start (turns ++ turn ∷ []) ≡ v
  same_world = run_append values turns (turn ∷ []) (opened_world start)

  -- what holds between them
  record Next (number : ℕ) (p : PathState Carried) : Type 0 where
    path : PathState Carried
    here : IsPathAt number v path
    runs : (s : Side) (tick : ℕ) → IsRunning tick (end_at s p) → RunsOn s tick p path
    fires : Fires (books_in w.books) (books_in v.books) here.crew.list p path
    loses : Loses (books_in w.books) (books_in v.books) here.crew.list p path

  next : (number : ℕ) (p : PathState Carried) → IsPathAt number w p → Next number p
  next number p here = by found.0 found.1 found.0.member refl (subst (λ m. EndsRunOn m found.0.member) here.is found.2)
    where
      found : (d : ActorCrew Carried) × (slice_get v.crew (2 + number) ≡ Some d) × EndsRunOn here.crew.member d.member
      found = timers_run_on values w turn (2 + number) here.crew here.there

      booked : (R : SixBooks → SixBooks → List Note → PathState Carried → PathState Carried → Type 0) → EachPathBetween values R → (e : ActorCrew Carried) → slice_get v.crew (2 + number) ≡ Some e
          → (q : PathState Carried) → e.member ≡ Path q → R (books_in w.books) (books_in v.books) e.list p q
      booked R between e at q is =
          let other = between w turn (2 + number) here.crew here.there in
          let same : other.0 ≡ e = same_Some other.0 e (sym other.1 ∙ at) in
          let far : PathsBetween R w.books v.books e.list here.crew.member e.member = subst (λ (y : ActorCrew Carried). PathsBetween R w.books v.books y.list here.crew.member y.member) same other.2 in
          subst (λ m. PathsBetween R w.books v.books e.list (Path p) m) is (subst (λ m. PathsBetween R w.books v.books e.list m e.member) here.is far)

      by : (e : ActorCrew Carried) → slice_get v.crew (2 + number) ≡ Some e → (m : Actor Carried) → e.member ≡ m → EndsRunOn (Path p) e.member → Next number p
      by e at (Path q) is far = record {
        path = q;
        here = record { crew = e; there = at; is = is };
        runs = subst (λ m. EndsRunOn (Path p) m) is far;
        fires = booked Fires fires_between e at q is;
        loses = booked Loses loses_between e at q is;
      }
      by e at (App a) is far = absurd (subst (λ m. EndsRunOn (Path p) m) is far)

-- ---- a moment

module _ (start : Start) (turns : List Turn) where
  abbrev now : WorldState Carried
  now = reached values start turns

  right_now : AreRightly (books_in now.books)
  right_now = marks_are_right values start turns

  module _ (number : ℕ) (p : PathState Carried) (here : IsPathAt number now p) where
    pub of_path : (P : PathState Carried → Type 0) → HoldsOfKind (λ app. Unit {0}) P here.crew.member → P p
    of_path P h = subst (HoldsOfKind (λ app. Unit {0}) P) here.is h

    pub numbered : path_of p ≡ number
    numbered = let named = (subst (IsNamed values (2 + number)) here.is ((always_known values start turns).named (2 + number) here.crew here.there)).0 in omega (arith, named)

    -- a piece that isn't acknowledged
    record Piece (s : Side) : Type 0 where
      first : GrantedPiece
      others : List GrantedPiece
      granted : (end_at s p).sending.granted ≡ first ∷ others

    piece_of : HasRoom start → (s : Side) (place : ℕ) → holds number (slice_get (written_by s now).marks place) ≡ true → Piece s
    piece_of size s place held = by (end_at s p).sending.granted refl (awaited.piece)
      where
        awaited : IsAwaitedAt place (end_at s p).sending
        awaited = of_path (TriedIsAwaited now) ((what_is_tried_is_awaited start turns size).each (2 + number) here.crew here.there) s place
            (subst (λ n. tried n (slice_get (written_by s now).marks place) ≡ true) (sym numbered) (held_tried number (slice_get (written_by s now).marks place) (right_now s place) held))

        by : (gs : List GrantedPiece) → (end_at s p).sending.granted ≡ gs → Has (λ piece. has_place place piece ≡ true) (end_at s p).sending.granted → Piece s
        by (first ∷ others) is has = record { first = first; others = others; granted = is }
        by [] is has = absurd (empty has.at (ap (λ (gs : List GrantedPiece). slice_get gs has.at) (sym is) ∙ has.there))
          where
            empty : (i : ℕ) → slice_get [] i ≡ Some has.item → ⊥
            empty i at = cc

    outstanding_of : (s : Side) → Piece s → IsOutstanding (end_at s p)
    outstanding_of s piece = outstanding.on_stream piece.first piece.others piece.granted

    -- the clock isn't past the timer
    in_time : (s : Side) (tick : ℕ) → (end_at s p).tcp.timing.timer ≡ Some tick → p.clock ≤ tick
    in_time s tick is = subst (λ o. IfSome o (λ t. p.clock ≤ t)) is (timer s)
      where
        comes : ComesFrom p.clock p
        comes = of_path (λ (x : PathState Carried). ComesFrom x.clock x) ((nothing_is_overdue values start turns).each (2 + number) here.crew here.there)

        timer : (s : Side) → IfSome (end_at s p).tcp.timing.timer (λ t. p.clock ≤ t)
        timer A = comes.timer_a
        timer B = comes.timer_b

-- ---- the laws

module _ (start : Start) (turns : List Turn) (turn : Turn) (size : HasRoom start) (s : Side) (number place by_then : ℕ) where
  abbrev old : WorldState Carried
  old = reached values start turns

  abbrev new : WorldState Carried
  new = after_turn values turn old

  abbrev Result : Type 0
  Result = LentGoesOn s number place by_then old new

  module _ (h : IsLent s number place by_then old) where
    n : Next start turns turn size number h.path
    n = next start turns turn size number h.path h.here

    -- it is held still, or let go
    held_or : ((holds number (slice_get (written_by s new).marks place) ≡ true) → Result) → Result
    held_or f = by (holds number (slice_get (written_by s new).marks place)) refl
      where
        by : (b : Bool) → holds number (slice_get (written_by s new).marks place) ≡ b → Result
        by true held = f held
        by false away = lent.returned (n.loses (right_now start turns) s number place h.held away)

    goes : LetsGo s by_then n.path → holds number (slice_get (written_by s new).marks place) ≡ true → Result
    goes back held = lent.on (record { path = n.path; here = n.here; held = held; back = back })

    died : is_dead (end_at s h.path).tcp.state ≡ false → is_dead (end_at s n.path).tcp.state ≡ true → Result
    died alive dead = lent.dies h.path n.path h.here n.here alive dead

    then_at : IsPathAt number (reached values start (turns ++ turn ∷ [])) n.path
    then_at = subst (λ (u : WorldState Carried). IsPathAt number u n.path) (sym (same_world start turns turn size)) n.here

    outstanding_then : holds number (slice_get (written_by s new).marks place) ≡ true → IsOutstanding (end_at s n.path)
    outstanding_then held =
        outstanding_of start (turns ++ turn ∷ []) number n.path then_at s
        (piece_of start (turns ++ turn ∷ []) number n.path then_at size s place (subst (λ (u : WorldState Carried). holds number (slice_get (written_by s u).marks place) ≡ true) (sym (same_world start turns turn size)) held))

    runs_on : (tick : ℕ) → IsRunning tick (end_at s h.path) → tick ≤ by_then → Result
    runs_on tick run low = by (n.runs s tick run)
      where
        alive : is_dead (end_at s h.path).tcp.state ≡ false
        alive = open_lives (end_at s h.path).tcp.state run.living

        fired : (at : ℕ) → RunsOut s at h.path → (n.path ≡ h.path) ⊎ Expired s at h.path n.path → Result
        fired at out (inl same) = held_or (goes (lets.runs tick (subst (λ (x : PathState Carried). IsRunning tick (end_at s x)) (sym same) run) low))
        fired at out (inr (Expired.ends dead)) = died alive dead
        fired at out (inr (Expired.again agenda clock)) =
            let behind = timer_behind s (happenings.Fires s at) tick h.path out.next run.timer in let before = in_time start turns number h.path h.here s tick run.timer in
            held_or (goes (lets.gives agenda (omega (arith, clock, behind, before, low))))

        by : RunsOn s tick h.path n.path → Result
        by (running.on still) = held_or (goes (lets.runs tick still low))
        by (running.runs_out at out) =
            let piece = piece_of start turns number h.path h.here size s place h.held in fired at out (n.fires s at out piece.first piece.others piece.granted)
        by (running.news is) = lent.news h.path n.path h.here n.here is
        by (running.gone dead) = died alive dead
        by (running.done none) = held_or (λ held. absurd (none (outstanding_then held)))

    gives_on : h.path.agenda ≡ expired s → h.path.clock ≤ by_then → Result
    gives_on agenda low = at (each_return_counts values start turns turn number h.path h.here s (duties.Ask (ask_duties.Return s)) (duties.Send (send_duties.Resend s) ∷ emission s) agenda is_return.expires)
      where
        at : (x : PathState Carried) × IsPathAt number new x × ((x ≡ h.path) ⊎ GivesBack s number old new) → Result
        at found = ⊎_elim
            (λ same. held_or (λ held. lent.on (record {
              path = found.0;
              here = found.1;
              held = held;
              back = subst (λ (x : PathState Carried). LetsGo s by_then x) (sym same) (lets.gives agenda low);
            })))
            (λ gives. lent.returned (gives.more place h.held)) found.2

    back_on : LetsGo s by_then h.path → Result
    back_on (lets.runs tick run low) = runs_on tick run low
    back_on (lets.gives agenda low) = gives_on agenda low

    lent_goes_on : Result
    lent_goes_on = back_on h.back

some_tick : (o : Option ℕ) → IsSome o → (tick : ℕ) × (o ≡ Some tick)
some_tick (Some tick) is = (tick, refl)
some_tick None is = absurd (true≢false (sym is))

module _ (start : Start) (turns : List Turn) (s : Side) (number place : ℕ) (p : PathState Carried) (here : IsPathAt number (reached values start turns) p) (over : p.agenda ≡ []) where
  module _ (size : HasRoom start) (held : holds number (slice_get (written_by s (reached values start turns)).marks place) ≡ true) where
    may : MayHold s p
    may = let found = (holders_live values start turns).each s number place held in
        let same : found.1.crew ≡ here.crew = same_Some found.1.crew here.crew (sym found.1.there ∙ here.there) in
        let one : Path found.0 ≡ Path p = sym found.1.is ∙ ap (λ (y : ActorCrew Carried). y.member) same ∙ here.is in
        subst (λ (x : PathState Carried). MayHold s x) (let own : found.0 ≡ p = cc in own) found.2

    alive : is_dead (end_at s p).tcp.state ≡ false
    alive = ⊎_elim (λ lives. lives) (λ l. absurd (never_leaves s p.agenda (ap is_nil over) l)) may.lives

    open_end : is_closed_to_segments (end_at s p).tcp.state ≡ false
    open_end = past_is_open (end_at s p).tcp.state may.past alive

    timed : (tick : ℕ) × ((end_at s p).tcp.timing.timer ≡ Some tick)
    timed = some_tick (end_at s p).tcp.timing.timer
        (of_path start turns number p here IsTimedWhereItWaits ((who_waits_has_a_timer values start turns).each (2 + number) here.crew here.there) over s open_end
        (outstanding_of start turns number p here s (piece_of start turns number p here size s place held)))

    near : timed.0 ≤ p.clock + 60000
    near = subst (λ o. IfSome o (λ t. t ≤ p.clock + 60000)) timed.1 (by s)
      where
        all : TimersAreNear p
        all = of_path start turns number p here TimersAreNear ((timers_run_out values start turns).each (2 + number) here.crew here.there)

        by : (s : Side) → IfSome (end_at s p).tcp.timing.timer (λ t. t ≤ p.clock + 60000)
        by A = all.a.timer
        by B = all.b.timer

    lent_begins : IsLent s number place (p.clock + 60000) (reached values start turns)
    lent_begins = record {
      path = p;
      here = here;
      held = held;
      back = lets.runs timed.0 (record {
        timer = timed.1;
        settled = of_path start turns number p here IsSettledAtTheEnd (((no_timer_is_put_off values).settled start turns).each (2 + number) here.crew here.there) over s alive;
        living = open_end;
      }) near;
    }

  lent_is_due : (by_then : ℕ) → LetsGo s by_then p → p.until ≤ by_then
  lent_is_due by_then (lets.runs tick run low) =
      let late : p.until ≤ tick = subst (λ o. IfSome o (λ t. p.until ≤ t)) run.timer (by s) in omega (arith, late, low)
    where
      comes : ComesFrom p.until p
      comes = of_path start turns number p here (λ (x : PathState Carried). x.agenda ≡ [] → ComesFrom x.until x) ((nothing_is_overdue values start turns).over (2 + number) here.crew here.there) over

      by : (s : Side) → IfSome (end_at s p).tcp.timing.timer (λ t. p.until ≤ t)
      by A = comes.timer_a
      by B = comes.timer_b
  lent_is_due by_then (lets.gives agenda low) = absurd (busy [] (duties.Ask (ask_duties.Return s)) (duties.Send (send_duties.Resend s) ∷ emission s) refl (sym over ∙ agenda))

pub holders_let_go : HoldersLetGo
holders_let_go = record {
  begins = λ start turns size s number place p here over held. lent_begins start turns s number place p here over size held;
  goes_on = λ start turns turn size s number place by h. lent_goes_on start turns turn size s number place by h;
  due = λ start turns s number place by h over. lent_is_due start turns s number place h.path h.here over by h.back;
}
