-- A step of one actor, as one of the world: what comes of it, and that the world stays sound.
--
-- What can fail last is the actor's `take`, so an error leaves each actor as it was, and the outcome too
-- (`ShowsTheSame`).
--
-- Clauses of a callee at Ok that a caller's clause needs together: `both_ok`, `both_err` (`proofs/Lists`),
-- and one lemma a clause over the lent element, its place and the element written back (`advance_..` of
-- `proofs/StepMade`).
--
-- In a method of a struct with a model the value before is `c.self.inside`'s view: `subst` along `c.self.view_is`.
use Rattle.std.proofs.Common.{◌≡◌, refl, sym, ◌∙◌, ap, subst, ℕ, ◌+◌, ◌^◌, ◌<◌, Bool, true, false, not, is_some, ⊎_elim, Option, Some, None, List, [], ◌∷◌, length, set, Result, OnOk, OnErr, arith}
use Rattle.std.proofs.lemmas.Bool.{both_ways}
use Rattle.std.proofs.lemmas.List.{length-append}
use Rattle.std.specs.List.{slice_get, slice_index_or}
use Rattle.actor_desk.specs.declared.ask.Ask.{Ask}
use Rattle.actor_desk.specs.Words.{is_nil}
use Rattle.path_agenda.specs.declared.duty.Duty.{Duty}
use Rattle.path_core.specs.Octets.{octets}
use Rattle.path_core.specs.State.{PathState}
use Rattle.path_core.specs.Steps.{asks_first}
use Rattle.stamped_book.specs.declared.stamped.Pass.{Pass}
use Rattle.stream_apps.specs.Apps.{AppState}
use Rattle.stream_apps.specs.AppSteps.{app_asks_first}
use Rattle.stream_apps.specs.declared.duty.AppDuty.{AppDuty}
use Rattle.stream_lanes.proofs.Lists.{in_set, set_same}
use Rattle.world_laws.specs.Actors.{Actor, ActorCrew, member_asks, member_takes, is_over}
use Rattle.world_laws.specs.declared.member.Member.TheVariants.{App, Path}
use Rattle.world_laws.specs.Fine.{IsFine}
use Rattle.world_laws.specs.StampedBooks.{answer_to}
use Rattle.actor_desk.specs.Books.{StampedBooks}
use Rattle.world_laws.specs.Worlds.{note_of, crew_after, asked, stepped, world_step, goes, is_going}
use Rattle.world_laws.proofs.Weaving.Paired.{step_fine}
use Rattle.world_core.specs.Hearing.{heard_by, heard_with, ShowsTheSame}
use Rattle.world_core.specs.Kept.{world, IsSound, IsInRoundAbove}
use Rattle.world_core.specs.Steps.{note_if, crew_if, books_if, GoesUp, StampRises, stamp_or, note_by, next_note}
use Rattle.world_laws.specs.Timely.{IsTimelyMember}
use Rattle.world_laws.proofs.Rounds.Frame.{takes_keeps}
use Rattle.world_core.specs.Timely.{IsTimelyCrew}
use Rattle.world_core.proofs.Lists.{put_again, found, both_ok, both_err}
use Rattle.world_core.proofs.InRound.{step_in_round}
use Rattle.world_core.proofs.Showing.{heard_again, shows_other}

-- ---- an actor whose turn hasn't ended asks

app_asks : (ds : List AppDuty) (a : AppState) → is_nil ds ≡ false → app_asks_first ds a ≡ None → ⊥
app_asks = elim [ [] ↦ λ a going nothing. cc | d ∷ ds ↦ λ a going nothing. cc ]

path_asks : (ds : List Duty) (p : PathState (List ℕ)) → is_nil ds ≡ false → asks_first octets ds p ≡ None → ⊥
path_asks = elim [ [] ↦ λ p going nothing. cc | d ∷ ds ↦ λ p going nothing. cc ]

pub going_asks : (m : Actor (List ℕ)) → is_over m ≡ false → member_asks octets m ≡ None → ⊥
going_asks (App a) going nothing = app_asks a.agenda a going nothing
going_asks (Path p) going nothing = path_asks p.agenda p going nothing

pub over_asks_none : (m : Actor (List ℕ)) → is_over m ≡ true → member_asks octets m ≡ None
over_asks_none (App a) over = (elim a.agenda as (λ ds. is_nil ds ≡ true → app_asks_first ds a ≡ None) [ [] ↦ λ over. refl | d ∷ ds ↦ λ over. cc ]) over
over_asks_none (Path p) over = (elim p.agenda as (λ ds. is_nil ds ≡ true → asks_first octets ds p ≡ None) [ [] ↦ λ over. refl | d ∷ ds ↦ λ over. cc ]) over

over_asks : (m : Actor (List ℕ)) → is_some (member_asks octets m) ≡ not (is_over m)
over_asks (App a) = elim a.agenda as (λ ds. is_some (app_asks_first ds a) ≡ not (is_nil ds)) [ [] ↦ refl | d ∷ ds ↦ refl ]
over_asks (Path p) = elim p.agenda as (λ ds. is_some (asks_first octets ds p) ≡ not (is_nil ds)) [ [] ↦ refl | d ∷ ds ↦ refl ]

some_note : (o : Option Ask) (books : StampedBooks) (pass : Pass) → is_some (note_if o books pass) ≡ is_some o
some_note = elim [ None ↦ λ books pass. refl | Some ask ↦ λ books pass. refl ]

-- ---- the world after the step

module _ (crew : List (ActorCrew (List ℕ))) (books after : StampedBooks) (i : ℕ) (c d : ActorCrew (List ℕ)) (there : slice_get crew i ≡ Some c)
    (crew_is : d ≡ crew_if (member_asks octets c.member) books c) (books_are : after ≡ books_if (member_asks octets c.member) c.pass books) where
  step_by : (o : Option Ask) → d ≡ crew_if o books c → after ≡ books_if o c.pass books → world (set crew i d) after ≡ asked octets i o c (world crew books)
  step_by None e f = ap (λ x. world (set crew i x) after) e ∙ ap (λ b. world (set crew i c) b) f ∙ ap (λ xs. world xs books) (put_again crew i c there)
  step_by (Some ask) e f = ap (λ x. world (set crew i x) after) e ∙ ap (λ b. world (set crew i (crew_after octets ask books c)) b) f

  pub step_is : world (set crew i d) after ≡ world_step octets i (world crew books)
  step_is = step_by (member_asks octets c.member) crew_is books_are ∙ ap (λ o. stepped octets i o (world crew books)) (sym there)

  -- a step was made where the turn hadn't ended, and else nothing changed
  pub step_goes : is_some (note_if (member_asks octets c.member) books c.pass) ≡ is_going i (world crew books)
  step_goes = some_note (member_asks octets c.member) books c.pass ∙ over_asks c.member ∙ ap goes (sym there)

  pub step_rests : note_if (member_asks octets c.member) books c.pass ≡ None → world (set crew i d) after ≡ world crew books
  step_rests = (elim (member_asks octets c.member) as (λ o. d ≡ crew_if o books c → after ≡ books_if o c.pass books → note_if o books c.pass ≡ None → world (set crew i d) after ≡ world crew books)
      [ None ↦ λ e f nothing. step_by None e f | Some ask ↦ λ e f nothing. cc ]) crew_is books_are

  -- ---- stamps

  pub step_rises : (is_over c.member ≡ false → GoesUp c.pass.stamp d.pass.stamp) → StampRises i (world crew books) (world (set crew i d) after)
  step_rises up going =
      let over : not (is_over c.member) ≡ true = subst (λ o. goes o ≡ true) there going in
      subst (λ o. GoesUp (stamp_or o) (stamp_or (slice_get (set crew i d) i))) (sym there)
      (subst (λ o. GoesUp c.pass.stamp (stamp_or o)) (sym (set_same crew i d c there)) (up (by (is_over c.member) over)))
    where
      by : (b : Bool) → not b ≡ true → b ≡ false
      by = elim [ true ↦ λ e. cc | false ↦ λ e. refl ]

  -- ---- what was told

  pub step_hears : heard_by (set crew i d) ≡ heard_with (note_if (member_asks octets c.member) books c.pass) i (heard_by crew)
  step_hears = (elim (member_asks octets c.member) as (λ o. d ≡ crew_if o books c → heard_by (set crew i d) ≡ heard_with (note_if o books c.pass) i (heard_by crew)) [
    | None ↦ λ e. ap (λ x. heard_by (set crew i x)) e ∙ ap heard_by (put_again crew i c there)
    | Some ask ↦ λ e. heard_again crew i c d (note_of books c.pass ask) there (ap (λ x. x.list) e)
  ]) crew_is

  -- ---- rounds

  timely_member : (ask : Ask) (m : Actor (List ℕ)) (n : ℕ) → IsTimelyMember n m → IsTimelyMember (n + 1) (member_takes octets (answer_to books ask) m)
  timely_member ask (App a) n h = tt
  timely_member ask (Path p) n h =
      let kept = takes_keeps octets (answer_to books ask) p in
      record { begun = omega (arith, kept.0, h.begun); over = λ _. omega (arith, kept.0, h.begun) }

  timely_crew : (o : Option Ask) → d ≡ crew_if o books c → (length c.list < 2 ^ 57 → length d.list < 2 ^ 57) → IsTimelyCrew c → IsTimelyCrew d
  timely_crew None e few h = subst IsTimelyCrew (sym e) h
  timely_crew (Some ask) e few h = record {
    few = few h.few;
    timely =
        let longer : length d.list ≡ length c.list + 1 = ap (λ x. length x.list) e ∙ length-append c.list (note_of books c.pass ask ∷ []) in
        let member : d.member ≡ member_takes octets (answer_to books ask) c.member = ap (λ x. x.member) e in
        subst (λ n. IsTimelyMember n d.member) (sym longer)
        (subst (IsTimelyMember (length c.list + 1)) (sym member) (timely_member ask c.member (length c.list) h.timely));
  }

  pub step_sound : (length c.list < 2 ^ 57 → length d.list < 2 ^ 57) → IsSound (world crew books) → IsSound (world (set crew i d) after)
  step_sound few h = record {
    top = h.top;
    fine = subst (IsFine h.top) (sym step_is) (step_fine octets i h.top (world crew books) h.fine);
    timely = record {
      each = λ k x at. ⊎_elim
          (λ here. subst IsTimelyCrew here.1 (timely_crew (member_asks octets c.member) crew_is few (h.timely.each i c there)))
          (λ other. h.timely.each k x other.1)
          (in_set crew i d k x at);
    };
    round = subst (IsInRoundAbove h.top) (sym step_is) (step_in_round i h.top (world crew books) h.round);
  }

-- ---- where there is no such actor

module _ (crew : List (ActorCrew (List ℕ))) (books : StampedBooks) (i : ℕ) (none : slice_get crew i ≡ None) where
  pub none_is : world crew books ≡ world_step octets i (world crew books)
  none_is = ap (λ o. stepped octets i o (world crew books)) (sym none)

  pub none_notes : None ≡ next_note i (world crew books)
  none_notes = ap (λ o. note_by o books) (sym none)

  pub none_goes : false ≡ is_going i (world crew books)
  none_goes = ap goes (sym none)

  pub none_rises : StampRises i (world crew books) (world crew books)
  none_rises going = absurd (both_ways (is_going i (world crew books)) (sym none_goes) going)

-- ---- as the code makes it: at a place that was found

module _ (crew : List (ActorCrew (List ℕ))) (books after : StampedBooks) (i j : ℕ) (c d : ActorCrew (List ℕ)) (same : j ≡ i)
    (within : j < length crew) (is : c ≡ slice_index_or crew j c) where
  at_actor : {T E : Type 0} (r : Result T E) (P : ℕ → Type 0) → OnOk r (P i) → OnOk r (P j)
  at_actor r P = subst (λ n. OnOk r (P n)) (sym same)

  there : slice_get crew i ≡ Some c
  there = found crew i j c same within is

  module _ {T E : Type 0} (r : Result T E) (crew_is : OnOk r (d ≡ crew_if (member_asks octets c.member) books c))
      (books_are : OnOk r (after ≡ books_if (member_asks octets c.member) c.pass books)) where
    both : OnOk r ((d ≡ crew_if (member_asks octets c.member) books c) × (after ≡ books_if (member_asks octets c.member) c.pass books))
    both = both_ok r (λ e f. (e, f)) crew_is books_are

    pub advance_is : OnOk r (world (set crew j d) after ≡ world_step octets i (world crew books))
    advance_is = at_actor r (λ n. world (set crew n d) after ≡ world_step octets i (world crew books))
        (both_ok r (λ e f. step_is crew books after i c d there e f) crew_is books_are)

    pub advance_rises : OnOk r (is_over c.member ≡ false → GoesUp c.pass.stamp d.pass.stamp) → OnOk r (StampRises i (world crew books) (world (set crew j d) after))
    advance_rises up = at_actor r (λ n. StampRises i (world crew books) (world (set crew n d) after))
        (both_ok r (λ b u. step_rises crew books after i c d there b.0 b.1 u) both up)

    pub advance_hears : OnOk r (heard_by (set crew j d) ≡ heard_with (next_note i (world crew books)) i (heard_by crew))
    advance_hears = at_actor r (λ n. heard_by (set crew n d) ≡ heard_with (next_note i (world crew books)) i (heard_by crew))
        (both_ok r (λ e f. step_hears crew books after i c d there e f ∙ ap (λ o. heard_with (note_by o books) i (heard_by crew)) (sym there)) crew_is books_are)

    pub advance_sound : OnOk r (length c.list < 2 ^ 57 → length d.list < 2 ^ 57) → OnOk r (IsSound (world crew books) → IsSound (world (set crew j d) after))
    advance_sound few = at_actor r (λ n. IsSound (world crew books) → IsSound (world (set crew n d) after))
        (both_ok r (λ b f. step_sound crew books after i c d there b.0 b.1 f) both few)

  pub advance_shows : {T E : Type 0} (r : Result T E) → OnErr r (d.member ≡ c.member) → OnErr r (d.list ≡ c.list) → OnErr r (ShowsTheSame crew (set crew j d))
  advance_shows r member list = both_err r
      (λ m l. subst (λ n. ShowsTheSame crew (set crew n d)) (sym same) (shows_other crew i c d there m l)) member list
