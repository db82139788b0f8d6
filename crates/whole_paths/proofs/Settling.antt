-- What holds of an end once its timer was settled holds of it at the end of each turn.
use Rattle.std.proofs.Common.{◌≡◌, refl, sym, subst, ap, ◌∙◌, ◌⊎◌, inl, inr, ⊎_elim, ℕ, zero, suc, ◌+◌, Bool, true, false, true≢false, not, ◌&&◌, ◌||◌, if◌then◌else◌, Some, List, [], ◌∷◌, ◌++◌}
use Rattle.std.specs.List.{slice_get}
use Rattle.std.proofs.lemmas.Bool.{and_parts}
use Rattle.sides.specs.declared.side.Side.{Side}
use Rattle.sides.specs.declared.side.Side.TheVariants.{A, B}
use Rattle.sides.specs.Side.{peer}
use Rattle.link_script.specs.Places.{same_side}
use Rattle.subflow_tcp.specs.States.{is_dead}
use Rattle.actor_desk.specs.declared.ask.Reply.{Reply}
use Rattle.actor_desk.specs.Words.{pick}
use Rattle.path_agenda.specs.Agenda.{start_of_turn, payload_came, heard_and, copy_came, rest_of_turn, breaks, resets, leaves, stops}
use Rattle.path_agenda.specs.declared.duty.Duty.{Duty}
use Rattle.path_agenda.specs.declared.duty.Duty.TheVariants as duties
use Rattle.path_agenda.specs.declared.duty.AskDuty.TheVariants as ask_duties
use Rattle.path_agenda.specs.declared.duty.SendDuty.TheVariants as send_duties
use Rattle.path_agenda.specs.declared.duty.SilentDuty.TheVariants as silent_duties
use Rattle.path_agenda.specs.declared.duty.StepDuty.TheVariants as step_duties
use Rattle.path_core.specs.Codec.{Codec}
use Rattle.path_core.specs.Duties.{stands, passed, answered}
use Rattle.path_core.specs.End.{PathEnd, died}
use Rattle.path_core.specs.Events.{next_event}
use Rattle.path_core.specs.State.{PathState, end_at, with_agenda}
use Rattle.path_core.specs.Steps.{settled, takes, begins_turn}
use Rattle.path_core.specs.Timer.{with_timer_settled}
use Rattle.world_laws.specs.declared.member.Member.TheVariants.{App, Path}
use Rattle.world_laws.specs.Worlds.{Turn, world_run}
use Rattle.world_laws.specs.Actors.{Actor, ActorCrew, member_takes, member_next}
use Rattle.world_laws.specs.Members.{HoldsOfKind}
use Rattle.world_laws.specs.Openings.{Start, path_begins, opened_world}
use Rattle.world_laws.specs.StampedBooks.{answer_to}
use Rattle.world_laws.specs.Writes.{Writes, OnlyAt, PathView, end_view, nothing, writes, side_of}
use Rattle.world_laws.proofs.Rounds.Lifting.{run_lifted, opened_lifted}
use Rattle.world_laws.proofs.Writes.Paths.{writes_no_more, passes_no_more}
use Rattle.path_core.specs.Start.{waiting_path}
use Rattle.whole_paths.specs.AgendaSteps.{treats_copy, may_break, is_of_both, IsStill, is_gone, Follows, Happened, Happens, event_side}
use Rattle.whole_paths.specs.AgendaSteps.{Follows as follow}
use Rattle.whole_paths.specs.AgendaSteps.{Happened as happened}
use Rattle.whole_paths.proofs.Agendas.{own_end, gone_end, answered_follows}

-- ---- agendas

-- the duty settles the timer of this side, or its end is dead then
abbrev pub settles : Side → Duty → Bool
settles s (duties.Silent (silent_duties.Timer t)) = same_side t s
settles s (duties.Ask (ask_duties.BreakAck t reason)) = same_side t s
settles s (duties.Send (send_duties.BreakReset t reason)) = same_side t s
settles s (duties.Send (send_duties.Reset t)) = same_side t s
settles s _ = false

abbrev pub settles_in : Side → List Duty → Bool
settles_in s [] = false
settles_in s (d ∷ ds) = settles s d || settles_in s ds

-- a duty that gives no end a reason, since it settles the timer, or leaves the ends as they are, or is an event
abbrev pub is_calm : Duty → Bool
is_calm (duties.Silent (silent_duties.Timer t)) = true
is_calm (duties.Ask (ask_duties.BreakAck t reason)) = true
is_calm (duties.Send (send_duties.BreakReset t reason)) = true
is_calm (duties.Send (send_duties.Reset t)) = true
is_calm (duties.Ask (ask_duties.Leave t)) = true
is_calm (duties.Ask (ask_duties.Dead t)) = true
is_calm (duties.Send (send_duties.ResetAnswer t)) = true
is_calm (duties.Step step_duties.Events) = true
is_calm duties.End = true
is_calm _ = false

-- a duty of the other side, or of both, that may end what is behind it
abbrev ends_rest : Side → Duty → Bool
ends_rest s d = (may_break d && not (same_side (side_of d) s)) || is_of_both d

-- Behind each duty that may give this side's end a reason one settles the timer, and behind none that may end the rest.
abbrev pub is_kept : Side → List Duty → Bool
is_kept s [] = true
is_kept s (d ∷ ds) =
    (settles_in s ds || (is_calm d || not (same_side (side_of d) s))) && ((not (settles_in s ds) || not (ends_rest s d)) && is_kept s ds)

-- an agenda begins with nothing silent
abbrev is_loud : List Duty → Bool
is_loud [] = true
is_loud (duties.Silent d ∷ ds) = false
is_loud (_ ∷ ds) = true

apart : (t : Side) → same_side t (peer t) ≡ false
apart A = refl
apart B = refl

itself : (t : Side) → same_side t t ≡ true
itself A = refl
itself B = refl

or_true : (b : Bool) → (b || true) ≡ true
or_true true = refl
or_true false = refl

never : (b : Bool) → b ≡ true → not b ≡ true → ⊥
never true is isnt = true≢false (sym isnt)
never false is isnt = true≢false (sym is)

-- one more in front, where one settles the timer exactly if the duty is of this side
in_front : (s : Side) (d : Duty) (ds : List Duty) → settles_in s ds ≡ same_side (side_of d) s → is_of_both d ≡ false → is_kept s ds ≡ true → is_kept s (d ∷ ds) ≡ true
in_front s d ds settled one kept = by (same_side (side_of d) s) (is_calm d) (may_break d) (settles_in s ds) (is_of_both d) (is_kept s ds) settled one kept
  where
    by : (b calm breaks a o k : Bool) → a ≡ b → o ≡ false → k ≡ true → ((a || (calm || not b)) && ((not a || not ((breaks && not b) || o)) && k)) ≡ true
    by b calm breaks a o k settled one kept = rw (settled, one, kept) (plainly b calm breaks)
      where
        plainly : (b calm breaks : Bool) → ((b || (calm || not b)) && ((not b || not ((breaks && not b) || false)) && true)) ≡ true
        plainly true calm true = refl
        plainly true calm false = refl
        plainly false true breaks = refl
        plainly false false breaks = refl

-- ---- templates

heard_settled : (s t : Side) (from count : ℕ) (ds : List Duty) → settles_in s (heard_and t from count ds) ≡ settles_in s ds
heard_settled s t from zero ds = refl
heard_settled s t from (suc count) ds = heard_settled s t (from + 1) count ds

heard_kept : (s t : Side) (from count : ℕ) (ds : List Duty) → settles_in s ds ≡ same_side t s → is_kept s ds ≡ true → is_kept s (heard_and t from count ds) ≡ true
heard_kept s t from zero ds settled kept = kept
heard_kept s t from (suc count) ds settled kept =
    in_front s (duties.Step (step_duties.Heard t from)) (heard_and t (from + 1) count ds) (heard_settled s t (from + 1) count ds ∙ settled) refl
    (heard_kept s t (from + 1) count ds settled kept)

copy_kept : (s t : Side) (count : ℕ) → settles_in s (payload_came t) ≡ same_side t s → is_kept s (payload_came t) ≡ true → is_kept s (copy_came t count) ≡ true
copy_kept s t count settled kept =
    let ds : List Duty = heard_and t 0 count (payload_came t) in
    let same : settles_in s ds ≡ same_side t s = heard_settled s t 0 count (payload_came t) ∙ settled in
    in_front s (duties.Ask (ask_duties.Opened t)) (duties.Ask (ask_duties.Live t) ∷ ds) same refl
    (in_front s (duties.Ask (ask_duties.Live t)) ds same refl (heard_kept s t 0 count (payload_came t) settled kept))

copy_settles : (s t : Side) (count : ℕ) → settles_in s (payload_came t) ≡ same_side t s → settles_in s (copy_came t count) ≡ same_side t s
copy_settles s t count settled = heard_settled s t 0 count (payload_came t) ∙ settled

died_kept : (s : Side) (a b : Bool) → is_kept s ((if a then [] else duties.Ask (ask_duties.Leave A) ∷ []) ++ ((if b then [] else duties.Ask (ask_duties.Leave B) ∷ []) ++ rest_of_turn)) ≡ true
died_kept s true true = refl
died_kept s true false = refl
died_kept s false true = refl
died_kept s false false = refl

-- What holds of an end that is dead, and of one whose timer was just settled, and goes on to hold where nothing changes.
pub record IsSettled (P : PathEnd → Type 0) : Type 0 where
  pub seen : (e f : PathEnd) → end_view nothing f ≡ end_view nothing e → P e → P f
  pub still : (e f : PathEnd) → IsStill e f → P e → P f
  pub gone : (e : PathEnd) → is_gone e ≡ true → P e
  pub timer : (now : ℕ) (e : PathEnd) → P (with_timer_settled now e)

-- what is kept by all rules, where a timer is settled only at an end of which R holds
pub record IsSettledBy (P R : PathEnd → Type 0) : Type 0 where
  pub seen : (e f : PathEnd) → end_view nothing f ≡ end_view nothing e → P e → P f
  pub still : (e f : PathEnd) → IsStill e f → P e → P f
  pub gone : (e : PathEnd) → is_gone e ≡ true → P e
  pub timer : (now : ℕ) (e : PathEnd) → R e → P (with_timer_settled now e)

-- What holds of an end by what is to be done, so that this holds where its timer is settled for the last time in a turn.
pub record IsAhead {C : Type 0} (R : PathEnd → Type 0) (F : Side → List Duty → PathState C → Type 0) : Type 0 where
  pub timer : (s : Side) (ds : List Duty) (p : PathState C) → F s (duties.Silent (silent_duties.Timer s) ∷ ds) p → (settles_in s ds ≡ true) ⊎ R (end_at s p)
  pub passes : (s : Side) (d : Duty) (ds : List Duty) (p : PathState C) → stands d p ≡ false → F s (d ∷ ds) p → F s ds (passed d p)
  pub stays : (s : Side) (ds : List Duty) (p : PathState C) → F s ds p → F s ds (with_agenda ds p)
  pub answers : (k : Codec C) (s : Side) (d : Duty) (ds : List Duty) (r : Reply) (p : PathState C) → is_kept s (d ∷ ds) ≡ true → F s (d ∷ ds) (with_agenda (d ∷ ds) p)
      → let q = answered k d r (with_agenda (d ∷ ds) p) in F s q.agenda q
  pub begins : (s : Side) (p : PathState C) → F s start_of_turn (with_agenda start_of_turn p)

module _ (e f : PathEnd) where
  happened_kept : (s t : Side) (ds : List Duty) → Happened t e f ds → is_kept s ds ≡ true
  happened_kept s t ds (happened.both_dead gone a b) = died_kept s (is_dead a.tcp.state) (is_dead b.tcp.state)
  happened_kept A A ds (happened.copy count) = copy_kept A A count refl refl
  happened_kept A B ds (happened.copy count) = copy_kept A B count refl refl
  happened_kept B A ds (happened.copy count) = copy_kept B A count refl refl
  happened_kept B B ds (happened.copy count) = copy_kept B B count refl refl
  happened_kept A A ds _ = refl
  happened_kept A B ds _ = refl
  happened_kept B A ds _ = refl
  happened_kept B B ds _ = refl

  -- after an event the timer will be settled, or it holds
  happened_holds : (P R : PathEnd → Type 0) → IsSettledBy P R → (t : Side) (ds : List Duty) → Happened t e f ds → P e → (settles_in t ds ≡ true) ⊎ P f
  happened_holds P R rule t ds (happened.nothing still) holds = inr (rule.still e f still holds)
  happened_holds P R rule t ds (happened.answered_dead still) holds = inr (rule.still e f still holds)
  happened_holds P R rule t ds (happened.dead gone) holds = inr (rule.gone f gone)
  happened_holds P R rule t ds (happened.both_dead gone a b) holds = inr (rule.gone f gone)
  happened_holds P R rule A ds (happened.copy count) holds = inl (copy_settles A A count refl)
  happened_holds P R rule B ds (happened.copy count) holds = inl (copy_settles B B count refl)
  happened_holds P R rule A ds _ holds = inl refl
  happened_holds P R rule B ds _ holds = inl refl

-- ---- what an agenda tells

module _ (s : Side) (d : Duty) (ds : List Duty) (kept : is_kept s (d ∷ ds) ≡ true) where
  abbrev first_part : Bool
  first_part = settles_in s ds || (is_calm d || not (same_side (side_of d) s))

  abbrev second_part : Bool
  second_part = not (settles_in s ds) || not (ends_rest s d)

  rest_kept : is_kept s ds ≡ true
  rest_kept = (and_parts second_part (is_kept s ds) (and_parts first_part (second_part && is_kept s ds) kept).1).1

  pub behind : is_calm d ≡ false → same_side (side_of d) s ≡ true → settles_in s ds ≡ true
  behind calm own = by (settles_in s ds) (is_calm d) (same_side (side_of d) s) calm own (and_parts first_part (second_part && is_kept s ds) kept).0
    where
      by : (a c o : Bool) → c ≡ false → o ≡ true → (a || (c || not o)) ≡ true → a ≡ true
      by true c o free same is = refl
      by false true o free same is = absurd (true≢false free)
      by false false true free same is = is
      by false false false free same is = absurd (true≢false (sym same))

  none_behind : ends_rest s d ≡ true → settles_in s ds ≡ false
  none_behind ends = by (settles_in s ds) (ends_rest s d) ends (and_parts second_part (is_kept s ds) (and_parts first_part (second_part && is_kept s ds) kept).1).0
    where
      by : (a e : Bool) → e ≡ true → (not a || not e) ≡ true → a ≡ false
      by false e ends is = refl
      by true true ends is = absurd (true≢false (sym is))
      by true false ends is = absurd (true≢false (sym ends))

-- a calm duty that others stand behind
calm_front : (s : Side) (d : Duty) (ds : List Duty) → is_calm d ≡ true → may_break d ≡ false → is_of_both d ≡ false → is_kept s ds ≡ true → is_kept s (d ∷ ds) ≡ true
calm_front s d ds calm breaks one kept = by (same_side (side_of d) s) (settles_in s ds) (is_calm d) (may_break d) (is_of_both d) (is_kept s ds) calm breaks one kept
  where
    by : (b a c m o k : Bool) → c ≡ true → m ≡ false → o ≡ false → k ≡ true → ((a || (c || not b)) && ((not a || not ((m && not b) || o)) && k)) ≡ true
    by b true c m o k calm breaks one kept = rw (breaks, one, kept) refl
    by b false c m o k calm breaks one kept = rw (calm, kept) refl

loose : (s : Side) (d : Duty) → is_calm d ≡ false → settles s d ≡ false
loose s (duties.Silent (silent_duties.Timer t)) calm = absurd (true≢false calm)
loose s (duties.Ask (ask_duties.BreakAck t reason)) calm = absurd (true≢false calm)
loose s (duties.Send (send_duties.BreakReset t reason)) calm = absurd (true≢false calm)
loose s (duties.Send (send_duties.Reset t)) calm = absurd (true≢false calm)
loose s _ calm = refl

of_both_calm : (d : Duty) → is_of_both d ≡ true → is_calm d ≡ true
of_both_calm (duties.Step step_duties.Events) both = refl
of_both_calm duties.End both = refl
of_both_calm _ both = absurd (true≢false (sym both))

treats_breaks : (d : Duty) → treats_copy d ≡ true → may_break d ≡ true
treats_breaks (duties.Ask (ask_duties.BreakAck s reason)) treats = refl
treats_breaks (duties.Send (send_duties.BreakReset s reason)) treats = refl
treats_breaks _ treats = treats

-- the agendas of a death, and of a break
record Fresh (s t : Side) : Type 0 where
  broken : (reason : ℕ) → is_kept s (breaks t reason) ≡ true
  is_reset : (reason : ℕ) → is_kept s (resets t reason) ≡ true
  dead : is_kept s (leaves t) ≡ true
  stopped : is_kept s (stops t) ≡ true

fresh : (s t : Side) → Fresh s t
fresh A A = record { broken = λ reason. refl; is_reset = λ reason. refl; dead = refl; stopped = refl }
fresh A B = record { broken = λ reason. refl; is_reset = λ reason. refl; dead = refl; stopped = refl }
fresh B A = record { broken = λ reason. refl; is_reset = λ reason. refl; dead = refl; stopped = refl }
fresh B B = record { broken = λ reason. refl; is_reset = λ reason. refl; dead = refl; stopped = refl }

settled_first : (s : Side) (ds : List Duty) → (same_side s s || settles_in s ds) ≡ true
settled_first s ds = subst (λ b. (b || settles_in s ds) ≡ true) (sym (itself s)) refl

settled_later : (s : Side) (d : Duty) (ds : List Duty) → settles_in s ds ≡ true → settles_in s (d ∷ ds) ≡ true
settled_later s d ds is = subst (λ b. (settles s d || b) ≡ true) (sym is) (or_true (settles s d))

-- ---- what follows a duty

-- at its own side
own_follows : (s : Side) (gone : Bool) (d : Duty) (ds next : List Duty) → Follows s gone d ds next → is_calm d ≡ false → same_side (side_of d) s ≡ true → is_kept s (d ∷ ds) ≡ true
    → (is_kept s next ≡ true) × ((settles_in s next ≡ true) ⊎ (gone ≡ true))
own_follows s gone d ds next follows calm own kept = by next follows
  where
    rest : is_kept s ds ≡ true
    rest = rest_kept s d ds kept

    later : settles_in s ds ≡ true
    later = behind s d ds kept calm own

    by : (next : List Duty) → Follows s gone d ds next → (is_kept s next ≡ true) × ((settles_in s next ≡ true) ⊎ (gone ≡ true))
    by next follow.goes_on = (rest, inl later)
    by next follow.again = (kept, inl (settled_later s d ds later))
    by next (follow.told treats e side one named silent) =
        (in_front s e ds (later ∙ sym (subst (λ t. same_side t s ≡ true) (sym side) (itself s))) one rest, inl (settled_later s e ds later))
    by next (follow.left dead) = (calm_front s (duties.Ask (ask_duties.Leave s)) ds refl refl refl rest, inl later)
    by next follow.noted = (calm_front s (duties.Ask (ask_duties.Dead s)) ds refl refl refl rest, inl later)
    by next (follow.broken may reason) = ((fresh s s).broken reason, inl (settled_first s rest_of_turn))
    by next (follow.is_reset may reason) = ((fresh s s).is_reset reason, inl (settled_first s rest_of_turn))
    by next (follow.dead may dead) = ((fresh s s).dead, inr dead)
    by next (follow.stopped may) = ((fresh s s).stopped, inl (settled_first s rest_of_turn))
    by next (follow.over both) = absurd (true≢false (sym (of_both_calm d both) ∙ calm))

-- at the other one
other_follows : (t : Side) (gone : Bool) (d : Duty) (ds next : List Duty) → Follows t gone d ds next → same_side (side_of d) (peer t) ≡ false → settles (peer t) d ≡ false
    → is_kept (peer t) (d ∷ ds) ≡ true → (is_kept (peer t) next ≡ true) × (settles_in (peer t) (d ∷ ds) ≡ true → settles_in (peer t) next ≡ true)
other_follows t gone d ds next follows own idle kept = by next follows
  where
    rest : is_kept (peer t) ds ≡ true
    rest = rest_kept (peer t) d ds kept

    later : settles_in (peer t) (d ∷ ds) ≡ true → settles_in (peer t) ds ≡ true
    later is = subst (λ b. (b || settles_in (peer t) ds) ≡ true) idle is

    ends : (m o b : Bool) → b ≡ false → (m ≡ true) ⊎ (o ≡ true) → ((m && not b) || o) ≡ true
    ends m o b other (inl may) = rw (may, other) refl
    ends m o b other (inr both) = rw both (or_true (m && not b))

    none : (may_break d ≡ true) ⊎ (is_of_both d ≡ true) → settles_in (peer t) ds ≡ false
    none why = none_behind (peer t) d ds kept (ends (may_break d) (is_of_both d) (same_side (side_of d) (peer t)) own why)

    nowhere : (next : List Duty) → may_break d ≡ true → settles_in (peer t) (d ∷ ds) ≡ true → settles_in (peer t) next ≡ true
    nowhere next may is = absurd (true≢false (sym (later is) ∙ none (inl may)))

    by : (next : List Duty) → Follows t gone d ds next → (is_kept (peer t) next ≡ true) × (settles_in (peer t) (d ∷ ds) ≡ true → settles_in (peer t) next ≡ true)
    by next follow.goes_on = (rest, later)
    by next follow.again = (kept, λ is. is)
    by next (follow.told treats e side one named silent) = (
      in_front (peer t) e ds (none (inl (treats_breaks d treats)) ∙ sym (subst (λ r. same_side r (peer t) ≡ false) (sym side) (apart t))) one rest,
      λ is. settled_later (peer t) e ds (later is),
    )
    by next (follow.left dead) = (calm_front (peer t) (duties.Ask (ask_duties.Leave t)) ds refl refl refl rest, later)
    by next follow.noted = (calm_front (peer t) (duties.Ask (ask_duties.Dead t)) ds refl refl refl rest, later)
    by next (follow.broken may reason) = ((fresh (peer t) t).broken reason, nowhere (breaks t reason) may)
    by next (follow.is_reset may reason) = ((fresh (peer t) t).is_reset reason, nowhere (resets t reason) may)
    by next (follow.dead may dead) = ((fresh (peer t) t).dead, nowhere (leaves t) may)
    by next (follow.stopped may) = ((fresh (peer t) t).stopped, nowhere (stops t) may)
    by next (follow.over both) = (refl, λ is. absurd (true≢false (sym (later is) ∙ none (inr both))))

-- ---- a path

-- a side is this one, or the other one
pub sides : (s t : Side) → (t ≡ s) ⊎ (peer t ≡ s)
sides A A = inl refl
sides A B = inr refl
sides B A = inr refl
sides B B = inl refl

same_end : (s t : Side) (a b : PathEnd) → pick s (pick t (pick t a b) a) (pick t b (pick t a b)) ≡ pick s a b
same_end A A a b = refl
same_end A B a b = refl
same_end B A a b = refl
same_end B B a b = refl

module _ {C : Type 0} (P R : PathEnd → Type 0) (rule : IsSettledBy P R) (F : Side → List Duty → PathState C → Type 0) (ahead : IsAhead R F) where
  -- the timer of this side is settled by one of these, or it holds
  record Ready (s : Side) (ds : List Duty) (p : PathState C) : Type 0 where
    kept : is_kept s ds ≡ true
    holds : (settles_in s ds ≡ true) ⊎ P (end_at s p)

  record Stands (s : Side) (p : PathState C) : Type 0 where
    ready : Ready s p.agenda p
    front : F s p.agenda p
    loud : is_loud p.agenda ≡ true

  other_holds : (t : Side) (w : Writes) (p q : PathState C) → w.other ≡ nothing → OnlyAt t w p q → P (end_at (peer t) p) → P (end_at (peer t) q)
  other_holds t w p q none x held =
      let view = subst (λ n. end_view n (end_at (peer t) q) ≡ end_view n (end_at (peer t) p)) none (ap (λ (v : PathView C). v.other) x.same) in
      rule.seen (end_at (peer t) p) (end_at (peer t) q) view held

  -- ---- duties that are passed

  pass_other : (t : Side) (d : Duty) (ds : List Duty) (w : Writes) (p q : PathState C) → OnlyAt t w p q → w.other ≡ nothing → settles (peer t) d ≡ false → Ready (peer t) (d ∷ ds) p → Ready (peer t) ds q
  pass_other t d ds w p q only none idle h = record {
    kept = rest_kept (peer t) d ds h.kept;
    holds = ⊎_elim
        (λ settled. inl (subst (λ b. (b || settles_in (peer t) ds) ≡ true) idle settled))
        (λ held. inr (other_holds t w p q none only held))
        h.holds;
  }

  pass_on : (s t : Side) (d : Duty) (ds : List Duty) (w : Writes) (p q : PathState C) → OnlyAt t w p q → w.other ≡ nothing → is_calm d ≡ false → same_side (side_of d) t ≡ true
      → Ready s (d ∷ ds) p → Ready s ds q
  pass_on s t d ds w p q only none calm own = ⊎_elim
      (λ is. subst (λ x. Ready x (d ∷ ds) p → Ready x ds q) is (λ h. record { kept = rest_kept t d ds h.kept; holds = inl (behind t d ds h.kept calm own) }))
      (λ is. subst (λ x. Ready x (d ∷ ds) p → Ready x ds q) is (pass_other t d ds w p q only none (loose (peer t) d calm)))
      (sides s t)

  pass_timer : (s t : Side) (ds : List Duty) (p : PathState C) → F s (duties.Silent (silent_duties.Timer t) ∷ ds) p → Ready s (duties.Silent (silent_duties.Timer t) ∷ ds) p → Ready s ds (passed (duties.Silent (silent_duties.Timer t)) p)
  pass_timer s t ds p = ⊎_elim
      (λ is. subst Kept is (λ f h. record {
        kept = rest_kept t d ds h.kept;
        holds = ⊎_elim
            (λ later. inl later)
            (λ so. inr (subst P (sym (own_end t (with_timer_settled p.clock (end_at t p)) p.a p.b)) (rule.timer p.clock (end_at t p) so)))
            (ahead.timer t ds p f);
      }))
      (λ is. subst Kept is (λ f. pass_other t d ds (writes d) p (passed d p) (passes_no_more d p) refl (apart t)))
      (sides s t)
    where
      d : Duty
      d = duties.Silent (silent_duties.Timer t)

      Kept : Side → Type 0
      Kept x = F x (d ∷ ds) p → Ready x (d ∷ ds) p → Ready x ds (passed d p)

  pass_ready : (s : Side) (d : Duty) (ds : List Duty) (p : PathState C) → stands d p ≡ false → F s (d ∷ ds) p → Ready s (d ∷ ds) p → Ready s ds (passed d p)
  pass_ready s (duties.Silent (silent_duties.Timer t)) ds p passes f h = pass_timer s t ds p f h
  pass_ready s (duties.Step step_duties.Events) ds p passes f h = record { kept = rest_kept s (duties.Step step_duties.Events) ds h.kept; holds = h.holds }
  pass_ready s (duties.Ask (ask_duties.BreakAck t reason)) ds p passes f h = absurd (true≢false passes)
  pass_ready s (duties.Ask (ask_duties.Leave t)) ds p passes f h = absurd (true≢false passes)
  pass_ready s (duties.Ask (ask_duties.Dead t)) ds p passes f h = absurd (true≢false passes)
  pass_ready s (duties.Send (send_duties.BreakReset t reason)) ds p passes f h = absurd (true≢false passes)
  pass_ready s (duties.Send (send_duties.Reset t)) ds p passes f h = absurd (true≢false passes)
  pass_ready s (duties.Send (send_duties.ResetAnswer t)) ds p passes f h = absurd (true≢false passes)
  pass_ready s duties.End ds p passes f h = absurd (true≢false passes)
  pass_ready s d ds p passes f h = pass_on s (side_of d) d ds (writes d) p (passed d p) (passes_no_more d p) refl refl (itself (side_of d)) h

  stands_loud : (d : Duty) (ds : List Duty) (p : PathState C) → stands d p ≡ true → is_loud (d ∷ ds) ≡ true
  stands_loud (duties.Silent d) ds p is = absurd (true≢false (sym is))
  stands_loud _ ds p is = refl

  settled_ready : (s : Side) (ds : List Duty) (p : PathState C) → F s ds p → Ready s ds p → Stands s (settled ds p)
  settled_ready s [] p f h = record { ready = record { kept = h.kept; holds = h.holds }; front = ahead.stays s [] p f; loud = refl }
  settled_ready s (d ∷ ds) p f h = by (stands d p) refl (λ passes. settled_ready s ds (passed d p) (ahead.passes s d ds p passes f) (pass_ready s d ds p passes f h))
    where
      by : (b : Bool) → stands d p ≡ b → (stands d p ≡ false → Stands s (settled ds (passed d p))) → Stands s (if b then with_agenda (d ∷ ds) p else settled ds (passed d p))
      by true is rest = record { ready = record { kept = h.kept; holds = h.holds }; front = ahead.stays s (d ∷ ds) p f; loud = stands_loud d ds p is }
      by false is rest = rest is

  -- ---- duties that are answered

  module _ (t : Side) (d : Duty) (ds : List Duty) (p q : PathState C) where
    abbrev Kept : Side → Type 0
    Kept s = Ready s (d ∷ ds) p → Ready s q.agenda q

    at_other : (w : Writes) → OnlyAt t w p q → w.other ≡ nothing → same_side (side_of d) (peer t) ≡ false → settles (peer t) d ≡ false
        → Follows t (is_gone (end_at t q)) d ds q.agenda → Kept (peer t)
    at_other w only none own idle follows h =
        let next = other_follows t (is_gone (end_at t q)) d ds q.agenda follows own idle h.kept in
        record { kept = next.0; holds = ⊎_elim (λ settled. inl (next.1 settled)) (λ held. inr (other_holds t w p q none only held)) h.holds }

    at_own : is_calm d ≡ false → same_side (side_of d) t ≡ true → Follows t (is_gone (end_at t q)) d ds q.agenda → Kept t
    at_own calm own follows h =
        let next = own_follows t (is_gone (end_at t q)) d ds q.agenda follows calm own h.kept in
        record { kept = next.0; holds = ⊎_elim (λ settled. inl settled) (λ gone. inr (rule.gone (end_at t q) gone)) next.1 }

    at_both : (s : Side) → Kept t → Kept (peer t) → Kept s
    at_both s own other = ⊎_elim (λ is. subst Kept is own) (λ is. subst Kept is other) (sides s t)

    answer_on : (s : Side) (w : Writes) → OnlyAt t w p q → w.other ≡ nothing → same_side (side_of d) t ≡ true → same_side (side_of d) (peer t) ≡ false → is_calm d ≡ false
        → Follows t (is_gone (end_at t q)) d ds q.agenda → Kept s
    answer_on s w only none own other calm follows = at_both s (at_own calm own follows) (at_other w only none other (loose (peer t) d calm) follows)

  -- where its own side is treated by itself
  by_itself : (k : Codec C) (s t : Side) (d : Duty) (ds : List Duty) (r : Reply) (p : PathState C) → let x = with_agenda (d ∷ ds) p in let q = answered k d r x in
      OnlyAt t (writes d) x q → (writes d).other ≡ nothing → same_side (side_of d) (peer t) ≡ false → settles (peer t) d ≡ false
      → Follows t (is_gone (end_at t q)) d ds q.agenda → Kept t d ds x q t → Kept t d ds x q s
  by_itself k s t d ds r p only none other idle follows own =
      let x : PathState C = with_agenda (d ∷ ds) p in let q : PathState C = answered k d r x in
      at_both t d ds x q s own (at_other t d ds x q (writes d) only none other idle follows)

  event_holds : (s t : Side) (p q : PathState C) → Happens t p q → P (end_at s p) → Ready s q.agenda q
  event_holds s t p q next holding = record {
    kept = happened_kept (end_at t p) (end_at t q) s t q.agenda next.0;
    holds = ⊎_elim
        (λ own. subst (λ x. P (end_at x p) → (settles_in x q.agenda ≡ true) ⊎ P (end_at x q)) own (happened_holds (end_at t p) (end_at t q) P R rule t q.agenda next.0) holding)
        (λ other. inr (subst (λ x. P (end_at x p) → P (end_at x q)) other
        (λ held. ⊎_elim (λ gone. rule.gone (end_at (peer t) q) gone) (λ still. rule.still (end_at (peer t) p) (end_at (peer t) q) still held) next.1) holding))
        (sides s t);
  }

  answer_ready : (k : Codec C) (s : Side) (d : Duty) (ds : List Duty) (r : Reply) (p : PathState C) → is_loud (d ∷ ds) ≡ true → Ready s (d ∷ ds) (with_agenda (d ∷ ds) p)
      → let q = answered k d r (with_agenda (d ∷ ds) p) in Ready s q.agenda q
  answer_ready k s (duties.Silent d) ds r p loud h = absurd (true≢false (sym loud))
  answer_ready k s (duties.Step step_duties.Events) ds r p loud h =
      let d : Duty = duties.Step step_duties.Events in
      event_holds s (event_side (next_event p)) (with_agenda (d ∷ ds) p) (answered k d r (with_agenda (d ∷ ds) p)) (answered_follows k d ds r p)
      (⊎_elim (λ settled. absurd (true≢false (sym settled ∙ none_behind s (duties.Step step_duties.Events) ds h.kept refl))) (λ held. held) h.holds)
  answer_ready k s duties.End ds r p loud h = record {
    kept = refl;
    holds = ⊎_elim (λ settled. absurd (true≢false (sym settled ∙ none_behind s duties.End ds h.kept refl))) (λ held. inr held) h.holds;
  }
  answer_ready k s (duties.Ask (ask_duties.Leave t)) ds r p loud h =
      record { kept = calm_front s (duties.Ask (ask_duties.Dead t)) ds refl refl refl (rest_kept s (duties.Ask (ask_duties.Leave t)) ds h.kept); holds = h.holds }
  answer_ready k s (duties.Ask (ask_duties.Dead t)) ds r p loud h = record { kept = rest_kept s (duties.Ask (ask_duties.Dead t)) ds h.kept; holds = h.holds }
  answer_ready k s (duties.Send (send_duties.ResetAnswer t)) ds r p loud h = record {
    kept = rest_kept s (duties.Send (send_duties.ResetAnswer t)) ds h.kept;
    holds = ⊎_elim (λ settled. inl settled) (λ held. inr (subst P (sym (same_end s t p.a p.b)) held)) h.holds;
  }
  answer_ready k s (duties.Ask (ask_duties.BreakAck t reason)) ds r p loud h =
      let d : Duty = duties.Ask (ask_duties.BreakAck t reason) in
      by_itself k s t d ds r p (writes_no_more k d r (with_agenda (d ∷ ds) p)) refl (apart t) (apart t) (answered_follows k d ds r p)
      (λ h. record { kept = (fresh t t).is_reset reason; holds = inl (settled_first t rest_of_turn) })
      h
  answer_ready k s (duties.Send (send_duties.BreakReset t reason)) ds r p loud h =
      let d : Duty = duties.Send (send_duties.BreakReset t reason) in
      by_itself k s t d ds r p (writes_no_more k d r (with_agenda (d ∷ ds) p)) refl (apart t) (apart t) (answered_follows k d ds r p)
      (λ h. record { kept = (fresh t t).dead; holds = inr (rule.gone (end_at t (answered k d r (with_agenda (d ∷ ds) p))) (gone_end t (died (end_at t p)) p.a p.b refl)) })
      h
  answer_ready k s (duties.Send (send_duties.Reset t)) ds r p loud h =
      let d : Duty = duties.Send (send_duties.Reset t) in
      by_itself k s t d ds r p (writes_no_more k d r (with_agenda (d ∷ ds) p)) refl (apart t) (apart t) (answered_follows k d ds r p)
      (λ h. record {
        kept = calm_front t (duties.Ask (ask_duties.Leave t)) ds refl refl refl (rest_kept t d ds h.kept);
        holds = inr (rule.gone (end_at t (answered k d r (with_agenda (d ∷ ds) p))) (gone_end t (died (end_at t p)) p.a p.b refl));
      })
      h
  answer_ready k s d ds r p loud h =
      answer_on (side_of d) d ds (with_agenda (d ∷ ds) p) (answered k d r (with_agenda (d ∷ ds) p)) s (writes d) (writes_no_more k d r (with_agenda (d ∷ ds) p)) refl
      (itself (side_of d)) (apart (side_of d)) refl (answered_follows k d ds r p) h

  takes_ready : (k : Codec C) (s : Side) (r : Reply) (p : PathState C) → Stands s p → Stands s (takes k r p)
  takes_ready k s r p h = by p.agenda h
    where
      by : (ds : List Duty) → Stands s (with_agenda ds p) → Stands s (takes k r (with_agenda ds p))
      by [] h = settled_ready s [] (with_agenda [] p) h.front h.ready
      by (d ∷ ds) h =
          let q : PathState C = answered k d r (with_agenda (d ∷ ds) p) in settled_ready s q.agenda q (ahead.answers k s d ds r p h.ready.kept h.front) (answer_ready k s d ds r p h.loud h.ready)

  begins_ready : (s : Side) (p : PathState C) → Stands s (begins_turn p)
  begins_ready s p = settled_ready s start_of_turn (with_agenda start_of_turn p) (ahead.begins s p) (by s)
    where
      by : (s : Side) → Ready s start_of_turn (with_agenda start_of_turn p)
      by A = record { kept = refl; holds = inl refl }
      by B = record { kept = refl; holds = inl refl }

  -- at the end of a turn it holds
  over_so : (s : Side) (p : PathState C) → Stands s p → p.agenda ≡ [] → P (end_at s p)
  over_so s p h over = ⊎_elim
      (λ settled. absurd (true≢false (sym (subst (λ ds. settles_in s ds ≡ true) over settled))))
      (λ held. held)
      h.ready.holds

  -- and as an event comes, before which no timer is left to be settled
  event_so : (s : Side) (p : PathState C) → Stands s p → (others : List Duty) → p.agenda ≡ duties.Step step_duties.Events ∷ others → P (end_at s p)
  event_so s p h others first =
      let ready = subst (λ ds. (is_kept s ds ≡ true) × ((settles_in s ds ≡ true) ⊎ P (end_at s p))) first (h.ready.kept, h.ready.holds) in ⊎_elim
      (λ settled. absurd (true≢false (sym settled ∙ none_behind s (duties.Step step_duties.Events) others ready.0 refl)))
      (λ held. held)
      ready.1

  -- ---- the world

  abbrev IsStandingMember : Actor C → Type 0
  IsStandingMember = HoldsOfKind (λ app. Unit {0}) (λ p. (s : Side) → Stands s p)

  member_stands : (k : Codec C) (r : Reply) (m : Actor C) → IsStandingMember m → IsStandingMember (member_takes k r m)
  member_stands k r (App a) h = tt
  member_stands k r (Path p) h = λ s. takes_ready k s r p (h s)

  member_begins : (m : Actor C) → IsStandingMember m → IsStandingMember (member_next m)
  member_begins (App a) h = tt
  member_begins (Path p) h = λ s. begins_ready s (record p { clock = p.until; until = p.until + 100 })

  -- where the turn of a path is over it holds at both ends
  abbrev pub HoldsBehind : PathState C → Type 0
  HoldsBehind p = p.agenda ≡ [] → (s : Side) → P (end_at s p)

  member_so : (m : Actor C) → IsStandingMember m → HoldsOfKind (λ app. Unit {0}) HoldsBehind m
  member_so (App a) h = tt
  member_so (Path p) h = λ over s. over_so s p (h s) over

  abbrev pub HoldsBefore : PathState C → Type 0
  HoldsBefore p = (others : List Duty) → p.agenda ≡ duties.Step step_duties.Events ∷ others → (s : Side) → P (end_at s p)

  member_before : (m : Actor C) → IsStandingMember m → HoldsOfKind (λ app. Unit {0}) HoldsBefore m
  member_before (App a) h = tt
  member_before (Path p) h = λ others first s. event_so s p (h s) others first

  each_stands : (k : Codec C) (start : Start) (turns : List Turn) (actor : ℕ) (c : ActorCrew C) → slice_get (world_run k turns (opened_world start)).crew actor ≡ Some c → IsStandingMember c.member
  each_stands k start turns actor c there =
      (run_lifted k (λ c. IsStandingMember c.member) (λ books c x asks h. member_stands k (answer_to books x) c.member h) (λ stamp c over h. member_begins c.member h)
      turns (opened_world start)
      (opened_lifted (λ c. IsStandingMember c.member) start tt tt (λ number plan there. λ s. begins_ready s (waiting_path (path_begins start number plan) start.lines)))).each actor c there

  pub each_event_finds : (k : Codec C) (start : Start) (turns : List Turn) (actor : ℕ) (c : ActorCrew C) → slice_get (world_run k turns (opened_world start)).crew actor ≡ Some c
      → HoldsOfKind (λ app. Unit {0}) HoldsBefore c.member
  each_event_finds k start turns actor c there = member_before c.member (each_stands k start turns actor c there)

  pub each_turn_ends : (k : Codec C) (start : Start) (turns : List Turn) (actor : ℕ) (c : ActorCrew C) → slice_get (world_run k turns (opened_world start)).crew actor ≡ Some c
      → HoldsOfKind (λ app. Unit {0}) HoldsBehind c.member
  each_turn_ends k start turns actor c there = member_so c.member (each_stands k start turns actor c there)

-- ---- where nothing has to hold before

by_timer : (P : PathEnd → Type 0) → IsSettled P → IsSettledBy P (λ e. Unit {0})
by_timer P rule = record { seen = rule.seen; still = rule.still; gone = rule.gone; timer = λ now e held. rule.timer now e }

module _ {C : Type 0} (P : PathEnd → Type 0) (rule : IsSettled P) where
  anyhow : IsAhead {C = C} (λ e. Unit {0}) (λ s ds p. Unit {0})
  anyhow = record { timer = λ s ds p f. inr tt; passes = λ s d ds p passed_by f. tt; stays = λ s ds p f. tt; answers = λ k s d ds r p kept f. tt; begins = λ s p. tt }

  -- where the turn of a path is over it holds at both ends
  abbrev pub HoldsAtTheEnd : PathState C → Type 0
  HoldsAtTheEnd p = p.agenda ≡ [] → (s : Side) → P (end_at s p)

  pub each_turn_settles : (k : Codec C) (start : Start) (turns : List Turn) (actor : ℕ) (c : ActorCrew C) → slice_get (world_run k turns (opened_world start)).crew actor ≡ Some c
      → HoldsOfKind (λ app. Unit {0}) HoldsAtTheEnd c.member
  each_turn_settles = each_turn_ends P (λ e. Unit {0}) (by_timer P rule) (λ s ds p. Unit {0}) anyhow

  abbrev pub HoldsAsAnEventComes : PathState C → Type 0
  HoldsAsAnEventComes p = (others : List Duty) → p.agenda ≡ duties.Step step_duties.Events ∷ others → (s : Side) → P (end_at s p)

  pub each_event_settles : (k : Codec C) (start : Start) (turns : List Turn) (actor : ℕ) (c : ActorCrew C) → slice_get (world_run k turns (opened_world start)).crew actor ≡ Some c
      → HoldsOfKind (λ app. Unit {0}) HoldsAsAnEventComes c.member
  each_event_settles = each_event_finds P (λ e. Unit {0}) (by_timer P rule) (λ s ds p. Unit {0}) anyhow
