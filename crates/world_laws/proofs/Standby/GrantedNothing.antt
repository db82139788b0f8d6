-- A path that stands by is granted nothing, whatever the order of the steps.
use Rattle.world_laws.proofs.Words.{◌≡◌, refl, sym, ◌∙◌, ap, subst, ℕ, ◌&&◌, ◌||◌, ◌==◌, ⊎_elim, Bool, true, false, if◌then◌else◌, Option, Some, None, Err}
use Rattle.world_laws.proofs.Words.{List, [], ◌∷◌, ◌++◌, length, and_parts, both_ways, false≢true, same_Some, slice_get, Side, A, B, Sending, acked_len}
use Rattle.world_laws.proofs.Words.{decision, reply_by, Record, Duty, StepDuty, Ask, Note, Reply, books_in, SixBooks, reply_of, AppDuty, AppState, app_ask}
use Rattle.world_laws.proofs.Words.{app_asks_first, Codec, ask_for, waiting_path, first_turn, PathState, end_at, path_of, asks_of, asks_first, first_unsent}
use Rattle.world_laws.proofs.Words.{data_ask, payload_size, in_map, in_set, App, Path, Actor, ActorCrew, member_asks, member_takes, member_next, Always}
use Rattle.world_laws.proofs.Words.{PathPlan, Start, path_begins, opened_world, looks, standby_told, standby_last, is_grant, grants_bytes, GrantsAreFree}
use Rattle.world_laws.proofs.Words.{BackupsGetNothing, WorldState, Turn, crew_after, greatest, begins, world_run, note_of}
use Rattle.world_laws.proofs.Words.{asks_grant, notes_or}
use Rattle.world_laws.proofs.Worlds.Turns.{run_so}
use Rattle.send_book.specs.declared.call.Why.TheVariants.{Ended, Backup}
use Rattle.world_laws.specs.Standbys.{standby_after}
use Rattle.world_laws.proofs.Worlds.Opened.{opened_actors}
use Rattle.world_laws.proofs.Rounds.GrantAtOneDuty.{MayNotAsk, ask_isn't, asks_none}
use Rattle.world_laws.proofs.Standby.LooksAlone.{takes_stands, begins_kept, next_kept}

-- ---- lists of steps

last_push : (s : Side) (before : Bool) (notes : List Note) (n : Note) → standby_last s before (notes ++ n ∷ []) ≡ standby_after s n (standby_last s before notes)
last_push s before [] n = refl
last_push s before (note ∷ notes) n = last_push s (standby_after s note before) notes n

free_push : (s : Side) (before : Bool) (notes : List Note) (n : Note) → GrantsAreFree s before notes → (grants_bytes s n ≡ true → standby_last s before notes ≡ false)
    → GrantsAreFree s before (notes ++ n ∷ [])
free_push s before [] n h free = (free, tt)
free_push s before (note ∷ notes) n h free = (h.0, free_push s (standby_after s note before) notes n h.1 free)

-- ---- a grant

-- a path that stands by gets none
no_backup : (path max : ℕ) (standby : Bool) (b : Sending) → is_grant (Reply.Send (reply_by (decision path max standby b) b)) ≡ true → standby ≡ false
no_backup path max false b grants = refl
no_backup path max true b grants =
    (elim (b.aborted || (b.closed && (acked_len b.marks == length b.written))) as (λ x. is_grant (Reply.Send (reply_by (if x then Err Ended else Err Backup) b)) ≡ true → true ≡ false)
    [ true ↦ λ grants. absurd (false≢true grants) | false ↦ λ grants. absurd (false≢true grants) ]) grants

module _ {C : Type 0} (k : Codec C) (six : SixBooks) (p : PathState C) where
  -- where this duty's ask is granted bytes, its end was told that the path doesn't stand by
  abbrev IsFree : Side → Ask → Type 0
  IsFree s x = asks_grant s x && is_grant (reply_of six x) ≡ true → (end_at s p).modes.standby ≡ false

  no_ask : (s : Side) (x : Ask) → asks_grant s x ≡ false → IsFree s x
  no_ask s x none both = absurd (both_ways _ none (and_parts (asks_grant s x) (is_grant (reply_of six x)) both).0)

  data_free : (s t : Side) (o : Option Record) → IsFree s (data_ask k t o p)
  data_free A A None both = no_backup (path_of p) (payload_size p.profile) p.a.modes.standby six.send_a both
  data_free B B None both = no_backup (path_of p) (payload_size p.profile) p.b.modes.standby six.send_b both
  data_free A B None both = absurd (false≢true both)
  data_free B A None both = absurd (false≢true both)
  data_free A t (Some r) both = absurd (false≢true both)
  data_free B t (Some r) both = absurd (false≢true both)

  other_free : (d : Duty) → MayNotAsk d → (s : Side) → IsFree s (ask_for k d p)
  other_free d other s = no_ask s (ask_for k d p) (ask_isn't s (ask_for k d p) (asks_none k p d other))

  duty_free : (d : Duty) (s : Side) → IsFree s (ask_for k d p)
  duty_free (Duty.Step step) s = by step
    where
      by : (step : StepDuty) → IsFree s (ask_for k (Duty.Step step) p)
      by (StepDuty.Data t) = data_free s t (first_unsent (end_at t p))
      by step = other_free (Duty.Step step) tt s
  duty_free (Duty.Ask ask) s = other_free (Duty.Ask ask) tt s
  duty_free d s = other_free d tt s

  ask_free : (x : Ask) → asks_of k p ≡ Some x → (s : Side) → IsFree s x
  ask_free x is s = (elim p.agenda as (λ ds. p.agenda ≡ ds → IsFree s x) [
    | [] ↦ λ same. let never : None ≡ Some x = sym (ap (λ xs. asks_first k xs p) same) ∙ is in cc
    | d ∷ ds ↦ λ same. subst (IsFree s) (same_Some (ask_for k d p) x (sym (ap (λ xs. asks_first k xs p) same) ∙ is)) (duty_free d s)
  ]) refl

-- ---- an application neither looks nor asks for a grant

app_quiet : (d : AppDuty) (a : AppState) (s : Side) → (looks s (app_ask d a) ≡ false) × (asks_grant s (app_ask d a) ≡ false)
app_quiet d a s = by d a.side s
  where
    by : (d : AppDuty) (q s : Side) → (looks s (app_ask d (record a { side = q })) ≡ false) × (asks_grant s (app_ask d (record a { side = q })) ≡ false)
    by AppDuty.End q A = (refl, refl)
    by AppDuty.End q B = (refl, refl)
    by _ A A = (refl, refl)
    by _ A B = (refl, refl)
    by _ B A = (refl, refl)
    by _ B B = (refl, refl)

-- ---- an actor and its list

module _ {C : Type 0} (k : Codec C) where
  abbrev standby_at : Side → Actor C → Bool
  standby_at s (App a) = false
  standby_at s (Path p) = (end_at s p).modes.standby

  -- an end knows what it was told last, and each grant was one of a path that didn't stand by
  record CrewIs (c : ActorCrew C) : Type 0 where
    knows : (s : Side) → standby_at s c.member ≡ standby_last s false c.list
    free : (s : Side) → GrantsAreFree s false c.list

  -- what it asks, and what it takes
  abbrev Asks : SixBooks → Actor C → Ask → Type 0
  Asks six m x =
      (s : Side) → (standby_at s (member_takes k (reply_of six x) m) ≡ (if looks s x then standby_told (standby_at s m) (reply_of six x) else standby_at s m))
      × (asks_grant s x && is_grant (reply_of six x) ≡ true → standby_at s m ≡ false)

  app_asks : (six : SixBooks) (a : AppState) (ds : List AppDuty) (x : Ask) → app_asks_first ds a ≡ Some x → Asks six (App a) x
  app_asks six a [] x is s = let never : None ≡ Some x = is in cc
  app_asks six a (d ∷ ds) x is s = subst (λ y. (looks s y ≡ false) × (asks_grant s y ≡ false) → (false ≡ (if looks s y then standby_told false (reply_of six y) else false))
      × (asks_grant s y && is_grant (reply_of six y) ≡ true → false ≡ false)) (same_Some (app_ask d a) x is) (by (app_ask d a)) (subst (λ y. (looks s y ≡ false) × (asks_grant s y ≡ false)) (same_Some (app_ask d a) x is) (app_quiet d a s))
    where
      by : (y : Ask) → (looks s y ≡ false) × (asks_grant s y ≡ false) → (false ≡ (if looks s y then standby_told false (reply_of six y) else false)) × (asks_grant s y && is_grant (reply_of six y) ≡ true → false ≡ false)
      by y none = (at (looks s y) none.0, λ both. refl)
        where
          at : (b : Bool) → b ≡ false → false ≡ (if b then standby_told false (reply_of six y) else false)
          at = elim [ false ↦ λ is. refl | true ↦ λ is. absurd (false≢true (sym is)) ]

  member_asks_so : (six : SixBooks) (m : Actor C) (x : Ask) → member_asks k m ≡ Some x → Asks six m x
  member_asks_so six (App a) x is = app_asks six a a.agenda x is
  member_asks_so six (Path p) x is = λ s. (takes_stands k x (reply_of six x) p is s, ask_free k six p x is s)

  crew_goes : (w : WorldState C) (c : ActorCrew C) (x : Ask) → member_asks k c.member ≡ Some x → CrewIs c → CrewIs (crew_after k x w.books c)
  crew_goes w c x is h =
      let n : Note = note_of w.books c.pass x in
      let so = member_asks_so (books_in w.books) c.member x is in
      record {
        knows = λ s. (so s).0 ∙ ap (λ b. standby_after s n b) (h.knows s) ∙ sym (last_push s false c.list n);
        free = λ s. free_push s false c.list n (h.free s) (λ grants. sym (h.knows s) ∙ (so s).1 grants);
      }

  next_stands : (s : Side) (m : Actor C) → standby_at s (member_next m) ≡ standby_at s m
  next_stands s (App a) = refl
  next_stands A (Path p) = (next_kept p).a
  next_stands B (Path p) = (next_kept p).b

  -- ---- worlds

  abbrev AllFree : WorldState C → Type 0
  AllFree w = (i : ℕ) (c : ActorCrew C) → slice_get w.crew i ≡ Some c → CrewIs c

  run_free : (turns : List Turn) (w : WorldState C) → AllFree w → AllFree (world_run k turns w)
  run_free = run_so k AllFree
      (λ w h actor c x there is i d at. ⊎_elim
      (λ here. subst CrewIs here.1 (crew_goes w c x is (h actor c there)))
      (λ other. h i d other.1)
      (in_set w.crew actor (crew_after k x w.books c) i d at))
      (λ w h over i d at. let found = in_map (begins (greatest 0 w.crew)) w.crew i d at in subst CrewIs found.2 (next (greatest 0 w.crew) found.0 (h i found.0 found.1)))
    where
      next : (stamp : ℕ) (c : ActorCrew C) → CrewIs c → CrewIs (begins stamp c)
      next stamp c is = record { knows = λ s. next_stands s c.member ∙ is.knows s; free = is.free }

  opened_free : (start : Start) → AllFree (opened_world start)
  opened_free start = opened_actors (λ actor c. CrewIs c) start
      (record { knows = λ s. refl; free = λ s. tt })
      (record { knows = λ s. refl; free = λ s. tt })
      (λ number plan there. record { knows = knows number plan; free = λ s. tt })
    where
      knows : (number : ℕ) (plan : PathPlan) (s : Side) → (end_at s (first_turn {C = C} (path_begins start number plan) start.lines)).modes.standby ≡ false
      knows number plan A = (begins_kept (waiting_path {C = C} (path_begins start number plan) start.lines)).a
      knows number plan B = (begins_kept (waiting_path {C = C} (path_begins start number plan) start.lines)).b

  notes_free : (w : WorldState C) → AllFree w → BackupsGetNothing w
  notes_free w h s actor = (elim (slice_get w.crew actor) as (λ o. slice_get w.crew actor ≡ o → GrantsAreFree s false (notes_or o))
      [ None ↦ λ is. tt | Some c ↦ λ is. (h actor c is).free s ]) refl

pub backups_get_nothing : {C : Type 0} (k : Codec C) → Always k (λ start w. BackupsGetNothing w)
backups_get_nothing k start turns = notes_free k (world_run k turns (opened_world start)) (run_free k turns (opened_world start) (opened_free k start))
