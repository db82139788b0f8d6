-- Where the script has no fast close no application asks for one, so no reader is told of an abort by its peer.
use Rattle.std.proofs.Common.{◌≡◌, refl, sym, ◌∙◌, ap, subst, ⊎_elim, ℕ, Bool, true, false, ◌||◌, if◌then◌else◌, Option, Some, None, IfSome, List, [], ◌∷◌, map}
use Rattle.std.specs.Prelude.{option_map}
use Rattle.std.specs.List.{list_any, slice_get}
use Rattle.std.proofs.lemmas.List.Folds.{list_any-append}
use Rattle.std.proofs.lemmas.Option.{same_Some}
use Rattle.sides.specs.declared.side.Side.{Side}
use Rattle.sides.specs.declared.side.Side.TheVariants.{A, B}
use Rattle.sides.specs.Side.{peer}
use Rattle.actor_desk.specs.declared.ask.Ask.{Ask}
use Rattle.actor_desk.specs.declared.ask.Reply.{Reply}
use Rattle.actor_desk.specs.Words.{pick}
use Rattle.stream_apps.specs.declared.duty.AppDuty.{AppDuty}
use Rattle.stream_apps.specs.declared.duty.AppDuty.TheVariants.{FastClose, AbortSend, AbortReceive, Write, Close, Read, End}
use Rattle.stream_apps.specs.Apps.{AppState}
use Rattle.stream_apps.specs.AppSteps.{start_of_app, is_due, a_round_less, app_stands, app_settled, app_answers, app_asks_first, app_takes, fresh_turn, app_next_round}
use Rattle.stream_apps.specs.Starts.{fast_close_of, rounds_before, untouched, first_app_turn}
use Rattle.stream_lanes.proofs.Lists.{in_set, in_map}
use Rattle.path_core.specs.Octets.{octets}
use Rattle.world_laws.specs.AbortCause.{asks_fast_close, note_asks_fast_close, PeerStopped}
use Rattle.world_laws.specs.Actors.{ActorCrew, member_asks, member_takes, member_next}
use Rattle.world_laws.specs.StampedBooks.{answer_to}
use Rattle.world_laws.specs.declared.member.Member.TheVariants.{App}
use Rattle.world_laws.specs.Outcomes.{notes_or}
use Rattle.world_laws.specs.Worlds.{Turn, all_over, asked, begins, crew_after, end_round, greatest, note_of, stepped, world_step, world_run}
use Rattle.mptcp_run.specs.Putting.{world_after}
use Rattle.mptcp_run.specs.Task.{Connection, Task, first_world}

-- ---- an application that is never to stop the connection

abbrev begins_with_stop : List AppDuty → Bool
begins_with_stop [] = false
begins_with_stop (FastClose ∷ ds) = true
begins_with_stop (AbortSend ∷ ds) = false
begins_with_stop (AbortReceive ∷ ds) = false
begins_with_stop (Write ∷ ds) = false
begins_with_stop (Close ∷ ds) = false
begins_with_stop (Read ∷ ds) = false
begins_with_stop (End ∷ ds) = false

-- and doesn't do it now
record IsQuiet (a : AppState) : Type 0 where
  never : a.stops_in ≡ None
  first : begins_with_stop a.agenda ≡ false

settled_at : (b : Bool) (d : AppDuty) (ds : List AppDuty) (a : AppState) → a.stops_in ≡ None → begins_with_stop (d ∷ ds) ≡ false → IsQuiet (app_settled ds a)
    → IsQuiet (if b then record a { agenda = d ∷ ds } else app_settled ds a)
settled_at true d ds a never other rest = record { never = never; first = other }
settled_at false d ds a never other rest = rest

settled_quiet : (ds : List AppDuty) (a : AppState) → a.stops_in ≡ None → IsQuiet (app_settled ds a)
settled_quiet [] a never = record { never = never; first = refl }
settled_quiet (FastClose ∷ ds) a never =
    subst (λ s. IsQuiet (if is_due s then record a { agenda = FastClose ∷ ds } else app_settled ds a)) (sym never) (settled_quiet ds a never)
settled_quiet (AbortSend ∷ ds) a never = settled_at (app_stands AbortSend a) AbortSend ds a never refl (settled_quiet ds a never)
settled_quiet (AbortReceive ∷ ds) a never = settled_at (app_stands AbortReceive a) AbortReceive ds a never refl (settled_quiet ds a never)
settled_quiet (Write ∷ ds) a never = settled_at (app_stands Write a) Write ds a never refl (settled_quiet ds a never)
settled_quiet (Close ∷ ds) a never = settled_at (app_stands Close a) Close ds a never refl (settled_quiet ds a never)
settled_quiet (Read ∷ ds) a never = settled_at (app_stands Read a) Read ds a never refl (settled_quiet ds a never)
settled_quiet (End ∷ ds) a never = settled_at (app_stands End a) End ds a never refl (settled_quiet ds a never)

answers_keep : (ds : List AppDuty) (r : Reply) (a : AppState) → (app_answers ds r a).stops_in ≡ a.stops_in
answers_keep [] r a = refl
answers_keep (FastClose ∷ ds) r a = refl
answers_keep (AbortSend ∷ ds) r a = refl
answers_keep (AbortReceive ∷ ds) r a = refl
answers_keep (Write ∷ ds) r a = refl
answers_keep (Close ∷ ds) r a = refl
answers_keep (Read ∷ ds) r a = refl
answers_keep (End ∷ ds) r a = refl

takes_quiet : (r : Reply) (a : AppState) → IsQuiet a → IsQuiet (app_takes r a)
takes_quiet r a h = settled_quiet (app_answers a.agenda r a).agenda (app_answers a.agenda r a) (answers_keep a.agenda r a ∙ h.never)

next_quiet : (a : AppState) → IsQuiet a → IsQuiet (app_next_round a)
next_quiet a h = settled_quiet start_of_app (fresh_turn a) (ap a_round_less h.never)

first_quiet : (s : Side) (buffer : ℕ) (file : List ℕ) (tick : Option ℕ) → tick ≡ None → IsQuiet (first_app_turn s buffer file tick)
first_quiet s buffer file tick none = settled_quiet start_of_app (untouched s buffer file tick) (ap (option_map rounds_before) none)

-- a quiet application asks for no fast close
quiet_asks : (s : Side) (ds : List AppDuty) (a : AppState) → begins_with_stop ds ≡ false → IfSome (app_asks_first ds a) (λ ask. asks_fast_close s ask ≡ false)
quiet_asks s [] a first = tt
quiet_asks s (FastClose ∷ ds) a first = cc
quiet_asks A (AbortSend ∷ ds) a first = refl
quiet_asks B (AbortSend ∷ ds) a first = refl
quiet_asks A (AbortReceive ∷ ds) a first = refl
quiet_asks B (AbortReceive ∷ ds) a first = refl
quiet_asks A (Write ∷ ds) a first = refl
quiet_asks B (Write ∷ ds) a first = refl
quiet_asks A (Close ∷ ds) a first = refl
quiet_asks B (Close ∷ ds) a first = refl
quiet_asks A (Read ∷ ds) a first = refl
quiet_asks B (Read ∷ ds) a first = refl
quiet_asks A (End ∷ ds) a first = refl
quiet_asks B (End ∷ ds) a first = refl

-- ---- among the actors

-- the application of a side is such a one, and has never asked for a fast close
record IsQuietCrew (s : Side) (c : ActorCrew (List ℕ)) : Type 0 where
  app : AppState
  is : c.member ≡ App app
  quiet : IsQuiet app
  unasked : list_any (note_asks_fast_close s) c.list ≡ false

abbrev StaysQuiet : Side → Connection → Type 0
StaysQuiet s w = (c : ActorCrew (List ℕ)) → slice_get w.crew (pick s 0 1) ≡ Some c → IsQuietCrew s c

neither : (a b : Bool) → a ≡ false → b ≡ false → (a || (b || false)) ≡ false
neither a b e f = rw (e, f) refl

-- ---- a step

crew_quiet : (s : Side) (w : Connection) (ask : Ask) (c : ActorCrew (List ℕ)) → IsQuietCrew s c → member_asks octets c.member ≡ Some ask
    → IsQuietCrew s (crew_after octets ask w.books c)
crew_quiet s w ask c h asks = record {
  app = app_takes (answer_to w.books ask) h.app;
  is = ap (member_takes octets (answer_to w.books ask)) h.is;
  quiet = takes_quiet (answer_to w.books ask) h.app h.quiet;
  unasked = list_any-append (note_asks_fast_close s) c.list (note_of w.books c.pass ask ∷ [])
      ∙ neither (list_any (note_asks_fast_close s) c.list) (asks_fast_close s ask) h.unasked
      (subst (λ (o : Option Ask). IfSome o (λ x. asks_fast_close s x ≡ false)) (sym (ap (member_asks octets) h.is) ∙ asks) (quiet_asks s h.app.agenda h.app h.quiet.first));
}

asked_quiet : (s : Side) (w : Connection) (actor : ℕ) (o : Option Ask) (c : ActorCrew (List ℕ)) → slice_get w.crew actor ≡ Some c → member_asks octets c.member ≡ o
    → StaysQuiet s w → StaysQuiet s (asked octets actor o c w)
asked_quiet s w actor None c there asks h = h
asked_quiet s w actor (Some ask) c there asks h = λ d found. ⊎_elim
    (λ here. subst (IsQuietCrew s) here.1 (crew_quiet s w ask c (h c (ap (slice_get w.crew) here.0 ∙ there)) asks))
    (λ other. h d other.1)
    (in_set w.crew actor (crew_after octets ask w.books c) (pick s 0 1) d found)

step_quiet : (s : Side) (w : Connection) (actor : ℕ) → StaysQuiet s w → StaysQuiet s (world_step octets actor w)
step_quiet s w actor h = by (slice_get w.crew actor) refl
  where
    by : (o : Option (ActorCrew (List ℕ))) → slice_get w.crew actor ≡ o → StaysQuiet s (stepped octets actor o w)
    by None there = h
    by (Some c) there = asked_quiet s w actor (member_asks octets c.member) c there refl h

-- ---- a round's end

begins_quiet : (s : Side) (stamp : ℕ) (c : ActorCrew (List ℕ)) → IsQuietCrew s c → IsQuietCrew s (begins stamp c)
begins_quiet s stamp c h = record {
  app = app_next_round h.app;
  is = ap member_next h.is;
  quiet = next_quiet h.app h.quiet;
  unasked = h.unasked;
}

round_quiet : (s : Side) (w : Connection) → StaysQuiet s w → StaysQuiet s (end_round w)
round_quiet s w h = by (all_over w.crew)
  where
    by : (b : Bool) → StaysQuiet s (if b then record w { crew = map (begins (greatest 0 w.crew)) w.crew } else w)
    by true = λ c there.
        let found = in_map (begins (greatest 0 w.crew)) w.crew (pick s 0 1) c there in
        subst (IsQuietCrew s) found.2 (begins_quiet s (greatest 0 w.crew) found.0 (h found.0 found.1))
    by false = h

-- ---- all turns

turns_quiet : (s : Side) (turns : List Turn) (w : Connection) → StaysQuiet s w → StaysQuiet s (world_run octets turns w)
turns_quiet s [] w h = h
turns_quiet s (Turn.Step actor ∷ turns) w h = turns_quiet s turns (world_step octets actor w) (step_quiet s w actor h)
turns_quiet s (Turn.Round ∷ turns) w h = turns_quiet s turns (end_round w) (round_quiet s w h)

opened_quiet : (s : Side) (task : Task) → fast_close_of s task.script.lines ≡ None → StaysQuiet s (first_world task)
opened_quiet A task none = λ c there. subst (IsQuietCrew A) (same_Some _ c there) (record {
  app = first_app_turn A task.script.buffer task.file_a (fast_close_of A task.script.lines);
  is = refl;
  quiet = first_quiet A task.script.buffer task.file_a (fast_close_of A task.script.lines) none;
  unasked = refl;
})
opened_quiet B task none = λ c there. subst (IsQuietCrew B) (same_Some _ c there) (record {
  app = first_app_turn B task.script.buffer task.file_b (fast_close_of B task.script.lines);
  is = refl;
  quiet = first_quiet B task.script.buffer task.file_b (fast_close_of B task.script.lines) none;
  unasked = refl;
})

-- the peer of a reader never stopped the connection
pub never_stopped : (task : Task) (turns : List Turn) (reader : Side) → ((s : Side) → fast_close_of s task.script.lines ≡ None)
    → PeerStopped reader (world_after task turns) → ⊥
never_stopped task turns reader none h =
    by (slice_get (world_after task turns).crew (pick (peer reader) 0 1)) refl h.asked
  where
    by : (o : Option (ActorCrew (List ℕ))) → slice_get (world_after task turns).crew (pick (peer reader) 0 1) ≡ o
        → list_any (note_asks_fast_close (peer reader)) (notes_or o) ≡ true → ⊥
    by None there asked = cc
    by (Some c) there asked =
        let quiet = turns_quiet (peer reader) turns (first_world task) (opened_quiet (peer reader) task (none (peer reader))) c there in
        let no : list_any (note_asks_fast_close (peer reader)) c.list ≡ false = quiet.unasked in cc
