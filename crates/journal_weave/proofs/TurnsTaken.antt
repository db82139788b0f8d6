-- What the turns of all actors made in a round by threads: each actor went on by steps, to the end of its turn.
use Rattle.std.proofs.Common.{◌≡◌, refl, sym, ◌∙◌, ap, subst, ℕ, zero, suc, ◌+◌, ◌<◌, ◌≤◌, ◌&&◌, true, false, Option, Some, None, List, [], ◌∷◌, ◌++◌, length, append_assoc, arith}
use Rattle.std.specs.Prelude.{All, MatchOption}
use Rattle.std.specs.List.{slice_get, slice_index_or}
use Rattle.std.proofs.lemmas.List.{append-nil}
use Rattle.std.proofs.lemmas.Option.{same_Some}
use Rattle.stamped_book.specs.declared.stamped.Refusal.{Refusal}
use Rattle.stream_lanes.specs.Words.{Every}
use Rattle.stream_lanes.proofs.Lists.{Every-nil, Every-append}
use Rattle.actor_desk.specs.Bounds.{TakesReply}
use Rattle.actor_desk.specs.declared.ask.Ask.{Ask}
use Rattle.actor_desk.specs.declared.ask.Note.{Note}
use Rattle.actor_desk.specs.declared.ask.Reply.{Reply}
use Rattle.actor_desk.specs.Journals.{is_local}
use Rattle.actor_desk.specs.Words.{is_nil}
use Rattle.path_agenda.specs.declared.duty.Duty.{Duty}
use Rattle.path_core.specs.State.{PathState}
use Rattle.path_core.specs.Steps.{asks_first}
use Rattle.stream_apps.specs.Apps.{AppState}
use Rattle.stream_apps.specs.AppSteps.{app_asks_first}
use Rattle.stream_apps.specs.declared.duty.AppDuty.{AppDuty}
use Rattle.path_core.specs.Octets.{octets}
use Rattle.actor_turn.specs.Turns.{AreSteps, Turned, member_after, stamp_after}
use Rattle.world_laws.specs.Actors.{Actor, ActorCrew, member_asks, member_takes, is_over}
use Rattle.world_laws.specs.declared.member.Member.TheVariants.{App, Path}
use Rattle.world_laws.specs.Fine.{NotesRise, last_noted, IsFineCrew}
use Rattle.world_laws.specs.Weaving.{after_note, after_notes, AreStepsOf, Stepped, AllStepped}
use Rattle.world_laws.specs.Worlds.{all_over}
use Rattle.journal_weave.specs.Weaving.{AreOwn, lists_in}

abbrev Member : Type 0
Member = Actor (List ℕ)

abbrev Crew : Type 0
Crew = ActorCrew (List ℕ)

abbrev TurnOf : Crew → Crew → Type 0
TurnOf c d = Turned (member_asks octets) (member_takes octets) c d

-- ---- the steps of one actor

local_done : (x : Ask) (r : Reply) → is_local x ≡ true → TakesReply (Some x) r → r ≡ Reply.Done
local_done (Ask.Local step) Reply.Done is h = refl
local_done (Ask.Local step) (Reply.Send reply) is h = absurd h.0
local_done (Ask.Local step) (Reply.Reassembly reply) is h = absurd h.0
local_done (Ask.Local step) (Reply.Control reply) is h = absurd h.0
local_done _ r is h = cc

steps_of : (notes : List Note) (c : Crew) → AreSteps (member_asks octets) (member_takes octets) c.pass.actor c.member c.pass.stamp notes → AreStepsOf octets notes c
steps_of [] c h = tt
steps_of (note ∷ notes) c h = (
  record {
    asked = h.0.asked;
    seen = h.0.seen_is;
    actor = h.0.by;
    rises = h.0.rises;
    local = λ is. (h.0.local is, local_done note.ask note.reply is h.0.takes);
  },
  steps_of notes (after_note octets note c) h.1,
)

abbrev crew_with : Member → ℕ → ℕ → List Note → Option Refusal → Crew
crew_with member actor stamp list refused = record { member = member; pass = record { actor = actor; stamp = stamp }; list = list; refused = refused }

after_is : (notes : List Note) (c : Crew) → after_notes octets notes c
    ≡ crew_with (member_after (member_takes octets) c.member notes) c.pass.actor (stamp_after c.pass.stamp notes) (c.list ++ notes) c.refused
after_is [] c = ap (λ list. crew_with c.member c.pass.actor c.pass.stamp list c.refused) (sym (append-nil c.list))
after_is (note ∷ notes) c =
    after_is notes (after_note octets note c)
    ∙ ap (λ list. crew_with (member_after (member_takes octets) (member_takes octets note.reply c.member) notes) c.pass.actor (stamp_after note.stamp notes) list c.refused)
    (append_assoc c.list (note ∷ []) notes)

-- ---- an actor whose turn hasn't ended asks

app_asks : (ds : List AppDuty) (a : AppState) → is_nil ds ≡ false → app_asks_first ds a ≡ None → ⊥
app_asks [] a going nothing = cc
app_asks (d ∷ ds) a going nothing = cc

path_asks : (ds : List Duty) (p : PathState (List ℕ)) → is_nil ds ≡ false → asks_first octets ds p ≡ None → ⊥
path_asks [] p going nothing = cc
path_asks (d ∷ ds) p going nothing = cc

going_asks : (m : Member) → is_over m ≡ false → member_asks octets m ≡ None → ⊥
going_asks (App a) going nothing = app_asks a.agenda a going nothing
going_asks (Path p) going nothing = path_asks p.agenda p going nothing

-- ---- the turn of one actor

module _ (c d : Crew) (t : TurnOf c d) (none : d.refused ≡ None) where
  ended : (member_asks octets d.member ≡ None) × (d.pass.stamp ≡ stamp_after c.pass.stamp t.notes)
  ended = subst (λ o. MatchOption o ((member_asks octets d.member ≡ None) × (d.pass.stamp ≡ stamp_after c.pass.stamp t.notes)) (λ _. Unit {0})) none t.ended

  stepped : c.refused ≡ None → Stepped octets c d
  stepped unrefused =
      let member = member_after (member_takes octets) c.member t.notes in
      let stamp = stamp_after c.pass.stamp t.notes in
      record {
        notes = t.notes;
        are = steps_of t.notes c t.made.steps;
        is = ap (λ m. crew_with m d.pass.actor d.pass.stamp d.list d.refused) t.made.member ∙ ap (λ a. crew_with member a d.pass.stamp d.list d.refused) t.made.actor
            ∙ ap (λ s. crew_with member c.pass.actor s d.list d.refused) ended.1 ∙ ap (λ list. crew_with member c.pass.actor stamp list d.refused) t.made.list
            ∙ ap (λ r. crew_with member c.pass.actor stamp (c.list ++ t.notes) r) (none ∙ sym unrefused) ∙ sym (after_is t.notes c);
      }

  over : is_over d.member ≡ true
  over = (elim (is_over d.member) as (λ b. is_over d.member ≡ b → b ≡ true) [ true ↦ λ is. refl | false ↦ λ is. absurd (going_asks d.member is ended.0) ]) refl

-- ---- its list

every_more : {X : Type 0} (P : X → Type 0) (x : X) (xs : List X) → P x → Every P xs → Every P (x ∷ xs)
every_more P x xs p h = record { each = at }
  where
    at : (i : ℕ) (y : _) → slice_get (x ∷ xs) i ≡ Some y → P y
    at zero y is = subst P (same_Some x y is) p
    at (suc i) y is = h.each i y is

steps_ours : (notes : List Note) (actor : ℕ) (m : Member) (seen : ℕ) → AreSteps (member_asks octets) (member_takes octets) actor m seen notes
    → Every (λ n. n.actor ≡ actor) notes
steps_ours [] actor m seen h = Every-nil (λ n. n.actor ≡ actor)
steps_ours (note ∷ notes) actor m seen h =
    every_more (λ n. n.actor ≡ actor) note notes h.0.by (steps_ours notes actor (member_takes octets note.reply m) note.stamp h.1)

steps_rise : (notes : List Note) (actor : ℕ) (m : Member) (seen : ℕ) → AreSteps (member_asks octets) (member_takes octets) actor m seen notes → NotesRise seen notes
steps_rise [] actor m seen h = tt
steps_rise (note ∷ notes) actor m seen h = (h.0.rises, steps_rise notes actor (member_takes octets note.reply m) note.stamp h.1)

rise_then : (before seen : ℕ) (old new : List Note) → NotesRise before old → last_noted before old ≤ seen → NotesRise seen new → NotesRise before (old ++ new)
rise_then before seen [] [] rise few later = tt
rise_then before seen [] (n ∷ new) rise few later = (omega (arith, few, later.0), later.1)
rise_then before seen (n ∷ old) new rise few later = (rise.0, rise_then n.stamp seen old new rise.1 few later)

module _ (top number : ℕ) (c d : Crew) (t : TurnOf c d) (fine : IsFineCrew top number c) where
  list_ours : Every (λ n. n.actor ≡ number) d.list
  list_ours = subst (Every (λ n. n.actor ≡ number)) (sym t.made.list)
      (Every-append fine.ours
      (steps_ours t.notes number c.member c.pass.stamp
      (subst (λ a. AreSteps (member_asks octets) (member_takes octets) a c.member c.pass.stamp t.notes) fine.numbered t.made.steps)))

  list_rises : NotesRise 0 d.list
  list_rises = subst (NotesRise 0) (sym t.made.list)
      (rise_then 0 c.pass.stamp c.list t.notes fine.rises fine.known (steps_rise t.notes c.pass.actor c.member c.pass.stamp t.made.steps))

-- ---- all actors

abbrev pub AllTurned : List Crew → List Crew → Type 0
AllTurned crew after = (i : ℕ) (d : Crew) → i < length crew → TurnOf (slice_index_or crew i d) (slice_index_or after i d)

abbrev pub NoneRefused : List Crew → Type 0
NoneRefused after = All (λ c. c.refused ≡ None) after

rest_turned : (c d : Crew) (crew after : List Crew) → AllTurned (c ∷ crew) (d ∷ after) → AllTurned crew after
rest_turned c d crew after turned i x within = turned (suc i) x (omega (arith, within))

rest_unrefused : (d : Crew) (after : List Crew) → NoneRefused (d ∷ after) → NoneRefused after
rest_unrefused d after done i x within = done (suc i) x (omega (arith, within))

pub all_stepped : (crew after : List Crew) → length after ≡ length crew → AllTurned crew after → NoneRefused after
    → ((i : ℕ) (c : Crew) → slice_get crew i ≡ Some c → c.refused ≡ None) → AllStepped octets crew after
all_stepped [] [] many turned done unrefused = tt
all_stepped [] (d ∷ after) many turned done unrefused = absurd (omega (arith, many))
all_stepped (c ∷ crew) [] many turned done unrefused = absurd (omega (arith, many))
all_stepped (c ∷ crew) (d ∷ after) many turned done unrefused = (
  stepped c d (turned 0 c (omega arith)) (done 0 d (omega arith)) (unrefused 0 c refl),
  all_stepped crew after (omega (arith, many)) (rest_turned c d crew after turned) (rest_unrefused d after done) (λ i x at. unrefused (suc i) x at),
)

pub each_over : (crew after : List Crew) → length after ≡ length crew → AllTurned crew after → NoneRefused after → all_over after ≡ true
each_over crew [] many turned done = refl
each_over [] (d ∷ after) many turned done = absurd (omega (arith, many))
each_over (c ∷ crew) (d ∷ after) many turned done =
    ap (λ b. b && all_over after) (over c d (turned 0 c (omega arith)) (done 0 d (omega arith)))
    ∙ each_over crew after (omega (arith, many)) (rest_turned c d crew after turned) (rest_unrefused d after done)

pub each_own : (top first : ℕ) (crew after : List Crew) → length after ≡ length crew → AllTurned crew after
    → ((i n : ℕ) (c : Crew) → n ≡ first + i → slice_get crew i ≡ Some c → IsFineCrew top n c) → AreOwn first (lists_in after)
each_own top first crew [] many turned fine = tt
each_own top first [] (d ∷ after) many turned fine = absurd (omega (arith, many))
each_own top first (c ∷ crew) (d ∷ after) many turned fine =
    let own = fine 0 first c (omega arith) refl in let t = turned 0 c (omega arith) in (
      list_ours top first c d t own,
      list_rises top first c d t own,
      each_own top (suc first) crew after (omega (arith, many)) (rest_turned c d crew after turned) (λ i n x is there. fine (suc i) n x (omega (arith, is)) there),
    )
