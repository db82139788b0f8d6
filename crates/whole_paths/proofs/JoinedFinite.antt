-- No end of a path that joined receives by an infinite mapping, where none is ever told it.
use Rattle.std.proofs.Common.{◌≡◌, refl, sym, subst, ap, ◌∙◌, ℕ, zero, suc, ◌+◌, Bool, true, false, true≢false, if◌then◌else◌, Option, Some, None, IfSome, List, [], ◌∷◌, ◌++◌}
use Rattle.std.specs.List.{list_any, slice_get}
use Rattle.std.proofs.lemmas.Bool.{or_parts}
use Rattle.std.proofs.lemmas.List.{append-nil, append_assoc}
use Rattle.std.proofs.lemmas.Option.{same_Some}
use Rattle.sides.specs.declared.side.Side.{Side}
use Rattle.sides.specs.declared.side.Side.TheVariants.{A, B}
use Rattle.sides.specs.Side.{peer}
use Rattle.fallback_state.specs.declared.fall.Event.{Event as Fall}
use Rattle.fallback_state.specs.declared.fall.Event.TheVariants as falls
use Rattle.fallback_state.specs.declared.fall.Verdict.TheVariants as verdicts
use Rattle.control_book.specs.declared.call.ControlReply.TheVariants as control_replies
use Rattle.actor_desk.specs.declared.ask.Reply.{Reply}
use Rattle.actor_desk.specs.declared.ask.Reply.TheVariants as replies
use Rattle.path_agenda.specs.declared.duty.Duty.{Duty}
use Rattle.path_agenda.specs.declared.duty.Duty.TheVariants as duties
use Rattle.path_agenda.specs.declared.duty.AskDuty.TheVariants as ask_duties
use Rattle.path_agenda.specs.declared.duty.SendDuty.TheVariants as send_duties
use Rattle.path_agenda.specs.declared.duty.SilentDuty.TheVariants as silent_duties
use Rattle.path_agenda.specs.declared.duty.StepDuty.TheVariants as step_duties
use Rattle.path_agenda.specs.declared.heard.Heard.{Heard}
use Rattle.path_agenda.specs.declared.heard.Heard.TheVariants as says
use Rattle.path_agenda.specs.declared.keys.KeyPair.{KeyPair}
use Rattle.path_core.specs.Choices.{item_at}
use Rattle.path_core.specs.Breaking.{answered_break}
use Rattle.path_core.specs.DssIn.{is_clash}
use Rattle.path_core.specs.Duties.{answered, passed}
use Rattle.path_core.specs.End.{PathEnd}
use Rattle.path_core.specs.Fallback.{fell_in, mode_in}
use Rattle.path_core.specs.MpCapable.{keys_in}
use Rattle.path_core.specs.MpJoin.{is_joined}
use Rattle.path_core.specs.Start.{waiting_path}
use Rattle.path_core.specs.State.{PathState, end_at, goes_on, with_agenda}
use Rattle.path_core.specs.Steps.{next_round, takes}
use Rattle.path_core.specs.Treating.{answered_heard, answered_item, item_of, item_passed}
use Rattle.path_core.specs.Values.{Carried, values}
use Rattle.path_core.specs.declared.modes.Modes.{Modes}
use Rattle.world_laws.specs.declared.member.Member.TheVariants.{App, Path}
use Rattle.world_laws.specs.Actors.{Actor, ActorCrew, is_over, member_next, member_takes}
use Rattle.world_laws.specs.Members.{HoldsOfKind}
use Rattle.world_laws.specs.Openings.{PathPlan, Start, opened_world, path_begins}
use Rattle.world_laws.specs.RoundDone.{reached}
use Rattle.world_laws.specs.StampedBooks.{answer_to}
use Rattle.world_laws.specs.Worlds.{Turn, WorldState, after_turn}
use Rattle.world_laws.specs.Writes.{EndView, EndWrites, Only, OnlyAt, Writes, side_of, writes}
use Rattle.world_laws.proofs.Falls.FailedChecks.{fail_answered_so}
use Rattle.world_laws.proofs.Rounds.Lifting.{opened_lifted}
use Rattle.world_laws.proofs.Weaving.WholeRounds.{run_append}
use Rattle.world_laws.proofs.Whole.Ends.{is_infinite_item}
use Rattle.world_laws.proofs.Writes.Ends.{item_so}
use Rattle.world_laws.proofs.Writes.Paths.{passes_no_more, writes_no_more}
use Rattle.world_laws.proofs.Writes.Steps.{Lasts, begins_lasts, both_ends, settled_lasts, unwritten}
use Rattle.whole_paths.proofs.Flying.{next_frames, takes_frames}
use Rattle.whole_paths.proofs.Harmed.{none_stays}
use Rattle.whole_paths.proofs.OpenJoins.{IsFinite, OfEachJoin}
use Rattle.whole_paths.proofs.Turns.{turn_by}

-- ---- an end

abbrev pub TellsNoInfinite : Heard → Type 0
TellsNoInfinite (says.InfiniteMapping place position) = ⊥
TellsNoInfinite _ = Unit {0}

-- nothing that was said to an end of it is an infinite mapping
abbrev pub IsToldNoInfinite : PathState Carried → Type 0
IsToldNoInfinite p = (s : Side) (index : ℕ) → IfSome (item_of index (end_at s p)) TellsNoInfinite

abbrev SameMapping : PathEnd → PathEnd → Type 0
SameMapping e f = f.modes.peer_infinite ≡ e.modes.peer_infinite

mode_same : (r : Reply) (m : Modes) → (mode_in r m).peer_infinite ≡ m.peer_infinite
mode_same (replies.Control (control_replies.Verdict (verdicts.Went mode))) m = refl
mode_same _ m = refl

fell_same : (event : Fall) (r : Reply) (m : Modes) → (fell_in event r m).peer_infinite ≡ m.peer_infinite
fell_same falls.PlainData r m = mode_same r m
fell_same falls.PlainAck r m = mode_same r m
fell_same _ r m = mode_same r m

keys_same : (r : Reply) (keys : Option KeyPair) (m : Modes) → (keys_in r keys m).peer_infinite ≡ m.peer_infinite
keys_same (replies.Control control_replies.Noted) (Some keys) m = refl
keys_same _ keys m = refl

only_same : (w : EndWrites) (e f : PathEnd) → w.peer_infinite ≡ false → Only w e f → SameMapping e f
only_same w e f none x = unwritten w.peer_infinite e.modes.peer_infinite f.modes.peer_infinite none (ap (λ (v : EndView). v.peer_infinite) x.same)

-- ---- a path

record AllSame (p q : PathState Carried) : Type 0 where
  same : (t : Side) → SameMapping (end_at t p) (end_at t q)

plain : (s : Side) (w : Writes) (p q : PathState Carried) → w.own.peer_infinite ≡ false → w.other.peer_infinite ≡ false → OnlyAt s w p q → AllSame p q
plain s w p q own other x =
    let both = both_ends (λ e f. SameMapping e f) s w p q (λ e f only. only_same w.own e f own only) (λ e f only. only_same w.other e f other only) x in record { same = elim [ A ↦ both.0 | B ↦ both.1 ] }

side : (s : Side) (e : PathEnd) (p q : PathState Carried) → q.a ≡ (goes_on s e [] p).a → q.b ≡ (goes_on s e [] p).b → SameMapping (end_at s p) e → AllSame p q
side A e p q a b same = record { same = elim [ A ↦ ap (λ (f : PathEnd). f.modes.peer_infinite) a ∙ same | B ↦ ap (λ (f : PathEnd). f.modes.peer_infinite) b ] }
side B e p q a b same = record { same = elim [ A ↦ ap (λ (f : PathEnd). f.modes.peer_infinite) a | B ↦ ap (λ (f : PathEnd). f.modes.peer_infinite) b ∙ same ] }

rest : (p q : PathState Carried) → q.a ≡ p.a → q.b ≡ p.b → AllSame p q
rest p q a b = record { same = elim [ A ↦ ap (λ (f : PathEnd). f.modes.peer_infinite) a | B ↦ ap (λ (f : PathEnd). f.modes.peer_infinite) b ] }

either : (b : Bool) (q r p : PathState Carried) → AllSame p q → AllSame p r → AllSame p (if b then q else r)
either true q r p x y = x
either false q r p x y = y

break_same : (s : Side) (reason : ℕ) (r : Reply) (p : PathState Carried) → AllSame p (answered_break values s reason r p)
break_same s reason r p = either (end_at s p).treated.asked _ _ p (side s _ p _ refl refl refl) (side s _ p _ refl refl refl)

thing_same : (s : Side) (item : Heard) (r : Reply) (p : PathState Carried) → TellsNoInfinite item → AllSame p (answered_heard values s item r p)
thing_same s (says.DataAck next window) r p none = side s _ p _ refl refl refl
thing_same s (says.Mapping fin) r p none = either (is_clash (end_at s p)) _ _ p (break_same s 1 r p) (side s _ p _ refl refl (fell_same falls.MappingHeard r (end_at s p).modes))
thing_same s (says.DataFin place) r p none = side s _ p _ refl refl (fell_same falls.MappingHeard r (end_at s p).modes)
thing_same s (says.InfiniteMapping place position) r p none = absurd none
thing_same s (says.Keys own peer) r p none = side s _ p _ refl refl (keys_same r _ (end_at s p).modes)
thing_same s (says.Notice notice) r p none = side s _ p _ refl refl refl
thing_same s says.Fail r p none = fail_answered_so (λ q. AllSame p q) s r p (side s _ p _ refl refl refl) (side s _ p _ refl refl (fell_same (falls.FailHeard false) r (end_at s p).modes))
thing_same s _ r p none = rest p _ refl refl

item_same : (s : Side) (o : Option Heard) (r : Reply) (p : PathState Carried) → IfSome o TellsNoInfinite → AllSame p (answered_item values s o r p)
item_same s None r p none = rest p _ refl refl
item_same s (Some item) r p none = thing_same s item r p none

answered_same : (d : Duty) (r : Reply) (p : PathState Carried) → IsToldNoInfinite p → AllSame p (answered values d r p)
answered_same (duties.Step (step_duties.Heard s index)) r p told = item_same s (item_of index (end_at s p)) r p (told s index)
answered_same (duties.Ask ask_duties.JoinAgain) r p told = plain A (writes (duties.Ask ask_duties.JoinAgain)) p _ refl refl (writes_no_more values (duties.Ask ask_duties.JoinAgain) r p)
answered_same (duties.Send (send_duties.Update s)) r p told = side s _ p _ refl refl refl
answered_same (duties.Silent d) r p told = rest p _ refl refl
answered_same d r p told = plain (side_of d) (writes d) p (answered values d r p) refl refl (writes_no_more values d r p)

goes_same : (s : Side) (f : PathEnd) (ds : List Duty) (p : PathState Carried) → SameMapping (end_at s p) f → AllSame p (goes_on s f ds p)
goes_same A f ds p x = record { same = elim [ A ↦ x | B ↦ refl ] }
goes_same B f ds p x = record { same = elim [ A ↦ refl | B ↦ x ] }

passed_same : (d : Duty) (p : PathState Carried) → AllSame p (passed d p)
passed_same (duties.Step (step_duties.Heard s index)) p =
    let e : PathEnd = end_at s p in goes_same s (item_passed s (item_of index e) e) p.agenda p (item_so (λ f. SameMapping e f) s (item_of index e) e refl refl (λ next. refl) refl refl (λ place. refl))
passed_same (duties.Ask ask_duties.JoinAgain) p = rest p _ refl refl
passed_same (duties.Send (send_duties.Update s)) p = rest p _ refl refl
passed_same (duties.Silent (silent_duties.Timer s)) p = plain s (writes (duties.Silent (silent_duties.Timer s))) p _ refl refl (passes_no_more (duties.Silent (silent_duties.Timer s)) p)
passed_same d p = plain (side_of d) (writes d) p (passed d p) refl refl (passes_no_more d p)

lasts : Lasts AllSame
lasts = record {
  agenda = λ ds p. rest p _ refl refl;
  chains = λ p q r x y. record { same = λ t. y.same t ∙ x.same t };
  passes = passed_same;
}

takes_same : (r : Reply) (p : PathState Carried) → IsToldNoInfinite p → AllSame p (takes values r p)
takes_same r p told = by p.agenda
  where
    by : (ds : List Duty) → AllSame p (takes values r (with_agenda ds p))
    by [] = rest p _ refl refl
    by (d ∷ ds) = let x : PathState Carried = with_agenda (d ∷ ds) p in let q : PathState Carried = answered values d r x in
        let first = answered_same d r x told in let then_on = settled_lasts AllSame lasts q.agenda q in record { same = λ t. then_on.same t ∙ first.same t }

next_same : (p : PathState Carried) → AllSame p (next_round p)
next_same p = let h = begins_lasts AllSame lasts (record p { clock = p.until; until = p.until + 100 }) in record { same = λ t. h.same t }

-- ---- each path that joined, at every moment

abbrev OfPaths : (PathState Carried → Type 0) → Actor Carried → Type 0
OfPaths P = HoldsOfKind (λ app. Unit {0}) P

abbrev Told : Actor Carried → Type 0
Told = OfPaths (λ p. is_joined p.profile ≡ true → IsToldNoInfinite p)

abbrev Finite : Actor Carried → Type 0
Finite = OfPaths (λ p. is_joined p.profile ≡ true → IsFinite p)

module _ (start : Start) (actor : ℕ) (told : OfEachJoin start IsToldNoInfinite) where
  actor_takes : (r : Reply) (m : Actor Carried) → Told m → Finite m → Finite (member_takes values r m)
  actor_takes r (App a) told h = tt
  actor_takes r (Path p) told h = λ later s. let joined : is_joined p.profile ≡ true = ap is_joined (sym (takes_frames values r p).profile) ∙ later in
      (takes_same r p (told joined)).same s ∙ h joined s

  actor_next : (m : Actor Carried) → is_over m ≡ true → Finite m → Finite (member_next m)
  actor_next (App a) over h = tt
  actor_next (Path p) over h = λ later s. (next_same p).same s ∙ h (ap is_joined (sym (next_frames p over).profile) ∙ later) s

  abbrev AtActor : WorldState Carried → Type 0
  AtActor w = (c : ActorCrew Carried) → slice_get w.crew actor ≡ Some c → Finite c.member

  turn_on : (turn : Turn) (w : WorldState Carried) (c : ActorCrew Carried) → slice_get w.crew actor ≡ Some c → Told c.member → Finite c.member
      → (d : ActorCrew Carried) × (slice_get (after_turn values turn w).crew actor ≡ Some d) × Finite d.member
  turn_on turn w c there facts h =
      let found = turn_by values (λ books c d. Told c.member → Finite c.member → Finite d.member) (λ books c facts h. h)
      (λ books ask c asks facts h. actor_takes (answer_to books ask) c.member facts h) (λ books stamp c over facts h. actor_next c.member over h) turn w actor c there in
      (found.0, found.1, found.2 facts h)

  step_on : (turns : List Turn) (turn : Turn) → AtActor (reached values start turns) → AtActor (after_turn values turn (reached values start turns))
  step_on turns turn h d there = by (slice_get (reached values start turns).crew actor) refl
    where
      by : (o : Option (ActorCrew Carried)) → slice_get (reached values start turns).crew actor ≡ o → Finite d.member
      by None was = absurd (let none = none_stays values turn (reached values start turns) actor was in let found : None ≡ Some d = sym none ∙ there in cc)
      by (Some c) was =
          let next = turn_on turn (reached values start turns) c was (told turns actor c was) (h c was) in
          subst (λ (y : ActorCrew Carried). Finite y.member) (same_Some next.0 d (sym next.1 ∙ there)) next.2

  run_on : (before more : List Turn) → AtActor (reached values start before) → AtActor (reached values start (before ++ more))
  run_on before [] h = subst (λ ts. AtActor (reached values start ts)) (sym (append-nil before)) h
  run_on before (turn ∷ more) h = subst (λ ts. AtActor (reached values start ts)) (append_assoc before (turn ∷ []) more)
      (run_on (before ++ turn ∷ []) more (subst AtActor (sym (run_append values before (turn ∷ []) (opened_world start))) (step_on before turn h)))

  opened_on : AtActor (opened_world start)
  opened_on c there = (opened_lifted (λ c. Finite c.member) start tt tt
      (λ number plan there joined s. (begins_lasts AllSame lasts (waiting_path (path_begins start number plan) start.lines)).same s ∙ first number plan s)).each actor c there
    where
      first : (number : ℕ) (plan : PathPlan) → IsFinite (waiting_path (path_begins start number plan) start.lines)
      first number plan A = refl
      first number plan B = refl

-- ---- by the list of what was said

tells : (item : Heard) → is_infinite_item item ≡ false → TellsNoInfinite item
tells (says.InfiniteMapping place position) is = true≢false is
tells _ is = tt

none_at : (index : ℕ) (items : List Heard) → list_any is_infinite_item items ≡ false → IfSome (item_at index items) TellsNoInfinite
none_at index [] none = tt
none_at zero (item ∷ items) none = tells item (or_parts (is_infinite_item item) (list_any is_infinite_item items) none).0
none_at (suc index) (item ∷ items) none = none_at index items (or_parts (is_infinite_item item) (list_any is_infinite_item items) none).1

-- no item of what an end was told is an infinite mapping
abbrev pub HasNoInfiniteItem : PathState Carried → Type 0
HasNoInfiniteItem p = (s : Side) → list_any is_infinite_item (end_at s p).treated.items ≡ false

told_none : (start : Start) → OfEachJoin start HasNoInfiniteItem → OfEachJoin start IsToldNoInfinite
told_none start none turns actor c there = by c.member (none turns actor c there)
  where
    one : (b : Bool) (o : Option Heard) → IfSome o TellsNoInfinite → IfSome (if b then None else o) TellsNoInfinite
    one true o h = tt
    one false o h = h

    by : (m : Actor Carried) → OfPaths (λ p. is_joined p.profile ≡ true → HasNoInfiniteItem p) m → Told m
    by (App a) h = tt
    by (Path p) h = λ joined s index. one (end_at s p).modes.identity (item_at index (end_at s p).treated.items) (none_at index (end_at s p).treated.items (h joined s))

pub joined_ends_are_finite : (start : Start) → OfEachJoin start HasNoInfiniteItem → OfEachJoin start IsFinite
joined_ends_are_finite start none turns actor c there = run_on start actor (told_none start none) [] turns (opened_on start actor (told_none start none)) c there
