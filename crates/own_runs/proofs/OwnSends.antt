-- An end keeps its own infinite mapping (RFC 8684, section 3.7): it goes by one since its side sends so, and by no other one ever.
use Rattle.std.proofs.Common.{◌≡◌, refl, sym, ap, ◌∙◌, subst, ℕ, ◌+◌, ◌⊎◌, inl, inr, ⊎_elim, ◌&&◌, ◌==◌, not, Bool, true, false, if◌then◌else◌, Option, Some, None, is_some, List, [], ◌∷◌, ◌++◌, map}
use Rattle.std.specs.List.{slice_get}
use Rattle.std.specs.Option.{option_map}
use Rattle.std.proofs.lemmas.Bool.{both_ways, eq-eqb, eqb-true, false≢true}
use Rattle.std.proofs.lemmas.Option.{same_Some}
use Rattle.actor_desk.specs.Books.{books_in}
use Rattle.actor_desk.specs.Desk.{SixBooks, after_ask, control_of, reply_of}
use Rattle.actor_desk.specs.declared.ask.Ask.{Ask}
use Rattle.actor_desk.specs.declared.ask.Reply.{Reply}
use Rattle.control_book.specs.Registry.{sole}
use Rattle.control_book.specs.declared.call.ControlReply.{ControlReply}
use Rattle.fallback_state.specs.Modes.{with_infinite_send, writes_mappings}
use Rattle.fallback_state.specs.Table.{breaks, fall_step, goes, stays}
use Rattle.fallback_state.specs.declared.fall.Event.{Event as FallEvent}
use Rattle.fallback_state.specs.declared.fall.Fall.{Fall}
use Rattle.fallback_state.specs.declared.fall.Verdict.{Verdict}
use Rattle.path_agenda.specs.declared.duty.AskDuty.{AskDuty}
use Rattle.path_agenda.specs.declared.duty.Duty.{Duty}
use Rattle.path_agenda.specs.declared.duty.SendDuty.{SendDuty}
use Rattle.path_agenda.specs.declared.duty.SilentDuty.{SilentDuty}
use Rattle.path_agenda.specs.declared.duty.StepDuty.{StepDuty}
use Rattle.path_core.specs.Codec.{Codec}
use Rattle.path_core.specs.Duties.{answered, ask_for, passed}
use Rattle.path_core.specs.End.{PathEnd}
use Rattle.path_core.specs.Fallback.{after_fail_heard, after_fell, is_infinite_send, sending_infinite}
use Rattle.path_core.specs.Modes.{sends_infinite}
use Rattle.path_core.specs.Start.{waiting_path}
use Rattle.path_core.specs.State.{PathState, end_at, path_of}
use Rattle.path_core.specs.Steps.{answers, asks_first, begins_turn, next_round, takes}
use Rattle.path_core.specs.Values.{Carried, values}
use Rattle.path_core.specs.declared.modes.Modes.{Modes}
use Rattle.path_store.specs.declared.infinite_mapping.InfiniteMapping.{InfiniteMapping}
use Rattle.sides.specs.declared.side.Side.TheVariants.{A, B}
use Rattle.sides.specs.declared.side.Side.{Side}
use Rattle.stream_lanes.proofs.Lists.{in_set, set_other}
use Rattle.judge_laws.proofs.Books.{set_there}
use Rattle.world_laws.proofs.Falls.ByTheJournal.{Was, was_now, was_stays}
use Rattle.world_laws.proofs.Weaving.Journals.{books_after}
use Rattle.world_laws.proofs.Weaving.WholeRounds.{run_append}
use Rattle.world_laws.proofs.Worlds.Casts.{map_there}
use Rattle.world_laws.proofs.Worlds.Opened.{opened_actors}
use Rattle.world_laws.proofs.Worlds.Turns.{turn_so}
use Rattle.world_laws.proofs.Writes.Ends.{fell_so}
use Rattle.world_laws.proofs.Writes.Paths.{passes_no_more, writes_no_more}
use Rattle.world_laws.proofs.Writes.Steps.{Lasts, begins_lasts, both_ends, settled_lasts, unwritten}
use Rattle.world_laws.specs.Actors.{Actor, ActorCrew, member_asks, member_next, member_takes}
use Rattle.world_laws.specs.Openings.{PathPlan, Start, new_path, opened_world, path_begins}
use Rattle.world_laws.specs.Worlds.{Turn, WorldState, after_turn, asked, begins, crew_after, greatest, world_run}
use Rattle.world_laws.specs.Writes.{EndView, EndWrites, Only, OnlyAt, Writes, side_of, writes}
use Rattle.world_laws.specs.declared.member.Member.TheVariants.{App, Path}
use Rattle.own_runs.proofs.SendingModes.{SendsSo, always_sends, not_writing}

chained : (p q r : Option InfiniteMapping) (F : Type 0) → r ≡ q → (q ≡ p) ⊎ F → (r ≡ p) ⊎ F
chained p q r F rest (inl same) = inl (rest ∙ same)
chained p q r F rest (inr f) = inr f

was_some : (p r : Option InfiniteMapping) (m : InfiniteMapping) → r ≡ p → r ≡ Some m → p ≡ Some m
was_some p r m same is = sym same ∙ is

stays_some : (p r : Option InfiniteMapping) (m : InfiniteMapping) → r ≡ p → p ≡ Some m → r ≡ Some m
stays_some p r m same is = same ∙ is

-- ---- an end

own_only : (w : EndWrites) → w.own_infinite ≡ false → (e f : PathEnd) → Only w e f → f.modes.own_infinite ≡ e.modes.own_infinite
own_only w none e f x = unwritten w.own_infinite e.modes.own_infinite f.modes.own_infinite none (ap (λ (v : EndView). v.own_infinite) x.same)

fell_own : (event : FallEvent) (r : Reply) (e : PathEnd) → (after_fell event r e).modes.own_infinite ≡ e.modes.own_infinite
fell_own event r e = fell_so (λ (n : Modes). n.own_infinite ≡ e.modes.own_infinite) event r e.modes (λ mode owes. refl)

-- by the verdict on the peer's MP_FAIL it goes by one, or by the same as before
fail_own : (r : Reply) (e : PathEnd) → ((after_fail_heard r e).modes.own_infinite ≡ e.modes.own_infinite) ⊎ (is_infinite_send r ≡ true)
fail_own r e = by e.treated.infinite_mapping (is_infinite_send r) refl
  where
    fell : PathEnd
    fell = after_fell (FallEvent.FailHeard (is_some e.treated.infinite_mapping)) r e

    same : fell.modes.own_infinite ≡ e.modes.own_infinite
    same = fell_own (FallEvent.FailHeard (is_some e.treated.infinite_mapping)) r e

    by : (o : Option InfiniteMapping) (b : Bool) → is_infinite_send r ≡ b → ((sending_infinite o b fell).modes.own_infinite ≡ e.modes.own_infinite) ⊎ (is_infinite_send r ≡ true)
    by None b is = inl same
    by (Some mapping) false is = inl same
    by (Some mapping) true is = inr is

-- that verdict comes where the side's own mappings counted, and it sends by an infinite one then
fail_goes : (f : Fall) (path : ℕ) (only contiguous : Bool) → is_infinite_send (Reply.Control (ControlReply.Verdict (fall_step f path only (FallEvent.FailHeard contiguous)).1)) ≡ true
    → (writes_mappings f.mode ≡ true) × (sends_infinite (fall_step f path only (FallEvent.FailHeard contiguous)).0.mode ≡ true)
fail_goes f path only contiguous = by (writes_mappings f.mode) (only && contiguous)
  where
    by : (counts may : Bool) → let row : Fall × Verdict = (if not counts then stays f else (if may then goes (with_infinite_send f.mode) f else breaks 1 f)) in
        is_infinite_send (Reply.Control (ControlReply.Verdict row.1)) ≡ true → (counts ≡ true) × (sends_infinite row.0.mode ≡ true)
    by false may is = absurd (false≢true is)
    by true false is = absurd (false≢true is)
    by true true is = (refl, is)

-- ---- a path

abbrev pub own_of : {C : Type 0} → Side → PathState C → Option InfiniteMapping
own_of s p = (end_at s p).modes.own_infinite

module _ {C : Type 0} where
  record SameOwn (p q : PathState C) : Type 0 where
    a : q.a.modes.own_infinite ≡ p.a.modes.own_infinite
    b : q.b.modes.own_infinite ≡ p.b.modes.own_infinite

  at_side : (s : Side) (p q : PathState C) → SameOwn p q → own_of s q ≡ own_of s p
  at_side A p q h = h.a
  at_side B p q h = h.b

  kept_by : (s : Side) (w : Writes) (p q : PathState C) → w.own.own_infinite ≡ false → w.other.own_infinite ≡ false → OnlyAt s w p q → SameOwn p q
  kept_by s w p q own other x =
      let both = both_ends (λ e f. f.modes.own_infinite ≡ e.modes.own_infinite) s w p q (own_only w.own own) (own_only w.other other) x in
      record { a = both.0; b = both.1 }

  -- no duty but that of the verdict on MP_FAIL writes it
  passed_own : (d : Duty) (p : PathState C) → SameOwn p (passed d p)
  passed_own (Duty.Ask (AskDuty.FailHeard s)) p = record { a = refl; b = refl }
  passed_own (Duty.Step (StepDuty.Heard s index)) p = kept_by s _ p _ refl refl (passes_no_more (Duty.Step (StepDuty.Heard s index)) p)
  passed_own (Duty.Send (SendDuty.Update s)) p = kept_by s _ p _ refl refl (passes_no_more (Duty.Send (SendDuty.Update s)) p)
  passed_own (Duty.Silent (SilentDuty.Timer s)) p = kept_by s _ p _ refl refl (passes_no_more (Duty.Silent (SilentDuty.Timer s)) p)
  passed_own d p = kept_by (side_of d) (writes d) p _ refl refl (passes_no_more d p)

  own_lasts : Lasts (λ (p q : PathState C). SameOwn p q)
  own_lasts = record {
    agenda = λ ds p. record { a = refl; b = refl };
    chains = λ p q r x y. record { a = y.a ∙ x.a; b = y.b ∙ x.b };
    passes = λ d p. passed_own d p;
  }

  -- as before, or by that verdict
  abbrev pub Goes : Duty → Reply → Side → PathState C → PathState C → Type 0
  Goes d r s p q = (own_of s q ≡ own_of s p) ⊎ ((d ≡ Duty.Ask (AskDuty.FailHeard s)) × (is_infinite_send r ≡ true))

  kept_goes : (k : Codec C) (d : Duty) (r : Reply) (p : PathState C) (s : Side) → (writes d).own.own_infinite ≡ false → (writes d).other.own_infinite ≡ false → Goes d r s p (answered k d r p)
  kept_goes k d r p s own other = inl (at_side s p (answered k d r p) (kept_by (side_of d) (writes d) p (answered k d r p) own other (writes_no_more k d r p)))

  answered_goes : (k : Codec C) (d : Duty) (r : Reply) (p : PathState C) (s : Side) → Goes d r s p (answered k d r p)
  answered_goes k (Duty.Ask (AskDuty.FailHeard t)) r p s = by t s
    where
      by : (t s : Side) → Goes (Duty.Ask (AskDuty.FailHeard t)) r s p (answered k (Duty.Ask (AskDuty.FailHeard t)) r p)
      by A A = ⊎_elim (λ same. inl same) (λ is. inr (refl, is)) (fail_own r p.a)
      by A B = inl refl
      by B A = inl refl
      by B B = ⊎_elim (λ same. inl same) (λ is. inr (refl, is)) (fail_own r p.b)
  answered_goes k (Duty.Step (StepDuty.Heard t index)) r p s = kept_goes k (Duty.Step (StepDuty.Heard t index)) r p s refl refl
  answered_goes k (Duty.Send (SendDuty.Update t)) r p s = kept_goes k (Duty.Send (SendDuty.Update t)) r p s refl refl
  answered_goes k (Duty.Silent (SilentDuty.Timer t)) r p s = kept_goes k (Duty.Silent (SilentDuty.Timer t)) r p s refl refl
  answered_goes k d r p s = kept_goes k d r p s refl refl

  pub takes_goes : (k : Codec C) (d : Duty) (ds : List Duty) (r : Reply) (p : PathState C) (s : Side) → p.agenda ≡ d ∷ ds → Goes d r s p (takes k r p)
  takes_goes k d ds r p s first =
      let q : PathState C = answers k p.agenda r p in
      let one : Goes d r s p q = subst (λ (xs : List Duty). Goes d r s p (answers k xs r p)) (sym first) (answered_goes k d r p s) in
      let rest : own_of s (takes k r p) ≡ own_of s q = at_side s q (takes k r p) (settled_lasts (λ p q. SameOwn p q) own_lasts q.agenda q) in
      chained (own_of s p) (own_of s q) (own_of s (takes k r p)) ((d ≡ Duty.Ask (AskDuty.FailHeard s)) × (is_infinite_send r ≡ true)) rest one

  next_same : (p : PathState C) (s : Side) → own_of s (next_round p) ≡ own_of s p
  next_same p s = at_side s p (next_round p) (let both = begins_lasts (λ p q. SameOwn p q) own_lasts (record p { clock = p.until; until = p.until + 100 }) in record { a = both.a; b = both.b })

-- ---- an actor

abbrev pub own_at : {C : Type 0} → Side → Actor C → Option InfiniteMapping
own_at s (App a) = None
own_at s (Path p) = own_of s p

-- as before, or the side's own mappings counted, and it sends by an infinite one now
abbrev Turns : SixBooks → SixBooks → Side → Actor Carried → Actor Carried → Type 0
Turns six after s m n = (own_at s n ≡ own_at s m) ⊎ ((writes_mappings (control_of s six).fall.mode ≡ true) × (sends_infinite (control_of s after).fall.mode ≡ true))

fails_turn : (six : SixBooks) (p : PathState Carried) (s : Side) → let x : Ask = ask_for values (Duty.Ask (AskDuty.FailHeard s)) p in is_infinite_send (reply_of six x) ≡ true
    → (writes_mappings (control_of s six).fall.mode ≡ true) × (sends_infinite (control_of s (after_ask x six)).fall.mode ≡ true)
fails_turn six p A is = fail_goes six.control_a.fall (path_of p) (sole six.control_a.paths (path_of p)) (is_some p.a.treated.infinite_mapping) is
fails_turn six p B is = fail_goes six.control_b.fall (path_of p) (sole six.control_b.paths (path_of p)) (is_some p.b.treated.infinite_mapping) is

member_turns : (six : SixBooks) (m : Actor Carried) (x : Ask) (s : Side) → member_asks values m ≡ Some x → Turns six (after_ask x six) s m (member_takes values (reply_of six x) m)
member_turns six (App a) x s asks = inl refl
member_turns six (Path p) x s asks = by p.agenda refl asks
  where
    one : (d : Duty) (ds : List Duty) → p.agenda ≡ d ∷ ds → Turns six (after_ask (ask_for values d p) six) s (Path p) (Path (takes values (reply_of six (ask_for values d p)) p))
    one d ds first = ⊎_elim
        (λ same. inl same)
        (λ fails. inr (subst (λ (e : Duty). (writes_mappings (control_of s six).fall.mode ≡ true) × (sends_infinite (control_of s (after_ask (ask_for values e p) six)).fall.mode ≡ true)) (sym fails.0)
        (fails_turn six p s (subst (λ (e : Duty). is_infinite_send (reply_of six (ask_for values e p)) ≡ true) fails.0 fails.1))))
        (takes_goes values d ds (reply_of six (ask_for values d p)) p s first)

    by : (ds : List Duty) → p.agenda ≡ ds → asks_first values ds p ≡ Some x → Turns six (after_ask x six) s (Path p) (Path (takes values (reply_of six x) p))
    by [] first is = cc
    by (d ∷ ds) first is = subst (λ (y : Ask). Turns six (after_ask y six) s (Path p) (Path (takes values (reply_of six y) p))) (same_Some (ask_for values d p) x is) (one d ds first)

pub next_own : (m : Actor Carried) (s : Side) → own_at s (member_next m) ≡ own_at s m
next_own (App a) s = refl
next_own (Path p) s = next_same p s

-- ---- worlds

abbrev pub own_in : {C : Type 0} → Side → Option (ActorCrew C) → Option InfiniteMapping
own_in s None = None
own_in s (Some c) = own_at s c.member

-- an end that goes by an own infinite mapping goes on by it
abbrev pub OwnStays : WorldState Carried → WorldState Carried → Type 0
OwnStays w v = (actor : ℕ) (s : Side) (m : InfiniteMapping) → own_in s (slice_get w.crew actor) ≡ Some m → own_in s (slice_get v.crew actor) ≡ Some m

-- and its side sends so
pub record OwnSends (w : WorldState Carried) : Type 0 where
  pub was : (actor : ℕ) (s : Side) (m : InfiniteMapping) → own_in s (slice_get w.crew actor) ≡ Some m → Was sends_infinite w.books s

module _ (w : WorldState Carried) (sends : SendsSo w.books) (h : OwnSends w) where
  abbrev Next : WorldState Carried → Type 0
  Next v = OwnSends v × OwnStays w v

  same_next : Next w
  same_next = (h, λ actor s m is. is)

  module _ (actor : ℕ) (c : ActorCrew Carried) (x : Ask) (there : slice_get w.crew actor ≡ Some c) (asks : member_asks values c.member ≡ Some x) where
    abbrev v : WorldState Carried
    v = asked values actor (Some x) c w

    abbrev d : ActorCrew Carried
    d = crew_after values x w.books c

    turned : (s : Side) → Turns (books_in w.books) (after_ask x (books_in w.books)) s c.member d.member
    turned s = member_turns (books_in w.books) c.member x s asks

    here : slice_get v.crew actor ≡ Some d
    here = set_there w.crew actor d c there

    own_there : (s : Side) (m : InfiniteMapping) → own_at s c.member ≡ Some m → own_in s (slice_get w.crew actor) ≡ Some m
    own_there s m is = ap (own_in s) there ∙ is

    sends_now : (s : Side) → sends_infinite (control_of s (after_ask x (books_in w.books))).fall.mode ≡ true → Was sends_infinite v.books s
    sends_now s is =
        was_now sends_infinite v.books s (subst (λ (six : SixBooks). sends_infinite (control_of s six).fall.mode ≡ true) (sym (books_after x c.pass w.books)) is)

    -- the actor itself
    was_by : (n : Actor Carried) (s : Side) (m : InfiniteMapping) → Turns (books_in w.books) (after_ask x (books_in w.books)) s c.member n → own_at s n ≡ Some m → Was sends_infinite v.books s
    was_by n s m (inl same) is = was_stays sends_infinite x c.pass w.books s (h.was actor s m (own_there s m (was_some (own_at s c.member) (own_at s n) m same is)))
    was_by n s m (inr fails) is = sends_now s fails.1

    on_by : (n : Actor Carried) (s : Side) (m : InfiniteMapping) → Turns (books_in w.books) (after_ask x (books_in w.books)) s c.member n → own_at s c.member ≡ Some m → own_at s n ≡ Some m
    on_by n s m (inl same) is = stays_some (own_at s c.member) (own_at s n) m same is
    on_by n s m (inr fails) is = absurd (not_writing (control_of s (books_in w.books)).fall.mode fails.0 (sends.still s (h.was actor s m (own_there s m is))))

    own_was : (s : Side) (m : InfiniteMapping) → own_at s d.member ≡ Some m → Was sends_infinite v.books s
    own_was s m is = was_by d.member s m (turned s) is

    own_on : (s : Side) (m : InfiniteMapping) → own_at s c.member ≡ Some m → own_at s d.member ≡ Some m
    own_on s m is = on_by d.member s m (turned s) is

    step_was : (i : ℕ) (s : Side) (m : InfiniteMapping) → own_in s (slice_get v.crew i) ≡ Some m → Was sends_infinite v.books s
    step_was i s m is = by (slice_get v.crew i) refl is
      where
        by : (o : Option (ActorCrew Carried)) → slice_get v.crew i ≡ o → own_in s o ≡ Some m → Was sends_infinite v.books s
        by None at none = cc
        by (Some e) at own = ⊎_elim
            (λ it. own_was s m (subst (λ (y : ActorCrew Carried). own_at s y.member ≡ Some m) (sym it.1) own))
            (λ other. was_stays sends_infinite x c.pass w.books s (h.was i s m (ap (own_in s) other.1 ∙ own)))
            (in_set w.crew actor d i e at)

    step_stays : (i : ℕ) (s : Side) (m : InfiniteMapping) → own_in s (slice_get w.crew i) ≡ Some m → own_in s (slice_get v.crew i) ≡ Some m
    step_stays i s m is = by (slice_get w.crew i) refl is
      where
        by : (o : Option (ActorCrew Carried)) → slice_get w.crew i ≡ o → own_in s o ≡ Some m → own_in s (slice_get v.crew i) ≡ Some m
        by None at none = cc
        by (Some e) at own = either (i == actor) refl
          where
            either : (b : Bool) → (i == actor) ≡ b → own_in s (slice_get v.crew i) ≡ Some m
            either true same =
                let at_actor : i ≡ actor = eqb-true i actor same in
                let it : c ≡ e = same_Some c e (sym there ∙ ap (slice_get w.crew) (sym at_actor) ∙ at) in
                ap (λ (n : ℕ). own_in s (slice_get v.crew n)) at_actor ∙ ap (own_in s) here ∙ own_on s m (subst (λ (y : ActorCrew Carried). own_at s y.member ≡ Some m) (sym it) own)
            either false apart =
                ap (own_in s) (set_other w.crew actor d i (λ same. both_ways (i == actor) apart (eq-eqb i actor same))) ∙ ap (own_in s) at ∙ own

    step_next : Next v
    step_next = (record { was = step_was }, step_stays)

  round_next : Next (record w { crew = map (begins (greatest 0 w.crew)) w.crew })
  round_next = (
    record { was = λ i s m is. h.was i s m (sym (same i s) ∙ is) },
    λ i s m is. same i s ∙ is,
  )
    where
      same : (i : ℕ) (s : Side) → own_in s (slice_get (map (begins (greatest 0 w.crew)) w.crew) i) ≡ own_in s (slice_get w.crew i)
      same i s = ap (own_in s) (map_there (begins (greatest 0 w.crew)) w.crew i) ∙ by (slice_get w.crew i)
        where
          by : (o : Option (ActorCrew Carried)) → own_in s (option_map (begins (greatest 0 w.crew)) o) ≡ own_in s o
          by None = refl
          by (Some c) = next_own c.member s

  turn_next : (turn : Turn) → Next (after_turn values turn w)
  turn_next turn = turn_so values Next turn w same_next (λ actor c x there asks. step_next actor c x there asks) (λ over. round_next)

run_own : (turns : List Turn) (w : WorldState Carried) → ((more : List Turn) → SendsSo (world_run values more w).books) → OwnSends w → OwnSends (world_run values turns w) × OwnStays w (world_run values turns w)
run_own [] w sends h = (h, λ actor s m is. is)
run_own (turn ∷ turns) w sends h =
    let one = turn_next w (sends []) h turn in
    let rest = run_own turns (after_turn values turn w) (λ more. sends (turn ∷ more)) one.0 in
    (rest.0, λ actor s m is. rest.1 actor s m (one.1 actor s m is))

pub opened_none : (start : Start) (actor : ℕ) (c : ActorCrew Carried) → slice_get (opened_world {C = Carried} start).crew actor ≡ Some c → (s : Side) → own_at s c.member ≡ None
opened_none start = opened_actors (λ actor c. (s : Side) → own_at s c.member ≡ None) start (λ s. refl) (λ s. refl) (λ number plan there s. path number plan s)
  where
    path : (number : ℕ) (plan : PathPlan) (s : Side) → own_at s (new_path {C = Carried} start number plan).member ≡ None
    path number plan s =
        let p : PathState Carried = waiting_path (path_begins start number plan) start.lines in at_side s p (begins_turn p) (begins_lasts (λ p q. SameOwn p q) own_lasts p) ∙ first s
      where
        first : (s : Side) → own_of s (waiting_path {C = Carried} (path_begins start number plan) start.lines) ≡ None
        first A = refl
        first B = refl

opened_own : (start : Start) → OwnSends (opened_world start)
opened_own start = record { was = λ actor s m is. by actor s m (slice_get (opened_world {C = Carried} start).crew actor) refl is }
  where
    by : (actor : ℕ) (s : Side) (m : InfiniteMapping) (o : Option (ActorCrew Carried)) → slice_get (opened_world {C = Carried} start).crew actor ≡ o → own_in s o ≡ Some m
        → Was sends_infinite (opened_world {C = Carried} start).books s
    by actor s m None at is = cc
    by actor s m (Some c) at is = let gone : None ≡ Some m = sym (opened_none start actor c at s) ∙ is in cc

pub always_own : (start : Start) (turns : List Turn) → OwnSends (world_run values turns (opened_world start))
always_own start turns = (run_own turns (opened_world start) (λ more. always_sends start more) (opened_own start)).0

-- from each moment to each later one
pub own_stays : (start : Start) (more later turns : List Turn) → more ++ later ≡ turns → OwnStays (world_run values more (opened_world start)) (world_run values turns (opened_world start))
own_stays start more later turns is =
    subst (OwnStays (world_run values more (opened_world start))) (sym (run_append values more later (opened_world start)) ∙ ap (λ (ts : List Turn). world_run values ts (opened_world start)) is)
    (run_own later (world_run values more (opened_world start)) (λ rest. subst (λ (v : WorldState Carried). SendsSo v.books) (run_append values more rest (opened_world start)) (always_sends start (more ++ rest))) (always_own start more)).1
