-- While A treats the SYN/ACK B's end may send no DSS. So where B's may A's end is past the handshake, and knows B's key.
use Rattle.std.proofs.Common.{◌≡◌, refl, sym, subst, ap, ◌∙◌, ⊎_elim, ℕ, ◌+◌, ◌≤◌, arith, Bool, true, false, true≢false, is_some, if◌then◌else◌, Option, Some, None, List, [], ◌∷◌, ◌++◌, length}
use Rattle.std.specs.List.{list_any}
use Rattle.std.proofs.lemmas.Bool.{both_ways, or_parts, or_right}
use Rattle.path_segments.specs.Heard.{HeardSegment}
use Rattle.sides.specs.declared.side.Side.{Side}
use Rattle.sides.specs.declared.side.Side.TheVariants.{A, B}
use Rattle.link_model.specs.Steps.{after_delivery, arriving}
use Rattle.subflow_tcp.specs.Expiring.{is_sixth}
use Rattle.subflow_tcp.specs.Judging.{meaning_of}
use Rattle.subflow_tcp.specs.States.{is_dead}
use Rattle.subflow_tcp.specs.declared.handshake.State.TheVariants as phase
use Rattle.subflow_tcp.specs.declared.verdicts.Meaning.{Meaning}
use Rattle.subflow_tcp.specs.declared.verdicts.Meaning.TheVariants as means
use Rattle.actor_desk.specs.declared.ask.Reply.{Reply}
use Rattle.actor_desk.specs.Words.{tail_of}
use Rattle.path_agenda.specs.Agenda.{copy_came, emission, leaves, payload_came, rest_of_turn, start_of_turn}
use Rattle.path_agenda.specs.declared.duty.Duty.{Duty}
use Rattle.path_agenda.specs.declared.duty.Duty.TheVariants as duties
use Rattle.path_agenda.specs.declared.duty.AskDuty.TheVariants as ask_duties
use Rattle.path_agenda.specs.declared.duty.StepDuty.TheVariants as step_duties
use Rattle.path_store.specs.declared.lines.LineAction.{LineAction}
use Rattle.path_store.specs.declared.lines.LineAction.TheVariants as actions
use Rattle.path_core.specs.Arrival.{copy_heard, copy_of, heard_in, judged_in, template_by, template_of, told_at}
use Rattle.path_core.specs.Duties.{answered, passed, stands}
use Rattle.path_core.specs.Events.{after_line, happens_if, next_event}
use Rattle.path_core.specs.MpJoin.{is_joined, is_never, keys_begun, never_joined, opened_by}
use Rattle.path_core.specs.OptionsIn.{items_of, options_heard}
use Rattle.path_core.specs.Start.{waiting_path}
use Rattle.path_core.specs.State.{PathState, at_tick, end_at, goes_on, with_agenda}
use Rattle.path_core.specs.Steps.{settled, takes}
use Rattle.path_core.specs.Timer.{template_fired}
use Rattle.path_core.specs.Values.{Carried, values}
use Rattle.path_core.specs.declared.events.Event.{Event}
use Rattle.path_core.specs.declared.events.Event.TheVariants as happenings
use Rattle.world_laws.specs.Openings.{Start, opened_world, path_begins}
use Rattle.world_laws.specs.RoundDone.{reached}
use Rattle.world_laws.specs.Worlds.{Turn}
use Rattle.world_laws.specs.Writes.{side_of}
use Rattle.world_laws.proofs.Rounds.Lifting.{opened_lifted}
use Rattle.world_laws.proofs.Whole.Ends.{MeansIs, means_so}
use Rattle.world_laws.proofs.Writes.Paths.{writes_no_more}
use Rattle.whole_paths.specs.AsFar.{stage}
use Rattle.whole_paths.specs.Clear.{AHasTheKeyFirst, IsPastIfClear}
use Rattle.whole_paths.specs.Finish.{IsPathAt}
use Rattle.whole_paths.specs.Mild.{HasKeys, IsMildStart, treats_answer}
use Rattle.whole_paths.specs.OpeningWaits.{IsAlive, IsOpening}
use Rattle.whole_paths.specs.OpeningWaits.{IsOpening as opens}
use Rattle.whole_paths.specs.Syns.{IsToOpen}
use Rattle.whole_paths.specs.Syns.{IsToOpen as to_open}
use Rattle.whole_paths.proofs.Agendas.{answered_follows}
use Rattle.whole_paths.proofs.ByTurns.{Becomes, Of, OfFirst, each_step}
use Rattle.whole_paths.proofs.Clearing.{Clears, PathClears, answered_at, answered_sign, answers_heard, back, clear_ends_are_past, clears_at, clears_sign, each_clears, fired_unsigned, is_sign, no_sign, passed_same, same_clear}
use Rattle.whole_paths.proofs.EdgesStay.{alive_before}
use Rattle.whole_paths.proofs.Handshaking.{living_ends_open_or_are_past, takes_far}
use Rattle.whole_paths.proofs.InTime.{is_event}
use Rattle.whole_paths.proofs.Keyed.{keys_are_known}
use Rattle.whole_paths.proofs.OpenCourses.{IsFirstPath, each_first}

-- ---- duties

-- A is to treat the SYN/ACK
abbrev Answering : List Duty → Type 0
Answering ds = list_any (answered_at A) ds ≡ true

-- by no duty B's end comes to know that it may send a DSS
abbrev Calm : List Duty → Type 0
Calm ds = list_any (clears_at B) ds ≡ false

never_in : (ds : List Duty) → list_any is_sign ds ≡ false → Answering ds → ⊥
never_in ds none is = no_sign (answered_at A) (answered_sign A) ds none is

not_so : (b : Bool) → (b ≡ true → ⊥) → b ≡ false
not_so true never = absurd (never refl)
not_so false never = refl

-- ---- an event

-- A takes the SYN/ACK, and B's end stays as it is
record TakesAnswer (p q : PathState Carried) : Type 0 where
  opening : p.a.tcp.state ≡ phase.SynSent
  same : q.b.modes.clear ≡ p.b.modes.clear
  calm : Calm q.agenda

line_none : (action : LineAction) (p : PathState Carried) → list_any is_sign (after_line action p).agenda ≡ false
line_none actions.Die p = by (is_dead p.a.tcp.state) (is_dead p.b.tcp.state)
  where
    by : (a b : Bool) → list_any is_sign ((if a then [] else duties.Ask (ask_duties.Leave A) ∷ []) ++ ((if b then [] else duties.Ask (ask_duties.Leave B) ∷ []) ++ rest_of_turn)) ≡ false
    by true true = refl
    by true false = refl
    by false true = refl
    by false false = refl
line_none (actions.Prio s backup) p = refl
line_none (actions.Announce s id) p = refl
line_none (actions.Withdraw s id) p = refl

-- the agenda that a copy brings has it where the copy is the SYN/ACK
record IsAnswerOf (s : Side) (m : Meaning) : Type 0 where
  own : s ≡ A
  acknowledged : ℕ
  is : m ≡ means.Accepts acknowledged

template_takes : (s : Side) (count : ℕ) (m : Meaning) → Answering (template_by false s count m) → IsAnswerOf s m
template_takes A count (means.Accepts n) is = record { own = refl; acknowledged = n; is = refl }
template_takes B count (means.Accepts n) is = absurd (true≢false (sym is))
template_takes s count (means.Taken pos n) is = absurd (both_ways (list_any (answered_at A) (copy_came s count)) (answers_heard A s 0 count (payload_came s) refl) is)
template_takes s count means.Unwanted is = absurd (true≢false (sym is))
template_takes s count means.Ignored is = absurd (never_in (template_by false s count means.Ignored) refl is)
template_takes s count means.Opens is = absurd (never_in (template_by false s count means.Opens) refl is)
template_takes s count means.RepeatedSyn is = absurd (never_in (template_by false s count means.RepeatedSyn) refl is)
template_takes s count means.Outside is = absurd (never_in (template_by false s count means.Outside) refl is)
template_takes s count means.Kills is = absurd (never_in (template_by false s count means.Kills) refl is)
template_takes s count means.Challenged is = absurd (never_in (template_by false s count means.Challenged) refl is)
template_takes s count means.Unacknowledging is = absurd (never_in (template_by false s count means.Unacknowledging) refl is)
template_takes s count means.Ahead is = absurd (never_in (template_by false s count means.Ahead) refl is)

told_takes : (now : ℕ) (s : Side) (h : HeardSegment) (p : PathState Carried) → is_joined p.profile ≡ false → Answering (told_at now s h p).agenda → TakesAnswer p (told_at now s h p)
told_takes now s h p first is = by s (meaning_of (copy_of h) (end_at s p).tcp) (means_so (copy_of h) (end_at s p).tcp) (length (items_of false s h)) agenda
    (template_takes s (length (items_of false s h)) (meaning_of (copy_of h) (end_at s p).tcp) (subst Answering agenda is))
  where
    agenda : (told_at now s h p).agenda ≡ template_by false s (length (items_of false s h)) (meaning_of (copy_of h) (end_at s p).tcp)
    agenda = ap (λ j. template_of j s (items_of j s h) (judged_in j s h (end_at s p))) first

    by : (t : Side) (m : Meaning) → MeansIs (copy_of h) (end_at t p).tcp m → (count : ℕ) → (told_at now t h p).agenda ≡ template_by false t count m → IsAnswerOf t m → TakesAnswer p (told_at now t h p)
    by A m fits count agenda found = record {
      opening = (subst (MeansIs (copy_of h) p.a.tcp) found.is fits).0;
      same = refl;
      calm = subst Calm (sym (agenda ∙ ap (λ m. template_by false A count m) found.is)) refl;
    }
    by B m fits count agenda found = absurd (let wrong = found.own in cc)

event_takes : (o : Option Event) (r : Reply) (p : PathState Carried) → is_joined p.profile ≡ false → Answering (happens_if values o r p).agenda → TakesAnswer p (happens_if values o r p)
event_takes None r p first is = absurd (never_in rest_of_turn refl is)
event_takes (Some (happenings.Joins tick)) r p first is =
    let x : PathState Carried = record (at_tick tick p) { joined_at = None } in
    absurd ((elim (is_never r) as (λ b. Answering (if b then goes_on A (never_joined r x.a) (leaves A) x else goes_on A (opened_by (keys_begun r) x.a) (emission A) x).agenda → ⊥)
    [ true ↦ λ h. never_in (leaves A) refl h | false ↦ λ h. never_in (emission A) refl h ]) is)
event_takes (Some (happenings.Takes line)) r p first is =
    let x : PathState Carried = record (at_tick line.tick p) { lines = tail_of p.lines } in absurd (never_in (after_line line.action x).agenda (line_none line.action x) is)
event_takes (Some (happenings.Arrives due)) r p first is = by due.to (heard_in values due.to (arriving due p.link) p) is
  where
    by : (s : Side) (o : Option HeardSegment) → Answering (copy_heard s o (record (at_tick due.tick p) { link = after_delivery due p.link })).agenda
        → TakesAnswer p (copy_heard s o (record (at_tick due.tick p) { link = after_delivery due p.link }))
    by s None is = absurd (never_in (emission s) refl is)
    by s (Some heard) is =
        let y : PathState Carried = record (at_tick due.tick p) { link = after_delivery due p.link } in
        let h = told_takes y.clock s (options_heard (end_at s y) heard) y first is in record { opening = h.opening; same = h.same; calm = h.calm }
event_takes (Some (happenings.Fires s tick)) r p first is = absurd (never_in (template_fired (is_sixth (end_at s p).tcp) s) (fired_unsigned (is_sixth (end_at s p).tcp) s) is)

-- ---- a turn

treats_back : (d : Duty) (ds : List Duty) (r : Reply) (p : PathState Carried) → is_event d ≡ false → Answering (answered values d r (with_agenda (d ∷ ds) p)).agenda → Answering (d ∷ ds)
treats_back (duties.Step step_duties.Events) ds r p other is = absurd (true≢false other)
treats_back d ds r p other is = back (answered_at A) (answered_sign A) (side_of d) _ d ds (answered values d r (with_agenda (d ∷ ds) p)).agenda (answered_follows values d ds r p) is

clears_back : (d : Duty) (ds : List Duty) (r : Reply) (p : PathState Carried) → is_event d ≡ false → list_any (clears_at B) (answered values d r (with_agenda (d ∷ ds) p)).agenda ≡ true → list_any (clears_at B) (d ∷ ds) ≡ true
clears_back (duties.Step step_duties.Events) ds r p other is = absurd (true≢false other)
clears_back d ds r p other is = back (clears_at B) (clears_sign B) (side_of d) _ d ds (answered values d r (with_agenda (d ∷ ds) p)).agenda (answered_follows values d ds r p) is

clear_same : (d : Duty) (ds : List Duty) (r : Reply) (p : PathState Carried) → is_event d ≡ false → clears_at B d ≡ false → (answered values d r (with_agenda (d ∷ ds) p)).b.modes.clear ≡ p.b.modes.clear
clear_same (duties.Step step_duties.Events) ds r p other none = absurd (true≢false other)
clear_same d ds r p other none = same_clear B d (with_agenda (d ∷ ds) p) (answered values d r (with_agenda (d ∷ ds) p)) refl (writes_no_more values d r (with_agenda (d ∷ ds) p)) none

-- while A is to treat the SYN/ACK, and no end is dead
record IsUnsure (p : PathState Carried) : Type 0 where
  calm : IsAlive p → Answering p.agenda → Calm p.agenda
  unsure : IsAlive p → Answering p.agenda → p.b.modes.clear ≡ false

settled_answering : (ds : List Duty) (p : PathState Carried) → Answering (settled ds p).agenda → Answering ds
settled_answering [] p is = is
settled_answering (d ∷ ds) p is = (elim (stands d p) as (λ b. Answering (if b then with_agenda (d ∷ ds) p else settled ds (passed d p)).agenda → Answering (d ∷ ds))
    [ true ↦ λ h. h | false ↦ λ h. or_right (answered_at A d) (list_any (answered_at A) ds) (settled_answering ds (passed d p) h) ]) is

record SettlesCalm (p q : PathState Carried) : Type 0 where
  calm : Calm q.agenda
  same : q.b.modes.clear ≡ p.b.modes.clear

settled_calm : (ds : List Duty) (p : PathState Carried) → Calm ds → SettlesCalm p (settled ds p)
settled_calm [] p calm = record { calm = refl; same = refl }
settled_calm (d ∷ ds) p calm = elim (stands d p) as (λ b. SettlesCalm p (if b then with_agenda (d ∷ ds) p else settled ds (passed d p))) [
  | true ↦ record { calm = calm; same = refl }
  | false ↦ (let parts = or_parts (clears_at B d) (list_any (clears_at B) ds) calm in let rest = settled_calm ds (passed d p) parts.1 in record { calm = rest.calm; same = rest.same ∙ passed_same B d p parts.0 })
]

record AnswersCalm (y : PathState Carried) : Type 0 where
  calm : Calm y.agenda
  unsure : y.b.modes.clear ≡ false

module _ (p : PathState Carried) (first : is_joined p.profile ≡ false) (low : p.a.tcp.state ≡ phase.SynSent → p.b.modes.clear ≡ false) (alive : IsAlive p) (h : IsUnsure p) where
  happened : (r : Reply) (ds : List Duty) (d : Duty) → d ≡ duties.Step step_duties.Events → Answering (answered values d r (with_agenda ds p)).agenda → TakesAnswer (with_agenda ds p) (answered values d r (with_agenda ds p))
  happened r ds d events = subst (λ e. Answering (answered values e r (with_agenda ds p)).agenda → TakesAnswer (with_agenda ds p) (answered values e r (with_agenda ds p))) (sym events)
      (event_takes (next_event (with_agenda ds p)) r (with_agenda ds p) first)

  answered_calm : (d : Duty) (ds : List Duty) (r : Reply) → p.agenda ≡ d ∷ ds → Answering (answered values d r (with_agenda (d ∷ ds) p)).agenda → AnswersCalm (answered values d r (with_agenda (d ∷ ds) p))
  answered_calm d ds r is treats = by (is_event d) refl
    where
      event : (e : Duty) → is_event e ≡ true → e ≡ duties.Step step_duties.Events
      event (duties.Step step_duties.Events) is = refl
      event _ is = absurd (true≢false (sym is))

      by : (b : Bool) → is_event d ≡ b → AnswersCalm (answered values d r (with_agenda (d ∷ ds) p))
      by true events = let found = happened r (d ∷ ds) d (event d events) treats in record { calm = found.calm; unsure = found.same ∙ low found.opening }
      by false other =
          let was : Answering p.agenda = subst Answering (sym is) (treats_back d ds r p other treats) in
          let calm : Calm (d ∷ ds) = subst Calm is (h.calm alive was) in
          record {
            calm = not_so (list_any (clears_at B) (answered values d r (with_agenda (d ∷ ds) p)).agenda) (λ now. both_ways (list_any (clears_at B) (d ∷ ds)) calm (clears_back d ds r p other now));
            unsure = clear_same d ds r p other (or_parts (clears_at B d) (list_any (clears_at B) ds) calm).0 ∙ h.unsure alive was;
          }

  takes_calm : (r : Reply) → Answering (takes values r p).agenda → AnswersCalm (takes values r p)
  takes_calm r = by p.agenda refl
    where
      by : (ds : List Duty) → p.agenda ≡ ds → Answering (takes values r (with_agenda ds p)).agenda → AnswersCalm (takes values r (with_agenda ds p))
      by [] is treats = absurd (true≢false (sym treats))
      by (d ∷ ds) is treats =
          let y : PathState Carried = answered values d r (with_agenda (d ∷ ds) p) in
          let now = answered_calm d ds r is (settled_answering y.agenda y treats) in
          let then_on = settled_calm y.agenda y now.calm in record { calm = then_on.calm; unsure = then_on.same ∙ now.unsure }

-- ---- the world

to_open_low : (s : Side) (p : PathState Carried) → IsToOpen s p → stage p.b.tcp.state ≤ 2
to_open_low s p (to_open.asks own sent listens) = subst (λ x. stage x ≤ 2) (sym listens) (omega arith)
to_open_low s p (to_open.answers own sent half) = subst (λ x. stage x ≤ 2) (sym half) (omega arith)

opening_low : (p : PathState Carried) → IsOpening p → stage p.b.tcp.state ≤ 2
opening_low p (opens.syn s h) = to_open_low s p h
opening_low p (opens.answer past half) = subst (λ x. stage x ≤ 2) (sym half) (omega arith)

module _ (start : Start) (mild : IsMildStart start) where
  module _ (turns : List Turn) (p : PathState Carried) (here : IsPathAt 0 (reached values start turns) p) where
    first : IsFirstPath start p
    first = subst (Of (IsFirstPath start)) here.is (each_first start turns mild.plain.size here.crew here.there)

    past_if : p.b.modes.clear ≡ true → 3 ≤ stage p.b.tcp.state
    past_if = subst (Of IsPastIfClear) here.is (clear_ends_are_past values start turns 2 here.crew here.there) first.first B

    low : IsAlive p → p.a.tcp.state ≡ phase.SynSent → p.b.modes.clear ≡ false
    low alive opening = not_so p.b.modes.clear (λ clear. ⊎_elim
        (λ still. (let few = opening_low p still in let high = past_if clear in omega (arith, few, high)))
        (λ past. (let high = past A in let one = ap stage opening in omega (arith, high, one)))
        (living_ends_open_or_are_past start turns mild p here alive))

  opened_unsure : OfFirst IsUnsure (opened_world start)
  opened_unsure = record {
    each = λ c there. (opened_lifted (λ c. Of IsUnsure c.member) start tt tt (λ number plan at. (let p : PathState Carried = with_agenda start_of_turn (waiting_path (path_begins start number plan) start.lines) in record {
      calm = λ alive treats. absurd (never_in start_of_turn refl (settled_answering start_of_turn p treats));
      unsure = λ alive treats. absurd (never_in start_of_turn refl (settled_answering start_of_turn p treats));
    }))).each 2 c there;
  }

  step_on : (turns : List Turn) (turn : Turn) (p q : PathState Carried) → IsPathAt 0 (reached values start turns) p → IsPathAt 0 (reached values start (turns ++ turn ∷ [])) q → Becomes values p q → IsUnsure p → IsUnsure q
  step_on turns turn p q here there Becomes.stays h = h
  step_on turns turn p q here there (Becomes.takes_a_reply r) h = record {
    calm = λ alive treats. (now alive treats).calm;
    unsure = λ alive treats. (now alive treats).unsure;
  }
    where
      now : IsAlive (takes values r p) → Answering (takes values r p).agenda → AnswersCalm (takes values r p)
      now alive = let was = alive_before p (takes values r p) (takes_far r p) alive in takes_calm p (first turns p here).first (low turns p here was) was h r
  step_on turns turn p q here there Becomes.begins_anew h =
      let x : PathState Carried = with_agenda start_of_turn (record p { clock = p.until; until = p.until + 100 }) in record {
        calm = λ alive treats. absurd (never_in start_of_turn refl (settled_answering start_of_turn x treats));
        unsure = λ alive treats. absurd (never_in start_of_turn refl (settled_answering start_of_turn x treats));
      }

  unsure_at : (turns : List Turn) (p : PathState Carried) → IsPathAt 0 (reached values start turns) p → IsUnsure p
  unsure_at turns p here = subst (Of IsUnsure) here.is ((each_step values start IsUnsure opened_unsure step_on turns).each here.crew here.there)

treats_a : (p : PathState Carried) → treats_answer p.agenda ≡ true → (list_any (answered_at B) p.agenda ≡ false) → Answering p.agenda
treats_a p is none = by p.agenda is none
  where
    by : (ds : List Duty) → treats_answer ds ≡ true → list_any (answered_at B) ds ≡ false → Answering ds
    by [] is none = absurd (true≢false (sym is))
    by (duties.Ask (ask_duties.SynAnswered A) ∷ ds) is none = refl
    by (duties.Ask (ask_duties.SynAnswered B) ∷ ds) is none = absurd (true≢false none)
    by (duties.Ask (ask_duties.PeerKey A) ∷ ds) is none = refl
    by (duties.Ask (ask_duties.PeerKey B) ∷ ds) is none = absurd (true≢false none)
    by (d ∷ ds) is none = absurd (true≢false (sym is))

pub a_has_the_key_first : AHasTheKeyFirst
a_has_the_key_first start turns mild p here alive clear = (high, key)
  where
    first_path : IsFirstPath start p
    first_path = first start mild turns p here

    high : 3 ≤ stage p.a.tcp.state
    high = ⊎_elim
        (λ still. absurd (let few = opening_low p still in let up = past_if start mild turns p here clear in omega (arith, few, up)))
        (λ past. past A)
        (living_ends_open_or_are_past start turns mild p here alive)

    clears : (t : Side) → Clears t p.agenda (end_at t p)
    clears = (subst (Of (λ (x : PathState Carried). PathClears x)) here.is ((each_clears values start turns).each 2 here.crew here.there)) first_path.first

    none : list_any (answered_at B) p.agenda ≡ false
    none = not_so (list_any (answered_at B) p.agenda) (λ is. both_ways p.b.modes.clear
        ((clears B).unclear is) clear)

    key : is_some p.a.modes.peer_key ≡ true
    key = ⊎_elim (λ has. has) (λ treats. absurd (both_ways p.b.modes.clear ((unsure_at start mild turns p here).unsure alive (treats_a p treats none)) clear))
        (((subst (Of HasKeys) here.is ((keys_are_known start turns mild).each 2 here.crew here.there)) first_path.first).a (let up = high in omega (arith, up)) (alive.living A))
