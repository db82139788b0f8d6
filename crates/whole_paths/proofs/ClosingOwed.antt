-- What wants an acknowledgement is owed one.
use Rattle.std.proofs.Common.{◌≡◌, refl, sym, subst, ap, ◌∙◌, ◌⊎◌, inl, inr, ℕ, ◌<◌, Bool, true, false, true≢false, if◌then◌else◌, List, [], ◌∷◌}
use Rattle.std.proofs.lemmas.Bool.{lt-ltb}
use Rattle.path_segments.specs.Heard.{HeardSegment}
use Rattle.sides.specs.declared.side.Side.{Side}
use Rattle.subflow_tcp.specs.declared.dues.Due.{Due}
use Rattle.subflow_tcp.specs.declared.verdicts.Meaning.TheVariants as means
use Rattle.subflow_tcp.specs.Dues.{owing_ack}
use Rattle.subflow_tcp.specs.Segments.{Copy, occupied}
use Rattle.subflow_tcp.specs.State.{EndState}
use Rattle.subflow_tcp.specs.Taking.{after_established, after_heard_ack, after_hearing, after_occupying, after_payload}
use Rattle.actor_desk.specs.declared.ask.Reply.{Reply}
use Rattle.actor_desk.specs.Words.{is_nil, pick}
use Rattle.path_agenda.specs.declared.duty.Duty.{Duty}
use Rattle.path_agenda.specs.declared.duty.Duty.TheVariants as duties
use Rattle.path_agenda.specs.declared.duty.StepDuty.TheVariants as step_duties
use Rattle.path_agenda.specs.declared.heard.Heard.{Heard}
use Rattle.path_core.specs.Arrival.{after_judged, copy_of, owing_if, with_payload}
use Rattle.path_core.specs.Codec.{Codec}
use Rattle.path_core.specs.Duties.{answered}
use Rattle.path_core.specs.End.{PathEnd}
use Rattle.path_core.specs.MpJoin.{is_joined}
use Rattle.path_core.specs.OptionsIn.{items_of, options_heard, hint_of, owes_by}
use Rattle.path_core.specs.State.{PathState, end_at, with_agenda}
use Rattle.path_core.specs.Steps.{takes, next_round}
use Rattle.path_core.specs.declared.judged.Judged.{Judged}
use Rattle.path_core.specs.declared.judged.Judged.TheVariants as judged
use Rattle.world_laws.specs.declared.member.Member.TheVariants.{App, Path}
use Rattle.world_laws.specs.Actors.{Actor, member_takes, member_next, is_over}
use Rattle.world_laws.specs.StampedBooks.{answer_to}
use Rattle.whole_paths.specs.Brought.{Brings}
use Rattle.whole_paths.specs.ClosingOwed.{WantsAnswer, OwesAnAnswer, PathsOwe, WhatWantsAnAnswerIsOwedOne}
use Rattle.whole_paths.proofs.Agendas.{own_end}
use Rattle.whole_paths.proofs.Bringing.{coming_by, comes_so, first_so}
use Rattle.whole_paths.proofs.Paying.{settled_due}
use Rattle.whole_paths.proofs.Turns.{turn_each}

-- by its positions, or by what it says
pub owing_due : (wants : Bool) (x : EndState) (c : Copy) → (0 < occupied c) ⊎ (wants ≡ true) → (owing_if wants (after_occupying c x)).due.ack ≡ true
owing_due true x c either = refl
owing_due false x c (inl more) = ap (λ b. (if b then owing_ack x.due else x.due).ack) (lt-ltb 0 (occupied c) more)
owing_due false x c (inr wants) = absurd (true≢false (sym wants))

module _ {C : Type 0} where
  module _ (k : Codec C) (ds : List Duty) (r : Reply) (p : PathState C) where
    abbrev from : Duty → PathState C
    from d = with_agenda (d ∷ ds) p

    abbrev Owed : (d : Duty) → Brings k (from d) → Type 0
    Owed d b = WantsAnswer k (from d) b → (end_at b.copy.due.to (takes k r (from d))).tcp.due.ack ≡ true

    owed : (b : Brings k (from (duties.Step step_duties.Events))) → Owed (duties.Step step_duties.Events) b
    owed b wants = ap (λ (d : Due). d.ack) (settled_due after.agenda after to) ∙ comes_so (λ q. (end_at to q).tcp.due.ack ≡ true) k ds r p b.copy
        (subst (λ (verdict : Judged). (pick to (pick to (after_judged p.profile to now said verdict own) p.a) (pick to p.b (after_judged p.profile to now said verdict own))).tcp.due.ack ≡ true) (sym b.taken)
        (subst (λ (f : PathEnd). f.tcp.due.ack ≡ true) (sym (own_end to taken p.a p.b)) (owing_due (owes_by (means.Taken b.position b.acknowledged) items) heard (copy_of said) wants)))
      where
        to : Side
        to = b.copy.due.to

        own : PathEnd
        own = end_at to p

        said : HeardSegment
        said = options_heard own b.copy.segment

        after : PathState C
        after = answered k (duties.Step step_duties.Events) r (from (duties.Step step_duties.Events))

        now : ℕ
        now = (coming_by ds p b.copy).clock

        items : List Heard
        items = items_of (is_joined p.profile) to said

        taken : PathEnd
        taken = after_judged p.profile to now said (judged.As (means.Taken b.position b.acknowledged)) own

        ready : EndState
        ready = after_established (after_hearing (after_payload b.position (hint_of items) (copy_of said) (with_payload (means.Taken b.position b.acknowledged) b.copy.segment.payload own.tcp)))

        heard : EndState
        heard = after_heard_ack b.acknowledged (hint_of items) now (copy_of said) ready

    answer_owes : (d : Duty) → OwesAnAnswer k (from d) (takes k r (from d))
    answer_owes d = record {
      owes = λ b wants. inr (subst (λ d. (b : Brings k (from d)) → Owed d b) (sym (first_so d (duties.Step step_duties.Events) ds b.copy.others b.copy.first)) owed b wants);
    }

  path_stays : (k : Codec C) (p : PathState C) → OwesAnAnswer k p p
  path_stays k p = record { owes = λ b wants. inl refl }

  takes_owes : (k : Codec C) (r : Reply) (p : PathState C) → OwesAnAnswer k p (takes k r p)
  takes_owes k r p = by p.agenda
    where
      by : (ds : List Duty) → let x : PathState C = with_agenda ds p in OwesAnAnswer k x (takes k r x)
      by [] = path_stays k (with_agenda [] p)
      by (d ∷ ds) = answer_owes k ds r p d

  next_owes : (k : Codec C) (p : PathState C) → is_nil p.agenda ≡ true → OwesAnAnswer k p (next_round p)
  next_owes k p over = record { owes = λ b wants. absurd (true≢false (sym over ∙ ap is_nil b.copy.first)) }

  -- ---- the world

  member_owes : (k : Codec C) (r : Reply) (m : Actor C) → PathsOwe k m (member_takes k r m)
  member_owes k r (App a) = tt
  member_owes k r (Path p) = takes_owes k r p

  member_begins : (k : Codec C) (m : Actor C) → is_over m ≡ true → PathsOwe k m (member_next m)
  member_begins k (App a) over = tt
  member_begins k (Path p) over = next_owes k p over

  member_stays : (k : Codec C) (m : Actor C) → PathsOwe k m m
  member_stays k (App a) = tt
  member_stays k (Path p) = path_stays k p

  pub what_wants_an_answer_is_owed_one : (k : Codec C) → WhatWantsAnAnswerIsOwedOne k
  what_wants_an_answer_is_owed_one k = λ w turn. turn_each k (λ c d. PathsOwe k c.member d.member) (λ c. member_stays k c.member) (λ ask books c. member_owes k (answer_to books ask) c.member)
      (λ stamp c over. member_begins k c.member over) turn w
