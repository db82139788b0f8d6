-- A copy of a record that the peer has passed lies outside its window, so that the peer owes an acknowledgement as it comes (RFC 9293, section
-- 3.10.7.4).
use Rattle.std.proofs.Common.{◌≡◌, refl, sym, subst, ap, ◌∙◌, ◌⊎◌, inl, inr, ⊎_elim, ℕ, ◌+◌, ◌≤◌, arith, true, false, List, ◌∷◌, length, Some}
use Rattle.std.proofs.lemmas.Bool.{both_ways}
use Rattle.sides.specs.declared.side.Side.{Side}
use Rattle.sides.specs.declared.side.Side.TheVariants.{A}
use Rattle.sides.specs.Side.{peer}
use Rattle.path_segments.specs.Spelled.{PlainSegment}
use Rattle.link_model.specs.Steps.{changed, due_of}
use Rattle.subflow_send.specs.Records.{Record, end_of, occupied}
use Rattle.subflow_send.specs.declared.record.RecordKind.TheVariants.{Data}
use Rattle.subflow_tcp.specs.declared.handshake.State.{State as EndPhase}
use Rattle.subflow_tcp.specs.declared.handshake.State.TheVariants as phase
use Rattle.subflow_tcp.specs.States.{is_dead, is_half_open}
use Rattle.subflow_tcp.specs.declared.verdicts.Meaning.TheVariants as means
use Rattle.path_agenda.specs.declared.duty.Duty.{Duty}
use Rattle.path_agenda.specs.declared.duty.Duty.TheVariants as duties
use Rattle.path_agenda.specs.declared.duty.StepDuty.TheVariants as step_duties
use Rattle.path_core.specs.Events.{next_event}
use Rattle.path_core.specs.Profile.{Profile}
use Rattle.path_core.specs.Shown.{AltersNothing}
use Rattle.path_core.specs.State.{PathState, end_at}
use Rattle.path_core.specs.Values.{Carried, values}
use Rattle.path_core.specs.declared.events.Event.TheVariants as happenings
use Rattle.world_laws.specs.NeverFalls.{StripsNothing}
use Rattle.world_laws.specs.Openings.{Start}
use Rattle.world_laws.specs.RoundDone.{reached}
use Rattle.world_laws.specs.Worlds.{Turn, WorldState, after_turn}
use Rattle.whole_paths.specs.AgendaSteps.{event_side}
use Rattle.whole_paths.specs.Arrivals.{Arrival, ComesAgain, IsMappedPiece}
use Rattle.whole_paths.specs.AsFar.{stage}
use Rattle.whole_paths.specs.ComingCopies.{CopiesCount, PathsHear}
use Rattle.whole_paths.specs.Copies.{CopiesGoOn, GoesOnItsWay, IsUnderWay}
use Rattle.whole_paths.specs.Copies.{GoesOnItsWay as copy}
use Rattle.whole_paths.specs.Exchanges.{IsSentWhole}
use Rattle.whole_paths.specs.Expiries.{IsSaidAt}
use Rattle.whole_paths.specs.Mending.{ComesBy, IsOpenTurn}
use Rattle.whole_paths.specs.OpenCourses.{IsOpenNow}
use Rattle.whole_paths.proofs.Arrivals.{each_copy_arrives, each_mapped_record_is_a_piece, each_piece_comes_in_order, sender_of, first_joins}
use Rattle.whole_paths.proofs.ComingCopies.{each_copy_that_comes_counts}
use Rattle.whole_paths.proofs.Copies.{copies_leave}
use Rattle.whole_paths.proofs.Exchanges.{Known, below_limit}
use Rattle.whole_paths.proofs.Flying.{Frames, FramesStay, frames_stay}
use Rattle.whole_paths.proofs.OpenTurns.{with_both}
use Rattle.whole_paths.proofs.RecordWaits.{last}
use Rattle.whole_paths.proofs.RecordsWell.{known, numbered}

pub whole_open : (state : EndPhase) → 3 ≤ stage state → is_half_open state ≡ false
whole_open phase.SynReceived high = absurd (omega (arith, high))
whole_open _ high = refl

module _ (start : Start) (turns : List Turn) (turn : Turn) (h : IsOpenTurn start turns turn) (s : Side) (r : Record) (data_is : r.kind ≡ Data) (by_then : ℕ) (c : ComesBy s r by_then h.before.path)
    (passed : end_of r ≤ (end_at (peer s) h.before.path).tcp.recv.edge) where
  abbrev p : PathState Carried
  p = h.before.path

  abbrev q : PathState Carried
  q = h.after.path

  abbrev t : Side
  t = peer s

  abbrev w : WorldState Carried
  w = reached values start turns

  abbrev Goes : Type 0
  Goes = ComesBy s r by_then q ⊎ ((end_at t q).tcp.due.ack ≡ true)

  after : IsOpenNow (after_turn values turn w)
  after = subst (λ (u : WorldState Carried). IsOpenNow u) (last start h.mild turns turn) h.after

  facts : Known p
  facts = known start h.mild turns turn h.before after

  frames : Frames p q
  frames = with_both start turns turn h FramesStay (frames_stay values w turn 2 h.before.here.crew h.before.here.there)

  counts : CopiesCount p q
  counts = with_both start turns turn h PathsHear (each_copy_that_comes_counts w turn 2 h.before.here.crew h.before.here.there)

  -- it is under way still
  still : IsUnderWay c.copy q → ComesBy s r by_then q
  still on = record {
    copy = c.copy;
    there = on;
    of_it = record {
      to = c.of_it.to;
      segment = c.of_it.segment;
      of_it = c.of_it.of_it;
      sender = c.of_it.sender;
      says = subst (λ z. IsSaidAt z s r c.of_it.sender c.of_it.segment) (sym frames.profile) c.of_it.says;
      stripped = c.of_it.stripped;
      altered = c.of_it.altered;
      whole = λ strips. c.of_it.whole (subst StripsNothing frames.lines strips);
      plain = λ alters. c.of_it.plain (subst AltersNothing frames.lines alters);
      carried = subst (λ (z : Profile). c.copy.carried ≡ changed (values.strips z.spelling s) (values.alters z.spelling s) c.of_it.stripped c.of_it.altered (values.makes z.spelling s c.of_it.segment)) (sym frames.profile) c.of_it.carried;
    };
    whole = subst (λ z. IsSentWhole z s r c.of_it.sender c.of_it.stripped c.of_it.altered) (sym frames.profile) c.whole;
    soon = c.soon;
  }

  module _ (others : List Duty) (first : p.agenda ≡ duties.Step step_duties.Events ∷ others) (next : next_event p ≡ Some (happenings.Arrives (due_of c.copy))) where
    abbrev x : PlainSegment
    x = c.of_it.segment

    comes_now : Arrival x p
    comes_now = each_copy_arrives s r p c.copy c.of_it c.whole.unstripped c.whole.unaltered c.there (numbered start h.mild turns turn h.before after c.copy c.there) facts.alike others first next

    due_to : comes_now.due.to ≡ t
    due_to = sym (ap event_side comes_now.next) ∙ ap event_side next ∙ c.of_it.to

    piece : IsMappedPiece p.profile (peer comes_now.due.to) x
    piece = subst (λ y. IsMappedPiece p.profile y x) (sym (ap peer due_to ∙ sender_of s)) (each_mapped_record_is_a_piece p.profile s r c.of_it.sender x c.whole.mapped c.of_it.of_it c.of_it.says)

    again : ComesAgain p
    again = (each_piece_comes_in_order x p comes_now (first_joins comes_now.due.to p h.before.is_open.first) piece).1 (record {
      opened = subst (λ u. 2 ≤ stage (end_at u p).tcp.state) (sym due_to) (let past = h.before.is_open.past t in omega (arith, past));
      living = subst (λ u. is_dead (end_at u p).tcp.state ≡ false) (sym due_to) (h.before.is_open.living t);
      below_limit = below_limit p facts comes_now.due.to;
      passed = subst (λ u. x.position + length x.payload ≤ (end_at u p).tcp.recv.edge) (sym due_to) ends;
    })
      where
        ends : x.position + length x.payload ≤ (end_at t p).tcp.recv.edge
        ends =
            let at = c.of_it.of_it.position in let size = ap (λ (o : List ℕ). length o) c.of_it.of_it.payload in
            let end : end_of r ≡ r.pos + length r.piece = ap (λ k. r.pos + occupied k r.piece) data_is in omega (arith, passed, at, size, end)

    again_to : again.copy.due.to ≡ t
    again_to = sym (ap event_side again.copy.next) ∙ ap event_side next ∙ c.of_it.to

    arrives : Goes
    arrives = ⊎_elim
        (λ same. inl (still (subst (IsUnderWay c.copy) (sym same) c.there)))
        (λ due. inr (subst (λ u. (end_at u q).tcp.due.ack ≡ true) again_to due))
        (counts.acks again.copy means.Outside again.outside refl (λ same. let other : means.Outside ≡ means.RepeatedSyn = same in cc) (subst (λ u. is_half_open (end_at u p).tcp.state ≡ false) (sym again_to) (whole_open (end_at t p).tcp.state (h.before.is_open.past t))))

  pub comes_again : Goes
  comes_again = by (with_both start turns turn h CopiesGoOn (copies_leave values w turn 2 h.before.here.crew h.before.here.there) c.copy c.there)
    where
      by : GoesOnItsWay c.copy p q → Goes
      by (copy.on on) = inl (still on)
      by (copy.arrives others first next) = arrives others first next
      by (copy.dies line next is dead) = absurd (both_ways (is_dead q.a.tcp.state) (h.after.is_open.living A) dead)
