-- Which records of data a turn sends: each that is sent afterwards was sent before, or the link takes its segment.
use Rattle.std.proofs.Common.{◌≡◌, refl, subst, ap, ⊎_elim, ℕ, ◌+◌, ◌<◌, ◌≤◌, arith, false, Option, Some, None, le_refl}
use Rattle.std.specs.List.{slice_get}
use Rattle.sides.specs.declared.side.Side.{Side}
use Rattle.path_segments.specs.Spelled.{PlainSegment}
use Rattle.link_model.specs.State.{LinkState}
use Rattle.subflow_send.specs.declared.record.RecordKind.TheVariants.{Data}
use Rattle.subflow_send.specs.Records.{Record}
use Rattle.actor_desk.specs.declared.ask.Reply.{Reply}
use Rattle.path_agenda.specs.declared.duty.Duty.{Duty}
use Rattle.path_agenda.specs.declared.duty.Duty.TheVariants as duties
use Rattle.path_agenda.specs.declared.duty.SendDuty.TheVariants as send_duties
use Rattle.path_agenda.specs.declared.duty.SilentDuty.TheVariants as silent_duties
use Rattle.path_agenda.specs.declared.duty.StepDuty.TheVariants as step_duties
use Rattle.path_core.specs.Codec.{Codec}
use Rattle.path_core.specs.Duties.{passed, answered}
use Rattle.path_core.specs.Events.{next_event, happens_if}
use Rattle.path_core.specs.Handover.{handed}
use Rattle.path_core.specs.Looking.{Hands, HandsOrTellsNone, first_sends, segment_sent}
use Rattle.path_core.specs.State.{PathState, end_at}
use Rattle.path_core.specs.Steps.{takes, next_round}
use Rattle.path_core.specs.declared.events.Event.{Event}
use Rattle.path_core.proofs.SegmentsTold.{each_segment_is_told}
use Rattle.world_laws.specs.declared.member.Member.TheVariants.{App, Path}
use Rattle.world_laws.specs.Actors.{Actor, ActorCrew, member_takes, member_next}
use Rattle.world_laws.specs.StampedBooks.{answer_to}
use Rattle.world_laws.specs.Worlds.{WorldState, Turn, after_turn}
use Rattle.world_laws.specs.Writes.{OnlyAt, PathView, Writes, side_of, writes}
use Rattle.world_laws.proofs.Writes.Paths.{writes_no_more, passes_no_more}
use Rattle.world_laws.proofs.Writes.Steps.{Lasts, unwritten, takes_lasts, begins_lasts}
use Rattle.whole_paths.specs.Expiries.{IsSegmentOf, IsSaidAt}
use Rattle.whole_paths.specs.Mending.{IsRecordOf, WasSent}
use Rattle.whole_paths.specs.RecordsGo.{IsOneSo}
use Rattle.whole_paths.proofs.Timing.{happens_clock}
use Rattle.whole_paths.proofs.RecordsGo.{next_was, still_was, takes_row}
use Rattle.whole_paths.proofs.Saying.{ToSend}
use Rattle.whole_paths.proofs.Turns.{turn_each}

module _ {C : Type 0} where
  -- how a record comes to be sent
  pub data Marks (k : Codec C) (s : Side) (t : Record) (p : PathState C) (link : LinkState C) : Type 0 where
    before : WasSent (end_at s p) t → Marks k s t p link
    now : (x : PlainSegment) → IsSegmentOf t x → IsSaidAt p.profile s t (end_at s p) x → link ≡ handed k s x p → Marks k s t p link

  -- ---- a turn

  abbrev Later : PathState C → PathState C → Type 0
  Later p q = p.clock ≤ q.clock

  no_event : (s : Side) (w : Writes) (p q : PathState C) → w.events ≡ false → OnlyAt s w p q → Later p q
  no_event s w p q is x = let same = unwritten w.events p.clock q.clock is (ap (λ (v : PathView C). v.clock) x.same) in omega (arith, same)

  happens_later : (k : Codec C) (o : Option Event) (r : Reply) (p : PathState C) → Later p (happens_if k o r p)
  happens_later k None r p = le_refl p.clock
  happens_later k (Some event) r p = let clock = happens_clock k event r p in omega (arith, clock)

  answered_later : (k : Codec C) (d : Duty) (r : Reply) (p : PathState C) → Later p (answered k d r p)
  answered_later k (duties.Step step_duties.Events) r p = happens_later k (next_event p) r p
  answered_later k (duties.Send (send_duties.Update s)) r p = le_refl p.clock
  answered_later k (duties.Silent d) r p = le_refl p.clock
  answered_later k d r p = no_event (side_of d) (writes d) p _ refl (writes_no_more k d r p)

  passed_later : (d : Duty) (p : PathState C) → Later p (passed d p)
  passed_later (duties.Step step_duties.Events) p = le_refl p.clock
  passed_later (duties.Send (send_duties.Update s)) p = le_refl p.clock
  passed_later (duties.Silent (silent_duties.Timer s)) p = le_refl p.clock
  passed_later d p = no_event (side_of d) (writes d) p _ refl (passes_no_more d p)

  later_lasts : Lasts Later
  later_lasts = record { agenda = λ ds p. le_refl p.clock; chains = λ p q r x y. omega (arith, x, y); passes = λ d p. passed_later d p }

  -- the clock goes on, and each record of data that is sent afterwards was, or goes, once the SYN is acknowledged
  pub record EachMarks (k : Codec C) (p q : PathState C) : Type 0 where
    pub clock : p.clock ≤ p.until → p.clock ≤ q.clock
    pub marks : (s : Side) → 0 < (end_at s p).tcp.send.una → (t : Record) → IsRecordOf (end_at s q) t → t.kind ≡ Data → t.sending.unsent ≡ false → Marks k s t p q.link

  takes_marks : (k : Codec C) (r : Reply) (p : PathState C) → EachMarks k p (takes k r p)
  takes_marks k r p = record {
    clock = λ low. takes_lasts Later later_lasts k r p (λ d. answered_later k d r p);
    marks = λ s some t h data_is sent. ⊎_elim (λ was. before was) (λ goes. taken s t (first_sends p.agenda p) (each_segment_is_told k p) goes) (takes_row k r p s some t h data_is sent);
  }
    where
      taken : (s : Side) (t : Record) (o : Option ToSend) → HandsOrTellsNone k p o → IsOneSo o (λ x. (x.from ≡ s) × IsSegmentOf t (segment_sent p x) × IsSaidAt p.profile s t (end_at s p) (segment_sent p x))
          → Marks k s t p (takes k r p).link
      taken s t None told goes = absurd goes
      taken s t (Some x) told goes = let hands : Hands k p x = told in
          now (segment_sent p x) goes.1 goes.2 (subst (λ u. (takes k r p).link ≡ handed k u (segment_sent p x) p) goes.0 (hands.taken r))

  next_marks : (k : Codec C) (p : PathState C) → EachMarks k p (next_round p)
  next_marks k p =
      let begun : PathState C = record p { clock = p.until; until = p.until + 100 } in record {
        clock = λ low. (let more = begins_lasts Later later_lasts begun in omega (arith, low, more));
        marks = λ s some t h data_is sent. before (next_was p s t h data_is sent);
      }

  -- ---- the world

  abbrev pub MarksTo : Codec C → Actor C → Actor C → Type 0
  MarksTo k (Path p) (Path q) = EachMarks k p q
  MarksTo k (App a) (App b) = Unit {0}
  MarksTo k _ _ = ⊥

  member_marks : (k : Codec C) (r : Reply) (m : Actor C) → MarksTo k m (member_takes k r m)
  member_marks k r (App a) = tt
  member_marks k r (Path p) = takes_marks k r p

  member_begins : (k : Codec C) (m : Actor C) → MarksTo k m (member_next m)
  member_begins k (App a) = tt
  member_begins k (Path p) = next_marks k p

  member_stays : (k : Codec C) (m : Actor C) → MarksTo k m m
  member_stays k (App a) = tt
  member_stays k (Path p) = record { clock = λ low. le_refl p.clock; marks = λ s some t h data_is sent. before (still_was p s t h data_is sent) }

  pub turn_marks : (k : Codec C) (w : WorldState C) (turn : Turn) (actor : ℕ) (c : ActorCrew C) → slice_get w.crew actor ≡ Some c
      → (d : ActorCrew C) × (slice_get (after_turn k turn w).crew actor ≡ Some d) × MarksTo k c.member d.member
  turn_marks k w turn = turn_each k (λ c d. MarksTo k c.member d.member) (λ c. member_stays k c.member) (λ ask books c. member_marks k (answer_to books ask) c.member)
      (λ stamp c over. member_begins k c.member) turn w
