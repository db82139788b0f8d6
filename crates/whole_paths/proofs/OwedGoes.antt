-- What an end owes stays owed by each duty that sends nothing, and goes by the one that answers.
use Rattle.std.proofs.Common.{◌≡◌, refl, sym, subst, ap, ◌∙◌, inl, inr, ◌⊎◌, ⊎_elim, ◌&&◌, Bool, true, false, true≢false, if◌then◌else◌, Option, Some, None, List, [], ◌∷◌}
use Rattle.std.specs.List.{list_any, slice_get}
use Rattle.std.proofs.lemmas.Bool.{and_parts, both_ways, or_parts}
use Rattle.std.proofs.lemmas.Option.{same_Some}
use Rattle.sides.specs.declared.side.Side.{Side}
use Rattle.sides.specs.declared.side.Side.TheVariants.{A, B}
use Rattle.subflow_tcp.specs.States.{is_dead, is_waiting}
use Rattle.subflow_tcp.specs.declared.dues.Due.{Due}
use Rattle.actor_desk.specs.declared.ask.Reply.{Reply}
use Rattle.path_agenda.specs.declared.duty.Duty.{Duty}
use Rattle.path_agenda.specs.declared.duty.Duty.TheVariants as duties
use Rattle.path_agenda.specs.declared.duty.AskDuty.TheVariants as ask_duties
use Rattle.path_agenda.specs.declared.duty.SendDuty.TheVariants as send_duties
use Rattle.path_agenda.specs.declared.duty.SilentDuty.TheVariants as silent_duties
use Rattle.path_agenda.specs.declared.duty.StepDuty.TheVariants as step_duties
use Rattle.path_agenda.specs.declared.heard.Heard.{Heard}
use Rattle.path_agenda.specs.declared.heard.Heard.TheVariants as says
use Rattle.path_core.specs.Deliver.{after_pieces}
use Rattle.path_core.specs.DssIn.{counts, is_clash, with_data_fin, with_learned, with_skipped}
use Rattle.path_core.specs.Duties.{answered, passed}
use Rattle.path_core.specs.End.{PathEnd, died}
use Rattle.path_core.specs.Fallback.{with_plain_ack}
use Rattle.path_core.specs.Handover.{handed}
use Rattle.path_core.specs.Looking.{Hands, HandsOrTellsNone, first_sends, segment_sent}
use Rattle.path_core.specs.OptionsOut.{ack_said, syn_ack_said}
use Rattle.path_core.specs.Profile.{Profile}
use Rattle.path_core.specs.State.{PathState, end_at, goes_on, with_agenda, with_end}
use Rattle.path_core.specs.Steps.{next_round, takes}
use Rattle.path_core.specs.Timer.{with_timer_settled}
use Rattle.path_core.specs.Treating.{answered_heard, answered_item, item_of, item_passed}
use Rattle.path_core.specs.Values.{Carried, values}
use Rattle.path_core.proofs.SegmentsTold.{each_segment_is_told}
use Rattle.world_laws.specs.declared.member.Member.TheVariants.{App, Path}
use Rattle.world_laws.specs.Actors.{Actor, ActorCrew, is_over, member_next, member_takes}
use Rattle.world_laws.specs.Members.{HoldsOfKind}
use Rattle.world_laws.specs.RoundDone.{reached}
use Rattle.world_laws.specs.StampedBooks.{answer_to}
use Rattle.world_laws.specs.Worlds.{WorldState, after_turn}
use Rattle.world_laws.specs.Writes.{EndView, EndWrites, Only, OnlyAt, Writes, nothing, side_of, writes}
use Rattle.world_laws.proofs.Falls.FailedChecks.{fail_answered_so, infinite_came_so}
use Rattle.world_laws.proofs.Writes.Paths.{passes_no_more, writes_no_more}
use Rattle.world_laws.proofs.Writes.Steps.{Lasts, both_ends, settled_lasts, unwritten}
use Rattle.whole_paths.specs.AgendaSteps.{is_silent}
use Rattle.whole_paths.specs.Mild.{is_harsh}
use Rattle.whole_paths.specs.OwedGoes.{IsReply, OwedGoes, Owes, WhatIsOwedGoes}
use Rattle.whole_paths.specs.OwedGoes.{OwedGoes as owed}
use Rattle.whole_paths.specs.OwedGoes.{IsReply as reply}
use Rattle.whole_paths.proofs.Agendas.{gone_end}
use Rattle.whole_paths.proofs.Copies.{DeadStays, dead_last}
use Rattle.whole_paths.proofs.Flying.{takes_frames}
use Rattle.whole_paths.proofs.InTime.{is_event, nil_so}
use Rattle.whole_paths.proofs.MildDeaths.{IsLiving, living_path}
use Rattle.whole_paths.proofs.NoResets.{is_of_the_dead}
use Rattle.whole_paths.proofs.Owing.{Ahead, Ready, Sends, Stands, each_stands}
use Rattle.whole_paths.proofs.Owing.{Ready as ready}
use Rattle.whole_paths.proofs.Saying.{ToSend}
use Rattle.whole_paths.proofs.Turns.{turn_each}
use Rattle.whole_paths.proofs.Unbroken.{Known, no_plain_ack}

-- ---- an end that owes as much

pub record OwesAsMuch (e f : PathEnd) : Type 0 where
  pub same : f.tcp.due ≡ e.tcp.due

as_much : (e f : PathEnd) → f.tcp.due ≡ e.tcp.due → OwesAsMuch e f
as_much e f same = record { same = same }

only_due : (w : EndWrites) (e f : PathEnd) → w.due ≡ false → Only w e f → OwesAsMuch e f
only_due w e f none x = as_much e f (unwritten w.due e.tcp.due f.tcp.due none (ap (λ (v : EndView). v.due) x.same))

item_due : (s : Side) (o : Option Heard) (e : PathEnd) → OwesAsMuch e (item_passed s o e)
item_due s None e = as_much _ _ refl
item_due s (Some says.Dss) e = as_much _ _ refl
item_due s (Some (says.Mapping fin)) e = elim (counts e) as (λ b. OwesAsMuch e (if b then with_learned e else with_skipped e)) [ true ↦ as_much _ _ refl | false ↦ as_much _ _ refl ]
item_due s (Some (says.DataFin place)) e = elim (counts e) as (λ b. OwesAsMuch e (if b then with_data_fin place e else e)) [ true ↦ as_much _ _ refl | false ↦ as_much _ _ refl ]
item_due s (Some _) e = as_much _ _ refl

-- ---- a path

pub record BothDue (p q : PathState Carried) : Type 0 where
  pub a : OwesAsMuch p.a q.a
  pub b : OwesAsMuch p.b q.b

side : (s : Side) (e : PathEnd) (p q : PathState Carried) → OwesAsMuch (end_at s p) e → q.a ≡ (goes_on s e [] p).a → q.b ≡ (goes_on s e [] p).b → BothDue p q
side A e p q x same_a same_b = record { a = subst (OwesAsMuch p.a) (sym same_a) x; b = subst (OwesAsMuch p.b) (sym same_b) (as_much p.b p.b refl) }
side B e p q x same_a same_b = record { a = subst (OwesAsMuch p.a) (sym same_a) (as_much p.a p.a refl); b = subst (OwesAsMuch p.b) (sym same_b) x }

both_rest : (p q : PathState Carried) → q.a ≡ p.a → q.b ≡ p.b → BothDue p q
both_rest p q same_a same_b = record { a = subst (OwesAsMuch p.a) (sym same_a) (as_much p.a p.a refl); b = subst (OwesAsMuch p.b) (sym same_b) (as_much p.b p.b refl) }

plain : (s : Side) (w : Writes) (p q : PathState Carried) → w.own.due ≡ false → w.other ≡ nothing → OnlyAt s w p q → BothDue p q
plain s w p q own none x = record { a = h.0; b = h.1 }
  where
    h : OwesAsMuch p.a q.a × OwesAsMuch p.b q.b
    h = both_ends (λ e f. OwesAsMuch e f) s w p q (λ e f only. only_due w.own e f own only)
        (λ e f only. only_due nothing e f refl (subst (λ v. Only v e f) none only)) x

either_due : (b : Bool) (q r p : PathState Carried) → b ≡ false → BothDue p r → BothDue p (if b then q else r)
either_due true q r p is x = absurd (true≢false is)
either_due false q r p is x = x

thing_due : (s : Side) (item : Heard) (r : Reply) (p : PathState Carried) → is_clash (end_at s p) ≡ false → BothDue p (answered_heard values s item r p)
thing_due s (says.DataAck next window) r p agrees = side s _ p _ (as_much _ _ refl) refl refl
thing_due s (says.Mapping fin) r p agrees = either_due (is_clash (end_at s p)) _ _ p agrees (side s _ p _ (as_much _ _ refl) refl refl)
thing_due s (says.DataFin place) r p agrees = side s _ p _ (as_much _ _ refl) refl refl
thing_due s (says.InfiniteMapping place position) r p agrees =
    let e = end_at s p in side s _ p _ (infinite_came_so (λ f. OwesAsMuch e f) place position r e (λ other. as_much e _ refl)) refl refl
thing_due s (says.Keys own peer) r p agrees = side s _ p _ (as_much _ _ refl) refl refl
thing_due s (says.Notice notice) r p agrees = side s _ p _ (as_much _ _ refl) refl refl
thing_due s says.Fail r p agrees = fail_answered_so (BothDue p) s r p (side s _ p _ (as_much _ _ refl) refl refl) (side s _ p _ (as_much _ _ refl) refl refl)
thing_due s _ r p agrees = both_rest p _ refl refl

things_due : (s : Side) (item : Option Heard) (r : Reply) (p : PathState Carried) → is_clash (end_at s p) ≡ false → BothDue p (answered_item values s item r p)
things_due s None r p agrees = both_rest p _ refl refl
things_due s (Some item) r p agrees = thing_due s item r p agrees

-- an end of the path is dead
record IsGone (p : PathState Carried) : Type 0 where
  side : Side
  dead : is_dead (end_at side p).tcp.state ≡ true

-- a duty that is silent, comes first and is known leaves what both owe, or one of them dies
silent_due : (d : Duty) (r : Reply) (p : PathState Carried) → Known d p → is_waiting p.a.tcp.state ≡ false → is_silent d ≡ true → IsGone (answered values d r p) ⊎ BothDue p (answered values d r p)
silent_due (duties.Ask ask_duties.JoinAgain) r p known opens silent = absurd (both_ways _ opens (and_parts (is_waiting p.a.tcp.state) _ known.stood).0)
silent_due (duties.Ask (ask_duties.LeaveNoted s)) r p known opens silent = inl (record { side = s; dead = gone_end s (died (end_at s p)) p.a p.b refl })
silent_due (duties.Ask (ask_duties.JoinHeard s)) r p known opens silent = absurd (true≢false (sym silent))
silent_due (duties.Step (step_duties.Heard s index)) r p known opens silent = inr (things_due s (item_of index (end_at s p)) r p (known.agrees s))
silent_due (duties.Step (step_duties.PlainAck s)) r p known opens silent = absurd (both_ways _ (no_plain_ack p.profile (end_at s p) (known.acked refl s)) known.stood)
silent_due (duties.Step (step_duties.Unmapped s)) r p known opens silent = absurd (known.mapped s refl)
silent_due (duties.Step step_duties.Events) r p known opens silent = absurd (true≢false (sym silent))
silent_due (duties.Step (step_duties.Data s)) r p known opens silent = absurd (true≢false (sym silent))
silent_due (duties.Step (step_duties.Look s)) r p known opens silent = inr (side s _ p _ (as_much _ _ refl) refl refl)
silent_due (duties.Silent d) r p known opens silent = inr (both_rest p _ refl refl)
silent_due (duties.Send d) r p known opens silent = absurd (true≢false (sym silent))
silent_due duties.End r p known opens silent = inr (both_rest p _ refl refl)
silent_due d r p known opens silent = let q : PathState Carried = answered values d r p in inr (plain (side_of d) (writes d) p q refl refl (writes_no_more values d r p))

own : (s : Side) (e : PathEnd) (p : PathState Carried) → OwesAsMuch (end_at s p) e → BothDue p (with_end s e p)
own A e p x = record { a = x; b = as_much p.b p.b refl }
own B e p x = record { a = as_much p.a p.a refl; b = x }

passed_due : (d : Duty) (p : PathState Carried) → BothDue p (passed d p)
passed_due (duties.Step (step_duties.Heard s index)) p = own s (item_passed s (item_of index (end_at s p)) (end_at s p)) p (item_due s (item_of index (end_at s p)) (end_at s p))
passed_due (duties.Step (step_duties.PlainAck s)) p = own s (with_plain_ack (end_at s p)) p (as_much _ _ refl)
passed_due (duties.Step (step_duties.Unmapped s)) p = own s (after_pieces (end_at s p)) p (as_much _ _ refl)
passed_due (duties.Step step_duties.Events) p = both_rest p p refl refl
passed_due (duties.Step (step_duties.Data s)) p = both_rest p p refl refl
passed_due (duties.Ask ask_duties.JoinAgain) p = both_rest p p refl refl
passed_due (duties.Ask (ask_duties.LeaveNoted s)) p = both_rest p p refl refl
passed_due (duties.Send d) p = both_rest p p refl refl
passed_due (duties.Silent (silent_duties.Timer s)) p = own s (with_timer_settled p.clock (end_at s p)) p (as_much _ _ refl)
passed_due d p = plain (side_of d) (writes d) p (passed d p) refl refl (passes_no_more d p)

pub due_lasts : Lasts BothDue
due_lasts = record {
  agenda = λ ds p. both_rest p (record p { agenda = ds }) refl refl;
  chains = λ p q r x y. record { a = record { same = y.a.same ∙ x.a.same }; b = record { same = y.b.same ∙ x.b.same } };
  passes = λ d p. passed_due d p;
}

pub due_still : (s : Side) (p q : PathState Carried) → BothDue p q → (end_at s q).tcp.due ≡ (end_at s p).tcp.due
due_still A p q x = x.a.same
due_still B p q x = x.b.same

pub owes_still : (s : Side) (p q : PathState Carried) → BothDue p q → Owes (end_at s p) → Owes (end_at s q)
owes_still s p q x = subst (λ (d : Due). (d.ack ≡ true) ⊎ (d.syn_ack ≡ true)) (sym (due_still s p q x))

first_false : (a : Bool) → (a && true) ≡ false → a ≡ false
first_false true is = absurd (true≢false is)
first_false false is = refl

-- ---- a turn

-- what is known of the path as it goes on
record Facts (w : WorldState Carried) (p : PathState Carried) : Type 0 where
  living : IsLiving w p
  stands : (s : Side) → Stands s p
  lives : (s : Side) → is_dead (end_at s p).tcp.state ≡ false

-- it is to answer
ahead : (s : Side) (ds : List Duty) (e : PathEnd) → Ready s ds e → is_dead e.tcp.state ≡ false → Owes e → Ahead s e ds
ahead s ds e (ready.is_dead_now gone) lives is = absurd (both_ways _ lives gone)
ahead s ds e (ready.is_quiet h) lives is = absurd (⊎_elim (λ ack. both_ways _ h.ack ack) (λ syn_ack. both_ways _ h.syn_ack syn_ack) is)
ahead s ds e (ready.answers a) lives is = a

module _ (w : WorldState Carried) (d : Duty) (ds : List Duty) (r : Reply) (p : PathState Carried) (facts : Facts w (with_agenda (d ∷ ds) p)) where
  abbrev x : PathState Carried
  x = with_agenda (d ∷ ds) p

  abbrev q : PathState Carried
  q = takes values r x

  known : Known d x
  known = facts.living.known

  -- the link takes the segment, which is a reply of this end
  abbrev Replies : Side → Option ToSend → Type 0
  Replies u None = ⊥
  Replies u (Some t) = (t.from ≡ u) × IsReply x.profile u (end_at u x) (segment_sent x t)

  sent : (u : Side) (o : Option ToSend) → first_sends (d ∷ ds) x ≡ o → Replies u o → is_event d ≡ false → OwedGoes u x q
  sent u None is says other = absurd says
  sent u (Some t) is says other =
      let hands : Hands values x t = subst (HandsOrTellsNone values x) is (each_segment_is_told values x) in
      owed.goes (segment_sent x t) says.1 (subst (λ v. q.link ≡ handed values v (segment_sent x t) x) says.0 (hands.taken r)) ((takes_frames values r x).stands d ds refl other)

  answer_is : (c : Profile) (s : Side) (e : PathEnd) (b : Bool) → e.tcp.due.syn_ack ≡ b → (e.tcp.due.ack && b) ≡ false → IsReply c s e (if b then syn_ack_said c s e else ack_said c s e.tcp.send.nxt None e)
  answer_is c s e true is one = reply.opens (first_false e.tcp.due.ack one) refl
  answer_is c s e false is one = reply.acks is refl

  goes : (s : Side) (e : Duty) → e ≡ d → Sends s (end_at s x) e → OwedGoes s x q
  goes s (duties.Send (send_duties.Acknowledge t)) is sends =
      let e : Duty = duties.Send (send_duties.Acknowledge t) in
      subst (λ u. OwedGoes u x q) sends.0 (sent t (first_sends (e ∷ ds) x) (ap (λ e. first_sends (e ∷ ds) x) (sym is)) (refl, reply.acks (subst (λ u. (end_at u x).tcp.due.syn_ack ≡ false) (sym sends.0) sends.1) refl) (ap is_event (sym is)))
  goes s (duties.Send (send_duties.Answer t)) is sends =
      let e : Duty = duties.Send (send_duties.Answer t) in
      subst (λ u. OwedGoes u x q) sends.0 (sent t (first_sends (e ∷ ds) x) (ap (λ e. first_sends (e ∷ ds) x) (sym is)) (refl, answer_is x.profile t (end_at t x) (end_at t x).tcp.due.syn_ack refl (subst (λ u. ((end_at u x).tcp.due.ack && (end_at u x).tcp.due.syn_ack) ≡ false) (sym sends.0) sends.1)) (ap is_event (sym is)))
  goes s (duties.Send (send_duties.SynAck t)) is sends =
      let e : Duty = duties.Send (send_duties.SynAck t) in
      subst (λ u. OwedGoes u x q) sends.0 (sent t (first_sends (e ∷ ds) x) (ap (λ e. first_sends (e ∷ ds) x) (sym is)) (refl, reply.opens (subst (λ u. (end_at u x).tcp.due.ack ≡ false) (sym sends.0) sends.1) refl) (ap is_event (sym is)))
  goes s (duties.Ask (ask_duties.BreakAck t reason)) is sends = absurd (true≢false (sym (ap is_harsh (sym is)) ∙ (or_parts (is_harsh d) (list_any is_harsh ds) facts.living.unbroken.duties).0))
  goes s (duties.Send (send_duties.BreakReset t reason)) is sends = absurd (true≢false (sym (ap is_harsh (sym is)) ∙ (or_parts (is_harsh d) (list_any is_harsh ds) facts.living.unbroken.duties).0))
  goes s (duties.Send (send_duties.Reset t)) is sends = absurd (true≢false (sym (ap is_of_the_dead (sym is)) ∙ (or_parts (is_of_the_dead d) (list_any is_of_the_dead ds) facts.living.agenda).0))
  goes s _ is sends = absurd sends

  stays : (s : Side) → is_silent d ≡ true → OwedGoes s x q
  stays s silent =
      let y : PathState Carried = answered values d r x in ⊎_elim
      (λ (gone : IsGone y). owed.gone gone.side (settled_lasts DeadStays dead_last y.agenda y gone.side gone.dead))
      (λ same. owed.owes (due_still s y q (settled_lasts BothDue due_lasts y.agenda y) ∙ due_still s x y same))
      (silent_due d r x known (facts.living.opens.opens facts.living.first) silent)

  owed_goes : (s : Side) → Owes (end_at s x) → OwedGoes s x q
  owed_goes s is = ⊎_elim (λ sends. goes s d refl sends) (λ rest. stays s rest.1.1.0) (ahead s (d ∷ ds) (end_at s x) (facts.stands s) (facts.lives s) is)

takes_owed : (w : WorldState Carried) (r : Reply) (p : PathState Carried) → Facts w p → (s : Side) → Owes (end_at s p) → OwedGoes s p (takes values r p)
takes_owed w r p facts s is = by p.agenda facts is
  where
    by : (ds : List Duty) → let x = with_agenda ds p in Facts w x → Owes (end_at s x) → OwedGoes s x (takes values r x)
    by [] facts is = absurd (ahead s [] (end_at s p) (facts.stands s) (facts.lives s) is)
    by (d ∷ ds) facts is = owed_goes w d ds r p facts s is

next_owed : (w : WorldState Carried) (p : PathState Carried) → p.agenda ≡ [] → Facts w p → (s : Side) → Owes (end_at s p) → OwedGoes s p (next_round p)
next_owed w p over facts s is = absurd (subst (Ahead s (end_at s p)) over (ahead s p.agenda (end_at s p) (facts.stands s) (facts.lives s) is))

-- ---- the world

abbrev Between : WorldState Carried → Actor Carried → Actor Carried → Type 0
Between w (Path p) (Path q) = Facts w p → (s : Side) → Owes (end_at s p) → OwedGoes s p q
Between w (App a) (App b) = Unit {0}
Between w _ _ = ⊥

member_takes_owed : (w : WorldState Carried) (r : Reply) (m : Actor Carried) → Between w m (member_takes values r m)
member_takes_owed w r (App a) = tt
member_takes_owed w r (Path p) = takes_owed w r p

member_next_owed : (w : WorldState Carried) (m : Actor Carried) → is_over m ≡ true → Between w m (member_next m)
member_next_owed w (App a) over = tt
member_next_owed w (Path p) over = next_owed w p (nil_so p.agenda over)

member_stays : (w : WorldState Carried) (m : Actor Carried) → Between w m m
member_stays w (App a) = tt
member_stays w (Path p) = λ facts s is. owed.owes refl

pub what_is_owed_goes : WhatIsOwedGoes
what_is_owed_goes start turns turn mild p q here there lives =
    subst (λ m. Between w (Path p) m) there.is (subst (λ m. Between w m there.crew.member) here.is
    (subst (λ (d : ActorCrew Carried). Between w here.crew.member d.member) (same_Some next.0 there.crew (sym next.1 ∙ there.there)) next.2))
    (record {
      living = living_path start turns mild p here lives;
      stands = subst (HoldsOfKind (λ app. Unit {0}) (λ (p : PathState Carried). (s : Side) → Stands s p)) here.is ((each_stands values start turns).each 2 here.crew here.there);
      lives = lives;
    })
  where
    w : WorldState Carried
    w = reached values start turns

    next : (d : ActorCrew Carried) × (slice_get (after_turn values turn w).crew 2 ≡ Some d) × Between w here.crew.member d.member
    next = turn_each values (λ c d. Between w c.member d.member) (λ c. member_stays w c.member) (λ ask books c. member_takes_owed w (answer_to books ask) c.member)
        (λ stamp c over. member_next_owed w c.member over) turn w 2 here.crew here.there
