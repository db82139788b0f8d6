-- The copies that go to B, while one stands before the others that shows it both keys; and how A sends it.
use Rattle.std.proofs.Common.{◌≡◌, refl, sym, subst, ap, ◌∙◌, ◌⊎◌, inl, inr, ⊎_elim, ℕ, zero, suc, ◌+◌, ◌<◌, ◌≤◌, le_refl, arith, nat_lt, nat_le, ◌&&◌, ◌||◌, ◌==◌, Bool, true, false, true≢false, cond, Option, Some, None, List, [], ◌∷◌, ◌++◌, length}
use Rattle.std.specs.Prelude.{not}
use Rattle.std.specs.List.{list_any, slice_get}
use Rattle.std.proofs.lemmas.Bool.{and_from, both_ways, eq-eqb, le-leb, le-ltb}
use Rattle.std.proofs.lemmas.Option.{same_Some}
use Rattle.mptcp_options.specs.declared.capable.CapableKeys.TheVariants.{Both}
use Rattle.path_segments.specs.Options.{PlainOption}
use Rattle.path_segments.specs.Spelled.{PlainSegment}
use Rattle.path_segments.specs.declared.segment.PathOption.TheVariants.{Capable}
use Rattle.sides.specs.declared.side.Side.{Side}
use Rattle.sides.specs.declared.side.Side.TheVariants.{A, B}
use Rattle.link_script.specs.Places.{same_side}
use Rattle.link_model.specs.declared.flight.Flight.{Flight}
use Rattle.link_model.specs.Laws.{WereSentBefore, going_to, plain_flight}
use Rattle.link_model.specs.State.{LinkState}
use Rattle.link_model.specs.Steps.{after_delivery, after_send, due_of, next_number, segments_sent}
use Rattle.link_model.proofs.Plain.{counts_on}
use Rattle.stream_lanes.specs.Words.{Every}
use Rattle.subflow_tcp.specs.States.{is_dead}
use Rattle.actor_desk.specs.declared.ask.Reply.{Reply}
use Rattle.path_agenda.specs.declared.duty.Duty.{Duty}
use Rattle.path_agenda.specs.declared.duty.Duty.TheVariants as duties
use Rattle.path_agenda.specs.declared.duty.AskDuty.TheVariants as ask_duties
use Rattle.path_agenda.specs.declared.duty.SendDuty.TheVariants as send_duties
use Rattle.path_agenda.specs.declared.duty.StepDuty.TheVariants as step_duties
use Rattle.path_core.specs.Duties.{answered}
use Rattle.path_core.specs.End.{PathEnd}
use Rattle.path_core.specs.Events.{next_event}
use Rattle.path_core.specs.Handover.{handed}
use Rattle.path_core.specs.Looking.{Hands, HandsOrTellsNone, first_sends, segment_sent}
use Rattle.path_core.proofs.SegmentsTold.{each_segment_is_told}
use Rattle.path_core.specs.State.{PathState, with_agenda}
use Rattle.path_core.specs.Steps.{next_round, takes}
use Rattle.path_core.specs.Turns.{IsSettled}
use Rattle.path_core.specs.Values.{Carried, values}
use Rattle.path_core.specs.declared.events.Event.TheVariants as happenings
use Rattle.world_laws.proofs.Worlds.Finding.{one_side}
use Rattle.world_laws.proofs.Writes.Steps.{begins_lasts, settled_lasts}
use Rattle.whole_paths.specs.AgendaSteps.{is_silent}
use Rattle.whole_paths.specs.AsFar.{stage}
use Rattle.whole_paths.specs.Finish.{is_harmed}
use Rattle.whole_paths.specs.Mild.{treats_answer}
use Rattle.whole_paths.specs.News.{one_if}
use Rattle.whole_paths.specs.Owed.{Covers}
use Rattle.whole_paths.specs.Rising.{OpensBy}
use Rattle.whole_paths.proofs.ByTurns.{Becomes}
use Rattle.whole_paths.proofs.Copies.{DeadStays, LinkStays, LinkStep, dead_last, link_step, links_last}
use Rattle.whole_paths.proofs.Copies.LinkStep.{stays, hands, delivers, is_cut}
use Rattle.whole_paths.proofs.DataPast.{Pushes, Same, all_same, same_last, takes_row}
use Rattle.whole_paths.proofs.Flying.{SameClock, clock_lasts}
use Rattle.whole_paths.proofs.Came.{quiet_link}
use Rattle.whole_paths.proofs.Owing.{Ahead, Ready, Sends, Stands}
use Rattle.whole_paths.proofs.Owing.{Ready as ready}
use Rattle.whole_paths.proofs.PlainQueues.{IsFirstOf, IsQueued, StandsAhead, ahead_later, ahead_of_all, ahead_sent, comes_first, first_leaves, goes_last_first, queued_later, sent_by_b, step_queued}
use Rattle.whole_paths.proofs.Pushing.{adds_more, answered_next}
use Rattle.whole_paths.proofs.Pieces.{is_event}
use Rattle.whole_paths.proofs.Rising.{next_dead, takes_open}
use Rattle.whole_paths.proofs.Saying.{ToSend}
use Rattle.whole_paths.proofs.Timing.{answered_ticks}

-- ---- the copies that go to B

-- without an octet, and without a FIN
abbrev pub IsBare : Flight Carried → Type 0
IsBare f = length f.carried.segment.payload + one_if f.carried.segment.fin ≡ 0

-- A acknowledges with both keys, and nothing else
pub record IsThird (x : PlainSegment) : Type 0 where
  pub flag_a : Bool
  pub flag_c : Bool
  pub own : ℕ
  pub other : ℕ
  pub others : List PlainOption
  pub options : x.options ≡ Capable flag_a flag_c (Both own other) ∷ others
  pub syn : x.syn ≡ false
  pub position : x.position ≡ 1
  pub bare : length x.payload + one_if x.fin ≡ 0

pub record IsThirdCopy (f : Flight Carried) : Type 0 where
  pub unstripped : f.carried.stripped ≡ false
  pub third : IsThird f.carried.segment
  pub covers : Covers 1 f.carried.segment

-- such a copy stands before the first that isn't bare
abbrev pub KeysAhead : List (Flight Carried) → Type 0
KeysAhead [] = ⊥
KeysAhead (f ∷ fs) = IsThirdCopy f ⊎ (IsBare f × KeysAhead fs)

pub one_behind : (fs : List (Flight Carried)) (f : Flight Carried) → KeysAhead fs → KeysAhead (fs ++ f ∷ [])
one_behind [] f h = absurd h
one_behind (g ∷ fs) f (inl third) = inl third
one_behind (g ∷ fs) f (inr more) = inr (more.0, one_behind fs f more.1)

pub located : (fs : List (Flight Carried)) → Every (λ (g : Flight Carried). g.to ≡ B → IsBare g) fs → (i : ℕ) (f : Flight Carried) → slice_get fs i ≡ Some f → f.to ≡ B → IsThirdCopy f
    → KeysAhead (going_to B fs)
located [] bare i f there to third = cc
located (g ∷ fs) bare zero f there to third =
    let same : g ≡ f = same_Some g f there in
    subst (λ s. KeysAhead (cond (same_side s B) (g ∷ going_to B fs) (going_to B fs))) (sym (ap (λ (h : Flight Carried). h.to) same ∙ to)) (inl (subst IsThirdCopy (sym same) third))
located (g ∷ fs) bare (suc i) f there to third = by (same_side g.to B) refl (located fs (record { each = λ j h at. bare.each (suc j) h at }) i f there to third)
  where
    by : (b : Bool) → same_side g.to B ≡ b → KeysAhead (going_to B fs) → KeysAhead (cond b (g ∷ going_to B fs) (going_to B fs))
    by true is rest = inr (bare.each 0 g refl (one_side g.to B is), rest)
    by false is rest = rest

-- and all up to it come no later than a segment of A's that goes now
abbrev pub KeysAt : ℕ → LinkState Carried → Type 0
KeysAt now link = StandsAhead IsThirdCopy IsBare (next_number A link) (now + link.delay) (going_to B link.under_way)

pub keys_later : (now more : ℕ) (link : LinkState Carried) → now ≤ more → KeysAt now link → KeysAt more link
keys_later now more link up h = ahead_later IsThirdCopy IsBare (next_number A link) (next_number A link) (now + link.delay) (more + link.delay) (going_to B link.under_way) (le_refl (next_number A link)) (omega (arith, up)) h

pub keys_of_all : (now : ℕ) (link : LinkState Carried) → WereSentBefore (next_number A link) (now + link.delay) (going_to B link.under_way) → KeysAhead (going_to B link.under_way) → KeysAt now link
keys_of_all now link sent h = ahead_of_all IsThirdCopy IsBare (next_number A link) (now + link.delay) (going_to B link.under_way) KeysAhead (λ none. none) (λ f fs held. held) sent h

pub any_last : {X : Type 0} (test : X → Bool) (xs : List X) (x : X) → test x ≡ true → list_any test (xs ++ x ∷ []) ≡ true
any_last test [] x is = ap (λ b. b || false) is
any_last test (y ∷ xs) x is = elim (test y) as (λ b. b || list_any test (xs ++ x ∷ []) ≡ true) [ true ↦ refl | false ↦ any_last test xs x is ]

pub any_going : (test : Flight Carried → Bool) (fs : List (Flight Carried)) → list_any test (going_to B fs) ≡ true → list_any test fs ≡ true
any_going test [] is = is
any_going test (f ∷ fs) is = by (same_side f.to B) (test f) refl (λ some. any_going test fs some) is
  where
    by : (b c : Bool) → test f ≡ c → (list_any test (going_to B fs) ≡ true → list_any test fs ≡ true) → list_any test (cond b (f ∷ going_to B fs) (going_to B fs)) ≡ true
        → c || list_any test fs ≡ true
    by b true same rest some = refl
    by true false same rest some = rest (sym (ap (λ d. d || list_any test (going_to B fs)) same) ∙ some)
    by false false same rest some = rest some

-- ---- a turn of the path, and its copies

-- what becomes of them
pub data AheadStep (p q : PathState Carried) : Type 0 where
  on : KeysAt q.clock q.link → AheadStep p q
  comes : (others : List Duty) → p.agenda ≡ duties.Step step_duties.Events ∷ others → (f : Flight Carried) (fs : List (Flight Carried)) → p.link.under_way ≡ f ∷ fs → f.to ≡ B → IsThirdCopy f
      → next_event p ≡ Some (happenings.Arrives (due_of f)) → AheadStep p q
  dies : is_dead q.a.tcp.state ≡ true → AheadStep p q

pub further : (p q r : PathState Carried) → r.link ≡ q.link → r.clock ≡ q.clock → DeadStays q r → AheadStep p q → AheadStep p r
further p q r same clock still (on h) = on (subst (λ n. KeysAt n r.link) (sym clock) (subst (KeysAt q.clock) (sym same) h))
further p q r same clock still (comes others first f fs is to third next) = comes others first f fs is to third next
further p q r same clock still (dies dead) = dies (still A dead)

module _ (d : Duty) (others : List Duty) (p q : PathState Carried) (agenda : p.agenda ≡ d ∷ others) (queued : IsQueued p.clock p.link) (up : p.clock ≤ q.clock) (h : KeysAt p.clock p.link) where
  on_then : KeysAt p.clock q.link → AheadStep p q
  on_then more = on (keys_later p.clock q.clock q.link up more)

  step_ahead : LinkStep d values p q → AheadStep p q
  step_ahead (stays is) = on_then (subst (KeysAt p.clock) (sym is) h)
  step_ahead (hands A carried size still is) =
      let l : LinkState Carried = after_send (values.strips p.profile.spelling) (values.alters p.profile.spelling) A carried size p.clock p.link in
      on_then (subst (KeysAt p.clock) (sym is) (ahead_later IsThirdCopy IsBare (next_number A p.link) (next_number A l) (p.clock + p.link.delay) (p.clock + p.link.delay) (going_to B l.under_way) (counts_on p.link.from_a) (le_refl (p.clock + p.link.delay))
      (ahead_sent IsThirdCopy IsBare (values.strips p.profile.spelling) (values.alters p.profile.spelling) carried size p.clock p.link queued.lines queued.order h)))
  step_ahead (hands B carried size still is) = on_then (subst (KeysAt p.clock) (sym is)
      (subst (StandsAhead IsThirdCopy IsBare (next_number A p.link) (p.clock + p.link.delay)) (sym (sent_by_b (values.strips p.profile.spelling) (values.alters p.profile.spelling) carried size p.clock p.link)) h))
  step_ahead (is_cut line next action is dead) = dies dead
  step_ahead (delivers event due next is) = by (same_side x.first.to B) refl (subst (λ fs. StandsAhead IsThirdCopy IsBare (next_number A p.link) (p.clock + p.link.delay) (going_to B fs)) x.flights_are h)
    where
      x : IsFirstOf due p.link.under_way
      x = comes_first p due next

      rest : StandsAhead IsThirdCopy IsBare (next_number A p.link) (p.clock + p.link.delay) (going_to B x.others) → AheadStep p q
      rest more = on_then (subst (KeysAt p.clock) (sym is) (subst (λ fs. StandsAhead IsThirdCopy IsBare (next_number A p.link) (p.clock + p.link.delay) (going_to B fs))
          (sym (ap (λ e. (after_delivery e p.link).under_way) x.due_is ∙ first_leaves x.first x.others p.link x.flights_are)) more))

      by : (b : Bool) → same_side x.first.to B ≡ b
          → StandsAhead IsThirdCopy IsBare (next_number A p.link) (p.clock + p.link.delay) (cond b (x.first ∷ going_to B x.others) (going_to B x.others)) → AheadStep p q
      by true to held = ⊎_elim
          (λ third. comes others (agenda ∙ ap (λ e. e ∷ others) event) x.first x.others x.flights_are (one_side x.first.to B to) third (next ∙ ap (λ e. Some (happenings.Arrives e)) x.due_is))
          (λ more. rest more.1)
          held.1
      by false to more = rest more

pub takes_ahead : (r : Reply) (p : PathState Carried) → IsQueued p.clock p.link → KeysAt p.clock p.link → AheadStep p (takes values r p)
takes_ahead r p queued h = by p.agenda
  where
    by : (ds : List Duty) → AheadStep (with_agenda ds p) (takes values r (with_agenda ds p))
    by [] = on h
    by (d ∷ ds) =
        let x : PathState Carried = with_agenda (d ∷ ds) p in let y : PathState Carried = answered values d r x in
        further x y (takes values r x) (settled_lasts LinkStays links_last y.agenda y) (settled_lasts SameClock clock_lasts y.agenda y) (settled_lasts DeadStays dead_last y.agenda y)
        (step_ahead d ds x y refl queued (answered_ticks values d r x).clock h (link_step values d r x))

pub becomes_ahead : (p q : PathState Carried) → Becomes values p q → p.clock ≤ p.until → IsQueued p.clock p.link → KeysAt p.clock p.link → AheadStep p q
becomes_ahead p q Becomes.stays up queued h = on h
becomes_ahead p q (Becomes.takes_a_reply r) up queued h = takes_ahead r p queued h
becomes_ahead p q Becomes.begins_anew up queued h =
    let y : PathState Carried = record p { clock = p.until; until = p.until + 100 } in
    on (subst (λ n. KeysAt n (next_round p).link) (sym (begins_lasts SameClock clock_lasts y)) (subst (KeysAt p.until) (sym (begins_lasts LinkStays links_last y)) (keys_later p.clock p.until p.link up h)))

pub takes_queued : (r : Reply) (p : PathState Carried) → IsQueued p.clock p.link → let q = takes values r p in IsQueued q.clock q.link
takes_queued r p h = by p.agenda
  where
    by : (ds : List Duty) → let q = takes values r (with_agenda ds p) in IsQueued q.clock q.link
    by [] = h
    by (d ∷ ds) =
        let x : PathState Carried = with_agenda (d ∷ ds) p in let y : PathState Carried = answered values d r x in let q : PathState Carried = takes values r x in
        let same : q.link ≡ y.link = settled_lasts LinkStays links_last y.agenda y in let clock : q.clock ≡ y.clock = settled_lasts SameClock clock_lasts y.agenda y in
        subst (λ n. IsQueued n q.link) (sym clock) (subst (IsQueued y.clock) (sym same) (step_queued values x y (link_step values d r x) (answered_ticks values d r x).clock h))

pub becomes_queued : (p q : PathState Carried) → Becomes values p q → p.clock ≤ p.until → IsQueued p.clock p.link → IsQueued q.clock q.link
becomes_queued p q Becomes.stays up h = h
becomes_queued p q (Becomes.takes_a_reply r) up h = takes_queued r p h
becomes_queued p q Becomes.begins_anew up h =
    let y : PathState Carried = record p { clock = p.until; until = p.until + 100 } in
    subst (λ n. IsQueued n (next_round p).link) (sym (begins_lasts SameClock clock_lasts y)) (subst (IsQueued p.until) (sym (begins_lasts LinkStays links_last y)) (queued_later p.clock p.until p.link up h))

-- none of A's first eight segments is harmed
pub sent_unharmed : (d : Duty) (p q : PathState Carried) → IsQueued p.clock p.link → next_number A p.link ≤ 8 → LinkStep d values p q → is_harmed A p q ≡ false
sent_unharmed d p q queued low step = by step
  where
    none : segments_sent A q.link ≡ segments_sent A p.link → is_harmed A p q ≡ false
    none same = ap (λ b. b && not (list_any (λ (f : Flight Carried). same_side f.to B && (f.number == segments_sent A q.link && nat_le f.tick (p.clock + 400))) q.link.under_way))
        (le-ltb (segments_sent A p.link) (segments_sent A q.link) (omega (arith, same)))

    never : (b c : Bool) → c ≡ true → (b && not c) ≡ false
    never true c is = ap not is
    never false c is = refl

    by : LinkStep d values p q → is_harmed A p q ≡ false
    by (stays is) = none (ap (λ (l : LinkState Carried). l.from_a) is)
    by (hands B carried size still is) = none (ap (λ (l : LinkState Carried). l.from_a) is)
    by (delivers event due next is) = none (ap (λ (l : LinkState Carried). l.from_a) is)
    by (is_cut line next action is dead) = none (ap (λ (l : LinkState Carried). l.from_a) is)
    by (hands A carried size still is) = never (nat_lt (segments_sent A p.link) (segments_sent A q.link)) (list_any soon q.link.under_way) (any_going soon q.link.under_way (ap (λ fs. list_any soon fs) flights ∙ any_last soon (going_to B p.link.under_way) f last))
      where
        f : Flight Carried
        f = plain_flight (values.strips p.profile.spelling) (values.alters p.profile.spelling) A carried p.clock p.link

        soon : Flight Carried → Bool
        soon g = same_side g.to B && (g.number == segments_sent A q.link && nat_le g.tick (p.clock + 400))

        flights : going_to B q.link.under_way ≡ going_to B p.link.under_way ++ f ∷ []
        flights = ap (λ (l : LinkState Carried). going_to B l.under_way) is
            ∙ goes_last_first (values.strips p.profile.spelling) (values.alters p.profile.spelling) carried size p.clock p.link queued.lines low queued.order (queued.sent (omega (arith, low)))

        last : soon f ≡ true
        last = and_from (f.number == segments_sent A q.link) (nat_le f.tick (p.clock + 400)) (eq-eqb f.number (segments_sent A q.link) (sym (ap (λ (l : LinkState Carried). l.from_a) is)))
            (le-leb f.tick (p.clock + 400) (let short = queued.delay in omega (arith, short)))

pub unharmed : (p q : PathState Carried) → Becomes values p q → IsQueued p.clock p.link → next_number A p.link ≤ 8 → is_harmed A p q ≡ false
unharmed p q becomes queued low = by q becomes
  where
    same : (q : PathState Carried) → q.link ≡ p.link → is_harmed A p q ≡ false
    same q is = sent_unharmed duties.End p q queued low (stays is)

    takes_so : (r : Reply) (ds : List Duty) → is_harmed A (with_agenda ds p) (takes values r (with_agenda ds p)) ≡ false
    takes_so r [] = same p refl
    takes_so r (d ∷ ds) =
        let x : PathState Carried = with_agenda (d ∷ ds) p in let y : PathState Carried = answered values d r x in
        subst (λ (l : LinkState Carried). is_harmed A x (record y { link = l }) ≡ false) (sym (settled_lasts LinkStays links_last y.agenda y)) (sent_unharmed d x y queued low (link_step values d r x))

    by : (q : PathState Carried) → Becomes values p q → is_harmed A p q ≡ false
    by q Becomes.stays = same p refl
    by q (Becomes.takes_a_reply r) = takes_so r p.agenda
    by q Becomes.begins_anew = same (next_round p) (begins_lasts LinkStays links_last (record p { clock = p.until; until = p.until + 100 }))

-- ---- how many A sends

pub counted_step : {d : Duty} (p q : PathState Carried) → LinkStep d values p q → segments_sent A q.link ≤ suc (segments_sent A p.link)
counted_step p q (stays is) = let same = ap (λ (l : LinkState Carried). l.from_a) is in omega (arith, same)
counted_step p q (hands A carried size still is) = let same = ap (λ (l : LinkState Carried). l.from_a) is in omega (arith, same)
counted_step p q (hands B carried size still is) = let same = ap (λ (l : LinkState Carried). l.from_a) is in omega (arith, same)
counted_step p q (delivers event due next is) = let same = ap (λ (l : LinkState Carried). l.from_a) is in omega (arith, same)
counted_step p q (is_cut line next action is dead) = let same = ap (λ (l : LinkState Carried). l.from_a) is in omega (arith, same)

-- one more at most
pub becomes_counted : (p q : PathState Carried) → Becomes values p q → segments_sent A q.link ≤ suc (segments_sent A p.link)
becomes_counted p q Becomes.stays = omega arith
becomes_counted p q (Becomes.takes_a_reply r) = by p.agenda
  where
    by : (ds : List Duty) → segments_sent A (takes values r (with_agenda ds p)).link ≤ suc (segments_sent A p.link)
    by [] = omega arith
    by (d ∷ ds) =
        let x : PathState Carried = with_agenda (d ∷ ds) p in let y : PathState Carried = answered values d r x in
        let same = ap (λ (l : LinkState Carried). l.from_a) (settled_lasts LinkStays links_last y.agenda y) in let step = counted_step x y (link_step values d r x) in omega (arith, same, step)
becomes_counted p q Becomes.begins_anew =
    let same = ap (λ (l : LinkState Carried). l.from_a) (begins_lasts LinkStays links_last (record p { clock = p.until; until = p.until + 100 })) in omega (arith, same)

-- ---- SND.NXT of an end that owes an acknowledgement stays

pub settles_first : (s : Side) (e : PathEnd) (d : Duty) → Sends s e d ⊎ (is_silent d ≡ true) → (is_event d ≡ false) × (adds_more d ≡ false)
settles_first s e (duties.Step step_duties.Events) (inl h) = absurd h
settles_first s e (duties.Step step_duties.Events) (inr h) = absurd (true≢false (sym h))
settles_first s e (duties.Step (step_duties.Data t)) (inl h) = absurd h
settles_first s e (duties.Step (step_duties.Data t)) (inr h) = absurd (true≢false (sym h))
settles_first s e (duties.Send (send_duties.Fin t)) (inl h) = absurd h
settles_first s e (duties.Send (send_duties.Fin t)) (inr h) = absurd (true≢false (sym h))
settles_first s e d h = (refl, refl)

pub takes_same : (r : Reply) (p : PathState Carried) → Stands A p → is_dead p.a.tcp.state ≡ false → p.a.tcp.due.ack ≡ true → (takes values r p).a.tcp.send.nxt ≡ p.a.tcp.send.nxt
takes_same r p stood living due = by p.agenda stood
  where
    first : (d : Duty) (ds : List Duty) → Ahead A p.a (d ∷ ds) → Sends A p.a d ⊎ (is_silent d ≡ true)
    first d ds h = ⊎_elim (λ is. inl is) (λ rest. inr rest.1.1.0) h

    by : (ds : List Duty) → Ready A ds p.a → (takes values r (with_agenda ds p)).a.tcp.send.nxt ≡ p.a.tcp.send.nxt
    by [] h = refl
    by (d ∷ ds) (ready.is_dead_now gone) = absurd (both_ways (is_dead p.a.tcp.state) living gone)
    by (d ∷ ds) (ready.is_quiet none) = absurd (both_ways p.a.tcp.due.ack none.ack due)
    by (d ∷ ds) (ready.answers a) =
        let x : PathState Carried = with_agenda (d ∷ ds) p in let y : PathState Carried = answered values d r x in
        let kinds = settles_first A p.a d (first d ds a) in
        settled_lasts Same same_last y.agenda y A ∙ all_same x y (answered_next values d r x kinds.0 kinds.1) A

pub becomes_same : (p q : PathState Carried) → Becomes values p q → Stands A p → is_dead p.a.tcp.state ≡ false → p.a.tcp.due.ack ≡ true → q.a.tcp.send.nxt ≡ p.a.tcp.send.nxt
becomes_same p q Becomes.stays stood living due = refl
becomes_same p q (Becomes.takes_a_reply r) stood living due = takes_same r p stood living due
becomes_same p q Becomes.begins_anew stood living due = begins_lasts Same same_last (record p { clock = p.until; until = p.until + 100 }) A

-- and it sends none, or the first segment that it sends next
pub data OwedLink (p q : PathState Carried) : Type 0 where
  none_goes : segments_sent A q.link ≡ segments_sent A p.link → OwedLink p q
  one_goes : (t : ToSend) → first_sends p.agenda p ≡ Some t → t.from ≡ A → q.link ≡ handed values A (segment_sent p t) p → OwedLink p q

module _ (d : Duty) (ds : List Duty) (r : Reply) (p : PathState Carried) (other : is_event d ≡ false) where
  abbrev before : PathState Carried
  before = with_agenda (d ∷ ds) p

  abbrev step : PathState Carried
  step = answered values d r (with_agenda (d ∷ ds) p)

  duty_owed : OwedLink (with_agenda (d ∷ ds) p) (takes values r (with_agenda (d ∷ ds) p))
  duty_owed = by (first_sends (d ∷ ds) (with_agenda (d ∷ ds) p)) refl
    where
      hands_it : (t : ToSend) → first_sends (d ∷ ds) before ≡ Some t → Hands values before t
      hands_it t is = subst (HandsOrTellsNone values before) is (each_segment_is_told values before)

      by_side : (t : ToSend) → first_sends (d ∷ ds) before ≡ Some t → (s : Side) → t.from ≡ s → OwedLink before (takes values r before)
      by_side t is A own = OwedLink.one_goes t is own (subst (λ s. (takes values r before).link ≡ handed values s (segment_sent before t) before) own ((hands_it t is).taken r))
      by_side t is B own = OwedLink.none_goes (ap (λ (l : LinkState Carried). l.from_a) (subst (λ s. (takes values r before).link ≡ handed values s (segment_sent before t) before) own ((hands_it t is).taken r)))

      by : (o : Option ToSend) → first_sends (d ∷ ds) before ≡ o → OwedLink before (takes values r before)
      by None is = OwedLink.none_goes (ap (λ (l : LinkState Carried). l.from_a) (settled_lasts LinkStays links_last step.agenda step ∙ quiet_link values d r before other is))
      by (Some t) is = by_side t is t.from refl

pub takes_owed : (r : Reply) (p : PathState Carried) → Stands A p → is_dead p.a.tcp.state ≡ false → p.a.tcp.due.ack ≡ true → OwedLink p (takes values r p)
takes_owed r p stood living due = by p.agenda stood
  where
    first : (d : Duty) (ds : List Duty) → Ahead A p.a (d ∷ ds) → Sends A p.a d ⊎ (is_silent d ≡ true)
    first d ds h = ⊎_elim (λ is. inl is) (λ rest. inr rest.1.1.0) h

    by : (ds : List Duty) → Ready A ds p.a → OwedLink (with_agenda ds p) (takes values r (with_agenda ds p))
    by [] h = OwedLink.none_goes refl
    by (d ∷ ds) (ready.is_dead_now gone) = absurd (both_ways (is_dead p.a.tcp.state) living gone)
    by (d ∷ ds) (ready.is_quiet none) = absurd (both_ways p.a.tcp.due.ack none.ack due)
    by (d ∷ ds) (ready.answers a) = duty_owed d ds r p (settles_first A p.a d (first d ds a)).0

pub becomes_owed : (p q : PathState Carried) → Becomes values p q → Stands A p → is_dead p.a.tcp.state ≡ false → p.a.tcp.due.ack ≡ true → OwedLink p q
becomes_owed p q Becomes.stays stood living due = OwedLink.none_goes refl
becomes_owed p q (Becomes.takes_a_reply r) stood living due = takes_owed r p stood living due
becomes_owed p q Becomes.begins_anew stood living due = OwedLink.none_goes (ap (λ (l : LinkState Carried). l.from_a) (begins_lasts LinkStays links_last (record p { clock = p.until; until = p.until + 100 })))

-- that of an end before the handshake is done stays, too
pub becomes_pushes : (p q : PathState Carried) → Becomes values p q → IsSettled p → Pushes A p q
becomes_pushes p q Becomes.stays stood = inl refl
becomes_pushes p q (Becomes.takes_a_reply r) stood = takes_row r p stood A
becomes_pushes p q Becomes.begins_anew stood = inl (begins_lasts Same same_last (record p { clock = p.until; until = p.until + 100 }) A)

-- A's end goes past the handshake by a copy
pub becomes_past : (p q : PathState Carried) → Becomes values p q → stage p.a.tcp.state < 3 → 3 ≤ stage q.a.tcp.state → (is_dead q.a.tcp.state ≡ true) ⊎ OpensBy values 3 A p
becomes_past p q Becomes.stays low high = absurd (omega (arith, low, high))
becomes_past p q (Becomes.takes_a_reply r) low high = takes_open 3 (omega arith) (omega arith) values r p A low high
becomes_past p q Becomes.begins_anew low high = inl (next_dead 3 (omega arith) (omega arith) values A p low high)

-- while the SYN/ACK is treated nothing is sent
pub treats_none : (ds : List Duty) (p : PathState Carried) (t : ToSend) → treats_answer ds ≡ true → first_sends ds p ≡ Some t → ⊥
treats_none (duties.Ask (ask_duties.SynAnswered s) ∷ ds) p t is sends = cc
treats_none (duties.Ask (ask_duties.PeerKey s) ∷ ds) p t is sends = cc
treats_none _ p t is sends = true≢false (sym is)
