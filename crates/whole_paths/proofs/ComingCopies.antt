-- What a copy makes of the end that it comes to: of its expiries in a row, and of what it owes.
use Rattle.std.proofs.Common.{◌≡◌, refl, sym, subst, ap, ◌∙◌, inl, inr, ◌⊎◌, ℕ, arith, Bool, true, false, true≢false, if◌then◌else◌, List, [], ◌∷◌, nat_lt}
use Rattle.std.proofs.lemmas.Bool.{lt-ltb}
use Rattle.path_segments.specs.Heard.{HeardSegment}
use Rattle.sides.specs.declared.side.Side.{Side}
use Rattle.subflow_send.specs.Rules.{ack_kind, after_acknowledge, sample_of}
use Rattle.subflow_send.specs.declared.record.AckKind.TheVariants.{Duplicate, Future, New, Old}
use Rattle.subflow_tcp.specs.Judging.{meaning_of}
use Rattle.subflow_tcp.specs.Dues.{owing_ack, owing_answer}
use Rattle.subflow_tcp.specs.Segments.{Copy, occupied, one_if}
use Rattle.subflow_tcp.specs.State.{EndState}
use Rattle.subflow_tcp.specs.States.{is_half_open}
use Rattle.subflow_tcp.specs.Taking.{after_ack_kind, after_acknowledgement, after_arrival, after_duplicate, after_established, after_heard_ack, after_hearing, after_interruption, after_payload, after_telling, is_duplicate, told_by}
use Rattle.subflow_tcp.specs.declared.dues.Due.{Due}
use Rattle.subflow_tcp.specs.declared.handshake.State.TheVariants as phase
use Rattle.subflow_tcp.specs.declared.segments.Hint.{Hint}
use Rattle.subflow_tcp.specs.declared.verdicts.Meaning.{Meaning}
use Rattle.subflow_tcp.specs.declared.verdicts.Meaning.TheVariants as means
use Rattle.actor_desk.specs.declared.ask.Reply.{Reply}
use Rattle.actor_desk.specs.Words.{is_nil}
use Rattle.path_agenda.specs.declared.duty.Duty.{Duty}
use Rattle.path_agenda.specs.declared.duty.Duty.TheVariants as duties
use Rattle.path_agenda.specs.declared.duty.StepDuty.TheVariants as step_duties
use Rattle.path_core.specs.Arrival.{after_judged, copy_judged, copy_of, judged_in, owing_if, reset_for, with_payload}
use Rattle.path_core.specs.DssIn.{held_of}
use Rattle.path_core.specs.Duties.{answered}
use Rattle.path_core.specs.End.{PathEnd}
use Rattle.path_core.specs.Judged.{taken_as}
use Rattle.path_core.specs.MpJoin.{is_joined}
use Rattle.path_core.specs.OptionsIn.{hint_of, items_of, options_heard, owes_by}
use Rattle.path_core.specs.Profile.{Profile}
use Rattle.path_core.specs.State.{PathState, end_at, with_agenda}
use Rattle.path_core.specs.Steps.{next_round, takes}
use Rattle.path_core.specs.Values.{Carried, values}
use Rattle.path_core.specs.declared.judged.Judged.{Judged}
use Rattle.path_core.specs.declared.judged.Judged.TheVariants as judged
use Rattle.path_core.proofs.Judgements.{judged_taken}
use Rattle.world_laws.specs.declared.member.Member.TheVariants.{App, Path}
use Rattle.world_laws.specs.Actors.{Actor, is_over, member_next, member_takes}
use Rattle.world_laws.specs.StampedBooks.{answer_to}
use Rattle.world_laws.proofs.Whole.Ends.{MeansIs, means_so}
use Rattle.world_laws.proofs.Writes.Steps.{settled_lasts}
use Rattle.whole_paths.specs.Brought.{Comes, IsTo}
use Rattle.whole_paths.specs.ComingCopies.{CopiesCount, EachCopyThatComesCounts, PathsHear, ends_row, is_answered}
use Rattle.whole_paths.specs.ExpiriesInARow.{in_a_row}
use Rattle.whole_paths.specs.OwedGoes.{Owes}
use Rattle.whole_paths.proofs.Agendas.{own_end}
use Rattle.whole_paths.proofs.Bringing.{coming_by, comes_so, first_so}
use Rattle.whole_paths.proofs.ExpiriesInARow.{BothSame, same_lasts}
use Rattle.whole_paths.proofs.OwedGoes.{BothDue, due_lasts, due_still, owes_still}
use Rattle.whole_paths.proofs.Turns.{turn_each}

-- ---- the row

abbrev Ended : EndState → Type 0
Ended s = s.timing.expiries ≡ 0

ack_ended : (pos now : ℕ) (s : EndState) → Ended s → Ended (after_acknowledgement pos now s)
ack_ended pos now s h = elim (ack_kind pos s.send) as (λ kind. Ended (after_ack_kind kind (sample_of pos s.send) now (record s { send = after_acknowledge pos s.send })))
    [ New octets ↦ h | Duplicate ↦ h | Old ↦ h | Future ↦ h ]

heard_ack_ended : (pos : ℕ) (hint : Hint) (now : ℕ) (c : Copy) (s : EndState) → Ended s → Ended (after_heard_ack pos hint now c s)
heard_ack_ended pos hint now c s h = elim (is_duplicate (ack_kind pos s.send) (told_by hint c) c acked) as (λ b. Ended (after_telling (told_by hint c) (if b then after_duplicate acked else after_interruption acked)))
    [ true ↦ ack_ended pos now s h | false ↦ ack_ended pos now s h ]
  where
    acked : EndState
    acked = after_acknowledgement pos now s

arrived_ends : (m : Meaning) (hint : Hint) (now : ℕ) (c : Copy) (s : EndState) → ends_row m ≡ true → Ended (after_arrival m hint now c s)
arrived_ends means.Challenged hint now c s is = refl
arrived_ends means.Unacknowledging hint now c s is = refl
arrived_ends means.Ahead hint now c s is = refl
arrived_ends (means.Accepts n) hint now c s is = ack_ended n now (record (after_hearing (after_payload 1 hint c s)) { state = phase.Established }) refl
arrived_ends (means.Taken pos n) hint now c s is = heard_ack_ended n hint now c (after_established (after_hearing (after_payload pos hint c s))) refl
arrived_ends _ hint now c s is = absurd (true≢false (sym is))

owing_ended : (b : Bool) (s : EndState) → Ended s → Ended (owing_if b s)
owing_ended true s h = h
owing_ended false s h = h

-- ---- what is owed

abbrev IsOwing : Due → Type 0
IsOwing d = (d.ack ≡ true) ⊎ (d.syn_ack ≡ true)

answer_owing : (half : Bool) (d : Due) → IsOwing (owing_answer half d)
answer_owing true d = inr refl
answer_owing false d = inl refl

syn_occupies : (c : Copy) → c.syn ≡ true → nat_lt 0 (occupied c) ≡ true
syn_occupies c syn = lt-ltb 0 (occupied c) (let one = ap one_if syn in omega (arith, one))

accepted_acks : (n : ℕ) (hint : Hint) (now : ℕ) (c : Copy) (s : EndState) → c.syn ≡ true → (after_arrival (means.Accepts n) hint now c s).due.ack ≡ true
accepted_acks n hint now c s syn = acks (nat_lt 0 (occupied c)) _ (syn_occupies c syn)
  where
    acks : (b : Bool) (d : Due) → b ≡ true → (if b then owing_ack d else d).ack ≡ true
    acks true d is = refl
    acks false d is = absurd (true≢false (sym is))

arrived_owes : (m : Meaning) (hint : Hint) (now : ℕ) (c : Copy) (s : EndState) → MeansIs c s m → is_answered m ≡ true → IsOwing (after_arrival m hint now c s).due
arrived_owes means.RepeatedSyn hint now c s fits is = inr refl
arrived_owes means.Outside hint now c s fits is = answer_owing _ s.due
arrived_owes means.Challenged hint now c s fits is = answer_owing _ s.due
arrived_owes means.Ahead hint now c s fits is = answer_owing _ s.due
arrived_owes (means.Accepts n) hint now c s fits is = inl (accepted_acks n hint now c s fits.1.0)
arrived_owes _ hint now c s fits is = absurd (true≢false (sym is))

owing_owes : (b : Bool) (s : EndState) → IsOwing s.due → IsOwing (owing_if b s).due
owing_owes true s h = inl refl
owing_owes false s h = h

-- at an end whose SYN is acknowledged
answer_acks : (half : Bool) (d : Due) → half ≡ false → (owing_answer half d).ack ≡ true
answer_acks true d whole = absurd (true≢false whole)
answer_acks false d whole = refl

answer_syn_acks : (half : Bool) (d : Due) → half ≡ true → (owing_answer half d).syn_ack ≡ true
answer_syn_acks true d half = refl
answer_syn_acks false d half = absurd (true≢false (sym half))

owing_syn_acks : (b : Bool) (s : EndState) → s.due.syn_ack ≡ true → (owing_if b s).due.syn_ack ≡ true
owing_syn_acks true s h = h
owing_syn_acks false s h = h

owing_acks : (b : Bool) (s : EndState) → s.due.ack ≡ true → (owing_if b s).due.ack ≡ true
owing_acks true s h = refl
owing_acks false s h = h

-- ---- an end

module _ (c : Profile) (s : Side) (now : ℕ) (x : HeardSegment) (e : PathEnd) where
  abbrev pub heard_as : Meaning → PathEnd
  heard_as m = copy_judged (is_joined c) (held_of c s x) (reset_for c s x) s now x m e

  pub as_ends : (m : Meaning) → ends_row m ≡ true → in_a_row (heard_as m) ≡ 0
  as_ends m is = owing_ended (owes_by m (items_of (is_joined c) s x)) (after_arrival m (hint_of (items_of (is_joined c) s x)) now (copy_of x) (with_payload m x.payload e.tcp))
      (arrived_ends m (hint_of (items_of (is_joined c) s x)) now (copy_of x) (with_payload m x.payload e.tcp) is)

  -- nothing of the payload is held but of what is taken
  as_owes : (m : Meaning) → MeansIs (copy_of x) e.tcp m → is_answered m ≡ true → Owes (heard_as m)
  as_owes m fits is = owing_owes (owes_by m (items_of (is_joined c) s x)) (after_arrival m (hint_of (items_of (is_joined c) s x)) now (copy_of x) (with_payload m x.payload e.tcp)) (by m fits is)
    where
      by : (m : Meaning) → MeansIs (copy_of x) e.tcp m → is_answered m ≡ true → IsOwing (after_arrival m (hint_of (items_of (is_joined c) s x)) now (copy_of x) (with_payload m x.payload e.tcp)).due
      by means.RepeatedSyn fits is = inr refl
      by means.Outside fits is = answer_owing (is_half_open e.tcp.state) e.tcp.due
      by means.Challenged fits is = answer_owing (is_half_open e.tcp.state) e.tcp.due
      by means.Ahead fits is = answer_owing (is_half_open e.tcp.state) e.tcp.due
      by (means.Accepts n) fits is = arrived_owes (means.Accepts n) (hint_of (items_of (is_joined c) s x)) now (copy_of x) e.tcp fits is
      by _ fits is = absurd (true≢false (sym is))

  as_acks : (m : Meaning) → MeansIs (copy_of x) e.tcp m → is_answered m ≡ true → (m ≡ means.RepeatedSyn → ⊥) → is_half_open e.tcp.state ≡ false → (heard_as m).tcp.due.ack ≡ true
  as_acks m fits is other whole = owing_acks (owes_by m (items_of (is_joined c) s x)) (after_arrival m (hint_of (items_of (is_joined c) s x)) now (copy_of x) (with_payload m x.payload e.tcp)) (by m fits is other)
    where
      by : (m : Meaning) → MeansIs (copy_of x) e.tcp m → is_answered m ≡ true → (m ≡ means.RepeatedSyn → ⊥)
          → (after_arrival m (hint_of (items_of (is_joined c) s x)) now (copy_of x) (with_payload m x.payload e.tcp)).due.ack ≡ true
      by means.RepeatedSyn fits is other = absurd (other refl)
      by means.Outside fits is other = answer_acks (is_half_open e.tcp.state) e.tcp.due whole
      by means.Challenged fits is other = answer_acks (is_half_open e.tcp.state) e.tcp.due whole
      by means.Ahead fits is other = answer_acks (is_half_open e.tcp.state) e.tcp.due whole
      by (means.Accepts n) fits is other = accepted_acks n (hint_of (items_of (is_joined c) s x)) now (copy_of x) e.tcp fits.1.0
      by _ fits is other = absurd (true≢false (sym is))

  as_syn_acks : (m : Meaning) → MeansIs (copy_of x) e.tcp m → is_answered m ≡ true → is_half_open e.tcp.state ≡ true → (heard_as m).tcp.due.syn_ack ≡ true
  as_syn_acks m fits is half = owing_syn_acks (owes_by m (items_of (is_joined c) s x)) (after_arrival m (hint_of (items_of (is_joined c) s x)) now (copy_of x) (with_payload m x.payload e.tcp)) (by m fits is)
    where
      by : (m : Meaning) → MeansIs (copy_of x) e.tcp m → is_answered m ≡ true → (after_arrival m (hint_of (items_of (is_joined c) s x)) now (copy_of x) (with_payload m x.payload e.tcp)).due.syn_ack ≡ true
      by means.RepeatedSyn fits is = refl
      by means.Outside fits is = answer_syn_acks (is_half_open e.tcp.state) e.tcp.due half
      by means.Challenged fits is = answer_syn_acks (is_half_open e.tcp.state) e.tcp.due half
      by means.Ahead fits is = answer_syn_acks (is_half_open e.tcp.state) e.tcp.due half
      by (means.Accepts n) fits is = absurd (true≢false (sym half ∙ ap is_half_open fits.0))
      by _ fits is = absurd (true≢false (sym is))

-- ---- a path

module _ (ds : List Duty) (r : Reply) (p : PathState Carried) where
  abbrev from : Duty → PathState Carried
  from d = with_agenda (d ∷ ds) p

  abbrev by_event : Duty
  by_event = duties.Step step_duties.Events

  -- what holds of the end after a copy that means this
  abbrev Heard : (PathEnd → Type 0) → Type 0
  Heard P = (c : Comes values (from by_event)) (m : Meaning) → IsTo values (from by_event) c (judged.As m)
      → (MeansIs (copy_of (options_heard (end_at c.due.to p) c.segment)) (end_at c.due.to p).tcp m → P (heard_as p.profile c.due.to (coming_by ds p c).clock (options_heard (end_at c.due.to p) c.segment) (end_at c.due.to p) m))
      → P (end_at c.due.to (answered values by_event r (from by_event)))

  comes_to : (P : PathEnd → Type 0) → Heard P
  comes_to P c m is holds =
      comes_so (λ (v : PathState Carried). P (end_at s v)) values ds r p c
      (subst P (sym (own_end s (after_judged p.profile s (coming_by ds p c).clock h verdict e) p.a p.b))
      (subst (λ v. P (after_judged p.profile s (coming_by ds p c).clock h v e)) (sym is) (holds (subst (λ v. MeansIs (copy_of h) e.tcp (taken_as v)) is fits))))
    where
      s : Side
      s = c.due.to

      e : PathEnd
      e = end_at s p

      h : HeardSegment
      h = options_heard e c.segment

      verdict : Judged
      verdict = judged_in (is_joined p.profile) s h e

      fits : MeansIs (copy_of h) e.tcp (taken_as verdict)
      fits = judged_taken h.rst (items_of (is_joined p.profile) s h) e (λ m. MeansIs (copy_of h) e.tcp m) tt (is_joined p.profile) (meaning_of (copy_of h) e.tcp) (means_so (copy_of h) e.tcp)

  abbrev Ends : Duty → Type 0
  Ends d = (c : Comes values (from d)) (m : Meaning) → IsTo values (from d) c (judged.As m) → ends_row m ≡ true → in_a_row (end_at c.due.to (takes values r (from d))) ≡ 0

  abbrev Owing : Duty → Type 0
  Owing d = (c : Comes values (from d)) (m : Meaning) → IsTo values (from d) c (judged.As m) → is_answered m ≡ true → Owes (end_at c.due.to (takes values r (from d)))

  abbrev Acking : Duty → Type 0
  Acking d = (c : Comes values (from d)) (m : Meaning) → IsTo values (from d) c (judged.As m) → is_answered m ≡ true → (m ≡ means.RepeatedSyn → ⊥) → is_half_open (end_at c.due.to p).tcp.state ≡ false
      → (end_at c.due.to (takes values r (from d))).tcp.due.ack ≡ true

  ends : Ends by_event
  ends c m is row =
      let q : PathState Carried = answered values by_event r (from by_event) in
      settled_lasts BothSame same_lasts q.agenda q c.due.to
      ∙ comes_to (λ f. in_a_row f ≡ 0) c m is (λ fits. as_ends p.profile c.due.to (coming_by ds p c).clock (options_heard (end_at c.due.to p) c.segment) (end_at c.due.to p) m row)

  owes : Owing by_event
  owes c m is answers =
      let q : PathState Carried = answered values by_event r (from by_event) in
      owes_still c.due.to q (takes values r (from by_event)) (settled_lasts BothDue due_lasts q.agenda q)
      (comes_to Owes c m is (λ fits. as_owes p.profile c.due.to (coming_by ds p c).clock (options_heard (end_at c.due.to p) c.segment) (end_at c.due.to p) m fits answers))

  acks : Acking by_event
  acks c m is answers other whole =
      let q : PathState Carried = answered values by_event r (from by_event) in
      ap (λ (d : Due). d.ack) (due_still c.due.to q (takes values r (from by_event)) (settled_lasts BothDue due_lasts q.agenda q))
      ∙ comes_to (λ f. f.tcp.due.ack ≡ true) c m is (λ fits. as_acks p.profile c.due.to (coming_by ds p c).clock (options_heard (end_at c.due.to p) c.segment) (end_at c.due.to p) m fits answers other whole)

  abbrev SynAcking : Duty → Type 0
  SynAcking d = (c : Comes values (from d)) (m : Meaning) → IsTo values (from d) c (judged.As m) → is_answered m ≡ true → is_half_open (end_at c.due.to p).tcp.state ≡ true
      → (end_at c.due.to (takes values r (from d))).tcp.due.syn_ack ≡ true

  syn_acks : SynAcking by_event
  syn_acks c m is answers half =
      let q : PathState Carried = answered values by_event r (from by_event) in
      ap (λ (d : Due). d.syn_ack) (due_still c.due.to q (takes values r (from by_event)) (settled_lasts BothDue due_lasts q.agenda q))
      ∙ comes_to (λ f. f.tcp.due.syn_ack ≡ true) c m is (λ fits. as_syn_acks p.profile c.due.to (coming_by ds p c).clock (options_heard (end_at c.due.to p) c.segment) (end_at c.due.to p) m fits answers half)

  answer_counts : (d : Duty) → CopiesCount (from d) (takes values r (from d))
  answer_counts d = record {
    ends = λ c m is row. inr (subst Ends (sym (first_so d by_event ds c.others c.first)) ends c m is row);
    owes = λ c m is answers. inr (subst Owing (sym (first_so d by_event ds c.others c.first)) owes c m is answers);
    acks = λ c m is answers other whole. inr (subst Acking (sym (first_so d by_event ds c.others c.first)) acks c m is answers other whole);
    syn_acks = λ c m is answers half. inr (subst SynAcking (sym (first_so d by_event ds c.others c.first)) syn_acks c m is answers half);
  }

takes_counts : (r : Reply) (p : PathState Carried) → CopiesCount p (takes values r p)
takes_counts r p = by p.agenda
  where
    by : (ds : List Duty) → let x : PathState Carried = with_agenda ds p in CopiesCount x (takes values r x)
    by [] = record { ends = λ c m is row. inl refl; owes = λ c m is answers. inl refl; acks = λ c m is answers other whole. inl refl; syn_acks = λ c m is answers half. inl refl }
    by (d ∷ ds) = answer_counts ds r p d

next_counts : (p : PathState Carried) → is_nil p.agenda ≡ true → CopiesCount p (next_round p)
next_counts p over = record {
  ends = λ c m is row. absurd (true≢false (sym over ∙ ap is_nil c.first));
  owes = λ c m is answers. absurd (true≢false (sym over ∙ ap is_nil c.first));
  acks = λ c m is answers other whole. absurd (true≢false (sym over ∙ ap is_nil c.first));
  syn_acks = λ c m is answers half. absurd (true≢false (sym over ∙ ap is_nil c.first));
}

-- ---- the world

member_counts : (r : Reply) (m : Actor Carried) → PathsHear m (member_takes values r m)
member_counts r (App a) = tt
member_counts r (Path p) = takes_counts r p

member_begins : (m : Actor Carried) → is_over m ≡ true → PathsHear m (member_next m)
member_begins (App a) over = tt
member_begins (Path p) over = next_counts p over

member_stays : (m : Actor Carried) → PathsHear m m
member_stays (App a) = tt
member_stays (Path p) =
    record { ends = λ c m is row. inl refl; owes = λ c m is answers. inl refl; acks = λ c m is answers other whole. inl refl; syn_acks = λ c m is answers half. inl refl }

pub each_copy_that_comes_counts : EachCopyThatComesCounts
each_copy_that_comes_counts w turn = turn_each values (λ c d. PathsHear c.member d.member) (λ c. member_stays c.member) (λ ask books c. member_counts (answer_to books ask) c.member)
    (λ stamp c over. member_begins c.member over) turn w
