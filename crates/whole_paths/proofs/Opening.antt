-- A copy takes the end that it comes to as far as it means.
use Rattle.std.proofs.Common.{◌≡◌, refl, sym, subst, ap, ◌∙◌, inl, inr, ℕ, ◌≤◌, arith, le_refl, nat_lt, nat_le, Bool, true, false, true≢false, ◌&&◌, if◌then◌else◌, Option, Some, None, List, [], ◌∷◌}
use Rattle.path_segments.specs.Heard.{HeardSegment}
use Rattle.sides.specs.declared.side.Side.{Side}
use Rattle.subflow_send.specs.Rules.{ack_kind, after_acknowledge, sample_of}
use Rattle.subflow_send.specs.declared.record.AckKind.TheVariants.{New, Duplicate, Old, Future}
use Rattle.subflow_tcp.specs.declared.handshake.State.{State}
use Rattle.subflow_tcp.specs.declared.handshake.State.TheVariants as phase
use Rattle.subflow_tcp.specs.declared.segments.Hint.{Hint}
use Rattle.subflow_tcp.specs.declared.verdicts.Meaning.{Meaning}
use Rattle.subflow_tcp.specs.declared.verdicts.Meaning.TheVariants as means
use Rattle.subflow_tcp.specs.Judging.{is_syn_alone, meaning_answering, meaning_at, meaning_of}
use Rattle.subflow_tcp.specs.Segments.{Copy}
use Rattle.subflow_tcp.specs.State.{EndState, is_at_limit}
use Rattle.subflow_tcp.specs.States.{after_fin_acked, after_handshake}
use Rattle.subflow_tcp.specs.Taking.{is_fin_acked, after_ack_kind, after_acknowledgement, after_established, after_heard_ack, after_hearing, after_payload, after_taken, after_telling, after_duplicate, after_interruption, is_duplicate, told_by}
use Rattle.actor_desk.specs.declared.ask.Reply.{Reply}
use Rattle.actor_desk.specs.Words.{is_nil}
use Rattle.path_agenda.specs.declared.duty.Duty.{Duty}
use Rattle.path_agenda.specs.declared.duty.Duty.TheVariants as duties
use Rattle.path_agenda.specs.declared.duty.StepDuty.TheVariants as step_duties
use Rattle.path_agenda.specs.declared.heard.Heard.{Heard}
use Rattle.path_core.specs.Arrival.{judged_in, after_judged, copy_of, copy_judged, owing_if, reset_for, with_payload}
use Rattle.path_core.specs.Codec.{Codec}
use Rattle.path_core.specs.DssIn.{held_of}
use Rattle.path_core.specs.Duties.{passed, answered}
use Rattle.path_core.specs.End.{PathEnd}
use Rattle.path_core.specs.Judged.{taken_as}
use Rattle.path_core.specs.MpJoin.{is_joined}
use Rattle.path_core.specs.OptionsIn.{items_of, options_heard, hint_of, owes_by}
use Rattle.path_core.specs.Profile.{Profile}
use Rattle.path_core.specs.State.{PathState, end_at, with_agenda}
use Rattle.path_core.specs.Steps.{takes, next_round}
use Rattle.path_core.specs.declared.judged.Judged.{Judged}
use Rattle.path_core.specs.declared.judged.Judged.TheVariants as judged
use Rattle.path_core.proofs.Judgements.{judged_taken}
use Rattle.world_laws.specs.declared.member.Member.TheVariants.{App, Path}
use Rattle.world_laws.specs.Actors.{Actor, member_takes, member_next, is_over}
use Rattle.world_laws.specs.StampedBooks.{answer_to}
use Rattle.world_laws.proofs.Writes.Steps.{Lasts, settled_lasts}
use Rattle.whole_paths.specs.AsFar.{stage}
use Rattle.whole_paths.specs.Brought.{Comes, IsTo}
use Rattle.whole_paths.specs.Opening.{opens_to, OpensSoFar, PathsOpen, EachHandshakeCounts}
use Rattle.whole_paths.proofs.Agendas.{own_end}
use Rattle.whole_paths.proofs.Bringing.{coming_by, comes_so, first_so}
use Rattle.whole_paths.proofs.Duties.{passed_steps}
use Rattle.whole_paths.proofs.Turns.{turn_each}
use Rattle.whole_paths.proofs.Waiting.{path_far}

-- ---- what is taken comes to an end that has the peer's SYN

abbrev pub HasSyn : State → Meaning → Type 0
HasSyn state (means.Taken pos n) = 2 ≤ stage state
HasSyn state _ = Unit {0}

answering_has : (state : State) (o : Option ℕ) (c : Copy) (s : EndState) → HasSyn state (meaning_answering o c s)
answering_has state None c s = tt
answering_has state (Some n) c s = elim (nat_lt 0 n && nat_le n s.send.nxt) as (λ b. HasSyn state (if b then (if c.rst then means.Kills else (if c.syn then means.Accepts n else means.Ignored)) else means.Ignored)) [
  | true ↦ (elim c.rst as (λ b. HasSyn state (if b then means.Kills else (if c.syn then means.Accepts n else means.Ignored)))
      [ true ↦ tt | false ↦ (elim c.syn as (λ b. HasSyn state (if b then means.Accepts n else means.Ignored)) [ true ↦ tt | false ↦ tt ]) ])
  | false ↦ tt
]

high_has : (state : State) (m : Meaning) → 2 ≤ stage state → HasSyn state m
high_has state (means.Taken pos n) high = high
high_has state _ high = tt

pub meaning_has : (state : State) (c : Copy) (s : EndState) → HasSyn state (meaning_at state c s)
meaning_has phase.Dead c s = elim c.rst as (λ b. HasSyn phase.Dead (if b then means.Ignored else means.Unwanted)) [ true ↦ tt | false ↦ tt ]
meaning_has phase.Waiting c s = tt
meaning_has phase.Listen c s = elim (is_syn_alone c) as (λ b. HasSyn phase.Listen (if b then means.Opens else means.Ignored)) [ true ↦ tt | false ↦ tt ]
meaning_has phase.SynSent c s = elim (is_at_limit s) as (λ b. HasSyn phase.SynSent (if b then means.Ignored else meaning_answering c.acknowledged c s))
    [ true ↦ tt | false ↦ answering_has phase.SynSent c.acknowledged c s ]
meaning_has state c s = high_has state (meaning_at state c s) (omega arith)

-- ---- the state

fin_acked_up : (state : State) → stage state ≤ stage (after_fin_acked state)
fin_acked_up phase.FinWait1 = omega arith
fin_acked_up phase.Closing = omega arith
fin_acked_up state = le_refl (stage state)

pub established_up : (state : State) → 2 ≤ stage state → 3 ≤ stage (after_handshake state)
established_up phase.SynReceived high = le_refl 3
established_up phase.Waiting high = absurd (omega (arith, high))
established_up phase.Listen high = absurd (omega (arith, high))
established_up phase.SynSent high = absurd (omega (arith, high))
established_up _ high = omega arith

ack_up : (n now : ℕ) (s : EndState) → stage s.state ≤ stage (after_acknowledgement n now s).state
ack_up n now s = elim (ack_kind n s.send) as (λ kind. stage s.state ≤ stage (after_ack_kind kind (sample_of n s.send) now (record s { send = after_acknowledge n s.send })).state) [
  | New octets ↦ (elim (is_fin_acked (after_acknowledge n s.send)) as (λ b. stage s.state ≤ stage (if b then after_fin_acked s.state else s.state)) [ true ↦ fin_acked_up s.state | false ↦ le_refl (stage s.state) ])
  | Duplicate ↦ le_refl (stage s.state)
  | Old ↦ le_refl (stage s.state)
  | Future ↦ le_refl (stage s.state)
]

pub heard_state : (n : ℕ) (hint : Hint) (now : ℕ) (c : Copy) (s : EndState) → (after_heard_ack n hint now c s).state ≡ (after_acknowledgement n now s).state
heard_state n hint now c s = elim (is_duplicate (ack_kind n s.send) (told_by hint c) c (after_acknowledgement n now s)) as
    (λ b. (after_telling (told_by hint c) (if b then after_duplicate (after_acknowledgement n now s) else after_interruption (after_acknowledgement n now s))).state ≡ (after_acknowledgement n now s).state)
    [ true ↦ refl | false ↦ refl ]

pub owing_state : (b : Bool) (s : EndState) → (owing_if b s).state ≡ s.state
owing_state true s = refl
owing_state false s = refl

pub held_state : (m : Meaning) (payload : List ℕ) (s : EndState) → (with_payload m payload s).state ≡ s.state
held_state (means.Taken pos n) [] s = refl
held_state (means.Taken pos n) (octet ∷ octets) s = refl
held_state _ payload s = refl

module _ (c : Profile) (s : Side) (now : ℕ) (x : HeardSegment) (e : PathEnd) where
  abbrev pub heard_as : Meaning → PathEnd
  heard_as m = copy_judged (is_joined c) (held_of c s x) (reset_for c s x) s now x m e

  taken_up : (pos n : ℕ) → 2 ≤ stage e.tcp.state → 3 ≤ stage (heard_as (means.Taken pos n)).tcp.state
  taken_up pos n high =
      let items : List Heard = items_of (is_joined c) s x in
      let hint = hint_of items in
      let held = with_payload (means.Taken pos n) x.payload e.tcp in
      let ready = after_established (after_hearing (after_payload pos hint (copy_of x) held)) in
      let up : 3 ≤ stage ready.state = subst (λ state. 3 ≤ stage (after_handshake state)) (sym (held_state (means.Taken pos n) x.payload e.tcp)) (established_up e.tcp.state high) in
      let more = ack_up n now ready in
      subst (λ state. 3 ≤ stage state) (sym (owing_state (owes_by (means.Taken pos n) items) (after_taken pos n hint now (copy_of x) held) ∙ heard_state n hint now (copy_of x) ready)) (omega (arith, up, more))

  pub means_up : (m : Meaning) → HasSyn e.tcp.state m → opens_to m ≤ stage (heard_as m).tcp.state
  means_up means.Opens has = le_refl 2
  means_up (means.Accepts n) has = ack_up n now (record (after_hearing (after_payload 1 (hint_of (items_of (is_joined c) s x)) (copy_of x) e.tcp)) { state = phase.Established })
  means_up (means.Taken pos n) has = taken_up pos n has
  means_up _ has = omega arith

module _ {C : Type 0} where
  -- ---- a path

  abbrev Up : PathState C → PathState C → Type 0
  Up p q = (t : Side) → stage (end_at t p).tcp.state ≤ stage (end_at t q).tcp.state

  up_lasts : Lasts Up
  up_lasts = record {
    agenda = λ ds p t. le_refl (stage (end_at t p).tcp.state);
    chains = λ p q r x y t. (let one = x t in let two = y t in omega (arith, one, two));
    passes = λ d p t. (path_far p (passed d p) (passed_steps d p) t).subflow.state;
  }

  module _ (k : Codec C) (ds : List Duty) (r : Reply) (p : PathState C) where
    abbrev from : Duty → PathState C
    from d = with_agenda (d ∷ ds) p

    abbrev Opened : (d : Duty) → Comes k (from d) → Type 0
    Opened d c = (m : Meaning) → IsTo k (from d) c (judged.As m) → opens_to m ≤ stage (end_at c.due.to (takes k r (from d))).tcp.state

    opened : (c : Comes k (from (duties.Step step_duties.Events))) → Opened (duties.Step step_duties.Events) c
    opened c m is =
        let up = settled_lasts Up up_lasts q.agenda q s in
        let at = comes_so (λ (v : PathState C). opens_to m ≤ stage (end_at s v).tcp.state) k ds r p c (subst (λ (f : PathEnd). opens_to m ≤ stage f.tcp.state) (sym (own_end s (heard verdict) p.a p.b)) by) in
        omega (arith, up, at)
      where
        q : PathState C
        q = answered k (duties.Step step_duties.Events) r (from (duties.Step step_duties.Events))

        s : Side
        s = c.due.to

        e : PathEnd
        e = end_at s p

        now : ℕ
        now = (coming_by ds p c).clock

        x : HeardSegment
        x = options_heard e c.segment

        verdict : Judged
        verdict = judged_in (is_joined p.profile) s x e

        heard : Judged → PathEnd
        heard v = after_judged p.profile s now x v e

        has : HasSyn e.tcp.state (taken_as verdict)
        has = judged_taken x.rst (items_of (is_joined p.profile) s x) e (λ m. HasSyn e.tcp.state m) tt (is_joined p.profile) (meaning_of (copy_of x) e.tcp) (meaning_has e.tcp.state (copy_of x) e.tcp)

        by : opens_to m ≤ stage (heard verdict).tcp.state
        by = subst (λ v. opens_to m ≤ stage (heard v).tcp.state) (sym is) (means_up p.profile s now x e m (subst (λ v. HasSyn e.tcp.state (taken_as v)) is has))

    answer_opens : (d : Duty) → OpensSoFar k (from d) (takes k r (from d))
    answer_opens d = record {
      opens = λ c m is. inr (subst (λ d. (c : Comes k (from d)) → Opened d c) (sym (first_so d (duties.Step step_duties.Events) ds c.others c.first)) opened c m is);
    }

  path_stays : (k : Codec C) (p : PathState C) → OpensSoFar k p p
  path_stays k p = record { opens = λ c m is. inl refl }

  takes_opens : (k : Codec C) (r : Reply) (p : PathState C) → OpensSoFar k p (takes k r p)
  takes_opens k r p = by p.agenda
    where
      by : (ds : List Duty) → let x : PathState C = with_agenda ds p in OpensSoFar k x (takes k r x)
      by [] = path_stays k (with_agenda [] p)
      by (d ∷ ds) = answer_opens k ds r p d

  next_opens : (k : Codec C) (p : PathState C) → is_nil p.agenda ≡ true → OpensSoFar k p (next_round p)
  next_opens k p over = record { opens = λ c m is. absurd (true≢false (sym over ∙ ap is_nil c.first)) }

  -- ---- the world

  member_opens : (k : Codec C) (r : Reply) (m : Actor C) → PathsOpen k m (member_takes k r m)
  member_opens k r (App a) = tt
  member_opens k r (Path p) = takes_opens k r p

  member_begins : (k : Codec C) (m : Actor C) → is_over m ≡ true → PathsOpen k m (member_next m)
  member_begins k (App a) over = tt
  member_begins k (Path p) over = next_opens k p over

  member_stays : (k : Codec C) (m : Actor C) → PathsOpen k m m
  member_stays k (App a) = tt
  member_stays k (Path p) = path_stays k p

  pub each_handshake_counts : (k : Codec C) → EachHandshakeCounts k
  each_handshake_counts k = λ w turn. turn_each k (λ c d. PathsOpen k c.member d.member) (λ c. member_stays k c.member) (λ ask books c. member_opens k (answer_to books ask) c.member)
      (λ stamp c over. member_begins k c.member over) turn w
