-- SND.UNA rises to what a copy acknowledges that an end takes.
use Rattle.std.proofs.Common.{◌≡◌, refl, sym, subst, ap, ◌∙◌, ◌⊎◌, inl, inr, ⊎_elim, ℕ, ◌≤◌, arith, le_refl, nat_lt, nat_le, ◌==◌, Bool, true, false, true≢false, ◌&&◌, if◌then◌else◌, Option, Some, None, List, [], ◌∷◌}
use Rattle.std.proofs.lemmas.Bool.{and_parts, cases_lt, leb-true, lt-ltb, le-leb, ltb-false}
use Rattle.path_segments.specs.Heard.{HeardSegment}
use Rattle.sides.specs.declared.side.Side.{Side}
use Rattle.subflow_send.specs.Records.{SendState}
use Rattle.subflow_send.specs.Rules.{ack_kind, after_acknowledge, sample_of, uncovered}
use Rattle.subflow_send.specs.declared.record.AckKind.TheVariants.{New, Duplicate, Old, Future}
use Rattle.subflow_tcp.specs.declared.handshake.State.{State}
use Rattle.subflow_tcp.specs.declared.handshake.State.TheVariants as phase
use Rattle.subflow_tcp.specs.declared.verdicts.Meaning.{Meaning}
use Rattle.subflow_tcp.specs.declared.verdicts.Meaning.TheVariants as means
use Rattle.subflow_tcp.specs.Judging.{is_syn_alone, is_repeated_syn, is_acceptable, meaning_answering, meaning_outside, meaning_acknowledging, meaning_within, meaning_placed, meaning_connected, meaning_at, meaning_of}
use Rattle.subflow_tcp.specs.Segments.{Copy}
use Rattle.subflow_tcp.specs.State.{EndState, is_at_limit}
use Rattle.subflow_tcp.specs.States.{is_half_open}
use Rattle.subflow_tcp.specs.Taking.{after_ack_kind, after_acknowledgement, after_established, after_hearing, after_payload, after_taken}
use Rattle.actor_desk.specs.declared.ask.Reply.{Reply}
use Rattle.actor_desk.specs.Words.{is_nil}
use Rattle.path_agenda.specs.declared.duty.Duty.{Duty}
use Rattle.path_agenda.specs.declared.duty.Duty.TheVariants as duties
use Rattle.path_agenda.specs.declared.duty.StepDuty.TheVariants as step_duties
use Rattle.path_agenda.specs.declared.heard.Heard.{Heard}
use Rattle.path_core.specs.Arrival.{judged_in, after_judged, copy_of, copy_judged, reset_for, with_payload}
use Rattle.path_core.specs.Codec.{Codec}
use Rattle.path_core.specs.DssIn.{held_of}
use Rattle.path_core.specs.Duties.{passed, answered}
use Rattle.path_core.specs.End.{PathEnd}
use Rattle.path_core.specs.Judged.{taken_as}
use Rattle.path_core.specs.MpJoin.{is_joined}
use Rattle.path_core.specs.OptionsIn.{items_of, options_heard, hint_of, owes_by}
use Rattle.path_core.specs.Profile.{Profile}
use Rattle.path_core.specs.State.{PathState, end_at, with_agenda}
use Rattle.path_core.specs.Steps.{takes, next_round}
use Rattle.path_core.specs.declared.judged.Judged.{Judged}
use Rattle.path_core.specs.declared.judged.Judged.TheVariants as judged
use Rattle.path_core.proofs.Judgements.{judged_taken}
use Rattle.world_laws.specs.declared.member.Member.TheVariants.{App, Path}
use Rattle.world_laws.specs.Actors.{Actor, member_takes, member_next, is_over}
use Rattle.world_laws.specs.StampedBooks.{answer_to}
use Rattle.world_laws.proofs.Writes.Steps.{Lasts, settled_lasts}
use Rattle.whole_paths.specs.Brought.{IsTo}
use Rattle.whole_paths.specs.Hearing.{Acknowledges, Counts, PathsCount, EachAcknowledgementCounts}
use Rattle.whole_paths.proofs.Agendas.{own_end}
use Rattle.whole_paths.proofs.Bringing.{coming_by, comes_so, first_so}
use Rattle.whole_paths.proofs.Came.{held_send, owing_send, heard_send}
use Rattle.whole_paths.proofs.Duties.{passed_steps}
use Rattle.whole_paths.proofs.Turns.{turn_each}
use Rattle.whole_paths.proofs.Waiting.{path_far}

-- ---- what is taken acknowledges nothing past SND.NXT

abbrev IsSent : EndState → Meaning → Type 0
IsSent s (means.Taken pos n) = n ≤ s.send.nxt
IsSent s (means.Accepts n) = n ≤ s.send.nxt
IsSent s _ = Unit {0}

either : (s : EndState) (b : Bool) (m n : Meaning) → IsSent s m → IsSent s n → IsSent s (if b then m else n)
either s true m n x y = x
either s false m n x y = y

acknowledging_sent : (o : Option ℕ) (pos : ℕ) (s : EndState) → IsSent s (meaning_acknowledging o pos s)
acknowledging_sent None pos s = tt
acknowledging_sent (Some n) pos s = (elim (nat_lt s.send.nxt n) as
    (λ b. nat_lt s.send.nxt n ≡ b → IsSent s (if b then means.Ahead else (if is_half_open s.state && n == 0 then means.Unacknowledging else means.Taken pos n)))
    [ true ↦ λ ahead. tt | false ↦ λ is. either s (is_half_open s.state && n == 0) means.Unacknowledging (means.Taken pos n) tt (ltb-false s.send.nxt n is) ]) refl

outside_sent : (c : Copy) (s : EndState) → IsSent s (meaning_outside c)
outside_sent c s = either s c.rst means.Ignored means.Outside tt tt

placed_sent : (o : Option ℕ) (c : Copy) (s : EndState) → IsSent s (meaning_placed o c s)
placed_sent None c s = outside_sent c s
placed_sent (Some pos) c s = either s (is_acceptable s.recv.edge pos c) (meaning_within pos c s) (meaning_outside c)
    (either s c.rst (if pos == s.recv.edge then means.Kills else means.Challenged) (if c.syn then means.Challenged else meaning_acknowledging c.acknowledged pos s)
    (either s (pos == s.recv.edge) means.Kills means.Challenged tt tt)
    (either s c.syn means.Challenged (meaning_acknowledging c.acknowledged pos s) tt (acknowledging_sent c.acknowledged pos s)))
    (outside_sent c s)

connected_sent : (c : Copy) (s : EndState) → IsSent s (meaning_connected c s)
connected_sent c s = either s (is_at_limit s) means.Ignored (if is_repeated_syn c s then means.RepeatedSyn else meaning_placed c.position c s) tt
    (either s (is_repeated_syn c s) means.RepeatedSyn (meaning_placed c.position c s) tt (placed_sent c.position c s))

answering_sent : (o : Option ℕ) (c : Copy) (s : EndState) → IsSent s (meaning_answering o c s)
answering_sent None c s = tt
answering_sent (Some n) c s = (elim (nat_lt 0 n && nat_le n s.send.nxt) as
    (λ b. (nat_lt 0 n && nat_le n s.send.nxt) ≡ b → IsSent s (if b then (if c.rst then means.Kills else (if c.syn then means.Accepts n else means.Ignored)) else means.Ignored)) [
      | true ↦ λ is. either s c.rst means.Kills (if c.syn then means.Accepts n else means.Ignored) tt
          (either s c.syn (means.Accepts n) means.Ignored (leb-true n s.send.nxt (and_parts (nat_lt 0 n) (nat_le n s.send.nxt) is).1) tt)
      | false ↦ λ is. tt
    ]) refl

meaning_sent : (state : State) (c : Copy) (s : EndState) → IsSent s (meaning_at state c s)
meaning_sent phase.Dead c s = either s c.rst means.Ignored means.Unwanted tt tt
meaning_sent phase.Waiting c s = tt
meaning_sent phase.Listen c s = either s (is_syn_alone c) means.Opens means.Ignored tt tt
meaning_sent phase.SynSent c s = either s (is_at_limit s) means.Ignored (meaning_answering c.acknowledged c s) tt (answering_sent c.acknowledged c s)
meaning_sent _ c s = connected_sent c s

-- ---- SND.UNA

-- SND.UNA is that position then, or past it
reached : (n : ℕ) (v : SendState) → n ≤ v.nxt → n ≤ (after_acknowledge n v).una
reached n v sent = ⊎_elim
    (λ low. subst (λ b. n ≤ (if b then record v { una = n; records = uncovered n v.records } else v).una) (sym (ap (λ b. b && nat_le n v.nxt) (lt-ltb v.una n low) ∙ le-leb n v.nxt sent)) (le_refl n))
    (λ high. (elim (nat_lt v.una n && nat_le n v.nxt) as (λ b. n ≤ (if b then record v { una = n; records = uncovered n v.records } else v).una) [ true ↦ le_refl n | false ↦ high ]))
    (cases_lt v.una n)

ack_reaches : (n now : ℕ) (s : EndState) → n ≤ s.send.nxt → n ≤ (after_acknowledgement n now s).send.una
ack_reaches n now s sent = elim (ack_kind n s.send) as (λ kind. n ≤ (after_ack_kind kind (sample_of n s.send) now (record s { send = after_acknowledge n s.send })).send.una)
    [ New octets ↦ reached n s.send sent | Duplicate ↦ reached n s.send sent | Old ↦ reached n s.send sent | Future ↦ reached n s.send sent ]

module _ (c : Profile) (s : Side) (now : ℕ) (x : HeardSegment) (e : PathEnd) where
  abbrev heard_as : Meaning → PathEnd
  heard_as m = copy_judged (is_joined c) (held_of c s x) (reset_for c s x) s now x m e

  taken_reaches : (pos n : ℕ) → n ≤ e.tcp.send.nxt → n ≤ (heard_as (means.Taken pos n)).tcp.send.una
  taken_reaches pos n sent =
      let items : List Heard = items_of (is_joined c) s x in
      let hint = hint_of items in
      let held = with_payload (means.Taken pos n) x.payload e.tcp in
      let ready = after_established (after_hearing (after_payload pos hint (copy_of x) held)) in
      subst (λ (v : SendState). n ≤ v.una) (sym (owing_send (owes_by (means.Taken pos n) items) (after_taken pos n hint now (copy_of x) held) ∙ heard_send n hint now (copy_of x) ready))
      (ack_reaches n now ready (subst (λ (v : SendState). n ≤ v.nxt) (sym (held_send (means.Taken pos n) x.payload e.tcp)) sent))

  accepted_reaches : (n : ℕ) → n ≤ e.tcp.send.nxt → n ≤ (heard_as (means.Accepts n)).tcp.send.una
  accepted_reaches n sent = ack_reaches n now (record (after_hearing (after_payload 1 (hint_of (items_of (is_joined c) s x)) (copy_of x) e.tcp)) { state = phase.Established }) sent

module _ {C : Type 0} where
  -- ---- a path

  abbrev Up : PathState C → PathState C → Type 0
  Up p q = (t : Side) → (end_at t p).tcp.send.una ≤ (end_at t q).tcp.send.una

  up_lasts : Lasts Up
  up_lasts = record {
    agenda = λ ds p t. le_refl (end_at t p).tcp.send.una;
    chains = λ p q r x y t. (let one = x t in let two = y t in omega (arith, one, two));
    passes = λ d p t. (path_far p (passed d p) (passed_steps d p) t).subflow.acknowledged;
  }

  module _ (k : Codec C) (ds : List Duty) (r : Reply) (p : PathState C) where
    abbrev from : Duty → PathState C
    from d = with_agenda (d ∷ ds) p

    abbrev Counted : (d : Duty) → Acknowledges k (from d) → Type 0
    Counted d a = a.acknowledged ≤ (end_at a.copy.due.to (takes k r (from d))).tcp.send.una

    counted : (a : Acknowledges k (from (duties.Step step_duties.Events))) → Counted (duties.Step step_duties.Events) a
    counted a =
        let up = settled_lasts Up up_lasts q.agenda q s in
        let at = comes_so (λ (v : PathState C). n ≤ (end_at s v).tcp.send.una) k ds r p a.copy (subst (λ (f : PathEnd). n ≤ f.tcp.send.una) (sym (own_end s (heard verdict) p.a p.b)) (by a.taken)) in
        omega (arith, up, at)
      where
        q : PathState C
        q = answered k (duties.Step step_duties.Events) r (from (duties.Step step_duties.Events))

        s : Side
        s = a.copy.due.to

        n : ℕ
        n = a.acknowledged

        e : PathEnd
        e = end_at s p

        now : ℕ
        now = (coming_by ds p a.copy).clock

        x : HeardSegment
        x = options_heard e a.copy.segment

        verdict : Judged
        verdict = judged_in (is_joined p.profile) s x e

        heard : Judged → PathEnd
        heard v = after_judged p.profile s now x v e

        sent : IsSent e.tcp (taken_as verdict)
        sent = judged_taken x.rst (items_of (is_joined p.profile) s x) e (λ m. IsSent e.tcp m) tt (is_joined p.profile) (meaning_of (copy_of x) e.tcp) (meaning_sent e.tcp.state (copy_of x) e.tcp)

        by : ((position : ℕ) × IsTo k (from (duties.Step step_duties.Events)) a.copy (judged.As (means.Taken position n))) ⊎ IsTo k (from (duties.Step step_duties.Events)) a.copy (judged.As (means.Accepts n))
            → n ≤ (heard verdict).tcp.send.una
        by (inl (pos, is)) = subst (λ v. n ≤ (heard v).tcp.send.una) (sym is) (taken_reaches p.profile s now x e pos n (subst (λ v. IsSent e.tcp (taken_as v)) is sent))
        by (inr is) = subst (λ v. n ≤ (heard v).tcp.send.una) (sym is) (accepted_reaches p.profile s now x e n (subst (λ v. IsSent e.tcp (taken_as v)) is sent))

    answer_counts : (d : Duty) → Counts k (from d) (takes k r (from d))
    answer_counts d =
        record { counts = λ a. inr (subst (λ d. (a : Acknowledges k (from d)) → Counted d a) (sym (first_so d (duties.Step step_duties.Events) ds a.copy.others a.copy.first)) counted a) }

  path_stays : (k : Codec C) (p : PathState C) → Counts k p p
  path_stays k p = record { counts = λ a. inl refl }

  takes_counts : (k : Codec C) (r : Reply) (p : PathState C) → Counts k p (takes k r p)
  takes_counts k r p = by p.agenda
    where
      by : (ds : List Duty) → let x : PathState C = with_agenda ds p in Counts k x (takes k r x)
      by [] = path_stays k (with_agenda [] p)
      by (d ∷ ds) = answer_counts k ds r p d

  next_counts : (k : Codec C) (p : PathState C) → is_nil p.agenda ≡ true → Counts k p (next_round p)
  next_counts k p over = record { counts = λ a. absurd (true≢false (sym over ∙ ap is_nil a.copy.first)) }

  -- ---- the world

  member_counts : (k : Codec C) (r : Reply) (m : Actor C) → PathsCount k m (member_takes k r m)
  member_counts k r (App a) = tt
  member_counts k r (Path p) = takes_counts k r p

  member_begins : (k : Codec C) (m : Actor C) → is_over m ≡ true → PathsCount k m (member_next m)
  member_begins k (App a) over = tt
  member_begins k (Path p) over = next_counts k p over

  member_stays : (k : Codec C) (m : Actor C) → PathsCount k m m
  member_stays k (App a) = tt
  member_stays k (Path p) = path_stays k p

  pub each_acknowledgement_counts : (k : Codec C) → EachAcknowledgementCounts k
  each_acknowledgement_counts k = λ w turn. turn_each k (λ c d. PathsCount k c.member d.member) (λ c. member_stays k c.member) (λ ask books c. member_counts k (answer_to books ask) c.member)
      (λ stamp c over. member_begins k c.member over) turn w
