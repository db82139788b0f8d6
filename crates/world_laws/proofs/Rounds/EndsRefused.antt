-- An end of a path ends its turn only where it may ask for nothing more, or was refused: after each thing that could let it ask
-- the duty that asks is ahead, or the end is to die.
--
-- What must still come in a turn is a test on the agenda that computes (`is_followed`, `is_owed` in
-- `proofs/Rounds/EndsRefused`), so that each template is `refl`: either the duty that asks is ahead, or the end is
-- paid.
use Rattle.world_laws.proofs.Words.{◌≡◌, refl, sym, ◌∙◌, ap, ℕ, zero, suc, ◌+◌, ◌&&◌, ◌||◌, not, inl, inr, ◌⊎◌, ⊎_elim, Bool, true, false, if◌then◌else◌}
use Rattle.world_laws.proofs.Words.{Option, Some, None, List, [], ◌∷◌, ◌++◌, length, and_parts, both_ways, false≢true, true≢false, not-true, same_Some}
use Rattle.world_laws.proofs.Words.{FallEvent, Side, A, B, peer, same_side, JoinSyn, Record, Meaning, is_sixth, EndPhase, arriving, after_delivery}
use Rattle.world_laws.proofs.Words.{HeardSegment, PlainSegment, LineAction, Piece, rest_of_turn, emission, syn_came, syn_ack_came, join_came, refuses}
use Rattle.world_laws.proofs.Words.{join_answered, heard_and, payload_came, copy_came, syn_again, answers_dead, expired, expired_for_ever, leaves, resets}
use Rattle.world_laws.proofs.Words.{stops, announces, withdraws, Duty, SendDuty, StepDuty, AskDuty, SilentDuty, Heard, KeyPair, key_heard, keys_heard, Reply}
use Rattle.world_laws.proofs.Words.{tail_of, Codec, stands, passed, answered, PathEnd, died, answered_ack_out, at_tick, PathState, end_at, goes_on, with_end}
use Rattle.world_laws.proofs.Words.{with_agenda, left, settled, items_of, options_heard, copy_judged, judged_in, reset_for, template_by, template_judged}
use Rattle.world_laws.proofs.Words.{heard_in, copy_heard, reset_of, reset_on, answered_break, path_died, died_unless_dead, answered_data, answered_grant}
use Rattle.world_laws.proofs.Words.{data_stands, first_unsent, may_ask, fits, Judged, next_event, after_line, happens_if, join_begun, never_joined, asked_at}
use Rattle.world_laws.proofs.Words.{is_never, join_taken, keys_begun, opened_by, is_joined, template_fired, piece_of, is_placed, answered_piece}
use Rattle.world_laws.proofs.Words.{answered_plain_fin, answered_fin_heard, is_fin_set, is_clash, with_learned, held_of, told_next, answered_item, item_of}
use Rattle.world_laws.proofs.Words.{after_check_failed, after_fell, fell_duties, with_plain_ack, breaks_by_ack, after_fail_heard, answered_fell}
use Rattle.world_laws.proofs.Words.{answered_peer_key, answered_opened, is_stopped_by, with_priority, after_peer_notice, Profile, sent_on, taken_as, if_so}
use Rattle.subflow_tcp.specs.States as states
use Rattle.path_core.specs.declared.events.Event.{Event}
use Rattle.path_agenda.specs.Agenda.{answers, breaks}
use Rattle.path_core.specs.Emission.{Grant}
use Rattle.world_laws.proofs.Rounds.GrantAtOneDuty.{MayNotAsk}
use Rattle.world_laws.proofs.Falls.Verdicts.{fell_cases}
use Rattle.world_laws.proofs.Falls.FailedChecks.{fail_answered_so}

-- ---- what is ahead

-- the duty lets the end of this side ask, or its end die
abbrev pub pays : Side → Duty → Bool
pays s (Duty.Step (StepDuty.Data t)) = same_side s t
pays s (Duty.Ask (AskDuty.BreakAck t reason)) = same_side s t
pays s (Duty.Send (SendDuty.BreakReset t reason)) = same_side s t
pays s (Duty.Send (SendDuty.Reset t)) = same_side s t
pays s _ = false

abbrev pub is_owed : Side → List Duty → Bool
is_owed s [] = false
is_owed s (d ∷ ds) = pays s d || is_owed s ds

abbrev none_owed : List Duty → Bool
none_owed ds = not (is_owed A ds) && not (is_owed B ds)

-- what has to come after a duty
abbrev pub needs : Duty → List Duty → Bool
needs (Duty.Ask AskDuty.JoinAgain) ds = is_owed A ds
needs (Duty.Step (StepDuty.Look s)) ds = is_owed s ds
needs (Duty.Send (SendDuty.Update s)) ds = is_owed s ds
needs (Duty.Send (SendDuty.FastClose s)) ds = is_owed s ds
needs (Duty.Send (SendDuty.Notice s)) ds = is_owed s ds
needs (Duty.Send (SendDuty.Syn s)) ds = is_owed s ds
needs (Duty.Ask (AskDuty.SynHeard s)) ds = is_owed s ds
needs (Duty.Ask (AskDuty.SynAnswered s)) ds = is_owed s ds
needs (Duty.Ask (AskDuty.PeerKey s)) ds = is_owed s ds && not (is_owed (peer s) ds)
needs (Duty.Send (SendDuty.SynAck s)) ds = is_owed s ds
needs (Duty.Ask (AskDuty.JoinHeard s)) ds = is_owed s ds
needs (Duty.Ask (AskDuty.Opened s)) ds = is_owed s ds && not (is_owed (peer s) ds)
needs (Duty.Step (StepDuty.Heard s index)) ds = is_owed s ds && not (is_owed (peer s) ds)
needs (Duty.Ask (AskDuty.AckHeard s)) ds = is_owed s ds && not (is_owed (peer s) ds)
needs (Duty.Ask (AskDuty.FailHeard s)) ds = is_owed s ds && not (is_owed (peer s) ds)
needs (Duty.Step (StepDuty.PlainAck s)) ds = is_owed s ds && not (is_owed (peer s) ds)
needs (Duty.Ask (AskDuty.PlainHandshake s)) ds = is_owed s ds && not (is_owed (peer s) ds)
needs (Duty.Ask (AskDuty.SubflowAck s)) ds = is_owed s ds
needs (Duty.Ask (AskDuty.PlainData s)) ds = is_owed s ds && not (is_owed (peer s) ds)
needs (Duty.Ask (AskDuty.GoIdentity s)) ds = is_owed s ds
needs (Duty.Step (StepDuty.Unmapped s)) ds = is_owed s ds && not (is_owed (peer s) ds)
needs (Duty.Ask (AskDuty.SubflowFin s)) ds = is_owed s ds && not (is_owed (peer s) ds)
needs (Duty.Silent (SilentDuty.Keep s)) ds = is_owed s ds
needs (Duty.Ask (AskDuty.Edge s)) ds = is_owed s ds && not (is_owed (peer s) ds)
needs (Duty.Ask (AskDuty.CheckFailed s)) ds = is_owed s ds && not (is_owed (peer s) ds)
needs (Duty.Ask (AskDuty.HeardFin s index)) ds = is_owed s ds && not (is_owed (peer s) ds)
needs (Duty.Silent (SilentDuty.PassFin s)) ds = is_owed s ds
needs (Duty.Ask (AskDuty.Rate s)) ds = is_owed s ds
needs (Duty.Send (SendDuty.Acknowledge s)) ds = is_owed s ds
needs (Duty.Send (SendDuty.Again s)) ds = is_owed s ds
needs (Duty.Send (SendDuty.Answer s)) ds = is_owed s ds
needs (Duty.Send (SendDuty.Resend s)) ds = is_owed s ds
needs (Duty.Ask (AskDuty.BreakAck s reason)) ds = none_owed ds
needs (Duty.Send (SendDuty.BreakReset s reason)) ds = none_owed ds
needs (Duty.Send (SendDuty.Reset s)) ds = none_owed ds
needs (Duty.Ask (AskDuty.LeaveNoted s)) ds = is_owed s ds
needs (Duty.Send (SendDuty.ResetNoted s)) ds = is_owed s ds
needs (Duty.Step StepDuty.Events) ds = none_owed ds
needs Duty.End ds = none_owed ds
needs _ ds = true

abbrev pub is_followed : List Duty → Bool
is_followed [] = true
is_followed (d ∷ ds) = needs d ds && is_followed ds

-- ---- templates

-- templates that have what the end of this side needs
record IsOwedThere (s : Side) (ds : List Duty) : Type 0 where
  owed : is_owed s ds ≡ true
  followed : is_followed ds ≡ true

emission_there : (s : Side) → IsOwedThere s (emission s)
emission_there = elim [ A ↦ record { owed = refl; followed = refl } | B ↦ record { owed = refl; followed = refl } ]

syn_there : (s : Side) → IsOwedThere s (syn_came s)
syn_there = elim [ A ↦ record { owed = refl; followed = refl } | B ↦ record { owed = refl; followed = refl } ]

syn_ack_there : (s : Side) → IsOwedThere s (syn_ack_came s)
syn_ack_there = elim [ A ↦ record { owed = refl; followed = refl } | B ↦ record { owed = refl; followed = refl } ]

answered_there : (s : Side) → IsOwedThere s (join_answered s)
answered_there = elim [ A ↦ record { owed = refl; followed = refl } | B ↦ record { owed = refl; followed = refl } ]

again_there : (s : Side) → IsOwedThere s (syn_again s)
again_there = elim [ A ↦ record { owed = refl; followed = refl } | B ↦ record { owed = refl; followed = refl } ]

answer_there : (s : Side) → IsOwedThere s (answers s)
answer_there = elim [ A ↦ record { owed = refl; followed = refl } | B ↦ record { owed = refl; followed = refl } ]

join_there : (s : Side) → IsOwedThere s (join_came s)
join_there = elim [ A ↦ record { owed = refl; followed = refl } | B ↦ record { owed = refl; followed = refl } ]

refusal_there : (s : Side) → IsOwedThere s (refuses s)
refusal_there = elim [ A ↦ record { owed = refl; followed = refl } | B ↦ record { owed = refl; followed = refl } ]

reset_there : (s : Side) → IsOwedThere s (resets s 1)
reset_there = elim [ A ↦ record { owed = refl; followed = refl } | B ↦ record { owed = refl; followed = refl } ]

-- what a copy said is to be treated, and its payload
record IsCopy (s : Side) (ds : List Duty) : Type 0 where
  followed : is_followed ds ≡ true
  owed : is_owed s ds ≡ true
  other : is_owed (peer s) ds ≡ false

things_heard : (s : Side) (from count : ℕ) (ds : List Duty) → IsCopy s ds → IsCopy s (heard_and s from count ds)
things_heard s from zero ds h = h
things_heard s from (suc count) ds h =
    let rest = things_heard s (from + 1) count ds h in
    record { followed = rw (rest.owed, rest.other, rest.followed) refl; owed = rest.owed; other = rest.other }

payload_is : (s : Side) → IsCopy s (payload_came s)
payload_is A = record { followed = refl; owed = refl; other = refl }
payload_is B = record { followed = refl; owed = refl; other = refl }

copy_is : (s : Side) (count : ℕ) → IsCopy s (copy_came s count)
copy_is s count =
    let rest = things_heard s 0 count (payload_came s) (payload_is s) in
    record { followed = rw (rest.owed, rest.other, rest.followed) refl; owed = rest.owed; other = rest.other }

-- ---- an end

-- where it has no record to send and may ask, it was refused; and a record that is to be sent has no room
pub record IsPaid (c : Profile) (s : Side) (e : PathEnd) (refused : Bool) : Type 0 where
  pub paid : first_unsent e ≡ None → may_ask c s e ≡ true → refused ≡ true
  pub waits : (r : Record) → first_unsent e ≡ Some r → states.may_finish e.tcp.state ≡ true → fits e.tcp r ≡ false

finished : (state : EndPhase) → states.may_finish (states.after_finish state) ≡ false
finished = elim [ EndPhase.Waiting ↦ refl | _ ↦ refl ]

dead_is_done : (state : EndPhase) → states.is_dead state ≡ true → states.may_finish state ≡ false
dead_is_done = elim [ EndPhase.Dead ↦ λ is. refl | _ ↦ λ is. absurd (false≢true is) ]

-- an end that can't push a FIN asks for nothing
closed_paid : (c : Profile) (s : Side) (e : PathEnd) (refused : Bool) → states.may_finish e.tcp.state ≡ false → IsPaid c s e refused
closed_paid c s e refused over = record {
  paid = λ none may. absurd (both_ways (states.may_finish e.tcp.state) over (and_parts (states.may_finish e.tcp.state) _ may).0);
  waits = λ r is sends. absurd (both_ways (states.may_finish e.tcp.state) over sends);
}

-- an end that may push a FIN sends records
sends_records : (state : EndPhase) → states.may_finish state ≡ true → states.is_closed_to_segments state ≡ false
sends_records EndPhase.Established is = refl
sends_records EndPhase.CloseWait is = refl
sends_records _ is = absurd (false≢true is)

unless_dead_paid : (c : Profile) (s : Side) (e : PathEnd) (refused : Bool) → IsPaid c s (died_unless_dead e) refused
unless_dead_paid c s e refused = (elim (states.is_dead e.tcp.state) as (λ b. states.is_dead e.tcp.state ≡ b → IsPaid c s (if b then e else died e) refused)
    [ true ↦ λ is. closed_paid c s e refused (dead_is_done e.tcp.state is) | false ↦ λ is. closed_paid c s (died e) refused refl ]) refl

-- what isn't asked
not_asking : (c : Profile) (s : Side) (e : PathEnd) (refused : Bool) (o : Option Record) → first_unsent e ≡ o → data_stands c s e o ≡ false → IsPaid c s e refused
not_asking c s e refused None is none = record {
  paid = λ same may. absurd (both_ways (may_ask c s e) none may);
  waits = λ r some sends. (let never : None ≡ Some r = sym is ∙ some in cc);
}
not_asking c s e refused (Some r) is none = record {
  paid = λ same may. (let never : None ≡ Some r = sym same ∙ is in cc);
  waits = λ u some sends.
      let same : r ≡ u = same_Some r u (sym is ∙ some) in
      ap (fits e.tcp) (sym same) ∙ ap (λ b. not b && fits e.tcp r) (sym (sends_records e.tcp.state sends)) ∙ none;
}

-- ---- what follows from what is ahead

none_for : (s : Side) (ds : List Duty) → none_owed ds ≡ true → is_owed s ds ≡ false
none_for A ds none = not-true (is_owed A ds) (and_parts (not (is_owed A ds)) (not (is_owed B ds)) none).0
none_for B ds none = not-true (is_owed B ds) (and_parts (not (is_owed A ds)) (not (is_owed B ds)) none).1

first_need : (d : Duty) (ds : List Duty) → is_followed (d ∷ ds) ≡ true → needs d ds ≡ true
first_need d ds h = (and_parts (needs d ds) (is_followed ds) h).0

rest_followed : (d : Duty) (ds : List Duty) → is_followed (d ∷ ds) ≡ true → is_followed ds ≡ true
rest_followed d ds h = (and_parts (needs d ds) (is_followed ds) h).1

-- of the duties by which an end dies, the other side isn't paid
others_none : (s : Side) (ds : List Duty) → none_owed ds ≡ true → (same_side (peer s) s || is_owed (peer s) ds) ≡ false
others_none = elim [ A ↦ λ ds none. none_for B ds none | B ↦ λ ds none. none_for A ds none ]

-- ---- a path

module _ {C : Type 0} where
  -- the side's end has what it needs ahead, or is paid
  abbrev pub Pays : PathState C → List Duty → (Side → Bool) → Side → Type 0
  Pays p ds refused s = (is_owed s ds ≡ true) ⊎ IsPaid p.profile s (end_at s p) (refused s)

  pub record Granting (p : PathState C) (refused : Side → Bool) : Type 0 where
    pub followed : is_followed p.agenda ≡ true
    pub each : (s : Side) → Pays p p.agenda refused s

  -- paid where nothing is ahead
  pub is_paid : (p : PathState C) (ds : List Duty) (refused : Side → Bool) (s : Side) → is_owed s ds ≡ false → Pays p ds refused s → IsPaid p.profile s (end_at s p) (refused s)
  is_paid p ds refused s none (inl owed) = absurd (both_ways (is_owed s ds) none owed)
  is_paid p ds refused s none (inr paid) = paid

  -- an end goes on, and these are to be done
  goes_each : (s : Side) (e : PathEnd) (ds : List Duty) (p : PathState C) (refused : Side → Bool) → (is_owed s ds ≡ true) ⊎ IsPaid p.profile s e (refused s)
      → (is_owed (peer s) ds ≡ true) ⊎ IsPaid p.profile (peer s) (end_at (peer s) p) (refused (peer s)) → (t : Side) → Pays (goes_on s e ds p) ds refused t
  goes_each A e ds p refused own other A = own
  goes_each A e ds p refused own other B = other
  goes_each B e ds p refused own other A = other
  goes_each B e ds p refused own other B = own

  module _ (p : PathState C) (refused : Side → Bool) where
    -- the end of this side goes on
    on : (s : Side) (e : PathEnd) (ds : List Duty) → is_followed ds ≡ true → (is_owed s ds ≡ true) ⊎ IsPaid p.profile s e (refused s)
        → (is_owed (peer s) ds ≡ true) ⊎ IsPaid p.profile (peer s) (end_at (peer s) p) (refused (peer s)) → Granting (goes_on s e ds p) refused
    on s e ds followed own other = record { followed = followed; each = goes_each s e ds p refused own other }

    -- and a segment goes out
    sent : (k : Codec C) (s : Side) (segment : PlainSegment) (e : PathEnd) (ds : List Duty) → is_followed ds ≡ true → (is_owed s ds ≡ true) ⊎ IsPaid p.profile s e (refused s)
        → (is_owed (peer s) ds ≡ true) ⊎ IsPaid p.profile (peer s) (end_at (peer s) p) (refused (peer s)) → Granting (sent_on k s segment e ds p) refused
    sent k s segment e ds followed own other = record { followed = followed; each = at s own other }
      where
        at : (s : Side) → (is_owed s ds ≡ true) ⊎ IsPaid p.profile s e (refused s) → (is_owed (peer s) ds ≡ true) ⊎ IsPaid p.profile (peer s) (end_at (peer s) p) (refused (peer s))
            → (t : Side) → Pays (sent_on k s segment e ds p) ds refused t
        at A own other A = own
        at A own other B = other
        at B own other A = other
        at B own other B = own

    agenda_on : (ds : List Duty) → is_followed ds ≡ true → ((s : Side) → Pays p ds refused s) → Granting (with_agenda ds p) refused
    agenda_on ds followed each = record { followed = followed; each = at }
      where
        at : (s : Side) → Pays (with_agenda ds p) ds refused s
        at = elim [ A ↦ each A | B ↦ each B ]

    -- ---- a break, a reset

    reset_done : (k : Codec C) (s : Side) (reason : Option ℕ) (ds : List Duty) → is_followed ds ≡ true → IsPaid p.profile (peer s) (end_at (peer s) p) (refused (peer s)) → Granting (reset_on k s reason ds p) refused
    reset_done k s reason ds followed other = sent k s (reset_of s reason p) (died (end_at s p)) ds followed (inr (closed_paid p.profile s (died (end_at s p)) (refused s) refl)) (inr other)

    resets_done : (s : Side) (reason : ℕ) (r : Reply) → IsPaid p.profile (peer s) (end_at (peer s) p) (refused (peer s)) → Granting (answered_ack_out s r (resets s reason) p) refused
    resets_done A reason r other = on A _ (resets A reason) refl (inl refl) (inr other)
    resets_done B reason r other = on B _ (resets B reason) refl (inl refl) (inr other)

    breaks_done : (s : Side) (e : PathEnd) (reason : ℕ) → IsPaid p.profile (peer s) (end_at (peer s) p) (refused (peer s)) → Granting (goes_on s e (breaks s reason) p) refused
    breaks_done A e reason other = on A e (breaks A reason) refl (inl refl) (inr other)
    breaks_done B e reason other = on B e (breaks B reason) refl (inl refl) (inr other)

    resets_go : (s : Side) (e : PathEnd) (reason : ℕ) → IsPaid p.profile (peer s) (end_at (peer s) p) (refused (peer s)) → Granting (goes_on s e (resets s reason) p) refused
    resets_go A e reason other = on A e (resets A reason) refl (inl refl) (inr other)
    resets_go B e reason other = on B e (resets B reason) refl (inl refl) (inr other)

    stops_done : (s : Side) → IsPaid p.profile (peer s) (end_at (peer s) p) (refused (peer s)) → Granting (with_agenda (stops s) p) refused
    stops_done A other = agenda_on (stops A) refl (elim [ A ↦ inl refl | B ↦ inr other ])
    stops_done B other = agenda_on (stops B) refl (elim [ A ↦ inr other | B ↦ inl refl ])

    break_done : (k : Codec C) (s : Side) (reason : ℕ) (r : Reply) → IsPaid p.profile (peer s) (end_at (peer s) p) (refused (peer s)) → Granting (answered_break k s reason r p) refused
    break_done k s reason r other =
        if_so (λ z. Granting z refused) (end_at s p).treated.asked (answered_ack_out s r (resets s reason) p) (reset_on k s (Some reason) (leaves s) p)
        (resets_done s reason r other) (reset_done k s (Some reason) (leaves s) refl other)

  -- ---- events, where nothing is ahead

  module _ (p : PathState C) (refused : Side → Bool) (paid : (s : Side) → IsPaid p.profile s (end_at s p) (refused s)) where
    line_done : (action : LineAction) → Granting (after_line action p) refused
    line_done (LineAction.Prio A backup) = on p refused A (with_priority backup p.a) (emission A) refl (inl refl) (inr (paid B))
    line_done (LineAction.Prio B backup) = on p refused B (with_priority backup p.b) (emission B) refl (inl refl) (inr (paid A))
    line_done (LineAction.Announce A id) = agenda_on p refused (announces A id) refl (elim [ A ↦ inl refl | B ↦ inr (paid B) ])
    line_done (LineAction.Announce B id) = agenda_on p refused (announces B id) refl (elim [ A ↦ inr (paid A) | B ↦ inl refl ])
    line_done (LineAction.Withdraw A id) = agenda_on p refused (withdraws A id) refl (elim [ A ↦ inl refl | B ↦ inr (paid B) ])
    line_done (LineAction.Withdraw B id) = agenda_on p refused (withdraws B id) refl (elim [ A ↦ inr (paid A) | B ↦ inl refl ])
    line_done LineAction.Die = record { followed = by (states.is_dead p.a.tcp.state) (states.is_dead p.b.tcp.state); each = at }
      where
        by : (a b : Bool) → is_followed ((if a then [] else Duty.Ask (AskDuty.Leave A) ∷ []) ++ ((if b then [] else Duty.Ask (AskDuty.Leave B) ∷ []) ++ rest_of_turn)) ≡ true
        by true true = refl
        by true false = refl
        by false true = refl
        by false false = refl

        at : (s : Side) → Pays (path_died p) (path_died p).agenda refused s
        at A = inr (unless_dead_paid p.profile A p.a (refused A))
        at B = inr (unless_dead_paid p.profile B p.b (refused B))

    -- the end of the side to which a copy came
    came : (s : Side) (e : PathEnd) (ds : List Duty) → (is_owed s ds ≡ true) ⊎ IsPaid p.profile s e (refused s) → is_followed ds ≡ true → Granting (goes_on s e ds p) refused
    came s e ds own followed = on p refused s e ds followed own (inr (paid (peer s)))

    -- has what it needs ahead
    owed_came : (s : Side) (e : PathEnd) (ds : List Duty) → IsOwedThere s ds → Granting (goes_on s e ds p) refused
    owed_came s e ds h = came s e ds (inl h.owed) h.followed

    -- the end after a copy that is taken so
    abbrev ended : Bool → Side → ℕ → HeardSegment → Meaning → PathEnd
    ended joined s now h m = copy_judged joined (held_of p.profile s h) (reset_for p.profile s h) s now h m (end_at s p)

    heard_done : (joined : Bool) (s : Side) (now count : ℕ) (h : HeardSegment) (m : Meaning) → Granting (goes_on s (ended joined s now h m) (template_by joined s count m) p) refused
    heard_done joined s now count h Meaning.Ignored = owed_came s (ended joined s now h Meaning.Ignored) (emission s) (emission_there s)
    heard_done true s now count h Meaning.Unwanted = came s (ended true s now h Meaning.Unwanted) (answers_dead s) (inr (record { paid = (paid s).paid; waits = (paid s).waits })) refl
    heard_done false s now count h Meaning.Unwanted = came s (ended false s now h Meaning.Unwanted) (answers_dead s) (inr (record { paid = (paid s).paid; waits = (paid s).waits })) refl
    heard_done joined s now count h Meaning.Opens = owed_came s (ended joined s now h Meaning.Opens) (syn_came s) (syn_there s)
    heard_done true s now count h (Meaning.Accepts acknowledged) = owed_came s (ended true s now h (Meaning.Accepts acknowledged)) (join_answered s) (answered_there s)
    heard_done false s now count h (Meaning.Accepts acknowledged) = owed_came s (ended false s now h (Meaning.Accepts acknowledged)) (syn_ack_came s) (syn_ack_there s)
    heard_done joined s now count h Meaning.RepeatedSyn = owed_came s (ended joined s now h Meaning.RepeatedSyn) (syn_again s) (again_there s)
    heard_done joined s now count h Meaning.Kills = came s (ended joined s now h Meaning.Kills) (leaves s) (inr (closed_paid p.profile s (ended joined s now h Meaning.Kills) (refused s) refl)) refl
    heard_done joined s now count h Meaning.Unacknowledging = owed_came s (ended joined s now h Meaning.Unacknowledging) (emission s) (emission_there s)
    heard_done joined s now count h (Meaning.Taken position acknowledged) =
        let copy = copy_is s count in
        came s (ended joined s now h (Meaning.Taken position acknowledged)) (copy_came s count) (inl copy.owed) copy.followed
    heard_done joined s now count h m = owed_came s (ended joined s now h m) (answers s) (answer_there s)

    judged_done : (joined : Bool) (s : Side) (now count : ℕ) (h : HeardSegment) (verdict : Judged)
        → Granting (goes_on s (ended joined s now h (taken_as verdict)) (template_judged joined s count verdict) p) refused
    judged_done joined s now count h (Judged.As meaning) = heard_done joined s now count h meaning
    judged_done joined s now count h Judged.Asks = owed_came s (ended joined s now h Meaning.Ignored) (join_came s) (join_there s)
    judged_done joined s now count h Judged.Lacks = owed_came s (ended joined s now h Meaning.Ignored) (refuses s) (refusal_there s)
    judged_done joined s now count h Judged.Forged = owed_came s (ended joined s now h Meaning.Ignored) (resets s 1) (reset_there s)

    emission_done : (s : Side) → Granting (with_agenda (emission s) p) refused
    emission_done A = agenda_on p refused (emission A) refl (elim [ A ↦ inl refl | B ↦ inr (paid B) ])
    emission_done B = agenda_on p refused (emission B) refl (elim [ A ↦ inr (paid A) | B ↦ inl refl ])

    copy_done : (s : Side) (o : Option HeardSegment) → Granting (copy_heard s o p) refused
    copy_done s None = emission_done s
    copy_done s (Some heard) =
        let joined = is_joined p.profile in let h : HeardSegment = options_heard (end_at s p) heard in judged_done joined s p.clock (length (items_of joined s h)) h (judged_in joined s h (end_at s p))

    -- a join is begun or not, at its tick
    join_done : (r : Reply) → Granting (join_begun r (leaves A) (emission A) p) refused
    join_done r = elim (is_never r) as (λ b. Granting (if b then goes_on A (never_joined r (end_at A p)) (leaves A) p else goes_on A (opened_by (keys_begun r) (end_at A p)) (emission A) p) refused) [
      | true ↦ on p refused A (never_joined r p.a) (leaves A) refl (inr (closed_paid p.profile A (never_joined r p.a) (refused A) refl)) (inr (paid B))
      | false ↦ on p refused A (opened_by (keys_begun r) p.a) (emission A) refl (inl refl) (inr (paid B))
    ]

    fired_done : (s : Side) (e : PathEnd) (sixth : Bool) → Granting (goes_on s e (template_fired sixth s) p) refused
    fired_done A e true = on p refused A e (expired_for_ever A) refl (inl refl) (inr (paid B))
    fired_done B e true = on p refused B e (expired_for_ever B) refl (inl refl) (inr (paid A))
    fired_done A e false = on p refused A e (expired A) refl (inl refl) (inr (paid B))
    fired_done B e false = on p refused B e (expired B) refl (inl refl) (inr (paid A))

  event_done : (k : Codec C) (o : Option Event) (r : Reply) (p : PathState C) (refused : Side → Bool) → ((s : Side) → IsPaid p.profile s (end_at s p) (refused s)) → Granting (happens_if k o r p) refused
  event_done k None r p refused paid = agenda_on p refused rest_of_turn refl (λ s. inr (paid s))
  event_done k (Some (Event.Joins tick)) r p refused paid = join_done (record (at_tick tick p) { joined_at = None }) refused at r
    where
      at : (s : Side) → IsPaid p.profile s (end_at s (record (at_tick tick p) { joined_at = None })) (refused s)
      at = elim [ A ↦ paid A | B ↦ paid B ]
  event_done k (Some (Event.Takes line)) r p refused paid =
      line_done (record (at_tick line.tick p) { lines = tail_of p.lines }) refused at line.action
    where
      at : (s : Side) → IsPaid p.profile s (end_at s (record (at_tick line.tick p) { lines = tail_of p.lines })) (refused s)
      at = elim [ A ↦ paid A | B ↦ paid B ]
  event_done k (Some (Event.Arrives due)) r p refused paid =
      copy_done (record (at_tick due.tick p) { link = after_delivery due p.link }) refused at due.to (heard_in k due.to (arriving due p.link) p)
    where
      at : (s : Side) → IsPaid p.profile s (end_at s (record (at_tick due.tick p) { link = after_delivery due p.link })) (refused s)
      at = elim [ A ↦ paid A | B ↦ paid B ]
  event_done k (Some (Event.Fires s tick)) r p refused paid = fired_done (at_tick tick p) refused at s _ (is_sixth (end_at s (at_tick tick p)).tcp)
    where
      at : (t : Side) → IsPaid p.profile t (end_at t (at_tick tick p)) (refused t)
      at = elim [ A ↦ paid A | B ↦ paid B ]

  -- ---- passing

  own_passed : (s : Side) (e : PathEnd) (ds : List Duty) (p : PathState C) (refused : Side → Bool) → (is_owed s ds ≡ true) ⊎ IsPaid p.profile s e (refused s)
      → (is_owed (peer s) ds ≡ true) ⊎ IsPaid p.profile (peer s) (end_at (peer s) p) (refused (peer s)) → (t : Side) → Pays (with_end s e p) ds refused t
  own_passed A e ds p refused own other A = own
  own_passed A e ds p refused own other B = other
  own_passed B e ds p refused own other A = other
  own_passed B e ds p refused own other B = own

  data_passed : (s : Side) (ds : List Duty) (p : PathState C) (refused : Side → Bool) → stands (Duty.Step (StepDuty.Data s)) p ≡ false → ((t : Side) → Pays p (Duty.Step (StepDuty.Data s) ∷ ds) refused t) → (t : Side) → Pays p ds refused t
  data_passed A ds p refused none each A = inr (not_asking p.profile A p.a (refused A) (first_unsent p.a) refl none)
  data_passed A ds p refused none each B = each B
  data_passed B ds p refused none each A = each A
  data_passed B ds p refused none each B = inr (not_asking p.profile B p.b (refused B) (first_unsent p.b) refl none)

  passed_pays : (d : Duty) (ds : List Duty) (p : PathState C) (refused : Side → Bool) → stands d p ≡ false → is_followed (d ∷ ds) ≡ true → ((t : Side) → Pays p (d ∷ ds) refused t)
      → (t : Side) → Pays (passed d p) ds refused t
  passed_pays (Duty.Step (StepDuty.Data s)) ds p refused none f each = data_passed s ds p refused none each
  passed_pays (Duty.Silent (SilentDuty.Timer s)) ds p refused none f each = own_passed s _ ds p refused (⊎_elim (λ owed. inl owed) (λ h. inr (record { paid = h.paid; waits = h.waits })) (each s)) (each (peer s))
  passed_pays (Duty.Step (StepDuty.Heard s index)) ds p refused none f each =
      own_passed s _ ds p refused (inl (and_parts (is_owed s ds) (not (is_owed (peer s) ds)) (first_need (Duty.Step (StepDuty.Heard s index)) ds f)).0) (each (peer s))
  passed_pays (Duty.Silent (SilentDuty.Keep s)) ds p refused none f each = own_passed s _ ds p refused (inl (first_need (Duty.Silent (SilentDuty.Keep s)) ds f)) (each (peer s))
  passed_pays (Duty.Ask (AskDuty.CheckFailed s)) ds p refused none f each =
      own_passed s _ ds p refused (inl (and_parts (is_owed s ds) (not (is_owed (peer s) ds)) (first_need (Duty.Ask (AskDuty.CheckFailed s)) ds f)).0) (each (peer s))
  passed_pays (Duty.Silent (SilentDuty.PassFin s)) ds p refused none f each = own_passed s _ ds p refused (inl (first_need (Duty.Silent (SilentDuty.PassFin s)) ds f)) (each (peer s))
  passed_pays (Duty.Ask (AskDuty.BreakAck s reason)) ds p refused none f each = absurd (true≢false none)
  passed_pays (Duty.Send (SendDuty.BreakReset s reason)) ds p refused none f each = absurd (true≢false none)
  passed_pays (Duty.Send (SendDuty.Reset s)) ds p refused none f each = absurd (true≢false none)
  passed_pays (Duty.Step (StepDuty.PlainAck s)) ds p refused none f each =
      own_passed s _ ds p refused (inl (and_parts (is_owed s ds) (not (is_owed (peer s) ds)) (first_need (Duty.Step (StepDuty.PlainAck s)) ds f)).0) (each (peer s))
  passed_pays (Duty.Step (StepDuty.Unmapped s)) ds p refused none f each =
      own_passed s _ ds p refused (inl (and_parts (is_owed s ds) (not (is_owed (peer s) ds)) (first_need (Duty.Step (StepDuty.Unmapped s)) ds f)).0) (each (peer s))
  passed_pays _ ds p refused none f each = each

  pub settled_done : (ds : List Duty) (p : PathState C) (refused : Side → Bool) → is_followed ds ≡ true → ((t : Side) → Pays p ds refused t) → Granting (settled ds p) refused
  settled_done [] p refused f each = agenda_on p refused [] refl each
  settled_done (d ∷ ds) p refused f each =
      (elim (stands d p) as (λ b. stands d p ≡ b → (stands d p ≡ false → Granting (settled ds (passed d p)) refused) → Granting (if b then with_agenda (d ∷ ds) p else settled ds (passed d p)) refused) [
        | true ↦ λ is rest. agenda_on p refused (d ∷ ds) f each
        | false ↦ λ is rest. rest is
      ]) refl (λ none. settled_done ds (passed d p) refused (rest_followed d ds f) (passed_pays d ds p refused none f each))

  -- ---- replies

  module _ (k : Codec C) (r : Reply) (p : PathState C) (refused : Side → Bool) where
    -- a path whose agenda this is
    abbrev at : List Duty → PathState C
    at ds = with_agenda ds p

    -- the end of this side goes on, and has what it needs ahead
    touched : (s : Side) (e : PathEnd) (ds : List Duty) → is_followed ds ≡ true → is_owed s ds ≡ true → (xs : List Duty) → Pays (at xs) ds refused (peer s) → Granting (goes_on s e ds (at xs)) refused
    touched s e ds f owed xs other = on (at xs) refused s e ds f (inl owed) other

    touched_sent : (s : Side) (segment : PlainSegment) (e : PathEnd) (ds : List Duty) → is_followed ds ≡ true → is_owed s ds ≡ true → (xs : List Duty) → Pays (at xs) ds refused (peer s)
        → Granting (sent_on k s segment e ds (at xs)) refused
    touched_sent s segment e ds f owed xs other = sent (at xs) refused k s segment e ds f (inl owed) other

    -- what is done changes nothing that the end may ask
    done_on : (ds xs : List Duty) → is_followed ds ≡ true → ((t : Side) → Pays (at xs) ds refused t) → Granting (with_agenda ds (at xs)) refused
    done_on ds xs f each = agenda_on (at xs) refused ds f each

    other_paid : (d : Duty) (s : Side) (ds : List Duty) → is_owed (peer s) (d ∷ ds) ≡ false → ((t : Side) → Pays (at (d ∷ ds)) (d ∷ ds) refused t) → IsPaid p.profile (peer s) (end_at (peer s) p) (refused (peer s))
    other_paid d s ds none each = is_paid (at (d ∷ ds)) (d ∷ ds) refused (peer s) none (each (peer s))

    -- where something is told of the mode the side falls, or the path is broken, or the duty is done
    fell_done : (s : Side) (e : PathEnd) (d : Duty) (ds : List Duty) → is_followed ds ≡ true → is_owed s ds ≡ true → IsPaid p.profile (peer s) (end_at (peer s) p) (refused (peer s))
        → Granting (goes_on s e (fell_duties s r (at (d ∷ ds))) (at (d ∷ ds))) refused
    fell_done s e d ds f owed paid =
        fell_cases (λ es. Granting (goes_on s e es (at (d ∷ ds))) refused) s (at (d ∷ ds)) r
        (λ falls. touched s e (Duty.Ask (AskDuty.GoIdentity s) ∷ ds) (rw (owed, f) refl) owed (d ∷ ds) (inr paid))
        (λ reason. breaks_done (at (d ∷ ds)) refused s e reason paid)
        (λ reason. resets_go (at (d ∷ ds)) refused s e reason paid)
        (touched s e ds f owed (d ∷ ds) (inr paid))

    -- the side is owed what it needs, and the other nothing
    abbrev Needed : Side → List Duty → Type 0
    Needed s ds = is_owed s ds && not (is_owed (peer s) ds) ≡ true

    own_owed : (s : Side) (ds : List Duty) → Needed s ds → is_owed s ds ≡ true
    own_owed s ds need = (and_parts (is_owed s ds) (not (is_owed (peer s) ds)) need).0

    none_other : (s : Side) (ds : List Duty) → Needed s ds → is_owed (peer s) ds ≡ false
    none_other s ds need = not-true (is_owed (peer s) ds) (and_parts (is_owed s ds) (not (is_owed (peer s) ds)) need).1

    event_told : (s : Side) (event : FallEvent) (d : Duty) (ds : List Duty) → is_followed ds ≡ true → Needed s ds → IsPaid p.profile (peer s) (end_at (peer s) p) (refused (peer s))
        → Granting (answered_fell s event r (at (d ∷ ds))) refused
    event_told s event d ds f need paid = fell_done s (after_fell event r (end_at s (at (d ∷ ds)))) d ds f (own_owed s ds need) paid

    key_done : (s : Side) (key : Option ℕ) (d : Duty) (ds : List Duty) → is_followed ds ≡ true → Needed s ds → IsPaid p.profile (peer s) (end_at (peer s) p) (refused (peer s))
        → Granting (answered_peer_key s key r (at (d ∷ ds))) refused
    key_done s None d ds f need paid = event_told s FallEvent.PlainHandshake d ds f need paid
    key_done s (Some key) d ds f need paid = touched s _ ds f (own_owed s ds need) (d ∷ ds) (inr paid)

    opened_done : (s : Side) (keys : Option KeyPair) (d : Duty) (ds : List Duty) → is_followed ds ≡ true → Needed s ds → IsPaid p.profile (peer s) (end_at (peer s) p) (refused (peer s))
        → Granting (answered_opened s keys r (at (d ∷ ds))) refused
    opened_done s None d ds f need paid = event_told s FallEvent.PlainHandshake d ds f need paid
    opened_done s (Some keys) d ds f need paid = touched s _ ds f (own_owed s ds need) (d ∷ ds) (inr paid)

    plain_ack_done : (s : Side) (d : Duty) (ds : List Duty) → is_followed ds ≡ true → Needed s ds → IsPaid p.profile (peer s) (end_at (peer s) p) (refused (peer s))
        → (breaks : Bool) → Granting (if breaks then answered_break k s 6 r (at (d ∷ ds))
        else goes_on s (with_plain_ack (after_fell FallEvent.PlainAck r (end_at s (at (d ∷ ds))))) (fell_duties s r (at (d ∷ ds))) (at (d ∷ ds))) refused
    plain_ack_done s d ds f need paid true = break_done (at (d ∷ ds)) refused k s 6 r paid
    plain_ack_done s d ds f need paid false = fell_done s _ d ds f (own_owed s ds need) paid

    item_done : (s : Side) (index : ℕ) (ds : List Duty) → is_followed (Duty.Step (StepDuty.Heard s index) ∷ ds) ≡ true → ((t : Side) → Pays (at (Duty.Step (StepDuty.Heard s index) ∷ ds)) (Duty.Step (StepDuty.Heard s index) ∷ ds) refused t)
        → (o : Option Heard) → Granting (answered_item k s o r (at (Duty.Step (StepDuty.Heard s index) ∷ ds))) refused
    item_done s index ds f each = by
      where
        xs : List Duty
        xs = Duty.Step (StepDuty.Heard s index) ∷ ds

        need : (is_owed s ds ≡ true) × (not (is_owed (peer s) ds) ≡ true)
        need = and_parts (is_owed s ds) (not (is_owed (peer s) ds)) (first_need (Duty.Step (StepDuty.Heard s index)) ds f)

        rest : is_followed ds ≡ true
        rest = rest_followed (Duty.Step (StepDuty.Heard s index)) ds f

        paid : IsPaid p.profile (peer s) (end_at (peer s) p) (refused (peer s))
        paid = is_paid (at xs) xs refused (peer s) (not-true (is_owed (peer s) ds) need.1) (each (peer s))

        mapping : (b : Bool) → Granting (if b then answered_break k s 1 r (at xs) else goes_on s (with_learned (after_fell FallEvent.MappingHeard r (end_at s (at xs)))) (fell_duties s r (at xs)) (at xs)) refused
        mapping true = break_done (at xs) refused k s 1 r paid
        mapping false = fell_done s _ (Duty.Step (StepDuty.Heard s index)) ds rest need.0 paid

        stopped : (b : Bool) → Granting (with_agenda (if b then stops s else left (at xs)) (at xs)) refused
        stopped = elim [ true ↦ stops_done (at xs) refused s paid | false ↦ done_on ds xs rest (λ t. each t) ]

        acked : (b : Bool) (e : PathEnd) → Granting (goes_on s e (told_next s b (at xs)) (at xs)) refused
        acked true e = touched s e (Duty.Ask (AskDuty.AckHeard s) ∷ ds) (rw (need.0, need.1, rest) refl) need.0 xs (inr paid)
        acked false e = touched s e ds rest need.0 xs (inr paid)

        by : (o : Option Heard) → Granting (answered_item k s o r (at xs)) refused
        by None = done_on ds xs rest (λ t. each t)
        by (Some Heard.Dss) = done_on ds xs rest (λ t. each t)
        by (Some (Heard.DataAck next window)) = acked _ _
        by (Some (Heard.Mapping fin)) = mapping (is_clash (end_at s p))
        by (Some (Heard.DataFin place)) = fell_done s _ (Duty.Step (StepDuty.Heard s index)) ds rest need.0 paid
        by (Some (Heard.InfiniteMapping place position)) = fell_done s _ (Duty.Step (StepDuty.Heard s index)) ds rest need.0 paid
        by (Some (Heard.PeerKey key)) = done_on ds xs rest (λ t. each t)
        by (Some (Heard.Join form)) = done_on ds xs rest (λ t. each t)
        by (Some (Heard.Notice notice)) = touched s (after_peer_notice notice r (end_at s p)) ds rest need.0 xs (inr paid)
        by (Some Heard.Fail) =
            fail_answered_so (λ q. Granting q refused) s r (at xs) (touched s _ (Duty.Ask (AskDuty.FailHeard s) ∷ ds) (rw (need.0, need.1, rest) refl) need.0 xs (inr paid))
            (fell_done s _ (Duty.Step (StepDuty.Heard s index)) ds rest need.0 paid)
        by (Some (Heard.FastClose key)) = stopped (is_stopped_by r)
        by (Some (Heard.Keys own other)) = touched s _ ds rest need.0 xs (inr paid)

    -- an end that waits asks again whether it may join
    again_done : (ds : List Duty) → is_followed ((Duty.Ask AskDuty.JoinAgain) ∷ ds) ≡ true → ((t : Side) → Pays (at ((Duty.Ask AskDuty.JoinAgain) ∷ ds)) ((Duty.Ask AskDuty.JoinAgain) ∷ ds) refused t)
        → Granting (join_begun r (Duty.Ask (AskDuty.Leave A) ∷ ds) ds (at ((Duty.Ask AskDuty.JoinAgain) ∷ ds))) refused
    again_done ds f each =
        elim (is_never r) as (λ b. Granting (if b then goes_on A (never_joined r p.a) (Duty.Ask (AskDuty.Leave A) ∷ ds) (at xs) else goes_on A (opened_by (keys_begun r) p.a) ds (at xs)) refused) [
          | true ↦ touched A (never_joined r p.a) (Duty.Ask (AskDuty.Leave A) ∷ ds) rest (first_need (Duty.Ask AskDuty.JoinAgain) ds f) xs (each B)
          | false ↦ touched A (opened_by (keys_begun r) p.a) ds rest (first_need (Duty.Ask AskDuty.JoinAgain) ds f) xs (each B)
        ]
      where
        xs : List Duty
        xs = (Duty.Ask AskDuty.JoinAgain) ∷ ds

        rest : is_followed ds ≡ true
        rest = rest_followed (Duty.Ask AskDuty.JoinAgain) ds f

    join_heard_done : (s : Side) (ds : List Duty) → is_followed (Duty.Ask (AskDuty.JoinHeard s) ∷ ds) ≡ true → ((t : Side) → Pays (at (Duty.Ask (AskDuty.JoinHeard s) ∷ ds)) (Duty.Ask (AskDuty.JoinHeard s) ∷ ds) refused t)
        → (keys : Option KeyPair) (asked : Option JoinSyn) → Granting (join_taken s keys asked r (at (Duty.Ask (AskDuty.JoinHeard s) ∷ ds))) refused
    join_heard_done s ds f each = by
      where
        xs : List Duty
        xs = Duty.Ask (AskDuty.JoinHeard s) ∷ ds

        need : is_owed s ds ≡ true
        need = first_need (Duty.Ask (AskDuty.JoinHeard s)) ds f

        rest : is_followed ds ≡ true
        rest = rest_followed (Duty.Ask (AskDuty.JoinHeard s)) ds f

        by : (keys : Option KeyPair) (asked : Option JoinSyn) → Granting (join_taken s keys asked r (at xs)) refused
        by None None = done_on (Duty.Send (SendDuty.Refuse s) ∷ ds) xs rest (λ t. each t)
        by None (Some asked) = touched s _ (Duty.Send (SendDuty.Refuse s) ∷ ds) rest need xs (each (peer s))
        by (Some keys) None = done_on (Duty.Send (SendDuty.Refuse s) ∷ ds) xs rest (λ t. each t)
        by (Some keys) (Some asked) = touched s _ (Duty.Send (SendDuty.SynAck s) ∷ ds) (rw (need, rest) refl) need xs (each (peer s))

    piece_done : (s : Side) (ds : List Duty) → is_followed (Duty.Ask (AskDuty.Edge s) ∷ ds) ≡ true → ((t : Side) → Pays (at (Duty.Ask (AskDuty.Edge s) ∷ ds)) (Duty.Ask (AskDuty.Edge s) ∷ ds) refused t)
        → (o : Option Piece) (taken : Bool) → Granting (answered_piece s o taken (at (Duty.Ask (AskDuty.Edge s) ∷ ds))) refused
    piece_done s ds f each = by
      where
        xs : List Duty
        xs = Duty.Ask (AskDuty.Edge s) ∷ ds

        need : (is_owed s ds ≡ true) × (not (is_owed (peer s) ds) ≡ true)
        need = and_parts (is_owed s ds) (not (is_owed (peer s) ds)) (first_need (Duty.Ask (AskDuty.Edge s)) ds f)

        paid : IsPaid p.profile (peer s) (end_at (peer s) p) (refused (peer s))
        paid = is_paid (at xs) xs refused (peer s) (not-true (is_owed (peer s) ds) need.1) (each (peer s))

        by : (o : Option Piece) (taken : Bool) → Granting (answered_piece s o taken (at xs)) refused
        by (Some piece) true = touched s _ xs f need.0 xs (inr paid)
        by (Some piece) false = breaks_done (at xs) refused s _ 1 paid
        by None taken = breaks_done (at xs) refused s _ 1 paid

    fin_done : (s : Side) (index : ℕ) (ds : List Duty) → is_followed (Duty.Ask (AskDuty.HeardFin s index) ∷ ds) ≡ true
        → ((t : Side) → Pays (at (Duty.Ask (AskDuty.HeardFin s index) ∷ ds)) (Duty.Ask (AskDuty.HeardFin s index) ∷ ds) refused t) → (set : Bool) → Granting (answered_fin_heard s set (at (Duty.Ask (AskDuty.HeardFin s index) ∷ ds))) refused
    fin_done s index ds f each = by
      where
        xs : List Duty
        xs = Duty.Ask (AskDuty.HeardFin s index) ∷ ds

        need : (is_owed s ds ≡ true) × (not (is_owed (peer s) ds) ≡ true)
        need = and_parts (is_owed s ds) (not (is_owed (peer s) ds)) (first_need (Duty.Ask (AskDuty.HeardFin s index)) ds f)

        paid : IsPaid p.profile (peer s) (end_at (peer s) p) (refused (peer s))
        paid = is_paid (at xs) xs refused (peer s) (not-true (is_owed (peer s) ds) need.1) (each (peer s))

        by : (set : Bool) → Granting (answered_fin_heard s set (at xs)) refused
        by true = touched s _ ds (rest_followed (Duty.Ask (AskDuty.HeardFin s index)) ds f) need.0 xs (inr paid)
        by false = breaks_done (at xs) refused s _ 1 paid

    plain_fin_done : (s : Side) (ds : List Duty) → is_followed (Duty.Ask (AskDuty.SubflowFin s) ∷ ds) ≡ true → ((t : Side) → Pays (at (Duty.Ask (AskDuty.SubflowFin s) ∷ ds)) (Duty.Ask (AskDuty.SubflowFin s) ∷ ds) refused t) → (set : Bool)
        → Granting (answered_plain_fin s set (at (Duty.Ask (AskDuty.SubflowFin s) ∷ ds))) refused
    plain_fin_done s ds f each = by
      where
        xs : List Duty
        xs = Duty.Ask (AskDuty.SubflowFin s) ∷ ds

        need : Needed s ds
        need = first_need (Duty.Ask (AskDuty.SubflowFin s)) ds f

        paid : IsPaid p.profile (peer s) (end_at (peer s) p) (refused (peer s))
        paid = is_paid (at xs) xs refused (peer s) (none_other s ds need) (each (peer s))

        by : (set : Bool) → Granting (answered_plain_fin s set (at xs)) refused
        by true = touched s _ ds (rest_followed (Duty.Ask (AskDuty.SubflowFin s)) ds f) (own_owed s ds need) xs (inr paid)
        by false = breaks_done (at xs) refused s _ 1 paid

    -- an end that asks for bytes, where the reply leaves the duty
    own_data : (s : Side) (ds : List Duty) → is_owed s (Duty.Step (StepDuty.Data s) ∷ ds) ≡ true
    own_data = elim [ A ↦ λ ds. refl | B ↦ λ ds. refl ]

    pub data_sent : (s : Side) (ds : List Duty) (u : Record) → is_followed (Duty.Step (StepDuty.Data s) ∷ ds) ≡ true → ((t : Side) → Pays (at (Duty.Step (StepDuty.Data s) ∷ ds)) (Duty.Step (StepDuty.Data s) ∷ ds) refused t)
        → Granting (answered_data k s (Some u) r (at (Duty.Step (StepDuty.Data s) ∷ ds))) refused
    data_sent s ds u f each = touched_sent s _ _ (Duty.Step (StepDuty.Data s) ∷ ds) f (own_data s ds) (Duty.Step (StepDuty.Data s) ∷ ds) (each (peer s))

    pub granted_done : (s : Side) (ds : List Duty) (grant : Grant) → is_followed (Duty.Step (StepDuty.Data s) ∷ ds) ≡ true → ((t : Side) → Pays (at (Duty.Step (StepDuty.Data s) ∷ ds)) (Duty.Step (StepDuty.Data s) ∷ ds) refused t)
        → Granting (answered_grant s (Some grant) r (at (Duty.Step (StepDuty.Data s) ∷ ds))) refused
    granted_done s ds grant f each = touched s _ (Duty.Step (StepDuty.Data s) ∷ ds) f (own_data s ds) (Duty.Step (StepDuty.Data s) ∷ ds) (each (peer s))

    -- a refusal ends the asking
    pub refused_done : (s : Side) (ds : List Duty) → first_unsent (end_at s p) ≡ None → refused s ≡ true → is_followed (Duty.Step (StepDuty.Data s) ∷ ds) ≡ true → ((t : Side) → (t ≡ s → ⊥) → Pays (at (Duty.Step (StepDuty.Data s) ∷ ds)) (Duty.Step (StepDuty.Data s) ∷ ds) refused t)
        → Granting (answered_grant s None r (at (Duty.Step (StepDuty.Data s) ∷ ds))) refused
    refused_done A ds none is f each =
        on (at (Duty.Step (StepDuty.Data A) ∷ ds)) refused A _ ds (rest_followed (Duty.Step (StepDuty.Data A)) ds f) (inr (record { paid = λ same may. is; waits = λ u some sends. (let never : None ≡ Some u = sym none ∙ some in cc) })) (each B (λ same. (let never : B ≡ A = same in cc)))
    refused_done B ds none is f each =
        on (at (Duty.Step (StepDuty.Data B) ∷ ds)) refused B _ ds (rest_followed (Duty.Step (StepDuty.Data B)) ds f) (inr (record { paid = λ same may. is; waits = λ u some sends. (let never : None ≡ Some u = sym none ∙ some in cc) })) (each A (λ same. (let never : A ≡ B = same in cc)))

    -- every other duty
    pub answered_done : (d : Duty) (ds : List Duty) → MayNotAsk d → is_followed (d ∷ ds) ≡ true → ((t : Side) → Pays (at (d ∷ ds)) (d ∷ ds) refused t) → Granting (answered k d r (at (d ∷ ds))) refused
    answered_done (Duty.Step (StepDuty.Data s)) ds other f each = absurd other
    answered_done (Duty.Ask AskDuty.JoinAgain) ds other f each = again_done ds f each
    answered_done (Duty.Step (StepDuty.Look s)) ds other f each = touched s _ ds (rest_followed (Duty.Step (StepDuty.Look s)) ds f) (first_need (Duty.Step (StepDuty.Look s)) ds f) (Duty.Step (StepDuty.Look s) ∷ ds) (each (peer s))
    answered_done (Duty.Ask (AskDuty.Window s)) ds other f each =
        on (at (Duty.Ask (AskDuty.Window s) ∷ ds)) refused s _ ds (rest_followed (Duty.Ask (AskDuty.Window s)) ds f) (⊎_elim (λ owed. inl owed) (λ h. inr (record { paid = h.paid; waits = h.waits })) (each s)) (each (peer s))
    answered_done (Duty.Send (SendDuty.Update s)) ds other f each = touched_sent s _ _ ds (rest_followed (Duty.Send (SendDuty.Update s)) ds f) (first_need (Duty.Send (SendDuty.Update s)) ds f) (Duty.Send (SendDuty.Update s) ∷ ds) (each (peer s))
    answered_done (Duty.Send (SendDuty.FastClose s)) ds other f each = touched_sent s _ _ ds (rest_followed (Duty.Send (SendDuty.FastClose s)) ds f) (first_need (Duty.Send (SendDuty.FastClose s)) ds f) (Duty.Send (SendDuty.FastClose s) ∷ ds) (each (peer s))
    answered_done (Duty.Send (SendDuty.Notice s)) ds other f each =
        touched_sent s _ _ (Duty.Send (SendDuty.Notice s) ∷ ds) f (first_need (Duty.Send (SendDuty.Notice s)) ds f) (Duty.Send (SendDuty.Notice s) ∷ ds) (each (peer s))
    answered_done (Duty.Send (SendDuty.Syn s)) ds other f each = touched_sent s _ _ ds (rest_followed (Duty.Send (SendDuty.Syn s)) ds f) (first_need (Duty.Send (SendDuty.Syn s)) ds f) (Duty.Send (SendDuty.Syn s) ∷ ds) (each (peer s))
    answered_done (Duty.Send (SendDuty.DataFin s)) ds other f each =
        sent (at (Duty.Send (SendDuty.DataFin s) ∷ ds)) refused k s _ _ ds (rest_followed (Duty.Send (SendDuty.DataFin s)) ds f) (⊎_elim (λ owed. inl owed) (λ h. inr (record { paid = h.paid; waits = h.waits })) (each s)) (each (peer s))
    answered_done (Duty.Send (SendDuty.Fin s)) ds other f each =
        sent (at (Duty.Send (SendDuty.Fin s) ∷ ds)) refused k s _ _ ds (rest_followed (Duty.Send (SendDuty.Fin s)) ds f) (inr (closed_paid p.profile s _ (refused s) (finished (end_at s p).tcp.state))) (each (peer s))
    answered_done (Duty.Silent (SilentDuty.Timer s)) ds other f each = done_on ds (Duty.Silent (SilentDuty.Timer s) ∷ ds) (rest_followed (Duty.Silent (SilentDuty.Timer s)) ds f) (λ t. each t)
    answered_done (Duty.Step StepDuty.Events) ds other f each =
        event_done k (next_event p) r (at ((Duty.Step StepDuty.Events) ∷ ds)) refused
        (λ s. is_paid (at ((Duty.Step StepDuty.Events) ∷ ds)) ((Duty.Step StepDuty.Events) ∷ ds) refused s (none_for s ds (first_need (Duty.Step StepDuty.Events) ds f)) (each s))
    answered_done (Duty.Ask (AskDuty.PeerKey s)) ds other f each =
        key_done s (key_heard (end_at s p).treated.items) (Duty.Ask (AskDuty.PeerKey s)) ds (rest_followed (Duty.Ask (AskDuty.PeerKey s)) ds f) (first_need (Duty.Ask (AskDuty.PeerKey s)) ds f)
        (is_paid (at (Duty.Ask (AskDuty.PeerKey s) ∷ ds)) (Duty.Ask (AskDuty.PeerKey s) ∷ ds) refused (peer s) (none_other s ds (first_need (Duty.Ask (AskDuty.PeerKey s)) ds f)) (each (peer s)))
    answered_done (Duty.Send (SendDuty.SynAck s)) ds other f each = touched_sent s _ _ ds (rest_followed (Duty.Send (SendDuty.SynAck s)) ds f) (first_need (Duty.Send (SendDuty.SynAck s)) ds f) (Duty.Send (SendDuty.SynAck s) ∷ ds) (each (peer s))
    answered_done (Duty.Ask (AskDuty.JoinHeard s)) ds other f each = join_heard_done s ds f each (keys_begun r) (asked_at s p)
    answered_done (Duty.Send (SendDuty.Refuse s)) ds other f each =
        sent (at (Duty.Send (SendDuty.Refuse s) ∷ ds)) refused k s _ _ ds (rest_followed (Duty.Send (SendDuty.Refuse s)) ds f) (each s) (each (peer s))
    answered_done (Duty.Ask (AskDuty.Opened s)) ds other f each =
        opened_done s (keys_heard (end_at s p).treated.items) (Duty.Ask (AskDuty.Opened s)) ds (rest_followed (Duty.Ask (AskDuty.Opened s)) ds f) (first_need (Duty.Ask (AskDuty.Opened s)) ds f)
        (is_paid (at (Duty.Ask (AskDuty.Opened s) ∷ ds)) (Duty.Ask (AskDuty.Opened s) ∷ ds) refused (peer s) (none_other s ds (first_need (Duty.Ask (AskDuty.Opened s)) ds f)) (each (peer s)))
    answered_done (Duty.Step (StepDuty.Heard s index)) ds other f each = item_done s index ds f each (item_of index (end_at s p))
    answered_done (Duty.Ask (AskDuty.AckHeard s)) ds other f each =
        event_told s FallEvent.AckHeard (Duty.Ask (AskDuty.AckHeard s)) ds (rest_followed (Duty.Ask (AskDuty.AckHeard s)) ds f) (first_need (Duty.Ask (AskDuty.AckHeard s)) ds f)
        (is_paid (at (Duty.Ask (AskDuty.AckHeard s) ∷ ds)) (Duty.Ask (AskDuty.AckHeard s) ∷ ds) refused (peer s) (none_other s ds (first_need (Duty.Ask (AskDuty.AckHeard s)) ds f)) (each (peer s)))
    answered_done (Duty.Step (StepDuty.PlainAck s)) ds other f each =
        plain_ack_done s (Duty.Step (StepDuty.PlainAck s)) ds (rest_followed (Duty.Step (StepDuty.PlainAck s)) ds f) (first_need (Duty.Step (StepDuty.PlainAck s)) ds f)
        (is_paid (at (Duty.Step (StepDuty.PlainAck s) ∷ ds)) (Duty.Step (StepDuty.PlainAck s) ∷ ds) refused (peer s) (none_other s ds (first_need (Duty.Step (StepDuty.PlainAck s)) ds f)) (each (peer s))) (breaks_by_ack p.profile (end_at s p))
    answered_done (Duty.Ask (AskDuty.PlainHandshake s)) ds other f each =
        event_told s FallEvent.PlainHandshake (Duty.Ask (AskDuty.PlainHandshake s)) ds (rest_followed (Duty.Ask (AskDuty.PlainHandshake s)) ds f) (first_need (Duty.Ask (AskDuty.PlainHandshake s)) ds f)
        (is_paid (at (Duty.Ask (AskDuty.PlainHandshake s) ∷ ds)) (Duty.Ask (AskDuty.PlainHandshake s) ∷ ds) refused (peer s) (none_other s ds (first_need (Duty.Ask (AskDuty.PlainHandshake s)) ds f)) (each (peer s)))
    answered_done (Duty.Ask (AskDuty.PlainData s)) ds other f each =
        event_told s FallEvent.PlainData (Duty.Ask (AskDuty.PlainData s)) ds (rest_followed (Duty.Ask (AskDuty.PlainData s)) ds f) (first_need (Duty.Ask (AskDuty.PlainData s)) ds f)
        (is_paid (at (Duty.Ask (AskDuty.PlainData s) ∷ ds)) (Duty.Ask (AskDuty.PlainData s) ∷ ds) refused (peer s) (none_other s ds (first_need (Duty.Ask (AskDuty.PlainData s)) ds f)) (each (peer s)))
    answered_done (Duty.Ask (AskDuty.SubflowAck s)) ds other f each = touched s _ ds (rest_followed (Duty.Ask (AskDuty.SubflowAck s)) ds f) (first_need (Duty.Ask (AskDuty.SubflowAck s)) ds f) (Duty.Ask (AskDuty.SubflowAck s) ∷ ds) (each (peer s))
    answered_done (Duty.Ask (AskDuty.GoIdentity s)) ds other f each = touched s _ ds (rest_followed (Duty.Ask (AskDuty.GoIdentity s)) ds f) (first_need (Duty.Ask (AskDuty.GoIdentity s)) ds f) (Duty.Ask (AskDuty.GoIdentity s) ∷ ds) (each (peer s))
    answered_done (Duty.Step (StepDuty.Unmapped s)) ds other f each = break_done (at (Duty.Step (StepDuty.Unmapped s) ∷ ds)) refused k s 6 r (is_paid (at (Duty.Step (StepDuty.Unmapped s) ∷ ds)) (Duty.Step (StepDuty.Unmapped s) ∷ ds) refused (peer s) (none_other s ds (first_need (Duty.Step (StepDuty.Unmapped s)) ds f)) (each (peer s)))
    answered_done (Duty.Ask (AskDuty.SubflowFin s)) ds other f each = plain_fin_done s ds f each (is_fin_set r)
    answered_done (Duty.Ask (AskDuty.Edge s)) ds other f each = piece_done s ds f each (piece_of s p) (is_placed r)
    answered_done (Duty.Ask (AskDuty.CheckFailed s)) ds other f each =
        let need = first_need (Duty.Ask (AskDuty.CheckFailed s)) ds f in
        fell_done s (after_check_failed p.profile.spelling.checksums r (end_at s p)) (Duty.Ask (AskDuty.CheckFailed s)) ds (rest_followed (Duty.Ask (AskDuty.CheckFailed s)) ds f) (own_owed s ds need)
        (is_paid (at (Duty.Ask (AskDuty.CheckFailed s) ∷ ds)) (Duty.Ask (AskDuty.CheckFailed s) ∷ ds) refused (peer s) (none_other s ds need) (each (peer s)))
    answered_done (Duty.Ask (AskDuty.FailHeard s)) ds other f each =
        let need = first_need (Duty.Ask (AskDuty.FailHeard s)) ds f in
        fell_done s (after_fail_heard r (end_at s p)) (Duty.Ask (AskDuty.FailHeard s)) ds (rest_followed (Duty.Ask (AskDuty.FailHeard s)) ds f) (own_owed s ds need)
        (is_paid (at (Duty.Ask (AskDuty.FailHeard s) ∷ ds)) (Duty.Ask (AskDuty.FailHeard s) ∷ ds) refused (peer s) (none_other s ds need) (each (peer s)))
    answered_done (Duty.Ask (AskDuty.HeardFin s index)) ds other f each = fin_done s index ds f each (is_fin_set r)
    answered_done (Duty.Ask (AskDuty.AckOut s)) ds other f each =
        on (at (Duty.Ask (AskDuty.AckOut s) ∷ ds)) refused s _ ds (rest_followed (Duty.Ask (AskDuty.AckOut s)) ds f) (⊎_elim (λ owed. inl owed) (λ h. inr (record { paid = h.paid; waits = h.waits })) (each s)) (each (peer s))
    answered_done (Duty.Ask (AskDuty.Rate s)) ds other f each = touched s _ ds (rest_followed (Duty.Ask (AskDuty.Rate s)) ds f) (first_need (Duty.Ask (AskDuty.Rate s)) ds f) (Duty.Ask (AskDuty.Rate s) ∷ ds) (each (peer s))
    answered_done (Duty.Send (SendDuty.Acknowledge s)) ds other f each = touched_sent s _ _ ds (rest_followed (Duty.Send (SendDuty.Acknowledge s)) ds f) (first_need (Duty.Send (SendDuty.Acknowledge s)) ds f) (Duty.Send (SendDuty.Acknowledge s) ∷ ds) (each (peer s))
    answered_done (Duty.Send (SendDuty.Again s)) ds other f each = touched_sent s _ _ ds (rest_followed (Duty.Send (SendDuty.Again s)) ds f) (first_need (Duty.Send (SendDuty.Again s)) ds f) (Duty.Send (SendDuty.Again s) ∷ ds) (each (peer s))
    answered_done (Duty.Send (SendDuty.Answer s)) ds other f each = touched_sent s _ _ ds (rest_followed (Duty.Send (SendDuty.Answer s)) ds f) (first_need (Duty.Send (SendDuty.Answer s)) ds f) (Duty.Send (SendDuty.Answer s) ∷ ds) (each (peer s))
    answered_done (Duty.Send (SendDuty.ResetAnswer s)) ds other f each =
        sent (at (Duty.Send (SendDuty.ResetAnswer s) ∷ ds)) refused k s _ _ ds (rest_followed (Duty.Send (SendDuty.ResetAnswer s)) ds f) (each s) (each (peer s))
    answered_done (Duty.Send (SendDuty.Resend s)) ds other f each = touched_sent s _ _ ds (rest_followed (Duty.Send (SendDuty.Resend s)) ds f) (first_need (Duty.Send (SendDuty.Resend s)) ds f) (Duty.Send (SendDuty.Resend s) ∷ ds) (each (peer s))
    answered_done (Duty.Ask (AskDuty.BreakAck s reason)) ds other f each =
        resets_done (at (Duty.Ask (AskDuty.BreakAck s reason) ∷ ds)) refused s reason r
        (other_paid (Duty.Ask (AskDuty.BreakAck s reason)) s ds (others_none s ds (first_need (Duty.Ask (AskDuty.BreakAck s reason)) ds f)) each)
    answered_done (Duty.Send (SendDuty.BreakReset s reason)) ds other f each =
        reset_done (at (Duty.Send (SendDuty.BreakReset s reason) ∷ ds)) refused k s (Some reason) (leaves s) refl
        (other_paid (Duty.Send (SendDuty.BreakReset s reason)) s ds (others_none s ds (first_need (Duty.Send (SendDuty.BreakReset s reason)) ds f)) each)
    answered_done (Duty.Send (SendDuty.Reset s)) ds other f each =
        reset_done (at (Duty.Send (SendDuty.Reset s) ∷ ds)) refused k s None (Duty.Ask (AskDuty.Leave s) ∷ ds) (rest_followed (Duty.Send (SendDuty.Reset s)) ds f) (other_paid (Duty.Send (SendDuty.Reset s)) s ds (others_none s ds (first_need (Duty.Send (SendDuty.Reset s)) ds f)) each)
    answered_done (Duty.Send (SendDuty.ResetNoted s)) ds other f each =
        touched_sent s _ _ (Duty.Ask (AskDuty.Leave s) ∷ ds) (rest_followed (Duty.Send (SendDuty.ResetNoted s)) ds f) (first_need (Duty.Send (SendDuty.ResetNoted s)) ds f) (Duty.Send (SendDuty.ResetNoted s) ∷ ds) (each (peer s))
    answered_done (Duty.Ask (AskDuty.Leave s)) ds other f each = done_on (Duty.Ask (AskDuty.Dead s) ∷ ds) (Duty.Ask (AskDuty.Leave s) ∷ ds) (rest_followed (Duty.Ask (AskDuty.Leave s)) ds f) (λ t. each t)
    answered_done (Duty.Ask (AskDuty.LeaveNoted s)) ds other f each =
        touched s _ (Duty.Ask (AskDuty.Dead s) ∷ ds) (rest_followed (Duty.Ask (AskDuty.LeaveNoted s)) ds f) (first_need (Duty.Ask (AskDuty.LeaveNoted s)) ds f) (Duty.Ask (AskDuty.LeaveNoted s) ∷ ds) (each (peer s))
    answered_done Duty.End ds other f each =
        done_on [] (Duty.End ∷ ds) refl (λ t. inr (is_paid (at (Duty.End ∷ ds)) (Duty.End ∷ ds) refused t (none_for t ds (first_need Duty.End ds f)) (each t)))
    answered_done d ds other f each = done_on ds (d ∷ ds) (rest_followed d ds f) (λ t. each t)
