-- The states of A's end of path 0: as soon as A hears a sign of B that may make its side sure, B's answer to the SYN was heard. And
-- what the SYNs of a path that joins show.
use Rattle.world_laws.proofs.Words.{◌≡◌, refl, sym, ◌∙◌, ap, subst, ℕ, zero, suc, ◌+◌, ◌||◌, not, Bool, true, false, if◌then◌else◌, Option, Some, None, List}
use Rattle.world_laws.proofs.Words.{[], ◌∷◌, is_some, and_parts, and_from, both_ways, false≢true, or_right, list_any, list_all, IfSome, Side, A, B, peer}
use Rattle.world_laws.proofs.Words.{Record, RecordKind, AckKind, after_acknowledge, ack_kind, sample_of, Meaning, syn_ack_segment, reset_segment, is_syn}
use Rattle.world_laws.proofs.Words.{record_segment, EndState, EndPhase, Outgoing, is_fin_acked, after_ack_kind, after_acknowledgement, is_duplicate}
use Rattle.world_laws.proofs.Words.{after_duplicate, after_interruption, told_by, after_payload, after_hearing, after_established, after_taken, after_arrival}
use Rattle.world_laws.proofs.Words.{meaning_of, Copy, Hint, HeardSegment, PlainOption, PlainSegment, Join, meant, heard_and, payload_came, copy_came, Duty}
use Rattle.world_laws.proofs.Words.{StepDuty, AskDuty, replaced, join_heard, JoinStep, tail_of, is_nil, PathEnd, items_of, reset_for, template_judged, owing_if}
use Rattle.world_laws.proofs.Words.{with_payload, outgoing_or, Judged, is_joined, join_options, capable_options, syn_options, record_options, segment_of}
use Rattle.world_laws.proofs.Words.{ack_said, record_said, syn_ack_said, record_or_ack, Profile, taken_as, is_side_a}
use Rattle.mptcp_options.specs.declared.join.JoinForm.TheVariants.{Syn as JoinSyn}
use Rattle.subflow_tcp.specs.States as states
use Rattle.world_laws.proofs.Keys.AreDrawn.{is_past}
use Rattle.world_laws.proofs.Keys.Meanings.{Means, means}
use Rattle.world_laws.proofs.Keys.WhatWakes.{is_opens, is_lively}

-- ---- states

-- A isn't before B's answer, nor dead
abbrev pub is_met : EndPhase → Bool
is_met EndPhase.Waiting = false
is_met EndPhase.SynSent = false
is_met EndPhase.Dead = false
is_met _ = true

pub finish_met : (state : EndPhase) → is_met (states.after_finish state) ≡ is_met state
finish_met EndPhase.Established = refl
finish_met EndPhase.CloseWait = refl
finish_met EndPhase.Waiting = refl
finish_met _ = refl

pub passed_met_state : (state : EndPhase) → is_met (states.after_fin_passed state) ≡ is_met state
passed_met_state EndPhase.Established = refl
passed_met_state EndPhase.FinWait1 = refl
passed_met_state EndPhase.FinWait2 = refl
passed_met_state EndPhase.Waiting = refl
passed_met_state _ = refl

payload_met : (m : Meaning) (octets : List ℕ) (s : EndState) → (with_payload m octets s).state ≡ s.state
payload_met (Meaning.Taken pos acknowledged) [] s = refl
payload_met (Meaning.Taken pos acknowledged) (octet ∷ octets) s = refl
payload_met _ octets s = refl

owing_state : (b : Bool) (s : EndState) → (owing_if b s).state ≡ s.state
owing_state = elim [ true ↦ λ s. refl | false ↦ λ s. refl ]

-- A's end never has the peer's SYN before its own was answered, and B's never opens
abbrev pub is_apart : Side → EndPhase → Bool
is_apart s EndPhase.Listen = is_side_a s
is_apart s EndPhase.SynReceived = is_side_a s
is_apart s EndPhase.SynSent = not (is_side_a s)
is_apart s _ = false

pub finish_apart : (s : Side) (state : EndPhase) → is_apart s (states.after_finish state) ≡ is_apart s state
finish_apart s EndPhase.Established = refl
finish_apart s EndPhase.CloseWait = refl
finish_apart s EndPhase.Waiting = refl
finish_apart s _ = refl

acked_apart : (s : Side) (state : EndPhase) → is_apart s (states.after_fin_acked state) ≡ is_apart s state
acked_apart s EndPhase.FinWait1 = refl
acked_apart s EndPhase.Closing = refl
acked_apart s EndPhase.Waiting = refl
acked_apart s _ = refl

pub passed_apart : (s : Side) (state : EndPhase) → is_apart s (states.after_fin_passed state) ≡ is_apart s state
passed_apart s EndPhase.Established = refl
passed_apart s EndPhase.FinWait1 = refl
passed_apart s EndPhase.FinWait2 = refl
passed_apart s EndPhase.Waiting = refl
passed_apart s _ = refl

pub handshake_apart : (s : Side) (state : EndPhase) → is_apart s (states.after_handshake state) ≡ true → is_apart s state ≡ true
handshake_apart s EndPhase.SynReceived is = absurd (false≢true is)
handshake_apart s EndPhase.Waiting is = is
handshake_apart s _ is = is

pub ack_apart : (side : Side) (pos now : ℕ) (s : EndState) → is_apart side (after_acknowledgement pos now s).state ≡ is_apart side s.state
ack_apart side pos now s = elim (ack_kind pos s.send) as (λ kind. is_apart side (after_ack_kind kind (sample_of pos s.send) now t).state ≡ is_apart side s.state)
    [ AckKind.New octets ↦ new (is_fin_acked t.send) | _ ↦ refl ]
  where
    t : EndState
    t = record s { send = after_acknowledge pos s.send }

    new : (b : Bool) → is_apart side (if b then states.after_fin_acked s.state else s.state) ≡ is_apart side s.state
    new = elim [ true ↦ acked_apart side s.state | false ↦ refl ]

taken_apart : (side : Side) (pos acknowledged : ℕ) (hint : Hint) (now : ℕ) (c : Copy) (s : EndState) → is_apart side (after_taken pos acknowledged hint now c s).state ≡ true → is_apart side s.state ≡ true
taken_apart side pos acknowledged hint now c s =
    elim (is_duplicate (ack_kind acknowledged opened.send) (told_by hint c) c acked) as (λ b. is_apart side (if b then after_duplicate acked else after_interruption acked).state ≡ true → is_apart side s.state ≡ true) [
      | true ↦ λ is. handshake_apart side s.state (sym (ack_apart side acknowledged now opened) ∙ is)
      | false ↦ λ is. handshake_apart side s.state (sym (ack_apart side acknowledged now opened) ∙ is)
    ]
  where
    opened : EndState
    opened = after_established (after_hearing (after_payload pos hint c s))

    acked : EndState
    acked = after_acknowledgement acknowledged now opened

-- what a copy means that is met, or answers
abbrev pub is_accepts : Meaning → Bool
is_accepts (Meaning.Accepts acknowledged) = true
is_accepts _ = false

abbrev is_opens_or_taken : Meaning → Bool
is_opens_or_taken Meaning.Opens = true
is_opens_or_taken (Meaning.Taken pos acknowledged) = true
is_opens_or_taken _ = false

-- a copy comes to an end that is met, or is the answer to the SYN
abbrev pub Fits : EndPhase → Copy → Meaning → Type 0
Fits state c m = (is_opens_or_taken m ≡ true → is_met state ≡ true) × (is_accepts m ≡ true → c.syn ≡ true)

past_met : (state : EndPhase) → is_past state ≡ true → is_met state ≡ true
past_met EndPhase.Waiting is = absurd (false≢true is)
past_met EndPhase.SynSent is = absurd (false≢true is)
past_met EndPhase.Dead is = absurd (false≢true is)
past_met _ is = refl

pub fits : (c : Copy) (s : EndState) → Fits s.state c (meaning_of c s)
fits c s = (elim (meaning_of c s) as (λ m. Means c s m → Fits s.state c m) [
  | Meaning.Opens ↦ λ is. (λ heeds. ap is_met is.0, λ accepts. is.1.0)
  | Meaning.Accepts acknowledged ↦ λ is. (λ heeds. absurd (false≢true heeds), λ accepts. is.1.0)
  | Meaning.Taken pos acknowledged ↦ λ is. (λ heeds. past_met s.state is.0, λ accepts. absurd (false≢true accepts))
  | _ ↦ λ is. (λ heeds. absurd (false≢true heeds), λ accepts. absurd (false≢true accepts))
]) (means c s)

-- ---- duties

-- by these A learns B's key
abbrev pub is_key_duty : Duty → Bool
is_key_duty (Duty.Ask (AskDuty.SynAnswered A)) = true
is_key_duty (Duty.Ask (AskDuty.PeerKey A)) = true
is_key_duty _ = false

abbrev pub is_calm : List Duty → Bool
is_calm ds = list_all (λ d. not (is_key_duty d)) ds

-- by these A may tell a sign of B
abbrev pub is_sign_duty : Duty → Bool
is_sign_duty (Duty.Step (StepDuty.Heard A index)) = true
is_sign_duty (Duty.Ask (AskDuty.AckHeard A)) = true
is_sign_duty _ = false

abbrev pub signs : List Duty → Bool
signs ds = list_any is_sign_duty ds

-- as calm as the other, with no more signs
pub record Fewer (ds es : List Duty) : Type 0 where
  pub calm : is_calm ds ≡ true → is_calm es ≡ true
  pub signs_fewer : signs es ≡ true → signs ds ≡ true

pub same_duties : (ds : List Duty) → Fewer ds ds
same_duties ds = record { calm = λ is. is; signs_fewer = λ is. is }

pub tail_fewer : (ds : List Duty) → Fewer ds (tail_of ds)
tail_fewer [] = record { calm = λ is. is; signs_fewer = λ is. is }
tail_fewer (d ∷ ds) = record { calm = λ is. (and_parts (not (is_key_duty d)) (is_calm ds) is).1; signs_fewer = λ is. or_right (is_sign_duty d) (signs ds) is }

pub replaced_fewer : (x : Duty) (ds : List Duty) → is_key_duty x ≡ false → (is_sign_duty x ≡ true → signs ds ≡ true) → Fewer ds (replaced x ds)
replaced_fewer x [] key sign = record { calm = λ is. is; signs_fewer = λ is. is }
replaced_fewer x (d ∷ ds) key sign = record {
  calm = λ is. and_from (not (is_key_duty x)) (is_calm ds) (ap not key) (and_parts (not (is_key_duty d)) (is_calm ds) is).1;
  signs_fewer = λ is. by (is_sign_duty x) refl is;
}
  where
    by : (b : Bool) → is_sign_duty x ≡ b → b || signs ds ≡ true → signs (d ∷ ds) ≡ true
    by true is more = sign is
    by false is more = or_right (is_sign_duty d) (signs ds) more

-- a list that isn't the path's own
pub new_duties : (ds es : List Duty) → is_calm es ≡ true → signs es ≡ false → Fewer ds es
new_duties ds es calm none = record { calm = λ is. calm; signs_fewer = λ is. absurd (both_ways _ none is) }

heard_calm : (s : Side) (from count : ℕ) (ds : List Duty) → is_calm (heard_and s from count ds) ≡ is_calm ds
heard_calm s from zero ds = refl
heard_calm s from (suc count) ds = heard_calm s (from + 1) count ds

heard_signs : (from count : ℕ) (ds : List Duty) → signs (heard_and B from count ds) ≡ signs ds
heard_signs from zero ds = refl
heard_signs from (suc count) ds = heard_signs (from + 1) count ds

came_calm : (s : Side) (count : ℕ) → is_calm (copy_came s count) ≡ true
came_calm s count = heard_calm s 0 count (payload_came s)

pub b_template : (joined : Bool) (count : ℕ) (v : Judged) → (is_calm (template_judged joined B count v) ≡ true) × (signs (template_judged joined B count v) ≡ false)
b_template true count (Judged.As (Meaning.Accepts acknowledged)) = (refl, refl)
b_template false count (Judged.As (Meaning.Accepts acknowledged)) = (refl, refl)
b_template joined count (Judged.As (Meaning.Taken pos acknowledged)) = (came_calm B count, heard_signs 0 count (payload_came B))
b_template joined count _ = (refl, refl)

-- ---- what is said, and heard

-- the first of these options is the MP_JOIN of a SYN
abbrev pub asks_first : List PlainOption → Bool
asks_first (Join (JoinSyn backup id token nonce) ∷ options) = true
asks_first _ = false

-- on a path that joins a SYN of A that shows any options asks to join by the first one, and B's answers
abbrev pub TellsKey : Bool → Side → PlainSegment → Type 0
TellsKey false s sg = Unit {0}
TellsKey true A sg = is_nil sg.options ≡ false → sg.syn ≡ true → is_some (join_heard JoinStep.Answer (items_of true A (meant sg))) ≡ true
TellsKey true B sg = is_nil sg.options ≡ false → sg.syn ≡ true → asks_first sg.options ≡ true

-- a segment without SYN shows none
pub no_syn : (joined : Bool) (s : Side) (sg : PlainSegment) → sg.syn ≡ false → TellsKey joined (peer s) sg
no_syn false s sg none = tt
no_syn true A sg none = λ some syn. absurd (both_ways _ none syn)
no_syn true B sg none = λ some syn. absurd (both_ways _ none syn)

-- a side's options on a SYN
syn_tells : (c : Profile) (s : Side) (e : PathEnd) (o : Outgoing) (payload : List ℕ) → TellsKey (is_joined c) (peer s) (segment_of c o (syn_options c s e) payload e)
syn_tells c s e o payload = by (is_joined c) s
  where
    by : (b : Bool) (s : Side) → TellsKey b (peer s) (segment_of c o (if b then join_options c s e.modes else capable_options c s e) payload e)
    by true A = λ some syn. refl
    by true B = λ some syn. refl
    by false s = tt

record_tells : (c : Profile) (s : Side) (e : PathEnd) (r : Record) → TellsKey (is_joined c) (peer s) (record_said c s r e)
record_tells c s e r = (elim r.kind as (λ kind. r.kind ≡ kind → TellsKey (is_joined c) (peer s) (record_said c s r e)) [
  | RecordKind.Syn ↦ λ is. subst (λ kind. TellsKey (is_joined c) (peer s) (segment_of c (record_segment e.tcp r) (record_options kind c s r e) r.piece e)) (sym is) (syn_tells c s e (record_segment e.tcp r) r.piece)
  | RecordKind.Data ↦ λ is. no_syn (is_joined c) s (record_said c s r e) (ap is_syn is)
  | RecordKind.Fin ↦ λ is. no_syn (is_joined c) s (record_said c s r e) (ap is_syn is)
]) refl

pub record_or_ack_tells : (c : Profile) (s : Side) (e : PathEnd) (o : Option Record) → TellsKey (is_joined c) (peer s) (record_or_ack c s o e)
record_or_ack_tells c s e None = no_syn (is_joined c) s (ack_said c s e.tcp.send.nxt None e) refl
record_or_ack_tells c s e (Some r) = record_tells c s e r

pub syn_ack_tells : (c : Profile) (s : Side) (e : PathEnd) → TellsKey (is_joined c) (peer s) (syn_ack_said c s e)
syn_ack_tells c s e = syn_tells c s e (syn_ack_segment e.tcp) []

abbrev pub IsNoSyn : Option Outgoing → Type 0
IsNoSyn o = IfSome o (λ outgoing. outgoing.syn ≡ false)

pub reset_answers : (c : Profile) (s : Side) (h : HeardSegment) → (reset_for c s h).syn ≡ false
reset_answers c s h = refl

pub outgoing_tells : (c : Profile) (s : Side) (e : PathEnd) (o : Option Outgoing) (options : List PlainOption) → IsNoSyn o → TellsKey (is_joined c) (peer s) (segment_of c (outgoing_or o (reset_segment e.tcp)) options [] e)
outgoing_tells c s e None options none = no_syn (is_joined c) s (segment_of c (reset_segment e.tcp) options [] e) refl
outgoing_tells c s e (Some outgoing) options none = no_syn (is_joined c) s (segment_of c outgoing options [] e) none

-- ---- a copy

pub arrived_state : (m : Meaning) (owes : Bool) (hint : Hint) (now : ℕ) (c : Copy) (octets : List ℕ) (s : EndState)
    → (owing_if owes (after_arrival m hint now c (with_payload m octets s))).state ≡ (after_arrival m hint now c (with_payload m octets s)).state
arrived_state m owes hint now c octets s = owing_state owes (after_arrival m hint now c (with_payload m octets s))

-- what isn't accepted leaves an end unmet that was
pub unmet_stays : (m : Meaning) (hint : Hint) (now : ℕ) (c : Copy) (octets : List ℕ) (s : EndState) → is_accepts m ≡ false → (is_opens_or_taken m ≡ true → is_met s.state ≡ true)
    → is_met (after_arrival m hint now c (with_payload m octets s)).state ≡ true → is_met s.state ≡ true
unmet_stays Meaning.Opens hint now c octets s none met is = met refl
unmet_stays (Meaning.Accepts acknowledged) hint now c octets s none met is = absurd (false≢true (sym none))
unmet_stays Meaning.Kills hint now c octets s none met is = absurd (false≢true is)
unmet_stays (Meaning.Taken pos acknowledged) hint now c octets s none met is = met refl
unmet_stays _ hint now c octets s none met is = is

-- no copy but a SYN lets an end be where it never is
pub apart_stays : (side : Side) (m : Meaning) (hint : Hint) (now : ℕ) (c : Copy) (octets : List ℕ) (s : EndState) → is_opens m ≡ false
    → is_apart side (after_arrival m hint now c (with_payload m octets s)).state ≡ true → is_apart side s.state ≡ true
apart_stays side Meaning.Opens hint now c octets s none is = absurd (false≢true (sym none))
apart_stays side (Meaning.Accepts acknowledged) hint now c octets s none is =
    let opened : EndState = record (after_hearing (after_payload 1 hint c s)) { state = EndPhase.Established } in
    absurd (false≢true (sym (ack_apart side acknowledged now opened) ∙ is))
apart_stays side Meaning.Kills hint now c octets s none is = absurd (false≢true is)
apart_stays side (Meaning.Taken pos acknowledged) hint now c octets s none is =
    let held : EndState = with_payload (Meaning.Taken pos acknowledged) octets s in
    ap (is_apart side) (sym (payload_met (Meaning.Taken pos acknowledged) octets s)) ∙ taken_apart side pos acknowledged hint now c held is
apart_stays side _ hint now c octets s none is = is

-- what A does about a copy that isn't accepted on the path that opens: it needs the key for a sign
pub a_template : (joined : Bool) (count : ℕ) (v : Judged) → (joined ≡ false → is_accepts (taken_as v) ≡ false) → is_calm (template_judged joined A count v) ≡ true
a_template true count (Judged.As (Meaning.Accepts acknowledged)) none = refl
a_template false count (Judged.As (Meaning.Accepts acknowledged)) none = absurd (false≢true (sym (none refl)))
a_template joined count (Judged.As (Meaning.Taken pos acknowledged)) none = came_calm A count
a_template joined count _ none = refl

pub a_signs : (joined : Bool) (count : ℕ) (v : Judged) → signs (template_judged joined A count v) ≡ true → (is_opens_or_taken (taken_as v) ≡ true) × (is_lively (taken_as v) ≡ true)
a_signs true count (Judged.As (Meaning.Accepts acknowledged)) is = absurd (false≢true is)
a_signs false count (Judged.As (Meaning.Accepts acknowledged)) is = absurd (false≢true is)
a_signs joined count (Judged.As (Meaning.Taken pos acknowledged)) is = (refl, refl)
a_signs joined count _ is = absurd (false≢true is)
