-- What each step makes of an end's subflow and stream is as far as they were.
use Rattle.std.proofs.Common.{◌≡◌, refl, sym, ◌∙◌, ap, subst, ℕ, ◌≤◌, ◌==◌, ◌&&◌, nat_lt, nat_le, Bool, true, false, if◌then◌else◌, None, le_refl, arith}
use Rattle.std.proofs.lemmas.Bool.{and_parts, ltb-true, or_left}
use Rattle.subflow_send.specs.declared.record.AckKind.{AckKind}
use Rattle.subflow_send.specs.declared.record.AckKind.TheVariants.{New, Duplicate, Old, Future}
use Rattle.subflow_send.specs.Records.{SendState}
use Rattle.subflow_send.specs.Rules.{uncovered, ack_kind, after_acknowledge, after_resent, sample_of}
use Rattle.subflow_recv.specs.Receiving.{Receiving, after_accept, after_keep_held, without_held}
use Rattle.subflow_tcp.specs.declared.handshake.State.{State}
use Rattle.subflow_tcp.specs.declared.handshake.State.TheVariants.{Waiting, Listen, SynSent, SynReceived, Established, FinWait1, FinWait2, CloseWait, Closing}
use Rattle.subflow_tcp.specs.declared.segments.Hint.{Hint}
use Rattle.subflow_tcp.specs.declared.segments.Occasion.{Occasion}
use Rattle.subflow_tcp.specs.declared.segments.Occasion.TheVariants as to_send
use Rattle.subflow_tcp.specs.declared.verdicts.Meaning.{Meaning}
use Rattle.subflow_tcp.specs.declared.verdicts.Meaning.TheVariants as means
use Rattle.subflow_tcp.specs.Segments.{Copy}
use Rattle.subflow_tcp.specs.State.{EndState, is_fin_passed}
use Rattle.subflow_tcp.specs.States.{after_finish, after_fin_acked, after_fin_passed, after_handshake}
use Rattle.subflow_tcp.specs.Emitting.{after_sending}
use Rattle.subflow_tcp.specs.Expiring.{after_fire, after_expiry, is_sixth}
use Rattle.subflow_tcp.specs.Taking.{after_death, after_payload, is_kept, is_fin_acked, after_ack_kind, after_acknowledgement, is_duplicate, after_duplicate, after_interruption, told_by, after_telling, after_heard_ack, after_established, after_hearing, after_occupying, after_syn, after_taken, after_syn_ack, unkept, after_arrival, after_keeping_held}
use Rattle.path_core.specs.MpJoin.{syn_of_window}
use Rattle.path_core.specs.Sending.{Sending}
use Rattle.world_laws.proofs.Whole.Ends.{MeansIs, means_so}
use Rattle.whole_paths.specs.AsFar.{stage, IsSubflowAsFar, IsStreamAsFar}
use Rattle.whole_paths.specs.EndSteps.{SubflowStep, SubflowSteps, StreamStep}
use Rattle.whole_paths.specs.EndSteps.SubflowStep.{arrives, holds, owes, keeps, drops, advances, passes, forgets, pushes, finishes, sends, settles, fires, grows, begins, joins, dies}
use Rattle.whole_paths.specs.EndSteps.SubflowSteps.{none, more}

-- ---- the states

pub stage_most : (s : State) → stage s ≤ 7
stage_most = elim [ Waiting ↦ omega arith | _ ↦ omega arith ]

finish_up : (s : State) → stage s ≤ stage (after_finish s)
finish_up = elim [ Established ↦ omega arith | CloseWait ↦ omega arith | _ ↦ omega arith ]

fin_acked_up : (s : State) → stage s ≤ stage (after_fin_acked s)
fin_acked_up = elim [ FinWait1 ↦ omega arith | Closing ↦ omega arith | _ ↦ omega arith ]

fin_passed_up : (s : State) → stage s ≤ stage (after_fin_passed s)
fin_passed_up Established = omega arith
fin_passed_up FinWait1 = omega arith
fin_passed_up FinWait2 = omega arith
fin_passed_up _ = omega arith

handshake_up : (s : State) → stage s ≤ stage (after_handshake s)
handshake_up = elim [ SynReceived ↦ omega arith | _ ↦ omega arith ]

-- ---- the parts of an end

pub stays : (s : EndState) → IsSubflowAsFar s s
stays s = record { acknowledged = le_refl s.send.una; pushed = le_refl s.send.nxt; received = le_refl s.recv.edge; state = le_refl (stage s.state) }

pub goes_on : (s t u : EndState) → IsSubflowAsFar s t → IsSubflowAsFar t u → IsSubflowAsFar s u
goes_on s t u x y = record {
  acknowledged = omega (arith, x.acknowledged, y.acknowledged);
  pushed = omega (arith, x.pushed, y.pushed);
  received = omega (arith, x.received, y.received);
  state = omega (arith, x.state, y.state);
}

-- none of the four changes
untouched : (s t : EndState) → t.send.una ≡ s.send.una → t.send.nxt ≡ s.send.nxt → t.recv.edge ≡ s.recv.edge → t.state ≡ s.state → IsSubflowAsFar s t
untouched s t una nxt edge state = record {
  acknowledged = omega (arith, una);
  pushed = omega (arith, nxt);
  received = omega (arith, edge);
  state = subst (λ x. stage s.state ≤ stage x) (sym state) (le_refl (stage s.state));
}

-- the state alone does
moved : (s t : EndState) → t.send.una ≡ s.send.una → t.send.nxt ≡ s.send.nxt → t.recv.edge ≡ s.recv.edge → stage s.state ≤ stage t.state → IsSubflowAsFar s t
moved s t una nxt edge state = record { acknowledged = omega (arith, una); pushed = omega (arith, nxt); received = omega (arith, edge); state = state }

-- one of two
either : (b : Bool) (s t u : EndState) → IsSubflowAsFar s t → IsSubflowAsFar s u → IsSubflowAsFar s (if b then t else u)
either = elim [ true ↦ λ s t u x y. x | false ↦ λ s t u x y. y ]

at_most : (n : ℕ) (s : EndState) (state : State) → s.state ≡ state → stage state ≤ n → stage s.state ≤ n
at_most n s state is few = subst (λ x. stage x ≤ n) (sym is) few

-- whichever of two receiving sides it has
edge_stays : (b : Bool) (v w : Receiving) (n : ℕ) → v.edge ≡ n → w.edge ≡ n → (if b then v else w).edge ≡ n
edge_stays = elim [ true ↦ λ v w n first second. first | false ↦ λ v w n first second. second ]

acknowledge_up : (pos : ℕ) (v : SendState) → (v.una ≤ (after_acknowledge pos v).una) × (v.nxt ≤ (after_acknowledge pos v).nxt)
acknowledge_up pos v = by (nat_lt v.una pos && nat_le pos v.nxt) refl
  where
    by : (b : Bool) → (nat_lt v.una pos && nat_le pos v.nxt) ≡ b → let w : SendState = if b then record v { una = pos; records = uncovered pos v.records } else v in
        (v.una ≤ w.una) × (v.nxt ≤ w.nxt)
    by true is = let more = ltb-true v.una pos (and_parts (nat_lt v.una pos) (nat_le pos v.nxt) is).0 in (omega (arith, more), le_refl v.nxt)
    by false is = (le_refl v.una, le_refl v.nxt)

-- ---- what an end does by itself

death_up : (reset : Bool) (s : EndState) → IsSubflowAsFar s (after_death reset s)
death_up reset s =
    let up = acknowledge_up s.send.nxt s.send in
    record { acknowledged = up.0; pushed = up.1; received = le_refl s.recv.edge; state = stage_most s.state }

fire_up : (now : ℕ) (s : EndState) → IsSubflowAsFar s (after_fire now s)
fire_up now s = either (is_sixth s) s (after_death true s) (after_expiry now s) (death_up true s) (untouched s (after_expiry now s) refl refl refl refl)

sending_up : (occasion : Occasion) (now : ℕ) (s : EndState) → IsSubflowAsFar s (after_sending occasion now s)
sending_up to_send.SynAck now s =
    elim (s.send.una == 0) as (λ b. let send : SendState = if b then after_resent now s.send else s.send in IsSubflowAsFar s (record (after_sending to_send.SynAck now s) { send = send }))
    [ true ↦ untouched s _ refl refl refl refl | false ↦ untouched s _ refl refl refl refl ]
sending_up _ now s = untouched s _ refl refl refl refl

kept_up : (s : EndState) → IsSubflowAsFar s (after_keeping_held s)
kept_up s = untouched s (after_keeping_held s) refl refl (edge_stays (is_fin_passed s) (without_held s.recv) (after_keep_held s.recv) s.recv.edge refl refl) refl

-- ---- what a segment makes of it

payload_up : (pos : ℕ) (hint : Hint) (c : Copy) (s : EndState) → IsSubflowAsFar s (after_payload pos hint c s)
payload_up pos hint c s =
    untouched s (after_payload pos hint c s) refl refl (edge_stays (is_kept hint.keep s) (after_accept pos c.payload s.recv) s.recv s.recv.edge refl refl) refl

pub ack_up : (pos now : ℕ) (s : EndState) → IsSubflowAsFar s (after_acknowledgement pos now s)
ack_up pos now s =
    let up = acknowledge_up pos s.send in
    goes_on s acked (after_acknowledgement pos now s) (record { acknowledged = up.0; pushed = up.1; received = le_refl s.recv.edge; state = le_refl (stage s.state) })
    (by (ack_kind pos s.send))
  where
    acked : EndState
    acked = record s { send = after_acknowledge pos s.send }

    new : (b : Bool) → stage s.state ≤ stage (if b then after_fin_acked s.state else s.state)
    new = elim [ true ↦ fin_acked_up s.state | false ↦ le_refl (stage s.state) ]

    by : (kind : AckKind) → IsSubflowAsFar acked (after_ack_kind kind (sample_of pos s.send) now acked)
    by (New octets) = moved acked _ refl refl refl (new (is_fin_acked acked.send))
    by Duplicate = stays acked
    by Old = stays acked
    by Future = stays acked

heard_ack_up : (pos : ℕ) (hint : Hint) (now : ℕ) (c : Copy) (s : EndState) → IsSubflowAsFar s (after_heard_ack pos hint now c s)
heard_ack_up pos hint now c s = goes_on s acked (after_heard_ack pos hint now c s) (ack_up pos now s) (by (is_duplicate (ack_kind pos s.send) (told_by hint c) c acked))
  where
    acked : EndState
    acked = after_acknowledgement pos now s

    by : (b : Bool) → IsSubflowAsFar acked (after_telling (told_by hint c) (if b then after_duplicate acked else after_interruption acked))
    by = elim [ true ↦ untouched acked _ refl refl refl refl | false ↦ untouched acked _ refl refl refl refl ]

taken_up : (pos acknowledged : ℕ) (hint : Hint) (now : ℕ) (c : Copy) (s : EndState) → IsSubflowAsFar s (after_taken pos acknowledged hint now c s)
taken_up pos acknowledged hint now c s =
    let kept : EndState = after_payload pos hint c s in
    let ready : EndState = after_established (after_hearing kept) in
    let heard : EndState = after_heard_ack acknowledged hint now c ready in
    goes_on s kept (after_occupying c heard) (payload_up pos hint c s)
    (goes_on kept ready (after_occupying c heard) (moved kept ready refl refl refl (handshake_up kept.state))
    (goes_on ready heard (after_occupying c heard) (heard_ack_up acknowledged hint now c ready) (untouched heard (after_occupying c heard) refl refl refl refl)))

syn_up : (hint : Hint) (c : Copy) (s : EndState) → s.state ≡ Listen → IsSubflowAsFar s (after_syn hint c s)
syn_up hint c s is =
    let kept : EndState = after_payload 1 hint c s in
    goes_on s kept (after_syn hint c s) (payload_up 1 hint c s) (moved kept (after_syn hint c s) refl refl refl (at_most 2 s Listen is (omega arith)))

syn_ack_up : (acknowledged : ℕ) (hint : Hint) (now : ℕ) (c : Copy) (s : EndState) → s.state ≡ SynSent → IsSubflowAsFar s (after_syn_ack acknowledged hint now c s)
syn_ack_up acknowledged hint now c s is =
    let kept : EndState = after_payload 1 hint c s in
    let ready : EndState = record (after_hearing kept) { state = Established } in
    let heard : EndState = after_acknowledgement acknowledged now ready in
    goes_on s kept (after_syn_ack acknowledged hint now c s) (payload_up 1 hint c s)
    (goes_on kept ready (after_syn_ack acknowledged hint now c s) (moved kept ready refl refl refl (at_most 3 s SynSent is (omega arith)))
    (goes_on ready heard (after_syn_ack acknowledged hint now c s) (ack_up acknowledged now ready) (untouched heard (after_syn_ack acknowledged hint now c s) refl refl refl refl)))

-- a segment that means this to the end
arrival_up : (m : Meaning) (hint : Hint) (now : ℕ) (c : Copy) (s : EndState) → MeansIs c s m → IsSubflowAsFar s (after_arrival m hint now c s)
arrival_up means.Ignored hint now c s is = stays s
arrival_up means.Unwanted hint now c s is = stays s
arrival_up means.Opens hint now c s is = syn_up hint c s is.0
arrival_up (means.Accepts acknowledged) hint now c s is = syn_ack_up acknowledged hint now c s is.0
arrival_up means.Kills hint now c s is = death_up false s
arrival_up (means.Taken pos acknowledged) hint now c s is = taken_up pos acknowledged hint now c s
arrival_up _ hint now c s is = untouched s _ refl refl refl refl

-- ---- each step, and many

step_up : (now : ℕ) (s t : EndState) → SubflowStep now s t → IsSubflowAsFar s t
step_up now s t (arrives m hint c is) = arrival_up m hint now c s (subst (λ x. MeansIs c s x) (sym is) (means_so c s))
step_up now s t (holds pos octets) = untouched s _ refl refl refl refl
step_up now s t owes = untouched s _ refl refl refl refl
step_up now s t keeps = kept_up s
step_up now s t drops = untouched s _ refl refl refl refl
step_up now s t (advances count) = record { acknowledged = le_refl s.send.una; pushed = le_refl s.send.nxt; received = omega arith; state = le_refl (stage s.state) }
step_up now s t (passes next) = record { acknowledged = le_refl s.send.una; pushed = le_refl s.send.nxt; received = omega arith; state = fin_passed_up s.state }
step_up now s t (forgets pos) = untouched s _ refl refl refl refl
step_up now s t (pushes piece mapping) = record { acknowledged = le_refl s.send.una; pushed = omega arith; received = le_refl s.recv.edge; state = le_refl (stage s.state) }
step_up now s t finishes = record { acknowledged = le_refl s.send.una; pushed = omega arith; received = le_refl s.recv.edge; state = finish_up s.state }
step_up now s t (sends occasion) = sending_up occasion now s
step_up now s t (settles on restart) = untouched s _ refl refl refl refl
step_up now s t fires = fire_up now s
step_up now s t (grows growth) = untouched s _ refl refl refl refl
step_up now s t (begins is) = moved s _ refl refl refl (at_most 1 s Waiting is (omega arith))
step_up now s t (joins window is) = syn_up (unkept None) (syn_of_window window) s is
step_up now s t dies = death_up false s

pub steps_up : (now : ℕ) (s t : EndState) → SubflowSteps now s t → IsSubflowAsFar s t
steps_up now s t none = stays s
steps_up now s t (more u v steps step) = goes_on s u t (steps_up now s u steps) (step_up now u t step)

-- ---- the side's stream

stream_same : (v w : Sending) → w.heard ≡ v.heard → w.fin_sent ≡ v.fin_sent → w.close ≡ v.close → IsStreamAsFar v w
stream_same v w heard sent close = record {
  heard = omega (arith, heard);
  fin_sent = λ h. sent ∙ h;
  fin_acknowledged = λ h. ap (λ c. c.own_acked) close ∙ h;
  fin_came = λ h. ap (λ c. c.peer_came) close ∙ h;
}

pub stream_stays : (v : Sending) → IsStreamAsFar v v
stream_stays v = stream_same v v refl refl refl

pub stream_then : (v w x : Sending) → IsStreamAsFar v w → IsStreamAsFar w x → IsStreamAsFar v x
stream_then v w x first second = record {
  heard = omega (arith, first.heard, second.heard);
  fin_sent = λ h. second.fin_sent (first.fin_sent h);
  fin_acknowledged = λ h. second.fin_acknowledged (first.fin_acknowledged h);
  fin_came = λ h. second.fin_came (first.fin_came h);
}

pub stream_up : (v w : Sending) → StreamStep v w → IsStreamAsFar v w
stream_up v w StreamStep.stays = stream_same v v refl refl refl
stream_up v w (StreamStep.hears next fin) =
    record { heard = omega arith; fin_sent = λ h. h; fin_acknowledged = λ h. or_left v.close.own_acked fin h; fin_came = λ h. h }
stream_up v w StreamStep.closes = record { heard = le_refl v.heard; fin_sent = λ h. h; fin_acknowledged = λ h. h; fin_came = λ h. refl }
stream_up v w StreamStep.ends = record { heard = le_refl v.heard; fin_sent = λ h. refl; fin_acknowledged = λ h. h; fin_came = λ h. h }
stream_up v w (StreamStep.takes piece) = stream_same v _ refl refl refl
stream_up v w (StreamStep.is_refused shut known_end) = stream_same v _ refl refl refl
stream_up v w (StreamStep.tells news) = stream_same v _ refl refl refl
