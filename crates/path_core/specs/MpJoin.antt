-- How a further path joins the connection: what its MP_JOINs say, what the control books are asked and answer, and what follows
-- from it (RFC 8684, section 3.2).
use Rattle.std.specs.Prelude.{ℕ, Bool, ◌==◌, ◌&&◌, true, false, nat_lt, if◌then◌else◌, List, Option, [], is_none, Some, unwrap_or, ◌∷◌, None, option_map}
use Rattle.std.specs.Result.{result_ok}
use Rattle.std.specs.Cmp.Lexicographic.{pointwise}
use Rattle.sides.specs.declared.side.Side.{Side}
use Rattle.sides.specs.declared.side.Side.TheVariants.{A, B}
use Rattle.key_material.specs.KeyDigest.{token_of}
use Rattle.join_handshake.specs.Said.{syn_option, answer_option, third_option}
use Rattle.path_segments.specs.Options.{PlainOption}
use Rattle.mptcp_options.specs.declared.join.JoinForm.{JoinForm}
use Rattle.mptcp_options.specs.Value as wire
use Rattle.join_handshake.specs.declared.hearing.JoinSyn.{JoinSyn}
use Rattle.join_handshake.specs.Heard.{syn_heard, answer_heard, answer_taken, third_heard}
use Rattle.path_agenda.specs.declared.heard.Heard.{Heard}
use Rattle.path_agenda.specs.declared.heard.JoinStep.TheVariants as step
use Rattle.path_agenda.specs.Items.{join_heard}
use Rattle.join_handshake.specs.declared.hearing.JoinAnswer.{JoinAnswer}
use Rattle.key_material.specs.JoinHmac.{join_a160_of}
use Rattle.control_book.specs.declared.call.ControlReply.TheVariants as control_replies
use Rattle.actor_desk.specs.declared.ask.Reply.{Reply}
use Rattle.actor_desk.specs.declared.ask.Reply.TheVariants as replies
use Rattle.path_agenda.specs.declared.keys.KeyPair.{KeyPair}
use Rattle.fallback_state.specs.declared.fall.Mode.{Mode}
use Rattle.control_book.specs.declared.call.ControlCall.TheVariants as control_calls
use Rattle.actor_desk.specs.declared.ask.Ask.{Ask}
use Rattle.actor_desk.specs.declared.ask.Ask.TheVariants as asks
use Rattle.subflow_tcp.specs.States.{is_waiting}
use Rattle.subflow_tcp.specs.Opening.{after_begin}
use Rattle.actor_desk.specs.declared.ask.LocalStep.TheVariants as steps
use Rattle.subflow_tcp.specs.Segments.{Copy}
use Rattle.subflow_tcp.specs.declared.handshake.State.{State as EndPhase}
use Rattle.subflow_tcp.specs.declared.handshake.State.TheVariants as phase
use Rattle.subflow_tcp.specs.State.{EndState}
use Rattle.subflow_tcp.specs.Taking.{after_syn, unkept}
use Rattle.path_agenda.specs.Words.{replaced}
use Rattle.path_agenda.specs.declared.duty.Duty.TheVariants as duties
use Rattle.path_agenda.specs.declared.duty.SendDuty.TheVariants as send_duties
use Rattle.mptcp_options.specs.declared.join.JoinForm.TheVariants.{Syn, Answer, Third}
use Rattle.path_segments.specs.declared.segment.PathOption.TheVariants.{Join}
use Rattle.path_agenda.specs.declared.heard.Heard.TheVariants as says
use Rattle.path_agenda.specs.declared.duty.Duty.{Duty}
use Rattle.path_agenda.specs.declared.duty.AskDuty.TheVariants as ask_duties
use Rattle.path_agenda.specs.Agenda.{emission, leaves}
use Rattle.path_core.specs.Profile.{Profile}
use Rattle.path_core.specs.declared.modes.Modes.{Modes}
use Rattle.path_core.specs.Unnumbered.{unnumbered}
use Rattle.path_core.specs.End.{PathEnd, died}
use Rattle.path_core.specs.State.{PathState, path_of, end_at, goes_on, with_agenda, left}

-- path 0 opens the connection, and every other one joins it
abbrev pub is_joined : Profile → Bool
is_joined c = nat_lt 0 c.spelling.path

-- the peer's key, which a path that joins has from its control book
abbrev pub peer_key_of : Modes → ℕ
peer_key_of m = unwrap_or m.peer_key 0

-- ---- what is said

-- on the SYN B's token and A's nonce, on the SYN/ACK B's HMAC and nonce, and the script's flag on both
abbrev pub join_options : Profile → Side → Modes → List PlainOption
join_options c A m = unnumbered (syn_option c.backup c.spelling.path (token_of (peer_key_of m)) m.own_nonce)
join_options c B m = unnumbered (answer_option (peer_key_of m) m.own_key m.peer_nonce m.own_nonce c.backup c.spelling.path)

-- on what A sends then: A's HMAC
abbrev pub third_options : Modes → List PlainOption
third_options m = unnumbered (third_option m.own_key (peer_key_of m) m.own_nonce m.peer_nonce)

-- ---- what is heard

-- the option that has this form, where one was heard
abbrev pub join_value : Option JoinForm → Option wire.OptionValue
join_value form = option_map (λ form. wire.Join form) form

-- B hears what A asks for
abbrev pub join_asked : List Heard → Option JoinSyn
join_asked items = syn_heard (join_value (join_heard step.Syn items))

-- A takes what B answers, where the HMAC is B's
abbrev pub join_answer : List Heard → Modes → Option JoinAnswer
join_answer items m =
    result_ok (answer_taken m.own_key (peer_key_of m) m.own_nonce (answer_heard (join_value (join_heard step.Answer items))))

-- the HMAC of the third MP_JOIN
abbrev pub third_in : List Heard → Option (List ℕ)
third_in items = third_heard (join_value (join_heard step.Third items))

-- B demands that it is A's
abbrev pub is_hmac_right : Option (List ℕ) → Modes → Bool
is_hmac_right None m = false
is_hmac_right (Some hmac) m = pointwise ◌==◌ hmac (join_a160_of (peer_key_of m) m.own_key m.peer_nonce m.own_nonce)

-- a third MP_JOIN is among these things, and the HMAC of the first one is A's
abbrev pub is_third_right : List Heard → Modes → Bool
is_third_right items m = is_hmac_right (third_in items) m

-- the join may go on, by these keys
abbrev pub keys_begun : Reply → Option KeyPair
keys_begun (replies.Control (control_replies.Begin own peer)) = Some (record { own = own; peer = peer })
keys_begun _ = None

abbrev pub with_keys : KeyPair → Modes → Modes
with_keys keys m = record m { own_key = keys.own; peer_key = Some keys.peer }

-- a refusal tells the mode that keeps the side from joining
abbrev pub mode_refused : Reply → Mode → Mode
mode_refused (replies.Control (control_replies.Never mode)) other = mode
mode_refused (replies.Control (control_replies.Fallen mode)) other = mode
mode_refused _ other = other

abbrev pub with_mode_refused : Reply → PathEnd → PathEnd
with_mode_refused r e = record e { modes = record e.modes { mode = mode_refused r e.modes.mode } }

-- ---- A begins

-- A's control book is asked whether the path may be joined now
abbrev pub join_begin_ask : ℕ → Ask
join_begin_ask path = asks.Control A (control_calls.JoinBegin path)

abbrev pub is_never : Reply → Bool
is_never (replies.Control (control_replies.Never mode)) = true
is_never _ = false

-- A had to wait at the path's tick, and asks again in each turn
abbrev pub is_join_pending : {C : Type 0} → PathState C → Bool
is_join_pending p = is_waiting p.a.tcp.state && is_none p.joined_at

-- the waiting end opens
abbrev pub opened_by : Option KeyPair → PathEnd → PathEnd
opened_by None e = e
opened_by (Some keys) e = record e {
  tcp = (if is_waiting e.tcp.state then after_begin e.tcp else e.tcp);
  modes = with_keys keys e.modes;
}

-- ---- B answers

-- B's control book is asked, by the token of the SYN
abbrev pub join_heard_ask : {C : Type 0} → Side → Option JoinSyn → PathState C → Ask
join_heard_ask s None p = asks.Local steps.End
join_heard_ask s (Some asked) p = asks.Control s (control_calls.JoinHeard (path_of p) asked.token)

-- the listening end takes the SYN, whose window was told
abbrev pub syn_of_window : ℕ → Copy
syn_of_window window =
    record { position = Some 0; acknowledged = None; syn = true; fin = false; rst = false; window = window; payload = [] }

abbrev pub is_listening : EndPhase → Bool
is_listening phase.Listen = true
is_listening _ = false

-- an end that doesn't listen stays as it is
abbrev pub after_joining_syn : ℕ → EndState → EndState
after_joining_syn window tcp = if is_listening tcp.state then after_syn (unkept None) (syn_of_window window) tcp else tcp

-- B has A's nonce and flag now, and both keys
abbrev pub joined_by : KeyPair → JoinSyn → PathEnd → PathEnd
joined_by keys asked e = record e {
  tcp = after_joining_syn e.treated.window e.tcp;
  modes = record (with_keys keys e.modes) { peer_nonce = asked.nonce; backup_heard = asked.backup };
}

-- the SYN/ACK goes out, or the reset that refuses the path
abbrev pub join_taken : {C : Type 0} → Side → Option KeyPair → Option JoinSyn → Reply → PathState C → PathState C
join_taken s (Some keys) (Some asked) r p =
    goes_on s (joined_by keys asked (end_at s p)) (replaced (duties.Send (send_duties.SynAck s)) p.agenda) p
join_taken s None (Some asked) r p =
    goes_on s (with_mode_refused r (end_at s p)) (replaced (duties.Send (send_duties.Refuse s)) p.agenda) p
join_taken s keys None r p = with_agenda (replaced (duties.Send (send_duties.Refuse s)) p.agenda) p

-- the MP_JOIN with which the copy that is treated asks to join
abbrev pub asked_at : {C : Type 0} → Side → PathState C → Option JoinSyn
asked_at s p = join_asked (end_at s p).treated.items

abbrev pub answered_join_heard : {C : Type 0} → Side → Reply → PathState C → PathState C
answered_join_heard s r p = join_taken s (keys_begun r) (asked_at s p) r p

-- ---- what an MP_JOIN says

-- A hears the answer to its SYN, and B the SYN and the third segment
abbrev pub join_items : Side → JoinForm → List Heard
join_items A (Answer backup id hmac nonce) = says.Join (Answer backup id hmac nonce) ∷ []
join_items B (Syn backup id token nonce) = says.Join (Syn backup id token nonce) ∷ []
join_items B (Third hmac) = says.Join (Third hmac) ∷ []
join_items _ _ = []

-- ---- A goes on

-- the path won't be joined
abbrev pub never_joined : Reply → PathEnd → PathEnd
never_joined r e = with_mode_refused r (died e)

-- A's end opens, or waits on, or it is dead where the path won't be joined
abbrev pub join_begun : {C : Type 0} → Reply → List Duty → List Duty → PathState C → PathState C
join_begun r dead living p =
    if is_never r then goes_on A (never_joined r (end_at A p)) dead p else goes_on A (opened_by (keys_begun r) (end_at A p)) living p

-- asked in a later turn: what else is to be done stays
abbrev pub answered_join_again : {C : Type 0} → Reply → PathState C → PathState C
answered_join_again r p = join_begun r (replaced (duties.Ask (ask_duties.Leave A)) p.agenda) (left p) p

-- at the path's tick
abbrev pub joins_at_tick : {C : Type 0} → Reply → PathState C → PathState C
joins_at_tick r p = join_begun r (leaves A) (emission A) (record p { joined_at = None })
