-- How path 0 opens: SYN, SYN/ACK, and the keys of both sides (RFC 8684, section 3.1).
use Rattle.std.specs.Prelude.{ℕ, Bool, ◌&&◌, not, true, ◌||◌, List, Option, [], Some, is_some, ◌∷◌, None}
use Rattle.sides.specs.declared.side.Side.{Side}
use Rattle.send_book.specs.declared.call.SendCall.TheVariants as send_calls
use Rattle.actor_desk.specs.declared.ask.Ask.{Ask}
use Rattle.actor_desk.specs.declared.ask.Ask.TheVariants as asks
use Rattle.path_segments.specs.Spelled.{PlainSegment}
use Rattle.subflow_tcp.specs.declared.segments.Occasion.TheVariants as to_send
use Rattle.fallback_state.specs.Modes.{is_starting}
use Rattle.path_agenda.specs.Items.{key_heard, keys_heard}
use Rattle.control_book.specs.declared.call.ControlCall.TheVariants as control_calls
use Rattle.fallback_state.specs.declared.fall.Event.TheVariants as events
use Rattle.actor_desk.specs.declared.ask.Reply.{Reply}
use Rattle.actor_desk.specs.declared.ask.LocalStep.TheVariants as steps
use Rattle.path_agenda.specs.declared.keys.KeyPair.{KeyPair}
use Rattle.control_book.specs.declared.call.ControlReply.TheVariants as control_replies
use Rattle.actor_desk.specs.declared.ask.Reply.TheVariants as replies
use Rattle.sides.specs.declared.side.Side.TheVariants.{A, B}
use Rattle.mptcp_options.specs.declared.capable.CapableKeys.{CapableKeys}
use Rattle.mptcp_options.specs.declared.capable.CapableKeys.TheVariants.{Sender, Both, WithData}
use Rattle.path_agenda.specs.declared.heard.Heard.{Heard}
use Rattle.path_agenda.specs.declared.heard.Heard.TheVariants as says
use Rattle.path_core.specs.End.{PathEnd}
use Rattle.path_core.specs.OptionsOut.{syn_ack_said}
use Rattle.path_core.specs.State.{PathState, end_at, left, goes_on, path_of}
use Rattle.path_core.specs.Codec.{Codec}
use Rattle.path_core.specs.Handover.{having_sent, sent_on}
use Rattle.path_core.specs.Fallback.{fell_ask, answered_fell}
use Rattle.path_core.specs.declared.modes.Modes.{Modes}
use Rattle.path_core.specs.DssIn.{first_items}

-- ---- the window of a SYN

-- nothing is acknowledged, and the window is told as it stands
abbrev pub syn_window_ask : Side → PathEnd → Ask
syn_window_ask s e = asks.Send s (send_calls.AckIn 0 e.tcp.congestion.told.window)

-- ---- the SYN/ACK

abbrev pub syn_ack_of : {C : Type 0} → Side → PathState C → PlainSegment
syn_ack_of s p = syn_ack_said p.profile s (end_at s p)

-- while the SYN isn't acknowledged this is another sending of its record
abbrev pub answered_syn_ack : {C : Type 0} → Codec C → Side → PathState C → PathState C
answered_syn_ack k s p =
    sent_on k s (syn_ack_of s p) (having_sent to_send.SynAck p.clock (syn_ack_of s p) (end_at s p)) (left p) p

-- ---- a handshake without Multipath TCP

-- the SYN doesn't ask for it
abbrev pub is_plain_syn : PathEnd → Bool
is_plain_syn e = not e.modes.capable_asked && is_starting e.modes.mode

-- ---- keys

-- the SYN/ACK tells the peer's key, or that there is none
abbrev pub peer_key_stands : PathEnd → Bool
peer_key_stands e = is_some (key_heard e.treated.items) || is_starting e.modes.mode

-- the control book is told the key, or that there is none
abbrev pub peer_key_ask : {C : Type 0} → Side → Option ℕ → PathState C → Ask
peer_key_ask s None p = fell_ask s events.PlainHandshake p
peer_key_ask s (Some key) p = asks.Control s (control_calls.PeerKey key)

abbrev pub with_peer_key : Option ℕ → PathEnd → PathEnd
with_peer_key key e = record e { modes = record e.modes { peer_key = key } }

-- the key is kept; without one the verdict counts
abbrev pub answered_peer_key : {C : Type 0} → Side → Option ℕ → Reply → PathState C → PathState C
answered_peer_key s None r p = answered_fell s events.PlainHandshake r p
answered_peer_key s (Some key) r p = goes_on s (with_peer_key (Some key) (end_at s p)) (left p) p

-- the control book is told both keys
abbrev pub keys_ask : Side → Option KeyPair → Ask
keys_ask s None = asks.Local steps.End
keys_ask s (Some keys) = asks.Control s (control_calls.Keys keys.own keys.peer)

-- where the control book noted the keys, the peer's is kept, and the end may send a DSS from now on
abbrev pub keys_in : Reply → Option KeyPair → Modes → Modes
keys_in (replies.Control control_replies.Noted) (Some keys) m = record m { peer_key = Some keys.peer; clear = true }
keys_in _ keys m = m

-- whatever the book answers, the keys of the copy count as told
abbrev pub after_keys : Reply → Option KeyPair → PathEnd → PathEnd
after_keys r keys e = record e { modes = keys_in r keys e.modes; treated = record e.treated { keys_told = true } }

-- the end left SynReceived by a copy with both keys, or by one without any option
abbrev pub is_opened_by_keys : PathEnd → Bool
is_opened_by_keys e = e.treated.opened && is_some (keys_heard e.treated.items)

-- the end left SynReceived by a copy without any option, while neither Multipath TCP nor plain TCP is settled
abbrev pub is_opened_plainly : PathEnd → Bool
is_opened_plainly e = e.treated.opened && (not e.treated.has_option && is_starting e.modes.mode)

-- the control book is told both keys, or that the handshake has none
abbrev pub opened_ask : {C : Type 0} → Side → Option KeyPair → PathState C → Ask
opened_ask s None p = fell_ask s events.PlainHandshake p
opened_ask s (Some keys) p = keys_ask s (Some keys)

-- the keys count where the book noted them; without keys the verdict counts
abbrev pub answered_opened : {C : Type 0} → Side → Option KeyPair → Reply → PathState C → PathState C
answered_opened s None r p = answered_fell s events.PlainHandshake r p
answered_opened s (Some keys) r p = goes_on s (after_keys r (Some keys) (end_at s p)) (left p) p

-- ---- the path lives, as a backup where the peer's SYN said so

abbrev pub live_ask : {C : Type 0} → Side → PathState C → Ask
live_ask s p = asks.Control s (control_calls.Live (path_of p) (end_at s p).modes.backup_heard)

-- ---- what an MP_CAPABLE says

-- MP_CAPABLE by the keys that it shows; B hears both, and the mapping of the first piece
abbrev pub key_items : Side → CapableKeys → List Heard
key_items A (Sender sender) = says.PeerKey sender ∷ []
key_items B (Both sender receiver) = says.Keys receiver sender ∷ []
key_items B (WithData sender receiver len checksum) = says.Keys receiver sender ∷ first_items len
key_items _ _ = []
