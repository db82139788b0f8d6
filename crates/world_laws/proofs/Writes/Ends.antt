-- What the rules write of an end, where a reply or a choice decides. What holds of all that an end can become so holds of what it becomes.
use Rattle.world_laws.proofs.Words.{refl, ℕ, ◌||◌, Bool, true, false, if◌then◌else◌, Option, Some, None, List, Verdict, Mode, FallEvent, Side, JoinAnswer}
use Rattle.world_laws.proofs.Words.{ControlReply, Notice, ReassemblyReply, SendReply, SendState, is_dead, Meaning, after_sending, EndState, EndPhase, Occasion}
use Rattle.world_laws.proofs.Words.{Heard, KeyPair, Reply, PathEnd, died, Notices, after_notice, after_look, may_note, window_in, asked_in, died_unless_dead}
use Rattle.world_laws.proofs.Words.{refused_in, opened_by, join_answer, acked_in, after_acked, with_learned, with_data_fin, with_skipped, HeardOption, counts}
use Rattle.world_laws.proofs.Words.{after_dss, with_data_ack, item_passed, heard_passed, fell_in, is_fall, mode_in, keys_in, answered_in, cleared_in}
use Rattle.world_laws.proofs.Words.{with_answer, Modes, if_so, Only, happening, heard_writes, looking}
use Rattle.subflow_tcp.specs.declared.dues.Due.{Due}
use Rattle.path_store.specs.Receiving.{Receiving}
use Rattle.path_core.specs.Sending.{Sending}

-- ---- choices and replies

-- a verdict may tell the mode
pub mode_so : (P : Modes → Type 0) (r : Reply) (m : Modes) → ((mode : Mode) → P (record m { mode = mode })) → P (mode_in r m)
mode_so P (Reply.Control (ControlReply.Verdict (Verdict.Went mode))) m all = all mode
mode_so P _ m all = all m.mode

-- and whether an infinite mapping is owed
pub fell_so : (P : Modes → Type 0) (event : FallEvent) (r : Reply) (m : Modes)
    → ((mode : Mode) (owes : Bool) → P (record m { mode = mode; owes_mapping = owes })) → P (fell_in event r m)
fell_so P FallEvent.PlainData r m all =
    mode_so (λ n. P (record n { owes_mapping = m.owes_mapping || is_fall r })) r m (λ mode. all mode (m.owes_mapping || is_fall r))
fell_so P FallEvent.PlainAck r m all =
    mode_so (λ n. P (record n { owes_mapping = m.owes_mapping || is_fall r })) r m (λ mode. all mode (m.owes_mapping || is_fall r))
fell_so P _ r m all = mode_so P r m (λ mode. all mode m.owes_mapping)

-- keys that the book noted clear the end
pub keyed_so : (P : Modes → Type 0) (r : Reply) (keys : Option KeyPair) (m : Modes)
    → ((peer_key : Option ℕ) (clear : Bool) → P (record m { peer_key = peer_key; clear = clear })) → P (keys_in r keys m)
keyed_so P (Reply.Control ControlReply.Noted) (Some keys) m all = all (Some keys.peer) true
keyed_so P _ keys m all = all m.peer_key m.clear

-- what is to be acknowledged
pub window_so : (P : Receiving → Type 0) (r : Reply) (v : Receiving)
    → ((next window : ℕ) → P (record v { next = next; window = window })) → P (window_in r v)
window_so P (Reply.Reassembly (ReassemblyReply.Ack next window)) v all = all next window
window_so P _ v all = all v.next v.window

-- what was acknowledged
pub acked_so : (P : Sending → Type 0) (next : ℕ) (r : Reply) (v : Sending) → ((fin : Bool) → P (after_acked next fin v)) → P v → P (acked_in next r v)
acked_so P next (Reply.Send (SendReply.Acked bytes fin)) v some none = some fin
acked_so P next _ v some none = none

-- a refusal tells whether the window is shut, and perhaps where the stream ends
pub refused_so : (P : Sending → Type 0) (r : Reply) (v : Sending)
    → ((shut : Bool) (known : Option ℕ) → P (record v { shut = shut; known_end = known })) → P (refused_in r v)
refused_so P (Reply.Send (SendReply.NoGrant why known)) v all = all _ _
refused_so P _ v all = all v.shut v.known_end

-- a segment that is sent is due no more
pub sent_so : (P : EndState → Type 0) (occasion : Occasion) (now : ℕ) (s : EndState)
    → ((send : SendState) (due : Due) → P (record s { send = send; due = due })) → P (after_sending occasion now s)
sent_so P Occasion.Reset now s all = all _ _
sent_so P Occasion.Answer now s all = all _ _
sent_so P Occasion.SynAck now s all = all _ _
sent_so P Occasion.Ack now s all = all _ _
sent_so P Occasion.Probe now s all = all _ _
sent_so P Occasion.First now s all = all _ _
sent_so P Occasion.Unsent now s all = all _ _
sent_so P Occasion.Fin now s all = all _ _

-- ---- a Look

noticed : (notice : Notice) (may : Bool) (mode : Mode) (standby sole : Bool) (e : PathEnd)
    → Only looking e (record e { modes = record e.modes { mode = mode; standby = standby; sole = sole }; notices = after_notice notice may e.notices })
noticed (Notice.Announce id) true mode standby sole e = record { same = refl }
noticed (Notice.Announce id) false mode standby sole e = record { same = refl }
noticed _ may mode standby sole e = record { same = refl }

pub looked : (r : Reply) (e : PathEnd) → Only looking e (after_look r e)
looked (Reply.Control (ControlReply.Standing mode standby sole notice)) e =
    if_so (λ (n : Notices). Only looking e (record e { modes = record e.modes { mode = mode; standby = standby; sole = sole }; notices = n }))
    (is_dead e.tcp.state) e.notices (after_notice notice (may_note e) e.notices) (record { same = refl }) (noticed notice (may_note e) mode standby sole e)
looked _ e = record { same = refl }

-- ---- a copy

with_answer_so : (P : Modes → Type 0) (o : Option JoinAnswer) (m : Modes)
    → ((nonce : ℕ) (backup owes : Bool) → P (record m { peer_nonce = nonce; backup_heard = backup; owes_third = owes })) → P (with_answer o m)
with_answer_so P None m all = all m.peer_nonce m.backup_heard m.owes_third
with_answer_so P (Some answer) m all = all answer.nonce answer.backup true

answered_so : (P : Modes → Type 0) (meaning : Meaning) (items : List Heard) (m : Modes)
    → ((nonce : ℕ) (backup owes : Bool) → P (record m { peer_nonce = nonce; backup_heard = backup; owes_third = owes })) → P (answered_in meaning items m)
answered_so P (Meaning.Accepts acknowledged) items m all = with_answer_so P (join_answer items m) m all
answered_so P _ items m all = all m.peer_nonce m.backup_heard m.owes_third

cleared_so : (P : Modes → Type 0) (meaning : Meaning) (state : EndPhase) (m : Modes)
    → ((clear : Bool) → P (record m { clear = clear })) → P (cleared_in meaning state m)
cleared_so P (Meaning.Taken position acknowledged) state m all = all _
cleared_so P _ state m all = all m.clear

asked_so : (P : Modes → Type 0) (meaning : Meaning) (options : List HeardOption) (m : Modes)
    → ((asked : Bool) → P (record m { capable_asked = asked })) → P (asked_in meaning options m)
asked_so P Meaning.Opens options m all = all _
asked_so P _ options m all = all m.capable_asked

-- what a copy tells of the join, of a DSS that may be sent, and of Multipath TCP
pub copy_so : (P : Modes → Type 0) (joined : Bool) (meaning : Meaning) (items : List Heard) (state : EndPhase) (options : List HeardOption) (m : Modes)
    → ((nonce : ℕ) (backup owes clear asked : Bool)
    → P (record m { peer_nonce = nonce; backup_heard = backup; owes_third = owes; clear = clear; capable_asked = asked }))
    → P (asked_in meaning options (if joined then cleared_in meaning state (answered_in meaning items m) else m))
copy_so P true meaning items state options m all =
    asked_so P meaning options _
    (λ asked. cleared_so (λ n. P (record n { capable_asked = asked })) meaning state _
    (λ clear. answered_so (λ n. P (record n { clear = clear; capable_asked = asked })) meaning items m (λ nonce backup owes. all nonce backup owes clear asked)))
copy_so P false meaning items state options m all =
    asked_so P meaning options m (λ asked. all m.peer_nonce m.backup_heard m.owes_third m.clear asked)

-- ---- an event

pub died_at : (e : PathEnd) → Only happening e (died_unless_dead e)
died_at e = if_so (Only happening e) (is_dead e.tcp.state) e (died e) (record { same = refl }) (record { same = refl })

pub opened_at : (keys : Option KeyPair) (e : PathEnd) → Only happening e (opened_by keys e)
opened_at = elim [ None ↦ λ e. record { same = refl } | Some keys ↦ λ e. record { same = refl } ]

-- ---- what is heard in silence

heard_at : (s : Side) (item : Heard) (e : PathEnd) → Only heard_writes e (heard_passed s item e)
heard_at s Heard.Dss e = record { same = refl }
heard_at s (Heard.DataAck next window) e = record { same = refl }
heard_at s (Heard.Mapping fin) e = if_so (Only heard_writes e) (counts e) _ _ (record { same = refl }) (record { same = refl })
heard_at s (Heard.DataFin place) e = if_so (Only heard_writes e) (counts e) _ _ (record { same = refl }) (record { same = refl })
heard_at s _ e = record { same = refl }

pub item_at : (s : Side) (item : Option Heard) (e : PathEnd) → Only heard_writes e (item_passed s item e)
item_at s None e = record { same = refl }
item_at s (Some item) e = heard_at s item e

-- what holds of all that a thing that was heard makes of an end in silence
pub item_so : (P : PathEnd → Type 0) (s : Side) (item : Option Heard) (e : PathEnd) → P e → P (after_dss s e) → ((next : ℕ) → P (with_data_ack next e))
    → P (with_learned e) → P (with_skipped e) → ((place : ℕ) → P (with_data_fin place e)) → P (item_passed s item e)
item_so P s None e same dss ack learned skipped fin = same
item_so P s (Some Heard.Dss) e same dss ack learned skipped fin = dss
item_so P s (Some (Heard.DataAck next window)) e same dss ack learned skipped fin = ack next
item_so P s (Some (Heard.Mapping full)) e same dss ack learned skipped fin = if_so P (counts e) _ _ learned skipped
item_so P s (Some (Heard.DataFin place)) e same dss ack learned skipped fin = if_so P (counts e) _ _ (fin place) same
item_so P s _ e same dss ack learned skipped fin = same
