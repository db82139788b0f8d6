-- What each duty of a path may write: the parts of an end, the link, and what waits to happen. The agenda is no part, since each duty
-- writes it.
use Rattle.std.specs.Prelude.{◌≡◌, ℕ, Bool, true, false, Option, Some, None, List}
use Rattle.dss_mapping.specs.Mappings.{Mappings}
use Rattle.fallback_state.specs.declared.fall.Mode.{Mode}
use Rattle.link_model.specs.State.{LinkState}
use Rattle.loss_recovery.specs.declared.timers.Timing.{Timing}
use Rattle.loss_recovery.specs.declared.windows.Congestion.{Congestion}
use Rattle.sides.specs.declared.side.Side.{Side}
use Rattle.sides.specs.declared.side.Side.TheVariants.{A}
use Rattle.sides.specs.Side.{peer}
use Rattle.subflow_recv.specs.Receiving.{Receiving}
use Rattle.subflow_send.specs.Records.{SendState}
use Rattle.subflow_tcp.specs.declared.dues.Due.{Due}
use Rattle.subflow_tcp.specs.declared.handshake.State.{State}
use Rattle.subflow_tcp.specs.declared.spelling.Numbers.{Numbers}
use Rattle.path_agenda.specs.declared.duty.Duty.{Duty}
use Rattle.path_agenda.specs.declared.duty.Duty.TheVariants as duties
use Rattle.path_agenda.specs.declared.duty.AskDuty.{AskDuty}
use Rattle.path_agenda.specs.declared.duty.AskDuty.TheVariants as ask_duties
use Rattle.path_agenda.specs.declared.duty.SendDuty.{SendDuty}
use Rattle.path_agenda.specs.declared.duty.SendDuty.TheVariants as send_duties
use Rattle.path_agenda.specs.declared.duty.SilentDuty.{SilentDuty}
use Rattle.path_agenda.specs.declared.duty.SilentDuty.TheVariants as silent_duties
use Rattle.path_agenda.specs.declared.duty.StepDuty.{StepDuty}
use Rattle.path_agenda.specs.declared.duty.StepDuty.TheVariants as step_duties
use Rattle.path_agenda.specs.declared.notice.OwnNotice.{OwnNotice}
use Rattle.path_store.specs.declared.granted_piece.GrantedPiece.{GrantedPiece}
use Rattle.path_store.specs.declared.infinite_mapping.InfiniteMapping.{InfiniteMapping}
use Rattle.path_store.specs.declared.lines.LineLeft.{LineLeft}
use Rattle.path_store.specs.declared.mapped_data_fin.MappedDataFin.{MappedDataFin}
use Rattle.path_core.specs.End.{PathEnd}
use Rattle.path_core.specs.Treated.{Treated, nothing_treated}
use Rattle.path_core.specs.State.{PathState, end_at, path_of}
use Rattle.path_core.specs.Profile.{Profile}

-- ---- the parts

-- the parts of an end that may be written
pub record EndWrites : Type 0 where
  -- the subflow
  pub numbers : Bool
  pub phase : Bool
  pub send : Bool
  pub recv : Bool
  pub fin_at : Bool
  pub timing : Bool
  pub congestion : Bool
  pub due : Bool
  -- the side's own stream
  pub known_end : Bool
  pub fin_sent : Bool
  pub peer_came : Bool
  pub own_acked : Bool
  pub shut : Bool
  pub heard : Bool
  pub granted : Bool
  pub news : Bool
  -- the peer's stream
  pub next : Bool
  pub window : Bool
  pub told_edge : Bool
  pub mappings : Bool
  pub unmapped : Bool
  pub unmapped_at : Bool
  pub fin_told : Bool
  pub mapped_data_fin : Bool
  -- how the end stands to Multipath TCP
  pub mode : Bool
  pub standby : Bool
  pub sole : Bool
  pub clear : Bool
  pub own_key : Bool
  pub peer_key : Bool
  pub own_nonce : Bool
  pub peer_nonce : Bool
  pub backup_heard : Bool
  pub owes_third : Bool
  pub covered : Bool
  pub capable_asked : Bool
  pub identity : Bool
  pub own_infinite : Bool
  pub peer_infinite : Bool
  pub owes_mapping : Bool
  pub mapped_to : Bool
  pub failed_mapping : Bool
  pub plain_acks : Bool
  -- the copy that is treated: what it said, as one part, and what is still to be done with it
  pub copy : Bool
  pub keys_told : Bool
  pub fins : Bool
  pub asked : Bool
  pub data_ack_taken : Bool
  pub held_edge : Bool
  pub broken_mapping : Bool
  pub infinite_mapping : Bool
  -- what is to be told or done beside the streams
  pub queue : Bool
  pub carrier : Bool
  pub fast_closed : Bool
  pub reset : Bool

-- a part that may be written isn't seen
abbrev pub hide : {X : Type 0} → Bool → X → Option X
hide true x = None
hide false x = Some x

-- what the copy said that is treated
abbrev pub copy_said : Treated → Treated
copy_said t = record nothing_treated {
  items = t.items;
  opened = t.opened;
  has_option = t.has_option;
  answer = t.answer;
  window = t.window;
  plain_ack = t.plain_ack;
  acknowledged = t.acknowledged;
}

-- an end without the parts that may be written
pub record EndView : Type 0 where
  pub numbers : Option Numbers
  pub phase : Option State
  pub send : Option SendState
  pub recv : Option Receiving
  pub fin_at : Option (Option ℕ)
  pub timing : Option Timing
  pub congestion : Option Congestion
  pub due : Option Due
  pub known_end : Option (Option ℕ)
  pub fin_sent : Option Bool
  pub peer_came : Option Bool
  pub own_acked : Option Bool
  pub shut : Option Bool
  pub heard : Option ℕ
  pub granted : Option (List GrantedPiece)
  pub news : Option Bool
  pub next : Option ℕ
  pub window : Option ℕ
  pub told_edge : Option ℕ
  pub mappings : Option Mappings
  pub unmapped : Option ℕ
  pub unmapped_at : Option ℕ
  pub fin_told : Option Bool
  pub mapped_data_fin : Option (Option MappedDataFin)
  pub mode : Option Mode
  pub standby : Option Bool
  pub sole : Option Bool
  pub clear : Option Bool
  pub own_key : Option ℕ
  pub peer_key : Option (Option ℕ)
  pub own_nonce : Option ℕ
  pub peer_nonce : Option ℕ
  pub backup_heard : Option Bool
  pub owes_third : Option Bool
  pub covered : Option Bool
  pub capable_asked : Option Bool
  pub identity : Option Bool
  pub own_infinite : Option (Option InfiniteMapping)
  pub peer_infinite : Option (Option InfiniteMapping)
  pub owes_mapping : Option Bool
  pub mapped_to : Option (Option ℕ)
  pub failed_mapping : Option (Option ℕ)
  pub plain_acks : Option ℕ
  pub copy : Option Treated
  pub keys_told : Option Bool
  pub fins : Option (List ℕ)
  pub asked : Option Bool
  pub data_ack_taken : Option Bool
  pub held_edge : Option (Option ℕ)
  pub broken_mapping : Option (Option ℕ)
  pub infinite_mapping : Option (Option InfiniteMapping)
  pub queue : Option (List OwnNotice)
  pub carrier : Option (Option ℕ)
  pub fast_closed : Option Bool
  pub reset : Option Bool

abbrev pub end_view : EndWrites → PathEnd → EndView
end_view w e = record {
  numbers = hide w.numbers e.tcp.numbers;
  phase = hide w.phase e.tcp.state;
  send = hide w.send e.tcp.send;
  recv = hide w.recv e.tcp.recv;
  fin_at = hide w.fin_at e.tcp.fin_at;
  timing = hide w.timing e.tcp.timing;
  congestion = hide w.congestion e.tcp.congestion;
  due = hide w.due e.tcp.due;
  known_end = hide w.known_end e.sending.known_end;
  fin_sent = hide w.fin_sent e.sending.fin_sent;
  peer_came = hide w.peer_came e.sending.close.peer_came;
  own_acked = hide w.own_acked e.sending.close.own_acked;
  shut = hide w.shut e.sending.shut;
  heard = hide w.heard e.sending.heard;
  granted = hide w.granted e.sending.granted;
  news = hide w.news e.sending.news;
  next = hide w.next e.receiving.next;
  window = hide w.window e.receiving.window;
  told_edge = hide w.told_edge e.receiving.told_edge;
  mappings = hide w.mappings e.receiving.mappings;
  unmapped = hide w.unmapped e.receiving.unmapped;
  unmapped_at = hide w.unmapped_at e.receiving.unmapped_at;
  fin_told = hide w.fin_told e.receiving.fin_told;
  mapped_data_fin = hide w.mapped_data_fin e.receiving.mapped_data_fin;
  mode = hide w.mode e.modes.mode;
  standby = hide w.standby e.modes.standby;
  sole = hide w.sole e.modes.sole;
  clear = hide w.clear e.modes.clear;
  own_key = hide w.own_key e.modes.own_key;
  peer_key = hide w.peer_key e.modes.peer_key;
  own_nonce = hide w.own_nonce e.modes.own_nonce;
  peer_nonce = hide w.peer_nonce e.modes.peer_nonce;
  backup_heard = hide w.backup_heard e.modes.backup_heard;
  owes_third = hide w.owes_third e.modes.owes_third;
  covered = hide w.covered e.modes.covered;
  capable_asked = hide w.capable_asked e.modes.capable_asked;
  identity = hide w.identity e.modes.identity;
  own_infinite = hide w.own_infinite e.modes.own_infinite;
  peer_infinite = hide w.peer_infinite e.modes.peer_infinite;
  owes_mapping = hide w.owes_mapping e.modes.owes_mapping;
  mapped_to = hide w.mapped_to e.modes.mapped_to;
  failed_mapping = hide w.failed_mapping e.modes.failed_mapping;
  plain_acks = hide w.plain_acks e.modes.plain_acks;
  copy = hide w.copy (copy_said e.treated);
  keys_told = hide w.keys_told e.treated.keys_told;
  fins = hide w.fins e.treated.fins;
  asked = hide w.asked e.treated.asked;
  data_ack_taken = hide w.data_ack_taken e.treated.data_ack_taken;
  held_edge = hide w.held_edge e.treated.held_edge;
  broken_mapping = hide w.broken_mapping e.treated.failed_mapping;
  infinite_mapping = hide w.infinite_mapping e.treated.infinite_mapping;
  queue = hide w.queue e.notices.queue;
  carrier = hide w.carrier e.notices.carrier;
  fast_closed = hide w.fast_closed e.notices.fast_closed;
  reset = hide w.reset e.notices.reset;
}

-- an end becomes another one, and no part but these changes
pub record Only (w : EndWrites) (e f : PathEnd) : Type 0 where
  pub same : end_view w f ≡ end_view w e

-- ---- of a path

-- the parts of a path that may be written: those of the end of the duty's side, those of the other end, the link, and
-- the clock with what waits to happen
pub record Writes : Type 0 where
  pub own : EndWrites
  pub other : EndWrites
  pub link : Bool
  pub events : Bool

-- a path without the parts that may be written; its profile, its number and the round's end may never be
pub record PathView (C : Type 0) : Type 0 where
  pub own : EndView
  pub other : EndView
  pub link : Option (LinkState C)
  pub clock : Option ℕ
  pub lines : Option (List LineLeft)
  pub joined_at : Option (Option ℕ)
  pub profile : Profile
  pub until : ℕ
  pub number : ℕ

abbrev pub path_view : {C : Type 0} → Side → Writes → PathState C → PathView C
path_view s w p = record {
  own = end_view w.own (end_at s p);
  other = end_view w.other (end_at (peer s) p);
  link = hide w.link p.link;
  clock = hide w.events p.clock;
  lines = hide w.events p.lines;
  joined_at = hide w.events p.joined_at;
  profile = p.profile;
  until = p.until;
  number = path_of p;
}

-- a path becomes another one by a duty of this side, and no part but these changes
pub record OnlyAt {C : Type 0} (s : Side) (w : Writes) (p q : PathState C) : Type 0 where
  pub same : path_view s w q ≡ path_view s w p

-- ---- what is written together

-- no part
abbrev pub nothing : EndWrites
nothing = record {
  numbers = false;
  phase = false;
  send = false;
  recv = false;
  fin_at = false;
  timing = false;
  congestion = false;
  due = false;
  known_end = false;
  fin_sent = false;
  peer_came = false;
  own_acked = false;
  shut = false;
  heard = false;
  granted = false;
  news = false;
  next = false;
  window = false;
  told_edge = false;
  mappings = false;
  unmapped = false;
  unmapped_at = false;
  fin_told = false;
  mapped_data_fin = false;
  mode = false;
  standby = false;
  sole = false;
  clear = false;
  own_key = false;
  peer_key = false;
  own_nonce = false;
  peer_nonce = false;
  backup_heard = false;
  owes_third = false;
  covered = false;
  capable_asked = false;
  identity = false;
  own_infinite = false;
  peer_infinite = false;
  owes_mapping = false;
  mapped_to = false;
  failed_mapping = false;
  plain_acks = false;
  copy = false;
  keys_told = false;
  fins = false;
  asked = false;
  data_ack_taken = false;
  held_edge = false;
  broken_mapping = false;
  infinite_mapping = false;
  queue = false;
  carrier = false;
  fast_closed = false;
  reset = false;
}

-- a verdict on what happened: the mode, and whether an infinite mapping is owed
abbrev pub verdict : EndWrites
verdict = record nothing { mode = true; owes_mapping = true }

-- what is to be acknowledged, as the reassembly book tells it
abbrev pub acking : EndWrites
acking = record nothing { next = true; window = true; asked = true }

-- a segment without a record that is sent, and what it tells
abbrev pub telling : EndWrites
telling = record nothing { due = true; told_edge = true; mapped_to = true }

-- a record that is sent
abbrev pub sending : EndWrites
sending = record telling { send = true }

-- an end dies
abbrev pub dying : EndWrites
dying = record nothing {
  phase = true;
  send = true;
  recv = true;
  timing = true;
  congestion = true;
  due = true;
  copy = true;
  keys_told = true;
  fins = true;
  asked = true;
  data_ack_taken = true;
  held_edge = true;
  broken_mapping = true;
  infinite_mapping = true;
  queue = true;
  carrier = true;
  fast_closed = true;
  reset = true;
}

-- a path is broken: what is to be acknowledged is asked once more, or the end dies
abbrev pub breaking : EndWrites
breaking = record dying { next = true; window = true }

-- bytes of the own stream are acknowledged
abbrev pub acknowledged : EndWrites
acknowledged = record nothing { own_acked = true; heard = true; granted = true; news = true }

-- how the side and the path stand, as a Look is answered
abbrev pub looking : EndWrites
looking = record nothing { mode = true; standby = true; sole = true; queue = true; carrier = true; reset = true }

-- an event at an end: it opens, hears a copy, notes its priority, runs out of time, or dies
abbrev pub happening : EndWrites
happening = record dying {
  numbers = true;
  fin_at = true;
  mappings = true;
  mode = true;
  clear = true;
  own_key = true;
  peer_key = true;
  peer_nonce = true;
  backup_heard = true;
  owes_third = true;
  capable_asked = true;
}

-- at one end alone
abbrev pub at_end : EndWrites → Writes
at_end w = record { own = w; other = nothing; link = false; events = false }

-- at one end, which may send a segment
abbrev pub on_link : EndWrites → Writes
on_link w = record { own = w; other = nothing; link = true; events = false }

-- ---- what a duty writes, whether it is answered or passed

abbrev pub ask_writes : AskDuty → EndWrites
ask_writes ask_duties.JoinAgain = record dying { mode = true; own_key = true; peer_key = true }
ask_writes (ask_duties.Window s) = acking
ask_writes (ask_duties.SynHeard s) = nothing
ask_writes (ask_duties.SynAnswered s) = nothing
ask_writes (ask_duties.PlainHandshake s) = verdict
ask_writes (ask_duties.PeerKey s) = record verdict { peer_key = true }
ask_writes (ask_duties.JoinHeard s) = record nothing { phase = true; recv = true; fin_at = true; congestion = true; mode = true; own_key = true; peer_key = true; peer_nonce = true; backup_heard = true }
ask_writes (ask_duties.Opened s) = record verdict { peer_key = true; clear = true; keys_told = true }
ask_writes (ask_duties.Live s) = nothing
ask_writes (ask_duties.AckHeard s) = verdict
ask_writes (ask_duties.FailHeard s) = record verdict { own_infinite = true }
ask_writes (ask_duties.SubflowAck s) = acknowledged
ask_writes (ask_duties.PlainData s) = verdict
ask_writes (ask_duties.GoIdentity s) = record nothing { identity = true }
ask_writes (ask_duties.Edge s) = record nothing { recv = true; mappings = true; asked = true }
ask_writes (ask_duties.CheckFailed s) = record verdict { recv = true; failed_mapping = true; broken_mapping = true }
ask_writes (ask_duties.HeardFin s index) = record nothing { peer_came = true; asked = true }
ask_writes (ask_duties.SubflowFin s) = record nothing { peer_came = true; fin_told = true; asked = true }
ask_writes (ask_duties.AckOut s) = acking
ask_writes (ask_duties.Rate s) = record nothing { congestion = true }
ask_writes (ask_duties.Return s) = nothing
ask_writes (ask_duties.AbortSend s) = nothing
ask_writes (ask_duties.AbortReceive s) = nothing
ask_writes (ask_duties.Announce s id) = nothing
ask_writes (ask_duties.Withdraw s id) = nothing
ask_writes (ask_duties.LeaveNoted s) = dying
ask_writes (ask_duties.BreakAck s reason) = acking
ask_writes (ask_duties.Leave s) = nothing
ask_writes (ask_duties.Dead s) = nothing

-- what a thing writes that a copy says
abbrev pub heard_writes : EndWrites
heard_writes = record breaking {
  mode = true;
  owes_mapping = true;
  own_acked = true;
  heard = true;
  granted = true;
  news = true;
  mappings = true;
  mapped_data_fin = true;
  clear = true;
  peer_key = true;
  owes_third = true;
  covered = true;
  peer_infinite = true;
  plain_acks = true;
}

abbrev pub step_writes : StepDuty → Writes
step_writes (step_duties.Look s) = at_end looking
step_writes (step_duties.Data s) = on_link (record sending { known_end = true; shut = true; granted = true })
step_writes step_duties.Events = record { own = happening; other = happening; link = true; events = true }
step_writes (step_duties.Heard s index) = on_link heard_writes
step_writes (step_duties.PlainAck s) = on_link (record breaking { mode = true; owes_mapping = true; plain_acks = true })
step_writes (step_duties.Unmapped s) = on_link (record breaking { unmapped = true; unmapped_at = true; mapped_data_fin = true })

abbrev pub send_writes : SendDuty → EndWrites
send_writes (send_duties.Update s) = telling
send_writes (send_duties.Syn s) = sending
send_writes (send_duties.FastClose s) = record telling { fast_closed = true }
send_writes (send_duties.Notice s) = record telling { queue = true }
send_writes (send_duties.DataFin s) = record telling { fin_sent = true }
send_writes (send_duties.Fin s) = record sending { phase = true }
send_writes (send_duties.SynAck s) = sending
send_writes (send_duties.Refuse s) = nothing
send_writes (send_duties.Acknowledge s) = telling
send_writes (send_duties.Again s) = sending
send_writes (send_duties.Answer s) = sending
send_writes (send_duties.ResetAnswer s) = nothing
send_writes (send_duties.Resend s) = sending
send_writes (send_duties.BreakReset s reason) = dying
send_writes (send_duties.Reset s) = dying
send_writes (send_duties.ResetNoted s) = dying

abbrev pub silent_writes : SilentDuty → EndWrites
silent_writes (silent_duties.Timer s) = record nothing { timing = true; news = true }
silent_writes (silent_duties.Keep s) = record nothing { recv = true; held_edge = true }
silent_writes (silent_duties.PassFin s) = record nothing { phase = true; recv = true }

abbrev pub writes : Duty → Writes
writes (duties.Ask d) = at_end (ask_writes d)
writes (duties.Step d) = step_writes d
writes (duties.Send d) = on_link (send_writes d)
writes (duties.Silent d) = at_end (silent_writes d)
writes duties.End = at_end nothing

-- ---- the side whose end is written

abbrev pub side_of : Duty → Side
side_of (duties.Ask ask_duties.JoinAgain) = A
side_of (duties.Ask (ask_duties.Window s)) = s
side_of (duties.Ask (ask_duties.SynHeard s)) = s
side_of (duties.Ask (ask_duties.SynAnswered s)) = s
side_of (duties.Ask (ask_duties.PlainHandshake s)) = s
side_of (duties.Ask (ask_duties.PeerKey s)) = s
side_of (duties.Ask (ask_duties.JoinHeard s)) = s
side_of (duties.Ask (ask_duties.Opened s)) = s
side_of (duties.Ask (ask_duties.Live s)) = s
side_of (duties.Ask (ask_duties.AckHeard s)) = s
side_of (duties.Ask (ask_duties.FailHeard s)) = s
side_of (duties.Ask (ask_duties.SubflowAck s)) = s
side_of (duties.Ask (ask_duties.PlainData s)) = s
side_of (duties.Ask (ask_duties.GoIdentity s)) = s
side_of (duties.Ask (ask_duties.Edge s)) = s
side_of (duties.Ask (ask_duties.CheckFailed s)) = s
side_of (duties.Ask (ask_duties.HeardFin s index)) = s
side_of (duties.Ask (ask_duties.SubflowFin s)) = s
side_of (duties.Ask (ask_duties.AckOut s)) = s
side_of (duties.Ask (ask_duties.Rate s)) = s
side_of (duties.Ask (ask_duties.Return s)) = s
side_of (duties.Ask (ask_duties.AbortSend s)) = s
side_of (duties.Ask (ask_duties.AbortReceive s)) = s
side_of (duties.Ask (ask_duties.Announce s id)) = s
side_of (duties.Ask (ask_duties.Withdraw s id)) = s
side_of (duties.Ask (ask_duties.LeaveNoted s)) = s
side_of (duties.Ask (ask_duties.BreakAck s reason)) = s
side_of (duties.Ask (ask_duties.Leave s)) = s
side_of (duties.Ask (ask_duties.Dead s)) = s
side_of (duties.Step (step_duties.Look s)) = s
side_of (duties.Step (step_duties.Data s)) = s
side_of (duties.Step step_duties.Events) = A
side_of (duties.Step (step_duties.Heard s index)) = s
side_of (duties.Step (step_duties.PlainAck s)) = s
side_of (duties.Step (step_duties.Unmapped s)) = s
side_of (duties.Send (send_duties.Update s)) = s
side_of (duties.Send (send_duties.Syn s)) = s
side_of (duties.Send (send_duties.FastClose s)) = s
side_of (duties.Send (send_duties.Notice s)) = s
side_of (duties.Send (send_duties.DataFin s)) = s
side_of (duties.Send (send_duties.Fin s)) = s
side_of (duties.Send (send_duties.SynAck s)) = s
side_of (duties.Send (send_duties.Refuse s)) = s
side_of (duties.Send (send_duties.Acknowledge s)) = s
side_of (duties.Send (send_duties.Again s)) = s
side_of (duties.Send (send_duties.Answer s)) = s
side_of (duties.Send (send_duties.ResetAnswer s)) = s
side_of (duties.Send (send_duties.Resend s)) = s
side_of (duties.Send (send_duties.BreakReset s reason)) = s
side_of (duties.Send (send_duties.Reset s)) = s
side_of (duties.Send (send_duties.ResetNoted s)) = s
side_of (duties.Silent (silent_duties.Timer s)) = s
side_of (duties.Silent (silent_duties.Keep s)) = s
side_of (duties.Silent (silent_duties.PassFin s)) = s
side_of duties.End = A
