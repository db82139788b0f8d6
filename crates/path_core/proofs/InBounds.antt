-- What a reply of the asked kind, within bounds, gives the rules.
use Rattle.path_core.proofs.Words.{◌≡◌, subst, ℕ, ◌≤◌, false, Option, Some, None, List, [], ◌∷◌, arith, is_some, Side, ControlReply, Record, first_of, Duty}
use Rattle.path_core.proofs.Words.{AskDuty, StepDuty, Reply, Ask, IsOfKind, octets, PathState, end_at, ask_for, asks_first, first_unsent, grant_ask, data_ask}
use Rattle.path_core.proofs.Words.{grant_in}
use Rattle.std.specs.Prelude.{All}
use Rattle.send_book.specs.declared.call.SendReply.{SendReply}
use Rattle.reassembly_book.specs.declared.call.ReassemblyReply.{ReassemblyReply}
use Rattle.control_book.specs.declared.call.ControlCall.{ControlCall}
use Rattle.linked_increase.specs.declared.rows.Row.{Row}
use Rattle.linked_increase.specs.Paths.{IsInRange}
use Rattle.actor_desk.specs.Bounds.{IsBounded, TakesReply}
use Rattle.path_core.specs.Replies.{IsAckBounded, AreRowsInRange, IsGrantSendable, IsGrantFit}

pub acks_bounded : (x : Option Ask) (r : Reply) → TakesReply x r → IsAckBounded r
acks_bounded None r takes = absurd takes
acks_bounded (Some x) (Reply.Send reply) takes = tt
acks_bounded (Some x) (Reply.Control reply) takes = tt
acks_bounded (Some x) Reply.Done takes = tt
acks_bounded (Some x) (Reply.Reassembly (ReassemblyReply.Placed count)) takes = tt
acks_bounded (Some x) (Reply.Reassembly (ReassemblyReply.Beyond edge)) takes = tt
acks_bounded (Some x) (Reply.Reassembly ReassemblyReply.FinSet) takes = tt
acks_bounded (Some x) (Reply.Reassembly (ReassemblyReply.FinClash fin at)) takes = tt
acks_bounded (Some x) (Reply.Reassembly (ReassemblyReply.Bytes bytes)) takes = tt
acks_bounded (Some x) (Reply.Reassembly ReassemblyReply.End) takes = tt
acks_bounded (Some x) (Reply.Reassembly ReassemblyReply.NoneYet) takes = tt
acks_bounded (Some x) (Reply.Reassembly (ReassemblyReply.Aborted by_peer)) takes = tt
acks_bounded (Some x) (Reply.Reassembly ReassemblyReply.Noted) takes = tt
acks_bounded (Some (Ask.Send s call)) (Reply.Reassembly (ReassemblyReply.Ack next window)) takes = absurd takes.0
acks_bounded (Some (Ask.Control s call)) (Reply.Reassembly (ReassemblyReply.Ack next window)) takes = absurd takes.0
acks_bounded (Some (Ask.Local step)) (Reply.Reassembly (ReassemblyReply.Ack next window)) takes = absurd takes.0
acks_bounded (Some (Ask.Reassembly s call)) (Reply.Reassembly (ReassemblyReply.Ack next window)) takes = takes.1

rows_of : (x : Ask) (rows : List Row) → IsOfKind x (Reply.Control (ControlReply.Rows rows)) → IsBounded x (Reply.Control (ControlReply.Rows rows)) → All IsInRange rows
rows_of (Ask.Control s (ControlCall.Rate path window rtt)) rows kind bounded = bounded.in_range
rows_of (Ask.Control s (ControlCall.Look x0)) rows kind bounded = absurd kind
rows_of (Ask.Control s (ControlCall.PeerKey x0)) rows kind bounded = absurd kind
rows_of (Ask.Control s (ControlCall.Keys x0 x1)) rows kind bounded = absurd kind
rows_of (Ask.Control s (ControlCall.Fell x0 x1)) rows kind bounded = absurd kind
rows_of (Ask.Control s (ControlCall.JoinBegin x0)) rows kind bounded = absurd kind
rows_of (Ask.Control s (ControlCall.JoinHeard x0 x1)) rows kind bounded = absurd kind
rows_of (Ask.Control s (ControlCall.Live x0 x1)) rows kind bounded = absurd kind
rows_of (Ask.Control s (ControlCall.Dead x0)) rows kind bounded = absurd kind
rows_of (Ask.Control s (ControlCall.Backup x0 x1)) rows kind bounded = absurd kind
rows_of (Ask.Control s (ControlCall.Announce x0)) rows kind bounded = absurd kind
rows_of (Ask.Control s (ControlCall.Withdraw x0)) rows kind bounded = absurd kind
rows_of (Ask.Control s (ControlCall.Heard x0 x1 x2 x3)) rows kind bounded = absurd kind
rows_of (Ask.Control s (ControlCall.Echoed x0)) rows kind bounded = absurd kind
rows_of (Ask.Control s (ControlCall.Removed x0)) rows kind bounded = absurd kind
rows_of (Ask.Control s ControlCall.FastClose) rows kind bounded = absurd kind
rows_of (Ask.Control s (ControlCall.FastHeard x0)) rows kind bounded = absurd kind
rows_of _ rows kind bounded = absurd kind

pub rows_in_range : (x : Option Ask) (r : Reply) → TakesReply x r → AreRowsInRange r
rows_in_range None r takes = absurd takes
rows_in_range (Some x) (Reply.Send reply) takes = tt
rows_in_range (Some x) (Reply.Reassembly reply) takes = tt
rows_in_range (Some x) Reply.Done takes = tt
rows_in_range (Some x) (Reply.Control (ControlReply.Rows rows)) takes = rows_of x rows takes.0 takes.1
rows_in_range (Some x) (Reply.Control (ControlReply.Standing x0 x1 x2 x3)) takes = tt
rows_in_range (Some x) (Reply.Control ControlReply.Noted) takes = tt
rows_in_range (Some x) (Reply.Control (ControlReply.KeysDiffer x0)) takes = tt
rows_in_range (Some x) (Reply.Control (ControlReply.Verdict x0)) takes = tt
rows_in_range (Some x) (Reply.Control (ControlReply.Begin x0 x1)) takes = tt
rows_in_range (Some x) (Reply.Control ControlReply.NotYet) takes = tt
rows_in_range (Some x) (Reply.Control (ControlReply.Never x0)) takes = tt
rows_in_range (Some x) (Reply.Control (ControlReply.UnknownToken x0)) takes = tt
rows_in_range (Some x) (Reply.Control ControlReply.NotConfirmed) takes = tt
rows_in_range (Some x) (Reply.Control (ControlReply.Fallen x0)) takes = tt
rows_in_range (Some x) (Reply.Control ControlReply.Echo) takes = tt
rows_in_range (Some x) (Reply.Control ControlReply.BadHmac) takes = tt
rows_in_range (Some x) (Reply.Control ControlReply.Known) takes = tt
rows_in_range (Some x) (Reply.Control ControlReply.Stopped) takes = tt
rows_in_range (Some x) (Reply.Control (ControlReply.OtherKey x0)) takes = tt

-- ---- what is granted

-- a piece of at most a full segment's payload can be sent
granted_fits : (s : Side) (p : PathState (List ℕ)) (r : Reply) → IsOfKind (grant_ask s p) r → p.profile.mss ≤ 1460 → IsGrantSendable (grant_in r)
granted_fits s p (Reply.Send (SendReply.Granted span piece)) kind few =
    let some = kind.0.some in let most = kind.0.most in record { some = omega (arith, some); most = omega (arith, most, few) }
granted_fits s p (Reply.Send SendReply.Noted) kind few = tt
granted_fits s p _ kind few = tt

data_fits : (s : Side) (o : Option Record) (p : PathState (List ℕ)) (r : Reply) → TakesReply (Some (data_ask octets s o p)) r → p.profile.mss ≤ 1460 → is_some o ≡ false → IsGrantSendable (grant_in r)
data_fits s None p r takes few none = granted_fits s p r takes.0 few
data_fits s (Some unsent) p r takes few none = cc

grant_fits : (d : Duty) (p : PathState (List ℕ)) (r : Reply) → TakesReply (Some (ask_for octets d p)) r → p.profile.mss ≤ 1460 → IsGrantFit d r p
grant_fits (Duty.Step (StepDuty.Data s)) p r takes few = data_fits s (first_unsent (end_at s p)) p r takes few
grant_fits (Duty.Ask AskDuty.JoinAgain) p r takes few = tt
grant_fits _ p r takes few = tt

pub grant_of_first : (ds : List Duty) (d : Duty) (p : PathState (List ℕ)) (r : Reply) → first_of ds ≡ Some d → TakesReply (asks_first octets ds p) r → p.profile.mss ≤ 1460 → IsGrantFit d r p
grant_of_first [] d p r is takes few = cc
grant_of_first (x ∷ ds) d p r is takes few = let same : x ≡ d = cc in subst (λ y. IsGrantFit y r p) same (grant_fits x p r takes few)
