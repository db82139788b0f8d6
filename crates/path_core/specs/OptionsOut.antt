-- The segments that an end sends: their options and their windows (RFC 8684, section 3).
use Rattle.std.specs.Prelude.{ℕ, ◌+◌, Bool, ◌≤◌, ◌&&◌, not, true, false, if◌then◌else◌, List, ◌++◌, Option, [], Some, is_some, ◌∷◌, None, length, find}
use Rattle.sides.specs.declared.side.Side.{Side}
use Rattle.sides.specs.declared.side.Side.TheVariants.{A, B}
use Rattle.capable_handshake.specs.Said.{syn_option, syn_ack_option, ack_option}
use Rattle.path_segments.specs.Options.{PlainOption}
use Rattle.path_segments.specs.declared.segment.PathOption.TheVariants.{Dss, AddAddr, Remove, Prio}
use Rattle.subflow_send.specs.declared.record.RecordKind.{RecordKind}
use Rattle.subflow_send.specs.declared.record.RecordKind.TheVariants.{Syn, Data, Fin}
use Rattle.subflow_send.specs.Records.{Record}
use Rattle.data_close.specs.Said.{reset_option, fast_close_option}
use Rattle.key_material.specs.declared.address.Address.TheVariants.{V4}
use Rattle.key_material.specs.AddressHmac.{add_addr64_of}
use Rattle.path_agenda.specs.declared.notice.OwnNotice.{OwnNotice}
use Rattle.path_agenda.specs.declared.notice.OwnNotice.TheVariants as notes
use Rattle.key_material.specs.Address.{octets_of}
use Rattle.path_segments.specs.Spelled.{PlainSegment}
use Rattle.subflow_tcp.specs.declared.segments.Outgoing.{Outgoing}
use Rattle.subflow_tcp.specs.Emitting.{ack_at, record_segment, syn_ack_segment, fin_position, fin_segment, reset_segment}
use Rattle.subflow_send.specs.Rules.{is_unsent}
use Rattle.subflow_tcp.specs.States.{is_opening}
use Rattle.path_core.specs.End.{PathEnd}
use Rattle.path_core.specs.Profile.{Profile}
use Rattle.path_core.specs.Unnumbered.{unnumbered}
use Rattle.path_core.specs.MpJoin.{is_joined, join_options, third_options, peer_key_of}
use Rattle.path_core.specs.DssOut.{data_fin_mapping, fail_beside, fin_options, piece_options, fail_options}
use Rattle.path_core.specs.declared.modes.Modes.{Modes}

-- ---- options

-- on a SYN that opens the connection: A asks for Multipath TCP, and B answers with its key where A asked (RFC 8684, section 3.1)
abbrev pub capable_options : Profile → Side → PathEnd → List PlainOption
capable_options c A e = unnumbered (syn_option c.spelling.checksums)
capable_options c B e =
    if e.modes.capable_asked && not e.modes.identity then unnumbered (syn_ack_option c.spelling.checksums e.modes.own_key) else []

-- on a SYN and a SYN/ACK, of a path that joins or of the one that opens the connection
abbrev pub syn_options : Profile → Side → PathEnd → List PlainOption
syn_options c s e = if is_joined c then join_options c s e.modes else capable_options c s e

-- before A may send a DSS it shows both keys; B says nothing before it has them
abbrev pub key_options : Profile → Side → Option ℕ → PathEnd → List PlainOption
key_options c A (Some peer) e = unnumbered (ack_option c.spelling.checksums e.modes.own_key peer)
key_options c A None e = []
key_options c B peer e = []

-- before an end may send a DSS: the third MP_JOIN, as long as it is owed, or the keys
abbrev pub opening_options : Profile → Side → PathEnd → List PlainOption
opening_options c s e = if e.modes.owes_third then third_options e.modes else key_options c s e.modes.peer_key e

-- on an acknowledgement, perhaps with the DATA_FIN; none after a fallback
abbrev pub ack_options : Profile → Side → Option ℕ → PathEnd → List PlainOption
ack_options c s fin e =
    if e.modes.identity then []
    else (if e.modes.clear then Dss (Some e.receiving.next) (data_fin_mapping c s fin) ∷ fail_beside fin e.modes else opening_options c s e)

abbrev pub record_options : RecordKind → Profile → Side → Record → PathEnd → List PlainOption
record_options Syn c s r e = syn_options c s e
record_options Data c s r e = piece_options c s r e
record_options Fin c s r e = fin_options r.pos e

-- why the path is reset, where there is a reason; the fault doesn't pass (RFC 8684, section 3.6)
abbrev pub reset_options : Option ℕ → List PlainOption
reset_options None = []
reset_options (Some reason) = unnumbered (reset_option reason)

-- MP_FAIL stands before the reason, where a failed check broke the path
abbrev pub broken_options : Option ℕ → Option ℕ → List PlainOption
broken_options failed None = []
broken_options failed (Some reason) = fail_options failed ++ reset_options (Some reason)

-- The own address of an id is 10.0.id.2, without a port. An announcement shows the HMAC of both keys (RFC 8684, section 3.4.1).
abbrev pub announcement : ℕ → Modes → PlainOption
announcement id m =
    let address = V4 (10 ∷ 0 ∷ id ∷ 2 ∷ []) in
    AddAddr false id address None (Some (add_addr64_of m.own_key (peer_key_of m) id address 0))

-- a notice; an echo has no HMAC
abbrev pub notice_option : OwnNotice → Modes → PlainOption
notice_option (notes.AddAddr id) m = announcement id m
notice_option (notes.AddEcho id address port) m = AddAddr true id address port None
notice_option (notes.Removes id) m = Remove (id ∷ [])
notice_option (notes.Prio backup) m = Prio backup

-- an address that is echoed has 16 octets at most
abbrev pub HasAddress : OwnNotice → Type 0
HasAddress (notes.AddEcho id address port) = length (octets_of address) ≤ 16
HasAddress _ = Unit {0}

-- ---- segments

-- a segment has the window that the book told last, and a SYN the maximum segment size
abbrev pub segment_of : Profile → Outgoing → List PlainOption → List ℕ → PathEnd → PlainSegment
segment_of c o options payload e = record {
  position = o.position;
  acknowledged = o.acknowledged;
  syn = o.syn;
  fin = o.fin;
  rst = o.rst;
  window = e.receiving.window;
  mss = (if o.syn then Some c.mss else None);
  options = options;
  payload = payload;
}

-- the acknowledgement at this position
abbrev pub ack_said : Profile → Side → ℕ → Option ℕ → PathEnd → PlainSegment
ack_said c s position fin e = segment_of c (ack_at position e.tcp) (ack_options c s fin e) [] e

-- a record, for the first time or again
abbrev pub record_said : Profile → Side → Record → PathEnd → PlainSegment
record_said c s r e = segment_of c (record_segment e.tcp r) (record_options r.kind c s r e) r.piece e

abbrev pub syn_ack_said : Profile → Side → PathEnd → PlainSegment
syn_ack_said c s e = segment_of c (syn_ack_segment e.tcp) (syn_options c s e) [] e

-- the FIN, also before there is a record of it
abbrev pub fin_said : Profile → PathEnd → PlainSegment
fin_said c e = segment_of c (fin_segment e.tcp) (fin_options (fin_position e.tcp.send) e) [] e

-- the SYN of the end that opens was never sent
abbrev pub is_syn_unsent : PathEnd → Bool
is_syn_unsent e = is_opening e.tcp.state && is_some (find is_unsent e.tcp.send.records)

-- an end resets at SND.NXT (RFC 9293, section 3.10.5), which is 0 as long as its SYN isn't out
abbrev pub own_reset : PathEnd → Outgoing
own_reset e = record (reset_segment e.tcp) { position = if is_syn_unsent e then 0 else e.tcp.send.nxt }

-- after a fallback it has no option
abbrev pub reset_said : Profile → Option ℕ → PathEnd → PlainSegment
reset_said c reason e =
    segment_of c (own_reset e) (if e.modes.identity then [] else broken_options e.treated.failed_mapping reason) [] e

-- an acknowledgement with a DSS, and these options behind it
abbrev pub dss_and : Profile → List PlainOption → PathEnd → PlainSegment
dss_and c options e = segment_of c (ack_at e.tcp.send.nxt e.tcp) (Dss (Some e.receiving.next) None ∷ options) [] e

-- an acknowledgement with a DSS, and the notice behind it
abbrev pub notice_said : Profile → OwnNotice → PathEnd → PlainSegment
notice_said c notice e = dss_and c (notice_option notice e.modes ∷ []) e

-- a notice that may be there
abbrev pub noted_said : Profile → Side → Option OwnNotice → PathEnd → PlainSegment
noted_said c s (Some notice) e = notice_said c notice e
noted_said c s None e = ack_said c s e.tcp.send.nxt None e

-- with the peer's key (RFC 8684, section 3.5)
abbrev pub fast_close_said : Profile → ℕ → PathEnd → PlainSegment
fast_close_said c key e = dss_and c (unnumbered (fast_close_option key)) e

-- with the key of an end that carries it
abbrev pub carried_said : Profile → Side → Option ℕ → PathEnd → PlainSegment
carried_said c s (Some key) e = fast_close_said c key e
carried_said c s None e = ack_said c s e.tcp.send.nxt None e

-- a record that may be there
abbrev pub record_or_ack : Profile → Side → Option Record → PathEnd → PlainSegment
record_or_ack c s (Some r) e = record_said c s r e
record_or_ack c s None e = ack_said c s e.tcp.send.nxt None e
