-- What a copy that arrives tells, and what it leaves of the numbers that its end tells.
use Rattle.world_laws.proofs.Words.{◌≡◌, refl, ℕ, ◌+◌, nat_lt, nat_le, Bool, true, false, if◌then◌else◌, Option, Some, None, List, [], ◌∷◌, map, arith, ◌<◌}
use Rattle.world_laws.proofs.Words.{◌^◌, option_map, IfSome, All, All-head, All-tail, Side, A, B, peer, JoinForm, CapableKeys, NoKey, Sender, Both, WithData}
use Rattle.world_laws.proofs.Words.{FormFits, JoinSyn, JoinAnswer, octets_in, AckKind, after_acknowledge, ack_kind, sample_of, Meaning, EndState, EndPhase}
use Rattle.world_laws.proofs.Words.{Copy, occupied, Hint, PlainOption, PlainSegment, Capable, Join, Dss, AddAddr, Remove, Prio, Fail, Reset, meant}
use Rattle.world_laws.proofs.Words.{meant_option, meant_mapping, PathMapping, Bytes, Infinite, At, Heard, KeyPair, PeerNotice, is_nil, PathEnd, hint_of}
use Rattle.world_laws.proofs.Words.{items_in, items_of, owes_by, after_judged, asked_in, copy_of, judged_in, owing_if, with_payload, reset_by}
use Rattle.world_laws.proofs.Words.{position_numbered, is_listening, joined_by, syn_of_window, is_joined, join_answer, join_items, with_keys, ack_items, is_mapping}
use Rattle.world_laws.proofs.Words.{mapping_items, map_items, first_items, HeardOption, key_items, item_removed, Profile, answered_in, cleared_in, taken_as}
use Rattle.world_laws.proofs.Words.{with_answer, Modes, Every-nil, Every-append, Every, if_so}
use Rattle.std.proofs.Common.{flat_map}
use Rattle.std.specs.Option.{unwrap_or}
use Rattle.mptcp_options.specs.Capable.{KeysFit}
use Rattle.path_segments.specs.declared.segment.PathMapping.TheVariants.{End}
use Rattle.path_segments.specs.declared.segment.PathOption.TheVariants.{FastClose}
use Rattle.subflow_tcp.specs.Taking as taking
use Rattle.loss_recovery.specs.declared.windows.Told.{Told}
use Rattle.path_core.specs.Judged.{is_taken}
use Rattle.world_laws.proofs.Lanes.Records.{every_cons}
use Rattle.world_laws.proofs.Numbers.TellSmall.{IsShort, MappingIsShort, OptionTells, SegmentTells, IsNonce, ItemTells, AnswerTells, SenderTells, ModesTell, EndTells}
use Rattle.world_laws.proofs.Numbers.EndRules.{acknowledged_tells, AreKeys, answer_nonce}

-- ---- what it says

abbrev Tell : List Heard → Type 0
Tell items = Every ItemTells items

one : (item : Heard) → ItemTells item → Tell (item ∷ [])
one item h = every_cons item [] h (Every-nil ItemTells)

tell_if : (b : Bool) (item : Heard) → ItemTells item → Tell (if b then item ∷ [] else [])
tell_if = elim [ true ↦ λ item h. one item h | false ↦ λ item h. Every-nil ItemTells ]

acks_tell : (o : Option ℕ) (window : ℕ) → IfSome o IsShort → Tell (ack_items (option_map (λ n. Some n) o) window)
acks_tell None window h = Every-nil ItemTells
acks_tell (Some n) window h = tell_if (nat_lt n (2 ^ 62)) (Heard.DataAck n window) h

mapping_tells : (place position count : ℕ) (fin : Bool) → Tell (mapping_items place position count fin)
mapping_tells place position count fin = tell_if (is_mapping place position count) (Heard.Mapping fin) tt

first_tells : (len : ℕ) → Tell (first_items len)
first_tells len = (elim (nat_lt 0 len) as (λ b. Tell (mapping_items 0 1 len false) → Tell (if b then mapping_items 0 1 len false else []))
    [ true ↦ λ tells. tells | false ↦ λ tells. Every-nil ItemTells ]) (mapping_tells 0 1 len false)

map_tells : (o : Option (PathMapping ℕ)) → IfSome o MappingIsShort → Tell (map_items (option_map meant_mapping o))
map_tells None h = Every-nil ItemTells
map_tells (Some (Bytes place position len fin checksum)) h = mapping_tells place position (octets_in len fin) fin
map_tells (Some (End place checksum)) h = tell_if (nat_le place (2 ^ 62)) (Heard.DataFin place) h
map_tells (Some (Infinite place position)) h = tell_if (nat_lt place (2 ^ 62)) (Heard.InfiniteMapping place (Some position)) tt

keys_tell : (s : Side) (keys : CapableKeys) → KeysFit keys → Tell (key_items s keys)
keys_tell A NoKey h = Every-nil ItemTells
keys_tell A (Sender sender) h = one (Heard.PeerKey sender) h
keys_tell A (Both sender receiver) h = Every-nil ItemTells
keys_tell A (WithData sender receiver len checksum) h = Every-nil ItemTells
keys_tell B NoKey h = Every-nil ItemTells
keys_tell B (Sender sender) h = Every-nil ItemTells
keys_tell B (Both sender receiver) h = one (Heard.Keys receiver sender) (h.1, h.0)
keys_tell B (WithData sender receiver len checksum) h = every_cons (Heard.Keys receiver sender) (first_items len) (h.1, h.0) (first_tells len)

joins_tell : (s : Side) (form : JoinForm) → FormFits form → Tell (join_items s form)
joins_tell A (JoinForm.Answer backup id hmac nonce) h = one (Heard.Join (JoinForm.Answer backup id hmac nonce)) h
joins_tell A (JoinForm.Syn backup id token nonce) h = Every-nil ItemTells
joins_tell A (JoinForm.Third hmac) h = Every-nil ItemTells
joins_tell B (JoinForm.Syn backup id token nonce) h = one (Heard.Join (JoinForm.Syn backup id token nonce)) h
joins_tell B (JoinForm.Third hmac) h = one (Heard.Join (JoinForm.Third hmac)) h
joins_tell B (JoinForm.Answer backup id hmac nonce) h = Every-nil ItemTells

removed_tell : (ids : List ℕ) → Tell (map item_removed ids)
removed_tell [] = Every-nil ItemTells
removed_tell (id ∷ ids) = every_cons (item_removed id) _ tt (removed_tell ids)

module _ (c : Profile) (from : Side) (joined : Bool) (s : Side) (window : ℕ) where
  option_tells : (o : PlainOption) → OptionTells c from o → Tell (items_in joined s window (meant_option o))
  option_tells (Capable flag_a flag_c keys) h = if_so Tell joined [] (key_items s keys) (Every-nil ItemTells) (keys_tell s keys h.fits)
  option_tells (Dss next mapping) h = every_cons Heard.Dss _ tt (Every-append (acks_tell next window h.short.0) (map_tells mapping h.short.1))
  option_tells (Join form) h = joins_tell s form h.fits
  option_tells (AddAddr true id address port hmac) h = one (Heard.Notice (PeerNotice.AddEcho id)) tt
  option_tells (AddAddr false id address port (Some hmac)) h = one (Heard.Notice (PeerNotice.AddAddr id address port hmac)) (h.fits.0, h.fits.1, h.fits.2)
  option_tells (AddAddr false id address port None) h = Every-nil ItemTells
  option_tells (Remove ids) h = removed_tell ids
  option_tells (Prio backup) h = one (Heard.Notice (PeerNotice.Prio backup)) tt
  option_tells (Fail place) h = one Heard.Fail tt
  option_tells (FastClose key) h = one (Heard.FastClose key) tt
  option_tells (Reset transient reason) h = Every-nil ItemTells

  options_tell : (os : List PlainOption) → All (OptionTells c from) os → Tell (flat_map (items_in joined s window) (map meant_option os))
  options_tell [] h = Every-nil ItemTells
  options_tell (o ∷ os) h = Every-append (option_tells o (All-head (OptionTells c from) o os h)) (options_tell os (All-tail (OptionTells c from) o os h))

-- ---- the answer of a dead end

zero_low : (c : Profile) (s : Side) → position_numbered c s 0 < 2 ^ 32
zero_low c s = omega arith

answer_tells : (c : Profile) (s : Side) (o : Option ℕ) (position occupied : ℕ) → IfSome o IsShort → (o ≡ None → IsShort (position + occupied))
    → AnswerTells (reset_by c s (option_map (λ n. At n) o) (At position) occupied)
answer_tells c s None position occupied short reaches = record { rst = refl; low = zero_low c s; acknowledged = reaches refl; reaches = λ is. cc; syn = refl; fin = refl }
answer_tells c s (Some acknowledged) position occupied short reaches = record { rst = refl; low = omega (arith, short); acknowledged = tt; reaches = λ is. short; syn = refl; fin = refl }

-- ---- the subflow

record Subflow (c : Profile) (s : Side) (tcp : EndState) : Type 0 where
  sender : SenderTells c s tcp.send
  edge : IsShort tcp.recv.edge

module _ (c : Profile) (s : Side) where
  abbrev Flows : EndState → Type 0
  Flows tcp = Subflow c s tcp

  held_flows : (m : Meaning) (octets : List ℕ) (tcp : EndState) → Flows tcp → Flows (with_payload m octets tcp)
  held_flows (Meaning.Taken pos acknowledged) octets tcp h =
      if_so Flows (is_nil octets) tcp (taking.after_holding pos octets tcp)
      h (record { sender = h.sender; edge = h.edge })
  held_flows Meaning.Ignored octets tcp h = h
  held_flows _ octets tcp h = h

  payload_flows : (pos : ℕ) (hint : Hint) (copy : Copy) (tcp : EndState) → hint.keep ≡ false → Flows tcp → Flows (taking.after_payload pos hint copy tcp)
  payload_flows pos hint copy tcp keep h = record { sender = h.sender; edge = by hint.keep keep }
    where
      by : (b : Bool) → b ≡ false → IsShort (taking.after_keeping b pos copy.payload tcp).recv.edge
      by = elim [ false ↦ λ is. h.edge | true ↦ λ is. cc ]

  acknowledged_flows : (pos now : ℕ) (tcp : EndState) → Flows tcp → Flows (taking.after_acknowledgement pos now tcp)
  acknowledged_flows pos now tcp h = elim (ack_kind pos tcp.send) as (λ kind. Flows (taking.after_ack_kind kind (sample_of pos tcp.send) now (record tcp { send = after_acknowledge pos tcp.send })))
      [ AckKind.New octets ↦ record { sender = acknowledged_tells c s tcp.send h.sender pos; edge = h.edge } | _ ↦ record { sender = acknowledged_tells c s tcp.send h.sender pos; edge = h.edge } ]

  row_flows : (kind : AckKind) (told : Told) (copy : Copy) (tcp : EndState) → Flows tcp → Flows (taking.after_row kind told copy tcp)
  row_flows kind told copy tcp h =
      if_so Flows (taking.is_duplicate kind told copy tcp) (taking.after_duplicate tcp) (taking.after_interruption tcp)
      (record { sender = h.sender; edge = h.edge }) (record { sender = h.sender; edge = h.edge })

  arrived_flows : (m : Meaning) (hint : Hint) (now : ℕ) (copy : Copy) (tcp : EndState) → hint.keep ≡ false → Flows tcp → Flows (taking.after_arrival m hint now copy tcp)
  arrived_flows (Meaning.Taken pos acknowledged) hint now copy tcp keep h =
      let p = payload_flows pos hint copy tcp keep h in
      let t : EndState = taking.after_established (taking.after_hearing (taking.after_payload pos hint copy tcp)) in
      let a = acknowledged_flows acknowledged now t (record { sender = p.sender; edge = p.edge }) in
      let r = row_flows (ack_kind acknowledged t.send) (taking.told_by hint copy) copy (taking.after_acknowledgement acknowledged now t) a in
      record { sender = r.sender; edge = r.edge }
  arrived_flows (Meaning.Accepts acknowledged) hint now copy tcp keep h =
      let p = payload_flows 1 hint copy tcp keep h in
      let a = acknowledged_flows acknowledged now _ (record { sender = p.sender; edge = p.edge }) in
      record { sender = a.sender; edge = a.edge }
  arrived_flows Meaning.Opens hint now copy tcp keep h = let p = payload_flows 1 hint copy tcp keep h in record { sender = p.sender; edge = p.edge }
  arrived_flows Meaning.Kills hint now copy tcp keep h = record { sender = acknowledged_tells c s tcp.send h.sender tcp.send.nxt; edge = h.edge }
  arrived_flows Meaning.Ignored hint now copy tcp keep h = h
  arrived_flows Meaning.Unwanted hint now copy tcp keep h = h
  arrived_flows _ hint now copy tcp keep h = record { sender = h.sender; edge = h.edge }

  owing_flows : (b : Bool) (tcp : EndState) → Flows tcp → Flows (owing_if b tcp)
  owing_flows true tcp h = record { sender = h.sender; edge = h.edge }
  owing_flows false tcp h = h

-- ---- joins

answered_modes : (o : Option JoinAnswer) (m : Modes) → IfSome o (λ answer. IsNonce answer.nonce) → ModesTell m → ModesTell (with_answer o m)
answered_modes None m nonce h = h
answered_modes (Some answer) m nonce h = record { own_key = h.own_key; peer_key = h.peer_key; own_nonce = h.own_nonce; peer_nonce = nonce; failed_mapping = h.failed_mapping }

answered_by : (meaning : Meaning) (items : List Heard) (m : Modes) → Tell items → ModesTell m → ModesTell (answered_in meaning items m)
answered_by (Meaning.Accepts acknowledged) items m said h = answered_modes (join_answer items m) m (answer_nonce items m said) h
answered_by _ items m said h = h

cleared_by : (meaning : Meaning) (state : EndPhase) (m : Modes) → ModesTell m → ModesTell (cleared_in meaning state m)
cleared_by (Meaning.Taken position acknowledged) state m h = h
cleared_by _ state m h = h

asked_modes : (meaning : Meaning) (options : List HeardOption) (m : Modes) → ModesTell m → ModesTell (asked_in meaning options m)
asked_modes Meaning.Opens options m h = h
asked_modes _ options m h = h

joined_modes : (joined : Bool) (meaning : Meaning) (items : List Heard) (state : EndPhase) (m : Modes) → Tell items → ModesTell m
    → ModesTell (if joined then cleared_in meaning state (answered_in meaning items m) else m)
joined_modes true meaning items state m said h = cleared_by meaning state (answered_in meaning items m) (answered_by meaning items m said h)
joined_modes false meaning items state m said h = h

-- the listening end takes the SYN that joins
pub joined_tells : (c : Profile) (s : Side) (keys : KeyPair) (asked : JoinSyn) (e : PathEnd) → AreKeys keys → IsNonce asked.nonce → EndTells c s e → EndTells c s (joined_by keys asked e)
joined_tells c s keys asked e pair nonce h = by (is_listening e.tcp.state)
  where
    modes : ModesTell (record (with_keys keys e.modes) { peer_nonce = asked.nonce; backup_heard = asked.backup })
    modes = record { own_key = pair.0; peer_key = pair.1; own_nonce = h.modes.own_nonce; peer_nonce = nonce; failed_mapping = h.modes.failed_mapping }

    by : (b : Bool) → EndTells c s (record e {
      tcp = if b then taking.after_syn (taking.unkept None) (syn_of_window e.treated.window) e.tcp else e.tcp;
      modes = record (with_keys keys e.modes) { peer_nonce = asked.nonce; backup_heard = asked.backup };
    })
    by true =
        let flows = arrived_flows c s Meaning.Opens (taking.unkept None) 0 (syn_of_window e.treated.window) e.tcp refl (record { sender = h.sender; edge = h.edge }) in
        record { sender = flows.sender; edge = flows.edge; stream = h.stream; window = h.window; modes = modes; treated = h.treated; notices = h.notices }
    by false = record { sender = h.sender; edge = h.edge; stream = h.stream; window = h.window; modes = modes; treated = h.treated; notices = h.notices }

-- ---- the end

pub arrived_tells : (c : Profile) (s : Side) (now : ℕ) (sg : PlainSegment) (e : PathEnd) → SegmentTells c (peer s) sg → EndTells c s e
    → EndTells c s (after_judged c s now (meant sg) (judged_in (is_joined c) s (meant sg) e) e)
arrived_tells c s now sg e tells h =
    let m : Meaning = taken_as (judged_in (is_joined c) s (meant sg) e) in
    let items : List Heard = items_of (is_joined c) s (meant sg) in
    let said : Tell items = options_tell c (peer s) (is_joined c) s _ sg.options tells.options in
    let held = held_flows c s m sg.payload e.tcp (record { sender = h.sender; edge = h.edge }) in
    let tcp : EndState = with_payload m sg.payload e.tcp in
    let arrived = arrived_flows c s m (hint_of items) now (copy_of (meant sg)) tcp refl held in
    let owed = owing_flows c s (owes_by m items) (taking.after_arrival m (hint_of items) now (copy_of (meant sg)) tcp) arrived in
    record {
      sender = owed.sender;
      edge = owed.edge;
      stream = h.stream;
      window = record { next = h.window.next; window = h.window.window };
      modes = asked_modes m (meant sg).options (if is_joined c then cleared_in m tcp.state (answered_in m items e.modes) else e.modes) (joined_modes (is_joined c) m items tcp.state e.modes said h.modes);
      treated = record {
        items = said;
        answer = by sg.acknowledged tells.acknowledged tells.reaches;
        acknowledged = position_told (is_taken m) sg.acknowledged tells.acknowledged;
        failed_mapping = tt;
      };
      notices = h.notices;
    }
  where
    position_told : (taken : Bool) (o : Option ℕ) → IfSome o IsShort
        → IsShort (if taken then unwrap_or (copy_of (record (meant sg) { acknowledged = option_map (λ n. At n) o })).acknowledged 0 else 0)
    position_told false o short = omega arith
    position_told true None short = omega arith
    position_told true (Some n) short = short

    by : (o : Option ℕ) → IfSome o IsShort → (o ≡ None → IsShort (sg.position + occupied (copy_of (meant sg))))
        → AnswerTells (reset_by c s (option_map (λ n. At n) o) (At sg.position) (occupied (copy_of (meant sg))))
    by None short reaches = answer_tells c s None sg.position (occupied (copy_of (meant sg))) tt reaches
    by (Some n) short reaches = answer_tells c s (Some n) sg.position (occupied (copy_of (meant sg))) short (λ is. cc)
