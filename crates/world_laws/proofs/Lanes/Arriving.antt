-- A copy that arrives: what the end makes of it at once, and what the lanes do then.
use Rattle.world_laws.proofs.Words.{◌≡◌, refl, sym, ap, subst, ℕ, suc, ◌+◌, nat_lt, nat_le, inl, ⊎_elim, Bool, true, false, if◌then◌else◌, Option, Some, None}
use Rattle.world_laws.proofs.Words.{List, [], ◌∷◌, length, map, ◌^◌, option_map, both_ways, IfSome, Side, A, B, peer, JoinForm, CapableKeys, NoKey, Sender}
use Rattle.world_laws.proofs.Words.{Both, WithData, KeptMapping, after_accept, AckKind, after_acknowledge, ack_kind, sample_of, EndState, State, Copy, Hint}
use Rattle.world_laws.proofs.Words.{PlainOption, Capable, Join, Dss, AddAddr, Remove, Prio, Fail, Reset, meant_option, meant_mapping, PathMapping, Bytes}
use Rattle.world_laws.proofs.Words.{Infinite, Heard, PeerNotice, items_in, is_joined, join_items, ack_items, is_mapping, mapping_items, map_items, first_items}
use Rattle.world_laws.proofs.Words.{held_if, map_held, key_held, held_in, checksum_heard, kept_of, key_items, Profile, Every-nil, Every-append, Every, AckCopy}
use Rattle.world_laws.proofs.Words.{Lane, if_so}
use Rattle.std.proofs.Common.{flat_map}
use Rattle.loss_recovery.specs.declared.windows.Told.{Told}
use Rattle.path_segments.specs.declared.segment.PathMapping.TheVariants.{End}
use Rattle.path_segments.specs.declared.segment.PathOption.TheVariants.{FastClose}
use Rattle.subflow_tcp.specs.States as states
use Rattle.subflow_tcp.specs.Taking as taking
use Rattle.world_laws.proofs.Lanes.Hearing.{state_shows, handshake_back, fin_acked_back}
use Rattle.world_laws.proofs.Announcements.NothingKnown.{noted, removed_noted, address_noted}
use Rattle.world_laws.proofs.Lanes.Records.{acknowledged_shows, every_cons}
use Rattle.world_laws.proofs.Lanes.Showing.{Knowledge, HasAck, HasMapping, HasFin, is_unfinished, SenderShows, ReceiverShows, HeldShows, ItemShows, MappingShows, KeysShow, OptionShows, IsSummed}

-- ---- what the options say

module _ (acks : List AckCopy) (p : Lane) (window : ℕ) where
  abbrev Says : List Heard → Type 0
  Says items = Every (ItemShows acks p) items

  one : (item : Heard) → ItemShows acks p item → Says (item ∷ [])
  one item h = every_cons item [] h (Every-nil _)

  said_if : (b : Bool) (item : Heard) → ItemShows acks p item → Says (if b then item ∷ [] else [])
  said_if = elim [ true ↦ λ item h. one item h | false ↦ λ item h. Every-nil _ ]

  mapping_says : (place position len : ℕ) → Says (mapping_items place position len false)
  mapping_says place position len = if_so Says (is_mapping place position len) (Heard.Mapping false ∷ []) [] (one (Heard.Mapping false) tt) (Every-nil _)

  first_says : (len : ℕ) → Says (first_items len)
  first_says len = (elim (nat_lt 0 len) as (λ b. Says (mapping_items 0 1 len false) → Says (if b then mapping_items 0 1 len false else []))
      [ true ↦ λ says_it. says_it | false ↦ λ says_it. Every-nil _ ]) (mapping_says 0 1 len)

  map_says : (c : Profile) (from : Side) (o : Option (PathMapping ℕ)) → MappingShows c from o p → Says (map_items (option_map meant_mapping o))
  map_says c from None h = Every-nil _
  map_says c from (Some (Bytes place position len true checksum)) h = absurd h
  map_says c from (Some (Bytes place position len false checksum)) h = mapping_says place position len
  map_says c from (Some (End place checksum)) h = said_if (nat_le place (2 ^ 62)) (Heard.DataFin place) h
  map_says c from (Some (Infinite place position)) h = said_if (nat_lt place (2 ^ 62)) (Heard.InfiniteMapping place (Some position)) h

  acks_say : (o : Option ℕ) → IfSome o (λ n. HasAck acks n window) → Says (ack_items (option_map (λ n. Some n) o) window)
  acks_say None h = Every-nil _
  acks_say (Some n) h = said_if (nat_lt n (2 ^ 62)) (Heard.DataAck n window) h

  keys_say : (s : Side) (keys : CapableKeys) → Says (key_items s keys)
  keys_say A NoKey = Every-nil _
  keys_say A (Sender sender) = one _ tt
  keys_say A (Both sender receiver) = Every-nil _
  keys_say A (WithData sender receiver len checksum) = Every-nil _
  keys_say B NoKey = Every-nil _
  keys_say B (Sender sender) = Every-nil _
  keys_say B (Both sender receiver) = one _ tt
  keys_say B (WithData sender receiver len checksum) = every_cons _ _ tt (first_says len)

  join_says : (s : Side) (form : JoinForm) → Says (join_items s form)
  join_says A (JoinForm.Answer backup id hmac nonce) = one _ tt
  join_says A (JoinForm.Syn backup id token nonce) = Every-nil _
  join_says A (JoinForm.Third hmac) = Every-nil _
  join_says B (JoinForm.Syn backup id token nonce) = one _ tt
  join_says B (JoinForm.Third hmac) = one _ tt
  join_says B (JoinForm.Answer backup id hmac nonce) = Every-nil _

  key_items_say : (joined : Bool) (s : Side) (keys : CapableKeys) → Says (if joined then [] else key_items s keys)
  key_items_say = elim [ true ↦ λ s keys. Every-nil _ | false ↦ λ s keys. keys_say s keys ]

  option_says : (c : Profile) (from : Side) (joined : Bool) (s : Side) (o : PlainOption) → OptionShows c from window acks p o → Says (items_in joined s window (meant_option o))
  option_says c from joined s (Capable flag_a flag_c keys) h = key_items_say joined s keys
  option_says c from joined s (Dss next mapping) h = every_cons Heard.Dss _ tt (Every-append (acks_say next h.0) (map_says c from mapping h.1))
  option_says c from joined s (Join form) h = join_says s form
  option_says c from joined s (AddAddr echo id address port hmac) h = address_noted (λ notice. tt) echo id address port hmac
  option_says c from joined s (Remove ids) h = removed_noted (λ notice. tt) ids
  option_says c from joined s (Prio backup) h = noted (λ notice. tt) (PeerNotice.Prio backup)
  option_says c from joined s (Fail place) h = one Heard.Fail h
  option_says c from joined s (FastClose key) h = one (Heard.FastClose key) tt
  option_says c from joined s (Reset transient reason) h = Every-nil _

  pub options_say : (c : Profile) (from : Side) (joined : Bool) (s : Side) (os : List PlainOption) → Every (OptionShows c from window acks p) os → Says (flat_map (items_in joined s window) (map meant_option os))
  options_say c from joined s [] h = Every-nil _
  options_say c from joined s (o ∷ os) h = Every-append (option_says c from joined s o (h.each 0 o refl)) (options_say c from joined s os (record { each = λ i x is. h.each (suc i) x is }))

-- the mappings that the end holds
module _ (c : Profile) (window : ℕ) (acks : List AckCopy) (p : Lane) where
  abbrev Held : List KeptMapping → Type 0
  Held kept = Every (HeldShows c p.sent p.datas) kept

  if_held : (s : Side) (place position len : ℕ) (checksum : Option ℕ) → HasMapping p.datas place position len → IsSummed c (peer s) p.sent place position len (checksum_heard checksum) → Held (held_if c s place position len false checksum)
  if_held s place position len checksum h u =
      if_so Held (is_mapping place position len) (kept_of c s place position len false (checksum_heard checksum) ∷ []) []
      (every_cons _ [] (h, refl, record { within = u.within; right = λ uses. sym (u.right uses) }) (Every-nil _)) (Every-nil _)

  map_holds : (s : Side) (o : Option (PathMapping ℕ)) → MappingShows c (peer s) o p → Held (map_held c s (option_map meant_mapping o))
  map_holds s (Some (Bytes place position len true checksum)) h = absurd h
  map_holds s (Some (Bytes place position len false checksum)) h = if_held s place position len checksum h.0 h.1
  map_holds s _ h = Every-nil _

  keys_hold : (s : Side) (keys : CapableKeys) → KeysShow c (peer s) keys p → Held (key_held c s keys)
  keys_hold A NoKey h = Every-nil _
  keys_hold A (Sender sender) h = Every-nil _
  keys_hold A (Both sender receiver) h = Every-nil _
  keys_hold A (WithData sender receiver len checksum) h = Every-nil _
  keys_hold B NoKey h = Every-nil _
  keys_hold B (Sender sender) h = Every-nil _
  keys_hold B (Both sender receiver) h = Every-nil _
  keys_hold B (WithData sender receiver len checksum) h = (elim (nat_lt 0 len) as (λ b. Held (held_if c B 0 1 len false checksum) → Held (if b then held_if c B 0 1 len false checksum else []))
      [ true ↦ λ holds. holds | false ↦ λ holds. Every-nil _ ]) (if_held B 0 1 len checksum h.0 h.1)

  option_holds : (s : Side) (o : PlainOption) → OptionShows c (peer s) window acks p o → Held (held_in c s (meant_option o))
  option_holds s (Capable flag_a flag_c keys) h = if_so Held (is_joined c) [] (key_held c s keys) (Every-nil _) (keys_hold s keys h)
  option_holds s (Dss next mapping) h = map_holds s mapping h.1
  option_holds s _ h = Every-nil _

  pub options_hold : (s : Side) (os : List PlainOption) → Every (OptionShows c (peer s) window acks p) os → Held (flat_map (held_in c s) (map meant_option os))
  options_hold s [] h = Every-nil _
  options_hold s (o ∷ os) h = Every-append (option_holds s o (h.each 0 o refl)) (options_hold s os (record { each = λ i x is. h.each (suc i) x is }))

-- ---- the subflow

-- both halves of a subflow
pub record Halves (c : Profile) (s : Side) (k : Knowledge) (live : List KeptMapping) (out back : Lane) (tcp : EndState) : Type 0 where
  pub sender : SenderShows c s tcp.state tcp.send k out
  pub receiver : ReceiverShows tcp.recv tcp.fin_at live k.identity back

module _ (c : Profile) (s : Side) (k : Knowledge) (live : List KeptMapping) (out back : Lane) where
  abbrev Halved : EndState → Type 0
  Halved tcp = Halves c s k live out back tcp

  acknowledged_both : (pos now : ℕ) (tcp : EndState) → Halved tcp → Halved (taking.after_acknowledgement pos now tcp)
  acknowledged_both pos now tcp h = by (ack_kind pos tcp.send)
    where
      v : SenderShows c s tcp.state (after_acknowledge pos tcp.send) k out
      v = acknowledged_shows c s k out pos tcp.state tcp.send h.sender

      by : (kind : AckKind) → Halved (taking.after_ack_kind kind (sample_of pos tcp.send) now (record tcp { send = after_acknowledge pos tcp.send }))
      by (AckKind.New octets) = record { sender = new (taking.is_fin_acked (after_acknowledge pos tcp.send)); receiver = h.receiver }
        where
          new : (b : Bool) → SenderShows c s (if b then states.after_fin_acked tcp.state else tcp.state) (after_acknowledge pos tcp.send) k out
          new true = state_shows c s k out tcp.state _ _ (fin_acked_back tcp.state) v
          new false = v
      by AckKind.Duplicate = record { sender = v; receiver = h.receiver }
      by AckKind.Old = record { sender = v; receiver = h.receiver }
      by AckKind.Future = record { sender = v; receiver = h.receiver }

  row_both : (kind : AckKind) (told : Told) (copy : Copy) (tcp : EndState) → Halved tcp → Halved (taking.after_row kind told copy tcp)
  row_both kind told copy tcp h =
      if_so Halved (taking.is_duplicate kind told copy tcp) (taking.after_duplicate tcp) (taking.after_interruption tcp)
      (record { sender = h.sender; receiver = h.receiver }) (record { sender = h.sender; receiver = h.receiver })

  -- the FIN of a copy is one of the lane
  payload_both : (pos : ℕ) (hint : Hint) (copy : Copy) (tcp : EndState) → hint.keep ≡ false → (copy.fin ≡ true → HasFin back.fins (pos + length copy.payload)) → Halved tcp
      → Halved (taking.after_payload pos hint copy tcp)
  payload_both pos hint copy tcp keep fin h = record {
    sender = h.sender;
    receiver = subst (λ recv. ReceiverShows recv (taking.first_fin tcp.fin_at copy.fin (pos + length copy.payload)) live k.identity back)
        (sym (ap (λ (b : Bool). if taking.is_kept b tcp then after_accept pos copy.payload tcp.recv else tcp.recv) keep))
        (with_fin tcp.fin_at copy.fin fin h.receiver);
  }
    where
      with_fin : (fin_at : Option ℕ) (b : Bool) → (b ≡ true → HasFin back.fins (pos + length copy.payload)) → ReceiverShows tcp.recv fin_at live k.identity back
          → ReceiverShows tcp.recv (taking.first_fin fin_at b (pos + length copy.payload)) live k.identity back
      with_fin (Some at) b has r = r
      with_fin None false has r = r
      with_fin None true has r = record {
        same_mode = r.same_mode;
        edge = ⊎_elim (λ at. inl at) (λ past. (let never : None ≡ Some (suc back.edge) = past.at_is in cc)) r.edge;
        fin = has refl;
        mapped = r.mapped;
      }

  -- each meaning
  pub taken_both : (pos acknowledged : ℕ) (hint : Hint) (now : ℕ) (copy : Copy) (tcp : EndState) → hint.keep ≡ false → (copy.fin ≡ true → HasFin back.fins (pos + length copy.payload)) → Halved tcp
      → Halved (taking.after_taken pos acknowledged hint now copy tcp)
  taken_both pos acknowledged hint now copy tcp keep fin h =
      let p = payload_both pos hint copy tcp keep fin h in
      let t : EndState = taking.after_hearing (taking.after_payload pos hint copy tcp) in
      let e : Halved (taking.after_established t) = record { sender = state_shows c s k out tcp.state (states.after_handshake tcp.state) tcp.send (handshake_back tcp.state) p.sender; receiver = p.receiver } in
      let a = acknowledged_both acknowledged now (taking.after_established t) e in
      let r = row_both (ack_kind acknowledged (taking.after_established t).send) (taking.told_by hint copy) copy (taking.after_acknowledgement acknowledged now (taking.after_established t)) a in
      record { sender = r.sender; receiver = r.receiver }

  pub syn_both : (hint : Hint) (copy : Copy) (tcp : EndState) → hint.keep ≡ false → copy.fin ≡ false → (is_unfinished tcp.state ≡ true) → Halved tcp → Halved (taking.after_syn hint copy tcp)
  syn_both hint copy tcp keep fin un h =
      let p = payload_both 1 hint copy tcp keep (λ is. absurd (both_ways copy.fin fin is)) h in
      record { sender = state_shows c s k out tcp.state State.SynReceived tcp.send (λ x. un) p.sender; receiver = p.receiver }

  pub syn_ack_both : (acknowledged : ℕ) (hint : Hint) (now : ℕ) (copy : Copy) (tcp : EndState) → hint.keep ≡ false → copy.fin ≡ false → (is_unfinished tcp.state ≡ true) → Halved tcp
      → Halved (taking.after_syn_ack acknowledged hint now copy tcp)
  syn_ack_both acknowledged hint now copy tcp keep fin un h =
      let p = payload_both 1 hint copy tcp keep (λ is. absurd (both_ways copy.fin fin is)) h in
      let t : EndState = record (taking.after_hearing (taking.after_payload 1 hint copy tcp)) { state = State.Established } in
      let e : Halved t = record { sender = state_shows c s k out tcp.state State.Established tcp.send (λ x. un) p.sender; receiver = p.receiver } in
      let a = acknowledged_both acknowledged now t e in
      record { sender = a.sender; receiver = a.receiver }
