-- The keys and nonces that an end keeps, hears and shows are those that were drawn.
use Rattle.world_laws.proofs.Words.{◌≡◌, refl, sym, ◌∙◌, ap, subst, ℕ, suc, ◌-◌, ◌&&◌, ◌||◌, not, nat_lt, nat_le, Bool, true, false, if◌then◌else◌, Option}
use Rattle.world_laws.proofs.Words.{Some, None, List, [], ◌∷◌, map, is_some, ◌^◌, unwrap_or, flat_map, IfSome, Address, token_of, join_a160_of, join_b64_of}
use Rattle.world_laws.proofs.Words.{Side, A, B, peer, JoinForm, Answer, Third, CapableKeys, NoKey, Sender, Both, WithData, octets_in, Record, RecordKind, Syn}
use Rattle.world_laws.proofs.Words.{Data, Fin, is_closed_to_segments, EndPhase, PlainOption, PlainSegment, Capable, Join, Dss, AddAddr, Remove, Prio, Fail}
use Rattle.world_laws.proofs.Words.{Reset, meant, meant_option, meant_mapping, PathMapping, Bytes, Infinite, InfiniteMapping, OwnNotice, Heard, PeerNotice}
use Rattle.world_laws.proofs.Words.{PathEnd, items_in, items_of, options_heard, is_joined, join_options, third_options, peer_key_of, join_items, ack_items}
use Rattle.world_laws.proofs.Words.{is_mapping, mapping_items, map_items, first_items, data_fin_items, infinite_items, key_items, address_items}
use Rattle.world_laws.proofs.Words.{receives_infinite, owes_mapping, plain_options, data_fin_mapping, piece_mapping, is_first_piece, first_piece_options}
use Rattle.world_laws.proofs.Words.{piece_options, fin_options, fail_options, fail_beside, infinite_or, mapped_options, capable_options, syn_options}
use Rattle.world_laws.proofs.Words.{key_options, opening_options, ack_options, record_options, reset_options, ack_said, carried_said, syn_ack_said, reset_said}
use Rattle.world_laws.proofs.Words.{record_or_ack, broken_options, noted_said, Profile, Modes, Every-push, Every-nil, Every-append, Every, if_so}
use Rattle.std.specs.Option.{option_map}
use Rattle.key_material.specs.AddressHmac.{add_addr64_of}
use Rattle.key_material.specs.declared.address.Address.TheVariants.{V4}
use Rattle.mptcp_options.specs.declared.join.JoinForm.TheVariants.{Syn as JoinSyn}
use Rattle.path_segments.specs.declared.segment.PathMapping.TheVariants.{End}
use Rattle.path_segments.specs.declared.segment.PathOption.TheVariants.{FastClose}
use Rattle.world_laws.proofs.Announcements.NothingKnown.{removed_each}
use Rattle.path_core.specs.OptionsOut.{announcement}

every_one : {X : Type 0} {P : X → Type 0} (x : X) → P x → Every P (x ∷ [])
every_one {X} {P} x h = Every-push {xs = []} x (Every-nil P) h

every_two : {X : Type 0} {P : X → Type 0} (x y : X) → P x → P y → Every P (x ∷ y ∷ [])
every_two {X} {P} x y h g = Every-push {xs = x ∷ []} y (every_one x h) g

-- what is drawn for both ends of a path
pub record Secrets : Type 0 where
  pub key_a : ℕ
  pub key_b : ℕ
  pub nonce_a : ℕ
  pub nonce_b : ℕ

-- what an end knows of the secrets
pub record Known : Type 0 where
  pub own_key : ℕ
  pub peer_key : Option ℕ
  pub own_nonce : ℕ
  pub peer_nonce : ℕ
  pub owes_third : Bool
  pub clear : Bool
  pub identity : Bool

abbrev pub known_in : Modes → Known
known_in m = record { own_key = m.own_key; peer_key = m.peer_key; own_nonce = m.own_nonce; peer_nonce = m.peer_nonce; owes_third = m.owes_third; clear = m.clear; identity = m.identity }

-- what a side did: it fell back to plain TCP; its application asked for a fast close; it was stopped by the peer's; its control book
-- learned the peer's key
pub data Deed : Type 0 where
  Fell : Deed
  Closed : Deed
  Stopped : Deed
  Keyed : Deed

-- what was said to an end, the fast close that it carries, what it has to note, and the mapping whose failed check broke its path
pub record Told : Type 0 where
  pub items : List Heard
  pub carrier : Option ℕ
  pub queue : List OwnNotice
  pub failed : Option ℕ

abbrev pub told_in : PathEnd → Told
told_in e = record { items = e.treated.items; carrier = e.notices.carrier; queue = e.notices.queue; failed = e.treated.failed_mapping }

-- an end began, and maybe died since; or its timer runs
abbrev pub is_woken : PathEnd → Bool
is_woken e = not (is_closed_to_segments e.tcp.state) || is_some e.tcp.timing.timer

-- the peer's SYN came, and it isn't dead
abbrev pub is_past : EndPhase → Bool
is_past EndPhase.Waiting = false
is_past EndPhase.Listen = false
is_past EndPhase.SynSent = false
is_past EndPhase.Dead = false
is_past _ = true

-- what is said of B's side alone
abbrev pub OfB : Side → Type 0 → Type 0
OfB A P = Unit {0}
OfB B P = P

pub of_b : (s : Side) (P : Type 0) → P → OfB s P
of_b A P is = tt
of_b B P is = is

map_b : (s : Side) (P Q : Type 0) → (P → Q) → OfB s P → OfB s Q
map_b A P Q more is = tt
map_b B P Q more is = more is

at_b : (s : Side) (P : Type 0) → s ≡ B → OfB s P → P
at_b A P same is = cc
at_b B P same is = is

pub twice : (s : Side) → peer (peer s) ≡ s
twice = elim [ A ↦ refl | B ↦ refl ]

-- the forms that an end of this side hears
abbrev pub IsFor : Side → JoinForm → Type 0
IsFor A (Answer backup id hmac nonce) = Unit {0}
IsFor A (JoinSyn backup id token nonce) = ⊥
IsFor A (Third hmac) = ⊥
IsFor B (Answer backup id hmac nonce) = ⊥
IsFor B (JoinSyn backup id token nonce) = Unit {0}
IsFor B (Third hmac) = Unit {0}

-- What is drawn, and whether each join began with the peer's key.
module _ (k : Secrets) (right : Bool) where
  -- the key that was drawn for a side
  abbrev pub drawn_key : Side → ℕ
  drawn_key A = k.key_a
  drawn_key B = k.key_b

  abbrev pub drawn_nonce : Side → ℕ
  drawn_nonce A = k.nonce_a
  drawn_nonce B = k.nonce_b

  -- the peer's keys are right at path 0, and at the others where each join began with the right one
  abbrev pub sure_if : Bool → Bool
  sure_if joined = if joined then right else true

  abbrev pub is_sure_on : Profile → Bool
  is_sure_on c = sure_if (is_joined c)

  -- ---- in options, of a segment of this side

  abbrev pub KeysAre : Side → CapableKeys → Type 0
  KeysAre s NoKey = Unit {0}
  KeysAre s (Sender sender) = sender ≡ drawn_key s
  KeysAre s (Both sender receiver) = (sender ≡ drawn_key s) × (receiver ≡ drawn_key (peer s))
  KeysAre s (WithData sender receiver len checksum) = (sender ≡ drawn_key s) × (receiver ≡ drawn_key (peer s))

  -- the token is that of the peer's key, each nonce that of its side, and the HMACs are those of both keys and nonces
  abbrev pub JoinIs : Side → JoinForm → Type 0
  JoinIs s (JoinSyn backup id token nonce) = (token ≡ token_of (drawn_key (peer s))) × (nonce ≡ drawn_nonce s)
  JoinIs s (Answer backup id hmac nonce) =
      (hmac ≡ join_b64_of (drawn_key (peer s)) (drawn_key s) (drawn_nonce (peer s)) (drawn_nonce s)) × (nonce ≡ drawn_nonce s)
  JoinIs s (Third hmac) = hmac ≡ join_a160_of (drawn_key s) (drawn_key (peer s)) (drawn_nonce s) (drawn_nonce (peer s))

  -- ---- an end

  -- an end has the peer's key; and both the peer's key and its nonce
  abbrev pub HasKey : Side → Modes → Type 0
  HasKey s m = m.peer_key ≡ Some (drawn_key (peer s))

  abbrev pub HasMet : Side → Modes → Type 0
  HasMet s m = HasKey s m × (m.peer_nonce ≡ drawn_nonce (peer s))

  -- what it has to know for its SYN, where each join began with the right key
  abbrev pub Needs : Side → Modes → Type 0
  Needs A m = HasKey A m
  Needs B m = HasMet B m

  pub met_needs : (s : Side) (m : Modes) → HasMet s m → Needs s m
  met_needs = elim [ A ↦ λ m h. h.0 | B ↦ λ m h. h ]

  pub same_needs : (s : Side) (m n : Modes) → known_in n ≡ known_in m → Needs s m → Needs s n
  same_needs A m n same h = ap (λ (x : Known). x.peer_key) same ∙ h
  same_needs B m n same h = (ap (λ (x : Known). x.peer_key) same ∙ h.0, ap (λ (x : Known). x.peer_nonce) same ∙ h.1)

  pub needs_key : (s : Side) (m : Modes) → Needs s m → HasKey s m
  needs_key = elim [ A ↦ λ m h. h | B ↦ λ m h. h.0 ]

-- And that the control book of a side began a join, or answered one; and what else the side did.
module _ (k : Secrets) (right : Bool) (w : Side → Type 0) (did : Deed → Side → Type 0) where
  -- A alone shows both keys of path 0, once it has them; the peer's end hears them.
  abbrev pub ShownBy : Side → CapableKeys → Type 0
  ShownBy s NoKey = Unit {0}
  ShownBy s (Sender sender) = Unit {0}
  ShownBy s (Both sender receiver) = did Deed.Keyed s
  ShownBy s (WithData sender receiver len checksum) = did Deed.Keyed s

  -- the HMAC of an address that a side announces is that of both keys; and the other side's book has the key then
  abbrev pub HmacIs : Side → Side → ℕ → Address → ℕ → ℕ → Type 0
  HmacIs s t id address port hmac =
      (right ≡ true → hmac ≡ add_addr64_of (drawn_key k right s) (drawn_key k right t) id address port) × did Deed.Keyed t

  abbrev pub AddressIs : Side → Bool → ℕ → Address → Option ℕ → Option ℕ → Type 0
  AddressIs s false id address port (Some hmac) = HmacIs s (peer s) id address (unwrap_or port 0) hmac
  AddressIs s false id address port None = Unit {0}
  AddressIs s true id address port hmac = Unit {0}

  -- An MP_JOIN is said on a path that joins alone, by a side that joined; and there B says a DSS, and MP_FAIL, once it answered.
  -- MP_FASTCLOSE is said by a side whose application asked for it.
  abbrev pub OptionIs : Bool → Side → PlainOption → Type 0
  OptionIs joined s (Capable flag_a flag_c keys) = (sure_if k right joined ≡ true → KeysAre k right s keys) × (joined ≡ false → ShownBy s keys)
  OptionIs joined s (Join form) = (joined ≡ true) × (w s × (right ≡ true → JoinIs k right s form))
  OptionIs joined s (Dss next mapping) = joined ≡ true → OfB s (w B)
  OptionIs joined s (Fail place) = joined ≡ true → OfB s (w B)
  OptionIs joined s (FastClose key) = did Deed.Closed s
  OptionIs joined s (AddAddr echo id address port hmac) = AddressIs s echo id address port hmac
  OptionIs joined s _ = Unit {0}

  abbrev pub SegmentIs : Profile → Side → PlainSegment → Type 0
  SegmentIs c s sg = Every (OptionIs (is_joined c) s) sg.options

  -- ---- what was heard by an end of this side

  -- B alone is told both keys, which A shows once it has them
  abbrev pub KeysFor : Side → Type 0
  KeysFor A = ⊥
  KeysFor B = did Deed.Keyed A

  abbrev pub PeerNoteIs : Side → PeerNotice → Type 0
  PeerNoteIs s (PeerNotice.AddAddr id address port hmac) = HmacIs (peer s) s id address (unwrap_or port 0) hmac
  PeerNoteIs s _ = Unit {0}

  abbrev pub ItemIs : Bool → Side → Heard → Type 0
  ItemIs joined s (Heard.Keys own other) = (joined ≡ false) × ((own ≡ drawn_key k right s) × (other ≡ drawn_key k right (peer s)) × KeysFor s)
  ItemIs joined s (Heard.PeerKey key) = key ≡ drawn_key k right (peer s)
  ItemIs joined s (Heard.Join form) = (joined ≡ true) × (IsFor s form × (w (peer s) × (right ≡ true → JoinIs k right (peer s) form)))
  ItemIs joined s Heard.Dss = joined ≡ true → OfB (peer s) (w B)
  ItemIs joined s Heard.Fail = joined ≡ true → OfB (peer s) (w B)
  ItemIs joined s (Heard.FastClose key) = did Deed.Closed (peer s)
  ItemIs joined s (Heard.Notice notice) = PeerNoteIs s notice
  ItemIs joined s _ = Unit {0}

  -- ---- an end

  -- its side joined, and it knows that
  abbrev pub Knows : Side → Modes → Type 0
  Knows s m = w s × (right ≡ true → Needs k right s m)

  -- B alone announces addresses, and A's book has its key then
  abbrev pub NoteIs : Side → OwnNotice → Type 0
  NoteIs s (OwnNotice.AddAddr id) = (s ≡ B) × did Deed.Keyed (peer s)
  NoteIs s _ = Unit {0}

  pub record ModesAre (joined : Bool) (s : Side) (m : Modes) : Type 0 where
    pub own : m.own_key ≡ drawn_key k right s
    pub nonce : m.own_nonce ≡ drawn_nonce k right s
    pub peer_is : sure_if k right joined ≡ true → IfSome m.peer_key (λ key. key ≡ drawn_key k right (peer s))
    pub joins : m.owes_third ≡ true → joined ≡ true
    pub third : m.owes_third ≡ true → w s × (right ≡ true → HasMet k right s m)
    pub cleared : joined ≡ true → m.clear ≡ true → w B
    pub fell : m.identity ≡ true → (joined ≡ false) × did Deed.Fell s
    -- on path 0 an end has the peer's key once its book does; and B's end has it where it may send a DSS
    pub keyed : joined ≡ false → IfSome m.peer_key (λ key. did Deed.Keyed s)
    pub meets : right ≡ true → m.clear ≡ true → OfB s (HasKey k right s m)

  pub record EndIs (joined : Bool) (s : Side) (e : PathEnd) : Type 0 where
    pub modes : ModesAre joined s e.modes
    pub items : Every (ItemIs joined s) e.treated.items
    pub woken : joined ≡ true → is_woken e ≡ true → Knows s e.modes
    pub past : joined ≡ true → is_past e.tcp.state ≡ true → w B
    pub carries : IfSome e.notices.carrier (λ key. did Deed.Closed s)
    pub queued : Every (NoteIs s) e.notices.queue
    -- a check that failed broke its path
    pub failing : joined ≡ true → IfSome e.treated.failed_mapping (λ place. OfB s (w B))

  -- B's side joined where its end knows what it has to
  pub knows_b : (s : Side) (m : Modes) → Knows s m → OfB s (w B)
  knows_b = elim [ A ↦ λ m has. tt | B ↦ λ m has. has.0 ]

  pub same_knows : (s : Side) (m n : Modes) → known_in n ≡ known_in m → Knows s m → Knows s n
  same_knows s m n same h = (h.0, λ sure. same_needs k right s m n same (h.1 sure))

  pub same_modes : (joined : Bool) (s : Side) (m n : Modes) → known_in n ≡ known_in m → ModesAre joined s m → ModesAre joined s n
  same_modes joined s m n same h = record {
    own = ap (λ (x : Known). x.own_key) same ∙ h.own;
    nonce = ap (λ (x : Known). x.own_nonce) same ∙ h.nonce;
    peer_is = λ sure. subst (λ o. IfSome o (λ key. key ≡ drawn_key k right (peer s))) (sym (ap (λ (x : Known). x.peer_key) same)) (h.peer_is sure);
    joins = λ owes. h.joins (sym (ap (λ (x : Known). x.owes_third) same) ∙ owes);
    third = λ owes. let knows = h.third (sym (ap (λ (x : Known). x.owes_third) same) ∙ owes) in
        (knows.0, λ sure. let met = knows.1 sure in (ap (λ (x : Known). x.peer_key) same ∙ met.0, ap (λ (x : Known). x.peer_nonce) same ∙ met.1));
    cleared = λ joins is. h.cleared joins (sym (ap (λ (x : Known). x.clear) same) ∙ is);
    fell = λ is. h.fell (sym (ap (λ (x : Known). x.identity) same) ∙ is);
    keyed = λ first. subst (λ o. IfSome o (λ key. did Deed.Keyed s)) (sym (ap (λ (x : Known). x.peer_key) same)) (h.keyed first);
    meets = λ sure is. map_b s _ _ (λ has. ap (λ (x : Known). x.peer_key) same ∙ has) (h.meets sure (sym (ap (λ (x : Known). x.clear) same) ∙ is));
  }

  -- an end that knows the same, to which the same was said, and which didn't wake
  pub same_end : (joined : Bool) (s : Side) (e f : PathEnd) → known_in f.modes ≡ known_in e.modes → told_in f ≡ told_in e
      → (is_woken f ≡ true → is_woken e ≡ true) → (is_past f.tcp.state ≡ true → is_past e.tcp.state ≡ true) → EndIs joined s e → EndIs joined s f
  same_end joined s e f same told awake past h = record {
    modes = same_modes joined s e.modes f.modes same h.modes;
    items = subst (Every (ItemIs joined s)) (sym (ap (λ x. x.items) told)) h.items;
    woken = λ is woken. same_knows s e.modes f.modes same (h.woken is (awake woken));
    past = λ is so. h.past is (past so);
    carries = subst (λ o. IfSome o (λ key. did Deed.Closed s)) (sym (ap (λ x. x.carrier) told)) h.carries;
    queued = subst (Every (NoteIs s)) (sym (ap (λ x. x.queue) told)) h.queued;
    failing = λ joins. subst (λ o. IfSome o (λ place. OfB s (w B))) (sym (ap (λ x. x.failed) told)) (h.failing joins);
  }

  -- ---- what it sends

  module _ (c : Profile) (s : Side) (e : PathEnd) (h : EndIs (is_joined c) s e) where
    keys_say : (s : Side) (o : Option ℕ) → e.modes.own_key ≡ drawn_key k right s → (is_sure_on k right c ≡ true → IfSome o (λ key. key ≡ drawn_key k right (peer s)))
        → (is_joined c ≡ false → IfSome o (λ key. did Deed.Keyed s)) → Every (OptionIs (is_joined c) s) (key_options c s o e)
    keys_say A (Some key) own is keyed = every_one _ (λ sure. (own, is sure), keyed)
    keys_say A None own is keyed = Every-nil _
    keys_say B o own is keyed = Every-nil _

    third_is : is_joined c ≡ true → w s × (right ≡ true → HasMet k right s e.modes) → Every (OptionIs (is_joined c) s) (third_options e.modes)
    third_is joins knows = every_one _ (
      joins,
      (
        knows.0,
        λ sure.
            let both = knows.1 sure in
            ap (λ n. join_a160_of n (peer_key_of e.modes) e.modes.own_nonce e.modes.peer_nonce) h.modes.own
            ∙ ap (λ o. join_a160_of (drawn_key k right s) (unwrap_or o 0) e.modes.own_nonce e.modes.peer_nonce) both.0
            ∙ ap (λ n. join_a160_of (drawn_key k right s) (drawn_key k right (peer s)) n e.modes.peer_nonce) h.modes.nonce
            ∙ ap (λ n. join_a160_of (drawn_key k right s) (drawn_key k right (peer s)) (drawn_nonce k right s) n) both.1,
      ),
    )

    opening_is : Every (OptionIs (is_joined c) s) (opening_options c s e)
    opening_is = (elim e.modes.owes_third as (λ b. e.modes.owes_third ≡ b → Every (OptionIs (is_joined c) s) (if b then third_options e.modes else key_options c s e.modes.peer_key e))
        [ true ↦ λ owes. third_is (h.modes.joins owes) (h.modes.third owes) | false ↦ λ owes. keys_say s e.modes.peer_key h.modes.own h.modes.peer_is h.modes.keyed ]) refl

    fail_are : (o : Option ℕ) → (is_joined c ≡ true → OfB s (w B)) → Every (OptionIs (is_joined c) s) (fail_options o)
    fail_are = elim [ None ↦ λ knows. Every-nil _ | Some place ↦ λ knows. every_one _ knows ]

    beside_are : (fin : Option ℕ) → (is_joined c ≡ true → OfB s (w B)) → Every (OptionIs (is_joined c) s) (fail_beside fin e.modes)
    beside_are (Some fin) knows = Every-nil _
    beside_are None knows = fail_are (if receives_infinite e.modes.mode then None else e.modes.failed_mapping) knows

    ack_options_are : (fin : Option ℕ) → Every (OptionIs (is_joined c) s) (ack_options c s fin e)
    ack_options_are fin = by e.modes.identity e.modes.clear refl
      where
        knows : e.modes.clear ≡ true → is_joined c ≡ true → OfB s (w B)
        knows is joins = of_b s (w B) (h.modes.cleared joins is)

        by : (fell b : Bool) → e.modes.clear ≡ b
            → Every (OptionIs (is_joined c) s) (if fell then [] else (if b then Dss (Some e.receiving.next) (data_fin_mapping c s fin) ∷ fail_beside fin e.modes else opening_options c s e))
        by true b is = Every-nil _
        by false true is = Every-append {xs = Dss (Some e.receiving.next) (data_fin_mapping c s fin) ∷ []} (every_one _ (knows is)) (beside_are fin (knows is))
        by false false is = opening_is

    first_are : (o : Option ℕ) (r : Record) → (is_sure_on k right c ≡ true → IfSome o (λ key. key ≡ drawn_key k right (peer s)))
        → (is_joined c ≡ false → IfSome o (λ key. did Deed.Keyed s)) → Every (OptionIs (is_joined c) s) (first_piece_options c o r e)
    first_are (Some key) r is keyed = every_one _ (λ sure. (h.modes.own, is sure), keyed)
    first_are None r is keyed = Every-nil _

    pub reset_options_are : (reason : Option ℕ) → Every (OptionIs (is_joined c) s) (reset_options reason)
    reset_options_are = elim [ None ↦ Every-nil _ | Some reason ↦ every_one _ tt ]

    broken_are : (failed reason : Option ℕ) → (is_joined c ≡ true → IfSome failed (λ place. OfB s (w B))) → Every (OptionIs (is_joined c) s) (broken_options failed reason)
    broken_are failed None knows = Every-nil _
    broken_are None (Some reason) knows = reset_options_are (Some reason)
    broken_are (Some place) (Some reason) knows = every_two _ _ knows tt

    pub reset_is : (reason : Option ℕ) → SegmentIs c s (reset_said c reason e)
    reset_is reason =
        if_so (Every (OptionIs (is_joined c) s)) e.modes.identity [] (broken_options e.treated.failed_mapping reason)
        (Every-nil _) (broken_are e.treated.failed_mapping reason h.failing)

    pub ack_is : (position : ℕ) (fin : Option ℕ) → SegmentIs c s (ack_said c s position fin e)
    ack_is position fin = ack_options_are fin

    pub carried_is : (is_joined c ≡ true → OfB s (w B)) → (o : Option ℕ) → IfSome o (λ key. did Deed.Closed s) → SegmentIs c s (carried_said c s o e)
    carried_is knows (Some key) closed = every_two _ _ knows closed
    carried_is knows None closed = ack_options_are None

    -- an announcement, where the end may send a DSS
    announced : (id : ℕ) → e.modes.clear ≡ true → (s ≡ B) × did Deed.Keyed (peer s) → OptionIs (is_joined c) s (announcement id e.modes)
    announced id clear is = (
      λ sure.
          let address = V4 (10 ∷ 0 ∷ id ∷ 2 ∷ []) in
          let has : HasKey k right s e.modes = at_b s _ is.0 (h.modes.meets sure clear) in
          ap (λ n. add_addr64_of n (peer_key_of e.modes) id address 0) h.modes.own
          ∙ ap (λ o. add_addr64_of (drawn_key k right s) (unwrap_or o 0) id address 0) has,
      is.1,
    )

    pub noted_is : (is_joined c ≡ true → OfB s (w B)) → e.modes.clear ≡ true → (o : Option OwnNotice) → IfSome o (NoteIs s) → SegmentIs c s (noted_said c s o e)
    noted_is knows clear (Some (OwnNotice.AddAddr id)) is = every_two _ _ knows (announced id clear is)
    noted_is knows clear None is = ack_options_are None
    noted_is knows clear _ is = every_two _ _ knows tt

    -- where it knows what it has to, its SYN is right, and so is its DSS
    module _ (knows : is_joined c ≡ true → Knows s e.modes) where
      pub dss_known : is_joined c ≡ true → OfB s (w B)
      dss_known joins = knows_b s e.modes (knows joins)

      plain_are : (position : ℕ) → Every (OptionIs (is_joined c) s) (plain_options position e)
      plain_are position =
          if_so (Every (OptionIs (is_joined c) s)) (owes_mapping e) (Dss None (Some (Infinite (position - 1) position)) ∷ []) []
          (every_one _ dss_known) (Every-nil _)

      -- with its own infinite mapping, or as it is else
      infinite_or_are : (o : Option InfiniteMapping) (options : List PlainOption) → Every (OptionIs (is_joined c) s) options → Every (OptionIs (is_joined c) s) (infinite_or o options e)
      infinite_or_are = elim [ None ↦ λ options each. each | Some mapping ↦ λ options each. every_one _ dss_known ]

      mapped_are : (r : Record) → Every (OptionIs (is_joined c) s) (mapped_options c s r e)
      mapped_are r =
          if_so (Every (OptionIs (is_joined c) s)) (is_first_piece s r e) (first_piece_options c e.modes.peer_key r e) (Dss (Some e.receiving.next) (Some (piece_mapping c s r)) ∷ [])
          (first_are e.modes.peer_key r h.modes.peer_is h.modes.keyed) (every_one _ dss_known)

      piece_options_are : (r : Record) → Every (OptionIs (is_joined c) s) (piece_options c s r e)
      piece_options_are r =
          if_so (Every (OptionIs (is_joined c) s)) e.modes.identity (plain_options r.pos e) (infinite_or e.modes.own_infinite (mapped_options c s r e) e)
          (plain_are r.pos) (infinite_or_are e.modes.own_infinite (mapped_options c s r e) (mapped_are r))

      pub fin_options_are : (position : ℕ) → Every (OptionIs (is_joined c) s) (fin_options position e)
      fin_options_are position =
          if_so (Every (OptionIs (is_joined c) s)) e.modes.identity (plain_options position e) (infinite_or e.modes.own_infinite (Dss (Some e.receiving.next) None ∷ []) e)
          (plain_are position) (infinite_or_are e.modes.own_infinite (Dss (Some e.receiving.next) None ∷ []) (every_one _ dss_known))

      capable_is : (s : Side) → e.modes.own_key ≡ drawn_key k right s → Every (OptionIs false s) (capable_options c s e)
      capable_is A own = every_one _ (λ is. tt, λ is. tt)
      capable_is B own =
          if_so (Every (OptionIs false B)) (e.modes.capable_asked && not e.modes.identity) (Capable c.spelling.checksums false (Sender e.modes.own_key) ∷ []) []
          (every_one _ (λ is. own, λ is. tt)) (Every-nil _)

      join_is : (s : Side) → e.modes.own_key ≡ drawn_key k right s → e.modes.own_nonce ≡ drawn_nonce k right s → Knows s e.modes → Every (OptionIs true s) (join_options c s e.modes)
      join_is A own nonce has = every_one _ (refl, (has.0, λ is. (ap (λ o. token_of (unwrap_or o 0)) (has.1 is), nonce)))
      join_is B own nonce has = every_one _ (
        refl,
        (
          has.0,
          λ is. let both = has.1 is in (
            ap (λ n. join_b64_of (peer_key_of e.modes) n e.modes.peer_nonce e.modes.own_nonce) own
                ∙ ap (λ o. join_b64_of (unwrap_or o 0) k.key_b e.modes.peer_nonce e.modes.own_nonce) both.0
                ∙ ap (λ n. join_b64_of k.key_a k.key_b n e.modes.own_nonce) both.1
                ∙ ap (λ n. join_b64_of k.key_a k.key_b k.nonce_a n) nonce,
            nonce,
          ),
        ),
      )

      syn_options_are : Every (OptionIs (is_joined c) s) (syn_options c s e)
      syn_options_are = (elim (is_joined c) as (λ b. (b ≡ true → Knows s e.modes) → Every (OptionIs b s) (if b then join_options c s e.modes else capable_options c s e))
          [ true ↦ λ has. join_is s h.modes.own h.modes.nonce (has refl) | false ↦ λ has. capable_is s h.modes.own ]) knows

      record_options_are : (kind : RecordKind) (r : Record) → Every (OptionIs (is_joined c) s) (record_options kind c s r e)
      record_options_are Syn r = syn_options_are
      record_options_are Data r = piece_options_are r
      record_options_are Fin r = fin_options_are r.pos

      pub syn_ack_is : SegmentIs c s (syn_ack_said c s e)
      syn_ack_is = syn_options_are

      pub record_or_ack_is : (o : Option Record) → SegmentIs c s (record_or_ack c s o e)
      record_or_ack_is = elim [ None ↦ ack_options_are None | Some r ↦ record_options_are r.kind r ]

  -- ---- what a copy says, which the peer sent

  module _ (joined : Bool) where
    ack_items_are : (s : Side) (next : Option (Option ℕ)) (window : ℕ) → Every (ItemIs joined s) (ack_items next window)
    ack_items_are s None window = Every-nil _
    ack_items_are s (Some None) window = Every-nil _
    ack_items_are s (Some (Some next)) window = if_so (Every (ItemIs joined s)) (nat_lt next (2 ^ 62)) (Heard.DataAck next window ∷ []) [] (every_one _ tt) (Every-nil _)

    mapping_items_are : (s : Side) (place position count : ℕ) (fin : Bool) → Every (ItemIs joined s) (mapping_items place position count fin)
    mapping_items_are s place position count fin =
        if_so (Every (ItemIs joined s)) (is_mapping place position count) (Heard.Mapping fin ∷ []) []
        (every_one _ tt) (Every-nil _)

    end_items_are : (s : Side) (place : ℕ) → Every (ItemIs joined s) (data_fin_items place)
    end_items_are s place = if_so (Every (ItemIs joined s)) (nat_le place (2 ^ 62)) (Heard.DataFin place ∷ []) [] (every_one _ tt) (Every-nil _)

    infinite_items_are : (s : Side) (place : ℕ) (position : Option ℕ) → Every (ItemIs joined s) (infinite_items place position)
    infinite_items_are s place position =
        if_so (Every (ItemIs joined s)) (nat_lt place (2 ^ 62)) ((Heard.InfiniteMapping place position) ∷ []) []
        (every_one _ tt) (Every-nil _)

    map_items_are : (s : Side) (o : Option (PathMapping (Option ℕ))) → Every (ItemIs joined s) (map_items o)
    map_items_are s None = Every-nil _
    map_items_are s (Some (Bytes (Some place) (Some position) len fin checksum)) = mapping_items_are s place position (octets_in len fin) fin
    map_items_are s (Some (Bytes (Some place) None len fin checksum)) = Every-nil _
    map_items_are s (Some (Bytes None position len fin checksum)) = Every-nil _
    map_items_are s (Some (End (Some place) checksum)) = end_items_are s place
    map_items_are s (Some (End None checksum)) = Every-nil _
    map_items_are s (Some (Infinite (Some place) position)) = infinite_items_are s place position
    map_items_are s (Some (Infinite None position)) = Every-nil _

    join_items_are : (s : Side) (form : JoinForm) → (joined ≡ true) × (w (peer s) × (right ≡ true → JoinIs k right (peer s) form)) → Every (ItemIs joined s) (join_items s form)
    join_items_are A (Answer backup id hmac nonce) h = every_one _ (h.0, (tt, h.1))
    join_items_are A (JoinSyn backup id token nonce) h = Every-nil _
    join_items_are A (Third hmac) h = Every-nil _
    join_items_are B (JoinSyn backup id token nonce) h = every_one _ (h.0, (tt, h.1))
    join_items_are B (Third hmac) h = every_one _ (h.0, (tt, h.1))
    join_items_are B (Answer backup id hmac nonce) h = Every-nil _

  first_items_are : (len : ℕ) → Every (ItemIs false B) (first_items len)
  first_items_are len = (elim (nat_lt 0 len) as (λ b. Every (ItemIs false B) (mapping_items 0 1 len false) → Every (ItemIs false B) (if b then mapping_items 0 1 len false else []))
      [ true ↦ λ are. are | false ↦ λ are. Every-nil _ ]) (mapping_items_are false B 0 1 len false)

  key_items_are : (s : Side) (keys : CapableKeys) → KeysAre k right (peer s) keys → ShownBy (peer s) keys → Every (ItemIs false s) (key_items s keys)
  key_items_are A NoKey h shown = Every-nil _
  key_items_are A (Sender sender) h shown = every_one _ h
  key_items_are A (Both sender receiver) h shown = Every-nil _
  key_items_are A (WithData sender receiver len checksum) h shown = Every-nil _
  key_items_are B NoKey h shown = Every-nil _
  key_items_are B (Sender sender) h shown = Every-nil _
  key_items_are B (Both sender receiver) h shown = every_one _ (refl, (h.1, h.0, shown))
  key_items_are B (WithData sender receiver len checksum) h shown = Every-append {xs = Heard.Keys receiver sender ∷ []} (every_one _ (refl, (h.1, h.0, shown))) (first_items_are len)

  -- MP_CAPABLE says nothing on a path that joins
  capable_heard : (joined : Bool) (s : Side) (keys : CapableKeys) → (sure_if k right joined ≡ true → KeysAre k right (peer s) keys) × (joined ≡ false → ShownBy (peer s) keys)
      → Every (ItemIs joined s) (if joined then [] else key_items s keys)
  capable_heard true s keys h = Every-nil _
  capable_heard false s keys h = key_items_are s keys (h.0 refl) (h.1 refl)

  address_heard : (joined : Bool) (s : Side) (echo : Bool) (id : ℕ) (address : Address) (port hmac : Option ℕ) → AddressIs (peer s) echo id address port hmac
      → Every (ItemIs joined s) (address_items echo id address port hmac)
  address_heard joined s true id address port hmac h = every_one _ tt
  address_heard joined s false id address port (Some hmac) h = every_one _ (subst (λ t. HmacIs (peer s) t id address (unwrap_or port 0) hmac) (twice s) h)
  address_heard joined s false id address port None h = Every-nil _

  module _ (joined : Bool) where
    items_in_are : (s : Side) (window : ℕ) (o : PlainOption) → OptionIs joined (peer s) o
        → Every (ItemIs joined s) (items_in joined s window (meant_option o))
    items_in_are s window (Capable flag_a flag_c keys) h = capable_heard joined s keys h
    items_in_are s window (Dss next mapping) h =
        Every-append {xs = Heard.Dss ∷ []} (every_one _ h)
        (Every-append (ack_items_are joined s (option_map (λ n. Some n) next) window) (map_items_are joined s (option_map meant_mapping mapping)))
    items_in_are s window (Join form) h = join_items_are joined s form h
    items_in_are s window (AddAddr echo id address port hmac) h = address_heard joined s echo id address port hmac h
    items_in_are s window (Remove ids) h = removed_each (λ id. tt) ids
    items_in_are s window (Prio backup) h = every_one (Heard.Notice (PeerNotice.Prio backup)) tt
    items_in_are s window (Fail place) h = every_one Heard.Fail h
    items_in_are s window (FastClose key) h = every_one (Heard.FastClose key) h
    items_in_are s window (Reset transient reason) h = Every-nil _

    all_items : (s : Side) (window : ℕ) (options : List PlainOption) → Every (OptionIs joined (peer s)) options
        → Every (ItemIs joined s) (flat_map (items_in joined s window) (map meant_option options))
    all_items s window [] h = Every-nil _
    all_items s window (o ∷ options) h =
        Every-append (items_in_are s window o (h.each 0 o refl)) (all_items s window options (record { each = λ i x at. h.each (suc i) x at }))

    pub items_are : (s : Side) (sg : PlainSegment) → Every (OptionIs joined (peer s)) sg.options → Every (ItemIs joined s) (items_of joined s (meant sg))
    items_are s sg h = all_items s (meant sg).window sg.options h

    -- after a fallback nothing is heard
    pub heard_items_are : (s : Side) (e : PathEnd) (sg : PlainSegment) → Every (OptionIs joined (peer s)) sg.options → Every (ItemIs joined s) (items_of joined s (options_heard e (meant sg)))
    heard_items_are s e sg h =
        if_so (λ z. Every (ItemIs joined s) (items_of joined s (record (meant sg) { options = z }))) e.modes.identity [] (meant sg).options
        (Every-nil _) (items_are s sg h)
