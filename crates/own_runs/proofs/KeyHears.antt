-- What a copy that arrives tells of B's key: A hears a key where it is shown, and it asks for a key it heard only where it takes an answer to its SYN.
use Rattle.std.proofs.Common.{◌≡◌, refl, sym, ap, ◌∙◌, subst, ℕ, ◌&&◌, ◌||◌, not, nat_lt, nat_le, arith, Bool, true, false, if◌then◌else◌, Option, Some, None, is_none, is_some, List, [], ◌∷◌, ◌++◌, map, option_map}
use Rattle.std.specs.List.{flat_map, list_any}
use Rattle.std.specs.Option.{option_or}
use Rattle.std.proofs.lemmas.Bool.{and_parts, false≢true, or_from, or_parts}
use Rattle.mptcp_options.specs.declared.capable.CapableKeys.TheVariants.{Both, NoKey, Sender, WithData}
use Rattle.mptcp_options.specs.declared.join.JoinForm.{JoinForm}
use Rattle.mptcp_options.specs.declared.join.JoinForm.TheVariants.{Answer, Syn, Third}
use Rattle.path_agenda.specs.Items.{key_heard, key_in}
use Rattle.path_agenda.specs.declared.heard.Heard.{Heard}
use Rattle.path_core.specs.Addresses.{item_removed}
use Rattle.path_core.specs.Arrival.{acknowledged_in, owing_if, with_payload}
use Rattle.path_core.specs.DssIn.{ack_items, map_items}
use Rattle.path_core.specs.MpJoin.{join_items}
use Rattle.path_core.specs.OptionsIn.{items_in}
use Rattle.path_segments.specs.Laws.{meant_mapping, meant_option}
use Rattle.path_segments.specs.Options.{PlainOption}
use Rattle.path_segments.specs.Spelled.{PlainSegment}
use Rattle.path_segments.specs.declared.position.HeardPosition.TheVariants.{At}
use Rattle.path_segments.specs.declared.segment.PathMapping.{PathMapping}
use Rattle.path_segments.specs.declared.segment.PathMapping.TheVariants.{Bytes, End, Infinite}
use Rattle.path_segments.specs.declared.segment.PathOption.TheVariants.{AddAddr, Capable, Dss, Fail, FastClose, Join, Prio, Remove, Reset}
use Rattle.sides.specs.declared.side.Side.TheVariants.{A, B}
use Rattle.sides.specs.declared.side.Side.{Side}
use Rattle.subflow_send.specs.Records.{SendState}
use Rattle.subflow_send.specs.Rules.{ack_kind, after_acknowledge, sample_of, uncovered}
use Rattle.subflow_send.specs.declared.record.AckKind.{AckKind}
use Rattle.subflow_tcp.specs.Judging.{is_syn_alone, meaning_answer, meaning_answering, meaning_at, meaning_of}
use Rattle.subflow_tcp.specs.Segments.{Copy}
use Rattle.subflow_tcp.specs.State.{EndState, is_at_limit}
use Rattle.subflow_tcp.specs.States.{after_fin_acked, after_handshake}
use Rattle.subflow_tcp.specs.declared.handshake.State.{State as EndPhase}
use Rattle.subflow_tcp.specs.declared.segments.Hint.{Hint}
use Rattle.subflow_tcp.specs.declared.verdicts.Meaning.{Meaning}
use Rattle.subflow_tcp.specs.Taking as taking
use Rattle.world_laws.proofs.Keys.Meanings.{Means, means}
use Rattle.own_runs.proofs.Learning.{IsAlone, IsAnswer, is_unborn, shows_key}

-- ---- what an option says

abbrev is_key : Heard → Bool
is_key item = is_some (key_in item)

none_heard : (items : List Heard) → list_any is_key items ≡ false → is_some (key_heard items) ≡ false
none_heard [] none = refl
none_heard (item ∷ items) none = let both = or_parts (is_key item) (list_any is_key items) none in by (key_in item) both.0 (none_heard items both.1)
  where
    by : (o : Option ℕ) → is_some o ≡ false → is_some (key_heard items) ≡ false → is_some (option_or o (key_heard items)) ≡ false
    by None first rest = rest
    by (Some key) first rest = absurd (false≢true (sym first))

append_none : (xs ys : List Heard) → list_any is_key xs ≡ false → list_any is_key ys ≡ false → list_any is_key (xs ++ ys) ≡ false
append_none [] ys none rest = rest
append_none (x ∷ xs) ys none rest =
    let parts = or_parts (is_key x) (list_any is_key xs) none in or_from (is_key x) (list_any is_key (xs ++ ys)) parts.0 (append_none xs ys parts.1 rest)

if_none : (b : Bool) (item : Heard) → is_key item ≡ false → list_any is_key (if b then item ∷ [] else []) ≡ false
if_none true item none = ap (λ (x : Bool). x || false) none
if_none false item none = refl

ack_none : (next : Option ℕ) (window : ℕ) → list_any is_key (ack_items (option_map (λ n. Some n) next) window) ≡ false
ack_none None window = refl
ack_none (Some next) window = if_none _ (Heard.DataAck next window) refl

map_none : (mapping : Option (PathMapping ℕ)) → list_any is_key (map_items (option_map meant_mapping mapping)) ≡ false
map_none None = refl
map_none (Some (Bytes place position len fin checksum)) = if_none _ (Heard.Mapping fin) refl
map_none (Some (End place checksum)) = if_none _ (Heard.DataFin place) refl
map_none (Some (Infinite place position)) = if_none _ (Heard.InfiniteMapping place (Some position)) refl

joins_none : (s : Side) (form : JoinForm) → list_any is_key (join_items s form) ≡ false
joins_none A (Answer backup id hmac nonce) = refl
joins_none A (Syn backup id token nonce) = refl
joins_none A (Third hmac) = refl
joins_none B (Answer backup id hmac nonce) = refl
joins_none B (Syn backup id token nonce) = refl
joins_none B (Third hmac) = refl

removed_none : (ids : List ℕ) → list_any is_key (map item_removed ids) ≡ false
removed_none [] = refl
removed_none (id ∷ ids) = removed_none ids

-- A hears a key in an option that shows one, on the path that opens the connection
option_none : (joined : Bool) (window : ℕ) (o : PlainOption) → (joined ≡ false → shows_key o ≡ false) → list_any is_key (items_in joined A window (meant_option o)) ≡ false
option_none true window (Capable flag_a flag_c keys) none = refl
option_none false window (Capable flag_a flag_c NoKey) none = refl
option_none false window (Capable flag_a flag_c (Sender key)) none = absurd (false≢true (sym (none refl)))
option_none false window (Capable flag_a flag_c (Both sender receiver)) none = refl
option_none false window (Capable flag_a flag_c (WithData sender receiver len checksum)) none = refl
option_none joined window (Dss next mapping) none = append_none (ack_items (option_map (λ n. Some n) next) window) (map_items (option_map meant_mapping mapping)) (ack_none next window) (map_none mapping)
option_none joined window (Join form) none = joins_none A form
option_none joined window (AddAddr true id address port hmac) none = refl
option_none joined window (AddAddr false id address port (Some hmac)) none = refl
option_none joined window (AddAddr false id address port None) none = refl
option_none joined window (Remove ids) none = removed_none ids
option_none joined window (Prio backup) none = refl
option_none joined window (Fail place) none = refl
option_none joined window (FastClose key) none = refl
option_none joined window (Reset transient reason) none = refl

all_none : (joined : Bool) (window : ℕ) (os : List PlainOption) → (joined ≡ false → list_any shows_key os ≡ false) → list_any is_key (flat_map (items_in joined A window) (map meant_option os)) ≡ false
all_none joined window [] none = refl
all_none joined window (o ∷ os) none =
    append_none (items_in joined A window (meant_option o)) (flat_map (items_in joined A window) (map meant_option os))
    (option_none joined window o (λ first. (or_parts (shows_key o) (list_any shows_key os) (none first)).0))
    (all_none joined window os (λ first. (or_parts (shows_key o) (list_any shows_key os) (none first)).1))

-- what says no key
pub says_none : (joined : Bool) (window : ℕ) (os : List PlainOption) → (joined ≡ false → list_any shows_key os ≡ false)
    → is_some (key_heard (flat_map (items_in joined A window) (map meant_option os))) ≡ false
says_none joined window os none = none_heard (flat_map (items_in joined A window) (map meant_option os)) (all_none joined window os none)

-- ---- what a copy means

pub acked_so : (o : Option ℕ) (n : ℕ) → acknowledged_in (option_map (λ (k : ℕ). At k) o) ≡ Some n → o ≡ Some n
acked_so None n is = cc
acked_so (Some k) n is = is

none_so : (o : Option ℕ) → is_none (acknowledged_in (option_map (λ (k : ℕ). At k) o)) ≡ true → o ≡ None
none_so None is = refl
none_so (Some k) is = absurd (false≢true is)

-- a copy that an opening end takes as the answer acknowledges this
pub accepts_acked : (c : Copy) (s : EndState) (n : ℕ) → s.state ≡ EndPhase.SynSent → meaning_of c s ≡ Meaning.Accepts n → c.acknowledged ≡ Some n
accepts_acked c s n opens is = limited (is_at_limit s) (sym (ap (λ (state : EndPhase). meaning_at state c s) opens) ∙ is)
  where
    answers : (k : ℕ) (rst syn : Bool) → (if rst then Meaning.Kills else (if syn then Meaning.Accepts k else Meaning.Ignored)) ≡ Meaning.Accepts n → k ≡ n
    answers k true syn is = cc
    answers k false true is = cc
    answers k false false is = cc

    within : (k : ℕ) (b : Bool) → (if b then meaning_answer c k else Meaning.Ignored) ≡ Meaning.Accepts n → k ≡ n
    within k true is = answers k c.rst c.syn is
    within k false is = cc

    by : (o : Option ℕ) → meaning_answering o c s ≡ Meaning.Accepts n → o ≡ Some n
    by None is = cc
    by (Some k) is = ap (λ (m : ℕ). Some m) (within k (nat_lt 0 k && nat_le k s.send.nxt) is)

    limited : (b : Bool) → (if b then Meaning.Ignored else meaning_answering c.acknowledged c s) ≡ Meaning.Accepts n → c.acknowledged ≡ Some n
    limited true is = cc
    limited false is = by c.acknowledged is

-- and it is an answer that shows a key, where its options show one and the end's next position is 1
pub answer_so : (sg : PlainSegment) (s : EndState) (c : Copy) (n : ℕ) → c.syn ≡ sg.syn → c.acknowledged ≡ acknowledged_in (option_map (λ (k : ℕ). At k) sg.acknowledged)
    → (is_unborn s.state ≡ true → s.send.nxt ≡ 1) → meaning_of c s ≡ Meaning.Accepts n → list_any shows_key sg.options ≡ true → IsAnswer sg
answer_so sg s c n syn acknowledged next is shows =
    let told = subst (Means c s) is (means c s) in
    let acked : sg.acknowledged ≡ Some n = acked_so sg.acknowledged n (sym acknowledged ∙ accepts_acked c s n told.0 is) in
    let one : s.send.nxt ≡ 1 = next (ap is_unborn told.0) in
    let some = told.1.1.1.0 in
    let most = told.1.1.1.1 in
    let same : n ≡ 1 = omega (arith, one, some, most) in
    record { syn = sym syn ∙ told.1.0; acknowledged = acked ∙ ap (λ (m : ℕ). Some m) same; key = shows }

-- a copy that opens an end is a SYN alone
pub alone_so : (sg : PlainSegment) (s : EndState) (c : Copy) → c.syn ≡ sg.syn → c.rst ≡ sg.rst → c.acknowledged ≡ acknowledged_in (option_map (λ (k : ℕ). At k) sg.acknowledged)
    → meaning_of c s ≡ Meaning.Opens → IsAlone sg
alone_so sg s c syn rst acknowledged is =
    let told = subst (Means c s) is (means c s) in
    let alone = by (is_syn_alone c) (sym (ap (λ (state : EndPhase). meaning_at state c s) told.0) ∙ is) in
    let fin = and_parts c.syn _ alone in
    let reset = and_parts (not c.fin) _ fin.1 in
    let none = and_parts (not c.rst) (is_none c.acknowledged) reset.1 in
    record { syn = sym syn ∙ told.1.0; rst = sym rst ∙ told.1.1.0; none = none_so sg.acknowledged (ap (λ (o : Option ℕ). is_none o) (sym acknowledged) ∙ none.1) }
  where
    by : (b : Bool) → (if b then Meaning.Opens else Meaning.Ignored) ≡ Meaning.Opens → b ≡ true
    by true is = refl
    by false is = cc

-- ---- what it makes of an end's subflow

-- it waits for an answer only where it did, with the same next position
pub record Waits (s t : EndState) : Type 0 where
  pub unborn : is_unborn t.state ≡ true → is_unborn s.state ≡ true
  pub next : t.send.nxt ≡ s.send.nxt

same_waits : (s t : EndState) → t.state ≡ s.state → t.send ≡ s.send → Waits s t
same_waits s t state send = record { unborn = λ is. ap is_unborn (sym state) ∙ is; next = ap (λ (v : SendState). v.nxt) send }

then_waits : (s t u : EndState) → Waits s t → Waits t u → Waits s u
then_waits s t u x y = record { unborn = λ is. x.unborn (y.unborn is); next = y.next ∙ x.next }

acknowledged_next : (pos : ℕ) (v : SendState) → (after_acknowledge pos v).nxt ≡ v.nxt
acknowledged_next pos v = by (nat_lt v.una pos && nat_le pos v.nxt)
  where
    by : (b : Bool) → (if b then record v { una = pos; records = uncovered pos v.records } else v).nxt ≡ v.nxt
    by true = refl
    by false = refl

payload_waits : (m : Meaning) (octets : List ℕ) (s : EndState) → Waits s (with_payload m octets s)
payload_waits (Meaning.Taken position acknowledged) [] s = same_waits s _ refl refl
payload_waits (Meaning.Taken position acknowledged) (x ∷ octets) s = same_waits s _ refl refl
payload_waits _ octets s = same_waits s _ refl refl

acked_unborn : (state : EndPhase) → is_unborn (after_fin_acked state) ≡ is_unborn state
acked_unborn EndPhase.FinWait1 = refl
acked_unborn EndPhase.Closing = refl
acked_unborn EndPhase.Waiting = refl
acked_unborn _ = refl

handshake_unborn : (state : EndPhase) → is_unborn (after_handshake state) ≡ is_unborn state
handshake_unborn EndPhase.SynReceived = refl
handshake_unborn EndPhase.Waiting = refl
handshake_unborn _ = refl

ack_waits : (pos now : ℕ) (s : EndState) → Waits s (taking.after_acknowledgement pos now s)
ack_waits pos now s = by (ack_kind pos s.send)
  where
    t : EndState
    t = record s { send = after_acknowledge pos s.send }

    new : (b : Bool) → is_unborn (if b then after_fin_acked s.state else s.state) ≡ true → is_unborn s.state ≡ true
    new true is = sym (acked_unborn s.state) ∙ is
    new false is = is

    by : (kind : AckKind) → Waits s (taking.after_ack_kind kind (sample_of pos s.send) now t)
    by (AckKind.New octets) = record { unborn = λ is. new (taking.is_fin_acked t.send) is; next = acknowledged_next pos s.send }
    by _ = record { unborn = λ is. is; next = acknowledged_next pos s.send }

either_waits : (b : Bool) (s t u : EndState) → Waits s t → Waits s u → Waits s (if b then t else u)
either_waits true s t u x y = x
either_waits false s t u x y = y

arrival_waits : (m : Meaning) (hint : Hint) (now : ℕ) (c : Copy) (s : EndState) → Waits s (taking.after_arrival m hint now c s)
arrival_waits (Meaning.Taken pos acknowledged) hint now c s =
    let t : EndState = taking.after_established (taking.after_hearing (taking.after_payload pos hint c s)) in
    let a : EndState = taking.after_acknowledgement acknowledged now t in
    let opened : Waits s t = record { unborn = λ is. sym (handshake_unborn s.state) ∙ is; next = refl } in
    let acked : Waits s a = then_waits s t a opened (ack_waits acknowledged now t) in
    let row = either_waits (taking.is_duplicate (ack_kind acknowledged t.send) (taking.told_by hint c) c a) s (taking.after_duplicate a) (taking.after_interruption a)
    (record { unborn = acked.unborn; next = acked.next }) (record { unborn = acked.unborn; next = acked.next }) in
    record { unborn = row.unborn; next = row.next }
arrival_waits (Meaning.Accepts acknowledged) hint now c s =
    let t : EndState = record (taking.after_hearing (taking.after_payload 1 hint c s)) { state = EndPhase.Established } in
    let acked : Waits t (taking.after_acknowledgement acknowledged now t) = ack_waits acknowledged now t in
    record { unborn = λ is. absurd (false≢true (acked.unborn is)); next = acked.next }
arrival_waits Meaning.Opens hint now c s = record { unborn = λ is. absurd (false≢true is); next = refl }
arrival_waits Meaning.Kills hint now c s = record { unborn = λ is. absurd (false≢true is); next = acknowledged_next s.send.nxt s.send }
arrival_waits _ hint now c s = same_waits s _ refl refl

pub copy_waits : (owes : Bool) (m : Meaning) (hint : Hint) (now : ℕ) (c : Copy) (octets : List ℕ) (s : EndState)
    → Waits s (owing_if owes (taking.after_arrival m hint now c (with_payload m octets s)))
copy_waits owes m hint now c octets s =
    let held = with_payload m octets s in
    let t = taking.after_arrival m hint now c held in
    then_waits s t (owing_if owes t) (then_waits s held t (payload_waits m octets s) (arrival_waits m hint now c held)) (by owes t)
  where
    by : (b : Bool) (t : EndState) → Waits t (owing_if b t)
    by true t = same_waits t _ refl refl
    by false t = same_waits t _ refl refl
