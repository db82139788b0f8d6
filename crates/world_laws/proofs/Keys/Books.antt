-- What the calls that a path makes do to the keys of a control book, and what it answers.
use Rattle.world_laws.proofs.Words.{◌≡◌, refl, sym, ◌∙◌, ap, subst, ℕ, ◌&&◌, ◌||◌, ◌==◌, not, Bool, true, false, if◌then◌else◌, Option, Some, None, is_none}
use Rattle.world_laws.proofs.Words.{is_some, eq-eqb, both_ways, false≢true, IfSome, Verdict, Mode, FallEvent, is_identity, is_starting, reads_mappings}
use Rattle.world_laws.proofs.Words.{with_infinite_receive, with_infinite_send, writes_mappings, Fall, after_sure_sign, after_plain, after_failed_check, after_fail, is_failed_path}
use Rattle.world_laws.proofs.Words.{goes, fall_step, SendFail, lowest, address_of, heard_reply, Address, token_of, Side, peer, ControlCall, ControlReply}
use Rattle.world_laws.proofs.Words.{Notice, lowest_living, sole_path, with_phase, Control, withdrawals_on, peer_or_zero, is_path, Opening, Ask, Reply, begins}
use Rattle.world_laws.proofs.Words.{tells_bad_address, tells_wrong_join, tells_other_key, if_so}
use Rattle.key_material.specs.AddressHmac.{add_addr64_of}
use Rattle.address_manager.specs.declared.manager.Heard.{Heard as AddressHeard}
use Rattle.address_manager.specs.Steps.{is_kept}
use Rattle.fallback_state.specs.Table.{after_infinite, stays, breaks}
use Rattle.control_book.specs.SameAddress.{is_same}
use Rattle.control_book.specs.Replies as control
use Rattle.control_book.specs.Steps as controlling
use Rattle.world_laws.proofs.Keys.AreDrawn.{Deed, Secrets, KeysFor, drawn_key}
use Rattle.world_laws.proofs.Announcements.Queued.{announced_in}
use Rattle.world_laws.proofs.Keys.Held.{IsSign, is_noted}
use Rattle.world_laws.proofs.Keys.StepsKeep.{AskIs}
use Rattle.world_laws.proofs.Keys.AreDrawn.{drawn_key}

-- ---- the keys of a control book

-- its own key, and the peer's once it has one, which it has once it is confirmed; and then T holds
pub record BookIs (own other : ℕ) (T : Type 0) (c : Control) : Type 0 where
  pub own_is : c.keys.own ≡ own
  pub peer_is : IfSome c.keys.peer (λ key. key ≡ other)
  pub confirmed : c.fall.confirmed ≡ true → (c.keys.peer ≡ Some other) × T

-- with the same keys, and no more confirmed
same_book : (own other : ℕ) (T : Type 0) (c d : Control) → d.keys ≡ c.keys → d.fall.confirmed ≡ c.fall.confirmed → BookIs own other T c → BookIs own other T d
same_book own other T c d keys confirmed h = record {
  own_is = ap (λ x. x.own) keys ∙ h.own_is;
  peer_is = subst (λ x. IfSome x.peer (λ key. key ≡ other)) (sym keys) h.peer_is;
  confirmed = λ is. let both = h.confirmed (sym confirmed ∙ is) in (ap (λ x. x.peer) keys ∙ both.0, both.1);
}

-- the more T says
pub more_book : (own other : ℕ) (T U : Type 0) (c : Control) → (T → U) → BookIs own other T c → BookIs own other U c
more_book own other T U c more h = record { own_is = h.own_is; peer_is = h.peer_is; confirmed = λ is. let both = h.confirmed is in (both.0, more both.1) }

if_book : (own other : ℕ) (T : Type 0) (b : Bool) (c d : Control) → BookIs own other T c → BookIs own other T d → BookIs own other T (if b then c else d)
if_book own other T true c d x y = x
if_book own other T false c d x y = y

notice_is : (own other : ℕ) (T : Type 0) (n : Notice) (path : ℕ) (c : Control) → BookIs own other T c → BookIs own other T (controlling.after_notice n path c)
notice_is own other T (Notice.Withdraw id) path c h = same_book own other T c _ refl refl h
notice_is own other T Notice.Nothing path c h = h
notice_is own other T (Notice.Announce id) path c h = h
notice_is own other T (Notice.Carrier key) path c h = h
notice_is own other T Notice.Reset path c h = h

-- a sign of the peer's, which makes a side sure
sign_confirms : (f : Fall) → (after_sure_sign f).0.confirmed ≡ f.confirmed
sign_confirms f = elim (is_starting f.mode) as (λ b. (if b then goes Mode.Sure f else stays f).0.confirmed ≡ f.confirmed) [ true ↦ refl | false ↦ refl ]

plain_confirms : (f : Fall) → (after_plain f).0.confirmed ≡ f.confirmed
plain_confirms f = elim (is_starting f.mode && not f.joined) as (λ b. (if b then goes Mode.Identity f else stays f).0.confirmed ≡ f.confirmed)
    [ true ↦ refl | false ↦ refl ]

infinite_confirms : (path : ℕ) (sole : Bool) (f : Fall) → (after_infinite path sole f).0.confirmed ≡ f.confirmed
infinite_confirms path sole f = by (not (reads_mappings f.mode)) (sole && is_failed_path f.failed path) (writes_mappings f.mode && not f.joined && is_none f.failed)
  where
    by : (a b c : Bool) → (if a then stays f else (if b then goes (with_infinite_receive f.mode) f else (if c then goes Mode.Identity f else breaks 1 f))).0.confirmed ≡ f.confirmed
    by true b c = refl
    by false true c = refl
    by false false true = refl
    by false false false = refl

check_confirms : (path : ℕ) (sole : Bool) (f : Fall) → (after_failed_check path sole f).0.confirmed ≡ f.confirmed
check_confirms path sole f = by (not (reads_mappings f.mode)) sole
  where
    by : (a b : Bool) → (if a then stays f else (if b then (record f { failed = Some path }, SendFail) else breaks 6 f)).0.confirmed ≡ f.confirmed
    by true b = refl
    by false true = refl
    by false false = refl

fail_confirms : (sole contiguous : Bool) (f : Fall) → (after_fail sole contiguous f).0.confirmed ≡ f.confirmed
fail_confirms sole contiguous f = by (not (writes_mappings f.mode)) (sole && contiguous)
  where
    by : (a b : Bool) → (if a then stays f else (if b then goes (with_infinite_send f.mode) f else breaks 1 f)).0.confirmed ≡ f.confirmed
    by true b = refl
    by false true = refl
    by false false = refl

fell_confirms : (path : ℕ) (sole : Bool) (e : FallEvent) (f : Fall) → IsSign e → (fall_step f path sole e).0.confirmed ≡ f.confirmed
fell_confirms path sole FallEvent.MappingHeard f is = sign_confirms f
fell_confirms path sole FallEvent.AckHeard f is = sign_confirms f
fell_confirms path sole FallEvent.InfiniteHeard f is = infinite_confirms path sole f
fell_confirms path sole FallEvent.KeysHeard f is = absurd is
fell_confirms path sole FallEvent.CheckFailed f is = check_confirms path sole f
fell_confirms path sole (FallEvent.FailHeard contiguous) f is = fail_confirms sole contiguous f
fell_confirms path sole FallEvent.Stop f is = absurd is
fell_confirms path sole _ f is = plain_confirms f

keys_told : (own other : ℕ) (T : Type 0) (mine peer_key : ℕ) (c : Control) → peer_key ≡ other → T → BookIs own other T c → BookIs own other T (controlling.after_keys mine peer_key c)
keys_told own other T mine peer_key c is holds h =
    if_book own other T (mine == c.keys.own) (controlling.after_event 0 false FallEvent.KeysHeard (controlling.after_peer_key peer_key c)) c
    (record { own_is = h.own_is; peer_is = is; confirmed = λ confirmed. (ap (λ n. Some n) is, holds) }) h

pub call_is : (k : Secrets) (right : Bool) (w : Side → Type 0) (did : Deed → Side → Type 0) (s : Side) (c : Control) (call : ControlCall) → AskIs k right w did (Ask.Control s call)
    → BookIs (drawn_key k right s) (drawn_key k right (peer s)) (KeysFor k right w did s) c → BookIs (drawn_key k right s) (drawn_key k right (peer s)) (KeysFor k right w did s) (controlling.after c call)
call_is k right w did s c (ControlCall.Look path) is h = notice_is _ _ _ (control.notice_on c path) path c h
call_is k right w did s c (ControlCall.PeerKey key) is h = record { own_is = h.own_is; peer_is = is; confirmed = λ confirmed. (ap (λ n. Some n) is, (h.confirmed confirmed).1) }
call_is k right w did s c (ControlCall.Keys own other) is h = keys_told _ _ _ own other c is.1 is.2 h
call_is k right w did s c (ControlCall.Fell path event) is h = same_book _ _ _ c _ refl (fell_confirms path (sole_path c.paths path) event c.fall is) h
call_is k right w did s c (ControlCall.JoinBegin path) is h =
    let d : Control = controlling.after_join (record c { paths = with_phase path Opening c.paths }) in
    if_book _ _ _ (control.may_join c) d c (same_book _ _ _ c d refl refl h) h
call_is k right w did s c (ControlCall.JoinHeard path token) is h =
    if_book _ _ _ (token == token_of c.keys.own && c.fall.confirmed && (control.is_starting c.fall.mode || control.is_sure c.fall.mode))
    (controlling.after_join c) c (same_book _ _ _ c (controlling.after_join c) refl refl h) h
call_is k right w did s c (ControlCall.Withdraw id) is h = if_book _ _ _ (controlling.is_known id c) _ c (same_book _ _ _ c _ refl refl h) h
call_is k right w did s c (ControlCall.Echoed id) is h = if_book _ _ _ (controlling.is_known id c) _ c (same_book _ _ _ c _ refl refl h) h
call_is k right w did s c (ControlCall.Removed id) is h = if_book _ _ _ (controlling.is_known id c) _ c (same_book _ _ _ c _ refl refl h) h
call_is k right w did s c (ControlCall.FastHeard key) is h =
    let d : Control = controlling.after_event 0 false FallEvent.Stop c in
    if_book _ _ _ (key == c.keys.own) d c (same_book _ _ _ c d refl refl h) h
call_is k right w did s c _ is h = same_book _ _ _ c _ refl refl h

-- a book that joined stays so
either_joined : (b : Bool) (c d : Control) → c.fall.joined ≡ true → d.fall.joined ≡ true → (if b then c else d).fall.joined ≡ true
either_joined = elim [ true ↦ λ c d x y. x | false ↦ λ c d x y. y ]

either_fall : (b : Bool) (f g : Fall × Verdict) → f.0.joined ≡ true → g.0.joined ≡ true → (if b then f else g).0.joined ≡ true
either_fall = elim [ true ↦ λ f g x y. x | false ↦ λ f g x y. y ]

fell_joined : (path : ℕ) (sole : Bool) (e : FallEvent) (f : Fall) → f.joined ≡ true → (fall_step f path sole e).0.joined ≡ true
fell_joined path sole FallEvent.MappingHeard f is = either_fall (is_starting f.mode) _ _ is is
fell_joined path sole FallEvent.AckHeard f is = either_fall (is_starting f.mode) _ _ is is
fell_joined path sole FallEvent.PlainHandshake f is = either_fall (is_starting f.mode && not f.joined) _ _ is is
fell_joined path sole FallEvent.PlainData f is = either_fall (is_starting f.mode && not f.joined) _ _ is is
fell_joined path sole FallEvent.PlainAck f is = either_fall (is_starting f.mode && not f.joined) _ _ is is
fell_joined path sole FallEvent.InfiniteHeard f is =
    either_fall (not (reads_mappings f.mode)) _ _ is (either_fall (sole && is_failed_path f.failed path) _ _ is (either_fall (writes_mappings f.mode && not f.joined && is_none f.failed) _ _ is is))
fell_joined path sole FallEvent.KeysHeard f is = either_fall (is_identity f.mode) _ _ is is
fell_joined path sole FallEvent.CheckFailed f is = either_fall (not (reads_mappings f.mode)) _ _ is (either_fall sole _ _ is is)
fell_joined path sole (FallEvent.FailHeard contiguous) f is = either_fall (not (writes_mappings f.mode)) _ _ is (either_fall (sole && contiguous) _ _ is is)
fell_joined path sole FallEvent.Stop f is = is

notice_joined : (n : Notice) (path : ℕ) (c : Control) → c.fall.joined ≡ true → (controlling.after_notice n path c).fall.joined ≡ true
notice_joined = elim [ Notice.Withdraw id ↦ λ path c is. is | _ ↦ λ path c is. is ]

pub call_joined : (c : Control) (call : ControlCall) → c.fall.joined ≡ true → (controlling.after c call).fall.joined ≡ true
call_joined c (ControlCall.Look path) is = notice_joined (control.notice_on c path) path c is
call_joined c (ControlCall.PeerKey key) is = is
call_joined c (ControlCall.Keys own other) is = either_joined (own == c.keys.own) _ _ (fell_joined 0 false FallEvent.KeysHeard c.fall is) is
call_joined c (ControlCall.Fell path event) is = fell_joined path (sole_path c.paths path) event c.fall is
call_joined c (ControlCall.JoinBegin path) is = either_joined (control.may_join c) _ _ refl is
call_joined c (ControlCall.JoinHeard path token) is =
    either_joined (token == token_of c.keys.own && c.fall.confirmed && (control.is_starting c.fall.mode || control.is_sure c.fall.mode)) _ _ refl is
call_joined c (ControlCall.Withdraw id) is = either_joined _ _ _ is is
call_joined c (ControlCall.Echoed id) is = either_joined _ _ _ is is
call_joined c (ControlCall.Removed id) is = either_joined _ _ _ is is
call_joined c (ControlCall.FastHeard key) is = either_joined _ _ _ is is
call_joined c _ is = is

-- a book that has the peer's key keeps one
either_keyed : (b : Bool) (c d : Control) → is_some c.keys.peer ≡ true → is_some d.keys.peer ≡ true → is_some (if b then c else d).keys.peer ≡ true
either_keyed = elim [ true ↦ λ c d x y. x | false ↦ λ c d x y. y ]

notice_keyed : (n : Notice) (path : ℕ) (c : Control) → is_some c.keys.peer ≡ true → is_some (controlling.after_notice n path c).keys.peer ≡ true
notice_keyed = elim [ Notice.Withdraw id ↦ λ path c is. is | _ ↦ λ path c is. is ]

pub call_keyed : (c : Control) (call : ControlCall) → is_some c.keys.peer ≡ true → is_some (controlling.after c call).keys.peer ≡ true
call_keyed c (ControlCall.Look path) is = notice_keyed (control.notice_on c path) path c is
call_keyed c (ControlCall.PeerKey key) is = refl
call_keyed c (ControlCall.Keys own other) is = either_keyed (own == c.keys.own) _ _ refl is
call_keyed c (ControlCall.Fell path event) is = is
call_keyed c (ControlCall.JoinBegin path) is = either_keyed (control.may_join c) _ _ is is
call_keyed c (ControlCall.JoinHeard path token) is =
    either_keyed (token == token_of c.keys.own && c.fall.confirmed && (control.is_starting c.fall.mode || control.is_sure c.fall.mode)) _ _ is is
call_keyed c (ControlCall.Withdraw id) is = either_keyed _ _ _ is is
call_keyed c (ControlCall.Echoed id) is = either_keyed _ _ _ is is
call_keyed c (ControlCall.Removed id) is = either_keyed _ _ _ is is
call_keyed c (ControlCall.FastHeard key) is = either_keyed _ _ _ is is
call_keyed c _ is = is

-- a control book has the peer's key once it noted both keys
pub noted_keyed : (own other : ℕ) (c : Control) → is_noted (Reply.Control (control.keys_reply own c)) ≡ true → is_some (controlling.after_keys own other c).keys.peer ≡ true
noted_keyed own other c = by (own == c.keys.own)
  where
    by : (b : Bool) → is_noted (Reply.Control (if b then ControlReply.Noted else ControlReply.KeysDiffer c.keys.own)) ≡ true
        → is_some (if b then controlling.after_event 0 false FallEvent.KeysHeard (controlling.after_peer_key other c) else c).keys.peer ≡ true
    by = elim [ true ↦ λ noted. refl | false ↦ λ noted. absurd (false≢true noted) ]

-- a control book announces an address once it is confirmed
pub announces_confirmed : (T : Type 0) (c : Control) (path : ℕ) → (c.fall.confirmed ≡ true → T) → IfSome (announced_in (control.notice_on c path)) (λ id. T)
announces_confirmed T c path holds = by (control.resets c path) (control.carries c path) c.fall.confirmed refl
  where
    withdrawn : Option ℕ
    withdrawn = lowest (withdrawals_on c.notices.withdrawals path)

    addresses : (o withdrawn : Option ℕ) → T → IfSome (announced_in (control.address_notice o withdrawn)) (λ id. T)
    addresses (Some id) withdrawn is = is
    addresses None (Some id) is = tt
    addresses None None is = tt

    by : (resets carries confirmed : Bool) → c.fall.confirmed ≡ confirmed
        → IfSome (announced_in (if resets then Notice.Reset
        else (if carries then Notice.Carrier (peer_or_zero c.keys.peer)
        else control.address_notice (if confirmed && is_path (lowest_living c.paths) path then lowest c.addresses.due else None) withdrawn))) (λ id. T)
    by true carries confirmed is = tt
    by false true confirmed is = tt
    by false false true is = addresses (if is_path (lowest_living c.paths) path then lowest c.addresses.due else None) withdrawn (holds is)
    by false false false is = elim withdrawn as (λ withdrawn. IfSome (announced_in (control.address_notice None withdrawn)) (λ id. T)) [ Some id ↦ tt | None ↦ tt ]

-- ---- what it answers

keys_untold : (test : Reply → Bool) → ((key : ℕ) → test (Reply.Control ControlReply.Noted) ≡ false) → (own : ℕ) (c : Control) → own ≡ c.keys.own
    → test (Reply.Control (control.keys_reply own c)) ≡ false
keys_untold test noted own c same =
    ap (λ (b : Bool). test (Reply.Control (if b then ControlReply.Noted else ControlReply.KeysDiffer c.keys.own))) (eq-eqb own c.keys.own same) ∙ noted own

begin_untold : (test : Reply → Bool) → ((own other : ℕ) → test (Reply.Control (ControlReply.Begin own other)) ≡ false) → test (Reply.Control ControlReply.NotYet) ≡ false
    → ((mode : Mode) → test (Reply.Control (ControlReply.Never mode)) ≡ false) → (c : Control) → test (Reply.Control (control.join_begin_reply c)) ≡ false
begin_untold test begins not_yet never c = by (control.may_join c) (control.join_waits c)
  where
    by : (a b : Bool) → test (Reply.Control (if a then control.begin c else (if b then ControlReply.NotYet else ControlReply.Never c.fall.mode))) ≡ false
    by true b = begins c.keys.own (peer_or_zero c.keys.peer)
    by false true = not_yet
    by false false = never c.fall.mode

-- the token is its own, or another one
heard_untold : (test : Reply → Bool) (known : Bool) (c : Control) → ((own other : ℕ) → test (Reply.Control (ControlReply.Begin own other)) ≡ false)
    → test (Reply.Control ControlReply.NotConfirmed) ≡ false → ((mode : Mode) → test (Reply.Control (ControlReply.Fallen mode)) ≡ false)
    → (known ≡ false → test (Reply.Control (ControlReply.UnknownToken (token_of c.keys.own))) ≡ false)
    → test (Reply.Control (if not known then ControlReply.UnknownToken (token_of c.keys.own)
    else (if not c.fall.confirmed then ControlReply.NotConfirmed
    else (if control.is_starting c.fall.mode || control.is_sure c.fall.mode then control.begin c else ControlReply.Fallen c.fall.mode)))) ≡ false
heard_untold test false c begins unconfirmed fallen unknown = unknown refl
heard_untold test true c begins unconfirmed fallen unknown = by c.fall.confirmed (control.is_starting c.fall.mode || control.is_sure c.fall.mode)
  where
    by : (a b : Bool) → test (Reply.Control (if not a then ControlReply.NotConfirmed else (if b then control.begin c else ControlReply.Fallen c.fall.mode))) ≡ false
    by false b = unconfirmed
    by true true = begins c.keys.own (peer_or_zero c.keys.peer)
    by true false = fallen c.fall.mode

-- a fast close that is heard is the side's own, or another one's
fast_untold : (test : Reply → Bool) → test (Reply.Control ControlReply.Stopped) ≡ false → ((own : ℕ) → test (Reply.Control (ControlReply.OtherKey own)) ≡ false)
    → (key : ℕ) (c : Control) → test (Reply.Control (control.fast_heard_reply key c)) ≡ false
fast_untold test stopped other key c =
    if_so (λ z. test (Reply.Control z) ≡ false) (key == c.keys.own) ControlReply.Stopped (ControlReply.OtherKey c.keys.own)
    stopped (other c.keys.own)

-- an address that is heard is echoed, or kept already, or has a wrong HMAC
address_untold : (test : Reply → Bool) → test (Reply.Control ControlReply.Echo) ≡ false → test (Reply.Control ControlReply.Known) ≡ false
    → test (Reply.Control ControlReply.BadHmac) ≡ false → (id : ℕ) (address : Address) (port hmac : ℕ) (c : Control)
    → test (Reply.Control (control.address_reply id address port hmac c)) ≡ false
address_untold test echo known bad id address port hmac c =
    elim (heard_reply is_same id address (control.is_right id address port hmac c) c.addresses) as (λ said. test (Reply.Control (control.told_heard said)) ≡ false)
    [ AddressHeard.Echo ↦ echo | AddressHeard.Known ↦ known | AddressHeard.BadHmac ↦ bad ]

module _ (k : Secrets) (right : Bool) (w : Side → Type 0) (did : Deed → Side → Type 0) (s : Side) (c : Control) (h : BookIs (drawn_key k right s) (drawn_key k right (peer s)) (KeysFor k right w did s) c) where
  pub key_untold : (call : ControlCall) → AskIs k right w did (Ask.Control s call) → tells_other_key (Reply.Control (control.reply_to c call)) ≡ false
  key_untold (ControlCall.Keys own other) is = keys_untold tells_other_key (λ key. refl) own c (is.0 ∙ sym h.own_is)
  key_untold (ControlCall.JoinBegin path) is = begin_untold tells_other_key (λ own other. refl) refl (λ mode. refl) c
  key_untold (ControlCall.JoinHeard path token) is = heard_untold tells_other_key (token == token_of c.keys.own) c (λ own other. refl) refl (λ mode. refl) (λ unknown. refl)
  key_untold (ControlCall.Heard id address port hmac) is = address_untold tells_other_key refl refl refl id address port hmac c
  key_untold (ControlCall.FastHeard key) is = fast_untold tells_other_key refl (λ own. refl) key c
  key_untold _ is = refl

  pub join_untold : right ≡ true → (call : ControlCall) → AskIs k right w did (Ask.Control s call) → tells_wrong_join (Reply.Control (control.reply_to c call)) ≡ false
  join_untold sure (ControlCall.Look path) is = refl
  join_untold sure (ControlCall.PeerKey key) is = refl
  join_untold sure (ControlCall.Keys own other) is = keys_untold tells_wrong_join (λ key. refl) own c (is.0 ∙ sym h.own_is)
  join_untold sure (ControlCall.Fell path event) is = refl
  join_untold sure (ControlCall.JoinBegin path) is = begin_untold tells_wrong_join (λ own other. refl) refl (λ mode. refl) c
  join_untold sure (ControlCall.JoinHeard path token) is =
      heard_untold tells_wrong_join (token == token_of c.keys.own) c (λ own other. refl) refl (λ mode. refl)
      (λ unknown. let own : token ≡ token_of c.keys.own = is.1.1 sure ∙ ap token_of (sym h.own_is) in absurd (both_ways _ unknown (eq-eqb token (token_of c.keys.own) own)))
  join_untold sure (ControlCall.Heard id address port hmac) is = address_untold tells_wrong_join refl refl refl id address port hmac c
  join_untold sure (ControlCall.FastHeard key) is = fast_untold tells_wrong_join refl (λ own. refl) key c
  join_untold sure _ is = refl

  -- an address has the HMAC that the book demands, where it has the peer's key
  heard_right : (id : ℕ) (address : Address) (port hmac : ℕ) → c.keys.peer ≡ Some (drawn_key k right (peer s))
      → hmac ≡ add_addr64_of (drawn_key k right (peer s)) (drawn_key k right s) id address port → control.is_right id address port hmac c ≡ true
  heard_right id address port hmac has is =
      eq-eqb hmac (add_addr64_of (peer_or_zero c.keys.peer) c.keys.own id address port)
      (is ∙ ap (λ o. add_addr64_of (peer_or_zero o) (drawn_key k right s) id address port) (sym has)
      ∙ ap (λ n. add_addr64_of (peer_or_zero c.keys.peer) n id address port) (sym h.own_is))

  right_told : (id : ℕ) (address : Address) (b : Bool) → b ≡ true → tells_bad_address (Reply.Control (control.told_heard (heard_reply is_same id address b c.addresses))) ≡ false
  right_told id address true is =
      if_so (λ z. tells_bad_address (Reply.Control (control.told_heard z)) ≡ false) (is_kept is_same (address_of id c.addresses.kept) address) AddressHeard.Known AddressHeard.Echo
      refl refl
  right_told id address false is = absurd (false≢true is)

  peer_known : (o : Option ℕ) → is_some o ≡ true → IfSome o (λ key. key ≡ drawn_key k right (peer s)) → o ≡ Some (drawn_key k right (peer s))
  peer_known = elim [ None ↦ λ some is. absurd (false≢true some) | Some key ↦ λ some is. ap (λ n. Some n) is ]

  pub address_right : right ≡ true → (did Deed.Keyed s → is_some c.keys.peer ≡ true) → (call : ControlCall) → AskIs k right w did (Ask.Control s call) → tells_bad_address (Reply.Control (control.reply_to c call)) ≡ false
  address_right sure keyed (ControlCall.Look path) is = refl
  address_right sure keyed (ControlCall.PeerKey key) is = refl
  address_right sure keyed (ControlCall.Keys own other) is = keys_untold tells_bad_address (λ key. refl) own c (is.0 ∙ sym h.own_is)
  address_right sure keyed (ControlCall.Fell path event) is = refl
  address_right sure keyed (ControlCall.JoinBegin path) is = begin_untold tells_bad_address (λ own other. refl) refl (λ mode. refl) c
  address_right sure keyed (ControlCall.JoinHeard path token) is = heard_untold tells_bad_address (token == token_of c.keys.own) c (λ own other. refl) refl (λ mode. refl) (λ unknown. refl)
  address_right sure keyed (ControlCall.Live path backup) is = refl
  address_right sure keyed (ControlCall.Dead path) is = refl
  address_right sure keyed (ControlCall.Rate path window rtt) is = refl
  address_right sure keyed (ControlCall.Backup path on) is = refl
  address_right sure keyed (ControlCall.Announce id) is = refl
  address_right sure keyed (ControlCall.Withdraw id) is = refl
  address_right sure keyed (ControlCall.Heard id address port hmac) is =
      right_told id address (control.is_right id address port hmac c) (heard_right id address port hmac (peer_known c.keys.peer (keyed is.1) h.peer_is) (is.0 sure))
  address_right sure keyed (ControlCall.FastHeard key) is = fast_untold tells_bad_address refl (λ own. refl) key c
  address_right sure keyed _ is = refl
