-- The keys that control books have, and those that they answer, have 64 bits: each key that a path tells one was heard or drawn.
--
-- Keys in replies: what a control book answers has keys of 64 bits since each key that is told to it was heard or drawn
-- (`proofs/Numbers/KeysFit`, an invariant on both books beside the one on paths).
use Rattle.world_laws.proofs.Words.{◌≡◌, refl, sym, ◌∙◌, ℕ, ◌||◌, ◌==◌, not, Bool, true, false, if◌then◌else◌, Option, Some, None, List, arith, ◌<◌, false≢true}
use Rattle.world_laws.proofs.Words.{IfSome, lowest, token_of, Side, A, B, JoinSyn, ControlCall, ControlReply, Notice, standby, sole, Control, withdrawals_on}
use Rattle.world_laws.proofs.Words.{peer_or_zero, carries, address_notice, look_reply, ReassemblyCall, Duty, StepDuty, AskDuty, Heard, KeyPair, key_heard}
use Rattle.world_laws.proofs.Words.{keys_heard, PeerNotice, Ask, Reply, SixBooks, control_of, reply_of, after_ask, ask_for, look_ask, PathState, end_at}
use Rattle.world_laws.proofs.Words.{path_of, Carried, values, reset_of, break_ask, step_for, keys_begun, join_heard_ask, join_begin_ask, is_clash, mapping_ask}
use Rattle.world_laws.proofs.Words.{item_ask, item_of, fell_ask, peer_key_ask, opened_ask, Profile, sends, Every, if_so, May, may, asking, may_tell}
use Rattle.fallback_state.specs.declared.fall.Event.TheVariants as events
use Rattle.control_book.specs.Replies as control
use Rattle.control_book.specs.Steps as controlling
use Rattle.control_book.specs.Replies.{announcement, resets}
use Rattle.path_core.specs.declared.events.Event.{Event}
use Rattle.world_laws.proofs.Lanes.Replying.{every_item}
use Rattle.world_laws.proofs.Numbers.TellSmall.{IsKey, ItemTells, known_item}
use Rattle.world_laws.proofs.Numbers.EndRules.{AreKeys, heard_key, heard_keys, NoticeTells}
use Rattle.world_laws.proofs.Numbers.PathSteps.{KeysAreShort, ControlIsShort, PathTells, tells_at}
use Rattle.world_laws.proofs.Numbers.IdsFit.{AreIds, lowest_fits, on_fits, call_fits}
use Rattle.world_laws.proofs.Falls.FailedChecks.{fail_asks_so}
use Rattle.world_laws.proofs.Writes.Asks.{asks_no_more}

-- ---- what a control book answers

peer_short : (o : Option ℕ) → IfSome o IsKey → IsKey (peer_or_zero o)
peer_short = elim [ None ↦ λ h. omega arith | Some key ↦ λ h. h ]

module _ (c : Control) (h : KeysAreShort c.keys) where
  both_short : AreKeys (record { own = c.keys.own; peer = peer_or_zero c.keys.peer })
  both_short = (h.own, peer_short c.keys.peer h.peer)

  begin_keys : IfSome (keys_begun (Reply.Control (control.join_begin_reply c))) AreKeys
  begin_keys = by (control.may_join c) (control.join_waits c)
    where
      by : (may waits : Bool) → IfSome (keys_begun (Reply.Control (if may then control.begin c else (if waits then ControlReply.NotYet else ControlReply.Never c.fall.mode)))) AreKeys
      by true waits = both_short
      by false true = tt
      by false false = tt

  heard_reply_keys : (token : ℕ) → IfSome (keys_begun (Reply.Control (control.join_heard_reply token c))) AreKeys
  heard_reply_keys token = by (not (token == token_of c.keys.own)) (not c.fall.confirmed) (control.is_starting c.fall.mode || control.is_sure c.fall.mode)
    where
      by : (other unconfirmed open_mode : Bool) → IfSome (keys_begun (Reply.Control (if other then ControlReply.UnknownToken (token_of c.keys.own)
          else (if unconfirmed then ControlReply.NotConfirmed else (if open_mode then control.begin c else ControlReply.Fallen c.fall.mode))))) AreKeys
      by true unconfirmed open_mode = tt
      by false true open_mode = tt
      by false false true = both_short
      by false false false = tt

-- the key of a fast close is the peer's, and ids are those of the book's sets
announced_fits : (b : Bool) (ids : List Bool) → AreIds ids → IfSome (if b then lowest ids else None) (λ id. id < 256)
announced_fits = elim [ true ↦ λ ids are. lowest_fits ids are | false ↦ λ ids are. tt ]

notice_key : (c : Control) (h : ControlIsShort c) (path : ℕ) → NoticeTells (Reply.Control (look_reply path c))
notice_key c h path =
    by (resets c path) (carries c path) (announcement c path) (lowest (withdrawals_on c.notices.withdrawals path))
    (announced_fits _ c.addresses.due h.ids.due) (lowest_fits (withdrawals_on c.notices.withdrawals path) (on_fits c.notices.withdrawals path h.ids.withdrawals))
  where
    by : (resets carries : Bool) (announced withdrawn : Option ℕ) → IfSome announced (λ id. id < 256) → IfSome withdrawn (λ id. id < 256)
        → NoticeTells (Reply.Control (ControlReply.Standing c.fall.mode (standby c.paths c.addresses.backups path) (sole c.paths path)
        (if resets then Notice.Reset else (if carries then Notice.Carrier (peer_or_zero c.keys.peer) else address_notice announced withdrawn))))
    by true carries announced withdrawn a w = tt
    by false true announced withdrawn a w = peer_short c.keys.peer h.keys.peer
    by false false (Some id) withdrawn a w = a
    by false false None (Some id) a w = w
    by false false None None a w = tt

module _ (six : SixBooks) (h : (s : Side) → ControlIsShort (control_of s six)) where
  pub look_key : (s : Side) (p : PathState Carried) → NoticeTells (reply_of six (look_ask s p))
  look_key A p = notice_key six.control_a (h A) (path_of p)
  look_key B p = notice_key six.control_b (h B) (path_of p)

  pub step_keys : (path : ℕ) (o : Option Event) → IfSome (keys_begun (reply_of six (step_for path o))) AreKeys
  step_keys path (Some (Event.Joins tick)) = begin_keys six.control_a (h A).keys
  step_keys path _ = tt

  pub again_keys : (p : PathState Carried) → IfSome (keys_begun (reply_of six (join_begin_ask (path_of p)))) AreKeys
  again_keys p = begin_keys six.control_a (h A).keys

  pub joined_keys : (s : Side) (o : Option JoinSyn) (p : PathState Carried) → IfSome (keys_begun (reply_of six (join_heard_ask s o p))) AreKeys
  joined_keys s None p = tt
  joined_keys s (Some asked) p = heard_reply_keys (control_of s six) (h s).keys asked.token

-- ---- what a control book keeps

-- the key that is told has 64 bits
abbrev pub CallTells : ControlCall → Type 0
CallTells (ControlCall.PeerKey key) = IsKey key
CallTells (ControlCall.Keys own peer) = IsKey peer
CallTells _ = Unit {0}

abbrev pub AskTells : Ask → Type 0
AskTells (Ask.Control s call) = CallTells call
AskTells _ = Unit {0}

either_short : (b : Bool) (c d : Control) → KeysAreShort c.keys → KeysAreShort d.keys → KeysAreShort (if b then c else d).keys
either_short = elim [ true ↦ λ c d x y. x | false ↦ λ c d x y. y ]

notice_short : (n : Notice) (path : ℕ) (c : Control) → KeysAreShort c.keys → KeysAreShort (controlling.after_notice n path c).keys
notice_short = elim [ Notice.Withdraw id ↦ λ path c h. h | _ ↦ λ path c h. h ]

call_short : (c : Control) (call : ControlCall) → CallTells call → KeysAreShort c.keys → KeysAreShort (controlling.after c call).keys
call_short c (ControlCall.Look path) told h = notice_short (control.notice_on c path) path c h
call_short c (ControlCall.PeerKey key) told h = record { own = h.own; peer = told }
call_short c (ControlCall.Keys own other) told h = either_short (own == c.keys.own) _ _ (record { own = h.own; peer = told }) h
call_short c (ControlCall.JoinBegin path) told h = either_short _ _ _ h h
call_short c (ControlCall.JoinHeard path token) told h = either_short _ _ _ h h
call_short c (ControlCall.Withdraw id) told h = either_short _ _ _ h h
call_short c (ControlCall.Echoed id) told h = either_short _ _ _ h h
call_short c (ControlCall.Removed id) told h = either_short _ _ _ h h
call_short c (ControlCall.FastHeard key) told h = either_short _ _ _ h h
call_short c _ told h = h

control_short : (c : Control) (call : ControlCall) → CallTells call → ControlIsShort c → ControlIsShort (controlling.after c call)
control_short c call told h = record { keys = call_short c call told h.keys; ids = call_fits c call h.ids }

-- both books
pub record BooksKeepShort (six : SixBooks) : Type 0 where
  pub a : ControlIsShort six.control_a
  pub b : ControlIsShort six.control_b

pub kept_at : (six : SixBooks) → BooksKeepShort six → (s : Side) → ControlIsShort (control_of s six)
kept_at six h A = h.a
kept_at six h B = h.b

pub ask_short : (six : SixBooks) (x : Ask) → AskTells x → BooksKeepShort six → BooksKeepShort (after_ask x six)
ask_short six (Ask.Control A call) told h = record { a = control_short six.control_a call told h.a; b = h.b }
ask_short six (Ask.Control B call) told h = record { a = h.a; b = control_short six.control_b call told h.b }
ask_short six (Ask.Send s call) told h = record { a = h.a; b = h.b }
ask_short six (Ask.Reassembly s call) told h = record { a = h.a; b = h.b }
ask_short six (Ask.Local step) told h = h

-- ---- what a path tells one

none_called : (m : May) → m.keys ≡ false → (call : ControlCall) → may_tell m call ≡ true → CallTells call
none_called m off (ControlCall.PeerKey key) is = absurd (false≢true (sym off ∙ is))
none_called m off (ControlCall.Keys own peer) is = absurd (false≢true (sym off ∙ is))
none_called m off _ is = tt

none_told : (m : May) → m.keys ≡ false → (x : Ask) → may m x ≡ true → AskTells x
none_told m off (Ask.Control s call) is = none_called m off call is
none_told m off _ is = tt

module _ (c : Profile) (p : PathState Carried) (h : PathTells c p) where
  key_tells : (s : Side) (o : Option ℕ) → IfSome o IsKey → AskTells (peer_key_ask s o p)
  key_tells s None key = tt
  key_tells s (Some key) is = is

  opened_tells : (s : Side) (o : Option KeyPair) → IfSome o (λ keys. IsKey keys.peer) → AskTells (opened_ask s o p)
  opened_tells s None keys = tt
  opened_tells s (Some keys) is = is

  break_tells : (s : Side) (reason : ℕ) → AskTells (break_ask values s reason p)
  break_tells s reason = if_so AskTells (end_at s p).treated.asked (Ask.Reassembly s ReassemblyCall.AckOut) (sends values s (reset_of s (Some reason) p) p) tt tt

  mapping_tells : (s : Side) → AskTells (mapping_ask values s p)
  mapping_tells s = if_so AskTells (is_clash (end_at s p)) (break_ask values s 1 p) (fell_ask s events.MappingHeard p) (break_tells s 1) tt

  item_tells : (s : Side) (o : Option Heard) → IfSome o ItemTells → AskTells (item_ask values s o p)
  item_tells s (Some (Heard.Mapping fin)) said = mapping_tells s
  item_tells s (Some (Heard.Keys own other)) said = said.1
  item_tells s (Some (Heard.Notice (PeerNotice.AddAddr id address port hmac))) said = tt
  item_tells s (Some Heard.Fail) said = fail_asks_so AskTells s p tt tt
  item_tells s _ said = tt

  items_at : (s : Side) → Every ItemTells (end_at s p).treated.items
  items_at s = (tells_at c p h s).treated.items

  pub asks_tell : (d : Duty) → AskTells (ask_for values d p)
  asks_tell (Duty.Ask (AskDuty.PeerKey s)) = key_tells s (key_heard (end_at s p).treated.items) (heard_key (end_at s p).treated.items (items_at s))
  asks_tell (Duty.Ask (AskDuty.Opened s)) = opened_tells s (keys_heard (end_at s p).treated.items) (heard_keys (end_at s p).treated.items (items_at s))
  asks_tell (Duty.Step (StepDuty.Heard s index)) = item_tells s (item_of index (end_at s p)) (known_item (end_at s p).modes.identity _ (every_item index (end_at s p).treated.items (items_at s)))
  asks_tell d = none_told (asking d) refl (ask_for values d p) (asks_no_more values p d).kind
