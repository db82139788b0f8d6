-- No step is answered that a token isn't that of the book's key, or that an HMAC is wrong, whatever is stripped: A's book has B's key
-- as soon as it is sure, so each join begins with it.
use Rattle.world_laws.proofs.Words.{◌≡◌, refl, sym, ◌∙◌, ap, subst, ℕ, zero, suc, ◌+◌, ◌&&◌, ◌||◌, ◌==◌, not, inl, inr, ◌⊎◌, ⊎_elim, Bool, true, false}
use Rattle.world_laws.proofs.Words.{if◌then◌else◌, Option, Some, None, List, [], ◌∷◌, arith, is_none, is_some, lt-ltb, and_parts, both_ways, false≢true}
use Rattle.world_laws.proofs.Words.{or_right, same_Some, IfSome, Verdict, Mode, FallEvent, is_identity, is_starting, reads_mappings, with_infinite_receive}
use Rattle.world_laws.proofs.Words.{with_infinite_send, writes_mappings, Fall, after_plain, is_failed_path, goes, fall_step, Stay, SendFail, heard_reply, Address, Side, A}
use Rattle.world_laws.proofs.Words.{B, ControlCall, ControlReply, Notice, sole_path, with_phase, Control, Opening, Duty, StepDuty, AskDuty, Heard, KeyPair}
use Rattle.world_laws.proofs.Words.{key_heard, keys_heard, Ask, Reply, books_in, SixBooks, reply_of, after_ask, is_nil, AppDuty, AppState, app_asks_first}
use Rattle.world_laws.proofs.Words.{ask_for, ack_out_ask, waiting_path, PathState, end_at, asks_of, asks_first, Carried, values, reset_of, break_ask, is_joined}
use Rattle.world_laws.proofs.Words.{is_clash, mapping_ask, item_ask, item_of, fell_ask, plain_ack_ask, breaks_by_ack, peer_key_ask, opened_ask, sends, in_map}
use Rattle.world_laws.proofs.Words.{in_set, Every, App, Path, Actor, member_asks, member_takes, member_next, is_over, Always, PathPlan, Start}
use Rattle.world_laws.proofs.Words.{path_begins, new_path, opened_world, WorldState, Turn, crew_after, asked, greatest, begins}
use Rattle.world_laws.proofs.Words.{after_turn, world_run, JoinsAreRight, tells_wrong_join, if_so, May, may, asking}
use Rattle.world_laws.proofs.Rounds.Lifting.{all_over_each}
use Rattle.world_laws.proofs.Worlds.Turns.{turn_so}
use Rattle.address_manager.specs.declared.manager.Heard.{Heard as AddressHeard}
use Rattle.control_book.specs.SameAddress.{is_same}
use Rattle.control_book.specs.Replies as control
use Rattle.control_book.specs.Steps as controlling
use Rattle.fallback_state.specs.Table.{stays, breaks}
use Rattle.world_laws.proofs.Weaving.Journals.{books_after}
use Rattle.world_laws.proofs.Falls.WhereASideStands.{event_falls}
use Rattle.world_laws.proofs.Keys.AnswerHeardFirst.{is_sign_duty, signs}
use Rattle.world_laws.proofs.Keys.LearnedByA.{mode_told, ModeGains, FellGains, CallGains, Gains, PathMet, more_met}
use Rattle.world_laws.proofs.Keys.RepliesKeep.{takes_met, begun_turn}
use Rattle.world_laws.proofs.Keys.WhatWakes.{Voice, is_said_by, speaks}
use Rattle.world_laws.proofs.Falls.FailedChecks.{fail_asks_so}
use Rattle.world_laws.proofs.Keys.Held.{IsSign}
use Rattle.world_laws.proofs.Rounds.Frame.{takes_keeps, first_keeps}
use Rattle.world_laws.proofs.Keys.ToldAreOwn.{MemberIs, WorldIs, KeysAsk, member_asks_are, turn_keys, opened_keys, joins_untold}
use Rattle.world_laws.proofs.Worlds.Opened.{opened_actors}
use Rattle.world_laws.proofs.Promises.NoSuchNote.{NoneTold, from_each, turn_none, opened_none}
use Rattle.world_laws.proofs.Writes.Asks.{asks_no_more}

-- ---- who tells a sign

-- by these A's side may become sure
abbrev is_sign : FallEvent → Bool
is_sign FallEvent.MappingHeard = true
is_sign FallEvent.AckHeard = true
is_sign _ = false

-- A's book is told a sign of B
abbrev is_fell : Ask → Bool
is_fell (Ask.Control A (ControlCall.Fell path event)) = is_sign event
is_fell _ = false

none_told : (m : May) → m.fell ≡ false → (x : Ask) → may m x ≡ true → is_fell x ≡ false
none_told m off (Ask.Control A (ControlCall.Fell path event)) is = absurd (false≢true (sym off ∙ is))
none_told m off (Ask.Control A _) is = refl
none_told m off (Ask.Control B call) is = refl
none_told m off _ is = refl

module _ (p : PathState Carried) where
  no_fell : (s : Side) (event : FallEvent) → is_sign event ≡ false → is_fell (fell_ask s event p) ≡ false
  no_fell = elim [ A ↦ λ event none. none | B ↦ λ event none. refl ]

  no_key : (s : Side) (o : Option ℕ) → is_fell (peer_key_ask s o p) ≡ false
  no_key A None = refl
  no_key A (Some key) = refl
  no_key B None = refl
  no_key B (Some key) = refl

  no_keys : (s : Side) (o : Option KeyPair) → is_fell (opened_ask s o p) ≡ false
  no_keys A None = refl
  no_keys A (Some keys) = refl
  no_keys B None = refl
  no_keys B (Some keys) = refl

  no_break : (s : Side) (reason : ℕ) → is_fell (break_ask values s reason p) ≡ false
  no_break s reason = if_so (λ z. is_fell z ≡ false) (end_at s p).treated.asked (ack_out_ask s) (sends values s (reset_of s (Some reason) p) p) refl refl

  no_plain_ack : (s : Side) → is_fell (plain_ack_ask values s p) ≡ false
  no_plain_ack s =
      if_so (λ z. is_fell z ≡ false) (breaks_by_ack p.profile (end_at s p)) (break_ask values s 6 p) (fell_ask s FallEvent.PlainAck p)
      (no_break s 6) (no_fell s FallEvent.PlainAck refl)

  no_mapping : is_fell (mapping_ask values B p) ≡ false
  no_mapping = if_so (λ z. is_fell z ≡ false) (is_clash (end_at B p)) (break_ask values B 1 p) (fell_ask B FallEvent.MappingHeard p) (no_break B 1) refl

  no_item : (o : Option Heard) → is_fell (item_ask values B o p) ≡ false
  no_item (Some (Heard.Mapping fin)) = no_mapping
  no_item (Some Heard.Fail) = fail_asks_so (λ x. is_fell x ≡ false) B p refl refl
  no_item _ = refl

  fell_signs : (d : Duty) → is_sign_duty d ≡ false → is_fell (ask_for values d p) ≡ false
  fell_signs (Duty.Ask (AskDuty.PlainHandshake s)) none = no_fell s FallEvent.PlainHandshake refl
  fell_signs (Duty.Ask (AskDuty.PeerKey s)) none = no_key s (key_heard (end_at s p).treated.items)
  fell_signs (Duty.Ask (AskDuty.Opened s)) none = no_keys s (keys_heard (end_at s p).treated.items)
  fell_signs (Duty.Step (StepDuty.Heard A index)) none = absurd (false≢true (sym none))
  fell_signs (Duty.Step (StepDuty.Heard B index)) none = no_item (item_of index (end_at B p))
  fell_signs (Duty.Ask (AskDuty.AckHeard A)) none = absurd (false≢true (sym none))
  fell_signs (Duty.Ask (AskDuty.AckHeard B)) none = refl
  fell_signs (Duty.Ask (AskDuty.FailHeard s)) none = no_fell s (FallEvent.FailHeard (is_some (end_at s p).treated.infinite_mapping)) refl
  fell_signs (Duty.Step (StepDuty.PlainAck s)) none = no_plain_ack s
  fell_signs (Duty.Ask (AskDuty.PlainData s)) none = no_fell s FallEvent.PlainData refl
  fell_signs (Duty.Ask (AskDuty.CheckFailed s)) none = no_fell s FallEvent.CheckFailed refl
  fell_signs d none = none_told (asking d) refl (ask_for values d p) (asks_no_more values p d).kind

  -- the path has a sign's duty where it tells one
  asked_sign : (T : Type 0) (x : Ask) → asks_of values p ≡ Some x → is_fell x ≡ true → (signs p.agenda ≡ true → T) → T
  asked_sign T x is fell told = (elim p.agenda as (λ ds. p.agenda ≡ ds → asks_first values ds p ≡ Some x → T)
      [ [] ↦ λ same is. cc | d ∷ ds ↦ λ same is. at d ds (is_sign_duty d) refl same (ap is_fell (same_Some _ x is) ∙ fell) ]) refl is
    where
      at : (d : Duty) (ds : List Duty) (b : Bool) → is_sign_duty d ≡ b → p.agenda ≡ d ∷ ds → is_fell (ask_for values d p) ≡ true → T
      at d ds true sign same fell = told (ap signs same ∙ ap (λ c. c || signs ds) sign)
      at d ds false sign same fell = absurd (both_ways _ (fell_signs d sign) fell)

  -- on path 0
  asked_first : (T : Type 0) (x : Ask) → asks_of values p ≡ Some x → is_fell x ≡ true → PathMet T p → T
  asked_first T x is fell (inl h) = asked_sign T x is fell h.signed
  asked_first T x is fell (inr h) =
      (elim h.begins as (λ begins. asks_first values (if begins then Duty.Ask (AskDuty.SynAnswered A) ∷ Duty.Ask (AskDuty.PeerKey A) ∷ h.rest else Duty.Ask (AskDuty.PeerKey A) ∷ h.rest) p ≡ Some x → T) [
        | true ↦ λ is. absurd (both_ways (is_fell (ask_for values (Duty.Ask (AskDuty.SynAnswered A)) p)) refl (ap is_fell (same_Some _ x is) ∙ fell))
        | false ↦ λ is. absurd (both_ways _ (no_key A (key_heard (end_at A p).treated.items)) (ap is_fell (same_Some _ x is) ∙ fell))
      ]) (sym (ap (λ ds. asks_first values ds p) h.agenda_is) ∙ is)

  -- a sign is told by a side that joined, on a path that joins
  sign_speaks : (ds : List Duty) → signs ds ≡ true → speaks (Voice.Says A) ds ≡ true
  sign_speaks [] is = is
  sign_speaks (d ∷ ds) is =
      (elim (is_sign_duty d) as (λ b. is_sign_duty d ≡ b → b || signs ds ≡ true → (signs ds ≡ true → speaks (Voice.Says A) ds ≡ true) → is_said_by (Voice.Says A) d || speaks (Voice.Says A) ds ≡ true) [
        | true ↦ λ sign is rest. ap (λ c. c || speaks (Voice.Says A) ds) (said d sign)
        | false ↦ λ sign is rest. or_right (is_said_by (Voice.Says A) d) (speaks (Voice.Says A) ds) (rest is)
      ]) refl is (sign_speaks ds)
    where
      said : (d : Duty) → is_sign_duty d ≡ true → is_said_by (Voice.Says A) d ≡ true
      said (Duty.Step (StepDuty.Heard A index)) is = refl
      said (Duty.Ask (AskDuty.AckHeard A)) is = refl
      said (Duty.Step (StepDuty.Heard B index)) is = absurd (false≢true is)
      said (Duty.Ask (AskDuty.AckHeard B)) is = absurd (false≢true is)
      said (Duty.Step StepDuty.Events) is = absurd (false≢true is)
      said _ is = absurd (false≢true is)

-- ---- A's control book

-- a control book has the peer's key
abbrev pub HasKey : Control → Type 0
HasKey c = is_some c.keys.peer ≡ true

-- its side is past being sure
abbrev pub is_gone : Mode → Bool
is_gone Mode.Starting = false
is_gone Mode.Sure = false
is_gone _ = true

abbrev pub Knew : Control → Type 0
Knew c = HasKey c ⊎ (is_gone c.fall.mode ≡ true)

-- where its side is sure, or joined, it has the key
pub record Fine (c : Control) : Type 0 where
  pub sure : control.is_sure c.fall.mode ≡ true → HasKey c
  pub joined : c.fall.joined ≡ true → HasKey c

sure_or_gone : (m : Mode) → is_starting m ≡ false → (control.is_sure m ≡ true) ⊎ (is_gone m ≡ true)
sure_or_gone Mode.Starting is = absurd (false≢true (sym is))
sure_or_gone Mode.Sure is = inl refl
sure_or_gone _ is = inr refl

knew_past : (c : Control) → Fine c → is_starting c.fall.mode ≡ false → Knew c
knew_past c fine is = ⊎_elim (λ sure. inl (fine.sure sure)) (λ gone. inr gone) (sure_or_gone c.fall.mode is)

gone_stays_out : (m : Mode) → is_gone m ≡ true → (is_starting m ≡ false) × (control.is_sure m ≡ false)
gone_stays_out Mode.Starting is = absurd (false≢true is)
gone_stays_out Mode.Sure is = absurd (false≢true is)
gone_stays_out _ is = (refl, refl)

receiving_gone : (m : Mode) → is_gone (with_infinite_receive m) ≡ true
receiving_gone = elim [ Mode.Starting ↦ refl | _ ↦ refl ]

-- what an event makes of a fall: it is gone, or sure as before, or it starts and a sign of B came; and the verdict tells the mode
record Turned (sign : Bool) (f : Fall) (row : Fall × Verdict) : Type 0 where
  pub gone : is_gone f.mode ≡ true → is_gone row.0.mode ≡ true
  pub sure : control.is_sure row.0.mode ≡ true → (control.is_sure f.mode ≡ true) ⊎ ((sign ≡ true) × (is_starting f.mode ≡ true))
  pub told : IfSome (mode_told (Reply.Control (ControlReply.Verdict row.1))) (λ mode. row.0.mode ≡ mode)

stays_turned : (sign : Bool) (f : Fall) → Turned sign f (stays f)
stays_turned sign f = record { gone = λ is. is; sure = λ is. inl is; told = tt }

breaks_turned : (sign : Bool) (reason : ℕ) (f : Fall) → Turned sign f (breaks reason f)
breaks_turned sign reason f = record { gone = λ is. is; sure = λ is. inl is; told = tt }

goes_turned : (sign : Bool) (mode : Mode) (f : Fall) → is_gone mode ≡ true → Turned sign f (goes mode f)
goes_turned sign mode f gone = record { gone = λ is. gone; sure = λ is. absurd (both_ways _ (gone_stays_out mode gone).1 is); told = refl }

turned_if : (sign : Bool) (f : Fall) (b : Bool) (x y : Fall × Verdict) → (b ≡ true → Turned sign f x) → (b ≡ false → Turned sign f y) → Turned sign f (if b then x else y)
turned_if sign f true x y is isnt = is refl
turned_if sign f false x y is isnt = isnt refl

sign_turned : (f : Fall) → Turned true f (if is_starting f.mode then goes Mode.Sure f else stays f)
sign_turned f =
    turned_if true f (is_starting f.mode) (goes Mode.Sure f) (stays f)
    (λ is. record { gone = λ gone. absurd (both_ways _ (gone_stays_out f.mode gone).0 is); sure = λ sure. inr (refl, is); told = refl }) (λ isnt. stays_turned true f)

plain_turned : (sign : Bool) (f : Fall) → Turned sign f (if is_starting f.mode && not f.joined then goes Mode.Identity f else stays f)
plain_turned sign f =
    turned_if sign f (is_starting f.mode && not f.joined) (goes Mode.Identity f) (stays f) (λ is. goes_turned sign Mode.Identity f refl) (λ isnt. stays_turned sign f)

infinite_turned : (sign : Bool) (path : ℕ) (sole : Bool) (f : Fall) → Turned sign f (fall_step f path sole FallEvent.InfiniteHeard)
infinite_turned sign path sole f =
    let falls : Bool = writes_mappings f.mode && not f.joined && is_none f.failed in
    let last : Fall × Verdict = if falls then goes Mode.Identity f else breaks 1 f in
    let rest : Fall × Verdict = if sole && is_failed_path f.failed path then goes (with_infinite_receive f.mode) f else last in
    turned_if sign f (not (reads_mappings f.mode)) (stays f) rest (λ is. stays_turned sign f)
    (λ reads. turned_if sign f (sole && is_failed_path f.failed path) (goes (with_infinite_receive f.mode) f) last (λ is. goes_turned sign (with_infinite_receive f.mode) f (receiving_gone f.mode))
    (λ isnt. turned_if sign f falls (goes Mode.Identity f) (breaks 1 f) (λ is. goes_turned sign Mode.Identity f refl) (λ other. breaks_turned sign 1 f)))

check_turned : (sign : Bool) (path : ℕ) (sole : Bool) (f : Fall) → Turned sign f (fall_step f path sole FallEvent.CheckFailed)
check_turned sign path sole f =
    let noted : Fall × Verdict = (record f { failed = Some path }, SendFail) in
    turned_if sign f (not (reads_mappings f.mode)) (stays f) (if sole then noted else breaks 6 f) (λ is. stays_turned sign f)
    (λ reads. turned_if sign f sole noted (breaks 6 f) (λ is. record { gone = λ gone. gone; sure = λ sure. inl sure; told = tt }) (λ isnt. breaks_turned sign 6 f))

sending_gone : (m : Mode) → is_gone (with_infinite_send m) ≡ true
sending_gone = elim [ Mode.Starting ↦ refl | _ ↦ refl ]

fail_turned : (sign : Bool) (path : ℕ) (sole contiguous : Bool) (f : Fall) → Turned sign f (fall_step f path sole (FallEvent.FailHeard contiguous))
fail_turned sign path sole contiguous f =
    turned_if sign f (not (writes_mappings f.mode)) (stays f) (if sole && contiguous then goes (with_infinite_send f.mode) f else breaks 1 f) (λ is. stays_turned sign f)
    (λ writes. turned_if sign f (sole && contiguous) (goes (with_infinite_send f.mode) f) (breaks 1 f) (λ is. goes_turned sign (with_infinite_send f.mode) f (sending_gone f.mode)) (λ isnt. breaks_turned sign 1 f))

event_turned : (path : ℕ) (sole : Bool) (event : FallEvent) (f : Fall) → IsSign event → Turned (is_sign event) f (fall_step f path sole event)
event_turned path sole FallEvent.MappingHeard f is = sign_turned f
event_turned path sole FallEvent.AckHeard f is = sign_turned f
event_turned path sole FallEvent.InfiniteHeard f is = infinite_turned false path sole f
event_turned path sole FallEvent.KeysHeard f is = absurd is
event_turned path sole FallEvent.CheckFailed f is = check_turned false path sole f
event_turned path sole (FallEvent.FailHeard contiguous) f is = fail_turned false path sole contiguous f
event_turned path sole FallEvent.Stop f is = absurd is
event_turned path sole _ f is = plain_turned false f

-- what a call makes of a book
record Keeps (c d : Control) : Type 0 where
  pub key : HasKey c → HasKey d
  pub gone : is_gone c.fall.mode ≡ true → is_gone d.fall.mode ≡ true
  pub fine : Fine c → Fine d

knew_keeps : (c d : Control) → Keeps c d → Knew c → Knew d
knew_keeps c d keeps (inl has) = inl (keeps.key has)
knew_keeps c d keeps (inr gone) = inr (keeps.gone gone)

same_keeps : (c d : Control) → d.keys ≡ c.keys → d.fall ≡ c.fall → Keeps c d
same_keeps c d keys fall = record {
  key = λ has. ap (λ x. is_some x.peer) keys ∙ has;
  gone = λ is. ap (λ f. is_gone f.mode) fall ∙ is;
  fine = λ fine. record {
    sure = λ is. ap (λ x. is_some x.peer) keys ∙ fine.sure (ap (λ f. control.is_sure f.mode) (sym fall) ∙ is);
    joined = λ is. ap (λ x. is_some x.peer) keys ∙ fine.joined (ap (λ f. f.joined) (sym fall) ∙ is);
  };
}

if_keeps : (b : Bool) (c d e : Control) → (b ≡ true → Keeps c d) → Keeps c e → Keeps c (if b then d else e)
if_keeps = elim [ true ↦ λ c d e x y. x refl | false ↦ λ c d e x y. y ]

notice_keys : (n : Notice) (path : ℕ) (c : Control) → ((controlling.after_notice n path c).keys ≡ c.keys) × ((controlling.after_notice n path c).fall ≡ c.fall)
notice_keys = elim [ Notice.Withdraw id ↦ λ path c. (refl, refl) | _ ↦ λ path c. (refl, refl) ]

-- a book that has the key is fine
keyed_keeps : (c d : Control) → HasKey d → (is_gone c.fall.mode ≡ true → is_gone d.fall.mode ≡ true) → Keeps c d
keyed_keeps c d has gone = record { key = λ was. has; gone = gone; fine = λ fine. record { sure = λ is. has; joined = λ is. has } }

keys_mode : (f : Fall) → (fall_step f 0 false FallEvent.KeysHeard).0.mode ≡ f.mode
keys_mode f = elim (is_identity f.mode) as (λ b. (if b then stays f else (record f { confirmed = true }, Stay)).0.mode ≡ f.mode) [ true ↦ refl | false ↦ refl ]

-- a stop leaves the keys, and lets the side be past being sure
stop_keeps : (c d : Control) → d.keys ≡ c.keys → d.fall.mode ≡ Mode.Aborted → d.fall.joined ≡ c.fall.joined → Keeps c d
stop_keeps c d keys mode joined = record {
  key = λ has. ap (λ k. is_some k.peer) keys ∙ has;
  gone = λ was. ap is_gone mode;
  fine = λ fine. record {
    sure = λ is. absurd (false≢true (sym (ap control.is_sure mode) ∙ is));
    joined = λ is. ap (λ k. is_some k.peer) keys ∙ fine.joined (sym joined ∙ is);
  };
}

module _ (key_a key_b : ℕ) where
  -- where a sign is told the book has the key already, or its side is past being sure
  fell_keeps : (c : Control) (path : ℕ) (event : FallEvent) → IsSign event → (is_sign event ≡ true → Knew c) → Keeps c (controlling.after_fell path event c)
  fell_keeps c path event is knew =
      let turned = event_turned path (sole_path c.paths path) event c.fall is in
      record {
        key = λ has. has;
        gone = turned.gone;
        fine = λ fine. record { sure = λ sure. ⊎_elim fine.sure (λ both. starts (knew both.0) both.1) (turned.sure sure); joined = λ now. fine.joined (sym (joined event is) ∙ now) };
      }
    where
      starts : Knew c → is_starting c.fall.mode ≡ true → HasKey c
      starts (inl has) starting = has
      starts (inr gone) starting = absurd (both_ways _ (gone_stays_out c.fall.mode gone).0 starting)

      joined : (e : FallEvent) → IsSign e → (fall_step c.fall path (sole_path c.paths path) e).0.joined ≡ c.fall.joined
      joined e is = elim (event_falls path (sole_path c.paths path) e c.fall) [ inl same ↦ same.joined | inr fell ↦ fell.joined ]

  call_keeps : (six : SixBooks) (c : Control) (call : ControlCall) → KeysAsk key_a key_b true six (Ask.Control A call) → (is_fell (Ask.Control A call) ≡ true → Knew c) → Fine c → Keeps c (controlling.after c call)
  call_keeps six c (ControlCall.Look path) is sign fine = let same = notice_keys (control.notice_on c path) path c in same_keeps c _ same.0 same.1
  call_keeps six c (ControlCall.PeerKey key) is sign fine = keyed_keeps c (controlling.after c (ControlCall.PeerKey key)) refl (λ gone. gone)
  call_keeps six c (ControlCall.Keys own other) is sign fine =
      if_keeps (own == c.keys.own) c (controlling.after_event 0 false FallEvent.KeysHeard (controlling.after_peer_key other c)) c
      (λ noted. keyed_keeps c (controlling.after_event 0 false FallEvent.KeysHeard (controlling.after_peer_key other c)) refl (λ gone. ap is_gone (keys_mode c.fall) ∙ gone)) (same_keeps c c refl refl)
  call_keeps six c (ControlCall.Fell path event) is sign fine = fell_keeps c path event is sign
  call_keeps six c (ControlCall.JoinBegin path) is sign fine =
      let d : Control = controlling.after_join (record c { paths = with_phase path Opening c.paths }) in
      if_keeps (control.may_join c) c d c (λ may. keyed_keeps c d (fine.sure (and_parts (control.is_sure c.fall.mode) (is_none c.fall.failed) may).0) (λ gone. gone)) (same_keeps c c refl refl)
  call_keeps six c (ControlCall.JoinHeard path token) is sign fine = cc
  call_keeps six c (ControlCall.Withdraw id) is sign fine = if_keeps (controlling.is_known id c) c _ c (λ known. same_keeps c _ refl refl) (same_keeps c c refl refl)
  call_keeps six c (ControlCall.Echoed id) is sign fine = if_keeps (controlling.is_known id c) c _ c (λ known. same_keeps c _ refl refl) (same_keeps c c refl refl)
  call_keeps six c (ControlCall.Removed id) is sign fine = if_keeps (controlling.is_known id c) c _ c (λ known. same_keeps c _ refl refl) (same_keeps c c refl refl)
  call_keeps six c ControlCall.FastClose is sign fine = stop_keeps c _ refl refl refl
  call_keeps six c (ControlCall.FastHeard key) is sign fine =
      if_keeps (key == c.keys.own) c (controlling.after_event 0 false FallEvent.Stop c) c (λ own. stop_keeps c _ refl refl refl) (same_keeps c c refl refl)
  call_keeps six c _ is sign fine = same_keeps c _ refl refl

  ask_keeps : (six : SixBooks) (x : Ask) → KeysAsk key_a key_b true six x → (is_fell x ≡ true → Knew six.control_a) → Fine six.control_a → Keeps six.control_a (after_ask x six).control_a
  ask_keeps six (Ask.Control A call) is sign fine = call_keeps six six.control_a call is sign fine
  ask_keeps six (Ask.Control B call) is sign fine = same_keeps six.control_a six.control_a refl refl
  ask_keeps six (Ask.Send A call) is sign fine = same_keeps six.control_a six.control_a refl refl
  ask_keeps six (Ask.Send B call) is sign fine = same_keeps six.control_a six.control_a refl refl
  ask_keeps six (Ask.Reassembly A call) is sign fine = same_keeps six.control_a six.control_a refl refl
  ask_keeps six (Ask.Reassembly B call) is sign fine = same_keeps six.control_a six.control_a refl refl
  ask_keeps six (Ask.Local step) is sign fine = same_keeps six.control_a six.control_a refl refl

  -- ---- what A gains

  -- a handshake without a key lets it fall, unless it knew more
  plain_gains : (c : Control) → Fine c → Knew (record c { fall = (after_plain c.fall).0 })
  plain_gains c fine = by (is_starting c.fall.mode) refl c.fall.joined refl
    where
      by : (x : Bool) → is_starting c.fall.mode ≡ x → (y : Bool) → c.fall.joined ≡ y → Knew (record c { fall = (if x && not y then goes Mode.Identity c.fall else stays c.fall).0 })
      by true starts true joined = inl (fine.joined joined)
      by true starts false joined = inr refl
      by false starts y joined = knew_past c fine starts

  fell_gains : (c : Control) (path : ℕ) (event : FallEvent) → Fine c → FellGains (Knew (controlling.after c (ControlCall.Fell path event))) event
  fell_gains c path FallEvent.PlainHandshake fine = plain_gains c fine
  fell_gains c path _ fine = tt

  -- the mode that a verdict tells is the book's
  told_gains : (d : Control) (o : Option Mode) → IfSome o (λ mode. d.fall.mode ≡ mode) → Fine d → IfSome o (λ mode. is_starting mode ≡ false → Knew d)
  told_gains d None same fine = tt
  told_gains d (Some mode) same fine = λ is. knew_past d fine (ap is_starting same ∙ is)

  begin_told : (T : Type 0) (c : Control) → (is_starting c.fall.mode ≡ false → T) → ModeGains T (Reply.Control (control.join_begin_reply c))
  begin_told T c past = by (control.may_join c) (control.join_waits c)
    where
      by : (x y : Bool) → ModeGains T (Reply.Control (if x then control.begin c else (if y then ControlReply.NotYet else ControlReply.Never c.fall.mode)))
      by true y = tt
      by false true = tt
      by false false = past

  keys_told : (T : Type 0) (own : ℕ) (c : Control) → ModeGains T (Reply.Control (control.keys_reply own c))
  keys_told T own c = if_so (λ z. ModeGains T (Reply.Control z)) (own == c.keys.own) ControlReply.Noted (ControlReply.KeysDiffer c.keys.own) tt tt

  stop_told : (T : Type 0) (key : ℕ) (c : Control) → ModeGains T (Reply.Control (control.fast_heard_reply key c))
  stop_told T key c = if_so (λ z. ModeGains T (Reply.Control z)) (key == c.keys.own) ControlReply.Stopped (ControlReply.OtherKey c.keys.own) tt tt

  address_told : (T : Type 0) (id : ℕ) (address : Address) (port hmac : ℕ) (c : Control) → ModeGains T (Reply.Control (control.address_reply id address port hmac c))
  address_told T id address port hmac c = elim (heard_reply is_same id address (control.is_right id address port hmac c) c.addresses) as (λ said. ModeGains T (Reply.Control (control.told_heard said)))
      [ AddressHeard.Echo ↦ tt | AddressHeard.Known ↦ tt | AddressHeard.BadHmac ↦ tt ]

  gains : (six : SixBooks) (x : Ask) → KeysAsk key_a key_b true six x → Keeps six.control_a (after_ask x six).control_a → Fine six.control_a → Gains (Knew (after_ask x six).control_a) x (reply_of six x)
  gains six (Ask.Control A call) is keeps fine = by call is keeps
    where
      c : Control
      c = six.control_a

      by : (call : ControlCall) → KeysAsk key_a key_b true six (Ask.Control A call) → Keeps c (controlling.after c call)
          → ModeGains (Knew (controlling.after c call)) (Reply.Control (control.reply_to c call)) × CallGains (Knew (controlling.after c call)) call
      by (ControlCall.Look path) is keeps = (λ starts. knew_keeps c (controlling.after c (ControlCall.Look path)) keeps (knew_past c fine starts), tt)
      by (ControlCall.PeerKey key) is keeps = (tt, inl refl)
      by (ControlCall.Keys own other) is keeps = (keys_told (Knew (controlling.after c (ControlCall.Keys own other))) own c, tt)
      by (ControlCall.Fell path event) is keeps =
          let d : Control = controlling.after c (ControlCall.Fell path event) in (
            told_gains d (mode_told (Reply.Control (ControlReply.Verdict (fall_step c.fall path (sole_path c.paths path) event).1))) (event_turned path (sole_path c.paths path) event c.fall is).told (keeps.fine fine),
            fell_gains c path event fine,
          )
      by (ControlCall.JoinBegin path) is keeps =
          let d : Control = controlling.after c (ControlCall.JoinBegin path) in (begin_told (Knew d) c (λ starts. knew_keeps c d keeps (knew_past c fine starts)), tt)
      by (ControlCall.JoinHeard path token) is keeps = cc
      by (ControlCall.Heard id address port hmac) is keeps = (address_told (Knew (controlling.after c (ControlCall.Heard id address port hmac))) id address port hmac c, tt)
      by (ControlCall.FastHeard key) is keeps = (stop_told (Knew (controlling.after c (ControlCall.FastHeard key))) key c, tt)
      by _ is keeps = (tt, tt)
  gains six (Ask.Control B call) is keeps fine = tt
  gains six _ is keeps fine = tt

  -- ---- actors

  -- path 0 knows that; the others begin with the key
  abbrev pub MemberMet : Type 0 → Actor Carried → Type 0
  MemberMet T (App a) = Unit {0}
  MemberMet T (Path p) = (is_joined p.profile ≡ true) ⊎ PathMet T p

  more_member : (T U : Type 0) (m : Actor Carried) → (T → U) → MemberMet T m → MemberMet U m
  more_member T U (App a) more h = tt
  more_member T U (Path p) more (inl joins) = inl joins
  more_member T U (Path p) more (inr h) = inr (more_met T U p more h)

  next_member : (T : Type 0) (m : Actor Carried) → MemberMet T m → is_over m ≡ true → MemberMet T (member_next m)
  next_member T (App a) h over = tt
  next_member T (Path p) (inl joins) over = inl (ap is_joined (first_keeps (record p { clock = p.until; until = p.until + 100 })).1 ∙ joins)
  next_member T (Path p) (inr (inl h)) over =
      inr (inl (begun_turn T (record p { clock = p.until; until = p.until + 100 }) (record { first = h.first; calm = refl; met = h.met; signed = λ is. absurd (false≢true is); mode = h.mode })))
  next_member T (Path p) (inr (inr h)) over = absurd (still h.begins (ap is_nil (sym h.agenda_is) ∙ over))
    where
      still : (begins : Bool) → is_nil (if begins then Duty.Ask (AskDuty.SynAnswered A) ∷ Duty.Ask (AskDuty.PeerKey A) ∷ h.rest else Duty.Ask (AskDuty.PeerKey A) ∷ h.rest) ≡ true → ⊥
      still = elim [ true ↦ λ is. false≢true is | false ↦ λ is. false≢true is ]

  -- ---- worlds

  pub record WorldMet (w : WorldState Carried) : Type 0 where
    pub keys : WorldIs key_a key_b true w
    pub crew : Every (λ c. MemberMet (Knew (books_in w.books).control_a) c.member) w.crew
    pub fine : Fine (books_in w.books).control_a

  peer_key_is : (o : Option ℕ) → is_some o ≡ true → IfSome o (λ key. key ≡ key_b) → o ≡ Some key_b
  peer_key_is = elim [ None ↦ λ some is. absurd (false≢true some) | Some key ↦ λ some is. ap (λ n. Some n) is ]

  knowing : (w : WorldState Carried) → WorldMet w → true ≡ true → control.is_sure (books_in w.books).control_a.fall.mode ≡ true → (books_in w.books).control_a.keys.peer ≡ Some key_b
  knowing w h right is = peer_key_is (books_in w.books).control_a.keys.peer (h.fine.sure is) h.keys.books.a.peer_is

  -- a fast close is no sign
  no_stop_fell : (s : Side) → is_fell (Ask.Control s ControlCall.FastClose) ≡ false
  no_stop_fell = elim [ A ↦ refl | B ↦ refl ]

  -- a member that tells a sign has the key, or its side is past being sure
  app_signs : (T : Type 0) (ds : List AppDuty) (a : AppState) (x : Ask) → app_asks_first ds a ≡ Some x → is_fell x ≡ true → T
  app_signs T [] a x is fell = cc
  app_signs T (AppDuty.FastClose ∷ ds) a x is fell = absurd (false≢true (sym (no_stop_fell a.side) ∙ ap is_fell (same_Some _ x is) ∙ fell))
  app_signs T (AppDuty.AbortSend ∷ ds) a x is fell = absurd (false≢true (ap is_fell (same_Some _ x is) ∙ fell))
  app_signs T (AppDuty.AbortReceive ∷ ds) a x is fell = absurd (false≢true (ap is_fell (same_Some _ x is) ∙ fell))
  app_signs T (AppDuty.Write ∷ ds) a x is fell = absurd (false≢true (ap is_fell (same_Some _ x is) ∙ fell))
  app_signs T (AppDuty.Close ∷ ds) a x is fell = absurd (false≢true (ap is_fell (same_Some _ x is) ∙ fell))
  app_signs T (AppDuty.Read ∷ ds) a x is fell = absurd (false≢true (ap is_fell (same_Some _ x is) ∙ fell))
  app_signs T (AppDuty.End ∷ ds) a x is fell = absurd (false≢true (ap is_fell (same_Some _ x is) ∙ fell))

  member_signs : (six : SixBooks) (m : Actor Carried) (x : Ask) → member_asks values m ≡ Some x → is_fell x ≡ true → MemberIs key_a key_b true six m → Fine six.control_a
      → MemberMet (Knew six.control_a) m → Knew six.control_a
  member_signs six (App a) x is fell keys fine h = app_signs (Knew six.control_a) a.agenda a x is fell
  member_signs six (Path p) x is fell keys fine (inl joins) =
      asked_sign p (Knew six.control_a) x is fell (λ sign. inl (fine.joined (keys.is.known (Voice.Says A) (sign_speaks p p.agenda sign) joins).0))
  member_signs six (Path p) x is fell keys fine (inr h) = asked_first p (Knew six.control_a) x is fell h

  takes_member : (six : SixBooks) (x : Ask) (m : Actor Carried) → member_asks values m ≡ Some x → Gains (Knew (after_ask x six).control_a) x (reply_of six x)
      → MemberMet (Knew (after_ask x six).control_a) m → MemberMet (Knew (after_ask x six).control_a) (member_takes values (reply_of six x) m)
  takes_member six x (App a) is gain h = tt
  takes_member six x (Path p) is gain (inl joins) = inl (ap is_joined (takes_keeps values (reply_of six x) p).1 ∙ joins)
  takes_member six x (Path p) is gain (inr h) =
      inr (takes_met (Knew (after_ask x six).control_a) (reply_of six x) p
      (λ y asks. subst (λ z. Gains (Knew (after_ask x six).control_a) z (reply_of six x)) (same_Some x y (sym is ∙ asks)) gain) h)

  pub turn_met : (turn : Turn) (w : WorldState Carried) → WorldMet w → WorldMet (after_turn values turn w)
  turn_met turn w h =
      turn_so values (λ v. WorldIs key_a key_b true v → WorldMet v) turn w (λ keys. h)
      (λ actor c x there is keys.
      let six = books_in w.books in
      let own = h.crew.each actor c there in
      let own_keys = h.keys.crew.each actor c there in
      let asks_keys = member_asks_are key_a key_b true six c.member x own_keys is in
      let sign = λ (fell : is_fell x ≡ true). member_signs six c.member x is fell own_keys h.fine own in
      let kept = ask_keeps six x asks_keys sign h.fine in
      let gain = gains six x asks_keys kept h.fine in
      let knew = λ (was : Knew six.control_a). knew_keeps six.control_a (after_ask x six).control_a kept was in
      let now = books_after x c.pass w.books in
      record {
        keys = keys;
        crew = subst (λ (y : SixBooks). Every (λ d. MemberMet (Knew y.control_a) d.member) (asked values actor (Some x) c w).crew) (sym now) (record {
          each = λ i d at. ⊎_elim
              (λ here. subst (λ y. MemberMet (Knew (after_ask x six).control_a) y.member) here.1
              (takes_member six x c.member is gain (more_member (Knew six.control_a) (Knew (after_ask x six).control_a) c.member knew own)))
              (λ other. more_member (Knew six.control_a) (Knew (after_ask x six).control_a) d.member knew (h.crew.each i d other.1))
              (in_set w.crew actor (crew_after values x w.books c) i d at);
        });
        fine = subst (λ (y : SixBooks). Fine y.control_a) (sym now) (kept.fine h.fine);
      })
      (λ over keys. record {
        keys = keys;
        crew = record {
          each = λ i d at.
              let found = in_map (begins (greatest 0 w.crew)) w.crew i d at in
              subst (λ y. MemberMet (Knew (books_in w.books).control_a) y.member) found.2
              (next_member (Knew (books_in w.books).control_a) found.0.member (h.crew.each i found.0 found.1) (all_over_each w.crew i found.0 over found.1));
        };
        fine = h.fine;
      })
      (turn_keys key_a key_b true turn w (knowing w h) h.keys)

  pub run_met : (turns : List Turn) (w : WorldState Carried) → WorldMet w → WorldMet (world_run values turns w)
  run_met [] w h = h
  run_met (turn ∷ turns) w h = run_met turns (after_turn values turn w) (turn_met turn w h)

  run_joins : (turns : List Turn) (w : WorldState Carried) → WorldMet w → NoneTold tells_wrong_join values w → NoneTold tells_wrong_join values (world_run values turns w)
  run_joins [] w h none = none
  run_joins (turn ∷ turns) w h none =
      run_joins turns (after_turn values turn w) (turn_met turn w h) (turn_none tells_wrong_join values turn w (joins_untold key_a key_b true refl w h.keys) none)

pub opened_met : (start : Start) → WorldMet start.key_a start.key_b (opened_world start)
opened_met start = record {
  keys = opened_keys true start;
  crew = record { each = opened_actors (λ actor c. MemberMet start.key_a start.key_b (Knew (books_in (opened_world {C = Carried} start).books).control_a) c.member) start tt tt (λ number plan there. path number plan) };
  fine = record { sure = λ is. absurd (false≢true is); joined = λ is. absurd (false≢true is) };
}
  where
    path : (number : ℕ) (plan : PathPlan) → MemberMet start.key_a start.key_b (Knew (books_in (opened_world {C = Carried} start).books).control_a) (new_path start number plan).member
    path zero plan = inr (inl (begun_turn (Knew (books_in (opened_world {C = Carried} start).books).control_a) (waiting_path (path_begins start 0 plan) start.lines) (record {
      first = refl;
      calm = refl;
      met = λ is. absurd (false≢true is);
      signed = λ is. absurd (false≢true is);
      mode = λ is. absurd (false≢true (sym is));
    })))
    path (suc n) plan =
        inl (ap is_joined (first_keeps (waiting_path {C = Carried} (path_begins start (suc n) plan) start.lines)).1 ∙ lt-ltb 0 (suc n) (omega arith))

-- ---- the law

pub joins_are_right : Always values (λ start w. JoinsAreRight w)
joins_are_right start turns =
    from_each tells_wrong_join values (world_run values turns (opened_world start))
    (run_joins start.key_a start.key_b turns (opened_world start) (opened_met start) (opened_none tells_wrong_join values start))
