-- No control book is told another key than its own: what an end hears are the keys that were drawn.
use Rattle.world_laws.proofs.Words.{◌≡◌, refl, sym, ◌∙◌, ap, subst, ℕ, zero, suc, ◌+◌, ◌&&◌, ◌||◌, ◌==◌, not, nat_lt, ⊎_elim, Bool, true, false, if◌then◌else◌}
use Rattle.world_laws.proofs.Words.{Option, Some, None, List, [], ◌∷◌, arith, is_none, is_some, lt-ltb, and_parts, both_ways, false≢true, same_Some}
use Rattle.world_laws.proofs.Words.{IfSome, token_of, Side, A, B, peer, Asked, ControlCall, ControlReply, sole_path, with_phase, Control}
use Rattle.world_laws.proofs.Words.{peer_or_zero, Opening, ReassemblyCall, Record, Pending, is_waiting, EndState, Piece, start_of_turn, Duty, SendDuty}
use Rattle.world_laws.proofs.Words.{StepDuty, AskDuty, SilentDuty, Heard, KeyPair, key_heard, keys_heard, PeerNotice, Ask, Reply, books_in, SixBooks, reply_of}
use Rattle.world_laws.proofs.Words.{after_ask, LocalStep, AppDuty, AppState, app_ask, app_asks_first, ask_for, waiting_path, first_turn, PathState, end_at}
use Rattle.world_laws.proofs.Words.{with_agenda, answers, asks_of, asks_first, takes, next_round, IsSettled, Carried, values, reset_of, break_ask, first_unsent}
use Rattle.world_laws.proofs.Words.{data_ask, next_event, step_for, asked_at, keys_begun, is_joined, join_heard_ask, piece_of, piece_ask, place_of_fin}
use Rattle.world_laws.proofs.Words.{data_fin_of, fin_ask, is_clash, mapping_ask, item_ask, item_of, fell_ask, plain_ack_ask, breaks_by_ack, is_fall}
use Rattle.world_laws.proofs.Words.{peer_key_ask, opened_ask, is_stopped_by, notice_ask, sends, rate_ask, in_map, Every-nil, in_set, Every, App, Path, Actor}
use Rattle.world_laws.proofs.Words.{member_asks, member_takes, member_next, Always, PathPlan, Start, path_begins, opened_world, WorldState, Turn}
use Rattle.world_laws.proofs.Words.{crew_after, asked, greatest, begins, after_turn, world_run, KeysNeverDiffer}
use Rattle.world_laws.proofs.Words.{tells_bad_address, tells_wrong_join, tells_other_key, if_so}
use Rattle.world_laws.proofs.Worlds.Turns.{turn_so}
use Rattle.control_book.specs.Replies as control
use Rattle.control_book.specs.Steps as controlling
use Rattle.fallback_state.specs.declared.fall.Event.TheVariants as events
use Rattle.path_core.specs.declared.events.Event.{Event}
use Rattle.world_laws.proofs.Weaving.Journals.{books_after}
use Rattle.world_laws.proofs.Falls.FailedChecks.{fail_asks_so, subflow_acks_so}
use Rattle.world_laws.proofs.Falls.WhereASideStands.{is_plain, plain_stays, row_falls}
use Rattle.world_laws.proofs.Keys.AreDrawn.{Deed, Secrets, PeerNoteIs, is_past, drawn_key, ItemIs}
use Rattle.world_laws.proofs.Keys.WhatWakes.{is_up, Voice, is_said_by, speaks, first_speaks, itself}
use Rattle.world_laws.proofs.Keys.Held.{VoiceIs, PathIs, BeginIs, PairIs, AskedIs, end_is, key_found, pair_found, asked_is, more_is}
use Rattle.world_laws.proofs.Keys.StepsKeep.{CallIs, CallReplyIs, AskIs, ReplyIs, carrier_told, item_found, takes_is, begins_is}
use Rattle.world_laws.proofs.Worlds.Settled.{settled_settled}
use Rattle.world_laws.proofs.Worlds.Opened.{opened_actors}
use Rattle.world_laws.proofs.Promises.NoSuchNote.{NoneTold, Untold, from_each, turn_none, opened_none}
use Rattle.world_laws.proofs.Keys.Books.{BookIs, address_right, announces_confirmed, call_is, call_joined, call_keyed, key_untold, join_untold, more_book, noted_keyed}

-- ---- what a path asks

module _ (k : Secrets) (right : Bool) (w : Side → Type 0) (did : Deed → Side → Type 0) (p : PathState Carried) (h : PathIs k right w did p) where
  data_is : (s : Side) (o : Option Record) → AskIs k right w did (data_ask values s o p)
  data_is s None = tt
  data_is s (Some r) = tt

  step_is : (o : Option Event) → AskIs k right w did (step_for p.link.path o)
  step_is (Some (Event.Joins tick)) = refl
  step_is _ = tt

  key_is : (s : Side) (o : Option ℕ) → IfSome o (λ key. key ≡ drawn_key k right (peer s)) → AskIs k right w did (peer_key_ask s o p)
  key_is s None own = tt
  key_is s (Some key) own = own

  keys_are : (s : Side) (o : Option KeyPair) → IfSome o (PairIs k right w did (is_joined p.profile) s) → AskIs k right w did (opened_ask s o p)
  keys_are s None own = tt
  keys_are s (Some keys) own = own.1

  break_is : (s : Side) (reason : ℕ) → AskIs k right w did (break_ask values s reason p)
  break_is s reason =
      if_so (AskIs k right w did) (end_at s p).treated.asked (Ask.Reassembly s ReassemblyCall.AckOut) (sends values s (reset_of s (Some reason) p) p)
      tt tt

  mapping_is : (s : Side) → AskIs k right w did (mapping_ask values s p)
  mapping_is s = if_so (AskIs k right w did) (is_clash (end_at s p)) (break_ask values s 1 p) (fell_ask s events.MappingHeard p) (break_is s 1) tt

  note_is : (s : Side) (notice : PeerNotice) → PeerNoteIs k right w did s notice → AskIs k right w did (notice_ask s notice p)
  note_is s (PeerNotice.AddAddr id address port hmac) own = own
  note_is s _ own = tt

  item_is : (s : Side) (o : Option Heard) → IfSome o (ItemIs k right w did (is_joined p.profile) s) → AskIs k right w did (item_ask values s o p)
  item_is s (Some (Heard.Mapping fin)) own = mapping_is s
  item_is s (Some (Heard.Keys mine other)) own = own.1
  item_is s (Some (Heard.Notice notice)) own = note_is s notice own
  item_is s (Some Heard.Fail) own = fail_asks_so (AskIs k right w did) s p tt tt
  item_is s _ own = tt

  piece_is : (s : Side) (o : Option Piece) → AskIs k right w did (piece_ask s o)
  piece_is s None = tt
  piece_is s (Some piece) = tt

  fin_is : (s : Side) (o : Option ℕ) → AskIs k right w did (fin_ask s o)
  fin_is s None = tt
  fin_is s (Some place) = tt

  rate_is : (s : Side) (o : Option Pending) → AskIs k right w did (rate_ask s o p)
  rate_is s None = tt
  rate_is s (Some pending) = tt

  join_asks : (s : Side) (o : Option Asked) → IfSome o (AskedIs k right w did (is_joined p.profile) s) → AskIs k right w did (join_heard_ask s o p)
  join_asks s None own = tt
  join_asks s (Some asked) own = (own.1.0, (own.1.1.0, λ sure. (own.1.1.1 sure).0))

  plain_ack_is : (s : Side) → AskIs k right w did (plain_ack_ask values s p)
  plain_ack_is s = if_so (AskIs k right w did) (breaks_by_ack p.profile (end_at s p)) (break_ask values s 6 p) (fell_ask s events.PlainAck p) (break_is s 6) tt

  pub asks_are : (d : Duty) → ((x : Voice) → is_said_by x d ≡ true → VoiceIs k right w did p x) → AskIs k right w did (ask_for values d p)
  asks_are (Duty.Ask AskDuty.JoinAgain) said = refl
  asks_are (Duty.Send (SendDuty.Update s)) said = tt
  asks_are (Duty.Step (StepDuty.Data s)) said = data_is s (first_unsent (end_at s p))
  asks_are (Duty.Silent (SilentDuty.Timer s)) said = tt
  asks_are (Duty.Step StepDuty.Events) said = step_is (next_event p)
  asks_are (Duty.Ask (AskDuty.PeerKey s)) said =
      key_is s (key_heard (end_at s p).treated.items) (key_found k right w did (is_joined p.profile) s (end_at s p).treated.items (end_is k right w did s p h).items)
  asks_are (Duty.Ask (AskDuty.JoinHeard s)) said = join_asks s (asked_at s p) (asked_is k right w did (is_joined p.profile) s (end_at s p).treated.items (end_is k right w did s p h).items)
  asks_are (Duty.Ask (AskDuty.Opened s)) said =
      keys_are s (keys_heard (end_at s p).treated.items) (pair_found k right w did (is_joined p.profile) s (end_at s p).treated.items (end_is k right w did s p h).items)
  asks_are (Duty.Step (StepDuty.Heard s index)) said =
      item_is s (item_of index (end_at s p)) (item_found k right w did (is_joined p.profile) s index (end_at s p) (end_is k right w did s p h).items)
  asks_are (Duty.Step (StepDuty.PlainAck s)) said = plain_ack_is s
  asks_are (Duty.Ask (AskDuty.SubflowAck s)) said = subflow_acks_so (AskIs k right w did) s (end_at s p) tt (λ next. tt)
  asks_are (Duty.Step (StepDuty.Unmapped s)) said = break_is s 6
  asks_are (Duty.Ask (AskDuty.SubflowFin s)) said = fin_is s (place_of_fin (end_at s p))
  asks_are (Duty.Ask (AskDuty.Edge s)) said = piece_is s (piece_of s p)
  asks_are (Duty.Ask (AskDuty.HeardFin s index)) said = fin_is s (data_fin_of index (end_at s p))
  asks_are (Duty.Ask (AskDuty.Rate s)) said = rate_is s (end_at s p).tcp.congestion.pending
  asks_are (Duty.Ask (AskDuty.AbortReceive s)) said = λ by_peer. said (Voice.Aborts s) (itself s)
  asks_are _ said = tt

-- ---- all books

-- a side joined: its book began a join, or answered one
abbrev pub Joined : SixBooks → Side → Type 0
Joined six A = six.control_a.fall.joined ≡ true
Joined six B = six.control_b.fall.joined ≡ true

-- and a side fell back to plain TCP, or may have done so before it was stopped
abbrev pub FellBack : SixBooks → Side → Type 0
FellBack six A = is_plain six.control_a.fall ≡ true
FellBack six B = is_plain six.control_b.fall ≡ true

-- a side that fell back stays so
pub fell_stays : (six : SixBooks) (x : Ask) (s : Side) → FellBack six s → FellBack (after_ask x six) s
fell_stays six (Ask.Control A call) A is = plain_stays six.control_a call is
fell_stays six (Ask.Control A call) B is = is
fell_stays six (Ask.Control B call) A is = is
fell_stays six (Ask.Control B call) B is = plain_stays six.control_b call is
fell_stays six (Ask.Send A call) A is = is
fell_stays six (Ask.Send A call) B is = is
fell_stays six (Ask.Send B call) A is = is
fell_stays six (Ask.Send B call) B is = is
fell_stays six (Ask.Reassembly A call) A is = is
fell_stays six (Ask.Reassembly A call) B is = is
fell_stays six (Ask.Reassembly B call) A is = is
fell_stays six (Ask.Reassembly B call) B is = is
fell_stays six (Ask.Local step) s is = is

-- the book of a side has the peer's key
abbrev pub HasPeerKey : SixBooks → Side → Type 0
HasPeerKey six A = is_some six.control_a.keys.peer ≡ true
HasPeerKey six B = is_some six.control_b.keys.peer ≡ true

-- and keeps it
keyed_stays : (six : SixBooks) (x : Ask) (s : Side) → HasPeerKey six s → HasPeerKey (after_ask x six) s
keyed_stays six (Ask.Control A call) A is = call_keyed six.control_a call is
keyed_stays six (Ask.Control A call) B is = is
keyed_stays six (Ask.Control B call) A is = is
keyed_stays six (Ask.Control B call) B is = call_keyed six.control_b call is
keyed_stays six (Ask.Send A call) A is = is
keyed_stays six (Ask.Send A call) B is = is
keyed_stays six (Ask.Send B call) A is = is
keyed_stays six (Ask.Send B call) B is = is
keyed_stays six (Ask.Reassembly A call) A is = is
keyed_stays six (Ask.Reassembly A call) B is = is
keyed_stays six (Ask.Reassembly B call) A is = is
keyed_stays six (Ask.Reassembly B call) B is = is
keyed_stays six (Ask.Local step) s is = is

-- What a side did: that it has the peer's key is told by its book, and that it fell back, with what there is to say of that beside it;
-- so is all that there is to say of a fast close.
abbrev pub Past : SixBooks → (Deed → Side → Type 0) → Deed → Side → Type 0
Past six also Deed.Fell s = FellBack six s × also Deed.Fell s
Past six also Deed.Closed s = also Deed.Closed s
Past six also Deed.Stopped s = also Deed.Stopped s
Past six also Deed.Keyed s = HasPeerKey six s

-- nothing is said beside it
abbrev pub NoMore : Deed → Side → Type 0
NoMore d s = Unit {0}

-- the more is said of it
past_stays : (also later : Deed → Side → Type 0) → ((d : Deed) (s : Side) → also d s → later d s) → (six : SixBooks) (x : Ask) (d : Deed) (s : Side) → Past six also d s → Past (after_ask x six) later d s
past_stays also later rises six x Deed.Fell s is = (fell_stays six x s is.0, rises Deed.Fell s is.1)
past_stays also later rises six x Deed.Closed s is = rises Deed.Closed s is
past_stays also later rises six x Deed.Stopped s is = rises Deed.Stopped s is
past_stays also later rises six x Deed.Keyed s is = keyed_stays six x s is

module _ (key_a key_b : ℕ) (right : Bool) where
  -- A's book is never confirmed; and where B's is, A's has the peer's key
  pub record BooksAre (six : SixBooks) : Type 0 where
    pub a : BookIs key_a key_b ⊥ six.control_a
    pub b : BookIs key_b key_a (HasPeerKey six A) six.control_b

  abbrev pub with_nonces : ℕ → ℕ → Secrets
  with_nonces nonce_a nonce_b = record { key_a = key_a; key_b = key_b; nonce_a = nonce_a; nonce_b = nonce_b }

  -- keys alone are asked for, which both ends of each path have
  abbrev pub AsksFor : (Deed → Side → Type 0) → SixBooks → Ask → Type 0
  AsksFor also six x = AskIs (with_nonces 0 0) right (Joined six) (Past six also) x

  abbrev pub KeysAsk : SixBooks → Ask → Type 0
  KeysAsk six x = AsksFor NoMore six x

  pub ask_keeps : (also : Deed → Side → Type 0) (six : SixBooks) (x : Ask) → AsksFor also six x → BooksAre six → BooksAre (after_ask x six)
  ask_keeps also six (Ask.Control A call) is h = record { a = call_is (with_nonces 0 0) right (Joined six) (Past six also) A six.control_a call is h.a; b = more_book _ _ _ _ six.control_b (keyed_stays six (Ask.Control A call) A) h.b }
  ask_keeps also six (Ask.Control B call) is h = record { a = h.a; b = call_is (with_nonces 0 0) right (Joined six) (Past six also) B six.control_b call is h.b }
  ask_keeps also six (Ask.Send A call) is h = record { a = h.a; b = h.b }
  ask_keeps also six (Ask.Send B call) is h = record { a = h.a; b = h.b }
  ask_keeps also six (Ask.Reassembly A call) is h = record { a = h.a; b = h.b }
  ask_keeps also six (Ask.Reassembly B call) is h = record { a = h.a; b = h.b }
  ask_keeps also six (Ask.Local step) is h = h

  ask_untold : (six : SixBooks) (x : Ask) → BooksAre six → KeysAsk six x → tells_other_key (reply_of six x) ≡ false
  ask_untold six (Ask.Control A call) h is = key_untold (with_nonces 0 0) right (Joined six) (Past six NoMore) A six.control_a h.a call is
  ask_untold six (Ask.Control B call) h is = key_untold (with_nonces 0 0) right (Joined six) (Past six NoMore) B six.control_b h.b call is
  ask_untold six _ h is = refl

  join_answers : right ≡ true → (six : SixBooks) (x : Ask) → BooksAre six → KeysAsk six x → tells_wrong_join (reply_of six x) ≡ false
  join_answers sure six (Ask.Control A call) h is = join_untold (with_nonces 0 0) right (Joined six) (Past six NoMore) A six.control_a h.a sure call is
  join_answers sure six (Ask.Control B call) h is = join_untold (with_nonces 0 0) right (Joined six) (Past six NoMore) B six.control_b h.b sure call is
  join_answers sure six _ h is = refl

  address_answers : right ≡ true → (six : SixBooks) (x : Ask) → BooksAre six → KeysAsk six x → tells_bad_address (reply_of six x) ≡ false
  address_answers sure six (Ask.Control A call) h is = address_right (with_nonces 0 0) right (Joined six) (Past six NoMore) A six.control_a h.a sure (λ has. has) call is
  address_answers sure six (Ask.Control B call) h is = address_right (with_nonces 0 0) right (Joined six) (Past six NoMore) B six.control_b h.b sure (λ has. has) call is
  address_answers sure six _ h is = refl

  -- where A is sure, it has the peer's key
  abbrev pub SureHasKey : SixBooks → Type 0
  SureHasKey six = control.is_sure six.control_a.fall.mode ≡ true → six.control_a.keys.peer ≡ Some key_b

  -- a book that lets a join go on has the peer's key, and joined by that
  begins_so : (also : Deed → Side → Type 0) (six : SixBooks) (path : ℕ) → (right ≡ true → SureHasKey six) → BooksAre six
      → IfSome (keys_begun (Reply.Control (control.join_begin_reply six.control_a))) (BeginIs (with_nonces 0 0) right (Joined (after_ask (Ask.Control A (ControlCall.JoinBegin path)) six)) (Past (after_ask (Ask.Control A (ControlCall.JoinBegin path)) six) also) A)
  begins_so also six path knows h = by (control.may_join six.control_a) refl (control.join_waits six.control_a)
    where
      c : Control
      c = six.control_a

      begun : (x : Bool) → Type 0
      begun x = (if x then controlling.after_join (record c { paths = with_phase path Opening c.paths }) else c).fall.joined ≡ true

      by : (x : Bool) → control.may_join c ≡ x → (y : Bool)
          → IfSome (keys_begun (Reply.Control (if x then control.begin c else (if y then ControlReply.NotYet else ControlReply.Never c.fall.mode))))
          (BeginIs (with_nonces 0 0) right (Joined (after_ask (Ask.Control A (ControlCall.JoinBegin path)) six)) (Past (after_ask (Ask.Control A (ControlCall.JoinBegin path)) six) also) A)
      by true may y = (h.a.own_is, (subst begun (sym may) refl, λ is. ap peer_or_zero (knows is (and_parts (control.is_sure c.fall.mode) (is_none c.fall.failed) may).0)))
      by false may true = tt
      by false may false = tt

  heard_so : (s : Side) (token : ℕ) (c : Control) (u : Side → Type 0) (gone : Deed → Side → Type 0) (T : Type 0) → ((controlling.after_join_heard token c).fall.joined ≡ true → u s)
      → BookIs (drawn_key (with_nonces 0 0) right s) (drawn_key (with_nonces 0 0) right (peer s)) T c
      → IfSome (keys_begun (Reply.Control (control.join_heard_reply token c))) (BeginIs (with_nonces 0 0) right u gone s)
  heard_so s token c u gone T joins h = by (token == token_of c.keys.own) c.fall.confirmed refl (control.is_starting c.fall.mode || control.is_sure c.fall.mode) joins
    where
      by : (known confirmed : Bool) → c.fall.confirmed ≡ confirmed → (begins : Bool)
          → ((if known && confirmed && begins then controlling.after_join c else c).fall.joined ≡ true → u s)
          → IfSome (keys_begun (Reply.Control (if not known then ControlReply.UnknownToken (token_of c.keys.own)
          else (if not confirmed then ControlReply.NotConfirmed else (if begins then control.begin c else ControlReply.Fallen c.fall.mode))))) (BeginIs (with_nonces 0 0) right u gone s)
      by false confirmed is begins joins = tt
      by true false is begins joins = tt
      by true true is true joins = (h.own_is, (joins refl, λ sure. ap peer_or_zero (h.confirmed is).0))
      by true true is false joins = tt

  -- what a reply tells of a fall or a fast close is so
  abbrev pub Tells : (Deed → Side → Type 0) → Ask → Reply → Type 0
  Tells also (Ask.Control s (ControlCall.Look path)) r = IfSome (carrier_told r) (λ key. also Deed.Closed s)
  Tells also (Ask.Control s (ControlCall.Fell path event)) r = is_fall r ≡ true → also Deed.Fell s
  Tells also (Ask.Control s (ControlCall.FastHeard key)) r = is_stopped_by r ≡ true → also Deed.Stopped s
  Tells also _ r = Unit {0}

  reply_so : (also : Deed → Side → Type 0) (six : SixBooks) (x : Ask) → Tells also x (reply_of six x) → (right ≡ true → SureHasKey six) → BooksAre six
      → ReplyIs (with_nonces 0 0) right (Joined (after_ask x six)) (Past (after_ask x six) also) x (reply_of six x)
  reply_so also six (Ask.Control A call) told knows h = by call told
    where
      by : (call : ControlCall) → Tells also (Ask.Control A call) (Reply.Control (control.reply_to six.control_a call))
          → CallReplyIs (with_nonces 0 0) right (Joined (after_ask (Ask.Control A call) six)) (Past (after_ask (Ask.Control A call) six) also) A call (Reply.Control (control.reply_to six.control_a call))
      by (ControlCall.Look path) told = (told, announces_confirmed _ six.control_a path (λ confirmed. absurd (h.a.confirmed confirmed).1))
      by (ControlCall.PeerKey key) told = refl
      by (ControlCall.Keys own other) told = noted_keyed own other six.control_a
      by (ControlCall.Fell path event) told = λ fell. let row = row_falls path (sole_path six.control_a.paths path) event six.control_a.fall fell in ((row.0, told fell), λ is. both_ways _ row.1 is)
      by (ControlCall.JoinBegin path) told = begins_so also six path knows h
      by (ControlCall.JoinHeard path token) told = heard_so A token six.control_a (Joined (after_ask (Ask.Control A (ControlCall.JoinHeard path token)) six)) (Past (after_ask (Ask.Control A (ControlCall.JoinHeard path token)) six) also) _ (λ is. is) h.a
      by (ControlCall.FastHeard key) told = told
      by _ told = tt
  reply_so also six (Ask.Control B call) told knows h = by call told
    where
      by : (call : ControlCall) → Tells also (Ask.Control B call) (Reply.Control (control.reply_to six.control_b call))
          → CallReplyIs (with_nonces 0 0) right (Joined (after_ask (Ask.Control B call) six)) (Past (after_ask (Ask.Control B call) six) also) B call (Reply.Control (control.reply_to six.control_b call))
      by (ControlCall.Look path) told = (told, announces_confirmed _ six.control_b path (λ confirmed. (refl, (h.b.confirmed confirmed).1)))
      by (ControlCall.PeerKey key) told = refl
      by (ControlCall.Keys own other) told = noted_keyed own other six.control_b
      by (ControlCall.Fell path event) told = λ fell. let row = row_falls path (sole_path six.control_b.paths path) event six.control_b.fall fell in ((row.0, told fell), λ is. both_ways _ row.1 is)
      by (ControlCall.JoinHeard path token) told = heard_so B token six.control_b (Joined (after_ask (Ask.Control B (ControlCall.JoinHeard path token)) six)) (Past (after_ask (Ask.Control B (ControlCall.JoinHeard path token)) six) also) _ (λ is. is) h.b
      by (ControlCall.FastHeard key) told = told
      by _ told = tt
  reply_so also six (Ask.Send s call) told knows h = tt
  reply_so also six (Ask.Reassembly s call) told knows h = tt
  reply_so also six (Ask.Local step) told knows h = tt

  -- a side that joined has joined for ever
  pub joined_stays : (six : SixBooks) (x : Ask) (s : Side) → Joined six s → Joined (after_ask x six) s
  joined_stays six (Ask.Control A call) A is = call_joined six.control_a call is
  joined_stays six (Ask.Control A call) B is = is
  joined_stays six (Ask.Control B call) A is = is
  joined_stays six (Ask.Control B call) B is = call_joined six.control_b call is
  joined_stays six (Ask.Send A call) A is = is
  joined_stays six (Ask.Send A call) B is = is
  joined_stays six (Ask.Send B call) A is = is
  joined_stays six (Ask.Send B call) B is = is
  joined_stays six (Ask.Reassembly A call) A is = is
  joined_stays six (Ask.Reassembly A call) B is = is
  joined_stays six (Ask.Reassembly B call) A is = is
  joined_stays six (Ask.Reassembly B call) B is = is
  joined_stays six (Ask.Local step) s is = is

  -- ---- actors

  pub record PathKnows (also : Deed → Side → Type 0) (six : SixBooks) (p : PathState Carried) : Type 0 where
    pub nonce_a : ℕ
    pub nonce_b : ℕ
    pub settled : IsSettled p
    pub is : PathIs (with_nonces nonce_a nonce_b) right (Joined six) (Past six also) p

  abbrev pub PathKeys : SixBooks → PathState Carried → Type 0
  PathKeys six p = PathKnows NoMore six p

  abbrev pub MemberIs : SixBooks → Actor Carried → Type 0
  MemberIs six (App a) = Unit {0}
  MemberIs six (Path p) = PathKeys six p

  pub path_more : (also later : Deed → Side → Type 0) → ((d : Deed) (s : Side) → also d s → later d s) → (six : SixBooks) (x : Ask) (p : PathState Carried) → PathKnows also six p → PathKnows later (after_ask x six) p
  path_more also later rises six x p h = record {
    nonce_a = h.nonce_a;
    nonce_b = h.nonce_b;
    settled = h.settled;
    is = more_is (with_nonces h.nonce_a h.nonce_b) right (Joined six) (Joined (after_ask x six)) (Past six also) (Past (after_ask x six) later) (joined_stays six x) (past_stays also later rises six x) p h.is;
  }

  pub path_same : (also later : Deed → Side → Type 0) → ((d : Deed) (s : Side) → also d s → later d s) → (six : SixBooks) (p : PathState Carried) → PathKnows also six p → PathKnows later six p
  path_same also later rises six p h = path_more also later rises six (Ask.Local LocalStep.End) p h

  more_keys : (six : SixBooks) (x : Ask) (m : Actor Carried) → MemberIs six m → MemberIs (after_ask x six) m
  more_keys six x (App a) h = tt
  more_keys six x (Path p) h = path_more NoMore NoMore (λ d s is. is) six x p h

  pub path_next : (also : Deed → Side → Type 0) (six : SixBooks) (p : PathState Carried) → PathKnows also six p → PathKnows also six (next_round p)
  path_next also six p h = let q : PathState Carried = record p { clock = p.until; until = p.until + 100 } in record {
    nonce_a = h.nonce_a;
    nonce_b = h.nonce_b;
    settled = settled_settled start_of_turn (with_agenda start_of_turn q);
    is = begins_is (with_nonces h.nonce_a h.nonce_b) right (Joined six) (Past six also) q (record { a = h.is.a; b = h.is.b; copies = h.is.copies; known = h.is.known; waits = h.is.waits });
  }

  next_keys : (six : SixBooks) (m : Actor Carried) → MemberIs six m → MemberIs six (member_next m)
  next_keys six (App a) h = tt
  next_keys six (Path p) h = path_next NoMore six p h

  pub app_asks_are : (six : SixBooks) (d : AppDuty) (a : AppState) → KeysAsk six (app_ask d a)
  app_asks_are six AppDuty.AbortReceive a = λ by_peer. absurd (false≢true by_peer)
  app_asks_are six _ a = tt

  app_asks : (six : SixBooks) (ds : List AppDuty) (a : AppState) (x : Ask) → app_asks_first ds a ≡ Some x → KeysAsk six x
  app_asks six [] a x is = cc
  app_asks six (d ∷ ds) a x is = subst (KeysAsk six) (same_Some _ x is) (app_asks_are six d a)

  -- what is said of keys doesn't depend on the nonces
  module _ (w : Side → Type 0) (did : Deed → Side → Type 0) (nonce_a nonce_b : ℕ) where
    ask_alone : (x : Ask) → AskIs (with_nonces nonce_a nonce_b) right w did x → AskIs (with_nonces 0 0) right w did x
    ask_alone (Ask.Control s call) h = by s call h
      where
        by : (s : Side) (call : ControlCall) → CallIs (with_nonces nonce_a nonce_b) right w did s call → CallIs (with_nonces 0 0) right w did s call
        by A (ControlCall.PeerKey key) h = h
        by B (ControlCall.PeerKey key) h = h
        by A (ControlCall.Keys own other) h = h
        by B (ControlCall.Keys own other) h = h
        by A (ControlCall.JoinHeard path token) h = h
        by B (ControlCall.JoinHeard path token) h = h
        by A (ControlCall.Heard id address port hmac) h = h
        by B (ControlCall.Heard id address port hmac) h = h
        by s (ControlCall.FastHeard key) h = tt
        by s _ h = h
    ask_alone (Ask.Send s call) h = tt
    ask_alone (Ask.Reassembly s call) h = h
    ask_alone (Ask.Local step) h = tt

    reply_alone : (x : Ask) (r : Reply) → ReplyIs (with_nonces 0 0) right w did x r → ReplyIs (with_nonces nonce_a nonce_b) right w did x r
    reply_alone (Ask.Control s call) r h = by s call h
      where
        by : (s : Side) (call : ControlCall) → CallReplyIs (with_nonces 0 0) right w did s call r → CallReplyIs (with_nonces nonce_a nonce_b) right w did s call r
        by A (ControlCall.Look path) h = h
        by B (ControlCall.Look path) h = h
        by A (ControlCall.PeerKey key) h = h
        by B (ControlCall.PeerKey key) h = h
        by A (ControlCall.Keys own other) h = h
        by B (ControlCall.Keys own other) h = h
        by A (ControlCall.Fell path event) h = h
        by B (ControlCall.Fell path event) h = h
        by A (ControlCall.JoinBegin path) h = h
        by B (ControlCall.JoinBegin path) h = tt
        by A (ControlCall.JoinHeard path token) h = h
        by B (ControlCall.JoinHeard path token) h = h
        by A (ControlCall.Live path backup) h = tt
        by B (ControlCall.Live path backup) h = tt
        by A (ControlCall.Dead path) h = tt
        by B (ControlCall.Dead path) h = tt
        by A (ControlCall.Rate path window rtt) h = tt
        by B (ControlCall.Rate path window rtt) h = tt
        by A (ControlCall.Backup path on) h = tt
        by B (ControlCall.Backup path on) h = tt
        by A (ControlCall.Announce id) h = tt
        by B (ControlCall.Announce id) h = tt
        by A (ControlCall.Withdraw id) h = tt
        by B (ControlCall.Withdraw id) h = tt
        by A (ControlCall.Heard id address port hmac) h = tt
        by B (ControlCall.Heard id address port hmac) h = tt
        by A (ControlCall.Echoed id) h = tt
        by B (ControlCall.Echoed id) h = tt
        by A (ControlCall.Removed id) h = tt
        by B (ControlCall.Removed id) h = tt
        by A ControlCall.FastClose h = tt
        by B ControlCall.FastClose h = tt
        by A (ControlCall.FastHeard key) h = h
        by B (ControlCall.FastHeard key) h = h
    reply_alone (Ask.Send s call) r h = tt
    reply_alone (Ask.Reassembly s call) r h = tt
    reply_alone (Ask.Local step) r h = tt

  pub path_asks : (also : Deed → Side → Type 0) (six : SixBooks) (d : Duty) (ds : List Duty) (p : PathState Carried) → p.agenda ≡ d ∷ ds → PathKnows also six p → AsksFor also six (ask_for values d p)
  path_asks also six d ds p is h =
      ask_alone (Joined six) (Past six also) h.nonce_a h.nonce_b (ask_for values d p)
      (asks_are (with_nonces h.nonce_a h.nonce_b) right (Joined six) (Past six also) p h.is d
      (λ x said. h.is.known x (subst (λ xs. speaks x xs ≡ true) (sym is) (first_speaks x d ds said))))

  first_asks : (six : SixBooks) (ds : List Duty) (p : PathState Carried) (x : Ask) → p.agenda ≡ ds → PathKeys six p → asks_first values ds p ≡ Some x → KeysAsk six x
  first_asks six [] p x same h is = cc
  first_asks six (d ∷ ds) p x same h is = subst (KeysAsk six) (same_Some _ x is) (path_asks NoMore six d ds p same h)

  pub member_asks_are : (six : SixBooks) (m : Actor Carried) (x : Ask) → MemberIs six m → member_asks values m ≡ Some x → KeysAsk six x
  member_asks_are six (App a) x h is = app_asks six a.agenda a x is
  member_asks_are six (Path p) x h is = first_asks six p.agenda p x refl h is

  takes_settled : (r : Reply) (p : PathState Carried) → IsSettled (takes values r p)
  takes_settled r p = let q : PathState Carried = answers values p.agenda r p in settled_settled q.agenda q

  -- the reply of the books to what a path asks
  pub path_takes : (also later : Deed → Side → Type 0) → ((d : Deed) (s : Side) → also d s → later d s) → (six : SixBooks) (x : Ask) (p : PathState Carried) → asks_of values p ≡ Some x
      → Tells later x (reply_of six x) → (right ≡ true → SureHasKey six) → BooksAre six → PathKnows also six p → PathKnows later (after_ask x six) (takes values (reply_of six x) p)
  path_takes also later rises six x p asks told knows books h = record {
    nonce_a = h.nonce_a;
    nonce_b = h.nonce_b;
    settled = takes_settled (reply_of six x) p;
    is = takes_is (with_nonces h.nonce_a h.nonce_b) right u gone (reply_of six x) p h.settled
        (λ y is. reply_alone u gone h.nonce_a h.nonce_b y (reply_of six x) (subst (λ z. ReplyIs (with_nonces 0 0) right u gone z (reply_of six x)) (same_Some x y (sym asks ∙ is)) (reply_so later six x told knows books)))
        (more_is (with_nonces h.nonce_a h.nonce_b) right (Joined six) u (Past six also) gone (joined_stays six x) (past_stays also later rises six x) p h.is);
  }
    where
      u : Side → Type 0
      u = Joined (after_ask x six)

      gone : Deed → Side → Type 0
      gone = Past (after_ask x six) later

  if_any : (o : Option ℕ) → IfSome o (λ key. Unit {0})
  if_any = elim [ None ↦ tt | Some key ↦ tt ]

  -- of which nothing is said
  says_no_more : (six : SixBooks) (x : Ask) → Tells NoMore x (reply_of six x)
  says_no_more six (Ask.Control s (ControlCall.Look path)) = if_any (carrier_told (reply_of six (Ask.Control s (ControlCall.Look path))))
  says_no_more six (Ask.Control s (ControlCall.Fell path event)) = λ is. tt
  says_no_more six (Ask.Control s (ControlCall.FastHeard key)) = λ is. tt
  says_no_more six (Ask.Control s ControlCall.FastClose) = tt
  says_no_more six _ = tt

  takes_keys : (six : SixBooks) (x : Ask) (m : Actor Carried) → member_asks values m ≡ Some x → (right ≡ true → SureHasKey six) → BooksAre six → MemberIs six m
      → MemberIs (after_ask x six) (member_takes values (reply_of six x) m)
  takes_keys six x (App a) asks knows books h = tt
  takes_keys six x (Path p) asks knows books h = path_takes NoMore NoMore (λ d s is. is) six x p asks (says_no_more six x) knows books h

  -- ---- worlds

  pub record WorldIs (w : WorldState Carried) : Type 0 where
    pub crew : Every (λ c. MemberIs (books_in w.books) c.member) w.crew
    pub books : BooksAre (books_in w.books)

  abbrev Knowing : WorldState Carried → Type 0
  Knowing w = right ≡ true → SureHasKey (books_in w.books)

  pub turn_keys : (turn : Turn) (w : WorldState Carried) → Knowing w → WorldIs w → WorldIs (after_turn values turn w)
  turn_keys turn w knows h =
      turn_so values WorldIs turn w h
      (λ actor c x there is.
      let six = books_in w.books in
      let now : books_in (asked values actor (Some x) c w).books ≡ after_ask x six = books_after x c.pass w.books in
      record {
        crew = subst (λ (y : SixBooks). Every (λ d. MemberIs y d.member) (asked values actor (Some x) c w).crew) (sym now) (record {
          each = λ i d at. ⊎_elim
              (λ here. subst (λ y. MemberIs (after_ask x six) y.member) here.1 (takes_keys six x c.member is knows h.books (h.crew.each actor c there)))
              (λ other. more_keys six x d.member (h.crew.each i d other.1))
              (in_set w.crew actor (crew_after values x w.books c) i d at);
        });
        books = subst BooksAre (sym now) (ask_keeps NoMore six x (member_asks_are six c.member x (h.crew.each actor c there) is) h.books);
      })
      (λ over. record {
        crew = record {
          each = λ i d at. let found = in_map (begins (greatest 0 w.crew)) w.crew i d at in subst (λ y. MemberIs (books_in w.books) y.member) found.2 (next_keys (books_in w.books) found.0.member (h.crew.each i found.0 found.1));
        };
        books = h.books;
      })

  untold : (w : WorldState Carried) → WorldIs w → Untold tells_other_key values w
  untold w h actor c x there asks = ask_untold (books_in w.books) x h.books (member_asks_are (books_in w.books) c.member x (h.crew.each actor c there) asks)

  pub addresses_untold : right ≡ true → (w : WorldState Carried) → WorldIs w → Untold tells_bad_address values w
  addresses_untold sure w h actor c x there asks = address_answers sure (books_in w.books) x h.books (member_asks_are (books_in w.books) c.member x (h.crew.each actor c there) asks)

  pub joins_untold : right ≡ true → (w : WorldState Carried) → WorldIs w → Untold tells_wrong_join values w
  joins_untold sure w h actor c x there asks = join_answers sure (books_in w.books) x h.books (member_asks_are (books_in w.books) c.member x (h.crew.each actor c there) asks)

-- the books, and a path, as the connection opens
abbrev pub opened_six : Start → SixBooks
opened_six start = books_in (opened_world {C = Carried} start).books

pub opened_books_are : (right : Bool) (start : Start) → BooksAre start.key_a start.key_b right (opened_six start)
opened_books_are right start = record { a = record { own_is = refl; peer_is = tt; confirmed = λ is. absurd (false≢true is) }; b = record { own_is = refl; peer_is = tt; confirmed = λ is. absurd (false≢true is) } }

pub opened_path : (also : Deed → Side → Type 0) (right : Bool) (start : Start) (number : ℕ) (plan : PathPlan)
    → PathKnows start.key_a start.key_b right also (opened_six start) (first_turn (path_begins start number plan) start.lines)
opened_path also right start number plan = record {
  nonce_a = plan.nonce_a;
  nonce_b = plan.nonce_b;
  settled = settled_settled start_of_turn (with_agenda start_of_turn (waiting_path (path_begins start number plan) start.lines));
  is = begins_is (record { key_a = start.key_a; key_b = start.key_b; nonce_a = plan.nonce_a; nonce_b = plan.nonce_b }) right (Joined (opened_six start)) (Past (opened_six start) also) (waiting_path (path_begins start number plan) start.lines) (record {
    a = record {
      modes = record { own = refl; nonce = refl; peer_is = λ sure. tt; joins = λ owes. absurd (false≢true owes); third = λ owes. absurd (false≢true owes); cleared = λ joined is. absurd (false≢true is); fell = λ is. absurd (false≢true is); keyed = λ first. tt; meets = λ sure is. tt };
      items = Every-nil _;
      woken = λ joined up. absurd (false≢true (sym (waits_up number joined) ∙ up));
      past = λ joined so. absurd (false≢true (sym (waits_past number) ∙ so));
      carries = tt;
      queued = Every-nil _;
      failing = λ joined. tt;
    };
    b = record {
      modes = record { own = refl; nonce = refl; peer_is = λ sure. tt; joins = λ owes. absurd (false≢true owes); third = λ owes. absurd (false≢true owes); cleared = λ joined is. absurd (false≢true is); fell = λ is. absurd (false≢true is); keyed = λ first. tt; meets = λ sure is. absurd (false≢true is) };
      items = Every-nil _;
      woken = λ joined up. absurd (false≢true up);
      past = λ joined so. absurd (false≢true so);
      carries = tt;
      queued = Every-nil _;
      failing = λ joined. tt;
    };
    copies = Every-nil _;
    known = λ x spoken. absurd (false≢true spoken);
    waits = waits_there number;
  });
}
  where
    first_end : ℕ → EndState
    first_end number = (waiting_path {C = Carried} (path_begins start number plan) start.lines).a.tcp

    waits_up : (number : ℕ) → nat_lt 0 number ≡ true → is_up (first_end number) ≡ false
    waits_up = elim [ zero ↦ λ joined. absurd (false≢true joined) | suc n ↦ λ joined. refl ]

    waits_past : (number : ℕ) → is_past (first_end number).state ≡ false
    waits_past = elim [ zero ↦ refl | suc n ↦ refl ]

    waits_there : (number : ℕ) → is_waiting (first_end number).state ≡ true → nat_lt 0 number ≡ true
    waits_there = elim [ zero ↦ λ waits. absurd (false≢true waits) | suc n ↦ λ waits. lt-ltb 0 (suc n) (omega arith) ]

pub opened_keys : (right : Bool) (start : Start) → WorldIs start.key_a start.key_b right (opened_world start)
opened_keys right start = record {
  crew = record { each = opened_actors (λ actor c. MemberIs start.key_a start.key_b right (opened_six start) c.member) start tt tt (λ number plan there. opened_path NoMore right start number plan) };
  books = opened_books_are right start;
}

-- ---- the laws

-- whatever the script does, each key that is told is right
run_keys : (start : Start) (turns : List Turn) (w : WorldState Carried) → WorldIs start.key_a start.key_b false w → NoneTold tells_other_key values w
    → NoneTold tells_other_key values (world_run values turns w)
run_keys start [] w h none = none
run_keys start (turn ∷ turns) w h none =
    run_keys start turns (after_turn values turn w) (turn_keys start.key_a start.key_b false turn w (λ right. absurd (false≢true right)) h)
    (turn_none tells_other_key values turn w (untold start.key_a start.key_b false w h) none)

pub keys_never_differ : Always values (λ start w. KeysNeverDiffer w)
keys_never_differ start turns =
    from_each tells_other_key values (world_run values turns (opened_world start))
    (run_keys start turns (opened_world start) (opened_keys false start) (opened_none tells_other_key values start))
