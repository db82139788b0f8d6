-- What a turn makes of the lanes: records stay, but for that of a path which is granted bytes.
use Rattle.std.proofs.Common.{◌≡◌, refl, sym, ap, ◌∙◌, subst, ℕ, ⊎_elim, ◌⊎◌, inl, inr, Bool, true, false, if◌then◌else◌, Option, Some, None, List, [], ◌∷◌}
use Rattle.std.specs.List.{list_all, slice_get}
use Rattle.std.proofs.lemmas.Bool.{and_parts, false≢true}
use Rattle.std.proofs.Math.ListN.{set}
use Rattle.actor_desk.specs.declared.ask.Ask.{Ask}
use Rattle.actor_desk.specs.Words.{pick}
use Rattle.judge_laws.proofs.Books.{set_either}
use Rattle.judge_laws.proofs.Standing.{some_same}
use Rattle.reassembly_book.specs.Steps.{reply_to}
use Rattle.reassembly_book.specs.declared.call.ReassemblyCall.{ReassemblyCall}
use Rattle.reassembly_book.specs.declared.call.ReassemblyReply.{ReassemblyReply}
use Rattle.send_book.specs.Steps.{reply_to as send_reply}
use Rattle.send_book.specs.declared.call.SendCall.{SendCall}
use Rattle.sides.specs.declared.side.Side.TheVariants.{A, B}
use Rattle.sides.specs.declared.side.Side.{Side}
use Rattle.stream_lanes.specs.Duo.{Duo, Event, after_event, after_events, flags_ab, flags_ba}
use Rattle.stream_lanes.specs.Lane.{Ask as LaneAsk, Lane}
use Rattle.stream_lanes.specs.Moves.{Flags, takes_grant, takes_placed}
use Rattle.stream_lanes.specs.Streams.{Direction, StreamEvent, after, asks, asks_at, goes_infinite, is_done, may_go, moves, reads}
use Rattle.world_laws.proofs.Lanes.OfAWorld.{AreSilent, CallIs, LaneAsks, ReassemblyCallIs, SendCallIs, call_events, is_silent}
use Rattle.own_runs.proofs.SentGrows.{Same, ack_same, fin_same, moved_same, out_same}

-- the direction of what a side sends
abbrev pub way : Side → Duo → Direction
way s d = pick s d.ab d.ba

-- ---- moves

-- each lane has its record and its edge
abbrev pub AllSame : List Lane → List Lane → Type 0
AllSame old new = (n : ℕ) (l : Lane) → slice_get old n ≡ Some l → (m : Lane) × (slice_get new n ≡ Some m) × Same m l

none_same : (lanes : List Lane) → AllSame lanes lanes
none_same lanes n l there = (l, there, (refl, refl))

then_same : (old now new : List Lane) → AllSame old now → AllSame now new → AllSame old new
then_same old now new x y n l there =
    let m = x n l there in let k = y n m.0 m.1 in (k.0, k.1, (k.2.0 ∙ m.2.0, k.2.1 ∙ m.2.1))

set_same : (lanes : List Lane) (path : ℕ) (p q : Lane) → slice_get lanes path ≡ Some p → Same q p → AllSame lanes (set lanes path q)
set_same lanes path p q there same n l at = ⊎_elim
    (λ both. let is : p ≡ l = some_same p l (sym there ∙ ap (slice_get lanes) both.0 ∙ at) in (q, both.1, subst (Same q) is same))
    (λ other. (l, other, (refl, refl)))
    (set_either lanes path n q l at)

moves_same : (f : Flags) (path : ℕ) (m : _) (d : Direction) → AllSame d.lanes (moves f path m (slice_get d.lanes path) d).lanes
moves_same f path m d = by (slice_get d.lanes path) refl
  where
    by : (o : Option Lane) → slice_get d.lanes path ≡ o → AllSame d.lanes (moves f path m o d).lanes
    by None there = none_same d.lanes
    by (Some p) there = set_same d.lanes path p _ there (moved_same f path m p)

moves_send : (f : Flags) (path : ℕ) (m : _) (d : Direction) → (moves f path m (slice_get d.lanes path) d).send ≡ d.send
moves_send f path m d = by (slice_get d.lanes path)
  where
    by : (o : Option Lane) → (moves f path m o d).send ≡ d.send
    by None = refl
    by (Some p) = refl

-- what moves alone leave of a side's direction
pub record Silently (s : Side) (d e : Duo) : Type 0 where
  pub lanes : AllSame (way s d).lanes (way s e).lanes
  pub send : (way s e).send ≡ (way s d).send

silent_event : (event : Event) (s : Side) (d : Duo) → is_silent event ≡ true → Silently s d (after_event event d)
silent_event (Event.ToB (StreamEvent.Moves path m)) A d is = record { lanes = moves_same (flags_ab d.modes) path m d.ab; send = moves_send (flags_ab d.modes) path m d.ab }
silent_event (Event.ToB (StreamEvent.Moves path m)) B d is = record { lanes = none_same d.ba.lanes; send = refl }
silent_event (Event.ToA (StreamEvent.Moves path m)) B d is = record { lanes = moves_same (flags_ba d.modes) path m d.ba; send = moves_send (flags_ba d.modes) path m d.ba }
silent_event (Event.ToA (StreamEvent.Moves path m)) A d is = record { lanes = none_same d.ab.lanes; send = refl }
silent_event (Event.ToB event) s d is = absurd (false≢true is)
silent_event (Event.ToA event) s d is = absurd (false≢true is)
silent_event event A d is = record { lanes = none_same d.ab.lanes; send = refl }
silent_event event B d is = record { lanes = none_same d.ba.lanes; send = refl }

pub silent_events : (events : List Event) (s : Side) (d : Duo) → AreSilent events → Silently s d (after_events events d)
silent_events [] s d is = record { lanes = none_same (way s d).lanes; send = refl }
silent_events (event ∷ events) s d is =
    let both = and_parts (is_silent event) (list_all is_silent events) is in
    let one = silent_event event s d both.0 in
    let more = silent_events events s (after_event event d) both.1 in
    record { lanes = then_same (way s d).lanes (way s (after_event event d)).lanes (way s (after_events events (after_event event d))).lanes one.lanes more.lanes; send = more.send ∙ one.send }

-- ---- the call of a turn

-- each lane has its record
abbrev pub SentSame : List Lane → List Lane → Type 0
SentSame old new = (n : ℕ) (l : Lane) → slice_get old n ≡ Some l → (m : Lane) × (slice_get new n ≡ Some m) × (m.sent ≡ l.sent)

sent_none : (lanes : List Lane) → SentSame lanes lanes
sent_none lanes n l there = (l, there, refl)

set_sent : (lanes : List Lane) (path : ℕ) (p q : Lane) → slice_get lanes path ≡ Some p → q.sent ≡ p.sent → SentSame lanes (set lanes path q)
set_sent lanes path p q there same n l at = ⊎_elim
    (λ both. let is : p ≡ l = some_same p l (sym there ∙ ap (slice_get lanes) both.0 ∙ at) in (q, both.1, subst (λ (x : Lane). q.sent ≡ x.sent) is same))
    (λ other. (l, other, refl))
    (set_either lanes path n q l at)

either_sent : (lanes : List Lane) (b : Bool) (x y : Direction) → SentSame lanes x.lanes → SentSame lanes y.lanes → SentSame lanes (if b then x else y).lanes
either_sent lanes true x y h g = h
either_sent lanes false x y h g = g

-- a path is granted what its book gives
pub record GivesTo (s : Side) (ask : Option Ask) (d e : Duo) : Type 0 where
  pub path : ℕ
  pub most : ℕ
  pub standby : Bool
  pub ask_is : ask ≡ Some (Ask.Send s (SendCall.Grant path most standby))
  pub lane : Lane
  pub there : slice_get (way s d).lanes path ≡ Some lane
  pub lanes : (way s e).lanes ≡ set (way s d).lanes path (takes_grant (send_reply (way s d).send (SendCall.Grant path most standby)) lane)

placed_sent : (count : ℕ) (reply : ReassemblyReply) (p : Lane) → (takes_placed count reply p).sent ≡ p.sent
placed_sent count (ReassemblyReply.Placed new) p = refl
placed_sent count _ p = refl

module _ (f : Flags) (d : Direction) where
  -- an ask that a lane is about to make, which grants nothing
  asked_sent : (x : LaneAsk) → ((path : ℕ) (p : Lane) → slice_get d.lanes path ≡ Some p → SentSame d.lanes (asks path x p d).lanes) → (event : StreamEvent) → LaneAsks x d event
      → SentSame d.lanes (after f event d).lanes
  asked_sent x each event a =
      subst (λ (e : StreamEvent). SentSame d.lanes (after f e d).lanes) (sym a.event_is)
      (subst (λ (o : Option Lane). SentSame d.lanes (asks_at a.path o d).lanes) (sym a.asking.there)
      (subst (λ (y : LaneAsk). SentSame d.lanes (asks a.path y a.asking.lane d).lanes) (sym a.asking.asks) (each a.path a.asking.lane a.asking.there)))

  event_sent : (x y : StreamEvent) → x ≡ y → SentSame d.lanes (after f y d).lanes → SentSame d.lanes (after f x d).lanes
  event_sent x y same sent = subst (λ (e : StreamEvent). SentSame d.lanes (after f e d).lanes) (sym same) sent

  arrival_sent : (c : ReassemblyCall) (event : StreamEvent) → ReassemblyCallIs c d event → SentSame d.lanes (after f event d).lanes
  arrival_sent (ReassemblyCall.Place at bytes) event is =
      asked_sent (LaneAsk.AskPlace at bytes) (λ path p there. set_sent d.lanes path p _ there (placed_sent _ (reply_to d.arrived (ReassemblyCall.Place at bytes)) p)) event is
  arrival_sent (ReassemblyCall.Fin at) event is =
      asked_sent (LaneAsk.AskFin at) (λ path p there. set_sent d.lanes path p _ there (fin_same (reply_to d.arrived (ReassemblyCall.Fin at)) p).0) event is
  arrival_sent (ReassemblyCall.Read most) event is = event_sent event (StreamEvent.Read most) is.0 (by (is_done d.reader))
    where
      by : (done : Bool) → SentSame d.lanes (if done then d else reads most d).lanes
      by true = sent_none d.lanes
      by false = sent_none d.lanes
  arrival_sent ReassemblyCall.AckOut event is =
      asked_sent LaneAsk.AskAckOut (λ path p there. set_sent d.lanes path p _ there (out_same (reply_to d.arrived ReassemblyCall.AckOut) p).0) event is
  arrival_sent (ReassemblyCall.Abort by_peer) event is = event_sent event (StreamEvent.AbortRead by_peer) is (sent_none d.lanes)

  infinite_sent : (path pos : ℕ) → SentSame d.lanes (goes_infinite path pos (slice_get d.lanes path) d).lanes
  infinite_sent path pos = by (slice_get d.lanes path) refl
    where
      by : (o : Option Lane) → slice_get d.lanes path ≡ o → SentSame d.lanes (goes_infinite path pos o d).lanes
      by None there = sent_none d.lanes
      by (Some p) there = either_sent d.lanes (may_go path pos d.send p) _ d (set_sent d.lanes path p _ there refl) (sent_none d.lanes)

-- what a call grants in its direction
record GivesIn (c : SendCall) (d e : Direction) : Type 0 where
  path : ℕ
  most : ℕ
  standby : Bool
  call_is : c ≡ SendCall.Grant path most standby
  lane : Lane
  there : slice_get d.lanes path ≡ Some lane
  lanes : e.lanes ≡ set d.lanes path (takes_grant (send_reply d.send (SendCall.Grant path most standby)) lane)

module _ (f : Flags) (d : Direction) where
  send_so : (c : SendCall) (event : StreamEvent) → SendCallIs c d event → SentSame d.lanes (after f event d).lanes ⊎ GivesIn c d (after f event d)
  send_so (SendCall.Write bytes) event is = inl (event_sent f d event (StreamEvent.Write bytes) is (sent_none d.lanes))
  send_so SendCall.Close event is = inl (event_sent f d event StreamEvent.Close is (sent_none d.lanes))
  send_so (SendCall.Grant path most standby) event is = inr (record {
    path = path;
    most = most;
    standby = standby;
    call_is = refl;
    lane = is.1.lane;
    there = is.1.there;
    lanes = ap (λ (e : StreamEvent). (after f e d).lanes) is.0 ∙ ap (λ (o : Option Lane). (asks_at path o d).lanes) is.1.there ∙ ap (λ (y : LaneAsk). (asks path y is.1.lane d).lanes) is.1.asks;
  })
  send_so (SendCall.AckIn next window) event is =
      inl (asked_sent f d (LaneAsk.AskAckIn next window) (λ path p there. set_sent d.lanes path p _ there (ack_same next (send_reply d.send (SendCall.AckIn next window)) p).0) event is)
  send_so (SendCall.Return path) event is = inl (event_sent f d event (StreamEvent.Return path) is (sent_none d.lanes))
  send_so SendCall.GoIdentity event is = inl (event_sent f d event StreamEvent.GoIdentity is (either_sent d.lanes f.sender _ d (sent_none d.lanes) (sent_none d.lanes)))
  send_so (SendCall.GoInfinite path) event is = inl (event_sent f d event (StreamEvent.GoInfinite path is.0) is.1 (infinite_sent f d path is.0))
  send_so SendCall.Abort event is = inl (event_sent f d event StreamEvent.AbortSend is (sent_none d.lanes))

abbrev Call : Side → Option Ask → Duo → Option Event → Type 0
Call s ask d call = SentSame (way s d).lanes (way s (after_events (call_events call) d)).lanes ⊎ GivesTo s ask d (after_events (call_events call) d)

call_is : (s : Side) (ask : Option Ask) (d : Duo) (x y : Option Event) → x ≡ y → Call s ask d y → Call s ask d x
call_is s ask d x y same h = subst (Call s ask d) (sym same) h

pub call_so : (ask : Option Ask) (d : Duo) (call : Option Event) → CallIs ask d call → (s : Side) → Call s ask d call
call_so (Some (Ask.Send A c)) d call is A = call_is A _ d call (Some (Event.ToB is.0)) is.1 (⊎_elim (λ same. inl same)
    (λ g. inr (record { path = g.path; most = g.most; standby = g.standby; ask_is = ap (λ (x : SendCall). Some (Ask.Send A x)) g.call_is; lane = g.lane; there = g.there; lanes = g.lanes }))
    (send_so (flags_ab d.modes) d.ab c is.0 is.2))
call_so (Some (Ask.Send B c)) d call is B = call_is B _ d call (Some (Event.ToA is.0)) is.1 (⊎_elim (λ same. inl same)
    (λ g. inr (record { path = g.path; most = g.most; standby = g.standby; ask_is = ap (λ (x : SendCall). Some (Ask.Send B x)) g.call_is; lane = g.lane; there = g.there; lanes = g.lanes }))
    (send_so (flags_ba d.modes) d.ba c is.0 is.2))
call_so (Some (Ask.Send A c)) d call is B = call_is B _ d call (Some (Event.ToB is.0)) is.1 (inl (sent_none d.ba.lanes))
call_so (Some (Ask.Send B c)) d call is A = call_is A _ d call (Some (Event.ToA is.0)) is.1 (inl (sent_none d.ab.lanes))
call_so (Some (Ask.Reassembly A c)) d call is A = call_is A _ d call (Some (Event.ToA is.0)) is.1 (inl (sent_none d.ab.lanes))
call_so (Some (Ask.Reassembly A c)) d call is B = call_is B _ d call (Some (Event.ToA is.0)) is.1 (inl (arrival_sent (flags_ba d.modes) d.ba c is.0 is.2))
call_so (Some (Ask.Reassembly B c)) d call is A = call_is A _ d call (Some (Event.ToB is.0)) is.1 (inl (arrival_sent (flags_ab d.modes) d.ab c is.0 is.2))
call_so (Some (Ask.Reassembly B c)) d call is B = call_is B _ d call (Some (Event.ToB is.0)) is.1 (inl (sent_none d.ba.lanes))
call_so (Some (Ask.Control t c)) d call is s = call_is s _ d call None is (inl (sent_none (way s d).lanes))
call_so (Some (Ask.Local step)) d call is s = call_is s _ d call None is (inl (sent_none (way s d).lanes))
call_so None d call is s = call_is s _ d call None is (inl (sent_none (way s d).lanes))
