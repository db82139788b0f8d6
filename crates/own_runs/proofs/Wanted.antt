-- What a receiver's end was told to acknowledge is no more than its book wants next now: all before that came, and the end where it is known.
use Rattle.std.proofs.Common.{◌≡◌, refl, sym, ap, ◌∙◌, subst, ℕ, ◌+◌, ◌≤◌, ◌<◌, ◌==◌, min, ⊎_elim, ◌⊎◌, inl, inr, Bool, true, false, if◌then◌else◌, Option, Some, None, List, [], ◌∷◌, length, drop, replicate, arith}
use Rattle.std.specs.Prelude.{is_some}
use Rattle.std.specs.List.{slice_get}
use Rattle.std.proofs.Math.ListN.{set}
use Rattle.std.proofs.lemmas.Bool.{cases_lt, eq-eqb, eqb-true}
use Rattle.reassembly_book.specs.State.{Arriving, filled, new_arriving, received}
use Rattle.reassembly_book.specs.Steps.{after_call, after_reading, by_place, fin_clash, is_end, is_taken, merged, next_wanted, places_after, reply_to}
use Rattle.reassembly_book.specs.declared.call.ReassemblyCall.TheVariants.{AckOut, Fin, Place}
use Rattle.reassembly_book.specs.declared.call.ReassemblyReply.{ReassemblyReply}
use Rattle.reassembly_book.specs.declared.call.ReassemblyReply.TheVariants.{FinSet, Placed}
use Rattle.send_book.specs.declared.call.SendReply.{SendReply}
use Rattle.send_book.specs.declared.call.SendReply.TheVariants.{Acked, Granted, NoGrant}
use Rattle.send_book.specs.declared.call.SendCall.TheVariants.{GoIdentity as GoIdentityBook}
use Rattle.stream_lanes.proofs.Arrivals.{filled_left}
use Rattle.stream_lanes.proofs.Lists.{in_replicate, in_set}
use Rattle.stream_lanes.specs.Duo.{Duo, Event, after_event, after_events, flags_ab, flags_ba, opening_over}
use Rattle.stream_lanes.specs.Lane.{Ask, Lane, lane_over}
use Rattle.stream_lanes.specs.Moves.{Flags, Move, hears, hears_data_fin, hears_fin, hears_sub, keeps, learns, learns_mapping, moved, places, places_pair, ends_pair, sends_altered, sends_fin_pair, sends_pair, sends_piece, takes_ack, takes_ack_out, takes_fin, takes_grant, takes_pair, takes_placed}
use Rattle.stream_lanes.specs.Streams.{Direction, StreamEvent, after, asks, asks_at, goes_infinite, is_done, may_go, moves, reads, with_send}

-- ---- a book goes on

filled_more : (xs ys : List (Option ℕ)) → length (filled xs) ≤ length (filled (merged xs ys))
filled_more [] ys = omega arith
filled_more (None ∷ xs) ys = omega arith
filled_more (Some x ∷ xs) [] = omega arith
filled_more (Some x ∷ xs) (y ∷ ys) = let rest = filled_more xs ys in omega (arith, rest)

pub record Onward (b c : Arriving) : Type 0 where
  pub more : received b ≤ received c
  pub stays : (e : ℕ) → b.known_end ≡ Some e → c.known_end ≡ Some e

same_onward : (b : Arriving) → Onward b b
same_onward b = record { more = omega arith; stays = λ e is. is }

either_onward : (k : Bool) (b c e : Arriving) → Onward b c → Onward b e → Onward b (if k then c else e)
either_onward true b c e x y = x
either_onward false b c e x y = y

wanted_onward : (b c : Arriving) → Onward b c → next_wanted b ≤ next_wanted c
wanted_onward b c h = by b.known_end c.known_end (h.stays)
  where
    by : (o later : Option ℕ) → ((e : ℕ) → o ≡ Some e → later ≡ Some e) → received b + (if is_end o (received b) then 1 else 0) ≤ received c + (if is_end later (received c) then 1 else 0)
    by None later stays = let more = h.more in omega (arith, more)
    by (Some e) later stays = subst (λ (o : Option ℕ). received b + (if e == received b then 1 else 0) ≤ received c + (if is_end o (received c) then 1 else 0)) (sym (stays e refl)) (reached (e == received b) refl (cases_lt (received b) (received c)))
      where
        reached : (k : Bool) → (e == received b) ≡ k → (received b < received c) ⊎ (received c ≤ received b) → received b + (if k then 1 else 0) ≤ received c + (if e == received c then 1 else 0)
        reached false is order = let more = h.more in omega (arith, more)
        reached true is (inl below) = omega (arith, below)
        reached true is (inr same) =
            let more = h.more in
            let end : e ≡ received c = let at = eqb-true e (received b) is in omega (arith, at, same, more) in
            let so = eq-eqb e (received c) end in
            subst (λ (k : Bool). received b + 1 ≤ received c + (if k then 1 else 0)) (sym so) (omega (arith, more))

pub placed_onward : (at : ℕ) (bytes : List ℕ) (b : Arriving) → Onward b (after_call b (Place at bytes))
placed_onward at bytes b =
    either_onward (is_taken at bytes b) b (record b { places = places_after at bytes b }) b
    (record { more = let grown = filled_more b.places (drop b.read (by_place at bytes)) in omega (arith, grown); stays = λ e is. is }) (same_onward b)

pub fin_onward : (at : ℕ) (b : Arriving) → Onward b (after_call b (Fin at))
fin_onward at b = by b.known_end refl
  where
    ended : Arriving
    ended = record b { known_end = Some at }

    by : (o : Option ℕ) → b.known_end ≡ o → Onward b (if is_some (fin_clash o at b) then b else record b { known_end = Some at })
    by None is = either_onward (is_some (fin_clash None at b)) b b (record b { known_end = Some at }) (same_onward b) (record { more = omega arith; stays = λ e known. none e (sym is ∙ known) })
      where
        none : (e : ℕ) → None ≡ Some e → Some at ≡ Some e
        none e is = cc
    by (Some f) is = same (f == at) refl
      where
        clash : Bool → Option ℕ
        clash k = if k then None else Some f

        same : (k : Bool) → (f == at) ≡ k → Onward b (if is_some (if k then None else Some f) then b else record b { known_end = Some at })
        same false differs = same_onward b
        same true equal = record { more = omega arith; stays = λ e known. ap (λ (n : ℕ). Some n) (sym (eqb-true f at equal)) ∙ (sym is ∙ known) }

pub read_onward : (max : ℕ) (b : Arriving) → Onward b (after_reading max b)
read_onward max b = record {
  more = let left = filled_left (min max (length (filled b.places))) b.places (omega arith) in omega (arith, left);
  stays = λ e is. is;
}

-- ---- a lane's moves leave what it was told

abbrev Same : Lane → Lane → Type 0
Same q p = q.latest ≡ p.latest

either_same : (b : Bool) (q r p : Lane) → Same q p → Same r p → Same (if b then q else r) p
either_same true q r p x y = x
either_same false q r p x y = y

moved_same : (f : Flags) (path : ℕ) (move : Move) (p : Lane) → Same (moved f path move p) p
moved_same f path Move.Open p = either_same _ _ p p refl refl
moved_same f path Move.LookAtSender p = refl
moved_same f path Move.LookAtReceiver p = refl
moved_same f path (Move.WantGrant max standby) p = either_same _ _ p p refl refl
moved_same f path (Move.HearAck copy) p = by (slice_get p.acks copy)
  where
    by : (o : Option _) → Same (hears o p) p
    by None = refl
    by (Some a) = refl
moved_same f path (Move.HearSubAck copy upto) p = by (slice_get p.acks copy) p.pair
  where
    by : (o : Option _) (q : Option _) → Same (hears_sub upto o q p) p
    by (Some a) (Some m) = either_same p.alters _ p p refl refl
    by None q = refl
    by (Some a) None = refl
moved_same f path (Move.SendPiece piece mapped) p = by (slice_get p.pieces piece)
  where
    by : (o : Option _) → Same (sends_piece mapped o p) p
    by None = refl
    by (Some m) = refl
moved_same f path (Move.SendAltered piece mapped) p = by (slice_get p.pieces piece)
  where
    by : (o : Option _) → Same (sends_altered mapped o p) p
    by None = refl
    by (Some m) = either_same p.alters _ p p refl refl
moved_same f path Move.SendDataFin p = refl
moved_same f path Move.SendFin p = either_same _ _ p p refl refl
moved_same f path (Move.SendPair shift) p = by p.pair
  where
    by : (o : Option _) → Same (sends_pair shift o p) p
    by None = refl
    by (Some m) = either_same _ _ p p refl refl
moved_same f path (Move.SendPlainPair pos) p = either_same _ _ p p refl refl
moved_same f path Move.SendFinPair p = by p.pair
  where
    by : (o : Option _) → Same (sends_fin_pair o p) p
    by None = refl
    by (Some m) = either_same _ _ p p refl refl
moved_same f path (Move.Hear copy count) p = by (slice_get p.datas copy)
  where
    by : (o : Option _) → Same (keeps count o p) p
    by None = refl
    by (Some d) = refl
moved_same f path (Move.Learn copy) p = by (slice_get p.datas copy)
  where
    mapping : (o : Option _) → Same (learns_mapping o p) p
    mapping None = refl
    mapping (Some m) = either_same _ p _ p refl refl

    by : (o : Option _) → Same (learns o p) p
    by None = refl
    by (Some d) = mapping d.mapping
moved_same f path (Move.HearDataFin copy) p = by (slice_get p.data_fins copy)
  where
    by : (o : Option ℕ) → Same (hears_data_fin o p) p
    by None = refl
    by (Some e) = refl
moved_same f path (Move.HearFin copy) p = by (slice_get p.fins copy)
  where
    by : (o : Option ℕ) → Same (hears_fin o p) p
    by None = refl
    by (Some e) = either_same _ _ p p refl refl
moved_same f path (Move.Forget from) p = refl
moved_same f path (Move.WantPlace mapping count) p = by (slice_get p.maps mapping)
  where
    by : (o : Option _) → Same (places count o p) p
    by None = refl
    by (Some m) = either_same _ _ p p refl refl
moved_same f path (Move.WantPlacePlain count) p = either_same _ _ p p refl refl
moved_same f path Move.WantFin p = either_same _ _ p p refl refl
moved_same f path (Move.TakePair copy) p = by (slice_get p.pairs copy)
  where
    by : (o : Option _) → Same (takes_pair o p) p
    by None = refl
    by (Some m) = refl
moved_same f path (Move.WantPlacePair count) p = by p.taken
  where
    by : (o : Option _) → Same (places_pair count o p) p
    by None = refl
    by (Some m) = either_same _ _ p p refl refl
moved_same f path Move.WantFinPair p = by p.taken
  where
    by : (o : Option _) → Same (ends_pair o p) p
    by None = refl
    by (Some m) = either_same _ _ p p refl refl
moved_same f path Move.WantAckOut p = refl
moved_same f path (Move.SendAck next window sub) p = either_same p.due p _ p refl refl

-- ---- a direction

abbrev pub AllWanted : List Lane → Arriving → Type 0
AllWanted lanes b = (n : ℕ) (l : Lane) → slice_get lanes n ≡ Some l → l.latest.next ≤ next_wanted b

on_book : (lanes : List Lane) (b c : Arriving) → Onward b c → AllWanted lanes b → AllWanted lanes c
on_book lanes b c x h n l at = let old = h n l at in let more = wanted_onward b c x in omega (arith, old, more)

set_wanted : (lanes : List Lane) (path : ℕ) (q : Lane) (b : Arriving) → q.latest.next ≤ next_wanted b → AllWanted lanes b → AllWanted (set lanes path q) b
set_wanted lanes path q b new h n l at = ⊎_elim
    (λ own. let same : q.latest.next ≡ l.latest.next = ap (λ (x : Lane). x.latest.next) own.1 in omega (arith, new, same))
    (λ other. h n l other.1)
    (in_set lanes path q n l at)

kept_wanted : (lanes : List Lane) (path : ℕ) (p q : Lane) (b : Arriving) → slice_get lanes path ≡ Some p → Same q p → AllWanted lanes b → AllWanted (set lanes path q) b
kept_wanted lanes path p q b there is h =
    let same : q.latest.next ≡ p.latest.next = ap (λ t. t.next) is in let old = h path p there in set_wanted lanes path q b (omega (arith, old, same)) h

grant_same : (reply : SendReply) (p : Lane) → Same (takes_grant reply p) p
grant_same (Granted span piece) p = refl
grant_same (NoGrant why end) p = refl
grant_same _ p = refl

ack_same : (next : ℕ) (reply : SendReply) (p : Lane) → Same (takes_ack next reply p) p
ack_same next (Acked bytes fin) p = refl
ack_same next _ p = refl

placed_same : (count : ℕ) (reply : ReassemblyReply) (p : Lane) → Same (takes_placed count reply p) p
placed_same count (Placed new) p = refl
placed_same count _ p = refl

fin_same : (reply : ReassemblyReply) (p : Lane) → Same (takes_fin reply p) p
fin_same FinSet p = refl
fin_same _ p = refl

asks_wanted : (path : ℕ) (ask : Ask) (p : Lane) (d : Direction) → slice_get d.lanes path ≡ Some p → AllWanted d.lanes d.arrived → AllWanted (asks path ask p d).lanes (asks path ask p d).arrived
asks_wanted path Ask.Nothing p d there h = h
asks_wanted path (Ask.AskGrant max standby) p d there h = kept_wanted d.lanes path p _ d.arrived there (grant_same _ p) h
asks_wanted path (Ask.AskAckIn next window) p d there h = kept_wanted d.lanes path p _ d.arrived there (ack_same next _ p) h
asks_wanted path (Ask.AskPlace at bytes) p d there h = on_book _ d.arrived _ (placed_onward at bytes d.arrived) (kept_wanted d.lanes path p _ d.arrived there (placed_same _ _ p) h)
asks_wanted path (Ask.AskFin at) p d there h = on_book _ d.arrived _ (fin_onward at d.arrived) (kept_wanted d.lanes path p _ d.arrived there (fin_same _ p) h)
asks_wanted path Ask.AskAckOut p d there h =
    set_wanted d.lanes path (takes_ack_out (reply_to d.arrived AckOut) p) d.arrived
    (let same : (takes_ack_out (reply_to d.arrived AckOut) p).latest.next ≡ next_wanted d.arrived = refl in omega (arith, same)) h

abbrev Wanted : Direction → Type 0
Wanted d = AllWanted d.lanes d.arrived

either_wanted : (b : Bool) (d e : Direction) → Wanted d → Wanted e → AllWanted (if b then d else e).lanes (if b then d else e).arrived
either_wanted true d e x y = x
either_wanted false d e x y = y

event_wanted : (f : Flags) (event : StreamEvent) (d : Direction) → AllWanted d.lanes d.arrived → AllWanted (after f event d).lanes (after f event d).arrived
event_wanted f (StreamEvent.Write bytes) d h = h
event_wanted f StreamEvent.Close d h = h
event_wanted f (StreamEvent.Return path) d h = h
event_wanted f StreamEvent.AbortSend d h = h
event_wanted f (StreamEvent.AbortRead by_peer) d h = h
event_wanted f StreamEvent.GoIdentity d h = either_wanted f.sender (with_send GoIdentityBook d) d h h
event_wanted f (StreamEvent.GoInfinite path pos) d h = by (slice_get d.lanes path) refl
  where
    by : (o : Option Lane) → slice_get d.lanes path ≡ o → AllWanted (goes_infinite path pos o d).lanes (goes_infinite path pos o d).arrived
    by None at = h
    by (Some p) at = either_wanted (may_go path pos d.send p) _ d (kept_wanted d.lanes path p _ d.arrived at refl h) h
event_wanted f (StreamEvent.Read max) d h = either_wanted (is_done d.reader) d (reads max d) h (by (is_some d.arrived.aborted))
  where
    by : (b : Bool) → AllWanted d.lanes (if b then d.arrived else after_reading max d.arrived)
    by true = h
    by false = on_book d.lanes d.arrived (after_reading max d.arrived) (read_onward max d.arrived) h
event_wanted f (StreamEvent.Moves path move) d h = by (slice_get d.lanes path) refl
  where
    by : (o : Option Lane) → slice_get d.lanes path ≡ o → AllWanted (moves f path move o d).lanes (moves f path move o d).arrived
    by None at = h
    by (Some p) at = kept_wanted d.lanes path p (moved f path move p) d.arrived at (moved_same f path move p) h
event_wanted f (StreamEvent.Asks path) d h = by (slice_get d.lanes path) refl
  where
    by : (o : Option Lane) → slice_get d.lanes path ≡ o → AllWanted (asks_at path o d).lanes (asks_at path o d).arrived
    by None at = h
    by (Some p) at = asks_wanted path p.asking p d at h

-- ---- a connection

pub record BothWanted (d : Duo) : Type 0 where
  pub ab : AllWanted d.ab.lanes d.ab.arrived
  pub ba : AllWanted d.ba.lanes d.ba.arrived

duo_wanted : (event : Event) (d : Duo) → BothWanted d → BothWanted (after_event event d)
duo_wanted (Event.ToB event) d h = record { ab = event_wanted (flags_ab d.modes) event d.ab h.ab; ba = h.ba }
duo_wanted (Event.ToA event) d h = record { ab = h.ab; ba = event_wanted (flags_ba d.modes) event d.ba h.ba }
duo_wanted _ d h = record { ab = h.ab; ba = h.ba }

events_wanted : (events : List Event) (d : Duo) → BothWanted d → BothWanted (after_events events d)
events_wanted [] d h = h
events_wanted (event ∷ events) d h = events_wanted events (after_event event d) (duo_wanted event d h)

-- at each moment
pub always_wanted : (alters checked : Bool) (paths buffer_a buffer_b : ℕ) (events : List Event) → BothWanted (after_events events (opening_over alters checked paths buffer_a buffer_b))
always_wanted alters checked paths buffer_a buffer_b events = events_wanted events (opening_over alters checked paths buffer_a buffer_b) (record { ab = opened paths buffer_b; ba = opened paths buffer_a })
  where
    opened : (paths capacity : ℕ) → AllWanted (replicate paths (lane_over alters checked)) (new_arriving capacity)
    opened paths capacity n l at =
        let is = in_replicate paths (lane_over alters checked) n l at in
        let none : 0 ≡ l.latest.next = ap (λ (x : Lane). x.latest.next) is in omega (arith, none)
