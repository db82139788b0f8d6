-- What is treated next of a copy, once so much of it was heard.
use Rattle.clean_finish.proofs.Words.{◌≡◌, refl, ap, ◌∙◌, ℕ, ◌+◌, ◌-◌, ◌≤◌, Bool, true, false, if◌then◌else◌, inr, Option, None, List, [], arith, Some, suc}
use Rattle.clean_finish.proofs.Words.{zero, both_ways, Side, peer, Mappings, MappedDataFin, Duty, heard_and, payload_came, emission, Heard, pick, PathEnd}
use Rattle.clean_finish.proofs.Words.{item_of, item_at, Keys, Brings, shows_keys, is_third, OpensSubflow, ShowsKeys, FirstPiece, Piece, Acknowledges}
use Rattle.clean_finish.proofs.Words.{EndsStream, EndsSubflow, MapsAs, Treats, TreatsCopy, count_in, heard_by, Has, Bench, IsBetween, AtFirst, AfterOne}
use Rattle.clean_finish.proofs.Words.{AfterTwo, AfterAll}
use Rattle.clean_finish.specs.Segments.{is_opening}
use Rattle.clean_finish.proofs.Raised.{Emits}
use Rattle.clean_finish.proofs.Templates.{emission_emits}

-- ---- what is ahead

behind_payload : (q : Side) (d : Duty) → Has d (emission q) → Has d (payload_came q)
behind_payload q d there = inr (inr (inr (inr (inr (inr (inr (inr (inr (inr (inr (inr (inr (inr (inr (inr there)))))))))))))))

behind_more : (q : Side) (d : Duty) (from count : ℕ) (ds : List Duty) → Has d ds → Has d (heard_and q from count ds)
behind_more q d from zero ds there = there
behind_more q d from (suc count) ds there = inr (behind_more q d (from + 1) count ds there)

pub heard_emits : (q : Side) (from count : ℕ) → Emits q (heard_and q from count (payload_came q))
heard_emits q from count = record {
  bytes = behind_more q _ from count (payload_came q) (behind_payload q _ (emission_emits q).bytes);
  end = behind_more q _ from count (payload_came q) (behind_payload q _ (emission_emits q).end);
  timer = behind_more q _ from count (payload_came q) (behind_payload q _ (emission_emits q).timer);
  events = behind_more q _ from count (payload_came q) (behind_payload q _ (emission_emits q).events);
}

-- ---- a thing by its number

pub item_is : (i : ℕ) (e : PathEnd) (items : List Heard) → e.modes.identity ≡ false → e.treated.items ≡ items → item_of i e ≡ item_at i items
item_is i e items mptcp is = ap (λ (b : Bool). if b then None else item_at i e.treated.items) mptcp ∙ ap (λ (xs : List Heard). item_at i xs) is

pub dss_first : (keys : Keys) (next window : ℕ) (k : Brings) → is_opening k ≡ false → shows_keys k ≡ false → item_at 0 (heard_by keys next window k) ≡ Some Heard.Dss
dss_first keys next window OpensSubflow e f = absurd (both_ways _ e refl)
dss_first keys next window ShowsKeys e f = absurd (both_ways _ f refl)
dss_first keys next window (FirstPiece octets) e f = absurd (both_ways _ f refl)
dss_first keys next window _ e f = refl

pub ack_second : (keys : Keys) (next window : ℕ) (k : Brings) → is_opening k ≡ false → shows_keys k ≡ false → item_at 1 (heard_by keys next window k) ≡ Some (Heard.DataAck next window)
ack_second keys next window OpensSubflow e f = absurd (both_ways _ e refl)
ack_second keys next window ShowsKeys e f = absurd (both_ways _ f refl)
ack_second keys next window (FirstPiece octets) e f = absurd (both_ways _ f refl)
ack_second keys next window _ e f = refl

-- ---- without bytes no mapping is learned

pub maps_on : {edge : ℕ} {v : Mappings} {fin : Option MappedDataFin} → MapsAs edge false [] 0 v fin → MapsAs edge true [] 0 v fin
maps_on {edge} is = record {
  live = is.live;
  held = is.held;
  tail = is.tail;
  beyond = λ p less. is.beyond p (down less);
  no_fin = is.no_fin;
  forgotten = is.forgotten;
}
  where
    down : {p : ℕ} → edge + 0 ≤ p → edge ≤ p
    down less = omega (arith, less)

module _ (q : Side) (keys : Keys) (a b : Bench) where
  abbrev x : Bench
  x = pick q a b

  third_all : TreatsCopy q keys AfterOne true ShowsKeys x → TreatsCopy q keys AfterAll true ShowsKeys x
  third_all f = record {
    sent = f.sent;
    brings = f.brings;
    hand = f.hand;
    kind = f.kind;
    some = f.some;
    keyed = f.keyed;
    items = f.items;
    opened = f.opened;
    keys_told = f.keys_told;
    has_option = f.has_option;
    fins = f.fins;
    asked = f.asked;
    plain_ack = f.plain_ack;
    held_edge = f.held_edge;
    owes = f.owes;
    came = f.came;
    una = f.una;
    high = f.high;
    rests = f.rests;
    waiting = f.waiting;
    answered = f.answered;
    ready = f.ready;
    shown = f.shown;
    least = f.least;
    clear = f.clear;
    unkeyed = f.unkeyed;
    places = f.places;
    incoming = f.incoming;
    fin = f.fin;
    maps = maps_on f.maps;
  }

  first_all : (octets : List ℕ) → TreatsCopy q keys AfterTwo true (FirstPiece octets) x → TreatsCopy q keys AfterAll true (FirstPiece octets) x
  first_all octets f = record {
    sent = f.sent;
    brings = f.brings;
    hand = f.hand;
    kind = f.kind;
    some = f.some;
    keyed = f.keyed;
    items = f.items;
    opened = f.opened;
    keys_told = f.keys_told;
    has_option = f.has_option;
    fins = f.fins;
    asked = f.asked;
    plain_ack = f.plain_ack;
    held_edge = f.held_edge;
    owes = f.owes;
    came = f.came;
    una = f.una;
    high = f.high;
    rests = f.rests;
    waiting = f.waiting;
    answered = f.answered;
    ready = f.ready;
    shown = f.shown;
    least = f.least;
    clear = f.clear;
    unkeyed = f.unkeyed;
    places = f.places;
    incoming = f.incoming;
    fin = f.fin;
    maps = f.maps;
  }

  ack_all : TreatsCopy q keys AfterTwo false Acknowledges x → TreatsCopy q keys AfterAll false Acknowledges x
  ack_all f = record {
    sent = f.sent;
    brings = f.brings;
    hand = f.hand;
    kind = f.kind;
    some = f.some;
    keyed = f.keyed;
    items = f.items;
    opened = f.opened;
    keys_told = f.keys_told;
    has_option = f.has_option;
    fins = f.fins;
    asked = f.asked;
    plain_ack = f.plain_ack;
    held_edge = f.held_edge;
    owes = f.owes;
    came = f.came;
    una = f.una;
    high = f.high;
    rests = f.rests;
    waiting = f.waiting;
    answered = f.answered;
    ready = f.ready;
    shown = f.shown;
    least = f.least;
    clear = f.clear;
    unkeyed = f.unkeyed;
    places = f.places;
    incoming = f.incoming;
    fin = f.fin;
    maps = maps_on f.maps;
  }

  fin_all : TreatsCopy q keys AfterTwo false EndsSubflow x → TreatsCopy q keys AfterAll false EndsSubflow x
  fin_all f = record {
    sent = f.sent;
    brings = f.brings;
    hand = f.hand;
    kind = f.kind;
    some = f.some;
    keyed = f.keyed;
    items = f.items;
    opened = f.opened;
    keys_told = f.keys_told;
    has_option = f.has_option;
    fins = f.fins;
    asked = f.asked;
    plain_ack = f.plain_ack;
    held_edge = f.held_edge;
    owes = f.owes;
    came = f.came;
    una = f.una;
    high = f.high;
    rests = f.rests;
    waiting = f.waiting;
    answered = f.answered;
    ready = f.ready;
    shown = f.shown;
    least = f.least;
    clear = f.clear;
    unkeyed = f.unkeyed;
    places = f.places;
    incoming = f.incoming;
    fin = f.fin;
    maps = maps_on f.maps;
  }

  module _ (other : IsBetween (peer q) (pick q b a)) (none : (pick q b a).waiting ≡ 0) where
    pub first_next : (k : Brings) → TreatsCopy q keys AtFirst (is_third k) k x → Treats keys a b (heard_and q 0 (count_in k) (payload_came q))
    first_next OpensSubflow f = absurd (both_ways _ f.kind refl)
    first_next (FirstPiece octets) f = (FirstPiece octets, f, (other, none, refl))
    first_next (Piece octets) f = (Piece octets, f, (other, none, refl))
    first_next (EndsStream place) f = (EndsStream place, f, (other, none, refl))
    first_next k f = (k, f, (other, none, refl))

    pub one_next : (k : Brings) → TreatsCopy q keys AfterOne (shows_keys k) k x → Treats keys a b (heard_and q 1 (count_in k - 1) (payload_came q))
    one_next OpensSubflow f = absurd (both_ways _ f.kind refl)
    one_next ShowsKeys f = (ShowsKeys, third_all f, (other, none, refl))
    one_next (FirstPiece octets) f = (FirstPiece octets, f, omega arith, (other, none, refl))
    one_next (Piece octets) f = (Piece octets, f, omega arith, (other, none, refl))
    one_next Acknowledges f = (Acknowledges, f, omega arith, (other, none, refl))
    one_next (EndsStream place) f = (EndsStream place, f, omega arith, (other, none, refl))
    one_next EndsSubflow f = (EndsSubflow, f, omega arith, (other, none, refl))

    pub two_next : (k : Brings) → is_third k ≡ false → TreatsCopy q keys AfterTwo (shows_keys k) k x → Treats keys a b (heard_and q 2 (count_in k - 2) (payload_came q))
    two_next OpensSubflow e f = absurd (both_ways _ f.kind refl)
    two_next ShowsKeys e f = absurd (both_ways _ e refl)
    two_next (FirstPiece octets) e f = (FirstPiece octets, first_all octets f, (other, none, refl))
    two_next (Piece octets) e f = (Piece octets, f, refl, (other, none, refl))
    two_next Acknowledges e f = (Acknowledges, ack_all f, (other, none, refl))
    two_next (EndsStream place) e f = (EndsStream place, f, refl, (other, none, refl))
    two_next EndsSubflow e f = (EndsSubflow, fin_all f, (other, none, refl))
