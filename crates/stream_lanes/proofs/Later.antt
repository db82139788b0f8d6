-- The books went on from one view to another: what held of a lane then holds now.
--
-- `Later Q v u`: the books went on from one view to another. One lemma, `lane_later`, carries a lane over it; so a step
-- of one path or application is proved for all other lanes at once.
use Rattle.stream_lanes.proofs.Words.{◌≡◌, sym, ◌∙◌, ap, ℕ, ◌≤◌, Bool, true, List, ◌++◌, length, Option, Some, arith, ◌⊎◌, inl, inr, slice_get, Arriving}
use Rattle.stream_lanes.proofs.Words.{AckCopy, Pair, Ask, Lane, Cell, AskAckIn, AskPlace, AskFin, place_by, Every, IsEnd, IsIn, View, IsAll, IsSent}
use Rattle.stream_lanes.proofs.Words.{ArrivedHolds, RecordHolds, AloneHolds, ModeHolds, EndsHold, IsFin, HeardHolds, IsAck, ReceiverHolds, PlaceHolds, AskHolds}
use Rattle.stream_lanes.proofs.Words.{LinkHolds, LaneHolds, CellFits, AllGranted, IsPassed, PassedHolds, IsAlone, IsEndless, PairsHold, spent, spent_count}
use Rattle.stream_lanes.proofs.Words.{AreNew, tried, fell}
use Rattle.std.proofs.lemmas.Grind.{common_steps}
use Rattle.stream_lanes.specs.Lane.{Told}
use Rattle.stream_lanes.specs.Holding.IsAlone.{given}
use Rattle.stream_lanes.proofs.Lists.{Every-map, From-map, Cells-map, IfSome-map, in_more}
use Rattle.stream_lanes.proofs.MarkLists.{count_grows}

-- no other path is granted anything
abbrev pub Keeps : ℕ → View → View → Type 0
Keeps path v u = ((path ≡ 0) × (u.alone ≡ true)) ⊎ (v.owner ≡ Some path)

-- Q names the paths whose untried bytes stay untried
pub record Later (Q : ℕ → Type 0) (v u : View) : Type 0 where
  pub more : List ℕ
  pub written : u.written ≡ v.written ++ more
  pub spent : (path place : ℕ) → spent path (slice_get v.marks place) ≡ true → spent path (slice_get u.marks place) ≡ true
  pub untried : (path : ℕ) → Q path → (place : ℕ) → tried path (slice_get u.marks place) ≡ true → tried path (slice_get v.marks place) ≡ true
  pub news : (path : ℕ) → Q path → Keeps path v u → (n : ℕ) → v.received ≤ n → AreNew n v.marks → AreNew n u.marks
  pub end : (e : ℕ) → IsEnd v.end e → IsEnd u.end e
  pub acked : v.acked ≤ u.acked
  pub confirmed : v.confirmed ≤ u.confirmed
  pub room : v.room ≤ u.room
  pub received : v.received ≤ u.received
  pub next : v.next ≤ u.next
  pub edge : v.edge ≤ u.edge
  pub alone : u.alone ≡ true → v.alone ≡ true
  pub fallen : v.fallen ≡ true → u.fallen ≡ true
  pub stays_alone : v.fallen ≡ true → v.alone ≡ true → u.alone ≡ true
  pub owner : (path : ℕ) → v.owner ≡ Some path → u.owner ≡ Some path
  pub placed : (place : ℕ) → IsIn v place → IsIn u place
  pub alters : u.alters ≡ v.alters
  pub checked : u.checked ≡ v.checked
  pub exact : u.exact ≡ true → v.exact ≡ true

abbrev pub Anyone : ℕ → Type 0
Anyone path = Unit {0}

abbrev pub But : ℕ → ℕ → Type 0
But one path = path ≡ one → ⊥

length_grown : (xs ys : List ℕ) → length xs ≤ length (xs ++ ys)
length_grown xs ys = grind (arith, common_steps)

module _ {Q : ℕ → Type 0} {v u : View} (l : Later Q v u) where
  pub written_later : (place byte : ℕ) → slice_get v.written place ≡ Some byte → slice_get u.written place ≡ Some byte
  written_later place byte e = ap (λ bs. slice_get bs place) l.written ∙ in_more v.written l.more place byte e

  pub count_later : (path : ℕ) → spent_count path v.marks ≤ spent_count path u.marks
  count_later path = count_grows path v.marks u.marks (l.spent path)

  pub all_later : IsAll v → IsAll u
  all_later h = (h.0, l.end h.0 h.1, omega (arith, h.2, l.acked))

  pub sent_later : {granted granted' : ℕ → Type 0} → ((place : ℕ) → granted place → granted' place) → (place byte : ℕ)
      → IsSent granted v place byte → IsSent granted' u place byte
  sent_later g place byte h = record {
    within = omega (arith, h.within, ap length l.written, length_grown v.written l.more);
    written = λ exact. written_later place byte (h.written (l.exact exact));
    room = λ none. let old = h.room (sym l.alters ∙ none) in omega (arith, old, l.room);
    recorded = g place h.recorded;
  }

  pub arrived_later : {granted granted' : ℕ → Type 0} (b : Arriving) → ((place : ℕ) → granted place → granted' place)
      → ArrivedHolds granted v b → ArrivedHolds granted' u b
  arrived_later b g h = record {
    top = omega (arith, h.top, ap length l.written, length_grown v.written l.more);
    cells = Cells-map (sent_later g) h.cells;
    end = IfSome-map b.known_end (λ e is. l.end e is) h.end;
    before = λ place below. g place (h.before place below);
  }

  pub cells_later : (path : ℕ) (sent : List Cell) → Every (CellFits path v) sent → Every (CellFits path u) sent
  cells_later path sent h = Every-map (λ c fits. record {
    byte = written_later c.place c.byte fits.byte;
    spent = l.spent path c.place fits.spent;
    room = λ none. let old = fits.room (sym l.alters ∙ none) in omega (arith, old, l.room);
  }) h

  pub record_later : (path : ℕ) (sent : List Cell) → Q path → RecordHolds path v sent → RecordHolds path u sent
  record_later path sent q h = record {
    cells = cells_later path sent h.cells;
    tried = λ place is. h.tried place (l.untried path q place is);
    once = omega (arith, h.once, count_later path);
  }

  pub alone_later : (path : ℕ) (sent : List Cell) → Q path → ((n : ℕ) → AreNew n v.marks → v.received ≤ n)
      → (v.alone ≡ true → AloneHolds path v.marks sent) → u.alone ≡ true → AloneHolds path u.marks sent
  alone_later path sent q far h alone =
      let old = h (l.alone alone) in
      record {
        identity = old.identity;
        others = old.others;
        untouched = λ zero. l.news path q (inl (zero, alone)) (length sent) (far (length sent) (old.untouched zero)) (old.untouched zero);
      }

  pub modes_later : (path : ℕ) (opened sender receiver : Bool) → ModeHolds path v opened sender receiver → ModeHolds path u opened sender receiver
  modes_later path opened sender receiver h = record {
    joined = λ is alone. h.joined is (l.alone alone);
    sender = λ is. l.fallen (h.sender is);
    receiver = λ is. l.fallen (h.receiver is);
    inexact = λ is exact. l.alters ∙ h.inexact is (l.exact exact);
  }

  pub link_later : (alters checked loose : Bool) → LinkHolds v alters checked loose → LinkHolds u alters checked loose
  link_later alters checked loose h = record {
    alters_is = h.alters_is ∙ sym l.alters;
    checked_is = h.checked_is ∙ sym l.checked;
    must = λ exact may. l.checked ∙ h.must (l.exact exact) (sym l.alters ∙ may);
    inexact = λ is exact. l.alters ∙ h.inexact is (l.exact exact);
  }

  pub granted_later : (path : ℕ) → AllGranted path v → AllGranted path u
  granted_later path h = (h.0, l.end h.0 h.1, omega (arith, h.2, count_later path))

  pub passes_later : (path : ℕ) (sent : List Cell) (upto : ℕ) → IsPassed path v sent upto → IsPassed path u sent upto
  passes_later path sent upto h = record { bytes = λ pos c below e. l.placed c.place (h.bytes pos c below e); past = λ more. granted_later path (h.past more) }

  pub passed_later : (path : ℕ) (sent : List Cell) (edge : ℕ) (fin_in : Bool) (acks : List AckCopy) → PassedHolds path v sent edge fin_in acks → PassedHolds path u sent edge fin_in acks
  passed_later path sent edge fin_in acks h = record {
    bytes = passes_later path sent edge h.bytes;
    fin = λ is. let old = h.fin is in (old.0, granted_later path old.1);
    copies = Every-map (λ a is. passes_later path sent a.sub is) h.copies;
  }

  keeps : (path : ℕ) → IsAlone path v → Keeps path v u
  keeps path (given is) = inr is
  keeps path (fell first fallen alone) = inl (first, l.stays_alone fallen alone)

  pub owner_later : (path : ℕ) → IsAlone path v → IsAlone path u
  owner_later path (given is) = given (l.owner path is)
  owner_later path (fell first fallen alone) = fell first (l.fallen fallen) (l.stays_alone fallen alone)

  pub endless_later : (path : ℕ) (sent : List Cell) (m : Pair) → Q path → ((n : ℕ) → AreNew n v.marks → v.received ≤ n) → IsEndless path v sent m → IsEndless path u sent m
  endless_later path sent m q far h = record {
    within = h.within;
    places = h.places;
    spent = λ place below. l.spent path place (h.spent place below);
    rest = l.news path q (keeps path h.owner) (place_by m (length sent)) (far (place_by m (length sent)) h.rest) h.rest;
    upto = omega (arith, h.upto, ap length l.written, length_grown v.written l.more);
    owner = owner_later path h.owner;
  }

  pub pairs_later : (path : ℕ) (sent : List Cell) (pair : Option Pair) (pairs : List Pair) (taken : Option Pair) → Q path → ((n : ℕ) → AreNew n v.marks → v.received ≤ n)
      → PairsHold path v sent pair pairs taken → PairsHold path u sent pair pairs taken
  pairs_later path sent pair pairs taken q far h = record {
    own = IfSome-map pair (λ m is. let low = is.1 in (endless_later path sent m q far is.0, omega (arith, low, l.acked), l.owner path is.2)) h.own;
    told = Every-map (λ m is. endless_later path sent m q far is) h.told;
    took = IfSome-map taken (λ m is. endless_later path sent m q far is) h.took;
  }

  pub ends_later : (p : Lane) → EndsHold v.end p.known_end p.data_fins → EndsHold u.end p.known_end p.data_fins
  ends_later p h = record { told = IfSome-map p.known_end (λ e is. l.end e is) h.told; named = Every-map (λ e is. l.end e is) h.named }

  pub fin_later : (path : ℕ) (sent : List Cell) (pos : ℕ) → IsFin path v sent pos → IsFin path u sent pos
  fin_later path sent pos h = record {
    last = h.last;
    left = (h.left.0, l.end h.left.0 h.left.1, omega (arith, h.left.2, count_later path));
    ends = λ alone. l.end pos (h.ends (l.alone alone));
  }

  pub heard_later : (heard : ℕ) (fin_acked : Bool) → HeardHolds v heard fin_acked → HeardHolds u heard fin_acked
  heard_later heard fin_acked h = record { below = omega (arith, h.below, l.confirmed); fin = λ is. all_later (h.fin is) }

  pub ack_later : (next window : ℕ) → IsAck v next window → IsAck u next window
  ack_later next window h = record { covers = omega (arith, h.covers, l.next); reaches = λ none. let old = h.reaches (sym l.alters ∙ none) in omega (arith, old, l.edge) }

  pub receiver_later : (edge : ℕ) (fin_in due : Bool) (latest : Told) (acks : List AckCopy)
      → ReceiverHolds v edge fin_in due latest acks → ReceiverHolds u edge fin_in due latest acks
  receiver_later edge fin_in due latest acks h = record {
    told = ack_later latest.next latest.window h.told;
    passed = λ alone. let old = h.passed (l.alone alone) in omega (arith, old, l.received);
    fin = λ alone is. l.end edge (h.fin (l.alone alone) is);
    fresh = λ none alone is. let old = h.fresh (sym l.alters ∙ none) (l.alone alone) is in omega (arith, old, l.room);
    copies = Every-map (λ a is. record {
      stream = ack_later a.next a.window is.stream;
      subflow = λ alone. ack_later a.sub a.window (is.subflow (l.alone alone));
    }) h.copies;
  }

  pub place_later : (sent : List Cell) (edge at : ℕ) (bytes : List ℕ) → PlaceHolds v sent edge at bytes → PlaceHolds u sent edge at bytes
  place_later sent edge at bytes h = record {
    cells = h.cells;
    each = From-map (sent_later (λ place is. is)) h.each;
    within = h.within;
    identity = λ alone some. h.identity (l.alone alone) some;
  }

  pub ask_later : (sent : List Cell) (opened : Bool) (edge : ℕ) (asking : Ask) → AskHolds v sent opened edge asking → AskHolds u sent opened edge asking
  ask_later sent opened edge (AskAckIn next window) h = ack_later next window h
  ask_later sent opened edge (AskPlace at bytes) h = place_later sent edge at bytes h
  ask_later sent opened edge (AskFin at) h = l.end at h
  ask_later sent opened edge _ h = h

  -- one lemma for every step of another actor
  pub lane_later : (path : ℕ) (p : Lane) → Q path → ((n : ℕ) → AreNew n v.marks → v.received ≤ n) → LaneHolds v path p → LaneHolds u path p
  lane_later path p q far h = record {
    record_of = record_later path p.sent q h.record_of;
    alone = alone_later path p.sent q far h.alone;
    modes = modes_later path p.opened p.sender_plain p.receiver_plain h.modes;
    bytes = h.bytes;
    link = link_later p.alters p.checked p.receiver_loose h.link;
    passed = passed_later path p.sent p.edge p.fin_in p.acks h.passed;
    pairs = pairs_later path p.sent p.pair p.pairs p.taken q far h.pairs;
    ends = ends_later p h.ends;
    fins = Every-map (fin_later path p.sent) h.fins;
    heard = heard_later p.heard p.fin_acked h.heard;
    receiver = receiver_later p.edge p.fin_in p.due p.latest p.acks h.receiver;
    ask = ask_later p.sent p.opened p.edge p.asking h.ask;
  }
