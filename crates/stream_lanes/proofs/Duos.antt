-- Every list of events keeps what holds of a connection.
use Rattle.stream_lanes.proofs.Words.{◌≡◌, refl, sym, ◌∙◌, ap, subst, ℕ, Bool, true, false, not, ⊎_elim, List, [], ◌∷◌, if◌then◌else◌, arith, ◌&&◌, ◌||◌}
use Rattle.stream_lanes.proofs.Words.{or_cases, or_left, or_right, and_parts, false≢true, both_ways, not-true, append-nil, Arriving, opened_arriving, Sending}
use Rattle.stream_lanes.proofs.Words.{opened_send, lane_over, Flags, Direction, opening_direction, Modes, Duo, Event, falls_a, falls_b, begins_join, sends_join}
use Rattle.stream_lanes.proofs.Words.{hears_join, flags_ab, flags_ba, after_event, after_events, opening, opening_over, ToB, ToA, FallA, FallB, LoosenA}
use Rattle.stream_lanes.proofs.Words.{LoosenB, BeginJoin, SendJoin, HearJoin, view_of, LaneHolds, DirectionHolds, Holds, ModesHold}
use Rattle.stream_lanes.proofs.Lists.{Every-nil, in_replicate}
use Rattle.stream_lanes.proofs.Later.{Later, Anyone, arrived_later}
use Rattle.stream_lanes.proofs.Views.{exact_checks}
use Rattle.stream_lanes.proofs.Directions.{after_held, lanes_later}

-- what the modes may do as they go on: a join stays answered, and a side that fell stays so
pub record FlagsGo (f g : Flags) : Type 0 where
  pub answered : f.answered ≡ true → g.answered ≡ true
  pub sender : f.sender ≡ true → g.sender ≡ true
  pub receiver : f.receiver ≡ true → g.receiver ≡ true
  pub loose : f.loose ≡ true → g.loose ≡ true
  pub alters : g.alters ≡ f.alters
  pub checked : g.checked ≡ f.checked

-- where nothing is checked, links alter nothing
unchecked : (alters checked : Bool) → (not alters || (checked && false)) ≡ true → not alters ≡ true
unchecked false checked is = refl
unchecked true true is = cc
unchecked true false is = cc

-- the view under other flags
flags_later : (f g : Flags) (s : Sending) (b : Arriving) → FlagsGo f g → ((g.sender || g.receiver) ≡ true → not g.answered ≡ true) → Later Anyone (view_of f s b) (view_of g s b)
flags_later f g s b go after = record {
  more = [];
  written = sym (append-nil s.written);
  spent = λ path place is. is;
  untried = λ path q place is. is;
  news = λ path q kept n reach new. new;
  end = λ e is. is;
  acked = omega arith;
  confirmed = omega arith;
  room = omega arith;
  received = omega arith;
  next = omega arith;
  edge = omega arith;
  alone = λ is. unanswered f.answered refl is;
  alters = go.alters;
  checked = go.checked;
  exact = λ is. falling (f.receiver || f.loose) (g.receiver || g.loose) fell (subst (λ c. (not f.alters || (c && not (g.receiver || g.loose))) ≡ true) go.checked
      (subst (λ c. (not c || (g.checked && not (g.receiver || g.loose))) ≡ true) go.alters is));
  fallen = fallen;
  stays_alone = λ is alone. after (fallen is);
  owner = λ path is. is;
  placed = λ place is. is;
}
  where
    fell : (f.receiver || f.loose) ≡ true → (g.receiver || g.loose) ≡ true
    fell is = ⊎_elim (λ plain. or_left g.receiver g.loose (go.receiver plain)) (λ loose. or_right g.receiver g.loose (go.loose loose)) (or_cases f.receiver f.loose is)

    fallen : (f.sender || f.receiver) ≡ true → (g.sender || g.receiver) ≡ true
    fallen = λ is. ⊎_elim (λ sends. or_left g.sender g.receiver (go.sender sends)) (λ receives. or_right g.sender g.receiver (go.receiver receives)) (or_cases f.sender f.receiver is)

    -- who is exact was so before
    falling : (r s : Bool) → (r ≡ true → s ≡ true) → (not f.alters || (f.checked && not s)) ≡ true → (not f.alters || (f.checked && not r)) ≡ true
    falling r true goes is = or_left (not f.alters) (f.checked && not r) (unchecked f.alters f.checked is)
    falling true false goes is = absurd (both_ways _ refl (goes refl))
    falling false false goes is = is

    unanswered : (c : Bool) → f.answered ≡ c → not g.answered ≡ true → not f.answered ≡ true
    unanswered false same is = ap not same
    unanswered true same is = absurd (both_ways _ (not-true g.answered is) (go.answered same))

-- a direction when the modes go on
direction_later : (f g : Flags) (d : Direction) → FlagsGo f g → ((view_of f d.send d.arrived).fallen ≡ true → (view_of f d.send d.arrived).alone ≡ true)
    → ((view_of g d.send d.arrived).fallen ≡ true → (view_of g d.send d.arrived).alone ≡ true)
    → DirectionHolds f d → DirectionHolds g d
direction_later f g d go fallen after h =
    let l = flags_later f g d.send d.arrived go after in
    record {
      owner = λ path is alone. h.owner path is (l.alone alone);
      send = record { whole = h.send.whole; first = h.send.first; held = h.send.held; acked = h.send.acked; edge = λ none. h.send.edge (sym go.alters ∙ none); fin = h.send.fin };
      arrived = arrived_later l d.arrived (λ place is. is) h.arrived;
      reader = record { size = h.reader.size; out = λ exact. h.reader.out (l.exact exact); told = h.reader.told; once = h.reader.once };
      lanes = lanes_later f d h fallen l;
    }

-- a side that fell is one that answered no join, and neither did the other
pub fallen_ab : (m : Modes) → ModesHold m → (m.plain_a || m.plain_b) ≡ true → not m.answered ≡ true
fallen_ab m h is = ⊎_elim (λ a. at m.answered refl (h.a a)) (λ b. ap not (h.b b)) (or_cases m.plain_a m.plain_b is)
  where
    at : (c : Bool) → m.answered ≡ c → m.begun ≡ false → not m.answered ≡ true
    at false same none = ap not same
    at true same none = absurd (both_ways _ none (h.answered same))

fallen_ba : (m : Modes) → ModesHold m → (m.plain_b || m.plain_a) ≡ true → not m.answered ≡ true
fallen_ba m h is = fallen_ab m h (⊎_elim (λ b. or_right m.plain_a m.plain_b b) (λ a. or_left m.plain_a m.plain_b a) (or_cases m.plain_b m.plain_a is))

-- each rule of the modes
record ModesGo (m n : Modes) : Type 0 where
  holds : ModesHold n
  ab : FlagsGo (flags_ab m) (flags_ab n)
  ba : FlagsGo (flags_ba m) (flags_ba n)

modes_stay : (m : Modes) → ModesHold m → ModesGo m m
modes_stay m h = record {
  holds = h;
  ab = record { answered = λ is. is; sender = λ is. is; receiver = λ is. is; loose = λ is. is; alters = refl; checked = refl };
  ba = record { answered = λ is. is; sender = λ is. is; receiver = λ is. is; loose = λ is. is; alters = refl; checked = refl };
}

go_if : (m : Modes) (c : Bool) (n o : Modes) → (c ≡ true → ModesGo m n) → (c ≡ false → ModesGo m o) → ModesGo m (if c then n else o)
go_if m true n o at_true at_false = at_true refl
go_if m false n o at_true at_false = at_false refl

falls_a_goes : (m : Modes) → ModesHold m → ModesGo m (falls_a m)
falls_a_goes m h = go_if m m.begun m (record m { plain_a = true }) (λ begun. modes_stay m h) (λ free. record {
  holds = record { a = λ _. free; b = h.b; sent = h.sent; answered = h.answered };
  ab = record { answered = λ is. is; sender = λ is. refl; receiver = λ is. is; loose = λ is. is; alters = refl; checked = refl };
  ba = record { answered = λ is. is; sender = λ is. is; receiver = λ is. refl; loose = λ is. is; alters = refl; checked = refl };
})

falls_b_goes : (m : Modes) → ModesHold m → ModesGo m (falls_b m)
falls_b_goes m h = go_if m m.answered m (record m { plain_b = true }) (λ answered. modes_stay m h) (λ free. record {
  holds = record { a = h.a; b = λ _. free; sent = h.sent; answered = h.answered };
  ab = record { answered = λ is. is; sender = λ is. is; receiver = λ is. refl; loose = λ is. is; alters = refl; checked = refl };
  ba = record { answered = λ is. is; sender = λ is. refl; receiver = λ is. is; loose = λ is. is; alters = refl; checked = refl };
})

-- a side falls to an infinite mapping
loosens_a_goes : (m : Modes) → ModesHold m → ModesGo m (record m { loose_a = true })
loosens_a_goes m h = record {
  holds = record { a = h.a; b = h.b; sent = h.sent; answered = h.answered };
  ab = record { answered = λ is. is; sender = λ is. is; receiver = λ is. is; loose = λ is. is; alters = refl; checked = refl };
  ba = record { answered = λ is. is; sender = λ is. is; receiver = λ is. is; loose = λ is. refl; alters = refl; checked = refl };
}

loosens_b_goes : (m : Modes) → ModesHold m → ModesGo m (record m { loose_b = true })
loosens_b_goes m h = record {
  holds = record { a = h.a; b = h.b; sent = h.sent; answered = h.answered };
  ab = record { answered = λ is. is; sender = λ is. is; receiver = λ is. is; loose = λ is. refl; alters = refl; checked = refl };
  ba = record { answered = λ is. is; sender = λ is. is; receiver = λ is. is; loose = λ is. is; alters = refl; checked = refl };
}

begins_goes : (m : Modes) → ModesHold m → ModesGo m (begins_join m)
begins_goes m h = go_if m m.plain_a m (record m { begun = true }) (λ plain. modes_stay m h) (λ free. record {
  holds = record { a = λ is. absurd (both_ways _ free is); b = h.b; sent = λ _. refl; answered = λ _. refl };
  ab = record { answered = λ is. is; sender = λ is. is; receiver = λ is. is; loose = λ is. is; alters = refl; checked = refl };
  ba = record { answered = λ is. is; sender = λ is. is; receiver = λ is. is; loose = λ is. is; alters = refl; checked = refl };
})

sends_goes : (m : Modes) → ModesHold m → ModesGo m (sends_join m)
sends_goes m h = go_if m m.begun (record m { join_sent = true }) m (λ begun. record {
  holds = record { a = h.a; b = h.b; sent = λ _. begun; answered = h.answered };
  ab = record { answered = λ is. is; sender = λ is. is; receiver = λ is. is; loose = λ is. is; alters = refl; checked = refl };
  ba = record { answered = λ is. is; sender = λ is. is; receiver = λ is. is; loose = λ is. is; alters = refl; checked = refl };
}) (λ free. modes_stay m h)

hears_goes : (m : Modes) → ModesHold m → ModesGo m (hears_join m)
hears_goes m h = go_if m (m.join_sent && not m.plain_b) (record m { answered = true }) m (λ both.
    let parts = and_parts m.join_sent (not m.plain_b) both in
    record {
      holds = record { a = h.a; b = λ is. absurd (both_ways _ (not-true m.plain_b parts.1) is); sent = h.sent; answered = λ _. h.sent parts.0 };
      ab = record { answered = λ is. refl; sender = λ is. is; receiver = λ is. is; loose = λ is. is; alters = refl; checked = refl };
      ba = record { answered = λ is. refl; sender = λ is. is; receiver = λ is. is; loose = λ is. is; alters = refl; checked = refl };
    }) (λ free. modes_stay m h)

with_modes : (w : Duo) (n : Modes) → Holds w → ModesGo w.modes n → Holds (record w { modes = n })
with_modes w n h go = record {
  modes = go.holds;
  ab = direction_later (flags_ab w.modes) (flags_ab n) w.ab go.ab (fallen_ab w.modes h.modes) (fallen_ab n go.holds) h.ab;
  ba = direction_later (flags_ba w.modes) (flags_ba n) w.ba go.ba (fallen_ba w.modes h.modes) (fallen_ba n go.holds) h.ba;
}

pub after_event_held : (event : Event) (w : Duo) → Holds w → Holds (after_event event w)
after_event_held (ToB event) w h = record { modes = h.modes; ab = after_held (flags_ab w.modes) w.ab h.ab (fallen_ab w.modes h.modes) event; ba = h.ba }
after_event_held (ToA event) w h = record { modes = h.modes; ab = h.ab; ba = after_held (flags_ba w.modes) w.ba h.ba (fallen_ba w.modes h.modes) event }
after_event_held FallA w h = with_modes w (falls_a w.modes) h (falls_a_goes w.modes h.modes)
after_event_held FallB w h = with_modes w (falls_b w.modes) h (falls_b_goes w.modes h.modes)
after_event_held LoosenA w h = with_modes w (record w.modes { loose_a = true }) h (loosens_a_goes w.modes h.modes)
after_event_held LoosenB w h = with_modes w (record w.modes { loose_b = true }) h (loosens_b_goes w.modes h.modes)
after_event_held BeginJoin w h = with_modes w (begins_join w.modes) h (begins_goes w.modes h.modes)
after_event_held SendJoin w h = with_modes w (sends_join w.modes) h (sends_goes w.modes h.modes)
after_event_held HearJoin w h = with_modes w (hears_join w.modes) h (hears_goes w.modes h.modes)

pub after_events_held : (events : List Event) (w : Duo) → Holds w → Holds (after_events events w)
after_events_held [] w h = h
after_events_held (event ∷ events) w h = after_events_held events (after_event event w) (after_event_held event w h)

-- what the links may do never changes, nor whether mappings are checked
record LinkStays (m n : Modes) : Type 0 where
  alters : n.alters ≡ m.alters
  checked : n.checked ≡ m.checked

stays_if : (m : Modes) (c : Bool) (n o : Modes) → LinkStays m n → LinkStays m o → LinkStays m (if c then n else o)
stays_if m true n o at_true at_false = at_true
stays_if m false n o at_true at_false = at_false

event_stays : (event : Event) (w : Duo) → LinkStays w.modes (after_event event w).modes
event_stays FallA w = stays_if w.modes w.modes.begun w.modes _ (record { alters = refl; checked = refl }) (record { alters = refl; checked = refl })
event_stays FallB w = stays_if w.modes w.modes.answered w.modes _ (record { alters = refl; checked = refl }) (record { alters = refl; checked = refl })
event_stays BeginJoin w = stays_if w.modes w.modes.plain_a w.modes _ (record { alters = refl; checked = refl }) (record { alters = refl; checked = refl })
event_stays SendJoin w = stays_if w.modes w.modes.begun _ w.modes (record { alters = refl; checked = refl }) (record { alters = refl; checked = refl })
event_stays HearJoin w = stays_if w.modes (w.modes.join_sent && not w.modes.plain_b) _ w.modes (record { alters = refl; checked = refl }) (record { alters = refl; checked = refl })
event_stays _ w = record { alters = refl; checked = refl }

pub link_stays : (events : List Event) (w : Duo) → ((after_events events w).modes.alters ≡ w.modes.alters) × ((after_events events w).modes.checked ≡ w.modes.checked)
link_stays [] w = (refl, refl)
link_stays (event ∷ events) w =
    let rest = link_stays events (after_event event w) in
    let one = event_stays event w in
    (rest.0 ∙ one.alters, rest.1 ∙ one.checked)

-- before the first event
new_lane_held : (f : Flags) (buffer capacity path : ℕ) → LaneHolds (view_of f (opened_send buffer) (opened_arriving capacity)) path (lane_over f.alters f.checked)
new_lane_held f buffer capacity path = record {
  record_of = record { cells = Every-nil _; tried = λ place is. cc; once = omega arith };
  alone = λ _. record { identity = record { each = λ i n x n_is e. cc }; others = λ _. refl; untouched = λ _ place mark above e. cc };
  modes = record { joined = λ is. absurd (false≢true is); sender = λ is. absurd (false≢true is); receiver = λ is. absurd (false≢true is); inexact = λ is. absurd (false≢true is) };
  bytes = record {
    granted = Every-nil _;
    apart = λ i j m n at_i at_j less. cc;
    honest = Every-nil _;
    within = omega arith;
    came = record { each = λ i n x n_is e. cc };
    right = Every-nil _;
    learned = Every-nil _;
    acked = Every-nil _;
  };
  link = record { alters_is = refl; checked_is = refl; must = exact_checks f.alters f.checked (f.receiver || f.loose); inexact = λ is. absurd (false≢true is) };
  passed = record {
    bytes = record { bytes = λ pos c below e. cc; past = λ more. absurd (omega (arith, more)) };
    fin = λ is. absurd (false≢true is);
    copies = Every-nil _;
  };
  pairs = record { own = tt; told = Every-nil _; took = tt };
  ends = record { told = tt; named = Every-nil _ };
  fins = Every-nil _;
  heard = record { below = omega arith; fin = λ is. absurd (false≢true is) };
  receiver = record {
    told = record { covers = omega arith; reaches = λ none. omega arith };
    passed = λ _. omega arith;
    fin = λ _ is. absurd (false≢true is);
    fresh = λ _ _ _. omega arith;
    copies = Every-nil _;
  };
  ask = tt;
}

opening_direction_held : (f : Flags) (paths buffer capacity : ℕ) → DirectionHolds f (opening_direction f.alters f.checked paths buffer capacity)
opening_direction_held f paths buffer capacity = record {
  owner = λ path is alone. cc;
  send = record { whole = refl; first = refl; held = Every-nil _; acked = omega arith; edge = λ none. omega arith; fin = λ is. absurd (false≢true is) };
  arrived = record { top = omega arith; cells = record { each = λ i n x n_is e. cc }; end = tt; before = λ place below. absurd (omega (arith, below)) };
  reader = record { size = refl; out = λ exact. refl; told = λ is. absurd (false≢true is); once = λ is. refl };
  lanes = record {
    each = λ i path p path_is e. subst (LaneHolds (view_of f (opened_send buffer) (opened_arriving capacity)) path) (in_replicate paths (lane_over f.alters f.checked) i p e)
        (new_lane_held f buffer capacity path);
  };
}

pub opening_held : (alters checked : Bool) (paths buffer capacity : ℕ) → Holds (opening_over alters checked paths buffer capacity)
opening_held alters checked paths buffer capacity = record {
  modes = record { a = λ is. absurd (false≢true is); b = λ is. refl; sent = λ is. absurd (false≢true is); answered = λ is. absurd (false≢true is) };
  ab = opening_direction_held (flags_ab (opening_over alters checked paths buffer capacity).modes) paths buffer capacity;
  ba = opening_direction_held (flags_ba (opening_over alters checked paths buffer capacity).modes) paths buffer capacity;
}

pub any_held : (alters checked : Bool) (paths buffer capacity : ℕ) (events : List Event) → Holds (after_events events (opening_over alters checked paths buffer capacity))
any_held alters checked paths buffer capacity events =
    after_events_held events (opening_over alters checked paths buffer capacity) (opening_held alters checked paths buffer capacity)

pub all_held : (paths buffer capacity : ℕ) (events : List Event) → Holds (after_events events (opening paths buffer capacity))
all_held paths buffer capacity events = any_held false false paths buffer capacity events
