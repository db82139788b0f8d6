-- What waits before a direction: it has room in its queue, and is handed on in time.
use Rattle.std.proofs.Common.{◌≡◌, refl, ap, ℕ, ◌+◌, ◌-◌, ◌*◌, ◌<◌, ◌≤◌, Bool, true, false, cond, List, [], ◌∷◌, Option, Some, None, inl, inr, arith}
use Rattle.std.specs.Prelude.{◌⊎◌}
use Rattle.std.specs.Int.{div_ceil}
use Rattle.std.proofs.lemmas.Bool.{cases_lt, ltb-false}
use Rattle.std.proofs.Math.Nat.{mul-add, add-mul, mul_comm, mul-le-mul_left, mul-le-mul_right}
use Rattle.std.proofs.lemmas.Grind.{div_ceil_times}
use Rattle.sides.specs.declared.side.Side.{Side}
use Rattle.sides.specs.declared.side.Side.TheVariants.{A, B}
use Rattle.link_script.specs.declared.script.ScriptLine.{ScriptLine}
use Rattle.link_model.specs.Bounds.{IsRate, HasRate}
use Rattle.link_model.specs.declared.passage.Rate.{Rate}
use Rattle.link_model.specs.declared.passage.Waiting.{Waiting}
use Rattle.link_model.specs.Passage.{empty_queue, left_at, is_full, queued, ticks_queued}
use Rattle.link_model.specs.Laws.{handed_on, AreLater, IsWithin, IsPaced}
use Rattle.link_model.specs.State.{LinkState, HasRoom}
use Rattle.link_model.specs.Steps.{new_link, next_number, waiting_of, rate_of, is_lost_at_once, is_refused, waiting_with, waiting_after, after_send}

-- ---- room

pub room_queued : (rate : Option Rate) (now octets : ℕ) (w : Waiting) → HasRoom rate w → is_full rate now octets w ≡ false → HasRoom rate (queued rate now octets w)
room_queued None now octets w h e = h
room_queued (Some rate) now octets w h e = ltb-false rate.queue (left_at rate now w + octets) e

pub room_after : {C : Type 0} (from : Side) (number length now : ℕ) (link : LinkState C) → HasRoom (rate_of from link) (waiting_of from link)
    → HasRoom (rate_of from link) (waiting_after from number length now link)
room_after from number length now link h = by (is_lost_at_once from number link) (is_refused from length now link) refl
  where
    by : (b c : Bool) → is_refused from length now link ≡ c → HasRoom (rate_of from link) (cond b (waiting_of from link) (cond c (waiting_of from link) (waiting_with from length now link)))
    by true c e = h
    by false true e = h
    by false false e = room_queued (rate_of from link) now (length + 20) (waiting_of from link) h e

pub no_room : (rate : Option Rate) → HasRoom rate empty_queue
no_room None = refl
no_room (Some rate) = omega arith

pub no_room_yet : (C : Type 0) (seed path delay : ℕ) (lines : List ScriptLine) (from : Side) → HasRoom (rate_of from (new_link {C = C} seed path delay lines)) (waiting_of from (new_link {C = C} seed path delay lines))
no_room_yet C seed path delay lines A = no_room (rate_of A (new_link {C = C} seed path delay lines))
no_room_yet C seed path delay lines B = no_room (rate_of B (new_link {C = C} seed path delay lines))

pub room_sent : {C : Type 0} (strip alter : Side → C → C) (from of : Side) (carried : C) (length now : ℕ) (link : LinkState C) → HasRoom (rate_of of link) (waiting_of of link)
    → HasRoom (rate_of of (after_send strip alter from carried length now link)) (waiting_of of (after_send strip alter from carried length now link))
room_sent strip alter A A carried length now link h = room_after A (next_number A link) length now link h
room_sent strip alter B B carried length now link h = room_after B (next_number B link) length now link h
room_sent strip alter A B carried length now link h = h
room_sent strip alter B A carried length now link h = h

-- ---- time

times_up : (a b n : ℕ) → a ≤ b → a * n ≤ b * n
times_up a b n le = mul-le-mul_right n le

-- at most so many times as many ticks
ceil_below : (x n most : ℕ) → 0 < n → x ≤ most * n → div_ceil x n ≤ most
ceil_below x n most some le = by (cases_lt most (div_ceil x n))
  where
    by : (most < div_ceil x n) ⊎ (div_ceil x n ≤ most) → div_ceil x n ≤ most
    by (inr few) = few
    by (inl many) = absurd (omega (arith, le, (div_ceil_times x n some).1, times_up (most + 1) (div_ceil x n) n (omega (arith, many))))

queue_is_short : (rate : Rate) (w : Waiting) → IsRate rate → w.left ≤ rate.queue → w.left ≤ 100000 * rate.octets
queue_is_short rate w is room = omega (arith, is.some_octets, is.small_queue, room)

-- at most a million octets wait before a direction
pub few_wait : (rate : Option Rate) (w : Waiting) → HasRate rate → HasRoom rate w → w.left ≤ 1000000
few_wait None w is room = omega (arith, room)
few_wait (Some rate) w is room = omega (arith, is.small_queue, room)

pub waits_shortly : (rate : Option Rate) (w : Waiting) → HasRate rate → HasRoom rate w → ticks_queued rate w ≤ 100000
waits_shortly None w is room = omega arith
waits_shortly (Some rate) w is room = ceil_below w.left rate.octets 100000 (omega (arith, is.some_octets)) (queue_is_short rate w is room)

-- ---- the order of a queue

ceil_more : (x y n : ℕ) → 0 < n → x ≤ y → div_ceil x n ≤ div_ceil y n
ceil_more x y n some le = ceil_below x n (div_ceil y n) some (omega (arith, le, (div_ceil_times y n some).0))

-- after some ticks what is left takes no less than the ticks that are left
ceil_passes : (x n d : ℕ) → 0 < n → div_ceil x n ≤ d + div_ceil (x - n * d) n
ceil_passes x n d some =
    let c = div_ceil (x - n * d) n in
    ceil_below x n (d + c) some (omega (arith, (div_ceil_times (x - n * d) n some).0, add-mul d c n, mul_comm d n))

-- what is left at a later tick
left_later : (rate : Rate) (now later : ℕ) (w : Waiting) → now ≤ later → left_at rate now w - rate.octets * (later - now) ≤ left_at rate later w
left_later rate now later w le =
    let passed = later - now in
    let times = mul-le-mul_left rate.octets (not_longer now later w.at le) in
    omega (arith, times, mul-add rate.octets (now - w.at) passed)
  where
    not_longer : (now later at : ℕ) → now ≤ later → later - at ≤ (now - at) + (later - now)
    not_longer now later at le = omega (arith, le)

-- the ticks that a segment without an octet would wait
abbrev pub ticks_behind : Option Rate → ℕ → Waiting → ℕ
ticks_behind rate now w = ticks_queued rate (queued rate now 0 w)

pub more_wait_longer : (rate : Option Rate) (now octets : ℕ) (w : Waiting) → HasRate rate → ticks_behind rate now w ≤ ticks_queued rate (queued rate now octets w)
more_wait_longer None now octets w is = omega arith
more_wait_longer (Some rate) now octets w is = ceil_more (left_at rate now w + 0) (left_at rate now w + octets) rate.octets (omega (arith, is.some_octets)) (omega arith)

-- a later one comes no earlier behind what waits
pub later_behind : (rate : Option Rate) (now later : ℕ) (w : Waiting) → HasRate rate → now ≤ later → now + ticks_behind rate now w ≤ later + ticks_behind rate later w
later_behind None now later w is le = omega (arith, le)
later_behind (Some rate) now later w is le =
    let some : 0 < rate.octets = omega (arith, is.some_octets) in
    let passes = ceil_passes (left_at rate now w + 0) rate.octets (later - now) some in
    let more = ceil_more (left_at rate now w + 0 - rate.octets * (later - now)) (left_at rate later w + 0) rate.octets some (omega (arith, left_later rate now later w le)) in
    omega (arith, passes, more, le)

-- nor behind what was queued before
pub later_behind_it : (rate : Option Rate) (now later octets : ℕ) (w : Waiting) → HasRate rate → now ≤ later
    → now + ticks_queued rate (queued rate now octets w) ≤ later + ticks_behind rate later (queued rate now octets w)
later_behind_it None now later octets w is le = omega (arith, le)
later_behind_it (Some rate) now later octets w is le =
    let some : 0 < rate.octets = omega (arith, is.some_octets) in
    let left = left_at rate now w + octets in
    let passes = ceil_passes left rate.octets (later - now) some in
    let more = ceil_more (left - rate.octets * (later - now)) (left - rate.octets * (later - now) + 0) rate.octets some (omega arith) in
    omega (arith, passes, more, le)

-- ---- a rate is a rate

-- octets and ticks in one: what waits, and as many as a rate hands on up to now
abbrev mark : Rate → Waiting → ℕ
mark rate w = w.left + rate.octets * w.at

mark_more : (rate : Rate) (now octets : ℕ) (w : Waiting) → w.at ≤ now → mark rate w + octets ≤ mark rate (queued (Some rate) now octets w)
mark_more rate now octets w le =
    let passed = now - w.at in
    let whole : rate.octets * now ≡ rate.octets * (w.at + passed) = ap (λ (n : ℕ). rate.octets * n) (plus now w.at le) in
    omega (arith, whole, mul-add rate.octets w.at passed)
  where
    plus : (now at : ℕ) → at ≤ now → now ≡ at + (now - at)
    plus now at le = omega (arith, le)

-- a segment is handed on in the tick in which its last octet is
handed_in : (rate : Rate) (w : Waiting) → 0 < rate.octets → (mark rate w ≤ rate.octets * (w.at + ticks_queued (Some rate) w)) × (rate.octets * (w.at + ticks_queued (Some rate) w) < mark rate w + rate.octets)
handed_in rate w some =
    let c = div_ceil w.left rate.octets in
    let times = div_ceil_times w.left rate.octets some in
    (omega (arith, times.0, mul-add rate.octets w.at c, mul_comm c rate.octets), omega (arith, times.1, mul-add rate.octets w.at c, mul_comm c rate.octets))

-- a bound on the octets that are handed on from one tick to another, n a tick
span : (n first last sum : ℕ) → 0 < n → sum + n * first < n * last + n → sum ≤ n * (last + 1 - first)
span n first last sum some low =
    let grows : n * (last + 1) ≡ n * last + n * 1 = mul-add n last 1 in
    by (cases_lt (last + 1) first) grows
  where
    by : ((last + 1) < first) ⊎ (first ≤ last + 1) → n * (last + 1) ≡ n * last + n * 1 → sum ≤ n * (last + 1 - first)
    by (inl early) grows = absurd (omega (arith, low, grows, mul-le-mul_left n (soon early)))
      where
        soon : (last + 1) < first → last + 1 ≤ first
        soon e = omega (arith, e)
    by (inr late) grows =
        let whole : n * (last + 1) ≡ n * (first + (last + 1 - first)) = ap (λ (k : ℕ). n * k) (parts late) in
        omega (arith, low, grows, whole, mul-add n first (last + 1 - first))
      where
        parts : first ≤ last + 1 → last + 1 ≡ first + (last + 1 - first)
        parts le = omega (arith, le)

within_rate : (rate : Rate) → 0 < rate.octets → (first sum : ℕ) (begun w : Waiting) → rate.octets * first < mark rate begun + rate.octets → mark rate begun + sum ≤ mark rate w
    → (segments : List (ℕ × ℕ)) → AreLater w.at segments → IsWithin rate first sum (handed_on rate w segments)
within_rate rate some first sum begun w low kept [] later = tt
within_rate rate some first sum begun w low kept (s ∷ segments) later =
    by (is_full (Some rate) s.0 s.1 w)
    (within_rate rate some first sum begun w low kept segments (wider segments later.1))
    (λ more. within_rate rate some first (sum + s.1) begun (queued (Some rate) s.0 s.1 w) low more segments later.1)
  where
    wider : (segments : List (ℕ × ℕ)) → AreLater s.0 segments → AreLater w.at segments
    wider [] h = tt
    wider (r ∷ more) h = (omega (arith, later.0, h.0), h.1)

    by : (b : Bool) → IsWithin rate first sum (handed_on rate w segments)
        → (mark rate begun + (sum + s.1) ≤ mark rate (queued (Some rate) s.0 s.1 w) → IsWithin rate first (sum + s.1) (handed_on rate (queued (Some rate) s.0 s.1 w) segments))
        → IsWithin rate first sum (cond b (handed_on rate w segments) ((s.0 + ticks_queued (Some rate) (queued (Some rate) s.0 s.1 w), s.1) ∷ handed_on rate (queued (Some rate) s.0 s.1 w) segments))
    by true full next = full
    by false full next =
        let after = queued (Some rate) s.0 s.1 w in
        let more = mark_more rate s.0 s.1 w later.0 in
        let here = handed_in rate after some in (
          span rate.octets first (s.0 + ticks_queued (Some rate) after) (sum + s.1) some (omega (arith, low, kept, more, here.0)),
          next (omega (arith, kept, more)),
        )

pub rate_is_kept : (rate : Rate) → 0 < rate.octets → (w : Waiting) (segments : List (ℕ × ℕ)) → AreLater w.at segments → IsPaced rate (handed_on rate w segments)
rate_is_kept rate some w [] later = tt
rate_is_kept rate some w (s ∷ segments) later =
    by (is_full (Some rate) s.0 s.1 w) (rate_is_kept rate some w segments (wider segments later.1)) (rate_is_kept rate some (queued (Some rate) s.0 s.1 w) segments later.1)
  where
    wider : (segments : List (ℕ × ℕ)) → AreLater s.0 segments → AreLater w.at segments
    wider [] h = tt
    wider (r ∷ more) h = (omega (arith, later.0, h.0), h.1)

    by : (b : Bool) → IsPaced rate (handed_on rate w segments) → IsPaced rate (handed_on rate (queued (Some rate) s.0 s.1 w) segments)
        → IsPaced rate (cond b (handed_on rate w segments) ((s.0 + ticks_queued (Some rate) (queued (Some rate) s.0 s.1 w), s.1) ∷ handed_on rate (queued (Some rate) s.0 s.1 w) segments))
    by true full next = full
    by false full next =
        let after = queued (Some rate) s.0 s.1 w in
        (within_rate rate some (s.0 + ticks_queued (Some rate) after) 0 after after (handed_in rate after some).1 (omega arith) segments later.1, next)
