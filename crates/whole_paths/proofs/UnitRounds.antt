-- A unit more in twenty rounds: of a stream that isn't all there a segment is read, or it is closed, or its end is known.
use Rattle.std.proofs.Common.{◌≡◌, refl, sym, subst, ap, ◌∙◌, ◌⊎◌, inl, inr, ⊎_elim, ℕ, zero, suc, ◌+◌, ◌*◌, ◌/◌, ◌<◌, ◌≤◌, min, nat_le, arith, Bool, true, false, true≢false, if◌then◌else◌, is_some, Option, Some, None, List, [], ◌∷◌, ◌++◌, length}
use Rattle.std.proofs.Math.Nat.{div-mul-le_self, mul-le-mul_right}
use Rattle.std.proofs.lemmas.Bool.{cases_lt, le-leb, leb-true}
use Rattle.std.proofs.lemmas.Grind.{div_ceil_times}
use Rattle.std.proofs.lemmas.List.{append-nil, append_assoc}
use Rattle.std.proofs.lemmas.Nat.{le-div}
use Rattle.sides.specs.declared.side.Side.{Side}
use Rattle.sides.specs.declared.side.Side.TheVariants.{A, B}
use Rattle.sides.specs.Side.{peer}
use Rattle.send_book.specs.State.{acked_len}
use Rattle.reassembly_book.specs.State.{received}
use Rattle.stream_lanes.specs.Words.{Every}
use Rattle.actor_desk.specs.Words.{pick}
use Rattle.path_core.specs.Values.{Carried, values}
use Rattle.world_laws.specs.Openings.{PathPlan, Start}
use Rattle.world_laws.specs.Promises.{arrived_at, written_by}
use Rattle.world_laws.specs.RoundDone.{reached}
use Rattle.world_laws.specs.Worlds.{Turn, WorldState}
use Rattle.world_laws.proofs.Worlds.CastLifting.{writes_the_files}
use Rattle.whole_paths.specs.Courses.{round_end}
use Rattle.whole_paths.specs.Delivery.{AllIsThere, IsAllThere}
use Rattle.whole_paths.specs.EndRounds.{AnEndComes, EndIsKnown, IsClosed}
use Rattle.whole_paths.specs.Finish.{payload_of, segments}
use Rattle.whole_paths.specs.GoingOn.{steps_of}
use Rattle.whole_paths.specs.News.{one_if}
use Rattle.whole_paths.specs.Mild.{IsMildStart}
use Rattle.whole_paths.specs.OnePathScripts.{BeginsWithOnePath}
use Rattle.whole_paths.specs.OpenCourses.{IsOpenAfter}
use Rattle.whole_paths.specs.SegmentRounds.{IsHeard, IsWellAfter, Rounds, StaysOpen, read_after}
use Rattle.whole_paths.specs.SharpCourses.{most_units, segments_read, stream_units, units}
use Rattle.whole_paths.specs.UnitRounds.{AUnitIsMade, AllUnitsAreThere, IsAllWell, ShortWaitsGoOn, WaitsGoOn, WellRounds, WhatIsToldIsHeard}
use Rattle.whole_paths.proofs.Delivery.{bounds_at}
use Rattle.whole_paths.proofs.EndRounds.{an_end_is_told}
use Rattle.whole_paths.proofs.News.{known_up, one_most, one_up}
use Rattle.whole_paths.proofs.ReadSegments.{a_segment_is_read}
use Rattle.whole_paths.proofs.RoundSteps.{Between, between, each_round_reads, far, rounds_later, steps_later, there_whole}
use Rattle.whole_paths.proofs.SegmentRounds.{stays_there}
use Rattle.whole_paths.proofs.SegmentsRead.{segments_few, segments_up, stream_few}
use Rattle.whole_paths.proofs.Courses.{round_next}

-- ---- waits

module _ (start : Start) (Well : List Turn → Type 0) where
  pub rounds_of : (n : ℕ) (v u : List Turn) → WellRounds start Well n v u → Rounds start n v u
  rounds_of zero v u r = r.0
  rounds_of (suc n) v u r = (r.0, (rounds_of n v r.0 r.1.0, r.1.1.0))

  pub well_before : (n : ℕ) (v u : List Turn) → WellRounds start Well n v u → Well v
  well_before zero v u r = r.1
  well_before (suc n) v u r = well_before n v r.0 r.1.0

  pub well_after : (n : ℕ) (v u : List Turn) → WellRounds start Well n v u → Well u
  well_after zero v u r = subst Well r.0 r.1
  well_after (suc n) v u r = r.1.1.1

  -- the first ones and the others
  pub record Parted (n m : ℕ) (v u : List Turn) : Type 0 where
    pub between_them : List Turn
    pub first : WellRounds start Well n v between_them
    pub rest : WellRounds start Well m between_them u

  pub parted : (n m k : ℕ) (v u : List Turn) → k ≡ m + n → WellRounds start Well k v u → Parted n m v u
  parted n zero k v u is r =
      let some : WellRounds start Well n v u = subst (λ j. WellRounds start Well j v u) (same_as is) r in record { between_them = u; first = some; rest = (refl, well_after n v u some) }
    where
      same_as : k ≡ 0 + n → k ≡ n
      same_as is = omega (arith, is)
  parted n (suc m) k v u is r =
      let some : WellRounds start Well (suc (m + n)) v u = subst (λ j. WellRounds start Well j v u) (same_as is) r in
      let p = parted n m (m + n) v some.0 refl some.1.0 in
      record { between_them = p.between_them; first = p.first; rest = (some.0, (p.rest, some.1.1)) }
    where
      same_as : k ≡ suc m + n → k ≡ suc (m + n)
      same_as is = omega (arith, is)

  open_more : (turns more : List Turn) (turn : Turn) → StaysOpen start turns more → IsOpenAfter start ((turns ++ more) ++ turn ∷ []) → StaysOpen start turns (more ++ turn ∷ [])
  open_more turns [] turn h after = (h, subst (λ t. IsOpenAfter start (t ++ turn ∷ [])) (append-nil turns) after)
  open_more turns (first ∷ more) turn h after =
      (h.0, open_more (turns ++ first ∷ []) more turn h.1 (subst (λ t. IsOpenAfter start (t ++ turn ∷ [])) (sym (append_assoc turns (first ∷ []) more)) after))

  step_on : (order : List ℕ) (actor : ℕ) → steps_of (order ++ actor ∷ []) ≡ steps_of order ++ Turn.Step actor ∷ []
  step_on [] actor = refl
  step_on (other ∷ order) actor = ap (λ t. Turn.Step other ∷ t) (step_on order actor)

  pub goes_on : WaitsGoOn start Well
  goes_on = record {
    begins = λ v over well before after. record { last = v; rounds = (refl, well); order = []; is = refl; over = over; stays_open = (before, after) };
    on = λ count v u actor h after. record {
      last = h.last;
      rounds = h.rounds;
      order = h.order ++ actor ∷ [];
      is = ap (λ t. t ++ Turn.Step actor ∷ []) h.is ∙ append_assoc h.last (Turn.Round ∷ steps_of h.order) (Turn.Step actor ∷ []) ∙ ap (λ t. h.last ++ Turn.Round ∷ t) (sym (step_on h.order actor));
      over = h.over;
      stays_open = subst (λ t. StaysOpen start h.last (Turn.Round ∷ t)) (sym (step_on h.order actor))
          (open_more h.last (Turn.Round ∷ steps_of h.order) (Turn.Step actor) h.stays_open (subst (λ t. IsOpenAfter start (t ++ Turn.Step actor ∷ [])) h.is after));
    };
    next = λ count v u h over well after. record {
      last = u;
      rounds = (h.last, (h.rounds, (record { order = h.order; is = h.is; before = h.over; over = over; stays_open = h.stays_open }, well)));
      order = [];
      is = refl;
      over = over;
      stays_open = (open_here h.last (Turn.Round ∷ steps_of h.order) u h.is h.stays_open, after);
    };
    ends = λ count v u h. (
        let all = rounds_later start count v h.last (rounds_of count v h.last h.rounds) in
        let next = round_next values start h.last h.over in
        let steps = steps_later start (h.last ++ Turn.Round ∷ []) h.order in
        let split = ap (round_end values start) (h.is ∙ sym (append_assoc h.last (Turn.Round ∷ []) (steps_of h.order))) in omega (arith, all, next, steps, split));
  }
    where
      open_at : (turns more : List Turn) → StaysOpen start turns more → IsOpenAfter start (turns ++ more)
      open_at turns [] h = subst (IsOpenAfter start) (sym (append-nil turns)) h
      open_at turns (turn ∷ more) h = subst (IsOpenAfter start) (append_assoc turns (turn ∷ []) more) (open_at (turns ++ turn ∷ []) more h.1)

      open_here : (turns more u : List Turn) → u ≡ turns ++ more → StaysOpen start turns more → IsOpenAfter start u
      open_here turns more u is h = subst (IsOpenAfter start) (sym is) (open_at turns more h)

pub short_waits_go_on : ShortWaitsGoOn
short_waits_go_on start = goes_on start (IsAllWell start)

-- ---- a unit more

-- a segment's payload more is one segment more
segment_rises : (mss total read later : ℕ) → read < total → min total (read + payload_of mss) ≤ later → segments_read mss total read < segments_read mss total later
segment_rises mss total read later low more = by (nat_le total read) refl (nat_le total later) refl
  where
    count : Bool → ℕ → ℕ
    count b n = if b then segments mss total else n / payload_of mss

    some : 0 < payload_of mss
    some = omega arith

    one_more : read / payload_of mss + 1 ≤ (read + payload_of mss) / payload_of mss
    one_more = le-div (read / payload_of mss + 1) (read + payload_of mss) (payload_of mss) some (let low = div-mul-le_self read (payload_of mss) in omega (arith, low))

    by : (c : Bool) → nat_le total read ≡ c → (d : Bool) → nat_le total later ≡ d → (if c then segments mss total else read / payload_of mss) < (if d then segments mss total else later / payload_of mss)
    by true is d same = absurd (let high = leb-true total read is in omega (arith, high, low))
    by false is true all =
        let whole = div_ceil_times total (payload_of mss) some in
        let under = div-mul-le_self read (payload_of mss) in
        ⊎_elim (λ less. less) (λ most. absurd (let product : segments mss total * payload_of mss ≤ read / payload_of mss * payload_of mss = mul-le-mul_right (payload_of mss) most in omega (arith, whole, under, product, low))) (cases_lt (read / payload_of mss) (segments mss total))
    by false is false part =
        let enough : read + payload_of mss ≤ later = ⊎_elim (λ less. absurd (true≢false (sym (le-leb total later (omega (arith, more, less))) ∙ part))) (λ most. omega (arith, most, more)) (cases_lt total (read + payload_of mss)) in
        let up = le-div ((read + payload_of mss) / payload_of mss) later (payload_of mss) some (let below = div-mul-le_self (read + payload_of mss) (payload_of mss) in omega (arith, below, enough)) in omega (arith, one_more, up)

module _ (start : Start) (plan : PathPlan) (x : BeginsWithOnePath start plan) where
  abbrev at : List Turn → WorldState Carried
  at turns = reached values start turns

  -- of one side's stream
  abbrev units_of : Side → List Turn → ℕ
  units_of s turns = stream_units plan.mss (length (pick s start.file_a start.file_b)) (written_by s (at turns)) (arrived_at (peer s) (at turns))

  units_up : (s : Side) (v u : List Turn) → Between start v u → units_of s v ≤ units_of s u
  units_up s v u b =
      let later = far start v u b in
      let sent = (later.sides s).send in
      let arrived = (later.sides (peer s)).arrival in
      let read = segments_up plan.mss (length (pick s start.file_a start.file_b)) (arrived_at (peer s) (at v)).read (arrived_at (peer s) (at u)).read arrived.read in
      let closed = one_up (written_by s (at v)).closed (written_by s (at u)).closed sent.closed in
      let known = known_up (arrived_at (peer s) (at v)).known_end (arrived_at (peer s) (at u)).known_end arrived.end in omega (arith, read, closed, known)

  abbrev HasAllUnits : Side → List Turn → Type 0
  HasAllUnits s turns = segments plan.mss (length (pick s start.file_a start.file_b)) + 2 ≤ units_of s turns

  one_rises : (b c : Bool) → b ≡ false → c ≡ true → one_if b < one_if c
  one_rises b c was is = rw (was, is) (omega arith)

  -- what was not so before, and is now
  units_rise : (s : Side) (v u : List Turn) → Between start v u
      → (segments_read plan.mss (length (pick s start.file_a start.file_b)) (read_after start s v) < segments_read plan.mss (length (pick s start.file_a start.file_b)) (read_after start s u))
      ⊎ ((one_if (written_by s (at v)).closed < one_if (written_by s (at u)).closed) ⊎ (one_if (is_some (arrived_at (peer s) (at v)).known_end) < one_if (is_some (arrived_at (peer s) (at u)).known_end)))
      → units_of s v < units_of s u
  units_rise s v u b rises =
      let later = far start v u b in
      let sent = (later.sides s).send in
      let arrived = (later.sides (peer s)).arrival in
      let read = segments_up plan.mss (length (pick s start.file_a start.file_b)) (arrived_at (peer s) (at v)).read (arrived_at (peer s) (at u)).read arrived.read in
      let closed = one_up (written_by s (at v)).closed (written_by s (at u)).closed sent.closed in
      let known = known_up (arrived_at (peer s) (at v)).known_end (arrived_at (peer s) (at u)).known_end arrived.end in
      ⊎_elim (λ more. omega (arith, more, closed, known)) (λ others. ⊎_elim (λ more. omega (arith, more, read, known)) (λ more. omega (arith, more, read, closed)) others) rises

  -- a stream that is read, closed, and whose end is known, has all its units
  all_units : (v : List Turn) (s : Side) → length (pick s start.file_a start.file_b) ≤ read_after start s v → IsClosed start s v → EndIsKnown start s v → HasAllUnits s v
  all_units v s read closed known =
      let of_read : segments_read plan.mss (length (pick s start.file_a start.file_b)) (read_after start s v) ≡ segments plan.mss (length (pick s start.file_a start.file_b)) =
      ap (λ b. if b then segments plan.mss (length (pick s start.file_a start.file_b)) else read_after start s v / payload_of plan.mss) (le-leb (length (pick s start.file_a start.file_b)) (read_after start s v) read) in
      let of_closed : one_if (written_by s (at v)).closed ≡ 1 = ap one_if closed in
      let of_known : one_if (is_some (arrived_at (peer s) (at v)).known_end) ≡ 1 = ap one_if known in omega (arith, of_read, of_closed, of_known)

  module _ (room : 29 ≤ plan.mss) (Well : List Turn → Type 0) (so : ((turns : List Turn) → Well turns → IsAllWell start turns)) (hears : WhatIsToldIsHeard start plan Well)
      (v u : List Turn) (rounds : WellRounds start Well 20 v u) where
    -- six rounds by which it is heard what was told
    a_part : Parted start Well 6 14 v u
    a_part = parted start Well 6 14 20 v u refl rounds

    abbrev a : List Turn
    a = a_part.between_them

    all_between : Between start v u
    all_between = between start 19 v u (rounds_of start Well 20 v u rounds)

    -- a stream of which bytes are left: one, four, four, and five
    module _ (s : Side) (heard : IsHeard start plan s v a) (left : read_after start s v < length (pick s start.file_a start.file_b)) where
      b_part : Parted start Well 1 13 a u
      b_part = parted start Well 1 13 14 a u refl a_part.rest

      abbrev b : List Turn
      b = b_part.between_them

      c_part : Parted start Well 4 9 b u
      c_part = parted start Well 4 9 13 b u refl b_part.rest

      abbrev c : List Turn
      c = c_part.between_them

      d_part : Parted start Well 4 5 c u
      d_part = parted start Well 4 5 9 c u refl c_part.rest

      abbrev d : List Turn
      d = d_part.between_them

      reads : units_of s v < units_of s u
      reads =
          let more = a_segment_is_read start plan x s v a b c d u (rounds_of start Well 6 v a a_part.first) (rounds_of start Well 1 a b b_part.first) (rounds_of start Well 4 b c c_part.first) (rounds_of start Well 4 c d d_part.first)
          (rounds_of start Well 5 d u d_part.rest) (so v (well_before start Well 20 v u rounds) s) (so b (well_after start Well 1 a b b_part.first) s) (so c (well_after start Well 4 b c c_part.first) s)
          (so d (well_after start Well 4 c d d_part.first) s) heard in
          units_rise s v u all_between (inl (segment_rises plan.mss (length (pick s start.file_a start.file_b)) (read_after start s v) (read_after start s u) left (omega (arith, more, room))))

    -- one that is read: two, and four
    module _ (s : Side) (heard : IsHeard start plan s v a) (all : length (pick s start.file_a start.file_b) ≤ read_after start s v) where
      w_part : Parted start Well 1 5 v a
      w_part = parted start Well 1 5 6 v a refl a_part.first

      abbrev w : List Turn
      w = w_part.between_them

      closed_part : Parted start Well 2 12 a u
      closed_part = parted start Well 2 12 14 a u refl a_part.rest

      abbrev closed_at : List Turn
      closed_at = closed_part.between_them

      known_part : Parted start Well 4 8 closed_at u
      known_part = parted start Well 4 8 12 closed_at u refl closed_part.rest

      abbrev known_at : List Turn
      known_at = known_part.between_them

      ends : HasAllUnits s v ⊎ (units_of s v < units_of s u)
      ends = by_closed (written_by s (at v)).closed refl
        where
          acked : length (pick s start.file_a start.file_b) ≤ acked_len (written_by s (at a)).marks
          acked = (let came = heard.acked in let low : read_after start s v ≤ received (arrived_at (peer s) (at v)) = omega arith in omega (arith, came, low, all))

          well_w : IsWellAfter start s w
          well_w = so w (well_after start Well 1 v w w_part.first) s

          read_up : read_after start s v ≤ read_after start s w
          read_up = ((far start v w (between start 0 v w (rounds_of start Well 1 v w w_part.first))).sides (peer s)).arrival.read

          comes : AnEndComes start s closed_at known_at
          comes = an_end_is_told start plan x s w a closed_at known_at (rounds_of start Well 5 w a w_part.rest) (rounds_of start Well 2 a closed_at closed_part.first)
              (rounds_of start Well 4 closed_at known_at known_part.first) well_w.path well_w.here well_w.told (let up = read_up in omega (arith, all, up)) acked (hears.fins s closed_at known_at known_part.first)

          closed_last : (written_by s (at u)).closed ≡ true
          closed_last = ((far start closed_at u (between start 11 closed_at u (rounds_of start Well 12 closed_at u closed_part.rest))).sides s).send.closed comes.closed

          known_last : is_some (arrived_at (peer s) (at u)).known_end ≡ true
          known_last = by (arrived_at (peer s) (at known_at)).known_end refl comes.known
            where
              by : (o : Option ℕ) → (arrived_at (peer s) (at known_at)).known_end ≡ o → is_some o ≡ true → is_some (arrived_at (peer s) (at u)).known_end ≡ true
              by None is known = absurd (true≢false (sym known))
              by (Some e) is known = ap (λ o. is_some o) (((far start known_at u (between start 7 known_at u (rounds_of start Well 8 known_at u known_part.rest))).sides (peer s)).arrival.end e is)

          by_known : (written_by s (at v)).closed ≡ true → (c : Bool) → is_some (arrived_at (peer s) (at v)).known_end ≡ c → HasAllUnits s v ⊎ (units_of s v < units_of s u)
          by_known closed true known = inl (all_units v s all closed known)
          by_known closed false none = inr (units_rise s v u all_between (inr (inr (one_rises (is_some (arrived_at (peer s) (at v)).known_end) (is_some (arrived_at (peer s) (at u)).known_end) none known_last))))

          by_closed : (c : Bool) → (written_by s (at v)).closed ≡ c → HasAllUnits s v ⊎ (units_of s v < units_of s u)
          by_closed true closed = by_known closed (is_some (arrived_at (peer s) (at v)).known_end) refl
          by_closed false still_open = inr (units_rise s v u all_between (inr (inl (one_rises (written_by s (at v)).closed (written_by s (at u)).closed still_open closed_last))))

    -- one that is there is read in the last round
    has_all : (s : Side) → IsAllThere s (at a) → HasAllUnits s v ⊎ (units_of s v < units_of s u)
    has_all s there =
        let last : List Turn = a_part.rest.0 in
        let before = stays_there start x.mild a last s (between start 12 a last (rounds_of start Well 13 a last a_part.rest.1.0)) there in
        let after = stays_there start x.mild a u s (between start 13 a u (rounds_of start Well 14 a u a_part.rest)) there in
        let whole = there_whole start last s before in
        let read = each_round_reads start last u x.mild a_part.rest.1.1.0 s in
        let full = all_units u s (omega (arith, whole, read)) after.closed (ap (λ o. is_some o) after.known) in
        ⊎_elim (λ less. inr (omega (arith, full, less))) (λ all. inl all) (cases_lt (units_of s v) (segments plan.mss (length (pick s start.file_a start.file_b)) + 2))

    of_side : (s : Side) → HasAllUnits s v ⊎ (units_of s v < units_of s u)
    of_side s = ⊎_elim
        (λ there. has_all s there)
        (λ heard. ⊎_elim (λ left. inr (reads s heard left)) (λ all. ends s heard all) (cases_lt (read_after start s v) (length (pick s start.file_a start.file_b))))
        (hears.heard s v a a_part.first)

    pub unit_more : (most_units start plan ≤ units start plan (at v)) ⊎ (units start plan (at v) < units start plan (at u))
    unit_more =
        let a_up = units_up A v u all_between in
        let b_up = units_up B v u all_between in
        ⊎_elim
        (λ all_a. ⊎_elim (λ all_b. inl (omega (arith, all_a, all_b))) (λ more. inr (omega (arith, more, a_up))) (of_side B))
        (λ more. inr (omega (arith, more, b_up)))
        (of_side A)

-- ... whatever says that all is well, so that more may be said of it than that
pub unit_so : (start : Start) (plan : PathPlan) → BeginsWithOnePath start plan → (Well : List Turn → Type 0)
    → ((turns : List Turn) → Well turns → IsAllWell start turns) → WhatIsToldIsHeard start plan Well → (v u : List Turn) → WellRounds start Well 20 v u
    → (most_units start plan ≤ units start plan (reached values start v)) ⊎ (units start plan (reached values start v) < units start plan (reached values start u))
unit_so start plan x Well so hears v u rounds =
    unit_more start plan x ((subst (Every (λ (y : PathPlan). 29 ≤ y.mss)) x.one x.mild.plain.size).each 0 plan refl) Well so hears v u rounds

pub a_unit_is_made : AUnitIsMade
a_unit_is_made start plan x hears v u rounds = unit_so start plan x (IsAllWell start) (λ turns is. is) hears v u rounds

-- ---- where all units are there

all_read : (mss total read : ℕ) → segments mss total ≤ segments_read mss total read → total ≤ read
all_read mss total read all = by (nat_le total read) refl all
  where
    by : (b : Bool) → nat_le total read ≡ b → segments mss total ≤ (if b then segments mss total else read / payload_of mss) → total ≤ read
    by true is all = leb-true total read is
    by false is all =
        let whole = div_ceil_times total (payload_of mss) (omega arith) in
        let under = div-mul-le_self read (payload_of mss) in
        let product : segments mss total * payload_of mss ≤ read / payload_of mss * payload_of mss = mul-le-mul_right (payload_of mss) all in omega (arith, whole, under, product)

set_so : (b : Bool) → 1 ≤ one_if b → b ≡ true
set_so true one = refl
set_so false one = absurd (omega (arith, one))

module _ (start : Start) (plan : PathPlan) (turns : List Turn) (mild : IsMildStart start) (all : most_units start plan ≤ units start plan (reached values start turns)) where
  abbrev now : WorldState Carried
  now = reached values start turns

  of_units : (s : Side) → segments plan.mss (length (pick s start.file_a start.file_b)) + 2 ≤ stream_units plan.mss (length (pick s start.file_a start.file_b)) (written_by s now) (arrived_at (peer s) now)
      → IsAllThere s now
  of_units s full = by (arrived_at (peer s) now).known_end refl known
    where
      few_read : segments_read plan.mss (length (pick s start.file_a start.file_b)) (arrived_at (peer s) now).read ≤ segments plan.mss (length (pick s start.file_a start.file_b))
      few_read = segments_few plan.mss (length (pick s start.file_a start.file_b)) (arrived_at (peer s) now).read

      few_closed : one_if (written_by s now).closed ≤ 1
      few_closed = one_most (written_by s now).closed

      few_known : one_if (is_some (arrived_at (peer s) now).known_end) ≤ 1
      few_known = one_most (is_some (arrived_at (peer s) now).known_end)

      closed : (written_by s now).closed ≡ true
      closed = set_so (written_by s now).closed (omega (arith, full, few_read, few_known))

      known : is_some (arrived_at (peer s) now).known_end ≡ true
      known = set_so (is_some (arrived_at (peer s) now).known_end) (omega (arith, full, few_read, few_closed))

      read : length (pick s start.file_a start.file_b) ≤ (arrived_at (peer s) now).read
      read = all_read plan.mss (length (pick s start.file_a start.file_b)) (arrived_at (peer s) now).read (omega (arith, full, few_closed, few_known))

      whole : length (written_by s now).written ≡ length (pick s start.file_a start.file_b)
      whole = of s closed
        where
          of : (t : Side) → (written_by t now).closed ≡ true → length (written_by t now).written ≡ length (pick t start.file_a start.file_b)
          of A is = ap (λ (xs : List ℕ). length xs) ((writes_the_files values start turns).a.whole is)
          of B is = ap (λ (xs : List ℕ). length xs) ((writes_the_files values start turns).b.whole is)

      most : received (arrived_at (peer s) now) ≤ length (written_by s now).written
      most = (bounds_at start turns mild s).most

      by : (o : Option ℕ) → (arrived_at (peer s) now).known_end ≡ o → is_some o ≡ true → IsAllThere s now
      by None is known = absurd (true≢false (sym known))
      by (Some e) is known = record { closed = closed; received = omega (arith, most, whole, read); known = is ∙ ap (λ n. Some n) ((bounds_at start turns mild s).end e is).1 }

  pub all_there : AllIsThere now
  all_there =
      let a = stream_few plan.mss (length start.file_a) (written_by A now) (arrived_at B now) in
      let b = stream_few plan.mss (length start.file_b) (written_by B now) (arrived_at A now) in
      record { of = elim [ A ↦ of_units A (omega (arith, all, b)) | B ↦ of_units B (omega (arith, all, a)) ] }

pub all_units_are_there : AllUnitsAreThere
all_units_are_there start plan turns mild all = all_there start plan turns mild all
