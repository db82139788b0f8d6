-- A book gives itself to one path where an infinite mapping of that path is right.
use Rattle.stream_lanes.proofs.Words.{◌≡◌, refl, sym, ◌∙◌, ap, subst, ℕ, zero, suc, ◌+◌, ◌-◌, ◌<◌, ◌≤◌, Bool, true, false, nat_lt, ◌==◌, ⊎_elim, List, [], ◌∷◌}
use Rattle.stream_lanes.proofs.Words.{length, take, drop, Some, if◌then◌else◌, arith, ◌⊎◌, ◌&&◌, inl, inr, nat_le, is_none, and_parts, eqb-true, cases_lt}
use Rattle.stream_lanes.proofs.Words.{ltb-true, leb-true, slice_get, list_all, slice_get_within, Arriving, received, Sending, acked_len, is_gathered}
use Rattle.stream_lanes.proofs.Words.{tried_first, slice_get-drop, ByteMark, Acked, Held, Free, is_acked, has_tried, is_untouched, Pair, Lane, Cell, Flags}
use Rattle.stream_lanes.proofs.Words.{place_by, may_go, rises, view_of, LaneHolds, SendHolds, HasPlace, spent, AreAcked, AreNew, tried}
use Rattle.stream_lanes.specs.Holding.IsAlone.{given}
use Rattle.stream_lanes.proofs.Lists.{item_at}
use Rattle.stream_lanes.proofs.MarkLists.{AreAcked-within}
use Rattle.stream_lanes.proofs.Later.{Anyone, lane_later}
use Rattle.stream_lanes.proofs.Sends.{SendStep, go_infinite_step}
use Rattle.stream_lanes.proofs.LaneParts.{parts_of, whole, new_pairs}

-- each item of a list that passes as a whole passes
each_passes : {X : Type 0} (test : X → Bool) (xs : List X) (i : ℕ) (x : X) → list_all test xs ≡ true → slice_get xs i ≡ Some x → test x ≡ true
each_passes test [] i x all e = cc
each_passes test (y ∷ xs) zero x all e = let same : y ≡ x = cc in ap test (sym same) ∙ (and_parts (test y) (list_all test xs) all).0
each_passes test (y ∷ xs) (suc i) x all e = each_passes test xs i x (and_parts (test y) (list_all test xs) all).1 e

-- places that rise by one
rises_at : (place : ℕ) (cells : List Cell) (i : ℕ) (c : Cell) → rises place cells ≡ true → slice_get cells i ≡ Some c → c.place ≡ place + i
rises_at place [] i c rising e = cc
rises_at place (d ∷ cells) zero c rising e =
    let same : d ≡ c = cc in
    ap (λ (x : Cell). x.place) (sym same) ∙ eqb-true d.place place (and_parts (d.place == place) (rises (suc place) cells) rising).0 ∙ omega arith
rises_at place (d ∷ cells) (suc i) c rising e =
    rises_at (suc place) cells i c (and_parts (d.place == place) (rises (suc place) cells) rising).1 e ∙ omega arith

-- of gathered bytes each was tried by the path, or by none
tried_or_new : (path : ℕ) (ms : List ByteMark) (i : ℕ) (m : ByteMark) → tried_first path ms ≡ true → slice_get ms i ≡ Some m → (has_tried path m ≡ true) ⊎ (is_untouched m ≡ true)
tried_or_new path [] i m first e = cc
tried_or_new path (x ∷ ms) i m first e = by_new (is_untouched x) refl first (λ j rest there. tried_or_new path ms j m rest there)
  where
    here : (P : ByteMark → Type 0) → P x → slice_get (x ∷ ms) 0 ≡ Some m → P m
    here P is there = let same : x ≡ m = cc in subst P same is

    by_tried : (i : ℕ) → slice_get (x ∷ ms) i ≡ Some m → (b : Bool) → has_tried path x ≡ b → (if b then tried_first path ms else false) ≡ true
        → ((i : ℕ) → tried_first path ms ≡ true → slice_get ms i ≡ Some m → (has_tried path m ≡ true) ⊎ (is_untouched m ≡ true)) → (has_tried path m ≡ true) ⊎ (is_untouched m ≡ true)
    by_tried i e false is first rest = cc
    by_tried zero e true is first rest = inl (here (λ y. has_tried path y ≡ true) is e)
    by_tried (suc i) e true is first rest = rest i first e

    all_new : (i : ℕ) → slice_get (x ∷ ms) i ≡ Some m → is_untouched x ≡ true → list_all is_untouched ms ≡ true → is_untouched m ≡ true
    all_new zero e is all = here (λ y. is_untouched y ≡ true) is e
    all_new (suc i) e is all = each_passes is_untouched ms i m all e

    by_new : (b : Bool) → is_untouched x ≡ b → (if b then list_all is_untouched ms else (if has_tried path x then tried_first path ms else false)) ≡ true
        → ((i : ℕ) → tried_first path ms ≡ true → slice_get ms i ≡ Some m → (has_tried path m ≡ true) ⊎ (is_untouched m ≡ true))
        → (has_tried path m ≡ true) ⊎ (is_untouched m ≡ true)
    by_new true is all rest = inr (all_new i e is all)
    by_new false is first rest = by_tried i e (has_tried path x) refl first rest

-- what is acknowledged is spent for every path
acked_at : (path n place : ℕ) (ms : List ByteMark) → AreAcked n ms → place < n → spent path (slice_get ms place) ≡ true
acked_at path n place [] are below = absurd (omega (arith, are, below))
acked_at path zero place (m ∷ ms) are below = absurd (omega (arith, below))
acked_at path (suc n) zero (m ∷ ms) are below = (elim m as (λ m. is_acked m ≡ true → spent path (Some m) ≡ true)
    [ Acked ↦ λ e. refl | Held holder tried ↦ λ e. cc | Free tried ↦ λ e. cc ]) are.0
acked_at path (suc n) (suc place) (m ∷ ms) are below = acked_at path n place ms are.1 (omega (arith, below))

module _ (f : Flags) (s : Sending) (b : Arriving) (send : SendHolds s (view_of f s b)) (path pos : ℕ) (p : Lane) (h : LaneHolds (view_of f s b) path p) (may : may_go path pos s p ≡ true) where
  abbrev first : ℕ
  first = acked_len s.marks

  abbrev pair : Pair
  pair = record { pos = pos; place = first }

  abbrev book : Sending
  book = record s { owner = Some path }

  opened : (p.opened ≡ true) × ((is_gathered path s && (nat_le pos (length p.sent) && (list_all (λ c. nat_lt c.place first) (take pos p.sent) && rises first (drop pos p.sent)))) ≡ true)
  opened = and_parts p.opened _ may

  gathers : (is_gathered path s ≡ true) × ((nat_le pos (length p.sent) && (list_all (λ c. nat_lt c.place first) (take pos p.sent) && rises first (drop pos p.sent))) ≡ true)
  gathers = and_parts (is_gathered path s) _ opened.1

  inside : (nat_le pos (length p.sent) ≡ true) × ((list_all (λ c. nat_lt c.place first) (take pos p.sent) && rises first (drop pos p.sent)) ≡ true)
  inside = and_parts (nat_le pos (length p.sent)) _ gathers.1

  parts : (list_all (λ c. nat_lt c.place first) (take pos p.sent) ≡ true) × (rises first (drop pos p.sent) ≡ true)
  parts = and_parts (list_all (λ c. nat_lt c.place first) (take pos p.sent)) (rises first (drop pos p.sent)) inside.1

  within : pos ≤ length p.sent
  within = leb-true _ _ inside.0

  pub gathered : is_gathered path s ≡ true
  gathered = gathers.0

  -- from the position on places rise, and those before it lie below
  placed_by : (n : ℕ) (c : Cell) → pos ≤ n → slice_get p.sent n ≡ Some c → c.place ≡ place_by pair n
  placed_by n c from e = rises_at first (drop pos p.sent) (n - pos) c parts.1 (slice_get-drop pos p.sent (n - pos) n (omega (arith, from)) ∙ e)

  below_first : (n : ℕ) (c : Cell) → n < pos → slice_get p.sent n ≡ Some c → c.place < first
  below_first n c below e = ltb-true c.place first (each_passes (λ c. nat_lt c.place first) (take pos p.sent) n c parts.0 (taken n pos p.sent below ∙ e))
    where
      taken : (i n : ℕ) (xs : List Cell) → i < n → slice_get (take n xs) i ≡ slice_get xs i
      taken i zero xs less = absurd (omega (arith, less))
      taken i (suc n) [] less = refl
      taken zero (suc n) (x ∷ xs) less = refl
      taken (suc i) (suc n) (x ∷ xs) less = taken i n xs (omega (arith, less))

  spent_by : (place : ℕ) → place < place_by pair (length p.sent) → spent path (slice_get s.marks place) ≡ true
  spent_by place below = ⊎_elim
      (λ old. acked_at path first place s.marks send.first old)
      (λ new.
      let there = item_at p.sent (pos + (place - first)) (omega (arith, below, new, within)) in
      let at : there.0.place ≡ place = placed_by (pos + (place - first)) there.0 (omega arith) there.1 ∙ omega (arith, new) in
      subst (λ q. spent path (slice_get s.marks q) ≡ true) at (h.record_of.cells.each (pos + (place - first)) there.0 there.1).spent)
      (cases_lt place first)

  new_from : AreNew (place_by pair (length p.sent)) s.marks
  new_from place mark above e = ⊎_elim (λ is. absurd (recorded (h.record_of.tried place (ap (tried path) e ∙ is)))) (λ is. is)
      (tried_or_new path (drop first s.marks) (place - first) mark (and_parts (is_none s.owner) (tried_first path (drop first s.marks)) gathered).1
      (slice_get-drop first s.marks (place - first) place (omega (arith, above)) ∙ e))
    where
      recorded : HasPlace p.sent place → ⊥
      recorded has = ⊎_elim
          (λ below. let low = below_first has.at has.item below has.there in let same = has.holds in omega (arith, low, same, above))
          (λ from.
          let at = placed_by has.at has.item from has.there in let same = has.holds in
          let inside = slice_get_within p.sent has.at has.item has.there in
          omega (arith, at, same, inside, above, from))
          (cases_lt has.at pos)

  upto : place_by pair (length p.sent) ≤ length s.written
  upto = at (length p.sent - pos) refl
    where
      at : (n : ℕ) → length p.sent - pos ≡ n → place_by pair (length p.sent) ≤ length s.written
      at zero is = omega (arith, is, AreAcked-within first s.marks send.first, send.whole)
      at (suc n) is =
          let there = item_at p.sent (pos + n) (omega (arith, is)) in
          let place = placed_by (pos + n) there.0 (omega arith) there.1 in
          let low = slice_get_within s.written there.0.place there.0.byte (h.record_of.cells.each (pos + n) there.0 there.1).byte in
          omega (arith, is, place, low)

  joined : (view_of f s b).alone ≡ true → path ≡ 0
  joined alone = h.modes.joined opened.0 alone

  pub goes_step : SendStep Anyone f s book b
  goes_step = go_infinite_step f s b send path gathered joined

  pub goes_held : ((n : ℕ) → AreNew n s.marks → received b ≤ n) → LaneHolds (view_of f book b) path (record p { pair = Some pair })
  goes_held far =
      let now : LaneHolds (view_of f book b) path p = lane_later goes_step.later path p tt far h in
      whole (new_pairs (record {
        own = (
          record { within = within; places = λ n c from e. placed_by n c from e; spent = spent_by; rest = new_from; upto = upto; owner = given refl },
          omega arith,
          refl,
        );
        told = now.pairs.told;
        took = now.pairs.took;
      }) (parts_of now))
