-- What an open end is to send next: the record that had no room in the window, or what it is granted then. Once it is first it goes.
use Rattle.std.proofs.Common.{◌≡◌, refl, sym, subst, ap, ◌∙◌, ◌⊎◌, inl, inr, ℕ, zero, suc, ◌+◌, ◌<◌, ◌≤◌, arith, Bool, true, false, if◌then◌else◌, Option, Some, None, List, [], ◌∷◌, length, map, le_refl}
use Rattle.std.specs.List.{slice_get}
use Rattle.std.specs.Prelude.{find}
use Rattle.std.proofs.lemmas.Option.{same_Some}
use Rattle.sides.specs.declared.side.Side.{Side}
use Rattle.stream_lanes.specs.Words.{Every, Has}
use Rattle.subflow_send.specs.Records.{Record, end_of, occupied, span_of}
use Rattle.subflow_send.specs.Rules.{is_unsent}
use Rattle.path_core.specs.Emission.{first_unsent, payload_size}
use Rattle.path_core.specs.End.{PathEnd}
use Rattle.path_core.specs.Profile.{Profile}
use Rattle.world_laws.proofs.Worlds.Finding.{find_every}
use Rattle.whole_paths.specs.SentInOrder.{sent_before, sent_up_to}
use Rattle.whole_paths.proofs.Pushed.{Known, all_sent, under_way}
use Rattle.whole_paths.proofs.Reached.{IsReached, Joined, Line, first_reached, joined_up, none_left}

-- ---- records in line

-- the first one that is to be sent stands where all is sent before
record_at : (nxt : ℕ) (rs : List Record) (r : Record) → find is_unsent rs ≡ Some r → (sent_before nxt rs ≡ r.pos) × ((i : ℕ) × (slice_get rs i ≡ Some r))
record_at nxt [] r is = cc
record_at nxt (x ∷ rs) r is = by (is_unsent x) is (record_at nxt rs r)
  where
    by : (b : Bool) → (if b then Some x else find is_unsent rs) ≡ Some r → (find is_unsent rs ≡ Some r → (sent_before nxt rs ≡ r.pos) × ((i : ℕ) × (slice_get rs i ≡ Some r)))
        → ((if b then x.pos else sent_before nxt rs) ≡ r.pos) × ((i : ℕ) × (slice_get (x ∷ rs) i ≡ Some r))
    by true is rest = (ap (λ (y : Record). y.pos) (same_Some x r is), (0, is))
    by false is rest = let found = rest is in (found.0, (suc found.1.0, found.1.1))

joined_low : (rs : List Record) (from to : ℕ) → Joined from to (map span_of rs) → from ≤ sent_before to rs
joined_low [] from to h = omega (arith, h)
joined_low (r ∷ rs) from to h = by (is_unsent r) (joined_low rs (end_of r) to h.1)
  where
    by : (b : Bool) → end_of r ≤ sent_before to rs → from ≤ (if b then r.pos else sent_before to rs)
    by true rest = let at = h.0 in omega (arith, at)
    by false rest = let at = h.0 in omega (arith, at, rest)

joined_high : (rs : List Record) (from to : ℕ) → Joined from to (map span_of rs) → sent_before to rs ≤ to
joined_high [] from to h = le_refl to
joined_high (r ∷ rs) from to h = by (is_unsent r) (joined_high rs (end_of r) to h.1)
  where
    by : (b : Bool) → sent_before to rs ≤ to → (if b then r.pos else sent_before to rs) ≤ to
    by true rest = let up = joined_up rs (end_of r) to h.1 in omega (arith, up)
    by false rest = rest

line_high : (rs : List Record) (una nxt : ℕ) → Line una nxt (map span_of rs) → sent_before nxt rs ≤ nxt
line_high [] una nxt h = le_refl nxt
line_high (r ∷ rs) una nxt h = by (is_unsent r) (joined_high rs (end_of r) nxt h.2)
  where
    by : (b : Bool) → sent_before nxt rs ≤ nxt → (if b then r.pos else sent_before nxt rs) ≤ nxt
    by true rest = let up = joined_up rs (end_of r) nxt h.2 in omega (arith, up)
    by false rest = rest

joined_at : (rs : List Record) (from to : ℕ) → Joined from to (map span_of rs) → (i : ℕ) (x : Record) → slice_get rs i ≡ Some x → from ≤ x.pos
joined_at [] from to h i x there = cc
joined_at (r ∷ rs) from to h zero x there = let at = h.0 in let same = ap (λ (y : Record). y.pos) (same_Some r x there) in omega (arith, at, same)
joined_at (r ∷ rs) from to h (suc i) x there = let at = h.0 in let rest = joined_at rs (end_of r) to h.1 i x there in omega (arith, at, rest)

-- ---- an end

module _ (c : Profile) (s : Side) (e : PathEnd) (taken : ℕ) (h : Known c s e taken) (reached : IsReached e.tcp) where
  -- no more is sent than was granted
  pub sent_within : sent_up_to e.tcp.send ≤ e.tcp.send.nxt
  sent_within = line_high e.tcp.send.records e.tcp.send.una e.tcp.send.nxt reached.lined.line

  -- All that was granted is sent; or a record stands there that reaches further than a full segment from SND.UNA on.
  pub next_waits : Every (λ (r : Record). length r.piece ≤ occupied r.kind r.piece) e.tcp.send.records
      → (e.tcp.send.nxt ≡ sent_up_to e.tcp.send) ⊎ Has (λ (r : Record). (r.pos ≡ sent_up_to e.tcp.send) × (e.tcp.send.una + c.mss < end_of r)) e.tcp.send.records
  next_waits sized = by (first_unsent e) refl
    where
      by : (o : Option Record) → first_unsent e ≡ o → (e.tcp.send.nxt ≡ sent_up_to e.tcp.send) ⊎ Has (λ (r : Record). (r.pos ≡ sent_up_to e.tcp.send) × (e.tcp.send.una + c.mss < end_of r)) e.tcp.send.records
      by None is = inl (sym (all_sent e.tcp.send.nxt e.tcp.send.records is))
      by (Some r) is =
          let found = record_at e.tcp.send.nxt e.tcp.send.records r is in
          let at : sent_up_to e.tcp.send ≡ r.pos = found.0 in
          let little = h.waits r is in
          let window = h.window in
          let small = h.small in
          let flown = under_way c s e taken h in
          let fits = (find_every (λ (x : Record). length x.piece ≤ payload_size c) is_unsent e.tcp.send.records r h.fits.sizes is).0 in
          let size = sized.each found.1.0 r found.1.1 in inr (record { at = found.1.0; item = r; there = found.1.1; holds = (sym at, omega (arith, at, little, window, small, flown, fits, size)) })

  -- the first record is sent
  first_goes : (r : Record) (others : List Record) → e.tcp.send.records ≡ r ∷ others → end_of r ≤ sent_up_to e.tcp.send
  first_goes r others is = by (is_unsent r) refl
    where
      sent_is : (b : Bool) → is_unsent r ≡ b → sent_up_to e.tcp.send ≡ (if b then r.pos else sent_before e.tcp.send.nxt others)
      sent_is b unsent = ap (λ rs. sent_before e.tcp.send.nxt rs) is ∙ ap (λ b. if b then r.pos else sent_before e.tcp.send.nxt others) unsent

      by : (b : Bool) → is_unsent r ≡ b → end_of r ≤ sent_up_to e.tcp.send
      by true unsent =
          let first : first_unsent e ≡ Some r = ap (λ rs. find is_unsent rs) is ∙ ap (λ b. if b then Some r else find is_unsent others) unsent in
          let little = h.waits r first in
          let window = h.window in
          let small = h.small in
          let flown = under_way c s e taken h in
          let fits = (find_every (λ (x : Record). length x.piece ≤ payload_size c) is_unsent e.tcp.send.records r h.fits.sizes first).0 in
          let at = sent_is true unsent in
          let low = first_reached e.tcp r others reached is in absurd (omega (arith, little, window, small, flown, fits, at, low))
      by false unsent =
          let line : Line e.tcp.send.una e.tcp.send.nxt (map span_of (r ∷ others)) = subst (λ rs. Line e.tcp.send.una e.tcp.send.nxt (map span_of rs)) is reached.lined.line in
          let low = joined_low others (end_of r) e.tcp.send.nxt line.2 in
          let at = sent_is false unsent in omega (arith, low, at)

  -- and so is each one that begins at SND.UNA or before it
  pub begun_goes : (i : ℕ) (x : Record) → slice_get e.tcp.send.records i ≡ Some x → x.pos ≤ e.tcp.send.una → end_of x ≤ sent_up_to e.tcp.send
  begun_goes i x there low = by e.tcp.send.records refl i there
    where
      by : (rs : List Record) → e.tcp.send.records ≡ rs → (i : ℕ) → slice_get rs i ≡ Some x → end_of x ≤ sent_up_to e.tcp.send
      by [] is i there = cc
      by (r ∷ others) is zero there = subst (λ y. end_of y ≤ sent_up_to e.tcp.send) (same_Some r x there) (first_goes r others is)
      by (r ∷ others) is (suc i) there =
          let line : Line e.tcp.send.una e.tcp.send.nxt (map span_of (r ∷ others)) = subst (λ rs. Line e.tcp.send.una e.tcp.send.nxt (map span_of rs)) is reached.lined.line in
          let behind = joined_at others (end_of r) e.tcp.send.nxt line.2 i x there in
          let left = h.first r others is in absurd (omega (arith, behind, left, low))

  -- so all before SND.UNA is sent
  pub una_sent : e.tcp.send.una ≤ sent_up_to e.tcp.send
  una_sent = by e.tcp.send.records refl
    where
      by : (rs : List Record) → e.tcp.send.records ≡ rs → e.tcp.send.una ≤ sent_up_to e.tcp.send
      by [] is = let none = none_left e.tcp reached is in let all = ap (λ rs. sent_before e.tcp.send.nxt rs) is in omega (arith, none, all)
      by (r ∷ others) is = let left = h.first r others is in let goes = first_goes r others is in omega (arith, left, goes)
