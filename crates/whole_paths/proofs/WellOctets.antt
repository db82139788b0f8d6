-- What is well before a record that was sent comes: it is of data, and was sent.
use Rattle.std.proofs.Common.{◌≡◌, refl, sym, subst, ap, ◌∙◌, ◌⊎◌, inl, inr, ⊎_elim, ℕ, zero, suc, ◌+◌, ◌<◌, ◌≤◌, arith, Bool, true, false, true≢false, Some, List, [], ◌∷◌, length, map}
use Rattle.std.specs.List.{slice_get}
use Rattle.std.proofs.lemmas.Option.{same_Some}
use Rattle.stream_lanes.specs.Words.{Every, Has}
use Rattle.sides.specs.declared.side.Side.{Side}
use Rattle.subflow_send.specs.Records.{Record, end_of, occupied, span_of}
use Rattle.subflow_send.specs.Rules.{is_unsent}
use Rattle.subflow_send.specs.declared.record.RecordKind.{RecordKind}
use Rattle.subflow_send.specs.declared.record.RecordKind.TheVariants.{Data}
use Rattle.subflow_send.specs.declared.record.RecordKind.TheVariants as kinds
use Rattle.path_core.specs.State.{PathState, end_at}
use Rattle.path_core.specs.Values.{Carried, values}
use Rattle.world_laws.specs.Members.{HoldsOfKind}
use Rattle.whole_paths.specs.LastFin.{FinIsLast}
use Rattle.whole_paths.specs.Mending.{IsRecordOf, IsThereBy, IsWell}
use Rattle.whole_paths.specs.Mending.{IsWell as is_well}
use Rattle.whole_paths.specs.OctetsPassed.{AllComesUpToLost, ComesUpToLost, WellOctetsCome}
use Rattle.whole_paths.specs.OctetsPassed.{ComesUpToLost as up_to_lost}
use Rattle.whole_paths.specs.SentInOrder.{AreSentInOrder, SendsInOrder, WaitsToBeSent}
use Rattle.whole_paths.specs.Straying.{IsOpen}
use Rattle.whole_paths.proofs.DataLeft.{EndsAreBegun, each_is_begun, joined_up, living_low}
use Rattle.whole_paths.proofs.Exchanges.{Shown, each_shown}
use Rattle.whole_paths.proofs.FirstLost.{has_some, left}
use Rattle.whole_paths.proofs.LastFin.{fins_are_last}
use Rattle.whole_paths.proofs.Losing.{data_filled}
use Rattle.whole_paths.proofs.OctetsPassed.{octets_are_passed}
use Rattle.whole_paths.proofs.Reached.{EndsAreReached, Joined, Line, each_is_reached}
use Rattle.whole_paths.proofs.SentInOrder.{records_are_sent_in_order}

-- behind one that is to be sent each waits to be
waits_behind : (rs : List Record) → AreSentInOrder rs → (i at : ℕ) (t r : Record) → i < at → slice_get rs i ≡ Some t → slice_get rs at ≡ Some r → is_unsent t ≡ true → WaitsToBeSent r
waits_behind [] h i at t r early there_t there_r unsent = cc
waits_behind (x ∷ xs) h i zero t r early there_t there_r unsent = absurd (omega (arith, early))
waits_behind (x ∷ xs) h zero (suc at) t r early there_t there_r unsent = (h.0 (ap is_unsent (same_Some x t there_t) ∙ unsent)).each at r there_r
waits_behind (x ∷ xs) h (suc i) (suc at) t r early there_t there_r unsent = waits_behind xs h.1 i at t r (omega (arith, early)) there_t there_r unsent

-- records stand one behind another
pub ends_before : (nxt : ℕ) (rs : List Record) (from : ℕ) → Joined from nxt (map span_of rs) → (at : ℕ) (r : Record) → slice_get rs at ≡ Some r → (from ≤ r.pos) × (end_of r ≤ nxt)
ends_before nxt [] from line at r there_r = cc
ends_before nxt (x ∷ xs) from line zero r there_r = let is = line.0 in let more = joined_up xs (end_of x) nxt line.1 in subst (λ (t : Record). (from ≤ t.pos) × (end_of t ≤ nxt)) (same_Some x r there_r) (omega (arith, is), more)
ends_before nxt (x ∷ xs) from line (suc at) r there_r = let is = line.0 in let rest = ends_before nxt xs (end_of x) line.1 at r there_r in let low = rest.0 in (omega (arith, is, low), rest.1)

in_order : (una nxt : ℕ) (rs : List Record) → Line una nxt (map span_of rs) → (i at : ℕ) (t r : Record) → i < at → slice_get rs i ≡ Some t → slice_get rs at ≡ Some r → (end_of t ≤ r.pos) × (end_of r ≤ nxt)
in_order una nxt [] line i at t r early there_t there_r = cc
in_order una nxt (x ∷ xs) line i zero t r early there_t there_r = absurd (omega (arith, early))
in_order una nxt (x ∷ xs) line zero (suc at) t r early there_t there_r = let so = ends_before nxt xs (end_of x) line.2 at r there_r in let low = so.0 in let same = ap end_of (same_Some x t there_t) in (omega (arith, low, same), so.1)
in_order una nxt (x ∷ xs) line (suc i) (suc at) t r early there_t there_r = joined xs (end_of x) line.2 i at (omega (arith, early)) there_t there_r
  where
    joined : (ts : List Record) (from : ℕ) → Joined from nxt (map span_of ts) → (j k : ℕ) → j < k → slice_get ts j ≡ Some t → slice_get ts k ≡ Some r → (end_of t ≤ r.pos) × (end_of r ≤ nxt)
    joined [] from h j k low there_j there_k = cc
    joined (y ∷ ys) from h j zero low there_j there_k = absurd (omega (arith, low))
    joined (y ∷ ys) from h zero (suc k) low there_j there_k = let so = ends_before nxt ys (end_of y) h.1 k r there_k in let begins = so.0 in let same = ap end_of (same_Some y t there_j) in (omega (arith, begins, same), so.1)
    joined (y ∷ ys) from h (suc j) (suc k) low there_j there_k = joined ys (end_of y) h.1 j k (omega (arith, low)) there_j there_k

module _ (s : Side) (p : PathState Carried) (is_open : IsOpen p) (shown : Shown p) (reached : EndsAreReached p) (begun : EndsAreBegun p) (last : FinIsLast p) (order : (t : Side) → SendsInOrder (end_at t p).tcp.send)
    (at : ℕ) (r : Record) (there_r : slice_get (end_at s p).tcp.send.records at ≡ Some r) (data_is : r.kind ≡ Data) (sent : r.sending.unsent ≡ false) where
  is_one : (i : ℕ) (t : Record) → slice_get (end_at s p).tcp.send.records i ≡ Some t → IsRecordOf (end_at s p) t
  is_one i t there = record { at = i; item = t; there = there; holds = refl }

  well_comes : (i : ℕ) (t : Record) → i < at → slice_get (end_at s p).tcp.send.records i ≡ Some t → IsWell s p t → (t.kind ≡ Data) × IsThereBy s t (p.clock + 400) p
  well_comes i t early there well = by t.kind refl
    where
      -- it is to be sent, or the later one is
      not_unsent : t.sending.unsent ≡ true → ⊥
      not_unsent unsent = ⊎_elim
          (λ waits. true≢false (sym waits ∙ sent))
          (λ empty. let full = data_filled s p shown r (is_one at r there_r) data_is in let none = ap length empty in omega (arith, full, none))
          (waits_behind (end_at s p).tcp.send.records (order s).in_order i at t r early there there_r unsent)

      comes : t.kind ≡ Data → IsWell s p t → IsThereBy s t (p.clock + 400) p
      comes is (is_well.other none) = absurd (none is)
      comes is (is_well.unsent unsent) = absurd (not_unsent unsent)
      comes is (is_well.sent h) = h

      by : (k : RecordKind) → t.kind ≡ k → (t.kind ≡ Data) × IsThereBy s t (p.clock + 400) p
      by kinds.Data is = (is, comes is well)
      by kinds.Syn is = absurd (
          let zeroth = ((begun s).syns.each i t there) is in let end : end_of t ≡ t.pos + 1 = ap (λ k. t.pos + occupied k t.piece) is in
          let some = (begun s).past (is_open.past s) (living_low (end_at s p).tcp.state (is_open.living s)) in let more = left s p reached shown t (is_one i t there) in omega (arith, zeroth, end, some, more))
      by kinds.Fin is = absurd (
          let final = (last.sent s).each i t there is in let end : end_of t ≡ t.pos + 1 = ap (λ k. t.pos + occupied k t.piece) is in
          let behind = in_order (end_at s p).tcp.send.una (end_at s p).tcp.send.nxt (end_at s p).tcp.send.records (reached s).lined.line i at t r early there there_r in
          let begins = behind.0 in let ends = behind.1 in let some = has_some s p shown r (is_one at r there_r) in omega (arith, final, end, begins, ends, some))

pub well_octets_come : WellOctetsCome
well_octets_come start turns mild h s at r there_r data_is sent well = octets_are_passed.begins start turns h s (h.path.clock + 400) at r there_r
    (λ i t early there. well_comes s h.path h.is_open (of_path Shown (each_shown start turns mild.plain.size mild.fit 2 h.here.crew h.here.there)) (of_path EndsAreReached ((each_is_reached values start turns).each 2 h.here.crew h.here.there))
    (of_path EndsAreBegun ((each_is_begun values start turns).each 2 h.here.crew h.here.there)) (of_path FinIsLast ((fins_are_last start turns mild.plain.size).each 2 h.here.crew h.here.there))
    (of_path (λ p. (t : Side) → SendsInOrder (end_at t p).tcp.send) ((records_are_sent_in_order values start turns).each 2 h.here.crew h.here.there)) at r there_r data_is sent i t early there (well i t early there))
  where
    of_path : (P : PathState Carried → Type 0) → HoldsOfKind (λ app. Unit {0}) P h.here.crew.member → P h.path
    of_path P held = subst (HoldsOfKind (λ app. Unit {0}) P) h.here.is held

-- ---- the first record that may be lost

record IsFirstOf (rs : List Record) (W L : Record → Type 0) : Type 0 where
  index : ℕ
  item : Record
  there : slice_get rs index ≡ Some item
  is_lost : L item
  before : (i : ℕ) (t : Record) → i < index → slice_get rs i ≡ Some t → W t

first_of : (W L : Record → Type 0) (rs : List Record) → ((i : ℕ) (t : Record) → slice_get rs i ≡ Some t → W t ⊎ L t) → Every W rs ⊎ IsFirstOf rs W L
first_of W L [] each = inl (record { each = λ i t there. cc })
first_of W L (x ∷ xs) each = ⊎_elim
    (λ well. ⊎_elim (λ rest. inl (record { each = all well rest })) (λ first. inr (later well first)) (first_of W L xs (λ i t there. each (suc i) t there)))
    (λ lost. inr (record { index = 0; item = x; there = refl; is_lost = lost; before = λ i t early. absurd (omega (arith, early)) }))
    (each 0 x refl)
  where
    all : W x → Every W xs → (i : ℕ) (t : Record) → slice_get (x ∷ xs) i ≡ Some t → W t
    all well rest zero t there = subst W (same_Some x t there) well
    all well rest (suc i) t there = rest.each i t there

    earlier : W x → (first : IsFirstOf xs W L) → (i : ℕ) (t : Record) → i < suc first.index → slice_get (x ∷ xs) i ≡ Some t → W t
    earlier well first zero t low there = subst W (same_Some x t there) well
    earlier well first (suc i) t low there = first.before i t (omega (arith, low)) there

    later : W x → IsFirstOf xs W L → IsFirstOf (x ∷ xs) W L
    later well first = record { index = suc first.index; item = first.item; there = first.there; is_lost = first.is_lost; before = earlier well first }

record MayBeLost (lost : List ℕ) (r : Record) : Type 0 where
  data_is : r.kind ≡ Data
  sent : r.sending.unsent ≡ false
  among : Has (λ n. n ≡ r.pos) lost

-- only a record of data that was sent may be lost
well_or_lost : (s : Side) (p : PathState Carried) (lost : List ℕ) (r : Record) → IsWell s p r ⊎ Has (λ n. n ≡ r.pos) lost → IsWell s p r ⊎ MayBeLost lost r
well_or_lost s p lost r h = by r.kind refl r.sending.unsent refl
  where
    by : (k : RecordKind) → r.kind ≡ k → (b : Bool) → r.sending.unsent ≡ b → IsWell s p r ⊎ MayBeLost lost r
    by kinds.Syn is b unsent = inl (is_well.other (λ data_is. (let other : kinds.Syn ≡ kinds.Data = sym is ∙ data_is in cc)))
    by kinds.Fin is b unsent = inl (is_well.other (λ data_is. (let other : kinds.Fin ≡ kinds.Data = sym is ∙ data_is in cc)))
    by kinds.Data is true unsent = inl (is_well.unsent unsent)
    by kinds.Data is false sent = ⊎_elim (λ well. inl well) (λ among. inr (record { data_is = is; sent = sent; among = among })) h

pub all_comes_up_to_lost : AllComesUpToLost
all_comes_up_to_lost start turns mild h s lost but = ⊎_elim (λ well. up_to_lost.none well) first
    (first_of (IsWell s h.path) (MayBeLost lost) (end_at s h.path).tcp.send.records (λ i t there. well_or_lost s h.path lost t (but t (record { at = i; item = t; there = there; holds = refl }))))
  where
    first : IsFirstOf (end_at s h.path).tcp.send.records (IsWell s h.path) (MayBeLost lost) → ComesUpToLost s lost h.path
    first f = up_to_lost.up_to f.item (record { at = f.index; item = f.item; there = f.there; holds = refl }) f.is_lost.data_is f.is_lost.sent f.is_lost.among
        (well_octets_come start turns mild h s f.index f.item f.there f.is_lost.data_is f.is_lost.sent f.before)
