-- What holds of the view of two books, and numbers of theirs.
--
-- A view of the books and modes (`specs/View.antt`): a record of what a lane may rely on, mostly numbers that only
-- grow. Each fact of a lane speaks of the view and of the lane's own fields; one group of facts a record, over fields
-- and not over the lane, so that a move passes the groups on that it doesn't touch.
use Rattle.stream_lanes.proofs.Words.{◌≡◌, refl, sym, ◌∙◌, ap, ℕ, zero, suc, ◌+◌, ◌-◌, ◌<◌, ◌≤◌, Bool, true, false, not, ◌==◌, ⊎_elim, List, length, Option}
use Rattle.stream_lanes.proofs.Words.{Some, None, if◌then◌else◌, arith, ◌⊎◌, ◌&&◌, ◌||◌, inl, inr, or_left, or_right, both_ways, not-true, eqb-true, cases_lt}
use Rattle.stream_lanes.proofs.Words.{eq-eqb, slice_get, same_Some, Arriving, filled, received, edge, Sending, acked_len, Flags, From, view_of, all_in, end_of}
use Rattle.stream_lanes.proofs.Words.{IsEnd, IsPlaced, View, was_read, stands, IsAll, ArrivedHolds, SendHolds}
use Rattle.stream_lanes.proofs.Lists.{item_at}
use Rattle.stream_lanes.proofs.Bytes.{From-filled, filled_upto, filled_item}
use Rattle.stream_lanes.proofs.Local.{ViewFits, FlagsFit}

-- the end of a stream: whether it has come
pub data AllIn (closed : Bool) (written : List ℕ) (count : ℕ) : Type 0 where
  missing : all_in closed written count ≡ 0 → AllIn closed written count
  complete : closed ≡ true → length written ≡ count → all_in closed written count ≡ 1 → AllIn closed written count

pub all_in_is : (closed : Bool) (written : List ℕ) (count : ℕ) → AllIn closed written count
all_in_is false written count = missing refl
all_in_is true written count = (elim (length written == count) as (λ b. (length written == count) ≡ b → AllIn true written count)
    [ true ↦ λ is. complete refl (eqb-true _ _ is) (ap (λ (b : Bool). if b then 1 else 0) is) | false ↦ λ is. missing (ap (λ (b : Bool). if b then 1 else 0) is) ]) refl

pub all_in_one : (closed : Bool) (written : List ℕ) (count : ℕ) → closed ≡ true → length written ≡ count → all_in closed written count ≡ 1
all_in_one true written count closed is = ap (λ (b : Bool). if b then 1 else 0) (eq-eqb (length written) count is)
all_in_one false written count closed is = cc

pub all_in_bound : (closed : Bool) (written : List ℕ) (count : ℕ) → all_in closed written count ≤ 1
all_in_bound closed written count = at (all_in_is closed written count)
  where
    at : AllIn closed written count → all_in closed written count ≤ 1
    at (missing is) = omega (arith, is)
    at (complete closed size is) = omega (arith, is)

-- an end is that of a closed stream
pub is_end : (s : Sending) (e : ℕ) → IsEnd (end_of s) e → (s.closed ≡ true) × (length s.written ≡ e)
is_end s e h = (elim s.closed as (λ c. s.closed ≡ c → (if c then Some (length s.written) else None) ≡ Some e → (s.closed ≡ true) × (length s.written ≡ e))
    [ true ↦ λ is h. (is, same_Some _ _ h) | false ↦ λ is h. cc ]) refl h

pub end_is : (s : Sending) → s.closed ≡ true → IsEnd (end_of s) (length s.written)
end_is s closed = rw closed refl

-- items in a row that all lie below a bound end at it or before
pub row_below : {P : ℕ → ℕ → Type 0} (bound first : ℕ) (bytes : List ℕ) → ((n x : ℕ) → P n x → n < bound) → first ≤ bound → From P first bytes
    → first + length bytes ≤ bound
row_below {P} bound first bytes below within row = (elim (length bytes) as (λ n. length bytes ≡ n → first + length bytes ≤ bound) [
  | zero ↦ λ is. omega (arith, within, is)
  | suc n ↦ λ is. let last = item_at bytes n (omega (arith, is)) in omega (arith, below (first + n) last.0 (row.each n (first + n) last.0 refl last.1), is)
]) refl

pub received_written : {granted : ℕ → Type 0} (v : View) (b : Arriving) → ArrivedHolds granted v b → received b ≤ length v.written
received_written v b h =
    row_below (length v.written) b.read (filled b.places) (λ n x sent. sent.within) (omega (arith, h.top)) (From-filled h.cells)

-- all that is filled from a place on that is received is received too
reached_upto : (read : ℕ) (places : List (Option ℕ)) (first n : ℕ) → first ≤ read + length (filled places)
    → ((place : ℕ) → first ≤ place → place < n → IsPlaced read places place) → n ≤ read + length (filled places)
reached_upto read places first n from each = ⊎_elim (λ less. omega (arith, less)) (λ more. upto more) (cases_lt n read)
  where
    upto : read ≤ n → n ≤ read + length (filled places)
    upto more = let all = filled_upto places (n - read) full in omega (arith, all, more)
      where
        full : (i : ℕ) → i < n - read → (x : ℕ) × (slice_get places i ≡ Some (Some x))
        full i below = ⊎_elim
            (λ before. filled_item places i (omega (arith, before, from)))
            (λ behind. at (each (read + i) behind (omega (arith, below))))
            (cases_lt (read + i) first)
          where
            at : IsPlaced read places (read + i) → (x : ℕ) × (slice_get places i ≡ Some (Some x))
            at (was_read under) = absurd (omega (arith, under))
            at (stands j byte is e) = (byte, ap (slice_get places) (omega (arith, is)) ∙ e)

pub view_fits : (f : Flags) (s : Sending) (b : Arriving) → ((view_of f s b).fallen ≡ true → (view_of f s b).alone ≡ true)
    → received b ≤ length s.written → SendHolds s (view_of f s b) → ViewFits (view_of f s b)
view_fits f s b fallen within h = record {
  size = h.whole;
  first = h.first;
  end = λ e is. sym (is_end s e is).1;
  received = within;
  next = omega arith;
  room = omega arith;
  whole = λ e is below.
      let end = is_end s e is in
      let one : all_in s.closed s.written (received b) ≡ 1 = all_in_one s.closed s.written (received b) end.0 (omega (arith, end.1, below, within)) in
      (omega (arith, one), omega (arith, one));
  confirmed = confirmed (all_in_is s.closed s.written (acked_len s.marks));
  fallen = fallen;
  acked = h.acked;
  reached = reached_upto b.read b.places;
}
  where
    confirmed : AllIn s.closed s.written (acked_len s.marks) → ((view_of f s b).confirmed ≤ acked_len s.marks) ⊎ IsAll (view_of f s b)
    confirmed (missing is) = inl (omega (arith, is))
    confirmed (complete closed size is) = inr (length s.written, end_is s closed, omega (arith, size))

-- while the receiver is exact, it fell over links that alter nothing alone, and over others each mapping is checked
fallen_alters_nothing : (alters checked fell : Bool) → fell ≡ true → (not alters || (checked && not fell)) ≡ true → alters ≡ false
fallen_alters_nothing false checked fell is exact = refl
fallen_alters_nothing true true fell is exact = absurd (both_ways _ (not-true fell exact) is)
fallen_alters_nothing true false fell is exact = cc

pub exact_checks : (alters checked fell : Bool) → (not alters || (checked && not fell)) ≡ true → alters ≡ true → checked ≡ true
exact_checks alters true fell exact may = refl
exact_checks true false fell exact may = cc
exact_checks false false fell exact may = cc

pub flags_fit : (f : Flags) (s : Sending) (b : Arriving) → FlagsFit f (view_of f s b)
flags_fit f s b = record {
  answered = λ is. ap not is;
  sender = λ is. ap (λ x. x || f.receiver) is;
  receiver = λ is. or_right f.sender f.receiver is;
  inexact = λ is exact. fallen_alters_nothing f.alters f.checked (f.receiver || f.loose) (or_left f.receiver f.loose is) exact;
  loose = λ is exact. fallen_alters_nothing f.alters f.checked (f.receiver || f.loose) (or_right f.receiver f.loose is) exact;
}

-- over links that alter nothing no more has arrived than is taken
pub received_room : {granted : ℕ → Type 0} (v : View) (b : Arriving) → v.room ≡ edge b → ArrivedHolds granted v b → v.alters ≡ false → received b ≤ edge b
received_room v b room h none = row_below (edge b) b.read (filled b.places) (λ n x sent. let below = sent.room none in omega (arith, below, room)) (omega arith) (From-filled h.cells)
