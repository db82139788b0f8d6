-- What was read and what is kept are the bytes that came first.
use Rattle.std.proofs.Common.{◌≡◌, refl, sym, ◌∙◌, ap, ℕ, zero, suc, min, Bool, true, false, if◌then◌else◌, Option, Some, None, is_some, List, [], ◌∷◌, ◌++◌, length, take, drop, map, arith, append_assoc}
use Rattle.std.proofs.lemmas.Grind.{common_steps}
use Rattle.std.proofs.lemmas.List.{append-nil, map-append}
use Rattle.byte_pieces.proofs.Filling.{merged-nil}
use Rattle.reassembly_book.specs.declared.call.ReassemblyCall.{ReassemblyCall}
use Rattle.reassembly_book.specs.declared.call.ReassemblyCall.TheVariants.{Place, Fin, Read, AckOut, Abort}
use Rattle.reassembly_book.specs.declared.call.ReassemblyReply.TheVariants.{Beyond, End, NoneYet}
use Rattle.reassembly_book.specs.State.{Arriving, filled, new_arriving}
use Rattle.reassembly_book.specs.Steps.{by_place, merged, edge, reaches_past, clash, placed_reply, is_taken, places_after, fin_clash, fin_reply_by, is_end, bytes_reply, reading, after_reading, reply_to, after_call}
use Rattle.reassembly_book.specs.Laws.{after_calls, bytes_of, read_by, joined, came_by}

-- what is filled stays, and the rest is merged with the rest
pub merged-filled : (bytes : List ℕ) (places others : List (Option ℕ))
    → merged (map Some bytes ++ places) others ≡ map Some bytes ++ merged places (drop (length bytes) others)
merged-filled [] places others = refl
merged-filled (byte ∷ bytes) places [] = ap (λ rest. Some byte ∷ (map Some bytes ++ rest)) (sym (merged-nil places))
merged-filled (byte ∷ bytes) places (other ∷ others) = ap (λ rest. Some byte ∷ rest) (merged-filled bytes places others)

-- what is taken from the front, and what is left
filled-split : (n k : ℕ) (places : List (Option ℕ)) → k ≡ min n (length (filled places))
    → map Some (take n (filled places)) ++ drop k places ≡ places
filled-split zero zero places e = refl
filled-split zero (suc k) places e = absurd (omega (arith, e))
filled-split (suc n) zero [] e = refl
filled-split (suc n) (suc k) [] e = absurd (omega (arith, e))
filled-split (suc n) zero (None ∷ places) e = refl
filled-split (suc n) (suc k) (None ∷ places) e = absurd (omega (arith, e))
filled-split (suc n) zero (Some byte ∷ places) e = absurd (omega (arith, e))
filled-split (suc n) (suc k) (Some byte ∷ places) e = ap (λ rest. Some byte ∷ rest) (filled-split n k places (omega (arith, e)))

bytes_of-bytes_reply : (bytes : List ℕ) (b : Arriving) → bytes_of (bytes_reply bytes b) ≡ bytes
bytes_of-bytes_reply (byte ∷ bytes) b = refl
bytes_of-bytes_reply [] b = elim (is_end b.known_end b.read) as (λ c. bytes_of (if c then End else NoneYet) ≡ []) [ true ↦ refl | false ↦ refl ]

none_of-place : (o : Option ℕ) (c : Bool) (at : ℕ) (bytes : List ℕ) (b : Arriving)
    → bytes_of (if c then Beyond (edge b) else placed_reply o at bytes b) ≡ []
none_of-place None true at bytes b = refl
none_of-place None false at bytes b = refl
none_of-place (Some e) true at bytes b = refl
none_of-place (Some e) false at bytes b = refl

none_of-fin : (o : Option ℕ) (at : ℕ) → bytes_of (fin_reply_by o at) ≡ []
none_of-fin None at = refl
none_of-fin (Some fin) at = refl

-- the places that came are the bytes that were read, and what the book holds
record AreFirst (b : Arriving) (came : List (Option ℕ)) (bytes : List ℕ) : Type 0 where
  came_is : came ≡ map Some bytes ++ b.places
  read_is : length bytes ≡ b.read

same_if : (c : Bool) (one other : Arriving) (came : List (Option ℕ)) (bytes : List ℕ)
    → AreFirst one came bytes → AreFirst other came bytes → AreFirst (if c then one else other) came bytes
same_if true one other came bytes h k = h
same_if false one other came bytes h k = k

first_taken : (taken : Bool) (at : ℕ) (more : List ℕ) (b : Arriving) (came : List (Option ℕ)) (bytes : List ℕ) → AreFirst b came bytes
    → AreFirst (if taken then record b { places = places_after at more b } else b) (if taken then merged came (by_place at more) else came) bytes
first_taken false at more b came bytes h = h
first_taken true at more b came bytes h = record {
  came_is = rw (h.came_is) (merged-filled bytes b.places (by_place at more)
      ∙ ap (λ n. map Some bytes ++ merged b.places (drop n (by_place at more))) h.read_is);
  read_is = h.read_is;
}

first_read : (aborted : Option Bool) (max : ℕ) (b : Arriving) (came : List (Option ℕ)) (bytes : List ℕ) → AreFirst b came bytes
    → AreFirst (if is_some aborted then b else after_reading max b) came (bytes ++ bytes_of (reading aborted max b))
first_read (Some by_peer) max b came bytes h = rw (append-nil bytes) h
first_read None max b came bytes h =
    rw (bytes_of-bytes_reply (take max (filled b.places)) b) record {
      came_is = h.came_is ∙ rw (map-append Some bytes (take max (filled b.places)))
          (sym (append_assoc (map Some bytes) (map Some (take max (filled b.places))) (drop (min max (length (filled b.places))) b.places)
          ∙ ap (λ rest. map Some bytes ++ rest) (filled-split max _ b.places refl)));
      read_is = grind (arith, common_steps, h.read_is);
    }

first_after : (call : ReassemblyCall) (b : Arriving) (came : List (Option ℕ)) (bytes : List ℕ) → AreFirst b came bytes
    → AreFirst (after_call b call) (joined call b came) (bytes ++ bytes_of (reply_to b call))
first_after (Place at more) b came bytes h =
    rw (none_of-place (clash b.known_end at more) (reaches_past (edge b) at more) at more b, append-nil bytes)
    (first_taken (is_taken at more b) at more b came bytes h)
first_after (Fin at) b came bytes h =
    rw (none_of-fin (fin_clash b.known_end at b) at, append-nil bytes)
    (same_if (is_some (fin_clash b.known_end at b)) b (record b { known_end = Some at }) came bytes h
    (record { came_is = h.came_is; read_is = h.read_is }))
first_after (Read max) b came bytes h = first_read b.aborted max b came bytes h
first_after AckOut b came bytes h = rw (append-nil bytes) h
first_after (Abort by_peer) b came bytes h = rw (append-nil bytes) record { came_is = h.came_is; read_is = h.read_is }

first_after_calls : (calls : List ReassemblyCall) (b : Arriving) (came : List (Option ℕ)) (bytes : List ℕ) → AreFirst b came bytes
    → AreFirst (after_calls calls b) (came_by calls b came) (bytes ++ read_by calls b)
first_after_calls [] b came bytes h = rw (append-nil bytes) h
first_after_calls (call ∷ calls) b came bytes h =
    rw (← append_assoc bytes (bytes_of (reply_to b call)) (read_by calls (after_call b call)))
    (first_after_calls calls (after_call b call) (joined call b came) (bytes ++ bytes_of (reply_to b call)) (first_after call b came bytes h))

pub read_is_what_came_first : (calls : List ReassemblyCall) (capacity : ℕ)
    → came_by calls (new_arriving capacity) [] ≡ map Some (read_by calls (new_arriving capacity)) ++ (after_calls calls (new_arriving capacity)).places
read_is_what_came_first calls capacity =
    (first_after_calls calls (new_arriving capacity) [] [] (record { came_is = refl; read_is = refl })).came_is

pub read_by-len : (calls : List ReassemblyCall) (capacity : ℕ)
    → length (read_by calls (new_arriving capacity)) ≡ (after_calls calls (new_arriving capacity)).read
read_by-len calls capacity = (first_after_calls calls (new_arriving capacity) [] [] (record { came_is = refl; read_is = refl })).read_is
