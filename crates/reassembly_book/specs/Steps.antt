-- What a reassembly book answers to each call, and what the call makes of it.
use Rattle.std.specs.Prelude.{ℕ, ◌+◌, ◌-◌, ◌^◌, ◌≤◌, min, Bool, true, false, ◌&&◌, ◌==◌, nat_lt, if◌then◌else◌, Option, Some, None, is_some, List, [], ◌∷◌, length, take, drop, count_by}
use Rattle.reassembly_book.specs.declared.call.ReassemblyCall.{ReassemblyCall}
use Rattle.reassembly_book.specs.declared.call.ReassemblyCall.TheVariants.{Place, Fin, Read, AckOut, Abort}
use Rattle.reassembly_book.specs.declared.call.ReassemblyReply.{ReassemblyReply}
use Rattle.reassembly_book.specs.declared.call.ReassemblyReply.TheVariants.{Placed, Beyond, FinSet, FinClash, Bytes, End, NoneYet, Ack, Noted}
use Rattle.reassembly_book.specs.declared.call.ReassemblyReply.TheVariants.{Aborted as WasAborted}
pub use Rattle.byte_pieces.specs.Places.{by_place, merged}
use Rattle.reassembly_book.specs.State.{Arriving, filled, received, top}

-- Place: a byte is at or past this place
abbrev pub reaches_past : ℕ → ℕ → List ℕ → Bool
reaches_past place at bytes = nat_lt 0 (length bytes) && nat_lt place (at + length bytes)

-- the first place past those that are taken
abbrev pub edge : Arriving → ℕ
edge b = b.read + b.capacity

-- the known end, where a byte is at or past it
abbrev pub clash : Option ℕ → ℕ → List ℕ → Option ℕ
clash None at bytes = None
clash (Some e) at bytes = if reaches_past e at bytes then Some e else None

-- the places with these bytes, of which each goes where none has come
abbrev pub places_after : ℕ → List ℕ → Arriving → List (Option ℕ)
places_after at bytes b = merged b.places (drop b.read (by_place at bytes))

-- below the edge: a clash with the known end, or how many places get their byte
abbrev pub placed_reply : Option ℕ → ℕ → List ℕ → Arriving → ReassemblyReply
placed_reply (Some e) at bytes b = FinClash e at
placed_reply None at bytes b = Placed (count_by is_some (places_after at bytes b) - count_by is_some b.places)

-- bytes past the edge are refused first, and then those past the known end
abbrev pub place_reply : ℕ → List ℕ → Arriving → ReassemblyReply
place_reply at bytes b =
    if reaches_past (edge b) at bytes then Beyond (edge b) else placed_reply (clash b.known_end at bytes) at bytes b

-- a clash with the known end, where there is one
abbrev pub refused_by : Option ℕ → ℕ → Option ReassemblyReply
refused_by None at = None
refused_by (Some e) at = Some (FinClash e at)

-- why the bytes aren't taken, where they aren't
abbrev pub refusal : ℕ → List ℕ → Arriving → Option ReassemblyReply
refusal at bytes b =
    if reaches_past (edge b) at bytes then Some (Beyond (edge b)) else refused_by (clash b.known_end at bytes) at

-- whether the bytes are taken
abbrev pub is_taken : ℕ → List ℕ → Arriving → Bool
is_taken at bytes b =
    if reaches_past (edge b) at bytes then false else (if is_some (clash b.known_end at bytes) then false else true)

-- taken bytes go where none has come
abbrev pub after_place : ℕ → List ℕ → Arriving → Arriving
after_place at bytes b = if is_taken at bytes b then record b { places = places_after at bytes b } else b

-- Fin: another end is known, or a byte stands at or past this one
abbrev pub fin_clash : Option ℕ → ℕ → Arriving → Option ℕ
fin_clash None at b = if nat_lt at (top b) then Some (top b) else None
fin_clash (Some e) at b = if e == at then None else Some e

-- the end is set, or clashes with this one
abbrev pub fin_reply_by : Option ℕ → ℕ → ReassemblyReply
fin_reply_by None at = FinSet
fin_reply_by (Some fin) at = FinClash fin at

abbrev pub fin_reply : ℕ → Arriving → ReassemblyReply
fin_reply at b = fin_reply_by (fin_clash b.known_end at b) at

-- without a clash it is the known end
abbrev pub after_fin : ℕ → Arriving → Arriving
after_fin at b = if is_some (fin_clash b.known_end at b) then b else record b { known_end = Some at }

-- the stream is known to end at this place
abbrev pub is_end : Option ℕ → ℕ → Bool
is_end None place = false
is_end (Some e) place = e == place

-- Read: these bytes, or without any the end where all were read, or else none yet
abbrev pub bytes_reply : List ℕ → Arriving → ReassemblyReply
bytes_reply [] b = if is_end b.known_end b.read then End else NoneYet
bytes_reply (byte ∷ bytes) b = Bytes (byte ∷ bytes)

-- an aborted book gives no bytes; another one gives those before the first gap, and no more than asked for
abbrev pub reading : Option Bool → ℕ → Arriving → ReassemblyReply
reading (Some by_peer) max b = WasAborted by_peer
reading None max b = bytes_reply (take max (filled b.places)) b

abbrev pub read_reply : ℕ → Arriving → ReassemblyReply
read_reply max b = reading b.aborted max b

-- bytes are read, `count` of them at most, as far as they have arrived without a gap
abbrev pub after_reading : ℕ → Arriving → Arriving
after_reading count b =
    let n = min count (length (filled b.places)) in
    record b { read = b.read + n; places = drop n b.places }

-- an aborted book stays as it is
abbrev pub after_read : ℕ → Arriving → Arriving
after_read max b = if is_some b.aborted then b else after_reading max b

-- AckOut: the end takes the place after the last byte
abbrev pub next_wanted : Arriving → ℕ
next_wanted b = received b + (if is_end b.known_end (received b) then 1 else 0)

-- how many places behind the received bytes are taken
abbrev pub window : Arriving → ℕ
window b = edge b - received b

-- Abort: the first one stays
abbrev pub first_abort : Option Bool → Bool → Option Bool
first_abort None by_peer = Some by_peer
first_abort (Some first) by_peer = Some first

-- the conditions of a call
abbrev pub CanAsk : ReassemblyCall → Type 0
CanAsk (Place at bytes) = at + length bytes ≤ 2 ^ 62
CanAsk (Fin at) = at ≤ 2 ^ 62
CanAsk (Read max) = 1 ≤ max
CanAsk AckOut = Unit {0}
CanAsk (Abort by_peer) = Unit {0}

-- what the book answers
abbrev pub reply_to : Arriving → ReassemblyCall → ReassemblyReply
reply_to b (Place at bytes) = place_reply at bytes b
reply_to b (Fin at) = fin_reply at b
reply_to b (Read max) = read_reply max b
reply_to b AckOut = Ack (next_wanted b) (window b)
reply_to b (Abort by_peer) = Noted

-- the book after a call
abbrev pub after_call : Arriving → ReassemblyCall → Arriving
after_call b (Place at bytes) = after_place at bytes b
after_call b (Fin at) = after_fin at b
after_call b (Read max) = after_read max b
after_call b AckOut = b
after_call b (Abort by_peer) = record b { aborted = first_abort b.aborted by_peer }
