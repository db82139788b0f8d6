-- The receiving side of a subflow by position, and what each call makes of it (RFC 9293, sections 3.4 and 3.10.7.4).
use Rattle.std.specs.Prelude.{ℕ, zero, suc, ◌+◌, ◌-◌, ◌||◌, Bool, nat_le, nat_lt, if◌then◌else◌, Option, Some, None, unwrap_or, List, [], ◌∷◌, length, take, drop}
use Rattle.subflow_recv.specs.declared.acceptance.Acceptance.{Acceptance}
use Rattle.subflow_recv.specs.declared.acceptance.Acceptance.TheVariants.{Kept, Outside}
-- octets by their places, what comes where nothing is kept, the octets in order, the first places alone, how many are kept
pub use Rattle.byte_pieces.specs.Places.{by_place, merged, filled, cut, kept_count}

pub record Receiving : Type 0 where
  -- RCV.NXT: the first position that the side hasn't passed
  pub edge : ℕ
  -- how many positions from there on are in the window
  pub window : ℕ
  -- the positions from the edge on, each with its octet or without one; the last one has an octet
  pub places : List (Option ℕ)
  -- the places with the payload that is held too, where one is held until it is kept
  pub incoming : Option (List (Option ℕ))

-- nothing has come, not even the SYN, whose position is 0
abbrev pub opening : ℕ → Receiving
opening window = record { edge = 0; window = window; places = []; incoming = None }

-- the position after the window
abbrev pub window_end : Receiving → ℕ
window_end v = v.edge + v.window

-- no octet of this payload is in the window: it has none, it ends at or before the edge, or it begins past the window
abbrev pub is_outside : ℕ → List ℕ → Receiving → Bool
is_outside pos payload v =
    nat_le (length payload) 0 || (nat_le (pos + length payload) v.edge || nat_le (window_end v) pos)

-- the places with the octets from this position on: those that stand where none is kept
abbrev pub places_with : ℕ → List ℕ → Receiving → List (Option ℕ)
places_with pos octets v = merged v.places (drop v.edge (by_place pos octets))

-- octets that come are kept; any change of the side lets go of the payload that is held
abbrev pub with_octets : ℕ → List ℕ → Receiving → Receiving
with_octets pos octets v = record v { places = places_with pos octets v; incoming = None }

-- what lies past the window is left out
abbrev pub after_accept : ℕ → List ℕ → Receiving → Receiving
after_accept pos payload v = with_octets pos (take (window_end v - pos) payload) v

-- a payload is held, to be kept later
abbrev pub after_hold : ℕ → List ℕ → Receiving → Receiving
after_hold pos payload v = record v { incoming = Some (places_with pos (take (window_end v - pos) payload) v) }

-- what is held is kept
abbrev pub after_keep_held : Receiving → Receiving
after_keep_held v = record v { places = unwrap_or v.incoming v.places; incoming = None }

-- nothing is held any more
abbrev pub without_held : Receiving → Receiving
without_held v = record v { incoming = None }

-- how many octets are kept that were not kept before
abbrev pub newly_kept : ℕ → List ℕ → Receiving → ℕ
newly_kept pos payload v = kept_count (after_accept pos payload v).places - kept_count v.places

-- what becomes of a payload
abbrev pub acceptance_of : ℕ → List ℕ → Receiving → Acceptance
acceptance_of pos payload v = if is_outside pos payload v then Outside else Kept (newly_kept pos payload v)

-- how many octets are kept by it that were not kept before
abbrev pub new_octets : Acceptance → ℕ
new_octets (Kept n) = n
new_octets Outside = 0

-- the edge moves, and what lies below it is let go
abbrev pub after_advance : ℕ → Receiving → Receiving
after_advance to v = record v { edge = to; places = drop (to - v.edge) v.places; incoming = None }

-- the edge moves over a position that no octet occupies, that of the peer's SYN or FIN; no octet of the stream stands behind a FIN,
-- and what came for there is forgotten (RFC 9293, section 3.10.7.4)
abbrev pub after_pass : Receiving → Receiving
after_pass v = record v { edge = v.edge + 1; places = []; incoming = None }

-- what lies at or past this position is forgotten
abbrev pub after_forget_from : ℕ → Receiving → Receiving
after_forget_from pos v = record v { places = cut (pos - v.edge) v.places; incoming = None }

-- the octet at a place
abbrev pub place_at : ℕ → List (Option ℕ) → Option ℕ
place_at k [] = None
place_at zero (place ∷ places) = place
place_at (suc k) (place ∷ places) = place_at k places

-- the octet that is kept at a position, if one is
abbrev pub octet_at : ℕ → Receiving → Option ℕ
octet_at pos v = if nat_lt pos v.edge then None else place_at (pos - v.edge) v.places
