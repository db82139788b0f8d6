-- What holds of a connection whatever payload its links alter, and whether its mappings are checked or not.
use Rattle.std.specs.Prelude.{ℕ, ◌≡◌, ◌≤◌, ◌-◌, nat_lt, if◌then◌else◌, Bool, true, false, Option, Some, List, length, slice_get}
use Rattle.sides.specs.declared.side.Side.{Side}
use Rattle.sides.specs.declared.side.Side.TheVariants.{A, B}
use Rattle.send_book.specs.State.{acked_len}
use Rattle.reassembly_book.specs.State.{received}
use Rattle.stream_lanes.specs.Laws.{flattened}
use Rattle.path_core.specs.Values.{Carried, values}
use Rattle.path_core.specs.Codec.{Codec}
use Rattle.path_core.specs.Octets.{octets}
use Rattle.world_laws.specs.Openings.{Start, opened_world}
use Rattle.world_laws.specs.Outcomes.{output_of}
use Rattle.world_laws.specs.Promises.{written_by, arrived_at, was_told_end, HasRoom, NumbersFit}
use Rattle.world_laws.specs.Worlds.{WorldState, Turn, world_run}
use Rattle.world_laws.specs.ModesSoFar.{was_ever}
use Rattle.fallback_state.specs.declared.fall.Mode.{Mode}
use Rattle.fallback_state.specs.declared.fall.Mode.TheVariants.{Starting, Sure, Identity, InfiniteSend, InfiniteReceive, InfiniteBoth, Aborted}
use Rattle.fallback_state.specs.Modes.{reads_mappings}
use Rattle.actor_desk.specs.Books.{books_in}
use Rattle.actor_desk.specs.Desk.{control_of}
use Rattle.octet_text.specs.Prefix.{IsPrefix}

-- in these modes octets come to a side without mappings of theirs: in plain TCP, and by an infinite mapping of the peer's
abbrev pub is_fallback : Mode → Bool
is_fallback Identity = true
is_fallback InfiniteReceive = true
is_fallback InfiniteBoth = true
is_fallback Starting = false
is_fallback Sure = false
is_fallback InfiniteSend = false
is_fallback Aborted = false

module _ {C : Type 0} where
  -- What is acknowledged was received, and that was written. The end is told only where the stream is closed, and the reader has as
  -- many octets as were written.
  pub record KeepsCount (writer reader : Side) (w : WorldState C) : Type 0 where
    pub acked : acked_len (written_by writer w).marks ≤ received (arrived_at reader w)
    pub arrived : received (arrived_at reader w) ≤ length (written_by writer w).written
    pub fin : (written_by writer w).fin ≡ true → ((written_by writer w).closed ≡ true) × (received (arrived_at reader w) ≡ length (written_by writer w).written)
    pub told : was_told_end reader w ≡ true → ((written_by writer w).closed ≡ true) × (length (output_of reader w) ≡ length (written_by writer w).written)

  pub record BothKeepCount (w : WorldState C) : Type 0 where
    pub ab : KeepsCount A B w
    pub ba : KeepsCount B A w

  -- the octet at a place of a stream, where it was placed: the reader's, or that of the reassembly book
  abbrev pub octet_at : Side → WorldState C → ℕ → Option ℕ
  octet_at reader w place =
      if nat_lt place (arrived_at reader w).read then slice_get (output_of reader w) place
      else flattened (slice_get (arrived_at reader w).places (place - (arrived_at reader w).read))

  -- each that was placed is the written one, and stays it
  abbrev pub StaysRight : Side → Side → WorldState C → WorldState C → Type 0
  StaysRight writer reader w later = (place octet : ℕ) → octet_at reader w place ≡ Some octet
      → (slice_get (written_by writer later).written place ≡ Some octet) × (octet_at reader later place ≡ Some octet)

  -- the side fell back, by its control book's journal: it is in plain TCP or receives by an infinite mapping, or did so before it
  -- was stopped
  abbrev pub fell_back : Side → WorldState C → Bool
  fell_back s w = was_ever is_fallback s w

  -- as long as its side hasn't fallen back, a reader has a prefix of what was written
  abbrev pub PrefixUntilTheFall : WorldState C → Type 0
  PrefixUntilTheFall w = (fell_back B w ≡ false → IsPrefix (output_of B w) (written_by A w).written)
      × (fell_back A w ≡ false → IsPrefix (output_of A w) (written_by B w).written)

  -- as long as its side hasn't fallen back, what a reader's side placed is right for ever
  abbrev pub PlacedUntilTheFall : Codec C → WorldState C → Type 0
  PlacedUntilTheFall k w = (more : List Turn) → (fell_back B w ≡ false → StaysRight A B w (world_run k more w))
      × (fell_back A w ≡ false → StaysRight B A w (world_run k more w))

  -- the peer's mappings count at a side: it is neither in plain TCP nor stopped, and no infinite mapping of the peer took their place
  abbrev pub still_maps : Side → WorldState C → Bool
  still_maps s w = reads_mappings (control_of s (books_in w.books)).fall.mode

  -- a side that fell back did so for ever: at no later moment do the peer's mappings count again
  abbrev pub FallsForGood : Codec C → WorldState C → Type 0
  FallsForGood k w = (s : Side) (more : List Turn) → fell_back s w ≡ true
      → (fell_back s (world_run k more w) ≡ true) × (still_maps s (world_run k more w) ≡ false)

-- P holds over segments as values, where mappings are checked
abbrev pub HoldsChecked : (WorldState Carried → Type 0) → Type 0
HoldsChecked P = (start : Start) (turns : List Turn) → HasRoom start → start.checksums ≡ true → P (world_run values turns (opened_world start))

-- P holds over octets, where mappings are checked
abbrev pub HoldsCheckedOfOctets : (WorldState (List ℕ) → Type 0) → Type 0
HoldsCheckedOfOctets P =
    (start : Start) (turns : List Turn) → HasRoom start → NumbersFit start → start.checksums ≡ true → P (world_run octets turns (opened_world start))
