-- What a connection promises at every moment, whatever the order of the steps: of each direction, from a writer's side to the
-- reader's.
use Rattle.std.specs.Prelude.{ℕ, ◌≡◌, ◌-◌, ◌^◌, ◌<◌, ◌≤◌, Bool, true, false, List, length}
use Rattle.sides.specs.declared.side.Side.{Side}
use Rattle.sides.specs.declared.side.Side.TheVariants.{A, B}
use Rattle.octet_text.specs.Prefix.{IsPrefix}
use Rattle.send_book.specs.declared.call.SendReply.TheVariants as send_replies
use Rattle.send_book.specs.State.{Sending, acked_len}
use Rattle.reassembly_book.specs.declared.call.ReassemblyReply.TheVariants as reassembly_replies
use Rattle.reassembly_book.specs.State.{Arriving, received}
use Rattle.control_book.specs.declared.call.ControlReply.TheVariants as control_replies
use Rattle.stream_lanes.specs.Laws.{StepsOrStays}
use Rattle.stream_lanes.specs.Words.{Every}
use Rattle.actor_desk.specs.declared.ask.Reply.{Reply}
use Rattle.actor_desk.specs.declared.ask.Reply.TheVariants as replies
use Rattle.actor_desk.specs.Books.{books_in}
use Rattle.actor_desk.specs.Desk.{send_of, reassembly_of}
use Rattle.link_model.specs.Steps.{lines_of}
use Rattle.path_core.specs.Codec.{Codec}
use Rattle.path_core.specs.Octets.{octets}
use Rattle.path_core.specs.Shown.{AltersNothing}
use Rattle.path_core.specs.Values.{Carried, values}
use Rattle.world_laws.specs.Fresh.{AreFresh, shown_world}
use Rattle.world_laws.specs.Openings.{Start, opened_world}
use Rattle.world_laws.specs.Outcomes.{tells_end, was_told, notes_at, notes_of, output_of, pipe_of}
use Rattle.world_laws.specs.Worlds.{WorldState, Turn, after_turn, world_run}

-- a full segment of each path has room for octets beside its options
abbrev pub HasRoom : Start → Type 0
HasRoom start = Every (λ plan. 29 ≤ plan.mss) start.paths

-- Where all is promised: there is such room, and the script alters no payload.
pub record IsPlain (start : Start) : Type 0 where
  pub unaltered : (path : ℕ) → AltersNothing (lines_of path start.lines)
  pub size : HasRoom start

-- Where every segment can be said, and heard as it was meant: both files are shorter than 2^31 - 2 octets, there are sixteen paths
-- at most, a full segment with its header has 65,535 octets at most, a side buffers 2^20 octets at most, keys have 64 bits, and
-- nonces 32 bits. But for the files it is so by each script.
pub record NumbersFit (start : Start) : Type 0 where
  pub short_a : length start.file_a < 2 ^ 31 - 2
  pub short_b : length start.file_b < 2 ^ 31 - 2
  pub paths : length start.paths ≤ 16
  pub size : Every (λ plan. plan.mss ≤ 65503) start.paths
  pub buffer : start.buffer ≤ 2 ^ 20
  pub key_a : start.key_a < 2 ^ 64
  pub key_b : start.key_b < 2 ^ 64
  pub nonces_a : Every (λ plan. plan.nonce_a < 2 ^ 32) start.paths
  pub nonces_b : Every (λ plan. plan.nonce_b < 2 ^ 32) start.paths

-- the answers that would say that the two sides don't agree
abbrev pub tells_refusal : Reply → Bool
tells_refusal (replies.Send (send_replies.AckFuture written)) = true
tells_refusal (replies.Reassembly (reassembly_replies.Beyond edge)) = true
tells_refusal (replies.Reassembly (reassembly_replies.FinClash fin at)) = true
tells_refusal _ = false

-- the answer to a key that isn't the own one
abbrev pub tells_other_key : Reply → Bool
tells_other_key (replies.Control (control_replies.KeysDiffer key)) = true
tells_other_key _ = false

-- the answer to a token that isn't that of the own key
abbrev pub tells_wrong_join : Reply → Bool
tells_wrong_join (replies.Control (control_replies.UnknownToken token)) = true
tells_wrong_join _ = false

-- the answer to an announcement whose HMAC isn't the peer's
abbrev pub tells_bad_address : Reply → Bool
tells_bad_address (replies.Control control_replies.BadHmac) = true
tells_bad_address _ = false

module _ {C : Type 0} where
  -- the send book of the writer's side
  abbrev pub written_by : Side → WorldState C → Sending
  written_by writer w = send_of writer (books_in w.books)

  -- the reassembly book of the reader's side
  abbrev pub arrived_at : Side → WorldState C → Arriving
  arrived_at reader w = reassembly_of reader (books_in w.books)

  abbrev pub was_told_end : Side → WorldState C → Bool
  was_told_end reader w = was_told tells_end (notes_of reader w.crew)

  -- What the reader got is a prefix of what the writer wrote. What is acknowledged was received, and that was written. The end is
  -- told only where the stream is closed, and the reader has the whole.
  pub record KeepsItsWord (writer reader : Side) (w : WorldState C) : Type 0 where
    pub prefix : IsPrefix (output_of reader w) (written_by writer w).written
    pub acked : acked_len (written_by writer w).marks ≤ received (arrived_at reader w)
    pub arrived : received (arrived_at reader w) ≤ length (written_by writer w).written
    pub fin : (written_by writer w).fin ≡ true → ((written_by writer w).closed ≡ true) × (received (arrived_at reader w) ≡ length (written_by writer w).written)
    pub told : was_told_end reader w ≡ true → ((written_by writer w).closed ≡ true) × (output_of reader w ≡ (written_by writer w).written)

  pub record BothKeepTheirWord (w : WorldState C) : Type 0 where
    pub ab : KeepsItsWord A B w
    pub ba : KeepsItsWord B A w

  -- after the end was told nothing is read, and nothing was written, at any later moment
  pub record NothingCame (writer reader : Side) (w later : WorldState C) : Type 0 where
    pub read : output_of reader later ≡ output_of reader w
    pub written : (written_by writer later).written ≡ (written_by writer w).written

  -- after the end was told nothing is read or written, in both directions, whatever turns follow
  abbrev pub NothingFollows : Codec C → WorldState C → Type 0
  NothingFollows k w = (more : List Turn) → (was_told_end B w ≡ true → NothingCame A B w (world_run k more w)) × (was_told_end A w ≡ true → NothingCame B A w (world_run k more w))

  -- each turn is on each pipe one step that the pipe allows, or none
  abbrev pub IsOneStep : Side → Side → WorldState C → WorldState C → Type 0
  IsOneStep writer reader w later = StepsOrStays (received (arrived_at reader w)) (pipe_of writer reader w) (pipe_of writer reader later)

  abbrev pub EachTurnIsOneStep : Codec C → WorldState C → Type 0
  EachTurnIsOneStep k w = (turn : Turn) → IsOneStep A B w (after_turn k turn w) × IsOneStep B A w (after_turn k turn w)

  -- no step of an actor was answered by such an answer
  abbrev pub NothingWasRefused : WorldState C → Type 0
  NothingWasRefused w = (actor : ℕ) → was_told tells_refusal (notes_at actor w.crew) ≡ false

  -- no control book was told another key for its own
  abbrev pub KeysNeverDiffer : WorldState C → Type 0
  KeysNeverDiffer w = (actor : ℕ) → was_told tells_other_key (notes_at actor w.crew) ≡ false

  -- no control book was told a token that isn't that of its key
  abbrev pub JoinsAreRight : WorldState C → Type 0
  JoinsAreRight w = (actor : ℕ) → was_told tells_wrong_join (notes_at actor w.crew) ≡ false

  -- no control book was told of an address with a wrong HMAC
  abbrev pub AddressesAreRight : WorldState C → Type 0
  AddressesAreRight w = (actor : ℕ) → was_told tells_bad_address (notes_at actor w.crew) ≡ false

-- ---- at every moment

-- P holds over segments as values
abbrev pub IsPromised : (WorldState Carried → Type 0) → Type 0
IsPromised P = (start : Start) (turns : List Turn) → IsPlain start → P (world_run values turns (opened_world start))

-- P holds of plain connections over octets
abbrev pub IsPromisedOfOctets : (WorldState (List ℕ) → Type 0) → Type 0
IsPromisedOfOctets P = (start : Start) (turns : List Turn) → IsPlain start → NumbersFit start → P (world_run octets turns (opened_world start))

-- ---- whatever payload the links alter

-- P holds over segments as values
abbrev pub HoldsAnyway : (WorldState Carried → Type 0) → Type 0
HoldsAnyway P = (start : Start) (turns : List Turn) → HasRoom start → P (world_run values turns (opened_world start))

-- P holds of connections over octets, whatever is altered
abbrev pub HoldsAnywayOfOctets : (WorldState (List ℕ) → Type 0) → Type 0
HoldsAnywayOfOctets P = (start : Start) (turns : List Turn) → HasRoom start → NumbersFit start → P (world_run octets turns (opened_world start))

-- ---- so nothing that arrives is heard otherwise than it was meant

-- every list of turns is fresh
abbrev pub EveryListIsFresh : Type 0
EveryListIsFresh = (start : Start) (turns : List Turn) → HasRoom start → NumbersFit start → AreFresh turns (opened_world start)

-- a world over octets is the world over segments as values, shown in octets
abbrev pub OctetsAreValuesShown : Type 0
OctetsAreValuesShown =
    (start : Start) (turns : List Turn) → HasRoom start → NumbersFit start
    → world_run octets turns (opened_world start) ≡ shown_world (world_run values turns (opened_world start))
