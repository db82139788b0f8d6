-- One put a message.
use Rattle.std.specs.Prelude.{◌≡◌, ℕ, List, [], ◌∷◌, ◌++◌, map, None}
use Rattle.outside_kit.specs.declared.port.Port.TheVariants as port
use Rattle.outside_kit.specs.Calls.{Made}
use Rattle.outside_kit.specs.Calls as call
use Rattle.message_pipe.specs.Frames.{frames, HaveFrames, first_message}
use Rattle.message_pipe.specs.Lines.{line_of}
use Rattle.message_pipe.specs.Below.{Passed, Readers, no_readers, AllMade, AreBelow}

-- the pieces that were put for each reader since its port was bound
pub record Pieces : Type 0 where
  pub for_a : List (List ℕ)
  pub for_b : List (List ℕ)

abbrev pub with_call : call.Call → Pieces → Pieces
with_call (call.Load name) pieces = pieces
with_call (call.Bind port.ReadByA name) pieces = record pieces { for_a = [] }
with_call (call.Bind port.ReadByB name) pieces = record pieces { for_b = [] }
with_call (call.Bind port.Log name) pieces = pieces
with_call (call.Put port.ReadByA piece) pieces = record pieces { for_a = pieces.for_a ++ piece ∷ [] }
with_call (call.Put port.ReadByB piece) pieces = record pieces { for_b = pieces.for_b ++ piece ∷ [] }
with_call (call.Put port.Log piece) pieces = pieces

-- behind these calls
abbrev pub pieces_after : List Made → Pieces → Pieces
pieces_after [] pieces = pieces
pieces_after (one ∷ more) pieces = pieces_after more (with_call one.call pieces)

abbrev pub pieces_in : List Made → Pieces
pieces_in calls = pieces_after calls (record { for_a = []; for_b = [] })

-- the pieces are the messages that came whole in these octets, each as a line
pub record AreMessages (passed : Passed) (pieces : List (List ℕ)) : Type 0 where
  pub messages : List (List ℕ)
  pub have : HaveFrames messages
  pub octets_are : passed.octets ≡ frames messages ++ passed.behind
  pub no_more : first_message passed.behind ≡ None
  pub pieces_are : pieces ≡ map line_of messages

-- where all calls above succeeded, so did all below, and each put there for a reader is one message that came whole in what was put above
pub record PutsMessages (below : List Made) (now : Readers) : Type 0 where
  pub all : AllMade below
  pub for_a : AreMessages now.read_by_a (pieces_in below).for_a
  pub for_b : AreMessages now.read_by_b (pieces_in below).for_b

abbrev pub MessagesArePutOneByOne : Type 0
MessagesArePutOneByOne = (above below : List Made) (now : Readers) → AreBelow no_readers above below now → AllMade above → PutsMessages below now
