-- The calls that come to the outside below, by those that are made on one whose readers' ports have lines: a piece
-- for a reader's port as one put for each message that it completes.
use Rattle.std.specs.Prelude.{◌≡◌, ℕ, Bool, true, false, List, [], ◌∷◌, ◌++◌, map, drop, Option, None, ◌⊎◌, IfSome, IsSomeAnd}
use Rattle.outside_kit.specs.declared.port.Port.{Port}
use Rattle.outside_kit.specs.declared.port.Port.TheVariants as port
use Rattle.outside_kit.specs.Calls.{Call, Made, AreCallsAfter}
use Rattle.outside_kit.specs.Calls as call
use Rattle.outside_kit.specs.declared.outside.PutFault.{PutFault}
use Rattle.message_pipe.specs.Frames.{frames, HaveFrames, first_message}
use Rattle.message_pipe.specs.Lines.{line_of}
use Rattle.message_pipe.specs.Showing.{Counted}

-- ---- calls

abbrev pub made : Bool → Call → Made
made ok call = record { call = call; ok = ok }

abbrev pub all_made : List Call → List Made
all_made = map (made true)

-- one put for each message, as a line
abbrev pub puts_of : Port → List (List ℕ) → List Call
puts_of to messages = map (λ message. call.Put to (line_of message)) messages

-- where the calls are told afterwards, they were told before, and these were added
abbrev pub AreAdded : List Made → Option (List Made) → Option (List Made) → Type 0
AreAdded more old new = IfSome new (λ after. IsSomeAnd old (λ before. after ≡ before ++ more))

-- the first of two properties where a call succeeded, or else the second
abbrev pub ByMade : Bool → Type 0 → Type 0 → Type 0
ByMade true this that = this
ByMade false this that = that

-- all calls succeeded
abbrev pub AllMade : List Made → Type 0
AllMade [] = Unit {0}
AllMade (one ∷ more) = (one.ok ≡ true) × AllMade more

-- the calls made are the first ones of a plan, in its order; only the last one may have failed
abbrev pub AreFirstMade : List Call → List Made → Type 0
AreFirstMade plan [] = Unit {0}
AreFirstMade [] (one ∷ more) = ⊥
AreFirstMade (call ∷ plan) (one ∷ more) = (one.call ≡ call) × ByMade one.ok (AreFirstMade plan more) (more ≡ [])

-- a load was made below; it succeeded where it did above
abbrev pub LoadComes : List ℕ → Bool → Option (List Made) → Option (List Made) → Type 0
LoadComes name ok old new = (below : Bool) × AreAdded (made below (call.Load name) ∷ []) old new × ByMade ok (below ≡ true) (Unit {0})

-- ---- messages

-- a line that was refused was put in one call, which failed, or in none for want of memory
abbrev pub LineRefused : Port → List ℕ → Option (List Made) → Option (List Made) → Type 0
LineRefused to message old new = AreAdded [] old new ⊎ AreAdded (made false (call.Put to (line_of message)) ∷ []) old new

-- the messages whose frames stand between these places were put, each in one call
pub record PutsMore (to : Port) (octets : List ℕ) (from until : ℕ) (old new : Option (List Made)) : Type 0 where
  pub messages : List (List ℕ)
  pub have : HaveFrames messages
  pub frames_are : drop from octets ≡ frames messages ++ drop until octets
  pub added : AreAdded (all_made (puts_of to messages)) old new

-- of the messages whose frames stand from this place on first ones were put; the last put may have failed
pub record PutsPart (to : Port) (octets : List ℕ) (from : ℕ) (old new : Option (List Made)) : Type 0 where
  pub messages : List (List ℕ)
  pub have : HaveFrames messages
  pub behind : List ℕ
  pub frames_are : drop from octets ≡ frames messages ++ behind
  pub below : List Made
  pub first : AreFirstMade (puts_of to messages) below
  pub added : AreAdded below old new

-- ---- a reader's port

-- the octets that were put for it since it was bound, and those of them behind the messages that have come whole
pub record Passed : Type 0 where
  pub octets : List ℕ
  pub behind : List ℕ

abbrev pub passed_of : Counted → Passed
passed_of port = record { octets = port.octets; behind = port.behind }

abbrev pub nothing_passed : Passed
nothing_passed = record { octets = []; behind = [] }

-- a piece completes messages, each of which was put in one call
pub record Completes (to : Port) (was : Passed) (piece : List ℕ) (below : List Made) (now : Passed) : Type 0 where
  pub messages : List (List ℕ)
  pub have : HaveFrames messages
  pub octets_are : now.octets ≡ was.octets ++ piece
  pub frames_are : was.behind ++ piece ≡ frames messages ++ now.behind
  pub no_more : first_message now.behind ≡ None
  pub puts_are : below ≡ all_made (puts_of to messages)

-- of the messages that it completes these first ones were put; the last put may have failed
pub record FailsAmid (to : Port) (was : Passed) (piece : List ℕ) (below : List Made) : Type 0 where
  pub messages : List (List ℕ)
  pub have : HaveFrames messages
  pub behind : List ℕ
  pub frames_are : was.behind ++ piece ≡ frames messages ++ behind
  pub puts_are : AreFirstMade (puts_of to messages) below

-- where no line of the port had been refused, the calls that were added are these
abbrev pub PieceComes : Port → Option PutFault → Passed → List ℕ → Bool → Passed → Option (List Made) → Option (List Made) → Type 0
PieceComes to refused was piece ok now old new =
    (below : List Made) × AreAdded below old new
    × (refused ≡ None → ByMade ok (Completes to was piece below now) (FailsAmid to was piece below))

-- ---- the calls of both

pub record Readers : Type 0 where
  pub read_by_a : Passed
  pub read_by_b : Passed

abbrev pub readers_of : Counted → Counted → Readers
readers_of a b = record { read_by_a = passed_of a; read_by_b = passed_of b }

abbrev pub no_readers : Readers
no_readers = record { read_by_a = nothing_passed; read_by_b = nothing_passed }

-- what a call that succeeded comes to
abbrev pub ComesTo : Call → Readers → List Made → Readers → Type 0
ComesTo (call.Load name) was below now = (below ≡ made true (call.Load name) ∷ []) × (now ≡ was)
ComesTo (call.Bind port.ReadByA name) was below now =
    (below ≡ made true (call.Bind port.ReadByA name) ∷ []) × (now ≡ record was { read_by_a = nothing_passed })
ComesTo (call.Bind port.ReadByB name) was below now =
    (below ≡ made true (call.Bind port.ReadByB name) ∷ []) × (now ≡ record was { read_by_b = nothing_passed })
ComesTo (call.Bind port.Log name) was below now = (below ≡ made true (call.Bind port.Log name) ∷ []) × (now ≡ was)
ComesTo (call.Put port.ReadByA piece) was below now =
    Completes port.ReadByA was.read_by_a piece below now.read_by_a × (now.read_by_b ≡ was.read_by_b)
ComesTo (call.Put port.ReadByB piece) was below now =
    Completes port.ReadByB was.read_by_b piece below now.read_by_b × (now.read_by_a ≡ was.read_by_a)
ComesTo (call.Put port.Log piece) was below now = (below ≡ made true (call.Put port.Log piece) ∷ []) × (now ≡ was)

-- what a call that failed comes to; a load may fail above alone, where the frames are too long or memory is wanting
abbrev pub FailsAt : Call → Readers → List Made → Type 0
FailsAt (call.Load name) was below = (ok : Bool) × (below ≡ made ok (call.Load name) ∷ [])
FailsAt (call.Bind to name) was below = below ≡ made false (call.Bind to name) ∷ []
FailsAt (call.Put port.ReadByA piece) was below = FailsAmid port.ReadByA was.read_by_a piece below
FailsAt (call.Put port.ReadByB piece) was below = FailsAmid port.ReadByB was.read_by_b piece below
FailsAt (call.Put port.Log piece) was below = below ≡ made false (call.Put port.Log piece) ∷ []

-- What calls come to, one after the other, up to the first that failed. Nothing is said of calls behind that.
abbrev pub AreBelow : Readers → List Made → List Made → Readers → Type 0
AreBelow was [] below now = (below ≡ []) × (now ≡ was)
AreBelow was (one ∷ more) below now =
    (first : List Made) × (rest : List Made) × (below ≡ first ++ rest)
    × ByMade one.ok ((mid : Readers) × ComesTo one.call was first mid × AreBelow mid more rest now)
    (more ≡ [] → (rest ≡ []) × FailsAt one.call was first)

-- The calls on the outside below are those that the calls came to which were made on the one above. As long as none failed there,
-- no line was refused.
pub record CallsStand (above : List Made) (a b : Counted) (first now : Option (List Made)) : Type 0 where
  pub below : List Made
  pub added : AreAdded below first now
  pub are : AreBelow no_readers above below (readers_of a b)
  pub unrefused : AllMade above → (a.refused ≡ None) × (b.refused ≡ None)
