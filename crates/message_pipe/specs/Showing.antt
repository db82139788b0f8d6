-- What a port that shows messages as lines holds, by the octets that were put for it.
use Rattle.std.specs.Prelude.{◌≡◌, ◌≢◌, ℕ, ◌≤◌, List, ◌++◌, length, drop, Option, Some, None, IfSome, IsSome, IsSomeAnd}
use Rattle.outside_kit.specs.declared.port.Port.{Port}
use Rattle.message_pipe.specs.declared.line_port.LinePort.{LinePort}
use Rattle.outside_kit.specs.declared.outside.PutFault.{PutFault}
use Rattle.outside_kit.specs.declared.outside.PutFault.TheVariants.{Failed}
use Rattle.outside_kit.specs.Outside.{Told, HasRisen, HoldsAfter, HoldsPrefix}
use Rattle.octet_text.specs.Prefix.{IsPrefix}
use Rattle.message_pipe.specs.Frames.{frames, HaveFrames, first_message}
use Rattle.message_pipe.specs.Lines.{message_lines}

-- ---- puts

-- the messages whose frames stand between these places were shown
pub record ShowsMore (octets : List ℕ) (from to : ℕ) (old new : Option (List ℕ)) : Type 0 where
  pub messages : List (List ℕ)
  pub have : HaveFrames messages
  pub within : to ≤ length octets
  pub frames_are : drop from octets ≡ frames messages ++ drop to octets
  pub shown_is : HoldsAfter old new (λ held. held ++ message_lines messages)

-- of the messages whose frames stand from this place on a prefix was shown
pub record ShowsPart (octets : List ℕ) (from : ℕ) (old new : Option (List ℕ)) : Type 0 where
  pub messages : List (List ℕ)
  pub have : HaveFrames messages
  pub behind : List ℕ
  pub frames_are : drop from octets ≡ frames messages ++ behind
  pub shown_is : HoldsPrefix old new (message_lines messages)

-- after puts to this port: what was told is told, no count falls, and other ports and their counts are as they were
pub record StaysElsewhere (port : Port) (old new : Told) : Type 0 where
  pub told : (name : List ℕ) → IsSome (old.content name) → IsSome (new.content name)
  pub counted : old.port_faults port ≤ new.port_faults port
  pub other_ports : (other : Port) → other ≢ port → new.holds other ≡ old.holds other
  pub other_counts : (other : Port) → other ≢ port → new.port_faults other ≡ old.port_faults other
  pub load_counts : new.load_faults ≡ old.load_faults

-- ---- ports

-- the octets that were put for a port, those of them that stand behind the messages that are shown, and the refusal that is kept
pub record Counted : Type 0 where
  pub octets : List ℕ
  pub behind : List ℕ
  pub refused : Option PutFault

-- a port of the code by its octets
abbrev pub counted_of : LinePort → Counted
counted_of port = record { octets = port.octets.items; behind = drop port.end port.octets.items; refused = port.refused }

-- The whole messages at the front of the octets are shown as lines, each of them, in order. What the port holds is said where it
-- told at first what it held.
pub record ShowsMessages (port : Counted) (first held : Option (List ℕ)) : Type 0 where
  pub messages : List (List ℕ)
  pub have : HaveFrames messages
  pub octets_are : port.octets ≡ frames messages ++ port.behind
  pub no_more : first_message port.behind ≡ None
  pub shown_is : HoldsAfter first held (λ _. message_lines messages)

-- a prefix of the lines of messages at the front of the octets is shown
pub record ShowsPrefix (port : Counted) (first held : Option (List ℕ)) : Type 0 where
  pub messages : List (List ℕ)
  pub have : HaveFrames messages
  pub rest : List ℕ
  pub octets_are : port.octets ≡ frames messages ++ rest
  pub shown_is : IfSome first (λ _. IsSomeAnd held (λ text. IsPrefix text (message_lines messages)))

-- A port shows all whole messages, or after a refusal a prefix. A refusal of the device is kept only where the port's count has
-- risen since it was this one at first.
pub record PortStands (port : Counted) (first held : Option (List ℕ)) (faults_first faults : ℕ) : Type 0 where
  pub shows : port.refused ≡ None → ShowsMessages port first held
  pub part : IsSome port.refused → ShowsPrefix port first held
  pub counted : faults_first ≤ faults
  pub risen : port.refused ≡ Some Failed → HasRisen faults_first faults
