-- Data numbers of four octets: where a connection begins with them, each DSS that is under way has them (RFC 8684, section 3.3).
use Rattle.std.specs.Prelude.{ℕ, ◌≡◌, ◌^◌, ◌<◌, true, Some, IfSome, slice_get}
use Rattle.mptcp_options.specs.declared.dss.DataNumber.{DataNumber}
use Rattle.mptcp_options.specs.declared.dss.DataNumber.TheVariants.{Whole, Low}
use Rattle.mptcp_options.specs.Value as wire
use Rattle.path_segments.specs.declared.spelling.Spelling.{Spelling}
use Rattle.path_segments.specs.Options.{said_option}
use Rattle.stream_lanes.specs.Words.{Every}
use Rattle.path_core.specs.Values.{Carried}
use Rattle.world_laws.specs.declared.member.Member.TheVariants.{App, Path}
use Rattle.world_laws.specs.Actors.{Actor, ActorCrew}
use Rattle.world_laws.specs.Openings.{Start}
use Rattle.world_laws.specs.Worlds.{WorldState}

-- the low half of a number
abbrev pub IsLowHalf : DataNumber → Type 0
IsLowHalf (Low n) = n < 2 ^ 32
IsLowHalf (Whole n) = ⊥

-- the Data ACK of an option, and the number of its mapping
abbrev pub GoesShort : wire.OptionValue → Type 0
GoesShort (wire.Dss ack mapping fin) = IfSome ack IsLowHalf × IfSome mapping (λ m. IsLowHalf m.number)
GoesShort _ = Unit {0}

-- each option of a segment, as its sender says it
abbrev pub SegmentGoesShort : Spelling → Carried → Type 0
SegmentGoesShort spelling carried = Every (λ o. GoesShort (said_option spelling carried.from o)) carried.segment.options

-- each copy that is under way
abbrev pub CopiesGoShort : Actor Carried → Type 0
CopiesGoShort (App a) = Unit {0}
CopiesGoShort (Path p) = Every (λ f. SegmentGoesShort p.profile.spelling f.carried) p.link.under_way

abbrev pub ShortNumbersGoShort : Start → WorldState Carried → Type 0
ShortNumbersGoShort start w = start.short ≡ true → (actor : ℕ) (c : ActorCrew Carried) → slice_get w.crew actor ≡ Some c → CopiesGoShort c.member
