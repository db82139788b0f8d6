-- What was known of a stream stays, whatever comes.
use Rattle.std.specs.Prelude.{ℕ, ◌≡◌, ◌≤◌, Bool, true, is_some, Option, Some, option_map}
use Rattle.std.specs.List.{list_any, slice_get}
use Rattle.sides.specs.declared.side.Side.{Side}
use Rattle.judge_rules.specs.declared.acks.ToldPlace.{ToldPlace}
use Rattle.judge_rules.specs.declared.finding.Rule.{Rule}
use Rattle.seen_octets.specs.declared.octet.Octet.{Octet}
use Rattle.seen_streams.specs.State.{StreamValue, same_rule}
use Rattle.rule_book.specs.State.{JudgedValue, stream_at}

-- a side broke a rule
abbrev pub broke : Rule → StreamValue → Bool
broke rule stream = list_any (same_rule rule) stream.broken

-- of each place its octet, which places were seen, with which ones mappings begin, how far they are mapped, the place of the DATA_FIN, that an
-- infinite mapping was told, what its side acknowledged, and which rules it broke
pub record GoesOn (old new : StreamValue) : Type 0 where
  pub octets : (place : ℕ) (octet : Octet) → old.octet place ≡ Some octet → new.octet place ≡ Some octet
  pub seen : (place : ℕ) → old.seen place ≡ true → new.seen place ≡ true
  pub starts : (place : ℕ) → old.starts place ≡ true → new.starts place ≡ true
  pub mapped : old.top ≤ new.top
  pub fin : (told : ToldPlace) → old.fin ≡ Some told → new.fin ≡ Some told
  pub infinite : is_some old.infinite ≡ true → is_some new.infinite ≡ true
  pub acknowledged : old.acknowledged ≤ new.acknowledged
  pub broken : (rule : Rule) → broke rule old ≡ true → broke rule new ≡ true

-- what a side of a connection sent
abbrev pub stream_in : JudgedValue → ℕ → Side → Option StreamValue
stream_in judged connection side = option_map (stream_at side) (slice_get judged.books connection)

-- each stream goes on
abbrev pub StreamsGoOn : JudgedValue → JudgedValue → Type 0
StreamsGoOn old new = (connection : ℕ) (side : Side) (stream : StreamValue) → stream_in old connection side ≡ Some stream
    → (later : StreamValue) × (stream_in new connection side ≡ Some later) × GoesOn stream later
