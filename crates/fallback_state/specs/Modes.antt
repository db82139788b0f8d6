-- The modes by what they may take.
use Rattle.std.specs.Prelude.{Bool, true, false}
use Rattle.fallback_state.specs.declared.fall.Mode.{Mode}
use Rattle.fallback_state.specs.declared.fall.Mode.TheVariants.{Starting, Sure, Identity, InfiniteSend, InfiniteReceive, InfiniteBoth, Aborted}

abbrev pub is_starting : Mode → Bool
is_starting Starting = true
is_starting Sure = false
is_starting Identity = false
is_starting InfiniteSend = false
is_starting InfiniteReceive = false
is_starting InfiniteBoth = false
is_starting Aborted = false

abbrev pub is_identity : Mode → Bool
is_identity Identity = true
is_identity Starting = false
is_identity Sure = false
is_identity InfiniteSend = false
is_identity InfiniteReceive = false
is_identity InfiniteBoth = false
is_identity Aborted = false

-- the peer's mappings count: no infinite mapping of the peer and no plain TCP took their place
abbrev pub reads_mappings : Mode → Bool
reads_mappings Starting = true
reads_mappings Sure = true
reads_mappings InfiniteSend = true
reads_mappings Identity = false
reads_mappings InfiniteReceive = false
reads_mappings InfiniteBoth = false
reads_mappings Aborted = false

-- the side's own mappings count
abbrev pub writes_mappings : Mode → Bool
writes_mappings Starting = true
writes_mappings Sure = true
writes_mappings InfiniteReceive = true
writes_mappings Identity = false
writes_mappings InfiniteSend = false
writes_mappings InfiniteBoth = false
writes_mappings Aborted = false

-- the mode with the peer's infinite mapping in it
abbrev pub with_infinite_receive : Mode → Mode
with_infinite_receive InfiniteSend = InfiniteBoth
with_infinite_receive InfiniteBoth = InfiniteBoth
with_infinite_receive Starting = InfiniteReceive
with_infinite_receive Sure = InfiniteReceive
with_infinite_receive Identity = InfiniteReceive
with_infinite_receive InfiniteReceive = InfiniteReceive
with_infinite_receive Aborted = InfiniteReceive

-- the mode with the side's own infinite mapping in it
abbrev pub with_infinite_send : Mode → Mode
with_infinite_send InfiniteReceive = InfiniteBoth
with_infinite_send InfiniteBoth = InfiniteBoth
with_infinite_send Starting = InfiniteSend
with_infinite_send Sure = InfiniteSend
with_infinite_send Identity = InfiniteSend
with_infinite_send InfiniteSend = InfiniteSend
with_infinite_send Aborted = InfiniteSend

-- the modes with an infinite mapping in them
abbrev pub is_infinite : Mode → Bool
is_infinite InfiniteSend = true
is_infinite InfiniteReceive = true
is_infinite InfiniteBoth = true
is_infinite Starting = false
is_infinite Sure = false
is_infinite Identity = false
is_infinite Aborted = false
