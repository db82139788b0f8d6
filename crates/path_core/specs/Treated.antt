-- What the last copy said, as far as it is still to be treated.
use Rattle.std.specs.Prelude.{ℕ, Bool, false, List, Option, [], None}
use Rattle.subflow_tcp.specs.declared.segments.Outgoing.{Outgoing}
use Rattle.path_agenda.specs.declared.heard.Heard.{Heard}
use Rattle.path_store.specs.declared.infinite_mapping.InfiniteMapping.{InfiniteMapping}

-- what the last copy said, as far as it is still to be treated; its payload and its mappings are held beside what they are
-- to be put to
pub record Treated : Type 0 where
  -- what its options say, in their order
  pub items : List Heard
  -- the end became established by it
  pub opened : Bool
  -- the copy's keys were told already
  pub keys_told : Bool
  -- the copy has an option of Multipath TCP
  pub has_option : Bool
  -- the ends of the stream that are to be told: those of its DATA_FINs, and of one that the edge reached
  pub fins : List ℕ
  -- bytes or an end were told since the book was asked last what is to be acknowledged
  pub asked : Bool
  -- the reset that answers it at a dead end, and at an end that refuses it
  pub answer : Option Outgoing
  -- the window that it told
  pub window : ℕ
  -- the copy acknowledges data for the first time, and has no Data ACK
  pub plain_ack : Bool
  -- the position that it acknowledges
  pub acknowledged : ℕ
  -- the copy's Data ACK was told to the send book
  pub data_ack_taken : Bool
  -- the receive edge at its arrival, where its payload has the octet there and isn't dropped
  pub held_edge : Option ℕ
  -- the place of the mapping whose failed check broke the path
  pub failed_mapping : Option ℕ
  -- the infinite mapping by which the side may send, where the send book gave its bytes to this path alone as an MP_FAIL came
  pub infinite_mapping : Option InfiniteMapping

-- no copy is treated
abbrev pub nothing_treated : Treated
nothing_treated = record {
  items = [];
  opened = false;
  keys_told = false;
  has_option = false;
  fins = [];
  asked = false;
  answer = None;
  window = 0;
  plain_ack = false;
  acknowledged = 0;
  data_ack_taken = false;
  held_edge = None;
  failed_mapping = None;
  infinite_mapping = None;
}
