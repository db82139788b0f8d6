-- What holds of a lane, part by part: it is taken apart, parts are given anew, and it is put together for a lane of which all other parts
-- say the same.
use Rattle.std.proofs.Common.{◌≡◌, ℕ, true}
use Rattle.stream_lanes.specs.Lane.{Lane}
use Rattle.stream_lanes.specs.View.{View}
use Rattle.stream_lanes.specs.Words.{Every}
use Rattle.stream_lanes.specs.Holding.{RecordHolds, AloneHolds, ModeHolds, LinkHolds, PassedHolds, PairsHold, BytesHold, EndsHold, IsFin, HeardHolds, ReceiverHolds, AskHolds, LaneHolds}

pub record Parts (R A M L P Q B E F H V K : Type 0) : Type 0 where
  pub record_of : R
  pub alone : A
  pub modes : M
  pub link : L
  pub passed : P
  pub pairs : Q
  pub bytes : B
  pub ends : E
  pub fins : F
  pub heard : H
  pub receiver : V
  pub ask : K

abbrev pub PartsOf : View → ℕ → Lane → Type 0
PartsOf v path p =
    Parts (RecordHolds path v p.sent) (v.alone ≡ true → AloneHolds path v.marks p.sent) (ModeHolds path v p.opened p.sender_plain p.receiver_plain) (LinkHolds v p.alters p.checked p.receiver_loose) (PassedHolds path v p.sent p.edge p.fin_in p.acks) (PairsHold path v p.sent p.pair p.pairs p.taken)
    (BytesHold p.alters p.sent p.pieces p.datas p.edge p.kept p.maps p.acks) (EndsHold v.end p.known_end p.data_fins) (Every (IsFin path v p.sent) p.fins) (HeardHolds v p.heard p.fin_acked) (ReceiverHolds v p.edge p.fin_in p.due p.latest p.acks) (AskHolds v p.sent p.opened p.edge p.asking)

module _ {v : View} {path : ℕ} {p : Lane} where
  pub parts_of : LaneHolds v path p → PartsOf v path p
  parts_of h = record { record_of = h.record_of; alone = h.alone; modes = h.modes; link = h.link; passed = h.passed; pairs = h.pairs; bytes = h.bytes; ends = h.ends; fins = h.fins; heard = h.heard; receiver = h.receiver; ask = h.ask }

  pub whole : PartsOf v path p → LaneHolds v path p
  whole h = record { record_of = h.record_of; alone = h.alone; modes = h.modes; link = h.link; passed = h.passed; pairs = h.pairs; bytes = h.bytes; ends = h.ends; fins = h.fins; heard = h.heard; receiver = h.receiver; ask = h.ask }

module _ {R A M L P Q B E F H V K Y : Type 0} where
  pub new_modes : Y → Parts R A M L P Q B E F H V K → Parts R A Y L P Q B E F H V K
  new_modes y h = record { record_of = h.record_of; alone = h.alone; modes = y; link = h.link; passed = h.passed; pairs = h.pairs; bytes = h.bytes; ends = h.ends; fins = h.fins; heard = h.heard; receiver = h.receiver; ask = h.ask }

  pub new_link : Y → Parts R A M L P Q B E F H V K → Parts R A M Y P Q B E F H V K
  new_link y h = record { record_of = h.record_of; alone = h.alone; modes = h.modes; link = y; passed = h.passed; pairs = h.pairs; bytes = h.bytes; ends = h.ends; fins = h.fins; heard = h.heard; receiver = h.receiver; ask = h.ask }

  pub new_passed : Y → Parts R A M L P Q B E F H V K → Parts R A M L Y Q B E F H V K
  new_passed y h = record { record_of = h.record_of; alone = h.alone; modes = h.modes; link = h.link; passed = y; pairs = h.pairs; bytes = h.bytes; ends = h.ends; fins = h.fins; heard = h.heard; receiver = h.receiver; ask = h.ask }

  pub new_pairs : Y → Parts R A M L P Q B E F H V K → Parts R A M L P Y B E F H V K
  new_pairs y h = record { record_of = h.record_of; alone = h.alone; modes = h.modes; link = h.link; passed = h.passed; pairs = y; bytes = h.bytes; ends = h.ends; fins = h.fins; heard = h.heard; receiver = h.receiver; ask = h.ask }

  pub new_bytes : Y → Parts R A M L P Q B E F H V K → Parts R A M L P Q Y E F H V K
  new_bytes y h = record { record_of = h.record_of; alone = h.alone; modes = h.modes; link = h.link; passed = h.passed; pairs = h.pairs; bytes = y; ends = h.ends; fins = h.fins; heard = h.heard; receiver = h.receiver; ask = h.ask }

  pub new_ends : Y → Parts R A M L P Q B E F H V K → Parts R A M L P Q B Y F H V K
  new_ends y h = record { record_of = h.record_of; alone = h.alone; modes = h.modes; link = h.link; passed = h.passed; pairs = h.pairs; bytes = h.bytes; ends = y; fins = h.fins; heard = h.heard; receiver = h.receiver; ask = h.ask }

  pub new_fins : Y → Parts R A M L P Q B E F H V K → Parts R A M L P Q B E Y H V K
  new_fins y h = record { record_of = h.record_of; alone = h.alone; modes = h.modes; link = h.link; passed = h.passed; pairs = h.pairs; bytes = h.bytes; ends = h.ends; fins = y; heard = h.heard; receiver = h.receiver; ask = h.ask }

  pub new_heard : Y → Parts R A M L P Q B E F H V K → Parts R A M L P Q B E F Y V K
  new_heard y h = record { record_of = h.record_of; alone = h.alone; modes = h.modes; link = h.link; passed = h.passed; pairs = h.pairs; bytes = h.bytes; ends = h.ends; fins = h.fins; heard = y; receiver = h.receiver; ask = h.ask }

  pub new_receiver : Y → Parts R A M L P Q B E F H V K → Parts R A M L P Q B E F H Y K
  new_receiver y h = record { record_of = h.record_of; alone = h.alone; modes = h.modes; link = h.link; passed = h.passed; pairs = h.pairs; bytes = h.bytes; ends = h.ends; fins = h.fins; heard = h.heard; receiver = y; ask = h.ask }

  pub new_ask : Y → Parts R A M L P Q B E F H V K → Parts R A M L P Q B E F H V Y
  new_ask y h = record { record_of = h.record_of; alone = h.alone; modes = h.modes; link = h.link; passed = h.passed; pairs = h.pairs; bytes = h.bytes; ends = h.ends; fins = h.fins; heard = h.heard; receiver = h.receiver; ask = y }
