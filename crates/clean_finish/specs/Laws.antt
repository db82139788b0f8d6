-- What the bound rests on.
use Rattle.std.specs.Prelude.{ℕ, ◌≡◌, ◌+◌, ◌-◌, ◌*◌, ◌/◌, ◌≤◌, min, false, [], ◌∷◌, Some}
use Rattle.sides.specs.declared.side.Side.TheVariants.{A}
use Rattle.link_script.specs.declared.script.PathLine.{PathLine}
use Rattle.link_script.specs.declared.script.Script.{Script}
use Rattle.link_script.specs.declared.script.Happens.TheVariants.{Lost}
use Rattle.link_script.specs.declared.script.ScriptLine.TheVariants.{OnSegment}
use Rattle.link_script.specs.Scripts.{HasRanges}
use Rattle.pace.specs.Lane.{Setting, Lane}
use Rattle.pace.specs.Rounds.{Course}
use Rattle.clean_finish.specs.Bound.{enough}

-- The numbers of a lane: a window update is due once the window has grown by half the buffer or by two
-- segments (RFC 9293, section 3.8.6.2.2), and a timeout is a second at least (RFC 6298, section 2.4).
abbrev pub setting_of : PathLine → ℕ → ℕ → Setting
setting_of path buffer length = record {
  delay = path.delay;
  payload = path.mss - 28;
  threshold = (min buffer (4 * path.mss) + 1) / 2;
  buffer = buffer;
  least = min 65535 buffer;
  total = length;
  rto = 1000;
}

-- Where both directions of a connection by the script go on as lanes, both readers are told the end within
-- the rounds that are enough, the first among them. Both congestion windows begin with two segments more than
-- the payload that the lane leaves out of its window.
abbrev pub CleanLanesFinish : Type 0
CleanLanesFinish = (script : Script) (path : PathLine) (length_a length_b rounds : ℕ)
    → HasRanges script → script.paths ≡ path ∷ [] → enough script length_a length_b ≡ Some rounds
    → (a b : ℕ) → 2 * path.mss ≤ a → 2 * path.mss ≤ b
    → (more : ℕ) → rounds ≤ more + 1 → (u x : Lane)
    → Course (setting_of path script.buffer length_a) (setting_of path script.buffer length_b) a b more u x
    → (1 ≤ u.told_end) × (1 ≤ x.told_end)

abbrev pub a_path : PathLine
a_path = record { mss = 1400; delay = 10; join = 0; backup = false }

-- A script with one path of segments of 1,400 octets, and the same with another path or with a line.
abbrev pub one_path : Script
one_path = record {
  seed = 1;
  checksum = false;
  short = false;
  buffer = 65536;
  paths = a_path ∷ [];
  lines = [];
}

abbrev pub two_paths : Script
two_paths = record one_path { paths = a_path ∷ a_path ∷ [] }

abbrev pub one_drop : Script
one_drop = record one_path { lines = OnSegment (record { path = 0; from = A; number = 3 }) Lost ∷ [] }

-- Both directions of a connection of empty files by this path go on as lanes, for one round and any number more.
abbrev pub EmptyFilesRun : Type 0
EmptyFilesRun = (more : ℕ) → (u : Lane) × (x : Lane)
    × Course (setting_of a_path 65536 0) (setting_of a_path 65536 0) 2828 2828 more u x
