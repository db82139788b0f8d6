-- A's answer to the SYN/ACK of a half-open B is harmed, or comes within 400 ticks.
use Rattle.std.specs.Prelude.{ℕ, ◌+◌, ◌-◌, ◌^◌, ◌≡◌, ◌<◌, ◌≤◌, ◌⊎◌, true, List, [], ◌∷◌, ◌++◌}
use Rattle.sides.specs.declared.side.Side.TheVariants.{A}
use Rattle.link_model.specs.Steps.{segments_sent}
use Rattle.path_core.specs.Looking.{first_sends, segment_sent}
use Rattle.path_core.specs.State.{PathState}
use Rattle.path_core.specs.Values.{Carried, values}
use Rattle.subflow_tcp.specs.declared.handshake.State.TheVariants.{SynReceived}
use Rattle.world_laws.specs.Openings.{Start}
use Rattle.world_laws.specs.RoundDone.{reached}
use Rattle.world_laws.specs.Worlds.{Turn}
use Rattle.whole_paths.specs.AsFar.{stage}
use Rattle.whole_paths.specs.Exchanges.{IsBareWithin}
use Rattle.whole_paths.specs.Finish.{IsPathAt, is_harmed}
use Rattle.whole_paths.specs.Mild.{IsMildStart}
use Rattle.whole_paths.specs.Owed.{Covers}
use Rattle.whole_paths.specs.RecordsGo.{IsOneSo}
use Rattle.whole_paths.specs.SynAcks.{IsToBeAnswered}

-- the segment of A's that goes next acknowledges B's SYN and nothing more, at a position between these
abbrev pub GoesBareWithin : ℕ → ℕ → PathState Carried → Type 0
GoesBareWithin edge next p = IsOneSo (first_sends p.agenda p) (λ t. (t.from ≡ A) × Covers 1 (segment_sent p t) × IsBareWithin edge next (segment_sent p t))

-- As the path becomes another one, and its link takes it, while A is past the handshake, and B half-open: it is harmed, or comes within 400 ticks, twice
-- the longest delay.
abbrev pub SynAckIsAnsweredSoon : PathState Carried → PathState Carried → Type 0
SynAckIsAnsweredSoon p q = 3 ≤ stage q.a.tcp.state → q.b.tcp.state ≡ SynReceived → q.b.tcp.send.una ≡ 0 → GoesBareWithin q.b.tcp.recv.edge q.a.tcp.send.nxt p
    → segments_sent A p.link < segments_sent A q.link → segments_sent A p.link < 2 ^ 64 - 1 → (is_harmed A p q ≡ true) ⊎ IsToBeAnswered (p.clock + 400) q

-- on path 0, by each turn of a mild connection
abbrev pub EachSynAckIsAnsweredSoon : Type 0
EachSynAckIsAnsweredSoon = (start : Start) (turns : List Turn) (turn : Turn) → IsMildStart start → (p q : PathState Carried) → IsPathAt 0 (reached values start turns) p
    → IsPathAt 0 (reached values start (turns ++ turn ∷ [])) q → SynAckIsAnsweredSoon p q
