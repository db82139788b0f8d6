-- What comes to an end is answered with its window: the peer may send a full buffer past what was read (RFC 9293, sections 3.8.6 and 3.10.7.4).
use Rattle.std.specs.Prelude.{ℕ, ◌+◌, ◌-◌, ◌≡◌, ◌<◌, ◌≤◌, ◌⊎◌, true, List, [], ◌∷◌, ◌++◌}
use Rattle.sides.specs.declared.side.Side.{Side}
use Rattle.sides.specs.Side.{peer}
use Rattle.actor_desk.specs.Books.{books_in}
use Rattle.actor_desk.specs.Desk.{SixBooks}
use Rattle.path_core.specs.State.{PathState, end_at}
use Rattle.path_core.specs.Values.{Carried, values}
use Rattle.world_laws.specs.Openings.{PathPlan, Start}
use Rattle.world_laws.specs.Promises.{written_by}
use Rattle.world_laws.specs.RoundDone.{reached}
use Rattle.world_laws.specs.Worlds.{Turn, all_over}
use Rattle.whole_paths.specs.ClearRounds.{NoneIsHarmed}
use Rattle.whole_paths.specs.Delivery.{IsAllThere}
use Rattle.whole_paths.specs.Finish.{IsPathAt, is_harmed}
use Rattle.whole_paths.specs.Mending.{IsBegunTurn}
use Rattle.whole_paths.specs.Offered.{OffersUpTo}
use Rattle.whole_paths.specs.OnePathScripts.{BeginsWithOnePath}
use Rattle.whole_paths.specs.SegmentRounds.{Rounds, StaysOpen, read_after}
use Rattle.whole_paths.specs.WindowsAssured.{IsAssured}

-- An acknowledgement that the peer owes is owed still, or goes in the turn, and assures the side a place 31 bytes before what the peer's book
-- takes, within 400 ticks; or it is harmed.
abbrev pub AnswersAssure : Side → SixBooks → SixBooks → PathState Carried → PathState Carried → Type 0
AnswersAssure s six after p q = (end_at (peer s) p).tcp.due.ack ≡ true → (edge : ℕ) → OffersUpTo six (peer s) (edge + 31) p
    → ((end_at (peer s) q).tcp.due.ack ≡ true) ⊎ ((is_harmed (peer s) p q ≡ true) ⊎ IsAssured after s edge (p.clock + 400) q)

-- by each turn of a mild connection over one path between ends past the handshake, of which B's may send a DSS, and so may the peer's
abbrev pub EachAnswerAssures : Type 0
EachAnswerAssures = (start : Start) (plan : PathPlan) (turns : List Turn) (turn : Turn) → BeginsWithOnePath start plan
    → (h : IsBegunTurn start turns turn) (s : Side) → (end_at (peer s) h.before.path).modes.clear ≡ true
    → AnswersAssure s (books_in (reached values start turns).books) (books_in (reached values start (turns ++ turn ∷ [])).books) h.before.path h.after.path

-- Where octets of the side come in order to the peer by turns in which none of the peer's segments is harmed, from where a turn is over to where one
-- is, four rounds later the side may send up to the peer's buffer, but for 31 bytes, past what was read before; or all of its stream is there.
abbrev pub WhatComesOpensTheWindow : Type 0
WhatComesOpensTheWindow = (start : Start) (plan : PathPlan) (v a u more : List Turn) → BeginsWithOnePath start plan → a ≡ v ++ more → StaysOpen start v more
    → all_over (reached values start v).crew ≡ true → all_over (reached values start a).crew ≡ true → (s : Side) → NoneIsHarmed start (peer s) v more
    → (p q : PathState Carried) → IsPathAt 0 (reached values start v) p → IsPathAt 0 (reached values start a) q
    → (end_at (peer s) p).tcp.recv.edge < (end_at (peer s) q).tcp.recv.edge → Rounds start 4 a u
    → IsAllThere s (reached values start u) ⊎ (read_after start s v + (start.buffer - 31) ≤ (written_by s (reached values start u)).edge)
