-- As long as A's end sent nothing behind its SYN it knows of no window that is shut: B's SYN/ACK told one that isn't.
use Rattle.std.proofs.Common.{◌≡◌, subst, ⊎_elim, ◌+◌, ◌<◌, ◌≤◌, arith, Bool, true, false, if◌then◌else◌, List}
use Rattle.std.proofs.lemmas.Bool.{cases_lt}
use Rattle.sides.specs.declared.side.Side.TheVariants.{A, B}
use Rattle.reassembly_book.specs.State.{received}
use Rattle.reassembly_book.specs.Steps.{is_end, next_wanted}
use Rattle.path_core.specs.State.{PathState}
use Rattle.path_core.specs.Values.{Carried, values}
use Rattle.world_laws.specs.Openings.{Start}
use Rattle.world_laws.specs.Promises.{arrived_at}
use Rattle.world_laws.specs.RoundDone.{reached}
use Rattle.world_laws.specs.Worlds.{Turn, WorldState}
use Rattle.whole_paths.specs.AsFar.{stage}
use Rattle.whole_paths.specs.Finish.{IsPathAt}
use Rattle.whole_paths.specs.Mild.{IsMildStart}
use Rattle.whole_paths.specs.OpeningWaits.{IsAlive}
use Rattle.whole_paths.specs.PositionCounts.{CountsBytes}
use Rattle.whole_paths.proofs.ByTurns.{Of}
use Rattle.whole_paths.proofs.EdgeRises.{edges_wait_for_the_handshake}
use Rattle.whole_paths.proofs.Handshaking.{PathMet, each_met}
use Rattle.whole_paths.proofs.PositionCounts.{first_counts_bytes}
use Rattle.whole_paths.specs.WindowRoom.{NoWindowIsShutBefore}
use Rattle.whole_paths.proofs.KnownWindows.{unshut_at}
use Rattle.whole_paths.proofs.LoneFirst.{IsUnjoined}
use Rattle.whole_paths.proofs.Received.{nobody_joins}

module _ (start : Start) (mild : IsMildStart start) where
  -- B's side received nothing before A has its SYN, but for the end of A's stream perhaps
  pub fewer : (turns : List Turn) → IsUnjoined (reached values start turns) → (p : PathState Carried) → IsPathAt 0 (reached values start turns) p → IsAlive p → stage p.a.tcp.state ≤ 1 → next_wanted (arrived_at B (reached values start turns)) < 2
  fewer turns alone p here alive low = by (is_end (arrived_at B w).known_end (received (arrived_at B w)))
    where
      w : WorldState Carried
      w = reached values start turns

      met : PathMet p
      met = subst (Of PathMet) here.is ((each_met start mild turns).each here.crew here.there)

      counts : CountsBytes w p A
      counts = first_counts_bytes start turns mild alone p here A

      unmet : stage p.b.tcp.state ≤ 2
      unmet = ⊎_elim (λ few. omega (arith, few)) (λ high. absurd (let met_a = met.b high (alive.living B) in omega (arith, met_a, low))) (cases_lt (stage p.b.tcp.state) 3)

      none : received (arrived_at B w) ≡ 0
      none = let edge = edges_wait_for_the_handshake start turns p here B unmet in let few = counts.came in omega (arith, edge, few)

      by : (b : Bool) → received (arrived_at B w) + (if b then 1 else 0) < 2
      by true = (let empty = none in omega (arith, empty))
      by false = (let empty = none in omega (arith, empty))

  pub none_is_shut_before : 2 ≤ start.buffer → (turns : List Turn) → IsUnjoined (reached values start turns) → (p : PathState Carried) → IsPathAt 0 (reached values start turns) p → IsAlive p → p.a.tcp.send.nxt ≤ 1 → p.a.sending.shut ≡ false
  none_is_shut_before room = unshut_at start mild A 2 1 (omega arith) (omega arith) room (λ turns alone p here alive low. (let few = fewer turns alone p here alive low in omega (arith, few)))

pub no_window_is_shut_before : NoWindowIsShutBefore
no_window_is_shut_before start plan turns x p here alive few = none_is_shut_before start x.mild (let room = x.buffer in omega (arith, room)) turns (nobody_joins start plan x.one x.mild turns) p here alive few
