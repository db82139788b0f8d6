-- As a round begins path 0's ends are to ask their books, and they have asked once it is over.
use Rattle.std.proofs.Common.{◌≡◌, sym, subst, ◌∙◌, ⊎_elim, ◌+◌, ◌≤◌, ℕ, arith, List, [], ◌∷◌, ◌++◌, append_assoc}
use Rattle.sides.specs.declared.side.Side.{Side}
use Rattle.sides.specs.Side.{peer}
use Rattle.reassembly_book.specs.Steps as arriving
use Rattle.actor_desk.specs.Books.{books_in}
use Rattle.actor_desk.specs.Desk.{reassembly_of}
use Rattle.path_core.specs.State.{PathState, end_at}
use Rattle.path_core.specs.Values.{Carried, values}
use Rattle.world_laws.specs.Openings.{PathPlan, Start}
use Rattle.world_laws.specs.RoundDone.{reached}
use Rattle.world_laws.specs.Worlds.{Turn}
use Rattle.whole_paths.specs.Finish.{IsPathAt}
use Rattle.whole_paths.specs.GoingOn.{steps_of}
use Rattle.whole_paths.specs.OnePathScripts.{BeginsWithOnePath}
use Rattle.whole_paths.specs.OpenCourses.{IsOpenAfter}
use Rattle.whole_paths.specs.SegmentRounds.{IsRound, read_after}
use Rattle.whole_paths.specs.ToldEdges.{offer}
use Rattle.whole_paths.specs.ToldRounds.{EachRoundAsks}
use Rattle.whole_paths.specs.TurnsBegin.{BeginsTurn, TurnBeginsOn, TurnsBeginOn}
use Rattle.whole_paths.proofs.OfferedTaken.{Modest, ModestOn, modest_between}
use Rattle.whole_paths.proofs.Offered.{what_is_taken_is_offered}
use Rattle.whole_paths.proofs.PathTurns.{at_round, at_turn}
use Rattle.whole_paths.proofs.RoundSteps.{open_first, silent}
use Rattle.whole_paths.proofs.TurnsBegin.{begins_anew, each_turn_begins}
use Rattle.whole_paths.proofs.WindowRounds.{carried_with}

module _ (start : Start) (plan : PathPlan) (one : BeginsWithOnePath start plan) (t : Side) (at : ℕ) where
  -- the book takes bytes up to the place, and its end is to ask it, or knows it
  data Asks (turns : List Turn) (y : PathState Carried) : Type 0 where
    soon : BeginsTurn t y.agenda → at ≤ arriving.edge (reassembly_of t (books_in (reached values start turns).books)) → Asks turns y
    knows : at ≤ offer (end_at t y) → at ≤ arriving.edge (reassembly_of t (books_in (reached values start turns).books)) → Asks turns y

  asks_on : (turns : List Turn) (turn : Turn) (before : IsOpenAfter start turns) (after : IsOpenAfter start (turns ++ turn ∷ [])) → Asks turns before.path → Asks (turns ++ turn ∷ []) after.path
  asks_on turns turn before after h = by h
    where
      modest : Modest (books_in (reached values start turns).books) (books_in (reached values start (turns ++ turn ∷ [])).books) t (end_at t before.path) (end_at t after.path)
      modest = at_turn start turns turn before.path after.path before.here after.here ModestOn modest_between t

      begins : TurnBeginsOn (books_in (reached values start (turns ++ turn ∷ [])).books) t before.path after.path
      begins = at_turn start turns turn before.path after.path before.here after.here TurnsBeginOn (each_turn_begins values) t

      by : Asks turns before.path → Asks (turns ++ turn ∷ []) after.path
      by (soon begun low) = ⊎_elim
          (λ still. soon still (let up = modest.up in omega (arith, low, up)))
          (λ asked. knows (let up = modest.up in let all = asked.knows in omega (arith, low, up, all)) (let up = modest.up in omega (arith, low, up)))
          (begins.soon begun)
      by (knows known low) = knows (modest.keeps at low known) (let up = modest.up in omega (arith, low, up))

module _ (start : Start) (plan : PathPlan) (s : Side) (v w : List Turn) (one : BeginsWithOnePath start plan) (round : IsRound start v w) (p : PathState Carried) (here : IsPathAt 0 (reached values start w) p) where
  abbrev t : Side
  t = peer s

  abbrev at : ℕ
  at = read_after start s v + start.buffer

  abbrev begun : List Turn
  begun = v ++ Turn.Round ∷ []

  open_v : IsOpenAfter start v
  open_v = round.stays_open.0

  open_begun : IsOpenAfter start begun
  open_begun = open_first start begun (steps_of round.order) round.stays_open.1

  taken : at ≤ arriving.edge (reassembly_of t (books_in (reached values start v).books))
  taken = let size = (what_is_taken_is_offered values).sizes start v t in omega (arith, size)

  first : Asks start plan one t at begun open_begun.path
  first = Asks.soon (at_round start v round.before open_v.path open_begun.path open_v.here open_begun.here (λ (y : PathState Carried). BeginsTurn t y.agenda) (begins_anew t open_v.path))
      (let modest = at_turn start v Turn.Round open_v.path open_begun.path open_v.here open_begun.here ModestOn modest_between t in let up = modest.up in let low = taken in omega (arith, low, up))

  is : begun ++ steps_of round.order ≡ w
  is = append_assoc v (Turn.Round ∷ []) (steps_of round.order) ∙ sym round.is

  last : Asks start plan one t at w p
  last = subst (λ ts. Asks start plan one t at ts p) is
      (carried_with start (Asks start plan one t at) (asks_on start plan one t at) begun (steps_of round.order) round.stays_open.1 open_begun.path p open_begun.here (subst (λ ts. IsPathAt 0 (reached values start ts) p) (sym is) here) first)

  asks_all : at ≤ offer (end_at t p)
  asks_all = by last
    where
      by : Asks start plan one t at w p → at ≤ offer (end_at t p)
      by (Asks.soon begun low) = absurd (subst (BeginsTurn t) (silent start w p round.over here) begun)
      by (Asks.knows known low) = known

pub each_round_asks : EachRoundAsks
each_round_asks start plan s v w one round p here = asks_all start plan s v w one round p here
