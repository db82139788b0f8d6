-- A DATA_FIN that comes is heard in four rounds, so that the peer's side knows where the stream ends; or more is sent behind it.
use Rattle.std.proofs.Common.{◌≡◌, subst, ap, ◌⊎◌, inl, inr, ℕ, ◌+◌, ◌<◌, arith, true, List, []}
use Rattle.sides.specs.declared.side.Side.{Side}
use Rattle.sides.specs.Side.{peer}
use Rattle.path_agenda.specs.declared.duty.Duty.{Duty}
use Rattle.path_core.specs.State.{PathState, end_at}
use Rattle.path_core.specs.Values.{Carried, values}
use Rattle.world_laws.specs.Members.{HoldsOfKind}
use Rattle.world_laws.specs.Openings.{Start}
use Rattle.actor_desk.specs.Books.{books_in}
use Rattle.world_laws.specs.RoundDone.{reached}
use Rattle.world_laws.specs.Worlds.{Turn, WorldState}
use Rattle.whole_paths.specs.Closing.{IsFinHeard, IsToTell}
use Rattle.whole_paths.specs.Closing.{IsFinHeard as fin}
use Rattle.whole_paths.specs.ClosingKnown.{HasTheEnd}
use Rattle.whole_paths.specs.EndRounds.{EndIsKnown}
use Rattle.whole_paths.specs.Finish.{IsPathAt}
use Rattle.whole_paths.specs.FinsComing.{FinIsTold, FourRoundsEnd}
use Rattle.whole_paths.specs.FinsComing.{FinIsTold as told}
use Rattle.whole_paths.specs.Mild.{IsMildStart}
use Rattle.whole_paths.specs.SegmentRounds.{Rounds}
use Rattle.whole_paths.proofs.ClosingKnown.{who_heard_the_end_knows_it}
use Rattle.whole_paths.proofs.FinsComing.{data_fins_come_soon}
use Rattle.whole_paths.proofs.OpenTurns.{begun}
use Rattle.whole_paths.proofs.RoundSteps.{Between, between, carried, early, none_comes, over_after, rounds_later, silent}

-- where the turn is over a DATA_FIN that was heard came
none_to_tell : (s : Side) (ds : List Duty) → ds ≡ [] → IsToTell s ds → ⊥
none_to_tell s ds over is = subst (λ ds. IsToTell s ds) over is

has_come : (s : Side) (p : PathState Carried) → p.agenda ≡ [] → IsFinHeard s p → (end_at s p).sending.close.peer_came ≡ true
has_come s p over (fin.came is) = is
has_come s p over (fin.told place hear tell) = absurd (none_to_tell s p.agenda over tell)
has_come s p over (fin.heard some tell) = absurd (none_to_tell s p.agenda over tell)

module _ (start : Start) (mild : IsMildStart start) (v u : List Turn) (rounds : Rounds start 4 v u) (s : Side) (p q : PathState Carried)
    (here : IsPathAt 0 (reached values start v) p) (there : IsPathAt 0 (reached values start u) q) (position : ℕ) where
  abbrev at : List Turn → WorldState Carried
  at turns = reached values start turns

  on_the_way : Between start v u
  on_the_way = between start 3 v u rounds

  abbrev Comes : PathState Carried → Type 0
  Comes = FinIsTold s position (p.clock + 400)

  told_then : Comes p → Comes q
  told_then h = carried start Comes (λ turns turn before after. (data_fins_come_soon start turns turn (begun start turns turn (record { mild = mild; before = before; after = after })) s).comes position (p.clock + 400))
      v on_the_way.more on_the_way.stays_open p q here (subst (λ t. IsPathAt 0 (at t) q) on_the_way.is there) h

  knows : IsFinHeard (peer s) q → EndIsKnown start s u
  knows is =
      let has : HasTheEnd (books_in (at u).books) q = subst (HoldsOfKind (λ app. Unit {0}) (HasTheEnd (books_in (at u).books))) there.is ((who_heard_the_end_knows_it values start u).each 2 there.crew there.there) in
      has (peer s) (has_come (peer s) q (silent start u q (over_after start 3 v u rounds) there) is)

  ends : Comes q → EndIsKnown start s u ⊎ (position < (end_at s q).tcp.send.nxt)
  ends (told.heard is) = inl (knows is)
  ends (told.behind past) = inr past
  ends (told.comes c) =
      let tick = c.soon in
      let clock = early start v p here in
      let under_way = c.there in
      let first_tick = none_comes start u q (over_after start 3 v u rounds) there under_way.at under_way.item under_way.there in
      let same = ap (λ f. f.tick) under_way.holds in
      let all = rounds_later start 4 v u rounds in absurd (omega (arith, tick, clock, first_tick, same, all))

pub four_rounds_end : FourRoundsEnd
four_rounds_end start v u mild rounds s p q here there position h = ends start mild v u rounds s p q here there position (told_then start mild v u rounds s p q here there position h)
