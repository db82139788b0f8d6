-- What the segments of an exchange after an expiry mean to the ends, between living ends of the only path of a mild connection.
use Rattle.std.proofs.Common.{◌≡◌, refl, sym, subst, ap, ◌∙◌, ◌⊎◌, inl, inr, ⊎_elim, ℕ, ◌<◌, ◌≤◌, arith, true, Some, List, [], ◌∷◌, ◌++◌}
use Rattle.std.specs.List.{slice_get}
use Rattle.std.proofs.lemmas.Bool.{both_ways, cases_lt}
use Rattle.std.proofs.lemmas.Option.{same_Some}
use Rattle.sides.specs.declared.side.Side.{Side}
use Rattle.sides.specs.declared.side.Side.TheVariants.{A, B}
use Rattle.sides.specs.Side.{peer}
use Rattle.path_segments.specs.Spelled.{PlainSegment}
use Rattle.subflow_tcp.specs.declared.handshake.State.TheVariants as phase
use Rattle.subflow_tcp.specs.declared.verdicts.Meaning.{Meaning}
use Rattle.subflow_tcp.specs.declared.verdicts.Meaning.TheVariants as means
use Rattle.path_core.specs.State.{PathState, end_at}
use Rattle.path_core.specs.Values.{Carried, values}
use Rattle.world_laws.specs.declared.member.Member.TheVariants.{Path}
use Rattle.world_laws.specs.Actors.{Actor, ActorCrew}
use Rattle.world_laws.specs.Openings.{Start, opened_world}
use Rattle.world_laws.specs.RoundDone.{reached}
use Rattle.world_laws.specs.Worlds.{Turn, WorldState, after_turn}
use Rattle.world_laws.proofs.Weaving.WholeRounds.{run_append}
use Rattle.whole_paths.specs.AnsweredExpiries.{IsLivingTurn}
use Rattle.whole_paths.specs.AsFar.{IsActorAsFar, IsEndAsFar, stage}
use Rattle.whole_paths.specs.ComingCopies.{ends_row}
use Rattle.whole_paths.specs.ExpiriesInARow.{in_a_row}
use Rattle.whole_paths.specs.ExpiryMeanings.{BothArePast, EndsTheRow, IsWanted}
use Rattle.whole_paths.specs.ExpiryMeanings.{EndsTheRow as ends_by}
use Rattle.whole_paths.specs.ExpiryMeanings.{IsWanted as wanted}
use Rattle.whole_paths.specs.ExpirySegments.{AsksForAnAck}
use Rattle.whole_paths.specs.ExpirySegments.{AsksForAnAck as asks}
use Rattle.whole_paths.specs.Finish.{IsPathAt}
use Rattle.whole_paths.specs.Mild.{IsMildStart}
use Rattle.whole_paths.specs.Opening.{opens_to}
use Rattle.whole_paths.specs.OpeningStates.{GoByTheHandshake, IsOfA, IsOfB}
use Rattle.whole_paths.specs.OpeningStates.{IsOfA as of_a}
use Rattle.whole_paths.specs.OpeningStates.{IsOfB as of_b}
use Rattle.whole_paths.specs.Rising.{EndsOpen, OpensBy}
use Rattle.whole_paths.specs.Rising.{OpensBy as opens_by}
use Rattle.whole_paths.proofs.ByTurns.{Of}
use Rattle.whole_paths.proofs.EdgeRises.{each_rise_ends_the_row}
use Rattle.whole_paths.proofs.ExpirySegments.{counts}
use Rattle.whole_paths.proofs.GoesOn.{goes_on_so}
use Rattle.whole_paths.proofs.Handshaking.{Given, PathMet, each_met, given, never_joins, never_waits}
use Rattle.whole_paths.proofs.OpeningStates.{ends_go_by_the_handshake}
use Rattle.whole_paths.proofs.Rising.{ends_open_by_copies}
use Rattle.whole_paths.proofs.Straying.{end_far}
use Rattle.world_laws.proofs.Keys.WhatWakes.{next_happens}
use Rattle.path_core.specs.declared.events.Event.TheVariants as happenings

-- ---- a turn between living ends

module _ (start : Start) (turns : List Turn) (turn : Turn) (p q : PathState Carried) (t : IsLivingTurn start turns turn p q) (mild : IsMildStart start) where
  abbrev w : WorldState Carried
  w = reached values start turns

  pub between : (R : Actor Carried → Actor Carried → Type 0) → (d : ActorCrew Carried) × (slice_get (after_turn values turn w).crew 2 ≡ Some d) × R t.before.crew.member d.member → R (Path p) (Path q)
  between R found = subst (λ m. R (Path p) m) t.after.is (subst (λ m. R m t.after.crew.member) t.before.is
      (subst (λ (d : ActorCrew Carried). R t.before.crew.member d.member) (same_Some found.0 t.after.crew (sym found.1 ∙ t.after.there)) found.2))

  pub far : (s : Side) → IsEndAsFar (end_at s p) (end_at s q)
  far s = end_far p q (between IsActorAsFar (let found = (goes_on_so values w (turn ∷ [])).crew 2 t.before.crew t.before.there in (found.0, found.1, found.2.member))) s

  -- the moment after it
  pub then_there : IsPathAt 0 (reached values start (turns ++ turn ∷ [])) q
  then_there = subst (λ v. IsPathAt 0 v q) (sym (run_append values turns (turn ∷ []) (opened_world start))) t.after

  pub known : Given start p
  known = subst (Of (Given start)) t.before.is ((given start mild turns).each t.before.crew t.before.there)

  pub met : PathMet p
  met = subst (Of PathMet) t.before.is ((each_met start mild turns).each t.before.crew t.before.there)

  states : GoByTheHandshake q
  states = subst (Of (λ (x : PathState Carried). GoByTheHandshake x)) then_there.is ((ends_go_by_the_handshake values start (turns ++ turn ∷ [])).each 2 then_there.crew then_there.there)

  -- ---- the handshake

  -- what takes an end past it ends the row
  ends_row_so : (m : Meaning) → 3 ≤ opens_to m → ends_row m ≡ true
  ends_row_so (means.Accepts n) high = refl
  ends_row_so (means.Taken position n) high = refl
  ends_row_so means.Opens high = absurd (omega (arith, high))
  ends_row_so _ high = absurd (omega (arith, high))

  opens : (s : Side) → stage (end_at s p).tcp.state < 3 → 3 ≤ stage (end_at s q).tcp.state → in_a_row (end_at s q) ≡ 0
  opens s low high = ⊎_elim
      (λ dead. absurd (both_ways _ (t.lives s) dead))
      by
      (between (EndsOpen values) (ends_open_by_copies values w turn 2 t.before.crew t.before.there) 3 (omega arith) (omega arith) s low high)
    where
      by : OpensBy values 3 s p → in_a_row (end_at s q) ≡ 0
      by (opens_by.copy c to m is opening) = ⊎_elim
          (λ same. absurd (let stays = ap (λ (x : PathState Carried). stage (end_at s x).tcp.state) same in omega (arith, stays, low, high)))
          (λ none. subst (λ u. in_a_row (end_at u q) ≡ 0) to none)
          ((counts start turns turn p q t mild).ends c m is (ends_row_so m opening))
      by (opens_by.joins tick next) = absurd (never_waits start p known met (next_happens p (happenings.Joins tick) next))
      by (opens_by.duty d others is joins) = absurd (never_joins start p known met d others is joins)

  -- A's end opens still, or its row is over
  pub a_opens_still : p.a.tcp.state ≡ phase.SynSent → (q.a.tcp.state ≡ phase.SynSent) ⊎ (in_a_row q.a ≡ 0)
  a_opens_still was = by states.a
    where
      one : stage p.a.tcp.state ≡ 1
      one = ap stage was

      by : IsOfA q.a.tcp.state → (q.a.tcp.state ≡ phase.SynSent) ⊎ (in_a_row q.a ≡ 0)
      by (of_a.waiting is) = absurd (let none = ap stage is in let up = (far A).subflow.state in omega (arith, none, one, up))
      by (of_a.sent is) = inl is
      by (of_a.past high) = inr (opens A (omega (arith, one)) high)

  -- B's end is half-open still, or past the handshake, and its row over
  pub b_opens_still : p.b.tcp.state ≡ phase.SynReceived → (q.b.tcp.state ≡ phase.SynReceived) ⊎ ((3 ≤ stage q.b.tcp.state) × (in_a_row q.b ≡ 0))
  b_opens_still was = by states.b
    where
      two : stage p.b.tcp.state ≡ 2
      two = ap stage was

      by : IsOfB q.b.tcp.state → (q.b.tcp.state ≡ phase.SynReceived) ⊎ ((3 ≤ stage q.b.tcp.state) × (in_a_row q.b ≡ 0))
      by (of_b.listening is) = absurd (let none = ap stage is in let up = (far B).subflow.state in omega (arith, none, two, up))
      by (of_b.half_open is) = inl is
      by (of_b.past high) = inr (high, opens B (omega (arith, two)) high)

  -- ---- what is under way

  acks_later : (s : Side) (n : ℕ) → n ≤ (end_at s p).tcp.send.nxt → n ≤ (end_at s q).tcp.send.nxt
  acks_later s n low = let up = (far s).subflow.pushed in omega (arith, low, up)

  asks_later : (s : Side) (x : PlainSegment) → AsksForAnAck (end_at s p) x → AsksForAnAck (end_at s q) x
  asks_later s x (asks.occupies some) = asks.occupies some
  asks_later s x (asks.behind low none) = asks.behind (let up = (far s).subflow.received in omega (arith, low, up)) none
  asks_later s x (asks.ends next place checksum options low fair) = asks.ends next place checksum options low fair

  past_later : BothArePast p → BothArePast q
  past_later past s = let high = past s in let up = (far s).subflow.state in omega (arith, high, up)

  a_past_later : 3 ≤ stage p.a.tcp.state → 3 ≤ stage q.a.tcp.state
  a_past_later high = let up = (far A).subflow.state in omega (arith, high, up)

  abbrev pub Unless : Side → Type 0 → Type 0
  Unless s X = X ⊎ (in_a_row (end_at s q) ≡ 0)

  pub wants_on : (s : Side) (x : PlainSegment) → IsWanted s x p → Unless s (IsWanted s x q)
  wants_on s x (wanted.asks is was syn none) = ⊎_elim
      (λ still. inl (wanted.asks is still syn none))
      (λ over. inr (subst (λ u. in_a_row (end_at u q) ≡ 0) (sym is) over))
      (a_opens_still was)
  wants_on s x (wanted.answers is was syn acks sent) = ⊎_elim
      (λ still. inl (wanted.answers is still syn acks (acks_later A acks.up_to sent)))
      (λ over. inr (subst (λ u. in_a_row (end_at u q) ≡ 0) (sym is) over.1))
      (b_opens_still was)
  wants_on s x (wanted.first is high was h) = inl (⊎_elim
      (λ still. wanted.first is (a_past_later high) still (record { acks = h.acks; syn = h.syn; sent = acks_later B h.acks.up_to h.sent; position = h.position; occupies = h.occupies }))
      (λ over. wanted.past (both over.0) h.acks (asks.occupies h.occupies))
      (b_opens_still was))
    where
      both : 3 ≤ stage q.b.tcp.state → BothArePast q
      both there A = a_past_later high
      both there B = there
  wants_on s x (wanted.past past acks asks_so) = inl (wanted.past (past_later past) acks (asks_later (peer s) x asks_so))

  pub ends_on : (s : Side) (x : PlainSegment) → EndsTheRow s x p → Unless s (EndsTheRow s x q)
  ends_on s x (ends_by.accepted is was syn acks sent) = ⊎_elim
      (λ still. inl (ends_by.accepted is still syn acks (acks_later A acks.up_to sent)))
      (λ over. inr (subst (λ u. in_a_row (end_at u q) ≡ 0) (sym is) over))
      (a_opens_still was)
  ends_on s x (ends_by.heard h) = ⊎_elim
      (λ rises. inr (each_rise_ends_the_row start turns turn p q t.before t.after s (t.lives s) rises).none)
      (λ stays.
      let up = (far s).subflow.received in let high = h.opened in let on = (far s).subflow.state in
      let same : (end_at s q).tcp.recv.edge ≡ (end_at s p).tcp.recv.edge = omega (arith, up, stays) in inl (ends_by.heard (record {
        opened = omega (arith, high, on);
        acks = h.acks;
        from = (let from = h.from in omega (arith, from, same));
        within = ⊎_elim (λ inside. inl (omega (arith, inside, same))) (λ at. inr (let edge = at.0 in omega (arith, edge, same), at.1)) h.within;
      })))
      (cases_lt (end_at s p).tcp.recv.edge (end_at s q).tcp.recv.edge)
