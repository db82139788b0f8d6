-- A path that was whole is whole still, or one of its ends is dead: no state goes back.
use Rattle.std.proofs.Common.{◌≡◌, refl, subst, ◌⊎◌, ⊎_elim, inl, inr, ℕ, ◌+◌, ◌≤◌, arith, true}
use Rattle.sides.specs.declared.side.Side.{Side}
use Rattle.sides.specs.declared.side.Side.TheVariants.{A, B}
use Rattle.subflow_tcp.specs.States.{is_dead}
use Rattle.subflow_tcp.specs.declared.handshake.State.{State}
use Rattle.subflow_tcp.specs.declared.handshake.State.TheVariants as phase
use Rattle.path_core.specs.Codec.{Codec}
use Rattle.path_core.specs.Standing.{is_connected}
use Rattle.path_core.specs.State.{PathState, end_at}
use Rattle.world_laws.specs.declared.member.Member.TheVariants.{App, Path}
use Rattle.world_laws.specs.Actors.{Actor}
use Rattle.world_laws.specs.Worlds.{WorldState, world_run}
use Rattle.whole_paths.specs.AsFar.{IsActorAsFar, IsPathAsFar, stage}
use Rattle.whole_paths.specs.Finish.{AnEndDied, IsPathAt, IsWhole}
use Rattle.whole_paths.specs.StayingWhole.{WholePathsStayWhole}
use Rattle.whole_paths.proofs.GoesOn.{goes_on_so}
use Rattle.whole_paths.proofs.Straying.{connected_stage, end_far}

connected_or_dead : (state : State) → 3 ≤ stage state → (is_connected state ≡ true) ⊎ (is_dead state ≡ true)
connected_or_dead phase.Waiting low = absurd (omega (arith, low))
connected_or_dead phase.Listen low = absurd (omega (arith, low))
connected_or_dead phase.SynSent low = absurd (omega (arith, low))
connected_or_dead phase.SynReceived low = absurd (omega (arith, low))
connected_or_dead phase.Dead low = inr refl
connected_or_dead _ low = inl refl

module _ {C : Type 0} (number : ℕ) (v : WorldState C) (p q : PathState C) (here : IsPathAt number v q) (far : IsPathAsFar p q) (connected : (s : Side) → is_connected (end_at s p).tcp.state ≡ true)
    (clear : (s : Side) → (end_at s p).modes.clear ≡ true) where
  end_is : (s : Side) → (is_connected (end_at s q).tcp.state ≡ true) ⊎ (is_dead (end_at s q).tcp.state ≡ true)
  end_is s = connected_or_dead (end_at s q).tcp.state (let low = (connected_stage (end_at s p).tcp.state (connected s)).0 in let up = (end_far p q far s).subflow.state in omega (arith, low, up))

  both : is_connected q.a.tcp.state ≡ true → is_connected q.b.tcp.state ≡ true → (s : Side) → is_connected (end_at s q).tcp.state ≡ true
  both a b A = a
  both a b B = b

  path_stays : IsWhole number v ⊎ AnEndDied number v
  path_stays = ⊎_elim
      (λ a. ⊎_elim
      (λ b. inl (record { path = q; here = here; connected = both a b; clear = λ s. (end_far p q far s).clear (clear s) }))
      (λ dead. inr (record { path = q; here = here; side = B; dead = dead }))
      (end_is B))
      (λ dead. inr (record { path = q; here = here; side = A; dead = dead }))
      (end_is A)

pub whole_paths_stay_whole : {C : Type 0} (k : Codec C) → WholePathsStayWhole k
whole_paths_stay_whole {C} k w number more one =
    let then_on = (goes_on_so k w more).crew (2 + number) one.here.crew one.here.there in
    by then_on.0.member (λ q is. record { crew = then_on.0; there = then_on.1; is = is }) (subst (λ (m : Actor C). IsActorAsFar m then_on.0.member) one.here.is then_on.2.member)
  where
    v : WorldState C
    v = world_run k more w

    by : (m : Actor C) → ((q : PathState C) → m ≡ Path q → IsPathAt number v q) → IsActorAsFar (Path one.path) m → IsWhole number v ⊎ AnEndDied number v
    by (Path q) here far = path_stays number v one.path q (here q refl) far one.connected one.clear
    by (App a) here far = absurd far
