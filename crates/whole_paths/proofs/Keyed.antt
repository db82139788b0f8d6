-- Where no option is taken away, no payload altered, and no side closes at once, the ends of path 0 have their peers' keys.
use Rattle.std.proofs.Common.{◌≡◌, refl, sym, subst, ap, ◌∙◌, ◌⊎◌, inl, inr, ℕ, ◌≤◌, arith, true, false, true≢false, is_some, List, ◌∷◌}
use Rattle.std.proofs.lemmas.Bool.{both_ways}
use Rattle.stream_lanes.proofs.Lists.{in_map}
use Rattle.subflow_tcp.specs.States.{is_dead}
use Rattle.subflow_tcp.specs.declared.handshake.State.{State}
use Rattle.subflow_tcp.specs.declared.handshake.State.TheVariants as phase
use Rattle.actor_desk.specs.Books.{books_in}
use Rattle.path_agenda.specs.declared.duty.Duty.{Duty}
use Rattle.path_agenda.specs.declared.duty.Duty.TheVariants as duties
use Rattle.path_agenda.specs.declared.duty.AskDuty.TheVariants as ask_duties
use Rattle.path_core.specs.Octets.{octets}
use Rattle.path_core.specs.State.{PathState}
use Rattle.path_core.specs.Values.{Carried, values}
use Rattle.world_laws.specs.declared.member.Member.TheVariants.{App, Path}
use Rattle.world_laws.specs.Actors.{Actor, ActorCrew}
use Rattle.world_laws.specs.Fresh.{shown_crew, shown_member, shown_world}
use Rattle.world_laws.specs.Members.{HoldsOfKind}
use Rattle.world_laws.specs.Openings.{opened_world}
use Rattle.world_laws.specs.Worlds.{WorldState, world_run}
use Rattle.world_laws.proofs.Joins.TokensAgree.{opened_met, run_met}
use Rattle.world_laws.proofs.Keys.AreDrawn.{is_past}
use Rattle.world_laws.proofs.Keys.ToldAreOwn.{MemberIs}
use Rattle.world_laws.proofs.Promises.Made.{run_fresh}
use Rattle.world_laws.proofs.Whole.Falls.{MemberUpright, each_upright}
use Rattle.world_laws.proofs.Whole.Happening.{Holds, Now, Next, treats_syn_ack}
use Rattle.whole_paths.specs.AsFar.{stage}
use Rattle.whole_paths.specs.Mild.{HasKeys, IsPromisedMildly, KeysAreKnown, treats_answer}

-- ---- A's end

past_so : (state : State) → 2 ≤ stage state → is_dead state ≡ false → is_past state ≡ true
past_so phase.Dead met living = absurd (true≢false living)
past_so phase.Waiting met living = absurd (omega (arith, met))
past_so phase.Listen met living = absurd (omega (arith, met))
past_so phase.SynSent met living = absurd (omega (arith, met))
past_so _ met living = refl

answer_first : (d : Duty) (ds : List Duty) → treats_syn_ack d ≡ true → treats_answer (d ∷ ds) ≡ true
answer_first (duties.Ask (ask_duties.SynAnswered s)) ds is = refl
answer_first (duties.Ask (ask_duties.PeerKey s)) ds is = refl
answer_first _ ds is = absurd (true≢false (sym is))

a_keyed : (p : PathState Carried) → Holds p → is_past p.a.tcp.state ≡ true → (is_some p.a.modes.peer_key ≡ true) ⊎ (treats_answer p.agenda ≡ true)
a_keyed p (Now q h) past = elim h.a.says [ inl knows ↦ inl knows | inr unmet ↦ absurd (both_ways (is_past p.a.tcp.state) unmet.past past) ]
a_keyed p (Next d ds q between now calm does passes) past = inr (ap treats_answer now ∙ answer_first d ds (between.met past))

-- ---- each path

abbrev KeyedMember : {C : Type 0} → Actor C → Type 0
KeyedMember = HoldsOfKind (λ app. Unit {0}) HasKeys

pub keys_are_known : IsPromisedMildly values (λ start w. KeysAreKnown w)
keys_are_known start turns mild = record {
  each = λ actor c there. by c.member ((each_upright start turns mild.plain mild.strips).each actor c there)
      ((run_met start.key_a start.key_b turns (opened_world start) (opened_met start)).keys.crew.each actor c there);
}
  where
    w : WorldState Carried
    w = world_run values turns (opened_world start)

    by : (m : Actor Carried) → MemberUpright m → MemberIs start.key_a start.key_b true (books_in w.books) m → KeyedMember m
    by (App a) upright keys = tt
    by (Path p) upright keys = λ first. record {
      a = λ met living. a_keyed p (upright.holds first) (past_so p.a.tcp.state met living);
      b = λ clear. ap is_some (keys.is.b.modes.meets refl clear);
    }

-- ---- over octets

shown_keyed : (m : Actor Carried) → KeyedMember m → KeyedMember (shown_member m)
shown_keyed (App a) h = tt
shown_keyed (Path p) h = λ first. let was = h first in record { a = was.a; b = was.b }

world_keyed : (w : WorldState Carried) → KeysAreKnown w → KeysAreKnown (shown_world w)
world_keyed w h = record {
  each = λ i c there.
      let found = in_map shown_crew w.crew i c there in
      subst (λ (y : ActorCrew (List ℕ)). KeyedMember y.member) found.2 (shown_keyed found.0.member (h.each i found.0 found.1));
}

pub keys_are_known_in_octets : IsPromisedMildly octets (λ start w. KeysAreKnown w)
keys_are_known_in_octets start turns mild =
    subst KeysAreKnown (sym (run_fresh start turns mild.plain.size mild.fit)) (world_keyed (world_run values turns (opened_world start)) (keys_are_known start turns mild))
