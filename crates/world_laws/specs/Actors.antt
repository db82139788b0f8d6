-- The actors of a connection: two applications and the paths. What the links of the paths carry is a type of its own.
use Rattle.std.specs.Prelude.{Bool, Option}
use Rattle.actor_desk.specs.declared.actor.Crew.{Crew}
use Rattle.actor_desk.specs.declared.ask.Ask.{Ask}
use Rattle.actor_desk.specs.declared.ask.Reply.{Reply}
use Rattle.actor_desk.specs.Words.{is_nil}
use Rattle.stream_apps.specs.Apps.{AppState}
use Rattle.stream_apps.specs.AppSteps.{app_asks_of, app_takes, app_next_round}
use Rattle.path_core.specs.Codec.{Codec}
use Rattle.path_core.specs.State.{PathState}
use Rattle.path_core.specs.Steps.{asks_of, takes, next_round}
use Rattle.world_laws.specs.declared.member.Member.{Member}
use Rattle.world_laws.specs.declared.member.Member.TheVariants.{App, Path}
use Rattle.world_laws.specs.Members.{of_kind, within_kind}

-- an application or a path
abbrev pub Actor : Type 0 → Type 0
Actor C = Member AppState (PathState C)

-- an actor with its pass and its steps
abbrev pub ActorCrew : Type 0 → Type 0
ActorCrew C = Crew (Actor C)

module _ {C : Type 0} where
  -- what the actor asks: nothing where its turn ended
  abbrev pub member_asks : Codec C → Actor C → Option Ask
  member_asks k = of_kind app_asks_of (asks_of k)

  -- the actor's turn ended
  abbrev pub is_over : Actor C → Bool
  is_over (App a) = is_nil a.agenda
  is_over (Path p) = is_nil p.agenda

  -- the actor takes a reply
  abbrev pub member_takes : Codec C → Reply → Actor C → Actor C
  member_takes k r = within_kind (app_takes r) (takes k r)

  -- the next round begins
  abbrev pub member_next : Actor C → Actor C
  member_next = within_kind app_next_round next_round
