-- Each join is routed to its own connection.
use Rattle.std.proofs.Common.{◌≡◌, refl, sym, ◌∙◌, ap, subst, ℕ, Bool, true, false, if◌then◌else◌, Option, Some, None, option_and_then, List}
use Rattle.std.specs.Prelude.{IsSomeAnd}
use Rattle.std.specs.List.{slice_get}
use Rattle.std.proofs.lemmas.Option.{same_Some}
use Rattle.sides.specs.declared.side.Side.{Side}
use Rattle.sides.specs.declared.side.Side.TheVariants.{A, B}
use Rattle.path_core.specs.Looking.{Arrived, next_arrival}
use Rattle.world_core.specs.Looking.{crew_path, listens_at, member_path}
use Rattle.world_core.specs.Logged.{all_turns}
use Rattle.world_laws.specs.declared.member.Member.TheVariants.{App, Path}
use Rattle.world_laws.specs.Actors.{Actor, ActorCrew}
use Rattle.world_laws.specs.Openings.{start_of}
use Rattle.world_laws.proofs.Promises.OfScripts.{scripts_fit}
use Rattle.connection_table.specs.Routing.{join_token}
use Rattle.connection_table.specs.FoundJoins.{FindsJoinNext, FindsJoins, IsHeardAsJoin}
use Rattle.connection_table.specs.JoinTokens.{AsksByTokenNext, JoinsAskByToken}
use Rattle.connection_table.proofs.JoinsAsked.{joins_ask}
use Rattle.connection_table.proofs.JoinsFound.{joins_are_found}
use Rattle.connection_table.specs.Routes.{EachIsRoutedHome, EachJoinIsRouted, IsJoinNext, arriving_at_b, arriving_at_listener, arriving_in, home_by, home_of, if_at_b, only_at_b, route_by, routed, to_holder}
use Rattle.connection_table.specs.declared.route.Route.TheVariants.{To}
use Rattle.connection_table.specs.Tables.{Entry, IsShortEntry, IsTable, Stands, StandsAlone, entry_at, holder_of, key_token}

-- what comes to B arrives there
at_b : (o : Option Arrived) (a : Arrived) → option_and_then only_at_b o ≡ Some a → (o ≡ Some a) × (a.to ≡ B)
at_b None a is = cc
at_b (Some x) a is = by x.to refl is
  where
    by : (s : Side) → x.to ≡ s → if_at_b s x ≡ Some a → (Some x ≡ Some a) × (a.to ≡ B)
    by A to is = cc
    by B to is = (is, cc)

-- the copy that comes to B by an actor's step asks by this token, where it asks
crew_asks : (key actor : ℕ) (crew : List (ActorCrew (List ℕ))) (a : Arrived) (token : ℕ)
    → ((c : ActorCrew (List ℕ)) → slice_get crew actor ≡ Some c → AsksByTokenNext key c.member)
    → arriving_at_b actor crew ≡ Some a → join_token a.addresses a.octets ≡ Some token → token ≡ key
crew_asks key actor crew a token asks is by_token = by (slice_get crew actor) refl (at_b (option_and_then next_arrival (crew_path (slice_get crew actor))) a is)
  where
    member : (m : Actor (List ℕ)) → AsksByTokenNext key m → option_and_then next_arrival (member_path m) ≡ Some a → a.to ≡ B → token ≡ key
    member (App app) asks is to = cc
    member (Path p) asks is to = asks a token is to by_token

    by : (o : Option (ActorCrew (List ℕ))) → slice_get crew actor ≡ o → (option_and_then next_arrival (crew_path o) ≡ Some a) × (a.to ≡ B) → token ≡ key
    by None there is = cc
    by (Some c) there is = member c.member (asks c there) is.0 is.1

pub each_is_routed_home : EachIsRoutedHome
each_is_routed_home table connection actor e sound there alone short =
    ap (λ (o : Option Entry). home_by connection (routed (option_and_then (arriving_in actor) o) table)) there ∙ by e.world.failed refl
  where
    key : ℕ
    key = key_token e.input.script

    asks : e.world.failed ≡ false → JoinsAskByToken key e.world.state
    asks stands =
        let starts = scripts_fit e.input.script e.input.file_a e.input.file_b short in
        let same = alone.is stands in
        subst (JoinsAskByToken key) (sym same) (joins_ask (start_of e.input.script e.input.file_a e.input.file_b) (all_turns e.turns) starts.0 starts.1)

    to : (a : Arrived) (o : Option ℕ) → join_token a.addresses a.octets ≡ o → e.world.failed ≡ false → arriving_at_b actor e.world.state.crew ≡ Some a
        → home_by connection (route_by o table) ≡ connection
    to a None none stands is = refl
    to a (Some token) by_token stands is =
        ap (λ t. home_by connection (to_holder t (holder_of t table)))
        (crew_asks key actor e.world.state.crew a token (λ c at. (asks stands).each actor c at) is by_token)
        ∙ ap (λ h. home_by connection (to_holder key h)) (sound.named connection e there)

    arriving_is : (o : Option Arrived) → arriving_at_b actor e.world.state.crew ≡ o → e.world.failed ≡ false → home_by connection (routed o table) ≡ connection
    arriving_is None is stands = refl
    arriving_is (Some a) is stands = to a (join_token a.addresses a.octets) refl stands is

    by_listening : (b : Bool) → e.world.failed ≡ false → home_by connection (routed (if b then arriving_at_b actor e.world.state.crew else None) table) ≡ connection
    by_listening true stands = arriving_is (arriving_at_b actor e.world.state.crew) refl stands
    by_listening false stands = refl

    by : (b : Bool) → e.world.failed ≡ b → home_by connection (routed (if b then None else arriving_at_listener actor e.world.state.crew) table) ≡ connection
    by true stands = refl
    by false stands = by_listening (listens_at actor e.world.state.crew) stands

-- ---- what B's end takes as a join

module _ (key actor : ℕ) (e : Entry) (copy : Arrived) (h : IsJoinNext actor e copy) where
  member_found : (m : Actor (List ℕ)) → FindsJoinNext m → AsksByTokenNext key m → member_path m ≡ Some h.path → join_token copy.addresses copy.octets ≡ Some key
  member_found (App app) finds asks is = cc
  member_found (Path p) finds asks is =
      let same = same_Some p h.path is in
      let next = subst (λ q. next_arrival q ≡ Some copy) (sym same) h.next in
      let found = finds copy h.asked next (subst (λ q. IsHeardAsJoin q copy h.asked) (sym same) h.heard) in
      found ∙ ap (λ n. Some n) (asks copy h.asked.token next h.heard.to found)

  join_found : FindsJoins e.world.state → JoinsAskByToken key e.world.state → join_token copy.addresses copy.octets ≡ Some key
  join_found finds asks = by (slice_get e.world.state.crew actor) refl h.path_is
    where
      by : (o : Option (ActorCrew (List ℕ))) → slice_get e.world.state.crew actor ≡ o → crew_path o ≡ Some h.path → join_token copy.addresses copy.octets ≡ Some key
      by None there is = cc
      by (Some c) there is = member_found c.member (finds.each actor c there) (asks.each actor c there) is

pub each_join_is_routed : EachJoinIsRouted
each_join_is_routed table connection actor e copy sound there stands alone short h =
    let starts = scripts_fit e.input.script e.input.file_a e.input.file_b short in
    let start = start_of e.input.script e.input.file_a e.input.file_b in
    let key : ℕ = key_token e.input.script in
    let same = alone.is stands in
    let finds : FindsJoins e.world.state = subst FindsJoins (sym same) (joins_are_found start (all_turns e.turns) starts.0 starts.1) in
    let asks : JoinsAskByToken key e.world.state = subst (JoinsAskByToken key) (sym same) (joins_ask start (all_turns e.turns) starts.0 starts.1) in
    ap (λ o. route_by o table) (join_found key actor e copy h finds asks) ∙ ap (λ o. to_holder key o) (sound.named connection e there)

-- of a connection that is there
pub short_stays_home : (table : List Entry) (connection actor : ℕ) → IsTable table → IsSomeAnd (entry_at connection table) StandsAlone
    → IsSomeAnd (entry_at connection table) (λ entry. IsShortEntry entry → home_of connection actor table ≡ connection)
short_stays_home table connection actor is alone = by (entry_at connection table) refl alone
  where
    by : (o : Option Entry) → entry_at connection table ≡ o → IsSomeAnd o StandsAlone → IsSomeAnd o (λ entry. IsShortEntry entry → home_of connection actor table ≡ connection)
    by None there alone = alone
    by (Some e) there alone = λ short. each_is_routed_home table connection actor e is there alone short
