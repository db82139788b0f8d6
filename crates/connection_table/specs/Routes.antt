-- The connection at which a step is made: that of the join that comes to B, where one comes.
use Rattle.std.specs.Prelude.{ℕ, ◌≡◌, if◌then◌else◌, List, Option, Some, None, option_and_then}
use Rattle.sides.specs.declared.side.Side.{Side}
use Rattle.sides.specs.declared.side.Side.TheVariants.{A, B}
use Rattle.path_core.specs.Looking.{Arrived, next_arrival}
use Rattle.path_core.specs.State.{PathState}
use Rattle.world_core.specs.Looking.{arriving_at, listens_at, path_at}
use Rattle.world_laws.specs.Actors.{ActorCrew}
use Rattle.join_handshake.specs.declared.hearing.JoinSyn.{JoinSyn}
use Rattle.connection_table.specs.Routing.{join_token}
use Rattle.connection_table.specs.FoundJoins.{IsHeardAsJoin}
use Rattle.connection_table.specs.declared.route.Route.{Route}
use Rattle.connection_table.specs.declared.route.Route.TheVariants.{To, Unknown, NotJoin}
use Rattle.connection_table.specs.Tables.{Entry, IsShortEntry, IsTable, Stands, StandsAlone, entry_at, holder_of}

-- where a segment goes that asks to join by this token, if it does
abbrev pub to_holder : ℕ → Option ℕ → Route
to_holder token None = Unknown token
to_holder token (Some holder) = To holder

-- a segment with no token doesn't ask to join
abbrev pub route_by : Option ℕ → List Entry → Route
route_by None table = NotJoin
route_by (Some token) table = to_holder token (holder_of token table)

-- ---- the step of a connection

abbrev pub if_at_b : Side → Arrived → Option Arrived
if_at_b A arrived = None
if_at_b B arrived = Some arrived

abbrev pub only_at_b : Arrived → Option Arrived
only_at_b arrived = if_at_b arrived.to arrived

-- the copy that comes to B by the actor's next step, if one does
abbrev pub arriving_at_b : ℕ → List (ActorCrew (List ℕ)) → Option Arrived
arriving_at_b actor crew = option_and_then only_at_b (arriving_at actor crew)

-- B's listener is asked where B's end of the path listens: one that a SYN has opened takes its segments itself
abbrev pub arriving_at_listener : ℕ → List (ActorCrew (List ℕ)) → Option Arrived
arriving_at_listener actor crew = if listens_at actor crew then arriving_at_b actor crew else None

-- none comes where the connection has failed
abbrev pub arriving_in : ℕ → Entry → Option Arrived
arriving_in actor e = if e.world.failed then None else arriving_at_listener actor e.world.state.crew

-- the connection that an arrived copy goes to, by the token by which it asks to join
abbrev pub routed : Option Arrived → List Entry → Route
routed None table = NotJoin
routed (Some arrived) table = route_by (join_token arrived.addresses arrived.octets) table

-- the one that the token names; else the one whose step it is
abbrev pub home_by : ℕ → Route → ℕ
home_by connection (To home) = home
home_by connection (Unknown token) = connection
home_by connection NotJoin = connection

-- the connection at which the step is made
abbrev pub home_of : ℕ → ℕ → List Entry → ℕ
home_of connection actor table = home_by connection (routed (option_and_then (arriving_in actor) (entry_at connection table)) table)

-- ---- the law: a join finds its connection

-- Of a connection that stands alone, where both files are shorter than 2^31 - 2 octets,
-- each step is made at that connection: a join that comes to B is routed there by its token.
abbrev pub EachIsRoutedHome : Type 0
EachIsRoutedHome =
    (table : List Entry) (connection actor : ℕ) (e : Entry) → IsTable table → entry_at connection table ≡ Some e → StandsAlone e
    → IsShortEntry e → home_of connection actor table ≡ connection

-- ---- the law: the router finds each join

-- the copy that comes by an actor's next step, in which B's end of a path that joins hears a SYN without ACK that asks to join
pub record IsJoinNext (actor : ℕ) (e : Entry) (copy : Arrived) : Type 0 where
  pub path : PathState (List ℕ)
  pub path_is : path_at actor e.world.state.crew ≡ Some path
  pub next : next_arrival path ≡ Some copy
  pub asked : JoinSyn
  pub heard : IsHeardAsJoin path copy asked

-- Of a connection that stands, and alone, where both files are shorter than 2^31 - 2 octets, it goes to that connection.
abbrev pub EachJoinIsRouted : Type 0
EachJoinIsRouted =
    (table : List Entry) (connection actor : ℕ) (e : Entry) (copy : Arrived) → IsTable table → entry_at connection table ≡ Some e → Stands e
    → StandsAlone e → IsShortEntry e → IsJoinNext actor e copy → route_by (join_token copy.addresses copy.octets) table ≡ To connection
