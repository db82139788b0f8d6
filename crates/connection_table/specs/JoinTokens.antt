-- The token that a copy shows which comes to B, if it shows one, is that of B's key (RFC 8684, section 3.2).
use Rattle.std.specs.Prelude.{ℕ, ◌≡◌, Some, List, slice_get}
use Rattle.path_segments.specs.Heard.{HeardSegment}
use Rattle.sides.specs.declared.side.Side.TheVariants.{B}
use Rattle.key_material.specs.KeyDigest.{token_of}
use Rattle.link_model.specs.declared.flight.Due.{Due}
use Rattle.link_model.specs.Steps.{arriving}
use Rattle.path_core.specs.declared.events.Event.TheVariants.{Arrives}
use Rattle.path_core.specs.Codec.{Codec}
use Rattle.path_core.specs.Arrival.{heard_in}
use Rattle.path_core.specs.Events.{next_event}
use Rattle.path_core.specs.Looking.{Arrived, next_arrival}
use Rattle.path_core.specs.Octets.{octets}
use Rattle.path_core.specs.State.{PathState}
use Rattle.path_core.specs.Values.{values}
use Rattle.connection_table.specs.Routing.{join_token}
use Rattle.connection_table.specs.Tokens.{AllShowToken}
use Rattle.world_laws.specs.declared.member.Member.TheVariants.{App, Path}
use Rattle.world_laws.specs.Actors.{Actor, ActorCrew}
use Rattle.world_laws.specs.Laws.{Always}
use Rattle.world_laws.specs.Openings.{Start, opened_world}
use Rattle.world_laws.specs.Promises.{HasRoom, NumbersFit}
use Rattle.world_laws.specs.Worlds.{WorldState, Turn, world_run}

-- what is heard of a segment shows it, where it asks to join
abbrev pub HeardShowsToken : ℕ → HeardSegment → Type 0
HeardShowsToken token heard = AllShowToken token heard.options

module _ {C : Type 0} (k : Codec C) (token : ℕ) where
  -- the copy that comes to B next
  abbrev pub NextShowsToken : PathState C → Type 0
  NextShowsToken p = (due : Due) (heard : HeardSegment) → next_event p ≡ Some (Arrives due) → due.to ≡ B
      → heard_in k due.to (arriving due p.link) p ≡ Some heard → HeardShowsToken token heard

  abbrev pub ShowsTokenNext : Actor C → Type 0
  ShowsTokenNext (App a) = Unit {0}
  ShowsTokenNext (Path p) = NextShowsToken p

  -- the copy that arrives next on each path shows the token, where it asks to join
  pub record JoinsShowToken (w : WorldState C) : Type 0 where
    pub each : (actor : ℕ) (c : ActorCrew C) → slice_get w.crew actor ≡ Some c → ShowsTokenNext c.member

-- over segments as values, whatever the script does
abbrev pub ValuesShowTheToken : Type 0
ValuesShowTheToken = Always values (λ start w. JoinsShowToken values (token_of start.key_b) w)

-- over octets, where the numbers of the start fit
abbrev pub OctetsShowTheToken : Type 0
OctetsShowTheToken =
    (start : Start) (turns : List Turn) → HasRoom start → NumbersFit start
    → JoinsShowToken octets (token_of start.key_b) (world_run octets turns (opened_world start))

-- ---- by which token octets ask to join

-- the copy that comes to B next
abbrev pub AsksByToken : ℕ → PathState (List ℕ) → Type 0
AsksByToken token p =
    (copy : Arrived) (asked : ℕ) → next_arrival p ≡ Some copy → copy.to ≡ B → join_token copy.addresses copy.octets ≡ Some asked → asked ≡ token

abbrev pub AsksByTokenNext : ℕ → Actor (List ℕ) → Type 0
AsksByTokenNext token (App a) = Unit {0}
AsksByTokenNext token (Path p) = AsksByToken token p

-- on each path
pub record JoinsAskByToken (token : ℕ) (w : WorldState (List ℕ)) : Type 0 where
  pub each : (actor : ℕ) (c : ActorCrew (List ℕ)) → slice_get w.crew actor ≡ Some c → AsksByTokenNext token c.member

-- at every moment, where the numbers of the start fit
abbrev pub JoinsAskByTheToken : Type 0
JoinsAskByTheToken =
    (start : Start) (turns : List Turn) → HasRoom start → NumbersFit start
    → JoinsAskByToken (token_of start.key_b) (world_run octets turns (opened_world start))
