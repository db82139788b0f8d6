-- By which token octets that come to B ask to join.
use Rattle.std.proofs.Common.{◌≡◌, refl, sym, ◌∙◌, ap, subst, ℕ, Option, Some, None, option_map, List, ◌∷◌}
use Rattle.std.proofs.lemmas.Option.{same_Some}
use Rattle.sides.specs.declared.side.Side.TheVariants.{B}
use Rattle.sides.specs.Side.{peer}
use Rattle.key_material.specs.KeyDigest.{token_of}
use Rattle.segment_wire.specs.declared.head.Addresses.{Addresses}
use Rattle.segment_wire.specs.Paths.{addresses_from}
use Rattle.link_model.specs.declared.flight.Due.{Due}
use Rattle.link_model.specs.declared.flight.Flight.{Flight}
use Rattle.link_model.specs.Steps.{arriving}
use Rattle.path_agenda.specs.declared.duty.Duty.{Duty}
use Rattle.path_agenda.specs.declared.duty.Duty.TheVariants as duties
use Rattle.path_agenda.specs.declared.duty.StepDuty.TheVariants as steps_of
use Rattle.path_core.specs.declared.events.Event.{Event}
use Rattle.path_core.specs.declared.events.Event.TheVariants as happenings
use Rattle.path_core.specs.Arrival.{expected_by, heard_in}
use Rattle.path_core.specs.Events.{next_event}
use Rattle.path_core.specs.Looking.{Arrived, arrived, arrived_as, copy_arriving, first_arrival}
use Rattle.path_core.specs.Octets.{octets}
use Rattle.path_core.specs.State.{PathState, end_at, path_of}
use Rattle.world_laws.specs.declared.member.Member.TheVariants.{App, Path}
use Rattle.world_laws.specs.Actors.{Actor}
use Rattle.connection_table.specs.Routing.{join_token}
use Rattle.connection_table.proofs.Heard.{token_heard}
use Rattle.connection_table.specs.JoinTokens.{AsksByTokenNext, JoinsAskByTheToken, NextShowsToken, ShowsTokenNext}
use Rattle.connection_table.proofs.PathsNamed.{HasNumber, paths_have_their_numbers}
use Rattle.connection_table.proofs.TokensShown.{octets_show_the_token}

-- ---- a copy that comes to B, and asks to join by a token

module _ (key : ℕ) (p : PathState (List ℕ)) (shows : NextShowsToken octets key p) (numbered : path_of p ≡ p.profile.spelling.path) where
  copy_shows : (due : Due) (f : Flight (List ℕ)) (token : ℕ) → next_event p ≡ Some (happenings.Arrives due) → due.to ≡ B → arriving due p.link ≡ Some f
      → join_token (addresses_from (path_of p) (peer due.to)) f.carried ≡ Some token → token ≡ key
  copy_shows due f token next at_b there asks =
      token_heard p.profile.spelling (peer due.to) (expected_by (end_at due.to p)) key f.carried token
      (ap (λ (addresses : Addresses). join_token addresses f.carried)
      (sym (ap (λ n. addresses_from n (peer due.to)) numbered)) ∙ asks)
      (λ heard is. shows due heard next at_b (ap (λ o. heard_in octets due.to o p) there ∙ is))

  arrived_shows : (due : Due) (a : Arrived) (token : ℕ) → next_event p ≡ Some (happenings.Arrives due) → arrived due p ≡ Some a → a.to ≡ B
      → join_token a.addresses a.octets ≡ Some token → token ≡ key
  arrived_shows due a token next is to asks = by (arriving due p.link) refl is
    where
      by : (o : Option (Flight (List ℕ))) → arriving due p.link ≡ o → option_map (arrived_as (path_of p) due.to) o ≡ Some a → token ≡ key
      by None there is = cc
      by (Some f) there is =
          let same = same_Some (arrived_as (path_of p) due.to f) a is in
          copy_shows due f token next (ap (λ (x : Arrived). x.to) same ∙ to) there (subst (λ (x : Arrived). join_token x.addresses x.octets ≡ Some token) (sym same) asks)

  event_shows : (o : Option Event) (a : Arrived) (token : ℕ) → next_event p ≡ o → copy_arriving o p ≡ Some a → a.to ≡ B
      → join_token a.addresses a.octets ≡ Some token → token ≡ key
  event_shows None a token next is to asks = cc
  event_shows (Some (happenings.Joins tick)) a token next is to asks = cc
  event_shows (Some (happenings.Takes line)) a token next is to asks = cc
  event_shows (Some (happenings.Arrives due)) a token next is to asks = arrived_shows due a token next is to asks
  event_shows (Some (happenings.Fires s tick)) a token next is to asks = cc

  agenda_shows : (ds : List Duty) (a : Arrived) (token : ℕ) → first_arrival ds p ≡ Some a → a.to ≡ B → join_token a.addresses a.octets ≡ Some token → token ≡ key
  agenda_shows (duties.Step steps_of.Events ∷ ds) a token is to asks = event_shows (next_event p) a token refl is to asks
  agenda_shows _ a token is to asks = cc

-- ---- of a world

member_asks : (key : ℕ) (m : Actor (List ℕ)) → ShowsTokenNext octets key m → HasNumber octets m → AsksByTokenNext key m
member_asks key (App app) shows numbered = tt
member_asks key (Path p) shows numbered = λ a token is to asks. agenda_shows key p shows numbered p.agenda a token is to asks

pub joins_ask : JoinsAskByTheToken
joins_ask start turns size fit =
    let shows = octets_show_the_token start turns size fit in
    let numbers = paths_have_their_numbers octets start turns in
    record { each = λ actor c there. member_asks (token_of start.key_b) c.member (shows.each actor c there) (numbers.each actor c there) }
