-- Where a round is over an end has passed each record that came whole: its octets are kept, with their mapping.
use Rattle.std.proofs.Common.{◌≡◌, subst, ap, ◌⊎◌, ⊎_elim, ℕ, ◌<◌, ◌≤◌, arith, is_some, Some, List, [], le_refl}
use Rattle.std.specs.Prelude.{IsSome}
use Rattle.std.specs.List.{slice_get}
use Rattle.std.proofs.lemmas.Bool.{both_ways, cases_lt}
use Rattle.sides.specs.declared.side.Side.{Side}
use Rattle.sides.specs.Side.{peer}
use Rattle.dss_mapping.specs.Mappings.{mapping_at}
use Rattle.link_model.specs.declared.flight.Flight.{Flight}
use Rattle.subflow_send.specs.Records.{Record, end_of}
use Rattle.subflow_send.specs.declared.record.RecordKind.TheVariants.{Data}
use Rattle.subflow_recv.specs.Receiving.{octet_at}
use Rattle.path_agenda.specs.declared.heard.Heard.{Heard}
use Rattle.path_core.specs.Deliver.{failing_mapping}
use Rattle.path_core.specs.State.{PathState, end_at}
use Rattle.path_core.specs.Values.{Carried, values}
use Rattle.world_laws.specs.Actors.{ActorCrew}
use Rattle.world_laws.specs.Members.{HoldsOfKind}
use Rattle.world_laws.specs.Openings.{Start}
use Rattle.world_laws.specs.RoundDone.{reached}
use Rattle.world_laws.specs.Worlds.{Turn}
use Rattle.whole_paths.specs.Brought.{IsThere, IsToKeep}
use Rattle.whole_paths.specs.Brought.{IsThere as is_there}
use Rattle.whole_paths.specs.Came.{HasCome}
use Rattle.whole_paths.specs.InHand.{IsPartial}
use Rattle.whole_paths.specs.InTime.{ComesFrom}
use Rattle.whole_paths.specs.Mapped.{EndsAreLive, IsMapped, IsToLearn}
use Rattle.whole_paths.specs.Mapped.{IsMapped as is_mapped}
use Rattle.whole_paths.specs.Mending.{IsAllThereOf, IsThereBy}
use Rattle.whole_paths.specs.Mending.{IsThereBy as there_by}
use Rattle.whole_paths.specs.Mild.{EndsGoByMappings}
use Rattle.whole_paths.specs.OpenCourses.{IsOpenAfter}
use Rattle.whole_paths.specs.Passed.{HasPassed}
use Rattle.whole_paths.specs.RecordsPassed.{FirstRecordsArePassed, WholeRecordsArePassed}
use Rattle.whole_paths.specs.Straying.{IsOpen}
use Rattle.whole_paths.specs.WholeMappings.{HasRecord, NoneIsPartial}
use Rattle.whole_paths.proofs.Acking.{piece_some}
use Rattle.whole_paths.proofs.Came.{what_is_acknowledged_came}
use Rattle.whole_paths.proofs.Exchanges.{all_at}
use Rattle.whole_paths.proofs.InTime.{nothing_is_overdue}
use Rattle.whole_paths.proofs.Knowing.{what_is_told_is_known}
use Rattle.whole_paths.proofs.Mild.{mapping_is_kept}
use Rattle.whole_paths.proofs.Passing.{what_is_in_order_is_passed}
use Rattle.whole_paths.proofs.Reached.{EndsAreReached, each_is_reached, first_reached}
use Rattle.whole_paths.proofs.WholeMappings.{first_has, mappings_are_whole}

module _ (p : PathState Carried) (over : p.agenda ≡ []) (is_open : IsOpen p) (past : ComesFrom p.until p) (live : EndsAreLive p) (mapped : EndsGoByMappings p)
    (passed : HasPassed p) (whole : NoneIsPartial p) (s : Side) (r : Record) (is_one : HasRecord r (end_at s p)) (data_is : r.kind ≡ Data) (begins_before : r.pos ≤ (end_at (peer s) p).tcp.recv.edge) where
  abbrev t : Side
  t = peer s

  abbrev edge : ℕ
  edge = (end_at t p).tcp.recv.edge

  none_to_keep : IsToKeep t p.agenda → ⊥
  none_to_keep h = subst (IsToKeep t) over h

  none_to_learn : (items : List Heard) → IsToLearn t items p.agenda → ⊥
  none_to_learn items h = subst (IsToLearn t items) over h

  module _ (all : IsAllThereOf s r p) (behind : edge < end_of r) where
    -- an octet of it is kept
    octet : (pos : ℕ) → edge ≤ pos → pos < end_of r → (n : ℕ) × (octet_at pos (end_at t p).tcp.recv ≡ Some n)
    octet pos from low = let there = all pos (omega (arith, begins_before, from)) low in by there.0.0 there.0.1
      where
        by : (n : ℕ) → IsThere t pos n p → (n : ℕ) × (octet_at pos (end_at t p).tcp.recv ≡ Some n)
        by n (is_there.passed below) = absurd (omega (arith, below, from))
        by n (is_there.kept h) = (n, h.now)
        by n (is_there.held is keeps) = absurd (none_to_keep keeps)

    known : IsSome (mapping_at (end_at t p).receiving.mappings edge)
    known = by (all edge begins_before behind).1
      where
        by : IsMapped t edge p → IsSome (mapping_at (end_at t p).receiving.mappings edge)
        by (is_mapped.passed below) = absurd (omega (arith, below))
        by (is_mapped.known is) = is
        by (is_mapped.told mapping held names learns) = absurd (none_to_learn (end_at t p).treated.items learns)

    hinders : IsSome (failing_mapping p.profile (end_at t p)) ⊎ IsPartial t (end_of r) p
    hinders = piece_some t (octet edge (le_refl edge) behind).0 (end_of r) p behind (λ pos from low. ap is_some (octet pos from low).1) (live t) (octet edge (le_refl edge) behind).1 known
        ((mapped t).peer is_open.first) ((passed t (is_open.living t)).over over)

    not_behind : ⊥
    not_behind = ⊎_elim
        (λ fails. both_ways (is_some (failing_mapping p.profile (end_at t p))) (ap is_some (mapped t).right) fails)
        (λ partial. whole s r is_one data_is partial)
        hinders

  -- no copy of it is under way that was to come in this round
  all_there : (by : ℕ) → by < p.until → IsThereBy s r by p → IsAllThereOf s r p
  all_there by early (there_by.there h) = h
  all_there by early (there_by.comes h) = absurd (
      let from = all_at (λ (f : Flight Carried). p.until ≤ f.tick) p.link.under_way h.there.at h.there.item h.there.there past.copies in
      let same = ap (λ (f : Flight Carried). f.tick) h.there.holds in let soon = h.soon in omega (arith, from, same, soon, early))

  pub is_passed : (by : ℕ) → by < p.until → IsThereBy s r by p → end_of r ≤ edge
  is_passed by early h = ⊎_elim (λ behind. absurd (not_behind (all_there by early h) behind)) (λ low. low) (cases_lt edge (end_of r))

module _ (start : Start) (turns : List Turn) (h : IsOpenAfter start turns) where
  abbrev crew : ActorCrew Carried
  crew = h.here.crew

  there : slice_get (reached values start turns).crew 2 ≡ Some crew
  there = h.here.there

  of_path : (P : PathState Carried → Type 0) → HoldsOfKind (λ app. Unit {0}) P crew.member → P h.path
  of_path P held = subst (HoldsOfKind (λ app. Unit {0}) P) h.here.is held

pub whole_records_are_passed : WholeRecordsArePassed
whole_records_are_passed start turns mild h over s r is_one data_is begins by early soon = is_passed h.path over h.is_open
    (at (λ p. p.agenda ≡ [] → ComesFrom p.until p) ((nothing_is_overdue values start turns).over 2 one is) over)
    (at EndsAreLive (((what_is_told_is_known values).live start turns).each 2 one is)) (at EndsGoByMappings ((mapping_is_kept start turns mild).each 2 one is))
    (at HasPassed ((what_is_in_order_is_passed values start turns).each 2 one is)) (at NoneIsPartial (mappings_are_whole start turns mild one is)) s r is_one data_is begins by early soon
  where
    one : ActorCrew Carried
    one = crew start turns h

    is : slice_get (reached values start turns).crew 2 ≡ Some one
    is = there start turns h

    at : (P : PathState Carried → Type 0) → HoldsOfKind (λ app. Unit {0}) P one.member → P h.path
    at = of_path start turns h

-- SND.UNA isn't before the first record, nor is the peer's RCV.NXT
pub first_records_are_passed : FirstRecordsArePassed
first_records_are_passed start turns mild h over s r first data_is by early soon = whole_records_are_passed start turns mild h over s r (first_has r (end_at s h.path) first) data_is begins by early soon
  where
    begins : r.pos ≤ (end_at (peer s) h.path).tcp.recv.edge
    begins =
        let low = first_reached (end_at s h.path).tcp first.first first.others (of_path start turns h EndsAreReached ((each_is_reached values start turns).each 2 (crew start turns h) (there start turns h)) s) first.records in
        let at = first.same.pos in
        let more = (of_path start turns h HasCome ((what_is_acknowledged_came start turns).each 2 (crew start turns h) (there start turns h))).una s (h.is_open.living s) in
        omega (arith, low, at, more)
