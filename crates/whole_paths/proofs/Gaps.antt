-- A piece that comes to an end is brought with its mapping, also where it stands behind a gap.
use Rattle.std.proofs.Common.{◌≡◌, refl, sym, subst, ap, ◌∙◌, ℕ, ◌+◌, ◌<◌, ◌≤◌, false, true, Option, Some, List, [], ◌∷◌, length, map, if◌then◌else◌}
use Rattle.std.specs.Prelude.{option_map}
use Rattle.std.specs.List.{flat_map, list_any}
use Rattle.path_segments.specs.Laws.{meant_option}
use Rattle.path_segments.specs.Spelled.{PlainSegment}
use Rattle.path_segments.specs.declared.position.HeardPosition.TheVariants.{At}
use Rattle.sides.specs.declared.side.Side.{Side}
use Rattle.sides.specs.Side.{peer}
use Rattle.dss_mapping.specs.Mappings.{run_of}
use Rattle.dss_mapping.specs.Runs.{covers}
use Rattle.dss_mapping.specs.declared.kept.KeptMapping.{KeptMapping}
use Rattle.subflow_tcp.specs.Judging.{is_acceptable}
use Rattle.subflow_tcp.specs.Segments.{occupied}
use Rattle.subflow_tcp.specs.State.{is_at_limit}
use Rattle.subflow_tcp.specs.States.{is_dead}
use Rattle.path_core.specs.Arrival.{acknowledged_in, copy_of}
use Rattle.path_core.specs.DssIn.{HeardOption, held_in, held_of}
use Rattle.path_core.specs.End.{PathEnd}
use Rattle.path_core.specs.MpJoin.{is_joined}
use Rattle.path_core.specs.OptionsIn.{items_in, items_of, options_heard}
use Rattle.path_core.specs.State.{PathState, end_at}
use Rattle.path_core.specs.Values.{Carried, values}
use Rattle.whole_paths.specs.Arrivals.{Arrival, HasJoined, IsMappedPiece}
use Rattle.whole_paths.specs.AsFar.{stage}
use Rattle.whole_paths.specs.Brought.{Brings}
use Rattle.whole_paths.specs.Mapped.{says_mapping}
use Rattle.whole_paths.proofs.Arrivals.{SaysMapping, copy, is_taken, len_so, maps, piece, said, taken_so, within_so}

-- the segment's payload comes to this side's end, with its mapping
pub record ComesAhead (x : PlainSegment) (p : PathState Carried) (to : Side) : Type 0 where
  pub brings : Brings values p
  pub to_is : brings.copy.due.to ≡ to
  pub payload : brings.copy.segment.payload ≡ x.payload
  pub position : brings.position ≡ x.position
  pub mapping : KeptMapping
  pub others : List KeptMapping
  pub held : held_of p.profile brings.copy.due.to (options_heard (end_at brings.copy.due.to p) brings.copy.segment) ≡ mapping ∷ others
  pub says : list_any says_mapping (items_of (is_joined p.profile) brings.copy.due.to (options_heard (end_at brings.copy.due.to p) brings.copy.segment)) ≡ true
  pub names : (pos : ℕ) → x.position ≤ pos → pos < x.position + length x.payload → covers pos (run_of mapping) ≡ true

module _ (x : PlainSegment) (p : PathState Carried) (a : Arrival x p) (joins : HasJoined a.due.to p) (is_mapped : IsMappedPiece p.profile (peer a.due.to) x) where
  abbrev to : Side
  to = a.due.to

  abbrev e : PathEnd
  e = end_at to p

  abbrev says_so : SaysMapping p.profile a.due.to x
  says_so = maps x p a joins is_mapped

  pub comes_ahead : 2 ≤ stage e.tcp.state → is_dead e.tcp.state ≡ false → is_at_limit e.tcp ≡ false → e.tcp.recv.edge < x.position + length x.payload → x.position + length x.payload ≤ e.tcp.recv.edge + 1048576
      → (n : ℕ) → x.acknowledged ≡ Some n → 0 < n → n ≤ e.tcp.send.nxt → e.modes.identity ≡ false → ComesAhead x p to
  comes_ahead opened living limit new last n acks some sent mapped = record {
    brings = record {
      copy = copy x p a joins is_mapped;
      position = x.position;
      acknowledged = n;
      taken = is_taken x p a joins is_mapped x.position n (taken_so (copy_of (said x p a joins is_mapped)) e.tcp x.position n opened living limit (piece x p a joins is_mapped).syn (piece x p a joins is_mapped).rst refl
          (ap (λ (o : Option ℕ). acknowledged_in (option_map (λ n. At n) o)) acks) accepted some sent);
    };
    to_is = refl;
    payload = refl;
    position = refl;
    mapping = says_so.mapping;
    others = [];
    held = ap (λ (os : List HeardOption). flat_map (held_in p.profile to) os) options ∙ says_so.held;
    says = ap (λ (os : List HeardOption). list_any says_mapping (flat_map (items_in (is_joined p.profile) to (said x p a joins is_mapped).window) os)) options
        ∙ says_so.says (said x p a joins is_mapped).window;
    names = says_so.names;
  }
    where
      options : (said x p a joins is_mapped).options ≡ map meant_option x.options
      options = ap (λ b. if b then [] else map meant_option x.options) mapped

      accepted : is_acceptable e.tcp.recv.edge x.position (copy_of (said x p a joins is_mapped)) ≡ true
      accepted = within_so e.tcp.recv.edge x.position (occupied (copy_of (said x p a joins is_mapped))) (length x.payload)
          (subst (λ n. 0 < n) (sym (len_so x p a joins is_mapped)) (piece x p a joins is_mapped).some)
          (subst (λ n. e.tcp.recv.edge < x.position + n) (sym (len_so x p a joins is_mapped)) new)
          (subst (λ n. x.position + n ≤ e.tcp.recv.edge + 1048576) (sym (len_so x p a joins is_mapped)) last)
