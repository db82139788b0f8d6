-- The segment that a path's next step hands to its link, as the trace has it.
use Rattle.std.proofs.Common.{◌≡◌, sym, ap, ◌∙◌, subst, ℕ, Option, Some, option_map, List}
use Rattle.std.specs.List.{slice_get}
use Rattle.std.specs.Option.{IfSome, option_and_then}
use Rattle.link_trace.specs.declared.sent.Sent.{Sent}
use Rattle.path_core.specs.Looking.{departing_as, first_sends, segment_sent}
use Rattle.path_core.specs.Said.{said_by}
use Rattle.path_core.specs.Shown.{shown_path}
use Rattle.path_core.specs.State.{PathState, path_of}
use Rattle.path_core.specs.Values.{Carried}
use Rattle.path_segments.specs.Spelled.{PlainSegment}
use Rattle.run_trace.specs.Trace.{sent_as, sent_by, sent_next}
use Rattle.sides.specs.declared.side.Side.{Side}
use Rattle.world_core.specs.Looking.{crew_path, member_path}
use Rattle.world_laws.proofs.Worlds.Casts.{map_there}
use Rattle.world_laws.specs.Actors.{Actor, ActorCrew}
use Rattle.world_laws.specs.Fresh.{shown_crew, shown_member, shown_world}
use Rattle.world_laws.specs.Openings.{Start}
use Rattle.world_laws.specs.Worlds.{WorldState}
use Rattle.world_laws.specs.declared.member.Member.TheVariants.{Path}
use Rattle.own_runs.proofs.Moments.{IsSpoken, Nothing, PathAlso, PathSpeaks, end_shown, first_same, path_sends, path_shown}
use Rattle.own_runs.proofs.Speaking.{ToSend}

-- what is handed over, octets for values
abbrev pub sent_of : PathState (List ℕ) → Option ToSend → Option Sent
sent_of q o = option_map (sent_as q) (option_map (departing_as q) o)

-- by the path's actor
pub next_is : (i : ℕ) (w : WorldState Carried) (c : ActorCrew Carried) (p : PathState Carried) → slice_get w.crew i ≡ Some c → c.member ≡ Path p
    → sent_next i (shown_world w) ≡ sent_of (shown_path p) (first_sends p.agenda p)
next_is i w c p there member =
    ap (λ (o : Option (ActorCrew (List ℕ))). option_and_then sent_by (crew_path o)) (map_there shown_crew w.crew i ∙ ap (option_map shown_crew) there)
    ∙ ap (λ (y : Actor Carried). option_and_then sent_by (member_path (shown_member y))) member
    ∙ ap (sent_of (shown_path p)) (first_same p.agenda p)

-- whatever else holds of it
abbrev pub only_spoken : (Q : ℕ → Side → PlainSegment → Type 0) (start : Start) (x : Sent) → IsSpoken Q start x → IsSpoken Nothing start x
only_spoken Q start x s = record { plan = s.plan; there = s.there; segment = s.segment; end = s.end; octets = s.octets; spoken = s.spoken; also = tt }

module _ (start : Start) (p : PathState Carried) (t : ToSend) (next : first_sends p.agenda p ≡ Some t) (speaks : PathSpeaks start p) where
  -- it is this one
  abbrev pub Own : ℕ → Side → PlainSegment → Type 0
  Own number s sg = sg ≡ segment_sent p t

  shown_same : segment_sent (shown_path p) t ≡ segment_sent p t
  shown_same = ap (said_by t.kind p.profile t.from) (sym (end_shown t.from p))

  own_next : PathAlso Own (shown_path p)
  own_next = subst (λ (o : Option ToSend). IfSome o (λ u. Own (path_of p) u.from (segment_sent (shown_path p) u))) (sym (first_same p.agenda p ∙ next)) shown_same

  pub spoken_next : IsSpoken Own start (sent_as (shown_path p) (departing_as (shown_path p) t))
  spoken_next =
      subst (λ (o : Option Sent). IfSome o (IsSpoken Own start)) (ap (sent_of (shown_path p)) (first_same p.agenda p ∙ next))
      (path_sends Own start (shown_path p) (path_shown start p speaks) own_next)
