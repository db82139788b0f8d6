-- Once the flow of an MP_CAPABLE is open B's key is known; and what answers such a flow makes it known.
use Rattle.std.proofs.Common.{ℕ, Bool, true, false, if◌then◌else◌, Option, Some, None, List, [], ◌∷◌, ◌++◌}
use Rattle.std.specs.Prelude.{IfSome}
use Rattle.capture_reader.specs.Seen.{Seen}
use Rattle.segment_wire.specs.Options.{option_octets}
use Rattle.seen_connections.specs.Asked.{first_asked}
use Rattle.seen_connections.specs.Connections.{IsThere, SeenFlows, answer_of, answered, begins, begun_with, ended, flow_after, gone_on, known_after, taken}
use Rattle.seen_connections.specs.Flows.{begun, counted, flow_between, is_between, last_that}
use Rattle.seen_connections.specs.Keys.{belongs_by}
use Rattle.seen_connections.specs.SameEnds.{ends_in}
use Rattle.seen_connections.specs.declared.asked.Answer.{Answer}
use Rattle.seen_connections.specs.declared.asked.Answer.TheVariants as answer
use Rattle.seen_connections.specs.declared.flow.Flow.{Flow}
use Rattle.seen_connections.specs.declared.flow.Opened.{Opened}
use Rattle.seen_connections.specs.declared.flow.Opening.{Opening}
use Rattle.seen_connections.specs.declared.flow.Opening.TheVariants as opening
use Rattle.seen_connections.specs.declared.flow_list.Found.{Found}
use Rattle.seen_connections.specs.declared.known_keys.KnownKey.{KnownKey}
use Rattle.own_runs.proofs.Own.{AnswerIs, Drawn, IsOwn}
use Rattle.own_runs.proofs.OwnFlows.{Each, FlowsOwn, counted_on, each_end, each_set, there_on, told}
use Rattle.own_runs.proofs.TokenFlows.{AnyKnown, any_known_after}

any_last : (known : List KnownKey) (one : KnownKey) → AnyKnown (known ++ one ∷ [])
any_last [] one = tt
any_last (first ∷ known) one = tt

-- a key is known where what an MP_CAPABLE asks for was answered
abbrev pub KnownIf : List KnownKey → Opening → Option Opened → Type 0
KnownIf known (opening.Capable checksums) (Some opened) = AnyKnown known
KnownIf known (opening.Capable checksums) None = Unit {0}
KnownIf known (opening.Join token nonce) opened = Unit {0}

abbrev pub IsKnown : List KnownKey → Flow → Type 0
IsKnown known flow = KnownIf known flow.opening flow.opened

none_yet : (known : List KnownKey) (o : Opening) → KnownIf known o None
none_yet known (opening.Capable checksums) = tt
none_yet known (opening.Join token nonce) = tt

any_if : (known : List KnownKey) (o : Opening) (opened : Option Opened) → AnyKnown known → KnownIf known o opened
any_if known (opening.Capable checksums) (Some opened) any = any
any_if known (opening.Capable checksums) None any = tt
any_if known (opening.Join token nonce) opened any = tt

known_stays : (state : SeenFlows) (a : Option Answer) (o : Opening) (opened : Option Opened) → KnownIf state.known o opened → KnownIf (known_after state a) o opened
known_stays state a (opening.Capable checksums) (Some opened) h = any_known_after state a h
known_stays state a (opening.Capable checksums) None h = tt
known_stays state a (opening.Join token nonce) opened h = tt

module _ (d : Drawn) where
  -- what an MP_CAPABLE is answered makes a key known
  pub answer_known : (path : ℕ) (state : SeenFlows) (checksums : Bool) (a : Answer) → AnswerIs d path (opening.Capable checksums) a → AnyKnown (known_after state (Some a))
  answer_known path state checksums (answer.Key key used) is = any_last state.known _
  answer_known path state checksums (answer.Join join) is = absurd is

  answered_known : (path : ℕ) (state : SeenFlows) (seen : Seen) (flow : Flow) (a : Option Answer) → IfSome a (AnswerIs d path flow.opening) → IsKnown state.known flow
      → IsKnown (known_after state a) (flow_after seen (answered state seen flow a) flow)
  answered_known path state seen flow None is h = h
  answered_known path state seen flow (Some a) is h = by flow.opening is
    where
      by : (o : Opening) → AnswerIs d path o a → KnownIf (known_after state (Some a)) o (answered state seen flow (Some a)).opened
      by (opening.Capable checksums) is = any_if (known_after state (Some a)) (opening.Capable checksums) (answered state seen flow (Some a)).opened (answer_known path state checksums a is)
      by (opening.Join token nonce) is = tt

  module _ (state : SeenFlows) (packet : ℕ) (seen : Seen) (own : IsOwn d seen) (h : FlowsOwn d state) (known : Each (IsKnown state.known) state.flows) where
    abbrev AllKnown : SeenFlows → Type 0
    AllKnown now = Each (IsKnown now.known) now.flows

    ended_known : (found : Option Found) → IsThere state.flows found → Each (IsKnown state.known) (ended found state.flows)
    ended_known None there = known
    ended_known (Some found) there =
        each_set (IsKnown state.known) state.flows found.index (record found.flow { is_over = true }) known (known found.index found.flow there)

    begun_known : (found : Option Found) (asked : Option Opening) → IsThere state.flows found → AllKnown (begun_with state packet seen found asked).now
    begun_known found None there = ended_known found there
    begun_known found (Some o) there =
        each_end (IsKnown state.known) state.flows (begun packet seen o (belongs_by o state.known)) known (none_yet state.known o)

    gone_known : (found : Option Found) → IsThere state.flows found → AllKnown (gone_on state packet seen true found).now
    gone_known None there = known
    gone_known (Some found) there =
        let was = h.flows found.index found.flow there in
        let it = counted seen.is_cut true found.flow in
        let on = counted_on d state packet seen own h was.0 found.flow was.1 in
        let a = answer_of seen it in
        each_set (IsKnown (known_after state a)) state.flows found.index (flow_after seen (answered state seen it a) it)
        (λ i flow at. known_stays state a flow.opening flow.opened (known i flow at))
        (answered_known was.0 state seen it a (told d state packet seen own h was.0 it on) (known found.index found.flow there))

    pub taken_known : AllKnown (taken state packet seen true).now
    taken_known = by (begins seen found)
      where
        found : Option Found
        found = flow_between (ends_in seen) state.flows

        there : IsThere state.flows found
        there = there_on d state.flows (last_that (is_between (ends_in seen)) 0 state.flows)

        asked : Option Opening
        asked = first_asked (option_octets seen.segment.options)

        by : (b : Bool) → AllKnown (if b then begun_with state packet seen found asked else gone_on state packet seen true found).now
        by true = begun_known found asked there
        by false = gone_known found there

    -- what is known stays known
    pub taken_any : AnyKnown state.known → AnyKnown (taken state packet seen true).now.known
    taken_any any = by (begins seen (flow_between (ends_in seen) state.flows))
      where
        begun_any : (found : Option Found) (asked : Option Opening) → AnyKnown (begun_with state packet seen found asked).now.known
        begun_any found None = any
        begun_any found (Some o) = any

        gone_any : (found : Option Found) → AnyKnown (gone_on state packet seen true found).now.known
        gone_any None = any
        gone_any (Some found) = any_known_after state (answer_of seen (counted seen.is_cut true found.flow)) any

        by : (b : Bool) → AnyKnown (if b then begun_with state packet seen (flow_between (ends_in seen) state.flows) (first_asked (option_octets seen.segment.options))
            else gone_on state packet seen true (flow_between (ends_in seen) state.flows)).now.known
        by true = begun_any (flow_between (ends_in seen) state.flows) (first_asked (option_octets seen.segment.options))
        by false = gone_any (flow_between (ends_in seen) state.flows)
