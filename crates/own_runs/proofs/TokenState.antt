-- The flows that are seen while the packets of a connection come, as far as they bear on tokens: A's SYN of path 0 begins a flow, the answer that shows
-- B's key makes it known, and no flow is ever over.
use Rattle.std.proofs.Common.{◌≡◌, refl, sym, ap, ◌∙◌, subst, ℕ, zero, suc, ◌+◌, ◌%◌, ◌^◌, ◌||◌, ◌&&◌, ◌==◌, nat_le, ◌⊎◌, ⊎_elim, not, Bool, true, false, if◌then◌else◌, Option, Some, None, is_none, is_some, List, [], ◌∷◌, ◌++◌, length, arith}
use Rattle.std.specs.Prelude.{IfSome}
use Rattle.std.specs.List.{slice_get}
use Rattle.std.specs.Option.{option_or}
use Rattle.std.proofs.lemmas.Bool.{and_parts, both_ways, eq-eqb, false≢true, le-leb}
use Rattle.capture_reader.specs.Seen.{Seen}
use Rattle.sides.specs.Side.{peer}
use Rattle.sides.specs.declared.side.Side.TheVariants.{A, B}
use Rattle.sides.specs.declared.side.Side.{Side}
use Rattle.segment_wire.specs.Options.{option_octets}
use Rattle.seen_connections.specs.Asked.{first_answer}
use Rattle.seen_connections.specs.Connections.{SeenFlows, answer_of, answered, begins, begun_with, ended, flow_after, gone_on, is_again_of, is_syn, known_after, learnt_by, nothing_seen, taken}
use Rattle.seen_connections.specs.EndsDecided.{same_end_decides}
use Rattle.seen_connections.specs.Flows.{behind, begun, counted, flow_between, goes, going_on, is_acknowledged_by, is_again, is_between, last_that, unless_over}
use Rattle.seen_connections.specs.Keys.{belongs_by}
use Rattle.seen_connections.specs.SameEnds.{ends_in, same_end, turned}
use Rattle.seen_connections.specs.declared.asked.Answer.{Answer}
use Rattle.seen_connections.specs.declared.connections.Keys.{Keys}
use Rattle.seen_connections.specs.declared.ends.Ends.{Ends}
use Rattle.seen_connections.specs.declared.flow.Flow.{Flow}
use Rattle.seen_connections.specs.declared.flow.Opened.{Opened}
use Rattle.seen_connections.specs.declared.flow.Opening.{Opening}
use Rattle.seen_connections.specs.declared.flow.Opening.TheVariants as opening
use Rattle.seen_connections.specs.declared.flow_list.Found.{Found}
use Rattle.seen_connections.specs.declared.known_keys.KnownKey.{KnownKey}
use Rattle.rule_book.specs.Judged.{with_key}
use Rattle.judge_laws.proofs.Standing.{some_same}
use Rattle.own_runs.proofs.KnownKeys.{IsKnown, KnownIf, answer_known, taken_any, taken_known}
use Rattle.own_runs.proofs.Openers.{openers_stay}
use Rattle.own_runs.proofs.Own.{AnswerIs, Drawn, IsOwn, end_of, first_seq, own_initial, same_place, told_same}
use Rattle.own_runs.proofs.OwnFlows.{Each, FlowOn, FlowsOwn, at_end, counted_on, each_end, each_set, key_so, taken_so, told}
use Rattle.own_runs.proofs.TokenFlows.{AnyKnown, AsksLate, IsNamed, any_known_after, any_more, taken_named, taken_right}
use Rattle.own_runs.proofs.TokenSegments.{Asked, ComesLate, IsBehind, IsCapable, Opens, Shows}

-- ---- the last flow between two ends

-- the last that passes a test is there
record IsLast (test : Flow → Bool) (n : ℕ) (flows : List Flow) (i : ℕ) : Type 0 where
  place : ℕ
  is : i ≡ n + place
  flow : Flow
  there : slice_get flows place ≡ Some flow
  passes : test flow ≡ true

last_there : (test : Flow → Bool) (n : ℕ) (flows : List Flow) (i : ℕ) → last_that test n flows ≡ Some i → IsLast test n flows i
last_there test n [] i e = cc
last_there test n (flow ∷ flows) i e = by (last_there test (n + 1) flows i) (last_that test (n + 1) flows) refl (test flow) refl e
  where
    by : (last_that test (n + 1) flows ≡ Some i → IsLast test (n + 1) flows i) → (o : Option ℕ) → last_that test (n + 1) flows ≡ o → (b : Bool) → test flow ≡ b
        → option_or o (if b then Some n else None) ≡ Some i → IsLast test n (flow ∷ flows) i
    by more (Some j) later b is same =
        let rest = more (later ∙ same) in
        record { place = suc rest.place; is = (let at = rest.is in omega (arith, at)); flow = rest.flow; there = rest.there; passes = rest.passes }
    by more None later true is same = record { place = 0; is = (let at : n ≡ i = some_same n i same in omega (arith, at)); flow = flow; there = refl; passes = is }
    by more None later false is same = cc

-- where one passes it, one is the last
last_some : (test : Flow → Bool) (n : ℕ) (flows : List Flow) (k : ℕ) (flow : Flow) → slice_get flows k ≡ Some flow → test flow ≡ true → is_some (last_that test n flows) ≡ true
last_some test n [] k flow there passes = absurd (none k there)
  where
    none : (k : ℕ) → slice_get [] k ≡ Some flow → ⊥
    none k e = cc
last_some test n (first ∷ flows) zero flow there passes =
    by (last_that test (n + 1) flows) (subst (λ (f : Flow). test f ≡ true) (sym (some_same first flow there)) passes)
  where
    by : (o : Option ℕ) → test first ≡ true → is_some (option_or o (if test first then Some n else None)) ≡ true
    by (Some j) is = refl
    by None is = ap (λ (b : Bool). is_some (if b then Some n else None)) is
last_some test n (first ∷ flows) (suc k) flow there passes = by (last_that test (n + 1) flows) (last_some test (n + 1) flows k flow there passes)
  where
    by : (o : Option ℕ) → is_some o ≡ true → is_some (option_or o (if test first then Some n else None)) ≡ true
    by (Some j) is = refl
    by None is = absurd (false≢true is)

-- it is between the ends, and there
pub found_there : (flows : List Flow) (ends : Ends) (found : Found) → flow_between ends flows ≡ Some found → (slice_get flows found.index ≡ Some found.flow) × (is_between ends found.flow ≡ true)
found_there flows ends found e = by (last_that (is_between ends) 0 flows) refl e
  where
    over : (i : ℕ) (flow : Flow) (b : Bool) → slice_get flows i ≡ Some flow → is_between ends flow ≡ true → (if b then None else Some (record { index = i; flow = flow })) ≡ Some found
        → (slice_get flows found.index ≡ Some found.flow) × (is_between ends found.flow ≡ true)
    over i flow true there passes e = cc
    over i flow false there passes e =
        let same : record { index = i; flow = flow } ≡ found = some_same (record { index = i; flow = flow }) found e in
        subst (λ (f : Found). (slice_get flows f.index ≡ Some f.flow) × (is_between ends f.flow ≡ true)) same (there, passes)

    at : (i : ℕ) (o : Option Flow) → slice_get flows i ≡ o → IfSome o (λ f. is_between ends f ≡ true) → unless_over i o ≡ Some found
        → (slice_get flows found.index ≡ Some found.flow) × (is_between ends found.flow ≡ true)
    at i None there passes e = cc
    at i (Some flow) there passes e = over i flow flow.is_over there passes e

    by : (o : Option ℕ) → last_that (is_between ends) 0 flows ≡ o → going_on flows o ≡ Some found → (slice_get flows found.index ≡ Some found.flow) × (is_between ends found.flow ≡ true)
    by None last e = cc
    by (Some i) last e =
        let it = last_there (is_between ends) 0 flows i last in
        let same : it.place ≡ i = (let at = it.is in omega (arith, at)) in
        let there : slice_get flows i ≡ Some it.flow = ap (slice_get flows) (sym same) ∙ it.there in
        at i (slice_get flows i) refl (subst (λ (o : Option Flow). IfSome o (λ f. is_between ends f ≡ true)) (sym there) it.passes) e

-- where one is, and none is over, one is found
pub some_found : (flows : List Flow) (ends : Ends) (k : ℕ) (flow : Flow) → Each (λ f. f.is_over ≡ false) flows → slice_get flows k ≡ Some flow → is_between ends flow ≡ true
    → (found : Found) × (flow_between ends flows ≡ Some found)
some_found flows ends k flow going there passes = by (last_that (is_between ends) 0 flows) refl (last_some (is_between ends) 0 flows k flow there passes)
  where
    by : (o : Option ℕ) → last_that (is_between ends) 0 flows ≡ o → is_some o ≡ true → (found : Found) × (going_on flows o ≡ Some found)
    by None last some = absurd (false≢true some)
    by (Some i) last some =
        let it = last_there (is_between ends) 0 flows i last in
        let same : it.place ≡ i = (let at = it.is in omega (arith, at)) in
        let at_i : slice_get flows i ≡ Some it.flow = ap (slice_get flows) (sym same) ∙ it.there in (
          record { index = i; flow = it.flow },
          ap (unless_over i) at_i ∙ ap (λ (b : Bool). if b then None else Some (record { index = i; flow = it.flow })) (going i it.flow at_i),
        )

pub all_right : (syn ack : Bool) (opened : Option Opened) (same right : Bool) (a : Option Answer) → syn ≡ true → ack ≡ true → opened ≡ None → same ≡ true → right ≡ true
    → (if not syn || (not ack || not (is_none opened)) then None else (if not same || not right then None else a)) ≡ a
all_right syn ack opened same right a e f g h k = rw (e, f, g, h, k) refl

module _ (d : Drawn) where
  -- a flow of path 0
  pub record HasFirst (flows : List Flow) : Type 0 where
    pub place : ℕ
    pub flow : Flow
    pub there : slice_get flows place ≡ Some flow
    pub opener : flow.opener ≡ end_of 0 A
    pub other : flow.other ≡ end_of 0 B

  -- where so much was seen
  pub record TokensHold (U T : Type 0) (state : SeenFlows) : Type 0 where
    pub own : FlowsOwn d state
    pub named : Each IsNamed state.flows
    pub known : Each (IsKnown state.known) state.flows
    pub going : Each (λ f. f.is_over ≡ false) state.flows
    pub first : Each (λ f. f.opener ≡ end_of 0 A → IsCapable f.opening) state.flows
    pub began : U → HasFirst state.flows
    pub any : T → AnyKnown state.known

  late_so : (T : Type 0) (known : List KnownKey) (o : Option Opening) → (T → AnyKnown known) → IfSome o (ComesLate T) → IfSome o (AsksLate known)
  late_so T known None any late = tt
  late_so T known (Some (opening.Capable used)) any late = tt
  late_so T known (Some (opening.Join token nonce)) any late = any late

  module _ (U T V W : Type 0) (state : SeenFlows) (packet : ℕ) (seen : Seen) (own : IsOwn d seen) (is : IsBehind U T V W d seen own) (h : TokensHold U T state) where
    abbrev found : Option Found
    found = flow_between (ends_in seen) state.flows

    abbrev now : SeenFlows
    now = (taken state packet seen true).now

    late : seen.segment.head.syn ≡ true → IfSome (Asked seen) (AsksLate state.known)
    late syn = late_so T state.known (Asked seen) h.any (is.late syn)

    -- no wrong token is told
    pub right_so : IfSome (taken state packet seen true).place (λ p. p.wrong_token ≡ None)
    right_so = taken_right d state packet seen own h.own h.named late

    -- a flow that is found is that of the segment's path
    pub same_path : (path : ℕ) (flow : Flow) → FlowOn d path flow → is_between (ends_in seen) flow ≡ true → path ≡ own.path
    same_path path flow f between = by (goes (ends_in seen) flow) refl between
      where
        by : (b : Bool) → goes (ends_in seen) flow ≡ b → b || goes (turned (ends_in seen)) flow ≡ true → path ≡ own.path
        by true is or =
            (told_same flow.opener seen.source path own.path A own.from f.opener own.source (and_parts (same_end flow.opener seen.source) _ is).0).0
        by false is or =
            (told_same flow.opener seen.destination path own.path A (peer own.from) f.opener own.destination (and_parts (same_end flow.opener seen.destination) _ or).0).0

    -- a segment that begins a flow found none
    pub begins_none : begins seen found ≡ true → found ≡ None
    begins_none begin = by found refl
      where
        syn : is_syn seen ≡ true
        syn = (and_parts (is_syn seen) _ begin).0

        plain : seen.segment.head.ack_set ≡ false
        plain = not_so seen.segment.head.ack_set (and_parts (not seen.segment.head.ack_set) _ (and_parts seen.segment.head.syn _ syn).1).0
          where
            not_so : (b : Bool) → not b ≡ true → b ≡ false
            not_so true is = absurd (false≢true is)
            not_so false is = refl

        of_a : (s : Side) → own.from ≡ s → own.from ≡ A
        of_a A from = from
        of_a B from = absurd (both_ways seen.segment.head.ack_set plain (is.acks from (and_parts seen.segment.head.syn _ syn).0))

        again : (path : ℕ) (flow : Flow) → FlowOn d path flow → path ≡ own.path → own.from ≡ A → is_again seen flow ≡ true
        again path flow f same from =
            ap (λ (b : Bool). b && seen.segment.head.seq == flow.number) ((same_end_decides seen.source flow.opener).1 (own.source ∙ ap (end_of own.path) from ∙ ap (λ (k : ℕ). end_of k A) (sym same) ∙ sym f.opener))
            ∙ eq-eqb seen.segment.head.seq flow.number
            ((own.starts (and_parts seen.segment.head.syn _ syn).0).0 ∙ ap (first_seq d own.path) from ∙ ap (λ (k : ℕ). first_seq d k A) (sym same) ∙ sym f.number)

        by : (o : Option Found) → found ≡ o → o ≡ None
        by None e = refl
        by (Some f) e =
            let there = found_there state.flows (ends_in seen) f e in
            let on = h.own.flows f.index f.flow there.0 in
            let repeats = again on.0 f.flow on.1 (same_path on.0 f.flow on.1 there.1) (of_a own.from refl) in
            absurd (both_ways (not (is_again seen f.flow)) (ap not repeats)
            (ap (λ (o : Option Found). not (is_again_of seen o)) (sym e) ∙ (and_parts (is_syn seen) _ begin).1))

    -- ---- what the flows are then

    abbrev Next : (Flow → Type 0) → Bool → Type 0
    Next P b = Each P (if b then begun_with state packet seen found (Asked seen) else gone_on state packet seen true found).now.flows

    begun_each : (P : Flow → Type 0) → Each P state.flows → ((o : Opening) → Asked seen ≡ Some o → P (begun packet seen o (belongs_by o state.known))) → begins seen found ≡ true → Next P true
    begun_each P each new begin = by (Asked seen) refl
      where
        by : (o : Option Opening) → Asked seen ≡ o → Each P (begun_with state packet seen found o).now.flows
        by None e = subst (λ (f : Option Found). Each P (ended f state.flows)) (sym (begins_none begin)) each
        by (Some o) e = each_end P state.flows (begun packet seen o (belongs_by o state.known)) each (new o e)

    gone_each : (P : Flow → Type 0) → Each P state.flows → ((f : Flow) (g : Flow) → g.opener ≡ f.opener → g.opening ≡ f.opening → g.is_over ≡ f.is_over → P f → P g) → Next P false
    gone_each P each stays = by found refl
      where
        by : (o : Option Found) → found ≡ o → Each P (gone_on state packet seen true o).now.flows
        by None e = each
        by (Some f) e =
            let there = found_there state.flows (ends_in seen) f e in
            let it = counted seen.is_cut true f.flow in
            each_set P state.flows f.index (flow_after seen (answered state seen it (answer_of seen it)) it) each (stays f.flow _ refl refl refl (each f.index f.flow there.0))

    each_next : (P : Flow → Type 0) → Each P state.flows → ((o : Opening) → seen.segment.head.syn ≡ true → Asked seen ≡ Some o → P (begun packet seen o (belongs_by o state.known)))
        → ((f : Flow) (g : Flow) → g.opener ≡ f.opener → g.opening ≡ f.opening → g.is_over ≡ f.is_over → P f → P g) → Each P now.flows
    each_next P each new stays = by (begins seen found) refl
      where
        by : (b : Bool) → begins seen found ≡ b → Next P b
        by true begin = begun_each P each (λ o e. new o (and_parts seen.segment.head.syn _ (and_parts (is_syn seen) _ begin).0).0 e) begin
        by false none = gone_each P each stays

    going_so : Each (λ f. f.is_over ≡ false) now.flows
    going_so = each_next (λ f. f.is_over ≡ false) h.going (λ o syn e. refl) (λ f g opener o over was. over ∙ was)

    first_so : Each (λ f. f.opener ≡ end_of 0 A → IsCapable f.opening) now.flows
    first_so =
        each_next (λ f. f.opener ≡ end_of 0 A → IsCapable f.opening) h.first
        (λ o syn e opener. subst (λ (a : Option Opening). IfSome a IsCapable) e (is.first (same_place own.path 0 own.from A (sym own.source ∙ opener)).0 syn))
        (λ f g opener o over was at. subst IsCapable (sym o) (was (sym opener ∙ at)))

    -- ---- what was seen

    stays_first : HasFirst state.flows → HasFirst now.flows
    stays_first one =
        let later = openers_stay state packet seen one.place one.flow one.there in
        let on = (taken_so d state packet seen own h.own).flows one.place later.0 later.1 in
        let opener : later.0.opener ≡ end_of 0 A = later.2 ∙ one.opener in
        let path = (same_place on.0 0 A A (sym on.1.opener ∙ opener)).0 in
        record { place = one.place; flow = later.0; there = later.1; opener = opener; other = on.1.other ∙ ap (λ (k : ℕ). end_of k B) path }

    -- A's SYN begins a flow, or is that of one once more
    opens_first : Opens d seen own → HasFirst now.flows
    opens_first opens = by (begins seen found) refl
      where
        syn : is_syn seen ≡ true
        syn = ap (λ (b : Bool). b && (not seen.segment.head.ack_set && not seen.segment.head.rst)) opens.syn ∙ ap (λ (b : Bool). not b && not seen.segment.head.rst) opens.ack ∙ ap not opens.rst

        from_zero : seen.source ≡ end_of 0 A
        from_zero = own.source ∙ ap (end_of own.path) opens.from ∙ ap (λ (k : ℕ). end_of k A) opens.path

        to_zero : seen.destination ≡ end_of 0 B
        to_zero = own.destination ∙ ap (λ (s : Side). end_of own.path (peer s)) opens.from ∙ ap (λ (k : ℕ). end_of k B) opens.path

        new : (o : Option Opening) → is_some o ≡ true → HasFirst (begun_with state packet seen found o).now.flows
        new None some = absurd (false≢true some)
        new (Some o) some = record {
          place = length state.flows;
          flow = begun packet seen o (belongs_by o state.known);
          there = at_end state.flows (begun packet seen o (belongs_by o state.known));
          opener = from_zero;
          other = to_zero;
        }

        old : is_again_of seen found ≡ true → HasFirst state.flows
        old repeats = at found refl repeats
          where
            at : (o : Option Found) → found ≡ o → is_again_of seen o ≡ true → HasFirst state.flows
            at None e repeats = absurd (false≢true repeats)
            at (Some f) e repeats =
                let there = found_there state.flows (ends_in seen) f e in
                let on = h.own.flows f.index f.flow there.0 in
                let path : on.0 ≡ 0 = same_path on.0 f.flow on.1 there.1 ∙ opens.path in
                record { place = f.index; flow = f.flow; there = there.0; opener = on.1.opener ∙ ap (λ (k : ℕ). end_of k A) path; other = on.1.other ∙ ap (λ (k : ℕ). end_of k B) path }

        unless : (b : Bool) → is_syn seen && not b ≡ false → b ≡ true
        unless true none = refl
        unless false none = absurd (both_ways (is_syn seen && true) none (ap (λ (x : Bool). x && true) syn))

        by : (b : Bool) → begins seen found ≡ b → HasFirst now.flows
        by true begin = subst (λ (b : Bool). HasFirst (if b then begun_with state packet seen found (Asked seen) else gone_on state packet seen true found).now.flows) (sym begin) (new (Asked seen) opens.asks)
        by false none = stays_first (old (unless (is_again_of seen found) none))

    -- the answer makes B's key known
    acked_so : (i ack number octets : ℕ) → ack ≡ (i + 1) % 2 ^ 32 → number ≡ (i + 0) % 2 ^ 32 → nat_le (behind ack ((number + 1) % 2 ^ 32)) octets ≡ true
    acked_so i ack number octets a n = le-leb (behind ack ((number + 1) % 2 ^ 32)) octets (omega (arith, a, n))

    shows_any : Shows d seen own → HasFirst state.flows → AnyKnown now.known
    shows_any shows one = by (some_found state.flows (ends_in seen) one.place one.flow h.going one.there between)
      where
        from_b : seen.source ≡ end_of 0 B
        from_b = own.source ∙ ap (end_of own.path) shows.from ∙ ap (λ (k : ℕ). end_of k B) shows.path

        to_a : seen.destination ≡ end_of 0 A
        to_a = own.destination ∙ ap (λ (s : Side). end_of own.path (peer s)) shows.from ∙ ap (λ (k : ℕ). end_of k A) shows.path

        between : is_between (ends_in seen) one.flow ≡ true
        between = or_true (goes (ends_in seen) one.flow) (goes (turned (ends_in seen)) one.flow)
            (ap (λ (b : Bool). b && same_end one.flow.other seen.source) ((same_end_decides one.flow.opener seen.destination).1 (one.opener ∙ sym to_a)) ∙ (same_end_decides one.flow.other seen.source).1 (one.other ∙ sym from_b))
          where
            or_true : (a b : Bool) → b ≡ true → a || b ≡ true
            or_true true b is = refl
            or_true false b is = is

        none_begins : begins seen found ≡ false
        none_begins = ap (λ (b : Bool). (seen.segment.head.syn && (not b && not seen.segment.head.rst)) && not (is_again_of seen found)) shows.ack ∙ by seen.segment.head.syn
          where
            by : (b : Bool) → (b && false) && not (is_again_of seen found) ≡ false
            by true = refl
            by false = refl

        -- of the flow that is found
        follows : (f : Found) → found ≡ Some f → AnyKnown (gone_on state packet seen true (Some f)).now.known
        follows f e = opened it.opened refl
          where
            there : (slice_get state.flows f.index ≡ Some f.flow) × (is_between (ends_in seen) f.flow ≡ true)
            there = found_there state.flows (ends_in seen) f e

            it : Flow
            it = counted seen.is_cut true f.flow

            on : (path : ℕ) × FlowOn d path f.flow
            on = h.own.flows f.index f.flow there.0

            path : on.0 ≡ 0
            path = same_path on.0 f.flow on.1 there.1 ∙ shows.path

            capable : IsCapable it.opening
            capable = h.first f.index f.flow there.0 (on.1.opener ∙ ap (λ (k : ℕ). end_of k A) path)

            source : same_end seen.source it.other ≡ true
            source = (same_end_decides seen.source it.other).1 (from_b ∙ sym (on.1.other ∙ ap (λ (k : ℕ). end_of k B) path))

            acked : is_acknowledged_by seen.segment.head.ack it ≡ true
            acked = acked_so (own_initial d 0 A) seen.segment.head.ack it.number it.syn_octets shows.number (on.1.number ∙ ap (λ (k : ℕ). first_seq d k A) path)

            answer : it.opened ≡ None → answer_of seen it ≡ first_answer it.opening (option_octets seen.segment.options)
            answer none =
                all_right seen.segment.head.syn seen.segment.head.ack_set it.opened (same_end seen.source it.other) (is_acknowledged_by seen.segment.head.ack it)
                (first_answer it.opening (option_octets seen.segment.options)) shows.syn shows.ack none source acked

            told_key : (o : Opening) → o ≡ it.opening → IsCapable o → (a : Option Answer) → answer_of seen it ≡ a → it.opened ≡ None → AnyKnown (known_after state a)
            told_key (opening.Join token nonce) same asks a e none = absurd asks
            told_key (opening.Capable used) same asks None e none =
                absurd (both_ways _ (ap is_some (sym (answer none) ∙ e)) (ap (λ (o : Opening). is_some (first_answer o (option_octets seen.segment.options))) (sym same) ∙ shows.answers used))
            told_key (opening.Capable used) same asks (Some a) e none =
                let on_it = counted_on d state packet seen own h.own on.0 f.flow on.1 in
                answer_known d on.0 state used a
                (subst (λ (o : Opening). AnswerIs d on.0 o a) (sym same) (subst (λ (x : Option Answer). IfSome x (AnswerIs d on.0 it.opening)) e (told d state packet seen own h.own on.0 it on_it)))

            was_known : (o : Opening) (opened : Option Opened) → IsCapable o → is_some opened ≡ true → KnownIf state.known o opened → AnyKnown state.known
            was_known (opening.Join token nonce) opened asks some known = absurd asks
            was_known (opening.Capable used) None asks some known = absurd (false≢true some)
            was_known (opening.Capable used) (Some opened) asks some known = known

            opened : (o : Option Opened) → it.opened ≡ o → AnyKnown (known_after state (answer_of seen it))
            opened None none = told_key it.opening refl capable (answer_of seen it) refl none
            opened (Some o) some =
                any_after (answer_of seen it) (was_known it.opening it.opened capable (ap is_some some) (h.known f.index f.flow there.0))
              where
                any_after : (a : Option Answer) → AnyKnown state.known → AnyKnown (known_after state a)
                any_after a any = any_known_after state a any

        by : (found_one : (f : Found) × (found ≡ Some f)) → AnyKnown now.known
        by one =
            subst (λ (b : Bool). AnyKnown (if b then begun_with state packet seen found (Asked seen) else gone_on state packet seen true found).now.known) (sym none_begins)
            (subst (λ (o : Option Found). AnyKnown (gone_on state packet seen true o).now.known) (sym one.1) (follows one.0 one.1))

    pub taken_hold : TokensHold (U ⊎ V) (T ⊎ W) now
    taken_hold = record {
      own = taken_so d state packet seen own h.own;
      named = taken_named d state packet seen own h.own h.named late;
      known = taken_known d state packet seen own h.own h.known;
      going = going_so;
      first = first_so;
      began = λ was. ⊎_elim (λ u. stays_first (h.began u)) (λ v. opens_first (is.opens v)) was;
      any = λ was. ⊎_elim (λ t. taken_any d state packet seen own h.own h.known (h.any t)) (λ w. let it = is.shows w in shows_any it.0 (h.began it.1)) was;
    }

  -- ---- A's key

  known_more : (known more : List KnownKey) (o : Opening) (opened : Option Opened) → KnownIf known o opened → KnownIf (known ++ more) o opened
  known_more known more (opening.Capable used) (Some opened) h = any_more known more h
  known_more known more (opening.Capable used) None h = tt
  known_more known more (opening.Join token nonce) opened h = tt

  learnt_hold : (U T : Type 0) (connection a : ℕ) (keys : Option Keys) (state : SeenFlows) → FlowsOwn d (learnt_by state connection a keys) → TokensHold U T state → TokensHold U T (learnt_by state connection a keys)
  learnt_hold U T connection a None state own h = h
  learnt_hold U T connection a (Some keys) state own h = record {
    own = own;
    named = h.named;
    known = λ i flow at. known_more state.known _ flow.opening flow.opened (h.known i flow at);
    going = h.going;
    first = h.first;
    began = h.began;
    any = λ was. any_more state.known _ (h.any was);
  }

  pub key_hold : (U T : Type 0) (connection : ℕ) (before told : Option ℕ) (state : SeenFlows) → IfSome told (λ key. key ≡ d.key_a) → TokensHold U T state
      → TokensHold U T (with_key connection before told state)
  key_hold U T connection None (Some a) state is h =
      learnt_hold U T connection a (slice_get state.connections connection) state (key_so d connection None (Some a) state is h.own) h
  key_hold U T connection None None state is h = h
  key_hold U T connection (Some known) None state is h = h
  key_hold U T connection (Some known) (Some a) state is h = h

  pub nothing_holds : TokensHold ⊥ ⊥ nothing_seen
  nothing_holds = record {
    own = record { flows = λ i flow at. absurd (none i at); connections = λ i keys at. absurd (none i at); known = refl };
    named = λ i flow at. absurd (none i at);
    known = λ i flow at. absurd (none i at);
    going = λ i flow at. absurd (none i at);
    first = λ i flow at. absurd (none i at);
    began = λ never. absurd never;
    any = λ never. absurd never;
  }
    where
      none : {X : Type 0} {x : X} → (i : ℕ) → slice_get [] i ≡ Some x → ⊥
      none i e = cc
