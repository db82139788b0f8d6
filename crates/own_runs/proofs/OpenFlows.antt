-- Which flows of a connection of ours are there behind their SYNs, and which are open behind the answers to them. What is there stays, and what is
-- open stays open.
use Rattle.std.proofs.Common.{◌≡◌, refl, sym, ap, ◌∙◌, subst, ℕ, ◌+◌, ◌%◌, ◌^◌, ◌&&◌, ◌||◌, not, Bool, true, false, if◌then◌else◌, Option, Some, None, is_none, is_some, List, length, nat_le, arith}
use Rattle.std.specs.Prelude.{IfSome}
use Rattle.std.specs.List.{slice_get}
use Rattle.std.proofs.lemmas.Bool.{both_ways, false≢true, le-leb}
use Rattle.capture_reader.specs.Seen.{Seen}
use Rattle.judge_laws.proofs.Books.{set_there}
use Rattle.judge_laws.proofs.Flows.{taken_flows}
use Rattle.judge_laws.proofs.Standing.{some_same}
use Rattle.segment_wire.specs.Options.{option_octets}
use Rattle.seen_connections.specs.Asked.{first_answer}
use Rattle.seen_connections.specs.Connections.{SeenFlows, answer_of, answered, begins, begun_with, ended, flow_after, gone_on, is_again_of, is_syn, opened_by, taken, tied, wrong_token}
use Rattle.seen_connections.specs.EndsDecided.{same_end_decides}
use Rattle.seen_connections.specs.Flows.{begun, behind, counted, flow_between, goes, is_acknowledged_by, is_between}
use Rattle.seen_connections.specs.Keys.{belongs_by}
use Rattle.seen_connections.specs.SameEnds.{ends_in, same_end, turned}
use Rattle.seen_connections.specs.declared.asked.Answer.TheVariants as answer
use Rattle.seen_connections.specs.declared.asked.Answer.{Answer}
use Rattle.seen_connections.specs.declared.connections.WrongToken.{WrongToken}
use Rattle.seen_connections.specs.declared.flow.Belongs.{Belongs}
use Rattle.seen_connections.specs.declared.flow.Flow.{Flow}
use Rattle.seen_connections.specs.declared.flow.Opened.{Opened}
use Rattle.seen_connections.specs.declared.flow.Opening.TheVariants as opening
use Rattle.seen_connections.specs.declared.flow.Opening.{Opening}
use Rattle.seen_connections.specs.declared.flow_list.Found.{Found}
use Rattle.sides.specs.Side.{peer}
use Rattle.sides.specs.declared.side.Side.TheVariants.{A, B}
use Rattle.sides.specs.declared.side.Side.{Side}
use Rattle.own_runs.proofs.OneConnection.{OneHolds}
use Rattle.own_runs.proofs.Openers.{openers_stay}
use Rattle.own_runs.proofs.Own.{AnswerIs, Drawn, IsOwn, end_of, own_initial, same_place}
use Rattle.own_runs.proofs.OwnFlows.{Each, FlowOn, at_end, counted_on, each_end, each_set, taken_so, told}
use Rattle.own_runs.proofs.TokenFlows.{IsNamed, NamesIts}
use Rattle.own_runs.proofs.TokenSegments.{Asked, IsBehind, IsCapable}
use Rattle.own_runs.proofs.TokenState.{TokensHold, all_right, begins_none, found_there, same_path, some_found}

-- where there is one
pub which_some : {X : Type 0} (o : Option X) → is_some o ≡ true → (x : X) × (o ≡ Some x)
which_some None some = absurd (false≢true some)
which_some (Some x) some = (x, refl)

-- a flow that is open is of a connection
abbrev pub OpenBelongs : Flow → Type 0
OpenBelongs f = is_some f.opened ≡ true → is_some f.belongs ≡ true

-- and of a path on which so much was sent
abbrev pub OpensBy : (ℕ → Type 0) → Flow → Type 0
OpensBy S f = (n : ℕ) → f.opener ≡ end_of n A → is_some f.opened ≡ true → S n

-- the flow of a path
pub record HasFlow (n : ℕ) (flows : List Flow) : Type 0 where
  pub place : ℕ
  pub flow : Flow
  pub there : slice_get flows place ≡ Some flow
  pub opener : flow.opener ≡ end_of n A
  pub other : flow.other ≡ end_of n B

-- and it is open
pub record IsOpenOn (n : ℕ) (flows : List Flow) : Type 0 where
  pub place : ℕ
  pub flow : Flow
  pub there : slice_get flows place ≡ Some flow
  pub opener : flow.opener ≡ end_of n A
  pub other : flow.other ≡ end_of n B
  pub opened : is_some flow.opened ≡ true

tied_open : (opened : Opened) (belongs : Option Belongs) (wrong : Option WrongToken) → is_some (tied opened belongs wrong).opened ≡ true
tied_open opened (Some belongs) wrong = refl
tied_open opened None (Some wrong) = refl
tied_open opened None None = refl

tied_belongs : (opened : Opened) (belongs : Option Belongs) (wrong : Option WrongToken) → is_some belongs ≡ true → is_some (tied opened belongs wrong).belongs ≡ true
tied_belongs opened (Some belongs) wrong some = refl
tied_belongs opened None wrong some = absurd (false≢true some)

-- what opens a flow for the first time, or finds it open
any_opened : (state : SeenFlows) (seen : Seen) (flow : Flow) (a : Option Answer) → is_some flow.opened ≡ true → is_some (answered state seen flow a).opened ≡ true
any_opened state seen flow None some = some
any_opened state seen flow (Some (answer.Key key checksums)) some = refl
any_opened state seen flow (Some (answer.Join join)) some = tied_open (opened_by seen join.answer) flow.belongs (wrong_token 0 state.connections flow.first join)

some_opened : (state : SeenFlows) (seen : Seen) (flow : Flow) (a : Option Answer) → is_some a ≡ true → is_some (answered state seen flow a).opened ≡ true
some_opened state seen flow None some = absurd (false≢true some)
some_opened state seen flow (Some (answer.Key key checksums)) some = refl
some_opened state seen flow (Some (answer.Join join)) some = tied_open (opened_by seen join.answer) flow.belongs (wrong_token 0 state.connections flow.first join)

acked_so : (i ack number octets : ℕ) → ack ≡ (i + 1) % 2 ^ 32 → number ≡ (i + 0) % 2 ^ 32 → nat_le (behind ack ((number + 1) % 2 ^ 32)) octets ≡ true
acked_so i ack number octets a n = le-leb (behind ack ((number + 1) % 2 ^ 32)) octets (omega (arith, a, n))

or_second : (a b : Bool) → b ≡ true → a || b ≡ true
or_second true b is = refl
or_second false b is = is

module _ (d : Drawn) (U T V W : Type 0) (state : SeenFlows) (packet : ℕ) (seen : Seen) (own : IsOwn d seen) (is : IsBehind U T V W d seen own) (h : TokensHold d U T state)
    (one : OneHolds d state) where
  abbrev found : Option Found
  found = flow_between (ends_in seen) state.flows

  abbrev now : SeenFlows
  now = (taken state packet seen true).now

  pub stays : (n : ℕ) → HasFlow n state.flows → HasFlow n now.flows
  stays n f =
      let later = openers_stay state packet seen f.place f.flow f.there in
      let on = (taken_so d state packet seen own h.own).flows f.place later.0 later.1 in
      let opener : later.0.opener ≡ end_of n A = later.2 ∙ f.opener in
      let path = (same_place on.0 n A A (sym on.1.opener ∙ opener)).0 in
      record { place = f.place; flow = later.0; there = later.1; opener = opener; other = on.1.other ∙ ap (λ (k : ℕ). end_of k B) path }

  -- ---- of a connection

  answer_belongs : (path : ℕ) (flow : Flow) (a : Option Answer) → IfSome a (AnswerIs d path flow.opening) → IsNamed flow → OpenBelongs flow
      → OpenBelongs (flow_after seen (answered state seen flow a) flow)
  answer_belongs path flow None is named belongs some = belongs some
  answer_belongs path flow (Some (answer.Key key checksums)) is named belongs some = refl
  answer_belongs path flow (Some (answer.Join join)) is named belongs some =
      tied_belongs (opened_by seen join.answer) flow.belongs (wrong_token 0 state.connections flow.first join) (by flow.opening is named)
    where
      by : (o : Opening) → AnswerIs d path o (answer.Join join) → NamesIts o flow.belongs → is_some flow.belongs ≡ true
      by (opening.Capable checksums) is named = absurd is
      by (opening.Join token nonce) is named = named

  pub opens_belong : Each OpenBelongs state.flows → Each OpenBelongs now.flows
  opens_belong each = by (begins seen found) refl
    where
      begun_each : (o : Option Opening) → begins seen found ≡ true → Each OpenBelongs (begun_with state packet seen found o).now.flows
      begun_each None begin = subst (λ (f : Option Found). Each OpenBelongs (ended f state.flows)) (sym (begins_none d U T V W state packet seen own is h begin)) each
      begun_each (Some o) begin = each_end OpenBelongs state.flows (begun packet seen o (belongs_by o state.known)) each (λ some. absurd (false≢true some))

      gone_each : (f : Option Found) → found ≡ f → Each OpenBelongs (gone_on state packet seen true f).now.flows
      gone_each None e = each
      gone_each (Some f) e =
          let there = (found_there state.flows (ends_in seen) f e).0 in
          let it = counted seen.is_cut true f.flow in
          let on = h.own.flows f.index f.flow there in
          each_set OpenBelongs state.flows f.index (flow_after seen (answered state seen it (answer_of seen it)) it) each
          (answer_belongs on.0 it (answer_of seen it) (told d state packet seen own h.own on.0 it (counted_on d state packet seen own h.own on.0 f.flow on.1)) (h.named f.index f.flow there)
          (each f.index f.flow there))

      by : (b : Bool) → begins seen found ≡ b → Each OpenBelongs (if b then begun_with state packet seen found (Asked seen) else gone_on state packet seen true found).now.flows
      by true begin = begun_each (Asked seen) begin
      by false none = gone_each found refl

  -- what opens a flow is a SYN of B's on its path
  module _ (S S_now : ℕ → Type 0) (keeps : (n : ℕ) → S n → S_now n) (new : own.from ≡ B → seen.segment.head.syn ≡ true → S_now own.path) where
    all_keep : (flows : List Flow) → Each (OpensBy S) flows → Each (OpensBy S_now) flows
    all_keep flows each i f at n opener some = keeps n (each i f at n opener some)

    answered_opens : (path : ℕ) (flow : Flow) (a : Option Answer) → answer_of seen flow ≡ a → FlowOn d path flow → OpensBy S flow → OpensBy S_now (flow_after seen (answered state seen flow a) flow)
    answered_opens path flow None none on opens n opener some = keeps n (opens n opener some)
    answered_opens path flow (Some a) is on opens n opener some =
        let parts = by seen.segment.head.syn seen.segment.head.ack_set (is_none flow.opened) (same_end seen.source flow.other) (is_acknowledged_by seen.segment.head.ack flow) is in
        let place = same_place own.path path own.from B (sym own.source ∙ (same_end_decides seen.source flow.other).0 parts.1 ∙ on.other) in
        let here : path ≡ n = (same_place path n A A (sym on.opener ∙ opener)).0 in
        subst S_now (place.0 ∙ here) (new place.1 parts.0)
      where
        by : (syn ack none source acked : Bool) → (if not syn || (not ack || not none) then None
            else (if not source || not acked then None else first_answer flow.opening (option_octets seen.segment.options))) ≡ Some a → (syn ≡ true) × (source ≡ true)
        by true true true true acked is = (refl, refl)
        by true true true false acked is = cc
        by true true false source acked is = cc
        by true false none source acked is = cc
        by false ack none source acked is = cc

    pub opens_only : Each (OpensBy S) state.flows → Each (OpensBy S_now) now.flows
    opens_only each = by (begins seen found) refl
      where
        begun_each : (o : Option Opening) → begins seen found ≡ true → Each (OpensBy S_now) (begun_with state packet seen found o).now.flows
        begun_each None begin = subst (λ (f : Option Found). Each (OpensBy S_now) (ended f state.flows)) (sym (begins_none d U T V W state packet seen own is h begin)) (all_keep state.flows each)
        begun_each (Some o) begin = each_end (OpensBy S_now) state.flows (begun packet seen o (belongs_by o state.known)) (all_keep state.flows each) (λ n opener some. absurd (false≢true some))

        gone_each : (f : Option Found) → found ≡ f → Each (OpensBy S_now) (gone_on state packet seen true f).now.flows
        gone_each None e = all_keep state.flows each
        gone_each (Some f) e =
            let there = (found_there state.flows (ends_in seen) f e).0 in
            let it = counted seen.is_cut true f.flow in
            let on = h.own.flows f.index f.flow there in
            each_set (OpensBy S_now) state.flows f.index (flow_after seen (answered state seen it (answer_of seen it)) it) (all_keep state.flows each)
            (answered_opens on.0 it (answer_of seen it) refl (counted_on d state packet seen own h.own on.0 f.flow on.1) (each f.index f.flow there))

        by : (b : Bool) → begins seen found ≡ b → Each (OpensBy S_now) (if b then begun_with state packet seen found (Asked seen) else gone_on state packet seen true found).now.flows
        by true begin = begun_each (Asked seen) begin
        by false none = gone_each found refl

  pub stays_open : (n : ℕ) → Each OpenBelongs state.flows → IsOpenOn n state.flows → IsOpenOn n now.flows
  stays_open n each f =
      let opened = which_some f.flow.opened f.opened in
      let belongs = which_some f.flow.belongs (each f.place f.flow f.there f.opened) in
      let later = taken_flows state packet seen true f.place f.flow belongs.0 opened.0 f.there belongs.1 opened.1 in
      let there = stays n (record { place = f.place; flow = f.flow; there = f.there; opener = f.opener; other = f.other }) in
      let kept = openers_stay state packet seen f.place f.flow f.there in
      let same : kept.0 ≡ later.0 = some_same kept.0 later.0 (sym kept.1 ∙ later.1) in
      let opener : later.0.opener ≡ end_of n A = ap (λ (x : Flow). x.opener) (sym same) ∙ kept.2 ∙ f.opener in
      let on = (taken_so d state packet seen own h.own).flows f.place later.0 later.1 in
      let path = (same_place on.0 n A A (sym on.1.opener ∙ opener)).0 in
      record {
        place = f.place;
        flow = later.0;
        there = later.1;
        opener = opener;
        other = on.1.other ∙ ap (λ (k : ℕ). end_of k B) path;
        opened = ap is_some later.3;
      }

  module _ (n : ℕ) (path : own.path ≡ n) where
    -- ---- A's SYN begins a flow, or is that of one once more

    pub opens_flow : own.from ≡ A → seen.segment.head.syn ≡ true → seen.segment.head.ack_set ≡ false → seen.segment.head.rst ≡ false → is_some (Asked seen) ≡ true → HasFlow n now.flows
    opens_flow from has_syn ack rst asks = by (begins seen found) refl
      where
        syn : is_syn seen ≡ true
        syn = ap (λ (b : Bool). b && (not seen.segment.head.ack_set && not seen.segment.head.rst)) has_syn ∙ ap (λ (b : Bool). not b && not seen.segment.head.rst) ack ∙ ap not rst

        from_a : seen.source ≡ end_of n A
        from_a = own.source ∙ ap (end_of own.path) from ∙ ap (λ (k : ℕ). end_of k A) path

        to_b : seen.destination ≡ end_of n B
        to_b = own.destination ∙ ap (λ (s : Side). end_of own.path (peer s)) from ∙ ap (λ (k : ℕ). end_of k B) path

        new : (o : Option Opening) → is_some o ≡ true → HasFlow n (begun_with state packet seen found o).now.flows
        new None some = absurd (false≢true some)
        new (Some o) some = record {
          place = length state.flows;
          flow = begun packet seen o (belongs_by o state.known);
          there = at_end state.flows (begun packet seen o (belongs_by o state.known));
          opener = from_a;
          other = to_b;
        }

        old : (o : Option Found) → found ≡ o → is_again_of seen o ≡ true → HasFlow n state.flows
        old None e repeats = absurd (false≢true repeats)
        old (Some f) e repeats =
            let there = found_there state.flows (ends_in seen) f e in
            let on = h.own.flows f.index f.flow there.0 in
            let at : on.0 ≡ n = same_path d U T V W state packet seen own is h on.0 f.flow on.1 there.1 ∙ path in
            record { place = f.index; flow = f.flow; there = there.0; opener = on.1.opener ∙ ap (λ (k : ℕ). end_of k A) at; other = on.1.other ∙ ap (λ (k : ℕ). end_of k B) at }

        unless : (b : Bool) → is_syn seen && not b ≡ false → b ≡ true
        unless true none = refl
        unless false none = absurd (both_ways (is_syn seen && true) none (ap (λ (x : Bool). x && true) syn))

        by : (b : Bool) → begins seen found ≡ b → HasFlow n now.flows
        by true begin = subst (λ (b : Bool). HasFlow n (if b then begun_with state packet seen found (Asked seen) else gone_on state packet seen true found).now.flows) (sym begin) (new (Asked seen) asks)
        by false none = stays n (old found refl (unless (is_again_of seen found) none))

    -- ---- the answer opens it

    -- what goes between the ends of a flow that is there finds one
    pub finds : HasFlow n state.flows → (it : Found) × (found ≡ Some it)
    finds f = some_found state.flows (ends_in seen) f.place f.flow h.going f.there (by own.from refl)
      where
        by : (s : Side) → own.from ≡ s → is_between (ends_in seen) f.flow ≡ true
        by A of_a =
            ap (λ (b : Bool). (b && same_end f.flow.other seen.destination) || goes (turned (ends_in seen)) f.flow)
            ((same_end_decides f.flow.opener seen.source).1 (f.opener ∙ ap (λ (k : ℕ). end_of k A) (sym path) ∙ sym (ap (end_of own.path) of_a) ∙ sym own.source))
            ∙ ap (λ (b : Bool). b || goes (turned (ends_in seen)) f.flow)
            ((same_end_decides f.flow.other seen.destination).1 (f.other ∙ ap (λ (k : ℕ). end_of k B) (sym path) ∙ sym (ap (λ (s : Side). end_of own.path (peer s)) of_a) ∙ sym own.destination))
        by B of_b =
            or_second (goes (ends_in seen) f.flow) (goes (turned (ends_in seen)) f.flow)
            (ap (λ (b : Bool). b && same_end f.flow.other seen.source)
            ((same_end_decides f.flow.opener seen.destination).1 (f.opener ∙ ap (λ (k : ℕ). end_of k A) (sym path) ∙ sym (ap (λ (s : Side). end_of own.path (peer s)) of_b) ∙ sym own.destination))
            ∙ (same_end_decides f.flow.other seen.source).1 (f.other ∙ ap (λ (k : ℕ). end_of k B) (sym path) ∙ sym (ap (end_of own.path) of_b) ∙ sym own.source))

    -- a flow that is found is of this path
    pub found_on : (it : Found) → found ≡ Some it → (slice_get state.flows it.index ≡ Some it.flow) × FlowOn d n it.flow
    found_on it e =
        let there = found_there state.flows (ends_in seen) it e in
        let on = h.own.flows it.index it.flow there.0 in
        (there.0, subst (λ (k : ℕ). FlowOn d k it.flow) (same_path d U T V W state packet seen own is h on.0 it.flow on.1 there.1 ∙ path) on.1)

    pub answers_flow : own.from ≡ B → seen.segment.head.syn ≡ true → seen.segment.head.ack_set ≡ true → seen.segment.head.ack ≡ (own_initial d n A + 1) % 2 ^ 32
        → ((o : Opening) → (n ≡ 0 → IsCapable o) → (IsCapable o → n ≡ 0) → is_some (first_answer o (option_octets seen.segment.options)) ≡ true) → HasFlow n state.flows → IsOpenOn n now.flows
    answers_flow from syn ack number answers f = by (finds f)
      where
        none_begins : begins seen found ≡ false
        none_begins = ap (λ (b : Bool). (seen.segment.head.syn && (not b && not seen.segment.head.rst)) && not (is_again_of seen found)) ack ∙ by seen.segment.head.syn
          where
            by : (b : Bool) → (b && false) && not (is_again_of seen found) ≡ false
            by true = refl
            by false = refl

        follows : (g : Found) → found ≡ Some g → IsOpenOn n (gone_on state packet seen true (Some g)).now.flows
        follows g e = record {
          place = g.index;
          flow = flow_after seen (answered state seen it (answer_of seen it)) it;
          there = set_there state.flows g.index (flow_after seen (answered state seen it (answer_of seen it)) it) g.flow on.0;
          opener = on.1.opener;
          other = on.1.other;
          opened = opened it.opened refl;
        }
          where
            it : Flow
            it = counted seen.is_cut true g.flow

            on : (slice_get state.flows g.index ≡ Some g.flow) × FlowOn d n g.flow
            on = found_on g e

            source : same_end seen.source it.other ≡ true
            source = (same_end_decides seen.source it.other).1 (own.source ∙ ap (end_of own.path) from ∙ ap (λ (k : ℕ). end_of k B) path ∙ sym on.1.other)

            acked : is_acknowledged_by seen.segment.head.ack it ≡ true
            acked = acked_so (own_initial d n A) seen.segment.head.ack it.number it.syn_octets number on.1.number

            answer : it.opened ≡ None → answer_of seen it ≡ first_answer it.opening (option_octets seen.segment.options)
            answer none =
                all_right seen.segment.head.syn seen.segment.head.ack_set it.opened (same_end seen.source it.other) (is_acknowledged_by seen.segment.head.ack it)
                (first_answer it.opening (option_octets seen.segment.options)) syn ack none source acked

            capable : n ≡ 0 → IsCapable it.opening
            capable zero_path = h.first g.index g.flow on.0 (on.1.opener ∙ ap (λ (k : ℕ). end_of k A) zero_path)

            only : IsCapable it.opening → n ≡ 0
            only asks = (same_place n 0 A A (sym on.1.opener ∙ one.capable g.index g.flow on.0 asks)).0

            opened : (o : Option Opened) → it.opened ≡ o → is_some (answered state seen it (answer_of seen it)).opened ≡ true
            opened (Some o) some = any_opened state seen it (answer_of seen it) (ap is_some some)
            opened None none = some_opened state seen it (answer_of seen it) (ap is_some (answer none) ∙ answers it.opening capable only)

        by : (it : Found) × (found ≡ Some it) → IsOpenOn n now.flows
        by it =
            subst (λ (b : Bool). IsOpenOn n (if b then begun_with state packet seen found (Asked seen) else gone_on state packet seen true found).now.flows) (sym none_begins)
            (subst (λ (o : Option Found). IsOpenOn n (gone_on state packet seen true o).now.flows) (sym it.1) (follows it.0 it.1))
