-- Joins whose SYN comes once B's key is known: the flow of each is that connection's from its SYN on, and its SYN/ACK shows no wrong token.
use Rattle.std.proofs.Common.{◌≡◌, refl, sym, ◌∙◌, subst, ℕ, Bool, true, false, if◌then◌else◌, Option, Some, None, List, [], ◌∷◌, ◌++◌}
use Rattle.std.specs.Prelude.{IfSome, find, is_some}
use Rattle.std.proofs.lemmas.Bool.{and_parts, eq-eqb}
use Rattle.capture_reader.specs.Seen.{Seen}
use Rattle.segment_wire.specs.Options.{option_octets}
use Rattle.sides.specs.declared.side.Side.TheVariants.{A}
use Rattle.seen_connections.specs.Asked.{first_asked}
use Rattle.seen_connections.specs.Connections.{IsThere, SeenFlows, answer_of, answered, begins, begun_with, ended, flow_after, gone_on, known_after, opened_by, taken, tied, wrong_token}
use Rattle.seen_connections.specs.Flows.{begun, counted, flow_between, is_between, last_that}
use Rattle.seen_connections.specs.Keys.{belongs_by, has_token, joined}
use Rattle.seen_connections.specs.SameEnds.{ends_in}
use Rattle.seen_connections.specs.declared.asked.Answer.{Answer}
use Rattle.seen_connections.specs.declared.asked.Answer.TheVariants as answer
use Rattle.seen_connections.specs.declared.connections.Keys.{Keys}
use Rattle.seen_connections.specs.declared.connections.WrongToken.{WrongToken}
use Rattle.seen_connections.specs.declared.flow.Belongs.{Belongs}
use Rattle.seen_connections.specs.declared.flow.Flow.{Flow}
use Rattle.seen_connections.specs.declared.flow.Opened.{Opened}
use Rattle.seen_connections.specs.declared.flow.Opening.{Opening}
use Rattle.seen_connections.specs.declared.flow.Opening.TheVariants as opening
use Rattle.seen_connections.specs.declared.flow_list.Found.{Found}
use Rattle.seen_connections.specs.declared.known_keys.KnownKey.{KnownKey}
use Rattle.own_runs.proofs.Own.{AnswerIs, Drawn, IsOwn, OpeningIs}
use Rattle.own_runs.proofs.OwnFlows.{Each, FlowsOwn, KnownOwn, counted_on, each_end, each_set, there_on, told}

-- a key is known
abbrev pub AnyKnown : List KnownKey → Type 0
AnyKnown [] = ⊥
AnyKnown (first ∷ known) = Unit {0}

-- one more, and it stays so
pub any_more : (known more : List KnownKey) → AnyKnown known → AnyKnown (known ++ more)
any_more [] more any = absurd any
any_more (first ∷ known) more any = tt

pub any_known_after : (state : SeenFlows) (a : Option Answer) → AnyKnown state.known → AnyKnown (known_after state a)
any_known_after state None any = any
any_known_after state (Some (answer.Key key checksums)) any = any_more state.known _ any
any_known_after state (Some (answer.Join join)) any = any

-- what asks for a join comes once a key is known
abbrev pub AsksLate : List KnownKey → Opening → Type 0
AsksLate known (opening.Capable checksums) = Unit {0}
AsksLate known (opening.Join token nonce) = AnyKnown known

-- a join names its connection
abbrev pub NamesIts : Opening → Option Belongs → Type 0
NamesIts (opening.Capable checksums) belongs = Unit {0}
NamesIts (opening.Join token nonce) belongs = is_some belongs ≡ true

abbrev pub IsNamed : Flow → Type 0
IsNamed flow = NamesIts flow.opening flow.belongs

names_any : (o : Opening) (belongs : Belongs) → NamesIts o (Some belongs)
names_any (opening.Capable checksums) belongs = tt
names_any (opening.Join token nonce) belongs = refl

tied_named : (o : Opening) (opened : Opened) (belongs : Option Belongs) (wrong : Option WrongToken) → NamesIts o belongs → NamesIts o (tied opened belongs wrong).belongs
tied_named o opened (Some belongs) wrong h = h
tied_named o opened None (Some wrong) h = names_any o wrong.belongs
tied_named o opened None None h = h

answered_named : (state : SeenFlows) (seen : Seen) (flow : Flow) (a : Option Answer) → IsNamed flow → IsNamed (flow_after seen (answered state seen flow a) flow)
answered_named state seen flow None h = h
answered_named state seen flow (Some (answer.Key key checksums)) h = names_any flow.opening _
answered_named state seen flow (Some (answer.Join join)) h =
    tied_named flow.opening (opened_by seen join.answer) flow.belongs (wrong_token 0 state.connections flow.first join) h

module _ (d : Drawn) where
  -- by the token of B's key
  belongs_named : (path : ℕ) (o : Opening) (known : List KnownKey) (connections : List Keys) → OpeningIs d path o → KnownOwn d known connections → AsksLate known o
      → NamesIts o (belongs_by o known)
  belongs_named path (opening.Capable checksums) known connections is own late = tt
  belongs_named path (opening.Join token nonce) [] connections is own late = absurd late
  belongs_named path (opening.Join token nonce) (first ∷ known) connections is own late =
      subst (λ (b : Bool). is_some (joined (if b then Some first else find (has_token token) known)) ≡ true)
      (sym (eq-eqb first.token token (own.0 ∙ sym is.0))) refl

  -- the SYN/ACK of a join that names its connection shows no wrong token
  none_wrong : (path : ℕ) (state : SeenFlows) (seen : Seen) (flow : Flow) (a : Option Answer) → IfSome a (AnswerIs d path flow.opening) → IsNamed flow
      → (answered state seen flow a).wrong_token ≡ None
  none_wrong path state seen flow None is h = refl
  none_wrong path state seen flow (Some (answer.Key key checksums)) is h = refl
  none_wrong path state seen flow (Some (answer.Join join)) is h = by flow.opening is flow.belongs h
    where
      wrong : Option WrongToken
      wrong = wrong_token 0 state.connections flow.first join

      by : (o : Opening) → AnswerIs d path o (answer.Join join) → (belongs : Option Belongs) → NamesIts o belongs → (tied (opened_by seen join.answer) belongs wrong).wrong_token ≡ None
      by (opening.Capable checksums) is belongs h = absurd is
      by (opening.Join token nonce) is (Some belongs) h = refl
      by (opening.Join token nonce) is None h = cc

  module _ (state : SeenFlows) (packet : ℕ) (seen : Seen) (own : IsOwn d seen) (h : FlowsOwn d state) (named : Each IsNamed state.flows) where
    ended_named : (found : Option Found) → IsThere state.flows found → Each IsNamed (ended found state.flows)
    ended_named None there = named
    ended_named (Some found) there =
        each_set IsNamed state.flows found.index (record found.flow { is_over = true }) named (named found.index found.flow there)

    begun_named : (found : Option Found) (asked : Option Opening) → IsThere state.flows found → IfSome asked (OpeningIs d own.path) → IfSome asked (AsksLate state.known)
        → Each IsNamed (begun_with state packet seen found asked).now.flows
    begun_named found None there asks late = ended_named found there
    begun_named found (Some o) there asks late =
        each_end IsNamed state.flows (begun packet seen o (belongs_by o state.known)) named
        (belongs_named own.path o state.known state.connections asks h.known late)

    gone_named : (found : Option Found) → IsThere state.flows found → Each IsNamed (gone_on state packet seen true found).now.flows
    gone_named None there = named
    gone_named (Some found) there =
        let it = counted seen.is_cut true found.flow in
        each_set IsNamed state.flows found.index (flow_after seen (answered state seen it (answer_of seen it)) it) named
        (answered_named state seen it (answer_of seen it) (named found.index found.flow there))

    gone_right : (found : Option Found) → IsThere state.flows found → IfSome (gone_on state packet seen true found).place (λ p. p.wrong_token ≡ None)
    gone_right None there = tt
    gone_right (Some found) there =
        let was = h.flows found.index found.flow there in
        let it = counted seen.is_cut true found.flow in
        let on = counted_on d state packet seen own h was.0 found.flow was.1 in
        none_wrong was.0 state seen it (answer_of seen it) (told d state packet seen own h was.0 it on) (named found.index found.flow there)

    begun_right : (found : Option Found) (asked : Option Opening) → IfSome (begun_with state packet seen found asked).place (λ p. p.wrong_token ≡ None)
    begun_right found None = tt
    begun_right found (Some o) = refl

    -- where a SYN asks for a join once a key is known
    module _ (late : seen.segment.head.syn ≡ true → IfSome (first_asked (option_octets seen.segment.options)) (AsksLate state.known)) where
      abbrev found : Option Found
      found = flow_between (ends_in seen) state.flows

      there : IsThere state.flows found
      there = there_on d state.flows (last_that (is_between (ends_in seen)) 0 state.flows)

      abbrev asked : Option Opening
      asked = first_asked (option_octets seen.segment.options)

      asks_so : (asked : Option Opening) → IfSome asked (λ o. (own.from ≡ A) × OpeningIs d own.path o) → IfSome asked (OpeningIs d own.path)
      asks_so None asks = tt
      asks_so (Some o) asks = asks.1

      pub taken_named : Each IsNamed (taken state packet seen true).now.flows
      taken_named = by (begins seen found) refl
        where
          by : (b : Bool) → begins seen found ≡ b → Each IsNamed (if b then begun_with state packet seen found asked else gone_on state packet seen true found).now.flows
          by true is = let syn = (and_parts seen.segment.head.syn _ (and_parts _ _ is).0).0 in begun_named found asked there (asks_so asked (own.asks syn)) (late syn)
          by false is = gone_named found there

      -- no wrong token is told
      pub taken_right : IfSome (taken state packet seen true).place (λ p. p.wrong_token ≡ None)
      taken_right = by (begins seen found)
        where
          by : (b : Bool) → IfSome (if b then begun_with state packet seen found asked else gone_on state packet seen true found).place (λ p. p.wrong_token ≡ None)
          by true = begun_right found asked
          by false = gone_right found there
