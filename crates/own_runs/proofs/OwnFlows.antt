-- The flows and connections that are seen in a capture of a connection of ours.
use Rattle.std.proofs.Common.{◌≡◌, refl, sym, ap, ◌∙◌, subst, ℕ, zero, suc, ◌+◌, ◌<◌, ◌%◌, ◌^◌, nat_le, ◌⊎◌, inl, inr, ◌||◌, Bool, true, false, not, is_none, if◌then◌else◌, Option, Some, None, List, [], ◌∷◌, ◌++◌, length, arith}
use Rattle.std.specs.Prelude.{IfSome, find}
use Rattle.std.specs.Int.{from_bool}
use Rattle.std.specs.List.{slice_get}
use Rattle.std.specs.Option.{option_or}
use Rattle.std.proofs.Math.ListN.{set}
use Rattle.std.proofs.lemmas.Bool.{and_parts, eq-eqb, leb-true}
use Rattle.sides.specs.declared.side.Side.{Side}
use Rattle.sides.specs.declared.side.Side.TheVariants.{A, B}
use Rattle.sides.specs.Side.{peer}
use Rattle.key_material.specs.KeyDigest.{token_of}
use Rattle.key_material.specs.JoinHmac.{join_b64_of}
use Rattle.segment_wire.specs.Options.{option_octets}
use Rattle.capture_reader.specs.Seen.{Seen}
use Rattle.seen_connections.specs.declared.asked.Answer.{Answer}
use Rattle.seen_connections.specs.declared.asked.Answer.TheVariants as answer
use Rattle.seen_connections.specs.declared.asked.JoinAnswer.{JoinAnswer}
use Rattle.seen_connections.specs.declared.connections.Keys.{Keys}
use Rattle.seen_connections.specs.declared.connections.Place.{Place}
use Rattle.seen_connections.specs.declared.connections.WrongToken.{WrongToken}
use Rattle.seen_connections.specs.declared.ends.Ends.{Ends}
use Rattle.seen_connections.specs.declared.flow.Belongs.{Belongs}
use Rattle.seen_connections.specs.declared.flow.Flow.{Flow}
use Rattle.seen_connections.specs.declared.flow.Opened.{Opened}
use Rattle.seen_connections.specs.declared.flow.Opening.{Opening}
use Rattle.seen_connections.specs.declared.flow.Opening.TheVariants as opening
use Rattle.seen_connections.specs.declared.flow_list.Found.{Found}
use Rattle.seen_connections.specs.declared.known_keys.KnownKey.{KnownKey}
use Rattle.seen_connections.specs.Asked.{first_answer, first_asked}
use Rattle.seen_connections.specs.Connections.{IsThere, SeenFlows, answer_of, answered, begins, begun_with, connections_after, ended, flow_after, followed, gone_on, instead_of, known_after, learnt_by, makes_hmac, opened_by, taken, tied, wrong_token, wrong_token_by, wrong_token_if}
use Rattle.seen_connections.specs.Flows.{begun, behind, counted, flow_between, goes, going_on, is_acknowledged_by, is_between, last_that, unless_over}
use Rattle.seen_connections.specs.Keys.{belongs_by, has_token, joined}
use Rattle.seen_connections.specs.SameEnds.{ends_in, same_end, turned}
use Rattle.rule_book.specs.Judged.{with_key}
use Rattle.judge_laws.proofs.Books.{set_there}
use Rattle.judge_laws.proofs.Standing.{set_item, some_same}
use Rattle.own_runs.proofs.Own.{AnswerIs, Drawn, IsOwn, OpeningIs, end_of, first_seq, told_same}

-- ---- lists

-- of each item
abbrev pub Each : {X : Type 0} → (X → Type 0) → List X → Type 0
Each {X} P xs = (i : ℕ) (x : X) → slice_get xs i ≡ Some x → P x

pub each_end : {X : Type 0} → (P : X → Type 0) (xs : List X) (one : X) → Each P xs → P one → Each P (xs ++ one ∷ [])
each_end P [] one each p zero x at = subst P (some_same one x at) p
each_end P [] one each p (suc i) x at = cc
each_end P (y ∷ xs) one each p zero x at = each zero x at
each_end P (y ∷ xs) one each p (suc i) x at = each_end P xs one (λ j z there. each (suc j) z there) p i x at

pub each_set : {X : Type 0} → (P : X → Type 0) (xs : List X) (i : ℕ) (new : X) → Each P xs → P new → Each P (set xs i new)
each_set {X} P xs i new each p j x at = by (set_item xs i j new x at)
  where
    by : ((i ≡ j) × (new ≡ x)) ⊎ (slice_get xs j ≡ Some x) → P x
    by (inl both) = subst P both.1 p
    by (inr other) = each j x other

pub at_end : {X : Type 0} → (xs : List X) (x : X) → slice_get (xs ++ x ∷ []) (length xs) ≡ Some x
at_end [] x = refl
at_end (y ∷ xs) x = at_end xs x

-- ---- what is known

module _ (d : Drawn) where
  -- what the other end's nonce is
  abbrev pub NonceIs : ℕ → Opening → Opened → Type 0
  NonceIs path (opening.Capable checksums) opened = Unit {0}
  NonceIs path (opening.Join token nonce) opened = opened.nonce ≡ d.nonce_b path

  -- the numbers of position 0 of both ends
  abbrev pub BasesAre : ℕ → Opened → Type 0
  BasesAre path opened = (opened.opener_base ≡ first_seq d path A) × (opened.other_base ≡ first_seq d path B)

  -- a flow of a path, which A opened
  pub record FlowOn (path : ℕ) (flow : Flow) : Type 0 where
    pub within : path < d.paths
    pub opener : flow.opener ≡ end_of path A
    pub other : flow.other ≡ end_of path B
    pub opening : OpeningIs d path flow.opening
    pub belongs : IfSome flow.belongs (λ b. b.opener ≡ A)
    pub nonce : IfSome flow.opened (NonceIs path flow.opening)
    pub number : flow.number ≡ first_seq d path A
    pub octets : flow.syn_octets ≡ 0
    pub cut : flow.cut ≡ 0
    pub wrong : flow.wrong_sums ≡ 0
    pub bases : IfSome flow.opened (BasesAre path)

  abbrev pub FlowIs : Flow → Type 0
  FlowIs flow = (path : ℕ) × FlowOn path flow

  -- keys are those that were drawn
  pub record KeysOwn (keys : Keys) : Type 0 where
    pub a : IfSome keys.a (λ key. key ≡ d.key_a)
    pub b : keys.b ≡ d.key_b
    pub checksums : keys.checksums ≡ d.checksums

  -- B's key is the first that was known
  abbrev pub KnownOwn : List KnownKey → List Keys → Type 0
  KnownOwn [] connections = connections ≡ []
  KnownOwn (first ∷ known) connections = (first.token ≡ token_of d.key_b) × (first.side ≡ B)

  pub record FlowsOwn (state : SeenFlows) : Type 0 where
    pub flows : Each FlowIs state.flows
    pub connections : Each KeysOwn state.connections
    pub known : KnownOwn state.known state.connections

  -- ---- a SYN

  -- a join is A's, by the token of B's key
  first_is : (known : List KnownKey) (connections : List Keys) (token : ℕ) → token ≡ token_of d.key_b → KnownOwn known connections
      → IfSome (joined (find (has_token token) known)) (λ b. b.opener ≡ A)
  first_is [] connections token is own = tt
  first_is (first ∷ known) connections token is own =
      subst (λ (b : Bool). IfSome (joined (if b then Some first else find (has_token token) known)) (λ b. b.opener ≡ A))
      (sym (eq-eqb first.token token (own.0 ∙ sym is))) (ap peer own.1)

  belongs_so : (path : ℕ) (o : Opening) (known : List KnownKey) (connections : List Keys) → OpeningIs d path o → KnownOwn known connections
      → IfSome (belongs_by o known) (λ b. b.opener ≡ A)
  belongs_so path (opening.Capable checksums) known connections is own = tt
  belongs_so path (opening.Join token nonce) known connections is own = first_is known connections token is.0 own

  there_over : (flows : List Flow) (i : ℕ) (flow : Option Flow) → slice_get flows i ≡ flow → IsThere flows (unless_over i flow)
  there_over flows i None e = tt
  there_over flows i (Some flow) e = by flow.is_over
    where
      by : (b : Bool) → IsThere flows (if b then None else Some (record { index = i; flow = flow }))
      by true = tt
      by false = e

  pub there_on : (flows : List Flow) (i : Option ℕ) → IsThere flows (going_on flows i)
  there_on flows None = tt
  there_on flows (Some i) = there_over flows i (slice_get flows i) refl

  -- the last that passes a test passes it
  last_passes : (test : Flow → Bool) (n : ℕ) (flows : List Flow) (i : ℕ) → last_that test n flows ≡ Some i
      → (k : ℕ) × (i ≡ n + k) × IfSome (slice_get flows k) (λ f. test f ≡ true)
  last_passes test n [] i e = cc
  last_passes test n (flow ∷ flows) i e = by (last_passes test (n + 1) flows i) (last_that test (n + 1) flows) refl (test flow) refl e
    where
      by : (last_that test (n + 1) flows ≡ Some i → (k : ℕ) × (i ≡ n + 1 + k) × IfSome (slice_get flows k) (λ f. test f ≡ true))
          → (o : Option ℕ) → last_that test (n + 1) flows ≡ o → (b : Bool) → test flow ≡ b → option_or o (if b then Some n else None) ≡ Some i
          → (k : ℕ) × (i ≡ n + k) × IfSome (slice_get (flow ∷ flows) k) (λ f. test f ≡ true)
      by more (Some j) later b is same =
          let rest = more (later ∙ same) in
          (suc rest.0, (let at = rest.1 in omega (arith, at)), rest.2)
      by more None later true is same = (0, (let at : n ≡ i = some_same n i same in omega (arith, at)), is)
      by more None later false is same = cc

  found_between : (ends : Ends) (flows : List Flow) → IfSome (flow_between ends flows) (λ f. is_between ends f.flow ≡ true)
  found_between ends flows = by (last_that (is_between ends) 0 flows) refl
    where
      here : (i : ℕ) (o : Option Flow) → IfSome o (λ f. is_between ends f ≡ true) → IfSome (unless_over i o) (λ f. is_between ends f.flow ≡ true)
      here i None passes = tt
      here i (Some flow) passes = over flow.is_over
        where
          over : (b : Bool) → IfSome {T = Found} (if b then None else Some (record { index = i; flow = flow })) (λ f. is_between ends f.flow ≡ true)
          over true = tt
          over false = passes

      by : (o : Option ℕ) → last_that (is_between ends) 0 flows ≡ o → IfSome (going_on flows o) (λ f. is_between ends f.flow ≡ true)
      by None e = tt
      by (Some i) e =
          let found = last_passes (is_between ends) 0 flows i e in
          here i (slice_get flows i) (subst (λ (k : ℕ). IfSome (slice_get flows k) (λ f. is_between ends f ≡ true)) (let at = found.1 in omega (arith, at)) found.2)

  module _ (state : SeenFlows) (packet : ℕ) (seen : Seen) (own : IsOwn d seen) (h : FlowsOwn state) where
    ended_so : (found : Option Found) → IsThere state.flows found → Each FlowIs (ended found state.flows)
    ended_so None there = h.flows
    ended_so (Some found) there =
        let was = h.flows found.index found.flow there in
        each_set FlowIs state.flows found.index (record found.flow { is_over = true }) h.flows (
          was.0,
          record {
            within = was.1.within;
            opener = was.1.opener;
            other = was.1.other;
            opening = was.1.opening;
            belongs = was.1.belongs;
            nonce = was.1.nonce;
            number = was.1.number;
            octets = was.1.octets;
            cut = was.1.cut;
            wrong = was.1.wrong;
            bases = was.1.bases;
          },
        )

    begun_on : (o : Opening) → seen.segment.head.syn ≡ true → (own.from ≡ A) × OpeningIs d own.path o → FlowOn own.path (begun packet seen o (belongs_by o state.known))
    begun_on o syn asks = record {
      within = own.within;
      opener = own.source ∙ ap (end_of own.path) asks.0;
      other = own.destination ∙ ap (λ (s : Side). end_of own.path (peer s)) asks.0;
      opening = asks.1;
      belongs = belongs_so own.path o state.known state.connections asks.1 h.known;
      nonce = tt;
      number = (own.starts syn).0 ∙ ap (first_seq d own.path) asks.0;
      octets = (own.starts syn).1;
      cut = ap (λ (b : Bool). from_bool b) own.uncut;
      wrong = refl;
      bases = tt;
    }

    begun_so : (found : Option Found) (asked : Option Opening) → IsThere state.flows found → seen.segment.head.syn ≡ true → IfSome asked (λ o. (own.from ≡ A) × OpeningIs d own.path o)
        → FlowsOwn (begun_with state packet seen found asked).now
    begun_so found None there syn asks = record { flows = ended_so found there; connections = h.connections; known = h.known }
    begun_so found (Some o) there syn asks = record {
      flows = each_end FlowIs state.flows (begun packet seen o (belongs_by o state.known)) h.flows (own.path, begun_on o syn asks);
      connections = h.connections;
      known = h.known;
    }

    -- ---- a SYN/ACK

    -- the keys of both sides make the HMAC, B as the receiver
    makes_so : (path a b : ℕ) (join : JoinAnswer) → a ≡ d.key_a → b ≡ d.key_b → (join.nonce ≡ d.nonce_a path) × (join.answer ≡ d.nonce_b path)
        × (join.hmac ≡ join_b64_of d.key_a d.key_b (d.nonce_a path) (d.nonce_b path)) → makes_hmac a b join ≡ true
    unfolding makes_hmac
    makes_so path a b join of_a of_b is =
        eq-eqb (join_b64_of a b join.nonce join.answer) join.hmac
        (ap (λ (x : ℕ). join_b64_of x b join.nonce join.answer) of_a ∙ ap (λ (x : ℕ). join_b64_of d.key_a x join.nonce join.answer) of_b
        ∙ ap (λ (x : ℕ). join_b64_of d.key_a d.key_b x join.answer) is.0 ∙ ap (join_b64_of d.key_a d.key_b (d.nonce_a path)) is.1 ∙ sym is.2)

    token_by : (connection path : ℕ) (keys : Keys) (number : ℕ) (join : JoinAnswer) → KeysOwn keys → (join.nonce ≡ d.nonce_a path) × (join.answer ≡ d.nonce_b path)
        × (join.hmac ≡ join_b64_of d.key_a d.key_b (d.nonce_a path) (d.nonce_b path)) → IfSome (wrong_token_by connection keys number join) (λ w. w.belongs.opener ≡ A)
    token_by connection path keys number join k is = by keys.a k.a
      where
        by : (a : Option ℕ) → IfSome a (λ key. key ≡ d.key_a) → IfSome (wrong_token_if connection a keys.b number join) (λ w. w.belongs.opener ≡ A)
        by None of_a = tt
        by (Some a) of_a =
            subst (λ (x : Bool). IfSome (if x then Some (instead_of connection A keys.b number join)
            else (if makes_hmac keys.b a join then Some (instead_of connection B a number join) else None)) (λ w. w.belongs.opener ≡ A))
            (sym (makes_so path a keys.b join of_a k.b is)) refl

    token_so : (connection path : ℕ) (all : List Keys) (number : ℕ) (join : JoinAnswer) → Each KeysOwn all → (join.nonce ≡ d.nonce_a path) × (join.answer ≡ d.nonce_b path)
        × (join.hmac ≡ join_b64_of d.key_a d.key_b (d.nonce_a path) (d.nonce_b path)) → IfSome (wrong_token connection all number join) (λ w. w.belongs.opener ≡ A)
    token_so connection path [] number join each is = tt
    token_so connection path (keys ∷ all) number join each is =
        by (wrong_token_by connection keys number join) (wrong_token (connection + 1) all number join) (token_by connection path keys number join (each 0 keys refl) is)
        (token_so (connection + 1) path all number join (λ i x at. each (suc i) x at) is)
      where
        by : (o p : Option WrongToken) → IfSome o (λ w. w.belongs.opener ≡ A) → IfSome p (λ w. w.belongs.opener ≡ A) → IfSome (option_or o p) (λ w. w.belongs.opener ≡ A)
        by (Some w) p first next = first
        by None p first next = next

    tied_so : (opened : Opened) (belongs : Option Belongs) (wrong : Option WrongToken) → IfSome belongs (λ b. b.opener ≡ A) → IfSome wrong (λ w. w.belongs.opener ≡ A)
        → IfSome (tied opened belongs wrong).belongs (λ b. b.opener ≡ A)
    tied_so opened (Some belongs) wrong of_b of_w = of_b
    tied_so opened None (Some wrong) of_b of_w = of_w
    tied_so opened None None of_b of_w = tt

    tied_opened : (opened : Opened) (belongs : Option Belongs) (wrong : Option WrongToken) → (tied opened belongs wrong).opened ≡ Some opened
    tied_opened opened (Some belongs) wrong = refl
    tied_opened opened None (Some wrong) = refl
    tied_opened opened None None = refl

    module _ (path : ℕ) (flow : Flow) (f : FlowOn path flow) where
      -- what it answers, if it does
      pub told : IfSome (answer_of seen flow) (AnswerIs d path flow.opening)
      told =
          by seen.segment.head.syn (not seen.segment.head.ack_set || not (is_none flow.opened)) (same_end seen.source flow.other)
          (not (is_acknowledged_by seen.segment.head.ack flow)) refl refl
        where
          by : (syn early same wrong : Bool) → seen.segment.head.syn ≡ syn → same_end seen.source flow.other ≡ same
              → IfSome (if not syn || early then None else (if not same || wrong then None else first_answer flow.opening (option_octets seen.segment.options)))
              (AnswerIs d path flow.opening)
          by false early same wrong is at = tt
          by true true same wrong is at = tt
          by true false false wrong is at = tt
          by true false true true is at = tt
          by true false true false is at =
              let there = told_same seen.source flow.other own.path path own.from B own.source f.other at in
              subst (λ (k : ℕ). OpeningIs d k flow.opening → IfSome (first_answer flow.opening (option_octets seen.segment.options)) (AnswerIs d k flow.opening))
              there.0 (own.answers is there.1 flow.opening) f.opening

      -- and then it tells the numbers of both positions 0
      acked_base : (ack number : ℕ) → (octets : ℕ) → octets ≡ 0 → number ≡ first_seq d path A → nat_le (behind ack ((number + 1) % 2 ^ 32)) octets ≡ true
          → behind ack 1 ≡ first_seq d path A
      acked_base ack number octets none is within = let below = leb-true (behind ack ((number + 1) % 2 ^ 32)) octets within in omega (arith, none, is, below)

      bases : IfSome (answer_of seen flow) (λ x. (nonce : ℕ) → BasesAre path (opened_by seen nonce))
      bases =
          by seen.segment.head.syn (not seen.segment.head.ack_set || not (is_none flow.opened)) (same_end seen.source flow.other)
          (is_acknowledged_by seen.segment.head.ack flow) (first_answer flow.opening (option_octets seen.segment.options)) refl refl refl
        where
          by : (syn early same right : Bool) (answers : Option Answer) → seen.segment.head.syn ≡ syn → same_end seen.source flow.other ≡ same
              → is_acknowledged_by seen.segment.head.ack flow ≡ right
              → IfSome (if not syn || early then None else (if not same || not right then None else answers)) (λ x. (nonce : ℕ) → BasesAre path (opened_by seen nonce))
          by false early same right answers is at acked = tt
          by true true same right answers is at acked = tt
          by true false false right answers is at acked = tt
          by true false true false answers is at acked = tt
          by true false true true None is at acked = tt
          by true false true true (Some x) is at acked = λ nonce.
              let there = told_same seen.source flow.other own.path path own.from B own.source f.other at in (
                acked_base seen.segment.head.ack flow.number flow.syn_octets f.octets f.number acked,
                (own.starts is).0 ∙ ap (λ (k : ℕ). first_seq d k own.from) there.0 ∙ ap (first_seq d path) there.1,
              )

      key_nonce : (o : Opening) (key : ℕ) (checksums : Bool) → AnswerIs d path o (answer.Key key checksums) → NonceIs path o (opened_by seen 0)
      key_nonce (opening.Capable asked) key checksums is = tt
      key_nonce (opening.Join token nonce) key checksums is = absurd is

      join_nonce : (o : Opening) (join : JoinAnswer) → AnswerIs d path o (answer.Join join) → NonceIs path o (opened_by seen join.answer)
      join_nonce (opening.Capable asked) join is = tt
      join_nonce (opening.Join token nonce) join is = is.1

      join_belongs : (o : Opening) (number : ℕ) (join : JoinAnswer) → AnswerIs d path o (answer.Join join)
          → IfSome (wrong_token 0 state.connections number join) (λ w. w.belongs.opener ≡ A)
      join_belongs (opening.Capable asked) number join is = absurd is
      join_belongs (opening.Join token nonce) number join is = token_so 0 path state.connections number join h.connections is

      flow_so : (a : Option Answer) → IfSome a (AnswerIs d path flow.opening) → IfSome a (λ x. (nonce : ℕ) → BasesAre path (opened_by seen nonce)) → FlowOn path (flow_after seen (answered state seen flow a) flow)
      flow_so None is at = record {
        within = f.within;
        opener = f.opener;
        other = f.other;
        opening = f.opening;
        belongs = f.belongs;
        nonce = f.nonce;
        number = f.number;
        octets = f.octets;
        cut = f.cut;
        wrong = f.wrong;
        bases = f.bases;
      }
      flow_so (Some (answer.Key key checksums)) is at = record {
        within = f.within;
        opener = f.opener;
        other = f.other;
        opening = f.opening;
        belongs = refl;
        nonce = key_nonce flow.opening key checksums is;
        number = f.number;
        octets = f.octets;
        cut = f.cut;
        wrong = f.wrong;
        bases = at 0;
      }
      flow_so (Some (answer.Join join)) is at =
          let wrong = wrong_token 0 state.connections flow.first join in
          record {
            within = f.within;
            opener = f.opener;
            other = f.other;
            opening = f.opening;
            belongs = tied_so (opened_by seen join.answer) flow.belongs wrong f.belongs (join_belongs flow.opening flow.first join is);
            nonce = subst (λ (o : Option Opened). IfSome o (NonceIs path flow.opening)) (sym (tied_opened (opened_by seen join.answer) flow.belongs wrong))
                (join_nonce flow.opening join is);
            number = f.number;
            octets = f.octets;
            cut = f.cut;
            wrong = f.wrong;
            bases = subst (λ (o : Option Opened). IfSome o (BasesAre path)) (sym (tied_opened (opened_by seen join.answer) flow.belongs wrong)) (at join.answer);
          }

      key_is : (o : Opening) (key : ℕ) (checksums : Bool) → AnswerIs d path o (answer.Key key checksums) → (key ≡ d.key_b) × (checksums ≡ d.checksums)
      key_is (opening.Capable asked) key checksums is = is
      key_is (opening.Join token nonce) key checksums is = absurd is

      connections_so : (index : ℕ) (a : Option Answer) → IfSome a (AnswerIs d path flow.opening) → Each KeysOwn (connections_after state index a)
      connections_so index None is = h.connections
      connections_so index (Some (answer.Join join)) is = h.connections
      connections_so index (Some (answer.Key key checksums)) is =
          let same = key_is flow.opening key checksums is in
          each_end KeysOwn state.connections (record { a = None; b = key; checksums = checksums; flow = index }) h.connections
          (record { a = tt; b = same.0; checksums = same.1 })

      known_so : (index : ℕ) (a : Option Answer) → IfSome a (AnswerIs d path flow.opening) → KnownOwn (known_after state a) (connections_after state index a)
      known_so index None is = h.known
      known_so index (Some (answer.Join join)) is = h.known
      known_so index (Some (answer.Key key checksums)) is = by state.known h.known
        where
          by : (known : List KnownKey) → KnownOwn known state.connections
              → KnownOwn (known ++ record { token = token_of key; connection = length state.connections; side = B } ∷ []) (connections_after state index (Some (answer.Key key checksums)))
          by [] own = (ap token_of (key_is flow.opening key checksums is).0, refl)
          by (first ∷ known) own = own

    -- ---- any segment

    followed_so : (index path : ℕ) (flow : Flow) → FlowOn path flow → FlowsOwn (followed state packet seen index flow).now
    followed_so index path flow f =
        let a = answer_of seen flow in
        let is = told path flow f in
        record {
          flows = each_set FlowIs state.flows index (flow_after seen (answered state seen flow a) flow) h.flows (path, flow_so path flow f a is (bases path flow f));
          connections = connections_so path flow f index a is;
          known = known_so path flow f index a is;
        }

    -- with one packet more
    pub counted_on : (path : ℕ) (flow : Flow) → FlowOn path flow → FlowOn path (counted seen.is_cut true flow)
    counted_on path flow f = record {
      within = f.within;
      opener = f.opener;
      other = f.other;
      opening = f.opening;
      belongs = f.belongs;
      nonce = f.nonce;
      number = f.number;
      octets = f.octets;
      cut = ap (λ (b : Bool). flow.cut + from_bool b) own.uncut ∙ (let none = f.cut in omega (arith, none));
      wrong = (let none = f.wrong in omega (arith, none));
      bases = f.bases;
    }

    gone_so : (found : Option Found) → IsThere state.flows found → FlowsOwn (gone_on state packet seen true found).now
    gone_so None there = record { flows = h.flows; connections = h.connections; known = h.known }
    gone_so (Some found) there =
        let was = h.flows found.index found.flow there in
        followed_so found.index was.0 (counted seen.is_cut true found.flow) (counted_on was.0 found.flow was.1)

    -- the flow that is found is of the segment's path
    path_so : (path : ℕ) (flow : Flow) → FlowOn path flow → is_between (ends_in seen) flow ≡ true → path ≡ own.path
    path_so path flow f between = by (goes (ends_in seen) flow) refl between
      where
        by : (b : Bool) → goes (ends_in seen) flow ≡ b → b || goes (turned (ends_in seen)) flow ≡ true → path ≡ own.path
        by true is or =
            (told_same flow.opener seen.source path own.path A own.from f.opener own.source (and_parts (same_end flow.opener seen.source) _ is).0).0
        by false is or =
            (told_same flow.opener seen.destination path own.path A (peer own.from) f.opener own.destination (and_parts (same_end flow.opener seen.destination) _ or).0).0

    pub taken_so : FlowsOwn (taken state packet seen true).now
    taken_so = by (begins seen found) refl
      where
        found : Option Found
        found = flow_between (ends_in seen) state.flows

        there : IsThere state.flows found
        there = there_on state.flows (last_that (is_between (ends_in seen)) 0 state.flows)

        asked : Option Opening
        asked = first_asked (option_octets seen.segment.options)

        by : (b : Bool) → begins seen found ≡ b → FlowsOwn (if b then begun_with state packet seen found asked else gone_on state packet seen true found).now
        by true is = let syn = (and_parts seen.segment.head.syn _ (and_parts _ _ is).0).0 in begun_so found asked there syn (own.asks syn)
        by false is = gone_so found there

    -- the segment's flow is one of its path
    abbrev pub IsOnPath : List Flow → Option Place → Type 0
    IsOnPath flows place = IfSome place (λ p. (flow : Flow) → slice_get flows p.flow ≡ Some flow → FlowOn own.path flow)

    begun_place : (found : Option Found) (asked : Option Opening) → seen.segment.head.syn ≡ true → IfSome asked (λ o. (own.from ≡ A) × OpeningIs d own.path o)
        → IsOnPath (begun_with state packet seen found asked).now.flows (begun_with state packet seen found asked).place
    begun_place found None syn asks = tt
    begun_place found (Some o) syn asks = λ flow at.
        let new = begun packet seen o (belongs_by o state.known) in
        subst (FlowOn own.path) (some_same new flow (sym (at_end state.flows new) ∙ at)) (begun_on o syn asks)

    gone_place : (found : Option Found) → IsThere state.flows found → IfSome found (λ f. is_between (ends_in seen) f.flow ≡ true)
        → IsOnPath (gone_on state packet seen true found).now.flows (gone_on state packet seen true found).place
    gone_place None there between = tt
    gone_place (Some found) there between = λ flow at.
        let was = h.flows found.index found.flow there in
        let it = counted seen.is_cut true found.flow in
        let on = counted_on was.0 found.flow was.1 in
        let a = answer_of seen it in
        let new = flow_after seen (answered state seen it a) it in
        subst (FlowOn own.path) (some_same new flow (sym (set_there state.flows found.index new found.flow there) ∙ at))
        (subst (λ (path : ℕ). FlowOn path new) (path_so was.0 found.flow was.1 between) (flow_so was.0 it on a (told was.0 it on) (bases was.0 it on)))

    pub place_so : IsOnPath (taken state packet seen true).now.flows (taken state packet seen true).place
    place_so = by (begins seen found) refl
      where
        found : Option Found
        found = flow_between (ends_in seen) state.flows

        asked : Option Opening
        asked = first_asked (option_octets seen.segment.options)

        by : (b : Bool) → begins seen found ≡ b → IsOnPath (if b then begun_with state packet seen found asked else gone_on state packet seen true found).now.flows
            (if b then begun_with state packet seen found asked else gone_on state packet seen true found).place
        by true is = let syn = (and_parts seen.segment.head.syn _ (and_parts _ _ is).0).0 in begun_place found asked syn (own.asks syn)
        by false is =
            gone_place found (there_on state.flows (last_that (is_between (ends_in seen)) 0 state.flows)) (found_between (ends_in seen) state.flows)

  -- ---- A's key

  learnt_so : (state : SeenFlows) (connection a : ℕ) (keys : Option Keys) → slice_get state.connections connection ≡ keys → a ≡ d.key_a → FlowsOwn state
      → FlowsOwn (learnt_by state connection a keys)
  learnt_so state connection a None there of_a h = h
  learnt_so state connection a (Some keys) there of_a h =
      let was = h.connections connection keys there in
      record {
        flows = h.flows;
        connections = each_set KeysOwn state.connections connection (record keys { a = Some a }) h.connections (record { a = of_a; b = was.b; checksums = was.checksums });
        known = by state.known h.known;
      }
    where
      none : (i : ℕ) → slice_get [] i ≡ Some keys → ⊥
      none i e = cc

      by : (known : List KnownKey) → KnownOwn known state.connections
          → KnownOwn (known ++ record { token = token_of a; connection = connection; side = A } ∷ []) (set state.connections connection (record keys { a = Some a }))
      by [] empty = absurd (none connection (sym (ap (λ (all : List Keys). slice_get all connection) empty) ∙ there))
      by (first ∷ known) own = own

  pub key_so : (connection : ℕ) (before told : Option ℕ) (state : SeenFlows) → IfSome told (λ key. key ≡ d.key_a) → FlowsOwn state
      → FlowsOwn (with_key connection before told state)
  key_so connection None (Some a) state is h = learnt_so state connection a (slice_get state.connections connection) refl is h
  key_so connection None None state is h = h
  key_so connection (Some known) None state is h = h
  key_so connection (Some known) (Some a) state is h = h
