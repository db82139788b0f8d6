-- All flows of a connection of ours that belong to one belong to the first connection that is seen: none other is.
use Rattle.std.proofs.Common.{◌≡◌, refl, sym, ap, ◌∙◌, subst, ℕ, zero, suc, ◌||◌, ◌&&◌, ◌⊎◌, inl, inr, ⊎_elim, not, Bool, true, false, if◌then◌else◌, Option, Some, None, is_none, is_some, List, [], ◌∷◌, ◌++◌, length, arith}
use Rattle.std.specs.Prelude.{IfSome}
use Rattle.std.specs.List.{find, slice_get}
use Rattle.std.proofs.Math.ListN.{set}
use Rattle.std.proofs.lemmas.Bool.{and_parts, false≢true}
use Rattle.capture_reader.specs.Seen.{Seen}
use Rattle.sides.specs.Side.{peer}
use Rattle.sides.specs.declared.side.Side.TheVariants.{A, B}
use Rattle.sides.specs.declared.side.Side.{Side}
use Rattle.segment_wire.specs.Options.{option_octets}
use Rattle.judge_laws.proofs.Books.{before_end}
use Rattle.judge_laws.proofs.Standing.{some_same}
use Rattle.rule_book.specs.Judged.{with_key}
use Rattle.seen_connections.specs.Asked.{first_answer}
use Rattle.seen_connections.specs.Connections.{SeenFlows, Taken, answer_of, answered, begins, begun_with, connections_after, flow_after, gone_on, is_syn, known_after, learnt_by, nothing_seen, opened_by, taken, tied, wrong_token}
use Rattle.seen_connections.specs.EndsDecided.{same_end_decides}
use Rattle.seen_connections.specs.Flows.{begun, counted, flow_between, goes, is_acknowledged_by, is_between}
use Rattle.seen_connections.specs.Keys.{belongs_by, has_token, joined}
use Rattle.seen_connections.specs.SameEnds.{ends_in, same_end, turned}
use Rattle.seen_connections.specs.declared.asked.Answer.TheVariants as answer
use Rattle.seen_connections.specs.declared.asked.Answer.{Answer}
use Rattle.seen_connections.specs.declared.asked.JoinAnswer.{JoinAnswer}
use Rattle.seen_connections.specs.declared.connections.Keys.{Keys}
use Rattle.seen_connections.specs.declared.connections.WrongToken.{WrongToken}
use Rattle.seen_connections.specs.declared.flow.Belongs.{Belongs}
use Rattle.seen_connections.specs.declared.flow.Flow.{Flow}
use Rattle.seen_connections.specs.declared.flow.Opened.{Opened}
use Rattle.seen_connections.specs.declared.flow.Opening.TheVariants as opening
use Rattle.seen_connections.specs.declared.flow.Opening.{Opening}
use Rattle.seen_connections.specs.declared.flow_list.Found.{Found}
use Rattle.seen_connections.specs.declared.known_keys.KnownKey.{KnownKey}
use Rattle.stream_lanes.proofs.Lists.{in_set, set_other, set_same}
use Rattle.own_runs.proofs.Own.{AnswerIs, Drawn, IsOwn, OpeningIs, end_of, same_place}
use Rattle.own_runs.proofs.OwnFlows.{Each, FlowOn, counted_on, each_end, each_set, told}
use Rattle.own_runs.proofs.TokenSegments.{Asked, IsBehind, IsCapable}
use Rattle.own_runs.proofs.TokenState.{TokensHold, begins_none, found_there, right_so, some_found}

-- ---- lists

in_end : {X : Type 0} → (xs : List X) (y : X) (i : ℕ) (z : X) → slice_get (xs ++ y ∷ []) i ≡ Some z → (slice_get xs i ≡ Some z) ⊎ ((i ≡ length xs) × (y ≡ z))
in_end [] y zero z at = inr (refl, some_same y z at)
in_end [] y (suc i) z at = cc
in_end (x ∷ xs) y zero z at = inl at
in_end (x ∷ xs) y (suc i) z at = by (in_end xs y i z at)
  where
    by : (slice_get xs i ≡ Some z) ⊎ ((i ≡ length xs) × (y ≡ z)) → (slice_get xs i ≡ Some z) ⊎ ((suc i ≡ suc (length xs)) × (y ≡ z))
    by (inl there) = inl there
    by (inr both) = inr (ap suc both.0, both.1)

-- what answers the SYN of a flow finds it unopened
answer_needs : (seen : Seen) (flow : Flow) (a : Answer) → answer_of seen flow ≡ Some a → flow.opened ≡ None
answer_needs seen flow a is = by flow.opened is
  where
    rest : Option Answer
    rest = if not (same_end seen.source flow.other) || not (is_acknowledged_by seen.segment.head.ack flow) then None else first_answer flow.opening (option_octets seen.segment.options)

    never : (syn ack : Bool) → (if not syn || (not ack || true) then None else rest) ≡ Some a → ⊥
    never true true is = cc
    never true false is = cc
    never false ack is = cc

    by : (o : Option Opened) → (if not seen.segment.head.syn || (not seen.segment.head.ack_set || not (is_none o)) then None else rest) ≡ Some a → o ≡ None
    by None is = refl
    by (Some opened) is = absurd (never seen.segment.head.syn seen.segment.head.ack_set is)

module _ (d : Drawn) where
  -- the flow of path 0 is open
  pub record IsOpen (flows : List Flow) : Type 0 where
    pub place : ℕ
    pub flow : Flow
    pub there : slice_get flows place ≡ Some flow
    pub opener : flow.opener ≡ end_of 0 A
    pub opened : is_some flow.opened ≡ true

  -- a flow of path 0 stands there
  pub record BeganOn (flows : List Flow) (place : ℕ) : Type 0 where
    pub flow : Flow
    pub there : slice_get flows place ≡ Some flow
    pub opener : flow.opener ≡ end_of 0 A

  pub record OneHolds (state : SeenFlows) : Type 0 where
    -- of each path one flow
    pub alone : (i j : ℕ) (f g : Flow) → slice_get state.flows i ≡ Some f → slice_get state.flows j ≡ Some g → f.opener ≡ g.opener → i ≡ j
    pub capable : Each (λ f. IsCapable f.opening → f.opener ≡ end_of 0 A) state.flows
    pub begun : (state.connections ≡ []) ⊎ IsOpen state.flows
    pub few : (i : ℕ) (keys : Keys) → slice_get state.connections i ≡ Some keys → i ≡ 0
    pub first : (i : ℕ) (keys : Keys) → slice_get state.connections i ≡ Some keys → BeganOn state.flows keys.flow
    pub known : Each (λ (k : KnownKey). k.connection ≡ 0) state.known
    pub belongs : Each (λ f. IfSome f.belongs (λ b. b.connection ≡ 0)) state.flows

  joins_one : (known : List KnownKey) → Each (λ (k : KnownKey). k.connection ≡ 0) known → (token : ℕ) → IfSome (joined (find (has_token token) known)) (λ b. b.connection ≡ 0)
  joins_one [] each token = tt
  joins_one (k ∷ known) each token = by (has_token token k) (joins_one known (λ i x at. each (suc i) x at) token)
    where
      by : (b : Bool) → IfSome (joined (find (has_token token) known)) (λ b. b.connection ≡ 0) → IfSome (joined (if b then Some k else find (has_token token) known)) (λ b. b.connection ≡ 0)
      by true rest = each 0 k refl
      by false rest = rest

  module _ (U T V W : Type 0) (state : SeenFlows) (packet : ℕ) (seen : Seen) (own : IsOwn d seen) (is : IsBehind U T V W d seen own) (h : TokensHold d U T state) (one : OneHolds state)
      (only : seen.segment.head.syn ≡ true → IfSome (Asked seen) (λ o. IsCapable o → own.path ≡ 0)) where
    abbrev found : Option Found
    found = flow_between (ends_in seen) state.flows

    same_one : OneHolds (record state { last = packet })
    same_one = record { alone = one.alone; capable = one.capable; begun = one.begun; few = one.few; first = one.first; known = one.known; belongs = one.belongs }

    -- ---- a SYN that begins a flow

    module _ (begin : begins seen found ≡ true) (o : Opening) (asks : Asked seen ≡ Some o) where
      syn : seen.segment.head.syn ≡ true
      syn = (and_parts seen.segment.head.syn _ (and_parts (is_syn seen) _ begin).0).0

      from : own.from ≡ A
      from = (subst (λ (a : Option Opening). IfSome a (λ o. (own.from ≡ A) × OpeningIs d own.path o)) asks (own.asks syn)).0

      source : seen.source ≡ end_of own.path A
      source = own.source ∙ ap (end_of own.path) from

      destination : seen.destination ≡ end_of own.path B
      destination = own.destination ∙ ap (λ (s : Side). end_of own.path (peer s)) from

      -- its path had none
      no_other : (i : ℕ) (f : Flow) → slice_get state.flows i ≡ Some f → f.opener ≡ seen.source → ⊥
      no_other i f at same =
          let on = h.own.flows i f at in
          let path : on.0 ≡ own.path = (same_place on.0 own.path A A (sym on.1.opener ∙ same ∙ source)).0 in
          let there = some_found state.flows (ends_in seen) i f h.going at (between (on.1.other ∙ ap (λ (k : ℕ). end_of k B) path ∙ sym destination)) in
          none_some there.0 (sym (begins_none d U T V W state packet seen own is h begin) ∙ there.1)
        where
          none_some : (f : Found) → (let none : Option Found = None in none) ≡ Some f → ⊥
          none_some f e = cc

          between : f.other ≡ seen.destination → is_between (ends_in seen) f ≡ true
          between other =
              ap (λ (b : Bool). (b && same_end f.other seen.destination) || goes (turned (ends_in seen)) f) ((same_end_decides f.opener seen.source).1 same)
              ∙ ap (λ (b : Bool). b || goes (turned (ends_in seen)) f) ((same_end_decides f.other seen.destination).1 other)

      abbrev new : Flow
      new = begun packet seen o (belongs_by o state.known)

      belongs_new : (o : Opening) → IfSome (belongs_by o state.known) (λ b. b.connection ≡ 0)
      belongs_new (opening.Join token nonce) = joins_one state.known one.known token
      belongs_new (opening.Capable checksums) = tt

      begun_one : OneHolds (begun_with state packet seen found (Some o)).now
      begun_one = record {
        alone = λ i j f g at there same. both i j f g same (in_end state.flows new i f at) (in_end state.flows new j g there);
        capable = each_end (λ f. IsCapable f.opening → f.opener ≡ end_of 0 A) state.flows new one.capable
            (λ capable. source ∙ ap (λ (k : ℕ). end_of k A) (subst (λ (a : Option Opening). IfSome a (λ o. IsCapable o → own.path ≡ 0)) asks (only syn) capable));
        begun = ⊎_elim (λ none. inl none) (λ open_one. inr (record {
          place = open_one.place;
          flow = open_one.flow;
          there = before_end state.flows (new ∷ []) open_one.place open_one.flow open_one.there;
          opener = open_one.opener;
          opened = open_one.opened;
        })) one.begun;
        few = one.few;
        first = λ i keys at. let was = one.first i keys at in record { flow = was.flow; there = before_end state.flows (new ∷ []) keys.flow was.flow was.there; opener = was.opener };
        known = one.known;
        belongs = each_end (λ f. IfSome f.belongs (λ b. b.connection ≡ 0)) state.flows new one.belongs (belongs_new o);
      }
        where
          both : (i j : ℕ) (f g : Flow) → f.opener ≡ g.opener → (slice_get state.flows i ≡ Some f) ⊎ ((i ≡ length state.flows) × (new ≡ f))
              → (slice_get state.flows j ≡ Some g) ⊎ ((j ≡ length state.flows) × (new ≡ g)) → i ≡ j
          both i j f g same (inl at) (inl there) = one.alone i j f g at there same
          both i j f g same (inl at) (inr last) = absurd (no_other i f at (same ∙ sym (ap (λ (x : Flow). x.opener) last.1)))
          both i j f g same (inr last) (inl there) = absurd (no_other j g there (sym same ∙ sym (ap (λ (x : Flow). x.opener) last.1)))
          both i j f g same (inr last) (inr other) = last.0 ∙ sym other.0

    begins_one : begins seen found ≡ true → OneHolds (begun_with state packet seen found (Asked seen)).now
    begins_one begin = by (Asked seen) refl
      where
        by : (o : Option Opening) → Asked seen ≡ o → OneHolds (begun_with state packet seen found o).now
        by None asks = subst (λ (f : Option Found). OneHolds (begun_with state packet seen f None).now) (sym (begins_none d U T V W state packet seen own is h begin)) same_one
        by (Some o) asks = begun_one begin o asks

    -- ---- a segment of a flow

    module _ (f : Found) (e : found ≡ Some f) (none : begins seen found ≡ false) where
      abbrev it : Flow
      it = counted seen.is_cut true f.flow

      there : slice_get state.flows f.index ≡ Some f.flow
      there = (found_there state.flows (ends_in seen) f e).0

      right : (answered state seen it (answer_of seen it)).wrong_token ≡ None
      right =
          let same : taken state packet seen true ≡ gone_on state packet seen true (Some f) =
          ap (λ (b : Bool). if b then begun_with state packet seen found (Asked seen) else gone_on state packet seen true found) none ∙ ap (gone_on state packet seen true) e in
          subst (λ (t : Taken). IfSome t.place (λ p. p.wrong_token ≡ None)) same (right_so d U T V W state packet seen own is h)

      module _ (a : Option Answer) (is_answer : answer_of seen it ≡ a) where
        abbrev next : Flow
        next = flow_after seen (answered state seen it a) it

        was : (i : ℕ) (x : Flow) → slice_get (set state.flows f.index next) i ≡ Some x → (w : Flow) × (slice_get state.flows i ≡ Some w) × (w.opener ≡ x.opener)
        was i x at = by (in_set state.flows f.index next i x at)
          where
            by : ((i ≡ f.index) × (next ≡ x)) ⊎ ((i ≡ f.index → ⊥) × (slice_get state.flows i ≡ Some x)) → (w : Flow) × (slice_get state.flows i ≡ Some w) × (w.opener ≡ x.opener)
            by (inl here) = (f.flow, ap (slice_get state.flows) here.0 ∙ there, ap (λ (y : Flow). y.opener) here.1)
            by (inr other) = (x, other.1, refl)

        alone_next : (i j : ℕ) (x y : Flow) → slice_get (set state.flows f.index next) i ≡ Some x → slice_get (set state.flows f.index next) j ≡ Some y → x.opener ≡ y.opener → i ≡ j
        alone_next i j x y at too same = let w = was i x at in let v = was j y too in one.alone i j w.0 v.0 w.1 v.1 (w.2 ∙ same ∙ sym v.2)

        capable_next : Each (λ f. IsCapable f.opening → f.opener ≡ end_of 0 A) (set state.flows f.index next)
        capable_next = each_set (λ f. IsCapable f.opening → f.opener ≡ end_of 0 A) state.flows f.index next one.capable (one.capable f.index f.flow there)

        in_place : (i j : ℕ) → (i ≡ j) ⊎ (i ≡ j → ⊥)
        in_place zero zero = inl refl
        in_place zero (suc j) = inr (λ same. cc)
        in_place (suc i) zero = inr (λ same. cc)
        in_place (suc i) (suc j) = ⊎_elim (λ same. inl (ap suc same)) (λ apart. inr (λ same. apart (omega (arith, same)))) (in_place i j)

        -- one of path 0 stays there
        first_next : (place : ℕ) → BeganOn state.flows place → BeganOn (set state.flows f.index next) place
        first_next place at = by (in_place place f.index)
          where
            by : (place ≡ f.index) ⊎ (place ≡ f.index → ⊥) → BeganOn (set state.flows f.index next) place
            by (inl same) =
                let is_it : at.flow ≡ f.flow = some_same at.flow f.flow (sym at.there ∙ ap (slice_get state.flows) same ∙ there) in
                record {
                  flow = next;
                  there = ap (slice_get (set state.flows f.index next)) same ∙ set_same state.flows f.index next f.flow there;
                  opener = sym (ap (λ (x : Flow). x.opener) is_it) ∙ at.opener;
                }
            by (inr apart) = record { flow = at.flow; there = set_other state.flows f.index next place apart ∙ at.there; opener = at.opener }

        -- an open flow stays open
        open_next : (is_some f.flow.opened ≡ true → is_some next.opened ≡ true) → IsOpen state.flows → IsOpen (set state.flows f.index next)
        open_next keeps at = by (in_place at.place f.index)
          where
            by : (at.place ≡ f.index) ⊎ (at.place ≡ f.index → ⊥) → IsOpen (set state.flows f.index next)
            by (inl same) =
                let is_it : at.flow ≡ f.flow = some_same at.flow f.flow (sym at.there ∙ ap (slice_get state.flows) same ∙ there) in
                record {
                  place = f.index;
                  flow = next;
                  there = set_same state.flows f.index next f.flow there;
                  opener = sym (ap (λ (x : Flow). x.opener) is_it) ∙ at.opener;
                  opened = keeps (ap (λ (x : Flow). is_some x.opened) (sym is_it) ∙ at.opened);
                }
            by (inr apart) = record {
              place = at.place;
              flow = at.flow;
              there = set_other state.flows f.index next at.place apart ∙ at.there;
              opener = at.opener;
              opened = at.opened;
            }

        belongs_next : IfSome next.belongs (λ b. b.connection ≡ 0) → Each (λ f. IfSome f.belongs (λ b. b.connection ≡ 0)) (set state.flows f.index next)
        belongs_next is = each_set (λ f. IfSome f.belongs (λ b. b.connection ≡ 0)) state.flows f.index next one.belongs is

      abbrev After : Option Answer → Type 0
      After a = OneHolds (record state {
        flows = set state.flows f.index (flow_after seen (answered state seen it a) it);
        connections = connections_after state f.index a;
        known = known_after state a;
        last = packet;
      })

      -- none is answered, or a join
      none_after : answer_of seen it ≡ None → After None
      none_after is = record {
        alone = alone_next None is;
        capable = capable_next None is;
        begun = ⊎_elim (λ empty. inl empty) (λ at. inr (open_next None is (λ some. some) at)) one.begun;
        few = one.few;
        first = λ i keys at. first_next None is keys.flow (one.first i keys at);
        known = one.known;
        belongs = belongs_next None is (one.belongs f.index f.flow there);
      }

      tied_one : (opened : Opened) (belongs : Option Belongs) (wrong : Option WrongToken) → IfSome belongs (λ b. b.connection ≡ 0) → (tied opened belongs wrong).wrong_token ≡ None
          → IfSome (tied opened belongs wrong).belongs (λ b. b.connection ≡ 0)
      tied_one opened (Some belongs) wrong is right = is
      tied_one opened None (Some wrong) is right = cc
      tied_one opened None None is right = tt

      tied_open : (opened : Opened) (belongs : Option Belongs) (wrong : Option WrongToken) → is_some (tied opened belongs wrong).opened ≡ true
      tied_open opened (Some belongs) wrong = refl
      tied_open opened None (Some wrong) = refl
      tied_open opened None None = refl

      join_after : (join : JoinAnswer) → answer_of seen it ≡ Some (answer.Join join) → After (Some (answer.Join join))
      join_after join is = record {
        alone = alone_next (Some (answer.Join join)) is;
        capable = capable_next (Some (answer.Join join)) is;
        begun = ⊎_elim (λ empty. inl empty)
            (λ at. inr (open_next (Some (answer.Join join)) is (λ some. tied_open (opened_by seen join.answer) it.belongs (wrong_token 0 state.connections it.first join)) at)) one.begun;
        few = one.few;
        first = λ i keys at. first_next (Some (answer.Join join)) is keys.flow (one.first i keys at);
        known = one.known;
        belongs = belongs_next (Some (answer.Join join)) is
            (tied_one (opened_by seen join.answer) it.belongs (wrong_token 0 state.connections it.first join) (one.belongs f.index f.flow there)
            (subst (λ (a : Option Answer). (answered state seen it a).wrong_token ≡ None) is right));
      }

      -- B's key begins the connection
      key_after : (key : ℕ) (checksums : Bool) → answer_of seen it ≡ Some (answer.Key key checksums) → After (Some (answer.Key key checksums))
      key_after key checksums is = record {
        alone = alone_next (Some (answer.Key key checksums)) is;
        capable = capable_next (Some (answer.Key key checksums)) is;
        begun = inr (record {
          place = f.index;
          flow = flow_after seen (answered state seen it (Some (answer.Key key checksums))) it;
          there = set_same state.flows f.index (flow_after seen (answered state seen it (Some (answer.Key key checksums))) it) f.flow there;
          opener = first_path;
          opened = refl;
        });
        few = λ i keys at. first_of_all i keys (subst (λ (cs : List Keys). slice_get (cs ++ record { a = None; b = key; checksums = checksums; flow = f.index } ∷ []) i ≡ Some keys) no_other at);
        first = λ i keys at. began i keys (subst (λ (cs : List Keys). slice_get (cs ++ record { a = None; b = key; checksums = checksums; flow = f.index } ∷ []) i ≡ Some keys) no_other at);
        known = each_end (λ (k : KnownKey). k.connection ≡ 0) state.known _ one.known (ap length no_other);
        belongs = belongs_next (Some (answer.Key key checksums)) is (ap length no_other);
      }
        where
          capable_of : (path : ℕ) (o : Opening) → AnswerIs d path o (answer.Key key checksums) → IsCapable o
          capable_of path (opening.Capable used) said = tt
          capable_of path (opening.Join token nonce) said = said

          on : (path : ℕ) × FlowOn d path f.flow
          on = h.own.flows f.index f.flow there

          said : AnswerIs d on.0 it.opening (answer.Key key checksums)
          said = subst (λ (a : Option Answer). IfSome a (AnswerIs d on.0 it.opening)) is (told d state packet seen own h.own on.0 it (counted_on d state packet seen own h.own on.0 f.flow on.1))

          first_path : f.flow.opener ≡ end_of 0 A
          first_path = one.capable f.index f.flow there (capable_of on.0 it.opening said)

          no_other : state.connections ≡ []
          no_other = by one.begun
            where
              by : (state.connections ≡ []) ⊎ IsOpen state.flows → state.connections ≡ []
              by (inl empty) = empty
              by (inr at) =
                  let same = one.alone at.place f.index at.flow f.flow at.there there (at.opener ∙ sym first_path) in
                  let is_it : at.flow ≡ f.flow = some_same at.flow f.flow (sym at.there ∙ ap (slice_get state.flows) same ∙ there) in
                  absurd (false≢true (sym (ap is_some (answer_needs seen it (answer.Key key checksums) is)) ∙ (ap (λ (x : Flow). is_some x.opened) (sym is_it) ∙ at.opened)))

          began : (i : ℕ) (keys : Keys) → slice_get (record { a = None; b = key; checksums = checksums; flow = f.index } ∷ []) i ≡ Some keys
              → BeganOn (set state.flows f.index (flow_after seen (answered state seen it (Some (answer.Key key checksums))) it)) keys.flow
          began zero keys at =
              subst (λ (k : Keys). BeganOn (set state.flows f.index (flow_after seen (answered state seen it (Some (answer.Key key checksums))) it)) k.flow)
              (some_same (record { a = None; b = key; checksums = checksums; flow = f.index }) keys at)
              (record {
                flow = flow_after seen (answered state seen it (Some (answer.Key key checksums))) it;
                there = set_same state.flows f.index (flow_after seen (answered state seen it (Some (answer.Key key checksums))) it) f.flow there;
                opener = first_path;
              })
          began (suc i) keys at = cc

          first_of_all : (i : ℕ) (keys : Keys) → slice_get (record { a = None; b = key; checksums = checksums; flow = f.index } ∷ []) i ≡ Some keys → i ≡ 0
          first_of_all zero keys at = refl
          first_of_all (suc i) keys at = cc

      gone_at : (a : Option Answer) → answer_of seen it ≡ a → After a
      gone_at None is = none_after is
      gone_at (Some (answer.Key key checksums)) is = key_after key checksums is
      gone_at (Some (answer.Join join)) is = join_after join is

    goes_one : begins seen found ≡ false → OneHolds (gone_on state packet seen true found).now
    goes_one none = by found refl
      where
        by : (o : Option Found) → found ≡ o → OneHolds (gone_on state packet seen true o).now
        by None e = same_one
        by (Some f) e = gone_at f e none (answer_of seen (counted seen.is_cut true f.flow)) refl

    pub taken_one : OneHolds (taken state packet seen true).now
    taken_one = by (begins seen found) refl
      where
        by : (b : Bool) → begins seen found ≡ b → OneHolds (if b then begun_with state packet seen found (Asked seen) else gone_on state packet seen true found).now
        by true begin = begins_one begin
        by false none = goes_one none

  -- ---- A's key

  learnt_one : (connection a : ℕ) (keys : Option Keys) (state : SeenFlows) → slice_get state.connections connection ≡ keys → connection ≡ 0 → OneHolds state → OneHolds (learnt_by state connection a keys)
  learnt_one connection a None state has first one = one
  learnt_one connection a (Some keys) state has first one = record {
    alone = one.alone;
    capable = one.capable;
    begun = ⊎_elim (λ empty. inl (ap (λ (cs : List Keys). set cs connection (record keys { a = Some a })) empty)) (λ at. inr at) one.begun;
    few = λ i other at. ⊎_elim (λ here. here.0 ∙ first) (λ before. one.few i other before.1) (in_set state.connections connection (record keys { a = Some a }) i other at);
    first = λ i other at. ⊎_elim (λ here. subst (λ (k : Keys). BeganOn state.flows k.flow) here.1 (one.first connection keys has)) (λ before. one.first i other before.1)
        (in_set state.connections connection (record keys { a = Some a }) i other at);
    known = each_end (λ (k : KnownKey). k.connection ≡ 0) state.known _ one.known first;
    belongs = one.belongs;
  }

  pub key_one : (connection : ℕ) (before told : Option ℕ) (state : SeenFlows) → connection ≡ 0 → OneHolds state → OneHolds (with_key connection before told state)
  key_one connection None (Some a) state first one = learnt_one connection a (slice_get state.connections connection) state refl first one
  key_one connection None None state first one = one
  key_one connection (Some known) None state first one = one
  key_one connection (Some known) (Some a) state first one = one

  pub nothing_one : OneHolds nothing_seen
  nothing_one = record {
    alone = λ i j f g at there same. absurd (none i at);
    capable = λ i f at. absurd (none i at);
    begun = inl refl;
    few = λ i keys at. absurd (none i at);
    first = λ i keys at. absurd (none i at);
    known = λ i k at. absurd (none i at);
    belongs = λ i f at. absurd (none i at);
  }
    where
      none : {X : Type 0} {x : X} → (i : ℕ) → slice_get [] i ≡ Some x → ⊥
      none i e = cc
