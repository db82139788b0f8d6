-- What is found of a segment of a trace that bears on tokens: A's SYN of path 0 asks for Multipath TCP, the answer that shows B's key acknowledges
-- it, and what asks for a join comes behind both.
use Rattle.std.proofs.Common.{◌≡◌, refl, sym, ap, ◌∙◌, subst, ℕ, zero, suc, ◌+◌, ◌%◌, ◌^◌, ◌≤◌, ◌<◌, ◌&&◌, not, Bool, true, false, if◌then◌else◌, Option, Some, None, is_some, option_map, unwrap_or, List, [], ◌∷◌, length, nat_lt, arith}
use Rattle.std.specs.Prelude.{All, IfSome}
use Rattle.std.specs.List.{list_any}
use Rattle.std.specs.Option.{option_or}
use Rattle.std.proofs.lemmas.Bool.{false≢true}
use Rattle.std.proofs.lemmas.List.Elements.{All-head}
use Rattle.capture_reader.specs.Seen.{Seen}
use Rattle.link_trace.specs.declared.sent.Sent.{Sent}
use Rattle.mptcp_options.proofs.OptionLaws.{read_again}
use Rattle.mptcp_options.specs.Text.{Fits}
use Rattle.mptcp_options.specs.declared.capable.CapableKeys.TheVariants.{NoKey, Sender}
use Rattle.path_core.specs.End.{PathEnd}
use Rattle.path_core.specs.MpJoin.{is_joined, join_options, peer_key_of}
use Rattle.key_material.specs.KeyDigest.{token_of}
use Rattle.mptcp_options.specs.declared.join.JoinForm.TheVariants as form
use Rattle.std.proofs.lemmas.Bool.{lt-ltb}
use Rattle.path_core.specs.OptionsOut.{capable_options}
use Rattle.path_core.specs.Profile.{Profile}
use Rattle.path_segments.specs.Options.{PlainOption, said_option}
use Rattle.path_segments.specs.Spelled.{PlainSegment}
use Rattle.path_segments.specs.Spelling.{subflow_number}
use Rattle.path_segments.specs.declared.segment.PathOption.TheVariants.{Capable, Join}
use Rattle.seen_connections.specs.Asked.{answered_by, asked_by, first_answer, first_asked}
use Rattle.seen_connections.specs.declared.flow.Opening.{Opening}
use Rattle.seen_connections.specs.declared.flow.Opening.TheVariants as opening
use Rattle.segment_wire.specs.Options.{option_octets}
use Rattle.segment_wire.specs.declared.head.Head.{Head}
use Rattle.sides.specs.Side.{peer}
use Rattle.sides.specs.declared.side.Side.TheVariants.{A, B}
use Rattle.sides.specs.declared.side.Side.{Side}
use Rattle.world_laws.specs.Openings.{Start, path_begins}
use Rattle.mptcp_options.specs.Value as wire
use Rattle.own_runs.proofs.LateJoins.{ComesBehind, Says}
use Rattle.own_runs.proofs.Learning.{IsAlone, IsAnswer, shows_key}
use Rattle.own_runs.proofs.Moments.{IsSpoken}
use Rattle.own_runs.proofs.Own.{Drawn, IsOwn, OpeningIs, own_initial}
use Rattle.own_runs.proofs.OwnTrace.{answer_are, asked_are, fits, heads_are, is_own, from_is, number, path_is, seen_of, texts}
use Rattle.own_runs.proofs.Values.{drawn}

-- an MP_CAPABLE asks
abbrev pub IsCapable : Opening → Type 0
IsCapable (opening.Capable checksums) = Unit {0}
IsCapable (opening.Join token nonce) = ⊥

-- what asks for a join comes behind a key
abbrev pub ComesLate : Type 0 → Opening → Type 0
ComesLate T (opening.Capable checksums) = Unit {0}
ComesLate T (opening.Join token nonce) = T

-- what an MP_CAPABLE is answered
abbrev pub AnswersAny : Seen → Type 0
AnswersAny seen = (checksums : Bool) → is_some (first_answer (opening.Capable checksums) (option_octets seen.segment.options)) ≡ true

abbrev pub Asked : Seen → Option Opening
Asked seen = first_asked (option_octets seen.segment.options)

-- A's SYN of path 0
pub record Opens (d : Drawn) (seen : Seen) (own : IsOwn d seen) : Type 0 where
  pub path : own.path ≡ 0
  pub from : own.from ≡ A
  pub syn : seen.segment.head.syn ≡ true
  pub ack : seen.segment.head.ack_set ≡ false
  pub rst : seen.segment.head.rst ≡ false
  pub asks : is_some (Asked seen) ≡ true

-- the SYN/ACK of path 0 that shows B's key
pub record Shows (d : Drawn) (seen : Seen) (own : IsOwn d seen) : Type 0 where
  pub path : own.path ≡ 0
  pub from : own.from ≡ B
  pub syn : seen.segment.head.syn ≡ true
  pub ack : seen.segment.head.ack_set ≡ true
  pub number : seen.segment.head.ack ≡ (own_initial d 0 A + 1) % 2 ^ 32
  pub answers : AnswersAny seen

-- where these were seen before it, A's SYN of path 0 and an answer to it, and by it
pub record IsBehind (U T V W : Type 0) (d : Drawn) (seen : Seen) (own : IsOwn d seen) : Type 0 where
  pub acks : own.from ≡ B → seen.segment.head.syn ≡ true → seen.segment.head.ack_set ≡ true
  pub late : seen.segment.head.syn ≡ true → IfSome (Asked seen) (ComesLate T)
  pub first : own.path ≡ 0 → seen.segment.head.syn ≡ true → IfSome (Asked seen) IsCapable
  pub opens : V → Opens d seen own
  pub shows : W → Shows d seen own × U

module _ (U T : Type 0) (start : Start) (x : Sent) (s : IsSpoken (ComesBehind U T) start x) (short : length x.octets ≤ 65515) where
  abbrev c : Profile
  c = (path_begins start x.path s.plan).profile

  abbrev sg : PlainSegment
  sg = s.segment

  abbrev d : Drawn
  d = drawn start

  abbrev seen : Seen
  seen = seen_of (ComesBehind U T) start x s short

  abbrev own : IsOwn d seen
  own = is_own (ComesBehind U T) start x s short

  syn_so : seen.segment.head.syn ≡ true → sg.syn ≡ true
  syn_so is = sym (ap (λ (h : Head). h.syn) (heads_are c.spelling x.from sg)) ∙ is

  to_syn : sg.syn ≡ true → seen.segment.head.syn ≡ true
  to_syn is = ap (λ (h : Head). h.syn) (heads_are c.spelling x.from sg) ∙ is

  ack_so : seen.segment.head.ack_set ≡ is_some sg.acknowledged
  ack_so = ap (λ (h : Head). h.ack_set) (heads_are c.spelling x.from sg)

  rst_so : seen.segment.head.rst ≡ sg.rst
  rst_so = ap (λ (h : Head). h.rst) (heads_are c.spelling x.from sg)

  asked_so : Asked seen ≡ first_asked (texts c.spelling x.from sg.options)
  asked_so = asked_are c.spelling x.from sg s.spoken.tells.sayable (fits (ComesBehind U T) start x s short)

  answer_so : (o : Opening) → first_answer o (option_octets seen.segment.options) ≡ first_answer o (texts c.spelling x.from sg.options)
  answer_so o = answer_are c.spelling x.from sg s.spoken.tells.sayable (fits (ComesBehind U T) start x s short) o

  -- a SYN of path 0 has these options
  zero_options : sg.syn ≡ true → x.path ≡ 0 → sg.options ≡ capable_options c x.from s.end
  zero_options syn first = s.spoken.syn syn ∙ by (is_joined c) (ap (nat_lt 0) first)
    where
      by : (b : Bool) → b ≡ false → (if b then join_options c x.from s.end.modes else capable_options c x.from s.end) ≡ capable_options c x.from s.end
      by false is = refl
      by true is = absurd (false≢true (sym is))

  -- A's asks for Multipath TCP
  capable_asked : (side : Side) (e : PathEnd) (options : List PlainOption) → side ≡ A → options ≡ capable_options c side e → All (λ o. Fits (said_option c.spelling side o)) options
      → first_asked (texts c.spelling side options) ≡ Some (opening.Capable c.spelling.checksums)
  capable_asked A e options of_a are fit =
      let o : PlainOption = Capable c.spelling.checksums false NoKey in
      let fit_o = All-head (λ o. Fits (said_option c.spelling A o)) o [] (subst (All (λ o. Fits (said_option c.spelling A o))) are fit) in
      ap (λ (xs : List PlainOption). first_asked (texts c.spelling A xs)) are
      ∙ ap (λ (m : wire.Meaning). option_or (asked_by m) None) (read_again (said_option c.spelling A o) false tt fit_o)
  capable_asked B e options of_a are fit = cc

  asked_at_zero : x.path ≡ 0 → x.from ≡ A → sg.syn ≡ true → Asked seen ≡ Some (opening.Capable c.spelling.checksums)
  asked_at_zero first of_a syn = asked_so ∙ capable_asked x.from s.end sg.options of_a (zero_options syn first) (fits (ComesBehind U T) start x s short)

  -- what is B's on path 0, where it shows a key
  key_answers : (side : Side) (e : PathEnd) (options : List PlainOption) → side ≡ B → options ≡ capable_options c side e → list_any shows_key options ≡ true
      → All (λ o. Fits (said_option c.spelling side o)) options → (used : Bool) → is_some (first_answer (opening.Capable used) (texts c.spelling side options)) ≡ true
  key_answers A e options of_b are shows fit used = cc
  key_answers B e options of_b are shows fit used = by (e.modes.capable_asked && not e.modes.identity) are
    where
      o : PlainOption
      o = Capable c.spelling.checksums false (Sender e.modes.own_key)

      by : (b : Bool) → options ≡ (if b then o ∷ [] else []) → is_some (first_answer (opening.Capable used) (texts c.spelling B options)) ≡ true
      by true is =
          let fit_o = All-head (λ o. Fits (said_option c.spelling B o)) o [] (subst (All (λ o. Fits (said_option c.spelling B o))) is fit) in
          ap (λ (xs : List PlainOption). is_some (first_answer (opening.Capable used) (texts c.spelling B xs))) is
          ∙ ap (λ (m : wire.Meaning). is_some (option_or (answered_by (opening.Capable used) m) None)) (read_again (said_option c.spelling B o) false tt fit_o)
      by false is = absurd (false≢true (sym (ap (list_any shows_key) is) ∙ shows))

  -- none asks but A
  asker : seen.segment.head.syn ≡ true → (o : Opening) → Asked seen ≡ Some o → x.from ≡ A
  asker syn o is = sym (from_is (ComesBehind U T) start x s short) ∙ (subst (λ (a : Option Opening). IfSome a (λ o. (own.from ≡ A) × OpeningIs d own.path o)) is (own.asks syn)).0

  each_asked : (P : Opening → Type 0) → ((o : Opening) → Asked seen ≡ Some o → P o) → IfSome (Asked seen) P
  each_asked P all = by (Asked seen) refl
    where
      by : (o : Option Opening) → Asked seen ≡ o → IfSome o P
      by None is = tt
      by (Some o) is = all o is

  some_same : {X : Type 0} → (y z : X) → (let one : Option X = Some y in one) ≡ Some z → y ≡ z
  some_same y z is = cc

  no_join : (used : Bool) (token nonce : ℕ) → (let one : Option Opening = Some (opening.Capable used) in one) ≡ Some (opening.Join token nonce) → ⊥
  no_join used token nonce is = cc

  -- on another path A's SYN asks to join
  join_asked : (side : Side) (e : PathEnd) (options : List PlainOption) → side ≡ A → options ≡ join_options c side e.modes → All (λ o. Fits (said_option c.spelling side o)) options
      → IfSome (first_asked (texts c.spelling side options)) (λ o. IsCapable o → ⊥)
  join_asked A e options of_a are fit =
      let o : PlainOption = Join (form.Syn c.backup c.spelling.path (token_of (peer_key_of e.modes)) e.modes.own_nonce) in
      let fit_o = All-head (λ o. Fits (said_option c.spelling A o)) o [] (subst (All (λ o. Fits (said_option c.spelling A o))) are fit) in
      let asked : first_asked (texts c.spelling A options) ≡ Some (opening.Join (token_of (peer_key_of e.modes)) e.modes.own_nonce) =
      ap (λ (xs : List PlainOption). first_asked (texts c.spelling A xs)) are
      ∙ ap (λ (m : wire.Meaning). option_or (asked_by m) None) (read_again (said_option c.spelling A o) false tt fit_o) in
      subst (λ (a : Option Opening). IfSome a (λ o. IsCapable o → ⊥)) (sym asked) (λ none. none)
  join_asked B e options of_a are fit = cc

  -- what asks for MP_CAPABLE is on path 0
  pub asks_only : seen.segment.head.syn ≡ true → IfSome (Asked seen) (λ o. IsCapable o → own.path ≡ 0)
  asks_only syn = each_asked (λ o. IsCapable o → own.path ≡ 0) (λ o is capable. by x.path refl o is capable)
    where
      joined : (n : ℕ) → x.path ≡ suc n → sg.options ≡ join_options c x.from s.end.modes
      joined n at = s.spoken.syn (syn_so syn) ∙ ap (λ (b : Bool). if b then join_options c x.from s.end.modes else capable_options c x.from s.end) (ap (nat_lt 0) at ∙ lt-ltb 0 (suc n) (omega arith))

      by : (n : ℕ) → x.path ≡ n → (o : Opening) → Asked seen ≡ Some o → IsCapable o → own.path ≡ 0
      by zero at o is capable = path_is (ComesBehind U T) start x s short ∙ at
      by (suc n) at o is capable =
          absurd (subst (λ (a : Option Opening). IfSome a (λ o. IsCapable o → ⊥)) (sym asked_so ∙ is)
          (join_asked x.from s.end sg.options (asker syn o is) (joined n at) (fits (ComesBehind U T) start x s short)) capable)

  pub behind : IsBehind U T (Says start A IsAlone x sg) (Says start B IsAnswer x sg) d seen own
  behind = record {
    acks = λ of_b syn. ack_so ∙ s.also.acks (sym (from_is (ComesBehind U T) start x s short) ∙ of_b) (syn_so syn);
    late = λ syn. each_asked (ComesLate T) (λ o is. late syn o is);
    first = λ at syn. each_asked IsCapable (λ o is.
        subst IsCapable (some_same (opening.Capable c.spelling.checksums) o (sym (asked_at_zero (sym path ∙ at) (asker syn o is) (syn_so syn)) ∙ is)) tt);
    opens = λ said. record {
      path = path ∙ said.0;
      from = from_is (ComesBehind U T) start x s short ∙ said.1;
      syn = to_syn said.2.syn;
      ack = ack_so ∙ ap is_some said.2.none;
      rst = rst_so ∙ said.2.rst;
      asks = ap is_some (asked_at_zero said.0 said.1 said.2.syn);
    };
    shows = λ said. (
      record {
        path = path ∙ said.0;
        from = from_is (ComesBehind U T) start x s short ∙ said.1;
        syn = to_syn said.2.syn;
        ack = ack_so ∙ ap is_some said.2.acknowledged;
        number = acked x.from said.1 (ap (λ (h : Head). h.ack) (heads_are c.spelling x.from sg)) said.2.acknowledged said.0;
        answers = λ used. ap is_some (answer_so (opening.Capable used)) ∙ key_answers x.from s.end sg.options said.1 (zero_options said.2.syn said.0) said.2.key (fits (ComesBehind U T) start x s short) used;
      },
      s.also.answers said.0 said.1 said.2,
    );
  }
    where
      path : own.path ≡ x.path
      path = path_is (ComesBehind U T) start x s short

      late : seen.segment.head.syn ≡ true → (o : Opening) → Asked seen ≡ Some o → ComesLate T o
      late syn (opening.Capable used) is = tt
      late syn (opening.Join token nonce) is = by x.path refl
        where
          by : (n : ℕ) → x.path ≡ n → T
          by zero at = absurd (no_join c.spelling.checksums token nonce (sym (asked_at_zero at (asker syn (opening.Join token nonce) is) (syn_so syn)) ∙ is))
          by (suc n) at = s.also.joins (asker syn (opening.Join token nonce) is) (syn_so syn) (subst (λ (m : ℕ). 0 < m) (sym at) (omega arith))

      acked : (side : Side) → side ≡ B → seen.segment.head.ack ≡ unwrap_or (option_map (subflow_number c.spelling (peer side)) sg.acknowledged) 0 → sg.acknowledged ≡ Some 1 → x.path ≡ 0
          → seen.segment.head.ack ≡ (own_initial d 0 A + 1) % 2 ^ 32
      acked A of_b is one at = cc
      acked B of_b is one at = is ∙ ap (λ (o : Option ℕ). unwrap_or (option_map (subflow_number c.spelling A) o) 0) one ∙ ap (λ (n : ℕ). (n + 1) % 2 ^ 32) (number (ComesBehind U T) start x s short A ∙ ap (λ (n : ℕ). own_initial d n A) at)
