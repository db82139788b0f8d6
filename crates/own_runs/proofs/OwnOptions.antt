-- Options that show what was drawn break no rule on options.
use Rattle.std.proofs.Common.{◌≡◌, refl, sym, ap, ◌∙◌, subst, ℕ, Bool, true, false, if◌then◌else◌, Option, Some, None, List, [], ◌∷◌, ◌++◌, map}
use Rattle.std.specs.Prelude.{All, IfSome, unwrap_or}
use Rattle.std.specs.Cmp.Lexicographic.{pointwise_decides}
use Rattle.std.proofs.lemmas.Bool.{eq-eqb}
use Rattle.std.proofs.lemmas.Bool.Decides.{Decides-eqb}
use Rattle.std.proofs.lemmas.List.Elements.{All-append, All-cons, All-head, All-nil, All-tail}
use Rattle.sides.specs.declared.side.Side.{Side}
use Rattle.sides.specs.declared.side.Side.TheVariants.{A, B}
use Rattle.sides.specs.Side.{peer}
use Rattle.key_material.specs.declared.address.Address.{Address}
use Rattle.key_material.specs.AddressHmac.{add_addr64_of}
use Rattle.key_material.specs.JoinHmac.{join_a160_of, join_b64_of}
use Rattle.mptcp_options.specs.declared.capable.CapableKeys.{CapableKeys}
use Rattle.mptcp_options.specs.declared.capable.CapableKeys.TheVariants.{Both, NoKey, Sender, WithData}
use Rattle.mptcp_options.specs.declared.join.JoinForm.{JoinForm}
use Rattle.mptcp_options.specs.declared.join.JoinForm.TheVariants.{Answer, Syn, Third}
use Rattle.mptcp_options.specs.Value.{OptionValue, AddAddr, Capable, FastClose, Join}
use Rattle.judge_rules.specs.declared.finding.Finding.TheVariants.{Hmac160, Number64}
use Rattle.judge_rules.specs.declared.finding.Rule.{Rule}
use Rattle.judge_rules.specs.declared.finding.Rule.TheVariants as rule
use Rattle.judge_rules.specs.declared.finding.Verdict.{Verdict}
use Rattle.judge_rules.specs.declared.finding.Verdict.TheVariants.{Broke, Kept, PassedOver}
use Rattle.judge_rules.specs.Keys.{announced_hmac, differ160, differ64, first_other, judged_address, judged_announced, judged_fast_close, judged_join, judged_keys, other_key}
use Rattle.seen_connections.specs.declared.connections.Keys.{Keys}
use Rattle.seen_connections.specs.declared.flow.Opening.{Opening}
use Rattle.seen_connections.specs.declared.flow.Opening.TheVariants as opening
use Rattle.seen_connections.specs.Connections.{key_of}
use Rattle.seen_connections.specs.SeenOptions.{Readable}
use Rattle.seen_streams.specs.State.{StreamValue}
use Rattle.rule_book.specs.Facts.{Facts}
use Rattle.rule_book.specs.Signals.{KeyedValue, by_both, by_mine, by_peers, join_in, joined_by, joins_counted, judged_in, judged_options, keyed_by, keyed_each, keyed_one, signalled, signalled_one, told_formless, told_verdict, with_a, with_key}
use Rattle.own_runs.proofs.Own.{AddressIs, Drawn, JoinIs, KeysAre, OpeningIs, ValueIs, is_a, own_key}
use Rattle.own_runs.proofs.OwnFlows.{KeysOwn, NonceIs}
use Rattle.own_runs.proofs.Telling.{Untold}

-- a verdict that tells nothing
abbrev pub NoBreak : Verdict → Type 0
NoBreak (Broke finding) = ⊥
NoBreak Kept = Unit {0}
NoBreak PassedOver = Unit {0}

module _ (which : Rule → Bool) where
  kept_so : (r : Rule) (packet : ℕ) (v : Verdict) (s : StreamValue) → NoBreak v → Untold which s.broken → Untold which (told_verdict r packet v s).broken
  kept_so r packet (Broke finding) s none h = absurd none
  kept_so r packet Kept s none h = h
  kept_so r packet PassedOver s none h = h

same64 : (expected was : ℕ) → expected ≡ was → NoBreak (differ64 expected was)
same64 expected was same = subst (λ (b : Bool). NoBreak (if b then Kept else Broke (Number64 expected was))) (sym (eq-eqb expected was same)) tt

same160 : (expected was : List ℕ) → expected ≡ was → NoBreak (differ160 expected was)
same160 expected was same =
    subst (λ (b : Bool). NoBreak (if b then Kept else Broke (Hmac160 expected was))) (sym ((pointwise_decides Decides-eqb expected was).1 same)) tt

-- all options read
pub readable_so : (packet : ℕ) (values : List OptionValue) (s : StreamValue) → told_formless packet (map Readable values) s ≡ s
readable_so packet [] s = refl
readable_so packet (value ∷ values) s = readable_so packet values s

module _ (d : Drawn) (which : Rule → Bool) where
  pub key_is : (s : Side) (known : Keys) → KeysOwn d known → IfSome (key_of s known) (λ key. key ≡ own_key d s)
  key_is A known k = k.a
  key_is B known k = k.b

  -- ---- keys

  other_key_so : (known told : Option ℕ) (key : ℕ) → IfSome known (λ k. k ≡ key) → IfSome told (λ k. k ≡ key) → NoBreak (other_key known told)
  other_key_so (Some known) (Some told) key k t = same64 known told (k ∙ sym t)
  other_key_so (Some known) None key k t = tt
  other_key_so None (Some told) key k t = tt
  other_key_so None None key k t = tt

  first_so : (first second : Verdict) → NoBreak first → NoBreak second → NoBreak (first_other first second)
  first_so (Broke finding) second one two = absurd one
  first_so Kept second one two = two
  first_so PassedOver second one two = two

  told_so : (s : Side) (mine peers : Option ℕ) (keys : CapableKeys) → IfSome mine (λ k. k ≡ own_key d s) → IfSome peers (λ k. k ≡ own_key d (peer s)) → KeysAre d s keys
      → NoBreak (judged_keys s mine peers keys)
  told_so A mine peers (Both sender receiver) m p is =
      first_so (other_key peers (Some receiver)) (other_key mine (Some sender)) (other_key_so peers (Some receiver) d.key_b p is.1) (other_key_so mine (Some sender) d.key_a m is.0)
  told_so A mine peers (WithData sender receiver len checksum) m p is =
      first_so (other_key peers (Some receiver)) (other_key mine (Some sender)) (other_key_so peers (Some receiver) d.key_b p is.1) (other_key_so mine (Some sender) d.key_a m is.0)
  told_so A mine peers NoKey m p is = tt
  told_so A mine peers (Sender sender) m p is = tt
  told_so B mine peers (Sender sender) m p is =
      first_so (other_key peers None) (other_key mine (Some sender)) (other_key_so peers None d.key_a p tt) (other_key_so mine (Some sender) d.key_b m is)
  told_so B mine peers NoKey m p is = tt
  told_so B mine peers (Both sender receiver) m p is = tt
  told_so B mine peers (WithData sender receiver len checksum) m p is = tt

  with_key_so : (known : Option ℕ) (sender : ℕ) → IfSome known (λ k. k ≡ d.key_a) → sender ≡ d.key_a → IfSome (with_key known sender) (λ k. k ≡ d.key_a)
  with_key_so (Some known) sender k is = k
  with_key_so None sender k is = is

  with_a_so : (s : Side) (keys : CapableKeys) (known : Keys) → KeysAre d s keys → KeysOwn d known → KeysOwn d (with_a s keys known)
  with_a_so A (Both sender receiver) known is k = record { a = with_key_so known.a sender k.a is.0; b = k.b; checksums = k.checksums }
  with_a_so A (WithData sender receiver len checksum) known is k = record { a = with_key_so known.a sender k.a is.0; b = k.b; checksums = k.checksums }
  with_a_so A NoKey known is k = k
  with_a_so A (Sender sender) known is k = k
  with_a_so B keys known is k = k

  -- a segment of a side in a flow of a path
  pub record IsOf (path : ℕ) (facts : Facts) : Type 0 where
    pub opening : OpeningIs d path facts.flow.opening
    pub nonce : NonceIs d path facts.flow.opening facts.opened
    pub opener : facts.is_opener ≡ is_a facts.side

  pub record IsKeyed (path : ℕ) (s : Side) (state : KeyedValue) : Type 0 where
    pub keys : KeysOwn d state.keys
    pub untold : Untold which state.stream.broken
    pub each : All (ValueIs d path s) state.options

  module _ (path : ℕ) (facts : Facts) (it : IsOf path facts) where
    abbrev s : Side
    s = facts.side

    pub verdict_so : (o : Opening) (keys : CapableKeys) (known : Keys) → KeysAre d s keys → KeysOwn d known → NoBreak (judged_in o s known keys)
    verdict_so (opening.Join token nonce) keys known is k = tt
    verdict_so (opening.Capable checksums) keys known is k =
        told_so s (key_of s known) (key_of (peer s) known) keys (key_is s known k) (key_is (peer s) known k) is

    last_so : (option : OptionValue) (options : List OptionValue) → ValueIs d path s option → All (ValueIs d path s) options → All (ValueIs d path s) (options ++ option ∷ [])
    last_so option options is each =
        All-append (ValueIs d path s) options (option ∷ []) each (All-cons (ValueIs d path s) option [] is (All-nil (ValueIs d path s)))

    by_so : (v : Verdict) (option : OptionValue) (keys : CapableKeys) (state : KeyedValue) → NoBreak v → ValueIs d path s option → KeysAre d s keys → IsKeyed path s state
        → IsKeyed path s (keyed_by v facts option keys state)
    by_so (Broke finding) option keys state none is are k = absurd none
    by_so PassedOver option keys state none is are k = k
    by_so Kept option keys state none is are k =
        record { keys = with_a_so s keys state.keys are k.keys; untold = k.untold; each = last_so option state.options is k.each }

    stays_so : (option : OptionValue) (state : KeyedValue) → ValueIs d path s option → IsKeyed path s state
        → IsKeyed path s (record state { options = state.options ++ option ∷ [] })
    stays_so option state is k = record { keys = k.keys; untold = k.untold; each = last_so option state.options is k.each }

    pub one_so : (option : OptionValue) (state : KeyedValue) → ValueIs d path s option → IsKeyed path s state → IsKeyed path s (keyed_one facts option state)
    one_so (Capable flag_a flag_c keys) state is k =
        by_so (judged_in facts.flow.opening s state.keys keys) (Capable flag_a flag_c keys) keys state (verdict_so facts.flow.opening keys state.keys is k.keys) is is k
    one_so option state is k = stays_so option state is k

    keyed_so : (values : List OptionValue) (state : KeyedValue) → All (ValueIs d path s) values → IsKeyed path s state
        → IsKeyed path s (keyed_each facts (map Readable values) state)
    keyed_so [] state each k = k
    keyed_so (value ∷ values) state each k =
        keyed_so values (keyed_one facts value state) (All-tail (ValueIs d path s) value values each)
        (one_so value state (All-head (ValueIs d path s) value values each) k)

    -- ---- HMACs

    join_so : (o : Opening) (side : Side) (first : Bool) (mine peers answer : ℕ) (form : JoinForm) → first ≡ is_a side → mine ≡ own_key d side → peers ≡ own_key d (peer side)
        → (token nonce : ℕ) → o ≡ opening.Join token nonce → OpeningIs d path o → answer ≡ d.nonce_b path → JoinIs d path side form
        → NoBreak (judged_join first mine peers nonce answer form)
    join_so o A first mine peers answer (Third hmac) a m p token nonce join is reply h =
        subst (λ (b : Bool). NoBreak (judged_join b mine peers nonce answer (Third hmac))) (sym a)
        (same160 (join_a160_of mine peers nonce answer) hmac
        (ap (λ (k : ℕ). join_a160_of k peers nonce answer) m ∙ ap (λ (k : ℕ). join_a160_of d.key_a k nonce answer) p
        ∙ ap (λ (k : ℕ). join_a160_of d.key_a d.key_b k answer) (nonce_is o token nonce join is) ∙ ap (join_a160_of d.key_a d.key_b (d.nonce_a path)) reply ∙ sym h))
      where
        nonce_is : (o : Opening) (token nonce : ℕ) → o ≡ opening.Join token nonce → OpeningIs d path o → nonce ≡ d.nonce_a path
        nonce_is o token nonce same is = (subst (OpeningIs d path) same is).1
    join_so o B first mine peers answer (Answer backup id hmac own) a m p token nonce join is reply h =
        subst (λ (b : Bool). NoBreak (judged_join b mine peers nonce answer (Answer backup id hmac own))) (sym a)
        (same64 (join_b64_of peers mine nonce own) hmac
        (ap (λ (k : ℕ). join_b64_of k mine nonce own) p ∙ ap (λ (k : ℕ). join_b64_of d.key_a k nonce own) m
        ∙ ap (λ (k : ℕ). join_b64_of d.key_a d.key_b k own) (subst (OpeningIs d path) join is).1 ∙ ap (join_b64_of d.key_a d.key_b (d.nonce_a path)) h.1 ∙ sym h.0))
    join_so o A first mine peers answer (Answer backup id hmac own) a m p token nonce join is reply h =
        subst (λ (b : Bool). NoBreak (judged_join b mine peers nonce answer (Answer backup id hmac own))) (sym a) tt
    join_so o A first mine peers answer (Syn backup id other own) a m p token nonce join is reply h =
        subst (λ (b : Bool). NoBreak (judged_join b mine peers nonce answer (Syn backup id other own))) (sym a) tt
    join_so o B first mine peers answer (Third hmac) a m p token nonce join is reply h =
        subst (λ (b : Bool). NoBreak (judged_join b mine peers nonce answer (Third hmac))) (sym a) tt
    join_so o B first mine peers answer (Syn backup id other own) a m p token nonce join is reply h =
        subst (λ (b : Bool). NoBreak (judged_join b mine peers nonce answer (Syn backup id other own))) (sym a) tt

    reply_is : (o : Opening) (token nonce : ℕ) → o ≡ opening.Join token nonce → NonceIs d path o facts.opened → facts.opened.nonce ≡ d.nonce_b path
    reply_is o token nonce same is = subst (λ (x : Opening). NonceIs d path x facts.opened) same is

    join_verdict : (o : Opening) (option : OptionValue) (mine peers : ℕ) → facts.flow.opening ≡ o → mine ≡ own_key d s → peers ≡ own_key d (peer s) → ValueIs d path s option
        → NoBreak (join_in o facts mine peers option)
    join_verdict (opening.Capable checksums) option mine peers same m p is = tt
    join_verdict (opening.Join token nonce) (Join form) mine peers same m p is =
        join_so facts.flow.opening s facts.is_opener mine peers facts.opened.nonce form it.opener m p token nonce same it.opening (reply_is facts.flow.opening token nonce same it.nonce) is
    join_verdict (opening.Join token nonce) option mine peers same m p is = tt

    address_so : (mine peers : ℕ) (echo : Bool) (id : ℕ) (address : Address) (port hmac : Option ℕ) → mine ≡ own_key d s → peers ≡ own_key d (peer s)
        → AddressIs d s echo id address port hmac → NoBreak (judged_announced mine peers echo id address port hmac)
    unfolding announced_hmac
    address_so mine peers false id address port (Some hmac) m p is =
        same64 (add_addr64_of mine peers id address (unwrap_or port 0)) hmac
        (ap (λ (k : ℕ). add_addr64_of k peers id address (unwrap_or port 0)) m ∙ ap (λ (k : ℕ). add_addr64_of (own_key d s) k id address (unwrap_or port 0)) p ∙ sym is)
    address_so mine peers false id address port None m p is = tt
    address_so mine peers true id address port hmac m p is = tt

    address_verdict : (option : OptionValue) (mine peers : ℕ) → mine ≡ own_key d s → peers ≡ own_key d (peer s) → ValueIs d path s option → NoBreak (judged_address mine peers option)
    address_verdict (AddAddr echo id address port hmac) mine peers m p is = address_so mine peers echo id address port hmac m p is
    address_verdict option mine peers m p is = tt

    fast_close_verdict : (option : OptionValue) (peers : ℕ) → peers ≡ own_key d (peer s) → ValueIs d path s option → NoBreak (judged_fast_close peers option)
    fast_close_verdict (FastClose key) peers p is = same64 peers key (p ∙ sym is)
    fast_close_verdict option peers p is = tt

    counted_so : (v : Verdict) (stream : StreamValue) → Untold which stream.broken → Untold which (joins_counted v stream).broken
    counted_so PassedOver stream h = h
    counted_so Kept stream h = h
    counted_so (Broke finding) stream h = h

    both_so : (mine peers : ℕ) (option : OptionValue) (stream : StreamValue) → mine ≡ own_key d s → peers ≡ own_key d (peer s) → ValueIs d path s option → Untold which stream.broken
        → Untold which (by_both mine peers facts option stream).broken
    both_so mine peers option stream m p is h =
        let v = join_in facts.flow.opening facts mine peers option in
        kept_so which rule.AddressHmac facts.packet (judged_address mine peers option) (joined_by v facts.packet stream) (address_verdict option mine peers m p is)
        (kept_so which rule.JoinHmac facts.packet v (joins_counted v stream) (join_verdict facts.flow.opening option mine peers refl m p is) (counted_so v stream h))

    mine_so : (mine : Option ℕ) (peers : ℕ) (option : OptionValue) (stream : StreamValue) → IfSome mine (λ k. k ≡ own_key d s) → peers ≡ own_key d (peer s) → ValueIs d path s option
        → Untold which stream.broken → Untold which (by_mine mine peers facts option stream).broken
    mine_so None peers option stream m p is h = h
    mine_so (Some mine) peers option stream m p is h = both_so mine peers option stream m p is h

    peers_so : (peers mine : Option ℕ) (option : OptionValue) (stream : StreamValue) → IfSome peers (λ k. k ≡ own_key d (peer s)) → IfSome mine (λ k. k ≡ own_key d s)
        → ValueIs d path s option → Untold which stream.broken → Untold which (by_peers peers mine facts option stream).broken
    peers_so None mine option stream p m is h = h
    peers_so (Some peers) mine option stream p m is h =
        kept_so which rule.FastCloseKey facts.packet (judged_fast_close peers option) (by_mine mine peers facts option stream) (fast_close_verdict option peers p is) (mine_so mine peers option stream m p is h)

    signalled_so : (known : Keys) (options : List OptionValue) (stream : StreamValue) → KeysOwn d known → All (ValueIs d path s) options → Untold which stream.broken
        → Untold which (signalled facts known options stream).broken
    signalled_so known [] stream k each h = h
    signalled_so known (option ∷ options) stream k each h =
        signalled_so known options (signalled_one facts known option stream) k (All-tail (ValueIs d path s) option options each)
        (peers_so (key_of (peer s) known) (key_of s known) option stream (key_is (peer s) known k) (key_is s known k) (All-head (ValueIs d path s) option options each) h)

    pub options_so : (values : List OptionValue) (state : KeyedValue) → All (ValueIs d path s) values → IsKeyed path s state
        → IsKeyed path s (judged_options facts (map Readable values) state)
    options_so values state each k =
        let made = keyed_so values state each k in
        let keyed = keyed_each facts (map Readable values) state in
        record { keys = made.keys; untold = signalled_so keyed.keys keyed.options keyed.stream made.keys made.each made.untold; each = made.each }
