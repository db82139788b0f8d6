-- No copy that arrives on a path that joins is refused for what it says, unless its options were taken away.
use Rattle.world_laws.proofs.Words.{◌≡◌, refl, sym, ◌∙◌, ap, subst, ℕ, zero, suc, ◌+◌, ◌&&◌, ◌==◌, not, ⊎_elim, Bool, true, false, if◌then◌else◌, Option, Some}
use Rattle.world_laws.proofs.Words.{None, Ok, Err, List, [], ◌∷◌, map, is_none, is_some, unwrap_or, eq-eqb, and_parts, both_ways, false≢true, same_Some}
use Rattle.world_laws.proofs.Words.{flat_map, IfSome, option_or, result_ok, join_a160_of, join_b64_of, Side, A, B, peer, same_side, JoinForm, Answer, Third}
use Rattle.world_laws.proofs.Words.{JoinAnswer, BadHmac, answer_heard, answer_taken, syn_heard, third_heard, is_closed_to_segments, is_half_open, Meaning}
use Rattle.world_laws.proofs.Words.{EndState, EndPhase, meaning_of, Copy, is_due, arriving, Flight, HeardSegment, PlainOption, PlainSegment, Join, meant}
use Rattle.world_laws.proofs.Words.{meant_option, window_told, Heard, is_of_step, join_in, join_heard, JoinStep, Reply, books_in, SixBooks, reply_of, is_nil}
use Rattle.world_laws.proofs.Words.{PathEnd, waiting_path, PathState, end_at, Carried, as_arrived, values, items_in, items_of, copy_of, judged_in, heard_in}
use Rattle.world_laws.proofs.Words.{Judged, is_joined, join_answer, join_asked, peer_key_of, join_value, is_hmac_right, is_third_right, third_in, is_forged}
use Rattle.world_laws.proofs.Words.{is_passed_over, join_judged, in_map, Every-nil, in_set, Every, App, Path, Actor, member_takes, member_next, Always}
use Rattle.world_laws.proofs.Words.{PathPlan, Start, path_begins, new_path, opened_world, WorldState, Turn, crew_after, greatest, begins, world_run}
use Rattle.world_laws.proofs.Worlds.Turns.{run_so}
use Rattle.std.specs.Cmp.Lexicographic.{pointwise}
use Rattle.mptcp_options.specs.declared.join.JoinForm.TheVariants.{Syn}
use Rattle.world_laws.specs.Welcome.{IsWelcome, NextIsWelcome, WelcomesNext, EachCopyIsWelcome}
use Rattle.world_laws.proofs.Joins.TokensAgree.{WorldMet, run_met, opened_met}
use Rattle.world_laws.proofs.Keys.ToldAreOwn.{Joined, NoMore, Past, MemberIs, with_nonces}
use Rattle.world_laws.proofs.Worlds.Opened.{opened_actors}
use Rattle.world_laws.proofs.Worlds.Finding.{find_every, one_side}
use Rattle.world_laws.proofs.Keys.AreDrawn.{Deed, Secrets, drawn_key, drawn_nonce, IsFor, JoinIs, OptionIs, ItemIs, SegmentIs, EndIs, HasKey, Needs, needs_key, items_are}
use Rattle.world_laws.proofs.Keys.WhatWakes.{is_opens, is_up, open_is_up}
use Rattle.world_laws.proofs.Keys.Held.{PathIs, FlightIs, arrived_is, end_is, join_found}
use Rattle.world_laws.proofs.Joins.Roles.{HasRoles, CopyTells, role_at, arrived_tells, takes_roles, begins_roles}
use Rattle.world_laws.proofs.Keys.Meanings.{Means, means}
use Rattle.world_laws.proofs.Keys.AnswerHeardFirst.{TellsKey, asks_first, is_accepts, is_apart}

-- a list is the same as itself, octet by octet
same_octets : (xs ys : List ℕ) → xs ≡ ys → pointwise ◌==◌ xs ys ≡ true
same_octets xs ys same = subst (λ zs. pointwise ◌==◌ xs zs ≡ true) same (by xs)
  where
    by : (xs : List ℕ) → pointwise ◌==◌ xs xs ≡ true
    by [] = refl
    by (x ∷ xs) = ap (λ b. b && pointwise ◌==◌ xs xs) (eq-eqb x x refl) ∙ by xs

-- the first MP_JOIN of a form has that form
of_form : (of_step : JoinStep) (items : List Heard) (form : JoinForm) → join_heard of_step items ≡ Some form → is_of_step of_step form ≡ true
of_form of_step [] form is = cc
of_form of_step (item ∷ items) form is =
    (elim item as (λ item. (join_heard of_step items ≡ Some form → is_of_step of_step form ≡ true) → option_or (join_in of_step item) (join_heard of_step items) ≡ Some form → is_of_step of_step form ≡ true) [
      | Heard.Join f ↦ λ later is. at f (is_of_step of_step f) later refl is
      | Heard.Dss ↦ λ later is. later is
      | _ ↦ λ later is. later is
    ]) (λ rest. of_form of_step items form rest) is
  where
    at : (f : JoinForm) (b : Bool) → (join_heard of_step items ≡ Some form → is_of_step of_step form ≡ true) → is_of_step of_step f ≡ b → option_or (if b then Some f else None) (join_heard of_step items) ≡ Some form → is_of_step of_step form ≡ true
    at f true later of is = subst (λ g. is_of_step of_step g ≡ true) (same_Some f form is) of
    at f false later of is = later is

-- what a SYN tells an end of this side: A hears an answer, and B that a join is asked for
abbrev pub TellsJoin : Side → List Heard → Type 0
TellsJoin A items = is_some (join_heard JoinStep.Answer items) ≡ true
TellsJoin B items = is_some (join_heard JoinStep.Syn items) ≡ true

-- the first option is among what B hears
first_asked : (window : ℕ) (options : List PlainOption) → asks_first options ≡ true → is_some (join_heard JoinStep.Syn (flat_map (items_in true B window) (map meant_option options))) ≡ true
first_asked window (Join (Syn backup id token nonce) ∷ options) is = refl
first_asked window _ is = cc

tells_join : (s : Side) (sg : PlainSegment) → TellsKey true s sg → is_nil sg.options ≡ false → (copy_of (meant sg)).syn ≡ true → TellsJoin s (items_of true s (meant sg))
tells_join A sg tells some syn = tells some syn
tells_join B sg tells some syn = first_asked (window_told sg.syn sg.window) sg.options (tells some syn)

some_meant : (options : List PlainOption) → is_nil (map meant_option options) ≡ false → is_nil options ≡ false
some_meant = elim [ [] ↦ λ some. some | o ∷ options ↦ λ some. refl ]

-- ---- an end of a path that joins

module _ (k : Secrets) (w : Side → Type 0) (did : Deed → Side → Type 0) (s : Side) (e : PathEnd) (h : EndIs k true w did true s e) (items : List Heard) (said : Every (ItemIs k true w did true s) items) where
  -- A takes what B answers
  answer_right : is_up e.tcp ≡ true → s ≡ A → (o : Option JoinForm) → is_some o ≡ true → IfSome o (λ form. (is_of_step JoinStep.Answer form ≡ true) × ((true ≡ true) → JoinIs k true (peer s) form))
      → is_some (result_ok (answer_taken e.modes.own_key (peer_key_of e.modes) e.modes.own_nonce (answer_heard (join_value o)))) ≡ true
  answer_right up side None some form = absurd (false≢true some)
  answer_right up side (Some (Syn backup id token nonce)) some form = absurd (false≢true form.0)
  answer_right up side (Some (Third hmac)) some form = absurd (false≢true form.0)
  answer_right up side (Some (Answer backup id hmac nonce)) some form =
      ap (λ (b : Bool). is_some {T = JoinAnswer} (result_ok (if b then Ok (record { backup = backup; id = id; nonce = nonce }) else Err BadHmac)))
      (eq-eqb hmac (join_b64_of e.modes.own_key (peer_key_of e.modes) e.modes.own_nonce nonce) (same side))
    where
      known : HasKey k true s e.modes
      known = needs_key k true s e.modes ((h.woken refl up).1 refl)

      same : s ≡ A → hmac ≡ join_b64_of e.modes.own_key (peer_key_of e.modes) e.modes.own_nonce nonce
      same side = by s side (form.1 refl) h.modes.own h.modes.nonce known
        where
          by : (s : Side) → s ≡ A → JoinIs k true (peer s) (Answer backup id hmac nonce) → e.modes.own_key ≡ drawn_key k true s → e.modes.own_nonce ≡ drawn_nonce k true s → HasKey k true s e.modes
              → hmac ≡ join_b64_of e.modes.own_key (peer_key_of e.modes) e.modes.own_nonce nonce
          by B side is own mine key = cc
          by A side is own mine key =
              is.0 ∙ ap (λ n. join_b64_of n k.key_b k.nonce_a k.nonce_b) (sym own) ∙ ap (λ o. join_b64_of e.modes.own_key (unwrap_or o 0) k.nonce_a k.nonce_b) (sym key)
              ∙ ap (λ n. join_b64_of e.modes.own_key (peer_key_of e.modes) n k.nonce_b) (sym mine) ∙ ap (λ n. join_b64_of e.modes.own_key (peer_key_of e.modes) e.modes.own_nonce n) (sym is.1)

  -- B demands A's HMAC
  third_right : is_up e.tcp ≡ true → s ≡ B → (o : Option JoinForm) → is_some (third_heard (join_value o)) ≡ true → IfSome o (λ form. (true ≡ true) → JoinIs k true (peer s) form)
      → is_hmac_right (third_heard (join_value o)) e.modes ≡ true
  third_right up side None some form = absurd (false≢true some)
  third_right up side (Some (Syn backup id token nonce)) some form = absurd (false≢true some)
  third_right up side (Some (Answer backup id hmac nonce)) some form = absurd (false≢true some)
  third_right up side (Some (Third hmac)) some form = same_octets hmac (join_a160_of (peer_key_of e.modes) e.modes.own_key e.modes.peer_nonce e.modes.own_nonce) (by s side (form refl) h.modes.own h.modes.nonce ((h.woken refl up).1 refl))
    where
      by : (s : Side) → s ≡ B → JoinIs k true (peer s) (Third hmac) → e.modes.own_key ≡ drawn_key k true s → e.modes.own_nonce ≡ drawn_nonce k true s → Needs k true s e.modes
          → hmac ≡ join_a160_of (peer_key_of e.modes) e.modes.own_key e.modes.peer_nonce e.modes.own_nonce
      by A side is own mine knows = cc
      by B side is own mine knows =
          is ∙ ap (λ o. join_a160_of (unwrap_or o 0) k.key_b k.nonce_a k.nonce_b) (sym knows.0) ∙ ap (λ n. join_a160_of (peer_key_of e.modes) n k.nonce_a k.nonce_b) (sym own)
          ∙ ap (λ n. join_a160_of (peer_key_of e.modes) e.modes.own_key n k.nonce_b) (sym knows.1) ∙ ap (λ n. join_a160_of (peer_key_of e.modes) e.modes.own_key e.modes.peer_nonce n) (sym mine)

-- ---- what a copy means

-- no reset means one of these
abbrev is_firm : Meaning → Bool
is_firm Meaning.Opens = true
is_firm (Meaning.Accepts acknowledged) = true
is_firm (Meaning.Taken pos acknowledged) = true
is_firm _ = false

-- a SYN comes to a listening end, and its answer to an opening one; no reset is taken
record FitsState (state : EndPhase) (c : Copy) (m : Meaning) : Type 0 where
  pub opens : is_opens m ≡ true → (is_apart A state ≡ true) × (c.syn ≡ true)
  pub accepts : is_accepts m ≡ true → (is_apart B state ≡ true) × (c.syn ≡ true)
  pub alive : is_accepts m ≡ true → is_closed_to_segments state ≡ false
  pub firm : is_firm m ≡ true → c.rst ≡ false

state_fits : (c : Copy) (s : EndState) → FitsState s.state c (meaning_of c s)
state_fits c s = by (meaning_of c s) (means c s)
  where
    by : (m : Meaning) → Means c s m → FitsState s.state c m
    by Meaning.Opens is = record { opens = λ x. (ap (is_apart A) is.0, is.1.0); accepts = λ x. absurd (false≢true x); alive = λ x. absurd (false≢true x); firm = λ x. is.1.1.0 }
    by (Meaning.Accepts acknowledged) is = record {
      opens = λ x. absurd (false≢true x);
      accepts = λ x. (ap (is_apart B) is.0, is.1.0);
      alive = λ x. ap is_closed_to_segments is.0;
      firm = λ x. is.1.1.0;
    }
    by (Meaning.Taken pos acknowledged) is = record { opens = λ x. absurd (false≢true x); accepts = λ x. absurd (false≢true x); alive = λ x. absurd (false≢true x); firm = λ x. is.1.1.0 }
    by _ is = record { opens = λ x. absurd (false≢true x); accepts = λ x. absurd (false≢true x); alive = λ x. absurd (false≢true x); firm = λ x. absurd (false≢true x) }

half_open_is : (state : EndPhase) → is_half_open state ≡ true → (is_apart A state ≡ true) × (is_closed_to_segments state ≡ false)
half_open_is EndPhase.SynReceived is = (refl, refl)
half_open_is EndPhase.Waiting is = absurd (false≢true is)
half_open_is _ is = absurd (false≢true is)

-- ---- what an end of a path that joins makes of it

module _ (k : Secrets) (w : Side → Type 0) (did : Deed → Side → Type 0) (s : Side) (e : PathEnd) (h : EndIs k true w did true s e) (role : is_apart s e.tcp.state ≡ false) (heard : HeardSegment)
    (said : Every (ItemIs k true w did true s) (items_of true s heard)) (tells : (copy_of heard).syn ≡ true → TellsJoin s (items_of true s heard)) where
  abbrev items : List Heard
  items = items_of true s heard

  -- A is where B never is, and the other way round
  at_b : is_apart A e.tcp.state ≡ true → s ≡ B
  at_b apart = (elim s as (λ s. is_apart s e.tcp.state ≡ false → s ≡ B) [ A ↦ λ none. absurd (both_ways _ none apart) | B ↦ λ none. refl ]) role

  at_a : is_apart B e.tcp.state ≡ true → s ≡ A
  at_a apart = (elim s as (λ s. is_apart s e.tcp.state ≡ false → s ≡ A) [ A ↦ λ none. refl | B ↦ λ none. absurd (both_ways _ none apart) ]) role

  asks_to_join : s ≡ B → (copy_of heard).syn ≡ true → is_some (join_asked items) ≡ true
  asks_to_join side syn = by (join_heard JoinStep.Syn items) (subst (λ t. TellsJoin t items) side (tells syn)) (λ form. of_form JoinStep.Syn items form)
    where
      by : (o : Option JoinForm) → is_some o ≡ true → ((form : JoinForm) → o ≡ Some form → is_of_step JoinStep.Syn form ≡ true) → is_some (syn_heard (join_value o)) ≡ true
      by None some form = absurd (false≢true some)
      by (Some (Syn backup id token nonce)) some form = refl
      by (Some (Answer backup id hmac nonce)) some form = absurd (false≢true (form (Answer backup id hmac nonce) refl))
      by (Some (Third hmac)) some form = absurd (false≢true (form (Third hmac) refl))

  answers_join : s ≡ A → is_up e.tcp ≡ true → (copy_of heard).syn ≡ true → is_some (join_answer items e.modes) ≡ true
  answers_join side up syn =
      answer_right k w did s e h items said up side (join_heard JoinStep.Answer items) (subst (λ t. TellsJoin t items) side (tells syn))
      (by (join_heard JoinStep.Answer items) (join_found k true w did true s JoinStep.Answer items said) (λ form. of_form JoinStep.Answer items form))
    where
      by : (o : Option JoinForm) → IfSome o (λ form. (true ≡ true) × (IsFor s form × (w (peer s) × ((true ≡ true) → JoinIs k true (peer s) form)))) → ((form : JoinForm) → o ≡ Some form → is_of_step JoinStep.Answer form ≡ true)
          → IfSome o (λ form. (is_of_step JoinStep.Answer form ≡ true) × ((true ≡ true) → JoinIs k true (peer s) form))
      by = elim [ None ↦ λ found form. tt | Some f ↦ λ found form. (form f refl, found.1.1.1) ]

  not_forged : (copy_of heard).rst ≡ false → is_passed_over heard.rst items e ≡ false → is_forged items e ≡ false
  not_forged plain heeded =
      (elim (is_half_open e.tcp.state) as (λ half. is_half_open e.tcp.state ≡ half → half && (not heard.rst && is_none (third_in items)) ≡ false → half && not (is_third_right items e.modes) ≡ false)
      [ false ↦ λ is heeded. refl | true ↦ λ is heeded. ap not (third is (some_third heard.rst (third_in items) plain heeded)) ]) refl heeded
    where
      third : is_half_open e.tcp.state ≡ true → is_some (third_in items) ≡ true → is_third_right items e.modes ≡ true
      third half some =
          let is = half_open_is e.tcp.state half in
          third_right k w did s e h items said (open_is_up e.tcp is.1) (at_b is.0) (join_heard JoinStep.Third items) some
          (found (join_heard JoinStep.Third items) (join_found k true w did true s JoinStep.Third items said))
        where
          found : (o : Option JoinForm) → IfSome o (λ form. (true ≡ true) × (IsFor s form × (w (peer s) × ((true ≡ true) → JoinIs k true (peer s) form)))) → IfSome o (λ form. (true ≡ true) → JoinIs k true (peer s) form)
          found = elim [ None ↦ λ is. tt | Some form ↦ λ is. is.1.1.1 ]

      some_third : (rst : Bool) (o : Option (List ℕ)) → rst ≡ false → not rst && is_none o ≡ false → is_some o ≡ true
      some_third false (Some hmac) plain none = refl
      some_third false None plain none = absurd (both_ways true none refl)
      some_third true o plain none = absurd (false≢true (sym plain))

  silent_welcome : (b : Bool) (m : Meaning) → IsWelcome (if b then Judged.As Meaning.Ignored else Judged.As m)
  silent_welcome = elim [ true ↦ λ m. tt | false ↦ λ m. tt ]

  welcome : (m : Meaning) → FitsState e.tcp.state (copy_of heard) m → IsWelcome (join_judged heard.rst items m e)
  welcome Meaning.Opens fit =
      let opens = fit.opens refl in
      subst (λ (b : Bool). IsWelcome (if b then Judged.Asks else Judged.Lacks)) (sym (asks_to_join (at_b opens.0) opens.1)) tt
  welcome (Meaning.Accepts acknowledged) fit =
      let accepts = fit.accepts refl in
      subst (λ (b : Bool). IsWelcome (if b then Judged.As (Meaning.Accepts acknowledged) else Judged.Forged))
      (sym (answers_join (at_a accepts.0) (open_is_up e.tcp (fit.alive refl)) accepts.1)) tt
  welcome Meaning.RepeatedSyn fit = tt
  welcome (Meaning.Taken pos acknowledged) fit = by (is_passed_over heard.rst items e) refl
    where
      by : (silent : Bool) → is_passed_over heard.rst items e ≡ silent
          → IsWelcome (if silent then Judged.As Meaning.Ignored else (if is_forged items e then Judged.Forged else Judged.As (Meaning.Taken pos acknowledged)))
      by true is = tt
      by false is = subst (λ (b : Bool). IsWelcome (if b then Judged.Forged else Judged.As (Meaning.Taken pos acknowledged))) (sym (not_forged (fit.firm refl) is)) tt
  welcome Meaning.Ignored fit = silent_welcome (is_passed_over heard.rst items e) Meaning.Ignored
  welcome m fit = silent_welcome (is_passed_over heard.rst items e) m

  pub end_welcomes : IsWelcome (judged_in true s heard e)
  end_welcomes = welcome (meaning_of (copy_of heard) e.tcp) (state_fits (copy_of heard) e.tcp)

-- a reset is never refused
module _ (s : Side) (e : PathEnd) (heard : HeardSegment) (reset : (copy_of heard).rst ≡ true) where
  silent_reset : (b : Bool) (m : Meaning) → IsWelcome (if b then Judged.As Meaning.Ignored else Judged.As m)
  silent_reset = elim [ true ↦ λ m. tt | false ↦ λ m. tt ]

  reset_as : (m : Meaning) → FitsState e.tcp.state (copy_of heard) m → IsWelcome (join_judged heard.rst (items_of true s heard) m e)
  reset_as Meaning.RepeatedSyn fit = tt
  reset_as Meaning.Ignored fit = silent_reset (is_passed_over heard.rst (items_of true s heard) e) Meaning.Ignored
  reset_as Meaning.Unwanted fit = silent_reset (is_passed_over heard.rst (items_of true s heard) e) Meaning.Unwanted
  reset_as Meaning.Outside fit = silent_reset (is_passed_over heard.rst (items_of true s heard) e) Meaning.Outside
  reset_as Meaning.Kills fit = silent_reset (is_passed_over heard.rst (items_of true s heard) e) Meaning.Kills
  reset_as Meaning.Challenged fit = silent_reset (is_passed_over heard.rst (items_of true s heard) e) Meaning.Challenged
  reset_as Meaning.Unacknowledging fit = silent_reset (is_passed_over heard.rst (items_of true s heard) e) Meaning.Unacknowledging
  reset_as Meaning.Ahead fit = silent_reset (is_passed_over heard.rst (items_of true s heard) e) Meaning.Ahead
  reset_as _ fit = absurd (both_ways _ (fit.firm refl) reset)

  pub reset_welcome : (joined : Bool) → IsWelcome (judged_in joined s heard e)
  reset_welcome false = tt
  reset_welcome true = reset_as (meaning_of (copy_of heard) e.tcp) (state_fits (copy_of heard) e.tcp)

-- ---- a path

pub path_welcomes : (k : Secrets) (w : Side → Type 0) (did : Deed → Side → Type 0) (p : PathState Carried) → PathIs k true w did p → HasRoles p → NextIsWelcome values p
path_welcomes k w did p h roles due heard next is some = by (arriving due p.link) refl is
  where
    to_end : (f : Flight Carried) → arriving due p.link ≡ Some f → SegmentIs k true w did p.profile (peer due.to) f.carried.segment × TellsKey (is_joined p.profile) due.to f.carried.segment
    to_end f there =
        let found = find_every (FlightIs k true w did p.profile) (is_due due) p.link.under_way f h.copies there in
        let told = find_every (CopyTells (is_joined p.profile)) (is_due due) p.link.under_way f roles.copies there in
        let parts = and_parts (f.tick == due.tick) (same_side f.to due.to && f.number == due.copy) found.1 in
        let to = one_side f.to due.to (and_parts (same_side f.to due.to) (f.number == due.copy) parts.1).0 in
        (subst (λ s. SegmentIs k true w did p.profile (peer s) f.carried.segment) to found.0, subst (λ s. TellsKey (is_joined p.profile) s f.carried.segment) to told.0)

    joined : (s : Side) (b : Bool) → is_joined p.profile ≡ b → (sg : PlainSegment) → SegmentIs k true w did p.profile (peer s) sg → TellsKey (is_joined p.profile) s sg → is_nil (meant sg).options ≡ false
        → IsWelcome (judged_in b s (meant sg) (end_at s p))
    joined s false joins sg said tells some = tt
    joined s true joins sg said tells some =
        end_welcomes k w did s (end_at s p) (subst (λ b. EndIs k true w did b s (end_at s p)) joins (end_is k true w did s p h)) (role_at s p roles joins) (meant sg)
        (items_are k true w did true s sg (subst (λ b. Every (OptionIs k true w did b (peer s)) sg.options) joins said))
        (tells_join s sg (subst (λ b. TellsKey b s sg) joins tells) (some_meant sg.options some))

    by : (o : Option (Flight Carried)) → arriving due p.link ≡ o → heard_in values due.to o p ≡ Some heard → IsWelcome (judged_in (is_joined p.profile) due.to heard (end_at due.to p))
    by None there is = cc
    by (Some f) there is =
        let both = to_end f there in
        let same = same_Some (meant (as_arrived f.carried)) heard is in
        subst (λ x. IsWelcome (judged_in (is_joined p.profile) due.to x (end_at due.to p))) same
        (joined due.to (is_joined p.profile) refl (as_arrived f.carried) (arrived_is k true w did p.profile (peer due.to) f.carried both.0) (arrived_tells (is_joined p.profile) due.to f.carried both.1)
        (ap (λ x. is_nil x.options) same ∙ some))

-- ---- worlds

abbrev pub MemberRoles : Actor Carried → Type 0
MemberRoles (App a) = Unit {0}
MemberRoles (Path p) = HasRoles p

abbrev pub AllRoles : WorldState Carried → Type 0
AllRoles w = Every (λ c. MemberRoles c.member) w.crew

takes_member : (r : Reply) (m : Actor Carried) → MemberRoles m → MemberRoles (member_takes values r m)
takes_member r (App a) h = tt
takes_member r (Path p) h = takes_roles r p h

next_member : (m : Actor Carried) → MemberRoles m → MemberRoles (member_next m)
next_member (App a) h = tt
next_member (Path p) h =
    begins_roles (record p { clock = p.until; until = p.until + 100 }) (record { copies = h.copies; role_a = h.role_a; role_b = h.role_b; answer_a = h.answer_a; answer_b = h.answer_b })

run_roles : (turns : List Turn) (w : WorldState Carried) → AllRoles w → AllRoles (world_run values turns w)
run_roles = run_so values AllRoles
    (λ w h actor c x there is. record {
      each = λ i d at. ⊎_elim
          (λ here. subst (λ y. MemberRoles y.member) here.1 (takes_member (reply_of (books_in w.books) x) c.member (h.each actor c there)))
          (λ other. h.each i d other.1)
          (in_set w.crew actor (crew_after values x w.books c) i d at);
    })
    (λ w h over. record {
      each = λ i d at.
          let found = in_map (begins (greatest 0 w.crew)) w.crew i d at in
          subst (λ y. MemberRoles y.member) found.2 (next_member found.0.member (h.each i found.0 found.1));
    })

opened_roles : (start : Start) → AllRoles (opened_world start)
opened_roles start = record { each = opened_actors (λ actor c. MemberRoles c.member) start tt tt (λ number plan there. path number plan) }
  where
    path : (number : ℕ) (plan : PathPlan) → MemberRoles (new_path {C = Carried} start number plan).member
    path number plan = begins_roles (waiting_path (path_begins start number plan) start.lines) (record {
      copies = Every-nil _;
      role_a = λ joins. apart number;
      role_b = λ joins. refl;
      answer_a = tt;
      answer_b = tt;
    })
      where
        apart : (number : ℕ) → is_apart A (waiting_path {C = Carried} (path_begins start number plan) start.lines).a.tcp.state ≡ false
        apart = elim [ zero ↦ refl | suc n ↦ refl ]

pub all_roles : (start : Start) (turns : List Turn) → AllRoles (world_run values turns (opened_world start))
all_roles start turns = run_roles turns (opened_world start) (opened_roles start)

-- ---- the law

pub each_copy_is_welcome : Always values (λ start w. EachCopyIsWelcome values w)
each_copy_is_welcome start turns = record { each = λ actor c there. by c.member (met.keys.crew.each actor c there) (roles.each actor c there) }
  where
    met : WorldMet start.key_a start.key_b (world_run values turns (opened_world start))
    met = run_met start.key_a start.key_b turns (opened_world start) (opened_met start)

    roles : AllRoles (world_run values turns (opened_world start))
    roles = all_roles start turns

    six : SixBooks
    six = books_in (world_run values turns (opened_world start)).books

    by : (m : Actor Carried) → MemberIs start.key_a start.key_b true six m → MemberRoles m → WelcomesNext values m
    by (App a) keys member = tt
    by (Path p) keys member = path_welcomes (with_nonces start.key_a start.key_b true keys.nonce_a keys.nonce_b) (Joined six) (Past six NoMore) p keys.is member
