-- At an end of A nothing but a DSS is told to its control book as the sign of Multipath TCP: each acknowledgement, mapping and end of
-- the stream that a copy says comes behind a DSS, and that one clears the end. So the end is clear before it tells one.
--
-- An order of things heard (a sign of Multipath TCP comes behind a DSS): the list of things as a recursion with a Bool
-- that rises (`Led`), the agenda as a recursion with the number that is next (`Follows`), and a step is either one that
-- keeps both or begins anew (`proofs/Keys/DssIsTheSign`); so `proofs/Keys/SureMaySend` needs no case of what a copy
-- said.
use Rattle.world_laws.proofs.Words.{◌≡◌, refl, sym, ap, subst, ℕ, zero, suc, ◌+◌, ◌||◌, inl, inr, ◌⊎◌, ⊎_elim, Bool, true, false, if◌then◌else◌, Option, Some}
use Rattle.world_laws.proofs.Words.{None, List, [], ◌∷◌, ◌++◌, length, map, arith, both_ways, false≢true, or_right, or_left, flat_map, FallEvent, Address, Side}
use Rattle.world_laws.proofs.Words.{A, B, JoinForm, CapableKeys, Sender, JoinSyn, KeptMapping, Record, is_dead, Meaning, is_sixth, arriving, after_delivery}
use Rattle.world_laws.proofs.Words.{HeardSegment, Capable, Join, Dss, AddAddr, Remove, Prio, Fail, Reset, LineAction, Piece, rest_of_turn, emission, heard_and}
use Rattle.world_laws.proofs.Words.{payload_came, leaves, resets, stops, start_of_turn, Duty, SendDuty, StepDuty, AskDuty, SilentDuty, Heard, KeyPair}
use Rattle.world_laws.proofs.Words.{key_heard, keys_heard, is_dss, Reply, tail_of, Codec, stands, passed, answered, PathEnd, died, answered_ack_out, at_tick}
use Rattle.world_laws.proofs.Words.{PathState, end_at, goes_on, with_end, with_agenda, settled, answers, takes, begins_turn, next_round, FirstStands, IsSettled}
use Rattle.world_laws.proofs.Words.{items_in, items_of, options_heard, judged_in, template_by, template_judged, heard_in, copy_heard, reset_on, answered_break}
use Rattle.world_laws.proofs.Words.{died_unless_dead, answered_data, answered_grant, first_unsent, grant_in, Judged, next_event, after_line, happens_if}
use Rattle.world_laws.proofs.Words.{join_begun, asked_at, is_never, join_taken, keys_begun, opened_by, is_joined, join_items, template_fired, is_wrong}
use Rattle.world_laws.proofs.Words.{mapping_here, piece_of, is_placed, answered_piece, forgotten_by, answered_plain_fin, answered_fin_heard, is_fin_set}
use Rattle.world_laws.proofs.Words.{ack_items, map_items, is_clash, with_learned, HeardOption, told_next, answered_item, item_of, item_passed, item_stands}
use Rattle.world_laws.proofs.Words.{after_check_failed, after_fell, fell_duties, answered_plain_ack, with_plain_ack, breaks_by_ack, after_fail_heard}
use Rattle.world_laws.proofs.Words.{answered_fell, answered_peer_key, answered_opened, key_items, is_stopped_by, item_removed, address_items, item_at, if_so}
use Rattle.path_segments.specs.declared.segment.PathOption.TheVariants.{FastClose}
use Rattle.path_core.specs.declared.events.Event.{Event}
use Rattle.world_laws.proofs.Writes.Ends.{item_so}
use Rattle.world_laws.proofs.Falls.ClearStays.{maybe_end, passed_clear, answered_clear, Stays}
use Rattle.world_laws.proofs.Falls.Verdicts.{fell_cases}
use Rattle.world_laws.proofs.Falls.FailedChecks.{check_failed_so, fail_heard_so, infinite_came_so, fail_answered_so}

-- ---- what a copy says, in its order

-- a thing that a DSS says comes behind it
abbrev pub IsLed : Bool → Heard → Type 0
IsLed seen (Heard.DataAck next window) = seen ≡ true
IsLed seen (Heard.Mapping fin) = seen ≡ true
IsLed seen (Heard.DataFin place) = seen ≡ true
IsLed seen (Heard.InfiniteMapping place position) = seen ≡ true
IsLed seen _ = Unit {0}

abbrev pub Led : Bool → List Heard → Type 0
Led seen [] = Unit {0}
Led seen (item ∷ items) = IsLed seen item × Led (seen || is_dss item) items

one_led : (seen later : Bool) (item : Heard) → (seen ≡ true → later ≡ true) → IsLed seen item → IsLed later item
one_led seen later (Heard.DataAck next window) on h = on h
one_led seen later (Heard.Mapping fin) on h = on h
one_led seen later (Heard.DataFin place) on h = on h
one_led seen later (Heard.InfiniteMapping place position) on h = on h
one_led seen later _ on h = tt

either_on : (seen later dss : Bool) → (seen ≡ true → later ≡ true) → (seen || dss) ≡ true → (later || dss) ≡ true
either_on true later dss on is = or_left later dss (on refl)
either_on false later dss on is = or_right later dss is

led_later : (seen later : Bool) (items : List Heard) → (seen ≡ true → later ≡ true) → Led seen items → Led later items
led_later seen later [] on h = tt
led_later seen later (item ∷ items) on h =
    (one_led seen later item on h.0, led_later (seen || is_dss item) (later || is_dss item) items (either_on seen later (is_dss item) on) h.1)

led_append : (seen : Bool) (xs ys : List Heard) → Led seen xs → Led false ys → Led seen (xs ++ ys)
led_append seen [] ys x y = led_later false seen ys (λ is. absurd (false≢true is)) y
led_append seen (item ∷ xs) ys x y = (x.0, led_append (seen || is_dss item) xs ys x.1 y)

one_seen : (item : Heard) → IsLed true item
one_seen (Heard.DataAck next window) = refl
one_seen (Heard.Mapping fin) = refl
one_seen (Heard.DataFin place) = refl
one_seen (Heard.InfiniteMapping place position) = refl
one_seen _ = tt

-- behind a DSS all is led
all_seen : (items : List Heard) → Led true items
all_seen [] = tt
all_seen (item ∷ items) = (one_seen item, all_seen items)

joins_led : (form : JoinForm) → Led false (join_items A form)
joins_led (JoinForm.Answer backup id hmac nonce) = (tt, tt)
joins_led (JoinForm.Syn backup id token nonce) = tt
joins_led (JoinForm.Third hmac) = tt

keys_led : (keys : CapableKeys) → Led false (key_items A keys)
keys_led = elim [ Sender sender ↦ (tt, tt) | _ ↦ tt ]

address_led : (echo : Bool) (id : ℕ) (address : Address) (port hmac : Option ℕ) → Led false (address_items echo id address port hmac)
address_led true id address port hmac = (tt, tt)
address_led false id address port (Some hmac) = (tt, tt)
address_led false id address port None = tt

removed_led : (ids : List ℕ) → Led false (map item_removed ids)
removed_led [] = tt
removed_led (id ∷ ids) = (tt, removed_led ids)

module _ (joined : Bool) (window : ℕ) where
  option_led : (o : HeardOption) → Led false (items_in joined A window o)
  option_led (Capable flag_a flag_c keys) = if_so (Led false) joined [] (key_items A keys) tt (keys_led keys)
  option_led (Dss next mapping) = (tt, all_seen (ack_items next window ++ map_items mapping))
  option_led (Join form) = joins_led form
  option_led (AddAddr echo id address port hmac) = address_led echo id address port hmac
  option_led (Remove ids) = removed_led ids
  option_led (Reset transient reason) = tt
  option_led _ = (tt, tt)

  options_led : (os : List HeardOption) → Led false (flat_map (items_in joined A window) os)
  options_led [] = tt
  options_led (o ∷ os) = led_append false (items_in joined A window o) (flat_map (items_in joined A window) os) (option_led o) (options_led os)

items_led : (joined : Bool) (h : HeardSegment) → Led false (items_of joined A h)
items_led joined h = options_led joined h.window h.options

-- ---- so many things without a DSS

abbrev pub NoneBefore : ℕ → List Heard → Type 0
NoneBefore zero items = Unit {0}
NoneBefore (suc n) [] = Unit {0}
NoneBefore (suc n) (item ∷ items) = (is_dss item ≡ false) × NoneBefore n items

-- the next one is none that a DSS says
pub unled : (n : ℕ) (items : List Heard) (item : Heard) → Led false items → NoneBefore n items → item_at n items ≡ Some item → IsLed false item
unled n [] item led none is = cc
unled zero (x ∷ items) item led none is = let same : x ≡ item = cc in subst (IsLed false) same led.0
unled (suc n) (x ∷ items) item led none is = unled n items item (subst (λ b. Led b items) none.0 led.1) none.1 is

one_more : (n : ℕ) (items : List Heard) (item : Heard) → NoneBefore n items → item_at n items ≡ Some item → is_dss item ≡ false → NoneBefore (suc n) items
one_more n [] item none is dss = tt
one_more zero (x ∷ items) item none is dss = let same : x ≡ item = cc in (subst (λ y. is_dss y ≡ false) (sym same) dss, tt)
one_more (suc n) (x ∷ items) item none is dss = (none.0, one_more n items item none.1 is dss)

no_more : (n : ℕ) (items : List Heard) → NoneBefore n items → item_at n items ≡ None → NoneBefore (suc n) items
no_more n [] none is = tt
no_more zero (x ∷ items) none is = cc
no_more (suc n) (x ∷ items) none is = (none.0, no_more n items none.1 is)

nothing_before : (n : ℕ) → NoneBefore n []
nothing_before = elim [ zero ↦ tt | suc n ↦ tt ]

-- ---- what is to be done

-- the things that a copy said to A are treated one after the other, from this one on, and none is told yet
abbrev pub Follows : ℕ → List Duty → Type 0
Follows n [] = Unit {0}
Follows n (Duty.Step (StepDuty.Heard A index) ∷ ds) = (index ≡ n) × Follows (suc n) ds
Follows n (Duty.Ask (AskDuty.AckHeard A) ∷ ds) = ⊥
Follows n (d ∷ ds) = Follows n ds

heard_follow : (from count : ℕ) → Follows from (heard_and A from count (payload_came A))
heard_follow from zero = tt
heard_follow from (suc count) = let next : from + 1 ≡ suc from = omega arith in (refl, subst (λ n. Follows n (heard_and A (from + 1) count (payload_came A))) next (heard_follow (from + 1) count))

heard_by_b : (n from count : ℕ) → Follows n (heard_and B from count (payload_came B))
heard_by_b n from zero = tt
heard_by_b n from (suc count) = heard_by_b n (from + 1) count

template_follows : (joined : Bool) (s : Side) (count : ℕ) (m : Meaning) → Follows 0 (template_by joined s count m)
template_follows true s count (Meaning.Accepts acknowledged) = tt
template_follows false s count (Meaning.Accepts acknowledged) = tt
template_follows joined A count (Meaning.Taken position acknowledged) = heard_follow 0 count
template_follows joined B count (Meaning.Taken position acknowledged) = heard_by_b 0 0 count
template_follows joined s count _ = tt

judged_follows : (joined : Bool) (s : Side) (count : ℕ) (verdict : Judged) → Follows 0 (template_judged joined s count verdict)
judged_follows joined s count (Judged.As meaning) = template_follows joined s count meaning
judged_follows joined s count _ = tt

died_follows : (dead_a dead_b : Bool) → Follows 0 ((if dead_a then [] else Duty.Ask (AskDuty.Leave A) ∷ []) ++ ((if dead_b then [] else Duty.Ask (AskDuty.Leave B) ∷ []) ++ rest_of_turn))
died_follows true true = tt
died_follows true false = tt
died_follows false true = tt
died_follows false false = tt

fired_follows : (sixth : Bool) (s : Side) → Follows 0 (template_fired sixth s)
fired_follows = elim [ true ↦ λ s. tt | false ↦ λ s. tt ]

-- ---- an end keeps what its copy said, or forgets it

record Recalls (e f : PathEnd) : Type 0 where
  kept : (f.treated.items ≡ e.treated.items) ⊎ (f.treated.items ≡ [])

recalls_all : (e f : PathEnd) → f.treated.items ≡ e.treated.items → Recalls e f
recalls_all e f same = record { kept = inl same }

forgets : (e f : PathEnd) → f.treated.items ≡ [] → Recalls e f
forgets e f none = record { kept = inr none }

either_recalls : (b : Bool) (e f g : PathEnd) → Recalls e f → Recalls e g → Recalls e (if b then f else g)
either_recalls = elim [ true ↦ λ e f g x y. x | false ↦ λ e f g x y. y ]

opened_recalls : (keys : Option KeyPair) (e : PathEnd) → Recalls e (opened_by keys e)
opened_recalls = elim [ None ↦ λ e. recalls_all e _ refl | Some keys ↦ λ e. recalls_all e _ refl ]

recalled_led : (e f : PathEnd) → Recalls e f → Led false e.treated.items → Led false f.treated.items
recalled_led e f r h = ⊎_elim (λ same. subst (Led false) (sym same) h) (λ none. subst (Led false) (sym none) tt) r.kept

recalled_none : (n : ℕ) (e f : PathEnd) → Recalls e f → NoneBefore n e.treated.items → NoneBefore n f.treated.items
recalled_none n e f r h = ⊎_elim (λ same. subst (NoneBefore n) (sym same) h) (λ none. subst (NoneBefore n) (sym none) (nothing_before n)) r.kept

same_items : (s : Side) (o : Option Heard) (e : PathEnd) → (item_passed s o e).treated.items ≡ e.treated.items
same_items s o e = item_so (λ f. f.treated.items ≡ e.treated.items) s o e refl refl (λ next. refl) refl refl (λ place. refl)

checked_recalls : (checksums : Bool) (o : Option KeptMapping) (e : PathEnd) → Recalls e (forgotten_by checksums o e)
checked_recalls checksums None e = recalls_all e e refl
checked_recalls checksums (Some kept) e = either_recalls (is_wrong checksums kept e.tcp) e _ _ (recalls_all e _ refl) (recalls_all e _ refl)

-- the peer's fast close
stopped_follows : (s : Side) (stopped : Bool) (n : ℕ) (ds : List Duty) → Follows n ds → Follows n (if stopped then stops s else ds)
stopped_follows s true n ds f = tt
stopped_follows s false n ds f = f

-- the first duty is none of these
abbrev IsOther : Duty → Type 0
IsOther (Duty.Step StepDuty.Events) = ⊥
IsOther (Duty.Step (StepDuty.Heard A index)) = ⊥
IsOther _ = Unit {0}

-- ---- a path

module _ {C : Type 0} where
  -- A's end isn't clear, and no DSS was heard by the things that are treated already; or the end fell back, and hears none
  pub record IsUnclear (ds : List Duty) (p : PathState C) : Type 0 where
    pub n : ℕ
    pub none : (p.a.modes.identity ≡ true) ⊎ NoneBefore n p.a.treated.items
    pub follows : Follows n ds

  pub record Leads (ds : List Duty) (p : PathState C) : Type 0 where
    pub led : Led false p.a.treated.items
    pub clear : (p.a.modes.clear ≡ true) ⊎ IsUnclear ds p

  -- a step that leaves what a copy said to A, or forgets it
  record Goes (d : Duty) (ds : List Duty) (p q : PathState C) (es : List Duty) : Type 0 where
    recalls : Recalls p.a q.a
    follows : (n : ℕ) → Follows n (d ∷ ds) → Follows n es

  goes_led : (d : Duty) (ds : List Duty) (p q : PathState C) (es : List Duty) → Stays p.a.modes q.a.modes → Goes d ds p q es → Leads (d ∷ ds) p → Leads es q
  goes_led d ds p q es clear g h = record {
    led = recalled_led p.a q.a g.recalls h.led;
    clear = ⊎_elim
        (λ is. inl (clear.0 is))
        (λ (u : IsUnclear (d ∷ ds) p). inr (record {
          n = u.n;
          none = ⊎_elim (λ plain. inl (clear.1 plain)) (λ none. inr (recalled_none u.n p.a q.a g.recalls none)) u.none;
          follows = g.follows u.n u.follows;
        }))
        h.clear;
  }

  -- the end of a side becomes this, whatever else is on the path
  side_recalls : (s : Side) (e : PathEnd) (p : PathState C) (f : PathEnd) → Recalls (end_at s p) e → f ≡ (goes_on s e [] p).a → Recalls p.a f
  side_recalls A e p f x same = subst (Recalls p.a) (sym same) x
  side_recalls B e p f x same = recalls_all p.a f (ap (λ g. g.treated.items) same)

  -- ---- passing

  -- an end that didn't fall back
  pub unheard : (p : PathState C) (n : ℕ) → p.a.modes.identity ≡ false → (p.a.modes.identity ≡ true) ⊎ NoneBefore n p.a.treated.items → NoneBefore n p.a.treated.items
  unheard p n above (inl plain) = absurd (both_ways p.a.modes.identity above plain)
  unheard p n above (inr none) = none

  -- a thing that was said to A is passed
  item_leads : (index : ℕ) (ds : List Duty) (p : PathState C) → p.a.modes.identity ≡ false → (o : Option Heard) → item_at index p.a.treated.items ≡ o → Leads (Duty.Step (StepDuty.Heard A index) ∷ ds) p
      → Leads ds (with_end A (item_passed A o p.a) p)
  item_leads index ds p above o is h = record {
    led = subst (Led false) (sym (same_items A o p.a)) h.led;
    clear = ⊎_elim (λ is_clear. inl ((maybe_end A o p.a).0 is_clear)) (λ (u : IsUnclear (Duty.Step (StepDuty.Heard A index) ∷ ds) p). by o is u) h.clear;
  }
    where
      by : (o : Option Heard) → item_at index p.a.treated.items ≡ o → IsUnclear (Duty.Step (StepDuty.Heard A index) ∷ ds) p
          → ((item_passed A o p.a).modes.clear ≡ true) ⊎ IsUnclear ds (with_end A (item_passed A o p.a) p)
      by None is u =
          inr (record { n = suc u.n; none = inr (no_more u.n p.a.treated.items (unheard p u.n above u.none) (subst (λ n. item_at n p.a.treated.items ≡ None) u.follows.0 is)); follows = u.follows.1 })
      by (Some Heard.Dss) is u = inl (or_right p.a.modes.clear true refl)
      by (Some (Heard.DataAck next window)) is u =
          absurd (false≢true (unled u.n p.a.treated.items (Heard.DataAck next window) h.led (unheard p u.n above u.none) (subst (λ n. item_at n p.a.treated.items ≡ Some (Heard.DataAck next window)) u.follows.0 is)))
      by (Some (Heard.Mapping fin)) is u =
          absurd (false≢true (unled u.n p.a.treated.items (Heard.Mapping fin) h.led (unheard p u.n above u.none) (subst (λ n. item_at n p.a.treated.items ≡ Some (Heard.Mapping fin)) u.follows.0 is)))
      by (Some (Heard.DataFin place)) is u =
          absurd (false≢true (unled u.n p.a.treated.items (Heard.DataFin place) h.led (unheard p u.n above u.none) (subst (λ n. item_at n p.a.treated.items ≡ Some (Heard.DataFin place)) u.follows.0 is)))
      by (Some (Heard.InfiniteMapping place position)) is u =
          absurd (false≢true (unled u.n p.a.treated.items (Heard.InfiniteMapping place position) h.led (unheard p u.n above u.none) (subst (λ n. item_at n p.a.treated.items ≡ Some (Heard.InfiniteMapping place position)) u.follows.0 is)))
      by (Some (Heard.PeerKey key)) is u =
          inr (record { n = suc u.n; none = inr (one_more u.n p.a.treated.items (Heard.PeerKey key) (unheard p u.n above u.none) (subst (λ n. item_at n p.a.treated.items ≡ Some (Heard.PeerKey key)) u.follows.0 is) refl); follows = u.follows.1 })
      by (Some (Heard.Keys own peer)) is u =
          inr (record { n = suc u.n; none = inr (one_more u.n p.a.treated.items (Heard.Keys own peer) (unheard p u.n above u.none) (subst (λ n. item_at n p.a.treated.items ≡ Some (Heard.Keys own peer)) u.follows.0 is) refl); follows = u.follows.1 })
      by (Some (Heard.Join form)) is u =
          inr (record { n = suc u.n; none = inr (one_more u.n p.a.treated.items (Heard.Join form) (unheard p u.n above u.none) (subst (λ n. item_at n p.a.treated.items ≡ Some (Heard.Join form)) u.follows.0 is) refl); follows = u.follows.1 })
      by (Some (Heard.Notice notice)) is u =
          inr (record { n = suc u.n; none = inr (one_more u.n p.a.treated.items (Heard.Notice notice) (unheard p u.n above u.none) (subst (λ n. item_at n p.a.treated.items ≡ Some (Heard.Notice notice)) u.follows.0 is) refl); follows = u.follows.1 })
      by (Some Heard.Fail) is u =
          inr (record { n = suc u.n; none = inr (one_more u.n p.a.treated.items Heard.Fail (unheard p u.n above u.none) (subst (λ n. item_at n p.a.treated.items ≡ Some Heard.Fail) u.follows.0 is) refl); follows = u.follows.1 })
      by (Some (Heard.FastClose key)) is u =
          inr (record { n = suc u.n; none = inr (one_more u.n p.a.treated.items (Heard.FastClose key) (unheard p u.n above u.none) (subst (λ n. item_at n p.a.treated.items ≡ Some (Heard.FastClose key)) u.follows.0 is) refl); follows = u.follows.1 })

  pub passed_leads : (d : Duty) (ds : List Duty) (p : PathState C) → Leads (d ∷ ds) p → stands d p ≡ false → Leads ds (passed d p)
  passed_leads (Duty.Step (StepDuty.Heard A index)) ds p h none = by p.a.modes.identity refl
    where
      by : (b : Bool) → p.a.modes.identity ≡ b → Leads ds (with_end A (item_passed A (if b then None else item_at index p.a.treated.items) p.a) p)
      by true plain = record {
        led = h.led;
        clear = ⊎_elim (λ is_clear. inl is_clear) (λ (u : IsUnclear (Duty.Step (StepDuty.Heard A index) ∷ ds) p). inr (record { n = suc u.n; none = inl plain; follows = u.follows.1 })) h.clear;
      }
      by false above = item_leads index ds p above (item_at index p.a.treated.items) refl h
  passed_leads (Duty.Step (StepDuty.Heard B index)) ds p h none = goes_led (Duty.Step (StepDuty.Heard B index)) ds p _ ds (λ is. is, λ is. is) (record { recalls = recalls_all _ _ refl; follows = λ n f. f }) h
  passed_leads (Duty.Silent (SilentDuty.Timer s)) ds p h none = goes_led (Duty.Silent (SilentDuty.Timer s)) ds p _ ds (passed_clear (Duty.Silent (SilentDuty.Timer s)) p).a (record { recalls = side_recalls s _ p _ (recalls_all _ _ refl) refl; follows = λ n f. f }) h
  passed_leads (Duty.Silent (SilentDuty.Keep s)) ds p h none = goes_led (Duty.Silent (SilentDuty.Keep s)) ds p _ ds (passed_clear (Duty.Silent (SilentDuty.Keep s)) p).a (record { recalls = side_recalls s _ p _ (recalls_all _ _ refl) refl; follows = λ n f. f }) h
  passed_leads (Duty.Silent (SilentDuty.PassFin s)) ds p h none = goes_led (Duty.Silent (SilentDuty.PassFin s)) ds p _ ds (passed_clear (Duty.Silent (SilentDuty.PassFin s)) p).a (record { recalls = side_recalls s _ p _ (recalls_all _ _ refl) refl; follows = λ n f. f }) h
  passed_leads (Duty.Ask (AskDuty.CheckFailed s)) ds p h none =
      goes_led (Duty.Ask (AskDuty.CheckFailed s)) ds p _ ds (passed_clear (Duty.Ask (AskDuty.CheckFailed s)) p).a (record {
        recalls = side_recalls s _ p _ (checked_recalls p.profile.spelling.checksums (mapping_here (end_at s p)) (end_at s p)) refl;
        follows = λ n f. f;
      }) h
  passed_leads (Duty.Ask (AskDuty.AckHeard A)) ds p h none = goes_led (Duty.Ask (AskDuty.AckHeard A)) ds p p ds (λ is. is, λ is. is) (record { recalls = recalls_all _ _ refl; follows = λ n f. absurd f }) h
  passed_leads (Duty.Ask (AskDuty.AckHeard B)) ds p h none = goes_led (Duty.Ask (AskDuty.AckHeard B)) ds p p ds (λ is. is, λ is. is) (record { recalls = recalls_all _ _ refl; follows = λ n f. f }) h
  passed_leads (Duty.Send (SendDuty.Update s)) ds p h none = goes_led (Duty.Send (SendDuty.Update s)) ds p p ds (λ is. is, λ is. is) (record { recalls = recalls_all _ _ refl; follows = λ n f. f }) h
  passed_leads (Duty.Step (StepDuty.PlainAck s)) ds p h none = goes_led (Duty.Step (StepDuty.PlainAck s)) ds p _ ds (passed_clear (Duty.Step (StepDuty.PlainAck s)) p).a (record { recalls = side_recalls s _ p _ (recalls_all _ _ refl) refl; follows = λ n f. f }) h
  passed_leads (Duty.Step (StepDuty.Unmapped s)) ds p h none = goes_led (Duty.Step (StepDuty.Unmapped s)) ds p _ ds (passed_clear (Duty.Step (StepDuty.Unmapped s)) p).a (record { recalls = side_recalls s _ p _ (recalls_all _ _ refl) refl; follows = λ n f. f }) h
  passed_leads d ds p h none = goes_led d ds p p ds (λ is. is, λ is. is) (record { recalls = recalls_all _ _ refl; follows = λ n f. f }) h

  agenda_leads : (ds : List Duty) (p : PathState C) → Leads ds p → Leads ds (with_agenda ds p)
  agenda_leads ds p h = record {
    led = h.led;
    clear = ⊎_elim (λ is. inl is) (λ (u : IsUnclear ds p). inr (record { n = u.n; none = u.none; follows = u.follows })) h.clear;
  }

  -- whatever the agenda of the path is
  settled_leads : (ds : List Duty) (p : PathState C) → Leads ds p → Leads (settled ds p).agenda (settled ds p)
  settled_leads [] p h = agenda_leads [] p h
  settled_leads (d ∷ ds) p h = by (stands d p) refl (λ none. settled_leads ds (passed d p) (passed_leads d ds p h none))
    where
      by : (b : Bool) → stands d p ≡ b → (stands d p ≡ false → Leads (settled ds (passed d p)).agenda (settled ds (passed d p)))
          → Leads (if b then with_agenda (d ∷ ds) p else settled ds (passed d p)).agenda (if b then with_agenda (d ∷ ds) p else settled ds (passed d p))
      by = elim [ true ↦ λ is rest. agenda_leads (d ∷ ds) p h | false ↦ λ is rest. rest is ]

  -- ---- events: what is to be done then begins anew

  -- nothing was treated of a copy yet
  record Anew (p q : PathState C) : Type 0 where
    led : Led false q.a.treated.items
    follows : Follows 0 q.agenda

  either_anew : (b : Bool) (p q r : PathState C) → Anew p q → Anew p r → Anew p (if b then q else r)
  either_anew = elim [ true ↦ λ p q r x y. x | false ↦ λ p q r x y. y ]

  anew_leads : (p q : PathState C) → Anew p q → Leads q.agenda q
  anew_leads p q x = record { led = x.led; clear = inr (record { n = 0; none = inr tt; follows = x.follows }) }

  module _ (p : PathState C) (led : Led false p.a.treated.items) where
    line_anew : (action : LineAction) → Anew p (after_line action p)
    line_anew LineAction.Die = record {
      led = recalled_led p.a (died_unless_dead p.a) (either_recalls (is_dead p.a.tcp.state) p.a p.a (died p.a) (recalls_all p.a p.a refl) (forgets p.a (died p.a) refl)) led;
      follows = died_follows (is_dead p.a.tcp.state) (is_dead p.b.tcp.state);
    }
    line_anew (LineAction.Prio A backup) = record { led = led; follows = tt }
    line_anew (LineAction.Prio B backup) = record { led = led; follows = tt }
    line_anew (LineAction.Announce s id) = record { led = led; follows = tt }
    line_anew (LineAction.Withdraw s id) = record { led = led; follows = tt }

    copy_anew : (s : Side) (heard : Option HeardSegment) → Anew p (copy_heard s heard p)
    copy_anew s None = record { led = led; follows = tt }
    copy_anew A (Some heard) =
        let joined = is_joined p.profile in let h : HeardSegment = options_heard p.a heard in
        record { led = items_led joined h; follows = judged_follows joined A (length (items_of joined A h)) (judged_in joined A h p.a) }
    copy_anew B (Some heard) =
        let joined = is_joined p.profile in let h : HeardSegment = options_heard p.b heard in
        record { led = led; follows = judged_follows joined B (length (items_of joined B h)) (judged_in joined B h p.b) }

    begun_anew : (r : Reply) → Anew p (join_begun r (leaves A) (emission A) p)
    begun_anew r =
        either_anew (is_never r) p _ _ (record { led = tt; follows = tt })
        (record { led = recalled_led p.a (opened_by (keys_begun r) p.a) (opened_recalls (keys_begun r) p.a) led; follows = tt })

  happens_anew : (k : Codec C) (o : Option Event) (r : Reply) (p : PathState C) → Led false p.a.treated.items → Leads (happens_if k o r p).agenda (happens_if k o r p)
  happens_anew k None r p led = anew_leads p (with_agenda rest_of_turn p) (record { led = led; follows = tt })
  happens_anew k (Some (Event.Joins tick)) r p led =
      let q : PathState C = record (at_tick tick p) { joined_at = None } in anew_leads q (join_begun r (leaves A) (emission A) q) (begun_anew q led r)
  happens_anew k (Some (Event.Takes line)) r p led =
      let q : PathState C = record (at_tick line.tick p) { lines = tail_of p.lines } in anew_leads q (after_line line.action q) (line_anew q led line.action)
  happens_anew k (Some (Event.Arrives due)) r p led =
      let q : PathState C = record (at_tick due.tick p) { link = after_delivery due p.link } in
      let heard = heard_in k due.to (arriving due p.link) p in
      anew_leads q (copy_heard due.to heard q) (copy_anew q led due.to heard)
  happens_anew k (Some (Event.Fires A tick)) r p led = anew_leads p _ (record { led = led; follows = fired_follows (is_sixth p.a.tcp) A })
  happens_anew k (Some (Event.Fires B tick)) r p led = anew_leads p _ (record { led = led; follows = fired_follows (is_sixth p.b.tcp) B })

  -- ---- replies

  either_goes : (b : Bool) (d : Duty) (ds : List Duty) (p q r : PathState C) → Goes d ds p q q.agenda → Goes d ds p r r.agenda → Goes d ds p (if b then q else r) (if b then q else r).agenda
  either_goes = elim [ true ↦ λ d ds p q r x y. x | false ↦ λ d ds p q r x y. y ]

  begun_goes : (r : Reply) (ds : List Duty) (p : PathState C) → let m = with_agenda ((Duty.Ask AskDuty.JoinAgain) ∷ ds) p in let q = join_begun r (Duty.Ask (AskDuty.Leave A) ∷ ds) ds m in Goes (Duty.Ask AskDuty.JoinAgain) ds m q q.agenda
  begun_goes r ds p = either_goes (is_never r) (Duty.Ask AskDuty.JoinAgain) ds (with_agenda ((Duty.Ask AskDuty.JoinAgain) ∷ ds) p) _ _
      (record { recalls = forgets _ _ refl; follows = λ n f. f }) (record { recalls = opened_recalls (keys_begun r) p.a; follows = λ n f. f })

  data_goes : (k : Codec C) (s : Side) (r : Reply) (ds : List Duty) (p : PathState C) (o : Option Record)
      → let m = with_agenda (Duty.Step (StepDuty.Data s) ∷ ds) p in let q = answered_data k s o r m in Goes (Duty.Step (StepDuty.Data s)) ds m q q.agenda
  data_goes k s r ds p (Some u) = record { recalls = side_recalls s _ (with_agenda (Duty.Step (StepDuty.Data s) ∷ ds) p) _ (recalls_all _ _ refl) refl; follows = λ n f. f }
  data_goes k s r ds p None =
      elim (grant_in r) as (λ o. let m = with_agenda (Duty.Step (StepDuty.Data s) ∷ ds) p in let q = answered_grant s o r m in Goes (Duty.Step (StepDuty.Data s)) ds m q q.agenda) [
        | Some grant ↦ record { recalls = side_recalls s _ (with_agenda (Duty.Step (StepDuty.Data s) ∷ ds) p) _ (recalls_all _ _ refl) refl; follows = λ n f. f }
        | None ↦ record { recalls = side_recalls s _ (with_agenda (Duty.Step (StepDuty.Data s) ∷ ds) p) _ (recalls_all _ _ refl) refl; follows = λ n f. f }
      ]

  join_goes : (s : Side) (keys : Option KeyPair) (asked : Option JoinSyn) (r : Reply) (ds : List Duty) (p : PathState C)
      → let m = with_agenda (Duty.Ask (AskDuty.JoinHeard s) ∷ ds) p in let q = join_taken s keys asked r m in Goes (Duty.Ask (AskDuty.JoinHeard s)) ds m q q.agenda
  join_goes s (Some keys) (Some asked) r ds p = record { recalls = side_recalls s _ (with_agenda (Duty.Ask (AskDuty.JoinHeard s) ∷ ds) p) _ (recalls_all _ _ refl) refl; follows = λ n f. f }
  join_goes s (Some keys) None r ds p = record { recalls = recalls_all _ _ refl; follows = λ n f. f }
  join_goes s None None r ds p = record { recalls = recalls_all _ _ refl; follows = λ n f. f }
  join_goes s None (Some asked) r ds p = record { recalls = side_recalls s _ (with_agenda (Duty.Ask (AskDuty.JoinHeard s) ∷ ds) p) _ (recalls_all _ _ refl) refl; follows = λ n f. f }

  -- a break is to be made, whatever was first
  break_goes : (k : Codec C) (d : Duty) (s : Side) (reason : ℕ) (r : Reply) (ds : List Duty) (m : PathState C)
      → let q = answered_break k s reason r m in Goes d ds m q q.agenda
  break_goes k d s reason r ds m = either_goes (end_at s m).treated.asked d ds m (answered_ack_out s r (resets s reason) m) (reset_on k s (Some reason) (leaves s) m)
      (record { recalls = side_recalls s _ m _ (recalls_all _ _ refl) refl; follows = λ n f. tt }) (record { recalls = side_recalls s _ m _ (forgets _ _ refl) refl; follows = λ n f. tt })

  piece_goes : (s : Side) (ds : List Duty) (p : PathState C) (o : Option Piece) (taken : Bool)
      → let m = with_agenda (Duty.Ask (AskDuty.Edge s) ∷ ds) p in let q = answered_piece s o taken m in Goes (Duty.Ask (AskDuty.Edge s)) ds m q q.agenda
  piece_goes s ds p (Some piece) true = record { recalls = side_recalls s _ (with_agenda (Duty.Ask (AskDuty.Edge s) ∷ ds) p) _ (recalls_all _ _ refl) refl; follows = λ n f. f }
  piece_goes s ds p (Some piece) false = record { recalls = side_recalls s _ (with_agenda (Duty.Ask (AskDuty.Edge s) ∷ ds) p) _ (recalls_all _ _ refl) refl; follows = λ n f. tt }
  piece_goes s ds p None taken = record { recalls = side_recalls s _ (with_agenda (Duty.Ask (AskDuty.Edge s) ∷ ds) p) _ (recalls_all _ _ refl) refl; follows = λ n f. tt }

  fin_goes : (s : Side) (index : ℕ) (ds : List Duty) (p : PathState C) (set : Bool)
      → let m = with_agenda (Duty.Ask (AskDuty.HeardFin s index) ∷ ds) p in let q = answered_fin_heard s set m in Goes (Duty.Ask (AskDuty.HeardFin s index)) ds m q q.agenda
  fin_goes s index ds p true = record { recalls = side_recalls s _ (with_agenda (Duty.Ask (AskDuty.HeardFin s index) ∷ ds) p) _ (recalls_all _ _ refl) refl; follows = λ n f. f }
  fin_goes s index ds p false = record { recalls = side_recalls s _ (with_agenda (Duty.Ask (AskDuty.HeardFin s index) ∷ ds) p) _ (recalls_all _ _ refl) refl; follows = λ n f. tt }

  -- what follows where something is told of the mode
  fell_follows : (s : Side) (d : Duty) (ds : List Duty) (r : Reply) (p : PathState C) (n : ℕ) → Follows n ds → Follows n (fell_duties s r (with_agenda (d ∷ ds) p))
  fell_follows A d ds r p n f = fell_cases (Follows n) A (with_agenda (d ∷ ds) p) r (λ falls. f) (λ reason. tt) (λ reason. tt) f
  fell_follows B d ds r p n f = fell_cases (Follows n) B (with_agenda (d ∷ ds) p) r (λ falls. f) (λ reason. tt) (λ reason. tt) f

  event_goes : (s : Side) (d : Duty) (event : FallEvent) (ds : List Duty) (r : Reply) (p : PathState C) → ((n : ℕ) → Follows n (d ∷ ds) → Follows n ds)
      → let m = with_agenda (d ∷ ds) p in let q = answered_fell s event r m in Goes d ds m q q.agenda
  event_goes s d event ds r p rest =
      record { recalls = side_recalls s _ (with_agenda (d ∷ ds) p) _ (recalls_all _ _ refl) refl; follows = λ n f. fell_follows s d ds r p n (rest n f) }

  key_goes : (s : Side) (key : Option ℕ) (ds : List Duty) (r : Reply) (p : PathState C)
      → let m = with_agenda (Duty.Ask (AskDuty.PeerKey s) ∷ ds) p in let q = answered_peer_key s key r m in Goes (Duty.Ask (AskDuty.PeerKey s)) ds m q q.agenda
  key_goes s None ds r p = event_goes s (Duty.Ask (AskDuty.PeerKey s)) FallEvent.PlainHandshake ds r p (λ n f. f)
  key_goes s (Some key) ds r p = record { recalls = side_recalls s _ (with_agenda (Duty.Ask (AskDuty.PeerKey s) ∷ ds) p) _ (recalls_all _ _ refl) refl; follows = λ n f. f }

  opened_goes : (s : Side) (keys : Option KeyPair) (ds : List Duty) (r : Reply) (p : PathState C)
      → let m = with_agenda (Duty.Ask (AskDuty.Opened s) ∷ ds) p in let q = answered_opened s keys r m in Goes (Duty.Ask (AskDuty.Opened s)) ds m q q.agenda
  opened_goes s None ds r p = event_goes s (Duty.Ask (AskDuty.Opened s)) FallEvent.PlainHandshake ds r p (λ n f. f)
  opened_goes s (Some keys) ds r p = record { recalls = side_recalls s _ (with_agenda (Duty.Ask (AskDuty.Opened s) ∷ ds) p) _ (recalls_all _ _ refl) refl; follows = λ n f. f }

  plain_ack_goes : (k : Codec C) (s : Side) (ds : List Duty) (r : Reply) (p : PathState C)
      → let m = with_agenda (Duty.Step (StepDuty.PlainAck s) ∷ ds) p in let q = answered_plain_ack k s r m in Goes (Duty.Step (StepDuty.PlainAck s)) ds m q q.agenda
  plain_ack_goes k s ds r p =
      let m = with_agenda (Duty.Step (StepDuty.PlainAck s) ∷ ds) p in
      either_goes (breaks_by_ack m.profile (end_at s m)) (Duty.Step (StepDuty.PlainAck s)) ds m (answered_break k s 6 r m)
      (goes_on s (with_plain_ack (after_fell FallEvent.PlainAck r (end_at s m))) (fell_duties s r m) m)
      (break_goes k (Duty.Step (StepDuty.PlainAck s)) s 6 r ds m)
      (record { recalls = side_recalls s _ m _ (recalls_all _ _ refl) refl; follows = λ n f. fell_follows s (Duty.Step (StepDuty.PlainAck s)) ds r p n f })

  plain_fin_goes : (s : Side) (ds : List Duty) (p : PathState C) (set : Bool)
      → let m = with_agenda (Duty.Ask (AskDuty.SubflowFin s) ∷ ds) p in let q = answered_plain_fin s set m in Goes (Duty.Ask (AskDuty.SubflowFin s)) ds m q q.agenda
  plain_fin_goes s ds p true = record { recalls = side_recalls s _ (with_agenda (Duty.Ask (AskDuty.SubflowFin s) ∷ ds) p) _ (recalls_all _ _ refl) refl; follows = λ n f. f }
  plain_fin_goes s ds p false = record { recalls = side_recalls s _ (with_agenda (Duty.Ask (AskDuty.SubflowFin s) ∷ ds) p) _ (recalls_all _ _ refl) refl; follows = λ n f. tt }

  -- a thing that was said to B
  told_follows : (n : ℕ) (b : Bool) (index : ℕ) (ds : List Duty) (p : PathState C) → Follows n ds → Follows n (told_next B b (with_agenda (Duty.Step (StepDuty.Heard B index) ∷ ds) p))
  told_follows n true index ds p f = f
  told_follows n false index ds p f = f

  heard_goes : (k : Codec C) (index : ℕ) (ds : List Duty) (r : Reply) (p : PathState C) (o : Option Heard)
      → let m = with_agenda (Duty.Step (StepDuty.Heard B index) ∷ ds) p in let q = answered_item k B o r m in Goes (Duty.Step (StepDuty.Heard B index)) ds m q q.agenda
  heard_goes k index ds r p None = record { recalls = recalls_all _ _ refl; follows = λ n f. f }
  heard_goes k index ds r p (Some Heard.Dss) = record { recalls = recalls_all _ _ refl; follows = λ n f. f }
  heard_goes k index ds r p (Some (Heard.DataAck next window)) = record { recalls = recalls_all _ _ refl; follows = λ n f. told_follows n _ index ds p f }
  heard_goes k index ds r p (Some (Heard.Mapping fin)) =
      let m = with_agenda (Duty.Step (StepDuty.Heard B index) ∷ ds) p in
      either_goes (is_clash p.b) (Duty.Step (StepDuty.Heard B index)) ds m (answered_break k B 1 r m) (goes_on B (with_learned (after_fell FallEvent.MappingHeard r p.b)) (fell_duties B r m) m)
      (break_goes k (Duty.Step (StepDuty.Heard B index)) B 1 r ds m) (record { recalls = recalls_all _ _ refl; follows = λ n f. fell_follows B (Duty.Step (StepDuty.Heard B index)) ds r p n f })
  heard_goes k index ds r p (Some (Heard.DataFin place)) = record { recalls = recalls_all _ _ refl; follows = λ n f. fell_follows B (Duty.Step (StepDuty.Heard B index)) ds r p n f }
  heard_goes k index ds r p (Some (Heard.InfiniteMapping place position)) = record { recalls = recalls_all _ _ refl; follows = λ n f. fell_follows B (Duty.Step (StepDuty.Heard B index)) ds r p n f }
  heard_goes k index ds r p (Some (Heard.PeerKey key)) = record { recalls = recalls_all _ _ refl; follows = λ n f. f }
  heard_goes k index ds r p (Some (Heard.Keys own peer)) = record { recalls = recalls_all _ _ refl; follows = λ n f. f }
  heard_goes k index ds r p (Some (Heard.Join form)) = record { recalls = recalls_all _ _ refl; follows = λ n f. f }
  heard_goes k index ds r p (Some (Heard.Notice notice)) = record { recalls = recalls_all _ _ refl; follows = λ n f. f }
  heard_goes k index ds r p (Some Heard.Fail) =
      let d = Duty.Step (StepDuty.Heard B index) in let m = with_agenda (d ∷ ds) p in
      fail_answered_so (λ q. Goes d ds m q q.agenda) B r m (record { recalls = recalls_all _ _ refl; follows = λ n f. f }) (event_goes B d (FallEvent.FailHeard false) ds r p (λ n f. f))
  heard_goes k index ds r p (Some (Heard.FastClose key)) = record { recalls = recalls_all _ _ refl; follows = λ n f. stopped_follows B (is_stopped_by r) n ds f }

  answered_goes : (k : Codec C) (d : Duty) → IsOther d → (ds : List Duty) (r : Reply) (p : PathState C)
      → let m = with_agenda (d ∷ ds) p in let q = answered k d r m in Goes d ds m q q.agenda
  answered_goes k (Duty.Step (StepDuty.Look s)) other ds r p = record { recalls = side_recalls s _ (with_agenda (Duty.Step (StepDuty.Look s) ∷ ds) p) _ (recalls_all _ _ refl) refl; follows = λ n f. f }
  answered_goes k (Duty.Ask (AskDuty.Window s)) other ds r p = record { recalls = side_recalls s _ (with_agenda (Duty.Ask (AskDuty.Window s) ∷ ds) p) _ (recalls_all _ _ refl) refl; follows = λ n f. f }
  answered_goes k (Duty.Send (SendDuty.Update s)) other ds r p = record { recalls = side_recalls s _ (with_agenda (Duty.Send (SendDuty.Update s) ∷ ds) p) _ (recalls_all _ _ refl) refl; follows = λ n f. f }
  answered_goes k (Duty.Send (SendDuty.FastClose s)) other ds r p = record { recalls = side_recalls s _ (with_agenda (Duty.Send (SendDuty.FastClose s) ∷ ds) p) _ (recalls_all _ _ refl) refl; follows = λ n f. f }
  answered_goes k (Duty.Send (SendDuty.Notice s)) other ds r p = record { recalls = side_recalls s _ (with_agenda (Duty.Send (SendDuty.Notice s) ∷ ds) p) _ (recalls_all _ _ refl) refl; follows = λ n f. f }
  answered_goes k (Duty.Send (SendDuty.Syn s)) other ds r p = record { recalls = side_recalls s _ (with_agenda (Duty.Send (SendDuty.Syn s) ∷ ds) p) _ (recalls_all _ _ refl) refl; follows = λ n f. f }
  answered_goes k (Duty.Send (SendDuty.DataFin s)) other ds r p = record { recalls = side_recalls s _ (with_agenda (Duty.Send (SendDuty.DataFin s) ∷ ds) p) _ (recalls_all _ _ refl) refl; follows = λ n f. f }
  answered_goes k (Duty.Send (SendDuty.Fin s)) other ds r p = record { recalls = side_recalls s _ (with_agenda (Duty.Send (SendDuty.Fin s) ∷ ds) p) _ (recalls_all _ _ refl) refl; follows = λ n f. f }
  answered_goes k (Duty.Ask (AskDuty.PeerKey s)) other ds r p = key_goes s (key_heard (end_at s p).treated.items) ds r p
  answered_goes k (Duty.Send (SendDuty.SynAck s)) other ds r p = record { recalls = side_recalls s _ (with_agenda (Duty.Send (SendDuty.SynAck s) ∷ ds) p) _ (recalls_all _ _ refl) refl; follows = λ n f. f }
  answered_goes k (Duty.Send (SendDuty.Refuse s)) other ds r p = record { recalls = side_recalls s _ (with_agenda (Duty.Send (SendDuty.Refuse s) ∷ ds) p) _ (recalls_all _ _ refl) refl; follows = λ n f. f }
  answered_goes k (Duty.Ask (AskDuty.Opened s)) other ds r p = opened_goes s (keys_heard (end_at s p).treated.items) ds r p
  answered_goes k (Duty.Ask (AskDuty.AckOut s)) other ds r p = record { recalls = side_recalls s _ (with_agenda (Duty.Ask (AskDuty.AckOut s) ∷ ds) p) _ (recalls_all _ _ refl) refl; follows = λ n f. f }
  answered_goes k (Duty.Ask (AskDuty.Rate s)) other ds r p = record { recalls = side_recalls s _ (with_agenda (Duty.Ask (AskDuty.Rate s) ∷ ds) p) _ (recalls_all _ _ refl) refl; follows = λ n f. f }
  answered_goes k (Duty.Send (SendDuty.Acknowledge s)) other ds r p = record { recalls = side_recalls s _ (with_agenda (Duty.Send (SendDuty.Acknowledge s) ∷ ds) p) _ (recalls_all _ _ refl) refl; follows = λ n f. f }
  answered_goes k (Duty.Send (SendDuty.Again s)) other ds r p = record { recalls = side_recalls s _ (with_agenda (Duty.Send (SendDuty.Again s) ∷ ds) p) _ (recalls_all _ _ refl) refl; follows = λ n f. f }
  answered_goes k (Duty.Send (SendDuty.Answer s)) other ds r p = record { recalls = side_recalls s _ (with_agenda (Duty.Send (SendDuty.Answer s) ∷ ds) p) _ (recalls_all _ _ refl) refl; follows = λ n f. f }
  answered_goes k (Duty.Send (SendDuty.ResetAnswer s)) other ds r p = record { recalls = side_recalls s _ (with_agenda (Duty.Send (SendDuty.ResetAnswer s) ∷ ds) p) _ (recalls_all _ _ refl) refl; follows = λ n f. f }
  answered_goes k (Duty.Send (SendDuty.Resend s)) other ds r p = record { recalls = side_recalls s _ (with_agenda (Duty.Send (SendDuty.Resend s) ∷ ds) p) _ (recalls_all _ _ refl) refl; follows = λ n f. f }
  answered_goes k (Duty.Silent (SilentDuty.Timer s)) other ds r p = record { recalls = recalls_all _ _ refl; follows = λ n f. f }
  answered_goes k (Duty.Ask (AskDuty.LeaveNoted s)) other ds r p = record { recalls = side_recalls s _ (with_agenda (Duty.Ask (AskDuty.LeaveNoted s) ∷ ds) p) _ (forgets _ _ refl) refl; follows = λ n f. f }
  answered_goes k Duty.End other ds r p = record { recalls = recalls_all _ _ refl; follows = λ n f. tt }
  answered_goes k (Duty.Ask (AskDuty.BreakAck s reason)) other ds r p = record { recalls = side_recalls s _ (with_agenda (Duty.Ask (AskDuty.BreakAck s reason) ∷ ds) p) _ (recalls_all _ _ refl) refl; follows = λ n f. tt }
  answered_goes k (Duty.Send (SendDuty.BreakReset s reason)) other ds r p = record { recalls = side_recalls s _ (with_agenda (Duty.Send (SendDuty.BreakReset s reason) ∷ ds) p) _ (forgets _ _ refl) refl; follows = λ n f. tt }
  answered_goes k (Duty.Send (SendDuty.Reset s)) other ds r p = record { recalls = side_recalls s _ (with_agenda (Duty.Send (SendDuty.Reset s) ∷ ds) p) _ (forgets _ _ refl) refl; follows = λ n f. f }
  answered_goes k (Duty.Send (SendDuty.ResetNoted s)) other ds r p = record { recalls = side_recalls s _ (with_agenda (Duty.Send (SendDuty.ResetNoted s) ∷ ds) p) _ (forgets _ _ refl) refl; follows = λ n f. f }
  answered_goes k (Duty.Step StepDuty.Events) other ds r p = absurd other
  answered_goes k (Duty.Ask AskDuty.JoinAgain) other ds r p = begun_goes r ds p
  answered_goes k (Duty.Step (StepDuty.Data s)) other ds r p = data_goes k s r ds p (first_unsent (end_at s p))
  answered_goes k (Duty.Ask (AskDuty.JoinHeard s)) other ds r p = join_goes s (keys_begun r) (asked_at s p) r ds p
  answered_goes k (Duty.Step (StepDuty.PlainAck s)) other ds r p = plain_ack_goes k s ds r p
  answered_goes k (Duty.Ask (AskDuty.PlainHandshake s)) other ds r p = event_goes s (Duty.Ask (AskDuty.PlainHandshake s)) FallEvent.PlainHandshake ds r p (λ n f. f)
  answered_goes k (Duty.Ask (AskDuty.PlainData s)) other ds r p = event_goes s (Duty.Ask (AskDuty.PlainData s)) FallEvent.PlainData ds r p (λ n f. f)
  answered_goes k (Duty.Ask (AskDuty.SubflowAck s)) other ds r p = record { recalls = side_recalls s _ (with_agenda (Duty.Ask (AskDuty.SubflowAck s) ∷ ds) p) _ (recalls_all _ _ refl) refl; follows = λ n f. f }
  answered_goes k (Duty.Ask (AskDuty.GoIdentity s)) other ds r p = record { recalls = side_recalls s _ (with_agenda (Duty.Ask (AskDuty.GoIdentity s) ∷ ds) p) _ (recalls_all _ _ refl) refl; follows = λ n f. f }
  answered_goes k (Duty.Step (StepDuty.Unmapped s)) other ds r p = break_goes k (Duty.Step (StepDuty.Unmapped s)) s 6 r ds (with_agenda (Duty.Step (StepDuty.Unmapped s) ∷ ds) p)
  answered_goes k (Duty.Ask (AskDuty.SubflowFin s)) other ds r p = plain_fin_goes s ds p (is_fin_set r)
  answered_goes k (Duty.Ask (AskDuty.Edge s)) other ds r p = piece_goes s ds p (piece_of s p) (is_placed r)
  answered_goes k (Duty.Ask (AskDuty.CheckFailed s)) other ds r p = record {
    recalls = side_recalls s (after_check_failed p.profile.spelling.checksums r (end_at s p)) (with_agenda (Duty.Ask (AskDuty.CheckFailed s) ∷ ds) p) _
        (check_failed_so (λ f. Recalls (end_at s p) f) p.profile.spelling.checksums r (end_at s p) (λ told broken recv forgotten. recalls_all _ _ refl)) refl;
    follows = λ n f. fell_follows s (Duty.Ask (AskDuty.CheckFailed s)) ds r p n f;
  }
  answered_goes k (Duty.Ask (AskDuty.FailHeard s)) other ds r p = record {
    recalls = side_recalls s (after_fail_heard r (end_at s p)) (with_agenda (Duty.Ask (AskDuty.FailHeard s) ∷ ds) p) _
        (fail_heard_so (λ f. Recalls (end_at s p) f) r (end_at s p) (λ own owes. recalls_all _ _ refl)) refl;
    follows = λ n f. fell_follows s (Duty.Ask (AskDuty.FailHeard s)) ds r p n f;
  }
  answered_goes k (Duty.Ask (AskDuty.HeardFin s index)) other ds r p = fin_goes s index ds p (is_fin_set r)
  answered_goes k (Duty.Ask (AskDuty.AckHeard A)) other ds r p = event_goes A (Duty.Ask (AskDuty.AckHeard A)) FallEvent.AckHeard ds r p (λ n f. absurd f)
  answered_goes k (Duty.Ask (AskDuty.AckHeard B)) other ds r p = event_goes B (Duty.Ask (AskDuty.AckHeard B)) FallEvent.AckHeard ds r p (λ n f. f)
  answered_goes k (Duty.Step (StepDuty.Heard A index)) other ds r p = absurd other
  answered_goes k (Duty.Step (StepDuty.Heard B index)) other ds r p = heard_goes k index ds r p (item_of index p.b)
  answered_goes k _ other ds r p = record { recalls = recalls_all _ _ refl; follows = λ n f. f }

  -- a thing that was said to A
  heard_recalls : (k : Codec C) (index : ℕ) (ds : List Duty) (r : Reply) (p : PathState C) (o : Option Heard)
      → let m = with_agenda (Duty.Step (StepDuty.Heard A index) ∷ ds) p in let q = answered_item k A o r m in Recalls p.a q.a
  heard_recalls k index ds r p None = recalls_all _ _ refl
  heard_recalls k index ds r p (Some Heard.Dss) = recalls_all _ _ refl
  heard_recalls k index ds r p (Some (Heard.DataAck next window)) = recalls_all _ _ refl
  heard_recalls k index ds r p (Some (Heard.Mapping fin)) = by (is_clash p.a) p.a.treated.asked
    where
      by : (clash asked : Bool) → let m = with_agenda (Duty.Step (StepDuty.Heard A index) ∷ ds) p in
          Recalls p.a (if clash then (if asked then answered_ack_out A r (resets A 1) m else reset_on k A (Some 1) (leaves A) m) else goes_on A (with_learned (after_fell FallEvent.MappingHeard r p.a)) (fell_duties A r m) m).a
      by true true = recalls_all _ _ refl
      by true false = forgets _ _ refl
      by false asked = recalls_all _ _ refl
  heard_recalls k index ds r p (Some (Heard.DataFin place)) = recalls_all _ _ refl
  heard_recalls k index ds r p (Some (Heard.InfiniteMapping place position)) = infinite_came_so (λ f. Recalls p.a f) place position r p.a (λ other. recalls_all _ _ refl)
  heard_recalls k index ds r p (Some (Heard.PeerKey key)) = recalls_all _ _ refl
  heard_recalls k index ds r p (Some (Heard.Keys own peer)) = recalls_all _ _ refl
  heard_recalls k index ds r p (Some (Heard.Join form)) = recalls_all _ _ refl
  heard_recalls k index ds r p (Some (Heard.Notice notice)) = recalls_all _ _ refl
  heard_recalls k index ds r p (Some Heard.Fail) =
      fail_answered_so (λ q. Recalls p.a q.a) A r (with_agenda (Duty.Step (StepDuty.Heard A index) ∷ ds) p) (recalls_all _ _ refl) (recalls_all _ _ refl)
  heard_recalls k index ds r p (Some (Heard.FastClose key)) = recalls_all _ _ refl

  -- while A's end isn't clear it is none that a DSS says
  heard_unclear : (k : Codec C) (index : ℕ) (ds : List Duty) (r : Reply) (p : PathState C) → p.a.modes.identity ≡ false → (o : Option Heard) → item_at index p.a.treated.items ≡ o → item_stands o p.a ≡ true → Led false p.a.treated.items
      → IsUnclear (Duty.Step (StepDuty.Heard A index) ∷ ds) p → let m = with_agenda (Duty.Step (StepDuty.Heard A index) ∷ ds) p in let q = answered_item k A o r m in (q.a.modes.clear ≡ true) ⊎ IsUnclear q.agenda q
  heard_unclear k index ds r p above None is stands_so led u =
      inr (record { n = suc u.n; none = inr (no_more u.n p.a.treated.items (unheard p u.n above u.none) (subst (λ n. item_at n p.a.treated.items ≡ None) u.follows.0 is)); follows = u.follows.1 })
  heard_unclear k index ds r p above (Some Heard.Dss) is stands_so led u = absurd (false≢true stands_so)
  heard_unclear k index ds r p above (Some (Heard.DataAck next window)) is stands_so led u =
      absurd (false≢true (unled u.n p.a.treated.items (Heard.DataAck next window) led (unheard p u.n above u.none) (subst (λ n. item_at n p.a.treated.items ≡ Some (Heard.DataAck next window)) u.follows.0 is)))
  heard_unclear k index ds r p above (Some (Heard.Mapping fin)) is stands_so led u =
      absurd (false≢true (unled u.n p.a.treated.items (Heard.Mapping fin) led (unheard p u.n above u.none) (subst (λ n. item_at n p.a.treated.items ≡ Some (Heard.Mapping fin)) u.follows.0 is)))
  heard_unclear k index ds r p above (Some (Heard.DataFin place)) is stands_so led u =
      absurd (false≢true (unled u.n p.a.treated.items (Heard.DataFin place) led (unheard p u.n above u.none) (subst (λ n. item_at n p.a.treated.items ≡ Some (Heard.DataFin place)) u.follows.0 is)))
  heard_unclear k index ds r p above (Some (Heard.InfiniteMapping place position)) is stands_so led u =
      absurd (false≢true (unled u.n p.a.treated.items (Heard.InfiniteMapping place position) led (unheard p u.n above u.none) (subst (λ n. item_at n p.a.treated.items ≡ Some (Heard.InfiniteMapping place position)) u.follows.0 is)))
  heard_unclear k index ds r p above (Some (Heard.PeerKey key)) is stands_so led u =
      inr (record { n = suc u.n; none = inr (one_more u.n p.a.treated.items (Heard.PeerKey key) (unheard p u.n above u.none) (subst (λ n. item_at n p.a.treated.items ≡ Some (Heard.PeerKey key)) u.follows.0 is) refl); follows = u.follows.1 })
  heard_unclear k index ds r p above (Some (Heard.Keys own peer)) is stands_so led u =
      inr (record { n = suc u.n; none = inr (one_more u.n p.a.treated.items (Heard.Keys own peer) (unheard p u.n above u.none) (subst (λ n. item_at n p.a.treated.items ≡ Some (Heard.Keys own peer)) u.follows.0 is) refl); follows = u.follows.1 })
  heard_unclear k index ds r p above (Some (Heard.Join form)) is stands_so led u =
      inr (record { n = suc u.n; none = inr (one_more u.n p.a.treated.items (Heard.Join form) (unheard p u.n above u.none) (subst (λ n. item_at n p.a.treated.items ≡ Some (Heard.Join form)) u.follows.0 is) refl); follows = u.follows.1 })
  heard_unclear k index ds r p above (Some (Heard.Notice notice)) is stands_so led u =
      inr (record { n = suc u.n; none = inr (one_more u.n p.a.treated.items (Heard.Notice notice) (unheard p u.n above u.none) (subst (λ n. item_at n p.a.treated.items ≡ Some (Heard.Notice notice)) u.follows.0 is) refl); follows = u.follows.1 })
  heard_unclear k index ds r p above (Some Heard.Fail) is stands_so led u =
      fail_answered_so (λ q. (q.a.modes.clear ≡ true) ⊎ IsUnclear q.agenda q) A r (with_agenda (Duty.Step (StepDuty.Heard A index) ∷ ds) p)
      (inr (record { n = suc u.n; none = inr one; follows = u.follows.1 }))
      (inr (record { n = suc u.n; none = inr one; follows = fell_follows A (Duty.Step (StepDuty.Heard A index)) ds r p (suc u.n) u.follows.1 }))
    where
      one : NoneBefore (suc u.n) p.a.treated.items
      one = one_more u.n p.a.treated.items Heard.Fail (unheard p u.n above u.none) (subst (λ n. item_at n p.a.treated.items ≡ Some Heard.Fail) u.follows.0 is) refl
  heard_unclear k index ds r p above (Some (Heard.FastClose key)) is stands_so led u =
      inr (record { n = suc u.n; none = inr (one_more u.n p.a.treated.items (Heard.FastClose key) (unheard p u.n above u.none) (subst (λ n. item_at n p.a.treated.items ≡ Some (Heard.FastClose key)) u.follows.0 is) refl); follows = stopped_follows A (is_stopped_by r) (suc u.n) ds u.follows.1 })

  -- any other duty
  other_leads : (k : Codec C) (d : Duty) → IsOther d → (ds : List Duty) (r : Reply) (p : PathState C) → Leads (d ∷ ds) (with_agenda (d ∷ ds) p)
      → let q = answered k d r (with_agenda (d ∷ ds) p) in Leads q.agenda q
  other_leads k d other ds r p h =
      let m : PathState C = with_agenda (d ∷ ds) p in
      goes_led d ds m (answered k d r m) (answered k d r m).agenda (answered_clear k d r m).a (answered_goes k d other ds r p) h

  answered_leads : (k : Codec C) (d : Duty) (ds : List Duty) (r : Reply) (p : PathState C) → stands d (with_agenda (d ∷ ds) p) ≡ true → Leads (d ∷ ds) (with_agenda (d ∷ ds) p)
      → let q = answered k d r (with_agenda (d ∷ ds) p) in Leads q.agenda q
  answered_leads k (Duty.Step StepDuty.Events) ds r p is h = happens_anew k (next_event p) r (with_agenda ((Duty.Step StepDuty.Events) ∷ ds) p) h.led
  answered_leads k (Duty.Step (StepDuty.Heard A index)) ds r p is h =
      let m : PathState C = with_agenda (Duty.Step (StepDuty.Heard A index) ∷ ds) p in
      record {
        led = recalled_led p.a (answered_item k A (item_of index p.a) r m).a (heard_recalls k index ds r p (item_of index p.a)) h.led;
        clear = ⊎_elim
            (λ is_clear. inl ((answered_clear k (Duty.Step (StepDuty.Heard A index)) r m).a.0 is_clear))
            (λ (u : IsUnclear (Duty.Step (StepDuty.Heard A index) ∷ ds) m). by p.a.modes.identity refl is (record { n = u.n; none = u.none; follows = u.follows }))
            h.clear;
      }
    where
      by : (b : Bool) → p.a.modes.identity ≡ b → item_stands (if b then None else item_at index p.a.treated.items) p.a ≡ true → IsUnclear (Duty.Step (StepDuty.Heard A index) ∷ ds) p
          → let m = with_agenda (Duty.Step (StepDuty.Heard A index) ∷ ds) p in let q = answered_item k A (if b then None else item_at index p.a.treated.items) r m in (q.a.modes.clear ≡ true) ⊎ IsUnclear q.agenda q
      by true plain stands_so u = absurd (false≢true stands_so)
      by false above stands_so u = heard_unclear k index ds r p above (item_at index p.a.treated.items) refl stands_so h.led u
  answered_leads k (Duty.Send (SendDuty.Update s)) ds r p is h = other_leads k (Duty.Send (SendDuty.Update s)) tt ds r p h
  answered_leads k (Duty.Silent (SilentDuty.Timer s)) ds r p is h = other_leads k (Duty.Silent (SilentDuty.Timer s)) tt ds r p h
  answered_leads k (Duty.Ask (AskDuty.AckHeard A)) ds r p is h = other_leads k (Duty.Ask (AskDuty.AckHeard A)) tt ds r p h
  answered_leads k (Duty.Ask (AskDuty.AckHeard B)) ds r p is h = other_leads k (Duty.Ask (AskDuty.AckHeard B)) tt ds r p h
  answered_leads k (Duty.Step (StepDuty.Heard B index)) ds r p is h = other_leads k (Duty.Step (StepDuty.Heard B index)) tt ds r p h
  answered_leads k d ds r p is h = other_leads k d tt ds r p h

  -- a path on which each sign of Multipath TCP that A hears comes behind a DSS
  abbrev pub LeadsWell : PathState C → Type 0
  LeadsWell p = Leads p.agenda p

  pub answers_lead : (k : Codec C) (r : Reply) (p : PathState C) → IsSettled p → LeadsWell p → LeadsWell (answers k p.agenda r p)
  answers_lead k r p settled_path h = (elim p.agenda as (λ ds. FirstStands ds (with_agenda ds p) → Leads ds (with_agenda ds p) → LeadsWell (answers k ds r (with_agenda ds p)))
      [ [] ↦ λ is h. h | d ∷ ds ↦ λ is h. answered_leads k d ds r p is h ]) settled_path h

  pub takes_leads : (k : Codec C) (r : Reply) (p : PathState C) → IsSettled p → LeadsWell p → LeadsWell (takes k r p)
  takes_leads k r p settled_path h = let q : PathState C = answers k p.agenda r p in settled_leads q.agenda q (answers_lead k r p settled_path h)

  pub started_leads : (p : PathState C) → Led false p.a.treated.items → Leads start_of_turn (with_agenda start_of_turn p)
  started_leads p led = record { led = led; clear = inr (record { n = 0; none = inr tt; follows = tt }) }

  pub begins_lead : (p : PathState C) → LeadsWell p → LeadsWell (begins_turn p)
  begins_lead p h = settled_leads start_of_turn (with_agenda start_of_turn p) (started_leads p h.led)

  pub next_leads : (p : PathState C) → LeadsWell p → LeadsWell (next_round p)
  next_leads p h = let n : PathState C = record p { clock = p.until; until = p.until + 100 } in settled_leads start_of_turn (with_agenda start_of_turn n) (started_leads n h.led)
