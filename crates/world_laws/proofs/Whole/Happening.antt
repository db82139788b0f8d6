-- What an event makes of path 0 as long as no options are taken away. Where A's SYN is answered its end learns B's key next, and where
-- a timer runs out before that the SYN goes out once more.
use Rattle.world_laws.proofs.Words.{◌≡◌, refl, sym, ◌∙◌, subst, ℕ, ◌&&◌, ◌||◌, ◌==◌, inl, inr, ⊎_elim, Bool, true, false, if◌then◌else◌, Option, Some, None}
use Rattle.world_laws.proofs.Words.{List, [], ◌∷◌, ◌++◌, length, is_some, or_cases, or_parts, and_parts, both_ways, false≢true, same_Some, FallEvent, Side, A}
use Rattle.world_laws.proofs.Words.{B, peer, same_side, ControlCall, KeptMapping, SendState, is_dead, is_opening, Meaning, is_sixth, after_expiry, State, Outgoing}
use Rattle.world_laws.proofs.Words.{after_death, meaning_of, is_due, arriving, without, after_delivery, Due, Flight, HeardSegment, meant, LineAction}
use Rattle.world_laws.proofs.Words.{rest_of_turn, emission, payload_came, announces, withdraws, Duty, SendDuty, AskDuty, key_heard, Ask, Reply, tail_of, stands}
use Rattle.world_laws.proofs.Words.{ask_for, passed, answered, PathEnd, died, at_tick, PathState, end_at, goes_on, with_end, with_agenda, settled, Carried}
use Rattle.world_laws.proofs.Words.{as_arrived, values, items_of, options_heard, copy_judged, copy_of, judged_in, reset_for, template_by, template_of, heard_in}
use Rattle.world_laws.proofs.Words.{copy_heard, told_at, path_died, died_unless_dead, resend_occasion, resend_of, next_event, after_line, happens_if}
use Rattle.world_laws.proofs.Words.{template_fired, timer_fired, held_of, peer_key_ask, answered_peer_key, with_peer_key, with_priority, having_sent, taken_as}
use Rattle.world_laws.proofs.Words.{Every, if_so}
use Rattle.std.specs.List.{position}
use Rattle.path_core.specs.declared.events.Event.{Event}
use Rattle.world_laws.proofs.Keys.AnswerHeardFirst.{is_accepts, is_apart}
use Rattle.world_laws.proofs.Keys.AreDrawn.{is_past}
use Rattle.world_laws.proofs.Keys.Held.{in_removed}
use Rattle.world_laws.proofs.Keys.WhatWakes.{is_up, next_happens}
use Rattle.world_laws.proofs.Worlds.Finding.{find_every, one_side}
use Rattle.world_laws.proofs.Whole.Bytes.{acknowledged_remains, expired_remains, remains_grows, remains_well}
use Rattle.world_laws.proofs.Whole.Copies.{HeardIs, Speaks}
use Rattle.world_laws.proofs.Whole.Doing.{PathPlain, Plain, died_step, expired_some, having_step, opens_a, plain_at, resend_said_is, syns_remain}
use Rattle.world_laws.proofs.Whole.Ends.{Base, EndIs, MeansIs, Opens, Unmet, accepted_key, accepts_a, copy_base, copy_grows, copy_knows, copy_says, copy_speaks, is_heeded, means_so, parts_of}
use Rattle.world_laws.proofs.Whole.Paths.{CopyIs, CopyTo, Fewer, Mark, MarkIs, PathIs, Steps, by_itself, end_is, goes_fewer, heard_marks, is_by, is_handshake, marks, moved_step, new_fewer, path_alike, path_any, path_fewer, path_goes, path_puts, same_step, sent_fewer, speaks_at}

-- ---- what is asked

-- the side can't fall back by it
abbrev pub CalmEvent : FallEvent → Type 0
CalmEvent FallEvent.PlainHandshake = ⊥
CalmEvent FallEvent.PlainData = ⊥
CalmEvent FallEvent.PlainAck = ⊥
CalmEvent FallEvent.InfiniteHeard = ⊥
CalmEvent _ = Unit {0}

abbrev pub CalmCall : ControlCall → Type 0
CalmCall (ControlCall.Fell path event) = CalmEvent event
CalmCall _ = Unit {0}

abbrev pub IsCalm : Ask → Type 0
IsCalm (Ask.Control s call) = CalmCall call
IsCalm _ = Unit {0}

-- ---- a path that is so, now or after what is done next

-- the SYN/ACK is treated, or A's SYN goes out again
abbrev pub is_between : Duty → Bool
is_between (Duty.Ask (AskDuty.SynAnswered s)) = true
is_between (Duty.Ask (AskDuty.PeerKey s)) = true
is_between (Duty.Ask (AskDuty.Return s)) = true
is_between (Duty.Send (SendDuty.Resend s)) = true
is_between _ = false

abbrev pub treats_syn_ack : Duty → Bool
treats_syn_ack (Duty.Ask (AskDuty.SynAnswered s)) = true
treats_syn_ack (Duty.Ask (AskDuty.PeerKey s)) = true
treats_syn_ack _ = false

-- by such a duty, the former one where A has the SYN/ACK; and no end goes by an infinite mapping of its peer's
pub record IsBetween (d : Duty) (p : PathState Carried) : Type 0 where
  pub duty : is_between d ≡ true
  pub met : is_past p.a.tcp.state ≡ true → treats_syn_ack d ≡ true
  pub finite : (s : Side) → (end_at s p).modes.peer_infinite ≡ None

pub data Holds : PathState Carried → Type 0 where
  Now : (p : PathState Carried) → PathIs p.agenda p → Holds p
  Next : (d : Duty) (ds : List Duty) (p : PathState Carried) → IsBetween d p → p.agenda ≡ d ∷ ds → (stands d p ≡ true → IsCalm (ask_for values d p)) → (stands d p ≡ true → (r : Reply) → Holds (answered values d r p))
      → (stands d p ≡ false → Holds (settled ds (passed d p))) → Holds p

opening_unmet : (state : State) → is_opening state ≡ true → is_past state ≡ false
opening_unmet = elim [ State.SynSent ↦ λ is. refl | _ ↦ λ is. absurd (false≢true is) ]

both_finite : (ds : List Duty) (p : PathState Carried) → PathIs ds p → (s : Side) → (end_at s p).modes.peer_infinite ≡ None
both_finite ds p h A = h.a.base.finite
both_finite ds p h B = h.b.base.finite

-- ---- a line of the script

died_or : (s : Side) (ds : List Duty) (p : PathState Carried) → PathIs ds p → Steps s p (died_unless_dead (end_at s p))
died_or s ds p h = if_so (Steps s p) (is_dead (end_at s p).tcp.state) (end_at s p) (died (end_at s p)) (same_step s ds p (end_at s p) refl h) (died_step s ds p h)

both_left : (x : Mark) (a b : Bool) → marks x ((if a then [] else Duty.Ask (AskDuty.Leave A) ∷ []) ++ ((if b then [] else Duty.Ask (AskDuty.Leave B) ∷ []) ++ rest_of_turn)) ≡ false
both_left x true true = refl
both_left x true false = refl
both_left x false true = refl
both_left x false false = refl

pub line_is : (action : LineAction) (ds : List Duty) (p : PathState Carried) → PathIs ds p → PathIs (after_line action p).agenda (after_line action p)
line_is LineAction.Die ds p h =
    let es : List Duty = (path_died p).agenda in
    let none : Fewer ds es = new_fewer ds es (λ x. both_left x (is_dead p.a.tcp.state) (is_dead p.b.tcp.state)) in
    let q : PathState Carried = with_end A (died_unless_dead p.a) p in
    let one : PathIs es q = path_puts A ds es p (died_unless_dead p.a) (died_or A ds p h) none h in
    let two : PathIs es (with_end B (died_unless_dead p.b) q) = path_puts B es es q (died_unless_dead p.b) (died_or B es q one) (λ x is. is) one in
    path_alike es (with_end B (died_unless_dead p.b) q) (path_died p) refl refl refl refl refl (record { each = λ i f there. cc }) two
line_is (LineAction.Prio s backup) ds p h =
    goes_fewer s ds (emission s) p (with_priority backup (end_at s p)) (same_step s ds p (with_priority backup (end_at s p)) refl h) (new_fewer ds (emission s) (λ x. refl)) h
line_is (LineAction.Announce s id) ds p h = path_any (announces s id) (announces s id) p (path_fewer ds (announces s id) p (new_fewer ds (announces s id) (λ x. refl)) h)
line_is (LineAction.Withdraw s id) ds p h = path_any (withdraws s id) (withdraws s id) p (path_fewer ds (withdraws s id) p (new_fewer ds (withdraws s id) (λ x. refl)) h)

-- ---- a timer

module _ (s : Side) (ds : List Duty) (p : PathState Carried) (h : PathIs ds p) where
  abbrev e : PathEnd
  e = end_at s p

  abbrev fired_end : Bool → PathEnd
  fired_end b = record (end_at s p) { tcp = (if b then after_death true (end_at s p).tcp else after_expiry p.clock (end_at s p).tcp) }

  was : EndIs s (end_at (peer s) p).tcp.send (parts_of (end_at s p))
  was = end_is s ds p h

  -- an end that isn't past the peer's SYN opens, as a timer runs
  opens_up : is_up e.tcp ≡ true → Unmet (parts_of (end_at s p)) → Opens (parts_of (end_at s p))
  opens_up up unmet = ⊎_elim (λ closed. absurd (both_ways (is_up e.tcp) closed up)) (λ is. is) unmet.still

  expired_opens : Opens (parts_of (end_at s p)) → Opens (parts_of (fired_end false))
  expired_opens is = record { state = is.state; syns = syns_remain e.tcp.send _ (expired_remains e.tcp.send) is.syns; some = expired_some e.tcp.send.records is.some }

  fired_step : is_up e.tcp ≡ true → (b : Bool) → Steps s p (fired_end b)
  fired_step up true =
      moved_step s ds p (fired_end true) (remains_well e.tcp.send _ (acknowledged_remains e.tcp.send e.tcp.send.nxt) was.base.sends) (remains_grows e.tcp.send _ (acknowledged_remains e.tcp.send e.tcp.send.nxt)) refl refl refl refl refl
      was.base.low refl was.base.treated (λ unmet. record { past = refl; still = inl refl }) h
  fired_step up false =
      moved_step s ds p (fired_end false) (remains_well e.tcp.send _ (expired_remains e.tcp.send) was.base.sends) (remains_grows e.tcp.send _ (expired_remains e.tcp.send)) refl refl refl refl was.base.apart was.base.low refl was.base.treated
      (λ unmet. record { past = unmet.past; still = inr (expired_opens (opens_up up unmet)) }) h

  fired_fewer : (b : Bool) → Speaks s e → (x : Mark) → marks x (template_fired b s) ≡ true → MarkIs (with_end s (fired_end b) p) x
  fired_fewer true speaks x is = absurd (false≢true is)
  fired_fewer false speaks x is = ⊎_elim (λ own. spoken s x (by_itself x s own) speaks) (λ none. absurd (false≢true none)) (or_cases (is_by x s) false is)
    where
      spoken : (t : Side) (x : Mark) → x ≡ Mark.SaidBy s → Speaks s e → MarkIs (with_end s (fired_end false) p) x
      spoken t x same speaks = subst (MarkIs (with_end s (fired_end false) p)) (sym same) (by s speaks)
        where
          by : (u : Side) → Speaks u (end_at u p) → Speaks u (end_at u (with_end u (record (end_at u p) { tcp = after_expiry p.clock (end_at u p).tcp }) p))
          by = elim [ A ↦ λ speaks. speaks | B ↦ λ speaks. speaks ]

-- ---- A's SYN goes out again, whatever is given back

module _ (q : PathState Carried) (h : PathIs (emission A) q) (plain : Plain q.a) (opens : Opens (parts_of q.a)) where
  abbrev resending : List Duty
  resending = Duty.Send (SendDuty.Resend A) ∷ emission A

  again : (d : Duty) (ds : List Duty) → is_between d ≡ true → IsBetween d (with_agenda ds q)
  again d ds is = record { duty = is; met = λ past. absurd (both_ways _ (opening_unmet q.a.tcp.state opens.state) past); finite = both_finite (emission A) q h }

  resends : Holds (with_agenda resending q)
  resends =
      let m : PathState Carried = with_agenda resending q in
      let g : PathIs (emission A) m = path_any (emission A) resending q h in
      let o = resend_occasion q.a in
      let f : PathEnd = having_sent o q.clock (resend_of A m) q.a in
      let grows = (having_step A (emission A) m g o q.clock (resend_of A m)).grows in
      Next (Duty.Send (SendDuty.Resend A)) (emission A) m (again (Duty.Send (SendDuty.Resend A)) resending refl) refl (λ is. tt)
      (λ is r. Now _ (sent_fewer A (resend_of A m) (emission A) (emission A) m f (resend_said_is A (emission A) m g plain f.tcp.send grows (inr (refl, opens))) (having_step A (emission A) m g o q.clock (resend_of A m)) (λ x marked. marked) g))
      (λ none. absurd (false≢true (sym none)))

  pub gives_back : Holds (with_agenda (Duty.Ask (AskDuty.Return A) ∷ resending) q)
  gives_back = Next (Duty.Ask (AskDuty.Return A)) resending (with_agenda (Duty.Ask (AskDuty.Return A) ∷ resending) q) (again (Duty.Ask (AskDuty.Return A)) (Duty.Ask (AskDuty.Return A) ∷ resending) refl) refl
      (λ is. tt) (λ is r. resends) (λ none. resends)

dies_fired : (s : Side) (ds : List Duty) (p : PathState Carried) (h : PathIs ds p) → is_up (end_at s p).tcp ≡ true → Holds (goes_on s (fired_end s ds p h true) (template_fired true s) p)
dies_fired s ds p h up = Now _ (goes_fewer s ds (template_fired true s) p (fired_end s ds p h true) (fired_step s ds p h up true) (new_fewer ds (template_fired true s) (λ x. refl)) h)

speaks_fired : (s : Side) (ds : List Duty) (p : PathState Carried) (h : PathIs ds p) → is_up (end_at s p).tcp ≡ true → Speaks s (end_at s p) → Holds (goes_on s (fired_end s ds p h false) (template_fired false s) p)
speaks_fired s ds p h up speaks = Now _ (path_any (template_fired false s) (template_fired false s) (with_end s (fired_end s ds p h false) p)
    (path_goes s ds (template_fired false s) p (fired_end s ds p h false) (fired_step s ds p h up false) (fired_fewer s ds p h false speaks) h))

pub fired_holds : (s : Side) (ds : List Duty) (p : PathState Carried) → PathIs ds p → PathPlain p → is_up (end_at s p).tcp ≡ true → Holds (timer_fired s p)
fired_holds A ds p h plain up = elim (is_sixth p.a.tcp) as (λ b. Holds (goes_on A (fired_end A ds p h b) (template_fired b A) p))
    [ true ↦ dies_fired A ds p h up | false ↦ ⊎_elim (λ knows. speaks_fired A ds p h up knows) (λ unmet. syn (opens_up A ds p h up unmet)) h.a.says ]
  where
    syn : Opens (parts_of p.a) → Holds (goes_on A (fired_end A ds p h false) (template_fired false A) p)
    syn opens =
        let f : PathEnd = fired_end A ds p h false in
        gives_back (goes_on A f (emission A) p) (goes_fewer A ds (emission A) p f (fired_step A ds p h up false) (new_fewer ds (emission A) (λ x. refl)) h)
        (record { identity = plain.a.identity; own = plain.a.own; unfinished = plain.a.unfinished }) (expired_opens A ds p h opens)
fired_holds B ds p h plain up = by (is_sixth p.b.tcp)
  where
    by : (b : Bool) → Holds (goes_on B (fired_end B ds p h b) (template_fired b B) p)
    by true = dies_fired B ds p h up
    by false = ⊎_elim (λ knows. speaks_fired B ds p h up knows) (λ unmet. absurd (never_opens_b (opens_up B ds p h up unmet))) h.b.says
      where
        never_opens_b : Opens (parts_of p.b) → ⊥
        never_opens_b opens = let same : B ≡ A = opens_a B ds p h plain.b B refl opens.state in cc

-- ---- a copy

module _ (ds : List Duty) (p : PathState Carried) (h : PathIs ds p) (heard : HeardSegment) (told : List KeptMapping) (answer : Outgoing) (now : ℕ) (resets : answer.rst ≡ true) where
  -- the copy comes to this end
  abbrev Comes : Side → Type 0
  Comes s = HeardIs (peer s) (end_at s p).tcp.send (end_at (peer s) p).tcp.send heard

  abbrev judged_end : Side → Meaning → PathEnd
  judged_end s m = copy_judged false told answer s now heard m (end_at s p)

  abbrev came : Side → Meaning → List Duty
  came s m = template_by false s (length (items_of false s heard)) m

  copy_step : (s : Side) → Comes s → (m : Meaning) → MeansIs (copy_of heard) (end_at s p).tcp m → is_accepts m ≡ false → Steps s p (judged_end s m)
  copy_step s says m fits other =
      let was = end_is s ds p h in let vs = (end_at (peer s) p).tcp.send in
      let end : EndIs s vs (parts_of (judged_end s m)) = record {
        base = copy_base s vs heard (end_at s p) told answer now resets says was.base m fits;
        says = copy_says s vs heard (end_at s p) told answer now resets says was.base m fits other was.says;
      } in
      record {
        end = end;
        grows = copy_grows s vs heard (end_at s p) told answer now resets says was.base m fits;
        knows = λ knows. copy_knows s vs heard (end_at s p) told answer now resets says was.base m fits knows;
      }

  -- what is marked then is said by an end that may
  template_speaks : (s : Side) (m : Meaning) → Comes s → MeansIs (copy_of heard) (end_at s p).tcp m → is_accepts m ≡ false → (x : Mark) → marks x (came s m) ≡ true → MarkIs (with_end s (judged_end s m) p) x
  template_speaks s m says fits other x = by m fits other
    where
      speaks : (m : Meaning) → MeansIs (copy_of heard) (end_at s p).tcp m → is_heeded m ≡ true → is_by x s ≡ true → MarkIs (with_end s (judged_end s m) p) x
      speaks m fits heeds own =
          let was = end_is s ds p h in let vs = (end_at (peer s) p).tcp.send in
          subst (MarkIs (with_end s (judged_end s m) p)) (sym (by_itself x s own))
          (speaks_at s p (judged_end s m) (copy_speaks s vs heard (end_at s p) told answer now resets says was.base m fits heeds was.says))

      alone : (m : Meaning) → MeansIs (copy_of heard) (end_at s p).tcp m → is_heeded m ≡ true → is_by x s || false ≡ true → MarkIs (with_end s (judged_end s m) p) x
      alone m fits heeds is = ⊎_elim (λ own. speaks m fits heeds own) (λ none. absurd (false≢true none)) (or_cases (is_by x s) false is)

      twice : (m : Meaning) → MeansIs (copy_of heard) (end_at s p).tcp m → is_heeded m ≡ true → is_by x s || (is_by x s || false) ≡ true → MarkIs (with_end s (judged_end s m) p) x
      twice m fits heeds is = ⊎_elim (λ own. speaks m fits heeds own) (λ rest. alone m fits heeds rest) (or_cases (is_by x s) (is_by x s || false) is)

      -- no SYN opens A's end
      handshake : (t : Side) → s ≡ t → (y : Mark) → (end_at s p).tcp.state ≡ State.Listen → is_handshake y t ≡ true → is_by y t ≡ true
      handshake A same (Mark.SaidBy u) listens is = is
      handshake B same (Mark.SaidBy u) listens is = is
      handshake A same Mark.Never listens is =
          absurd (both_ways (is_apart A State.Listen) (subst (λ z. is_apart A z ≡ false) listens (subst (λ u. is_apart u (end_at s p).tcp.state ≡ false) same (end_is s ds p h).base.apart)) refl)
      handshake B same Mark.Never listens is = absurd (false≢true is)

      by : (m : Meaning) → MeansIs (copy_of heard) (end_at s p).tcp m → is_accepts m ≡ false → marks x (came s m) ≡ true → MarkIs (with_end s (judged_end s m) p) x
      by Meaning.Opens fits other is = ⊎_elim (λ first. speaks Meaning.Opens fits refl (handshake s refl x fits.0 first)) (λ rest. alone Meaning.Opens fits refl rest) (or_cases (is_handshake x s) (is_by x s || false) is)
      by (Meaning.Accepts n) fits other is = absurd (false≢true (sym other))
      by Meaning.Ignored fits other is = absurd (false≢true is)
      by Meaning.Unwanted fits other is = absurd (false≢true is)
      by Meaning.Kills fits other is = absurd (false≢true is)
      by Meaning.Unacknowledging fits other is = absurd (false≢true is)
      by (Meaning.Taken pos n) fits other is = twice (Meaning.Taken pos n) fits refl (sym (heard_marks x s 0 (length (items_of false s heard)) (payload_came s)) ∙ is)
      by m fits other is = alone m fits refl is

  -- ---- A's SYN is answered

  module _ (n : ℕ) (says : Comes A) (fits : MeansIs (copy_of heard) p.a.tcp (Meaning.Accepts n)) where
    abbrev f : PathEnd
    f = judged_end A (Meaning.Accepts n)

    abbrev rest : List Duty
    rest = Duty.Ask (AskDuty.Live A) ∷ Duty.Send (SendDuty.Acknowledge A) ∷ emission A

    has_key : is_some (key_heard (items_of false A heard)) ≡ true
    has_key = accepted_key A p.b.tcp.send heard p.a told answer now resets says h.a.base n fits refl

    knowing_step : Steps A p (with_peer_key (key_heard (items_of false A heard)) (judged_end A (Meaning.Accepts n)))
    knowing_step =
        let b : Base A p.b.tcp.send (parts_of (judged_end A (Meaning.Accepts n))) = copy_base A p.b.tcp.send heard p.a told answer now resets says h.a.base (Meaning.Accepts n) fits in
        record {
          end = record {
            base = record { sends = b.sends; low = b.low; fin_at = b.fin_at; finite = b.finite; apart = b.apart; keyed = λ same has. cc; treated = b.treated };
            says = inl has_key;
          };
          grows = copy_grows A p.b.tcp.send heard p.a told answer now resets says h.a.base (Meaning.Accepts n) fits;
          knows = λ knows. has_key;
        }

    rest_marked : (x : Mark) → marks x rest ≡ true → MarkIs (with_end A (with_peer_key (key_heard (items_of false A heard)) (judged_end A (Meaning.Accepts n))) p) x
    rest_marked (Mark.SaidBy A) is = has_key
    rest_marked (Mark.SaidBy B) is = absurd (false≢true is)
    rest_marked Mark.Never is = absurd (false≢true is)

    finite_then : (s : Side) → (end_at s (with_end A (judged_end A (Meaning.Accepts n)) p)).modes.peer_infinite ≡ None
    finite_then A = (copy_base A p.b.tcp.send heard p.a told answer now resets says h.a.base (Meaning.Accepts n) fits).finite
    finite_then B = h.b.base.finite

    abbrev keying : List Duty → PathState Carried
    keying es = goes_on A (judged_end A (Meaning.Accepts n)) es p

    -- B's key is told, which its answer shows
    key_next : Holds (keying (Duty.Ask (AskDuty.PeerKey A) ∷ rest))
    key_next = by (key_heard (items_of false A heard)) refl has_key (path_goes A ds rest p _ knowing_step rest_marked h)
      where
        q : PathState Carried
        q = goes_on A (judged_end A (Meaning.Accepts n)) (Duty.Ask (AskDuty.PeerKey A) ∷ rest) p

        by : (o : Option ℕ) → key_heard (items_of false A heard) ≡ o → is_some o ≡ true → PathIs rest (with_end A (with_peer_key o (judged_end A (Meaning.Accepts n))) p) → Holds (keying (Duty.Ask (AskDuty.PeerKey A) ∷ rest))
        by None is some later = absurd (false≢true some)
        by (Some k) is some later =
            Next (Duty.Ask (AskDuty.PeerKey A)) rest q (record { duty = refl; met = λ past. refl; finite = finite_then }) refl (λ stood. subst (λ (o : Option ℕ). IsCalm (peer_key_ask A o q)) (sym is) tt)
            (λ stood r. subst (λ (o : Option ℕ). Holds (answered_peer_key A o r q)) (sym is) (Now _ (path_any rest rest (with_end A (with_peer_key (Some k) (judged_end A (Meaning.Accepts n))) p) later)))
            (λ none. absurd (both_ways _ (or_parts (is_some (key_heard (items_of false A heard))) _ none).0 has_key))

    answered_holds : Holds (keying (Duty.Ask (AskDuty.SynAnswered A) ∷ Duty.Ask (AskDuty.PeerKey A) ∷ rest))
    answered_holds = Next (Duty.Ask (AskDuty.SynAnswered A)) (Duty.Ask (AskDuty.PeerKey A) ∷ rest) _ (record { duty = refl; met = λ past. refl; finite = finite_then }) refl (λ is. tt) (λ is r. key_next) (λ none. absurd (false≢true (sym none)))

  pub told_holds : (s : Side) → Comes s → Holds (goes_on s (judged_end s (meaning_of (copy_of heard) (end_at s p).tcp)) (came s (meaning_of (copy_of heard) (end_at s p).tcp)) p)
  told_holds s says = by s says (meaning_of (copy_of heard) (end_at s p).tcp) (means_so (copy_of heard) (end_at s p).tcp)
    where
      other : (t : Side) → Comes t → (m : Meaning) → MeansIs (copy_of heard) (end_at t p).tcp m → is_accepts m ≡ false → Holds (goes_on t (judged_end t m) (came t m) p)
      other t says m fits none =
          Now _ (path_any (came t m) (came t m) (with_end t (judged_end t m) p) (path_goes t ds (came t m) p (judged_end t m) (copy_step t says m fits none) (template_speaks t m says fits none) h))

      by : (t : Side) → Comes t → (m : Meaning) → MeansIs (copy_of heard) (end_at t p).tcp m → Holds (goes_on t (judged_end t m) (came t m) p)
      by A says (Meaning.Accepts n) fits = answered_holds n says fits
      by B says (Meaning.Accepts n) fits = let same : B ≡ A = accepts_a B p.a.tcp.send heard p.b told answer now resets says h.b.base n fits in cc
      by t says Meaning.Opens fits = other t says Meaning.Opens fits refl
      by t says m fits = other t says m fits refl

-- ---- the event

find_copy : (p : PathState Carried) (due : Due) (flight : Flight Carried) → Every (CopyIs p.a.tcp.send p.b.tcp.send) p.link.under_way → arriving due p.link ≡ Some flight → CopyTo p.a.tcp.send p.b.tcp.send due.to flight
find_copy p due flight copies is =
    let found = find_every (CopyIs p.a.tcp.send p.b.tcp.send) (is_due due) p.link.under_way flight copies is in
    let same = one_side flight.to due.to (and_parts (same_side flight.to due.to) (flight.number == due.copy) (and_parts (flight.tick == due.tick) (same_side flight.to due.to && flight.number == due.copy) found.1).1).0 in
    subst (λ t. CopyTo p.a.tcp.send p.b.tcp.send t flight) same found.0

left_copies : (va vb : SendState) (o : Option ℕ) (fs : List (Flight Carried)) → Every (CopyIs va vb) fs → Every (CopyIs va vb) (without o fs)
left_copies va vb None fs h = h
left_copies va vb (Some place) fs h = record { each = λ k f at. let was = in_removed fs place k f at in h.each was.0 f was.1 }

comes_to : (s : Side) (p : PathState Carried) (flight : Flight Carried) → CopyTo p.a.tcp.send p.b.tcp.send s flight → HeardIs (peer s) (end_at s p).tcp.send (end_at (peer s) p).tcp.send (meant (as_arrived flight.carried))
comes_to = elim [ A ↦ λ p flight copy. copy | B ↦ λ p flight copy. copy ]

options_same : (e : PathEnd) (heard : HeardSegment) → e.modes.identity ≡ false → options_heard e heard ≡ heard
options_same e heard is = rw is refl

pub copy_holds : (s : Side) (ds : List Duty) (q : PathState Carried) → PathIs ds q → Plain (end_at s q) → (o : Option HeardSegment)
    → ((heard : HeardSegment) → o ≡ Some heard → HeardIs (peer s) (end_at s q).tcp.send (end_at (peer s) q).tcp.send heard) → Holds (copy_heard s o q)
copy_holds s ds q h plain None says = Now _ (path_any (emission s) (emission s) q (path_fewer ds (emission s) q (new_fewer ds (emission s) (λ x. refl)) h))
copy_holds s ds q h plain (Some heard) says =
    subst (λ (x : HeardSegment). Holds (told_at q.clock s x q)) (sym (options_same (end_at s q) heard plain.identity))
    (subst (λ (b : Bool). Holds (goes_on s (copy_judged b (held_of q.profile s heard) (reset_for q.profile s heard) s q.clock heard (taken_as (judged_in b s heard (end_at s q))) (end_at s q))
    (template_of b s (items_of b s heard) (judged_in b s heard (end_at s q))) q)) (sym h.first)
    (told_holds ds q h heard (held_of q.profile s heard) (reset_for q.profile s heard) q.clock refl s (says heard refl)))

pub happens_holds : (ds : List Duty) (p : PathState Carried) → PathIs ds p → PathPlain p → (o : Option Event) → next_event p ≡ o → (r : Reply) → Holds (happens_if values o r p)
happens_holds ds p h plain None next r = Now _ (path_any rest_of_turn rest_of_turn p (path_fewer ds rest_of_turn p (new_fewer ds rest_of_turn (λ x. refl)) h))
happens_holds ds p h plain (Some (Event.Joins tick)) next r = absurd (both_ways _ plain.waits (next_happens p (Event.Joins tick) next))
happens_holds ds p h plain (Some (Event.Takes line)) next r =
    let q : PathState Carried = record (at_tick line.tick p) { lines = tail_of p.lines } in Now _ (line_is line.action ds q (path_alike ds p q refl refl refl refl refl h.copies h))
happens_holds ds p h plain (Some (Event.Arrives due)) next r =
    let q : PathState Carried = record (at_tick due.tick p) { link = after_delivery due p.link } in
    copy_holds due.to ds q (path_alike ds p q refl refl refl refl refl (left_copies p.a.tcp.send p.b.tcp.send (position (is_due due) p.link.under_way) p.link.under_way h.copies) h) (same_plain due.to) (heard_in values due.to (arriving due p.link) p) (by (arriving due p.link) refl)
  where
    same_plain : (s : Side) → Plain (end_at s p)
    same_plain s = plain_at s p plain

    by : (o : Option (Flight Carried)) → arriving due p.link ≡ o → (heard : HeardSegment) → heard_in values due.to o p ≡ Some heard
        → HeardIs (peer due.to) (end_at due.to p).tcp.send (end_at (peer due.to) p).tcp.send heard
    by None is heard at = cc
    by (Some flight) is heard at = subst (HeardIs (peer due.to) (end_at due.to p).tcp.send (end_at (peer due.to) p).tcp.send) (same_Some _ heard at) (comes_to due.to p flight (find_copy p due flight h.copies is))
happens_holds ds p h plain (Some (Event.Fires s tick)) next r =
    let q : PathState Carried = at_tick tick p in
    fired_holds s ds q (path_alike ds p q refl refl refl refl refl h.copies h) (record { a = plain.a; b = plain.b; waits = plain.waits }) (next_happens p (Event.Fires s tick) next)
