-- What a copy that arrives makes of what the end of a path that joins knows.
use Rattle.world_laws.proofs.Words.{◌≡◌, refl, sym, ◌∙◌, subst, ℕ, ◌||◌, Bool, true, false, if◌then◌else◌, Option, Some, None, List, length, is_some, position}
use Rattle.world_laws.proofs.Words.{false≢true, IfSome, Side, A, B, peer, JoinAnswer, KeptMapping, is_waiting, is_half_open, Meaning, EndState, EndPhase}
use Rattle.world_laws.proofs.Words.{Outgoing, meaning_of, is_due, without, after_delivery, Due, Flight, HeardSegment, PlainSegment, meant, emission, Duty}
use Rattle.world_laws.proofs.Words.{Heard, PathEnd, at_tick, PathState, end_at, goes_on, with_end, Carried, as_arrived, values, hint_of, items_of, owes_by}
use Rattle.world_laws.proofs.Words.{options_heard, asked_in, copy_judged, copy_of, judged_in, reset_for, template_by, template_judged, template_of, with_held}
use Rattle.world_laws.proofs.Words.{heard_in, copy_heard, heard_at, Judged, is_joined, join_answer, join_asked, held_of, HeardOption, answered_in, cleared_in}
use Rattle.world_laws.proofs.Words.{is_forged, is_passed_over, join_judged, taken_as, with_answer, Modes, Every}
use Rattle.world_laws.proofs.Keys.Held.{VoiceIs, arrived_is, in_removed, FlightIs, AreKnown, PathIs, end_is, goes_by, agenda_is, AnswerIs, answer_is_right}
use Rattle.world_laws.proofs.Keys.AreDrawn.{Deed, Secrets, of_b, is_past, known_in, SegmentIs, ItemIs, ModesAre, EndIs, Needs, Knows, met_needs, needs_key, same_knows, same_modes, heard_items_are}
use Rattle.world_laws.proofs.Keys.WhatWakes.{is_up, is_lively, arrived_waits, held_past, copy_up, copy_past, WakesNone, joined_wakes_none, Voice, speaks, came_said, came_calm, came_goes_on, same_or_calm}

module _ (k : Secrets) (right : Bool) (w : Side → Type 0) (did : Deed → Side → Type 0) where
  -- ---- a copy

  -- what a copy that is taken as this tells of the join
  record JoinTold (s : Side) (m n : Modes) : Type 0 where
    pub modes : ModesAre k right w did true s n
    pub stays : Knows k right w did s m → Knows k right w did s n

  same_told : (s : Side) (m n : Modes) → known_in n ≡ known_in m → ModesAre k right w did true s m → JoinTold s m n
  same_told s m n same h = record { modes = same_modes k right w did true s m n same h; stays = λ has. same_knows k right w did s m n same has }

  answer_told : (s : Side) (o : Option JoinAnswer) (m : Modes) → IfSome o (AnswerIs k right w did true s) → Knows k right w did s m → ModesAre k right w did true s m → JoinTold s m (with_answer o m)
  answer_told s None m is knows h = same_told s m m refl h
  answer_told s (Some answer) m is knows h = record {
    modes = record {
      own = h.own;
      nonce = h.nonce;
      peer_is = h.peer_is;
      joins = λ owes. refl;
      third = λ owes. (knows.0, λ sure. (needs_key k right s m (knows.1 sure), is.1.1 sure));
      cleared = h.cleared;
      fell = h.fell;
      keyed = λ first. absurd (false≢true (sym first));
      meets = h.meets;
    };
    stays = λ has. (has.0, λ sure. met_needs k right s (with_answer (Some answer) m) (needs_key k right s m (has.1 sure), is.1.1 sure));
  }

  -- a copy that B takes while it is half open clears it
  taken_told : (s : Side) (b : Bool) (m : Modes) → (b ≡ true → w B) → Knows k right w did s m → ModesAre k right w did true s m → JoinTold s m (record m { clear = m.clear || b })
  taken_told s b m half knows h = record {
    modes = record {
      own = h.own;
      nonce = h.nonce;
      peer_is = h.peer_is;
      joins = h.joins;
      third = h.third;
      cleared = λ joins now. by m.clear refl now;
      fell = h.fell;
      keyed = λ first. absurd (false≢true (sym first));
      meets = λ sure now. of_b s _ (needs_key k right s m (knows.1 sure));
    };
    stays = λ has. (has.0, λ sure. stay s (has.1 sure));
  }
    where
      by : (c : Bool) → m.clear ≡ c → c || b ≡ true → w B
      by = elim [ true ↦ λ is now. h.cleared refl is | false ↦ λ is now. half now ]

      stay : (s : Side) → Needs k right s m → Needs k right s (record m { clear = m.clear || b })
      stay = elim [ A ↦ λ has. has | B ↦ λ has. has ]

  told_join : (s : Side) (items : List Heard) (m : Meaning) (state : EndPhase) (modes : Modes) → Every (ItemIs k right w did true s) items → (is_lively m ≡ true → Knows k right w did s modes)
      → (is_half_open state ≡ true → w B) → ModesAre k right w did true s modes → JoinTold s modes (cleared_in m state (answered_in m items modes))
  told_join s items (Meaning.Accepts acknowledged) state modes said knows half h = answer_told s (join_answer items modes) modes (answer_is_right k right w did true s modes items said) (knows refl) h
  told_join s items (Meaning.Taken pos acknowledged) state modes said knows half h = taken_told s (is_half_open state) modes half (knows refl) h
  told_join s items _ state modes said knows half h = same_told s modes modes refl h

  -- whether A asked for Multipath TCP leaves what is known
  asked_leaves : (m : Meaning) (options : List HeardOption) (modes : Modes) → known_in (asked_in m options modes) ≡ known_in modes
  asked_leaves Meaning.Opens options modes = refl
  asked_leaves Meaning.Ignored options modes = refl
  asked_leaves _ options modes = refl

  -- what it makes of the end of a path that joins
  record CopyTold (s : Side) (e f : PathEnd) : Type 0 where
    pub is : EndIs k right w did true s f
    pub waits : is_waiting f.tcp.state ≡ true → is_waiting e.tcp.state ≡ true
    pub stays : Knows k right w did s e.modes → Knows k right w did s f.modes

  half_past : (state : EndPhase) → is_half_open state ≡ true → is_past state ≡ true
  half_past EndPhase.SynReceived is = refl
  half_past EndPhase.Waiting is = absurd (false≢true is)
  half_past _ is = absurd (false≢true is)

  -- A accepts a copy alone that answers the join
  some_answer : (s : Side) (o : Option JoinAnswer) → is_some o ≡ true → IfSome o (AnswerIs k right w did true s) → w B
  some_answer s None some is = absurd (false≢true some)
  some_answer s (Some answer) some is = subst (λ t. w (peer t)) is.0 is.1.0

  told_copy : (s : Side) (told : List KeptMapping) (answer : Outgoing) (now : ℕ) (heard : HeardSegment) (m : Meaning) (e : PathEnd) → WakesNone m e.tcp
      → ((acknowledged : ℕ) → m ≡ Meaning.Accepts acknowledged → is_some (join_answer (items_of true s heard) e.modes) ≡ true)
      → Every (ItemIs k right w did true s) (items_of true s heard) → EndIs k right w did true s e → CopyTold s e (copy_judged true told answer s now heard m e)
  told_copy s told answer now heard m e none accepts said h =
      let items = items_of true s heard in
      let held : EndState = (with_held told heard m e).tcp in
      let join = told_join s items m held.state e.modes said (λ lively. h.woken refl (none.lively lively))
      (λ half. h.past refl (held_past m heard.payload e.tcp (half_past held.state half))) h.modes in
      let up = copy_up m (owes_by m items) (hint_of items) now (copy_of heard) heard.payload e.tcp none in
      let told_modes : Modes = cleared_in m held.state (answered_in m items e.modes) in
      let same = asked_leaves m heard.options told_modes in
      let stays = λ (has : Knows k right w did s e.modes). same_knows k right w did s told_modes (asked_in m heard.options told_modes) same (join.stays has) in
      record {
        is = record {
          modes = same_modes k right w did true s told_modes (asked_in m heard.options told_modes) same join.modes;
          items = said;
          woken = λ joined woken. stays (h.woken refl (up.up woken));
          past = λ joined so. copy_past m (owes_by m items) (hint_of items) now (copy_of heard) heard.payload e.tcp (w B) none.no_syn
              (λ acknowledged same. some_answer s (join_answer items e.modes) (accepts acknowledged same) (answer_is_right k right w did true s e.modes items said)) (h.past refl) so;
          carries = h.carries;
          queued = h.queued;
          failing = λ joined. tt;
        };
        waits = up.waits;
        stays = stays;
      }

  -- what is accepted answers the join
  accepts_answer : (rst : Bool) (items : List Heard) (m : Meaning) (e : PathEnd) (acknowledged : ℕ) → taken_as (join_judged rst items m e) ≡ Meaning.Accepts acknowledged → is_some (join_answer items e.modes) ≡ true
  accepts_answer rst items Meaning.Opens e acknowledged is =
      (elim (is_some (join_asked items)) as (λ b. taken_as (if b then Judged.Asks else Judged.Lacks) ≡ Meaning.Accepts acknowledged → is_some (join_answer items e.modes) ≡ true)
      [ true ↦ λ is. cc | false ↦ λ is. cc ]) is
  accepts_answer rst items (Meaning.Accepts at) e acknowledged is =
      (elim (is_some (join_answer items e.modes)) as (λ b. taken_as (if b then Judged.As (Meaning.Accepts at) else Judged.Forged) ≡ Meaning.Accepts acknowledged → b ≡ true)
      [ true ↦ λ is. refl | false ↦ λ is. cc ]) is
  accepts_answer rst items Meaning.RepeatedSyn e acknowledged is = cc
  accepts_answer rst items (Meaning.Taken pos at) e acknowledged is = by (is_passed_over rst items e) (is_forged items e) is
    where
      by : (b c : Bool) → taken_as (if b then Judged.As Meaning.Ignored else (if c then Judged.Forged else Judged.As (Meaning.Taken pos at))) ≡ Meaning.Accepts acknowledged → is_some (join_answer items e.modes) ≡ true
      by true c is = cc
      by false true is = cc
      by false false is = cc
  accepts_answer rst items Meaning.Ignored e acknowledged is =
      (elim (is_passed_over rst items e) as (λ b. taken_as (if b then Judged.As Meaning.Ignored else Judged.As Meaning.Ignored) ≡ Meaning.Accepts acknowledged → is_some (join_answer items e.modes) ≡ true) [
        | true ↦ λ is. cc
        | false ↦ λ is. cc
      ]) is
  accepts_answer rst items Meaning.Unwanted e acknowledged is =
      (elim (is_passed_over rst items e) as (λ b. taken_as (if b then Judged.As Meaning.Ignored else Judged.As Meaning.Unwanted) ≡ Meaning.Accepts acknowledged → is_some (join_answer items e.modes) ≡ true) [
        | true ↦ λ is. cc
        | false ↦ λ is. cc
      ]) is
  accepts_answer rst items Meaning.Outside e acknowledged is =
      (elim (is_passed_over rst items e) as (λ b. taken_as (if b then Judged.As Meaning.Ignored else Judged.As Meaning.Outside) ≡ Meaning.Accepts acknowledged → is_some (join_answer items e.modes) ≡ true) [
        | true ↦ λ is. cc
        | false ↦ λ is. cc
      ]) is
  accepts_answer rst items Meaning.Kills e acknowledged is =
      (elim (is_passed_over rst items e) as (λ b. taken_as (if b then Judged.As Meaning.Ignored else Judged.As Meaning.Kills) ≡ Meaning.Accepts acknowledged → is_some (join_answer items e.modes) ≡ true) [
        | true ↦ λ is. cc
        | false ↦ λ is. cc
      ]) is
  accepts_answer rst items Meaning.Challenged e acknowledged is =
      (elim (is_passed_over rst items e) as (λ b. taken_as (if b then Judged.As Meaning.Ignored else Judged.As Meaning.Challenged) ≡ Meaning.Accepts acknowledged → is_some (join_answer items e.modes) ≡ true) [
        | true ↦ λ is. cc
        | false ↦ λ is. cc
      ]) is
  accepts_answer rst items Meaning.Unacknowledging e acknowledged is =
      (elim (is_passed_over rst items e) as (λ b. taken_as (if b then Judged.As Meaning.Ignored else Judged.As Meaning.Unacknowledging) ≡ Meaning.Accepts acknowledged → is_some (join_answer items e.modes) ≡ true) [
        | true ↦ λ is. cc
        | false ↦ λ is. cc
      ]) is
  accepts_answer rst items Meaning.Ahead e acknowledged is =
      (elim (is_passed_over rst items e) as (λ b. taken_as (if b then Judged.As Meaning.Ignored else Judged.As Meaning.Ahead) ≡ Meaning.Accepts acknowledged → is_some (join_answer items e.modes) ≡ true) [
        | true ↦ λ is. cc
        | false ↦ λ is. cc
      ]) is

  -- what it makes due is said by an end that is up
  template_is : (s t : Side) (count : ℕ) (v : Judged) (tcp : EndState) → WakesNone (taken_as v) tcp → speaks (Voice.Says t) (template_judged true s count v) ≡ true → (t ≡ s) × (is_up tcp ≡ true)
  template_is s t count (Judged.As Meaning.Opens) tcp none spoken = absurd (false≢true (sym none.no_syn))
  template_is s t count (Judged.As Meaning.RepeatedSyn) tcp none spoken = (same_or_calm t s spoken, none.lively refl)
  template_is s t count (Judged.As Meaning.Outside) tcp none spoken = (same_or_calm t s spoken, none.lively refl)
  template_is s t count (Judged.As Meaning.Challenged) tcp none spoken = (same_or_calm t s spoken, none.lively refl)
  template_is s t count (Judged.As Meaning.Ahead) tcp none spoken = (same_or_calm t s spoken, none.lively refl)
  template_is s t count (Judged.As (Meaning.Taken pos acknowledged)) tcp none spoken = (came_said t s count spoken, none.lively refl)
  template_is s t count _ tcp none spoken = absurd (false≢true spoken)

  -- and no side falls or aborts by it
  abbrev IsCalm : Side → List Duty → Type 0
  IsCalm t ds = (speaks (Voice.Falls t) ds ≡ false) × (speaks (Voice.Aborts t) ds ≡ false)

  meant_calm : (joined : Bool) (s t : Side) (count : ℕ) (m : Meaning) → IsCalm t (template_by joined s count m)
  meant_calm true s t count (Meaning.Accepts acknowledged) = (refl, refl)
  meant_calm false s t count (Meaning.Accepts acknowledged) = (refl, refl)
  meant_calm joined s t count (Meaning.Taken pos acknowledged) = (came_calm t s count, came_goes_on t s count)
  meant_calm joined s t count _ = (refl, refl)

  template_calm : (joined : Bool) (s t : Side) (count : ℕ) (v : Judged) → IsCalm t (template_judged joined s count v)
  template_calm joined s t count (Judged.As m) = meant_calm joined s t count m
  template_calm joined s t count _ = (refl, refl)

  -- the end of either side is that of this one
  pub own_knows : (s t : Side) (e : PathEnd) (p : PathState Carried) → t ≡ s → Knows k right w did s e.modes → Knows k right w did t (end_at t (with_end s e p)).modes
  own_knows A A e p same has = has
  own_knows B B e p same has = has
  own_knows A B e p same has = cc
  own_knows B A e p same has = cc

  -- what is said, where no side falls or aborts
  pub voices : (p : PathState Carried) (ds : List Duty) → ((t : Side) → speaks (Voice.Says t) ds ≡ true → VoiceIs k right w did p (Voice.Says t)) → ((t : Side) → IsCalm t ds) → AreKnown k right w did p ds
  voices p ds said calm (Voice.Says t) spoken = said t spoken
  voices p ds said calm (Voice.Falls t) spoken = absurd (false≢true (sym (calm t).0 ∙ spoken))
  voices p ds said calm (Voice.Aborts t) spoken = absurd (false≢true (sym (calm t).1 ∙ spoken))

  heard_is : (s : Side) (now : ℕ) (sg : PlainSegment) (p : PathState Carried) → SegmentIs k right w did p.profile (peer s) sg → PathIs k right w did p → PathIs k right w did (heard_at now s (Some (meant sg)) p)
  heard_is s now sg p said h = by (is_joined p.profile) refl (end_is k right w did s p h) (heard_items_are k right w did (is_joined p.profile) s (end_at s p) sg said)
    where
      e : PathEnd
      e = end_at s p

      heard : HeardSegment
      heard = options_heard (end_at s p) (meant sg)

      told : List KeptMapping
      told = held_of p.profile s heard

      answer : Outgoing
      answer = reset_for p.profile s heard

      by : (joined : Bool) → is_joined p.profile ≡ joined → EndIs k right w did joined s e → Every (ItemIs k right w did joined s) (items_of joined s heard)
          → PathIs k right w did (goes_on s (copy_judged joined told answer s now heard (taken_as (judged_in joined s heard e)) e) (template_of joined s (items_of joined s heard) (judged_in joined s heard e)) p)
      by true is own items =
          let v : Judged = judged_in true s heard e in
          let none : WakesNone (taken_as v) e.tcp = joined_wakes_none heard.rst (items_of true s heard) e (copy_of heard) in
          let copy = told_copy s told answer now heard (taken_as v) e none (λ acknowledged same. accepts_answer heard.rst (items_of true s heard) (meaning_of (copy_of heard) e.tcp) e acknowledged same) items own in
          goes_by k right w did s _ _ p (subst (λ j. EndIs k right w did j s (copy_judged true told answer s now heard (taken_as v) e)) (sym is) copy.is) copy.waits
          (voices (with_end s (copy_judged true told answer s now heard (taken_as v) e) p) (template_of true s (items_of true s heard) v) (λ t spoken joined.
          let said_by = template_is s t (length (items_of true s heard)) v e.tcp none spoken in
          own_knows s t _ p said_by.0 (copy.stays (own.woken refl said_by.1))) (λ t. template_calm true s t (length (items_of true s heard)) v)) h
      by false is own items =
          let m : Meaning = meaning_of (copy_of heard) e.tcp in
          goes_by k right w did s _ _ p
          (subst (λ j. EndIs k right w did j s (copy_judged false told answer s now heard m e)) (sym is)
          (record {
            modes = same_modes k right w did false s e.modes (asked_in m heard.options e.modes) (asked_leaves m heard.options e.modes) own.modes;
            items = items;
            woken = λ joined. absurd (false≢true joined);
            past = λ joined. absurd (false≢true joined);
            carries = own.carries;
            queued = own.queued;
            failing = λ joined. tt;
          }))
          (λ waiting. arrived_waits m (owes_by m (items_of false s heard)) (hint_of (items_of false s heard)) now (copy_of heard) heard.payload e.tcp waiting)
          (voices (with_end s (copy_judged false told answer s now heard m e) p) (template_of false s (items_of false s heard) (Judged.As m)) (λ t spoken joined. absurd (false≢true (sym is ∙ joined))) (λ t. template_calm false s t (length (items_of false s heard)) (Judged.As m))) h

  pub copy_is : (s : Side) (o : Option (Flight Carried)) (q p : PathState Carried) → ((f : Flight Carried) → o ≡ Some f → SegmentIs k right w did p.profile (peer s) f.carried.segment) → PathIs k right w did p
      → PathIs k right w did (copy_heard s (heard_in values s o q) p)
  copy_is s None q p said h = agenda_is k right w did (emission s) p (λ t spoken. absurd (false≢true spoken)) h
  copy_is s (Some f) q p said h = heard_is s p.clock (as_arrived f.carried) p (arrived_is k right w did p.profile (peer s) f.carried (said f refl)) h

  pub delivered_is : (due : Due) (p : PathState Carried) → PathIs k right w did p → PathIs k right w did (record (at_tick due.tick p) { link = after_delivery due p.link })
  delivered_is due p h = record { a = h.a; b = h.b; copies = rest (position (is_due due) p.link.under_way); known = h.known; waits = h.waits }
    where
      rest : (o : Option ℕ) → Every (FlightIs k right w did p.profile) (without o p.link.under_way)
      rest None = h.copies
      rest (Some place) = record { each = λ i f at. let there = in_removed p.link.under_way place i f at in h.copies.each there.0 f there.1 }
