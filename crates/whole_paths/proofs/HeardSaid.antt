-- What an end is to hear it was to hear before, or a copy says it that the end takes; and no other Data ACK counts.
use Rattle.std.proofs.Common.{◌≡◌, refl, sym, subst, ap, ◌∙◌, ◌⊎◌, inl, inr, ⊎_elim, ℕ, zero, suc, ◌+◌, ◌-◌, ◌||◌, max, Bool, true, false, true≢false, if◌then◌else◌, Option, Some, None, is_some, List, [], ◌∷◌, ◌++◌, length}
use Rattle.std.specs.List.{list_any}
use Rattle.std.proofs.lemmas.Bool.{both_ways, eq-eqb, or_cases, or_from, or_right}
use Rattle.std.proofs.lemmas.Option.{same_Some}
use Rattle.path_segments.specs.Heard.{HeardSegment}
use Rattle.sides.specs.declared.side.Side.{Side}
use Rattle.sides.specs.declared.side.Side.TheVariants.{A, B}
use Rattle.sides.specs.Side.{peer}
use Rattle.link_script.specs.Places.{same_side}
use Rattle.link_model.specs.Steps.{after_delivery, arriving}
use Rattle.link_model.specs.declared.flight.Due.{Due}
use Rattle.subflow_tcp.specs.States.{is_dead}
use Rattle.subflow_tcp.specs.Expiring.{is_sixth}
use Rattle.subflow_tcp.specs.declared.verdicts.Meaning.TheVariants as means
use Rattle.actor_desk.specs.declared.ask.Reply.{Reply}
use Rattle.actor_desk.specs.declared.ask.Reply.TheVariants as replies
use Rattle.actor_desk.specs.Words.{pick, tail_of}
use Rattle.path_store.specs.declared.lines.LineAction.{LineAction}
use Rattle.path_store.specs.declared.lines.LineAction.TheVariants as actions
use Rattle.send_book.specs.declared.call.SendReply.TheVariants as send_replies
use Rattle.path_agenda.specs.Agenda.{copy_came, emission, heard_and, leaves, payload_came, resets, rest_of_turn, start_of_turn}
use Rattle.path_agenda.specs.declared.duty.Duty.{Duty}
use Rattle.path_agenda.specs.declared.duty.Duty.TheVariants as duties
use Rattle.path_agenda.specs.declared.duty.AskDuty.TheVariants as ask_duties
use Rattle.path_agenda.specs.declared.duty.SendDuty.{SendDuty}
use Rattle.path_agenda.specs.declared.duty.SendDuty.TheVariants as send_duties
use Rattle.path_agenda.specs.declared.duty.SilentDuty.{SilentDuty}
use Rattle.path_agenda.specs.declared.duty.SilentDuty.TheVariants as silent_duties
use Rattle.path_agenda.specs.declared.duty.StepDuty.TheVariants as step_duties
use Rattle.path_agenda.specs.declared.heard.Heard.{Heard}
use Rattle.path_agenda.specs.declared.heard.Heard.TheVariants as says
use Rattle.path_core.specs.Arrival.{after_judged, copy_heard, heard_in, judged_in, template_by, template_judged}
use Rattle.path_core.specs.Breaking.{answered_break, reset_on}
use Rattle.path_core.specs.Standing.{answered_ack_out}
use Rattle.path_core.specs.Timer.{template_fired}
use Rattle.path_core.specs.Choices.{item_at}
use Rattle.path_core.specs.Codec.{Codec}
use Rattle.path_core.specs.DataFin.{acked_in}
use Rattle.path_core.specs.DssIn.{counts, with_acked, is_clash, with_data_fin, with_learned, with_skipped}
use Rattle.path_core.specs.Duties.{answered, passed, stands}
use Rattle.path_core.specs.End.{PathEnd}
use Rattle.path_core.specs.Events.{after_line, happens_if, next_event}
use Rattle.path_core.specs.Fallback.{plain_next, plainly_acked}
use Rattle.path_core.specs.Modes.{acknowledged_under}
use Rattle.path_core.specs.MpJoin.{is_joined, is_never, keys_begun, never_joined, opened_by}
use Rattle.path_core.specs.OptionsIn.{items_of, options_heard}
use Rattle.path_core.specs.Sending.{Sending}
use Rattle.path_core.specs.State.{PathState, at_tick, end_at, goes_on, with_agenda}
use Rattle.path_core.specs.Steps.{next_round, settled, takes}
use Rattle.path_core.specs.Treating.{answered_heard, answered_item, item_of, item_passed}
use Rattle.path_core.specs.declared.events.Event.{Event}
use Rattle.path_core.specs.declared.events.Event.TheVariants as happenings
use Rattle.path_core.specs.declared.judged.Judged.{Judged}
use Rattle.path_core.specs.declared.judged.Judged.TheVariants as judged
use Rattle.world_laws.specs.declared.member.Member.TheVariants.{App, Path}
use Rattle.world_laws.specs.Actors.{Actor, member_next, member_takes}
use Rattle.world_laws.specs.StampedBooks.{answer_to}
use Rattle.world_laws.specs.Writes.{EndView, OnlyAt, Writes, send_writes, side_of, silent_writes, writes}
use Rattle.world_laws.proofs.Falls.FailedChecks.{fail_answered_so, infinite_came_so}
use Rattle.world_laws.proofs.Worlds.Finding.{one_side}
use Rattle.world_laws.proofs.Writes.Paths.{passes_no_more, writes_no_more}
use Rattle.world_laws.proofs.Writes.Steps.{Lasts, both_ends, settled_lasts, unwritten}
use Rattle.whole_paths.specs.AgendaSteps.{Follows, is_gone, is_told}
use Rattle.whole_paths.specs.AgendaSteps.{Follows as follows}
use Rattle.whole_paths.specs.HeardSaid.{HearsAsMuch, HearsWhatWasSaid, IsAhead, PathsHearWhatWasSaid, SaysNext, WhatIsHeardWasSaid, hears_at, is_ack_of}
use Rattle.whole_paths.specs.HeardSaid.{HearsAsMuch as much}
use Rattle.whole_paths.proofs.Agendas.{answered_follows, own_end}
use Rattle.whole_paths.proofs.HeardItems.{answered_sheds, passed_sheds, sheds_at}
use Rattle.whole_paths.proofs.Pieces.{is_event}
use Rattle.whole_paths.proofs.Settling.{sides}
use Rattle.whole_paths.proofs.Turns.{turn_each}

-- ---- duties

same_sides : (s : Side) → same_side s s ≡ true
same_sides = elim [ A ↦ refl | B ↦ refl ]

told_none : (s : Side) (e : Duty) → is_told e ≡ true → hears_at s e ≡ false
told_none s (duties.Ask (ask_duties.GoIdentity t)) told = refl
told_none s (duties.Ask (ask_duties.AckHeard t)) told = refl
told_none s (duties.Ask (ask_duties.FailHeard t)) told = refl
told_none s (duties.Send (send_duties.SynAck t)) told = refl
told_none s (duties.Send (send_duties.Refuse t)) told = refl
told_none s _ told = absurd (true≢false (sym told))

module _ (s : Side) where
  abbrev Hears : List Duty → Type 0
  Hears ds = list_any (hears_at s) ds ≡ true

  later : (d : Duty) (ds : List Duty) → Hears ds → Hears (d ∷ ds)
  later d ds is = or_right (hears_at s d) (list_any (hears_at s) ds) is

  in_place : (e d : Duty) (ds : List Duty) → hears_at s e ≡ false → Hears (e ∷ ds) → Hears (d ∷ ds)
  in_place e d ds none is = ⊎_elim (λ here. absurd (both_ways (hears_at s e) none here)) (λ there. later d ds there) (or_cases (hears_at s e) (list_any (hears_at s) ds) is)

  -- what is to be heard after a duty was to be heard before
  back : (t : Side) (gone : Bool) (d : Duty) (ds es : List Duty) → Follows t gone d ds es → Hears es → Hears (d ∷ ds)
  back t gone d ds es follows.goes_on is = later d ds is
  back t gone d ds es follows.again is = is
  back t gone d ds es (follows.told treats e own other named silent) is = in_place e d ds (told_none s e named) is
  back t gone d ds es (follows.left dead) is = in_place (duties.Ask (ask_duties.Leave t)) d ds refl is
  back t gone d ds es follows.noted is = in_place (duties.Ask (ask_duties.Dead t)) d ds refl is
  back t gone d ds es (follows.broken may reason) is = absurd (true≢false (sym is))
  back t gone d ds es (follows.is_reset may reason) is = absurd (true≢false (sym is))
  back t gone d ds es (follows.dead may dead) is = absurd (true≢false (sym is))
  back t gone d ds es (follows.stopped may) is = absurd (true≢false (sym is))
  back t gone d ds es (follows.over both) is = absurd (true≢false (sym is))

  -- the things of another side's copy
  others_none : (t : Side) → same_side t s ≡ false → (from count : ℕ) (ds : List Duty) → list_any (hears_at s) ds ≡ false → list_any (hears_at s) (heard_and t from count ds) ≡ false
  others_none t apart from zero ds none = none
  others_none t apart from (suc count) ds none = or_from (same_side t s) (list_any (hears_at s) (heard_and t (from + 1) count ds)) apart (others_none t apart (from + 1) count ds none)

  apart_none : (t : Side) (count : ℕ) → same_side t s ≡ false → Hears (copy_came t count) → ⊥
  apart_none t count apart is = both_ways (list_any (hears_at s) (copy_came t count)) (others_none t apart 0 count (payload_came t) refl) is

-- ---- what an end heard

item_named : (index place window : ℕ) (items : List Heard) → item_at index items ≡ Some (says.DataAck place window) → list_any (is_ack_of place) items ≡ true
item_named index place window [] is = cc
item_named zero place window (item ∷ items) is = ap (λ i. is_ack_of place i || list_any (is_ack_of place) items) (same_Some item (says.DataAck place window) is) ∙ ap (λ b. b || list_any (is_ack_of place) items) (eq-eqb place place refl)
item_named (suc n) place window (item ∷ items) is = or_right (is_ack_of place item) (list_any (is_ack_of place) items) (item_named n place window items is)

unsome : {X : Type 0} (o : Option X) → is_some o ≡ false → o ≡ None
unsome None none = refl
unsome (Some x) none = absurd (true≢false none)

acked_heard : (next : ℕ) (r : Reply) (v : Sending) → ((acked_in next r v).heard ≡ v.heard) ⊎ ((acked_in next r v).heard ≡ max v.heard next)
acked_heard next (replies.Send (send_replies.Acked bytes fin)) v = inr refl
acked_heard next _ v = inl refl

send_unheard : (d : SendDuty) → (send_writes d).heard ≡ false
send_unheard (send_duties.Update s) = refl
send_unheard _ = refl

silent_unheard : (d : SilentDuty) → (silent_writes d).heard ≡ false
silent_unheard (silent_duties.Timer s) = refl
silent_unheard _ = refl

item_keeps : (s : Side) (o : Option Heard) (e : PathEnd) → (item_passed s o e).sending.heard ≡ e.sending.heard
item_keeps s None e = refl
item_keeps s (Some (says.Mapping fin)) e = elim (counts e) as (λ b. (if b then with_learned e else with_skipped e).sending.heard ≡ e.sending.heard) [ true ↦ refl | false ↦ refl ]
item_keeps s (Some (says.DataFin place)) e = elim (counts e) as (λ b. (if b then with_data_fin place e else e).sending.heard ≡ e.sending.heard) [ true ↦ refl | false ↦ refl ]
item_keeps s (Some _) e = refl

module _ {C : Type 0} where
  -- as many bytes are acknowledged to both ends
  pub record Keeps (p q : PathState C) : Type 0 where
    pub at : (s : Side) → (end_at s q).sending.heard ≡ (end_at s p).sending.heard

  same_ends : (p q : PathState C) → q.a.sending.heard ≡ p.a.sending.heard → q.b.sending.heard ≡ p.b.sending.heard → Keeps p q
  same_ends p q a b = record { at = elim [ A ↦ a | B ↦ b ] }

  one_end : (s : Side) (f : PathEnd) (p q : PathState C) → f.sending.heard ≡ (end_at s p).sending.heard → q.a ≡ pick s f p.a → q.b ≡ pick s p.b f → Keeps p q
  one_end A f p q same a b = same_ends p q (ap (λ (e : PathEnd). e.sending.heard) a ∙ same) (ap (λ (e : PathEnd). e.sending.heard) b)
  one_end B f p q same a b = same_ends p q (ap (λ (e : PathEnd). e.sending.heard) a) (ap (λ (e : PathEnd). e.sending.heard) b ∙ same)

  either : (b : Bool) (p q r : PathState C) → Keeps p q → Keeps p r → Keeps p (if b then q else r)
  either true p q r x y = x
  either false p q r x y = y

  masked : (s : Side) (w : Writes) (p q : PathState C) → w.own.heard ≡ false → w.other.heard ≡ false → OnlyAt s w p q → Keeps p q
  masked s w p q own other x =
      let both = both_ends (λ (e : PathEnd) (f : PathEnd). f.sending.heard ≡ e.sending.heard) s w p q
      (λ e f y. unwritten w.own.heard e.sending.heard f.sending.heard own (ap (λ (v : EndView). v.heard) y.same))
      (λ e f y. unwritten w.other.heard e.sending.heard f.sending.heard other (ap (λ (v : EndView). v.heard) y.same)) x in
      same_ends p q both.0 both.1

  passed_keeps : (d : Duty) (p : PathState C) → Keeps p (passed d p)
  passed_keeps (duties.Step (step_duties.Heard s index)) p = one_end s _ p _ (item_keeps s (item_of index (end_at s p)) (end_at s p)) refl refl
  passed_keeps (duties.Ask (ask_duties.SubflowAck s)) p = same_ends p _ refl refl
  passed_keeps (duties.Send d) p = same_ends p _ refl refl
  passed_keeps (duties.Silent d) p = masked (side_of (duties.Silent d)) (writes (duties.Silent d)) p (passed (duties.Silent d) p) (silent_unheard d) refl (passes_no_more (duties.Silent d) p)
  passed_keeps d p = masked (side_of d) (writes d) p (passed d p) refl refl (passes_no_more d p)

  -- a thing that is heard, but for a Data ACK
  thing_keeps : (k : Codec C) (s : Side) (item : Heard) (r : Reply) (p : PathState C) → ((next window : ℕ) → item ≡ says.DataAck next window → ⊥) → Keeps p (answered_heard k s item r p)
  thing_keeps k s (says.DataAck next window) r p never = absurd (never next window refl)
  thing_keeps k s (says.Mapping fin) r p never = either (is_clash (end_at s p)) p _ _ (broken r) (one_end s _ p _ refl refl refl)
    where
      broken : (r : Reply) → Keeps p (answered_break k s 1 r p)
      broken r = elim (end_at s p).treated.asked as (λ b. Keeps p (if b then answered_ack_out s r (resets s 1) p else reset_on k s (Some 1) (leaves s) p)) [ true ↦ one_end s _ p _ refl refl refl | false ↦ one_end s _ p _ refl refl refl ]
  thing_keeps k s (says.DataFin place) r p never = one_end s _ p _ refl refl refl
  thing_keeps k s (says.InfiniteMapping place position) r p never = let e = end_at s p in one_end s _ p _ (infinite_came_so (λ f. f.sending.heard ≡ e.sending.heard) place position r e (λ other. refl)) refl refl
  thing_keeps k s (says.Keys own other) r p never = one_end s _ p _ refl refl refl
  thing_keeps k s (says.Notice notice) r p never = one_end s _ p _ refl refl refl
  thing_keeps k s says.Fail r p never = fail_answered_so (Keeps p) s r p (one_end s _ p _ refl refl refl) (one_end s _ p _ refl refl refl)
  thing_keeps k s _ r p never = same_ends p _ refl refl

  abbrev AllHear : PathState C → PathState C → Type 0
  AllHear p q = (s : Side) → HearsAsMuch s p q

  keeps_all : (p q : PathState C) → Keeps p q → AllHear p q
  keeps_all p q x s = much.stays (x.at s)

  -- and one that is
  module _ (k : Codec C) (t : Side) (index : ℕ) (ds : List Duty) (r : Reply) (p : PathState C) where
    abbrev from : PathState C
    from = with_agenda (duties.Step (step_duties.Heard t index) ∷ ds) p

    is_ahead : (next window : ℕ) → item_at index (end_at t from).treated.items ≡ Some (says.DataAck next window) → IsAhead t (is_ack_of next) from
    is_ahead next window is = record {
      duties = ap (λ b. b || list_any (hears_at t) ds) (same_sides t);
      items = item_named index next window (end_at t from).treated.items is;
    }

    data_ack : (next window : ℕ) → item_at index (end_at t from).treated.items ≡ Some (says.DataAck next window) → AllHear from (answered_heard k t (says.DataAck next window) r from)
    data_ack next window is s = ⊎_elim
        (λ own. subst (λ u. HearsAsMuch u from q) own (⊎_elim (λ same. much.stays (ap (λ (e : PathEnd). e.sending.heard) at_t ∙ same)) (λ more. much.hears next (ap (λ (e : PathEnd). e.sending.heard) at_t ∙ more) (is_ahead next window is)) (acked_heard next r (end_at t from).sending)))
        (λ away. much.stays (other_same t s away))
        (sides s t)
      where
        q : PathState C
        q = answered_heard k t (says.DataAck next window) r from

        at_t : end_at t q ≡ with_acked next r (end_at t from)
        at_t = own_end t (with_acked next r (end_at t from)) from.a from.b

        other_same : (t s : Side) → peer t ≡ s → (end_at s (answered_heard k t (says.DataAck next window) r from)).sending.heard ≡ (end_at s from).sending.heard
        other_same A A away = cc
        other_same A B away = refl
        other_same B A away = refl
        other_same B B away = cc

    thing_hears : (o : Option Heard) → item_of index (end_at t from) ≡ o → AllHear from (answered_item k t o r from)
    thing_hears None is = keeps_all from _ (same_ends from _ refl refl)
    thing_hears (Some item) is = by item is
      where
        named : (b : Bool) (item : Heard) → (if b then None else item_at index (end_at t from).treated.items) ≡ Some item → item_at index (end_at t from).treated.items ≡ Some item
        named true item is = cc
        named false item is = is

        by : (item : Heard) → item_of index (end_at t from) ≡ Some item → AllHear from (answered_item k t (Some item) r from)
        by (says.DataAck next window) is = data_ack next window (named (end_at t from).modes.identity (says.DataAck next window) is)
        by says.Dss is = keeps_all from _ (thing_keeps k t says.Dss r from (λ next window same. cc))
        by (says.Mapping fin) is = keeps_all from _ (thing_keeps k t (says.Mapping fin) r from (λ next window same. cc))
        by (says.DataFin place) is = keeps_all from _ (thing_keeps k t (says.DataFin place) r from (λ next window same. cc))
        by (says.InfiniteMapping place position) is = keeps_all from _ (thing_keeps k t (says.InfiniteMapping place position) r from (λ next window same. cc))
        by (says.PeerKey key) is = keeps_all from _ (thing_keeps k t (says.PeerKey key) r from (λ next window same. cc))
        by (says.Keys own other) is = keeps_all from _ (thing_keeps k t (says.Keys own other) r from (λ next window same. cc))
        by (says.Join form) is = keeps_all from _ (thing_keeps k t (says.Join form) r from (λ next window same. cc))
        by (says.Notice notice) is = keeps_all from _ (thing_keeps k t (says.Notice notice) r from (λ next window same. cc))
        by says.Fail is = keeps_all from _ (thing_keeps k t says.Fail r from (λ next window same. cc))
        by (says.FastClose key) is = keeps_all from _ (thing_keeps k t (says.FastClose key) r from (λ next window same. cc))

  -- the subflow's acknowledgement counts in plain TCP, and behind an infinite mapping
  plain_hears : (k : Codec C) (t : Side) (r : Reply) (p : PathState C) → AllHear p (answered k (duties.Ask (ask_duties.SubflowAck t)) r p)
  plain_hears k t r p s = ⊎_elim (λ own. subst (λ u. HearsAsMuch u p q) own (by_modes (end_at t p).modes.identity refl)) (λ away. much.stays (other_same t s away)) (sides s t)
    where
      q : PathState C
      q = answered k (duties.Ask (ask_duties.SubflowAck t)) r p

      at_t : (end_at t q).sending ≡ plainly_acked (plain_next (end_at t p)) r (end_at t p).sending
      at_t = ap (λ (e : PathEnd). e.sending) (own_end t _ p.a p.b)

      other_same : (t s : Side) → peer t ≡ s → (end_at s (answered k (duties.Ask (ask_duties.SubflowAck t)) r p)).sending.heard ≡ (end_at s p).sending.heard
      other_same A A away = cc
      other_same A B away = refl
      other_same B A away = refl
      other_same B B away = cc

      by_infinite : (end_at t p).modes.identity ≡ false → (b : Bool) → is_some (end_at t p).modes.own_infinite ≡ b → HearsAsMuch t p q
      by_infinite mapped true some = much.infinite some
      by_infinite mapped false none = much.stays (ap (λ (v : Sending). v.heard) at_t ∙ ap (λ (o : Option ℕ). (plainly_acked o r (end_at t p).sending).heard) nothing)
        where
          nothing : plain_next (end_at t p) ≡ None
          nothing = ap (λ b. if b then Some ((end_at t p).treated.acknowledged - 1) else acknowledged_under (end_at t p).modes.own_infinite (end_at t p).treated.acknowledged) mapped
              ∙ ap (λ o. acknowledged_under o (end_at t p).treated.acknowledged) (unsome (end_at t p).modes.own_infinite none)

      by_modes : (b : Bool) → (end_at t p).modes.identity ≡ b → HearsAsMuch t p q
      by_modes true is = much.plain is
      by_modes false is = by_infinite is (is_some (end_at t p).modes.own_infinite) refl

  duty_hears : (k : Codec C) (d : Duty) (ds : List Duty) (r : Reply) (p : PathState C) → AllHear (with_agenda (d ∷ ds) p) (answered k d r (with_agenda (d ∷ ds) p))
  duty_hears k (duties.Step (step_duties.Heard t index)) ds r p = thing_hears k t index ds r p (item_of index (end_at t (with_agenda (duties.Step (step_duties.Heard t index) ∷ ds) p))) refl
  duty_hears k (duties.Ask (ask_duties.SubflowAck t)) ds r p = plain_hears k t r (with_agenda (duties.Ask (ask_duties.SubflowAck t) ∷ ds) p)
  duty_hears k (duties.Send d) ds r p = let x : PathState C = with_agenda (duties.Send d ∷ ds) p in
      keeps_all x (answered k (duties.Send d) r x) (masked (side_of (duties.Send d)) (writes (duties.Send d)) x (answered k (duties.Send d) r x) (send_unheard d) refl (writes_no_more k (duties.Send d) r x))
  duty_hears k (duties.Silent d) ds r p = let x : PathState C = with_agenda (duties.Silent d ∷ ds) p in
      keeps_all x (answered k (duties.Silent d) r x) (masked (side_of (duties.Silent d)) (writes (duties.Silent d)) x (answered k (duties.Silent d) r x) (silent_unheard d) refl (writes_no_more k (duties.Silent d) r x))
  duty_hears k d ds r p = let x : PathState C = with_agenda (d ∷ ds) p in keeps_all x (answered k d r x) (masked (side_of d) (writes d) x (answered k d r x) refl refl (writes_no_more k d r x))

  -- ---- what is to be heard

  abbrev Back : PathState C → PathState C → Type 0
  Back p q = (s : Side) (kind : Heard → Bool) → IsAhead s kind q → IsAhead s kind p

  abbrev BackOrSaid : Codec C → PathState C → PathState C → Type 0
  BackOrSaid k p q = (s : Side) (kind : Heard → Bool) → IsAhead s kind q → IsAhead s kind p ⊎ SaysNext k s kind p

  pub settled_back : (ds : List Duty) (p : PathState C) → Back (with_agenda ds p) (settled ds p)
  settled_back [] p s kind h = absurd (true≢false (sym h.duties))
  settled_back (d ∷ ds) p s kind ahead = (elim (stands d p) as (λ b. IsAhead s kind (if b then with_agenda (d ∷ ds) p else settled ds (passed d p)) → IsAhead s kind (with_agenda (d ∷ ds) p)) [
    | true ↦ λ h. h
    | false ↦ λ h. let rest = settled_back ds (passed d p) s kind h in record { duties = later s d ds rest.duties; items = at_agenda s (d ∷ ds) p (sheds_at s p (passed d p) (passed_sheds d p) kind (without_agenda s ds (passed d p) rest.items)) }
  ]) ahead
    where
      at_agenda : (s : Side) (es : List Duty) (p : PathState C) → list_any kind (end_at s p).treated.items ≡ true → list_any kind (end_at s (with_agenda es p)).treated.items ≡ true
      at_agenda A es p is = is
      at_agenda B es p is = is

      without_agenda : (s : Side) (es : List Duty) (p : PathState C) → list_any kind (end_at s (with_agenda es p)).treated.items ≡ true → list_any kind (end_at s p).treated.items ≡ true
      without_agenda A es p is = is
      without_agenda B es p is = is

  quiet_back : (k : Codec C) (d : Duty) (ds : List Duty) (r : Reply) (p : PathState C) → is_event d ≡ false
      → let x : PathState C = with_agenda (d ∷ ds) p in Follows (side_of d) (is_gone (end_at (side_of d) (answered k d r x))) d ds (answered k d r x).agenda → Back x (answered k d r x)
  quiet_back k d ds r p other next s kind h = let x : PathState C = with_agenda (d ∷ ds) p in record {
    duties = back s (side_of d) (is_gone (end_at (side_of d) (answered k d r x))) d ds (answered k d r x).agenda next h.duties;
    items = sheds_at s x (answered k d r x) (answered_sheds k d other r x) kind h.items;
  }

  -- a copy that arrives
  module _ (k : Codec C) (due : Due) (ds : List Duty) (p : PathState C) (next : next_event (with_agenda (duties.Step step_duties.Events ∷ ds) p) ≡ Some (happenings.Arrives due)) where
    abbrev start : PathState C
    start = with_agenda (duties.Step step_duties.Events ∷ ds) p

    abbrev coming : PathState C
    coming = record (at_tick due.tick start) { link = after_delivery due p.link }

    module _ (segment : HeardSegment) (heard : heard_in k due.to (arriving due p.link) start ≡ Some segment) where
      abbrev own : PathEnd
      own = end_at due.to coming

      abbrev words : HeardSegment
      words = options_heard own segment

      abbrev verdict : Judged
      verdict = judged_in (is_joined p.profile) due.to words own

      abbrev after : PathState C
      after = copy_heard due.to (Some segment) coming

      same_own : own ≡ end_at due.to start
      same_own = by due.to
        where
          by : (u : Side) → end_at u coming ≡ end_at u start
          by A = refl
          by B = refl

      -- the copy is taken, and the end is to hear what it says
      taken : (s : Side) (kind : Heard → Bool) → (v : Judged) → verdict ≡ v → list_any (hears_at s) (template_judged (is_joined p.profile) due.to (length (items_of (is_joined p.profile) due.to words)) v) ≡ true
          → list_any kind (end_at s after).treated.items ≡ true → SaysNext k s kind start
      taken s kind (judged.As (means.Taken pos n)) is ahead items = by_side (same_side due.to s) refl
        where
          by_side : (b : Bool) → same_side due.to s ≡ b → SaysNext k s kind start
          by_side false apart = absurd (apart_none s due.to (length (items_of (is_joined p.profile) due.to words)) apart ahead)
          by_side true own_is =
              let same : due.to ≡ s = one_side due.to s own_is in record {
                brings = record {
                  copy = record { others = ds; first = refl; due = due; next = next; segment = segment; heard = heard };
                  position = pos;
                  acknowledged = n;
                  taken = subst (λ e. judged_in (is_joined p.profile) due.to (options_heard e segment) e ≡ judged.As (means.Taken pos n)) same_own is;
                };
                to = same;
                says = subst (λ e. list_any kind (items_of (is_joined p.profile) due.to (options_heard e segment)) ≡ true) same_own
                    (ap (λ (e : PathEnd). list_any kind e.treated.items) (sym (own_end due.to (after_judged p.profile due.to coming.clock words verdict own) coming.a coming.b)) ∙ subst (λ u. list_any kind (end_at u after).treated.items ≡ true) (sym same) items);
              }
      taken s kind (judged.As (means.Accepts n)) is ahead items = absurd (accepts (is_joined p.profile) ahead)
        where
          accepts : (joined : Bool) → list_any (hears_at s) (template_by joined due.to (length (items_of (is_joined p.profile) due.to words)) (means.Accepts n)) ≡ true → ⊥
          accepts true ahead = true≢false (sym ahead)
          accepts false ahead = true≢false (sym ahead)
      taken s kind (judged.As means.Ignored) is ahead items = absurd (true≢false (sym ahead))
      taken s kind (judged.As means.Unwanted) is ahead items = absurd (true≢false (sym ahead))
      taken s kind (judged.As means.Opens) is ahead items = absurd (true≢false (sym ahead))
      taken s kind (judged.As means.RepeatedSyn) is ahead items = absurd (true≢false (sym ahead))
      taken s kind (judged.As means.Outside) is ahead items = absurd (true≢false (sym ahead))
      taken s kind (judged.As means.Kills) is ahead items = absurd (true≢false (sym ahead))
      taken s kind (judged.As means.Challenged) is ahead items = absurd (true≢false (sym ahead))
      taken s kind (judged.As means.Unacknowledging) is ahead items = absurd (true≢false (sym ahead))
      taken s kind (judged.As means.Ahead) is ahead items = absurd (true≢false (sym ahead))
      taken s kind judged.Asks is ahead items = absurd (true≢false (sym ahead))
      taken s kind judged.Lacks is ahead items = absurd (true≢false (sym ahead))
      taken s kind judged.Forged is ahead items = absurd (true≢false (sym ahead))

    arrived : (o : Option HeardSegment) → heard_in k due.to (arriving due p.link) start ≡ o → BackOrSaid k start (copy_heard due.to o coming)
    arrived None is s kind h = absurd (true≢false (sym h.duties))
    arrived (Some segment) is s kind h = inr (taken segment is s kind (verdict segment is) refl h.duties h.items)

  event_back : (k : Codec C) (ds : List Duty) (r : Reply) (p : PathState C) (o : Option Event) → next_event (with_agenda (duties.Step step_duties.Events ∷ ds) p) ≡ o
      → BackOrSaid k (with_agenda (duties.Step step_duties.Events ∷ ds) p) (happens_if k o r (with_agenda (duties.Step step_duties.Events ∷ ds) p))
  event_back k ds r p (Some (happenings.Arrives due)) next s kind h = arrived k due ds p next (heard_in k due.to (arriving due p.link) (with_agenda (duties.Step step_duties.Events ∷ ds) p)) refl s kind h
  event_back k ds r p None next s kind h = absurd (true≢false (sym h.duties))
  event_back k ds r p (Some (happenings.Joins tick)) next s kind h = absurd (both_ways _ (by (is_never r)) h.duties)
    where
      x : PathState C
      x = record (at_tick tick (with_agenda (duties.Step step_duties.Events ∷ ds) p)) { joined_at = None }

      by : (b : Bool) → list_any (hears_at s) (if b then goes_on A (never_joined r x.a) (leaves A) x else goes_on A (opened_by (keys_begun r) x.a) (emission A) x).agenda ≡ false
      by true = refl
      by false = refl
  event_back k ds r p (Some (happenings.Takes line)) next s kind h = absurd (both_ways _ (by line.action) h.duties)
    where
      x : PathState C
      x = record (at_tick line.tick (with_agenda (duties.Step step_duties.Events ∷ ds) p)) { lines = tail_of p.lines }

      dies : (c d : Bool) → list_any (hears_at s) ((if c then [] else duties.Ask (ask_duties.Leave A) ∷ []) ++ ((if d then [] else duties.Ask (ask_duties.Leave B) ∷ []) ++ rest_of_turn)) ≡ false
      dies true true = refl
      dies true false = refl
      dies false true = refl
      dies false false = refl

      by : (action : LineAction) → list_any (hears_at s) (after_line action x).agenda ≡ false
      by actions.Die = dies (is_dead x.a.tcp.state) (is_dead x.b.tcp.state)
      by (actions.Prio t backup) = refl
      by (actions.Announce t id) = refl
      by (actions.Withdraw t id) = refl
  event_back k ds r p (Some (happenings.Fires t tick)) next s kind h = absurd (both_ways _ (by (is_sixth (end_at t p).tcp)) h.duties)
    where
      by : (b : Bool) → list_any (hears_at s) (template_fired b t) ≡ false
      by true = refl
      by false = refl

  -- ---- a turn

  duty_back : (k : Codec C) (d : Duty) (ds : List Duty) (r : Reply) (p : PathState C) → let x : PathState C = with_agenda (d ∷ ds) p in BackOrSaid k x (answered k d r x)
  duty_back k (duties.Step step_duties.Events) ds r p = event_back k ds r p (next_event (with_agenda (duties.Step step_duties.Events ∷ ds) p)) refl
  duty_back k d ds r p = λ s kind h. inl (quiet_back k d ds r p refl (answered_follows k d ds r p) s kind h)

  pub keeps_lasts : Lasts Keeps
  keeps_lasts = record {
    agenda = λ ds p. same_ends p (with_agenda ds p) refl refl;
    chains = λ p q r x y. record { at = λ s. y.at s ∙ x.at s };
    passes = λ d p. passed_keeps d p;
  }

  hears_then : (s : Side) (p q r : PathState C) → HearsAsMuch s p q → Keeps q r → HearsAsMuch s p r
  hears_then s p q r (much.stays same) x = much.stays (x.at s ∙ same)
  hears_then s p q r (much.hears place is ahead) x = much.hears place (x.at s ∙ is) ahead
  hears_then s p q r (much.plain is) x = much.plain is
  hears_then s p q r (much.infinite is) x = much.infinite is

  stays_so : (k : Codec C) (p : PathState C) → HearsWhatWasSaid k p p
  stays_so k p = record { ahead = λ s kind h. inl h; heard = λ s. much.stays refl }

  takes_so : (k : Codec C) (r : Reply) (p : PathState C) → HearsWhatWasSaid k p (takes k r p)
  takes_so k r p = by p.agenda
    where
      by : (ds : List Duty) → HearsWhatWasSaid k (with_agenda ds p) (takes k r (with_agenda ds p))
      by [] = stays_so k (with_agenda [] p)
      by (d ∷ ds) =
          let x : PathState C = with_agenda (d ∷ ds) p in
          let q : PathState C = answered k d r x in record {
            ahead = λ s kind h. duty_back k d ds r p s kind (settled_back q.agenda q s kind h);
            heard = λ s. hears_then s x q (settled q.agenda q) (duty_hears k d ds r p s) (settled_lasts Keeps keeps_lasts q.agenda q);
          }

  next_so : (k : Codec C) (p : PathState C) → HearsWhatWasSaid k p (next_round p)
  next_so k p =
      let x : PathState C = record p { clock = p.until; until = p.until + 100 } in record {
        ahead = λ s kind h. absurd (true≢false (sym (settled_back start_of_turn x s kind h).duties));
        heard = λ s. hears_then s p (with_agenda start_of_turn x) (next_round p) (much.stays (at_end s)) (settled_lasts Keeps keeps_lasts start_of_turn (with_agenda start_of_turn x));
      }
    where
      at_end : (s : Side) → (end_at s (with_agenda start_of_turn (record p { clock = p.until; until = p.until + 100 }))).sending.heard ≡ (end_at s p).sending.heard
      at_end A = refl
      at_end B = refl

  -- ---- the world

  member_takes_so : (k : Codec C) (r : Reply) (m : Actor C) → PathsHearWhatWasSaid k m (member_takes k r m)
  member_takes_so k r (App a) = tt
  member_takes_so k r (Path p) = takes_so k r p

  member_next_so : (k : Codec C) (m : Actor C) → PathsHearWhatWasSaid k m (member_next m)
  member_next_so k (App a) = tt
  member_next_so k (Path p) = next_so k p

  member_stays_so : (k : Codec C) (m : Actor C) → PathsHearWhatWasSaid k m m
  member_stays_so k (App a) = tt
  member_stays_so k (Path p) = stays_so k p

  pub what_is_heard_was_said : (k : Codec C) → WhatIsHeardWasSaid k
  what_is_heard_was_said k = λ w turn. turn_each k (λ c d. PathsHearWhatWasSaid k c.member d.member) (λ c. member_stays_so k c.member) (λ ask books c. member_takes_so k (answer_to books ask) c.member)
      (λ stamp c over. member_next_so k c.member) turn w
