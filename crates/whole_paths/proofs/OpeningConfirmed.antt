-- Both keys confirm Multipath TCP to B, and the first DSS to A.
use Rattle.std.proofs.Common.{◌≡◌, refl, sym, subst, ap, ◌∙◌, ◌⊎◌, inl, inr, ⊎_elim, ℕ, ◌+◌, ◌==◌, Bool, true, false, true≢false, not, ◌||◌, if◌then◌else◌, Option, Some, None, List, [], ◌∷◌, ◌++◌, length, map}
use Rattle.std.specs.List.{list_any, flat_map}
use Rattle.std.proofs.Math.Bool.{or-true}
use Rattle.std.proofs.lemmas.List.Folds.{list_any-append}
use Rattle.std.proofs.lemmas.Option.{same_Some}
use Rattle.path_segments.specs.Heard.{HeardSegment}
use Rattle.path_segments.specs.Laws.{meant, meant_option}
use Rattle.sides.specs.declared.side.Side.{Side}
use Rattle.sides.specs.declared.side.Side.TheVariants.{A, B}
use Rattle.control_book.specs.Control.{Control}
use Rattle.control_book.specs.Replies.{keys_reply}
use Rattle.control_book.specs.declared.call.ControlReply.TheVariants as control_replies
use Rattle.fallback_state.specs.declared.fall.Event.TheVariants as events
use Rattle.subflow_tcp.specs.declared.verdicts.Meaning.TheVariants as means
use Rattle.actor_desk.specs.declared.ask.Ask.{Ask}
use Rattle.actor_desk.specs.declared.ask.Note.{Note}
use Rattle.actor_desk.specs.declared.ask.Reply.{Reply}
use Rattle.actor_desk.specs.declared.ask.Reply.TheVariants as replies
use Rattle.actor_desk.specs.Books.{StampedBooks, books_in}
use Rattle.actor_desk.specs.Desk.{control_of}
use Rattle.actor_desk.specs.Words.{is_nil, pick}
use Rattle.path_agenda.specs.Agenda.{start_of_turn, leaves, resets, copy_came}
use Rattle.path_agenda.specs.Items.{keys_heard}
use Rattle.path_agenda.specs.declared.duty.Duty.{Duty}
use Rattle.path_agenda.specs.declared.duty.Duty.TheVariants as duties
use Rattle.path_agenda.specs.declared.duty.AskDuty.TheVariants as ask_duties
use Rattle.path_agenda.specs.declared.duty.SilentDuty.TheVariants as silent_duties
use Rattle.path_agenda.specs.declared.duty.StepDuty.TheVariants as step_duties
use Rattle.path_agenda.specs.declared.heard.Heard.{Heard}
use Rattle.path_agenda.specs.declared.heard.Heard.TheVariants as says
use Rattle.path_agenda.specs.declared.keys.KeyPair.{KeyPair}
use Rattle.path_core.specs.Arrival.{after_judged, template_of}
use Rattle.path_core.specs.Breaking.{answered_break, reset_on}
use Rattle.path_core.specs.Choices.{is_side_a, item_at}
use Rattle.path_core.specs.Codec.{Codec}
use Rattle.path_core.specs.DssIn.{counts, is_clash, with_learned, with_skipped, with_data_fin}
use Rattle.path_core.specs.Deliver.{mapping_here, after_check, after_keep, after_pieces}
use Rattle.path_core.specs.DataFin.{after_pass_fin}
use Rattle.path_core.specs.Duties.{stands, ask_for, passed, answered}
use Rattle.path_core.specs.End.{PathEnd, died}
use Rattle.path_core.specs.Fallback.{breaks_by_ack, after_fell, fell_duties, with_plain_ack, after_infinite}
use Rattle.path_core.specs.MpCapable.{opened_ask, after_keys, keys_in, answered_opened}
use Rattle.path_core.specs.MpJoin.{is_joined}
use Rattle.path_core.specs.OptionsIn.{items_in, items_of, options_heard}
use Rattle.path_core.specs.Standing.{answered_ack_out}
use Rattle.path_core.specs.State.{PathState, end_at, goes_on, with_agenda}
use Rattle.path_core.specs.Steps.{asks_of, settled, takes, next_round}
use Rattle.path_core.specs.Timer.{with_timer_settled}
use Rattle.path_core.specs.Treating.{item_of, item_passed, item_stands, item_ask, answered_item}
use Rattle.path_core.specs.declared.judged.Judged.{Judged}
use Rattle.path_core.specs.declared.judged.Judged.TheVariants as judged
use Rattle.path_core.specs.declared.modes.Modes.{Modes}
use Rattle.world_laws.specs.declared.member.Member.TheVariants.{App, Path}
use Rattle.world_laws.specs.Actors.{Actor, member_asks, member_takes, member_next, is_over}
use Rattle.world_laws.specs.Outcomes.{was_told, note_tells}
use Rattle.world_laws.specs.Promises.{tells_other_key}
use Rattle.world_laws.specs.StampedBooks.{answer_to}
use Rattle.world_laws.specs.Worlds.{crew_after, note_of}
use Rattle.world_laws.specs.Writes.{EndView, writes, side_of}
use Rattle.world_laws.proofs.Falls.ClearStays.{Clears, answered_clear, passed_clear}
use Rattle.world_laws.proofs.Falls.FailedChecks.{forgets_so, infinite_came_so, fail_answered_so}
use Rattle.world_laws.proofs.Writes.Paths.{writes_no_more}
use Rattle.world_laws.proofs.Writes.Steps.{unwritten}
use Rattle.whole_paths.specs.AgendaSteps.{is_gone}
use Rattle.whole_paths.specs.Brought.{Brings, IsToReset, comes_before_keeping}
use Rattle.whole_paths.specs.DataAcksHeard.{IsToHear}
use Rattle.whole_paths.specs.OpeningConfirmed.{SignsAreSaid, IsBehind, Confirms, IsConfirmed, ConfirmedOn, Confirming, PathsConfirm, EachConfirmationCounts}
use Rattle.whole_paths.specs.OpeningConfirmed.{Confirms as sign}
use Rattle.whole_paths.specs.OpeningConfirmed.{IsConfirmed as there}
use Rattle.whole_paths.specs.OpeningConfirmed.{ConfirmedOn as stay}
use Rattle.whole_paths.proofs.Agendas.{own_end, gone_end}
use Rattle.whole_paths.proofs.Bringing.{coming_by, comes_so, first_so}
use Rattle.whole_paths.proofs.Duties.{passed_steps}
use Rattle.whole_paths.proofs.Hears.{Hears, hear_more, hear_passes, hear_answers, copy_hears}
use Rattle.whole_paths.proofs.Hears.{Hears as hears}
use Rattle.whole_paths.proofs.Pieces.{own_only}
use Rattle.whole_paths.proofs.Staying.{reset_stands}
use Rattle.whole_paths.proofs.Treating.{Leads, Before, before_answers}
use Rattle.whole_paths.proofs.Treating.Leads.{as_they_are, one_more}
use Rattle.whole_paths.proofs.Treating.{Before as staged}
use Rattle.whole_paths.proofs.Turns.{turn_by}
use Rattle.whole_paths.proofs.Waiting.{gone_stays, path_far}

-- ---- keys

told_so : (notes : List Note) (n : Note) → tells_other_key n.reply ≡ true → was_told tells_other_key (notes ++ n ∷ []) ≡ true
told_so notes n is =
    list_any-append (note_tells tells_other_key) notes (n ∷ []) ∙ ap (λ b. list_any (note_tells tells_other_key) notes || (b || false)) is ∙ or-true (list_any (note_tells tells_other_key) notes)

-- where the book has the key for its own the end may send a DSS
keys_so : (keys : KeyPair) (r : Reply) (c : Control) (m : Modes) → r ≡ replies.Control (keys_reply keys.own c) → ((keys_in r (Some keys) m).clear ≡ true) ⊎ (tells_other_key r ≡ true)
keys_so keys r c m is = subst (λ r. ((keys_in r (Some keys) m).clear ≡ true) ⊎ (tells_other_key r ≡ true)) (sym is) (elim (keys.own == c.keys.own) as
    (λ b. let r : Reply = replies.Control (if b then control_replies.Noted else control_replies.KeysDiffer c.keys.own) in ((keys_in r (Some keys) m).clear ≡ true) ⊎ (tells_other_key r ≡ true))
    [ true ↦ inl refl | false ↦ inr refl ])

-- ---- a segment

pub signs_are_said : SignsAreSaid
signs_are_said = record {
  dss = λ x e joined s next mapping others is mapped.
      ap (λ b. item_at 0 (flat_map (items_in joined s (meant x).window) (if b then [] else map meant_option x.options))) mapped ∙ ap (λ os. item_at 0 (flat_map (items_in joined s (meant x).window) (map meant_option os))) is;
  keys = λ x e sender receiver flag_a flag_c others is mapped.
      ap (λ b. item_at 0 (flat_map (items_in false B (meant x).window) (if b then [] else map meant_option x.options))) mapped ∙ ap (λ os. item_at 0 (flat_map (items_in false B (meant x).window) (map meant_option os))) is;
  first_piece = λ x e sender receiver len checksum flag_a flag_c others is mapped.
      ap (λ b. item_at 0 (flat_map (items_in false B (meant x).window) (if b then [] else map meant_option x.options))) mapped ∙ ap (λ os. item_at 0 (flat_map (items_in false B (meant x).window) (map meant_option os))) is;
}

-- ---- what is to be heard

hear_side : (s : Side) (item : Heard) (items : List Heard) (d : Duty) (ds : List Duty) → IsToHear s item items (d ∷ ds) → side_of d ≡ s
hear_side s item items (duties.Step (step_duties.Heard t index)) ds hear = hear.0
hear_side s item items d ds hear = hear.0

hear_before : (s : Side) (item : Heard) (items : List Heard) (d : Duty) (ds : List Duty) → IsToHear s item items (d ∷ ds) → comes_before_keeping d ≡ true
hear_before s item items (duties.Step (step_duties.Heard t index)) ds hear = refl
hear_before s item items d ds hear = hear.1.0

-- the DSS is never what stands first
dss_behind : (s : Side) (e : PathEnd) (d : Duty) (ds : List Duty) → ((index : ℕ) → d ≡ duties.Step (step_duties.Heard s index) → item_at index e.treated.items ≡ Some says.Dss → ⊥) → IsToHear s says.Dss e.treated.items (d ∷ ds)
    → IsBehind s says.Dss e.treated.items (d ∷ ds)
dss_behind s e (duties.Step (step_duties.Heard t index)) ds never hear =
    (hear.0, (refl, ⊎_elim (λ at. absurd (never index (ap (λ u. duties.Step (step_duties.Heard u index)) hear.0) at)) (λ rest. rest) hear.1))
dss_behind s e d ds never hear = hear

-- ---- an end behind which these duties stand

data Now (s : Side) (ds : List Duty) (e : PathEnd) : Type 0 where
  at_clear : e.modes.clear ≡ true → Now s ds e
  to_dss : s ≡ A → IsToHear s says.Dss e.treated.items ds → Now s ds e
  to_keys : (own other : ℕ) → e.treated.keys_told ≡ false → IsToHear s (says.Keys own other) e.treated.items ds → Now s ds e
  at_dead : is_gone e ≡ true → Now s ds e
  resets_next : IsToReset s ds → Now s ds e
  fallen : e.modes.identity ≡ true → Now s ds e

-- by a DSS
dss_heard : (s : Side) (index : ℕ) (ds : List Duty) (e : PathEnd) → s ≡ A → item_at index e.treated.items ≡ Some says.Dss → Now s ds (item_passed s (item_of index e) e)
dss_heard s index ds e own at = (elim e.modes.identity as (λ b. e.modes.identity ≡ b → Now s ds (item_passed s (if b then None else item_at index e.treated.items) e)) [
  | true ↦ λ plain. fallen plain
  | false ↦ λ maps. subst (λ o. Now s ds (item_passed s o e)) (sym at) (at_clear (ap (λ t. e.modes.clear || is_side_a t) own ∙ or-true e.modes.clear))
]) refl

-- keys that weren't told stand
keys_stand : (own other : ℕ) (e : PathEnd) → e.treated.keys_told ≡ false → item_stands (Some (says.Keys own other)) e ≡ true
keys_stand own other e fresh = ap not fresh

keys_quiet : (index own other : ℕ) (e : PathEnd) → e.treated.keys_told ≡ false → item_at index e.treated.items ≡ Some (says.Keys own other) → item_stands (item_of index e) e ≡ false → e.modes.identity ≡ true
keys_quiet index own other e fresh at quiet = (elim e.modes.identity as
    (λ b. e.modes.identity ≡ b → item_stands (if b then None else item_at index e.treated.items) e ≡ false → e.modes.identity ≡ true) [
      | true ↦ λ plain quiet. plain
      | false ↦ λ maps quiet. absurd (true≢false (sym (keys_stand own other e fresh) ∙ subst (λ o. item_stands o e ≡ false) at quiet))
    ]) refl quiet

-- a DSS that stands first is heard in silence
dss_quiet : (index : ℕ) (e : PathEnd) → item_at index e.treated.items ≡ Some says.Dss → item_stands (item_of index e) e ≡ true → ⊥
dss_quiet index e at standing = (elim e.modes.identity as (λ b. item_stands (if b then None else item_at index e.treated.items) e ≡ true → ⊥)
    [ true ↦ λ standing. true≢false (sym standing) | false ↦ λ standing. true≢false (sym (subst (λ o. item_stands o e ≡ true) at standing)) ]) standing

item_told : (s : Side) (o : Option Heard) (e : PathEnd) → (item_passed s o e).treated.keys_told ≡ e.treated.keys_told
item_told s None e = refl
item_told s (Some (says.Mapping fin)) e = elim (counts e) as (λ b. (if b then with_learned e else with_skipped e).treated.keys_told ≡ e.treated.keys_told) [ true ↦ refl | false ↦ refl ]
item_told s (Some (says.DataFin place)) e = elim (counts e) as (λ b. (if b then with_data_fin place e else e).treated.keys_told ≡ e.treated.keys_told) [ true ↦ refl | false ↦ refl ]
item_told s (Some _) e = refl

-- what becomes of the keys: they are told and count, or the book refuses them; or nothing, or the end is dead
data KeysGo (r : Reply) (e f : PathEnd) : Type 0 where
  sure_now : f.modes.clear ≡ true → KeysGo r e f
  denies : tells_other_key r ≡ true → KeysGo r e f
  as_before : f.treated.keys_told ≡ e.treated.keys_told → KeysGo r e f
  ends_now : is_gone f ≡ true → KeysGo r e f

here_keys : (r : Reply) (s : Side) (e f a b : PathEnd) → KeysGo r e f → KeysGo r e (pick s (pick s f a) (pick s b f))
here_keys r s e f a b x = subst (λ g. KeysGo r e g) (sym (own_end s f a b)) x

told_keys : (keys : KeyPair) (r : Reply) (c : Control) (e : PathEnd) → r ≡ replies.Control (keys_reply keys.own c) → KeysGo r e (after_keys r (Some keys) e)
told_keys keys r c e is = ⊎_elim (λ clear. sure_now clear) (λ differ. denies differ) (keys_so keys r c e.modes is)

module _ {C : Type 0} where
  -- ---- a duty that is passed

  clear_at : (s : Side) (p q : PathState C) → Clears p q → (end_at s p).modes.clear ≡ true → (end_at s q).modes.clear ≡ true
  clear_at A p q x is = x.a.0 is
  clear_at B p q x is = x.b.0 is

  fallen_at : (s : Side) (p q : PathState C) → Clears p q → (end_at s p).modes.identity ≡ true → (end_at s q).modes.identity ≡ true
  fallen_at A p q x is = x.a.1 is
  fallen_at B p q x is = x.b.1 is

  passed_told : (d : Duty) (p : PathState C) → (end_at (side_of d) (passed d p)).treated.keys_told ≡ (end_at (side_of d) p).treated.keys_told
  passed_told (duties.Ask (ask_duties.CheckFailed s)) p =
      let e = end_at s p in
      ap (λ (f : PathEnd). f.treated.keys_told) (own_end s (after_check p.profile e) p.a p.b)
      ∙ forgets_so (λ f. f.treated.keys_told ≡ e.treated.keys_told) p.profile.spelling.checksums (mapping_here e) e (λ recv forgotten. refl)
  passed_told (duties.Step (step_duties.Heard s index)) p =
      let e = end_at s p in ap (λ (f : PathEnd). f.treated.keys_told) (own_end s (item_passed s (item_of index e) e) p.a p.b) ∙ item_told s (item_of index e) e
  passed_told (duties.Step (step_duties.PlainAck s)) p = ap (λ (f : PathEnd). f.treated.keys_told) (own_end s (with_plain_ack (end_at s p)) p.a p.b)
  passed_told (duties.Step (step_duties.Unmapped s)) p = ap (λ (f : PathEnd). f.treated.keys_told) (own_end s (after_pieces (end_at s p)) p.a p.b)
  passed_told (duties.Silent (silent_duties.Timer s)) p = ap (λ (f : PathEnd). f.treated.keys_told) (own_end s (with_timer_settled p.clock (end_at s p)) p.a p.b)
  passed_told (duties.Silent (silent_duties.Keep s)) p = ap (λ (f : PathEnd). f.treated.keys_told) (own_end s (after_keep s (end_at s p)) p.a p.b)
  passed_told (duties.Silent (silent_duties.PassFin s)) p = ap (λ (f : PathEnd). f.treated.keys_told) (own_end s (after_pass_fin (end_at s p)) p.a p.b)
  passed_told d p = refl

  pass_now : (s : Side) (d : Duty) (ds : List Duty) (p : PathState C) → stands d p ≡ false → Now s (d ∷ ds) (end_at s p) → Now s ds (end_at s (passed d p))
  pass_now s d ds p quiet h = by h
    where
      q : PathState C
      q = passed d p

      dss_now : s ≡ A → Hears s says.Dss (end_at s p) d (end_at s q) ds → Now s ds (end_at s q)
      dss_now own (hears.now index is at) = subst (λ d. Now s ds (end_at s (passed d p))) (sym is)
          (let e = end_at s p in subst (λ f. Now s ds f) (sym (own_end s (item_passed s (item_of index e) e) p.a p.b)) (dss_heard s index ds e own at))
      dss_now own (hears.later hear) = to_dss own hear
      dss_now own (hears.resets_then is) = resets_next is
      dss_now own (hears.dies is) = at_dead is

      keys_now : (own other : ℕ) → (end_at s p).treated.keys_told ≡ false → (end_at s q).treated.keys_told ≡ (end_at s p).treated.keys_told
          → Hears s (says.Keys own other) (end_at s p) d (end_at s q) ds → Now s ds (end_at s q)
      keys_now own other none same (hears.now index is at) =
          fallen (fallen_at s p q (passed_clear d p) (keys_quiet index own other (end_at s p) none at (subst (λ d. stands d p ≡ false) is quiet)))
      keys_now own other none same (hears.later hear) = to_keys own other (same ∙ none) hear
      keys_now own other none same (hears.resets_then is) = resets_next is
      keys_now own other none same (hears.dies is) = at_dead is

      by : Now s (d ∷ ds) (end_at s p) → Now s ds (end_at s q)
      by (at_clear is) = at_clear (clear_at s p q (passed_clear d p) is)
      by (to_dss own hear) = dss_now own (hear_passes s says.Dss d ds p hear)
      by (to_keys own other none hear) = keys_now own other none
          (subst (λ t. (end_at t q).treated.keys_told ≡ (end_at t p).treated.keys_told) (hear_side s (says.Keys own other) (end_at s p).treated.items d ds hear) (passed_told d p))
          (hear_passes s (says.Keys own other) d ds p hear)
      by (at_dead is) = at_dead (gone_stays (end_at s p) (end_at s q) (path_far p q (passed_steps d p) s) is)
      by (resets_next is) = absurd (true≢false (sym (reset_stands s (d ∷ ds) p is) ∙ quiet))
      by (fallen is) = fallen (fallen_at s p q (passed_clear d p) is)

  -- where the first duty stands, or none is left
  now_so : (s : Side) (steps : List Note) (ds : List Duty) (p : PathState C) → ((index : ℕ) (d : Duty) (es : List Duty) → ds ≡ d ∷ es → d ≡ duties.Step (step_duties.Heard s index) → item_at index (end_at s p).treated.items ≡ Some says.Dss → ⊥)
      → Now s ds (end_at s p) → ConfirmedOn s steps (with_agenda ds p)
  now_so s steps ds p never (at_clear is) = stay.on (there.clear is)
  now_so s steps ds p never (to_dss own hear) = stay.on (there.by_dss own (by ds never hear))
    where
      by : (ds : List Duty) → ((index : ℕ) (d : Duty) (es : List Duty) → ds ≡ d ∷ es → d ≡ duties.Step (step_duties.Heard s index) → item_at index (end_at s p).treated.items ≡ Some says.Dss → ⊥)
          → IsToHear s says.Dss (end_at s p).treated.items ds → IsBehind s says.Dss (end_at s p).treated.items ds
      by [] never hear = hear
      by (d ∷ ds) never hear = dss_behind s (end_at s p) d ds (λ index is at. never index d ds refl is at) hear
  now_so s steps ds p never (to_keys own other none hear) = stay.on (there.by_keys own other none hear)
  now_so s steps ds p never (at_dead is) = stay.gone is
  now_so s steps ds p never (resets_next is) = stay.reset is
  now_so s steps ds p never (fallen is) = stay.plain is

  settled_so : (s : Side) (steps : List Note) (ds : List Duty) (p : PathState C) → Now s ds (end_at s p) → ConfirmedOn s steps (settled ds p)
  settled_so s steps [] p h = now_so s steps [] p (λ index d es is first at. cc) h
  settled_so s steps (d ∷ ds) p h = by (stands d p) refl (λ quiet. settled_so s steps ds (passed d p) (pass_now s d ds p quiet h))
    where
      by : (b : Bool) → stands d p ≡ b → (stands d p ≡ false → ConfirmedOn s steps (settled ds (passed d p))) → ConfirmedOn s steps (if b then with_agenda (d ∷ ds) p else settled ds (passed d p))
      by true is rest = now_so s steps (d ∷ ds) p
          (λ index e es same first at. dss_quiet index (end_at s p) at (subst (λ e. stands e p ≡ true) first (subst (λ e. stands e p ≡ true) (first_so d e ds es same) is))) h
      by false is rest = rest is

  -- ---- a duty that is answered, as the books answer

  break_keys : (k : Codec C) (s : Side) (reason : ℕ) (r : Reply) (p : PathState C) → KeysGo r (end_at s p) (end_at s (answered_break k s reason r p))
  break_keys k s reason r p = elim (end_at s p).treated.asked as
      (λ b. KeysGo r (end_at s p) (end_at s (if b then answered_ack_out s r (resets s reason) p else reset_on k s (Some reason) (leaves s) p)))
      [ true ↦ here_keys r s (end_at s p) _ p.a p.b (as_before refl) | false ↦ ends_now (gone_end s (died (end_at s p)) p.a p.b refl) ]

  module _ (k : Codec C) (six : StampedBooks) (s : Side) (r : Reply) (p : PathState C) where
    abbrev e : PathEnd
    e = end_at s p

    abbrev Then : PathState C → Type 0
    Then q = KeysGo r e (end_at s q)

    opened_keys : (o : Option KeyPair) → r ≡ answer_to six (opened_ask s o p) → Then (answered_opened s o r p)
    opened_keys None is = here_keys r s e (after_fell events.PlainHandshake r e) p.a p.b (as_before refl)
    opened_keys (Some keys) is = here_keys r s e (after_keys r (Some keys) e) p.a p.b (told_keys keys r (control_of s (books_in six)) e is)

    item_keys : (o : Option Heard) → r ≡ answer_to six (item_ask k s o p) → Then (answered_item k s o r p)
    item_keys None is = as_before refl
    item_keys (Some (says.DataAck next window)) is = here_keys r s e _ p.a p.b (as_before refl)
    item_keys (Some (says.Mapping fin)) is = elim (is_clash e) as
        (λ b. Then (if b then answered_break k s 1 r p else goes_on s (with_learned (after_fell events.MappingHeard r (end_at s p))) (fell_duties s r p) p))
        [ true ↦ break_keys k s 1 r p | false ↦ here_keys r s e (with_learned (after_fell events.MappingHeard r e)) p.a p.b (as_before refl) ]
    item_keys (Some (says.DataFin place)) is = here_keys r s e _ p.a p.b (as_before refl)
    item_keys (Some (says.InfiniteMapping place position)) is =
        here_keys r s e (after_infinite place position r e) p.a p.b (as_before (infinite_came_so (λ f. f.treated.keys_told ≡ e.treated.keys_told) place position r e (λ other. refl)))
    item_keys (Some (says.Keys own other)) is =
        let keys : KeyPair = record { own = own; peer = other } in here_keys r s e (after_keys r (Some keys) e) p.a p.b (told_keys keys r (control_of s (books_in six)) e is)
    item_keys (Some (says.Notice notice)) is = here_keys r s e _ p.a p.b (as_before refl)
    item_keys (Some says.Fail) is = fail_answered_so Then s r p (here_keys r s e _ p.a p.b (as_before refl)) (here_keys r s e _ p.a p.b (as_before refl))
    item_keys (Some _) is = as_before refl

  keys_go : (k : Codec C) (six : StampedBooks) (d : Duty) (r : Reply) (p : PathState C) → comes_before_keeping d ≡ true → r ≡ answer_to six (ask_for k d p)
      → KeysGo r (end_at (side_of d) p) (end_at (side_of d) (answered k d r p))
  keys_go k six (duties.Ask (ask_duties.Opened s)) r p before is = opened_keys k six s r p (keys_heard (end_at s p).treated.items) is
  keys_go k six (duties.Step (step_duties.Heard s index)) r p before is = item_keys k six s r p (item_of index (end_at s p)) is
  keys_go k six (duties.Step (step_duties.PlainAck s)) r p before is = elim (breaks_by_ack p.profile (end_at s p)) as
      (λ b. KeysGo r (end_at s p) (end_at s (if b then answered_break k s 6 r p else goes_on s (with_plain_ack (after_fell events.PlainAck r (end_at s p))) (fell_duties s r p) p)))
      [ true ↦ break_keys k s 6 r p | false ↦ here_keys r s (end_at s p) (with_plain_ack (after_fell events.PlainAck r (end_at s p))) p.a p.b (as_before refl) ]
  keys_go k six (duties.Step (step_duties.Unmapped s)) r p before is = absurd (true≢false (sym before))
  keys_go k six (duties.Ask (ask_duties.LeaveNoted s)) r p before is = absurd (true≢false (sym before))
  keys_go k six (duties.Ask ask_duties.JoinAgain) r p before is = absurd (true≢false (sym before))
  keys_go k six (duties.Step step_duties.Events) r p before is = absurd (true≢false (sym before))
  keys_go k six (duties.Send d) r p before is = absurd (true≢false (sym before))
  keys_go k six (duties.Silent d) r p before is = absurd (true≢false (sym before))
  keys_go k six d r p before is = as_before (unwritten (writes d).own.keys_told (end_at (side_of d) p).treated.keys_told (end_at (side_of d) (answered k d r p)).treated.keys_told refl
      (ap (λ (v : EndView). v.keys_told) (own_only (side_of d) (writes d) p (answered k d r p) (writes_no_more k d r p)).same))

  -- the keys are heard, unless the side fell back
  keys_heard_now : (k : Codec C) (six : StampedBooks) (s : Side) (index : ℕ) (ds : List Duty) (r : Reply) (p : PathState C) (own other : ℕ) → item_at index (end_at s p).treated.items ≡ Some (says.Keys own other)
      → let x : PathState C = with_agenda (duties.Step (step_duties.Heard s index) ∷ ds) p in r ≡ answer_to six (item_ask k s (item_of index (end_at s p)) x)
      → let q : PathState C = answered_item k s (item_of index (end_at s p)) r x in Now s q.agenda (end_at s q) ⊎ (tells_other_key r ≡ true)
  keys_heard_now k six s index ds r p own other at is = (elim e.modes.identity as
      (λ b. e.modes.identity ≡ b → let o : Option Heard = if b then None else item_at index e.treated.items in
      r ≡ answer_to six (item_ask k s o x) → let q : PathState C = answered_item k s o r x in Now s q.agenda (end_at s q) ⊎ (tells_other_key r ≡ true)) [
        | true ↦ λ plain is. inl (fallen plain)
        | false ↦ λ maps is. subst (λ o. r ≡ answer_to six (item_ask k s o x) → let q : PathState C = answered_item k s o r x in Now s q.agenda (end_at s q) ⊎ (tells_other_key r ≡ true)) (sym at) taken is
      ]) refl is
    where
      e : PathEnd
      e = end_at s p

      x : PathState C
      x = with_agenda (duties.Step (step_duties.Heard s index) ∷ ds) p

      keys : KeyPair
      keys = record { own = own; peer = other }

      taken : r ≡ replies.Control (keys_reply own (control_of s (books_in six)))
          → let q : PathState C = answered_item k s (Some (says.Keys own other)) r x in Now s q.agenda (end_at s q) ⊎ (tells_other_key r ≡ true)
      taken is = ⊎_elim
          (λ clear. inl (at_clear (subst (λ (f : PathEnd). f.modes.clear ≡ true) (sym (own_end s (after_keys r (Some keys) e) p.a p.b)) clear)))
          (λ differ. inr differ)
          (keys_so keys r (control_of s (books_in six)) e.modes is)

  module _ (k : Codec C) (six : StampedBooks) (s : Side) (d : Duty) (ds : List Duty) (r : Reply) (p : PathState C) (is : r ≡ answer_to six (ask_for k d (with_agenda (d ∷ ds) p))) where
    abbrev x : PathState C
    x = with_agenda (d ∷ ds) p

    abbrev q : PathState C
    q = answered k d r x

    -- or the book refuses the keys
    abbrev End : Type 0
    End = Now s q.agenda (end_at s q) ⊎ (tells_other_key r ≡ true)

    behind_now : s ≡ A → IsToHear s says.Dss (end_at s p).treated.items ds → Before s ds (end_at s p) (end_at s q) q.agenda → Now s q.agenda (end_at s q)
    behind_now own hear (staged.on same leads) = to_dss own (subst (λ items. IsToHear s says.Dss items q.agenda) (sym same.items) (by q.agenda leads))
      where
        by : (next : List Duty) → Leads s ds next → IsToHear s says.Dss (end_at s p).treated.items next
        by next as_they_are = hear
        by next (one_more e own before heard) = hear_more s says.Dss (end_at s p).treated.items e ds own before heard hear
    behind_now own hear (staged.resets_then reset) = resets_next reset
    behind_now own hear (staged.dies gone) = at_dead gone

    dss_end : s ≡ A → IsBehind s says.Dss (end_at s p).treated.items (d ∷ ds) → End
    dss_end own behind = inl (behind_now own behind.1.1 (subst (λ u. Before u ds (end_at u p) (end_at u q) q.agenda) behind.0 (before_answers k d ds r p behind.1.0)))

    keys_end : (own other : ℕ) → (end_at s p).treated.keys_told ≡ false → IsToHear s (says.Keys own other) (end_at s p).treated.items (d ∷ ds) → End
    keys_end own other none hear = by (hear_answers k s (says.Keys own other) d ds r p hear)
      where
        go : KeysGo r (end_at s p) (end_at s q)
        go = subst (λ t. KeysGo r (end_at t p) (end_at t q)) (hear_side s (says.Keys own other) (end_at s p).treated.items d ds hear)
            (keys_go k six d r x (hear_before s (says.Keys own other) (end_at s p).treated.items d ds hear) is)

        on : IsToHear s (says.Keys own other) (end_at s q).treated.items q.agenda → KeysGo r (end_at s p) (end_at s q) → End
        on rest (sure_now clear) = inl (at_clear clear)
        on rest (denies differ) = inr differ
        on rest (ends_now gone) = inl (at_dead gone)
        on rest (as_before same) = inl (to_keys own other (same ∙ none) rest)

        by : Hears s (says.Keys own other) (end_at s p) d (end_at s q) q.agenda → End
        by (hears.now index first at) =
            subst (λ d. r ≡ answer_to six (ask_for k d (with_agenda (d ∷ ds) p)) → let q : PathState C = answered k d r (with_agenda (d ∷ ds) p) in Now s q.agenda (end_at s q) ⊎ (tells_other_key r ≡ true)) (sym first)
            (keys_heard_now k six s index ds r p own other at) is
        by (hears.later rest) = on rest go
        by (hears.resets_then reset) = inl (resets_next reset)
        by (hears.dies gone) = inl (at_dead gone)

    there_now : IsConfirmed s x → End
    there_now (there.clear clear) = inl (at_clear (clear_at s x q (answered_clear k d r x) clear))
    there_now (there.by_dss own behind) = dss_end own behind
    there_now (there.by_keys own other none hear) = keys_end own other none hear

  -- ---- a copy comes

  module _ (k : Codec C) (ds : List Duty) (r : Reply) (p : PathState C) (b : Brings k (with_agenda (duties.Step step_duties.Events ∷ ds) p)) (index : ℕ) (item : Heard) where
    abbrev to : Side
    to = b.copy.due.to

    abbrev own : PathEnd
    own = end_at to p

    abbrev said : HeardSegment
    said = options_heard own b.copy.segment

    abbrev items : List Heard
    items = items_of (is_joined p.profile) to said

    tells_now : Confirms to item → item_at index items ≡ Some item
        → let q = answered k (duties.Step step_duties.Events) r (with_agenda (duties.Step step_duties.Events ∷ ds) p) in Now to q.agenda (end_at to q)
    tells_now confirms at = comes_so (λ q. Now to q.agenda (end_at to q)) k ds r p b.copy
        (subst (λ (verdict : Judged). Now to (template_of (is_joined p.profile) to items verdict)
        (pick to (pick to (after_judged p.profile to tick said verdict own) p.a) (pick to p.b (after_judged p.profile to tick said verdict own)))) (sym b.taken)
        (subst (λ f. Now to (copy_came to (length items)) f) (sym (own_end to taken p.a p.b)) (by item confirms at)))
      where
        tick : ℕ
        tick = (coming_by ds p b.copy).clock

        taken : PathEnd
        taken = after_judged p.profile to tick said (judged.As (means.Taken b.position b.acknowledged)) own

        by : (item : Heard) → Confirms to item → item_at index items ≡ Some item → Now to (copy_came to (length items)) taken
        by item (sign.dss first) at = to_dss first (copy_hears to says.Dss items index at)
        by item (sign.keys one other) at = to_keys one other refl (copy_hears to (says.Keys one other) items index at)

  -- ---- a turn

  module _ (k : Codec C) (six : StampedBooks) (steps : List Note) (ds : List Duty) (r : Reply) (p : PathState C) where
    abbrev behind : Duty → PathState C
    behind d = with_agenda (d ∷ ds) p

    abbrev Told : (d : Duty) → Brings k (behind d) → Type 0
    Told d b = (index : ℕ) (item : Heard) → Confirms b.copy.due.to item → item_at index (items_of (is_joined p.profile) b.copy.due.to (options_heard (end_at b.copy.due.to p) b.copy.segment)) ≡ Some item
        → (takes k r (behind d) ≡ behind d) ⊎ ConfirmedOn b.copy.due.to steps (takes k r (behind d))

    tells : (b : Brings k (behind (duties.Step step_duties.Events))) → Told (duties.Step step_duties.Events) b
    tells b index item confirms at =
        let d : Duty = duties.Step step_duties.Events in let q : PathState C = answered k d r (behind d) in
        inr (settled_so b.copy.due.to steps q.agenda q (tells_now k ds r p b index item confirms at))

    answer_confirms : (d : Duty) → r ≡ answer_to six (ask_for k d (behind d)) → (tells_other_key r ≡ true → was_told tells_other_key steps ≡ true) → Confirming k steps (behind d) (takes k r (behind d))
    answer_confirms d is refuses = record {
      tells = λ b. subst (λ d. (b : Brings k (behind d)) → Told d b) (sym (first_so d (duties.Step step_duties.Events) ds b.copy.others b.copy.first)) tells b;
      stays = λ s h. (let q : PathState C = answered k d r (behind d) in
          ⊎_elim (λ done. settled_so s steps q.agenda q done) (λ differ. stay.refused (refuses differ)) (there_now k six s d ds r p is h));
    }

  path_stays : (k : Codec C) (steps : List Note) (p : PathState C) → Confirming k steps p p
  path_stays k steps p = record { tells = λ b index item confirms at. inl refl; stays = λ s h. stay.on h }

  takes_confirms : (k : Codec C) (six : StampedBooks) (steps : List Note) (ask : Ask) (p : PathState C) → asks_of k p ≡ Some ask → (tells_other_key (answer_to six ask) ≡ true → was_told tells_other_key steps ≡ true)
      → Confirming k steps p (takes k (answer_to six ask) p)
  takes_confirms k six steps ask p asks refuses = by p.agenda asks
    where
      by : (ds : List Duty) → let x : PathState C = with_agenda ds p in asks_of k x ≡ Some ask → Confirming k steps x (takes k (answer_to six ask) x)
      by [] asks = path_stays k steps (with_agenda [] p)
      by (d ∷ ds) asks = answer_confirms k six steps ds (answer_to six ask) p d (ap (answer_to six) (sym (same_Some (ask_for k d (with_agenda (d ∷ ds) p)) ask asks))) refuses

  next_confirms : (k : Codec C) (steps : List Note) (p : PathState C) → is_nil p.agenda ≡ true → Confirming k steps p (next_round p)
  next_confirms k steps p over = record {
    tells = λ b index item confirms at. absurd (true≢false (sym over ∙ ap is_nil b.copy.first));
    stays = λ s h. settled_so s steps start_of_turn (with_agenda start_of_turn (record p { clock = p.until; until = p.until + 100 })) (by s h);
  }
    where
      idle : (s : Side) (item : Heard) (xs : List Heard) (ds : List Duty) → is_nil ds ≡ true → IsToHear s item xs ds → ⊥
      idle s item xs [] over hear = hear
      idle s item xs (d ∷ ds) over hear = true≢false (sym over)

      none : (s : Side) (item : Heard) (xs : List Heard) (ds : List Duty) → is_nil ds ≡ true → IsBehind s item xs ds → ⊥
      none s item xs [] over behind = behind
      none s item xs (d ∷ ds) over behind = true≢false (sym over)

      by : (s : Side) → IsConfirmed s p → Now s start_of_turn (end_at s p)
      by s (there.clear clear) = at_clear clear
      by s (there.by_dss first behind) = absurd (none s says.Dss (end_at s p).treated.items p.agenda over behind)
      by s (there.by_keys one other fresh hear) = absurd (idle s (says.Keys one other) (end_at s p).treated.items p.agenda over hear)

  -- ---- the world

  member_confirms : (k : Codec C) (six : StampedBooks) (steps : List Note) (ask : Ask) (m : Actor C) → member_asks k m ≡ Some ask
      → (tells_other_key (answer_to six ask) ≡ true → was_told tells_other_key steps ≡ true) → PathsConfirm k steps m (member_takes k (answer_to six ask) m)
  member_confirms k six steps ask (App a) asks refuses = tt
  member_confirms k six steps ask (Path p) asks refuses = takes_confirms k six steps ask p asks refuses

  member_begins : (k : Codec C) (steps : List Note) (m : Actor C) → is_over m ≡ true → PathsConfirm k steps m (member_next m)
  member_begins k steps (App a) over = tt
  member_begins k steps (Path p) over = next_confirms k steps p over

  member_stays : (k : Codec C) (steps : List Note) (m : Actor C) → PathsConfirm k steps m m
  member_stays k steps (App a) = tt
  member_stays k steps (Path p) = path_stays k steps p

  pub each_confirmation_counts : (k : Codec C) → EachConfirmationCounts k
  each_confirmation_counts k = λ w turn. turn_by k (λ six c d. PathsConfirm k d.list c.member d.member) (λ six c. member_stays k c.list c.member)
      (λ six ask c asks. member_confirms k six (crew_after k ask six c).list ask c.member asks (λ differ. told_so c.list (note_of six c.pass ask) differ))
      (λ six stamp c over. member_begins k c.list c.member over) turn w
