-- What a copy says is heard in its turn, or the end is reset or dead before.
use Rattle.std.proofs.Common.{◌≡◌, refl, sym, subst, ap, ◌∙◌, inl, inr, ⊎_elim, ℕ, zero, suc, ◌+◌, true, false, true≢false, if◌then◌else◌, Option, Some, None, List, [], ◌∷◌, ◌++◌, length}
use Rattle.sides.specs.declared.side.Side.{Side}
use Rattle.actor_desk.specs.declared.ask.Reply.{Reply}
use Rattle.path_agenda.specs.Agenda.{heard_and, payload_came, copy_came}
use Rattle.path_agenda.specs.declared.duty.Duty.{Duty}
use Rattle.path_agenda.specs.declared.duty.Duty.TheVariants as duties
use Rattle.path_agenda.specs.declared.duty.AskDuty.TheVariants as ask_duties
use Rattle.path_agenda.specs.declared.duty.StepDuty.TheVariants as step_duties
use Rattle.path_agenda.specs.declared.heard.Heard.{Heard}
use Rattle.path_agenda.specs.declared.heard.Heard.TheVariants as says
use Rattle.path_core.specs.Choices.{item_at}
use Rattle.path_core.specs.Codec.{Codec}
use Rattle.path_core.specs.DssIn.{counts, with_learned, with_skipped, with_data_fin}
use Rattle.path_core.specs.Duties.{passed, answered}
use Rattle.path_core.specs.End.{PathEnd}
use Rattle.path_core.specs.Fallback.{with_plain_ack}
use Rattle.path_core.specs.State.{PathState, end_at, with_agenda}
use Rattle.path_core.specs.Treating.{item_of, item_passed}
use Rattle.world_laws.specs.Writes.{side_of}
use Rattle.whole_paths.specs.AgendaSteps.{is_gone}
use Rattle.whole_paths.specs.Brought.{IsToReset, comes_before_keeping}
use Rattle.whole_paths.specs.DataAcksHeard.{IsToHear}
use Rattle.whole_paths.proofs.Agendas.{own_end}
use Rattle.whole_paths.proofs.Knowing.{item_here, appended, one_longer}
use Rattle.whole_paths.proofs.Treating.{Leads, is_heard, Before, before_answers}
use Rattle.whole_paths.proofs.Treating.Leads.{as_they_are, one_more}
use Rattle.whole_paths.proofs.Treating.{Before as staged}

-- by this duty, behind which these are next
pub data Hears (s : Side) (item : Heard) (e : PathEnd) (d : Duty) (f : PathEnd) (next : List Duty) : Type 0 where
  now : (index : ℕ) → d ≡ duties.Step (step_duties.Heard s index) → item_at index e.treated.items ≡ Some item → Hears s item e d f next
  later : IsToHear s item f.treated.items next → Hears s item e d f next
  resets_then : IsToReset s next → Hears s item e d f next
  dies : is_gone f ≡ true → Hears s item e d f next

pub hear_more : (s : Side) (item : Heard) (items : List Heard) (d : Duty) (ds : List Duty) → side_of d ≡ s → comes_before_keeping d ≡ true → is_heard d ≡ false → IsToHear s item items ds → IsToHear s item items (d ∷ ds)
hear_more s item items (duties.Step (step_duties.Heard t index)) ds own before heard hear = absurd (true≢false heard)
hear_more s item items d ds own before heard hear = (own, (before, hear))

before_hears : (s : Side) (item : Heard) (d : Duty) (ds next : List Duty) (e f : PathEnd) → IsToHear s item e.treated.items ds → Before s ds e f next → Hears s item e d f next
before_hears s item d ds next e f hear (staged.on x leads) = later (subst (λ items. IsToHear s item items next) (sym x.items) (by next leads))
  where
    by : (next : List Duty) → Leads s ds next → IsToHear s item e.treated.items next
    by next as_they_are = hear
    by next (one_more d own before heard) = hear_more s item e.treated.items d ds own before heard hear
before_hears s item d ds next e f hear (staged.resets_then is) = resets_then is
before_hears s item d ds next e f hear (staged.dies gone) = dies gone

-- ---- a copy that is taken

heard_hears : (s : Side) (item : Heard) (before after : List Heard) (index : ℕ) (ds : List Duty) → item_at index after ≡ Some item → IsToHear s item (before ++ after) (heard_and s (length before) (length after) ds)
heard_hears s item before [] index ds at = cc
heard_hears s item before (x ∷ after) zero ds at = (refl, inl (item_here before x after ∙ at))
heard_hears s item before (x ∷ after) (suc index) ds at = (
  refl,
  inr (subst (λ xs. IsToHear s item xs (heard_and s (length before + 1) (length after) ds)) (sym (appended before x after))
      (subst (λ n. IsToHear s item ((before ++ x ∷ []) ++ after) (heard_and s n (length after) ds)) (one_longer before x) (heard_hears s item (before ++ x ∷ []) after index ds at))),
)

pub copy_hears : (s : Side) (item : Heard) (items : List Heard) (index : ℕ) → item_at index items ≡ Some item → IsToHear s item items (copy_came s (length items))
copy_hears s item items index at = (refl, (refl, (refl, (refl, heard_hears s item [] items index (payload_came s) at))))

-- ---- what a copy says stays as its things are treated

item_says : (s : Side) (o : Option Heard) (e : PathEnd) → (item_passed s o e).treated.items ≡ e.treated.items
item_says s None e = refl
item_says s (Some (says.Mapping fin)) e = elim (counts e) as (λ b. (if b then with_learned e else with_skipped e).treated.items ≡ e.treated.items) [ true ↦ refl | false ↦ refl ]
item_says s (Some (says.DataFin place)) e = elim (counts e) as (λ b. (if b then with_data_fin place e else e).treated.items ≡ e.treated.items) [ true ↦ refl | false ↦ refl ]
item_says s (Some _) e = refl

module _ {C : Type 0} where
  passed_says : (d : Duty) (p : PathState C) → comes_before_keeping d ≡ true → (end_at (side_of d) (passed d p)).treated.items ≡ (end_at (side_of d) p).treated.items
  passed_says (duties.Step (step_duties.Heard s index)) p before =
      let e = end_at s p in ap (λ (f : PathEnd). f.treated.items) (own_end s (item_passed s (item_of index e) e) p.a p.b) ∙ item_says s (item_of index e) e
  passed_says (duties.Step (step_duties.PlainAck s)) p before = ap (λ (f : PathEnd). f.treated.items) (own_end s (with_plain_ack (end_at s p)) p.a p.b)
  passed_says (duties.Step (step_duties.Unmapped s)) p before = absurd (true≢false (sym before))
  passed_says (duties.Ask (ask_duties.CheckFailed s)) p before = absurd (true≢false (sym before))
  passed_says (duties.Silent d) p before = absurd (true≢false (sym before))
  passed_says _ p before = refl

  -- by a duty that is passed
  pub hear_passes : (s : Side) (item : Heard) (d : Duty) (ds : List Duty) (p : PathState C) → IsToHear s item (end_at s p).treated.items (d ∷ ds) → Hears s item (end_at s p) d (end_at s (passed d p)) ds
  hear_passes s item d ds p hear = by d hear
    where
      rest : (d : Duty) → side_of d ≡ s → comes_before_keeping d ≡ true → IsToHear s item (end_at s p).treated.items ds → Hears s item (end_at s p) d (end_at s (passed d p)) ds
      rest d own before hear =
          later (subst (λ items. IsToHear s item items ds) (sym (subst (λ u. (end_at u (passed d p)).treated.items ≡ (end_at u p).treated.items) own (passed_says d p before))) hear)

      by : (d : Duty) → IsToHear s item (end_at s p).treated.items (d ∷ ds) → Hears s item (end_at s p) d (end_at s (passed d p)) ds
      by (duties.Step (step_duties.Heard t index)) hear =
          ⊎_elim (λ at. now index (ap (λ u. duties.Step (step_duties.Heard u index)) hear.0) at) (λ others. rest (duties.Step (step_duties.Heard t index)) hear.0 refl others) hear.1
      by d hear = rest d hear.0 hear.1.0 hear.1.1

  -- by one that is answered
  pub hear_answers : (k : Codec C) (s : Side) (item : Heard) (d : Duty) (ds : List Duty) (r : Reply) (p : PathState C) → let q : PathState C = answered k d r (with_agenda (d ∷ ds) p) in
      IsToHear s item (end_at s p).treated.items (d ∷ ds) → Hears s item (end_at s p) d (end_at s q) q.agenda
  hear_answers k s item d ds r p hear = by d hear
    where
      rest : (d : Duty) → side_of d ≡ s → comes_before_keeping d ≡ true → IsToHear s item (end_at s p).treated.items ds
          → let q : PathState C = answered k d r (with_agenda (d ∷ ds) p) in Hears s item (end_at s p) d (end_at s q) q.agenda
      rest d own before hear =
          let q : PathState C = answered k d r (with_agenda (d ∷ ds) p) in
          before_hears s item d ds q.agenda (end_at s p) (end_at s q) hear (subst (λ u. Before u ds (end_at u p) (end_at u q) q.agenda) own (before_answers k d ds r p before))

      by : (d : Duty) → IsToHear s item (end_at s p).treated.items (d ∷ ds) → let q : PathState C = answered k d r (with_agenda (d ∷ ds) p) in Hears s item (end_at s p) d (end_at s q) q.agenda
      by (duties.Step (step_duties.Heard t index)) hear =
          ⊎_elim (λ at. now index (ap (λ u. duties.Step (step_duties.Heard u index)) hear.0) at) (λ others. rest (duties.Step (step_duties.Heard t index)) hear.0 refl others) hear.1
      by d hear = rest d hear.0 hear.1.0 hear.1.1
