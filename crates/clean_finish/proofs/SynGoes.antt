-- The step in which A sends its SYN.
use Rattle.clean_finish.proofs.Words.{◌≡◌, refl, sym, subst, ap, ◌∙◌, ℕ, ◌+◌, ◌≤◌, max, true, false, inl, inr, ⊎_elim, List, [], ◌∷◌, arith, Some, is_some, length, made}
use Rattle.clean_finish.proofs.Words.{find, both_ways, and_parts, Side, A, B, Record, is_unsent, syn_record, never_sent, State, Occasion, going_to}
use Rattle.clean_finish.proofs.Words.{plain_flight, after_send, PlainSegment, Duty, SendDuty, AskDuty, SixBooks, AppState, Carried, carried_by, stripped}
use Rattle.clean_finish.proofs.Words.{altered, values, is_connected, PathState, with_agenda, having_sent, sent_on, first_unsent, is_syn_due, answered_syn}
use Rattle.clean_finish.proofs.Words.{Setting, Lane, all_left, Going, PathPlan, Start, Waits, WaitsSyn, WaitsNone, WaitsBytes, Keys, said, own_bench}
use Rattle.clean_finish.proofs.Words.{other_bench, IsSetting, Runs, keys_in, Facing, Half, Has, HasNotBegun, any_duty, is_window}
use Rattle.subflow_tcp.specs.States.{is_opening}
use Rattle.clean_finish.proofs.Dropping.{differ}
use Rattle.clean_finish.proofs.Emitted.{first_waits}
use Rattle.clean_finish.proofs.Linking.{carried_is, last_from_a, others_of_a, link_after_a}
use Rattle.clean_finish.proofs.Opened.{syn_is, syn, syn_sent}
use Rattle.clean_finish.proofs.Plainly.{plain_on}
use Rattle.clean_finish.proofs.Quiet.{no_window}

opening_is : (state : State) → is_opening state ≡ true → (state ≡ State.SynSent) × (is_connected state ≡ false)
opening_is State.SynSent e = (refl, refl)
opening_is _ e = absurd (both_ways _ refl e)

-- what an end knows whose SYN is due
module _ {keys : Keys} {k j : Setting} {begun begun_back : Lane} {m n : Half} {c : _} {clock until : ℕ} {ds : List Duty}
    (h : Facing A keys k j c begun begun_back m n clock until (Duty.Send (SendDuty.Syn A) ∷ ds)) (due : is_syn_due m.end ≡ true)
  where
    parts : (is_opening m.end.tcp.state ≡ true) × (is_some (first_unsent m.end) ≡ true)
    parts = and_parts (is_opening m.end.tcp.state) (is_some (first_unsent m.end)) due

    pub state_is : m.end.tcp.state ≡ State.SynSent
    state_is = (opening_is m.end.tcp.state parts.0).0

    unready : h.out.ready ≡ 0
    unready = (h.own.subflow.quiet (opening_is m.end.tcp.state parts.0).1).1

    pub record Unsent : Type 0 where
      pub rest : h.own.subflow.records.rest ≡ syn_record never_sent ∷ []
      pub waiting : h.waiting ≡ 0
      pub unsent : h.out.control_sent ≡ 0

    first_is : first_unsent m.end ≡ find is_unsent h.own.subflow.records.rest
    first_is = ap (λ (rs : List Record). find is_unsent rs) h.own.subflow.records.all
        ∙ first_waits h.own.subflow.records.sent h.own.subflow.records.rest h.own.subflow.records.gone

    pub unsent_is : Unsent
    unsent_is = by h.own.subflow.records.rest h.waiting h.own.subflow.records.waits refl refl
        (sym (ap is_some first_is) ∙ parts.1)
      where
        by : (rest : List Record) (waits : ℕ) → Waits k h.out.sender rest waits → h.own.subflow.records.rest ≡ rest → h.waiting ≡ waits
            → is_some (find is_unsent rest) ≡ true → Unsent
        by _ _ (WaitsSyn unsent) rest waits some = record { rest = rest; waiting = waits; unsent = unsent }
        by _ _ (WaitsNone sent) rest waits some = absurd (both_ways _ refl some)
        by _ _ (WaitsBytes sent r kind pos unsent one most edge) rest waits some =
            absurd (not_both (h.own.sending.bytes (more h.out.granted waits one)) unready)
          where
            more : {x y : ℕ} (z : ℕ) → x ≡ y → 1 ≤ y → 1 ≤ z + x
            more z same some = omega (arith, same, some)

            not_both : {x : ℕ} → 1 ≤ x → x ≡ 0 → ⊥
            not_both one is = absurd (omega (arith, one, is))

    pub first_syn : first_unsent m.end ≡ Some (syn_record never_sent)
    first_syn = first_is ∙ ap (λ (rs : List Record). find is_unsent rs) unsent_is.rest

    pub not_begun : HasNotBegun A j h.out.sender h.back.receiver m.end (Duty.Send (SendDuty.Syn A) ∷ ds)
    not_begun = ⊎_elim (λ sent. absurd (not_both sent unsent_is.unsent)) (λ none. none) h.begins
      where
        not_both : {x : ℕ} → 1 ≤ x → x ≡ 0 → ⊥
        not_both one is = absurd (omega (arith, one, is))

module _ (start : Start) (plan : PathPlan) (k j : Setting) (s v : Lane) (t0 u0 : ℕ)
    (going : Going k s t0 all_left s) (going_back : Going j v u0 all_left v)
  where
    abbrev keys : Keys
    keys = keys_in start

    module _ (a b : AppState) (books : SixBooks) (p : PathState Carried) (ds : List Duty)
        (k_is : IsSetting p.profile plan.delay k) (j_is : IsSetting p.profile plan.delay j)
      where
        abbrev Relation : PathState Carried → Type 0
        Relation q = Runs start plan k j s v a b books q

        abbrev sends_off : PlainSegment → PathState Carried
        sends_off segment = sent_on values A segment (having_sent Occasion.Unsent p.clock segment p.a) ds p

        pub syn_goes : is_syn_due p.a ≡ true → Relation (with_agenda (Duty.Send (SendDuty.Syn A) ∷ ds) p)
            → Relation (answered_syn values A (with_agenda (Duty.Send (SendDuty.Syn A) ∷ ds) p))
        syn_goes due h =
            let know = unsent_is h.faces due in
            let none = not_begun h.faces due in
            let x = syn plan.delay t0 u0 k_is j_is going going_back h.faces know.unsent none in
            let segment = said p.profile keys A x in
            let carried = carried_by p.profile.spelling A segment in
            let size = length (made p.profile.spelling A segment) in
            let t = h.treats in
            let strip : Side → Carried → Carried = λ side sent. stripped sent in
            let alter : Side → Carried → Carried = λ side sent. altered sent in
            let faces = syn_sent plan.delay t0 u0 k_is j_is going going_back h.faces know.unsent none know.rest know.waiting
            (⊎_elim (λ is. is) (λ there. absurd (window_first there t.4.0)) none.window) t.4.1
            (going_to B (after_send strip alter A carried size p.clock p.link).under_way)
            (going_to A (after_send strip alter A carried size p.clock p.link).under_way)
            (plain_flight strip alter A carried p.clock p.link)
            (record { tick = ap (λ (n : ℕ). p.clock + n) h.path.delay; to = refl; carried = carried_is strip alter carried size p.clock p.link h.path.unspoken h.link A })
            (last_from_a strip alter carried size p.clock p.link h.path.unspoken h.link)
            (others_of_a strip alter carried size p.clock p.link h.path.unspoken h.link) in
            subst (λ (sg : PlainSegment). Relation (sends_off sg))
            (sym (syn_is p.profile keys j (p.clock + plan.delay) p.a k_is.path (state_is h.faces due) (first_syn h.faces due)))
            (record {
              path = record {
                profile = h.path.profile;
                delay = h.path.delay;
                number = h.path.number;
                unspoken = h.path.unspoken;
                lines = h.path.lines;
                joined = h.path.joined;
              };
              link = link_after_a strip alter carried size p.clock p.link h.path.unspoken h.link;
              faces = faces;
              treats = plain_on keys (own_bench faces) (other_bench faces) ds (
                record {
                  none = t.0.0.none;
                  idle = record { places = t.0.0.idle.places; incoming = t.0.0.idle.incoming; fin = t.0.0.idle.fin };
                  mapped = t.0.0.mapped;
                  least = t.0.0.least;
                  owes = t.0.0.owes;
                  answered = up t.0.0.answered;
                  ready = t.0.0.ready;
                  shown = λ is. up_zero (t.0.0.shown is);
                },
                t.0.1,
              ) refl t.2 t.5;
            })
          where
            up : {x y : ℕ} → x ≤ y → x ≤ max y 1
            up low = omega (arith, low)

            up_zero : {x y : ℕ} → x ≤ y → x ≤ max y 0
            up_zero low = omega (arith, low)

            window_first : Has (Duty.Ask (AskDuty.Window A)) (Duty.Send (SendDuty.Syn A) ∷ ds) → any_duty (is_window A) ds ≡ false → ⊥
            window_first (inl same) none = absurd (differ refl same)
            window_first (inr there) none = no_window A ds none there
