-- The steps in which a copy's mapping or its DATA_FIN is told to the control book, or passed.
use Rattle.clean_finish.proofs.Words.{◌≡◌, refl, sym, subst, ℕ, ◌≤◌, true, false, List, [], ◌∷◌, length, after_sure_sign, A, B, Mappings, Duty, StepDuty, Heard}
use Rattle.clean_finish.proofs.Words.{SixBooks, reply_of, after_ask, Ask, AppState, Carried, values, PathEnd, answered_mapping, mapping_ask, Modes, PathState}
use Rattle.clean_finish.proofs.Words.{goes_on, with_agenda, with_end, answered_heard, heard_passed, mode_in, fell_ask, Setting, Lane, all_left, Going, PathPlan}
use Rattle.clean_finish.proofs.Words.{Start, Sent, Keys, octets_of, MapsAs, Treats, kept_in, own_bench, other_bench, FacesOfB, IsSetting, Runs, keys_in}
use Rattle.clean_finish.proofs.Words.{FacesOfA}
use Rattle.fallback_state.specs.declared.fall.Event.{Event}
use Rattle.clean_finish.proofs.FellOn.{fell_control, fell_modes, sign_reply}
use Rattle.clean_finish.proofs.Hands.{in_hand}
use Rattle.clean_finish.proofs.MappingTold.{agrees_is, end_on, ended_end, fin_now, fin_passed, has_key, held, kept, learned, learned_end, learned_now, mapping_on, passed_now, told_ask, told_now}
use Rattle.clean_finish.proofs.Turned.{from_a, from_b}

module _ (start : Start) (plan : PathPlan) (k j : Setting) (s v : Lane) (t0 u0 : ℕ)
    (going : Going k s t0 all_left s) (going_back : Going j v u0 all_left v)
  where
    abbrev keys : Keys
    keys = keys_in start

    module _ (a b : AppState) (books : SixBooks) (p : PathState Carried)
        (k_is : IsSetting p.profile plan.delay k) (j_is : IsSetting p.profile plan.delay j)
      where
        abbrev Relation : SixBooks → PathState Carried → Type 0
        Relation six q = Runs start plan k j s v a b six q

        -- ---- at A

        module _ (i : ℕ) (ds : List Duty) (h : Relation books (with_agenda (Duty.Step (StepDuty.Heard A i) ∷ ds) p)) where
          abbrev q_a : PathState Carried
          q_a = with_agenda (Duty.Step (StepDuty.Heard A i) ∷ ds) p

          abbrev view_a : FacesOfA keys k j s v a b books q_a
          view_a = h.faces

          module _ (sent : 1 ≤ view_a.out.control_sent) where
            -- a mapping, and what is treated behind it
            module _ (x : Sent) (hand : view_a.hand ≡ in_hand x true false) (some : 1 ≤ length (octets_of x.brings))
                (maps : MapsAs p.a.tcp.recv.edge false (kept_in p.profile A x (octets_of x.brings)) (length (octets_of x.brings)) p.a.receiving.mappings p.a.receiving.mapped_data_fin)
              where
                abbrev learned_a : Mappings
                learned_a = learned plan.delay t0 u0 k_is j_is going going_back view_a refl x hand some maps

                module _ (on : (mo : Modes) → Treats keys (record (own_bench h.faces) { end = learned_end learned_a mo p.a }) (other_bench h.faces) ds) where
                  pub mapping_told_a : let ask = mapping_ask values A q_a in Relation (after_ask ask books) (answered_mapping values A (reply_of books ask) q_a)
                  mapping_told_a =
                      let mo = mode_in (sign_reply books.control_a.fall) p.a.modes in
                      let clash = agrees_is plan.delay t0 u0 k_is j_is going going_back view_a refl x hand some maps in
                      subst (λ (ask : Ask). Relation (after_ask ask books) (answered_mapping values A (reply_of books ask) q_a)) (sym (told_ask A q_a clash))
                      (subst (λ (next : PathState Carried). Relation (after_ask (fell_ask A Event.MappingHeard q_a) books) next)
                      (sym (told_now A books.control_a.fall q_a learned_a (kept plan.delay t0 u0 k_is j_is going going_back view_a refl x hand some maps) clash (learned_now plan.delay t0 u0 k_is j_is going going_back view_a refl x hand some maps) (held plan.delay t0 u0 k_is j_is going going_back view_a refl x hand some maps) refl))
                      (record {
                        path = record {
                          profile = h.path.profile;
                          delay = h.path.delay;
                          number = h.path.number;
                          unspoken = h.path.unspoken;
                          lines = h.path.lines;
                          joined = h.path.joined;
                        };
                        link = h.link;
                        faces = mapping_on plan.delay t0 u0 k_is j_is going going_back view_a refl x hand some maps sent mo (record books.control_a { fall = (after_sure_sign books.control_a.fall).0 }) (fell_modes A keys view_a.out.sender view_a.back.receiver books.control_a.fall p.a.modes view_a.own.modes)
                            (fell_control A keys books.control_a view_a.control);
                        treats = on mo;
                      }))

                  pub mapping_passed_a : 1 ≤ view_a.out.clear → Relation books (with_agenda ds (with_end A (heard_passed A (Heard.Mapping false) p.a) p))
                  mapping_passed_a clear =
                      subst (λ (e : PathEnd). Relation books (with_agenda ds (with_end A e p)))
                      (sym (passed_now A p.a learned_a (kept plan.delay t0 u0 k_is j_is going going_back view_a refl x hand some maps) (has_key view_a clear) (learned_now plan.delay t0 u0 k_is j_is going going_back view_a refl x hand some maps) (held plan.delay t0 u0 k_is j_is going going_back view_a refl x hand some maps) refl))
                      (record {
                        path = record {
                          profile = h.path.profile;
                          delay = h.path.delay;
                          number = h.path.number;
                          unspoken = h.path.unspoken;
                          lines = h.path.lines;
                          joined = h.path.joined;
                        };
                        link = h.link;
                        faces = mapping_on plan.delay t0 u0 k_is j_is going going_back view_a refl x hand some maps sent p.a.modes books.control_a view_a.own.modes view_a.control;
                        treats = on p.a.modes;
                      })

            -- a DATA_FIN
            module _ (place : ℕ) (none : p.a.treated.fins ≡ []) (on : (mo : Modes) → Treats keys (record (own_bench h.faces) { end = ended_end place mo p.a }) (other_bench h.faces) ds) where
              pub end_told_a : let ask = fell_ask A Event.MappingHeard q_a in Relation (after_ask ask books) (answered_heard values A (Heard.DataFin place) (reply_of books ask) q_a)
              end_told_a =
                  let mo = mode_in (sign_reply books.control_a.fall) p.a.modes in
                  subst (λ (next : PathState Carried). Relation (after_ask (fell_ask A Event.MappingHeard q_a) books) next) (sym (fin_now A books.control_a.fall q_a place none))
                  (record {
                    path = record {
                      profile = h.path.profile;
                      delay = h.path.delay;
                      number = h.path.number;
                      unspoken = h.path.unspoken;
                      lines = h.path.lines;
                      joined = h.path.joined;
                    };
                    link = h.link;
                    faces = end_on view_a refl sent place mo (record books.control_a { fall = (after_sure_sign books.control_a.fall).0 }) (fell_modes A keys view_a.out.sender view_a.back.receiver books.control_a.fall p.a.modes view_a.own.modes)
                        (fell_control A keys books.control_a view_a.control);
                    treats = on mo;
                  })

              pub end_passed_a : 1 ≤ view_a.out.clear → Relation books (with_agenda ds (with_end A (heard_passed A (Heard.DataFin place) p.a) p))
              end_passed_a clear =
                  subst (λ (e : PathEnd). Relation books (with_agenda ds (with_end A e p))) (sym (fin_passed A p.a place (has_key view_a clear) none))
                  (record {
                    path = record {
                      profile = h.path.profile;
                      delay = h.path.delay;
                      number = h.path.number;
                      unspoken = h.path.unspoken;
                      lines = h.path.lines;
                      joined = h.path.joined;
                    };
                    link = h.link;
                    faces = end_on view_a refl sent place p.a.modes books.control_a view_a.own.modes view_a.control;
                    treats = on p.a.modes;
                  })

        -- ---- at B

        module _ (i : ℕ) (ds : List Duty) (h : Relation books (with_agenda (Duty.Step (StepDuty.Heard B i) ∷ ds) p)) where
          abbrev q_b : PathState Carried
          q_b = with_agenda (Duty.Step (StepDuty.Heard B i) ∷ ds) p

          abbrev view_b : FacesOfB keys k j s v a b books q_b
          view_b = from_a keys k j s v a b books q_b h.faces

          module _ (sent : 1 ≤ view_b.out.control_sent) where
            -- a mapping, and what is treated behind it
            module _ (x : Sent) (hand : view_b.hand ≡ in_hand x true false) (some : 1 ≤ length (octets_of x.brings))
                (maps : MapsAs p.b.tcp.recv.edge false (kept_in p.profile B x (octets_of x.brings)) (length (octets_of x.brings)) p.b.receiving.mappings p.b.receiving.mapped_data_fin)
              where
                abbrev learned_b : Mappings
                learned_b = learned plan.delay u0 t0 j_is k_is going_back going view_b refl x hand some maps

                module _ (on : (mo : Modes) → Treats keys (own_bench h.faces) (record (other_bench h.faces) { end = learned_end learned_b mo p.b }) ds) where
                  pub mapping_told_b : let ask = mapping_ask values B q_b in Relation (after_ask ask books) (answered_mapping values B (reply_of books ask) q_b)
                  mapping_told_b =
                      let mo = mode_in (sign_reply books.control_b.fall) p.b.modes in
                      let clash = agrees_is plan.delay u0 t0 j_is k_is going_back going view_b refl x hand some maps in
                      subst (λ (ask : Ask). Relation (after_ask ask books) (answered_mapping values B (reply_of books ask) q_b)) (sym (told_ask B q_b clash))
                      (subst (λ (next : PathState Carried). Relation (after_ask (fell_ask B Event.MappingHeard q_b) books) next)
                      (sym (told_now B books.control_b.fall q_b learned_b (kept plan.delay u0 t0 j_is k_is going_back going view_b refl x hand some maps) clash (learned_now plan.delay u0 t0 j_is k_is going_back going view_b refl x hand some maps) (held plan.delay u0 t0 j_is k_is going_back going view_b refl x hand some maps) refl))
                      (record {
                        path = record {
                          profile = h.path.profile;
                          delay = h.path.delay;
                          number = h.path.number;
                          unspoken = h.path.unspoken;
                          lines = h.path.lines;
                          joined = h.path.joined;
                        };
                        link = h.link;
                        faces = from_b keys k j s v a b (after_ask (fell_ask B Event.MappingHeard q_b) books) (goes_on B (learned_end learned_b mo p.b) ds q_b) (mapping_on plan.delay u0 t0 j_is k_is going_back going view_b refl x hand some maps sent mo (record books.control_b { fall = (after_sure_sign books.control_b.fall).0 }) (fell_modes B keys view_b.out.sender view_b.back.receiver books.control_b.fall p.b.modes view_b.own.modes)
                            (fell_control B keys books.control_b view_b.control));
                        treats = on mo;
                      }))

                  pub mapping_passed_b : 1 ≤ view_b.out.clear → Relation books (with_agenda ds (with_end B (heard_passed B (Heard.Mapping false) p.b) p))
                  mapping_passed_b clear =
                      subst (λ (e : PathEnd). Relation books (with_agenda ds (with_end B e p)))
                      (sym (passed_now B p.b learned_b (kept plan.delay u0 t0 j_is k_is going_back going view_b refl x hand some maps) (has_key view_b clear) (learned_now plan.delay u0 t0 j_is k_is going_back going view_b refl x hand some maps) (held plan.delay u0 t0 j_is k_is going_back going view_b refl x hand some maps) refl))
                      (record {
                        path = record {
                          profile = h.path.profile;
                          delay = h.path.delay;
                          number = h.path.number;
                          unspoken = h.path.unspoken;
                          lines = h.path.lines;
                          joined = h.path.joined;
                        };
                        link = h.link;
                        faces = from_b keys k j s v a b books (with_agenda ds (with_end B (learned_end learned_b p.b.modes p.b) p)) (mapping_on plan.delay u0 t0 j_is k_is going_back going view_b refl x hand some maps sent p.b.modes books.control_b view_b.own.modes view_b.control);
                        treats = on p.b.modes;
                      })

            -- a DATA_FIN
            module _ (place : ℕ) (none : p.b.treated.fins ≡ []) (on : (mo : Modes) → Treats keys (own_bench h.faces) (record (other_bench h.faces) { end = ended_end place mo p.b }) ds) where
              pub end_told_b : let ask = fell_ask B Event.MappingHeard q_b in Relation (after_ask ask books) (answered_heard values B (Heard.DataFin place) (reply_of books ask) q_b)
              end_told_b =
                  let mo = mode_in (sign_reply books.control_b.fall) p.b.modes in
                  subst (λ (next : PathState Carried). Relation (after_ask (fell_ask B Event.MappingHeard q_b) books) next) (sym (fin_now B books.control_b.fall q_b place none))
                  (record {
                    path = record {
                      profile = h.path.profile;
                      delay = h.path.delay;
                      number = h.path.number;
                      unspoken = h.path.unspoken;
                      lines = h.path.lines;
                      joined = h.path.joined;
                    };
                    link = h.link;
                    faces = from_b keys k j s v a b (after_ask (fell_ask B Event.MappingHeard q_b) books) (goes_on B (ended_end place mo p.b) ds q_b) (end_on view_b refl sent place mo (record books.control_b { fall = (after_sure_sign books.control_b.fall).0 }) (fell_modes B keys view_b.out.sender view_b.back.receiver books.control_b.fall p.b.modes view_b.own.modes)
                        (fell_control B keys books.control_b view_b.control));
                    treats = on mo;
                  })

              pub end_passed_b : 1 ≤ view_b.out.clear → Relation books (with_agenda ds (with_end B (heard_passed B (Heard.DataFin place) p.b) p))
              end_passed_b clear =
                  subst (λ (e : PathEnd). Relation books (with_agenda ds (with_end B e p))) (sym (fin_passed B p.b place (has_key view_b clear) none))
                  (record {
                    path = record {
                      profile = h.path.profile;
                      delay = h.path.delay;
                      number = h.path.number;
                      unspoken = h.path.unspoken;
                      lines = h.path.lines;
                      joined = h.path.joined;
                    };
                    link = h.link;
                    faces = from_b keys k j s v a b books (with_agenda ds (with_end B (ended_end place p.b.modes p.b) p)) (end_on view_b refl sent place p.b.modes books.control_b view_b.own.modes view_b.control);
                    treats = on p.b.modes;
                  })
