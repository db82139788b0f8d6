-- A Data ACK that covers something is told to the control book, which is sure of Multipath TCP from then on.
use Rattle.clean_finish.proofs.Words.{refl, sym, subst, ℕ, Bool, List, ◌∷◌, after_sure_sign, Side, A, B, Duty, AskDuty, SixBooks, reply_of, after_ask, AppState}
use Rattle.clean_finish.proofs.Words.{Carried, PathEnd, Modes, PathState, with_agenda, with_end, mode_in, fell_ask, answered_fell, Setting, Lane, all_left}
use Rattle.clean_finish.proofs.Words.{Going, PathPlan, Start, Keys, Brings, Treats, TreatsCopy, own_bench, other_bench, IsSetting, Runs, keys_in, Bench}
use Rattle.clean_finish.proofs.Words.{Treatment}
use Rattle.fallback_state.specs.declared.fall.Event.{Event}
use Rattle.clean_finish.proofs.EndPassing.{sent_some}
use Rattle.clean_finish.proofs.FellOn.{fell_control, fell_done, fell_modes, sign_reply}
use Rattle.clean_finish.proofs.HeardFirst.{no_third}
use Rattle.clean_finish.proofs.HeardNext.{two_next}
use Rattle.clean_finish.proofs.TreatedOn.{treated_on}
use Rattle.clean_finish.proofs.Turned.{from_a, from_b}

-- the treatment of a copy doesn't see the modes
pub moded_copy : (q : Side) (keys : Keys) {at : Treatment} {told : Bool} {b : Brings} (x : Bench) (m : Modes) → TreatsCopy q keys at told b x
    → TreatsCopy q keys at told b (record x { end = record x.end { modes = m } })
moded_copy q keys x m f = record {
  sent = f.sent;
  brings = f.brings;
  hand = f.hand;
  kind = f.kind;
  some = f.some;
  keyed = f.keyed;
  items = f.items;
  opened = f.opened;
  keys_told = f.keys_told;
  has_option = f.has_option;
  fins = f.fins;
  asked = f.asked;
  plain_ack = f.plain_ack;
  held_edge = f.held_edge;
  owes = f.owes;
  came = f.came;
  una = f.una;
  high = f.high;
  rests = f.rests;
  waiting = f.waiting;
  answered = f.answered;
  ready = f.ready;
  shown = f.shown;
  least = f.least;
  clear = f.clear;
  unkeyed = f.unkeyed;
  places = f.places;
  incoming = f.incoming;
  fin = f.fin;
  maps = f.maps;
}

module _ (start : Start) (plan : PathPlan) (k j : Setting) (s v : Lane) (t0 u0 : ℕ)
    (going : Going k s t0 all_left s) (going_back : Going j v u0 all_left v)
  where
    abbrev keys : Keys
    keys = keys_in start

    module _ (a b : AppState) (books : SixBooks) (p : PathState Carried)
        (k_is : IsSetting p.profile plan.delay k) (j_is : IsSetting p.profile plan.delay j)
      where
        abbrev Relation : SixBooks → PathState Carried → Type 0
        Relation six q = Runs start plan k j s v a b six q

        -- ---- at A

        abbrev end_told_a : PathEnd
        end_told_a = record p.a { modes = mode_in (sign_reply books.control_a.fall) p.a.modes }

        abbrev books_told_a : SixBooks
        books_told_a = record books { control_a = record books.control_a { fall = (after_sure_sign books.control_a.fall).0 } }

        pub answers_ack_heard_a : (ds : List Duty) → Relation books (with_agenda (Duty.Ask (AskDuty.AckHeard A) ∷ ds) p)
            → let q = with_agenda (Duty.Ask (AskDuty.AckHeard A) ∷ ds) p in let ask = fell_ask A Event.AckHeard q in
            Relation (after_ask ask books) (answered_fell A Event.AckHeard (reply_of books ask) q)
        answers_ack_heard_a ds h =
            let t = h.treats in
            let f = t.1 in
            let faces = treated_on h.faces refl (sent_some f.came f.answered) p.a.tcp.recv p.a.receiving.mappings p.a.receiving.mapped_data_fin
            end_told_a.modes p.a.treated books_told_a.control_a refl refl refl
            (fell_modes A keys h.faces.out.sender h.faces.back.receiver books.control_a.fall p.a.modes h.faces.own.modes)
            (fell_control A keys books.control_a h.faces.control) in
            subst (λ (es : List Duty). Relation books_told_a (with_agenda es (with_end A end_told_a p)))
            (sym (fell_done A books.control_a.fall (with_agenda (Duty.Ask (AskDuty.AckHeard A) ∷ ds) p))) (record {
              path = record {
                profile = h.path.profile;
                delay = h.path.delay;
                number = h.path.number;
                unspoken = h.path.unspoken;
                lines = h.path.lines;
                joined = h.path.joined;
              };
              link = h.link;
              faces = faces;
              treats = subst (λ (es : List Duty). Treats keys (own_bench faces) (other_bench faces) es) (sym t.3.2)
                  (two_next A keys (own_bench faces) (other_bench faces) t.3.0 t.3.1 t.0 (no_third t.0 t.2)
                  (moded_copy A keys (own_bench h.faces) end_told_a.modes f));
            })

        -- ---- at B

        abbrev end_told_b : PathEnd
        end_told_b = record p.b { modes = mode_in (sign_reply books.control_b.fall) p.b.modes }

        abbrev books_told_b : SixBooks
        books_told_b = record books { control_b = record books.control_b { fall = (after_sure_sign books.control_b.fall).0 } }

        pub answers_ack_heard_b : (ds : List Duty) → Relation books (with_agenda (Duty.Ask (AskDuty.AckHeard B) ∷ ds) p)
            → let q = with_agenda (Duty.Ask (AskDuty.AckHeard B) ∷ ds) p in let ask = fell_ask B Event.AckHeard q in
            Relation (after_ask ask books) (answered_fell B Event.AckHeard (reply_of books ask) q)
        answers_ack_heard_b ds h =
            let t = h.treats in
            let f = t.1 in
            let view = from_a keys k j s v a b books (with_agenda (Duty.Ask (AskDuty.AckHeard B) ∷ ds) p) h.faces in
            let faces = from_b keys k j s v a b books_told_b (with_agenda ds (with_end B end_told_b p))
            (treated_on view refl (sent_some f.came f.answered) p.b.tcp.recv p.b.receiving.mappings p.b.receiving.mapped_data_fin
            end_told_b.modes p.b.treated books_told_b.control_b refl refl refl
            (fell_modes B keys view.out.sender view.back.receiver books.control_b.fall p.b.modes view.own.modes)
            (fell_control B keys books.control_b view.control)) in
            subst (λ (es : List Duty). Relation books_told_b (with_agenda es (with_end B end_told_b p)))
            (sym (fell_done B books.control_b.fall (with_agenda (Duty.Ask (AskDuty.AckHeard B) ∷ ds) p))) (record {
              path = record {
                profile = h.path.profile;
                delay = h.path.delay;
                number = h.path.number;
                unspoken = h.path.unspoken;
                lines = h.path.lines;
                joined = h.path.joined;
              };
              link = h.link;
              faces = faces;
              treats = subst (λ (es : List Duty). Treats keys (own_bench faces) (other_bench faces) es) (sym t.3.2)
                  (two_next B keys (own_bench faces) (other_bench faces) t.3.0 t.3.1 t.0 (no_third t.0 t.2)
                  (moded_copy B keys (other_bench h.faces) end_told_b.modes f));
            })
