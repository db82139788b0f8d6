-- B hears the first bytes, which show A's keys: they are told to the control book, and what the copy acknowledges is heard.
use Rattle.clean_finish.proofs.Words.{◌≡◌, refl, sym, subst, ap, ℕ, ◌+◌, ◌<◌, ◌≤◌, min, max, nat_lt, Bool, true, false, if◌then◌else◌, Option, None, List, ◌∷◌}
use Rattle.clean_finish.proofs.Words.{◌++◌, arith, Some, le_refl, ◌==◌, both_ways, lt-ltb, le-ltb, A, B, keys_in_book, ControlReply, ControlCall, SendBook}
use Rattle.clean_finish.proofs.Words.{SendCall, one_if, Duty, StepDuty, heard_and, payload_came, Heard, Reply, SixBooks, reply_of, after_ask, Ask, AppState}
use Rattle.clean_finish.proofs.Words.{Carried, values, PathEnd, Modes, PathState, with_agenda, with_end, keys_ask, answered_item, Setting, Lane, all_left}
use Rattle.clean_finish.proofs.Words.{Sender, Receiver, Going, PathPlan, Start, Hand, brings_in, ModesAre, Sent, Keys, Brings, TellsAs, Follow, FirstPiece}
use Rattle.clean_finish.proofs.Words.{Beside, Treats, TreatsCopy, own_bench, other_bench, FacesOfB, IsSetting, Runs, keys_in, Bench, FacesOfA, AtFirst}
use Rattle.clean_finish.proofs.Words.{AfterOne}
use Rattle.std.proofs.Common.{eq-eqb}
use Rattle.path_agenda.specs.declared.keys.KeyPair.{KeyPair}
use Rattle.clean_finish.proofs.Acknowledged.{hears_on}
use Rattle.clean_finish.proofs.BookStays.{ack_of_nothing}
use Rattle.clean_finish.proofs.Confirmed.{keys_noted}
use Rattle.clean_finish.proofs.DutyMore.{duty_more}
use Rattle.clean_finish.proofs.EndPassing.{sent_some, some_of}
use Rattle.clean_finish.proofs.Hands.{in_hand}
use Rattle.clean_finish.proofs.HeardNext.{one_next, heard_emits}
use Rattle.clean_finish.proofs.Raised.{Emits}
use Rattle.clean_finish.proofs.SynTold.{told_own}
use Rattle.clean_finish.proofs.ThirdTaken.{known_edge}
use Rattle.clean_finish.proofs.TreatedOn.{treated_on}
use Rattle.clean_finish.proofs.Turned.{from_a, from_b}

at_most_one : {x : ℕ} → x ≡ 1 → x ≤ 1
at_most_one is = omega (arith, is)

below : {x y : ℕ} → x ≡ 1 → 1 ≤ y → x ≤ y
below is some = omega (arith, is, some)

none_future : (n : ℕ) → nat_lt n 0 ≡ false
none_future n = le-ltb n 0 (omega arith)

plus_none : (x : ℕ) → x ≡ 0 + x
plus_none x = omega arith

less_max : {x y : ℕ} (z : ℕ) → x ≤ y → x ≤ max y z
less_max z less = omega (arith, less)

not_less_max : (x y : ℕ) → max x y < y → ⊥
not_less_max x y less = absurd (omega (arith, less))

not_a : B ≡ A → ⊥
not_a e = cc

-- ---- the keys were known

clear_is : {x : ℕ} (b : Bool) → x ≡ one_if b → 1 ≤ x → x ≡ 1
clear_is true is some = is
clear_is false is some = absurd (omega (arith, is, some))

modes_known : (keys : Keys) (out : Sender) (back : Receiver) (m : Modes) → ModesAre B keys out back m → 1 ≤ out.ready → 1 ≤ out.clear
    → ModesAre B keys out back (record m { peer_key = Some keys.a; clear = true })
modes_known keys out back m is ready clear = record {
  mode = is.mode;
  standby = is.standby;
  mapping = is.mapping;
  owes_third = is.owes_third;
  owes_mapping = is.owes_mapping;
  mapped_to = is.mapped_to;
  plain_acks = is.plain_acks;
  own_key = is.own_key;
  peer_key = ap (λ (b : Bool). if b then Some keys.a else None) (sym (lt-ltb 0 out.ready ready));
  clear = clear_is m.clear is.clear clear;
  capable = is.capable;
  ready = is.ready;
  cleared = is.cleared;
  both = is.both;
  shown = is.shown;
}

-- what the copy acknowledges is heard
first_copy : (keys : Keys) (octets : List ℕ) (x : Bench) (out : Sender) (e : PathEnd) (f : TreatsCopy B keys AtFirst false (FirstPiece octets) x)
    → e ≡ record x.end { modes = e.modes; treated = record x.end.treated { keys_told = true } }
    → out.control_sent ≡ x.out.control_sent → x.out.edge ≤ out.edge → 1 ≤ out.clear → (out.control_acked < f.sent.telling.seen → ⊥)
    → TreatsCopy B keys AfterOne true (FirstPiece octets) (record x { out = out; hand = in_hand f.sent true false; end = e })
first_copy keys octets x out e f end_is sent_same wider clear taken =
    subst (λ (y : PathEnd). TreatsCopy B keys AfterOne true (FirstPiece octets) (record x { out = out; hand = in_hand f.sent true false; end = y })) (sym end_is) (record {
      sent = f.sent;
      brings = f.brings;
      hand = refl;
      kind = f.kind;
      some = f.some;
      keyed = f.keyed;
      items = f.items;
      opened = f.opened;
      keys_told = refl;
      has_option = f.has_option;
      fins = f.fins;
      asked = f.asked;
      plain_ack = f.plain_ack;
      held_edge = f.held_edge;
      owes = f.owes;
      came = f.came;
      una = f.una;
      high = f.high;
      rests = λ less. absurd (taken less);
      waiting = f.waiting;
      answered = subst (λ (n : ℕ). min 1 x.back.control_came ≤ n) (sym sent_same) f.answered;
      ready = λ is. absurd (not_a is);
      shown = λ is. absurd (not_a is);
      least = λ is. up (f.least is) wider;
      clear = (λ is third. clear, λ told. clear, λ begun. clear);
      unkeyed = λ third told. absurd (both_ways true told refl);
      places = f.places;
      incoming = f.incoming;
      fin = f.fin;
      maps = f.maps;
    })
  where
    up : {y z t : ℕ} → y ≤ z → z ≤ t → y ≤ t
    up p q = omega (arith, p, q)

module _ (start : Start) (plan : PathPlan) (k j : Setting) (s v : Lane) (t0 u0 : ℕ)
    (going : Going k s t0 all_left s) (going_back : Going j v u0 all_left v)
  where
    abbrev keys : Keys
    keys = keys_in start

    module _ (a b : AppState) (books : SixBooks) (p : PathState Carried)
        (k_is : IsSetting p.profile plan.delay k) (j_is : IsSetting p.profile plan.delay j)
      where
        abbrev Relation : SixBooks → PathState Carried → Type 0
        Relation six q = Runs start plan k j s v a b six q

        abbrev d : Duty
        d = Duty.Step (StepDuty.Heard B 0)

        abbrev both_keys : KeyPair
        both_keys = record { own = keys.b; peer = keys.a }

        module _ (ds : List Duty) (h : Relation books (with_agenda (d ∷ ds) p)) (octets : List ℕ)
            (f : TreatsCopy B keys AtFirst false (FirstPiece octets) (other_bench h.faces))
            (beside : Beside B (own_bench h.faces) (other_bench h.faces) ds (heard_and B 1 1 (payload_came B)))
          where
            abbrev x : Sent
            x = f.sent

            abbrev view : FacesOfB keys k j s v a b books (with_agenda (d ∷ ds) p)
            view = from_a keys k j s v a b books (with_agenda (d ∷ ds) p) h.faces

            hand : view.hand ≡ in_hand x true true
            hand = f.hand

            -- ---- what it says

            behind : Follow j.least j.total k.total A view.back.received view.back.control_came view.back.keys_came (x ∷ view.way_back.sent)
            behind = subst (λ (o : Option Hand). Follow j.least j.total k.total A view.back.received view.back.control_came view.back.keys_came (brings_in o ++ view.way_back.sent))
                hand view.way_back.follow

            tells : TellsAs j.least A x.window x.telling (FirstPiece octets)
            tells = subst (λ (y : Brings). TellsAs j.least A x.window x.telling y) f.brings behind.2

            una : 1 ≤ p.b.tcp.send.una
            una = subst (λ (n : ℕ). 1 ≤ n) (sym f.una) behind.3.0.some

            clear : 1 ≤ view.out.clear
            clear = f.clear.0 refl refl

            -- ---- the keys are told

            abbrev end_told : PathEnd
            end_told = record p.b { modes = record p.b.modes { peer_key = Some keys.a; clear = true }; treated = record p.b.treated { keys_told = true } }

            abbrev books_noted : SixBooks
            books_noted = after_ask (Ask.Control B (ControlCall.Keys keys.b keys.a)) books

            abbrev noted : FacesOfB keys k j s v a b books_noted (with_agenda ds (with_end B end_told p))
            noted = treated_on view refl (sent_some f.came f.answered) p.b.tcp.recv p.b.receiving.mappings p.b.receiving.mapped_data_fin
                end_told.modes end_told.treated (keys_in_book keys.b keys.a books.control_b) refl refl refl
                (modes_known keys view.out.sender view.back.receiver p.b.modes view.own.modes (some_of clear view.own.modes.cleared) clear)
                (keys_noted B keys keys.b keys.a books.control_b view.control)

            abbrev more : FacesOfB keys k j s v a b books_noted (with_agenda (d ∷ ds) (with_end B end_told p))
            more = duty_more d ds noted

            -- ---- what it acknowledges is heard

            there : Emits B ds
            there = subst (λ (es : List Duty). Emits B es) (sym beside.2) (heard_emits B 1 1)

            abbrev books_told : SixBooks
            books_told = after_ask (Ask.Send B (SendCall.AckIn 0 x.telling.edge)) books_noted

            abbrev heard : FacesOfB keys k j s v a b books_told (with_agenda ds (with_end B end_told p))
            heard = hears_on more refl there x true hand 0 x.telling.edge (none_future _) (omega arith) tells.0 (plus_none x.telling.edge) f.rests
                p.b.sending end_told.modes end_told.treated refl
                (told_own more refl there x true hand tells.0 tells.3 (at_most_one tells.2) (below tells.2 una))

            abbrev faces : FacesOfA keys k j s v a b books_told (with_agenda ds (with_end B end_told p))
            faces = from_b keys k j s v a b books_told (with_agenda ds (with_end B end_told p)) heard

            copy : TreatsCopy B keys AfterOne true (FirstPiece octets) (other_bench faces)
            copy = first_copy keys octets (other_bench h.faces) heard.out.sender end_told f refl refl (less_max x.telling.edge (le_refl view.out.edge))
                (less_max x.telling.dss clear) (not_less_max view.out.control_acked x.telling.seen)

            told : Relation books_told (with_agenda ds (with_end B end_told p))
            told = record {
              path = record {
                profile = h.path.profile;
                delay = h.path.delay;
                number = h.path.number;
                unspoken = h.path.unspoken;
                lines = h.path.lines;
                joined = h.path.joined;
              };
              link = h.link;
              faces = faces;
              treats = subst (λ (es : List Duty). Treats keys (own_bench faces) (other_bench faces) es) (sym beside.2)
                  (one_next B keys (own_bench faces) (other_bench faces) beside.0 beside.1 (FirstPiece octets) copy);
            }

            -- the send book knew all that it tells
            books_same : books_told ≡ books_noted
            books_same = ap (λ (y : SendBook). record books_noted { send_b = y }) (ack_of_nothing x.telling.edge books.send_b
                (known_edge tells.1 j_is.least j_is.buffer view.apps.book.edge (f.least refl)))

            -- the control book has the own key
            own_key : (keys.b == books.control_b.keys.own) ≡ true
            own_key = eq-eqb keys.b books.control_b.keys.own (sym view.control.own_key)

            pub first_keys_told : let ask = keys_ask B (Some both_keys) in
                Relation (after_ask ask books) (answered_item values B (Some (Heard.Keys keys.b keys.a)) (reply_of books ask) (with_agenda (d ∷ ds) p))
            first_keys_told =
                subst (λ (y : Bool). Relation books_noted (answered_item values B (Some (Heard.Keys keys.b keys.a))
                (Reply.Control (if y then ControlReply.Noted else ControlReply.KeysDiffer books.control_b.keys.own)) (with_agenda (d ∷ ds) p))) (sym own_key)
                (subst (λ (six : SixBooks). Relation six (with_agenda ds (with_end B end_told p))) books_same told)
