-- B's SYN is acknowledged by the third segment, whose keys are told to the control book.
use Rattle.clean_finish.proofs.Words.{◌≡◌, refl, sym, subst, ap, ◌∙◌, ℕ, ◌<◌, ◌≤◌, min, Bool, true, false, not, ◌&&◌, ◌||◌, if◌then◌else◌, inr, Option, List}
use Rattle.clean_finish.proofs.Words.{◌∷◌, ◌++◌, arith, Some, le_refl, is_some, ◌==◌, both_ways, is_starting, Side, A, B, ControlReply, ControlCall, State}
use Rattle.clean_finish.proofs.Words.{Duty, AskDuty, heard_and, payload_came, keys_heard, Heard, Reply, SixBooks, reply_of, after_ask, Ask, AppState, Carried}
use Rattle.clean_finish.proofs.Words.{PathEnd, PathState, with_agenda, with_end, is_opened_by_keys, is_opened_plainly, answered_opened, opened_ask, Setting}
use Rattle.clean_finish.proofs.Words.{Lane, all_left, Sender, Going, PathPlan, Start, Hand, brings_in, IsPhase, IsOpen, Sent, Keys, Brings, Follow, ShowsKeys}
use Rattle.clean_finish.proofs.Words.{Beside, Treats, TreatsCopy, count_in, own_bench, other_bench, FacesOfB, IsSetting, Runs, keys_in, Bench, FacesOfA}
use Rattle.clean_finish.proofs.Words.{AtFirst, Opening, Listening, HalfOpen, Open}
use Rattle.std.proofs.Common.{eq-eqb}
use Rattle.path_agenda.specs.declared.keys.KeyPair.{KeyPair}
use Rattle.clean_finish.proofs.Confirmed.{confirmed}
use Rattle.clean_finish.proofs.EndPassing.{sent_some}
use Rattle.clean_finish.proofs.Hands.{in_hand}
use Rattle.clean_finish.proofs.HeardFirst.{third_only}
use Rattle.clean_finish.proofs.HeardNext.{heard_emits}
use Rattle.clean_finish.proofs.Raised.{Emits}
use Rattle.clean_finish.proofs.Turned.{from_a, from_b}

not_a : B ≡ A → ⊥
not_a e = cc

some_min : {x : ℕ} → 1 ≤ x → 1 ≤ min 1 x
some_min some = omega (arith, some)

none_some : {x : ℕ} → x ≡ 0 → 1 ≤ x → ⊥
none_some is some = absurd (omega (arith, is, some))

-- an end whose SYN is acknowledged is open
pub open_when_heard : (s : Side) (came una : ℕ) (finished : Bool) (state : State) → IsPhase s came una finished state → 1 ≤ una → IsOpen finished state
open_when_heard s came una finished state (Opening side none low is) some = absurd (none_some low some)
open_when_heard s came una finished state (Listening side none low is) some = absurd (none_some low some)
open_when_heard s came una finished state (HalfOpen side one low is) some = absurd (none_some low some)
open_when_heard s came una finished state (Open some_came high is) some = is

opens_by : (b x y : Bool) → ((b && x) || (b && y)) ≡ true → b ≡ true
opens_by true x y e = refl
opens_by false x y e = absurd (both_ways false refl e)

-- the copy is the third segment
pub opened_is : (e : PathEnd) → (is_opened_by_keys e || is_opened_plainly e) ≡ true → e.treated.opened ≡ true
opened_is e on = opens_by e.treated.opened (is_some (keys_heard e.treated.items)) (not e.treated.has_option && is_starting e.modes.mode) on

-- with its keys told
confirmed_copy : (keys : Keys) (x : Bench) (out : Sender) (e : PathEnd) (f : TreatsCopy B keys AtFirst false ShowsKeys x)
    → e ≡ record x.end { modes = e.modes; treated = record x.end.treated { keys_told = true } }
    → out.control_sent ≡ x.out.control_sent → x.out.edge ≤ out.edge → out.control_acked ≡ x.out.control_acked → out.timer ≡ x.out.timer → 1 ≤ out.clear
    → TreatsCopy B keys AtFirst true ShowsKeys (record x { out = out; waiting = 0; end = e })
confirmed_copy keys x out e f end_is sent_same wider acked_same timer_same clear =
    subst (λ (y : PathEnd). TreatsCopy B keys AtFirst true ShowsKeys (record x { out = out; waiting = 0; end = y })) (sym end_is) (record {
      sent = f.sent;
      brings = f.brings;
      hand = f.hand;
      kind = f.kind;
      some = f.some;
      keyed = f.keyed;
      items = f.items;
      opened = f.opened;
      keys_told = refl;
      has_option = f.has_option;
      fins = f.fins;
      asked = f.asked;
      plain_ack = f.plain_ack;
      held_edge = f.held_edge;
      owes = f.owes;
      came = f.came;
      una = f.una;
      high = f.high;
      rests = λ less. timer_same ∙ f.rests (subst (λ (n : ℕ). n < f.sent.telling.seen) acked_same less);
      waiting = refl;
      answered = subst (λ (n : ℕ). min 1 x.back.control_came ≤ n) (sym sent_same) f.answered;
      ready = λ is. absurd (not_a is);
      shown = λ is. absurd (not_a is);
      least = λ is. up (f.least is) wider;
      clear = (λ is third. clear, λ told. clear, λ begun. clear);
      unkeyed = λ third told. absurd (both_ways true told refl);
      places = f.places;
      incoming = f.incoming;
      fin = f.fin;
      maps = f.maps;
    })
  where
    up : {y z t : ℕ} → y ≤ z → z ≤ t → y ≤ t
    up p q = omega (arith, p, q)

module _ (start : Start) (plan : PathPlan) (k j : Setting) (s v : Lane) (t0 u0 : ℕ)
    (going : Going k s t0 all_left s) (going_back : Going j v u0 all_left v)
  where
    abbrev keys : Keys
    keys = keys_in start

    module _ (a b : AppState) (books : SixBooks) (p : PathState Carried)
        (k_is : IsSetting p.profile plan.delay k) (j_is : IsSetting p.profile plan.delay j)
      where
        abbrev Relation : SixBooks → PathState Carried → Type 0
        Relation six q = Runs start plan k j s v a b six q

        abbrev d : Duty
        d = Duty.Ask (AskDuty.Opened B)

        abbrev both_keys : KeyPair
        both_keys = record { own = keys.b; peer = keys.a }

        module _ (ds : List Duty) (h : Relation books (with_agenda (d ∷ ds) p)) (f : TreatsCopy B keys AtFirst false ShowsKeys (other_bench h.faces))
            (beside : Beside B (own_bench h.faces) (other_bench h.faces) ds (Duty.Ask (AskDuty.Live B) ∷ heard_and B 0 1 (payload_came B)))
          where
            abbrev x : Sent
            x = f.sent

            abbrev view : FacesOfB keys k j s v a b books (with_agenda (d ∷ ds) p)
            view = from_a keys k j s v a b books (with_agenda (d ∷ ds) p) h.faces

            hand : view.hand ≡ in_hand x true true
            hand = f.hand

            behind : Follow j.least j.total k.total A view.back.received view.back.control_came view.back.keys_came (x ∷ view.way_back.sent)
            behind = subst (λ (o : Option Hand). Follow j.least j.total k.total A view.back.received view.back.control_came view.back.keys_came (brings_in o ++ view.way_back.sent))
                hand view.way_back.follow

            una : 1 ≤ p.b.tcp.send.una
            una = subst (λ (n : ℕ). 1 ≤ n) (sym f.una) behind.3.0.some

            is_open : IsOpen p.b.tcp.send.finished p.b.tcp.state
            is_open = open_when_heard B view.back.control_came p.b.tcp.send.una p.b.tcp.send.finished p.b.tcp.state view.own.subflow.phase una

            there : Emits B ds
            there = subst (λ (es : List Duty). Emits B es) (sym beside.2) (record {
              bytes = inr (heard_emits B 0 1).bytes;
              end = inr (heard_emits B 0 1).end;
              timer = inr (heard_emits B 0 1).timer;
              events = inr (heard_emits B 0 1).events;
            })

            abbrev end_told : PathEnd
            end_told = record p.b { modes = record p.b.modes { peer_key = Some keys.a; clear = true }; treated = record p.b.treated { keys_told = true } }

            abbrev books_noted : SixBooks
            books_noted = after_ask (Ask.Control B (ControlCall.Keys keys.b keys.a)) books

            abbrev told : FacesOfB keys k j s v a b books_noted (with_agenda ds (with_end B end_told p))
            told = confirmed plan.delay u0 t0 j_is k_is going_back going view there f.waiting (sent_some f.came f.answered) (some_min f.came)
                (f.unkeyed refl refl) is_open.connected

            abbrev faces : FacesOfA keys k j s v a b books_noted (with_agenda ds (with_end B end_told p))
            faces = from_b keys k j s v a b books_noted (with_agenda ds (with_end B end_told p)) told

            copy : TreatsCopy B keys AtFirst true ShowsKeys (other_bench faces)
            copy = confirmed_copy keys (other_bench h.faces) told.out.sender end_told f refl refl (le_refl view.out.edge) refl refl (le_refl 1)

            runs_on : Relation books_noted (with_agenda ds (with_end B end_told p))
            runs_on = record {
              path = record {
                profile = h.path.profile;
                delay = h.path.delay;
                number = h.path.number;
                unspoken = h.path.unspoken;
                lines = h.path.lines;
                joined = h.path.joined;
              };
              link = h.link;
              faces = faces;
              treats = subst (λ (es : List Duty). Treats keys (own_bench faces) (other_bench faces) es) (sym beside.2)
                  (inr (ShowsKeys, copy, (beside.0, beside.1, refl)));
            }

            -- the control book has the own key
            own_key : (keys.b == books.control_b.keys.own) ≡ true
            own_key = eq-eqb keys.b books.control_b.keys.own (sym view.control.own_key)

            keys_are : keys_heard p.b.treated.items ≡ Some both_keys
            keys_are = ap (λ (xs : List Heard). keys_heard xs) f.items

            third_told : let q = with_agenda (d ∷ ds) p in let o = keys_heard p.b.treated.items in let ask = opened_ask B o q in
                Relation (after_ask ask books) (answered_opened B o (reply_of books ask) q)
            third_told =
                subst (λ (o : Option KeyPair). let q = with_agenda (d ∷ ds) p in let ask = opened_ask B o q in
                Relation (after_ask ask books) (answered_opened B o (reply_of books ask) q)) (sym keys_are)
                (subst (λ (y : Bool). Relation books_noted (answered_opened B (Some both_keys)
                (Reply.Control (if y then ControlReply.Noted else ControlReply.KeysDiffer books.control_b.keys.own)) (with_agenda (d ∷ ds) p))) (sym own_key)
                runs_on)

        pub answers_opened_b : (ds : List Duty) → (is_opened_by_keys p.b || is_opened_plainly p.b) ≡ true → Relation books (with_agenda (d ∷ ds) p)
            → let q = with_agenda (d ∷ ds) p in let o = keys_heard p.b.treated.items in let ask = opened_ask B o q in
            Relation (after_ask ask books) (answered_opened B o (reply_of books ask) q)
        answers_opened_b ds on h =
            let t = h.treats in
            let is = third_only t.0 (sym t.1.opened ∙ opened_is p.b on) in
            third_told ds h (subst (λ (y : Brings). TreatsCopy B keys AtFirst false y (other_bench h.faces)) is t.1)
            (subst (λ (y : Brings). Beside B (own_bench h.faces) (other_bench h.faces) ds (Duty.Ask (AskDuty.Live B) ∷ heard_and B 0 (count_in y) (payload_came B))) is t.2)
