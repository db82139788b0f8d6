-- B takes the third segment: A's keys, which were told before, and what it acknowledges.
--
-- A duty at which both lanes take the copy (the third segment) is two lemmas over `Facing`, with the duty put back
-- between them (`duty_more`; `proofs/ThirdTaken`). Where a lane hears what no book is told, that the book stays so is
-- an equation (`proofs/BookStays`), and `subst` over all six books at the end.
use Rattle.clean_finish.proofs.Words.{◌≡◌, refl, sym, subst, ap, ◌∙◌, ℕ, ◌+◌, ◌<◌, ◌≤◌, min, max, nat_lt, true, false, if◌then◌else◌, inl, inr, Option, None}
use Rattle.clean_finish.proofs.Words.{List, ◌∷◌, ◌++◌, length, arith, Some, le_refl, both_ways, le-ltb, A, B, SendBook, SendCall, Duty, SendDuty, StepDuty}
use Rattle.clean_finish.proofs.Words.{payload_came, SixBooks, after_ask, Ask, AppState, Carried, PathState, with_agenda, Setting, Lane, all_left, Sender}
use Rattle.clean_finish.proofs.Words.{Receiver, Going, PathPlan, Start, Hand, brings_in, IsOpen, Sent, Keys, Brings, octets_of, CountsAs, TellsAs, Follow}
use Rattle.clean_finish.proofs.Words.{data_fin_of, ShowsKeys, Beside, Treats, TreatsCopy, own_bench, other_bench, FacesOfB, IsSetting, Runs, keys_in, Has}
use Rattle.clean_finish.proofs.Words.{Bench, FacesOfA, AtFirst, AfterOne}
use Rattle.clean_finish.specs.Segments.{is_opening}
use Rattle.clean_finish.proofs.Acknowledged.{hears_on}
use Rattle.clean_finish.proofs.BookStays.{ack_of_nothing}
use Rattle.clean_finish.proofs.Brought.{brought}
use Rattle.clean_finish.proofs.DutyMore.{duty_more}
use Rattle.clean_finish.proofs.EndPassing.{sent_some, some_of}
use Rattle.clean_finish.proofs.Hands.{in_hand}
use Rattle.clean_finish.proofs.HeardNext.{one_next, heard_emits}
use Rattle.clean_finish.proofs.Quiet.{open_when_ready}
use Rattle.clean_finish.proofs.Raised.{Emits}
use Rattle.clean_finish.proofs.SynTold.{told_own}
use Rattle.clean_finish.proofs.TakesIn.{all_of, own_taken, control_is as control_taken, data_fin, low_bytes, no_fin, reads_on, receives_on}
use Rattle.clean_finish.proofs.Turned.{from_a, from_b}

-- ---- numbers

at_most_one : {x : ℕ} → x ≡ 1 → x ≤ 1
at_most_one is = omega (arith, is)

below : {x y : ℕ} → x ≡ 1 → 1 ≤ y → x ≤ y
below is some = omega (arith, is, some)

none_future : (n : ℕ) → nat_lt n 0 ≡ false
none_future n = le-ltb n 0 (omega arith)

plus_none : (x : ℕ) → x ≡ 0 + x
plus_none x = omega arith

none_more : {l : ℕ} (e : ℕ) → l ≡ 0 → e ≡ e + l
none_more e is = omega (arith, is)

less_max : {x y : ℕ} (z : ℕ) → x ≤ y → x ≤ max y z
less_max z less = omega (arith, less)

not_less_max : (x y : ℕ) → max x y < y → ⊥
not_less_max x y less = absurd (omega (arith, less))

new_keys : {x y : ℕ} → x ≡ 0 → y ≡ 1 → x < y
new_keys p q = omega (arith, p, q)

shown_now : {x y : ℕ} → x ≡ 0 → y ≡ 1 → max x y ≡ y
shown_now p q = omega (arith, p, q)

few_shown : {x y z : ℕ} → x ≡ 0 → y ≡ 1 → 1 ≤ z → max x y ≤ z
few_shown p q r = omega (arith, p, q, r)

same_max : {x y : ℕ} → y ≡ x → max x y ≡ x
same_max is = omega (arith, is)

same_count : {x y : ℕ} → x ≡ 1 → y ≡ 1 → y ≡ x
same_count p q = omega (arith, p, q)

none_received : {l n r : ℕ} → l ≡ r → n ≡ 0 → l + n ≡ r
none_received p q = omega (arith, p, q)

pub known_edge : {told least buffer capacity edge out : ℕ} → told ≡ least → least ≡ min 65535 capacity → buffer ≡ capacity → edge ≡ out → min 65535 buffer ≤ out → told ≤ edge
known_edge p q r z less = omega (arith, p, q, r, z, less)

fin_same : {d e r g : ℕ} → e ≡ d → g ≡ r
    → (if nat_lt 1 d then Some (r + 1) else None) ≡ (if nat_lt 1 e then Some (g + 1) else None)
fin_same {d} {e} {r} {g} p q = ap (λ (n : ℕ). if nat_lt 1 n then Some (r + 1) else None) (sym p) ∙ ap (λ (n : ℕ). if nat_lt 1 e then Some (n + 1) else None) (sym q)

not_a : B ≡ A → ⊥
not_a e = cc

-- both lanes took it
third_copy : (keys : Keys) (x : Bench) (out : Sender) (back : Receiver) (f : TreatsCopy B keys AtFirst true ShowsKeys x)
    → out.control_sent ≡ x.out.control_sent → x.out.edge ≤ out.edge → x.out.clear ≤ out.clear → (out.control_acked < f.sent.telling.seen → ⊥)
    → back.control_came ≡ x.back.control_came → back.received ≡ x.back.received
    → TreatsCopy B keys AfterOne true ShowsKeys (record x { out = out; back = back; hand = in_hand f.sent false false })
third_copy keys x out back f sent_same wider clearer taken came_same received_same = record {
  sent = f.sent;
  brings = f.brings;
  hand = refl;
  kind = f.kind;
  some = f.some;
  keyed = f.keyed;
  items = f.items;
  opened = f.opened;
  keys_told = f.keys_told;
  has_option = f.has_option;
  fins = f.fins;
  asked = f.asked;
  plain_ack = f.plain_ack;
  held_edge = f.held_edge;
  owes = f.owes;
  came = subst (λ (n : ℕ). 1 ≤ n) (sym came_same) f.came;
  una = f.una;
  high = f.high;
  rests = λ less. absurd (taken less);
  waiting = f.waiting;
  answered = subst (λ (n : ℕ). min 1 back.control_came ≤ n) (sym sent_same) (subst (λ (n : ℕ). min 1 n ≤ x.out.control_sent) (sym came_same) f.answered);
  ready = λ is. absurd (not_a is);
  shown = λ is. absurd (not_a is);
  least = λ is. up (f.least is) wider;
  clear = (λ is third. absurd (both_ways true third refl), λ e. up (f.clear.1 e) clearer, λ e. up (f.clear.1 refl) clearer);
  unkeyed = λ third e. absurd (both_ways true e refl);
  places = f.places;
  incoming = f.incoming;
  fin = f.fin ∙ fin_same came_same received_same;
  maps = f.maps;
}
  where
    up : {y z t : ℕ} → y ≤ z → z ≤ t → y ≤ t
    up p q = omega (arith, p, q)

module _ (start : Start) (plan : PathPlan) (k j : Setting) (s v : Lane) (t0 u0 : ℕ)
    (going : Going k s t0 all_left s) (going_back : Going j v u0 all_left v)
  where
    abbrev keys : Keys
    keys = keys_in start

    module _ (a b : AppState) (books : SixBooks) (p : PathState Carried)
        (k_is : IsSetting p.profile plan.delay k) (j_is : IsSetting p.profile plan.delay j)
      where
        abbrev Relation : SixBooks → PathState Carried → Type 0
        Relation six q = Runs start plan k j s v a b six q

        abbrev d : Duty
        d = Duty.Step (StepDuty.Heard B 0)

        module _ (ds : List Duty) (h : Relation books (with_agenda (d ∷ ds) p)) (f : TreatsCopy B keys AtFirst true ShowsKeys (other_bench h.faces))
            (beside : Beside B (own_bench h.faces) (other_bench h.faces) ds (payload_came B))
          where
            abbrev x : Sent
            x = f.sent

            abbrev view : FacesOfB keys k j s v a b books (with_agenda (d ∷ ds) p)
            view = from_a keys k j s v a b books (with_agenda (d ∷ ds) p) h.faces

            hand : view.hand ≡ in_hand x true true
            hand = f.hand

            kind : is_opening x.brings ≡ false
            kind = ap is_opening f.brings

            no_bytes : length (octets_of x.brings) ≡ 0
            no_bytes = ap (λ (y : Brings). length (octets_of y)) f.brings

            no_end : data_fin_of x.brings ≡ 0
            no_end = ap data_fin_of f.brings

            -- ---- what it says

            behind : Follow j.least j.total k.total A view.back.received view.back.control_came view.back.keys_came (x ∷ view.way_back.sent)
            behind = subst (λ (o : Option Hand). Follow j.least j.total k.total A view.back.received view.back.control_came view.back.keys_came (brings_in o ++ view.way_back.sent))
                hand view.way_back.follow

            counts : CountsAs view.back.control_came view.back.keys_came x.control x.keys ShowsKeys
            counts = subst (λ (y : Brings). CountsAs view.back.control_came view.back.keys_came x.control x.keys y) f.brings behind.1

            tells : TellsAs j.least A x.window x.telling ShowsKeys
            tells = subst (λ (y : Brings). TellsAs j.least A x.window x.telling y) f.brings behind.2

            una : 1 ≤ p.b.tcp.send.una
            una = subst (λ (n : ℕ). 1 ≤ n) (sym f.una) behind.3.0.some

            -- ---- what it acknowledges is heard

            there : Emits B ds
            there = subst (λ (es : List Duty). Emits B es) (sym beside.2) (heard_emits B 1 0)

            abbrev books_told : SixBooks
            books_told = after_ask (Ask.Send B (SendCall.AckIn 0 x.telling.edge)) books

            abbrev heard : FacesOfB keys k j s v a b books_told (with_agenda ds p)
            heard = hears_on view refl there x true hand 0 x.telling.edge (none_future _) (omega arith) tells.0 (plus_none x.telling.edge) f.rests
                p.b.sending p.b.modes p.b.treated refl
                (told_own view refl there x true hand tells.0 tells.3 (at_most_one tells.2) (below tells.2 una))

            abbrev more : FacesOfB keys k j s v a b books_told (with_agenda (d ∷ ds) p)
            more = duty_more d ds heard

            -- ---- the keys are taken

            clear : 1 ≤ more.out.clear
            clear = less_max x.telling.dss (f.clear.1 refl)

            ready : 1 ≤ view.out.ready
            ready = some_of (f.clear.1 refl) view.own.modes.cleared

            acknowledges : Has (Duty.Send (SendDuty.Acknowledge B)) ds
            acknowledges = subst (λ (es : List Duty). Has (Duty.Send (SendDuty.Acknowledge B)) es) (sym beside.2)
                (inr (inr (inr (inr (inr (inr (inr (inr (inr (inr (inr (inr (inr (inr (inl refl)))))))))))))))

            control_same : x.control ≡ more.back.control_came
            control_same = same_count counts.0 counts.1

            is_open : (1 ≤ p.b.tcp.send.una) × IsOpen p.b.tcp.send.finished p.b.tcp.state
            is_open = open_when_ready plan.delay u0 t0 j_is k_is going_back going view ready

            abbrev taken : FacesOfB keys k j s v a b books_told (with_agenda ds p)
            taken = brought more refl x false refl p.b.tcp.recv p.b.tcp.state p.b.sending p.b.receiving p.b.modes p.b.treated books.reassembly_b
                view.stage_back.ask (sent_some f.came f.answered) f.owes acknowledges there.events (inr (inr (inr (new_keys counts.2 counts.3))))
                (λ e. (e, low_bytes more refl x refl kind no_end no_bytes, no_fin more refl x refl kind no_end)) heard.stages_back.ask
                (all_of more refl x refl kind) (control_taken more refl x refl kind control_same) (shown_now counts.2 counts.3) (le_refl p.b.tcp.recv.edge)
                (own_taken more refl x refl kind f.owes una is_open.1 f.came clear control_same (λ is. few_shown counts.2 counts.3 ready)
                p.b.tcp.recv (none_more p.b.tcp.recv.edge no_bytes) refl p.b.sending.close refl (data_fin more refl x refl kind no_end ∙ more.own.sending.came)
                p.b.receiving.mappings p.b.receiving.mapped_data_fin p.b.treated)
                (reads_on more refl x refl kind no_end no_bytes) (receives_on more refl x refl kind no_end no_bytes) view.apps_back.whole refl

            abbrev faces : FacesOfA keys k j s v a b books_told (with_agenda ds p)
            faces = from_b keys k j s v a b books_told (with_agenda ds p) taken

            copy : TreatsCopy B keys AfterOne true ShowsKeys (other_bench faces)
            copy = third_copy keys (other_bench h.faces) taken.out.sender taken.back.receiver f refl (less_max x.telling.edge (le_refl view.out.edge)) (less_max x.telling.dss (le_refl view.out.clear))
                (not_less_max view.out.control_acked x.telling.seen) (same_max control_same) (none_received behind.0 no_bytes)

            told : Relation books_told (with_agenda ds p)
            told = record {
              path = record {
                profile = h.path.profile;
                delay = h.path.delay;
                number = h.path.number;
                unspoken = h.path.unspoken;
                lines = h.path.lines;
                joined = h.path.joined;
              };
              link = h.link;
              faces = faces;
              treats = subst (λ (es : List Duty). Treats keys (own_bench faces) (other_bench faces) es) (sym beside.2)
                  (one_next B keys (own_bench faces) (other_bench faces) beside.0 beside.1 ShowsKeys copy);
            }

            -- the send book knew all that it tells
            books_same : books_told ≡ books
            books_same = ap (λ (y : SendBook). record books { send_b = y }) (ack_of_nothing x.telling.edge books.send_b
                (known_edge tells.1 j_is.least j_is.buffer view.apps.book.edge (f.least refl)))

            pub passes_third_b : Relation books (with_agenda ds p)
            passes_third_b = subst (λ (six : SixBooks). Relation six (with_agenda ds p)) books_same told
