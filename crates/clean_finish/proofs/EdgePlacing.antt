-- The steps in which the bytes of a copy are placed, or none is left to be placed.
use Rattle.clean_finish.proofs.Words.{◌≡◌, refl, sym, subst, ap, ◌∙◌, ℕ, ◌+◌, ◌-◌, ◌≤◌, min, max, nat_lt, Bool, true, false, ◌&&◌, if◌then◌else◌, inl, inr}
use Rattle.clean_finish.proofs.Words.{⊎_elim, Option, None, List, [], ◌∷◌, length, map, arith, Some, is_some, drop, both_ways, le-ltb, ne_eqb, reads_mappings}
use Rattle.clean_finish.proofs.Words.{A, B, Arriving, clash, reaches_past, edge, place_reply, placed_reply, ReassemblyCall, Beyond, KeptMapping, mapping_at}
use Rattle.clean_finish.proofs.Words.{is_at, InfiniteMapping, some_piece, Duty, StepDuty, AskDuty, is_nil, Reply, SixBooks, reply_of, after_ask, Ask, AppState}
use Rattle.clean_finish.proofs.Words.{Profile, Carried, PathEnd, PathState, with_agenda, with_end, after_check, failing_by, forgotten_by, infinite_piece}
use Rattle.clean_finish.proofs.Words.{mapped_piece, mapping_here, next_piece, piece_by, plain_piece, answered_piece, is_placed, piece_ask, check_failed_stands}
use Rattle.clean_finish.proofs.Words.{Setting, Lane, all_left, Going, PathPlan, Start, IsMapping, Sent, Keys, Brings, is_subflow_end, octets_of, CountsAs}
use Rattle.clean_finish.proofs.Words.{data_fin_of, is_news, is_owed, FirstPiece, TreatsCopy, kept_in, own_bench, other_bench, IsSetting, Runs, keys_in}
use Rattle.clean_finish.proofs.Words.{kept_piece, end_duties, place_duties, fin_in, AfterKeeping}
use Rattle.path_store.specs.Passing.{Piece}
use Rattle.path_store.specs.InfiniteMappings.{covers}
use Rattle.clean_finish.specs.Segments.{is_opening}
use Rattle.clean_finish.specs.Segments.Brings.{Piece as Bytes}
use Rattle.clean_finish.proofs.BytesPlaced.{none_clashes, none_past}
use Rattle.clean_finish.proofs.EndPassing.{end_mapped, sent_some, some_of}
use Rattle.clean_finish.proofs.Hands.{in_hand}
use Rattle.clean_finish.proofs.Mapped.{receives_mappings}
use Rattle.clean_finish.proofs.Passing.{free_drops}
use Rattle.clean_finish.proofs.PieceIs.{some_nil, none_left, here_is, next_by, gone, none_here}
use Rattle.clean_finish.proofs.Placed.{chain, counts, high, lane, one_came, place_is, placed, room, under}
use Rattle.clean_finish.proofs.Quiet.{open_when_ready}
use Rattle.clean_finish.proofs.Templates.{emission_emits}
use Rattle.clean_finish.proofs.Turned.{from_a, from_b}

-- what brings bytes brings nothing else
record IsOfBytes (b : Brings) : Type 0 where
  news : is_news b ≡ true
  fin : data_fin_of b ≡ 0
  owed : is_owed b ≡ true
  ends : is_subflow_end b ≡ false
  fins : fin_in b ≡ []

of_bytes : (b : Brings) → 1 ≤ length (octets_of b) → IsOfBytes b
of_bytes (FirstPiece octets) some = record { news = refl; fin = refl; owed = refl; ends = refl; fins = refl }
of_bytes (Bytes octets) some = record { news = refl; fin = refl; owed = refl; ends = refl; fins = refl }
of_bytes _ some = absurd (omega (arith, some))

one_of : {x : ℕ} → x ≡ 1 → 1 ≤ x
one_of is = omega (arith, is)

pub same_counts : (control keys control_then keys_then : ℕ) (b : Brings) → 1 ≤ length (octets_of b) → CountsAs control keys control_then keys_then b
    → (1 ≤ control) × (control_then ≡ control) × (keys_then ≡ keys)
same_counts control keys control_then keys_then (FirstPiece octets) some is = (one_of is.0, is.1 ∙ sym is.0, is.2 ∙ sym is.4)
same_counts control keys control_then keys_then (Bytes octets) some is = (is.0, is.1, is.2)
same_counts control keys control_then keys_then _ some is = absurd (omega (arith, some))

pub kept_some : {X : Type 0} (octets : List ℕ) (y : X) → 1 ≤ length octets → (if is_nil octets then [] else y ∷ []) ≡ y ∷ []
kept_some octets y some = ap (λ (b : Bool). if b then [] else y ∷ []) (some_nil octets some)

held_some : (octets : List ℕ) (edge : ℕ) → 1 ≤ length octets → (if is_nil octets then None else Some edge) ≡ Some edge
held_some octets edge some = ap (λ (b : Bool). if b then None else Some edge) (some_nil octets some)

few_fin : {d e : ℕ} (r g : ℕ) → d ≤ 1 → e ≡ d → (if nat_lt 1 d then Some (r + 1) else None) ≡ (if nat_lt 1 e then Some (g + 1) else None)
few_fin {d} {e} r g less is =
    ap (λ (b : Bool). if b then Some (r + 1) else None) (le-ltb 1 d less)
    ∙ sym (ap (λ (b : Bool). if b then Some (g + 1) else None) (le-ltb 1 e (low is less)))
  where
    low : {x y : ℕ} → y ≡ x → x ≤ 1 → y ≤ 1
    low same p = omega (arith, same, p)

-- the book takes them
placed_by : (bytes : List ℕ) (at : ℕ) (b : Arriving) → reaches_past (edge b) at bytes ≡ false → clash b.known_end at bytes ≡ None
    → is_placed (Reply.Reassembly (place_reply at bytes b)) ≡ true
placed_by bytes at b past none =
    ap (λ (y : Bool). is_placed (Reply.Reassembly (if y then Beyond (edge b) else placed_reply (clash b.known_end at bytes) at bytes b))) past
    ∙ ap (λ (o : Option ℕ). is_placed (Reply.Reassembly (placed_reply o at bytes b))) none

-- without a mapping nothing is placed, no check fails, and nothing is forgotten
here_none : (e : PathEnd) → IsMapping e.modes → e.receiving.mappings.live ≡ [] → mapping_here e ≡ None
here_none e mptcp live =
    ap (λ (b : Bool). if b then None else mapping_at e.receiving.mappings e.tcp.recv.edge) (receives_mappings e.modes e.tcp.recv.edge mptcp)
    ∙ none_here e.receiving.mappings e.tcp.recv.edge live

-- the next bytes are those of the mapping at the edge
next_here : (c : Profile) (e : PathEnd) → IsMapping e.modes → next_piece c e ≡ piece_by c.spelling.checksums (mapping_here e) e.tcp
next_here c e mptcp =
    ap (λ (b : Bool). if b then some_piece (plain_piece e.tcp) else mapped_piece c e) mptcp.0
    ∙ ap (λ (o : Option InfiniteMapping). if covers o e.tcp.recv.edge then infinite_piece o e.tcp else piece_by c.spelling.checksums (mapping_here e) e.tcp) mptcp.2

pub next_none : (c : Profile) (e : PathEnd) → IsMapping e.modes → e.receiving.mappings.live ≡ [] → next_piece c e ≡ None
next_none c e mptcp live = next_here c e mptcp ∙ ap (λ (o : Option KeptMapping). piece_by c.spelling.checksums o e.tcp) (here_none e mptcp live)

pub check_same : (c : Profile) (e : PathEnd) → IsMapping e.modes → e.receiving.mappings.live ≡ [] → after_check c e ≡ e
check_same c e mptcp live = ap (λ (o : Option KeptMapping). forgotten_by c.spelling.checksums o e) (here_none e mptcp live)

none_fails : (c : Profile) (e : PathEnd) → IsMapping e.modes → e.receiving.mappings.live ≡ [] → check_failed_stands c e ≡ false
none_fails c e mptcp live =
    ap (λ (o : Option KeptMapping). is_some (failing_by c.spelling.checksums o e.tcp) && reads_mappings e.modes.mode) (here_none e mptcp live)

pub at_position : {e w d x l : ℕ} → e ≡ 1 + w + (d - 1) → l ≡ w → x ≡ d → 1 ≤ d → d ≤ 1 → l + x ≡ e
at_position a b c one few = omega (arith, a, b, c, one, few)

pub all_few : {a g v total : ℕ} → a ≤ g → g ≤ v → v ≤ total → total ≤ 16777216 → a ≤ 16777216
all_few p q r z = omega (arith, p, q, r, z)

pub near_position : {d x : ℕ} (l n : ℕ) → l + n ≤ 16777216 → x ≡ d → d ≤ 1 → l + x ≤ 16777218
near_position l n p is few = omega (arith, p, is, few)

module _ (start : Start) (plan : PathPlan) (k j : Setting) (s v : Lane) (t0 u0 : ℕ)
    (going : Going k s t0 all_left s) (going_back : Going j v u0 all_left v)
  where
    abbrev keys : Keys
    keys = keys_in start

    module _ (a b : AppState) (books : SixBooks) (p : PathState Carried)
        (k_is : IsSetting p.profile plan.delay k) (j_is : IsSetting p.profile plan.delay j)
      where
        abbrev Relation : SixBooks → PathState Carried → Type 0
        Relation six q = Runs start plan k j s v a b six q

        -- ---- at A

        abbrev piece_by_a : Sent → Piece
        piece_by_a x = record { place = x.low; octets = octets_of x.brings }

        -- the copy, and its bytes
        module _ (h : Relation books (with_agenda (place_duties A) p)) (what : Brings) (told : Bool) (f : TreatsCopy A keys AfterKeeping told what (own_bench h.faces))
            (some : 1 ≤ length (octets_of what))
          where
            abbrev x_a : Sent
            x_a = f.sent

            some_a : 1 ≤ length (octets_of x_a.brings)
            some_a = subst (λ (y : Brings). 1 ≤ length (octets_of y)) (sym f.brings) some

            kind_a : is_opening x_a.brings ≡ false
            kind_a = ap is_opening f.brings ∙ f.kind

            bytes_a : IsOfBytes x_a.brings
            bytes_a = of_bytes x_a.brings some_a

            hand_a : (h.faces).hand ≡ in_hand x_a true false
            hand_a = f.hand ∙ ap (λ (y : Bool). in_hand x_a y false) (ap is_news (sym f.brings) ∙ bytes_a.news)

            count_a : (1 ≤ (h.faces).back.control_came) × (x_a.control ≡ (h.faces).back.control_came) × (x_a.keys ≡ (h.faces).back.keys_came)
            count_a = same_counts (h.faces).back.control_came (h.faces).back.keys_came x_a.control x_a.keys x_a.brings some_a
                (counts plan.delay t0 u0 k_is j_is going going_back (h.faces) x_a hand_a kind_a some_a)

            few_a : (h.faces).back.control_came ≤ 1
            few_a = one_came plan.delay t0 u0 k_is j_is going going_back (h.faces) x_a hand_a kind_a some_a

            position_a : x_a.low + x_a.control ≡ p.a.tcp.recv.edge
            position_a = at_position (h.faces).own.subflow.come.edge (chain plan.delay t0 u0 k_is j_is going going_back (h.faces) x_a hand_a kind_a some_a).0 count_a.1 count_a.0 few_a

            places_a : p.a.tcp.recv.places ≡ map Some (octets_of x_a.brings)
            places_a = f.places ∙ ap (λ (y : Brings). map Some (octets_of y)) (sym f.brings)

            short_a : x_a.low + length (octets_of x_a.brings) ≤ 16777216
            short_a =
                let now = lane plan.delay t0 u0 k_is j_is going going_back (h.faces) x_a hand_a kind_a some_a in
                all_few (high plan.delay t0 u0 k_is j_is going going_back (h.faces) x_a hand_a kind_a some_a) now.numbers.granted now.numbers.written j_is.small

            near_a : x_a.low + x_a.control ≤ 16777218
            near_a = near_position x_a.low (length (octets_of x_a.brings)) short_a count_a.1 few_a

            live_a : p.a.receiving.mappings.live ≡ kept_piece p.profile A x_a (octets_of x_a.brings) ∷ []
            live_a = f.maps.live ∙ (ap (λ (y : Brings). kept_in p.profile A x_a (octets_of y)) (sym f.brings)
                ∙ kept_some (octets_of x_a.brings) (kept_piece p.profile A x_a (octets_of x_a.brings)) some_a)

            next_a : next_piece p.profile p.a ≡ Some (piece_by_a x_a)
            next_a =
                let mptcp = (h.faces).own.modes.mapping in
                next_here p.profile p.a mptcp
                ∙ next_by p.profile A x_a (octets_of x_a.brings) p.a.tcp some_a position_a places_a short_a near_a
                (mapping_here p.a)
                (ap (λ (y : Bool). if y then None else mapping_at p.a.receiving.mappings p.a.tcp.recv.edge) (receives_mappings p.a.modes p.a.tcp.recv.edge mptcp)
                ∙ here_is p.profile A x_a (octets_of x_a.brings) p.a.tcp some_a position_a places_a short_a near_a p.a.receiving.mappings f.maps.forgotten live_a)

            puts_a : let x = f.sent in Relation (after_ask (Ask.Reassembly A (ReassemblyCall.Place x.low (octets_of x.brings))) books) (answered_piece A (Some (piece_by_a x)) true (with_agenda (place_duties A) p))
            puts_a =
                let x = f.sent in
                let t = h.treats in
                let view = h.faces in
                let clear = f.clear.2 refl in
                let up = open_when_ready plan.delay t0 u0 k_is j_is going going_back view (some_of clear view.own.modes.cleared) in
                let faces = placed plan.delay t0 u0 k_is j_is going going_back view x hand_a kind_a some_a bytes_a.fin up.0 up.1 clear
                (sent_some count_a.0 f.answered) (f.owes ∙ (ap is_owed (sym f.brings) ∙ bytes_a.owed)) count_a.0 count_a.1
                (λ is. keys_low count_a.2 (view.own.modes.both is).1) (same_keys count_a.2)
                (inr (inr (inr (inr (inr (inr (inr (inr (inr (inl refl))))))))))
                (inr (inr (inr (inr (inr (inr (inr (inr (inr (inr (inr (emission_emits A).events))))))))))) (inr (inr (inr (inr (inr (inr (inr (inl refl)))))))) in
                record {
                  path = record {
                    profile = h.path.profile;
                    delay = h.path.delay;
                    number = h.path.number;
                    unspoken = h.path.unspoken;
                    lines = h.path.lines;
                    joined = h.path.joined;
                  };
                  link = h.link;
                  faces = faces;
                  treats = (
                    inr (
                      inl (
                        inl (record {
                          sent = x;
                          hand = refl;
                          idle = record {
                            places = ap (λ (ps : List (Option ℕ)). drop (p.a.tcp.recv.edge + length (octets_of x.brings) - p.a.tcp.recv.edge) ps) places_a
                                ∙ none_left p.a.tcp.recv.edge (octets_of x.brings);
                            incoming = refl;
                            fin = f.fin ∙ (ap (λ (y : Bool). if y then Some p.a.tcp.recv.edge else (if nat_lt 1 view.back.control_came then Some (view.back.received + 1) else None))
                                (ap is_subflow_end (sym f.brings) ∙ bytes_a.ends)
                                ∙ few_fin view.back.received (x.low + length (octets_of x.brings)) few_a (same_max count_a.1));
                          };
                          mapped = record {
                            live = gone p.profile A x (octets_of x.brings) p.a.tcp some_a position_a places_a short_a near_a p.a.receiving.mappings live_a;
                            tail = f.maps.tail;
                            beyond = λ n less. f.maps.beyond n (subst (λ (y : Brings). p.a.tcp.recv.edge + length (octets_of y) ≤ n) f.brings less);
                            no_fin = f.maps.no_fin;
                            forgotten = both_low (length (octets_of x.brings)) f.maps.forgotten;
                          };
                          least = f.least;
                          waiting = f.waiting;
                          answered = up_to x.control count_a.0 f.answered;
                          ready = λ is. up_to x.control count_a.0 (f.ready is);
                          shown = f.shown;
                          clear = clear;
                        }),
                        f.fins ∙ (ap fin_in (sym f.brings) ∙ bytes_a.fins),
                      ),
                      ap (λ (o : Option ℕ). is_at (p.a.tcp.recv.edge + length (octets_of x.brings)) o)
                          (f.held_edge ∙ (ap (λ (y : Brings). if is_nil (octets_of y) then None else Some p.a.tcp.recv.edge) (sym f.brings) ∙ held_some (octets_of x.brings) p.a.tcp.recv.edge some_a))
                          ∙ ne_eqb p.a.tcp.recv.edge (p.a.tcp.recv.edge + length (octets_of x.brings)) (apart_by p.a.tcp.recv.edge some_a),
                    ),
                    (t.1.0, t.1.1, refl),
                  );
                }
              where
                keys_low : {y z r : ℕ} → z ≡ y → y ≤ r → max y z ≤ r
                keys_low is less = omega (arith, is, less)

                same_keys : {y z : ℕ} → z ≡ y → max y z ≡ z
                same_keys is = omega (arith, is)

                same_max : {y z : ℕ} → z ≡ y → max y z ≡ y
                same_max is = omega (arith, is)

                up_to : {y w : ℕ} (z : ℕ) → 1 ≤ y → min 1 y ≤ w → min 1 (max y z) ≤ w
                up_to z one less = omega (arith, one, less)

                both_low : {y e : ℕ} (l : ℕ) → y ≤ e → max y (e + l) ≤ e + l
                both_low l less = omega (arith, less)

                apart_by : {l : ℕ} (e : ℕ) → 1 ≤ l → e ≡ e + l → ⊥
                apart_by e one is = absurd (omega (arith, one, is))

            places_bytes_a : let q = with_agenda (place_duties A) p in let o = next_piece p.profile p.a in
                Relation (after_ask (piece_ask A o) books) (answered_piece A o (is_placed (reply_of books (piece_ask A o))) q)
            places_bytes_a =
                let x = f.sent in
                let view = h.faces in
                let at = place_is plan.delay t0 u0 k_is j_is going going_back view x hand_a kind_a some_a in
                subst (λ (o : Option Piece). Relation (after_ask (piece_ask A o) books) (answered_piece A o (is_placed (reply_of books (piece_ask A o))) (with_agenda (place_duties A) p))) (sym next_a)
                (subst (λ (y : Bool). Relation (after_ask (Ask.Reassembly A (ReassemblyCall.Place x.low (octets_of x.brings))) books) (answered_piece A (Some (piece_by_a x)) y (with_agenda (place_duties A) p)))
                (sym (placed_by (octets_of x.brings) x.low books.reassembly_a
                (ap (λ (n : ℕ). reaches_past (edge books.reassembly_a) n (octets_of x.brings)) at
                ∙ none_past books.reassembly_a (octets_of x.brings) view.apps_back.whole some_a view.back.data_fin_came j.total view.apps_back.receives.known
                (room plan.delay t0 u0 k_is j_is going going_back view x hand_a kind_a some_a) (under plan.delay t0 u0 k_is j_is going going_back view x hand_a kind_a some_a))
                (ap (λ (n : ℕ). clash books.reassembly_a.known_end n (octets_of x.brings)) at
                ∙ none_clashes books.reassembly_a (octets_of x.brings) view.apps_back.whole some_a view.back.data_fin_came j.total view.apps_back.receives.known
                (room plan.delay t0 u0 k_is j_is going going_back view x hand_a kind_a some_a) (under plan.delay t0 u0 k_is j_is going going_back view x hand_a kind_a some_a)))) puts_a)

        edge_placed_a : is_some (next_piece p.profile p.a) ≡ true → (h : Relation books (with_agenda (place_duties A) p))
            → let q = with_agenda (place_duties A) p in let o = next_piece p.profile p.a in
            Relation (after_ask (piece_ask A o) books) (answered_piece A o (is_placed (reply_of books (piece_ask A o))) q)
        edge_placed_a on h =
            ⊎_elim
            (λ f. places_bytes_a h f.0 f.1 f.2 f.3)
            (λ x. absurd (both_ways _ (ap (λ (o : Option Piece). is_some o) (next_none p.profile p.a (h.faces).own.modes.mapping (end_mapped A (own_bench h.faces) x.0).live)) on))
            h.treats.0

        pub answers_edge_a : (ds : List Duty) → is_some (next_piece p.profile p.a) ≡ true → Relation books (with_agenda (Duty.Ask (AskDuty.Edge A) ∷ ds) p)
            → let q = with_agenda (Duty.Ask (AskDuty.Edge A) ∷ ds) p in let o = next_piece p.profile p.a in
            Relation (after_ask (piece_ask A o) books) (answered_piece A o (is_placed (reply_of books (piece_ask A o))) q)
        answers_edge_a ds on h =
            subst (λ (es : List Duty). let q = with_agenda (Duty.Ask (AskDuty.Edge A) ∷ es) p in let o = next_piece p.profile p.a in
            Relation (after_ask (piece_ask A o) books) (answered_piece A o (is_placed (reply_of books (piece_ask A o))) q)) (sym h.treats.1.2)
            (edge_placed_a on (subst (λ (es : List Duty). Relation books (with_agenda (Duty.Ask (AskDuty.Edge A) ∷ es) p)) h.treats.1.2 h))

        edge_passed_a : is_some (next_piece p.profile p.a) ≡ false → (h : Relation books (with_agenda (place_duties A) p))
            → Relation books (with_agenda (Duty.Ask (AskDuty.CheckFailed A) ∷ Duty.Step (StepDuty.Unmapped A) ∷ end_duties A) p)
        edge_passed_a off h =
            let t = h.treats in
            ⊎_elim
            (λ f. absurd (both_ways _ off (ap (λ (o : Option Piece). is_some o) (next_a h f.0 f.1 f.2 f.3))))
            (λ x. record {
              path = h.path;
              link = h.link;
              faces = free_drops (Duty.Ask (AskDuty.Edge A)) (Duty.Ask (AskDuty.CheckFailed A) ∷ Duty.Step (StepDuty.Unmapped A) ∷ end_duties A) refl h.faces;
              treats = (x, (t.1.0, t.1.1, refl));
            })
            t.0

        pub passes_edge_a : (ds : List Duty) → is_some (next_piece p.profile p.a) ≡ false → Relation books (with_agenda (Duty.Ask (AskDuty.Edge A) ∷ ds) p)
            → Relation books (with_agenda ds p)
        passes_edge_a ds off h =
            subst (λ (es : List Duty). Relation books (with_agenda es p)) (sym h.treats.1.2)
            (edge_passed_a off (subst (λ (es : List Duty). Relation books (with_agenda (Duty.Ask (AskDuty.Edge A) ∷ es) p)) h.treats.1.2 h))

        checked_a : (h : Relation books (with_agenda (Duty.Ask (AskDuty.CheckFailed A) ∷ Duty.Step (StepDuty.Unmapped A) ∷ end_duties A) p))
            → Relation books (with_agenda (Duty.Step (StepDuty.Unmapped A) ∷ end_duties A) (with_end A (after_check p.profile p.a) p))
        checked_a h =
            let t = h.treats in
            subst (λ (e : PathEnd). Relation books (with_agenda (Duty.Step (StepDuty.Unmapped A) ∷ end_duties A) (with_end A e p)))
            (sym (check_same p.profile p.a h.faces.own.modes.mapping (end_mapped A (own_bench h.faces) t.0.0).live))
            (record {
              path = h.path;
              link = h.link;
              faces = free_drops (Duty.Ask (AskDuty.CheckFailed A)) (Duty.Step (StepDuty.Unmapped A) ∷ end_duties A) refl h.faces;
              treats = (t.0, (t.1.0, t.1.1, refl));
            })

        pub passes_checked_a : (ds : List Duty) → Relation books (with_agenda (Duty.Ask (AskDuty.CheckFailed A) ∷ ds) p)
            → Relation books (with_agenda ds (with_end A (after_check p.profile p.a) p))
        passes_checked_a ds h =
            subst (λ (es : List Duty). Relation books (with_agenda es (with_end A (after_check p.profile p.a) p))) (sym h.treats.1.2)
            (checked_a (subst (λ (es : List Duty). Relation books (with_agenda (Duty.Ask (AskDuty.CheckFailed A) ∷ es) p)) h.treats.1.2 h))

        -- no check fails
        pub stays_right_a : (ds : List Duty) → Relation books (with_agenda (Duty.Ask (AskDuty.CheckFailed A) ∷ ds) p) → check_failed_stands p.profile p.a ≡ false
        stays_right_a ds h = none_fails p.profile p.a h.faces.own.modes.mapping (end_mapped A (own_bench h.faces) h.treats.0.0).live

        -- ---- at B

        abbrev piece_by_b : Sent → Piece
        piece_by_b x = record { place = x.low; octets = octets_of x.brings }

        -- the copy, and its bytes
        module _ (h : Relation books (with_agenda (place_duties B) p)) (what : Brings) (told : Bool) (f : TreatsCopy B keys AfterKeeping told what (other_bench h.faces))
            (some : 1 ≤ length (octets_of what))
          where
            abbrev x_b : Sent
            x_b = f.sent

            some_b : 1 ≤ length (octets_of x_b.brings)
            some_b = subst (λ (y : Brings). 1 ≤ length (octets_of y)) (sym f.brings) some

            kind_b : is_opening x_b.brings ≡ false
            kind_b = ap is_opening f.brings ∙ f.kind

            bytes_b : IsOfBytes x_b.brings
            bytes_b = of_bytes x_b.brings some_b

            hand_b : (from_a keys k j s v a b books (with_agenda (place_duties B) p) h.faces).hand ≡ in_hand x_b true false
            hand_b = f.hand ∙ ap (λ (y : Bool). in_hand x_b y false) (ap is_news (sym f.brings) ∙ bytes_b.news)

            count_b : (1 ≤ (from_a keys k j s v a b books (with_agenda (place_duties B) p) h.faces).back.control_came) × (x_b.control ≡ (from_a keys k j s v a b books (with_agenda (place_duties B) p) h.faces).back.control_came) × (x_b.keys ≡ (from_a keys k j s v a b books (with_agenda (place_duties B) p) h.faces).back.keys_came)
            count_b = same_counts (from_a keys k j s v a b books (with_agenda (place_duties B) p) h.faces).back.control_came (from_a keys k j s v a b books (with_agenda (place_duties B) p) h.faces).back.keys_came x_b.control x_b.keys x_b.brings some_b
                (counts plan.delay u0 t0 j_is k_is going_back going (from_a keys k j s v a b books (with_agenda (place_duties B) p) h.faces) x_b hand_b kind_b some_b)

            few_b : (from_a keys k j s v a b books (with_agenda (place_duties B) p) h.faces).back.control_came ≤ 1
            few_b = one_came plan.delay u0 t0 j_is k_is going_back going (from_a keys k j s v a b books (with_agenda (place_duties B) p) h.faces) x_b hand_b kind_b some_b

            position_b : x_b.low + x_b.control ≡ p.b.tcp.recv.edge
            position_b = at_position (from_a keys k j s v a b books (with_agenda (place_duties B) p) h.faces).own.subflow.come.edge (chain plan.delay u0 t0 j_is k_is going_back going (from_a keys k j s v a b books (with_agenda (place_duties B) p) h.faces) x_b hand_b kind_b some_b).0 count_b.1 count_b.0 few_b

            places_b : p.b.tcp.recv.places ≡ map Some (octets_of x_b.brings)
            places_b = f.places ∙ ap (λ (y : Brings). map Some (octets_of y)) (sym f.brings)

            short_b : x_b.low + length (octets_of x_b.brings) ≤ 16777216
            short_b =
                let now = lane plan.delay u0 t0 j_is k_is going_back going (from_a keys k j s v a b books (with_agenda (place_duties B) p) h.faces) x_b hand_b kind_b some_b in
                all_few (high plan.delay u0 t0 j_is k_is going_back going (from_a keys k j s v a b books (with_agenda (place_duties B) p) h.faces) x_b hand_b kind_b some_b) now.numbers.granted now.numbers.written k_is.small

            near_b : x_b.low + x_b.control ≤ 16777218
            near_b = near_position x_b.low (length (octets_of x_b.brings)) short_b count_b.1 few_b

            live_b : p.b.receiving.mappings.live ≡ kept_piece p.profile B x_b (octets_of x_b.brings) ∷ []
            live_b = f.maps.live ∙ (ap (λ (y : Brings). kept_in p.profile B x_b (octets_of y)) (sym f.brings)
                ∙ kept_some (octets_of x_b.brings) (kept_piece p.profile B x_b (octets_of x_b.brings)) some_b)

            next_b : next_piece p.profile p.b ≡ Some (piece_by_b x_b)
            next_b =
                let mptcp = (from_a keys k j s v a b books (with_agenda (place_duties B) p) h.faces).own.modes.mapping in
                next_here p.profile p.b mptcp
                ∙ next_by p.profile B x_b (octets_of x_b.brings) p.b.tcp some_b position_b places_b short_b near_b
                (mapping_here p.b)
                (ap (λ (y : Bool). if y then None else mapping_at p.b.receiving.mappings p.b.tcp.recv.edge) (receives_mappings p.b.modes p.b.tcp.recv.edge mptcp)
                ∙ here_is p.profile B x_b (octets_of x_b.brings) p.b.tcp some_b position_b places_b short_b near_b p.b.receiving.mappings f.maps.forgotten live_b)

            puts_b : let x = f.sent in Relation (after_ask (Ask.Reassembly B (ReassemblyCall.Place x.low (octets_of x.brings))) books) (answered_piece B (Some (piece_by_b x)) true (with_agenda (place_duties B) p))
            puts_b =
                let x = f.sent in
                let t = h.treats in
                let view = from_a keys k j s v a b books (with_agenda (place_duties B) p) h.faces in
                let clear = f.clear.2 refl in
                let up = open_when_ready plan.delay u0 t0 j_is k_is going_back going view (some_of clear view.own.modes.cleared) in
                let faces = from_b keys k j s v a b (after_ask (Ask.Reassembly B (ReassemblyCall.Place x.low (octets_of x.brings))) books) (answered_piece B (Some (piece_by_b x)) true (with_agenda (place_duties B) p)) (placed plan.delay u0 t0 j_is k_is going_back going view x hand_b kind_b some_b bytes_b.fin up.0 up.1 clear
                (sent_some count_b.0 f.answered) (f.owes ∙ (ap is_owed (sym f.brings) ∙ bytes_b.owed)) count_b.0 count_b.1
                (λ is. keys_low count_b.2 (view.own.modes.both is).1) (same_keys count_b.2)
                (inr (inr (inr (inr (inr (inr (inr (inr (inr (inl refl))))))))))
                (inr (inr (inr (inr (inr (inr (inr (inr (inr (inr (inr (emission_emits B).events))))))))))) (inr (inr (inr (inr (inr (inr (inr (inl refl))))))))) in
                record {
                  path = record {
                    profile = h.path.profile;
                    delay = h.path.delay;
                    number = h.path.number;
                    unspoken = h.path.unspoken;
                    lines = h.path.lines;
                    joined = h.path.joined;
                  };
                  link = h.link;
                  faces = faces;
                  treats = (
                    inr (
                      inl (
                        inl (record {
                          sent = x;
                          hand = refl;
                          idle = record {
                            places = ap (λ (ps : List (Option ℕ)). drop (p.b.tcp.recv.edge + length (octets_of x.brings) - p.b.tcp.recv.edge) ps) places_b
                                ∙ none_left p.b.tcp.recv.edge (octets_of x.brings);
                            incoming = refl;
                            fin = f.fin ∙ (ap (λ (y : Bool). if y then Some p.b.tcp.recv.edge else (if nat_lt 1 view.back.control_came then Some (view.back.received + 1) else None))
                                (ap is_subflow_end (sym f.brings) ∙ bytes_b.ends)
                                ∙ few_fin view.back.received (x.low + length (octets_of x.brings)) few_b (same_max count_b.1));
                          };
                          mapped = record {
                            live = gone p.profile B x (octets_of x.brings) p.b.tcp some_b position_b places_b short_b near_b p.b.receiving.mappings live_b;
                            tail = f.maps.tail;
                            beyond = λ n less. f.maps.beyond n (subst (λ (y : Brings). p.b.tcp.recv.edge + length (octets_of y) ≤ n) f.brings less);
                            no_fin = f.maps.no_fin;
                            forgotten = both_low (length (octets_of x.brings)) f.maps.forgotten;
                          };
                          least = f.least;
                          waiting = f.waiting;
                          answered = up_to x.control count_b.0 f.answered;
                          ready = λ is. up_to x.control count_b.0 (f.ready is);
                          shown = f.shown;
                          clear = clear;
                        }),
                        f.fins ∙ (ap fin_in (sym f.brings) ∙ bytes_b.fins),
                      ),
                      ap (λ (o : Option ℕ). is_at (p.b.tcp.recv.edge + length (octets_of x.brings)) o)
                          (f.held_edge ∙ (ap (λ (y : Brings). if is_nil (octets_of y) then None else Some p.b.tcp.recv.edge) (sym f.brings) ∙ held_some (octets_of x.brings) p.b.tcp.recv.edge some_b))
                          ∙ ne_eqb p.b.tcp.recv.edge (p.b.tcp.recv.edge + length (octets_of x.brings)) (apart_by p.b.tcp.recv.edge some_b),
                    ),
                    (t.1.0, t.1.1, refl),
                  );
                }
              where
                keys_low : {y z r : ℕ} → z ≡ y → y ≤ r → max y z ≤ r
                keys_low is less = omega (arith, is, less)

                same_keys : {y z : ℕ} → z ≡ y → max y z ≡ z
                same_keys is = omega (arith, is)

                same_max : {y z : ℕ} → z ≡ y → max y z ≡ y
                same_max is = omega (arith, is)

                up_to : {y w : ℕ} (z : ℕ) → 1 ≤ y → min 1 y ≤ w → min 1 (max y z) ≤ w
                up_to z one less = omega (arith, one, less)

                both_low : {y e : ℕ} (l : ℕ) → y ≤ e → max y (e + l) ≤ e + l
                both_low l less = omega (arith, less)

                apart_by : {l : ℕ} (e : ℕ) → 1 ≤ l → e ≡ e + l → ⊥
                apart_by e one is = absurd (omega (arith, one, is))

            places_bytes_b : let q = with_agenda (place_duties B) p in let o = next_piece p.profile p.b in
                Relation (after_ask (piece_ask B o) books) (answered_piece B o (is_placed (reply_of books (piece_ask B o))) q)
            places_bytes_b =
                let x = f.sent in
                let view = from_a keys k j s v a b books (with_agenda (place_duties B) p) h.faces in
                let at = place_is plan.delay u0 t0 j_is k_is going_back going view x hand_b kind_b some_b in
                subst (λ (o : Option Piece). Relation (after_ask (piece_ask B o) books) (answered_piece B o (is_placed (reply_of books (piece_ask B o))) (with_agenda (place_duties B) p))) (sym next_b)
                (subst (λ (y : Bool). Relation (after_ask (Ask.Reassembly B (ReassemblyCall.Place x.low (octets_of x.brings))) books) (answered_piece B (Some (piece_by_b x)) y (with_agenda (place_duties B) p)))
                (sym (placed_by (octets_of x.brings) x.low books.reassembly_b
                (ap (λ (n : ℕ). reaches_past (edge books.reassembly_b) n (octets_of x.brings)) at
                ∙ none_past books.reassembly_b (octets_of x.brings) view.apps_back.whole some_b view.back.data_fin_came k.total view.apps_back.receives.known
                (room plan.delay u0 t0 j_is k_is going_back going view x hand_b kind_b some_b) (under plan.delay u0 t0 j_is k_is going_back going view x hand_b kind_b some_b))
                (ap (λ (n : ℕ). clash books.reassembly_b.known_end n (octets_of x.brings)) at
                ∙ none_clashes books.reassembly_b (octets_of x.brings) view.apps_back.whole some_b view.back.data_fin_came k.total view.apps_back.receives.known
                (room plan.delay u0 t0 j_is k_is going_back going view x hand_b kind_b some_b) (under plan.delay u0 t0 j_is k_is going_back going view x hand_b kind_b some_b)))) puts_b)

        edge_placed_b : is_some (next_piece p.profile p.b) ≡ true → (h : Relation books (with_agenda (place_duties B) p))
            → let q = with_agenda (place_duties B) p in let o = next_piece p.profile p.b in
            Relation (after_ask (piece_ask B o) books) (answered_piece B o (is_placed (reply_of books (piece_ask B o))) q)
        edge_placed_b on h =
            ⊎_elim
            (λ f. places_bytes_b h f.0 f.1 f.2 f.3)
            (λ x. absurd (both_ways _ (ap (λ (o : Option Piece). is_some o) (next_none p.profile p.b (from_a keys k j s v a b books (with_agenda (place_duties B) p) h.faces).own.modes.mapping (end_mapped B (other_bench h.faces) x.0).live)) on))
            h.treats.0

        pub answers_edge_b : (ds : List Duty) → is_some (next_piece p.profile p.b) ≡ true → Relation books (with_agenda (Duty.Ask (AskDuty.Edge B) ∷ ds) p)
            → let q = with_agenda (Duty.Ask (AskDuty.Edge B) ∷ ds) p in let o = next_piece p.profile p.b in
            Relation (after_ask (piece_ask B o) books) (answered_piece B o (is_placed (reply_of books (piece_ask B o))) q)
        answers_edge_b ds on h =
            subst (λ (es : List Duty). let q = with_agenda (Duty.Ask (AskDuty.Edge B) ∷ es) p in let o = next_piece p.profile p.b in
            Relation (after_ask (piece_ask B o) books) (answered_piece B o (is_placed (reply_of books (piece_ask B o))) q)) (sym h.treats.1.2)
            (edge_placed_b on (subst (λ (es : List Duty). Relation books (with_agenda (Duty.Ask (AskDuty.Edge B) ∷ es) p)) h.treats.1.2 h))

        edge_passed_b : is_some (next_piece p.profile p.b) ≡ false → (h : Relation books (with_agenda (place_duties B) p))
            → Relation books (with_agenda (Duty.Ask (AskDuty.CheckFailed B) ∷ Duty.Step (StepDuty.Unmapped B) ∷ end_duties B) p)
        edge_passed_b off h =
            let t = h.treats in
            ⊎_elim
            (λ f. absurd (both_ways _ off (ap (λ (o : Option Piece). is_some o) (next_b h f.0 f.1 f.2 f.3))))
            (λ x. record {
              path = h.path;
              link = h.link;
              faces = free_drops (Duty.Ask (AskDuty.Edge B)) (Duty.Ask (AskDuty.CheckFailed B) ∷ Duty.Step (StepDuty.Unmapped B) ∷ end_duties B) refl h.faces;
              treats = (x, (t.1.0, t.1.1, refl));
            })
            t.0

        pub passes_edge_b : (ds : List Duty) → is_some (next_piece p.profile p.b) ≡ false → Relation books (with_agenda (Duty.Ask (AskDuty.Edge B) ∷ ds) p)
            → Relation books (with_agenda ds p)
        passes_edge_b ds off h =
            subst (λ (es : List Duty). Relation books (with_agenda es p)) (sym h.treats.1.2)
            (edge_passed_b off (subst (λ (es : List Duty). Relation books (with_agenda (Duty.Ask (AskDuty.Edge B) ∷ es) p)) h.treats.1.2 h))

        checked_b : (h : Relation books (with_agenda (Duty.Ask (AskDuty.CheckFailed B) ∷ Duty.Step (StepDuty.Unmapped B) ∷ end_duties B) p))
            → Relation books (with_agenda (Duty.Step (StepDuty.Unmapped B) ∷ end_duties B) (with_end B (after_check p.profile p.b) p))
        checked_b h =
            let t = h.treats in
            subst (λ (e : PathEnd). Relation books (with_agenda (Duty.Step (StepDuty.Unmapped B) ∷ end_duties B) (with_end B e p)))
            (sym (check_same p.profile p.b h.faces.other.modes.mapping (end_mapped B (other_bench h.faces) t.0.0).live))
            (record {
              path = h.path;
              link = h.link;
              faces = free_drops (Duty.Ask (AskDuty.CheckFailed B)) (Duty.Step (StepDuty.Unmapped B) ∷ end_duties B) refl h.faces;
              treats = (t.0, (t.1.0, t.1.1, refl));
            })

        pub passes_checked_b : (ds : List Duty) → Relation books (with_agenda (Duty.Ask (AskDuty.CheckFailed B) ∷ ds) p)
            → Relation books (with_agenda ds (with_end B (after_check p.profile p.b) p))
        passes_checked_b ds h =
            subst (λ (es : List Duty). Relation books (with_agenda es (with_end B (after_check p.profile p.b) p))) (sym h.treats.1.2)
            (checked_b (subst (λ (es : List Duty). Relation books (with_agenda (Duty.Ask (AskDuty.CheckFailed B) ∷ es) p)) h.treats.1.2 h))

        -- no check fails
        pub stays_right_b : (ds : List Duty) → Relation books (with_agenda (Duty.Ask (AskDuty.CheckFailed B) ∷ ds) p) → check_failed_stands p.profile p.b ≡ false
        stays_right_b ds h = none_fails p.profile p.b h.faces.other.modes.mapping (end_mapped B (other_bench h.faces) h.treats.0.0).live
