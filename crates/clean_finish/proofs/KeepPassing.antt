-- What is passed of a copy behind all that it says: it has a Data ACK or none is new, and its payload is kept.
use Rattle.clean_finish.proofs.Words.{◌≡◌, refl, sym, subst, ap, ◌∙◌, ℕ, ◌+◌, ◌-◌, ◌≤◌, nat_lt, Bool, true, false, not, ◌&&◌, ◌||◌, if◌then◌else◌, ◌⊎◌, inl}
use Rattle.clean_finish.proofs.Words.{inr, Option, None, List, [], ◌∷◌, length, map, arith, Some, is_some, nat_le, unwrap_or, both_ways, le-ltb, is_starting}
use Rattle.clean_finish.proofs.Words.{Side, A, B, is_sure, Receiving, after_keep_held, without_held, is_behind, is_fin_passed, after_dropping_held}
use Rattle.clean_finish.proofs.Words.{after_keeping_held, is_at, one_if, InfiniteMapping, Duty, StepDuty, AskDuty, SilentDuty, is_nil, SixBooks, AppState}
use Rattle.clean_finish.proofs.Words.{Profile, Carried, PathEnd, PathState, with_agenda, with_end, sends_plainly, acknowledged_under, is_joined, after_keep}
use Rattle.clean_finish.proofs.Words.{is_dropped, plain_ack_stands, plain_data_stands, subflow_ack_stands, with_plain_ack, is_side_a, Setting, Lane, all_left}
use Rattle.clean_finish.proofs.Words.{Going, PathPlan, Start, IsMapping, NoneMapped, Keys, Brings, shows_keys, is_subflow_end, octets_of, is_news, OpensSubflow}
use Rattle.clean_finish.proofs.Words.{ShowsKeys, FirstPiece, Piece, Acknowledges, EndsStream, EndsSubflow, TreatsCopy, kept_in, own_bench, other_bench}
use Rattle.clean_finish.proofs.Words.{IsSetting, Runs, keys_in, Bench, place_duties, TreatsEnd, TreatsLast, TreatsBytes, IsLanded, AfterAll, AfterKeeping}
use Rattle.path_store.specs.Counts.{one_more}
use Rattle.clean_finish.proofs.EndPassing.{sent_some}
use Rattle.clean_finish.proofs.Hands.{in_hand}
use Rattle.clean_finish.proofs.NoneBehind.{one_came}
use Rattle.clean_finish.proofs.Passing.{free_drops}
use Rattle.clean_finish.proofs.TreatedOn.{treated_on}
use Rattle.clean_finish.proofs.Turned.{from_a, from_b}

-- ---- what doesn't stand

pub no_plain_ack : (c : Profile) (e : PathEnd) → e.treated.plain_ack ≡ false → plain_ack_stands c e ≡ false
no_plain_ack c e none = ap (λ (b : Bool). ((b && not (sends_plainly e.modes)) && ((is_joined c && not e.modes.covered) || (is_sure e.modes.mode && nat_le 2 e.modes.plain_acks)))
    || ((b && not (sends_plainly e.modes)) && is_starting e.modes.mode)) none

pub plain_ack_same : (e : PathEnd) → e.treated.plain_ack ≡ false → with_plain_ack e ≡ e
plain_ack_same e none = ap (λ (b : Bool). record e { modes = record e.modes { plain_acks = (if b && not (sends_plainly e.modes) then one_more e.modes.plain_acks else e.modes.plain_acks) } }) none

pub no_subflow_ack : (e : PathEnd) → IsMapping e.modes → subflow_ack_stands e ≡ false
no_subflow_ack e mptcp =
    ap (λ (b : Bool). is_some (if b then Some (e.treated.acknowledged - 1) else acknowledged_under e.modes.own_infinite e.treated.acknowledged) && not e.treated.data_ack_taken) mptcp.0
    ∙ ap (λ (o : Option InfiniteMapping). is_some (acknowledged_under o e.treated.acknowledged) && not e.treated.data_ack_taken) mptcp.1

pub no_plain_data : (e : PathEnd) → e.treated.has_option ≡ true → plain_data_stands e ≡ false
no_plain_data e some = ap (λ (b : Bool). is_some e.treated.held_edge && (not b && is_starting e.modes.mode)) some ∙ by (is_some e.treated.held_edge)
  where
    by : (b : Bool) → (b && false) ≡ false
    by true = refl
    by false = refl

-- ---- the payload

not_dropped : (s : Side) (e : PathEnd) → e.modes.clear ≡ true → is_dropped s e ≡ false
not_dropped s e clear = ap (λ (b : Bool). not (is_side_a s) && (not (b || e.modes.identity) && e.treated.has_option)) clear ∙ by (not (is_side_a s))
  where
    by : (b : Bool) → (b && false) ≡ false
    by true = refl
    by false = refl

abbrev keep_by : Bool → PathEnd → PathEnd
keep_by passed e = record e {
  tcp = record e.tcp { recv = (if passed then without_held e.tcp.recv else after_keep_held e.tcp.recv) };
  treated = record e.treated { held_edge = (if passed then None else e.treated.held_edge) };
}

kept_is : (s : Side) (e : PathEnd) → is_dropped s e ≡ false → after_keep s e ≡ keep_by (is_fin_passed e.tcp) e
kept_is s e kept = ap (λ (b : Bool). record e {
  tcp = (if b then after_dropping_held e.tcp else after_keeping_held e.tcp);
  treated = record e.treated { held_edge = (if b || is_fin_passed e.tcp then None else e.treated.held_edge) };
}) kept

edge_kept : (b : Bool) (r : Receiving) → (if b then without_held r else after_keep_held r).edge ≡ r.edge
edge_kept true r = refl
edge_kept false r = refl

window_kept : (b : Bool) (r : Receiving) → (if b then without_held r else after_keep_held r).window ≡ r.window
window_kept true r = refl
window_kept false r = refl

incoming_kept : (b : Bool) (r : Receiving) → (if b then without_held r else after_keep_held r).incoming ≡ None
incoming_kept true r = refl
incoming_kept false r = refl

places_kept : (octets : List ℕ) (b : Bool) (r : Receiving) → (1 ≤ length octets → b ≡ false) → r.places ≡ []
    → r.incoming ≡ (if is_nil octets then None else Some (map Some octets)) → (if b then without_held r else after_keep_held r).places ≡ map Some octets
places_kept [] true r none places incoming = places
places_kept [] false r none places incoming = ap (λ (o : Option (List (Option ℕ))). unwrap_or o r.places) incoming ∙ places
places_kept (x ∷ octets) b r none places incoming =
    ap (λ (y : Bool). (if y then without_held r else after_keep_held r).places) (none (omega arith)) ∙ ap (λ (o : Option (List (Option ℕ))). unwrap_or o r.places) incoming

edge_in_payload : (octets : List ℕ) (b : Bool) (o : Option ℕ) (edge : ℕ) → (1 ≤ length octets → b ≡ false) → o ≡ (if is_nil octets then None else Some edge)
    → (if b then None else o) ≡ (if is_nil octets then None else Some edge)
edge_in_payload [] true o edge none is = refl
edge_in_payload [] false o edge none is = is
edge_in_payload (x ∷ octets) b o edge none is = ap (λ (y : Bool). if y then None else o) (none (omega arith)) ∙ is

-- what is still to be taken of it
module _ (q : Side) (keys : Keys) (x : Bench) where
  abbrev after : Bench
  after = record x { end = keep_by (is_fin_passed x.end.tcp) x.end }

  abbrev Rest : Type 0
  Rest = TreatsBytes q keys after ⊎ (TreatsEnd q after × IsLanded after)

  module _ (b : Brings) (told : Bool) (f : TreatsCopy q keys AfterAll told b x) (none : 1 ≤ length (octets_of b) → is_fin_passed x.end.tcp ≡ false) where
    edge_same : after.end.tcp.recv.edge ≡ x.end.tcp.recv.edge
    edge_same = edge_kept (is_fin_passed x.end.tcp) x.end.tcp.recv

    places_same : after.end.tcp.recv.places ≡ map Some (octets_of b)
    places_same = places_kept (octets_of b) (is_fin_passed x.end.tcp) x.end.tcp.recv none f.places f.incoming

    held_same : after.end.treated.held_edge ≡ (if is_nil (octets_of b) then None else Some after.end.tcp.recv.edge)
    held_same = edge_in_payload (octets_of b) (is_fin_passed x.end.tcp) x.end.treated.held_edge x.end.tcp.recv.edge none f.held_edge
        ∙ ap (λ (n : ℕ). if is_nil (octets_of b) then None else Some n) (sym edge_same)

    fin_same : after.end.tcp.fin_at
        ≡ (if is_subflow_end b then Some after.end.tcp.recv.edge else (if nat_lt 1 x.back.control_came then Some (x.back.received + 1) else None))
    fin_same = f.fin ∙ ap (λ (n : ℕ). if is_subflow_end b then Some n else (if nat_lt 1 x.back.control_came then Some (x.back.received + 1) else None)) (sym edge_same)

    kept_bytes : TreatsCopy q keys AfterKeeping told b after
    kept_bytes = record {
      sent = f.sent;
      brings = f.brings;
      hand = f.hand;
      kind = f.kind;
      some = f.some;
      keyed = f.keyed;
      items = f.items;
      opened = f.opened;
      keys_told = f.keys_told;
      has_option = f.has_option;
      fins = f.fins;
      asked = f.asked;
      plain_ack = f.plain_ack;
      held_edge = held_same;
      owes = f.owes;
      came = f.came;
      una = f.una;
      high = f.high;
      rests = f.rests;
      waiting = f.waiting;
      answered = f.answered;
      ready = f.ready;
      shown = f.shown;
      least = f.least;
      clear = f.clear;
      unkeyed = f.unkeyed;
      places = places_same;
      incoming = incoming_kept (is_fin_passed x.end.tcp) x.end.tcp.recv;
      fin = fin_same;
      maps = record {
        live = f.maps.live;
        held = f.maps.held;
        tail = f.maps.tail;
        beyond = λ p less. f.maps.beyond p (subst (λ (n : ℕ). n + length (octets_of b) ≤ p) edge_same less);
        no_fin = f.maps.no_fin;
        forgotten = subst (λ (n : ℕ). x.end.receiving.mappings.forgotten ≤ n) (sym edge_same) f.maps.forgotten;
      };
    }

    -- where it has no bytes
    module _ (nil : octets_of b ≡ []) where
      places_none : after.end.tcp.recv.places ≡ []
      places_none = places_same ∙ ap (λ (os : List ℕ). map Some os) nil

      landed : IsLanded after
      landed = ap (λ (o : Option ℕ). is_at after.end.tcp.recv.edge o) (held_same ∙ ap (λ (os : List ℕ). if is_nil os then None else Some after.end.tcp.recv.edge) nil)

      mapped : NoneMapped after.end.tcp.recv.edge after.end.receiving.mappings after.end.receiving.mapped_data_fin
      mapped = record {
        live = f.maps.live ∙ ap (λ (os : List ℕ). kept_in x.profile q f.sent os) nil;
        tail = f.maps.tail;
        beyond = λ p less. f.maps.beyond p (up edge_same (ap (λ (os : List ℕ). length os) nil) less);
        no_fin = f.maps.no_fin;
        forgotten = subst (λ (n : ℕ). x.end.receiving.mappings.forgotten ≤ n) (sym edge_same) f.maps.forgotten;
      }
        where
          up : {e g l p : ℕ} → g ≡ e → l ≡ 0 → g ≤ p → e + l ≤ p
          up is none less = omega (arith, is, none, less)

      last_of : is_news b ≡ false → is_subflow_end b ≡ false → TreatsLast q after
      last_of news ends = record {
        sent = f.sent;
        hand = f.hand ∙ ap (λ (y : Bool). in_hand f.sent y false) news;
        idle = record {
          places = places_none;
          incoming = incoming_kept (is_fin_passed x.end.tcp) x.end.tcp.recv;
          fin = fin_same ∙ ap (λ (y : Bool). if y then Some after.end.tcp.recv.edge else (if nat_lt 1 x.back.control_came then Some (x.back.received + 1) else None)) ends;
        };
        mapped = mapped;
        least = f.least;
        waiting = f.waiting;
        answered = f.answered;
        ready = f.ready;
        shown = f.shown;
        clear = f.clear.2 refl;
      }

  rests : (b : Brings) (told : Bool) (f : TreatsCopy q keys AfterAll told b x) → (1 ≤ length (octets_of b) → is_fin_passed x.end.tcp ≡ false) → Rest
  rests OpensSubflow told f none = absurd (both_ways _ f.kind refl)
  rests ShowsKeys told f none = inr (inl (inl (last_of ShowsKeys told f none refl refl refl), f.fins), landed ShowsKeys told f none refl)
  rests (FirstPiece octets) told f none = inl (FirstPiece octets, told, kept_bytes (FirstPiece octets) told f none, f.some refl)
  rests (Piece octets) told f none = inl (Piece octets, told, kept_bytes (Piece octets) told f none, f.some refl)
  rests Acknowledges told f none = inr (inl (inl (last_of Acknowledges told f none refl refl refl), f.fins), landed Acknowledges told f none refl)
  rests (EndsStream place) told f none = inr (
    inr (record {
      sent = f.sent;
      hand = f.hand;
      place = place;
      brings = f.brings;
      fins = f.fins;
      idle = record {
        places = places_none (EndsStream place) told f none refl;
        incoming = incoming_kept (is_fin_passed x.end.tcp) x.end.tcp.recv;
        fin = f.fin;
      };
      owes = f.owes;
      waiting = f.waiting;
      answered = f.answered;
      ready = f.ready;
      shown = f.shown;
      clear = f.clear.2 refl;
      mapped = mapped (EndsStream place) told f none refl;
      least = f.least;
    }),
    landed (EndsStream place) told f none refl,
  )
  rests EndsSubflow told f none = inr (
    inl (
      inr (record {
        sent = f.sent;
        hand = f.hand;
        brings = f.brings;
        places = places_none EndsSubflow told f none refl;
        fin = fin_same EndsSubflow told f none;
        owes = f.owes;
        waiting = f.waiting;
        answered = f.answered;
        ready = f.ready;
        shown = f.shown;
        clear = f.clear.2 refl;
        mapped = mapped EndsSubflow told f none refl;
        least = f.least;
      }),
      f.fins,
    ),
    landed EndsSubflow told f none refl,
  )

-- no FIN is passed before bytes
fin_none : (b : Brings) (at : Option ℕ) (came received edge : ℕ) → 1 ≤ length (octets_of b) → came ≤ 1
    → at ≡ (if is_subflow_end b then Some edge else (if nat_lt 1 came then Some (received + 1) else None)) → at ≡ None
fin_none (FirstPiece octets) at came received edge some less is = is ∙ ap (λ (y : Bool). if y then Some (received + 1) else None) (le-ltb 1 came less)
fin_none (Piece octets) at came received edge some less is = is ∙ ap (λ (y : Bool). if y then Some (received + 1) else None) (le-ltb 1 came less)
fin_none _ at came received edge some less is = absurd (omega (arith, some))

of_news : (b : Brings) → 1 ≤ length (octets_of b) → is_news b ≡ true
of_news ShowsKeys some = absurd (omega (arith, some))
of_news Acknowledges some = absurd (omega (arith, some))
of_news _ some = refl

-- an end that may use the DSS says so
pub clear_is : (n : ℕ) (b : Bool) → n ≡ one_if b → 1 ≤ n → b ≡ true
clear_is n true is some = refl
clear_is n false is some = absurd (omega (arith, is, some))

module _ (start : Start) (plan : PathPlan) (k j : Setting) (s v : Lane) (t0 u0 : ℕ)
    (going : Going k s t0 all_left s) (going_back : Going j v u0 all_left v)
  where
    abbrev keys : Keys
    keys = keys_in start

    module _ (a b : AppState) (books : SixBooks) (p : PathState Carried)
        (k_is : IsSetting p.profile plan.delay k) (j_is : IsSetting p.profile plan.delay j)
      where
        abbrev Relation : SixBooks → PathState Carried → Type 0
        Relation six q = Runs start plan k j s v a b six q

        -- ---- at A

        subflow_ack_on_a : Relation books (with_agenda (Duty.Ask (AskDuty.SubflowAck A) ∷ Duty.Ask (AskDuty.PlainData A) ∷ Duty.Silent (SilentDuty.Keep A) ∷ place_duties A) p) → Relation books (with_agenda (Duty.Ask (AskDuty.PlainData A) ∷ Duty.Silent (SilentDuty.Keep A) ∷ place_duties A) p)
        subflow_ack_on_a h =
            let t = h.treats in
            record {
              path = h.path;
              link = h.link;
              faces = free_drops (Duty.Ask (AskDuty.SubflowAck A)) (Duty.Ask (AskDuty.PlainData A) ∷ Duty.Silent (SilentDuty.Keep A) ∷ place_duties A) refl h.faces;
              treats = (t.0, t.1, (t.2.0, t.2.1, refl));
            }

        pub passes_subflow_ack_a : (ds : List Duty) → Relation books (with_agenda (Duty.Ask (AskDuty.SubflowAck A) ∷ ds) p) → Relation books (with_agenda ds p)
        passes_subflow_ack_a ds h =
            subst (λ (es : List Duty). Relation books (with_agenda es p)) (sym h.treats.2.2)
            (subflow_ack_on_a (subst (λ (es : List Duty). Relation books (with_agenda (Duty.Ask (AskDuty.SubflowAck A) ∷ es) p)) h.treats.2.2 h))

        plain_data_on_a : Relation books (with_agenda (Duty.Ask (AskDuty.PlainData A) ∷ Duty.Silent (SilentDuty.Keep A) ∷ place_duties A) p) → Relation books (with_agenda (Duty.Silent (SilentDuty.Keep A) ∷ place_duties A) p)
        plain_data_on_a h =
            let t = h.treats in
            record {
              path = h.path;
              link = h.link;
              faces = free_drops (Duty.Ask (AskDuty.PlainData A)) (Duty.Silent (SilentDuty.Keep A) ∷ place_duties A) refl h.faces;
              treats = (t.0, t.1, (t.2.0, t.2.1, refl));
            }

        pub passes_plain_data_a : (ds : List Duty) → Relation books (with_agenda (Duty.Ask (AskDuty.PlainData A) ∷ ds) p) → Relation books (with_agenda ds p)
        passes_plain_data_a ds h =
            subst (λ (es : List Duty). Relation books (with_agenda es p)) (sym h.treats.2.2)
            (plain_data_on_a (subst (λ (es : List Duty). Relation books (with_agenda (Duty.Ask (AskDuty.PlainData A) ∷ es) p)) h.treats.2.2 h))

        plain_ack_on_a : Relation books (with_agenda (Duty.Step (StepDuty.PlainAck A) ∷ Duty.Ask (AskDuty.SubflowAck A) ∷ Duty.Ask (AskDuty.PlainData A) ∷ Duty.Silent (SilentDuty.Keep A) ∷ place_duties A) p) → Relation books (with_agenda (Duty.Ask (AskDuty.SubflowAck A) ∷ Duty.Ask (AskDuty.PlainData A) ∷ Duty.Silent (SilentDuty.Keep A) ∷ place_duties A) (with_end A (with_plain_ack p.a) p))
        plain_ack_on_a h =
            let t = h.treats in
            subst (λ (e : PathEnd). Relation books (with_agenda (Duty.Ask (AskDuty.SubflowAck A) ∷ Duty.Ask (AskDuty.PlainData A) ∷ Duty.Silent (SilentDuty.Keep A) ∷ place_duties A) (with_end A e p))) (sym (plain_ack_same p.a t.1.plain_ack)) (record {
              path = h.path;
              link = h.link;
              faces = free_drops (Duty.Step (StepDuty.PlainAck A)) (Duty.Ask (AskDuty.SubflowAck A) ∷ Duty.Ask (AskDuty.PlainData A) ∷ Duty.Silent (SilentDuty.Keep A) ∷ place_duties A) refl h.faces;
              treats = (t.0, t.1, (t.2.0, t.2.1, refl));
            })

        pub passes_plain_ack_a : (ds : List Duty) → Relation books (with_agenda (Duty.Step (StepDuty.PlainAck A) ∷ ds) p) → Relation books (with_agenda ds (with_end A (with_plain_ack p.a) p))
        passes_plain_ack_a ds h =
            subst (λ (es : List Duty). Relation books (with_agenda es (with_end A (with_plain_ack p.a) p))) (sym h.treats.2.2)
            (plain_ack_on_a (subst (λ (es : List Duty). Relation books (with_agenda (Duty.Step (StepDuty.PlainAck A) ∷ es) p)) h.treats.2.2 h))

        -- they come to nothing
        pub stays_plain_ack_a : (ds : List Duty) → Relation books (with_agenda (Duty.Step (StepDuty.PlainAck A) ∷ ds) p) → plain_ack_stands p.profile p.a ≡ false
        stays_plain_ack_a ds h = no_plain_ack p.profile p.a h.treats.1.plain_ack

        pub stays_subflow_ack_a : (ds : List Duty) → Relation books (with_agenda (Duty.Ask (AskDuty.SubflowAck A) ∷ ds) p) → subflow_ack_stands p.a ≡ false
        stays_subflow_ack_a ds h = no_subflow_ack p.a h.own.modes.mapping

        pub stays_plain_data_a : (ds : List Duty) → Relation books (with_agenda (Duty.Ask (AskDuty.PlainData A) ∷ ds) p) → plain_data_stands p.a ≡ false
        stays_plain_data_a ds h = no_plain_data p.a h.treats.1.has_option

        keep_on_a : Relation books (with_agenda (Duty.Silent (SilentDuty.Keep A) ∷ place_duties A) p) → Relation books (with_agenda (place_duties A) (with_end A (after_keep A p.a) p))
        keep_on_a h =
            let t = h.treats in
            let f = t.1 in
            let view = h.faces in
            let none : 1 ≤ length (octets_of t.0) → is_fin_passed p.a.tcp ≡ false = λ some. ap (λ (o : Option ℕ). is_behind o p.a.tcp.recv.edge)
            (fin_none t.0 p.a.tcp.fin_at view.back.control_came view.back.received p.a.tcp.recv.edge some
            (one_came plan.delay t0 u0 k_is j_is going going_back view f.sent false (f.hand ∙ ap (λ (y : Bool). in_hand f.sent y false) (of_news t.0 some)) (subst (λ (y : Brings). 1 ≤ length (octets_of y)) (sym f.brings) some)) f.fin) in
            let faces = treated_on view refl (sent_some f.came f.answered) (if is_fin_passed p.a.tcp then without_held p.a.tcp.recv else after_keep_held p.a.tcp.recv)
            p.a.receiving.mappings p.a.receiving.mapped_data_fin p.a.modes (record p.a.treated { held_edge = (if is_fin_passed p.a.tcp then None else p.a.treated.held_edge) }) books.control_a
            (edge_kept (is_fin_passed p.a.tcp) p.a.tcp.recv) (window_kept (is_fin_passed p.a.tcp) p.a.tcp.recv) refl view.own.modes view.control in
            subst (λ (e : PathEnd). Relation books (with_agenda (place_duties A) (with_end A e p)))
            (sym (kept_is A p.a (not_dropped A p.a (clear_is view.out.clear p.a.modes.clear view.own.modes.clear (f.clear.2 refl)))))
            (record {
              path = record {
                profile = h.path.profile;
                delay = h.path.delay;
                number = h.path.number;
                unspoken = h.path.unspoken;
                lines = h.path.lines;
                joined = h.path.joined;
              };
              link = h.link;
              faces = faces;
              treats = (rests A keys (own_bench h.faces) t.0 (shows_keys t.0) f none, (t.2.0, t.2.1, refl));
            })

        pub passes_keep_a : (ds : List Duty) → Relation books (with_agenda (Duty.Silent (SilentDuty.Keep A) ∷ ds) p) → Relation books (with_agenda ds (with_end A (after_keep A p.a) p))
        passes_keep_a ds h =
            subst (λ (es : List Duty). Relation books (with_agenda es (with_end A (after_keep A p.a) p))) (sym h.treats.2.2)
            (keep_on_a (subst (λ (es : List Duty). Relation books (with_agenda (Duty.Silent (SilentDuty.Keep A) ∷ es) p)) h.treats.2.2 h))

        -- ---- at B

        subflow_ack_on_b : Relation books (with_agenda (Duty.Ask (AskDuty.SubflowAck B) ∷ Duty.Ask (AskDuty.PlainData B) ∷ Duty.Silent (SilentDuty.Keep B) ∷ place_duties B) p) → Relation books (with_agenda (Duty.Ask (AskDuty.PlainData B) ∷ Duty.Silent (SilentDuty.Keep B) ∷ place_duties B) p)
        subflow_ack_on_b h =
            let t = h.treats in
            record {
              path = h.path;
              link = h.link;
              faces = free_drops (Duty.Ask (AskDuty.SubflowAck B)) (Duty.Ask (AskDuty.PlainData B) ∷ Duty.Silent (SilentDuty.Keep B) ∷ place_duties B) refl h.faces;
              treats = (t.0, t.1, (t.2.0, t.2.1, refl));
            }

        pub passes_subflow_ack_b : (ds : List Duty) → Relation books (with_agenda (Duty.Ask (AskDuty.SubflowAck B) ∷ ds) p) → Relation books (with_agenda ds p)
        passes_subflow_ack_b ds h =
            subst (λ (es : List Duty). Relation books (with_agenda es p)) (sym h.treats.2.2)
            (subflow_ack_on_b (subst (λ (es : List Duty). Relation books (with_agenda (Duty.Ask (AskDuty.SubflowAck B) ∷ es) p)) h.treats.2.2 h))

        plain_data_on_b : Relation books (with_agenda (Duty.Ask (AskDuty.PlainData B) ∷ Duty.Silent (SilentDuty.Keep B) ∷ place_duties B) p) → Relation books (with_agenda (Duty.Silent (SilentDuty.Keep B) ∷ place_duties B) p)
        plain_data_on_b h =
            let t = h.treats in
            record {
              path = h.path;
              link = h.link;
              faces = free_drops (Duty.Ask (AskDuty.PlainData B)) (Duty.Silent (SilentDuty.Keep B) ∷ place_duties B) refl h.faces;
              treats = (t.0, t.1, (t.2.0, t.2.1, refl));
            }

        pub passes_plain_data_b : (ds : List Duty) → Relation books (with_agenda (Duty.Ask (AskDuty.PlainData B) ∷ ds) p) → Relation books (with_agenda ds p)
        passes_plain_data_b ds h =
            subst (λ (es : List Duty). Relation books (with_agenda es p)) (sym h.treats.2.2)
            (plain_data_on_b (subst (λ (es : List Duty). Relation books (with_agenda (Duty.Ask (AskDuty.PlainData B) ∷ es) p)) h.treats.2.2 h))

        plain_ack_on_b : Relation books (with_agenda (Duty.Step (StepDuty.PlainAck B) ∷ Duty.Ask (AskDuty.SubflowAck B) ∷ Duty.Ask (AskDuty.PlainData B) ∷ Duty.Silent (SilentDuty.Keep B) ∷ place_duties B) p) → Relation books (with_agenda (Duty.Ask (AskDuty.SubflowAck B) ∷ Duty.Ask (AskDuty.PlainData B) ∷ Duty.Silent (SilentDuty.Keep B) ∷ place_duties B) (with_end B (with_plain_ack p.b) p))
        plain_ack_on_b h =
            let t = h.treats in
            subst (λ (e : PathEnd). Relation books (with_agenda (Duty.Ask (AskDuty.SubflowAck B) ∷ Duty.Ask (AskDuty.PlainData B) ∷ Duty.Silent (SilentDuty.Keep B) ∷ place_duties B) (with_end B e p))) (sym (plain_ack_same p.b t.1.plain_ack)) (record {
              path = h.path;
              link = h.link;
              faces = free_drops (Duty.Step (StepDuty.PlainAck B)) (Duty.Ask (AskDuty.SubflowAck B) ∷ Duty.Ask (AskDuty.PlainData B) ∷ Duty.Silent (SilentDuty.Keep B) ∷ place_duties B) refl h.faces;
              treats = (t.0, t.1, (t.2.0, t.2.1, refl));
            })

        pub passes_plain_ack_b : (ds : List Duty) → Relation books (with_agenda (Duty.Step (StepDuty.PlainAck B) ∷ ds) p) → Relation books (with_agenda ds (with_end B (with_plain_ack p.b) p))
        passes_plain_ack_b ds h =
            subst (λ (es : List Duty). Relation books (with_agenda es (with_end B (with_plain_ack p.b) p))) (sym h.treats.2.2)
            (plain_ack_on_b (subst (λ (es : List Duty). Relation books (with_agenda (Duty.Step (StepDuty.PlainAck B) ∷ es) p)) h.treats.2.2 h))

        -- they come to nothing
        pub stays_plain_ack_b : (ds : List Duty) → Relation books (with_agenda (Duty.Step (StepDuty.PlainAck B) ∷ ds) p) → plain_ack_stands p.profile p.b ≡ false
        stays_plain_ack_b ds h = no_plain_ack p.profile p.b h.treats.1.plain_ack

        pub stays_subflow_ack_b : (ds : List Duty) → Relation books (with_agenda (Duty.Ask (AskDuty.SubflowAck B) ∷ ds) p) → subflow_ack_stands p.b ≡ false
        stays_subflow_ack_b ds h = no_subflow_ack p.b h.other.modes.mapping

        pub stays_plain_data_b : (ds : List Duty) → Relation books (with_agenda (Duty.Ask (AskDuty.PlainData B) ∷ ds) p) → plain_data_stands p.b ≡ false
        stays_plain_data_b ds h = no_plain_data p.b h.treats.1.has_option

        keep_on_b : Relation books (with_agenda (Duty.Silent (SilentDuty.Keep B) ∷ place_duties B) p) → Relation books (with_agenda (place_duties B) (with_end B (after_keep B p.b) p))
        keep_on_b h =
            let t = h.treats in
            let f = t.1 in
            let view = from_a keys k j s v a b books (with_agenda (Duty.Silent (SilentDuty.Keep B) ∷ place_duties B) p) h.faces in
            let none : 1 ≤ length (octets_of t.0) → is_fin_passed p.b.tcp ≡ false = λ some. ap (λ (o : Option ℕ). is_behind o p.b.tcp.recv.edge)
            (fin_none t.0 p.b.tcp.fin_at view.back.control_came view.back.received p.b.tcp.recv.edge some
            (one_came plan.delay u0 t0 j_is k_is going_back going view f.sent false (f.hand ∙ ap (λ (y : Bool). in_hand f.sent y false) (of_news t.0 some)) (subst (λ (y : Brings). 1 ≤ length (octets_of y)) (sym f.brings) some)) f.fin) in
            let faces = from_b keys k j s v a b (books) (with_agenda (place_duties B) (with_end B (keep_by (is_fin_passed p.b.tcp) p.b) p)) (treated_on view refl (sent_some f.came f.answered) (if is_fin_passed p.b.tcp then without_held p.b.tcp.recv else after_keep_held p.b.tcp.recv)
            p.b.receiving.mappings p.b.receiving.mapped_data_fin p.b.modes (record p.b.treated { held_edge = (if is_fin_passed p.b.tcp then None else p.b.treated.held_edge) }) books.control_b
            (edge_kept (is_fin_passed p.b.tcp) p.b.tcp.recv) (window_kept (is_fin_passed p.b.tcp) p.b.tcp.recv) refl view.own.modes view.control) in
            subst (λ (e : PathEnd). Relation books (with_agenda (place_duties B) (with_end B e p)))
            (sym (kept_is B p.b (not_dropped B p.b (clear_is view.out.clear p.b.modes.clear view.own.modes.clear (f.clear.2 refl)))))
            (record {
              path = record {
                profile = h.path.profile;
                delay = h.path.delay;
                number = h.path.number;
                unspoken = h.path.unspoken;
                lines = h.path.lines;
                joined = h.path.joined;
              };
              link = h.link;
              faces = faces;
              treats = (rests B keys (other_bench h.faces) t.0 (shows_keys t.0) f none, (t.2.0, t.2.1, refl));
            })

        pub passes_keep_b : (ds : List Duty) → Relation books (with_agenda (Duty.Silent (SilentDuty.Keep B) ∷ ds) p) → Relation books (with_agenda ds (with_end B (after_keep B p.b) p))
        passes_keep_b ds h =
            subst (λ (es : List Duty). Relation books (with_agenda es (with_end B (after_keep B p.b) p))) (sym h.treats.2.2)
            (keep_on_b (subst (λ (es : List Duty). Relation books (with_agenda (Duty.Silent (SilentDuty.Keep B) ∷ es) p)) h.treats.2.2 h))
