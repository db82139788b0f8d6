-- The steps in which an end asks for bytes and sends them.
use Rattle.clean_finish.proofs.Words.{◌≡◌, refl, sym, subst, ap, ◌∙◌, ℕ, ◌+◌, ◌<◌, ◌≤◌, max, nat_lt, Bool, true, false, not, ◌&&◌, if◌then◌else◌, ◌⊎◌, inl, inr, made}
use Rattle.clean_finish.proofs.Words.{Option, None, List, [], ◌∷◌, length, arith, Some, nat_le, ◌==◌, ◌^◌, find, Ok, Err, Result, both_ways, lt-ltb, leb-true}
use Rattle.clean_finish.proofs.Words.{eqb-true, Side, A, B, decision, reply_by, given_by, SendCall, Why, Record, is_unsent, syn_record, never_sent, Data, State}
use Rattle.clean_finish.proofs.Words.{is_closed_to_segments, one_if, Occasion, going_to, plain_flight, after_send, PlainSegment, Duty, StepDuty, Reply}
use Rattle.clean_finish.proofs.Words.{SixBooks, reply_of, after_ask, Ask, AppState, Carried, carried_by, stripped, altered, values, is_shut, PathState}
use Rattle.clean_finish.proofs.Words.{with_agenda, record_or_ack, having_sent, sent_on, first_unsent, fits, payload_size, data_stands, data_ask, grant_in}
use Rattle.clean_finish.proofs.Words.{answered_grant, answered_data, mapping_of, is_first_piece, Setting, Lane, all_left, Sender, Going, PathPlan, Start}
use Rattle.clean_finish.proofs.Words.{brings_still, IsPhase, Waits, WaitsSyn, WaitsNone, WaitsBytes, Keys, said, FliesAs, own_bench, other_bench, FacesOfB}
use Rattle.clean_finish.proofs.Words.{IsSetting, Runs, keys_in, FacesOfA, Opening, Listening, HalfOpen, Open}
use Rattle.send_book.specs.declared.call.Span.{Span}
use Rattle.send_book.specs.declared.call.Why.TheVariants.{Ended, NothingFree, WindowShut}
use Rattle.subflow_tcp.specs.States.{is_opening}
use Rattle.clean_finish.proofs.BytesSent.{piece_is, piece, piece_goes}
use Rattle.clean_finish.proofs.Dropping.{differ}
use Rattle.clean_finish.proofs.Emitted.{first_waits}
use Rattle.clean_finish.proofs.FirstSent.{first_is, first, first_goes}
use Rattle.clean_finish.proofs.GrantDecided.{GrantIs}
use Rattle.clean_finish.proofs.GrantDecided.GrantIs.{Gives, AllAcked, AllTaken, IsShut}
use Rattle.clean_finish.proofs.Granted.{span, mapped, granted_on}
use Rattle.clean_finish.proofs.Granting.{some_sent, one_sent, is_ready, fits as fits_count, few_bytes, ahead, unacked, decides, size_some, may_refuse}
use Rattle.clean_finish.proofs.Linking.{carried_is, last_from_a, last_from_b, others_of_a, others_of_b, link_after_a, link_after_b}
use Rattle.clean_finish.proofs.Plainly.{plain_on}
use Rattle.clean_finish.proofs.Refused.{refused_on}
use Rattle.clean_finish.proofs.TellsAll.{lane, came, sent_some}
use Rattle.clean_finish.proofs.Turned.{from_a, from_b}
use Rattle.clean_finish.proofs.Unasked.{asked_before, asks_no_more}

up_max : {x y : ℕ} (z : ℕ) → x ≤ y → x ≤ max y z
up_max z less = omega (arith, less)

few_places : {x y z : ℕ} → x ≤ y → y ≤ z → z ≤ 16777216 → x < 2 ^ 64
few_places p q r = omega (arith, p, q, r)

-- the bytes of a grant wait
record IsWaiting (out : Sender) (rest : List Record) (waiting : ℕ) (r : Record) : Type 0 where
  alone : rest ≡ r ∷ []
  unsent : is_unsent r ≡ true
  one : out.control_sent ≡ 1
  kind : r.kind ≡ Data
  pos : r.pos ≡ out.granted + 1
  waits : waiting ≡ length r.piece
  some : 1 ≤ length r.piece
  edge : out.granted + length r.piece ≤ out.edge

some_bytes : {x y : ℕ} → x ≡ y → 1 ≤ y → 1 ≤ x
some_bytes is some = omega (arith, is, some)

some_granted : {x : ℕ} (y : ℕ) → 1 ≤ x → 1 ≤ y + x
some_granted y some = omega (arith, some)

not_zero : {x : ℕ} → x ≡ 0 → 1 ≤ x → ⊥
not_zero is some = absurd (omega (arith, is, some))

-- an end whose SYN is acknowledged
open_of : (s : Side) (came una : ℕ) (finished : Bool) (state : State) → IsPhase s came una finished state → 1 ≤ una → is_opening state ≡ false
open_of s came una finished state (Opening side none low is) one = absurd (omega (arith, low, one))
open_of s came una finished state (Listening side none low is) one = absurd (omega (arith, low, one))
open_of s came una finished state (HalfOpen side one_came low is) one = absurd (omega (arith, low, one))
open_of s came una finished state (Open some high is) one = is.opening

-- its record goes where that is so
goes_for : (closed una fits : Bool) → (not closed && (una && fits)) ≡ true → una ≡ true
goes_for false true fits e = refl
goes_for true una fits e = absurd (both_ways _ refl e)
goes_for false false fits e = absurd (both_ways _ refl e)

clear_or : (b : Bool) → b ≡ false → one_if b ≡ 0
clear_or b is = ap one_if is

-- A's first bytes, before a DSS came
first_parts : (a clear pos : Bool) → (a && (not clear && pos)) ≡ true → clear ≡ false
first_parts true false pos e = refl
first_parts false clear pos e = absurd (both_ways _ refl e)
first_parts true true pos e = absurd (both_ways _ refl e)

first_at_one : (clear pos : Bool) → (true && (not clear && pos)) ≡ true → pos ≡ true
first_at_one false pos e = e
first_at_one true pos e = absurd (both_ways _ refl e)

none_before : {pos granted : ℕ} → pos ≡ granted + 1 → (pos == 1) ≡ true → granted ≡ 0
none_before {pos} at is = none at (eqb-true pos 1 is)
  where
    none : {n g : ℕ} → n ≡ g + 1 → n ≡ 1 → g ≡ 0
    none p q = omega (arith, p, q)

module _ (start : Start) (plan : PathPlan) (k j : Setting) (s v : Lane) (t0 u0 : ℕ)
    (going : Going k s t0 all_left s) (going_back : Going j v u0 all_left v)
  where
    abbrev keys : Keys
    keys = keys_in start

    module _ (a b : AppState) (books : SixBooks) (p : PathState Carried) (ds : List Duty)
        (k_is : IsSetting p.profile plan.delay k) (j_is : IsSetting p.profile plan.delay j)
      where
        abbrev Relation : SixBooks → PathState Carried → Type 0
        Relation six q = Runs start plan k j s v a b six q

        abbrev at_data_a : PathState Carried
        at_data_a = with_agenda (Duty.Step (StepDuty.Data A) ∷ ds) p

        abbrev sends_a : PlainSegment → PathState Carried
        sends_a segment = sent_on values A segment (having_sent Occasion.Unsent p.clock segment p.a) (Duty.Step (StepDuty.Data A) ∷ ds) at_data_a

        piece_a : (h : Relation books at_data_a) (r : Record) → IsWaiting h.out.sender h.own.subflow.records.rest h.waiting r
            → 1 ≤ p.a.tcp.send.una → first_unsent p.a ≡ Some r → is_first_piece A r p.a ≡ false → Relation books (sends_a (record_or_ack p.profile A (first_unsent p.a) p.a))
        piece_a h r w una found which =
            let t = h.treats in
            let view = h.faces in
            let window = asked_before A (Duty.Step (StepDuty.Data A)) (differ refl) ds view.stage_back.window view.stages_back.window t.3.0 in
            let ask = asks_no_more A (Duty.Step (StepDuty.Data A)) (differ refl) (differ refl) ds p.a.treated.asked view.stage_back.ask t.3.0 t.4 view.stages_back.ask in
            let mapping = t.2 (some_bytes w.waits w.some) r found in
            let ready : A ≡ A → 1 ≤ view.out.ready = λ is. view.own.sending.bytes (some_granted view.out.granted (some_bytes w.waits w.some)) in
            let x = piece plan.delay t0 u0 k_is j_is going going_back view r in
            let segment = said p.profile keys A x in
            let carried = carried_by p.profile.spelling A segment in
            let size = length (made p.profile.spelling A segment) in
            let strip : Side → Carried → Carried = λ side sent. stripped sent in
            let alter : Side → Carried → Carried = λ side sent. altered sent in
            let flight = plain_flight strip alter A carried p.clock p.link in
            let flies : FliesAs p.profile keys A flight x =
            record { tick = ap (λ (n : ℕ). p.clock + n) h.path.delay; to = refl; carried = carried_is strip alter carried size p.clock p.link h.path.unspoken h.link A } in
            let faces = piece_goes plan.delay t0 u0 k_is j_is going going_back view r t.0.0.none t.0.0.owes una t.0.0.answered t.0.0.ready t.0.0.shown window ask w.alone w.unsent w.one w.waits w.some w.edge (λ is. keyed (ready is) (t.0.0.shown is)) t.3.2
            (going_to B (after_send strip alter A carried size p.clock p.link).under_way)
            (going_to A (after_send strip alter A carried size p.clock p.link).under_way)
            flight flies
            (last_from_a strip alter carried size p.clock p.link h.path.unspoken h.link)
            (others_of_a strip alter carried size p.clock p.link h.path.unspoken h.link) in
            subst (λ (sg : PlainSegment). Relation books (sends_a sg))
            (sym (ap (λ (o : Option Record). record_or_ack p.profile A o p.a) found
            ∙ piece_is p.profile keys A (p.clock + plan.delay) view.out.granted view.out.control_sent view.out.keys_sent x.telling r p.a view.own.modes.mapping
            which (open_of A view.back.control_came p.a.tcp.send.una p.a.tcp.send.finished p.a.tcp.state view.own.subflow.phase una) w.kind
            (w.pos ∙ ap (λ (y : ℕ). view.out.granted + y) (sym w.one)) refl
            (mapping ∙ ap (λ (y : ℕ). mapping_of p.profile A view.out.granted y r.piece) (w.pos ∙ ap (λ (y : ℕ). view.out.granted + y) (sym w.one)))
            (few_places (lane plan.delay t0 u0 k_is j_is going going_back view).numbers.granted (lane plan.delay t0 u0 k_is j_is going going_back view).numbers.written k_is.small)))
            (record {
              path = record {
                profile = h.path.profile;
                delay = h.path.delay;
                number = h.path.number;
                unspoken = h.path.unspoken;
                lines = h.path.lines;
                joined = h.path.joined;
              };
              link = link_after_a strip alter carried size p.clock p.link h.path.unspoken h.link;
              faces = faces;
              treats = (
                (
                  record {
                    none = refl;
                    idle = record { places = t.0.0.idle.places; incoming = t.0.0.idle.incoming; fin = t.0.0.idle.fin };
                    mapped = t.0.0.mapped;
                    least = t.0.0.least;
                    owes = refl;
                    answered = up_max view.out.control_sent t.0.0.answered;
                    ready = λ is. t.0.0.ready is;
                    shown = λ is. up_max view.out.keys_sent (t.0.0.shown is);
                  },
                  t.0.1,
                ),
                t.1,
                λ one is some. absurd (omega (arith, one)),
                t.3,
                t.4,
              );
            })
          where
            keyed : {x y : ℕ} → 1 ≤ x → x ≤ y → 1 ≤ y
            keyed p q = omega (arith, p, q)

        first_a : (h : Relation books at_data_a) (r : Record) → IsWaiting h.out.sender h.own.subflow.records.rest h.waiting r
            → 1 ≤ p.a.tcp.send.una → first_unsent p.a ≡ Some r → is_first_piece A r p.a ≡ true → Relation books (sends_a (record_or_ack p.profile A (first_unsent p.a) p.a))
        first_a h r w una found which =
            let t = h.treats in
            let view = h.faces in
            let window = asked_before A (Duty.Step (StepDuty.Data A)) (differ refl) ds view.stage_back.window view.stages_back.window t.3.0 in
            let ask = asks_no_more A (Duty.Step (StepDuty.Data A)) (differ refl) (differ refl) ds p.a.treated.asked view.stage_back.ask t.3.0 t.4 view.stages_back.ask in
            let mapping = t.2 (some_bytes w.waits w.some) r found in
            let ready : A ≡ A → 1 ≤ view.out.ready = λ is. view.own.sending.bytes (some_granted view.out.granted (some_bytes w.waits w.some)) in
            let unclear : view.out.clear ≡ 0 = view.own.modes.clear ∙ clear_or p.a.modes.clear (first_parts true p.a.modes.clear (r.pos == 1) which) in
            let x = first plan.delay t0 u0 k_is j_is going going_back view r in
            let segment = said p.profile keys A x in
            let carried = carried_by p.profile.spelling A segment in
            let size = length (made p.profile.spelling A segment) in
            let strip : Side → Carried → Carried = λ side sent. stripped sent in
            let alter : Side → Carried → Carried = λ side sent. altered sent in
            let flight = plain_flight strip alter A carried p.clock p.link in
            let flies : FliesAs p.profile keys A flight x =
            record { tick = ap (λ (n : ℕ). p.clock + n) h.path.delay; to = refl; carried = carried_is strip alter carried size p.clock p.link h.path.unspoken h.link A } in
            let faces = first_goes plan.delay t0 u0 k_is j_is going going_back view r t.0.0.none t.0.0.owes una t.0.0.answered window w.alone w.unsent w.one w.waits w.some w.edge unclear (ready refl) (t.0.0.shown refl) (none_before w.pos (first_at_one p.a.modes.clear (r.pos == 1) which)) t.3.2
            (going_to B (after_send strip alter A carried size p.clock p.link).under_way)
            (going_to A (after_send strip alter A carried size p.clock p.link).under_way)
            flight flies
            (last_from_a strip alter carried size p.clock p.link h.path.unspoken h.link)
            (others_of_a strip alter carried size p.clock p.link h.path.unspoken h.link) in
            subst (λ (sg : PlainSegment). Relation books (sends_a sg))
            (sym (ap (λ (o : Option Record). record_or_ack p.profile A o p.a) found
            ∙ first_is p.profile keys (p.clock + plan.delay) view.out.granted j.least r p.a view.own.modes.mapping
            which (view.own.modes.peer_key ∙ key_of (ready refl)) view.own.modes.own_key
            (open_of A view.back.control_came p.a.tcp.send.una p.a.tcp.send.finished p.a.tcp.state view.own.subflow.phase una) w.kind w.pos
            (mapping ∙ ap (λ (y : ℕ). mapping_of p.profile A view.out.granted y r.piece) w.pos)))
            (record {
              path = record {
                profile = h.path.profile;
                delay = h.path.delay;
                number = h.path.number;
                unspoken = h.path.unspoken;
                lines = h.path.lines;
                joined = h.path.joined;
              };
              link = link_after_a strip alter carried size p.clock p.link h.path.unspoken h.link;
              faces = faces;
              treats = (
                (
                  record {
                    none = refl;
                    idle = record { places = t.0.0.idle.places; incoming = t.0.0.idle.incoming; fin = t.0.0.idle.fin };
                    mapped = t.0.0.mapped;
                    least = t.0.0.least;
                    owes = refl;
                    answered = up_max 1 t.0.0.answered;
                    ready = λ is. t.0.0.ready is;
                    shown = λ is. up_max 1 (t.0.0.shown is);
                  },
                  t.0.1,
                ),
                t.1,
                λ one is some. absurd (omega (arith, one)),
                t.3,
                t.4,
              );
            })
          where
            key_of : {x : ℕ} → 1 ≤ x → (if nat_lt 0 x then Some keys.b else None) ≡ Some keys.b
            key_of {x} one = ap (λ (b : Bool). if b then Some keys.b else None) (lt-ltb 0 x one)

        sends_on_a : (h : Relation books at_data_a) (r : Record) → IsWaiting h.out.sender h.own.subflow.records.rest h.waiting r
            → 1 ≤ p.a.tcp.send.una → first_unsent p.a ≡ Some r → Relation books (sends_a (record_or_ack p.profile A (first_unsent p.a) p.a))
        sends_on_a h r w una found = by (is_first_piece A r p.a) refl
          where
            by : (b : Bool) → is_first_piece A r p.a ≡ b → Relation books (sends_a (record_or_ack p.profile A (first_unsent p.a) p.a))
            by true is = first_a h r w una found is
            by false is = piece_a h r w una found is

        -- ---- A asks for more

        abbrev given_a : Result Span Why → SixBooks
        given_a decided = record books { send_a = given_by 0 decided books.send_a }

        abbrev asked_a : Result Span Why → PathState Carried
        asked_a decided =
            let reply = Reply.Send (reply_by decided books.send_a) in answered_grant A (grant_in reply) reply at_data_a

        module _ (h : Relation books at_data_a) (off : data_stands p.profile A p.a None ≡ true) (nothing_waits : h.waiting ≡ 0) where
          abbrev view_a : FacesOfA keys k j s v a b books at_data_a
          view_a = h.faces

          still_a : brings_still view_a.hand ≡ false
          still_a = ap brings_still h.treats.0.0.none

          gives_a : (count : ℕ) → 1 ≤ count → count ≤ payload_size p.profile → view_a.out.granted + count ≤ length books.send_a.marks
              → view_a.out.granted + count ≤ books.send_a.edge
              → Relation (given_a (Ok (span view_a count))) (asked_a (Ok (span view_a count)))
          gives_a count some few inside below =
              let t = h.treats in
              let one = one_sent plan.delay t0 u0 k_is j_is going going_back view_a off still_a nothing_waits t.0.0.answered t.0.0.ready in
              let ready = is_ready plan.delay t0 u0 k_is j_is going going_back view_a off still_a nothing_waits t.0.0.answered t.0.0.ready in
              let faces = granted_on view_a count nothing_waits one ready some
              (few_bytes plan.delay t0 u0 k_is j_is going going_back view_a off still_a nothing_waits t.0.0.answered t.0.0.ready few) inside below
              (fits_count plan.delay t0 u0 k_is j_is going going_back view_a off still_a nothing_waits t.0.0.answered t.0.0.ready few)
              (ahead plan.delay t0 u0 k_is j_is going going_back view_a off still_a nothing_waits t.0.0.answered t.0.0.ready some inside)
              (unacked plan.delay t0 u0 k_is j_is going going_back view_a off still_a nothing_waits t.0.0.answered t.0.0.ready) in
              record {
                path = record {
                  profile = h.path.profile;
                  delay = h.path.delay;
                  number = h.path.number;
                  unspoken = h.path.unspoken;
                  lines = h.path.lines;
                  joined = h.path.joined;
                };
                link = h.link;
                faces = faces;
                treats = (
                  (
                    record {
                      none = t.0.0.none;
                      idle = record { places = t.0.0.idle.places; incoming = t.0.0.idle.incoming; fin = t.0.0.idle.fin };
                      mapped = t.0.0.mapped;
                      least = t.0.0.least;
                      owes = t.0.0.owes;
                      answered = t.0.0.answered;
                      ready = t.0.0.ready;
                      shown = t.0.0.shown;
                    },
                    t.0.1,
                  ),
                  t.1,
                  λ more r found. mapped view_a count nothing_waits one r found,
                  t.3,
                  t.4,
                );
              }

          refuses_a : (why : Why) → (view_a.out.written ≤ view_a.out.granted) ⊎ (view_a.out.edge ≤ view_a.out.granted)
              → (is_shut why ≡ true → view_a.out.granted < view_a.out.written) → Relation (given_a (Err why)) (asked_a (Err why))
          refuses_a why full shut =
              let t = h.treats in
              let faces = refused_on view_a why nothing_waits
              (some_sent plan.delay t0 u0 k_is j_is going going_back view_a off still_a nothing_waits t.0.0.answered t.0.0.ready)
              (lane plan.delay t0 u0 k_is j_is going going_back view_a).numbers.known
              (may_refuse plan.delay t0 u0 k_is j_is going going_back view_a off still_a nothing_waits t.0.0.answered t.0.0.ready why full shut) t.3.1 in
              record {
                path = record {
                  profile = h.path.profile;
                  delay = h.path.delay;
                  number = h.path.number;
                  unspoken = h.path.unspoken;
                  lines = h.path.lines;
                  joined = h.path.joined;
                };
                link = h.link;
                faces = faces;
                treats = plain_on keys (own_bench faces) (other_bench faces) ds (
                  record {
                    none = t.0.0.none;
                    idle = record { places = t.0.0.idle.places; incoming = t.0.0.idle.incoming; fin = t.0.0.idle.fin };
                    mapped = t.0.0.mapped;
                    least = t.0.0.least;
                    owes = t.0.0.owes;
                    answered = t.0.0.answered;
                    ready = t.0.0.ready;
                    shown = t.0.0.shown;
                  },
                  t.0.1,
                ) nothing_waits t.1 t.4;
              }

          granted_a : Relation (given_a (decision 0 (payload_size p.profile) false books.send_a))
              (asked_a (decision 0 (payload_size p.profile) false books.send_a))
          granted_a = by (decides plan.delay t0 u0 k_is j_is going going_back view_a off still_a nothing_waits h.treats.0.0.answered h.treats.0.0.ready
              (size_some plan.delay t0 u0 k_is j_is going going_back view_a off still_a nothing_waits h.treats.0.0.answered h.treats.0.0.ready))
            where
              never : {X : Type 0} → false ≡ true → X
              never e = absurd (both_ways _ refl e)

              all_taken : {x y z w : ℕ} → x ≤ z → x ≡ y → w ≡ y → w ≤ z
              all_taken p q r = omega (arith, p, q, r)

              some_left : {x y z w : ℕ} → z < x → x ≡ y → w ≡ y → z < w
              some_left p q r = omega (arith, p, q, r)

              by : GrantIs view_a.out.granted (payload_size p.profile) books.send_a
                  → Relation (given_a (decision 0 (payload_size p.profile) false books.send_a))
                  (asked_a (decision 0 (payload_size p.profile) false books.send_a))
              by (Gives count some few inside below is) =
                  subst (λ (d : Result Span Why). Relation (given_a d) (asked_a d)) (sym is) (gives_a count some few inside below)
              by (AllAcked all is) = subst (λ (d : Result Span Why). Relation (given_a d) (asked_a d)) (sym is)
                  (refuses_a Ended (inl (all_taken all refl view_a.apps.writes.numbers.bytes)) (λ e. never e))
              by (AllTaken all is) = subst (λ (d : Result Span Why). Relation (given_a d) (asked_a d)) (sym is)
                  (refuses_a NothingFree (inl (all_taken all view_a.apps.book.marks view_a.apps.writes.numbers.bytes)) (λ e. never e))
              by (IsShut edge less is) = subst (λ (d : Result Span Why). Relation (given_a d) (asked_a d)) (sym is)
                  (refuses_a WindowShut (inr (all_taken edge view_a.apps.book.edge refl))
                  (λ e. some_left less view_a.apps.book.marks view_a.apps.writes.numbers.bytes))

          abbrev asks_a : ℕ → Bool → Type 0
          asks_a path standby =
              let ask = Ask.Send A (SendCall.Grant path (payload_size p.profile) standby) in
              Relation (after_ask ask books) (answered_grant A (grant_in (reply_of books ask)) (reply_of books ask) at_data_a)

          grants_a : asks_a p.link.path p.a.modes.standby
          grants_a = subst (λ (x : ℕ). asks_a x p.a.modes.standby) (sym h.path.number)
              (subst (λ (x : Bool). asks_a 0 x) (sym view_a.own.modes.standby) granted_a)

        abbrev AnsweredA : Option Record → Type 0
        AnsweredA o =
            let ask = data_ask values A o at_data_a in
            Relation (after_ask ask books) (answered_data values A o (reply_of books ask) at_data_a)

        pub data_a : data_stands p.profile A p.a (first_unsent p.a) ≡ true → Relation books at_data_a → AnsweredA (first_unsent p.a)
        data_a stands h = by h.own.subflow.records.rest h.waiting h.own.subflow.records.waits refl refl
          where
            found : first_unsent p.a ≡ find is_unsent h.own.subflow.records.rest
            found = ap (λ (rs : List Record). find is_unsent rs) h.own.subflow.records.all
                ∙ first_waits h.own.subflow.records.sent h.own.subflow.records.rest h.own.subflow.records.gone

            stands_at : (o : Option Record) → first_unsent p.a ≡ o → data_stands p.profile A p.a o ≡ true
            stands_at o is = sym (ap (λ (x : Option Record). data_stands p.profile A p.a x) is) ∙ stands

            una_of : (r : Record) → first_unsent p.a ≡ Some r → 1 ≤ p.a.tcp.send.una
            una_of r is = leb-true 1 p.a.tcp.send.una (goes_for (is_closed_to_segments p.a.tcp.state) (nat_le 1 p.a.tcp.send.una) _ (stands_at (Some r) is))

            by : (rest : List Record) (l : ℕ) → Waits k h.out.sender rest l → h.own.subflow.records.rest ≡ rest → h.waiting ≡ l → AnsweredA (first_unsent p.a)
            by _ _ (WaitsSyn unsent) is waits =
                let una = una_of (syn_record never_sent) (found ∙ ap (λ (rs : List Record). find is_unsent rs) is) in
                let view = h.faces in
                absurd (not_zero unsent (sent_some plan.delay t0 u0 k_is j_is going going_back view (ap brings_still h.treats.0.0.none) una h.treats.0.0.answered))
            by _ _ (WaitsNone some) is waits =
                let none = found ∙ ap (λ (rs : List Record). find is_unsent rs) is in
                subst (λ (o : Option Record). AnsweredA o) (sym none) (grants_a h (stands_at None none) waits)
            by _ _ (WaitsBytes one r kind pos unsent some most edge) is waits =
                let none = found ∙ (ap (λ (rs : List Record). find is_unsent rs) is ∙ ap (λ (b : Bool). if b then Some r else None) unsent) in
                subst (λ (o : Option Record). AnsweredA o) (sym none) (sends_on_a h r
                (record { alone = is; unsent = unsent; one = one; kind = kind; pos = pos; waits = waits; some = some; edge = edge }) (una_of r none) none)

        abbrev at_data_b : PathState Carried
        at_data_b = with_agenda (Duty.Step (StepDuty.Data B) ∷ ds) p

        abbrev sends_b : PlainSegment → PathState Carried
        sends_b segment = sent_on values B segment (having_sent Occasion.Unsent p.clock segment p.b) (Duty.Step (StepDuty.Data B) ∷ ds) at_data_b

        piece_b : (h : Relation books at_data_b) (r : Record) → IsWaiting h.back.sender h.other.subflow.records.rest h.waiting_back r
            → 1 ≤ p.b.tcp.send.una → first_unsent p.b ≡ Some r → is_first_piece B r p.b ≡ false → Relation books (sends_b (record_or_ack p.profile B (first_unsent p.b) p.b))
        piece_b h r w una found which =
            let t = h.treats in
            let view = from_a keys k j s v a b books at_data_b h.faces in
            let window = asked_before B (Duty.Step (StepDuty.Data B)) (differ refl) ds view.stage_back.window view.stages_back.window t.3.0 in
            let ask = asks_no_more B (Duty.Step (StepDuty.Data B)) (differ refl) (differ refl) ds p.b.treated.asked view.stage_back.ask t.3.0 t.4 view.stages_back.ask in
            let mapping = t.2 (some_bytes w.waits w.some) r found in
            let ready : B ≡ A → 1 ≤ view.out.ready = λ is. view.own.sending.bytes (some_granted view.out.granted (some_bytes w.waits w.some)) in
            let x = piece plan.delay u0 t0 j_is k_is going_back going view r in
            let segment = said p.profile keys B x in
            let carried = carried_by p.profile.spelling B segment in
            let size = length (made p.profile.spelling B segment) in
            let strip : Side → Carried → Carried = λ side sent. stripped sent in
            let alter : Side → Carried → Carried = λ side sent. altered sent in
            let flight = plain_flight strip alter B carried p.clock p.link in
            let flies : FliesAs p.profile keys B flight x =
            record { tick = ap (λ (n : ℕ). p.clock + n) h.path.delay; to = refl; carried = carried_is strip alter carried size p.clock p.link h.path.unspoken h.link B } in
            let faces = from_b keys k j s v a b books (sends_b segment) (piece_goes plan.delay u0 t0 j_is k_is going_back going view r t.0.1.none t.0.1.owes una t.0.1.answered t.0.1.ready t.0.1.shown window ask w.alone w.unsent w.one w.waits w.some w.edge (λ is. keyed (ready is) (t.0.1.shown is)) t.3.2
            (going_to A (after_send strip alter B carried size p.clock p.link).under_way)
            (going_to B (after_send strip alter B carried size p.clock p.link).under_way)
            flight flies
            (last_from_b strip alter carried size p.clock p.link h.path.unspoken h.link)
            (others_of_b strip alter carried size p.clock p.link h.path.unspoken h.link)) in
            subst (λ (sg : PlainSegment). Relation books (sends_b sg))
            (sym (ap (λ (o : Option Record). record_or_ack p.profile B o p.b) found
            ∙ piece_is p.profile keys B (p.clock + plan.delay) view.out.granted view.out.control_sent view.out.keys_sent x.telling r p.b view.own.modes.mapping
            which (open_of B view.back.control_came p.b.tcp.send.una p.b.tcp.send.finished p.b.tcp.state view.own.subflow.phase una) w.kind
            (w.pos ∙ ap (λ (y : ℕ). view.out.granted + y) (sym w.one)) refl
            (mapping ∙ ap (λ (y : ℕ). mapping_of p.profile B view.out.granted y r.piece) (w.pos ∙ ap (λ (y : ℕ). view.out.granted + y) (sym w.one)))
            (few_places (lane plan.delay u0 t0 j_is k_is going_back going view).numbers.granted (lane plan.delay u0 t0 j_is k_is going_back going view).numbers.written j_is.small)))
            (record {
              path = record {
                profile = h.path.profile;
                delay = h.path.delay;
                number = h.path.number;
                unspoken = h.path.unspoken;
                lines = h.path.lines;
                joined = h.path.joined;
              };
              link = link_after_b strip alter carried size p.clock p.link h.path.unspoken h.link;
              faces = faces;
              treats = (
                (
                  t.0.0,
                  record {
                    none = refl;
                    idle = record { places = t.0.1.idle.places; incoming = t.0.1.idle.incoming; fin = t.0.1.idle.fin };
                    mapped = t.0.1.mapped;
                    least = t.0.1.least;
                    owes = refl;
                    answered = up_max view.out.control_sent t.0.1.answered;
                    ready = λ is. t.0.1.ready is;
                    shown = λ is. up_max view.out.keys_sent (t.0.1.shown is);
                  },
                ),
                t.1,
                λ one is some. absurd (omega (arith, one)),
                t.3,
                t.4,
              );
            })
          where
            keyed : {x y : ℕ} → 1 ≤ x → x ≤ y → 1 ≤ y
            keyed p q = omega (arith, p, q)

        sends_on_b : (h : Relation books at_data_b) (r : Record) → IsWaiting h.back.sender h.other.subflow.records.rest h.waiting_back r
            → 1 ≤ p.b.tcp.send.una → first_unsent p.b ≡ Some r → Relation books (sends_b (record_or_ack p.profile B (first_unsent p.b) p.b))
        sends_on_b h r w una found = piece_b h r w una found refl

        -- ---- B asks for more

        abbrev given_b : Result Span Why → SixBooks
        given_b decided = record books { send_b = given_by 0 decided books.send_b }

        abbrev asked_b : Result Span Why → PathState Carried
        asked_b decided =
            let reply = Reply.Send (reply_by decided books.send_b) in answered_grant B (grant_in reply) reply at_data_b

        module _ (h : Relation books at_data_b) (off : data_stands p.profile B p.b None ≡ true) (nothing_waits : h.waiting_back ≡ 0) where
          abbrev view_b : FacesOfB keys k j s v a b books at_data_b
          view_b = from_a keys k j s v a b books at_data_b h.faces

          still_b : brings_still view_b.hand ≡ false
          still_b = ap brings_still h.treats.0.1.none

          gives_b : (count : ℕ) → 1 ≤ count → count ≤ payload_size p.profile → view_b.out.granted + count ≤ length books.send_b.marks
              → view_b.out.granted + count ≤ books.send_b.edge
              → Relation (given_b (Ok (span view_b count))) (asked_b (Ok (span view_b count)))
          gives_b count some few inside below =
              let t = h.treats in
              let one = one_sent plan.delay u0 t0 j_is k_is going_back going view_b off still_b nothing_waits t.0.1.answered t.0.1.ready in
              let ready = is_ready plan.delay u0 t0 j_is k_is going_back going view_b off still_b nothing_waits t.0.1.answered t.0.1.ready in
              let faces = from_b keys k j s v a b (given_b (Ok (span view_b count))) (asked_b (Ok (span view_b count))) (granted_on view_b count nothing_waits one ready some
              (few_bytes plan.delay u0 t0 j_is k_is going_back going view_b off still_b nothing_waits t.0.1.answered t.0.1.ready few) inside below
              (fits_count plan.delay u0 t0 j_is k_is going_back going view_b off still_b nothing_waits t.0.1.answered t.0.1.ready few)
              (ahead plan.delay u0 t0 j_is k_is going_back going view_b off still_b nothing_waits t.0.1.answered t.0.1.ready some inside)
              (unacked plan.delay u0 t0 j_is k_is going_back going view_b off still_b nothing_waits t.0.1.answered t.0.1.ready)) in
              record {
                path = record {
                  profile = h.path.profile;
                  delay = h.path.delay;
                  number = h.path.number;
                  unspoken = h.path.unspoken;
                  lines = h.path.lines;
                  joined = h.path.joined;
                };
                link = h.link;
                faces = faces;
                treats = (
                  (
                    t.0.0,
                    record {
                      none = t.0.1.none;
                      idle = record { places = t.0.1.idle.places; incoming = t.0.1.idle.incoming; fin = t.0.1.idle.fin };
                      mapped = t.0.1.mapped;
                      least = t.0.1.least;
                      owes = t.0.1.owes;
                      answered = t.0.1.answered;
                      ready = t.0.1.ready;
                      shown = t.0.1.shown;
                    },
                  ),
                  t.1,
                  λ more r found. mapped view_b count nothing_waits one r found,
                  t.3,
                  t.4,
                );
              }

          refuses_b : (why : Why) → (view_b.out.written ≤ view_b.out.granted) ⊎ (view_b.out.edge ≤ view_b.out.granted)
              → (is_shut why ≡ true → view_b.out.granted < view_b.out.written) → Relation (given_b (Err why)) (asked_b (Err why))
          refuses_b why full shut =
              let t = h.treats in
              let faces = from_b keys k j s v a b (given_b (Err why)) (asked_b (Err why)) (refused_on view_b why nothing_waits
              (some_sent plan.delay u0 t0 j_is k_is going_back going view_b off still_b nothing_waits t.0.1.answered t.0.1.ready)
              (lane plan.delay u0 t0 j_is k_is going_back going view_b).numbers.known
              (may_refuse plan.delay u0 t0 j_is k_is going_back going view_b off still_b nothing_waits t.0.1.answered t.0.1.ready why full shut) t.3.1) in
              record {
                path = record {
                  profile = h.path.profile;
                  delay = h.path.delay;
                  number = h.path.number;
                  unspoken = h.path.unspoken;
                  lines = h.path.lines;
                  joined = h.path.joined;
                };
                link = h.link;
                faces = faces;
                treats = plain_on keys (own_bench faces) (other_bench faces) ds (
                  t.0.0,
                  record {
                    none = t.0.1.none;
                    idle = record { places = t.0.1.idle.places; incoming = t.0.1.idle.incoming; fin = t.0.1.idle.fin };
                    mapped = t.0.1.mapped;
                    least = t.0.1.least;
                    owes = t.0.1.owes;
                    answered = t.0.1.answered;
                    ready = t.0.1.ready;
                    shown = t.0.1.shown;
                  },
                ) t.1 nothing_waits t.4;
              }

          granted_b : Relation (given_b (decision 0 (payload_size p.profile) false books.send_b))
              (asked_b (decision 0 (payload_size p.profile) false books.send_b))
          granted_b = by (decides plan.delay u0 t0 j_is k_is going_back going view_b off still_b nothing_waits h.treats.0.1.answered h.treats.0.1.ready
              (size_some plan.delay u0 t0 j_is k_is going_back going view_b off still_b nothing_waits h.treats.0.1.answered h.treats.0.1.ready))
            where
              never : {X : Type 0} → false ≡ true → X
              never e = absurd (both_ways _ refl e)

              all_taken : {x y z w : ℕ} → x ≤ z → x ≡ y → w ≡ y → w ≤ z
              all_taken p q r = omega (arith, p, q, r)

              some_left : {x y z w : ℕ} → z < x → x ≡ y → w ≡ y → z < w
              some_left p q r = omega (arith, p, q, r)

              by : GrantIs view_b.out.granted (payload_size p.profile) books.send_b
                  → Relation (given_b (decision 0 (payload_size p.profile) false books.send_b))
                  (asked_b (decision 0 (payload_size p.profile) false books.send_b))
              by (Gives count some few inside below is) =
                  subst (λ (d : Result Span Why). Relation (given_b d) (asked_b d)) (sym is) (gives_b count some few inside below)
              by (AllAcked all is) = subst (λ (d : Result Span Why). Relation (given_b d) (asked_b d)) (sym is)
                  (refuses_b Ended (inl (all_taken all refl view_b.apps.writes.numbers.bytes)) (λ e. never e))
              by (AllTaken all is) = subst (λ (d : Result Span Why). Relation (given_b d) (asked_b d)) (sym is)
                  (refuses_b NothingFree (inl (all_taken all view_b.apps.book.marks view_b.apps.writes.numbers.bytes)) (λ e. never e))
              by (IsShut edge less is) = subst (λ (d : Result Span Why). Relation (given_b d) (asked_b d)) (sym is)
                  (refuses_b WindowShut (inr (all_taken edge view_b.apps.book.edge refl))
                  (λ e. some_left less view_b.apps.book.marks view_b.apps.writes.numbers.bytes))

          abbrev asks_b : ℕ → Bool → Type 0
          asks_b path standby =
              let ask = Ask.Send B (SendCall.Grant path (payload_size p.profile) standby) in
              Relation (after_ask ask books) (answered_grant B (grant_in (reply_of books ask)) (reply_of books ask) at_data_b)

          grants_b : asks_b p.link.path p.b.modes.standby
          grants_b = subst (λ (x : ℕ). asks_b x p.b.modes.standby) (sym h.path.number)
              (subst (λ (x : Bool). asks_b 0 x) (sym view_b.own.modes.standby) granted_b)

        abbrev AnsweredB : Option Record → Type 0
        AnsweredB o =
            let ask = data_ask values B o at_data_b in
            Relation (after_ask ask books) (answered_data values B o (reply_of books ask) at_data_b)

        pub data_b : data_stands p.profile B p.b (first_unsent p.b) ≡ true → Relation books at_data_b → AnsweredB (first_unsent p.b)
        data_b stands h = by h.other.subflow.records.rest h.waiting_back h.other.subflow.records.waits refl refl
          where
            found : first_unsent p.b ≡ find is_unsent h.other.subflow.records.rest
            found = ap (λ (rs : List Record). find is_unsent rs) h.other.subflow.records.all
                ∙ first_waits h.other.subflow.records.sent h.other.subflow.records.rest h.other.subflow.records.gone

            stands_at : (o : Option Record) → first_unsent p.b ≡ o → data_stands p.profile B p.b o ≡ true
            stands_at o is = sym (ap (λ (x : Option Record). data_stands p.profile B p.b x) is) ∙ stands

            una_of : (r : Record) → first_unsent p.b ≡ Some r → 1 ≤ p.b.tcp.send.una
            una_of r is = leb-true 1 p.b.tcp.send.una (goes_for (is_closed_to_segments p.b.tcp.state) (nat_le 1 p.b.tcp.send.una) _ (stands_at (Some r) is))

            by : (rest : List Record) (l : ℕ) → Waits j h.back.sender rest l → h.other.subflow.records.rest ≡ rest → h.waiting_back ≡ l → AnsweredB (first_unsent p.b)
            by _ _ (WaitsSyn unsent) is waits =
                let una = una_of (syn_record never_sent) (found ∙ ap (λ (rs : List Record). find is_unsent rs) is) in
                let view = from_a keys k j s v a b books at_data_b h.faces in
                absurd (not_zero unsent (sent_some plan.delay u0 t0 j_is k_is going_back going view (ap brings_still h.treats.0.1.none) una h.treats.0.1.answered))
            by _ _ (WaitsNone some) is waits =
                let none = found ∙ ap (λ (rs : List Record). find is_unsent rs) is in
                subst (λ (o : Option Record). AnsweredB o) (sym none) (grants_b h (stands_at None none) waits)
            by _ _ (WaitsBytes one r kind pos unsent some most edge) is waits =
                let none = found ∙ (ap (λ (rs : List Record). find is_unsent rs) is ∙ ap (λ (b : Bool). if b then Some r else None) unsent) in
                subst (λ (o : Option Record). AnsweredB o) (sym none) (sends_on_b h r
                (record { alone = is; unsent = unsent; one = one; kind = kind; pos = pos; waits = waits; some = some; edge = edge }) (una_of r none) none)
