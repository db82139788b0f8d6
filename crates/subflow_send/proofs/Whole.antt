-- The SYN, the pieces and the FIN as one list of records.
use Rattle.std.proofs.Common.{◌≡◌, ℕ, ◌+◌, ◌-◌, ◌<◌, ◌≤◌, ◌^◌, Bool, true, false, nat_lt, ◌||◌, if◌then◌else◌, Option, Some, None, List, [], ◌∷◌, ◌++◌, length, map, find, refl, sym, ap, ◌∙◌, subst, arith, append-nil, append_assoc, true≢false}
use Rattle.std.specs.Prelude.{is_some, IsSome}
use Rattle.std.specs.List.{list_any, sum_by}
use Rattle.std.specs.Option.{option_map}
use Rattle.std.proofs.lemmas.List.{map-append}
use Rattle.std.proofs.lemmas.List.Sums.{sum_by-cons, sum_by-append}
use Rattle.subflow_send.specs.declared.pieces.Piece.{Piece}
use Rattle.subflow_send.specs.declared.record.Sending.{Sending}
use Rattle.subflow_send.specs.Sendings.{sent_again, first_at_an_expiry, to_be_sent}
use Rattle.subflow_send.specs.Records.{Record, span_of, end_of, Follow, Tile}
use Rattle.subflow_send.specs.Rules.{syn_record, fin_record, is_unsent, first_unsent_sent, expired_records, unsent_again, acknowledged_in, octets_under_way}
use Rattle.subflow_send.proofs.PieceLoops.{lt_true}
use Rattle.subflow_send.specs.Pieces.{piece_record, syn_records, fin_records, all_records, unsent_sending, piece_under_way, sent_below, is_unsent_piece, sent_pieces, IsKept}

-- ---- the positions don't change where only sendings do
syn_spans : (s s' : Option Sending) → is_some s' ≡ is_some s → map span_of (syn_records s') ≡ map span_of (syn_records s)
syn_spans None None e = refl
syn_spans (Some s) (Some s') e = refl
syn_spans None (Some s') e = cc
syn_spans (Some s) None e = cc

fin_spans : (pos : ℕ) (s s' : Option Sending) → is_some s' ≡ is_some s → map span_of (fin_records pos s') ≡ map span_of (fin_records pos s)
fin_spans pos None None e = refl
fin_spans pos (Some s) (Some s') e = refl
fin_spans pos None (Some s') e = cc
fin_spans pos (Some s) None e = cc

pub spans-parts : (syn : Option Sending) (ps : List Piece) (pos : ℕ) (fin : Option Sending)
    → map span_of (all_records syn ps pos fin) ≡ map span_of (syn_records syn) ++ (map span_of (map piece_record ps) ++ map span_of (fin_records pos fin))
spans-parts syn ps pos fin =
    map-append span_of (syn_records syn) (map piece_record ps ++ fin_records pos fin)
    ∙ ap (λ (t : List (ℕ × ℕ)). map span_of (syn_records syn) ++ t) (map-append span_of (map piece_record ps) (fin_records pos fin))

pub kept_same : (una nxt : ℕ) (syn syn' : Option Sending) (ps ps' : List Piece) (fin fin' : Option Sending) (finished : Bool) → IsKept una nxt syn ps fin finished
    → is_some syn' ≡ is_some syn → is_some fin' ≡ is_some fin → map span_of (map piece_record ps') ≡ map span_of (map piece_record ps)
    → IsKept una nxt syn' ps' fin' finished
kept_same una nxt syn syn' ps ps' fin fin' finished kept e f same =
    let spans : map span_of (all_records syn' ps' (nxt - 1) fin') ≡ map span_of (all_records syn ps (nxt - 1) fin) =
    spans-parts syn' ps' (nxt - 1) fin'
    ∙ ap (λ (t : List (ℕ × ℕ)). t ++ (map span_of (map piece_record ps') ++ map span_of (fin_records (nxt - 1) fin'))) (syn_spans syn syn' e)
    ∙ ap (λ (t : List (ℕ × ℕ)). map span_of (syn_records syn) ++ (t ++ map span_of (fin_records (nxt - 1) fin'))) same
    ∙ ap (λ (t : List (ℕ × ℕ)). map span_of (syn_records syn) ++ (map span_of (map piece_record ps) ++ t)) (fin_spans (nxt - 1) fin fin' f)
    ∙ sym (spans-parts syn ps (nxt - 1) fin) in record {
      tile = subst (λ (t : List (ℕ × ℕ)). Tile una nxt t) (sym spans) kept.tile;
      syn_first = (λ h. kept.syn_first.0 (sym e ∙ h), λ h. e ∙ kept.syn_first.1 h);
      fin_last = λ h. kept.fin_last (sym f ∙ h);
      fin_left = λ h lt. f ∙ kept.fin_left h lt;
      order = kept.order;
      begun = kept.begun;
      open_bound = kept.open_bound;
      bound = kept.bound;
    }

pub is_some-map : (g : Sending → Sending) (o : Option Sending) → is_some (option_map g o) ≡ is_some o
is_some-map g None = refl
is_some-map g (Some s) = refl

spans-flag : (b : Bool) (p : Piece) (x y : List Piece) (s : Sending) (t : List (ℕ × ℕ)) → map span_of (map piece_record x) ≡ t → map span_of (map piece_record y) ≡ t
    → map span_of (map piece_record (if b then record p { sending = s } ∷ x else p ∷ y)) ≡ span_of (piece_record p) ∷ t
spans-flag true p x y s t e f = ap (λ (u : List (ℕ × ℕ)). span_of (piece_record p) ∷ u) e
spans-flag false p x y s t e f = ap (λ (u : List (ℕ × ℕ)). span_of (piece_record p) ∷ u) f

pub spans-sent : (now : ℕ) (ps : List Piece) → map span_of (map piece_record (sent_pieces now ps)) ≡ map span_of (map piece_record ps)
spans-sent now [] = refl
spans-sent now (p ∷ ps) = spans-flag (is_unsent_piece p) p ps (sent_pieces now ps) (sent_again now p.sending) (map span_of (map piece_record ps)) refl (spans-sent now ps)

pub spans-unsent : (rs : List Record) → map span_of (map unsent_again rs) ≡ map span_of rs
spans-unsent [] = refl
spans-unsent (r ∷ rs) = ap (λ (t : List (ℕ × ℕ)). span_of r ∷ t) (spans-unsent rs)

pub spans-expired : (rs : List Record) → map span_of (expired_records rs) ≡ map span_of rs
spans-expired [] = refl
spans-expired (r ∷ rs) = ap (λ (t : List (ℕ × ℕ)). span_of r ∷ t) (spans-unsent rs)

-- ---- the first one that is to be sent
abbrev pub first_some : {A : Type 0} → Option A → Option A → Option A
first_some None o = o
first_some (Some x) o = Some x

find-flag : (b : Bool) (r : Record) (x y z : Option Record) → x ≡ first_some y z → (if b then Some r else x) ≡ first_some (if b then Some r else y) z
find-flag true r x y z e = refl
find-flag false r x y z e = e

find-append : (xs ys : List Record) → find is_unsent (xs ++ ys) ≡ first_some (find is_unsent xs) (find is_unsent ys)
find-append [] ys = refl
find-append (x ∷ xs) ys = find-flag (is_unsent x) x (find is_unsent (xs ++ ys)) (find is_unsent xs) (find is_unsent ys) (find-append xs ys)

one-flag : (b : Bool) (f : Sending → Record) (s : Sending) → (if b then Some (f s) else None) ≡ option_map f (if b then Some s else None)
one-flag true f s = refl
one-flag false f s = refl

find-syn : (syn : Option Sending) → find is_unsent (syn_records syn) ≡ option_map syn_record (unsent_sending syn)
find-syn None = refl
find-syn (Some s) = one-flag s.unsent syn_record s

find-fin : (pos : ℕ) (fin : Option Sending) → find is_unsent (fin_records pos fin) ≡ option_map (fin_record pos) (unsent_sending fin)
find-fin pos None = refl
find-fin pos (Some s) = one-flag s.unsent (fin_record pos) s

pub find_all : (syn : Option Sending) (ps : List Piece) (pos : ℕ) (fin : Option Sending)
    → find is_unsent (all_records syn ps pos fin)
    ≡ first_some (option_map syn_record (unsent_sending syn)) (first_some (find is_unsent (map piece_record ps)) (option_map (fin_record pos) (unsent_sending fin)))
find_all syn ps pos fin =
    find-append (syn_records syn) (map piece_record ps ++ fin_records pos fin)
    ∙ ap (λ (t : Option Record). first_some t (find is_unsent (map piece_record ps ++ fin_records pos fin))) (find-syn syn)
    ∙ ap (λ (t : Option Record). first_some (option_map syn_record (unsent_sending syn)) t)
    (find-append (map piece_record ps) (fin_records pos fin) ∙ ap (λ (t : Option Record). first_some (find is_unsent (map piece_record ps)) t) (find-fin pos fin))

-- ---- it is sent
record_sent : ℕ → Record → Record
record_sent now r = record r { sending = sent_again now r.sending }

sent-pass : (now : ℕ) (r : Record) (rest : List Record) → r.sending.unsent ≡ false → first_unsent_sent now (r ∷ rest) ≡ r ∷ first_unsent_sent now rest
sent-pass now r rest e = ap (λ (b : Bool). if b then (record r { sending = sent_again now r.sending }) ∷ rest else r ∷ first_unsent_sent now rest) e

unsent-none : (s : Sending) → (b : Bool) → s.unsent ≡ b → (if b then Some s else None) ≡ None → s.unsent ≡ false
unsent-none s true e f = cc
unsent-none s false e f = e

past-syn : (now : ℕ) (syn : Option Sending) (rest : List Record) → unsent_sending syn ≡ None → first_unsent_sent now (syn_records syn ++ rest) ≡ syn_records syn ++ first_unsent_sent now rest
past-syn now None rest e = refl
past-syn now (Some s) rest e = sent-pass now (syn_record s) rest (unsent-none s s.unsent refl e)

pieces-flag : (b : Bool) (now : ℕ) (p : Piece) (ps more : List Piece) (rest : List Record) → (b ≡ false → first_unsent_sent now (map piece_record ps ++ rest) ≡ map piece_record more ++ rest)
    → (if b then (record (piece_record p) { sending = sent_again now p.sending }) ∷ (map piece_record ps ++ rest) else piece_record p ∷ first_unsent_sent now (map piece_record ps ++ rest))
    ≡ map piece_record (if b then record p { sending = sent_again now p.sending } ∷ ps else p ∷ more) ++ rest
pieces-flag true now p ps more rest e = refl
pieces-flag false now p ps more rest e = ap (λ (t : List Record). piece_record p ∷ t) (e refl)

sent-pieces : (now : ℕ) (ps : List Piece) (rest : List Record) → list_any is_unsent_piece ps ≡ true
    → first_unsent_sent now (map piece_record ps ++ rest) ≡ map piece_record (sent_pieces now ps) ++ rest
sent-pieces now [] rest some = cc
sent-pieces now (p ∷ ps) rest some =
    pieces-flag (is_unsent_piece p) now p ps (sent_pieces now ps) rest (λ e. sent-pieces now ps rest (rw e at some))

pub sent_all-pieces : (now : ℕ) (syn : Option Sending) (ps : List Piece) (pos : ℕ) (fin : Option Sending) → unsent_sending syn ≡ None → list_any is_unsent_piece ps ≡ true
    → first_unsent_sent now (all_records syn ps pos fin) ≡ all_records syn (sent_pieces now ps) pos fin
sent_all-pieces now syn ps pos fin e some =
    past-syn now syn (map piece_record ps ++ fin_records pos fin) e
    ∙ ap (λ (t : List Record). syn_records syn ++ t) (sent-pieces now ps (fin_records pos fin) some)

first_no : (b c : Bool) → (b || c) ≡ false → b ≡ false
first_no true c e = cc
first_no false c e = refl

pub no_piece : (now : ℕ) (ps : List Piece) → list_any is_unsent_piece ps ≡ false
    → (find is_unsent (map piece_record ps) ≡ None) × (sent_pieces now ps ≡ ps)
    × ((rest : List Record) → first_unsent_sent now (map piece_record ps ++ rest) ≡ map piece_record ps ++ first_unsent_sent now rest)
no_piece now [] none = (refl, refl, λ rest. refl)
no_piece now (p ∷ ps) none =
    let here : is_unsent_piece p ≡ false = first_no (is_unsent_piece p) (list_any is_unsent_piece ps) none in
    let there : list_any is_unsent_piece ps ≡ false = rw here at none in
    let rest = no_piece now ps there in (
      ap (λ (b : Bool). if b then Some (piece_record p) else find is_unsent (map piece_record ps)) here ∙ rest.0,
      ap (λ (b : Bool). if b then record p { sending = sent_again now p.sending } ∷ ps else p ∷ sent_pieces now ps) here ∙ ap (λ (t : List Piece). p ∷ t) rest.1,
      λ more. sent-pass now (piece_record p) (map piece_record ps ++ more) here ∙ ap (λ (t : List Record). piece_record p ∷ t) (rest.2 more),
    )

sent-fin : (now pos : ℕ) (fin : Option Sending) → IsSome (option_map (fin_record pos) (unsent_sending fin))
    → first_unsent_sent now (fin_records pos fin) ≡ fin_records pos (option_map (sent_again now) fin)
sent-fin now pos None some = cc
sent-fin now pos (Some s) some =
    (elim s.unsent as (λ b. s.unsent ≡ b → IsSome (option_map (fin_record pos) (if b then Some s else None)) → first_unsent_sent now (fin_record pos s ∷ []) ≡ fin_record pos (sent_again now s) ∷ [])
    [ true ↦ λ e some. ap (λ (b : Bool). if b then fin_record pos (sent_again now s) ∷ [] else fin_record pos s ∷ []) e | false ↦ λ e some. cc ]) refl some

pub sent_all-fin : (now : ℕ) (syn : Option Sending) (ps : List Piece) (pos : ℕ) (fin : Option Sending) → unsent_sending syn ≡ None → list_any is_unsent_piece ps ≡ false
    → IsSome (find is_unsent (all_records syn ps pos fin))
    → first_unsent_sent now (all_records syn ps pos fin) ≡ all_records syn (sent_pieces now ps) pos (option_map (sent_again now) fin)
sent_all-fin now syn ps pos fin e none some =
    let nothing = no_piece now ps none in
    let last = rw (find_all syn ps pos fin, e, nothing.0) at some in
    past-syn now syn (map piece_record ps ++ fin_records pos fin) e
    ∙ ap (λ (t : List Record). syn_records syn ++ t)
    (nothing.2 (fin_records pos fin) ∙ ap (λ (t : List Record). map piece_record ps ++ t) (sent-fin now pos fin last)
    ∙ ap (λ (t : List Piece). map piece_record t ++ fin_records pos (option_map (sent_again now) fin)) (sym nothing.1))

-- ---- an expiry
fin-unsent : (pos : ℕ) (fin : Option Sending) → map unsent_again (fin_records pos fin) ≡ fin_records pos (option_map to_be_sent fin)
fin-unsent pos None = refl
fin-unsent pos (Some s) = refl

pub expired_all-syn : (s : Sending) (ps ps' : List Piece) (pos : ℕ) (fin : Option Sending) → map piece_record ps' ≡ map unsent_again (map piece_record ps)
    → all_records (Some (first_at_an_expiry s)) ps' pos (option_map to_be_sent fin) ≡ expired_records (all_records (Some s) ps pos fin)
expired_all-syn s ps ps' pos fin e =
    ap (λ (t : List Record). syn_record (first_at_an_expiry s) ∷ t)
    (ap (λ (t : List Record). t ++ fin_records pos (option_map to_be_sent fin)) e
    ∙ ap (λ (t : List Record). map unsent_again (map piece_record ps) ++ t) (sym (fin-unsent pos fin))
    ∙ sym (map-append unsent_again (map piece_record ps) (fin_records pos fin)))

-- ---- octets under way
none_if : (b : Bool) (n : ℕ) → n ≡ 0 → (if b then 0 else n) ≡ 0
none_if true n e = refl
none_if false n e = e

some_if : (b : Bool) (n : ℕ) → n ≡ 0 → (if b then n else 0) ≡ 0
some_if true n e = e
some_if false n e = refl

less_none : (len n : ℕ) → n ≡ 0 → len - n ≡ len
less_none len n e = omega (arith, e)

-- the SYN and the FIN have no octets
none_in : (una : ℕ) (r : Record) → length r.piece ≡ 0 → octets_under_way una r ≡ 0
none_in una r e = none_if (is_unsent r) (length r.piece - acknowledged_in una r) (omega (arith, e))

flight-fin : (una pos : ℕ) (fin : Option Sending) → sum_by (octets_under_way una) (fin_records pos fin) ≡ 0
flight-fin una pos None = refl
flight-fin una pos (Some s) = rw (sum_by-cons (octets_under_way una) (fin_record pos s) []) (omega (arith, none_in una (fin_record pos s) refl))

-- a piece that begins at SND.UNA or past it is under way whole
flight-one : (una : ℕ) (p : Piece) → una ≤ p.pos → octets_under_way una (piece_record p) ≡ piece_under_way p
flight-one una p past =
    ap (λ (n : ℕ). if is_unsent_piece p then 0 else n)
    (less_none (length p.bytes) (acknowledged_in una (piece_record p)) (some_if (nat_lt una (end_of (piece_record p))) (una - p.pos) (omega (arith, past))))

-- pieces from SND.UNA on are in flight with all of their octets
flight-past : (una from nxt : ℕ) (ps : List Piece) (fin : Option Sending) → Follow from nxt (map span_of (map piece_record ps ++ fin_records (nxt - 1) fin)) → una ≤ from
    → sum_by (octets_under_way una) (map piece_record ps) ≡ sum_by piece_under_way ps
flight-past una from nxt [] fin f past = refl
flight-past una from nxt (p ∷ ps) fin f past =
    let rest = flight-past una (end_of (piece_record p)) nxt ps fin f.2 (omega (arith, f.1, past)) in
    let one = flight-one una p (omega (arith, f.0, past)) in
    omega (arith, rest, one, sum_by-cons (octets_under_way una) (piece_record p) (map piece_record ps), sum_by-cons piece_under_way p ps)

-- of the piece in which SND.UNA lies what is below that is acknowledged
partly : (una pos len : ℕ) (b : Bool) → pos ≤ una → una < pos + len
    → (if b then 0 else len - (if nat_lt una (pos + len) then una - pos else 0)) + (if b then 0 else una - pos) ≡ (if b then 0 else len)
partly una pos len true from to = refl
partly una pos len false from to = rw (lt_true una (pos + len) to) (omega (arith, from, to))

one_partly : (una : ℕ) (p : Piece) (ps : List Piece) → p.pos ≤ una → una < end_of (piece_record p)
    → octets_under_way una (piece_record p) + sent_below una (p ∷ ps) ≡ piece_under_way p
one_partly una p ps from to = partly una p.pos (length p.bytes) (is_unsent_piece p) from to

none_below : (una : ℕ) (ps : List Piece) → una ≡ 0 → sent_below una ps ≡ 0
none_below una [] e = refl
none_below una (p ∷ ps) e = none_if (is_unsent_piece p) (una - p.pos) (omega (arith, e))

pub flight-all : (una nxt : ℕ) (syn : Option Sending) (ps : List Piece) (fin : Option Sending) → Tile una nxt (map span_of (all_records syn ps (nxt - 1) fin))
    → sum_by (octets_under_way una) (all_records syn ps (nxt - 1) fin) + sent_below una ps ≡ sum_by piece_under_way ps
flight-all una nxt None [] fin t = omega (arith, flight-fin una (nxt - 1) fin)
flight-all una nxt None (p ∷ ps) fin t =
    let rest = flight-past una (end_of (piece_record p)) nxt ps fin t.2 (omega (arith, t.1)) in
    omega (
      arith,
      rest,
      one_partly una p ps t.0 t.1,
      flight-fin una (nxt - 1) fin,
      sum_by-append (octets_under_way una) (map piece_record (p ∷ ps)) (fin_records (nxt - 1) fin),
      sum_by-cons (octets_under_way una) (piece_record p) (map piece_record ps),
      sum_by-cons piece_under_way p ps,
    )
flight-all una nxt (Some s) ps fin t =
    omega (
      arith,
      flight-past una 1 nxt ps fin t.2 (omega (arith, t.1)),
      none_below una ps (omega (arith, t.1)),
      none_in una (syn_record s) refl,
      flight-fin una (nxt - 1) fin,
      sum_by-append (octets_under_way una) (map piece_record ps) (fin_records (nxt - 1) fin),
      sum_by-cons (octets_under_way una) (syn_record s) (map piece_record ps ++ fin_records (nxt - 1) fin),
    )

-- ---- one record more
pair_eq : (a a' b b' : ℕ) → a ≡ a' → b ≡ b' → (let p : ℕ × ℕ = (a, b) in p) ≡ (a', b')
pair_eq a a' b b' e f = ap (λ (n : ℕ). (let p : ℕ × ℕ = (n, b) in p)) e ∙ ap (λ (n : ℕ). (let p : ℕ × ℕ = (a', n) in p)) f

map-push : (ps : List Piece) (p : Piece) → map piece_record (ps ++ p ∷ []) ≡ map piece_record ps ++ piece_record p ∷ []
map-push [] p = refl
map-push (q ∷ ps) p = ap (λ (t : List Record). piece_record q ∷ t) (map-push ps p)

pub whole_push-piece : (syn : Option Sending) (ps : List Piece) (p : Piece) (pos pos' : ℕ) → all_records syn (ps ++ p ∷ []) pos' None ≡ all_records syn ps pos None ++ piece_record p ∷ []
whole_push-piece syn ps p pos pos' =
    ap (λ (t : List Record). syn_records syn ++ t) (append-nil (map piece_record (ps ++ p ∷ [])) ∙ map-push ps p ∙ ap (λ (t : List Record). t ++ piece_record p ∷ []) (sym (append-nil (map piece_record ps))))
    ∙ sym (append_assoc (syn_records syn) (map piece_record ps ++ []) (piece_record p ∷ []))

pub whole_push-fin : (syn : Option Sending) (ps : List Piece) (s : Sending) (pos pos' : ℕ) → all_records syn ps pos' (Some s) ≡ all_records syn ps pos None ++ fin_record pos' s ∷ []
whole_push-fin syn ps s pos pos' =
    ap (λ (t : List Record). syn_records syn ++ (t ++ fin_record pos' s ∷ [])) (sym (append-nil (map piece_record ps)))
    ∙ sym (append_assoc (syn_records syn) (map piece_record ps ++ []) (fin_record pos' s ∷ []))

Follow-push : (ss : List (ℕ × ℕ)) (from nxt end : ℕ) → Follow from nxt ss → nxt < end → Follow from end (ss ++ (nxt, end) ∷ [])
Follow-push [] from nxt end f lt = (sym f, omega arith, refl)
Follow-push (s ∷ ss) from nxt end f lt = (f.0, f.1, Follow-push ss s.1 nxt end f.2 lt)

pub Tile-push : (ss : List (ℕ × ℕ)) (una nxt end : ℕ) → Tile una nxt ss → nxt < end → Tile una end (ss ++ (nxt, end) ∷ [])
Tile-push [] una nxt end t lt = (omega arith, omega arith, refl)
Tile-push (s ∷ ss) una nxt end t lt = (t.0, t.1, Follow-push ss s.1 nxt end t.2 lt)

spans-push : (rs : List Record) (r : Record) → map span_of (rs ++ r ∷ []) ≡ map span_of rs ++ span_of r ∷ []
spans-push [] r = refl
spans-push (x ∷ rs) r = ap (λ (t : List (ℕ × ℕ)). span_of x ∷ t) (spans-push rs r)

pub kept_push : (una nxt : ℕ) (syn : Option Sending) (ps : List Piece) (fin : Option Sending) (finished : Bool) (p : Piece) (end : ℕ) → IsKept una nxt syn ps fin finished
    → finished ≡ false → p.pos ≡ nxt → 0 < length p.bytes → length p.bytes ≤ 65475 → nxt < 2 ^ 61 → end ≡ nxt + length p.bytes
    → IsKept una end syn (ps ++ p ∷ []) fin finished
kept_push una nxt syn ps (Some s) finished p end kept still at some most room e = absurd (true≢false (sym (kept.fin_last refl) ∙ still))
kept_push una nxt syn ps None finished p end kept still at some most room e =
    let Q : ℕ × ℕ → Type 0 = λ s. Tile una end (map span_of (all_records syn ps (nxt - 1) None) ++ s ∷ []) in
    let span : (nxt, end) ≡ span_of (piece_record p) = pair_eq nxt p.pos end (p.pos + length p.bytes) (sym at) (omega arith) in record {
      tile = subst (λ (rs : List Record). Tile una end (map span_of rs)) (sym (whole_push-piece syn ps p (nxt - 1) (end - 1)))
          (subst (λ (t : List (ℕ × ℕ)). Tile una end t) (sym (spans-push (all_records syn ps (nxt - 1) None) (piece_record p)))
          (subst Q span (Tile-push (map span_of (all_records syn ps (nxt - 1) None)) una nxt end kept.tile (omega arith))));
      syn_first = kept.syn_first;
      fin_last = kept.fin_last;
      fin_left = λ h lt. absurd (true≢false (sym h ∙ still));
      order = omega (arith, kept.order);
      begun = omega (arith, kept.begun);
      open_bound = λ h. omega arith;
      bound = omega arith;
    }

pub kept_finish : (una nxt : ℕ) (syn : Option Sending) (ps : List Piece) (fin : Option Sending) (finished : Bool) (s : Sending) → IsKept una nxt syn ps fin finished
    → finished ≡ false → IsKept una (nxt + 1) syn ps (Some s) true
kept_finish una nxt syn ps (Some t) finished s kept still = absurd (true≢false (sym (kept.fin_last refl) ∙ still))
kept_finish una nxt syn ps None finished s kept still =
    let at : nxt + 1 - 1 ≡ nxt = omega arith in
    let Q : ℕ × ℕ → Type 0 = λ s. Tile una (nxt + 1) (map span_of (all_records syn ps (nxt - 1) None) ++ s ∷ []) in
    let span : (nxt, nxt + 1) ≡ span_of (fin_record (nxt + 1 - 1) s) = pair_eq nxt (nxt + 1 - 1) (nxt + 1) (nxt + 1 - 1 + 1) (sym at) (omega arith) in record {
      tile = subst (λ (rs : List Record). Tile una (nxt + 1) (map span_of rs)) (sym (whole_push-fin syn ps s (nxt - 1) (nxt + 1 - 1)))
          (subst (λ (t : List (ℕ × ℕ)). Tile una (nxt + 1) t) (sym (spans-push (all_records syn ps (nxt - 1) None) (fin_record (nxt + 1 - 1) s)))
          (subst Q span (Tile-push (map span_of (all_records syn ps (nxt - 1) None)) una nxt (nxt + 1) kept.tile (omega arith))));
      syn_first = kept.syn_first;
      fin_last = λ h. refl;
      fin_left = λ h lt. refl;
      order = omega (arith, kept.order);
      begun = omega arith;
      open_bound = λ h. absurd (true≢false h);
      bound = omega (arith, kept.open_bound still);
    }
