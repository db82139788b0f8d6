-- What the loops over the pieces have come to at an index.
--
-- A loop that changes a deque by index: a recursion with the number of places to pass over and the number to change
-- (`unsent_between`), one step lemma, one for the end. A read and a write of one element are two variables, each with
-- `x ≡ get_or xs i x`.
--
-- A list with numbers kept beside it (how far it was searched, a sum over it) is a struct of its own with a model whose
-- value is the list (`PieceQueue` of `subflow_send`): the numbers are its invariant, changes by place are `set` at an
-- index with a clause over every default (`(d : Piece) → new ≡ set old i (f (get_or old i d))`), and the records above
-- go on speaking of the list alone.
use Rattle.std.proofs.Common.{◌≡◌, ℕ, zero, suc, ◌+◌, ◌<◌, ◌≤◌, Bool, true, false, nat_le, nat_lt, if◌then◌else◌, Option, Some, None, List, [], ◌∷◌, ◌++◌, length, get_or, set, take, drop, map, find, refl, sym, ap, ◌∙◌, arith}
use Rattle.std.specs.Prelude.{slice_get, unwrap_or}
use Rattle.std.specs.List.{list_any, sum_by}
use Rattle.std.specs.Option.{option_map}
use Rattle.std.proofs.lemmas.Bool.Decides.{nat_tests}
use Rattle.std.proofs.lemmas.List.Sums.{sum_by-cons}
use Rattle.subflow_send.specs.declared.pieces.Piece.{Piece}
use Rattle.subflow_send.specs.declared.record.Sending.{Sending}
use Rattle.subflow_send.specs.Sendings.{sent_again, first_at_an_expiry}
use Rattle.subflow_send.specs.Records.{Record}
use Rattle.subflow_send.specs.Rules.{is_unsent, last_covered, unsent_again, expired_records}
use Rattle.subflow_send.specs.Pieces.{piece_record, piece_len, piece_under_way, piece_end, is_unsent_piece, unsent_piece, sent_pieces, sending_of}

pub le_true : (a b : ℕ) → a ≤ b → nat_le a b ≡ true
le_true a b h = grind (arith, nat_tests)

pub le_false : (a b : ℕ) → b < a → nat_le a b ≡ false
le_false a b h = grind (arith, nat_tests)

pub lt_true : (a b : ℕ) → a < b → nat_lt a b ≡ true
lt_true a b h = grind (arith, nat_tests)

pub lt_false : (a b : ℕ) → b ≤ a → nat_lt a b ≡ false
lt_false a b h = grind (arith, nat_tests)

-- ---- the first one that is to be sent
pub find_unsent_at : (ps : List Piece) (i : ℕ) (d : Piece) → i < length ps → ((k : ℕ) (d : Piece) → k < i → is_unsent_piece (get_or ps k d) ≡ false)
    → is_unsent_piece (get_or ps i d) ≡ true → find is_unsent (map piece_record ps) ≡ Some (piece_record (get_or ps i d))
find_unsent_at [] i d lt before here = absurd (omega arith)
find_unsent_at (p ∷ ps) zero d lt before here = rw here refl
find_unsent_at (p ∷ ps) (suc i) d lt before here =
    rw (before 0 p (omega arith)) (find_unsent_at ps i d (omega arith) (λ k d less. before (suc k) d (omega arith)) here)

pub find_unsent_none : (ps : List Piece) → ((k : ℕ) (d : Piece) → k < length ps → is_unsent_piece (get_or ps k d) ≡ false)
    → find is_unsent (map piece_record ps) ≡ None
find_unsent_none [] none = refl
find_unsent_none (p ∷ ps) none = rw (none 0 p (omega arith)) (find_unsent_none ps (λ k d less. none (suc k) d (omega arith)))

sent_here : (now : ℕ) (p : Piece) (ps : List Piece) → is_unsent_piece p ≡ true → record p { sending = sent_again now p.sending } ∷ ps ≡ sent_pieces now (p ∷ ps)
sent_here now p ps e = sym (ap (λ (b : Bool). if b then record p { sending = sent_again now p.sending } ∷ ps else p ∷ sent_pieces now ps) e)

sent_later : (now : ℕ) (p : Piece) (ps : List Piece) → is_unsent_piece p ≡ false → p ∷ sent_pieces now ps ≡ sent_pieces now (p ∷ ps)
sent_later now p ps e = sym (ap (λ (b : Bool). if b then record p { sending = sent_again now p.sending } ∷ ps else p ∷ sent_pieces now ps) e)

pub sent_pieces_at : (now : ℕ) (ps : List Piece) (i : ℕ) (d : Piece) → i < length ps → ((k : ℕ) (d : Piece) → k < i → is_unsent_piece (get_or ps k d) ≡ false)
    → is_unsent_piece (get_or ps i d) ≡ true
    → (set ps i (record (get_or ps i d) { sending = sent_again now (get_or ps i d).sending }) ≡ sent_pieces now ps) × (list_any is_unsent_piece ps ≡ true)
sent_pieces_at now [] i d lt before here = absurd (omega arith)
sent_pieces_at now (p ∷ ps) zero d lt before here = (sent_here now p ps here, rw here refl)
sent_pieces_at now (p ∷ ps) (suc i) d lt before here =
    let rest = sent_pieces_at now ps i d (omega arith) (λ k d less. before (suc k) d (omega arith)) here in
    let not_here = before 0 p (omega arith) in
    (ap (λ (t : List Piece). p ∷ t) rest.0 ∙ sent_later now p ps not_here, rw not_here rest.1)

pub sent_pieces_none : (now : ℕ) (ps : List Piece) → ((k : ℕ) (d : Piece) → k < length ps → is_unsent_piece (get_or ps k d) ≡ false)
    → (ps ≡ sent_pieces now ps) × (list_any is_unsent_piece ps ≡ false)
sent_pieces_none now [] none = (refl, refl)
sent_pieces_none now (p ∷ ps) none =
    let rest = sent_pieces_none now ps (λ k d less. none (suc k) d (omega arith)) in
    let not_here = none 0 p (omega arith) in
    (ap (λ (t : List Piece). p ∷ t) rest.0 ∙ sent_later now p ps not_here, rw not_here rest.1)

-- ---- from an index on all are to be sent: so many of them
abbrev pub unsent_between : ℕ → ℕ → List Piece → List Piece
unsent_between a n [] = []
unsent_between zero zero (p ∷ ps) = p ∷ ps
unsent_between zero (suc n) (p ∷ ps) = unsent_piece p ∷ unsent_between zero n ps
unsent_between (suc a) n (p ∷ ps) = p ∷ unsent_between a n ps

pub unsent_between-none : (a n : ℕ) (ps : List Piece) → n ≡ 0 → unsent_between a n ps ≡ ps
unsent_between-none a n [] e = refl
unsent_between-none zero zero (p ∷ ps) e = refl
unsent_between-none zero (suc n) (p ∷ ps) e = absurd (omega arith)
unsent_between-none (suc a) n (p ∷ ps) e = ap (λ (t : List Piece). p ∷ t) (unsent_between-none a n ps e)

pub length-unsent_between : (a n : ℕ) (ps : List Piece) → length (unsent_between a n ps) ≡ length ps
length-unsent_between a n [] = refl
length-unsent_between zero zero (p ∷ ps) = refl
length-unsent_between zero (suc n) (p ∷ ps) = ap suc (length-unsent_between zero n ps)
length-unsent_between (suc a) n (p ∷ ps) = ap suc (length-unsent_between a n ps)

pub unsent_between-more : (a n m i : ℕ) (ps : List Piece) (d : Piece) → a + n ≡ i → n + 1 ≡ m → i < length ps
    → set (unsent_between a n ps) i (unsent_piece (get_or (unsent_between a n ps) i d)) ≡ unsent_between a m ps
unsent_between-more a n m i [] d e f lt = absurd (omega arith)
unsent_between-more zero zero zero i (p ∷ ps) d e f lt = absurd (omega arith)
unsent_between-more zero zero (suc m) zero (p ∷ ps) d e f lt = ap (λ (t : List Piece). unsent_piece p ∷ t) (sym (unsent_between-none zero m ps (omega arith)))
unsent_between-more zero zero (suc m) (suc i) (p ∷ ps) d e f lt = absurd (omega arith)
unsent_between-more zero (suc n) zero i (p ∷ ps) d e f lt = absurd (omega arith)
unsent_between-more zero (suc n) (suc m) zero (p ∷ ps) d e f lt = absurd (omega arith)
unsent_between-more zero (suc n) (suc m) (suc i) (p ∷ ps) d e f lt = ap (λ (t : List Piece). unsent_piece p ∷ t) (unsent_between-more zero n m i ps d (omega arith) (omega arith) (omega arith))
unsent_between-more (suc a) n m zero (p ∷ ps) d e f lt = absurd (omega arith)
unsent_between-more (suc a) n m (suc i) (p ∷ ps) d e f lt = ap (λ (t : List Piece). p ∷ t) (unsent_between-more a n m i ps d (omega arith) (omega arith) (omega arith))

pub unsent_between-all : (a n : ℕ) (ps : List Piece) → length ps ≤ a + n → unsent_between a n ps ≡ take a ps ++ map unsent_piece (drop a ps)
unsent_between-all zero n [] le = refl
unsent_between-all (suc a) n [] le = refl
unsent_between-all zero zero (p ∷ ps) le = absurd (omega arith)
unsent_between-all zero (suc n) (p ∷ ps) le = ap (λ (t : List Piece). unsent_piece p ∷ t) (unsent_between-all zero n ps (omega arith))
unsent_between-all (suc a) n (p ∷ ps) le = ap (λ (t : List Piece). p ∷ t) (unsent_between-all a n ps (omega arith))

-- ---- octets under way
at_most : (b : Bool) (n : ℕ) → (if b then 0 else n) ≤ n
at_most true n = omega arith
at_most false n = omega arith

pub under_way-le : (ps : List Piece) → sum_by piece_under_way ps ≤ sum_by piece_len ps
under_way-le [] = omega arith
under_way-le (p ∷ ps) =
    let under = sum_by-cons piece_under_way p ps in
    let all = sum_by-cons piece_len p ps in
    omega (arith, under, all, at_most p.sending.unsent (length p.bytes), under_way-le ps)

-- ---- the last one that is covered
abbrev pub sending_before : ℕ → List Piece → Option Sending
sending_before zero ps = None
sending_before (suc i) ps = option_map (λ p. p.sending) (slice_get ps i)

alone : (o : Option Record) (r : Record) → option_map sending_of o ≡ None → Some (sending_of r) ≡ option_map sending_of (Some (unwrap_or o r))
alone None r e = refl
alone (Some x) r e = cc

sending_or : (o : Option Record) (r : Record) (s : Sending) → option_map sending_of o ≡ Some s → option_map sending_of (Some (unwrap_or o r)) ≡ Some s
sending_or None r s e = cc
sending_or (Some x) r s e = e

pub sending_before-more : (ps : List Piece) (i : ℕ) (d : Piece) → i < length ps → sending_before (suc i) ps ≡ Some (get_or ps i d).sending
sending_before-more [] i d lt = absurd (omega arith)
sending_before-more (p ∷ ps) zero d lt = refl
sending_before-more (p ∷ ps) (suc i) d lt = sending_before-more ps i d (omega arith)

pub last_covered_at : (pos : ℕ) (ps : List Piece) (i : ℕ) → i ≤ length ps → ((k : ℕ) (d : Piece) → k < i → piece_end (get_or ps k d) ≤ pos)
    → ((d : Piece) → i < length ps → pos < piece_end (get_or ps i d))
    → sending_before i ps ≡ option_map sending_of (last_covered pos (map piece_record ps))
last_covered_at pos [] zero le before here = refl
last_covered_at pos [] (suc i) le before here = absurd (omega arith)
last_covered_at pos (p ∷ ps) zero le before here = rw (le_false (piece_end p) pos (here p (omega arith))) refl
last_covered_at pos (p ∷ ps) (suc zero) le before here =
    let rest = last_covered_at pos ps zero (omega arith) (λ k d less. absurd (omega arith)) (λ d lt. here d (omega arith)) in
    rw (le_true (piece_end p) pos (before 0 p (omega arith))) (alone (last_covered pos (map piece_record ps)) (piece_record p) (sym rest))
last_covered_at pos (p ∷ ps) (suc (suc i)) le before here =
    let rest = last_covered_at pos ps (suc i) (omega arith) (λ k d less. before (suc k) d (omega arith)) (λ d lt. here d (omega arith)) in
    let own = sending_before-more ps i p (omega arith) in
    rw (le_true (piece_end p) pos (before 0 p (omega arith)))
    (own ∙ sym (sending_or (last_covered pos (map piece_record ps)) (piece_record p) (get_or ps i p).sending (sym rest ∙ own)))

-- ---- as the code reads and writes them

map-unsent : (ps : List Piece) → map piece_record (map unsent_piece ps) ≡ map unsent_again (map piece_record ps)
map-unsent [] = refl
map-unsent (p ∷ ps) = ap (λ (t : List Record). piece_record (unsent_piece p) ∷ t) (map-unsent ps)

pub map-unsent_from_0 : (ps after : List Piece) → after ≡ take 0 ps ++ map unsent_piece (drop 0 ps) → map piece_record after ≡ map unsent_again (map piece_record ps)
map-unsent_from_0 ps after e = ap (map piece_record) e ∙ map-unsent ps

pub expired_first_read : (ps after : List Piece) (read written : Piece) (s : Sending) → 0 < length ps → read ≡ get_or ps 0 read → s ≡ first_at_an_expiry read.sending
    → written ≡ get_or ps 0 written
    → after ≡ take 1 (set ps 0 (record written { sending = s })) ++ map unsent_piece (drop 1 (set ps 0 (record written { sending = s })))
    → map piece_record after ≡ expired_records (map piece_record ps)
expired_first_read [] after read written s some seen e now_is is = absurd (omega arith)
expired_first_read (p ∷ ps) after read written s some seen e now_is is =
    ap (map piece_record) is
    ∙ ap (λ (r : Piece). piece_record (record r { sending = s }) ∷ map piece_record (map unsent_piece ps)) now_is
    ∙ ap (λ (t : Sending). piece_record (record p { sending = t }) ∷ map piece_record (map unsent_piece ps)) (e ∙ ap (λ (r : Piece). first_at_an_expiry r.sending) seen)
    ∙ ap (λ (t : List Record). (record (piece_record p) { sending = first_at_an_expiry p.sending }) ∷ t) (map-unsent ps)
