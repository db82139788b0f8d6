-- A record by its position, and the FIN by itself.
use Rattle.std.proofs.Common.{◌≡◌, ℕ, zero, suc, ◌<◌, Bool, true, false, not, ◌||◌, ◌==◌, if◌then◌else◌, Option, Some, None, List, [], ◌∷◌, ◌++◌, length, get_or, map, find, refl, ap, ◌∙◌, arith}
use Rattle.std.specs.List.{list_any}
use Rattle.std.specs.Option.{option_map}
use Rattle.std.proofs.lemmas.Bool.Decides.{nat_tests}
use Rattle.std.proofs.lemmas.List.{map-append}
use Rattle.subflow_send.specs.declared.pieces.Piece.{Piece}
use Rattle.subflow_send.specs.declared.record.Sending.{Sending}
use Rattle.subflow_send.specs.Sendings.{sent_again}
use Rattle.subflow_send.specs.Records.{Record}
use Rattle.subflow_send.specs.Rules.{syn_record, fin_record, stands_at, is_new_fin, fin_sent}
use Rattle.subflow_send.specs.Pieces.{piece_record, syn_records, fin_records, all_records}
use Rattle.subflow_send.proofs.Whole.{first_some}

pub find_piece_at : (f : Record → Bool) (ps : List Piece) (i : ℕ) (d : Piece) → i < length ps → ((k : ℕ) (d : Piece) → k < i → f (piece_record (get_or ps k d)) ≡ false)
    → f (piece_record (get_or ps i d)) ≡ true → find f (map piece_record ps) ≡ Some (piece_record (get_or ps i d))
find_piece_at f [] i d lt before here = absurd (omega arith)
find_piece_at f (p ∷ ps) zero d lt before here = rw here refl
find_piece_at f (p ∷ ps) (suc i) d lt before here =
    rw (before 0 p (omega arith)) (find_piece_at f ps i d (omega arith) (λ k d less. before (suc k) d (omega arith)) here)

pub find_piece_none : (f : Record → Bool) (ps : List Piece) → ((k : ℕ) (d : Piece) → k < length ps → f (piece_record (get_or ps k d)) ≡ false)
    → find f (map piece_record ps) ≡ None
find_piece_none f [] none = refl
find_piece_none f (p ∷ ps) none = rw (none 0 p (omega arith)) (find_piece_none f ps (λ k d less. none (suc k) d (omega arith)))

-- ---- one list of records
find-flag : (b : Bool) (r : Record) (x y z : Option Record) → x ≡ first_some y z → (if b then Some r else x) ≡ first_some (if b then Some r else y) z
find-flag true r x y z e = refl
find-flag false r x y z e = e

find-append : (f : Record → Bool) (xs ys : List Record) → find f (xs ++ ys) ≡ first_some (find f xs) (find f ys)
find-append f [] ys = refl
find-append f (x ∷ xs) ys = find-flag (f x) x (find f (xs ++ ys)) (find f xs) (find f ys) (find-append f xs ys)

-- the one record of the SYN or of the FIN
abbrev pub kept_if : (Record → Bool) → Option Record → Option Record
kept_if f None = None
kept_if f (Some r) = if f r then Some r else None

find-syn : (f : Record → Bool) (syn : Option Sending) → find f (syn_records syn) ≡ kept_if f (option_map syn_record syn)
find-syn f None = refl
find-syn f (Some s) = refl

find-fin : (f : Record → Bool) (pos : ℕ) (fin : Option Sending) → find f (fin_records pos fin) ≡ kept_if f (option_map (fin_record pos) fin)
find-fin f pos None = refl
find-fin f pos (Some s) = refl

pub find_record : (f : Record → Bool) (syn : Option Sending) (ps : List Piece) (pos : ℕ) (fin : Option Sending)
    → find f (all_records syn ps pos fin)
    ≡ first_some (kept_if f (option_map syn_record syn)) (first_some (find f (map piece_record ps)) (kept_if f (option_map (fin_record pos) fin)))
find_record f syn ps pos fin =
    find-append f (syn_records syn) (map piece_record ps ++ fin_records pos fin)
    ∙ ap (λ (t : Option Record). first_some t (find f (map piece_record ps ++ fin_records pos fin))) (find-syn f syn)
    ∙ ap (λ (t : Option Record). first_some (kept_if f (option_map syn_record syn)) t)
    (find-append f (map piece_record ps) (fin_records pos fin) ∙ ap (λ (t : Option Record). first_some (find f (map piece_record ps)) t) (find-fin f pos fin))

none_either : (b : Bool) (g : Sending → Record) → None ≡ option_map g (if b then None else None)
none_either true g = refl
none_either false g = refl

same_number : (a b : ℕ) → (a == b) ≡ (b == a)
same_number a b = grind (arith, nat_tests)

kept_flag : (b : Bool) (s : Sending) (g : Sending → Record) → (if b then Some (g s) else None) ≡ option_map g (if not b then None else Some s)
kept_flag true s g = refl
kept_flag false s g = refl

kept-syn : (pos : ℕ) (syn : Option Sending) → kept_if (stands_at pos) (option_map syn_record syn) ≡ option_map syn_record (if not (pos == 0) then None else syn)
kept-syn pos None = none_either (not (pos == 0)) syn_record
kept-syn pos (Some s) = rw (same_number 0 pos) (kept_flag (pos == 0) s syn_record)

kept-fin : (pos q : ℕ) (fin : Option Sending) → kept_if (stands_at pos) (option_map (fin_record q) fin) ≡ option_map (fin_record q) (if not (pos == q) then None else fin)
kept-fin pos q None = none_either (not (pos == q)) (fin_record q)
kept-fin pos q (Some s) = rw (same_number q pos) (kept_flag (pos == q) s (fin_record q))

-- by the SYN that stands there, if it does, the pieces, and the FIN
pub record_at_is : (pos q : ℕ) (syn fin : Option Sending) (ps : List Piece)
    → find (stands_at pos) (all_records syn ps q fin)
    ≡ first_some (option_map syn_record (if not (pos == 0) then None else syn)) (first_some (find (stands_at pos) (map piece_record ps)) (option_map (fin_record q) (if not (pos == q) then None else fin)))
record_at_is pos q syn fin ps =
    find_record (stands_at pos) syn ps q fin ∙ rw (kept-syn pos syn, kept-fin pos q fin) refl

-- ---- the FIN alone
any-append : (f : Record → Bool) (xs ys : List Record) → list_any f (xs ++ ys) ≡ (list_any f xs || list_any f ys)
any-append f [] ys = refl
any-append f (x ∷ xs) ys = grind (arith, any-append f xs ys)

no_new_fin : (ps : List Piece) → list_any is_new_fin (map piece_record ps) ≡ false
no_new_fin [] = refl
no_new_fin (p ∷ ps) = no_new_fin ps

-- the FIN is new where it was never sent
abbrev pub is_new_sending : Option Sending → Bool
is_new_sending None = false
is_new_sending (Some s) = s.times == 0

new_fin_alone : (pos : ℕ) (fin : Option Sending) → list_any is_new_fin (fin_records pos fin) ≡ is_new_sending fin
new_fin_alone pos None = refl
new_fin_alone pos (Some s) = grind arith

no_new_syn : (syn : Option Sending) → list_any is_new_fin (syn_records syn) ≡ false
no_new_syn None = refl
no_new_syn (Some s) = refl

pub new_fin_of_all : (syn : Option Sending) (ps : List Piece) (pos : ℕ) (fin : Option Sending) → list_any is_new_fin (all_records syn ps pos fin) ≡ is_new_sending fin
new_fin_of_all syn ps pos fin =
    any-append is_new_fin (syn_records syn) (map piece_record ps ++ fin_records pos fin)
    ∙ rw (no_new_syn syn, any-append is_new_fin (map piece_record ps) (fin_records pos fin), no_new_fin ps, new_fin_alone pos fin) refl

pieces_stay : (now : ℕ) (ps : List Piece) → map (fin_sent now) (map piece_record ps) ≡ map piece_record ps
pieces_stay now [] = refl
pieces_stay now (p ∷ ps) = ap (λ (t : List Record). piece_record p ∷ t) (pieces_stay now ps)

syn_stays : (now : ℕ) (syn : Option Sending) → map (fin_sent now) (syn_records syn) ≡ syn_records syn
syn_stays now None = refl
syn_stays now (Some s) = refl

fin_changes : (now pos : ℕ) (fin : Option Sending) → map (fin_sent now) (fin_records pos fin) ≡ fin_records pos (option_map (sent_again now) fin)
fin_changes now pos None = refl
fin_changes now pos (Some s) = refl

pub fin_sent_of_all : (now : ℕ) (syn : Option Sending) (ps : List Piece) (pos : ℕ) (fin : Option Sending)
    → map (fin_sent now) (all_records syn ps pos fin) ≡ all_records syn ps pos (option_map (sent_again now) fin)
fin_sent_of_all now syn ps pos fin =
    map-append (fin_sent now) (syn_records syn) (map piece_record ps ++ fin_records pos fin)
    ∙ rw (syn_stays now syn, map-append (fin_sent now) (map piece_record ps) (fin_records pos fin), pieces_stay now ps, fin_changes now pos fin) refl
