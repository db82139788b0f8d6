-- What an acknowledgement covers, and how many octets the records have.
--
-- A list that tiles: the tiling as a predicate on spans (`map span_of records`), so that a change that keeps the spans
-- keeps it by one equation of lists.
use Rattle.std.proofs.Common.{◌≡◌, ℕ, ◌+◌, ◌-◌, ◌<◌, ◌≤◌, min, max, Bool, true, false, nat_le, nat_lt, if◌then◌else◌, Option, Some, None, List, [], ◌∷◌, ◌++◌, map, refl, sym, ap, ◌∙◌, subst, ⊎_elim, true≢false, arith}
use Rattle.std.specs.Prelude.{is_some, IsSome, unwrap_or}
use Rattle.std.specs.List.{sum_by}
use Rattle.std.specs.Option.{option_map}
use Rattle.std.proofs.lemmas.Bool.{cases_lt}
use Rattle.std.proofs.lemmas.List.Sums.{sum_by-cons}
use Rattle.subflow_send.specs.declared.pieces.Piece.{Piece}
use Rattle.subflow_send.specs.declared.record.Sending.{Sending}
use Rattle.subflow_send.specs.Records.{Record, span_of, end_of, Follow, Tile}
use Rattle.subflow_send.specs.Rules.{syn_record, fin_record, uncovered, octets_between, last_covered}
use Rattle.subflow_send.specs.Pieces.{piece_record, piece_end, piece_len, fin_records, all_records, uncovered_pieces, sending_of, IsKept}
use Rattle.subflow_send.proofs.PieceLoops.{le_true, le_false, lt_true, lt_false}
use Rattle.subflow_send.proofs.Whole.{first_some}

pub Follow-le : (ss : List (ℕ × ℕ)) (from to : ℕ) → Follow from to ss → from ≤ to
Follow-le [] from to e = omega arith
Follow-le (s ∷ ss) from to f = omega (arith, f.1, Follow-le ss s.1 to f.2)

-- ---- what is left tiles again
Follow-uncovered : (rs : List Record) (from nxt pos : ℕ) → Follow from nxt (map span_of rs) → from ≤ pos → pos ≤ nxt → Tile pos nxt (map span_of (uncovered pos rs))
Follow-uncovered [] from nxt pos f le within = omega arith
Follow-uncovered (r ∷ rs) from nxt pos f le within =
    ⊎_elim
    (λ h. rw (le_false (end_of r) pos h) (omega (arith, f.0), h, f.2))
    (λ h. rw (le_true (end_of r) pos h) (Follow-uncovered rs (end_of r) nxt pos f.2 h within))
    (cases_lt pos (end_of r))

pub Tile-uncovered : (rs : List Record) (una nxt pos : ℕ) → Tile una nxt (map span_of rs) → una < pos → pos ≤ nxt → Tile pos nxt (map span_of (uncovered pos rs))
Tile-uncovered [] una nxt pos t lt within = absurd (omega arith)
Tile-uncovered (r ∷ rs) una nxt pos t lt within =
    ⊎_elim
    (λ h. rw (le_false (end_of r) pos h) (omega (arith, t.0), h, t.2))
    (λ h. rw (le_true (end_of r) pos h) (Follow-uncovered rs (end_of r) nxt pos t.2 h within))
    (cases_lt pos (end_of r))

-- ---- by pieces
unless_flag : (b : Bool) (pos : ℕ) → [] ≡ fin_records pos (if b then None else None)
unless_flag true pos = refl
unless_flag false pos = refl

uncovered-pieces : (ps : List Piece) (fin : Option Sending) (from nxt pos : ℕ) → Follow from nxt (map span_of (map piece_record ps ++ fin_records (nxt - 1) fin))
    → 0 < nxt → pos ≤ nxt
    → uncovered pos (map piece_record ps ++ fin_records (nxt - 1) fin) ≡ map piece_record (uncovered_pieces pos ps) ++ fin_records (nxt - 1) (if nat_le nxt pos then None else fin)
uncovered-pieces [] None from nxt pos f some within = unless_flag (nat_le nxt pos) (nxt - 1)
uncovered-pieces [] (Some s) from nxt pos f some within =
    ⊎_elim
    (λ h. rw (le_false nxt pos h, le_false (nxt - 1 + 1) pos (omega arith)) refl)
    (λ h. rw (le_true nxt pos h, le_true (nxt - 1 + 1) pos (omega arith)) refl)
    (cases_lt pos nxt)
uncovered-pieces (p ∷ ps) fin from nxt pos f some within =
    ⊎_elim
    (λ h. rw (le_false (piece_end p) pos h, le_false nxt pos (omega (arith, Follow-le (map span_of (map piece_record ps ++ fin_records (nxt - 1) fin)) (piece_end p) nxt f.2))) refl)
    (λ h. rw (le_true (piece_end p) pos h) (uncovered-pieces ps fin (piece_end p) nxt pos f.2 some within))
    (cases_lt pos (piece_end p))

Tile-Follow : (ss : List (ℕ × ℕ)) (una nxt : ℕ) → Tile una nxt ss → (from : ℕ) × Follow from nxt ss
Tile-Follow [] una nxt t = (nxt, refl)
Tile-Follow (s ∷ ss) una nxt t = (s.0, (refl, omega (arith, t.0, t.1), t.2))

pub uncovered_all : (syn : Option Sending) (ps : List Piece) (fin : Option Sending) (una nxt pos : ℕ) → Tile una nxt (map span_of (all_records syn ps (nxt - 1) fin))
    → 0 < nxt → una < pos → pos ≤ nxt
    → uncovered pos (all_records syn ps (nxt - 1) fin) ≡ all_records None (uncovered_pieces pos ps) (nxt - 1) (if nat_le nxt pos then None else fin)
uncovered_all None ps fin una nxt pos t some lt within =
    let from = Tile-Follow (map span_of (map piece_record ps ++ fin_records (nxt - 1) fin)) una nxt t in
    uncovered-pieces ps fin from.0 nxt pos from.1 some within
uncovered_all (Some s) ps fin una nxt pos t some lt within =
    rw (le_true 1 pos (omega arith)) (uncovered-pieces ps fin 1 nxt pos t.2 some within)

fin_kept : (b : Bool) (fin : Option Sending) → IsSome (if b then None else fin) → IsSome fin
fin_kept true fin e = cc
fin_kept false fin e = e

pub kept_after : (una nxt : ℕ) (syn : Option Sending) (ps : List Piece) (fin : Option Sending) (finished : Bool) (pos : ℕ) → IsKept una nxt syn ps fin finished
    → una < pos → pos ≤ nxt → IsKept pos nxt None (uncovered_pieces pos ps) (if nat_le nxt pos then None else fin) finished
kept_after una nxt syn ps fin finished pos kept lt within = record {
  tile = subst (λ (rs : List Record). Tile pos nxt (map span_of rs)) (uncovered_all syn ps fin una nxt pos kept.tile kept.begun lt within)
      (Tile-uncovered (all_records syn ps (nxt - 1) fin) una nxt pos kept.tile lt within);
  syn_first = (λ e. absurd (true≢false (sym e)), λ e. absurd (omega arith));
  fin_last = λ e. kept.fin_last (fin_kept (nat_le nxt pos) fin e);
  fin_left = λ e less. rw (le_false nxt pos less) (kept.fin_left e (omega arith));
  order = within;
  begun = kept.begun;
  open_bound = kept.open_bound;
  bound = kept.bound;
}

-- ---- how many octets
octets-pieces : (ps : List Piece) (fin : Option Sending) (from nxt una pos : ℕ) → Follow from nxt (map span_of (map piece_record ps ++ fin_records (nxt - 1) fin)) → 0 < nxt
    → sum_by (octets_between una pos) (map piece_record ps ++ fin_records (nxt - 1) fin) ≡ min pos (if is_some fin then nxt - 1 else nxt) - max una from
octets-pieces [] None from nxt una pos f some = omega arith
octets-pieces [] (Some s) from nxt una pos f some =
    rw (sum_by-cons (octets_between una pos) (fin_record (nxt - 1) s) []) (omega (arith, f.0, f.1, f.2))
octets-pieces (p ∷ ps) fin from nxt una pos f some =
    let rest = octets-pieces ps fin (piece_end p) nxt una pos f.2 some in
    let ends = last_end ps fin (piece_end p) nxt f.2 some in
    rw (sum_by-cons (octets_between una pos) (piece_record p) (map piece_record ps ++ fin_records (nxt - 1) fin), rest) (omega (arith, f.0, f.1, ends))
  where
    last_end : (ps : List Piece) (fin : Option Sending) (from nxt : ℕ) → Follow from nxt (map span_of (map piece_record ps ++ fin_records (nxt - 1) fin)) → 0 < nxt → from ≤ (if is_some fin then nxt - 1 else nxt)
    last_end [] None from nxt f some = omega arith
    last_end [] (Some s) from nxt f some = omega (arith, f.0)
    last_end (p ∷ ps) fin from nxt f some = omega (arith, f.1, last_end ps fin (piece_end p) nxt f.2 some)

-- ---- how long all pieces are
pub piece_len-le : (ps : List Piece) (fin : Option Sending) (from nxt : ℕ) → Follow from nxt (map span_of (map piece_record ps ++ fin_records (nxt - 1) fin)) → sum_by piece_len ps ≤ nxt - from
piece_len-le [] fin from nxt f = omega arith
piece_len-le (p ∷ ps) fin from nxt f =
    let rest = piece_len-le ps fin (piece_end p) nxt f.2 in
    rw (sum_by-cons piece_len p ps) (omega (arith, f.0, f.1, rest, Follow-le (map span_of (map piece_record ps ++ fin_records (nxt - 1) fin)) (piece_end p) nxt f.2))

pub piece_len-all : (syn : Option Sending) (ps : List Piece) (fin : Option Sending) (una nxt : ℕ) → Tile una nxt (map span_of (all_records syn ps (nxt - 1) fin)) → sum_by piece_len ps ≤ nxt
piece_len-all None ps fin una nxt t =
    let from = Tile-Follow (map span_of (map piece_record ps ++ fin_records (nxt - 1) fin)) una nxt t in omega (arith, piece_len-le ps fin from.0 nxt from.1)
piece_len-all (Some s) ps fin una nxt t = omega (arith, piece_len-le ps fin 1 nxt t.2)

-- ---- newly acknowledged octets
begins : (ss : List (ℕ × ℕ)) (una nxt : ℕ) → Tile una nxt ss → una < nxt → (from : ℕ) × Follow from nxt ss × (from ≤ una)
begins [] una nxt t lt = absurd (omega arith)
begins (s ∷ ss) una nxt t lt = (s.0, (refl, omega (arith, t.0, t.1), t.2), t.0)

end_flag : (fin : Option Sending) (finished : Bool) (nxt : ℕ) → (IsSome fin → finished ≡ true) → (finished ≡ true → IsSome fin) → (if is_some fin then nxt - 1 else nxt) ≡ (if finished then nxt - 1 else nxt)
end_flag None true nxt last left = absurd (true≢false (sym (left refl)))
end_flag None false nxt last left = refl
end_flag (Some s) true nxt last left = refl
end_flag (Some s) false nxt last left = absurd (true≢false (sym (last refl)))

pub octets_all : (una nxt : ℕ) (syn : Option Sending) (ps : List Piece) (fin : Option Sending) (finished : Bool) (pos : ℕ) → IsKept una nxt syn ps fin finished
    → una < pos → pos ≤ nxt
    → min pos (if finished then nxt - 1 else nxt) - max una 1 ≡ sum_by (octets_between una pos) (all_records syn ps (nxt - 1) fin)
octets_all una nxt None ps fin finished pos kept lt within =
    let from = begins (map span_of (map piece_record ps ++ fin_records (nxt - 1) fin)) una nxt kept.tile (omega arith) in
    let end = end_flag fin finished nxt kept.fin_last (λ h. kept.fin_left h (omega arith)) in
    let whole = octets-pieces ps fin from.0 nxt una pos from.1 kept.begun in
    let some : 0 < una = ⊎_elim (λ h. h) (λ h. let zero : una ≡ 0 = omega arith in absurd (true≢false (sym (kept.syn_first.1 zero)))) (cases_lt 0 una) in
    omega (arith, end, whole, from.2, some)
octets_all una nxt (Some s) ps fin finished pos kept lt within =
    let end = end_flag fin finished nxt kept.fin_last (λ h. kept.fin_left h (omega arith)) in
    let whole = octets-pieces ps fin 1 nxt una pos kept.tile.2 kept.begun in
    let both = sum_by-cons (octets_between una pos) (syn_record s) (map piece_record ps ++ fin_records (nxt - 1) fin) in
    omega (arith, end, whole, both, kept.syn_first.0 refl)

-- ---- the last record that is covered
or_sending : (F : Option Sending) (o o' : Option Record) (r : Record) → option_map sending_of o ≡ first_some F (option_map sending_of o')
    → option_map sending_of (Some (unwrap_or o r)) ≡ first_some F (option_map sending_of (Some (unwrap_or o' r)))
or_sending None None None r e = refl
or_sending None (Some x) (Some y) r e = e
or_sending None None (Some y) r e = cc
or_sending None (Some x) None r e = cc
or_sending (Some s) None o' r e = cc
or_sending (Some s) (Some x) o' r e = e

or_syn : (o : Option Record) (x : Option Sending) (s : Sending) → option_map sending_of o ≡ x → option_map sending_of (Some (unwrap_or o (syn_record s))) ≡ first_some x (Some s)
or_syn None None s e = refl
or_syn None (Some t) s e = cc
or_syn (Some r) None s e = cc
or_syn (Some r) (Some t) s e = e

first_some-assoc : (a b c : Option Sending) → first_some (first_some a b) c ≡ first_some a (first_some b c)
first_some-assoc None b c = refl
first_some-assoc (Some x) b c = refl

first_some-none : (a : Option Sending) → first_some a None ≡ a
first_some-none None = refl
first_some-none (Some x) = refl

flag-none : (b : Bool) → (let none : Option Sending = None in none) ≡ first_some (if b then None else None) None
flag-none true = refl
flag-none false = refl

last-pieces : (ps : List Piece) (fin : Option Sending) (from nxt pos : ℕ) → Follow from nxt (map span_of (map piece_record ps ++ fin_records (nxt - 1) fin)) → 0 < nxt
    → option_map sending_of (last_covered pos (map piece_record ps ++ fin_records (nxt - 1) fin))
    ≡ first_some (if nat_lt pos nxt then None else fin) (option_map sending_of (last_covered pos (map piece_record ps)))
last-pieces [] None from nxt pos f some = flag-none (nat_lt pos nxt)
last-pieces [] (Some s) from nxt pos f some =
    ⊎_elim
    (λ h. rw (lt_true pos nxt h, le_false (nxt - 1 + 1) pos (omega arith)) refl)
    (λ h. rw (lt_false pos nxt h, le_true (nxt - 1 + 1) pos (omega arith)) refl)
    (cases_lt pos nxt)
last-pieces (p ∷ ps) fin from nxt pos f some =
    ⊎_elim
    (λ h. rw (le_false (piece_end p) pos h, lt_true pos nxt (omega (arith, Follow-le (map span_of (map piece_record ps ++ fin_records (nxt - 1) fin)) (piece_end p) nxt f.2))) refl)
    (λ h. rw (le_true (piece_end p) pos h)
    (or_sending (if nat_lt pos nxt then None else fin) (last_covered pos (map piece_record ps ++ fin_records (nxt - 1) fin)) (last_covered pos (map piece_record ps)) (piece_record p)
    (last-pieces ps fin (piece_end p) nxt pos f.2 some)))
    (cases_lt pos (piece_end p))

pub last_all : (syn : Option Sending) (ps : List Piece) (fin : Option Sending) (una nxt pos : ℕ) → Tile una nxt (map span_of (all_records syn ps (nxt - 1) fin)) → 0 < nxt → una < pos
    → option_map sending_of (last_covered pos (all_records syn ps (nxt - 1) fin))
    ≡ first_some (if nat_lt pos nxt then None else fin) (first_some (option_map sending_of (last_covered pos (map piece_record ps))) syn)
last_all None ps fin una nxt pos t some lt =
    let from = Tile-Follow (map span_of (map piece_record ps ++ fin_records (nxt - 1) fin)) una nxt t in
    last-pieces ps fin from.0 nxt pos from.1 some
    ∙ ap (λ (o : Option Sending). first_some (if nat_lt pos nxt then None else fin) o) (sym (first_some-none (option_map sending_of (last_covered pos (map piece_record ps)))))
last_all (Some s) ps fin una nxt pos t some lt =
    rw (le_true 1 pos (omega arith))
    (or_syn (last_covered pos (map piece_record ps ++ fin_records (nxt - 1) fin)) _ s (last-pieces ps fin 1 nxt pos t.2 some)
    ∙ first_some-assoc (if nat_lt pos nxt then None else fin) (option_map sending_of (last_covered pos (map piece_record ps))) (Some s))

-- at or below SND.UNA nothing is covered
pub nothing_covered : (rs : List Record) (una nxt pos : ℕ) → Tile una nxt (map span_of rs) → pos ≤ una → last_covered pos rs ≡ None
nothing_covered [] una nxt pos t le = refl
nothing_covered (r ∷ rs) una nxt pos t le = rw (le_false (end_of r) pos (omega (arith, t.1))) refl
