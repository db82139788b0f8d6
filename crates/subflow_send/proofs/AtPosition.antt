-- The octets of a piece by its position, among pieces in order.
use Rattle.std.proofs.Common.{◌≡◌, refl, sym, ap, ◌∙◌, ℕ, zero, suc, ◌<◌, ◌≤◌, true, false, ◌==◌, Option, Some, None, List, [], ◌∷◌, ◌++◌, length, get_or, map, find, ⊎_elim, arith}
use Rattle.std.specs.Option.{option_map}
use Rattle.std.specs.Prelude.{nat_lt}
use Rattle.std.specs.List.Sorted.{IsNonDecreasingBy, IsPartitionPoint}
use Rattle.std.proofs.lemmas.Bool.{cases_lt, ltb-true, ltb-false}
use Rattle.std.proofs.lemmas.Bool.Decides.{nat_tests}
use Rattle.subflow_send.specs.declared.pieces.Piece.{Piece}
use Rattle.subflow_send.specs.declared.record.Sending.{Sending}
use Rattle.subflow_send.specs.Records.{Record, span_of, Follow, Tile}
use Rattle.subflow_send.specs.Rules.{syn_record, fin_record, is_piece_at, octets_of}
use Rattle.subflow_send.specs.Pieces.{piece_record, piece_end, fin_records, all_records}
use Rattle.subflow_send.proofs.Whole.{first_some}
use Rattle.subflow_send.proofs.ByPosition.{find_piece_at, find_piece_none, find_record, kept_if}

differs : (a b : ℕ) → (a ≡ b → ⊥) → (a == b) ≡ false
differs a b h = grind (arith, nat_tests)

same : (a b : ℕ) → a ≡ b → (a == b) ≡ true
same a b h = grind (arith, nat_tests)

-- ---- at the first piece that doesn't begin before the position
pub text_found : (pos i : ℕ) (ps : List Piece) (q : Piece) → i < length ps → q ≡ get_or ps i q → q.pos ≡ pos
    → ((k : ℕ) (d : Piece) → k < i → (get_or ps k d).pos < pos)
    → Some q.bytes ≡ option_map octets_of (find (is_piece_at pos) (map piece_record ps))
text_found pos i ps q lt is here before =
    ap (λ (p : Piece). Some p.bytes) is
    ∙ ap (option_map octets_of) (sym (find_piece_at (is_piece_at pos) ps i q lt
    (λ k d less. differs (get_or ps k d).pos pos (λ e. let low = before k d less in absurd (omega (arith, low, e))))
    (same (get_or ps i q).pos pos (ap (λ (p : Piece). p.pos) (sym is) ∙ here))))

-- one in the list doesn't hang on the default
same_at : (ps : List Piece) (k : ℕ) (c d : Piece) → k < length ps → get_or ps k c ≡ get_or ps k d
same_at [] k c d lt = absurd (omega (arith, lt))
same_at (p ∷ ps) zero c d lt = refl
same_at (p ∷ ps) (suc k) c d lt = same_at ps k c d (omega (arith, lt))

none_there : (pos : ℕ) (ps : List Piece) → ((k : ℕ) (d : Piece) → k < length ps → (get_or ps k d).pos ≡ pos → ⊥)
    → None ≡ option_map octets_of (find (is_piece_at pos) (map piece_record ps))
none_there pos ps other =
    ap (option_map octets_of) (sym (find_piece_none (is_piece_at pos) ps (λ k d lt. differs (get_or ps k d).pos pos (other k d lt))))

-- where all begin before the position, no piece stands there
pub text_past : (pos i : ℕ) (ps : List Piece) → i ≡ length ps → ((k : ℕ) (d : Piece) → k < i → (get_or ps k d).pos < pos)
    → None ≡ option_map octets_of (find (is_piece_at pos) (map piece_record ps))
text_past pos i ps all before =
    none_there pos ps (λ k d lt e. let low = before k d (omega (arith, all, lt)) in absurd (omega (arith, low, e)))

-- nor where the first of the others doesn't
pub text_missing : (pos i : ℕ) (ps : List Piece) (q : Piece) → IsNonDecreasingBy (λ p. p.pos) ps → i < length ps → q ≡ get_or ps i q
    → (q.pos ≡ pos → ⊥) → ((k : ℕ) (d : Piece) → k < i → (get_or ps k d).pos < pos)
    → ((k : ℕ) (d : Piece) → i ≤ k → k < length ps → pos ≤ (get_or ps k d).pos)
    → None ≡ option_map octets_of (find (is_piece_at pos) (map piece_record ps))
text_missing pos i ps q rises lt is other before behind =
    none_there pos ps (λ k d less. ⊎_elim (low k d) (high k d less) (cases_lt k i))
  where
    low : (k : ℕ) (d : Piece) → k < i → (get_or ps k d).pos ≡ pos → ⊥
    low k d less e = let at = before k d less in absurd (omega (arith, at, e))

    high : (k : ℕ) (d : Piece) → k < length ps → i ≤ k → (get_or ps k d).pos ≡ pos → ⊥
    high k d less le e =
        let first = behind i d (omega arith) lt in
        let later = rises i k d le less in
        other (ap (λ (p : Piece). p.pos) (is ∙ same_at ps i q d lt) ∙ between first later e)
      where
        between : pos ≤ (get_or ps i d).pos → (get_or ps i d).pos ≤ (get_or ps k d).pos → (get_or ps k d).pos ≡ pos → (get_or ps i d).pos ≡ pos
        between a b e = omega (arith, a, b, e)

-- ---- pieces that tile are in order
rising : (ps : List Piece) (fin : Option Sending) (from nxt pos : ℕ) → Follow from nxt (map span_of (map piece_record ps ++ fin_records pos fin))
    → (i j : ℕ) (d : Piece) → i ≤ j → j < length ps → (from ≤ (get_or ps j d).pos) × ((get_or ps i d).pos ≤ (get_or ps j d).pos)
rising [] fin from nxt pos f i j d le lt = absurd (omega (arith, lt))
rising (p ∷ ps) fin from nxt pos f zero zero d le lt = (omega (arith, f.0), omega arith)
rising (p ∷ ps) fin from nxt pos f (suc i) zero d le lt = absurd (omega (arith, le))
rising (p ∷ ps) fin from nxt pos f zero (suc j) d le lt =
    let rest = rising ps fin (piece_end p) nxt pos f.2 j j d (omega arith) (omega (arith, lt)) in
    (omega (arith, f.0, f.1, rest.0), omega (arith, f.0, f.1, rest.0))
rising (p ∷ ps) fin from nxt pos f (suc i) (suc j) d le lt =
    let rest = rising ps fin (piece_end p) nxt pos f.2 i j d (omega (arith, le)) (omega (arith, lt)) in
    (omega (arith, f.0, f.1, rest.0), rest.1)

pub pieces_rise : (syn : Option Sending) (ps : List Piece) (fin : Option Sending) (una nxt pos : ℕ)
    → Tile una nxt (map span_of (all_records syn ps pos fin)) → IsNonDecreasingBy (λ (p : Piece). p.pos) ps
pieces_rise (Some s) ps fin una nxt pos t = λ i j d le lt. (rising ps fin 1 nxt pos t.2 i j d le lt).1
pieces_rise None [] fin una nxt pos t = λ i j d le lt. absurd (omega (arith, lt))
pieces_rise None (p ∷ ps) fin una nxt pos t = λ i j d le lt. (rising (p ∷ ps) fin p.pos nxt pos (refl, omega (arith, t.0, t.1), t.2) i j d le lt).1

-- ---- neither the SYN nor the FIN is a piece
no_syn : (pos : ℕ) (syn : Option Sending) → kept_if (is_piece_at pos) (option_map syn_record syn) ≡ None
no_syn pos None = refl
no_syn pos (Some s) = refl

no_fin : (pos q : ℕ) (fin : Option Sending) → kept_if (is_piece_at pos) (option_map (fin_record q) fin) ≡ None
no_fin pos q None = refl
no_fin pos q (Some s) = refl

first_none : (found : Option Record) → first_some found None ≡ found
first_none None = refl
first_none (Some r) = refl

pub piece_of_all : (pos q : ℕ) (syn : Option Sending) (ps : List Piece) (fin : Option Sending)
    → find (is_piece_at pos) (all_records syn ps q fin) ≡ find (is_piece_at pos) (map piece_record ps)
piece_of_all pos q syn ps fin =
    find_record (is_piece_at pos) syn ps q fin ∙ rw (no_syn pos syn, no_fin pos q fin) (first_none (find (is_piece_at pos) (map piece_record ps)))

-- ---- where a search by halving comes
abbrev pub start_of : Piece → ℕ
start_of p = p.pos

pub point-before : (pos : ℕ) (ps : List Piece) (i : ℕ)
    → IsPartitionPoint (λ (p : Piece). nat_lt p.pos pos ≡ true) (λ (p : Piece). nat_lt p.pos pos ≡ false) ps i
    → (k : ℕ) (d : Piece) → k < i → (get_or ps k d).pos < pos
point-before pos ps i h k d lt = ltb-true (get_or ps k d).pos pos (h.0 k d (omega arith) lt)

pub point-behind : (pos : ℕ) (ps : List Piece) (i : ℕ)
    → IsPartitionPoint (λ (p : Piece). nat_lt p.pos pos ≡ true) (λ (p : Piece). nat_lt p.pos pos ≡ false) ps i
    → (k : ℕ) (d : Piece) → i ≤ k → k < length ps → pos ≤ (get_or ps k d).pos
point-behind pos ps i h k d le lt = ltb-false (get_or ps k d).pos pos (h.1 k d le lt)
