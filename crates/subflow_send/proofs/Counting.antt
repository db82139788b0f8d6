-- What is kept beside the pieces, after each change of them.
use Rattle.std.proofs.Common.{◌≡◌, ℕ, zero, suc, ◌+◌, ◌-◌, ◌<◌, ◌≤◌, ◌==◌, min, true, false, List, [], ◌∷◌, ◌++◌, length, get_or, set, take, drop, map, refl, sym, ap, ◌∙◌, subst, arith}
use Rattle.std.specs.List.{list_any, sum_by}
use Rattle.std.proofs.lemmas.List.Sums.{sum_by-cons}
use Rattle.subflow_send.specs.declared.pieces.Piece.{Piece}
use Rattle.subflow_send.specs.declared.record.Sending.{Sending}
use Rattle.subflow_send.specs.Sendings.{first_at_an_expiry}
use Rattle.subflow_send.specs.Rules.{first_sent}
use Rattle.subflow_send.specs.Pieces.{piece_record, sent_piece, sent_pieces, piece_len, piece_under_way, is_unsent_piece, unsent_piece, IsCounted}
use Rattle.subflow_send.proofs.PieceLoops.{sent_pieces_at}

pub some_left : (n : ℕ) → false ≡ (n == 0) → 0 < n
some_left n e = grind (arith, e)

-- ---- the first piece is let go
pub counted-pop : (p : Piece) (ps : List Piece) (s u s' u' : ℕ) → IsCounted (p ∷ ps) s u → s' ≡ s - 1 → u' + piece_under_way p ≡ u → IsCounted ps s' u'
counted-pop p ps s u s' u' kept e f = record {
  within = let w : s ≤ suc (length ps) = kept.within in omega arith;
  before = λ k d less. kept.before (suc k) d (omega arith);
  octets = omega (arith, kept.octets, sum_by-cons piece_under_way p ps);
}

pub under_way-first : (p : Piece) (ps : List Piece) (s u : ℕ) → IsCounted (p ∷ ps) s u → piece_under_way p ≤ u
under_way-first p ps s u kept = omega (arith, kept.octets, sum_by-cons piece_under_way p ps)

-- ---- an expiry
none_under_way : (ps : List Piece) → sum_by piece_under_way (map unsent_piece ps) ≡ 0
none_under_way [] = refl
none_under_way (p ∷ ps) = omega (arith, none_under_way ps, sum_by-cons piece_under_way (unsent_piece p) (map unsent_piece ps))

pub counted-all_unsent : (ps : List Piece) → IsCounted (map unsent_piece ps) 0 0
counted-all_unsent ps = record { within = omega arith; before = λ k d less. absurd (omega arith); octets = sym (none_under_way ps) }

-- the first piece is marked, and no other one is under way
pub counted-expired : (p q : Piece) (ps : List Piece) (s u s' u' : ℕ) → IsCounted (p ∷ ps) s u → is_unsent_piece q ≡ is_unsent_piece p → s' ≡ min s 1 → u' ≡ piece_under_way q
    → IsCounted (q ∷ map unsent_piece ps) s' u'
counted-expired p q ps s u s' u' kept same e f = record {
  within = omega arith;
  before = λ k d less. first k d (omega arith) (omega arith);
  octets = omega (arith, none_under_way ps, sum_by-cons piece_under_way q (map unsent_piece ps));
}
  where
    first : (k : ℕ) (d : Piece) → k < 1 → 0 < s → is_unsent_piece (get_or (q ∷ map unsent_piece ps) k d) ≡ false
    first zero d less some = same ∙ kept.before 0 d some
    first (suc k) d less some = absurd (omega arith)

pub piece_len-one : (ps : List Piece) (i : ℕ) (d : Piece) → i < length ps → piece_len (get_or ps i d) ≤ sum_by piece_len ps
piece_len-one [] i d lt = absurd (omega arith)
piece_len-one (p ∷ ps) zero d lt = omega (arith, sum_by-cons piece_len p ps)
piece_len-one (p ∷ ps) (suc i) d lt = omega (arith, sum_by-cons piece_len p ps, piece_len-one ps i d (omega arith))

pub counted-expired_read : (ps after : List Piece) (s u s' u' : ℕ) (read written third : Piece) (sending : Sending) → 0 < length ps → IsCounted ps s u → read ≡ get_or ps 0 read
    → sending ≡ first_at_an_expiry read.sending → written ≡ get_or ps 0 written
    → after ≡ take 1 (set ps 0 (record written { sending = sending })) ++ map unsent_piece (drop 1 (set ps 0 (record written { sending = sending })))
    → s' ≡ min s 1 → third ≡ get_or after 0 third → u' ≡ piece_under_way third → IsCounted after s' u'
counted-expired_read [] after s u s' u' read written third sending some kept seen e now_is is to there way = absurd (omega arith)
counted-expired_read (p ∷ ps) after s u s' u' read written third sending some kept seen e now_is is to there way =
    let q : Piece = record written { sending = sending } in
    let last : third ≡ q = there ∙ ap (λ (xs : List Piece). get_or xs 0 third) is in
    let same : is_unsent_piece q ≡ is_unsent_piece p = ap (λ (t : Sending). t.unsent) e ∙ ap is_unsent_piece seen in
    subst (λ (xs : List Piece). IsCounted xs s' u') (sym is) (counted-expired p q ps s u s' u' kept same to (way ∙ ap piece_under_way last))

-- ---- one piece is sent
pub first_sent_read : (now : ℕ) (ps after : List Piece) → 0 < length ps → ((d : Piece) → after ≡ set ps 0 (sent_piece now (get_or ps 0 d)))
    → map piece_record after ≡ first_sent now (map piece_record ps)
first_sent_read now [] after some is = absurd (omega arith)
first_sent_read now (p ∷ ps) after some is = ap (map piece_record) (is p)

pub unsent_sent_read : (now : ℕ) (ps after : List Piece) (i : ℕ) → i < length ps → ((k : ℕ) (d : Piece) → k < i → is_unsent_piece (get_or ps k d) ≡ false)
    → ((d : Piece) → i < length ps → is_unsent_piece (get_or ps i d) ≡ true) → ((d : Piece) → after ≡ set ps i (sent_piece now (get_or ps i d)))
    → (after ≡ sent_pieces now ps) × (list_any is_unsent_piece ps ≡ true)
unsent_sent_read now [] after i lt before here is = absurd (omega arith)
unsent_sent_read now (p ∷ ps) after i lt before here is =
    let done = sent_pieces_at now (p ∷ ps) i p lt before (here p lt) in
    (is p ∙ done.0, done.1)
