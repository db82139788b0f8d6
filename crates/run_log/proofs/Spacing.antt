-- Words with a space between each two, as a first word and others that each stand behind a space.
use Rattle.run_log.proofs.Words.{◌≡◌, ℕ, List, [], ◌∷◌, ◌++◌, map, refl, ap, sym, ◌∙◌, append_assoc, codes, decimal, flat_map, append-nil, Row, spaced}
use Rattle.run_log.proofs.Words.{heard_words, row_words}

-- each word behind a space
abbrev pub behind : List (List ℕ) → List ℕ
behind words = flat_map (λ word. 32 ∷ word) words

pub spaced_behind : (word : List ℕ) (words : List (List ℕ)) → spaced (word ∷ words) ≡ word ++ behind words
spaced_behind word [] = sym (append-nil word)
spaced_behind word (next ∷ words) = ap (λ (text : List ℕ). word ++ 32 ∷ text) (spaced_behind next words)

pub behind-append : (words others : List (List ℕ)) → behind (words ++ others) ≡ behind words ++ behind others
behind-append [] others = refl
behind-append (word ∷ words) others = ap (λ (text : List ℕ). (32 ∷ word) ++ text) (behind-append words others) ∙ sym (append_assoc (32 ∷ word) (behind words) (behind others))

behind_decimals : (octets : List ℕ) → behind (map decimal octets) ≡ flat_map (λ octet. 32 ∷ decimal octet) octets
behind_decimals [] = refl
behind_decimals (octet ∷ octets) = ap (λ (text : List ℕ). (32 ∷ decimal octet) ++ text) (behind_decimals octets)

pub heard_is : (id : ℕ) (octets : List ℕ) (port hmac : ℕ)
    → spaced (heard_words id octets port hmac) ≡ (codes "heard " ++ decimal id) ++ (flat_map (λ octet. 32 ∷ decimal octet) octets ++ ((32 ∷ decimal port) ++ (32 ∷ decimal hmac)))
heard_is id octets port hmac =
    let ends : behind (decimal port ∷ decimal hmac ∷ []) ≡ (32 ∷ decimal port) ++ (32 ∷ decimal hmac) = ap (λ (text : List ℕ). (32 ∷ decimal port) ++ text) (append-nil (32 ∷ decimal hmac)) in
    let others = behind-append (map decimal octets) (decimal port ∷ decimal hmac ∷ []) in
    spaced_behind (codes "heard") (decimal id ∷ (map decimal octets ++ decimal port ∷ decimal hmac ∷ []))
    ∙ ap (λ (text : List ℕ). (codes "heard " ++ decimal id) ++ text) (rw (others, behind_decimals octets, ends) refl)

behind_rows : (rows : List Row) → behind (flat_map row_words rows) ≡ flat_map (λ row. 32 ∷ spaced (row_words row)) rows
behind_rows [] = refl
behind_rows (row ∷ rows) =
    behind-append (row_words row) (flat_map row_words rows)
    ∙ rw (behind_rows rows) (ap (λ (text : List ℕ). text ++ flat_map (λ row. 32 ∷ spaced (row_words row)) rows) (sym (row_behind row)))
  where
    row_behind : (row : Row) → (32 ∷ spaced (row_words row)) ≡ behind (row_words row)
    row_behind row = ap (λ (text : List ℕ). 32 ∷ text) (spaced_behind (decimal row.path) (decimal row.window ∷ decimal row.rtt ∷ []))

pub rows_is : (rows : List Row) → spaced (codes "rows" ∷ flat_map row_words rows) ≡ codes "rows" ++ flat_map (λ row. 32 ∷ spaced (row_words row)) rows
rows_is rows = spaced_behind (codes "rows") (flat_map row_words rows) ∙ ap (λ (text : List ℕ). codes "rows" ++ text) (behind_rows rows)
