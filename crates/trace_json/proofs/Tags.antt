-- JSON reads alike within HTML: what stands in a string for `<` there is read as `<`, and nothing else of it changes.
use Rattle.std.proofs.Common.{◌≡◌, ◌≢◌, ℕ, zero, suc, ◌<◌, ◌≤◌, ◌/◌, ◌%◌, Bool, true, false, cond, ◌==◌, List, [], ◌∷◌, ◌++◌, codes, Some, option_and_then, inl, inr, ◌⊎◌, refl, sym, ap, ap₂, ◌∙◌, subst, arith, append_assoc, append-nil, decimal, ◌+◌}
use Rattle.std.proofs.lemmas.Bool.{cases_eq, cases_lt, eqb-false, false≢true, lt-ltb, ne_eqb, le-ltb}
use Rattle.std.proofs.lemmas.Grind.{flat_map-append}
use Rattle.std.specs.List.{AllByRecursion}
use Rattle.std.specs.Fmt.{digits, digits_onto, digit_glyph}
use lib.Utf8.{encode}
use Rattle.json.specs.Text.{content, plain, prepend, code_unit, short_escape}
use Rattle.json.specs.Json as json
use Rattle.json.specs.Token.{Token, begin_object, end_object, begin_array, end_array, null, boolean, number, string, bad}
use Rattle.json.specs.Word.{is_operator, is_space, ends_word, word}
use Rattle.json.specs.Lex.{token, comma, colon, string_token, lex, lex_byte, between, in_string, operator, space, other, fresh, punctuate}
use Rattle.json.specs.Print.{escape_byte, escape, quoted}
use Rattle.json.proofs.Printed.Strings.{content-escape, escape_byte_plain, lex-escape}
use Rattle.json.proofs.Printed.Numbers.{lex-number, in_word-ended}
use Rattle.json.proofs.Printed.Decimals.{IsNumber-decimal}
use Rattle.serde_json.specs.Data as value
use Rattle.serde_json.specs.Data.{Data, Items, Members}
use Rattle.serde_json.specs.Read.{of_json}
use Rattle.serde_json.specs.Written.{compact_text, items_text, members_text, comma_if}
use Rattle.trace_json.specs.Laws.{HasNaturals, ItemsHaveNaturals, MembersHaveNaturals, HasNoTag, ReadsAlike}
use Rattle.trace_json.specs.Pages.{html_octet, within_html}

-- ---- strings

-- what stands in a string for x is read as x, and the lexer passes over it
abbrev Passes : ℕ → Type 0
Passes x =
    ((r : List ℕ) → content plain (within_html (escape_byte x) ++ r) ≡ prepend (x ∷ []) (content plain r))
    × ((r : List ℕ) → lex in_string (within_html (escape_byte x) ++ r) ≡ lex in_string r)

-- P holds below n
abbrev Each : (ℕ → Type 0) → ℕ → Type 0
Each P zero = Unit {0}
Each P (suc n) = P n × Each P n

each : (P : ℕ → Type 0) (n : ℕ) → Each P n → (x : ℕ) → x < n → P x
each P zero h x lt = absurd (omega arith)
each P (suc n) h x lt = go (each P n h.1 x) (cases_eq x n)
  where
    go : (x < n → P x) → (x ≡ n) ⊎ (x ≡ n → ⊥) → P x
    go below (inl e) = subst P (sym e) h.0
    go below (inr ne) = below (omega arith)

controls : Each Passes 32
unfolding escape_byte content lex code_unit short_escape encode
controls = (
  (λ r. refl, λ r. refl),
  (
    (λ r. refl, λ r. refl),
    (
      (λ r. refl, λ r. refl),
      (
        (λ r. refl, λ r. refl),
        (
          (λ r. refl, λ r. refl),
          (
            (λ r. refl, λ r. refl),
            (
              (λ r. refl, λ r. refl),
              (
                (λ r. refl, λ r. refl),
                (
                  (λ r. refl, λ r. refl),
                  (
                    (λ r. refl, λ r. refl),
                    (
                      (λ r. refl, λ r. refl),
                      (
                        (λ r. refl, λ r. refl),
                        (
                          (λ r. refl, λ r. refl),
                          (
                            (λ r. refl, λ r. refl),
                            (
                              (λ r. refl, λ r. refl),
                              (
                                (λ r. refl, λ r. refl),
                                (
                                  (λ r. refl, λ r. refl),
                                  (
                                    (λ r. refl, λ r. refl),
                                    (
                                      (λ r. refl, λ r. refl),
                                      (
                                        (λ r. refl, λ r. refl),
                                        (
                                          (λ r. refl, λ r. refl),
                                          (
                                            (λ r. refl, λ r. refl),
                                            (
                                              (λ r. refl, λ r. refl),
                                              (
                                                (λ r. refl, λ r. refl),
                                                (
                                                  (λ r. refl, λ r. refl),
                                                  (
                                                    (λ r. refl, λ r. refl),
                                                    (
                                                      (λ r. refl, λ r. refl),
                                                      (
                                                        (λ r. refl, λ r. refl),
                                                        ((λ r. refl, λ r. refl), ((λ r. refl, λ r. refl), ((λ r. refl, λ r. refl), ((λ r. refl, λ r. refl), tt)))),
                                                      ),
                                                    ),
                                                  ),
                                                ),
                                              ),
                                            ),
                                          ),
                                        ),
                                      ),
                                    ),
                                  ),
                                ),
                              ),
                            ),
                          ),
                        ),
                      ),
                    ),
                  ),
                ),
              ),
            ),
          ),
        ),
      ),
    ),
  ),
)

quote_passes : Passes 34
unfolding escape_byte content lex short_escape
quote_passes = (λ r. refl, λ r. refl)

backslash_passes : Passes 92
unfolding escape_byte content lex short_escape
backslash_passes = (λ r. refl, λ r. refl)

-- read as a `\u003c`
tag_passes : Passes 60
unfolding escape_byte content lex code_unit short_escape encode
tag_passes = (λ r. refl, λ r. refl)

plain_passes : (x : ℕ) → (x ≡ 34 → ⊥) → (x ≡ 92 → ⊥) → (x ≡ 60 → ⊥) → 32 ≤ x → Passes x
unfolding content lex
plain_passes x quote backslash tag high =
    let same = escape_byte_plain x quote backslash high in (
      λ r. rw (same, ne_eqb x 60 tag, ne_eqb x 34 quote, ne_eqb x 92 backslash, le-ltb x 32 high),
      λ r. rw (same, ne_eqb x 60 tag, ne_eqb x 34 quote, ne_eqb x 92 backslash) (stays_inside (is_operator x) (is_space x) r),
    )
  where
    stays_inside : (o s : Bool) (r : List ℕ) → lex_byte in_string (cond o operator (cond s space other)) x r (λ m. lex m r) ≡ lex in_string r
    stays_inside true s r = refl
    stays_inside false true r = refl
    stays_inside false false r = refl

passes : (x : ℕ) → Passes x
passes x = go (cases_eq x 34) (cases_eq x 92) (cases_eq x 60) (cases_lt x 32)
  where
    go : (x ≡ 34) ⊎ (x ≡ 34 → ⊥) → (x ≡ 92) ⊎ (x ≡ 92 → ⊥) → (x ≡ 60) ⊎ (x ≡ 60 → ⊥) → (x < 32) ⊎ (32 ≤ x) → Passes x
    go (inl e) b c d = subst Passes (sym e) quote_passes
    go (inr a) (inl e) c d = subst Passes (sym e) backslash_passes
    go (inr a) (inr b) (inl e) d = subst Passes (sym e) tag_passes
    go (inr a) (inr b) (inr c) (inl low) = each Passes 32 controls x low
    go (inr a) (inr b) (inr c) (inr high) = plain_passes x a b c high

-- of a text and of what stands behind it
spread : (s r : List ℕ) → within_html (s ++ r) ≡ within_html s ++ within_html r
spread = flat_map-append html_octet

step : (x : ℕ) (s r : List ℕ) → within_html (escape (x ∷ s)) ++ r ≡ within_html (escape_byte x) ++ (within_html (escape s) ++ r)
step x s r = ap (λ l. l ++ r) (spread (escape_byte x) (escape s)) ∙ append_assoc (within_html (escape_byte x)) (within_html (escape s)) r

content-string : (s r : List ℕ) → content plain (within_html (escape s) ++ 34 ∷ r) ≡ Some s
unfolding content
content-string [] r = refl
content-string (x ∷ s) r = ap (content plain) (step x s (34 ∷ r)) ∙ (passes x).0 _ ∙ ap (prepend (x ∷ [])) (content-string s r)

lex-string : (s r : List ℕ) → lex in_string (within_html (escape s) ++ 34 ∷ r) ≡ lex between r
unfolding lex
lex-string [] r = refl
lex-string (x ∷ s) r = ap (lex in_string) (step x s (34 ∷ r)) ∙ (passes x).1 _ ∙ lex-string s r

-- ---- the lexer reads both forms alike, whatever follows alike

abbrev Alike : List ℕ → Type 0
Alike r = lex between (within_html r) ≡ lex between r

quoted_alike : (s r : List ℕ) → Alike r → Alike (quoted s ++ r)
unfolding lex
quoted_alike s r alike =
    ap (λ l. lex between (34 ∷ l)) (ap within_html (append_assoc (escape s) (34 ∷ []) r) ∙ spread (escape s) (34 ∷ r))
    ∙ ap₂ (λ o l. token (string_token o) ∷ l) (content-string s (within_html r)) (lex-string s (within_html r) ∙ alike)
    ∙ sym (ap (λ l. lex between (34 ∷ l)) (append_assoc (escape s) (34 ∷ []) r) ∙ ap₂ (λ o l. token (string_token o) ∷ l) (content-escape s r) (lex-escape s r))

-- what ends a word ends it within HTML
ended : (r : List ℕ) → ends_word r ≡ true → ends_word (within_html r) ≡ true
ended [] h = refl
ended (x ∷ r) h = go (cases_eq x 60)
  where
    never : x ≡ 60 → ⊥
    never e = false≢true (subst (λ y. ends_word (y ∷ r) ≡ true) e h)

    go : (x ≡ 60) ⊎ (x ≡ 60 → ⊥) → ends_word (within_html (x ∷ r)) ≡ true
    go (inl e) = absurd (never e)
    go (inr ne) = rw (ne_eqb x 60 ne) h

-- a word is read as a token, whatever ends it
word_alike : (w r : List ℕ) (t : Token) → within_html w ≡ w → ((r : List ℕ) → ends_word r ≡ true → lex between (w ++ r) ≡ token t ∷ lex between r)
    → ends_word r ≡ true → Alike r → Alike (w ++ r)
word_alike w r t same reads h alike =
    ap (lex between) (spread w r ∙ ap (λ l. l ++ within_html r) same) ∙ reads (within_html r) (ended r h) ∙ ap (λ l. token t ∷ l) alike ∙ sym (reads r h)

digit_same : (d : ℕ) (r : List ℕ) → d < 10 → within_html r ≡ r → within_html (digit_glyph false d ∷ r) ≡ digit_glyph false d ∷ r
digit_same d r low same = rw (lt-ltb d 10 low, ne_eqb (48 + d) 60 (λ e. omega (arith, low))) (ap (λ l. (48 + d) ∷ l) same)

onto_same : (k n : ℕ) (r : List ℕ) → within_html r ≡ r → within_html (digits_onto k 10 false n r) ≡ digits_onto k 10 false n r
onto_same zero n r same = same
onto_same (suc k) n r same =
    let digit = digit_same (n % 10) r (omega arith) same in
    if_same (n / 10 == 0) (digit_glyph false (n % 10) ∷ r) _ digit (onto_same k (n / 10) _ digit)
  where
    if_same : (b : Bool) (l m : List ℕ) → within_html l ≡ l → within_html m ≡ m → within_html (cond b l m) ≡ cond b l m
    if_same true l m first second = first
    if_same false l m first second = second

decimal_same : (n : ℕ) → within_html (decimal n) ≡ decimal n
unfolding digits
decimal_same n = onto_same 64 n [] refl

true_reads : (r : List ℕ) → ends_word r ≡ true → lex between (codes "true" ++ r) ≡ token (boolean true) ∷ lex between r
unfolding lex word
true_reads r h = ap₂ (λ b l. token (cond b (boolean true) bad) ∷ l) h (in_word-ended r h)

false_reads : (r : List ℕ) → ends_word r ≡ true → lex between (codes "false" ++ r) ≡ token (boolean false) ∷ lex between r
unfolding lex word
false_reads r h = ap₂ (λ b l. token (cond b (boolean false) bad) ∷ l) h (in_word-ended r h)

null_reads : (r : List ℕ) → ends_word r ≡ true → lex between (codes "null" ++ r) ≡ token null ∷ lex between r
unfolding lex word
null_reads r h = ap₂ (λ b l. token (cond b null bad) ∷ l) h (in_word-ended r h)

items_end : (ds : Items) (r : List ℕ) → ends_word (items_text true ds ++ r) ≡ true
items_end value.no_items r = refl
items_end (value.item d ds) r = refl

members_end : (ms : Members) (r : List ℕ) → ends_word (members_text true ms ++ r) ≡ true
members_end value.no_members r = refl
members_end (value.member key d ms) r = refl

comma_alike : (later : Bool) (r : List ℕ) → Alike r → Alike (comma_if later ++ r)
unfolding lex
comma_alike true r alike = ap (λ l. comma ∷ l) alike
comma_alike false r alike = alike

mutual
  unfolding lex

  value_alike : (d : Data) (r : List ℕ) → HasNaturals d → ends_word r ≡ true → Alike r → Alike (compact_text d ++ r)
  value_alike value.null r h end alike = word_alike (codes "null") r null refl null_reads end alike
  value_alike (value.boolean true) r h end alike = word_alike (codes "true") r (boolean true) refl true_reads end alike
  value_alike (value.boolean false) r h end alike = word_alike (codes "false") r (boolean false) refl false_reads end alike
  value_alike (value.number (value.unsigned n)) r h end alike =
      word_alike (decimal n) r (number (decimal n)) (decimal_same n) (λ r end. lex-number (decimal n) r (IsNumber-decimal n h) end) end alike
  value_alike (value.number (value.negative z)) r h end alike = absurd h
  value_alike (value.number (value.float x)) r h end alike = absurd h
  value_alike (value.string s) r h end alike = quoted_alike s r alike
  value_alike (value.array ds) r h end alike = ap (λ l. token begin_array ∷ l) (items_alike false ds r h alike)
  value_alike (value.object ms) r h end alike = ap (λ l. token begin_object ∷ l) (members_alike false ms r h alike)

  items_alike : (later : Bool) (ds : Items) (r : List ℕ) → ItemsHaveNaturals ds → Alike r → Alike (items_text later ds ++ r)
  items_alike later value.no_items r h alike = ap (λ l. token end_array ∷ l) alike
  items_alike later (value.item d ds) r h alike =
      subst Alike (sym (append_assoc (comma_if later) _ r ∙ ap (λ l. comma_if later ++ l) (append_assoc (compact_text d) (items_text true ds) r)))
      (comma_alike later _ (value_alike d (items_text true ds ++ r) h.0 (items_end ds r) (items_alike true ds r h.1 alike)))

  members_alike : (later : Bool) (ms : Members) (r : List ℕ) → MembersHaveNaturals ms → Alike r → Alike (members_text later ms ++ r)
  members_alike later value.no_members r h alike = ap (λ l. token end_object ∷ l) alike
  members_alike later (value.member key d ms) r h alike =
      subst Alike (sym (append_assoc (comma_if later) _ r ∙ ap (λ l. comma_if later ++ l) (append_assoc (quoted key) _ r ∙ ap (λ l. quoted key ++ 58 ∷ l) (append_assoc (compact_text d) (members_text true ms) r))))
      (comma_alike later _ (quoted_alike key _ (ap (λ l. colon ∷ l) (value_alike d (members_text true ms ++ r) h.0 (members_end ms r) (members_alike true ms r h.1 alike)))))

pub reads_alike : ReadsAlike
unfolding lex
reads_alike d h =
    let same = subst Alike (append-nil (compact_text d)) (value_alike d [] h refl refl) in
    ap (λ ls. option_and_then of_json (option_and_then (λ p. json.if_last p.0 p.1) (json.value 127 (punctuate fresh ls)))) same

-- ---- no tag

pub no_tag : HasNoTag
no_tag [] = tt
no_tag (octet ∷ json) = go (cases_eq octet 60) (no_tag json)
  where
    go : (octet ≡ 60) ⊎ (octet ≡ 60 → ⊥) → AllByRecursion (λ o. o ≢ 60) (within_html json) → AllByRecursion (λ o. o ≢ 60) (within_html (octet ∷ json))
    go (inl e) rest =
        subst (λ o. AllByRecursion (λ o. o ≢ 60) (html_octet o ++ within_html json)) (sym e)
        (eqb-false 92 60 refl, (eqb-false 117 60 refl, (eqb-false 48 60 refl, (eqb-false 48 60 refl, (eqb-false 51 60 refl, (eqb-false 99 60 refl, rest))))))
    go (inr ne) rest = rw (ne_eqb octet 60 ne) (ne, rest)
