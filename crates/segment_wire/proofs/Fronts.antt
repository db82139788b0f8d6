-- What the front of option octets says of all of them.
use Rattle.std.proofs.Common.{◌≡◌, ℕ, zero, suc, ◌+◌, ◌-◌, ◌<◌, ◌≤◌, ◌⊎◌, inl, inr, Bool, true, false, ◌&&◌, cond, leb, List, [], ◌∷◌, length, get_or, take, drop, map, refl, ap, ◌∙◌, arith}
use Rattle.std.specs.Borrow.{Bor, u8 as octet}
use Rattle.std.specs.Ptr.{Ptr, as_ptr, block_ptr, null_ptr, ptr_add}
use Rattle.std.proofs.lemmas.Bool.{cases_lt, le-leb, lt-leb, and_right}
use Rattle.std.proofs.lemmas.List.{length-drop}
use Rattle.segment_wire.specs.declared.options.Front.TheVariants.{End, Padding, Whole, Broken}
use Rattle.segment_wire.specs.OptionFront.{IsFront}
use Rattle.segment_wire.specs.Options.{are_whole_after, are_whole, broken_after, broken_part, options_after, plain_options, placed_options}

-- the rest of an option is passed over
pub are_whole_after-skip : (n : ℕ) (xs : List ℕ) → n ≤ length xs → are_whole_after n xs ≡ are_whole (drop n xs)
are_whole_after-skip zero xs within = refl
are_whole_after-skip (suc n) [] within = absurd (omega arith)
are_whole_after-skip (suc n) (x ∷ xs) within = are_whole_after-skip n xs (omega arith)

pub are_whole_after-past : (n : ℕ) (xs : List ℕ) → length xs < n → are_whole_after n xs ≡ false
are_whole_after-past zero xs past = absurd (omega arith)
are_whole_after-past (suc n) [] past = refl
are_whole_after-past (suc n) (x ∷ xs) past = are_whole_after-past n xs (omega arith)

pub options_after-skip : (place n : ℕ) (xs : List ℕ) → n ≤ length xs → options_after place n xs ≡ options_after (place + n) 0 (drop n xs)
options_after-skip place zero xs within = ap (λ (p : ℕ). options_after p 0 xs) (omega arith)
options_after-skip place (suc n) [] within = absurd (omega arith)
options_after-skip place (suc n) (x ∷ xs) within = options_after-skip (place + 1) n xs (omega arith) ∙ ap (λ (p : ℕ). options_after p 0 (drop n xs)) (omega arith)

-- options with their places counted from further ahead
abbrev pub later : ℕ → List (ℕ × List ℕ) → List (ℕ × List ℕ)
later n options = map (λ o. (n + o.0, o.1)) options

cond-later : (b : Bool) (a : ℕ) (o : ℕ × List ℕ) (os ps : List (ℕ × List ℕ)) → os ≡ later a ps → cond b ((a + o.0, o.1) ∷ os) [] ≡ later a (cond b (o ∷ ps) [])
cond-later true a o os ps e = ap (λ (t : List (ℕ × List ℕ)). (a + o.0, o.1) ∷ t) e
cond-later false a o os ps e = refl

pub options_after-later : (a place n : ℕ) (xs : List ℕ) → options_after (a + place) n xs ≡ later a (options_after place n xs)
options_after-later a place n [] = refl
options_after-later a place (suc n) (x ∷ xs) = ap (λ (p : ℕ). options_after p n xs) (omega arith) ∙ options_after-later a (place + 1) n xs
options_after-later a place zero (zero ∷ xs) = refl
options_after-later a place zero (suc zero ∷ xs) = ap (λ (p : ℕ). options_after p 0 xs) (omega arith) ∙ options_after-later a (place + 1) 0 xs
options_after-later a place zero (suc (suc kind) ∷ []) = refl
options_after-later a place zero (suc (suc kind) ∷ len ∷ xs) =
    cond-later (leb 2 len && leb (len - 2) (length xs)) a (place, suc (suc kind) ∷ len ∷ take (len - 2) xs) (options_after (a + place + 2) (len - 2) xs) (options_after (place + 2) (len - 2) xs)
    (ap (λ (p : ℕ). options_after p (len - 2) xs) (omega arith) ∙ options_after-later a (place + 2) (len - 2) xs)

drop-past_two : (len a b : ℕ) (xs : List ℕ) → 2 ≤ len → drop len (a ∷ b ∷ xs) ≡ drop (len - 2) xs
drop-past_two zero a b xs low = absurd (omega arith)
drop-past_two (suc zero) a b xs low = absurd (omega arith)
drop-past_two (suc (suc n)) a b xs low = ap (λ (k : ℕ). drop k xs) (omega arith)

take-past_two : (len a b : ℕ) (xs : List ℕ) → 2 ≤ len → take len (a ∷ b ∷ xs) ≡ a ∷ b ∷ take (len - 2) xs
take-past_two zero a b xs low = absurd (omega arith)
take-past_two (suc zero) a b xs low = absurd (omega arith)
take-past_two (suc (suc n)) a b xs low = ap (λ (k : ℕ). a ∷ b ∷ take k xs) (omega arith)

pub broken_after-skip : (n : ℕ) (xs : List ℕ) → n ≤ length xs → broken_after n xs ≡ broken_part (drop n xs)
broken_after-skip zero xs within = refl
broken_after-skip (suc n) [] within = absurd (omega arith)
broken_after-skip (suc n) (x ∷ xs) within = broken_after-skip n xs (omega arith)

-- ---- each front

pub are_whole-end : (xs : List ℕ) → get_or xs 0 0 ≡ 0 → are_whole xs ≡ true
are_whole-end [] end = refl
are_whole-end (zero ∷ xs) end = refl
are_whole-end (suc kind ∷ xs) end = absurd cc

pub plain_options-end : (xs : List ℕ) → get_or xs 0 0 ≡ 0 → plain_options xs ≡ []
plain_options-end [] end = refl
plain_options-end (zero ∷ xs) end = refl
plain_options-end (suc kind ∷ xs) end = absurd cc

pub are_whole-padding : (xs : List ℕ) → get_or xs 0 0 ≡ 1 → are_whole xs ≡ are_whole (drop 1 xs)
are_whole-padding [] padding = refl
are_whole-padding (zero ∷ xs) padding = absurd (omega arith)
are_whole-padding (suc zero ∷ xs) padding = refl
are_whole-padding (suc (suc kind) ∷ xs) padding = absurd (omega arith)

pub plain_options-padding : (xs : List ℕ) → get_or xs 0 0 ≡ 1 → plain_options xs ≡ later 1 (plain_options (drop 1 xs))
plain_options-padding [] padding = refl
plain_options-padding (zero ∷ xs) padding = absurd (omega arith)
plain_options-padding (suc zero ∷ xs) padding = options_after-later 1 0 0 xs
plain_options-padding (suc (suc kind) ∷ xs) padding = absurd (omega arith)

-- a kind that has a length octet
pub are_whole-option : (xs : List ℕ) → 2 ≤ get_or xs 0 0 → 2 ≤ get_or xs 1 0 → get_or xs 1 0 ≤ length xs → are_whole xs ≡ are_whole (drop (get_or xs 1 0) xs)
are_whole-option [] kind low within = absurd (omega arith)
are_whole-option (zero ∷ xs) kind low within = absurd (omega arith)
are_whole-option (suc zero ∷ xs) kind low within = absurd (omega arith)
are_whole-option (suc (suc k) ∷ []) kind low within = absurd (omega arith)
are_whole-option (suc (suc k) ∷ len ∷ xs) kind low within =
    rw (le-leb 2 len low, drop-past_two len (suc (suc k)) len xs low) (are_whole_after-skip (len - 2) xs (omega arith))

pub plain_options-option : (xs : List ℕ) → 2 ≤ get_or xs 0 0 → 2 ≤ get_or xs 1 0 → get_or xs 1 0 ≤ length xs
    → plain_options xs ≡ (0, take (get_or xs 1 0) xs) ∷ later (get_or xs 1 0) (plain_options (drop (get_or xs 1 0) xs))
plain_options-option [] kind low within = absurd (omega arith)
plain_options-option (zero ∷ xs) kind low within = absurd (omega arith)
plain_options-option (suc zero ∷ xs) kind low within = absurd (omega arith)
plain_options-option (suc (suc k) ∷ []) kind low within = absurd (omega arith)
plain_options-option (suc (suc k) ∷ len ∷ xs) kind low within =
    let fits : len - 2 ≤ length xs = omega arith in
    let others : options_after (0 + 2) (len - 2) xs ≡ later len (plain_options (drop (len - 2) xs)) =
    options_after-skip (0 + 2) (len - 2) xs fits ∙ ap (λ (p : ℕ). options_after p 0 (drop (len - 2) xs)) (omega arith) ∙ options_after-later len 0 0 (drop (len - 2) xs) in
    rw (le-leb 2 len low, le-leb (len - 2) (length xs) fits, take-past_two len (suc (suc k)) len xs low, drop-past_two len (suc (suc k)) len xs low) (ap (λ (t : List (ℕ × List ℕ)). (0, suc (suc k) ∷ len ∷ take (len - 2) xs) ∷ t) others)

-- a length below 2 or past the end
pub are_whole-broken : (xs : List ℕ) → 2 ≤ get_or xs 0 0 → (length xs < 2) ⊎ ((get_or xs 1 0 < 2) ⊎ (length xs < get_or xs 1 0)) → are_whole xs ≡ false
are_whole-broken [] kind broken = absurd (omega arith)
are_whole-broken (zero ∷ xs) kind broken = absurd (omega arith)
are_whole-broken (suc zero ∷ xs) kind broken = absurd (omega arith)
are_whole-broken (suc (suc k) ∷ []) kind broken = refl
are_whole-broken (suc (suc k) ∷ len ∷ xs) kind broken =
    elim (cases_lt len 2) [
      | inl low ↦ rw (lt-leb 2 len low) refl
      | inr high ↦ rw (are_whole_after-past (len - 2) xs (omega arith)) (and_right (leb 2 len) false refl)
    ]

-- ---- what isn't whole

pub broken_part-end : (xs : List ℕ) → get_or xs 0 0 ≡ 0 → broken_part xs ≡ []
broken_part-end [] end = refl
broken_part-end (zero ∷ xs) end = refl
broken_part-end (suc kind ∷ xs) end = absurd cc

pub broken_part-padding : (xs : List ℕ) → get_or xs 0 0 ≡ 1 → broken_part xs ≡ broken_part (drop 1 xs)
broken_part-padding [] padding = refl
broken_part-padding (zero ∷ xs) padding = absurd (omega arith)
broken_part-padding (suc zero ∷ xs) padding = refl
broken_part-padding (suc (suc kind) ∷ xs) padding = absurd (omega arith)

pub broken_part-option : (xs : List ℕ) → 2 ≤ get_or xs 0 0 → 2 ≤ get_or xs 1 0 → get_or xs 1 0 ≤ length xs → broken_part xs ≡ broken_part (drop (get_or xs 1 0) xs)
broken_part-option [] kind low within = absurd (omega arith)
broken_part-option (zero ∷ xs) kind low within = absurd (omega arith)
broken_part-option (suc zero ∷ xs) kind low within = absurd (omega arith)
broken_part-option (suc (suc k) ∷ []) kind low within = absurd (omega arith)
broken_part-option (suc (suc k) ∷ len ∷ xs) kind low within =
    let fits : len - 2 ≤ length xs = omega arith in
    rw (le-leb 2 len low, le-leb (len - 2) (length xs) fits, drop-past_two len (suc (suc k)) len xs low) (broken_after-skip (len - 2) xs fits)

pub broken_part-broken : (xs : List ℕ) → 2 ≤ get_or xs 0 0 → (length xs < 2) ⊎ ((get_or xs 1 0 < 2) ⊎ (length xs < get_or xs 1 0)) → broken_part xs ≡ xs
broken_part-broken [] kind broken = absurd (omega arith)
broken_part-broken (zero ∷ xs) kind broken = absurd (omega arith)
broken_part-broken (suc zero ∷ xs) kind broken = absurd (omega arith)
broken_part-broken (suc (suc k) ∷ []) kind broken = refl
broken_part-broken (suc (suc k) ∷ len ∷ xs) kind broken =
    elim (cases_lt len 2) [
      | inl low ↦ rw (lt-leb 2 len low) refl
      | inr high ↦ rw (lt-leb (len - 2) (length xs) (omega arith), and_right (leb 2 len) false refl) refl
    ]

pub plain_options-broken : (xs : List ℕ) → 2 ≤ get_or xs 0 0 → (length xs < 2) ⊎ ((get_or xs 1 0 < 2) ⊎ (length xs < get_or xs 1 0)) → plain_options xs ≡ []
plain_options-broken [] kind broken = absurd (omega arith)
plain_options-broken (zero ∷ xs) kind broken = absurd (omega arith)
plain_options-broken (suc zero ∷ xs) kind broken = absurd (omega arith)
plain_options-broken (suc (suc k) ∷ []) kind broken = refl
plain_options-broken (suc (suc k) ∷ len ∷ xs) kind broken =
    elim (cases_lt len 2) [
      | inl low ↦ rw (lt-leb 2 len low) refl
      | inr high ↦ rw (lt-leb (len - 2) (length xs) (omega arith), and_right (leb 2 len) false refl) refl
    ]

-- ---- the same with addresses

pub ptr_add-add : (m n : ℕ) (p : Ptr) → ptr_add octet (m + n) p ≡ ptr_add octet n (ptr_add octet m p)
ptr_add-add m n (block_ptr b o) = ap (block_ptr b) (omega arith)
ptr_add-add m n null_ptr = refl

ptr_add-none : (p : Ptr) → ptr_add octet 0 p ≡ p
ptr_add-none (block_ptr b o) = ap (block_ptr b) (omega arith)
ptr_add-none null_ptr = refl

abbrev placed_at : Ptr → List (ℕ × List ℕ) → List (Ptr × List ℕ)
placed_at p options = map (λ o. (ptr_add octet o.0 p, o.1)) options

placed_at-later : (n : ℕ) (p : Ptr) (options : List (ℕ × List ℕ)) → placed_at p (later n options) ≡ placed_at (ptr_add octet n p) options
placed_at-later n p [] = refl
placed_at-later n p (o ∷ options) = ap (λ (q : Ptr). (q, o.1) ∷ placed_at p (later n options)) (ptr_add-add n o.0 p) ∙ ap (λ (t : List (Ptr × List ℕ)). (ptr_add octet o.0 (ptr_add octet n p), o.1) ∷ t) (placed_at-later n p options)

pub placed_options-end : (p : Ptr) (xs : List ℕ) → get_or xs 0 0 ≡ 0 → placed_options p xs ≡ []
unfolding placed_options
placed_options-end p xs end = ap (placed_at p) (plain_options-end xs end)

pub placed_options-padding : (p : Ptr) (xs : List ℕ) → get_or xs 0 0 ≡ 1 → placed_options p xs ≡ placed_options (ptr_add octet 1 p) (drop 1 xs)
unfolding placed_options
placed_options-padding p xs padding = ap (placed_at p) (plain_options-padding xs padding) ∙ placed_at-later 1 p (plain_options (drop 1 xs))

pub placed_options-option : (p : Ptr) (xs : List ℕ) → 2 ≤ get_or xs 0 0 → 2 ≤ get_or xs 1 0 → get_or xs 1 0 ≤ length xs
    → placed_options p xs ≡ (p, take (get_or xs 1 0) xs) ∷ placed_options (ptr_add octet (get_or xs 1 0) p) (drop (get_or xs 1 0) xs)
unfolding placed_options
placed_options-option p xs kind low within =
    ap (placed_at p) (plain_options-option xs kind low within) ∙ ap (λ (q : Ptr). (q, take (get_or xs 1 0) xs) ∷ placed_at p (later (get_or xs 1 0) (plain_options (drop (get_or xs 1 0) xs)))) (ptr_add-none p)
    ∙ ap (λ (t : List (Ptr × List ℕ)). (p, take (get_or xs 1 0) xs) ∷ t) (placed_at-later (get_or xs 1 0) p (plain_options (drop (get_or xs 1 0) xs)))

pub placed_options-broken : (p : Ptr) (xs : List ℕ) → 2 ≤ get_or xs 0 0 → (length xs < 2) ⊎ ((get_or xs 1 0 < 2) ⊎ (length xs < get_or xs 1 0)) → placed_options p xs ≡ []
unfolding placed_options
placed_options-broken p xs kind broken = ap (placed_at p) (plain_options-broken xs kind broken)

-- ---- each front, of lent octets

pub IsFront-end : (options : Bor (List ℕ)) → get_or options.now 0 0 ≡ 0 → IsFront options End
IsFront-end options end = (are_whole-end options.now end, broken_part-end options.now end, placed_options-end (as_ptr options) options.now end)

padding_is_there : (xs : List ℕ) → get_or xs 0 0 ≡ 1 → 0 < length xs
padding_is_there [] padding = absurd (omega arith)
padding_is_there (x ∷ xs) padding = omega arith

pub IsFront-padding : (options rest : Bor (List ℕ)) → get_or options.now 0 0 ≡ 1 → rest.now ≡ drop 1 options.now → as_ptr rest ≡ ptr_add octet 1 (as_ptr options) → IsFront options (Padding rest)
IsFront-padding options rest padding octets place =
    let some : 0 < length options.now = padding_is_there options.now padding in
    let shorter : length rest.now < length options.now = omega (arith, ap length octets, length-drop 1 options.now) in
    (record { shorter = shorter; whole = rw octets (are_whole-padding options.now padding); broken = rw octets (broken_part-padding options.now padding) }, rw (octets, place) (placed_options-padding (as_ptr options) options.now padding))

pub IsFront-option : (len : ℕ) (options option rest : Bor (List ℕ)) → 2 ≤ get_or options.now 0 0 → len ≡ get_or options.now 1 0 → 2 ≤ len → len ≤ length options.now
    → option.now ≡ take len options.now → as_ptr option ≡ as_ptr options → rest.now ≡ drop len options.now → as_ptr rest ≡ ptr_add octet len (as_ptr options) → IsFront options (Whole option rest)
IsFront-option len options option rest kind is_len low within octets place octets_left place_left =
    let xs = options.now in
    let shorter : length rest.now < length xs = omega (arith, ap length octets_left, length-drop len xs) in
    let whole : are_whole xs ≡ are_whole (drop len xs) = rw is_len (are_whole-option xs kind (omega arith) (omega arith)) in
    let broken : broken_part xs ≡ broken_part (drop len xs) = rw is_len (broken_part-option xs kind (omega arith) (omega arith)) in
    let first : placed_options (as_ptr options) xs ≡ (as_ptr options, take len xs) ∷ placed_options (ptr_add octet len (as_ptr options)) (drop len xs) = rw is_len (placed_options-option (as_ptr options) xs kind (omega arith) (omega arith)) in
    (record { shorter = shorter; whole = rw octets_left whole; broken = rw octets_left broken }, rw (octets, place, octets_left, place_left) first)

pub IsFront-broken : (options : Bor (List ℕ)) → 2 ≤ get_or options.now 0 0 → (length options.now < 2) ⊎ ((get_or options.now 1 0 < 2) ⊎ (length options.now < get_or options.now 1 0)) → IsFront options Broken
IsFront-broken options kind broken = (are_whole-broken options.now kind broken, broken_part-broken options.now kind broken, placed_options-broken (as_ptr options) options.now kind broken)
