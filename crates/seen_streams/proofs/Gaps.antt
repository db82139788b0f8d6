-- Mappings that wait, and their gaps.
use Rattle.std.proofs.Common.{◌≡◌, refl, ap, ◌∙◌, sym, subst, ℕ, zero, suc, ◌+◌, ◌-◌, ◌<◌, ◌≤◌, Bool, true, false, not, ◌&&◌, ◌||◌, nat_le, nat_lt, is_some, is_none, if◌then◌else◌, Option, Some, None, option_map, List, [], ◌∷◌, ◌++◌, All, length, drop, slice_index_or, pos, arith, true≢false, ◌⊎◌, inl, inr}
use Rattle.std.proofs.lemmas.Bool.{cases_lt}
use Rattle.std.proofs.lemmas.Bool.Decides.{nat_tests}
use Rattle.std.proofs.lemmas.List.{append-nil, append_assoc, at_drop_more}
use Rattle.std.proofs.lemmas.List.Elements.{All-append, filter-append}
use Rattle.seen_octets.specs.declared.octet.Octet.{Octet}
use Rattle.seen_octets.specs.declared.places.Stretch.{Stretch}
use Rattle.seen_octets.specs.Octets.{IsPiece, all_held, has_place}
use Rattle.seen_octets.specs.Places.{IsStretch, is_seen}
use Rattle.judge_rules.specs.Mappings.{natural}
use Rattle.seen_streams.specs.declared.told.Waiting.{Waiting}
use Rattle.seen_streams.specs.declared.waits.Waits.{Waits}
use Rattle.seen_streams.specs.Mapped.{octets_of}
use Rattle.seen_streams.specs.State.{StreamValue}
use Rattle.seen_streams.specs.Sums.{is_whole, tried_sum, tried_sums}
use Rattle.seen_streams.specs.Waits.{AreOpen, HaveGaps, IsFree, all_waiting, any_of, has_gap, is_gap, is_reached, still_open}

-- ---- truth values

and_first : (a b : Bool) → (a && b) ≡ true → a ≡ true
and_first true b h = refl
and_first false b h = h

and_second : (a b : Bool) → (a && b) ≡ true → b ≡ true
and_second true b h = h
and_second false b h = absurd (true≢false (sym h))

and_both : (a b : Bool) → a ≡ true → b ≡ true → (a && b) ≡ true
and_both a b e f = ap (λ x. x && b) e ∙ f

and_false : (b : Bool) → (b && false) ≡ false
and_false true = refl
and_false false = refl

or_true : (b : Bool) → (b || true) ≡ true
or_true true = refl
or_true false = refl

-- the second one where it isn't the first
or_second : (a b : Bool) → (a || b) ≡ true → a ≡ false → b ≡ true
or_second a b h e = sym (ap (λ x. x || b) e) ∙ h

none_of : (o : Option Octet) → is_none o ≡ true → o ≡ None
none_of None h = refl
none_of (Some octet) h = absurd (true≢false (sym h))

-- ---- one of so many positions

any_stays : (old new : ℕ → Bool) (from n : ℕ) → ((p : ℕ) → old p ≡ true → new p ≡ true) → any_of old from n ≡ true → any_of new from n ≡ true
any_stays old new from zero more h = h
any_stays old new from (suc n) more h = by (old from) refl (any_stays old new (from + 1) n more)
  where
    by : (b : Bool) → old from ≡ b → (any_of old (from + 1) n ≡ true → any_of new (from + 1) n ≡ true) → (new from || any_of new (from + 1) n) ≡ true
    by true e later = ap (λ b. b || any_of new (from + 1) n) (more from e)
    by false e later = ap (λ b. new from || b) (later (or_second (old from) (any_of old (from + 1) n) h e)) ∙ or_true (new from)

not_held : (octet : ℕ → Option Octet) (gap : ℕ → Bool) (from n : ℕ) → ((p : ℕ) → gap p ≡ true → octet p ≡ None) → any_of gap from n ≡ true
    → all_held octet from n ≡ false
not_held octet gap from zero none h = absurd (true≢false (sym h))
not_held octet gap from (suc n) none h = by (gap from) refl (not_held octet gap (from + 1) n none)
  where
    by : (b : Bool) → gap from ≡ b → (any_of gap (from + 1) n ≡ true → all_held octet (from + 1) n ≡ false)
        → (is_some (octet from) && all_held octet (from + 1) n) ≡ false
    by true e later = ap (λ (o : Option Octet). is_some o && all_held octet (from + 1) n) (none from e)
    by false e later =
        ap (λ b. is_some (octet from) && b) (later (or_second (gap from) (any_of gap (from + 1) n) h e)) ∙ and_false (is_some (octet from))

any_at : (is : ℕ → Bool) (from n p : ℕ) → from ≤ p → p < from + n → is p ≡ true → any_of is from n ≡ true
any_at is from zero p lo hi h = absurd (omega (arith, lo, hi))
any_at is from (suc n) p lo hi h = by (cases_lt from p) (λ after. any_at is (from + 1) n p (omega (arith, after)) (omega (arith, hi)) h)
  where
    by : (from < p) ⊎ (p ≤ from) → (from < p → any_of is (from + 1) n ≡ true) → (is from || any_of is (from + 1) n) ≡ true
    by (inl a) later = ap (λ b. is from || b) (later a) ∙ or_true (is from)
    by (inr a) later =
        let same : from ≡ p = omega (arith, lo, a) in
        ap (λ (x : ℕ). is x || any_of is (from + 1) n) same ∙ ap (λ b. b || any_of is (from + 1) n) h

-- ---- gaps stay

reached : (from to p : ℕ) → from ≤ p → p < to → is_reached from to p ≡ true
reached from to p lo hi = grind (arith, nat_tests, lo, hi)

reached_from : (from to p : ℕ) → is_reached from to p ≡ true → from ≤ p
reached_from from to p h = let lo : nat_le from p ≡ true = and_first (nat_le from p) (nat_lt p to) h in grind (arith, nat_tests, lo)

reached_to : (from to p : ℕ) → is_reached from to p ≡ true → p < to
reached_to from to p h = let hi : nat_lt p to ≡ true = and_second (nat_le from p) (nat_lt p to) h in grind (arith, nat_tests, hi)

-- a gap of before is one still, where its position may have got an octet now, or has none
gap_stays : (old new : Waits) (before after : ℕ → Option Octet) (p : ℕ) → (is_seen old.gaps p ≡ true → is_seen new.gaps p ≡ true)
    → (is_reached old.from old.to p ≡ true → is_reached new.from new.to p ≡ true)
    → (before p ≡ None → is_reached new.from new.to p ≡ false → after p ≡ None) → is_gap old before p ≡ true → is_gap new after p ≡ true
gap_stays old new before after p seen within none h =
    and_both (is_seen new.gaps p) (is_reached new.from new.to p || is_none (after p))
    (seen (and_first (is_seen old.gaps p) (is_reached old.from old.to p || is_none (before p)) h))
    (by (is_reached new.from new.to p) (is_reached old.from old.to p) refl refl)
  where
    by : (a b : Bool) → is_reached new.from new.to p ≡ a → is_reached old.from old.to p ≡ b → (is_reached new.from new.to p || is_none (after p)) ≡ true
    by true b e f = ap (λ x. x || is_none (after p)) e
    by false true e f = absurd (true≢false (sym (within f) ∙ e))
    by false false e f =
        let free : is_none (before p) ≡ true = or_second (is_reached old.from old.to p) (is_none (before p))
        (and_second (is_seen old.gaps p) (is_reached old.from old.to p || is_none (before p)) h) f in
        ap (λ x. x || is_none (after p)) e ∙ ap (λ (o : Option Octet). is_none o) (none (none_of (before p) free) e)

all_stay : (old new : Waits) (before after : ℕ → Option Octet) → ((p : ℕ) → is_gap old before p ≡ true → is_gap new after p ≡ true)
    → new.tried.items ≡ old.tried.items → HaveGaps before old → HaveGaps after new
all_stay old new before after more same each =
    subst (λ (xs : List Waiting). All (λ one. has_gap new after one ≡ true) xs) (sym same)
    (λ k d h. any_stays (is_gap old before) (is_gap new after) _ _ more (each k d h))

-- one more that wasn't tried
pub one_more : (old new : Waits) (one : Waiting) → new.tried.items ≡ old.tried.items → new.fresh.items ≡ old.fresh.items ++ one ∷ []
    → all_waiting new ≡ all_waiting old ++ one ∷ []
one_more old new one tried fresh =
    ap (λ (xs : List Waiting). xs ++ new.fresh.items) tried ∙ ap (λ (xs : List Waiting). old.tried.items ++ xs) fresh
    ∙ sym (append_assoc old.tried.items old.fresh.items (one ∷ []))

-- more positions may get octets
pub gaps_reached : (old new : Waits) (octet : ℕ → Option Octet) → new.tried.items ≡ old.tried.items → new.gaps ≡ old.gaps → new.from ≤ old.from
    → old.to ≤ new.to → HaveGaps octet old → HaveGaps octet new
gaps_reached old new octet tried gaps begun ended =
    all_stay old new octet octet (λ p. gap_stays old new octet octet p (λ seen. rw gaps seen)
    (λ h. reached new.from new.to p (omega (arith, begun, reached_from old.from old.to p h)) (omega (arith, ended, reached_to old.from old.to p h)))
    (λ none out. none)) tried

outside : (from to : ℕ) (start : ℕ) (part : List ℕ) (p : ℕ) → from ≤ start → start + length part ≤ to → is_reached from to p ≡ false
    → has_place start part p ≡ false
outside from to start part p begun ended out = by (has_place start part p) refl
  where
    by : (b : Bool) → has_place start part p ≡ b → b ≡ false
    by false e = refl
    by true e = absurd (true≢false (sym (reached from to p (omega (arith, begun, reached_from start (start + length part) p e))
        (omega (arith, ended, reached_to start (start + length part) p e))) ∙ out))

-- some of them got theirs
pub gaps_filled : (waits : Waits) (before after : ℕ → Option Octet) (start : ℕ) (part : List ℕ) → waits.from ≤ start → start + length part ≤ waits.to
    → ((p : ℕ) → has_place start part p ≡ false → after p ≡ before p) → HaveGaps before waits → HaveGaps after waits
gaps_filled waits before after start part begun ended others =
    all_stay waits waits before after (λ p. gap_stays waits waits before after p (λ seen. seen) (λ h. h)
    (λ none out. others p (outside waits.from waits.to start part p begun ended out) ∙ none)) refl

-- ---- where no gap was reached

none_there : (waits : Waits) (octet : ℕ → Option Octet) → ((p : ℕ) → waits.from ≤ p → p < waits.to → is_seen waits.gaps p ≡ false)
    → (p : ℕ) → is_gap waits octet p ≡ true → octet p ≡ None
none_there waits octet none p h =
    none_of (octet p) (or_second (is_reached waits.from waits.to p) (is_none (octet p))
    (and_second (is_seen waits.gaps p) (is_reached waits.from waits.to p || is_none (octet p)) h) (by (is_reached waits.from waits.to p) refl))
  where
    by : (b : Bool) → is_reached waits.from waits.to p ≡ b → b ≡ false
    by false e = refl
    by true e = absurd (true≢false (sym (and_first (is_seen waits.gaps p) (is_reached waits.from waits.to p || is_none (octet p)) h)
        ∙ none p (reached_from waits.from waits.to p e) (reached_to waits.from waits.to p e)))

pub gaps_kept : (old new : Waits) (octet : ℕ → Option Octet) → ((p : ℕ) → old.from ≤ p → p < old.to → is_seen old.gaps p ≡ false)
    → new.tried.items ≡ old.tried.items → new.gaps ≡ old.gaps → HaveGaps octet old → HaveGaps octet new
gaps_kept old new octet none tried gaps =
    all_stay old new octet octet (λ p h. and_both (is_seen new.gaps p) (is_reached new.from new.to p || is_none (octet p))
    (rw gaps (and_first (is_seen old.gaps p) (is_reached old.from old.to p || is_none (octet p)) h))
    (ap (λ (o : Option Octet). is_reached new.from new.to p || is_none o) (none_there old octet none p h) ∙ or_true (is_reached new.from new.to p))) tried

pub still_open_all : (old new : Waits) (octet : ℕ → Option Octet) → ((p : ℕ) → old.from ≤ p → p < old.to → is_seen old.gaps p ≡ false)
    → new.tried.items ≡ old.tried.items → HaveGaps octet old → AreOpen octet new.tried.items
still_open_all old new octet none tried each =
    subst (λ (xs : List Waiting). AreOpen octet xs) (sym tried)
    (λ k d h. not_held octet (is_gap old octet) _ _ (none_there old octet none) (each k d h))

pub nothing_reached : (waits : Waits) → waits.to ≤ waits.from → (p : ℕ) → waits.from ≤ p → p < waits.to → is_seen waits.gaps p ≡ false
nothing_reached waits few p lo hi = absurd (omega (arith, few, lo, hi))

pub none_reached : (waits : Waits) (stretch : Stretch) → IsStretch (is_seen waits.gaps) waits.from waits.to stretch → stretch.marked ≡ false
    → waits.to ≤ stretch.end → (p : ℕ) → waits.from ≤ p → p < waits.to → is_seen waits.gaps p ≡ false
none_reached waits stretch is marked all p lo hi = is.alike p lo (omega (arith, hi, all)) ∙ marked

-- ---- those that are tried

-- what is open is passed over
pub tried_behind : (packet first : ℕ) (octet : ℕ → Option Octet) (left others : List Waiting) (stream : StreamValue) → AreOpen octet left
    → tried_sums packet first octet others stream ≡ tried_sums packet first octet (left ++ others) stream
tried_behind packet first octet [] others stream each = refl
tried_behind packet first octet (one ∷ left) others stream each =
    tried_behind packet first octet left others stream (λ k d h. each (suc k) d (omega (arith, h)))
    ∙ sym (ap (λ b. tried_sums packet first octet (left ++ others) (if b then tried_sum packet first octet one stream else stream)) (each 0 one (omega arith)))

-- and waits on
pub open_behind : (octet : ℕ → Option Octet) (left others : List Waiting) → AreOpen octet left
    → left ++ still_open octet others ≡ still_open octet (left ++ others)
open_behind octet [] others each = refl
open_behind octet (one ∷ left) others each =
    ap (λ (xs : List Waiting). one ∷ xs) (open_behind octet left others (λ k d h. each (suc k) d (omega (arith, h))))
    ∙ sym (kept (is_whole octet one) (each 0 one (omega arith)))
  where
    kept : (b : Bool) → b ≡ false → (if not b then one ∷ still_open octet (left ++ others) else still_open octet (left ++ others))
        ≡ one ∷ still_open octet (left ++ others)
    kept false h = refl
    kept true h = absurd (true≢false h)

-- ---- one that is tried

pub open_one : (octet : ℕ → Option Octet) (one : Waiting) (gap : ℕ) → IsFree octet (natural one.mapping.position) (octets_of one.mapping) gap
    → one ∷ [] ≡ still_open octet (one ∷ [])
open_one octet one gap free = open_behind octet (one ∷ []) [] (λ k d h. (let first : k ≡ 0 = omega (arith, h) in rw first (
    not_held octet (λ p. is_none (octet p)) (natural one.mapping.position) (octets_of one.mapping) (λ p. none_of (octet p))
    (any_at (λ p. is_none (octet p)) (natural one.mapping.position) (octets_of one.mapping) gap free.begun free.within
    (ap (λ (o : Option Octet). is_none o) free.free)))))

pub whole_one : (octet : ℕ → Option Octet) (one : Waiting) (waiting : List Waiting) → is_whole octet one ≡ true
    → waiting ≡ waiting ++ still_open octet (one ∷ [])
whole_one octet one waiting whole =
    sym (ap (λ b. waiting ++ (if not b then one ∷ [] else [])) whole ∙ append-nil waiting)

-- one after the other
abbrev pub no_waiting : Waiting
no_waiting = record { mapping = record { place = 0; position = pos 0; length = 0; checksum = None; fin = false }; packet = 0 }

pub kept_on : (octet : ℕ → Option Octet) (kept new all fresh : List Waiting) (i : ℕ) → i < length fresh
    → new ≡ kept ++ still_open octet (slice_index_or fresh i no_waiting ∷ []) → kept ++ still_open octet (drop i fresh) ≡ all
    → new ++ still_open octet (drop (i + 1) fresh) ≡ all
kept_on octet kept new all fresh i within is told = by (slice_index_or fresh i no_waiting) (drop (i + 1) fresh) is (at_drop_more (still_open octet) fresh i no_waiting within)
  where
    by : (one : Waiting) (later : List Waiting) → new ≡ kept ++ still_open octet (one ∷ []) → still_open octet (drop i fresh) ≡ still_open octet (one ∷ later)
        → new ++ still_open octet later ≡ all
    by one later is more =
        ap (λ (xs : List Waiting). xs ++ still_open octet later) is ∙ append_assoc kept (still_open octet (one ∷ [])) (still_open octet later)
        ∙ ap (λ (xs : List Waiting). kept ++ xs) (sym (more ∙ filter-append (λ w. not (is_whole octet w)) (one ∷ []) later)) ∙ told

pub kept_out : (kept all rest : List Waiting) → rest ≡ [] → kept ++ rest ≡ all → kept ≡ all
kept_out kept all rest none told = sym (append-nil kept) ∙ ap (λ (xs : List Waiting). kept ++ xs) (sym none) ∙ told

-- one place more is seen
pub seen_there : (old new : ℕ → Bool) (gap : ℕ) → ((p : ℕ) → new p ≡ (old p || (nat_le gap p && nat_lt p (gap + 1)))) → new gap ≡ true
seen_there old new gap is =
    let here : nat_le gap gap ≡ true = grind (arith, nat_tests) in
    let below : nat_lt gap (gap + 1) ≡ true = grind (arith, nat_tests) in
    is gap ∙ ap (λ b. old gap || b) (and_both (nat_le gap gap) (nat_lt gap (gap + 1)) here below) ∙ or_true (old gap)

-- a mapping more that has a gap
pub gaps_with : (old new : Waits) (octet : ℕ → Option Octet) (one : Waiting) (gap : ℕ) → new.from ≡ old.from → new.to ≡ old.to
    → ((p : ℕ) → is_seen old.gaps p ≡ true → is_seen new.gaps p ≡ true) → is_seen new.gaps gap ≡ true
    → IsFree octet (natural one.mapping.position) (octets_of one.mapping) gap → new.tried.items ≡ old.tried.items ++ one ∷ []
    → HaveGaps octet old → HaveGaps octet new
gaps_with old new octet one gap begun ended stays there free tried each =
    subst (λ (xs : List Waiting). All (λ w. has_gap new octet w ≡ true) xs) (sym tried)
    (All-append (λ w. has_gap new octet w ≡ true) old.tried.items (one ∷ [])
    (λ k d h. any_stays (is_gap old octet) (is_gap new octet) _ _ (λ p. more p) (each k d h))
    (λ k d h. (let first : k ≡ 0 = omega (arith, h) in rw first (
    any_at (is_gap new octet) (natural one.mapping.position) (octets_of one.mapping) gap free.begun free.within
    (and_both (is_seen new.gaps gap) (is_reached new.from new.to gap || is_none (octet gap)) there
    (ap (λ (o : Option Octet). is_reached new.from new.to gap || is_none o) free.free ∙ or_true (is_reached new.from new.to gap)))))))
  where
    more : (p : ℕ) → is_gap old octet p ≡ true → is_gap new octet p ≡ true
    more p = gap_stays old new octet octet p (stays p) (λ h. ap (λ (x : ℕ). is_reached x new.to p) begun ∙ ap (λ (x : ℕ). is_reached old.from x p) ended ∙ h)
        (λ none out. none)

pub gaps_more : (old new : Waits) (octet : ℕ → Option Octet) → new.from ≡ old.from → new.to ≡ old.to
    → ((p : ℕ) → is_seen old.gaps p ≡ true → is_seen new.gaps p ≡ true) → new.tried.items ≡ old.tried.items → HaveGaps octet old → HaveGaps octet new
gaps_more old new octet begun ended stays tried =
    all_stay old new octet octet (λ p. gap_stays old new octet octet p (stays p)
    (λ h. ap (λ (x : ℕ). is_reached x new.to p) begun ∙ ap (λ (x : ℕ). is_reached old.from x p) ended ∙ h) (λ none out. none)) tried

-- ---- positions in order, up to the first without an octet
pub all_passed : (octet : ℕ → Option Octet) (from count position : ℕ) → all_held octet from (position - from) ≡ true → from ≤ position
    → position ≤ from + count → from + count ≤ position → all_held octet from count ≡ true
all_passed octet from count position held lo hi end =
    let all : position - from ≡ count = omega (arith, hi, end) in
    sym (ap (all_held octet from) all) ∙ held

held_both : (octet : ℕ → Option Octet) (from m n all next : ℕ) → all ≡ m + n → next ≡ from + m → all_held octet from m ≡ true
    → all_held octet next n ≡ true → all_held octet from all ≡ true
held_both octet from zero n all next e f held more =
    let a : all ≡ n = omega (arith, e) in
    let b : from ≡ next = omega (arith, f) in
    ap (all_held octet from) a ∙ ap (λ (x : ℕ). all_held octet x n) b ∙ more
held_both octet from (suc m) n all next e f held more =
    let a : all ≡ suc (m + n) = omega (arith, e) in
    ap (all_held octet from) a
    ∙ and_both (is_some (octet from)) (all_held octet (from + 1) (m + n)) (and_first (is_some (octet from)) (all_held octet (from + 1) m) held)
    (held_both octet (from + 1) m n (m + n) next refl (omega (arith, f)) (and_second (is_some (octet from)) (all_held octet (from + 1) m) held) more)

piece_held : (octet : ℕ → Option Octet) (from : ℕ) (part : List ℕ) → IsPiece octet from part → all_held octet from (length part) ≡ true
piece_held octet from [] is = refl
piece_held octet from (first ∷ part) is =
    and_both (is_some (octet from)) (all_held octet (from + 1) (length part))
    (there (octet from) first ((let same : from ≡ from + 0 = omega arith in ap (λ (x : ℕ). option_map (λ o. o.octet) (octet x)) same) ∙ is 0 (omega arith)))
    (piece_held octet (from + 1) part (λ i h. (let same : from + 1 + i ≡ from + suc i = omega arith in
    ap (λ (x : ℕ). option_map (λ o. o.octet) (octet x)) same ∙ is (suc i) (omega (arith, h)))))
  where
    there : (o : Option Octet) (n : ℕ) → option_map (λ o. o.octet) o ≡ Some n → is_some o ≡ true
    there None n h = cc
    there (Some o) n h = refl

pub passed_on : (octet : ℕ → Option Octet) (from position : ℕ) (part : List ℕ) → from ≤ position → all_held octet from (position - from) ≡ true
    → IsPiece octet position part → all_held octet from (position + length part - from) ≡ true
passed_on octet from position part lo held is =
    held_both octet from (position - from) (length part) (position + length part - from) position (omega (arith, lo)) (omega (arith, lo)) held
    (piece_held octet position part is)
