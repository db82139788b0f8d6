-- Mappings with checksums wait until they are whole, and are tried then.
use Rattle.std.proofs.Common.{◌≡◌, refl, sym, ap, ◌∙◌, subst, ℕ, ℤ, zero, suc, ◌+◌, ◌⊎◌, inl, inr, Bool, true, false, ◌&&◌, ◌||◌, ◌==◌, not, is_some, if◌then◌else◌, Option, Some, None, List, [], ◌∷◌, true≢false}
use Rattle.std.specs.Bool.{beq}
use Rattle.std.specs.Cmp.{booleans_Decides}
use Rattle.std.specs.List.{list_any}
use Rattle.std.specs.Option.{unwrap_or}
use Rattle.std.specs.Ordering.{int_eq}
use Rattle.std.proofs.lemmas.Bool.{or_left, or_right}
use Rattle.std.proofs.lemmas.Bool.Decides.{Decides-eqb, Decides-int_eq}
use Rattle.dss_checksum.specs.Checksum.{dss_checksum}
use Rattle.judge_rules.specs.declared.finding.Finding.TheVariants.{WrongSum}
use Rattle.judge_rules.specs.declared.finding.Rule.TheVariants as rule
use Rattle.judge_rules.specs.Mappings.{natural}
use Rattle.seen_octets.specs.declared.octet.Octet.{Octet}
use Rattle.seen_octets.specs.Octets.{all_held}
use Rattle.seen_streams.specs.declared.told.ToldMapping.{ToldMapping}
use Rattle.seen_streams.specs.declared.told.Waiting.{Waiting}
use Rattle.seen_streams.specs.Mapped.{octets_of}
use Rattle.seen_streams.specs.Same.{same_mapping, same_sum}
use Rattle.seen_streams.specs.State.{StreamValue}
use Rattle.seen_streams.specs.Sums.{are_alike, expected_sum, header_of, held_octets, is_whole, octet_or_0, sum_fault, tried_if_whole, tried_sum, tried_sums, wrong_sum}
use Rattle.seen_streams.specs.Waits.{still_open}
use Rattle.judge_laws.specs.GoesOn.{broke}
use Rattle.judge_laws.proofs.Folds.{tried_so}
use Rattle.judge_laws.proofs.Going.{telling}
use Rattle.judge_laws.proofs.GoesOn.{goes_same}
use Rattle.judge_laws.proofs.Shown.{kept_before, none_found}

-- ---- mappings that are one

pub both : (a b : Bool) → (a && b) ≡ true → (a ≡ true) × (b ≡ true)
both true b e = (refl, e)
both false b e = absurd (true≢false (sym e))

pub either : (a b : Bool) → (a || b) ≡ true → (a ≡ true) ⊎ (b ≡ true)
either true b e = inl refl
either false b e = inr e

sums_are : (one other : Option ℕ) → same_sum one other ≡ true → one ≡ other
sums_are (Some one) (Some other) e = ap (λ (x : ℕ). Some x) ((Decides-eqb one other).0 e)
sums_are None None e = refl
sums_are (Some one) None e = absurd (true≢false (sym e))
sums_are None (Some other) e = absurd (true≢false (sym e))

abbrev made : ℕ → ℤ → ℕ → Option ℕ → Bool → ToldMapping
made place position length checksum fin = record { place = place; position = position; length = length; checksum = checksum; fin = fin }

pub mappings_are : (one other : ToldMapping) → same_mapping one other ≡ true → one ≡ other
mappings_are one other e =
    let p = both (one.place == other.place) _ e in
    let q = both (int_eq one.position other.position) _ p.1 in
    let l = both (one.length == other.length) _ q.1 in
    let c = both (same_sum one.checksum other.checksum) (beq one.fin other.fin) l.1 in
    ap (λ (x : ℕ). made x one.position one.length one.checksum one.fin) ((Decides-eqb one.place other.place).0 p.0)
    ∙ ap (λ (x : ℤ). made other.place x one.length one.checksum one.fin) ((Decides-int_eq one.position other.position).0 q.0)
    ∙ ap (λ (x : ℕ). made other.place other.position x one.checksum one.fin) ((Decides-eqb one.length other.length).0 l.0)
    ∙ ap (λ (x : Option ℕ). made other.place other.position other.length x one.fin) (sums_are one.checksum other.checksum c.0)
    ∙ ap (λ (x : Bool). made other.place other.position other.length other.checksum x) ((booleans_Decides one.fin other.fin).0 c.1)

-- ---- octets stay

abbrev pub OctetsStay : (ℕ → Option Octet) → (ℕ → Option Octet) → Type 0
OctetsStay old new = (p : ℕ) (o : Octet) → old p ≡ Some o → new p ≡ Some o

stays_there : (a b : Option Octet) → ((o : Octet) → a ≡ Some o → b ≡ Some o) → is_some a ≡ true → b ≡ a
stays_there (Some o) b stay e = stay o refl
stays_there None b stay e = absurd (true≢false (sym e))

pub held_later : (old new : ℕ → Option Octet) (from count : ℕ) → OctetsStay old new → all_held old from count ≡ true
    → (all_held new from count ≡ true) × (held_octets new from count ≡ held_octets old from count)
held_later old new from zero stay e = (refl, refl)
held_later old new from (suc count) stay e =
    let parts = both (is_some (old from)) (all_held old (from + 1) count) e in
    let same = stays_there (old from) (new from) (stay from) parts.0 in
    let rest = held_later old new (from + 1) count stay parts.1 in (
      ap (λ (o : Option Octet). is_some o && all_held new (from + 1) count) same ∙ ap (λ b. b && all_held new (from + 1) count) parts.0 ∙ rest.0,
      ap (λ (o : Option Octet). octet_or_0 o ∷ held_octets new (from + 1) count) same ∙ ap (λ (os : List ℕ). octet_or_0 (old from) ∷ os) rest.1,
    )

-- ---- what was tried

pub record HasSum (first : Option ℕ) (octet : ℕ → Option Octet) (m : ToldMapping) : Type 0 where
  pub known : ℕ
  pub has_first : first ≡ Some known
  pub whole : all_held octet (natural m.position) (octets_of m) ≡ true
  pub right : are_alike (expected_sum known octet m) (unwrap_or m.checksum 0) ≡ true

pub sum_later : (first : Option ℕ) (old new : ℕ → Option Octet) (m : ToldMapping) → OctetsStay old new → HasSum first old m → HasSum first new m
sum_later first old new m stay has =
    let later = held_later old new (natural m.position) (octets_of m) stay has.whole in
    record {
      known = has.known;
      has_first = has.has_first;
      whole = later.0;
      right = ap (λ (os : List ℕ). are_alike (dss_checksum (header_of has.known m) os) (unwrap_or m.checksum 0)) later.1 ∙ has.right;
    }

alike_if : (expected was : ℕ) (waiting : Waiting) → wrong_sum expected was waiting ≡ None → are_alike expected was ≡ true
alike_if expected was waiting none = by (are_alike expected was) none
  where
    by : (b : Bool) → (if b then None else Some (WrongSum waiting.mapping.place waiting.mapping.length waiting.packet expected was)) ≡ None → b ≡ true
    by true e = refl
    by false e = cc

-- among those that wait
abbrev pub waits : ToldMapping → List Waiting → Bool
waits m waiting = list_any (λ (w : Waiting). same_mapping m w.mapping) waiting

-- one that is tried in its turn
one_tried : (packet known : ℕ) (first : Option ℕ) (octet : ℕ → Option Octet) (w : Waiting) (s : StreamValue) → first ≡ Some known → is_whole octet w ≡ true
    → broke rule.DssSum (tried_if_whole packet known octet w s) ≡ false → HasSum first octet w.mapping
one_tried packet known first octet w s is whole kept = record {
  known = known;
  has_first = is;
  whole = whole;
  right =
      alike_if (expected_sum known octet w.mapping) (unwrap_or w.mapping.checksum 0) w
      (none_found rule.DssSum packet (sum_fault known octet w) s.broken (ap (λ b. broke rule.DssSum (if b then tried_sum packet known octet w s else s)) (sym whole) ∙ kept));
}

-- each that waited waits on, or has its sum
pub tried_either : (packet known : ℕ) (first : Option ℕ) (octet : ℕ → Option Octet) (waiting : List Waiting) (s : StreamValue) (m : ToldMapping) → first ≡ Some known
    → waits m waiting ≡ true → broke rule.DssSum (tried_sums packet known octet waiting s) ≡ false
    → (waits m (still_open octet waiting) ≡ true) ⊎ HasSum first octet m
tried_either packet known first octet [] s m is there kept = absurd (true≢false (sym there))
tried_either packet known first octet (w ∷ waiting) s m is there kept =
    by (is_whole octet w) refl (either (same_mapping m w.mapping) (waits m waiting) there) (λ later. tried_either packet known first octet waiting next m is later kept)
  where
    next : StreamValue
    next = tried_if_whole packet known octet w s

    last : StreamValue
    last = tried_sums packet known octet waiting next

    kept_next : broke rule.DssSum next ≡ false
    kept_next = kept_before next last rule.DssSum (tried_so (telling next) packet known octet waiting next (goes_same next)) kept

    more : (waits m (still_open octet waiting) ≡ true) ⊎ HasSum first octet m → (waits m (w ∷ still_open octet waiting) ≡ true) ⊎ HasSum first octet m
    more (inl open_still) = inl (or_right (same_mapping m w.mapping) (waits m (still_open octet waiting)) open_still)
    more (inr has) = inr has

    by : (b : Bool) → is_whole octet w ≡ b → (same_mapping m w.mapping ≡ true) ⊎ (waits m waiting ≡ true)
        → (waits m waiting ≡ true → (waits m (still_open octet waiting) ≡ true) ⊎ HasSum first octet m)
        → (waits m (if not b then w ∷ still_open octet waiting else still_open octet waiting) ≡ true) ⊎ HasSum first octet m
    by true whole (inl same) rest = inr (subst (HasSum first octet) (sym (mappings_are m w.mapping same)) (one_tried packet known first octet w s is whole kept_next))
    by true whole (inr later) rest = rest later
    by false whole (inl same) rest = inl (or_left (same_mapping m w.mapping) (waits m (still_open octet waiting)) same)
    by false whole (inr later) rest = more (rest later)

-- none of them is whole
abbrev pub any_whole : (ℕ → Option Octet) → List Waiting → Bool
any_whole octet waiting = list_any (λ (w : Waiting). is_whole octet w) waiting

-- nor is any that waits on
pub still_are_open : (octet : ℕ → Option Octet) (waiting : List Waiting) → any_whole octet (still_open octet waiting) ≡ false
still_are_open octet [] = refl
still_are_open octet (w ∷ waiting) = by (is_whole octet w) refl (still_are_open octet waiting)
  where
    by : (b : Bool) → is_whole octet w ≡ b → any_whole octet (still_open octet waiting) ≡ false
        → any_whole octet (if not b then w ∷ still_open octet waiting else still_open octet waiting) ≡ false
    by true e rest = rest
    by false e rest = ap (λ b. b || any_whole octet (still_open octet waiting)) e ∙ rest

pub none_whole : (octet : ℕ → Option Octet) (waiting : List Waiting) (m : ToldMapping) → any_whole octet waiting ≡ false → waits m waiting ≡ true
    → all_held octet (natural m.position) (octets_of m) ≡ false
none_whole octet [] m none there = absurd (true≢false (sym there))
none_whole octet (w ∷ waiting) m none there =
    by (is_whole octet w) refl none (either (same_mapping m w.mapping) (waits m waiting) there) (λ h later. none_whole octet waiting m h later)
  where
    by : (b : Bool) → is_whole octet w ≡ b → (b || any_whole octet waiting) ≡ false → (same_mapping m w.mapping ≡ true) ⊎ (waits m waiting ≡ true)
        → (any_whole octet waiting ≡ false → waits m waiting ≡ true → all_held octet (natural m.position) (octets_of m) ≡ false)
        → all_held octet (natural m.position) (octets_of m) ≡ false
    by true e h there rest = absurd (true≢false h)
    by false e h (inl same) rest = ap (λ (x : ToldMapping). all_held octet (natural x.position) (octets_of x)) (mappings_are m w.mapping same) ∙ e
    by false e h (inr later) rest = rest h later
