-- The DATA_FIN behind the last place, step after step.
use Rattle.std.proofs.Common.{◌≡◌, refl, sym, ap, ◌∙◌, ℕ, ℤ, ◌+◌, ◌-◌, ◌<◌, ◌≤◌, ◌⊎◌, inl, inr, Bool, true, false, ◌&&◌, ◌||◌, ◌==◌, nat_le, nat_lt, if◌then◌else◌, is_some, max, Option, Some, None, option_map, [], ◌∷◌, ◌++◌, length, get_or, arith, true≢false}
use Rattle.std.specs.Option.{option_or}
use Rattle.std.proofs.lemmas.Bool.Decides.{nat_tests}
use Rattle.first_runs.specs.declared.run.Run.{Run}
use Rattle.first_runs.specs.Runs.{Told, has, told_by}
use Rattle.judge_rules.specs.declared.acks.ToldPlace.{ToldPlace}
use Rattle.judge_rules.specs.declared.finding.Finding.{Finding}
use Rattle.judge_rules.specs.declared.finding.Finding.TheVariants.{BeyondFin, MappedBeyond, OtherFin}
use Rattle.judge_rules.specs.declared.finding.Rule.{Rule}
use Rattle.judge_rules.specs.declared.finding.Rule.TheVariants as rule
use Rattle.judge_rules.specs.declared.mappings.Line.{Line}
use Rattle.judge_rules.specs.declared.mappings.Offer.{Offer}
use Rattle.judge_rules.specs.Mappings.{fin_fault, is_too_early, mapped_octets}
use Rattle.seen_octets.specs.declared.octet.Octet.{Octet}
use Rattle.seen_octets.specs.Octets.{has_place, octet_by}
use Rattle.seen_streams.specs.declared.told.Infinite.{Infinite}
use Rattle.seen_streams.specs.declared.told.Teller.{Teller}
use Rattle.seen_streams.specs.declared.told.ToldMapping.{ToldMapping}
use Rattle.seen_streams.specs.Acks.{fin_told}
use Rattle.seen_streams.specs.Content.{as_part}
use Rattle.seen_streams.specs.Mapped.{by_rule, fin_after, finite_fault, infinite_after, octets_fault, run_of, told_mapping}
use Rattle.seen_streams.specs.State.{LaneValue, StreamValue, empty_lane, empty_stream, is_of, line_place}
use Rattle.seen_streams.specs.Same.{same_mapping}
use Rattle.seen_streams.specs.Sums.{still_waiting, with_sum}
use Rattle.judge_laws.specs.GoesOn.{GoesOn}
use Rattle.judge_laws.proofs.Folds.{StepsKeep, TellingKeeps, tried_so}

-- ---- what holds of a stream, and of what its side sent on a subflow, where no infinite mapping was told

pub record IsBelow (fin : Option ToldPlace) (seen : ℕ → Bool) (octet : ℕ → Option Octet) (top : ℕ) : Type 0 where
  pub ends : (told : ToldPlace) → fin ≡ Some told → top ≤ told.place
  pub places : (place : ℕ) → seen place ≡ true → place < top
  pub octets : (place : ℕ) (o : Octet) → octet place ≡ Some o → place < top

pub record ArePlaced (line : Option Line) (placed : ℕ → Option Told) (top : ℕ) : Type 0 where
  pub no_line : line ≡ None
  pub images : (p : ℕ) (told : Told) → placed p ≡ Some told → told.image < top

abbrev pub Below : StreamValue → LaneValue → Type 0
Below s l = s.infinite ≡ None → IsBelow s.fin s.seen s.octet s.top × ArePlaced l.line l.placed s.top

-- ---- small words

some_none : {X : Type 0} → (x : X) → Some x ≡ None → ⊥
some_none x e = cc

no_some : {X : Type 0} → (x : X) → None ≡ Some x → ⊥
no_some x e = cc

same_some : {X : Type 0} → (x y : X) → Some x ≡ Some y → x ≡ y
same_some x y e = cc

second_none : {X : Type 0} → (a b : Option X) → option_or a b ≡ None → b ≡ None
second_none (Some x) b e = absurd (some_none x e)
second_none None b e = e

first_none : {X : Type 0} → (a b : Option X) → option_or a b ≡ None → a ≡ None
first_none (Some x) b e = absurd (some_none x e)
first_none None b e = refl

no_rule : (which : Rule) (finding : Option Finding) → by_rule which finding ≡ None → finding ≡ None
no_rule which None e = refl
no_rule which (Some finding) e = cc

either : (a b : Bool) → (a || b) ≡ true → (a ≡ true) ⊎ (b ≡ true)
either true b e = inl refl
either false b e = inr e

both : (a b : Bool) → (a && b) ≡ true → (a ≡ true) × (b ≡ true)
both true b e = (refl, e)
both false b e = absurd (true≢false (sym e))

within : (from to p : ℕ) → (nat_le from p && nat_lt p to) ≡ true → (from ≤ p) × (p < to)
within from to p e =
    let parts = both (nat_le from p) (nat_lt p to) e in
    let lo : nat_le from p ≡ true = parts.0 in
    let hi : nat_lt p to ≡ true = parts.1 in
    (grind (arith, nat_tests, lo), grind (arith, nat_tests, hi))

unless_none : {X : Type 0} → (b : Bool) (x : X) → (if b then None else Some x) ≡ None → b ≡ true
unless_none true x e = refl
unless_none false x e = absurd (some_none x e)

if_none : {X : Type 0} → (b : Bool) (x : X) → (if b then Some x else None) ≡ None → b ≡ false
if_none true x e = absurd (some_none x e)
if_none false x e = refl

-- ---- a mapping that holds

ends_later : (old : Option ToldPlace) (fin : Bool) (top end packet : ℕ) → fin_fault old top end fin ≡ None
    → ((told : ToldPlace) → old ≡ Some told → top ≤ told.place) → (told : ToldPlace) → fin_after old fin end packet ≡ Some told
    → max top end ≤ told.place
ends_later (Some was) true top end packet none ends told is =
    let found = first_none (if was.place == end then None else Some (OtherFin end was.place was.packet)) (is_too_early top end true) none in
    let same : (was.place == end) ≡ true = unless_none (was.place == end) (OtherFin end was.place was.packet) found in
    let at : was.place ≡ end = grind (arith, nat_tests, same) in
    let it : was.place ≡ told.place = ap (λ (t : ToldPlace). t.place) (same_some was told is) in
    let before : top ≤ was.place = ends was refl in
    omega (arith, at, it, before)
ends_later (Some was) false top end packet none ends told is =
    let found = first_none (if nat_lt was.place end then Some (BeyondFin end was.place was.packet) else None) (is_too_early top end false) none in
    let past : nat_lt was.place end ≡ false = if_none (nat_lt was.place end) (BeyondFin end was.place was.packet) found in
    let at : end ≤ was.place = grind (arith, nat_tests, past) in
    let it : was.place ≡ told.place = ap (λ (t : ToldPlace). t.place) (same_some was told is) in
    let before : top ≤ was.place = ends was refl in
    omega (arith, at, it, before)
ends_later None true top end packet none ends told is =
    let early : nat_lt end top ≡ false = if_none (nat_lt end top) (MappedBeyond end top) none in
    let at : top ≤ end = grind (arith, nat_tests, early) in
    let it : end ≡ told.place = ap (λ (t : ToldPlace). t.place) (same_some (record { place = end; packet = packet }) told is) in
    omega (arith, at, it)
ends_later None false top end packet none ends told is = cc

images_later : (old : Option Told) (run : Run) (p top end : ℕ) → end ≡ run.image + (run.to - run.from) → ((told : Told) → old ≡ Some told → told.image < top)
    → (told : Told) → option_or old (told_by run p) ≡ Some told → told.image < max top end
images_later (Some was) run p top end e images told is =
    let before : told.image < top = images told is in omega (arith, before)
images_later None run p top end e images told is = by (has run p) refl is
  where
    by : (b : Bool) → has run p ≡ b → (if b then Some (let t : Told = record { image = run.image + (p - run.from); teller = run.teller } in t) else None) ≡ Some told
        → told.image < max top end
    by true in_run same =
        let parts = within run.from run.to p in_run in
        let it : run.image + (p - run.from) ≡ told.image = ap (λ (t : Told). t.image) (same_some (record { image = run.image + (p - run.from); teller = run.teller }) told same) in
        omega (arith, parts.0, parts.1, it, e)
    by false in_run same = cc

maps_so : (teller : Teller) (offer : Offer) (position : ℤ) (place : ℕ) (s : StreamValue) (l : LaneValue)
    → finite_fault teller s l offer position place ≡ None
    → IsBelow s.fin s.seen s.octet s.top × ArePlaced l.line l.placed s.top
    → let mapping = told_mapping offer position place in let end = place + mapped_octets offer in
    IsBelow (fin_after s.fin offer.fin end teller.packet) s.seen s.octet (max s.top end)
    × ArePlaced l.line (λ p. option_or (l.placed p) (told_by (run_of teller.packet mapping) p)) (max s.top end)
maps_so teller offer position place s l none h =
    let end = place + mapped_octets offer in
    let run = run_of teller.packet (told_mapping offer position place) in
    let held : fin_fault s.fin s.top end offer.fin ≡ None =
    no_rule rule.DataFin (fin_fault s.fin s.top end offer.fin)
    (second_none (octets_fault teller s l offer position place) (by_rule rule.DataFin (fin_fault s.fin s.top end offer.fin)) none) in
    let as_run : end ≡ run.image + (run.to - run.from) = omega arith in (
      record {
        ends = λ told is. ends_later s.fin offer.fin s.top end teller.packet held h.0.ends told is;
        places = λ q is. let before : q < s.top = h.0.places q is in omega (arith, before);
        octets = λ q o is. let before : q < s.top = h.0.octets q o is in omega (arith, before);
      },
      record {
        no_line = h.1.no_line;
        images = λ p told is. images_later (l.placed p) run p s.top end as_run (h.1.images p) told is;
      },
    )

-- ---- FIN, where there is no line

unended : (old : Option ToldPlace) (line : Option Line) (fin : Option ℕ) (packet : ℕ) → line ≡ None → fin_told old line fin packet ≡ old
unended (Some told) line fin packet e = refl
unended None None fin packet e = refl
unended None (Some line) fin packet e = absurd (some_none line e)

-- ---- an octet at a place that a mapping gave

placed_below : (placed : Option Told) (line : Option Line) (p place top : ℕ) → line ≡ None → ((told : Told) → placed ≡ Some told → told.image < top)
    → option_or (option_map (λ told. told.image) placed) (line_place line p) ≡ Some place → place < top
placed_below (Some told) line p place top none images is =
    let it : told.image ≡ place = same_some told.image place is in
    let before : told.image < top = images told refl in
    omega (arith, it, before)
placed_below None (Some line) p place top none images is = absurd (some_none line none)
placed_below None None p place top none images is = cc

seen_below : (was : Bool) (place q top : ℕ) → place < top → (was ≡ true → q < top) → (was || is_of place 1 q) ≡ true → q < top
seen_below was place q top lo before is = by (either was (is_of place 1 q) is)
  where
    by : (was ≡ true) ⊎ (is_of place 1 q ≡ true) → q < top
    by (inl old) = before old
    by (inr new) = let parts = within place (place + 1) q new in omega (arith, parts.0, parts.1, lo)

part_below : (part : Option ℕ) (place packet q top : ℕ) (o : Octet) → place < top → octet_by place (as_part part) packet q ≡ Some o → q < top
part_below part place packet q top o lo is = by (has_place place (as_part part) q) refl is
  where
    few : (part : Option ℕ) → length (as_part part) ≤ 1
    few None = omega arith
    few (Some octet) = omega arith

    by : (b : Bool) → has_place place (as_part part) q ≡ b → (if b then Some (let x : Octet = record { octet = get_or (as_part part) (q - place) 0; teller = packet } in x) else None) ≡ Some o → q < top
    by true there same =
        let parts = within place (place + length (as_part part)) q there in
        omega (arith, parts.0, parts.1, few part, lo)
    by false there same = cc

octet_below : (was : Option Octet) (part : Option ℕ) (place packet q top : ℕ) (o : Octet) → place < top → ((x : Octet) → was ≡ Some x → q < top)
    → option_or was (octet_by place (as_part part) packet q) ≡ Some o → q < top
octet_below (Some x) part place packet q top o lo before is = before x refl
octet_below None part place packet q top o lo before is = part_below part place packet q top o lo is

-- ---- each step

pub telling : (l : LaneValue) → TellingKeeps (λ (s : StreamValue). Below s l)
telling l = record {
  tells = λ rule packet fault s h. h;
  counts = λ s keys joins mappings sums data_acks h. h;
}

with_sum_so : (packet : ℕ) (mapping : ToldMapping) (s : StreamValue) (l : LaneValue) → Below s l → Below s (with_sum packet mapping l)
with_sum_so packet mapping s l h = elim (l.summed mapping) as (λ b. Below s (if b then l else record l {
  summed = λ other. l.summed other || same_mapping other mapping;
  waiting = l.waiting ++ record { mapping = mapping; packet = packet } ∷ [];
})) [ true ↦ h | false ↦ h ]

pub steps : (first : Option ℕ) → StepsKeep first Below
steps first = record {
  acks = record { telling = telling; acks = λ place s l h. h };
  ends = λ position s l h. h;
  maps = λ teller offer position place s l e h none. maps_so teller offer position place s l e (h none);
  lines = λ teller place line s l h none. absurd (some_none (infinite_after s.infinite teller line.place) none);
  fins = λ packet s l h none.
      let was = h none in (
        record {
          ends = λ told is. was.0.ends told (sym (unended s.fin l.line l.fin packet was.1.no_line) ∙ is);
          places = was.0.places;
          octets = was.0.octets;
        },
        was.1,
      );
  pays = λ payload packet s l h. h;
  shows = λ acknowledged packet p place octet s l e h none.
      let was = h none in
      let lo : place < s.top = placed_below (l.placed p) l.line p place s.top was.1.no_line (was.1.images p) e in (
        record {
          ends = was.0.ends;
          places = λ q is. seen_below (s.seen q) place q s.top lo (was.0.places q) is;
          octets = λ q o is. octet_below (s.octet q) octet place packet q s.top o lo (was.0.octets q) is;
        },
        was.1,
      );
  sums = λ packet known mapping s l is e h. with_sum_so packet mapping s l h;
  tries = λ packet known s l e h. tried_so (telling (still_waiting l)) packet known l.octet l.waiting s h;
}

-- ---- nothing was sent, another lane, and a stream that goes on

pub nothing_below : Below empty_stream empty_lane
nothing_below none = (
  record {
    ends = λ told is. absurd (no_some told is);
    places = λ q is. absurd (true≢false (sym is));
    octets = λ q o is. absurd (no_some o is);
  },
  record { no_line = refl; images = λ p told is. absurd (no_some told is) },
)

pub ended_alone : (s : StreamValue) (l : LaneValue) → Below s l → Below s empty_lane
ended_alone s l h none = ((h none).0, record { no_line = refl; images = λ p told is. absurd (no_some told is) })

no_infinite : (old new : Option Infinite) → (is_some old ≡ true → is_some new ≡ true) → new ≡ None → old ≡ None
no_infinite None new stays none = refl
no_infinite (Some infinite) new stays none = absurd (true≢false (sym (stays refl) ∙ ap is_some none))

pub moves_below : (s later : StreamValue) (l : LaneValue) → GoesOn s later → Below later empty_lane → Below s l → Below later l
moves_below s later l goes alone h none =
    let was = (h (no_infinite s.infinite later.infinite goes.infinite none)).1 in (
      (alone none).0,
      record {
        no_line = was.no_line;
        images = λ p told is. let before : told.image < s.top = was.images p told is in omega (arith, before, goes.mapped);
      },
    )
