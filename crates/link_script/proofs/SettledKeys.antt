-- What lines have settled, by keys, and as a line comes behind others.
use Rattle.std.proofs.Common.{◌≡◌, refl, sym, ap, subst, ◌∙◌, ℕ, ◌+◌, Bool, true, false, ◌&&◌, ◌||◌, ◌==◌, cond, Option, Some, None, List, [], ◌∷◌, ◌++◌, arith}
use Rattle.std.specs.List.{list_any, sum_by}
use Rattle.std.specs.Prelude.{count_by}
use Rattle.std.proofs.lemmas.List.Folds.{list_any-append}
use Rattle.std.proofs.lemmas.List.Sums.{sum_by-append}
use Rattle.sides.specs.declared.side.Side.{Side}
use Rattle.sides.specs.declared.side.Side.TheVariants.{A, B}
use Rattle.link_script.specs.declared.line.Line.{Line}
use Rattle.link_script.specs.declared.place.Subject.{Subject}
use Rattle.link_script.specs.declared.place.Subject.TheVariants as settles
use Rattle.link_script.specs.declared.settled.Settled.{Settled}
use Rattle.link_script.specs.Places.{is_path, is_end, settled_by, same_side, is_same, are_same, settle_one, is_repeated}
use Rattle.link_script.specs.Settled.{same_key, side_number, key_of, has_key, settles_key}

or_none : (b : Bool) → b ≡ (b || false)
or_none true = refl
or_none false = refl

or_all : (b : Bool) → b ≡ (b && true)
or_all true = refl
or_all false = refl

-- one subject more, where there is one
pub put : (more had : Bool) → cond more true had ≡ (had || more)
put true true = refl
put true false = refl
put false true = refl
put false false = refl

pub kept : (had : Bool) → had ≡ (had || false)
kept had = or_none had

-- ---- keys are the same where subjects are

on_segment : (path number : Bool) (a b : Side) → (path && (side_number a == side_number b && number)) ≡ (path && same_side a b && number)
on_segment true number A A = refl
on_segment true number A B = refl
on_segment true number B A = refl
on_segment true number B B = refl
on_segment false number A A = refl
on_segment false number A B = refl
on_segment false number B A = refl
on_segment false number B B = refl

on_path : (path : Bool) (a b : Side) → (path && (side_number a == side_number b && true)) ≡ (path && same_side a b)
on_path true A A = refl
on_path true A B = refl
on_path true B A = refl
on_path true B B = refl
on_path false A A = refl
on_path false A B = refl
on_path false B A = refl
on_path false B B = refl

keys_same : (a b : Subject) → same_key (key_of a) (key_of b) ≡ is_same a b
keys_same settles.Seed settles.Seed = refl
keys_same settles.Checksum settles.Checksum = refl
keys_same settles.Short settles.Short = refl
keys_same settles.Buffer settles.Buffer = refl
keys_same (settles.Arrival a) (settles.Arrival b) = on_segment (a.path == b.path) (a.number == b.number) a.from b.from
keys_same (settles.Options a) (settles.Options b) = on_segment (a.path == b.path) (a.number == b.number) a.from b.from
keys_same (settles.Payload a) (settles.Payload b) = on_segment (a.path == b.path) (a.number == b.number) a.from b.from
keys_same (settles.AllOptions p a) (settles.AllOptions q b) = on_path (p == q) a b
keys_same (settles.Death p) (settles.Death q) = sym (or_all (p == q))
keys_same (settles.FastClose a) (settles.FastClose b) = on_path true a b
keys_same (settles.Rate a) (settles.Rate b) = on_path (a.path == b.path) a.from b.from
keys_same (settles.Loss a) (settles.Loss b) = on_path (a.path == b.path) a.from b.from
keys_same (settles.Jitter a) (settles.Jitter b) = on_path (a.path == b.path) a.from b.from
keys_same settles.Seed _ = refl
keys_same settles.Checksum _ = refl
keys_same settles.Short _ = refl
keys_same settles.Buffer _ = refl
keys_same (settles.Arrival a) _ = refl
keys_same (settles.Options a) _ = refl
keys_same (settles.Payload a) _ = refl
keys_same (settles.AllOptions p a) _ = refl
keys_same (settles.Death p) _ = refl
keys_same (settles.FastClose a) _ = refl
keys_same (settles.Rate a) _ = refl
keys_same (settles.Loss a) _ = refl
keys_same (settles.Jitter a) _ = refl

one : (a : Option Subject) (b : Subject) → has_key a (key_of b) ≡ are_same a (Some b)
one None b = refl
one (Some a) b = keys_same a b

none : (a : Option Subject) → false ≡ are_same a None
none None = refl
none (Some a) = refl

-- ---- what was settled before

pub repeated : (lines : List Line) (line : Line) (subject : Subject) → settled_by line ≡ Some subject → list_any (settles_key (key_of subject)) lines ≡ is_repeated lines line
repeated [] line subject is = refl
repeated (earlier ∷ lines) line subject is =
    let here : settles_key (key_of subject) earlier ≡ settle_one earlier line = one (settled_by earlier) subject ∙ ap (are_same (settled_by earlier)) (sym is) in
    ap (λ (b : Bool). b || list_any (settles_key (key_of subject)) lines) here
    ∙ ap (λ (b : Bool). settle_one earlier line || b) (repeated lines line subject is)

pub never : (lines : List Line) (line : Line) → settled_by line ≡ None → false ≡ is_repeated lines line
never [] line is = refl
never (earlier ∷ lines) line is =
    let here : false ≡ settle_one earlier line = none (settled_by earlier) ∙ ap (are_same (settled_by earlier)) (sym is) in
    never lines line is ∙ ap (λ (b : Bool). b || is_repeated lines line) here

-- ---- a line behind the others

pub paths_pushed : (lines after : List Line) (line : Line) (paths now : ℕ) → now ≡ paths + cond (is_path line) 1 0 → paths ≡ count_by is_path lines
    → after ≡ lines ++ line ∷ [] → now ≡ count_by is_path after
paths_pushed lines after line paths now is told more =
    let one_more : sum_by (λ l. cond (is_path l) 1 0) (line ∷ []) ≡ 0 + cond (is_path line) 1 0 = refl in
    subst (λ (ls : List Line). now ≡ count_by is_path ls) (sym more)
    (omega (arith, is, told, one_more, sum_by-append (λ l. cond (is_path l) 1 0) lines (line ∷ [])))

any_pushed : (p : Line → Bool) (lines after : List Line) (line : Line) (was now : Bool) → now ≡ (was || p line) → was ≡ list_any p lines
    → after ≡ lines ++ line ∷ [] → now ≡ list_any p after
any_pushed p lines after line was now is told more =
    is ∙ ap (λ (b : Bool). b || p line) told ∙ ap (λ (b : Bool). list_any p lines || b) (or_none (p line))
    ∙ sym (list_any-append p lines (line ∷ [])) ∙ ap (list_any p) (sym more)

pub ended_pushed : (lines after : List Line) (line : Line) (was now : Bool) → now ≡ (was || is_end line) → was ≡ list_any is_end lines
    → after ≡ lines ++ line ∷ [] → now ≡ list_any is_end after
ended_pushed = any_pushed is_end

pub settled_pushed : (key : Settled) (lines after : List Line) (line : Line) (was now : Bool) → now ≡ (was || has_key (settled_by line) key)
    → was ≡ list_any (settles_key key) lines → after ≡ lines ++ line ∷ [] → now ≡ list_any (settles_key key) after
settled_pushed key = any_pushed (settles_key key)
