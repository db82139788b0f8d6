-- How many passes are out, and which tables names stand for.
use Rattle.ruled_desk.proofs.Words.{◌≡◌, refl, sym, ◌∙◌, ap, ℕ, zero, suc, ◌<◌, ◌≤◌, Bool, true, false, List, [], ◌∷◌, ◌++◌, length, arith, ◌+◌, slice_set}
use Rattle.ruled_desk.proofs.Words.{TableId, SixLocked, SixKnown, AreOf, how_many, is_out, numbers_of, names_of, bit, AreLeft, EachHas, both_seats}
use Rattle.ruled_desk.proofs.Words.{one_part_less}
use Rattle.ruled_desk.specs.declared.seats.Seats.{Seats}

pub many-most : (out : List Bool) → how_many out ≤ length out
many-most [] = omega arith
many-most (true ∷ out) = let later = many-most out in omega arith
many-most (false ∷ out) = let later = many-most out in omega arith

-- one more is out
pub many-out : (out : List Bool) (actor : ℕ) → actor < length out → is_out out actor ≡ false → how_many (slice_set out actor true) ≡ how_many out + 1
many-out [] actor within home = absurd (omega (arith, within))
many-out (one ∷ out) zero within home = let none : bit one ≡ 0 = ap bit home in omega (arith, none)
many-out (one ∷ out) (suc actor) within home = let later = many-out out actor (omega (arith, within)) home in omega (arith, later)

-- one fewer at most
pub many-back : (out : List Bool) (actor : ℕ) → how_many out ≤ how_many (slice_set out actor false) + 1
many-back [] actor = omega arith
many-back (true ∷ out) zero = omega arith
many-back (false ∷ out) zero = omega arith
many-back (one ∷ out) (suc actor) = let later = many-back out actor in omega (arith, later)

-- who isn't out leaves room for one
pub many-room : (out : List Bool) (actor : ℕ) → actor < length out → is_out out actor ≡ false → how_many out + 1 ≤ length out
many-room [] actor within home = absurd (omega (arith, within))
many-room (one ∷ out) zero within home = let none : bit one ≡ 0 = ap bit home in let later = many-most out in omega (arith, none, later)
many-room (true ∷ out) (suc actor) within home = let later = many-room out actor (omega (arith, within)) home in omega (arith, later)
many-room (false ∷ out) (suc actor) within home = let later = many-room out actor (omega (arith, within)) home in omega (arith, later)

pub many-none : (out : List Bool) → ((actor : ℕ) → is_out out actor ≡ false) → how_many out ≡ 0
many-none [] home = refl
many-none (one ∷ out) home =
    let none : bit one ≡ 0 = ap bit (home 0) in let later = many-none out (λ actor. home (suc actor)) in omega (arith, none, later)

-- ---- names

append_same : (us vs xs ys : List ℕ) → length us ≡ length vs → us ++ xs ≡ vs ++ ys → (us ≡ vs) × (xs ≡ ys)
append_same [] [] xs ys long e = (refl, e)
append_same [] (v ∷ vs) xs ys long e = absurd (omega (arith, long))
append_same (u ∷ us) [] xs ys long e = absurd (omega (arith, long))
append_same (u ∷ us) (v ∷ vs) xs ys long e =
    let head : u ≡ v = cc in
    let two = append_same us vs xs ys (omega (arith, long)) cc in
    (ap (λ x. x ∷ us) head ∙ ap (λ zs. v ∷ zs) two.0, two.1)

table_of : ℕ → ℕ → ℕ → ℕ → ℕ → ℕ → List ℕ → TableId
table_of words slots views_name atom block offset slot_names =
    record { words = words; slots = slots; views_name = views_name; atom = atom; block = block; offset = offset; slot_names = slot_names }

table_is : (t : TableId) → t ≡ table_of t.words t.slots t.views_name t.atom t.block t.offset t.slot_names
unfolding table_of
table_is t = refl

numbers_same : (s t : TableId) (xs ys : List ℕ) → numbers_of s ++ xs ≡ numbers_of t ++ ys → (s ≡ t) × (xs ≡ ys)
numbers_same s t xs ys e =
    let words : s.words ≡ t.words = cc in
    let slots : s.slots ≡ t.slots = cc in
    let views : s.views_name ≡ t.views_name = cc in
    let atom : s.atom ≡ t.atom = cc in
    let block : s.block ≡ t.block = cc in
    let offset : s.offset ≡ t.offset = cc in
    let long : length s.slot_names ≡ length t.slot_names = cc in
    let names : s.slot_names ++ xs ≡ t.slot_names ++ ys = cc in
    let two = append_same s.slot_names t.slot_names xs ys long names in
    let slot_names : s.slot_names ≡ t.slot_names = two.0 in
    let same : table_of s.words s.slots s.views_name s.atom s.block s.offset s.slot_names ≡ table_of t.words t.slots t.views_name t.atom t.block t.offset t.slot_names
    = rw (words, slots, views, atom, block, offset, slot_names) refl in
    (table_is s ∙ same ∙ sym (table_is t), two.1)

-- tables of one name are one
pub same_tables : (desk other : SixLocked) (books : SixKnown) → names_of desk ≡ names_of other → AreOf desk books → AreOf other books
same_tables desk other books e of =
    let a = numbers_same desk.send_a.table other.send_a.table _ _ e in
    let b = numbers_same desk.send_b.table other.send_b.table _ _ a.1 in
    let c = numbers_same desk.reassembly_a.table other.reassembly_a.table _ _ b.1 in
    let d = numbers_same desk.reassembly_b.table other.reassembly_b.table _ _ c.1 in
    let f = numbers_same desk.control_a.table other.control_a.table _ _ d.1 in
    let g = numbers_same desk.control_b.table other.control_b.table _ _ f.1 in
    record {
      send_a = of.send_a ∙ a.0;
      send_b = of.send_b ∙ b.0;
      reassembly_a = of.reassembly_a ∙ c.0;
      reassembly_b = of.reassembly_b ∙ d.0;
      control_a = of.control_a ∙ f.0;
      control_b = of.control_b ∙ g.0;
    }

-- ---- parts

pub some_left : (out : List Bool) (actor : ℕ) (s : Seats) → length out ≡ 256 → actor < 256 → is_out out actor ≡ false → AreLeft out s → EachHas 2 s
some_left out actor s long within home left =
    let room = many-room out actor (omega (arith, long, within)) home in
    record {
      send_a = omega (arith, room, long, left.send_a);
      send_b = omega (arith, room, long, left.send_b);
      reassembly_a = omega (arith, room, long, left.reassembly_a);
      reassembly_b = omega (arith, room, long, left.reassembly_b);
      control_a = omega (arith, room, long, left.control_a);
      control_b = omega (arith, room, long, left.control_b);
    }

pub one_left : (out : List Bool) (s : Seats) → length out ≡ 256 → AreLeft out s → EachHas 1 s
one_left out s long left =
    let most = many-most out in
    record {
      send_a = omega (arith, most, long, left.send_a);
      send_b = omega (arith, most, long, left.send_b);
      reassembly_a = omega (arith, most, long, left.reassembly_a);
      reassembly_b = omega (arith, most, long, left.reassembly_b);
      control_a = omega (arith, most, long, left.control_a);
      control_b = omega (arith, most, long, left.control_b);
    }

pub all_left : (out : List Bool) (s : Seats) → ((actor : ℕ) → is_out out actor ≡ false) → AreLeft out s → EachHas 1024 s
all_left out s home left =
    let none = many-none out home in
    record {
      send_a = omega (arith, none, left.send_a);
      send_b = omega (arith, none, left.send_b);
      reassembly_a = omega (arith, none, left.reassembly_a);
      reassembly_b = omega (arith, none, left.reassembly_b);
      control_a = omega (arith, none, left.control_a);
      control_b = omega (arith, none, left.control_b);
    }

pub left_split : (out : List Bool) (actor : ℕ) (s : Seats) → length out ≡ 256 → actor < 256 → is_out out actor ≡ false → AreLeft out s
    → AreLeft (slice_set out actor true) (one_part_less s)
left_split out actor s long within home left =
    let more = many-out out actor (omega (arith, long, within)) home in
    let room = many-room out actor (omega (arith, long, within)) home in
    record {
      send_a = omega (arith, more, room, long, left.send_a);
      send_b = omega (arith, more, room, long, left.send_b);
      reassembly_a = omega (arith, more, room, long, left.reassembly_a);
      reassembly_b = omega (arith, more, room, long, left.reassembly_b);
      control_a = omega (arith, more, room, long, left.control_a);
      control_b = omega (arith, more, room, long, left.control_b);
    }

pub left_join : (out : List Bool) (actor : ℕ) (s t : Seats) → AreLeft out s → EachHas 1 t → AreLeft (slice_set out actor false) (both_seats s t)
left_join out actor s t left has =
    let fewer = many-back out actor in
    record {
      send_a = omega (arith, fewer, left.send_a, has.send_a);
      send_b = omega (arith, fewer, left.send_b, has.send_b);
      reassembly_a = omega (arith, fewer, left.reassembly_a, has.reassembly_a);
      reassembly_b = omega (arith, fewer, left.reassembly_b, has.reassembly_b);
      control_a = omega (arith, fewer, left.control_a, has.control_a);
      control_b = omega (arith, fewer, left.control_b, has.control_b);
    }
