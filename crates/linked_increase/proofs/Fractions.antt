-- Fractions compared by multiplying crosswise are ordered as numbers are.
use Rattle.std.proofs.Common.{◌≡◌, ◌*◌, ◌<◌, ◌≤◌, Bool, true, false, nat_lt, refl, arith}
use Rattle.std.proofs.lemmas.Bool.Decides.{nat_tests}
use Rattle.std.proofs.Math.Nat.{mul-le-mul_right, le_of_mul-le-mul_right, div-mul-le_self, le-div_iff_mul-le}
use Rattle.std.specs.Prelude.{if◌then◌else◌}
use Rattle.linked_increase.specs.Fraction.{Fraction, IsAtMost, greater, lesser, floor_of}

pub IsAtMost-trans : (x y z : Fraction) → 0 < y.denominator → IsAtMost x y → IsAtMost y z → IsAtMost x z
IsAtMost-trans x y z some below above =
    let first = mul-le-mul_right z.denominator below in
    let second = mul-le-mul_right x.denominator above in
    le_of_mul-le-mul_right {k = y.denominator} (omega (arith, first, second)) some

pub floor_of-le : (x y : Fraction) → 0 < x.denominator → 0 < y.denominator → IsAtMost x y → floor_of x ≤ floor_of y
floor_of-le x y some_x some_y h =
    let least = mul-le-mul_right y.denominator (div-mul-le_self x.numerator x.denominator) in
    let fits : floor_of x * y.denominator ≤ y.numerator = le_of_mul-le-mul_right {k = x.denominator} (omega (arith, least, h)) some_x in
    (le-div_iff_mul-le some_y).1 fits

greater_by : (t : Bool) (x z y : Fraction) → IsAtMost x y → IsAtMost z y → IsAtMost (if t then z else x) y
greater_by true x z y hx hz = hz
greater_by false x z y hx hz = hx

pub greater-le : (x z y : Fraction) → IsAtMost x y → IsAtMost z y → IsAtMost (greater x z) y
greater-le x z y = greater_by (nat_lt (x.numerator * z.denominator) (z.numerator * x.denominator)) x z y

positive_by : (t : Bool) (x z : Fraction) → 0 < x.denominator → 0 < z.denominator → 0 < (if t then z else x).denominator
positive_by true x z hx hz = hz
positive_by false x z hx hz = hx

pub greater_positive : (x z : Fraction) → 0 < x.denominator → 0 < z.denominator → 0 < (greater x z).denominator
greater_positive x z = positive_by (nat_lt (x.numerator * z.denominator) (z.numerator * x.denominator)) x z

pub lesser_positive : (x z : Fraction) → 0 < x.denominator → 0 < z.denominator → 0 < (lesser x z).denominator
lesser_positive x z = positive_by (nat_lt (z.numerator * x.denominator) (x.numerator * z.denominator)) x z

-- the lesser of two is at most either
lesser_by : (t : Bool) (x z : Fraction) → nat_lt (z.numerator * x.denominator) (x.numerator * z.denominator) ≡ t
    → IsAtMost (if t then z else x) x × IsAtMost (if t then z else x) z
lesser_by true x z h = (grind (arith, nat_tests), omega arith)
lesser_by false x z h = (omega arith, grind (arith, nat_tests))

pub lesser-le_first : (x z : Fraction) → IsAtMost (lesser x z) x
lesser-le_first x z = (lesser_by (nat_lt (z.numerator * x.denominator) (x.numerator * z.denominator)) x z refl).0

pub lesser-le_second : (x z : Fraction) → IsAtMost (lesser x z) z
lesser-le_second x z = (lesser_by (nat_lt (z.numerator * x.denominator) (x.numerator * z.denominator)) x z refl).1
