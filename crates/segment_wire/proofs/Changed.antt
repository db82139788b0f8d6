-- What is left of options that are taken out can be carried.
use Rattle.std.proofs.Common.{◌≡◌, refl, ap, ◌∙◌, ℕ, zero, suc, ◌+◌, ◌-◌, ◌%◌, ◌≤◌, Bool, true, false, ◌&&◌, not, cond, leb, List, [], ◌∷◌, ◌++◌, length, take, map, filter, replicate, append_assoc, length-append, arith}
use Rattle.std.specs.List.{AllByRecursion}
use Rattle.std.proofs.lemmas.List.{length-take-le, length-replicate}
use Rattle.segment_wire.specs.Options.{are_whole, options_after, option_octets}
use Rattle.segment_wire.specs.Segment.{CanCarry}
use Rattle.segment_wire.specs.Changes.{packed, other_options, is_multipath}
use Rattle.segment_wire.proofs.Appended.{IsOption, are_whole-append}

abbrev octets_of : List (ℕ × List ℕ) → List (List ℕ)
octets_of options = map (λ o. o.1) options

-- what holds of options as they stand: each is one, and they are no longer than the octets behind the first ones
record Stands (left : ℕ) (xs : List ℕ) (options : List (List ℕ)) : Type 0 where
  all : AllByRecursion IsOption options
  fit : length (packed options) + left ≤ length xs

one_more : (kind len : ℕ) (rest : List ℕ) (b : Bool) (place : ℕ) (more : List (ℕ × List ℕ)) → b ≡ (leb 2 len && leb (len - 2) (length rest))
    → ((len - 2 ≤ length rest) → Stands (len - 2) rest (octets_of more))
    → Stands 0 (suc (suc kind) ∷ len ∷ rest) (octets_of (cond b ((place, suc (suc kind) ∷ len ∷ take (len - 2) rest) ∷ more) []))
one_more kind len rest false place more e h = record { all = tt; fit = omega arith }
one_more kind len rest true place more e h =
    let low : 2 ≤ len = grind (arith, e) in
    let within : len - 2 ≤ length rest = grind (arith, e) in
    let size : length (take (len - 2) rest) ≡ len - 2 = length-take-le (len - 2) rest within in
    let others = h within in
    record {
      all = (record { kind = omega arith; len = omega (arith, size, low); low = omega (arith, size) }, others.all);
      fit = omega (arith, size, others.fit, length-append (take (len - 2) rest) (packed (octets_of more)));
    }

options_stand : (place left : ℕ) (xs : List ℕ) → left ≤ length xs → Stands left xs (octets_of (options_after place left xs))
options_stand place zero [] within = record { all = tt; fit = omega arith }
options_stand place (suc left) [] within = absurd (omega arith)
options_stand place (suc left) (x ∷ xs) within =
    let others = options_stand (place + 1) left xs (omega arith) in
    record { all = others.all; fit = omega (arith, others.fit) }
options_stand place zero (zero ∷ xs) within = record { all = tt; fit = omega arith }
options_stand place zero (suc zero ∷ xs) within =
    let others = options_stand (place + 1) zero xs (omega arith) in
    record { all = others.all; fit = omega (arith, others.fit) }
options_stand place zero (suc (suc kind) ∷ []) within = record { all = tt; fit = omega arith }
options_stand place zero (suc (suc kind) ∷ len ∷ xs) within =
    one_more kind len xs _ place (options_after (place + 2) (len - 2) xs) refl (λ fits. options_stand (place + 2) (len - 2) xs fits)

-- fewer options are options too, and no longer
record Fewer (whole options : List (List ℕ)) : Type 0 where
  all : AllByRecursion IsOption options
  fit : length (packed options) ≤ length (packed whole)

fewer_more : (b : Bool) (option : List ℕ) (whole options : List (List ℕ)) → IsOption option → Fewer whole options → Fewer (option ∷ whole) (cond b (option ∷ options) options)
fewer_more true option whole options is h = record {
  all = (is, h.all);
  fit = omega (arith, h.fit, length-append option (packed options), length-append option (packed whole));
}
fewer_more false option whole options is h = record { all = h.all; fit = omega (arith, h.fit, length-append option (packed whole)) }

fewer : (test : List ℕ → Bool) (options : List (List ℕ)) → AllByRecursion IsOption options → Fewer options (filter test options)
fewer test [] all = record { all = tt; fit = omega arith }
fewer test (option ∷ options) all = fewer_more (test option) option options (filter test options) all.0 (fewer test options all.1)

-- zeros end the options
zeros_are_whole : (n : ℕ) → are_whole (replicate n 0) ≡ true
zeros_are_whole zero = refl
zeros_are_whole (suc n) = refl

packed_are_whole : (n : ℕ) (options : List (List ℕ)) → AllByRecursion IsOption options → are_whole (packed options ++ replicate n 0) ≡ true
packed_are_whole n [] all = zeros_are_whole n
packed_are_whole n (option ∷ options) all =
    ap are_whole (append_assoc option (packed options) (replicate n 0))
    ∙ are_whole-append option (packed options ++ replicate n 0) all.0
    ∙ packed_are_whole n options all.1

pub others_can_be_carried : (options payload : List ℕ) → CanCarry options payload → CanCarry (other_options options) payload
others_can_be_carried options payload can =
    let stand = options_stand 0 0 options (omega arith) in
    let kept = fewer (λ option. not (is_multipath option)) (option_octets options) stand.all in
    let those = filter (λ option. not (is_multipath option)) (option_octets options) in
    let missing = (4 - length (packed those) % 4) % 4 in
    let size : length (other_options options) ≡ length (packed those) + missing = length-append (packed those) (replicate missing 0) ∙ ap (λ n. length (packed those) + n) (length-replicate missing 0) in
    record {
      room = omega (arith, size, kept.fit, stand.fit, can.room, can.padded);
      padded = omega (arith, size);
      whole = packed_are_whole missing those kept.all;
      fits = omega (arith, size, kept.fit, stand.fit, can.fits, can.padded);
    }
