-- How the logic stores a call that was made.
use Rattle.std.specs.Prelude.{◌≡◌, ℕ, ◌==◌, Bool, List, cond, refl}
use Rattle.std.specs.Coded.{Coded, code_by, coded×, coded_ℕ, coded_bool, coded_list}
use mathlib.Core.Path.{ap}
use Rattle.outside_kit.specs.declared.port.Port.TheVariants.{ReadByA, ReadByB, Log}
use Rattle.outside_kit.specs.Calls.{Call, Made, Load, Bind, Put}

-- a call's kind and port, as one number
abbrev kind_of : Call → ℕ
kind_of (Load name) = 0
kind_of (Bind ReadByA name) = 1
kind_of (Bind ReadByB name) = 2
kind_of (Bind Log name) = 3
kind_of (Put ReadByA piece) = 4
kind_of (Put ReadByB piece) = 5
kind_of (Put Log piece) = 6

-- a call's name or piece
abbrev text_of : Call → List ℕ
text_of (Load name) = name
text_of (Bind port name) = name
text_of (Put port piece) = piece

abbrev call_from : ℕ → List ℕ → Call
call_from kind text = cond (kind == 0) (Load text) (cond (kind == 1) (Bind ReadByA text) (cond (kind == 2) (Bind ReadByB text) (cond (kind == 3) (Bind Log text)
    (cond (kind == 4) (Put ReadByA text) (cond (kind == 5) (Put ReadByB text) (Put Log text))))))

call_again : (call : Call) → call_from (kind_of call) (text_of call) ≡ call
call_again (Load name) = refl
call_again (Bind ReadByA name) = refl
call_again (Bind ReadByB name) = refl
call_again (Bind Log name) = refl
call_again (Put ReadByA piece) = refl
call_again (Put ReadByB piece) = refl
call_again (Put Log piece) = refl

abbrev Parts : Type 0
Parts = ℕ × (List ℕ × Bool)

abbrev to_parts : Made → Parts
to_parts made = (kind_of made.call, (text_of made.call, made.ok))

abbrev from_parts : Parts → Made
from_parts parts = record { call = call_from parts.0 parts.1.0; ok = parts.1.1 }

pub made_again : (made : Made) → from_parts (to_parts made) ≡ made
made_again made = ap (λ (call : Call). record { call = call; ok = made.ok }) (call_again made.call)

abbrev pub made_code : Coded (List Made)
made_code = coded_list (code_by Parts (coded× coded_ℕ (coded× (coded_list coded_ℕ) coded_bool)) to_parts from_parts made_again)
