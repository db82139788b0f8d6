-- The rules of the line form as `clap` fills them in.
use Rattle.std.proofs.Common.{◌≡◌, ℕ, ◌+◌, ◌==◌, zero, suc, Bool, true, false, cond, ◌||◌, refl, sym, ap, subst, List, [], ◌∷◌, Option, Some, None, min, true≢false, codes, arith, inl, inr}
use Rattle.std.specs.Prelude.{◌<◌}
use Rattle.std.proofs.lemmas.Bool.Decides.{eqb_tells}
use Rattle.std.specs.List.{position_or_len, list_any, fold, before_first, after_first}
use Rattle.std.specs.Str.{bytes_eq, chars, IsUtf8}
use Rattle.std.specs.Char.{encode_utf8}
use Rattle.std.specs.Prelude.{option_map}
use Rattle.clap.specs.Words.{Rule, Text}
use Rattle.clap.specs.Lexer.{usize_max}
use Rattle.clap.specs.Walk.{arg_by_id, arg_by_index, arg_by_long}
use Rattle.clap.specs.Simple.{Shape, built}
use Rattle.clap.specs.declared.builder.action.ArgAction.TheVariants.{Set}
use Rattle.clap.specs.declared.builder.value_parser.ValueParser.{ValueParser}
use Rattle.run_words.specs.Parts.{Choice, mode_option, rounds_option, order_option, number_option, label, choice_of}
use Rattle.run_words.specs.Form.{line_form}

-- ---- the rules of the form

abbrev pub plain : Text → Option Text → Option ℕ → Rule
plain id long index = record {
  id = id;
  long = long;
  aliases = [];
  short = None;
  short_aliases = [];
  index = index;
  action = Some Set;
  range = Some (record { start_inclusive = 1; end_inclusive = 1 });
  value_names = 0;
  defaults = [];
  missing = [];
  trailing_var_arg = false;
  parser = Some ValueParser.String;
  ignore_case = false;
  required = false;
  is_simple = true;
  is_free = true;
}

abbrev pub chosen : Choice → Rule
chosen choice = plain (label choice) (Some (label choice)) None

-- the id of the name at a position, counted from 1
abbrev pub name_id : ℕ → Option Text
name_id (suc zero) = Some (codes "script")
name_id (suc (suc zero)) = Some (codes "file_a")
name_id (suc (suc (suc zero))) = Some (codes "file_b")
name_id (suc (suc (suc (suc zero)))) = Some (codes "read_by_b")
name_id (suc (suc (suc (suc (suc zero))))) = Some (codes "read_by_a")
name_id position = None

abbrev pub named : ℕ → Text → Rule
named position id = plain id None (Some position)

abbrev pub form_rules : List Rule
form_rules = chosen mode_option ∷ chosen rounds_option ∷ chosen order_option ∷ chosen number_option
    ∷ named 1 (codes "script") ∷ named 2 (codes "file_a") ∷ named 3 (codes "file_b") ∷ named 4 (codes "read_by_b") ∷ named 5 (codes "read_by_a") ∷ []

abbrev pub shape : Shape
shape = (built line_form).top

pub by_choice : (choice : Choice) → arg_by_id form_rules (label choice) ≡ Some (chosen choice)
by_choice mode_option = refl
by_choice rounds_option = refl
by_choice order_option = refl
by_choice number_option = refl

-- the first rule with this long name
pub by_long : (n : Text) → arg_by_long form_rules n ≡ option_map chosen (choice_of (45 ∷ 45 ∷ n))
by_long n = go (bytes_eq (codes "mode") n) (bytes_eq (codes "rounds") n) (bytes_eq (codes "order") n) (bytes_eq (codes "number") n)
  where
    go : (a b d e : Bool) → cond (a || false) (Some (chosen mode_option)) (cond (b || false) (Some (chosen rounds_option)) (cond (d || false) (Some (chosen order_option))
        (cond (e || false) (Some (chosen number_option)) None)))
        ≡ option_map chosen (cond a (Some mode_option) (cond b (Some rounds_option) (cond d (Some order_option) (cond e (Some number_option) None))))
    go true b d e = refl
    go false true d e = refl
    go false false true e = refl
    go false false false true = refl
    go false false false false = refl

-- what a position's name goes to
pub record IsNamed (position : ℕ) (id : Text) : Type 0 where
  pub by_id : arg_by_id form_rules id ≡ Some (named position id)
  pub by_index : arg_by_index form_rules position ≡ Some (named position id)
  pub next : min (position + 1) usize_max ≡ suc position

pub some≢none : {X : Type 0} (x : X) → None ≡ Some x → ⊥
some≢none x e = true≢false (ap (λ o. Rattle.std.specs.Option.is_some o) (sym e))

pub taken : {X : Type 0} {x y : X} → Some x ≡ Some y → x ≡ y
taken {X} {x} e = ap (λ o. Rattle.std.specs.Option.unwrap_or o x) e

pub is_named : (position : ℕ) (id : Text) → name_id position ≡ Some id → IsNamed position id
is_named zero id e = absurd (some≢none id e)
is_named (suc zero) id e = subst (IsNamed 1) (taken e) (record { by_id = refl; by_index = refl; next = refl })
is_named (suc (suc zero)) id e = subst (IsNamed 2) (taken e) (record { by_id = refl; by_index = refl; next = refl })
is_named (suc (suc (suc zero))) id e = subst (IsNamed 3) (taken e) (record { by_id = refl; by_index = refl; next = refl })
is_named (suc (suc (suc (suc zero)))) id e = subst (IsNamed 4) (taken e) (record { by_id = refl; by_index = refl; next = refl })
is_named (suc (suc (suc (suc (suc zero))))) id e = subst (IsNamed 5) (taken e) (record { by_id = refl; by_index = refl; next = refl })
is_named (suc (suc (suc (suc (suc (suc n)))))) id e = absurd (some≢none id e)

pub differs : (a b : ℕ) → a < b → (a == b) ≡ false
differs a b h = elim (eqb_tells a b) [ inl e ↦ absurd (let same = e.1 in omega arith) | inr e ↦ e.0 ]

-- at no other position is a name
pub no_name : (position : ℕ) → name_id position ≡ None → arg_by_index form_rules position ≡ None
no_name zero e = refl
no_name (suc zero) e = absurd (some≢none _ (sym e))
no_name (suc (suc zero)) e = absurd (some≢none _ (sym e))
no_name (suc (suc (suc zero))) e = absurd (some≢none _ (sym e))
no_name (suc (suc (suc (suc zero)))) e = absurd (some≢none _ (sym e))
no_name (suc (suc (suc (suc (suc zero))))) e = absurd (some≢none _ (sym e))
no_name (suc (suc (suc (suc (suc (suc n)))))) e =
    let q = suc (suc (suc (suc (suc (suc n))))) in
    let one : (1 == q) ≡ false = differs 1 q (omega arith) in
    let two : (2 == q) ≡ false = differs 2 q (omega arith) in
    let three : (3 == q) ≡ false = differs 3 q (omega arith) in
    let four : (4 == q) ≡ false = differs 4 q (omega arith) in
    let five : (5 == q) ≡ false = differs 5 q (omega arith) in
    rw (one, two, three, four, five) refl
