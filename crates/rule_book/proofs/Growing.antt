-- Lists of books and lanes: one that grows by one where it is too short, and one item of it that changes.
use Rattle.std.proofs.Common.{◌≡◌, refl, ap, ◌∙◌, sym, ℕ, suc, ◌<◌, ◌≤◌, Bool, true, false, ◌||◌, if◌then◌else◌, nat_lt, Some, None, option_map, List, [], ◌∷◌, ◌++◌, map, length, get_or}
use Rattle.std.proofs.lemmas.Option.{slice_get-get_or, slice_get-map, slice_get_past}
use Rattle.std.specs.List.{list_any, slice_get}
use Rattle.mptcp_options.specs.declared.option.MpOption.{MpOption}
use Rattle.mptcp_options.specs.Value.{OptionValue, value_of}
use Rattle.seen_connections.specs.declared.connections.Keys.{Keys}
use Rattle.seen_connections.specs.Connections.{SeenFlows}
use Rattle.seen_streams.specs.State.{StreamValue}
use Rattle.rule_book.specs.Signals.{KeyedValue, kept_option}
use Rattle.rule_book.specs.State.{BookValue, JudgedValue, LanesValue}
use Rattle.rule_book.specs.Judged.{empty_book, empty_lanes, grown, grown_to}

map_push : {X Y : Type 0} → (f : X → Y) (items : List X) (x : X) → map f (items ++ x ∷ []) ≡ map f items ++ f x ∷ []
map_push f [] x = refl
map_push f (item ∷ items) x = ap (λ rest. f item ∷ rest) (map_push f items x)

length_map : {X Y : Type 0} → (f : X → Y) (items : List X) → length (map f items) ≡ length items
length_map f [] = refl
length_map f (item ∷ items) = ap suc (length_map f items)

pub one_more : {X Y : Type 0} → (f : X → Y) (count : ℕ) (one : Y) (old new : List X) (x : X) → nat_lt (length old) count ≡ true → f x ≡ one
    → new ≡ old ++ x ∷ [] → map f new ≡ grown_to count one (map f old)
one_more f count one old new x few is e =
    ap (map f) e ∙ map_push f old x ∙ ap (λ y. map f old ++ y ∷ []) is
    ∙ sym (ap (λ n. if nat_lt n count then map f old ++ one ∷ [] else map f old) (length_map f old)
    ∙ ap (λ b. if b then map f old ++ one ∷ [] else map f old) few)

pub enough : {X Y : Type 0} → (f : X → Y) (count : ℕ) (one : Y) (old : List X) → nat_lt (length old) count ≡ false
    → map f old ≡ grown_to count one (map f old)
enough f count one old many =
    sym (ap (λ n. if nat_lt n count then map f old ++ one ∷ [] else map f old) (length_map f old)
    ∙ ap (λ b. if b then map f old ++ one ∷ [] else map f old) many)

-- ---- one item

pub item_is : {X Y : Type 0} → (f : X → Y) (items : List X) (i : ℕ) (x default : X) → i < length items → x ≡ get_or items i default
    → slice_get (map f items) i ≡ Some (f x)
item_is f items i x default within is =
    slice_get-map f items i ∙ ap (option_map f) (slice_get-get_or items i default within) ∙ ap (λ y. Some (f y)) (sym is)

pub none_there : {X Y : Type 0} → (f : X → Y) (items : List X) (i : ℕ) → length items ≤ i → slice_get (map f items) i ≡ None
none_there f items i past = slice_get-map f items i ∙ ap (option_map f) (slice_get_past items i past)

pub grown_by : (seen : SeenFlows) (old : JudgedValue) (books : List BookValue) (lanes : List LanesValue) (connections flows : ℕ)
    → connections ≡ length seen.connections → flows ≡ length seen.flows → books ≡ grown_to connections empty_book old.books
    → lanes ≡ grown_to flows empty_lanes old.lanes → record { seen = seen; books = books; lanes = lanes } ≡ grown seen old
grown_by seen old books lanes connections flows c f b l =
    ap (λ (bs : List BookValue). made seen bs lanes) (b ∙ ap (λ (n : ℕ). grown_to n empty_book old.books) c)
    ∙ ap (made seen (grown_to (length seen.connections) empty_book old.books)) (l ∙ ap (λ (n : ℕ). grown_to n empty_lanes old.lanes) f)
  where
    made : SeenFlows → List BookValue → List LanesValue → JudgedValue
    made seen books lanes = record { seen = seen; books = books; lanes = lanes }

-- ---- an option more
pub option_kept : (old new : List MpOption) (option : MpOption) (keys : Keys) (stream : StreamValue) → new ≡ old ++ option ∷ []
    → record { options = map value_of new; keys = keys; stream = stream }
    ≡ kept_option (value_of option) (record { options = map value_of old; keys = keys; stream = stream })
option_kept old new option keys stream is =
    ap (λ (options : List OptionValue). let made : KeyedValue = record { options = options; keys = keys; stream = stream } in made)
    (ap (map value_of) is ∙ map_push value_of old option)

-- ---- a test of what options mean
pub any_value : (test : OptionValue → Bool) (options : List MpOption) → list_any (λ option. test (value_of option)) options ≡ list_any test (map value_of options)
any_value test [] = refl
any_value test (option ∷ options) = ap (λ (b : Bool). test (value_of option) || b) (any_value test options)
