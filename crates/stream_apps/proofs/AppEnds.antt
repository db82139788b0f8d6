-- A turn of an application ends: its agenda gets shorter, or more was read, and it reads only until it has enough.
use Rattle.std.proofs.Common.{◌≡◌, refl, sym, ap, subst, ℕ, ◌+◌, ◌-◌, ◌<◌, ◌≤◌, ◌&&◌, not, Bool, true, false, if◌then◌else◌, List, [], ◌∷◌, length, arith}
use Rattle.std.proofs.lemmas.Bool.{ltb-true}
use Rattle.actor_desk.specs.declared.ask.Reply.{Reply}
use Rattle.stream_apps.specs.declared.duty.AppDuty.{AppDuty}
use Rattle.stream_apps.specs.declared.duty.AppDuty.TheVariants.{FastClose, AbortSend, AbortReceive, Write, Close, Read, End}
use Rattle.stream_apps.specs.Apps.{AppState}
use Rattle.stream_apps.specs.AppSteps.{app_stands, app_ask, app_left, app_answered, app_answers, app_settled, app_settles_down, app_asks_first, app_reads_on, bytes_in}
use Rattle.stream_apps.specs.Turns.{AppEnds, FirstAppStands, IsAppSettled, EveryAppTurnEnds}
use Rattle.actor_desk.specs.Words.{is_nil}
use Rattle.actor_desk.proofs.Falling.{Ending, Then, Less, less-ends, then-ends}

-- what is still to be done, and what may still be read
abbrev duties_of : AppState → ℕ
duties_of a = length a.agenda

abbrev unread : AppState → ℕ
unread a = a.buffer - a.count

abbrev Lower : AppState → AppState → Type 0
Lower = Then duties_of (Less unread)

lower-ends : (a : AppState) → Ending Lower a
lower-ends = then-ends duties_of _ (less-ends unread)

-- ---- a reply

some_bytes : (bytes : List ℕ) → not (is_nil bytes) ≡ true → 1 ≤ length bytes
some_bytes [] some = cc
some_bytes (byte ∷ bytes) some = omega arith

read_lower : (reads_on told : Bool) (count : ℕ) (ds : List AppDuty) (a : AppState) → a.agenda ≡ Read ∷ ds → (reads_on ≡ true → (a.count < count) × (a.count < a.buffer))
    → Lower (record a { count = count; told = told; agenda = (if reads_on then a.agenda else app_left a) }) a
read_lower true told count ds a is more = let less = more refl in Then.Stays (omega arith) (omega (arith, less.0, less.1))
read_lower false told count ds a is more = Then.Falls (rw is (omega arith))

and_both : (x y : Bool) → (x && y) ≡ true → (x ≡ true) × (y ≡ true)
and_both true y both = (refl, both)
and_both false y both = cc

answered_lower : (d : AppDuty) (ds : List AppDuty) (r : Reply) (a : AppState) → a.agenda ≡ d ∷ ds → Lower (app_answered d r a) a
answered_lower FastClose ds r a is = Then.Falls (rw is (omega arith))
answered_lower AbortSend ds r a is = Then.Falls (rw is (omega arith))
answered_lower AbortReceive ds r a is = Then.Falls (rw is (omega arith))
answered_lower Write ds r a is = Then.Falls (rw is (omega arith))
answered_lower Close ds r a is = Then.Falls (rw is (omega arith))
answered_lower Read ds r a is =
    read_lower (app_reads_on (bytes_in r) a) _ (a.count + length (bytes_in r)) ds a is (λ on.
    let both = and_both (not (is_nil (bytes_in r))) _ on in
    let some = some_bytes (bytes_in r) both.0 in
    let few = ltb-true _ _ both.1 in
    (omega (arith, some), omega (arith, few)))
answered_lower End ds r a is = Then.Falls (rw is (omega arith))

-- ---- settling

settled_lower : (ds : List AppDuty) (a : AppState)
    → (length (app_settled ds a).agenda ≤ length ds) × (((app_settled ds a).count ≡ a.count) × ((app_settled ds a).buffer ≡ a.buffer))
settled_lower [] a = (omega arith, (refl, refl))
settled_lower (d ∷ ds) a = by (app_stands d a) (settled_lower ds a)
  where
    by : (b : Bool) → (length (app_settled ds a).agenda ≤ length ds) × (((app_settled ds a).count ≡ a.count) × ((app_settled ds a).buffer ≡ a.buffer))
        → (length (if b then record a { agenda = d ∷ ds } else app_settled ds a).agenda ≤ length (d ∷ ds))
        × (((if b then record a { agenda = d ∷ ds } else app_settled ds a).count ≡ a.count) × ((if b then record a { agenda = d ∷ ds } else app_settled ds a).buffer ≡ a.buffer))
    by true rest = (omega arith, (refl, refl))
    by false rest = (omega (arith, rest.0), rest.1)

settles_lower : (m a : AppState) → Lower m a → Lower (app_settles_down m) a
settles_lower m a lower = by (settled_lower m.agenda m) lower
  where
    by : (length (app_settles_down m).agenda ≤ length m.agenda) × (((app_settles_down m).count ≡ m.count) × ((app_settles_down m).buffer ≡ m.buffer))
        → Lower m a → Lower (app_settles_down m) a
    by same (Then.Falls less) = Then.Falls (omega (arith, same.0, less))
    by same (Then.Stays most less) = Then.Stays (omega (arith, same.0, most)) (omega (arith, same.1.0, same.1.1, less))

same_stands : (d : AppDuty) (ds : List AppDuty) (a : AppState) → app_stands d a ≡ true → app_stands d (record a { agenda = d ∷ ds }) ≡ true
same_stands FastClose ds a is = is
same_stands _ ds a is = is

settled_settled : (ds : List AppDuty) (a : AppState) → IsAppSettled (app_settled ds a)
settled_settled [] a = tt
settled_settled (d ∷ ds) a = (elim (app_stands d a) as (λ b. app_stands d a ≡ b → IsAppSettled (app_settled ds a) → IsAppSettled (if b then record a { agenda = d ∷ ds } else app_settled ds a))
    [ true ↦ λ is rest. same_stands d ds a is | false ↦ λ is rest. rest ]) refl (settled_settled ds a)

-- ---- the turn

by_agenda : (a : AppState) → ((m : AppState) → Lower m a → IsAppSettled m → AppEnds m) → (ds : List AppDuty) → a.agenda ≡ ds → FirstAppStands ds a → AppEnds a
by_agenda a next [] is first = AppEnds.Over a is
by_agenda a next (d ∷ ds) is first =
    AppEnds.Asks a (app_ask d a) (ap (λ xs. app_asks_first xs a) is)
    (λ r kind. subst (λ xs. AppEnds (app_settles_down (app_answers xs r a))) (sym is)
    (next (app_settles_down (app_answered d r a)) (settles_lower (app_answered d r a) a (answered_lower d ds r a is))
    (settled_settled (app_answered d r a).agenda (app_answered d r a))))

ends_below : (a : AppState) → Ending Lower a → IsAppSettled a → AppEnds a
ends_below a (Ending.intro _ rest) first = by_agenda a (λ m lower first. ends_below m (rest m lower) first) a.agenda refl first

pub app_turn_ends : EveryAppTurnEnds
app_turn_ends a first = ends_below a (lower-ends a) first
