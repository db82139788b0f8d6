-- The copy that is first on its way arrives: the tick of it, and both lanes at that tick.
use Rattle.clean_finish.proofs.Words.{◌≡◌, refl, sym, subst, ap, ◌∙◌, ℕ, ◌+◌, ◌≤◌, max, Bool, true, false, if◌then◌else◌, Option, None, List, [], ◌∷◌, ◌++◌}
use Rattle.clean_finish.proofs.Words.{map, arith, AllByRecursion, Side, A, B, same_side, Flight, going_to, WereSentBefore, next_number, LinkState, earliest}
use Rattle.clean_finish.proofs.Words.{Profile, Carried, Setting, Copy, Sender, Receiver, first_at, Timed, Hand, WayIs, brings_in, tells_in, Sent, Keys, copy_in}
use Rattle.clean_finish.proofs.Words.{FliesAs, FlyAs, LinkIs}
use Rattle.link_model.specs.Order.{AreInOrder}
use Rattle.clean_finish.proofs.Waited.{some_late}

abbrev pub AreFrom : ℕ → List (Flight Carried) → Type 0
AreFrom tick flights = AllByRecursion (λ (f : Flight Carried). tick ≤ f.tick) flights

copies_from : (c : Profile) (keys : Keys) (from : Side) (tick until : ℕ) (flights : List (Flight Carried)) (sent : List Sent)
    → FlyAs c keys from flights sent → AreFrom tick flights → tick ≤ until → tick ≤ first_at until (map copy_in sent)
copies_from c keys from tick until [] [] fly all low = low
copies_from c keys from tick until (f ∷ fs) (x ∷ xs) fly all low = subst (λ (n : ℕ). tick ≤ n) fly.0.tick all.0
copies_from c keys from tick until [] (x ∷ xs) fly all low = absurd fly
copies_from c keys from tick until (f ∷ fs) [] fly all low = absurd fly

-- nothing on its way from a side comes before a tick from which on all arrive
pub way_from : (c : Profile) (keys : Keys) (j k : Setting) (from : Side) (out : Sender) (other : Receiver) (datas acks : List Copy) (hand : Option Hand)
    (una edge tick until : ℕ) (flying : List (Flight Carried)) → WayIs c keys j k from out other datas acks hand una edge flying → hand ≡ None
    → AreFrom tick flying → tick ≤ until → (tick ≤ first_at until datas) × (tick ≤ first_at until acks)
way_from c keys j k from out other datas acks hand una edge tick until flying w none all low = (
  subst (λ (xs : List Copy). tick ≤ first_at until xs)
      (sym (w.datas_are ∙ ap (λ (o : Option Hand). map copy_in (brings_in o ++ w.sent)) none))
      (copies_from c keys from tick until flying w.sent w.flights all low),
  subst (λ (xs : List Copy). tick ≤ first_at until xs)
      (sym (w.acks_are ∙ ap (λ (o : Option Hand). map copy_in (tells_in o ++ w.sent)) none))
      (copies_from c keys from tick until flying w.sent w.flights all low),
)

-- the first one is a segment
pub record FirstSent (c : Profile) (keys : Keys) (from : Side) (f : Flight Carried) (fs : List (Flight Carried)) (sent : List Sent) : Type 0 where
  pub x : Sent
  pub xs : List Sent
  pub is : sent ≡ x ∷ xs
  pub flies : FliesAs c keys from f x

pub first_sent : (c : Profile) (keys : Keys) (from : Side) (f : Flight Carried) (fs : List (Flight Carried)) (sent : List Sent)
    → FlyAs c keys from (f ∷ fs) sent → FirstSent c keys from f fs sent
first_sent c keys from f fs [] fly = absurd fly
first_sent c keys from f fs (x ∷ xs) fly = record { x = x; xs = xs; is = refl; flies = fly.0 }

-- its tick isn't past
pub first_later : (clock delay : ℕ) (datas : List Copy) (x : Sent) (xs : List Sent) → datas ≡ map copy_in (x ∷ xs)
    → Timed clock datas delay → clock ≤ x.at
first_later clock delay datas x xs is timed = (subst (λ (cs : List Copy). Timed clock cs delay) is timed).0

all_from : (low tick : ℕ) (flights : List (Flight Carried)) → low ≤ tick → AreFrom tick flights → AreFrom low flights
all_from low tick [] less all = tt
all_from low tick (f ∷ flights) less all = (up less all.0, all_from low tick flights less all.1)
  where
    up : {x y z : ℕ} → x ≤ y → y ≤ z → x ≤ z
    up a b = omega (arith, a, b)

-- all arrive from its tick on
pub from_first : (clock : ℕ) (f : Flight Carried) (others : List (Flight Carried)) → AreInOrder (f ∷ others) → clock ≤ f.tick
    → AreFrom (max clock f.tick) (f ∷ others)
from_first clock f others order low = all_from (max clock f.tick) f.tick (f ∷ others) (most low) (earliest (f ∷ others) order)
  where
    most : {x y : ℕ} → x ≤ y → max x y ≤ y
    most less = omega (arith, less)

pub going_from : (tick : ℕ) (to : Side) (flights : List (Flight Carried)) → AreFrom tick flights → AreFrom tick (going_to to flights)
going_from tick to flights all = some_late tick to flights all

-- ---- the link without it

pub later : (number low high : ℕ) (flights : List (Flight Carried)) → low ≤ high → WereSentBefore number low flights → WereSentBefore number high flights
later number low high [] less all = tt
later number low high (f ∷ flights) less all = ((up all.0.0 less, all.0.1), later number low high flights less all.1)
  where
    up : {x y z : ℕ} → x ≤ y → y ≤ z → x ≤ z
    up a b = omega (arith, a, b)

without_first : (number low : ℕ) (to : Side) (f : Flight Carried) (others : List (Flight Carried)) → WereSentBefore number low (going_to to (f ∷ others))
    → WereSentBefore number low (going_to to others)
without_first number low to f others all = by (same_side f.to to) all
  where
    by : (b : Bool) → WereSentBefore number low (if b then f ∷ going_to to others else going_to to others) → WereSentBefore number low (going_to to others)
    by true is = is.1
    by false is = is

pub link_arrived : (clock tick : ℕ) (link : LinkState Carried) (f : Flight Carried) (others : List (Flight Carried)) → link.under_way ≡ f ∷ others
    → LinkIs clock link → LinkIs (max clock tick) (record link { under_way = others })
link_arrived clock tick link f others first is = record {
  order = (subst AreInOrder first is.order).1;
  from_a = later (next_number A link) (clock + link.delay) (max clock tick + link.delay) (going_to B others) (plus clock tick link.delay)
      (without_first (next_number A link) (clock + link.delay) B f others
      (subst (λ (fs : List (Flight Carried)). WereSentBefore (next_number A link) (clock + link.delay) (going_to B fs)) first is.from_a));
  from_b = later (next_number B link) (clock + link.delay) (max clock tick + link.delay) (going_to A others) (plus clock tick link.delay)
      (without_first (next_number B link) (clock + link.delay) A f others
      (subst (λ (fs : List (Flight Carried)). WereSentBefore (next_number B link) (clock + link.delay) (going_to A fs)) first is.from_b));
}
  where
    plus : (x y z : ℕ) → x + z ≤ max x y + z
    plus x y z = omega arith
