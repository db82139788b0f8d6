-- A segment from its arrival on: it comes into the hand of an end, is taken by the lane of what it brings and by that of what
-- it acknowledges, and is done with.
use Rattle.clean_finish.proofs.Words.{◌≡◌, refl, sym, subst, ap, ◌∙◌, ℕ, ◌+◌, ◌≤◌, Bool, true, false, Option, None, List, [], ◌∷◌, ◌++◌, length, map, arith}
use Rattle.clean_finish.proofs.Words.{Some, Side, Flight, Profile, Carried, Setting, Copy, Sender, Receiver, Hand, WayIs, brings_in, tells_in, Sent, Keys}
use Rattle.clean_finish.proofs.Words.{copy_in, octets_of, Rise, edge_after, Follow, low_after, control_after, keys_after, FlyAs}

pub up : {x y z : ℕ} → x ≤ y → y ≤ z → x ≤ z
up a b = omega (arith, a, b)

pub rise_from : (low edge : ℕ) (xs : List Sent) → low ≤ edge → Rise edge xs → Rise low xs
rise_from low edge [] less all = tt
rise_from low edge (x ∷ xs) less all = (up less all.0, all.1)

pub passed_from : (low edge most : ℕ) (xs : List Sent) → low ≤ edge → edge_after edge xs ≤ most → edge_after low xs ≤ most
passed_from low edge most [] less all = up less all
passed_from low edge most (x ∷ xs) less all = all

abbrev pub in_hand : Sent → Bool → Bool → Option Hand
in_hand x brings tells = Some (record { sent = x; brings = brings; tells = tells })

module _ (c : Profile) (keys : Keys) (j k : Setting) (from : Side) (out : Sender) (other : Receiver) (datas acks : List Copy) (una edge : ℕ) where
  -- the first on its way arrives; what it acknowledges is acknowledged by the subflow at once
  abbrev pub way_arrives : (now : ℕ) (f : Flight Carried) (fs : List (Flight Carried)) (x : Sent) (xs : List Sent)
      (w : WayIs c keys j k from out other datas acks None una edge (f ∷ fs)) → w.sent ≡ x ∷ xs → now ≤ x.edge
      → WayIs c keys j k from out other datas acks (in_hand x true true) now edge fs
  way_arrives now f fs x xs w is low = record {
    sent = xs;
    flights = (subst (λ (ys : List Sent). FlyAs c keys from (f ∷ fs) ys) is w.flights).1;
    datas_are = w.datas_are ∙ ap (λ (ys : List Sent). map copy_in ys) is;
    acks_are = w.acks_are ∙ ap (λ (ys : List Sent). map copy_in ys) is;
    follow = subst (λ (ys : List Sent). Follow j.least j.total k.total from other.received other.control_came other.keys_came ys) is w.follow;
    low = ap (λ (ys : List Sent). low_after other.received ys) (sym is) ∙ w.low;
    control = ap (λ (ys : List Sent). control_after other.control_came ys) (sym is) ∙ w.control;
    keys_shown = ap (λ (ys : List Sent). keys_after other.keys_came ys) (sym is) ∙ w.keys_shown;
    rise = rise_from now x.edge xs low (subst (λ (ys : List Sent). Rise una ys) is w.rise).1;
    passed = passed_from now x.edge edge xs low (subst (λ (ys : List Sent). edge_after una ys ≤ edge) is w.passed);
  }

  -- nothing is in hand
  abbrev pub way_none : (hand : Option Hand) → hand ≡ None → (flying : List (Flight Carried))
      → WayIs c keys j k from out other datas acks hand una edge flying → WayIs c keys j k from out other datas acks None una edge flying
  way_none hand none flying w = record {
    sent = w.sent;
    flights = w.flights;
    datas_are = w.datas_are ∙ ap (λ (o : Option Hand). map copy_in (brings_in o ++ w.sent)) none;
    acks_are = w.acks_are ∙ ap (λ (o : Option Hand). map copy_in (tells_in o ++ w.sent)) none;
    follow = subst (λ (o : Option Hand). Follow j.least j.total k.total from other.received other.control_came other.keys_came (brings_in o ++ w.sent)) none w.follow;
    low = ap (λ (o : Option Hand). low_after other.received (brings_in o ++ w.sent)) (sym none) ∙ w.low;
    control = ap (λ (o : Option Hand). control_after other.control_came (brings_in o ++ w.sent)) (sym none) ∙ w.control;
    keys_shown = ap (λ (o : Option Hand). keys_after other.keys_came (brings_in o ++ w.sent)) (sym none) ∙ w.keys_shown;
    rise = w.rise;
    passed = w.passed;
  }

  -- its lane takes what it brings
  abbrev pub way_brought : (tells : Bool) (flying : List (Flight Carried)) (x : Sent) (later : Receiver)
      (w : WayIs c keys j k from out other datas acks (in_hand x true tells) una edge flying)
      → later.received ≡ other.received + length (octets_of x.brings) → later.control_came ≡ x.control → later.keys_came ≡ x.keys
      → WayIs c keys j k from out later (map copy_in w.sent) acks (in_hand x false tells) una edge flying
  way_brought tells flying x later w received control shown = record {
    sent = w.sent;
    flights = w.flights;
    datas_are = refl;
    acks_are = w.acks_are;
    follow = subst (λ (n : ℕ). Follow j.least j.total k.total from n later.control_came later.keys_came w.sent) (sym received)
        (subst (λ (n : ℕ). Follow j.least j.total k.total from (other.received + length (octets_of x.brings)) n later.keys_came w.sent) (sym control)
        (subst (λ (n : ℕ). Follow j.least j.total k.total from (other.received + length (octets_of x.brings)) x.control n w.sent) (sym shown) w.follow.4));
    low = ap (λ (n : ℕ). low_after n w.sent) received ∙ w.low;
    control = ap (λ (n : ℕ). control_after n w.sent) control ∙ w.control;
    keys_shown = ap (λ (n : ℕ). keys_after n w.sent) shown ∙ w.keys_shown;
    rise = w.rise;
    passed = w.passed;
  }

  -- the copy in hand is done with
  abbrev pub way_done : (flying : List (Flight Carried)) (x : Sent)
      → WayIs c keys j k from out other datas acks (in_hand x false false) una edge flying
      → WayIs c keys j k from out other datas acks None una edge flying
  way_done flying x w = record {
    sent = w.sent;
    flights = w.flights;
    datas_are = w.datas_are;
    acks_are = w.acks_are;
    follow = w.follow;
    low = w.low;
    control = w.control;
    keys_shown = w.keys_shown;
    rise = w.rise;
    passed = w.passed;
  }
