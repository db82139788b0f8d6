-- A segment more on the way from one side.
use Rattle.clean_finish.proofs.Words.{◌≡◌, refl, sym, subst, ap, ◌∙◌, ℕ, ◌+◌, ◌≤◌, Option, List, [], ◌∷◌, ◌++◌, length, map, arith, Side, Flight, Profile}
use Rattle.clean_finish.proofs.Words.{Carried, Setting, Copy, Sender, Receiver, Hand, WayIs, brings_in, tells_in, Sent, Keys, BringsAs, copy_in, octets_of}
use Rattle.clean_finish.proofs.Words.{CountsAs, TellsAs, AcknowledgesAs, ShowsFirst, Rise, edge_after, FliesAs, Follow, low_after, control_after, keys_after}
use Rattle.clean_finish.proofs.Words.{FlyAs}

pub flies_more : (c : Profile) (keys : Keys) (from : Side) (f : Flight Carried) (x : Sent) → FliesAs c keys from f x
    → (fs : List (Flight Carried)) (xs : List Sent) → FlyAs c keys from fs xs → FlyAs c keys from (fs ++ f ∷ []) (xs ++ x ∷ [])
flies_more c keys from f x one [] [] all = (one, tt)
flies_more c keys from f x one (g ∷ fs) (y ∷ ys) all = (all.0, flies_more c keys from f x one fs ys all.1)
flies_more c keys from f x one [] (y ∷ ys) all = absurd all
flies_more c keys from f x one (g ∷ fs) [] all = absurd all

-- a copy more follows where the others end
pub follow_more : (least total own : ℕ) (s : Side) (x : Sent) → AcknowledgesAs total x × ShowsFirst s x × BringsAs own x.low x.edge x.brings → TellsAs least s x.window x.telling x.brings
    → (low control keys : ℕ) (xs : List Sent) → x.low ≡ low_after low xs
    → CountsAs (control_after control xs) (keys_after keys xs) x.control x.keys x.brings
    → Follow least total own s low control keys xs → Follow least total own s low control keys (xs ++ x ∷ [])
follow_more least total own s x acks tells low control keys [] at counts all = (at, counts, tells, acks, tt)
follow_more least total own s x acks tells low control keys (y ∷ ys) at counts all =
    (all.0, all.1, all.2, all.3, follow_more least total own s x acks tells (low + length (octets_of y.brings)) y.control y.keys ys at counts all.4)

pub low_more : (x : Sent) (low : ℕ) (xs : List Sent) → low_after low (xs ++ x ∷ []) ≡ low_after low xs + length (octets_of x.brings)
low_more x low [] = refl
low_more x low (y ∷ ys) = low_more x (low + length (octets_of y.brings)) ys

pub control_more : (x : Sent) (control : ℕ) (xs : List Sent) → control_after control (xs ++ x ∷ []) ≡ x.control
control_more x control [] = refl
control_more x control (y ∷ ys) = control_more x y.control ys

pub keys_more : (x : Sent) (keys : ℕ) (xs : List Sent) → keys_after keys (xs ++ x ∷ []) ≡ x.keys
keys_more x keys [] = refl
keys_more x keys (y ∷ ys) = keys_more x y.keys ys

pub rise_more : (x : Sent) (edge : ℕ) (xs : List Sent) → edge_after edge xs ≤ x.edge → Rise edge xs → Rise edge (xs ++ x ∷ [])
rise_more x edge [] low all = (low, tt)
rise_more x edge (y ∷ ys) low all = (all.0, rise_more x y.edge ys low all.1)

pub edge_more : (x : Sent) (edge : ℕ) (xs : List Sent) → edge_after edge (xs ++ x ∷ []) ≡ x.edge
edge_more x edge [] = refl
edge_more x edge (y ∷ ys) = edge_more x y.edge ys

pub map_end : {X Y : Type 0} (f : X → Y) (xs : List X) (y : X) → map f (xs ++ y ∷ []) ≡ map f xs ++ f y ∷ []
map_end f [] y = refl
map_end f (x ∷ xs) y = ap (λ (zs : List _). f x ∷ zs) (map_end f xs y)

end_assoc : {X : Type 0} (xs ys : List X) (z : X) → (xs ++ ys) ++ z ∷ [] ≡ xs ++ (ys ++ z ∷ [])
end_assoc [] ys z = refl
end_assoc (x ∷ xs) ys z = ap (λ (zs : List _). x ∷ zs) (end_assoc xs ys z)

-- a segment more is sent
module _ (c : Profile) (keys : Keys) (j k : Setting) (from : Side) (out later : Sender) (other : Receiver) (hand : Option Hand) (una edge now : ℕ)
    (f : Flight Carried) (x : Sent)
  where
    copies_more : (front sent : List Sent) (copies : List Copy) → copies ≡ map copy_in (front ++ sent)
        → copies ++ copy_in x ∷ [] ≡ map copy_in (front ++ (sent ++ x ∷ []))
    copies_more front sent copies is =
        ap (λ (cs : List Copy). cs ++ copy_in x ∷ []) is
        ∙ (sym (map_end copy_in (front ++ sent) x) ∙ ap (λ (ys : List Sent). map copy_in ys) (end_assoc front sent x))

    pub way_more : (datas acks : List Copy) (flying : List (Flight Carried)) → WayIs c keys j k from out other datas acks hand una edge flying
        → FliesAs c keys from f x → AcknowledgesAs j.total x × ShowsFirst from x × BringsAs k.total x.low x.edge x.brings → TellsAs j.least from x.window x.telling x.brings → x.low ≡ out.granted
        → CountsAs out.control_sent out.keys_sent x.control x.keys x.brings → edge ≤ x.edge → x.edge ≤ now
        → x.low + length (octets_of x.brings) ≡ later.granted → x.control ≡ later.control_sent → x.keys ≡ later.keys_sent
        → WayIs c keys j k from later other (datas ++ copy_in x ∷ []) (acks ++ copy_in x ∷ []) hand una now (flying ++ f ∷ [])
    way_more datas acks flying h flies acknowledges tells at counts low high granted control shown =
        let front = brings_in hand in
        let assoc = end_assoc front h.sent x in
        record {
          sent = h.sent ++ x ∷ [];
          flights = flies_more c keys from f x flies flying h.sent h.flights;
          datas_are = copies_more front h.sent datas h.datas_are;
          acks_are = copies_more (tells_in hand) h.sent acks h.acks_are;
          follow = subst (λ (ys : List Sent). Follow j.least j.total k.total from other.received other.control_came other.keys_came ys) assoc
              (follow_more j.least j.total k.total from x acknowledges tells other.received other.control_came other.keys_came (front ++ h.sent)
              (at ∙ sym h.low)
              (subst (λ (n : ℕ). CountsAs n (keys_after other.keys_came (front ++ h.sent)) x.control x.keys x.brings) (sym h.control)
              (subst (λ (n : ℕ). CountsAs out.control_sent n x.control x.keys x.brings) (sym h.keys_shown) counts)) h.follow);
          low = ap (λ (ys : List Sent). low_after other.received ys) (sym assoc)
              ∙ (low_more x other.received (front ++ h.sent)
              ∙ (ap (λ (n : ℕ). n + length (octets_of x.brings)) (h.low ∙ sym at) ∙ granted));
          control = ap (λ (ys : List Sent). control_after other.control_came ys) (sym assoc)
              ∙ (control_more x other.control_came (front ++ h.sent) ∙ control);
          keys_shown = ap (λ (ys : List Sent). keys_after other.keys_came ys) (sym assoc)
              ∙ (keys_more x other.keys_came (front ++ h.sent) ∙ shown);
          rise = rise_more x una h.sent (up h.passed low) h.rise;
          passed = subst (λ (n : ℕ). n ≤ now) (sym (edge_more x una h.sent)) high;
        }
      where
        up : {a b d : ℕ} → a ≤ b → b ≤ d → a ≤ d
        up p q = omega (arith, p, q)
