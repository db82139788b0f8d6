-- Riders that are sent out to workers one after the other, the last one first.
use Rattle.ruled_desk.proofs.Words.{◌≡◌, refl, sym, ◌∙◌, ap, subst, ℕ, zero, suc, ◌<◌, List, [], ◌∷◌, ◌++◌, length, Option, Some, None, arith, All, slice_index_or}
use Rattle.ruled_desk.proofs.Words.{Ask, Reply, Rider, HasPass, Rode, SixLocked, AllHave, AllRode, IsSent}
use Rattle.std.specs.Arc.{arc_value}
use Rattle.std.specs.Prelude.{IfSome}
use Rattle.ruled_desk.specs.declared.errands.Errand.{Errand}

module _ {A : Type 0} where
  pub have_all : (desk : SixLocked) (riders : List (Rider A)) → All (HasPass desk) riders → AllHave desk riders
  have_all desk [] all = tt
  have_all desk (rider ∷ riders) all = (all 0 rider (omega arith), have_all desk riders (λ k d within. all (suc k) d (omega (arith, within))))

  have_apart : (desk : SixLocked) (riders : List (Rider A)) (last : Rider A) → AllHave desk (riders ++ last ∷ []) → AllHave desk riders × HasPass desk last
  have_apart desk [] last have = (tt, have.0)
  have_apart desk (rider ∷ riders) last have = let later = have_apart desk riders last have.1 in ((have.0, later.0), later.1)

  -- of a vector whose last rider was taken out
  pub have_before : (desk : SixLocked) (all riders : List (Rider A)) (last : Rider A) → all ≡ riders ++ last ∷ [] → AllHave desk all → AllHave desk riders
  have_before desk all riders last is have = (have_apart desk riders last (subst (AllHave desk) is have)).0

  pub last_has : (desk : SixLocked) (all riders : List (Rider A)) (last : Rider A) → all ≡ riders ++ last ∷ [] → AllHave desk all → HasPass desk last
  last_has desk all riders last is have = (have_apart desk riders last (subst (AllHave desk) is have)).1

  module _ (asks : A → Option Ask) (takes : Reply → A → A) (desk : SixLocked) where
    rode_then : (olds news : List (Rider A)) (old new : Rider A) → AllRode asks takes desk olds news → Rode asks takes desk old new
        → AllRode asks takes desk (olds ++ old ∷ []) (news ++ new ∷ [])
    rode_then [] [] old new all last = (last, tt)
    rode_then [] (n ∷ news) old new all last = absurd all
    rode_then (o ∷ olds) [] old new all last = absurd all
    rode_then (o ∷ olds) (n ∷ news) old new all last = (all.0, rode_then olds news old new all.1 last)

    -- the last rider is back behind the others
    pub rode_last : (all olds news last_news : List (Rider A)) (old new : Rider A) → all ≡ olds ++ old ∷ [] → last_news ≡ news ++ new ∷ []
        → AllRode asks takes desk olds news → Rode asks takes desk old new → AllRode asks takes desk all last_news
    rode_last all olds news last_news old new is after rode last =
        subst (λ l. AllRode asks takes desk l last_news) (sym is) (subst (λ l. AllRode asks takes desk (olds ++ old ∷ []) l) (sym after) (rode_then olds news old new rode last))

    -- there was no rider
    pub rode_none : (all left : List (Rider A)) → all ≡ left ++ [] → length left ≡ 0 → AllRode asks takes desk all left
    rode_none all [] is none = subst (λ l. AllRode asks takes desk l []) (sym is) tt
    rode_none all (rider ∷ left) is none = absurd (omega (arith, none))

    pub rode_many : (olds news : List (Rider A)) → AllRode asks takes desk olds news → length news ≡ length olds
    rode_many [] [] all = refl
    rode_many [] (n ∷ news) all = absurd all
    rode_many (o ∷ olds) [] all = absurd all
    rode_many (o ∷ olds) (n ∷ news) all = ap suc (rode_many olds news all.1)

    pub rode_each : (olds news : List (Rider A)) → AllRode asks takes desk olds news
        → (i : ℕ) (d : Rider A) → i < length olds → Rode asks takes desk (slice_index_or olds i d) (slice_index_or news i d)
    rode_each [] [] all i d within = absurd (omega (arith, within))
    rode_each [] (n ∷ news) all i d within = absurd all
    rode_each (o ∷ olds) [] all i d within = absurd all
    rode_each (o ∷ olds) (n ∷ news) all zero d within = all.0
    rode_each (o ∷ olds) (n ∷ news) all (suc i) d within = rode_each olds news all.1 i d (omega (arith, within))

module _ {A : Type 0} where
  -- ---- a rider that is out, or was kept

  pub sent_out : (desk : SixLocked) (rider : Rider A) (out : Option (Errand A)) (kept : Option (Rider A)) → kept ≡ None → IsSent desk rider kept out
      → (errand : Errand A) × (out ≡ Some errand) × (errand.rider ≡ rider) × (arc_value errand.desk ≡ desk)
  sent_out desk rider None None is sent = absurd sent
  sent_out desk rider (Some errand) None is sent = (errand, refl, sent.0, sent.1)
  sent_out desk rider out (Some same) is sent = absurd (some_none is)
    where
      some_none : Some same ≡ None → ⊥
      some_none e = cc

  pub not_sent : (desk : SixLocked) (rider same : Rider A) (out : Option (Errand A)) (kept : Option (Rider A)) → kept ≡ Some same → IsSent desk rider kept out
      → (out ≡ None) × (same ≡ rider)
  not_sent desk rider same None None is sent = absurd sent
  not_sent desk rider same (Some errand) None is sent = absurd (none_some is)
    where
      none_some : None ≡ Some same → ⊥
      none_some e = cc
  not_sent desk rider same None (Some other) is sent = let e : same ≡ other = cc in (refl, e ∙ sent)
  not_sent desk rider same (Some errand) (Some other) is sent = absurd sent

  -- what comes back of a rider that was out
  pub fetched : (asks : A → Option Ask) (takes : Reply → A → A) (desk : SixLocked) (rider : Rider A) (out : Option (Errand A)) (kept : Option (Rider A)) (back : Rider A)
      → kept ≡ None → IsSent desk rider kept out → IfSome out (λ errand. Rode asks takes (arc_value errand.desk) errand.rider back) → Rode asks takes desk rider back
  fetched asks takes desk rider None None back is sent done = absurd sent
  fetched asks takes desk rider (Some errand) None back is sent done =
      subst (λ d. Rode asks takes d rider back) sent.1 (subst (λ r. Rode asks takes (arc_value errand.desk) r back) sent.0 done)
  fetched asks takes desk rider out (Some same) back is sent done = absurd (some_none is)
    where
      some_none : Some same ≡ None → ⊥
      some_none e = cc

-- the one that is out
pub same_out : {X : Type 0} (out : Option X) (one other : X) → out ≡ Some one → out ≡ Some other → one ≡ other
same_out out one other is too = let both : Some one ≡ Some other = sym is ∙ too in cc

-- of givers of which no turn is out, the first and the others
pub first_rests : {X : Type 0} (all : List (Option X)) (first : Option X) (others : List (Option X)) → all ≡ first ∷ others → All (λ x. x ≡ None) all
    → (first ≡ None) × All (λ x. x ≡ None) others
first_rests all first others is rest =
    let each = subst (λ l. All (λ x. x ≡ None) l) is rest in
    (each 0 first (omega arith), λ k d within. each (suc k) d (omega (arith, within)))
