-- The holder's steps keep the rule: its entry is added, and the next ticket is served.
use Rattle.ruled_desk.proofs.Words.{◌≡◌, refl, sym, ◌∙◌, ap, subst, ℕ, ◌^◌, ◌⊎◌, inl, inr, Bool, true, false, ◌||◌, List, [], ◌∷◌, ◌++◌, length, Option, Some}
use Rattle.ruled_desk.proofs.Words.{None, arith, ◌+◌, set, ⊎_elim, ◌%◌, slice_index, some, keeps, Allows, rest, gives, put_back, Journaled, Entry, View}
use Rattle.ruled_desk.proofs.Words.{HasLastStamp, grown, IsRuled, homed, IsAdded, IsServed, adds, serves, weigh, bit}
use Rattle.ruled_desk.proofs.Weights.{weigh-append, weigh-set}
use Rattle.ruled_desk.proofs.RuleWords.{last-more, grown-grown, fits-set, holds-alone}
use Rattle.ruled_desk.proofs.RuleSteps.{Mine}

-- x and y are one where a list with either at its end is the same
pub same_last : {X : Type 0} (xs : List X) (x y : X) → xs ++ x ∷ [] ≡ xs ++ y ∷ [] → x ≡ y
same_last [] x y e = cc
same_last (z ∷ xs) x y e = same_last xs x y cc

or_true : (a b : Bool) → (a || b) ≡ true → (a ≡ true) ⊎ (b ≡ true)
or_true = elim [ true ↦ λ b e. inl refl | false ↦ λ b e. inr e ]

-- what the slot that was taken last has
abbrev held_or : {X : Type 0} → X → Option X → X
held_or x None = x
held_or x (Some y) = y

abbrev first_held : {X : Type 0} → X → List (ℕ × Option X) → X
first_held x [] = x
first_held x (slot ∷ slots) = held_or x slot.1

module _ {O C R : Type 0} (start : Journaled O C R) where
  -- an entry is added
  pub adds_one : (slots seat : ℕ) (me : Mine O C R) (book : Journaled O C R) (entry : Entry C R) → me.0.took ≡ book ∷ []
      → me.1 ≡ (0, Some (grown book (entry ∷ []))) ∷ []
      → Allows (IsRuled start) slots seat me 2 (λ k. (k + 1) % 2 ^ 64) (λ found after. IsAdded me after)
  adds_one slots seat me book entry took has s kept wide at small =
      let v : View (Journaled O C R) (Entry C R) = me.0 in
      let here = kept.fits seat v at in
      let held = here.holder book took in
      let alone = holds-alone start s kept seat v book at took in
      let more : List (Entry C R) = kept.log ++ entry ∷ [] in
      let now : Journaled O C R = grown book (entry ∷ []) in
      let is : now ≡ grown start more = ap (λ b. grown b (entry ∷ [])) held.1 ∙ grown-grown start kept.log (entry ∷ []) in
      let w : View (Journaled O C R) (Entry C R) = adds now entry v in (
        w,
        keeps,
        tt,
        record {
          first = kept.first;
          count = kept.count;
          serving = kept.serving;
          out = kept.out;
          served = kept.served;
          log = more;
          words = ap (λ ws. set ws 2 ((slice_index ws 2 + 1) % 2 ^ 64)) kept.words
              ∙ ap (λ k. (kept.first + kept.count) % 2 ^ 64 ∷ kept.serving ∷ k ∷ []) (counted kept.log);
          turn = kept.turn;
          homes = kept.homes ∙ ap (λ b. homed b (grown start kept.log)) alone.0 ∙ sym (ap (λ b. homed b (grown start more)) alone.0);
          parts = (let p : weigh (λ u. u.parts) (set s.views seat w) + v.parts ≡ weigh (λ u. u.parts) s.views + v.parts = weigh-set (λ u. u.parts) s.views seat v w at in
              omega (arith, p, kept.parts));
          tickets = λ h.
              (let p : weigh (λ u. weigh h u.tickets) (set s.views seat w) + weigh h v.tickets ≡ weigh (λ u. weigh h u.tickets) s.views + weigh h v.tickets
              = weigh-set (λ u. weigh h u.tickets) s.views seat v w at in
              omega (arith, p, kept.tickets h));
          holders = (let p : weigh (λ u. length u.took) (set s.views seat w) + length v.took ≡ weigh (λ u. length u.took) s.views + 1
              = weigh-set (λ u. length u.took) s.views seat v w at in
              let one : length v.took ≡ 1 = ap length took in
              omega (arith, p, one, kept.holders));
          own = λ h.
              (let p : weigh (λ u. weigh h u.own) (set s.views seat w) + weigh h v.own ≡ weigh (λ u. weigh h u.own) s.views + weigh h (v.own ++ entry ∷ [])
              = weigh-set (λ u. weigh h u.own) s.views seat v w at in
              omega (arith, p, kept.own h, weigh-append h v.own (entry ∷ []), weigh-append h kept.log (entry ∷ [])));
          fits = fits-set start kept.served kept.served kept.log more s.views seat w
              (λ other u there apart f.
              record {
                room = f.room;
                holder = (λ b e. cc (e, alone.1 other u there apart));
                ended = f.ended;
                full = λ full. last-more start kept.log (entry ∷ []) (f.full full);
              })
              (record {
                room = here.room;
                holder = λ b e. (held.0, (let same : now ≡ b = cc in sym same ∙ is));
                ended = λ none. cc (took, (here.ended none).1);
                full = λ full. last-more start kept.log (entry ∷ []) (here.full full);
              }) kept.fits;
        },
        λ b e took_too has_too.
            let one : book ≡ b = cc in
            let value : grown book (entry ∷ []) ≡ grown b (e ∷ []) = ap (first_held book) (sym has ∙ has_too) in
            let same : entry ≡ e = same_last book.journal entry e (ap (λ x. x.journal) value ∙ ap (λ x. x.journal ++ e ∷ []) (sym one)) in
            let a : Mine O C R = (adds (grown book (entry ∷ [])) entry me.0, me.1) in
            let z : Mine O C R = (adds (grown b (e ∷ [])) e me.0, me.1) in
            ap (λ (x : Journaled O C R). (adds x entry me.0, me.1)) value ∙ ap (λ (x : Entry C R). (adds (grown b (e ∷ [])) x me.0, me.1)) same,
      )
    where
      counted : (log : List (Entry C R)) → (length log % 2 ^ 64 + 1) % 2 ^ 64 ≡ length (log ++ entry ∷ []) % 2 ^ 64
      counted log = let one = long log in omega (arith, one)
        where
          long : (log : List (Entry C R)) → length (log ++ entry ∷ []) ≡ length log + 1
          long [] = refl
          long (x ∷ log) = let rest = long log in omega arith

  -- the book goes back, and the next ticket is served
  pub serves_next : (slots seat : ℕ) (me : Mine O C R) (book : Journaled O C R) (full : Bool) → me.0.took ≡ book ∷ []
      → me.1 ≡ (0, Some book) ∷ [] → (full ≡ true → HasLastStamp book.journal)
      → Allows (IsRuled start) slots seat me 1 (λ k. (k + 1) % 2 ^ 64) (λ found after. IsServed full me after)
  serves_next slots seat me book full took has last s kept wide at small =
      let v : View (Journaled O C R) (Entry C R) = me.0 in
      let here = kept.fits seat v at in
      let held = here.holder book took in
      let alone = holds-alone start s kept seat v book at took in
      let bits : bit kept.out ≡ 1 = ap bit alone.0 in
      let w : View (Journaled O C R) (Entry C R) = serves full v in (
        w,
        gives,
        tt,
        record {
          first = kept.first;
          count = kept.count;
          serving = (kept.serving + 1) % 2 ^ 64;
          out = false;
          served = kept.served;
          log = kept.log;
          words = ap (λ ws. set ws 1 ((slice_index ws 1 + 1) % 2 ^ 64)) kept.words;
          turn = omega (arith, kept.turn, bits);
          homes = ap (put_back s.homes) has ∙ ap (λ hs. set hs 0 (some (Some book))) (kept.homes ∙ ap (λ b. homed b (grown start kept.log)) alone.0)
              ∙ ap (λ (b : Journaled O C R). some (Some b) ∷ []) held.1;
          parts = (let p : weigh (λ u. u.parts) (set s.views seat w) + v.parts ≡ weigh (λ u. u.parts) s.views + v.parts = weigh-set (λ u. u.parts) s.views seat v w at in
              omega (arith, p, kept.parts));
          tickets = λ h.
              (let p : weigh (λ u. weigh h u.tickets) (set s.views seat w) + weigh h v.tickets ≡ weigh (λ u. weigh h u.tickets) s.views + weigh h v.tickets
              = weigh-set (λ u. weigh h u.tickets) s.views seat v w at in
              omega (arith, p, kept.tickets h));
          holders = (let p : weigh (λ u. length u.took) (set s.views seat w) + length v.took ≡ weigh (λ u. length u.took) s.views + 0
              = weigh-set (λ u. length u.took) s.views seat v w at in
              let one : length v.took ≡ 1 = ap length took in
              omega (arith, p, one, bits, kept.holders));
          own = λ h.
              (let p : weigh (λ u. weigh h u.own) (set s.views seat w) + weigh h v.own ≡ weigh (λ u. weigh h u.own) s.views + weigh h v.own
              = weigh-set (λ u. weigh h u.own) s.views seat v w at in
              omega (arith, p, kept.own h));
          fits = fits-set start kept.served kept.served kept.log kept.log s.views seat w (λ other u there apart f. f)
              (record {
                room = here.room;
                holder = λ b e. cc;
                ended = λ none. ((here.ended none).0, refl);
                full = λ noted. ⊎_elim (λ now. subst (λ (b : Journaled O C R). HasLastStamp b.journal) held.1 (last now)) here.full (or_true full v.full noted);
              }) kept.fits;
        },
        ap (λ (c : List (ℕ × Option (Journaled O C R))). (serves full me.0, rest c)) has,
      )
