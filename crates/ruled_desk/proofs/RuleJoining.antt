-- Seats are split off and joined, and the table is closed.
--
-- `Split` and `Join` are functions of views alone: who is out is kept beside the table, by number, with an inequality
-- between parts and those who are out as the invariant of the root's model (`1024 <= parts + how_many out`).
use Rattle.ruled_desk.proofs.Words.{◌≡◌, refl, sym, ◌∙◌, ap, subst, ℕ, ◌-◌, ◌≤◌, ◌⊎◌, inl, inr, Bool, true, false, ◌||◌, List, [], ◌∷◌, ◌++◌, length, Option}
use Rattle.ruled_desk.proofs.Words.{Some, arith, ◌+◌, set, ⊎_elim, some, get_elem?, Splits, Joins, Final, Seen, at_set, at_snoc, Journaled, Entry, View}
use Rattle.ruled_desk.proofs.Words.{HasLastStamp, grown, IsAtRest, IsRuled, homed, Fits, without_part, newcomer, joined, spent, weigh, bit}
use Rattle.ruled_desk.proofs.Weights.{weigh-append, weigh-set, weigh-alone}
use Rattle.ruled_desk.proofs.RuleWords.{fits-set}

module _ {O C R : Type 0} (start : Journaled O C R) where
  -- a new seat has one part, and nothing else
  pub splits : (seat : ℕ) (v : View (Journaled O C R) (Entry C R)) → 2 ≤ v.parts → IsAtRest v → Splits (IsRuled start) seat v (without_part v) newcomer
  splits seat v parts at_rest s kept at =
      let here = kept.fits seat v at in
      let left : View (Journaled O C R) (Entry C R) = without_part v in
      let new : View (Journaled O C R) (Entry C R) = newcomer in
      record {
        first = kept.first;
        count = kept.count;
        serving = kept.serving;
        out = kept.out;
        served = kept.served;
        log = kept.log;
        words = kept.words;
        turn = kept.turn;
        homes = kept.homes;
        parts = (let p : weigh (λ u. u.parts) (set s.views seat left) + v.parts ≡ weigh (λ u. u.parts) s.views + (v.parts - 1)
            = weigh-set (λ u. u.parts) s.views seat v left at in
            let q : weigh (λ u. u.parts) (set s.views seat left ++ new ∷ []) ≡ weigh (λ u. u.parts) (set s.views seat left) + 1
            = weigh-append (λ u. u.parts) (set s.views seat left) (new ∷ []) in
            omega (arith, p, q, parts, kept.parts));
        tickets = λ h.
            (let p : weigh (λ u. weigh h u.tickets) (set s.views seat left) + weigh h v.tickets ≡ weigh (λ u. weigh h u.tickets) s.views + weigh h v.tickets
            = weigh-set (λ u. weigh h u.tickets) s.views seat v left at in
            let q : weigh (λ u. weigh h u.tickets) (set s.views seat left ++ new ∷ []) ≡ weigh (λ u. weigh h u.tickets) (set s.views seat left) + 0
            = weigh-append (λ u. weigh h u.tickets) (set s.views seat left) (new ∷ []) in
            omega (arith, p, q, kept.tickets h));
        holders = (let p : weigh (λ u. length u.took) (set s.views seat left) + length v.took ≡ weigh (λ u. length u.took) s.views + length v.took
            = weigh-set (λ u. length u.took) s.views seat v left at in
            let q : weigh (λ u. length u.took) (set s.views seat left ++ new ∷ []) ≡ weigh (λ u. length u.took) (set s.views seat left) + 0
            = weigh-append (λ u. length u.took) (set s.views seat left) (new ∷ []) in
            omega (arith, p, q, kept.holders));
        own = λ h.
            (let p : weigh (λ u. weigh h u.own) (set s.views seat left) + weigh h v.own ≡ weigh (λ u. weigh h u.own) s.views + weigh h v.own
            = weigh-set (λ u. weigh h u.own) s.views seat v left at in
            let q : weigh (λ u. weigh h u.own) (set s.views seat left ++ new ∷ []) ≡ weigh (λ u. weigh h u.own) (set s.views seat left) + 0
            = weigh-append (λ u. weigh h u.own) (set s.views seat left) (new ∷ []) in
            omega (arith, p, q, kept.own h));
        fits = λ other u there. ⊎_elim
            (fits-set start kept.served kept.served kept.log kept.log s.views seat left (λ one x where_it apart f. f)
            (record {
              room = omega (arith, parts, ap length at_rest.tickets);
              holder = here.holder;
              ended = λ none. absurd (omega (arith, none, parts));
              full = here.full;
            }) kept.fits other u)
            (λ same. subst (Fits start kept.served kept.log other) same
            (record { room = omega arith; holder = λ book e. cc; ended = λ none. cc; full = λ noted. cc }))
            (at_snoc (set s.views seat left) new u other there);
      }

  or_true : (a b : Bool) → (a || b) ≡ true → (a ≡ true) ⊎ (b ≡ true)
  or_true = elim [ true ↦ λ b e. inl refl | false ↦ λ b e. inr e ]

  -- a seat's entries and notes go over to another
  pub joins : (seat : ℕ) (v : View (Journaled O C R) (Entry C R)) (other : ℕ) (w : View (Journaled O C R) (Entry C R)) → 1 ≤ v.parts → IsAtRest v → IsAtRest w
      → Joins (IsRuled start) seat v other w (joined v w) spent
  joins seat v other w parts at_rest rests s kept at apart there =
      let both : View (Journaled O C R) (Entry C R) = joined v w in
      let none : View (Journaled O C R) (Entry C R) = spent in
      let here = kept.fits seat v at in
      let old : get_elem? s.views other ≡ some w = ⊎_elim (λ t. absurd (apart t.0)) (λ t. t.1) (at_set s.views seat other both w there) in
      let its = kept.fits other w old in
      let vs : List (View (Journaled O C R) (Entry C R)) = set s.views seat both in
      record {
        first = kept.first;
        count = kept.count;
        serving = kept.serving;
        out = kept.out;
        served = kept.served;
        log = kept.log;
        words = kept.words;
        turn = kept.turn;
        homes = kept.homes;
        parts = (let p : weigh (λ u. u.parts) vs + v.parts ≡ weigh (λ u. u.parts) s.views + (v.parts + w.parts) = weigh-set (λ u. u.parts) s.views seat v both at in
            let q : weigh (λ u. u.parts) (set vs other none) + w.parts ≡ weigh (λ u. u.parts) vs + 0 = weigh-set (λ u. u.parts) vs other w none there in
            omega (arith, p, q, kept.parts));
        tickets = λ h.
            (let p : weigh (λ u. weigh h u.tickets) vs + weigh h v.tickets ≡ weigh (λ u. weigh h u.tickets) s.views + weigh h v.tickets
            = weigh-set (λ u. weigh h u.tickets) s.views seat v both at in
            let q : weigh (λ u. weigh h u.tickets) (set vs other none) + weigh h w.tickets ≡ weigh (λ u. weigh h u.tickets) vs + 0
            = weigh-set (λ u. weigh h u.tickets) vs other w none there in
            let nothing : weigh h w.tickets ≡ 0 = ap (weigh h) rests.tickets in
            omega (arith, p, q, nothing, kept.tickets h));
        holders = (let p : weigh (λ u. length u.took) vs + length v.took ≡ weigh (λ u. length u.took) s.views + length v.took
            = weigh-set (λ u. length u.took) s.views seat v both at in
            let q : weigh (λ u. length u.took) (set vs other none) + length w.took ≡ weigh (λ u. length u.took) vs + 0
            = weigh-set (λ u. length u.took) vs other w none there in
            let nothing : length w.took ≡ 0 = ap length rests.took in
            omega (arith, p, q, nothing, kept.holders));
        own = λ h.
            (let p : weigh (λ u. weigh h u.own) vs + weigh h v.own ≡ weigh (λ u. weigh h u.own) s.views + weigh h (v.own ++ w.own)
            = weigh-set (λ u. weigh h u.own) s.views seat v both at in
            let q : weigh (λ u. weigh h u.own) (set vs other none) + weigh h w.own ≡ weigh (λ u. weigh h u.own) vs + 0
            = weigh-set (λ u. weigh h u.own) vs other w none there in
            omega (arith, p, q, weigh-append h v.own w.own, kept.own h));
        fits = fits-set start kept.served kept.served kept.log kept.log vs other none (λ one x where_it off f. f)
            (record { room = omega arith; holder = λ book e. cc; ended = λ e. (refl, refl); full = λ noted. cc })
            (fits-set start kept.served kept.served kept.log kept.log s.views seat both (λ one x where_it off f. f)
            (record {
              room = omega (arith, parts, ap length at_rest.tickets);
              holder = here.holder;
              ended = λ e. absurd (omega (arith, e, parts));
              full = λ noted. ⊎_elim here.full its.full (or_true v.full w.full noted);
            }) kept.fits);
      }

-- what the slot has at the end, and what the last seat's own entries are
pub record Closes {O C R : Type 0} (start : Journaled O C R) (v : View (Journaled O C R) (Entry C R)) (xs : List (Option (Journaled O C R))) : Type 0 where
  pub log : List (Entry C R)
  pub home : get_elem? xs 0 ≡ some (Some (grown start log))
  pub same : (h : Entry C R → ℕ) → weigh h v.own ≡ weigh h log
  pub full : v.full ≡ true → HasLastStamp (start.journal ++ log)

module _ {O C R : Type 0} (start : Journaled O C R) where
  -- the table is closed by the seat that has all parts
  pub closes : (seat : ℕ) (v : View (Journaled O C R) (Entry C R)) (ws : List ℕ) (xs : List (Option (Journaled O C R))) → 1024 ≤ v.parts → IsAtRest v
      → Final (Seen (IsRuled start) seat v) ws xs → Closes start v xs
  closes seat v ws xs all at_rest f =
      let s = f.0 in
      let kept : IsRuled start s = f.1.0 in
      let at : get_elem? s.views seat ≡ some v = f.1.1 in
      let here = kept.fits seat v at in
      let holders : weigh (λ u. length u.took) s.views ≡ length v.took =
      weigh-alone (λ u. length u.took) (λ u. u.parts) s.views seat v at (omega (arith, all, kept.parts))
      (λ other u there none. ap length ((kept.fits other u there).ended none).1) in
      let home : kept.out ≡ false = (elim kept.out as (λ b. bit b ≡ 0 → b ≡ false)
      [ true ↦ λ e. absurd (omega (arith, e)) | false ↦ λ e. refl ]) (omega (arith, holders, kept.holders, ap length at_rest.took)) in
      record {
        log = kept.log;
        home = f.4 0 (Some (grown start kept.log)) (ap (λ hs. get_elem? hs 0) (kept.homes ∙ ap (λ b. homed b (grown start kept.log)) home));
        same = λ h.
            (let mine : weigh (λ u. weigh h u.own) s.views ≡ weigh h v.own =
            weigh-alone (λ u. weigh h u.own) (λ u. u.parts) s.views seat v at (omega (arith, all, kept.parts))
            (λ other u there none. ap (weigh h) ((kept.fits other u there).ended none).0) in
            sym mine ∙ kept.own h);
        full = here.full;
      }

  -- a seat with all parts closes its lock, beside what else is known of words and slots
  pub closes_by : {A B : Type 0} (seat : ℕ) (v : View (Journaled O C R) (Entry C R)) (ws : List ℕ) (xs : List (Option (Journaled O C R))) → 1024 ≤ v.parts → IsAtRest v
      → A × B × Final (Seen (IsRuled start) seat v) ws xs → Closes start v xs
  closes_by seat v ws xs all at_rest t = closes seat v ws xs all at_rest t.2
