-- Each step of a seat keeps the rule.
--
-- A slot leaves home at the step on a word that tells its seat so; `exchange` then changes what the seat carries. So a
-- step on a word sees the book as it was put back, and the word that counts entries comes after that `exchange`.
use Rattle.ruled_desk.proofs.Words.{◌≡◌, refl, sym, ◌∙◌, ap, subst, ℕ, zero, suc, ◌-◌, ◌^◌, ◌≤◌, Bool, true, false, List, [], ◌∷◌, length, Option, Some, arith}
use Rattle.ruled_desk.proofs.Words.{◌+◌, set, eqb, ◌%◌, MatchBool, slice_index, nat_tests, some, none, some-injective, some-ne-none, get_elem?, State, Me, Act}
use Rattle.ruled_desk.proofs.Words.{keeps, takes, Allows, Valid, stepped, carried_after, opening, set_again, Journaled, Entry, View, grown, IsDrawn, IsAtRest}
use Rattle.ruled_desk.proofs.Words.{takes_turn, waits, IsRuled, homed, Fits, first_view, IsLooked, weigh, span, bit}
use Rattle.ruled_desk.proofs.Weights.{weigh-set, span-snoc}
use Rattle.ruled_desk.proofs.RuleWords.{grown-none, fits-set, none-hold, few-wait, waits-among, first-turn}

module _ (O C R : Type 0) where
  abbrev pub Table : Type 0
  Table = State (Option (Journaled O C R)) (View (Journaled O C R) (Entry C R))

  abbrev pub Mine : Type 0
  Mine = Me (Option (Journaled O C R)) (View (Journaled O C R) (Entry C R))

module _ {O C R : Type 0} (start : Journaled O C R) where
  -- a table that has just been made
  pub opens : IsRuled start (opening (0 ∷ 0 ∷ 0 ∷ []) (Some start ∷ []) first_view)
  opens = record {
    first = 0;
    count = 0;
    serving = 0;
    out = false;
    served = 0;
    log = [];
    words = refl;
    turn = refl;
    homes = ap (λ (b : Journaled O C R). some (Some b) ∷ []) (grown-none start);
    parts = refl;
    tickets = λ h. refl;
    holders = refl;
    own = λ h. refl;
    fits = fits;
  }
    where
      first_fits : (seat : ℕ) → Fits start 0 [] seat first_view
      first_fits seat = record { room = omega arith; holder = λ book e. cc; ended = λ e. cc; full = λ e. cc }

      fits : (seat : ℕ) (v : View (Journaled O C R) (Entry C R)) → get_elem? (first_view ∷ []) seat ≡ some v → Fits start 0 [] seat v
      fits zero v at = subst (Fits start 0 [] 0) (some-injective first_view v at) (first_fits 0)
      fits (suc seat) v at = absurd (some-ne-none v (sym at))

  -- a ticket is drawn
  pub draws : (slots seat : ℕ) (me : Mine O C R) → 1 ≤ me.0.parts → IsAtRest me.0
      → Allows (IsRuled start) slots seat me 0 (λ n. (n + 1) % 2 ^ 64) (IsDrawn me)
  draws slots seat me some_part at_rest s kept wide at small =
      let v : View (Journaled O C R) (Entry C R) = me.0 in
      let n : ℕ = kept.first + kept.count in
      let w : View (Journaled O C R) (Entry C R) = waits n v in
      let here = kept.fits seat v at in (
        w,
        keeps,
        tt,
        record {
          first = kept.first;
          count = suc kept.count;
          serving = kept.serving;
          out = kept.out;
          served = kept.served;
          log = kept.log;
          words = ap (λ ws. set ws 0 ((slice_index ws 0 + 1) % 2 ^ 64)) kept.words
              ∙ ap (λ k. k ∷ kept.serving ∷ length kept.log % 2 ^ 64 ∷ []) (omega arith);
          turn = kept.turn;
          homes = kept.homes;
          parts = (let p : weigh (λ u. u.parts) (set s.views seat w) + v.parts ≡ weigh (λ u. u.parts) s.views + v.parts = weigh-set (λ u. u.parts) s.views seat v w at in
              omega (arith, p, kept.parts));
          tickets = λ h.
              (let p : weigh (λ u. weigh h u.tickets) (set s.views seat w) + weigh h v.tickets ≡ weigh (λ u. weigh h u.tickets) s.views + (h n + 0)
              = weigh-set (λ u. weigh h u.tickets) s.views seat v w at in
              let nothing : weigh h v.tickets ≡ 0 = ap (weigh h) at_rest.tickets in
              omega (arith, p, nothing, kept.tickets h, span-snoc h kept.first kept.count));
          holders = (let p : weigh (λ u. length u.took) (set s.views seat w) + length v.took ≡ weigh (λ u. length u.took) s.views + length v.took
              = weigh-set (λ u. length u.took) s.views seat v w at in
              omega (arith, p, kept.holders));
          own = λ h.
              (let p : weigh (λ u. weigh h u.own) (set s.views seat w) + weigh h v.own ≡ weigh (λ u. weigh h u.own) s.views + weigh h v.own
              = weigh-set (λ u. weigh h u.own) s.views seat v w at in
              omega (arith, p, kept.own h));
          fits = fits-set start kept.served kept.served kept.log kept.log s.views seat w (λ other u there apart f. f)
              (record { room = omega (arith, some_part); holder = here.holder; ended = here.ended; full = here.full }) kept.fits;
        },
        (n, ap (λ ws. slice_index ws 0) kept.words, refl),
      )

  -- nothing changes
  unchanged : (s : Table O C R) (ws : List ℕ) (vs : List (View (Journaled O C R) (Entry C R))) → ws ≡ s.words → vs ≡ s.views → IsRuled start s
      → IsRuled start record { words = ws; homes = s.homes; views = vs }
  unchanged s ws vs same alike kept = record {
    first = kept.first;
    count = kept.count;
    serving = kept.serving;
    out = kept.out;
    served = kept.served;
    log = kept.log;
    words = same ∙ kept.words;
    turn = kept.turn;
    homes = kept.homes;
    parts = ap (weigh (λ v. v.parts)) alike ∙ kept.parts;
    tickets = λ h. ap (weigh (λ v. weigh h v.tickets)) alike ∙ kept.tickets h;
    holders = ap (weigh (λ v. length v.took)) alike ∙ kept.holders;
    own = λ h. ap (weigh (λ v. weigh h v.own)) alike ∙ kept.own h;
    fits = λ seat v at. kept.fits seat v (ap (λ l. get_elem? l seat) (sym alike) ∙ at);
  }

  -- a seat sees that it is its turn, and has the book
  takes_over : (s : Table O C R) (kept : IsRuled start s) (seat : ℕ) (v : View (Journaled O C R) (Entry C R)) (n rest_count : ℕ) → get_elem? s.views seat ≡ some v
      → v.tickets ≡ n ∷ [] → v.took ≡ [] → kept.serving ≡ n % 2 ^ 64 → kept.count ≡ suc rest_count → n ≡ kept.first → kept.out ≡ false
      → IsRuled start record { words = set s.words 1 (slice_index s.words 1); homes = set s.homes 0 none; views = set s.views seat (takes_turn (grown start kept.log) v) }
  takes_over s kept seat v n rest_count at ticket free found some_wait first home =
      let w : View (Journaled O C R) (Entry C R) = takes_turn (grown start kept.log) v in
      let here = kept.fits seat v at in
      record {
        first = suc kept.first;
        count = rest_count;
        serving = kept.serving;
        out = true;
        served = seat;
        log = kept.log;
        words = ap (λ ws. set ws 1 (slice_index ws 1)) kept.words
            ∙ ap (λ k. k % 2 ^ 64 ∷ kept.serving ∷ length kept.log % 2 ^ 64 ∷ []) (omega (arith, some_wait));
        turn = (let bits : bit kept.out ≡ 0 = ap bit home in omega (arith, kept.turn, bits));
        homes = ap (λ hs. set hs 0 none) (kept.homes ∙ ap (λ b. homed b (grown start kept.log)) home);
        parts = (let p : weigh (λ u. u.parts) (set s.views seat w) + v.parts ≡ weigh (λ u. u.parts) s.views + v.parts = weigh-set (λ u. u.parts) s.views seat v w at in
            omega (arith, p, kept.parts));
        tickets = λ h.
            (let p : weigh (λ u. weigh h u.tickets) (set s.views seat w) + weigh h v.tickets ≡ weigh (λ u. weigh h u.tickets) s.views + 0
            = weigh-set (λ u. weigh h u.tickets) s.views seat v w at in
            let one : weigh h v.tickets ≡ h n + 0 = ap (weigh h) ticket in
            let head : h n ≡ h kept.first = ap h first in
            let all : span h kept.first kept.count ≡ h kept.first + span h (suc kept.first) rest_count = ap (span h kept.first) some_wait in
            omega (arith, p, one, head, all, kept.tickets h));
        holders = (let p : weigh (λ u. length u.took) (set s.views seat w) + length v.took ≡ weigh (λ u. length u.took) s.views + 1
            = weigh-set (λ u. length u.took) s.views seat v w at in
            let nothing : length v.took ≡ 0 = ap length free in
            let bits : bit kept.out ≡ 0 = ap bit home in
            omega (arith, p, nothing, bits, kept.holders));
        own = λ h.
            (let p : weigh (λ u. weigh h u.own) (set s.views seat w) + weigh h v.own ≡ weigh (λ u. weigh h u.own) s.views + weigh h v.own
            = weigh-set (λ u. weigh h u.own) s.views seat v w at in
            omega (arith, p, kept.own h));
        fits = fits-set start kept.served seat kept.log kept.log s.views seat w
            (λ other u there apart f.
            record { room = f.room; holder = (λ book e. cc (e, none-hold start s kept home other u there)); ended = f.ended; full = f.full })
            (record {
              room = omega arith;
              holder = λ book e. (refl, cc (e));
              ended = λ e. absurd (omega (arith, e, here.room, ap length ticket));
              full = here.full;
            }) kept.fits;
      }

  -- what a look tells, where the number is the seat's ticket and where it isn't
  abbrev LookTells : Mine O C R → Mine O C R → Bool → Type 0
  LookTells me after hit = MatchBool hit ((book : Journaled O C R) × (after ≡ (takes_turn book me.0, (0, Some book) ∷ []))) (after ≡ me)

  -- what a look at the served number may make of the table
  abbrev LookGoes : Table O C R → ℕ → Mine O C R → Type 0
  LookGoes s seat me =
      (w : View (Journaled O C R) (Entry C R)) × (a : Act (Option (Journaled O C R))) × Valid s.homes me.1 a
      × IsRuled start (stepped s 1 (slice_index s.words 1) seat me.1 w a) × IsLooked me (slice_index s.words 1) (w, carried_after me.1 a)

  -- the number that is served is looked at
  pub looks : (slots seat : ℕ) (me : Mine O C R) (n : ℕ) → me.0.tickets ≡ n ∷ [] → me.0.took ≡ [] → me.1 ≡ []
      → Allows (IsRuled start) slots seat me 1 (λ k. k) (IsLooked me)
  looks slots seat me n ticket free light s kept wide at small =
      let serving : slice_index s.words 1 ≡ kept.serving = ap (λ ws. slice_index ws 1) kept.words in
      let among = waits-among start s kept seat me.0 n at ticket in
      let few = few-wait start s kept in
      let rest_count : ℕ = kept.count - 1 in
      let some_wait : kept.count ≡ suc rest_count = omega (arith, among) in
      by (eqb (slice_index s.words 1) (n % 2 ^ 64)) refl
      (λ found.
      let mine : kept.serving ≡ n % 2 ^ 64 = sym serving ∙ found in
      let turn = first-turn kept.serving kept.first n kept.out kept.turn mine among.0 (omega (arith, among.1, few)) in (
        turn.0,
        takes_over s kept seat me.0 n rest_count at ticket free mine some_wait turn.1 turn.0,
        ap (λ hs. get_elem? hs 0) (kept.homes ∙ ap (λ b. homed b (grown start kept.log)) turn.0),
      ))
      (unchanged s (set s.words 1 (slice_index s.words 1)) (set s.views seat me.0)
      (ap (λ ws. set ws 1 (slice_index ws 1)) kept.words ∙ sym kept.words) (set_again s.views seat me.0 at) kept)
    where
      by : (b : Bool) → eqb (slice_index s.words 1) (n % 2 ^ 64) ≡ b
          → (slice_index s.words 1 ≡ n % 2 ^ 64
          → (kept.out ≡ false) × IsRuled start record {
            words = set s.words 1 (slice_index s.words 1);
            homes = set s.homes 0 none;
            views = set s.views seat (takes_turn (grown start kept.log) me.0);
          } × (get_elem? s.homes 0 ≡ some (some (Some (grown start kept.log)))))
          → IsRuled start record { words = set s.words 1 (slice_index s.words 1); homes = s.homes; views = set s.views seat me.0 } → LookGoes s seat me
      by true test over still =
          let found : slice_index s.words 1 ≡ n % 2 ^ 64 = grind (arith, nat_tests) in
          let now = over found in (
            takes_turn (grown start kept.log) me.0,
            takes 0 (Some (grown start kept.log)),
            now.2,
            now.1,
            λ other is.
                let same : n ≡ other = cc in
                let after : Mine O C R = (takes_turn (grown start kept.log) me.0, (0, Some (grown start kept.log)) ∷ me.1) in
                subst (λ k. LookTells me after (eqb (slice_index s.words 1) (k % 2 ^ 64))) same
                (subst (LookTells me after) (sym test)
                (grown start kept.log, ap (λ (c : List (ℕ × Option (Journaled O C R))). (takes_turn (grown start kept.log) me.0, (0, Some (grown start kept.log)) ∷ c)) light)),
          )
      by false test over still = (
        me.0,
        keeps,
        tt,
        still,
        λ other is.
            let same : n ≡ other = cc in
            let after : Mine O C R = (me.0, me.1) in
            subst (λ k. LookTells me after (eqb (slice_index s.words 1) (k % 2 ^ 64))) same
            (subst (LookTells me after) (sym test) refl),
      )
