-- A round over six books, from what its desk promises of each rider.
use Rattle.ruled_desk.proofs.Words.{◌≡◌, refl, sym, ◌∙◌, ap, subst, ℕ, zero, suc, ◌-◌, ◌^◌, ◌<◌, ◌≤◌, ◌⊎◌, ◌↔◌, inl, inr, Bool, true, false, ◌||◌, List, []}
use Rattle.ruled_desk.proofs.Words.{◌∷◌, ◌++◌, length, map, Option, Some, None, Result, Ok, Err, arith, get_or-map, length-map, map-append, append-nil, OnOk}
use Rattle.ruled_desk.proofs.Words.{All, slice_index_or, list_any, Journaled, Entry, Refusal, Memory, Stamps, Ask, Note, Reply, send_note, reassembly_note}
use Rattle.ruled_desk.proofs.Words.{control_note, Crew, is_refused, Turned, HasLastStamp, GainsJust, Rider, AreNumbered, HasPass, NotesFull, OneIsUsedUp, Rode}
use Rattle.ruled_desk.proofs.Words.{all_joined, given_pass, is_rider_refused, known_with, pass_taken, SixLocked, SixKnown, Passed, nothing_known, AllGainJust}
use Rattle.ruled_desk.proofs.Words.{all_known, notes_full, AreActors, EndsAsTurns, IsWholeRound, OneIsFull, OneKnowsLast, crew_of, without_pass}
use Rattle.sides.specs.declared.side.Side.{Side}
use Rattle.actor_desk.specs.Books.{StampedBooks}
use Rattle.actor_turn.specs.Extending.{Extends, BooksExtend}
use Rattle.ruled_desk.proofs.Gaining.{In, any_of, gain_alike, in_contains}

module _ {A : Type 0} where
  -- ---- before the round

  pub numbered_riders : (first : ℕ) (crew : List (Crew A)) → AreActors first crew → AreNumbered first (map without_pass crew)
  numbered_riders first [] are = tt
  numbered_riders first (c ∷ crew) are = (are.0, numbered_riders (suc first) crew are.1)

  pub crew_again : (crew : List (Crew A)) → crew_of (map without_pass crew) ≡ crew
  crew_again [] = refl
  crew_again (c ∷ crew) = ap (λ rest. c ∷ rest) (crew_again crew)

  -- actors of whom some are riders
  pub put_again : (crew all : List (Crew A)) (riders : List (Rider A)) → map without_pass crew ++ riders ≡ map without_pass all → crew ++ crew_of riders ≡ all
  put_again crew all riders is =
      ap (λ l. l ++ crew_of riders) (sym (crew_again crew)) ∙ sym (map-append (λ rider. rider.crew) (map without_pass crew) riders) ∙ ap (λ l. crew_of l) is ∙ crew_again all

  pub all_given : (desk : SixLocked) (riders : List (Rider A)) → All (HasPass desk) (map (given_pass desk) riders)
  all_given desk [] k d within = absurd (omega (arith, within))
  all_given desk (rider ∷ riders) zero d within =
      (refl, record { send_a = refl; send_b = refl; reassembly_a = refl; reassembly_b = refl; control_a = refl; control_b = refl })
  all_given desk (rider ∷ riders) (suc k) d within = all_given desk riders k d (omega (arith, within))

  pub numbered_given : (desk : SixLocked) (first : ℕ) (riders : List (Rider A)) → AreNumbered first riders → AreNumbered first (map (given_pass desk) riders)
  numbered_given desk first [] are = tt
  numbered_given desk first (rider ∷ riders) are = (are.0, numbered_given desk (suc first) riders are.1)

  pub crew_taken : (riders : List (Rider A)) → crew_of (map pass_taken riders) ≡ crew_of riders
  crew_taken [] = refl
  crew_taken (rider ∷ riders) = ap (λ rest. rider.crew ∷ rest) (crew_taken riders)

extends : {O C R : Type 0} (old new : Journaled O C R) (own : List (Entry C R)) (full : Bool) → GainsJust old new own full → Extends old new
extends old new own full g = record {
  more = g.gained;
  opening = ap (λ (j : Journaled _ _ _). j.opening) g.new_is;
  journal = ap (λ (j : Journaled _ _ _). j.journal) g.new_is;
}

pub all_extend : (before after : StampedBooks) (known : SixKnown) → AllGainJust before after known → BooksExtend before after
all_extend before after known gains = record {
  send_a = extends before.send_a after.send_a known.send_a.own known.send_a.full gains.send_a;
  send_b = extends before.send_b after.send_b known.send_b.own known.send_b.full gains.send_b;
  reassembly_a = extends before.reassembly_a after.reassembly_a known.reassembly_a.own known.reassembly_a.full gains.reassembly_a;
  reassembly_b = extends before.reassembly_b after.reassembly_b known.reassembly_b.own known.reassembly_b.full gains.reassembly_b;
  control_a = extends before.control_a after.control_a known.control_a.own known.control_a.full gains.control_a;
  control_b = extends before.control_b after.control_b known.control_b.own known.control_b.full gains.control_b;
}

stays : {O C R : Type 0} (old : Journaled O C R) → Extends old old
stays old = record { more = []; opening = refl; journal = sym (append-nil old.journal) }

-- books that are as they were
pub same_extend : (before after : StampedBooks) → after ≡ before → BooksExtend before after
same_extend before after same =
    subst (λ books. BooksExtend before books) (sym same) (record {
      send_a = stays before.send_a;
      send_b = stays before.send_b;
      reassembly_a = stays before.reassembly_a;
      reassembly_b = stays before.reassembly_b;
      control_a = stays before.control_a;
      control_b = stays before.control_b;
    })

module _ {A : Type 0} (asks : A → Option Ask) (takes : Reply → A → A) (desk : SixLocked) where
  abbrev Rides : List (Rider A) → List (Rider A) → Type 0
  Rides old new = (i : ℕ) (d : Rider A) → i < length old → Rode asks takes desk (slice_index_or old i d) (slice_index_or new i d)

  -- of the riders before they were given their passes
  pub rode_given : (old new : List (Rider A)) → Rides (map (given_pass desk) old) new → (i : ℕ) (d : Rider A) → i < length old
      → Rode asks takes desk (given_pass desk (slice_index_or old i d)) (slice_index_or new i d)
  rode_given old new rides i d within =
      subst (λ (r : Rider A). Rode asks takes desk r (slice_index_or new i d)) (get_or-map (given_pass desk) old i d d within)
      (rides i d (omega (arith, length-map old (given_pass desk), within)))

  -- each has its pass after the round
  pub all_have : (old new : List (Rider A)) → length new ≡ length old → Rides old new → All (HasPass desk) new
  all_have old new long rides k d within = (rides k d (omega (arith, long, within))).has

  -- the actors keep their numbers
  pub still_numbered : (first : ℕ) (old new : List (Rider A)) → length new ≡ length old → Rides old new → AreNumbered first old → AreNumbered first new
  still_numbered first [] [] long rides are = tt
  still_numbered first [] (r ∷ new) long rides are = absurd (omega (arith, long))
  still_numbered first (r ∷ old) [] long rides are = absurd (omega (arith, long))
  still_numbered first (r ∷ old) (s ∷ new) long rides are = (
    (rides 0 r (omega arith)).turned.made.actor ∙ are.0,
    still_numbered (suc first) old new (omega (arith, long)) (λ i d within. rides (suc i) d (omega (arith, within))) are.1,
  )

  pub all_turned : (old new : List (Rider A)) → length new ≡ length old
      → ((i : ℕ) (d : Rider A) → i < length old → Rode asks takes desk (given_pass desk (slice_index_or old i d)) (slice_index_or new i d))
      → (i : ℕ) (d : Crew A) → i < length (crew_of old) → Turned asks takes (slice_index_or (crew_of old) i d) (slice_index_or (crew_of new) i d)
  all_turned old new long rode i d within =
      let inside : i < length old = omega (arith, length-map old (λ (r : Rider A). r.crew), within) in
      let before = get_or-map (λ (r : Rider A). r.crew) old i (without_pass d) d inside in
      let after = get_or-map (λ (r : Rider A). r.crew) new i (without_pass d) d (omega (arith, long, inside)) in
      subst (λ (c : Crew A). Turned asks takes c (slice_index_or (crew_of new) i d)) (sym before)
      (subst (λ (c : Crew A). Turned asks takes (slice_index_or old i (without_pass d)).crew c) (sym after) (rode i (without_pass d) inside).turned)

  pub all_done : (riders : List (Rider A)) → All (λ rider. rider.crew.refused ≡ None) riders → All (λ c. c.refused ≡ None) (crew_of riders)
  all_done riders done i d within =
      let inside : i < length riders = omega (arith, length-map riders (λ (r : Rider A). r.crew), within) in
      ap (λ (c : Crew A). c.refused) (get_or-map (λ (r : Rider A). r.crew) riders i (without_pass d) d inside) ∙ done i (without_pass d) inside

  pub lists_again : (riders : List (Rider A)) → map (λ (c : Crew A). c.list) (crew_of riders) ≡ map (λ (r : Rider A). r.crew.list) riders
  lists_again [] = refl
  lists_again (rider ∷ riders) = ap (λ rest. rider.crew.list ∷ rest) (lists_again riders)

  -- their refusals are those of the riders
  refused_again : (kind : Refusal) (riders : List (Rider A)) → list_any (is_rider_refused kind) riders ≡ list_any (is_refused kind) (crew_of riders)
  refused_again kind [] = refl
  refused_again kind (rider ∷ riders) = ap (λ b. is_refused kind rider.crew || b) (refused_again kind riders)

  -- whatever the round answered
  pub ends_then : {T : Type 0} (r : Result T Refusal) (old given new taken : List (Rider A)) → given ≡ map (given_pass desk) old
      → length new ≡ length given → Rides given new → taken ≡ map pass_taken new → ((r ≡ Err Memory) ↔ (list_any (is_rider_refused Memory) new ≡ true))
      → ((r ≡ Err Stamps) ↔ ((list_any (is_rider_refused Memory) new ≡ false) × (list_any (is_rider_refused Stamps) new ≡ true)))
      → EndsAsTurns asks takes (crew_of old) (crew_of taken) r
  ends_then r old given new taken given_is long rides taken_is memory stamps =
      let many : length new ≡ length old = long ∙ ap (λ l. length l) given_is ∙ length-map old (given_pass desk) in
      let rode : Rides (map (given_pass desk) old) new = subst (λ l. Rides l new) given_is rides in
      subst (λ crew. EndsAsTurns asks takes (crew_of old) crew r) (sym (ap (λ l. crew_of l) taken_is ∙ crew_taken new)) (record {
        turned = all_turned old new many (rode_given old new rode);
        memory = subst (λ b. (r ≡ Err Memory) ↔ (b ≡ true)) (refused_again Memory new) memory;
        stamps = subst (λ b. (r ≡ Err Stamps) ↔ ((list_any (is_refused Memory) (crew_of new) ≡ false) × (b ≡ true))) (refused_again Stamps new)
            (subst (λ b. (r ≡ Err Stamps) ↔ ((b ≡ false) × (list_any (is_rider_refused Stamps) new ≡ true))) (refused_again Memory new) stamps);
      })

  -- the whole round
  pub whole_round : (old new : List (Rider A)) (before after : StampedBooks) → length new ≡ length old → Rides (map (given_pass desk) old) new
      → All (λ rider. rider.crew.refused ≡ None) new → AllGainJust before after (all_joined (nothing_known desk) new)
      → IsWholeRound asks takes (crew_of old) (crew_of new) before after
  whole_round old new before after long rides done gains =
      let rode = rode_given old new rides in record {
        many = length-map new (λ (r : Rider A). r.crew) ∙ long ∙ sym (length-map old (λ (r : Rider A). r.crew));
        turned = all_turned old new long rode;
        done = all_done new done;
        extend = all_extend before after (all_joined (nothing_known desk) new) gains;
        alike = rw (lists_again old, lists_again new) (gain_alike asks takes desk old new before after long rode done gains);
      }

  -- at the end, where it was Ok
  pub whole_ok : {T : Type 0} (r : Result T Refusal) (old given new taken : List (Rider A)) (before after : StampedBooks) (known first : SixKnown)
      → given ≡ map (given_pass desk) old → length new ≡ length given → Rides given new → taken ≡ map pass_taken new → first ≡ nothing_known desk
      → known ≡ all_joined first new → AllGainJust before after known → OnOk r (All (λ rider. rider.crew.refused ≡ None) new)
      → OnOk r (IsWholeRound asks takes (crew_of old) (crew_of taken) before after)
  whole_ok (Ok x) old given new taken before after known first given_is long rides taken_is first_is known_is gains done =
      let many : length new ≡ length old = long ∙ ap (λ l. length l) given_is ∙ length-map old (given_pass desk) in
      let rode : Rides (map (given_pass desk) old) new = subst (λ l. Rides l new) given_is rides in
      let all : AllGainJust before after (all_joined (nothing_known desk) new) =
      subst (λ k. AllGainJust before after k) (known_is ∙ ap (λ k. all_joined k new) first_is) gains in
      subst (λ crew. IsWholeRound asks takes (crew_of old) crew before after) (sym (ap (λ l. crew_of l) taken_is ∙ crew_taken new))
      (whole_round old new before after many rode done all)
  whole_ok (Err refusal) old given new taken before after known first given_is long rides taken_is first_is known_is gains done = tt

-- ---- stamps are used up

or_left : (a b : Bool) → a ≡ true → (a || b) ≡ true
or_left = elim [ true ↦ λ b e. refl | false ↦ λ b e. cc ]

or_right : (a b : Bool) → b ≡ true → (a || b) ≡ true
or_right = elim [ true ↦ λ b e. refl | false ↦ λ b e. e ]

-- what was noted stays noted
full_stays : (ask : Ask) (books more : SixKnown) → notes_full ask books ≡ true → notes_full ask (all_known books more) ≡ true
full_stays (Ask.Send Side.A call) books more e = or_left books.send_a.full more.send_a.full e
full_stays (Ask.Send Side.B call) books more e = or_left books.send_b.full more.send_b.full e
full_stays (Ask.Reassembly Side.A call) books more e = or_left books.reassembly_a.full more.reassembly_a.full e
full_stays (Ask.Reassembly Side.B call) books more e = or_left books.reassembly_b.full more.reassembly_b.full e
full_stays (Ask.Control Side.A call) books more e = or_left books.control_a.full more.control_a.full e
full_stays (Ask.Control Side.B call) books more e = or_left books.control_b.full more.control_b.full e
full_stays (Ask.Local step) books more e = e

full_there : (ask : Ask) (books more : SixKnown) → notes_full ask more ≡ true → notes_full ask (all_known books more) ≡ true
full_there (Ask.Send Side.A call) books more e = or_right books.send_a.full more.send_a.full e
full_there (Ask.Send Side.B call) books more e = or_right books.send_b.full more.send_b.full e
full_there (Ask.Reassembly Side.A call) books more e = or_right books.reassembly_a.full more.reassembly_a.full e
full_there (Ask.Reassembly Side.B call) books more e = or_right books.reassembly_b.full more.reassembly_b.full e
full_there (Ask.Control Side.A call) books more e = or_right books.control_a.full more.control_a.full e
full_there (Ask.Control Side.B call) books more e = or_right books.control_b.full more.control_b.full e
full_there (Ask.Local step) books more e = e

full_with : (ask : Ask) (books : SixKnown) (pass : Option Passed) → notes_full ask books ≡ true → notes_full ask (known_with books pass) ≡ true
full_with ask books None e = e
full_with ask books (Some pass) e = full_stays ask books pass.books e

module _ {A : Type 0} where
  full_joined : (ask : Ask) (books : SixKnown) (riders : List (Rider A)) → notes_full ask books ≡ true → notes_full ask (all_joined books riders) ≡ true
  full_joined ask books [] e = e
  full_joined ask books (rider ∷ riders) e = full_joined ask (known_with books rider.pass) riders (full_with ask books rider.pass e)

  noted_full : (books : SixKnown) (riders : List (Rider A)) (i : ℕ) (d : Rider A) → i < length riders → NotesFull (slice_index_or riders i d).pass
      → (ask : Ask) × (notes_full ask (all_joined books riders) ≡ true)
  noted_full books [] i d within full = absurd (omega (arith, within))
  noted_full books (rider ∷ riders) zero d within full = by rider.pass full (λ ask e. full_joined ask (known_with books rider.pass) riders e) refl
    where
      by : (pass : Option Passed) → NotesFull pass → ((ask : Ask) → notes_full ask (known_with books rider.pass) ≡ true → notes_full ask (all_joined (known_with books rider.pass) riders) ≡ true)
          → rider.pass ≡ pass → (ask : Ask) × (notes_full ask (all_joined (known_with books rider.pass) riders) ≡ true)
      by None full later is = absurd full
      by (Some pass) full later is =
          (full.0, later full.0 (subst (λ p. notes_full full.0 (known_with books p) ≡ true) (sym is) (full_there full.0 books pass.books full.1)))
  noted_full books (rider ∷ riders) (suc i) d within full = noted_full (known_with books rider.pass) riders i d (omega (arith, within)) full

-- the entry with the last stamp, as a note
last_note : {C R : Type 0} (f : Entry C R → Note) → ((e : Entry C R) → (f e).stamp ≡ e.stamp) → (entries : List (Entry C R)) → HasLastStamp entries
    → (note : Note) × In note (map f entries) × (note.stamp ≡ 4611686018427387903)
last_note f keeps [] last = absurd last
last_note f keeps (e ∷ entries) (inl here) = (f e, inl refl, keeps e ∙ here)
last_note f keeps (e ∷ entries) (inr there) = let later = last_note f keeps entries there in (later.0, inr later.1, later.2)

full_book : (before after : StampedBooks) (known : SixKnown) → AllGainJust before after known → (ask : Ask) → notes_full ask known ≡ true → OneIsFull after
full_book before after known gains (Ask.Send Side.A call) e =
    let l = last_note (send_note Side.A) (λ x. refl) after.send_a.journal (gains.send_a.last e) in
    record { book = 0; note = l.0; stands = in_contains _ l.0 l.1; last = l.2 }
full_book before after known gains (Ask.Send Side.B call) e =
    let l = last_note (send_note Side.B) (λ x. refl) after.send_b.journal (gains.send_b.last e) in
    record { book = 1; note = l.0; stands = in_contains _ l.0 l.1; last = l.2 }
full_book before after known gains (Ask.Reassembly Side.A call) e =
    let l = last_note (reassembly_note Side.A) (λ x. refl) after.reassembly_a.journal (gains.reassembly_a.last e) in
    record { book = 2; note = l.0; stands = in_contains _ l.0 l.1; last = l.2 }
full_book before after known gains (Ask.Reassembly Side.B call) e =
    let l = last_note (reassembly_note Side.B) (λ x. refl) after.reassembly_b.journal (gains.reassembly_b.last e) in
    record { book = 3; note = l.0; stands = in_contains _ l.0 l.1; last = l.2 }
full_book before after known gains (Ask.Control Side.A call) e =
    let l = last_note (control_note Side.A) (λ x. refl) after.control_a.journal (gains.control_a.last e) in
    record { book = 4; note = l.0; stands = in_contains _ l.0 l.1; last = l.2 }
full_book before after known gains (Ask.Control Side.B call) e =
    let l = last_note (control_note Side.B) (λ x. refl) after.control_b.journal (gains.control_b.last e) in
    record { book = 5; note = l.0; stands = in_contains _ l.0 l.1; last = l.2 }
full_book before after known gains (Ask.Local step) e = cc

module _ {A : Type 0} where
  pub whole_used_up : (books : SixKnown) (riders : List (Rider A)) (before after : StampedBooks) → AllGainJust before after (all_joined books riders)
      → OneIsUsedUp riders → OneKnowsLast (crew_of riders) ⊎ OneIsFull after
  whole_used_up books riders before after gains used = by (used.2 (any_of riders used.0 used.1))
    where
      by : (2 ^ 62 - 1 ≤ (slice_index_or riders used.0 (any_of riders used.0 used.1)).crew.pass.stamp)
          ⊎ NotesFull (slice_index_or riders used.0 (any_of riders used.0 used.1)).pass
          → OneKnowsLast (crew_of riders) ⊎ OneIsFull after
      by (inl late) = inl (record {
        actor = used.0;
        within = omega (arith, length-map riders (λ (r : Rider A). r.crew), used.1);
        last = λ d.
            subst (λ (c : Crew A). 2 ^ 62 - 1 ≤ c.pass.stamp)
            (sym (get_or-map (λ (r : Rider A). r.crew) riders used.0 (any_of riders used.0 used.1) d used.1)) late;
      })
      by (inr full) =
          let noted = noted_full books riders used.0 (any_of riders used.0 used.1) used.1 full in
          inr (full_book before after (all_joined books riders) gains noted.0 noted.1)

  -- at the end, where stamps were used up
  pub used_up_then : (new taken : List (Rider A)) (before after : StampedBooks) (known first : SixKnown) → taken ≡ map pass_taken new
      → known ≡ all_joined first new → AllGainJust before after known → OneIsUsedUp new → OneKnowsLast (crew_of taken) ⊎ OneIsFull after
  used_up_then new taken before after known first taken_is known_is gains used =
      subst (λ crew. OneKnowsLast crew ⊎ OneIsFull after) (sym (ap (λ l. crew_of l) taken_is ∙ crew_taken new))
      (whole_used_up first new before after (subst (λ k. AllGainJust before after k) known_is gains) used)
