-- Pieces are few: each one either is limited, or takes a cut away (proofs/Cuts). A limited one is a full segment, of which a path is granted as many as fit
-- into the file; or it reaches as far as bytes may be granted, once until more may be.
use Rattle.std.proofs.Common.{◌≡◌, refl, sym, subst, ap, ◌∙◌, ◌⊎◌, inl, inr, ⊎_elim, ℕ, zero, suc, ◌+◌, ◌-◌, ◌*◌, ◌/◌, ◌<◌, ◌≤◌, min, max, arith, Bool, true, false, true≢false, not, ◌||◌, if◌then◌else◌, cond, nat_le, nat_lt, le_refl, Option, Some, None, Result, Ok, Err, List, [], ◌∷◌, ◌++◌, count_by, drop, length, map, position, replicate, sum_by, take}
use Rattle.octet_text.specs.Prefix.{IsPrefix}
use Rattle.std.specs.List.{position_or_len, prefix_len, slice_get}
use Rattle.std.specs.Option.{option_map}
use Rattle.std.proofs.Math.Nat.{div-mul-le_self, mul-add, suc-mul}
use Rattle.std.proofs.lemmas.Bool.{both_ways, cases_eq, cases_lt, leb-false, lt-ltb, ltb-true}
use Rattle.std.proofs.lemmas.List.{length-append, length-drop}
use Rattle.std.proofs.lemmas.List.Sums.{count_by-le-length, prefix_len-le-length, prefix_len_stops, sum_by-cons}
use Rattle.std.proofs.lemmas.Nat.{le-div}
use Rattle.std.proofs.lemmas.Option.{get_or_from_slice_get, same_Some, slice_get-map}
use Rattle.sides.specs.declared.side.Side.{Side}
use Rattle.sides.specs.declared.side.Side.TheVariants.{A, B}
use Rattle.send_book.specs.declared.call.SendCall.{SendCall}
use Rattle.send_book.specs.declared.call.SendCall.TheVariants.{Write, Close, Grant, AckIn, Return, GoIdentity, GoInfinite, Abort}
use Rattle.send_book.specs.declared.call.Span.{Span}
use Rattle.send_book.specs.declared.call.Why.{Why}
use Rattle.send_book.specs.declared.call.Why.TheVariants.{Backup, Ended, WindowShut}
use Rattle.send_book.specs.declared.mark.ByteMark.{ByteMark}
use Rattle.send_book.specs.declared.mark.ByteMark.TheVariants.{Acked, Held, Free}
use Rattle.send_book.specs.Marks.{given, is_free_for, is_held_by}
use Rattle.send_book.specs.State.{Sending}
use Rattle.send_book.specs.Tried.{contains, no_paths}
use Rattle.send_book.specs.Steps.{after_call, bytes_taken, decision, fin_after, first_free, given_by, is_for, is_future, is_gathered, run_len, span_at, span_from}
use Rattle.send_book.proofs.Decisions.{MayTake, decision-MayTake, first_free-within}
use Rattle.send_book.proofs.Lists.{slice_get-changed_inside, slice_get-drop, slice_get-prefix}
use Rattle.send_book.proofs.PathSets.{contains-insert}
use Rattle.stream_lanes.specs.Marks.{spent, spent_count}
use Rattle.stream_lanes.proofs.Lists.{in_map, in_set}
use Rattle.actor_desk.specs.Books.{books_in}
use Rattle.actor_desk.specs.Desk.{SixBooks, after_ask, send_of}
use Rattle.actor_desk.specs.Words.{pick}
use Rattle.actor_desk.specs.declared.ask.Reply.{Reply}
use Rattle.actor_desk.specs.declared.ask.Ask.{Ask}
use Rattle.actor_desk.specs.declared.ask.Ask.TheVariants as asks
use Rattle.path_agenda.specs.declared.duty.Duty.{Duty}
use Rattle.path_core.specs.Duties.{answered, ask_for}
use Rattle.path_core.specs.Profile.{Profile}
use Rattle.path_core.specs.Start.{waiting_path}
use Rattle.path_core.specs.State.{PathState, path_of}
use Rattle.path_core.specs.Steps.{asks_first, next_round, takes}
use Rattle.path_core.specs.Values.{Carried, values}
use Rattle.world_laws.specs.declared.member.Member.TheVariants.{App, Path}
use Rattle.world_laws.specs.Actors.{Actor, ActorCrew, member_asks, member_next, member_takes}
use Rattle.world_laws.specs.Openings.{PathPlan, Start, opened_world, path_begins}
use Rattle.world_laws.specs.Promises.{HasRoom, written_by}
use Rattle.world_laws.specs.RoundDone.{reached}
use Rattle.world_laws.specs.RoundEnd.{asks_grant}
use Rattle.world_laws.specs.StampedBooks.{answer_to}
use Rattle.world_laws.specs.Worlds.{Turn, WorldState, after_turn, begins, crew_after, greatest, world_run}
use Rattle.world_laws.proofs.Rounds.Frame.{first_keeps, takes_keeps}
use Rattle.world_laws.proofs.Weaving.Journals.{books_after}
use Rattle.world_laws.proofs.Weaving.WholeRounds.{run_append}
use Rattle.world_laws.proofs.Worlds.CastLifting.{writes_the_files}
use Rattle.world_laws.proofs.Worlds.Opened.{opened_actors}
use Rattle.world_laws.proofs.Worlds.Turns.{run_so, turn_so}
use Rattle.whole_paths.specs.Finish.{payload_of}
use Rattle.whole_paths.specs.GrantedPieces.{PiecesAreFew, held, open_len, openings_of, pieces_of}
use Rattle.whole_paths.specs.Holders.{holds}
use Rattle.whole_paths.specs.News.{one_if}
use Rattle.whole_paths.proofs.BookNews.{spent_stays}
use Rattle.whole_paths.proofs.Cuts.{Gives, cuts, cuts_acked, cuts_returned, cuts_written, no_more_given, one_fewer_given, one_more_given, own_given}
use Rattle.whole_paths.proofs.GivenBack.{count_up}
use Rattle.whole_paths.proofs.Holding.{app_never}
use Rattle.whole_paths.proofs.MarkSteps.{AsksFor, held_before, mark_step, some_at}
use Rattle.whole_paths.proofs.Refusals.{AtGrant, asks_bytes, asks_none_of_it, at_grant}
use Rattle.whole_paths.proofs.TriedBytes.{marks_are_whole}

-- ---- what is granted

-- a span that the path is granted begins at the first byte that is free for it, and ends by its size, as far as bytes may be granted, or before a byte that
-- isn't free for it
pub record IsRun (asker most : ℕ) (b : Sending) (span : Span) : Type 0 where
  pub first : (place : ℕ) (mark : ByteMark) → suc place ≡ span.from → slice_get b.marks place ≡ Some mark → is_free_for asker mark ≡ false
  pub ends : (span.to ≡ span.from + most) ⊎ ((span.to ≡ min b.edge (length b.marks)) ⊎ ((past : ByteMark) × (slice_get b.marks span.to ≡ Some past) × (is_free_for asker past ≡ false)))

module _ (asker most : ℕ) (b : Sending) (span : Span) where
  abbrev free_for : ByteMark → Bool
  free_for = is_free_for asker

  passed_over : (c : Bool) (w : Why) (r : Result Span Why) → (if c then Err w else r) ≡ Ok span → r ≡ Ok span
  passed_over true w r e = cc
  passed_over false w r e = e

  first_is : (from : ℕ) → first_free asker b ≡ Some from → from ≡ position_or_len free_for b.marks
  first_is from is = by (is_for asker b.owner) is
    where
      found : (c : Bool) → (if c then Some (position_or_len free_for b.marks) else None) ≡ Some from → from ≡ position_or_len free_for b.marks
      found true at = sym (same_Some (position_or_len free_for b.marks) from at)
      found false at = cc

      by : (c : Bool) → (if c then position free_for b.marks else None) ≡ Some from → from ≡ position_or_len free_for b.marks
      by true at = found (nat_lt (position_or_len free_for b.marks) (length b.marks)) at
      by false at = cc

  not_so : (c : Bool) → not c ≡ true → c ≡ false
  not_so true is = absurd (true≢false (sym is))
  not_so false is = refl

  run_first : (from place : ℕ) (mark : ByteMark) → from ≡ position_or_len free_for b.marks → suc place ≡ from → slice_get b.marks place ≡ Some mark → free_for mark ≡ false
  run_first from place mark is before there = not_so (free_for mark) (slice_get-prefix (λ x. not (free_for x)) b.marks place mark (omega (arith, is, before)) there)

  run_ends : (from to : ℕ) → from < b.edge → from < length b.marks → to ≡ from + run_len asker most b from
      → (to ≡ from + most) ⊎ ((to ≡ min b.edge (length b.marks)) ⊎ ((past : ByteMark) × (slice_get b.marks to ≡ Some past) × (free_for past ≡ false)))
  run_ends from to under low is = ⊎_elim (λ less. inr (⊎_elim (λ inside. inr (stops inside less)) (λ rest. inl (omega (arith, is, less, rest, within, size, under, low))) (cases_lt count (min (b.edge - from) (length (drop from b.marks))))))
      (λ full. inl (omega (arith, is, full))) (cases_lt (run_len asker most b from) most)
    where
      count : ℕ
      count = prefix_len free_for (drop from b.marks)

      size : length (drop from b.marks) ≡ length b.marks - from
      size = length-drop from b.marks

      within : count ≤ length (drop from b.marks)
      within = prefix_len-le-length free_for (drop from b.marks)

      stops : count < min (b.edge - from) (length (drop from b.marks)) → run_len asker most b from < most → (past : ByteMark) × (slice_get b.marks to ≡ Some past) × (free_for past ≡ false)
      stops inside less =
          let at : to ≡ from + count = omega (arith, is, less, inside) in
          let there = some_at to b.marks (omega (arith, at, inside, size)) in
          let behind : slice_get (drop from b.marks) count ≡ Some there.0 = slice_get-drop from b.marks count to at ∙ there.1 in (
            there.0,
            there.1,
            sym (ap free_for (get_or_from_slice_get (drop from b.marks) count there.0 there.0 behind)) ∙ prefix_len_stops free_for (drop from b.marks) there.0 (omega (arith, inside)),
          )

  run_from : (from : ℕ) → from ≡ position_or_len free_for b.marks → from < length b.marks → span_from asker most b from ≡ Ok span → IsRun asker most b span
  run_from from is low e = by (nat_le b.edge from) refl e
    where
      by : (c : Bool) → nat_le b.edge from ≡ c → (if c then Err WindowShut else Ok (record { from = from; to = from + run_len asker most b from })) ≡ Ok span → IsRun asker most b span
      by true shut e = cc
      by false shut e = let same : record { from = from; to = from + run_len asker most b from } ≡ span = cc in
          subst (λ (x : Span). IsRun asker most b x) same (record {
            first = λ place mark before there. run_first from place mark is before there;
            ends = run_ends from (from + run_len asker most b from) (leb-false _ _ shut) low refl;
          })

  pub is_run : (standby : Bool) → decision asker most standby b ≡ Ok span → IsRun asker most b span
  is_run standby e = by (first_free asker b) refl (passed_over standby Backup _ (passed_over _ Ended _ e))
    where
      by : (o : Option ℕ) → first_free asker b ≡ o → span_at asker most b o ≡ Ok span → IsRun asker most b span
      by None is e = cc
      by (Some from) is e = run_from from (first_is from is) (first_free-within asker b from is) e

-- ---- limits

-- the path was granted, or may no longer be granted, the last byte that may be granted
abbrev at_limit : ℕ → ℕ → List ByteMark → Bool
at_limit q zero ms = true
at_limit q (suc last) ms = spent q (slice_get ms last)

-- of paths from a number on whose full segments have these sizes
abbrev limits : ℕ → List ℕ → Sending → ℕ
limits q [] b = 0
limits q (size ∷ sizes) b = spent_count q b.marks / size + one_if (at_limit q (open_len b) b.marks) + limits (suc q) sizes b

abbrev Spends : Sending → Sending → Type 0
Spends b c = (path place : ℕ) → spent path (slice_get b.marks place) ≡ true → spent path (slice_get c.marks place) ≡ true

abbrev HaveSizes : List ℕ → Type 0
HaveSizes sizes = (i size : ℕ) → slice_get sizes i ≡ Some size → 1 ≤ size

one_at_most : (b : Bool) → one_if b ≤ 1
one_at_most true = omega arith
one_at_most false = omega arith

one_stays : (b c : Bool) → (b ≡ true → c ≡ true) → one_if b ≤ one_if c
one_stays true true keeps = omega arith
one_stays false c keeps = omega arith
one_stays true false keeps = absurd (true≢false (sym (keeps refl)))

quotient_up : (m n k : ℕ) → 1 ≤ k → m ≤ n → m / k ≤ n / k
quotient_up m n k some up = le-div (m / k) n k (omega (arith, some)) (let low = div-mul-le_self m k in omega (arith, low, up))

quotient_rises : (m n k : ℕ) → 1 ≤ k → m + k ≤ n → m / k < n / k
quotient_rises m n k some up = let more = le-div (m / k + 1) n k (omega (arith, some)) (let low = div-mul-le_self m k in omega (arith, low, up)) in omega (arith, more)

module _ (b c : Sending) (spends : Spends b c) where
  count_of : (q : ℕ) → spent_count q b.marks ≤ spent_count q c.marks
  count_of q = count_up (spent q) refl b.marks c.marks (spends q)

  at_limit_up : (q last : ℕ) → at_limit q last b.marks ≡ true → at_limit q last c.marks ≡ true
  at_limit_up q zero is = refl
  at_limit_up q (suc last) is = spends q last is

  pub limits_up : open_len b ≡ open_len c → (q : ℕ) (sizes : List ℕ) → HaveSizes sizes → limits q sizes b ≤ limits q sizes c
  limits_up same q [] have = omega arith
  limits_up same q (size ∷ sizes) have =
      let one = quotient_up (spent_count q b.marks) (spent_count q c.marks) size (have 0 size refl) (count_of q) in
      let two = one_stays (at_limit q (open_len b) b.marks) (at_limit q (open_len c) c.marks) (λ is. subst (λ (l : ℕ). at_limit q l c.marks ≡ true) same (at_limit_up q (open_len b) is)) in
      let rest = limits_up same (suc q) sizes (λ i size there. have (suc i) size there) in omega (arith, one, two, rest)

  pub limits_wide : (q : ℕ) (sizes : List ℕ) → HaveSizes sizes → limits q sizes b ≤ limits q sizes c + length sizes
  limits_wide q [] have = omega arith
  limits_wide q (size ∷ sizes) have =
      let one = quotient_up (spent_count q b.marks) (spent_count q c.marks) size (have 0 size refl) (count_of q) in
      let two = one_at_most (at_limit q (open_len b) b.marks) in
      let rest = limits_wide (suc q) sizes (λ i size there. have (suc i) size there) in omega (arith, one, two, rest)

  -- a full segment more was granted to the path, or the last byte that may be granted
  abbrev IsLimited : ℕ → ℕ → Type 0
  IsLimited q size = (spent_count q b.marks + size ≤ spent_count q c.marks) ⊎ ((at_limit q (open_len b) b.marks ≡ false) × (at_limit q (open_len c) c.marks ≡ true))

  pub limits_rise : open_len b ≡ open_len c → (i q path size : ℕ) (sizes : List ℕ) → HaveSizes sizes → path ≡ q + i → slice_get sizes i ≡ Some size → IsLimited path size → limits q sizes b < limits q sizes c
  limits_rise same i q path size [] have is there limited = cc
  limits_rise same zero q path size (first ∷ sizes) have is there limited =
      subst (λ x. IsLimited x size → limits q (first ∷ sizes) b < limits q (first ∷ sizes) c) (omega (arith, is)) (subst (λ x. IsLimited q x → limits q (first ∷ sizes) b < limits q (first ∷ sizes) c) (same_Some first size there) by) limited
    where
      rest : limits (suc q) sizes b ≤ limits (suc q) sizes c
      rest = limits_up same (suc q) sizes (λ i size there. have (suc i) size there)

      by : IsLimited q first → limits q (first ∷ sizes) b < limits q (first ∷ sizes) c
      by (inl full) =
          let one = quotient_rises (spent_count q b.marks) (spent_count q c.marks) first (have 0 first refl) full in
          let two = one_stays (at_limit q (open_len b) b.marks) (at_limit q (open_len c) c.marks) (λ is. subst (λ (l : ℕ). at_limit q l c.marks ≡ true) same (at_limit_up q (open_len b) is)) in
          let more = rest in omega (arith, one, two, more)
      by (inr last) =
          let one = quotient_up (spent_count q b.marks) (spent_count q c.marks) first (have 0 first refl) (count_of q) in
          let old : one_if (at_limit q (open_len b) b.marks) ≡ 0 = ap one_if last.0 in
          let new : one_if (at_limit q (open_len c) c.marks) ≡ 1 = ap one_if last.1 in
          let more = rest in omega (arith, one, old, new, more)
  limits_rise same (suc i) q path size (first ∷ sizes) have is there limited =
      let one = quotient_up (spent_count q b.marks) (spent_count q c.marks) first (have 0 first refl) (count_of q) in
      let two = one_stays (at_limit q (open_len b) b.marks) (at_limit q (open_len c) c.marks) (λ is. subst (λ (l : ℕ). at_limit q l c.marks ≡ true) same (at_limit_up q (open_len b) is)) in
      let rest = limits_rise same i (suc q) path size sizes (λ i size there. have (suc i) size there) (omega (arith, is)) there limited in omega (arith, one, two, rest)

-- ---- by a call

-- where so many places more pass a test
module _ (t : Option ByteMark → Bool) (never : t None ≡ false) where
  abbrev many : List ByteMark → ℕ
  many ms = count_by (λ m. t (Some m)) ms

  first_of : (m : ByteMark) (ms : List ByteMark) → many (m ∷ ms) ≡ cond (t (Some m)) 1 0 + many ms
  first_of m ms = sum_by-cons (λ x. cond (t (Some x)) 1 0) m ms

  one_up : (b c : Bool) → (b ≡ true → c ≡ true) → cond {A = ℕ} b 1 0 ≤ cond c 1 0
  one_up true true keeps = omega arith
  one_up false c keeps = omega arith
  one_up true false keeps = absurd (true≢false (sym (keeps refl)))

  many_more : (from count : ℕ) (xs ys : List ByteMark) → ((place : ℕ) → t (slice_get xs place) ≡ true → t (slice_get ys place) ≡ true)
      → ((place : ℕ) → from ≤ place → place < from + count → t (slice_get xs place) ≡ false) → ((place : ℕ) → from ≤ place → place < from + count → t (slice_get ys place) ≡ true)
      → many xs + count ≤ many ys
  many_more from zero xs ys keeps was is = let up = count_up t never xs ys keeps in omega (arith, up)
  many_more from (suc count) xs [] keeps was is = absurd (both_ways (t None) never (is from (omega arith) (omega arith)))
  many_more zero (suc count) [] (y ∷ ys) keeps was is =
      let rest = many_more zero count [] ys (λ place. keeps (suc place)) (λ place low high. was (suc place) (omega arith) (omega (arith, high))) (λ place low high. is (suc place) (omega arith) (omega (arith, high))) in
      let first : cond {A = ℕ} (t (Some y)) 1 0 ≡ 1 = ap (λ b. cond {A = ℕ} b 1 0) (is 0 (omega arith) (omega arith)) in omega (arith, rest, first, first_of y ys)
  many_more zero (suc count) (x ∷ xs) (y ∷ ys) keeps was is =
      let rest = many_more zero count xs ys (λ place. keeps (suc place)) (λ place low high. was (suc place) (omega arith) (omega (arith, high))) (λ place low high. is (suc place) (omega arith) (omega (arith, high))) in
      let old : cond {A = ℕ} (t (Some x)) 1 0 ≡ 0 = ap (λ b. cond {A = ℕ} b 1 0) (was 0 (omega arith) (omega arith)) in
      let first : cond {A = ℕ} (t (Some y)) 1 0 ≡ 1 = ap (λ b. cond {A = ℕ} b 1 0) (is 0 (omega arith) (omega arith)) in omega (arith, rest, old, first, first_of x xs, first_of y ys)
  many_more (suc from) (suc count) [] (y ∷ ys) keeps was is =
      let rest = many_more from (suc count) [] ys (λ place. keeps (suc place)) (λ place low high. was (suc place) (omega (arith, low)) (omega (arith, high))) (λ place low high. is (suc place) (omega (arith, low)) (omega (arith, high))) in
      omega (arith, rest, first_of y ys)
  many_more (suc from) (suc count) (x ∷ xs) (y ∷ ys) keeps was is =
      let rest = many_more from (suc count) xs ys (λ place. keeps (suc place)) (λ place low high. was (suc place) (omega (arith, low)) (omega (arith, high))) (λ place low high. is (suc place) (omega (arith, low)) (omega (arith, high))) in
      let first = one_up (t (Some x)) (t (Some y)) (keeps 0) in omega (arith, rest, first, first_of x xs, first_of y ys)

module _ (n : ℕ) (sizes : List ℕ) (have : HaveSizes sizes) where
  -- a piece that is granted is paid for, and so is a cut
  abbrev pub IsPaid : Sending → Sending → Type 0
  IsPaid b c = one_if (nat_lt (held n b) (held n c)) + (cuts n c.marks + limits 0 sizes b) ≤ cuts n b.marks + (limits 0 sizes c + length sizes * one_if (nat_lt (open_len b) (open_len c)))

  none_more : (m k : ℕ) → k ≤ m → one_if (nat_lt m k) ≡ 0
  none_more m k low = by (nat_lt m k) refl
    where
      by : (b : Bool) → nat_lt m k ≡ b → one_if (nat_lt m k) ≡ 0
      by true is = absurd (let more = ltb-true m k is in omega (arith, more, low))
      by false is = ap one_if is

  -- where nothing is granted, and no cut is made
  quiet : (b c : Sending) → held n c ≤ held n b → cuts n c.marks ≤ cuts n b.marks → Spends b c → open_len b ≤ open_len c → IsPaid b c
  quiet b c no_more fewer spends up = by (nat_lt (open_len b) (open_len c)) refl
    where
      none : one_if (nat_lt (held n b) (held n c)) ≡ 0
      none = none_more (held n b) (held n c) no_more

      by : (r : Bool) → nat_lt (open_len b) (open_len c) ≡ r
          → one_if (nat_lt (held n b) (held n c)) + (cuts n c.marks + limits 0 sizes b) ≤ cuts n b.marks + (limits 0 sizes c + length sizes * one_if r)
      by true is = let wide = limits_wide b c spends 0 sizes have in let nothing = none in omega (arith, wide, nothing, fewer)
      by false is =
          let low = leb_of (open_len b) (open_len c) is in
          let same : open_len b ≡ open_len c = omega (arith, low, up) in
          let rise = limits_up b c spends same 0 sizes have in let nothing = none in omega (arith, rise, nothing, fewer)
        where
          leb_of : (m k : ℕ) → nat_lt m k ≡ false → k ≤ m
          leb_of m k isn't = ⊎_elim (λ less. absurd (true≢false (sym (lt-ltb m k less) ∙ isn't))) (λ high. high) (cases_lt m k)

  -- ---- a grant

  module _ (asker most : ℕ) (standby : Bool) (b : Sending) (whole : length b.marks ≡ length b.written) (sized : slice_get sizes asker ≡ Some most) where
    abbrev grant_call : SendCall
    grant_call = Grant asker most standby

    spends : (c : Sending) → after_call b grant_call ≡ c → Spends b c
    spends c is path place h = subst (λ (x : Sending). spent path (slice_get x.marks place) ≡ true) is (spent_stays path grant_call _ _ (mark_step place grant_call b) h)

    -- another path holds no more
    other_held : (c : Sending) → after_call b grant_call ≡ c → (n ≡ asker → ⊥) → held n c ≤ held n b
    other_held c is other = count_up (holds n) refl c.marks b.marks (λ place h. ⊎_elim (λ was. was) (λ asks. absurd (other (let same = asks.is in cc)))
        (held_before n grant_call _ _ (mark_step place grant_call b) (subst (λ (x : Sending). holds n (slice_get x.marks place) ≡ true) (sym is) h)))

    module _ (span : Span) (decided : decision asker most standby b ≡ Ok span) where
      abbrev c : Sending
      c = given_by asker (Ok span) b

      is_after : after_call b grant_call ≡ c
      is_after = ap (λ r. given_by asker r b) decided

      may : MayTake asker most b span
      may = decision-MayTake asker most standby b span decided

      run : IsRun asker most b span
      run = is_run asker most b span standby decided

      abbrev size : ℕ
      size = span.to - span.from

      gives : Gives n asker span.from size span.to b.marks
      gives = record {
        whole = (let whole = may.whole in omega (arith, whole));
        some = (let whole = may.whole in let some = may.some (have asker most sized) in omega (arith, whole, some));
        within = may.within;
        free = may.free;
        first = run.first;
      }

      step_up : Spends b c
      step_up = spends c is_after

      -- each byte of the span was free, and is spent
      was_free : (place : ℕ) → span.from ≤ place → place < span.to → spent asker (slice_get b.marks place) ≡ false
      was_free place low high =
          let there = some_at place b.marks (let within = may.within in omega (arith, within, high)) in
          ap (spent asker) there.1 ∙ free_unspent there.0 (may.free place there.0 low high there.1)
        where
          free_unspent : (m : ByteMark) → is_free_for asker m ≡ true → spent asker (Some m) ≡ false
          free_unspent Acked free = absurd (true≢false (sym free))
          free_unspent (Held holder among) free = absurd (true≢false (sym free))
          free_unspent (Free among) free = not_free (contains asker among) free
            where
              not_free : (x : Bool) → not x ≡ true → x ≡ false
              not_free true is = absurd (true≢false (sym is))
              not_free false is = refl

      is_spent : (place : ℕ) → span.from ≤ place → place < span.to → spent asker (slice_get c.marks place) ≡ true
      is_spent place low high =
          let within = may.within in let total = gives.whole in
          let there = some_at place b.marks (omega (arith, within, high)) in
          ap (spent asker) (slice_get-changed_inside (given asker) span.from size span.to b.marks total within place low high ∙ ap (option_map (given asker)) there.1)
          ∙ given_spent there.0 (may.free place there.0 low high there.1)
        where
          given_spent : (m : ByteMark) → is_free_for asker m ≡ true → spent asker (Some (given asker m)) ≡ true
          given_spent Acked free = absurd (true≢false (sym free))
          given_spent (Held holder among) free = absurd (true≢false (sym free))
          given_spent (Free among) free = contains-insert asker among

      full_one : span.to ≡ span.from + most → IsLimited b c step_up asker most
      full_one is = inl (many_more (spent asker) refl span.from most b.marks c.marks (step_up asker) (λ place low high. was_free place low (omega (arith, is, high))) (λ place low high. is_spent place low (omega (arith, is, high))))

      at_last : (m last : ℕ) (ms : List ByteMark) → m ≡ suc last → at_limit asker m ms ≡ spent asker (slice_get ms last)
      at_last m last ms is = ap (λ i. at_limit asker i ms) is

      last_one : span.to ≡ min b.edge (length b.marks) → IsLimited b c step_up asker most
      last_one is =
          let some = gives.some in let total = gives.whole in
          let end : open_len b ≡ suc (span.to - 1) = omega (arith, is, whole, some, total) in inr (
            at_last (open_len b) (span.to - 1) b.marks end ∙ was_free (span.to - 1) (omega (arith, some, total)) (omega (arith, some, total)),
            at_last (open_len c) (span.to - 1) c.marks end ∙ is_spent (span.to - 1) (omega (arith, some, total)) (omega (arith, some, total)),
          )

      none_opened : one_if (nat_lt (open_len b) (open_len c)) ≡ 0
      none_opened = none_more (open_len b) (open_len c) (omega arith)

      piece : ℕ
      piece = one_if (nat_lt (held n b) (held n c))

      limited : IsLimited b c step_up asker most → IsPaid b c
      limited l = ⊎_elim
          (λ own. let cut = own_given n asker span.from size span.to b.marks gives own in let one = one_at_most (nat_lt (held n b) (held n c)) in omega (arith, rises, cut, one))
          (λ other. let cut = one_more_given n asker span.from size span.to b.marks gives in let none = none_more (held n b) (held n c) (other_held c is_after other) in omega (arith, rises, cut, none))
          (cases_eq n asker)
        where
          rises : limits 0 sizes b < limits 0 sizes c
          rises = limits_rise b c step_up refl asker 0 asker most sizes have (omega arith) sized l

      unlimited : (past : ByteMark) → slice_get b.marks span.to ≡ Some past → is_free_for asker past ≡ false → IsPaid b c
      unlimited past behind taken = ⊎_elim
          (λ own. let cut = one_fewer_given n asker span.from size span.to b.marks gives past behind taken own in let one = one_at_most (nat_lt (held n b) (held n c)) in omega (arith, rises, cut, one))
          (λ other. let cut = no_more_given n asker span.from size span.to b.marks gives past behind taken in let none = none_more (held n b) (held n c) (other_held c is_after other) in omega (arith, rises, cut, none))
          (cases_eq n asker)
        where
          rises : limits 0 sizes b ≤ limits 0 sizes c
          rises = limits_up b c step_up refl 0 sizes have

      granted : IsPaid b c
      granted = ⊎_elim (λ full. limited (full_one full)) (λ rest. ⊎_elim (λ last. limited (last_one last)) (λ inner. unlimited inner.0 inner.1 inner.2) rest) run.ends

    grant_paid : IsPaid b (after_call b grant_call)
    grant_paid = by (decision asker most standby b) refl
      where
        by : (r : Result Span Why) → decision asker most standby b ≡ r → IsPaid b (given_by asker r b)
        by (Err why) is = quiet b b (le_refl _) (le_refl _) (λ path place h. h) (le_refl _)
        by (Ok span) is = granted span is

  -- ---- any call

  other_paid : (call : SendCall) (b : Sending) → (AsksFor n call → ⊥) → cuts n (after_call b call).marks ≤ cuts n b.marks → open_len b ≤ open_len (after_call b call) → IsPaid b (after_call b call)
  other_paid call b never fewer up = quiet b (after_call b call)
      (count_up (holds n) refl (after_call b call).marks b.marks (λ place h. ⊎_elim (λ was. was) (λ asks. absurd (never asks)) (held_before n call _ _ (mark_step place call b) h)))
      fewer (λ path place h. spent_stays path call _ _ (mark_step place call b) h) up

  abbrev after_write_if : Bool → ℕ → List ℕ → Sending → Sending
  after_write_if c count bytes b = if c then b else record b { written = b.written ++ take count bytes; marks = b.marks ++ replicate count (Free no_paths) }

  abbrev after_ack_if : Bool → ℕ → ℕ → Sending → Sending
  after_ack_if c next window b = if c then b else record b { marks = replicate (min next (length b.marks)) Acked ++ drop next b.marks; edge = max b.edge (next + window); fin = fin_after next b }

  write_cuts : (c : Bool) (count : ℕ) (bytes : List ℕ) (b : Sending) → (cuts n (after_write_if c count bytes b).marks ≤ cuts n b.marks) × (open_len b ≤ open_len (after_write_if c count bytes b))
  write_cuts true count bytes b = (le_refl _, le_refl _)
  write_cuts false count bytes b = (cuts_written n count b.marks, (let sum = length-append b.written (take count bytes) in omega (arith, sum)))

  ack_cuts : (c : Bool) (next window : ℕ) (b : Sending) → (cuts n (after_ack_if c next window b).marks ≤ cuts n b.marks) × (open_len b ≤ open_len (after_ack_if c next window b))
  ack_cuts true next window b = (le_refl _, le_refl _)
  ack_cuts false next window b = (cuts_acked n next b.marks, omega arith)

  write_paid : (bytes : List ℕ) (b : Sending) → IsPaid b (after_call b (Write bytes))
  write_paid bytes b = let by = write_cuts (b.closed || b.aborted) (bytes_taken bytes b) bytes b in other_paid (Write bytes) b (λ asks. (let never = asks.is in cc)) by.0 by.1

  ack_paid : (next window : ℕ) (b : Sending) → IsPaid b (after_call b (AckIn next window))
  ack_paid next window b = let by = ack_cuts (is_future next b) next window b in other_paid (AckIn next window) b (λ asks. (let never = asks.is in cc)) by.0 by.1

  still : (b c : Sending) → c.marks ≡ b.marks → c.edge ≡ b.edge → c.written ≡ b.written → IsPaid b c
  still b c marks edge written = quiet b c (subst (λ ms. count_by (is_held_by n) ms ≤ held n b) (sym marks) (le_refl _)) (subst (λ ms. cuts n ms ≤ cuts n b.marks) (sym marks) (le_refl _))
      (λ path place h. subst (λ ms. spent path (slice_get ms place) ≡ true) (sym marks) h) (let same = ap (λ (xs : List ℕ). length xs) written in omega (arith, same, edge))

  call_paid : (call : SendCall) (b : Sending) → length b.marks ≡ length b.written → ((asker most : ℕ) (standby : Bool) → call ≡ Grant asker most standby → slice_get sizes asker ≡ Some most)
      → IsPaid b (after_call b call)
  call_paid (Write bytes) b whole sized = write_paid bytes b
  call_paid Close b whole sized = elim b.aborted as (λ c. IsPaid b (if c then b else record b { closed = true }))
      [ true ↦ still b b refl refl refl | false ↦ still b (record b { closed = true }) refl refl refl ]
  call_paid (Grant asker most standby) b whole sized = grant_paid asker most standby b whole (sized asker most standby refl)
  call_paid (AckIn next window) b whole sized = ack_paid next window b
  call_paid (Return asker) b whole sized = other_paid (Return asker) b (λ asks. (let never = asks.is in cc)) (cuts_returned n asker b.marks) (le_refl _)
  call_paid GoIdentity b whole sized = other_paid GoIdentity b (λ asks. (let never = asks.is in cc)) (le_refl _) (le_refl _)
  call_paid (GoInfinite asker) b whole sized = other_paid (GoInfinite asker) b (λ asks. (let never = asks.is in cc))
      (elim (is_gathered asker b) as (λ c. cuts n (if c then record b { owner = Some asker } else b).marks ≤ cuts n b.marks) [ true ↦ le_refl _ | false ↦ le_refl _ ])
      (elim (is_gathered asker b) as (λ c. open_len b ≤ open_len (if c then record b { owner = Some asker } else b)) [ true ↦ le_refl _ | false ↦ le_refl _ ])
  call_paid Abort b whole sized = other_paid Abort b (λ asks. (let never = asks.is in cc)) (le_refl _) (le_refl _)

-- ---- by an ask

pub ask_book : (s : Side) (x : Ask) (six : SixBooks) (P : Sending → Sending → Type 0) → ((b : Sending) → P b b)
    → ((call : SendCall) → x ≡ asks.Send s call → P (send_of s six) (after_call (send_of s six) call)) → P (send_of s six) (send_of s (after_ask x six))
ask_book A (asks.Send A call) six P stays by = by call refl
ask_book B (asks.Send B call) six P stays by = by call refl
ask_book A (asks.Send B call) six P stays by = stays _
ask_book B (asks.Send A call) six P stays by = stays _
ask_book A (asks.Reassembly A call) six P stays by = stays _
ask_book A (asks.Reassembly B call) six P stays by = stays _
ask_book B (asks.Reassembly A call) six P stays by = stays _
ask_book B (asks.Reassembly B call) six P stays by = stays _
ask_book A (asks.Control A call) six P stays by = stays _
ask_book A (asks.Control B call) six P stays by = stays _
ask_book B (asks.Control A call) six P stays by = stays _
ask_book B (asks.Control B call) six P stays by = stays _
ask_book A (asks.Local step) six P stays by = stays _
ask_book B (asks.Local step) six P stays by = stays _

-- ---- who asks, and for how much

-- a path is that of its plan
abbrev IsPlanned : Start → Actor Carried → Type 0
IsPlanned start (App a) = Unit {0}
IsPlanned start (Path p) = (plan : PathPlan) × (slice_get start.paths (path_of p) ≡ Some plan) × (p.profile.mss ≡ plan.mss)

record ArePlanned (start : Start) (w : WorldState Carried) : Type 0 where
  each : (actor : ℕ) (c : ActorCrew Carried) → slice_get w.crew actor ≡ Some c → IsPlanned start c.member

module _ (start : Start) where
  planned_then : (p q : PathState Carried) → (q.profile ≡ p.profile) × (path_of q ≡ path_of p) → IsPlanned start (Path p) → IsPlanned start (Path q)
  planned_then p q same h = (h.0, ap (slice_get start.paths) same.1 ∙ h.1, ap (λ (c : Profile). c.mss) same.0 ∙ h.2)

  takes_planned : (r : Reply) (m : Actor Carried) → IsPlanned start m → IsPlanned start (member_takes values r m)
  takes_planned r (App a) h = tt
  takes_planned r (Path p) h = let same = takes_keeps values r p in planned_then p (takes values r p) (same.1, same.2) h

  next_planned : (m : Actor Carried) → IsPlanned start m → IsPlanned start (member_next m)
  next_planned (App a) h = tt
  next_planned (Path p) h = let same = first_keeps (record p { clock = p.until; until = p.until + 100 }) in planned_then p (next_round p) (same.1, same.2) h

  always_planned : (turns : List Turn) → ArePlanned start (reached values start turns)
  always_planned turns = run_so values (ArePlanned start)
      (λ w h actor c x there asking. record {
        each = λ i d at. ⊎_elim
            (λ here. subst (λ (y : ActorCrew Carried). IsPlanned start y.member) here.1 (takes_planned (answer_to w.books x) c.member (h.each actor c there)))
            (λ other. h.each i d other.1)
            (in_set w.crew actor (crew_after values x w.books c) i d at);
      })
      (λ w h over. record {
        each = λ i d at. let found = in_map (begins (greatest 0 w.crew)) w.crew i d at in subst (λ (y : ActorCrew Carried). IsPlanned start y.member) found.2 (next_planned found.0.member (h.each i found.0 found.1));
      })
      turns (opened_world start) (record {
        each = opened_actors (λ actor c. IsPlanned start c.member) start tt tt (λ number plan there.
            let same = first_keeps {C = Carried} (waiting_path (path_begins start number plan) start.lines) in (plan, ap (slice_get start.paths) same.2 ∙ there, ap (λ (c : Profile). c.mss) same.1));
      })

  abbrev sizes : List ℕ
  sizes = map (λ plan. payload_of plan.mss) start.paths

  module _ (size : HasRoom start) where
    have_sizes : HaveSizes sizes
    have_sizes i n there = (let found = in_map (λ (plan : PathPlan). payload_of plan.mss) start.paths i n there in let is = found.2 in omega (arith, is))

    sized_at : (number mss : ℕ) (plan : PathPlan) → slice_get start.paths number ≡ Some plan → mss ≡ plan.mss → slice_get sizes number ≡ Some (mss - 28)
    sized_at number mss plan there same =
        slice_get-map (λ (plan : PathPlan). payload_of plan.mss) start.paths number ∙ ap (option_map (λ (plan : PathPlan). payload_of plan.mss)) there
        ∙ ap Some (let some = size.each number plan there in omega (arith, same, some))

    -- who asks for bytes is a path, that asks for a full segment
    sized : (s : Side) (x : Ask) (m : Actor Carried) → IsPlanned start m → member_asks values m ≡ Some x → (asker most : ℕ) (standby : Bool) → x ≡ asks.Send s (Grant asker most standby)
        → slice_get sizes asker ≡ Some most
    sized s x (App a) planned asking asker most standby is = absurd (app_never s asker x a a.agenda asking (record { max = most; standby = standby; is = is }))
    sized s x (Path p) planned asking asker most standby is = by p.agenda asking
      where
        asks_so : (t : Side) → asks_grant t (asks.Send t (Grant asker most standby)) ≡ true
        asks_so A = refl
        asks_so B = refl

        found : (d : Duty) → ask_for values d p ≡ x → AtGrant s p (ask_for values d p) (λ r. answered values d r p) → slice_get sizes asker ≡ Some most
        found d first (asks_none_of_it none tells) = absurd (both_ways (asks_grant s x) (ap (asks_grant s) (sym first) ∙ none) (ap (asks_grant s) is ∙ asks_so s))
        found d first (asks_bytes size_asked stands is_ask tells full next) =
            let same : asks.Send s (Grant asker most standby) ≡ asks.Send s (Grant (path_of p) size_asked stands) = sym is ∙ sym first ∙ is_ask in
            let who : asker ≡ path_of p = cc in let much : most ≡ size_asked = cc in
            ap (slice_get sizes) who ∙ sized_at (path_of p) p.profile.mss planned.0 planned.1 planned.2 ∙ ap Some (sym (much ∙ full))

        by : (ds : List Duty) → asks_first values ds p ≡ Some x → slice_get sizes asker ≡ Some most
        by [] asking = cc
        by (d ∷ ds) asking = found d (same_Some (ask_for values d p) x asking) (at_grant values p d s)

-- ---- by turns

module _ (start : Start) (size : HasRoom start) (s : Side) (n : ℕ) where
  abbrev count : ℕ
  count = length (sizes start)

  abbrev sent : WorldState Carried → Sending
  sent w = written_by s w

  abbrev Paid : Sending → Sending → Type 0
  Paid = IsPaid n (sizes start) (have_sizes start size)

  stays : (b : Sending) → Paid b b
  stays b = quiet n (sizes start) (have_sizes start size) b b (le_refl _) (le_refl _) (λ path place h. h) (le_refl _)

  turn_paid : (before : List Turn) (turn : Turn) → IsPaid n (sizes start) (have_sizes start size) (sent (reached values start before)) (sent (after_turn values turn (reached values start before)))
  turn_paid before turn = turn_so values (λ v. Paid (sent w) (sent v)) turn w (stays (sent w))
      (λ actor c x there asking. subst (λ (six : SixBooks). Paid (sent w) (send_of s six)) (sym (books_after x c.pass w.books))
      (ask_book s x (books_in w.books) Paid stays (λ call is. call_paid n (sizes start) (have_sizes start size) call (sent w) (marks_are_whole start before size s)
      (λ asker most standby grant. sized start size s x c.member ((always_planned start before).each actor c there) asking asker most standby (is ∙ ap (asks.Send s) grant)))))
      (λ over. stays (sent w))
    where
      w : WorldState Carried
      w = reached values start before

  -- so far
  abbrev ArePaid : List Turn → WorldState Carried → WorldState Carried → Type 0
  ArePaid more w v = pieces_of values s n more w + (cuts n (sent v).marks + limits 0 (sizes start) (sent w)) ≤ cuts n (sent w).marks + (limits 0 (sizes start) (sent v) + count * openings_of values s more w)

  run_paid : (before more : List Turn) → ArePaid more (reached values start before) (world_run values more (reached values start before))
  run_paid before [] = omega arith
  run_paid before (turn ∷ more) =
      let w : WorldState Carried = reached values start before in
      let u : WorldState Carried = after_turn values turn w in
      let one = turn_paid before turn in
      let rest = subst (λ (x : WorldState Carried). ArePaid more x (world_run values more x)) (run_append values before (turn ∷ []) (opened_world start)) (run_paid (before ++ turn ∷ []) more) in
      let sum = mul-add count (one_if (nat_lt (open_len (sent w)) (open_len (sent u)))) (openings_of values s more u) in
      omega (arith, one, rest, sum)

-- ---- in all

module _ (b : Sending) (file : ℕ) (within : length b.marks ≤ file) where
  -- no more full segments than the file has
  most_limits : (q k : ℕ) (plans : List PathPlan) → ((i : ℕ) (plan : PathPlan) → slice_get plans i ≡ Some plan → 29 ≤ plan.mss)
      → limits q (map (λ plan. payload_of plan.mss) plans) b + length (map (λ (plan : PathPlan). payload_of plan.mss) plans) * k
      ≤ sum_by (λ (plan : PathPlan). file / payload_of plan.mss + k) plans + length (map (λ (plan : PathPlan). payload_of plan.mss) plans)
  most_limits q k [] room = omega arith
  most_limits q k (plan ∷ plans) room =
      let rest = most_limits (suc q) k plans (λ i other there. room (suc i) other there) in
      let first = sum_by-cons (λ (plan : PathPlan). file / payload_of plan.mss + k) plan plans in
      let spent_most = count_by-le-length (λ m. spent q (Some m)) b.marks in
      let full = quotient_up (spent_count q b.marks) file (payload_of plan.mss) (omega arith) (omega (arith, spent_most, within)) in
      let last = one_at_most (at_limit q (open_len b) b.marks) in
      let times = suc-mul (length (map (λ (plan : PathPlan). payload_of plan.mss) plans)) k in
      omega (arith, rest, first, full, last, times)

-- as nothing is written
first_limits : (q : ℕ) (plans : List PathPlan) (b : Sending) → b.marks ≡ [] → b.written ≡ [] → length (map (λ (plan : PathPlan). payload_of plan.mss) plans) ≤ limits q (map (λ plan. payload_of plan.mss) plans) b
first_limits q [] b none nothing = omega arith
first_limits q (plan ∷ plans) b none nothing =
    let rest = first_limits (suc q) plans b none nothing in
    let shut : open_len b ≡ 0 = (let empty = ap (λ (xs : List ℕ). length xs) nothing in omega (arith, empty)) in
    let last : one_if (at_limit q (open_len b) b.marks) ≡ 1 = ap (λ l. one_if (at_limit q l b.marks)) shut in
    omega (arith, rest, last)

pub pieces_are_few : PiecesAreFew
pieces_are_few start turns s n size = omega (arith, paid, most, first, none)
  where
    w : WorldState Carried
    w = reached values start turns

    paid : ArePaid start size s n turns (opened_world start) w
    paid = run_paid start size s n [] turns

    prefix_long : (xs ys : List ℕ) → IsPrefix xs ys → length xs ≤ length ys
    prefix_long xs ys h = (let whole = ap (λ (zs : List ℕ). length zs) h.whole_is in omega (arith, whole, length-append xs h.rest))

    fits : (s : Side) → length (written_by s w).written ≤ length (pick s start.file_a start.file_b)
    fits A = prefix_long _ _ (writes_the_files values start turns).a.prefix
    fits B = prefix_long _ _ (writes_the_files values start turns).b.prefix

    most : limits 0 (sizes start) (written_by s w) + length (sizes start) * openings_of values s turns (opened_world start)
        ≤ sum_by (λ (plan : PathPlan). length (pick s start.file_a start.file_b) / payload_of plan.mss + openings_of values s turns (opened_world start)) start.paths + length (sizes start)
    most = most_limits (written_by s w) (length (pick s start.file_a start.file_b)) (let whole = marks_are_whole start turns size s in let all = fits s in omega (arith, whole, all)) 0
        (openings_of values s turns (opened_world start)) start.paths (λ i plan there. size.each i plan there)

    opened_empty : (s : Side) → ((written_by s (opened_world {C = Carried} start)).marks ≡ []) × ((written_by s (opened_world {C = Carried} start)).written ≡ [])
    opened_empty A = (refl, refl)
    opened_empty B = (refl, refl)

    first : length (sizes start) ≤ limits 0 (sizes start) (written_by s (opened_world {C = Carried} start))
    first = first_limits 0 start.paths (written_by s (opened_world {C = Carried} start)) (opened_empty s).0 (opened_empty s).1

    none : cuts n (written_by s (opened_world {C = Carried} start)).marks ≡ 0
    none = ap (λ (ms : List ByteMark). cuts n ms) (opened_empty s).0
