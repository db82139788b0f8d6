-- A byte that was free for a path, and is tried by it, was granted to it in a piece: by a turn the path came to hold more bytes.
use Rattle.std.proofs.Common.{◌≡◌, refl, sym, subst, ap, ◌∙◌, ⊎_elim, ℕ, zero, suc, ◌+◌, ◌-◌, ◌<◌, ◌≤◌, ◌==◌, arith, Bool, true, false, true≢false, nat_lt, if◌then◌else◌, Option, Some, Result, Ok, Err, List, [], ◌∷◌, ◌++◌}
use Rattle.std.specs.List.{slice_get}
use Rattle.std.proofs.lemmas.Bool.{cases_eq, cases_lt, eq-eqb, lt-ltb}
use Rattle.sides.specs.declared.side.Side.{Side}
use Rattle.send_book.specs.declared.call.SendCall.{SendCall}
use Rattle.send_book.specs.declared.call.SendCall.TheVariants.{Grant}
use Rattle.send_book.specs.declared.call.Span.{Span}
use Rattle.send_book.specs.declared.call.Why.{Why}
use Rattle.send_book.specs.declared.mark.ByteMark.{ByteMark}
use Rattle.send_book.specs.declared.mark.ByteMark.TheVariants.{Acked, Held, Free}
use Rattle.send_book.specs.Marks.{given, is_free_for, returned}
use Rattle.send_book.specs.State.{Sending}
use Rattle.send_book.specs.Steps.{after_call, decision, given_by}
use Rattle.send_book.specs.Tried.{contains, insert, no_paths}
use Rattle.send_book.proofs.Decisions.{MayTake, decision-MayTake}
use Rattle.send_book.proofs.Lists.{slice_get-changed_above, slice_get-changed_below}
use Rattle.stream_lanes.specs.Marks.{spent}
use Rattle.stream_lanes.proofs.MarkLists.{untouched_unspent}
use Rattle.actor_desk.specs.Books.{books_in}
use Rattle.actor_desk.specs.Desk.{SixBooks, send_of}
use Rattle.path_core.specs.State.{end_at}
use Rattle.path_core.specs.Values.{Carried, values}
use Rattle.world_laws.specs.Openings.{Start, opened_world}
use Rattle.world_laws.specs.Promises.{written_by}
use Rattle.world_laws.specs.RoundDone.{reached}
use Rattle.world_laws.specs.RoundNumbers.{after_steps, steps_since}
use Rattle.world_laws.specs.Worlds.{Turn, WorldState, after_turn, world_run}
use Rattle.world_laws.proofs.Weaving.Journals.{books_after}
use Rattle.world_laws.proofs.Weaving.WholeRounds.{run_append}
use Rattle.world_laws.proofs.Worlds.Turns.{turn_so}
use Rattle.whole_paths.specs.GrantedPieces.{IsServed, WhatIsTakenIsGranted, WhoMayAskIsServed, held, pieces_of}
use Rattle.whole_paths.specs.GrantedPieces.{IsServed as served}
use Rattle.whole_paths.specs.GoingOn.{steps_of}
use Rattle.whole_paths.specs.Holders.{holds}
use Rattle.whole_paths.specs.News.{one_if}
use Rattle.whole_paths.specs.Refusals.{IsLeft}
use Rattle.whole_paths.specs.Refusals.{IsLeft as left_by}
use Rattle.whole_paths.specs.Unstopped.{NothingIsStopped}
use Rattle.whole_paths.proofs.BookNews.{AreAsFar, is_done, marks_as_far}
use Rattle.whole_paths.proofs.GivenBack.{count_rises}
use Rattle.whole_paths.proofs.GrantedPieces.{ask_book}
use Rattle.whole_paths.proofs.MarkSteps.{MarkStep, mark_step, some_at}
use Rattle.whole_paths.proofs.MarkSteps.MarkStep.{same, is_written, gives, acked, returns}
use Rattle.whole_paths.proofs.Refused.{who_asks_is_refused}
use Rattle.whole_paths.proofs.Unstopped.{sides_are_never_stopped}

-- ---- by a call

-- whoever else is in a set once a path is put into it was in it
other_among : (x asker : ℕ) (among : List Bool) → (x ≡ asker → ⊥) → contains x (insert asker among) ≡ contains x among
other_among zero zero among apart = absurd (apart refl)
other_among (suc x) zero [] apart = refl
other_among (suc x) zero (one ∷ among) apart = refl
other_among zero (suc asker) [] apart = refl
other_among zero (suc asker) (one ∷ among) apart = refl
other_among (suc x) (suc asker) [] apart = other_among x asker [] (λ is. apart (ap suc is))
other_among (suc x) (suc asker) (one ∷ among) apart = other_among x asker among (λ is. apart (ap suc is))

module _ (n : ℕ) where
  -- by a grant a path holds on to what it holds
  grant_keeps : (asker most : ℕ) (standby : Bool) (b : Sending) (place : ℕ) → holds n (slice_get b.marks place) ≡ true → holds n (slice_get (after_call b (Grant asker most standby)).marks place) ≡ true
  grant_keeps asker most standby b place h = by (decision asker most standby b) refl
    where
      inside : (span : Span) → MayTake asker most b span → span.from ≤ place → place < span.to → ⊥
      inside span may low high =
          let there = some_at place b.marks (let within = may.within in omega (arith, high, within)) in
          never there.0 (may.free place there.0 low high there.1) (sym (ap (holds n) there.1) ∙ h)
        where
          never : (m : ByteMark) → is_free_for asker m ≡ true → holds n (Some m) ≡ true → ⊥
          never Acked free is = true≢false (sym free)
          never (Held holder among) free is = true≢false (sym free)
          never (Free among) free is = true≢false (sym is)

      by : (r : Result Span Why) → decision asker most standby b ≡ r → holds n (slice_get (given_by asker r b).marks place) ≡ true
      by (Err why) is = h
      by (Ok span) is =
          let may : MayTake asker most b span = decision-MayTake asker most standby b span is in
          let whole : span.to ≡ span.from + (span.to - span.from) = (let total = may.whole in omega (arith, total)) in
          ⊎_elim
          (λ below. ap (holds n) (slice_get-changed_below (given asker) span.from (span.to - span.from) span.to b.marks whole may.within place below) ∙ h)
          (λ above. ⊎_elim
          (λ under. absurd (inside span may above under))
          (λ over. ap (holds n) (slice_get-changed_above (given asker) span.from (span.to - span.from) span.to b.marks whole may.within place over) ∙ h)
          (cases_lt place span.to))
          (cases_lt place span.from)

  -- it is spent now, and wasn't, and isn't acknowledged: so this path asked, and holds it
  record IsGivenNow (call : SendCall) (o q : Option ByteMark) : Type 0 where
    most : ℕ
    standby : Bool
    asks : call ≡ Grant n most standby
    unheld : holds n o ≡ false
    now : holds n q ≡ true

  given_now : (call : SendCall) (o q : Option ByteMark) → MarkStep call o q → spent n o ≡ false → spent n q ≡ true → is_done q ≡ false → IsGivenNow call o q
  given_now call o q (same is) was now open_still = absurd (true≢false (sym now ∙ ap (spent n) is ∙ was))
  given_now call o q (is_written none is) was now open_still = absurd (true≢false (sym now ∙ ap (spent n) is ∙ untouched_unspent n (Free no_paths) refl))
  given_now call o q (gives asker max standby among asks there untried is) was now open_still = ⊎_elim
      (λ own. record { most = max; standby = standby; asks = subst (λ (x : ℕ). call ≡ Grant x max standby) (sym own) asks; unheld = ap (holds n) there; now = ap (holds n) is ∙ eq-eqb asker n (sym own) })
      (λ apart. absurd (true≢false (sym now ∙ ap (spent n) is ∙ other_among n asker among apart ∙ sym (ap (spent n) there) ∙ was)))
      (cases_eq n asker)
  given_now call o q (acked m there is) was now open_still = absurd (true≢false (sym (ap is_done is) ∙ open_still))
  given_now call o q (returns asker m asks there is) was now open_still = absurd (true≢false (sym now ∙ ap (spent n) is ∙ before m (sym (ap (spent n) there) ∙ was)))
    where
      before : (m : ByteMark) → spent n (Some m) ≡ false → spent n (Some (returned asker m)) ≡ false
      before Acked h = absurd (true≢false h)
      before (Held holder among) h = elim (holder == asker) as (λ c. spent n (Some (if c then Free among else Held holder among)) ≡ false) [ true ↦ h | false ↦ h ]
      before (Free among) h = h

-- ---- by turns

module _ (start : Start) (s : Side) (n place : ℕ) where
  abbrev Grants : Sending → Sending → Type 0
  Grants b c = spent n (slice_get b.marks place) ≡ false → spent n (slice_get c.marks place) ≡ true → is_done (slice_get c.marks place) ≡ false → held n b < held n c

  stays : (b : Sending) → Grants b b
  stays b was now open_still = absurd (true≢false (sym now ∙ was))

  call_grants : (call : SendCall) (b : Sending) → Grants b (after_call b call)
  call_grants call b was now open_still =
      let g = given_now n call _ _ (mark_step place call b) was now open_still in
      count_rises (holds n) refl place b.marks (after_call b call).marks
      (λ other h. subst (λ (x : SendCall). holds n (slice_get (after_call b x).marks other) ≡ true) (sym g.asks) (grant_keeps n n g.most g.standby b other h)) g.unheld g.now

  turn_grants : (turn : Turn) (w : WorldState Carried) → Grants (written_by s w) (written_by s (after_turn values turn w))
  turn_grants turn w = turn_so values (λ v. Grants (written_by s w) (written_by s v)) turn w (stays (written_by s w))
      (λ actor c x there asking. subst (λ (six : SixBooks). Grants (written_by s w) (send_of s six)) (sym (books_after x c.pass w.books))
      (ask_book s x (books_in w.books) Grants stays (λ call is. call_grants call (written_by s w))))
      (λ over. stays (written_by s w))

  at_least_one : (m k : ℕ) → m < k → one_if (nat_lt m k) ≡ 1
  at_least_one m k less = ap one_if (lt-ltb m k less)

  abbrev Spent : WorldState Carried → Bool
  Spent w = spent n (slice_get (written_by s w).marks place)

  -- along these turns
  abbrev GrantedFrom : List Turn → WorldState Carried → Type 0
  GrantedFrom more w = Spent w ≡ false → Spent (world_run values more w) ≡ true → is_done (slice_get (written_by s (world_run values more w)).marks place) ≡ false → 0 < pieces_of values s n more w

  granted : (before more : List Turn) → GrantedFrom more (reached values start before)
  granted before [] was now open_still = absurd (true≢false (sym now ∙ was))
  granted before (turn ∷ more) was now open_still = by (Spent (after_turn values turn (reached values start before))) refl (granted (before ++ turn ∷ []) more)
    where
      next : reached values start (before ++ turn ∷ []) ≡ after_turn values turn (reached values start before)
      next = run_append values before (turn ∷ []) (opened_world start)

      far : AreAsFar (written_by s (reached values start (before ++ turn ∷ []))).marks (written_by s (world_run values more (reached values start (before ++ turn ∷ [])))).marks
      far = marks_as_far values start (before ++ turn ∷ []) more s

      -- it isn't acknowledged yet
      open_then : (b : Bool) → is_done (slice_get (written_by s (after_turn values turn (reached values start before))).marks place) ≡ b → is_done (slice_get (written_by s (after_turn values turn (reached values start before))).marks place) ≡ false
      open_then true is = absurd (true≢false (sym (subst (λ (x : WorldState Carried). is_done (slice_get (written_by s x).marks place) ≡ true → is_done (slice_get (written_by s (world_run values more x)).marks place) ≡ true) next (far.done place) is) ∙ open_still))
      open_then false is = is

      by : (b : Bool) → Spent (after_turn values turn (reached values start before)) ≡ b → GrantedFrom more (reached values start (before ++ turn ∷ [])) → 0 < pieces_of values s n (turn ∷ more) (reached values start before)
      by true is rest = let one = at_least_one _ _ (turn_grants turn (reached values start before) was is (open_then (is_done (slice_get (written_by s (after_turn values turn (reached values start before))).marks place)) refl)) in omega (arith, one)
      by false is rest = let later = subst (GrantedFrom more) next rest is now open_still in omega (arith, later)

pub what_is_taken_is_granted : WhatIsTakenIsGranted
what_is_taken_is_granted start before more s place t mark there open_still = granted start s t.other place before more t.was t.now (ap is_done there ∙ open_still)

-- ---- a round

pub who_may_ask_is_served : WhoMayAskIsServed
who_may_ask_is_served start since order mild begins number p here over s may place free mark there open_still =
    by (who_asks_is_refused values start since order begins number p here over s may (stopped.send s) (stopped.owner s) place free)
  where
    stopped : NothingIsStopped (after_steps values order (reached values start since))
    stopped = subst (λ (u : WorldState Carried). NothingIsStopped u) (run_append values since (steps_of order) (opened_world start)) (sides_are_never_stopped start (since ++ steps_of order) mild)

    by : IsLeft start s place (steps_since (2 + number) (reached values start since) (after_steps values order (reached values start since))) (reached values start since) (after_steps values order (reached values start since)) (end_at s p)
        → IsServed start s number place (steps_of order) (reached values start since) (after_steps values order (reached values start since)) p
    by (left_by.taken t) = served.granted t.other t.low (what_is_taken_is_granted start since (steps_of order) s place t mark there open_still)
    by (left_by.shut is edge) = served.shut is edge
    by (left_by.standby is) = served.standby is
