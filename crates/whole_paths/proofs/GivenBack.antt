-- What a path let go it never holds again, so that it gives back no byte twice.
use Rattle.std.proofs.Common.{◌≡◌, refl, sym, subst, ap, ◌∙◌, ◌⊎◌, inl, inr, ⊎_elim, ℕ, zero, suc, ◌+◌, ◌<◌, ◌≤◌, ◌==◌, arith, le_refl, Bool, true, false, true≢false, not, ◌&&◌, cond, if◌then◌else◌, Option, Some, None, List, [], ◌∷◌, count_by, length, length-append}
use Rattle.octet_text.specs.Prefix.{IsPrefix}
use Rattle.std.specs.List.{slice_get}
use Rattle.std.proofs.lemmas.Bool.{both_ways, eqb-true}
use Rattle.std.proofs.lemmas.List.Sums.{count_by-le-length, sum_by-cons}
use Rattle.std.proofs.lemmas.Option.{same_Some}
use Rattle.sides.specs.declared.side.Side.{Side}
use Rattle.sides.specs.declared.side.Side.TheVariants.{A, B}
use Rattle.send_book.specs.declared.call.SendCall.{SendCall}
use Rattle.send_book.specs.declared.call.SendCall.TheVariants.{Return}
use Rattle.send_book.specs.declared.mark.ByteMark.{ByteMark}
use Rattle.send_book.specs.declared.mark.ByteMark.TheVariants.{Acked, Held, Free}
use Rattle.send_book.specs.Marks.{is_held_rightly, returned}
use Rattle.send_book.specs.Tried.{contains}
use Rattle.send_book.proofs.PathSets.{contains-insert}
use Rattle.actor_desk.specs.Books.{books_in}
use Rattle.actor_desk.specs.Desk.{SixBooks, after_ask, send_of}
use Rattle.actor_desk.specs.declared.ask.Ask.{Ask}
use Rattle.actor_desk.specs.declared.ask.Ask.TheVariants as asks
use Rattle.actor_desk.specs.declared.ask.Note.{Note}
use Rattle.actor_desk.specs.Words.{is_nil, pick}
use Rattle.path_agenda.specs.declared.duty.Duty.{Duty}
use Rattle.path_core.specs.Breaking.{return_ask}
use Rattle.path_core.specs.Codec.{Codec}
use Rattle.path_core.specs.Duties.{ask_for}
use Rattle.path_core.specs.State.{PathState, path_of}
use Rattle.path_core.specs.Steps.{asks_first}
use Rattle.path_core.specs.Values.{values}
use Rattle.world_laws.specs.declared.member.Member.TheVariants.{App, Path}
use Rattle.world_laws.specs.Actors.{Actor, ActorCrew}
use Rattle.world_laws.specs.Openings.{Start, opened_world}
use Rattle.world_laws.specs.Promises.{written_by}
use Rattle.world_laws.specs.RoundDone.{reached}
use Rattle.world_laws.specs.Worlds.{Turn, WorldState, after_turn}
use Rattle.world_laws.proofs.Worlds.CastLifting.{writes_the_files}
use Rattle.whole_paths.specs.Between.{PathsBetween}
use Rattle.whole_paths.specs.Finish.{IsPathAt}
use Rattle.whole_paths.specs.GivenBack.{EachReturnCounts, GivenBackIsBounded, GivenBackNeverFalls, GivesBack, IsReturn, given_back}
use Rattle.whole_paths.specs.GivenBack.{IsReturn as is_return}
use Rattle.whole_paths.specs.Holders.{holds, let_go}
use Rattle.whole_paths.proofs.Holding.{IsNamed, always_known, gave_back}
use Rattle.whole_paths.proofs.MarkSteps.{MarkStep, let_go_stays, mark_step}
use Rattle.whole_paths.proofs.MarkSteps.MarkStep.{same, is_written, gives, acked, returns}
use Rattle.whole_paths.proofs.TriedBytes.{marks_are_whole}
use Rattle.whole_paths.proofs.Turns.{books_by_turns, paths_between}

-- ---- how many pass a test

module _ {X : Type 0} (t : Option X → Bool) (never : t None ≡ false) where
  abbrev count : List X → ℕ
  count xs = count_by (λ x. t (Some x)) xs

  count_first : (x : X) (xs : List X) → count (x ∷ xs) ≡ cond (t (Some x)) 1 0 + count xs
  count_first x xs = sum_by-cons (λ y. cond (t (Some y)) 1 0) x xs

  -- where an item passes that didn't, and each passes still that did
  one_more : (b c : Bool) → (b ≡ true → c ≡ true) → cond {A = ℕ} b 1 0 ≤ cond c 1 0
  one_more true true keeps = omega arith
  one_more false c keeps = omega arith
  one_more true false keeps = absurd (true≢false (sym (keeps refl)))

  pub count_up : (xs ys : List X) → ((place : ℕ) → t (slice_get xs place) ≡ true → t (slice_get ys place) ≡ true) → count xs ≤ count ys
  count_up [] ys keeps = omega arith
  count_up (x ∷ xs) [] keeps =
      let rest = count_up xs [] (λ place. keeps (suc place)) in let first = one_more (t (Some x)) (t None) (keeps 0) in let none : cond {A = ℕ} (t None) 1 0 ≡ 0 = ap (λ b. cond {A = ℕ} b 1 0) never in
      omega (arith, rest, first, none, count_first x xs)
  count_up (x ∷ xs) (y ∷ ys) keeps =
      let rest = count_up xs ys (λ place. keeps (suc place)) in let first = one_more (t (Some x)) (t (Some y)) (keeps 0) in omega (arith, rest, first, count_first x xs, count_first y ys)

  pub count_rises : (place : ℕ) (xs ys : List X) → ((place : ℕ) → t (slice_get xs place) ≡ true → t (slice_get ys place) ≡ true) → t (slice_get xs place) ≡ false → t (slice_get ys place) ≡ true
      → count xs < count ys
  count_rises place xs [] keeps was is = absurd (both_ways (t None) never is)
  count_rises zero [] (y ∷ ys) keeps was is = let first : cond {A = ℕ} (t (Some y)) 1 0 ≡ 1 = ap (λ b. cond {A = ℕ} b 1 0) is in omega (arith, first, count_first y ys)
  count_rises zero (x ∷ xs) (y ∷ ys) keeps was is =
      let rest = count_up xs ys (λ place. keeps (suc place)) in
      let old : cond {A = ℕ} (t (Some x)) 1 0 ≡ 0 = ap (λ b. cond {A = ℕ} b 1 0) was in let new : cond {A = ℕ} (t (Some y)) 1 0 ≡ 1 = ap (λ b. cond {A = ℕ} b 1 0) is in
      omega (arith, rest, old, new, count_first x xs, count_first y ys)
  count_rises (suc place) [] (y ∷ ys) keeps was is = let rest = count_rises place [] ys (λ n. keeps (suc n)) was is in omega (arith, rest, count_first y ys)
  count_rises (suc place) (x ∷ xs) (y ∷ ys) keeps was is =
      let rest = count_rises place xs ys (λ n. keeps (suc n)) was is in let first = one_more (t (Some x)) (t (Some y)) (keeps 0) in omega (arith, rest, first, count_first x xs, count_first y ys)

-- ---- by an ask

-- what becomes of a mark by an ask of any actor
pub ask_marks : (s : Side) (place : ℕ) (x : Ask) (six : SixBooks) (P : Option ByteMark → Option ByteMark → Type 0) → ((o : Option ByteMark) → P o o)
    → ((call : SendCall) (o q : Option ByteMark) → MarkStep call o q → P o q) → P (slice_get (send_of s six).marks place) (slice_get (send_of s (after_ask x six)).marks place)
ask_marks A place (asks.Send A call) six P stays by = by call _ _ (mark_step place call six.send_a)
ask_marks B place (asks.Send B call) six P stays by = by call _ _ (mark_step place call six.send_b)
ask_marks A place (asks.Send B call) six P stays by = stays _
ask_marks B place (asks.Send A call) six P stays by = stays _
ask_marks A place (asks.Reassembly A call) six P stays by = stays _
ask_marks A place (asks.Reassembly B call) six P stays by = stays _
ask_marks B place (asks.Reassembly A call) six P stays by = stays _
ask_marks B place (asks.Reassembly B call) six P stays by = stays _
ask_marks A place (asks.Control A call) six P stays by = stays _
ask_marks A place (asks.Control B call) six P stays by = stays _
ask_marks B place (asks.Control A call) six P stays by = stays _
ask_marks B place (asks.Control B call) six P stays by = stays _
ask_marks A place (asks.Local step) six P stays by = stays _
ask_marks B place (asks.Local step) six P stays by = stays _

pub ask_lets_go : (s : Side) (path place : ℕ) (x : Ask) (six : SixBooks) → let_go path (slice_get (send_of s six).marks place) ≡ true → let_go path (slice_get (send_of s (after_ask x six)).marks place) ≡ true
ask_lets_go s path place x six = ask_marks s place x six (λ o q. let_go path o ≡ true → let_go path q ≡ true) (λ o gone. gone) (λ call o q step gone. let_go_stays path call o q step gone)

given_up : (s : Side) (path : ℕ) (x : Ask) (six : SixBooks) → given_back path (send_of s six).marks ≤ given_back path (send_of s (after_ask x six)).marks
given_up s path x six = count_up (let_go path) refl (send_of s six).marks (send_of s (after_ask x six)).marks (λ place. ask_lets_go s path place x six)

-- each holder tried its byte
abbrev pub rightly : Option ByteMark → Bool
rightly None = true
rightly (Some mark) = is_held_rightly mark

rightly_if : (c : Bool) (holder : ℕ) (among : List Bool) → contains holder among ≡ true → is_held_rightly (if c then Free among else Held holder among) ≡ true
rightly_if true holder among h = refl
rightly_if false holder among h = h

rightly_returned : (asker : ℕ) (m : ByteMark) → is_held_rightly m ≡ true → is_held_rightly (returned asker m) ≡ true
rightly_returned asker Acked h = h
rightly_returned asker (Held holder among) h = rightly_if (holder == asker) holder among h
rightly_returned asker (Free among) h = h

rightly_step : (call : SendCall) (o q : Option ByteMark) → MarkStep call o q → rightly o ≡ true → rightly q ≡ true
rightly_step call o q (same is) h = ap rightly is ∙ h
rightly_step call o q (is_written none is) h = ap rightly is
rightly_step call o q (gives asker max standby among asks there untried is) h = ap rightly is ∙ contains-insert asker among
rightly_step call o q (acked m there is) h = ap rightly is
rightly_step call o q (returns asker m asks there is) h = ap rightly is ∙ rightly_returned asker m (sym (ap rightly there) ∙ h)

abbrev pub AreRightly : SixBooks → Type 0
AreRightly six = (s : Side) (place : ℕ) → rightly (slice_get (send_of s six).marks place) ≡ true

pub ask_rightly : (x : Ask) (six : SixBooks) → AreRightly six → AreRightly (after_ask x six)
ask_rightly x six h s place = ask_marks s place x six (λ o q. rightly o ≡ true → rightly q ≡ true) (λ o is. is) (λ call o q step is. rightly_step call o q step is) (h s place)

-- ---- what is held is let go as it is given back

pub held_apart : (n : ℕ) (o : Option ByteMark) → holds n o ≡ true → let_go n o ≡ false
held_apart n None held = absurd (true≢false (sym held))
held_apart n (Some Acked) held = absurd (true≢false (sym held))
held_apart n (Some (Free among)) held = absurd (true≢false (sym held))
held_apart n (Some (Held holder among)) held = by (contains n among) (holder == n) held
  where
    by : (b c : Bool) → c ≡ true → (b && not c) ≡ false
    by b false is = absurd (true≢false (sym is))
    by true true is = refl
    by false true is = refl

gone_if : (n holder : ℕ) (among : List Bool) (c : Bool) → contains n among ≡ true → (holder == n) ≡ true → holds n (Some (if c then Free among else Held holder among)) ≡ false
    → let_go n (Some (if c then Free among else Held holder among)) ≡ true
gone_if n holder among true tried held away = tried
gone_if n holder among false tried held away = absurd (true≢false (sym held ∙ away))

gone_returned : (n asker : ℕ) (m : ByteMark) → is_held_rightly m ≡ true → holds n (Some m) ≡ true → holds n (Some (returned asker m)) ≡ false → let_go n (Some (returned asker m)) ≡ true
gone_returned n asker Acked right held away = absurd (true≢false (sym held))
gone_returned n asker (Free among) right held away = absurd (true≢false (sym held))
gone_returned n asker (Held holder among) right held away = gone_if n holder among (holder == asker) (subst (λ (x : ℕ). contains x among ≡ true) (eqb-true holder n held) right) held away

-- what a path held before a call, and doesn't hold after it, it let go
pub gone_step : (n : ℕ) (call : SendCall) (o q : Option ByteMark) → MarkStep call o q → holds n q ≡ false → rightly o ≡ true → holds n o ≡ true → let_go n q ≡ true
gone_step n call o q (same is) none right held = absurd (true≢false (sym held ∙ sym (ap (holds n) is) ∙ none))
gone_step n call o q (is_written isn't is) none right held = absurd (true≢false (sym held ∙ ap (holds n) isn't))
gone_step n call o q (gives asker max standby among asks there untried is) none right held = absurd (true≢false (sym held ∙ ap (holds n) there))
gone_step n call o q (acked m there is) none right held = ap (let_go n) is
gone_step n call o q (returns asker m asks there is) none right held = ap (let_go n) is ∙ gone_returned n asker m (sym (ap rightly there) ∙ right) (sym (ap (holds n) there) ∙ held) (sym (ap (holds n) is) ∙ none)

-- ---- turns

module _ {C : Type 0} (k : Codec C) where
  pub given_back_never_falls : GivenBackNeverFalls k
  given_back_never_falls start before more s path =
      let w = reached k start before in
      books_by_turns k (λ six. given_back path (written_by s w).marks ≤ given_back path (send_of s six).marks)
      (λ x six low. let up = given_up s path x six in omega (arith, low, up)) more w (le_refl _)

  pub marks_are_right : (start : Start) (turns : List Turn) → AreRightly (books_in (reached k start turns).books)
  marks_are_right start turns = books_by_turns k AreRightly (λ x six h. ask_rightly x six h) turns (opened_world start) (elim [ A ↦ λ place. refl | B ↦ λ place. refl ])

  -- from the six books to what an ask makes of them
  record Gave (s : Side) (path : ℕ) (six after : SixBooks) : Type 0 where
    none : (place : ℕ) → holds path (slice_get (send_of s after).marks place) ≡ false
    keeps : (place : ℕ) → let_go path (slice_get (send_of s six).marks place) ≡ true → let_go path (slice_get (send_of s after).marks place) ≡ true
    gone : (place : ℕ) → rightly (slice_get (send_of s six).marks place) ≡ true → holds path (slice_get (send_of s six).marks place) ≡ true
        → let_go path (slice_get (send_of s after).marks place) ≡ true

  abbrev Returns : SixBooks → SixBooks → List Note → PathState C → PathState C → Type 0
  Returns six after steps p q = (s : Side) (d : Duty) (ds : List Duty) → p.agenda ≡ d ∷ ds → IsReturn s d → (q ≡ p) ⊎ Gave s (path_of p) six after

  gave : (s : Side) (path : ℕ) (x : Ask) (six : SixBooks) → x ≡ asks.Send s (Return path) → Gave s path six (after_ask x six)
  gave s path x six is = record {
    none = λ place. gave_back s path place x six is;
    keeps = λ place gone. ask_lets_go s path place x six gone;
    gone = λ place. ask_marks s place x six (λ o q. holds path q ≡ false → rightly o ≡ true → holds path o ≡ true → let_go path q ≡ true) (λ o none right held. absurd (both_ways (holds path o) none held))
        (λ call o q step. gone_step path call o q step) (gave_back s path place x six is);
  }

  asks_return : (s : Side) (d : Duty) (p : PathState C) → IsReturn s d → ask_for k d p ≡ return_ask s p
  asks_return s d p is_return.expires = refl
  asks_return s d p is_return.leaves = refl
  asks_return s d p is_return.notes = refl

  asked_first : (d : Duty) (ds agenda : List Duty) (p : PathState C) (x : Ask) → agenda ≡ d ∷ ds → asks_first k agenda p ≡ Some x → ask_for k d p ≡ x
  asked_first d ds agenda p x is asking = same_Some (ask_for k d p) x (sym (ap (λ (xs : List Duty). asks_first k xs p) is) ∙ asking)

  returns_between : (w : WorldState C) (turn : Turn) (actor : ℕ) (c : ActorCrew C) → slice_get w.crew actor ≡ Some c → let v = after_turn k turn w in
      (d : ActorCrew C) × (slice_get v.crew actor ≡ Some d) × PathsBetween Returns w.books v.books d.list c.member d.member
  returns_between = paths_between k Returns (λ six x steps p s d ds first is. inl refl)
      (λ six x steps p asking told s d ds first is. inr (gave s (path_of p) x six (sym (asked_first d ds p.agenda p x first asking) ∙ asks_return s d p is)))
      (λ six steps p over s d ds first is. absurd (true≢false (sym over ∙ ap is_nil first)))

  pub each_return_counts : EachReturnCounts k
  each_return_counts start turns turn number p here s d ds first is =
      by found.0 found.1 found.0.member refl (subst (λ m. PathsBetween Returns w.books v.books found.0.list m found.0.member) here.is found.2)
    where
      w : WorldState C
      w = reached k start turns

      v : WorldState C
      v = after_turn k turn w

      found : (d : ActorCrew C) × (slice_get v.crew (2 + number) ≡ Some d) × PathsBetween Returns w.books v.books d.list here.crew.member d.member
      found = returns_between w turn (2 + number) here.crew here.there

      numbered : path_of p ≡ number
      numbered = let named = (subst (IsNamed k (2 + number)) here.is ((always_known k start turns).named (2 + number) here.crew here.there)).0 in omega (arith, named)

      gives : Gave s (path_of p) (books_in w.books) (books_in v.books) → GivesBack s number w v
      gives g = subst (λ n. GivesBack s n w v) numbered (record {
        none = g.none;
        more = λ place held. count_rises (let_go (path_of p)) refl place (written_by s w).marks (written_by s v).marks g.keeps (held_apart (path_of p) (slice_get (written_by s w).marks place) held) (g.gone place (marks_are_right start turns s place) held);
      })

      by : (e : ActorCrew C) → slice_get v.crew (2 + number) ≡ Some e → (m : Actor C) → e.member ≡ m → PathsBetween Returns w.books v.books e.list (Path p) e.member
          → (q : PathState C) × IsPathAt number v q × ((q ≡ p) ⊎ GivesBack s number w v)
      by e at (Path q) kind far = (
        q,
        record { crew = e; there = at; is = kind },
        ⊎_elim (λ same. inl same) (λ g. inr (gives g)) ((subst (λ m. PathsBetween Returns w.books v.books e.list (Path p) m) kind far) s d ds first is),
      )
      by e at (App a) kind far = absurd (subst (λ m. PathsBetween Returns w.books v.books e.list (Path p) m) kind far)

-- ---- the bound

pub given_back_is_bounded : GivenBackIsBounded
given_back_is_bounded start turns size s path =
    let most = count_by-le-length (λ mark. let_go path (Some mark)) (written_by s (reached values start turns)).marks in let whole = marks_are_whole start turns size s in
    let file = fits s in omega (arith, most, whole, file)
  where
    prefix_len : (xs ys : List ℕ) → IsPrefix xs ys → length xs ≤ length ys
    prefix_len xs ys h = (let whole = ap (λ (zs : List ℕ). length zs) h.whole_is in omega (arith, whole, length-append xs h.rest))

    fits : (s : Side) → length (written_by s (reached values start turns)).written ≤ length (pick s start.file_a start.file_b)
    fits A = prefix_len _ _ (writes_the_files values start turns).a.prefix
    fits B = prefix_len _ _ (writes_the_files values start turns).b.prefix
