-- Over every list of calls: what is granted once is never granted again to the same path, and what is acknowledged
-- stays so.
use Rattle.std.proofs.Common.{◌≡◌, refl, sym, ◌∙◌, ap, subst, ℕ, zero, suc, ◌+◌, ◌-◌, ◌<◌, ◌≤◌, min, Bool, true, false, ◌&&◌, ◌||◌, ◌==◌, nat_lt, nat_le, if◌then◌else◌, ⊎_elim, List, [], ◌∷◌, ◌++◌, length, drop, replicate, Option, Some, None, Result, Ok, Err, arith}
use Rattle.std.proofs.lemmas.Grind.{common_steps}
use Rattle.std.proofs.lemmas.Bool.{ltb-true, leb-true, eqb-true, le-ltb, lt-leb, cases_lt, and_parts, and_left, and_right, both_ways}
use Rattle.std.proofs.lemmas.Option.{slice_get-map, slice_get_past}
use Rattle.std.specs.Option.{option_map}
use Rattle.std.specs.List.{slice_get}
use Rattle.send_book.specs.declared.call.Span.{Span}
use Rattle.send_book.specs.declared.call.Why.{Why}
use Rattle.send_book.specs.declared.call.SendCall.{SendCall}
use Rattle.send_book.specs.declared.call.SendCall.TheVariants.{Write, Close, Grant, AckIn, Return, GoIdentity, GoInfinite, Abort}
use Rattle.std.proofs.lemmas.List.{length-take, length-drop}
use Rattle.send_book.specs.declared.call.SendReply.{SendReply}
use Rattle.send_book.specs.declared.call.SendReply.TheVariants.{Granted}
use Rattle.send_book.specs.declared.mark.ByteMark.{ByteMark}
use Rattle.send_book.specs.declared.mark.ByteMark.TheVariants.{Acked, Held, Free}
use Rattle.send_book.specs.Tried.{no_paths, contains}
use Rattle.send_book.specs.Marks.{is_free_for, given, returned}
use Rattle.send_book.specs.State.{Sending, Tile}
use Rattle.send_book.specs.Steps.{reply_to, after_call, decision, part_of, reply_by, given_by, is_future, is_gathered}
use Rattle.send_book.specs.Laws.{after_calls, is_asked_by, covers, times_granted, IsAckedAt, is_grant, IsPieceOf}
use Rattle.send_book.proofs.PathSets.{contains-insert, contains-insert_more}
use Rattle.send_book.proofs.Lists.{slice_get-append_left, slice_get-append_right, slice_get-drop, slice_get-replicate, slice_get-changed_below, slice_get-changed_inside, slice_get-changed_above}
use Rattle.send_book.proofs.Decisions.{MayTake, decision-MayTake}

-- A test of the mark at a place, that a grant and a return keep and an acknowledgement meets.
pub record Stays (test : Option ByteMark → Bool) : Type 0 where
  pub past : test None ≡ false
  pub acked : test (Some Acked) ≡ true
  pub given : (path : ℕ) (o : Option ByteMark) → test o ≡ true → test (option_map (given path) o) ≡ true
  pub returned : (path : ℕ) (o : Option ByteMark) → test o ≡ true → test (option_map (returned path) o) ≡ true

module _ (test : Option ByteMark → Bool) (stays : Stays test) (place : ℕ) where
  within : (marks : List ByteMark) → test (slice_get marks place) ≡ true → place < length marks
  within marks h = ⊎_elim (λ below. below)
      (λ past. absurd (both_ways _ (ap test (slice_get_past marks place past) ∙ stays.past) h)) (cases_lt place (length marks))

  after_a_grant : (path max : ℕ) (b : Sending) (r : Result Span Why) → ((span : Span) → r ≡ Ok span → MayTake path max b span)
      → test (slice_get b.marks place) ≡ true → test (slice_get (given_by path r b).marks place) ≡ true
  after_a_grant path max b (Err why) may h = h
  after_a_grant path max b (Ok span) may h =
      let m : MayTake path max b span = may span refl in
      let count : m.count ≡ span.to - span.from = omega (arith, m.whole) in
      let whole : span.to ≡ span.from + (span.to - span.from) = omega (arith, m.whole) in
      ⊎_elim (λ below. ap test (slice_get-changed_below (given path) span.from _ span.to b.marks whole m.within place below) ∙ h)
      (λ above. ⊎_elim
      (λ under. ap test (slice_get-changed_inside (given path) span.from _ span.to b.marks whole m.within place above under)
      ∙ stays.given path (slice_get b.marks place) h)
      (λ over. ap test (slice_get-changed_above (given path) span.from _ span.to b.marks whole m.within place over) ∙ h)
      (cases_lt place span.to))
      (cases_lt place span.from)

  after_an_ack : (next window : ℕ) (b : Sending) (future : Bool) (fin : Bool) → test (slice_get b.marks place) ≡ true
      → test (slice_get (if future then b else record b {
        marks = replicate (min next (length b.marks)) Acked ++ drop next b.marks;
        edge = window;
        fin = fin;
      }).marks place) ≡ true
  after_an_ack next window b true fin h = h
  after_an_ack next window b false fin h =
      let there : place < length b.marks = within b.marks h in
      ⊎_elim
      (λ below. ap test (slice_get-append_left (replicate (min next (length b.marks)) Acked) _ place (grind (arith, common_steps))
      ∙ slice_get-replicate _ place Acked (omega (arith, below, there))) ∙ stays.acked)
      (λ above. ap test (slice_get-append_right (replicate (min next (length b.marks)) Acked) _ (place - next) place (grind (arith, common_steps))
      ∙ slice_get-drop next b.marks (place - next) place (omega (arith, above))) ∙ h)
      (cases_lt place next)

  after_a_write : (shut : Bool) (bytes : List ℕ) (count : ℕ) (b : Sending) → test (slice_get b.marks place) ≡ true
      → test (slice_get (if shut then b else record b {
        written = bytes;
        marks = b.marks ++ replicate count (Free no_paths);
      }).marks place) ≡ true
  after_a_write true bytes count b h = h
  after_a_write false bytes count b h = ap test (slice_get-append_left b.marks _ place (within b.marks h)) ∙ h

  same_marks : (c : Bool) (one other : Sending) → test (slice_get one.marks place) ≡ true → test (slice_get other.marks place) ≡ true
      → test (slice_get (if c then one else other).marks place) ≡ true
  same_marks true one other h k = h
  same_marks false one other h k = k

  pub stays-after_call : (call : SendCall) (b : Sending) → test (slice_get b.marks place) ≡ true
      → test (slice_get (after_call b call).marks place) ≡ true
  stays-after_call (Write bytes) b h = after_a_write _ _ _ b h
  stays-after_call Close b h = same_marks b.aborted b (record b { closed = true }) h h
  stays-after_call (Grant path max standby) b h = after_a_grant path max b _ (decision-MayTake path max standby b) h
  stays-after_call (AckIn next window) b h = after_an_ack next _ b _ _ h
  stays-after_call (Return path) b h = ap test (slice_get-map (returned path) b.marks place) ∙ stays.returned path _ h
  stays-after_call GoIdentity b h = h
  stays-after_call (GoInfinite path) b h = same_marks (is_gathered path b) (record b { owner = Some path }) b h h
  stays-after_call Abort b h = h

  stays-after_calls : (calls : List SendCall) (b : Sending) → test (slice_get b.marks place) ≡ true
      → test (slice_get (after_calls calls b).marks place) ≡ true
  stays-after_calls [] b h = h
  stays-after_calls (call ∷ calls) b h = stays-after_calls calls (after_call b call) (stays-after_call call b h)

-- acknowledged
abbrev acked_there : Option ByteMark → Bool
acked_there (Some Acked) = true
acked_there _ = false

acked_there-stays : Stays acked_there
acked_there-stays = record {
  past = refl;
  acked = refl;
  given = λ path. elim [
    | None ↦ λ h. h
    | Some mark ↦ elim mark as (λ m. acked_there (Some m) ≡ true → acked_there (Some (given path m)) ≡ true)
        [ Acked ↦ λ h. h | Held holder tried ↦ λ h. h | Free tried ↦ λ h. h ]
  ];
  returned = λ path. elim [
    | None ↦ λ h. h
    | Some mark ↦ elim mark as (λ m. acked_there (Some m) ≡ true → acked_there (Some (returned path m)) ≡ true)
        [ Acked ↦ λ h. h | Held holder tried ↦ λ h. cc | Free tried ↦ λ h. h ]
  ];
}

acked_there-Acked : (o : Option ByteMark) → acked_there o ≡ true → o ≡ Some Acked
acked_there-Acked (Some Acked) h = refl
acked_there-Acked _ h = cc

pub acknowledged_stays : (calls : List SendCall) (b : Sending) (place : ℕ) → IsAckedAt place b → IsAckedAt place (after_calls calls b)
acknowledged_stays calls b place acked =
    acked_there-Acked _ (stays-after_calls acked_there acked_there-stays place calls b (ap acked_there acked))

-- acknowledged, or tried by this path
abbrev pub spent : ℕ → Option ByteMark → Bool
spent path None = false
spent path (Some Acked) = true
spent path (Some (Held holder tried)) = contains path tried
spent path (Some (Free tried)) = contains path tried

spent-if : (path : ℕ) (b : Bool) (holder : ℕ) (tried : List Bool) → contains path tried ≡ true
    → spent path (Some (if b then Free tried else Held holder tried)) ≡ true
spent-if path true holder tried h = h
spent-if path false holder tried h = h

pub spent-stays : (path : ℕ) → Stays (spent path)
spent-stays path = record {
  past = refl;
  acked = refl;
  given = λ other. elim [
    | None ↦ λ h. h
    | Some mark ↦ elim mark as (λ m. spent path (Some m) ≡ true → spent path (Some (given other m)) ≡ true)
        [ Acked ↦ λ h. h | Held holder tried ↦ λ h. h | Free tried ↦ λ h. contains-insert_more other path tried h ]
  ];
  returned = λ other. elim [
    | None ↦ λ h. h
    | Some mark ↦ elim mark as (λ m. spent path (Some m) ≡ true → spent path (Some (returned other m)) ≡ true)
        [ Acked ↦ λ h. h | Held holder tried ↦ λ h. spent-if path (holder == other) holder tried h | Free tried ↦ λ h. h ]
  ];
}

-- what is spent is not free for the path
pub spent-not_free : (path : ℕ) (mark : ByteMark) → spent path (Some mark) ≡ true → is_free_for path mark ≡ false
spent-not_free path Acked h = refl
spent-not_free path (Held holder tried) h = refl
spent-not_free path (Free tried) h = rw h refl

-- what is free for the path is spent once it is given
pub spent-given : (path : ℕ) (mark : ByteMark) → is_free_for path mark ≡ true → spent path (Some (given path mark)) ≡ true
spent-given path Acked h = cc
spent-given path (Held holder tried) h = cc
spent-given path (Free tried) h = contains-insert path tried

element : (marks : List ByteMark) (place : ℕ) → place < length marks → (mark : ByteMark) × (slice_get marks place ≡ Some mark)
element [] place within = absurd (omega (arith, within))
element (mark ∷ marks) zero within = (mark, refl)
element (mark ∷ marks) (suc place) within = element marks place (omega (arith, within))

module _ (path place : ℕ) where
  not_covered : (max : ℕ) (b : Sending) (r : Result Span Why) → ((span : Span) → r ≡ Ok span → MayTake path max b span)
      → spent path (slice_get b.marks place) ≡ true → covers place (reply_by r b) ≡ false
  not_covered max b (Err why) may h = refl
  not_covered max b (Ok span) may h =
      let m : MayTake path max b span = may span refl in
      ⊎_elim (λ below. and_left _ _ (lt-leb _ _ below))
      (λ above. ⊎_elim
      (λ under. let there = element b.marks place (omega (arith, under, m.within)) in
      absurd (both_ways _ (spent-not_free path there.0 (ap (spent path) (sym there.1) ∙ h)) (m.free place there.0 above under there.1)))
      (λ over. and_right _ _ (le-ltb _ _ over))
      (cases_lt place span.to))
      (cases_lt place span.from)

  covered-spent : (max : ℕ) (b : Sending) (r : Result Span Why) → ((span : Span) → r ≡ Ok span → MayTake path max b span)
      → covers place (reply_by r b) ≡ true → spent path (slice_get (given_by path r b).marks place) ≡ true
  covered-spent max b (Err why) may h = cc
  covered-spent max b (Ok span) may h =
      let m : MayTake path max b span = may span refl in
      let both = and_parts (nat_le span.from place) (nat_lt place span.to) h in
      let above : span.from ≤ place = leb-true _ _ both.0 in
      let under : place < span.to = ltb-true _ _ both.1 in
      let there = element b.marks place (omega (arith, under, m.within)) in
      ap (spent path) (slice_get-changed_inside (given path) span.from _ span.to b.marks (omega (arith, m.whole)) m.within place above under
      ∙ ap (option_map (given path)) there.1)
      ∙ spent-given path there.0 (m.free place there.0 above under there.1)

  asked_by_another : (asker : ℕ) (max : ℕ) (b : Sending) (r : Result Span Why) (same : Bool) → (asker == path) ≡ same
      → ((span : Span) → r ≡ Ok span → MayTake asker max b span)
      → spent path (slice_get b.marks place) ≡ true → (same && covers place (reply_by r b)) ≡ false
  asked_by_another asker max b r true is may h =
      let e : asker ≡ path = eqb-true _ _ is in
      not_covered max b r (λ span ok. subst (λ p. MayTake p max b span) e (may span ok)) h
  asked_by_another asker max b r false is may h = refl

  asked_by_itself : (asker : ℕ) (max : ℕ) (b : Sending) (r : Result Span Why) (same : Bool) → (asker == path) ≡ same
      → ((span : Span) → r ≡ Ok span → MayTake asker max b span)
      → (same && covers place (reply_by r b)) ≡ true → spent path (slice_get (given_by asker r b).marks place) ≡ true
  asked_by_itself asker max b r true is may h =
      let e : asker ≡ path = eqb-true _ _ is in
      rw e (covered-spent max b r (λ span ok. subst (λ p. MayTake p max b span) e (may span ok)) h)
  asked_by_itself asker max b r false is may h = cc

  spent-not_granted : (call : SendCall) (b : Sending) → spent path (slice_get b.marks place) ≡ true
      → (is_asked_by path call && covers place (reply_to b call)) ≡ false
  spent-not_granted (Write bytes) b h = refl
  spent-not_granted Close b h = refl
  spent-not_granted (Grant asker max standby) b h =
      asked_by_another asker max b (decision asker max standby b) (asker == path) refl (decision-MayTake asker max standby b) h
  spent-not_granted (AckIn next window) b h = refl
  spent-not_granted _ b h = refl

  granted-spent : (call : SendCall) (b : Sending) → (is_asked_by path call && covers place (reply_to b call)) ≡ true
      → spent path (slice_get (after_call b call).marks place) ≡ true
  granted-spent (Write bytes) b h = cc
  granted-spent Close b h = cc
  granted-spent (Grant asker max standby) b h =
      asked_by_itself asker max b (decision asker max standby b) (asker == path) refl (decision-MayTake asker max standby b) h
  granted-spent (AckIn next window) b h = cc
  granted-spent _ b h = cc

  never_again : (calls : List SendCall) (b : Sending) → spent path (slice_get b.marks place) ≡ true → times_granted path place calls b ≡ 0
  never_again [] b h = refl
  never_again (call ∷ calls) b h =
      let rest = never_again calls (after_call b call) (stays-after_call (spent path) (spent-stays path) place call b h) in
      rw (spent-not_granted call b h) (omega (arith, rest))

  at_most_once : (calls : List SendCall) (b : Sending) → times_granted path place calls b ≤ 1
  at_most_once [] b = omega arith
  at_most_once (call ∷ calls) b =
      at (is_asked_by path call && covers place (reply_to b call)) refl (at_most_once calls (after_call b call))
    where
      at : (granted : Bool) → (is_asked_by path call && covers place (reply_to b call)) ≡ granted
          → times_granted path place calls (after_call b call) ≤ 1
          → (if granted then 1 else 0) + times_granted path place calls (after_call b call) ≤ 1
      at true is rest = omega (arith, never_again calls (after_call b call) (granted-spent call b is))
      at false is rest = omega (arith, rest)

pub granted_at_most_once : (calls : List SendCall) (b : Sending) (path place : ℕ) → times_granted path place calls b ≤ 1
granted_at_most_once calls b path place = at_most_once path place calls b

-- an aborted book stays aborted
aborted-after_grant : (path : ℕ) (b : Sending) (r : Result Span Why) → b.aborted ≡ true → (given_by path r b).aborted ≡ true
aborted-after_grant path b (Ok span) h = h
aborted-after_grant path b (Err why) h = h

aborted-if : (c : Bool) (one other : Sending) → one.aborted ≡ true → other.aborted ≡ true → (if c then one else other).aborted ≡ true
aborted-if true one other h k = h
aborted-if false one other h k = k

aborted-after_call : (call : SendCall) (b : Sending) → b.aborted ≡ true → (after_call b call).aborted ≡ true
aborted-after_call (Write bytes) b h = aborted-if (b.closed || b.aborted) b _ h h
aborted-after_call Close b h = aborted-if b.aborted b _ h h
aborted-after_call (Grant path max standby) b h = aborted-after_grant path b (decision path max standby b) h
aborted-after_call (AckIn next window) b h = aborted-if (is_future next b) b _ h h
aborted-after_call (Return path) b h = h
aborted-after_call GoIdentity b h = h
aborted-after_call (GoInfinite path) b h = aborted-if (is_gathered path b) _ b h h
aborted-after_call Abort b h = refl

aborted-after_calls : (calls : List SendCall) (b : Sending) → b.aborted ≡ true → (after_calls calls b).aborted ≡ true
aborted-after_calls [] b h = h
aborted-after_calls (call ∷ calls) b h = aborted-after_calls calls (after_call b call) (aborted-after_call call b h)

not_granted-if : (c : Bool) (one other : SendReply) → is_grant one ≡ false → is_grant other ≡ false → is_grant (if c then one else other) ≡ false
not_granted-if true one other h k = h
not_granted-if false one other h k = k

nothing_granted : (call : SendCall) (b : Sending) → b.aborted ≡ true → is_grant (reply_to b call) ≡ false
nothing_granted (Write bytes) b h = not_granted-if (b.closed || b.aborted) _ _ refl refl
nothing_granted Close b h = not_granted-if b.aborted _ _ refl refl
nothing_granted (Grant path max standby) b h = rw h refl
nothing_granted (AckIn next window) b h = not_granted-if (is_future next b) _ _ refl refl
nothing_granted (GoInfinite path) b h = not_granted-if (is_gathered path b) _ _ refl refl
nothing_granted _ b h = refl

pub nothing_after_an_abort : (calls : List SendCall) (call : SendCall) (b : Sending) → b.aborted ≡ true
    → is_grant (reply_to (after_calls calls b) call) ≡ false
nothing_after_an_abort calls call b aborted = nothing_granted call (after_calls calls b) (aborted-after_calls calls b aborted)

piece_of : (path max : ℕ) (b : Sending) (r : Result Span Why) (span : Span) (piece : List ℕ) → Tile b → 1 ≤ max
    → ((span : Span) → r ≡ Ok span → MayTake path max b span) → reply_by r b ≡ Granted span piece → IsPieceOf span piece max
piece_of path max b (Err why) span piece tile some may e = cc
piece_of path max b (Ok given) span piece tile some may e =
    let m : MayTake path max b given = may given refl in
    let same : given ≡ span = cc in
    let bytes : part_of given b.written ≡ piece = cc in
    let len : length (part_of given b.written) ≡ given.to - given.from =
    omega (arith, length-take (given.to - given.from) (drop given.from b.written), length-drop given.from b.written, m.within, m.whole, tile.whole) in
    subst (λ s. IsPieceOf s piece max) same (subst (λ p. IsPieceOf given p max) bytes (record {
      whole = len;
      some = omega (arith, len, m.whole, m.some some);
      most = omega (arith, len, m.whole, m.most);
    }))

pub granted_pieces_are_whole : (b : Sending) (path max : ℕ) (standby : Bool) (span : Span) (piece : List ℕ) → Tile b → 1 ≤ max
    → reply_to b (Grant path max standby) ≡ Granted span piece → IsPieceOf span piece max
granted_pieces_are_whole b path max standby span piece tile some e =
    piece_of path max b (decision path max standby b) span piece tile some (decision-MayTake path max standby b) e
