-- What a round between open moments brings: the writer writes, the reader reads, and what comes by a tick came once a round is over that ends later.
use Rattle.std.proofs.Common.{◌≡◌, refl, sym, subst, ap, ◌∙◌, ⊎_elim, ℕ, zero, suc, ◌+◌, ◌*◌, ◌<◌, ◌≤◌, min, arith, true, false, if◌then◌else◌, Option, Some, None, List, [], ◌∷◌, ◌++◌, length, map}
use Rattle.std.specs.List.{AllByRecursion, slice_get}
use Rattle.std.proofs.lemmas.Bool.{both_ways}
use Rattle.std.proofs.lemmas.List.{append-nil, append_assoc}
use Rattle.sides.specs.declared.side.Side.{Side}
use Rattle.sides.specs.declared.side.Side.TheVariants.{A, B}
use Rattle.sides.specs.Side.{peer}
use Rattle.link_model.specs.declared.flight.Flight.{Flight}
use Rattle.send_book.specs.State.{acked_len}
use Rattle.reassembly_book.specs.State.{received}
use Rattle.actor_desk.specs.Words.{pick}
use Rattle.path_core.specs.State.{PathState}
use Rattle.path_core.specs.Values.{Carried, values}
use Rattle.world_laws.specs.Actors.{ActorCrew, is_over}
use Rattle.world_laws.specs.Members.{HoldsOfKind}
use Rattle.world_laws.specs.Openings.{Start, opened_world}
use Rattle.world_laws.specs.Outcomes.{notes_of, output_of, tells_stop, was_told}
use Rattle.world_laws.specs.Promises.{arrived_at, written_by}
use Rattle.world_laws.specs.RoundDone.{reached}
use Rattle.world_laws.specs.RoundNumbers.{BeginsRound, after_steps}
use Rattle.world_laws.specs.Worlds.{Turn, WorldState, all_over, begins, end_round, goes, greatest, is_going}
use Rattle.world_laws.proofs.Rounds.Lifting.{all_over_each}
use Rattle.world_laws.proofs.Rounds.ReadAll.{readers_caught_up}
use Rattle.world_laws.proofs.Weaving.WholeRounds.{run_append}
use Rattle.world_laws.proofs.Worlds.CastLifting.{writes_the_files}
use Rattle.whole_paths.specs.AsFar.{IsAsFar}
use Rattle.whole_paths.specs.Courses.{round_end}
use Rattle.whole_paths.specs.Delivery.{IsAllThere}
use Rattle.whole_paths.specs.Finish.{IsPathAt}
use Rattle.whole_paths.specs.GoingOn.{steps_of}
use Rattle.whole_paths.specs.InTime.{ComesFrom}
use Rattle.whole_paths.specs.Mild.{IsMildStart}
use Rattle.whole_paths.specs.OpenCourses.{IsOpenAfter}
use Rattle.whole_paths.specs.SegmentRounds.{EachRoundReads, EachRoundWrites, IsRound, Rounds, StaysOpen, read_after, written_after}
use Rattle.whole_paths.specs.Straying.{IsOpen}
use Rattle.whole_paths.specs.Timers.{TimersAreNear}
use Rattle.whole_paths.specs.Writers.{GoesOnWriting}
use Rattle.whole_paths.proofs.Courses.{all_comes_later, round_next, round_step}
use Rattle.whole_paths.proofs.Delivery.{bounds_at}
use Rattle.whole_paths.proofs.GoesOn.{goes_on_so}
use Rattle.whole_paths.proofs.InTime.{nil_so}
use Rattle.whole_paths.proofs.RecordWaits.{path_is}
use Rattle.whole_paths.proofs.Timing.{timers_run_out}
use Rattle.whole_paths.proofs.Unstopped.{sides_are_never_stopped}
use Rattle.whole_paths.proofs.Writers.{writers_go_on}
use Rattle.world_laws.proofs.Rounds.DoneByTheEnd.{rounds_end_on_time}
use Rattle.world_laws.specs.RoundDone.{EndsAt}

-- an actor whose turn is over doesn't go
not_going : (actor : ℕ) (w : WorldState Carried) → all_over w.crew ≡ true → is_going actor w ≡ false
not_going actor w over = by (slice_get w.crew actor) refl
  where
    by : (o : Option (ActorCrew Carried)) → slice_get w.crew actor ≡ o → goes o ≡ false
    by None there = refl
    by (Some c) there = rw (all_over_each w.crew actor c over there) refl

module _ (start : Start) where
  abbrev at : List Turn → WorldState Carried
  at turns = reached values start turns

  -- ---- what is left of a list of turns

  at_end : (turns : List Turn) → at (turns ++ []) ≡ at turns
  at_end turns = ap at (append-nil turns)

  at_next : (turns : List Turn) (turn : Turn) (more : List Turn) → at (turns ++ turn ∷ more) ≡ at ((turns ++ turn ∷ []) ++ more)
  at_next turns turn more = ap at (sym (append_assoc turns (turn ∷ []) more))

  pub open_first : (turns more : List Turn) → StaysOpen start turns more → IsOpenAfter start turns
  open_first turns [] h = h
  open_first turns (turn ∷ more) h = h.0

  pub open_last : (turns more : List Turn) → StaysOpen start turns more → IsOpenAfter start (turns ++ more)
  open_last turns [] h = subst (IsOpenAfter start) (sym (append-nil turns)) h
  open_last turns (turn ∷ more) h = subst (IsOpenAfter start) (append_assoc turns (turn ∷ []) more) (open_last (turns ++ turn ∷ []) more h.1)

  -- what each turn keeps holds after all of them
  pub carried : (P : PathState Carried → Type 0) → ((turns : List Turn) (turn : Turn) (before : IsOpenAfter start turns) (after : IsOpenAfter start (turns ++ turn ∷ [])) → P before.path → P after.path)
      → (turns more : List Turn) → StaysOpen start turns more → (p q : PathState Carried) → IsPathAt 0 (at turns) p → IsPathAt 0 (at (turns ++ more)) q → P p → P q
  carried P goes turns [] h p q here there so = subst P (path_is (at turns) p q here (subst (λ w. IsPathAt 0 w q) (at_end turns) there)) so
  carried P goes turns (turn ∷ more) h p q here there so =
      let next = open_first (turns ++ turn ∷ []) more h.1 in
      carried P goes (turns ++ turn ∷ []) more h.1 next.path q next.here (subst (λ w. IsPathAt 0 w q) (at_next turns turn more) there)
      (goes turns turn h.0 next (subst P (path_is (at turns) p h.0.path here h.0.here) so))

  -- ---- a round

  pub steps_later : (turns : List Turn) (order : List ℕ) → round_end values start (turns ++ steps_of order) ≡ round_end values start turns
  steps_later turns [] = ap (round_end values start) (append-nil turns)
  steps_later turns (actor ∷ order) =
      ap (round_end values start) (sym (append_assoc turns (Turn.Step actor ∷ []) (steps_of order))) ∙ steps_later (turns ++ Turn.Step actor ∷ []) order ∙ round_step values start turns actor

  pub round_later : (v u : List Turn) → IsRound start v u → round_end values start u ≡ round_end values start v + 100
  round_later v u r =
      let steps = steps_later (v ++ Turn.Round ∷ []) r.order in
      let split = ap (round_end values start) (r.is ∙ sym (append_assoc v (Turn.Round ∷ []) (steps_of r.order))) in
      let next = round_next values start v r.before in omega (arith, steps, split, next)

  pub rounds_later : (n : ℕ) (v u : List Turn) → Rounds start n v u → round_end values start u ≡ round_end values start v + 100 * n
  rounds_later zero v u is = subst (λ t. round_end values start t ≡ round_end values start v + 100 * 0) is (omega arith)
  rounds_later (suc n) v u r = let some = rounds_later n v r.0 r.1.0 in let one = round_later r.0 u r.1.1 in omega (arith, some, one)

  -- the turns of the rounds
  pub record Between (v u : List Turn) : Type 0 where
    pub more : List Turn
    pub is : u ≡ v ++ more
    pub stays_open : StaysOpen start v more

  joined : (turns more rest : List Turn) → StaysOpen start turns more → StaysOpen start (turns ++ more) rest → StaysOpen start turns (more ++ rest)
  joined turns [] rest h k = subst (λ t. StaysOpen start t rest) (append-nil turns) k
  joined turns (turn ∷ more) rest h k = (h.0, joined (turns ++ turn ∷ []) more rest h.1 (subst (λ t. StaysOpen start t rest) (sym (append_assoc turns (turn ∷ []) more)) k))

  -- one round or more
  pub between : (n : ℕ) (v u : List Turn) → Rounds start (suc n) v u → Between v u
  between zero v u r = subst (λ t. Between t u) (sym r.1.0) (record { more = Turn.Round ∷ steps_of r.1.1.order; is = r.1.1.is; stays_open = r.1.1.stays_open })
  between (suc n) v u r =
      let first = between n v r.0 r.1.0 in
      let last = r.1.1 in
      record {
        more = first.more ++ Turn.Round ∷ steps_of last.order;
        is = last.is ∙ ap (λ t. t ++ Turn.Round ∷ steps_of last.order) first.is ∙ append_assoc v first.more (Turn.Round ∷ steps_of last.order);
        stays_open = joined v first.more (Turn.Round ∷ steps_of last.order) first.stays_open (subst (λ t. StaysOpen start t (Turn.Round ∷ steps_of last.order)) first.is last.stays_open);
      }

  pub one_between : (v u : List Turn) → IsRound start v u → Between v u
  one_between v u r = record { more = Turn.Round ∷ steps_of r.order; is = r.is; stays_open = r.stays_open }

  pub then_between : (v w u : List Turn) → Between v w → Between w u → Between v u
  then_between v w u a b = record {
    more = a.more ++ b.more;
    is = b.is ∙ ap (λ t. t ++ b.more) a.is ∙ append_assoc v a.more b.more;
    stays_open = joined v a.more b.more a.stays_open (subst (λ t. StaysOpen start t b.more) a.is b.stays_open);
  }

  -- path 0, open
  pub record IsPathThere (turns : List Turn) : Type 0 where
    pub path : PathState Carried
    pub here : IsPathAt 0 (at turns) path
    pub is_open : IsOpen path

  pub path_there : (v u : List Turn) → Between v u → IsPathThere u
  path_there v u b = let o = open_last v b.more b.stays_open in record { path = o.path; here = subst (λ t. IsPathAt 0 (at t) o.path) (sym b.is) o.here; is_open = o.is_open }

  pub over_after : (n : ℕ) (v u : List Turn) → Rounds start (suc n) v u → all_over (at u).crew ≡ true
  over_after n v u r = r.1.1.over

  pub over_before : (n : ℕ) (v u : List Turn) → Rounds start (suc n) v u → all_over (at v).crew ≡ true
  over_before zero v u r = subst (λ t. all_over (at t).crew ≡ true) (sym r.1.0) r.1.1.before
  over_before (suc n) v u r = over_before n v r.0 r.1.0

  pub far : (v u : List Turn) → Between v u → IsAsFar (at v) (at u)
  far v u b = subst (IsAsFar (at v)) (sym (ap at b.is ∙ run_append values v b.more (opened_world start))) (goes_on_so values (at v) b.more)

  -- ---- of one round

  module _ (v u : List Turn) (r : IsRound start v u) where
    abbrev pub begun : WorldState Carried
    begun = end_round (at v)

    pub begins_so : BeginsRound values start begun
    begins_so = BeginsRound.Next v r.before refl

    pub ended : at u ≡ after_steps values r.order begun
    ended = ap at r.is ∙ run_append values v (Turn.Round ∷ steps_of r.order) (opened_world start)

    pub same_books : (P : WorldState Carried → Type 0) → ((w : WorldState Carried) → P w → P (record w { crew = map (begins (greatest 0 w.crew)) w.crew })) → P (at v) → P begun
    same_books P keeps h = elim (all_over (at v).crew) as (λ b. P (if b then record (at v) { crew = map (begins (greatest 0 (at v).crew)) (at v).crew } else at v)) [ true ↦ keeps (at v) h | false ↦ h ]

    over_then : all_over (after_steps values r.order begun).crew ≡ true
    over_then = subst (λ (w : WorldState Carried). all_over w.crew ≡ true) ended r.over

  module _ (mild : IsMildStart start) (v u : List Turn) (r : IsRound start v u) (s : Side) where
    file : List ℕ
    file = pick s start.file_a start.file_b

    pub goes_on_writing : GoesOnWriting (pick s start.file_a start.file_b) start.buffer (acked_len (written_by s (at v)).marks) (written_by s (at u))
    goes_on_writing = subst (λ (w : WorldState Carried). GoesOnWriting (pick s start.file_a start.file_b) start.buffer (acked_len (written_by s (at v)).marks) (written_by s w)) (sym (ended v u r))
        (subst (λ n. GoesOnWriting (pick s start.file_a start.file_b) start.buffer n (written_by s (after_steps values r.order (begun v u r)))) same
        (writers_go_on start (begun v u r) r.order mild.fit (begins_so v u r) s (not_going (pick s 0 1) (after_steps values r.order (begun v u r)) (over_then v u r))))
      where
        same : acked_len (written_by s (begun v u r)).marks ≡ acked_len (written_by s (at v)).marks
        same = same_books v u r (λ w. acked_len (written_by s w).marks ≡ acked_len (written_by s (at v)).marks) (λ w is. is) refl

    pub wrote : min (length (pick s start.file_a start.file_b)) (acked_len (written_by s (at v)).marks + start.buffer) ≤ written_after start s u
    wrote = by goes_on_writing
      where
        by : GoesOnWriting (pick s start.file_a start.file_b) start.buffer (acked_len (written_by s (at v)).marks) (written_by s (at u))
            → min (length (pick s start.file_a start.file_b)) (acked_len (written_by s (at v)).marks + start.buffer) ≤ written_after start s u
        by (GoesOnWriting.whole is closed) = (let all = ap (λ (xs : List ℕ). length xs) is in omega (arith, all))
        by (GoesOnWriting.more low) = omega (arith, low)
        by (GoesOnWriting.stopped is) = absurd (both_ways _ ((sides_are_never_stopped start u mild).send s) is)

    pub read : received (arrived_at (peer s) (at v)) ≤ read_after start s u
    read = ⊎_elim
        (λ all. (let output = (bounds_at start u mild s).output in
        let out : length (output_of (peer s) (at u)) ≡ length (output_of (peer s) (after_steps values r.order (begun v u r))) = ap (λ (w : WorldState Carried). length (output_of (peer s) w)) (ended v u r) in omega (arith, all, output, out, same)))
        (λ told. absurd (both_ways _ (subst (λ (w : WorldState Carried). was_told tells_stop (notes_of (peer s) w.crew) ≡ false) (ended v u r) ((sides_are_never_stopped start u mild).told (peer s))) told))
        (readers_caught_up values start (begun v u r) r.order (begins_so v u r) (peer s) (not_going (pick (peer s) 0 1) (after_steps values r.order (begun v u r)) (over_then v u r)))
      where
        same : received (arrived_at (peer s) (begun v u r)) ≡ received (arrived_at (peer s) (at v))
        same = same_books v u r (λ w. received (arrived_at (peer s) w) ≡ received (arrived_at (peer s) (at v))) (λ w is. is) refl

  -- ---- ticks

  -- the clock of path 0 lies before the round's end
  pub early : (turns : List Turn) (p : PathState Carried) → IsPathAt 0 (at turns) p → p.clock < round_end values start turns
  early turns p here =
      let near : TimersAreNear p = subst (HoldsOfKind (λ app. Unit {0}) TimersAreNear) here.is ((timers_run_out values start turns).each 2 here.crew here.there) in
      let until = subst (EndsAt (round_end values start turns)) here.is ((rounds_end_on_time values start turns).each 2 here.crew here.there) in
      let clock = near.clock in omega (arith, clock, until)

  -- and where its turn is over nothing is to be done
  pub silent : (turns : List Turn) (p : PathState Carried) → all_over (at turns).crew ≡ true → IsPathAt 0 (at turns) p → p.agenda ≡ []
  silent turns p over here = nil_so p.agenda (subst (λ m. is_over m ≡ true) here.is (all_over_each (at turns).crew 2 here.crew over here.there))

  -- a copy of those under way comes no earlier
  copies_late : (n : ℕ) (fs : List (Flight Carried)) → AllByRecursion (λ (f : Flight Carried). n ≤ f.tick) fs → (i : ℕ) (f : Flight Carried) → slice_get fs i ≡ Some f → n ≤ f.tick
  copies_late n [] h i f there = cc
  copies_late n (g ∷ fs) h zero f there = subst (λ (x : Flight Carried). n ≤ x.tick) (first g f there) h.0
    where
      first : (g f : Flight Carried) → Some g ≡ Some f → g ≡ f
      first g f is = cc
  copies_late n (g ∷ fs) h (suc i) f there = copies_late n fs h.1 i f there

  pub none_comes : (turns : List Turn) (p : PathState Carried) → all_over (at turns).crew ≡ true → (here : IsPathAt 0 (at turns) p) → (i : ℕ) (f : Flight Carried) → slice_get p.link.under_way i ≡ Some f
      → round_end values start turns ≤ f.tick
  none_comes turns p over here i f there =
      let later : ComesFrom (round_end values start turns) p = all_comes_later values start turns 2 here.crew p over here.there here.is in
      copies_late (round_end values start turns) p.link.under_way later.copies i f there

pub each_round_writes : EachRoundWrites
each_round_writes start v u mild r s = wrote start mild v u r s

pub each_round_reads : EachRoundReads
each_round_reads start v u mild r s = read start mild v u r s

-- what is there is a whole file
pub there_whole : (start : Start) (turns : List Turn) (s : Side) → IsAllThere s (reached values start turns) → length (pick s start.file_a start.file_b) ≤ received (arrived_at (peer s) (reached values start turns))
there_whole start turns A h = (let whole = ap (λ (xs : List ℕ). length xs) ((writes_the_files values start turns).a.whole h.closed) in let all = h.received in omega (arith, whole, all))
there_whole start turns B h = (let whole = ap (λ (xs : List ℕ). length xs) ((writes_the_files values start turns).b.whole h.closed) in let all = h.received in omega (arith, whole, all))
