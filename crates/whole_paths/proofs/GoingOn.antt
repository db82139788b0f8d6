-- Where nothing is outstanding at an end of the only path, its side writes, closes or says where its stream ends within two rounds.
use Rattle.std.proofs.Common.{◌≡◌, refl, sym, subst, ap, ◌∙◌, inl, inr, ◌⊎◌, ⊎_elim, ℕ, zero, suc, ◌<◌, ◌≤◌, arith, Bool, true, false, true≢false, if◌then◌else◌, is_some, Option, Some, None, List, [], ◌∷◌, ◌++◌, append_assoc, length, length-append, map}
use Rattle.std.specs.List.{slice_get}
use Rattle.std.proofs.lemmas.Bool.{both_ways, cases_eq, cases_lt}
use Rattle.std.proofs.lemmas.List.{append-nil}
use Rattle.std.proofs.lemmas.Option.{same_Some}
use Rattle.octet_text.specs.Prefix.{IsPrefix}
use Rattle.sides.specs.declared.side.Side.{Side}
use Rattle.sides.specs.declared.side.Side.TheVariants.{A, B}
use Rattle.sides.specs.Side.{peer}
use Rattle.send_book.specs.State.{acked_len}
use Rattle.reassembly_book.specs.State.{received}
use Rattle.subflow_send.specs.Records.{Record}
use Rattle.subflow_tcp.specs.declared.handshake.State.{State}
use Rattle.subflow_tcp.specs.declared.handshake.State.TheVariants.{CloseWait, Closing, Dead, Established, FinWait1, FinWait2, LastAck, Listen, SynReceived, SynSent, TimeWait, Waiting}
use Rattle.subflow_tcp.specs.States.{is_behind_fin, is_dead, may_finish}
use Rattle.actor_desk.specs.Books.{StampedBooks, books_in}
use Rattle.actor_desk.specs.Desk.{send_of}
use Rattle.actor_desk.specs.Words.{is_nil, pick}
use Rattle.path_agenda.specs.declared.duty.Duty.{Duty}
use Rattle.path_store.specs.declared.granted_piece.GrantedPiece.{GrantedPiece}
use Rattle.path_core.specs.End.{PathEnd}
use Rattle.path_core.specs.Modes.{sends_plainly}
use Rattle.path_core.specs.Start.{first_turn}
use Rattle.path_core.specs.State.{PathState, end_at}
use Rattle.path_core.specs.Values.{Carried, values}
use Rattle.world_laws.specs.declared.member.Member.TheVariants.{App, Path}
use Rattle.world_laws.specs.Actors.{Actor, ActorCrew, is_over}
use Rattle.world_laws.specs.Members.{HoldsOfKind}
use Rattle.world_laws.specs.Openings.{PathPlan, Start, new_path, opened_world, path_begins, paths_from}
use Rattle.world_laws.specs.Promises.{arrived_at, written_by}
use Rattle.world_laws.specs.RoundDone.{reached}
use Rattle.world_laws.specs.RoundNumbers.{BeginsRound, after_steps, last_on_standby, steps_since}
use Rattle.world_laws.specs.Worlds.{Turn, WorldState, all_over, begins, end_round, goes, greatest, is_going, world_run}
use Rattle.world_laws.proofs.Rounds.Lifting.{all_over_each}
use Rattle.world_laws.proofs.Weaving.WholeRounds.{run_append}
use Rattle.whole_paths.specs.Acknowledged.{IdleIsAcknowledged, IsAllAcknowledged}
use Rattle.whole_paths.specs.AsFar.{IsActorAsFar, IsSideAsFar, stage}
use Rattle.whole_paths.specs.Courses.{counted, counted_at}
use Rattle.whole_paths.specs.Delivery.{AllIsThere, FinishedIsThere, HasFinished, IsAllThere}
use Rattle.whole_paths.specs.GoingOn.{EndsGoOn, IsEndOpen, IsEndOpenHere, going_side, IsAboutToGoOn, IsWaiting, RoundsBeginToGoOn, RoundsGoOn, StepsLetItGoOn, steps_of}
use Rattle.whole_paths.specs.GoingOn.IsAboutToGoOn.{this_round, next_round}
use Rattle.whole_paths.specs.KnownEnds.{ClosedIsAcknowledged, WaitsForNoEnd}
use Rattle.whole_paths.specs.Mild.{EndsGoByMappings, IsMildStart}
use Rattle.whole_paths.specs.News.{Gains, news}
use Rattle.whole_paths.specs.Reasons.{IsOutstanding}
use Rattle.whole_paths.specs.Straying.{IsOpen}
use Rattle.whole_paths.specs.Unstopped.{NothingIsStopped}
use Rattle.whole_paths.specs.Writers.{GoesOnWriting}
use Rattle.whole_paths.proofs.Courses.{harmed_append}
use Rattle.whole_paths.proofs.FinishedThere.{what_is_finished_is_there}
use Rattle.whole_paths.proofs.GoesOn.{goes_on_so}
use Rattle.whole_paths.proofs.KnownEnds.{what_is_closed_is_acknowledged}
use Rattle.whole_paths.proofs.Mild.{mapping_is_kept}
use Rattle.whole_paths.proofs.News.{each_gain_counts}
use Rattle.whole_paths.proofs.OnePath.{what_idle_ends_wrote_is_acknowledged}
use Rattle.whole_paths.proofs.Standing.{never_on_standby}
use Rattle.whole_paths.proofs.Unstopped.{mild_paths_are_never_stopped}
use Rattle.whole_paths.proofs.Writers.{writers_go_on}

-- ---- whether something is outstanding

-- nothing is but a window, and that only where so many bytes are acknowledged as there are
pub record NothingLeft (e : PathEnd) (acked written : ℕ) : Type 0 where
  pub records : e.tcp.send.records ≡ []
  pub granted : e.sending.granted ≡ []
  pub end : WaitsForNoEnd e
  pub window : (e.sending.shut ≡ false) ⊎ (written ≤ acked)

-- something is
pub record SomethingLeft (e : PathEnd) (acked written : ℕ) : Type 0 where
  pub outstanding : IsOutstanding e
  pub left : e.tcp.send.records ≡ [] → e.sending.granted ≡ [] → WaitsForNoEnd e → acked < written

pub left_or : (e : PathEnd) (acked written : ℕ) → e.modes.identity ≡ false → e.modes.own_infinite ≡ None → SomethingLeft e acked written ⊎ NothingLeft e acked written
left_or e acked written identity infinite = by_records e.tcp.send.records refl
  where
    by_window : e.tcp.send.records ≡ [] → e.sending.granted ≡ [] → WaitsForNoEnd e → (b : Bool) → e.sending.shut ≡ b → SomethingLeft e acked written ⊎ NothingLeft e acked written
    by_window records granted end false is = inr (record { records = records; granted = granted; end = end; window = inl is })
    by_window records granted end true is = ⊎_elim
        (λ less. inl (record { outstanding = IsOutstanding.shut is; left = λ empty none waits. less }))
        (λ all. inr (record { records = records; granted = granted; end = end; window = inr (omega (arith, all)) }))
        (cases_lt acked written)

    by_end : e.tcp.send.records ≡ [] → e.sending.granted ≡ [] → (f : Bool) → e.sending.fin_sent ≡ f → (a : Bool) → e.sending.close.own_acked ≡ a → SomethingLeft e acked written ⊎ NothingLeft e acked written
    by_end records granted true sent false unacked = inl (record { outstanding = IsOutstanding.data_fin identity infinite sent unacked; left = λ empty none waits. absurd (waits sent unacked) })
    by_end records granted false sent a is = by_window records granted (λ was open_end. both_ways e.sending.fin_sent sent was) e.sending.shut refl
    by_end records granted true sent true is = by_window records granted (λ was open_end. both_ways e.sending.close.own_acked open_end is) e.sending.shut refl

    by_granted : e.tcp.send.records ≡ [] → (xs : List GrantedPiece) → e.sending.granted ≡ xs → SomethingLeft e acked written ⊎ NothingLeft e acked written
    by_granted records (x ∷ xs) is = inl (record { outstanding = IsOutstanding.on_stream x xs is; left = λ empty none waits. (let wrong = sym none ∙ is in cc) })
    by_granted records [] is = by_end records is e.sending.fin_sent refl e.sending.close.own_acked refl

    by_records : (xs : List Record) → e.tcp.send.records ≡ xs → SomethingLeft e acked written ⊎ NothingLeft e acked written
    by_records (x ∷ xs) is = inl (record { outstanding = IsOutstanding.on_subflow x xs is; left = λ empty none waits. (let wrong = sym empty ∙ is in cc) })
    by_records [] is = by_granted is e.sending.granted refl

-- an open end that may send no FIN sent it
pub open_behind : (x : State) → 3 ≤ stage x → is_dead x ≡ false → may_finish x ≡ false → is_behind_fin x ≡ true
open_behind Waiting past living none = absurd (omega (arith, past))
open_behind Listen past living none = absurd (omega (arith, past))
open_behind SynSent past living none = absurd (omega (arith, past))
open_behind SynReceived past living none = absurd (omega (arith, past))
open_behind Established past living none = absurd (true≢false none)
open_behind CloseWait past living none = absurd (true≢false none)
open_behind Dead past living none = absurd (true≢false living)
open_behind FinWait1 past living none = refl
open_behind FinWait2 past living none = refl
open_behind Closing past living none = refl
open_behind LastAck past living none = refl
open_behind TimeWait past living none = refl

-- ---- whether all of a stream is there

pub there_or : (s : Side) (w : WorldState Carried) → IsAllThere s w ⊎ (IsAllThere s w → ⊥)
there_or s w = by (written_by s w).closed refl (arrived_at (peer s) w).known_end refl
  where
    n : ℕ
    n = length (written_by s w).written

    by_size : (written_by s w).closed ≡ true → (e : ℕ) → (arrived_at (peer s) w).known_end ≡ Some e → (e ≡ length (written_by s w).written) ⊎ (e ≡ length (written_by s w).written → ⊥)
        → (received (arrived_at (peer s) w) ≡ length (written_by s w).written) ⊎ (received (arrived_at (peer s) w) ≡ length (written_by s w).written → ⊥) → IsAllThere s w ⊎ (IsAllThere s w → ⊥)
    by_size closed e known (inl same) (inl all) = inl (record { closed = closed; received = all; known = known ∙ ap (λ n. Some n) same })
    by_size closed e known (inl same) (inr less) = inr (λ h. less h.received)
    by_size closed e known (inr other) _ = inr (λ h. other (same_Some e (length (written_by s w).written) (sym known ∙ h.known)))

    by : (c : Bool) → (written_by s w).closed ≡ c → (o : Option ℕ) → (arrived_at (peer s) w).known_end ≡ o → IsAllThere s w ⊎ (IsAllThere s w → ⊥)
    by false closed o known = inr (λ h. both_ways (written_by s w).closed closed h.closed)
    by true closed None known = inr (λ h. (let wrong = sym known ∙ h.known in cc))
    by true closed (Some e) known = by_size closed e known (cases_eq e (length (written_by s w).written)) (cases_eq (received (arrived_at (peer s) w)) (length (written_by s w).written))

-- ---- what is counted

pub prefix_up : (xs ys : List ℕ) → IsPrefix xs ys → length xs ≤ length ys
prefix_up xs ys h = let is : length ys ≡ length (xs ++ h.rest) = ap (λ (zs : List ℕ). length zs) h.whole_is in omega (arith, is, length-append xs h.rest)

module _ (start : Start) where
  abbrev at : List Turn → WorldState Carried
  at turns = reached values start turns

  runs : (turns more : List Turn) → at (turns ++ more) ≡ world_run values more (at turns)
  runs turns more = run_append values turns more (opened_world start)

  -- with what a side gains
  pub gains_count_at : (number : ℕ) (turns more : List Turn) (s : Side) → Gains s (books_in (at turns).books) (books_in (at (turns ++ more)).books)
      → counted_at values start number turns < counted_at values start number (turns ++ more)
  gains_count_at number turns more s gain =
      let rises = each_gain_counts values start turns more s (subst (λ (w : WorldState Carried). Gains s (books_in (at turns).books) (books_in w.books)) (runs turns more) gain) in
      let up : news start (at turns) < news start (at (turns ++ more)) = subst (λ (w : WorldState Carried). news start (at turns) < news start w) (sym (runs turns more)) rises in
      let harms = harmed_append values number turns more (opened_world start) in
      omega (arith, up, harms)

  pub gains_count : (turns more : List Turn) (s : Side) → Gains s (books_in (at turns).books) (books_in (at (turns ++ more)).books) → counted values start turns < counted values start (turns ++ more)
  gains_count turns more s gain = gains_count_at 0 turns more s gain

  pub sides_far : (turns more : List Turn) (s : Side) → IsSideAsFar s (books_in (at turns).books) (books_in (at (turns ++ more)).books)
  sides_far turns more s = subst (λ (w : WorldState Carried). IsSideAsFar s (books_in (at turns).books) (books_in w.books)) (sym (runs turns more)) ((goes_on_so values (at turns) more).sides s)

  -- with all of a stream that is there at last
  pub there_counts : (turns more : List Turn) (s : Side) → (IsAllThere s (at turns) → ⊥) → IsAllThere s (at (turns ++ more)) → counted values start turns < counted values start (turns ++ more)
  there_counts turns more s never later = by_closed (written_by s (at turns)).closed refl
    where
      own : IsSideAsFar s (books_in (at turns).books) (books_in (at (turns ++ more)).books)
      own = sides_far turns more s

      theirs : IsSideAsFar (peer s) (books_in (at turns).books) (books_in (at (turns ++ more)).books)
      theirs = sides_far turns more (peer s)

      written : length (written_by s (at turns)).written ≤ length (written_by s (at (turns ++ more))).written
      written = prefix_up (written_by s (at turns)).written (written_by s (at (turns ++ more))).written own.send.written

      by_known : (written_by s (at turns)).closed ≡ true → length (written_by s (at turns)).written ≡ length (written_by s (at (turns ++ more))).written
          → received (arrived_at (peer s) (at turns)) ≡ length (written_by s (at turns)).written → (o : Option ℕ) → (arrived_at (peer s) (at turns)).known_end ≡ o → counted values start turns < counted values start (turns ++ more)
      by_known closed same all None known = gains_count turns more (peer s) (Gains.learns (ap is_some known) (ap is_some later.known))
      by_known closed same all (Some e) known =
          absurd (never (record {
            closed = closed;
            received = all;
            known = known ∙ ap (λ n. Some n) (same_Some e (length (written_by s (at (turns ++ more))).written) (sym (theirs.arrival.end e known) ∙ later.known) ∙ sym same);
          }))

      by_received : (written_by s (at turns)).closed ≡ true → length (written_by s (at turns)).written ≡ length (written_by s (at (turns ++ more))).written → counted values start turns < counted values start (turns ++ more)
      by_received closed same = ⊎_elim
          (λ less. gains_count turns more (peer s) (Gains.receives (let all = later.received in omega (arith, less, all))))
          (λ most. by_known closed same (let up = theirs.arrival.received in let all = later.received in omega (arith, most, up, all, same)) (arrived_at (peer s) (at turns)).known_end refl)
          (cases_lt (received (arrived_at (peer s) (at turns))) (length (written_by s (at (turns ++ more))).written))

      by_closed : (c : Bool) → (written_by s (at turns)).closed ≡ c → counted values start turns < counted values start (turns ++ more)
      by_closed false closed = gains_count turns more s (Gains.closes closed later.closed)
      by_closed true closed = ⊎_elim
          (λ less. gains_count turns more s (Gains.writes less))
          (λ most. by_received closed (omega (arith, written, most)))
          (cases_lt (length (written_by s (at turns)).written) (length (written_by s (at (turns ++ more))).written))

  -- ---- as a round begins, and by a step

  begins_so : (turns : List Turn) → BeginsRound values start (at turns) → AllIsThere (at turns) ⊎ IsAboutToGoOn start (counted values start turns) 2 turns
  begins_so turns begin = by (there_or A (at turns)) (there_or B (at turns))
    where
      about : (s : Side) → (IsAllThere s (at turns) → ⊥) → IsAboutToGoOn start (counted values start turns) 2 turns
      about s none = this_round s turns [] refl (sym (append-nil turns)) refl begin none

      by : IsAllThere A (at turns) ⊎ (IsAllThere A (at turns) → ⊥) → IsAllThere B (at turns) ⊎ (IsAllThere B (at turns) → ⊥) → AllIsThere (at turns) ⊎ IsAboutToGoOn start (counted values start turns) 2 turns
      by (inl a) (inl b) = inl (record { of = elim [ A ↦ a | B ↦ b ] })
      by (inl a) (inr none) = inr (about B none)
      by (inr none) b = inr (about A none)

  step_more : (order : List ℕ) (actor : ℕ) → steps_of (order ++ actor ∷ []) ≡ steps_of order ++ Turn.Step actor ∷ []
  step_more [] actor = refl
  step_more (x ∷ order) actor = ap (λ xs. Turn.Step x ∷ xs) (step_more order actor)

  pub one_more : (since turns : List Turn) (order : List ℕ) (actor : ℕ) → turns ≡ since ++ steps_of order → turns ++ Turn.Step actor ∷ [] ≡ since ++ steps_of (order ++ actor ∷ [])
  one_more since turns order actor is = ap (λ xs. xs ++ Turn.Step actor ∷ []) is ∙ append_assoc since (steps_of order) (Turn.Step actor ∷ []) ∙ ap (λ xs. since ++ xs) (sym (step_more order actor))

  step_so : (n rounds : ℕ) (turns : List Turn) (actor : ℕ) → IsAboutToGoOn start n rounds turns → IsAboutToGoOn start n rounds (turns ++ Turn.Step actor ∷ [])
  step_so n rounds turns actor (this_round s since order left is count begin none) = this_round s since (order ++ actor ∷ []) left (one_more since turns order actor is) count begin none
  step_so n rounds turns actor (next_round s since more order left is count begin unclosed all) = next_round s since more (order ++ actor ∷ []) left (one_more (since ++ more) turns order actor is) count begin unclosed all

-- ---- the actor 2

-- there is one, and it is a path
pub path_at : (start : Start) (plan : PathPlan) → start.paths ≡ plan ∷ [] → (turns : List Turn) → (c : ActorCrew Carried) × (slice_get (reached values start turns).crew 2 ≡ Some c) × (p : PathState Carried) × (c.member ≡ Path p)
path_at start plan one turns =
    let first = opened_there start plan one in
    let later = (goes_on_so values (opened_world start) turns).crew 2 first.0 first.1 in
    let path = is_path first.0.member later.0.member first.2 first.3 later.2.member in
    (later.0, later.1, path.0, path.1)
  where
    opened_there : (start : Start) (plan : PathPlan) → start.paths ≡ plan ∷ [] → (c : ActorCrew Carried) × (slice_get (opened_world {C = Carried} start).crew 2 ≡ Some c) × (p : PathState Carried) × (c.member ≡ Path p)
    opened_there start plan one = (new_path start 0 plan, ap (λ (plans : List PathPlan). slice_get (paths_from {C = Carried} start 0 plans) 0) one, first_turn (path_begins start 0 plan) start.lines, refl)

    is_path : (m n : Actor Carried) (p : PathState Carried) → m ≡ Path p → IsActorAsFar m n → (q : PathState Carried) × (n ≡ Path q)
    is_path m (Path q) p is far = (q, refl)
    is_path m (App a) p is far = absurd (subst (λ x. IsActorAsFar x (App a)) is far)

-- ---- as a round ends

pub same_books : (w : WorldState Carried) → (end_round w).books ≡ w.books
same_books w = elim (all_over w.crew) as (λ b. (if b then record w { crew = map (begins (greatest 0 w.crew)) w.crew } else w).books ≡ w.books) [ true ↦ refl | false ↦ refl ]

nil_so : (ds : List Duty) → is_nil ds ≡ true → ds ≡ []
nil_so [] is = refl
nil_so (d ∷ ds) is = absurd (true≢false (sym is))

pub plain_none : (e : PathEnd) → e.modes.identity ≡ false → e.modes.own_infinite ≡ None → sends_plainly e.modes ≡ false
plain_none e identity infinite = rw (identity, infinite) refl

module _ (start : Start) (plan : PathPlan) (one : start.paths ≡ plan ∷ []) (mild : IsMildStart start) (some : 1 ≤ start.buffer) where
  abbrev after : List Turn → WorldState Carried
  after turns = reached values start turns

  stopped_at : (turns : List Turn) → NothingIsStopped (after turns)
  stopped_at turns = mild_paths_are_never_stopped start plan turns one mild

  module _ (since : List Turn) (order : List ℕ) (begin : BeginsRound values start (after since)) (over : all_over (after (since ++ steps_of order)).crew ≡ true) where
    abbrev turns : List Turn
    turns = since ++ steps_of order

    ended : after turns ≡ after_steps values order (after since)
    ended = run_append values since (steps_of order) (opened_world start)

    -- what became of a stream: it is all there, or it wasn't closed as the round began, and what was written then is acknowledged
    abbrev Became : Side → Type 0
    Became s = IsAllThere s (after turns) ⊎ (((written_by s (after since)).closed ≡ false) × (length (written_by s (after since)).written ≤ acked_len (written_by s (after turns)).marks))

    module _ (c : ActorCrew Carried) (there : slice_get (after turns).crew 2 ≡ Some c) (p : PathState Carried) (is : c.member ≡ Path p) (s : Side) (opened : IsEndOpen s p) where
      then_there : slice_get (after_steps values order (after since)).crew 2 ≡ Some c
      then_there = ap (λ (w : WorldState Carried). slice_get w.crew 2) (sym ended) ∙ there

      agenda : p.agenda ≡ []
      agenda = nil_so p.agenda (subst (λ m. is_over m ≡ true) is (all_over_each (after turns).crew 2 c over there))

      finished : (s : Side) → HasFinished (end_at s p) → IsAllThere s (after turns)
      finished s done = subst (HoldsOfKind (λ app. Unit {0}) (FinishedIsThere (after turns))) is (what_is_finished_is_there start plan turns one mild 2 c there) s done

      kept : EndsGoByMappings p
      kept = subst (HoldsOfKind (λ app. Unit {0}) EndsGoByMappings) is ((mapping_is_kept start turns mild).each 2 c there)

      maps : (s : Side) → sends_plainly (end_at s p).modes ≡ false
      maps s = plain_none (end_at s p) (kept s).identity (kept s).own

      abbrev Nothing : Side → Type 0
      Nothing s = NothingLeft (end_at s p) (acked_len (written_by s (after turns)).marks) (length (written_by s (after turns)).written)

      closed_became : may_finish (end_at s p).tcp.state ≡ true → (written_by s (after since)).closed ≡ true → Nothing s → Became s
      closed_became may closed left =
          let ends = subst (HoldsOfKind (λ app. Unit {0}) (ClosedIsAcknowledged (after since) (after_steps values order (after since)))) is
          (what_is_closed_is_acknowledged start (after since) order mild.plain.size mild.fit begin 2 c then_there) in
          ⊎_elim
          (λ acked. inl (finished s (HasFinished.acknowledged acked)))
          (λ stop. absurd (both_ways _ (subst (λ (w : WorldState Carried). (written_by s w).aborted ≡ false) ended ((stopped_at turns).send s)) stop))
          (ends agenda s closed may opened.clear (maps s) left.records left.end)

      written_became : may_finish (end_at s p).tcp.state ≡ true → (written_by s (after since)).closed ≡ false → Nothing s → Became s
      written_became may unclosed left = ⊎_elim
          (λ unshut. by (whole agenda s may opened.clear (record { records = left.records; pieces = left.granted; open_window = unshut })))
          (λ all. inr (unclosed, omega (arith, all, more_written)))
          left.window
        where
          more_written : length (written_by s (after since)).written ≤ length (written_by s (after turns)).written
          more_written = prefix_up (written_by s (after since)).written (written_by s (after turns)).written (sides_far start since (steps_of order) s).send.written

          whole : IdleIsAcknowledged (after since) (after_steps values order (after since)) p
          whole = subst (HoldsOfKind (λ app. Unit {0}) (IdleIsAcknowledged (after since) (after_steps values order (after since)))) is
              (what_idle_ends_wrote_is_acknowledged start plan (after since) order one mild.plain.size mild.fit begin c then_there)

          by : IsAllAcknowledged s (steps_since 2 (after since) (after_steps values order (after since))) (length (written_by s (after since)).written) (written_by s (after_steps values order (after since))) → Became s
          by (IsAllAcknowledged.acknowledged low) = inr (unclosed, subst (λ (w : WorldState Carried). length (written_by s (after since)).written ≤ acked_len (written_by s w).marks) (sym ended) low)
          by (IsAllAcknowledged.standby stands) =
              absurd (both_ways _ (subst (λ (w : WorldState Carried). last_on_standby s false (steps_since 2 (after since) w) ≡ false) ended (never_on_standby values start plan turns one 2 s (after since))) stands)
          by (IsAllAcknowledged.stopped stop) = absurd (both_ways _ (subst (λ (w : WorldState Carried). (written_by s w).aborted ≡ false) ended ((stopped_at turns).send s)) stop)

      became : may_finish (end_at s p).tcp.state ≡ true → Nothing s → Became s
      became may left = by (written_by s (after since)).closed refl
        where
          by : (b : Bool) → (written_by s (after since)).closed ≡ b → Became s
          by true closed = closed_became may closed left
          by false unclosed = written_became may unclosed left

      behind_became : may_finish (end_at s p).tcp.state ≡ false → Became s
      behind_became behind = inl (finished s (HasFinished.sent_fin (open_behind (end_at s p).tcp.state opened.past opened.living behind) opened.living))

    -- the first of the two rounds
    abbrev FirstGoes : Side → ℕ → Type 0
    FirstGoes s n = (n < counted values start turns) ⊎ (((x : IsWaiting (after turns)) × (x.side ≡ s)) ⊎ ((g : IsAboutToGoOn start n 1 (turns ++ Turn.Round ∷ [])) × (going_side g ≡ s)))

    first_so : (s : Side) (n : ℕ) → counted values start since ≡ n → (IsAllThere s (after since) → ⊥) → IsEndOpenHere s (after turns) → (o : Option (ActorCrew Carried)) → slice_get (after turns).crew 2 ≡ o
        → FirstGoes s n
    first_so s n count never opened None none = let path = path_at start plan one turns in let wrong = sym path.1 ∙ none in cc
    first_so s n count never opened (Some c) there = by c.member refl
      where
        next : Became s → FirstGoes s n
        next (inl all) = inl (subst (λ m. m < counted values start turns) count (there_counts start since (steps_of order) s never all))
        next (inr rest) =
            let more : List Turn = steps_of order ++ Turn.Round ∷ [] in
            let same : turns ++ Turn.Round ∷ [] ≡ since ++ more = append_assoc since (steps_of order) (Turn.Round ∷ []) in
            let round : after (since ++ more) ≡ end_round (after turns) = ap after (sym same) ∙ run_append values turns (Turn.Round ∷ []) (opened_world start) in
            inr (inr (
              next_round s since more [] refl (same ∙ sym (append-nil (since ++ more))) count (BeginsRound.Next turns over round) rest.0
                  (subst (λ (books : StampedBooks). length (written_by s (after since)).written ≤ acked_len (send_of s (books_in books)).marks) (sym (ap (λ (w : WorldState Carried). w.books) round ∙ same_books (after turns))) rest.1),
              refl,
            ))

        by : (m : Actor Carried) → c.member ≡ m → FirstGoes s n
        by (App a) is =
            let path = path_at start plan one turns in
            let wrong : App a ≡ Path path.2 = sym is ∙ ap (λ (x : ActorCrew Carried). x.member) (same_Some c path.0 (sym there ∙ path.1)) ∙ path.3 in cc
        by (Path p) is = by_state (may_finish (end_at s p).tcp.state) refl
          where
            is_open : IsEndOpen s p
            is_open = subst (HoldsOfKind (λ app. Unit {0}) (IsEndOpen s)) is (opened c there)

            by_state : (b : Bool) → may_finish (end_at s p).tcp.state ≡ b → FirstGoes s n
            by_state false behind = next (behind_became c there p is s is_open behind)
            by_state true may = ⊎_elim
                (λ some. inr (inl (record { path = p; crew = c; there = there; is = is; side = s; may = may; outstanding = some.outstanding; left = some.left }, refl)))
                (λ left. next (became c there p is s is_open may left))
                (left_or (end_at s p) (acked_len (written_by s (after turns)).marks) (length (written_by s (after turns)).written) (kept c there p is s is_open s).identity (kept c there p is s is_open s).own)

  -- where each turn is over nobody goes on
  not_going : (actor : ℕ) (w : WorldState Carried) → all_over w.crew ≡ true → is_going actor w ≡ false
  not_going actor w over = by (slice_get w.crew actor) refl
    where
      by : (o : Option (ActorCrew Carried)) → slice_get w.crew actor ≡ o → goes o ≡ false
      by None there = refl
      by (Some c) there = rw (all_over_each w.crew actor c over there) refl

  -- the second one
  second_so : (s : Side) (since more : List Turn) (order : List ℕ) → BeginsRound values start (after (since ++ more)) → all_over (after ((since ++ more) ++ steps_of order)).crew ≡ true → (written_by s (after since)).closed ≡ false
      → length (written_by s (after since)).written ≤ acked_len (written_by s (after (since ++ more))).marks → counted values start since < counted values start ((since ++ more) ++ steps_of order)
  second_so s since more order begin over unclosed low =
      by (subst (GoOnAt) (sym ended) (writers_go_on start (after (since ++ more)) order mild.fit begin s (not_going (pick s 0 1) (after_steps values order (after (since ++ more))) (subst (λ (w : WorldState Carried). all_over w.crew ≡ true) ended over))))
    where
      whole : List Turn
      whole = more ++ steps_of order

      ended : after ((since ++ more) ++ steps_of order) ≡ after_steps values order (after (since ++ more))
      ended = run_append values (since ++ more) (steps_of order) (opened_world start)

      same : (since ++ more) ++ steps_of order ≡ since ++ whole
      same = append_assoc since more (steps_of order)

      GoOnAt : WorldState Carried → Type 0
      GoOnAt w = GoesOnWriting (pick s start.file_a start.file_b) start.buffer (acked_len (written_by s (after (since ++ more))).marks) (written_by s w)

      counts : Gains s (books_in (after since).books) (books_in (after ((since ++ more) ++ steps_of order)).books) → counted values start since < counted values start ((since ++ more) ++ steps_of order)
      counts gain = subst (λ ts. counted values start since < counted values start ts) (sym same) (gains_count start since whole s (subst (λ ts. Gains s (books_in (after since).books) (books_in (after ts).books)) same gain))

      by : GoesOnWriting (pick s start.file_a start.file_b) start.buffer (acked_len (written_by s (after (since ++ more))).marks) (written_by s (after ((since ++ more) ++ steps_of order)))
          → counted values start since < counted values start ((since ++ more) ++ steps_of order)
      by (GoesOnWriting.whole file closed) = counts (Gains.closes unclosed closed)
      by (GoesOnWriting.more written) = counts (Gains.writes (omega (arith, low, some, written)))
      by (GoesOnWriting.stopped stop) = absurd (both_ways _ ((stopped_at ((since ++ more) ++ steps_of order)).send s) stop)

  -- as a round ends, from this side
  abbrev Goes : Side → ℕ → ℕ → List Turn → Type 0
  Goes s n rounds ts = (n < counted values start ts) ⊎ (((x : IsWaiting (after ts)) × (x.side ≡ s)) ⊎ ((g : IsAboutToGoOn start n rounds (ts ++ Turn.Round ∷ [])) × (going_side g ≡ s)))

  round_so : (n rounds : ℕ) (turns : List Turn) → all_over (after turns).crew ≡ true → (h : IsAboutToGoOn start n (suc rounds) turns) → IsEndOpenHere (going_side h) (after turns) → Goes (going_side h) n rounds turns
  round_so n rounds ts over (this_round s since order left is count begin none) opened =
      subst (λ m. Goes s n m ts) (sym (ap pred left))
      (subst (λ ts. Goes s n 1 ts) (sym is)
      (first_so since order begin (subst (λ ts. all_over (after ts).crew ≡ true) is over) s n count none (subst (λ ts. IsEndOpenHere s (after ts)) is opened) (slice_get (after (since ++ steps_of order)).crew 2) refl))
    where
      pred : ℕ → ℕ
      pred zero = 0
      pred (suc m) = m
  round_so n rounds ts over (next_round s since more order left is count begin unclosed all) opened =
      inl (subst (λ ts. n < counted values start ts) (sym is)
      (subst (λ m. m < counted values start ((since ++ more) ++ steps_of order)) count
      (second_so s since more order begin (subst (λ ts. all_over (after ts).crew ≡ true) is over) unclosed all)))

pub rounds_begin_to_go_on : RoundsBeginToGoOn
rounds_begin_to_go_on start turns begin = begins_so start turns begin

pub steps_let_it_go_on : StepsLetItGoOn
steps_let_it_go_on start n rounds turns actor h = step_so start n rounds turns actor h

-- the side stays
pub step_side : (start : Start) (n rounds : ℕ) (turns : List Turn) (actor : ℕ) (h : IsAboutToGoOn start n rounds turns) → going_side (steps_let_it_go_on start n rounds turns actor h) ≡ going_side h
unfolding steps_let_it_go_on step_so
step_side start n rounds turns actor (this_round s since order two is count begin none) = refl
step_side start n rounds turns actor (next_round s since more order one is count begin unclosed all) = refl

pub ends_go_on : EndsGoOn
ends_go_on start plan n rounds turns one mild some over h opened = round_so start plan one mild some n rounds turns over h opened

-- where path 0 is open, its ends are
end_open : (s : Side) (m : Actor Carried) → HoldsOfKind (λ app. Unit {0}) IsOpen m → HoldsOfKind (λ app. Unit {0}) (IsEndOpen s) m
end_open s (App a) h = tt
end_open s (Path p) h = record { past = h.past s; living = h.living s; clear = h.clear s }

pub rounds_go_on : RoundsGoOn
rounds_go_on start plan n rounds turns one mild some over opened h = ⊎_elim
    (λ rises. inl rises)
    (λ rest. inr (⊎_elim (λ waits. inl waits.0) (λ on. inr on.0) rest))
    (ends_go_on start plan n rounds turns one mild some over h (λ c there. end_open (going_side h) c.member (opened c there)))
