-- A window that was shut leaves a byte that path 0 may take, until it is granted; and only a grant that is asked for tells an end otherwise.
use Rattle.std.proofs.Common.{◌≡◌, refl, sym, subst, ap, ◌∙◌, ◌⊎◌, inl, inr, ⊎_elim, ◌+◌, ◌-◌, ◌<◌, ◌≤◌, ℕ, ◌==◌, ◌&&◌, ◌||◌, arith, Bool, true, false, true≢false, if◌then◌else◌, Option, Some, None, Result, Ok, Err, List, [], ◌∷◌, ◌++◌, length}
use Rattle.std.specs.List.{slice_get}
use Rattle.std.proofs.lemmas.Bool.{both_ways}
use Rattle.std.proofs.lemmas.Option.{same_Some}
use Rattle.sides.specs.declared.side.Side.{Side}
use Rattle.sides.specs.declared.side.Side.TheVariants.{A, B}
use Rattle.send_book.specs.declared.call.Span.{Span}
use Rattle.send_book.specs.declared.call.Why.{Why}
use Rattle.send_book.specs.declared.call.Why.TheVariants.{Backup, Ended, NothingFree, WindowShut}
use Rattle.send_book.specs.State.{Sending, acked_len}
use Rattle.send_book.specs.Steps.{decision, first_free, part_of, reply_by, span_at}
use Rattle.send_book.proofs.Decisions.{MayTake, decision-MayTake, first_free-within}
use Rattle.subflow_send.specs.Records.{Record, SendState}
use Rattle.actor_desk.specs.Books.{books_in}
use Rattle.actor_desk.specs.Desk.{SixBooks, reply_of, send_of}
use Rattle.actor_desk.specs.declared.ask.Ask.{Ask}
use Rattle.actor_desk.specs.declared.ask.Note.{Note}
use Rattle.actor_desk.specs.declared.ask.Reply.{Reply}
use Rattle.actor_desk.specs.declared.ask.Reply.TheVariants as replies
use Rattle.path_agenda.specs.declared.duty.Duty.{Duty}
use Rattle.path_agenda.specs.declared.duty.Duty.TheVariants as duties
use Rattle.path_agenda.specs.declared.duty.SendDuty.TheVariants as send_duties
use Rattle.path_agenda.specs.declared.duty.StepDuty.TheVariants as step_duties
use Rattle.path_core.specs.DataFin.{is_shut}
use Rattle.path_core.specs.Duties.{answered, ask_for}
use Rattle.path_core.specs.Emission.{answered_data, answered_grant, data_ask, first_unsent, grant_ask, grant_in, payload_size}
use Rattle.path_core.specs.Events.{next_event}
use Rattle.path_core.specs.Start.{waiting_path}
use Rattle.path_core.specs.State.{PathState, end_at, path_of, with_agenda}
use Rattle.path_core.specs.Steps.{asks_first, asks_of, next_round, takes}
use Rattle.path_core.specs.Values.{Carried, values}
use Rattle.world_laws.specs.declared.member.Member.TheVariants.{Path}
use Rattle.world_laws.specs.Actors.{ActorCrew}
use Rattle.world_laws.specs.Openings.{PathPlan, Start, opened_world, path_begins}
use Rattle.world_laws.specs.Promises.{written_by}
use Rattle.world_laws.specs.RoundDone.{reached}
use Rattle.world_laws.specs.RoundNumbers.{taken_len}
use Rattle.world_laws.specs.Worlds.{Turn, WorldState, after_turn}
use Rattle.world_laws.proofs.Rounds.Lifting.{opened_lifted}
use Rattle.world_laws.proofs.Weaving.WholeRounds.{run_append}
use Rattle.world_laws.proofs.Writes.Steps.{begins_lasts, settled_lasts}
use Rattle.whole_paths.specs.Between.{EachPathBetween}
use Rattle.whole_paths.specs.Finish.{IsPathAt}
use Rattle.whole_paths.specs.Halted.{ShutUntilGranted}
use Rattle.whole_paths.specs.Mild.{IsMildStart}
use Rattle.whole_paths.specs.PositionCounts.{CountsBytes, TookWhatItSent}
use Rattle.whole_paths.proofs.ByTurns.{Of, OfBooked, each_booked}
use Rattle.whole_paths.proofs.Finishing.{MemberFinishes, turn_finishes}
use Rattle.whole_paths.proofs.FullGrants.{SameSend, first_is, other_next, same_last}
use Rattle.whole_paths.proofs.GoesOn.{goes_on_so}
use Rattle.whole_paths.proofs.GoingOn.{prefix_up}
use Rattle.whole_paths.proofs.Halting.{Known, known_at, piece_len}
use Rattle.whole_paths.proofs.KnownWindows.{SameShut, peer_granted, shut_last, shut_same, unsent_same}
use Rattle.whole_paths.proofs.OnlyBooks.{Refusal, refusal}
use Rattle.whole_paths.proofs.OnlyBooks.Refusal.{by_window, by_standby, by_stop, by_spent}
use Rattle.whole_paths.proofs.PathTurns.{at_turn}
use Rattle.whole_paths.proofs.PositionCounts.{paths_took_what_they_sent, positions_count_bytes, spent_taken}
use Rattle.whole_paths.proofs.Pushing.{AllStay, answered_next, event_next, unsent_next}
use Rattle.whole_paths.proofs.Turns.{paths_between}

-- ---- a book

-- where a grant is refused as the window is shut a byte is left
shut_leaves : (most : ℕ) (stands : Bool) (b : Sending) → decision 0 most stands b ≡ Err WindowShut → taken_len 0 b.marks < length b.marks
shut_leaves most stands b e = by_end (b.aborted || (b.closed && (acked_len b.marks == length b.written))) e
  where
    by_free : (o : Option ℕ) → first_free 0 b ≡ o → span_at 0 most b o ≡ Err WindowShut → taken_len 0 b.marks < length b.marks
    by_free None is at = cc
    by_free (Some from) is at =
        let within = first_free-within 0 b from is in
        let first = first_is most stands b (record { from = from; to = from }) from is in omega (arith, within, first)

    by_standby : (c : Bool) → (if c then Err Backup else span_at 0 most b (first_free 0 b)) ≡ Err WindowShut → taken_len 0 b.marks < length b.marks
    by_standby true at = cc
    by_standby false at = by_free (first_free 0 b) refl at

    by_end : (c : Bool) → (if c then Err Ended else (if stands then Err Backup else span_at 0 most b (first_free 0 b))) ≡ Err WindowShut → taken_len 0 b.marks < length b.marks
    by_end true at = cc
    by_end false at = by_standby stands at

-- ---- what a turn makes of it

-- what is decided of a grant that the end asks for
abbrev asked : Side → SixBooks → PathState Carried → Result Span Why
asked s six p = decision (path_of p) (payload_size p.profile) (end_at s p).modes.standby (send_of s six)

data ShutOn (s : Side) (six : SixBooks) (p q : PathState Carried) : Type 0 where
  keeps : (end_at s q).sending.shut ≡ (end_at s p).sending.shut → (end_at s q).tcp.send.nxt ≡ (end_at s p).tcp.send.nxt → ShutOn s six p q
  ends : (end_at s q).tcp.send.finished ≡ true → ShutOn s six p q
  refuses : (why : Why) → asked s six p ≡ Err why → (end_at s q).sending.shut ≡ is_shut why → (end_at s q).tcp.send.nxt ≡ (end_at s p).tcp.send.nxt → ShutOn s six p q
  gives : (span : Span) → asked s six p ≡ Ok span → (end_at s q).sending.shut ≡ false
      → (end_at s q).tcp.send.nxt ≡ (end_at s p).tcp.send.nxt + length (part_of span (send_of s six).written) → ShutOn s six p q

then_on : (s : Side) (six : SixBooks) (p y q : PathState Carried) → SameSend y q → SameShut y q → ShutOn s six p y → ShutOn s six p q
then_on s six p y q same still (keeps shut next) = keeps (still s ∙ shut) (ap (λ (v : SendState). v.nxt) (same s) ∙ next)
then_on s six p y q same still (ends is) = ends (ap (λ (v : SendState). v.finished) (same s) ∙ is)
then_on s six p y q same still (refuses why decided shut next) = refuses why decided (still s ∙ shut) (ap (λ (v : SendState). v.nxt) (same s) ∙ next)
then_on s six p y q same still (gives span decided shut next) = gives span decided (still s ∙ shut) (ap (λ (v : SendState). v.nxt) (same s) ∙ next)

module _ (six : SixBooks) (p : PathState Carried) where
  all_keep : (s : Side) (q : PathState Carried) → (end_at s q).sending.shut ≡ (end_at s p).sending.shut → AllStay p q → ShutOn s six p q
  all_keep A q shut h = keeps shut h.a
  all_keep B q shut h = keeps shut h.b

  granted_row : (s : Side) → ShutOn s six p (answered_data values s None (reply_of six (grant_ask s p)) p)
  granted_row A = by (asked A six p) refl
    where
      by : (o : Result Span Why) → asked A six p ≡ o → let r = replies.Send (reply_by o six.send_a) in ShutOn A six p (answered_grant A (grant_in r) r p)
      by (Err why) is = refuses why is refl refl
      by (Ok span) is = gives span is refl refl
  granted_row B = by (asked B six p) refl
    where
      by : (o : Result Span Why) → asked B six p ≡ o → let r = replies.Send (reply_by o six.send_b) in ShutOn B six p (answered_grant B (grant_in r) r p)
      by (Err why) is = refuses why is refl refl
      by (Ok span) is = gives span is refl refl

  own_row : (s : Side) (o : Option Record) → ShutOn s six p (answered_data values s o (reply_of six (data_ask values s o p)) p)
  own_row s (Some u) = let r : Reply = reply_of six (data_ask values s (Some u) p) in all_keep s (answered_data values s (Some u) r p) (unsent_same s u r p) (unsent_next values s u r p)
  own_row s None = granted_row s

  data_row : (s t : Side) → ShutOn s six p (answered values (duties.Step (step_duties.Data t)) (reply_of six (ask_for values (duties.Step (step_duties.Data t)) p)) p)
  data_row A A = own_row A (first_unsent p.a)
  data_row B B = own_row B (first_unsent p.b)
  data_row A B = let r : Reply = reply_of six (data_ask values B (first_unsent p.b) p) in keeps (peer_granted A (first_unsent p.b) r p) (other_next six p A (first_unsent p.b) r)
  data_row B A = let r : Reply = reply_of six (data_ask values A (first_unsent p.a) p) in keeps (peer_granted B (first_unsent p.a) r p) (other_next six p B (first_unsent p.a) r)

  fin_row : (s t : Side) (r : Reply) → ShutOn s six p (answered values (duties.Send (send_duties.Fin t)) r p)
  fin_row A A r = ends refl
  fin_row B B r = ends refl
  fin_row A B r = keeps refl refl
  fin_row B A r = keeps refl refl

  duty_row : (s : Side) (d : Duty) → ShutOn s six p (answered values d (reply_of six (ask_for values d p)) p)
  duty_row s (duties.Step (step_duties.Data t)) = data_row s t
  duty_row s (duties.Step step_duties.Events) = let r : Reply = reply_of six (ask_for values (duties.Step step_duties.Events) p) in
      all_keep s (answered values (duties.Step step_duties.Events) r p) (shut_same (duties.Step step_duties.Events) r p refl s) (event_next values (next_event p) r p)
  duty_row s (duties.Send (send_duties.Fin t)) = fin_row s t (reply_of six (ask_for values (duties.Send (send_duties.Fin t)) p))
  duty_row s d = let r : Reply = reply_of six (ask_for values d p) in all_keep s (answered values d r p) (shut_same d r p refl s) (answered_next values d r p refl refl)

takes_row : (six : SixBooks) (ask : Ask) (p : PathState Carried) → asks_of values p ≡ Some ask → (s : Side) → ShutOn s six p (takes values (reply_of six ask) p)
takes_row six ask p asks s = by p.agenda asks
  where
    by : (ds : List Duty) → asks_first values ds (with_agenda ds p) ≡ Some ask → ShutOn s six (with_agenda ds p) (takes values (reply_of six ask) (with_agenda ds p))
    by [] asked = cc
    by (d ∷ ds) asked =
        let x : PathState Carried = with_agenda (d ∷ ds) p in
        let y : PathState Carried = answered values d (reply_of six ask) x in
        then_on s six x y (takes values (reply_of six ask) x) (settled_lasts SameSend same_last y.agenda y) (settled_lasts SameShut shut_last y.agenda y)
        (subst (λ z. ShutOn s six x (answered values d (reply_of six z) x)) (same_Some (ask_for values d x) ask asked) (duty_row six x s d))

next_row : (six : SixBooks) (p : PathState Carried) (s : Side) → ShutOn s six p (next_round p)
next_row six p s = let q : PathState Carried = record p { clock = p.until; until = p.until + 100 } in
    keeps (begins_lasts SameShut shut_last q s) (ap (λ (v : SendState). v.nxt) (begins_lasts SameSend same_last q s))

abbrev EachShut : SixBooks → SixBooks → List Note → PathState Carried → PathState Carried → Type 0
EachShut six after steps p q = (s : Side) → ShutOn s six p q

paths_on : EachPathBetween values EachShut
paths_on = paths_between values EachShut (λ six ask steps p s. keeps refl refl) (λ six ask steps p asks tells. takes_row six ask p asks) (λ six steps p over. next_row six p)

-- ---- the world

module _ (start : Start) (plan : PathPlan) (one : start.paths ≡ plan ∷ []) (mild : IsMildStart start) where
  module _ (turns : List Turn) (p : PathState Carried) (here : IsPathAt 0 (reached values start turns) p) (s : Side) where
    abbrev w : WorldState Carried
    w = reached values start turns

    counts : CountsBytes w p s
    counts = subst (Of (λ (z : PathState Carried). (t : Side) → CountsBytes w z t)) here.is ((positions_count_bytes start turns plan one mild).each 2 here.crew here.there) s

    took : TookWhatItSent w p s
    took = subst (Of (λ (z : PathState Carried). (t : Side) → TookWhatItSent w z t)) here.is ((paths_took_what_they_sent start turns plan one mild).each 2 here.crew here.there) s

    known : Known (books_in w.books) s p
    known = known_at start plan turns one mild here.crew p here.there here.is s

    by_zero : asked s (books_in w.books) p ≡ decision 0 (payload_size p.profile) (end_at s p).modes.standby (written_by s w)
    by_zero = ap (λ n. decision n (payload_size p.profile) (end_at s p).modes.standby (written_by s w)) known.number

  -- ---- a turn

  module _ (turns : List Turn) (turn : Turn) (p q : PathState Carried) (here : IsPathAt 0 (reached values start turns) p) (there : IsPathAt 0 (reached values start (turns ++ turn ∷ [])) q) (s : Side) where
    abbrev old : WorldState Carried
    old = reached values start turns

    abbrev new : WorldState Carried
    new = reached values start (turns ++ turn ∷ [])

    same : new ≡ after_turn values turn old
    same = run_append values turns (turn ∷ []) (opened_world start)

    written_up : length (written_by s old).written ≤ length (written_by s new).written
    written_up = subst (λ (u : WorldState Carried). length (written_by s old).written ≤ length (written_by s u).written) (sym same)
        (prefix_up (written_by s old).written (written_by s (after_turn values turn old)).written ((goes_on_so values old (turn ∷ [])).sides s).send.written)

    finish : (end_at s p).tcp.send.finished ≡ true → (end_at s q).tcp.send.finished ≡ true
    finish =
        let found = turn_finishes values old turn 2 here.crew here.there in
        let crew : found.0 ≡ there.crew = same_Some found.0 there.crew (sym found.1 ∙ subst (λ (u : WorldState Carried). slice_get u.crew 2 ≡ Some there.crew) same there.there) in
        let on : MemberFinishes (Path p) (Path q) = subst (λ m. MemberFinishes m (Path q)) here.is (subst (λ m. MemberFinishes here.crew.member m) (ap (λ (c : ActorCrew Carried). c.member) crew ∙ there.is) found.2) in (on s).kept

    by_way : (why : Why) → asked s (books_in old.books) p ≡ Err why → is_shut why ≡ true → (end_at s p).tcp.send.finished ≡ false → (end_at s p).tcp.send.nxt ≤ length (written_by s old).written
    by_way WindowShut decided is none =
        let left = shut_leaves (payload_size p.profile) (end_at s p).modes.standby (written_by s old) (sym (by_zero turns p here s) ∙ decided) in
        let all = (took turns p here s).all none in let marked = (counts turns p here s).marked in omega (arith, left, all, marked)
    by_way Ended decided is none = absurd (true≢false (sym is))
    by_way Backup decided is none = absurd (true≢false (sym is))
    by_way NothingFree decided is none = absurd (true≢false (sym is))

  -- a byte is left, as long as no FIN was sent
  abbrev LeavesBytes : SixBooks → PathState Carried → Type 0
  LeavesBytes six p = (s : Side) → (end_at s p).sending.shut ≡ true → ((end_at s p).tcp.send.finished ≡ true) ⊎ ((end_at s p).tcp.send.nxt ≤ length (send_of s six).written)

  step_on : (turns : List Turn) (turn : Turn) (steps : List Note) (p q : PathState Carried) → IsPathAt 0 (reached values start turns) p → IsPathAt 0 (reached values start (turns ++ turn ∷ [])) q
      → EachShut (books_in (reached values start turns).books) (books_in (reached values start (turns ++ turn ∷ [])).books) steps p q → LeavesBytes (books_in (reached values start turns).books) p
      → LeavesBytes (books_in (reached values start (turns ++ turn ∷ [])).books) q
  step_on turns turn steps p q here there on h s shut_now = by (on s)
    where
      later : (end_at s q).tcp.send.nxt ≡ (end_at s p).tcp.send.nxt → ((end_at s p).tcp.send.finished ≡ true) ⊎ ((end_at s p).tcp.send.nxt ≤ length (written_by s (reached values start turns)).written) → ((end_at s q).tcp.send.finished ≡ true) ⊎ ((end_at s q).tcp.send.nxt ≤ length (written_by s (reached values start (turns ++ turn ∷ []))).written)
      later next was = ⊎_elim (λ done. inl (finish turns turn p q here there s done)) (λ low. inr (let up = written_up turns turn p q here there s in omega (arith, next, low, up))) was

      unsent : (b : Bool) → (end_at s p).tcp.send.finished ≡ b → (why : Why) → asked s (books_in (reached values start turns).books) p ≡ Err why → is_shut why ≡ true
          → ((end_at s p).tcp.send.finished ≡ true) ⊎ ((end_at s p).tcp.send.nxt ≤ length (written_by s (reached values start turns)).written)
      unsent true is why decided shut = inl is
      unsent false is why decided shut = inr (by_way turns turn p q here there s why decided shut is)

      by : ShutOn s (books_in (reached values start turns).books) p q → ((end_at s q).tcp.send.finished ≡ true) ⊎ ((end_at s q).tcp.send.nxt ≤ length (written_by s (reached values start (turns ++ turn ∷ []))).written)
      by (keeps shut next) = later next (h s (sym shut ∙ shut_now))
      by (ends is) = inl is
      by (refuses why decided shut next) = later next (unsent (end_at s p).tcp.send.finished refl why decided (sym shut ∙ shut_now))
      by (gives span decided shut next) = absurd (true≢false (sym shut_now ∙ shut))

  opened_first : OfBooked values start EachShut paths_on LeavesBytes (opened_world start)
  opened_first = record {
    each = λ c there. (opened_lifted (λ c. Of (LeavesBytes (books_in (opened_world {C = Carried} start).books)) c.member) start tt tt (λ number plan at_place s shut.
        absurd (true≢false (sym shut ∙ begins_lasts SameShut shut_last (waiting_path (path_begins start number plan) start.lines) s ∙ first_open s number plan)))).each 2 c there;
  }
    where
      first_open : (u : Side) (number : ℕ) (plan : PathPlan) → (end_at u (waiting_path {C = Carried} (path_begins start number plan) start.lines)).sending.shut ≡ false
      first_open A number plan = refl
      first_open B number plan = refl

  leaves_at : (turns : List Turn) (p : PathState Carried) → IsPathAt 0 (reached values start turns) p → LeavesBytes (books_in (reached values start turns).books) p
  leaves_at turns p here = subst (Of (LeavesBytes (books_in (reached values start turns).books))) here.is ((each_booked values start EachShut paths_on LeavesBytes opened_first step_on turns).each here.crew here.there)

  -- ---- the law

  module _ (turns : List Turn) (turn : Turn) (p q : PathState Carried) (here : IsPathAt 0 (reached values start turns) p) (there : IsPathAt 0 (reached values start (turns ++ turn ∷ [])) q) (s : Side)
      (was_shut : (end_at s p).sending.shut ≡ true) (unfinished : (end_at s q).tcp.send.finished ≡ false) where
    abbrev b : Sending
    b = written_by s (reached values start turns)

    abbrev Stays : Type 0
    Stays = ((end_at s q).sending.shut ≡ true) ⊎ ((end_at s p).tcp.send.nxt < (end_at s q).tcp.send.nxt)

    unsent_yet : (end_at s p).tcp.send.nxt ≤ length b.written
    unsent_yet = ⊎_elim (λ done. absurd (both_ways (end_at s q).tcp.send.finished unfinished (finish turns turn p q here there s done))) (λ low. low) (leaves_at turns p here s was_shut)

    left : taken_len 0 b.marks < length b.written
    left = let few = (counts turns p here s).taken in let low = unsent_yet in omega (arith, few, low)

    turn_on : ShutOn s (books_in (reached values start turns).books) p q
    turn_on = at_turn start turns turn p q here there EachShut paths_on s

    by_refusal : (why : Why) → Refusal b b (end_at s p).modes.standby why → (end_at s q).sending.shut ≡ is_shut why → Stays
    by_refusal why (by_window is all more) shut = inl (shut ∙ ap is_shut is)
    by_refusal why (by_standby stands) shut = absurd (both_ways (end_at s p).modes.standby ((known turns p here s).serves s) stands)
    by_refusal why (by_stop stops) shut = absurd (both_ways b.aborted (known turns p here s).unstopped stops)
    by_refusal why (by_spent quiet all) shut = absurd (let many = spent_taken (length b.written) b.marks all in let low = left in omega (arith, many, low))

    by_turn : ShutOn s (books_in (reached values start turns).books) p q → Stays
    by_turn (keeps shut next) = inl (shut ∙ was_shut)
    by_turn (ends is) = absurd (both_ways (end_at s q).tcp.send.finished unfinished is)
    by_turn (refuses why decided shut next) =
        by_refusal why (refusal b b (known turns p here s).of_one (payload_size p.profile) (end_at s p).modes.standby why (sym (by_zero turns p here s) ∙ decided)) shut
    by_turn (gives span decided shut next) =
        let m : MayTake 0 (payload_size p.profile) b span = decision-MayTake 0 (payload_size p.profile) (end_at s p).modes.standby b span (sym (by_zero turns p here s) ∙ decided) in
        let room = (known turns p here s).room in
        let count = m.some (omega (arith, room)) in
        let whole = m.whole in
        let within = m.within in
        let marked = (counts turns p here s).marked in
        let long = piece_len (span.to - span.from) m.count b.written span.from (omega (arith, whole, within, marked)) (omega (arith, whole)) in
        inr (omega (arith, count, long, next))

pub shut_until_granted : ShutUntilGranted
shut_until_granted start plan turns turn one mild p q here there s was_shut unfinished =
    by_turn start plan one mild turns turn p q here there s was_shut unfinished (turn_on start plan one mild turns turn p q here there s was_shut unfinished)
