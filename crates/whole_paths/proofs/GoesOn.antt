-- Nothing goes back, by whatever turns.
use Rattle.std.proofs.Common.{◌≡◌, refl, sym, subst, ap, ◌∙◌, ℕ, ◌+◌, ◌≤◌, Bool, true, false, if◌then◌else◌, Option, Some, None, List, [], ◌∷◌, ◌++◌, length, map, le_refl, arith}
use Rattle.std.proofs.lemmas.List.{append-nil, append_assoc}
use Rattle.std.specs.List.{slice_get}
use Rattle.sides.specs.declared.side.Side.{Side}
use Rattle.sides.specs.declared.side.Side.TheVariants.{A}
use Rattle.link_model.specs.Steps.{arriving, after_delivery}
use Rattle.actor_desk.specs.declared.ask.Ask.{Ask}
use Rattle.actor_desk.specs.declared.ask.Reply.{Reply}
use Rattle.actor_desk.specs.Books.{StampedBooks, books_in}
use Rattle.actor_desk.specs.Desk.{SixBooks}
use Rattle.actor_desk.specs.Words.{tail_of}
use Rattle.path_agenda.specs.Agenda.{leaves, emission}
use Rattle.path_agenda.specs.declared.duty.Duty.{Duty}
use Rattle.path_agenda.specs.declared.duty.Duty.TheVariants as duties
use Rattle.path_agenda.specs.declared.duty.SendDuty.TheVariants as send_duties
use Rattle.path_agenda.specs.declared.duty.SilentDuty.TheVariants as silent_duties
use Rattle.path_agenda.specs.declared.duty.StepDuty.TheVariants as step_duties
use Rattle.path_store.specs.declared.lines.LineAction.TheVariants as actions
use Rattle.path_store.specs.declared.lines.LineLeft.{LineLeft}
use Rattle.path_core.specs.Arrival.{copy_heard, heard_in}
use Rattle.path_core.specs.Codec.{Codec}
use Rattle.path_core.specs.Duties.{passed, answered}
use Rattle.path_core.specs.Events.{next_event, after_line, happens_if}
use Rattle.path_core.specs.MpJoin.{is_never, keys_begun, never_joined, opened_by}
use Rattle.path_core.specs.End.{PathEnd}
use Rattle.path_core.specs.State.{PathState, at_tick, end_at, goes_on, with_agenda}
use Rattle.path_core.specs.Steps.{takes, begins_turn, next_round}
use Rattle.path_core.specs.declared.events.Event.{Event}
use Rattle.path_core.specs.declared.events.Event.TheVariants as happenings
use Rattle.world_laws.specs.declared.member.Member.TheVariants.{App, Path}
use Rattle.world_laws.specs.Actors.{Actor, ActorCrew, member_asks, member_takes, member_next, is_over}
use Rattle.world_laws.specs.StampedBooks.{answer_to}
use Rattle.world_laws.specs.Worlds.{WorldState, Turn, note_of, crew_after, asked, stepped, all_over, greatest, begins, after_turn, world_run}
use Rattle.world_laws.specs.Writes.{Writes, OnlyAt, PathView, writes, side_of}
use Rattle.world_laws.proofs.Falls.ClearStays.{Clears, takes_clear, next_clear}
use Rattle.world_laws.proofs.Weaving.Journals.{books_after}
use Rattle.world_laws.proofs.Writes.Paths.{writes_no_more, passes_no_more}
use Rattle.world_laws.proofs.Writes.Steps.{Lasts, unwritten, takes_lasts, begins_lasts}
use Rattle.whole_paths.specs.AsFar.{IsSubflowAsFar, IsStreamAsFar, IsEndAsFar, IsPathAsFar, IsActorAsFar, IsCrewAsFar, IsSideAsFar, IsAsFar, NothingGoesBack}
use Rattle.whole_paths.specs.EndSteps.{EndStep, PathStep}
use Rattle.whole_paths.proofs.Books.{side_stays, side_then, side_up}
use Rattle.whole_paths.proofs.Duties.{passed_steps, answered_steps}
use Rattle.whole_paths.proofs.KeysStay.{KeysStay, takes_keyed, next_keyed}
use Rattle.whole_paths.proofs.Subflows.{steps_up, stream_up, stream_stays, stream_then}
use Rattle.whole_paths.proofs.Subflows as subflow
use Rattle.whole_paths.proofs.Turns.{turn_each}

-- ---- an end

-- but for its modes
record EndUp (e f : PathEnd) : Type 0 where
  subflow : IsSubflowAsFar e.tcp f.tcp
  stream : IsStreamAsFar e.sending f.sending

end_up : (now : ℕ) (e f : PathEnd) → EndStep now e f → EndUp e f
end_up now e f x = record { subflow = steps_up now e.tcp f.tcp x.subflow; stream = stream_up e.sending f.sending x.stream }

up_then : (e f g : PathEnd) → EndUp e f → EndUp f g → EndUp e g
up_then e f g x y = record { subflow = subflow.goes_on e.tcp f.tcp g.tcp x.subflow y.subflow; stream = stream_then e.sending f.sending g.sending x.stream y.stream }

end_stays : (e : PathEnd) → IsEndAsFar e e
end_stays e = record { subflow = subflow.stays e.tcp; stream = stream_stays e.sending; clear = λ h. h; keyed = λ h. h }

end_then : (e f g : PathEnd) → IsEndAsFar e f → IsEndAsFar f g → IsEndAsFar e g
end_then e f g x y = record {
  subflow = subflow.goes_on e.tcp f.tcp g.tcp x.subflow y.subflow;
  stream = stream_then e.sending f.sending g.sending x.stream y.stream;
  clear = λ h. y.clear (x.clear h);
  keyed = λ h. y.keyed (x.keyed h);
}

fewer : (xs : List LineLeft) → length (tail_of xs) ≤ length xs
fewer = elim [ [] ↦ omega arith | x ∷ xs ↦ omega arith ]

module _ {C : Type 0} where
  record EndsUp (p q : PathState C) : Type 0 where
    a : EndUp p.a q.a
    b : EndUp p.b q.b

  ends_up : (p q : PathState C) → PathStep p q → EndsUp p q
  ends_up p q x = record { a = end_up q.clock p.a q.a x.a; b = end_up q.clock p.b q.b x.b }

  same_ends : (p : PathState C) (ds : List Duty) → EndsUp p (with_agenda ds p)
  same_ends p ds = record {
    a = record { subflow = subflow.stays p.a.tcp; stream = stream_stays p.a.sending };
    b = record { subflow = subflow.stays p.b.tcp; stream = stream_stays p.b.sending };
  }

  ends_last : Lasts (λ (p q : PathState C). EndsUp p q)
  ends_last = record {
    agenda = λ ds p. same_ends p ds;
    chains = λ p q r x y. record { a = up_then p.a q.a r.a x.a y.a; b = up_then p.b q.b r.b x.b y.b };
    passes = λ d p. ends_up p (passed d p) (passed_steps d p);
  }

  ends_take : (k : Codec C) (r : Reply) (p : PathState C) → EndsUp p (takes k r p)
  ends_take k r p = takes_lasts (λ p q. EndsUp p q) ends_last k r p (λ d. ends_up p (answered k d r p) (answered_steps k d r p))

  ends_begin : (p : PathState C) → EndsUp p (next_round p)
  ends_begin p =
      let q : PathState C = record p { clock = p.until; until = p.until + 100 } in
      let begun : EndsUp q (next_round p) = begins_lasts (λ p q. EndsUp p q) ends_last q in
      record { a = begun.a; b = begun.b }

  -- ---- the round's end of a path, and the lines that are left

  record Frame (p q : PathState C) : Type 0 where
    until : p.until ≤ q.until
    lines : length q.lines ≤ length p.lines

  same_frame : (p q : PathState C) → q.until ≡ p.until → q.lines ≡ p.lines → Frame p q
  same_frame p q until lines = let same : length q.lines ≡ length p.lines = ap (λ ls. length ls) lines in
      record { until = omega (arith, until); lines = omega (arith, same) }

  -- where no event may happen
  framed_by : (s : Side) (w : Writes) (p q : PathState C) → w.events ≡ false → OnlyAt s w p q → Frame p q
  framed_by s w p q is x =
      same_frame p q (ap (λ (v : PathView C). v.until) x.same) (unwritten w.events p.lines q.lines is (ap (λ (v : PathView C). v.lines) x.same))

  lines_left : (k : Codec C) (o : Option Event) (r : Reply) (p : PathState C) → length (happens_if k o r p).lines ≤ length p.lines
  lines_left k None r p = le_refl (length p.lines)
  lines_left k (Some (happenings.Joins tick)) r p =
      elim (is_never r) as (λ b. length (if b then goes_on A (never_joined r (end_at A q)) (leaves A) q else goes_on A (opened_by (keys_begun r) (end_at A q)) (emission A) q).lines ≤ length p.lines)
      [ true ↦ le_refl (length p.lines) | false ↦ le_refl (length p.lines) ]
    where
      q : PathState C
      q = record (at_tick tick p) { joined_at = None }
  lines_left k (Some (happenings.Takes line)) r p = elim line.action as (λ action. length (after_line action (record (at_tick line.tick p) { lines = tail_of p.lines })).lines ≤ length p.lines)
      [ actions.Die ↦ fewer p.lines | actions.Prio s backup ↦ fewer p.lines | actions.Announce s id ↦ fewer p.lines | actions.Withdraw s id ↦ fewer p.lines ]
  lines_left k (Some (happenings.Arrives due)) r p =
      elim (heard_in k due.to (arriving due p.link) p) as (λ o. length (copy_heard due.to o (record (at_tick due.tick p) { link = after_delivery due p.link })).lines ≤ length p.lines)
      [ None ↦ le_refl (length p.lines) | Some heard ↦ le_refl (length p.lines) ]
  lines_left k (Some (happenings.Fires s tick)) r p = le_refl (length p.lines)

  passed_frame : (d : Duty) (p : PathState C) → Frame p (passed d p)
  passed_frame (duties.Step step_duties.Events) p = same_frame p p refl refl
  passed_frame (duties.Send (send_duties.Update s)) p = same_frame p p refl refl
  passed_frame (duties.Silent (silent_duties.Timer s)) p = same_frame p _ refl refl
  passed_frame d p = framed_by (side_of d) (writes d) p _ refl (passes_no_more d p)

  answered_frame : (k : Codec C) (d : Duty) (r : Reply) (p : PathState C) → Frame p (answered k d r p)
  answered_frame k (duties.Step step_duties.Events) r p =
      let same : (happens_if k (next_event p) r p).until ≡ p.until = ap (λ (v : PathView C). v.until) (writes_no_more k (duties.Step step_duties.Events) r p).same in
      record { until = omega (arith, same); lines = lines_left k (next_event p) r p }
  answered_frame k (duties.Send (send_duties.Update s)) r p = same_frame p _ refl refl
  answered_frame k (duties.Silent d) r p = same_frame p _ refl refl
  answered_frame k d r p = framed_by (side_of d) (writes d) p _ refl (writes_no_more k d r p)

  frames_last : Lasts (λ (p q : PathState C). Frame p q)
  frames_last = record {
    agenda = λ ds p. same_frame p _ refl refl;
    chains = λ p q r x y. record { until = omega (arith, x.until, y.until); lines = omega (arith, x.lines, y.lines) };
    passes = λ d p. passed_frame d p;
  }

  -- ---- a path

  path_up : (p q : PathState C) → EndsUp p q → Clears p q → KeysStay p q → Frame p q → IsPathAsFar p q
  path_up p q ends clear keys frame = record {
    a = record { subflow = ends.a.subflow; stream = ends.a.stream; clear = clear.a.0; keyed = keys.a };
    b = record { subflow = ends.b.subflow; stream = ends.b.stream; clear = clear.b.0; keyed = keys.b };
    until = frame.until;
    lines = frame.lines;
  }

  pub takes_up : (k : Codec C) (r : Reply) (p : PathState C) → IsPathAsFar p (takes k r p)
  takes_up k r p =
      path_up p (takes k r p) (ends_take k r p) (takes_clear k r p) (takes_keyed k r p) (takes_lasts (λ p q. Frame p q) frames_last k r p (λ d. answered_frame k d r p))

  -- as a turn begins no line is taken
  pub begun_lines : (p : PathState C) → length (begins_turn p).lines ≤ length p.lines
  begun_lines p = let begun : Frame p (begins_turn p) = begins_lasts (λ p q. Frame p q) frames_last p in begun.lines

  pub next_up : (p : PathState C) → IsPathAsFar p (next_round p)
  next_up p =
      let q : PathState C = record p { clock = p.until; until = p.until + 100 } in
      let begun : Frame q (next_round p) = begins_lasts (λ p q. Frame p q) frames_last q in
      path_up p (next_round p) (ends_begin p) (next_clear p) (next_keyed p) (record { until = (let later = begun.until in omega (arith, later)); lines = begun.lines })

  -- ---- actors

  actor_up : (k : Codec C) (r : Reply) (m : Actor C) → IsActorAsFar m (member_takes k r m)
  actor_up k r (App a) = tt
  actor_up k r (Path p) = takes_up k r p

  actor_next : (m : Actor C) → IsActorAsFar m (member_next m)
  actor_next = elim [ App a ↦ tt | Path p ↦ next_up p ]

  pub actor_stays : (m : Actor C) → IsActorAsFar m m
  actor_stays (App a) = tt
  actor_stays (Path p) = record { a = end_stays p.a; b = end_stays p.b; until = le_refl p.until; lines = le_refl (length p.lines) }

  pub actor_then : (m n o : Actor C) → IsActorAsFar m n → IsActorAsFar n o → IsActorAsFar m o
  actor_then (App a) (App b) (App c) x y = tt
  actor_then (Path p) (Path q) (Path r) x y = record {
    a = end_then p.a q.a r.a x.a y.a;
    b = end_then p.b q.b r.b x.b y.b;
    until = omega (arith, x.until, y.until);
    lines = omega (arith, x.lines, y.lines);
  }
  actor_then (App a) (Path q) o x y = absurd x
  actor_then (Path p) (App b) o x y = absurd x
  actor_then (App a) (App b) (Path r) x y = absurd y
  actor_then (Path p) (Path q) (App c) x y = absurd y

  crew_stays : (c : ActorCrew C) → IsCrewAsFar c c
  crew_stays c = record { member = actor_stays c.member; more = []; list_is = sym (append-nil c.list) }

  crew_then : (c d e : ActorCrew C) → IsCrewAsFar c d → IsCrewAsFar d e → IsCrewAsFar c e
  crew_then c d e x y = record {
    member = actor_then c.member d.member e.member x.member y.member;
    more = x.more ++ y.more;
    list_is = y.list_is ∙ ap (λ ns. ns ++ y.more) x.list_is ∙ append_assoc c.list x.more y.more;
  }

  -- ---- turns

  world_stays : (w : WorldState C) → IsAsFar w w
  world_stays w = record { crew = λ actor c there. (c, there, crew_stays c); sides = λ s. side_stays s (books_in w.books) }

  world_then : (w v u : WorldState C) → IsAsFar w v → IsAsFar v u → IsAsFar w u
  world_then w v u x y = record {
    crew = λ actor c there.
        let first = x.crew actor c there in
        let second = y.crew actor first.0 first.1 in
        (second.0, second.1, crew_then c first.0 second.0 first.2 second.2);
    sides = λ s. side_then s (books_in w.books) (books_in v.books) (books_in u.books) (x.sides s) (y.sides s);
  }

  crew_asked : (k : Codec C) (ask : Ask) (books : StampedBooks) (c : ActorCrew C) → IsCrewAsFar c (crew_after k ask books c)
  crew_asked k ask books c = record { member = actor_up k (answer_to books ask) c.member; more = note_of books c.pass ask ∷ []; list_is = refl }

  crew_begins : (stamp : ℕ) (c : ActorCrew C) → is_over c.member ≡ true → IsCrewAsFar c (begins stamp c)
  crew_begins stamp c over = record { member = actor_next c.member; more = []; list_is = sym (append-nil c.list) }

  stepped_sides : (k : Codec C) (actor : ℕ) (w : WorldState C) (o : Option (ActorCrew C)) (s : Side) → IsSideAsFar s (books_in w.books) (books_in (stepped k actor o w).books)
  stepped_sides k actor w None s = side_stays s (books_in w.books)
  stepped_sides k actor w (Some c) s = by (member_asks k c.member)
    where
      by : (o : Option Ask) → IsSideAsFar s (books_in w.books) (books_in (asked k actor o c w).books)
      by None = side_stays s (books_in w.books)
      by (Some ask) = let six : SixBooks = books_in w.books in subst (λ seven. IsSideAsFar s six seven) (sym (books_after ask c.pass w.books)) (side_up ask six s)

  round_sides : (w : WorldState C) (b : Bool) (s : Side) → IsSideAsFar s (books_in w.books) (books_in (if b then record w { crew = map (begins (greatest 0 w.crew)) w.crew } else w).books)
  round_sides w true s = side_stays s (books_in w.books)
  round_sides w false s = side_stays s (books_in w.books)

  turn_sides : (k : Codec C) (turn : Turn) (w : WorldState C) (s : Side) → IsSideAsFar s (books_in w.books) (books_in (after_turn k turn w).books)
  turn_sides k (Turn.Step actor) w s = stepped_sides k actor w (slice_get w.crew actor) s
  turn_sides k Turn.Round w s = round_sides w (all_over w.crew) s

  turn_up : (k : Codec C) (turn : Turn) (w : WorldState C) → IsAsFar w (after_turn k turn w)
  turn_up k turn w = record { crew = turn_each k IsCrewAsFar crew_stays (crew_asked k) crew_begins turn w; sides = turn_sides k turn w }

  pub goes_on_so : (k : Codec C) → NothingGoesBack k
  goes_on_so k w [] = world_stays w
  goes_on_so k w (turn ∷ turns) = world_then w (after_turn k turn w) (world_run k turns (after_turn k turn w)) (turn_up k turn w) (goes_on_so k (after_turn k turn w) turns)
