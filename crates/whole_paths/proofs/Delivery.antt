-- Once all of both streams is there, both readers read what is left in a round, and are told the end in the next one.
use Rattle.std.proofs.Common.{◌≡◌, refl, sym, subst, ap, ◌∙◌, inl, inr, ◌⊎◌, ⊎_elim, ℕ, suc, ◌≤◌, ◌||◌, arith, Bool, true, false, true≢false, not, if◌then◌else◌, Option, Some, None, List, [], ◌∷◌, ◌++◌, length, map, take, append_assoc}
use Rattle.std.specs.List.{slice_get}
use Rattle.std.proofs.lemmas.Bool.{both_ways, eq-eqb, or_left}
use Rattle.std.proofs.lemmas.Option.{same_Some}
use Rattle.sides.specs.declared.side.Side.{Side}
use Rattle.sides.specs.declared.side.Side.TheVariants.{A, B}
use Rattle.sides.specs.Side.{peer}
use Rattle.reassembly_book.specs.declared.call.ReassemblyReply.TheVariants as reassembly_replies
use Rattle.reassembly_book.specs.State.{Arriving, filled, received}
use Rattle.reassembly_book.specs.Steps.{bytes_reply, is_end, read_reply, reading}
use Rattle.stream_lanes.specs.Holding.{Holds}
use Rattle.stream_lanes.proofs.Lists.{in_map, in_set}
use Rattle.actor_desk.specs.declared.ask.Ask.{Ask}
use Rattle.actor_desk.specs.declared.ask.Reply.{Reply}
use Rattle.actor_desk.specs.declared.ask.Reply.TheVariants as replies
use Rattle.actor_desk.specs.Books.{books_in}
use Rattle.actor_desk.specs.Desk.{SixBooks, reassembly_of, reply_of}
use Rattle.actor_desk.specs.Words.{is_nil, pick, tail_of}
use Rattle.stream_apps.specs.declared.duty.AppDuty.{AppDuty}
use Rattle.stream_apps.specs.declared.duty.AppDuty.TheVariants as apps
use Rattle.stream_apps.specs.Apps.{AppState}
use Rattle.stream_apps.specs.AppSteps.{app_answered, app_answers, app_ask, app_asks_first, app_settled, app_settles_down, app_stands, app_takes, ends_in, fresh_turn, start_of_app}
use Rattle.path_core.specs.Values.{Carried, values}
use Rattle.world_laws.specs.declared.member.Member.TheVariants.{App, Path}
use Rattle.world_laws.specs.declared.outcome.Outcome.TheVariants.{Delivered}
use Rattle.world_laws.specs.Actors.{Actor, ActorCrew, is_over, member_asks, member_next, member_takes}
use Rattle.world_laws.specs.Openings.{PathPlan, Start, opened_world}
use Rattle.world_laws.specs.Outcomes.{notes_of, outcome_of, output_of, tells_end, tells_stop, was_told}
use Rattle.world_laws.specs.Promises.{arrived_at, written_by}
use Rattle.world_laws.specs.RoundDone.{reached}
use Rattle.world_laws.specs.RoundNumbers.{BeginsRound, after_steps}
use Rattle.world_laws.specs.StampedBooks.{answer_to}
use Rattle.world_laws.specs.Worlds.{AreLawful, Turn, WorldState, after_turn, all_over, begins, crew_after, goes, greatest, is_going, world_run, world_step}
use Rattle.world_laws.proofs.Lanes.Applying.{settled_app}
use Rattle.world_laws.proofs.Lanes.OfAWorld.{duo_of}
use Rattle.world_laws.proofs.Rounds.Lifting.{all_over_each}
use Rattle.world_laws.proofs.Rounds.ReadAll.{readers_caught_up}
use Rattle.world_laws.proofs.Weaving.WholeRounds.{run_append}
use Rattle.world_laws.proofs.Worlds.CastLifting.{Has, always_cast}
use Rattle.world_laws.proofs.Worlds.Casts.{world_of}
use Rattle.world_laws.proofs.Worlds.Turns.{turn_so}
use Rattle.whole_paths.specs.Delivery.{AllIsThere, IsAllThere, WhatIsThereIsDelivered, WhatIsThereStays}
use Rattle.whole_paths.specs.Finish.{rounds_in}
use Rattle.whole_paths.specs.GoingOn.{steps_of}
use Rattle.whole_paths.specs.Mild.{IsMildStart}
use Rattle.whole_paths.specs.Unstopped.{NothingIsStopped}
use Rattle.whole_paths.proofs.FinishedThere.{ShowsFirmly, firmly, known_end, shown_firmly, within}
use Rattle.whole_paths.proofs.Deliveries.{still_told, who_is_told_has_all}
use Rattle.whole_paths.proofs.GoesOn.{goes_on_so}
use Rattle.whole_paths.proofs.Unstopped.{sides_are_never_stopped}

-- ---- what is so at every moment

-- of the stream that a side writes, and its reader
pub record Bounds (s : Side) (w : WorldState Carried) : Type 0 where
  pub most : received (arrived_at (peer s) w) ≤ length (written_by s w).written
  pub end : (e : ℕ) → (arrived_at (peer s) w).known_end ≡ Some e → ((written_by s w).closed ≡ true) × (e ≡ length (written_by s w).written)
  pub output : length (output_of (peer s) w) ≡ (arrived_at (peer s) w).read

pub bounds_at : (start : Start) (turns : List Turn) → IsMildStart start → (s : Side) → Bounds s (reached values start turns)
bounds_at start turns mild s = subst (Bounds s) (sym shown.shows.is) (by s)
  where
    shown : ShowsFirmly start mild.plain (reached values start turns)
    shown = shown_firmly start turns mild

    holds : Holds (duo_of (firmly start mild.plain).links (books_in shown.shows.cast.books) shown.shows.lanes_ab shown.shows.lanes_ba shown.shows.reader_a shown.shows.reader_b)
    holds = subst Holds shown.shows.duo_is shown.holds

    by : (s : Side) → Bounds s (world_of shown.shows.cast)
    by A = record { most = within _ _ holds.ab; end = known_end _ _ holds.ab; output = ap (λ (xs : List ℕ). length xs) (sym shown.shows.reads_b.out_is) ∙ holds.ab.reader.size }
    by B = record { most = within _ _ holds.ba; end = known_end _ _ holds.ba; output = ap (λ (xs : List ℕ). length xs) (sym shown.shows.reads_a.out_is) ∙ holds.ba.reader.size }

-- a reader that was told to stop reading was told the end, where nothing stops it
told_end : (start : Start) (turns : List Turn) → IsMildStart start → NothingIsStopped (reached values start turns) → (s : Side)
    → ((a : AppState) (c : ActorCrew Carried) → slice_get (reached values start turns).crew (pick s 0 1) ≡ Some c → c.member ≡ App a → a.told ≡ true) → was_told tells_end (notes_of s (reached values start turns).crew) ≡ true
told_end start turns mild stopped s told =
    subst (λ (w : WorldState Carried). was_told tells_end (notes_of s w.crew) ≡ true) (sym shown.shows.is)
    (by s (subst (λ (w : WorldState Carried). was_told tells_stop (notes_of s w.crew) ≡ false) shown.shows.is (stopped.told s))
    (subst (λ (w : WorldState Carried). (a : AppState) (c : ActorCrew Carried) → slice_get w.crew (pick s 0 1) ≡ Some c → c.member ≡ App a → a.told ≡ true) shown.shows.is told))
  where
    shown : ShowsFirmly start mild.plain (reached values start turns)
    shown = shown_firmly start turns mild

    or_none : (a b : Bool) → b ≡ false → (a || b) ≡ true → a ≡ true
    or_none true b none is = refl
    or_none false b none is = absurd (true≢false (sym is ∙ none))

    by : (s : Side) → was_told tells_stop (notes_of s (world_of shown.shows.cast).crew) ≡ false → ((a : AppState) (c : ActorCrew Carried) → slice_get (world_of shown.shows.cast).crew (pick s 0 1) ≡ Some c → c.member ≡ App a → a.told ≡ true)
        → was_told tells_end (notes_of s (world_of shown.shows.cast).crew) ≡ true
    by A none told = let r = shown.shows.reads_a in sym r.told_is ∙ or_none _ _ (r.stopped_is ∙ none) (sym r.done_is ∙ told shown.shows.cast.a _ refl refl)
    by B none told = let r = shown.shows.reads_b in sym r.told_is ∙ or_none _ _ (r.stopped_is ∙ none) (sym r.done_is ∙ told shown.shows.cast.b _ refl refl)

-- ---- all of a stream stays there

record IsAsFarAs (s : Side) (v w : WorldState Carried) : Type 0 where
  received : received (arrived_at (peer s) v) ≤ received (arrived_at (peer s) w)
  read : (arrived_at (peer s) v).read ≤ (arrived_at (peer s) w).read
  end : (place : ℕ) → (arrived_at (peer s) v).known_end ≡ Some place → (arrived_at (peer s) w).known_end ≡ Some place

far_so : (v : WorldState Carried) (more : List Turn) (s : Side) → IsAsFarAs s v (world_run values more v)
far_so v more s = let arrival = ((goes_on_so values v more).sides (peer s)).arrival in record { received = arrival.received; read = arrival.read; end = arrival.end }

module _ (start : Start) (mild : IsMildStart start) where
  abbrev at : List Turn → WorldState Carried
  at turns = reached values start turns

  runs : (turns more : List Turn) → at (turns ++ more) ≡ world_run values more (at turns)
  runs turns more = run_append values turns more (opened_world start)

  far : (turns more : List Turn) (s : Side) → IsAsFarAs s (at turns) (at (turns ++ more))
  far turns more s = subst (λ (w : WorldState Carried). IsAsFarAs s (at turns) w) (sym (runs turns more)) (far_so (at turns) more s)

  pub stays_there : (turns more : List Turn) (s : Side) → IsAllThere s (at turns) → IsAllThere s (at (turns ++ more))
  stays_there turns more s h =
      let on = far turns more s in
      let later = bounds_at start (turns ++ more) mild s in
      let known = on.end _ h.known in
      let end = later.end _ known in
      let size = end.1 in let up = on.received in let most = later.most in let was = h.received in
      record { closed = end.0; received = omega (arith, size, up, most, was); known = known ∙ ap (λ n. Some n) size }

pub what_is_there_stays : WhatIsThereStays
what_is_there_stays start turns more mild s h = stays_there start mild turns more s h

-- ---- an application that is told the end

abbrev reads_next : List AppDuty → Bool
reads_next (apps.Read ∷ ds) = true
reads_next (apps.End ∷ ds) = false
reads_next (d ∷ ds) = reads_next ds
reads_next [] = false

-- an application was told, or reads before its turn is over
abbrev IsToTell : AppState → Type 0
IsToTell a = (a.told ≡ true) ⊎ (reads_next a.agenda ≡ true)

not_false : (b : Bool) → not b ≡ false → b ≡ true
not_false true is = refl
not_false false is = absurd (true≢false is)

settled_told : (ds : List AppDuty) (a : AppState) → (a.told ≡ true) ⊎ (reads_next ds ≡ true) → IsToTell (app_settled ds a)
settled_told ds a (inl is) = inl (ap (λ (y : AppState). y.told) (settled_app ds a).is ∙ is)
settled_told [] a (inr is) = absurd (true≢false (sym is))
settled_told (d ∷ ds) a (inr is) = by (app_stands d a) refl (λ rest. settled_told ds a rest)
  where
    next : (d : AppDuty) → reads_next (d ∷ ds) ≡ true → app_stands d a ≡ false → (a.told ≡ true) ⊎ (reads_next ds ≡ true)
    next apps.Read is none = inl (not_false a.told none)
    next apps.End is none = absurd (true≢false (sym is))
    next apps.FastClose is none = inr is
    next apps.AbortSend is none = inr is
    next apps.AbortReceive is none = inr is
    next apps.Write is none = inr is
    next apps.Close is none = inr is

    by : (b : Bool) → app_stands d a ≡ b → ((a.told ≡ true) ⊎ (reads_next ds ≡ true) → IsToTell (app_settled ds a)) → IsToTell (if b then record a { agenda = d ∷ ds } else app_settled ds a)
    by true stands rest = inr is
    by false none rest = rest (next d is none)

answered_told : (d : AppDuty) (ds : List AppDuty) (r : Reply) (a : AppState) → a.agenda ≡ d ∷ ds → (d ≡ apps.Read → ends_in r ≡ true) → (a.told ≡ true) ⊎ (reads_next (d ∷ ds) ≡ true)
    → let m = app_answered d r a in (m.told ≡ true) ⊎ (reads_next m.agenda ≡ true)
answered_told apps.Read ds r a is ends h = inl (ap (λ b. a.told || b) (ends refl) ∙ or_true a.told)
  where
    or_true : (b : Bool) → (b || true) ≡ true
    or_true true = refl
    or_true false = refl
answered_told d ds r a is ends (inl told) = inl (same d told)
  where
    same : (d : AppDuty) → a.told ≡ true → (app_answered d r a).told ≡ true
    same apps.Read told = or_left a.told (ends_in r) told
    same apps.FastClose told = told
    same _ told = told
answered_told apps.End ds r a is ends (inr next) = absurd (true≢false (sym next))
answered_told apps.FastClose ds r a is ends (inr next) = inr (ap (λ xs. reads_next (tail_of xs)) is ∙ next)
answered_told apps.AbortSend ds r a is ends (inr next) = inr (ap (λ xs. reads_next (tail_of xs)) is ∙ next)
answered_told apps.AbortReceive ds r a is ends (inr next) = inr (ap (λ xs. reads_next (tail_of xs)) is ∙ next)
answered_told apps.Write ds r a is ends (inr next) = inr (ap (λ xs. reads_next (tail_of xs)) is ∙ next)
answered_told apps.Close ds r a is ends (inr next) = inr (ap (λ xs. reads_next (tail_of xs)) is ∙ next)

takes_told : (d : AppDuty) (ds : List AppDuty) (r : Reply) (a : AppState) → a.agenda ≡ d ∷ ds → (d ≡ apps.Read → ends_in r ≡ true) → IsToTell a → IsToTell (app_takes r a)
takes_told d ds r a is ends h =
    let m : AppState = app_answered d r a in
    subst IsToTell (sym (ap (λ xs. app_settles_down (app_answers xs r a)) is))
    (settled_told m.agenda m (answered_told d ds r a is ends (subst (λ (xs : List AppDuty). (a.told ≡ true) ⊎ (reads_next xs ≡ true)) is h)))

-- a book of which all is read, and whose end is known
record IsReadOut (b : Arriving) : Type 0 where
  known : b.known_end ≡ Some b.read
  none : filled b.places ≡ []
  goes : b.aborted ≡ None

reads_end : (b : Arriving) → IsReadOut b → read_reply 65536 b ≡ reassembly_replies.End
reads_end b h =
    ap (λ o. reading o 65536 b) h.goes ∙ ap (λ (xs : List ℕ). bytes_reply (take 65536 xs) b) h.none
    ∙ ap (λ o. if is_end o b.read then reassembly_replies.End else reassembly_replies.NoneYet) h.known
    ∙ ap (λ c. if c then reassembly_replies.End else reassembly_replies.NoneYet) (eq-eqb b.read b.read refl)

-- ---- a round in which all is read

abbrev MemberTells : Actor Carried → Type 0
MemberTells (App a) = IsToTell a
MemberTells (Path p) = Unit {0}

-- the reader is the actor of its side
record ReadsOut (r : Side) (w : WorldState Carried) : Type 0 where
  book : IsReadOut (arrived_at r w)
  side : (a : AppState) (c : ActorCrew Carried) → slice_get w.crew (pick r 0 1) ≡ Some c → c.member ≡ App a → a.side ≡ r

abbrev Tells : Side → WorldState Carried → Type 0
Tells r w = (c : ActorCrew Carried) → slice_get w.crew (pick r 0 1) ≡ Some c → MemberTells c.member

module _ (r : Side) where
  read_ends : (six : SixBooks) (a : AppState) → a.side ≡ r → IsReadOut (reassembly_of r six) → ends_in (reply_of six (app_ask apps.Read a)) ≡ true
  read_ends six a side h = ap (λ s. ends_in (reply_of six (app_ask apps.Read (record a { side = s })))) side ∙ by r h
    where
      by : (r : Side) → IsReadOut (reassembly_of r six) → ends_in (reply_of six (app_ask apps.Read (record a { side = r }))) ≡ true
      by A h = ap (λ x. ends_in (replies.Reassembly x)) (reads_end six.reassembly_a h)
      by B h = ap (λ x. ends_in (replies.Reassembly x)) (reads_end six.reassembly_b h)

  member_takes_tells : (w : WorldState Carried) (m : Actor Carried) (x : Ask) → member_asks values m ≡ Some x → IsReadOut (arrived_at r w) → ((a : AppState) → m ≡ App a → a.side ≡ r) → MemberTells m
      → MemberTells (member_takes values (answer_to w.books x) m)
  member_takes_tells w (Path p) x is book side h = tt
  member_takes_tells w (App a) x is book side h = by a.agenda refl is
    where
      by : (ds : List AppDuty) → a.agenda ≡ ds → app_asks_first ds a ≡ Some x → IsToTell (app_takes (answer_to w.books x) a)
      by [] agenda asks = cc
      by (d ∷ ds) agenda asks =
          subst (λ y. IsToTell (app_takes (answer_to w.books y) a)) (same_Some (app_ask d a) x asks)
          (takes_told d ds (answer_to w.books (app_ask d a)) a agenda
          (λ same. ap (λ e. ends_in (reply_of (books_in w.books) (app_ask e a))) same ∙ read_ends (books_in w.books) a (side a refl) book) h)

  member_next_tells : (m : Actor Carried) → MemberTells (member_next m)
  member_next_tells (App a) = settled_told start_of_app (fresh_turn a) (inr refl)
  member_next_tells (Path p) = tt

  step_tells : (actor : ℕ) (w : WorldState Carried) → ReadsOut r w → Tells r w → Tells r (world_step values actor w)
  step_tells actor w done h = turn_so values (Tells r) (Turn.Step actor) w h
      (λ number c x there is d at. ⊎_elim
      (λ here. (let mine : slice_get w.crew (pick r 0 1) ≡ Some c = ap (slice_get w.crew) here.0 ∙ there in
      subst (λ (y : ActorCrew Carried). MemberTells y.member) here.1 (member_takes_tells w c.member x is done.book (λ a same. done.side a c mine same) (h c mine))))
      (λ other. h d other.1)
      (in_set w.crew number (crew_after values x w.books c) (pick r 0 1) d at))
      (λ over d at. begun over d at)
    where
      begun : all_over w.crew ≡ true → (d : ActorCrew Carried) → slice_get (map (begins (greatest 0 w.crew)) w.crew) (pick r 0 1) ≡ Some d → MemberTells d.member
      begun over d at = let found = in_map (begins (greatest 0 w.crew)) w.crew (pick r 0 1) d at in subst (λ (y : ActorCrew Carried). MemberTells y.member) found.2 (member_next_tells found.0.member)

  steps_tell : (order : List ℕ) (w : WorldState Carried) → ((more : List ℕ) → ReadsOut r (after_steps values more w)) → Tells r w → Tells r (after_steps values order w)
  steps_tell [] w ever h = h
  steps_tell (actor ∷ order) w ever h = steps_tell order (world_step values actor w) (λ more. ever (actor ∷ more)) (step_tells actor w (ever []) h)

  -- as a round begins
  round_tells : (w : WorldState Carried) → all_over w.crew ≡ true → Tells r (after_turn values Turn.Round w)
  round_tells w over c at =
      let found = in_map (begins (greatest 0 w.crew)) w.crew (pick r 0 1) c (subst (λ b. slice_get (if b then record w { crew = map (begins (greatest 0 w.crew)) w.crew } else w).crew (pick r 0 1) ≡ Some c) over at) in
      subst (λ (y : ActorCrew Carried). MemberTells y.member) found.2 (member_next_tells found.0.member)

  -- where its turn is over it was told
  over_told : (w : WorldState Carried) → all_over w.crew ≡ true → Tells r w → (a : AppState) (c : ActorCrew Carried) → slice_get w.crew (pick r 0 1) ≡ Some c → c.member ≡ App a → a.told ≡ true
  over_told w over h a c there is = by (subst MemberTells is (h c there))
    where
      ended : not (is_nil a.agenda) ≡ false
      ended = ap not (subst (λ m. is_over m ≡ true) is (all_over_each w.crew (pick r 0 1) c over there))

      none : (ds : List AppDuty) → not (is_nil ds) ≡ false → reads_next ds ≡ true → ⊥
      none [] is next = true≢false (sym next)
      none (d ∷ ds) is next = true≢false is

      by : IsToTell a → a.told ≡ true
      by (inl told) = told
      by (inr next) = absurd (none a.agenda ended next)

-- ---- rounds

-- where the round ends that goes on
record Cut (w : WorldState Carried) (more : List Turn) : Type 0 where
  order : List ℕ
  rest : List Turn
  is : more ≡ steps_of order ++ Turn.Round ∷ rest
  over : all_over (world_run values (steps_of order) w).crew ≡ true
  lawful : AreLawful values rest (world_run values (steps_of order ++ Turn.Round ∷ []) w)
  rounds : suc (rounds_in rest) ≡ rounds_in more

cut : (more : List Turn) (w : WorldState Carried) → AreLawful values more w → 1 ≤ rounds_in more → Cut w more
cut [] w lawful some = absurd (omega (arith, some))
cut (Turn.Round ∷ more) w lawful some = record { order = []; rest = more; is = refl; over = lawful.0; lawful = lawful.1; rounds = refl }
cut (Turn.Step actor ∷ more) w lawful some =
    let c = cut more (world_step values actor w) lawful.1 some in
    record { order = actor ∷ c.order; rest = c.rest; is = ap (λ xs. Turn.Step actor ∷ xs) c.is; over = c.over; lawful = c.lawful; rounds = c.rounds }

module _ (start : Start) (mild : IsMildStart start) where
  abbrev after : List Turn → WorldState Carried
  after turns = reached values start turns

  -- the next round begins after these turns
  record Begins (turns more : List Turn) : Type 0 where
    done : List Turn
    over : all_over (after done).crew ≡ true
    begun : turns ≡ done ++ Turn.Round ∷ []
    lawful : AreLawful values more (after turns)

  begins_so : (turns more : List Turn) → Begins turns more → BeginsRound values start (after turns)
  begins_so turns more h = BeginsRound.Next h.done h.over (ap after h.begun ∙ run_append values h.done (Turn.Round ∷ []) (opened_world start))

  record Goes (turns more : List Turn) : Type 0 where
    order : List ℕ
    rest : List Turn
    over : all_over (after (turns ++ steps_of order)).crew ≡ true
    next : Begins ((turns ++ steps_of order) ++ Turn.Round ∷ []) rest
    whole : turns ++ more ≡ ((turns ++ steps_of order) ++ Turn.Round ∷ []) ++ rest
    rounds : suc (rounds_in rest) ≡ rounds_in more

  goes_to : (turns more : List Turn) → AreLawful values more (after turns) → 1 ≤ rounds_in more → Goes turns more
  goes_to turns more lawful some =
      let c = cut more (after turns) lawful some in
      let ended : after (turns ++ steps_of c.order) ≡ world_run values (steps_of c.order) (after turns) = run_append values turns (steps_of c.order) (opened_world start) in
      let over : all_over (after (turns ++ steps_of c.order)).crew ≡ true = subst (λ (w : WorldState Carried). all_over w.crew ≡ true) (sym ended) c.over in
      let same : (turns ++ steps_of c.order) ++ Turn.Round ∷ [] ≡ turns ++ (steps_of c.order ++ Turn.Round ∷ []) = append_assoc turns (steps_of c.order) (Turn.Round ∷ []) in
      record {
        order = c.order;
        rest = c.rest;
        over = over;
        next = record {
          done = turns ++ steps_of c.order;
          over = over;
          begun = refl;
          lawful = subst (AreLawful values c.rest) (sym (ap after same ∙ run_append values turns (steps_of c.order ++ Turn.Round ∷ []) (opened_world start))) c.lawful;
        };
        whole = ap (λ xs. turns ++ xs) c.is ∙ sym (append_assoc turns (steps_of c.order) (Turn.Round ∷ c.rest)) ∙ sym (append_assoc (turns ++ steps_of c.order) (Turn.Round ∷ []) c.rest);
        rounds = c.rounds;
      }

  -- ---- in the first round what is there is read

  not_going : (actor : ℕ) (w : WorldState Carried) → all_over w.crew ≡ true → is_going actor w ≡ false
  not_going actor w over = by (slice_get w.crew actor) refl
    where
      by : (o : Option (ActorCrew Carried)) → slice_get w.crew actor ≡ o → goes o ≡ false
      by None there = refl
      by (Some c) there = ap not (all_over_each w.crew actor c over there)

  stopped_at : (turns : List Turn) → NothingIsStopped (after turns)
  stopped_at turns = sides_are_never_stopped start turns mild

  read_then : (turns more : List Turn) → Begins turns more → (order : List ℕ) → all_over (after (turns ++ steps_of order)).crew ≡ true → (s : Side) → IsAllThere s (after turns)
      → length (written_by s (after turns)).written ≤ (arrived_at (peer s) (after (turns ++ steps_of order))).read
  read_then turns more begins order over s h =
      let ended : after (turns ++ steps_of order) ≡ after_steps values order (after turns) = run_append values turns (steps_of order) (opened_world start) in
      let caught = readers_caught_up values start (after turns) order (begins_so turns more begins) (peer s) (not_going (pick (peer s) 0 1) (after_steps values order (after turns)) (subst (λ (w : WorldState Carried). all_over w.crew ≡ true) ended over)) in
      let output = (bounds_at start (turns ++ steps_of order) mild s).output in
      let was = h.received in
      ⊎_elim
      (λ all. (let read : length (output_of (peer s) (after (turns ++ steps_of order))) ≡ length (output_of (peer s) (after_steps values order (after turns))) = ap (λ (w : WorldState Carried). length (output_of (peer s) w)) ended in
      omega (arith, all, was, output, read)))
      (λ told. absurd (both_ways _ (subst (λ (w : WorldState Carried). was_told tells_stop (notes_of (peer s) w.crew) ≡ false) ended ((stopped_at (turns ++ steps_of order)).told (peer s))) told))
      caught

  -- ---- in the next one the end is told

  nil_so : (xs : List ℕ) → length xs ≤ 0 → xs ≡ []
  nil_so [] low = refl
  nil_so (x ∷ xs) low = absurd (omega (arith, low))

  app_side : (r : Side) (w : WorldState Carried) (t : Has {C = Carried} start (λ t. Unit {0}) w) (a : AppState) (c : ActorCrew Carried) → slice_get w.crew (pick r 0 1) ≡ Some c → c.member ≡ App a → a.side ≡ r
  app_side r w t = subst (λ (v : WorldState Carried). (a : AppState) (c : ActorCrew Carried) → slice_get v.crew (pick r 0 1) ≡ Some c → c.member ≡ App a → a.side ≡ r) (sym t.is) (by r)
    where
      by : (r : Side) (a : AppState) (c : ActorCrew Carried) → slice_get (world_of t.cast).crew (pick r 0 1) ≡ Some c → c.member ≡ App a → a.side ≡ r
      by A a c there is = ap (λ m. side_in m) (sym is ∙ sym (ap (λ (y : ActorCrew Carried). y.member) (same_Some _ c there))) ∙ t.fare.a.side_is
        where
          side_in : Actor Carried → Side
          side_in (App a) = a.side
          side_in (Path p) = A
      by B a c there is = ap (λ m. side_in m) (sym is ∙ sym (ap (λ (y : ActorCrew Carried). y.member) (same_Some _ c there))) ∙ t.fare.b.side_is
        where
          side_in : Actor Carried → Side
          side_in (App a) = a.side
          side_in (Path p) = A

  reads_out : (turns : List Turn) (s : Side) → IsAllThere s (after turns) → length (written_by s (after turns)).written ≤ (arrived_at (peer s) (after turns)).read → ReadsOut (peer s) (after turns)
  reads_out turns s h all =
      let was = h.received in
      record {
        book = record {
          known = h.known ∙ ap (λ n. Some n) (omega (arith, all, was));
          none = nil_so (filled (arrived_at (peer s) (after turns)).places) (omega (arith, all, was));
          goes = (stopped_at turns).arrived (peer s);
        };
        side = app_side (peer s) (after turns) (always_cast values start turns);
      }

  told_then : (turns more : List Turn) → Begins turns more → (order : List ℕ) → all_over (after (turns ++ steps_of order)).crew ≡ true → (s : Side) → IsAllThere s (after turns)
      → length (written_by s (after turns)).written ≤ (arrived_at (peer s) (after turns)).read → was_told tells_end (notes_of (peer s) (after (turns ++ steps_of order)).crew) ≡ true
  told_then turns more begins order over s h all =
      let ended : after (turns ++ steps_of order) ≡ after_steps values order (after turns) = run_append values turns (steps_of order) (opened_world start) in
      told_end start (turns ++ steps_of order) mild (stopped_at (turns ++ steps_of order)) (peer s)
      (over_told (peer s) (after (turns ++ steps_of order)) over
      (subst (Tells (peer s)) (sym ended) (steps_tell (peer s) order (after turns) ever
      (subst (Tells (peer s)) (sym (ap after begins.begun ∙ run_append values begins.done (Turn.Round ∷ []) (opened_world start))) (round_tells (peer s) (after begins.done) begins.over)))))
    where
      ever : (others : List ℕ) → ReadsOut (peer s) (after_steps values others (after turns))
      ever others =
          let now : after (turns ++ steps_of others) ≡ after_steps values others (after turns) = run_append values turns (steps_of others) (opened_world start) in
          let later = stays_there start mild turns (steps_of others) s h in
          let up = (far start mild turns (steps_of others) s).read in
          let size = ap (λ (o : Option ℕ). or_zero o) (sym later.known ∙ (far start mild turns (steps_of others) s).end _ h.known) in
          subst (ReadsOut (peer s)) now (reads_out (turns ++ steps_of others) s later (omega (arith, up, all, size)))
        where
          or_zero : Option ℕ → ℕ
          or_zero None = 0
          or_zero (Some n) = n

  -- ---- the outcome

  told_on : (turns more : List Turn) (r : Side) → was_told tells_end (notes_of r (after turns).crew) ≡ true → was_told tells_end (notes_of r (after (turns ++ more)).crew) ≡ true
  told_on turns more r told = subst (λ (w : WorldState Carried). was_told tells_end (notes_of r w.crew) ≡ true) (sym (runs start mild turns more)) (still_told (after turns) more r told)

  peers : (s : Side) → peer (peer s) ≡ s
  peers A = refl
  peers B = refl

  abbrev or_zero : Option ℕ → ℕ
  or_zero None = 0
  or_zero (Some n) = n

  -- the round in which the end is told, and what comes then
  last_round : (turns more : List Turn) → Begins turns more → ((s : Side) → IsAllThere s (after turns)) → ((s : Side) → length (written_by s (after turns)).written ≤ (arrived_at (peer s) (after turns)).read) → Goes turns more
      → outcome_of (after (turns ++ more)).crew ≡ Delivered
  last_round turns more begin there read g =
      let last : List Turn = turns ++ steps_of g.order in
      subst (λ ts. outcome_of (after ts).crew ≡ Delivered) (sym (g.whole ∙ append_assoc last (Turn.Round ∷ []) g.rest))
      (who_is_told_has_all start (last ++ (Turn.Round ∷ g.rest)) mild (λ r. told_on last (Turn.Round ∷ g.rest) r
      (subst (λ (q : Side). was_told tells_end (notes_of q (after last).crew) ≡ true) (peers r) (told_then turns more begin g.order g.over (peer r) (there (peer r)) (read (peer r))))))

  -- the one before, in which what is there is read
  reading_round : (turns more : List Turn) → Begins turns more → 2 ≤ rounds_in more → ((s : Side) → IsAllThere s (after turns)) → Goes turns more → outcome_of (after (turns ++ more)).crew ≡ Delivered
  reading_round turns more begin two there g =
      subst (λ ts. outcome_of (after ts).crew ≡ Delivered) (sym g.whole)
      (last_round ((turns ++ steps_of g.order) ++ Turn.Round ∷ []) g.rest g.next (λ s. later s) (λ s. read s) (goes_to ((turns ++ steps_of g.order) ++ Turn.Round ∷ []) g.rest g.next.lawful (let less = g.rounds in omega (arith, two, less))))
    where
      now : (s : Side) → IsAllThere s (after (turns ++ steps_of g.order))
      now s = stays_there start mild turns (steps_of g.order) s (there s)

      later : (s : Side) → IsAllThere s (after ((turns ++ steps_of g.order) ++ Turn.Round ∷ []))
      later s = stays_there start mild (turns ++ steps_of g.order) (Turn.Round ∷ []) s (now s)

      read : (s : Side) → length (written_by s (after ((turns ++ steps_of g.order) ++ Turn.Round ∷ []))).written ≤ (arrived_at (peer s) (after ((turns ++ steps_of g.order) ++ Turn.Round ∷ []))).read
      read s =
          let all = read_then turns more begin g.order g.over s (there s) in
          let on = far start mild (turns ++ steps_of g.order) (Turn.Round ∷ []) s in
          let up = on.read in
          let size = ap or_zero (sym (on.end _ ((far start mild turns (steps_of g.order) s).end _ (there s).known)) ∙ (later s).known) in
          omega (arith, all, up, size)

  first_rounds : (turns more : List Turn) → AllIsThere (after turns) → 3 ≤ rounds_in more → Goes turns more → outcome_of (after (turns ++ more)).crew ≡ Delivered
  first_rounds turns more all three g =
      let less = g.rounds in
      subst (λ ts. outcome_of (after ts).crew ≡ Delivered) (sym g.whole)
      (reading_round ((turns ++ steps_of g.order) ++ Turn.Round ∷ []) g.rest g.next (omega (arith, three, less))
      (λ s. stays_there start mild (turns ++ steps_of g.order) (Turn.Round ∷ []) s (stays_there start mild turns (steps_of g.order) s (all.of s)))
      (goes_to ((turns ++ steps_of g.order) ++ Turn.Round ∷ []) g.rest g.next.lawful (omega (arith, three, less))))

pub all_there_is_delivered : WhatIsThereIsDelivered
all_there_is_delivered start turns more mild all lawful three = first_rounds start mild turns more all three (goes_to start mild turns more lawful (omega (arith, three)))

-- over one path
pub what_is_there_is_delivered : (start : Start) (plan : PathPlan) (turns more : List Turn) → start.paths ≡ plan ∷ [] → IsMildStart start → AllIsThere (reached values start turns)
    → AreLawful values more (reached values start turns) → 3 ≤ rounds_in more → outcome_of (reached values start (turns ++ more)).crew ≡ Delivered
what_is_there_is_delivered start plan turns more one mild all lawful three = all_there_is_delivered start turns more mild all lawful three
