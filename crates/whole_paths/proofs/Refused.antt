-- In a round, as a path's turn is over: why a byte is left that the path might have taken.
use Rattle.std.proofs.Common.{◌≡◌, refl, sym, subst, ap, ◌∙◌, ◌⊎◌, inl, inr, ⊎_elim, ℕ, zero, suc, ◌+◌, ◌<◌, ◌≤◌, arith, le_refl, Bool, true, false, true≢false, if◌then◌else◌, Result, Ok, Err, Option, Some, None, List, [], ◌∷◌, ◌++◌, drop, length, map, set}
use Rattle.std.specs.List.{slice_get}
use Rattle.std.proofs.Math.Seq.{drop-append_seam}
use Rattle.std.proofs.lemmas.Bool.{cases_eq}
use Rattle.std.proofs.lemmas.List.{append-nil, append_assoc, length-set}
use Rattle.std.proofs.lemmas.Option.{same_Some, slice_get_within}
use Rattle.sides.specs.declared.side.Side.{Side}
use Rattle.sides.specs.declared.side.Side.TheVariants.{A, B}
use Rattle.send_book.specs.declared.call.SendCall.TheVariants as calls
use Rattle.send_book.specs.declared.call.SendReply.TheVariants as send_replies
use Rattle.send_book.specs.declared.call.Span.{Span}
use Rattle.send_book.specs.declared.call.Why.{Why}
use Rattle.send_book.specs.Steps.{decision, end_of, reply_by}
use Rattle.stream_lanes.specs.Marks.{spent}
use Rattle.stream_lanes.proofs.Lists.{set_other, set_same}
use Rattle.actor_desk.specs.Books.{books_in}
use Rattle.actor_desk.specs.Desk.{SixBooks, after_ask, reply_of, send_of}
use Rattle.actor_desk.specs.declared.ask.Ask.{Ask}
use Rattle.actor_desk.specs.declared.ask.Ask.TheVariants as asks
use Rattle.actor_desk.specs.declared.ask.Note.{Note}
use Rattle.actor_desk.specs.declared.ask.Reply.{Reply}
use Rattle.actor_desk.specs.declared.ask.Reply.TheVariants as replies
use Rattle.path_agenda.specs.declared.duty.Duty.{Duty}
use Rattle.path_core.specs.Codec.{Codec}
use Rattle.path_core.specs.Duties.{ask_for}
use Rattle.path_core.specs.End.{PathEnd}
use Rattle.path_core.specs.State.{PathState, end_at, path_of}
use Rattle.path_core.specs.Steps.{asks_first, takes}
use Rattle.world_laws.specs.declared.member.Member.TheVariants.{App, Path}
use Rattle.world_laws.specs.Actors.{Actor, ActorCrew, member_asks, member_takes}
use Rattle.world_laws.specs.Openings.{Start, opened_world}
use Rattle.world_laws.specs.Outcomes.{notes_at, notes_or}
use Rattle.world_laws.specs.Promises.{written_by}
use Rattle.world_laws.specs.RoundDone.{reached}
use Rattle.world_laws.specs.RoundEnd.{asks_grant, is_no_grant, last_refused, refused_after}
use Rattle.world_laws.specs.RoundNumbers.{AreDoneAsking, after_steps, is_standby, last_on_standby, steps_since}
use Rattle.world_laws.specs.StampedBooks.{answer_to}
use Rattle.world_laws.specs.Worlds.{Turn, WorldState, asked, crew_after, note_of, stepped, world_step}
use Rattle.world_laws.proofs.Asks.SendBooks.{last_more}
use Rattle.world_laws.proofs.Rounds.AskingForNothing.{grants_are_done}
use Rattle.world_laws.proofs.Weaving.EdgesAndStamps.{edge_grows}
use Rattle.world_laws.proofs.Weaving.Journals.{books_after}
use Rattle.whole_paths.specs.BookNews.{is_free}
use Rattle.whole_paths.specs.Finish.{IsPathAt}
use Rattle.whole_paths.specs.Refusals.{IsLeft, IsTaken, WhoAsksIsRefused}
use Rattle.whole_paths.specs.Refusals.{IsLeft as left_by}
use Rattle.whole_paths.proofs.BookNews.{AreAsFar, as_far_same, as_far_then, ask_as_far, crew_long, free_spent, number_low}
use Rattle.whole_paths.proofs.GivenBack.{AreRightly, ask_rightly, marks_are_right}
use Rattle.whole_paths.proofs.Holding.{IsNamed, Known, always_known, known_asked}
use Rattle.whole_paths.proofs.GrantReasons.{IsWhole, ask_open, ask_whole, why_refused}
use Rattle.whole_paths.proofs.Turns.{books_by_turns}
use Rattle.world_laws.proofs.Weaving.WholeRounds.{run_append}
use Rattle.whole_paths.proofs.ShutKnown.{AsksNow, asks_now, shut_stays}

refused_more : (s : Side) (before : Bool) (notes : List Note) (n : Note) → last_refused s before (notes ++ n ∷ []) ≡ refused_after s n (last_refused s before notes)
refused_more s before [] n = refl
refused_more s before (m ∷ notes) n = refused_more s (refused_after s m before) notes n

-- a refused grant has its reason
refusal_of : (s : Side) (x : Ask) (path max : ℕ) (stands : Bool) (six : SixBooks) → x ≡ asks.Send s (calls.Grant path max stands) → is_no_grant (reply_of six x) ≡ true
    → (why : Why) × (decision path max stands (send_of s six) ≡ Err why) × (reply_of six x ≡ replies.Send (send_replies.NoGrant why (end_of (send_of s six))))
refusal_of s x path max stands six is refused = by s (decision path max stands (send_of s six)) refl
  where
    reply_so : (s : Side) → x ≡ asks.Send s (calls.Grant path max stands) → reply_of six x ≡ replies.Send (reply_by (decision path max stands (send_of s six)) (send_of s six))
    reply_so A is = subst (λ (y : Ask). reply_of six y ≡ replies.Send (reply_by (decision path max stands six.send_a) six.send_a)) (sym is) refl
    reply_so B is = subst (λ (y : Ask). reply_of six y ≡ replies.Send (reply_by (decision path max stands six.send_b) six.send_b)) (sym is) refl

    by : (t : Side) (r : Result Span Why) → decision path max stands (send_of s six) ≡ r
        → (why : Why) × (decision path max stands (send_of s six) ≡ Err why) × (reply_of six x ≡ replies.Send (send_replies.NoGrant why (end_of (send_of s six))))
    by t (Err why) was = (why, was, reply_so s is ∙ ap (λ (r : Result Span Why). replies.Send (reply_by r (send_of s six))) was)
    by t (Ok span) was = absurd (true≢false (sym refused ∙ ap is_no_grant (reply_so s is ∙ ap (λ (r : Result Span Why). replies.Send (reply_by r (send_of s six))) was)))

-- steps in a round
module _ {C : Type 0} (k : Codec C) (P : WorldState C → Type 0)
    (asks : (w : WorldState C) → P w → (actor : ℕ) (c : ActorCrew C) (x : Ask) → slice_get w.crew actor ≡ Some c → member_asks k c.member ≡ Some x → P (asked k actor (Some x) c w)) where
  step_so : (actor : ℕ) (w : WorldState C) → P w → P (world_step k actor w)
  step_so actor w h = by (slice_get w.crew actor) refl
    where
      asking : (c : ActorCrew C) → slice_get w.crew actor ≡ Some c → (o : Option Ask) → member_asks k c.member ≡ o → P (asked k actor o c w)
      asking c there None is = h
      asking c there (Some x) is = asks w h actor c x there is

      by : (o : Option (ActorCrew C)) → slice_get w.crew actor ≡ o → P (stepped k actor o w)
      by None there = h
      by (Some c) there = asking c there (member_asks k c.member) refl

  pub steps_so : (order : List ℕ) (w : WorldState C) → P w → P (after_steps k order w)
  steps_so [] w h = h
  steps_so (actor ∷ order) w h = steps_so order (world_step k actor w) (step_so actor w h)

module _ {C : Type 0} (k : Codec C) (start : Start) (since : List Turn) (s : Side) (number place : ℕ) where
  abbrev begun : WorldState C
  begun = reached k start since

  abbrev before : List Note
  before = notes_at (2 + number) begun.crew

  -- what is known of each moment of the round
  record Sound (w : WorldState C) : Type 0 where
    known : Known k w
    right : AreRightly (books_in w.books)
    whole : IsWhole (written_by s w)
    far : AreAsFar (written_by s begun).marks (written_by s w).marks
    long : length w.crew ≡ suc (suc (length start.paths))
    edge : (written_by s begun).edge ≤ (written_by s w).edge

  record Going (w : WorldState C) : Type 0 where
    sound : Sound w
    path : PathState C
    here : IsPathAt number w path
    more : List Note
    list_is : here.crew.list ≡ before ++ more
    why : is_free number (slice_get (written_by s begun).marks place) ≡ true → (written_by s w).aborted ≡ false → (written_by s w).owner ≡ None → last_refused s false more ≡ true
        → IsLeft start s place more begun w (end_at s path)

  module _ (w : WorldState C) (h : Sound w) where
    low_at : (n : ℕ) (p : PathState C) → IsPathAt n w p → n < length start.paths
    low_at n p here = let low = slice_get_within w.crew (2 + n) here.crew here.there in let long = h.long in omega (arith, low, long)

    -- it is taken, or free still
    taken_or : number < length start.paths → is_free number (slice_get (written_by s begun).marks place) ≡ true
        → IsTaken start s place begun w ⊎ (is_free number (slice_get (written_by s w).marks place) ≡ true)
    taken_or low free = by (is_free number (slice_get (written_by s w).marks place)) refl
      where
        by : (b : Bool) → is_free number (slice_get (written_by s w).marks place) ≡ b → IsTaken start s place begun w ⊎ (is_free number (slice_get (written_by s w).marks place) ≡ true)
        by true is = inr is
        by false is =
            let t = free_spent (length start.paths) number place (written_by s begun).marks (written_by s w).marks h.far low free is (h.right s place)
            (λ holder held. let found = h.known.holders.each s holder place held in low_at holder found.0 found.1) in
            inl (record { other = t.other; low = t.low; was = t.was; now = t.now })

    module _ (actor : ℕ) (c : ActorCrew C) (x : Ask) (there : slice_get w.crew actor ≡ Some c) (asking : member_asks k c.member ≡ Some x) where
      abbrev six : SixBooks
      six = books_in w.books

      abbrev v : WorldState C
      v = asked k actor (Some x) c w

      now : books_in v.books ≡ after_ask x six
      now = books_after x c.pass w.books

      sound_asked : Sound v
      sound_asked = record {
        known = known_asked k w h.known actor c x there asking;
        right = subst AreRightly (sym now) (ask_rightly x six h.right);
        whole = subst (λ (y : SixBooks). IsWhole (send_of s y)) (sym now) (ask_whole s x six (h.right s) h.whole);
        far = subst (λ (y : SixBooks). AreAsFar (written_by s begun).marks (send_of s y).marks) (sym now)
            (as_far_then (written_by s begun).marks (send_of s six).marks (send_of s (after_ask x six)).marks h.far (ask_as_far s x six));
        long = length-set w.crew actor (crew_after k x w.books c) ∙ h.long;
        edge = subst (λ (y : SixBooks). (written_by s begun).edge ≤ (send_of s y).edge) (sym now) (let up = edge_grows s x six in let old = h.edge in omega (arith, up, old));
      }

      taken_still : IsTaken start s place begun w → IsTaken start s place begun v
      taken_still t = record {
        other = t.other;
        low = t.low;
        was = t.was;
        now = subst (λ (y : SixBooks). spent t.other (slice_get (send_of s y).marks place) ≡ true) (sym now) ((ask_as_far s x six).spent_so t.other place t.now);
      }

      open_before : (written_by s v).aborted ≡ false → (written_by s v).owner ≡ None → ((written_by s w).aborted ≡ false) × ((written_by s w).owner ≡ None)
      open_before goes owner = ask_open s x six (subst (λ (y : SixBooks). (send_of s y).aborted ≡ false) now goes) (subst (λ (y : SixBooks). (send_of s y).owner ≡ None) now owner)

      -- what was left is left still, by a step that doesn't ask for bytes of the stream
      left_on : (steps later : List Note) (e f : PathEnd) → last_on_standby s false later ≡ last_on_standby s false steps → f.sending.shut ≡ e.sending.shut → IsLeft start s place steps begun w e → IsLeft start s place later begun v f
      left_on steps later e f standing same (left_by.standby is) = left_by.standby (standing ∙ is)
      left_on steps later e f standing same (left_by.taken is) = left_by.taken (taken_still is)
      left_on steps later e f standing same (left_by.shut is edge) = left_by.shut (same ∙ is) edge

  module _ (w : WorldState C) (g : Going w) (actor : ℕ) (c : ActorCrew C) (x : Ask) (there : slice_get w.crew actor ≡ Some c) (asking : member_asks k c.member ≡ Some x) where
    abbrev later : WorldState C
    later = asked k actor (Some x) c w

    abbrev note : Note
    note = note_of w.books c.pass x

    -- another actor's step
    other_step : (actor ≡ 2 + number → ⊥) → Going later
    other_step apart = record {
      sound = sound_asked w g.sound actor c x there asking;
      path = g.path;
      here = record { crew = g.here.crew; there = set_other w.crew actor (crew_after k x w.books c) (2 + number) (λ same. apart (sym same)) ∙ g.here.there; is = g.here.is };
      more = g.more;
      list_is = g.list_is;
      why = λ free goes owner refused.
          let was = open_before w g.sound actor c x there asking goes owner in
          left_on w g.sound actor c x there asking g.more g.more (end_at s g.path) (end_at s g.path) refl refl (g.why free was.0 was.1 refused);
    }

    -- the path's own
    module _ (is : actor ≡ 2 + number) where
      same_crew : c ≡ g.here.crew
      same_crew = same_Some c g.here.crew (sym there ∙ ap (slice_get w.crew) is ∙ g.here.there)

      own : c.member ≡ Path g.path
      own = ap (λ (y : ActorCrew C). y.member) same_crew ∙ g.here.is

      numbered : path_of g.path ≡ number
      numbered = let named = (subst (IsNamed k actor) own (g.sound.known.named actor c there)).0 in omega (arith, named, is)

      abbrev reply : Reply
      reply = answer_to w.books x

      first_asks : (ds : List Duty) → g.path.agenda ≡ ds → asks_first k ds g.path ≡ Some x → (d : Duty) × (rest : List Duty) × (g.path.agenda ≡ d ∷ rest) × (ask_for k d g.path ≡ x)
      first_asks [] at asks = cc
      first_asks (d ∷ rest) at asks = (d, rest, at, same_Some (ask_for k d g.path) x asks)

      duty : (d : Duty) × (rest : List Duty) × (g.path.agenda ≡ d ∷ rest) × (ask_for k d g.path ≡ x)
      duty = first_asks g.path.agenda refl (subst (λ (m : Actor C). member_asks k m ≡ Some x) own asking)

      abbrev next : PathState C
      next = takes k reply g.path

      standing : (b : Bool) → asks_grant s x ≡ b → last_on_standby s false (g.more ++ note ∷ []) ≡ (if b then is_standby x else last_on_standby s false g.more)
      standing b at = last_more s false g.more note ∙ ap (λ (c : Bool). if c then is_standby x else last_on_standby s false g.more) at

      refusing : (b : Bool) → asks_grant s x ≡ b → last_refused s false (g.more ++ note ∷ []) ≡ (if b then is_no_grant reply else last_refused s false g.more)
      refusing b at = refused_more s false g.more note ∙ ap (λ (c : Bool). if c then is_no_grant reply else last_refused s false g.more) at

      asked_now : asks_grant s x ≡ true → AsksNow k s x reply g.path next
      asked_now at = subst (λ (y : Ask). AsksNow k s y reply g.path next) duty.3 (asks_now k s duty.0 duty.1 reply g.path duty.2 (ap (asks_grant s) duty.3 ∙ at))

      why_then : is_free number (slice_get (written_by s begun).marks place) ≡ true → (written_by s later).aborted ≡ false → (written_by s later).owner ≡ None → last_refused s false (g.more ++ note ∷ []) ≡ true
          → (b : Bool) → asks_grant s x ≡ b → IsLeft start s place (g.more ++ note ∷ []) begun later (end_at s next)
      why_then free goes owner refused false at =
          let was = open_before w g.sound actor c x there asking goes owner in
          left_on w g.sound actor c x there asking g.more (g.more ++ note ∷ []) (end_at s g.path) (end_at s next) (standing false at)
          (shut_stays k s duty.0 duty.1 reply g.path duty.2 (ap (asks_grant s) duty.3 ∙ at)) (g.why free was.0 was.1 (sym (refusing false at) ∙ refused))
      why_then free goes owner refused true at = ⊎_elim
          (λ taken. left_by.taken (taken_still w g.sound actor c x there asking taken))
          (λ still. reason still)
          (taken_or w g.sound (low_at w g.sound number g.path g.here) free)
        where
          a : AsksNow k s x reply g.path next
          a = asked_now at

          asks_so : x ≡ asks.Send s (calls.Grant number a.max a.stands)
          asks_so = a.is ∙ ap (λ n. asks.Send s (calls.Grant n a.max a.stands)) numbered

          found : (why : Why) × (decision number a.max a.stands (written_by s w) ≡ Err why) × (reply ≡ replies.Send (send_replies.NoGrant why (end_of (written_by s w))))
          found = refusal_of s x number a.max a.stands (books_in w.books) asks_so (sym (refusing true at) ∙ refused)

          standby_so : is_standby x ≡ a.stands
          standby_so = ap is_standby asks_so

          reason : is_free number (slice_get (written_by s w).marks place) ≡ true → IsLeft start s place (g.more ++ note ∷ []) begun later (end_at s next)
          reason still =
              let was = open_before w g.sound actor c x there asking goes owner in
              ⊎_elim (λ stood. left_by.standby (standing true at ∙ standby_so ∙ stood))
              (λ shut. left_by.shut (a.knows found.0 (end_of (written_by s w)) found.2 ∙ shut.0) (let old = g.sound.edge in let past = shut.1 in omega (arith, old, past)))
              (why_refused number a.max place a.stands (written_by s w) g.sound.whole was.0 was.1 still found.0 found.1)

      own_step : Going later
      own_step = record {
        sound = sound_asked w g.sound actor c x there asking;
        path = next;
        here = record {
          crew = crew_after k x w.books c;
          there = ap (slice_get (set w.crew actor (crew_after k x w.books c))) (sym is) ∙ set_same w.crew actor (crew_after k x w.books c) c there;
          is = ap (member_takes k reply) own;
        };
        more = g.more ++ note ∷ [];
        list_is = ap (λ xs. xs ++ note ∷ []) (ap (λ (y : ActorCrew C). y.list) same_crew ∙ g.list_is) ∙ append_assoc before g.more (note ∷ []);
        why = λ free goes owner refused. why_then free goes owner refused (asks_grant s x) refl;
      }

    going_asked : Going later
    going_asked = ⊎_elim own_step other_step (cases_eq actor (2 + number))

  first_going : (p : PathState C) → IsPathAt number begun p → IsWhole (written_by s begun) → Going begun
  first_going p here whole = record {
    sound = record {
      known = always_known k start since;
      right = marks_are_right k start since;
      whole = whole;
      far = as_far_same (written_by s begun).marks;
      long = crew_long k start since;
      edge = le_refl _;
    };
    path = p;
    here = here;
    more = [];
    list_is = ap notes_or (sym here.there) ∙ sym (append-nil _);
    why = λ free goes owner refused. absurd (true≢false (sym refused));
  }

pub some_crew : {X : Type 0} (i : ℕ) (xs : List X) → i < length xs → (x : X) × (slice_get xs i ≡ Some x)
some_crew i [] low = absurd (omega (arith, low))
some_crew zero (x ∷ xs) low = (x, refl)
some_crew (suc i) (x ∷ xs) low = some_crew i xs (omega (arith, low))

module _ {C : Type 0} (k : Codec C) where
  always_whole : (start : Start) (turns : List Turn) (s : Side) → IsWhole (written_by s (reached k start turns))
  always_whole start turns s = (books_by_turns k (λ six. AreRightly six × ((t : Side) → IsWhole (send_of t six)))
      (λ x six h. (ask_rightly x six h.0, λ t. ask_whole t x six (h.0 t) (h.1 t))) turns (opened_world start) (elim [ A ↦ λ place. refl | B ↦ λ place. refl ], elim [ A ↦ refl | B ↦ refl ])).1 s

  module _ (start : Start) (since : List Turn) (order : List ℕ) (number : ℕ) (p : PathState C) (here : IsPathAt number (after_steps k order (reached k start since)) p) where
    abbrev turns : List Turn
    turns = map (λ actor. Turn.Step actor) order

    low : number < length start.paths
    low = number_low k start (since ++ turns) number p (subst (λ (u : WorldState C). IsPathAt number u p) (sym (run_append k since turns (opened_world start))) here)

    pub first_there : (p : PathState C) × IsPathAt number (reached k start since) p
    first_there =
        let long = crew_long k start since in let few = low in
        let found = some_crew (2 + number) (reached k start since).crew (omega (arith, long, few)) in by found.0 found.1 found.0.member refl ((always_known k start since).named (2 + number) found.0 found.1)
      where
        by : (c : ActorCrew C) → slice_get (reached k start since).crew (2 + number) ≡ Some c → (m : Actor C) → c.member ≡ m → IsNamed k (2 + number) c.member → (p : PathState C) × IsPathAt number (reached k start since) p
        by c there (Path q) is named = (q, record { crew = c; there = there; is = is })
        by c there (App a) is named = absurd (let least : 2 + number < 2 = subst (IsNamed k (2 + number)) is named in omega (arith, least))

    module _ (s : Side) (place : ℕ) where
      g : Going k start since s number place (after_steps k order (reached k start since))
      g = steps_so k (Going k start since s number place) (λ w h actor c x there asking. going_asked k start since s number place w h actor c x there asking) order (reached k start since)
          (first_going k start since s number place first_there.0 first_there.1 (always_whole start since s))

      same_path : g.path ≡ p
      same_path =
          let same : g.here.crew ≡ here.crew = same_Some g.here.crew here.crew (sym g.here.there ∙ here.there) in
          let one : Path g.path ≡ Path p = sym g.here.is ∙ ap (λ (y : ActorCrew C). y.member) same ∙ here.is in cc

      steps_are : steps_since (2 + number) (reached k start since) (after_steps k order (reached k start since)) ≡ g.more
      steps_are = ap (λ xs. drop (length (notes_at (2 + number) (reached k start since).crew)) xs) (ap notes_or g.here.there ∙ g.list_is) ∙ drop-append_seam (notes_at (2 + number) (reached k start since).crew) g.more

  pub who_asks_is_refused : WhoAsksIsRefused k
  who_asks_is_refused start since order begins number p here over s may goes owner place free =
      let w : WorldState C = after_steps k order (reached k start since) in
      let h = g start since order number p here s place in
      let done = subst (λ (m : Actor C). AreDoneAsking m (steps_since (2 + number) (reached k start since) w)) here.is ((grants_are_done k start (reached k start since) order begins).each (2 + number) here.crew here.there) over s may in
      let steps = steps_are start since order number p here s place in
      subst (λ (e : PathState C). IsLeft start s place (steps_since (2 + number) (reached k start since) w) (reached k start since) w (end_at s e)) (same_path start since order number p here s place)
      (subst (λ (notes : List Note). IsLeft start s place notes (reached k start since) w (end_at s h.path)) (sym steps) (h.why free goes owner (ap (last_refused s false) (sym steps) ∙ done)))
