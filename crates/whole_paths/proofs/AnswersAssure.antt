-- What comes to an end is answered with its window.
use Rattle.std.proofs.Common.{◌≡◌, refl, sym, subst, ap, ◌∙◌, ◌⊎◌, inl, inr, ⊎_elim, ℕ, ◌+◌, ◌-◌, ◌<◌, ◌≤◌, arith, Bool, true, false, true≢false, Option, Some, IfSome, List, [], ◌∷◌, ◌++◌, append-nil, append_assoc}
use Rattle.std.specs.List.{list_any}
use Rattle.std.proofs.lemmas.Bool.{both_ways, cases_lt}
use Rattle.sides.specs.declared.side.Side.{Side}
use Rattle.sides.specs.declared.side.Side.TheVariants.{B}
use Rattle.sides.specs.Side.{peer}
use Rattle.path_segments.specs.Spelled.{PlainSegment}
use Rattle.subflow_tcp.specs.States.{is_dead}
use Rattle.actor_desk.specs.Books.{books_in}
use Rattle.actor_desk.specs.Desk.{SixBooks}
use Rattle.path_agenda.specs.declared.duty.Duty.{Duty}
use Rattle.path_core.specs.Looking.{first_sends, segment_sent}
use Rattle.path_core.specs.State.{PathState, end_at}
use Rattle.path_core.specs.Values.{Carried, values}
use Rattle.world_laws.specs.Members.{HoldsOfKind}
use Rattle.world_laws.specs.Openings.{PathPlan, Start}
use Rattle.world_laws.specs.Promises.{written_by}
use Rattle.world_laws.specs.RoundDone.{reached}
use Rattle.world_laws.specs.Worlds.{WorldState, Turn, after_turn, all_over}
use Rattle.world_laws.specs.Writes.{side_of}
use Rattle.whole_paths.specs.AnswersAssure.{AnswersAssure, EachAnswerAssures, WhatComesOpensTheWindow}
use Rattle.whole_paths.specs.Answered.{AcksGoFirst, HasAnswered, IsBareAck, IsDone}
use Rattle.whole_paths.specs.Answered.{IsBareAck as bare_ack}
use Rattle.whole_paths.specs.BareSegments.{IsBareFrom}
use Rattle.whole_paths.specs.ClearRounds.{NoneIsHarmed}
use Rattle.whole_paths.specs.Delivery.{IsAllThere}
use Rattle.whole_paths.specs.Finish.{IsPathAt, is_harmed}
use Rattle.whole_paths.specs.Mild.{is_harsh}
use Rattle.whole_paths.specs.Mending.{IsBegunTurn}
use Rattle.whole_paths.specs.Offered.{AsksFirst, OffersUpTo}
use Rattle.whole_paths.specs.OnePathScripts.{BeginsWithOnePath}
use Rattle.whole_paths.specs.OpenCourses.{IsNow, IsOpenAfter}
use Rattle.whole_paths.specs.Owed.{IsToRefuse}
use Rattle.whole_paths.specs.Owed.{IsToRefuse as refuse}
use Rattle.whole_paths.specs.SegmentRounds.{Rounds, StaysOpen, read_after}
use Rattle.whole_paths.specs.Straying.{IsOpenFrom}
use Rattle.whole_paths.specs.ToldStays.{ToldStays}
use Rattle.whole_paths.specs.WindowsAssured.{IsAssured}
use Rattle.whole_paths.specs.WindowsAssured.IsAssured.{heard, flies}
use Rattle.whole_paths.proofs.Clearing.{Clears, MemberClears, each_clears, never_refuses}
use Rattle.whole_paths.proofs.Delivery.{what_is_there_stays}
use Rattle.whole_paths.proofs.Directions.{clock, edge_up, past_is_there}
use Rattle.whole_paths.proofs.Offered.{sizes_stay}
use Rattle.whole_paths.proofs.OpenTurns.{begun}
use Rattle.whole_paths.proofs.Owing.{copies_are_answered}
use Rattle.whole_paths.proofs.Paying.{StillOwed, Turned, TurnedTo, refusing, sends_on, turned_to}
use Rattle.whole_paths.proofs.Paying.{StillOwed as owing}
use Rattle.whole_paths.proofs.RecordWaits.{last, path_is}
use Rattle.whole_paths.proofs.RecordsWell.{by_turn, holds_p, unbroken_p}
use Rattle.whole_paths.proofs.RoundSteps.{Between, between, open_first, open_last, silent}
use Rattle.whole_paths.proofs.Saying.{AllSpeak, Speaks, ToSend, duty_speaks, resets_by}
use Rattle.whole_paths.proofs.Saying.{Speaks as spoken}
use Rattle.whole_paths.proofs.ToldSoon.{not_opening}
use Rattle.whole_paths.proofs.ToldStays.{who_is_told_stays_told}
use Rattle.whole_paths.proofs.WindowRoom.{each_window_has_room, one_path_is_roomy}
use Rattle.whole_paths.proofs.WindowsAssured as assured
use Rattle.whole_paths.proofs.WindowsAssured.{four_rounds_assure, windows_are_assured}

-- ---- an answer

module _ (start : Start) (plan : PathPlan) (one : BeginsWithOnePath start plan) (turns : List Turn) (turn : Turn) (before : IsNow (IsOpenFrom B) (reached values start turns))
    (after : IsNow (IsOpenFrom B) (after_turn values turn (reached values start turns))) (s : Side) (clear : (end_at (peer s) before.path).modes.clear ≡ true) where
  abbrev w : WorldState Carried
  w = reached values start turns

  abbrev v : WorldState Carried
  v = after_turn values turn w

  abbrev p : PathState Carried
  p = before.path

  abbrev q : PathState Carried
  q = after.path

  abbrev t : Side
  t = peer s

  abbrev six : SixBooks
  six = books_in w.books

  abbrev later : SixBooks
  later = books_in v.books

  turned : Turned p q
  turned = by_turn start one.mild turns turn before after TurnedTo (turned_to values w turn 2 before.here.crew before.here.there)

  acks_first : AcksGoFirst p
  acks_first = holds_p start one.mild turns turn before after AcksGoFirst (copies_are_answered values start turns).first

  clears : (u : Side) → Clears u p.agenda (end_at u p)
  clears = (subst MemberClears before.here.is ((each_clears values start turns).each 2 before.here.crew before.here.there)) before.is_open.first

  never_refused : IsToRefuse t p.agenda → ⊥
  never_refused (refuse.refuses rest is) = true≢false (sym (ap (λ ds. list_any is_harsh ds) is) ∙ (unbroken_p start one.mild turns turn before after before.is_open.first).duties)
  never_refused (refuse.answers rest is) = never_refuses p t clears (before.is_open.living t) rest is

  -- what the end sends is no reset
  pub no_reset : (x : ToSend) → first_sends p.agenda p ≡ Some x → x.from ≡ t → (d : Duty) (others : List Duty) → p.agenda ≡ d ∷ others → sends_on d ≡ true → side_of d ≡ t → (segment_sent p x).rst ≡ false
  no_reset x sends own d others first on side = by (resets_by d) refl
    where
      speaks_so : Speaks (end_at t p) (segment_sent p x) → (segment_sent p x).rst ≡ false
      speaks_so (spoken.acks acks rst) = rst
      speaks_so (spoken.syns state none) = absurd (not_opening (end_at t p).tcp.state (before.is_open.past t) state)

      by : (b : Bool) → resets_by d ≡ b → (segment_sent p x).rst ≡ false
      by true may = absurd (never_refused (refusing d t others p.agenda on may side first))
      by false none = speaks_so (subst (λ u. Speaks (end_at u p) (segment_sent p x)) own (subst (λ (o : Option ToSend). AllSpeak o p) (sym (ap (λ ds. first_sends ds p) first) ∙ sends) (duty_speaks d p none)))

  module _ (due : (end_at t p).tcp.due.ack ≡ true) (edge : ℕ) (offered : OffersUpTo six t (edge + 31) p) where
    abbrev Goes : Type 0
    Goes = ((end_at t q).tcp.due.ack ≡ true) ⊎ ((is_harmed t p q ≡ true) ⊎ IsAssured later s edge (p.clock + 400) q)

    same_goes : q ≡ p → Goes
    same_goes same = inl (subst (λ (y : PathState Carried). (end_at t y).tcp.due.ack ≡ true) (sym same) due)

    is_bare : (x : PlainSegment) → IsBareAck p.profile t (end_at t p) x → x.rst ≡ false → IsBareFrom t p x
    is_bare x (bare_ack.resets is) rst = absurd (true≢false (sym is ∙ rst))
    is_bare x (bare_ack.acks is) rst = record {
      position = ap (λ (y : PlainSegment). y.position) is;
      rst = rst;
      syn = ap (λ (y : PlainSegment). y.syn) is;
      fin = ap (λ (y : PlainSegment). y.fin) is;
      payload = ap (λ (y : PlainSegment). y.payload) is;
    }

    is_sent : (x : ToSend) → first_sends p.agenda p ≡ Some x → x.from ≡ t → (d : Duty) (others : List Duty) → p.agenda ≡ d ∷ others → sends_on d ≡ true → side_of d ≡ t → Goes
    is_sent x sends own d others first on side = goes (no_reset x sends own d others first on side)
      where
        goes : (segment_sent p x).rst ≡ false → Goes
        goes rst = ⊎_elim same_goes (λ on. inr on) (assured.sent_so start plan one turns turn before after s clear (each_window_has_room start plan turns one p before.here before.is_open s) x sends own
            (is_bare (segment_sent p x) (subst (λ (o : Option ToSend). IfSome o (λ y. y.from ≡ t → IsBareAck p.profile t (end_at t p) (segment_sent p y))) sends (acks_first t (before.is_open.living t) due) own) rst) edge offered)

    owed_goes : StillOwed t p q → Goes
    owed_goes (owing.keeps d others first other h) = inl (h due)
    owed_goes (owing.has_died gone) = absurd (both_ways (is_dead (end_at t q).tcp.state) (after.is_open.living t) gone)
    owed_goes (owing.is_sent d others first on side x sends own) = is_sent x sends own d others first on side
    owed_goes (owing.is_done is) = absurd (both_ways (end_at t p).tcp.due.ack ((holds_p start one.mild turns turn before after HasAnswered (copies_are_answered values start turns).each is t (before.is_open.living t)).ack) due)
    owed_goes (owing.rests same) = same_goes same

  answers_assure : AnswersAssure s six later p q
  answers_assure due edge offered = owed_goes due edge offered (turned.owing t)

  offers_stay : (at : ℕ) → OffersUpTo six t at p → OffersUpTo later t at q
  offers_stay at h = assured.offers_on start plan one turns turn before after s clear t at h

pub each_answer_assures : EachAnswerAssures
each_answer_assures start plan turns turn one h s clear =
    subst (λ (u : WorldState Carried). (a : IsNow (IsOpenFrom B) u) → AnswersAssure s (books_in (reached values start turns).books) (books_in u.books) h.before.path a.path) (sym (last start one.mild turns turn))
    (λ a. answers_assure start plan one turns turn h.before a s clear) h.after

each_offer_stays : (start : Start) (plan : PathPlan) (turns : List Turn) (turn : Turn) → BeginsWithOnePath start plan → (h : IsBegunTurn start turns turn) (s : Side) → (end_at (peer s) h.before.path).modes.clear ≡ true
    → (at : ℕ) → OffersUpTo (books_in (reached values start turns).books) (peer s) at h.before.path → OffersUpTo (books_in (reached values start (turns ++ turn ∷ [])).books) (peer s) at h.after.path
each_offer_stays start plan turns turn one h s clear at =
    subst (λ (u : WorldState Carried). (a : IsNow (IsOpenFrom B) u) → OffersUpTo (books_in (reached values start turns).books) (peer s) at h.before.path → OffersUpTo (books_in u.books) (peer s) at a.path) (sym (last start one.mild turns turn))
    (λ a. offers_stay start plan one turns turn h.before a s clear at) h.after

-- what is assured by a tick is so by a later one
pub assured_later : (six : SixBooks) (s : Side) (edge before later : ℕ) (p : PathState Carried) → before ≤ later → IsAssured six s edge before p → IsAssured six s edge later p
assured_later six s edge before later p low (heard is) = heard is
assured_later six s edge before later p low (flies h) = flies (record {
  position = h.position;
  comes = record {
    copy = h.comes.copy;
    there = h.comes.there;
    at = h.comes.at;
    bare = h.comes.bare;
    next = h.comes.next;
    mapping = h.comes.mapping;
    others = h.comes.others;
    says = h.comes.says;
    low = h.comes.low;
    wide = h.comes.wide;
    soon = (let soon = h.comes.soon in omega (arith, soon, low));
  };
  overtakers = h.overtakers;
  offered = h.offered;
})

-- ---- by turns without a harm

module _ (start : Start) (plan : PathPlan) (one : BeginsWithOnePath start plan) (s : Side) (edge : ℕ) (place : ℕ) where
  abbrev far : Side
  far = peer s

  abbrev at : List Turn → WorldState Carried
  at turns = reached values start turns

  abbrev Offers : List Turn → PathState Carried → Type 0
  Offers turns y = OffersUpTo (books_in (at turns).books) far (edge + 31) y

  -- nothing more came yet; or it is to be answered; or the answer is on its way; or all of the stream is there
  data Answers (turns : List Turn) (y : PathState Carried) : Type 0 where
    quiet_yet : (end_at far y).tcp.recv.edge ≡ place → Offers turns y → Answers turns y
    owes_it : (end_at far y).tcp.due.ack ≡ true → Offers turns y → Answers turns y
    is_told : IsAssured (books_in (at turns).books) s edge (y.clock + 400) y → Answers turns y
    all_came : IsAllThere s (at turns) → Answers turns y

  module _ (turns : List Turn) (turn : Turn) (before : IsOpenAfter start turns) (after : IsOpenAfter start (turns ++ turn ∷ [])) (none : is_harmed far before.path after.path ≡ false) where
    abbrev old : PathState Carried
    old = before.path

    abbrev new : PathState Carried
    new = after.path

    abbrev h : IsBegunTurn start turns turn
    h = begun start turns turn (record { mild = one.mild; before = before; after = after })

    told_stays : ToldStays s old new
    told_stays = who_is_told_stays_told start turns turn (one_path_is_roomy start plan one) h s

    clock_up : old.clock ≤ new.clock
    clock_up = clock start (one_path_is_roomy start plan one) turns turn h s

    offers_on : Offers turns old → Offers (turns ++ turn ∷ []) new
    offers_on = each_offer_stays start plan turns turn one h s (before.is_open.clear far) (edge + 31)

    answers_on : Answers turns old → Answers (turns ++ turn ∷ []) new
    answers_on (quiet_yet same offers) = ⊎_elim
        (λ rises. ⊎_elim (λ due. owes_it due (offers_on offers)) (λ past. all_came (past_is_there start one.mild (turns ++ turn ∷ []) new after.here s after.is_open past)) (told_stays.more rises))
        (λ few. quiet_yet (let up = edge_up start (one_path_is_roomy start plan one) turns turn h s far in omega (arith, few, up, same)) (offers_on offers))
        (cases_lt (end_at far old).tcp.recv.edge (end_at far new).tcp.recv.edge)
    answers_on (owes_it due offers) = ⊎_elim
        (λ still. owes_it still (offers_on offers))
        (λ rest. ⊎_elim
        (λ harmed. absurd (both_ways (is_harmed far old new) none harmed))
        (λ is. is_told (assured_later (books_in (at (turns ++ turn ∷ [])).books) s edge (old.clock + 400) (new.clock + 400) new (let up = clock_up in omega (arith, up)) is))
        rest)
        (each_answer_assures start plan turns turn one h s (before.is_open.clear far) due edge offers)
    answers_on (is_told is) = is_told (assured_later (books_in (at (turns ++ turn ∷ [])).books) s edge (old.clock + 400) (new.clock + 400) new (let up = clock_up in omega (arith, up))
        ((windows_are_assured start plan turns turn one h s (before.is_open.clear far)).comes edge (old.clock + 400) is))
    answers_on (all_came all) = all_came (what_is_there_stays start turns (turn ∷ []) one.mild s all)

  answers_then : (turns more : List Turn) → StaysOpen start turns more → NoneIsHarmed start far turns more → (p q : PathState Carried) → IsPathAt 0 (at turns) p → IsPathAt 0 (at (turns ++ more)) q
      → Answers turns p → Answers (turns ++ more) q
  answers_then turns [] stays none p q here there so =
      subst (λ ts. Answers ts q) (sym (append-nil turns)) (subst (Answers turns) (path_is (at turns) p q here (subst (λ ts. IsPathAt 0 (at ts) q) (append-nil turns) there)) so)
  answers_then turns (turn ∷ more) stays none p q here there so =
      let next = open_first start (turns ++ turn ∷ []) more stays.1 in
      subst (λ ts. Answers ts q) (append_assoc turns (turn ∷ []) more)
      (answers_then (turns ++ turn ∷ []) more stays.1 none.1 next.path q next.here (subst (λ ts. IsPathAt 0 (at ts) q) (sym (append_assoc turns (turn ∷ []) more)) there)
      (answers_on turns turn stays.0 next (none.0 stays.0 next) (subst (Answers turns) (path_is (at turns) p stays.0.path here stays.0.here) so)))

module _ (start : Start) (plan : PathPlan) (v a u more : List Turn) (one : BeginsWithOnePath start plan) (is : a ≡ v ++ more) (stays : StaysOpen start v more) (over_v : all_over (reached values start v).crew ≡ true)
    (over_a : all_over (reached values start a).crew ≡ true) (s : Side) (none : NoneIsHarmed start (peer s) v more) (p q : PathState Carried) (here : IsPathAt 0 (reached values start v) p) (there : IsPathAt 0 (reached values start a) q)
    (more_came : (end_at (peer s) p).tcp.recv.edge < (end_at (peer s) q).tcp.recv.edge) (rounds : Rounds start 4 a u) where
  abbrev goal : ℕ
  goal = read_after start s v + (start.buffer - 31)

  offers_first : OffersUpTo (books_in (reached values start v).books) (peer s) (goal + 31) p
  offers_first = record {
    taken = (let size = sizes_stay values start v (peer s) in let room = one.buffer in omega (arith, size, room));
    offered = inr (subst (AsksFirst (peer s)) (sym (silent start v p over_v here)) tt);
  }

  answered : Answers start plan one s goal (end_at (peer s) p).tcp.recv.edge a q
  answered = subst (λ ts. Answers start plan one s goal (end_at (peer s) p).tcp.recv.edge ts q) (sym is)
      (answers_then start plan one s goal (end_at (peer s) p).tcp.recv.edge v more stays none p q here (subst (λ ts. IsPathAt 0 (reached values start ts) q) is there) (quiet_yet refl offers_first))

  abbrev Opens : Type 0
  Opens = IsAllThere s (reached values start u) ⊎ (goal ≤ (written_by s (reached values start u)).edge)

  open_a : IsOpenAfter start a
  open_a = subst (IsOpenAfter start) (sym is) (open_last start v more stays)

  opens : Answers start plan one s goal (end_at (peer s) p).tcp.recv.edge a q → Opens
  opens (quiet_yet same offers) = absurd (omega (arith, same, more_came))
  opens (owes_it due offers) = absurd (both_ways (end_at (peer s) q).tcp.due.ack
      ((subst (HoldsOfKind (λ app. Unit {0}) HasAnswered) there.is ((copies_are_answered values start a).each 2 there.crew there.there) (IsDone.over (silent start a q over_a there)) (peer s)
      (subst (λ (z : PathState Carried). is_dead (end_at (peer s) z).tcp.state ≡ false) (path_is (reached values start a) open_a.path q open_a.here there) (open_a.is_open.living (peer s)))).ack) due)
  opens (is_told assured_now) = inr (four_rounds_assure start plan a u one rounds s q there goal assured_now)
  opens (all_came all) = inl (subst (λ ts. IsAllThere s (reached values start ts)) (sym b.is) (what_is_there_stays start a b.more one.mild s all))
    where
      b : Between start a u
      b = between start 3 a u rounds

pub what_comes_opens_the_window : WhatComesOpensTheWindow
what_comes_opens_the_window start plan v a u more one is stays over_v over_a s none p q here there came rounds =
    opens start plan v a u more one is stays over_v over_a s none p q here there came rounds (answered start plan v a u more one is stays over_v over_a s none p q here there came rounds)
