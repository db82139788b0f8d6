-- An end knows of no more than its side's book takes, but for the DATA_FIN, and tells no more.
use Rattle.std.proofs.Common.{◌≡◌, refl, sym, subst, ◌∙◌, ⊎_elim, ℕ, suc, ◌+◌, ◌-◌, ◌≤◌, arith, Bool, true, false, if◌then◌else◌, Option, Some, None, List, [], ◌∷◌, ◌++◌, take}
use Rattle.std.proofs.lemmas.Bool.{both_ways}
use Rattle.std.proofs.lemmas.Option.{same_Some}
use Rattle.sides.specs.declared.side.Side.{Side}
use Rattle.sides.specs.declared.side.Side.TheVariants.{A, B}
use Rattle.sides.specs.Side.{peer}
use Rattle.reassembly_book.specs.declared.call.ReassemblyCall.{ReassemblyCall}
use Rattle.reassembly_book.specs.declared.call.ReassemblyReply.{ReassemblyReply}
use Rattle.reassembly_book.specs.State.{Arriving, filled, received}
use Rattle.reassembly_book.specs.Steps as arriving
use Rattle.reassembly_book.specs.Steps.{fin_clash, is_end}
use Rattle.subflow_tcp.specs.States.{is_dead}
use Rattle.actor_desk.specs.declared.ask.Ask.{Ask}
use Rattle.actor_desk.specs.declared.ask.Note.{Note}
use Rattle.actor_desk.specs.declared.ask.Reply.{Reply}
use Rattle.actor_desk.specs.Books.{books_in}
use Rattle.actor_desk.specs.Desk.{SixBooks, after_ask, reassembly_of, reply_of}
use Rattle.actor_desk.specs.Words.{is_nil}
use Rattle.path_agenda.specs.declared.duty.Duty.{Duty}
use Rattle.path_core.specs.Duties.{answered, ask_for}
use Rattle.path_core.specs.End.{PathEnd}
use Rattle.path_core.specs.Standing.{after_ack_out}
use Rattle.path_core.specs.Start.{waiting_path}
use Rattle.path_core.specs.State.{PathState, end_at, with_agenda}
use Rattle.path_core.specs.Steps.{asks_of, begins_turn, next_round, takes}
use Rattle.path_core.specs.Values.{Carried, values}
use Rattle.world_laws.specs.Asking.{IsAt}
use Rattle.world_laws.specs.Openings.{PathPlan, Start, opened_world, path_begins}
use Rattle.world_laws.specs.RoundDone.{reached}
use Rattle.world_laws.specs.Worlds.{Turn, WorldState, after_turn}
use Rattle.world_laws.specs.Writes.{side_of}
use Rattle.world_laws.proofs.Rounds.Lifting.{opened_lifted}
use Rattle.world_laws.proofs.Weaving.WholeRounds.{run_append}
use Rattle.world_laws.proofs.Writes.Asks.{asks_no_more}
use Rattle.world_laws.proofs.Writes.Steps.{Lasts, begins_lasts, settled_lasts}
use Rattle.whole_paths.specs.Between.{EachPathBetween}
use Rattle.whole_paths.specs.Finish.{IsPathAt}
use Rattle.whole_paths.specs.Mild.{IsMildStart}
use Rattle.whole_paths.specs.Offered.{Offers}
use Rattle.whole_paths.specs.OfferedTaken.{TellsWhatIsTaken, WhatIsToldIsTaken}
use Rattle.whole_paths.specs.ToldEdges.{ToldOn, offer, told}
use Rattle.whole_paths.specs.ToldEdges.{ToldOn as told_on}
use Rattle.whole_paths.proofs.ByTurns.{Of, OfBooked, each_booked}
use Rattle.whole_paths.proofs.Offered.{Knows, Same, answered_knows, edge_up, fair_so, other_same, own_knows, passed_same, same_offers, same_so}
use Rattle.whole_paths.proofs.Offered.{Knows as knows}
use Rattle.whole_paths.proofs.OpenCourses.{IsFirstPath, each_first}
use Rattle.whole_paths.proofs.Settling.{sides}
use Rattle.whole_paths.proofs.SoundBooks.{BooksAreSound, BooksHold, sound_asked, sound_first, sound_holds}
use Rattle.whole_paths.proofs.ToldEdges.{told_low, what_is_told_goes_on}
use Rattle.world_laws.specs.declared.member.Member.TheVariants.{Path}
use Rattle.world_laws.specs.Actors.{ActorCrew}
use Rattle.whole_paths.specs.Brought.{IsToReset}
use Rattle.whole_paths.specs.Mild.{IsNeverBroken}
use Rattle.whole_paths.proofs.Breaking.{never_breaks}
use Rattle.whole_paths.proofs.Paying.{Turned, TurnedTo, turned_to}
use Rattle.whole_paths.proofs.Straying.{never_resets}
use Rattle.whole_paths.proofs.ToldEdges.{SameTold}
use Rattle.whole_paths.proofs.ToldEdges.{AllSame as AllTold, same_lasts as told_lasts}
use Rattle.whole_paths.proofs.Waiting.{gone_stays}
use Rattle.whole_paths.proofs.Turns.{TellsSteps, books_by_turns, paths_between}

-- ---- a reassembly book

-- what is answered to an end that asks what is to be acknowledged is no more than the book takes, but for the DATA_FIN
abbrev IsModestOf : Arriving → ReassemblyReply → Type 0
IsModestOf b (ReassemblyReply.Ack next window) = next + window ≤ suc (arriving.edge b)
IsModestOf b _ = Unit {0}

abbrev IsModest : Side → SixBooks → Reply → Type 0
IsModest s six (Reply.Reassembly r) = IsModestOf (reassembly_of s six) r
IsModest s six _ = Unit {0}

modest_book : (b : Arriving) → received b ≤ arriving.edge b → arriving.next_wanted b + arriving.window b ≤ suc (arriving.edge b)
modest_book b low = by (is_end b.known_end (received b))
  where
    by : (c : Bool) → received b + (if c then 1 else 0) + (arriving.edge b - received b) ≤ suc (arriving.edge b)
    by true = omega (arith, low)
    by false = omega (arith, low)

either_modest : (b : Arriving) (c : Bool) (r q : ReassemblyReply) → IsModestOf b r → IsModestOf b q → IsModestOf b (if c then r else q)
either_modest b true r q x y = x
either_modest b false r q x y = y

modest_call : (b : Arriving) (call : ReassemblyCall) → received b ≤ arriving.edge b → IsModestOf b (arriving.reply_to b call)
modest_call b (ReassemblyCall.Place at bytes) low = either_modest b (arriving.reaches_past (arriving.edge b) at bytes) _ _ tt (placed (arriving.clash b.known_end at bytes))
  where
    placed : (o : Option ℕ) → IsModestOf b (arriving.placed_reply o at bytes b)
    placed None = tt
    placed (Some e) = tt
modest_call b (ReassemblyCall.Fin at) low = by (fin_clash b.known_end at b)
  where
    by : (o : Option ℕ) → IsModestOf b (arriving.fin_reply_by o at)
    by None = tt
    by (Some e) = tt
modest_call b (ReassemblyCall.Read most) low = by b.aborted
  where
    bytes : (xs : List ℕ) → IsModestOf b (arriving.bytes_reply xs b)
    bytes [] = either_modest b (is_end b.known_end b.read) _ _ tt tt
    bytes (x ∷ xs) = tt

    by : (o : Option Bool) → IsModestOf b (arriving.reading o most b)
    by None = bytes (take most (filled b.places))
    by (Some by_peer) = tt
modest_call b ReassemblyCall.AckOut low = modest_book b low
modest_call b (ReassemblyCall.Abort by_peer) low = tt

modest_so : (s : Side) (x : Ask) (six : SixBooks) → IsAt s x → received (reassembly_of s six) ≤ arriving.edge (reassembly_of s six) → IsModest s six (reply_of six x)
modest_so A (Ask.Reassembly A call) six at low = modest_call six.reassembly_a call low
modest_so B (Ask.Reassembly B call) six at low = modest_call six.reassembly_b call low
modest_so A (Ask.Reassembly B call) six at low = cc
modest_so B (Ask.Reassembly A call) six at low = cc
modest_so s (Ask.Send t call) six at low = tt
modest_so s (Ask.Control t call) six at low = tt
modest_so s (Ask.Local step) six at low = tt

-- ---- an end

same_offer : (e f : PathEnd) → Same e f → offer f ≡ offer e
same_offer e f x = (let n = x.next in let w = x.window in omega (arith, n, w))

ack_modest : (n : ℕ) (s : Side) (six : SixBooks) (r : Reply) (e : PathEnd) → IsModest s six r → arriving.edge (reassembly_of s six) ≤ n → offer e ≤ suc n → offer (after_ack_out r e) ≤ suc n
ack_modest n s six (Reply.Reassembly (ReassemblyReply.Ack next window)) e modest up h = omega (arith, modest, up)
ack_modest n s six _ e modest up h = h

knows_modest : (n : ℕ) (s : Side) (six : SixBooks) (r : Reply) (e f : PathEnd) → IsModest s six r → arriving.edge (reassembly_of s six) ≤ n → Knows r e f → offer e ≤ suc n → offer f ≤ suc n
knows_modest n s six r e f modest up (knows.stays x) h = (let same = same_offer e f x in omega (arith, same, h))
knows_modest n s six r e f modest up (knows.asked x) h = (let same = same_offer (after_ack_out r e) f x in let low = ack_modest n s six r e modest up h in omega (arith, same, low))

-- ---- a path, as it becomes another one

pub record Modest (six after : SixBooks) (s : Side) (e f : PathEnd) : Type 0 where
  -- the book's edge never falls, nor what the end knows of it
  pub up : arriving.edge (reassembly_of s six) ≤ arriving.edge (reassembly_of s after)
  pub keeps : (at : ℕ) → at ≤ arriving.edge (reassembly_of s six) → Offers at e → Offers at f
  pub modest : BooksHold six → offer e ≤ suc (arriving.edge (reassembly_of s six)) → offer f ≤ suc (arriving.edge (reassembly_of s after))

abbrev pub ModestOn : SixBooks → SixBooks → List Note → PathState Carried → PathState Carried → Type 0
ModestOn six after steps p q = (s : Side) → Modest six after s (end_at s p) (end_at s q)

abbrev AllSame : PathState Carried → PathState Carried → Type 0
AllSame p q = (s : Side) → Same (end_at s p) (end_at s q)

same_lasts : Lasts AllSame
same_lasts = record {
  agenda = λ ds p s. by s ds p;
  chains = λ p q r x y s. same_so (end_at s p) (end_at s r) ((y s).next ∙ (x s).next) ((y s).window ∙ (x s).window);
  passes = λ d p s. passed_same s d p;
}
  where
    by : (s : Side) (ds : List Duty) (p : PathState Carried) → Same (end_at s p) (end_at s (with_agenda ds p))
    by A ds p = same_so p.a p.a refl refl
    by B ds p = same_so p.b p.b refl refl

same_modest : (six after : SixBooks) (s : Side) (e f : PathEnd) → arriving.edge (reassembly_of s six) ≤ arriving.edge (reassembly_of s after) → Same e f → Modest six after s e f
same_modest six after s e f up x = record {
  up = up;
  keeps = λ at low h. same_offers at e f x h;
  modest = λ hold low. (let same = same_offer e f x in omega (arith, same, low, up));
}

others_modest : (six : SixBooks) (x : Ask) (steps : List Note) (p : PathState Carried) → ModestOn six (after_ask x six) steps p p
others_modest six x steps p s = same_modest six (after_ask x six) s (end_at s p) (end_at s p) (edge_up x six s) (same_so (end_at s p) (end_at s p) refl refl)

module _ (six : SixBooks) (x : Ask) (d : Duty) (ds : List Duty) (p : PathState Carried) (is : x ≡ ask_for values d (with_agenda (d ∷ ds) p)) where
  abbrev from : PathState Carried
  from = with_agenda (d ∷ ds) p

  abbrev r : Reply
  r = reply_of six x

  abbrev y : PathState Carried
  y = answered values d r from

  abbrev z : PathState Carried
  z = takes values r from

  at_duty : IsAt (side_of d) x
  at_duty = subst (IsAt (side_of d)) (sym is) (asks_no_more values from d).side

  then_same : (s : Side) → Same (end_at s y) (end_at s z)
  then_same s = settled_lasts AllSame same_lasts y.agenda y s

  modest_then : (s : Side) → BooksHold six → offer (end_at s from) ≤ suc (arriving.edge (reassembly_of s six)) → offer (end_at s y) ≤ suc (arriving.edge (reassembly_of s (after_ask x six)))
  modest_then s hold low = ⊎_elim
      (λ own. subst (λ t. offer (end_at t from) ≤ suc (arriving.edge (reassembly_of t six)) → offer (end_at t y) ≤ suc (arriving.edge (reassembly_of t (after_ask x six)))) own
      (λ low. let up = edge_up x six (side_of d) in
      knows_modest (arriving.edge (reassembly_of (side_of d) (after_ask x six))) (side_of d) six r (end_at (side_of d) from) (end_at (side_of d) y) (modest_so (side_of d) x six at_duty (hold (side_of d))) up (own_knows values r from d) (omega (arith, low, up))) low)
      (λ away. subst (λ t. offer (end_at t from) ≤ suc (arriving.edge (reassembly_of t six)) → offer (end_at t y) ≤ suc (arriving.edge (reassembly_of t (after_ask x six)))) away
      (λ low. let up = edge_up x six (peer (side_of d)) in let same = same_offer (end_at (peer (side_of d)) from) (end_at (peer (side_of d)) y) (other_same values r from d) in omega (arith, same, low, up)) low)
      (sides s (side_of d))

  duty_modest : (s : Side) → Modest six (after_ask x six) s (end_at s from) (end_at s z)
  duty_modest s = record {
    up = edge_up x six s;
    keeps = λ at low h. same_offers at (end_at s y) (end_at s z) (then_same s) (answered_knows values r from s d six at low (fair_so (side_of d) x six at_duty) h);
    modest = λ hold low. (let then_low = modest_then s hold low in let same = same_offer (end_at s y) (end_at s z) (then_same s) in omega (arith, then_low, same));
  }

takes_modest : (six : SixBooks) (x : Ask) (steps : List Note) (p : PathState Carried) → asks_of values p ≡ Some x → TellsSteps (reply_of six x) steps → ModestOn six (after_ask x six) steps p (takes values (reply_of six x) p)
takes_modest six x steps p asks tells = by p.agenda asks
  where
    by : (ds : List Duty) → let v : PathState Carried = with_agenda ds p in asks_of values v ≡ Some x → ModestOn six (after_ask x six) steps v (takes values (reply_of six x) v)
    by [] asks = others_modest six x steps (with_agenda [] p)
    by (d ∷ ds) asks = duty_modest six x d ds p (sym (same_Some (ask_for values d (with_agenda (d ∷ ds) p)) x asks))

next_modest : (six : SixBooks) (steps : List Note) (p : PathState Carried) → is_nil p.agenda ≡ true → ModestOn six six steps p (next_round p)
next_modest six steps p over s = same_modest six six s (end_at s p) (end_at s (next_round p)) (omega arith) (begins_lasts AllSame same_lasts (record p { clock = p.until; until = p.until + 100 }) s)

-- ---- the world

books_hold : (start : Start) (turns : List Turn) → BooksHold (books_in (reached values start turns).books)
books_hold start turns = sound_holds (books_in (reached values start turns).books) (books_by_turns values BooksAreSound sound_asked turns (opened_world start) (sound_first start))

pub modest_between : EachPathBetween values ModestOn
modest_between = paths_between values ModestOn others_modest takes_modest next_modest

module _ (start : Start) (mild : IsMildStart start) where
  abbrev Tells : SixBooks → PathState Carried → Type 0
  Tells six p = (s : Side) → TellsWhatIsTaken six s p

  pub never_reset : (turns : List Turn) (p : PathState Carried) → IsPathAt 0 (reached values start turns) p → (s : Side) → IsToReset s p.agenda → ⊥
  never_reset turns p here s is = never_resets p (subst (Of IsNeverBroken) here.is ((never_breaks start turns mild).each 2 here.crew here.there) first.first) s is
    where
      first : IsFirstPath start p
      first = subst (Of (IsFirstPath start)) here.is (each_first start turns mild.plain.size here.crew here.there)

  module _ (turns : List Turn) (turn : Turn) (steps : List Note) (p q : PathState Carried) (here : IsPathAt 0 (reached values start turns) p) (there : IsPathAt 0 (reached values start (turns ++ turn ∷ [])) q)
      (on : ModestOn (books_in (reached values start turns).books) (books_in (reached values start (turns ++ turn ∷ [])).books) steps p q) (h : Tells (books_in (reached values start turns).books) p) (s : Side) where
    abbrev six : SixBooks
    six = books_in (reached values start turns).books

    abbrev later : SixBooks
    later = books_in (reached values start (turns ++ turn ∷ [])).books

    offered_on : offer (end_at s q) ≤ suc (arriving.edge (reassembly_of s later))
    offered_on = (on s).modest (books_hold start turns) (h s).offered

    turned : Turned p q
    turned = by (subst (λ (w : WorldState Carried). IsPathAt 0 w q) (run_append values turns (turn ∷ []) (opened_world start)) there)
      where
        by : IsPathAt 0 (after_turn values turn (reached values start turns)) q → Turned p q
        by at =
            let found = turned_to values (reached values start turns) turn 2 here.crew here.there in
            let to : TurnedTo here.crew.member at.crew.member = subst (λ (y : ActorCrew Carried). TurnedTo here.crew.member y.member) (same_Some found.0 at.crew (sym found.1 ∙ at.there)) found.2 in
            subst (λ m. TurnedTo m (Path q)) here.is (subst (λ m. TurnedTo here.crew.member m) at.is to)

    living_before : is_dead (end_at s q).tcp.state ≡ false → is_dead (end_at s p).tcp.state ≡ false
    living_before living = by (is_dead (end_at s p).tcp.state) refl
      where
        by : (b : Bool) → is_dead (end_at s p).tcp.state ≡ b → b ≡ false
        by false is = refl
        by true is = absurd (both_ways (is_dead (end_at s q).tcp.state) living (gone_stays (end_at s p) (end_at s q) (turned.far s) is))

    told_now : is_dead (end_at s q).tcp.state ≡ false → told (end_at s q) ≤ suc (arriving.edge (reassembly_of s later))
    told_now living = by (what_is_told_goes_on start turns turn p q here (subst (λ (w : WorldState Carried). IsPathAt 0 w q) (run_append values turns (turn ∷ []) (opened_world start)) there) s).0
      where
        was : told (end_at s p) ≤ suc (arriving.edge (reassembly_of s six))
        was = (h s).told_so (living_before living)

        up : arriving.edge (reassembly_of s six) ≤ arriving.edge (reassembly_of s later)
        up = (on s).up

        by : ToldOn s p q → told (end_at s q) ≤ suc (arriving.edge (reassembly_of s later))
        by (told_on.keeps next window tells) = (let low = told_low (end_at s p) (end_at s q) tells in let offered = (h s).offered in let before = was in let more = up in omega (arith, low, offered, before, more))
        by (told_on.begins others is same) = (let before = was in let more = up in omega (arith, same, before, more))
        by (told_on.asks others is same) = (let before = was in let more = up in omega (arith, same, before, more))
        by (told_on.dies dead) = absurd (both_ways (is_dead (end_at s q).tcp.state) living dead)
        by (told_on.breaks is) = absurd (⊎_elim (never_reset turns p here s) (never_reset (turns ++ turn ∷ []) q there s) is)

    -- what is known never falls
    known_now : is_dead (end_at s q).tcp.state ≡ false → told (end_at s q) ≤ suc (offer (end_at s q))
    known_now living = by (what_is_told_goes_on start turns turn p q here (subst (λ (w : WorldState Carried). IsPathAt 0 w q) (run_append values turns (turn ∷ []) (opened_world start)) there) s).0
      where
        was : told (end_at s p) ≤ suc (offer (end_at s p))
        was = (h s).known (living_before living)

        stays : told (end_at s q) ≡ told (end_at s p) → told (end_at s q) ≤ suc (offer (end_at s q))
        stays same =
            let at : ℕ = told (end_at s p) - 1 in
            let taken = (h s).told_so (living_before living) in let before = was in
            let kept = (on s).keeps at (omega (arith, taken)) (omega (arith, before)) in omega (arith, same, kept)

        by : ToldOn s p q → told (end_at s q) ≤ suc (offer (end_at s q))
        by (told_on.keeps next window tells) = (let low = told_low (end_at s p) (end_at s q) tells in let before = was in omega (arith, low, before, next, window))
        by (told_on.begins others is same) = stays same
        by (told_on.asks others is same) = stays same
        by (told_on.dies dead) = absurd (both_ways (is_dead (end_at s q).tcp.state) living dead)
        by (told_on.breaks is) = absurd (⊎_elim (never_reset turns p here s) (never_reset (turns ++ turn ∷ []) q there s) is)

    tells_on : TellsWhatIsTaken later s q
    tells_on = record { offered = offered_on; told_so = told_now; known = known_now }

  opened_tells : OfBooked values start ModestOn modest_between Tells (opened_world start)
  opened_tells = record {
    each = λ c there. (opened_lifted (λ c. Of (Tells (books_in (opened_world {C = Carried} start).books)) c.member) start tt tt (λ number plan at_place s. by s number plan)).each 2 c there;
  }
    where
      by : (s : Side) (number : ℕ) (plan : PathPlan) → TellsWhatIsTaken (books_in (opened_world {C = Carried} start).books) s (begins_turn (waiting_path {C = Carried} (path_begins start number plan) start.lines))
      by s number plan = opened s (begins_lasts AllTold told_lasts (waiting_path {C = Carried} (path_begins start number plan) start.lines) s)
        where
          opened : (s : Side) → SameTold (end_at s (waiting_path {C = Carried} (path_begins start number plan) start.lines)) (end_at s (begins_turn (waiting_path {C = Carried} (path_begins start number plan) start.lines)))
              → TellsWhatIsTaken (books_in (opened_world {C = Carried} start).books) s (begins_turn (waiting_path {C = Carried} (path_begins start number plan) start.lines))
          opened A x = record { offered = (let next = x.next in let window = x.window in omega (arith, next, window)); told_so = λ living. (let told = x.told in omega (arith, told)); known = λ living. (let told = x.told in omega (arith, told)) }
          opened B x = record { offered = (let next = x.next in let window = x.window in omega (arith, next, window)); told_so = λ living. (let told = x.told in omega (arith, told)); known = λ living. (let told = x.told in omega (arith, told)) }

  tells_at : (turns : List Turn) (p : PathState Carried) → IsPathAt 0 (reached values start turns) p → Tells (books_in (reached values start turns).books) p
  tells_at turns p here = subst (Of (Tells (books_in (reached values start turns).books))) here.is
      ((each_booked values start ModestOn modest_between Tells opened_tells (λ turns turn steps p q here there on h s. tells_on turns turn steps p q here there on h s) turns).each here.crew here.there)

pub what_is_told_is_taken : WhatIsToldIsTaken
what_is_told_is_taken start turns mild p here s = tells_at start mild turns p here s
