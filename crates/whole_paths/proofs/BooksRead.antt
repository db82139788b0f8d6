-- What each turn reads of a side's reassembly book: nothing, or all that has come in order, or 65,536 bytes, as many as an application asks for at once.
use Rattle.std.proofs.Common.{◌≡◌, refl, sym, subst, ◌⊎◌, inl, inr, ⊎_elim, ◌+◌, ◌≤◌, min, arith, Bool, true, false, if◌then◌else◌, is_some, Option, Some, None, List, [], ◌∷◌, ◌++◌, drop, length}
use Rattle.std.proofs.lemmas.Bool.{cases_lt}
use Rattle.std.proofs.lemmas.Option.{same_Some}
use Rattle.sides.specs.declared.side.Side.{Side}
use Rattle.sides.specs.declared.side.Side.TheVariants.{A, B}
use Rattle.reassembly_book.specs.declared.call.ReassemblyCall.{ReassemblyCall}
use Rattle.reassembly_book.specs.declared.call.ReassemblyCall.TheVariants as calls
use Rattle.reassembly_book.specs.State.{Arriving, filled, received}
use Rattle.reassembly_book.specs.Steps.{after_call, after_reading, fin_clash, is_taken, places_after}
use Rattle.stream_lanes.proofs.Arrivals.{filled_left}
use Rattle.actor_desk.specs.Books.{books_in}
use Rattle.actor_desk.specs.Desk.{SixBooks, after_ask, reassembly_of}
use Rattle.actor_desk.specs.declared.ask.Ask.{Ask}
use Rattle.actor_desk.specs.declared.ask.Ask.TheVariants as asks
use Rattle.stream_apps.specs.declared.duty.AppDuty.{AppDuty}
use Rattle.stream_apps.specs.declared.duty.AppDuty.TheVariants as app_duties
use Rattle.stream_apps.specs.Apps.{AppState}
use Rattle.stream_apps.specs.AppSteps.{app_ask, app_asks_first}
use Rattle.path_agenda.specs.declared.duty.Duty.{Duty}
use Rattle.path_core.specs.Duties.{ask_for}
use Rattle.path_core.specs.Steps.{asks_first}
use Rattle.path_core.specs.Values.{Carried, values}
use Rattle.world_laws.specs.declared.member.Member.TheVariants.{App, Path}
use Rattle.world_laws.specs.Actors.{Actor, member_asks}
use Rattle.world_laws.specs.Asking.{May, asking, may}
use Rattle.world_laws.specs.Openings.{Start, opened_world}
use Rattle.world_laws.specs.RoundDone.{reached}
use Rattle.world_laws.specs.Worlds.{Turn, WorldState, after_turn}
use Rattle.world_laws.proofs.Weaving.Journals.{books_after}
use Rattle.world_laws.proofs.Weaving.WholeRounds.{run_append}
use Rattle.world_laws.proofs.Worlds.Turns.{turn_so}
use Rattle.world_laws.proofs.Writes.Asks.{asks_no_more}

-- ---- a book

abbrev pub ReadsOn : Arriving → Arriving → Type 0
ReadsOn b c = (c.read ≡ b.read) ⊎ ((received c ≤ c.read) ⊎ (b.read + 65536 ≤ c.read))

read_on : (b : Arriving) → ReadsOn b (after_call b (calls.Read 65536))
read_on b = by b.aborted
  where
    left : min 65536 (length (filled b.places)) + length (filled (drop (min 65536 (length (filled b.places))) b.places)) ≡ length (filled b.places)
    left = filled_left (min 65536 (length (filled b.places))) b.places (omega arith)

    by : (o : Option Bool) → ReadsOn b (if is_some o then b else after_reading 65536 b)
    by (Some by_peer) = inl refl
    by None = ⊎_elim (λ few. inr (inl (let all = left in omega (arith, few, all)))) (λ many. inr (inr (omega (arith, many)))) (cases_lt (length (filled b.places)) 65536)

-- what is no read reads nothing
abbrev Reads : ReassemblyCall → Type 0
Reads (calls.Read most) = most ≡ 65536
Reads _ = Unit {0}

call_reads : (b : Arriving) (call : ReassemblyCall) → Reads call → ReadsOn b (after_call b call)
call_reads b (calls.Read most) is = subst (λ n. ReadsOn b (after_call b (calls.Read n))) (sym is) (read_on b)
call_reads b (calls.Place at bytes) is = inl (elim (is_taken at bytes b) as (λ c. (if c then record b { places = places_after at bytes b } else b).read ≡ b.read) [ true ↦ refl | false ↦ refl ])
call_reads b (calls.Fin at) is = inl (elim (is_some (fin_clash b.known_end at b)) as (λ c. (if c then b else record b { known_end = Some at }).read ≡ b.read) [ true ↦ refl | false ↦ refl ])
call_reads b calls.AckOut is = inl refl
call_reads b (calls.Abort by_peer) is = inl refl

-- ---- whoever asks

abbrev AsksReads : Ask → Type 0
AsksReads (asks.Reassembly s call) = Reads call
AsksReads _ = Unit {0}

app_reads : (d : AppDuty) (a : AppState) → AsksReads (app_ask d a)
app_reads app_duties.Read a = refl
app_reads _ a = tt

-- a path reads nothing
path_reads : (m : May) (x : Ask) → may m x ≡ true → AsksReads x
path_reads m (asks.Reassembly s (calls.Read most)) is = cc
path_reads m (asks.Reassembly s _) is = tt
path_reads m _ is = tt

member_reads : (m : Actor Carried) (x : Ask) → member_asks values m ≡ Some x → AsksReads x
member_reads (App a) x is = by a.agenda is
  where
    by : (ds : List AppDuty) → app_asks_first ds a ≡ Some x → AsksReads x
    by [] is = cc
    by (d ∷ ds) is = subst AsksReads (same_Some (app_ask d a) x is) (app_reads d a)
member_reads (Path p) x is = by p.agenda is
  where
    by : (ds : List Duty) → asks_first values ds p ≡ Some x → AsksReads x
    by [] is = cc
    by (d ∷ ds) is = subst AsksReads (same_Some (ask_for values d p) x is) (path_reads (asking d) (ask_for values d p) (asks_no_more values p d).kind)

-- ---- a turn

abbrev pub BooksRead : SixBooks → SixBooks → Type 0
BooksRead six after = (s : Side) → ReadsOn (reassembly_of s six) (reassembly_of s after)

asked_reads : (x : Ask) (six : SixBooks) → AsksReads x → BooksRead six (after_ask x six)
asked_reads (asks.Reassembly A call) six is A = call_reads six.reassembly_a call is
asked_reads (asks.Reassembly B call) six is B = call_reads six.reassembly_b call is
asked_reads (asks.Reassembly A call) six is B = inl refl
asked_reads (asks.Reassembly B call) six is A = inl refl
asked_reads (asks.Send A call) six is s = inl refl
asked_reads (asks.Send B call) six is s = inl refl
asked_reads (asks.Control A call) six is s = inl refl
asked_reads (asks.Control B call) six is s = inl refl
asked_reads (asks.Local step) six is s = inl refl

turn_reads : (w : WorldState Carried) (turn : Turn) → BooksRead (books_in w.books) (books_in (after_turn values turn w).books)
turn_reads w turn = turn_so values (λ (v : WorldState Carried). BooksRead (books_in w.books) (books_in v.books)) turn w (λ s. inl refl)
    (λ actor c x there is. subst (BooksRead (books_in w.books)) (sym (books_after x c.pass w.books)) (asked_reads x (books_in w.books) (member_reads c.member x is)))
    (λ over s. inl refl)

pub books_are_read : (start : Start) (turns : List Turn) (turn : Turn) → BooksRead (books_in (reached values start turns).books) (books_in (reached values start (turns ++ turn ∷ [])).books)
books_are_read start turns turn = subst (λ (v : WorldState Carried). BooksRead (books_in (reached values start turns).books) (books_in v.books)) (sym (run_append values turns (turn ∷ []) (opened_world start)))
    (turn_reads (reached values start turns) turn)
