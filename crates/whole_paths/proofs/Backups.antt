-- A path that told no side that it is a backup doesn't stand by: no other path tells it, and a Look tells what the book has.
use Rattle.std.proofs.Common.{◌≡◌, refl, sym, subst, ap, ◌∙◌, ⊎_elim, ℕ, ◌+◌, ◌&&◌, ◌==◌, arith, Bool, true, false, true≢false, if◌then◌else◌, Some, List, [], ◌∷◌, ◌++◌, append_assoc, map, set}
use Rattle.std.specs.Prelude.{option_map, slice_index_or}
use Rattle.std.specs.List.{list_any, slice_get}
use Rattle.std.proofs.lemmas.Bool.{cases_eq, or_from, or_parts}
use Rattle.std.proofs.lemmas.List.{append-nil}
use Rattle.std.proofs.lemmas.Option.{same_Some}
use Rattle.sides.specs.declared.side.Side.{Side}
use Rattle.sides.specs.declared.side.Side.TheVariants.{A, B}
use Rattle.control_book.specs.declared.call.ControlCall.{ControlCall}
use Rattle.control_book.specs.declared.call.ControlCall.TheVariants as calls
use Rattle.control_book.specs.declared.call.Notice.{Notice}
use Rattle.control_book.specs.declared.call.Notice.TheVariants as notices
use Rattle.control_book.specs.Control.{Control}
use Rattle.control_book.specs.Registry.{every_path, serves_beside, standby}
use Rattle.control_book.specs.Replies.{is_right, notice_on}
use Rattle.control_book.specs.Steps as controlling
use Rattle.stream_lanes.proofs.Lists.{in_map, in_set, set_other, set_same}
use Rattle.actor_desk.specs.declared.ask.Ask.{Ask}
use Rattle.actor_desk.specs.declared.ask.Ask.TheVariants as asks
use Rattle.actor_desk.specs.declared.ask.Note.{Note}
use Rattle.actor_desk.specs.Books.{books_in}
use Rattle.actor_desk.specs.Desk.{SixBooks, after_ask, control_of, reply_of}
use Rattle.stream_apps.specs.declared.duty.AppDuty.{AppDuty}
use Rattle.stream_apps.specs.declared.duty.AppDuty.TheVariants as apps
use Rattle.stream_apps.specs.Apps.{AppState}
use Rattle.stream_apps.specs.AppSteps.{app_ask, app_asks_first}
use Rattle.path_core.specs.Codec.{Codec}
use Rattle.path_core.specs.Duties.{ask_for}
use Rattle.path_core.specs.Octets.{octets}
use Rattle.path_core.specs.Start.{first_turn, waiting_path}
use Rattle.path_core.specs.State.{PathState, end_at, path_of}
use Rattle.path_core.specs.Steps.{asks_first}
use Rattle.path_core.specs.Values.{values}
use Rattle.world_laws.specs.declared.member.Member.TheVariants.{App, Path}
use Rattle.world_laws.specs.Actors.{Actor, ActorCrew, member_asks, member_next, member_takes}
use Rattle.world_laws.specs.Asking.{IsOwn, IsOwnCall}
use Rattle.world_laws.specs.Members.{HoldsOfKind}
use Rattle.world_laws.specs.Openings.{Start, opened_world, path_begins}
use Rattle.world_laws.specs.RoundDone.{reached}
use Rattle.world_laws.specs.Standbys.{looks, standby_told}
use Rattle.world_laws.specs.Worlds.{Turn, WorldState, after_turn, all_over, asked, begins, crew_after, greatest, note_of}
use Rattle.world_laws.proofs.Announcements.Wanted.{no_member}
use Rattle.world_laws.proofs.Rounds.Lifting.{opened_lifted}
use Rattle.world_laws.proofs.Standby.LooksAlone.{begins_kept, next_kept, takes_stands}
use Rattle.world_laws.proofs.Weaving.Journals.{books_after}
use Rattle.world_laws.proofs.Weaving.WholeRounds.{run_append}
use Rattle.world_laws.proofs.Worlds.Casts.{map_there}
use Rattle.world_laws.proofs.Worlds.Turns.{turn_so}
use Rattle.world_laws.proofs.Writes.Asks.{asks_no_more}
use Rattle.whole_paths.specs.Backups.{ToldNoBackup, WhoIsNoBackupServes, noted_backup, tells_backup}
use Rattle.whole_paths.specs.Serving.{ServesAt}
use Rattle.whole_paths.proofs.Holding.{IsNamed, always_known}
use Rattle.whole_paths.proofs.KeptBooks.{set_spared}

-- ---- the control books

-- the path of this number is no backup there
abbrev IsNone : ℕ → Control → Type 0
IsNone number c = slice_index_or c.addresses.backups number false ≡ false

-- a call doesn't tell that it is one
abbrev Spares : ℕ → ControlCall → Type 0
Spares number (calls.Live path backup) = path ≡ number → backup ≡ false
Spares number (calls.Backup path on) = path ≡ number → on ≡ false
Spares number _ = Unit {0}

noted_none : (number : ℕ) (n : Notice) (path : ℕ) (c : Control) → IsNone number c → IsNone number (controlling.after_notice n path c)
noted_none number (notices.Withdraw id) path c h = h
noted_none number notices.Nothing path c h = h
noted_none number (notices.Announce id) path c h = h
noted_none number (notices.Carrier key) path c h = h
noted_none number notices.Reset path c h = h

either_none : (number : ℕ) (b : Bool) (c d : Control) → IsNone number c → IsNone number d → IsNone number (if b then c else d)
either_none number true c d x y = x
either_none number false c d x y = y

heard_none : {X : Type 0} (f : X → List Bool) (number : ℕ) (right : Bool) (one other : X) → slice_index_or (f one) number false ≡ false → slice_index_or (f other) number false ≡ false → slice_index_or (f (if right then one else other)) number false ≡ false
heard_none f number true one other x y = x
heard_none f number false one other x y = y

call_none : (number : ℕ) (c : Control) (call : ControlCall) → Spares number call → IsNone number c → IsNone number (controlling.after c call)
call_none number c (calls.Look path) spares h = noted_none number (notice_on c path) path c h
call_none number c (calls.PeerKey key) spares h = h
call_none number c (calls.Keys mine theirs) spares h = either_none number (mine == c.keys.own) _ c h h
call_none number c (calls.Fell path event) spares h = h
call_none number c (calls.JoinBegin path) spares h = either_none number _ _ c h h
call_none number c (calls.JoinHeard path token) spares h = either_none number _ _ c h h
call_none number c (calls.Live path backup) spares h = set_spared number c.addresses.backups path backup spares h
call_none number c (calls.Dead path) spares h = h
call_none number c (calls.Backup path on) spares h = set_spared number c.addresses.backups path on spares h
call_none number c (calls.Rate path window rtt) spares h = h
call_none number c (calls.Announce id) spares h = h
call_none number c (calls.Withdraw id) spares h = either_none number (controlling.is_known id c) _ c h h
call_none number c (calls.Heard id address port hmac) spares h = heard_none (λ a. (record c { addresses = a }).addresses.backups) number (is_right id address port hmac c) _ c.addresses h h
call_none number c (calls.Echoed id) spares h = either_none number (controlling.is_known id c) _ c h h
call_none number c (calls.Removed id) spares h = either_none number (controlling.is_known id c) _ c h h
call_none number c calls.FastClose spares h = h
call_none number c (calls.FastHeard key) spares h = either_none number (key == c.keys.own) _ c h h

abbrev BothNone : ℕ → SixBooks → Type 0
BothNone number six = (s : Side) → IsNone number (control_of s six)

abbrev SparesAsk : ℕ → Ask → Type 0
SparesAsk number (asks.Control s call) = Spares number call
SparesAsk number _ = Unit {0}

ask_none : (number : ℕ) (x : Ask) (six : SixBooks) → SparesAsk number x → BothNone number six → BothNone number (after_ask x six)
ask_none number (asks.Control A call) six spares h A = call_none number six.control_a call spares (h A)
ask_none number (asks.Control B call) six spares h B = call_none number six.control_b call spares (h B)
ask_none number (asks.Control A call) six spares h B = h B
ask_none number (asks.Control B call) six spares h A = h A
ask_none number (asks.Send A call) six spares h A = h A
ask_none number (asks.Send B call) six spares h A = h A
ask_none number (asks.Reassembly A call) six spares h A = h A
ask_none number (asks.Reassembly B call) six spares h A = h A
ask_none number (asks.Send A call) six spares h B = h B
ask_none number (asks.Send B call) six spares h B = h B
ask_none number (asks.Reassembly A call) six spares h B = h B
ask_none number (asks.Reassembly B call) six spares h B = h B
ask_none number (asks.Local step) six spares h s = h s

-- ---- what is asked

app_spares : (number : ℕ) (d : AppDuty) (a : AppState) → SparesAsk number (app_ask d a)
app_spares number apps.FastClose a = tt
app_spares number _ a = tt

-- of another path, or it tells nothing
call_spares : (number own : ℕ) (s : Side) (call : ControlCall) → IsOwnCall own call → (own ≡ number → tells_backup (asks.Control s call) ≡ false) → Spares number call
call_spares number own s (calls.Live path backup) is none = λ same. none (sym is ∙ same)
call_spares number own s (calls.Backup path on) is none = λ same. none (sym is ∙ same)
call_spares number own s _ is none = tt

path_spares : {C : Type 0} (number : ℕ) (p : PathState C) (x : Ask) → IsOwn p x → (path_of p ≡ number → tells_backup x ≡ false) → SparesAsk number x
path_spares number p (asks.Control s call) own none = call_spares number (path_of p) s call own none
path_spares number p _ own none = tt

and_false : (a b : Bool) → a ≡ false → (a && b) ≡ false
and_false a b is = rw (is) refl

-- a Look tells that it doesn't stand by
look_none : {C : Type 0} (number : ℕ) (p : PathState C) (s : Side) (x : Ask) (six : SixBooks) (before : Bool) → IsOwn p x → path_of p ≡ number → BothNone number six → looks s x ≡ true → standby_told before (reply_of six x) ≡ false
look_none number p A (asks.Control A (calls.Look path)) six before own named h is =
    subst (λ n. standby six.control_a.paths six.control_a.addresses.backups n ≡ false) (sym (own ∙ named)) (and_false _ (list_any (serves_beside six.control_a.paths six.control_a.addresses.backups number) every_path) (h A))
look_none number p B (asks.Control B (calls.Look path)) six before own named h is =
    subst (λ n. standby six.control_b.paths six.control_b.addresses.backups n ≡ false) (sym (own ∙ named)) (and_false _ (list_any (serves_beside six.control_b.paths six.control_b.addresses.backups number) every_path) (h B))
look_none number p _ _ six before own named h is = absurd (true≢false (sym is))

-- what is told in no step isn't in any before, nor in the last
earlier_none : (xs : List Note) (y : Note) → list_any noted_backup (xs ++ y ∷ []) ≡ false → (list_any noted_backup xs ≡ false) × (noted_backup y ≡ false)
earlier_none [] y none = (refl, (or_parts (noted_backup y) false none).0)
earlier_none (x ∷ xs) y none =
    let parts = or_parts (noted_backup x) (list_any noted_backup (xs ++ y ∷ [])) none in
    let rest = earlier_none xs y parts.1 in
    (or_from (noted_backup x) (list_any noted_backup xs) parts.0 rest.0, rest.1)

module _ {C : Type 0} (k : Codec C) (number : ℕ) where
  -- the path is a backup in no book, and doesn't stand by
  record Clean (w : WorldState C) : Type 0 where
    books : BothNone number (books_in w.books)
    ends : ServesAt number w

  abbrev IfNone : WorldState C → Type 0
  IfNone w = ToldNoBackup number w → Clean w

  own_ask : (p : PathState C) (x : Ask) → asks_first k p.agenda p ≡ Some x → IsOwn p x
  own_ask p x is = (elim p.agenda as (λ ds. asks_first k ds p ≡ Some x → IsOwn p x)
      [ [] ↦ λ is. cc | d ∷ ds ↦ λ is. subst (IsOwn p) (same_Some (ask_for k d p) x is) (asks_no_more k p d).own ]) is

  member_spares : (actor : ℕ) (m : Actor C) (x : Ask) → IsNamed k actor m → member_asks k m ≡ Some x → (actor ≡ 2 + number → tells_backup x ≡ false) → SparesAsk number x
  member_spares actor (App a) x named is none = (elim a.agenda as (λ ds. app_asks_first ds a ≡ Some x → SparesAsk number x)
      [ [] ↦ λ is. cc | d ∷ ds ↦ λ is. subst (SparesAsk number) (same_Some (app_ask d a) x is) (app_spares number d a) ]) is
  member_spares actor (Path p) x named is none = path_spares number p x (own_ask p x is) (λ same. none (sym named.0 ∙ ap (λ n. 2 + n) same))

  member_serves : (m : Actor C) (x : Ask) (six : SixBooks) → member_asks k m ≡ Some x → BothNone number six → ((p : PathState C) → m ≡ Path p → (path_of p ≡ number) × ((s : Side) → (end_at s p).modes.standby ≡ false))
      → (q : PathState C) → member_takes k (reply_of six x) m ≡ Path q → (s : Side) → (end_at s q).modes.standby ≡ false
  member_serves (App a) x six is h before q path s = cc
  member_serves (Path p) x six is h before q path s = subst (λ (m : Actor C). HoldsOfKind (λ app. Unit {0}) (λ (y : PathState C). (end_at s y).modes.standby ≡ false) m) path
      (takes_stands k x (reply_of six x) p is s ∙ by (looks s x) refl)
    where
      by : (b : Bool) → looks s x ≡ b → (if b then standby_told (end_at s p).modes.standby (reply_of six x) else (end_at s p).modes.standby) ≡ false
      by true look = look_none number p s x six (end_at s p).modes.standby (own_ask p x is) (before p refl).0 h look
      by false look = (before p refl).1 s

  next_serves : (m : Actor C) → ((p : PathState C) → m ≡ Path p → (s : Side) → (end_at s p).modes.standby ≡ false) → (q : PathState C) → member_next m ≡ Path q → (s : Side) → (end_at s q).modes.standby ≡ false
  next_serves (App a) before q path s = cc
  next_serves (Path p) before q path s = subst (λ (m : Actor C). HoldsOfKind (λ app. Unit {0}) (λ (y : PathState C). (end_at s y).modes.standby ≡ false) m) path (at s)
    where
      at : (s : Side) → HoldsOfKind (λ app. Unit {0}) (λ (y : PathState C). (end_at s y).modes.standby ≡ false) (member_next (Path p))
      at A = (next_kept p).a ∙ before p refl A
      at B = (next_kept p).b ∙ before p refl B

  turn_clean : (turn : Turn) (w : WorldState C) → ((actor : ℕ) (c : ActorCrew C) → slice_get w.crew actor ≡ Some c → IsNamed k actor c.member) → IfNone w → IfNone (after_turn k turn w)
  turn_clean turn w named h = turn_so k IfNone turn w h asked_so begun_so
    where
      asked_so : (actor : ℕ) (c : ActorCrew C) (x : Ask) → slice_get w.crew actor ≡ Some c → member_asks k c.member ≡ Some x → IfNone (asked k actor (Some x) c w)
      asked_so actor c x there is none = record {
        books = subst (BothNone number) (sym (books_after x c.pass w.books)) (ask_none number x (books_in w.books) (member_spares actor c.member x (named actor c there) is fresh) was.books);
        ends = λ q at. ⊎_elim
            (λ here.
            (let own : slice_get w.crew (2 + number) ≡ Some c = subst (λ n. slice_get w.crew n ≡ Some c) (sym here.0) there in
            member_serves c.member x (books_in w.books) is was.books
            (λ p path. (of_named p path (sym here.0), was.ends p (record { crew = c; there = own; is = path })))
            q (ap (λ (y : ActorCrew C). y.member) here.1 ∙ at.is)))
            (λ other. was.ends q (record { crew = at.crew; there = other.1; is = at.is }))
            (in_set w.crew actor (crew_after k x w.books c) (2 + number) at.crew at.there);
      }
        where
          new : ActorCrew C
          new = crew_after k x w.books c

          last : actor ≡ 2 + number → (list_any noted_backup c.list ≡ false) × (tells_backup x ≡ false)
          last same = earlier_none c.list (note_of w.books c.pass x) (none new (subst (λ n. slice_get (set w.crew actor new) n ≡ Some new) same (set_same w.crew actor new c there)))

          fresh : actor ≡ 2 + number → tells_backup x ≡ false
          fresh same = (last same).1

          of_named : (p : PathState C) → c.member ≡ Path p → actor ≡ 2 + number → path_of p ≡ number
          of_named p path same = let is = (subst (IsNamed k actor) path (named actor c there)).0 in omega (arith, is, same)

          older : ToldNoBackup number w
          older d at = ⊎_elim
              (λ same.
              (let one : c ≡ d = same_Some c d (sym there ∙ ap (slice_get w.crew) same ∙ at) in
              subst (λ (y : ActorCrew C). list_any noted_backup y.list ≡ false) one (last same).0))
              (λ other. none d (set_other w.crew actor new (2 + number) (λ same. other (sym same)) ∙ at))
              (cases_eq actor (2 + number))

          was : Clean w
          was = h older

      begun_so : all_over w.crew ≡ true → IfNone (record w { crew = map (begins (greatest 0 w.crew)) w.crew })
      begun_so over none = record {
        books = was.books;
        ends = λ q at. (let found = in_map (begins (greatest 0 w.crew)) w.crew (2 + number) at.crew at.there in
            next_serves found.0.member (λ p path. was.ends p (record { crew = found.0; there = found.1; is = path })) q (ap (λ (y : ActorCrew C). y.member) found.2 ∙ at.is));
      }
        where
          was : Clean w
          was = h (λ d at. none (begins (greatest 0 w.crew) d) (map_there (begins (greatest 0 w.crew)) w.crew (2 + number) ∙ ap (option_map (begins (greatest 0 w.crew))) at))

  opened_clean : (start : Start) → Clean (opened_world start)
  opened_clean start = record {
    books = elim [ A ↦ no_member number | B ↦ no_member number ];
    ends = λ p at s. subst (HoldsOfKind (λ app. Unit {0}) (λ (y : PathState C). (end_at s y).modes.standby ≡ false)) at.is
        ((opened_lifted (λ (c : ActorCrew C). HoldsOfKind (λ app. Unit {0}) (λ (y : PathState C). (end_at s y).modes.standby ≡ false) c.member) start tt tt (λ n plan there. begun n plan s)).each (2 + number) at.crew at.there);
  }
    where
      begun : (n : ℕ) (plan : _) (s : Side) → (end_at s (first_turn {C = C} (path_begins start n plan) start.lines)).modes.standby ≡ false
      begun n plan A = (begins_kept (waiting_path (path_begins start n plan) start.lines)).a
      begun n plan B = (begins_kept (waiting_path (path_begins start n plan) start.lines)).b

  so_far : (start : Start) (done more turns : List Turn) → done ++ more ≡ turns → IfNone (reached k start done) → IfNone (reached k start turns)
  so_far start done [] turns is h = subst (λ ts. IfNone (reached k start ts)) (sym (append-nil done) ∙ is) h
  so_far start done (turn ∷ more) turns is h = so_far start (done ++ turn ∷ []) more turns (append_assoc done (turn ∷ []) more ∙ is)
      (subst IfNone (sym (run_append k done (turn ∷ []) (opened_world start))) (turn_clean turn (reached k start done) (always_known k start done).named h))

  -- what is told in no step isn't in any before
  step_older : (turn : Turn) (w : WorldState C) → ToldNoBackup number (after_turn k turn w) → ToldNoBackup number w
  step_older turn w = turn_so k (λ v. ToldNoBackup number v → ToldNoBackup number w) turn w (λ h. h)
      (λ actor c x there is none d at. (let new : ActorCrew C = crew_after k x w.books c in ⊎_elim
      (λ same.
      (let one : c ≡ d = same_Some c d (sym there ∙ ap (slice_get w.crew) same ∙ at) in
      subst (λ (y : ActorCrew C). list_any noted_backup y.list ≡ false) one
      (earlier_none c.list (note_of w.books c.pass x) (none new (subst (λ n. slice_get (set w.crew actor new) n ≡ Some new) same (set_same w.crew actor new c there)))).0))
      (λ other. none d (set_other w.crew actor new (2 + number) (λ same. other (sym same)) ∙ at))
      (cases_eq actor (2 + number))))
      (λ over none d at. none (begins (greatest 0 w.crew) d) (map_there (begins (greatest 0 w.crew)) w.crew (2 + number) ∙ ap (option_map (begins (greatest 0 w.crew))) at))

  older : (start : Start) (ts us : List Turn) → ToldNoBackup number (reached k start (ts ++ us)) → ToldNoBackup number (reached k start ts)
  older start ts [] none = subst (λ vs. ToldNoBackup number (reached k start vs)) (append-nil ts) none
  older start ts (turn ∷ us) none = step_older turn (reached k start ts) (subst (ToldNoBackup number) (run_append k ts (turn ∷ []) (opened_world start))
      (older start (ts ++ turn ∷ []) us (subst (λ vs. ToldNoBackup number (reached k start vs)) (sym (append_assoc ts (turn ∷ []) us)) none)))

serves_so : {C : Type 0} (k : Codec C) → WhoIsNoBackupServes k
serves_so k start number turns none ts us is =
    (so_far k number start [] ts ts refl (λ told. opened_clean k number start) (older k number start ts us (subst (λ vs. ToldNoBackup number (reached k start vs)) (sym is) none))).ends

pub who_is_no_backup_serves : WhoIsNoBackupServes values
who_is_no_backup_serves start number turns none ts us is = serves_so values start number turns none ts us is

pub who_is_no_backup_serves_in_octets : WhoIsNoBackupServes octets
who_is_no_backup_serves_in_octets start number turns none ts us is = serves_so octets start number turns none ts us is
