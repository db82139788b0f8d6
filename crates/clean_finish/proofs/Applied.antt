-- The relation goes on with each step of an application.
use Rattle.clean_finish.proofs.Words.{◌≡◌, refl, sym, subst, ap, ◌∙◌, ℕ, ◌+◌, ◌≤◌, Bool, true, false, not, ◌||◌, if◌then◌else◌, List, [], ◌∷◌, ◌++◌, length}
use Rattle.clean_finish.proofs.Words.{map, arith, Some, le_refl, is_some, replicate, take, length-take, both_ways, and_parts, not-true, length-replicate, Side}
use Rattle.clean_finish.proofs.Words.{A, B, Arriving, filled, after_read, after_reading, ReassemblyCall, after_write, after_close, bytes_taken, Free, SendCall}
use Rattle.clean_finish.proofs.Words.{no_paths, is_nil, SixBooks, Ask, books_in, after_entry, AppDuty, Write, Close, Read, End, FastClose, AbortSend}
use Rattle.clean_finish.proofs.Words.{AbortReceive, app_ask, app_takes, offered, app_stands, Carried, Setting, Lane, all_left, Sender, Going, all_moves_going}
use Rattle.clean_finish.proofs.Words.{PathPlan, Start, answer_to, Cast, Fare, after_a, after_b, BookIs, keys_in, Running, IsAppTurn, Begun, Written, Closed}
use Rattle.clean_finish.proofs.Words.{ReadAll}
use Rattle.std.proofs.Common.{length-append}
use Rattle.send_book.specs.State.{Sending}
use Rattle.actor_desk.specs.declared.ask.LocalStep.{LocalStep}
use Rattle.stream_apps.specs.Turns.{FirstAppStands}
use Rattle.world_laws.proofs.Weaving.Journals.{books_after}
use Rattle.clean_finish.specs.Running.IsAppTurn.{Ended}
use Rattle.clean_finish.proofs.TakenMarks.{taken_written}
use Rattle.clean_finish.proofs.Acting.{Acts, acts_by_write, acts_by_close, acts_by_read, acts_by_end}
use Rattle.clean_finish.proofs.Moving.{more_than, moves_then}
use Rattle.clean_finish.proofs.Turned.{rebooked}
use Rattle.clean_finish.proofs.Whole.{read_whole}

-- ---- what is left of a turn, by its first duty

from_write : (es ds : List AppDuty) → IsAppTurn es → es ≡ Write ∷ ds → es ≡ Write ∷ Close ∷ Read ∷ End ∷ []
from_write _ ds Begun e = refl
from_write _ ds _ e = cc

from_close : (es ds : List AppDuty) → IsAppTurn es → es ≡ Close ∷ ds → es ≡ Close ∷ Read ∷ End ∷ []
from_close _ ds Written e = refl
from_close _ ds _ e = cc

from_read : (es ds : List AppDuty) → IsAppTurn es → es ≡ Read ∷ ds → es ≡ Read ∷ End ∷ []
from_read _ ds Closed e = refl
from_read _ ds _ e = cc

-- no turn stops the connection
abbrev is_stop : AppDuty → Bool
is_stop FastClose = true
is_stop AbortSend = true
is_stop AbortReceive = true
is_stop _ = false

abbrev first_stops : List AppDuty → Bool
first_stops [] = false
first_stops (d ∷ ds) = is_stop d

no_stop : (es : List AppDuty) (d : AppDuty) (ds : List AppDuty) → IsAppTurn es → es ≡ d ∷ ds → is_stop d ≡ true → ⊥
no_stop _ d ds Ended e stops = cc
no_stop _ d ds _ e stops = both_ways (is_stop d) (sym (ap first_stops e)) stops

from_end : (es ds : List AppDuty) → IsAppTurn es → es ≡ End ∷ ds → es ≡ End ∷ []
from_end _ ds ReadAll e = refl
from_end _ ds _ e = cc

some_left : (xs : List ℕ) → not (is_nil xs) ≡ true → 1 ≤ length xs
some_left [] e = cc
some_left (x ∷ xs) e = omega arith

none_left : (xs : List ℕ) → is_nil xs ≡ true → xs ≡ []
none_left [] e = refl
none_left (x ∷ xs) e = cc

-- ---- books

record Grows (out : Sender) (waiting : ℕ) (b after : Sending) : Type 0 where
  book : BookIs out waiting after
  more : length b.written ≤ length after.written
  fin : after.fin ≡ b.fin

write_grows : (out : Sender) (waiting : ℕ) (bytes : List ℕ) (b : Sending) → BookIs out waiting b → Grows out waiting b (after_write bytes b)
write_grows out waiting bytes b is = by (b.closed || b.aborted)
  where
    by : (shut : Bool) → Grows out waiting b (if shut then b else record b {
      written = b.written ++ take (bytes_taken bytes b) bytes;
      marks = b.marks ++ replicate (bytes_taken bytes b) (Free no_paths);
    })
    by true = record { book = is; more = le_refl _; fin = refl }
    by false =
        let len = length-append b.written (take (bytes_taken bytes b) bytes) in
        let some = length-take (bytes_taken bytes b) bytes in
        let marks = length-append b.marks (replicate (bytes_taken bytes b) (Free no_paths)) in
        let free = length-replicate (bytes_taken bytes b) (Free no_paths) in
        record {
          book = record {
            edge = is.edge;
            owner = is.owner;
            marks = omega (arith, len, some, marks, free, is.marks);
            taken = taken_written (out.granted + waiting) (bytes_taken bytes b) b.marks is.taken;
          };
          more = omega (arith, len);
          fin = refl;
        }

close_grows : (out : Sender) (waiting : ℕ) (b : Sending) → BookIs out waiting b → Grows out waiting b (after_close b)
close_grows out waiting b is = by b.aborted
  where
    by : (aborted : Bool) → Grows out waiting b (if aborted then b else record b { closed = true })
    by true = record { book = is; more = le_refl _; fin = refl }
    by false = record { book = record { edge = is.edge; owner = is.owner; marks = is.marks; taken = is.taken }; more = le_refl _; fin = refl }

read_keeps : (most : ℕ) (b : Arriving) → (after_read most b).capacity ≡ b.capacity
read_keeps most b = by (is_some b.aborted)
  where
    by : (aborted : Bool) → (if aborted then b else after_reading most b).capacity ≡ b.capacity
    by true = refl
    by false = refl

-- ---- the step

module _ (start : Start) (plan : PathPlan) (k j : Setting) (s v : Lane) (t0 u0 : ℕ)
    (going : Going k s t0 all_left s) (going_back : Going j v u0 all_left v)
    (small : k.total ≤ 16777216) (small_back : j.total ≤ 16777216)
  where
    module _ (t : Cast Carried) (h : Running start plan k j s v t) where
      now : Going k s t0 h.stage h.out
      now = all_moves_going k s t0 h.going.count all_left s h.stage h.out h.going.moves going

      now_back : Going j v u0 h.stage_back h.back
      now_back = all_moves_going j v u0 h.going_back.count all_left v h.stage_back h.back h.going_back.moves going_back

      abbrev six : SixBooks
      six = books_in t.books

      acted : (ask : Ask) (send : Sending) (arrived : Arriving)
          → books_in (after_entry ask t.at_a.pass t.books) ≡ record six { send_a = send; reassembly_a = arrived }
          → Acts k s t0 h.stage h.out j v u0 h.stage_back h.back now now_back (app_takes (answer_to t.books ask) t.a) send arrived
          → Grows h.out.sender h.waiting six.send_a send → arrived.capacity ≡ j.buffer → arrived.places ≡ map Some (filled arrived.places)
          → Running start plan k j s v (after_a ask t)
      acted ask send arrived only acts grows capacity whole = record {
        walker = h.walker;
        alone = h.alone;
        runs = record {
          path = h.path;
          link = h.link;
          faces = rebooked (keys_in start) k j s v (app_takes (answer_to t.books ask) t.a) t.b _ _ h.walker.path (sym only) (record {
            out = record h.out { writer = acts.writes.writer };
            back = record h.back { reader = acts.reads.reader };
            stage = h.stage;
            stage_back = h.stage_back;
            going = record {
              count = more_than acts.writes.count h.going.count;
              moves = moves_then k s h.going.count acts.writes.count all_left s h.stage h.out h.stage
                  (record h.out { writer = acts.writes.writer }) h.going.moves acts.writes.moves;
            };
            going_back = record {
              count = more_than acts.reads.count h.going_back.count;
              moves = moves_then j v h.going_back.count acts.reads.count all_left v h.stage_back h.back h.stage_back
                  (record h.back { reader = acts.reads.reader }) h.going_back.moves acts.reads.moves;
            };
            now = h.now;
            now_back = h.now_back;
            hand = h.hand;
            hand_back = h.hand_back;
            owes = h.owes;
            owes_back = h.owes_back;
            waiting = h.waiting;
            waiting_back = h.waiting_back;
            own = h.own;
            other = h.other;
            way = h.way;
            way_back = h.way_back;
            apps = record {
              writes = acts.writes.shows;
              reads = record { numbers = h.apps.reads.numbers; received = h.apps.reads.received; over = h.apps.reads.over };
              receives = record {
                read = h.apps.receives.read;
                received = h.apps.receives.received;
                known = h.apps.receives.known;
                capacity = h.apps.receives.capacity;
              };
              book = grows.book;
              room = omega (arith, h.apps.room, h.apps.writes.numbers.bytes, acts.writes.shows.numbers.bytes, grows.more);
              whole = h.apps.whole;
              fin = λ e. h.apps.fin (sym grows.fin ∙ e);
            };
            apps_back = record {
              writes = record { numbers = h.apps_back.writes.numbers; over = h.apps_back.writes.over };
              reads = acts.reads.shows;
              receives = record {
                read = acts.reads.shows.numbers.bytes;
                received = acts.reads.shows.received;
                known = acts.reads.shows.numbers.known;
                capacity = capacity;
              };
              book = h.apps_back.book;
              room = h.apps_back.room;
              whole = whole;
              fin = h.apps_back.fin;
            };
            stages = h.stages;
            stages_back = h.stages_back;
            control = h.control;
            control_back = h.control_back;
            turn = acts.turn;
            turn_back = h.turn_back;
            settles = h.settles;
            settles_back = h.settles_back;
            begins = h.begins;
            begins_back = h.begins_back;
            owed = h.owed;
            owed_back = h.owed_back;
          });
          treats = h.treats;
        };
      }

      stands : (d : AppDuty) (ds : List AppDuty) → Fare start t → t.a.agenda ≡ d ∷ ds → app_stands d t.a ≡ true
      stands d ds f at = subst (λ (es : List AppDuty). FirstAppStands es t.a) at f.a.settled

      act_write : Fare start t → (ds : List AppDuty) → t.a.agenda ≡ Write ∷ ds → Running start plan k j s v (after_a (app_ask Write t.a) t)
      act_write f ds at =
          let ask = Ask.Send A (SendCall.Write (offered t.a)) in
          subst (λ (side : Side). Running start plan k j s v (after_a (Ask.Send side (SendCall.Write (offered t.a))) t))
          (sym f.a.side_is) (acted ask (after_write (offered t.a) six.send_a) six.reassembly_a (books_after ask t.at_a.pass t.books)
          (acts_by_write k s t0 h.stage h.out j v u0 h.stage_back h.back now now_back t.a six.send_a six.reassembly_a h.apps.writes
          h.apps_back.reads (from_write t.a.agenda ds h.turn at) (some_left t.a.rest (stands Write ds f at)) small)
          (write_grows h.out.sender h.waiting (offered t.a) six.send_a h.apps.book) h.apps_back.receives.capacity h.apps_back.whole)

      act_close : Fare start t → (ds : List AppDuty) → t.a.agenda ≡ Close ∷ ds → Running start plan k j s v (after_a (app_ask Close t.a) t)
      act_close f ds at =
          let ask = Ask.Send A SendCall.Close in
          subst (λ (side : Side). Running start plan k j s v (after_a (Ask.Send side SendCall.Close) t)) (sym f.a.side_is)
          (acted ask (after_close six.send_a) six.reassembly_a (books_after ask t.at_a.pass t.books)
          (acts_by_close k s t0 h.stage h.out j v u0 h.stage_back h.back now now_back t.a six.send_a six.reassembly_a h.apps.writes
          h.apps_back.reads (from_close t.a.agenda ds h.turn at)
          (none_left t.a.rest (and_parts (is_nil t.a.rest) (not t.a.closed) (stands Close ds f at)).0))
          (close_grows h.out.sender h.waiting six.send_a h.apps.book) h.apps_back.receives.capacity h.apps_back.whole)

      act_read : Fare start t → (ds : List AppDuty) → t.a.agenda ≡ Read ∷ ds → Running start plan k j s v (after_a (app_ask Read t.a) t)
      act_read f ds at =
          let ask = Ask.Reassembly A (ReassemblyCall.Read 65536) in
          subst (λ (side : Side). Running start plan k j s v (after_a (Ask.Reassembly side (ReassemblyCall.Read 65536)) t))
          (sym f.a.side_is) (acted ask six.send_a (after_read 65536 six.reassembly_a) (books_after ask t.at_a.pass t.books)
          (acts_by_read k s t0 h.stage h.out j v u0 h.stage_back h.back now now_back t.a six.send_a six.reassembly_a h.apps.writes
          h.apps_back.reads (from_read t.a.agenda ds h.turn at) (not-true t.a.told (stands Read ds f at)))
          (record { book = h.apps.book; more = le_refl _; fin = refl }) (read_keeps 65536 six.reassembly_a ∙ h.apps_back.receives.capacity)
          (read_whole 65536 six.reassembly_a h.apps_back.whole))

      act_end : (ds : List AppDuty) → t.a.agenda ≡ End ∷ ds → Running start plan k j s v (after_a (app_ask End t.a) t)
      act_end ds at = acted (Ask.Local LocalStep.End) six.send_a six.reassembly_a refl
          (acts_by_end k s t0 h.stage h.out j v u0 h.stage_back h.back now now_back t.a six.send_a six.reassembly_a h.apps.writes
          h.apps_back.reads (from_end t.a.agenda ds h.turn at))
          (record { book = h.apps.book; more = le_refl _; fin = refl }) h.apps_back.receives.capacity h.apps_back.whole

      acted_back : (ask : Ask) (send : Sending) (arrived : Arriving)
          → books_in (after_entry ask t.at_b.pass t.books) ≡ record six { send_b = send; reassembly_b = arrived }
          → Acts j v u0 h.stage_back h.back k s t0 h.stage h.out now_back now (app_takes (answer_to t.books ask) t.b) send arrived
          → Grows h.back.sender h.waiting_back six.send_b send → arrived.capacity ≡ k.buffer → arrived.places ≡ map Some (filled arrived.places)
          → Running start plan k j s v (after_b ask t)
      acted_back ask send arrived only acts grows capacity whole = record {
        walker = h.walker;
        alone = h.alone;
        runs = record {
          path = h.path;
          link = h.link;
          faces = rebooked (keys_in start) k j s v t.a (app_takes (answer_to t.books ask) t.b) _ _ h.walker.path (sym only) (record {
            out = record h.out { reader = acts.reads.reader };
            back = record h.back { writer = acts.writes.writer };
            stage = h.stage;
            stage_back = h.stage_back;
            going = record {
              count = more_than acts.reads.count h.going.count;
              moves = moves_then k s h.going.count acts.reads.count all_left s h.stage h.out h.stage
                  (record h.out { reader = acts.reads.reader }) h.going.moves acts.reads.moves;
            };
            going_back = record {
              count = more_than acts.writes.count h.going_back.count;
              moves = moves_then j v h.going_back.count acts.writes.count all_left v h.stage_back h.back h.stage_back
                  (record h.back { writer = acts.writes.writer }) h.going_back.moves acts.writes.moves;
            };
            now = h.now;
            now_back = h.now_back;
            hand = h.hand;
            hand_back = h.hand_back;
            owes = h.owes;
            owes_back = h.owes_back;
            waiting = h.waiting;
            waiting_back = h.waiting_back;
            own = h.own;
            other = h.other;
            way = h.way;
            way_back = h.way_back;
            apps = record {
              writes = record { numbers = h.apps.writes.numbers; over = h.apps.writes.over };
              reads = acts.reads.shows;
              receives = record {
                read = acts.reads.shows.numbers.bytes;
                received = acts.reads.shows.received;
                known = acts.reads.shows.numbers.known;
                capacity = capacity;
              };
              book = h.apps.book;
              room = h.apps.room;
              whole = whole;
              fin = h.apps.fin;
            };
            apps_back = record {
              writes = acts.writes.shows;
              reads = record { numbers = h.apps_back.reads.numbers; received = h.apps_back.reads.received; over = h.apps_back.reads.over };
              receives = record {
                read = h.apps_back.receives.read;
                received = h.apps_back.receives.received;
                known = h.apps_back.receives.known;
                capacity = h.apps_back.receives.capacity;
              };
              book = grows.book;
              room = omega (arith, h.apps_back.room, h.apps_back.writes.numbers.bytes, acts.writes.shows.numbers.bytes, grows.more);
              whole = h.apps_back.whole;
              fin = λ e. h.apps_back.fin (sym grows.fin ∙ e);
            };
            stages = h.stages;
            stages_back = h.stages_back;
            control = h.control;
            control_back = h.control_back;
            turn = h.turn;
            turn_back = acts.turn;
            settles = h.settles;
            settles_back = h.settles_back;
            begins = h.begins;
            begins_back = h.begins_back;
            owed = h.owed;
            owed_back = h.owed_back;
          });
          treats = h.treats;
        };
      }

      stands_b : (d : AppDuty) (ds : List AppDuty) → Fare start t → t.b.agenda ≡ d ∷ ds → app_stands d t.b ≡ true
      stands_b d ds f at = subst (λ (es : List AppDuty). FirstAppStands es t.b) at f.b.settled

      act_b_write : Fare start t → (ds : List AppDuty) → t.b.agenda ≡ Write ∷ ds → Running start plan k j s v (after_b (app_ask Write t.b) t)
      act_b_write f ds at =
          let ask = Ask.Send B (SendCall.Write (offered t.b)) in
          subst (λ (side : Side). Running start plan k j s v (after_b (Ask.Send side (SendCall.Write (offered t.b))) t))
          (sym f.b.side_is) (acted_back ask (after_write (offered t.b) six.send_b) six.reassembly_b (books_after ask t.at_b.pass t.books)
          (acts_by_write j v u0 h.stage_back h.back k s t0 h.stage h.out now_back now t.b six.send_b six.reassembly_b h.apps_back.writes
          h.apps.reads (from_write t.b.agenda ds h.turn_back at) (some_left t.b.rest (stands_b Write ds f at)) small_back)
          (write_grows h.back.sender h.waiting_back (offered t.b) six.send_b h.apps_back.book) h.apps.receives.capacity h.apps.whole)

      act_b_close : Fare start t → (ds : List AppDuty) → t.b.agenda ≡ Close ∷ ds → Running start plan k j s v (after_b (app_ask Close t.b) t)
      act_b_close f ds at =
          let ask = Ask.Send B SendCall.Close in
          subst (λ (side : Side). Running start plan k j s v (after_b (Ask.Send side SendCall.Close) t)) (sym f.b.side_is)
          (acted_back ask (after_close six.send_b) six.reassembly_b (books_after ask t.at_b.pass t.books)
          (acts_by_close j v u0 h.stage_back h.back k s t0 h.stage h.out now_back now t.b six.send_b six.reassembly_b h.apps_back.writes
          h.apps.reads (from_close t.b.agenda ds h.turn_back at)
          (none_left t.b.rest (and_parts (is_nil t.b.rest) (not t.b.closed) (stands_b Close ds f at)).0))
          (close_grows h.back.sender h.waiting_back six.send_b h.apps_back.book) h.apps.receives.capacity h.apps.whole)

      act_b_read : Fare start t → (ds : List AppDuty) → t.b.agenda ≡ Read ∷ ds → Running start plan k j s v (after_b (app_ask Read t.b) t)
      act_b_read f ds at =
          let ask = Ask.Reassembly B (ReassemblyCall.Read 65536) in
          subst (λ (side : Side). Running start plan k j s v (after_b (Ask.Reassembly side (ReassemblyCall.Read 65536)) t))
          (sym f.b.side_is) (acted_back ask six.send_b (after_read 65536 six.reassembly_b) (books_after ask t.at_b.pass t.books)
          (acts_by_read j v u0 h.stage_back h.back k s t0 h.stage h.out now_back now t.b six.send_b six.reassembly_b h.apps_back.writes
          h.apps.reads (from_read t.b.agenda ds h.turn_back at) (not-true t.b.told (stands_b Read ds f at)))
          (record { book = h.apps_back.book; more = le_refl _; fin = refl }) (read_keeps 65536 six.reassembly_b ∙ h.apps.receives.capacity)
          (read_whole 65536 six.reassembly_b h.apps.whole))

      act_b_end : (ds : List AppDuty) → t.b.agenda ≡ End ∷ ds → Running start plan k j s v (after_b (app_ask End t.b) t)
      act_b_end ds at = acted_back (Ask.Local LocalStep.End) six.send_b six.reassembly_b refl
          (acts_by_end j v u0 h.stage_back h.back k s t0 h.stage h.out now_back now t.b six.send_b six.reassembly_b h.apps_back.writes
          h.apps.reads (from_end t.b.agenda ds h.turn_back at))
          (record { book = h.apps_back.book; more = le_refl _; fin = refl }) h.apps.receives.capacity h.apps.whole

    -- a step of A's application, of those that a lemma over all steps asks for (`Stepwise`)
    pub act_a : (t : Cast Carried) → Fare start t → (d : AppDuty) (ds : List AppDuty) → t.a.agenda ≡ d ∷ ds
        → Running start plan k j s v t → Running start plan k j s v (after_a (app_ask d t.a) t)
    act_a t f Write ds at h = act_write t h f ds at
    act_a t f Close ds at h = act_close t h f ds at
    act_a t f Read ds at h = act_read t h f ds at
    act_a t f End ds at h = act_end t h ds at
    act_a t f FastClose ds at h = absurd (no_stop t.a.agenda FastClose ds h.turn at refl)
    act_a t f AbortSend ds at h = absurd (no_stop t.a.agenda AbortSend ds h.turn at refl)
    act_a t f AbortReceive ds at h = absurd (no_stop t.a.agenda AbortReceive ds h.turn at refl)

    -- and a step of B's
    pub act_b : (t : Cast Carried) → Fare start t → (d : AppDuty) (ds : List AppDuty) → t.b.agenda ≡ d ∷ ds
        → Running start plan k j s v t → Running start plan k j s v (after_b (app_ask d t.b) t)
    act_b t f Write ds at h = act_b_write t h f ds at
    act_b t f Close ds at h = act_b_close t h f ds at
    act_b t f Read ds at h = act_b_read t h f ds at
    act_b t f End ds at h = act_b_end t h ds at
    act_b t f FastClose ds at h = absurd (no_stop t.b.agenda FastClose ds h.turn_back at refl)
    act_b t f AbortSend ds at h = absurd (no_stop t.b.agenda AbortSend ds h.turn_back at refl)
    act_b t f AbortReceive ds at h = absurd (no_stop t.b.agenda AbortReceive ds h.turn_back at refl)
