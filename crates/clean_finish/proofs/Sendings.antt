-- An end sends a segment: both lanes and the link, whatever it brings.
--
-- A segment is one record for both lanes (`Sent`), which says what it brings and what it tells; that a copy on the link
-- is that segment is one equation (`FliesAs`). Sending puts one at the end (`proofs/Sendings`, for every kind), and an
-- arrival moves it to a hand, from which the lane of what it brings and the lane of what it acknowledges take it one
-- after the other (`proofs/Hands`).
use Rattle.clean_finish.proofs.Words.{◌≡◌, refl, sym, subst, ℕ, ◌+◌, ◌≤◌, Bool, true, false, ◌⊎◌, inl, Option, List, [], ◌∷◌, ◌++◌, arith, Side, peer, Flight}
use Rattle.clean_finish.proofs.Words.{Duty, StepDuty, Profile, Carried, PathEnd, Setting, Lane, Move, MaySay, says, goes_back, said_by, sends, AreTaken, Hand}
use Rattle.clean_finish.proofs.Words.{EndIs, WayIs, brings_still, Sent, Keys, BringsAs, copy_in, CountsAs, TellsAs, AcknowledgesAs, ShowsFirst, FliesAs, Facing}
use Rattle.clean_finish.proofs.Words.{Half, Has, StageIs, HasNotBegun, IsSettledSoon}
use Rattle.clean_finish.proofs.Opened.{waiting_on, before_waiting, stage_waits}
use Rattle.clean_finish.proofs.Passing.{stands_then}
use Rattle.clean_finish.proofs.Ways.{way_more}

-- where it has no bytes
pub same_bytes : {waiting : ℕ} (granted : ℕ) → waiting ≡ 0 → granted + 0 + 0 ≡ granted + waiting
same_bytes granted none = omega (arith, none)

module _ {s : Side} {keys : Keys} {k j : Setting} {c : Profile} {begun begun_back : Lane} {m n : Half} {clock until : ℕ} {es : List Duty}
    (h : Facing s keys k j c begun begun_back m n clock until es) (x : Sent) (shut : Bool)
  where
    abbrev pub out_after : Lane
    out_after = sends shut (copy_in x) h.out

    abbrev pub back_after : Lane
    back_after = said_by (copy_in x) h.back

    -- the lanes may, with what is still to be answered and told
    module _ (ds : List Duty) (move : Move k begun (waiting_on h.stage) h.out (waiting_on h.stage) out_after)
        (tell update : Bool) (say : MaySay j begun_back (waiting_on h.stage_back) tell update (copy_in x) h.back)
        -- the end after it
        (e : PathEnd) (hand : Option Hand) (owes : Bool) (waiting : ℕ)
        (own : EndIs s keys k j out_after.sender back_after.receiver hand owes waiting e)
        -- the link after it
        (fs gs : List (Flight Carried)) (f : Flight Carried) (flies : FliesAs c keys s f x) (more : fs ≡ m.flying ++ f ∷ []) (same : gs ≡ n.flying)
        -- the segment stands where the others end
        (acknowledges : AcknowledgesAs j.total x × ShowsFirst s x × BringsAs k.total x.low x.edge x.brings) (tells : TellsAs j.least s x.window x.telling x.brings) (low : x.low ≡ h.out.granted)
        (counts : CountsAs h.out.control_sent h.out.keys_sent x.control x.keys x.brings)
        (edge : m.end.tcp.recv.edge ≤ x.edge) (most : x.edge ≤ e.tcp.recv.edge)
        (control : x.control ≡ out_after.control_sent) (shown : x.keys ≡ out_after.keys_sent)
        (other : WayIs c keys k j (peer s) h.back.sender h.back.receiver h.back.datas h.out.acks hand e.tcp.send.una n.end.tcp.recv.edge n.flying)
        -- what is left to be done
        (room : out_after.granted + waiting ≤ h.out.written) (bytes : out_after.granted + waiting ≡ h.out.granted + h.waiting) (events : Has (Duty.Step StepDuty.Events) ds)
        (stages : StageIs s (peer s) ds n.end.treated.asked h.owes_back h.stage)
        (stages_back : StageIs (peer s) s ds e.treated.asked owes (record (waiting_on h.stage_back) { tell = tell; update = update }))
        (settles : IsSettledSoon s ds e) (settles_back : IsSettledSoon (peer s) ds n.end)
        (begins : 1 ≤ out_after.control_sent)
        (begins_back : (1 ≤ h.back.control_sent) ⊎ HasNotBegun (peer s) k h.back.sender h.out.receiver n.end ds)
        (owed : owes ≡ true → brings_still hand ≡ false → tell ≡ true)
      where
        pub way_after : WayIs c keys j k s out_after.sender out_after.receiver out_after.datas back_after.acks h.hand_back n.end.tcp.send.una e.tcp.recv.edge fs
        way_after = subst (λ (flying : List (Flight Carried)). WayIs c keys j k s out_after.sender out_after.receiver out_after.datas
            back_after.acks h.hand_back n.end.tcp.send.una e.tcp.recv.edge flying) (sym more)
            (way_more c keys j k s h.out.sender out_after.sender h.out.receiver h.hand_back n.end.tcp.send.una m.end.tcp.recv.edge
            e.tcp.recv.edge f x h.out.datas h.back.acks m.flying h.way flies acknowledges tells low counts edge most refl control shown)

        pub way_back_after : WayIs c keys k j (peer s) h.back.sender back_after.receiver h.back.datas out_after.acks hand e.tcp.send.una
            n.end.tcp.recv.edge gs
        way_back_after = subst (λ (flying : List (Flight Carried)). WayIs c keys k j (peer s) h.back.sender back_after.receiver h.back.datas out_after.acks
            hand e.tcp.send.una n.end.tcp.recv.edge flying) (sym same) record {
              sent = other.sent;
              flights = other.flights;
              datas_are = other.datas_are;
              acks_are = other.acks_are;
              follow = other.follow;
              low = other.low;
              control = other.control;
              keys_shown = other.keys_shown;
              rise = other.rise;
              passed = other.passed;
            }

        abbrev pub sent_off : Facing s keys k j c begun begun_back (record m { end = e; flying = fs }) (record n { flying = gs }) clock until ds
        sent_off = record {
          out = out_after;
          back = back_after;
          stage = waiting_on h.stage;
          stage_back = record (waiting_on h.stage_back) { tell = tell; update = update };
          going = stands_then (stands_then h.going (waiting_on h.stage) h.out (goes_back (waiting_on h.stage) (before_waiting h.stage)))
              (waiting_on h.stage) out_after move;
          going_back = stands_then (stands_then h.going_back (waiting_on h.stage_back) h.back
              (goes_back (waiting_on h.stage_back) (before_waiting h.stage_back))) (record (waiting_on h.stage_back) { tell = tell; update = update })
              back_after (says tell update (copy_in x) say);
          now = h.now;
          now_back = h.now_back;
          hand = hand;
          hand_back = h.hand_back;
          owes = owes;
          owes_back = h.owes_back;
          waiting = waiting;
          waiting_back = h.waiting_back;
          own = own;
          other = h.other;
          way = way_after;
          way_back = way_back_after;
          apps = record {
            writes = record { numbers = h.apps.writes.numbers; over = h.apps.writes.over };
            reads = record { numbers = h.apps.reads.numbers; received = h.apps.reads.received; over = h.apps.reads.over };
            receives = record {
              read = h.apps.receives.read;
              received = h.apps.receives.received;
              known = h.apps.receives.known;
              capacity = h.apps.receives.capacity;
            };
            book = record {
              edge = h.apps.book.edge;
              owner = h.apps.book.owner;
              marks = h.apps.book.marks;
              taken = subst (λ (n : ℕ). AreTaken n m.send.marks) (sym bytes) h.apps.book.taken;
            };
            room = room;
            whole = h.apps.whole;
            fin = h.apps.fin;
          };
          apps_back = record {
            writes = record { numbers = h.apps_back.writes.numbers; over = h.apps_back.writes.over };
            reads = record { numbers = h.apps_back.reads.numbers; received = h.apps_back.reads.received; over = h.apps_back.reads.over };
            receives = record {
              read = h.apps_back.receives.read;
              received = h.apps_back.receives.received;
              known = h.apps_back.receives.known;
              capacity = h.apps_back.receives.capacity;
            };
            book = record {
              edge = h.apps_back.book.edge;
              owner = h.apps_back.book.owner;
              marks = h.apps_back.book.marks;
              taken = h.apps_back.book.taken;
            };
            room = h.apps_back.room;
            whole = h.apps_back.whole;
            fin = h.apps_back.fin;
          };
          stages = stage_waits s (peer s) ds n.end.treated.asked h.owes_back h.stage events stages;
          stages_back = stages_back;
          control = h.control;
          control_back = h.control_back;
          turn = h.turn;
          turn_back = h.turn_back;
          settles = settles;
          settles_back = settles_back;
          begins = inl begins;
          begins_back = begins_back;
          owed = owed;
          owed_back = h.owed_back;
        }
