-- A step of an application in both of its lanes: the one that it writes to, and the one that it reads from.
use Rattle.clean_finish.proofs.Words.{◌≡◌, refl, sym, subst, ap, ◌∙◌, ℕ, ◌≤◌, Bool, true, false, not, ◌&&◌, if◌then◌else◌, List, [], ◌∷◌, length, arith}
use Rattle.clean_finish.proofs.Words.{both_ways, Arriving, received, after_read, read_reply, after_write, after_close, write_reply, close_reply, is_nil, Reply}
use Rattle.clean_finish.proofs.Words.{AppDuty, Write, Close, Read, End, AppState, app_takes, offered, app_settled, app_wrote, app_done, app_read, app_reads_on}
use Rattle.clean_finish.proofs.Words.{bytes_in, Setting, Lane, Stage, Going, IsAppTurn, is_writing, WriterShows, WriterGoes, is_reading, ReaderIs, ReaderShows}
use Rattle.clean_finish.proofs.Words.{ReaderGoes, Written, Closed, ReadAll}
use Rattle.send_book.specs.State.{Sending}
use Rattle.clean_finish.specs.Running.IsAppTurn.{Ended}
use Rattle.clean_finish.proofs.Reading.{read_step, follows}
use Rattle.clean_finish.proofs.Writing.{write_step, close_step}

-- `w` is the lane that it writes to, and `x` the one that it reads from
module _ (k : Setting) (s : Lane) (t : ℕ) (p : Stage) (w : Lane) (j : Setting) (v : Lane) (u : ℕ) (q : Stage) (x : Lane)
    (going : Going k s t p w) (going_back : Going j v u q x)
  where
    pub record Acts (a : AppState) (send : Sending) (arrived : Arriving) : Type 0 where
      pub writes : WriterGoes k s p w a send
      pub reads : ReaderGoes j v q x a arrived
      pub turn : IsAppTurn a.agenda

    -- the duties don't matter for what is read, nor for what is written
    same_reader : {a : AppState} {b : Arriving} {ds : List AppDuty} → ReaderIs j x.read x.data_fin_came x.got x.told_end a b
        → ReaderIs j x.read x.data_fin_came x.got x.told_end (record a { agenda = ds }) b
    same_reader now = record {
      bytes = now.bytes;
      count = now.count;
      known = now.known;
      end = now.end;
      whole = now.whole;
      buffer = now.buffer;
      unaborted = now.unaborted;
      stays = now.stays;
    }

    -- after Write and Close it goes on to read, unless it was told the end
    reads_on : (m : AppState) (b : Arriving) → ReaderIs j x.read x.data_fin_came x.got x.told_end m b → x.received ≡ received b
        → x.reader_over ≡ false → ReaderGoes j v q x (app_settled (Close ∷ Read ∷ End ∷ []) m) b
    reads_on m b is came turn = by (is_nil m.rest && not m.closed) m.told is
      where
        by : (stands told : Bool) → ReaderIs j x.read x.data_fin_came x.got x.told_end (record m { told = told }) b
            → ReaderGoes j v q x (if stands then record m { told = told; agenda = Close ∷ Read ∷ End ∷ [] }
            else (if not told then record m { told = told; agenda = Read ∷ End ∷ [] }
            else record m { told = told; agenda = End ∷ [] })) b
        by true told now = follows j v u q x _ b going_back (same_reader now) came (λ e. absurd (both_ways _ e refl)) turn
        by false false now = follows j v u q x _ b going_back (same_reader now) came (λ e. absurd (both_ways _ e refl)) turn
        by false true now = follows j v u q x _ b going_back (same_reader now) came (λ e. refl) turn

    turn_on : (m : AppState) → IsAppTurn (app_settled (Close ∷ Read ∷ End ∷ []) m).agenda
    turn_on m = by (is_nil m.rest && not m.closed) m.told
      where
        by : (stands told : Bool) → IsAppTurn (if stands then record m { told = told; agenda = Close ∷ Read ∷ End ∷ [] }
            else (if not told then record m { told = told; agenda = Read ∷ End ∷ [] }
            else record m { told = told; agenda = End ∷ [] })).agenda
        by true told = Written
        by false false = Closed
        by false true = ReadAll

    -- the reader's turn isn't over before it reads
    unread : (a : AppState) (b : Arriving) (ds : List AppDuty) → ReaderShows j x a b → a.agenda ≡ Write ∷ ds → x.reader_over ≡ false
    unread a b ds shows at = shows.over ∙ ap (λ (es : List AppDuty). not (is_reading es)) at

    pub acts_by_write : (a : AppState) (send : Sending) (b : Arriving) → WriterShows k w a send → ReaderShows j x a b
        → a.agenda ≡ Write ∷ Close ∷ Read ∷ End ∷ [] → 1 ≤ length a.rest → k.total ≤ 16777216
        → Acts (app_takes (Reply.Send (write_reply (offered a) send)) a) (after_write (offered a) send) b
    acts_by_write a send b writes reads at some small = record {
      writes = write_step k s t p w a send going writes at some small;
      reads = subst (λ (ds : List AppDuty). ReaderGoes j v q x (app_takes r (record a { agenda = ds })) b) (sym at)
          (reads_on (app_wrote r (record a { agenda = Write ∷ Close ∷ Read ∷ End ∷ [] })) b (same_but reads.numbers) reads.received
          (unread a b (Close ∷ Read ∷ End ∷ []) reads at));
      turn = subst (λ (ds : List AppDuty). IsAppTurn (app_takes r (record a { agenda = ds })).agenda) (sym at)
          (turn_on (app_wrote r (record a { agenda = Write ∷ Close ∷ Read ∷ End ∷ [] })));
    }
      where
        r : Reply
        r = Reply.Send (write_reply (offered a) send)

        same_but : {rest : List ℕ} {ds : List AppDuty} → ReaderIs j x.read x.data_fin_came x.got x.told_end a b
            → ReaderIs j x.read x.data_fin_came x.got x.told_end (record a { rest = rest; agenda = ds }) b
        same_but now = record {
          bytes = now.bytes;
          count = now.count;
          known = now.known;
          end = now.end;
          whole = now.whole;
          buffer = now.buffer;
          unaborted = now.unaborted;
          stays = now.stays;
        }

    -- after Close
    reads_rest : (m : AppState) (b : Arriving) → ReaderIs j x.read x.data_fin_came x.got x.told_end m b → x.received ≡ received b
        → x.reader_over ≡ false → ReaderGoes j v q x (app_settled (Read ∷ End ∷ []) m) b
    reads_rest m b is came turn = by m.told is
      where
        by : (told : Bool) → ReaderIs j x.read x.data_fin_came x.got x.told_end (record m { told = told }) b
            → ReaderGoes j v q x (if not told then record m { told = told; agenda = Read ∷ End ∷ [] }
            else record m { told = told; agenda = End ∷ [] }) b
        by false now = follows j v u q x _ b going_back (same_reader now) came (λ e. absurd (both_ways _ e refl)) turn
        by true now = follows j v u q x _ b going_back (same_reader now) came (λ e. refl) turn

    turn_rest : (m : AppState) → IsAppTurn (app_settled (Read ∷ End ∷ []) m).agenda
    turn_rest m = by m.told
      where
        by : (told : Bool) → IsAppTurn (if not told then record m { told = told; agenda = Read ∷ End ∷ [] }
            else record m { told = told; agenda = End ∷ [] }).agenda
        by false = Closed
        by true = ReadAll

    pub acts_by_close : (a : AppState) (send : Sending) (b : Arriving) → WriterShows k w a send → ReaderShows j x a b
        → a.agenda ≡ Close ∷ Read ∷ End ∷ [] → a.rest ≡ []
        → Acts (app_takes (Reply.Send (close_reply send)) a) (after_close send) b
    acts_by_close a send b writes reads at none = record {
      writes = close_step k s t p w a send going writes at none;
      reads = subst (λ (ds : List AppDuty). ReaderGoes j v q x (app_takes r (record a { agenda = ds })) b) (sym at)
          (reads_rest closing b (same_but reads.numbers) reads.received
          (reads.over ∙ ap (λ (es : List AppDuty). not (is_reading es)) at));
      turn = subst (λ (ds : List AppDuty). IsAppTurn (app_takes r (record a { agenda = ds })).agenda) (sym at) (turn_rest closing);
    }
      where
        r : Reply
        r = Reply.Send (close_reply send)

        closing : AppState
        closing = record (app_done (record a { agenda = Close ∷ Read ∷ End ∷ [] })) { closed = true }

        same_but : {ds : List AppDuty} → ReaderIs j x.read x.data_fin_came x.got x.told_end a b
            → ReaderIs j x.read x.data_fin_came x.got x.told_end (record a { closed = true; agenda = ds }) b
        same_but now = record {
          bytes = now.bytes;
          count = now.count;
          known = now.known;
          end = now.end;
          whole = now.whole;
          buffer = now.buffer;
          unaborted = now.unaborted;
          stays = now.stays;
        }

    -- its writing is over, and stays so
    writes_no_more : (a : AppState) (send : Sending) → WriterShows k w a send → is_writing a.agenda ≡ false
        → (n : ℕ) (told : Bool) (ds : List AppDuty) → is_writing ds ≡ false
        → WriterGoes k s p w (record a { count = n; told = told; agenda = ds }) send
    writes_no_more a send shows over n told ds still = record {
      writer = w.writer;
      count = 0;
      moves = (refl, refl);
      shows = record {
        numbers = record {
          file = shows.numbers.file;
          bytes = shows.numbers.bytes;
          shut = shows.numbers.shut;
          told = shows.numbers.told;
          whole = shows.numbers.whole;
          heard = shows.numbers.heard;
          offers = shows.numbers.offers;
          buffer = shows.numbers.buffer;
          unaborted = shows.numbers.unaborted;
          stays = shows.numbers.stays;
        };
        over = shows.over ∙ ap not (over ∙ sym still);
      };
    }

    pub acts_by_read : (a : AppState) (send : Sending) (b : Arriving) → WriterShows k w a send → ReaderShows j x a b
        → a.agenda ≡ Read ∷ End ∷ [] → a.told ≡ false
        → Acts (app_takes (Reply.Reassembly (read_reply 65536 b)) a) send (after_read 65536 b)
    acts_by_read a send b writes reads at untold = record {
      writes = subst (λ (ds : List AppDuty). WriterGoes k s p w (app_takes r (record a { agenda = ds })) send) (sym at)
          (writes_on (app_reads_on (bytes_in r) a) (after a).told);
      reads = read_step j v u q x a b going_back reads at untold 65536 (omega arith);
      turn = subst (λ (ds : List AppDuty). IsAppTurn (app_takes r (record a { agenda = ds })).agenda) (sym at)
          (turn_is (app_reads_on (bytes_in r) a) (after a).told);
    }
      where
        r : Reply
        r = Reply.Reassembly (read_reply 65536 b)

        after : AppState → AppState
        after a' = app_read r a'

        rest : Bool → List AppDuty
        rest on = if on then Read ∷ End ∷ [] else End ∷ []

        over : is_writing a.agenda ≡ false
        over = ap is_writing at

        writes_on : (on told : Bool)
            → WriterGoes k s p w (app_settled (rest on) (record a { count = (after a).count; told = told; agenda = rest on })) send
        writes_on true false = writes_no_more a send writes over (after a).count false (Read ∷ End ∷ []) refl
        writes_on true true = writes_no_more a send writes over (after a).count true (End ∷ []) refl
        writes_on false told = writes_no_more a send writes over (after a).count told (End ∷ []) refl

        turn_is : (on told : Bool)
            → IsAppTurn (app_settled (rest on) (record a { count = (after a).count; told = told; agenda = rest on })).agenda
        turn_is true false = Closed
        turn_is true true = ReadAll
        turn_is false told = ReadAll

    pub acts_by_end : (a : AppState) (send : Sending) (b : Arriving) → WriterShows k w a send → ReaderShows j x a b
        → a.agenda ≡ End ∷ [] → Acts (app_takes Reply.Done a) send b
    acts_by_end a send b writes reads at = record {
      writes = subst (λ (ds : List AppDuty). WriterGoes k s p w (app_takes Reply.Done (record a { agenda = ds })) send) (sym at)
          (writes_no_more a send writes (ap is_writing at) a.count a.told [] refl);
      reads = subst (λ (ds : List AppDuty). ReaderGoes j v q x (app_takes Reply.Done (record a { agenda = ds })) b) (sym at) (record {
        reader = x.reader;
        count = 0;
        moves = (refl, refl);
        shows = record {
          numbers = same_reader reads.numbers;
          received = reads.received;
          over = reads.over ∙ ap (λ (es : List AppDuty). not (is_reading es)) at;
        };
      });
      turn = subst (λ (ds : List AppDuty). IsAppTurn (app_takes Reply.Done (record a { agenda = ds })).agenda) (sym at) Ended;
    }
