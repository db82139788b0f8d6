-- What the steps of an application make of the two directions: it writes into the one, and reads from the other.
use Rattle.world_laws.proofs.Words.{◌≡◌, refl, sym, ◌∙◌, ap, ℕ, zero, suc, ◌≤◌, ◌||◌, not, Bool, true, false, if◌then◌else◌, List, [], ◌∷◌, ◌++◌, length, take}
use Rattle.world_laws.proofs.Words.{drop, replicate, arith, or_parts, both_ways, false≢true, append-nil, append_assoc, list_any, ReassemblyReply, Sending, Free}
use Rattle.world_laws.proofs.Words.{no_paths, SendReply, Note, Reply, is_nil, AppDuty, AppState, app_stands, bytes_in, ends_in, app_settled, taken_in}
use Rattle.world_laws.proofs.Words.{IsAppSettled, is_done, Reader, takes_read, if_so, read_by, was_told, tells_end, note_tells, bytes_noted, tells_stop}
use Rattle.send_book.specs.Steps as send

-- ---- lists that grow

pub any_more : {X : Type 0} (test : X → Bool) (xs : List X) (x : X) → list_any test (xs ++ x ∷ []) ≡ (list_any test xs || test x)
any_more test [] x = elim (test x) as (λ b. (b || false) ≡ b) [ true ↦ refl | false ↦ refl ]
any_more test (y ∷ xs) x = (elim (test y) as (λ b. list_any test (xs ++ x ∷ []) ≡ (list_any test xs || test x) → (b || list_any test (xs ++ x ∷ [])) ≡ ((b || list_any test xs) || test x))
    [ true ↦ λ rest. refl | false ↦ λ rest. rest ]) (any_more test xs x)

read_more : (notes : List Note) (n : Note) → read_by (notes ++ n ∷ []) ≡ read_by notes ++ bytes_noted n
read_more [] n = append-nil (bytes_noted n)
read_more (note ∷ notes) n = ap (λ xs. bytes_noted note ++ xs) (read_more notes n) ∙ sym (append_assoc (bytes_noted note) (read_by notes) (bytes_noted n))

or_false : (b : Bool) → (b || false) ≡ b
or_false = elim [ true ↦ refl | false ↦ refl ]

pub or_true : (b : Bool) → (b || true) ≡ true
or_true = elim [ true ↦ refl | false ↦ refl ]

-- ---- an application

-- what the steps of the application are, and the book that it writes into
pub record Writes (file : List ℕ) (rest : List ℕ) (send : Sending) : Type 0 where
  pub prefix : file ≡ send.written ++ rest
  pub whole : send.closed ≡ true → rest ≡ []

-- the reader is what the steps say
pub record Reads (told : Bool) (notes : List Note) (r : Reader) : Type 0 where
  pub out_is : r.out ≡ read_by notes
  pub told_is : r.told ≡ was_told tells_end notes
  pub stopped_is : r.stopped ≡ was_told tells_stop notes
  pub done_is : told ≡ is_done r

-- ---- the agenda

same_stands : (d : AppDuty) (ds : List AppDuty) (a : AppState) → app_stands d a ≡ true → app_stands d (record a { agenda = d ∷ ds }) ≡ true
same_stands = elim [ AppDuty.FastClose ↦ λ ds a is. is | _ ↦ λ ds a is. is ]

-- settling changes the agenda alone, and what then stands first comes to something
pub record Settles (a b : AppState) : Type 0 where
  pub agenda : List AppDuty
  pub is : b ≡ record a { agenda = agenda }
  pub settled : IsAppSettled b

pub settled_app : (ds : List AppDuty) (a : AppState) → Settles a (app_settled ds a)
settled_app [] a = record { agenda = []; is = refl; settled = tt }
settled_app (d ∷ ds) a = (elim (app_stands d a) as (λ b. app_stands d a ≡ b → Settles a (app_settled ds a) → Settles a (if b then record a { agenda = d ∷ ds } else app_settled ds a))
    [ true ↦ λ is rest. record { agenda = d ∷ ds; is = refl; settled = same_stands d ds a is } | false ↦ λ is rest. rest ]) refl (settled_app ds a)

-- ---- writing

-- what is taken is the front of what was offered, which is the front of what is left
taken_front : (count buffer : ℕ) (rest : List ℕ) → count ≤ length (take buffer rest) → take count (take buffer rest) ++ drop count rest ≡ rest
taken_front zero buffer rest most = refl
taken_front (suc count) zero rest most = absurd (omega (arith, most))
taken_front (suc count) (suc buffer) [] most = absurd (omega (arith, most))
taken_front (suc count) (suc buffer) (x ∷ rest) most = ap (λ xs. x ∷ xs) (taken_front count buffer rest (omega (arith, most)))

pub writes_more : (file rest : List ℕ) (buffer : ℕ) (b : Sending) → not (is_nil rest) ≡ true → Writes file rest b
    → Writes file (drop (taken_in (Reply.Send (send.write_reply (take buffer rest) b))) rest) (send.after_write (take buffer rest) b)
writes_more file rest buffer b some h = by (b.closed || b.aborted) refl
  where
    nonempty : (xs : List ℕ) → not (is_nil xs) ≡ true → xs ≡ [] → ⊥
    nonempty = elim [ [] ↦ λ is e. false≢true is | x ∷ xs ↦ λ is e. cc ]

    by : (shut : Bool) → (b.closed || b.aborted) ≡ shut
        → Writes file (drop (taken_in (Reply.Send (if shut then SendReply.Shut else SendReply.Taken (send.bytes_taken (take buffer rest) b)))) rest)
        (if shut then b else record b {
          written = b.written ++ take (send.bytes_taken (take buffer rest) b) (take buffer rest);
          marks = b.marks ++ replicate (send.bytes_taken (take buffer rest) b) (Free no_paths);
        })
    by true is = h
    by false is = record {
      prefix = h.prefix ∙ ap (λ xs. b.written ++ xs) (sym (taken_front (send.bytes_taken (take buffer rest) b) buffer rest (omega arith)))
          ∙ sym (append_assoc b.written (take (send.bytes_taken (take buffer rest) b) (take buffer rest)) (drop (send.bytes_taken (take buffer rest) b) rest));
      whole = λ closed. absurd (both_ways b.closed (or_parts b.closed b.aborted is).0 closed);
    }

pub closes : (file : List ℕ) (b : Sending) → Writes file [] b → Writes file [] (send.after_close b)
closes file b h = if_so (Writes file []) b.aborted b (record b { closed = true }) h (record { prefix = h.prefix; whole = λ closed. refl })

-- ---- reading

-- the note of a read adds to the reader what the reply says
pub reads_more : (told : Bool) (notes : List Note) (r : Reader) (reply : ReassemblyReply) (n : Note) → n.reply ≡ Reply.Reassembly reply → Reads told notes r
    → Reads (told || ends_in (Reply.Reassembly reply)) (notes ++ n ∷ []) (takes_read reply r)
reads_more told notes r reply n is h = by reply is
  where
    other : (reply : ReassemblyReply) → n.reply ≡ Reply.Reassembly reply → bytes_in (Reply.Reassembly reply) ≡ [] → tells_end (Reply.Reassembly reply) ≡ false → tells_stop (Reply.Reassembly reply) ≡ false
        → ends_in (Reply.Reassembly reply) ≡ false → Reads (told || ends_in (Reply.Reassembly reply)) (notes ++ n ∷ []) r
    other reply is bytes end stop ends = record {
      out_is = h.out_is ∙ sym (read_more notes n ∙ ap (λ x. read_by notes ++ bytes_in x) is ∙ ap (λ xs. read_by notes ++ xs) bytes ∙ append-nil (read_by notes));
      told_is = h.told_is ∙ sym (any_more (note_tells tells_end) notes n ∙ ap (λ x. was_told tells_end notes || tells_end x) is ∙ ap (λ b. was_told tells_end notes || b) end ∙ or_false (was_told tells_end notes));
      stopped_is = h.stopped_is ∙ sym (any_more (note_tells tells_stop) notes n ∙ ap (λ x. was_told tells_stop notes || tells_stop x) is ∙ ap (λ b. was_told tells_stop notes || b) stop ∙ or_false (was_told tells_stop notes));
      done_is = ap (λ b. told || b) ends ∙ or_false told ∙ h.done_is;
    }

    by : (reply : ReassemblyReply) → n.reply ≡ Reply.Reassembly reply → Reads (told || ends_in (Reply.Reassembly reply)) (notes ++ n ∷ []) (takes_read reply r)
    by (ReassemblyReply.Bytes bytes) is = record {
      out_is = ap (λ xs. xs ++ bytes) h.out_is ∙ sym (read_more notes n ∙ ap (λ x. read_by notes ++ bytes_in x) is);
      told_is = h.told_is ∙ sym (any_more (note_tells tells_end) notes n ∙ ap (λ x. was_told tells_end notes || tells_end x) is ∙ or_false (was_told tells_end notes));
      stopped_is = h.stopped_is ∙ sym (any_more (note_tells tells_stop) notes n ∙ ap (λ x. was_told tells_stop notes || tells_stop x) is ∙ or_false (was_told tells_stop notes));
      done_is = or_false told ∙ h.done_is;
    }
    by ReassemblyReply.End is = record {
      out_is = h.out_is ∙ sym (read_more notes n ∙ ap (λ x. read_by notes ++ bytes_in x) is ∙ append-nil (read_by notes));
      told_is = sym (any_more (note_tells tells_end) notes n ∙ ap (λ x. was_told tells_end notes || tells_end x) is ∙ or_true (was_told tells_end notes));
      stopped_is = h.stopped_is ∙ sym (any_more (note_tells tells_stop) notes n ∙ ap (λ x. was_told tells_stop notes || tells_stop x) is ∙ or_false (was_told tells_stop notes));
      done_is = or_true told;
    }
    by (ReassemblyReply.Aborted by_peer) is = record {
      out_is = h.out_is ∙ sym (read_more notes n ∙ ap (λ x. read_by notes ++ bytes_in x) is ∙ append-nil (read_by notes));
      told_is = h.told_is ∙ sym (any_more (note_tells tells_end) notes n ∙ ap (λ x. was_told tells_end notes || tells_end x) is ∙ or_false (was_told tells_end notes));
      stopped_is = sym (any_more (note_tells tells_stop) notes n ∙ ap (λ x. was_told tells_stop notes || tells_stop x) is ∙ or_true (was_told tells_stop notes));
      done_is = or_true told ∙ sym (or_true r.told);
    }
    by (ReassemblyReply.Placed count) is = other (ReassemblyReply.Placed count) is refl refl refl refl
    by reply is = other reply is refl refl refl refl

-- a step at no reassembly book leaves the reader as it is
pub reads_on : (told : Bool) (notes : List Note) (r : Reader) (n : Note) → bytes_in n.reply ≡ [] → tells_end n.reply ≡ false → tells_stop n.reply ≡ false
    → Reads told notes r → Reads told (notes ++ n ∷ []) r
reads_on told notes r n bytes end stop h = record {
  out_is = h.out_is ∙ sym (read_more notes n ∙ ap (λ xs. read_by notes ++ xs) bytes ∙ append-nil (read_by notes));
  told_is = h.told_is ∙ sym (any_more (note_tells tells_end) notes n ∙ ap (λ b. was_told tells_end notes || b) end ∙ or_false (was_told tells_end notes));
  stopped_is = h.stopped_is ∙ sym (any_more (note_tells tells_stop) notes n ∙ ap (λ b. was_told tells_stop notes || b) stop ∙ or_false (was_told tells_stop notes));
  done_is = h.done_is;
}
