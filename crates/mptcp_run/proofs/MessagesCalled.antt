-- The calls on the outside of a run of messages that came to its own end.
use Rattle.std.proofs.Common.{◌≡◌, refl, sym, ◌∙◌, ap, subst, ℕ, ◌<◌, ◌^◌, List, [], ◌∷◌, ◌++◌, map, length, Option, Some, None, IfSome, append_assoc}
use Rattle.std.proofs.lemmas.List.{map-append}
use Rattle.outside_kit.specs.declared.port.Port.TheVariants.{ReadByB, Log}
use Rattle.outside_kit.specs.Calls.{Call, Made, Load, Bind, Put}
use Rattle.octet_text.specs.Lines.{text_lines}
use Rattle.octet_text.specs.Prefix.{IsPrefix}
use Rattle.message_pipe.specs.Lines.{framed, line_of}
use Rattle.message_pipe.specs.Below.{AllMade, Passed, Readers, no_readers, AreBelow}
use Rattle.message_pipe.specs.OnePut.{pieces_in, AreMessages}
use Rattle.message_pipe.proofs.LinesAgain.{all_ones, front_ones, lines_have}
use Rattle.message_pipe.proofs.OnePut.{one_by_one}
use Rattle.run_words.specs.Lines.{Line}
use Rattle.run_outside.specs.declared.status.Status.{Status}
use Rattle.run_outside.specs.Inputs.{order_of}
use Rattle.run_outside.specs.Plan.{succeeded, Adds, load_of, loads_of, binds_of, plan_of}
use Rattle.mptcp_run.specs.MessagesCalls.{EndsWithLine, AreFirstLines, AreLines, CalledToEnd}
use Rattle.mptcp_run.specs.Task.{Task}

-- ---- calls that succeeded, one after the other

pub all_made : (plan : List Call) → AllMade (map succeeded plan)
all_made [] = tt
all_made (call ∷ plan) = (refl, all_made plan)

-- a load is the first call below
load_first : (name : List ℕ) (plan : List Call) (was now : Readers) (below : List Made) → AreBelow was (map succeeded (Load name ∷ plan)) below now
    → (rest : List Made) × (below ≡ succeeded (Load name) ∷ rest) × AreBelow was (map succeeded plan) rest now
load_first name plan was now below h =
    (h.1, h.2 ∙ ap (λ l. l ++ h.1) h.3.1.0, subst (λ r. AreBelow r (map succeeded plan) h.1 now) h.3.1.1 h.3.2)

-- and both binds are, where nothing was put
binds_first : (line : Line) (puts : List Call) (now : Readers) (below : List Made) → AreBelow no_readers (map succeeded (binds_of line ++ puts)) below now
    → (rest : List Made) × (below ≡ map succeeded (binds_of line) ++ rest) × AreBelow no_readers (map succeeded puts) rest now
binds_first line puts now below h =
    let b = h.3 in
    let a = b.2.3 in (
      b.2.1,
      h.2 ∙ (ap (λ l. l ++ h.1) b.1.0 ∙ ap (λ l. succeeded (Bind ReadByB line.names.read_by_b) ∷ l) (b.2.2 ∙ ap (λ l. l ++ b.2.1) a.1.0)),
      subst (λ r. AreBelow r (map succeeded puts) b.2.1 now) (a.1.1 ∙ ap (λ (r : Readers). record r { read_by_a = no_readers.read_by_a }) b.1.1) a.2,
    )

-- the log's load, where there is one
order_first : (order : Option (List ℕ)) (plan : List Call) (was now : Readers) (below : List Made) → AreBelow was (map succeeded (load_of order ++ plan)) below now
    → (rest : List Made) × (below ≡ map succeeded (load_of order) ++ rest) × AreBelow was (map succeeded plan) rest now
order_first None plan was now below h = (below, refl, h)
order_first (Some name) plan was now below h = load_first name plan was now below h

-- the put of the last line is the last one below
log_last : (before : List Call) (text : List ℕ) (was now : Readers) (below : List Made) → AreBelow was (map succeeded (before ++ Put Log text ∷ [])) below now
    → (front : List Made) × (below ≡ front ++ succeeded (Put Log text) ∷ [])
log_last [] text was now below h = ([], h.2 ∙ (ap (λ l. l ++ h.1) h.3.1.0 ∙ ap (λ l. succeeded (Put Log text) ∷ l) h.3.2.0))
log_last (call ∷ before) text was now below h =
    let rest = log_last before text h.3.0 now h.1 h.3.2 in
    (h.0 ++ rest.0, h.2 ∙ (ap (λ l. h.0 ++ l) rest.1 ∙ sym (append_assoc h.0 rest.0 (succeeded (Put Log text) ∷ []))))

abbrev call_in : Made → Call
call_in made = made.call

succeeded_again : (calls : List Made) → AllMade calls → calls ≡ map succeeded (map call_in calls)
succeeded_again [] all = refl
succeeded_again (one ∷ calls) all =
    let first : one ≡ succeeded one.call = ap (λ ok. record { call = one.call; ok = ok }) all.0 in
    ap (λ m. m ∷ calls) first ∙ ap (λ l. succeeded one.call ∷ l) (succeeded_again calls all.1)

-- ---- all calls of a run

-- the calls below: the same loads and binds, and what the puts came to
plan_comes : (line : Line) (puts : List Call) (now : Readers) (below : List Made) → AreBelow no_readers (map succeeded (plan_of (loads_of line) line puts)) below now
    → (rest : List Made) × ((calls : List Call) → rest ≡ map succeeded calls → below ≡ map succeeded (plan_of (loads_of line) line calls)) × AreBelow no_readers (map succeeded puts) rest now
plan_comes line puts now below h =
    let order = order_of line.work in
    let behind : List Call → List Call = λ calls. load_of order ++ (binds_of line ++ calls) in
    let script = load_first line.names.script (Load line.names.file_a ∷ Load line.names.file_b ∷ behind puts) no_readers now below h in
    let a = load_first line.names.file_a (Load line.names.file_b ∷ behind puts) no_readers now script.0 script.2 in
    let b = load_first line.names.file_b (behind puts) no_readers now a.0 a.2 in
    let log = order_first order (binds_of line ++ puts) no_readers now b.0 b.2 in
    let bound = binds_first line puts now log.0 log.2 in (
      bound.0,
      λ calls is.
          script.1 ∙ ap (λ l. succeeded (Load line.names.script) ∷ l) (a.1 ∙ ap (λ l. succeeded (Load line.names.file_a) ∷ l)
          (b.1 ∙ ap (λ l. succeeded (Load line.names.file_b) ∷ l)
          (log.1 ∙ (ap (λ l. map succeeded (load_of order) ++ l) (bound.1 ∙ (ap (λ l. map succeeded (binds_of line) ++ l) is ∙ sym (map-append succeeded (binds_of line) calls)))
          ∙ sym (map-append succeeded (load_of order) (binds_of line ++ calls)))))),
      bound.2,
    )

-- what was put for a reader
pub first_lines : (file : Option (List ℕ)) (passed : Passed) (pieces : List (List ℕ)) → IfSome file (λ text. length text < 2 ^ 32) → IfSome file (λ text. IsPrefix passed.octets (framed text))
    → AreMessages passed pieces → IfSome file (λ text. AreFirstLines text pieces)
first_lines None passed pieces small prefix h = tt
first_lines (Some text) passed pieces small prefix h = record {
  messages = h.messages;
  are = front_ones passed.octets h.messages (text_lines text) passed.behind h.have (lines_have text small) h.octets_are prefix;
  pieces_are = h.pieces_are;
}

pub all_lines : (file : Option (List ℕ)) (passed : Passed) (pieces : List (List ℕ)) → IfSome file (λ text. length text < 2 ^ 32) → IfSome file (λ text. passed.octets ≡ framed text)
    → AreMessages passed pieces → IfSome file (λ text. pieces ≡ map line_of (text_lines text))
all_lines None passed pieces small is h = tt
all_lines (Some text) passed pieces small is h =
    h.pieces_are ∙ ap (map line_of) (all_ones h.messages (text_lines text) passed.behind h.have (lines_have text small) (sym h.octets_are ∙ is) h.no_more)

ends_with : (task : Option Task) (puts : List Call) (now : Readers) (below : List Made) → AreBelow no_readers (map succeeded puts) below now → IfSome task (λ _. EndsWithLine puts)
    → IfSome task (λ _. EndsWithLine (map call_in below))
ends_with None puts now below are h = tt
ends_with (Some task) puts now below are h =
    let last = log_last h.before h.text no_readers now below (subst (λ calls. AreBelow no_readers (map succeeded calls) below now) h.puts_are are) in
    record { before = map call_in last.0; text = h.text; puts_are = ap (map call_in) last.1 ∙ map-append call_in last.0 (succeeded (Put Log h.text) ∷ []) }

pub called_to_end : (status : Status) (file_a file_b : Option (List ℕ)) (task : Option Task) (line : Line) (told tells : Option (List Made)) (puts : List Call) (above below : List Made) (now : Readers)
    → above ≡ map succeeded (plan_of (loads_of line) line puts) → IfSome task (λ _. EndsWithLine puts) → AreBelow no_readers above below now → Adds below told tells
    → ((pieces : List (List ℕ)) → AreMessages now.read_by_b pieces → IfSome file_a (λ file. AreLines status file pieces))
    → ((pieces : List (List ℕ)) → AreMessages now.read_by_a pieces → IfSome file_b (λ file. AreLines status file pieces))
    → CalledToEnd status file_a file_b task line told tells
called_to_end status file_a file_b task line told tells puts above below now is ends are added of_a of_b =
    let plan = plan_comes line puts now below (subst (λ l. AreBelow no_readers l below now) is are) in
    let messages = one_by_one (map succeeded puts) plan.0 now plan.2 (all_made puts) in
    let again = succeeded_again plan.0 messages.all in
    record {
      puts = map call_in plan.0;
      calls = subst (λ l. Adds l told tells) (plan.1 (map call_in plan.0) again) added;
      last = ends_with task puts now plan.0 plan.2 ends;
      for_b = subst (λ l. IfSome file_a (λ file. AreLines status file (pieces_in l).for_b)) again (of_a (pieces_in plan.0).for_b messages.for_b);
      for_a = subst (λ l. IfSome file_b (λ file. AreLines status file (pieces_in l).for_a)) again (of_b (pieces_in plan.0).for_a messages.for_a);
    }
