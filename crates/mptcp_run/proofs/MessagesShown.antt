-- What the readers' ports show after a run over the frames of lines.
--
-- A call that runs another one over an outside of its own (`run_messages`) stands on that one's public clauses alone:
-- one record keeps the inner answer with what was put for each port (`IsRunOverFrames`), and what the ports show
-- follows from it by the status, in one lemma with a line a row (`shown_by` in `proofs/MessagesShown`). It was proved
-- over a stand-in of the crate, of the statuses, the rows' fields that it reads and a `run` that answers `Memory`, in
-- half a minute a check.
use Rattle.std.proofs.Common.{◌≡◌, refl, sym, ◌∙◌, ap, subst, ℕ, ◌+◌, ◌≤◌, ◌<◌, ◌^◌, Bool, true, false, not, if◌then◌else◌, List, [], ◌∷◌, ◌++◌, map, length, Option, Some, None, IfSome, IsSome, IsNone, inl, inr, ◌⊎◌, length-append, append-nil, arith}
use Rattle.std.specs.Prelude.{◌==◌, ◌||◌, ◌&&◌, IsSomeAnd, option_map, option_and_then}
use Rattle.std.specs.List.{onto_first}
use Rattle.std.specs.Str.{bytes_eq}
use Rattle.std.proofs.lemmas.Bool.{and_parts, both_ways, not-true}
use Rattle.std.proofs.lemmas.Slice.Eq.{bytes_eq-Decides}
use Rattle.outside_kit.specs.declared.port.Port.{Port}
use Rattle.outside_kit.specs.declared.port.Port.TheVariants.{ReadByA, ReadByB}
use Rattle.outside_kit.specs.declared.outside.PutFault.{PutFault}
use Rattle.outside_kit.specs.Calls.{Call, Made}
use Rattle.outside_kit.specs.Outside.{Told, HoldsAfter}
use Rattle.octet_text.specs.Lines.{text_lines}
use Rattle.octet_text.specs.Prefix.{IsPrefix}
use Rattle.message_pipe.specs.Frames.{frame_of, frames}
use Rattle.message_pipe.specs.Lines.{message_lines, framed}
use Rattle.message_pipe.specs.LinesShown.{ShowsFirstLines}
use Rattle.message_pipe.specs.Showing.{Counted, ShowsPrefix, PortStands}
use Rattle.message_pipe.specs.Below.{AllMade, CallsStand, passed_of, readers_of}
use Rattle.message_pipe.specs.OnePut.{AreMessages}
use Rattle.message_pipe.specs.Lined.{lined_content, lined_holds, PortsStand}
use Rattle.message_pipe.proofs.CallsBelow.{none_added}
use Rattle.message_pipe.proofs.LinesAgain.{whole_ports_show_all_lines, ports_show_first_lines, refused_ports_show_prefixes}
use Rattle.run_words.specs.Lines.{Line, line_of}
use Rattle.run_outside.specs.declared.status.Named.TheVariants as input
use Rattle.run_outside.specs.declared.status.Status.{Status}
use Rattle.run_outside.specs.declared.status.Status.TheVariants.{Delivered, Rounds, NoPath, Aborted, Usage, Script, Load, Put, TooLong, Memory, Log}
use Rattle.mptcp_run.specs.Answers.{EndRow, HasRun, IsAnswer}
use Rattle.mptcp_run.specs.Ends.{HasEnded}
use Rattle.mptcp_run.specs.MessagesCalls.{AreFirstLines, AreLines, CalledToEnd, EndsWithLine}
use Rattle.mptcp_run.specs.Plan.{puts_so_far}
use Rattle.mptcp_run.specs.Putting.{last_line}
use Rattle.mptcp_run.specs.Task.{Task, task_of}
use Rattle.mptcp_run.specs.Asked.{asked_in, is_run}
use Rattle.mptcp_run.specs.Messages.{as_run, ReadersShowLines, ReadersShowFirstLines, ReadersShowPrefixes, ReadersShowNothing, ReadersShow, IsRunOverFrames, IsMessagesAnswer, is_apart, takes_messages, if_messages, messages_in}
use Rattle.run_outside.specs.Causes.{IsWordsFault}
use Rattle.run_outside.specs.Plan.{loads_of, plan_of, succeeded}
use Rattle.run_outside.specs.Ports.{IsUntouched, Ports}
use Rattle.mptcp_run.specs.Promised.{HoldsPrefixOf, HoldsPrefixIfBound, NoneIsAltered, ReadersHaveFiles, ReadersHavePrefixes, ReadersHavePrefixesIfBound}
use Rattle.run_outside.specs.Inputs.{AreWithinLimits}
use Rattle.run_outside.specs.Reading.{script_in}
use Rattle.world_laws.specs.PlainScripts.{AltersNone}
use Rattle.mptcp_run.proofs.Asking.{asked_is}
use Rattle.mptcp_run.proofs.MessagesCalled.{all_lines, all_made, called_to_end, first_lines}

-- ---- a content is no longer than the frames of its lines

frame_is : (message : List ℕ) → length (frame_of message) ≡ 4 + length message
frame_is message = omega arith

frames_are : (message : List ℕ) (messages : List (List ℕ)) → length (frames (message ∷ messages)) ≡ 4 + length message + length (frames messages)
frames_are message messages = let both = length-append (frame_of message) (frames messages) in let first = frame_is message in omega (arith, both, first)

onto_is : (octet n : ℕ) (parts : List (List ℕ)) → n ≤ length (frames parts) → n + 1 ≤ length (frames (onto_first octet parts))
onto_is octet n [] few = let whole = frames_are (octet ∷ []) [] in omega (arith, whole)
onto_is octet n (part ∷ parts) few =
    let whole = frames_are (octet ∷ part) parts in let before = frames_are part parts in omega (arith, whole, before)

longer_by : (ends : Bool) (octet n : ℕ) (parts : List (List ℕ)) → n ≤ length (frames parts) → n + 1 ≤ length (frames (if ends then [] ∷ parts else onto_first octet parts))
longer_by true octet n parts few = let whole = frames_are [] parts in omega (arith, whole)
longer_by false octet n parts few = onto_is octet n parts few

frames_longer : (content : List ℕ) → length content ≤ length (framed content)
frames_longer [] = omega arith
frames_longer (octet ∷ octets) =
    let most = longer_by (octet == 10) octet (length octets) (text_lines octets) (frames_longer octets) in omega arith

-- ---- one port

module _ (port : Counted) (first held : Option (List ℕ)) (faults_first faults : ℕ) (stand : PortStands port first held faults_first faults) where
  by_refusal : {X : Type 0} (refused : Option PutFault) → port.refused ≡ refused → (port.refused ≡ None → X) → (IsSome port.refused → X) → X
  by_refusal None is whole part = whole is
  by_refusal (Some fault) is whole part = let P : Option PutFault → Type 0 = λ o. IsSome o in part (subst P (sym is) refl)

  -- all that is shown is a prefix of messages that were put
  all_is_prefix : (messages : List (List ℕ)) (before after : Option (List ℕ)) → HoldsAfter before after (λ _. message_lines messages)
      → IfSome before (λ _. IsSomeAnd after (λ text. IsPrefix text (message_lines messages)))
  all_is_prefix messages None after is = tt
  all_is_prefix messages (Some text) after is =
      let P : Option (List ℕ) → Type 0 = λ o. IsSomeAnd o (λ text. IsPrefix text (message_lines messages)) in
      subst P (sym is) (record { rest = []; whole_is = sym (append-nil (message_lines messages)) })

  shows_prefix : ShowsPrefix port first held
  shows_prefix = by_refusal port.refused refl
      (λ none. let whole = stand.shows none in record {
        messages = whole.messages;
        have = whole.have;
        rest = port.behind;
        octets_are = whole.octets_are;
        shown_is = all_is_prefix whole.messages first held whole.shown_is;
      })
      stand.part

  pub shows_prefix_of : (file : List ℕ) → length file < 2 ^ 32 → IsPrefix port.octets (framed file) → HoldsPrefixOf first held (message_lines (text_lines file))
  shows_prefix_of file small prefix = refused_ports_show_prefixes port file first held small prefix shows_prefix

  pub shows_first_lines : port.refused ≡ None → (file : List ℕ) → length file < 2 ^ 32 → IsPrefix port.octets (framed file) → ShowsFirstLines file first held
  shows_first_lines none file small prefix = ports_show_first_lines port file first held small prefix (stand.shows none)

  pub shows_all_lines : port.refused ≡ None → (file : List ℕ) → length file < 2 ^ 32 → port.octets ≡ framed file → HoldsAfter first held (λ _. message_lines (text_lines file))
  shows_all_lines none file small is = whole_ports_show_all_lines port file first held small is (stand.shows none)

  -- where nothing was put nothing is shown
  empty_is : (text rest : List ℕ) → [] ≡ text ++ rest → text ≡ []
  empty_is [] rest is = refl
  empty_is (octet ∷ text) rest is = absurd cc

  shows_empty : (messages : List (List ℕ)) (rest : List ℕ) → [] ≡ frames messages ++ rest
      → IfSome first (λ _. IsSomeAnd held (λ text. IsPrefix text (message_lines messages))) → HoldsAfter first held (λ _. [])
  shows_empty [] rest is shows = by first held shows
    where
      by : (before after : Option (List ℕ)) → IfSome before (λ _. IsSomeAnd after (λ text. IsPrefix text [])) → HoldsAfter before after (λ _. [])
      by None after shows = tt
      by (Some text) None shows = absurd shows
      by (Some text) (Some now) shows = ap (λ t. Some t) (empty_is now shows.rest shows.whole_is)
  shows_empty (message ∷ messages) rest is shows = absurd cc

  pub shows_nothing : port.octets ≡ [] → HoldsAfter first held (λ _. [])
  shows_nothing none = shows_empty shows_prefix.messages shows_prefix.rest (sym none ∙ shows_prefix.octets_are) shows_prefix.shown_is

-- what holds nothing holds a prefix
nothing_is_prefix : (first held : Option (List ℕ)) (text : List ℕ) → HoldsAfter first held (λ _. []) → HoldsPrefixOf first held text
nothing_is_prefix None held text is = tt
nothing_is_prefix (Some before) held text is =
    let P : Option (List ℕ) → Type 0 = λ o. IsSomeAnd o (λ now. IsPrefix now text) in subst P (sym is) (record { rest = text; whole_is = refl })

-- ---- what was put for the ports

some_is : (m n : List ℕ) → Some m ≡ Some n → m ≡ n
some_is m n e = cc

-- the contents of both files, as the run is told them
same_name : (name : List ℕ) → bytes_eq name name ≡ true
same_name name = (bytes_eq-Decides name name).1 refl

file_a_is : (content : List ℕ → Option (List ℕ)) (file_a file_b : List ℕ) → lined_content file_a file_b content file_a ≡ option_map framed (content file_a)
file_a_is content file_a file_b = ap (λ (same : Bool). if same || bytes_eq file_a file_b then option_map framed (content file_a) else content file_a) (same_name file_a)

or_true : (a : Bool) → (a || true) ≡ true
or_true true = refl
or_true false = refl

file_b_is : (content : List ℕ → Option (List ℕ)) (file_a file_b : List ℕ) → lined_content file_a file_b content file_b ≡ option_map framed (content file_b)
file_b_is content file_a file_b =
    ap (λ (same : Bool). if bytes_eq file_b file_a || same then option_map framed (content file_b) else content file_b) (same_name file_b)
    ∙ ap (λ (same : Bool). if same then option_map framed (content file_b) else content file_b) (or_true (bytes_eq file_b file_a))

-- the script's content stays, which is neither file
other_name : (x y : List ℕ) → not (bytes_eq y x) ≡ true → bytes_eq x y ≡ false
other_name x y apart = by (bytes_eq x y) refl
  where
    by : (b : Bool) → bytes_eq x y ≡ b → b ≡ false
    by false is = refl
    by true is = absurd (both_ways (bytes_eq y x) (not-true (bytes_eq y x) apart) ((bytes_eq-Decides y x).1 (sym ((bytes_eq-Decides x y).0 is))))

script_apart : (line : Line) (name : List ℕ) → is_apart line name ≡ true → bytes_eq line.names.script name ≡ false
script_apart line name apart = other_name line.names.script name (and_parts (not (bytes_eq name line.names.script)) _ apart).0

script_stays : (content : List ℕ → Option (List ℕ)) (line : Line) → takes_messages line ≡ true
    → lined_content line.names.file_a line.names.file_b content line.names.script ≡ content line.names.script
script_stays content line takes =
    let script = line.names.script in
    let apart = and_parts (is_apart line line.names.file_a) (is_apart line line.names.file_b) (and_parts (is_run line.work) _ takes).1 in
    ap (λ (same : Bool). if same || bytes_eq script line.names.file_b then option_map framed (content script) else content script) (script_apart line line.names.file_a apart.0)
    ∙ ap (λ (same : Bool). if same then option_map framed (content script) else content script) (script_apart line line.names.file_b apart.1)

frames_unaltered : (content : List ℕ → Option (List ℕ)) (line : Line) → takes_messages line ≡ true → NoneIsAltered content line
    → NoneIsAltered (lined_content line.names.file_a line.names.file_b content) line
frames_unaltered content line takes none = subst (λ (o : Option (List ℕ)). IsSomeAnd (option_and_then script_in o) AltersNone) (sym (script_stays content line takes)) none

-- the frames of a file are within their limit, and so is the file
small_file : (file told : Option (List ℕ)) → told ≡ option_map framed file → IfSome told (λ frames. length frames ≤ 16777216) → IfSome file (λ text. length text < 2 ^ 32)
small_file None told is within = tt
small_file (Some text) told is within =
    let P : Option (List ℕ) → Type 0 = λ o. IfSome o (λ frames. length frames ≤ 16777216) in
    let few = subst P is within in let longer = frames_longer text in omega arith

prefix_of : (octets : List ℕ) (file told : Option (List ℕ)) → told ≡ option_map framed file → IfSome told (λ frames. HoldsPrefixOf (Some []) (Some octets) frames)
    → IfSome file (λ text. IsPrefix octets (framed text))
prefix_of octets None told is prefix = tt
prefix_of octets (Some text) told is prefix =
    let P : Option (List ℕ) → Type 0 = λ o. IfSome o (λ frames. HoldsPrefixOf (Some []) (Some octets) frames) in subst P is prefix

prefix_by : (octets frames : List ℕ) → (Some octets ≡ Some []) ⊎ IsPrefix octets frames → IsPrefix octets frames
prefix_by octets frames (inl none) = let P : List ℕ → Type 0 = λ o. IsPrefix o frames in subst P (sym (some_is octets [] none)) (record { rest = frames; whole_is = refl })
prefix_by octets frames (inr prefix) = prefix

prefix_if_bound : (octets : List ℕ) (file told : Option (List ℕ)) → told ≡ option_map framed file → IfSome told (λ frames. HoldsPrefixIfBound (Some []) (Some octets) frames)
    → IfSome file (λ text. IsPrefix octets (framed text))
prefix_if_bound octets None told is prefix = tt
prefix_if_bound octets (Some text) told is prefix =
    let P : Option (List ℕ) → Type 0 = λ o. IfSome o (λ frames. HoldsPrefixIfBound (Some []) (Some octets) frames) in prefix_by octets (framed text) (subst P is prefix)

all_of : (octets : List ℕ) (file told : Option (List ℕ)) → told ≡ option_map framed file → IfSome told (λ frames. HoldsAfter (Some []) (Some octets) (λ _. frames))
    → IfSome file (λ text. octets ≡ framed text)
all_of octets None told is all = tt
all_of octets (Some text) told is all =
    let P : Option (List ℕ) → Type 0 = λ o. IfSome o (λ frames. HoldsAfter (Some []) (Some octets) (λ _. frames)) in some_is octets (framed text) (subst P is all)

-- what is known of a file gives what is shown of it
of_file : (file : Option (List ℕ)) (A B P : List ℕ → Type 0) → ((text : List ℕ) → A text → B text → P text) → IfSome file A → IfSome file B → IfSome file P
of_file None A B P step a b = tt
of_file (Some text) A B P step a b = step text a b

-- ---- both ports

module _ (file_a file_b : Option (List ℕ)) (a b : Counted) (old new : Told) (stand : PortsStand a b old.holds new.holds old.port_faults new.port_faults) where
  abbrev IsSmall : Option (List ℕ) → Type 0
  IsSmall file = IfSome file (λ text. length text < 2 ^ 32)

  prefixes_shown : IsSmall file_a → IsSmall file_b → IfSome file_a (λ text. IsPrefix b.octets (framed text)) → IfSome file_b (λ text. IsPrefix a.octets (framed text))
      → ReadersShowPrefixes file_a file_b old.holds new.holds
  prefixes_shown small_a small_b of_a of_b = record {
    read_by_b = of_file file_a _ _ _ (λ text small prefix. shows_prefix_of b (old.holds ReadByB) (new.holds ReadByB) _ _ stand.read_by_b text small prefix) small_a of_a;
    read_by_a = of_file file_b _ _ _ (λ text small prefix. shows_prefix_of a (old.holds ReadByA) (new.holds ReadByA) _ _ stand.read_by_a text small prefix) small_b of_b;
  }

  first_lines_shown : IsSmall file_a → IsSmall file_b → IfSome file_a (λ text. IsPrefix b.octets (framed text)) → IfSome file_b (λ text. IsPrefix a.octets (framed text))
      → b.refused ≡ None → a.refused ≡ None → ReadersShowFirstLines file_a file_b old.holds new.holds
  first_lines_shown small_a small_b of_a of_b none_b none_a = record {
    read_by_b = of_file file_a _ _ _ (λ text small prefix. shows_first_lines b (old.holds ReadByB) (new.holds ReadByB) _ _ stand.read_by_b none_b text small prefix) small_a of_a;
    read_by_a = of_file file_b _ _ _ (λ text small prefix. shows_first_lines a (old.holds ReadByA) (new.holds ReadByA) _ _ stand.read_by_a none_a text small prefix) small_b of_b;
  }

  all_lines_shown : IsSmall file_a → IsSmall file_b → IfSome file_a (λ text. b.octets ≡ framed text) → IfSome file_b (λ text. a.octets ≡ framed text)
      → b.refused ≡ None → a.refused ≡ None → ReadersShowLines file_a file_b old.holds new.holds
  all_lines_shown small_a small_b of_a of_b none_b none_a = record {
    read_by_b = of_file file_a _ _ _ (λ text small all. shows_all_lines b (old.holds ReadByB) (new.holds ReadByB) _ _ stand.read_by_b none_b text small all) small_a of_a;
    read_by_a = of_file file_b _ _ _ (λ text small all. shows_all_lines a (old.holds ReadByA) (new.holds ReadByA) _ _ stand.read_by_a none_a text small all) small_b of_b;
  }

  nothing_shown : (line : Line) (made : List Made) (contents : List ℕ → Option (List ℕ))
      → IsUntouched (as_run line [] [] [] old) (record (as_run line a.octets b.octets made new) { content = contents }) → ReadersShowNothing file_a file_b old.holds new.holds
  nothing_shown line made contents untouched = record {
    read_by_b = shows_nothing b (old.holds ReadByB) (new.holds ReadByB) _ _ stand.read_by_b (some_is b.octets [] (untouched ReadByB).0);
    read_by_a = shows_nothing a (old.holds ReadByA) (new.holds ReadByA) _ _ stand.read_by_a (some_is a.octets [] (untouched ReadByA).0);
  }

some_always : (o : Option (List ℕ)) (P : List ℕ → Type 0) → ((text : List ℕ) → P text) → IfSome o P
some_always None P p = tt
some_always (Some text) P p = p text

nothing_is_cut : (file_a file_b : Option (List ℕ)) (held holds : Ports) → ReadersShowNothing file_a file_b held holds → ReadersShowPrefixes file_a file_b held holds
nothing_is_cut file_a file_b held holds none = record {
  read_by_b = some_always file_a _ (λ text. nothing_is_prefix (held ReadByB) (holds ReadByB) (message_lines (text_lines text)) none.read_by_b);
  read_by_a = some_always file_b _ (λ text. nothing_is_prefix (held ReadByA) (holds ReadByA) (message_lines (text_lines text)) none.read_by_a);
}

-- ports that were empty, and are as they were
still_empty : (first held : Option (List ℕ)) → IfSome first (λ text. text ≡ []) → held ≡ first → HoldsAfter first held (λ _. [])
still_empty None held empty same = tt
still_empty (Some text) held empty same = same ∙ ap (λ t. Some t) empty

empty_still : (file_a file_b : Option (List ℕ)) (held holds : Ports) → IfSome (held ReadByA) (λ text. text ≡ []) → IfSome (held ReadByB) (λ text. text ≡ [])
    → ((port : Port) → holds port ≡ held port) → ReadersShowNothing file_a file_b held holds
empty_still file_a file_b held holds empty_a empty_b same = record {
  read_by_b = still_empty (held ReadByB) (holds ReadByB) empty_b (same ReadByB);
  read_by_a = still_empty (held ReadByA) (holds ReadByA) empty_a (same ReadByA);
}

-- ---- by the answer of the run over frames

-- the last line is the last put
line_ends : (task : Option Task) (status : Status) (puts : List Call) (old new : Ports) → IfSome task (λ task. HasRun task status puts old new) → IfSome task (λ _. EndsWithLine puts)
line_ends None status puts old new run = tt
line_ends (Some task) status puts old new run =
    record { before = puts_so_far task run.whole.turns; text = last_line task run.whole.turns; puts_are = run.puts_are }

module _ (line : Line) (old new : Told) (made : List Made) (contents : List ℕ → Option (List ℕ)) (a b : Counted) (stand : PortsStand a b old.holds new.holds old.port_faults new.port_faults)
    (calls : CallsStand made a b old.calls new.calls) where
  abbrev frames_of : List ℕ → Option (List ℕ)
  frames_of = lined_content line.names.file_a line.names.file_b old.content

  abbrev from : Told
  from = as_run line [] [] [] old

  abbrev to : Told
  to = record (as_run line a.octets b.octets made new) { content = contents }

  abbrev file_a : Option (List ℕ)
  file_a = old.content line.names.file_a

  abbrev file_b : Option (List ℕ)
  file_b = old.content line.names.file_b

  abbrev Shown : Status → Type 0
  Shown = ReadersShow file_a file_b old.holds new.holds

  abbrev Called : Status → Type 0
  Called status = CalledToEnd status file_a file_b (task_of frames_of line) line old.calls new.calls

  abbrev End : Status → Type 0
  End = EndRow line from to

  abbrev Answer : Status → Type 0
  Answer = IsAnswer line from to

  told_a : frames_of line.names.file_a ≡ option_map framed file_a
  told_a = file_a_is old.content line.names.file_a line.names.file_b

  told_b : frames_of line.names.file_b ≡ option_map framed file_b
  told_b = file_b_is old.content line.names.file_a line.names.file_b

  small_a : AreWithinLimits frames_of line → IfSome file_a (λ text. length text < 2 ^ 32)
  small_a within = small_file file_a (frames_of line.names.file_a) told_a (within input.FileA)

  small_b : AreWithinLimits frames_of line → IfSome file_b (λ text. length text < 2 ^ 32)
  small_b within = small_file file_b (frames_of line.names.file_b) told_b (within input.FileB)

  -- where all calls succeeded no line was refused
  unrefused : (plan : List Call) → made ≡ map succeeded plan → (a.refused ≡ None) × (b.refused ≡ None)
  unrefused plan is = calls.unrefused (subst AllMade (sym is) (all_made plan))

  all_shown : AreWithinLimits frames_of line → ReadersHaveFiles (frames_of line.names.file_a) (frames_of line.names.file_b) from.holds to.holds → (a.refused ≡ None) × (b.refused ≡ None)
      → ReadersShowLines file_a file_b old.holds new.holds
  all_shown within files none = all_lines_shown file_a file_b a b old new stand (small_a within) (small_b within)
      (all_of b.octets file_a (frames_of line.names.file_a) told_a files.read_by_b) (all_of a.octets file_b (frames_of line.names.file_b) told_b files.read_by_a) none.1 none.0

  end_shown : (ended : Status) → NoneIsAltered frames_of line → End ended → ReadersShowFirstLines file_a file_b old.holds new.holds
  end_shown ended unaltered h =
      let prefixes = h.prefixes unaltered in
      let none = unrefused (plan_of (loads_of line) line h.puts) h.calls in
      first_lines_shown file_a file_b a b old new stand (small_a h.read.within) (small_b h.read.within)
      (prefix_of b.octets file_a (frames_of line.names.file_a) told_a prefixes.read_by_b) (prefix_of a.octets file_b (frames_of line.names.file_b) told_b prefixes.read_by_a) none.1 none.0

  part_shown : AreWithinLimits frames_of line → ReadersHavePrefixes (frames_of line.names.file_a) (frames_of line.names.file_b) from.holds to.holds → ReadersShowPrefixes file_a file_b old.holds new.holds
  part_shown within prefixes = prefixes_shown file_a file_b a b old new stand (small_a within) (small_b within)
      (prefix_of b.octets file_a (frames_of line.names.file_a) told_a prefixes.read_by_b) (prefix_of a.octets file_b (frames_of line.names.file_b) told_b prefixes.read_by_a)

  cut_shown : AreWithinLimits frames_of line → ReadersHavePrefixesIfBound (frames_of line.names.file_a) (frames_of line.names.file_b) from.holds to.holds → ReadersShowPrefixes file_a file_b old.holds new.holds
  cut_shown within prefixes = prefixes_shown file_a file_b a b old new stand (small_a within) (small_b within)
      (prefix_if_bound b.octets file_a (frames_of line.names.file_a) told_a prefixes.read_by_b) (prefix_if_bound a.octets file_b (frames_of line.names.file_b) told_b prefixes.read_by_a)

  none_shown : IsUntouched from to → ReadersShowNothing file_a file_b old.holds new.holds
  none_shown = nothing_shown file_a file_b a b old new stand line made contents

  pub shown_by : (status : Status) → NoneIsAltered frames_of line → Answer status → Shown status
  shown_by Delivered none h = all_shown h.row.read.within (h.files none) (unrefused (plan_of (loads_of line) line h.row.puts) h.row.calls)
  shown_by Rounds none h = end_shown Rounds none h
  shown_by NoPath none h = end_shown NoPath none h
  shown_by (Aborted reader) none h = end_shown (Aborted reader) none h
  shown_by (Put port) none h = cut_shown h.1.read.within (h.1.prefixes none)
  shown_by Memory none (inl h) = nothing_is_cut file_a file_b old.holds new.holds (none_shown h.untouched)
  shown_by Memory none (inr h) = cut_shown h.read.within (h.prefixes none)
  shown_by (Log at) none (inl h) = nothing_is_cut file_a file_b old.holds new.holds (none_shown h.untouched)
  shown_by (Log at) none (inr h) = part_shown h.read.within (h.prefixes none)
  shown_by (Script at kind) none h = none_shown h.untouched
  shown_by (Load named) none h = none_shown h.untouched
  shown_by (TooLong named) none h = none_shown h.untouched
  shown_by Usage none h = absurd h

  -- the calls of a run that came to its own end
  end_called : (ended : Status) → End ended → (AreWithinLimits frames_of line → (pieces : List (List ℕ)) → AreMessages (passed_of b) pieces → IfSome file_a (λ file. AreLines ended file pieces))
      → (AreWithinLimits frames_of line → (pieces : List (List ℕ)) → AreMessages (passed_of a) pieces → IfSome file_b (λ file. AreLines ended file pieces)) → Called ended
  end_called ended h of_a of_b =
      called_to_end ended file_a file_b (task_of frames_of line) line old.calls new.calls h.puts made calls.below (readers_of a b) h.calls
      (line_ends (task_of frames_of line) ended h.puts _ _ h.run) calls.are calls.added (of_a h.read.within) (of_b h.read.within)

  first_called : (ended : Status) → NoneIsAltered frames_of line → End ended → ((file : List ℕ) (pieces : List (List ℕ)) → AreFirstLines file pieces → AreLines ended file pieces) → Called ended
  first_called ended none h lines =
      let prefixes = h.prefixes none in
      end_called ended h
      (λ within pieces are. of_file file_a (λ file. AreFirstLines file pieces) _ (λ file. AreLines ended file pieces) (λ file first same. lines file pieces first)
      (first_lines file_a (passed_of b) pieces (small_a within) (prefix_of b.octets file_a (frames_of line.names.file_a) told_a prefixes.read_by_b) are) (small_a within))
      (λ within pieces are. of_file file_b (λ file. AreFirstLines file pieces) _ (λ file. AreLines ended file pieces) (λ file first same. lines file pieces first)
      (first_lines file_b (passed_of a) pieces (small_b within) (prefix_of a.octets file_b (frames_of line.names.file_b) told_b prefixes.read_by_a) are) (small_b within))

  pub called_by : (status : Status) → NoneIsAltered frames_of line → Answer status → HasEnded status → Called status
  called_by Delivered none h own =
      let files = h.files none in
      end_called Delivered h.row
      (λ within pieces are. all_lines file_a (passed_of b) pieces (small_a within) (all_of b.octets file_a (frames_of line.names.file_a) told_a files.read_by_b) are)
      (λ within pieces are. all_lines file_b (passed_of a) pieces (small_b within) (all_of a.octets file_b (frames_of line.names.file_b) told_b files.read_by_a) are)
  called_by Rounds none h own = first_called Rounds none h (λ file pieces first. first)
  called_by NoPath none h own = first_called NoPath none h (λ file pieces first. first)
  called_by (Aborted reader) none h own = first_called (Aborted reader) none h (λ file pieces first. first)
  called_by _ none h own = absurd own

-- the calls of each answer
pub messages_called : (line : Line) (old new : Told) (status : Status)
    → takes_messages line ≡ true → IsMessagesAnswer line old new status → NoneIsAltered old.content line → HasEnded status
    → CalledToEnd status (old.content line.names.file_a) (old.content line.names.file_b) (task_of (lined_content line.names.file_a line.names.file_b old.content) line) line old.calls new.calls
messages_called line old new status takes (inl none) unaltered own =
    let P : Status → Type 0 = HasEnded in absurd (subst P none.status_is own)
messages_called line old new status takes (inr h) unaltered own =
    called_by line old new h.made h.contents h.read_by_a h.read_by_b h.stand h.calls status
    (frames_unaltered old.content line takes unaltered) h.answer own

-- what the ports show after a run over frames
pub over_frames : (line : Line) (old new : Told) (status : Status)
    → takes_messages line ≡ true → NoneIsAltered old.content line → IsRunOverFrames line old new status
    → ReadersShow (old.content line.names.file_a) (old.content line.names.file_b) old.holds new.holds status
over_frames line old new status takes none h =
    shown_by line old new h.made h.contents h.read_by_a h.read_by_b h.stand h.calls status
    (frames_unaltered old.content line takes none) h.answer

-- ---- from what a type parameter tells

stand_from : (a b : Counted) (named first holds : Ports) (named_faults first_faults faults : Port → ℕ) → ((port : Port) → named port ≡ first port)
    → ((port : Port) → named_faults port ≡ first_faults port) → PortsStand a b named holds named_faults faults → PortsStand a b first holds first_faults faults
stand_from a b named first holds named_faults first_faults faults same same_faults stand =
    let P : Counted → Port → Option (List ℕ) → Type 0 = λ c port o. PortStands c o (holds port) (first_faults port) (faults port) in
    let Q : Counted → Port → ℕ → Type 0 = λ c port n. PortStands c (named port) (holds port) n (faults port) in
    record {
      read_by_a = subst (P a ReadByA) (same ReadByA) (subst (Q a ReadByA) (same_faults ReadByA) stand.read_by_a);
      read_by_b = subst (P b ReadByB) (same ReadByB) (subst (Q b ReadByB) (same_faults ReadByB) stand.read_by_b);
    }

-- the run over frames was told the outside by these names, which are those of this line
pub ran_over_frames : (asked : Option Line) (line : Line) (name_a name_b : List ℕ) (contents : List ℕ → Option (List ℕ)) (old new : Told) (named_faults : Port → ℕ) (named : Ports)
    (named_calls : Option (List Made)) (made : List Made) (a b : Counted) (status : Status) → asked ≡ Some line
    → IfSome asked (λ line. IsAnswer line (record old { content = lined_content name_a name_b old.content; holds = lined_holds [] [] old.holds; calls = Some [] })
    (record new { content = contents; holds = lined_holds a.octets b.octets new.holds; calls = Some made }) status)
    → ((port : Port) → named port ≡ old.holds port) → ((port : Port) → named_faults port ≡ old.port_faults port) → named_calls ≡ old.calls
    → PortsStand a b named new.holds named_faults new.port_faults → CallsStand made a b named_calls new.calls → name_a ≡ line.names.file_a → name_b ≡ line.names.file_b
    → IsRunOverFrames line old new status
ran_over_frames asked line name_a name_b contents old new named_faults named named_calls made a b status asks answer same same_faults same_calls stand come is_a is_b =
    let P : List ℕ → List ℕ → Line → Type 0 =
    λ x y asked. IsAnswer asked (record old { content = lined_content x y old.content; holds = lined_holds [] [] old.holds; calls = Some [] })
    (record new { content = contents; holds = lined_holds a.octets b.octets new.holds; calls = Some made }) status in
    let asked_is : P name_a name_b line = subst (λ o. IfSome o (P name_a name_b)) asks answer in
    record {
      read_by_a = a;
      read_by_b = b;
      made = made;
      contents = contents;
      answer = subst (λ x. P x line.names.file_b line) is_a (subst (λ y. P name_a y line) is_b asked_is);
      stand = stand_from a b named old.holds new.holds named_faults old.port_faults new.port_faults same same_faults stand;
      calls = subst (λ first. CallsStand made a b first new.calls) same_calls come;
    }

-- ---- by the words

-- what the ports show, by the answer
pub messages_shown : (line : Line) (old new : Told) (status : Status)
    → IfSome (old.holds ReadByA) (λ text. text ≡ []) → IfSome (old.holds ReadByB) (λ text. text ≡ []) → takes_messages line ≡ true
    → IsMessagesAnswer line old new status
    → NoneIsAltered old.content line → ReadersShow (old.content line.names.file_a) (old.content line.names.file_b) old.holds new.holds status
messages_shown line old new status empty_a empty_b takes (inl none) unaltered =
    let P : Status → Type 0 = ReadersShow (old.content line.names.file_a) (old.content line.names.file_b) old.holds new.holds in
    subst P (sym none.status_is) (nothing_is_cut (old.content line.names.file_a) (old.content line.names.file_b) old.holds new.holds
    (empty_still (old.content line.names.file_a) (old.content line.names.file_b) old.holds new.holds empty_a empty_b (λ port. (none.untouched port).0)))
messages_shown line old new status empty_a empty_b takes (inr ran) unaltered =
    over_frames line old new status takes unaltered ran

pub messages_are : (words : List (List ℕ)) (line : Line) → line_of words ≡ Some line → messages_in words ≡ if_messages line
unfolding messages_in
messages_are words line is = ap (option_and_then if_messages) is

no_messages : (words : List (List ℕ)) → line_of words ≡ None → messages_in words ≡ None
unfolding messages_in
no_messages words is = ap (option_and_then if_messages) is

pub taken : (words : List (List ℕ)) (line : Line) → line_of words ≡ Some line → takes_messages line ≡ true → messages_in words ≡ Some line
taken words line is takes = messages_are words line is ∙ ap (λ (b : Bool). if b then Some line else None) takes

pub not_taken : (words : List (List ℕ)) (line : Line) → line_of words ≡ Some line → takes_messages line ≡ false → messages_in words ≡ None
not_taken words line is takes = messages_are words line is ∙ ap (λ (b : Bool). if b then Some line else None) takes

run_of_both : (a b : Bool) → (a && b) ≡ true → a ≡ true
run_of_both true b both = refl
run_of_both false b both = absurd cc

pub taken_is_asked : (words : List (List ℕ)) (line : Line) → line_of words ≡ Some line → takes_messages line ≡ true → asked_in words ≡ Some line
taken_is_asked words line is takes = asked_is words line is ∙ ap (λ (b : Bool). if b then Some line else None) (run_of_both (is_run line.work) _ takes)

-- what is said of what the words ask for, where they ask for this line or for nothing
module _ (asked : Option Line) where
  pub of_line : (line : Line) (P : Line → Type 0) → asked ≡ Some line → P line → IfSome asked P
  of_line line P is p = subst (λ o. IfSome o P) (sym is) p

  pub of_nothing : (P : Line → Type 0) → asked ≡ None → IfSome asked P
  of_nothing P is = subst (λ o. IfSome o P) (sym is) tt

  pub not_nothing : (line : Line) → asked ≡ Some line → IsNone asked → ⊥
  not_nothing line is none = let no : IsNone (Some line) = subst (λ o. IsNone o) is none in absurd cc

  nothing_asked_for : (P : Line → Type 0) → ((line : Line) → P line) → IfSome asked P
  nothing_asked_for P p = some_line asked
    where
      some_line : (o : Option Line) → IfSome o P
      some_line None = tt
      some_line (Some line) = p line

-- words that weren't read
pub unread_messages : (old : Told) (words : List (List ℕ)) (status : Status) → IsWordsFault words status
    → IfSome (messages_in words) (λ line. IsMessagesAnswer line old old status)
unread_messages old words Usage is = of_nothing (messages_in words) (λ line. IsMessagesAnswer line old old Usage) (no_messages words is)
unread_messages old words Memory is = nothing_asked_for (messages_in words) (λ line. IsMessagesAnswer line old old Memory)
    (λ line. inl (record { status_is = refl; untouched = λ port. (refl, refl); unloaded = refl; calls = none_added old.calls }))
unread_messages old words Delivered is = absurd is
unread_messages old words _ is = absurd is

pub unread_lines : (content : List ℕ → Option (List ℕ)) (holds : Ports) → IfSome (holds ReadByA) (λ text. text ≡ []) → IfSome (holds ReadByB) (λ text. text ≡ [])
    → (words : List (List ℕ)) (status : Status) → IsWordsFault words status
    → IfSome (messages_in words) (λ line. NoneIsAltered content line → ReadersShow (content line.names.file_a) (content line.names.file_b) holds holds status)
unread_lines content holds empty_a empty_b words Usage is = of_nothing (messages_in words) (λ line. NoneIsAltered content line → ReadersShow (content line.names.file_a) (content line.names.file_b) holds holds Usage) (no_messages words is)
unread_lines content holds empty_a empty_b words Memory is = nothing_asked_for (messages_in words) (λ line. NoneIsAltered content line → ReadersShow (content line.names.file_a) (content line.names.file_b) holds holds Memory)
    (λ line unaltered. nothing_is_cut (content line.names.file_a) (content line.names.file_b) holds holds
    (empty_still (content line.names.file_a) (content line.names.file_b) holds holds empty_a empty_b (λ port. refl)))
unread_lines content holds empty_a empty_b words Delivered is = absurd is
unread_lines content holds empty_a empty_b words _ is = absurd is

pub unread_called : (content : List ℕ → Option (List ℕ)) (calls : Option (List Made)) (words : List (List ℕ)) (status : Status) → IsWordsFault words status
    → IfSome (messages_in words) (λ line. NoneIsAltered content line → HasEnded status
    → CalledToEnd status (content line.names.file_a) (content line.names.file_b) (task_of (lined_content line.names.file_a line.names.file_b content) line) line calls calls)
unread_called content calls words status fault = nothing_asked_for (messages_in words) _ (λ line unaltered own. absurd (never status fault own))
  where
    never : (status : Status) → IsWordsFault words status → HasEnded status → ⊥
    never Usage is own = own
    never Memory is own = own
    never Delivered is own = is
    never _ is own = is
