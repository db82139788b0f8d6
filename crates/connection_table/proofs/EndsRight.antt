-- What a serial run of a connection by itself comes to: its readers have first octets of the files, and at the end all of them.
use Rattle.std.proofs.Common.{◌≡◌, refl, sym, ◌∙◌, ap, subst, ⊎_elim, ℕ, zero, suc, ◌+◌, ◌-◌, ◌^◌, ◌<◌, ◌≤◌, ◌&&◌, Bool, true, false, Option, Some, None, List, [], ◌∷◌, ◌++◌, append_assoc, length, map, arith}
use Rattle.std.specs.Prelude.{IfSome}
use Rattle.std.specs.List.{All, AllZip, list_any}
use Rattle.std.proofs.lemmas.Bool.{and_parts, both_ways, or_from, or_parts}
use Rattle.std.proofs.lemmas.List.Elements.{All-cons, All-head, All-nil, All-tail}
use Rattle.sides.specs.declared.side.Side.TheVariants.{A, B}
use Rattle.octet_text.specs.Prefix.{IsPrefix}
use Rattle.link_script.specs.declared.script.ScriptLine.{ScriptLine}
use Rattle.link_script.specs.declared.script.Happens.TheVariants.{Lost, Late, Again, Stripped, Altered}
use Rattle.link_script.specs.declared.script.ScriptLine.TheVariants as happens
use Rattle.run_outside.specs.declared.input.Input.{Input}
use Rattle.path_core.specs.Octets.{octets}
use Rattle.world_core.specs.Rounds.{after_rounds}
use Rattle.world_laws.specs.declared.outcome.Outcome.{Outcome}
use Rattle.world_laws.specs.declared.outcome.Outcome.TheVariants.{Going, Delivered}
use Rattle.world_laws.specs.Openings.{start_of}
use Rattle.world_laws.specs.Outcomes.{notes_of, outcome_by, outcome_of, output_of, tells_abort, tells_end, was_told}
use Rattle.world_laws.specs.PlainScripts.{AltersNone, IsPlainScript, KeepsAllPromises, alters_payload}
use Rattle.world_laws.specs.Laws.{WritesTheFiles}
use Rattle.world_laws.specs.Serial.{AreRounds, OneOf, after_round, after_steps, after_turns, goes_on, round_and, spelled, steps_and}
use Rattle.world_laws.specs.Worlds.{AreLawful, Turn, end_round, world_run, world_step}
use Rattle.world_laws.proofs.Promises.OfScripts.{plain_scripts_keep_all_promises}
use Rattle.world_laws.proofs.Rounds.SerialIsLawful.{rounds_lawful}
use Rattle.world_laws.proofs.Worlds.CastLifting.{writes_the_files}
use Rattle.clean_finish.specs.Bound.{enough}
use Rattle.clean_finish.specs.Finish.{rounds_in}
use Rattle.clean_finish.proofs.Finished.{clean_scripts_finish, clean_scripts_go_on}
use Rattle.connection_table.specs.Inputs.{IsShort}
use Rattle.connection_table.specs.Scripts.{LeavesPayload, is_alter}
use Rattle.connection_table.specs.ManyEnds.{AreSerial, EndsRight}
use Rattle.connection_table.specs.ManyRounds.{IsSerialEnd, Runs}
use Rattle.connection_table.specs.Tables.{Connection, first_of, opened_entry}

-- ---- a script that leaves payload

same_test : (line : ScriptLine) → alters_payload line ≡ is_alter line
same_test (happens.OnSegment segment Lost) = refl
same_test (happens.OnSegment segment (Late ticks)) = refl
same_test (happens.OnSegment segment (Again ticks)) = refl
same_test (happens.OnSegment segment Stripped) = refl
same_test (happens.OnSegment segment Altered) = refl
same_test _ = refl

leaves_all : (lines : List ScriptLine) → list_any is_alter lines ≡ false → list_any alters_payload lines ≡ false
leaves_all [] none = refl
leaves_all (line ∷ lines) none =
    let parts = or_parts (is_alter line) (list_any is_alter lines) none in
    or_from (alters_payload line) (list_any alters_payload lines) (same_test line ∙ parts.0) (leaves_all lines parts.1)

abbrev Leaves : Input → Type 0
Leaves input = LeavesPayload input.script

plain_of : (input : Input) → IsShort input → Leaves input → IsPlainScript input.script input.file_a input.file_b
plain_of input short leaves = record {
  ranges = leaves.ranges;
  unaltered = leaves_all input.script.lines leaves.unaltered;
  short_a = (let few = short.file_a in omega (arith, few));
  short_b = (let few = short.file_b in omega (arith, few));
}

-- before its first step a connection of such an input runs
pub opened_run : (inputs : List Input) → All IsShort inputs → All Leaves inputs → All Runs (map opened_entry inputs)
opened_run [] short leaves = All-nil Runs
opened_run (input ∷ inputs) short leaves =
    let plain = plain_of input (All-head IsShort input inputs short) (All-head Leaves input inputs leaves) in
    All-cons Runs (opened_entry input) (map opened_entry inputs)
    (record { stands = refl; short = record { ranges = plain.ranges; short_a = plain.short_a; short_b = plain.short_b } })
    (opened_run inputs (All-tail IsShort input inputs short) (All-tail Leaves input inputs leaves))

-- ---- the turns of rounds

run_steps : (actor n : ℕ) (rest : List Turn) (w : Connection) → world_run octets (steps_and actor n rest) w ≡ world_run octets rest (after_steps octets actor n w)
run_steps actor zero rest w = refl
run_steps actor (suc n) rest w = run_steps actor n rest (world_step octets actor w)

run_round : (actor : ℕ) (counts : List ℕ) (rest : List Turn) (w : Connection)
    → world_run octets (round_and actor counts rest) w ≡ world_run octets rest (end_round (after_turns octets actor counts w))
run_round actor [] rest w = refl
run_round actor (n ∷ counts) rest w = run_steps actor n (round_and (suc actor) counts rest) w ∙ run_round (suc actor) counts rest (after_steps octets actor n w)

run_rounds : (rounds : List (List ℕ)) (w : Connection) → world_run octets (spelled rounds) w ≡ after_rounds octets rounds w
run_rounds [] w = refl
run_rounds (counts ∷ rounds) w = run_round 0 counts (spelled rounds) w ∙ run_rounds rounds (after_round octets counts w)

-- how many rounds they end
count_steps : (actor n : ℕ) (rest : List Turn) → rounds_in (steps_and actor n rest) ≡ rounds_in rest
count_steps actor zero rest = refl
count_steps actor (suc n) rest = count_steps actor n rest

count_round : (actor : ℕ) (counts : List ℕ) (rest : List Turn) → rounds_in (round_and actor counts rest) ≡ suc (rounds_in rest)
count_round actor [] rest = refl
count_round actor (n ∷ counts) rest = count_steps actor n (round_and (suc actor) counts rest) ∙ count_round (suc actor) counts rest

-- where the connection goes on behind the last one, as many as may be made
all_made : (most : ℕ) (rounds : List (List ℕ)) (w : Connection) → AreRounds octets most rounds w
    → goes_on (outcome_of (after_rounds octets rounds w).crew) ≡ true → most ≤ rounds_in (spelled rounds)
all_made zero rounds w are on = omega arith
all_made (suc most) [] w are on = absurd are
all_made (suc most) (counts ∷ rounds) w are on =
    by (goes_on (outcome_of (after_round octets counts w).crew)) refl (λ behind. all_made most rounds (after_round octets counts w) behind on) are.1
  where
    by : (b : Bool) → goes_on (outcome_of (after_round octets counts w).crew) ≡ b → (AreRounds octets most rounds (after_round octets counts w) → most ≤ rounds_in (spelled rounds))
        → OneOf b (AreRounds octets most rounds (after_round octets counts w)) (rounds ≡ []) → suc most ≤ rounds_in (round_and 0 counts (spelled rounds))
    by true goes more behind = let less = more behind in let count = count_round 0 counts (spelled rounds) in omega (arith, less, count)
    by false over more none =
        let same : after_rounds octets rounds (after_round octets counts w) ≡ after_round octets counts w = ap (λ rs. after_rounds octets rs (after_round octets counts w)) none in
        absurd (both_ways _ over (ap (λ (v : Connection). goes_on (outcome_of v.crew)) (sym same) ∙ on))

-- ---- what readers have

prefix_of_prefix : (xs ys zs : List ℕ) → IsPrefix xs ys → IsPrefix ys zs → IsPrefix xs zs
prefix_of_prefix xs ys zs p q =
    record { rest = p.rest ++ q.rest; whole_is = q.whole_is ∙ ap (λ prefix. prefix ++ q.rest) p.whole_is ∙ append_assoc xs p.rest q.rest }

told_both : (aborted_a aborted_b delivered dead : Bool) → outcome_by aborted_a aborted_b delivered dead ≡ Delivered → delivered ≡ true
told_both true b both dead is = cc
told_both false true both dead is = cc
told_both false false true dead is = refl
told_both false false false true is = cc
told_both false false false false is = cc

module _ (most : ℕ) (input : Input) (w : Connection) (short : IsShort input) (leaves : Leaves input) (end : IsSerialEnd most (first_of input) w) where
  abbrev turns : List Turn
  turns = spelled end.0

  plain : IsPlainScript input.script input.file_a input.file_b
  plain = plain_of input short leaves

  run_is : world_run octets turns (first_of input) ≡ w
  run_is = run_rounds end.0 (first_of input) ∙ sym end.2

  kept : KeepsAllPromises w
  kept = subst KeepsAllPromises run_is (plain_scripts_keep_all_promises input.script input.file_a input.file_b turns plain)

  files : WritesTheFiles (start_of input.script input.file_a input.file_b) w
  files = subst (WritesTheFiles (start_of input.script input.file_a input.file_b)) run_is (writes_the_files octets (start_of input.script input.file_a input.file_b) turns)

  whole : outcome_of w.crew ≡ Delivered → (output_of B w ≡ input.file_a) × (output_of A w ≡ input.file_b)
  whole is =
      let told = and_parts (was_told tells_end (notes_of A w.crew)) (was_told tells_end (notes_of B w.crew)) (told_both _ _ _ _ is) in
      let ab = kept.word.ab.told told.1 in
      let ba = kept.word.ba.told told.0 in
      (ab.1 ∙ files.a.whole ab.0, ba.1 ∙ files.b.whole ba.0)

  lawful : AreLawful octets turns (first_of input)
  lawful = rounds_lawful octets most end.0 (first_of input) end.1

  outcome_is : outcome_of (world_run octets turns (first_of input)).crew ≡ outcome_of w.crew
  outcome_is = ap (λ (v : Connection). outcome_of v.crew) run_is

  finishes : (least : ℕ) → enough input.script (length input.file_a) (length input.file_b) ≡ Some least → least ≤ most → outcome_of w.crew ≡ Delivered
  finishes least is few =
      let small_a : length input.file_a ≤ 16777216 = (let short_a = short.file_a in omega (arith, short_a)) in
      let small_b : length input.file_b ≤ 16777216 = (let short_b = short.file_b in omega (arith, short_b)) in
      sym outcome_is
      ∙ ⊎_elim
      (λ going.
      let on : goes_on (outcome_of (after_rounds octets end.0 (first_of input)).crew) ≡ true =
      ap (λ (v : Connection). goes_on (outcome_of v.crew)) (sym (run_rounds end.0 (first_of input))) ∙ ap goes_on going in
      let many = all_made most end.0 (first_of input) end.1 on in
      clean_scripts_finish input.script input.file_a input.file_b least turns plain.ranges is small_a small_b lawful (omega (arith, few, many)))
      (λ there. there)
      (clean_scripts_go_on input.script input.file_a input.file_b least turns plain.ranges is small_a small_b lawful)

  clean : IfSome (enough input.script (length input.file_a) (length input.file_b)) (λ least. least ≤ most → outcome_of w.crew ≡ Delivered)
  clean = by (enough input.script (length input.file_a) (length input.file_b)) refl
    where
      by : (o : Option ℕ) → enough input.script (length input.file_a) (length input.file_b) ≡ o → IfSome o (λ least. least ≤ most → outcome_of w.crew ≡ Delivered)
      by None is = tt
      by (Some least) is = λ few. finishes least is few

  ends_right : EndsRight most input w
  ends_right = record {
    read_by_b = prefix_of_prefix _ _ input.file_a kept.word.ab.prefix files.a.prefix;
    read_by_a = prefix_of_prefix _ _ input.file_b kept.word.ba.prefix files.b.prefix;
    whole = whole;
    clean = clean;
  }

pub all_end_right : (most : ℕ) (inputs : List Input) (worlds : List Connection) → All IsShort inputs → All Leaves inputs → AreSerial most inputs worlds
    → AllZip (EndsRight most) inputs worlds
all_end_right most [] [] short leaves serial = tt
all_end_right most [] (w ∷ worlds) short leaves serial = absurd serial
all_end_right most (input ∷ inputs) [] short leaves serial = absurd serial
all_end_right most (input ∷ inputs) (w ∷ worlds) short leaves serial = (
  ends_right most input w (All-head IsShort input inputs short) (All-head Leaves input inputs leaves) serial.0,
  all_end_right most inputs worlds (All-tail IsShort input inputs short) (All-tail Leaves input inputs leaves) serial.1,
)
