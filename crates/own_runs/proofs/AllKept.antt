-- The judge ends well with the capture of a whole run: no side broke a rule, and each join's connection was found.
use Rattle.std.proofs.Common.{◌≡◌, refl, sym, ap, ◌∙◌, subst, ℕ, suc, arith, ◌≤◌, ◌==◌, ◌&&◌, ◌||◌, not, Bool, true, false, if◌then◌else◌, Option, Some, None, Ok, option_map, List, [], ◌∷◌, ◌++◌, length}
use Rattle.std.specs.List.{list_any, slice_get}
use Rattle.std.proofs.lemmas.Bool.{both_ways, false≢true, or_from}
use Rattle.capture_verdict.specs.Ending.{broke_rule, ending_of, has_none, is_broken, was_refused}
use Rattle.capture_verdict.specs.Judging.{judged_capture}
use Rattle.capture_verdict.specs.Report.{broken_words, kept_line, side_words, stray_words_by, strays_words}
use Rattle.capture_verdict.specs.declared.ending.Ending.{Ending}
use Rattle.capture_verdict.specs.declared.totals.Unread.{Unread}
use Rattle.judge_laws.specs.GoesOn.{broke, stream_in}
use Rattle.judge_rules.specs.Rules.{rule_number}
use Rattle.judge_rules.specs.declared.finding.Rule.{Rule}
use Rattle.judge_words.specs.Lines.{kept_words}
use Rattle.rule_book.specs.State.{BookValue, JudgedValue, stream_at}
use Rattle.seen_connections.specs.Flows.{is_stray}
use Rattle.seen_connections.specs.declared.connections.Keys.{Keys}
use Rattle.seen_connections.specs.declared.flow.Belongs.{Belongs}
use Rattle.seen_connections.specs.declared.flow.Flow.{Flow}
use Rattle.seen_connections.specs.declared.flow.Opening.{Opening}
use Rattle.seen_streams.specs.State.{BrokenValue, StreamValue, same_rule}
use Rattle.sides.specs.declared.side.Side.TheVariants.{A, B}
use Rattle.sides.specs.declared.side.Side.{Side}
use Rattle.world_laws.specs.NeverFalls.{IsWhole}
use Rattle.world_laws.specs.Openings.{Start}
use Rattle.world_laws.specs.Promises.{IsPlain, NumbersFit}
use Rattle.world_laws.specs.Worlds.{Turn}
use Rattle.own_runs.specs.Fitting.{RunFits}
use Rattle.own_runs.specs.Runs.{NoWholeRunBreaks, capture_of}
use Rattle.own_runs.specs.WholeKept.{DeliveredRunsAreKept, WholeReportsAreKept, WholeRunsEndWell}
use Rattle.own_runs.proofs.AckRuns.{all_judged, all_read, all_stood, file_shown, no_whole_run_breaks}
use Rattle.own_runs.proofs.Kept.{no_run_breaks, same_judged}
use Rattle.own_runs.proofs.TimeRuns.{timed}
use Rattle.own_runs.proofs.TokenFlows.{IsNamed, NamesIts}

-- ---- lists

pub all_false : {X : Type 0} (f : X → Bool) (xs : List X) → ((i : ℕ) (x : X) → slice_get xs i ≡ Some x → f x ≡ false) → list_any f xs ≡ false
all_false f [] none = refl
all_false f (x ∷ xs) none = or_from (f x) (list_any f xs) (none 0 x refl) (all_false f xs (λ i y at. none (suc i) y at))

-- ---- a side

itself : (r : Rule) → (rule_number r == rule_number r) ≡ true
itself Rule.Form = refl
itself Rule.Keys = refl
itself Rule.Token = refl
itself Rule.JoinHmac = refl
itself Rule.AddressHmac = refl
itself Rule.FastCloseKey = refl
itself Rule.Mapping = refl
itself Rule.Within = refl
itself Rule.PlaceContent = refl
itself Rule.DssSum = refl
itself Rule.DataAck = refl
itself Rule.DataFin = refl
itself Rule.Infinite = refl
itself Rule.Fail = refl

-- each line of a side is of a rule that it broke
none_broken : (stream : StreamValue) → ((r : Rule) → broke r stream ≡ false) → has_none stream.broken ≡ true
none_broken stream kept = by stream.broken refl
  where
    by : (broken : List BrokenValue) → stream.broken ≡ broken → has_none broken ≡ true
    by [] is = refl
    by (x ∷ more) is =
        absurd (both_ways (broke x.rule stream) (kept x.rule) (ap (λ (xs : List BrokenValue). list_any (same_rule x.rule) xs) is ∙ ap (λ b. b || list_any (same_rule x.rule) more) (itself x.rule)))

whole_breaks : (r : Rule) → NoWholeRunBreaks r
whole_breaks r start turns plain whole fit run side at judged read connection s stream there = by r
  where
    by : (r : Rule) → broke r stream ≡ false
    by Rule.Form = no_run_breaks Rule.Form refl start turns plain.size fit run side at judged read connection s stream there
    by Rule.Keys = no_run_breaks Rule.Keys refl start turns plain.size fit run side at judged read connection s stream there
    by Rule.Token = no_run_breaks Rule.Token refl start turns plain.size fit run side at judged read connection s stream there
    by Rule.JoinHmac = no_run_breaks Rule.JoinHmac refl start turns plain.size fit run side at judged read connection s stream there
    by Rule.AddressHmac = no_run_breaks Rule.AddressHmac refl start turns plain.size fit run side at judged read connection s stream there
    by Rule.FastCloseKey = no_run_breaks Rule.FastCloseKey refl start turns plain.size fit run side at judged read connection s stream there
    by Rule.Within = no_run_breaks Rule.Within refl start turns plain.size fit run side at judged read connection s stream there
    by Rule.Mapping = no_whole_run_breaks timed Rule.Mapping refl start turns plain whole fit run side at judged read connection s stream there
    by Rule.PlaceContent = no_whole_run_breaks timed Rule.PlaceContent refl start turns plain whole fit run side at judged read connection s stream there
    by Rule.DssSum = no_whole_run_breaks timed Rule.DssSum refl start turns plain whole fit run side at judged read connection s stream there
    by Rule.DataAck = no_whole_run_breaks timed Rule.DataAck refl start turns plain whole fit run side at judged read connection s stream there
    by Rule.DataFin = no_whole_run_breaks timed Rule.DataFin refl start turns plain whole fit run side at judged read connection s stream there
    by Rule.Infinite = no_whole_run_breaks timed Rule.Infinite refl start turns plain whole fit run side at judged read connection s stream there
    by Rule.Fail = no_whole_run_breaks timed Rule.Fail refl start turns plain whole fit run side at judged read connection s stream there

-- ---- a join

pub named_kept : (flow : Flow) → IsNamed flow → was_refused flow ≡ false
named_kept flow named = by flow.opening flow.belongs named
  where
    by : (o : Opening) (belongs : Option Belongs) → NamesIts o belongs → (is_stray (record flow { opening = o; belongs = belongs }) && flow.was_reset) ≡ false
    by (Opening.Capable checksums) belongs named = refl
    by (Opening.Join token nonce) (Some belongs) named = refl
    by (Opening.Join token nonce) None named = absurd (false≢true named)

-- ---- a run

module _ (start : Start) (turns : List Turn) (plain : IsPlain start) (whole : IsWhole start) (fit : NumbersFit start) (run : RunFits start turns) (side : Side) (at : Option Side) where
  abbrev verdict : JudgedValue
  verdict = all_judged timed start turns plain whole fit run side at

  is_read : judged_capture at true (capture_of start turns side) ≡ Ok verdict
  is_read = all_read timed start turns plain whole fit run side at

  book_kept : (i : ℕ) (book : BookValue) → slice_get verdict.books i ≡ Some book → broke_rule book ≡ false
  book_kept i book at_i =
      or_from (not (has_none book.a.broken)) (not (has_none book.b.broken)) (ap not (side_kept A book.a (ap (option_map (stream_at A)) at_i))) (ap not (side_kept B book.b (ap (option_map (stream_at B)) at_i)))
    where
      side_kept : (s : Side) (stream : StreamValue) → stream_in verdict i s ≡ Some stream → has_none stream.broken ≡ true
      side_kept s stream there = none_broken stream (λ r. whole_breaks r start turns plain whole fit run side at verdict is_read i s stream there)

  flow_kept : (i : ℕ) (flow : Flow) → slice_get verdict.seen.flows i ≡ Some flow → was_refused flow ≡ false
  flow_kept i flow at_i = named_kept flow ((all_stood timed start turns plain whole fit run side at).stands.tokens.seen.named i flow at_i)

  none_accused : is_broken verdict ≡ false
  none_accused =
      or_from (list_any broke_rule verdict.books) (list_any was_refused verdict.seen.flows) (all_false broke_rule verdict.books book_kept) (all_false was_refused verdict.seen.flows flow_kept)

  ends : ending_of verdict ≡ (if has_none verdict.books then Ending.NoConnection else Ending.Kept)
  ends = ap (λ (accused : Bool). if has_none verdict.books then Ending.NoConnection else (if accused then Ending.Broken else Ending.Kept)) none_accused

  one_alone : length verdict.books ≤ 1
  one_alone =
      let stands = (all_stood timed start turns plain whole fit run side at).stands in
      let same = stands.counts.books in
      let few = alone verdict.seen.connections stands.tokens.one.few in
      omega (arith, same, few)
    where
      alone : (xs : List Keys) → ((i : ℕ) (keys : Keys) → slice_get xs i ≡ Some keys → i ≡ 0) → length xs ≤ 1
      alone [] few = omega arith
      alone (x ∷ []) few = omega arith
      alone (x ∷ y ∷ xs) few = (let never : 1 ≡ 0 = few 1 y refl in omega (arith, never))

pub whole_runs_end_well : WholeRunsEndWell
whole_runs_end_well start turns plain whole fit run side at = (
  verdict start turns plain whole fit run side at,
  is_read start turns plain whole fit run side at,
  record { one = one_alone start turns plain whole fit run side at; ending = ends start turns plain whole fit run side at },
)

pub delivered_are_kept : DeliveredRunsAreKept
delivered_are_kept start turns plain whole fit run delivered side at judged read =
    let mine : JudgedValue = verdict start turns plain whole fit run side at in
    let same : mine ≡ judged = same_judged mine judged (sym (is_read start turns plain whole fit run side at) ∙ read) in
    let shown = file_shown timed start turns plain whole fit run side at delivered A in
    subst (λ (j : JudgedValue). ending_of j ≡ Ending.Kept) same
    (ends start turns plain whole fit run side at ∙ ap (λ (none : Bool). if none then Ending.NoConnection else Ending.Kept) (some mine.books shown.there))
  where
    some : {stream : StreamValue} → (books : List BookValue) → option_map (stream_at A) (slice_get books 0) ≡ Some stream → has_none books ≡ false
    some [] there = cc
    some (book ∷ books) there = refl

-- ---- what is told

line_kept : (s : Side) (stream : StreamValue) → has_none stream.broken ≡ true → (unread : Unread) (syn_data : ℕ) → side_words s stream unread syn_data ≡ kept_words (kept_line s stream unread syn_data)
line_kept s stream none unread syn_data = ap (λ (kept : Bool). if kept then kept_words (kept_line s stream unread syn_data) else broken_words s stream.broken) none

pub none_told : (flows : List Flow) → ((i : ℕ) (flow : Flow) → slice_get flows i ≡ Some flow → IsNamed flow) → strays_words flows ≡ []
none_told [] named = refl
none_told (flow ∷ flows) named = first flow.opening flow.belongs (named 0 flow refl) (none_told flows (λ i x at. named (suc i) x at))
  where
    first : (o : Opening) (belongs : Option Belongs) → NamesIts o belongs → strays_words flows ≡ [] → stray_words_by flow o belongs ++ strays_words flows ≡ []
    first (Opening.Capable checksums) belongs named rest = rest
    first (Opening.Join token nonce) (Some belongs) named rest = rest
    first (Opening.Join token nonce) None named rest = absurd (false≢true named)

pub reports_are_kept : WholeReportsAreKept
reports_are_kept start turns plain whole fit run side at judged read =
    let mine : JudgedValue = verdict start turns plain whole fit run side at in
    let same : mine ≡ judged = same_judged mine judged (sym (is_read start turns plain whole fit run side at) ∙ read) in (
      λ connection s stream there. line_kept s stream (none_broken stream (λ r. whole_breaks r start turns plain whole fit run side at judged read connection s stream there)),
      ap (λ (j : JudgedValue). strays_words j.seen.flows) (sym same) ∙ none_told mine.seen.flows (all_stood timed start turns plain whole fit run side at).stands.tokens.seen.named,
    )
