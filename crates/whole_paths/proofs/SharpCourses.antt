-- Where a full segment that is read pays for 23 rounds, and a harm for 2,530, whole paths deliver both files with `patience`.
use Rattle.std.proofs.Common.{◌≡◌, refl, sym, subst, ap, ◌∙◌, ◌⊎◌, inl, inr, ℕ, ◌+◌, ◌*◌, ◌<◌, ◌≤◌, arith, List, [], ◌∷◌, ◌++◌, length}
use Rattle.std.proofs.Math.Nat.{div-le_of_le-mul}
use Rattle.std.proofs.lemmas.List.{append-nil, append_assoc}
use Rattle.link_script.specs.declared.script.PathLine.{PathLine}
use Rattle.link_script.specs.declared.script.Script.{Script}
use Rattle.path_core.specs.Codec.{Codec}
use Rattle.path_core.specs.Octets.{octets}
use Rattle.path_core.specs.Values.{values}
use Rattle.world_laws.specs.Openings.{PathPlan, Start, plan_of, plans_from, start_of}
use Rattle.world_laws.specs.RoundDone.{reached}
use Rattle.world_laws.specs.Worlds.{Turn}
use Rattle.whole_paths.specs.Counts.{spare}
use Rattle.whole_paths.specs.Delivery.{AllIsThere}
use Rattle.whole_paths.specs.Finish.{IsMild, Patience, patience, rounds_in}
use Rattle.whole_paths.specs.OnePathScripts.{AllIsThereBy, BeginsWithOnePath, BriefPathsEndBy, Count, rounds_within}
use Rattle.whole_paths.specs.PaidCourses.{PaidExchanges}
use Rattle.whole_paths.specs.PaidRounds.{AWaitGoesOn}
use Rattle.whole_paths.specs.SentByTurns.{SentAtMost}
use Rattle.whole_paths.specs.SharpCourses.{IsOpenWithin, IsPaid, SharpEndsByScripts, SharpExchanges, SharpExchangesEnd, most_units, price, price_by, sharp_allowance, the_course, top, units}
use Rattle.whole_paths.proofs.Courses.{paid_exchanges_end}
use Rattle.whole_paths.proofs.Delivery.{what_is_there_stays}
use Rattle.whole_paths.proofs.OnePathScripts.{ends_as_it_begins_by}
use Rattle.whole_paths.proofs.OpenCourses.{holds_along}
use Rattle.whole_paths.proofs.OverOctets.{ends_as_it_begins_by_in_octets}
use Rattle.whole_paths.proofs.SegmentsRead.{few_units, units_up}
use Rattle.whole_paths.proofs.SentByTurns.{each_turn_sends_one_at_most}
use Rattle.whole_paths.proofs.ThereInTime.{what_is_there_in_time_is_delivered_by}

-- ---- waits that are paid so

module _ (start : Start) (plan : PathPlan) (paid : List Turn → ℕ) (most : ℕ) (Mended : ℕ → List Turn → Type 0) (Waits : ℕ → ℕ → List Turn → Type 0)
    (x : SharpExchanges start plan paid most Mended Waits) (begins : BeginsWithOnePath start plan) where
  abbrev Over : List Turn → Type 0
  Over turns = AllIsThere (reached values start turns)

  abbrev Moment : List Turn → Type 0
  Moment = IsOpenWithin start paid most

  lasts : (turns : List Turn) (t : Turn) → Over turns → Over (turns ++ t ∷ [])
  lasts turns t over = record { of = λ s. what_is_there_stays start turns (t ∷ []) begins.mild s (over.of s) }

  -- what is paid stays so
  paid_later : (n : ℕ) (v u : List Turn) (t : Turn) → u ≡ v ++ t ∷ [] → ((m : ℕ) → Mended m v → Mended m u) → IsPaid start plan paid most Mended n v → IsPaid start plan paid most Mended n u
  paid_later n v u t is stays h = record {
    harms = h.harms;
    mended = stays h.harms h.mended;
    enough = (let low = h.enough in let more = subst (λ ts. units start plan (reached values start v) ≤ units start plan (reached values start ts)) (sym is) (units_up start plan v (t ∷ [])) in omega (arith, low, more));
  }

  -- of open moments alone it is said how much there is
  abbrev Pays : ℕ → List Turn → Type 0
  Pays n turns = IsPaid start plan paid most Mended n turns × (paid turns ≤ most)

  pays : (n y : ℕ) (u : List Turn) → paid u ≤ most → IsPaid start plan paid most Mended n u ⊎ AWaitGoesOn (the_course start plan paid most Mended Waits) (top start plan paid most) n y u
      → Pays n u ⊎ AWaitGoesOn (the_course start plan paid most Mended Waits) (top start plan paid most) n y u
  pays n y u low (inl h) = inl (h, low)
  pays n y u low (inr h) = inr h

  exchanges : PaidExchanges values start Moment most (top start plan paid most) Over Pays Waits
  exchanges = record {
    over_on = λ v u step over. subst Over (sym step.is) (lasts v (Turn.Step step.actor) over);
    over_next = λ v u step over. subst Over (sym step.is) (lasts v Turn.Round over);
    pays_on = λ n v u step h. (paid_later n v u (Turn.Step step.actor) step.is (λ m. x.mended_on m v u step) h.0, step.after.few);
    pays_next = λ n v u step h. (paid_later n v u Turn.Round step.is (λ m. x.mended_next m v u step) h.0, step.after.few);
    few = λ n v harms h. (let low = h.0.enough in let all = few_units start plan (reached values start v) in let mended = x.few_mended h.0.harms v h.0.mended in let most_paid = h.1 in omega (arith, low, all, mended, most_paid));
    waits_on = λ n y v u step h. pays n y u step.after.few (x.waits_on n y v u step h);
    waits_next = λ n y v u step h. pays n y u step.after.few (x.waits_next n y v u step h);
    due = λ n y v u step h late. (x.due n y v u step h late, step.after.few);
    begins = λ n v u step h. x.begins n v u step h.0;
  }

-- ---- all is there in time

pub sharp_exchanges_end : SharpExchangesEnd
sharp_exchanges_end Also paid Mended Waits pays exchange first = what_is_there_in_time_is_delivered_by Also paid sharp_allowance pays.up there
  where
    there : AllIsThereBy Also paid sharp_allowance
    there start plan before more most begins also lawful few whole last low many =
        let along = holds_along start begins.mild before more whole last
        (λ s. let sent = subst (SentAtMost (length (before ++ more))) last.here.is (each_turn_sends_one_at_most values start (before ++ more) 2 last.here.crew last.here.there) s in omega (arith, sent, few)) in
        let within : (ts us : List Turn) → ts ++ us ≡ more → IsOpenWithin start (paid start) most (before ++ ts) =
        λ ts us is. record {
          is_open = along ts us is;
          few = (let up = pays.up start (before ++ ts) us in let all = ap (paid start) (append_assoc before ts us ∙ ap (λ (xs : List Turn). before ++ xs) is) in omega (arith, up, all, low));
        } in
        let now : IsOpenWithin start (paid start) most before = subst (IsOpenWithin start (paid start) most) (append-nil before) (within [] more refl) in
        let harms = pays.covers start (before ++ more) in
        paid_exchanges_end values start (IsOpenWithin start (paid start) most) most (top start plan (paid start) most) (λ turns. AllIsThere (reached values start turns))
        (Pays start plan (paid start) most (Mended start plan most) (Waits start plan most) (exchange start plan most begins also) begins) (Waits start plan most)
        (exchanges start plan (paid start) most (Mended start plan most) (Waits start plan most) (exchange start plan most begins also) begins) before more
        (record { harms = 0; mended = first start plan most begins also before now.is_open; enough = omega arith }, now.few) lawful within (omega (arith, harms, low))
        (subst (λ plans. price_by start plans most < 100 * rounds_in more) begins.one many)

-- ---- with `patience`

-- what rounds do, more do
with_more : {C : Type 0} (k : Codec C) (Also : Start → PathPlan → Type 0) (count : Count) (some more : Patience)
    → ((script : Script) (path : PathLine) (file_a file_b : List ℕ) (harms : ℕ) → IsMild script path file_a file_b
    → some script path file_a file_b harms ≤ more script path file_a file_b harms) → BriefPathsEndBy k Also count some → BriefPathsEndBy k Also count more
with_more k Also count some more fewer ends script path file_a file_b before after mild also brief lawful first enough =
    ends script path file_a file_b before after mild also brief lawful first
    (let less = fewer script path file_a file_b (count (start_of script file_a file_b) (before ++ Turn.Round ∷ after)) mild in omega (arith, less, enough))

patient : (script : Script) (path : PathLine) (file_a file_b : List ℕ) (harms : ℕ) → IsMild script path file_a file_b
    → rounds_within sharp_allowance script path file_a file_b harms ≤ patience script path file_a file_b harms
patient script path file_a file_b harms mild =
    let start = start_of script file_a file_b in
    let is : sharp_allowance start harms ≡ price (most_units start (plan_of script 0 path)) (harms + spare) = ap (λ lines. price_by start (plans_from script 0 lines) harms) mild.one in
    let low = div-le_of_le-mul 100 {m = sharp_allowance start harms} {n = 23 * most_units start (plan_of script 0 path) + 2530 * (harms + spare)} (omega (arith, is)) in omega (arith, low)

pub sharp_ends_by_scripts : SharpEndsByScripts
sharp_ends_by_scripts Also paid in_octets same ends = (
  with_more values Also paid (rounds_within sharp_allowance) patience patient (ends_as_it_begins_by Also paid paid sharp_allowance (λ start mild turns. refl) ends),
  with_more octets Also in_octets (rounds_within sharp_allowance) patience patient (ends_as_it_begins_by_in_octets Also paid in_octets sharp_allowance same ends),
)
