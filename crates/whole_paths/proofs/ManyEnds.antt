-- Over any number of paths both files are delivered once path 0 is whole, or an end of it died early, over octets too.
use Rattle.std.proofs.Common.{◌≡◌, sym, subst, ap, ◌∙◌, ◌⊎◌, ⊎_elim, inl, inr, ℕ, suc, ◌+◌, ◌-◌, ◌*◌, ◌^◌, ◌<◌, ◌≤◌, arith, List, [], ◌∷◌, ◌++◌, length, length-append, append_assoc}
use Rattle.path_core.specs.Octets.{octets}
use Rattle.path_core.specs.Values.{values}
use Rattle.world_laws.specs.declared.outcome.Outcome.TheVariants.{Delivered}
use Rattle.world_laws.specs.Openings.{Start, opened_world, start_of}
use Rattle.world_laws.specs.Outcomes.{outcome_of}
use Rattle.world_laws.specs.RoundDone.{reached}
use Rattle.world_laws.specs.Worlds.{Turn, AreLawful, world_run}
use Rattle.world_laws.proofs.Weaving.WholeRounds.{run_append}
use Rattle.whole_paths.specs.CountedCourses.{harms_at}
use Rattle.whole_paths.specs.Delivery.{AllIsThere}
use Rattle.whole_paths.specs.Finish.{AnEndDied, IsWhole, rounds_in}
use Rattle.whole_paths.specs.ManyCourses.{PathBringsAll, StaysInUse}
use Rattle.whole_paths.specs.ManyEnds.{DeliversOrDiesAt, FirstPathsEnd}
use Rattle.whole_paths.specs.ManyPaths.{patience_of_all}
use Rattle.whole_paths.specs.Mild.{IsMildStart}
use Rattle.whole_paths.specs.OnePathScripts.{AnEndDiedEarlyAt}
use Rattle.whole_paths.specs.OverOctets.{IsAsFarAsOverValues}
use Rattle.whole_paths.specs.ReturnWaits.{most_of_all}
use Rattle.whole_paths.specs.Rounds.{ticks_for}
use Rattle.whole_paths.specs.Serving.{ServesAt}
use Rattle.whole_paths.proofs.CountedCourses.{paths_are_counted}
use Rattle.whole_paths.proofs.Delivery.{all_there_is_delivered}
use Rattle.whole_paths.proofs.ManyCourses.{in_use, many_paths_bring_all}
use Rattle.whole_paths.proofs.ManyPaths.{rounds_so, serves_back, starts_mildly}
use Rattle.whole_paths.proofs.OpenCourses.{lawful_parts}
use Rattle.whole_paths.proofs.OverOctets.{octets_are_as_far_as_values, there_by_books}
use Rattle.whole_paths.proofs.StayingWhole.{whole_paths_stay_whole}
use Rattle.whole_paths.proofs.ThereInTime.{LastRounds, all_there_or, last_rounds}

module _ (number : ℕ) (brings : PathBringsAll number) where
  module _ (start : Start) (mild : IsMildStart start) (buffer : 32 ≤ start.buffer) (before first rest : List Turn) (most : ℕ)
      (going : AreLawful values (first ++ rest) (reached values start before)) (short : length (before ++ (first ++ rest)) < 2 ^ 64 - 1) (whole : IsWhole number (reached values start before))
      (serves : (ts us : List Turn) → ts ++ us ≡ first ++ rest → ServesAt number (reached values start (before ++ ts))) (few : harms_at start number (before ++ (first ++ rest)) ≤ most)
      (three : 3 ≤ rounds_in rest) (enough : ticks_for 61100 (suc (most_of_all start + most)) < 100 * rounds_in first) where
    abbrev Ends : Type 0
    Ends = (outcome_of (reached values start (before ++ (first ++ rest))).crew ≡ Delivered) ⊎ AnEndDiedEarlyAt number values start (before ++ (first ++ rest))

    same : (before ++ first) ++ rest ≡ before ++ (first ++ rest)
    same = append_assoc before first rest

    then : reached values start (before ++ first) ≡ world_run values first (reached values start before)
    then = run_append values before first (opened_world start)

    lawful : AreLawful values first (reached values start before) × AreLawful values rest (world_run values first (reached values start before))
    lawful = lawful_parts first rest (reached values start before) going

    delivered : AllIsThere (reached values start (before ++ first)) → Ends
    delivered all = inl (subst (λ ts. outcome_of (reached values start ts).crew ≡ Delivered) same
        (all_there_is_delivered start (before ++ first) rest mild all (subst (AreLawful values rest) (sym then) lawful.1) three))

    used_so : IsWhole number (reached values start (before ++ first)) → StaysInUse number start before first most
    used_so last = record {
      lawful = lawful.0;
      short = (let long = ap length same in let sum = length-append (before ++ first) rest in omega (arith, long, sum, short));
      first = whole;
      last = last;
      used = λ ts us is. in_use number start before (first ++ rest) serves ts (us ++ rest) (sym (append_assoc ts us rest) ∙ ap (λ xs. xs ++ rest) is);
      few = (let up = (paths_are_counted start number mild.plain mild.fit).harms (before ++ first) rest in let all = ap (harms_at start number) same in omega (arith, few, up, all));
    }

    ended : (AllIsThere (reached values start (before ++ first)) → ⊥) → Ends
    ended missing = ⊎_elim
        (λ last. absurd (missing (brings start before first most mild buffer (used_so (subst (IsWhole number) (sym then) last)) enough)))
        (λ died. inr (record { first = before ++ first; rest = rest; is = sym same; died = subst (AnEndDied number) (sym then) died; missing = missing }))
        (whole_paths_stay_whole values (reached values start before) number first whole)

    ends_so : Ends
    ends_so = ⊎_elim delivered ended (all_there_or (reached values start (before ++ first)))

  abbrev EndsSo : Start → List Turn → Type 0
  EndsSo start turns = (outcome_of (reached values start turns).crew ≡ Delivered) ⊎ AnEndDiedEarlyAt number values start turns

  -- from when the path is whole
  pub served_path_ends : (start : Start) (mild : IsMildStart start) (buffer : 32 ≤ start.buffer) (before more : List Turn) (most : ℕ) → AreLawful values more (reached values start before)
      → length (before ++ more) < 2 ^ 64 - 1 → IsWhole number (reached values start before) → ((ts us : List Turn) → ts ++ us ≡ more → ServesAt number (reached values start (before ++ ts)))
      → harms_at start number (before ++ more) ≤ most → ticks_for 61100 (suc (most_of_all start + most)) + 300 < 100 * rounds_in more
      → EndsSo start (before ++ more)
  served_path_ends start mild buffer before more most lawful short first serves few ticks = subst (EndsSo start) whole_is
      (ends_so start mild buffer before parts.first parts.rest most
      (subst (λ ts. AreLawful values ts (reached values start before)) parts.is lawful)
      (subst (λ ts. length ts < 2 ^ 64 - 1) (sym whole_is) short) first (λ ts us is. serves ts us (is ∙ sym parts.is))
      (let same = ap (harms_at start number) whole_is in omega (arith, same, few)) (let three = parts.last in omega (arith, three)) (let all = parts.all in omega (arith, all, ticks)))
    where
      parts : LastRounds 3 more
      parts = last_rounds 3 more (omega (arith, ticks))

      whole_is : before ++ (parts.first ++ parts.rest) ≡ before ++ more
      whole_is = ap (λ ts. before ++ ts) (sym parts.is)

  pub delivers_or_dies_at : DeliversOrDiesAt values number
  delivers_or_dies_at script file_a file_b before more mild brief lawful first serves many = subst (EndsSo start) same_turns
      (served_path_ends start (starts_mildly script file_a file_b mild) (let least = mild.ranges.buffer.least in omega (arith, least)) begun more most
      (lawful_parts begun more (opened_world start) (subst (λ ts. AreLawful values ts (opened_world start)) (sym same_turns) lawful)).1
      (subst (λ ts. length ts < 2 ^ 64 - 1) (sym same_turns) brief.few) first (λ ts us is. serves (begun ++ ts) us (append_assoc begun ts us ∙ ap (λ xs. begun ++ xs) is ∙ same_turns))
      (let all = ap (harms_at start number) same_turns in omega (arith, all)) (rounds_so (ticks_for 61100 (suc (most_of_all start + most))) (rounds_in more) many))
    where
      start : Start
      start = start_of script file_a file_b

      begun : List Turn
      begun = before ++ Turn.Round ∷ []

      most : ℕ
      most = harms_at start number (before ++ Turn.Round ∷ more)

      same_turns : begun ++ more ≡ before ++ Turn.Round ∷ more
      same_turns = append_assoc before (Turn.Round ∷ []) more

  -- ---- over octets

  module _ (start : Start) (mild : IsMildStart start) where
    far : (turns : List Turn) → IsAsFarAsOverValues start turns
    far turns = octets_are_as_far_as_values start turns mild.plain.size mild.fit

    pub ended_at : (turns : List Turn) → (outcome_of (reached values start turns).crew ≡ Delivered) ⊎ AnEndDiedEarlyAt number values start turns
        → (outcome_of (reached octets start turns).crew ≡ Delivered) ⊎ AnEndDiedEarlyAt number octets start turns
    ended_at turns (inl delivered) = inl ((far turns).outcome ∙ delivered)
    ended_at turns (inr h) = inr (record {
      first = h.first;
      rest = h.rest;
      is = h.is;
      died = ((far h.first).died number).1 h.died;
      missing = λ all. h.missing (there_by_books (reached octets start h.first) (reached values start h.first) (far h.first).books all);
    })

  pub delivers_or_dies_at_in_octets : DeliversOrDiesAt octets number
  delivers_or_dies_at_in_octets script file_a file_b before more mild brief going first serves many =
      let starts = starts_mildly script file_a file_b mild in
      let whole = far (start_of script file_a file_b) starts (before ++ Turn.Round ∷ more) in
      let begun = far (start_of script file_a file_b) starts (before ++ Turn.Round ∷ []) in
      ended_at (start_of script file_a file_b) starts (before ++ Turn.Round ∷ more)
      (delivers_or_dies_at script file_a file_b before more mild brief (whole.lawful.0 going) ((begun.whole number).0 first)
      (λ ts us is. serves_back number (start_of script file_a file_b) ts starts (serves ts us is))
      (subst (λ n. patience_of_all script file_a file_b n ≤ rounds_in more) (whole.harms number) many))

-- ---- path 0

pub served_paths_end : (start : Start) (mild : IsMildStart start) (buffer : 32 ≤ start.buffer) (before more : List Turn) (most : ℕ) → AreLawful values more (reached values start before)
    → length (before ++ more) < 2 ^ 64 - 1 → IsWhole 0 (reached values start before) → ((ts us : List Turn) → ts ++ us ≡ before ++ more → ServesAt 0 (reached values start ts))
    → harms_at start 0 (before ++ more) ≤ most → ticks_for 61100 (suc (most_of_all start + most)) + 300 < 100 * rounds_in more
    → (outcome_of (reached values start (before ++ more)).crew ≡ Delivered) ⊎ AnEndDiedEarlyAt 0 values start (before ++ more)
served_paths_end start mild buffer before more most lawful short first serves few ticks =
    served_path_ends 0 many_paths_bring_all start mild buffer before more most lawful short first (λ ts us is. serves (before ++ ts) us (append_assoc before ts us ∙ ap (λ xs. before ++ xs) is)) few ticks

pub first_paths_end : FirstPathsEnd values
first_paths_end = delivers_or_dies_at 0 many_paths_bring_all

pub first_paths_end_in_octets : FirstPathsEnd octets
first_paths_end_in_octets = delivers_or_dies_at_in_octets 0 many_paths_bring_all
