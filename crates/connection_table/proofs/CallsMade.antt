-- Calls of a plan, part by part, and the puts of a table's lines.
use Rattle.std.proofs.Common.{◌≡◌, refl, sym, ◌∙◌, ap, subst, ⊎_elim, inl, inr, Bool, ℕ, zero, suc, ◌+◌, ◌<◌, ◌≤◌, List, [], ◌∷◌, ◌++◌, append_assoc, length, map, arith}
use Rattle.std.specs.List.{slice_get}
use Rattle.std.proofs.lemmas.List.{append-nil, map-append}
use Rattle.outside_kit.specs.declared.port.Port.TheVariants.{Log}
use Rattle.outside_kit.specs.Calls.{AreCallsAfter, Call}
use Rattle.outside_kit.specs.Calls as call
use Rattle.run_outside.specs.Plan.{succeeded, failed, Adds, AddsAll}
use Rattle.run_outside.proofs.Calls.{ToldCalls, adds_none, adds_then, all_then}
use Rattle.connection_table.specs.declared.many.Many.{Many}
use Rattle.connection_table.specs.declared.many.Many.TheVariants.{Done, Usage, Load, TooLong, List as Listing, Script, SameToken, Put, Memory}
use Rattle.connection_table.specs.Loads.{AddsCut, AddsFirst, AddsToFailed}
use Rattle.connection_table.specs.ManyEnds.{PutAdds, puts_from}
use Rattle.connection_table.specs.ManyLines.{connection_line, line_if, state_of}
use Rattle.connection_table.specs.Tables.{Entry}

-- ---- one part after the other

-- calls that succeeded, and then some of a plan up to one that failed
pub failed_then : (front first plan : List Call) (a b c : ToldCalls) → AddsAll front a b → AddsToFailed first plan b c → AddsToFailed (front ++ first) plan a c
failed_then front first plan a b c before cut = record {
  made = cut.made;
  failing = cut.failing;
  behind = cut.behind;
  plan_is = cut.plan_is;
  adds = subst (λ made. Adds made a c) (sym seam)
      (adds_then (map succeeded front) (map succeeded (first ++ cut.made) ++ failed cut.failing ∷ []) a b c before cut.adds);
}
  where
    seam : map succeeded ((front ++ first) ++ cut.made) ++ failed cut.failing ∷ [] ≡ map succeeded front ++ (map succeeded (first ++ cut.made) ++ failed cut.failing ∷ [])
    seam =
        ap (λ calls. map succeeded calls ++ failed cut.failing ∷ []) (append_assoc front first cut.made)
        ∙ ap (λ made. made ++ failed cut.failing ∷ []) (map-append succeeded front (first ++ cut.made))
        ∙ append_assoc (map succeeded front) (map succeeded (first ++ cut.made)) (failed cut.failing ∷ [])

-- calls that succeeded, with those of the plan directly behind them
module _ (front plan : List Call) (a b c : ToldCalls) (before : AddsAll front a b) (cut : AddsToFailed [] plan b c) where
  failed_adds : Adds (map succeeded (front ++ cut.made) ++ failed cut.failing ∷ []) a c
  failed_adds =
      subst (λ made. Adds made a c)
      (sym (ap (λ made. made ++ failed cut.failing ∷ []) (map-append succeeded front cut.made) ∙ append_assoc (map succeeded front) (map succeeded cut.made) (failed cut.failing ∷ [])))
      (adds_then (map succeeded front) (map succeeded cut.made ++ failed cut.failing ∷ []) a b c before cut.adds)

  pub failed_behind : AddsToFailed front plan a c
  failed_behind = record { made = cut.made; failing = cut.failing; behind = cut.behind; plan_is = cut.plan_is; adds = failed_adds }

-- in a longer plan
module _ (front plan behind : List Call) (a b c : ToldCalls) (before : AddsAll front a b) where
  first_within : AddsFirst plan b c → AddsFirst (front ++ (plan ++ behind)) a c
  first_within first = record {
    made = front ++ first.made;
    behind = first.behind ++ behind;
    plan_is = ap (λ calls. front ++ (calls ++ behind)) first.plan_is ∙ ap (λ calls. front ++ calls) (append_assoc first.made first.behind behind)
        ∙ sym (append_assoc front first.made (first.behind ++ behind));
    adds = all_then front first.made a b c before first.adds;
  }

  failed_within : AddsToFailed [] plan b c → AddsToFailed [] (front ++ (plan ++ behind)) a c
  failed_within cut = record {
    made = front ++ cut.made;
    failing = cut.failing;
    behind = cut.behind ++ behind;
    plan_is = ap (λ calls. front ++ (calls ++ behind)) cut.plan_is ∙ ap (λ calls. front ++ calls) (append_assoc cut.made (cut.failing ∷ cut.behind) behind)
        ∙ sym (append_assoc front cut.made (cut.failing ∷ (cut.behind ++ behind)));
    adds = failed_adds front plan a b c before cut;
  }

  -- some of a plan behind calls that succeeded, with more calls behind it
  pub cut_within : AddsCut plan b c → AddsCut (front ++ (plan ++ behind)) a c
  cut_within cut = ⊎_elim (λ first. inl (first_within first)) (λ to. inr (failed_within to)) cut

pub cut_behind : (front plan : List Call) (a b c : ToldCalls) → AddsAll front a b → AddsCut plan b c → AddsCut (front ++ plan) a c
cut_behind front plan a b c before cut = subst (λ calls. AddsCut (front ++ calls) a c) (append-nil plan) (cut_within front plan [] a b c before cut)

-- ---- one put

-- a call that was told
pub one_told : (made told : Call) (ok was : Bool) (a b : ToldCalls) → AreCallsAfter made ok a b → made ≡ told → ok ≡ was → Adds (record { call = told; ok = was } ∷ []) a b
one_told made told ok was a b after same is =
    subst (λ (o : Bool). Adds (record { call = told; ok = o } ∷ []) a b) is (subst (λ (x : Call). AreCallsAfter x ok a b) same after)

pub none_made : (plan : List Call) (a : ToldCalls) → AddsCut plan a a
none_made plan a = inl (record { made = []; behind = plan; plan_is = refl; adds = adds_none a })

pub one_failed : (put : Call) (a b : ToldCalls) → Adds (failed put ∷ []) a b → AddsToFailed [] (put ∷ []) a b
one_failed put a b adds = record { made = []; failing = put; behind = []; plan_is = refl; adds = adds }

-- ---- the puts of a table

-- of so many connections, the first having this number
abbrev pub puts_upto : ℕ → ℕ → List Entry → List Call
puts_upto number zero table = []
puts_upto number (suc count) [] = []
puts_upto number (suc count) (e ∷ table) = call.Put Log (connection_line number (state_of e)) ∷ puts_upto (suc number) count table

next_put : (number i at : ℕ) (table : List Entry) → at ≡ number + i → i < length table
    → puts_upto number (suc i) table ≡ puts_upto number i table ++ call.Put Log (line_if at (slice_get table i)) ∷ []
next_put number i at [] is within = absurd (omega (arith, within))
next_put number zero at (e ∷ table) is within =
    let same : number ≡ at = omega (arith, is) in
    ap (λ n. let puts : List Call = call.Put Log (connection_line n (state_of e)) ∷ [] in puts) same
next_put number (suc i) at (e ∷ table) is within =
    ap (λ puts. call.Put Log (connection_line number (state_of e)) ∷ puts) (next_put (suc number) i at table (omega (arith, is)) (omega (arith, within)))

pub put_more : (i : ℕ) (table : List Entry) → i < length table → puts_upto 0 (i + 1) table ≡ puts_upto 0 i table ++ call.Put Log (line_if i (slice_get table i)) ∷ []
put_more i table within =
    let e : suc i ≡ i + 1 = omega arith in
    ap (λ n. puts_upto 0 n table) (sym e) ∙ next_put 0 i i table (omega arith) within

all_puts : (number i : ℕ) (table : List Entry) → length table ≤ i → puts_upto number i table ≡ puts_from number (map state_of table)
all_puts number zero [] past = refl
all_puts number (suc i) [] past = refl
all_puts number zero (e ∷ table) past = absurd (omega (arith, past))
all_puts number (suc i) (e ∷ table) past = ap (λ puts. call.Put Log (connection_line number (state_of e)) ∷ puts) (all_puts (suc number) i table (omega (arith, past)))

pub puts_all : (i : ℕ) (table : List Entry) → length table ≤ i → puts_upto 0 i table ≡ puts_from 0 (map state_of table)
puts_all i table past = all_puts 0 i table past

-- those behind these
behind : (number i : ℕ) (table : List Entry) → (more : List Call) × (puts_from number (map state_of table) ≡ puts_upto number i table ++ more)
behind number zero table = (puts_from number (map state_of table), refl)
behind number (suc i) [] = ([], refl)
behind number (suc i) (e ∷ table) =
    let rest = behind (suc number) i table in
    (rest.0, ap (λ puts. call.Put Log (connection_line number (state_of e)) ∷ puts) rest.1)

-- a put that ends the run
module _ (i : ℕ) (table : List Entry) (a b c : ToldCalls) (within : i < length table) (before : AddsAll (puts_upto 0 i table) a b) where
  abbrev one : List Call
  one = call.Put Log (line_if i (slice_get table i)) ∷ []

  whole_is : (more : List Call) × (puts_from 0 (map state_of table) ≡ puts_upto 0 i table ++ (one ++ more))
  whole_is =
      let rest = behind 0 (i + 1) table in
      (rest.0, rest.1 ∙ ap (λ puts. puts ++ rest.0) (put_more i table within) ∙ append_assoc (puts_upto 0 i table) one rest.0)

  pub put_ends : (many : Many) → PutAdds one b c many → PutAdds (puts_from 0 (map state_of table)) a c many
  put_ends Put cut = subst (λ plan. AddsToFailed [] plan a c) (sym whole_is.1) (failed_within (puts_upto 0 i table) one whole_is.0 a b c before cut)
  put_ends Memory cut = subst (λ plan. AddsCut plan a c) (sym whole_is.1) (cut_within (puts_upto 0 i table) one whole_is.0 a b c before cut)
  put_ends Done cut = tt
  put_ends Usage cut = tt
  put_ends (Load line) cut = tt
  put_ends (TooLong line) cut = tt
  put_ends (Listing line) cut = tt
  put_ends (Script entry line kind) cut = tt
  put_ends (SameToken line holder) cut = tt
