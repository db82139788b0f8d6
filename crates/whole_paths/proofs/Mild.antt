-- Where no option is taken away, no payload altered, and no side closes at once, both sides go by mappings, and links change no segment.
use Rattle.std.proofs.Common.{◌≡◌, refl, sym, subst, ap, ◌∙◌, ℕ, ◌+◌, Bool, true, false, true≢false, if◌then◌else◌, ◌||◌, Some, None, List, [], ◌∷◌}
use Rattle.std.specs.Prelude.{find, option_and_then}
use Rattle.std.specs.List.{list_all, list_any}
use Rattle.std.proofs.lemmas.Bool.{and_parts, or_from}
use Rattle.sides.specs.declared.side.Side.{Side}
use Rattle.sides.specs.declared.side.Side.TheVariants.{A, B}
use Rattle.link_script.specs.declared.script.Happens.TheVariants.{Stripped, Altered}
use Rattle.link_script.specs.declared.script.ScriptLine.{ScriptLine}
use Rattle.link_script.specs.declared.script.ScriptLine.TheVariants.{OnSegment, StripAll, FastClose}
use Rattle.link_model.specs.Fate.{is_stripped_by}
use Rattle.link_model.specs.Passage.{plain_shape, shape_of}
use Rattle.stream_apps.specs.Starts.{is_fast_close, tick_of}
use Rattle.stream_lanes.proofs.Lists.{in_map}
use Rattle.actor_desk.specs.declared.ask.Reply.{Reply}
use Rattle.path_core.specs.Codec.{Codec}
use Rattle.path_core.specs.Octets.{octets}
use Rattle.path_core.specs.Shown.{AltersNothing}
use Rattle.path_core.specs.Start.{first_turn, waiting_path}
use Rattle.path_core.specs.State.{PathState, end_at}
use Rattle.path_core.specs.Values.{Carried, values}
use Rattle.world_laws.specs.declared.member.Member.TheVariants.{App, Path}
use Rattle.world_laws.specs.Actors.{Actor, ActorCrew, member_takes, member_next}
use Rattle.world_laws.specs.Fresh.{shown_crew, shown_member, shown_world}
use Rattle.world_laws.specs.Members.{HoldsOfKind}
use Rattle.world_laws.specs.NeverFalls.{StripsNothing, strips_options}
use Rattle.world_laws.specs.Openings.{PathPlan, opened_world, path_begins}
use Rattle.world_laws.specs.PlainScripts.{alters_payload}
use Rattle.world_laws.specs.StampedBooks.{answer_to}
use Rattle.world_laws.specs.Worlds.{WorldState, world_run}
use Rattle.world_laws.proofs.Promises.Made.{run_fresh}
use Rattle.world_laws.proofs.Promises.OfScripts.{none_passes, plain_scripts_start_plainly}
use Rattle.world_laws.proofs.Rounds.Lifting.{opened_lifted, run_lifted}
use Rattle.world_laws.proofs.Whole.Falls.{MemberUpright, each_upright, never_strips}
use Rattle.world_laws.proofs.Whole.Happening.{Holds, Now, Next}
use Rattle.whole_paths.specs.Finish.{is_mild}
use Rattle.whole_paths.specs.Mild.{EndsGoByMappings, IsPromisedMildly, LinkIsMild, LinksAreMild, MappingIsKept, MildScriptsStartMildly}
use Rattle.whole_paths.proofs.Flying.{SameLines, begins_lines, takes_lines}
use Rattle.whole_paths.proofs.Harmed.{shape_stays}

-- ---- mappings

finite : (p : PathState Carried) → Holds p → (s : Side) → (end_at s p).modes.peer_infinite ≡ None
finite p (Now q h) A = h.a.base.finite
finite p (Now q h) B = h.b.base.finite
finite p (Next d ds q between now calm does passes) s = between.finite s

abbrev OfPaths : {C : Type 0} → (PathState C → Type 0) → Actor C → Type 0
OfPaths P = HoldsOfKind (λ app. Unit {0}) P

upright_goes : (m : Actor Carried) → MemberUpright m → OfPaths EndsGoByMappings m
upright_goes (App a) h = tt
upright_goes (Path p) h = λ s. record { identity = h.identity s; own = h.passes.mapped s; peer = λ first. finite p (h.holds first) s; told = h.passes.told_none s; right = h.passes.sound s }

pub mapping_is_kept : IsPromisedMildly values (λ start w. MappingIsKept w)
mapping_is_kept start turns mild = record { each = λ actor c there. upright_goes c.member ((each_upright start turns mild.plain mild.strips).each actor c there) }

shown_goes : (m : Actor Carried) → OfPaths EndsGoByMappings m → OfPaths EndsGoByMappings (shown_member m)
shown_goes (App a) h = tt
shown_goes (Path p) h = λ s. h s

world_goes : (w : WorldState Carried) → MappingIsKept w → MappingIsKept (shown_world w)
world_goes w h = record {
  each = λ i c there.
      let found = in_map shown_crew w.crew i c there in
      subst (λ (y : ActorCrew (List ℕ)). OfPaths EndsGoByMappings y.member) found.2 (shown_goes found.0.member (h.each i found.0 found.1));
}

pub mapping_is_kept_in_octets : IsPromisedMildly octets (λ start w. MappingIsKept w)
mapping_is_kept_in_octets start turns mild =
    subst MappingIsKept (sym (run_fresh start turns mild.plain.size mild.fit)) (world_goes (world_run values turns (opened_world start)) (mapping_is_kept start turns mild))

-- ---- links

module _ {C : Type 0} (lines : List ScriptLine) where
  mild_then : (p q : PathState C) → SameLines p q → LinkIsMild lines p → LinkIsMild lines q
  mild_then p q same h = record {
    strips = subst StripsNothing (sym same) h.strips;
    alters = subst AltersNothing (sym same) h.alters;
    shape = λ none s. ap (shape_of s) same ∙ h.shape none s;
  }

  takes_mild : (k : Codec C) (r : Reply) (m : Actor C) → OfPaths (LinkIsMild lines) m → OfPaths (LinkIsMild lines) (member_takes k r m)
  takes_mild k r (App a) h = tt
  takes_mild k r (Path p) h = mild_then p _ (takes_lines k r p) h

  next_mild : (m : Actor C) → OfPaths (LinkIsMild lines) m → OfPaths (LinkIsMild lines) (member_next m)
  next_mild (App a) h = tt
  next_mild (Path p) h = mild_then p _ (begins_lines (record p { clock = p.until; until = p.until + 100 })) h

pub links_are_mild : {C : Type 0} (k : Codec C) → IsPromisedMildly k (λ start w. LinksAreMild start.lines w)
links_are_mild {C} k start turns mild = record {
  each = λ actor c there. (run_lifted k (λ c. OfPaths (LinkIsMild start.lines) c.member) (λ books c x asks h. takes_mild start.lines k (answer_to books x) c.member h)
      (λ stamp c over h. next_mild start.lines c.member h) turns (opened_world start)
      (opened_lifted (λ c. OfPaths (LinkIsMild start.lines) c.member) start tt tt (λ number plan there. first number plan))).each actor c there;
}
  where
    first : (number : ℕ) (plan : PathPlan) → LinkIsMild start.lines (first_turn {C = C} (path_begins start number plan) start.lines)
    first number plan =
        let p : PathState C = waiting_path (path_begins start number plan) start.lines in
        mild_then start.lines p (first_turn (path_begins start number plan) start.lines) (begins_lines p) (record { strips = mild.strips number; alters = mild.plain.unaltered number; shape = λ none s. shape_stays s number plain_shape start.lines none })

-- ---- scripts

none_of : (test : ScriptLine → Bool) → ((line : ScriptLine) → is_mild line ≡ true → test line ≡ false) → (lines : List ScriptLine) → list_all is_mild lines ≡ true → list_any test lines ≡ false
none_of test never [] mild = refl
none_of test never (line ∷ lines) mild =
    let parts = and_parts (is_mild line) (list_all is_mild lines) mild in
    or_from (test line) (list_any test lines) (never line parts.0) (none_of test never lines parts.1)

never_altered : (line : ScriptLine) → is_mild line ≡ true → alters_payload line ≡ false
never_altered (OnSegment segment Altered) is = absurd (true≢false (sym is))
never_altered _ is = refl

never_stripped : (line : ScriptLine) → is_mild line ≡ true → strips_options line ≡ false
never_stripped (OnSegment segment Stripped) is = absurd (true≢false (sym is))
never_stripped (StripAll path side tick) is = absurd (true≢false (sym is))
never_stripped _ is = refl

never_closes : (s : Side) (line : ScriptLine) → is_mild line ≡ true → is_fast_close s line ≡ false
never_closes s (FastClose side tick) is = absurd (true≢false (sym is))
never_closes s _ is = refl

none_found : (test : ScriptLine → Bool) (lines : List ScriptLine) → list_any test lines ≡ false → find test lines ≡ None
none_found test [] none = refl
none_found test (line ∷ lines) none = (elim (test line) as (λ b. (b || list_any test lines) ≡ false → (if b then Some line else find test lines) ≡ None)
    [ true ↦ λ is. absurd (true≢false is) | false ↦ λ is. none_found test lines is ]) none

pub mild_scripts_start_mildly : MildScriptsStartMildly
mild_scripts_start_mildly script file_a file_b h mild =
    let starts = plain_scripts_start_plainly script file_a file_b
    (record { ranges = h.ranges; unaltered = none_of alters_payload never_altered script.lines mild; short_a = h.short_a; short_b = h.short_b }) in
    record {
      plain = starts.0;
      strips = λ path. record {
        strips = λ from number now. none_passes strips_options (is_stripped_by from number now) (never_strips from number now) path script.lines (none_of strips_options never_stripped script.lines mild);
      };
      stays_open = λ s. ap (λ o. option_and_then tick_of o) (none_found (is_fast_close s) script.lines (none_of (is_fast_close s) (never_closes s) script.lines mild));
      fit = starts.1;
    }
