-- Where no line of the script lets path 0 die or takes its address back, each path comes by no line that takes that back, and path 0 by none that lets it die.
use Rattle.std.proofs.Common.{◌≡◌, refl, sym, subst, ap, ◌∙◌, ℕ, ◌+◌, arith, eqb-true, ltb-true, ◌==◌, not, Bool, true, false, true≢false, Some, List, [], ◌∷◌}
use Rattle.std.specs.List.{list_all}
use Rattle.std.proofs.lemmas.Bool.{and_from, and_parts}
use Rattle.link_script.specs.declared.script.ScriptLine.{ScriptLine}
use Rattle.link_script.specs.declared.script.ScriptLine.TheVariants.{Add, Die, FastClose, OnDirection, OnSegment, Prio, Remove, StripAll}
use Rattle.stream_lanes.specs.Words.{Every}
use Rattle.actor_desk.specs.declared.ask.Reply.{Reply}
use Rattle.whole_paths.proofs.LinesLeft as left
use Rattle.path_store.specs.Lines.{events_from, with_event}
use Rattle.path_store.specs.declared.lines.LineAction.{LineAction}
use Rattle.path_store.specs.declared.lines.LineAction.TheVariants as actions
use Rattle.path_store.specs.declared.lines.LineLeft.{LineLeft}
use Rattle.path_core.specs.Codec.{Codec}
use Rattle.path_core.specs.Events.{next_event}
use Rattle.path_core.specs.Start.{first_turn, waiting_path}
use Rattle.path_core.specs.State.{PathState}
use Rattle.path_core.specs.Values.{Carried, values}
use Rattle.path_core.specs.declared.events.Event.TheVariants as happenings
use Rattle.world_laws.specs.declared.member.Member.TheVariants.{App, Path}
use Rattle.world_laws.specs.Actors.{Actor, ActorCrew, member_next, member_takes}
use Rattle.world_laws.specs.Members.{HoldsOfKind}
use Rattle.world_laws.specs.Openings.{PathPlan, Start, opened_world, path_begins}
use Rattle.world_laws.specs.RoundDone.{reached}
use Rattle.world_laws.specs.StampedBooks.{answer_to}
use Rattle.world_laws.specs.Worlds.{Turn, world_run}
use Rattle.world_laws.proofs.Rounds.Lifting.{opened_lifted, run_lifted}
use Rattle.world_laws.proofs.Worlds.Opened.{opened_actors}
use Rattle.whole_paths.specs.Finish.{is_harmless_to_ends}
use Rattle.whole_paths.specs.KeptAddresses.{spares_first}
use Rattle.whole_paths.proofs.ByTurns.{Of, OfFirst, each_first_moment}

-- ---- the lines of a path

-- by the line its side takes the address of path 0 back
abbrev pub is_withdrawal : LineAction → Bool
is_withdrawal (actions.Withdraw s id) = id == 0
is_withdrawal _ = false

-- by the line the path dies
abbrev pub is_death : LineAction → Bool
is_death actions.Die = true
is_death _ = false

-- none of them is a withdrawal
abbrev pub Spares : List LineLeft → Type 0
Spares lines = left.Spares is_withdrawal lines

event_spares : (path number : ℕ) (line : ScriptLine) (lines : List LineLeft) → spares_first line ≡ true → Spares lines → Spares (with_event path number line lines)
event_spares path number (Die named tick) lines harmless h = left.only_spares is_withdrawal named path _ lines (λ here. refl) h
event_spares path number (Prio named s tick on) lines harmless h = left.only_spares is_withdrawal named path _ lines (λ here. refl) h
event_spares path number (Add id tick) lines harmless h = left.only_spares is_withdrawal 0 path _ lines (λ here. refl) h
event_spares path number (Remove s id tick) lines harmless h = left.only_spares is_withdrawal 0 path _ lines (λ here. other (id == 0) refl) h
  where
    other : (b : Bool) → (id == 0) ≡ b → b ≡ false
    other false is = refl
    other true is = let zero = eqb-true id 0 is in let some = ltb-true 0 id harmless in absurd (omega (arith, zero, some))
event_spares path number (OnSegment segment happens) lines harmless h = h
event_spares path number (OnDirection direction impairment) lines harmless h = h
event_spares path number (StripAll named s tick) lines harmless h = h
event_spares path number (FastClose s tick) lines harmless h = h

-- nor a death, on path 0
death_spares : (number : ℕ) (line : ScriptLine) (lines : List LineLeft) → spares_first line ≡ true → left.Spares is_death lines → left.Spares is_death (with_event 0 number line lines)
death_spares number (Die named tick) lines harmless h = left.only_spares is_death named 0 _ lines (λ here. sym harmless ∙ ap not here) h
death_spares number (Prio named s tick on) lines harmless h = left.only_spares is_death named 0 _ lines (λ here. refl) h
death_spares number (Add id tick) lines harmless h = left.only_spares is_death 0 0 _ lines (λ here. refl) h
death_spares number (Remove s id tick) lines harmless h = left.only_spares is_death 0 0 _ lines (λ here. refl) h
death_spares number (OnSegment segment happens) lines harmless h = h
death_spares number (OnDirection direction impairment) lines harmless h = h
death_spares number (StripAll named s tick) lines harmless h = h
death_spares number (FastClose s tick) lines harmless h = h

-- what is harmless to the ends of each path is so to those of path 0
pub spare_first : (lines : List ScriptLine) → list_all is_harmless_to_ends lines ≡ true → list_all spares_first lines ≡ true
spare_first [] all = refl
spare_first (line ∷ lines) all =
    let parts = and_parts (is_harmless_to_ends line) (list_all is_harmless_to_ends lines) all in and_from (spares_first line) (list_all spares_first lines) (by line parts.0) (spare_first lines parts.1)
  where
    by : (line : ScriptLine) → is_harmless_to_ends line ≡ true → spares_first line ≡ true
    by (Die named tick) is = absurd (true≢false (sym is))
    by (Remove s id tick) is = is
    by _ is = refl

module _ {C : Type 0} where
  -- what comes next is none of those
  pub no_harm_comes : (p : PathState C) → Spares p.lines → (line : LineLeft) → next_event p ≡ Some (happenings.Takes line) → is_withdrawal line.action ≡ false
  no_harm_comes p spares line next = left.no_harm_comes is_withdrawal p spares line next

  abbrev pub SparedMember : Actor C → Type 0
  SparedMember = HoldsOfKind (λ app. Unit {0}) (λ (p : PathState C). Spares p.lines)

  pub takes_spared : (k : Codec C) (r : Reply) (m : Actor C) → SparedMember m → SparedMember (member_takes k r m)
  takes_spared k r (App a) h = tt
  takes_spared k r (Path p) h = left.takes_spares is_withdrawal k r p h

  pub next_spared : (m : Actor C) → SparedMember m → SparedMember (member_next m)
  next_spared (App a) h = tt
  next_spared (Path p) h = left.begins_spares is_withdrawal (record p { clock = p.until; until = p.until + 100 }) h

  pub each_spared : (k : Codec C) (start : Start) (turns : List Turn) → list_all spares_first start.lines ≡ true → Every (λ (c : ActorCrew C). SparedMember c.member) (world_run k turns (opened_world start)).crew
  each_spared k start turns harmless = run_lifted k (λ c. SparedMember c.member) (λ books c x is h. takes_spared k (answer_to books x) c.member h) (λ stamp c over h. next_spared c.member h) turns (opened_world start)
      (opened_lifted (λ c. SparedMember c.member) start tt tt (λ number plan there.
      (let p : PathState C = waiting_path (path_begins start number plan) start.lines in
      let path = (path_begins start number plan).profile.spelling.path in
      left.begins_spares is_withdrawal p (left.events_spare is_withdrawal path spares_first (λ at line lines. event_spares path at line lines) 0 start.lines [] harmless tt))))

-- ---- path 0

opened_lives : (start : Start) → list_all spares_first start.lines ≡ true → OfFirst (λ (p : PathState Carried). left.Spares is_death p.lines) (opened_world start)
opened_lives start harmless = record {
  each = λ c at. opened_actors (λ actor c. actor ≡ 2 → Of (λ (p : PathState Carried). left.Spares is_death p.lines) c.member) start (λ is. tt) (λ is. tt)
      (λ number plan there is. begun number plan (omega (arith, is))) 2 c at refl;
}
  where
    begun : (number : ℕ) (plan : PathPlan) → number ≡ 0 → left.Spares is_death (first_turn {C = Carried} (path_begins start number plan) start.lines).lines
    begun number plan zeroth =
        let p : PathState Carried = waiting_path (path_begins start number plan) start.lines in
        left.begins_spares is_death p (subst (λ n. left.Spares is_death (events_from n 0 start.lines [])) (sym zeroth) (left.events_spare is_death 0 spares_first (λ at line lines. death_spares at line lines) 0 start.lines [] harmless tt))

-- it comes by no line that lets it die
pub first_lives : (start : Start) (turns : List Turn) → list_all spares_first start.lines ≡ true → OfFirst (λ (p : PathState Carried). left.Spares is_death p.lines) (reached values start turns)
first_lives start turns harmless = each_first_moment values start (λ p. Unit {0}) (λ p. left.Spares is_death p.lines) (λ turns. record { each = λ c there. of_none c.member }) (opened_lives start harmless)
    (λ r p known h. left.takes_spares is_death values r p h) (λ p known h. left.begins_spares is_death (record p { clock = p.until; until = p.until + 100 }) h) turns
  where
    of_none : (m : Actor Carried) → Of (λ (p : PathState Carried). Unit {0}) m
    of_none (App a) = tt
    of_none (Path p) = tt
