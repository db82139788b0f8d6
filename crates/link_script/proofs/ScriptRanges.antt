-- What the lines read so far say keeps its ranges.
use Rattle.std.proofs.Common.{◌≡◌, ℕ, zero, suc, ◌+◌, ◌<◌, ◌≤◌, false, List, [], ◌∷◌, ◌++◌, length, get_or, All, refl, sym, subst, ◌∙◌, arith}
use Rattle.std.specs.List.{list_any, AllPairs}
use Rattle.std.proofs.lemmas.Bool.{or_parts, leb-false, eqb-true, not-false}
use Rattle.std.proofs.lemmas.List.{length_push}
use Rattle.std.proofs.lemmas.List.Elements.{All-push, All-weaker, All-nil}
use Rattle.std.proofs.lemmas.List.Quantifiers.{all_pairs_push}
use Rattle.link_script.specs.Ranges.{seeds, buffers}
use Rattle.link_script.specs.declared.line.Line.{Line}
use Rattle.link_script.specs.declared.line.Line.TheVariants.{Header, Seed, Checksum, Short, Buffer, Path, Event, End}
use Rattle.link_script.specs.declared.script.PathLine.{PathLine}
use Rattle.link_script.specs.declared.script.Script.{Script}
use Rattle.link_script.specs.declared.script.ScriptLine.{ScriptLine}
use Rattle.link_script.specs.declared.script.ScriptLine.TheVariants.{OnSegment, OnDirection, StripAll, Die, Prio, Add, Remove, FastClose}
use Rattle.link_script.specs.Places.{path_named, lacks, is_misplaced, settle_one}
use Rattle.link_script.specs.Reading.{blank, with_line}
use Rattle.link_script.specs.Scripts.{IsInRange, IsPath, OpensPlainly, IsEvent, SettleApart}
use Rattle.link_script.proofs.LineRanges.{most_paths, IsLine}

-- ---- paths

pub record PathsKept (paths : List PathLine) : Type 0 where
  pub few : length paths ≤ most_paths
  pub ranges : All IsPath paths
  pub first : OpensPlainly paths

first_path : (paths : List PathLine) (path : PathLine) → OpensPlainly paths → (length paths ≡ 0 → (path.join ≡ 0) × (path.backup ≡ false)) → OpensPlainly (paths ++ path ∷ [])
first_path [] path h plain = plain refl
first_path (p ∷ paths) path h plain = h

paths_more : (index : ℕ) (path : PathLine) (paths : List PathLine) → PathsKept paths → IsLine (Path index path) → index ≡ length paths → PathsKept (paths ++ path ∷ [])
paths_more index path paths k h at = record {
  few = omega (arith, length_push paths path, h.0);
  ranges = All-push IsPath paths path k.ranges h.1;
  first = first_path paths path k.first (λ z. h.2 (at ∙ z));
}

-- ---- lines

pub record EventsKept (paths : ℕ) (events : List ScriptLine) : Type 0 where
  pub ranges : All (IsEvent paths) events
  pub apart : AllPairs SettleApart events

-- a line that has its ranges speaks of a path that is there, where it isn't misplaced
named : (limit paths : ℕ) (event : ScriptLine) → IsEvent limit event → lacks paths (path_named event) ≡ false → IsEvent paths event
named limit paths (OnSegment segment happens) h m = (leb-false paths segment.path m, h.1, h.2)
named limit paths (OnDirection d impairment) h m = (leb-false paths d.path m, h.1)
named limit paths (StripAll path from tick) h m = (leb-false paths path m, h.1)
named limit paths (Die path tick) h m = (leb-false paths path m, h.1)
named limit paths (Prio path side tick on) h m = (leb-false paths path m, h.1)
named limit paths (Add id tick) h m = h
named limit paths (Remove side id tick) h m = h
named limit paths (FastClose side tick) h m = h

-- more paths are no harm
pub wider : (paths more : ℕ) (event : ScriptLine) → paths ≤ more → IsEvent paths event → IsEvent more event
wider paths more (OnSegment segment happens) le h = (omega (arith, h.0), h.1, h.2)
wider paths more (OnDirection d impairment) le h = (omega (arith, h.0), h.1)
wider paths more (StripAll path from tick) le h = (omega (arith, h.0), h.1)
wider paths more (Die path tick) le h = (omega (arith, h.0), h.1)
wider paths more (Prio path side tick on) le h = (omega (arith, h.0), h.1)
wider paths more (Add id tick) le h = h
wider paths more (Remove side id tick) le h = h
wider paths more (FastClose side tick) le h = h

each_apart : (events : List ScriptLine) (event : ScriptLine) → list_any (λ r. settle_one (Event r) (Event event)) events ≡ false → (k : ℕ) (d : ScriptLine) → k < length events → SettleApart (get_or events k d) event
each_apart [] event h k d lt = absurd (omega arith)
each_apart (r ∷ events) event h zero d lt = (or_parts _ _ h).0
each_apart (r ∷ events) event h (suc k) d lt = each_apart events event (or_parts _ _ h).1 k d (omega arith)

events_more : (paths : ℕ) (events : List ScriptLine) (event : ScriptLine) → EventsKept paths events → IsEvent paths event → list_any (λ r. settle_one (Event r) (Event event)) events ≡ false → EventsKept paths (events ++ event ∷ [])
events_more paths events event k h new = record {
  ranges = All-push (IsEvent paths) events event k.ranges h;
  apart = all_pairs_push SettleApart events event k.apart (each_apart events event new);
}

events_wider : (paths : ℕ) (events : List ScriptLine) → EventsKept paths events → EventsKept (paths + 1) events
events_wider paths events k = record { ranges = All-weaker (IsEvent paths) (IsEvent (paths + 1)) (λ event. wider paths (paths + 1) event (omega arith)) events k.ranges; apart = k.apart }

-- ---- a script

pub record Kept (script : Script) : Type 0 where
  pub seed : IsInRange seeds script.seed
  pub buffer : IsInRange buffers script.buffer
  pub paths : PathsKept script.paths
  pub events : EventsKept (length script.paths) script.lines

pub kept_blank : Kept blank
kept_blank = record {
  seed = record { least = omega arith; most = omega arith };
  buffer = record { least = omega arith; most = omega arith };
  paths = record { few = omega arith; ranges = All-nil IsPath; first = tt };
  events = record { ranges = All-nil (IsEvent 0); apart = λ i j d lt l. absurd (omega arith) };
}

-- what a script doesn't settle yet
abbrev pub IsNew : Script → Line → Type 0
IsNew script line = list_any (λ r. settle_one (Event r) line) script.lines ≡ false

pub kept_more : (script : Script) (line : Line) → Kept script → IsLine line → is_misplaced (length script.paths) line ≡ false → IsNew script line → Kept (with_line script line)
kept_more script (Header version) k h m new = k
kept_more script (Seed n) k h m new = record { seed = h; buffer = k.buffer; paths = k.paths; events = k.events }
kept_more script (Checksum on) k h m new = record { seed = k.seed; buffer = k.buffer; paths = k.paths; events = k.events }
kept_more script (Short on) k h m new = record { seed = k.seed; buffer = k.buffer; paths = k.paths; events = k.events }
kept_more script (Buffer octets) k h m new = record { seed = k.seed; buffer = h; paths = k.paths; events = k.events }
kept_more script (Path index path) k h m new = record {
  seed = k.seed;
  buffer = k.buffer;
  paths = paths_more index path script.paths k.paths h (eqb-true _ _ (not-false _ m));
  events = subst (λ (n : ℕ). EventsKept n script.lines) (sym (length_push script.paths path)) (events_wider (length script.paths) script.lines k.events);
}
kept_more script (Event event) k h m new = record {
  seed = k.seed;
  buffer = k.buffer;
  paths = k.paths;
  events = events_more (length script.paths) script.lines event k.events (named most_paths (length script.paths) event h m) new;
}
kept_more script End k h m new = k
