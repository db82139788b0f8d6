-- What is promised over every list of turns, where each turn shows in the two directions.
use Rattle.world_laws.proofs.Words.{◌≡◌, sym, ◌∙◌, ap, subst, false, Some, List, [], ◌∷◌, ◌++◌, length, received, books_in, Carried, values, Duo, after_events}
use Rattle.world_laws.proofs.Words.{flags_ab, flags_ba, Holds, any_held, link_stays, Reader, EachEventIsOneStep, NothingIsRefused, BothWays}
use Rattle.world_laws.proofs.Words.{nothing_follows_any_end, any_event_is_one_step, Start, opened_world, WorldState, Turn, after_turn, world_run}
use Rattle.world_laws.proofs.Words.{BothKeepTheirWord, NothingFollows, EachTurnIsOneStep, NothingWasRefused, tells_refusal, BothKeepCount}
use Rattle.stream_lanes.specs.Duo.{Event}
use Rattle.stream_lanes.proofs.Refusals.{never_refused as never_refused_in}
use Rattle.world_laws.proofs.Lanes.OfAWorld.{NoneIsFirm, free_turn, Carries, WorldShows, IsSteady, first_duo, asked_by, asked_in, CallIs, events_append, turn_events, turn_is}
use Rattle.world_laws.proofs.Lanes.Beginning.{each_opening_shows}
use Rattle.world_laws.proofs.Lanes.EveryTurn.{each_turn_shows}
use Rattle.world_laws.proofs.Worlds.Steady.{always_steady}
use Rattle.world_laws.proofs.Weaving.WholeRounds.{run_append}
use Rattle.world_laws.proofs.Promises.NoSuchNote.{NoneTold, Untold, from_each, turn_none, opened_none}
use Rattle.world_laws.proofs.Promises.Shown.{keeps_its_word, keeps_count, same_as_shown, before, same_before, step_from, turn_steps, ask_untold}

-- ---- every list of turns

module _ (start : Start) (can : Carries start) (free : NoneIsFirm can.links) where
  abbrev begun : Duo
  begun = first_duo can.links start

  -- the world shows after these events
  pub record ShownAfter (events : List Event) (w : WorldState Carried) : Type 0 where
    pub shows : WorldShows can.links start (after_events events begun) w

  -- and at a later moment after more of them
  pub record Later (events : List Event) (v : WorldState Carried) : Type 0 where
    pub more : List Event
    pub shows : WorldShows can.links start (after_events more (after_events events begun)) v

  held : (events : List Event) → Holds (after_events events begun)
  held events = any_held can.links.alters can.links.checked (length start.paths) start.buffer start.buffer events

  -- at every moment from this one on each path is steady
  abbrev Ever : WorldState Carried → Type 0
  Ever w = (more : List Turn) → IsSteady (world_run values more w)

  pub ever_after : (turns : List Turn) → Ever (world_run values turns (opened_world start))
  ever_after turns more = subst IsSteady (run_append values turns more (opened_world start)) (always_steady start (turns ++ more))

  turn_later : (events : List Event) (turn : Turn) (w : WorldState Carried) → IsSteady w → ShownAfter events w → Later events (after_turn values turn w)
  turn_later events turn w steady s =
      let shown = each_turn_shows start can turn (after_events events begun) w (free_turn can.links free turn w) steady (held events) s.shows in
      record { more = turn_events shown.turn_shows; shows = subst (λ e. WorldShows can.links start e (after_turn values turn w)) (turn_is shown.turn_shows) shown.world_shows }

  shown_later : (events more : List Event) (v : WorldState Carried) → WorldShows can.links start (after_events more (after_events events begun)) v → ShownAfter (events ++ more) v
  shown_later events more v s = record { shows = subst (λ e. WorldShows can.links start e v) (sym (events_append events more begun)) s }

  pub onward : (turns : List Turn) (events : List Event) (w : WorldState Carried) → Ever w → ShownAfter events w → Later events (world_run values turns w)
  onward [] events w ever s = record { more = []; shows = s.shows }
  onward (turn ∷ turns) events w ever s =
      let first = turn_later events turn w (ever []) s in
      let rest = onward turns (events ++ first.more) (after_turn values turn w) (λ more. ever (turn ∷ more)) (shown_later events first.more (after_turn values turn w) first.shows) in
      record {
        more = first.more ++ rest.more;
        shows = subst (λ e. WorldShows can.links start e (world_run values turns (after_turn values turn w)))
            (ap (after_events rest.more) (events_append events first.more begun) ∙ sym (events_append first.more rest.more (after_events events begun))) rest.shows;
      }

  -- what the moment after these turns shows
  pub record Reaches (w : WorldState Carried) : Type 0 where
    pub events : List Event
    pub shows : WorldShows can.links start (after_events events begun) w

  pub reached : (turns : List Turn) → Reaches (world_run values turns (opened_world start))
  reached turns =
      let first = each_opening_shows start can in
      let rest = onward turns first.0 (opened_world start) (always_steady start) (record { shows = first.1 }) in
      record { events = first.0 ++ rest.more; shows = (shown_later first.0 rest.more (world_run values turns (opened_world start)) rest.shows).shows }

  -- ---- promises

  pub always_keep_word : can.links.alters ≡ false → (turns : List Turn) → BothKeepTheirWord (world_run values turns (opened_world start))
  always_keep_word none turns =
      let at = reached turns in keeps_its_word can.links start (after_events at.events begun) (world_run values turns (opened_world start)) none (held at.events) at.shows

  -- whatever is altered
  pub always_keep_count : (turns : List Turn) → BothKeepCount (world_run values turns (opened_world start))
  always_keep_count turns =
      let at = reached turns in keeps_count can.links start (after_events at.events begun) (world_run values turns (opened_world start)) (held at.events) at.shows

  follows : (events : List Event) (w : WorldState Carried) → Ever w → WorldShows can.links start (after_events events begun) w → NothingFollows values w
  follows events w ever s more =
      let now = same_as_shown can.links start (after_events events begun) w s in
      let next = onward more events w ever (record { shows = s }) in
      let then_is = same_as_shown can.links start (after_events next.more (after_events events begun)) (world_run values more w) next.shows in
      let nothing = nothing_follows_any_end can.links.alters can.links.checked (length start.paths) start.buffer start.buffer events next.more in (
        λ told. let came = nothing.0 (sym now.told_b ∙ told) in record {
          read = then_is.out_b ∙ ap (λ (r : Reader). r.out) came.read ∙ sym now.out_b;
          written = ap (λ b. b.written) then_is.written_a ∙ came.written ∙ sym (ap (λ b. b.written) now.written_a);
        },
        λ told. let came = nothing.1 (sym now.told_a ∙ told) in record {
          read = then_is.out_a ∙ ap (λ (r : Reader). r.out) came.read ∙ sym now.out_a;
          written = ap (λ b. b.written) then_is.written_b ∙ came.written ∙ sym (ap (λ b. b.written) now.written_b);
        },
      )

  pub never_follows : (turns : List Turn) → NothingFollows values (world_run values turns (opened_world start))
  never_follows turns = let at = reached turns in follows at.events (world_run values turns (opened_world start)) (ever_after turns) at.shows

  one_step : (events : List Event) (w : WorldState Carried) → IsSteady w → WorldShows can.links start (after_events events begun) w → EachTurnIsOneStep values w
  one_step events w steady s turn =
      let d = after_events events begun in
      let shown = each_turn_shows start can turn d w (free_turn can.links free turn w) steady (held events) s in
      let now = same_as_shown can.links start d w s in
      let later = same_as_shown can.links start shown.duo (after_turn values turn w) shown.world_shows in
      let t = shown.turn_shows in
      let all_before = any_event_is_one_step can.links.alters can.links.checked (length start.paths) start.buffer start.buffer (events ++ t.before) in
      let steps = turn_steps (asked_in turn w) d shown.duo t (subst EachEventIsOneStep (events_append events t.before begun) all_before) in (
        step_from _ _ _ _ _ _ (ap received now.arrived_b) now.ab later.ab steps.0,
        step_from _ _ _ _ _ _ (ap received now.arrived_a) now.ba later.ba steps.1,
      )

  pub always_one_step : (turns : List Turn) → EachTurnIsOneStep values (world_run values turns (opened_world start))
  always_one_step turns = let at = reached turns in one_step at.events (world_run values turns (opened_world start)) (always_steady start turns) at.shows

  -- over links that alter nothing nothing is refused
  none_refused : can.links.alters ≡ false → (events : List Event) → BothWays NothingIsRefused (after_events events begun)
  none_refused none events =
      let w : Duo = after_events events begun in
      let same : w.modes.alters ≡ false = (link_stays events begun).0 ∙ none in
      (never_refused_in (flags_ab w.modes) w.ab (held events).ab same, never_refused_in (flags_ba w.modes) w.ba (held events).ba same)

  -- what an actor asks is not refused
  untold : can.links.alters ≡ false → (events : List Event) (w : WorldState Carried) → IsSteady w → WorldShows can.links start (after_events events begun) w → Untold tells_refusal values w
  untold plain events w steady s actor c x there asks =
      let d = after_events events begun in
      let turn : Turn = Turn.Step actor in
      let shown = each_turn_shows start can turn d w (free_turn can.links free turn w) steady (held events) s in
      let now = same_as_shown can.links start d w s in
      let t = shown.turn_shows in
      let same = same_before (asked_in turn w) d shown.duo t in
      let none = none_refused plain (events ++ t.before) in
      let is : asked_in turn w ≡ Some x = ap asked_by there ∙ asks in
      ask_untold x (books_in w.books) (before (asked_in turn w) d shown.duo t) t.call
      (now.written_a ∙ sym same.ab.send) (now.written_b ∙ sym same.ba.send) (now.arrived_b ∙ sym same.ab.arrived) (now.arrived_a ∙ sym same.ba.arrived)
      (subst (BothWays NothingIsRefused) (events_append events t.before begun) none)
      (subst (λ o. CallIs o (before (asked_in turn w) d shown.duo t) t.call) is t.calls)

  refused_nowhere : can.links.alters ≡ false → (turns : List Turn) (events : List Event) (w : WorldState Carried) → Ever w → ShownAfter events w → NoneTold tells_refusal values w
      → NoneTold tells_refusal values (world_run values turns w)
  refused_nowhere plain [] events w ever s h = h
  refused_nowhere plain (turn ∷ turns) events w ever s h =
      let first = turn_later events turn w (ever []) s in
      refused_nowhere plain turns (events ++ first.more) (after_turn values turn w) (λ more. ever (turn ∷ more)) (shown_later events first.more (after_turn values turn w) first.shows)
      (turn_none tells_refusal values turn w (untold plain events w (ever []) s.shows) h)

  pub never_refused : can.links.alters ≡ false → (turns : List Turn) → NothingWasRefused (world_run values turns (opened_world start))
  never_refused plain turns =
      let first = each_opening_shows start can in
      from_each tells_refusal values (world_run values turns (opened_world start))
      (refused_nowhere plain turns first.0 (opened_world start) (always_steady start) (record { shows = first.1 }) (opened_none tells_refusal values start))
