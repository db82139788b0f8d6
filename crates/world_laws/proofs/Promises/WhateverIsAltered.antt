-- What holds whatever payload the links alter: over lanes that may alter it too.
use Rattle.world_laws.proofs.Words.{◌≡◌, refl, sym, ◌∙◌, ap, subst, not, true, List, ◌++◌, length, true≢false, not-true, slice_get, IsPrefix, A, B, Sending}
use Rattle.world_laws.proofs.Words.{books_in, Carried, values, Duo, after_events, prefix_before_the_fall, placed_before_the_fall, Start, opened_world}
use Rattle.world_laws.proofs.Words.{WorldState, Turn, world_run, HasRoom, NothingFollows, EachTurnIsOneStep, HoldsAnyway, written_by, BothKeepCount}
use Rattle.world_laws.proofs.Words.{PlacedUntilTheFall, PrefixUntilTheFall, fell_back, HoldsChecked}
use Rattle.stream_lanes.specs.Duo.{Event}
use Rattle.world_laws.proofs.Lanes.Beginning.{each_run_shows}
use Rattle.world_laws.proofs.Lanes.OfAWorld.{Carries, Links, Reached, WorldShows, anyhow, anyhow_free, checkedly, checkedly_free, duo_of, events_append, first_duo}
use Rattle.world_laws.proofs.Falls.CallsAndModes.{softened, softens}
use Rattle.world_laws.proofs.Falls.FirmRuns.{Unfallen, firm_run}
use Rattle.world_laws.proofs.Promises.EveryList.{always_keep_count, never_follows, always_one_step, onward, ever_after}
use Rattle.world_laws.proofs.Promises.Shown.{same_as_shown, firm_shown, octets_a, octets_b}

pub keep_count : HoldsAnyway BothKeepCount
keep_count start turns size = always_keep_count start (anyhow start size) (anyhow_free start size) turns

pub nothing_follows : HoldsAnyway (NothingFollows values)
nothing_follows start turns size = never_follows start (anyhow start size) (anyhow_free start size) turns

pub one_step_each : HoldsAnyway (EachTurnIsOneStep values)
one_step_each start turns size = always_one_step start (anyhow start size) (anyhow_free start size) turns

-- ---- where mappings are checked

-- what shows where sides are firm shows, after some moves, where they are no more
record Softened (links : Links) (start : Start) (d : Duo) (w : WorldState Carried) : Type 0 where
  events : List Event
  shows : WorldShows (softened links) start (after_events events d) w

softer : (links : Links) (start : Start) (d : Duo) (w : WorldState Carried) → WorldShows links start d w → Softened links start d w
softer links start d w s =
    let here = duo_of links (books_in s.cast.books) s.lanes_ab s.lanes_ba s.reader_a s.reader_b in
    let moved = (softens links (books_in s.cast.books)).moves here refl in
    record {
      events = moved.events;
      shows = record {
        cast = s.cast;
        is = s.is;
        fare = s.fare;
        settled = s.settled;
        lanes_ab = s.lanes_ab;
        lanes_ba = s.lanes_ba;
        reader_a = s.reader_a;
        reader_b = s.reader_b;
        duo_is = ap (after_events moved.events) s.duo_is ∙ sym moved.to;
        reads_a = s.reads_a;
        reads_b = s.reads_b;
        paths = s.paths;
      };
    }

module _ (start : Start) (turns : List Turn) (size : HasRoom start) (uses : start.checksums ≡ true) where
  abbrev w : WorldState Carried
  w = world_run values turns (opened_world start)

  -- a side that hasn't fallen back by then is firm until then
  abbrev until : Carries start
  until = record {
    links = record { alters = true; checked = true; firm_a = not (fell_back A w); firm_b = not (fell_back B w) };
    may = λ none. absurd (true≢false none);
    checks = λ is. uses;
    size = size;
  }

  unfallen : Unfallen until.links w
  unfallen = elim [ A ↦ λ firm. not-true (fell_back A w) firm | B ↦ λ firm. not-true (fell_back B w) firm ]

  at : Reached until.links start w
  at = each_run_shows start until turns (firm_run until.links start turns unfallen)

  abbrev d : Duo
  d = after_events at.events (first_duo until.links start)

  -- from then on none is
  soft : Softened until.links start d w
  soft = softer until.links start d w at.shows

  prefix_there : PrefixUntilTheFall w
  prefix_there =
      let now = same_as_shown until.links start d w at.shows in
      let firm = firm_shown until.links start d w at.shows in
      let right = prefix_before_the_fall (length start.paths) start.buffer start.buffer at.events in (
        λ none. subst (λ xs. IsPrefix xs (written_by A w).written) (sym now.out_b)
            (subst (λ (b : Sending). IsPrefix d.ab.reader.out b.written) (sym now.written_a) (right.0 (firm.0 (ap not none)))),
        λ none. subst (λ xs. IsPrefix xs (written_by B w).written) (sym now.out_a)
            (subst (λ (b : Sending). IsPrefix d.ba.reader.out b.written) (sym now.written_b) (right.1 (firm.1 (ap not none)))),
      )

  -- what comes later shows after more events
  record ShownLater (more : List Turn) : Type 0 where
    events : List Event
    shows : WorldShows (checkedly start size uses).links start (after_events events d) (world_run values more w)

  later : (more : List Turn) → ShownLater more
  later more =
      let can = checkedly start size uses in
      let free = checkedly_free start size uses in
      let opening = first_duo can.links start in
      let done = at.events ++ soft.events in
      let next = onward start can free more done w (ever_after start can free turns)
      (record { shows = subst (λ x. WorldShows can.links start x w) (sym (events_append at.events soft.events opening)) soft.shows }) in
      record {
        events = soft.events ++ next.more;
        shows = subst (λ x. WorldShows can.links start x (world_run values more w))
            (ap (after_events next.more) (events_append at.events soft.events opening) ∙ sym (events_append soft.events next.more d)) next.shows;
      }

  placed_there : PlacedUntilTheFall values w
  placed_there more =
      let can = checkedly start size uses in
      let next = later more in
      let e = after_events next.events d in
      let now = same_as_shown until.links start d w at.shows in
      let then_is = same_as_shown can.links start e (world_run values more w) next.shows in
      let firm = firm_shown until.links start d w at.shows in
      let right = placed_before_the_fall (length start.paths) start.buffer start.buffer at.events next.events in (
        λ none place octet there.
            let placed = right.0 (firm.0 (ap not none)) place octet (sym (octets_b d w now place) ∙ there) in
            (ap (λ (b : Sending). slice_get b.written place) then_is.written_a ∙ placed.0, octets_b e (world_run values more w) then_is place ∙ placed.1),
        λ none place octet there.
            let placed = right.1 (firm.1 (ap not none)) place octet (sym (octets_a d w now place) ∙ there) in
            (ap (λ (b : Sending). slice_get b.written place) then_is.written_b ∙ placed.0, octets_a e (world_run values more w) then_is place ∙ placed.1),
      )

pub prefix_until : HoldsChecked PrefixUntilTheFall
prefix_until start turns size uses = prefix_there start turns size uses

pub placed_until : HoldsChecked (PlacedUntilTheFall values)
placed_until start turns size uses more = placed_there start turns size uses more
