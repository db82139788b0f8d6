-- No end of path 0 hears more acknowledged than its peer's reassembly book wants next, over any number of paths.
use Rattle.std.proofs.Common.{◌≡◌, refl, sym, subst, ap, ◌∙◌, ⊎_elim, ℕ, ◌≤◌, arith, ◌==◌, ◌&&◌, true, false, true≢false, if◌then◌else◌, Option, Some, None, IfSome, is_some, List, [], ◌∷◌, ◌++◌, map}
use Rattle.std.specs.List.{flat_map, list_any, slice_get}
use Rattle.std.proofs.lemmas.Bool.{and_parts, both_ways}
use Rattle.std.proofs.lemmas.List.{append-nil, append_assoc}
use Rattle.std.proofs.lemmas.Option.{same_Some}
use Rattle.path_segments.specs.Heard.{HeardSegment}
use Rattle.path_segments.specs.Laws.{meant, meant_option}
use Rattle.path_segments.specs.Options.{PlainOption}
use Rattle.path_segments.specs.Spelled.{PlainSegment}
use Rattle.sides.specs.declared.side.Side.{Side}
use Rattle.sides.specs.declared.side.Side.TheVariants.{A, B}
use Rattle.sides.specs.Side.{peer}
use Rattle.link_script.specs.Places.{same_side}
use Rattle.link_model.specs.State.{LinkState}
use Rattle.link_model.specs.Steps.{arriving, is_due, next_number}
use Rattle.link_model.specs.declared.flight.Flight.{Flight}
use Rattle.reassembly_book.specs.Steps.{next_wanted}
use Rattle.stream_lanes.specs.Words.{Every}
use Rattle.subflow_tcp.specs.Judging.{meaning_of}
use Rattle.subflow_tcp.specs.declared.segments.Outgoing.{Outgoing}
use Rattle.subflow_tcp.specs.declared.verdicts.Meaning.{Meaning}
use Rattle.subflow_tcp.specs.declared.verdicts.Meaning.TheVariants as means
use Rattle.actor_desk.specs.Books.{books_in}
use Rattle.path_agenda.specs.Agenda.{start_of_turn}
use Rattle.path_core.specs.Arrival.{copy_of, heard_in}
use Rattle.path_core.specs.End.{PathEnd}
use Rattle.path_core.specs.Judged.{judged_of}
use Rattle.path_core.specs.Looking.{first_sends, segment_sent}
use Rattle.path_core.specs.MpJoin.{is_joined}
use Rattle.path_core.specs.OptionsIn.{has_data_ack, items_in, items_of, options_heard}
use Rattle.path_core.specs.Start.{waiting_path}
use Rattle.path_core.specs.State.{PathState, end_at}
use Rattle.path_core.specs.Steps.{begins_turn}
use Rattle.path_core.specs.Values.{Carried, as_arrived, carried_by, values}
use Rattle.path_core.specs.declared.judged.Judged.TheVariants as judged
use Rattle.world_laws.specs.declared.member.Member.TheVariants.{Path}
use Rattle.world_laws.specs.Actors.{Actor, ActorCrew}
use Rattle.world_laws.specs.Openings.{PathPlan, Start, opened_world, path_begins}
use Rattle.world_laws.specs.Promises.{arrived_at}
use Rattle.world_laws.specs.RoundDone.{reached}
use Rattle.world_laws.specs.Worlds.{Turn, WorldState, after_turn}
use Rattle.world_laws.proofs.Rounds.Lifting.{opened_lifted}
use Rattle.world_laws.proofs.Weaving.WholeRounds.{run_append}
use Rattle.world_laws.proofs.Whole.Ends.{MeansIs, means_so}
use Rattle.world_laws.proofs.Worlds.Finding.{find_every, one_side}
use Rattle.world_laws.proofs.Writes.Steps.{begins_lasts}
use Rattle.whole_paths.specs.Copies.{IsUnderWay}
use Rattle.whole_paths.specs.DataAcks.{TellsWhatCame}
use Rattle.whole_paths.specs.DataAcks.{TellsWhatCame as tells}
use Rattle.whole_paths.specs.Finish.{IsPathAt}
use Rattle.whole_paths.specs.HeardSaid.{HearsAsMuch, HearsWhatWasSaid, IsAhead, PathsHearWhatWasSaid, SaysNext, is_ack_of}
use Rattle.whole_paths.specs.HeardSaid.{HearsAsMuch as much}
use Rattle.whole_paths.specs.Mild.{EndsGoByMappings, IsMildStart, LinkIsMild}
use Rattle.whole_paths.proofs.Arrivals.{sender_of}
use Rattle.whole_paths.proofs.ByTurns.{Of, path_before}
use Rattle.whole_paths.proofs.Came.{AnswersReset, answers_reset}
use Rattle.whole_paths.proofs.DataAcks.{each_segment_has_a_data_ack}
use Rattle.whole_paths.proofs.Copied.{CopiesWere, WasThere, each_copy_was_there}
use Rattle.whole_paths.proofs.Copied.{WasThere as was}
use Rattle.whole_paths.proofs.Copies.{LinkStays, links_last}
use Rattle.whole_paths.proofs.Exchanges.{under_way}
use Rattle.whole_paths.proofs.GoesOn.{goes_on_so}
use Rattle.whole_paths.proofs.HeardBelow.{dss_says, options_say}
use Rattle.whole_paths.proofs.HeardSaid.{Keeps, keeps_lasts, settled_back, what_is_heard_was_said}
use Rattle.whole_paths.proofs.Mild.{links_are_mild, mapping_is_kept}
use Rattle.whole_paths.proofs.OpenCourses.{IsFirstPath, each_first}
use Rattle.whole_paths.proofs.Saying.{ToSend}
use Rattle.whole_paths.proofs.Wanted.{KnowsNoMore, first_knows_no_more, wanted_so}

-- ---- what a copy says

-- to this side's end: no Data ACK is past the place
data SaysNoMore (s : Side) (n : ℕ) (p : PathState Carried) (x : PlainSegment) : Type 0 where
  of_reset : x.rst ≡ true → SaysNoMore s n p x
  of_syn : x.syn ≡ true → SaysNoMore s n p x
  low : ((place : ℕ) → list_any (is_ack_of place) (items_of (is_joined p.profile) s (meant x)) ≡ true → place ≤ n) → SaysNoMore s n p x

record IsLow (s : Side) (n : ℕ) (p : PathState Carried) : Type 0 where
  copies : Every (λ (f : Flight Carried). f.to ≡ s → SaysNoMore s n p (as_arrived f.carried)) p.link.under_way
  ahead : (place : ℕ) → IsAhead s (is_ack_of place) p → place ≤ n
  heard : (end_at s p).sending.heard ≤ n

module _ (start : Start) (mild : IsMildStart start) where
  abbrev at : List Turn → WorldState Carried
  at turns = reached values start turns

  abbrev wanted : Side → List Turn → ℕ
  wanted s turns = next_wanted (arrived_at (peer s) (at turns))

  -- ---- the segment that is sent next

  module _ (turns : List Turn) (p : PathState Carried) (here : IsPathAt 0 (at turns) p) where
    of_path : (P : PathState Carried → Type 0) → Of P here.crew.member → P p
    of_path P h = subst (Of P) here.is h

    first : is_joined p.profile ≡ false
    first = (of_path (IsFirstPath start) (each_first start turns mild.plain.size here.crew here.there)).first

    mapped : EndsGoByMappings p
    mapped = of_path EndsGoByMappings ((mapping_is_kept start turns mild).each 2 here.crew here.there)

    link : LinkIsMild start.lines p
    link = of_path (LinkIsMild start.lines) ((links_are_mild values start turns mild).each 2 here.crew here.there)

    knows : KnowsNoMore (books_in (at turns).books) p
    knows = of_path (KnowsNoMore (books_in (at turns).books)) ((first_knows_no_more values start turns).each here.crew here.there)

    module _ (t : ToSend) (sends : first_sends p.agenda p ≡ Some t) where
      abbrev sender : PathEnd
      sender = end_at t.from p

      abbrev sent : PlainSegment
      sent = segment_sent p t

      known : sender.receiving.next ≤ wanted (peer t.from) turns
      known = subst (λ u. sender.receiving.next ≤ next_wanted (arrived_at u (at turns))) (sym (sender_of t.from)) (knows t.from)

      says_no_more : SaysNoMore (peer t.from) (wanted (peer t.from) turns) p sent
      says_no_more = by (subst (λ (o : Option ToSend). IfSome o (λ (y : ToSend). (end_at y.from p).modes.identity ≡ false → TellsWhatCame (end_at y.from p) (segment_sent p y))) sends (each_segment_has_a_data_ack p) (mapped t.from).identity)
        where
          none_so : list_any has_data_ack (map meant_option sent.options) ≡ false → SaysNoMore (peer t.from) (wanted (peer t.from) turns) p sent
          none_so none = low (λ place is. absurd (both_ways _ (options_say place (is_joined p.profile) (peer t.from) (meant sent).window sent.options none) is))

          by : TellsWhatCame sender sent → SaysNoMore (peer t.from) (wanted (peer t.from) turns) p sent
          by (tells.acknowledges mapping others is alone) = low (λ place named. (
              let same = dss_says place (is_joined p.profile) (peer t.from) (meant sent).window sender.receiving.next mapping others alone
              (subst (λ (os : List PlainOption). list_any (is_ack_of place) (flat_map (items_in (is_joined p.profile) (peer t.from) (meant sent).window) (map meant_option os)) ≡ true) is named) in
              let few = known in omega (arith, same, few)))
          by (tells.silent unclear none) = none_so none
          by (tells.opens is) = of_syn is
          by (tells.resets is) = of_reset is
          by (tells.refuses answer some reset) = of_reset (reset ∙ subst (λ (o : Option Outgoing). IfSome o (λ (a : Outgoing). a.rst ≡ true)) some ((of_path AnswersReset (answers_reset start turns 2 here.crew here.there)) t.from))

  -- ---- a turn

  module _ (turns : List Turn) (turn : Turn) (p q : PathState Carried) (here : IsPathAt 0 (at turns) p) (there : IsPathAt 0 (at (turns ++ turn ∷ [])) q) (s : Side) where
    abbrev now : List Turn
    now = turns ++ turn ∷ []

    same_now : at now ≡ after_turn values turn (at turns)
    same_now = run_append values turns (turn ∷ []) (opened_world start)

    by_turn : (R : Actor Carried → Actor Carried → Type 0) → ((d : ActorCrew Carried) × (slice_get (after_turn values turn (at turns)).crew 2 ≡ Some d) × R here.crew.member d.member) → R (Path p) (Path q)
    by_turn R found = subst (λ m. R (Path p) m) there.is (subst (λ m. R m there.crew.member) here.is (subst (λ (d : ActorCrew Carried). R here.crew.member d.member)
        (same_Some found.0 there.crew (sym found.1 ∙ subst (λ (v : WorldState Carried). slice_get v.crew 2 ≡ Some there.crew) same_now there.there)) found.2))

    hears : HearsWhatWasSaid values p q
    hears = by_turn (PathsHearWhatWasSaid values) (what_is_heard_was_said values (at turns) turn 2 here.crew here.there)

    were : Every (WasThere values p) q.link.under_way
    were = by_turn (CopiesWere values) (each_copy_was_there values (at turns) turn 2 here.crew here.there)

    same_profile : is_joined q.profile ≡ is_joined p.profile
    same_profile = first now q there ∙ sym (first turns p here)

    more : wanted s turns ≤ wanted s now
    more = subst (λ (w : WorldState Carried). wanted s turns ≤ next_wanted (arrived_at (peer s) w)) (sym same_now)
        (wanted_so (arrived_at (peer s) (at turns)) (arrived_at (peer s) (after_turn values turn (at turns))) ((goes_on_so values (at turns) (turn ∷ [])).sides (peer s)).arrival)

    says_later : (y : PlainSegment) → SaysNoMore s (wanted s turns) p y → SaysNoMore s (wanted s now) q y
    says_later y (of_reset is) = of_reset is
    says_later y (of_syn is) = of_syn is
    says_later y (low few) = low (λ place is. (let before = few place (subst (λ b. list_any (is_ack_of place) (items_of b s (meant y)) ≡ true) same_profile is) in let up = more in omega (arith, before, up)))

    copy_low : IsLow s (wanted s turns) p → (f : Flight Carried) → WasThere values p f → f.to ≡ s → SaysNoMore s (wanted s now) q (as_arrived f.carried)
    copy_low h f (was.before old) to = says_later (as_arrived f.carried) (under_way (λ (g : Flight Carried). g.to ≡ s → SaysNoMore s (wanted s turns) p (as_arrived g.carried)) f p old h.copies to)
    copy_low h f (was.sent t sends to_t carried) to =
        let plain : f.carried ≡ carried_by p.profile.spelling t.from (segment_sent p t)
        = carried ∙ rw ((link turns p here).strips.strips t.from (next_number t.from p.link) p.clock, (link turns p here).alters.alters t.from (next_number t.from p.link)) refl in
        says_later (as_arrived f.carried) (subst (λ c. SaysNoMore s (wanted s turns) p (as_arrived c)) (sym plain)
        (subst (λ u. SaysNoMore u (wanted u turns) p (segment_sent p t)) (sym to_t ∙ to) (says_no_more turns p here t sends)))

    -- a copy that is taken next
    module _ (h : IsLow s (wanted s turns) p) (place : ℕ) (n : SaysNext values s (is_ack_of place) p) where
      abbrev to : Side
      to = n.brings.copy.due.to

      abbrev taker : PathEnd
      taker = end_at to p

      abbrev words : HeardSegment
      words = options_heard taker n.brings.copy.segment

      fits : MeansIs (copy_of words) taker.tcp (means.Taken n.brings.position n.brings.acknowledged)
      fits = subst (MeansIs (copy_of words) taker.tcp)
          (same_as (meaning_of (copy_of words) taker.tcp) (means.Taken n.brings.position n.brings.acknowledged)
          (sym (ap (λ j. judged_of j words.rst (items_of j to words) (meaning_of (copy_of words) taker.tcp) taker) (first turns p here)) ∙ n.brings.taken))
          (means_so (copy_of words) taker.tcp)
        where
          same_as : (y z : Meaning) → judged.As y ≡ judged.As z → y ≡ z
          same_as y z equal = cc

      each_there : Every (λ (g : Flight Carried). IsUnderWay g p) p.link.under_way
      each_there = record { each = λ i g is. record { at = i; item = g; there = is; holds = refl } }

      -- as the end reads its options
      said_plainly : list_any (is_ack_of place) (items_of (is_joined p.profile) to n.brings.copy.segment) ≡ true
      said_plainly = subst (λ b. list_any (is_ack_of place) (flat_map (items_in (is_joined p.profile) to n.brings.copy.segment.window) (if b then [] else n.brings.copy.segment.options)) ≡ true)
          (mapped turns p here to).identity n.says

      taken_low : place ≤ wanted s turns
      taken_low = by (arriving n.brings.copy.due p.link) refl n.brings.copy.heard
        where
          of_copy : (f : Flight Carried) → meant (as_arrived f.carried) ≡ n.brings.copy.segment → SaysNoMore s (wanted s turns) p (as_arrived f.carried) → place ≤ wanted s turns
          of_copy f same (of_reset rst) = absurd (both_ways n.brings.copy.segment.rst fits.1.1.0 (sym (ap (λ (y : HeardSegment). y.rst) same) ∙ rst))
          of_copy f same (of_syn syn) = absurd (both_ways n.brings.copy.segment.syn fits.1.0 (sym (ap (λ (y : HeardSegment). y.syn) same) ∙ syn))
          of_copy f same (low few) = few place
              (subst (λ u. list_any (is_ack_of place) (items_of (is_joined p.profile) u (meant (as_arrived f.carried))) ≡ true) n.to
              (subst (λ (y : HeardSegment). list_any (is_ack_of place) (items_of (is_joined p.profile) to y) ≡ true) (sym same) said_plainly))

          by : (o : Option (Flight Carried)) → arriving n.brings.copy.due p.link ≡ o → heard_in values to o p ≡ Some n.brings.copy.segment → place ≤ wanted s turns
          by None is heard = cc
          by (Some f) is heard =
              let same = same_Some (meant (as_arrived f.carried)) n.brings.copy.segment heard in
              let found = find_every (λ (g : Flight Carried). IsUnderWay g p) (is_due n.brings.copy.due) p.link.under_way f each_there is in
              let parts = and_parts (f.tick == n.brings.copy.due.tick) (same_side f.to to && f.number == n.brings.copy.due.copy) found.1 in
              let to_end = one_side f.to to (and_parts (same_side f.to to) (f.number == n.brings.copy.due.copy) parts.1).0 in
              of_copy f same (under_way (λ (g : Flight Carried). g.to ≡ s → SaysNoMore s (wanted s turns) p (as_arrived g.carried)) f p found.0 h.copies (to_end ∙ n.to))

    ahead_low : IsLow s (wanted s turns) p → (place : ℕ) → IsAhead s (is_ack_of place) q → place ≤ wanted s now
    ahead_low h place ahead = ⊎_elim
        (λ before. (let few = h.ahead place before in let up = more in omega (arith, few, up)))
        (λ next. (let few = taken_low h place next in let up = more in omega (arith, few, up)))
        (hears.ahead s (is_ack_of place) ahead)

    heard_low : IsLow s (wanted s turns) p → (end_at s q).sending.heard ≤ wanted s now
    heard_low h = by (hears.heard s)
      where
        by : HearsAsMuch s p q → (end_at s q).sending.heard ≤ wanted s now
        by (much.stays same) = let few = h.heard in let up = more in omega (arith, same, few, up)
        by (much.hears place is ahead) = let few = h.heard in let up = more in let before = h.ahead place ahead in omega (arith, is, few, up, before)
        by (much.plain is) = absurd (both_ways (end_at s p).modes.identity (mapped turns p here s).identity is)
        by (much.infinite is) = absurd (both_ways (is_some (end_at s p).modes.own_infinite) (ap is_some (mapped turns p here s).own) is)

    low_on : IsLow s (wanted s turns) p → IsLow s (wanted s now) q
    low_on h = record { copies = record { each = λ i f is. copy_low h f (were.each i f is) }; ahead = ahead_low h; heard = heard_low h }

  -- ---- at every moment

  abbrev Low : Side → List Turn → Type 0
  Low s turns = (p : PathState Carried) → IsPathAt 0 (at turns) p → IsLow s (wanted s turns) p

  opened_low : (s : Side) → Low s []
  opened_low s p here = subst (Of (IsLow s (wanted s []))) here.is ((opened_lifted (λ (c : ActorCrew Carried). Of (IsLow s (wanted s [])) c.member) start tt tt (λ number plan there. first_low number plan)).each 2 here.crew here.there)
    where
      first_low : (number : ℕ) (plan : PathPlan) → IsLow s (wanted s []) (begins_turn (waiting_path (path_begins start number plan) start.lines))
      first_low number plan = record {
        copies = subst (λ (l : LinkState Carried). Every (λ (f : Flight Carried). f.to ≡ s → SaysNoMore s (wanted s []) (begins_turn x) (as_arrived f.carried)) l.under_way) (sym (begins_lasts LinkStays links_last x)) (record { each = λ i f is. cc });
        ahead = λ place h. absurd (true≢false (sym (settled_back start_of_turn x s (is_ack_of place) h).duties));
        heard = (let same = (begins_lasts Keeps keeps_lasts x).at s in let none = nothing s in omega (arith, same, none));
      }
        where
          x : PathState Carried
          x = waiting_path (path_begins start number plan) start.lines

          nothing : (s : Side) → (end_at s x).sending.heard ≡ 0
          nothing A = refl
          nothing B = refl

  step_low : (s : Side) (turns : List Turn) (turn : Turn) → Low s turns → Low s (turns ++ turn ∷ [])
  step_low s turns turn h q there =
      let before = path_before values start turns turn there.crew q there.there there.is in low_on turns turn before.0 q before.1 there s (h before.0 before.1)

  run_low : (s : Side) (before more : List Turn) → Low s before → Low s (before ++ more)
  run_low s before [] h = subst (Low s) (sym (append-nil before)) h
  run_low s before (turn ∷ more) h = subst (Low s) (append_assoc before (turn ∷ []) more) (run_low s (before ++ turn ∷ []) more (step_low s before turn h))

pub heard_is_wanted : (start : Start) (turns : List Turn) → IsMildStart start → (p : PathState Carried) → IsPathAt 0 (reached values start turns) p → (s : Side)
    → (end_at s p).sending.heard ≤ next_wanted (arrived_at (peer s) (reached values start turns))
heard_is_wanted start turns mild p here s = (run_low start mild s [] turns (opened_low start mild s) p here).heard
