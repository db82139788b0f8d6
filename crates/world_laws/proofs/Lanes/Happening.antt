-- What happens on a path by itself: its join, lines of its script, copies that arrive, timers that run out.
use Rattle.world_laws.proofs.Words.{◌≡◌, refl, sym, ◌∙◌, ap, subst, ℕ, suc, ◌+◌, ◌&&◌, ◌==◌, Bool, true, false, if◌then◌else◌, Option, Some, None, List, []}
use Rattle.world_laws.proofs.Words.{◌∷◌, find, position, remove, and_parts, false≢true, IfSome, Side, A, B, peer, same_side, is_sixth, is_due, arriving}
use Rattle.world_laws.proofs.Words.{without, after_delivery, Due, Flight, PlainSegment, meant, LineAction, LineLeft, rest_of_turn, emission, leaves, announces}
use Rattle.world_laws.proofs.Words.{withdraws, Duty, Ask, Reply, SixBooks, tail_of, pick, PathEnd, died, at_tick, PathState, end_at, goes_on, with_agenda}
use Rattle.world_laws.proofs.Words.{path_of, Carried, as_arrived, values, items_of, after_judged, judged_in, template_of, heard_in, copy_heard, told_at}
use Rattle.world_laws.proofs.Words.{copy_taken, path_died, step_for, after_line, happens, happens_if, line_taken, join_begun, never_joined, is_never}
use Rattle.world_laws.proofs.Words.{keys_begun, opened_by, is_joined, template_fired, after_firing, timer_fired, with_priority, Profile, in_take, in_drop}
use Rattle.world_laws.proofs.Words.{Every-nil, Every-append, Every, Holds, AckCopy, Lane}
use Rattle.path_core.specs.declared.events.Event.{Event}
use Rattle.world_laws.proofs.Lanes.Arrived.{arrived_end}
use Rattle.world_laws.proofs.Lanes.Ending.{Did, did_nothing}
use Rattle.world_laws.proofs.Lanes.OfAWorld.{Others, duo_at}
use Rattle.world_laws.proofs.Lanes.Records.{every_find}
use Rattle.world_laws.proofs.Lanes.Roads.{stays}
use Rattle.world_laws.proofs.Lanes.RulesLeaveAlone.{opened_shows, died_shows as died_end_shows, refused_shows, died_unless_shows, fired_shows}
use Rattle.world_laws.proofs.Lanes.Showing.{FlightShows, EndShows, SegmentShows, PathShows}
use Rattle.world_laws.proofs.Lanes.Sides.{Answered, IsQuiet, side_kept, quiet, quiet_side}
use Rattle.world_laws.proofs.Lanes.Strolling.{Strolled, side_shows}

-- ---- copies

removed_kept : {X : Type 0} {P : X → Type 0} (xs : List X) (i : ℕ) → Every P xs → Every P (remove xs i)
removed_kept xs i h = Every-append
    (record { each = λ k x is. h.each k x (in_take i xs k x is).0 })
    (record { each = λ k x is. h.each (suc i + k) x (in_drop (suc i) xs k (suc i + k) x refl is) })

pub without_kept : {P : Flight Carried → Type 0} (o : Option ℕ) (flights : List (Flight Carried)) → Every P flights → Every P (without o flights)
without_kept None flights h = h
without_kept (Some place) flights h = removed_kept flights place h

pub found_due : (due : Due) (flights : List (Flight Carried)) (f : Flight Carried) → find (is_due due) flights ≡ Some f → is_due due f ≡ true
found_due due [] f is = cc
found_due due (g ∷ flights) f is =
    (elim (is_due due g) as (λ b. is_due due g ≡ b → (if b then Some g else find (is_due due) flights) ≡ Some f → (find (is_due due) flights ≡ Some f → is_due due f ≡ true) → is_due due f ≡ true)
    [ true ↦ λ passes is more. let same : g ≡ f = cc in subst (λ x. is_due due x ≡ true) same passes | false ↦ λ passes is more. more is ]) refl is (λ rest. found_due due flights f rest)

-- a copy to a side is heard by the end of that side
heard_by : (c : Profile) (s to : Side) (ab ba : Lane) (sg : PlainSegment) → same_side to s ≡ true → FlightShows c ab ba to sg → SegmentShows c (peer s) (pick s ab ba).acks (pick s ba ab) sg
heard_by c A A ab ba sg same h = h
heard_by c B B ab ba sg same h = h
heard_by c A B ab ba sg same h = absurd (false≢true same)
heard_by c B A ab ba sg same h = absurd (false≢true same)

pub side_is : (due : Due) (f : Flight Carried) → is_due due f ≡ true → same_side f.to due.to ≡ true
side_is due f is = (and_parts (same_side f.to due.to) (f.number == due.copy) (and_parts (f.tick == due.tick) (same_side f.to due.to && f.number == due.copy) is).1).0

-- nothing was told since the books were asked what is to be acknowledged
abbrev pub AreCalm : PathState Carried → Type 0
AreCalm p = (s : Side) → (end_at s p).treated.asked ≡ false

module _ (six : SixBooks) (others : Others) (p : PathState Carried) (ab ba : Lane) (h : PathShows p.profile p ab ba) (holds : Holds (duo_at six ab ba others))
    (calm : AreCalm p) where
  abbrev Steps : Ask → PathState Carried → Type 0
  Steps ask q = Answered p.profile six others ask q ab ba

  -- the path at a tick, with other lines left
  ticked : (tick : ℕ) (lines : List LineLeft) → PathShows p.profile (record (at_tick tick p) { lines = lines }) ab ba
  ticked tick lines = record { profile = h.profile; may = h.may; a = h.a; b = h.b; copies = h.copies }

  -- ---- lines

  died_shows : (q : PathState Carried) → AreCalm q → PathShows p.profile q ab ba → Strolled p.profile (path_died q) ab ba
  died_shows q calm x = record {
    ab_after = ab;
    ba_after = ba;
    ab_moves = stays ab;
    ba_moves = stays ba;
    shows = record {
      profile = x.profile;
      may = x.may;
      a = died_unless_shows p.profile A ab ba q.a (calm A) x.a;
      b = died_unless_shows p.profile B ba ab q.b (calm B) x.b;
      copies = Every-nil _;
    };
  }

  -- a notice is no matter of the lanes
  noted : (s : Side) (backup : Bool) (out back : Lane) (e : PathEnd) → EndShows p.profile s e out back → EndShows p.profile s (with_priority backup e) out back
  noted s backup out back e x = x

  noted_shows : (s : Side) (backup : Bool) (q : PathState Carried) → PathShows p.profile q ab ba
      → Strolled p.profile (goes_on s (with_priority backup (end_at s q)) (emission s) q) ab ba
  noted_shows A backup q x = record {
    ab_after = ab;
    ba_after = ba;
    ab_moves = stays ab;
    ba_moves = stays ba;
    shows = record { profile = x.profile; may = x.may; a = noted A backup ab ba q.a x.a; b = x.b; copies = x.copies };
  }
  noted_shows B backup q x = record {
    ab_after = ab;
    ba_after = ba;
    ab_moves = stays ab;
    ba_moves = stays ba;
    shows = record { profile = x.profile; may = x.may; a = x.a; b = noted B backup ba ab q.b x.b; copies = x.copies };
  }

  rest_shows : (ds : List Duty) (q : PathState Carried) → PathShows p.profile q ab ba → Strolled p.profile (with_agenda ds q) ab ba
  rest_shows ds q x = record {
    ab_after = ab;
    ba_after = ba;
    ab_moves = stays ab;
    ba_moves = stays ba;
    shows = record { profile = x.profile; may = x.may; a = x.a; b = x.b; copies = x.copies };
  }

  line_shows : (action : LineAction) (q : PathState Carried) → AreCalm q → PathShows p.profile q ab ba → Strolled p.profile (after_line action q) ab ba
  line_shows LineAction.Die q calm x = died_shows q calm x
  line_shows (LineAction.Prio s backup) q calm x = noted_shows s backup q x
  line_shows (LineAction.Announce s id) q calm x = rest_shows (announces s id) q x
  line_shows (LineAction.Withdraw s id) q calm x = rest_shows (withdraws s id) q x

  -- at another tick the ends are the same
  same_calm : (q : PathState Carried) → q.a ≡ p.a → q.b ≡ p.b → AreCalm q
  same_calm q a b A = ap (λ (e : PathEnd). e.treated.asked) a ∙ calm A
  same_calm q a b B = ap (λ (e : PathEnd). e.treated.asked) b ∙ calm B

  -- ---- copies

  delivered : (due : Due) → PathShows p.profile (record (at_tick due.tick p) { link = after_delivery due p.link }) ab ba
  delivered due = record { profile = h.profile; may = h.may; a = h.a; b = h.b; copies = without_kept (position (is_due due) p.link.under_way) p.link.under_way h.copies }

  -- an end that fell back hears no option
  heard_is : (sg : PlainSegment) (plain : Bool) → record (meant sg) { options = (if plain then [] else (meant sg).options) } ≡ meant (record sg { options = (if plain then [] else sg.options) })
  heard_is sg true = refl
  heard_is sg false = refl

  heard_shows : (c : Profile) (s : Side) (acks : List AckCopy) (lane : Lane) (sg : PlainSegment) (plain : Bool) → SegmentShows c s acks lane sg → SegmentShows c s acks lane (record sg { options = (if plain then [] else sg.options) })
  heard_shows c s acks lane sg true said = record { window = said.window; sub = said.sub; options = Every-nil _; payload = said.payload; turned = said.turned; fin = said.fin; plain = said.plain }
  heard_shows c s acks lane sg false said = said

  told : (s : Side) (ask : Ask) (q : PathState Carried) (sg : PlainSegment) → IsQuiet six ask → AreCalm q → PathShows p.profile q ab ba → q.profile ≡ p.profile → SegmentShows p.profile (peer s) (pick s ab ba).acks (pick s ba ab) sg
      → Steps ask (told_at q.clock s (meant sg) q)
  told s ask q sg is calm x same said =
      let e : PathEnd = end_at s q in
      let verdict = judged_in (is_joined q.profile) s (meant sg) e in
      let f : PathEnd = after_judged q.profile s q.clock (meant sg) verdict e in
      let ds = template_of (is_joined q.profile) s (items_of (is_joined q.profile) s (meant sg)) verdict in
      let d : Did p.profile s f (pick s ab ba) (pick s ab ba) (pick s ba ab) (pick s ba ab) =
      subst (λ c. Did p.profile s (after_judged c s q.clock (meant sg) (judged_in (is_joined c) s (meant sg) e) e) (pick s ab ba) (pick s ab ba) (pick s ba ab) (pick s ba ab)) (sym same)
      (arrived_end p.profile s q.clock sg e (pick s ab ba) (pick s ba ab) said (calm s) (side_shows p.profile s q ab ba x)) in
      quiet_side p.profile six others s q (goes_on s f ds q) ab ba ask x is (side_kept p.profile q ab ba x s (pick s ab ba) (pick s ba ab) f ds d)

  arrives : (s : Side) (ask : Ask) (q : PathState Carried) (sg : PlainSegment) → IsQuiet six ask → AreCalm q → PathShows p.profile q ab ba → q.profile ≡ p.profile → SegmentShows p.profile (peer s) (pick s ab ba).acks (pick s ba ab) sg
      → Steps ask (copy_heard s (Some (meant sg)) q)
  arrives s ask q sg is calm x same said =
      let plain : Bool = (end_at s q).modes.identity in
      subst (λ heard. Steps ask (told_at q.clock s heard q)) (sym (heard_is sg plain))
      (told s ask q (record sg { options = (if plain then [] else sg.options) }) is calm x same (heard_shows p.profile (peer s) (pick s ab ba).acks (pick s ba ab) sg plain said))

  unheard : (s : Side) (ask : Ask) (q : PathState Carried) → IsQuiet six ask → PathShows p.profile q ab ba → Steps ask (with_agenda (emission s) q)
  unheard s ask q is x = quiet p.profile six others ask (with_agenda (emission s) q) ab ba is (record {
    ab_after = ab;
    ba_after = ba;
    ab_moves = stays ab;
    ba_moves = stays ba;
    shows = record { profile = x.profile; may = x.may; a = x.a; b = x.b; copies = x.copies };
  })

  copy_step : (due : Due) (ask : Ask) → IsQuiet six ask → Steps ask (copy_taken values due p)
  copy_step due ask is = by (arriving due p.link) refl (every_find (is_due due) p.link.under_way h.copies)
    where
      by : (o : Option (Flight Carried)) → find (is_due due) p.link.under_way ≡ o → IfSome o (λ f. FlightShows p.profile ab ba f.to f.carried.segment)
          → Steps ask (copy_heard due.to (heard_in values due.to o p) (record (at_tick due.tick p) { link = after_delivery due p.link }))
      by None found shows = unheard due.to ask (record (at_tick due.tick p) { link = after_delivery due p.link }) is (delivered due)
      by (Some f) found shows =
          arrives due.to ask (record (at_tick due.tick p) { link = after_delivery due p.link }) (as_arrived f.carried) is (same_calm (record (at_tick due.tick p) { link = after_delivery due p.link }) refl refl) (delivered due) refl
          (heard_shows p.profile (peer due.to) (pick due.to ab ba).acks (pick due.to ba ab) f.carried.segment f.carried.stripped (heard_by p.profile due.to f.to ab ba f.carried.segment (side_is due f (found_due due p.link.under_way f found)) shows))

  -- ---- timers

  fire_step : (s : Side) (tick : ℕ) (ask : Ask) → IsQuiet six ask → Steps ask (timer_fired s (at_tick tick p))
  fire_step s tick ask is =
      let q : PathState Carried = at_tick tick p in
      let x = ticked tick p.lines in
      quiet_side p.profile six others s q (timer_fired s q) ab ba ask x is
      (side_kept p.profile q ab ba x s (pick s ab ba) (pick s ba ab) (after_firing q.clock (end_at s q)) (template_fired (is_sixth (end_at s q).tcp) s)
      (did_nothing p.profile s (pick s ab ba) (pick s ba ab) (after_firing q.clock (end_at s q)) (fired_shows p.profile s (pick s ab ba) (pick s ba ab) q.clock (end_at s q) (side_shows p.profile s q ab ba x))))

  -- ---- a join

  -- a join is begun or not, with these duties to be done
  pub join_step : (ask : Ask) (r : Reply) (dead living : List Duty) (q : PathState Carried) → IsQuiet six ask → AreCalm q → PathShows p.profile q ab ba → Steps ask (join_begun r dead living q)
  join_step ask r dead living q is calm x =
      elim (is_never r) as (λ b. Steps ask (if b then goes_on A (never_joined r (end_at A q)) dead q else goes_on A (opened_by (keys_begun r) (end_at A q)) living q)) [
        | true ↦ becomes (never_joined r q.a) dead (refused_shows p.profile A ab ba r (died q.a) (died_end_shows p.profile A ab ba q.a (calm A) x.a))
        | false ↦ becomes (opened_by (keys_begun r) q.a) living (opened_shows p.profile A ab ba (keys_begun r) q.a x.a)
      ]
    where
      becomes : (e : PathEnd) (ds : List Duty) → EndShows p.profile A e ab ba → Steps ask (goes_on A e ds q)
      becomes e ds shows =
          quiet_side p.profile six others A q (goes_on A e ds q) ab ba ask x is
          (side_kept p.profile q ab ba x A ab ba e ds (did_nothing p.profile A ab ba e shows))

  -- ---- the earliest

  event_step : (event : Event) (r : Reply) → Steps (step_for (path_of p) (Some event)) (happens values event r p)
  event_step (Event.Joins tick) r =
      join_step (step_for (path_of p) (Some (Event.Joins tick))) r (leaves A) (emission A) (record (at_tick tick p) { joined_at = None }) tt
      (same_calm (record (at_tick tick p) { joined_at = None }) refl refl) (record { profile = h.profile; may = h.may; a = h.a; b = h.b; copies = h.copies })
  event_step (Event.Takes line) r =
      quiet p.profile six others (step_for (path_of p) (Some (Event.Takes line))) (line_taken line p) ab ba tt (line_shows line.action (record (at_tick line.tick p) { lines = tail_of p.lines }) (same_calm (record (at_tick line.tick p) { lines = tail_of p.lines }) refl refl) (ticked line.tick (tail_of p.lines)))
  event_step (Event.Arrives due) r = copy_step due (step_for (path_of p) (Some (Event.Arrives due))) tt
  event_step (Event.Fires s tick) r = fire_step s tick (step_for (path_of p) (Some (Event.Fires s tick))) tt

  pub events_step : (o : Option Event) (r : Reply) → Steps (step_for (path_of p) o) (happens_if values o r p)
  events_step None r = quiet p.profile six others (step_for (path_of p) None) (with_agenda rest_of_turn p) ab ba tt (rest_shows rest_of_turn p h)
  events_step (Some event) r = event_step event r
