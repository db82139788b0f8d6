-- A window that a bare segment tells is harmed, or comes and is heard, unless more is sent behind it.
use Rattle.std.proofs.Common.{◌≡◌, sym, subst, ap, ◌∙◌, ◌⊎◌, inl, inr, ⊎_elim, ℕ, ◌+◌, ◌^◌, ◌<◌, ◌≤◌, arith, true, false, Option, Some, None, IfSome, is_some, List, [], ◌∷◌, ◌++◌}
use Rattle.std.specs.List.{slice_get}
use Rattle.std.proofs.lemmas.Bool.{both_ways}
use Rattle.std.proofs.lemmas.Option.{same_Some}
use Rattle.actor_desk.specs.Books.{books_in}
use Rattle.actor_desk.specs.Desk.{SixBooks}
use Rattle.path_segments.specs.Heard.{HeardSegment}
use Rattle.path_segments.specs.Laws.{meant}
use Rattle.path_segments.specs.Options.{PlainOption}
use Rattle.path_segments.specs.Spelled.{PlainSegment}
use Rattle.path_segments.specs.declared.segment.PathMapping.{PathMapping}
use Rattle.path_segments.specs.declared.segment.PathOption.TheVariants.{Dss}
use Rattle.sides.specs.declared.side.Side.{Side}
use Rattle.sides.specs.declared.side.Side.TheVariants.{B}
use Rattle.sides.specs.Side.{peer}
use Rattle.link_model.specs.Steps.{changed}
use Rattle.link_model.specs.declared.flight.Due.{Due}
use Rattle.subflow_tcp.specs.States.{is_dead}
use Rattle.path_agenda.specs.declared.heard.Heard.TheVariants as says
use Rattle.path_core.specs.Choices.{item_at}
use Rattle.path_core.specs.Looking.{first_sends, segment_sent}
use Rattle.path_core.specs.MpJoin.{is_joined}
use Rattle.path_core.specs.OptionsIn.{items_of, options_heard}
use Rattle.path_core.specs.State.{PathState, end_at}
use Rattle.path_core.specs.Values.{Carried, as_arrived, values}
use Rattle.world_laws.specs.Actors.{Actor, ActorCrew}
use Rattle.world_laws.specs.Openings.{Start}
use Rattle.world_laws.specs.Outcomes.{notes_or, was_told}
use Rattle.world_laws.specs.Promises.{tells_refusal}
use Rattle.world_laws.specs.RoundDone.{reached}
use Rattle.world_laws.specs.Worlds.{WorldState, Turn, after_turn}
use Rattle.world_laws.proofs.Promises.Made.{nothing_refused}
use Rattle.whole_paths.specs.BareSegments.{BareGoesOn, BareIsSent, BareSegmentsGoOn, IsBareFrom}
use Rattle.whole_paths.specs.BareSegments.{BareGoesOn as bare}
use Rattle.whole_paths.specs.Between.{PathsBetween}
use Rattle.whole_paths.specs.Finish.{is_harmed}
use Rattle.whole_paths.specs.Mild.{IsMildStart}
use Rattle.whole_paths.specs.OpenCourses.{IsNow}
use Rattle.whole_paths.specs.Straying.{IsOpenFrom}
use Rattle.whole_paths.specs.WindowsComing.{WindowComesBy, WindowIsTold, WindowsComeSoon, WindowsGoOn}
use Rattle.whole_paths.specs.WindowsComing.WindowIsTold.{heard, comes, behind}
use Rattle.whole_paths.specs.WindowsHeard.{HearsWindows, IsOpenTo, StaysOpenTo}
use Rattle.whole_paths.specs.WindowsHeard.{StaysOpenTo as stay}
use Rattle.whole_paths.proofs.BareSegments.{bare_go_on}
use Rattle.whole_paths.proofs.DataAcksHeard.{each_data_ack_is_said}
use Rattle.whole_paths.proofs.RecordWaits.{here, last, nxt_up}
use Rattle.whole_paths.proofs.RecordsWell.{mapped_p, mapped_q, unbroken_q}
use Rattle.whole_paths.proofs.Saying.{ToSend}
use Rattle.whole_paths.proofs.Straying.{never_resets}
use Rattle.whole_paths.proofs.WindowsHeard.{each_window_counts}

module _ (start : Start) (mild : IsMildStart start) (turns : List Turn) (turn : Turn) (before : IsNow (IsOpenFrom B) (reached values start turns)) (after : IsNow (IsOpenFrom B) (after_turn values turn (reached values start turns)))
    (s : Side) where
  abbrev w : WorldState Carried
  w = reached values start turns

  abbrev v : WorldState Carried
  v = after_turn values turn w

  abbrev p : PathState Carried
  p = before.path

  abbrev q : PathState Carried
  q = after.path

  abbrev t : Side
  t = peer s

  abbrev six : SixBooks
  six = books_in w.books

  abbrev later : SixBooks
  later = books_in v.books

  pub bares : BareSegmentsGoOn s p q
  bares = bare_go_on start mild turns turn before after s

  pub opens : HearsWindows values six later after.here.crew.list p q
  opens = here start mild turns turn before after (λ (m : Actor Carried) (n : Actor Carried). PathsBetween (HearsWindows values) w.books v.books after.here.crew.list m n) (by (each_window_counts values w turn 2 before.here.crew before.here.there))
    where
      by : (d : ActorCrew Carried) × (slice_get v.crew 2 ≡ Some d) × PathsBetween (HearsWindows values) w.books v.books d.list before.here.crew.member d.member
          → PathsBetween (HearsWindows values) w.books v.books after.here.crew.list before.here.crew.member after.here.crew.member
      by found = subst (λ (d : ActorCrew Carried). PathsBetween (HearsWindows values) w.books v.books d.list before.here.crew.member d.member) (same_Some found.0 after.here.crew (sym found.1 ∙ after.here.there)) found.2

  fine : was_told tells_refusal after.here.crew.list ≡ false
  fine = ap (λ o. was_told tells_refusal (notes_or o)) (sym (subst (λ (x : WorldState Carried). slice_get x.crew 2 ≡ Some after.here.crew) (sym (last start mild turns turn)) after.here.there)) ∙ nothing_refused start (turns ++ turn ∷ []) mild.plain 2

  pub open_on : (edge : ℕ) → StaysOpenTo later s edge after.here.crew.list q → IsOpenTo later s edge q
  open_on edge (stay.on is) = is
  open_on edge (stay.gone dead) = absurd (both_ways (is_dead (end_at s q).tcp.state) (after.is_open.living s) dead)
  open_on edge (stay.reset is) = absurd (never_resets q (unbroken_q start mild turns turn before after after.is_open.first) s is)
  open_on edge (stay.plain is) = absurd (both_ways (end_at s q).modes.identity ((mapped_q start mild turns turn before after) s).identity is)
  open_on edge (stay.infinite is) = absurd (both_ways (is_some (end_at s q).modes.own_infinite) (ap is_some ((mapped_q start mild turns turn before after) s).own) is)
  open_on edge (stay.refused is) = absurd (both_ways (was_told tells_refusal after.here.crew.list) fine is)

  -- ---- one under way

  comes_on : (position edge by : ℕ) → WindowComesBy s position edge by p → WindowIsTold later s position edge by q
  comes_on position edge by h = of_bare (bares.goes h.copy h.there h.bare)
    where
      of_bare : BareGoesOn s h.copy p q → WindowIsTold later s position edge by q
      of_bare (bare.on there still) = comes (record {
        copy = h.copy;
        there = there;
        at = h.at;
        bare = still;
        next = h.next;
        mapping = h.mapping;
        others = h.others;
        says = h.says;
        low = h.low;
        wide = h.wide;
        soon = h.soon;
      })
      of_bare (bare.is_taken b due segment) = ⊎_elim
          (λ same. comes (subst (WindowComesBy s position edge by) (sym same) h))
          (λ go. heard (open_on edge (subst (λ u. StaysOpenTo later u edge after.here.crew.list q) to go)))
          (opens.tells b 1 h.next (meant (as_arrived h.copy.carried)).window edge h.wide said)
        where
          to : b.copy.due.to ≡ s
          to = ap (λ (d : Due). d.to) due ∙ h.bare.to

          said : item_at 1 (items_of (is_joined p.profile) b.copy.due.to (options_heard (end_at b.copy.due.to p) b.copy.segment)) ≡ Some (says.DataAck h.next (meant (as_arrived h.copy.carried)).window)
          said = subst (λ (g : HeardSegment). item_at 1 (items_of (is_joined p.profile) b.copy.due.to (options_heard (end_at b.copy.due.to p) g)) ≡ Some (says.DataAck h.next (meant (as_arrived h.copy.carried)).window)) (sym segment)
              (each_data_ack_is_said (as_arrived h.copy.carried) (end_at b.copy.due.to p) (is_joined p.profile) b.copy.due.to h.next h.mapping h.others h.says h.low
              (subst (λ u. (end_at u p).modes.identity ≡ false) (sym to) ((mapped_p start mild turns turn before after) s).identity))
      of_bare (bare.overtaken over) =
          let past = bares.behind h.copy.carried.segment.position over in
          let same = h.at in
          let up = nxt_up start mild turns turn before after t in behind (omega (arith, past, same, up))

  told_on : (position edge by : ℕ) → WindowIsTold six s position edge by p → WindowIsTold later s position edge by q
  told_on position edge by (heard is) = heard (open_on edge (opens.stays s edge is))
  told_on position edge by (comes h) = comes_on position edge by h
  told_on position edge by (behind past) = behind (let up = nxt_up start mild turns turn before after t in omega (arith, past, up))

  -- ---- one that is sent

  pub on_its_way : (x : PlainSegment) → IsBareFrom t p x → (next : ℕ) (mapping : Option (PathMapping ℕ)) (others : List PlainOption) → x.options ≡ Dss (Some next) mapping ∷ others → next < 2 ^ 62
      → (edge : ℕ) → edge ≤ next + (meant x).window → BareIsSent s x p q → WindowComesBy s (end_at t p).tcp.send.nxt edge (p.clock + 400) q
  on_its_way x from next mapping others options low edge wide c = record {
    copy = c.sent.copy;
    there = c.sent.there;
    at = ap (λ (y : Carried). y.segment.position) whole ∙ from.position;
    bare = c.bare;
    next = next;
    mapping = mapping;
    others = others;
    says = ap (λ (y : Carried). (as_arrived y).options) whole ∙ options;
    low = low;
    wide = subst (λ (y : Carried). edge ≤ next + (meant (as_arrived y)).window) (sym whole) wide;
    soon = c.sent.soon;
  }
    where
      whole : c.sent.copy.carried ≡ values.makes p.profile.spelling t x
      whole =
          c.sent.carried
          ∙ ap (λ b. changed (values.strips p.profile.spelling t) (values.alters p.profile.spelling t) b c.sent.altered (values.makes p.profile.spelling t x)) (c.sent.whole before.faithful.whole)
          ∙ ap (λ b. changed (values.strips p.profile.spelling t) (values.alters p.profile.spelling t) false b (values.makes p.profile.spelling t x)) (c.sent.plain before.faithful.plain)

  windows_go_on : WindowsGoOn s six later p q
  windows_go_on = record { comes = told_on; sent = λ room. by (first_sends p.agenda p) (bares.sent room) }
    where
      by : (o : Option ToSend) → IfSome o (λ x. x.from ≡ t → IsBareFrom t p (segment_sent p x) → (q ≡ p) ⊎ ((is_harmed t p q ≡ true) ⊎ BareIsSent s (segment_sent p x) p q))
          → IfSome o (λ x. x.from ≡ t → IsBareFrom t p (segment_sent p x) → (next : ℕ) (mapping : Option (PathMapping ℕ)) (others : List PlainOption) → (segment_sent p x).options ≡ Dss (Some next) mapping ∷ others
          → next < 2 ^ 62 → (edge : ℕ) → edge ≤ next + (meant (segment_sent p x)).window
          → (q ≡ p) ⊎ ((is_harmed t p q ≡ true) ⊎ WindowComesBy s (end_at t p).tcp.send.nxt edge (p.clock + 400) q))
      by None h = tt
      by (Some x) h = λ own from next mapping others options low edge wide. ⊎_elim (λ same. inl same)
          (λ goes. inr (⊎_elim (λ harmed. inl harmed) (λ c. inr (on_its_way (segment_sent p x) from next mapping others options low edge wide c)) goes)) (h own from)

pub windows_come_soon : WindowsComeSoon
windows_come_soon start turns turn h s =
    subst (λ (u : WorldState Carried). (a : IsNow (IsOpenFrom B) u) → WindowsGoOn s (books_in (reached values start turns).books) (books_in u.books) h.before.path a.path) (sym (last start h.mild turns turn))
    (λ a. windows_go_on start h.mild turns turn h.before a s) h.after
