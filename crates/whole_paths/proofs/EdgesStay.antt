-- Until an end may send a DSS RCV.NXT stays just behind its peer's SYN: it holds no mapping by which a byte could be passed, and no FIN came.
use Rattle.std.proofs.Common.{◌≡◌, refl, sym, subst, ap, ◌∙◌, ⊎_elim, ℕ, ◌+◌, ◌≤◌, ◌&&◌, ◌^◌, arith, nat_lt, Bool, true, false, true≢false, if◌then◌else◌, Option, Some, None, is_some, List, [], ◌∷◌, ◌++◌}
use Rattle.std.proofs.lemmas.Bool.{both_ways}
use Rattle.path_segments.specs.Heard.{HeardSegment}
use Rattle.sides.specs.declared.side.Side.{Side}
use Rattle.sides.specs.declared.side.Side.TheVariants.{A, B}
use Rattle.sides.specs.Side.{peer}
use Rattle.link_model.specs.Steps.{after_delivery, arriving}
use Rattle.dss_mapping.specs.Mappings.{Mappings, mapping_at}
use Rattle.dss_mapping.specs.declared.kept.KeptMapping.{KeptMapping}
use Rattle.subflow_recv.specs.Receiving.{Receiving, after_keep_held}
use Rattle.subflow_tcp.specs.Expiring.{after_expiry, is_sixth}
use Rattle.subflow_tcp.specs.Closing.{after_passing_fin}
use Rattle.subflow_tcp.specs.Judging.{is_at}
use Rattle.subflow_tcp.specs.Opening.{after_begin}
use Rattle.subflow_tcp.specs.Segments.{Copy}
use Rattle.subflow_tcp.specs.State.{EndState, is_fin_passed}
use Rattle.subflow_tcp.specs.States.{is_behind_fin, is_dead, is_waiting}
use Rattle.subflow_tcp.specs.Taking.{after_arrival, after_death, after_established, after_hearing, after_payload}
use Rattle.subflow_tcp.specs.declared.handshake.State.{State}
use Rattle.subflow_tcp.specs.declared.handshake.State.TheVariants as phase
use Rattle.subflow_tcp.specs.declared.verdicts.Meaning.{Meaning}
use Rattle.subflow_tcp.specs.declared.verdicts.Meaning.TheVariants as means
use Rattle.actor_desk.specs.declared.ask.Reply.{Reply}
use Rattle.actor_desk.specs.Words.{pick, tail_of}
use Rattle.path_agenda.specs.Agenda.{emission, leaves}
use Rattle.path_agenda.specs.declared.duty.Duty.{Duty}
use Rattle.path_agenda.specs.declared.duty.Duty.TheVariants as duties
use Rattle.path_agenda.specs.declared.duty.AskDuty.TheVariants as ask_duties
use Rattle.path_agenda.specs.declared.duty.SendDuty.TheVariants as send_duties
use Rattle.path_agenda.specs.declared.duty.SilentDuty.TheVariants as silent_duties
use Rattle.path_agenda.specs.declared.duty.StepDuty.TheVariants as step_duties
use Rattle.path_agenda.specs.declared.heard.Heard.{Heard}
use Rattle.path_agenda.specs.declared.keys.KeyPair.{KeyPair}
use Rattle.path_store.specs.declared.lines.LineAction.{LineAction}
use Rattle.path_store.specs.declared.lines.LineAction.TheVariants as actions
use Rattle.path_core.specs.Addresses.{with_priority}
use Rattle.path_core.specs.Arrival.{after_judged, copy_heard, copy_of, heard_in, judged_in, owing_if, with_payload}
use Rattle.path_core.specs.DataFin.{after_pass_fin}
use Rattle.path_core.specs.Deliver.{after_keep, is_dropped, next_piece, piece_of}
use Rattle.path_core.specs.Duties.{answered, passed, stands}
use Rattle.path_core.specs.End.{PathEnd, died}
use Rattle.path_core.specs.Events.{after_line, happens_if, next_event}
use Rattle.path_core.specs.Judged.{taken_as}
use Rattle.path_core.specs.MpJoin.{is_joined, is_never, keys_begun, never_joined, opened_by}
use Rattle.path_core.specs.OptionsIn.{hint_of, items_of, options_heard, owes_by}
use Rattle.path_core.specs.Profile.{Profile}
use Rattle.path_core.specs.Start.{waiting_path}
use Rattle.path_core.specs.State.{PathState, at_tick, end_at, goes_on, with_agenda}
use Rattle.path_core.specs.Steps.{begins_turn, next_round, takes}
use Rattle.path_core.specs.Timer.{after_firing}
use Rattle.path_core.specs.Turns.{FirstStands}
use Rattle.path_core.specs.Values.{Carried, values}
use Rattle.path_core.specs.declared.events.Event.{Event}
use Rattle.path_core.specs.declared.events.Event.TheVariants as happenings
use Rattle.world_laws.specs.Openings.{PathPlan, Start, opened_world, path_begins}
use Rattle.world_laws.specs.RoundDone.{reached}
use Rattle.world_laws.specs.Worlds.{Turn}
use Rattle.world_laws.specs.Writes.{EndView, Only, OnlyAt, PathView, nothing, side_of, writes}
use Rattle.world_laws.proofs.Falls.ClearStays.{Clears, next_clear, takes_clear, unclear_before}
use Rattle.world_laws.proofs.Lanes.Showing.{is_unfinished}
use Rattle.world_laws.proofs.Rounds.Lifting.{opened_lifted}
use Rattle.world_laws.proofs.Whole.Falls.{MemberUpright, PathUpright, each_upright}
use Rattle.world_laws.proofs.Whole.Happening.{Holds, is_between}
use Rattle.world_laws.proofs.Whole.Paths.{end_is}
use Rattle.world_laws.proofs.Writes.Paths.{passes_no_more, writes_no_more}
use Rattle.world_laws.proofs.Writes.Steps.{Lasts, begins_lasts, both_ends, settled_lasts, unwritten}
use Rattle.whole_paths.specs.Clear.{NothingComesBefore}
use Rattle.whole_paths.specs.Delivery.{FinishedIsThere, HasFinished}
use Rattle.whole_paths.specs.Finish.{IsPathAt}
use Rattle.whole_paths.specs.Mild.{IsMildStart}
use Rattle.whole_paths.specs.OpeningWaits.{IsAlive}
use Rattle.whole_paths.proofs.ByTurns.{Becomes, Of, OfFirst, each_step, then_path}
use Rattle.whole_paths.proofs.ClearFirst.{b_is_clear_first}
use Rattle.whole_paths.proofs.Clearing.{none_other}
use Rattle.whole_paths.proofs.EndsUntold.{a_is_told_no_end_before}
use Rattle.whole_paths.proofs.Exchanges.{Shown, each_shown}
use Rattle.whole_paths.proofs.FinishedThere.{each_finished_is_there}
use Rattle.whole_paths.proofs.Handshaking.{AllFar, living_before, next_far, takes_far}
use Rattle.whole_paths.proofs.InTime.{is_event}
use Rattle.whole_paths.proofs.OpenCourses.{IsFirstPath, each_first}
use Rattle.whole_paths.proofs.Reached.{ack_recv, heard_recv}
use Rattle.whole_paths.proofs.RecordWaits.{path_is}
use Rattle.whole_paths.proofs.SendsEnds.{who_is_done_is_clear}
use Rattle.whole_paths.proofs.Settling.{sides}
use Rattle.whole_paths.proofs.Unpassed.{is_edge, own_holds, passed_holds}

-- ---- what arrives leaves RCV.NXT

abbrev pub Same : PathEnd → PathEnd → Type 0
Same e f = f.tcp.recv.edge ≡ e.tcp.recv.edge

pub arrival_edge : (m : Meaning) (items : List Heard) (now : ℕ) (c : Copy) (s : EndState) → (after_arrival m (hint_of items) now c s).recv.edge ≡ s.recv.edge
arrival_edge (means.Accepts n) items now c s = ap (λ (v : Receiving). v.edge) (ack_recv n now (record (after_hearing (after_payload 1 (hint_of items) c s)) { state = phase.Established }))
arrival_edge (means.Taken pos n) items now c s = ap (λ (v : Receiving). v.edge) (heard_recv n (hint_of items) now c (after_established (after_hearing (after_payload pos (hint_of items) c s))))
arrival_edge _ items now c s = refl

pub held_edge : (m : Meaning) (octets : List ℕ) (s : EndState) → (with_payload m octets s).recv.edge ≡ s.recv.edge
held_edge (means.Taken pos n) [] s = refl
held_edge (means.Taken pos n) (octet ∷ octets) s = refl
held_edge _ octets s = refl

judged_edge : (c : Profile) (s : Side) (now : ℕ) (x : HeardSegment) (e : PathEnd) → Same e (after_judged c s now x (judged_in (is_joined c) s x e) e)
judged_edge c s now x e =
    let items = items_of (is_joined c) s x in
    let m : Meaning = taken_as (judged_in (is_joined c) s x e) in
    let arrived : EndState = after_arrival m (hint_of items) now (copy_of x) (with_payload m x.payload e.tcp) in
    owing (owes_by m items) arrived ∙ arrival_edge m items now (copy_of x) (with_payload m x.payload e.tcp) ∙ held_edge m x.payload e.tcp
  where
    owing : (b : Bool) (s : EndState) → (owing_if b s).recv.edge ≡ s.recv.edge
    owing true s = refl
    owing false s = refl

pub record AllSame (p q : PathState Carried) : Type 0 where
  pub a : Same p.a q.a
  pub b : Same p.b q.b

side_same : (s : Side) (f : PathEnd) (p q : PathState Carried) → Same (end_at s p) f → q.a ≡ pick s f p.a → q.b ≡ pick s p.b f → AllSame p q
side_same A f p q x a b = record { a = subst (Same p.a) (sym a) x; b = subst (Same p.b) (sym b) refl }
side_same B f p q x a b = record { a = subst (Same p.a) (sym a) refl; b = subst (Same p.b) (sym b) x }

unless_dead : (b : Bool) (e : PathEnd) → Same e (if b then e else died e)
unless_dead true e = refl
unless_dead false e = refl

line_edges : (action : LineAction) (p : PathState Carried) → AllSame p (after_line action p)
line_edges actions.Die p = record { a = unless_dead (is_dead p.a.tcp.state) p.a; b = unless_dead (is_dead p.b.tcp.state) p.b }
line_edges (actions.Prio s backup) p = side_same s (with_priority backup (end_at s p)) p _ refl refl refl
line_edges (actions.Announce s id) p = record { a = refl; b = refl }
line_edges (actions.Withdraw s id) p = record { a = refl; b = refl }

opened_edge : (keys : Option KeyPair) (e : PathEnd) → Same e (opened_by keys e)
opened_edge None e = refl
opened_edge (Some keys) e = elim (is_waiting e.tcp.state) as (λ b. (if b then after_begin e.tcp else e.tcp).recv.edge ≡ e.tcp.recv.edge) [ true ↦ refl | false ↦ refl ]

heard_edges : (s : Side) (o : Option HeardSegment) (p : PathState Carried) → AllSame p (copy_heard s o p)
heard_edges s None p = record { a = refl; b = refl }
heard_edges s (Some heard) p = side_same s _ p _ (judged_edge p.profile s p.clock (options_heard (end_at s p) heard) (end_at s p)) refl refl

pub event_edges : (o : Option Event) (r : Reply) (p : PathState Carried) → AllSame p (happens_if values o r p)
event_edges None r p = record { a = refl; b = refl }
event_edges (Some (happenings.Joins tick)) r p =
    let x : PathState Carried = record (at_tick tick p) { joined_at = None } in
    elim (is_never r) as (λ b. AllSame p (if b then goes_on A (never_joined r x.a) (leaves A) x else goes_on A (opened_by (keys_begun r) x.a) (emission A) x))
    [ true ↦ record { a = refl; b = refl } | false ↦ record { a = opened_edge (keys_begun r) p.a; b = refl } ]
event_edges (Some (happenings.Takes line)) r p = let h = line_edges line.action (record (at_tick line.tick p) { lines = tail_of p.lines }) in record { a = h.a; b = h.b }
event_edges (Some (happenings.Arrives due)) r p =
    let h = heard_edges due.to (heard_in values due.to (arriving due p.link) p) (record (at_tick due.tick p) { link = after_delivery due p.link }) in record { a = h.a; b = h.b }
event_edges (Some (happenings.Fires s tick)) r p = side_same s (after_firing (at_tick tick p).clock (end_at s p)) p _
    (elim (is_sixth (end_at s p).tcp) as (λ b. (if b then after_death true (end_at s p).tcp else after_expiry (at_tick tick p).clock (end_at s p).tcp).recv.edge ≡ (end_at s p).tcp.recv.edge) [ true ↦ refl | false ↦ refl ]) refl refl

pub same_at : (t : Side) (p q : PathState Carried) → AllSame p q → Same (end_at t p) (end_at t q)
same_at A p q x = x.a
same_at B p q x = x.b

-- ---- no byte is passed

none_at : (v : Mappings) (edge : ℕ) → v.live ≡ [] → mapping_at v edge ≡ None
none_at v edge none = either (nat_lt edge v.forgotten) _ (rw none refl)
  where
    either : (b : Bool) (o : Option KeptMapping) → o ≡ None → (if b then None else o) ≡ None
    either true o is = refl
    either false o is = is

pub no_piece : (c : Profile) (e : PathEnd) → e.modes.identity ≡ false → e.modes.peer_infinite ≡ None → e.receiving.mappings.live ≡ [] → next_piece c e ≡ None
no_piece c e identity finite none = rw (identity, finite, none_at e.receiving.mappings e.tcp.recv.edge none) refl

-- where an end may send no DSS the duty by which bytes are passed never stands first
never_passes : (s : Side) (ds : List Duty) (p : PathState Carried) → p.agenda ≡ duties.Ask (ask_duties.Edge s) ∷ ds → Holds p → (end_at s p).modes.identity ≡ false → (end_at s p).modes.clear ≡ false
    → is_some (piece_of s p) ≡ true → ⊥
never_passes s ds p first (Holds.Now q h) mapped unclear some = ⊎_elim
    (λ clear. both_ways (end_at s p).modes.clear unclear clear)
    (λ low. true≢false (sym some ∙ ap is_some (no_piece p.profile (end_at s p) mapped (end_is s p.agenda p h).base.finite low.1)))
    (end_is s p.agenda p h).base.low
never_passes s ds p first (Holds.Next d es q between now calm does passes) mapped unclear some = by d (sym first ∙ now) between.duty
  where
    by : (d : Duty) → duties.Ask (ask_duties.Edge s) ∷ ds ≡ d ∷ es → is_between d ≡ true → ⊥
    by (duties.Ask (ask_duties.Edge t)) same is = true≢false (sym is)
    by _ same is = cc

-- ---- a duty that is answered

-- the other end of a duty stays
pub other_edge : (d : Duty) (p q : PathState Carried) → is_event d ≡ false → OnlyAt (side_of d) (writes d) p q → Same (end_at (peer (side_of d)) p) (end_at (peer (side_of d)) q)
other_edge d p q other x =
    let e : PathEnd = end_at (peer (side_of d)) p in let f : PathEnd = end_at (peer (side_of d)) q in
    let only : Only nothing e f = subst (λ v. Only v e f) (none_other d other) (record { same = ap (λ (v : PathView Carried). v.other) x.same }) in
    ap (λ (v : Receiving). v.edge) (unwritten false e.tcp.recv f.tcp.recv refl (ap (λ (v : EndView). v.recv) only.same))

abbrev pub Low : PathEnd → Type 0
Low e = e.tcp.recv.edge ≤ 1

module _ (d : Duty) (ds : List Duty) (r : Reply) (p : PathState Carried) where
  abbrev x : PathState Carried
  x = with_agenda (d ∷ ds) p

  abbrev y : PathState Carried
  y = answered values d r x

  edge_alone : (d : Duty) → is_edge d ≡ true → (s : Side) × (d ≡ duties.Ask (ask_duties.Edge s))
  edge_alone (duties.Ask (ask_duties.Edge s)) is = (s, refl)
  edge_alone _ is = absurd (true≢false (sym is))

  answered_low : (t : Side) → Holds p → p.agenda ≡ d ∷ ds → (end_at t p).modes.identity ≡ false → (end_at t p).modes.clear ≡ false → stands d p ≡ true → Low (end_at t x) → Low (end_at t y)
  answered_low t holds first mapped unclear due low = by (is_event d) refl
    where
      never : side_of d ≡ t → is_edge d ≡ true → ⊥
      never own is =
          let found = edge_alone d is in
          never_passes found.0 ds p (subst (λ e. p.agenda ≡ e ∷ ds) found.1 first) holds
          (subst (λ u. (end_at u p).modes.identity ≡ false) (sym own ∙ ap side_of found.1) mapped) (subst (λ u. (end_at u p).modes.clear ≡ false) (sym own ∙ ap side_of found.1) unclear)
          (subst (λ e. stands e p ≡ true) found.1 due)

      event : (e : Duty) → is_event e ≡ true → e ≡ duties.Step step_duties.Events
      event (duties.Step step_duties.Events) is = refl
      event _ is = absurd (true≢false (sym is))

      by : (b : Bool) → is_event d ≡ b → Low (end_at t y)
      by true is =
          let same = same_at t x (happens_if values (next_event x) r x) (event_edges (next_event x) r x) in
          subst (λ e. Low (end_at t (answered values e r x))) (sym (event d is)) (omega (arith, same, low))
      by false other = ⊎_elim
          (λ own. subst (λ u. Low (end_at u y)) own
          (own_holds (λ v. v.edge ≤ 1) (λ n v h. h) (side_of d ≡ t → ⊥) (λ out to v h. absurd (out own)) values d r x other (λ is here. never here is)
          (subst (λ u. Low (end_at u x)) (sym own) low)))
          (λ away. subst (λ u. Low (end_at u x) → Low (end_at u y)) away (λ h. (let same = other_edge d x y other (writes_no_more values d r x) in omega (arith, same, h))) low)
          (sides t (side_of d))

-- ---- duties that are passed

-- what is heard of the peer's FIN stays, and as long as none was heard RCV.NXT stays
record Keeps (e f : PathEnd) : Type 0 where
  fin : f.tcp.fin_at ≡ e.tcp.fin_at
  edge : e.tcp.fin_at ≡ None → Same e f

-- but for an event, and a join
abbrev may_write_fin : Duty → Bool
may_write_fin (duties.Step step_duties.Events) = true
may_write_fin (duties.Ask (ask_duties.JoinHeard s)) = true
may_write_fin _ = false

pub fin_unwritten : (d : Duty) → may_write_fin d ≡ false → (writes d).own.fin_at ≡ false
fin_unwritten (duties.Step step_duties.Events) none = absurd (true≢false none)
fin_unwritten (duties.Ask (ask_duties.JoinHeard s)) none = absurd (true≢false none)
fin_unwritten (duties.Send (send_duties.Syn s)) none = refl
fin_unwritten (duties.Silent (silent_duties.Timer s)) none = refl
fin_unwritten _ none = refl

pub fin_passed : (d : Duty) (p : PathState Carried) (t : Side) → (end_at t (passed d p)).tcp.fin_at ≡ (end_at t p).tcp.fin_at
fin_passed (duties.Step step_duties.Events) p t = refl
fin_passed (duties.Ask (ask_duties.JoinHeard s)) p t = refl
fin_passed d p t = by t
  where
    both : ((passed d p).a.tcp.fin_at ≡ p.a.tcp.fin_at) × ((passed d p).b.tcp.fin_at ≡ p.b.tcp.fin_at)
    both = both_ends (λ e f. f.tcp.fin_at ≡ e.tcp.fin_at) (side_of d) (writes d) p (passed d p)
        (λ e f only. unwritten (writes d).own.fin_at e.tcp.fin_at f.tcp.fin_at (fin_unwritten d refl) (ap (λ (v : EndView). v.fin_at) only.same))
        (λ e f only. unwritten (writes d).other.fin_at e.tcp.fin_at f.tcp.fin_at refl (ap (λ (v : EndView). v.fin_at) only.same)) (passes_no_more d p)

    by : (t : Side) → (end_at t (passed d p)).tcp.fin_at ≡ (end_at t p).tcp.fin_at
    by A = both.0
    by B = both.1

pub keep_edge : (s : Side) (e : PathEnd) → Same e (after_keep s e)
keep_edge s e = by (is_dropped s e) (is_fin_passed e.tcp)
  where
    by : (dropped over : Bool) → (if dropped then record e.tcp { recv = record e.tcp.recv { incoming = None } } else record e.tcp { recv = (if over then record e.tcp.recv { incoming = None } else after_keep_held e.tcp.recv) }).recv.edge ≡ e.tcp.recv.edge
    by true over = refl
    by false true = refl
    by false false = refl

pass_fin_edge : (e : PathEnd) → e.tcp.fin_at ≡ None → Same e (after_pass_fin e)
pass_fin_edge e none = ap (λ (o : Option ℕ). (if is_at e.tcp.recv.edge o && nat_lt e.tcp.recv.edge (2 ^ 62) then after_passing_fin e.tcp else e.tcp).recv.edge) none

pub own_passed : (d : Duty) (p : PathState Carried) → (end_at (side_of d) p).tcp.fin_at ≡ None → Same (end_at (side_of d) p) (end_at (side_of d) (passed d p))
own_passed (duties.Silent (silent_duties.Keep s)) p none = there s (after_keep s (end_at s p)) p (keep_edge s (end_at s p))
  where
    there : (s : Side) (f : PathEnd) (p : PathState Carried) → Same (end_at s p) f → Same (end_at s p) (pick s (pick s f p.a) (pick s p.b f))
    there A f p x = x
    there B f p x = x
own_passed (duties.Silent (silent_duties.PassFin s)) p none = there s (after_pass_fin (end_at s p)) p (pass_fin_edge (end_at s p) none)
  where
    there : (s : Side) (f : PathEnd) (p : PathState Carried) → Same (end_at s p) f → Same (end_at s p) (pick s (pick s f p.a) (pick s p.b f))
    there A f p x = x
    there B f p x = x
own_passed d p none = let n = (end_at (side_of d) p).tcp.recv.edge in passed_holds (λ v. v.edge ≡ n) (λ m v h. h) ⊥ (λ no to v h. absurd no) d p refl refl

pub away_passed : (d : Duty) (p : PathState Carried) → Same (end_at (peer (side_of d)) p) (end_at (peer (side_of d)) (passed d p))
away_passed (duties.Step step_duties.Events) p = refl
away_passed d p = other_edge d p (passed d p) refl (passes_no_more d p)

record AllKeep (p q : PathState Carried) : Type 0 where
  at : (t : Side) → Keeps (end_at t p) (end_at t q)

keeps_last : Lasts {C = Carried} AllKeep
keeps_last = record {
  agenda = λ ds p. record { at = elim [ A ↦ record { fin = refl; edge = λ none. refl } | B ↦ record { fin = refl; edge = λ none. refl } ] };
  chains = λ p q r x y. record { at = λ t. record { fin = (y.at t).fin ∙ (x.at t).fin; edge = λ none. (y.at t).edge ((x.at t).fin ∙ none) ∙ (x.at t).edge none } };
  passes = λ d p. record {
    at = λ t. record {
      fin = fin_passed d p t;
      edge = λ none. ⊎_elim
          (λ own. subst (λ u. (end_at u p).tcp.fin_at ≡ None → Same (end_at u p) (end_at u (passed d p))) own (own_passed d p) none)
          (λ away. subst (λ u. Same (end_at u p) (end_at u (passed d p))) away (away_passed d p))
          (sides t (side_of d));
    };
  };
}

low_then : (p q : PathState Carried) (t : Side) → AllKeep p q → (end_at t q).tcp.fin_at ≡ None → Low (end_at t p) → Low (end_at t q)
low_then p q t x none low = let same = (x.at t).edge (sym (x.at t).fin ∙ none) in omega (arith, same, low)

-- ---- a turn

-- as long as no end is dead
record Stays (p : PathState Carried) : Type 0 where
  low : IsAlive p → (t : Side) → (end_at t p).modes.clear ≡ false → Low (end_at t p)

-- what is known of the path before a turn, and after it
record Before (p : PathState Carried) : Type 0 where
  upright : PathUpright p
  first : is_joined p.profile ≡ false

record After (q : PathState Carried) : Type 0 where
  fin : IsAlive q → (t : Side) → (end_at t q).modes.clear ≡ false → (end_at t q).tcp.fin_at ≡ None

unclear_at : (p q : PathState Carried) → Clears p q → (t : Side) → (end_at t q).modes.clear ≡ false → (end_at t p).modes.clear ≡ false
unclear_at p q on A unclear = unclear_before p.a.modes.clear q.a.modes.clear on.a.0 unclear
unclear_at p q on B unclear = unclear_before p.b.modes.clear q.b.modes.clear on.b.0 unclear

pub alive_before : (p q : PathState Carried) → AllFar p q → IsAlive q → IsAlive p
alive_before p q far alive = record { living = λ s. living_before (end_at s p) (end_at s q) (far.at s) (alive.living s) }

-- where it may send none before the turn
takes_low : (r : Reply) (p : PathState Carried) → Before p → (t : Side) → (end_at t p).modes.clear ≡ false → (end_at t (takes values r p)).tcp.fin_at ≡ None → Low (end_at t p) → Low (end_at t (takes values r p))
takes_low r p before t unclear none low = by p.agenda refl t unclear none low
  where
    there : (ds : List Duty) (t : Side) → Low (end_at t p) → Low (end_at t (with_agenda ds p))
    there ds A low = low
    there ds B low = low

    by : (ds : List Duty) → p.agenda ≡ ds → (t : Side) → (end_at t p).modes.clear ≡ false → (end_at t (takes values r (with_agenda ds p))).tcp.fin_at ≡ None → Low (end_at t p) → Low (end_at t (takes values r (with_agenda ds p)))
    by [] is A unclear none low = low
    by [] is B unclear none low = low
    by (d ∷ ds) is t unclear none low =
        let x : PathState Carried = with_agenda (d ∷ ds) p in let q : PathState Carried = answered values d r x in
        low_then q (takes values r x) t (settled_lasts AllKeep keeps_last q.agenda q) none
        (answered_low d ds r p t (before.upright.holds before.first) is (before.upright.identity t) unclear (subst (λ es. FirstStands es p) is before.upright.passes.settled) (there (d ∷ ds) t low))

next_low : (p : PathState Carried) (t : Side) → (end_at t (next_round p)).tcp.fin_at ≡ None → Low (end_at t p) → Low (end_at t (next_round p))
next_low p t none low = low_then x (next_round p) t (begins_lasts AllKeep keeps_last x) none (there t low)
  where
    x : PathState Carried
    x = record p { clock = p.until; until = p.until + 100 }

    there : (t : Side) → Low (end_at t p) → Low (end_at t (record p { clock = p.until; until = p.until + 100 }))
    there A low = low
    there B low = low

takes_stays : (r : Reply) (p : PathState Carried) → Before p → After (takes values r p) → Stays p → Stays (takes values r p)
takes_stays r p before after h = record {
  low = λ alive t unclear.
      let q : PathState Carried = takes values r p in
      let was = unclear_at p q (takes_clear values r p) t unclear in
      takes_low r p before t was (after.fin alive t unclear) (h.low (alive_before p q (takes_far r p) alive) t was);
}

next_stays : (p : PathState Carried) → After (next_round p) → Stays p → Stays (next_round p)
next_stays p after h = record {
  low = λ alive t unclear.
      let q : PathState Carried = next_round p in
      let was = unclear_at p q (next_clear p) t unclear in
      next_low p t (after.fin alive t unclear) (h.low (alive_before p q (next_far p) alive) t was);
}

opened_stays : (start : Start) (number : ℕ) (plan : PathPlan) → Stays (begins_turn (waiting_path (path_begins start number plan) start.lines))
opened_stays start number plan = record {
  low = λ alive t unclear.
      let p : PathState Carried = waiting_path (path_begins start number plan) start.lines in
      let x = begins_lasts AllKeep keeps_last p in low_then p (begins_turn p) t x ((x.at t).fin ∙ none t) (low t);
}
  where
    none : (t : Side) → (end_at t (waiting_path {C = Carried} (path_begins start number plan) start.lines)).tcp.fin_at ≡ None
    none A = refl
    none B = refl

    low : (t : Side) → Low (end_at t (waiting_path {C = Carried} (path_begins start number plan) start.lines))
    low A = omega arith
    low B = omega arith

-- ---- the world

-- an end that sent its FIN and isn't dead
pub sent_fin : (x : State) → is_unfinished x ≡ false → is_dead x ≡ false → is_behind_fin x ≡ true
sent_fin phase.Waiting unlike living = absurd (true≢false unlike)
sent_fin phase.Listen unlike living = absurd (true≢false unlike)
sent_fin phase.SynSent unlike living = absurd (true≢false unlike)
sent_fin phase.SynReceived unlike living = absurd (true≢false unlike)
sent_fin phase.Established unlike living = absurd (true≢false unlike)
sent_fin phase.CloseWait unlike living = absurd (true≢false unlike)
sent_fin phase.Dead unlike living = absurd (true≢false living)
sent_fin _ unlike living = refl

module _ (start : Start) (mild : IsMildStart start) where
  module _ (turns : List Turn) (p : PathState Carried) (here : IsPathAt 0 (reached values start turns) p) where
    first : IsFirstPath start p
    first = subst (Of (IsFirstPath start)) here.is (each_first start turns mild.plain.size here.crew here.there)

    -- a peer that sent its FIN knows that all of its stream is there
    pub finished_is_done : (s : Side) → IsAlive p → (end_at s p).tcp.send.finished ≡ true → HasFinished (end_at s p)
    finished_is_done s alive sent = by (is_unfinished (end_at s p).tcp.state) refl
      where
        by : (b : Bool) → is_unfinished (end_at s p).tcp.state ≡ b → HasFinished (end_at s p)
        by true still = absurd (both_ways (end_at s p).tcp.send.finished (first.unfinished s still) sent)
        by false behind = HasFinished.sent_fin (sent_fin (end_at s p).tcp.state behind (alive.living s)) (alive.living s)

    unsent : (t : Side) → IsAlive p → (end_at t p).modes.clear ≡ false → (end_at (peer t) p).tcp.send.finished ≡ true → ⊥
    unsent A alive unclear sent =
        let all = subst (Of (FinishedIsThere (reached values start turns))) here.is (each_finished_is_there start turns mild 2 here.crew here.there) B (finished_is_done B alive sent) in
        let none = a_is_told_no_end_before start turns mild p here unclear in let some = all.known in cc
    unsent B alive unclear sent = both_ways p.b.modes.clear unclear (b_is_clear_first start turns mild p here (who_is_done_is_clear start turns mild p here (finished_is_done A alive sent)))

    no_fin : After p
    no_fin = record { fin = λ alive t unclear. by alive t unclear (end_at (peer t) p).tcp.send.finished refl }
      where
        twice : (t : Side) → peer (peer t) ≡ t
        twice A = refl
        twice B = refl

        by : IsAlive p → (t : Side) → (end_at t p).modes.clear ≡ false → (b : Bool) → (end_at (peer t) p).tcp.send.finished ≡ b → (end_at t p).tcp.fin_at ≡ None
        by alive t unclear true sent = absurd (unsent t alive unclear sent)
        by alive t unclear false is = subst (λ u. (end_at u p).tcp.fin_at ≡ None) (twice t) (first.fins (peer t) is)

  step_on : (turns : List Turn) (turn : Turn) (p q : PathState Carried) → IsPathAt 0 (reached values start turns) p → IsPathAt 0 (reached values start (turns ++ turn ∷ [])) q → Becomes values p q → Stays p → Stays q
  step_on turns turn p q here there becomes h = by q becomes (no_fin (turns ++ turn ∷ []) q there)
    where
      before : Before p
      before = record {
        upright = subst MemberUpright here.is ((each_upright start turns mild.plain mild.strips).each 2 here.crew here.there);
        first = (first turns p here).first;
      }

      by : (q : PathState Carried) → Becomes values p q → After q → Stays q
      by q Becomes.stays after = h
      by q (Becomes.takes_a_reply r) after = takes_stays r p before after h
      by q Becomes.begins_anew after = next_stays p after h

  opened_first : OfFirst Stays (opened_world start)
  opened_first = record { each = λ c there. (opened_lifted (λ c. Of Stays c.member) start tt tt (λ number plan at. opened_stays start number plan)).each 2 c there }

  stays_at : (turns : List Turn) (p : PathState Carried) → IsPathAt 0 (reached values start turns) p → Stays p
  stays_at turns p here = subst (Of Stays) here.is ((each_step values start Stays opened_first step_on turns).each here.crew here.there)

  -- so it is by the turn by which the end may send one, too, unless the peer's FIN came
  pub edge_then : (turns : List Turn) (turn : Turn) (p q : PathState Carried) → IsPathAt 0 (reached values start turns) p → IsPathAt 0 (reached values start (turns ++ turn ∷ [])) q → IsAlive q → (t : Side)
      → (end_at t p).modes.clear ≡ false → (end_at t q).tcp.fin_at ≡ None → Low (end_at t q)
  edge_then turns turn p q here there alive t unclear none =
      let now = then_path values start turns turn p here in
      let same = path_is (reached values start (turns ++ turn ∷ [])) now.path q now.here there in
      subst (λ (z : PathState Carried). Low (end_at t z)) same (by now.path now.becomes (subst IsAlive (sym same) alive) (subst (λ (z : PathState Carried). (end_at t z).tcp.fin_at ≡ None) (sym same) none))
    where
      low : IsAlive p → Low (end_at t p)
      low was = (stays_at turns p here).low was t unclear

      before : Before p
      before = record {
        upright = subst MemberUpright here.is ((each_upright start turns mild.plain mild.strips).each 2 here.crew here.there);
        first = (first turns p here).first;
      }

      by : (z : PathState Carried) → Becomes values p z → IsAlive z → (end_at t z).tcp.fin_at ≡ None → Low (end_at t z)
      by z Becomes.stays alive still = low alive
      by z (Becomes.takes_a_reply r) alive still = takes_low r p before t unclear still (low (alive_before p z (takes_far r p) alive))
      by z Becomes.begins_anew alive still = next_low p t still (low (alive_before p z (next_far p) alive))

pub nothing_comes_before : NothingComesBefore
nothing_comes_before start turns mild p here alive s unclear =
    let shown = subst (Of Shown) here.is (each_shown start turns mild.plain.size mild.fit 2 here.crew here.there) in
    let some = shown.edge s in let low = (stays_at start mild turns p here).low alive s unclear in omega (arith, some, low)
