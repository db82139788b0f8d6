-- At every moment of a run: both SYNs of a path are acknowledged at an end only where B's SYN/ACK was sent, which acknowledges A's SYN; B answers a SYN that was
-- sent; and an end that sent a reset behind a SYN of B's is dead.
use Rattle.std.proofs.Common.{append_assoc, append-nil, ◌≡◌, refl, sym, ap, ◌∙◌, subst, ℕ, suc, ◌+◌, inl, inr, ◌⊎◌, ⊎_elim, Bool, true, false, if◌then◌else◌, Option, Some, None, List, [], ◌∷◌, ◌++◌, map}
use Rattle.std.specs.List.{slice_get}
use Rattle.std.specs.Option.{IfSome, option_map}
use Rattle.std.proofs.lemmas.Bool.{both_ways, false≢true}
use Rattle.std.proofs.lemmas.Option.{same_Some}
use Rattle.actor_desk.specs.Books.{books_in}
use Rattle.actor_desk.specs.Desk.{reply_of}
use Rattle.actor_desk.specs.declared.ask.Ask.{Ask}
use Rattle.actor_desk.specs.declared.ask.Reply.{Reply}
use Rattle.path_agenda.specs.Agenda.{start_of_turn}
use Rattle.path_agenda.specs.declared.duty.AskDuty.{AskDuty}
use Rattle.path_agenda.specs.declared.duty.Duty.{Duty}
use Rattle.path_agenda.specs.declared.duty.SendDuty.{SendDuty}
use Rattle.path_agenda.specs.declared.duty.StepDuty.{StepDuty}
use Rattle.path_core.specs.Duties.{answered, ask_for, stands}
use Rattle.path_core.specs.Events.{next_event}
use Rattle.path_core.specs.Looking.{duty_sends, first_sends, segment_sent}
use Rattle.path_core.specs.MpJoin.{is_listening}
use Rattle.path_core.specs.Octets.{octets}
use Rattle.path_core.specs.Said.{said_by}
use Rattle.path_core.specs.Shown.{shown_path}
use Rattle.path_core.specs.Standing.{is_connected}
use Rattle.path_core.specs.Start.{first_state, waiting_path}
use Rattle.path_core.specs.State.{PathState, end_at, left, path_of, with_agenda}
use Rattle.path_core.specs.Steps.{answers, asks_first, begins_turn, next_round, settled, takes}
use Rattle.path_core.specs.Turns.{FirstStands, IsSettled}
use Rattle.path_core.specs.Values.{Carried, values}
use Rattle.path_segments.specs.Spelled.{PlainSegment}
use Rattle.sides.specs.Side.{peer}
use Rattle.sides.specs.declared.side.Side.TheVariants.{A, B}
use Rattle.sides.specs.declared.side.Side.{Side}
use Rattle.stream_lanes.proofs.Lists.{Every-map, Every-nil, in_map, in_set}
use Rattle.subflow_tcp.specs.State.{EndState}
use Rattle.subflow_tcp.specs.States.{is_closed_to_segments, is_dead}
use Rattle.subflow_tcp.specs.declared.handshake.State.{State as EndPhase}
use Rattle.world_laws.proofs.Joins.TokensAgree.{WorldMet, opened_met, run_met}
use Rattle.world_laws.proofs.Keys.ToldAreOwn.{MemberIs}
use Rattle.world_laws.proofs.Promises.Made.{run_fresh}
use Rattle.world_laws.proofs.Rounds.Frame.{first_keeps, takes_keeps}
use Rattle.world_laws.proofs.Worlds.Opened.{opened_actors}
use Rattle.world_laws.specs.Actors.{Actor, ActorCrew, member_asks, member_next, member_takes}
use Rattle.world_laws.specs.Fresh.{shown_crew, shown_member}
use Rattle.world_laws.specs.Openings.{PathPlan, Start, joins_at, new_path, opened_world, path_begins}
use Rattle.world_laws.specs.Promises.{HasRoom, NumbersFit}
use Rattle.world_laws.specs.Worlds.{Turn, WorldState, after_turn, all_over, asked, begins, crew_after, greatest, stepped, world_run}
use Rattle.world_laws.specs.declared.member.Member.TheVariants.{App, Path}
use Rattle.own_runs.proofs.AgendaFits.{FitsAt, Fits, Led, Owes, OwesAt, duty_owes, is_weighty, owes_settles}
use Rattle.own_runs.proofs.ActorNumbers.{actor_is}
use Rattle.own_runs.proofs.ComesTimes.{crew_at}
use Rattle.own_runs.proofs.DutiesFew.{IsNoEvent}
use Rattle.own_runs.proofs.InTime.{AnswersAt, IsSynAck, OpensAt as SynAt, ResetsAt, Sending, SynsAt, WasReset, WasSaid, crew_sending, member_sending, none_reset, none_said, reset_split, sending_as, turn_sending, was_last, was_more, was_split}
use Rattle.own_runs.proofs.Learning.{IsAlone}
use Rattle.own_runs.proofs.Moments.{end_shown, first_same}
use Rattle.own_runs.proofs.NextTrace.{run_append}
use Rattle.own_runs.proofs.Opening.{FlightTells, JoinSent, PathOpens, SendsSo, Tells, agenda_so, ask_so, send_so, settled_so, step_so}
use Rattle.own_runs.proofs.OpeningArrivals.{alike_so, event_owes, event_so}
use Rattle.own_runs.proofs.OpeningEnds.{is_passive}
use Rattle.own_runs.proofs.PlainSends.{FallsSo, SendsWell, duty_falls, first_fits, sends_at}
use Rattle.own_runs.proofs.Speaking.{ToSend}

-- ---- paths

-- a reset is sent next, not of an end that listens
abbrev pub ResetNow : PathState Carried → Side → Type 0
ResetNow p s = (t : ToSend) × (first_sends p.agenda p ≡ Some t) × (t.from ≡ s) × ((segment_sent p t).rst ≡ true) × (is_listening (end_at s p).tcp.state ≡ false)

module _ (U T V : Type 0) (X : Side → Type 0) where
  -- with other resets
  fallen : (Y : Side → Type 0) (q : PathState Carried) → ((s : Side) → Y s → is_dead (end_at s q).tcp.state ≡ true) → PathOpens U T V X q → PathOpens U T V Y q
  fallen Y q fell h = record {
    copies = h.copies;
    heard = h.heard;
    active = h.active;
    next = h.next;
    born = h.born;
    asked = h.asked;
    answered = h.answered;
    still_a = h.still_a;
    still_b = h.still_b;
    answer_a = h.answer_a;
    answer_b = h.answer_b;
    spoke = h.spoke;
    fell_a = fell A;
    fell_b = fell B;
  }

  pub fell_at : (s : Side) (p : PathState Carried) → PathOpens U T V X p → X s → is_dead (end_at s p).tcp.state ≡ true
  fell_at A p h x = h.fell_a x
  fell_at B p h x = h.fell_b x

  module _ (r : Reply) (p : PathState Carried) (h : PathOpens U T V X p) (owes : Owes U p) where
    duty_so : (d : Duty) → stands d p ≡ true → (is_weighty d ≡ true → Fits U d p) → SendsSo U T p (duty_sends d p) → PathOpens U T V X (answered values d r p)
    duty_so (Duty.Ask d) stood fits says = ask_so U T V X r p h d (joins d fits)
      where
        joins : (d : AskDuty) → (is_weighty (Duty.Ask d) ≡ true → Fits U (Duty.Ask d) p) → JoinSent U T V X p (Duty.Ask d)
        joins (AskDuty.JoinHeard s) fits = λ listens. (fits refl).1
        joins _ fits = tt
    duty_so (Duty.Send d) stood fits says = send_so U T V X r p h d stood says
    duty_so (Duty.Step StepDuty.Events) stood fits says = event_so U T V X r p h (next_event p) refl
    duty_so (Duty.Step (StepDuty.Look s)) stood fits says = step_so U T V X r p h (StepDuty.Look s) refl stood says
    duty_so (Duty.Step (StepDuty.Data s)) stood fits says = step_so U T V X r p h (StepDuty.Data s) refl stood says
    duty_so (Duty.Step d) stood fits says = step_so U T V X r p h d refl stood says
    duty_so (Duty.Silent d) stood fits says = agenda_so U T V X (left p) p h
    duty_so Duty.End stood fits says = agenda_so U T V X [] p h

    pub takes_so : (Y : Side → Type 0) → IsSettled p → SendsSo U T p (first_sends p.agenda p) → ((s : Side) → Y s → X s ⊎ ResetNow p s) → PathOpens U T V Y (takes values r p)
    takes_so Y settles says now = by p.agenda refl
      where
        by : (ds : List Duty) → p.agenda ≡ ds → PathOpens U T V Y (settled (answers values ds r p).agenda (answers values ds r p))
        by [] same = settled_so U T V Y p.agenda p (fallen Y p (λ s y. ⊎_elim (λ x. fell_at s p h x) (λ reset. absurd (none s reset)) (now s y)) h)
          where
            none : (s : Side) → ResetNow p s → ⊥
            none s reset = (let never : (let nothing : Option ToSend = None in nothing) ≡ Some reset.0 = sym (ap (λ (ds : List Duty). first_sends ds p) same) ∙ reset.1 in cc)
        by (d ∷ ds) same = settled_so U T V Y q.agenda q (fallen Y q (λ s y. ⊎_elim (λ x. fell_at s q opens x) (λ reset. dies s reset) (now s y)) opens)
          where
            q : PathState Carried
            q = answered values d r p

            fits : is_weighty d ≡ true → Fits U d p
            fits = first_fits U T V X p h d ds (subst (λ (xs : List Duty). OwesAt U xs p) same owes)

            opens : PathOpens U T V X q
            opens = duty_so d (subst (λ (xs : List Duty). FirstStands xs p) same settles) fits (subst (λ (xs : List Duty). SendsSo U T p (first_sends xs p)) same says)

            dies : (s : Side) → ResetNow p s → is_dead (end_at s q).tcp.state ≡ true
            dies s reset =
                let next : duty_sends d p ≡ Some reset.0 = sym (ap (λ (xs : List Duty). first_sends xs p) same) ∙ reset.1 in
                let falls : FallsSo p q reset.0 = subst (λ (o : Option ToSend). IfSome o (FallsSo p q)) next (duty_falls U T V X p h r d fits) in
                ⊎_elim (λ dead. subst (λ (x : Side). is_dead (end_at x q).tcp.state ≡ true) reset.2 dead)
                (λ listens. absurd (both_ways (is_listening (end_at s p).tcp.state) reset.4 (subst (λ (x : Side). is_listening (end_at x p).tcp.state ≡ true) reset.2 listens))) (falls.falls reset.3)

    pub takes_owes : Owes U (takes values r p)
    takes_owes = by p.agenda refl
      where
        other : (d : Duty) (ds : List Duty) → p.agenda ≡ d ∷ ds → IsNoEvent d → Owes U (settled (answered values d r p).agenda (answered values d r p))
        other d ds same none = owes_settles U (answered values d r p).agenda (answered values d r p) (duty_owes U r p d ds same none owes)

        by : (ds : List Duty) → p.agenda ≡ ds → Owes U (settled (answers values ds r p).agenda (answers values ds r p))
        by [] same = owes_settles U p.agenda p owes
        by (Duty.Step StepDuty.Events ∷ ds) same = owes_settles U _ (answered values (Duty.Step StepDuty.Events) r p) (event_owes U T V X r p h (next_event p) refl)
        by (Duty.Step (StepDuty.Look s) ∷ ds) same = other (Duty.Step (StepDuty.Look s)) ds same refl
        by (Duty.Step (StepDuty.Data s) ∷ ds) same = other (Duty.Step (StepDuty.Data s)) ds same refl
        by (Duty.Step (StepDuty.Heard s index) ∷ ds) same = other (Duty.Step (StepDuty.Heard s index)) ds same refl
        by (Duty.Step (StepDuty.PlainAck s) ∷ ds) same = other (Duty.Step (StepDuty.PlainAck s)) ds same refl
        by (Duty.Step (StepDuty.Unmapped s) ∷ ds) same = other (Duty.Step (StepDuty.Unmapped s)) ds same refl
        by (Duty.Ask d ∷ ds) same = other (Duty.Ask d) ds same tt
        by (Duty.Send d ∷ ds) same = other (Duty.Send d) ds same tt
        by (Duty.Silent d ∷ ds) same = other (Duty.Silent d) ds same tt
        by (Duty.End ∷ ds) same = other Duty.End ds same tt

  -- a turn begins
  pub begins_so : (p : PathState Carried) → PathOpens U T V X p → PathOpens U T V X (begins_turn p) × Owes U (begins_turn p)
  begins_so p h = (settled_so U T V X start_of_turn (with_agenda start_of_turn p) (agenda_so U T V X start_of_turn p h), owes_settles U start_of_turn (with_agenda start_of_turn p) (inl refl))

  pub next_so : (p : PathState Carried) → PathOpens U T V X p → PathOpens U T V X (next_round p) × Owes U (next_round p)
  next_so p h = let q : PathState Carried = record p { clock = p.until; until = p.until + 100 } in begins_so q (alike_so U T V X p q refl refl h.copies h)

-- ---- worlds

module _ (U T V U' T' V' : Type 0) (X X' : Side → Type 0) (u : U → U') (t : T → T') (v : V' → V) (x : (s : Side) → X' s → X s) where
  more_tells : (s : Side) (segment : PlainSegment) → Tells U T s segment → Tells U' T' s segment
  more_tells A segment tells = (λ is. u (tells.0 is), λ syn rst. t (tells.1 syn rst))
  more_tells B segment tells = λ is. t (tells is)

  pub more_path : (p : PathState Carried) → PathOpens U T V X p → PathOpens U' T' V' X' p
  more_path p h = record {
    copies = Every-map (λ f tells. more_tells (peer f.to) f.carried.segment tells) h.copies;
    heard = λ is. t (h.heard is);
    active = h.active;
    next = h.next;
    born = h.born;
    asked = λ is. u (h.asked is);
    answered = λ is. t (h.answered is);
    still_a = h.still_a;
    still_b = h.still_b;
    answer_a = h.answer_a;
    answer_b = h.answer_b;
    spoke = λ is. h.spoke (v is);
    fell_a = λ is. h.fell_a (x A is);
    fell_b = λ is. h.fell_b (x B is);
  }

  more_fits : (d : Duty) (s : EndState) → FitsAt U d s → FitsAt U' d s
  more_fits (Duty.Ask (AskDuty.JoinHeard s)) e h = (h.0, u h.1)
  more_fits (Duty.Send (SendDuty.SynAck s)) e h = h
  more_fits (Duty.Send (SendDuty.Refuse s)) e h = h
  more_fits (Duty.Send (SendDuty.Answer s)) e h = h
  more_fits (Duty.Send (SendDuty.ResetAnswer s)) e h = h
  more_fits (Duty.Send (SendDuty.Resend s)) e h = h
  more_fits _ e h = absurd h

  more_led : (ds : List Duty) (p : PathState Carried) → Led U ds p → Led U' ds p
  more_led [] p h = h
  more_led (d ∷ ds) p (inl fits) = inl (more_fits d _ fits.0, fits.1)
  more_led (d ∷ ds) p (inr more) = inr (more.0, more_led ds p more.1)

  pub more_owes : (p : PathState Carried) → Owes U p → Owes U' p
  more_owes p (inl free) = inl free
  more_owes p (inr led) = inr (more_led p.agenda p led)

module _ (start : Start) (size : HasRoom start) (fit : NumbersFit start) where
  abbrev v : List Turn → WorldState Carried
  v before = world_run values before (opened_world start)

  abbrev pub Opened : List Turn → ℕ → Type 0
  Opened before n = WasSaid start (SynAt n) before

  abbrev pub Answered : List Turn → ℕ → Type 0
  Answered before n = WasSaid start (AnswersAt n) before

  abbrev pub Spoke : List Turn → ℕ → Type 0
  Spoke before n = WasSaid start (SynsAt n) before

  abbrev pub Fell : List Turn → ℕ → Side → Type 0
  Fell before n s = WasReset start n s before

  abbrev pub PathSo : List Turn → PathState Carried → Type 0
  PathSo before p = PathOpens (Opened before (path_of p)) (Answered before (path_of p)) (Spoke before (path_of p)) (Fell before (path_of p)) p × Owes (Opened before (path_of p)) p

  abbrev pub MemberOpens : List Turn → Actor Carried → Type 0
  MemberOpens before (App a) = Unit {0}
  MemberOpens before (Path p) = PathSo before p

  abbrev pub WorldOpens : List Turn → WorldState Carried → Type 0
  WorldOpens before w = (i : ℕ) (c : ActorCrew Carried) → slice_get w.crew i ≡ Some c → MemberOpens before c.member

  -- what a path's step sends is told by the turn
  module _ (before : List Turn) (turn : Turn) where
    abbrev later : List Turn
    later = before ++ turn ∷ []

    -- the path that sends next
    pub record Here (y : Sending) : Type 0 where
      pub actor : ℕ
      pub turns : turn ≡ Turn.Step actor
      pub crew : ActorCrew Carried
      pub there : slice_get (v before).crew actor ≡ Some crew
      pub path : PathState Carried
      pub member : crew.member ≡ Path path
      pub sends : ToSend
      pub next : first_sends path.agenda path ≡ Some sends
      pub same : y ≡ sending_as (shown_path path) sends

    pub here_so : (y : Sending) → turn_sending turn (world_run octets before (opened_world start)) ≡ Some y → Here y
    here_so y is = by turn refl
      where
        none : (let nothing : Option Sending = None in nothing) ≡ Some y → Here y
        none is = cc

        sends : (actor : ℕ) → turn ≡ Turn.Step actor → (c : ActorCrew Carried) → slice_get (v before).crew actor ≡ Some c → (p : PathState Carried) → c.member ≡ Path p → (o : Option ToSend)
            → first_sends p.agenda p ≡ o → option_map (sending_as (shown_path p)) o ≡ Some y → Here y
        sends actor is_turn c there p member None next is = none is
        sends actor is_turn c there p member (Some t) next is =
            record { actor = actor; turns = is_turn; crew = c; there = there; path = p; member = member; sends = t; next = next; same = sym (same_Some (sending_as (shown_path p) t) y is) }

        members : (actor : ℕ) → turn ≡ Turn.Step actor → (c : ActorCrew Carried) → slice_get (v before).crew actor ≡ Some c → (m : Actor Carried) → c.member ≡ m → member_sending (shown_member m) ≡ Some y → Here y
        members actor is_turn c there (App a) member is = none is
        members actor is_turn c there (Path p) member is = sends actor is_turn c there p member (first_sends p.agenda p) refl (sym (ap (λ (o : Option ToSend). option_map (sending_as (shown_path p)) o) (first_same p.agenda p)) ∙ is)

        crews : (actor : ℕ) → turn ≡ Turn.Step actor → (o : Option (ActorCrew Carried)) → slice_get (v before).crew actor ≡ o → crew_sending (option_map shown_crew o) ≡ Some y → Here y
        crews actor is_turn None there is = none is
        crews actor is_turn (Some c) there is = members actor is_turn c there c.member refl is

        by : (t : Turn) → turn ≡ t → Here y
        by Turn.Round is_turn = none (sym (ap (λ (t : Turn). turn_sending t (world_run octets before (opened_world start))) is_turn) ∙ is)
        by (Turn.Step actor) is_turn =
            crews actor is_turn (slice_get (v before).crew actor) refl
            (sym (ap crew_sending (ap (λ (w : WorldState (List ℕ)). slice_get w.crew actor) (run_fresh start before size fit) ∙ crew_at (v before).crew actor))
            ∙ sym (ap (λ (t : Turn). turn_sending t (world_run octets before (opened_world start))) is_turn) ∙ is)

    pub same_segment : (p : PathState Carried) (t : ToSend) → segment_sent (shown_path p) t ≡ segment_sent p t
    same_segment p t = ap (said_by t.kind p.profile t.from) (sym (end_shown t.from p))

    -- of a path
    module _ (i : ℕ) (c : ActorCrew Carried) (there : slice_get (v before).crew i ≡ Some c) (p : PathState Carried) (is_path : c.member ≡ Path p) where
      abbrev n : ℕ
      n = path_of p

      -- where the turn sends on its path, it is the one that sends
      pub record Own (y : Sending) : Type 0 where
        pub turns : turn ≡ Turn.Step i
        pub sends : ToSend
        pub next : first_sends p.agenda p ≡ Some sends
        pub same : y ≡ sending_as (shown_path p) sends

      own_so : (y : Sending) → turn_sending turn (world_run octets before (opened_world start)) ≡ Some y → y.path ≡ n → Own y
      own_so y is path =
          let here : Here y = here_so y is in
          let at : here.actor ≡ suc (suc (path_of here.path)) = actor_is start size before here.actor here.crew here.there here.path here.member in
          let own : i ≡ suc (suc n) = actor_is start size before i c there p is_path in
          let number : path_of here.path ≡ n = sym (ap (λ (z : Sending). z.path) here.same) ∙ path in
          let actor : here.actor ≡ i = at ∙ ap (λ (m : ℕ). suc (suc m)) number ∙ sym own in
          let crew : here.crew ≡ c = same_Some here.crew c (sym here.there ∙ ap (λ (m : ℕ). slice_get (v before).crew m) actor ∙ there) in
          let paths : here.path ≡ p = same_path (sym here.member ∙ ap (λ (x : ActorCrew Carried). x.member) crew ∙ is_path) in
          record {
            turns = here.turns ∙ ap (λ (m : ℕ). Turn.Step m) actor;
            sends = here.sends;
            next = subst (λ (q : PathState Carried). first_sends q.agenda q ≡ Some here.sends) paths here.next;
            same = here.same ∙ ap (λ (q : PathState Carried). sending_as (shown_path q) here.sends) paths;
          }
        where
          same_path : {x z : PathState Carried} → (let one : Actor Carried = Path x in one) ≡ Path z → x ≡ z
          same_path e = cc

      module _ (settles : IsSettled p) (h : PathSo before p) where
        well : (t : ToSend) → first_sends p.agenda p ≡ Some t → SendsWell p t
        well t next = subst (λ (o : Option ToSend). IfSome o (SendsWell p)) next (sends_at (Opened before n) (Answered before n) (Spoke before n) (Fell before n) p h.0 p.agenda h.1 settles)

        -- a SYN of B's comes of an end that doesn't listen
        spoke_so : Spoke later n → is_listening p.b.tcp.state ≡ false
        spoke_so said = ⊎_elim (λ was. h.0.spoke was) (λ now. quiet now.0 now.1 now.2) (was_split start (SynsAt n) before turn said)
          where
            open_quiet : (state : EndPhase) → is_closed_to_segments state ≡ false → is_listening state ≡ false
            open_quiet EndPhase.Waiting is = absurd (false≢true (sym is))
            open_quiet EndPhase.Listen is = absurd (false≢true (sym is))
            open_quiet EndPhase.Dead is = absurd (false≢true (sym is))
            open_quiet _ is = refl

            quiet : (y : Sending) → turn_sending turn (world_run octets before (opened_world start)) ≡ Some y → SynsAt n y → is_listening p.b.tcp.state ≡ false
            quiet y is holds =
                let own : Own y = own_so y is holds.0 in
                let from : own.sends.from ≡ B = sym (ap (λ (z : Sending). z.from) own.same) ∙ holds.1 in
                let syn : (segment_sent p own.sends).syn ≡ true = ap (λ (sg : PlainSegment). sg.syn) (sym (same_segment p own.sends)) ∙ sym (ap (λ (z : Sending). z.segment.syn) own.same) ∙ holds.2 in
                open_quiet p.b.tcp.state (subst (λ (s : Side). is_closed_to_segments (end_at s p).tcp.state ≡ false) from ((well own.sends own.next).opened (inr syn)))

        -- with what was said so far
        said_so : PathOpens (Opened later n) (Answered later n) (Spoke later n) (Fell before n) p
        said_so =
            let grown : PathOpens (Opened later n) (Answered later n) (Spoke before n) (Fell before n) p =
            more_path (Opened before n) (Answered before n) (Spoke before n) (Opened later n) (Answered later n) (Spoke before n) (Fell before n) (Fell before n)
            (was_more start (SynAt n) before turn) (was_more start (AnswersAt n) before turn) (λ is. is) (λ s is. is) p h.0 in
            record {
              copies = grown.copies;
              heard = grown.heard;
              active = grown.active;
              next = grown.next;
              born = grown.born;
              asked = grown.asked;
              answered = grown.answered;
              still_a = grown.still_a;
              still_b = grown.still_b;
              answer_a = grown.answer_a;
              answer_b = grown.answer_b;
              spoke = spoke_so;
              fell_a = grown.fell_a;
              fell_b = grown.fell_b;
            }

        owes_so : Owes (Opened later n) p
        owes_so =
            more_owes (Opened before n) (Answered before n) (Spoke before n) (Opened later n) (Answered later n) (Spoke before n) (Fell before n) (Fell before n)
            (was_more start (SynAt n) before turn) (was_more start (AnswersAt n) before turn) (λ is. is) (λ s is. is) p h.1

        -- each reset was sent before, or is sent now
        reset_so : (s : Side) → Fell later n s → Fell before n s ⊎ ((turn ≡ Turn.Step i) × ResetNow p s)
        reset_so s said = ⊎_elim (λ was. inl was) (λ now. inr (falls now.0 now.1 now.2 now.3)) (reset_split start n s before turn said)
          where
            hears : (s : Side) → Spoke later n → is_listening (end_at s p).tcp.state ≡ false
            hears B spoke = spoke_so spoke
            hears A spoke = active p.a.tcp.state h.0.active
              where
                active : (state : EndPhase) → is_passive state ≡ false → is_listening state ≡ false
                active EndPhase.Listen is = absurd (false≢true (sym is))
                active EndPhase.Waiting is = refl
                active _ is = refl

            falls : (y : Sending) → turn_sending turn (world_run octets before (opened_world start)) ≡ Some y → ResetsAt n s y → Spoke later n → (turn ≡ Turn.Step i) × ResetNow p s
            falls y is holds spoke =
                let own : Own y = own_so y is holds.0 in (
                  own.turns,
                  (
                    own.sends,
                    own.next,
                    sym (ap (λ (z : Sending). z.from) own.same) ∙ holds.1,
                    ap (λ (sg : PlainSegment). sg.rst) (sym (same_segment p own.sends)) ∙ sym (ap (λ (z : Sending). z.segment.rst) own.same) ∙ holds.2,
                    hears s spoke,
                  ),
                )

        -- where it sends nothing now
        pub quiet_so : ((t : ToSend) → turn ≡ Turn.Step i → first_sends p.agenda p ≡ Some t → ⊥) → PathSo later p
        quiet_so quiet = (
          more_path (Opened later n) (Answered later n) (Spoke later n) (Opened later n) (Answered later n) (Spoke later n) (Fell before n) (Fell later n) (λ is. is) (λ is. is) (λ is. is)
              (λ s said. ⊎_elim (λ was. was) (λ now. absurd (quiet now.1.0 now.0 now.1.1)) (reset_so s said)) p said_so,
          owes_so,
        )

        -- its own step
        module _ (is_turn : turn ≡ Turn.Step i) where
          turn_sends : (t : ToSend) → first_sends p.agenda p ≡ Some t → turn_sending turn (world_run octets before (opened_world start)) ≡ Some (sending_as (shown_path p) t)
          turn_sends t next =
              ap (λ (x : Turn). turn_sending x (world_run octets before (opened_world start))) is_turn
              ∙ ap (λ (w : WorldState (List ℕ)). crew_sending (slice_get w.crew i)) (run_fresh start before size fit)
              ∙ ap crew_sending (crew_at (v before).crew i ∙ ap (option_map shown_crew) there)
              ∙ ap (λ (m : Actor Carried). member_sending (shown_member m)) is_path
              ∙ ap (λ (o : Option ToSend). option_map (sending_as (shown_path p)) o) (first_same p.agenda p ∙ next)

          says : SendsSo (Opened later n) (Answered later n) p (first_sends p.agenda p)
          says = by (first_sends p.agenda p) refl
            where
              met : (s : Side) → is_connected (end_at s p).tcp.state ≡ true → Answered later n
              met A is = said_so.heard is
              met B is = said_so.answered is

              tells : (s : Side) (t : ToSend) → t.from ≡ s → first_sends p.agenda p ≡ Some t → Tells (Opened later n) (Answered later n) s (segment_sent p t)
              tells A t of next = (
                λ is. was_last start (SynAt n) before turn (sending_as (shown_path p) t) (turn_sends t next) (refl, of, subst IsAlone (sym (same_segment p t)) is),
                λ syn rst. met t.from ((well t next).plain syn rst),
              )
              tells B t of next = λ is. was_last start (AnswersAt n) before turn (sending_as (shown_path p) t) (turn_sends t next) (refl, of, subst IsSynAck (sym (same_segment p t)) is)

              by : (o : Option ToSend) → first_sends p.agenda p ≡ o → IfSome o (λ t. Tells (Opened later n) (Answered later n) t.from (segment_sent p t))
              by None next = tt
              by (Some t) next = tells t.from t refl next

          pub step_is : (r : Reply) → PathSo later (takes values r p)
          step_is r =
              subst
              (λ (m : ℕ). PathOpens (Opened later m) (Answered later m) (Spoke later m) (Fell later m) (takes values r p) × Owes (Opened later m) (takes values r p)) (sym (takes_keeps values r p).2) (
                takes_so (Opened later n) (Answered later n) (Spoke later n) (Fell before n) r p said_so owes_so (Fell later n) settles says
                    (λ s said. ⊎_elim (λ was. inl was) (λ now. inr now.1) (reset_so s said)),
                takes_owes (Opened later n) (Answered later n) (Spoke later n) (Fell before n) r p said_so owes_so,
              )

          -- a dead end stays dead
          pub step_dies : (r : Reply) (s : Side) → is_dead (end_at s p).tcp.state ≡ true → is_dead (end_at s (takes values r p)).tcp.state ≡ true
          step_dies r s dead =
              fell_at (Opened later n) (Answered later n) (Spoke later n) (λ t. is_dead (end_at t p).tcp.state ≡ true) s (takes values r p)
              (takes_so (Opened later n) (Answered later n) (Spoke later n) (λ t. is_dead (end_at t p).tcp.state ≡ true) r p
              (fallen (Opened later n) (Answered later n) (Spoke later n) (Fell before n) (λ t. is_dead (end_at t p).tcp.state ≡ true) p (λ t is. is) said_so) owes_so
              (λ t. is_dead (end_at t p).tcp.state ≡ true) settles says (λ t is. inl is)) dead

    -- after the turn
    module _ (met : WorldMet start.key_a start.key_b (v before)) (h : WorldOpens before (v before)) where
      pub settled_at : (i : ℕ) (c : ActorCrew Carried) → slice_get (v before).crew i ≡ Some c → (p : PathState Carried) → c.member ≡ Path p → IsSettled p
      settled_at i c there p is_path = (subst (MemberIs start.key_a start.key_b true (books_in (v before).books)) is_path (met.keys.crew.each i c there)).settled

      quiet_member : (i : ℕ) (c : ActorCrew Carried) → slice_get (v before).crew i ≡ Some c → ((p : PathState Carried) → c.member ≡ Path p → (t : ToSend) → turn ≡ Turn.Step i → first_sends p.agenda p ≡ Some t → ⊥)
          → MemberOpens later c.member
      quiet_member i c there quiet = by c.member refl (h i c there)
        where
          by : (m : Actor Carried) → c.member ≡ m → MemberOpens before m → MemberOpens later m
          by (App a) is opens = tt
          by (Path p) is opens = quiet_so i c there p is (settled_at i c there p is) opens (quiet p is)

      takes_member : (i : ℕ) → turn ≡ Turn.Step i → (r : Reply) (c : ActorCrew Carried) → slice_get (v before).crew i ≡ Some c → MemberOpens later (member_takes values r c.member)
      takes_member i is_turn r c there = by c.member refl (h i c there)
        where
          by : (m : Actor Carried) → c.member ≡ m → MemberOpens before m → MemberOpens later (member_takes values r m)
          by (App a) is opens = tt
          by (Path p) is opens = step_is i c there p is (settled_at i c there p is) opens is_turn r

      step_next : (actor : ℕ) → turn ≡ Turn.Step actor → (o : Option (ActorCrew Carried)) → slice_get (v before).crew actor ≡ o → WorldOpens later (stepped values actor o (v before))
      step_next actor is_turn None there = λ i c at. quiet_member i c at (λ p is t turns next. none i c at turns)
        where
          none : (i : ℕ) (c : ActorCrew Carried) → slice_get (v before).crew i ≡ Some c → turn ≡ Turn.Step i → ⊥
          none i c at turns =
              let same : actor ≡ i = step_same (sym is_turn ∙ turns) in
              (let never : (let nothing : Option (ActorCrew Carried) = None in nothing) ≡ Some c = sym there ∙ ap (λ (m : ℕ). slice_get (v before).crew m) same ∙ at in cc)
            where
              step_same : {x z : ℕ} → (let one : Turn = Turn.Step x in one) ≡ Turn.Step z → x ≡ z
              step_same e = cc
      step_next actor is_turn (Some c) there = by (member_asks values c.member) refl
        where
          step_same : {x z : ℕ} → (let one : Turn = Turn.Step x in one) ≡ Turn.Step z → x ≡ z
          step_same e = cc

          silent : (p : PathState Carried) (ds : List Duty) → p.agenda ≡ ds → asks_first values ds p ≡ None → (t : ToSend) → first_sends ds p ≡ Some t → ⊥
          silent p [] same asks t next = cc
          silent p (d ∷ ds) same asks t next = (let never : Some (ask_for values d p) ≡ None = asks in cc)

          by : (o : Option Ask) → member_asks values c.member ≡ o → WorldOpens later (asked values actor o c (v before))
          by None asks = λ i d at. quiet_member i d at (λ p is t turns next.
              let same : i ≡ actor = step_same (sym turns ∙ is_turn) in
              let crew : d ≡ c = same_Some d c (sym at ∙ ap (λ (m : ℕ). slice_get (v before).crew m) same ∙ there) in
              silent p p.agenda refl (sym (ap (member_asks values) (sym (ap (λ (y : ActorCrew Carried). y.member) crew) ∙ is)) ∙ asks) t next)
          by (Some x) asks = λ i d at.
              ⊎_elim
              (λ here. subst (λ (y : ActorCrew Carried). MemberOpens later y.member) here.1 (takes_member actor is_turn (reply_of (books_in (v before).books) x) c there))
              (λ other. quiet_member i d other.1 (λ p is t turns next. other.0 (step_same (sym turns ∙ is_turn))))
              (in_set (v before).crew actor (crew_after values x (v before).books c) i d at)

      next_member : (m : Actor Carried) → MemberOpens later m → MemberOpens later (member_next m)
      next_member (App a) h = tt
      next_member (Path p) h =
          by (first_keeps (record p { clock = p.until; until = p.until + 100 })).2
          (next_so (Opened later (path_of p)) (Answered later (path_of p)) (Spoke later (path_of p)) (Fell later (path_of p)) p h.0)
        where
          by : path_of (next_round p) ≡ path_of p
              → PathOpens (Opened later (path_of p)) (Answered later (path_of p)) (Spoke later (path_of p)) (Fell later (path_of p)) (next_round p) × Owes (Opened later (path_of p)) (next_round p)
              → MemberOpens later (Path (next_round p))
          by same h = subst (λ (n : ℕ). PathOpens (Opened later n) (Answered later n) (Spoke later n) (Fell later n) (next_round p) × Owes (Opened later n) (next_round p)) (sym same) h

      turn_next : WorldOpens later (after_turn values turn (v before))
      turn_next = by turn refl
        where
          resting : turn ≡ Turn.Round → (i : ℕ) (c : ActorCrew Carried) → slice_get (v before).crew i ≡ Some c → MemberOpens later c.member
          resting is_turn i c at = quiet_member i c at (λ p is t turns next. never (sym is_turn ∙ turns))
            where
              never : Turn.Round ≡ Turn.Step i → ⊥
              never e = cc

          round : turn ≡ Turn.Round → (b : Bool) → WorldOpens later (if b then record (v before) { crew = map (begins (greatest 0 (v before).crew)) (v before).crew } else v before)
          round is_turn false = resting is_turn
          round is_turn true = λ i d at.
              let found = in_map (begins (greatest 0 (v before).crew)) (v before).crew i d at in
              subst (λ (y : ActorCrew Carried). MemberOpens later y.member) found.2 (next_member found.0.member (resting is_turn i found.0 found.1))

          by : (t : Turn) → turn ≡ t → WorldOpens later (after_turn values t (v before))
          by (Turn.Step actor) is_turn = step_next actor is_turn (slice_get (v before).crew actor) refl
          by Turn.Round is_turn = round is_turn (all_over (v before).crew)

  -- nor does it live again as a round begins
  pub round_dies : (before : List Turn) (p : PathState Carried) → PathSo before p → (s : Side) → is_dead (end_at s p).tcp.state ≡ true → is_dead (end_at s (next_round p)).tcp.state ≡ true
  round_dies before p h s dead =
      fell_at (Opened before (path_of p)) (Answered before (path_of p)) (Spoke before (path_of p)) (λ t. is_dead (end_at t p).tcp.state ≡ true) s (next_round p)
      (next_so (Opened before (path_of p)) (Answered before (path_of p)) (Spoke before (path_of p)) (λ t. is_dead (end_at t p).tcp.state ≡ true) p
      (fallen (Opened before (path_of p)) (Answered before (path_of p)) (Spoke before (path_of p)) (Fell before (path_of p)) (λ t. is_dead (end_at t p).tcp.state ≡ true) p (λ t is. is) h.0)).0 dead

  opened_so : WorldOpens [] (opened_world start)
  opened_so = opened_actors (λ actor c. MemberOpens [] c.member) start tt tt (λ number plan there. path number plan)
    where
      not_connected : (o : Option ℕ) → is_connected (first_state o) ≡ false
      not_connected None = refl
      not_connected (Some tick) = refl

      not_passive : (o : Option ℕ) → is_passive (first_state o) ≡ false
      not_passive None = refl
      not_passive (Some tick) = refl

      path : (number : ℕ) (plan : PathPlan) → MemberOpens [] (new_path start number plan).member
      path number plan = begun (path_of {C = Carried} (begins_turn (waiting_path (path_begins start number plan) start.lines)))
        where
          p : PathState Carried
          p = waiting_path (path_begins start number plan) start.lines

          begun : (n : ℕ) → PathOpens (Opened [] n) (Answered [] n) (Spoke [] n) (Fell [] n) (begins_turn p) × Owes (Opened [] n) (begins_turn p)
          begun n =
              begins_so (Opened [] n) (Answered [] n) (Spoke [] n) (Fell [] n) p
              (record {
                copies = Every-nil (FlightTells (Opened [] n) (Answered [] n));
                heard = λ is. absurd (both_ways _ (not_connected (joins_at number plan.join)) is);
                active = not_passive (joins_at number plan.join);
                next = λ is. refl;
                born = refl;
                asked = λ is. absurd (false≢true (sym is));
                answered = λ is. absurd (false≢true is);
                still_a = record { acks = λ is. absurd (false≢true is); again = λ is. absurd (false≢true is); timed = λ is. absurd (false≢true is); syns = λ is. refl };
                still_b = record { acks = λ is. absurd (false≢true is); again = λ is. absurd (false≢true is); timed = λ is. absurd (false≢true is); syns = λ is. refl };
                answer_a = tt;
                answer_b = tt;
                spoke = λ said. absurd (none_said start (SynsAt n) said);
                fell_a = λ said. absurd (none_reset start n A said);
                fell_b = λ said. absurd (none_reset start n B said);
              })

  opens_from : (rest before : List Turn) → WorldOpens before (v before) → WorldOpens (before ++ rest) (v (before ++ rest))
  opens_from [] before h = subst (λ (ts : List Turn). WorldOpens ts (v ts)) (sym (append-nil before)) h
  opens_from (turn ∷ rest) before h =
      subst (λ (ts : List Turn). WorldOpens ts (v ts)) (append_assoc before (turn ∷ []) rest)
      (opens_from rest (before ++ turn ∷ [])
      (subst (WorldOpens (before ++ turn ∷ [])) (sym (run_append before (turn ∷ []) (opened_world start)))
      (turn_next before turn (run_met start.key_a start.key_b before (opened_world start) (opened_met start)) h)))

  -- at every moment
  pub opens_at : (turns : List Turn) → WorldOpens turns (v turns)
  opens_at turns = opens_from turns [] opened_so
