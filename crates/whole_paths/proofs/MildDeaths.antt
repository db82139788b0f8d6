-- By what an end of path 0 of a mild connection dies, as long as its peer lives: what is known of both then refutes all other causes.
use Rattle.std.proofs.Common.{◌≡◌, refl, sym, subst, ap, ◌∙◌, inl, inr, ⊎_elim, ℕ, zero, suc, arith, nat_lt, ◌&&◌, not, is_none, Bool, true, false, true≢false, Option, Some, None, List, [], ◌∷◌}
use Rattle.std.proofs.lemmas.Bool.{and_parts, both_ways, lt-ltb}
use Rattle.path_segments.specs.Laws.{meant}
use Rattle.link_model.specs.declared.flight.Due.{Due}
use Rattle.stream_lanes.proofs.Lists.{in_map, in_set}
use Rattle.subflow_tcp.specs.States.{is_closed_to_segments, is_dead, is_waiting}
use Rattle.path_core.specs.FastClose.{is_silent}
use Rattle.path_core.specs.Start.{waiting_path}
use Rattle.world_laws.specs.Actors.{Actor, ActorCrew, is_over, member_asks, member_next, member_takes}
use Rattle.world_laws.specs.RoundDone.{reached}
use Rattle.world_laws.specs.Worlds.{WorldState, Turn, after_turn, begins, crew_after, greatest, world_run}
use Rattle.world_laws.proofs.Falls.ByTheJournal.{was_now}
use Rattle.world_laws.proofs.Rounds.Lifting.{all_over_each, opened_lifted}
use Rattle.world_laws.proofs.Weaving.Journals.{books_after}
use Rattle.world_laws.proofs.Worlds.Turns.{turn_so}
use Rattle.whole_paths.specs.Deaths.{DiesBy, EndsDie, is_fatal}
use Rattle.whole_paths.specs.Deaths.{DiesBy as dies}
use Rattle.whole_paths.specs.Finish.{IsPathAt}
use Rattle.whole_paths.specs.Mild.{IsMildStart, IsNeverBroken, IsUnbroken, NeverBreaks, is_harsh}
use Rattle.whole_paths.specs.MildDeaths.{DiesMildly, IsTakenBack, MildEndsDieOfExpiries}
use Rattle.whole_paths.specs.MildDeaths.DiesMildly.{sixth, taken_back}
use Rattle.whole_paths.specs.MildDeaths.{DiesMildly as mildly}
use Rattle.whole_paths.proofs.Breaking.{each_first_known, never_breaks}
use Rattle.whole_paths.proofs.Deaths.{ends_die_of_their_causes}
use Rattle.whole_paths.proofs.Flying.{next_frames, takes_frames}
use Rattle.whole_paths.proofs.NeverAborted.{no_side_is_stopped}
use Rattle.whole_paths.proofs.OpenCourses.{IsFirstPath, each_first}
use Rattle.whole_paths.proofs.OpensAtOnce.{OpensAtOnce, each_opens_at_once, no_join_comes}
use Rattle.std.specs.List.{list_any, slice_get}
use Rattle.std.proofs.lemmas.Option.{same_Some}
use Rattle.path_segments.specs.Heard.{HeardSegment}
use Rattle.sides.specs.declared.side.Side.{Side}
use Rattle.sides.specs.declared.side.Side.TheVariants.{A, B}
use Rattle.control_book.specs.Replies.{is_aborted}
use Rattle.link_model.specs.Steps.{arriving, is_due}
use Rattle.link_model.specs.declared.flight.Flight.{Flight}
use Rattle.stream_lanes.specs.Words.{Every}
use Rattle.subflow_tcp.specs.Judging.{meaning_of}
use Rattle.subflow_tcp.specs.declared.verdicts.Meaning.TheVariants as means
use Rattle.actor_desk.specs.Books.{books_in}
use Rattle.actor_desk.specs.Desk.{SixBooks, after_ask, control_of, reply_of}
use Rattle.actor_desk.specs.declared.ask.Ask.{Ask}
use Rattle.path_agenda.specs.Agenda.{start_of_turn}
use Rattle.path_agenda.specs.declared.duty.Duty.{Duty}
use Rattle.path_agenda.specs.declared.duty.Duty.TheVariants as duties
use Rattle.path_agenda.specs.declared.duty.AskDuty.TheVariants as ask_duties
use Rattle.path_agenda.specs.declared.duty.SendDuty.TheVariants as send_duties
use Rattle.path_agenda.specs.declared.duty.StepDuty.TheVariants as step_duties
use Rattle.path_core.specs.Arrival.{copy_of, heard_in}
use Rattle.path_core.specs.Duties.{ask_for}
use Rattle.path_core.specs.MpJoin.{is_joined}
use Rattle.path_core.specs.OptionsIn.{options_heard}
use Rattle.path_core.specs.State.{PathState, end_at, with_agenda}
use Rattle.path_core.specs.Steps.{asks_first}
use Rattle.path_core.specs.Values.{Carried, as_arrived, values}
use Rattle.world_laws.specs.declared.member.Member.TheVariants.{App, Path}
use Rattle.world_laws.specs.Members.{HoldsOfKind}
use Rattle.world_laws.specs.Openings.{Start, opened_world, path_begins}
use Rattle.world_laws.proofs.Worlds.Finding.{find_every}
use Rattle.whole_paths.proofs.Unbroken.{FirstKnown, FirstReply, Known, no_plain_ack}
use Rattle.whole_paths.proofs.NoResets.{AreLiving, Clean, Held, IsNoReset, Ready, clean_then, is_of_the_dead, never_kills, next_held, removed_stays, settled_held, takes_held}
use Rattle.whole_paths.proofs.NoResets.AreSpared.{living}

-- ---- actors

abbrev OfPaths : (PathState Carried → Type 0) → Actor Carried → Type 0
OfPaths P = HoldsOfKind (λ app. Unit {0}) (λ p. is_joined p.profile ≡ false → P p)

abbrev MemberHeld : SixBooks → Actor Carried → Type 0
MemberHeld six = OfPaths (Held six)

member_later : (ask : Ask) (six : SixBooks) (m : Actor Carried) → MemberHeld six m → MemberHeld (after_ask ask six) m
member_later ask six (App a) h = tt
member_later ask six (Path p) h = λ first. ⊎_elim (λ gone. inl gone) (λ (clean : Clean six p). inr (clean_then six (after_ask ask six) p (removed_stays ask six) clean)) (h first)

reply_first : (six : SixBooks) (x : Ask) (p : PathState Carried) (ds : List Duty) → asks_first values ds p ≡ Some x → FirstReply six ds p (reply_of six x)
reply_first six x p [] is = tt
reply_first six x p (d ∷ ds) is = ap (reply_of six) (sym (same_Some (ask_for values d p) x is))

member_takes_held : (six : SixBooks) (x : Ask) (m : Actor Carried) → member_asks values m ≡ Some x → OfPaths (Ready six) m → HoldsOfKind (λ app. Unit {0}) IsNeverBroken (member_takes values (reply_of six x) m) → MemberHeld six m
    → MemberHeld six (member_takes values (reply_of six x) m)
member_takes_held six x (App a) is ready unbroken h = tt
member_takes_held six x (Path p) is ready unbroken h = λ then_first.
    let first : is_joined p.profile ≡ false = ap is_joined (sym (takes_frames values (reply_of six x) p).profile) ∙ then_first in
    takes_held six (reply_of six x) p (ready first) (reply_first six x p p.agenda is) (unbroken then_first).stopped (h first)

member_begins_held : (six : SixBooks) (m : Actor Carried) → is_over m ≡ true → HoldsOfKind (λ app. Unit {0}) IsNeverBroken (member_next m) → MemberHeld six m → MemberHeld six (member_next m)
member_begins_held six (App a) over unbroken h = tt
member_begins_held six (Path p) over unbroken h = λ then_first.
    let first : is_joined p.profile ≡ false = ap is_joined (sym (next_frames p over).profile) ∙ then_first in next_held six p (unbroken then_first).stopped (h first)

-- ---- turns

record EachHeld (w : WorldState Carried) : Type 0 where
  each : (actor : ℕ) (c : ActorCrew Carried) → slice_get w.crew actor ≡ Some c → MemberHeld (books_in w.books) c.member

record EachReady (w : WorldState Carried) : Type 0 where
  each : (actor : ℕ) (c : ActorCrew Carried) → slice_get w.crew actor ≡ Some c → OfPaths (Ready (books_in w.books)) c.member

turn_held : (turn : Turn) (w : WorldState Carried) → EachReady w → NeverBreaks (after_turn values turn w) → EachHeld w → EachHeld (after_turn values turn w)
turn_held turn w ready unbroken h =
    turn_so values (λ v. NeverBreaks v → EachHeld v) turn w (λ unbroken. h)
    (λ actor c x there is unbroken. record {
      each = λ i d at. subst (λ (six : SixBooks). MemberHeld six d.member) (sym (books_after x c.pass w.books)) (⊎_elim
          (λ here. member_later x (books_in w.books) d.member (subst (λ (y : ActorCrew Carried). HoldsOfKind (λ app. Unit {0}) IsNeverBroken y.member → MemberHeld (books_in w.books) y.member) here.1
          (λ unbroken. member_takes_held (books_in w.books) x c.member is (ready.each actor c there) unbroken (h.each actor c there)) (unbroken.each i d at)))
          (λ other. member_later x (books_in w.books) d.member (h.each i d other.1))
          (in_set w.crew actor (crew_after values x w.books c) i d at));
    })
    (λ over unbroken. record {
      each = λ i d at.
          let found = in_map (begins (greatest 0 w.crew)) w.crew i d at in
          subst (λ (y : ActorCrew Carried). HoldsOfKind (λ app. Unit {0}) IsNeverBroken y.member → MemberHeld (books_in w.books) y.member) found.2
          (λ unbroken. member_begins_held (books_in w.books) found.0.member (all_over_each w.crew i found.0 over found.1) unbroken (h.each i found.0 found.1)) (unbroken.each i d at);
    })
    unbroken

run_held : (turns : List Turn) (w : WorldState Carried) → ((more : List Turn) → EachReady (world_run values more w)) → ((more : List Turn) → NeverBreaks (world_run values more w)) → EachHeld w → EachHeld (world_run values turns w)
run_held [] w ever unbroken h = h
run_held (turn ∷ turns) w ever unbroken h =
    run_held turns (after_turn values turn w) (λ more. ever (turn ∷ more)) (λ more. unbroken (turn ∷ more)) (turn_held turn w (ever []) (unbroken (turn ∷ [])) h)

opened_held : (start : Start) → NeverBreaks (opened_world {C = Carried} start) → EachHeld (opened_world start)
opened_held start unbroken = record {
  each = λ actor c there. (opened_lifted (λ c. HoldsOfKind (λ app. Unit {0}) IsNeverBroken c.member → MemberHeld six c.member) start (λ unbroken. tt) (λ unbroken. tt)
      (λ number plan at unbroken. λ first. let p : PathState Carried = waiting_path (path_begins start number plan) start.lines in
      inr (settled_held six (with_agenda start_of_turn p) (unbroken first).stopped (elim [ A ↦ λ is. absurd (true≢false (sym is)) | B ↦ λ is. absurd (true≢false (sym is)) ]) (living refl) (record { each = λ i f at. cc })))).each actor c there (unbroken.each actor c there);
}
  where
    six : SixBooks
    six = books_in (opened_world {C = Carried} start).books

zeroth : (n : ℕ) → nat_lt 0 n ≡ false → n ≡ 0
zeroth zero is = refl
zeroth (suc n) is = absurd (both_ways (nat_lt 0 (suc n)) is (lt-ltb 0 (suc n) (omega arith)))

each_ready : (start : Start) (turns : List Turn) → IsMildStart start → EachReady (world_run values turns (opened_world start))
each_ready start turns mild = record {
  each = λ actor c there. by c.member (each_first_known start turns mild actor c there) ((never_breaks start turns mild).each actor c there) ((each_opens_at_once values start turns).each actor c there);
}
  where
    w : WorldState Carried
    w = world_run values turns (opened_world start)

    sober : (s : Side) → is_aborted (control_of s (books_in w.books)).fall.mode ≡ false
    sober s = no (is_aborted (control_of s (books_in w.books)).fall.mode) refl
      where
        no : (b : Bool) → is_aborted (control_of s (books_in w.books)).fall.mode ≡ b → b ≡ false
        no false is = refl
        no true is = absurd (both_ways _ (no_side_is_stopped start turns mild s) (was_now is_aborted w.books s is))

    by : (m : Actor Carried) → OfPaths (λ p. FirstKnown p.agenda p) m → HoldsOfKind (λ app. Unit {0}) IsNeverBroken m → HoldsOfKind (λ app. Unit {0}) (λ (p : PathState Carried). OpensAtOnce p) m → OfPaths (Ready (books_in w.books)) m
    by (App a) known unbroken opens = tt
    by (Path p) known unbroken opens = λ first. record {
      known = known first;
      first = first;
      calm = (unbroken first).duties;
      sober = sober;
      number = opens.number ∙ zeroth p.profile.spelling.path first;
    }

each_held : (start : Start) (turns : List Turn) → IsMildStart start → EachHeld (world_run values turns (opened_world start))
each_held start turns mild = run_held turns (opened_world start) (λ more. each_ready start more mild) (λ more. never_breaks start more mild) (opened_held start (never_breaks start [] mild))

-- ---- the law

-- path 0 of a run, and what is known of it while both ends live
pub record IsLiving (w : WorldState Carried) (p : PathState Carried) : Type 0 where
  pub first : is_joined p.profile ≡ false
  pub known : FirstKnown p.agenda p
  pub unbroken : IsUnbroken p
  pub opens : OpensAtOnce p
  pub notices : (s : Side) → (end_at s p).notices.reset ≡ true → IsTakenBack 0 s w.books
  pub agenda : AreLiving p.agenda
  pub copies : Every IsNoReset p.link.under_way

pub living_path : (start : Start) (turns : List Turn) → IsMildStart start → let w = reached values start turns in (p : PathState Carried) → IsPathAt 0 w p → ((s : Side) → is_dead (end_at s p).tcp.state ≡ false) → IsLiving w p
living_path start turns mild p here lives = ⊎_elim
    (λ gone. absurd (both_ways _ (lives gone.side) gone.dead))
    (λ (clean : Clean (books_in w.books) p). record {
      first = first;
      known = subst (OfPaths (λ p. FirstKnown p.agenda p)) here.is (each_first_known start turns mild 2 here.crew here.there) first;
      unbroken = subst (HoldsOfKind (λ app. Unit {0}) IsNeverBroken) here.is ((never_breaks start turns mild).each 2 here.crew here.there) first;
      opens = subst (HoldsOfKind (λ app. Unit {0}) (λ (p : PathState Carried). OpensAtOnce p)) here.is ((each_opens_at_once values start turns).each 2 here.crew here.there);
      notices = clean.notices;
      agenda = clean.agenda;
      copies = clean.copies;
    })
    (subst (MemberHeld (books_in w.books)) here.is ((each_held start turns mild).each 2 here.crew here.there) first)
  where
    w : WorldState Carried
    w = reached values start turns

    first : is_joined p.profile ≡ false
    first = (subst (HoldsOfKind (λ app. Unit {0}) (IsFirstPath start)) here.is (each_first start turns mild.plain.size here.crew here.there)).first

-- the duty that comes first and stands is none by which an end dies, but that a side took the path's address back
fatal_duty : (w : WorldState Carried) (s : Side) (d : Duty) (ds : List Duty) (p : PathState Carried) → IsLiving w p → p.agenda ≡ d ∷ ds → is_fatal p d ≡ true → DiesMildly s w.books p
fatal_duty w s d ds p h is = by d known (ap (λ ds. list_any is_harsh ds) (sym is) ∙ h.unbroken.duties) (ap (λ ds. list_any is_of_the_dead ds) (sym is) ∙ h.agenda)
  where
    known : Known d p
    known = subst (λ ds. FirstKnown ds p) is h.known

    reset_of : (b : Bool) (t : Side) → (b && (end_at t p).notices.reset) ≡ true → DiesMildly s w.books p
    reset_of b t is = taken_back t (h.notices t (and_parts b (end_at t p).notices.reset is).1)

    by : (d : Duty) → Known d p → list_any is_harsh (d ∷ ds) ≡ false → list_any is_of_the_dead (d ∷ ds) ≡ false → is_fatal p d ≡ true → DiesMildly s w.books p
    by (duties.Ask ask_duties.JoinAgain) known harsh dead fatal =
        absurd (both_ways _ (h.opens.opens h.first) (and_parts (is_waiting p.a.tcp.state) (is_none p.joined_at) known.stood).0)
    by (duties.Ask (ask_duties.LeaveNoted t)) known harsh dead fatal = reset_of (is_silent (end_at t p).tcp.state) t known.stood
    by (duties.Send (send_duties.BreakReset t reason)) known harsh dead fatal = absurd (true≢false harsh)
    by (duties.Send (send_duties.Reset t)) known harsh dead fatal = absurd (true≢false dead)
    by (duties.Send (send_duties.ResetNoted t)) known harsh dead fatal = reset_of (not (is_closed_to_segments (end_at t p).tcp.state)) t known.stood
    by (duties.Step (step_duties.Heard t index)) known harsh dead fatal = absurd (both_ways _ (known.agrees t) fatal)
    by (duties.Step (step_duties.PlainAck t)) known harsh dead fatal =
        absurd (both_ways _ (no_plain_ack p.profile (end_at t p) (known.acked refl t)) known.stood)
    by (duties.Step (step_duties.Unmapped t)) known harsh dead fatal = absurd (known.mapped t refl)
    by _ known harsh dead fatal = absurd (true≢false (sym fatal))

never_reset : (w : WorldState Carried) (s : Side) (due : Due) (p : PathState Carried) (heard : HeardSegment) → IsLiving w p → heard_in values s (arriving due p.link) p ≡ Some heard
    → meaning_of (copy_of (options_heard (end_at s p) heard)) (end_at s p).tcp ≡ means.Kills → ⊥
never_reset w s due p heard h is = by (arriving due p.link) refl is
  where
    by : (o : Option (Flight Carried)) → arriving due p.link ≡ o → heard_in values s o p ≡ Some heard → meaning_of (copy_of (options_heard (end_at s p) heard)) (end_at s p).tcp ≡ means.Kills → ⊥
    by None there is kills = cc
    by (Some f) there is kills =
        let found = find_every IsNoReset (is_due due) p.link.under_way f h.copies there in
        never_kills (copy_of (options_heard (end_at s p) heard)) (end_at s p).tcp (ap (λ (x : HeardSegment). x.rst) (sym (same_Some (meant (as_arrived f.carried)) heard is)) ∙ found.0) kills

dies_mildly : (w : WorldState Carried) (s : Side) (p : PathState Carried) → IsLiving w p → DiesBy values s p → DiesMildly s w.books p
dies_mildly w s p h (dies.sixth tick out many) = sixth tick out many
dies_mildly w s p h (dies.line line next is) = mildly.line line next is
dies_mildly w s p h (dies.reset due next to heard is kills) = absurd (never_reset w s due p heard h is kills)
dies_mildly w s p h (dies.joins tick next) = absurd (no_join_comes p (h.opens.joins h.first) tick next)
dies_mildly w s p h (dies.duty d others is fatal) = fatal_duty w s d others p h is fatal

pub mild_ends_die_of_expiries : MildEndsDieOfExpiries
mild_ends_die_of_expiries start turns turn mild p q here there lives s dead =
    dies_mildly w s p (living_path start turns mild p here lives)
    (subst (λ m. EndsDie values (Path p) m) there.is (subst (λ m. EndsDie values m there.crew.member) here.is
    (subst (λ (d : ActorCrew Carried). EndsDie values here.crew.member d.member) (same_Some next.0 there.crew (sym next.1 ∙ there.there)) next.2)) s (lives s) dead)
  where
    w : WorldState Carried
    w = reached values start turns

    next : (d : ActorCrew Carried) × (slice_get (after_turn values turn w).crew 2 ≡ Some d) × EndsDie values here.crew.member d.member
    next = ends_die_of_their_causes values w turn 2 here.crew here.there
