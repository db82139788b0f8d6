-- Where a turn is over no record is left unsent that there is room for: an end goes on sending until the first one doesn't fit.
use Rattle.std.proofs.Common.{◌≡◌, refl, sym, subst, ap, ◌∙◌, ⊎_elim, ◌+◌, ◌&&◌, nat_le, Bool, true, false, Option, Some, None, List, [], ◌∷◌, length}
use Rattle.std.proofs.lemmas.Bool.{cases_lt, le-leb}
use Rattle.sides.specs.declared.side.Side.{Side}
use Rattle.stream_lanes.specs.Words.{Every}
use Rattle.subflow_send.specs.Records.{Record}
use Rattle.subflow_tcp.specs.Sizes.{room}
use Rattle.actor_desk.specs.declared.ask.Ask.{Ask}
use Rattle.actor_desk.specs.declared.ask.Reply.{Reply}
use Rattle.path_agenda.specs.declared.duty.Duty.{Duty}
use Rattle.path_agenda.specs.declared.duty.Duty.TheVariants as duties
use Rattle.path_agenda.specs.declared.duty.AskDuty.TheVariants as ask_duties
use Rattle.path_agenda.specs.declared.duty.SendDuty.TheVariants as send_duties
use Rattle.path_agenda.specs.declared.duty.SilentDuty.TheVariants as silent_duties
use Rattle.path_agenda.specs.declared.duty.StepDuty.TheVariants as step_duties
use Rattle.path_core.specs.Codec.{Codec}
use Rattle.path_core.specs.Duties.{answered}
use Rattle.path_core.specs.Emission.{Grant, answered_data, answered_grant, first_unsent, grant_in, payload_size}
use Rattle.path_core.specs.Start.{waiting_path}
use Rattle.path_core.specs.State.{PathState, end_at, with_agenda}
use Rattle.path_core.specs.Steps.{asks_first, takes}
use Rattle.world_laws.specs.declared.member.Member.TheVariants.{App, Path}
use Rattle.world_laws.specs.Actors.{Actor, member_asks, member_next, member_takes}
use Rattle.world_laws.specs.Members.{HoldsOfKind}
use Rattle.world_laws.specs.Openings.{Start, opened_world, path_begins}
use Rattle.world_laws.specs.StampedBooks.{answer_to}
use Rattle.world_laws.specs.Worlds.{Turn, WorldState, world_run}
use Rattle.world_laws.proofs.Rounds.AskingForNothing.{begun_grants}
use Rattle.world_laws.proofs.Rounds.EndsRefused.{Granting, IsPaid, Pays, answered_done, data_sent, granted_done, is_followed, is_owed, is_paid, refused_done, settled_done}
use Rattle.world_laws.proofs.Rounds.Lifting.{opened_lifted, run_lifted}
use Rattle.world_laws.proofs.Rounds.PiecesFit.{CrewFits, MemberFits, SendFits, fits_at, round_fits}
use Rattle.whole_paths.specs.Pushed.{WaitsForRoom, WhatIsUnsentWaitsForRoom}
use Rattle.whole_paths.proofs.InRounds.{in_a_round}

-- whatever was refused
abbrev any_refusal : Side → Bool
any_refusal s = true

module _ {C : Type 0} where
  module _ (k : Codec C) (r : Reply) (p : PathState C) where
    abbrev on_data : Side → List Duty → List Duty
    on_data s ds = duties.Step (step_duties.Data s) ∷ ds

    -- bytes that are granted are to be sent
    granted_on : (s : Side) (ds : List Duty) (grant : Grant) → is_followed (on_data s ds) ≡ true → ((t : Side) → Pays (with_agenda (on_data s ds) p) (on_data s ds) any_refusal t)
        → Granting (answered_grant s (Some grant) r (with_agenda (on_data s ds) p)) any_refusal
    granted_on s ds grant f each = granted_done k r p any_refusal s ds grant f each

    data_on : (s : Side) (ds : List Duty) → is_followed (on_data s ds) ≡ true → ((t : Side) → Pays (with_agenda (on_data s ds) p) (on_data s ds) any_refusal t) → (o : Option Record) → first_unsent (end_at s p) ≡ o
        → Granting (answered_data k s o r (with_agenda (on_data s ds) p)) any_refusal
    data_on s ds f each (Some u) unsent = data_sent k r p any_refusal s ds u f each
    data_on s ds f each None unsent = by (grant_in r)
      where
        by : (o : Option Grant) → Granting (answered_grant s o r (with_agenda (on_data s ds) p)) any_refusal
        by (Some grant) = granted_on s ds grant f each
        by None = refused_done k r p any_refusal s ds unsent refl f (λ t apart. each t)

    duty_on : (d : Duty) (ds : List Duty) → is_followed (d ∷ ds) ≡ true → ((t : Side) → Pays (with_agenda (d ∷ ds) p) (d ∷ ds) any_refusal t) → Granting (answered k d r (with_agenda (d ∷ ds) p)) any_refusal
    duty_on (duties.Step (step_duties.Data s)) ds f each = data_on s ds f each (first_unsent (end_at s p)) refl
    duty_on (duties.Ask ask_duties.JoinAgain) ds f each = answered_done k r p any_refusal (duties.Ask ask_duties.JoinAgain) ds tt f each
    duty_on (duties.Send (send_duties.Update s)) ds f each = answered_done k r p any_refusal (duties.Send (send_duties.Update s)) ds tt f each
    duty_on (duties.Silent (silent_duties.Timer s)) ds f each = answered_done k r p any_refusal (duties.Silent (silent_duties.Timer s)) ds tt f each
    duty_on d ds f each = answered_done k r p any_refusal d ds tt f each

    takes_on : (ds : List Duty) (x : Ask) → asks_first k ds (with_agenda ds p) ≡ Some x → is_followed ds ≡ true → ((t : Side) → Pays (with_agenda ds p) ds any_refusal t) → Granting (takes k r (with_agenda ds p)) any_refusal
    takes_on [] x asks f each = cc
    takes_on (d ∷ ds) x asks f each =
        let q : PathState C = answered k d r (with_agenda (d ∷ ds) p) in
        let h : Granting q any_refusal = duty_on d ds f each in
        settled_done q.agenda q any_refusal h.followed h.each

  -- ---- the world

  abbrev MemberPays : Actor C → Type 0
  MemberPays = HoldsOfKind (λ app. Unit {0}) (λ (p : PathState C). Granting p any_refusal)

  member_step : (k : Codec C) (r : Reply) (m : Actor C) (x : Ask) → member_asks k m ≡ Some x → MemberPays m → MemberPays (member_takes k r m)
  member_step k r (App a) x asks h = tt
  member_step k r (Path p) x asks h = takes_on k r p p.agenda x asks h.followed h.each

  member_begins : (m : Actor C) → MemberPays m → MemberPays (member_next m)
  member_begins (App a) h = tt
  member_begins (Path p) h = begun_grants (record p { clock = p.until; until = p.until + 100 }) any_refusal

  each_pays : (k : Codec C) (start : Start) (turns : List Turn) → Every (λ c. MemberPays c.member) (world_run k turns (opened_world start)).crew
  each_pays k start turns = run_lifted k (λ c. MemberPays c.member) (λ books c x asks h. member_step k (answer_to books x) c.member x asks h) (λ stamp c over h. member_begins c.member h) turns (opened_world start)
      (opened_lifted (λ c. MemberPays c.member) start tt tt (λ number plan there. begun_grants (waiting_path (path_begins start number plan) start.lines) any_refusal))

  -- no piece is longer than a full segment's payload, at any moment
  pub fit_always : (k : Codec C) (start : Start) (turns : List Turn) → Every CrewFits (world_run k turns (opened_world start)).crew
  fit_always k start turns = let h = in_a_round k start turns in subst (λ (w : WorldState C). Every CrewFits w.crew) (sym h.is) (round_fits k start h.begun h.order h.begins)

  -- ---- the law

  waits : (p : PathState C) → MemberFits (Path p) → Granting p any_refusal → WaitsForRoom p
  waits p sizes h over s may r unsent =
      let none : is_owed s p.agenda ≡ false = ap (is_owed s) over in
      let paid : IsPaid p.profile s (end_at s p) true = is_paid p p.agenda any_refusal s none (h.each s) in
      let fit : SendFits (payload_size p.profile) (end_at s p).tcp.state (end_at s p).tcp.send = fits_at s p sizes in
      ⊎_elim (λ less. less) (λ more. absurd (both (paid.waits r unsent may) (ap (λ b. b && nat_le (length r.piece) (room (end_at s p).tcp)) (le-leb 1 (end_at s p).tcp.send.una (fit.begun may)) ∙ le-leb (length r.piece) (room (end_at s p).tcp) more)))
      (cases_lt (room (end_at s p).tcp) (length r.piece))
    where
      both : {b : Bool} → b ≡ false → b ≡ true → ⊥
      both off on = cc

  member_waits : (m : Actor C) → MemberFits m → MemberPays m → HoldsOfKind (λ app. Unit {0}) WaitsForRoom m
  member_waits (App a) sizes h = tt
  member_waits (Path p) sizes h = waits p sizes h

pub what_is_unsent_waits_for_room : {C : Type 0} (k : Codec C) → WhatIsUnsentWaitsForRoom k
what_is_unsent_waits_for_room k start turns = record {
  each = λ actor c there. member_waits c.member ((fit_always k start turns).each actor c there) ((each_pays k start turns).each actor c there);
}
