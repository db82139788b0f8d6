-- Each record of a SYN stands at position 0, and each piece has a mapping of its length, at every moment of a run.
use Rattle.std.proofs.Common.{◌≡◌, refl, subst, ℕ, Some, List, [], length, ⊎_elim}
use Rattle.std.specs.List.{slice_get}
use Rattle.actor_desk.specs.declared.ask.Reply.{Reply}
use Rattle.path_core.specs.Start.{waiting_path}
use Rattle.path_core.specs.State.{PathState}
use Rattle.path_core.specs.Steps.{takes, next_round}
use Rattle.path_core.specs.Values.{Carried, values}
use Rattle.stream_lanes.proofs.Lists.{Every-nil, Every-push, in_map, in_set}
use Rattle.stream_lanes.specs.Words.{Every}
use Rattle.subflow_send.specs.Records.{Record, SendState}
use Rattle.subflow_send.specs.Sendings.{never_sent}
use Rattle.subflow_send.specs.Rules.{fin_record}
use Rattle.subflow_send.specs.declared.record.RecordKind.TheVariants.{Syn, Data, Fin}
use Rattle.subflow_send.specs.declared.record.RecordKind.{RecordKind}
use Rattle.subflow_send.specs.declared.record.Sending.{Sending}
use Rattle.world_laws.proofs.Worlds.Opened.{opened_actors}
use Rattle.world_laws.proofs.Worlds.Turns.{run_so}
use Rattle.world_laws.proofs.Writes.Steps.{begins_lasts}
use Rattle.world_laws.specs.Actors.{Actor, ActorCrew, member_takes, member_next}
use Rattle.world_laws.specs.Openings.{Start, path_begins, opened_world}
use Rattle.world_laws.specs.StampedBooks.{answer_to}
use Rattle.world_laws.specs.Worlds.{WorldState, Turn, world_run, crew_after, begins, greatest}
use Rattle.world_laws.specs.declared.member.Member.TheVariants.{App, Path}
use Rattle.own_runs.proofs.RecordsKept.{Kept, lasts, next_kept, takes_kept}

-- ---- records

-- the SYN at position 0, without octets; a piece with a mapping of its length
abbrev pub StandsWell : RecordKind → Record → Type 0
StandsWell Syn r = (r.pos ≡ 0) × (r.piece ≡ [])
StandsWell Data r = r.mapping.length ≡ length r.piece
StandsWell Fin r = Unit {0}

abbrev pub Stands : Record → Type 0
Stands r = StandsWell r.kind r

abbrev pub RecordsStand : SendState → Type 0
RecordsStand v = Every Stands v.records

any : (r : Record) (x : Sending) → Stands r → Stands (record r { sending = x })
any r x h = by r.kind h
  where
    by : (kind : RecordKind) → StandsWell kind r → StandsWell kind (record r { sending = x })
    by Syn h = h
    by Data h = h
    by Fin h = h

ends_so : (n : ℕ) → Stands (fin_record n never_sent)
ends_so n = tt

-- ---- worlds

abbrev pub PathStands : PathState Carried → Type 0
PathStands p = RecordsStand p.a.tcp.send × RecordsStand p.b.tcp.send

abbrev pub MemberStands : Actor Carried → Type 0
MemberStands (App a) = Unit {0}
MemberStands (Path p) = PathStands p

abbrev pub WorldStands : WorldState Carried → Type 0
WorldStands w = (actor : ℕ) (c : ActorCrew Carried) → slice_get w.crew actor ≡ Some c → MemberStands c.member

later : (p q : PathState Carried) → Kept Stands any ends_so p q → PathStands p → PathStands q
later p q kept h = (kept.a h.0, kept.b h.1)

takes_stand : (r : Reply) (m : Actor Carried) → MemberStands m → MemberStands (member_takes values r m)
takes_stand r (App a) h = tt
takes_stand r (Path p) h = later p (takes values r p) (takes_kept Stands any ends_so r p (λ s grant is. refl)) h

next_stand : (m : Actor Carried) → MemberStands m → MemberStands (member_next m)
next_stand (App a) h = tt
next_stand (Path p) h = later p (next_round p) (next_kept Stands any ends_so p) h

pub always_stand : (start : Start) (turns : List Turn) → WorldStands (world_run values turns (opened_world start))
always_stand start turns =
    run_so values WorldStands
    (λ w h actor c x there is i d at.
    ⊎_elim
    (λ here. subst (λ (y : ActorCrew Carried). MemberStands y.member) here.1 (takes_stand (answer_to w.books x) c.member (h actor c there)))
    (λ other. h i d other.1)
    (in_set w.crew actor (crew_after values x w.books c) i d at))
    (λ w h over i d at.
    let found = in_map (begins (greatest 0 w.crew)) w.crew i d at in
    subst (λ (y : ActorCrew Carried). MemberStands y.member) found.2 (next_stand found.0.member (h i found.0 found.1)))
    turns (opened_world start) opened
  where
    opened : WorldStands (opened_world start)
    opened = opened_actors (λ actor c. MemberStands c.member) start tt tt
        (λ number plan there. later (waiting_path (path_begins start number plan) start.lines) _ (begins_lasts (Kept Stands any ends_so) (lasts Stands any ends_so) (waiting_path (path_begins start number plan) start.lines))
        (Every-push {xs = []} _ (Every-nil Stands) (refl, refl), Every-push {xs = []} _ (Every-nil Stands) (refl, refl)))
