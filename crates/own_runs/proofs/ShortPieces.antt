-- No piece that a path is to send has more octets than were asked for, at every moment of a run: so no segment has more octets than a capture can hold.
use Rattle.std.proofs.Common.{◌≡◌, refl, sym, ap, ◌∙◌, subst, ℕ, ◌+◌, ◌-◌, ◌≤◌, ◌||◌, ⊎_elim, Bool, true, false, if◌then◌else◌, Some, None, List, [], ◌∷◌, length, drop, min, arith, Result, Ok, Err}
use Rattle.std.specs.List.{slice_get}
use Rattle.actor_desk.specs.Books.{books_in}
use Rattle.actor_desk.specs.Desk.{SixBooks, reply_of, send_of}
use Rattle.actor_desk.specs.declared.ask.Ask.{Ask}
use Rattle.actor_desk.specs.declared.ask.Reply.{Reply}
use Rattle.path_agenda.specs.declared.duty.Duty.{Duty}
use Rattle.path_core.specs.Emission.{Grant, grant_in, payload_size}
use Rattle.path_core.specs.Profile.{Profile}
use Rattle.path_core.specs.Duties.{ask_for}
use Rattle.path_core.specs.Start.{waiting_path}
use Rattle.path_core.specs.State.{PathState}
use Rattle.path_core.specs.Steps.{asks_first, takes, next_round}
use Rattle.path_core.specs.Values.{Carried, values}
use Rattle.send_book.specs.State as book
use Rattle.send_book.specs.Steps.{bytes_taken, decision, fin_after, grant_reply, is_future, is_gathered, part_of, reply_by, reply_to}
use Rattle.send_book.specs.declared.call.SendCall.{SendCall}
use Rattle.send_book.specs.declared.call.SendReply.{SendReply}
use Rattle.send_book.specs.declared.call.Span.{Span}
use Rattle.send_book.specs.declared.call.Why.{Why}
use Rattle.send_book.specs.State.{acked_len}
use Rattle.sides.specs.declared.side.Side.{Side}
use Rattle.stream_lanes.proofs.Lists.{Every-nil, Every-push, in_map, in_set}
use Rattle.stream_lanes.specs.Words.{Every}
use Rattle.subflow_send.specs.Records.{Record}
use Rattle.subflow_send.specs.Rules.{fin_record}
use Rattle.subflow_send.specs.Sendings.{never_sent}
use Rattle.subflow_send.specs.declared.record.RecordKind.TheVariants.{Syn, Data, Fin}
use Rattle.subflow_send.specs.declared.record.RecordKind.{RecordKind}
use Rattle.subflow_send.specs.declared.record.Sending.{Sending}
use Rattle.send_book.proofs.Decisions.{decision-MayTake}
use Rattle.std.proofs.lemmas.List.{length-take}
use Rattle.world_laws.proofs.Worlds.Opened.{opened_actors}
use Rattle.world_laws.proofs.Worlds.Turns.{run_so}
use Rattle.world_laws.proofs.Writes.Asks.{asks_no_more}
use Rattle.world_laws.proofs.Writes.Paths.{writes_no_more, passes_no_more}
use Rattle.world_laws.proofs.Writes.Steps.{Lasts, takes_lasts, begins_lasts}
use Rattle.world_laws.specs.Actors.{Actor, ActorCrew, member_asks, member_takes, member_next}
use Rattle.world_laws.specs.Asking.{IsOwn}
use Rattle.world_laws.specs.Openings.{PathPlan, Start, path_begins, opened_world}
use Rattle.world_laws.specs.Worlds.{WorldState, Turn, world_run, crew_after, begins, greatest}
use Rattle.world_laws.specs.Writes.{PathView}
use Rattle.world_laws.specs.declared.member.Member.TheVariants.{App, Path}
use Rattle.own_runs.proofs.RecordsKept.{Kept, lasts, next_kept, takes_kept}

-- ---- what is granted

-- a granted piece has no more octets than were asked for
granted_few : (path most : ℕ) (standby : Bool) (b : book.Sending) (span : Span) (piece : List ℕ) → grant_reply path most standby b ≡ SendReply.Granted span piece → length piece ≤ most
granted_few path most standby b span piece is = by (decision path most standby b) refl is
  where
    by : (d : Result Span Why) → decision path most standby b ≡ d → reply_by d b ≡ SendReply.Granted span piece → length piece ≤ most
    by (Ok x) decided e =
        let part : part_of x b.written ≡ piece = cc in
        let may = decision-MayTake path most standby b x decided in
        let to = may.whole in let limit = may.most in
        let l : length piece ≡ min (x.to - x.from) (length (drop x.from b.written)) =
        subst (λ ys. length ys ≡ min (x.to - x.from) (length (drop x.from b.written))) part (length-take (x.to - x.from) (drop x.from b.written)) in
        omega (arith, l, to, limit)
    by (Err why) decided e = cc

-- what a reply grants
abbrev GrantsNo : ℕ → Reply → Type 0
GrantsNo most r = (grant : Grant) → grant_in r ≡ Some grant → length grant.piece ≤ most

abbrev Nothing : Reply → Type 0
Nothing r = grant_in r ≡ None

none : (most : ℕ) (r : Reply) → Nothing r → GrantsNo most r
none most r is grant got = cc

either : (b : Bool) (x y : SendReply) → Nothing (Reply.Send x) → Nothing (Reply.Send y) → Nothing (Reply.Send (if b then x else y))
either true x y h g = h
either false x y h g = g

-- the octets that an ask is granted at most
abbrev AsksFor : ℕ → Ask → Type 0
AsksFor most (Ask.Send s (SendCall.Grant path max standby)) = max ≤ most
AsksFor most _ = Unit {0}

send_grants : (most : ℕ) (b : book.Sending) (call : SendCall) (s : Side) → AsksFor most (Ask.Send s call) → GrantsNo most (Reply.Send (reply_to b call))
send_grants most b (SendCall.Write bytes) s few = none most (Reply.Send (reply_to b (SendCall.Write bytes))) (either (b.closed || b.aborted) SendReply.Shut (SendReply.Taken (bytes_taken bytes b)) refl refl)
send_grants most b SendCall.Close s few = none most (Reply.Send (reply_to b SendCall.Close)) (either b.aborted SendReply.Shut SendReply.Closed refl refl)
send_grants most b (SendCall.Grant path max standby) s few = λ grant got. by (grant_reply path max standby b) refl grant got
  where
    by : (r : SendReply) → grant_reply path max standby b ≡ r → (grant : Grant) → grant_in (Reply.Send r) ≡ Some grant → length grant.piece ≤ most
    by (SendReply.Granted span piece) is grant got =
        let same : piece ≡ grant.piece = cc in
        let short = granted_few path max standby b span piece is in
        omega (arith, ap length same, short, few)
    by _ is grant got = cc
send_grants most b (SendCall.AckIn next window) s few = none most (Reply.Send (reply_to b (SendCall.AckIn next window))) (either (is_future next b) (SendReply.AckFuture (length b.written)) (SendReply.Acked (min next (length b.written) - acked_len b.marks) (fin_after next b)) refl refl)
send_grants most b (SendCall.Return path) s few = none most (Reply.Send (reply_to b (SendCall.Return path))) refl
send_grants most b SendCall.GoIdentity s few = none most (Reply.Send (reply_to b SendCall.GoIdentity)) refl
send_grants most b (SendCall.GoInfinite path) s few = none most (Reply.Send (reply_to b (SendCall.GoInfinite path))) (either (is_gathered path b) (SendReply.Infinite (acked_len b.marks)) SendReply.Scattered refl refl)
send_grants most b SendCall.Abort s few = none most (Reply.Send (reply_to b SendCall.Abort)) refl

ask_grants : (most : ℕ) (six : SixBooks) (x : Ask) → AsksFor most x → GrantsNo most (reply_of six x)
ask_grants most six (Ask.Send s call) few = send_grants most (send_of s six) call s few
ask_grants most six (Ask.Reassembly s call) few = none most (reply_of six (Ask.Reassembly s call)) refl
ask_grants most six (Ask.Control s call) few = none most (reply_of six (Ask.Control s call)) refl
ask_grants most six (Ask.Local step) few = none most (reply_of six (Ask.Local step)) refl

-- a path asks for a full segment's payload at most
own_few : (p : PathState Carried) (most : ℕ) (x : Ask) → IsOwn p x → payload_size p.profile ≤ most → AsksFor most x
own_few p most (Ask.Send s (SendCall.Grant path max standby)) own few = omega (arith, own.1, few)
own_few p most (Ask.Send s _) own few = tt
own_few p most _ own few = tt

path_few : (p : PathState Carried) (most : ℕ) (x : Ask) → asks_first values p.agenda p ≡ Some x → payload_size p.profile ≤ most → AsksFor most x
path_few p most x asks few = by p.agenda asks
  where
    by : (ds : List Duty) → asks_first values ds p ≡ Some x → AsksFor most x
    by [] is = cc
    by (d ∷ ds) is = let same : ask_for values d p ≡ x = cc in subst (AsksFor most) same (own_few p most (ask_for values d p) (asks_no_more values p d).own few)

-- ---- records

-- a SYN and a FIN have no octets, and data no more than so many
abbrev pub PieceIs : ℕ → RecordKind → Record → Type 0
PieceIs most Data r = length r.piece ≤ most
PieceIs most Syn r = r.piece ≡ []
PieceIs most Fin r = r.piece ≡ []

abbrev pub IsShort : ℕ → Record → Type 0
IsShort most r = PieceIs most r.kind r

module _ (most : ℕ) where
  any : (r : Record) (x : Sending) → IsShort most r → IsShort most (record r { sending = x })
  any r x h = by r.kind h
    where
      by : (kind : RecordKind) → PieceIs most kind r → PieceIs most kind (record r { sending = x })
      by Syn h = h
      by Data h = h
      by Fin h = h

  ends_so : (n : ℕ) → IsShort most (fin_record n never_sent)
  ends_so n = refl

  -- ---- worlds

  pub record PathShort (p : PathState Carried) : Type 0 where
    pub size : payload_size p.profile ≤ most
    pub a : Every (IsShort most) p.a.tcp.send.records
    pub b : Every (IsShort most) p.b.tcp.send.records

  abbrev pub MemberShort : Actor Carried → Type 0
  MemberShort (App a) = Unit {0}
  MemberShort (Path p) = PathShort p

  abbrev pub WorldShort : WorldState Carried → Type 0
  WorldShort w = (actor : ℕ) (c : ActorCrew Carried) → slice_get w.crew actor ≡ Some c → MemberShort c.member

  profile_lasts : Lasts {C = Carried} (λ p q. q.profile ≡ p.profile)
  profile_lasts = record {
    agenda = λ ds p. refl;
    chains = λ p q r one other. other ∙ one;
    passes = λ d p. ap (λ (v : PathView Carried). v.profile) (passes_no_more d p).same;
  }

  takes_profile : (r : Reply) (p : PathState Carried) → (takes values r p).profile ≡ p.profile
  takes_profile r p = takes_lasts (λ p q. q.profile ≡ p.profile) profile_lasts values r p (λ d. ap (λ (v : PathView Carried). v.profile) (writes_no_more values d r p).same)

  next_profile : (p : PathState Carried) → (next_round p).profile ≡ p.profile
  next_profile p = begins_lasts (λ p q. q.profile ≡ p.profile) profile_lasts (record p { clock = p.until; until = p.until + 100 })

  later : (p q : PathState Carried) → q.profile ≡ p.profile → Kept (IsShort most) any ends_so p q → PathShort p → PathShort q
  later p q same kept h = record {
    size = subst (λ (c : Profile). payload_size c ≤ most) (sym same) h.size;
    a = kept.a h.a;
    b = kept.b h.b;
  }

  takes_short : (six : SixBooks) (m : Actor Carried) (x : Ask) → member_asks values m ≡ Some x → MemberShort m → MemberShort (member_takes values (reply_of six x) m)
  takes_short six (App a) x asks h = tt
  takes_short six (Path p) x asks h =
      let r : Reply = reply_of six x in
      later p (takes values r p) (takes_profile r p)
      (takes_kept (IsShort most) any ends_so r p (λ s grant is. ask_grants most six x (path_few p most x asks h.size) grant is)) h

  next_short : (m : Actor Carried) → MemberShort m → MemberShort (member_next m)
  next_short (App a) h = tt
  next_short (Path p) h = later p (next_round p) (next_profile p) (next_kept (IsShort most) any ends_so p) h

  pub always_short : (start : Start) (turns : List Turn) → ((number : ℕ) (plan : PathPlan) → slice_get start.paths number ≡ Some plan → plan.mss - 28 ≤ most)
      → WorldShort (world_run values turns (opened_world start))
  always_short start turns few =
      run_so values WorldShort
      (λ w h actor c x there is i d at.
      ⊎_elim
      (λ here. subst (λ (y : ActorCrew Carried). MemberShort y.member) here.1 (takes_short (books_in w.books) c.member x is (h actor c there)))
      (λ other. h i d other.1)
      (in_set w.crew actor (crew_after values x w.books c) i d at))
      (λ w h over i d at.
      let found = in_map (begins (greatest 0 w.crew)) w.crew i d at in
      subst (λ (y : ActorCrew Carried). MemberShort y.member) found.2 (next_short found.0.member (h i found.0 found.1)))
      turns (opened_world start) opened
    where
      opened : WorldShort (opened_world start)
      opened = opened_actors (λ actor c. MemberShort c.member) start tt tt
          (λ number plan there.
          let p = waiting_path (path_begins start number plan) start.lines in
          later p _ (begins_lasts (λ p q. q.profile ≡ p.profile) profile_lasts p) (begins_lasts (Kept (IsShort most) any ends_so) (lasts (IsShort most) any ends_so) p)
          (record { size = few number plan there; a = Every-push {xs = []} _ (Every-nil (IsShort most)) refl; b = Every-push {xs = []} _ (Every-nil (IsShort most)) refl }))
