-- At every moment of a run, whatever its script does, each piece that a path may still send is the part of its side's file from the place of its mapping
-- on.
use Rattle.std.proofs.Common.{◌≡◌, refl, sym, ap, ◌∙◌, subst, ℕ, zero, suc, ◌<◌, ◌≤◌, ◌^◌, ⊎_elim, ◌-◌, Bool, Result, Ok, Err, Option, Some, None, List, [], ◌∷◌, ◌++◌, length, length-append, take, drop, min, arith}
use Rattle.std.specs.List.{slice_get}
use Rattle.std.proofs.lemmas.Bool.{cases_lt}
use Rattle.std.proofs.lemmas.List.{length-drop, length-take}
use Rattle.actor_desk.specs.Books.{books_in}
use Rattle.actor_desk.specs.Desk.{SixBooks, reply_of, send_of}
use Rattle.actor_desk.specs.Words.{pick}
use Rattle.actor_desk.specs.declared.ask.Ask.{Ask}
use Rattle.actor_desk.specs.declared.ask.Reply.{Reply}
use Rattle.octet_text.specs.Prefix.{IsPrefix}
use Rattle.path_agenda.specs.declared.duty.Duty.{Duty}
use Rattle.path_agenda.specs.declared.duty.StepDuty.{StepDuty}
use Rattle.path_core.specs.DssOut.{mapping_of, place_numbered}
use Rattle.path_core.specs.Emission.{Grant, data_ask, first_unsent, grant_ask, grant_in}
use Rattle.path_core.specs.Profile.{Profile}
use Rattle.path_core.specs.Start.{waiting_path}
use Rattle.path_core.specs.State.{PathState, end_at}
use Rattle.path_core.specs.Steps.{asks_first, begins_turn, next_round, takes}
use Rattle.path_core.specs.Values.{Carried, values}
use Rattle.send_book.specs.State as book
use Rattle.send_book.specs.Steps.{decision, grant_reply, part_of, reply_by}
use Rattle.send_book.specs.declared.call.Span.{Span}
use Rattle.send_book.specs.declared.call.Why.{Why}
use Rattle.sides.specs.declared.side.Side.TheVariants.{A, B}
use Rattle.sides.specs.declared.side.Side.{Side}
use Rattle.stream_lanes.proofs.Lists.{Every-nil, Every-push, in_map, in_set}
use Rattle.stream_lanes.specs.Words.{Every}
use Rattle.subflow_send.specs.Records.{Record}
use Rattle.subflow_send.specs.Rules.{fin_record}
use Rattle.subflow_send.specs.Sendings.{never_sent}
use Rattle.subflow_send.specs.declared.record.RecordKind.TheVariants.{Syn, Data, Fin}
use Rattle.subflow_send.specs.declared.record.RecordKind.{RecordKind}
use Rattle.subflow_send.specs.declared.record.Sending.{Sending}
use Rattle.world_laws.proofs.Lanes.Doing.{place_is}
use Rattle.world_laws.proofs.Worlds.CastLifting.{writes_the_files}
use Rattle.world_laws.proofs.Worlds.Opened.{opened_actors}
use Rattle.world_laws.proofs.Worlds.Turns.{turn_so}
use Rattle.world_laws.proofs.Rounds.Frame.{first_keeps, takes_keeps}
use Rattle.world_laws.proofs.Writes.Steps.{begins_lasts}
use Rattle.world_laws.specs.Actors.{Actor, ActorCrew, member_asks, member_next, member_takes}
use Rattle.world_laws.specs.Openings.{PathPlan, Start, opened_world, path_begins}
use Rattle.world_laws.specs.Worlds.{Turn, WorldState, after_turn, begins, crew_after, greatest, world_run}
use Rattle.world_laws.specs.declared.member.Member.TheVariants.{App, Path}
use Rattle.own_runs.proofs.KeyedPieces.{next_profile}
use Rattle.own_runs.proofs.RecordsKept.{Kept, kept_at, lasts, next_kept, takes_at}

-- ---- a part of a part

prefix_of : (n : ℕ) (xs rest : List ℕ) → take n xs ≡ take (length (take n xs)) (xs ++ rest)
prefix_of zero xs rest = refl
prefix_of (suc n) [] rest = refl
prefix_of (suc n) (x ∷ xs) rest = ap (λ (ys : List ℕ). x ∷ ys) (prefix_of n xs rest)

dropped : (k : ℕ) (xs rest : List ℕ) → (more : List ℕ) × (drop k (xs ++ rest) ≡ drop k xs ++ more)
dropped zero xs rest = (rest, refl)
dropped (suc k) [] rest = (drop (suc k) rest, refl)
dropped (suc k) (x ∷ xs) rest = dropped k xs rest

part_so : (n k : ℕ) (written rest : List ℕ) → take n (drop k written) ≡ take (length (take n (drop k written))) (drop k (written ++ rest))
part_so n k written rest =
    let d = dropped k written rest in
    prefix_of n (drop k written) d.0 ∙ ap (take (length (take n (drop k written)))) (sym d.1)

-- ---- a record

-- octets that were granted are those of the file from the place of their mapping on
abbrev pub PieceOf : Profile → Side → List ℕ → RecordKind → Record → Type 0
PieceOf c s file Data r = r.piece ≡ take (length r.piece) (drop (place_numbered c s r.mapping.number) file)
PieceOf c s file _ r = Unit {0}

abbrev pub IsPart : Profile → Side → List ℕ → Record → Type 0
IsPart c s file r = PieceOf c s file r.kind r

any : (c : Profile) (s : Side) (file : List ℕ) (r : Record) (x : Sending) → IsPart c s file r → IsPart c s file (record r { sending = x })
any c s file r x h = by r.kind h
  where
    by : (kind : RecordKind) → PieceOf c s file kind r → PieceOf c s file kind (record r { sending = x })
    by Data h = h
    by Syn h = tt
    by Fin h = tt

ends_so : (c : Profile) (s : Side) (file : List ℕ) (n : ℕ) → IsPart c s file (fin_record n never_sent)
ends_so c s file n = tt

-- ---- what is granted

granted_so : (c : Profile) (s : Side) (b : book.Sending) (file : List ℕ) → IsPrefix b.written file → length file < 2 ^ 64 → (path most position : ℕ) (standby : Bool) (grant : Grant)
    → grant_in (Reply.Send (grant_reply path most standby b)) ≡ Some grant
    → grant.piece ≡ take (length grant.piece) (drop (place_numbered c s (mapping_of c s grant.span.from position grant.piece).number) file)
granted_so c s b file begins few path most position standby grant = by (decision path most standby b)
  where
    Is : Grant → Type 0
    Is = λ g. g.piece ≡ take (length g.piece) (drop (place_numbered c s (mapping_of c s g.span.from position g.piece).number) file)

    nothing : (xs : List ℕ) → length xs ≡ 0 → xs ≡ []
    nothing [] none = refl
    nothing (x ∷ xs) none = absurd (omega (arith, none))

    from_none : (xs : List ℕ) (n : ℕ) → xs ≡ [] → xs ≡ take (length xs) (drop n file)
    from_none xs n none = subst (λ (ys : List ℕ). ys ≡ take (length ys) (drop n file)) (sym none) refl

    span_so : (span : Span) → Is (record { span = span; piece = part_of span b.written })
    span_so span = ⊎_elim within past (cases_lt span.from (2 ^ 64))
      where
        piece : List ℕ
        piece = part_of span b.written

        place : ℕ
        place = place_numbered c s (mapping_of c s span.from position piece).number

        within : span.from < 2 ^ 64 → piece ≡ take (length piece) (drop place file)
        within small =
            part_so (span.to - span.from) span.from b.written begins.rest
            ∙ ap (λ (f : List ℕ). take (length piece) (drop span.from f)) (sym begins.whole_is)
            ∙ ap (λ (n : ℕ). take (length piece) (drop n file)) (sym (place_is c s span.from position (length piece) small))

        past : 2 ^ 64 ≤ span.from → piece ≡ take (length piece) (drop place file)
        past far =
            let taken = length-take (span.to - span.from) (drop span.from b.written) in
            let left = length-drop span.from b.written in
            let short = ap length begins.whole_is in
            from_none piece place (nothing piece (short_so taken left short far))
          where
            short_so : length piece ≡ min (span.to - span.from) (length (drop span.from b.written)) → length (drop span.from b.written) ≡ length b.written - span.from
                → length file ≡ length (b.written ++ begins.rest) → 2 ^ 64 ≤ span.from → length piece ≡ 0
            short_so taken left short far = let both = length-append b.written begins.rest in omega (arith, taken, left, short, far, both, few)

    by : (d : Result Span Why) → grant_in (Reply.Send (reply_by d b)) ≡ Some grant → Is grant
    by (Ok span) is = subst Is (same (record { span = span; piece = part_of span b.written }) is) (span_so span)
      where
        same : (g : Grant) → Some g ≡ Some grant → g ≡ grant
        same g e = cc
    by (Err why) is = cc

-- ---- worlds

module _ (start : Start) (few_a : length start.file_a < 2 ^ 64) (few_b : length start.file_b < 2 ^ 64) where
  abbrev file : Side → List ℕ
  file s = pick s start.file_a start.file_b

  few : (s : Side) → length (file s) < 2 ^ 64
  few A = few_a
  few B = few_b

  abbrev pub PathPieces : PathState Carried → Type 0
  PathPieces p = (s : Side) → Every (IsPart p.profile s (file s)) (end_at s p).tcp.send.records

  abbrev pub MemberPieces : Actor Carried → Type 0
  MemberPieces (App a) = Unit {0}
  MemberPieces (Path p) = PathPieces p

  abbrev pub WorldPieces : WorldState Carried → Type 0
  WorldPieces w = (actor : ℕ) (c : ActorCrew Carried) → slice_get w.crew actor ≡ Some c → MemberPieces c.member

  abbrev BothBegin : SixBooks → Type 0
  BothBegin six = (s : Side) → IsPrefix (send_of s six).written (file s)

  later : (p q : PathState Carried) (s : Side) → q.profile ≡ p.profile → Every (IsPart p.profile s (file s)) (end_at s q).tcp.send.records → Every (IsPart q.profile s (file s)) (end_at s q).tcp.send.records
  later p q s same h = subst (λ (c : Profile). Every (IsPart c s (file s)) (end_at s q).tcp.send.records) (sym same) h

  takes_so : (six : SixBooks) (m : Actor Carried) (x : Ask) → BothBegin six → member_asks values m ≡ Some x → MemberPieces m → MemberPieces (member_takes values (reply_of six x) m)
  takes_so six (App a) x begins asks h = tt
  takes_so six (Path p) x begins asks h = λ s.
      later p (takes values (reply_of six x) p) s (takes_keeps values (reply_of six x) p).1
      (takes_at (IsPart p.profile s (file s)) (any p.profile s (file s)) (ends_so p.profile s (file s)) s (reply_of six x) p (λ ds same none grant granted. given s ds same none grant granted) (h s))
    where
      some_is : {X : Type 0} (a b : X) → Some a ≡ Some b → a ≡ b
      some_is a b e = cc

      -- what is asked is a grant
      ask_is : (s : Side) (ds : List Duty) → p.agenda ≡ Duty.Step (StepDuty.Data s) ∷ ds → first_unsent (end_at s p) ≡ None → grant_ask s p ≡ x
      ask_is s ds same none =
          some_is (grant_ask s p) x
          (ap (λ (o : Option Record). Some (data_ask values s o p)) (sym none) ∙ ap (λ (todo : List Duty). asks_first values todo p) (sym same) ∙ asks)

      given : (s : Side) (ds : List Duty) → p.agenda ≡ Duty.Step (StepDuty.Data s) ∷ ds → first_unsent (end_at s p) ≡ None → (grant : Grant) → grant_in (reply_of six x) ≡ Some grant
          → grant.piece ≡ take (length grant.piece) (drop (place_numbered p.profile s (mapping_of p.profile s grant.span.from (end_at s p).tcp.send.nxt grant.piece).number) (file s))
      given s ds same none grant granted =
          granted_so p.profile s (send_of s six) (file s) (begins s) (few s) _ _ (end_at s p).tcp.send.nxt _ grant
          (ap (λ (y : Ask). grant_in (reply_of six y)) (ask_is s ds same none) ∙ granted)

  next_so : (m : Actor Carried) → MemberPieces m → MemberPieces (member_next m)
  next_so (App a) h = tt
  next_so (Path p) h = λ s.
      later p (next_round p) s (next_profile p)
      (kept_at (IsPart p.profile s (file s)) (any p.profile s (file s)) (ends_so p.profile s (file s)) s p (next_round p)
      (next_kept (IsPart p.profile s (file s)) (any p.profile s (file s)) (ends_so p.profile s (file s)) p) (h s))

  turn_pieces : (turn : Turn) (w : WorldState Carried) → BothBegin (books_in w.books) → WorldPieces w → WorldPieces (after_turn values turn w)
  turn_pieces turn w begins_so h =
      turn_so values WorldPieces turn w h
      (λ actor c x there is i d at.
      ⊎_elim
      (λ here. subst (λ (y : ActorCrew Carried). MemberPieces y.member) here.1 (takes_so (books_in w.books) c.member x begins_so is (h actor c there)))
      (λ other. h i d other.1)
      (in_set w.crew actor (crew_after values x w.books c) i d at))
      (λ over i d at.
      let found = in_map (begins (greatest 0 w.crew)) w.crew i d at in
      subst (λ (y : ActorCrew Carried). MemberPieces y.member) found.2 (next_so found.0.member (h i found.0 found.1)))

  run_pieces : (turns : List Turn) (w : WorldState Carried) → ((more : List Turn) → BothBegin (books_in (world_run values more w).books)) → WorldPieces w → WorldPieces (world_run values turns w)
  run_pieces [] w ever h = h
  run_pieces (turn ∷ turns) w ever h = run_pieces turns (after_turn values turn w) (λ more. ever (turn ∷ more)) (turn_pieces turn w (ever []) h)

  opened_pieces : WorldPieces (opened_world start)
  opened_pieces = opened_actors (λ actor c. MemberPieces c.member) start tt tt
      (λ number plan there s.
      let p : PathState Carried = waiting_path (path_begins start number plan) start.lines in
      later p (begins_turn p) s (first_keeps p).1
      (kept_at (IsPart p.profile s (file s)) (any p.profile s (file s)) (ends_so p.profile s (file s)) s p (begins_turn p)
      (begins_lasts (Kept (IsPart p.profile s (file s)) (any p.profile s (file s)) (ends_so p.profile s (file s)))
      (lasts (IsPart p.profile s (file s)) (any p.profile s (file s)) (ends_so p.profile s (file s))) p) (first s number plan)))
    where
      first : (s : Side) (number : ℕ) (plan : PathPlan) → Every (IsPart (path_begins start number plan).profile s (file s)) (end_at s (waiting_path {C = Carried} (path_begins start number plan) start.lines)).tcp.send.records
      first A number plan = Every-push {xs = []} _ (Every-nil (IsPart (path_begins start number plan).profile A (file A))) tt
      first B number plan = Every-push {xs = []} _ (Every-nil (IsPart (path_begins start number plan).profile B (file B))) tt

  pub always_pieces : (turns : List Turn) → WorldPieces (world_run values turns (opened_world start))
  always_pieces turns = run_pieces turns (opened_world start) begin opened_pieces
    where
      begin : (more : List Turn) (s : Side) → IsPrefix (send_of s (books_in (world_run values more (opened_world start)).books)).written (file s)
      begin more A = (writes_the_files values start more).a.prefix
      begin more B = (writes_the_files values start more).b.prefix
