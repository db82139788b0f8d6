-- At each moment of a run an end that has octets to send is dead, or its path stands at the control book of its side.
use Rattle.std.proofs.Common.{◌≡◌, refl, sym, subst, ℕ, suc, ◌⊎◌, inl, inr, ⊎_elim, Bool, true, false, Some, List, [], ◌∷◌, zero, append-nil, arith}
use Rattle.std.specs.List.{slice_get}
use Rattle.std.proofs.lemmas.Bool.{false≢true}
use Rattle.actor_desk.specs.Books.{books_in}
use Rattle.actor_desk.specs.Desk.{control_of}
use Rattle.control_book.specs.Registry.{stands}
use Rattle.path_core.specs.Profile.{Profile}
use Rattle.path_core.specs.Standing.{is_connected}
use Rattle.path_core.specs.State.{PathState, end_at, path_of}
use Rattle.path_core.specs.Values.{Carried, values}
use Rattle.sides.specs.declared.side.Side.TheVariants.{A, B}
use Rattle.sides.specs.declared.side.Side.{Side}
use Rattle.stream_lanes.specs.Lane.{Cell, DataCopy}
use Rattle.stream_lanes.specs.Words.{Every}
use Rattle.subflow_send.specs.Records.{Record}
use Rattle.subflow_send.specs.declared.record.RecordKind.TheVariants.{Data, Fin, Syn}
use Rattle.subflow_send.specs.declared.record.RecordKind.{RecordKind}
use Rattle.subflow_tcp.specs.Emitting.{is_syn}
use Rattle.subflow_tcp.specs.States.{is_dead}
use Rattle.subflow_tcp.specs.declared.handshake.State.{State as EndPhase}
use Rattle.world_laws.proofs.Lanes.OfAWorld.{WorldShows, anyhow, anyhow_free, free_run}
use Rattle.world_laws.proofs.Lanes.Showing.{KindShows, RecordShows, is_unfinished}
use Rattle.world_laws.proofs.Worlds.CastLifting.{each_actor}
use Rattle.world_laws.specs.Actors.{Actor, ActorCrew}
use Rattle.world_laws.specs.Openings.{Start, opened_world}
use Rattle.world_laws.specs.Promises.{HasRoom, NumbersFit}
use Rattle.world_laws.specs.Worlds.{Turn, WorldState, world_run}
use Rattle.world_laws.specs.declared.member.Member.TheVariants.{App, Path}
use Rattle.own_runs.proofs.Leaving.{is_up}
use Rattle.own_runs.proofs.OpeningEnds.{OneSyn, is_before}
use Rattle.own_runs.proofs.OpeningRuns.{MemberOpens, opens_at}
use Rattle.own_runs.proofs.Reached.{run_reaches, duo_at}
use Rattle.own_runs.proofs.StandsEver.{MemberOnes, MemberStands, Numbered, Ones, always_stands}
use Rattle.own_runs.proofs.StandsWorld.{PathOnes}

-- no octets are to be sent on the path, or the end is dead, or the path stands at its side's control book
abbrev pub SettledAt : WorldState Carried → Type 0
SettledAt w = (s : Side) (n : ℕ) (c : ActorCrew Carried) (p : PathState Carried) → slice_get w.crew (suc (suc n)) ≡ Some c → c.member ≡ Path p
    → Every (λ (r : Record). r.piece ≡ []) (end_at s p).tcp.send.records ⊎ ((is_dead (end_at s p).tcp.state ≡ true) ⊎ (stands (control_of s (books_in w.books)).paths n ≡ true))

-- ---- an end that isn't connected yet

abbrev Bare : Record → Type 0
Bare r = is_syn r.kind ≡ true → r.piece ≡ []

bare_kind : (c : Profile) (s : Side) (alters : Bool) (sent : List Cell) (datas : List DataCopy) (fins : List ℕ) (kind : RecordKind) (r : Record) → KindShows c s alters sent datas fins kind r → is_syn kind ≡ true → r.piece ≡ []
bare_kind c s alters sent datas fins Syn r shows is = shows
bare_kind c s alters sent datas fins Data r shows is = absurd (false≢true is)
bare_kind c s alters sent datas fins Fin r shows is = absurd (false≢true is)

bare_all : (c : Profile) (s : Side) (alters : Bool) (sent : List Cell) (datas : List DataCopy) (fins : List ℕ) (rs : List Record) → Every (RecordShows c s alters sent datas fins) rs → Every Bare rs
bare_all c s alters sent datas fins rs shows = record { each = λ i r at. bare_kind c s alters sent datas fins r.kind r (shows.each i r at) }

syn_bare : (rs : List Record) → OneSyn rs → Every Bare rs → Every (λ (r : Record). r.piece ≡ []) rs
syn_bare [] one bare = absurd one
syn_bare (r ∷ x ∷ rs) one bare = absurd one
syn_bare (r ∷ []) one bare = record { each = each }
  where
    each : (i : ℕ) (y : Record) → slice_get (r ∷ []) i ≡ Some y → y.piece ≡ []
    each zero y at = (let same : r ≡ y = cc in subst (λ (z : Record). z.piece ≡ []) same (bare.each 0 r refl one))
    each (suc i) y at = cc

before_is : (state : EndPhase) → is_connected state ≡ false → is_unfinished state ≡ true → is_before state ≡ true
before_is EndPhase.Waiting none is = refl
before_is EndPhase.Listen none is = refl
before_is EndPhase.SynSent none is = refl
before_is EndPhase.SynReceived none is = refl
before_is EndPhase.Dead none is = absurd (false≢true is)
before_is _ none is = absurd (false≢true (sym none))

dead_is : (state : EndPhase) → is_connected state ≡ false → is_unfinished state ≡ false → is_dead state ≡ true
dead_is EndPhase.Dead none is = refl
dead_is EndPhase.Waiting none is = absurd (false≢true (sym is))
dead_is EndPhase.Listen none is = absurd (false≢true (sym is))
dead_is EndPhase.SynSent none is = absurd (false≢true (sym is))
dead_is EndPhase.SynReceived none is = absurd (false≢true (sym is))
dead_is _ none is = absurd (false≢true (sym none))

abbrev MemberBare : Actor Carried → Type 0
MemberBare (App a) = Unit {0}
MemberBare (Path p) = Every Bare p.a.tcp.send.records × Every Bare p.b.tcp.send.records

module _ (start : Start) (size : HasRoom start) (fit : NumbersFit start) where
  bare_at : (turns : List Turn) (i : ℕ) (c : ActorCrew Carried) → slice_get (world_run values turns (opened_world start)).crew i ≡ Some c → MemberBare c.member
  bare_at turns =
      let can = anyhow start size in
      let reached = run_reaches start can turns (free_run can.links (anyhow_free start size) turns (opened_world start)) in
      let q = (reached.1 turns [] (append-nil turns)).0 in
      let h : WorldShows can.links start (duo_at start can (world_run values turns (opened_world start)) q) (world_run values turns (opened_world start)) = q.shows in
      subst (λ (w : WorldState Carried). (i : ℕ) (c : ActorCrew Carried) → slice_get w.crew i ≡ Some c → MemberBare c.member) (sym h.is)
      (each_actor (λ i c. MemberBare c.member) h.cast tt tt (λ n x at.
      let there = h.paths.each n n x (omega arith) at in (
        bare_all _ A there.ab.alters there.ab.sent there.ab.datas there.ab.fins x.path.a.tcp.send.records there.shows.a.sender.pieces,
        bare_all _ B there.ba.alters there.ba.sent there.ba.datas there.ba.fins x.path.b.tcp.send.records there.shows.b.sender.pieces,
      )))

  ones_at : (turns : List Turn) → Ones (world_run values turns (opened_world start))
  ones_at turns i c at = by c.member (opens_at start size fit turns i c at) (bare_at turns i c at)
    where
      by : (m : Actor Carried) → MemberOpens start size fit turns m → MemberBare m → MemberOnes m
      by (App a) opens bare = tt
      by (Path p) opens bare = ones
        where
          ones : PathOnes p
          ones A none is = syn_bare p.a.tcp.send.records (opens.0.still_a.syns (before_is p.a.tcp.state none is)) bare.0
          ones B none is = syn_bare p.b.tcp.send.records (opens.0.still_b.syns (before_is p.b.tcp.state none is)) bare.1

pub settled_at : (start : Start) (turns : List Turn) → HasRoom start → NumbersFit start → SettledAt (world_run values turns (opened_world start))
settled_at start turns size fit s n c p at is = by (is_up (end_at s p)) refl
  where
    w : WorldState Carried
    w = world_run values turns (opened_world start)

    Now : Type 0
    Now = Every (λ (r : Record). r.piece ≡ []) (end_at s p).tcp.send.records ⊎ ((is_dead (end_at s p).tcp.state ≡ true) ⊎ (stands (control_of s (books_in w.books)).paths n ≡ true))

    by : (b : Bool) → is_up (end_at s p) ≡ b → Now
    by true up =
        let all = always_stands start fit.paths turns (ones_at start size fit) in
        let number = subst (Numbered (suc (suc n))) is (all.numbered (suc (suc n)) c at) in
        let h = subst (MemberStands (books_in w.books)) is (all.each (suc (suc n)) c at) in
        let same : path_of p ≡ n = (let it = number.0 in omega (arith, it)) in
        ⊎_elim (λ lives. inr (inr (subst (λ (k : ℕ). stands (control_of s (books_in w.books)).paths k ≡ true) same lives))) (λ owes. inl owes.1) (h.stand s up)
    by false none = other (is_unfinished (end_at s p).tcp.state) refl
      where
        ones : PathOnes p
        ones = subst MemberOnes is (ones_at start size fit turns (suc (suc n)) c at)

        other : (b : Bool) → is_unfinished (end_at s p).tcp.state ≡ b → Now
        other true is = inl (ones s none is)
        other false is = inr (inl (dead_is (end_at s p).tcp.state none is))
