-- At each moment of a run that never falls back a segment of A's that maps octets or tells a DATA_FIN comes behind one of A's on path 0 that shows both keys.
use Rattle.std.proofs.Common.{◌≡◌, refl, sym, ap, ◌∙◌, subst, ℕ, suc, ◌⊎◌, ⊎_elim, nat_lt, Bool, true, false, Option, Some, None, is_some, List, [], ◌∷◌, ◌++◌, length, ◌<◌, arith}
use Rattle.std.specs.List.{list_any, slice_get}
use Rattle.std.specs.Option.{IfSome}
use Rattle.std.proofs.lemmas.Bool.{both_ways, false≢true}
use Rattle.std.proofs.lemmas.Option.{same_Some, slice_get_within}
use Rattle.actor_desk.specs.Books.{books_in}
use Rattle.actor_desk.specs.Desk.{SixBooks}
use Rattle.path_core.specs.Choices.{is_side_a}
use Rattle.path_core.specs.End.{PathEnd}
use Rattle.path_core.specs.Looking.{first_sends, segment_sent}
use Rattle.path_core.specs.MpJoin.{is_joined}
use Rattle.path_core.specs.Octets.{octets}
use Rattle.path_core.specs.Said.{said_by}
use Rattle.path_core.specs.Shown.{shown_path}
use Rattle.path_core.specs.State.{PathState, end_at, path_of}
use Rattle.path_core.specs.Values.{Carried}
use Rattle.path_agenda.specs.declared.duty.Duty.{Duty}
use Rattle.path_segments.specs.Spelled.{PlainSegment}
use Rattle.sides.specs.declared.side.Side.TheVariants.{A, B}
use Rattle.sides.specs.declared.side.Side.{Side}
use Rattle.stream_lanes.proofs.Lists.{Every-map, in_map}
use Rattle.stream_lanes.specs.Words.{Every}
use Rattle.subflow_send.specs.declared.record.RecordKind.TheVariants.{Data, Fin, Syn}
use Rattle.subflow_send.specs.declared.record.RecordKind.{RecordKind}
use Rattle.world_laws.proofs.Joins.TokensAgree.{opened_met, run_met}
use Rattle.world_laws.proofs.Keys.ToldAreOwn.{HasPeerKey, NoMore, PathKnows}
use Rattle.world_laws.proofs.Promises.Made.{run_fresh}
use Rattle.world_laws.proofs.Lanes.OfAWorld.{MemberIsSteady}
use Rattle.world_laws.proofs.Worlds.Steady.{always_steady}
use Rattle.world_laws.specs.Actors.{Actor, ActorCrew}
use Rattle.world_laws.specs.Fresh.{shown_crew, shown_member}
use Rattle.world_laws.specs.NeverFalls.{IsWhole}
use Rattle.world_laws.specs.Openings.{Start, opened_world}
use Rattle.world_laws.specs.Promises.{IsPlain, NumbersFit}
use Rattle.world_laws.specs.Worlds.{Turn, WorldState, world_run}
use Rattle.world_laws.specs.declared.member.Member.TheVariants.{App, Path}
use Rattle.own_runs.specs.KeysShown.{bears_option}
use Rattle.own_runs.proofs.BearsKnow.{ack_bears, first_bears}
use Rattle.own_runs.proofs.BookMoments.{always_book, numbered, second, world}
use Rattle.own_runs.proofs.CameSent.{path_at}
use Rattle.own_runs.proofs.KeyMoments.{DueAt, MemberSo, always_so}
use Rattle.own_runs.proofs.KeyNext.{acking}
use Rattle.own_runs.proofs.KeyRuns.{TurnSays}
use Rattle.own_runs.proofs.KeyedPieces.{EndBears, HasKey, KindNeeds, MayBear, MemberKeyed, Needs, always_bear, more}
use Rattle.own_runs.proofs.KeysSent.{ShowsKeys}
use Rattle.own_runs.proofs.Moments.{MemberAlso, MemberSpeaks, PathAlso, PathSpeaks, WorldAlso, end_shown, first_same, valued}
use Rattle.own_runs.proofs.Speaking.{ToSend}
use Rattle.own_runs.proofs.WasSent.{Known, always_known}

path_same : {x y : PathState Carried} → (let one : Actor Carried = Path x in one) ≡ Path y → x ≡ y
path_same e = cc

-- A's end has the key, and on a path that joins it may send a DSS
abbrev Ready : PathState Carried → Type 0
Ready p = (is_joined p.profile ≡ false → HasKey p.a) × (is_joined p.profile ≡ true → p.a.modes.clear ≡ true)

abbrev At : PathState Carried → Side → Type 0
At p s = is_side_a s ≡ true → Ready p

-- a segment of A's that needs the key is sent where that is so
sends_ready : (p : PathState Carried) → MemberSo (Path p) → EndBears p → (t : ToSend) → first_sends p.agenda p ≡ Some t → t.from ≡ A → list_any bears_option (segment_sent p t).options ≡ true → Ready p
sends_ready p so bears t next of_a is =
    ⊎_elim (λ none. absurd (both_ways _ none is)) (λ ready. ready (ap is_side_a of_a))
    (subst (λ (o : Option ToSend). IfSome o (λ u. (list_any bears_option (segment_sent p u).options ≡ false) ⊎ At p u.from)) next (first_bears (At p) p clear records p.agenda))
  where
    clear : (s : Side) → (end_at s p).modes.clear ≡ true → At p s
    clear A c = λ own. (λ first. (so.1 first).1 c, λ joins. c)
    clear B c = λ own. absurd (false≢true own)

    records : (s : Side) → Every (Needs (At p s)) (end_at s p).tcp.send.records
    records A = Every-map (more (MayBear p) (At p A) (λ may own. (λ first. may.0, may.1))) bears
    records B = record { each = λ i r at. by r.kind }
      where
        by : (kind : RecordKind) → KindNeeds (At p B) kind
        by Data = λ own. absurd (false≢true own)
        by Syn = tt
        by Fin = tt

keyed_so : (key_a key_b : ℕ) (six : SixBooks) (p : PathState Carried) → PathKnows key_a key_b true NoMore six p → is_joined p.profile ≡ false → HasKey p.a → HasPeerKey six A
keyed_so key_a key_b six p knows first has = by p.a.modes.peer_key has (knows.is.a.modes.keyed first)
  where
    by : (o : Option ℕ) → is_some o ≡ true → IfSome o (λ key. HasPeerKey six A) → HasPeerKey six A
    by None some is = absurd (false≢true some)
    by (Some key) some is = is

module _ (start : Start) (plain : IsPlain start) (whole : IsWhole start) (fit : NumbersFit start) (K : List Turn → Type 0) (grows : (before : List Turn) (turn : Turn) → K before → K (before ++ turn ∷ []))
    (now : (before : List Turn) (turn : Turn) → TurnSays A ShowsKeys turn (world start plain whole fit before) → K (before ++ turn ∷ [])) (turns : List Turn) where
  abbrev w : WorldState Carried
  w = world start plain whole fit turns

  abbrev six : SixBooks
  six = books_in w.books

  abbrev MemberKnows : Actor Carried → Type 0
  MemberKnows (App a) = Unit {0}
  MemberKnows (Path p) = PathKnows start.key_a start.key_b true NoMore six p

  book : HasPeerKey six A → K turns ⊎ DueAt (K turns) w
  book = always_book start plain whole fit K grows now turns

  knows : (i : ℕ) (c : ActorCrew Carried) → slice_get w.crew i ≡ Some c → MemberKnows c.member
  knows i c there = (run_met start.key_a start.key_b turns (opened_world start) (opened_met start)).keys.crew.each i c there

  same_path : (c : ActorCrew Carried) → slice_get w.crew 2 ≡ Some c → (p : PathState Carried) → c.member ≡ Path p → (d : DueAt (K turns) w) → d.path ≡ p
  same_path c there p is d = path_same (sym d.member ∙ ap (λ (y : ActorCrew Carried). y.member) (same_Some d.crew c (sym d.there ∙ there)) ∙ is)

  -- where A may send a DSS on path 0
  clear_key : (c : ActorCrew Carried) → slice_get w.crew 2 ≡ Some c → (p : PathState Carried) → c.member ≡ Path p → is_joined p.profile ≡ false → p.a.modes.clear ≡ true → K turns
  clear_key c there p is first clear =
      ⊎_elim (λ k. k) (λ (d : DueAt (K turns) w). d.due.clear (subst (λ (q : PathState Carried). q.a.modes.clear ≡ true) (sym (same_path c there p is d)) clear))
      (book (keyed_so start.key_a start.key_b six p (subst MemberKnows is (knows 2 c there)) first ((so.1 first).1 clear)))
    where
      so : MemberSo (Path p)
      so = subst MemberSo is (always_so start plain whole turns 2 c there)

  -- the path that opens the connection
  first_key : (c : ActorCrew Carried) → slice_get w.crew 2 ≡ Some c → (p : PathState Carried) → c.member ≡ Path p → is_joined p.profile ≡ false → HasKey p.a
      → (t : ToSend) → first_sends p.agenda p ≡ Some t → list_any bears_option (segment_sent p t).options ≡ true → K turns
  first_key c there p is first has t next bears =
      ⊎_elim (λ k. k)
      (λ (d : DueAt (K turns) w).
      let same = same_path c there p is d in
      ⊎_elim (λ live. absurd (none (sym (ap (λ (ds : List Duty). first_sends ds p) (sym (ap (λ (q : PathState Carried). q.agenda) same) ∙ live)) ∙ next)))
      (λ acks. acked (sym (ap (λ (q : PathState Carried). q.agenda) same) ∙ acks)) d.due.shape)
      (book (keyed_so start.key_a start.key_b six p (subst MemberKnows is (knows 2 c there)) first has))
    where
      none : (let nothing : Option ToSend = None in nothing) ≡ Some t → ⊥
      none e = cc

      acked : p.agenda ≡ acking → K turns
      acked acks = by p.a.modes.clear refl
        where
          by : (b : Bool) → p.a.modes.clear ≡ b → K turns
          by true clear = clear_key c there p is first clear
          by false unclear =
              ⊎_elim (λ quiet. absurd (both_ways _ quiet bears)) (λ never. absurd never)
              (subst (λ (u : ToSend). (list_any bears_option (segment_sent p u).options ≡ false) ⊎ ⊥) (same_Some _ t (sym (ap (λ (ds : List Duty). first_sends ds p) acks) ∙ next))
              (ack_bears (λ s. ⊥) p.profile A p.a (λ clear. both_ways _ unclear clear) None))

  -- a path that joins: A's side joined where A may send a DSS on path 0
  joined_key : (i : ℕ) (c : ActorCrew Carried) → slice_get w.crew i ≡ Some c → (p : PathState Carried) → c.member ≡ Path p → is_joined p.profile ≡ true → p.a.modes.clear ≡ true → K turns
  joined_key i c there p is joins clear =
      let zero = path_at start plain fit turns k 0 some in
      let speaks : PathSpeaks start zero.2 = subst (MemberSpeaks start) zero.3 (valued start turns plain.size fit 2 zero.0 zero.1) in
      let at : 2 ≡ suc (suc (path_of zero.2)) = numbered start plain whole fit turns 2 zero.0 zero.1 zero.2 zero.3 in
      let none : path_of zero.2 ≡ 0 = omega (arith, at) in
      let first : is_joined zero.2.profile ≡ false = ap is_joined speaks.4 ∙ ap (nat_lt 0) (sym speaks.3 ∙ none) in
      clear_key zero.0 zero.1 zero.2 zero.3 first ((subst (MemberIsSteady six 0) zero.3 ((always_steady start turns).each 0 zero.0 zero.1)).clear refl (known.is.a.modes.cleared joins clear))
    where
      k : Known start plain fit turns
      k = always_known start plain fit turns

      known : PathKnows start.key_a start.key_b true NoMore six p
      known = subst MemberKnows is (knows i c there)

      some : 0 < length start.paths
      some = let s : PathSpeaks start p = subst (MemberSpeaks start) is (valued start turns plain.size fit i c there) in let within = slice_get_within start.paths s.0 s.1 s.2 in omega (arith, within)

  abbrev pub NeedsKey : ℕ → Side → PlainSegment → Type 0
  NeedsKey path s sg = s ≡ A → list_any bears_option sg.options ≡ true → K turns

  path_key : (i : ℕ) (c : ActorCrew Carried) → slice_get w.crew i ≡ Some c → (p : PathState Carried) → c.member ≡ Path p → PathAlso NeedsKey p
  path_key i c there p is = by (first_sends p.agenda p) refl
    where
      so : MemberSo (Path p)
      so = subst MemberSo is (always_so start plain whole turns i c there)

      bears : EndBears p
      bears = subst (MemberKeyed start) is (always_bear start plain whole turns i c there)

      by : (o : Option ToSend) → first_sends p.agenda p ≡ o → IfSome o (λ t. NeedsKey (path_of p) t.from (segment_sent p t))
      by None next = tt
      by (Some t) next = λ of_a need. of_path (is_joined p.profile) refl (sends_ready p so bears t next of_a need) need
        where
          of_path : (b : Bool) → is_joined p.profile ≡ b → Ready p → list_any bears_option (segment_sent p t).options ≡ true → K turns
          of_path true joins ready need = joined_key i c there p is joins (ready.1 joins)
          of_path false first ready need =
              first_key c (subst (λ (j : ℕ). slice_get w.crew j ≡ Some c) (second start plain whole fit turns i c there p is first) there) p is first (ready.0 first) t next need

  path_shown : (p : PathState Carried) → PathAlso NeedsKey p → PathAlso NeedsKey (shown_path p)
  path_shown p s = subst (λ (o : Option ToSend). IfSome o Shown) (sym (first_same p.agenda p)) (by (first_sends p.agenda p) s)
    where
      Shown : ToSend → Type 0
      Shown = λ t. NeedsKey (path_of p) t.from (segment_sent (shown_path p) t)

      by : (o : Option ToSend) → IfSome o (λ t. NeedsKey (path_of p) t.from (segment_sent p t)) → IfSome o Shown
      by None said = tt
      by (Some t) said = subst (λ (e : PathEnd). NeedsKey (path_of p) t.from (said_by t.kind p.profile t.from e)) (end_shown t.from p) said

  -- so it is with what is sent next
  pub key_at : WorldAlso NeedsKey (world_run octets turns (opened_world start))
  key_at =
      subst (λ (v : WorldState (List ℕ)). WorldAlso NeedsKey v) (sym (run_fresh start turns plain.size fit))
      (λ i c at.
      let found = in_map shown_crew w.crew i c at in
      subst (λ (y : ActorCrew (List ℕ)). MemberAlso NeedsKey y.member) found.2 (member found.0.member i found.0 found.1 refl))
    where
      member : (m : Actor Carried) (i : ℕ) (c : ActorCrew Carried) → slice_get w.crew i ≡ Some c → c.member ≡ m → MemberAlso NeedsKey (shown_member m)
      member (App a) i c there is = tt
      member (Path p) i c there is = path_shown p (path_key i c there p is)
