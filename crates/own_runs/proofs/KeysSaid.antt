-- In the trace of a run that never falls back both keys are shown by A alone, on no SYN and no reset, and with data on path 0 alone.
use Rattle.std.proofs.Common.{◌≡◌, refl, sym, ap, ◌∙◌, subst, ℕ, inl, inr, ⊎_elim, nat_lt, ◌||◌, Bool, true, false, Option, Some, None, List, [], ◌∷◌, arith}
use Rattle.std.specs.List.{list_any}
use Rattle.std.specs.Option.{IfSome}
use Rattle.std.proofs.lemmas.Bool.{both_ways, false≢true, ltb-false, or_cases}
use Rattle.actor_desk.specs.Books.{books_in}
use Rattle.mptcp_options.specs.declared.capable.CapableKeys.TheVariants.{Both, NoKey, Sender, WithData}
use Rattle.path_core.specs.Looking.{first_sends, segment_sent}
use Rattle.path_core.specs.MpJoin.{is_joined}
use Rattle.path_core.specs.Octets.{octets}
use Rattle.path_core.specs.OptionsOut.{syn_options}
use Rattle.path_core.specs.Said.{said_by}
use Rattle.path_core.specs.Shown.{shown_path}
use Rattle.path_core.specs.State.{PathState, end_at, path_of}
use Rattle.path_core.specs.Turns.{FirstStands}
use Rattle.path_core.specs.Values.{Carried, values}
use Rattle.path_core.specs.End.{PathEnd}
use Rattle.path_segments.specs.Options.{PlainOption}
use Rattle.path_segments.specs.declared.segment.PathOption.TheVariants.{Capable}
use Rattle.sides.specs.declared.side.Side.TheVariants.{A, B}
use Rattle.sides.specs.declared.side.Side.{Side}
use Rattle.stream_lanes.proofs.Lists.{Every-map, in_map}
use Rattle.stream_lanes.specs.Words.{Every}
use Rattle.subflow_send.specs.declared.record.RecordKind.TheVariants.{Data, Fin, Syn}
use Rattle.subflow_send.specs.declared.record.RecordKind.{RecordKind}
use Rattle.world_laws.proofs.Joins.TokensAgree.{opened_met, run_met}
use Rattle.world_laws.proofs.Keys.ToldAreOwn.{NoMore, PathKnows}
use Rattle.world_laws.proofs.Promises.Made.{run_fresh}
use Rattle.world_laws.proofs.Whole.Falls.{MemberUpright, PathUpright, each_upright}
use Rattle.world_laws.specs.Actors.{Actor, ActorCrew}
use Rattle.world_laws.specs.Fresh.{shown_crew, shown_member}
use Rattle.world_laws.specs.NeverFalls.{IsWhole}
use Rattle.world_laws.specs.Openings.{Start, opened_world}
use Rattle.world_laws.specs.Promises.{IsPlain, NumbersFit}
use Rattle.world_laws.specs.Worlds.{Turn, WorldState, world_run}
use Rattle.world_laws.specs.declared.member.Member.TheVariants.{App, Path}
use Rattle.own_runs.specs.KeysShown.{EachShowsKeysSo, KeysShownSo, maps_key, shows_key, shows_keys}
use Rattle.own_runs.proofs.AnswersAsked.{Again, IsAsked, MemberAgain, always_again}
use Rattle.own_runs.proofs.AnswersShow.{first_asked, syn_shows}
use Rattle.own_runs.proofs.KeyedPieces.{EndBears, KindNeeds, MayBear, MemberKeyed, Needs, always_bear, more}
use Rattle.own_runs.proofs.KeysShown.{IsClear, Shows, first_shows}
use Rattle.own_runs.proofs.Moments.{MemberAlso, MemberKnown, MemberSpeaks, PathAlso, PathSpeaks, Spoken, WorldAlso, crew_known, end_shown, first_same, trace_spoken, valued}
use Rattle.own_runs.proofs.Speaking.{ToSend}

-- ---- a segment

maps_one : (o : PlainOption) → maps_key o ≡ true → shows_keys o ≡ true
maps_one (Capable flag_a flag_c (WithData sender receiver len checksum)) is = refl
maps_one (Capable flag_a flag_c (Both sender receiver)) is = refl
maps_one (Capable flag_a flag_c NoKey) is = absurd (false≢true is)
maps_one (Capable flag_a flag_c (Sender sender)) is = absurd (false≢true is)
maps_one _ is = absurd (false≢true is)

pub maps_some : (os : List PlainOption) → list_any maps_key os ≡ true → list_any shows_keys os ≡ true
maps_some [] is = absurd (false≢true is)
maps_some (o ∷ os) is = ⊎_elim (λ here. here_so o (maps_one o here)) (λ later. later_so (shows_keys o) (maps_some os later)) (or_cases (maps_key o) (list_any maps_key os) is)
  where
    here_so : (o : PlainOption) → shows_keys o ≡ true → list_any shows_keys (o ∷ os) ≡ true
    here_so o is = ap (λ (b : Bool). b || list_any shows_keys os) is

    later_so : (b : Bool) → list_any shows_keys os ≡ true → b || list_any shows_keys os ≡ true
    later_so true is = refl
    later_so false is = is

-- ---- a path

-- what is known of it
pub record PathSo (p : PathState Carried) : Type 0 where
  pub bears : EndBears p
  pub upright : PathUpright p
  pub again : is_joined p.profile ≡ false → Again p
  pub answers : (s : Side) → IfSome (end_at s p).treated.answer (λ o. o.syn ≡ false)
  pub stand : FirstStands p.agenda p

module _ (start : Start) (p : PathState Carried) (speaks : PathSpeaks start p) (h : PathSo p) where
  zero_so : is_joined p.profile ≡ false → path_of p ≡ 0
  zero_so first = by (path_of p) (sym (ap is_joined speaks.4 ∙ ap (nat_lt 0) (sym speaks.3)) ∙ first)
    where
      by : (n : ℕ) → nat_lt 0 n ≡ false → n ≡ 0
      by n none = let low = ltb-false 0 n none in omega (arith, low)

  records : (s : Side) → Every (Needs (IsClear p.profile s (end_at s p))) (end_at s p).tcp.send.records
  records A = Every-map (more (MayBear p) (IsClear p.profile A p.a) (λ may own joins. may.1 joins)) h.bears
  records B = record { each = λ i r at. by r.kind }
    where
      by : (kind : RecordKind) → KindNeeds (IsClear p.profile B p.b) kind
      by Data = λ own joins. absurd (false≢true own)
      by Syn = tt
      by Fin = tt

  keys_so : (t : ToSend) → Shows p.profile t.from (segment_sent p t)
      → (list_any shows_keys (segment_sent p t).options ≡ true → (t.from ≡ A) × ((segment_sent p t).syn ≡ false) × ((segment_sent p t).rst ≡ false)) × (list_any maps_key (segment_sent p t).options ≡ true → path_of p ≡ 0)
  keys_so t (inl none) = (λ is. absurd (both_ways _ none is), λ is. absurd (both_ways _ none (maps_some (segment_sent p t).options is)))
  keys_so t (inr so) = (λ is. (so.2.side, so.0, so.1), λ is. zero_so (so.2.first is))

  -- B's answer
  answer_so : (t : ToSend) → first_sends p.agenda p ≡ Some t → t.from ≡ B → path_of p ≡ 0 → (segment_sent p t).syn ≡ true → list_any shows_key (segment_sent p t).options ≡ true
  answer_so t next of_b zero syn =
      let first : is_joined p.profile ≡ false = ap is_joined speaks.4 ∙ ap (nat_lt 0) (sym speaks.3 ∙ zero) in
      let said = subst (λ (o : Option ToSend). IfSome o (λ u. Spoken start speaks.0 p.profile u.from (end_at u.from p) (segment_sent p u))) next speaks.5 in
      let asked = subst (λ (o : Option ToSend). IfSome o (λ u. u.from ≡ B → (segment_sent p u).syn ≡ true → IsAsked p)) next (first_asked p (h.upright.holds first) (h.again first) h.answers h.stand) in
      ap (list_any shows_key) (said.syn syn) ∙ shows first (asked of_b syn) t.from of_b
    where
      shows : is_joined p.profile ≡ false → IsAsked p → (s : Side) → s ≡ B → list_any shows_key (syn_options p.profile s (end_at s p)) ≡ true
      shows first asked A of_b = cc
      shows first asked B of_b = syn_shows p.profile p.b first asked (h.upright.identity B)

  path_shows : PathAlso KeysShownSo p
  path_shows = by (first_sends p.agenda p) refl (first_shows p records p.agenda)
    where
      by : (o : Option ToSend) → first_sends p.agenda p ≡ o → IfSome o (λ t. Shows p.profile t.from (segment_sent p t)) → IfSome o (λ t. KeysShownSo (path_of p) t.from (segment_sent p t))
      by None next shows = tt
      by (Some t) next shows = let keys = keys_so t shows in record { keys = keys.0; first = keys.1; shows = λ of_b zero syn. answer_so t next of_b zero syn }

path_shown : (p : PathState Carried) → PathAlso KeysShownSo p → PathAlso KeysShownSo (shown_path p)
path_shown p s = subst (λ (o : Option ToSend). IfSome o Shown) (sym (first_same p.agenda p)) (by (first_sends p.agenda p) s)
  where
    Shown : ToSend → Type 0
    Shown = λ t. KeysShownSo (path_of p) t.from (segment_sent (shown_path p) t)

    by : (o : Option ToSend) → IfSome o (λ t. KeysShownSo (path_of p) t.from (segment_sent p t)) → IfSome o Shown
    by None said = tt
    by (Some t) said = subst (λ (e : PathEnd). KeysShownSo (path_of p) t.from (said_by t.kind p.profile t.from e)) (end_shown t.from p) said

-- ---- a run

module _ (start : Start) (plain : IsPlain start) (whole : IsWhole start) (fit : NumbersFit start) (more_turns : List Turn) where
  abbrev w : WorldState Carried
  w = world_run values more_turns (opened_world start)

  abbrev MemberKnows : Actor Carried → Type 0
  MemberKnows (App a) = Unit {0}
  MemberKnows (Path p) = PathKnows start.key_a start.key_b true NoMore (books_in w.books) p

  member_shows : (m : Actor Carried) → MemberSpeaks start m → MemberKeyed start m → MemberUpright m → MemberAgain m → MemberKnown (books_in w.books) m → MemberKnows m → MemberAlso KeysShownSo (shown_member m)
  member_shows (App a) speaks bears upright again known knows = tt
  member_shows (Path p) speaks bears upright again known knows =
      path_shown p (path_shows start p speaks (record { bears = bears; upright = upright; again = again; answers = known.answers; stand = knows.settled }))

  pub shows_at : WorldAlso KeysShownSo (world_run octets more_turns (opened_world start))
  shows_at =
      subst (λ (w : WorldState (List ℕ)). WorldAlso KeysShownSo w) (sym (run_fresh start more_turns plain.size fit))
      (λ i c at.
      let found = in_map shown_crew w.crew i c at in
      subst (λ (y : ActorCrew (List ℕ)). MemberAlso KeysShownSo y.member) found.2
      (member_shows found.0.member (valued start more_turns plain.size fit i found.0 found.1) (always_bear start plain whole more_turns i found.0 found.1)
      ((each_upright start more_turns plain whole).each i found.0 found.1) (always_again start plain whole more_turns i found.0 found.1) (crew_known start more_turns plain.size fit i found.0 found.1)
      ((run_met start.key_a start.key_b more_turns (opened_world start) (opened_met start)).keys.crew.each i found.0 found.1)))

pub each_shows : EachShowsKeysSo
each_shows start turns plain whole fit i x is =
    let said = (trace_spoken KeysShownSo start turns plain.size fit (λ more later same. shows_at start plain whole fit more)).each i x is in
    record { spelling = _; segment = said.segment; octets = said.octets; shows = said.also }
