-- SND.UNA lies where a Data ACK says so, too, or right behind the SYN: what rises it has a Data ACK, which is heard in its turn.
use Rattle.std.proofs.Common.{◌≡◌, refl, sym, subst, ap, ◌∙◌, ◌⊎◌, inl, inr, ⊎_elim, ℕ, suc, ◌+◌, ◌^◌, ◌<◌, ◌≤◌, arith, ◌==◌, ◌&&◌, Bool, true, false, true≢false, if◌then◌else◌, Option, Some, is_some, IfSome, List, [], ◌∷◌, ◌++◌, length, map}
use Rattle.std.specs.List.{list_any, slice_get}
use Rattle.std.specs.Option.{option_map}
use Rattle.std.proofs.lemmas.List.{append-nil, append_assoc}
use Rattle.std.proofs.lemmas.Bool.{both_ways, cases_lt, eqb-true, and_parts}
use Rattle.std.proofs.lemmas.Option.{same_Some}
use Rattle.path_segments.specs.Heard.{HeardSegment}
use Rattle.path_segments.specs.Laws.{meant, meant_option}
use Rattle.path_segments.specs.Options.{PlainOption}
use Rattle.path_segments.specs.Spelled.{PlainSegment}
use Rattle.path_segments.specs.declared.position.HeardPosition.TheVariants.{At}
use Rattle.path_segments.specs.declared.segment.PathMapping.{PathMapping}
use Rattle.path_segments.specs.declared.segment.PathOption.TheVariants.{Dss}
use Rattle.sides.specs.declared.side.Side.{Side}
use Rattle.sides.specs.declared.side.Side.TheVariants.{A, B}
use Rattle.sides.specs.Side.{peer}
use Rattle.link_model.specs.declared.flight.Flight.{Flight}
use Rattle.link_model.specs.State.{LinkState}
use Rattle.link_model.specs.Steps.{next_number}
use Rattle.reassembly_book.specs.State.{received}
use Rattle.reassembly_book.specs.Steps.{next_wanted}
use Rattle.send_book.specs.State.{Sending, acked_len}
use Rattle.stream_apps.specs.Starts.{fast_close_of, first_app_turn}
use Rattle.stream_lanes.specs.Words.{Every}
use Rattle.subflow_send.specs.Records.{Record, SendState, end_of, occupied, span_of}
use Rattle.subflow_send.specs.declared.record.RecordKind.{RecordKind}
use Rattle.subflow_send.specs.declared.record.RecordKind.TheVariants.{Data, Fin, Syn}
use Rattle.subflow_tcp.specs.Judging.{meaning_of}
use Rattle.subflow_tcp.specs.States.{is_dead}
use Rattle.subflow_tcp.specs.declared.handshake.State.{State as EndPhase}
use Rattle.subflow_tcp.specs.declared.handshake.State.TheVariants as phase
use Rattle.subflow_tcp.specs.declared.segments.Outgoing.{Outgoing}
use Rattle.subflow_tcp.specs.declared.verdicts.Meaning.{Meaning}
use Rattle.subflow_tcp.specs.declared.verdicts.Meaning.TheVariants as means
use Rattle.actor_desk.specs.Books.{books_in}
use Rattle.actor_desk.specs.Desk.{reassembly_of}
use Rattle.path_agenda.specs.declared.duty.Duty.{Duty}
use Rattle.path_agenda.specs.declared.duty.Duty.TheVariants as duties
use Rattle.path_agenda.specs.declared.duty.StepDuty.TheVariants as step_duties
use Rattle.path_agenda.specs.declared.heard.Heard.TheVariants as says
use Rattle.path_core.specs.Arrival.{acknowledged_in, copy_of}
use Rattle.path_core.specs.Choices.{item_at}
use Rattle.path_core.specs.End.{PathEnd}
use Rattle.path_core.specs.Judged.{judged_of}
use Rattle.path_core.specs.Looking.{first_sends, segment_sent}
use Rattle.path_core.specs.MpJoin.{is_joined}
use Rattle.path_core.specs.OptionsIn.{has_data_ack, items_of, options_heard}
use Rattle.path_core.specs.Start.{waiting_path}
use Rattle.path_core.specs.State.{PathState, end_at}
use Rattle.path_core.specs.Steps.{begins_turn}
use Rattle.path_core.specs.Values.{Carried, as_arrived, carried_by, values}
use Rattle.path_core.specs.declared.judged.Judged.TheVariants as judged
use Rattle.world_laws.specs.declared.member.Member.TheVariants.{App, Path}
use Rattle.world_laws.specs.Actors.{Actor, ActorCrew}
use Rattle.world_laws.specs.Members.{HoldsOfKind}
use Rattle.world_laws.specs.Openings.{PathPlan, Start, new_crew, new_path, opened_world, path_begins, paths_from}
use Rattle.world_laws.specs.Outcomes.{notes_or, was_told}
use Rattle.world_laws.specs.Promises.{arrived_at, tells_refusal, written_by}
use Rattle.world_laws.specs.RoundDone.{reached}
use Rattle.world_laws.specs.Worlds.{Turn, WorldState, after_turn}
use Rattle.world_laws.proofs.Lanes.Records.{every_first, every_rest}
use Rattle.world_laws.proofs.Numbers.TellSmall.{AnswerTells}
use Rattle.world_laws.proofs.Promises.Made.{nothing_refused}
use Rattle.world_laws.proofs.Weaving.WholeRounds.{run_append}
use Rattle.world_laws.proofs.Whole.Bytes.{IsAbove, NoneBelow}
use Rattle.world_laws.proofs.Whole.Copies.{HeardIs}
use Rattle.world_laws.proofs.Whole.Ends.{MeansIs, means_so}
use Rattle.world_laws.proofs.Whole.Falls.{MemberUpright, PathUpright, each_upright}
use Rattle.world_laws.proofs.Whole.Happening.{Holds, is_between}
use Rattle.world_laws.proofs.Whole.Happening.Holds.{Next, Now}
use Rattle.world_laws.proofs.Whole.Paths.{CopyIs, CopyTo, PathIs}
use Rattle.world_laws.proofs.Writes.Steps.{begins_lasts}
use Rattle.whole_paths.specs.AckedData.{AreAckedAsBytes, FourRoundsAcknowledge, PositionsAreAckedAsBytes}
use Rattle.whole_paths.specs.AsFar.{IsActorAsFar, IsCrewAsFar, IsPathAsFar, stage}
use Rattle.whole_paths.specs.Brought.{Brings, IsTo}
use Rattle.whole_paths.specs.Came.{AcksUpTo, AcksWhatCame, HasCome}
use Rattle.whole_paths.specs.Clear.{IsPastIfClear}
use Rattle.whole_paths.specs.Copies.{IsUnderWay}
use Rattle.whole_paths.specs.DataAcks.{TellsWhatCame}
use Rattle.whole_paths.specs.DataAcks.{TellsWhatCame as tells}
use Rattle.whole_paths.specs.DataAcksHeard.{HearsDataAcks, IsHeard, IsToHear, PathsHear, StaysHeard}
use Rattle.whole_paths.specs.DataAcksHeard.{IsHeard as hearing}
use Rattle.whole_paths.specs.DataAcksHeard.{StaysHeard as stay}
use Rattle.whole_paths.specs.DataAcksNow.{KnowsWhatCame}
use Rattle.whole_paths.specs.DataLeft.{HasDataLeft}
use Rattle.whole_paths.specs.Delivery.{IsAllThere}
use Rattle.whole_paths.specs.Finish.{IsPathAt}
use Rattle.whole_paths.specs.Mild.{EndsGoByMappings, IsNeverBroken, IsUnbroken, LinkIsMild}
use Rattle.whole_paths.specs.OnePathScripts.{BeginsWithOnePath}
use Rattle.whole_paths.specs.OpeningStates.{GoByTheHandshake, IsOfB}
use Rattle.whole_paths.specs.OpeningStates.{IsOfB as of_b}
use Rattle.whole_paths.specs.PositionCounts.{CountsBytes}
use Rattle.whole_paths.specs.Saying.{SaysWhatCame}
use Rattle.whole_paths.specs.Saying.{SaysWhatCame as said}
use Rattle.whole_paths.specs.UnaSaid.{IsTakenNext, UnaFrom, UnasAreSaid}
use Rattle.whole_paths.specs.UnaSaid.{UnaFrom as una_from}
use Rattle.whole_paths.proofs.Arrivals.{sender_of}
use Rattle.whole_paths.proofs.Breaking.{never_breaks}
use Rattle.whole_paths.proofs.Came.{AllBoth, both_last, what_is_acknowledged_came}
use Rattle.whole_paths.proofs.Clearing.{clear_ends_are_past}
use Rattle.whole_paths.proofs.Copied.{CopiesWere, WasThere, each_copy_was_there}
use Rattle.whole_paths.proofs.Copied.{WasThere as was}
use Rattle.whole_paths.proofs.Copies.{LinkStays, links_last}
use Rattle.whole_paths.proofs.DataAcks.{each_segment_has_a_data_ack}
use Rattle.whole_paths.proofs.DataAcksHeard.{each_data_ack_counts, each_data_ack_is_said}
use Rattle.whole_paths.proofs.DataAcksNow.{each_data_ack_is_up_to_date}
use Rattle.whole_paths.proofs.DataLeft.{IsBegun, each_is_begun, what_is_left_is_data}
use Rattle.whole_paths.proofs.Exchanges.{Shown, each_shown, under_way}
use Rattle.whole_paths.proofs.Finishing.{MemberFinishes, turn_finishes}
use Rattle.whole_paths.proofs.GoesOn.{goes_on_so}
use Rattle.whole_paths.proofs.Handshaking.{PathMet, each_met}
use Rattle.whole_paths.proofs.Mild.{links_are_mild, mapping_is_kept}
use Rattle.whole_paths.proofs.OpenCourses.{IsFirstPath, each_first}
use Rattle.whole_paths.proofs.OpeningStates.{ends_go_by_the_handshake}
use Rattle.whole_paths.proofs.OpenPieces.{AgreesWith, EndsAgreeWith, ends_agree}
use Rattle.whole_paths.proofs.PositionCounts.{positions_count_bytes}
use Rattle.whole_paths.proofs.Reached.{EndsAreReached, Joined, Line, each_is_reached}
use Rattle.whole_paths.proofs.RecordWaits.{path_is}
use Rattle.whole_paths.proofs.Saying.{ToSend, duty_so}
use Rattle.whole_paths.proofs.SegmentRounds as segment_rounds
use Rattle.whole_paths.proofs.SegmentRounds.{four_rounds_tell, if_may}
use Rattle.whole_paths.proofs.Straying.{never_resets}
use Rattle.whole_paths.proofs.UnaSaid.{each_una_is_said}
use Rattle.whole_paths.proofs.RoundSteps.{IsPathThere, between, over_after, path_there, silent}

-- ---- what is said

-- none lies below a position before that
below_less : (n edge : ℕ) (v : SendState) → n ≤ edge → NoneBelow edge v → NoneBelow n v
below_less n edge v low h = record {
  reached = (let top = h.reached in omega (arith, low, top));
  above = record { each = λ i r is. ⊎_elim (λ empty. inl empty) (λ above. inr (omega (arith, above, low))) (h.above.each i r is) };
}

-- what a copy under way says to this side's end: as many bytes as positions, or nothing of bytes
data SaysAsMuch (s : Side) (p : PathState Carried) (x : PlainSegment) : Type 0 where
  of_reset : x.rst ≡ true → SaysAsMuch s p x
  of_syn : x.syn ≡ true → SaysAsMuch s p x
  -- the end sent its FIN, or its peer is dead
  past_fin : (end_at s p).tcp.send.finished ≡ true → SaysAsMuch s p x
  at_dead : is_dead (end_at (peer s) p).tcp.state ≡ true → SaysAsMuch s p x
  without : list_any has_data_ack (map meant_option x.options) ≡ false → SaysAsMuch s p x
  as_much : (next : ℕ) (mapping : Option (PathMapping ℕ)) (others : List PlainOption) → x.options ≡ Dss (Some next) mapping ∷ others → next < 2 ^ 62 → IfSome x.acknowledged (λ n. n ≤ suc next)
      → SaysAsMuch s p x

abbrev CopySays : PathState Carried → Flight Carried → Type 0
CopySays p f = SaysAsMuch f.to p (as_arrived f.carried)

-- SND.UNA lies right behind the SYN at most; or a Data ACK says as much, which counts, or is heard in its turn
data HasHeard (s : Side) (p : PathState Carried) : Type 0 where
  no_byte : (end_at s p).tcp.send.una ≤ 1 → HasHeard s p
  counted : (place : ℕ) → (end_at s p).tcp.send.una ≤ suc place → IsHeard s place false p → HasHeard s p

record Agrees (p : PathState Carried) : Type 0 where
  copies : Every (CopySays p) p.link.under_way
  ends : ((t : Side) → is_dead (end_at t p).tcp.state ≡ false) → (s : Side) → (end_at s p).tcp.send.finished ≡ false → HasHeard s p

module _ (start : Start) (plan : PathPlan) (x : BeginsWithOnePath start plan) where
  abbrev at : List Turn → WorldState Carried
  at turns = reached values start turns

  -- ---- a moment

  module _ (turns : List Turn) (p : PathState Carried) (here : IsPathAt 0 (at turns) p) where
    of_path : (P : PathState Carried → Type 0) → HoldsOfKind (λ app. Unit {0}) P here.crew.member → P p
    of_path P h = subst (HoldsOfKind (λ app. Unit {0}) P) here.is h

    pub first : IsFirstPath start p
    first = of_path (IsFirstPath start) (each_first start turns x.mild.plain.size here.crew here.there)

    is_reached : EndsAreReached p
    is_reached = of_path EndsAreReached ((each_is_reached values start turns).each 2 here.crew here.there)

    begun : (t : Side) → IsBegun (end_at t p).tcp
    begun = of_path (λ z. (t : Side) → IsBegun (end_at t z).tcp) ((each_is_begun values start turns).each 2 here.crew here.there)

    pub shown : Shown p
    shown = of_path Shown (each_shown start turns x.mild.plain.size x.mild.fit 2 here.crew here.there)

    left : HasDataLeft p
    left = of_path HasDataLeft (what_is_left_is_data start turns x.mild.plain.size x.mild.fit here.crew here.there)

    upright : PathUpright p
    upright = subst MemberUpright here.is ((each_upright start turns x.mild.plain x.mild.strips).each 2 here.crew here.there)

    met : PathMet p
    met = of_path PathMet ((each_met start x.mild turns).each here.crew here.there)

    past : IsPastIfClear p
    past = of_path IsPastIfClear (clear_ends_are_past values start turns 2 here.crew here.there)

    came : HasCome p
    came = of_path HasCome ((what_is_acknowledged_came start turns).each 2 here.crew here.there)

    states : GoByTheHandshake p
    states = of_path GoByTheHandshake ((ends_go_by_the_handshake values start turns).each 2 here.crew here.there)

    pub link : LinkIsMild start.lines p
    link = of_path (LinkIsMild start.lines) ((links_are_mild values start turns x.mild).each 2 here.crew here.there)

    pub mapped : EndsGoByMappings p
    mapped = of_path EndsGoByMappings ((mapping_is_kept start turns x.mild).each 2 here.crew here.there)

    unbroken : IsUnbroken p
    unbroken = of_path IsNeverBroken ((never_breaks start turns x.mild).each 2 here.crew here.there) first.first

    pub counts : (s : Side) → CountsBytes (at turns) p s
    counts = of_path (λ z. (s : Side) → CountsBytes (at turns) z s) ((positions_count_bytes start turns plan x.one x.mild).each 2 here.crew here.there)

    pub up_to_date : KnowsWhatCame (books_in (at turns).books) p
    up_to_date = of_path (KnowsWhatCame (books_in (at turns).books)) ((each_data_ack_is_up_to_date values start turns plan x.one).each 2 here.crew here.there)

    agree : EndsAgreeWith (at turns) p
    agree = of_path (EndsAgreeWith (at turns)) (ends_agree start turns x.mild.plain.size 2 here.crew here.there)

    -- ---- what has no Data ACK acknowledges no byte

    module _ (s : Side) (n : ℕ) (below : NoneBelow n (end_at s p).tcp.send) (unfinished : (end_at s p).tcp.send.finished ≡ false) (living : is_dead (end_at s p).tcp.state ≡ false)
        (more : (end_at s p).tcp.send.una < n) where
      abbrev v : SendState
      v = (end_at s p).tcp.send

      from_one : (rs : List Record) → Joined 1 v.nxt (map span_of rs) → Every (IsAbove n) rs → Every (λ (r : Record). r.kind ≡ Syn → r.pos ≡ 0) rs → Every (λ (r : Record). r.kind ≡ Fin → ⊥) rs → n ≤ 1
      from_one [] joined above zero kinds = let high = below.reached in omega (arith, joined, high)
      from_one (r ∷ rs) joined above zero kinds =
          by r.kind refl (λ ends. from_one rs (subst (λ m. Joined m v.nxt (map span_of rs)) ends joined.1) (every_rest r rs above) (every_rest r rs zero) (every_rest r rs kinds))
        where
          by : (kind : RecordKind) → r.kind ≡ kind → (end_of r ≡ 1 → n ≤ 1) → n ≤ 1
          by Syn is rest = absurd (let none = every_first r rs zero is in let one = joined.0 in omega (arith, none, one))
          by Fin is rest = absurd (every_first r rs kinds is)
          by Data is rest = ⊎_elim
              (λ empty. (let one = joined.0 in let size : end_of r ≡ r.pos + length r.piece = ap (λ k. r.pos + occupied k r.piece) is in rest (omega (arith, one, size, empty))))
              (λ low. (let one = joined.0 in omega (arith, low, one)))
              (every_first r rs above)

      abbrev OfRecords : List Record → Type 0
      OfRecords rs = v.records ≡ rs → Line v.una v.nxt (map span_of rs) → Every (IsAbove n) rs → Every (λ (r : Record). r.kind ≡ Syn → r.pos ≡ 0) rs → Every (λ (r : Record). r.kind ≡ Fin → ⊥) rs → n ≤ 1

      -- behind the handshake the first record is one of octets
      late : 3 ≤ stage (end_at s p).tcp.state → (rs : List Record) → OfRecords rs
      late high [] are line above zero kinds = absurd (let top = below.reached in omega (arith, line, top, more))
      late high (r ∷ rs) are line above zero kinds =
          let data_is = left s high living (inl unfinished) r rs are in let low = line.0 in let ends = data_is.left in
          let size : end_of r ≡ r.pos + length r.piece = ap (λ k. r.pos + occupied k r.piece) data_is.kind in
          absurd (⊎_elim (λ empty. omega (arith, empty, size, low, ends)) (λ above. omega (arith, above, low, more)) (every_first r rs above))

      -- before that it is the SYN
      early : stage (end_at s p).tcp.state ≤ 2 → (rs : List Record) → OfRecords rs
      early few [] are line above zero kinds = absurd (let top = below.reached in omega (arith, line, top, more))
      early few (r ∷ rs) are line above zero kinds = by r.kind refl
        where
          una : v.una ≡ 0
          una = (is_reached s).opening few

          by : (kind : RecordKind) → r.kind ≡ kind → n ≤ 1
          by Syn is =
              let none = every_first r rs zero is in let size : end_of r ≡ r.pos + 1 = ap (λ k. r.pos + occupied k r.piece) is in
              let ends : end_of r ≡ 1 = omega (arith, none, size) in from_one rs (subst (λ m. Joined m v.nxt (map span_of rs)) ends line.2) (every_rest r rs above) (every_rest r rs zero) (every_rest r rs kinds)
          by Fin is = absurd (every_first r rs kinds is)
          by Data is = absurd (let some = shown.behind s r rs are is in let low = line.0 in let zero_is = una in omega (arith, some, low, zero_is))

      few_positions : n ≤ 1
      few_positions = ⊎_elim
          (λ low. early (omega (arith, low)) v.records refl (is_reached s).lined.line below.above (begun s).syns (first.kinds s unfinished))
          (λ high. late high v.records refl (is_reached s).lined.line below.above (begun s).syns (first.kinds s unfinished))
          (cases_lt (stage (end_at s p).tcp.state) 3)

    -- ---- the segment that is sent next

    module _ (t : ToSend) (sends : first_sends p.agenda p ≡ Some t) where
      abbrev sender : PathEnd
      sender = end_at t.from p

      abbrev sent : PlainSegment
      sent = segment_sent p t

      pub speaks : SaysWhatCame sender sent
      speaks = by p.agenda sends
        where
          by : (ds : List Duty) → first_sends ds p ≡ Some t → SaysWhatCame sender sent
          by [] is = cc
          by (d ∷ ds) is = subst (λ (o : Option ToSend). IfSome o (λ (y : ToSend). SaysWhatCame (end_at y.from p) (segment_sent p y))) is (duty_so d p)

      pub answers_reset : (answer : Outgoing) → sender.treated.answer ≡ Some answer → answer.rst ≡ true
      answers_reset answer is = let told : AnswerTells answer = subst (λ (o : Option Outgoing). IfSome o AnswerTells) is (shown.tells t.from).treated.answer in told.rst

      pub tells_next : TellsWhatCame sender sent
      tells_next = subst (λ (o : Option ToSend). IfSome o (λ (y : ToSend). (end_at y.from p).modes.identity ≡ false → TellsWhatCame (end_at y.from p) (segment_sent p y))) sends (each_segment_has_a_data_ack p) (mapped t.from).identity

      -- the place that the end knows is that of its RCV.NXT, but for the SYN
      next_enough : is_dead sender.tcp.state ≡ false → sent.rst ≡ false → (end_at (peer t.from) p).tcp.send.finished ≡ false → sender.tcp.recv.edge ≤ suc sender.receiving.next
      next_enough living rst unfinished =
          let knows = subst (λ (o : Option ToSend). IfSome o (λ (y : ToSend). is_dead (end_at y.from p).tcp.state ≡ false → (segment_sent p y).rst ≡ false
          → (end_at y.from p).receiving.next ≡ next_wanted (reassembly_of y.from (books_in (at turns).books)))) sends up_to_date.sends living rst in
          let exact = subst (λ u. (end_at u p).tcp.recv.edge ≡ suc (received (arrived_at u (at turns)))) (sender_of t.from) ((counts (peer t.from)).exact unfinished) in omega (arith, knows, exact)

      says_as_much : SaysAsMuch (peer t.from) p sent
      says_as_much = by_tells tells_next
        where
          by_said : (mapping : Option (PathMapping ℕ)) (others : List PlainOption) → sent.options ≡ Dss (Some sender.receiving.next) mapping ∷ others → SaysWhatCame sender sent → SaysAsMuch (peer t.from) p sent
          by_said mapping others options (said.opens state none) =
              as_much sender.receiving.next mapping others options (let low = (shown.tells t.from).window.next in omega (arith, low)) (subst (λ (o : Option ℕ). IfSome o (λ n. n ≤ suc sender.receiving.next)) (sym none) tt)
          by_said mapping others options (said.resets is) = of_reset is
          by_said mapping others options (said.refuses answer is reset) = of_reset (reset ∙ answers_reset answer is)
          by_said mapping others options (said.acknowledges acks rst) = by_living (is_dead sender.tcp.state) refl
            where
              by_finished : is_dead sender.tcp.state ≡ false → (b : Bool) → (end_at (peer t.from) p).tcp.send.finished ≡ b → SaysAsMuch (peer t.from) p sent
              by_finished living true is = past_fin is
              by_finished living false is = as_much sender.receiving.next mapping others options (let low = (shown.tells t.from).window.next in omega (arith, low))
                  (subst (λ (o : Option ℕ). IfSome o (λ n. n ≤ suc sender.receiving.next)) (sym acks) (next_enough living rst is))

              by_living : (b : Bool) → is_dead sender.tcp.state ≡ b → SaysAsMuch (peer t.from) p sent
              by_living true is = at_dead (subst (λ u. is_dead (end_at u p).tcp.state ≡ true) (sym (sender_of t.from)) is)
              by_living false is = by_finished is (end_at (peer t.from) p).tcp.send.finished refl

          by_tells : TellsWhatCame sender sent → SaysAsMuch (peer t.from) p sent
          by_tells (tells.acknowledges mapping others is alone) = by_said mapping others is speaks
          by_tells (tells.silent unclear none) = without none
          by_tells (tells.opens is) = of_syn is
          by_tells (tells.resets is) = of_reset is
          by_tells (tells.refuses answer is reset) = of_reset (reset ∙ answers_reset answer is)

  -- ---- a turn

  module _ (turns : List Turn) (turn : Turn) (p q : PathState Carried) (here : IsPathAt 0 (at turns) p) (there : IsPathAt 0 (at (turns ++ turn ∷ [])) q) where
    abbrev w : WorldState Carried
    w = at turns

    abbrev later : List Turn
    later = turns ++ turn ∷ []

    same_world : at later ≡ after_turn values turn w
    same_world = run_append values turns (turn ∷ []) (opened_world start)

    crew_there : slice_get (after_turn values turn w).crew 2 ≡ Some there.crew
    crew_there = subst (λ (z : WorldState Carried). slice_get z.crew 2 ≡ Some there.crew) same_world there.there

    -- what a law of one turn says of the path
    by_crew : (R : Actor Carried → ActorCrew Carried → Type 0) → ((d : ActorCrew Carried) × (slice_get (after_turn values turn w).crew 2 ≡ Some d) × R here.crew.member d) → R (Path p) there.crew
    by_crew R found = subst (λ m. R m there.crew) here.is (subst (λ d. R here.crew.member d) (same_Some found.0 there.crew (sym found.1 ∙ crew_there)) found.2)

    pub by_turn : (R : Actor Carried → Actor Carried → Type 0) → ((d : ActorCrew Carried) × (slice_get (after_turn values turn w).crew 2 ≡ Some d) × R here.crew.member d.member) → R (Path p) (Path q)
    by_turn R found = subst (λ m. R (Path p) m) there.is (by_crew (λ m d. R m d.member) found)

    una : (s : Side) → UnaFrom s p q
    una = by_turn UnasAreSaid (each_una_is_said w turn 2 here.crew here.there)

    pub were : Every (WasThere values p) q.link.under_way
    were = by_turn (CopiesWere values) (each_copy_was_there values w turn 2 here.crew here.there)

    hears : HearsDataAcks values w.books there.crew.list p q
    hears = subst (λ m. PathsHear values w.books there.crew.list (Path p) m) there.is (by_crew (λ m d. PathsHear values w.books d.list m d.member) (each_data_ack_counts values w turn 2 here.crew here.there))

    far : IsPathAsFar p q
    far = by_turn IsActorAsFar (let found = (goes_on_so values w (turn ∷ [])).crew 2 here.crew here.there in (found.0, found.1, found.2.member))

    fins : MemberFinishes (Path p) (Path q)
    fins = by_turn MemberFinishes (turn_finishes values w turn 2 here.crew here.there)

    pub una_up : (s : Side) → (end_at s p).tcp.send.una ≤ (end_at s q).tcp.send.una
    una_up = elim [ A ↦ far.a.subflow.acknowledged | B ↦ far.b.subflow.acknowledged ]

    stage_up : (s : Side) → stage (end_at s p).tcp.state ≤ stage (end_at s q).tcp.state
    stage_up = elim [ A ↦ far.a.subflow.state | B ↦ far.b.subflow.state ]

    pub still_dead : (s : Side) → is_dead (end_at s p).tcp.state ≡ true → is_dead (end_at s q).tcp.state ≡ true
    still_dead s dead = dead_up (end_at s p).tcp.state (end_at s q).tcp.state dead (stage_up s)
      where
        high : (z : EndPhase) → 7 ≤ stage z → is_dead z ≡ true
        high phase.Dead up = refl
        high z up = absurd (omega (arith, up))

        dead_up : (y z : EndPhase) → is_dead y ≡ true → stage y ≤ stage z → is_dead z ≡ true
        dead_up phase.Dead z dead up = high z up
        dead_up y z dead up = absurd (true≢false (sym dead))

    pub living_before : (s : Side) → is_dead (end_at s q).tcp.state ≡ false → is_dead (end_at s p).tcp.state ≡ false
    living_before s living = by (is_dead (end_at s p).tcp.state) refl
      where
        by : (b : Bool) → is_dead (end_at s p).tcp.state ≡ b → b ≡ false
        by true is = absurd (both_ways (is_dead (end_at s q).tcp.state) living (still_dead s is))
        by false is = refl

    unfinished_before : (s : Side) → (end_at s q).tcp.send.finished ≡ false → (end_at s p).tcp.send.finished ≡ false
    unfinished_before s unfinished = by (end_at s p).tcp.send.finished refl
      where
        by : (b : Bool) → (end_at s p).tcp.send.finished ≡ b → b ≡ false
        by true is = absurd (both_ways (end_at s q).tcp.send.finished unfinished ((fins s).kept is))
        by false is = refl

    -- ---- copies

    says_later : (s : Side) (y : PlainSegment) → SaysAsMuch s p y → SaysAsMuch s q y
    says_later s y (of_reset is) = of_reset is
    says_later s y (of_syn is) = of_syn is
    says_later s y (past_fin is) = past_fin ((fins s).kept is)
    says_later s y (at_dead is) = at_dead (still_dead (peer s) is)
    says_later s y (without none) = without none
    says_later s y (as_much next mapping others options low few) = as_much next mapping others options low few

    copies_on : Agrees p → Every (CopySays q) q.link.under_way
    copies_on h = record { each = λ i f is. by f (were.each i f is) }
      where
        by : (f : Flight Carried) → WasThere values p f → CopySays q f
        by f (was.before old) = says_later f.to (as_arrived f.carried) (under_way (CopySays p) f p old h.copies)
        by f (was.sent t sends to carried) =
            let strips = (link turns p here).strips in let alters = (link turns p here).alters in
            let plain : f.carried ≡ carried_by p.profile.spelling t.from (segment_sent p t) = carried ∙ rw (strips.strips t.from (next_number t.from p.link) p.clock, alters.alters t.from (next_number t.from p.link)) refl in
            says_later f.to (as_arrived f.carried) (subst (λ u. SaysAsMuch u p (as_arrived f.carried)) (sym to) (subst (λ c. SaysAsMuch (peer t.from) p (as_arrived c)) (sym plain) (says_as_much turns p here t sends)))

    -- ---- ends

    module _ (h : Agrees p) (alive : (t : Side) → is_dead (end_at t q).tcp.state ≡ false) (s : Side) (unfinished : (end_at s q).tcp.send.finished ≡ false) where
      fine : was_told tells_refusal there.crew.list ≡ false
      fine = ap (λ o. was_told tells_refusal (notes_or o)) (sym there.there) ∙ nothing_refused start later x.mild.plain 2

      -- a Data ACK stays heard
      heard_on : (u : Side) (place : ℕ) → StaysHeard u place false there.crew.list q → IsHeard u place false q
      heard_on u place (stay.on is) = is
      heard_on u place (stay.gone dead) = absurd (both_ways (is_dead (end_at u q).tcp.state) (alive u) dead)
      heard_on u place (stay.reset is) = absurd (never_resets q (unbroken later q there) u is)
      heard_on u place (stay.plain is) = absurd (both_ways (end_at u q).modes.identity (mapped later q there u).identity is)
      heard_on u place (stay.infinite is) = absurd (both_ways (is_some (end_at u q).modes.own_infinite) (ap is_some (mapped later q there u).own) is)
      heard_on u place (stay.refused is) = absurd (both_ways (was_told tells_refusal there.crew.list) fine is)

      unmoved : (end_at s q).tcp.send.una ≤ (end_at s p).tcp.send.una → HasHeard s q
      unmoved low = by (h.ends (λ t. living_before t (alive t)) s (unfinished_before s unfinished))
        where
          by : HasHeard s p → HasHeard s q
          by (no_byte few) = no_byte (omega (arith, few, low))
          by (counted place few is) = counted place (omega (arith, few, low)) (heard_on s place (hears.stays s place false (λ is. absurd (true≢false (sym is))) is))

      -- ---- a copy that is taken next

      module _ (f : Flight Carried) (is_there : IsUnderWay f p) (to : f.to ≡ s) (rst : f.carried.segment.rst ≡ false) (acks : f.carried.segment.acknowledged ≡ Some (end_at s q).tcp.send.una)
          (next : IsTakenNext s (end_at s q).tcp.send.una p f) (more : (end_at s p).tcp.send.una < (end_at s q).tcp.send.una) where
        abbrev n : ℕ
        n = (end_at s q).tcp.send.una

        abbrev taker : Side
        taker = next.takes.copy.due.to

        abbrev arrived : HeardSegment
        arrived = options_heard (end_at taker p) next.takes.copy.segment

        means_it : (m : Meaning) → IsTo values p next.takes.copy (judged.As m) → MeansIs (copy_of arrived) (end_at taker p).tcp m
        means_it m is = subst (MeansIs (copy_of arrived) (end_at taker p).tcp)
            (same_as (meaning_of (copy_of arrived) (end_at taker p).tcp) m (sym (ap (λ j. judged_of j arrived.rst (items_of j taker arrived) (meaning_of (copy_of arrived) (end_at taker p).tcp) (end_at taker p)) (first turns p here).first) ∙ is))
            (means_so (copy_of arrived) (end_at taker p).tcp)
          where
            same_as : (y z : Meaning) → judged.As y ≡ judged.As z → y ≡ z
            same_as y z equal = cc

        -- an event comes next, so all is known of both ends
        is_known : PathIs p.agenda p
        is_known = by ((upright turns p here).holds (first turns p here).first)
          where
            by : Holds p → PathIs p.agenda p
            by (Now same is) = is
            by (Next d ds same between agenda calm answers passes) = absurd (never d (subst (λ (os : List Duty). os ≡ d ∷ ds) next.takes.copy.first agenda) between.duty)
              where
                never : (d : Duty) → duties.Step step_duties.Events ∷ next.takes.copy.others ≡ d ∷ ds → is_between d ≡ true → ⊥
                never (duties.Step step_duties.Events) is duty = true≢false (sym duty)
                never d is duty = cc

        unsent_living : ((end_at s p).tcp.send.finished ≡ false) × (is_dead (end_at s p).tcp.state ≡ false)
        unsent_living = (unfinished_before s unfinished, living_before s (alive s))

        none_acked : NoneBelow n (end_at s p).tcp.send → HasHeard s q
        none_acked below = no_byte (few_positions turns p here s n below unsent_living.0 unsent_living.1 more)

        -- what the SYN/ACK acknowledges came to B before it may send a DSS, as A isn't past the handshake
        accepted : IsTo values p next.takes.copy (judged.As (means.Accepts next.takes.acknowledged)) → HasHeard s q
        accepted is = by_side s refl
          where
            opens_so : (end_at s p).tcp.state ≡ phase.SynSent
            opens_so = subst (λ u. (end_at u p).tcp.state ≡ phase.SynSent) next.to (means_it (means.Accepts next.takes.acknowledged) is).0

            never_b : (z : EndPhase) → IsOfB z → z ≡ phase.SynSent → ⊥
            never_b z (of_b.listening listens) opens = let both : phase.Listen ≡ phase.SynSent = sym listens ∙ opens in cc
            never_b z (of_b.half_open half) opens = let both : phase.SynReceived ≡ phase.SynSent = sym half ∙ opens in cc
            never_b z (of_b.past high) opens = (let low = ap stage opens in omega (arith, low, high))

            came_to_b : s ≡ A → n ≤ p.b.tcp.recv.edge
            came_to_b same =
                let up : AcksUpTo (end_at (peer f.to) p).tcp.recv.edge f.carried.segment = under_way (AcksWhatCame p) f p is_there (came turns p here).copies in
                let few : n ≤ (end_at (peer f.to) p).tcp.recv.edge = ⊎_elim (λ reset. absurd (both_ways f.carried.segment.rst rst reset)) (λ low. subst (λ (o : Option ℕ). IfSome o (λ m. m ≤ (end_at (peer f.to) p).tcp.recv.edge)) acks low) up in
                subst (λ u. n ≤ (end_at (peer u) p).tcp.recv.edge) (to ∙ same) few

            by_clear : s ≡ A → (b : Bool) → p.b.modes.clear ≡ b → HasHeard s q
            by_clear same true clear =
                let far_b = past turns p here (first turns p here).first B clear in
                let two = (met turns p here).b far_b (living_before B (alive B)) in
                let one = ap stage (subst (λ u. (end_at u p).tcp.state ≡ phase.SynSent) same opens_so) in absurd (omega (arith, two, one))
            by_clear same false unclear = ⊎_elim
                (λ clear. absurd (both_ways p.b.modes.clear unclear clear))
                (λ (both : NoneBelow p.b.tcp.recv.edge p.a.tcp.send × (p.b.receiving.mappings.live ≡ [])). none_acked (subst (λ u. NoneBelow n (end_at u p).tcp.send) (sym same) (below_less n p.b.tcp.recv.edge p.a.tcp.send (came_to_b same) both.0)))
                is_known.b.base.low

            by_side : (u : Side) → s ≡ u → HasHeard s q
            by_side A same = by_clear same p.b.modes.clear refl
            by_side B same = absurd (never_b p.b.tcp.state (states turns p here).b (subst (λ u. (end_at u p).tcp.state ≡ phase.SynSent) same opens_so))

        taken : (pos : ℕ) → IsTo values p next.takes.copy (judged.As (means.Taken pos next.takes.acknowledged)) → HasHeard s q
        taken pos is = by (subst (λ u. SaysAsMuch u p (as_arrived f.carried)) to (under_way (CopySays p) f p is_there h.copies))
          where
            fits : MeansIs (copy_of arrived) (end_at taker p).tcp (means.Taken pos next.takes.acknowledged)
            fits = means_it (means.Taken pos next.takes.acknowledged) is

            no_syn : f.carried.segment.syn ≡ false
            no_syn = sym (ap (λ (g : HeardSegment). g.syn) next.segment) ∙ fits.1.0

            -- without a Data ACK it acknowledges no octet
            plainly : list_any has_data_ack (map meant_option (as_arrived f.carried).options) ≡ false → HasHeard s q
            plainly unsaid = none_acked (by_to s to)
              where
                copy_is : CopyIs p.a.tcp.send p.b.tcp.send f
                copy_is = under_way (CopyIs p.a.tcp.send p.b.tcp.send) f p is_there is_known.copies

                of_heard : (u : Side) (vs vt : SendState) → HeardIs u vs vt (meant (as_arrived f.carried)) → NoneBelow n vs
                of_heard u vs vt heard_is = subst (λ (o : Option ℕ). IfSome (acknowledged_in (option_map (λ m. At m) o)) (λ m. NoneBelow m vs)) acks (heard_is.acks rst no_syn unsaid)

                by_to : (u : Side) → f.to ≡ u → NoneBelow n (end_at u p).tcp.send
                by_to A same = of_heard B p.a.tcp.send p.b.tcp.send (subst (λ u. CopyTo p.a.tcp.send p.b.tcp.send u f) same copy_is)
                by_to B same = of_heard A p.b.tcp.send p.a.tcp.send (subst (λ u. CopyTo p.a.tcp.send p.b.tcp.send u f) same copy_is)

            brings : Brings values p
            brings = record { copy = next.takes.copy; position = pos; acknowledged = next.takes.acknowledged; taken = is }

            -- its Data ACK is heard
            with_data : (place : ℕ) (mapping : Option (PathMapping ℕ)) (others : List PlainOption) → (as_arrived f.carried).options ≡ Dss (Some place) mapping ∷ others → place < 2 ^ 62 → n ≤ suc place → HasHeard s q
            with_data place mapping others options low few = ⊎_elim
                (λ same. absurd (let unmoved = ap (λ (z : PathState Carried). (end_at s z).tcp.send.una) same in omega (arith, more, unmoved)))
                (λ stays. counted place few (subst (λ u. IsHeard u place false q) next.to (heard_on taker place stays)))
                (hears.tells brings 1 place (meant (as_arrived f.carried)).window false said_it)
              where
                said_it : item_at 1 (items_of (is_joined p.profile) taker (options_heard (end_at taker p) next.takes.copy.segment)) ≡ Some (says.DataAck place (meant (as_arrived f.carried)).window)
                said_it = subst (λ g. item_at 1 (items_of (is_joined p.profile) taker (options_heard (end_at taker p) g)) ≡ Some (says.DataAck place (meant (as_arrived f.carried)).window)) (sym next.segment)
                    (each_data_ack_is_said (as_arrived f.carried) (end_at taker p) (is_joined p.profile) taker place mapping others options low (mapped turns p here taker).identity)

            by : SaysAsMuch s p (as_arrived f.carried) → HasHeard s q
            by (of_reset reset) = absurd (both_ways f.carried.segment.rst rst reset)
            by (of_syn syn) = absurd (both_ways f.carried.segment.syn no_syn syn)
            by (past_fin finished) = absurd (both_ways (end_at s p).tcp.send.finished unsent_living.0 finished)
            by (at_dead dead) = absurd (both_ways (is_dead (end_at (peer s) p).tcp.state) (living_before (peer s) (alive (peer s))) dead)
            by (without none) = plainly none
            by (as_much place mapping others options low few) = with_data place mapping others options low (subst (λ (o : Option ℕ). IfSome o (λ m. m ≤ suc place)) acks few)

        heard_next : HasHeard s q
        heard_next = ⊎_elim (λ is. taken is.0 is.1) (λ is. accepted is) next.takes.taken

      heard_now : HasHeard s q
      heard_now = by (una s)
        where
          by : UnaFrom s p q → HasHeard s q
          by (una_from.stays same) = unmoved (omega (arith, same))
          by (una_from.gone dead) = absurd (both_ways (is_dead (end_at s q).tcp.state) (alive s) dead)
          by (una_from.comes f is_there to rst acks next) = ⊎_elim (λ more. heard_next f is_there to rst acks next more) (λ low. unmoved low) (cases_lt (end_at s p).tcp.send.una (end_at s q).tcp.send.una)

    agrees_on : Agrees p → Agrees q
    agrees_on h = record { copies = copies_on h; ends = λ alive s unfinished. heard_now h alive s unfinished }

  -- ---- at every moment

  -- path 0 agrees after these turns
  pub record AgreesAfter (turns : List Turn) : Type 0 where
    pub path : PathState Carried
    pub here : IsPathAt 0 (at turns) path
    agrees : Agrees path

  begins_so : Agrees (begins_turn (waiting_path (path_begins start 0 plan) start.lines))
  begins_so = record {
    copies = subst (λ (l : LinkState Carried). Every (CopySays q) l.under_way) (sym (begins_lasts LinkStays links_last p)) (record { each = λ i f is. cc });
    ends = λ alive s unfinished. no_byte (⊎_elim
        (λ dead. absurd (both_ways (is_dead (end_at s q).tcp.state) (alive s) dead))
        (λ same. (let zero_is = begins s in omega (arith, same, zero_is)))
        (begins_lasts AllBoth both_last p s).rest.una);
  }
    where
      p : PathState Carried
      p = waiting_path (path_begins start 0 plan) start.lines

      q : PathState Carried
      q = begins_turn p

      begins : (s : Side) → (end_at s p).tcp.send.una ≡ 0
      begins A = refl
      begins B = refl

  pub opened_here : IsPathAt 0 (at []) (begins_turn (waiting_path (path_begins start 0 plan) start.lines))
  opened_here = record {
    crew = new_path start 0 plan;
    there = subst (λ ps. slice_get (new_crew 0 (App (first_app_turn A start.buffer start.file_a (fast_close_of A start.lines)))
        ∷ new_crew 1 (App (first_app_turn B start.buffer start.file_b (fast_close_of B start.lines))) ∷ paths_from start 0 ps) 2 ≡ Some (new_path {C = Carried} start 0 plan)) (sym x.one) refl;
    is = refl;
  }

  opened_so : AgreesAfter []
  opened_so = record { path = begins_turn (waiting_path (path_begins start 0 plan) start.lines); here = opened_here; agrees = begins_so }

  -- it is there after each turn
  pub next_path : (turns : List Turn) (turn : Turn) (p : PathState Carried) → IsPathAt 0 (at turns) p → (q : PathState Carried) × IsPathAt 0 (at (turns ++ turn ∷ [])) q
  next_path turns turn p here = by found.0 found.1 found.2.member
    where
      w : WorldState Carried
      w = at turns

      found : (d : ActorCrew Carried) × (slice_get (after_turn values turn w).crew 2 ≡ Some d) × IsCrewAsFar here.crew d
      found = (goes_on_so values w (turn ∷ [])).crew 2 here.crew here.there

      by : (d : ActorCrew Carried) → slice_get (after_turn values turn w).crew 2 ≡ Some d → IsActorAsFar here.crew.member d.member → (q : PathState Carried) × IsPathAt 0 (at (turns ++ turn ∷ [])) q
      by d there far = by_member d.member refl (subst (λ m. IsActorAsFar m d.member) here.is far)
        where
          by_member : (m : Actor Carried) → d.member ≡ m → IsActorAsFar (Path p) m → (q : PathState Carried) × IsPathAt 0 (at (turns ++ turn ∷ [])) q
          by_member (App a) is as_far = absurd as_far
          by_member (Path q) is as_far = (q, record { crew = d; there = subst (λ (z : WorldState Carried). slice_get z.crew 2 ≡ Some d) (sym (run_append values turns (turn ∷ []) (opened_world start))) there; is = is })

  step_so : (turns : List Turn) (turn : Turn) → AgreesAfter turns → AgreesAfter (turns ++ turn ∷ [])
  step_so turns turn h = let found = next_path turns turn h.path h.here in record { path = found.0; here = found.1; agrees = agrees_on turns turn h.path found.0 h.here found.1 h.agrees }

  run_so : (before more : List Turn) → AgreesAfter before → AgreesAfter (before ++ more)
  run_so before [] h = subst AgreesAfter (sym (append-nil before)) h
  run_so before (turn ∷ more) h = subst AgreesAfter (append_assoc before (turn ∷ []) more) (run_so (before ++ turn ∷ []) more (step_so before turn h))

  always_so : (turns : List Turn) (p : PathState Carried) → IsPathAt 0 (at turns) p → Agrees p
  always_so turns p here = let h = run_so [] turns opened_so in subst Agrees (path_is (at turns) h.path p h.here here) h.agrees

  -- ---- where the turn is over

  bytes_acked : (turns : List Turn) (p : PathState Carried) → IsPathAt 0 (at turns) p → p.agenda ≡ [] → ((t : Side) → is_dead (end_at t p).tcp.state ≡ false) → (s : Side) → (end_at s p).tcp.send.finished ≡ false
      → AreAckedAsBytes s p (at turns)
  bytes_acked turns p here over alive s unfinished = by ((always_so turns p here).ends alive s unfinished)
    where
      b : Sending
      b = written_by s (at turns)

      agreed : AgreesWith b (end_at s p).sending
      agreed = (agree turns p here).ends s

      -- all is acknowledged, or no more than that
      heard_few : (end_at s p).sending.heard ≤ acked_len b.marks ⊎ (length b.written ≤ acked_len b.marks)
      heard_few = by_all (b.closed && (length b.written == acked_len b.marks)) refl
        where
          by_all : (c : Bool) → (b.closed && (length b.written == acked_len b.marks)) ≡ c → ((end_at s p).sending.heard ≤ acked_len b.marks) ⊎ (length b.written ≤ acked_len b.marks)
          by_all true is = inr (let same = eqb-true (length b.written) (acked_len b.marks) (and_parts b.closed (length b.written == acked_len b.marks) is).1 in omega (arith, same))
          by_all false is = inl (let low : (end_at s p).sending.heard ≤ acked_len b.marks + 0 = subst (λ (c : Bool). (end_at s p).sending.heard ≤ acked_len b.marks + (if c then 1 else 0)) is agreed.heard in omega (arith, low))

      within : (end_at s p).tcp.send.una ≤ suc (length b.written)
      within = let low = (is_reached turns p here s).lined.within in let most = (counts turns p here s).within unfinished in omega (arith, low, most)

      nothing_ahead : (window place : ℕ) → IsToHear s (says.DataAck place window) (end_at s p).treated.items p.agenda → ⊥
      nothing_ahead window place ahead = subst (λ (ds : List Duty). IsToHear s (says.DataAck place window) (end_at s p).treated.items ds) over ahead

      by : HasHeard s p → AreAckedAsBytes s p (at turns)
      by (no_byte few) = record { heard = omega (arith, few); booked = omega (arith, few) }
      by (counted place few (hearing.told window ahead)) = absurd (nothing_ahead window place ahead)
      by (counted place few (hearing.counts is)) =
          let enough = is.heard in record { heard = omega (arith, few, enough); booked = ⊎_elim (λ low. omega (arith, few, low, enough)) (λ all. (let most = within in omega (arith, all, most))) heard_few }

pub positions_are_acked_as_bytes : PositionsAreAckedAsBytes
positions_are_acked_as_bytes start plan turns x p here over alive s unfinished = bytes_acked start plan x turns p here over alive s unfinished

-- ---- in four rounds

pub four_rounds_acknowledge : FourRoundsAcknowledge
four_rounds_acknowledge start plan v u x rounds s p here soon = by_told (four_rounds_tell start v u x.mild rounds s p q.path here q.here soon)
  where
    q : IsPathThere start u
    q = path_there start v u (between start 3 v u rounds)

    by_told : IsAllThere s (reached values start u) ⊎ ((end_at (peer s) p).tcp.recv.edge ≤ (end_at s q.path).tcp.send.una)
        → IsAllThere s (reached values start u) ⊎ (received (arrived_at (peer s) (reached values start v)) ≤ acked_len (written_by s (reached values start u)).marks)
    by_told (inl all) = inl all
    by_told (inr told) = if_may start x.mild (IsAllThere s (reached values start u) ⊎ (received (arrived_at (peer s) (reached values start v)) ≤ acked_len (written_by s (reached values start u)).marks)) u q.path q.here q.is_open s
        (λ all. inl all)
        (λ may. (let acked = (bytes_acked start plan x u q.path q.here (silent start u q.path (over_after start 3 v u rounds) q.here) q.is_open.living s (segment_rounds.unfinished start x.mild u q.path q.here s may)).booked in
        let came = (counts start plan x v p here s).came in inr (omega (arith, told, acked, came))))
