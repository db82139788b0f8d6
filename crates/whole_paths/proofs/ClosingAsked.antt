-- The DATA_FIN of an end that asks for its Data ACK comes to the peer.
use Rattle.std.proofs.Common.{arith, ◌≡◌, sym, subst, ap, ◌∙◌, ℕ, ◌+◌, ◌-◌, ◌^◌, ◌<◌, ◌≤◌, false, if◌then◌else◌, Option, Some, None, [], ◌∷◌}
use Rattle.sides.specs.declared.side.Side.{Side}
use Rattle.sides.specs.declared.side.Side.TheVariants.{A}
use Rattle.sides.specs.Side.{peer}
use Rattle.link_model.specs.declared.flight.Due.{Due}
use Rattle.path_segments.specs.Spelled.{PlainSegment}
use Rattle.path_segments.specs.declared.segment.PathMapping.TheVariants.{End}
use Rattle.path_segments.specs.declared.segment.PathOption.TheVariants.{Dss}
use Rattle.path_agenda.specs.declared.heard.Heard.TheVariants as says
use Rattle.path_core.specs.Choices.{item_at}
use Rattle.path_core.specs.DssOut.{bare_mapping, checksum_in, checksum_told, data_fin_mapping, fail_beside}
use Rattle.path_core.specs.DataFin.{is_data_fin_owed}
use Rattle.path_core.specs.Emission.{ack_resent}
use Rattle.path_core.specs.End.{PathEnd}
use Rattle.path_core.specs.OptionsOut.{ack_said, carried_said, opening_options}
use Rattle.path_core.specs.MpJoin.{is_joined}
use Rattle.path_core.specs.OptionsIn.{items_of, options_heard}
use Rattle.path_core.specs.Profile.{Profile}
use Rattle.path_core.specs.State.{PathState, end_at}
use Rattle.path_core.specs.Values.{Carried}
use Rattle.path_core.specs.declared.events.Event.{Event}
use Rattle.path_core.specs.declared.events.Event.TheVariants as happenings
use Rattle.whole_paths.specs.Arrivals.{Arrival, HasJoined}
use Rattle.whole_paths.specs.ClosingAsked.{OwesItsEnd, TakesFrom, EndComes, EachDataFinComes}
use Rattle.whole_paths.specs.DataAcksCome.{ComesTaken, IsBare, IsInWindow, IsOpen}
use Rattle.whole_paths.proofs.Closing.{each_data_fin_is_said}
use Rattle.whole_paths.proofs.DataAcksCome.{each_ack_comes, each_ask_arrives}

-- ---- the segment

module _ (c : Profile) (s : Side) (e : PathEnd) (place : ℕ) (h : OwesItsEnd place e) where
  abbrev said : PlainSegment
  said = ack_said c s e.tcp.send.nxt e.sending.known_end e

  pub asks_so : ack_resent c s e ≡ said
  asks_so =
      ap (λ b. if b then ack_said c s e.tcp.send.nxt None e
      else (if e.notices.fast_closed then carried_said c s e.notices.carrier e
      else (if is_data_fin_owed e then ack_said c s e.tcp.send.nxt e.sending.known_end e
      else ack_said c s (e.tcp.send.una - 1) None e))) h.third
      ∙ ap (λ b. if b then carried_said c s e.notices.carrier e
      else (if is_data_fin_owed e then ack_said c s e.tcp.send.nxt e.sending.known_end e
      else ack_said c s (e.tcp.send.una - 1) None e)) h.close
      ∙ ap (λ b. if b then ack_said c s e.tcp.send.nxt e.sending.known_end e else ack_said c s (e.tcp.send.una - 1) None e) h.owed

  pub options_so : said.options ≡ Dss (Some e.receiving.next) (Some (End place (checksum_told c (checksum_in c (bare_mapping c s place 0 1) [])))) ∷ []
  options_so =
      ap (λ b. if b then [] else (if e.modes.clear then Dss (Some e.receiving.next) (data_fin_mapping c s e.sending.known_end) ∷ fail_beside e.sending.known_end e.modes else opening_options c s e)) h.mapped
      ∙ ap (λ b. if b then Dss (Some e.receiving.next) (data_fin_mapping c s e.sending.known_end) ∷ fail_beside e.sending.known_end e.modes else opening_options c s e) h.clear
      ∙ ap (λ (fin : Option ℕ). Dss (Some e.receiving.next) (data_fin_mapping c s fin) ∷ fail_beside fin e.modes) h.end

-- what comes so is heard
said_so : (x : PlainSegment) (p : PathState Carried) (next place : ℕ) (checksum : Option ℕ) (t : Side) → (h : ComesTaken x p) → h.brings.copy.due.to ≡ t
    → x.options ≡ Dss (Some next) (Some (End place checksum)) ∷ [] → next < 2 ^ 62 → place ≤ 2 ^ 62 → (end_at t p).modes.identity ≡ false → EndComes place p
said_so x p next place checksum t h to options low fair mapped = record {
  brings = h.brings;
  index = 2;
  says = subst (λ segment. item_at 2 (items_of (is_joined p.profile) h.brings.copy.due.to (options_heard (end_at h.brings.copy.due.to p) segment)) ≡ Some (says.DataFin place)) (sym h.segment)
      (each_data_fin_is_said x (end_at h.brings.copy.due.to p) (is_joined p.profile) h.brings.copy.due.to next place checksum [] options low fair
      (subst (λ u. (end_at u p).modes.identity ≡ false) (sym to) mapped));
}

-- the side to which a copy comes next
abbrev side_in : Option Event → Side
side_in (Some (happenings.Arrives due)) = due.to
side_in _ = A

-- the acknowledgement with the DATA_FIN comes
end_so : (x : PlainSegment) (p : PathState Carried) (place next : ℕ) (checksum : Option ℕ) (sender : PathEnd) (t : Side) (a : Arrival x p) → a.due.to ≡ t → HasJoined t p → IsBare x
    → x.position ≡ sender.tcp.send.nxt → x.acknowledged ≡ Some sender.tcp.recv.edge → x.options ≡ Dss (Some next) (Some (End place checksum)) ∷ [] → next < 2 ^ 62 → place ≤ 2 ^ 62
    → TakesFrom sender (end_at t p) → EndComes place p
end_so x p place next checksum sender t a to joins bare position acks options low fair takes = said_so x p next place checksum t taken (ap side_in (sym taken.brings.copy.next ∙ a.next) ∙ to) options low fair takes.mapped
  where
    opened : IsOpen (end_at a.due.to p).tcp
    opened = subst (λ u. IsOpen (end_at u p).tcp) (sym to) takes.opened

    window : IsInWindow x (end_at a.due.to p).tcp
    window = subst (λ u. IsInWindow x (end_at u p).tcp) (sym to) (record {
      from = subst (λ n. (end_at t p).tcp.recv.edge ≤ n) (sym position) takes.from;
      within = subst (λ n. n ≤ (end_at t p).tcp.recv.edge + 1048576) (sym position) (let inside = takes.within in omega (arith, inside));
      acknowledged = sender.tcp.recv.edge;
      acknowledges = acks;
      answered = takes.answered;
      sent = takes.sent;
    })

    taken : ComesTaken x p
    taken = (each_ack_comes x p a (subst (λ u. HasJoined u p) (sym to) joins) bare opened).taken window

pub each_data_fin_comes : EachDataFinComes
each_data_fin_comes s p f h whole same there few arrive others first next joins place owes takes =
    let a = each_ask_arrives s p f h whole same there few arrive others first next in
    let is = asks_so p.profile s h.sender place owes in
    end_so (ack_resent p.profile s h.sender) p place h.sender.receiving.next _ h.sender (peer s) a.arrival (ap (λ (due : Due). due.to) a.due_is ∙ h.to) joins a.bare
    (ap (λ (x : PlainSegment). x.position) is) (ap (λ (x : PlainSegment). x.acknowledged) is)
    (ap (λ (x : PlainSegment). x.options) is ∙ options_so p.profile s h.sender place owes) owes.low owes.fair takes
