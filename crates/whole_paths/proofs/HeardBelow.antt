-- Each copy says fewer bytes by its Data ACK than it acknowledges positions; and so an end hears no more of them than SND.UNA tells.
use Rattle.std.proofs.Common.{◌≡◌, refl, sym, subst, ap, ◌∙◌, ◌⊎◌, inl, inr, ⊎_elim, ℕ, zero, suc, ◌+◌, ◌-◌, ◌^◌, ◌<◌, ◌≤◌, arith, nat_le, nat_lt, ◌==◌, ◌&&◌, ◌||◌, Bool, true, false, true≢false, if◌then◌else◌, Option, Some, None, is_some, IfSome, List, [], ◌∷◌, ◌++◌, map}
use Rattle.std.specs.List.{flat_map, list_any, slice_get}
use Rattle.std.specs.Option.{option_map}
use Rattle.std.proofs.lemmas.Bool.{and_parts, both_ways, eqb-true, or_from, or_parts}
use Rattle.std.proofs.lemmas.List.{append-nil, append_assoc}
use Rattle.std.proofs.lemmas.Option.{same_Some}
use Rattle.key_material.specs.declared.address.Address.{Address}
use Rattle.mptcp_options.specs.declared.capable.CapableKeys.{CapableKeys}
use Rattle.mptcp_options.specs.declared.capable.CapableKeys.TheVariants as keys
use Rattle.mptcp_options.specs.declared.join.JoinForm.{JoinForm}
use Rattle.mptcp_options.specs.declared.join.JoinForm.TheVariants as forms
use Rattle.path_segments.specs.Heard.{HeardSegment}
use Rattle.path_segments.specs.Laws.{meant, meant_mapping, meant_option}
use Rattle.path_segments.specs.Options.{PlainOption}
use Rattle.path_segments.specs.Spelled.{PlainSegment}
use Rattle.path_segments.specs.declared.position.HeardPosition.TheVariants.{At}
use Rattle.path_segments.specs.declared.segment.PathMapping.{PathMapping}
use Rattle.path_segments.specs.declared.segment.PathMapping.TheVariants as mappings
use Rattle.path_segments.specs.declared.segment.PathOption.TheVariants as options
use Rattle.sides.specs.declared.side.Side.{Side}
use Rattle.sides.specs.declared.side.Side.TheVariants.{A, B}
use Rattle.sides.specs.Side.{peer}
use Rattle.link_script.specs.Places.{same_side}
use Rattle.link_model.specs.State.{LinkState}
use Rattle.link_model.specs.Steps.{arriving, is_due, next_number}
use Rattle.link_model.specs.declared.flight.Flight.{Flight}
use Rattle.reassembly_book.specs.State.{Arriving, received}
use Rattle.reassembly_book.specs.Steps.{is_end, next_wanted}
use Rattle.stream_lanes.specs.Words.{Every}
use Rattle.subflow_tcp.specs.Judging.{meaning_of}
use Rattle.subflow_tcp.specs.States.{is_dead}
use Rattle.subflow_tcp.specs.declared.verdicts.Meaning.{Meaning}
use Rattle.subflow_tcp.specs.declared.verdicts.Meaning.TheVariants as means
use Rattle.actor_desk.specs.Books.{books_in}
use Rattle.actor_desk.specs.Desk.{reassembly_of}
use Rattle.path_agenda.specs.Agenda.{start_of_turn}
use Rattle.path_agenda.specs.declared.heard.Heard.{Heard}
use Rattle.path_agenda.specs.declared.heard.Heard.TheVariants as says
use Rattle.path_core.specs.Addresses.{address_items, item_removed}
use Rattle.path_core.specs.Arrival.{acknowledged_in, copy_of, heard_in}
use Rattle.path_core.specs.DssIn.{ack_items, map_items, mapping_items}
use Rattle.path_core.specs.End.{PathEnd}
use Rattle.path_core.specs.Judged.{judged_of}
use Rattle.path_core.specs.Looking.{first_sends, segment_sent}
use Rattle.path_core.specs.MpCapable.{key_items}
use Rattle.path_core.specs.MpJoin.{is_joined, join_items}
use Rattle.path_core.specs.OptionsIn.{has_data_ack, items_in, items_of, options_heard}
use Rattle.path_core.specs.Start.{waiting_path}
use Rattle.path_core.specs.State.{PathState, end_at}
use Rattle.path_core.specs.Steps.{begins_turn}
use Rattle.path_core.specs.Values.{Carried, as_arrived, carried_by, values}
use Rattle.path_core.specs.declared.judged.Judged.TheVariants as judged
use Rattle.world_laws.specs.Openings.{PathPlan, Start, path_begins}
use Rattle.world_laws.specs.Promises.{arrived_at}
use Rattle.world_laws.specs.RoundDone.{reached}
use Rattle.world_laws.specs.Worlds.{Turn, WorldState}
use Rattle.world_laws.proofs.Lanes.Records.{every_first, every_rest}
use Rattle.world_laws.proofs.Whole.Ends.{MeansIs, means_so}
use Rattle.world_laws.proofs.Worlds.Finding.{find_every, one_side}
use Rattle.world_laws.proofs.Writes.Steps.{begins_lasts}
use Rattle.whole_paths.specs.Copies.{IsUnderWay}
use Rattle.whole_paths.specs.DataAcks.{TellsWhatCame}
use Rattle.whole_paths.specs.DataAcks.{TellsWhatCame as tells}
use Rattle.whole_paths.specs.Delivery.{IsAllThere}
use Rattle.whole_paths.specs.Finish.{IsPathAt}
use Rattle.whole_paths.specs.HeardBelow.{HeardLiesBelow}
use Rattle.whole_paths.specs.HeardSaid.{HearsAsMuch, HearsWhatWasSaid, IsAhead, PathsHearWhatWasSaid, SaysNext, is_ack_of}
use Rattle.whole_paths.specs.HeardSaid.{HearsAsMuch as much}
use Rattle.whole_paths.specs.Hearing.{Counts, PathsCount}
use Rattle.whole_paths.specs.OnePathScripts.{BeginsWithOnePath}
use Rattle.whole_paths.specs.Saying.{SaysWhatCame}
use Rattle.whole_paths.specs.Saying.{SaysWhatCame as said}
use Rattle.whole_paths.proofs.AckedData as moment
use Rattle.whole_paths.proofs.Arrivals.{sender_of}
use Rattle.whole_paths.proofs.Copied.{WasThere}
use Rattle.whole_paths.proofs.Copied.{WasThere as was}
use Rattle.whole_paths.proofs.Copies.{LinkStays, links_last}
use Rattle.whole_paths.proofs.Delivery.{bounds_at, what_is_there_stays}
use Rattle.whole_paths.proofs.Exchanges.{under_way}
use Rattle.whole_paths.proofs.HeardSaid.{Keeps, keeps_lasts, settled_back, what_is_heard_was_said}
use Rattle.whole_paths.proofs.Hearing.{each_acknowledgement_counts}
use Rattle.whole_paths.proofs.RecordWaits.{path_is}
use Rattle.whole_paths.proofs.Saying.{ToSend}

-- ---- what options say

module _ (place : ℕ) where
  -- none of these things is that Data ACK
  abbrev SayNone : List Heard → Type 0
  SayNone items = list_any (is_ack_of place) items ≡ false

  both_say : (xs ys : List Heard) → SayNone xs → SayNone ys → SayNone (xs ++ ys)
  both_say [] ys x y = y
  both_say (item ∷ xs) ys x y =
      let parts = or_parts (is_ack_of place item) (list_any (is_ack_of place) xs) x in or_from (is_ack_of place item) (list_any (is_ack_of place) (xs ++ ys)) parts.0 (both_say xs ys parts.1 y)

  either_say : (b : Bool) (xs ys : List Heard) → SayNone xs → SayNone ys → SayNone (if b then xs else ys)
  either_say true xs ys x y = x
  either_say false xs ys x y = y

  removed_say : (ids : List ℕ) → SayNone (map item_removed ids)
  removed_say [] = refl
  removed_say (id ∷ ids) = removed_say ids

  address_say : (echo : Bool) (id : ℕ) (address : Address) (port hmac : Option ℕ) → SayNone (address_items echo id address port hmac)
  address_say true id address port hmac = refl
  address_say false id address port (Some hmac) = refl
  address_say false id address port None = refl

  mapping_say : (at position count : ℕ) (fin : Bool) → SayNone (mapping_items at position count fin)
  mapping_say at position count fin = either_say (nat_lt 0 position && nat_le (at + count) (2 ^ 62)) (says.Mapping fin ∷ []) [] refl refl

  key_say : (s : Side) (form : CapableKeys) → SayNone (key_items s form)
  key_say A (keys.Sender sender) = refl
  key_say B (keys.Both sender receiver) = refl
  key_say B (keys.WithData sender receiver len checksum) = either_say (nat_lt 0 len) (mapping_items 0 1 len false) [] (mapping_say 0 1 len false) refl
  key_say A _ = refl
  key_say B _ = refl

  join_say : (s : Side) (form : JoinForm) → SayNone (join_items s form)
  join_say A (forms.Answer backup id hmac nonce) = refl
  join_say B (forms.Syn backup id token nonce) = refl
  join_say B (forms.Third hmac) = refl
  join_say A _ = refl
  join_say B _ = refl

  map_say : (mapping : Option (PathMapping ℕ)) → SayNone (map_items (option_map meant_mapping mapping))
  map_say None = refl
  map_say (Some (mappings.Bytes at position len fin checksum)) = mapping_say at position _ fin
  map_say (Some (mappings.End at checksum)) = either_say (nat_le at (2 ^ 62)) (says.DataFin at ∷ []) [] refl refl
  map_say (Some (mappings.Infinite at position)) = either_say (nat_lt at (2 ^ 62)) (says.InfiniteMapping at (Some position) ∷ []) [] refl refl

  option_says : (joined : Bool) (s : Side) (window : ℕ) (x : PlainOption) → has_data_ack (meant_option x) ≡ false → SayNone (items_in joined s window (meant_option x))
  option_says joined s window (options.Dss (Some next) mapping) none = absurd (true≢false none)
  option_says joined s window (options.Dss None mapping) none = map_say mapping
  option_says joined s window (options.Remove ids) none = removed_say ids
  option_says joined s window (options.Capable flag_a flag_c form) none = either_say joined [] (key_items s form) refl (key_say s form)
  option_says joined s window (options.Join form) none = join_say s form
  option_says joined s window (options.AddAddr echo id address port hmac) none = address_say echo id address port hmac
  option_says joined s window (options.Prio backup) none = refl
  option_says joined s window (options.Fail at) none = refl
  option_says joined s window (options.FastClose key) none = refl
  option_says joined s window (options.Reset transient reason) none = refl

  pub options_say : (joined : Bool) (s : Side) (window : ℕ) (xs : List PlainOption) → list_any has_data_ack (map meant_option xs) ≡ false → SayNone (flat_map (items_in joined s window) (map meant_option xs))
  options_say joined s window [] none = refl
  options_say joined s window (x ∷ xs) none =
      let parts = or_parts (has_data_ack (meant_option x)) (list_any has_data_ack (map meant_option xs)) none in
      both_say (items_in joined s window (meant_option x)) (flat_map (items_in joined s window) (map meant_option xs)) (option_says joined s window x parts.0) (options_say joined s window xs parts.1)

  -- behind a DSS that says another one
  pub dss_says : (joined : Bool) (s : Side) (window next : ℕ) (mapping : Option (PathMapping ℕ)) (others : List PlainOption) → list_any has_data_ack (map meant_option others) ≡ false
      → list_any (is_ack_of place) (flat_map (items_in joined s window) (map meant_option (options.Dss (Some next) mapping ∷ others))) ≡ true → next ≡ place
  dss_says joined s window next mapping others none is = by (next == place) refl
    where
      by : (b : Bool) → (next == place) ≡ b → next ≡ place
      by true same = eqb-true next place same
      by false other = absurd (both_ways _ (both_say (says.Dss ∷ (ack_items (Some (Some next)) window ++ map_items (option_map meant_mapping mapping))) (flat_map (items_in joined s window) (map meant_option others))
          (both_say (ack_items (Some (Some next)) window) (map_items (option_map meant_mapping mapping)) (either_say (nat_lt next (2 ^ 62)) (says.DataAck next window ∷ []) [] (ap (λ b. b || false) other) refl) (map_say mapping))
          (options_say joined s window others none)) is)

-- ---- what a copy says

-- to this side's end: each Data ACK is of fewer bytes than positions are acknowledged
data SaysLess (s : Side) (p : PathState Carried) (x : PlainSegment) : Type 0 where
  of_reset : x.rst ≡ true → SaysLess s p x
  of_syn : x.syn ≡ true → SaysLess s p x
  at_dead : is_dead (end_at (peer s) p).tcp.state ≡ true → SaysLess s p x
  less : ((place n : ℕ) → list_any (is_ack_of place) (items_of (is_joined p.profile) s (meant x)) ≡ true → x.acknowledged ≡ Some n → place < n) → SaysLess s p x

record IsLow (s : Side) (p : PathState Carried) : Type 0 where
  copies : Every (λ (f : Flight Carried). f.to ≡ s → SaysLess s p (as_arrived f.carried)) p.link.under_way
  -- while neither end is dead
  ahead : ((t : Side) → is_dead (end_at t p).tcp.state ≡ false) → (place : ℕ) → IsAhead s (is_ack_of place) p → place < (end_at s p).tcp.send.una
  heard : ((t : Side) → is_dead (end_at t p).tcp.state ≡ false) → (end_at s p).sending.heard ≤ (end_at s p).tcp.send.una - 1

module _ (start : Start) (plan : PathPlan) (x : BeginsWithOnePath start plan) where
  abbrev at : List Turn → WorldState Carried
  at turns = reached values start turns

  -- ---- the segment that is sent next

  module _ (turns : List Turn) (p : PathState Carried) (here : IsPathAt 0 (at turns) p) (t : ToSend) (sends : first_sends p.agenda p ≡ Some t) where
    abbrev sender : PathEnd
    sender = end_at t.from p

    abbrev sent : PlainSegment
    sent = segment_sent p t

    abbrev book : Arriving
    book = arrived_at t.from (at turns)

    -- what the side wants next lies before its RCV.NXT, or all is there
    wanted : is_dead sender.tcp.state ≡ false → sent.rst ≡ false → IsAllThere (peer t.from) (at turns) ⊎ (sender.receiving.next < sender.tcp.recv.edge)
    wanted living rst = by (is_end book.known_end (received book)) refl
      where
        knows : sender.receiving.next ≡ next_wanted book
        knows = subst (λ (o : Option ToSend). IfSome o (λ (y : ToSend). is_dead (end_at y.from p).tcp.state ≡ false → (segment_sent p y).rst ≡ false
            → (end_at y.from p).receiving.next ≡ next_wanted (reassembly_of y.from (books_in (at turns).books)))) sends (moment.up_to_date start plan x turns p here).sends living rst

        came : received book < sender.tcp.recv.edge
        came = subst (λ u. received (arrived_at u (at turns)) < (end_at u p).tcp.recv.edge) (sender_of t.from) (moment.counts start plan x turns p here (peer t.from)).came

        ended : (o : Option ℕ) → book.known_end ≡ o → is_end o (received book) ≡ true → IsAllThere (peer t.from) (at turns)
        ended None known is = absurd (true≢false (sym is))
        ended (Some e) known is = by_reader (peer (peer t.from)) (sender_of t.from)
          where
            by_reader : (u : Side) → u ≡ t.from → IsAllThere (peer t.from) (at turns)
            by_reader u same =
                let bounds = bounds_at start turns x.mild (peer t.from) in
                let known_there : (arrived_at (peer (peer t.from)) (at turns)).known_end ≡ Some e = subst (λ v. (arrived_at v (at turns)).known_end ≡ Some e) (sym (sender_of t.from)) known in
                let end_is = bounds.end e known_there in
                let at_end = eqb-true e (received book) is in
                let same_received : received (arrived_at (peer (peer t.from)) (at turns)) ≡ received book = ap (λ v. received (arrived_at v (at turns))) (sender_of t.from) in
                let last = end_is.1 in
                record { closed = end_is.0; received = omega (arith, same_received, at_end, last); known = known_there ∙ ap (λ n. Some n) last }

        by : (b : Bool) → is_end book.known_end (received book) ≡ b → IsAllThere (peer t.from) (at turns) ⊎ (sender.receiving.next < sender.tcp.recv.edge)
        by true is = inl (ended book.known_end refl is)
        by false is = inr (let low = came in let next : sender.receiving.next ≡ received book + 0 = knows ∙ ap (λ b. received book + (if b then 1 else 0)) is in omega (arith, low, next))

    says_less : IsAllThere (peer t.from) (at turns) ⊎ SaysLess (peer t.from) p sent
    says_less = by_tells (moment.tells_next start plan x turns p here t sends)
      where
        silent_so : list_any has_data_ack (map meant_option sent.options) ≡ false → SaysLess (peer t.from) p sent
        silent_so none = less (λ place n is acks. absurd (both_ways _ (options_say place (is_joined p.profile) (peer t.from) (meant sent).window sent.options none) is))

        by_said : (mapping : Option (PathMapping ℕ)) (others : List PlainOption) → sent.options ≡ options.Dss (Some sender.receiving.next) mapping ∷ others → list_any has_data_ack (map meant_option others) ≡ false
            → SaysWhatCame sender sent → IsAllThere (peer t.from) (at turns) ⊎ SaysLess (peer t.from) p sent
        by_said mapping others is alone (said.opens state none) = inr (less (λ place n named acks. (let both : None ≡ Some n = sym none ∙ acks in cc)))
        by_said mapping others is alone (said.resets rst) = inr (of_reset rst)
        by_said mapping others is alone (said.refuses answer some reset) = inr (of_reset (reset ∙ moment.answers_reset start plan x turns p here t sends answer some))
        by_said mapping others is alone (said.acknowledges acks rst) = by_living (is_dead sender.tcp.state) refl
          where
            low : sender.receiving.next < sender.tcp.recv.edge → SaysLess (peer t.from) p sent
            low before = less (λ place n named acked. (
                let next_is = dss_says place (is_joined p.profile) (peer t.from) (meant sent).window sender.receiving.next mapping others alone
                (subst (λ (os : List PlainOption). list_any (is_ack_of place) (flat_map (items_in (is_joined p.profile) (peer t.from) (meant sent).window) (map meant_option os)) ≡ true) is named) in
                let n_is = same_Some sender.tcp.recv.edge n (sym acks ∙ acked) in omega (arith, before, next_is, n_is)))

            by_living : (b : Bool) → is_dead sender.tcp.state ≡ b → IsAllThere (peer t.from) (at turns) ⊎ SaysLess (peer t.from) p sent
            by_living true dead = inr (at_dead (subst (λ u. is_dead (end_at u p).tcp.state ≡ true) (sym (sender_of t.from)) dead))
            by_living false living = ⊎_elim (λ all. inl all) (λ before. inr (low before)) (wanted living rst)

        by_tells : TellsWhatCame sender sent → IsAllThere (peer t.from) (at turns) ⊎ SaysLess (peer t.from) p sent
        by_tells (tells.acknowledges mapping others is alone) = by_said mapping others is alone (moment.speaks start plan x turns p here t sends)
        by_tells (tells.silent unclear none) = inr (silent_so none)
        by_tells (tells.opens is) = inr (of_syn is)
        by_tells (tells.resets is) = inr (of_reset is)
        by_tells (tells.refuses answer some reset) = inr (of_reset (reset ∙ moment.answers_reset start plan x turns p here t sends answer some))

  -- ---- a turn

  module _ (turns : List Turn) (turn : Turn) (p q : PathState Carried) (here : IsPathAt 0 (at turns) p) (there : IsPathAt 0 (at (turns ++ turn ∷ [])) q) (s : Side) where
    abbrev w : WorldState Carried
    w = at turns

    abbrev later : List Turn
    later = turns ++ turn ∷ []

    hears : HearsWhatWasSaid values p q
    hears = moment.by_turn start plan x turns turn p q here there (PathsHearWhatWasSaid values) (what_is_heard_was_said values w turn 2 here.crew here.there)

    counts : Counts values p q
    counts = moment.by_turn start plan x turns turn p q here there (PathsCount values) (each_acknowledgement_counts values w turn 2 here.crew here.there)

    una_up : (end_at s p).tcp.send.una ≤ (end_at s q).tcp.send.una
    una_up = moment.una_up start plan x turns turn p q here there s

    same_profile : is_joined q.profile ≡ is_joined p.profile
    same_profile = (moment.first start plan x later q there).first ∙ sym (moment.first start plan x turns p here).first

    less_later : (y : PlainSegment) → SaysLess s p y → SaysLess s q y
    less_later y (of_reset is) = of_reset is
    less_later y (of_syn is) = of_syn is
    less_later y (at_dead is) = at_dead (moment.still_dead start plan x turns turn p q here there (peer s) is)
    less_later y (less says_so) = less (λ place n is acks. says_so place n (subst (λ b. list_any (is_ack_of place) (items_of b s (meant y)) ≡ true) same_profile is) acks)

    -- of copies, unless all is there
    copies_low : IsLow s p → (f : Flight Carried) → WasThere values p f → f.to ≡ s → IsAllThere s w ⊎ SaysLess s q (as_arrived f.carried)
    copies_low h f (was.before old) to = inr (less_later (as_arrived f.carried) (under_way (λ (g : Flight Carried). g.to ≡ s → SaysLess s p (as_arrived g.carried)) f p old h.copies to))
    copies_low h f (was.sent t sends to_t carried) to =
        let link = moment.link start plan x turns p here in
        let plain : f.carried ≡ carried_by p.profile.spelling t.from (segment_sent p t) = carried ∙ rw (link.strips.strips t.from (next_number t.from p.link) p.clock, link.alters.alters t.from (next_number t.from p.link)) refl in
        let own : peer t.from ≡ s = sym to_t ∙ to in
        ⊎_elim (λ all. inl (subst (λ u. IsAllThere u w) own all))
        (λ so. inr (less_later (as_arrived f.carried) (subst (λ c. SaysLess s p (as_arrived c)) (sym plain) (subst (λ u. SaysLess u p (segment_sent p t)) own so))))
        (says_less turns p here t sends)

    all_low : IsLow s p → (fs : List (Flight Carried)) → Every (WasThere values p) fs → IsAllThere s w ⊎ Every (λ (f : Flight Carried). f.to ≡ s → SaysLess s q (as_arrived f.carried)) fs
    all_low h [] each = inr (record { each = λ i f is. cc })
    all_low h (f ∷ fs) each = by (same_side f.to s) refl (all_low h fs (every_rest f fs each))
      where
        put : (f.to ≡ s → SaysLess s q (as_arrived f.carried)) → Every (λ (g : Flight Carried). g.to ≡ s → SaysLess s q (as_arrived g.carried)) fs → Every (λ (g : Flight Carried). g.to ≡ s → SaysLess s q (as_arrived g.carried)) (f ∷ fs)
        put one many = record { each = λ i g is. by_index i g is }
          where
            by_index : (i : ℕ) (g : Flight Carried) → slice_get (f ∷ fs) i ≡ Some g → g.to ≡ s → SaysLess s q (as_arrived g.carried)
            by_index zero g is to = let same = same_Some f g is in subst (λ (h : Flight Carried). SaysLess s q (as_arrived h.carried)) same (one (ap (λ (h : Flight Carried). h.to) same ∙ to))
            by_index (suc i) g is to = many.each i g is to

        by : (b : Bool) → same_side f.to s ≡ b → IsAllThere s w ⊎ Every (λ (g : Flight Carried). g.to ≡ s → SaysLess s q (as_arrived g.carried)) fs
            → IsAllThere s w ⊎ Every (λ (g : Flight Carried). g.to ≡ s → SaysLess s q (as_arrived g.carried)) (f ∷ fs)
        by true is rest = ⊎_elim (λ all. inl all)
            (λ one. ⊎_elim (λ all. inl all) (λ many. inr (put (λ to. one) many)) rest)
            (copies_low h f (every_first f fs each) (one_side f.to s is))
        by false apart rest = ⊎_elim (λ all. inl all) (λ many. inr (put (λ to. absurd (both_ways (same_side f.to s) apart (ap (λ u. same_side u s) to ∙ same_sides s))) many)) rest
          where
            same_sides : (u : Side) → same_side u u ≡ true
            same_sides = elim [ A ↦ refl | B ↦ refl ]

    -- ---- what the end is to hear

    module _ (h : IsLow s p) (alive : (t : Side) → is_dead (end_at t q).tcp.state ≡ false) where
      alive_before : (t : Side) → is_dead (end_at t p).tcp.state ≡ false
      alive_before t = moment.living_before start plan x turns turn p q here there t (alive t)

      low_before : (place : ℕ) → IsAhead s (is_ack_of place) p → place < (end_at s q).tcp.send.una
      low_before place ahead = let low = h.ahead alive_before place ahead in let up = una_up in omega (arith, low, up)

      -- a copy that is taken next
      module _ (place : ℕ) (n : SaysNext values s (is_ack_of place) p) where
        abbrev to : Side
        to = n.brings.copy.due.to

        abbrev taker : PathEnd
        taker = end_at to p

        abbrev words : HeardSegment
        words = options_heard taker n.brings.copy.segment

        fits : MeansIs (copy_of words) taker.tcp (means.Taken n.brings.position n.brings.acknowledged)
        fits = subst (MeansIs (copy_of words) taker.tcp)
            (same_as (meaning_of (copy_of words) taker.tcp) (means.Taken n.brings.position n.brings.acknowledged)
            (sym (ap (λ j. judged_of j words.rst (items_of j to words) (meaning_of (copy_of words) taker.tcp) taker) (moment.first start plan x turns p here).first) ∙ n.brings.taken))
            (means_so (copy_of words) taker.tcp)
          where
            same_as : (y z : Meaning) → judged.As y ≡ judged.As z → y ≡ z
            same_as y z equal = cc

        each_there : Every (λ (g : Flight Carried). IsUnderWay g p) p.link.under_way
        each_there = record { each = λ i g is. record { at = i; item = g; there = is; holds = refl } }

        -- as the end reads its options
        said_plainly : list_any (is_ack_of place) (items_of (is_joined p.profile) to n.brings.copy.segment) ≡ true
        said_plainly = subst (λ b. list_any (is_ack_of place) (flat_map (items_in (is_joined p.profile) to n.brings.copy.segment.window) (if b then [] else n.brings.copy.segment.options)) ≡ true)
            (moment.mapped start plan x turns p here to).identity n.says

        below : place < n.brings.acknowledged
        below = by (arriving n.brings.copy.due p.link) refl n.brings.copy.heard
          where
            by : (o : Option (Flight Carried)) → arriving n.brings.copy.due p.link ≡ o → heard_in values to o p ≡ Some n.brings.copy.segment → place < n.brings.acknowledged
            by None is heard = cc
            by (Some f) is heard =
                let same = same_Some (meant (as_arrived f.carried)) n.brings.copy.segment heard in
                let found = find_every (λ (g : Flight Carried). IsUnderWay g p) (is_due n.brings.copy.due) p.link.under_way f each_there is in
                let parts = and_parts (f.tick == n.brings.copy.due.tick) (same_side f.to to && f.number == n.brings.copy.due.copy) found.1 in
                let to_end = one_side f.to to (and_parts (same_side f.to to) (f.number == n.brings.copy.due.copy) parts.1).0 in
                of_copy f same (under_way (λ (g : Flight Carried). g.to ≡ s → SaysLess s p (as_arrived g.carried)) f p found.0 h.copies (to_end ∙ n.to))
              where
                heard_ack : (o : Option ℕ) (m : ℕ) → acknowledged_in (option_map (λ m. At m) o) ≡ Some m → o ≡ Some m
                heard_ack None m is = cc
                heard_ack (Some k) m is = is

                of_copy : (f : Flight Carried) → meant (as_arrived f.carried) ≡ n.brings.copy.segment → SaysLess s p (as_arrived f.carried) → place < n.brings.acknowledged
                of_copy f same (of_reset rst) = absurd (both_ways n.brings.copy.segment.rst fits.1.1.0 (sym (ap (λ (y : HeardSegment). y.rst) same) ∙ rst))
                of_copy f same (of_syn syn) = absurd (both_ways n.brings.copy.segment.syn fits.1.0 (sym (ap (λ (y : HeardSegment). y.syn) same) ∙ syn))
                of_copy f same (at_dead dead) = absurd (both_ways (is_dead (end_at (peer s) p).tcp.state) (alive_before (peer s)) dead)
                of_copy f same (less so) = so place n.brings.acknowledged
                    (subst (λ u. list_any (is_ack_of place) (items_of (is_joined p.profile) u (meant (as_arrived f.carried))) ≡ true) n.to
                    (subst (λ (y : HeardSegment). list_any (is_ack_of place) (items_of (is_joined p.profile) to y) ≡ true) (sym same) said_plainly))
                    (heard_ack f.carried.segment.acknowledged n.brings.acknowledged (ap (λ (y : HeardSegment). acknowledged_in y.acknowledged) same ∙ fits.1.1.1.1))

        next_low : (q ≡ p) ⊎ (place < (end_at s q).tcp.send.una)
        next_low = ⊎_elim (λ same. inl same) (λ up. inr (let low = below in let una = ap (λ u. (end_at u q).tcp.send.una) n.to in omega (arith, low, up, una)))
            (counts.counts (record { copy = n.brings.copy; acknowledged = n.brings.acknowledged; taken = inl (n.brings.position, n.brings.taken) }))

      ahead_low : (place : ℕ) → IsAhead s (is_ack_of place) q → place < (end_at s q).tcp.send.una
      ahead_low place ahead = ⊎_elim
          (λ before. low_before place before)
          (λ next. ⊎_elim (λ same. low_before place (subst (λ (z : PathState Carried). IsAhead s (is_ack_of place) z) same ahead)) (λ low. low) (next_low place next))
          (hears.ahead s (is_ack_of place) ahead)

      heard_low : (end_at s q).sending.heard ≤ (end_at s q).tcp.send.una - 1
      heard_low = by (hears.heard s)
        where
          was_low : (end_at s p).sending.heard ≤ (end_at s p).tcp.send.una - 1
          was_low = h.heard alive_before

          by : HearsAsMuch s p q → (end_at s q).sending.heard ≤ (end_at s q).tcp.send.una - 1
          by (much.stays same) = let low = was_low in let up = una_up in omega (arith, same, low, up)
          by (much.hears place is ahead) = let low = was_low in let up = una_up in let before = low_before place ahead in omega (arith, is, low, up, before)
          by (much.plain is) = absurd (both_ways (end_at s p).modes.identity (moment.mapped start plan x turns p here s).identity is)
          by (much.infinite is) = absurd (both_ways (is_some (end_at s p).modes.own_infinite) (ap is_some (moment.mapped start plan x turns p here s).own) is)

    low_on : IsLow s p → IsAllThere s w ⊎ IsLow s q
    low_on h = ⊎_elim (λ all. inl all)
        (λ copies. inr (record { copies = copies; ahead = λ alive place ahead. ahead_low h alive place ahead; heard = λ alive. heard_low h alive }))
        (all_low h q.link.under_way (moment.were start plan x turns turn p q here there))

  -- ---- at every moment

  record LowAfter (s : Side) (turns : List Turn) : Type 0 where
    path : PathState Carried
    here : IsPathAt 0 (at turns) path
    low : IsAllThere s (at turns) ⊎ IsLow s path

  begins_low : (s : Side) → IsLow s (begins_turn (waiting_path (path_begins start 0 plan) start.lines))
  begins_low s = record {
    copies = subst (λ (l : LinkState Carried). Every (λ (f : Flight Carried). f.to ≡ s → SaysLess s q (as_arrived f.carried)) l.under_way) (sym (begins_lasts LinkStays links_last p)) (record { each = λ i f is. cc });
    ahead = λ alive place h. absurd (true≢false (sym (settled_back start_of_turn p s (is_ack_of place) h).duties));
    heard = λ alive. let same = (begins_lasts Keeps keeps_lasts p).at s in let none = nothing s in omega (arith, same, none);
  }
    where
      p : PathState Carried
      p = waiting_path (path_begins start 0 plan) start.lines

      q : PathState Carried
      q = begins_turn p

      nothing : (s : Side) → (end_at s p).sending.heard ≡ 0
      nothing A = refl
      nothing B = refl

  step_low : (s : Side) (turns : List Turn) (turn : Turn) → LowAfter s turns → LowAfter s (turns ++ turn ∷ [])
  step_low s turns turn h = by (moment.next_path start plan x turns turn h.path h.here)
    where
      by : (q : PathState Carried) × IsPathAt 0 (at (turns ++ turn ∷ [])) q → LowAfter s (turns ++ turn ∷ [])
      by found = record {
        path = found.0;
        here = found.1;
        low = ⊎_elim (λ all. inl (what_is_there_stays start turns (turn ∷ []) x.mild s all))
            (λ low. ⊎_elim (λ all. inl (what_is_there_stays start turns (turn ∷ []) x.mild s all)) (λ on. inr on) (low_on turns turn h.path found.0 h.here found.1 s low)) h.low;
      }

  run_low : (s : Side) (before more : List Turn) → LowAfter s before → LowAfter s (before ++ more)
  run_low s before [] h = subst (LowAfter s) (sym (append-nil before)) h
  run_low s before (turn ∷ more) h = subst (LowAfter s) (append_assoc before (turn ∷ []) more) (run_low s (before ++ turn ∷ []) more (step_low s before turn h))

  always_low : (turns : List Turn) (p : PathState Carried) → IsPathAt 0 (at turns) p → (s : Side) → IsAllThere s (at turns) ⊎ IsLow s p
  always_low turns p here s =
      let h = run_low s [] turns (record { path = begins_turn (waiting_path (path_begins start 0 plan) start.lines); here = moment.opened_here start plan x; low = inr (begins_low s) }) in
      subst (λ (z : PathState Carried). IsAllThere s (at turns) ⊎ IsLow s z) (path_is (at turns) h.path p h.here here) h.low

pub heard_lies_below : HeardLiesBelow
heard_lies_below start plan turns x p here alive s = ⊎_elim (λ all. inl all) (λ low. inr (low.heard alive)) (always_low start plan x turns p here s)
