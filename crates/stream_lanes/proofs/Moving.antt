-- Every move of a lane keeps what holds of it.
--
-- Windows are part of it: an acknowledgement with its window reaches no further than the receiver takes, and while no
-- AckOut is due the position with the window of the latest one doesn't either. Without that `Beyond` isn't excluded.
--
-- A branch is a lemma over the Bool with both cases, `held_if`, `step_if`; a lookup is a function of the `Option`, and
-- the lemma takes `slice_get .. ≡ o`. A rule's case is then one line of the dispatch.
--
-- Wrong rules were tried as edits of the definitions. For each the lemma of that rule is no longer proved, and where a
-- run is named, that run computes to a breach with it:
--
-- Bytes are placed in the order of their arrival: `want_place_held` (`Placing`): the second half comes first on path 1:
-- the reader gets `efgh`.
--
-- AckOut tells the highest place: `lane_asks` at AckOut (`ack_out_held`): the second half alone came: all eight bytes
-- are acknowledged, none was received.
--
-- Return acknowledges: `after_held` at Return (`return_step`), `return_moves`: four bytes are acknowledged, none was
-- received.
--
-- A byte is granted to a path twice, since Return forgets who tried it: the same: a path has 16 bytes of a stream of
-- eight.
--
-- A FIN at any time, or once the end is known: `send_fin_held` (`Ending`): in plain TCP the reader has `abcd` and is
-- told the end.
--
-- An acknowledgement before AckOut: `moved_held` at SendAck (`send_ack_held`): in plain TCP with room for four bytes
-- the next four are answered `Beyond`.
--
-- A fall after a join (A; B): `falls_a_goes`; `falls_b_goes` (`Duos`): the second half came on path 0: four bytes are
-- acknowledged, none was received.
--
-- A join is answered after the fall: `hears_goes`: B fell and answered.
--
-- A path that no join opened asks for bytes: `moved_held` at Open (`open_held`).
--
-- The subflow's acknowledgement always stands for the stream's: `hear_ack_held`: four bytes are acknowledged, none was
-- received.
--
-- A larger window than was told: `send_ack_held`: eight bytes where four are taken: `Beyond`.
--
-- The edge passes a gap: `row` (`Placing`): the second half first: the reader gets `efgh`.
--
-- A FIN counts before the bytes before it: `hear_fin_held`.
--
-- A FIN is the end outside plain TCP: `moved_held` at WantFin (`want_fin_held`).
--
-- A mapping gives places past its end: `want_place_held`.
--
-- A byte of a grant is recorded one place on: `granted_held`.
--
-- A reader reads on after an abort: `read_step`, `aborted_is_no_end`.
use Rattle.stream_lanes.proofs.Words.{refl, ℕ, nat_lt, ◌&&◌, and_parts, ltb-true, slice_get, Lane, AskGrant, AskAckOut, Flags, Move, moved, View, LaneHolds}
use Rattle.stream_lanes.proofs.Words.{Open, LookAtSender, LookAtReceiver, WantGrant, HearAck, HearSubAck, SendPiece, SendAltered, SendDataFin, SendFin}
use Rattle.stream_lanes.proofs.Words.{SendPair, SendPlainPair, SendFinPair, Hear, Learn, HearDataFin, HearFin, Forget, WantPlace, WantPlacePlain, WantFin}
use Rattle.stream_lanes.proofs.Words.{TakePair, WantPlacePair, WantFinPair, WantAckOut, SendAck}
use Rattle.stream_lanes.proofs.Local.{ViewFits, FlagsFit, held_if, with_ask, open_held, look_at_sender_held, look_at_receiver_held, hear_ack_held, send_piece_held, send_altered_held, forget_held, send_data_fin_held, hear_held, learn_held, hear_data_fin_held, hear_fin_held}
use Rattle.stream_lanes.proofs.Placing.{want_place_held, want_place_plain_held, want_place_pair_held}
use Rattle.stream_lanes.proofs.Ending.{send_fin_held, want_fin_held, send_ack_held}
use Rattle.stream_lanes.proofs.Endless.{hear_sub_held, send_pair_held, send_plain_pair_held, send_fin_pair_held, take_pair_held, want_fin_pair_held}

pub moved_held : (f : Flags) (v : View) (path : ℕ) (move : Move) (p : Lane) → ViewFits v → FlagsFit f v → LaneHolds v path p → LaneHolds v path (moved f path move p)
moved_held f v path Open p fits flags h = open_held v path f p flags h
moved_held f v path LookAtSender p fits flags h = look_at_sender_held v path f p flags h
moved_held f v path LookAtReceiver p fits flags h = look_at_receiver_held v path f p flags h
moved_held f v path (WantGrant max standby) p fits flags h =
    held_if v path (p.opened && nat_lt 0 max) p (record p { asking = AskGrant max standby }) (λ may.
    let both = and_parts p.opened (nat_lt 0 max) may in
    with_ask v path p (AskGrant max standby) (both.0, ltb-true 0 max both.1) h) h
moved_held f v path (HearAck copy) p fits flags h = hear_ack_held v path (slice_get p.acks copy) copy p fits refl h
moved_held f v path (HearSubAck copy upto) p fits flags h = hear_sub_held v path fits upto (slice_get p.acks copy) p.pair copy p refl refl h
moved_held f v path (SendPiece piece mapped) p fits flags h = send_piece_held v path mapped (slice_get p.pieces piece) piece p refl h
moved_held f v path (SendAltered piece mapped) p fits flags h = send_altered_held v path mapped (slice_get p.pieces piece) piece p refl h
moved_held f v path SendDataFin p fits flags h = send_data_fin_held v path p.known_end p refl h
moved_held f v path SendFin p fits flags h = send_fin_held v path fits p h
moved_held f v path (SendPair shift) p fits flags h = send_pair_held v path fits shift p.pair p refl h
moved_held f v path (SendPlainPair pos) p fits flags h = send_plain_pair_held v path fits pos p h
moved_held f v path SendFinPair p fits flags h = send_fin_pair_held v path fits p.pair p refl h
moved_held f v path (Hear copy count) p fits flags h = hear_held v path count (slice_get p.datas copy) copy p refl h
moved_held f v path (Learn copy) p fits flags h = learn_held v path (slice_get p.datas copy) copy p refl h
moved_held f v path (HearDataFin copy) p fits flags h = hear_data_fin_held v path (slice_get p.data_fins copy) copy p refl h
moved_held f v path (HearFin copy) p fits flags h = hear_fin_held v path (slice_get p.fins copy) copy p refl h
moved_held f v path (Forget from) p fits flags h = forget_held v path from p h
moved_held f v path (WantPlace mapping count) p fits flags h = want_place_held v path p h count (slice_get p.maps mapping) mapping refl
moved_held f v path (WantPlacePlain count) p fits flags h = want_place_plain_held v path p h count fits
moved_held f v path WantFin p fits flags h = want_fin_held v path fits p h
moved_held f v path (TakePair copy) p fits flags h = take_pair_held v path fits (slice_get p.pairs copy) copy p refl h
moved_held f v path (WantPlacePair count) p fits flags h = want_place_pair_held v path p h count p.taken refl
moved_held f v path WantFinPair p fits flags h = want_fin_pair_held v path fits p.taken p refl h
moved_held f v path WantAckOut p fits flags h = with_ask v path p AskAckOut tt h
moved_held f v path (SendAck next window sub) p fits flags h = send_ack_held v path fits next window sub p h
