-- A run over two paths: the first segment of path 0 is lost, its repetition comes twice; path 1 dies with its bytes on the
-- way, gives them back, and path 0 sends them.
use Rattle.std.specs.Prelude.{ℕ, true, false, List, [], ◌∷◌, flat_map, codes, get_or}
use Rattle.stream_lanes.specs.Lane.{Lane, new_lane}
use Rattle.stream_lanes.specs.Moves.{Move}
use Rattle.stream_lanes.specs.Moves.Move.{Open, LookAtSender, LookAtReceiver, WantGrant, HearAck, HearSubAck, SendPiece, SendAltered, SendDataFin, SendFin, SendPair, SendFinPair, Hear, Learn, HearDataFin, HearFin, Forget, WantPlace, WantPlacePlain, WantFin, TakePair, WantPlacePair, WantFinPair, WantAckOut, SendAck}
use Rattle.stream_lanes.specs.Streams.StreamEvent.{Write, Close, Return, GoIdentity, GoInfinite, Read, Moves, Asks}
use Rattle.stream_lanes.specs.Duo.{Duo, Event, after_events, opening, opening_over}
use Rattle.stream_lanes.specs.Duo.Event.{ToB, FallA, FallB, LoosenB, BeginJoin, SendJoin, HearJoin}

-- "abcdefgh"
abbrev pub text : List ℕ
text = codes "abcdefgh"

-- a move of a path, and its ask
abbrev pub on : ℕ → Move → Event
on path move = ToB (Moves path move)

abbrev pub ask : ℕ → Event
ask path = ToB (Asks path)

-- the receiver's end asks what to acknowledge, says so, and the sender's end hears that acknowledgement
abbrev pub acknowledges : ℕ → ℕ → List Event
acknowledges path copy =
    on path WantAckOut ∷ ask path ∷ on path (SendAck 100 100 100) ∷ on path (HearAck copy) ∷ ask path ∷ []

-- the receiver's end asks what to acknowledge, says so, and the sender's end hears it by the subflow's acknowledgement
abbrev pub acknowledges_by_the_subflow : ℕ → List Event
acknowledges_by_the_subflow copy =
    on 0 WantAckOut ∷ ask 0 ∷ on 0 (SendAck 100 100 100) ∷ on 0 (HearSubAck copy 100) ∷ ask 0 ∷ []

-- the receiver's end hears a copy, learns its mapping, and places four of its bytes
abbrev pub takes_copy : ℕ → ℕ → ℕ → List Event
takes_copy path copy mapping =
    on path (Hear copy 4) ∷ on path (Learn copy) ∷ on path (WantPlace mapping 4) ∷ ask path ∷ []

abbrev pub run_of_two_paths : List Event
run_of_two_paths = flat_map (λ part. part) (
    -- path 0 opens and hears the window; path 1 joins
    (on 0 Open ∷ acknowledges 0 0)
    ∷ (BeginJoin ∷ SendJoin ∷ HearJoin ∷ on 1 Open ∷ [])
    -- path 0 is granted four bytes, whose first copy is lost, and path 1 the other four, whose only copy is lost
    ∷ (ToB (Write text) ∷ ToB Close ∷ on 0 (WantGrant 4 false) ∷ ask 0 ∷ on 0 (SendPiece 0 true) ∷ [])
    ∷ (on 1 (WantGrant 4 false) ∷ ask 1 ∷ on 1 (SendPiece 0 true) ∷ [])
    -- the repetition comes twice
    ∷ (on 0 (SendPiece 0 true) ∷ takes_copy 0 1 0)
    ∷ takes_copy 0 1 0
    ∷ acknowledges 0 1
    -- path 1 dies and gives its bytes back, which path 0 sends
    ∷ (ToB (Return 1) ∷ on 0 (WantGrant 9 false) ∷ ask 0 ∷ on 0 (SendPiece 1 true) ∷ ToB (Read 3) ∷ [])
    ∷ takes_copy 0 2 2
    ∷ acknowledges 0 2
    -- the end is told
    ∷ (on 0 (WantGrant 9 false) ∷ ask 0 ∷ on 0 SendDataFin ∷ on 0 (HearDataFin 0) ∷ ask 0 ∷ [])
    ∷ acknowledges 0 3
    ∷ (ToB (Read 100) ∷ ToB (Read 100) ∷ on 0 SendFin ∷ on 0 (HearFin 0) ∷ [])
    ∷ [])

abbrev pub after_the_run : Duo
after_the_run = after_events run_of_two_paths (opening 2 16 8)

-- A run in plain TCP: both sides fell back, no segment has an option, positions stand for places, acknowledgements of the
-- subflow for those of the stream, and the FIN for the end.
abbrev pub run_in_plain_tcp : List Event
run_in_plain_tcp = flat_map (λ part. part) (
    (on 0 Open ∷ acknowledges 0 0)
    ∷ (FallA ∷ FallB ∷ on 0 LookAtSender ∷ on 0 LookAtReceiver ∷ ToB GoIdentity ∷ [])
    ∷ (ToB (Write text) ∷ ToB Close ∷ on 0 (WantGrant 9 false) ∷ ask 0 ∷ on 0 (SendPiece 0 false) ∷ [])
    ∷ (on 0 (Hear 0 9) ∷ on 0 (WantPlacePlain 9) ∷ ask 0 ∷ [])
    ∷ acknowledges 0 1
    ∷ (on 0 (WantGrant 9 false) ∷ ask 0 ∷ on 0 SendFin ∷ on 0 (HearFin 0) ∷ on 0 WantFin ∷ ask 0 ∷ [])
    ∷ acknowledges 0 2
    ∷ (ToB (Read 100) ∷ ToB (Read 100) ∷ [])
    ∷ [])

abbrev pub after_the_plain_run : Duo
after_the_plain_run = after_events run_in_plain_tcp (opening 1 16 8)

-- A run over links that alter payload, with mappings that are checked: the first copy is altered, and its bytes are
-- forgotten where the check has failed; the repetition passes.
abbrev pub run_with_an_altered_copy : List Event
run_with_an_altered_copy = flat_map (λ part. part) (
    (on 0 Open ∷ acknowledges 0 0)
    ∷ (ToB (Write text) ∷ ToB Close ∷ on 0 (WantGrant 9 false) ∷ ask 0 ∷ on 0 (SendAltered 0 true) ∷ on 0 (SendPiece 0 true) ∷ [])
    -- the check fails: nothing is asked, and the bytes are forgotten
    ∷ (on 0 (Hear 0 8) ∷ on 0 (Learn 0) ∷ on 0 (WantPlace 0 8) ∷ on 0 (Forget 0) ∷ [])
    -- a part of the mapping isn't passed, the whole is
    ∷ (on 0 (Hear 1 8) ∷ on 0 (WantPlace 0 4) ∷ on 0 (WantPlace 0 8) ∷ ask 0 ∷ [])
    ∷ acknowledges 0 1
    ∷ (on 0 (WantGrant 9 false) ∷ ask 0 ∷ on 0 SendDataFin ∷ on 0 (HearDataFin 0) ∷ ask 0 ∷ [])
    ∷ acknowledges 0 2
    ∷ (ToB (Read 100) ∷ ToB (Read 100) ∷ [])
    ∷ [])

abbrev pub after_the_altered_run : Duo
after_the_altered_run = after_events run_with_an_altered_copy (opening_over true true 1 16 8)

-- a run in plain TCP over links that alter payload: the first copy is altered, and nothing is checked
abbrev pub run_altered_in_plain_tcp : List Event
run_altered_in_plain_tcp = flat_map (λ part. part) (
    (on 0 Open ∷ acknowledges 0 0)
    ∷ (FallA ∷ FallB ∷ on 0 LookAtSender ∷ on 0 LookAtReceiver ∷ ToB GoIdentity ∷ [])
    ∷ (ToB (Write text) ∷ ToB Close ∷ on 0 (WantGrant 9 false) ∷ ask 0 ∷ on 0 (SendAltered 0 false) ∷ [])
    ∷ (on 0 (Hear 0 9) ∷ on 0 (WantPlacePlain 9) ∷ ask 0 ∷ ToB (Read 100) ∷ [])
    ∷ [])

abbrev pub after_the_altered_plain_run : Duo
after_the_altered_plain_run = after_events run_altered_in_plain_tcp (opening_over true true 1 16 8)

-- Over links that alter payload a sole path falls to an infinite mapping: the first copy is altered and its check fails, the
-- sender's side hears so and goes by an infinite mapping, and so does the receiver's once it hears that one.
abbrev pub run_with_an_infinite_mapping : List Event
run_with_an_infinite_mapping = flat_map (λ part. part) (
    (on 0 Open ∷ acknowledges 0 0)
    ∷ (ToB (Write text) ∷ ToB Close ∷ on 0 (WantGrant 9 false) ∷ ask 0 ∷ on 0 (SendAltered 0 true) ∷ [])
    ∷ (on 0 (Hear 0 8) ∷ on 0 (Learn 0) ∷ on 0 (WantPlace 0 8) ∷ on 0 (Forget 0) ∷ [])
    -- the segment again, with the infinite mapping
    ∷ (ToB (GoInfinite 0 0) ∷ on 0 (SendPair 0) ∷ on 0 (SendPiece 0 false) ∷ [])
    ∷ (LoosenB ∷ on 0 LookAtReceiver ∷ on 0 (TakePair 0) ∷ on 0 (Hear 1 8) ∷ on 0 (WantPlacePair 8) ∷ ask 0 ∷ [])
    ∷ acknowledges_by_the_subflow 1
    -- the FIN stands for the end
    ∷ (on 0 (WantGrant 9 false) ∷ ask 0 ∷ on 0 SendFinPair ∷ on 0 (HearFin 0) ∷ on 0 WantFinPair ∷ ask 0 ∷ [])
    ∷ acknowledges_by_the_subflow 2
    ∷ (ToB (Read 100) ∷ ToB (Read 100) ∷ [])
    ∷ [])

abbrev pub after_the_infinite_run : Duo
after_the_infinite_run = after_events run_with_an_infinite_mapping (opening_over true true 1 16 8)

-- Path 0 has places 5 and 6, and behind them those that path 1 had before it died; a copy of path 1 comes all the same, so
-- these are acknowledged, and 5 and 6 are not.
abbrev pub run_with_a_late_copy : List Event
run_with_a_late_copy = flat_map (λ part. part) (
    (on 0 Open ∷ acknowledges 0 0)
    ∷ (BeginJoin ∷ SendJoin ∷ HearJoin ∷ on 1 Open ∷ ToB (Write text) ∷ [])
    ∷ (on 1 (WantGrant 5 false) ∷ ask 1 ∷ on 1 (SendPiece 0 true) ∷ on 0 (WantGrant 2 false) ∷ ask 0 ∷ [])
    ∷ (ToB (Return 1) ∷ on 0 (WantGrant 5 false) ∷ ask 0 ∷ [])
    ∷ (on 1 (Hear 0 5) ∷ on 1 (Learn 0) ∷ on 1 (WantPlace 0 5) ∷ ask 1 ∷ [])
    ∷ acknowledges 0 1
    ∷ [])

abbrev pub after_the_rising_run : Duo
after_the_rising_run = after_events run_with_a_late_copy (opening_over true true 2 16 8)

-- path 0 there
abbrev pub first_lane : Lane
first_lane = get_or after_the_rising_run.ab.lanes 0 new_lane
