-- A direction of a connection, and what is done to the lane of one path in it: moves of the lane, then at most one call of its
-- books, and moves again.
use Rattle.world_laws.proofs.Words.{◌≡◌, refl, sym, ◌∙◌, ap, ℕ, zero, suc, Bool, true, false, Some, List, [], ◌∷◌, ◌++◌, length, arith, ◌<◌, set, and_parts}
use Rattle.world_laws.proofs.Words.{and_from, false≢true, set-set, slice_get, list_all, Arriving, arrival_reply, Place, AckOut, Sending, after_send, send_reply}
use Rattle.world_laws.proofs.Words.{AckIn, Lane, LaneAsk, Direction, asks, asks_at, Reader, moves_in, Flags, Move, moved, takes_grant, takes_ack, takes_placed}
use Rattle.world_laws.proofs.Words.{takes_fin, takes_ack_out, Nothing, AskGrant, AskAckIn, AskPlace, AskFin, AskAckOut, Moves, Asks, Open, LookAtSender}
use Rattle.world_laws.proofs.Words.{LookAtReceiver}
use Rattle.send_book.specs.declared.call.SendCall.TheVariants.{Grant}
use Rattle.reassembly_book.specs.declared.call.ReassemblyCall.TheVariants.{Fin}
use Rattle.reassembly_book.specs.Steps.{after_call as after_arrival}
use Rattle.stream_lanes.specs.Streams.{after}

-- no side fell back, and no join was answered
abbrev pub no_flags : Flags
no_flags = record { answered = false; sender = false; receiver = false; loose = false; alters = false; checked = false }

-- a move that isn't the opening of a lane, and looks at no mode
abbrev pub is_calm : Move → Bool
is_calm Open = false
is_calm LookAtSender = false
is_calm LookAtReceiver = false
is_calm _ = true

abbrev pub move : Move → Lane → Lane
move m p = moved no_flags 0 m p

-- a lane moves alike on all paths
pub moves_alike : (f : Flags) (path : ℕ) (m : Move) (p : Lane) → is_calm m ≡ true → moved f path m p ≡ move m p
moves_alike f path Open p calm = absurd (false≢true calm)
moves_alike f path LookAtSender p calm = absurd (false≢true calm)
moves_alike f path LookAtReceiver p calm = absurd (false≢true calm)
moves_alike f path _ p calm = refl

-- the lane after these moves, the first one first
abbrev pub moves : List Move → Lane → Lane
moves [] p = p
moves (m ∷ ms) p = moves ms (move m p)

pub moves-append : (ms ns : List Move) (p : Lane) → moves (ms ++ ns) p ≡ moves ns (moves ms p)
moves-append [] ns p = refl
moves-append (m ∷ ms) ns p = moves-append ms ns (move m p)

-- from one lane to another by moves alone
pub record Strolls (p q : Lane) : Type 0 where
  pub by : List Move
  pub calm : list_all is_calm by ≡ true
  pub to : q ≡ moves by p

pub stays : (p : Lane) → Strolls p p
stays p = record { by = []; calm = refl; to = refl }

pub one_move : (m : Move) (p q : Lane) → is_calm m ≡ true → q ≡ move m p → Strolls p q
one_move m p q calm to = record { by = m ∷ []; calm = and_from (is_calm m) true calm refl; to = to }

all-append : (ms ns : List Move) → list_all is_calm ms ≡ true → list_all is_calm ns ≡ true → list_all is_calm (ms ++ ns) ≡ true
all-append [] ns a b = b
all-append (m ∷ ms) ns a b = let parts = and_parts (is_calm m) (list_all is_calm ms) a in and_from (is_calm m) (list_all is_calm (ms ++ ns)) parts.0 (all-append ms ns parts.1 b)

pub then_strolls : (p q r : Lane) → Strolls p q → Strolls q r → Strolls p r
then_strolls p q r x y = record { by = x.by ++ y.by; calm = all-append x.by y.by x.calm y.calm; to = y.to ∙ ap (moves y.by) x.to ∙ sym (moves-append x.by y.by p) }

-- ---- among the lanes of a direction

-- what is put at a place is there
pub put_there : {X : Type 0} (xs : List X) (i : ℕ) (x : X) → i < length xs → slice_get (set xs i x) i ≡ Some x
put_there [] i x within = absurd (omega (arith, within))
put_there (y ∷ xs) zero x within = refl
put_there (y ∷ xs) (suc i) x within = put_there xs i x (omega (arith, within))

-- what is there may be put there
pub there_again : {X : Type 0} (xs : List X) (i : ℕ) (x : X) → slice_get xs i ≡ Some x → set xs i x ≡ xs
there_again [] i x there = refl
there_again (y ∷ xs) zero x there = let same : y ≡ x = cc in ap (λ z. z ∷ xs) (sym same)
there_again (y ∷ xs) (suc i) x there = ap (λ zs. y ∷ zs) (there_again xs i x there)

-- with this lane at this place
abbrev pub direction : Sending → Arriving → List Lane → Reader → Direction
direction send arrived lanes reader = record { send = send; arrived = arrived; lanes = lanes; reader = reader }

module _ (lanes : List Lane) (number : ℕ) (send : Sending) (arrived : Arriving) (reader : Reader) where
  abbrev pub with_lane : Lane → Direction
  with_lane p = direction send arrived (set lanes number p) reader

  -- after this ask of the lane
  abbrev pub with_asked : LaneAsk → Lane → Direction
  with_asked Nothing p = with_lane p
  with_asked (AskGrant max standby) p =
      let call = Grant number max standby in direction (after_send send call) arrived (set lanes number (takes_grant (send_reply send call) p)) reader
  with_asked (AskAckIn next window) p =
      let call = AckIn next window in direction (after_send send call) arrived (set lanes number (takes_ack next (send_reply send call) p)) reader
  with_asked (AskPlace at bytes) p =
      let call = Place at bytes in direction send (after_arrival arrived call) (set lanes number (takes_placed (length bytes) (arrival_reply arrived call) p)) reader
  with_asked (AskFin at) p =
      let call = Fin at in direction send (after_arrival arrived call) (set lanes number (takes_fin (arrival_reply arrived call) p)) reader
  with_asked AskAckOut p = direction send (after_arrival arrived AckOut) (set lanes number (takes_ack_out (arrival_reply arrived AckOut) p)) reader

  put_twice : (s : Sending) (b : Arriving) (p q : Lane) → direction s b (set (set lanes number p) number q) reader ≡ direction s b (set lanes number q) reader
  put_twice s b p q = ap (λ others. direction s b others reader) (set-set lanes number p q)

  asks_there : (a : LaneAsk) (p : Lane) → asks number a p (with_lane p) ≡ with_asked a p
  asks_there = elim [ Nothing ↦ λ p. refl | _ ↦ λ p. put_twice _ _ p _ ]

  module _ (f : Flags) (within : number < length lanes) where
    pub moved_there : (m : Move) (p : Lane) → is_calm m ≡ true → after f (Moves number m) (with_lane p) ≡ with_lane (move m p)
    moved_there m p calm =
        ap (λ o. moves_in f number m o (with_lane p)) (put_there lanes number p within)
        ∙ put_twice send arrived p (moved f number m p)
        ∙ ap with_lane (moves_alike f number m p calm)

    pub asked_there : (p : Lane) → after f (Asks number) (with_lane p) ≡ with_asked p.asking p
    asked_there p = ap (λ o. asks_at number o (with_lane p)) (put_there lanes number p within) ∙ asks_there p.asking p
