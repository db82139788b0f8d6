-- No duty asks more than it may: its asks are of its kinds, at the books of its side, and of the path itself.
use Rattle.world_laws.proofs.Words.{◌≡◌, refl, ℕ, true, Option, Some, None, Side, JoinSyn, Record, Pending, Piece, Duty, SendDuty, StepDuty, AskDuty}
use Rattle.world_laws.proofs.Words.{SilentDuty, Heard, KeyPair, key_heard, keys_heard, PeerNotice, Ask, Codec, ask_for, PathState, end_at, path_of, break_ask}
use Rattle.world_laws.proofs.Words.{first_unsent, data_ask, next_event, step_for, asked_at, join_heard_ask, piece_of, piece_ask, place_of_fin, data_fin_of}
use Rattle.world_laws.proofs.Words.{fin_ask, is_clash, item_ask, item_of, breaks_by_ack, peer_key_ask, opened_ask, notice_ask, rate_ask, side_of, May, asking}
use Rattle.world_laws.proofs.Words.{IsAsked, asks_of_steps, asks_of_books}
use Rattle.path_core.specs.declared.events.Event.{Event}
use Rattle.world_laws.proofs.Falls.FailedChecks.{fail_asks_so, subflow_acks_so}
use Rattle.world_laws.proofs.Words.{if_so}

module _ {C : Type 0} (k : Codec C) (p : PathState C) where
  -- a break acknowledges or resets
  broken_asked : (m : May) (s : Side) (reason : ℕ) → m.ack_out ≡ true → m.sent ≡ true → IsAsked p s m (break_ask k s reason p)
  broken_asked m s reason out sent =
      if_so (IsAsked p s m) (end_at s p).treated.asked _ _ (record { kind = out; side = refl; own = tt }) (record { kind = sent; side = tt; own = tt })

  happens_asked : (o : Option Event) → IsAsked p (side_of (Duty.Step StepDuty.Events)) (asks_of_steps StepDuty.Events) (step_for (path_of p) o)
  happens_asked (Some (Event.Joins tick)) = record { kind = refl; side = refl; own = refl }
  happens_asked _ = record { kind = refl; side = tt; own = tt }

  key_asked : (s : Side) (o : Option ℕ) → IsAsked p s (asks_of_books (AskDuty.PeerKey s)) (peer_key_ask s o p)
  key_asked s None = record { kind = refl; side = refl; own = refl }
  key_asked s (Some key) = record { kind = refl; side = refl; own = tt }

  opened_asked : (s : Side) (o : Option KeyPair) → IsAsked p s (asks_of_books (AskDuty.Opened s)) (opened_ask s o p)
  opened_asked s None = record { kind = refl; side = refl; own = refl }
  opened_asked s (Some keys) = record { kind = refl; side = refl; own = tt }

  join_asked : (s : Side) (o : Option JoinSyn) → IsAsked p s (asks_of_books (AskDuty.JoinHeard s)) (join_heard_ask s o p)
  join_asked s None = record { kind = refl; side = tt; own = tt }
  join_asked s (Some asked) = record { kind = refl; side = refl; own = refl }

  note_asked : (s : Side) (index : ℕ) (notice : PeerNotice) → IsAsked p s (asks_of_steps (StepDuty.Heard s index)) (notice_ask s notice p)
  note_asked s index (PeerNotice.Prio backup) = record { kind = refl; side = refl; own = refl }
  note_asked s index _ = record { kind = refl; side = refl; own = tt }

  pub item_asked : (s : Side) (index : ℕ) (o : Option Heard) → IsAsked p s (asks_of_steps (StepDuty.Heard s index)) (item_ask k s o p)
  item_asked s index (Some (Heard.DataAck next window)) = record { kind = refl; side = refl; own = tt }
  item_asked s index (Some (Heard.Mapping fin)) =
      if_so (IsAsked p s (asks_of_steps (StepDuty.Heard s index))) (is_clash (end_at s p)) _ _
      (broken_asked (asks_of_steps (StepDuty.Heard s index)) s 1 refl refl) (record { kind = refl; side = refl; own = refl })
  item_asked s index (Some (Heard.DataFin place)) = record { kind = refl; side = refl; own = refl }
  item_asked s index (Some (Heard.InfiniteMapping place position)) = record { kind = refl; side = refl; own = refl }
  item_asked s index (Some (Heard.Keys own peer)) = record { kind = refl; side = refl; own = tt }
  item_asked s index (Some (Heard.Notice notice)) = note_asked s index notice
  item_asked s index (Some Heard.Fail) =
      fail_asks_so (IsAsked p s (asks_of_steps (StepDuty.Heard s index))) s p (record { kind = refl; side = refl; own = refl }) (record { kind = refl; side = refl; own = refl })
  item_asked s index (Some (Heard.FastClose key)) = record { kind = refl; side = refl; own = tt }
  item_asked s index _ = record { kind = refl; side = tt; own = tt }

  piece_asked : (s : Side) (o : Option Piece) → IsAsked p s (asks_of_books (AskDuty.Edge s)) (piece_ask s o)
  piece_asked s None = record { kind = refl; side = tt; own = tt }
  piece_asked s (Some piece) = record { kind = refl; side = refl; own = tt }

  fin_asked : (s : Side) (o : Option ℕ) → IsAsked p s (asks_of_books (AskDuty.SubflowFin s)) (fin_ask s o)
  fin_asked s None = record { kind = refl; side = tt; own = tt }
  fin_asked s (Some place) = record { kind = refl; side = refl; own = tt }

  bytes_asked : (s : Side) (o : Option Record) → IsAsked p s (asks_of_steps (StepDuty.Data s)) (data_ask k s o p)
  bytes_asked s None = record { kind = refl; side = refl; own = (refl, refl) }
  bytes_asked s (Some r) = record { kind = refl; side = tt; own = tt }

  rate_asked : (s : Side) (o : Option Pending) → IsAsked p s (asks_of_books (AskDuty.Rate s)) (rate_ask s o p)
  rate_asked s None = record { kind = refl; side = tt; own = tt }
  rate_asked s (Some pending) = record { kind = refl; side = refl; own = refl }

  pub asks_no_more : (d : Duty) → IsAsked p (side_of d) (asking d) (ask_for k d p)
  asks_no_more (Duty.Ask AskDuty.JoinAgain) = record { kind = refl; side = refl; own = refl }
  asks_no_more (Duty.Ask (AskDuty.PlainHandshake s)) = record { kind = refl; side = refl; own = refl }
  asks_no_more (Duty.Ask (AskDuty.PeerKey s)) = key_asked s (key_heard (end_at s p).treated.items)
  asks_no_more (Duty.Ask (AskDuty.JoinHeard s)) = join_asked s (asked_at s p)
  asks_no_more (Duty.Ask (AskDuty.Opened s)) = opened_asked s (keys_heard (end_at s p).treated.items)
  asks_no_more (Duty.Ask (AskDuty.Live s)) = record { kind = refl; side = refl; own = refl }
  asks_no_more (Duty.Ask (AskDuty.AckHeard s)) = record { kind = refl; side = refl; own = refl }
  asks_no_more (Duty.Ask (AskDuty.FailHeard s)) = record { kind = refl; side = refl; own = refl }
  asks_no_more (Duty.Ask (AskDuty.SubflowAck s)) =
      subflow_acks_so (IsAsked p s (asks_of_books (AskDuty.SubflowAck s))) s (end_at s p) (record { kind = refl; side = tt; own = tt })
      (λ next. record { kind = refl; side = refl; own = tt })
  asks_no_more (Duty.Ask (AskDuty.PlainData s)) = record { kind = refl; side = refl; own = refl }
  asks_no_more (Duty.Ask (AskDuty.Edge s)) = piece_asked s (piece_of s p)
  asks_no_more (Duty.Ask (AskDuty.CheckFailed s)) = record { kind = refl; side = refl; own = refl }
  asks_no_more (Duty.Ask (AskDuty.HeardFin s index)) = fin_asked s (data_fin_of index (end_at s p))
  asks_no_more (Duty.Ask (AskDuty.SubflowFin s)) = fin_asked s (place_of_fin (end_at s p))
  asks_no_more (Duty.Ask (AskDuty.Rate s)) = rate_asked s (end_at s p).tcp.congestion.pending
  asks_no_more (Duty.Ask (AskDuty.Return s)) = record { kind = refl; side = refl; own = refl }
  asks_no_more (Duty.Ask (AskDuty.LeaveNoted s)) = record { kind = refl; side = refl; own = refl }
  asks_no_more (Duty.Ask (AskDuty.Leave s)) = record { kind = refl; side = refl; own = refl }
  asks_no_more (Duty.Ask (AskDuty.Dead s)) = record { kind = refl; side = refl; own = refl }
  asks_no_more (Duty.Ask d) = record { kind = refl; side = refl; own = tt }
  asks_no_more (Duty.Step (StepDuty.Look s)) = record { kind = refl; side = refl; own = refl }
  asks_no_more (Duty.Step (StepDuty.Data s)) = bytes_asked s (first_unsent (end_at s p))
  asks_no_more (Duty.Step StepDuty.Events) = happens_asked (next_event p)
  asks_no_more (Duty.Step (StepDuty.Heard s index)) = item_asked s index (item_of index (end_at s p))
  asks_no_more (Duty.Step (StepDuty.PlainAck s)) =
      if_so (IsAsked p s (asks_of_steps (StepDuty.PlainAck s))) (breaks_by_ack p.profile (end_at s p)) _ _
      (broken_asked (asks_of_steps (StepDuty.PlainAck s)) s 6 refl refl) (record { kind = refl; side = refl; own = refl })
  asks_no_more (Duty.Step (StepDuty.Unmapped s)) = broken_asked (asks_of_steps (StepDuty.Unmapped s)) s 6 refl refl
  asks_no_more (Duty.Send (SendDuty.Update s)) = record { kind = refl; side = tt; own = tt }
  asks_no_more (Duty.Silent (SilentDuty.Timer s)) = record { kind = refl; side = tt; own = tt }
  asks_no_more _ = record { kind = refl; side = tt; own = tt }
