-- Each word of a log is made of octets that are seen: it holds neither a space nor an end of a line.
use Rattle.run_log.proofs.Words.{◌≡◌, ℕ, Bool, true, false, ◌&&◌, List, [], ◌∷◌, ◌++◌, length, map, Some, None, refl, arith, Option, not, nat_lt, nat_le, ◌==◌}
use Rattle.run_log.proofs.Words.{decimal, list_all, AllByRecursion, flat_map, and_parts, and_from, le-leb, lt-ltb, nat_tests, digits_decimal, decimal_nonempty}
use Rattle.run_log.proofs.Words.{length-decimal-le, recursion_from_All, is_ascii_digit, Row, Event, Verdict, Address, octets_of, Side, digits, Notice}
use Rattle.run_log.proofs.Words.{ControlCall, ControlReply, ReassemblyCall, ReassemblyReply, SendCall, SendReply, Ask, LocalStep, IsLong, IsByte, OptionFits}
use Rattle.run_log.proofs.Words.{SendCallFits, SendReplyFits, ReassemblyCallFits, ReassemblyReplyFits, HeardFits, ControlCallFits, VerdictFits, NoticeFits}
use Rattle.run_log.proofs.Words.{RowFits, ControlReplyFits, LocalFits, AskFits, flag_word, optional_word, reason_word, mode_word, event_words, verdict_words}
use Rattle.run_log.proofs.Words.{notice_words, send_call_words, reassembly_call_words, heard_words, control_call_words, local_words, ask_words}
use Rattle.run_log.proofs.Words.{send_reply_words, reassembly_reply_words, row_words, control_reply_words}
use Rattle.fallback_state.specs.declared.fall.Mode.{Mode}
use Rattle.send_book.specs.declared.call.Why.{Why}
use Rattle.sides.specs.Side.{side_word}

-- an octet that is seen, and isn't '='
abbrev pub is_seen : ℕ → Bool
is_seen octet = nat_le 33 octet && (nat_le octet 126 && not (octet == 61))

-- 1 to 20 of them
abbrev pub is_plain : List ℕ → Bool
is_plain word = list_all is_seen word && (nat_lt 0 (length word) && nat_le (length word) 20)

abbrev pub IsPlain : List ℕ → Type 0
IsPlain word = is_plain word ≡ true

abbrev pub ArePlain : List (List ℕ) → Type 0
ArePlain words = AllByRecursion IsPlain words

seen_digit : (octet : ℕ) → is_ascii_digit octet ≡ true → is_seen octet ≡ true
seen_digit octet h = grind (arith, nat_tests)

seen_digits : (word : List ℕ) → list_all is_ascii_digit word ≡ true → list_all is_seen word ≡ true
seen_digits [] h = refl
seen_digits (octet ∷ word) h =
    let parts = and_parts (is_ascii_digit octet) (list_all is_ascii_digit word) h in
    and_from _ _ (seen_digit octet parts.0) (seen_digits word parts.1)

pub plain_number : (n : ℕ) → IsLong n → IsPlain (decimal n)
plain_number n h =
    and_from _ _ (seen_digits (decimal n) (digits_decimal digits n h)) (and_from _ _ (lt-ltb 0 (length (decimal n)) (decimal_nonempty n h)) (le-leb (length (decimal n)) 20 (length-decimal-le 20 n (omega arith) (omega arith) h)))

pub plain_flag : (on : Bool) → IsPlain (flag_word on)
plain_flag = elim [ true ↦ refl | false ↦ refl ]

plain_optional : (n : Option ℕ) → OptionFits n → IsPlain (optional_word n)
plain_optional = elim [ Some n ↦ λ h. plain_number n h | None ↦ λ h. refl ]

pub plain_side : (side : Side) → IsPlain (side_word side)
plain_side = elim [ Side.A ↦ refl | Side.B ↦ refl ]

plain_reason : (why : Why) → IsPlain (reason_word why)
plain_reason = elim [ Why.Ended ↦ refl | _ ↦ refl ]

plain_mode : (mode : Mode) → IsPlain (mode_word mode)
plain_mode = elim [ Mode.Starting ↦ refl | _ ↦ refl ]

plain_event : (event : Event) → ArePlain (event_words event)
plain_event = elim [ Event.FailHeard contiguous ↦ (refl, (plain_flag contiguous, tt)) | _ ↦ (refl, tt) ]

plain_verdict : (verdict : Verdict) → VerdictFits verdict → ArePlain (verdict_words verdict)
plain_verdict Verdict.Stay h = (refl, tt)
plain_verdict (Verdict.Went mode) h = (refl, (plain_mode mode, tt))
plain_verdict Verdict.SendFail h = (refl, tt)
plain_verdict (Verdict.BreakPath reason) h = (refl, (plain_number reason h, tt))

plain_notice : (notice : Notice) → NoticeFits notice → ArePlain (notice_words notice)
plain_notice Notice.Nothing h = (refl, tt)
plain_notice (Notice.Announce id) h = (refl, (plain_number id h, tt))
plain_notice (Notice.Withdraw id) h = (refl, (plain_number id h, tt))
plain_notice (Notice.Carrier key) h = (refl, (plain_number key h, tt))
plain_notice Notice.Reset h = (refl, tt)

-- ---- what is asked

plain_send_call : (call : SendCall) → SendCallFits call → ArePlain (send_call_words call)
plain_send_call (SendCall.Write bytes) h = (refl, (plain_number (length bytes) h, tt))
plain_send_call (SendCall.Grant path max standby) h = (refl, (plain_number path h.0, (plain_number max h.1, (plain_flag standby, tt))))
plain_send_call (SendCall.AckIn next window) h = (refl, (plain_number next h.0, (plain_number window h.1, tt)))
plain_send_call (SendCall.Return path) h = (refl, (plain_number path h, tt))
plain_send_call (SendCall.GoInfinite path) h = (refl, (plain_number path h, tt))
plain_send_call _ h = (refl, tt)

plain_reassembly_call : (call : ReassemblyCall) → ReassemblyCallFits call → ArePlain (reassembly_call_words call)
plain_reassembly_call (ReassemblyCall.Place at bytes) h = (refl, (plain_number at h.0, (plain_number (length bytes) h.1, tt)))
plain_reassembly_call (ReassemblyCall.Fin at) h = (refl, (plain_number at h, tt))
plain_reassembly_call (ReassemblyCall.Read max) h = (refl, (plain_number max h, tt))
plain_reassembly_call ReassemblyCall.AckOut h = (refl, tt)
plain_reassembly_call (ReassemblyCall.Abort by_peer) h = (refl, (plain_flag by_peer, tt))

plain_append : (words others : List (List ℕ)) → ArePlain words → ArePlain others → ArePlain (words ++ others)
plain_append [] others h rest = rest
plain_append (word ∷ words) others h rest = (h.0, plain_append words others h.1 rest)

plain_octets : (octets : List ℕ) → AllByRecursion IsByte octets → ArePlain (map decimal octets)
plain_octets [] h = tt
plain_octets (octet ∷ octets) h = (plain_number octet (omega (arith, h.0)), plain_octets octets h.1)

pub plain_heard : (id : ℕ) (address : Address) (port hmac : ℕ) → HeardFits id address port hmac → ArePlain (heard_words id (octets_of address) port hmac)
plain_heard id address port hmac h =
    (refl, (plain_number id (omega (arith, h.0)), plain_append (map decimal (octets_of address)) (decimal port ∷ decimal hmac ∷ []) (plain_octets (octets_of address) h.1.0.octets) (plain_number port (omega (arith, h.1.1.0)), (plain_number hmac h.1.1.1, tt))))

plain_control_call : (call : ControlCall) → ControlCallFits call → ArePlain (control_call_words call)
plain_control_call (ControlCall.Look path) h = (refl, (plain_number path h, tt))
plain_control_call (ControlCall.PeerKey key) h = (refl, (plain_number key h, tt))
plain_control_call (ControlCall.Keys own peer) h = (refl, (plain_number own h.0, (plain_number peer h.1, tt)))
plain_control_call (ControlCall.Fell path event) h = (refl, (plain_number path h, plain_event event))
plain_control_call (ControlCall.JoinBegin path) h = (refl, (plain_number path h, tt))
plain_control_call (ControlCall.JoinHeard path token) h = (refl, (plain_number path h.0, (plain_number token h.1, tt)))
plain_control_call (ControlCall.Live path backup) h = (refl, (plain_number path h, (plain_flag backup, tt)))
plain_control_call (ControlCall.Dead path) h = (refl, (plain_number path h, tt))
plain_control_call (ControlCall.Backup path on) h = (refl, (plain_number path h, (plain_flag on, tt)))
plain_control_call (ControlCall.Rate path window rtt) h = (refl, (plain_number path h.0, (plain_number window h.1.0, (plain_number rtt h.1.1, tt))))
plain_control_call (ControlCall.Announce id) h = (refl, (plain_number id h, tt))
plain_control_call (ControlCall.Withdraw id) h = (refl, (plain_number id h, tt))
plain_control_call (ControlCall.Heard id address port hmac) h = plain_heard id address port hmac h
plain_control_call (ControlCall.Echoed id) h = (refl, (plain_number id h, tt))
plain_control_call (ControlCall.Removed id) h = (refl, (plain_number id h, tt))
plain_control_call ControlCall.FastClose h = (refl, tt)
plain_control_call (ControlCall.FastHeard key) h = (refl, (plain_number key h, tt))

plain_local : (step : LocalStep) → LocalFits step → ArePlain (local_words step)
plain_local (LocalStep.Arrive to copy) h = (refl, (plain_side to, (plain_number copy h, tt)))
plain_local (LocalStep.Fire side) h = (refl, (plain_side side, tt))
plain_local (LocalStep.Line number) h = (refl, (plain_number number h, tt))
plain_local (LocalStep.Sent from copy length sum) h = (refl, (plain_side from, (plain_number copy h.0, (plain_number length h.1.0, (plain_number sum h.1.1, tt)))))
plain_local LocalStep.End h = (refl, tt)

pub plain_ask : (ask : Ask) → AskFits ask → ArePlain (ask_words ask)
plain_ask (Ask.Send side call) h = plain_send_call call h
plain_ask (Ask.Reassembly side call) h = plain_reassembly_call call h
plain_ask (Ask.Control side call) h = plain_control_call call h
plain_ask (Ask.Local step) h = plain_local step h

-- ---- what is answered

pub plain_send_reply : (reply : SendReply) → SendReplyFits reply → ArePlain (send_reply_words reply)
plain_send_reply (SendReply.Taken count) h = (refl, (plain_number count h, tt))
plain_send_reply (SendReply.Granted span piece) h = (refl, (plain_number span.from h.0, (plain_number span.to h.1, tt)))
plain_send_reply (SendReply.NoGrant why known_end) h = (refl, (plain_reason why, (plain_optional known_end h, tt)))
plain_send_reply (SendReply.Acked bytes fin) h = (refl, (plain_number bytes h, (plain_flag fin, tt)))
plain_send_reply (SendReply.AckFuture written) h = (refl, (plain_number written h, tt))
plain_send_reply (SendReply.Returned count) h = (refl, (plain_number count h, tt))
plain_send_reply (SendReply.Infinite from) h = (refl, (plain_number from h, tt))
plain_send_reply _ h = (refl, tt)

pub plain_reassembly_reply : (reply : ReassemblyReply) → ReassemblyReplyFits reply → ArePlain (reassembly_reply_words reply)
plain_reassembly_reply (ReassemblyReply.Placed count) h = (refl, (plain_number count h, tt))
plain_reassembly_reply (ReassemblyReply.Beyond edge) h = (refl, (plain_number edge h, tt))
plain_reassembly_reply (ReassemblyReply.FinClash fin at) h = (refl, (plain_number fin h.0, (plain_number at h.1, tt)))
plain_reassembly_reply (ReassemblyReply.Bytes bytes) h = (refl, (plain_number (length bytes) h, tt))
plain_reassembly_reply (ReassemblyReply.Aborted by_peer) h = (refl, (plain_flag by_peer, tt))
plain_reassembly_reply (ReassemblyReply.Ack next window) h = (refl, (plain_number next h.0, (plain_number window h.1, tt)))
plain_reassembly_reply _ h = (refl, tt)

plain_rows : (rows : List Row) → AllByRecursion RowFits rows → ArePlain (flat_map row_words rows)
plain_rows [] h = tt
plain_rows (row ∷ rows) h =
    plain_append (row_words row) (flat_map row_words rows) (plain_number row.path (omega (arith, h.0.path)), (plain_number row.window h.0.window, (plain_number row.rtt h.0.rtt, tt))) (plain_rows rows h.1)

pub plain_control_reply : (reply : ControlReply) → ControlReplyFits reply → ArePlain (control_reply_words reply)
plain_control_reply (ControlReply.Standing mode standby sole notice) h = (refl, (plain_mode mode, (plain_flag standby, (plain_flag sole, plain_notice notice h))))
plain_control_reply (ControlReply.KeysDiffer own) h = (refl, (plain_number own h, tt))
plain_control_reply (ControlReply.Verdict verdict) h = (refl, plain_verdict verdict h)
plain_control_reply (ControlReply.Begin own peer) h = (refl, (plain_number own h.0, (plain_number peer h.1, tt)))
plain_control_reply (ControlReply.Never mode) h = (refl, (plain_mode mode, tt))
plain_control_reply (ControlReply.UnknownToken own) h = (refl, (plain_number own h, tt))
plain_control_reply (ControlReply.Fallen mode) h = (refl, (plain_mode mode, tt))
plain_control_reply (ControlReply.Rows rows) h = (refl, plain_rows rows (recursion_from_All RowFits rows h.each))
plain_control_reply (ControlReply.OtherKey own) h = (refl, (plain_number own h, tt))
plain_control_reply _ h = (refl, tt)
