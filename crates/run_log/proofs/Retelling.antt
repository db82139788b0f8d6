-- A note is read again from the words of its line, as far as the line tells it.
use Rattle.run_log.proofs.Words.{◌≡◌, ℕ, Bool, true, false, eqb, List, [], ◌∷◌, ◌++◌, length, map, Some, None, refl, ap, ◌∙◌, arith, cond, Option, codes}
use Rattle.run_log.proofs.Words.{replicate, decimal, list_all, AllByRecursion, flat_map, and_parts, nat_tests, digits_decimal, digits_value-decimal}
use Rattle.run_log.proofs.Words.{recursion_from_All, bytes_eq, digits_value, is_ascii_digit, Row, Event, Verdict, Address, octets_of, Side, digits, Notice}
use Rattle.run_log.proofs.Words.{ControlCall, ControlReply, ReassemblyCall, ReassemblyReply, SendCall, SendReply, LocalStep, IsLong, IsByte, OptionFits}
use Rattle.run_log.proofs.Words.{SendCallFits, SendReplyFits, ReassemblyCallFits, ReassemblyReplyFits, HeardFits, ControlCallFits, VerdictFits, NoticeFits}
use Rattle.run_log.proofs.Words.{RowFits, ControlReplyFits, LocalFits, HasItsOctets, flag_word, optional_word, reason_word, mode_word, event_words}
use Rattle.run_log.proofs.Words.{verdict_words, notice_words, send_call_words, reassembly_call_words, heard_words, control_call_words, local_words}
use Rattle.run_log.proofs.Words.{send_reply_words, reassembly_reply_words, row_words, control_reply_words}
use Rattle.fallback_state.specs.declared.fall.Mode.{Mode}
use Rattle.send_book.specs.declared.call.Why.{Why}
use Rattle.sides.specs.Side.{side_word}
use Rattle.run_log.specs.Telling.{told_send_call, told_reassembly_call, told_send_reply, without_octets}

-- ---- single words

abbrev value : List ℕ → ℕ
value word = digits_value 10 word

again : (n : ℕ) → IsLong n → value (decimal n) ≡ n
again n h = digits_value-decimal digits n h

abbrev zeros : List ℕ → List ℕ
zeros word = replicate (value word) 0

abbrev flag_of : List ℕ → Bool
flag_of word = bytes_eq word (codes "1")

flag_again : (on : Bool) → flag_of (flag_word on) ≡ on
flag_again = elim [ true ↦ refl | false ↦ refl ]

abbrev optional_of : List ℕ → Option ℕ
optional_of word = cond (bytes_eq word (codes "-")) None (Some (value word))

no_dash_octet : (octet : ℕ) → is_ascii_digit octet ≡ true → eqb octet 45 ≡ false
no_dash_octet octet h = grind (arith, nat_tests)

no_dash : (word : List ℕ) → list_all is_ascii_digit word ≡ true → bytes_eq word (codes "-") ≡ false
no_dash [] h = refl
no_dash (octet ∷ word) h = rw (no_dash_octet octet (and_parts (is_ascii_digit octet) (list_all is_ascii_digit word) h).0) refl

optional_again : (n : Option ℕ) → OptionFits n → optional_of (optional_word n) ≡ n
optional_again (Some n) h = rw (no_dash (decimal n) (digits_decimal digits n h), again n h) refl
optional_again None h = refl

abbrev side_of : List ℕ → Side
side_of word = cond (bytes_eq word (codes "a")) Side.A Side.B

side_again : (side : Side) → side_of (side_word side) ≡ side
side_again = elim [ Side.A ↦ refl | Side.B ↦ refl ]

abbrev reason_of : List ℕ → Why
reason_of word = cond (bytes_eq word (codes "ended")) Why.Ended (cond (bytes_eq word (codes "backup")) Why.Backup (cond (bytes_eq word (codes "free")) Why.NothingFree Why.WindowShut))

reason_again : (why : Why) → reason_of (reason_word why) ≡ why
reason_again = elim [ Why.Ended ↦ refl | _ ↦ refl ]

abbrev mode_of : List ℕ → Mode
mode_of word =
    cond (bytes_eq word (codes "starting")) Mode.Starting (cond (bytes_eq word (codes "sure")) Mode.Sure (cond (bytes_eq word (codes "identity")) Mode.Identity
    (cond (bytes_eq word (codes "infinitesend")) Mode.InfiniteSend (cond (bytes_eq word (codes "infinitereceive")) Mode.InfiniteReceive (cond (bytes_eq word (codes "infiniteboth")) Mode.InfiniteBoth Mode.Aborted)))))

mode_again : (mode : Mode) → mode_of (mode_word mode) ≡ mode
mode_again = elim [ Mode.Starting ↦ refl | _ ↦ refl ]

abbrev event_of : List (List ℕ) → Event
event_of (word ∷ flag ∷ words) = Event.FailHeard (flag_of flag)
event_of (word ∷ []) =
    cond (bytes_eq word (codes "plainhandshake")) Event.PlainHandshake (cond (bytes_eq word (codes "plaindata")) Event.PlainData (cond (bytes_eq word (codes "plainack")) Event.PlainAck
    (cond (bytes_eq word (codes "keysheard")) Event.KeysHeard (cond (bytes_eq word (codes "mappingheard")) Event.MappingHeard (cond (bytes_eq word (codes "ackheard")) Event.AckHeard
    (cond (bytes_eq word (codes "infiniteheard")) Event.InfiniteHeard (cond (bytes_eq word (codes "checkfailed")) Event.CheckFailed Event.Stop)))))))
event_of [] = Event.Stop

event_again : (event : Event) → event_of (event_words event) ≡ event
event_again (Event.FailHeard contiguous) = ap (λ (on : Bool). Event.FailHeard on) (flag_again contiguous)
event_again _ = refl

abbrev verdict_of : List (List ℕ) → Verdict
verdict_of (word ∷ other ∷ words) = cond (bytes_eq word (codes "went")) (Verdict.Went (mode_of other)) (Verdict.BreakPath (value other))
verdict_of (word ∷ []) = cond (bytes_eq word (codes "stay")) Verdict.Stay Verdict.SendFail
verdict_of [] = Verdict.Stay

verdict_again : (verdict : Verdict) → VerdictFits verdict → verdict_of (verdict_words verdict) ≡ verdict
verdict_again Verdict.Stay h = refl
verdict_again (Verdict.Went mode) h = ap (λ (m : Mode). Verdict.Went m) (mode_again mode)
verdict_again Verdict.SendFail h = refl
verdict_again (Verdict.BreakPath reason) h = ap (λ (n : ℕ). Verdict.BreakPath n) (again reason h)

abbrev notice_of : List (List ℕ) → Notice
notice_of (word ∷ other ∷ words) =
    cond (bytes_eq word (codes "announce")) (Notice.Announce (value other)) (cond (bytes_eq word (codes "withdraw")) (Notice.Withdraw (value other)) (Notice.Carrier (value other)))
notice_of (word ∷ []) = cond (bytes_eq word (codes "nothing")) Notice.Nothing Notice.Reset
notice_of [] = Notice.Nothing

notice_again : (notice : Notice) → NoticeFits notice → notice_of (notice_words notice) ≡ notice
notice_again Notice.Nothing h = refl
notice_again (Notice.Announce id) h = ap (λ (n : ℕ). Notice.Announce n) (again id h)
notice_again (Notice.Withdraw id) h = ap (λ (n : ℕ). Notice.Withdraw n) (again id h)
notice_again (Notice.Carrier key) h = ap (λ (n : ℕ). Notice.Carrier n) (again key h)
notice_again Notice.Reset h = refl

-- ---- send books

abbrev pub send_call_of : List (List ℕ) → SendCall
send_call_of (word ∷ a ∷ b ∷ c ∷ words) = SendCall.Grant (value a) (value b) (flag_of c)
send_call_of (word ∷ a ∷ b ∷ []) = SendCall.AckIn (value a) (value b)
send_call_of (word ∷ a ∷ []) = cond (bytes_eq word (codes "write")) (SendCall.Write (zeros a)) (cond (bytes_eq word (codes "return")) (SendCall.Return (value a)) (SendCall.GoInfinite (value a)))
send_call_of (word ∷ []) = cond (bytes_eq word (codes "close")) SendCall.Close (cond (bytes_eq word (codes "identity")) SendCall.GoIdentity SendCall.Abort)
send_call_of [] = SendCall.Close

pub send_call_again : (call : SendCall) → SendCallFits call → send_call_of (send_call_words call) ≡ told_send_call call
send_call_again (SendCall.Write bytes) h = ap (λ (n : ℕ). SendCall.Write (replicate n 0)) (again (length bytes) h)
send_call_again (SendCall.Grant path max standby) h = rw (again path h.0, again max h.1, flag_again standby) refl
send_call_again (SendCall.AckIn next window) h = rw (again next h.0, again window h.1) refl
send_call_again (SendCall.Return path) h = ap (λ (n : ℕ). SendCall.Return n) (again path h)
send_call_again (SendCall.GoInfinite path) h = ap (λ (n : ℕ). SendCall.GoInfinite n) (again path h)
send_call_again _ h = refl

abbrev pub send_reply_of : List (List ℕ) → SendReply
send_reply_of (word ∷ a ∷ b ∷ words) =
    cond (bytes_eq word (codes "granted")) (SendReply.Granted (record { from = value a; to = value b }) [])
    (cond (bytes_eq word (codes "none")) (SendReply.NoGrant (reason_of a) (optional_of b)) (SendReply.Acked (value a) (flag_of b)))
send_reply_of (word ∷ a ∷ []) =
    cond (bytes_eq word (codes "taken")) (SendReply.Taken (value a)) (cond (bytes_eq word (codes "future")) (SendReply.AckFuture (value a))
    (cond (bytes_eq word (codes "returned")) (SendReply.Returned (value a)) (SendReply.Infinite (value a))))
send_reply_of (word ∷ []) =
    cond (bytes_eq word (codes "closed")) SendReply.Closed (cond (bytes_eq word (codes "shut")) SendReply.Shut (cond (bytes_eq word (codes "noted")) SendReply.Noted SendReply.Scattered))
send_reply_of [] = SendReply.Closed

pub send_reply_again : (reply : SendReply) → SendReplyFits reply → send_reply_of (send_reply_words reply) ≡ told_send_reply reply
send_reply_again (SendReply.Taken count) h = ap (λ (n : ℕ). SendReply.Taken n) (again count h)
send_reply_again (SendReply.Granted span piece) h = rw (again span.from h.0, again span.to h.1) refl
send_reply_again (SendReply.NoGrant why known_end) h = rw (reason_again why, optional_again known_end h) refl
send_reply_again (SendReply.Acked bytes fin) h = rw (again bytes h, flag_again fin) refl
send_reply_again (SendReply.AckFuture written) h = ap (λ (n : ℕ). SendReply.AckFuture n) (again written h)
send_reply_again (SendReply.Returned count) h = ap (λ (n : ℕ). SendReply.Returned n) (again count h)
send_reply_again (SendReply.Infinite from) h = ap (λ (n : ℕ). SendReply.Infinite n) (again from h)
send_reply_again _ h = refl

-- ---- reassembly books

abbrev pub reassembly_call_of : List (List ℕ) → ReassemblyCall
reassembly_call_of (word ∷ a ∷ b ∷ words) = ReassemblyCall.Place (value a) (zeros b)
reassembly_call_of (word ∷ a ∷ []) =
    cond (bytes_eq word (codes "fin")) (ReassemblyCall.Fin (value a)) (cond (bytes_eq word (codes "read")) (ReassemblyCall.Read (value a)) (ReassemblyCall.Abort (flag_of a)))
reassembly_call_of (word ∷ []) = ReassemblyCall.AckOut
reassembly_call_of [] = ReassemblyCall.AckOut

pub reassembly_call_again : (call : ReassemblyCall) → ReassemblyCallFits call → reassembly_call_of (reassembly_call_words call) ≡ told_reassembly_call call
reassembly_call_again (ReassemblyCall.Place at bytes) h = rw (again at h.0, again (length bytes) h.1) refl
reassembly_call_again (ReassemblyCall.Fin at) h = ap (λ (n : ℕ). ReassemblyCall.Fin n) (again at h)
reassembly_call_again (ReassemblyCall.Read max) h = ap (λ (n : ℕ). ReassemblyCall.Read n) (again max h)
reassembly_call_again ReassemblyCall.AckOut h = refl
reassembly_call_again (ReassemblyCall.Abort by_peer) h = ap (λ (on : Bool). ReassemblyCall.Abort on) (flag_again by_peer)

abbrev pub reassembly_reply_of : List (List ℕ) → ReassemblyReply
reassembly_reply_of (word ∷ a ∷ b ∷ words) = cond (bytes_eq word (codes "clash")) (ReassemblyReply.FinClash (value a) (value b)) (ReassemblyReply.Ack (value a) (value b))
reassembly_reply_of (word ∷ a ∷ []) =
    cond (bytes_eq word (codes "placed")) (ReassemblyReply.Placed (value a)) (cond (bytes_eq word (codes "beyond")) (ReassemblyReply.Beyond (value a))
    (cond (bytes_eq word (codes "bytes")) (ReassemblyReply.Bytes (zeros a)) (ReassemblyReply.Aborted (flag_of a))))
reassembly_reply_of (word ∷ []) =
    cond (bytes_eq word (codes "set")) ReassemblyReply.FinSet (cond (bytes_eq word (codes "end")) ReassemblyReply.End (cond (bytes_eq word (codes "none")) ReassemblyReply.NoneYet ReassemblyReply.Noted))
reassembly_reply_of [] = ReassemblyReply.Noted

pub reassembly_reply_again : (reply : ReassemblyReply) → ReassemblyReplyFits reply → reassembly_reply_of (reassembly_reply_words reply) ≡ without_octets reply
reassembly_reply_again (ReassemblyReply.Placed count) h = ap (λ (n : ℕ). ReassemblyReply.Placed n) (again count h)
reassembly_reply_again (ReassemblyReply.Beyond edge) h = ap (λ (n : ℕ). ReassemblyReply.Beyond n) (again edge h)
reassembly_reply_again (ReassemblyReply.FinClash fin at) h = rw (again fin h.0, again at h.1) refl
reassembly_reply_again (ReassemblyReply.Bytes bytes) h = ap (λ (n : ℕ). ReassemblyReply.Bytes (replicate n 0)) (again (length bytes) h)
reassembly_reply_again (ReassemblyReply.Aborted by_peer) h = ap (λ (on : Bool). ReassemblyReply.Aborted on) (flag_again by_peer)
reassembly_reply_again (ReassemblyReply.Ack next window) h = rw (again next h.0, again window h.1) refl
reassembly_reply_again _ h = refl

-- ---- control books

record Ends : Type 0 where
  octets : List ℕ
  port : ℕ
  hmac : ℕ

abbrev onto : ℕ → Ends → Ends
onto octet ends = record { octets = octet ∷ ends.octets; port = ends.port; hmac = ends.hmac }

-- the last two words are the port and the HMAC
abbrev ends_of : List (List ℕ) → Ends
ends_of [] = record { octets = []; port = 0; hmac = 0 }
ends_of (a ∷ []) = record { octets = []; port = value a; hmac = 0 }
ends_of (a ∷ b ∷ []) = record { octets = []; port = value a; hmac = value b }
ends_of (a ∷ b ∷ c ∷ words) = onto (value a) (ends_of (b ∷ c ∷ words))

ends_again : (octets : List ℕ) (port hmac : ℕ) → AllByRecursion IsByte octets → IsLong port → IsLong hmac
    → ends_of (map decimal octets ++ decimal port ∷ decimal hmac ∷ []) ≡ record { octets = octets; port = port; hmac = hmac }
ends_again [] port hmac h p m = rw (again port p, again hmac m) refl
ends_again (a ∷ []) port hmac h p m = rw (again a (omega (arith, h.0)), again port p, again hmac m) refl
ends_again (a ∷ b ∷ []) port hmac h p m = ap (onto (value (decimal a))) (ends_again (b ∷ []) port hmac h.1 p m) ∙ rw (again a (omega (arith, h.0))) refl
ends_again (a ∷ b ∷ c ∷ octets) port hmac h p m = ap (onto (value (decimal a))) (ends_again (b ∷ c ∷ octets) port hmac h.1 p m) ∙ rw (again a (omega (arith, h.0))) refl

abbrev address_of : List ℕ → Address
address_of octets = cond (eqb (length octets) 4) (Address.V4 octets) (Address.V6 octets)

address_again : (address : Address) → HasItsOctets address → address_of (octets_of address) ≡ address
address_again = elim [ Address.V4 octets ↦ λ h. rw h refl | Address.V6 octets ↦ λ h. rw h refl ]

abbrev heard_of : List ℕ → Ends → ControlCall
heard_of id ends = ControlCall.Heard (value id) (address_of ends.octets) ends.port ends.hmac

abbrev other_call_of : List ℕ → List (List ℕ) → ControlCall
other_call_of word [] = ControlCall.FastClose
other_call_of word (a ∷ []) =
    cond (bytes_eq word (codes "look")) (ControlCall.Look (value a)) (cond (bytes_eq word (codes "peerkey")) (ControlCall.PeerKey (value a))
    (cond (bytes_eq word (codes "joinbegin")) (ControlCall.JoinBegin (value a)) (cond (bytes_eq word (codes "dead")) (ControlCall.Dead (value a))
    (cond (bytes_eq word (codes "announce")) (ControlCall.Announce (value a)) (cond (bytes_eq word (codes "withdraw")) (ControlCall.Withdraw (value a))
    (cond (bytes_eq word (codes "echoed")) (ControlCall.Echoed (value a)) (cond (bytes_eq word (codes "removed")) (ControlCall.Removed (value a)) (ControlCall.FastHeard (value a)))))))))
other_call_of word (a ∷ b ∷ []) =
    cond (bytes_eq word (codes "keys")) (ControlCall.Keys (value a) (value b)) (cond (bytes_eq word (codes "joinheard")) (ControlCall.JoinHeard (value a) (value b))
    (cond (bytes_eq word (codes "live")) (ControlCall.Live (value a) (flag_of b)) (ControlCall.Backup (value a) (flag_of b))))
other_call_of word (a ∷ b ∷ c ∷ words) = ControlCall.Rate (value a) (value b) (value c)

abbrev fell_or : Bool → List (List ℕ) → ControlCall → ControlCall
fell_or true (a ∷ words) other = ControlCall.Fell (value a) (event_of words)
fell_or fell words other = other

abbrev heard_or : Bool → List (List ℕ) → ControlCall → ControlCall
heard_or true (id ∷ words) other = heard_of id (ends_of words)
heard_or heard words other = other

abbrev pub control_call_of : List (List ℕ) → ControlCall
control_call_of [] = ControlCall.FastClose
control_call_of (word ∷ words) = heard_or (bytes_eq word (codes "heard")) words (fell_or (bytes_eq word (codes "fell")) words (other_call_of word words))

heard_again : (id : ℕ) (address : Address) (port hmac : ℕ) → HeardFits id address port hmac → control_call_of (heard_words id (octets_of address) port hmac) ≡ ControlCall.Heard id address port hmac
heard_again id address port hmac h =
    ap (heard_of (decimal id)) (ends_again (octets_of address) port hmac h.1.0.octets (omega (arith, h.1.1.0)) h.1.1.1)
    ∙ rw (again id (omega (arith, h.0)), address_again address h.1.0.count) refl

pub control_call_again : (call : ControlCall) → ControlCallFits call → control_call_of (control_call_words call) ≡ call
control_call_again (ControlCall.Look path) h = ap (λ (n : ℕ). ControlCall.Look n) (again path h)
control_call_again (ControlCall.PeerKey key) h = ap (λ (n : ℕ). ControlCall.PeerKey n) (again key h)
control_call_again (ControlCall.Keys own peer) h = rw (again own h.0, again peer h.1) refl
control_call_again (ControlCall.Fell path event) h = rw (again path h, event_again event) refl
control_call_again (ControlCall.JoinBegin path) h = ap (λ (n : ℕ). ControlCall.JoinBegin n) (again path h)
control_call_again (ControlCall.JoinHeard path token) h = rw (again path h.0, again token h.1) refl
control_call_again (ControlCall.Live path backup) h = rw (again path h, flag_again backup) refl
control_call_again (ControlCall.Dead path) h = ap (λ (n : ℕ). ControlCall.Dead n) (again path h)
control_call_again (ControlCall.Backup path on) h = rw (again path h, flag_again on) refl
control_call_again (ControlCall.Rate path window rtt) h = rw (again path h.0, again window h.1.0, again rtt h.1.1) refl
control_call_again (ControlCall.Announce id) h = ap (λ (n : ℕ). ControlCall.Announce n) (again id h)
control_call_again (ControlCall.Withdraw id) h = ap (λ (n : ℕ). ControlCall.Withdraw n) (again id h)
control_call_again (ControlCall.Heard id address port hmac) h = heard_again id address port hmac h
control_call_again (ControlCall.Echoed id) h = ap (λ (n : ℕ). ControlCall.Echoed n) (again id h)
control_call_again (ControlCall.Removed id) h = ap (λ (n : ℕ). ControlCall.Removed n) (again id h)
control_call_again ControlCall.FastClose h = refl
control_call_again (ControlCall.FastHeard key) h = ap (λ (n : ℕ). ControlCall.FastHeard n) (again key h)

abbrev rows_of : List (List ℕ) → List Row
rows_of (a ∷ b ∷ c ∷ words) = record { path = value a; window = value b; rtt = value c } ∷ rows_of words
rows_of words = []

rows_again : (rows : List Row) → AllByRecursion RowFits rows → rows_of (flat_map row_words rows) ≡ rows
rows_again [] h = refl
rows_again (row ∷ rows) h = rw (again row.path (omega (arith, h.0.path)), again row.window h.0.window, again row.rtt h.0.rtt, rows_again rows h.1) refl

abbrev other_reply_of : List ℕ → List (List ℕ) → ControlReply
other_reply_of word [] =
    cond (bytes_eq word (codes "noted")) ControlReply.Noted (cond (bytes_eq word (codes "notyet")) ControlReply.NotYet (cond (bytes_eq word (codes "notconfirmed")) ControlReply.NotConfirmed
    (cond (bytes_eq word (codes "echo")) ControlReply.Echo (cond (bytes_eq word (codes "badhmac")) ControlReply.BadHmac (cond (bytes_eq word (codes "known")) ControlReply.Known ControlReply.Stopped)))))
other_reply_of word (a ∷ []) =
    cond (bytes_eq word (codes "keysdiffer")) (ControlReply.KeysDiffer (value a)) (cond (bytes_eq word (codes "never")) (ControlReply.Never (mode_of a))
    (cond (bytes_eq word (codes "unknowntoken")) (ControlReply.UnknownToken (value a)) (cond (bytes_eq word (codes "fallen")) (ControlReply.Fallen (mode_of a)) (ControlReply.OtherKey (value a)))))
other_reply_of word (a ∷ b ∷ words) = ControlReply.Begin (value a) (value b)

abbrev standing_or : Bool → List (List ℕ) → ControlReply → ControlReply
standing_or true (a ∷ b ∷ c ∷ words) other = ControlReply.Standing (mode_of a) (flag_of b) (flag_of c) (notice_of words)
standing_or standing words other = other

abbrev pub control_reply_of : List (List ℕ) → ControlReply
control_reply_of [] = ControlReply.Noted
control_reply_of (word ∷ words) =
    standing_or (bytes_eq word (codes "standing")) words
    (cond (bytes_eq word (codes "verdict")) (ControlReply.Verdict (verdict_of words))
    (cond (bytes_eq word (codes "rows")) (ControlReply.Rows (rows_of words)) (other_reply_of word words)))

pub control_reply_again : (reply : ControlReply) → ControlReplyFits reply → control_reply_of (control_reply_words reply) ≡ reply
control_reply_again (ControlReply.Standing mode standby sole notice) h = rw (mode_again mode, flag_again standby, flag_again sole, notice_again notice h) refl
control_reply_again (ControlReply.KeysDiffer own) h = ap (λ (n : ℕ). ControlReply.KeysDiffer n) (again own h)
control_reply_again (ControlReply.Verdict verdict) h = ap (λ (v : Verdict). ControlReply.Verdict v) (verdict_again verdict h)
control_reply_again (ControlReply.Begin own peer) h = rw (again own h.0, again peer h.1) refl
control_reply_again (ControlReply.Never mode) h = ap (λ (m : Mode). ControlReply.Never m) (mode_again mode)
control_reply_again (ControlReply.UnknownToken own) h = ap (λ (n : ℕ). ControlReply.UnknownToken n) (again own h)
control_reply_again (ControlReply.Fallen mode) h = ap (λ (m : Mode). ControlReply.Fallen m) (mode_again mode)
control_reply_again (ControlReply.Rows rows) h = ap (λ (r : List Row). ControlReply.Rows r) (rows_again rows (recursion_from_All RowFits rows h.each))
control_reply_again (ControlReply.OtherKey own) h = ap (λ (n : ℕ). ControlReply.OtherKey n) (again own h)
control_reply_again _ h = refl

-- ---- an actor's own steps

abbrev pub local_of : List (List ℕ) → LocalStep
local_of (word ∷ a ∷ b ∷ c ∷ d ∷ words) = LocalStep.Sent (side_of a) (value b) (value c) (value d)
local_of (word ∷ a ∷ b ∷ words) = LocalStep.Arrive (side_of a) (value b)
local_of (word ∷ a ∷ []) = cond (bytes_eq word (codes "fire")) (LocalStep.Fire (side_of a)) (LocalStep.Line (value a))
local_of words = LocalStep.End

pub local_again : (step : LocalStep) → LocalFits step → local_of (local_words step) ≡ step
local_again (LocalStep.Arrive to copy) h = rw (side_again to, again copy h) refl
local_again (LocalStep.Fire side) h = ap (λ (s : Side). LocalStep.Fire s) (side_again side)
local_again (LocalStep.Line number) h = ap (λ (n : ℕ). LocalStep.Line n) (again number h)
local_again (LocalStep.Sent from copy length sum) h = rw (side_again from, again copy h.0, again length h.1.0, again sum h.1.1) refl
local_again LocalStep.End h = refl
