-- The words of a log for what an actor is answered. Of octets the log tells how many there are, of a granted piece its places.
use Rattle.std.specs.Prelude.{ℕ, List, [], ◌∷◌, ◌++◌, length, codes}
use Rattle.std.specs.Fmt.{decimal}
use Rattle.std.specs.List.{flat_map}
use Rattle.link_script.specs.Writing.{spaced}
use Rattle.linked_increase.specs.declared.rows.Row.{Row}
use Rattle.send_book.specs.declared.call.SendReply.{SendReply}
use Rattle.send_book.specs.declared.call.SendReply.TheVariants as send_replies
use Rattle.reassembly_book.specs.declared.call.ReassemblyReply.{ReassemblyReply}
use Rattle.reassembly_book.specs.declared.call.ReassemblyReply.TheVariants as reassembly_replies
use Rattle.control_book.specs.declared.call.ControlReply.{ControlReply}
use Rattle.control_book.specs.declared.call.ControlReply.TheVariants as control_replies
use Rattle.actor_desk.specs.declared.ask.Reply.{Reply}
use Rattle.actor_desk.specs.declared.ask.Reply.TheVariants as replies
use Rattle.run_log.specs.Words.{flag_word, optional_word, reason_word, mode_word, verdict_words, notice_words}

-- of a granted piece its places
abbrev pub granted_words : ℕ → ℕ → List (List ℕ)
granted_words from to = codes "granted" ∷ decimal from ∷ decimal to ∷ []

abbrev pub send_reply_words : SendReply → List (List ℕ)
send_reply_words (send_replies.Taken count) = codes "taken" ∷ decimal count ∷ []
send_reply_words send_replies.Closed = codes "closed" ∷ []
send_reply_words send_replies.Shut = codes "shut" ∷ []
send_reply_words (send_replies.Granted span piece) = granted_words span.from span.to
send_reply_words (send_replies.NoGrant why known_end) = codes "none" ∷ reason_word why ∷ optional_word known_end ∷ []
send_reply_words (send_replies.Acked bytes fin) = codes "acked" ∷ decimal bytes ∷ flag_word fin ∷ []
send_reply_words (send_replies.AckFuture written) = codes "future" ∷ decimal written ∷ []
send_reply_words (send_replies.Returned count) = codes "returned" ∷ decimal count ∷ []
send_reply_words send_replies.Noted = codes "noted" ∷ []
send_reply_words (send_replies.Infinite from) = codes "infinite" ∷ decimal from ∷ []
send_reply_words send_replies.Scattered = codes "scattered" ∷ []

abbrev pub reassembly_reply_words : ReassemblyReply → List (List ℕ)
reassembly_reply_words (reassembly_replies.Placed count) = codes "placed" ∷ decimal count ∷ []
reassembly_reply_words (reassembly_replies.Beyond edge) = codes "beyond" ∷ decimal edge ∷ []
reassembly_reply_words reassembly_replies.FinSet = codes "set" ∷ []
reassembly_reply_words (reassembly_replies.FinClash fin at) = codes "clash" ∷ decimal fin ∷ decimal at ∷ []
reassembly_reply_words (reassembly_replies.Bytes bytes) = codes "bytes" ∷ decimal (length bytes) ∷ []
reassembly_reply_words reassembly_replies.End = codes "end" ∷ []
reassembly_reply_words reassembly_replies.NoneYet = codes "none" ∷ []
reassembly_reply_words (reassembly_replies.Aborted by_peer) = codes "aborted" ∷ flag_word by_peer ∷ []
reassembly_reply_words (reassembly_replies.Ack next window) = codes "ack" ∷ decimal next ∷ decimal window ∷ []
reassembly_reply_words reassembly_replies.Noted = codes "noted" ∷ []

-- the path, the window and the round-trip time
abbrev pub row_words : Row → List (List ℕ)
row_words row = decimal row.path ∷ decimal row.window ∷ decimal row.rtt ∷ []

abbrev pub control_reply_words : ControlReply → List (List ℕ)
control_reply_words (control_replies.Standing mode standby sole notice) = codes "standing" ∷ mode_word mode ∷ flag_word standby ∷ flag_word sole ∷ notice_words notice
control_reply_words control_replies.Noted = codes "noted" ∷ []
control_reply_words (control_replies.KeysDiffer own) = codes "keysdiffer" ∷ decimal own ∷ []
control_reply_words (control_replies.Verdict verdict) = codes "verdict" ∷ verdict_words verdict
control_reply_words (control_replies.Begin own peer) = codes "begin" ∷ decimal own ∷ decimal peer ∷ []
control_reply_words control_replies.NotYet = codes "notyet" ∷ []
control_reply_words (control_replies.Never mode) = codes "never" ∷ mode_word mode ∷ []
control_reply_words (control_replies.UnknownToken own) = codes "unknowntoken" ∷ decimal own ∷ []
control_reply_words control_replies.NotConfirmed = codes "notconfirmed" ∷ []
control_reply_words (control_replies.Fallen mode) = codes "fallen" ∷ mode_word mode ∷ []
control_reply_words (control_replies.Rows rows) = codes "rows" ∷ flat_map row_words rows
control_reply_words control_replies.Echo = codes "echo" ∷ []
control_reply_words control_replies.BadHmac = codes "badhmac" ∷ []
control_reply_words control_replies.Known = codes "known" ∷ []
control_reply_words control_replies.Stopped = codes "stopped" ∷ []
control_reply_words (control_replies.OtherKey own) = codes "otherkey" ∷ decimal own ∷ []

-- what stands behind the words of the ask: of a book its reply behind ' = '
abbrev pub reply_text : Reply → List ℕ
reply_text (replies.Send reply) = codes " = " ++ spaced (send_reply_words reply)
reply_text (replies.Reassembly reply) = codes " = " ++ spaced (reassembly_reply_words reply)
reply_text (replies.Control reply) = codes " = " ++ spaced (control_reply_words reply)
reply_text replies.Done = []
