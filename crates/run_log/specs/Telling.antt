-- What a line tells of a note: all but what its actor knew before, and of octets how many there are; of a granted piece its places.
use Rattle.std.specs.Prelude.{ℕ, List, [], length, replicate}
use Rattle.send_book.specs.declared.call.SendCall.{SendCall}
use Rattle.send_book.specs.declared.call.SendCall.TheVariants as send_calls
use Rattle.send_book.specs.declared.call.SendReply.{SendReply}
use Rattle.send_book.specs.declared.call.SendReply.TheVariants as send_replies
use Rattle.reassembly_book.specs.declared.call.ReassemblyCall.{ReassemblyCall}
use Rattle.reassembly_book.specs.declared.call.ReassemblyCall.TheVariants as reassembly_calls
use Rattle.reassembly_book.specs.declared.call.ReassemblyReply.{ReassemblyReply}
use Rattle.reassembly_book.specs.declared.call.ReassemblyReply.TheVariants as reassembly_replies
use Rattle.actor_desk.specs.declared.ask.Ask.{Ask}
use Rattle.actor_desk.specs.declared.ask.Ask.TheVariants as asks
use Rattle.actor_desk.specs.declared.ask.Note.{Note}
use Rattle.actor_desk.specs.declared.ask.Reply.{Reply}
use Rattle.actor_desk.specs.declared.ask.Reply.TheVariants as replies

-- as many octets, each of them 0
abbrev pub blank : List ℕ → List ℕ
blank octets = replicate (length octets) 0

abbrev pub told_send_call : SendCall → SendCall
told_send_call (send_calls.Write bytes) = send_calls.Write (blank bytes)
told_send_call call = call

abbrev pub told_reassembly_call : ReassemblyCall → ReassemblyCall
told_reassembly_call (reassembly_calls.Place at bytes) = reassembly_calls.Place at (blank bytes)
told_reassembly_call call = call

abbrev pub told_ask : Ask → Ask
told_ask (asks.Send side call) = asks.Send side (told_send_call call)
told_ask (asks.Reassembly side call) = asks.Reassembly side (told_reassembly_call call)
told_ask ask = ask

abbrev pub told_send_reply : SendReply → SendReply
told_send_reply (send_replies.Granted span piece) = send_replies.Granted span []
told_send_reply reply = reply

abbrev pub without_octets : ReassemblyReply → ReassemblyReply
without_octets (reassembly_replies.Bytes bytes) = reassembly_replies.Bytes (blank bytes)
without_octets reply = reply

abbrev pub told_reply : Reply → Reply
told_reply (replies.Send reply) = replies.Send (told_send_reply reply)
told_reply (replies.Reassembly reply) = replies.Reassembly (without_octets reply)
told_reply reply = reply

abbrev pub as_told : Note → Note
as_told note = record { stamp = note.stamp; seen = 0; actor = note.actor; ask = told_ask note.ask; reply = told_reply note.reply }
