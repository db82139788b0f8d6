-- What a send book answers to each call, and what the call makes of it, byte by byte.
use Rattle.std.specs.Prelude.{ℕ, ◌+◌, ◌-◌, ◌^◌, ◌<◌, ◌≤◌, min, max, Bool, true, false, not, ◌&&◌, ◌||◌, ◌==◌, nat_lt, nat_le, if◌then◌else◌, Option, Some, None, is_none, Result, Ok, Err, List, [], ◌∷◌, ◌++◌, length, take, drop, replicate, map, count_by, position}
use Rattle.std.specs.List.{list_all, prefix_len}
use Rattle.send_book.specs.declared.call.Span.{Span}
use Rattle.send_book.specs.declared.call.SendCall.{SendCall}
use Rattle.send_book.specs.declared.call.SendCall.TheVariants.{Write, Close, Grant, AckIn, Return, GoIdentity, GoInfinite, Abort}
use Rattle.send_book.specs.declared.call.SendReply.{SendReply}
use Rattle.send_book.specs.declared.call.SendReply.TheVariants.{Taken, Closed, Shut, Granted, NoGrant, AckFuture, Returned, Noted, Infinite, Scattered}
use Rattle.send_book.specs.declared.call.SendReply.TheVariants.{Acked as AckedBytes}
use Rattle.send_book.specs.declared.call.Why.{Why}
use Rattle.send_book.specs.declared.call.Why.TheVariants.{Ended, Backup, NothingFree, WindowShut}
use Rattle.send_book.specs.declared.mark.ByteMark.{ByteMark}
use Rattle.send_book.specs.declared.mark.ByteMark.TheVariants.{Acked, Free}
use Rattle.send_book.specs.Tried.{no_paths}
use Rattle.send_book.specs.Marks.{is_free_for, is_held_by, has_tried, is_untouched, given, returned}
use Rattle.send_book.specs.State.{Sending, acked_len}

-- how many bytes aren't acknowledged
abbrev pub unacked_len : Sending → ℕ
unacked_len b = length b.written - acked_len b.marks

-- Write: no more bytes than the buffer has room for, and places stay at 2^62 - 3 or below
abbrev pub bytes_taken : List ℕ → Sending → ℕ
bytes_taken bytes b = min (length bytes) (min (b.buffer - unacked_len b) (2 ^ 62 - 3 - length b.written))

-- a closed or aborted book takes nothing
abbrev pub write_reply : List ℕ → Sending → SendReply
write_reply bytes b = if b.closed || b.aborted then Shut else Taken (bytes_taken bytes b)

-- the bytes that are taken are written, free and tried by no path
abbrev pub after_write : List ℕ → Sending → Sending
after_write bytes b =
    if b.closed || b.aborted then b
    else record b {
      written = b.written ++ take (bytes_taken bytes b) bytes;
      marks = b.marks ++ replicate (bytes_taken bytes b) (Free no_paths);
    }

-- Close: refused once the book was aborted
abbrev pub close_reply : Sending → SendReply
close_reply b = if b.aborted then Shut else Closed

-- Close: nothing more is written; an aborted book stays as it is
abbrev pub after_close : Sending → Sending
after_close b = if b.aborted then b else record b { closed = true }

-- the book was given to no path alone, or to this one
abbrev pub is_for : ℕ → Option ℕ → Bool
is_for path None = true
is_for path (Some owner) = owner == path

-- Grant: the first byte that this path may take, unless the book was given to another path alone
abbrev pub first_free : ℕ → Sending → Option ℕ
first_free path b = if is_for path b.owner then position (is_free_for path) b.marks else None

-- how many bytes in a row the path may take from a byte on, below the edge, and no more than max
abbrev pub run_len : ℕ → ℕ → Sending → ℕ → ℕ
run_len path max b from = min max (min (b.edge - from) (prefix_len (is_free_for path) (drop from b.marks)))

-- what the path is given from this byte on, where the peer's window is open there
abbrev pub span_from : ℕ → ℕ → Sending → ℕ → Result Span Why
span_from path max b from =
    if nat_le b.edge from then Err WindowShut
    else Ok (record { from = from; to = from + run_len path max b from })

-- what the path is given from the first byte that it may take, if there is one
abbrev pub span_at : ℕ → ℕ → Sending → Option ℕ → Result Span Why
span_at path max b None = Err NothingFree
span_at path max b (Some from) = span_from path max b from

-- what the path is given, or the first reason why nothing
abbrev pub decision : ℕ → ℕ → Bool → Sending → Result Span Why
decision path max standby b =
    if b.aborted || (b.closed && (acked_len b.marks == length b.written)) then Err Ended
    else (if standby then Err Backup else span_at path max b (first_free path b))

-- how many bytes there are in all, where no more are written
abbrev pub end_of : Sending → Option ℕ
end_of b = if b.closed && not b.aborted then Some (length b.written) else None

-- what stands at the places of a span
abbrev pub part_of : {X : Type 0} → Span → List X → List X
part_of span xs = take (span.to - span.from) (drop span.from xs)

-- the bytes of the span, or why there are none, and the stream's end where it is known
abbrev pub reply_by : Result Span Why → Sending → SendReply
reply_by (Ok span) b = Granted span (part_of span b.written)
reply_by (Err why) b = NoGrant why (end_of b)

abbrev pub grant_reply : ℕ → ℕ → Bool → Sending → SendReply
grant_reply path max standby b = reply_by (decision path max standby b) b

-- the marks of a span, changed
abbrev pub change_part : (ByteMark → ByteMark) → Span → List ByteMark → List ByteMark
change_part change span marks = take span.from marks ++ (map change (part_of span marks) ++ drop span.to marks)

-- the span's free bytes are held by the path, which has tried them
abbrev pub given_by : ℕ → Result Span Why → Sending → Sending
given_by path (Ok span) b = record b { marks = change_part (given path) span b.marks }
given_by path (Err why) b = b

abbrev pub after_grant : ℕ → ℕ → Bool → Sending → Sending
after_grant path max standby b = given_by path (decision path max standby b) b

-- AckIn: nothing is acknowledged that was not written; DATA_FIN takes the place after the last byte
abbrev pub is_future : ℕ → Sending → Bool
is_future next b = nat_lt (length b.written + (if b.closed then 1 else 0)) next

-- DATA_FIN is acknowledged, now or before
abbrev pub fin_after : ℕ → Sending → Bool
fin_after next b = b.fin || nat_lt (length b.written) next

-- what is future is refused; else how many bytes are newly acknowledged, and whether DATA_FIN is acknowledged
abbrev pub ack_reply : ℕ → Sending → SendReply
ack_reply next b =
    if is_future next b then AckFuture (length b.written)
    else AckedBytes (min next (length b.written) - acked_len b.marks) (fin_after next b)

-- the bytes below `next` are acknowledged; the edge never moves back (RFC 8684, section 3.3.5)
abbrev pub after_ack : ℕ → ℕ → Sending → Sending
after_ack next window b =
    if is_future next b then b
    else record b {
      marks = replicate (min next (length b.marks)) Acked ++ drop next b.marks;
      edge = max b.edge (next + window);
      fin = fin_after next b;
    }

-- Return: how many bytes the path gives back, which are all that it holds
abbrev pub return_reply : ℕ → Sending → SendReply
return_reply path b = Returned (count_by (is_held_by path) b.marks)

-- the bytes that the path held are free again, for paths that have not tried them
abbrev pub after_return : ℕ → Sending → Sending
after_return path b = record b { marks = map (returned path) b.marks }

-- the bytes that this path tried come first, and behind them those that no path tried
abbrev pub tried_first : ℕ → List ByteMark → Bool
tried_first path [] = true
tried_first path (mark ∷ marks) =
    if is_untouched mark then list_all is_untouched marks else (if has_tried path mark then tried_first path marks else false)

-- GoInfinite: so do those that aren't acknowledged, and the book wasn't given to a path alone before
abbrev pub is_gathered : ℕ → Sending → Bool
is_gathered path b = is_none b.owner && tried_first path (drop (acked_len b.marks) b.marks)

-- GoInfinite: the mapping begins at the first byte that isn't acknowledged, or is refused
abbrev pub infinite_reply : ℕ → Sending → SendReply
infinite_reply path b = if is_gathered path b then Infinite (acked_len b.marks) else Scattered

-- the book is given to this path alone
abbrev pub after_infinite : ℕ → Sending → Sending
after_infinite path b = if is_gathered path b then record b { owner = Some path } else b

-- the conditions of a call
abbrev pub CanAsk : SendCall → Type 0
CanAsk (Write bytes) = Unit {0}
CanAsk Close = Unit {0}
CanAsk (Grant path max standby) = (path < 16) × (1 ≤ max)
CanAsk (AckIn next window) = next + window < 2 ^ 63
CanAsk (Return path) = path < 16
CanAsk GoIdentity = Unit {0}
CanAsk (GoInfinite path) = path < 16
CanAsk Abort = Unit {0}

-- what the book answers
abbrev pub reply_to : Sending → SendCall → SendReply
reply_to b (Write bytes) = write_reply bytes b
reply_to b Close = close_reply b
reply_to b (Grant path max standby) = grant_reply path max standby b
reply_to b (AckIn next window) = ack_reply next b
reply_to b (Return path) = return_reply path b
reply_to b GoIdentity = Noted
reply_to b (GoInfinite path) = infinite_reply path b
reply_to b Abort = Noted

-- the book after a call
abbrev pub after_call : Sending → SendCall → Sending
after_call b (Write bytes) = after_write bytes b
after_call b Close = after_close b
after_call b (Grant path max standby) = after_grant path max standby b
after_call b (AckIn next window) = after_ack next window b
after_call b (Return path) = after_return path b
after_call b GoIdentity = record b { owner = Some 0 }
after_call b (GoInfinite path) = after_infinite path b
after_call b Abort = record b { aborted = true }
