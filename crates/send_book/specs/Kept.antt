-- What a send book keeps: the marks in runs, of which the acknowledged ones are forgotten.
use Rattle.std.specs.Prelude.{ℕ, ◌≡◌, ◌+◌, ◌-◌, ◌^◌, ◌<◌, ◌≤◌, min, max, Bool, true, false, not, ◌||◌, nat_le, if◌then◌else◌, Option, Some, None, List, [], ◌∷◌, ◌++◌, length, take, drop, replicate, map}
use Rattle.std.specs.List.{list_all}
use Rattle.range_marks.specs.declared.run.Run.{Run}
use Rattle.range_marks.specs.Marks.{Marks, marks_len}
use Rattle.send_book.specs.declared.call.Span.{Span}
use Rattle.send_book.specs.declared.mark.ByteMark.{ByteMark}
use Rattle.send_book.specs.declared.mark.ByteMark.TheVariants.{Acked}
use Rattle.send_book.specs.declared.runs.Move.{Move}
use Rattle.send_book.specs.declared.runs.Move.TheVariants.{Keep, Give, TakeBack}
use Rattle.send_book.specs.Marks.{is_acked, is_held_rightly, is_free_for, is_held_by, has_tried, is_untouched, given, returned}
use Rattle.send_book.specs.State.{Sending}

-- the marks of all bytes
abbrev pub all_marks : Marks ByteMark → List ByteMark
all_marks kept = replicate kept.forgotten Acked ++ kept.marks

-- a book of these fields, where the acknowledged bytes have their marks too
abbrev pub as_sending : ℕ → List ℕ → Marks ByteMark → Bool → Bool → ℕ → Bool → Option ℕ → Sending
as_sending buffer written kept closed aborted edge fin owner = record {
  buffer = buffer;
  written = written;
  marks = all_marks kept;
  closed = closed;
  aborted = aborted;
  edge = edge;
  fin = fin;
  owner = owner;
}

-- there are as many marks as bytes, and no kept one is acknowledged
pub record IsKept (written : List ℕ) (kept : Marks ByteMark) : Type 0 where
  pub whole : length written ≡ marks_len kept
  pub unacked : list_all (λ m. not (is_acked m)) kept.marks ≡ true
  pub held : list_all is_held_rightly kept.marks ≡ true

-- what a move makes of a mark
abbrev pub moved : Move → ByteMark → ByteMark
moved Keep mark = mark
moved (Give path) mark = given path mark
moved (TakeBack path) mark = returned path mark

-- the path of a move is one of the paths 0 to 15
abbrev pub HasPath : Move → Type 0
HasPath Keep = Unit {0}
HasPath (Give path) = path < 16
HasPath (TakeBack path) = path < 16

-- the first byte in these runs that the path may take
abbrev pub first_in : ℕ → List (Run ByteMark) → Option ℕ
first_in path [] = None
first_in path (run ∷ runs) = if is_free_for path run.mark then Some run.from else first_in path runs

-- the place up to which the path may take all bytes from a place on
abbrev pub free_up_to : ℕ → ℕ → List (Run ByteMark) → ℕ
free_up_to path at [] = at
free_up_to path at (run ∷ runs) =
    if nat_le run.to at then free_up_to path at runs
    else (if is_free_for path run.mark then free_up_to path run.to runs else at)

-- how many bytes in these runs the path holds, besides so many others
abbrev pub held_in : ℕ → ℕ → List (Run ByteMark) → ℕ
held_in path others [] = others
held_in path others (run ∷ runs) =
    if is_held_by path run.mark then held_in path (min (others + (run.to - run.from)) (2 ^ 64 - 1)) runs
    else held_in path others runs

-- the runs that the path tried come first, and behind them those that no path tried
abbrev pub gathered_in : ℕ → Bool → List (Run ByteMark) → Bool
gathered_in path behind [] = true
gathered_in path behind (run ∷ runs) =
    if is_untouched run.mark then gathered_in path true runs
    else (if behind || not (has_tried path run.mark) then false else gathered_in path behind runs)

-- the marks from a place on and below another one, moved
abbrev pub moved_in : Move → ℕ → ℕ → List (Run ByteMark) → List ByteMark
moved_in move at to [] = []
moved_in move at to (run ∷ runs) =
    replicate (min run.to to - at) (moved move run.mark) ++ moved_in move (max at (min run.to to)) to runs

-- the marks of a span moved, of which none is forgotten
abbrev pub after_move : Move → Span → Marks ByteMark → Marks ByteMark
after_move move span kept =
    let from = span.from - kept.forgotten in
    let to = span.to - kept.forgotten in
    record kept {
      marks = take from kept.marks ++ (map (moved move) (take (to - from) (drop from kept.marks)) ++ drop to kept.marks);
    }

-- the span has its places from one place on and up to another
pub record LiesWithin (span : Span) (from to : ℕ) : Type 0 where
  pub after : from ≤ span.from
  pub order : span.from ≤ span.to
  pub before : span.to ≤ to
