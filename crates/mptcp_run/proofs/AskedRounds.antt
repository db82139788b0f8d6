-- A run of rounds is asked for one round at least, and the number of a made input is at most 256.
use Rattle.std.proofs.Common.{◌≡◌, refl, subst, ℕ, ◌≤◌, Bool, true, false, ◌&&◌, if◌then◌else◌, List, Option, Some, None, IfSome, arith}
use Rattle.std.specs.Prelude.{nat_le, codes, option_map}
use Rattle.std.specs.Str.{bytes_eq}
use Rattle.std.specs.Str.Parse.{digits_value}
use Rattle.std.proofs.lemmas.Bool.{and_parts, leb-true}
use Rattle.run_words.specs.Numbers.{is_numeral, number_within}
use Rattle.run_words.specs.Parts.{Word, Part, parts_of, mode_option, rounds_option, order_option, number_option}
use Rattle.run_words.specs.Lines.{at_most_once, values_of, names_of, names_in, Work, run, serial, timed, replay, bench, Names, Line, ◌>>=◌, is_given, rounds_in, work_in, line_of_parts, line_of}
use Rattle.mptcp_run.specs.Asked.{AsksInRange}

abbrev Asks : Line → Type 0
Asks line = AsksInRange line.work

bind_has : {X Y : Type 0} (o : Option X) (f : X → Option Y) (P : Y → Type 0) → ((x : X) → IfSome (f x) P) → IfSome (o >>= f) P
bind_has None f P h = tt
bind_has (Some x) f P h = h x

-- ---- the number of rounds

within_least : (least most : ℕ) (word : List ℕ) → IfSome (number_within least most word) (λ n. least ≤ n)
unfolding number_within
within_least least most word =
    by (is_numeral word && nat_le least (digits_value 10 word) && nat_le (digits_value 10 word) most) refl
  where
    by : (b : Bool) → (is_numeral word && nat_le least (digits_value 10 word) && nat_le (digits_value 10 word) most) ≡ b
        → IfSome (if b then Some (digits_value 10 word) else None) (λ n. least ≤ n)
    by true is =
        let above = and_parts (is_numeral word && nat_le least (digits_value 10 word)) (nat_le (digits_value 10 word) most) is in
        let both = and_parts (is_numeral word) (nat_le least (digits_value 10 word)) above.0 in
        leb-true least (digits_value 10 word) both.1
    by false is = tt

within_most : (least most : ℕ) (word : List ℕ) → IfSome (number_within least most word) (λ n. n ≤ most)
unfolding number_within
within_most least most word =
    by (is_numeral word && nat_le least (digits_value 10 word) && nat_le (digits_value 10 word) most) refl
  where
    by : (b : Bool) → (is_numeral word && nat_le least (digits_value 10 word) && nat_le (digits_value 10 word) most) ≡ b
        → IfSome (if b then Some (digits_value 10 word) else None) (λ n. n ≤ most)
    by true is =
        let above = and_parts (is_numeral word && nat_le least (digits_value 10 word)) (nat_le (digits_value 10 word) most) is in
        leb-true (digits_value 10 word) most above.1
    by false is = tt

some_rounds : (o : Option Word) → IfSome (rounds_in o) (λ n. 1 ≤ n)
some_rounds None = omega arith
some_rounds (Some word) = within_least 1 65536 word

-- ---- the work

plain_asks : (b c d : Bool) (o : Option ℕ) → IfSome o (λ n. 1 ≤ n)
    → IfSome (if b then option_map run o else (if c then option_map serial o else (if d then option_map timed o else None))) AsksInRange
plain_asks true c d None h = tt
plain_asks true c d (Some n) h = h
plain_asks false true d None h = tt
plain_asks false true d (Some n) h = h
plain_asks false false true None h = tt
plain_asks false false true (Some n) h = h
plain_asks false false false o h = tt

replay_asks : (b : Bool) (log : Word) → IfSome (if b then Some (replay log) else None) AsksInRange
replay_asks true log = tt
replay_asks false log = tt

bench_asks : (b : Bool) (most number : Option ℕ) → IfSome number (λ n. n ≤ 256) → IfSome (if b then (most >>= λ n. number >>= λ input. Some (bench n input)) else None) AsksInRange
bench_asks true None number few = tt
bench_asks true (Some n) None few = tt
bench_asks true (Some n) (Some input) few = few
bench_asks false most number few = tt

work_asks : (word : Word) (rounds log number : Option Word) → IfSome (work_in word rounds log number) AsksInRange
work_asks word rounds None None =
    plain_asks (bytes_eq word (codes "run")) (bytes_eq word (codes "serial")) (bytes_eq word (codes "timed")) (rounds_in rounds) (some_rounds rounds)
work_asks word None (Some log) None = replay_asks (bytes_eq word (codes "replay") && is_given log) log
work_asks word (Some most) (Some log) None = tt
work_asks word rounds None (Some number) = bench_asks (bytes_eq word (codes "bench")) (rounds_in rounds) (number_within 1 256 number) (within_most 1 256 number)
work_asks word None (Some log) (Some number) = tt
work_asks word (Some most) (Some log) (Some number) = tt

-- ---- the line

line_with : (o : Option Work) (names : Names) → IfSome o AsksInRange → IfSome (o >>= λ work. Some (record { work = work; names = names })) Asks
line_with None names h = tt
line_with (Some work) names h = h

module _ (parts : List Part) where
  abbrev by_work : Option Word → Option Word → Option Word → Names → Word → Option Line
  by_work most log input names given = work_in given most log input >>= λ work. Some (record { work = work; names = names })

  abbrev by_names : Option Word → Option Word → Option Word → Option Word → Names → Option Line
  by_names word most log input names = word >>= by_work most log input names

  abbrev by_number : Option Word → Option Word → Option Word → Option Word → Option Line
  by_number word most log input = names_in (names_of parts) >>= by_names word most log input

  abbrev by_order : Option Word → Option Word → Option Word → Option Line
  by_order word most log = at_most_once (values_of number_option parts) >>= by_number word most log

  abbrev by_rounds : Option Word → Option Word → Option Line
  by_rounds word most = at_most_once (values_of order_option parts) >>= by_order word most

  abbrev by_mode : Option Word → Option Line
  by_mode word = at_most_once (values_of rounds_option parts) >>= by_rounds word

  parts_ask : IfSome (line_of_parts parts) Asks
  unfolding line_of_parts
  parts_ask =
      bind_has (at_most_once (values_of mode_option parts)) by_mode Asks (λ word.
      bind_has (at_most_once (values_of rounds_option parts)) (by_rounds word) Asks (λ most.
      bind_has (at_most_once (values_of order_option parts)) (by_order word most) Asks (λ log.
      bind_has (at_most_once (values_of number_option parts)) (by_number word most log) Asks (λ input.
      bind_has (names_in (names_of parts)) (by_names word most log input) Asks (λ names.
      bind_has word (by_work most log input names) Asks (λ given.
      line_with (work_in given most log input) names (work_asks given most log input)))))))

pub line_asks : (words : List Word) → IfSome (line_of words) Asks
unfolding line_of
line_asks words = bind_has (parts_of None words) line_of_parts Asks parts_ask

-- a line that was read asks for numbers in their range
pub line_asked : (words : List Word) (line : Line) → line_of words ≡ Some line → AsksInRange line.work
line_asked words line is = subst (λ (o : Option Line). IfSome o Asks) is (line_asks words)
