-- The made input of `bench`.
use Rattle.std.specs.Prelude.{ℕ, List, Option, Some, None, option_and_then}
use Rattle.run_words.specs.Lines.{Line, Work, run, serial, timed, replay, bench, line_of}
use Rattle.mptcp_run.specs.declared.report.Report.TheVariants.{Summary}
use Rattle.mptcp_run.specs.declared.schedule.Schedule.TheVariants.{Serial}
use Rattle.mptcp_run.specs.Task.{Task, rounds}
use Rattle.run_outside.specs.MadeInput.{made_script, made_file}

-- Whole turns over the made input of a number, at most so many rounds. What A writes is drawn from stream 1,000, what B writes from
-- stream 1,001. In the place of a log one line is put.
abbrev pub made_task : ℕ → ℕ → Task
made_task number most = record {
  script = made_script number;
  file_a = made_file number 1000;
  file_b = made_file number 1001;
  course = rounds Serial most;
  report = Summary number;
}

-- what a command line that asks for `bench` is to do
pub record Bench : Type 0 where
  pub line : Line
  pub task : Task

abbrev pub bench_by : Work → Line → Option Bench
bench_by (bench most number) line = Some (record { line = line; task = made_task number most })
bench_by (run most) line = None
bench_by (serial most) line = None
bench_by (timed most) line = None
bench_by (replay log) line = None

abbrev pub bench_of : Line → Option Bench
bench_of line = bench_by line.work line

-- what the words behind the program's name ask for, where that is `bench`
unfoldable pub bench_in : List (List ℕ) → Option Bench
bench_in words = option_and_then bench_of (line_of words)
