-- A run of messages over a script of which it is known how many rounds are enough.
use Rattle.std.proofs.Common.{[], Option, Some, None, IfSome, inl, inr}
use Rattle.outside_kit.specs.Outside.{Told}
use Rattle.run_words.specs.Lines.{Line}
use Rattle.run_outside.specs.declared.status.Status.{Status}
use Rattle.mptcp_run.specs.Clean.{DeliversIfClean, DeliversIfFew}
use Rattle.mptcp_run.specs.Messages.{as_framed, as_run, IsMessagesAnswer}
use Rattle.mptcp_run.proofs.CleanRuns.{clean_runs_deliver, few_runs_deliver}

module _ (old new : Told) (status : Status) where
  messages_clean : (line : Line) → IsMessagesAnswer line old new status → DeliversIfClean line (as_framed line old) new status
  messages_clean line (inl unbegun) valid enough loaded still = inr unbegun.status_is
  messages_clean line (inr ran) valid enough loaded still =
      clean_runs_deliver line (as_run line [] [] [] old) (record (as_run line ran.read_by_a.octets ran.read_by_b.octets ran.made new) { content = ran.contents }) status ran.answer valid enough loaded still

  pub clean_if_messages : (asked : Option Line) → IfSome asked (λ line. IsMessagesAnswer line old new status)
      → IfSome asked (λ line. DeliversIfClean line (as_framed line old) new status)
  clean_if_messages None h = tt
  clean_if_messages (Some line) h = messages_clean line h

  messages_few : (line : Line) → IsMessagesAnswer line old new status → DeliversIfFew line (as_framed line old) new status
  messages_few line (inl unbegun) valid enough loaded still = inr unbegun.status_is
  messages_few line (inr ran) valid enough loaded still =
      few_runs_deliver line (as_run line [] [] [] old) (record (as_run line ran.read_by_a.octets ran.read_by_b.octets ran.made new) { content = ran.contents }) status ran.answer valid enough loaded still

  pub few_if_messages : (asked : Option Line) → IfSome asked (λ line. IsMessagesAnswer line old new status)
      → IfSome asked (λ line. DeliversIfFew line (as_framed line old) new status)
  few_if_messages None h = tt
  few_if_messages (Some line) h = messages_few line h
