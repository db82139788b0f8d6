use Rattle.std.proofs.Common.{string_bytes}
use Rattle.mptcp_view.proofs.Words.{eight_asked}
use Rattle.mptcp_view.proofs.asking.asked_with.Goals as goal

pub returns-clause-asked : goal.returns-clause-asked
returns-clause-asked c =
    eight_asked string_bytes c.args.messages c.args.words.now _ _ _ _ _ _ _ _ c.in-len8.len_at_least c.in-len8.len_below c.word-item.is c.option-item.is c.value-item.is
    c.script-item.is c.file_a-item.is c.file_b-item.is c.log-item.is c.out-item.is _ _ _ _ _ _ _ _
    c.as_str.ensures.value c.as_str-2.ensures.value c.as_str-3.ensures.value c.as_str-4.ensures.value c.as_str-5.ensures.value
    c.as_str-6.ensures.value c.as_str-7.ensures.value c.as_str-8.ensures.value _ c.view_at.ensures _ c.asked_of.ensures.asked
