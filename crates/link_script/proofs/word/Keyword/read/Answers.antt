use Rattle.std.proofs.Common.{rules, ap, ◌∙◌, sym, Option}
use borrow.Author.Tests.{tests}
use Rattle.std.specs.Option.{ok_or}
use Rattle.std.specs.Str.{bytes_eq}
use Rattle.std.proofs.lemmas.Iterator.{YieldsList-from_slice}
use Rattle.std.proofs.lemmas.Iterator.Consumers.{YieldsList-from_copied}
use Rattle.std.proofs.lemmas.Iterator.Adapters.{option_map_id}
use Rattle.std.proofs.lemmas.Iterator.Search.{find_from_yields_List}
use Rattle.link_script.specs.Words.{keyword_word, keywords, keyword}
use Rattle.link_script.specs.declared.fault.ScriptKind.TheVariants.{Word}
use Rattle.link_script.specs.declared.word.Keyword.{Keyword}
use Rattle.link_script.proofs.word.Keyword.read.Goals as goal

pub returns : goal.returns
unfolding keyword
returns c =
    let all = YieldsList-from_copied {s = c.copied.result} (YieldsList-from_slice keywords cc) in
    let found = find_from_yields_List (λ k. bytes_eq (keyword_word k) c.args.word.now) _ _ c.find.result c.find.ensures.ran all (λ x b q k. search (rules, tests)) in
    c.ok_or.ensures.value ∙ ap (λ (o : Option Keyword). ok_or o Word) (sym (option_map_id c.find.result) ∙ found)
