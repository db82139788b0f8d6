use Rattle.path_core.specs.Octets.{octets}
use Rattle.path_core.specs.Values.{values}
use Rattle.whole_paths.proofs.BookNews as counts
use Rattle.whole_paths.proofs.holder_laws.each_byte_counts.Goals as goal

pub returns-clause-octets : goal.returns-clause-octets
returns-clause-octets c = counts.book_news_never_falls octets

pub returns-clause-values : goal.returns-clause-values
returns-clause-values c = counts.book_news_never_falls values

pub returns-clause-rises_octets : goal.returns-clause-rises_octets
returns-clause-rises_octets c = counts.each_byte_counts octets

pub returns-clause-rises : goal.returns-clause-rises
returns-clause-rises c = counts.each_byte_counts values

pub returns-clause-bounded : goal.returns-clause-bounded
returns-clause-bounded c = counts.book_news_is_bounded

pub returns-clause-returns_octets : goal.returns-clause-returns_octets
returns-clause-returns_octets c = counts.what_is_given_back_counts octets

pub returns-clause-returns : goal.returns-clause-returns
returns-clause-returns c = counts.what_is_given_back_counts values
