-- A path that is whole, and still is after rounds enough, has delivered both files: over one path.
use Rattle.std.specs.Prelude.{ℕ}
use Rattle.world_laws.specs.Openings.{Start}
use Rattle.whole_paths.specs.Finish.{Patience}
use Rattle.whole_paths.specs.OnePathScripts.{for_all_news, rounds_within}

-- the ticks within which there is more news: a greatest timeout of 60,000 ticks, 400 there and 400 back, and three rounds of 100
abbrev pub news_within : Start → ℕ
news_within start = 61100

-- Enough rounds for all news that there can be, and for each segment that is harmed. For each byte of a file there are eight pieces of news, and
-- rounds enough for each; so this is far more than a run takes.
abbrev pub long_patience : Patience
long_patience = rounds_within (for_all_news news_within)
