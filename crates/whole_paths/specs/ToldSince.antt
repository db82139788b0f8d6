-- What a side's peer owed is told, whatever the buffer and the segments are.
use Rattle.whole_paths.specs.CalmWindows.{WhatIsOwedIsTold}

-- so it is of each connection that begins mildly, over one path
abbrev pub WhatIsOwedIsAlwaysTold : Type 0
WhatIsOwedIsAlwaysTold = WhatIsOwedIsTold (λ start plan. Unit {0})
