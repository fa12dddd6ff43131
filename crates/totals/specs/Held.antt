-- What the code holds of the sums that finishing looks at, as the definitions of the network have them.
use Rattle.std.specs.Prelude.{List, ℤ}
use Rattle.prelude.specs.Lists.{at}
use Rattle.network.specs.Certificate.{Sums}

-- The sums that the code holds: one balance for each vertex, the total cost, the capacity of the cut.
abbrev pub sums_held : List ℤ → ℤ → ℤ → Sums
sums_held balances cost cut = record { balances = at balances; cost = cost; cut = cut }
