-- Where the first versions have no units that were sent, no member owns any on the way.
use Rattle.std.proofs.Common.{ℕ, List}
use Rattle.ed_stock.specs.Stock.{Stock}
use Rattle.ed_stock.specs.Versions.{Rising, step_in}
use Rattle.ed_risen.proofs.Lengths.{ArePlain}
use Rattle.ed_risen.proofs.PlainTurns.{plain_turns}
use Rattle.ed_climb.specs.Route.{AllKeepTheirs}
use Rattle.ed_climb.proofs.Snapshots.{plain_theirs}

pub plain_way : (s : Stock) (first : Rising) (order : List ℕ) → ArePlain (step_in first.moves) → AllKeepTheirs s first order
plain_way s first order plain = λ passed rest b members sources split is moved. plain_theirs _ (plain_turns passed first plain) b members
