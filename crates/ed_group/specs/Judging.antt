-- Why members can't be those of a new projection, but for limits.
use Rattle.std.specs.Prelude.{◌+◌, List, [], ◌∷◌, Option}
use Rattle.ed_base.specs.declared.Member.{Member}
use Rattle.ed_base.specs.declared.Refusal.{Refusal}
use Rattle.ed_base.specs.Numbers.{first_some}
use Rattle.ed_layers.specs.Order.{mode_fault, overlap_fault}
use Rattle.ed_stock.specs.Stock.{Stock, count}
use Rattle.ed_stock.specs.Linking.{depth}
use Rattle.ed_stock.specs.Making.{sources_in}
use Rattle.ed_group.specs.Answers.{len_now}

abbrev pub standing_fault : Stock → List Member → Option Refusal
standing_fault s members = first_some (mode_fault (len_now s) members ∷ overlap_fault members ∷ depth s (count s + 1) (count s) (sources_in [] members) ∷ [])
