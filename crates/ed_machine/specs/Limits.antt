-- The limits, as numbers of a state.
use Rattle.std.specs.Prelude.{◌^◌, [], ◌∷◌, ◌++◌, length, map, Option}
use Rattle.ed_base.specs.declared.Refusal.{Refusal}
use Rattle.ed_base.specs.declared.Which.{Which}
use Rattle.ed_base.specs.Numbers.{first_some}
use Rattle.ed_stock.specs.Limits.{over, some_over, stock_limits}
use Rattle.ed_machine.specs.State.{State, buffer, graph_order}

-- the first limit that the state passes, with the number that is reached
unfoldable pub limit_fault : State → Option Refusal
limit_fault s = first_some (stock_limits s.stock ++ (
    some_over Which.Regions 1024 (map (λ b. length (buffer s b).regions) (graph_order s))
    ∷ some_over Which.Regions (2 ^ 20) (map (λ b. (buffer s b).regions_given) (graph_order s))
    ∷ over Which.Answers (2 ^ 25) s.answered
    ∷ []))
