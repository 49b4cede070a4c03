-- The limits of the stock, as numbers.
use Rattle.std.specs.Prelude.{ℕ, ◌+◌, ◌^◌, List, [], ◌∷◌, length, map, count_by, find, sum_by, nat_lt, Option, Some, None, option_map, if◌then◌else◌}
use Rattle.ed_base.specs.declared.refusal.Refusal.{Refusal}
use Rattle.ed_base.specs.declared.refusal.Which.{Which}
use Rattle.ed_base.specs.ChangeList.{inserted_len}
use Rattle.ed_layers.specs.Records.{Record, base, members_of, is_tracked}
use Rattle.ed_stock.specs.Stock.{Stock, Buffer, count, graph_order, record_now, text_now}

abbrev opening_len : Buffer → ℕ
opening_len b = first_len b.records
  where
    first_len : List Record → ℕ
    first_len (base text reiterated ∷ rs) = length text
    first_len _ = 0

-- the units of all opening texts of bases and of all changes
abbrev pub inserted : Stock → ℕ
inserted s = sum_by (λ b. opening_len b + sum_by inserted_len b.changes) s.buffers

abbrev pub versions : Stock → ℕ
versions s = sum_by (λ b. length b.records) s.buffers

-- the tracked members of all records and all changes
abbrev pub placements : Stock → ℕ
placements s = sum_by (λ b. sum_by (λ r. count_by is_tracked (members_of r)) b.records + sum_by (λ c. length c.changes) b.changes) s.buffers

abbrev pub over : Which → ℕ → ℕ → Option Refusal
over which most n = if nat_lt most n then Some (Refusal.Limit which n) else None

-- the first buffer, in graph order, whose number passes the limit
abbrev pub some_over : Which → ℕ → List ℕ → Option Refusal
some_over which most ns = option_map (Refusal.Limit which) (find (nat_lt most) ns)

-- the limits that the stock passes, in the order of the refusals
abbrev pub stock_limits : Stock → List (Option Refusal)
stock_limits s =
    over Which.Buffers s.most_buffers (count s)
    ∷ some_over Which.Units (2 ^ 22) (map (λ b. length (text_now s b)) (graph_order s))
    ∷ over Which.Inserted (2 ^ 27) (inserted s)
    ∷ over Which.Versions s.most_versions (versions s)
    ∷ some_over Which.Members 1024 (map (λ b. length (members_of (record_now s b))) (graph_order s))
    ∷ over Which.Placements (2 ^ 26) (placements s)
    ∷ []
