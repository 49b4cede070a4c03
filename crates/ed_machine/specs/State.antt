-- The state of the editor.
use Rattle.std.specs.Prelude.{ℕ, List, [], position, Option, unwrap_or}
use Rattle.std.specs.Str.{bytes_eq}
use Rattle.ed_base.specs.Step.{Step}
use Rattle.ed_layers.specs.Records.{Record}
use Rattle.ed_stock.specs.Stock as stock
use Rattle.ed_stock.specs.Stock.{Stock, Buffer, empty_stock}

pub record State : Type 0 where
  -- the buffers, and their names
  pub stock : Stock
  pub names : List (List ℕ)
  -- the weights of all replies together
  pub answered : ℕ

abbrev pub empty_state : State
empty_state = record { stock = empty_stock; names = []; answered = 0 }

-- ---- names

-- the number of the buffer of this name
abbrev pub number_of : State → List ℕ → Option ℕ
number_of s name = position (bytes_eq name) s.names

-- the same for a name that is there
abbrev pub number : State → List ℕ → ℕ
number s name = unwrap_or (number_of s name) 0

-- ---- looking up in the stock

abbrev pub buffer : State → ℕ → Buffer
buffer s b = stock.buffer s.stock b

-- the current version
abbrev pub now : State → ℕ → ℕ
now s b = stock.now s.stock b

abbrev pub record_at : State → ℕ → ℕ → Option Record
record_at s b v = stock.record_at s.stock b v

abbrev pub record_now : State → ℕ → Record
record_now s b = stock.record_now s.stock b

abbrev pub text_at : State → ℕ → ℕ → List ℕ
text_at s b v = stock.text_at s.stock b v

abbrev pub text_now : State → ℕ → List ℕ
text_now s b = stock.text_now s.stock b

abbrev pub steps_of : State → ℕ → List Step
steps_of s b = stock.steps_of s.stock b

abbrev pub reiterated : State → ℕ → ℕ → ℕ
reiterated s b v = stock.reiterated s.stock b v

abbrev pub count : State → ℕ
count s = stock.count s.stock

abbrev pub graph_order : State → List ℕ
graph_order s = stock.graph_order s.stock

-- ---- changing the state

abbrev pub with_stock : State → Stock → State
with_stock s x = record s { stock = x }

abbrev pub with_buffer : State → ℕ → Buffer → State
with_buffer s b x = with_stock s (stock.with_buffer s.stock b x)
