-- Where no buffer below an edited one is shown twice over.
use Rattle.std.specs.Prelude.{◌≡◌, ℕ, true}
use Rattle.ed_base.specs.Numbers.{is_among}
use Rattle.ed_stock.specs.Stock.{Stock, reaches, sources_now}

-- among the edited buffer and those below it, no two stand on one buffer
abbrev pub HasOneCarrierEach : Stock → ℕ → Type 0
HasOneCarrierEach s top = (c d b : ℕ) → reaches s top c ≡ true → reaches s top d ≡ true → is_among b (sources_now s c) ≡ true → is_among b (sources_now s d) ≡ true → c ≡ d
