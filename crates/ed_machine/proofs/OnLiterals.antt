-- what a worked row unfolds to compute
use Rattle.ed_layers.proofs.OnLiterals.{layers_on_literals}
use Rattle.ed_stock.proofs.OnLiterals.{stock_on_literals}
use Rattle.ed_machine.specs.Accepted.{accepted}
use Rattle.ed_machine.specs.Limits.{limit_fault}
use Rattle.ed_machine.specs.Refusals.{tests}
use Rattle.ed_machine.specs.Step.{step}

unfoldable pub machine_on_literals : Unit {0}
unfolding layers_on_literals stock_on_literals accepted limit_fault tests step
machine_on_literals = tt
