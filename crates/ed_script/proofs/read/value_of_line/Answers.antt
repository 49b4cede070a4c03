use Rattle.std.proofs.Common.{◌≡◌, true, false, sym}
use Rattle.ed_script.proofs.Values.{value_of-some, value_of-none}
use Rattle.ed_script.proofs.read.value_of_line.Goals as goal

pub returns-in-Ok : goal.returns-in-Ok
returns-in-Ok c = sym (value_of-some _ _ c.in-Ok.ensures.ok.0 c.in-Ok.ensures.ok.1)

no : false ≡ true → ⊥
no e = cc

pub returns-else-is_memory : goal.returns-else-is_memory
returns-else-is_memory c = sym (value_of-none _ (λ text. c.in-Err.ensures.err (λ m. no (c.if-is_memory.ensures.1 m)) text))
