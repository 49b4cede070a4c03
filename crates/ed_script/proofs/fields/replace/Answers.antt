use Rattle.std.proofs.Common.{arith}
use Rattle.serde_json.specs.View.{view}
use Rattle.ed_script.proofs.Arrays.{replace-none}
use Rattle.ed_script.proofs.fields.replace.Goals as goal

pub returns-then-len-ne3 : goal.returns-then-len-ne3
returns-then-len-ne3 c = replace-none (view c.args.value.now) c.in-Some.items.now.items c.in-Some.ensures (λ e. omega arith)
