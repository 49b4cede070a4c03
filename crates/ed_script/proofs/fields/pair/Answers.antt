use Rattle.std.proofs.Common.{arith}
use Rattle.serde_json.specs.View.{view}
use Rattle.ed_script.proofs.Arrays.{pair-none}
use Rattle.ed_script.proofs.fields.pair.Goals as goal

pub returns-in_default-as_slice : goal.returns-in_default-as_slice
returns-in_default-as_slice c = pair-none (view c.args.value.now) c.in-Some.items.now.items c.in-Some.ensures (λ e. omega arith)

pub returns-in_default-as_slice-2 : goal.returns-in_default-as_slice-2
returns-in_default-as_slice-2 c = pair-none (view c.args.value.now) c.in-Some.items.now.items c.in-Some.ensures (λ e. omega arith)
