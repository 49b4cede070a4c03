use Rattle.std.proofs.Common.{◌∙◌, ap, sym, arith}
use Rattle.ed_io.proofs.Moving.{taken_front}
use Rattle.ed_io.specs.Memory.{SourceMemory}
use Rattle.ed_io.proofs.memory_source.MemorySourceSource.read.Goals as goal

pub returns-clause-taken : goal.returns-clause-taken
returns-clause-taken c =
    ap (λ (s : SourceMemory). s.left) (sym c.self.view_is)
    ∙ taken_front c.deref.result.now _ _ _ c.self.inside.position c.min-count.result c.deref.ensures.value c.copy_from_slice.ensures.after (omega (arith, c.min-count.ensures))
