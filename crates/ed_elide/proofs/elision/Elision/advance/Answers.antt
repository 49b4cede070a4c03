use Rattle.std.proofs.Common.{◌≡◌, ℕ, Bool, List, length, sym, ap, ◌∙◌}
use Rattle.std.proofs.lemmas.List.FromFn.{length-map-range_with_len}
use Rattle.ed_layers.specs.Hidden.{flags_after, hidden_after}
use Rattle.ed_layers.specs.SourceStep.{SourceStep}
use Rattle.ed_members.specs.Steps.{step_seen}
use Rattle.ed_elide.proofs.elision.Elision.advance.Goals as goal

-- a flag for each place of the new text
as_long : (me : ℕ) (s : SourceStep) (flags : List Bool) → length (flags_after me s flags) ≡ s.step.new_len
as_long me s flags = length-map-range_with_len (hidden_after me s flags) 0 s.step.new_len

pub planned-requires-clause-new : goal.planned-requires-clause-new
planned-requires-clause-new g c = sym c.in_ok-hidden.ensures.len

pub planned-requires-clause-long : goal.planned-requires-clause-long
planned-requires-clause-long g c = sym c.requires.new ∙ sym (ap length c.in_ok-hidden.ensures.flags ∙ as_long _ (step_seen c.args.step.now) _)
