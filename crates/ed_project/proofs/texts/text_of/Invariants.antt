use Rattle.std.proofs.Common.{◌≡◌, length, map, take}
use Rattle.std.specs.Prelude.{sum_by}
use Rattle.ed_layers.specs.Records.{members_len}
use Rattle.ed_project.specs.Texts.{member_text, text_in}
use Rattle.ed_project.proofs.texts.text_of.Given as goal

abbrev pub invariant-loop-i : goal.invariant-loop-i
invariant-loop-i l = record {
  texts : l.parts.items ≡ map (member_text (text_in l.snapshots)) (take l.i l.members);
  lens : sum_by length l.parts.items ≡ members_len (take l.i l.members);
}
