use Rattle.ed_text.proofs.tree.TreeTextText.concat.Given as goal

abbrev pub ghosts-concat_with : goal.ghosts-concat_with
ghosts-concat_with a = record { name = a.blank.name; parts = a.blank.parts }
