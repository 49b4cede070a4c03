use Rattle.ed_text.proofs.tree.TreeTextText.slice.Given as goal

abbrev pub ghosts-slice_with : goal.ghosts-slice_with
ghosts-slice_with a = record { name = a.blank.name; parts = a.blank.parts }
