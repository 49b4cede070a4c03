use Rattle.ed_text.proofs.tree.TreeTextText.replace.Given as goal

abbrev pub ghosts-replace_with : goal.ghosts-replace_with
ghosts-replace_with a = record { name = a.blank.name; parts = a.blank.parts }
