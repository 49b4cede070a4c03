use Rattle.tests_texts.proofs.trees.edited.Given as goal

abbrev pub ghosts-spliced : goal.ghosts-spliced
ghosts-spliced a = record { name = a.blank.name; parts = a.blank.parts }
