use Rattle.tests_texts.proofs.plain_types.a_caller_opens_a_counter.Given as goal

abbrev pub ghosts-counted : goal.ghosts-counted
ghosts-counted a = record { name = a.blank.name; parts = a.blank.parts }
