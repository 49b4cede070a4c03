-- Worked examples, by computing.
use Rattle.std.proofs.Common.{◌≡◌, [], ◌∷◌, refl}
use Rattle.ed_lines.specs.Lines.{lines, line, line_of}

three : lines (97 ∷ 13 ∷ 10 ∷ 98 ∷ 10 ∷ []) ≡ line 0 1 2 ∷ line 3 4 1 ∷ line 5 5 0 ∷ []
three = refl

within : line_of (97 ∷ 13 ∷ 10 ∷ 98 ∷ 10 ∷ []) 2 ≡ 0
within = refl

after : line_of (97 ∷ 13 ∷ 10 ∷ 98 ∷ 10 ∷ []) 3 ≡ 1
after = refl

no_unit : lines [] ≡ line 0 0 0 ∷ []
no_unit = refl

each_alone : lines (10 ∷ 13 ∷ 133 ∷ 8232 ∷ 8233 ∷ []) ≡ line 0 0 1 ∷ line 1 1 1 ∷ line 2 2 1 ∷ line 3 3 1 ∷ line 4 4 1 ∷ line 5 5 0 ∷ []
each_alone = refl
