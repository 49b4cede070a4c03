-- Tracking between two versions is tracking through the change lists between them.
use Rattle.std.proofs.Common.{◌≡◌, ℕ, ◌-◌, ◌<◌, ◌≤◌, List, take, drop, sym, ap, ◌∙◌}
use Rattle.std.specs.Prelude.{slice_range, map}
use Rattle.std.proofs.lemmas.List.{drop-map, take-map}
use Rattle.std.proofs.lemmas.Bool.{le-leb, lt-leb}
use Rattle.ed_base.specs.ChangeList.{ChangeList, step}
use Rattle.ed_base.specs.Step.{Step}
use Rattle.ed_base.specs.Tracking.{through, back_through, between_versions}

map-range : {X Y : Type 0} (g : X → Y) (xs : List X) (i j : ℕ) → map g (slice_range xs i j) ≡ slice_range (map g xs) i j
map-range g xs i j = sym (ap (take (j - i)) (drop-map g i xs) ∙ take-map g (j - i) (drop i xs))

pub forward : {X : Type 0} (move : X → Step → X) (changes steps : List ChangeList) (a : X) (i j : ℕ) → i ≤ j → steps ≡ slice_range changes i j → through move a (map step steps) ≡ between_versions move (map step changes) a i j
forward move changes steps a i j order are = rw (le-leb i j order, are) (ap (through move a) (map-range step changes i j))

pub backward : {X : Type 0} (move : X → Step → X) (changes steps : List ChangeList) (a : X) (i j : ℕ) → j < i → steps ≡ slice_range changes j i → back_through move a (map step steps) ≡ between_versions move (map step changes) a i j
backward move changes steps a i j order are = rw (lt-leb i j order, are) (ap (back_through move a) (map-range step changes j i))
