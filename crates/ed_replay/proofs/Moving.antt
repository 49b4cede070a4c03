-- Bytes that are written part by part.
use Rattle.std.proofs.Common.{◌≡◌, ℕ, List, [], ◌++◌, Option, refl, sym, ap, ◌∙◌, append_assoc}
use Rattle.std.proofs.KnownBytes.{Appends-nil, Appends-trans}
use Rattle.ed_io.specs.Bytes.{Added, AddedFront}

-- nothing was added
pub front_of_none : (a : Option (List ℕ)) (whole : List ℕ) → AddedFront a whole a
front_of_none a whole = ([], (whole, refl), Appends-nil a)

-- a part was added, and then a beginning of the next part
pub cut_off : (a b c : Option (List ℕ)) (whole done part rest : List ℕ) → whole ≡ done ++ (part ++ rest) → Added a done b → AddedFront b part c → AddedFront a whole c
cut_off a b c whole done part rest e added front =
    (done ++ front.0, (front.1.0 ++ rest, append_assoc done front.0 (front.1.0 ++ rest) ∙ ap (λ l. done ++ l) (sym (append_assoc front.0 front.1.0 rest) ∙ ap (λ l. l ++ rest) front.1.1) ∙ sym e), Appends-trans a b c done front.0 added front.2)
