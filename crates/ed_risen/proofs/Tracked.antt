-- How many of the first members follow sources.
use Rattle.std.proofs.Common.{◌≡◌, ℕ, zero, suc, ◌+◌, true, false, List, [], ◌∷◌, Some, refl, ap, ◌∙◌}
use Rattle.std.specs.Prelude.{count_by, slice_get, slice_index_or, take}
use Rattle.std.proofs.lemmas.List.Sums.{count_by_more_no, count_by_more_yes}
use Rattle.std.proofs.lemmas.Option.{slice_get_within}
use Rattle.ed_base.specs.declared.Member.{Member}
use Rattle.ed_layers.specs.Records.{is_tracked}

index_is : (xs : List Member) (i : ℕ) (x : Member) → slice_get xs i ≡ Some x → slice_index_or xs i x ≡ x
index_is [] i x h = refl
index_is (y ∷ ys) zero x h = (cc)
index_is (y ∷ ys) (suc i) x h = index_is ys i x h

pub one_more : (xs : List Member) (i : ℕ) (x : Member) → slice_get xs i ≡ Some x → is_tracked x ≡ true → count_by is_tracked (take (i + 1) xs) ≡ count_by is_tracked (take i xs) + 1
one_more xs i x h is = count_by_more_yes is_tracked xs i x (slice_get_within xs i x h) (ap is_tracked (index_is xs i x h) ∙ is)

pub no_more : (xs : List Member) (i : ℕ) (x : Member) → slice_get xs i ≡ Some x → is_tracked x ≡ false → count_by is_tracked (take (i + 1) xs) ≡ count_by is_tracked (take i xs)
no_more xs i x h is = count_by_more_no is_tracked xs i x (slice_get_within xs i x h) (ap is_tracked (index_is xs i x h) ∙ is)
