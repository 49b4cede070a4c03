-- Normal change lists: their room, their new starts and their new length.
use Rattle.std.proofs.Common.{◌≡◌, ℕ, ◌+◌, ◌-◌, ◌<◌, ◌≤◌, List, [], ◌∷◌, ◌++◌, length, get_or, drop, refl, ◌∙◌, arith, append_assoc, add-one, drop-cons, subst}
use Rattle.std.proofs.lemmas.List.Sums.{sum_by-cons}
use Rattle.std.specs.Prelude.{sum_by}
use Rattle.ed_base.specs.declared.edit.Change.{Change}
use Rattle.ed_base.specs.ChangeList.{AreNormalFrom, new_len}
use Rattle.ed_base.specs.NewStarts.{starts_from}

-- how many units the changes take away, and how many they put in
abbrev pub taken : List Change → ℕ
taken [] = 0
taken (c ∷ cs) = c.old_len + taken cs

abbrev pub given : List Change → ℕ
given [] = 0
given (c ∷ cs) = length c.text + given cs

pub sum_by_taken : (cs : List Change) → sum_by (λ x. x.old_len) cs ≡ taken cs
sum_by_taken [] = refl
sum_by_taken (c ∷ cs) = omega (arith, sum_by_taken cs, sum_by-cons (λ (x : Change). x.old_len) c cs)

pub sum_by_given : (cs : List Change) → sum_by (λ x. length x.text) cs ≡ given cs
sum_by_given [] = refl
sum_by_given (c ∷ cs) = omega (arith, sum_by_given cs, sum_by-cons (λ (x : Change). length x.text) c cs)

-- the new length, from old place i and new place j up to the end n of the old text
abbrev pub end_from : ℕ → ℕ → ℕ → List Change → ℕ
end_from i j n [] = j + (n - i)
end_from i j n (c ∷ cs) = end_from (c.start + c.old_len) (j + (c.start - i) + length c.text) n cs

-- a list that is normal from a place on is so from each place before it
pub normal_earlier : (p q n : ℕ) (cs : List Change) → p ≤ q → AreNormalFrom q n cs → AreNormalFrom p n cs
normal_earlier p q n [] below normal = tt
normal_earlier p q n (c ∷ cs) below normal = (omega (arith, normal.0), normal.1, normal.2, normal.3)

-- what the changes take away, and a kept unit between any two, lies in the text
pub normal_room : (p n : ℕ) (cs : List Change) → p ≤ n + 1 → AreNormalFrom p n cs → p + length cs + taken cs ≤ n + 1
normal_room p n [] within normal = omega arith
normal_room p n (c ∷ cs) within normal =
    let rest : (c.start + c.old_len + 1) + length cs + taken cs ≤ n + 1 = normal_room (c.start + c.old_len + 1) n cs (omega (arith, normal.1)) normal.3 in
    omega (arith, rest, normal.0)

-- what they take away lies in the text
pub taken_within : (p n : ℕ) (cs : List Change) → p ≤ n → AreNormalFrom p n cs → p + taken cs ≤ n
taken_within p n [] within normal = omega arith
taken_within p n (c ∷ cs) within normal =
    let rest : (c.start + c.old_len) + taken cs ≤ n = taken_within (c.start + c.old_len) n cs normal.1 (normal_earlier (c.start + c.old_len) (c.start + c.old_len + 1) n cs (omega arith) normal.3) in
    omega (arith, rest, normal.0)

-- each does something
pub normal_count : (p n : ℕ) (cs : List Change) → AreNormalFrom p n cs → length cs ≤ taken cs + given cs
normal_count p n [] normal = omega arith
normal_count p n (c ∷ cs) normal =
    let rest : length cs ≤ taken cs + given cs = normal_count (c.start + c.old_len + 1) n cs normal.3 in
    omega (arith, rest, normal.2)

-- the new length, counted from a place on
pub end_from_is : (i j n : ℕ) (cs : List Change) → i ≤ n → AreNormalFrom i n cs → end_from i j n cs + i + taken cs ≡ j + n + given cs
end_from_is i j n [] within normal = omega arith
end_from_is i j n (c ∷ cs) within normal =
    let rest : end_from (c.start + c.old_len) (j + (c.start - i) + length c.text) n cs + (c.start + c.old_len) + taken cs ≡ (j + (c.start - i) + length c.text) + n + given cs =
    end_from_is (c.start + c.old_len) (j + (c.start - i) + length c.text) n cs normal.1 (normal_earlier (c.start + c.old_len) (c.start + c.old_len + 1) n cs (omega arith) normal.3) in
    omega (arith, rest, normal.0)

-- the new length of a normal list
pub new_len_is_end : (n : ℕ) (cs : List Change) → AreNormalFrom 0 n cs → end_from 0 0 n cs ≡ new_len (record { old_len = n; changes = cs })
new_len_is_end n cs normal = omega (arith, sum_by_taken cs, sum_by_given cs, end_from_is 0 0 n cs (omega arith) normal, taken_within 0 n cs (omega arith) normal)

-- it isn't below a place that was reached
pub reached_below_end : (i j n : ℕ) (cs : List Change) → j ≤ end_from i j n cs
reached_below_end i j n [] = omega arith
reached_below_end i j n (c ∷ cs) = omega (arith, reached_below_end (c.start + c.old_len) (j + (c.start - i) + length c.text) n cs)

-- there are fewer changes than a number of units can be
pub few_changes : (m n : ℕ) (cs : List Change) → AreNormalFrom 0 n cs → n < m → new_len (record { old_len = n; changes = cs }) < m → length cs < m
few_changes m n cs normal old new =
    omega (arith, sum_by_taken cs, sum_by_given cs, normal_room 0 n cs (omega arith) normal, normal_count 0 n cs normal, taken_within 0 n cs (omega arith) normal)

-- there is a new start for each change
pub length_starts : (i j : ℕ) (cs : List Change) → length (starts_from i j cs) ≡ length cs
length_starts i j [] = refl
length_starts i j (c ∷ cs) = omega (arith, length_starts (c.start + c.old_len) (j + (c.start - i) + length c.text) cs)

-- The work on a list of all changes, done up to old place i and new place j: the starts that were found, and the changes that are left.
pub record Reached (n : ℕ) (all : List Change) (i j : ℕ) (found : List ℕ) (rest : List Change) : Type 0 where
  pub within : i ≤ n
  pub normal : AreNormalFrom i n rest
  pub starts : found ++ starts_from i j rest ≡ starts_from 0 0 all
  pub len : end_from i j n rest ≡ end_from 0 0 n all

pub reached_next : (n : ℕ) (all : List Change) (i j : ℕ) (found : List ℕ) (c : Change) (cs : List Change) → Reached n all i j found (c ∷ cs) → Reached n all (c.start + c.old_len) (j + (c.start - i) + length c.text) (found ++ (j + (c.start - i)) ∷ []) cs
reached_next n all i j found c cs r = record {
  within = r.normal.1;
  normal = normal_earlier (c.start + c.old_len) (c.start + c.old_len + 1) n cs (omega arith) r.normal.3;
  starts = rw append_assoc r.starts;
  len = r.len;
}

-- no place that is reached lies behind the new end
pub reached_fits : (m n : ℕ) (all : List Change) (i j : ℕ) (found : List ℕ) (c : Change) (cs : List Change) → AreNormalFrom 0 n all → new_len (record { old_len = n; changes = all }) < m → Reached n all i j found (c ∷ cs) → j + (c.start - i) + length c.text < m
reached_fits m n all i j found c cs normal fits r =
    omega (arith, new_len_is_end n all normal, r.len, reached_below_end (c.start + c.old_len) (j + (c.start - i) + length c.text) n cs)

pub reached_end : (n : ℕ) (all : List Change) (i j : ℕ) (found : List ℕ) → AreNormalFrom 0 n all → Reached n all i j found [] → j + (n - i) ≡ new_len (record { old_len = n; changes = all })
reached_end n all i j found normal r = r.len ∙ new_len_is_end n all normal

-- what is left from an index on begins with the element there
pub rest_at : {X : Type 0} (xs : List X) (k : ℕ) (x : X) → k < length xs → x ≡ get_or xs k x → drop k xs ≡ x ∷ drop (k + 1) xs
rest_at xs k x below is = drop-cons xs k x below ∙ rw (add-one, ← is) refl

pub reached_at : (n : ℕ) (all : List Change) (i j : ℕ) (found : List ℕ) (k : ℕ) (x : Change) → k < length all → x ≡ get_or all k x → Reached n all i j found (drop k all) → Reached n all i j found (x ∷ drop (k + 1) all)
reached_at n all i j found k x below is r = subst (λ rest. Reached n all i j found rest) (rest_at all k x below is) r
