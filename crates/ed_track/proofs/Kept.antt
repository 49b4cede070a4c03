-- The kept pairs of a step, by its changes, the same forward and back.
use Rattle.std.proofs.Common.{◌≡◌, ℕ, zero, suc, ◌+◌, ◌-◌, ◌<◌, ◌≤◌, List, [], ◌∷◌, ◌++◌, length, map, refl, sym, ap, ◌∙◌, arith}
use Rattle.std.proofs.lemmas.List.{map-append}
use Rattle.ed_base.specs.declared.edit.Change.{Change}
use Rattle.ed_base.specs.Step.{Step, inverse_step}
use Rattle.ed_base.specs.ChangeList.{ChangeList, AreNormalFrom, step}
use Rattle.ed_base.proofs.NormalLists.{end_from, new_len_is_end}
use Rattle.ed_base.proofs.NormalSteps.{run, kept_from, normal_kept, normal_new_len}
use Rattle.ed_track.specs.declared.edge.Way.{Way}
use Rattle.ed_track.specs.declared.edge.Part.{Part}
use Rattle.ed_track.specs.Ways.{way_step, from_len, to_len, parts, parts_from, turned}

-- from place i of the text that is left and place j of the other, up to the end n of the text that is left
abbrev pub kept_parts : ℕ → ℕ → ℕ → List Part → List (ℕ × ℕ)
kept_parts i j n [] = run i j (n - i)
kept_parts i j n (q ∷ qs) = run i j (q.from - i) ++ kept_parts (q.from + q.from_len) (q.to + q.to_len) n qs

pub kept_by_parts : (i j n : ℕ) (cs : List Change) → kept_from i j n cs ≡ kept_parts i j n (parts_from i j cs)
kept_by_parts i j n [] = refl
kept_by_parts i j n (c ∷ cs) = ap (λ zs. run i j (c.start - i) ++ zs) (kept_by_parts (c.start + c.old_len) (j + (c.start - i) + length c.text) n cs)

-- Parts behind places i and j, up to the ends n and m: a kept unit stands before each, and as many units on both sides.
abbrev pub AreStrict : ℕ → ℕ → ℕ → ℕ → List Part → Type 0
AreStrict i j n m [] = (i ≤ n) × (j ≤ m) × (i + m ≡ j + n)
AreStrict i j n m (q ∷ qs) = (i < q.from) × (j < q.to) × (i + q.to ≡ j + q.from) × AreStrict (q.from + q.from_len) (q.to + q.to_len) n m qs

-- those of a whole step, where the first may stand at the start
abbrev pub AreParts : ℕ → ℕ → List Part → Type 0
AreParts n m [] = n ≡ m
AreParts n m (q ∷ qs) = (q.from ≡ q.to) × AreStrict (q.from + q.from_len) (q.to + q.to_len) n m qs

strict_of_normal : (i j n : ℕ) (cs : List Change) → i ≤ n → AreNormalFrom (i + 1) n cs → AreStrict i j n (end_from i j n cs) (parts_from i j cs)
strict_of_normal i j n [] within normal = (within, omega arith, omega arith)
strict_of_normal i j n (c ∷ cs) within normal =
    (omega (arith, normal.0), omega (arith, normal.0), omega (arith, normal.0), strict_of_normal (c.start + c.old_len) (j + (c.start - i) + length c.text) n cs normal.1 normal.3)

parts_of_normal : (n : ℕ) (cs : List Change) → AreNormalFrom 0 n cs → AreParts n (end_from 0 0 n cs) (parts_from 0 0 cs)
parts_of_normal n [] normal = omega arith
parts_of_normal n (c ∷ cs) normal =
    (omega arith, strict_of_normal (c.start + c.old_len) (0 + (c.start - 0) + length c.text) n cs normal.1 normal.3)

strict_turned : (i j n m : ℕ) (qs : List Part) → AreStrict i j n m qs → AreStrict j i m n (map turned qs)
strict_turned i j n m [] strict = (strict.1, strict.0, sym strict.2)
strict_turned i j n m (q ∷ qs) strict =
    (strict.1, strict.0, sym strict.2, strict_turned (q.from + q.from_len) (q.to + q.to_len) n m qs strict.3)

parts_turned : (n m : ℕ) (qs : List Part) → AreParts n m qs → AreParts m n (map turned qs)
parts_turned n m [] are = sym are
parts_turned n m (q ∷ qs) are =
    (sym are.0, strict_turned (q.from + q.from_len) (q.to + q.to_len) n m qs are.1)

abbrev swapped : ℕ × ℕ → ℕ × ℕ
swapped pair = (pair.1, pair.0)

run_swapped : (i j k : ℕ) → map swapped (run i j k) ≡ run j i k
run_swapped i j zero = refl
run_swapped i j (suc k) = ap (λ zs. (j, i) ∷ zs) (run_swapped (i + 1) (j + 1) k)

strict_kept_turned : (i j n m : ℕ) (qs : List Part) → AreStrict i j n m qs → map swapped (kept_parts i j n qs) ≡ kept_parts j i m (map turned qs)
strict_kept_turned i j n m [] strict =
    run_swapped i j (n - i) ∙ ap (λ k. run j i k) (let e : n - i ≡ m - j = omega (arith, strict.0, strict.1, strict.2) in e)
strict_kept_turned i j n m (q ∷ qs) strict =
    let rest : map swapped (kept_parts (q.from + q.from_len) (q.to + q.to_len) n qs) ≡ kept_parts (q.to + q.to_len) (q.from + q.from_len) m (map turned qs) =
    strict_kept_turned (q.from + q.from_len) (q.to + q.to_len) n m qs strict.3 in
    let same : q.from - i ≡ q.to - j = omega (arith, strict.0, strict.1, strict.2) in
    map-append swapped (run i j (q.from - i)) (kept_parts (q.from + q.from_len) (q.to + q.to_len) n qs)
    ∙ ap (λ zs. map swapped (run i j (q.from - i)) ++ zs) rest
    ∙ ap (λ zs. zs ++ kept_parts (q.to + q.to_len) (q.from + q.from_len) m (map turned qs)) (run_swapped i j (q.from - i) ∙ ap (λ k. run j i k) same)

kept_turned : (n m : ℕ) (qs : List Part) → AreParts n m qs → map swapped (kept_parts 0 0 n qs) ≡ kept_parts 0 0 m (map turned qs)
kept_turned n m [] are = run_swapped 0 0 (n - 0) ∙ ap (λ k. run 0 0 (k - 0)) are
kept_turned n m (q ∷ qs) are =
    let rest : map swapped (kept_parts (q.from + q.from_len) (q.to + q.to_len) n qs) ≡ kept_parts (q.to + q.to_len) (q.from + q.from_len) m (map turned qs) =
    strict_kept_turned (q.from + q.from_len) (q.to + q.to_len) n m qs are.1 in
    map-append swapped (run 0 0 (q.from - 0)) (kept_parts (q.from + q.from_len) (q.to + q.to_len) n qs)
    ∙ ap (λ zs. map swapped (run 0 0 (q.from - 0)) ++ zs) rest
    ∙ ap (λ zs. zs ++ kept_parts (q.to + q.to_len) (q.from + q.from_len) m (map turned qs)) (run_swapped 0 0 (q.from - 0) ∙ ap (λ k. run 0 0 (k - 0)) are.0)

-- a step with the changes that it is gone by
pub record HasParts (s : Step) (qs : List Part) : Type 0 where
  pub kept : s.kept ≡ kept_parts 0 0 s.old_len qs
  pub are : AreParts s.old_len s.new_len qs

step_has_parts : (c : ChangeList) → AreNormalFrom 0 c.old_len c.changes → HasParts (step c) (parts_from 0 0 c.changes)
step_has_parts c normal =
    let len : end_from 0 0 c.old_len c.changes ≡ (step c).new_len = new_len_is_end c.old_len c.changes normal ∙ sym (normal_new_len c normal) in
    record {
      kept = normal_kept c normal ∙ kept_by_parts 0 0 c.old_len c.changes;
      are = rw (← len) (parts_of_normal c.old_len c.changes normal);
    }

back_has_parts : (s : Step) (qs : List Part) → HasParts s qs → HasParts (inverse_step s) (map turned qs)
back_has_parts s qs has = record {
  kept = ap (λ zs. map swapped zs) has.kept ∙ kept_turned s.old_len s.new_len qs has.are;
  are = parts_turned s.old_len s.new_len qs has.are;
}

pub way_has_parts : (way : Way) (c : ChangeList) → AreNormalFrom 0 c.old_len c.changes → HasParts (way_step way c) (parts way c)
way_has_parts Way.Forward c normal = step_has_parts c normal
way_has_parts Way.Back c normal = back_has_parts (step c) (parts_from 0 0 c.changes) (step_has_parts c normal)

-- the lengths on the way
pub way_from_len : (way : Way) (c : ChangeList) → AreNormalFrom 0 c.old_len c.changes → (way_step way c).old_len ≡ from_len way c
way_from_len Way.Forward c normal = refl
way_from_len Way.Back c normal = normal_new_len c normal

pub way_to_len : (way : Way) (c : ChangeList) → AreNormalFrom 0 c.old_len c.changes → (way_step way c).new_len ≡ to_len way c
way_to_len Way.Forward c normal = normal_new_len c normal
way_to_len Way.Back c normal = refl
