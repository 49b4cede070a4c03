-- Where the changes stand on the way, by their index.
use Rattle.std.proofs.Common.{◌≡◌, ℕ, zero, suc, ◌+◌, ◌-◌, ◌<◌, ◌≤◌, ◌^◌, List, [], ◌∷◌, length, map, get_or, Some, refl, ap, ◌∙◌, arith}
use Rattle.std.specs.Prelude.{slice_get, slice_index, option_map}
use Rattle.std.proofs.lemmas.List.{length-map}
use Rattle.ed_base.specs.declared.edit.Change.{Change}
use Rattle.ed_base.specs.ChangeList.{ChangeList, AreNormalFrom, IsNormal}
use Rattle.ed_base.specs.NewStarts.{starts_from}
use Rattle.ed_base.proofs.NormalLists.{end_from, new_len_is_end, reached_below_end}
use Rattle.ed_track.specs.declared.edge.Way.{Way}
use Rattle.ed_track.specs.declared.edge.Part.{Part}
use Rattle.ed_track.specs.Ways.{starts, parts, parts_from, turned}
use Rattle.ed_track.proofs.Walks.{froms}

-- the part with an index
forward_part : (i j : ℕ) (cs : List Change) (k : ℕ) (c : Change) → slice_get cs k ≡ Some c → slice_get (parts_from i j cs) k ≡ Some (record { from = c.start; from_len = c.old_len; to = slice_index (starts_from i j cs) k; to_len = length c.text })
forward_part i j [] k c is = cc
forward_part i j (d ∷ cs) zero c is =
    let same : d ≡ c = cc in
    ap (λ (x : Change). Some (record { from = x.start; from_len = x.old_len; to = j + (d.start - i); to_len = length x.text })) same
forward_part i j (d ∷ cs) (suc k) c is = forward_part (d.start + d.old_len) (j + (d.start - i) + length d.text) cs k c is

turned_part : (qs : List Part) (k : ℕ) → slice_get (map turned qs) k ≡ option_map turned (slice_get qs k)
turned_part [] k = refl
turned_part (q ∷ qs) zero = refl
turned_part (q ∷ qs) (suc k) = turned_part qs k

pub part_forward : (c : ChangeList) (k : ℕ) (x : Change) → slice_get c.changes k ≡ Some x → slice_get (parts Way.Forward c) k ≡ Some (record { from = x.start; from_len = x.old_len; to = slice_index (starts Way.Back c) k; to_len = length x.text })
part_forward c k x is = forward_part 0 0 c.changes k x is

pub part_back : (c : ChangeList) (k : ℕ) (x : Change) → slice_get c.changes k ≡ Some x → slice_get (parts Way.Back c) k ≡ Some (record { from = slice_index (starts Way.Back c) k; from_len = length x.text; to = x.start; to_len = x.old_len })
part_back c k x is = turned_part (parts_from 0 0 c.changes) k ∙ ap (option_map turned) (part_forward c k x is)

-- a text that is put in fits
text_below_end : (i j n : ℕ) (cs : List Change) (k : ℕ) (c : Change) → slice_get cs k ≡ Some c → length c.text ≤ end_from i j n cs
text_below_end i j n [] k c is = cc
text_below_end i j n (d ∷ cs) zero c is =
    let same : length d.text ≡ length c.text = ap (λ (x : Change). length x.text) (let e : d ≡ c = cc in e) in
    omega (arith, same, reached_below_end (d.start + d.old_len) (j + (d.start - i) + length d.text) n cs)
text_below_end i j n (d ∷ cs) (suc k) c is = text_below_end (d.start + d.old_len) (j + (d.start - i) + length d.text) n cs k c is

pub text_fits : (c : ChangeList) (k : ℕ) (x : Change) → IsNormal c → slice_get c.changes k ≡ Some x → length x.text < 2 ^ 32
text_fits c k x normal is = omega (arith, normal.fits, new_len_is_end c.old_len c.changes normal.changes, text_below_end 0 0 c.old_len c.changes k x is)

-- where they begin, in one list
starts_forward : (i j : ℕ) (cs : List Change) → froms (parts_from i j cs) ≡ map (λ x. x.start) cs
starts_forward i j [] = refl
starts_forward i j (c ∷ cs) = ap (λ xs. c.start ∷ xs) (starts_forward (c.start + c.old_len) (j + (c.start - i) + length c.text) cs)

starts_back : (i j : ℕ) (cs : List Change) → froms (map turned (parts_from i j cs)) ≡ starts_from i j cs
starts_back i j [] = refl
starts_back i j (c ∷ cs) = ap (λ xs. (j + (c.start - i)) ∷ xs) (starts_back (c.start + c.old_len) (j + (c.start - i) + length c.text) cs)

pub froms_are_starts : (way : Way) (c : ChangeList) → froms (parts way c) ≡ starts way c
froms_are_starts Way.Forward c = starts_forward 0 0 c.changes
froms_are_starts Way.Back c = starts_back 0 0 c.changes

length_parts_from : (i j : ℕ) (cs : List Change) → length (parts_from i j cs) ≡ length cs
length_parts_from i j [] = refl
length_parts_from i j (c ∷ cs) = omega (arith, length_parts_from (c.start + c.old_len) (j + (c.start - i) + length c.text) cs)

pub length_parts : (way : Way) (c : ChangeList) → length (parts way c) ≡ length c.changes
length_parts Way.Forward c = length_parts_from 0 0 c.changes
length_parts Way.Back c = length-map (parts_from 0 0 c.changes) turned ∙ length_parts_from 0 0 c.changes

-- Their starts rise.
forward_above : (p n : ℕ) (cs : List Change) (k : ℕ) → k < length cs → AreNormalFrom p n cs → p ≤ get_or (map (λ (x : Change). x.start) cs) k 0
forward_above p n [] k below normal = absurd (omega arith)
forward_above p n (c ∷ cs) zero below normal = normal.0
forward_above p n (c ∷ cs) (suc k) below normal =
    omega (arith, normal.0, forward_above (c.start + c.old_len + 1) n cs k (omega arith) normal.3)

forward_rise : (p n : ℕ) (cs : List Change) (k l : ℕ) → k ≤ l → l < length cs → AreNormalFrom p n cs → get_or (map (λ (x : Change). x.start) cs) k 0 ≤ get_or (map (λ (x : Change). x.start) cs) l 0
forward_rise p n [] k l order below normal = absurd (omega arith)
forward_rise p n (c ∷ cs) zero zero order below normal = omega arith
forward_rise p n (c ∷ cs) zero (suc l) order below normal =
    omega (arith, forward_above (c.start + c.old_len + 1) n cs l (omega arith) normal.3)
forward_rise p n (c ∷ cs) (suc k) zero order below normal = absurd (omega arith)
forward_rise p n (c ∷ cs) (suc k) (suc l) order below normal =
    forward_rise (c.start + c.old_len + 1) n cs k l (omega arith) (omega arith) normal.3

back_above : (i j : ℕ) (cs : List Change) (k : ℕ) → k < length cs → j ≤ get_or (starts_from i j cs) k 0
back_above i j [] k below = absurd (omega arith)
back_above i j (c ∷ cs) zero below = omega arith
back_above i j (c ∷ cs) (suc k) below =
    omega (arith, back_above (c.start + c.old_len) (j + (c.start - i) + length c.text) cs k (omega arith))

back_rise : (i j : ℕ) (cs : List Change) (k l : ℕ) → k ≤ l → l < length cs → get_or (starts_from i j cs) k 0 ≤ get_or (starts_from i j cs) l 0
back_rise i j [] k l order below = absurd (omega arith)
back_rise i j (c ∷ cs) zero zero order below = omega arith
back_rise i j (c ∷ cs) zero (suc l) order below =
    omega (arith, back_above (c.start + c.old_len) (j + (c.start - i) + length c.text) cs l (omega arith))
back_rise i j (c ∷ cs) (suc k) zero order below = absurd (omega arith)
back_rise i j (c ∷ cs) (suc k) (suc l) order below =
    back_rise (c.start + c.old_len) (j + (c.start - i) + length c.text) cs k l (omega arith) (omega arith)

pub starts_rise : (way : Way) (c : ChangeList) (k l : ℕ) → k ≤ l → l < length c.changes → AreNormalFrom 0 c.old_len c.changes → slice_index (starts way c) k ≤ slice_index (starts way c) l
starts_rise Way.Forward c k l order below normal = forward_rise 0 c.old_len c.changes k l order below normal
starts_rise Way.Back c k l order below normal = back_rise 0 0 c.changes k l order below
