-- How many units an edit of one buffer puts in.
use Rattle.std.proofs.Common.{◌≡◌, ℕ, ◌+◌, ◌≤◌, ◌^◌, Bool, true, false, [], ◌∷◌, refl, sym, ap, ◌∙◌, subst, arith}
use Rattle.std.specs.Prelude.{nat_eq, sum_by, if◌then◌else◌}
use Rattle.std.proofs.lemmas.Bool.{eqb-true}
use Rattle.std.proofs.lemmas.List.Sums.{sum_by-cons}
use Rattle.ed_base.specs.ChangeList.{ChangeList, inserted_len}
use Rattle.ed_layers.specs.Records.{is_carrier}
use Rattle.ed_stock.specs.Stock.{Stock, record_now}
use Rattle.ed_group.specs.Edits.{own_units, units_of_carriers}
use Rattle.ed_group.specs.declared.BufferEdit.{BufferEdit}
use Rattle.ed_core.specs.Deciding.{one_edit}

alone : (f : BufferEdit → ℕ) (e : BufferEdit) → sum_by f (e ∷ []) ≡ f e
alone f e = sum_by-cons f e [] ∙ (let z : f e + 0 ≡ f e = omega arith in z)

module _ (s : Stock) (b : ℕ) (c : ChangeList) (few : inserted_len c ≤ (if is_carrier (record_now s b) then 2 ^ 22 else 2 ^ 27)) where
  abbrev of_carriers : Bool → ℕ
  of_carriers t = if t then inserted_len c else 0

  carriers_are : units_of_carriers s (one_edit b c) ≡ of_carriers (is_carrier (record_now s b))
  carriers_are = alone (λ e. if is_carrier (record_now s e.buffer) then inserted_len e.changes else 0) (record { buffer = b; changes = c })

  pub carriers-fit : units_of_carriers s (one_edit b c) ≤ 2 ^ 22
  carriers-fit = subst (λ n. n ≤ 2 ^ 22) (sym carriers_are) (by (is_carrier (record_now s b)) few)
    where
      by : (t : Bool) → inserted_len c ≤ (if t then 2 ^ 22 else 2 ^ 27) → of_carriers t ≤ 2 ^ 22
      by true l = l
      by false l = omega arith

  pub bases-fit : (d : ℕ) → is_carrier (record_now s d) ≡ false → own_units (one_edit b c) d + units_of_carriers s (one_edit b c) ≤ 2 ^ 27
  bases-fit d bare =
      subst (λ n. n + units_of_carriers s (one_edit b c) ≤ 2 ^ 27) (sym (alone (λ e. if nat_eq e.buffer d then inserted_len e.changes else 0) (record { buffer = b; changes = c })))
      (subst (λ n. (if nat_eq b d then inserted_len c else 0) + n ≤ 2 ^ 27) (sym carriers_are) (by (nat_eq b d) (is_carrier (record_now s b)) refl refl few))
    where
      by : (e t : Bool) → nat_eq b d ≡ e → is_carrier (record_now s b) ≡ t → inserted_len c ≤ (if t then 2 ^ 22 else 2 ^ 27) → (if e then inserted_len c else 0) + of_carriers t ≤ 2 ^ 27
      by true true same is l = absurd (let f : true ≡ false = sym is ∙ ap (λ x. is_carrier (record_now s x)) (eqb-true b d same) ∙ bare in cc)
      by true false same is l = (let z : inserted_len c + 0 ≡ inserted_len c = omega arith in subst (λ n. n ≤ 2 ^ 27) (sym z) l)
      by false true same is l = omega (arith, l)
      by false false same is l = omega arith
