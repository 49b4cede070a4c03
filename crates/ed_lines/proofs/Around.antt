-- Breaks that are told by a few units.
use Rattle.std.proofs.Common.{◌≡◌, ℕ, zero, suc, ◌+◌, ◌-◌, ◌<◌, ◌≤◌, Bool, true, false, cond, not, ◌&&◌, ◌||◌, nat_eq, List, [], ◌∷◌, length, take, drop, Option, Some, refl, sym, ap, ◌∙◌, zero-add, suc-add, length-take, inl, inr, arith}
use Rattle.std.specs.Prelude.{slice_get, slice_range}
use Rattle.std.specs.Option.{option_map_or}
use Rattle.std.proofs.lemmas.Bool.{cases_lt}
use Rattle.std.proofs.lemmas.Option.{slice_get_past}
use Rattle.ed_units.specs.Breaks.{is_before, break_len}
use Rattle.ed_lines.specs.Plain.{is_plain}

get_take : (n : ℕ) (xs : List ℕ) (q : ℕ) → q < n → slice_get (take n xs) q ≡ slice_get xs q
get_take zero xs q h = absurd (omega arith)
get_take (suc n) [] q h = refl
get_take (suc n) (x ∷ xs) zero h = refl
get_take (suc n) (x ∷ xs) (suc q) h = get_take n xs q (omega arith)

get_drop : (a : ℕ) (xs : List ℕ) (q : ℕ) → slice_get (drop a xs) q ≡ slice_get xs (a + q)
get_drop zero xs q = ap (slice_get xs) (sym (zero-add q))
get_drop (suc a) [] q = refl
get_drop (suc a) (x ∷ xs) q = get_drop a xs q ∙ ap (slice_get (x ∷ xs)) (sym (suc-add a q))

-- a unit of a part, by its place in the whole
pub get_part : (us : List ℕ) (a e p : ℕ) → a ≤ p → p < e → slice_get (slice_range us a e) (p - a) ≡ slice_get us p
get_part us a e p h l = get_take (e - a) (drop a us) (p - a) (omega arith) ∙ (get_drop a us (p - a) ∙ ap (slice_get us) (omega (arith, h)))

-- the length of a break by the unit there, the next one, and whether a carriage return stands before
abbrev by_units : Option ℕ → Option ℕ → Bool → ℕ
by_units unit next behind_return =
    cond (option_map_or (nat_eq 13) unit false) (cond (option_map_or (nat_eq 10) next false) 2 1)
    (cond (option_map_or (nat_eq 10) unit false && not behind_return || option_map_or (nat_eq 133) unit false || option_map_or (nat_eq 8232) unit false || option_map_or (nat_eq 8233) unit false) 1 0)

break_by_units : (us : List ℕ) (p : ℕ) → break_len us p ≡ by_units (slice_get us p) (slice_get us (p + 1)) (is_before us p 13)
break_by_units us p = refl

next_in : (us : List ℕ) (a e p : ℕ) → a ≤ p → p < e → (p + 1 < length us → p + 1 < e) → slice_get (slice_range us a e) (p - a + 1) ≡ slice_get us (p + 1)
next_in us a e p h l more = elim (cases_lt (p + 1) e) [
  | inl in_it ↦
      let n : p - a + 1 ≡ p + 1 - a = omega (arith, h) in
      ap (slice_get (slice_range us a e)) n ∙ get_part us a e (p + 1) (omega arith) in_it
  | inr past ↦
      slice_get_past (slice_range us a e) (p - a + 1) (omega (arith, length-take (e - a) (drop a us))) ∙ sym (slice_get_past us (p + 1) (elim (cases_lt (p + 1) (length us)) [ inl t ↦ absurd (omega (arith, more t, past)) | inr k ↦ k ]))
]

before_in : (us : List ℕ) (a e p : ℕ) → a ≤ p → p < e → (0 < p → a < p) → is_before (slice_range us a e) (p - a) 13 ≡ is_before us p 13
before_in us a e zero h l some =
    let n : zero - a ≡ zero = omega arith in
    ap (λ k. is_before (slice_range us a e) k 13) n
before_in us a e (suc p) h l some =
    let n : suc p - a ≡ suc (p - a) = omega (arith, some (omega arith)) in
    ap (λ k. is_before (slice_range us a e) k 13) n ∙ ap (λ o. option_map_or (nat_eq 13) o false) (get_part us a e p (omega (arith, some (omega arith))) (omega arith))

-- the units beside a place tell its break
pub break_around : (us : List ℕ) (a e p : ℕ) → a ≤ p → p < e → (0 < p → a < p) → (p + 1 < length us → p + 1 < e) → break_len (slice_range us a e) (p - a) ≡ break_len us p
break_around us a e p h l some more =
    break_by_units (slice_range us a e) (p - a)
    ∙ (ap (λ o. by_units o (slice_get (slice_range us a e) (p - a + 1)) (is_before (slice_range us a e) (p - a) 13)) (get_part us a e p h l)
    ∙ (ap (λ o. by_units (slice_get us p) o (is_before (slice_range us a e) (p - a) 13)) (next_in us a e p h l more)
    ∙ (ap (λ b. by_units (slice_get us p) (slice_get us (p + 1)) b) (before_in us a e p h l some) ∙ sym (break_by_units us p))))

none_by : (a b c d e n x : Bool) → not (a || b || c || d || e) ≡ true → ◌≡◌ {A = ℕ} (cond a (cond x 2 1) (cond (b && not n || c || d || e) 1 0)) 0
none_by true b c d e n x h = cc
none_by false true c d e n x h = cc
none_by false false true d e n x h = cc
none_by false false false true e n x h = cc
none_by false false false false true n x h = cc
none_by false false false false false n x h = refl

-- no break begins at a plain unit
pub plain_break : (us : List ℕ) (p u : ℕ) → slice_get us p ≡ Some u → is_plain u ≡ true → break_len us p ≡ 0
plain_break us p u is plain =
    break_by_units us p ∙ (ap (λ o. by_units o (slice_get us (p + 1)) (is_before us p 13)) is
    ∙ none_by (nat_eq 13 u) (nat_eq 10 u) (nat_eq 133 u) (nat_eq 8232 u) (nat_eq 8233 u) (is_before us p 13) (option_map_or (nat_eq 10) (slice_get us (p + 1)) false) plain)
