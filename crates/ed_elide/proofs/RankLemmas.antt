-- Ranks among the shown places: how many pass before a place.
use Rattle.std.proofs.Common.{◌≡◌, ℕ, zero, suc, ◌+◌, ◌<◌, ◌≤◌, Bool, true, false, not, List, [], ◌∷◌, length, filter, take, refl, sym, ap, ◌∙◌, arith}
use Rattle.std.proofs.lemmas.List.Sums.{sum_by-cons}
use Rattle.std.specs.Prelude.{cond, count_by, nat_eq}
use Rattle.std.specs.List.{position_or_len}
use Rattle.std.proofs.lemmas.Bool.{eq-eqb, ne_eqb}
use Rattle.std.specs.List.{range_with_len}
use Rattle.ed_layers.specs.Records.{is_hidden, is_shown}
use Rattle.ed_layers.specs.Hidden.{nearest}
use Rattle.ed_elide.proofs.NearestLemmas.{one_if}

-- how many of k places from a on pass
abbrev pub rank : (ℕ → Bool) → ℕ → ℕ → ℕ
rank t a zero = 0
rank t a (suc k) = one_if (t a) + rank t (a + 1) k

pub rank_same : (f g : ℕ → Bool) (a b k : ℕ) → ((d : ℕ) → d < k → f (a + d) ≡ g (b + d)) → rank f a k ≡ rank g b k
rank_same f g a b zero same = refl
rank_same f g a b (suc k) same =
    let e : a + 0 ≡ a = omega arith in let e' : b + 0 ≡ b = omega arith in
    let here : f a ≡ g b = ap f (sym e) ∙ same 0 (omega arith) ∙ ap g e' in
    rw (here, rank_same f g (a + 1) (b + 1) k (λ d less. let x : a + 1 + d ≡ a + suc d = omega arith in let y : b + suc d ≡ b + 1 + d = omega arith in ap f x ∙ same (suc d) (omega arith) ∙ ap g y)) refl

pub length_filter : (t : ℕ → Bool) (a m : ℕ) → length (filter t (range_with_len a m)) ≡ rank t a m
length_filter t a zero = refl
length_filter t a (suc m) = front (t a) refl (length_filter t (a + 1) m)
  where
    front : (b : Bool) → t a ≡ b → length (filter t (range_with_len (a + 1) m)) ≡ rank t (a + 1) m → length (filter t (a ∷ range_with_len (a + 1) m)) ≡ one_if (t a) + rank t (a + 1) m
    front true is rest = rw is (omega (arith, rest))
    front false is rest = rw is (omega (arith, rest))

pub nearest_rank : (flags : List Bool) (p : ℕ) → p ≤ length flags → nearest flags p ≡ rank (is_shown flags) 0 p
nearest_rank flags zero within = refl
nearest_rank [] (suc p) within = absurd (omega arith)
nearest_rank (b ∷ flags) (suc p) within =
    let shift : rank (is_shown (b ∷ flags)) 1 p ≡ rank (is_shown flags) 0 p = rank_same (is_shown (b ∷ flags)) (is_shown flags) 1 0 p (λ d less. let e : 1 + d ≡ suc d = omega arith in let e' : 0 + d ≡ d = omega arith in rw (e, e') refl) in
    let rest : nearest flags p ≡ rank (is_shown flags) 0 p = nearest_rank flags p (omega (arith, within)) in
    let cons : count_by not (b ∷ take p flags) ≡ cond (not b) 1 0 + nearest flags p = sum_by-cons (λ (x : Bool). cond (not x) 1 0) b (take p flags) in
    first b cons shift rest
  where
    first : (c : Bool) → count_by not (b ∷ take p flags) ≡ cond (not b) 1 0 + nearest flags p → rank (is_shown (b ∷ flags)) 1 p ≡ rank (is_shown flags) 0 p → nearest flags p ≡ rank (is_shown flags) 0 p → nearest (b ∷ flags) (suc p) ≡ one_if (not b) + rank (is_shown (b ∷ flags)) 1 p
    first c cons shift rest = let same : (x : Bool) → cond (not x) 1 0 ≡ one_if (not x) = bit in let s : cond (not b) 1 0 ≡ one_if (not b) = same b in cons ∙ rw (s, shift, rest) refl
      where
        bit : (x : Bool) → cond (not x) 1 0 ≡ one_if (not x)
        bit true = refl
        bit false = refl

-- where a passing place stands among those that pass
pub rank_is_place : (t : ℕ → Bool) (p a m d : ℕ) → p ≡ a + d → d < m → t p ≡ true → position_or_len (nat_eq p) (filter t (range_with_len a m)) ≡ rank t a d
rank_is_place t p a zero d is less passes = absurd (omega arith)
rank_is_place t p a (suc m) zero is less passes = let e : p ≡ a = omega (arith, is) in let here : t a ≡ true = ap t (sym e) ∙ passes in rw (here, eq-eqb p a e) refl
rank_is_place t p a (suc m) (suc d) is less passes = front (t a) refl (rank_is_place t p (a + 1) m d (omega (arith, is)) (omega arith) passes)
  where
    front : (b : Bool) → t a ≡ b → position_or_len (nat_eq p) (filter t (range_with_len (a + 1) m)) ≡ rank t (a + 1) d → position_or_len (nat_eq p) (filter t (a ∷ range_with_len (a + 1) m)) ≡ one_if (t a) + rank t (a + 1) d
    front true is_one rest = rw (is_one, ne_eqb p a (λ e. omega (arith, is, e))) (omega (arith, rest))
    front false not_so rest = rw not_so (omega (arith, rest))

pub rank_next : (t : ℕ → Bool) (b a : ℕ) → rank t b (suc a) ≡ rank t b a + one_if (t (b + a))
rank_next t b zero = let e : b + 0 ≡ b = omega arith in rw e (omega arith)
rank_next t b (suc a) = let e : b + suc a ≡ b + 1 + a = omega arith in rw e (omega (arith, rank_next t (b + 1) a))

pub nearest_more : (flags : List Bool) (p : ℕ) → p < length flags → nearest flags (p + 1) ≡ nearest flags p + one_if (is_shown flags p)
nearest_more flags p below =
    let one : p + 1 ≡ suc p = omega arith in let z : 0 + p ≡ p = omega arith in
    nearest_rank flags (p + 1) (omega (arith, below)) ∙ ap (rank (is_shown flags) 0) one ∙ rank_next (is_shown flags) 0 p ∙ ap (λ x. rank (is_shown flags) 0 p + one_if (is_shown flags x)) z
    ∙ ap (λ x. x + one_if (is_shown flags p)) (sym (nearest_rank flags p (omega (arith, below))))

pub shown_not : (flags : List Bool) (p : ℕ) → p < length flags → is_shown flags p ≡ not (is_hidden flags p)
shown_not [] p below = absurd (omega arith)
shown_not (b ∷ flags) zero below = refl
shown_not (b ∷ flags) (suc p) below = shown_not flags p (omega arith)

-- a place is hidden where no unit is shown up to the next
pub hidden_told : (flags : List Bool) (p a b : ℕ) → p < length flags → a ≡ nearest flags p → b ≡ nearest flags (p + 1) → nat_eq a b ≡ is_hidden flags p
hidden_told flags p a b below is is' = front (is_hidden flags p) refl
  where
    more : b ≡ a + one_if (not (is_hidden flags p))
    more = is' ∙ nearest_more flags p below ∙ ap (λ x. nearest flags p + one_if x) (shown_not flags p below) ∙ ap (λ x. x + one_if (not (is_hidden flags p))) (sym is)

    front : (h : Bool) → is_hidden flags p ≡ h → nat_eq a b ≡ is_hidden flags p
    front true hid = let k : one_if (not (is_hidden flags p)) ≡ 0 = ap (λ x. one_if (not x)) hid in eq-eqb a b (omega (arith, more, k)) ∙ sym hid
    front false hid = let k : one_if (not (is_hidden flags p)) ≡ 1 = ap (λ x. one_if (not x)) hid in ne_eqb a b (λ e. omega (arith, more, k, e)) ∙ sym hid

rank_within : (t : ℕ → Bool) (a k : ℕ) → rank t a k ≤ k
rank_within t a zero = omega arith
rank_within t a (suc k) = front (t a) refl (rank_within t (a + 1) k)
  where
    front : (b : Bool) → t a ≡ b → rank t (a + 1) k ≤ k → one_if (t a) + rank t (a + 1) k ≤ suc k
    front true is rest = rw is (omega (arith, rest))
    front false is rest = rw is (omega (arith, rest))

pub nearest_within : (flags : List Bool) (p : ℕ) → p ≤ length flags → nearest flags p ≤ p
nearest_within flags p within = omega (arith, nearest_rank flags p within, rank_within (is_shown flags) 0 p)
