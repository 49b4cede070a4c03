-- How many lines start at a position or before it.
use Rattle.std.proofs.Common.{◌≡◌, ℕ, zero, suc, ◌+◌, ◌-◌, ◌≤◌, Bool, true, false, cond, nat_le, List, [], ◌∷◌, length, drop, refl, sym, ap, ◌∙◌, arith}
use Rattle.std.specs.List.{AllWithin, count_by}
use Rattle.std.proofs.lemmas.List.Sums.{sum_by-cons}
use Rattle.ed_base.specs.declared.edit.LineSpan.{LineSpan}
use Rattle.ed_units.specs.Breaks.{break_len}
use Rattle.ed_lines.specs.Lines.{line, lines_from, lines, line_of, breaks}

module _ {X : Type 0} (p : X → Bool) where
  count_cons : (x : X) (xs : List X) → count_by p (x ∷ xs) ≡ cond (p x) 1 0 + count_by p xs
  count_cons x xs = sum_by-cons (λ y. cond (p y) 1 0) x xs

  -- where those that pass stand first, their number is the place behind them
  count_front : (xs : List X) (i : ℕ) → i ≤ length xs → AllWithin (λ y. p y ≡ true) xs 0 i → AllWithin (λ y. p y ≡ false) xs i (length xs) → count_by p xs ≡ i
  count_front [] i within before after = omega arith
  count_front (x ∷ xs) zero within before after =
      let fails : p x ≡ false = after 0 x (omega arith) (omega arith) in
      let rest : count_by p xs ≡ 0 = count_front xs 0 (omega arith) (λ k d le lt. absurd (omega arith)) (λ k d le lt. after (suc k) d (omega arith) (omega arith)) in
      rw (count_cons x xs, fails, rest) refl
  count_front (x ∷ xs) (suc i) within before after =
      let passes : p x ≡ true = before 0 x (omega arith) (omega arith) in
      let rest : count_by p xs ≡ i = count_front xs i (omega arith) (λ k d le lt. before (suc k) d (omega arith) (omega arith)) (λ k d le lt. after (suc k) d (omega arith) (omega arith)) in
      rw (count_cons x xs, passes, rest) (omega arith)

  -- the same without the first element
  pub count_behind : (xs : List X) (i : ℕ) → i ≤ length xs → AllWithin (λ y. p y ≡ true) xs 0 i → AllWithin (λ y. p y ≡ false) xs i (length xs) → count_by p (drop 1 xs) ≡ i - 1
  count_behind [] i within before after = omega arith
  count_behind (x ∷ xs) zero within before after =
      count_front xs 0 (omega arith) (λ k d le lt. absurd (omega arith)) (λ k d le lt. after (suc k) d (omega arith) (omega arith))
  count_behind (x ∷ xs) (suc i) within before after =
      count_front xs i (omega arith) (λ k d le lt. before (suc k) d (omega arith) (omega arith)) (λ k d le lt. after (suc k) d (omega arith) (omega arith))
      ∙ omega arith

-- each line after the first starts where a break ends
behind_breaks : (units : List ℕ) (position start : ℕ) (bs : List ℕ) → count_by (λ (l : LineSpan). nat_le l.span.start position) (drop 1 (lines_from units start bs)) ≡ count_by (λ b. nat_le (b + break_len units b) position) bs
behind_breaks units position start [] = refl
behind_breaks units position start (b ∷ []) = refl
behind_breaks units position start (b ∷ c ∷ bs) =
    count_cons (λ (l : LineSpan). nat_le l.span.start position) (line (b + break_len units b) c (break_len units c)) (lines_from units (c + break_len units c) bs)
    ∙ ap (λ n. cond (nat_le (b + break_len units b) position) 1 0 + n) (behind_breaks units position (b + break_len units b) (c ∷ bs))
    ∙ sym (count_cons (λ q. nat_le (q + break_len units q) position) b (c ∷ bs))

pub line_of_counted : (units : List ℕ) (position : ℕ) (all : List LineSpan) → all ≡ lines units → count_by (λ (l : LineSpan). nat_le l.span.start position) (drop 1 all) ≡ line_of units position
line_of_counted units position all is =
    ap (λ ls. count_by (λ (l : LineSpan). nat_le l.span.start position) (drop 1 ls)) is ∙ behind_breaks units position 0 (breaks units)
