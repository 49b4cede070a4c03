-- The pairs that a member shows of those of its source.
use Rattle.std.proofs.Common.{◌≡◌, ℕ, zero, suc, ◌+◌, ◌-◌, ◌<◌, ◌≤◌, ◌&&◌, Bool, true, false, List, [], ◌∷◌, ◌++◌, refl, ap, ◌∙◌, arith, inl, inr, ◌⊎◌, nat_lt, max, min}
use Rattle.std.proofs.lemmas.List.{append-nil}
use Rattle.std.proofs.lemmas.Bool.{cases_Bool}
use Rattle.std.proofs.lemmas.Bool.Decides.{nat_tests}
use Rattle.ed_base.specs.Spans.{holds_place}
use Rattle.ed_project.specs.declared.kept.Move.{Move}
use Rattle.ed_kept.specs.Kept.{ArePairsRising, run_pairs}
use Rattle.ed_project.specs.Kept.{shown_pairs}
use Rattle.ed_kept.proofs.Rising.{run_join}

-- whether the member shows the pair
abbrev pub shows : Move → ℕ → ℕ → Bool
shows m p q = holds_place m.old p && holds_place m.new q

-- what that means
pub record Shows (m : Move) (p q : ℕ) : Type 0 where
  pub old_start : m.old.start ≤ p
  pub old_end : p < m.old.start + m.old.len
  pub new_start : m.new.start ≤ q
  pub new_end : q < m.new.start + m.new.len

shows_true : (m : Move) (p q : ℕ) → shows m p q ≡ true → Shows m p q
shows_true m p q t = record {
  old_start = grind (arith, nat_tests);
  old_end = grind (arith, nat_tests);
  new_start = grind (arith, nat_tests);
  new_end = grind (arith, nat_tests);
}

true_shows : (m : Move) (p q : ℕ) → Shows m p q → shows m p q ≡ true
true_shows m p q s = grind (arith, nat_tests, s.old_start, s.old_end, s.new_start, s.new_end)

pub shown_append : (m : Move) (xs ys : List (ℕ × ℕ)) → shown_pairs m (xs ++ ys) ≡ shown_pairs m xs ++ shown_pairs m ys
shown_append m [] ys = refl
shown_append m (x ∷ xs) ys =
    elim (cases_Bool (shows m x.0 x.1)) [
      | inl t ↦ rw t (ap (λ zs. (m.from + (x.0 - m.old.start), m.to + (x.1 - m.new.start)) ∷ zs) (shown_append m xs ys))
      | inr f ↦ rw f (shown_append m xs ys)
    ]

-- a row of which nothing is shown
pub shown_none : (m : Move) (i j k : ℕ) → ((d : ℕ) → d < k → shows m (i + d) (j + d) ≡ false) → shown_pairs m (run_pairs i j k) ≡ []
shown_none m i j zero hidden = refl
shown_none m i j (suc k) hidden =
    let here : shows m i j ≡ false = ap (λ x. shows m x j) (let a : i ≡ i + 0 = omega arith in a) ∙ ap (λ y. shows m (i + 0) y) (let b : j ≡ j + 0 = omega arith in b) ∙ hidden 0 (omega arith) in
    let rest : shown_pairs m (run_pairs (i + 1) (j + 1) k) ≡ [] =
    shown_none m (i + 1) (j + 1) k (λ d below. ap (λ x. shows m x (j + 1 + d)) (let a : i + 1 + d ≡ i + suc d = omega arith in a) ∙ ap (λ y. shows m (i + suc d) y) (let b : j + 1 + d ≡ j + suc d = omega arith in b) ∙ hidden (suc d) (omega arith)) in
    rw here rest

-- a row of which all is shown
pub shown_all : (m : Move) (i j k : ℕ) → m.old.start ≤ i → m.new.start ≤ j → i + k ≤ m.old.start + m.old.len → j + k ≤ m.new.start + m.new.len → shown_pairs m (run_pairs i j k) ≡ run_pairs (m.from + (i - m.old.start)) (m.to + (j - m.new.start)) k
shown_all m i j zero a b c d = refl
shown_all m i j (suc k) a b c d =
    let here : shows m i j ≡ true = true_shows m i j (record { old_start = a; old_end = omega arith; new_start = b; new_end = omega arith }) in
    let rest : shown_pairs m (run_pairs (i + 1) (j + 1) k) ≡ run_pairs (m.from + (i + 1 - m.old.start)) (m.to + (j + 1 - m.new.start)) k = shown_all m (i + 1) (j + 1) k (omega arith) (omega arith) (omega arith) (omega arith) in
    let x : m.from + (i + 1 - m.old.start) ≡ m.from + (i - m.old.start) + 1 = omega arith in
    let y : m.to + (j + 1 - m.new.start) ≡ m.to + (j - m.new.start) + 1 = omega arith in
    rw here (ap (λ zs. (m.from + (i - m.old.start), m.to + (j - m.new.start)) ∷ zs) (rest ∙ ap (λ v. run_pairs v (m.to + (j + 1 - m.new.start)) k) x ∙ ap (λ w. run_pairs (m.from + (i - m.old.start) + 1) w k) y))

not_shown : (m : Move) (p q : ℕ) → (Shows m p q → ⊥) → shows m p q ≡ false
not_shown m p q never = elim (cases_Bool (shows m p q)) [ inl t ↦ absurd (never (shows_true m p q t)) | inr f ↦ f ]

-- nothing before the old bounds or behind them
pub shown_before : (m : Move) (i j k : ℕ) → i + k ≤ m.old.start → shown_pairs m (run_pairs i j k) ≡ []
shown_before m i j k before = shown_none m i j k (λ d below. not_shown m (i + d) (j + d) (λ s. omega (arith, s.old_start)))

pub shown_behind : (m : Move) (i j k : ℕ) → m.old.start + m.old.len ≤ i → shown_pairs m (run_pairs i j k) ≡ []
shown_behind m i j k behind = shown_none m i j k (λ d below. not_shown m (i + d) (j + d) (λ s. omega (arith, s.old_end)))

-- the part of a row that is shown, from `first` up to `end`
pub record IsPart (m : Move) (i j k first end : ℕ) : Type 0 where
  pub first_old : m.old.start ≤ i + first
  pub first_new : m.new.start ≤ j + first
  pub none_before : (d : ℕ) → d < first → d < k → (i + d < m.old.start) ⊎ (j + d < m.new.start)
  pub within : end ≤ k
  pub end_old : first < end → i + end ≤ m.old.start + m.old.len
  pub end_new : first < end → j + end ≤ m.new.start + m.new.len
  pub none_behind : (d : ℕ) → end ≤ d → d < k → (m.old.start + m.old.len ≤ i + d) ⊎ (m.new.start + m.new.len ≤ j + d)

pub is_part : (m : Move) (i j k first end : ℕ) → first ≡ max (m.old.start - i) (m.new.start - j) → end ≡ min (min k (m.old.start + m.old.len - i)) (m.new.start + m.new.len - j) → IsPart m i j k first end
is_part m i j k first end begins ends = record {
  first_old = omega arith;
  first_new = omega arith;
  none_before = λ d below there. elim (cases_Bool (nat_lt (i + d) m.old.start)) [ inl t ↦ inl (grind (arith, nat_tests)) | inr f ↦ inr (let far : m.old.start ≤ i + d = grind (arith, nat_tests) in omega arith) ];
  within = omega arith;
  end_old = λ some. omega arith;
  end_new = λ some. omega arith;
  none_behind = λ d above there. elim (cases_Bool (nat_lt (i + d) (m.old.start + m.old.len))) [ inl t ↦ inr (let near : i + d < m.old.start + m.old.len = grind (arith, nat_tests) in omega arith) | inr f ↦ inl (grind (arith, nat_tests)) ];
}

hidden_before : (m : Move) (i j k first end d : ℕ) → IsPart m i j k first end → d < first → d < k → shows m (i + d) (j + d) ≡ false
hidden_before m i j k first end d p below within =
    not_shown m (i + d) (j + d) (λ s. elim (p.none_before d below within) [ inl a ↦ omega (arith, s.old_start) | inr b ↦ omega (arith, s.new_start) ])

hidden_behind : (m : Move) (i j k first end d : ℕ) → IsPart m i j k first end → end ≤ d → d < k → shows m (i + d) (j + d) ≡ false
hidden_behind m i j k first end d p above within =
    not_shown m (i + d) (j + d) (λ s. elim (p.none_behind d above within) [ inl a ↦ omega (arith, s.old_end) | inr b ↦ omega (arith, s.new_end) ])

pub part_none : (m : Move) (i j k first end : ℕ) → IsPart m i j k first end → end ≤ first → shown_pairs m (run_pairs i j k) ≡ []
part_none m i j k first end p none =
    shown_none m i j k (λ d below. elim (cases_Bool (nat_lt d first)) [
      | inl t ↦ hidden_before m i j k first end d p (grind (arith, nat_tests)) below
      | inr f ↦ hidden_behind m i j k first end d p (grind (arith, nat_tests)) below
    ])

pub part_some : (m : Move) (i j k first end : ℕ) → IsPart m i j k first end → first < end → shown_pairs m (run_pairs i j k) ≡ run_pairs (m.from + (i + first - m.old.start)) (m.to + (j + first - m.new.start)) (end - first)
part_some m i j k first end p some =
    let size : k ≡ first + ((end - first) + (k - end)) = omega (arith, p.within) in
    let ends : first + (end - first) ≡ end = omega arith in
    let front : shown_pairs m (run_pairs i j first) ≡ [] = shown_none m i j first (λ d below. hidden_before m i j k first end d p below (omega (arith, p.within))) in
    let middle : shown_pairs m (run_pairs (i + first) (j + first) (end - first)) ≡ run_pairs (m.from + (i + first - m.old.start)) (m.to + (j + first - m.new.start)) (end - first) =
    shown_all m (i + first) (j + first) (end - first) p.first_old p.first_new (omega (arith, p.end_old some)) (omega (arith, p.end_new some)) in
    let back : shown_pairs m (run_pairs (i + first + (end - first)) (j + first + (end - first)) (k - end)) ≡ [] =
    shown_none m (i + first + (end - first)) (j + first + (end - first)) (k - end) (λ d below.
    ap (λ x. shows m x (j + first + (end - first) + d)) (let a : i + first + (end - first) + d ≡ i + (end + d) = omega arith in a)
    ∙ ap (λ y. shows m (i + (end + d)) y) (let b : j + first + (end - first) + d ≡ j + (end + d) = omega arith in b)
    ∙ hidden_behind m i j k first end (end + d) p (omega arith) (omega (arith, p.within))) in
    ap (λ x. shown_pairs m (run_pairs i j x)) size
    ∙ ap (shown_pairs m) (run_join i j first ((end - first) + (k - end)) ∙ ap (λ zs. run_pairs i j first ++ zs) (run_join (i + first) (j + first) (end - first) (k - end)))
    ∙ shown_append m (run_pairs i j first) (run_pairs (i + first) (j + first) (end - first) ++ run_pairs (i + first + (end - first)) (j + first + (end - first)) (k - end))
    ∙ ap (λ zs. zs ++ shown_pairs m (run_pairs (i + first) (j + first) (end - first) ++ run_pairs (i + first + (end - first)) (j + first + (end - first)) (k - end))) front
    ∙ shown_append m (run_pairs (i + first) (j + first) (end - first)) (run_pairs (i + first + (end - first)) (j + first + (end - first)) (k - end))
    ∙ ap (λ zs. shown_pairs m (run_pairs (i + first) (j + first) (end - first)) ++ zs) back
    ∙ append-nil (shown_pairs m (run_pairs (i + first) (j + first) (end - first)))
    ∙ middle

-- What is shown of pairs that rise, rises in the projection.
pub rising_shown : (m : Move) (x y i j n k : ℕ) (ps : List (ℕ × ℕ)) → ArePairsRising i j n k ps → x ≤ m.from + m.old.len → y ≤ m.to + m.new.len → x ≤ m.from + (i - m.old.start) → y ≤ m.to + (j - m.new.start) → ArePairsRising x y (m.from + m.old.len) (m.to + m.new.len) (shown_pairs m ps)
rising_shown m x y i j n k [] r a b c d = (a, b)
rising_shown m x y i j n k (p ∷ ps) r a b c d =
    elim (cases_Bool (shows m p.0 p.1)) [
      | inl t ↦
          let s : Shows m p.0 p.1 = shows_true m p.0 p.1 t in
          rw t (
            omega (arith, r.0),
            omega (arith, r.1),
            rising_shown m (m.from + (p.0 - m.old.start) + 1) (m.to + (p.1 - m.new.start) + 1) (p.0 + 1) (p.1 + 1) n k ps r.2
                (omega (arith, s.old_start, s.old_end)) (omega (arith, s.new_start, s.new_end)) (omega (arith, s.old_start)) (omega (arith, s.new_start)),
          )
      | inr f ↦ rw f (rising_shown m x y (p.0 + 1) (p.1 + 1) n k ps r.2 a b (omega (arith, r.0)) (omega (arith, r.1)))
    ]
