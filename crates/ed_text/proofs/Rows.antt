-- Rows of children and their units.
use Rattle.std.proofs.Common.{zero, suc, ◌<◌, ◌^◌, slice_range, ◌≡◌, ℕ, ◌+◌, ◌≤◌, ◌-◌, List, [], ◌∷◌, ◌++◌, length, take, drop, ap, sym, ◌∙◌, append_assoc, arith, length-append, length-drop}
use Rattle.std.specs.List.{flat_map}
use Rattle.std.proofs.Math.Seq.{take-append-add, drop-append-add}
use Rattle.std.proofs.lemmas.List.Concat.{flat_map-append}
use Rattle.std.proofs.lemmas.List.{drop-take, take-append-le, drop-append-le, append-nil, take-append-drop, drop_all}
use Rattle.ed_text.specs.Splices.{spliced}

-- the two parts of a row make the whole
pub flat_cut : {X : Type 0} (f : X → List ℕ) (n : ℕ) (xs : List X) → flat_map f (take n xs) ++ flat_map f (drop n xs) ≡ flat_map f xs
flat_cut f n xs = sym (flat_map-append f (take n xs) (drop n xs)) ∙ ap (flat_map f) (take-append-drop n xs)

pub length_cut : {X : Type 0} (f : X → List ℕ) (n : ℕ) (xs : List X) → length (flat_map f (take n xs)) + length (flat_map f (drop n xs)) ≡ length (flat_map f xs)
length_cut f n xs = sym (length-append (flat_map f (take n xs)) (flat_map f (drop n xs))) ∙ ap length (flat_cut f n xs)

-- a place in the middle one of three lists
pub take_into : (p c q : List ℕ) (s a : ℕ) → s ≡ length p + a → a ≤ length c → take s (p ++ (c ++ q)) ≡ p ++ take a c
take_into p c q s a e h = ap (λ n. take n (p ++ (c ++ q))) e ∙ (take-append-add p (c ++ q) a ∙ ap (λ l. p ++ l) (take-append-le a c q h))

pub drop_into : (p c q : List ℕ) (s a : ℕ) → s ≡ length p + a → a ≤ length c → drop s (p ++ (c ++ q)) ≡ drop a c ++ q
drop_into p c q s a e h = ap (λ n. drop n (p ++ (c ++ q))) e ∙ (drop-append-add p (c ++ q) a ∙ drop-append-le a c q h)

-- a splice that lies in the middle one
spliced_into : (p c q ins : List ℕ) (s a len : ℕ) → s ≡ length p + a → a + len ≤ length c → spliced (p ++ (c ++ q)) s (s + len) ins ≡ (p ++ spliced c a (a + len) ins) ++ q
spliced_into p c q ins s a len e h =
    let front : take s (p ++ (c ++ q)) ≡ p ++ take a c = take_into p c q s a e (omega arith) in
    let back : drop (s + len) (p ++ (c ++ q)) ≡ drop (a + len) c ++ q = drop_into p c q (s + len) (a + len) (omega arith) h in
    ap (λ l. l ++ (ins ++ drop (s + len) (p ++ (c ++ q)))) front ∙ (ap (λ l. (p ++ take a c) ++ (ins ++ l)) back ∙ simp append_assoc)

-- a splice from one list to a later one
spliced_across : (p c m d q ins : List ℕ) (s a room len b : ℕ) → s ≡ length p + a → a + room ≡ length c → len ≡ room + (length m + b) → b ≤ length d → spliced (p ++ (c ++ (m ++ (d ++ q)))) s (s + len) ins ≡ ((p ++ spliced c a (a + room) ins) ++ spliced d 0 (0 + b) []) ++ q
spliced_across p c m d q ins s a room len b e r l h =
    let front : take s (p ++ (c ++ (m ++ (d ++ q)))) ≡ p ++ take a c = take_into p c (m ++ (d ++ q)) s a e (omega arith) in
    let turn : p ++ (c ++ (m ++ (d ++ q))) ≡ (p ++ (c ++ m)) ++ (d ++ q) = simp append_assoc in
    let back : drop (s + len) (p ++ (c ++ (m ++ (d ++ q)))) ≡ drop (0 + b) d ++ q = ap (drop (s + len)) turn ∙ drop_into (p ++ (c ++ m)) d q (s + len) (0 + b) (omega (arith, length-append p (c ++ m), length-append c m)) (omega arith) in
    let none : drop (a + room) c ≡ [] = drop_all (a + room) c (omega arith) in
    let rest : (p ++ take a c) ++ (ins ++ (drop (0 + b) d ++ q)) ≡ ((p ++ spliced c a (a + room) ins) ++ spliced d 0 (0 + b) []) ++ q = rw none (simp (append_assoc, append-nil)) in
    ap (λ x. x ++ (ins ++ drop (s + len) (p ++ (c ++ (m ++ (d ++ q)))))) front ∙ (ap (λ x. (p ++ take a c) ++ (ins ++ x)) back ∙ rest)

-- the same of a row
module _ {X : Type 0} (f : X → List ℕ) where
  pub row_into : (row front back : List X) (child : X) (ins : List ℕ) (s a len : ℕ) → row ≡ front ++ child ∷ back → s ≡ length (flat_map f front) + a → a + len ≤ length (f child) → spliced (flat_map f row) s (s + len) ins ≡ (flat_map f front ++ spliced (f child) a (a + len) ins) ++ flat_map f back
  row_into row front back child ins s a len e at h =
      ap (λ xs. spliced (flat_map f xs) s (s + len) ins) e ∙ (ap (λ l. spliced l s (s + len) ins) (flat_map-append f front (child ∷ back)) ∙ spliced_into (flat_map f front) (f child) (flat_map f back) ins s a len at h)

  pub row_across : (row front rest mid back : List X) (child last : X) (ins : List ℕ) (s a room len b : ℕ) → row ≡ front ++ child ∷ rest → rest ≡ mid ++ last ∷ back → s ≡ length (flat_map f front) + a → a + room ≡ length (f child) → len ≡ room + (length (flat_map f mid) + b) → b ≤ length (f last) → spliced (flat_map f row) s (s + len) ins ≡ ((flat_map f front ++ spliced (f child) a (a + room) ins) ++ spliced (f last) 0 (0 + b) []) ++ flat_map f back
  row_across row front rest mid back child last ins s a room len b e e' at r l h =
      let flat : flat_map f row ≡ flat_map f front ++ (f child ++ (flat_map f mid ++ (f last ++ flat_map f back))) =
      ap (flat_map f) e ∙ (flat_map-append f front (child ∷ rest) ∙ ap (λ xs. flat_map f front ++ (f child ++ xs)) (ap (flat_map f) e' ∙ flat_map-append f mid (last ∷ back))) in
      ap (λ xs. spliced xs s (s + len) ins) flat ∙ spliced_across (flat_map f front) (f child) (flat_map f mid) (f last) (flat_map f back) ins s a room len b at r l h

  -- a row that was begun empty and got three parts, or four
  pub of_three : (none : List X) (a b c p m q : List ℕ) → none ≡ [] → a ≡ flat_map f none ++ p → b ≡ a ++ m → c ≡ b ++ q → c ≡ (p ++ m) ++ q
  of_three none a b c p m q e ea eb ec = ec ∙ ap (λ l. l ++ q) (eb ∙ ap (λ l. l ++ m) (ea ∙ ap (λ xs. flat_map f xs ++ p) e))

  pub of_four : (none : List X) (a b c d p m n q : List ℕ) → none ≡ [] → a ≡ flat_map f none ++ p → b ≡ a ++ m → c ≡ b ++ n → d ≡ c ++ q → d ≡ ((p ++ m) ++ n) ++ q
  of_four none a b c d p m n q e ea eb ec ed = ed ∙ ap (λ l. l ++ q) (ec ∙ ap (λ l. l ++ n) (eb ∙ ap (λ l. l ++ m) (ea ∙ ap (λ xs. flat_map f xs ++ p) e)))

-- a part that lies in the middle one of three lists
pub range_into : (p c q : List ℕ) (s a len : ℕ) → s ≡ length p + a → a + len ≤ length c → slice_range (p ++ (c ++ q)) s (s + len) ≡ slice_range c a (a + len)
range_into p c q s a len e h =
    let front : drop s (p ++ (c ++ q)) ≡ drop a c ++ q = drop_into p c q s a e (omega arith) in
    let m : s + len - s ≡ len = omega arith in
    let n : a + len - a ≡ len = omega arith in
    let cut : take len (drop a c ++ q) ≡ take len (drop a c) = take-append-le len (drop a c) q (omega (arith, length-drop a c)) in
    rw (front, m, n) cut

module _ {X : Type 0} (f : X → List ℕ) where
  pub row_range_into : (row front back : List X) (child : X) (s a len : ℕ) → row ≡ front ++ child ∷ back → s ≡ length (flat_map f front) + a → a + len ≤ length (f child) → slice_range (flat_map f row) s (s + len) ≡ slice_range (f child) a (a + len)
  row_range_into row front back child s a len e at h =
      ap (λ xs. slice_range (flat_map f xs) s (s + len)) e ∙ (ap (λ l. slice_range l s (s + len)) (flat_map-append f front (child ∷ back)) ∙ range_into (flat_map f front) (f child) (flat_map f back) s a len at h)

-- a number of at least 16 has more than four binary digits
pub digits : (n e : ℕ) → 16 ≤ n → n < 2 ^ e → 5 ≤ e
digits n zero h l = omega arith
digits n (suc zero) h l = omega arith
digits n (suc (suc zero)) h l = omega arith
digits n (suc (suc (suc zero))) h l = omega arith
digits n (suc (suc (suc (suc zero)))) h l = omega arith
digits n (suc (suc (suc (suc (suc e))))) h l = omega arith

-- what comes after a part is cut off, and then what comes before it
pub slice_twice : (us : List ℕ) (s len n : ℕ) → s + len ≤ length us → n ≡ length us → spliced (spliced us (s + len) n []) 0 (0 + s) [] ≡ slice_range us s (s + len)
slice_twice us s len n h e =
    let none : drop n us ≡ [] = drop_all n us (omega arith) in
    let m : s + len - s ≡ len = omega arith in
    let z : 0 + s ≡ s = omega arith in
    rw (none, m, z, append-nil) (drop-take s len us)
