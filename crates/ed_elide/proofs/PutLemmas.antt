-- What is put in among hidden units: one pass over the changes.
use Rattle.std.proofs.Common.{◌≡◌, ℕ, ◌+◌, ◌-◌, ◌<◌, ◌≤◌, Bool, true, false, if◌then◌else◌, List, [], ◌∷◌, ◌++◌, length, drop, get_or, inl, inr, refl, sym, ap, subst, ◌∙◌, arith, append_assoc}
use Rattle.std.proofs.lemmas.Bool.{cases_lt, lt-ltb, le-ltb}
use Rattle.std.proofs.lemmas.List.{append-nil, drop_more, drop_all}
use Rattle.ed_base.specs.declared.edit.Change.{Change}
use Rattle.ed_base.specs.declared.edit.Span.{Span}
use Rattle.ed_base.specs.ChangeList.{ChangeList, AreNormalFrom, IsNormal, new_len}
use Rattle.ed_base.proofs.NormalLists.{normal_earlier, end_from, new_len_is_end, reached_below_end}
use Rattle.ed_layers.specs.Hidden.{among_hidden}
use Rattle.ed_spans.specs.SpanSets.{AreApartFrom, before}
use Rattle.ed_spans.proofs.GapLemmas.{apart_earlier}
use Rattle.ed_elide.specs.AfterStep.{left_of, right_of, put_spans}

pub before_front : (p q : ℕ) (ss : List Span) → before p q ss ≡ before p q [] ++ ss
before_front p q ss = elim (cases_lt p q) [
  | inl some ↦ rw (lt-ltb p q some) refl
  | inr none ↦ rw (le-ltb p q none) refl
]

-- up to old place i and new place j: the spans that were found, and the changes that are left
pub record Putting (flags : List Bool) (c : ChangeList) (i j : ℕ) (found : List Span) (left : List Change) : Type 0 where
  pub within : i ≤ c.old_len
  pub normal : AreNormalFrom i c.old_len left
  pub end : end_from i j c.old_len left ≡ new_len c
  pub done : found ++ put_spans flags c.old_len i j left ≡ put_spans flags c.old_len 0 0 c.changes

pub putting_none : (flags : List Bool) (c : ChangeList) → IsNormal c → Putting flags c 0 0 [] c.changes
putting_none flags c normal = record { within = omega arith; normal = normal.changes; end = new_len_is_end c.old_len c.changes normal.changes; done = refl }

pub putting_at : (flags : List Bool) (c : ChangeList) (i j k : ℕ) (found : List Span) (list : List Change) (x : Change) → k < length list → x ≡ get_or list k x → Putting flags c i j found (drop k list) → Putting flags c i j found (x ∷ drop (k + 1) list)
putting_at flags c i j k found list x below is p =
    subst (λ (xs : List Change). Putting flags c i j found xs) (drop_more list k x below ∙ ap (λ y. y ∷ drop (k + 1) list) (sym is)) p

module _ (flags : List Bool) (c : ChangeList) (i j : ℕ) (found : List Span) (x : Change) (left : List Change) (p : Putting flags c i j found (x ∷ left)) where
  pub putting_fits : (i ≤ x.start) × ((x.start + x.old_len ≤ c.old_len) × (j + (x.start - i) + length x.text ≤ new_len c))
  putting_fits = (p.normal.0, (p.normal.1, omega (arith, p.end, reached_below_end (x.start + x.old_len) (j + (x.start - i) + length x.text) c.old_len left)))

  abbrev pub among : Bool
  among = among_hidden flags (left_of x.start) (right_of c.old_len (x.start + x.old_len))

  pub putting_more : (more : List Span) → more ≡ (if among_hidden flags (left_of x.start) (right_of c.old_len (x.start + x.old_len)) then found ++ before (j + (x.start - i)) (j + (x.start - i) + length x.text) [] else found) → Putting flags c (x.start + x.old_len) (j + (x.start - i) + length x.text) more left
  putting_more more is = record {
    within = p.normal.1;
    normal = normal_earlier (x.start + x.old_len) (x.start + x.old_len + 1) c.old_len left (omega arith) p.normal.3;
    end = p.end;
    done = front among refl;
  }
    where
      front : (b : Bool) → among ≡ b → more ++ put_spans flags c.old_len (x.start + x.old_len) (j + (x.start - i) + length x.text) left ≡ put_spans flags c.old_len 0 0 c.changes
      front true so =
          let rest : List Span = put_spans flags c.old_len (x.start + x.old_len) (j + (x.start - i) + length x.text) left in
          let one : List Span = before (j + (x.start - i)) (j + (x.start - i) + length x.text) [] in
          let here : more ≡ found ++ one = is ∙ ap (λ b. if b then found ++ one else found) so in
          let all : put_spans flags c.old_len i j (x ∷ left) ≡ one ++ rest = ap (λ b. if b then before (j + (x.start - i)) (j + (x.start - i) + length x.text) rest else rest) so ∙ before_front (j + (x.start - i)) (j + (x.start - i) + length x.text) rest in
          ap (λ u. u ++ rest) here ∙ append_assoc found one rest ∙ ap (λ u. found ++ u) (sym all) ∙ p.done
      front false so =
          let rest : List Span = put_spans flags c.old_len (x.start + x.old_len) (j + (x.start - i) + length x.text) left in
          let here : more ≡ found = is ∙ ap (λ b. if b then found ++ before (j + (x.start - i)) (j + (x.start - i) + length x.text) [] else found) so in
          let all : put_spans flags c.old_len i j (x ∷ left) ≡ rest = ap (λ b. if b then before (j + (x.start - i)) (j + (x.start - i) + length x.text) rest else rest) so in
          ap (λ u. u ++ rest) here ∙ ap (λ u. found ++ u) (sym all) ∙ p.done

pub putting_all : (flags : List Bool) (c : ChangeList) (i j k : ℕ) (found : List Span) (list : List Change) → length list ≤ k → Putting flags c i j found (drop k list) → found ≡ put_spans flags c.old_len 0 0 c.changes
putting_all flags c i j k found list end p = sym (append-nil found) ∙ (subst (λ (xs : List Change). Putting flags c i j found xs) (drop_all k list end) p).done

-- they lie apart
pub puts_apart : (flags : List Bool) (n i j p : ℕ) (cs : List Change) → i ≤ p → AreNormalFrom p n cs → AreApartFrom (j + (p - i)) (end_from i j n cs) (put_spans flags n i j cs)
puts_apart flags n i j p [] le normal = tt
puts_apart flags n i j p (c ∷ cs) le normal =
    let i' : ℕ = c.start + c.old_len in
    let j' : ℕ = j + (c.start - i) + length c.text in
    let one : i' + 1 - i' ≡ 1 = omega arith in
    let rest : AreApartFrom (j' + 1) (end_from i' j' n cs) (put_spans flags n i' j' cs) =
    subst (λ k. AreApartFrom (j' + k) (end_from i' j' n cs) (put_spans flags n i' j' cs)) one (puts_apart flags n i' j' (i' + 1) cs (omega arith) normal.3) in
    let later : AreApartFrom (j + (p - i)) (end_from i' j' n cs) (put_spans flags n i' j' cs) = apart_earlier (j + (p - i)) (j' + 1) (end_from i' j' n cs) (put_spans flags n i' j' cs) (omega (arith, normal.0, le)) rest in
    front (among_hidden flags (left_of c.start) (right_of n (c.start + c.old_len))) refl rest later
  where
    front : (b : Bool) → among_hidden flags (left_of c.start) (right_of n (c.start + c.old_len)) ≡ b
        → AreApartFrom (j + (c.start - i) + length c.text + 1) (end_from (c.start + c.old_len) (j + (c.start - i) + length c.text) n cs) (put_spans flags n (c.start + c.old_len) (j + (c.start - i) + length c.text) cs)
        → AreApartFrom (j + (p - i)) (end_from (c.start + c.old_len) (j + (c.start - i) + length c.text) n cs) (put_spans flags n (c.start + c.old_len) (j + (c.start - i) + length c.text) cs)
        → AreApartFrom (j + (p - i)) (end_from i j n (c ∷ cs)) (put_spans flags n i j (c ∷ cs))
    front true so rest later = elim (cases_lt (j + (c.start - i)) (j + (c.start - i) + length c.text)) [
      | inl some ↦ (
          let e : j + (c.start - i) + (j + (c.start - i) + length c.text - (j + (c.start - i))) ≡ j + (c.start - i) + length c.text = omega arith in
          rw (so, lt-ltb (j + (c.start - i)) (j + (c.start - i) + length c.text) some) (
            omega (arith, normal.0, le),
            omega (arith, some),
            omega (arith, reached_below_end (c.start + c.old_len) (j + (c.start - i) + length c.text) n cs),
            subst (λ k. AreApartFrom (k + 1) (end_from (c.start + c.old_len) (j + (c.start - i) + length c.text) n cs) (put_spans flags n (c.start + c.old_len) (j + (c.start - i) + length c.text) cs)) (sym e) rest,
          ))
      | inr none ↦ rw (so, le-ltb (j + (c.start - i)) (j + (c.start - i) + length c.text) none) later
    ]
    front false so rest later = rw so later

pub all_puts_apart : (flags : List Bool) (c : ChangeList) → IsNormal c → AreApartFrom 0 (new_len c) (put_spans flags c.old_len 0 0 c.changes)
all_puts_apart flags c normal = subst (λ m. AreApartFrom 0 m (put_spans flags c.old_len 0 0 c.changes)) (new_len_is_end c.old_len c.changes normal.changes) (puts_apart flags c.old_len 0 0 0 c.changes (omega arith) normal.changes)
