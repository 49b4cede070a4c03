-- How many units pieces put in, over several buffers.
use Rattle.std.proofs.Common.{◌≡◌, ◌≢◌, ℕ, ◌+◌, ◌≤◌, Bool, true, false, List, [], ◌∷◌, ◌++◌, length, map, filter, if◌then◌else◌, inl, inr, refl, sym, ap, ◌∙◌, subst, arith}
use Rattle.std.specs.Prelude.{nat_eq, sum_by}
use Rattle.std.proofs.lemmas.Bool.{cases_eq, eq-eqb, ne_eqb}
use Rattle.std.proofs.lemmas.List.Sums.{sum_by-append, sum_by-cons}
use Rattle.ed_base.specs.declared.edit.Change.{Change}
use Rattle.ed_base.specs.declared.piece.Piece.{Piece}
use Rattle.ed_base.specs.ChangeList.{inserted_len}
use Rattle.ed_layers.specs.Pieces.{own_piece}
use Rattle.ed_layers.specs.Records.{is_carrier}
use Rattle.ed_sending.proofs.Lists.SortedParts.{Each}
use Rattle.ed_sending.proofs.Carriers.SentPieces.{pieces_append}
use Rattle.ed_sending.proofs.Groups.OwnPieces.{at_other, at_own}
use Rattle.ed_stock.specs.Landing.{pieces_at, pieces_of_changes}
use Rattle.ed_stock.specs.Stock.{Stock, record_now}
use Rattle.ed_descent.specs.Edits.{own_units, pieces_of_edits, units_of_carriers}
use Rattle.ed_descent.specs.declared.edit.BufferEdit.{BufferEdit}

-- how many units pieces put in, those at one buffer, and all
abbrev pub units_of : List Piece → ℕ
units_of ps = sum_by (λ p. length p.text) ps

abbrev pub units_at : List (ℕ × Piece) → ℕ → ℕ
units_at pending b = units_of (pieces_at pending b)

abbrev pub all_units : List (ℕ × Piece) → ℕ
all_units pending = sum_by (λ bp. length bp.1.text) pending

-- each stands once
abbrev pub AreOnce : List ℕ → Type 0
AreOnce [] = Unit {0}
AreOnce (c ∷ cs) = Each (λ d. d ≢ c) cs × AreOnce cs

-- ---- sums

sum_same : {X : Type 0} (f g : X → ℕ) (xs : List X) → ((x : X) → f x ≡ g x) → sum_by f xs ≡ sum_by g xs
sum_same f g xs same = ap (λ h. sum_by h xs) (λ i x. same x i)

sum_both : (f g : ℕ → ℕ) (xs : List ℕ) → sum_by (λ x. f x + g x) xs ≡ sum_by f xs + sum_by g xs
sum_both f g [] = refl
sum_both f g (x ∷ xs) = omega (arith, sum_by-cons (λ x. f x + g x) x xs, sum_by-cons f x xs, sum_by-cons g x xs, sum_both f g xs)

sum_none : (xs : List ℕ) → sum_by (λ x. 0) xs ≡ 0
sum_none [] = refl
sum_none (x ∷ xs) = omega (arith, sum_by-cons (λ x. 0) x xs, sum_none xs)

-- what counts at one buffer
abbrev at_one : ℕ → ℕ → ℕ → ℕ
at_one b n d = if nat_eq b d then n else 0

one_here : (b n : ℕ) → at_one b n b ≡ n
one_here b n = rw (eq-eqb b b refl) refl

one_aside : (b n d : ℕ) → d ≢ b → at_one b n d ≡ 0
one_aside b n d other = rw (ne_eqb b d (λ e. other (sym e))) refl

one_none : (b n : ℕ) (ds : List ℕ) → Each (λ d. d ≢ b) ds → sum_by (at_one b n) ds ≡ 0
one_none b n [] all = refl
one_none b n (d ∷ ds) all = omega (arith, sum_by-cons (at_one b n) d ds, one_aside b n d all.0, one_none b n ds all.1)

one_once : (b n : ℕ) (ds : List ℕ) → AreOnce ds → sum_by (at_one b n) ds ≤ n
one_once b n [] once = omega arith
one_once b n (d ∷ ds) once = elim (cases_eq d b) [
  | inl same ↦ (let rest : sum_by (at_one b n) ds ≡ 0 = one_none b n ds (subst (λ c. Each (λ e. e ≢ c) ds) same once.0) in
      let here : at_one b n d ≡ n = ap (at_one b n) same ∙ one_here b n in
      omega (arith, sum_by-cons (at_one b n) d ds, rest, here))
  | inr other ↦ omega (arith, sum_by-cons (at_one b n) d ds, one_aside b n d other, one_once b n ds once.1)
]

-- ---- pieces

first_units : (p : ℕ × Piece) (ps : List (ℕ × Piece)) (d : ℕ) → units_at (p ∷ ps) d ≡ at_one p.0 (length p.1.text) d + units_at ps d
first_units p ps d = either (nat_eq p.0 d)
  where
    either : (z : Bool) → units_of (map (λ (q : ℕ × Piece). q.1) (if z then p ∷ filter (λ q. nat_eq q.0 d) ps else filter (λ q. nat_eq q.0 d) ps)) ≡ (if z then length p.1.text else 0) + units_at ps d
    either true = sum_by-cons (λ (q : Piece). length q.text) p.1 (pieces_at ps d)
    either false = omega arith

-- over buffers that each stand once they are no more than all
pub units_dealt : (ps : List (ℕ × Piece)) (ds : List ℕ) → AreOnce ds → sum_by (units_at ps) ds ≤ all_units ps
units_dealt [] ds once = omega (arith, sum_none ds)
units_dealt (p ∷ ps) ds once =
    let same : sum_by (units_at (p ∷ ps)) ds ≡ sum_by (λ d. at_one p.0 (length p.1.text) d + units_at ps d) ds = sum_same (units_at (p ∷ ps)) (λ d. at_one p.0 (length p.1.text) d + units_at ps d) ds (first_units p ps) in
    omega (arith, same, sum_both (at_one p.0 (length p.1.text)) (units_at ps) ds, one_once p.0 (length p.1.text) ds once, units_dealt ps ds once, sum_by-cons (λ (bp : ℕ × Piece). length bp.1.text) p ps)

pub units_append : (xs ys : List (ℕ × Piece)) (d : ℕ) → units_at (xs ++ ys) d ≡ units_at xs d + units_at ys d
units_append xs ys d = ap units_of (pieces_append xs ys d) ∙ sum_by-append (λ (p : Piece). length p.text) (pieces_at xs d) (pieces_at ys d)

pub sums_append : (xs ys : List (ℕ × Piece)) (ds : List ℕ) → AreOnce ds → sum_by (units_at (xs ++ ys)) ds ≤ sum_by (units_at xs) ds + all_units ys
sums_append xs ys ds once =
    let same : sum_by (units_at (xs ++ ys)) ds ≡ sum_by (λ d. units_at xs d + units_at ys d) ds = sum_same (units_at (xs ++ ys)) (λ d. units_at xs d + units_at ys d) ds (units_append xs ys) in
    omega (arith, same, sum_both (units_at xs) (units_at ys) ds, units_dealt ys ds once)

-- ---- edits

own_texts : (cs : List Change) → units_of (map own_piece cs) ≡ sum_by (λ x. length x.text) cs
own_texts [] = refl
own_texts (c ∷ cs) = sum_by-cons (λ (p : Piece). length p.text) (own_piece c) (map own_piece cs) ∙ ap (λ n. length c.text + n) (own_texts cs) ∙ sym (sum_by-cons (λ (x : Change). length x.text) c cs)

one_edit : (e : BufferEdit) (d : ℕ) → units_at (pieces_of_changes e.buffer e.changes.changes) d ≡ at_one e.buffer (inserted_len e.changes) d
one_edit e d = elim (cases_eq d e.buffer) [
  | inl same ↦ ap (units_at (pieces_of_changes e.buffer e.changes.changes)) same ∙ ap units_of (at_own e.buffer e.changes.changes) ∙ own_texts e.changes.changes ∙ sym (ap (at_one e.buffer (inserted_len e.changes)) same ∙ one_here e.buffer (inserted_len e.changes))
  | inr other ↦ ap units_of (at_other e.buffer d e.changes.changes other) ∙ sym (one_aside e.buffer (inserted_len e.changes) d other)
]

pub own_at : (edits : List BufferEdit) (b : ℕ) → units_at (pieces_of_edits edits) b ≡ own_units edits b
own_at [] b = refl
own_at (e ∷ es) b =
    units_append (pieces_of_changes e.buffer e.changes.changes) (pieces_of_edits es) b
    ∙ ap (λ n. n + units_at (pieces_of_edits es) b) (one_edit e b)
    ∙ ap (λ n. at_one e.buffer (inserted_len e.changes) b + n) (own_at es b)
    ∙ sym (sum_by-cons (λ (x : BufferEdit). if nat_eq x.buffer b then inserted_len x.changes else 0) e es)

module _ (s : Stock) (ds : List ℕ) (once : AreOnce ds) (carry : Each (λ d. is_carrier (record_now s d) ≡ true) ds) where
  edit_sum : (e : BufferEdit) → sum_by (at_one e.buffer (inserted_len e.changes)) ds ≤ (if is_carrier (record_now s e.buffer) then inserted_len e.changes else 0)
  edit_sum e = either (is_carrier (record_now s e.buffer)) refl
    where
      others : is_carrier (record_now s e.buffer) ≡ false → (xs : List ℕ) → Each (λ d. is_carrier (record_now s d) ≡ true) xs → Each (λ d. d ≢ e.buffer) xs
      others is [] all = tt
      others is (x ∷ xs) all = ((λ same. (let f : true ≡ false = sym all.0 ∙ ap (λ d. is_carrier (record_now s d)) same ∙ is in cc)), others is xs all.1)

      either : (z : Bool) → is_carrier (record_now s e.buffer) ≡ z → sum_by (at_one e.buffer (inserted_len e.changes)) ds ≤ (if z then inserted_len e.changes else 0)
      either true is = one_once e.buffer (inserted_len e.changes) ds once
      either false is = omega (arith, one_none e.buffer (inserted_len e.changes) ds (others is ds carry))

  -- all that edits bring to carriers
  pub edits_sum : (edits : List BufferEdit) → sum_by (units_at (pieces_of_edits edits)) ds ≤ units_of_carriers s edits
  edits_sum [] = omega (arith, sum_none ds)
  edits_sum (e ∷ es) =
      let same : sum_by (units_at (pieces_of_edits (e ∷ es))) ds ≡ sum_by (λ d. at_one e.buffer (inserted_len e.changes) d + units_at (pieces_of_edits es) d) ds =
      sum_same (units_at (pieces_of_edits (e ∷ es))) (λ d. at_one e.buffer (inserted_len e.changes) d + units_at (pieces_of_edits es) d) ds (λ d. units_append (pieces_of_changes e.buffer e.changes.changes) (pieces_of_edits es) d ∙ ap (λ n. n + units_at (pieces_of_edits es) d) (one_edit e d)) in
      omega (arith, same, sum_both (at_one e.buffer (inserted_len e.changes)) (units_at (pieces_of_edits es)) ds, edit_sum e, edits_sum es, sum_by-cons (λ (x : BufferEdit). if is_carrier (record_now s x.buffer) then inserted_len x.changes else 0) e es)
