-- Where the first line of a script ends.
use Rattle.std.proofs.Common.{◌≡◌, ℕ, zero, suc, ◌+◌, ◌<◌, Bool, true, false, List, [], ◌∷◌, length, get_or, take, drop, Some, None, refl, sym, ◌∙◌, cond, arith, add-one}
use Rattle.std.specs.Prelude.{nat_eq, position}
use Rattle.std.proofs.lemmas.List.Quantifiers.{position-Some}
use Rattle.std.proofs.lemmas.Iterator.Adapters.{position_from-zero}
use Rattle.std.proofs.lemmas.Option.{none-some}
use Rattle.std.specs.List.{position_from}
use Rattle.ed_script.specs.Lines.{Cut, lines_of}

-- the first line, before the others
abbrev pub line_before : List ℕ → Cut → Cut
line_before line c = record { ended = line ∷ c.ended; rest = c.rest }

cut_at : (i : ℕ) (xs : List ℕ) → i < length xs → nat_eq (get_or xs i 0) 10 ≡ true → ((k : ℕ) → k < i → nat_eq (get_or xs k 0) 10 ≡ false) → lines_of xs ≡ line_before (take i xs) (lines_of (drop (suc i) xs))
cut_at i [] within here before = absurd (omega arith)
cut_at zero (x ∷ xs) within here before = rw here refl
cut_at (suc i) (x ∷ xs) within here before =
    let first : nat_eq x 10 ≡ false = before 0 (omega arith) in
    let later : lines_of xs ≡ line_before (take i xs) (lines_of (drop (suc i) xs)) = cut_at i xs (omega arith) here (λ k below. before (suc k) (omega arith)) in
    rw (first, later) refl

pub cut-some : (xs : List ℕ) (i : ℕ) → position (λ b. nat_eq b 10) xs ≡ Some i → lines_of xs ≡ line_before (take i xs) (lines_of (drop (i + 1) xs))
cut-some xs i e = let f = position-Some (λ b. nat_eq b 10) xs i 0 e in rw add-one (cut_at i xs f.0 f.1 f.2)

uncut_by : (i x : ℕ) (xs : List ℕ) (b : Bool) → nat_eq x 10 ≡ b → cond b (Some i) (position_from (λ b. nat_eq b 10) (i + 1) xs) ≡ None → (position_from (λ b. nat_eq b 10) (i + 1) xs ≡ None → lines_of xs ≡ record { ended = []; rest = xs }) → lines_of (x ∷ xs) ≡ record { ended = []; rest = x ∷ xs }
uncut_by i x xs true first e ih = absurd (none-some i (sym e))
uncut_by i x xs false first e ih = rw (first, ih e) refl

uncut : (i : ℕ) (xs : List ℕ) → position_from (λ b. nat_eq b 10) i xs ≡ None → lines_of xs ≡ record { ended = []; rest = xs }
uncut i [] e = refl
uncut i (x ∷ xs) e = uncut_by i x xs (nat_eq x 10) refl e (uncut (i + 1) xs)

pub cut-none : (xs : List ℕ) → position (λ b. nat_eq b 10) xs ≡ None → lines_of xs ≡ record { ended = []; rest = xs }
cut-none xs e = uncut 0 xs (sym (position_from-zero (λ b. nat_eq b 10) xs) ∙ e)
