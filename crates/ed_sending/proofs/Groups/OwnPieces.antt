-- A buffer's own changes as pieces: they stand at that buffer alone, and make of its text what the changes make.
use Rattle.std.proofs.Common.{◌≡◌, ◌≢◌, ℕ, Bool, true, false, List, [], ◌∷◌, length, map, Option, Some, None, refl, sym, ap, ◌∙◌}
use Rattle.std.specs.Prelude.{filter, flat_map, nat_eq}
use Rattle.std.proofs.lemmas.Bool.{eq-eqb, ne_eqb}
use Rattle.std.proofs.lemmas.List.{map-append}
use Rattle.ed_base.specs.declared.edit.Change.{Change}
use Rattle.ed_base.specs.Edit.{edited, inserted_at, is_deleted, origins, woven}
use Rattle.ed_base.specs.Numbers.{places}
use Rattle.ed_base.specs.Sorting.{placed_in, sorted_by}
use Rattle.ed_base.specs.Step.{Step, pairs_from}
use Rattle.ed_base.specs.ChangeList.{ChangeList, applied, step}
use Rattle.ed_base.proofs.NormalSteps.{edit_of}
use Rattle.ed_layers.specs.Pieces.{gone_at, marked_text, marked_units, own_piece, piece_before, piece_origins, put_at, step_of_pieces, unmarked}
use Rattle.ed_stock.specs.Landing.{pieces_at, pieces_of_changes}
use Rattle.ed_sending.proofs.Lists.SortedParts.{Each}
use Rattle.ed_sending.proofs.Lists.Weaves.{woven_map}

-- ---- where they stand

pub all_own : (b : ℕ) (cs : List Change) → Each (λ bp. bp.0 ≡ b) (pieces_of_changes b cs)
all_own b [] = tt
all_own b (c ∷ cs) = (refl, all_own b cs)

pub at_own : (b : ℕ) (cs : List Change) → pieces_at (pieces_of_changes b cs) b ≡ map own_piece cs
at_own b [] = refl
at_own b (c ∷ cs) = rw (eq-eqb b b refl) (ap (λ ps. own_piece c ∷ ps) (at_own b cs))

pub at_other : (b d : ℕ) (cs : List Change) → d ≢ b → pieces_at (pieces_of_changes b cs) d ≡ []
at_other b d [] other = refl
at_other b d (c ∷ cs) other = rw (ne_eqb b d (λ same. other (sym same))) (at_other b d cs other)

-- ---- what they put in and take away

gone_own : (cs : List Change) (q : ℕ) → gone_at (map own_piece cs) q ≡ is_deleted (edit_of cs) q
gone_own [] q = refl
gone_own (c ∷ cs) q = rw (gone_own cs q) refl

-- all alike, they stay in their order
sorted_own : (cs : List Change) → sorted_by piece_before (map own_piece cs) ≡ map own_piece cs
sorted_own [] = refl
sorted_own (c ∷ cs) = ap (placed_in piece_before (own_piece c)) (sorted_own cs) ∙ first c cs
  where
    first : (c : Change) (cs : List Change) → placed_in piece_before (own_piece c) (map own_piece cs) ≡ own_piece c ∷ map own_piece cs
    first c [] = refl
    first c (d ∷ ds) = refl

filter_own : (g : ℕ) (cs : List Change) → filter (λ p. nat_eq p.start g) (map own_piece cs) ≡ map own_piece (filter (λ c. nat_eq c.start g) cs)
filter_own g [] = refl
filter_own g (c ∷ cs) = either (nat_eq c.start g) refl (filter_own g cs)
  where
    either : (z : Bool) → nat_eq c.start g ≡ z → filter (λ p. nat_eq p.start g) (map own_piece cs) ≡ map own_piece (filter (λ c. nat_eq c.start g) cs) → filter (λ p. nat_eq p.start g) (map own_piece (c ∷ cs)) ≡ map own_piece (filter (λ c. nat_eq c.start g) (c ∷ cs))
    either true e rest = rw (e, rest) refl
    either false e rest = rw (e, rest) refl

put_own : (cs : List Change) (g : ℕ) → put_at (map own_piece cs) g ≡ map unmarked (inserted_at (edit_of cs) g)
put_own cs g =
    ap (λ ps. flat_map marked_units (sorted_by piece_before ps)) (filter_own g cs)
    ∙ ap (flat_map marked_units) (sorted_own (filter (λ c. nat_eq c.start g) cs))
    ∙ texts cs
  where
    texts : (cs : List Change) → flat_map marked_units (map own_piece (filter (λ c. nat_eq c.start g) cs)) ≡ map unmarked (inserted_at (edit_of cs) g)
    texts [] = refl
    texts (c ∷ cs) = either (nat_eq c.start g) refl (texts cs)
      where
        either : (z : Bool) → nat_eq c.start g ≡ z → flat_map marked_units (map own_piece (filter (λ c. nat_eq c.start g) cs)) ≡ map unmarked (inserted_at (edit_of cs) g) → flat_map marked_units (map own_piece (filter (λ c. nat_eq c.start g) (c ∷ cs))) ≡ map unmarked (inserted_at (edit_of (c ∷ cs)) g)
        either true e rest = rw (e, rest) (sym (map-append unmarked c.text (inserted_at (edit_of cs) g)))
        either false e rest = rw (e, rest) refl

-- ---- the text

marked_own : (cs : List Change) (text : List ℕ) → marked_text (map own_piece cs) text ≡ map unmarked (edited (edit_of cs) text)
marked_own cs text =
    ap (λ f. woven f (gone_at (map own_piece cs)) 0 (map unmarked text)) (λ i g. put_own cs g i)
    ∙ ap (λ f. woven (λ g. map unmarked (inserted_at (edit_of cs) g)) f 0 (map unmarked text)) (λ i q. gone_own cs q i)
    ∙ sym (woven_map unmarked (inserted_at (edit_of cs)) (is_deleted (edit_of cs)) 0 text)

units_unmarked : (us : List ℕ) → map (λ u. u.0) (map unmarked us) ≡ us
units_unmarked [] = refl
units_unmarked (u ∷ us) = ap (λ xs. u ∷ xs) (units_unmarked us)

trails_unmarked : (us : List ℕ) → map (λ u. u.1) (map unmarked us) ≡ map (λ u. []) us
trails_unmarked [] = refl
trails_unmarked (u ∷ us) = ap (λ xs. [] ∷ xs) (trails_unmarked us)

-- the text that they leave is the one that the changes lead to
pub own_text : (b : ℕ) (c : ChangeList) (text : List ℕ) → map (λ u. u.0) (marked_text (pieces_at (pieces_of_changes b c.changes) b) text) ≡ applied c text
own_text b c text =
    ap (λ ps. map (λ u. u.0) (marked_text ps text)) (at_own b c.changes) ∙ ap (map (λ u. u.0)) (marked_own c.changes text) ∙ units_unmarked (applied c text)

-- no unit of it has a trail
pub own_trails : (b : ℕ) (c : ChangeList) (text : List ℕ) → map (λ u. u.1) (marked_text (pieces_at (pieces_of_changes b c.changes) b) text) ≡ map (λ u. []) (applied c text)
own_trails b c text =
    ap (λ ps. map (λ u. u.1) (marked_text ps text)) (at_own b c.changes) ∙ ap (map (λ u. u.1)) (marked_own c.changes text) ∙ trails_unmarked (applied c text)

-- ---- the step

none_unmarked : (us : List ℕ) → map {B = Option ℕ} (λ u. None) (map unmarked us) ≡ map (λ u. None) us
none_unmarked [] = refl
none_unmarked (u ∷ us) = ap (λ xs. None ∷ xs) (none_unmarked us)

origins_own : (cs : List Change) (n : ℕ) → piece_origins (map own_piece cs) n ≡ origins (edit_of cs) n
origins_own cs n =
    ap (λ f. woven f (gone_at (map own_piece cs)) 0 (map (λ p. Some p) (places n))) (λ i g. (ap (map {B = Option ℕ} (λ u. None)) (put_own cs g) ∙ none_unmarked (inserted_at (edit_of cs) g)) i)
    ∙ ap (λ f. woven (λ g. map (λ u. None) (inserted_at (edit_of cs) g)) f 0 (map (λ p. Some p) (places n))) (λ i q. gone_own cs q i)

abbrev step_from : ℕ → List (Option ℕ) → Step
step_from n os = record { old_len = n; new_len = length os; kept = pairs_from 0 os }

-- their step is that of the changes
pub own_step : (b : ℕ) (c : ChangeList) → step_of_pieces (pieces_at (pieces_of_changes b c.changes) b) c.old_len ≡ step c
own_step b c = ap (λ ps. step_of_pieces ps c.old_len) (at_own b c.changes) ∙ ap (step_from c.old_len) (origins_own c.changes c.old_len)
