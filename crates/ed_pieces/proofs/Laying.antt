-- The work of laying components into a text, one after the other.
use Rattle.std.proofs.Common.{◌≡◌, ℕ, ◌+◌, ◌-◌, ◌<◌, ◌≤◌, ◌^◌, List, [], ◌∷◌, ◌++◌, length, map, refl, sym, ap, ◌∙◌, arith, append_assoc, length-append}
use Rattle.std.proofs.lemmas.List.{length-map, map-append}
use Rattle.ed_base.specs.declared.edit.Change.{Change}
use Rattle.ed_base.specs.ChangeList.{AreNormalFrom}
use Rattle.ed_base.proofs.NormalLists.{normal_earlier, end_from, new_len_is_end, reached_below_end}
use Rattle.ed_layers.specs.Pieces.{Component}
use Rattle.ed_layers.specs.Sending.{Run, trail_runs}
use Rattle.ed_pieces.specs.Arrivals.{units_put_in}
use Rattle.ed_pieces.specs.Runs.{run_units, text_of}
use Rattle.ed_pieces.specs.Ways.{change_of, way_if, ways_of, ways_from}
use Rattle.ed_pieces.specs.declared.trails.TrailRun.{TrailRun}
use Rattle.ed_pieces.proofs.Changing.{new_len_within}

-- ---- run by run

pub run_size : (r : Run) (rs : List Run) → length (text_of (r ∷ rs)) ≡ length r.units + length (text_of rs)
run_size r rs = length-append (run_units r) (text_of rs) ∙ ap (λ z. z + length (text_of rs)) (length-map r.units (λ u. (u, r.trail)))

abbrev Marked : Type 0
Marked = ℕ × List (ℕ × ℕ)

units_again : (trail : List (ℕ × ℕ)) (us : List ℕ) → map (λ (u : Marked). u.0) (map (λ u. (u, trail)) us) ≡ us
units_again trail [] = refl
units_again trail (u ∷ us) = ap (λ z. u ∷ z) (units_again trail us)

-- The work on all runs: the units and the ways so far, the place that was reached, and the runs that are left.
pub record Running (all : List Run) (before : List TrailRun) (at : ℕ) (done : List ℕ) (noted : List TrailRun) (place : ℕ) (rest : List Run) : Type 0 where
  pub text : done ++ map (λ u. u.0) (text_of rest) ≡ map (λ u. u.0) (text_of all)
  pub ways : noted ++ ways_of place rest ≡ before ++ ways_of at all
  pub room : place + length (text_of rest) < 2 ^ 32

pub running_next : (all : List Run) (before : List TrailRun) (at : ℕ) (text : List ℕ) (ways : List TrailRun) (place : ℕ) (r : Run) (rs : List Run) → Running all before at text ways place (r ∷ rs) → Running all before at (text ++ r.units) (ways ++ way_if place (length r.units) r.trail) (place + length r.units) rs
running_next all before at text ways place r rs h = record {
  text = append_assoc text r.units (map (λ u. u.0) (text_of rs)) ∙ ap (λ z. text ++ (z ++ map (λ u. u.0) (text_of rs))) (sym (units_again r.trail r.units)) ∙ ap (λ z. text ++ z) (sym (map-append (λ u. u.0) (run_units r) (text_of rs))) ∙ h.text;
  ways = append_assoc ways (way_if place (length r.units) r.trail) (ways_of (place + length r.units) rs) ∙ h.ways;
  room = omega (arith, h.room, run_size r rs);
}

-- ---- component by component

-- The work on all components, done up to old place i and new place j: the changes and the ways so far, and the components that are left.
pub record Laying (n : ℕ) (all : List Component) (i j : ℕ) (done : List Change) (noted : List TrailRun) (rest : List Component) : Type 0 where
  pub normal : AreNormalFrom i n (map change_of rest)
  pub changes : done ++ map change_of rest ≡ map change_of all
  pub ways : noted ++ ways_from i j rest ≡ ways_from 0 0 all
  pub room : end_from i j n (map change_of rest) < 2 ^ 32

pub laying_begun : (n : ℕ) (all : List Component) → AreNormalFrom 0 n (map change_of all) → n ≤ 2 ^ 22 → units_put_in all ≤ 2 ^ 27 → Laying n all 0 0 [] [] all
laying_begun n all normal short few = record {
  normal = normal;
  changes = refl;
  ways = refl;
  room = omega (arith, new_len_is_end n (map change_of all) normal, new_len_within n all, short, few);
}

pub laying_next : (n : ℕ) (all : List Component) (i j : ℕ) (changes : List Change) (ways : List TrailRun) (c : Component) (cs : List Component) → Laying n all i j changes ways (c ∷ cs) →
    Laying n all (c.start + c.old_len) (j + (c.start - i) + length c.text) (changes ++ change_of c ∷ []) (ways ++ ways_of (j + (c.start - i)) (trail_runs c.text)) cs
laying_next n all i j changes ways c cs h = record {
  normal = normal_earlier (c.start + c.old_len) (c.start + c.old_len + 1) n (map change_of cs) (omega arith) h.normal.3;
  changes = append_assoc changes (change_of c ∷ []) (map change_of cs) ∙ h.changes;
  ways = append_assoc ways (ways_of (j + (c.start - i)) (trail_runs c.text)) (ways_from (c.start + c.old_len) (j + (c.start - i) + length c.text) cs) ∙ h.ways;
  room = (let r : end_from (c.start + c.old_len) (j + (c.start - i) + length (map (λ u. u.0) c.text)) n (map change_of cs) < 2 ^ 32 = h.room in rw (length-map c.text (λ u. u.0)) at r);
}

-- no place that is reached lies too far behind
pub laying_fits : (n : ℕ) (all : List Component) (i j : ℕ) (changes : List Change) (ways : List TrailRun) (c : Component) (cs : List Component) → Laying n all i j changes ways (c ∷ cs) → j + (c.start - i) + length c.text < 2 ^ 32
laying_fits n all i j changes ways c cs h = omega (arith, reached_below_end (c.start + c.old_len) (j + (c.start - i) + length c.text) n (map change_of cs), (laying_next n all i j changes ways c cs h).room)

-- where no element is left
pub none_left : {X : Type 0} (xs : List X) (n : ℕ) → n ≡ length xs → n ≡ 0 → xs ≡ []
none_left [] n e z = refl
none_left (x ∷ xs) n e z = absurd (omega arith)
