-- What a version shows doesn't depend on how many levels are searched, nor on versions that come later.
use Rattle.std.proofs.Common.{◌≡◌, ℕ, zero, suc, ◌≤◌, Bool, true, false, List, [], ◌∷◌, Option, Some, None, refl, ap, subst, arith}
use Rattle.std.specs.Prelude.{MatchOption, flat_map, nat_eq, if◌then◌else◌}
use Rattle.std.specs.Option.{option_map_or}
use Rattle.std.specs.List.{AllByRecursion as Each}
use Rattle.std.proofs.lemmas.Bool.{eqb-true}
use Rattle.ed_layers.specs.Records.{Record, sources_of, version_in}
use Rattle.ed_layers.specs.Cells.{Cell, record_cells, cells_within, vector_within}
use Rattle.ed_risen.specs.Founded.{Founded, Extends}

pub each_weaker : {X : Type 0} (P Q : X → Type 0) → ((x : X) → P x → Q x) → (xs : List X) → Each P xs → Each Q xs
each_weaker P Q step [] h = tt
each_weaker P Q step (x ∷ xs) h = (step x h.0, each_weaker P Q step xs h.1)

-- the version at which a buffer stands in a list is one of the list
pub each_version : (P : ℕ × ℕ → Type 0) (vs : List (ℕ × ℕ)) (b w : ℕ) → Each P vs → version_in vs b ≡ Some w → P (b, w)
each_version P [] b w h is = absurd (cc)
each_version P (v ∷ vs) b w h is = by (nat_eq v.0 b) refl is (each_version P vs b w h.1)
  where
    by : (t : Bool) → nat_eq v.0 b ≡ t → (if t then Some v.1 else version_in vs b) ≡ Some w → (version_in vs b ≡ Some w → P (b, w)) → P (b, w)
    by true t is more =
        let e : v.0 ≡ b = eqb-true v.0 b t in
        let f : v.1 ≡ w = cc in
        subst (λ x. P (x, w)) e (subst (λ x. P (v.0, x)) f h.0)
    by false f is more = more is

-- the cells of each source, as the records find them
abbrev source_cells : (ℕ → ℕ → List Cell) → Record → ℕ → List Cell
source_cells cells r source = option_map_or (cells source) (version_in (sources_of r) source) []

-- two ways to find cells that agree on the versions that are named
source_agree : (f g : ℕ → ℕ → List Cell) (r : Record) (P : ℕ × ℕ → Type 0) → ((v : ℕ × ℕ) → P v → f v.0 v.1 ≡ g v.0 v.1) → Each P (sources_of r) → (source : ℕ) (o : Option ℕ) → version_in (sources_of r) source ≡ o → option_map_or (f source) o [] ≡ option_map_or (g source) o []
source_agree f g r P same h source None is = refl
source_agree f g r P same h source (Some w) is = same (source, w) (each_version P (sources_of r) source w h is)

sources_agree : (f g : ℕ → ℕ → List Cell) (r : Record) (P : ℕ × ℕ → Type 0) → ((v : ℕ × ℕ) → P v → f v.0 v.1 ≡ g v.0 v.1) → Each P (sources_of r) → source_cells f r ≡ source_cells g r
sources_agree f g r P same h = λ i source. source_agree f g r P same h source (version_in (sources_of r) source) refl i

module _ (at : ℕ → ℕ → Option Record) where
  -- a version that is there
  pub founded_record : (n : ℕ) (v : ℕ × ℕ) → Founded at (suc n) v → (r : Record) × (at v.0 v.1 ≡ Some r) × Each (Founded at n) (sources_of r)
  unfolding Founded
  founded_record n v h = of (at v.0 v.1) refl h
    where
      of : (o : Option Record) → at v.0 v.1 ≡ o → MatchOption o ⊥ (λ r. Each (Founded at n) (sources_of r)) → (r : Record) × (at v.0 v.1 ≡ Some r) × Each (Founded at n) (sources_of r)
      of None is h = absurd h
      of (Some r) is h = (r, is, h)

  pub founded_of : (n : ℕ) (v : ℕ × ℕ) (r : Record) → at v.0 v.1 ≡ Some r → Each (Founded at n) (sources_of r) → Founded at (suc n) v
  unfolding Founded
  founded_of n v r is h = rw is h

  pub founded_more : (n m : ℕ) (v : ℕ × ℕ) → n ≤ m → Founded at n v → Founded at m v
  unfolding Founded
  founded_more zero m v le h = absurd h
  founded_more (suc n) zero v le h = absurd (omega arith)
  founded_more (suc n) (suc m) v le h =
      let r : (r : Record) × (at v.0 v.1 ≡ Some r) × Each (Founded at n) (sources_of r) = founded_record n v h in
      founded_of m v r.0 r.1 (each_weaker (Founded at n) (Founded at m) (λ w f. founded_more n m w (omega arith) f) (sources_of r.0) r.2)

-- ---- the same cells, by so many levels and in what extends

module _ (at at' : ℕ → ℕ → Option Record) (extends : Extends at at') where
  pub founded_in : (n : ℕ) (v : ℕ × ℕ) → Founded at n v → Founded at' n v
  unfolding Founded
  founded_in zero v h = h
  founded_in (suc n) v h =
      let r : (r : Record) × (at v.0 v.1 ≡ Some r) × Each (Founded at n) (sources_of r) = founded_record at n v h in
      founded_of at' n v r.0 (extends v.0 v.1 r.0 r.1) (each_weaker (Founded at n) (Founded at' n) (founded_in n) (sources_of r.0) r.2)

  pub same_cells : (n m : ℕ) (v : ℕ × ℕ) → n ≤ m → Founded at n v → cells_within at n v.0 v.1 ≡ cells_within at' m v.0 v.1
  unfolding Founded cells_within
  same_cells zero m v le h = absurd h
  same_cells (suc n) zero v le h = absurd (omega arith)
  same_cells (suc n) (suc m) v le h =
      let r : (r : Record) × (at v.0 v.1 ≡ Some r) × Each (Founded at n) (sources_of r) = founded_record at n v h in
      let same : source_cells (cells_within at n) r.0 ≡ source_cells (cells_within at' m) r.0 =
      sources_agree (cells_within at n) (cells_within at' m) r.0 (Founded at n) (λ w f. same_cells n m w (omega arith) f) r.2 in
      rw (r.1, extends v.0 v.1 r.0 r.1) (ap (λ f. record_cells f v.0 r.0) same)

  flat_agree : (n m : ℕ) (ws : List (ℕ × ℕ)) → ((w : ℕ × ℕ) → Founded at n w → vector_within at n w ≡ vector_within at' m w) → Each (Founded at n) ws → flat_map (vector_within at n) ws ≡ flat_map (vector_within at' m) ws
  flat_agree n m [] same h = refl
  flat_agree n m (w ∷ ws) same h = rw (same w h.0, flat_agree n m ws same h.1) refl

  pub same_vector : (n m : ℕ) (v : ℕ × ℕ) → n ≤ m → Founded at n v → vector_within at n v ≡ vector_within at' m v
  unfolding Founded vector_within
  same_vector zero m v le h = absurd h
  same_vector (suc n) zero v le h = absurd (omega arith)
  same_vector (suc n) (suc m) v le h =
      let r : (r : Record) × (at v.0 v.1 ≡ Some r) × Each (Founded at n) (sources_of r) = founded_record at n v h in
      rw (r.1, extends v.0 v.1 r.0 r.1) (ap (λ vs. v ∷ vs) (flat_agree n m (sources_of r.0) (λ w f. same_vector n m w (omega arith) f) r.2))
