-- The change lists between two versions are linked.
use Rattle.std.proofs.Common.{◌≡◌, ℕ, zero, suc, ◌+◌, ◌-◌, ◌<◌, ◌≤◌, List, [], ◌∷◌, ◌++◌, length, take, drop, refl, sym, ap, ◌∙◌, subst, arith, length-drop}
use Rattle.std.specs.Prelude.{slice_range}
use Rattle.ed_base.specs.ChangeList.{ChangeList, new_len}
use Rattle.ed_track.specs.Linked.{AreLinkedFrom, AreLinked, len_before, len_after}
use Rattle.ed_version.specs.Versions.{text_at, text_now, Lead}

anyhow : (n : ℕ) (cs : List ChangeList) → AreLinkedFrom n cs → AreLinked cs
anyhow n [] l = tt
anyhow n (c ∷ cs) l = l.1

begins : (n p : ℕ) (cs : List ChangeList) → AreLinkedFrom n cs → p ≤ n → p ≤ len_before p cs
begins n p [] l within = omega arith
begins n p (c ∷ cs) l within = rw (l.0) within

stops : (n p : ℕ) (cs : List ChangeList) → p ≤ len_after n cs → p ≤ len_after p cs
stops n p [] within = omega arith
stops n p (c ∷ cs) within = within

module _ {V : Type 0} (text : V → List ℕ) where
  -- the length of the text of a version
  abbrev len_at : List V → ℕ → ℕ
  len_at versions v = length (text_at text versions v)

  pub lead_count : (vs : List V) (cs : List ChangeList) → Lead text vs cs → length vs ≡ length cs + 1
  lead_count [] cs f = absurd f
  lead_count (v ∷ []) [] f = refl
  lead_count (v ∷ []) (c ∷ cs) f = absurd f
  lead_count (v ∷ w ∷ vs) [] f = absurd f
  lead_count (v ∷ w ∷ vs) (c ∷ cs) f = let ih = lead_count (w ∷ vs) cs f.2 in omega arith

  pub lead_push : (vs : List V) (cs : List ChangeList) (v : V) (c : ChangeList) → Lead text vs cs → c.old_len ≡ length (text_now text vs) → new_len c ≡ length (text v) → Lead text (vs ++ v ∷ []) (cs ++ c ∷ [])
  lead_push [] cs v c f old new = absurd f
  lead_push (u ∷ []) [] v c f old new = (old, new, tt)
  lead_push (u ∷ []) (d ∷ cs) v c f old new = absurd f
  lead_push (u ∷ w ∷ vs) [] v c f old new = absurd f
  lead_push (u ∷ w ∷ vs) (d ∷ cs) v c f old new =
      let last : len_at (u ∷ w ∷ vs) (length (u ∷ w ∷ vs) - 1) ≡ len_at (w ∷ vs) (length (w ∷ vs) - 1) = ap (len_at (u ∷ w ∷ vs)) (let e : length (u ∷ w ∷ vs) - 1 ≡ suc (length (w ∷ vs) - 1) = omega arith in e) in
      (f.0, f.1, lead_push (w ∷ vs) cs v c f.2 (old ∙ last) new)

  linked : (vs : List V) (cs : List ChangeList) (k : ℕ) → Lead text vs cs → AreLinkedFrom (len_at vs 0) (take k cs)
  linked [] cs k f = absurd f
  linked (v ∷ []) [] zero f = tt
  linked (v ∷ []) [] (suc k) f = tt
  linked (v ∷ []) (c ∷ cs) k f = absurd f
  linked (v ∷ w ∷ vs) [] k f = absurd f
  linked (v ∷ w ∷ vs) (c ∷ cs) zero f = tt
  linked (v ∷ w ∷ vs) (c ∷ cs) (suc k) f = (f.0, (let P : ℕ → Type 0 = λ n. AreLinkedFrom n (take k cs) in subst P (sym f.1) (linked (w ∷ vs) cs k f.2)))

  ends : (vs : List V) (cs : List ChangeList) (k : ℕ) → Lead text vs cs → k < length vs → len_after (len_at vs 0) (take k cs) ≡ len_at vs k
  ends [] cs k f within = absurd f
  ends (v ∷ []) [] zero f within = refl
  ends (v ∷ []) [] (suc k) f within = absurd (omega arith)
  ends (v ∷ []) (c ∷ cs) k f within = absurd f
  ends (v ∷ w ∷ vs) [] k f within = absurd f
  ends (v ∷ w ∷ vs) (c ∷ cs) zero f within = refl
  ends (v ∷ w ∷ vs) (c ∷ cs) (suc k) f within = ap (λ n. len_after n (take k cs)) f.1 ∙ ends (w ∷ vs) cs k f.2 (omega arith)

  from_version : (vs : List V) (cs : List ChangeList) (i : ℕ) → Lead text vs cs → i < length vs → Lead text (drop i vs) (drop i cs)
  from_version [] cs i f within = absurd f
  from_version (v ∷ []) [] zero f within = f
  from_version (v ∷ []) [] (suc i) f within = absurd (omega arith)
  from_version (v ∷ []) (c ∷ cs) i f within = absurd f
  from_version (v ∷ w ∷ vs) [] i f within = absurd f
  from_version (v ∷ w ∷ vs) (c ∷ cs) zero f within = f
  from_version (v ∷ w ∷ vs) (c ∷ cs) (suc i) f within = from_version (w ∷ vs) cs i f.2 (omega arith)

  len-drop : (vs : List V) (i j : ℕ) → len_at (drop i vs) j ≡ len_at vs (i + j)
  len-drop [] zero j = refl
  len-drop [] (suc i) j = refl
  len-drop (v ∷ vs) zero j = let e : j ≡ zero + j = omega arith in ap (len_at (v ∷ vs)) e
  len-drop (v ∷ vs) (suc i) j = let e : suc (i + j) ≡ suc i + j = omega arith in len-drop vs i j ∙ ap (len_at (v ∷ vs)) e

  module _ (vs : List V) (cs : List ChangeList) (i j : ℕ) (f : Lead text vs cs) (order : i ≤ j) (there : j < length vs) (steps : List ChangeList) (are : steps ≡ slice_range cs i j) where
    between : AreLinkedFrom (len_at vs i) (slice_range cs i j)
    between =
        let P : ℕ → Type 0 = λ n. AreLinkedFrom n (slice_range cs i j) in
        let same : i + 0 ≡ i = omega arith in
        subst P (len-drop vs i 0 ∙ ap (len_at vs) same) (linked (drop i vs) (drop i cs) (j - i) (from_version vs cs i f (omega arith)))

    range_ends : len_after (len_at vs i) (slice_range cs i j) ≡ len_at vs j
    range_ends =
        let first : len_at (drop i vs) 0 ≡ len_at vs i = (let same : i + 0 ≡ i = omega arith in len-drop vs i 0 ∙ ap (len_at vs) same) in
        let last : len_at (drop i vs) (j - i) ≡ len_at vs j = (let same : i + (j - i) ≡ j = omega arith in len-drop vs i (j - i) ∙ ap (len_at vs) same) in
        let along : len_after (len_at (drop i vs) 0) (slice_range cs i j) ≡ len_at (drop i vs) (j - i) = ends (drop i vs) (drop i cs) (j - i) (from_version vs cs i f (omega arith)) (omega (arith, length-drop i vs)) in
        ap (λ n. len_after n (slice_range cs i j)) (sym first) ∙ along ∙ last

    pub range_linked : AreLinked steps
    range_linked = rw are (anyhow (len_at vs i) (slice_range cs i j) between)

    pub range_begins : (p : ℕ) → p ≤ length (text_at text vs i) → p ≤ len_before p steps
    range_begins p within = rw are (begins (len_at vs i) p (slice_range cs i j) between within)

    pub range_stops : (p : ℕ) → p ≤ length (text_at text vs j) → p ≤ len_after p steps
    range_stops p within = rw are (stops (len_at vs i) p (slice_range cs i j) (rw range_ends within))
