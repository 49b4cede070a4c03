-- What a buffer's turn does, and what stays through many.
use Rattle.std.proofs.Common.{◌≡◌, ◌≢◌, ℕ, ◌<◌, true, false, List, [], ◌∷◌, map, fold, None, refl, sym, ap, ◌∙◌, subst, inl, inr, length-set}
use Rattle.std.specs.Prelude.{is_some}
use Rattle.std.specs.List.{AllByRecursion as Each, list_any}
use Rattle.std.proofs.lemmas.Bool.{cases_Bool, cases_eq}
use Rattle.ed_base.specs.Numbers.{is_among}
use Rattle.ed_layers.specs.Records.{Record, base, projection, elision, sources_of}
use Rattle.ed_layers.specs.CarrierStep.{all_stay}
use Rattle.ed_stock.specs.Stock.{count, now, record_at, record_now, sources_now, text_at, text_now}
use Rattle.ed_stock.specs.Versions.{Rising, at_now, is_moved, next_record, none_given, risen_at, step_in, with_record, with_version}
use Rattle.ed_risen.specs.Founded.{Extends, Founded}
use Rattle.ed_risen.specs.Growing.{Grows}
use Rattle.ed_risen.proofs.FoundedLemmas.{founded_in}
use Rattle.ed_risen.proofs.Growth.{grown_extends, grown_now_other, grown_record_now, grown_record_other, version_grows}
use Rattle.ed_risen.proofs.Lists.{among_itself, among_more, clash}
use Rattle.ed_risen.proofs.Texts.{same_text}

-- ---- what one buffer's turn does

-- the names of the sources stay
next_names : (r : Rising) (b : ℕ) (x : Record) → map (λ v. v.0) (sources_of (next_record r.stock b (step_in r.moves) None x)) ≡ map (λ v. v.0) (sources_of x)
next_names r b (base text reiterated) = refl
next_names r b (projection members sources) = names sources
  where
    names : (vs : List (ℕ × ℕ)) → map (λ v. v.0) (at_now r.stock vs) ≡ map (λ v. v.0) vs
    names [] = refl
    names (v ∷ vs) = ap (λ xs. v.0 ∷ xs) (names vs)
next_names r b (elision flags source version) = refl

pub record Turns (r u : Rising) (b : ℕ) : Type 0 where
  pub grows : Grows r.stock u.stock b (next_record r.stock b (step_in r.moves) None (record_now r.stock b))
  pub same_count : count u.stock ≡ count r.stock

record_turns : (r : Rising) (b : ℕ) (new : Record) → b < count r.stock → Grows r.stock (with_record r b all_stay new).stock b new × (count (with_record r b all_stay new).stock ≡ count r.stock)
unfolding with_record with_version
record_turns r b new there = (version_grows r.stock b new _ there, length-set r.stock.buffers b _)

pub turns : (r : Rising) (b : ℕ) → b < count r.stock → is_moved r b ≡ true → Turns r (risen_at none_given r b) b
turns r b there moved =
    let new : Record = next_record r.stock b (step_in r.moves) None (record_now r.stock b) in
    let e : risen_at none_given r b ≡ with_record r b all_stay new = rw moved refl in
    subst (λ u. Turns r u b) (sym e) (record { grows = (record_turns r b new there).0; same_count = (record_turns r b new there).1 })

pub rests : (r : Rising) (b : ℕ) → is_moved r b ≡ false → risen_at none_given r b ≡ r
rests r b still = rw still refl

-- ---- what stays

-- the buffer's version and text, the names of all sources, and how many buffers there are
record Stays (r u : Rising) (c : ℕ) : Type 0 where
  now_same : now u.stock c ≡ now r.stock c
  record_same : record_now u.stock c ≡ record_now r.stock c
  founded : Founded (record_at u.stock) 9 (c, now u.stock c)
  text_same : text_now u.stock c ≡ text_now r.stock c

pub record NamesStay (r u : Rising) : Type 0 where
  pub names : (c : ℕ) → sources_now u.stock c ≡ sources_now r.stock c
  pub same_count : count u.stock ≡ count r.stock

pub names_at : (r : Rising) (b : ℕ) → b < count r.stock → NamesStay r (risen_at none_given r b)
names_at r b there = elim (cases_Bool (is_moved r b)) [
  | inr still ↦ subst (NamesStay r) (sym (rests r b still)) (record { names = λ c. refl; same_count = refl })
  | inl moved ↦ (let t : Turns r (risen_at none_given r b) b = turns r b there moved in record {
    names = λ c. elim (cases_eq c b) [
      | inl e ↦ subst (λ x. sources_now (risen_at none_given r b).stock x ≡ sources_now r.stock x) (sym e) (ap (λ x. map (λ v. v.0) (sources_of x)) (grown_record_now r.stock (risen_at none_given r b).stock b _ t.grows) ∙ next_names r b (record_now r.stock b))
      | inr ne ↦ ap (λ x. map (λ v. v.0) (sources_of x)) (grown_record_other r.stock (risen_at none_given r b).stock b _ t.grows c ne)
    ];
    same_count = t.same_count;
  })
]

names_trans : (r u v : Rising) → NamesStay r u → NamesStay u v → NamesStay r v
names_trans r u v h k = record { names = λ c. k.names c ∙ h.names c; same_count = k.same_count ∙ h.same_count }

pub names_stay : (xs : List ℕ) (r : Rising) → Each (λ b. b < count r.stock) xs → NamesStay r (fold (risen_at none_given) r xs)
names_stay [] r all = record { names = λ c. refl; same_count = refl }
names_stay (x ∷ xs) r all =
    let first : NamesStay r (risen_at none_given r x) = names_at r x all.0 in
    names_trans r (risen_at none_given r x) (fold (risen_at none_given) r (x ∷ xs)) first (names_stay xs (risen_at none_given r x) (weaker xs all.1 first))
  where
    weaker : (ys : List ℕ) → Each (λ b. b < count r.stock) ys → NamesStay r (risen_at none_given r x) → Each (λ b. b < count (risen_at none_given r x).stock) ys
    weaker [] h n = tt
    weaker (y ∷ ys) h n = (subst (λ k. y < k) (sym n.same_count) h.0, weaker ys h.1 n)

-- a buffer whose turn doesn't come, or that stands on none
at_rest : (r : Rising) (b c : ℕ) → b < count r.stock → Founded (record_at r.stock) 9 (c, now r.stock c) → ((b ≡ c) → sources_now r.stock c ≡ []) → Stays r (risen_at none_given r b) c
at_rest r b c there founded alone = elim (cases_Bool (is_moved r b)) [
  | inr still ↦ subst (λ u. Stays r u c) (sym (rests r b still)) (record { now_same = refl; record_same = refl; founded = founded; text_same = refl })
  | inl moved ↦ elim (cases_eq c b) [
    | inl e ↦ absurd (never moved (ap (λ cs. list_any (λ source. is_some (step_in r.moves source)) cs) (subst (λ x. sources_now r.stock x ≡ []) e (alone (sym e)))))
    | inr ne ↦ other ne (turns r b there moved)
  ]
]
  where
    never : is_moved r b ≡ true → is_moved r b ≡ false → ⊥
    never t f = clash (is_moved r b) t f

    other : c ≢ b → Turns r (risen_at none_given r b) b → Stays r (risen_at none_given r b) c
    other ne t =
        let u : Rising = risen_at none_given r b in
        let extends : Extends (record_at r.stock) (record_at u.stock) = grown_extends r.stock u.stock b _ t.grows in
        let same : now u.stock c ≡ now r.stock c = grown_now_other r.stock u.stock b _ t.grows c ne in
        record {
          now_same = same;
          record_same = grown_record_other r.stock u.stock b _ t.grows c ne;
          founded = subst (λ v. Founded (record_at u.stock) 9 (c, v)) (sym same) (founded_in (record_at r.stock) (record_at u.stock) extends 9 (c, now r.stock c) founded);
          text_same = ap (text_at u.stock c) same ∙ same_text (record_at r.stock) (record_at u.stock) extends c (now r.stock c) founded;
        }

-- through many turns
pub text_stays : (xs : List ℕ) (r : Rising) (c : ℕ) → Each (λ b. b < count r.stock) xs → Founded (record_at r.stock) 9 (c, now r.stock c) → ((is_among c xs ≡ true) → sources_now r.stock c ≡ []) → text_now (fold (risen_at none_given) r xs).stock c ≡ text_now r.stock c
text_stays [] r c all founded alone = refl
text_stays (x ∷ xs) r c all founded alone =
    let u : Rising = risen_at none_given r x in
    let stays : Stays r u c = at_rest r x c all.0 founded (λ e. alone (subst (λ y. is_among c (y ∷ xs) ≡ true) (sym e) (here c xs))) in
    let names : NamesStay r u = names_at r x all.0 in
    text_stays xs u c (weaker xs all.1 names) stays.founded (λ i. names.names c ∙ alone (later i)) ∙ stays.text_same
  where
    here : (c : ℕ) (xs : List ℕ) → is_among c (c ∷ xs) ≡ true
    here c xs = among_itself c xs

    later : is_among c xs ≡ true → is_among c (x ∷ xs) ≡ true
    later i = among_more x c xs i

    weaker : (ys : List ℕ) → Each (λ b. b < count r.stock) ys → NamesStay r (risen_at none_given r x) → Each (λ b. b < count (risen_at none_given r x).stock) ys
    weaker [] h n = tt
    weaker (y ∷ ys) h n = (subst (λ k. y < k) (sym n.same_count) h.0, weaker ys h.1 n)

-- the number of buffers that there may be stays
most_at : (r : Rising) (b : ℕ) → (risen_at none_given r b).stock.most_buffers ≡ r.stock.most_buffers
unfolding with_record with_version
most_at r b = elim (cases_Bool (is_moved r b)) [
  | inl moved ↦ rw moved refl
  | inr still ↦ rw still refl
]

pub most_all : (xs : List ℕ) (r : Rising) → (fold (risen_at none_given) r xs).stock.most_buffers ≡ r.stock.most_buffers
most_all [] r = refl
most_all (x ∷ xs) r = most_all xs (risen_at none_given r x) ∙ most_at r x
