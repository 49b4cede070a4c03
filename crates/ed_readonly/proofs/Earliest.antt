-- The first denial of several regions.
use Rattle.std.proofs.Common.{◌≡◌, ℕ, suc, Bool, true, false, ◌&&◌, List, [], ◌∷◌, Option, Some, None, refl, ◌∙◌, ap, inl, inr, arith}
use Rattle.std.specs.Prelude.{nat_lt, option_map}
use Rattle.std.proofs.lemmas.Bool.{cases_Bool, cases_lt, lt-ltb, le-ltb}
use Rattle.ed_base.specs.declared.edit.Change.{Change}
use Rattle.ed_base.specs.Denial.{Region, denied_at, first_denied, forbids, query_lets}
use Rattle.ed_base.specs.Hooks.{HookTable}
use Rattle.ed_base.specs.Numbers.{or_else}
use Rattle.ed_readonly.specs.declared.regions.Denial.{Denial}
use Rattle.ed_readonly.specs.Denied.{denial, denial_by, earlier, first_denial, first_forbidden, taken_span}

-- one found before the others is the earliest of all
pub earlier_assoc : (a b c : Option Denial) → earlier (earlier a b) c ≡ earlier a (earlier b c)
earlier_assoc None b c = refl
earlier_assoc (Some a) None c = refl
earlier_assoc (Some a) (Some b) None = elim (cases_Bool (nat_lt b.index a.index)) [ inl t ↦ rw t refl | inr f ↦ rw f refl ]
earlier_assoc (Some a) (Some b) (Some c) =
    elim (cases_lt b.index a.index) [
      | inl l ↦ elim (cases_lt c.index b.index) [
        | inl m ↦ rw (lt-ltb b.index a.index l) (rw (lt-ltb c.index b.index m) (rw (lt-ltb c.index a.index (omega arith)) refl))
        | inr m ↦ rw (lt-ltb b.index a.index l) (rw (le-ltb c.index b.index m) (rw (lt-ltb b.index a.index l) refl))
      ]
      | inr g ↦ elim (cases_lt c.index b.index) [
        | inl m ↦ rw (le-ltb b.index a.index g) (rw (lt-ltb c.index b.index m) refl)
        | inr m ↦ rw (le-ltb b.index a.index g) (rw (le-ltb c.index b.index m) (rw (le-ltb c.index a.index (omega arith)) (rw (le-ltb b.index a.index g) refl)))
      ]
    ]

abbrev later : Denial → Denial
later d = record { index = suc d.index; region = d.region }

abbrev at_first : Option ℕ → Option Denial
at_first o = option_map (λ n. record { index = 0; region = n }) o

by_later : (hooks : HookTable) (version : ℕ) (c : Change) (cs : List Change) (r : Region) → (forbids r (taken_span c) && query_lets hooks r.query version true) ≡ false → denial_by hooks version (c ∷ cs) r ≡ option_map later (denial_by hooks version cs r)
by_later hooks version c cs r free_now = elim (cases_Bool (query_lets hooks r.query version true)) [
  | inl t ↦ (let free : forbids r (taken_span c) ≡ false = left_no (forbids r (taken_span c)) (query_lets hooks r.query version true) free_now t in
      rw t (rw free (twice (first_forbidden r cs))))
  | inr f ↦ rw f refl
]
  where
    left_no : (a b : Bool) → (a && b) ≡ false → b ≡ true → a ≡ false
    left_no true b h e = absurd (cc)
    left_no false b h e = refl

    twice : (o : Option ℕ) → option_map (denial r) (option_map suc o) ≡ option_map later (option_map (denial r) o)
    twice None = refl
    twice (Some i) = refl

by_now : (hooks : HookTable) (version : ℕ) (c : Change) (cs : List Change) (r : Region) → (forbids r (taken_span c) && query_lets hooks r.query version true) ≡ true → denial_by hooks version (c ∷ cs) r ≡ Some (record { index = 0; region = r.number })
by_now hooks version c cs r denied_now = elim (cases_Bool (query_lets hooks r.query version true)) [
  | inl t ↦ (let here : forbids r (taken_span c) ≡ true = left_yes (forbids r (taken_span c)) (query_lets hooks r.query version true) denied_now in rw t (rw here refl))
  | inr f ↦ absurd (let u : query_lets hooks r.query version true ≡ true = right_yes (forbids r (taken_span c)) (query_lets hooks r.query version true) denied_now in cc)
]
  where
    left_yes : (a b : Bool) → (a && b) ≡ true → a ≡ true
    left_yes true b h = refl
    left_yes false b h = absurd (cc)

    right_yes : (a b : Bool) → (a && b) ≡ true → b ≡ true
    right_yes true b h = h
    right_yes false b h = absurd (cc)

later_earlier : (a b : Option Denial) → earlier (option_map later a) (option_map later b) ≡ option_map later (earlier a b)
later_earlier None b = refl
later_earlier (Some a) None = refl
later_earlier (Some a) (Some b) = elim (cases_lt b.index a.index) [
  | inl l ↦ rw (lt-ltb (suc b.index) (suc a.index) (omega arith)) (rw (lt-ltb b.index a.index l) refl)
  | inr g ↦ rw (le-ltb (suc b.index) (suc a.index) (omega arith)) (rw (le-ltb b.index a.index g) refl)
]

now_first : (n : ℕ) (b : Option Denial) → earlier (Some (record { index = 0; region = n })) b ≡ Some (record { index = 0; region = n })
now_first n None = refl
now_first n (Some b) = rw (le-ltb b.index 0 (omega arith)) refl

later_now : (a : Option Denial) (n : ℕ) → earlier (option_map later a) (Some (record { index = 0; region = n })) ≡ Some (record { index = 0; region = n })
later_now None n = refl
later_now (Some a) n = rw (lt-ltb 0 (suc a.index) (omega arith)) refl

-- the first change is denied by the first region that does, or the first denial is one of the others
denial_step : (hooks : HookTable) (version : ℕ) (c : Change) (cs : List Change) (rs : List Region)
    → first_denial hooks version (c ∷ cs) rs ≡ elim (denied_at hooks rs version true (taken_span c)) [ Some n ↦ Some (record { index = 0; region = n }) | None ↦ option_map later (first_denial hooks version cs rs) ]
denial_step hooks version c cs [] = refl
denial_step hooks version c cs (r ∷ rs) = elim (cases_Bool (forbids r (taken_span c) && query_lets hooks r.query version true)) [
  | inl t ↦ rw t (ap (λ o. earlier o (first_denial hooks version (c ∷ cs) rs)) (by_now hooks version c cs r t) ∙ now_first r.number (first_denial hooks version (c ∷ cs) rs))
  | inr f ↦ rw f (ap (λ o. earlier o (first_denial hooks version (c ∷ cs) rs)) (by_later hooks version c cs r f)
      ∙ (ap (earlier (option_map later (denial_by hooks version cs r))) (denial_step hooks version c cs rs) ∙ others (denied_at hooks rs version true (taken_span c))))
]
  where
    others : (o : Option ℕ) → earlier (option_map later (denial_by hooks version cs r)) (elim o [ Some n ↦ Some (record { index = 0; region = n }) | None ↦ option_map later (first_denial hooks version cs rs) ])
        ≡ elim o [ Some n ↦ Some (record { index = 0; region = n }) | None ↦ option_map later (first_denial hooks version cs (r ∷ rs)) ]
    others None = later_earlier (denial_by hooks version cs r) (first_denial hooks version cs rs)
    others (Some n) = later_now (denial_by hooks version cs r) n

nothing : (hooks : HookTable) (version : ℕ) (rs : List Region) → first_denial hooks version [] rs ≡ None
nothing hooks version [] = refl
nothing hooks version (r ∷ rs) = elim (cases_Bool (query_lets hooks r.query version true)) [
  | inl t ↦ rw t (nothing hooks version rs)
  | inr f ↦ rw f (nothing hooks version rs)
]

pub denial_region : (hooks : HookTable) (version : ℕ) (cs : List Change) (rs : List Region) → option_map (λ d. d.region) (first_denial hooks version cs rs) ≡ first_denied hooks rs version cs
denial_region hooks version [] rs = ap (option_map (λ d. d.region)) (nothing hooks version rs)
denial_region hooks version (c ∷ cs) rs = ap (option_map (λ d. d.region)) (denial_step hooks version c cs rs) ∙ either (denial_region hooks version cs rs) (denied_at hooks rs version true (taken_span c))
  where
    same : (o : Option Denial) → option_map (λ d. d.region) (option_map later o) ≡ option_map (λ d. d.region) o
    same None = refl
    same (Some d) = refl

    either : option_map (λ d. d.region) (first_denial hooks version cs rs) ≡ first_denied hooks rs version cs → (o : Option ℕ) → option_map (λ d. d.region) (elim o [ Some n ↦ Some (record { index = 0; region = n }) | None ↦ option_map later (first_denial hooks version cs rs) ]) ≡ or_else o (first_denied hooks rs version cs)
    either rest None = same (first_denial hooks version cs rs) ∙ rest
    either rest (Some n) = refl
