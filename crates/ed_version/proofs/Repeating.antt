-- What versions repeat, after one more was put behind them.
use Rattle.std.proofs.Common.{◌≡◌, inl, inr, ℕ, Bool, true, false, ◌<◌, ◌≤◌, List, [], ◌∷◌, ◌++◌, length, refl, sym, ap, ◌∙◌, arith, length-append, subst}
use Rattle.std.specs.Prelude.{nat_lt, option_map, unwrap_or, Option}
use Rattle.std.proofs.lemmas.Bool.{ltb-true, ltb-false}
use Rattle.ed_version.specs.declared.chain.Version.{Version}
use Rattle.ed_version.specs.Chain.{version, text_at, reiterated_at, IsOriginal, MayRepeat, AreRepeating}
use Rattle.ed_version.proofs.Lookups.{get_kept, get_added}

module _ (versions : List Version) (t : List ℕ) (r : ℕ) where
  abbrev grown : List Version
  grown = versions ++ version t r ∷ []

  kept_text : (v : ℕ) → v < length versions → text_at grown v ≡ text_at versions v
  kept_text v within = ap (λ (o : Option Version). unwrap_or (option_map (λ x. x.text) o) []) (get_kept versions (version t r ∷ []) v within)

  kept_number : (v : ℕ) → v < length versions → reiterated_at grown v ≡ reiterated_at versions v
  kept_number v within = ap (λ (o : Option Version). unwrap_or (option_map (λ x. x.reiterated) o) v) (get_kept versions (version t r ∷ []) v within)

  new_text : text_at grown (length versions) ≡ t
  new_text = ap (λ (o : Option Version). unwrap_or (option_map (λ x. x.text) o) []) (get_added versions (version t r))

  new_number : reiterated_at grown (length versions) ≡ r
  new_number = ap (λ (o : Option Version). unwrap_or (option_map (λ x. x.reiterated) o) (length versions)) (get_added versions (version t r))

  original_kept : (text : List ℕ) (q : ℕ) → IsOriginal versions text q → IsOriginal grown text q
  original_kept text q o = (rw (length-append versions (version t r ∷ [])) (omega (arith, o.0)), kept_text q o.0 ∙ o.1, kept_number q o.0 ∙ o.2)

  older : AreRepeating versions → (v : ℕ) → v < length versions → (reiterated_at grown v ≤ v) × IsOriginal grown (text_at grown v) (reiterated_at grown v)
  older are v within = let a = are v within in rw (kept_text v within, kept_number v within) (a.0, original_kept (text_at versions v) (reiterated_at versions v) a.1)

  newest : MayRepeat versions t r → (reiterated_at grown (length versions) ≤ length versions) × IsOriginal grown (text_at grown (length versions)) (reiterated_at grown (length versions))
  newest (inl own) = rw (new_text, new_number) (omega arith, (rw (length-append versions (version t r ∷ [])) (omega arith), ap (text_at grown) own ∙ new_text, ap (reiterated_at grown) own ∙ new_number))
  newest (inr o) = rw (new_text, new_number) (omega (arith, o.0), original_kept t r o)

  by_place : AreRepeating versions → MayRepeat versions t r → (v : ℕ) → v < length grown → (b : Bool) → nat_lt v (length versions) ≡ b → (reiterated_at grown v ≤ v) × IsOriginal grown (text_at grown v) (reiterated_at grown v)
  by_place are may v within true below = older are v (ltb-true v (length versions) below)
  by_place are may v within false above =
      let e : v ≡ length versions = (let l = length-append versions (version t r ∷ []) in let a = ltb-false v (length versions) above in omega arith) in
      let P : ℕ → Type 0 = λ n. (reiterated_at grown n ≤ n) × IsOriginal grown (text_at grown n) (reiterated_at grown n) in
      subst P (sym e) (newest may)

  pub repeating_pushed : AreRepeating versions → MayRepeat versions t r → AreRepeating grown
  repeating_pushed are may v within = by_place are may v within (nat_lt v (length versions)) refl
