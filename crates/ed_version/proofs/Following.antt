-- Texts of which each change list leads to the next, after one more was put behind them.
use Rattle.std.proofs.Common.{◌≡◌, ℕ, suc, ◌-◌, List, [], ◌∷◌, ◌++◌, length, refl, sym, ap, ◌∙◌, arith}
use Rattle.std.proofs.lemmas.List.{map-append, length-map}
use Rattle.ed_base.specs.ChangeList.{ChangeList, AreNormalFrom, applied, new_len}
use Rattle.ed_change.proofs.Laws.{length_applied}
use Rattle.ed_version.specs.declared.chain.Version.{Version}
use Rattle.ed_version.specs.Chain.{texts, text_now, version}
use Rattle.ed_version.specs.Follows.{Follows}
use Rattle.ed_version.proofs.Lookups.{nth, text-nth}

-- the text of the last version
abbrev last : List (List ℕ) → List ℕ
last [] = []
last (t ∷ []) = t
last (t ∷ u ∷ ts) = last (u ∷ ts)

last-nth : (ts : List (List ℕ)) → nth ts (length ts - 1) ≡ last ts
last-nth [] = refl
last-nth (t ∷ []) = refl
last-nth (t ∷ u ∷ ts) = let e : length (t ∷ u ∷ ts) - 1 ≡ suc (length (u ∷ ts) - 1) = omega arith in rw e (last-nth (u ∷ ts))

last-now : (versions : List Version) → text_now versions ≡ last (texts versions)
last-now versions = text-nth versions (length versions - 1) ∙ ap (λ n. nth (texts versions) (n - 1)) (sym (length-map versions (λ (x : Version). x.text))) ∙ last-nth (texts versions)

pushed : (ts : List (List ℕ)) (changes : List ChangeList) (t : List ℕ) (c : ChangeList) → Follows ts changes → t ≡ applied c (last ts) → Follows (ts ++ t ∷ []) (changes ++ c ∷ [])
pushed [] changes t c f new = absurd f
pushed (s ∷ []) [] t c f new = (new, tt)
pushed (s ∷ []) (d ∷ cs) t c f new = absurd f
pushed (s ∷ u ∷ ts) [] t c f new = absurd f
pushed (s ∷ u ∷ ts) (d ∷ cs) t c f new = (f.0, pushed (u ∷ ts) cs t c f.1 new)

pub version_pushed : (versions : List Version) (changes : List ChangeList) (t : List ℕ) (r : ℕ) (c : ChangeList) → Follows (texts versions) changes → t ≡ applied c (text_now versions) → Follows (texts (versions ++ version t r ∷ [])) (changes ++ c ∷ [])
version_pushed versions changes t r c f new =
    rw (map-append (λ (x : Version). x.text) versions (version t r ∷ [])) (pushed (texts versions) changes t c f (new ∙ ap (applied c) (last-now versions)))

-- the changes lead to the length of the text that they make
pub applied_len : (c : ChangeList) (old new : List ℕ) → AreNormalFrom 0 c.old_len c.changes → c.old_len ≡ length old → new ≡ applied c old → new_len c ≡ length new
applied_len c old new normal from to = sym (ap length to ∙ length_applied c old (sym from) normal)
