-- The text of a carrier with what arrived there: whole, and member by member.
use Rattle.std.proofs.Common.{◌≡◌, ℕ, ◌+◌, ◌<◌, ◌≤◌, Bool, true, false, ◌&&◌, ◌||◌, List, [], ◌∷◌, ◌++◌, length, map, take, Option, refl, sym, ap, ◌∙◌, arith, if◌then◌else◌, subst}
use Rattle.std.specs.Prelude.{nat_eq, nat_le, nat_lt, max, flat_map, sum_by}
use Rattle.std.specs.List.{enumerate_from, range_with_len, list_any}
use Rattle.std.proofs.lemmas.List.{map-append}
use Rattle.std.proofs.lemmas.Option.{slice_get_within}
use Rattle.ed_base.specs.declared.piece.Member.{Member}
use Rattle.ed_base.specs.declared.rule.CutRule.{CutRule}
use Rattle.ed_base.specs.Edit.{woven}
use Rattle.ed_base.proofs.NormalSteps.{woven_same}
use Rattle.ed_base.specs.Hooks.{CutRules}
use Rattle.ed_layers.specs.Records.{member_len}
use Rattle.ed_layers.specs.Pieces.{Component}
use Rattle.ed_layers.specs.Sending.{Target, targets, share}
use Rattle.ed_sending.proofs.Lists.SortedParts.{Each}
use Rattle.ed_sending.proofs.Texts.FullText.{Full, put_in}
use Rattle.ed_sending.proofs.Members.DealtPieces.{Dealt, RiseFrom, AreApartFrom, takes, put_whole, dealt_same, share_of}
use Rattle.ed_sending.proofs.Carriers.MemberChunks.{MembersRise, AreParts, IsInPart, joined, parts_woven, woven_by_parts}
use Rattle.ed_sending.proofs.Members.Shares.{CutsRise, shares_are}
use Rattle.ed_sending.proofs.Members.Targets.{lowest, rule_for, entry_of, dealt_of, IsTarget, TargetsFrom, all_targets, starts_rise, start_next}

abbrev pub starts_of : List Member → ℕ → ℕ
starts_of members k = sum_by member_len (take k members)

lowest_rise : (members : List Member) (c : Component) (i j : ℕ) → i ≤ j → lowest members c i ≤ lowest members c j
lowest_rise members c i j below = either (nat_eq c.old_len 0)
  where
    either : (b : Bool) → (if b then c.start else max (starts_of members i) c.start) ≤ (if b then c.start else max (starts_of members j) c.start)
    either true = omega arith
    either false = let r : starts_of members i ≤ starts_of members j = starts_rise members i j below in omega arith

module _ (members : List Member) (rule : Option CutRule) (c : Component) (n : ℕ) where
  abbrev entries_from : ℕ → List Target → List (ℕ × (ℕ × List Full))
  entries_from j ts = map (entry_of members rule c n) (enumerate_from j ts)

  rise_from : (p k j : ℕ) (ts : List Target) → TargetsFrom members c k ts → ((l : ℕ) → k ≤ l → c.start ≤ lowest members c l → p ≤ lowest members c l) → RiseFrom p (entries_from j ts)
  rise_from p k j [] a low = tt
  rise_from p k j (t ∷ ts) a low =
      (low t.member a.0 (let f : c.start ≤ a.1.at = a.1.first in subst (λ z. c.start ≤ z) a.1.at_is f), rise_from (lowest members c t.member) (t.member + 1) (j + 1) ts a.2 (λ l above first. lowest_rise members c t.member l (omega arith)))

  within_from : (k j : ℕ) (ts : List Target) → TargetsFrom members c k ts → Each (λ e. c.start < e.1.0 → e.1.0 < c.start + c.old_len) (entries_from j ts)
  within_from k j [] a = tt
  within_from k j (t ∷ ts) a = (subst (λ z. c.start < z → z < c.start + c.old_len) a.1.at_is a.1.behind, within_from (t.member + 1) (j + 1) ts a.2)

  members_rise : (k j : ℕ) (ts : List Target) → TargetsFrom members c k ts → MembersRise k (entries_from j ts)
  members_rise k j [] a = tt
  members_rise k j (t ∷ ts) a = (a.0, members_rise (t.member + 1) (j + 1) ts a.2)

  in_parts : (k j : ℕ) (ts : List Target) → TargetsFrom members c k ts → Each (IsInPart (starts_of members)) (entries_from j ts)
  in_parts k j [] a = tt
  in_parts k j (t ∷ ts) a =
      let x : IsTarget members c t = a.1 in
      let lo : x.start ≤ x.at = x.from in
      let hi : x.at + t.part.len ≤ x.start + t.bounds.len = x.to in
      let next : starts_of members (t.member + 1) ≡ starts_of members t.member + t.bounds.len = start_next members t.member (Member.Tracked t.source t.bounds x.mode) x.there in (
        (
          subst (λ z. starts_of members t.member ≤ z) x.at_is (subst (λ z. z ≤ x.at) x.start_is lo),
          subst (λ z. z ≤ starts_of members (t.member + 1)) x.at_is (let s : x.start ≡ starts_of members t.member = x.start_is in omega (arith, next)),
        ),
        in_parts (t.member + 1) (j + 1) ts a.2,
      )

  counted : (k j : ℕ) (ts : List Target) → TargetsFrom members c k ts → Each (λ e. e.0 < length members) (entries_from j ts)
  counted k j [] a = tt
  counted k j (t ∷ ts) a = (slice_get_within members t.member (Member.Tracked t.source t.bounds a.1.mode) a.1.there, counted (t.member + 1) (j + 1) ts a.2)

  shares_from : (j : ℕ) (ts : List Target) → flat_map share_of (entries_from j ts) ≡ map put_in (flat_map (share rule c.text n) (range_with_len j (length ts)))
  shares_from j [] = refl
  shares_from j (t ∷ ts) = ap (λ z. map put_in (share rule c.text n j) ++ z) (shares_from (j + 1) ts) ∙ sym (map-append put_in (share rule c.text n j) (flat_map (share rule c.text n) (range_with_len (j + 1) (length ts))))

-- ---- components

-- apart and by rising place
abbrev pub AreComponents : ℕ → List Component → Type 0
AreComponents p [] = Unit {0}
AreComponents p (c ∷ cs) = (p ≤ c.start) × AreComponents (c.start + c.old_len + 1) cs

-- what is put in, and what is gone
abbrev pub put_of : List Component → ℕ → List (ℕ × List (ℕ × ℕ))
put_of cs g = flat_map (λ c. if nat_eq c.start g then c.text else []) cs

abbrev pub taken_of : List Component → ℕ → Bool
taken_of cs q = list_any (λ c. nat_le c.start q && nat_lt q (c.start + c.old_len)) cs

-- the resolver's cuts of each component rise, and end with all
abbrev pub AllCutsRise : List Member → Option CutRules → List Component → Type 0
AllCutsRise members resolver cs = Each (λ c. CutsRise (rule_for resolver c) (length c.text) (length (targets members c))) cs

dealt_apart : (members : List Member) (resolver : Option CutRules) (p : ℕ) (cs : List Component) → AreComponents p cs → AreApartFrom p (map (dealt_of members resolver) cs)
dealt_apart members resolver p [] a = tt
dealt_apart members resolver p (c ∷ cs) a =
    let ts : List Target = targets members c in (
      a.0,
      record {
        rise = rise_from members (rule_for resolver c) c (length ts) c.start 0 0 ts (all_targets members c) (λ l above first. first);
        within = within_from members (rule_for resolver c) c (length ts) 0 0 ts (all_targets members c);
      },
      dealt_apart members resolver (c.start + c.old_len + 1) cs a.1,
    )

dealt_each : (members : List Member) (resolver : Option CutRules) (P : Dealt → Type 0) (cs : List Component) → ((c : Component) → P (dealt_of members resolver c)) → Each P (map (dealt_of members resolver) cs)
dealt_each members resolver P [] f = tt
dealt_each members resolver P (c ∷ cs) f = (f c, dealt_each members resolver P cs f)

dealt_takes : (members : List Member) (resolver : Option CutRules) (q : ℕ) (cs : List Component) → list_any (takes q) (map (dealt_of members resolver) cs) ≡ taken_of cs q
dealt_takes members resolver q [] = refl
dealt_takes members resolver q (c ∷ cs) = ap (λ z. (nat_le c.start q && nat_lt q (c.start + c.old_len)) || z) (dealt_takes members resolver q cs)

dealt_whole : (members : List Member) (resolver : Option CutRules) (g : ℕ) (cs : List Component) → AllCutsRise members resolver cs → flat_map (λ d. put_whole d g) (map (dealt_of members resolver) cs) ≡ map put_in (put_of cs g)
dealt_whole members resolver g [] a = refl
dealt_whole members resolver g (c ∷ cs) a =
    let ts : List Target = targets members c in
    let all : flat_map share_of (entries_from members (rule_for resolver c) c (length ts) 0 ts) ≡ map put_in c.text =
    shares_from members (rule_for resolver c) c (length ts) 0 ts ∙ ap (λ z. map put_in z) (shares_are (rule_for resolver c) c.text (length ts) a.0) in
    ap (λ z. (if nat_eq c.start g then flat_map share_of (entries_from members (rule_for resolver c) c (length ts) 0 ts) else []) ++ z) (dealt_whole members resolver g cs a.1)
    ∙ ap (λ z. (if nat_eq c.start g then z else []) ++ map put_in (put_of cs g)) all
    ∙ either (nat_eq c.start g)
  where
    either : (b : Bool) → (if b then map put_in c.text else []) ++ map put_in (put_of cs g) ≡ map put_in ((if b then c.text else []) ++ put_of cs g)
    either true = sym (map-append put_in c.text (put_of cs g))
    either false = refl

-- The text of a carrier with what arrived is what its members become, one by one. More than the components take may be gone.
pub carrier_by_parts : (members : List Member) (resolver : Option CutRules) (cs : List Component) (gone : ℕ → Bool) (chunks : List (List Full)) → AreComponents 0 cs → Each (λ c. c.start + c.old_len ≤ length (joined chunks)) cs → AllCutsRise members resolver cs → ((q : ℕ) → gone q ≡ false → taken_of cs q ≡ false) → AreParts (starts_of members) 0 chunks → length chunks ≡ length members →
    woven (λ g. map put_in (put_of cs g)) gone 0 (joined chunks) ≡ parts_woven (starts_of members) gone (map (dealt_of members resolver) cs) 0 chunks
carrier_by_parts members resolver cs gone chunks apart inside cuts goes parts count =
    let ds : List Dealt = map (dealt_of members resolver) cs in
    let a : AreApartFrom 0 ds = dealt_apart members resolver 0 cs apart in
    woven_same (λ g. map put_in (put_of cs g)) (λ g. flat_map (λ d. put_whole d g) ds) gone gone 0 (joined chunks) (λ q above. sym (dealt_whole members resolver q cs cuts)) (λ q above. refl)
    ∙ dealt_same ds gone (joined chunks) a (all_inside cs inside) (λ q e. dealt_takes members resolver q cs ∙ goes q e)
    ∙ woven_by_parts (starts_of members) refl (starts_rise members) gone ds a
    (dealt_each members resolver (λ d. MembersRise 0 d.entries) cs (λ c. members_rise members (rule_for resolver c) c (length (targets members c)) 0 0 (targets members c) (all_targets members c)))
    (dealt_each members resolver (λ d. Each (IsInPart (starts_of members)) d.entries) cs (λ c. in_parts members (rule_for resolver c) c (length (targets members c)) 0 0 (targets members c) (all_targets members c)))
    chunks parts
    (subst (λ n. Each (λ d. Each (λ e. e.0 < n) d.entries) ds) (sym count) (dealt_each members resolver (λ d. Each (λ e. e.0 < length members) d.entries) cs (λ c. counted members (rule_for resolver c) c (length (targets members c)) 0 0 (targets members c) (all_targets members c))))
  where
    all_inside : (cs : List Component) → Each (λ c. c.start + c.old_len ≤ length (joined chunks)) cs → Each (λ d. d.start + d.old_len ≤ length (joined chunks)) (map (dealt_of members resolver) cs)
    all_inside [] a = tt
    all_inside (c ∷ cs) a = (a.0, all_inside cs a.1)
