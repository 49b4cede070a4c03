-- The targets of a component, and its text as it is dealt to them.
use Rattle.std.proofs.Common.{◌≡◌, ℕ, zero, suc, ◌+◌, ◌-◌, ◌<◌, ◌≤◌, Bool, true, false, ◌&&◌, List, [], ◌∷◌, length, map, take, Option, Some, None, inl, inr, refl, sym, ap, ◌∙◌, arith, if◌then◌else◌, subst}
use Rattle.std.specs.Prelude.{nat_eq, nat_le, nat_lt, max, min, slice_get, option_map, sum_by}
use Rattle.std.specs.Option.{option_map_or}
use Rattle.std.specs.List.{enumerate_from, filter_map, cons_option}
use Rattle.std.proofs.lemmas.List.Sums.{sum_by-cons}
use Rattle.std.proofs.lemmas.Bool.{cases_lt}
use Rattle.std.proofs.lemmas.Bool.Decides.{nat_tests}
use Rattle.ed_base.specs.declared.edit.Span.{Span}
use Rattle.ed_base.specs.declared.mode.SpanMode.{SpanMode}
use Rattle.ed_base.specs.declared.piece.Member.{Member}
use Rattle.ed_base.specs.declared.rule.CutRule.{CutRule}
use Rattle.ed_base.specs.Hooks.{CutRules}
use Rattle.ed_base.specs.Spans.{touches_gap, shares_unit}
use Rattle.ed_layers.specs.Records.{placement, member_len}
use Rattle.ed_layers.specs.Pieces.{Component}
use Rattle.ed_layers.specs.Sending.{Target, target_at, targets, share, range_of}
use Rattle.ed_sending.proofs.Texts.FullText.{Full, put_in}
use Rattle.ed_sending.proofs.Members.DealtPieces.{Dealt}

-- the gap of the carrier at which the share of a member goes
abbrev pub lowest : List Member → Component → ℕ → ℕ
lowest members c k = if nat_eq c.old_len 0 then c.start else max (sum_by member_len (take k members)) c.start

abbrev pub rule_for : Option CutRules → Component → Option CutRule
rule_for resolver c = option_map (λ r. if nat_eq c.old_len 0 then r.on_insert else r.on_replace) resolver

abbrev pub entry_of : List Member → Option CutRule → Component → ℕ → ℕ × Target → ℕ × (ℕ × List Full)
entry_of members rule c n it = (it.1.member, (lowest members c it.1.member, map put_in (share rule c.text n it.0)))

abbrev pub dealt_of : List Member → Option CutRules → Component → Dealt
dealt_of members resolver c = record { start = c.start; old_len = c.old_len; entries = map (entry_of members (rule_for resolver c) c (length (targets members c))) (enumerate_from 0 (targets members c)) }

-- what a target is: where its member starts, and the gap of the carrier at which its share goes
pub record IsTarget (members : List Member) (c : Component) (t : Target) : Type 0 where
  pub start : ℕ
  pub at : ℕ
  pub start_is : start ≡ sum_by member_len (take t.member members)
  pub at_is : at ≡ lowest members c t.member
  pub mode : SpanMode
  pub there : slice_get members t.member ≡ Some (Member.Tracked t.source t.bounds mode)
  pub from : start ≤ at
  pub to : at + t.part.len ≤ start + t.bounds.len
  pub part : t.part.start ≡ t.bounds.start + (at - start)
  pub first : c.start ≤ at
  pub behind : c.start < at → at < c.start + c.old_len
  pub covers : (q : ℕ) → start ≤ q → q < start + t.bounds.len → (nat_le at q && nat_lt q (at + t.part.len)) ≡ (nat_le c.start q && nat_lt q (c.start + c.old_len))

le_same : (i k q : ℕ) → (i ≤ q → k ≤ q) → (k ≤ q → i ≤ q) → nat_le i q ≡ nat_le k q
le_same i k q a b = elim (cases_lt q i) [
  | inl out ↦ (let f : nat_le i q ≡ false = grind (arith, nat_tests) in let g : nat_le k q ≡ false = (elim (cases_lt q k) [ inl o ↦ grind (arith, nat_tests) | inr n ↦ absurd (let z : i ≤ q = b n in omega arith) ]) in f ∙ sym g)
  | inr in_ ↦ (let f : nat_le i q ≡ true = grind (arith, nat_tests) in let z : k ≤ q = a in_ in let g : nat_le k q ≡ true = grind (arith, nat_tests) in f ∙ sym g)
]

lt_same : (q j l : ℕ) → (q < j → q < l) → (q < l → q < j) → nat_lt q j ≡ nat_lt q l
lt_same q j l a b = elim (cases_lt q j) [
  | inl in_ ↦ (let f : nat_lt q j ≡ true = grind (arith, nat_tests) in let z : q < l = a in_ in let g : nat_lt q l ≡ true = grind (arith, nat_tests) in f ∙ sym g)
  | inr out ↦ (let f : nat_lt q j ≡ false = grind (arith, nat_tests) in let g : nat_lt q l ≡ false = (elim (cases_lt q l) [ inl n ↦ absurd (let z : q < j = b n in omega arith) | inr o ↦ grind (arith, nat_tests) ]) in f ∙ sym g)
]

pub same_test : (i j k l q : ℕ) → (i ≤ q → k ≤ q) → (k ≤ q → i ≤ q) → (q < j → q < l) → (q < l → q < j) → (nat_le i q && nat_lt q j) ≡ (nat_le k q && nat_lt q l)
same_test i j k l q a b c d = ap (λ z. z && nat_lt q j) (le_same i k q a b) ∙ ap (λ z. nat_le k q && z) (lt_same q j l c d)

insert_target : (members : List Member) (c : Component) (k source a : ℕ) (bounds : Span) (mode : SpanMode) → slice_get members k ≡ Some (Member.Tracked source bounds mode) → a ≡ sum_by member_len (take k members) → nat_eq c.old_len 0 ≡ true → a ≤ c.start → c.start ≤ a + bounds.len → IsTarget members c (record { member = k; source = source; bounds = bounds; part = record { start = bounds.start + (c.start - a); len = c.old_len } })
insert_target members c k source a bounds mode here a_is e lo hi =
    let none : c.old_len ≡ 0 = grind (arith, nat_tests) in
    record {
      start = a;
      at = c.start;
      start_is = a_is;
      at_is = rw e refl;
      mode = mode;
      there = here;
      from = lo;
      to = omega arith;
      part = refl;
      first = omega arith;
      behind = λ l. absurd (omega arith);
      covers = λ q above below. refl;
    }

delete_target : (members : List Member) (c : Component) (k source a : ℕ) (bounds : Span) (mode : SpanMode) → slice_get members k ≡ Some (Member.Tracked source bounds mode) → a ≡ sum_by member_len (take k members) → nat_eq c.old_len 0 ≡ false → max a c.start < min (a + bounds.len) (c.start + c.old_len) → IsTarget members c (record { member = k; source = source; bounds = bounds; part = record { start = bounds.start + (max a c.start - a); len = min (a + bounds.len) (c.start + c.old_len) - max a c.start } })
delete_target members c k source a bounds mode here a_is e some =
    record {
      start = a;
      at = max a c.start;
      start_is = a_is;
      at_is = rw e (ap (λ z. max z c.start) a_is);
      mode = mode;
      there = here;
      from = omega arith;
      to = omega arith;
      part = refl;
      first = omega arith;
      behind = λ l. omega arith;
      covers = λ q above below. same_test (max a c.start) (max a c.start + (min (a + bounds.len) (c.start + c.old_len) - max a c.start)) c.start (c.start + c.old_len) q (λ l. omega arith) (λ l. omega arith) (λ l. omega arith) (λ l. omega arith);
    }

one_target : (members : List Member) (c : Component) (k source : ℕ) (bounds : Span) (mode : SpanMode) (t : Target) → slice_get members k ≡ Some (Member.Tracked source bounds mode) → target_at c (placement members k) (k, Member.Tracked source bounds mode) ≡ Some t → IsTarget members c t × (t.member ≡ k)
one_target members c k source bounds mode t here is = either (nat_eq c.old_len 0) refl
  where
    a : ℕ
    a = sum_by member_len (take k members)

    len_is : option_map_or member_len (slice_get members k) 0 ≡ bounds.len
    len_is = ap (λ (m : Option Member). option_map_or member_len m 0) here

    touch : nat_eq c.old_len 0 ≡ true → (b : Bool) → touches_gap (record { start = a; len = bounds.len }) c.start ≡ b → (if b then Some (record { member = k; source = source; bounds = bounds; part = record { start = bounds.start + (c.start - a); len = c.old_len } }) else None) ≡ Some t → IsTarget members c t × (t.member ≡ k)
    touch e true touches found =
        let same : record { member = k; source = source; bounds = bounds; part = record { start = bounds.start + (c.start - a); len = c.old_len } } ≡ t = cc in
        (subst (λ (z : Target). IsTarget members c z) same (insert_target members c k source a bounds mode here refl e (grind (arith, nat_tests)) (grind (arith, nat_tests))), ap (λ (z : Target). z.member) (sym same))
    touch e false touches found = absurd (let z : None ≡ Some t = found in cc)

    share_unit : nat_eq c.old_len 0 ≡ false → (b : Bool) → shares_unit (record { start = a; len = bounds.len }) (range_of c) ≡ b → (if b then Some (record { member = k; source = source; bounds = bounds; part = record { start = bounds.start + (max a c.start - a); len = min (a + bounds.len) (c.start + c.old_len) - max a c.start } }) else None) ≡ Some t → IsTarget members c t × (t.member ≡ k)
    share_unit e true shares found =
        let same : record { member = k; source = source; bounds = bounds; part = record { start = bounds.start + (max a c.start - a); len = min (a + bounds.len) (c.start + c.old_len) - max a c.start } } ≡ t = cc in
        (subst (λ (z : Target). IsTarget members c z) same (delete_target members c k source a bounds mode here refl e (grind (arith, nat_tests))), ap (λ (z : Target). z.member) (sym same))
    share_unit e false shares found = absurd (let z : None ≡ Some t = found in cc)

    full : target_at c (record { start = a; len = bounds.len }) (k, Member.Tracked source bounds mode) ≡ Some t
    full = ap (λ n. target_at c (record { start = a; len = n }) (k, Member.Tracked source bounds mode)) (sym len_is) ∙ is

    either : (b : Bool) → nat_eq c.old_len 0 ≡ b → IsTarget members c t × (t.member ≡ k)
    either true e = touch e (touches_gap (record { start = a; len = bounds.len }) c.start) refl (rw e at full)
    either false e = share_unit e (shares_unit (record { start = a; len = bounds.len }) (range_of c)) refl (rw e at full)

-- ---- all targets

abbrev pub TargetsFrom : List Member → Component → ℕ → List Target → Type 0
TargetsFrom members c k [] = Unit {0}
TargetsFrom members c k (t ∷ ts) = (k ≤ t.member) × IsTarget members c t × TargetsFrom members c (t.member + 1) ts

targets_lower : (members : List Member) (c : Component) (k l : ℕ) (ts : List Target) → k ≤ l → TargetsFrom members c l ts → TargetsFrom members c k ts
targets_lower members c k l [] below a = tt
targets_lower members c k l (t ∷ ts) below a = (omega (arith, a.0), a.1, a.2)

targets_of : (members : List Member) (c : Component) (k : ℕ) (rest : List Member) → ((d : ℕ) → slice_get rest d ≡ slice_get members (k + d)) → TargetsFrom members c k (filter_map (λ im. target_at c (placement members im.0) im) (enumerate_from k rest))
targets_of members c k [] same = tt
targets_of members c k (Member.Literal units ∷ rest) same =
    targets_lower members c k (k + 1) (filter_map (λ im. target_at c (placement members im.0) im) (enumerate_from (k + 1) rest)) (omega arith) (targets_of members c (k + 1) rest (λ d. same (suc d) ∙ ap (slice_get members) (let e : k + suc d ≡ (k + 1) + d = omega arith in e)))
targets_of members c k (Member.Tracked source bounds mode ∷ rest) same =
    either (target_at c (placement members k) (k, Member.Tracked source bounds mode)) refl (targets_of members c (k + 1) rest (λ d. same (suc d) ∙ ap (slice_get members) (let e : k + suc d ≡ (k + 1) + d = omega arith in e)))
  where
    here : slice_get members k ≡ Some (Member.Tracked source bounds mode)
    here = ap (slice_get members) (let e : k ≡ k + 0 = omega arith in e) ∙ sym (same 0)

    either : (o : Option Target) → target_at c (placement members k) (k, Member.Tracked source bounds mode) ≡ o → TargetsFrom members c (k + 1) (filter_map (λ im. target_at c (placement members im.0) im) (enumerate_from (k + 1) rest)) → TargetsFrom members c k (cons_option o (filter_map (λ im. target_at c (placement members im.0) im) (enumerate_from (k + 1) rest)))
    either None is a = targets_lower members c k (k + 1) (filter_map (λ im. target_at c (placement members im.0) im) (enumerate_from (k + 1) rest)) (omega arith) a
    either (Some t) is a =
        let x : IsTarget members c t × (t.member ≡ k) = one_target members c k source bounds mode t here is in
        (omega (arith, x.1), x.0, targets_lower members c (t.member + 1) (k + 1) (filter_map (λ im. target_at c (placement members im.0) im) (enumerate_from (k + 1) rest)) (omega (arith, x.1)) a)

pub all_targets : (members : List Member) (c : Component) → TargetsFrom members c 0 (targets members c)
all_targets members c = targets_of members c 0 members (λ d. ap (slice_get members) (let e : d ≡ 0 + d = omega arith in e))

-- where members start
pub starts_rise : (members : List Member) (i j : ℕ) → i ≤ j → sum_by member_len (take i members) ≤ sum_by member_len (take j members)
starts_rise members zero j below = omega arith
starts_rise [] (suc i) zero below = omega arith
starts_rise [] (suc i) (suc j) below = omega arith
starts_rise (m ∷ ms) (suc i) zero below = absurd (omega arith)
starts_rise (m ∷ ms) (suc i) (suc j) below = let r : sum_by member_len (take i ms) ≤ sum_by member_len (take j ms) = starts_rise ms i j (omega arith) in omega (arith, r, sum_by-cons member_len m (take i ms), sum_by-cons member_len m (take j ms))

pub start_next : (members : List Member) (k : ℕ) (m : Member) → slice_get members k ≡ Some m → sum_by member_len (take (k + 1) members) ≡ sum_by member_len (take k members) + member_len m
start_next [] k m is = cc
start_next (x ∷ xs) zero m is = let e : x ≡ m = cc in omega (arith, ap member_len e, sum_by-cons member_len x [])
start_next (x ∷ xs) (suc k) m is =
    let r : sum_by member_len (take (k + 1) xs) ≡ sum_by member_len (take k xs) + member_len m = start_next xs k m is in
    ap (λ n. sum_by member_len (take n (x ∷ xs))) (let e : suc k + 1 ≡ suc (k + 1) = omega arith in e) ∙ omega (arith, r, sum_by-cons member_len x (take (k + 1) xs), sum_by-cons member_len x (take k xs))
