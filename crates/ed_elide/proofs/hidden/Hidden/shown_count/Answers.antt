use Rattle.std.proofs.Common.{◌≡◌, ℕ, zero, suc, Bool, true, false, true≢false, nat_eq, if◌then◌else◌, inl, inr, refl, ◌+◌, ◌-◌, ◌<◌, ◌≤◌, List, [], ◌∷◌, length, slice_index_or, nat_lt, ap, sym, ◌∙◌, arith}
use Rattle.std.proofs.lemmas.Bool.{cases_lt, lt-ltb, le-ltb, eqb-true}
use Rattle.std.proofs.lemmas.List.{nil_from_length}
use Rattle.ed_base.specs.declared.edit.Span.{Span}
use Rattle.ed_base.specs.Runs.{runs}
use Rattle.ed_base.specs.Spans.{end_of}
use Rattle.ed_layers.specs.Records.{is_shown}
use Rattle.ed_spans.specs.SpanSets.{AreApartFrom, gaps}
use Rattle.ed_spans.proofs.EndLemmas.{apart_at}
use Rattle.ed_spans.proofs.GapLemmas.{gaps_apart}
use Rattle.ed_elide.proofs.NearestLemmas.{one_if}
use Rattle.ed_elide.proofs.ShownLemmas.{few_apart, length_gaps, shown_runs}
use Rattle.ed_elide.proofs.hidden.Hidden.shown_count.Goals as goal
use Rattle.ed_elide.proofs.hidden.Hidden.shown_count.Goals.{After-runs-hidden}

abbrev no_span : Span
no_span = record { start = 0; len = 0 }

gaps_are : (c : After-runs-hidden) → length (gaps 0 (length c.args.self.now) c.runs-hidden.result.now) ≡ length (runs (is_shown c.args.self.now) (length c.args.self.now))
gaps_are c = ap length (sym (shown_runs (length c.args.self.now) c.runs-hidden.result.now c.runs-hidden.ensures.apart)) ∙ ap (λ fs. length (runs (is_shown fs) (length c.args.self.now))) c.runs-hidden.ensures.flags

few : (c : After-runs-hidden) → (length c.runs-hidden.result.now ≤ length c.args.self.now) × (length (gaps 0 (length c.args.self.now) c.runs-hidden.result.now) ≤ length c.args.self.now)
few c = (omega (arith, few_apart 0 (length c.args.self.now) c.runs-hidden.result.now c.runs-hidden.ensures.apart), omega (arith, few_apart 0 (length c.args.self.now) (gaps 0 (length c.args.self.now) c.runs-hidden.result.now) (gaps_apart 0 (length c.args.self.now) c.runs-hidden.result.now c.runs-hidden.ensures.apart)))

count : (n : ℕ) (ss : List Span) → 0 < length ss → AreApartFrom 0 n ss → length (gaps 0 n ss) ≡ one_if (nat_lt 0 (slice_index_or ss 0 no_span).start) + (length ss - 1) + one_if (nat_lt (end_of (slice_index_or ss (length ss - 1) no_span)) n)
count n [] some apart = absurd (omega arith)
count n (s ∷ ss) some apart = let k : suc (length ss) - 1 ≡ length ss = omega arith in rw k (length_gaps 0 n s no_span ss apart)

as_one : (b : Bool) → (if b then 1 else 0) ≡ one_if b
as_one true = refl
as_one false = refl

none : (n : ℕ) → length (gaps 0 n []) ≡ one_if (nat_lt 0 n)
none n = elim (cases_lt 0 n) [
  | inl some ↦ rw (lt-ltb 0 n some) refl
  | inr no_place ↦ rw (le-ltb 0 n no_place) refl
]

pub returns-then-is_empty : goal.returns-then-is_empty
returns-then-is_empty c =
    let empty : c.runs-hidden.result.now ≡ [] = nil_from_length c.runs-hidden.result.now (eqb-true (length c.runs-hidden.result.now) 0 (sym c.if-is_empty.ensures)) in
    c.one_if.ensures ∙ as_one (nat_lt 0 c.len-len.result) ∙ ap (λ n. one_if (nat_lt 0 n)) c.len-len.ensures ∙ sym (none (length c.args.self.now)) ∙ ap (λ ss. length (gaps 0 (length c.args.self.now) ss)) (sym empty) ∙ gaps_are (goal.at.returns-then-is_empty c).After-runs-hidden

some : (k : ℕ) → false ≡ nat_eq k 0 → 0 < k
some zero is = absurd (true≢false (sym is))
some (suc k) is = omega arith

pub overflow_cast-between : goal.overflow_cast-between
overflow_cast-between c = omega (arith, (few (goal.at.overflow_cast-between c).After-runs-hidden).0, c.len-len.ensures, c.len-len.type_inv)

pub overflow_add-last : goal.overflow_add-last
overflow_add-last c =
    omega (arith, (apart_at 0 (length c.args.self.now) (length c.runs-hidden.result.now - 1) c.runs-hidden.result.now no_span c.runs-hidden.ensures.apart (omega (arith, some (length c.runs-hidden.result.now) c.if-is_empty.ensures))).1, c.len-len.ensures, c.len-len.type_inv)

-- the sum that is answered
sum : (c : goal.After-one_if-behind) → length c.runs-hidden.result.now - 1 + c.one_if-before.result + c.one_if-behind.result ≡ length (gaps 0 (length c.args.self.now) c.runs-hidden.result.now)
sum c =
    let is = count (length c.args.self.now) c.runs-hidden.result.now (some (length c.runs-hidden.result.now) c.if-is_empty.ensures) c.runs-hidden.ensures.apart in
    let before : c.one_if-before.result ≡ one_if (nat_lt 0 (slice_index_or c.runs-hidden.result.now 0 no_span).start) = c.one_if-before.ensures ∙ as_one (nat_lt 0 (slice_index_or c.runs-hidden.result.now 0 no_span).start) in
    let behind : c.one_if-behind.result ≡ one_if (nat_lt (end_of (slice_index_or c.runs-hidden.result.now (length c.runs-hidden.result.now - 1) no_span)) (length c.args.self.now)) =
    c.one_if-behind.ensures ∙ as_one (nat_lt (end_of (slice_index_or c.runs-hidden.result.now (length c.runs-hidden.result.now - 1) no_span)) c.len-len.result) ∙ ap (λ n. one_if (nat_lt (end_of (slice_index_or c.runs-hidden.result.now (length c.runs-hidden.result.now - 1) no_span)) n)) c.len-len.ensures in
    omega (arith, is, before, behind)

pub overflow_add-result : goal.overflow_add-result
overflow_add-result c = omega (arith, sum c, (few (goal.at.overflow_add-result c).After-runs-hidden).1, c.len-len.ensures, c.len-len.type_inv)

pub overflow_add-result-2 : goal.overflow_add-result-2
overflow_add-result-2 c = omega (arith, sum c, (few (goal.at.overflow_add-result-2 c).After-runs-hidden).1, c.len-len.ensures, c.len-len.type_inv)

pub returns : goal.returns
returns c = sum c ∙ gaps_are (goal.at.returns c).After-runs-hidden
